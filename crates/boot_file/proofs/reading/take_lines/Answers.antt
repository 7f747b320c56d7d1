use Rattle.std.proofs.Common.{◌≡◌, ◌+◌, ◌*◌, ◌/◌, ◌≤◌, ℕ, List, length, take, length-take, ap, subst, sym, ◌∙◌, inl, inr, arith}
use Rattle.site_disk.specs.CallsLaws.{unchanged_again, uses_again}
use Rattle.backup_lines.specs.Lines.{Line}
use Rattle.boot_lines.specs.LineLayout.{lines_of}
use Rattle.boot_file.specs.Places.{Begins, StopsAt}
use Rattle.boot_file.proofs.ReadingLemmas.{read_none, all_counted, few_counted, all_begin, one_stops}
use Rattle.boot_file.proofs.reading.take_lines.Goals as goal

pub loop-read-init : goal.loop-read-init
loop-read-init g c = read_none c.args.disk.now (lines_of c.in_ok-lines.lines.items) c.requires.era (ap lines_of c.in_ok-lines.ensures.items)

pub loop-read-preserved : goal.loop-read-preserved
loop-read-preserved g c =
    let before = c.loop-read.invariant in
    let call = c.in_ok-take_next_run.ensures in
    let count = c.min-count.result in
    let at = c.loop-read.read in
    let file = g.D.Disk.bytes c.args.disk.now in
    let mid = g.D.Disk.bytes c.loop-read.disk in
    let old : List Line = lines_of c.loop-read.lines.items in
    let new : List Line = lines_of c.take_next_run.new.lines.items in
    let len = length (take (128 * count) c.loop-read.buffer) in
    let fits : at + count ≤ c.args.held = omega (arith, c.min-count.ensures, before.within) in
    let whole : len ≡ 128 * count = omega (arith, length-take (128 * count) c.loop-read.buffer, c.min-count.ensures) in
    let end : length new ≡ at + len / 128 = all_counted (at + len / 128) new c.in_ok-take_next_run.field-0 c.if-not-branch.false call.count in
    record {
      within = fits;
      count = omega (arith, end, whole);
      each = call.each;
      begins = λ tells long.
          let here : 73728 + 128 * at + len ≤ length mid = omega (arith, long, ap (λ (l : List ℕ). length l) before.content, fits, whole) in
          let was = subst (λ (l : List ℕ). Begins old l) (sym before.content) (before.begins tells long) in
          subst (λ (l : List ℕ). Begins new l) before.content
          (all_begin mid (at + len / 128) new c.in_ok-take_next_run.field-0 c.if-not-branch.false (call.taken tells here was));
      content = call.bytes ∙ before.content;
      images = unchanged_again before.images call.images;
      uses = uses_again before.uses call.ledger (omega (arith, whole));
    }

pub returns-then-not-branch-clause-taken : goal.returns-then-not-branch-clause-taken
returns-then-not-branch-clause-taken g c tells long =
    let before = c.loop-read.invariant in
    let call = c.in_ok-take_next_run.ensures in
    let count = c.min-count.result in
    let at = c.loop-read.read in
    let mid = g.D.Disk.bytes c.loop-read.disk in
    let old : List Line = lines_of c.loop-read.lines.items in
    let new : List Line = lines_of c.take_next_run.new.lines.items in
    let len = length (take (128 * count) c.loop-read.buffer) in
    let fits : at + count ≤ c.args.held = omega (arith, c.min-count.ensures, before.within) in
    let whole : len ≡ 128 * count = omega (arith, length-take (128 * count) c.loop-read.buffer, c.min-count.ensures) in
    let here : 73728 + 128 * at + len ≤ length mid = omega (arith, long, ap (λ (l : List ℕ). length l) before.content, fits, whole) in
    let was = subst (λ (l : List ℕ). Begins old l) (sym before.content) (before.begins tells long) in
    let stops = one_stops mid (at + len / 128) new c.in_ok-take_next_run.field-0 c.if-not-branch.true (call.taken tells here was) in
    let fewer = few_counted (at + len / 128) new c.in_ok-take_next_run.field-0 c.if-not-branch.true call.count in
    inr (subst (λ (l : List ℕ). StopsAt new l) before.content stops, omega (arith, fewer, fits, whole))

pub returns-then-not-branch-clause-few : goal.returns-then-not-branch-clause-few
returns-then-not-branch-clause-few g c =
    let before = c.loop-read.invariant in
    let count = c.min-count.result in
    let at = c.loop-read.read in
    let len = length (take (128 * count) c.loop-read.buffer) in
    let fits : at + count ≤ c.args.held = omega (arith, c.min-count.ensures, before.within) in
    let whole : len ≡ 128 * count = omega (arith, length-take (128 * count) c.loop-read.buffer, c.min-count.ensures) in
    omega (arith, few_counted (at + len / 128) (lines_of c.take_next_run.new.lines.items) c.in_ok-take_next_run.field-0 c.if-not-branch.true c.in_ok-take_next_run.ensures.count, fits, whole)

pub returns-clause-taken : goal.returns-clause-taken
returns-clause-taken g c tells long =
    inl (c.loop-read.invariant.begins tells long, omega (arith, c.loop-read.invariant.count, c.loop-read.invariant.within, c.loop-read-test.false))
