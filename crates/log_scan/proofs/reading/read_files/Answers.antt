use Rattle.std.proofs.Common.{◌≡◌, ◌+◌, ◌-◌, ◌≤◌, ℕ, List, length, take, drop, get_or, arith, ap, subst, ◌∙◌, refl}
use Rattle.std.proofs.lemmas.Result.{err_from_is_err_and}
use Rattle.site_disk.specs.CallsLaws.{unchanged_again, uses_again, uses_more}
use Rattle.log_mark.specs.declared.mark.LogMark.{LogMark}
use Rattle.log_files.specs.Files.{new_files, with_next}
use Rattle.log_files.specs.Held.{Tells}
use Rattle.log_scan.specs.Fronts.{first_at}
use Rattle.log_scan.specs.Slots.{StopsIn}
use Rattle.log_scan.specs.Filing.{HasTaken}
use Rattle.log_scan.proofs.ScanLemmas.{handed_on}
use Rattle.log_scan.proofs.PartwayLemmas.{IsPartway, total-take, total_more, later_lt, later_end, later_item, some_current, fit_next_file, first_next, id_next, room_next, next_partway, one_partway, has_files, past_stands, stopped}
use Rattle.log_scan.proofs.reading.read_files.Goals as goal

pub returns-in_err-take_records-clause-bad : goal.returns-in_err-take_records-clause-bad
returns-in_err-take_records-clause-bad g c tells counts_are number is =
    let mark = c.args.marked.now in
    let counts = c.args.counts.now in
    let bytes = g.D.Disk.bytes c.args.disk.now in
    let p = err_from_is_err_and c.from_residual.result c.from_residual.ensures.1 in
    let first : c.new-held.result.first ≡ first_at mark mark.oldest + 0 = omega (arith, c.new-held.ensures.first, ap (λ (k : ℕ). get_or mark.firsts k 0) c.place_of.ensures) in
    stopped g.D.Disk.is_modelled mark counts bytes c.requires.fits c.requires.names counts_are 0 number c.new-held.result.first c.new-held.result.mark.current (get_or counts 0 0)
    (omega (arith, c.requires.names.held, c.requires.fits.held)) refl (ap (λ (m : LogMark). m.current) c.new-held.ensures.mark) first
    (λ f s oldest before used. absurd (omega (arith, oldest, before)))
    (c.in_err-take_records.ensures.bad tells number (handed_on c.from_residual.result c.in_err-take_records.field-0.0 _ _ p.1 p.2 is))

pub loop-count-init : goal.loop-count-init
loop-count-init g c =
    let mark = c.args.marked.now in
    let counts = c.args.counts.now in
    let bytes = g.D.Disk.bytes c.args.disk.now in
    let call = c.in_ok-take_records.ensures in
    let some : 1 ≤ length counts = omega (arith, c.requires.names.held, c.requires.fits.held) in
    let told : Tells (new_files mark.oldest (first_at mark mark.oldest) mark.before) c.new-held.result =
    subst (λ (k : ℕ). Tells (new_files mark.oldest k mark.before) c.new-held.result) (ap (λ (k : ℕ). get_or mark.firsts k 0) c.place_of.ensures) c.new-held.ensures in record {
      part = one_partway g.D.Disk.is_modelled mark counts bytes c.requires.fits c.requires.names c.take_records.new.held (get_or counts 0 0) some refl
          (call.taken (new_files mark.oldest (first_at mark mark.oldest) mark.before) told);
      read = record {
        bytes = call.bytes;
        images = call.images;
        uses = uses_more call.ledger (omega (arith, total_more counts 0 some)) (omega arith);
      };
    }

pub open_next-requires-clause-some : goal.open_next-requires-clause-some
open_next-requires-clause-some g c =
    let was = c.loop-count.invariant.part in
    let counts = c.args.counts.now in
    let some = some_current g.D.Disk.is_modelled c.args.marked.now counts (g.D.Disk.bytes c.args.disk.now) c.requires.fits c.requires.names (c.loop-count.count-index + 1) c.loop-count.held was
    (later_lt counts c.loop-count.count-index c.loop-count-test.true) in
    omega (arith, was.told.first, was.told.next, some)

pub take_records-requires-in-loop-count-clause-held : goal.take_records-requires-in-loop-count-clause-held
take_records-requires-in-loop-count-clause-held g c =
    let was = c.loop-count.invariant.part in
    let counts = c.args.counts.now in record {
      files = with_next was.files;
      fits = fit_next_file g.D.Disk.is_modelled c.args.marked.now counts (g.D.Disk.bytes c.args.disk.now) c.requires.fits c.requires.names (c.loop-count.count-index + 1) c.loop-count.held was
          (later_lt counts c.loop-count.count-index c.loop-count-test.true);
      tells = c.open_next.ensures was.files was.told;
    }

pub take_records-requires-in-loop-count-clause-positions : goal.take_records-requires-in-loop-count-clause-positions
take_records-requires-in-loop-count-clause-positions g c =
    let was = c.loop-count.invariant.part in
    let counts = c.args.counts.now in
    let told = c.open_next.ensures was.files was.told in
    let room = room_next g.D.Disk.is_modelled c.args.marked.now counts (g.D.Disk.bytes c.args.disk.now) c.requires.fits c.requires.names (c.loop-count.count-index + 1) c.loop-count.held was
    (later_lt counts c.loop-count.count-index c.loop-count-test.true) in
    omega (arith, told.next, room, later_item counts c.loop-count.count-index)

pub returns-in_err-take_records-2-clause-bad : goal.returns-in_err-take_records-2-clause-bad
returns-in_err-take_records-2-clause-bad g c tells counts_are number is =
    let mark = c.args.marked.now in
    let counts = c.args.counts.now in
    let bytes = g.D.Disk.bytes c.args.disk.now in
    let was = c.loop-count.invariant.part in
    let held = c.loop-count.held in
    let modelled = g.D.Disk.is_modelled in
    let ok = c.requires.fits in
    let names = c.requires.names in
    let lt = later_lt counts c.loop-count.count-index c.loop-count-test.true in
    let told = c.open_next.ensures was.files was.told in
    let p = err_from_is_err_and c.from_residual-in_err-take_records-2.result c.from_residual-in_err-take_records-2.ensures.1 in
    let item = get_or (take (length counts - 1) (drop 1 counts)) c.loop-count.count-index 0 in
    stopped modelled mark counts bytes ok names counts_are (c.loop-count.count-index + 1) number c.open_next.new.self.first c.open_next.new.self.mark.current item lt
    (later_item counts c.loop-count.count-index)
    (ap (λ (m : LogMark). m.current) told.mark ∙ id_next modelled mark counts bytes ok names (c.loop-count.count-index + 1) held was lt)
    (told.first ∙ first_next modelled mark counts bytes ok names (c.loop-count.count-index + 1) held was lt)
    (past_stands modelled mark counts bytes ok names counts_are (c.loop-count.count-index + 1) held tells was (omega (arith, lt)))
    (subst (λ (b : List ℕ). StopsIn c.open_next.new.self.first c.open_next.new.self.mark.current item b number) c.loop-count.invariant.read.bytes
    (c.in_err-take_records-2.ensures.bad tells number (handed_on c.from_residual-in_err-take_records-2.result c.in_err-take_records-2.field-0.0 _ _ p.1 p.2 is)))

pub returns-in_err-take_records-2-clause-ledger : goal.returns-in_err-take_records-2-clause-ledger
returns-in_err-take_records-2-clause-ledger g c =
    let counts = c.args.counts.now in
    let i = c.loop-count.count-index in
    let lt = later_lt counts i c.loop-count-test.true in
    uses_again c.loop-count.invariant.read.uses c.in_err-take_records-2.ensures.ledger
    (omega (arith, total_more counts (i + 1) lt, total-take (i + 1 + 1) counts, later_item counts i))

pub loop-count-preserved : goal.loop-count-preserved
loop-count-preserved g c =
    let mark = c.args.marked.now in
    let counts = c.args.counts.now in
    let bytes = g.D.Disk.bytes c.args.disk.now in
    let was = c.loop-count.invariant.part in
    let read = c.loop-count.invariant.read in
    let i = c.loop-count.count-index in
    let lt = later_lt counts i c.loop-count-test.true in
    let told = c.open_next.ensures was.files was.told in
    let call = c.in_ok-take_records-2.ensures in record {
      part = next_partway g.D.Disk.is_modelled mark counts bytes c.requires.fits c.requires.names (i + 1) c.loop-count.held was lt c.take_records-in-loop-count.new.held
          (get_or (take (length counts - 1) (drop 1 counts)) i 0) (later_item counts i)
          (taken_on (call.taken (with_next was.files) told));
      read = record {
        bytes = call.bytes ∙ read.bytes;
        images = unchanged_again read.images call.images;
        uses = uses_again read.uses call.ledger (omega (arith, total_more counts (i + 1) lt, later_item counts i));
      };
    }
  where
    taken_on : HasTaken g.D.Disk.is_modelled (with_next c.loop-count.invariant.part.files) (get_or (take (length c.args.counts.now - 1) (drop 1 c.args.counts.now)) c.loop-count.count-index 0)
        (g.D.Disk.bytes c.loop-count.disk) c.take_records-in-loop-count.new.held
        → HasTaken g.D.Disk.is_modelled (with_next c.loop-count.invariant.part.files) (get_or (take (length c.args.counts.now - 1) (drop 1 c.args.counts.now)) c.loop-count.count-index 0)
        (g.D.Disk.bytes c.args.disk.now) c.take_records-in-loop-count.new.held
    taken_on taken =
        subst (λ (b : List ℕ). HasTaken g.D.Disk.is_modelled (with_next c.loop-count.invariant.part.files) (get_or (take (length c.args.counts.now - 1) (drop 1 c.args.counts.now)) c.loop-count.count-index 0)
        b c.take_records-in-loop-count.new.held) c.loop-count.invariant.read.bytes taken

pub returns-clause-files : goal.returns-clause-files
returns-clause-files g c =
    let mark = c.args.marked.now in
    let counts = c.args.counts.now in
    let bytes = g.D.Disk.bytes c.args.disk.now in
    let done : c.loop-count.count-index + 1 ≡ length counts =
    later_end counts c.loop-count.count-index (omega (arith, c.requires.names.held, c.requires.fits.held)) c.loop-count-test.false c.loop-count.auto.count-index-end in
    has_files g.D.Disk.is_modelled mark counts bytes c.requires.fits c.requires.names c.loop-count.held
    (subst (λ (n : ℕ). IsPartway g.D.Disk.is_modelled mark counts n bytes c.loop-count.held) done c.loop-count.invariant.part)
