use Rattle.std.proofs.Common.{◌≡◌, ◌≢◌, ℕ, ◌+◌, ◌*◌, ◌++◌, List, length, drop, refl, arith, ap, sym, ◌∙◌, subst}
use Rattle.site_disk.specs.Bytes.{extent}
use Rattle.site_disk.specs.CallsLaws.{unchanged_again, uses_again}
use Rattle.sha2.specs.Hashers.{Holds256}
use Rattle.sha2.specs.Sha256.{sha256}
use Rattle.block_chain.specs.Blocks.{blocks_of_runs}
use Rattle.object_volume.specs.declared.faults.Soundness.{Soundness}
use Rattle.object_volume.specs.declared.faults.Soundness.TheVariants.{Sound, Damaged, Short}
use Rattle.object_volume.specs.Answers.{Judges, IsVerdict}
use Rattle.object_volume.specs.Objects.{places, object}
use Rattle.object_volume.proofs.ReadingLemmas.{run_places, nothing_left, nothing_more}
use Rattle.object_volume.proofs.CheckingLemmas.{front_more, front_short, front_all}
use Rattle.object_volume.proofs.checking.check_object.Goals as goal

pub returns-then-not-whole-clause-judged : goal.returns-then-not-whole-clause-judged
returns-then-not-whole-clause-judged g c tells =
    let so_far = c.loop-run.invariant in
    let runs = c.args.runs.now in
    let index = c.loop-run.run-index in
    let file = g.D.Disk.bytes c.args.disk.now in
    let next = run_places runs index c.place_of.result c.from.result (record { first = 0; count = 0 }) c.loop-run-test.true c.place_of.ensures c.from.ensures in
    front_short file runs c.args.size index c.loop-run.left c.place_of.result (4096 * c.from.result) c.min-n.result (places (blocks_of_runs (drop (index + 1) runs)))
    c.loop-run.hasher (so_far.hashed tells) next c.min-n.ensures
    (λ whole. absurd (cc (c.if-not-whole.true, (c.in_ok-whole.ensures.whole tells).1 (ap (λ (l : List ℕ). length (extent c.place_of.result c.min-n.result l)) so_far.content ∙ whole))))

pub loop-run-preserved : goal.loop-run-preserved
loop-run-preserved g c =
    let so_far = c.loop-run.invariant in
    let read = c.in_ok-whole.ensures in
    let runs = c.args.runs.now in
    let index = c.loop-run.run-index in
    let n = c.min-n.result in
    let file = g.D.Disk.bytes c.args.disk.now in
    let next = run_places runs index c.place_of.result c.from.result (record { first = 0; count = 0 }) c.loop-run-test.true c.place_of.ensures c.from.ensures in
    record {
      within = omega (arith, so_far.within);
      hashed = λ tells.
          let front = so_far.hashed tells in
          let whole : length (extent c.place_of.result n file) ≡ n =
          ap (λ (l : List ℕ). length (extent c.place_of.result n l)) (sym so_far.content) ∙ (read.whole tells).0 c.if-not-whole.false in
          front_more file runs c.args.size index c.loop-run.left c.place_of.result (4096 * c.from.result) n (places (blocks_of_runs (drop (index + 1) runs)))
          c.loop-run.hasher front next c.min-n.ensures c.hash_range.new.hasher refl whole
          (subst (λ (l : List ℕ). Holds256 c.hash_range.new.hasher (front.front ++ extent c.place_of.result n l)) so_far.content
          (read.hashed tells c.if-not-whole.false front.front front.holds));
      content = read.bytes ∙ so_far.content;
      images = unchanged_again so_far.images read.images;
      uses = uses_again so_far.uses read.ledger (omega (arith, so_far.within));
    }

pub returns-then-left-gt0-clause-judged : goal.returns-then-left-gt0-clause-judged
returns-then-left-gt0-clause-judged g c tells =
    let so_far = c.loop-run.invariant in
    let front = so_far.hashed tells in
    let runs = c.args.runs.now in
    let file = g.D.Disk.bytes c.args.disk.now in
    let none = nothing_left file c.loop-run.left 0 c.loop-run.run-index runs (omega (arith, c.loop-run-test.false)) in
    let all = front_all file runs c.args.size c.loop-run.run-index c.loop-run.left c.loop-run.hasher front none in
    omega (arith, ap length all, front.long, c.if-left-gt0.true)

-- what is said of the object by its bytes
judged : (bytes : List ℕ) (size : ℕ) (digest found : List ℕ) (said : Soundness) → length bytes ≡ size → found ≡ sha256 bytes → IsVerdict found digest said → Judges bytes size digest said
judged bytes size digest found Sound whole is verdict = (whole, sym is ∙ verdict)
judged bytes size digest found (Damaged named) whole is verdict = (whole, sym (verdict.0 ∙ is), subst (λ (l : List ℕ). l ≢ digest) (sym verdict.0) verdict.1)
judged bytes size digest found Short whole is verdict = absurd verdict

pub returns-clause-judged : goal.returns-clause-judged
returns-clause-judged g c tells =
    let so_far = c.loop-run.invariant in
    let front = so_far.hashed tells in
    let runs = c.args.runs.now in
    let file = g.D.Disk.bytes c.args.disk.now in
    let done : c.loop-run.left ≡ 0 = omega (arith, c.if-left-gt0.false) in
    let none = nothing_more file c.loop-run.left (places (blocks_of_runs (drop c.loop-run.run-index runs))) done in
    let all = front_all file runs c.args.size c.loop-run.run-index c.loop-run.left c.loop-run.hasher front none in
    judged (object runs c.args.size file) c.args.size c.args.digest.now c.finalize.result c.verdict.result
    (ap length all ∙ omega (arith, front.long, done)) (c.finalize.ensures front.front front.holds ∙ ap sha256 (sym all)) c.verdict.ensures.verdict
