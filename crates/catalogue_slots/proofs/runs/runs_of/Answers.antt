use Rattle.std.proofs.Common.{◌≡◌, ℕ, ◌+◌, ◌*◌, ◌^◌, ◌<◌, ◌≤◌, ◌≢◌, List, ◌++◌, [], ◌∷◌, subst, arith}
use Rattle.block_chain.specs.Blocks.{AreMaximal, FitsRun}
use Rattle.block_chain.specs.declared.runs.Run.{Run}
use Rattle.byte_fields.specs.Fields.{field}
use Rattle.catalogue_slots.specs.Parts.{BeginsWithRuns}
use Rattle.catalogue_slots.specs.Layout.{run_bytes}
use Rattle.catalogue_slots.proofs.RunLemmas.{EndsAt-nil, EndsAt-push, BeginsWithRuns-nil, BeginsWithRuns-push, BeginsWithRuns-once, next_run}
use Rattle.catalogue_slots.proofs.runs.runs_of.Invariants.{HasRead}
use Rattle.catalogue_slots.proofs.runs.runs_of.Goals as goal

HasRead-nil : (bytes : List ℕ) (end : ℕ) → 2 ^ 32 ≤ end → HasRead bytes 0 [] end
HasRead-nil bytes end far = record { begins = BeginsWithRuns-nil bytes; ends = EndsAt-nil end far }

HasRead-push : (bytes : List ℕ) (i : ℕ) (runs : List Run) (end : ℕ) (run : Run) (next : ℕ) → HasRead bytes i runs end
    → FitsRun run → field (8 * i) 8 bytes ≡ run_bytes run → (0 < run.count) × (run.first ≢ end) → next ≡ run.first + run.count
    → HasRead bytes (i + 1) (runs ++ run ∷ []) next
HasRead-push bytes i runs end run next read fits found parts is =
    let are : AreMaximal (runs ++ run ∷ []) = read.ends.may_follow run fits.first parts in
    record { begins = BeginsWithRuns-push bytes i runs run read.begins fits found are; ends = EndsAt-push runs run next is are }

pub loop-i-init : goal.loop-i-init
loop-i-init c = rw c.new-runs.ensures.items (HasRead-nil c.args.bytes.now 18446744073709551615 (omega arith))

pub returns-then-not-is_next-clause-only : goal.returns-then-not-is_next-clause-only
returns-then-not-is_next-clause-only c runs begins =
    let next = next_run c.args.bytes.now c.loop-i.i c.args.count c.loop-i.runs.items c.run_at-run.result runs c.loop-i-test.true
    c.loop-i.invariant.begins c.run_at-run.ensures.fits c.run_at-run.ensures.found begins in
    let parts = c.loop-i.invariant.ends.follows c.run_at-run.result c.run_at-run.ensures.fits.first next in
    cc (c.is_next.ensures.1 parts, c.if-not-is_next.true)

pub loop-i-preserved : goal.loop-i-preserved
loop-i-preserved c =
    rw c.in_ok-push.ensures.items (HasRead-push c.args.bytes.now c.loop-i.i c.loop-i.runs.items c.loop-i.end c.run_at-run.result
    (c.from.result + c.from-in-loop-i.result) c.loop-i.invariant c.run_at-run.ensures.fits c.run_at-run.ensures.found
    (c.is_next.ensures.0 c.if-not-is_next.false) (omega (arith, c.from.ensures, c.from-in-loop-i.ensures)))

pub returns-clause-only : goal.returns-clause-only
returns-clause-only c runs begins =
    BeginsWithRuns-once c.args.bytes.now c.args.count c.loop-i.runs.items runs
    (subst (λ (n : ℕ). BeginsWithRuns c.args.bytes.now n c.loop-i.runs.items) (omega arith) c.loop-i.invariant.begins) begins
