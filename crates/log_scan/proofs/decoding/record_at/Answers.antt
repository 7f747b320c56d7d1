use Rattle.std.specs.Prelude.{IfSome, IfNone}
use Rattle.std.proofs.Common.{◌≡◌, ℕ, List, subst}
use Rattle.log_history.specs.History.{LogEntry}
use Rattle.log_record.specs.Entry.{entry_of}
use Rattle.log_record.specs.Layout.{IsRecord, spelling}
use Rattle.log_scan.specs.Slots.{MayStand}
use Rattle.log_scan.proofs.SlotLemmas.{short_slot}
use Rattle.log_scan.proofs.decoding.record_at.Goals as goal

pub returns-in_err-page-clause-none : goal.returns-in_err-page-clause-none
returns-in_err-page-clause-none c =
    rw c.from_residual.ensures (λ entry ok may spelled. short_slot c.args.bytes.now c.args.slot entry c.in_err-page.ensures.none ok spelled)

pub returns-clause-found : goal.returns-clause-found
returns-clause-found c =
    subst (λ (l : List ℕ). IfSome c.record_in.result (λ r. IsRecord (entry_of r) × MayStand c.args.first c.args.slot (entry_of r) × (l ≡ spelling (entry_of r)))) c.in_ok-page.ensures.found c.record_in.ensures.found

pub returns-clause-none : goal.returns-clause-none
returns-clause-none c =
    subst (λ (l : List ℕ). IfNone c.record_in.result ((entry : LogEntry) → IsRecord entry → MayStand c.args.first c.args.slot entry → l ≡ spelling entry → ⊥)) c.in_ok-page.ensures.found c.record_in.ensures.none
