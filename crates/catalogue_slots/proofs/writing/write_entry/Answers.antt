use Rattle.std.proofs.Common.{◌≡◌, ℕ, ◌+◌, ◌*◌, ◌≤◌, List, ◌++◌, length, take, drop, ap, ◌∙◌, arith}
use Rattle.std.proofs.lemmas.Slice.{take-put_mid, drop-put_mid}
use borrow.Rule.Slice.PartMut.{put_mid}
use Rattle.catalogue_slots.specs.Records.{slots_for}
use Rattle.catalogue_slots.proofs.writing.write_entry.Goals as goal

-- bytes written over a part, which they fill
put_slots : (at k n : ℕ) (old new own : List ℕ) → k ≡ n → at + n ≤ length old → length new ≡ k → new ≡ own
    → (take (at + n) (put_mid at k old new) ≡ take at old ++ own) × (drop (at + n) (put_mid at k old new) ≡ drop (at + n) old)
put_slots at k n old new own is within fills written = (
  take-put_mid at k old new (at + n) (omega arith) (omega arith) ∙ ap (λ (l : List ℕ). take at old ++ l) written,
  drop-put_mid at k old new (at + n) (omega arith) (omega arith) fills,
)

pub returns-clause-written : goal.returns-clause-written
returns-clause-written c =
    (put_slots c.args.at _ (4096 * slots_for (length c.args.entry.now.runs.items)) c.args.into.now c.write_slots.new.into _ (omega arith) c.requires.place (omega arith) c.write_slots.ensures.written).0

pub returns-clause-behind : goal.returns-clause-behind
returns-clause-behind c =
    (put_slots c.args.at _ (4096 * slots_for (length c.args.entry.now.runs.items)) c.args.into.now c.write_slots.new.into _ (omega arith) c.requires.place (omega arith) c.write_slots.ensures.written).1
