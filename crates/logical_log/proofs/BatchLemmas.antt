-- The bytes of records, one more at a time.
use Rattle.std.proofs.Common.{◌≡◌, ℕ, zero, suc, ◌+◌, ◌<◌, List, [], ◌∷◌, ◌++◌, length, map, take, get_or, arith, ap, sym, ◌∙◌}
use Rattle.std.specs.List.{AllByRecursion, flat_map}
use Rattle.std.proofs.lemmas.List.{take_more, map-append, append-nil}
use Rattle.std.proofs.lemmas.Grind.{flat_map-append}
use Rattle.log_record.specs.Entry.{entry_of, history_of}
use Rattle.log_record.specs.Layout.{spelling}
use Rattle.log_record.specs.declared.records.Record.{Record}

pub at_place : {A B : Type 0} (P : B → Type 0) (f : A → B) (xs : List A) (i : ℕ) (x : A) → AllByRecursion P (map f xs) → i < length xs → P (f (get_or xs i x))
at_place {A} {B} P f [] i x all lt = absurd (omega arith)
at_place {A} {B} P f (y ∷ ys) zero x all lt = all.0
at_place {A} {B} P f (y ∷ ys) (suc i) x all lt = at_place P f ys i x all.1 (omega arith)

-- the spelling of one record more
pub spelled_more : (batch : List Record) (i : ℕ) (entry : Record) → i < length batch → entry ≡ get_or batch i entry
    → flat_map spelling (history_of (take (i + 1) batch)) ≡ flat_map spelling (history_of (take i batch)) ++ spelling (entry_of entry)
spelled_more batch i r lt is =
    ap (λ (l : List Record). flat_map spelling (history_of l)) (take_more batch i r lt ∙ ap (λ (x : Record). take i batch ++ x ∷ []) (sym is))
    ∙ ap (flat_map spelling) (map-append entry_of (take i batch) (r ∷ []))
    ∙ flat_map-append spelling (history_of (take i batch)) (entry_of r ∷ [])
    ∙ ap (λ (l : List ℕ). flat_map spelling (history_of (take i batch)) ++ l) (append-nil (spelling (entry_of r)))
