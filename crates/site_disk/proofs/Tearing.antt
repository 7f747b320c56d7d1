-- What is left of a write that is put again in part.
use Rattle.std.proofs.Common.{◌≡◌, ◌≤◌, ◌+◌, ◌++◌, ℕ, List, length, take, drop, refl, ap, sym, subst, ◌∙◌, arith}
use Rattle.std.proofs.lemmas.List.{take_all}
use Rattle.std.proofs.lemmas.Slice.{put_mid-paste}
use Rattle.std.proofs.lemmas.Result.{on_ok_weaker}
use Rattle.std.specs.Prelude.{Result, OnOk}
use borrow.Rule.Slice.PartMut.{put_mid}
use Rattle.site_disk.specs.Bytes.{written, Torn}
use Rattle.site_disk.specs.BytesLaws.{torn_whole, torn_wider}

pub torn_by_write : {T E : Type 0} (r : Result T E) (at : ℕ) (part old new : List ℕ) → at ≤ length old → OnOk r (new ≡ written at part old) → OnOk r (Torn at (length part) old new)
torn_by_write r at part old new within wrote = on_ok_weaker r (λ e. subst (λ (l : List ℕ). Torn at (length part) old l) (sym e) (torn_whole at part old within)) wrote

pub torn_by_spoil : (at count len : ℕ) (old spoilt : List ℕ) → at + count ≤ length old → count ≤ len → length spoilt ≡ count → Torn at len old (put_mid at count old spoilt)
torn_by_spoil at count len old spoilt within le is =
    let as_written : put_mid at count old spoilt ≡ written at spoilt old
    = put_mid-paste at count old spoilt spoilt (length spoilt) refl is refl
    ∙ ap (λ (l : List ℕ). take at old ++ l ++ drop (at + length spoilt) old) (take_all (length spoilt) spoilt (omega arith)) in
    subst (λ (l : List ℕ). Torn at len old l) (sym as_written)
    (torn_wider at (length spoilt) at len old (written at spoilt old) (omega arith) (omega arith) (torn_whole at spoilt old (omega arith)))
