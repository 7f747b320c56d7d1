-- The changes of a transaction once their Commit is known.
use Rattle.std.proofs.Common.{◌≡◌, ℕ, zero, suc, ◌<◌, List, [], ◌∷◌, length, map, set, get_or, refl, ap, arith}
use Rattle.std.specs.List.{All}
use Rattle.std.proofs.lemmas.List.Elements.{All-head, All-tail}
use Rattle.log_history.specs.History.{Patch}
use Rattle.log_history.specs.Effects.{change_by}
use Rattle.txn_table.specs.declared.changes.Change.{Change as Brought}
use Rattle.txn_table.specs.Table.{patch_of, change_of}

abbrev pub IsBroughtBy : ℕ → Brought → Type 0
IsBroughtBy commit change = change.commit ≡ commit

pub patches-set : (changes : List Brought) (i : ℕ) (new d : Brought) → i < length changes → patch_of new ≡ patch_of (get_or changes i d)
    → map patch_of (set changes i new) ≡ map patch_of changes
patches-set [] i new d below same = refl
patches-set (c ∷ cs) zero new d below same = ap (λ (p : Patch). p ∷ map patch_of cs) same
patches-set (c ∷ cs) (suc i) new d below same = ap (λ (ps : List Patch). patch_of c ∷ ps) (patches-set cs i new d (omega arith) same)

pub changes-brought : (commit : ℕ) (changes : List Brought) → All (IsBroughtBy commit) changes → map change_of changes ≡ map (change_by commit) (map patch_of changes)
changes-brought commit [] all = refl
changes-brought commit (c ∷ cs) all =
    let head : c.commit ≡ commit = All-head (IsBroughtBy commit) c cs all in
    let first : change_of c ≡ change_by commit (patch_of c) = ap (λ (n : ℕ). change_by n (patch_of c)) head in
    let rest : map change_of cs ≡ map (change_by commit) (map patch_of cs) = changes-brought commit cs (All-tail (IsBroughtBy commit) c cs all) in
    rw (first, rest) refl
