-- The front of the log's disk, as it is read.
use Rattle.std.specs.Prelude.{IfSome, IfNone, not, nat_lt}
use Rattle.std.proofs.Common.{◌≡◌, ℕ, ◌≤◌, List, [], ◌∷◌, ◌++◌, Bool, true, false, IsTrue, Option, Some, None, refl, arith, sym, ◌∙◌}
use Rattle.std.proofs.lemmas.Bool.Decides.{nat_tests}
use Rattle.std.specs.List.{AllByRecursion}
use Rattle.log_mark.specs.declared.mark.LogMark.{LogMark}
use Rattle.log_mark.specs.Layout.{IsMark, spelling as mark_spelling}
use Rattle.log_scan.specs.Fronts.{AreFilled}

-- which files are empty

pub filled_by : (closed : Bool) (others : List ℕ) (last : ℕ) → AllByRecursion (λ count. 1 ≤ count) others → (closed ≡ true → 1 ≤ last) → AreFilled closed (others ++ last ∷ [])
filled_by closed [] last all end = (end, tt)
filled_by closed (x ∷ []) last all end = (all.0, (end, tt))
filled_by closed (x ∷ y ∷ others) last all end = (all.0, filled_by closed (y ∷ others) last all.1 end)

pub by_filled : (closed : Bool) (others : List ℕ) (last : ℕ) → AreFilled closed (others ++ last ∷ []) → AllByRecursion (λ count. 1 ≤ count) others × (closed ≡ true → 1 ≤ last)
by_filled closed [] last filled = (tt, filled.0)
by_filled closed (x ∷ []) last filled = ((filled.0, tt), filled.1.0)
by_filled closed (x ∷ y ∷ others) last filled = let rest = by_filled closed (y ∷ others) last filled.1 in ((filled.0, rest.0), rest.1)

pub not_shut : (closed : Bool) → closed ≡ false → closed ≡ true → 1 ≤ 0
not_shut true isnt is = cc isnt
not_shut false isnt is = cc is

pub opened : (closed : Bool) → closed ≡ false → IsTrue (not closed)
opened true isnt = cc isnt
opened false isnt = refl

pub some_by : (n : ℕ) → IsTrue (nat_lt 0 n) → 1 ≤ n
some_by n is = grind (arith, nat_tests)

pub by_some : (n : ℕ) → 1 ≤ n → IsTrue (nat_lt 0 n)
by_some n is = grind (arith, nat_tests)

-- the mark's record

pub if_some : {X : Type 0} (o : Option X) (P Q : X → Type 0) → ((x : X) → P x → Q x) → IfSome o P → IfSome o Q
if_some (Some x) P Q means is = means x is
if_some None P Q means is = tt

one_some : {X : Type 0} (a b : X) → Some a ≡ Some b → a ≡ b
one_some a b is = cc is

-- where no record is found, none in the grammar stands there
pub unread : (found : Option LogMark) (body : List ℕ) (stands : Option (List ℕ)) → stands ≡ Some body → ((named : LogMark) → IsMark named → body ≡ mark_spelling named → found ≡ Some named)
    → IfNone found ((named : LogMark) → IsMark named → stands ≡ Some (mark_spelling named) → ⊥)
unread (Some mark) body stands is only = tt
unread None body stands is only = λ named ok here. cc (only named ok (one_some body (mark_spelling named) (sym is ∙ here)))
