-- Laws of filters, and of changes in the order of their commits.
use Rattle.std.specs.Prelude.{◌≡◌, ℕ, suc, ◌+◌, ◌<◌, ◌≤◌, ◌&&◌, ◌==◌, List, [], ◌∷◌, ◌++◌, length, filter, fold, Bool, true, false, nat_le, nat_lt, if◌then◌else◌}
use Rattle.std.specs.List.{AllByRecursion}
use Rattle.std.proofs.Common.{arith, refl, sym, ap, ◌∙◌}
use Rattle.std.proofs.lemmas.Bool.Decides.{nat_tests}
use Rattle.log_history.specs.Effects.{Change, Page, with_change}
use Rattle.lane_ways.specs.Ways.{changes_behind, changes_up_to, count_of, count_of_first}

-- filters

pub filter_and : {X : Type 0} (p q : X → Bool) (xs : List X) → filter q (filter p xs) ≡ filter (λ x. p x && q x) xs
filter_and p q [] = refl
filter_and {X} p q (x ∷ xs) = by (p x) (filter_and p q xs)
  where
    by : (b : Bool) → filter q (filter p xs) ≡ filter (λ y. p y && q y) xs
        → filter q (if b then x ∷ filter p xs else filter p xs) ≡ (if b && q x then x ∷ filter (λ y. p y && q y) xs else filter (λ y. p y && q y) xs)
    by true rest = ap (λ (l : List X). if q x then x ∷ l else l) rest
    by false rest = rest

-- one filter behind another is that behind the one
pub filter_swap : {X : Type 0} (p q : X → Bool) (xs : List X) → filter q (filter p xs) ≡ filter p (filter q xs)
filter_swap p q [] = refl
filter_swap {X} p q (x ∷ xs) = by (p x) (q x) refl refl (filter_swap p q xs)
  where
    by : (b c : Bool) → p x ≡ b → q x ≡ c → filter q (filter p xs) ≡ filter p (filter q xs)
        → filter q (if b then x ∷ filter p xs else filter p xs) ≡ filter p (if c then x ∷ filter q xs else filter q xs)
    by true true is_p is_q rest =
        ap (λ (d : Bool). if d then x ∷ filter q (filter p xs) else filter q (filter p xs)) is_q
        ∙ ap (λ (l : List X). x ∷ l) rest
        ∙ sym (ap (λ (d : Bool). if d then x ∷ filter p (filter q xs) else filter p (filter q xs)) is_p)
    by true false is_p is_q rest = ap (λ (d : Bool). if d then x ∷ filter q (filter p xs) else filter q (filter p xs)) is_q ∙ rest
    by false true is_p is_q rest = rest ∙ sym (ap (λ (d : Bool). if d then x ∷ filter p (filter q xs) else filter p (filter q xs)) is_p)
    by false false is_p is_q rest = rest

-- all pass, or none does
pub filter_all : {X : Type 0} (p : X → Bool) (xs : List X) → AllByRecursion (λ x. p x ≡ true) xs → filter p xs ≡ xs
filter_all p [] all = refl
filter_all {X} p (x ∷ xs) all = ap (λ (b : Bool). if b then x ∷ filter p xs else filter p xs) all.0 ∙ ap (λ (l : List X). x ∷ l) (filter_all p xs all.1)

pub filter_none : {X : Type 0} (p : X → Bool) (xs : List X) → AllByRecursion (λ x. p x ≡ false) xs → filter p xs ≡ []
filter_none p [] all = refl
filter_none {X} p (x ∷ xs) all = ap (λ (b : Bool). if b then x ∷ filter p xs else filter p xs) all.0 ∙ filter_none p xs all.1

pub passes_all : {X : Type 0} (p : X → Bool) (xs : List X) → AllByRecursion (λ x. p x ≡ true) (filter p xs)
passes_all p [] = tt
passes_all {X} p (x ∷ xs) = by (p x) refl (passes_all p xs)
  where
    by : (b : Bool) → p x ≡ b → AllByRecursion (λ y. p y ≡ true) (filter p xs)
        → AllByRecursion (λ y. p y ≡ true) (if b then x ∷ filter p xs else filter p xs)
    by true is rest = (is, rest)
    by false is rest = rest

-- what holds of all holds of those that pass
pub all_filter : {X : Type 0} (P : X → Type 0) (p : X → Bool) (xs : List X) → AllByRecursion P xs → AllByRecursion P (filter p xs)
all_filter P p [] all = tt
all_filter {X} P p (x ∷ xs) all = by (p x) (all_filter P p xs all.1)
  where
    by : (b : Bool) → AllByRecursion P (filter p xs) → AllByRecursion P (if b then x ∷ filter p xs else filter p xs)
    by true rest = (all.0, rest)
    by false rest = rest

pub all_means : {X : Type 0} (P Q : X → Type 0) (xs : List X) → ((x : X) → P x → Q x) → AllByRecursion P xs → AllByRecursion Q xs
all_means P Q [] means all = tt
all_means P Q (x ∷ xs) means all = (means x all.0, all_means P Q xs means all.1)

pub all_append : {X : Type 0} (P : X → Type 0) (xs ys : List X) → AllByRecursion P xs → AllByRecursion P ys → AllByRecursion P (xs ++ ys)
all_append P [] ys all rest = rest
all_append P (x ∷ xs) ys all rest = (all.0, all_append P xs ys all.1 rest)

pub all_front : {X : Type 0} (P : X → Type 0) (xs ys : List X) → AllByRecursion P (xs ++ ys) → AllByRecursion P xs
all_front P [] ys all = tt
all_front P (x ∷ xs) ys all = (all.0, all_front P xs ys all.1)

pub all_behind : {X : Type 0} (P : X → Type 0) (xs ys : List X) → AllByRecursion P (xs ++ ys) → AllByRecursion P ys
all_behind P [] ys all = all
all_behind P (x ∷ xs) ys all = all_behind P xs ys all.1

-- the order of commits

-- commits from a position on that don't fall
abbrev pub Rises : ℕ → List Change → Type 0
Rises low [] = Unit {0}
Rises low (change ∷ list) = (low ≤ change.commit) × Rises change.commit list

pub rises_lower : (low high : ℕ) (list : List Change) → low ≤ high → Rises high list → Rises low list
rises_lower low high [] le rises = tt
rises_lower low high (change ∷ list) le rises = (omega (arith, le, rises.0), rises.1)

pub rises_append : (low high : ℕ) (xs ys : List Change) → low ≤ high → Rises low xs → AllByRecursion (λ (change : Change). change.commit ≤ high) xs → Rises high ys → Rises low (xs ++ ys)
rises_append low high [] ys le rises all rest = rises_lower low high ys le rest
rises_append low high (x ∷ xs) ys le rises all rest = (rises.0, rises_append x.commit high xs ys all.0 rises.1 all.1 rest)

pub rises_filter : (p : Change → Bool) (low : ℕ) (list : List Change) → Rises low list → Rises low (filter p list)
rises_filter p low [] rises = tt
rises_filter p low (change ∷ list) rises = by (p change) (rises_filter p change.commit list rises.1)
  where
    by : (b : Bool) → Rises change.commit (filter p list) → Rises low (if b then change ∷ filter p list else filter p list)
    by true rest = (rises.0, rest)
    by false rest = rises_lower low change.commit (filter p list) rises.0 rest

-- what stands behind a position that commits rise from
pub rises_from : (low : ℕ) (list : List Change) → Rises low list → AllByRecursion (λ (change : Change). low ≤ change.commit) list
rises_from low [] rises = tt
rises_from low (change ∷ list) rises = (rises.0, rises_from low list (rises_lower low change.commit list rises.0 rises.1))

pub rises_behind : (low : ℕ) (front : List Change) (next : Change) (rest : List Change) → Rises low (front ++ next ∷ rest)
    → AllByRecursion (λ (change : Change). next.commit ≤ change.commit) (next ∷ rest)
rises_behind low [] next rest rises = (omega arith, rises_from next.commit rest rises.1)
rises_behind low (x ∷ front) next rest rises = rises_behind x.commit front next rest rises.1

pub rises_before : (low : ℕ) (front : List Change) (next : Change) (rest : List Change) → Rises low (front ++ next ∷ rest)
    → (low ≤ next.commit) × AllByRecursion (λ (change : Change). change.commit ≤ next.commit) front
rises_before low [] next rest rises = (rises.0, tt)
rises_before low (x ∷ front) next rest rises =
    let later = rises_before x.commit front next rest rises.1 in
    (omega (arith, rises.0, later.0), (later.0, later.1))

-- parts of a list by a position

pub up_to_all : (a : ℕ) (list : List Change) → AllByRecursion (λ (change : Change). change.commit ≤ a) list → changes_up_to a list ≡ list
up_to_all a list all = filter_all (λ change. nat_le change.commit a) list
    (all_means (λ (change : Change). change.commit ≤ a) (λ change. nat_le change.commit a ≡ true) list (λ change le. grind (arith, nat_tests, le)) all)

pub up_to_none : (a : ℕ) (list : List Change) → AllByRecursion (λ (change : Change). a < change.commit) list → changes_up_to a list ≡ []
up_to_none a list all = filter_none (λ change. nat_le change.commit a) list
    (all_means (λ (change : Change). a < change.commit) (λ change. nat_le change.commit a ≡ false) list (λ change lt. grind (arith, nat_tests, lt)) all)

pub behind_all : (a : ℕ) (list : List Change) → AllByRecursion (λ (change : Change). a < change.commit) (changes_behind a list)
behind_all a list = all_means (λ change. nat_lt a change.commit ≡ true) (λ (change : Change). a < change.commit) (changes_behind a list)
    (λ change is. grind (arith, nat_tests, is)) (passes_all (λ change. nat_lt a change.commit) list)

pub behind_none : (a : ℕ) (list : List Change) → AllByRecursion (λ (change : Change). change.commit ≤ a) list → changes_behind a list ≡ []
behind_none a list all = filter_none (λ change. nat_lt a change.commit) list
    (all_means (λ (change : Change). change.commit ≤ a) (λ change. nat_lt a change.commit ≡ false) list (λ change le. grind (arith, nat_tests, le)) all)

-- how many there are of both
pub both_parts : (a : ℕ) (list : List Change) → length (changes_up_to a list) + length (changes_behind a list) ≡ length list
both_parts a [] = refl
both_parts a (x ∷ list) = by (nat_le x.commit a) (nat_lt a x.commit) refl refl (both_parts a list)
  where
    by : (b c : Bool) → nat_le x.commit a ≡ b → nat_lt a x.commit ≡ c → length (changes_up_to a list) + length (changes_behind a list) ≡ length list
        → length (if b then x ∷ changes_up_to a list else changes_up_to a list) + length (if c then x ∷ changes_behind a list else changes_behind a list) ≡ suc (length list)
    by true true le lt rest = absurd (grind (arith, nat_tests, le, lt))
    by true false le lt rest = omega (arith, rest)
    by false true le lt rest = omega (arith, rest)
    by false false le lt rest = absurd (grind (arith, nat_tests, le, lt))

pub count_within : (commit : ℕ) (list : List Change) → count_of commit list ≤ length list
count_within commit [] = omega arith
count_within commit (x ∷ list) = by (x.commit == commit) (count_within commit list)
  where
    by : (b : Bool) → count_of commit list ≤ length list → (if b then suc (count_of commit list) else 0) ≤ suc (length list)
    by true rest = omega (arith, rest)
    by false rest = omega arith

pub count_of_first_within : (list : List Change) → count_of_first list ≤ length list
count_of_first_within [] = omega arith
count_of_first_within (x ∷ list) = omega (arith, count_within x.commit list)

-- Pages

-- changes of other spaces leave a page of a space
pub fold_space : (space number : ℕ) (page : Page) (list : List Change)
    → fold (with_change space number) page (filter (λ change. change.patch.space == space) list) ≡ fold (with_change space number) page list
fold_space space number page [] = refl
fold_space space number page (x ∷ list) = by (x.patch.space == space) refl (λ p. fold_space space number p list)
  where
    by : (b : Bool) → (x.patch.space == space) ≡ b
        → ((p : Page) → fold (with_change space number) p (filter (λ change. change.patch.space == space) list) ≡ fold (with_change space number) p list)
        → fold (with_change space number) page (if b then x ∷ filter (λ change. change.patch.space == space) list else filter (λ change. change.patch.space == space) list)
        ≡ fold (with_change space number) page (x ∷ list)
    by true is rest = rest (with_change space number page x)
    by false is rest = rest page ∙ ap (λ (p : Page). fold (with_change space number) p list) (sym (other is))
      where
        other : (x.patch.space == space) ≡ false → with_change space number page x ≡ page
        other is = grind (arith, is)
