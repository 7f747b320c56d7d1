-- Laws of the changes and the pages at a position.
use Rattle.std.specs.Prelude.{◌≡◌, ◌⊎◌, ℕ, suc, zero, ◌-◌, ◌<◌, ◌≤◌, ◌&&◌, ◌==◌, List, [], ◌∷◌, ◌++◌, length, reverse, take, map, filter, fold, Bool, true, false, nat_lt, if◌then◌else◌, Option, Some, slice_get}
use Rattle.std.specs.List.{AllByRecursion, flat_map}
use mathlib.Core.Logic.{inl, inr}
use Rattle.std.proofs.Common.{arith, refl, sym, ap, subst, ◌∙◌, ⊎_elim}
use Rattle.std.proofs.lemmas.Bool.Decides.{nat_tests}
use Rattle.std.proofs.lemmas.List.{append-nil, take-append-le}
use Rattle.std.proofs.lemmas.List.Concat.{flat_map-append}
use Rattle.std.proofs.lemmas.List.Elements.{filter-append}
use Rattle.std.proofs.lemmas.List.Sums.{fold-append}
use Rattle.log_history.specs.History.{Patch, LogEntry, History, reset, entry_at, positions}
use Rattle.log_history.specs.Live.{live, reset_points}
use Rattle.log_history.specs.Effects.{Change, Page, change_by, changes, effective, empty_page, is_commit, page_at, patched, stamp-empty_page, with_change, writes, writes_of}
use Rattle.history_laws.specs.LiveLaws.{live_within}
use Rattle.history_laws.specs.EffectiveLaws.{effective_along, effective_at_reset, effective_before, filter_filter, slice_front}

-- what a position of a history brings into effect
abbrev pub effect : History → ℕ → List Change
effect history c = map (change_by c) (writes history c)

-- the changes of the commits in effect at q that stand above a
abbrev pub changes_above : History → ℕ → ℕ → List Change
changes_above history q a = flat_map (effect history) (filter (λ x. nat_lt a x) (effective history q))

agree_on : (f g : ℕ → List Change) (p : ℕ → Bool) (n : ℕ) → ((x : ℕ) → x ≤ n → p x ≡ true → f x ≡ g x)
    → flat_map f (filter p (positions n)) ≡ flat_map g (filter p (positions n))
agree_on f g p zero same = refl
agree_on f g p (suc n) same =
    ap (flat_map f) (filter-append p (positions n) (suc n ∷ []))
    ∙ flat_map-append f (filter p (positions n)) (filter p (suc n ∷ []))
    ∙ ap (λ (l : List Change). l ++ flat_map f (filter p (suc n ∷ []))) (agree_on f g p n (λ x le. same x (grind (arith, le))))
    ∙ ap (λ (l : List Change). flat_map g (filter p (positions n)) ++ l) (last (p (suc n)) refl)
    ∙ sym (flat_map-append g (filter p (positions n)) (filter p (suc n ∷ [])))
    ∙ sym (ap (flat_map g) (filter-append p (positions n) (suc n ∷ [])))
  where
    last : (b : Bool) → p (suc n) ≡ b → flat_map f (if b then suc n ∷ [] else []) ≡ flat_map g (if b then suc n ∷ [] else [])
    last true is = ap (λ (l : List Change). l ++ []) (same (suc n) (omega arith) is)
    last false is = refl

-- a position's record and Writes don't change by records behind them
pub writes_before : (history batch : History) (c : ℕ) → c ≤ length history → writes (history ++ batch) c ≡ writes history c
writes_before history batch zero le = refl
writes_before history batch (suc k) le =
    ap (λ (o : Option LogEntry). writes_of o (reverse (take (suc k - 1) (history ++ batch)))) (slice_front history batch k (omega (arith, le)))
    ∙ ap (λ (h : History). writes_of (slice_get history k) (reverse h)) (take-append-le (suc k - 1) history batch (omega (arith, le)))

-- the positions of commits in effect at n are at most n
effective_within : (history : History) (n x : ℕ) → (is_commit (entry_at history x) && live history n x) ≡ true → x ≤ n
effective_within history n x is = live_within (reset_points history) n x (both (is_commit (entry_at history x)) (live history n x) is)
  where
    both : (a b : Bool) → a && b ≡ true → b ≡ true
    both true b is = is
    both false b is = grind (arith, is)

-- Records behind a position make no difference to the changes and the pages at it.
pub changes_before : (history batch : History) (n : ℕ) → n ≤ length history → changes (history ++ batch) n ≡ changes history n
changes_before history batch n le =
    ap (flat_map (effect (history ++ batch))) (effective_before history batch n le)
    ∙ agree_on (effect (history ++ batch)) (effect history) (λ x. is_commit (entry_at history x) && live history n x) (length history)
    (λ x within is. ap (map (change_by x)) (writes_before history batch x within))

pub page_before : (history batch : History) (n space number : ℕ) → n ≤ length history
    → page_at (history ++ batch) n space number ≡ page_at history n space number
page_before history batch n space number le = ap (fold (with_change space number) empty_page) (changes_before history batch n le)

-- The pages at a Reset are those at its target.
pub page_at_reset : (history : History) (x restore target time space number : ℕ) → entry_at history x ≡ Some (reset restore target time) → target < x
    → page_at history x space number ≡ page_at history target space number
page_at_reset history x restore target time space number is lt =
    ap (λ (commits : List ℕ). fold (with_change space number) empty_page (flat_map (effect history) commits)) (effective_at_reset history x restore target time is lt)

-- Where a position is live, the changes are those at it, and those above it; and so the pages.
pub changes_along : (history : History) (q a : ℕ) → live history q a ≡ true → changes history q ≡ changes history a ++ changes_above history q a
changes_along history q a is =
    ap (flat_map (effect history)) (effective_along history q a is)
    ∙ flat_map-append (effect history) (effective history a) (filter (λ x. nat_lt a x) (effective history q))

pub page_along : (history : History) (q a space number : ℕ) → live history q a ≡ true
    → page_at history q space number ≡ fold (with_change space number) (page_at history a space number) (changes_above history q a)
page_along history q a space number is =
    ap (fold (with_change space number) empty_page) (changes_along history q a is)
    ∙ fold-append (with_change space number) empty_page (changes history a) (changes_above history q a)

-- a page after a change is as before, or has the change's commit as its stamp
stamped : (space number : ℕ) (page : Page) (change : Change)
    → (with_change space number page change ≡ page) ⊎ ((with_change space number page change).stamp ≡ change.commit)
stamped space number page change = by ((change.patch.space == space) && (change.patch.page == number)) refl
  where
    by : (b : Bool) → ((change.patch.space == space) && (change.patch.page == number)) ≡ b
        → (with_change space number page change ≡ page) ⊎ ((with_change space number page change).stamp ≡ change.commit)
    by true is = inr (ap (λ (b : Bool). (if b then record { stamp = change.commit; payload = patched change.patch page.payload } else page).stamp) is)
    by false is = inl (ap (λ (b : Bool). if b then record { stamp = change.commit; payload = patched change.patch page.payload } else page) is)

-- changes of commits above a leave a page as it is, or stamp it above a
pub fold_above : (space number a : ℕ) (page : Page) (list : List Change) → AllByRecursion (λ change. a < change.commit) list
    → (fold (with_change space number) page list ≡ page) ⊎ (a < (fold (with_change space number) page list).stamp)
fold_above space number a page [] all = inl refl
fold_above space number a page (change ∷ list) all =
    let next : Page = with_change space number page change in
    let rest : (fold (with_change space number) next list ≡ next) ⊎ (a < (fold (with_change space number) next list).stamp) = fold_above space number a next list all.1 in
    ⊎_elim
    (λ same. ⊎_elim
    (λ kept. inl (same ∙ kept))
    (λ is. inr (subst (λ (p : Page). a < p.stamp) (sym same) (omega (arith, is, all.0))))
    (stamped space number page change))
    (λ above. inr above) rest

-- what holds of each position that passes a test holds of the commits of its changes
module _ (P : ℕ → Type 0) where
  abbrev OfAll : List Change → Type 0
  OfAll = AllByRecursion (λ (change : Change). P change.commit)

  all_append : (xs ys : List Change) → OfAll xs → OfAll ys → OfAll (xs ++ ys)
  all_append [] ys all rest = rest
  all_append (x ∷ xs) ys all rest = (all.0, all_append xs ys all.1 rest)

  by_one : (c : ℕ) (patches : List Patch) → P c → OfAll (map (change_by c) patches)
  by_one c [] is = tt
  by_one c (patch ∷ patches) is = (is, by_one c patches is)

  all_of : (history : History) (p : ℕ → Bool) (n : ℕ) → ((x : ℕ) → p x ≡ true → P x) → OfAll (flat_map (effect history) (filter p (positions n)))
  all_of history p zero means = tt
  all_of history p (suc n) means =
      subst OfAll
      (sym (ap (flat_map (effect history)) (filter-append p (positions n) (suc n ∷ [])) ∙ flat_map-append (effect history) (filter p (positions n)) (filter p (suc n ∷ []))))
      (all_append (flat_map (effect history) (filter p (positions n))) (flat_map (effect history) (filter p (suc n ∷ []))) (all_of history p n means) (last (p (suc n)) refl))
    where
      last : (b : Bool) → p (suc n) ≡ b → OfAll (flat_map (effect history) (if b then suc n ∷ [] else []))
      last true is = subst OfAll (sym (append-nil (effect history (suc n)))) (by_one (suc n) (writes history (suc n)) (means (suc n) is))
      last false is = tt

-- An archive's base: a page whose stamp at q is at most a live position is the page at that position.
pub page_not_above : (history : History) (q a space number : ℕ) → live history q a ≡ true → (page_at history q space number).stamp ≤ a
    → page_at history q space number ≡ page_at history a space number
page_not_above history q a space number is le =
    let along : page_at history q space number ≡ fold (with_change space number) (page_at history a space number) (changes_above history q a) = page_along history q a space number is in
    ⊎_elim
    (λ same. along ∙ same)
    (λ above. absurd (omega (arith, above, le, ap (λ (p : Page). p.stamp) along)))
    (fold_above space number a (page_at history a space number) (changes_above history q a)
    (subst (λ (commits : List ℕ). AllByRecursion (λ (change : Change). a < change.commit) (flat_map (effect history) commits))
    (sym (filter_filter (λ x. is_commit (entry_at history x) && live history q x) (λ x. nat_lt a x) (positions (length history))))
    (all_of (λ c. a < c) history (λ x. (is_commit (entry_at history x) && live history q x) && nat_lt a x) (length history)
    (λ x is. grind (arith, nat_tests, is)))))

-- The stamp of a page at a position is at most that position.
pub stamp_within : (history : History) (n space number : ℕ) → (page_at history n space number).stamp ≤ n
stamp_within history n space number = by empty_page (omega (arith, stamp-empty_page)) (changes history n)
    (all_of (λ c. c ≤ n) history (λ x. is_commit (entry_at history x) && live history n x) (length history) (λ x is. effective_within history n x is))
  where
    by : (page : Page) → page.stamp ≤ n → (list : List Change) → AllByRecursion (λ (change : Change). change.commit ≤ n) list
        → (fold (with_change space number) page list).stamp ≤ n
    by page le [] all = le
    by page le (change ∷ list) all = by (with_change space number page change)
        (⊎_elim (λ same. subst (λ (p : Page). p.stamp ≤ n) (sym same) le) (λ is. omega (arith, is, all.0)) (stamped space number page change)) list all.1
