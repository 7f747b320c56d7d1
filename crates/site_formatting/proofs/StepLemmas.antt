-- Things that may be there or not, and lists that are gone over.
use Rattle.std.proofs.Common.{◌≡◌, ℕ, ◌+◌, ◌≤◌, List, length, slice_set, Some, inl, inr, refl, sym, ◌∙◌, subst, arith, length-set}
use Rattle.std.specs.Prelude.{Option, None, slice_get, IfSome}
use Rattle.std.specs.Option.{option_map}
use Rattle.std.proofs.lemmas.Bool.{cases_lt, cases_order}
use Rattle.std.proofs.lemmas.Option.{slice_get_within}
use Rattle.object_volume.specs.declared.volume.Volume.{Volume}
use Rattle.object_store.proofs.ReturnLemmas.{slice_get-set_same, slice_get-set_other, get-within}
use Rattle.store_opening.specs.Disks.{EachFrom}
use Rattle.site_formatting.specs.Steps.{Both, OfEach, Changes, FirstFrom, StopsAt}

module _ {A : Type 0} where
  pub both_same : (P : A → A → Type 0) (o : Option A) → ((x : A) → o ≡ Some x → P x x) → Both P o o
  both_same P None same = tt
  both_same P (Some x) same = same x refl

  pub both_means : (P Q : A → A → Type 0) (x y : Option A) → ((a b : A) → x ≡ Some a → P a b → Q a b) → Both P x y → Both Q x y
  both_means P Q None None means is = tt
  both_means P Q None (Some b) means is = is
  both_means P Q (Some a) None means is = is
  both_means P Q (Some a) (Some b) means is = means a b refl is

  pub both_map : {B : Type 0} (f : A → B) (P : B → B → Type 0) (x y : Option A) → Both (λ a b. P (f a) (f b)) x y → Both P (option_map f x) (option_map f y)
  both_map f P None None is = tt
  both_map f P None (Some b) is = is
  both_map f P (Some a) None is = is
  both_map f P (Some a) (Some b) is = is

  pub some_map : {B : Type 0} (f : A → B) (P : B → Type 0) (o : Option A) → ((a : A) → o ≡ Some a → P (f a)) → IfSome (option_map f o) P
  some_map f P None means = tt
  some_map f P (Some a) means = means a refl

  -- what the one that is there now is, by what the one that was there has become
  pub both_now : (P : A → A → Type 0) (R : A → Type 0) (x y : Option A) → ((a b : A) → x ≡ Some a → P a b → R b) → Both P x y → IfSome y R
  both_now P R None None means is = tt
  both_now P R None (Some b) means is = absurd is
  both_now P R (Some a) None means is = tt
  both_now P R (Some a) (Some b) means is = means a b refl is

  pub of_each : (P : ℕ → A → Type 0) (items : List A) → ((place : ℕ) → IfSome (slice_get items place) (P place)) → OfEach P items
  of_each P items each place item there = subst (λ (o : Option A). IfSome o (P place)) there (each place)

  pub each_now : (W : ℕ → A → A → Type 0) (R : ℕ → A → Type 0) (old new : List A) → ((place : ℕ) → Both (W place) (slice_get old place) (slice_get new place))
      → ((place : ℕ) (a b : A) → slice_get old place ≡ Some a → W place a b → R place b) → OfEach R new
  each_now W R old new both means = of_each R new (λ place. both_now (W place) (R place) (slice_get old place) (slice_get new place) (means place) (both place))

  -- one of a list becomes another
  pub changes_one : (P : A → A → Type 0) (items : List A) (place : ℕ) (was is : A) → slice_get items place ≡ Some was → P was is → Changes P place items (slice_set items place is)
  changes_one P items place was is there by = record {
    count = length-set items place is;
    here = subst (λ (o : Option A). Both P o (slice_get (slice_set items place is) place)) (sym there)
        (subst (λ (o : Option A). Both P (Some was) o) (sym (slice_get-set_same items place is (slice_get_within items place was there))) by);
    elsewhere = λ other isnt. slice_get-set_other items other place is isnt;
  }

  module _ (P : ℕ → A → A → Type 0) where
    pub first_none : (items : List A) → FirstFrom P 0 items items
    first_none items = record { count = refl; done = λ place lt. absurd (omega (arith, lt)); rest = λ place le. refl }

    pub first_more : (n : ℕ) (old now new : List A) → FirstFrom P n old now → Changes (P n) n now new → FirstFrom P (n + 1) old new
    first_more n old now new first changes = record {
      count = changes.count ∙ first.count;
      done = λ place lt. elim (cases_lt place n) [
        | inl less ↦ subst (λ (o : Option A). Both (P place) (slice_get old place) o) (sym (changes.elsewhere place (λ e. absurd (omega (arith, e, less))))) (first.done place less)
        | inr most ↦ at place (omega (arith, lt, most))
      ];
      rest = λ place le. changes.elsewhere place (λ e. absurd (omega (arith, e, le))) ∙ first.rest place (omega (arith, le));
    }
      where
        at : (place : ℕ) → place ≡ n → Both (P place) (slice_get old place) (slice_get new place)
        at place same = subst (λ (k : ℕ). Both (P k) (slice_get old k) (slice_get new k)) (sym same)
            (subst (λ (o : Option A). Both (P n) o (slice_get new n)) (first.rest n (omega arith)) changes.here)

    module _ (W : ℕ → A → A → Type 0) (done : (place : ℕ) (a b : A) → P place a b → W place a b) where
      -- what is true of each, whether it was gone over or not
      pub first_each : (n : ℕ) (old new : List A) → FirstFrom P n old new → OfEach (λ place x. W place x x) old
          → (place : ℕ) → Both (W place) (slice_get old place) (slice_get new place)
      first_each n old new first same place = elim (cases_lt place n) [
        | inl less ↦ both_means (P place) (W place) (slice_get old place) (slice_get new place) (λ a b there. done place a b) (first.done place less)
        | inr most ↦ subst (λ (o : Option A). Both (W place) (slice_get old place) o) (sym (first.rest place most)) (both_same (W place) (slice_get old place) (same place))
      ]

      pub stops_each : (Q : ℕ → A → A → Type 0) (n : ℕ) (old new : List A) (stops : StopsAt P Q n old new) → ((place : ℕ) (a b : A) → Q place a b → W place a b)
          → OfEach (λ place x. W place x x) old → (place : ℕ) → Both (W place) (slice_get old place) (slice_get new place)
      stops_each Q n old new stops missed same place = elim (cases_order place stops.number) [
        | inl is ↦ at place is
        | inr (inl less) ↦ other place (λ e. absurd (omega (arith, e, less)))
        | inr (inr more) ↦ other place (λ e. absurd (omega (arith, e, more)))
      ]
        where
          other : (place : ℕ) → (place ≡ stops.number → ⊥) → Both (W place) (slice_get old place) (slice_get new place)
          other place isnt = subst (λ (o : Option A). Both (W place) (slice_get old place) o) (sym (stops.one.elsewhere place isnt))
              (first_each stops.number old stops.mid stops.first same place)

          at : (place : ℕ) → place ≡ stops.number → Both (W place) (slice_get old place) (slice_get new place)
          at place is = subst (λ (k : ℕ). Both (W k) (slice_get old k) (slice_get new k)) (sym is)
              (subst (λ (o : Option A). Both (W stops.number) o (slice_get new stops.number)) (stops.first.rest stops.number (omega arith))
              (both_means (Q stops.number) (W stops.number) (slice_get stops.mid stops.number) (slice_get new stops.number) (λ a b there. missed stops.number a b) stops.one.here))

    pub stops_count : (Q : ℕ → A → A → Type 0) (n : ℕ) (old new : List A) → StopsAt P Q n old new → length new ≡ length old
    stops_count Q n old new stops = stops.one.count ∙ stops.first.count

    pub stops_rest : (Q : ℕ → A → A → Type 0) (n : ℕ) (old new : List A) → StopsAt P Q n old new → (place : ℕ) → n ≤ place → slice_get new place ≡ slice_get old place
    stops_rest Q n old new stops place le =
        stops.one.elsewhere place (λ e. absurd (omega (arith, e, le, stops.within))) ∙ stops.first.rest place (omega (arith, le, stops.within))

-- volumes
pub each_both : {D : Type 0} (P : ℕ → Volume D → Volume D → Type 0) (old new : List (Volume D)) → EachFrom P old new → (place : ℕ) → Both (P place) (slice_get old place) (slice_get new place)
each_both {D} P old new from place = by (slice_get old place) (slice_get new place) refl refl
  where
    by : (x y : Option (Volume D)) → slice_get old place ≡ x → slice_get new place ≡ y → Both (P place) x y
    by None None none also = tt
    by None (Some b) none there =
        let found = get-within old place (omega (arith, slice_get_within new place b there, from.count)) in
        absurd (let e : None ≡ Some found.0 = sym none ∙ found.1 in cc)
    by (Some a) None there none =
        let found = get-within new place (omega (arith, slice_get_within old place a there, from.count)) in
        absurd (let e : None ≡ Some found.0 = sym none ∙ found.1 in cc)
    by (Some a) (Some b) there behind = from.each place a b there behind
