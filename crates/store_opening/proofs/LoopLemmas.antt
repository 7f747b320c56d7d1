-- Calls over all volumes, one volume after another.
use Rattle.std.proofs.Common.{◌≡◌, ℕ, zero, suc, ◌+◌, ◌<◌, ◌≤◌, List, [], ◌∷◌, length, map, Some, inl, inr, refl, sym, ap, ◌∙◌, subst, arith, length-set}
use Rattle.std.proofs.lemmas.Bool.{cases_lt}
use Rattle.std.proofs.lemmas.Option.{slice_get_within}
use Rattle.std.specs.Prelude.{slice_get}
use Rattle.std.specs.declared.vec.Vec.{Vec}
use Rattle.std.specs.declared.alloc.Global.{Global}
use Rattle.std.specs.Vec.{with_items}
use Rattle.object_volume.specs.declared.volume.Volume.{Volume}
use Rattle.object_store.specs.Reading.{ChangesOne}
use Rattle.object_store.specs.Stores.{OfEach}
use Rattle.object_store.proofs.ReturnLemmas.{slice_get-set_same, slice_get-set_other, get-within, one_value}
use Rattle.object_store.proofs.EndingLemmas.{written_back}
use Rattle.store_opening.specs.Disks.{EachFrom, FirstFrom, OneFrom, StopsAt}
use Rattle.store_opening.specs.declared.faults.StoreFault.{StoreFault}

module _ {D : Type 0} (P : ℕ → Volume D → Volume D → Type 0) where
  -- ---- the loop

  pub first_none : (volumes : List (Volume D)) → FirstFrom P 0 volumes volumes
  first_none volumes = record {
    count = refl;
    done = λ place was is lt there behind. absurd (omega (arith, lt));
    rest = λ place le. refl;
  }

  -- the volume at a place after one became another
  changed_here : {R : Volume D → Volume D → Type 0} (n : ℕ) (now new : List (Volume D)) (changes : ChangesOne R n now new) → slice_get new n ≡ Some changes.is
  changed_here n now new changes =
      ap (λ (l : List (Volume D)). slice_get l n) changes.changed ∙ slice_get-set_same now n changes.is (slice_get_within now n changes.was changes.there)

  changed_elsewhere : {R : Volume D → Volume D → Type 0} (n place : ℕ) (now new : List (Volume D)) → ChangesOne R n now new → (place ≡ n → ⊥) → slice_get new place ≡ slice_get now place
  changed_elsewhere n place now new changes other =
      ap (λ (l : List (Volume D)). slice_get l place) changes.changed ∙ slice_get-set_other now place n changes.is other

  module _ (n : ℕ) (old now new : List (Volume D)) (first : FirstFrom P n old now) where
    still : {R : Volume D → Volume D → Type 0} → ChangesOne R n now new → length new ≡ length old
    still changes = ap length changes.changed ∙ length-set now n changes.is ∙ first.count

    before : {R : Volume D → Volume D → Type 0} → ChangesOne R n now new → (place : ℕ) (was is : Volume D) → place < n → slice_get old place ≡ Some was → slice_get new place ≡ Some is
        → P place was is
    before changes place was is lt there behind =
        first.done place was is lt there (sym (changed_elsewhere n place now new changes (λ e. absurd (omega (arith, e, lt)))) ∙ behind)

    behind_all : {R : Volume D → Volume D → Type 0} → ChangesOne R n now new → (place : ℕ) → n < place → slice_get new place ≡ slice_get old place
    behind_all changes place lt =
        changed_elsewhere n place now new changes (λ e. absurd (omega (arith, e, lt))) ∙ first.rest place (omega (arith, lt))

    pub first_more : ChangesOne (P n) n now new → FirstFrom P (n + 1) old new
    first_more changes = record {
      count = still changes;
      done = λ place was is lt there behind. elim (cases_lt place n) [
        | inl less ↦ before changes place was is less there behind
        | inr most ↦ at place was is (omega (arith, lt, most)) there behind
      ];
      rest = λ place le. behind_all changes place (omega (arith, le));
    }
      where
        here : (was is : Volume D) → slice_get old n ≡ Some was → slice_get new n ≡ Some is → P n was is
        here was is there behind =
            let was_same : changes.was ≡ was = one_value now n changes.was was changes.there (first.rest n (omega arith) ∙ there) in
            let is_same : changes.is ≡ is = one_value new n changes.is is (changed_here n now new changes) behind in
            subst (λ (v : Volume D). P n v is) was_same (subst (λ (v : Volume D). P n changes.was v) is_same changes.by)

        at : (place : ℕ) (was is : Volume D) → place ≡ n → slice_get old place ≡ Some was → slice_get new place ≡ Some is → P place was is
        at place was is same there behind =
            subst (λ (k : ℕ). P k was is) (sym same) (here was is (ap (slice_get old) (sym same) ∙ there) (ap (slice_get new) (sym same) ∙ behind))

    pub stops : (Q : ℕ → StoreFault → Volume D → Volume D → Type 0) (fault : StoreFault) → ChangesOne (Q n fault) n now new → StopsAt P Q fault old new
    stops Q fault changes = record {
      number = n;
      count = still changes;
      before = before changes;
      stopped = record {
        was = changes.was;
        is = changes.is;
        there = sym (first.rest n (omega arith)) ∙ changes.there;
        behind = changed_here n now new changes;
        by = changes.by;
      };
      later = behind_all changes;
    }

  pub first_all : (n : ℕ) (old new : List (Volume D)) → FirstFrom P n old new → length old ≤ n → EachFrom P old new
  first_all n old new first le = record {
    count = first.count;
    each = λ place was is there behind. first.done place was is (omega (arith, le, slice_get_within old place was there)) there behind;
  }

  -- ---- the same of a `Vec` whose elements were lent and written back

  module _ (v : Vec (Volume D) Global) (n : ℕ) (old slice new : List (Volume D)) (first : FirstFrom P n old v.items) (lent : slice ≡ v.items) where
    as_long : {R : Volume D → Volume D → Type 0} → ChangesOne R n slice new → length new ≡ length v.items
    as_long changes = ap length changes.changed ∙ length-set slice n changes.is ∙ ap length lent

    pub first_more_back : ChangesOne (P n) n slice new → FirstFrom P (n + 1) old (with_items v new).items
    first_more_back changes =
        subst (FirstFrom P (n + 1) old) (sym (written_back v new (as_long changes)))
        (first_more n old v.items new first (subst (λ (l : List (Volume D)). ChangesOne (P n) n l new) lent changes))

    pub stops_back : (Q : ℕ → StoreFault → Volume D → Volume D → Type 0) (fault : StoreFault) → ChangesOne (Q n fault) n slice new → StopsAt P Q fault old (with_items v new).items
    stops_back Q fault changes =
        subst (StopsAt P Q fault old) (sym (written_back v new (as_long changes)))
        (stops n old v.items new first Q fault (subst (λ (l : List (Volume D)). ChangesOne (Q n fault) n l new) lent changes))

  -- ---- what each has become

  pub each_here : (volumes : List (Volume D)) → OfEach (λ place volume. P place volume volume) volumes → EachFrom P volumes volumes
  each_here volumes same = record {
    count = refl;
    each = λ place was is there behind. subst (P place was) (one_value volumes place was is there behind) (same place was there);
  }

  pub each_means : (W : ℕ → Volume D → Volume D → Type 0) (old new : List (Volume D)) → ((place : ℕ) (was is : Volume D) → P place was is → W place was is) → EachFrom P old new → EachFrom W old new
  each_means W old new means from = record {
    count = from.count;
    each = λ place was is there behind. means place was is (from.each place was is there behind);
  }

  -- what holds of each as it is
  pub each_now : (R : ℕ → Volume D → Type 0) (old new : List (Volume D)) → EachFrom P old new
      → ((place : ℕ) (was is : Volume D) → slice_get old place ≡ Some was → P place was is → R place is) → OfEach R new
  each_now R old new from means place is behind =
      let lt : place < length new = slice_get_within new place is behind in
      let there = get-within old place (omega (arith, lt, from.count)) in
      means place there.0 is there.1 (from.each place there.0 is there.1 behind)

  module _ (Q : ℕ → StoreFault → Volume D → Volume D → Type 0) (fault : StoreFault) (old new : List (Volume D)) (stopped : StopsAt P Q fault old new) where
    pub stops_each : (W : ℕ → Volume D → Volume D → Type 0) → ((place : ℕ) (was is : Volume D) → P place was is → W place was is)
        → ((place : ℕ) (was is : Volume D) → Q place fault was is → W place was is) → OfEach (λ place volume. W place volume volume) old → EachFrom W old new
    stops_each W done missed same = record {
      count = stopped.count;
      each = λ place was is there behind. elim (cases_lt place stopped.number) [
        | inl less ↦ done place was is (stopped.before place was is less there behind)
        | inr most ↦ elim (cases_lt stopped.number place) [
          | inl later ↦ subst (W place was) (one_value new place was is (stopped.later place later ∙ there) behind) (same place was there)
          | inr least ↦ at place was is (omega (arith, most, least)) there behind
        ]
      ];
    }
      where
        one : OneFrom (Q stopped.number fault) stopped.number old new
        one = stopped.stopped

        at : (place : ℕ) (was is : Volume D) → place ≡ stopped.number → slice_get old place ≡ Some was → slice_get new place ≡ Some is → W place was is
        at place was is here there behind =
            let was_same : one.was ≡ was = one_value old stopped.number one.was was one.there (ap (slice_get old) (sym here) ∙ there) in
            let is_same : one.is ≡ is = one_value new stopped.number one.is is one.behind (ap (slice_get new) (sym here) ∙ behind) in
            subst (λ (k : ℕ). W k was is) (sym here)
            (missed stopped.number was is
            (subst (λ (v : Volume D). Q stopped.number fault v is) was_same (subst (λ (v : Volume D). Q stopped.number fault one.was v) is_same one.by)))

-- ---- lists made of others

module _ {A B : Type 0} (f : A → B) where
  pub get-map : (xs : List A) (place : ℕ) (y : B) → slice_get (map f xs) place ≡ Some y → (x : A) × (slice_get xs place ≡ Some x) × (f x ≡ y)
  get-map [] place y there = absurd (nothing there)
    where
      nothing : slice_get (map f []) place ≡ Some y → ⊥
      nothing there = cc
  get-map (x ∷ xs) zero y there = (x, refl, (let e : f x ≡ y = cc in e))
  get-map (x ∷ xs) (suc place) y there = get-map xs place y there

  pub map-get : (xs : List A) (place : ℕ) (x : A) → slice_get xs place ≡ Some x → slice_get (map f xs) place ≡ Some (f x)
  map-get [] place x there = absurd (nothing there)
    where
      nothing : slice_get [] place ≡ Some x → ⊥
      nothing there = cc
  map-get (y ∷ xs) zero x there = let e : y ≡ x = cc in ap (λ (z : A). Some (f z)) e
  map-get (y ∷ xs) (suc place) x there = map-get xs place x there
