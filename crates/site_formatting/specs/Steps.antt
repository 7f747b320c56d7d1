-- What has become of things that may be there or not, and of those of a list, one after another.
use Rattle.std.specs.Prelude.{◌≡◌, ℕ, ◌<◌, ◌≤◌, List, length, slice_get, Option, None, Some}

module _ {A : Type 0} where
  -- neither is there, or one has become the other in this way
  abbrev pub Both : (A → A → Type 0) → Option A → Option A → Type 0
  Both P None None = Unit {0}
  Both P None (Some is) = ⊥
  Both P (Some was) None = ⊥
  Both P (Some was) (Some is) = P was is

  -- this holds of each, by its place
  abbrev pub OfEach : (ℕ → A → Type 0) → List A → Type 0
  OfEach P items = (place : ℕ) (item : A) → slice_get items place ≡ Some item → P place item

  -- the one at a place has become another, and the others are as they were
  pub record Changes (P : A → A → Type 0) (place : ℕ) (old new : List A) : Type 0 where
    pub count : length new ≡ length old
    pub here : Both P (slice_get old place) (slice_get new place)
    pub elsewhere : (other : ℕ) → (other ≡ place → ⊥) → slice_get new other ≡ slice_get old other

  -- each of the first ones has become another, and the others are as they were
  pub record FirstFrom (P : ℕ → A → A → Type 0) (n : ℕ) (old new : List A) : Type 0 where
    pub count : length new ≡ length old
    pub done : (place : ℕ) → place < n → Both (P place) (slice_get old place) (slice_get new place)
    pub rest : (place : ℕ) → n ≤ place → slice_get new place ≡ slice_get old place

  -- it stopped at one below a count
  pub record StopsAt (P Q : ℕ → A → A → Type 0) (n : ℕ) (old new : List A) : Type 0 where
    pub number : ℕ
    pub within : number < n
    pub mid : List A
    pub first : FirstFrom P number old mid
    pub one : Changes (Q number) number mid new
