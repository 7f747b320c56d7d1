-- Laws of disks that move: what they come to for the whole group.
use Rattle.std.specs.Prelude.{◌≡◌, ℕ, ◌+◌, ◌<◌, ◌≤◌, List, Bool, false}
use mathlib.Core.Logic.{inl, inr}
use Rattle.std.proofs.Common.{arith, refl, subst, sym, ⊎_elim}
use Rattle.std.proofs.lemmas.Bool.{cases_order, cases_Bool}
use Rattle.site_disk.specs.Images.{Leaves}
use Rattle.walks.specs.Follows.{Images, Showing, Clean, Follows, FollowsAmong, Goes, Comes}
use Rattle.walks.specs.Moving.{MovesOne, MovedOne, Phase}

module _ {Name W : Type 0} (shows : Showing Name W) where
  module _ (who : Name) (is_moving : Name → Bool) (from : ℕ) (old new : Images Name) (world : W) (passed : W → Type 0)
      (move : MovesOne shows who is_moving from old new world passed) where
    -- what holds of the disk that moves and of each of the others holds of every disk
    of_all : (P : Name → Type 0) → P who → ((name : Name) → is_moving name ≡ false → P name) → (name : Name) → P name
    of_all P moving rest name = elim (cases_Bool (is_moving name)) [
      | inl is ↦ subst P (sym (move.is_who name is)) moving
      | inr isnt ↦ rest name isnt
    ]

    earlier_of : (f : ℕ) (name : Name) (bytes : List ℕ) → f < from → new f name bytes → old f name bytes
    earlier_of f name = of_all (λ n. (bytes : List ℕ) → f < from → new f n bytes → old f n bytes)
        (λ bytes. move.earlier f bytes) (λ n isnt bytes lt image. move.others f n bytes isnt image) name

    -- a call of one disk goes from the world to those that it passes
    pub one_goes : Goes shows from old new world passed
    one_goes = record {
      earlier = earlier_of;
      later = λ f choice le images.
          let to = move.moves f (choice who) le (images who) in (
            to.0,
            to.1,
            of_all (λ n. Follows shows old f world to.0 n (choice n)) to.2
                (λ n isnt. let was = move.others f n (choice n) isnt (images n) in inr (was, to.3 n (choice n) isnt was)),
          );
    }

  -- and comes to the next one where it ended
  pub one_comes : (who : Name) (is_moving : Name → Bool) (from to : ℕ) (old new : Images Name) (world : W) (passed : W → Type 0) (next : W)
      → MovedOne shows who is_moving from to old new world passed next → Comes shows from to old new world passed next
  one_comes who is_moving from to old new world passed next moved = record {
    no_earlier = moved.no_earlier;
    goes = one_goes who is_moving from old new world passed moved.moves;
    ends = λ f name bytes le. of_all who is_moving from old new world passed moved.moves
        (λ n. (b : List ℕ) → new f n b → Follows shows old f world next n b)
        (λ b. moved.ends f b le)
        (λ n isnt b image. let was = moved.moves.others f n b isnt image in inr (was, moved.apart f le n b isnt was)) name bytes;
  }

  -- A disk whose call makes steps, each from what shows the world to what shows it still or one that is passed.
  pub leaves_moves : (who : Name) (from : ℕ) (step : List ℕ → List ℕ → Type 0) (old new : Images Name) (world : W) (passed : W → Type 0)
      (Rest : ℕ → W → Type 0)
      → Clean shows from old world
      → Leaves from step (λ f. old f who) (λ f. new f who)
      → passed world → ((f : ℕ) → Rest f world)
      → ((f : ℕ) (before bytes : List ℕ) → from ≤ f → shows who world before → step before bytes → (next : W) × passed next × shows who next bytes × Rest f next)
      → (f : ℕ) (bytes : List ℕ) → from ≤ f → new f who bytes → (next : W) × passed next × Follows shows old f world next who bytes × Rest f next
  leaves_moves who from step old new world passed Rest clean leaves counts rest steps f bytes le image = elim (cases_order from f) [
    | inl same ↦ subst (λ (g : ℕ). new g who bytes → To g) same at_era image
    | inr (inl later) ↦ let was = leaves.later f bytes later image in stepped f le was.0 (clean f who was.0 le was.1) was.2
    | inr (inr earlier) ↦ absurd (omega arith)
  ]
    where
      To : ℕ → Type 0
      To g = (next : W) × passed next × Follows shows old g world next who bytes × Rest g next

      stepped : (g : ℕ) → from ≤ g → (before : List ℕ) → shows who world before → step before bytes → To g
      stepped g ge before shown is = let to = steps g before bytes ge shown is in (to.0, to.1, inl to.2, to.3)

      at_era : new from who bytes → To from
      at_era now = ⊎_elim
          (λ was. (world, counts, inr (was, λ is. is), rest from))
          (λ was. stepped from (omega arith) was.0 (clean (from + 1) who was.0 (omega arith) was.1) was.2)
          (leaves.during bytes now)

  -- a phase passes every world of its places
  pub joined : {Place : Type 0} (world_at : (Name → Place) → W) (may : Name → Place → Type 0) (from : ℕ) (old new : Images Name) (world : W)
      (passed : W → Type 0) → Phase shows world_at may from old new world
      → ((places : Name → Place) → ((name : Name) → may name (places name)) → passed (world_at places))
      → Goes shows from old new world passed
  joined {Place} world_at may from old new world passed phase counts = record { earlier = phase.earlier; later = later }
    where
      later : (f : ℕ) (choice : Name → List ℕ) → from ≤ f → ((name : Name) → new f name (choice name)) → FollowsAmong shows old f world passed choice
      later f choice le images =
          let places : Name → Place = λ name. (phase.each f name (choice name) le (images name)).0 in
          let allowed : (name : Name) → may name (places name) = λ name. (phase.each f name (choice name) le (images name)).1 in (
            world_at places,
            counts places allowed,
            λ name. (phase.each f name (choice name) le (images name)).2 places allowed refl,
          )
