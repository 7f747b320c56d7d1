-- Laws of calls one after another.
use Rattle.std.specs.Prelude.{◌⊎◌, ℕ, ◌≤◌, List}
use mathlib.Core.Logic.{inl, inr}
use Rattle.std.proofs.Common.{arith, ⊎_elim}
use Rattle.std.proofs.lemmas.Bool.{cases_lt}
use Rattle.walks.specs.Follows.{Images, Showing, Clean, Follows, Goes, Comes}

module _ {Name W : Type 0} (shows : Showing Name W) where
  -- an image follows two calls where it follows each
  pub follows_after : (old mid : Images Name) (f : ℕ) (world between next : W) (name : Name) (bytes : List ℕ)
      → (mid f name bytes → Follows shows old f world between name bytes) → Follows shows mid f between next name bytes
      → Follows shows old f world next name bytes
  follows_after old mid f world between next name bytes first = ⊎_elim
      (λ is. inl is)
      (λ was. ⊎_elim (λ is. inl (was.1 is)) (λ before. inr (before.0, λ is. was.1 (before.1 is))) (first was.0))

  -- what was clean before a call that ended is clean after it
  pub clean_after : (from to : ℕ) (old new : Images Name) (world next : W) (passed : W → Type 0)
      → Clean shows from old world → Comes shows from to old new world passed next → Clean shows to new next
  clean_after from to old new world next passed clean comes f name bytes le image = ⊎_elim
      (λ is. is)
      (λ was. was.1 (clean f name bytes (let no_earlier = comes.no_earlier in omega arith) was.0))
      (comes.ends f name bytes le image)

  -- more worlds may be passed
  pub goes_wider : (from : ℕ) (old new : Images Name) (world : W) (passed more : W → Type 0) → ((w : W) → passed w → more w)
      → Goes shows from old new world passed → Goes shows from old new world more
  goes_wider from old new world passed more wider goes = record {
    earlier = goes.earlier;
    later = λ f choice le images. let among = goes.later f choice le images in (among.0, wider among.0 among.1, among.2);
  }

  -- a call that leaves no image that wasn't one stays in its world
  pub still : (from : ℕ) (old new : Images Name) (world : W) (passed : W → Type 0) → passed world
      → ((f : ℕ) (name : Name) (bytes : List ℕ) → new f name bytes → old f name bytes) → Goes shows from old new world passed
  still from old new world passed counts none = record {
    earlier = λ f name bytes lt image. none f name bytes image;
    later = λ f choice le images. (world, counts, λ name. inr (none f name (choice name) (images name), λ is. is));
  }

  pub comes_still : (from to : ℕ) (old new : Images Name) (world : W) (passed : W → Type 0) → from ≤ to → passed world
      → ((f : ℕ) (name : Name) (bytes : List ℕ) → new f name bytes → old f name bytes) → Comes shows from to old new world passed world
  comes_still from to old new world passed le counts none = record {
    no_earlier = le;
    goes = still from old new world passed counts none;
    ends = λ f name bytes le image. inr (none f name bytes image, λ is. is);
  }

  module _ (from mid_era : ℕ) (old mid new : Images Name) (world between : W) (first second : W → Type 0)
      (comes : Comes shows from mid_era old mid world first between) where
    -- a call behind one that ended, stopped anywhere
    pub goes_after : Goes shows mid_era mid new between second → Goes shows from old new world (λ w. first w ⊎ second w)
    goes_after goes = record {
      earlier = λ f name bytes lt image.
          let le = comes.no_earlier in comes.goes.earlier f name bytes lt (goes.earlier f name bytes (omega arith) image);
      later = λ f choice le images. elim (cases_lt f mid_era) [
        | inl before ↦
            let among = comes.goes.later f choice le (λ name. goes.earlier f name (choice name) before (images name)) in
            (among.0, inl among.1, among.2)
        | inr behind ↦
            let among = goes.later f choice behind images in (
              among.0,
              inr among.1,
              λ name. follows_after old mid f world between among.0 name (choice name)
                  (comes.ends f name (choice name) behind) (among.2 name),
            )
      ];
    }

    -- and ended
    pub comes_after : (to : ℕ) (next : W) → Comes shows mid_era to mid new between second next
        → Comes shows from to old new world (λ w. first w ⊎ second w) next
    comes_after to next then = record {
      no_earlier = (let a = comes.no_earlier in let b = then.no_earlier in omega arith);
      goes = goes_after then.goes;
      ends = λ f name bytes le image.
          follows_after old mid f world between next name bytes
          (comes.ends f name bytes (let b = then.no_earlier in omega arith)) (then.ends f name bytes le image);
    }
