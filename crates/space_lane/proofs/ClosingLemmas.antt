-- What stops leave of a header that is closed.
use Rattle.std.proofs.Common.{◌≡◌, ℕ, ◌+◌, ◌-◌, ◌<◌, ◌≤◌, List, [], ◌∷◌, length, drop, min, refl, arith, sym, subst, ◌∙◌, ⊎_elim}
use mathlib.Core.Logic.{inl, inr}
use Rattle.std.proofs.lemmas.Bool.{cases_lt, cases_order}
use Rattle.std.proofs.lemmas.List.{take_all, length-drop}
use Rattle.site_disk.specs.Bytes.{extent, filled, Same, Torn}
use Rattle.site_disk.specs.BytesLaws.{torn_whole}
use Rattle.site_disk.specs.CallsLaws.{from_known}
use Rattle.site_disk.specs.Gates.{shut}
use Rattle.site_disk.specs.Images.{Seen, Leaves, OnlyAfter}
use Rattle.site_disk.specs.ImagesLaws.{goes_on, weaker}
use Rattle.gated_slots.specs.Header.{IsClosed, ClosedAfter, MayClose}
use Rattle.gated_slots.specs.HeaderLaws.{closed_elsewhere, closed_or_not}
use Rattle.space_lane.specs.Stops.{MayLose, StaysClosed}

same_behind : (old new : List ℕ) → ((len : ℕ) → extent 1 len new ≡ extent 1 len old) → drop 1 new ≡ drop 1 old
same_behind old new same =
    let n : ℕ = length old + length new in
    sym (take_all n (drop 1 new) (omega (arith, length-drop 1 new))) ∙ same n ∙ take_all n (drop 1 old) (omega (arith, length-drop 1 old))

-- the closing

loses_none : (bytes : List ℕ) → MayLose bytes bytes
loses_none bytes = record { header = λ header. record { header = header; same = refl } }

closing_loses : (old new : List ℕ) → (IsClosed old → ⊥) → MayClose old new → MayLose old new
closing_loses old new isnt may = record {
  header = λ header. ⊎_elim
      (λ (short : length old < 4096). absurd (may.none short header))
      (λ (long : 4096 ≤ length old). record {
        header = record { long = long; gate = λ shut. isnt (record { some = omega (arith, long); gate = shut }) };
        same = same_behind old new (λ (len : ℕ). may.torn.elsewhere 1 len (inr (omega arith)));
      })
      (cases_lt (length old) 4096);
}

module _ (e : ℕ) (old : ℕ → List ℕ → Type 0) where
  pub sync_loses : (new : ℕ → List ℕ → Type 0) → Leaves e Same old new → Leaves e MayLose old new
  sync_loses new call = weaker MayLose Same e old old new call (λ f d c lt image same. subst (λ (l : List ℕ). MayLose d l) (sym same) (loses_none d))

  -- the closing, after the sync
  pub close_loses : (bytes : List ℕ) (mid new : ℕ → List ℕ → Type 0) → Leaves e MayLose old mid → OnlyAfter e bytes mid → ((f : ℕ) → e < f → old f bytes)
      → Leaves e MayClose mid new → (IsClosed bytes → Leaves e Same mid new) → Leaves e MayLose old new
  close_loses bytes mid new before only was call still = ⊎_elim
      (λ closed. from_known MayLose Same e bytes bytes old mid new before only was (still closed) (λ c same. subst (λ (l : List ℕ). MayLose bytes l) (sym same) (loses_none bytes)))
      (λ isnt. from_known MayLose MayClose e bytes bytes old mid new before only was call (λ c may. closing_loses bytes c isnt may))
      (closed_or_not bytes)

-- closed it stays

pub closed_filled : (place : ℕ) (old : List ℕ) → IsClosed old → IsClosed (filled place old)
closed_filled place [] closed = absurd (omega (arith, closed.some))
closed_filled place (x ∷ old) closed = record { some = omega arith; gate = closed.gate }

pub closed_torn : (at n : ℕ) (old new : List ℕ) → 1 ≤ at → IsClosed old → Torn at n old new → IsClosed new
closed_torn at n old new behind closed torn = closed_elsewhere at n old new behind closed torn.no_shorter torn.elsewhere

pub closed_shut_elsewhere : (gate : ℕ) (old : List ℕ) → 1 ≤ gate → gate ≤ length old → IsClosed old → IsClosed (shut gate old)
closed_shut_elsewhere gate old behind within closed = closed_torn gate 1 old (shut gate old) behind closed (torn_whole gate (0 ∷ []) old within)

pub torn_stays : (at n e : ℕ) (old new : ℕ → List ℕ → Type 0) → 1 ≤ at → Leaves e (Torn at n) old new → Leaves e StaysClosed old new
torn_stays at n e old new behind call = weaker StaysClosed (Torn at n) e old old new call (λ f d c lt image torn closed. closed_torn at n d c behind closed torn)

pub fill_stays : (place e : ℕ) (bytes : List ℕ) (old new : ℕ → List ℕ → Type 0) → 1 ≤ place → IsClosed bytes
    → Leaves e (Torn (min place (length bytes)) (place - min place (length bytes))) old new → Leaves e StaysClosed old new
fill_stays place e bytes old new behind closed call =
    torn_stays (min place (length bytes)) (place - min place (length bytes)) e old new (omega (arith, behind, closed.some)) call

-- one call after another
pub stays_again : (e : ℕ) (old mid new : ℕ → List ℕ → Type 0) → Leaves e StaysClosed old mid → Leaves e StaysClosed mid new → Leaves e StaysClosed old new
stays_again e old mid new first second = goes_on StaysClosed StaysClosed e old mid new first second
    (λ f d c lt image stays. let was = first.later f d lt image in (was.0, was.1, λ closed. stays (was.2 closed)))

-- every later image is closed then
pub closed_after : (old new : Seen) (e : ℕ) → Leaves e StaysClosed old.images new.images → old.last ≤ new.last → ClosedAfter old → ClosedAfter new
closed_after old new e leaves le closed f c lt image = elim (cases_order f e) [
  | inl same ↦ ⊎_elim
      (λ was. closed e c (omega (arith, le, lt, same)) was)
      (λ step. step.2 (closed (e + 1) step.0 (omega (arith, le, lt, same)) step.1))
      (leaves.during c (subst (λ (g : ℕ). new.images g c) same image))
  | inr (inl before) ↦ closed f c (omega (arith, le, lt)) (leaves.earlier f c before image)
  | inr (inr after) ↦ let from = leaves.later f c after image in from.2 (closed f from.0 (omega (arith, le, lt)) from.1)
]
