-- What a stop within the formatting of a volume leaves.
use Rattle.std.proofs.Common.{◌≡◌, ◌⊎◌, ℕ, zero, suc, ◌+◌, ◌<◌, ◌≤◌, List, [], ◌∷◌, length, drop, refl, arith, ap, sym, ◌∙◌, subst, ⊎_elim, get_or}
use mathlib.Core.Logic.{inl, inr}
use Rattle.std.proofs.lemmas.Bool.{cases_lt}
use Rattle.site_disk.specs.Bytes.{extent, written, Same}
use Rattle.site_disk.specs.BytesLaws.{extent-one, torn_whole}
use Rattle.site_disk.specs.CallsLaws.{from_known}
use Rattle.site_disk.specs.Images.{Leaves, OnlyAfter}
use Rattle.site_disk.specs.ImagesLaws.{weaker}
use Rattle.gated_slots.specs.Header.{IsHeader, IsClosed, MayClose, MayOpen}
use Rattle.site_headers.specs.Headers.{volume_tail, IsVolumeSize, HasHeader}
use Rattle.object_volume.specs.Headers.{HasVolume, HasNoVolume, MayFormat}
use Rattle.object_volume.proofs.EndingLemmas.{volume_has_header}

is_closed_or_not : (file : List ℕ) → IsClosed file ⊎ (IsClosed file → ⊥)
is_closed_or_not [] = inr (λ closed. absurd (omega (arith, closed.some)))
is_closed_or_not (zero ∷ file) = inl (record { some = omega arith; gate = refl })
is_closed_or_not (suc gate ∷ file) = inr (λ closed. absurd (omega (arith, closed.gate)))

is_header_or_not : (file : List ℕ) → IsHeader file ⊎ (IsHeader file → ⊥)
is_header_or_not [] = inr (λ header. absurd (omega (arith, header.long)))
is_header_or_not (zero ∷ file) = inr (λ header. header.gate refl)
is_header_or_not (suc gate ∷ file) = elim (cases_lt (length (suc gate ∷ file)) 4096) [
  | inl short ↦ inr (λ header. absurd (omega (arith, header.long, short)))
  | inr long ↦ inl (record { long = omega (arith, long); gate = λ none. absurd (omega (arith, none)) })
]

positive : (n : ℕ) → (n ≡ 0 → ⊥) → 0 < n
positive zero isnt = absurd (isnt refl)
positive (suc n) isnt = omega arith

-- a page with an open gate is a header of what stands behind it
header_of : (tail file : List ℕ) → IsHeader file → extent 1 4095 file ≡ tail → HasHeader tail file
header_of tail file header stands = record {
  gate = get_or file 0 0;
  is_open = positive (get_or file 0 0) header.gate;
  gate_stands = extent-one 0 file (omega (arith, header.long));
  tail_stands = stands;
}

module _ (tail : List ℕ) where
  formats_none : (file : List ℕ) → MayFormat tail file file
  formats_none file = record {
    header = λ header. inr (header, refl);
    elsewhere = λ from len le. refl;
    no_shorter = omega arith;
  }

  -- a stop within the closing of a gate that isn't closed
  closing_formats : (old new : List ℕ) → (IsClosed old → ⊥) → MayClose old new → MayFormat tail old new
  closing_formats old new isnt may = record {
    header = λ header. ⊎_elim
        (λ (short : length old < 4096). absurd (may.none short header))
        (λ (long : 4096 ≤ length old). inr (was_header long, may.torn.elsewhere 1 4095 (inr (omega arith))))
        (cases_lt (length old) 4096);
    elsewhere = λ from len le. may.torn.elsewhere from len (inr (omega (arith, le)));
    no_shorter = may.torn.no_shorter;
  }
    where
      was_header : 4096 ≤ length old → IsHeader old
      was_header long = record { long = long; gate = λ shut. isnt (record { some = omega (arith, long); gate = shut }) }

  -- and within the opening of a closed one
  opening_formats : (page old closed new : List ℕ) → drop 1 page ≡ tail → closed ≡ written 0 (0 ∷ []) old → MayOpen page closed new → MayFormat tail old new
  opening_formats page old closed new is wrote may =
      let torn = torn_whole 0 (0 ∷ []) old (omega arith) in
      record {
        header = λ header. inl (may.header header ∙ is);
        elsewhere = λ from len le. may.elsewhere from len le ∙ ap (extent from len) wrote ∙ torn.elsewhere from len (inr (omega (arith, le)));
        no_shorter = omega (arith, may.no_shorter, ap length wrote, torn.no_shorter);
      }

  module _ (e : ℕ) (old : ℕ → List ℕ → Type 0) where
    -- the sync
    pub sync_stops : (new : ℕ → List ℕ → Type 0) → Leaves e Same old new → Leaves e (MayFormat tail) old new
    sync_stops new call = weaker (MayFormat tail) Same e old old new call
        (λ f d c lt image same. subst (λ (l : List ℕ). MayFormat tail d l) (sym same) (formats_none d))

    -- then the closing
    pub closing_stops : (bytes : List ℕ) (mid new : ℕ → List ℕ → Type 0) → Leaves e (MayFormat tail) old mid → OnlyAfter e bytes mid → ((f : ℕ) → e < f → old f bytes)
        → Leaves e MayClose mid new → (IsClosed bytes → Leaves e Same mid new) → Leaves e (MayFormat tail) old new
    closing_stops bytes mid new before only was call still = ⊎_elim
        (λ closed. from_known (MayFormat tail) Same e bytes bytes old mid new before only was (still closed) (λ c same. subst (λ (l : List ℕ). MayFormat tail bytes l) (sym same) (formats_none bytes)))
        (λ isnt. from_known (MayFormat tail) MayClose e bytes bytes old mid new before only was call (λ c may. closing_formats bytes c isnt may))
        (is_closed_or_not bytes)

    -- then the opening
    pub opening_stops : (page bytes closed : List ℕ) (mid new : ℕ → List ℕ → Type 0) → Leaves e (MayFormat tail) old mid → OnlyAfter e closed mid → ((f : ℕ) → e < f → old f bytes)
        → drop 1 page ≡ tail → closed ≡ written 0 (0 ∷ []) bytes → Leaves e (MayOpen page) mid new → Leaves e (MayFormat tail) old new
    opening_stops page bytes closed mid new before only was is wrote call =
        from_known (MayFormat tail) (MayOpen page) e bytes closed old mid new before only was call (λ c may. opening_formats page bytes closed c is wrote may)

-- a blank volume is blank or whole then
module _ (number site blocks : ℕ) (size : IsVolumeSize blocks) where
  step_leaves : (old new : List ℕ) → HasNoVolume number site old → MayFormat (volume_tail number site blocks) old new → HasNoVolume number site new ⊎ HasVolume number site blocks new
  step_leaves old new none may = ⊎_elim
      (λ header. ⊎_elim
      (λ this. inr (record { size = size; header = header_of (volume_tail number site blocks) new header this }))
      (λ was. inl (λ named has. none named (record { size = has.size; header = header_of (volume_tail number site named) old was.0 (sym was.1 ∙ has.header.tail_stands) })))
      (may.header header))
      (λ isnt. inl (λ named has. isnt (volume_has_header number site named new new refl has)))
      (is_header_or_not new)

  pub leaves_blank_or_whole : (e : ℕ) (old new : ℕ → List ℕ → Type 0) → Leaves e (MayFormat (volume_tail number site blocks)) old new → ((f : ℕ) (c : List ℕ) → e < f → old f c → old e c)
      → ((c : List ℕ) → old e c → HasNoVolume number site c) → (f : ℕ) (c : List ℕ) → e ≤ f → new f c → HasNoVolume number site c ⊎ HasVolume number site blocks c
  leaves_blank_or_whole e old new call counts none f c le image = ⊎_elim
      (λ (after : e < f). let from = call.later f c after image in stepped f from.0 c after from.1 from.2)
      (λ (not_after : f ≤ e). let same : f ≡ e = omega arith in during_era c (subst (λ (k : ℕ). new k c) same image))
      (cases_lt e f)
    where
      stepped : (f : ℕ) (d c : List ℕ) → e < f → old f d → MayFormat (volume_tail number site blocks) d c → HasNoVolume number site c ⊎ HasVolume number site blocks c
      stepped f d c lt image step = step_leaves d c (none d (counts f d lt image)) step

      during_era : (c : List ℕ) → new e c → HasNoVolume number site c ⊎ HasVolume number site blocks c
      during_era c image = ⊎_elim (λ was. inl (none c was)) (λ from. stepped (e + 1) from.0 c (omega arith) from.1 from.2) (call.during c image)
