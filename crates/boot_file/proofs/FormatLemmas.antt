-- What a stop within the formatting leaves, and what stands behind it.
use Rattle.std.proofs.Common.{◌≡◌, ◌⊎◌, ℕ, zero, suc, ◌+◌, ◌*◌, ◌<◌, ◌≤◌, List, [], ◌∷◌, length, drop, get_or, None, Some, refl, arith, ap, sym, ◌∙◌, subst, ⊎_elim}
use mathlib.Core.Logic.{inl, inr}
use Rattle.std.proofs.lemmas.Bool.{cases_lt}
use Rattle.std.proofs.lemmas.List.{take_all, length-drop, length-replicate}
use Rattle.site_disk.specs.Bytes.{extent, written, Same, Torn}
use Rattle.site_disk.specs.BytesLaws.{extent-one, torn_whole}
use Rattle.site_disk.specs.CallsLaws.{from_known}
use Rattle.site_disk.specs.Images.{Leaves, OnlyAfter}
use Rattle.site_disk.specs.ImagesLaws.{weaker}
use Rattle.gated_slots.specs.Header.{IsHeader, IsClosed, MayClose, MayOpen}
use Rattle.gated_slots.specs.HeaderLaws.{closed_no_header, closed_or_not, extent-header}
use Rattle.gated_slots.specs.Slots.{used, end_of_gates}
use Rattle.gated_slots.specs.SlotsLaws.{used_by_gates}
use Rattle.twin_mark.specs.Marks.{record_at, record_of}
use Rattle.site_headers.specs.Headers.{HasHeader, no_own}
use Rattle.site_headers.specs.HeaderLaws.{HasHeader-extent, length-HasHeader, length-header_tail}
use Rattle.boot_lines.specs.MarkLayout.{IsMark, spelling as mark_spelling}
use Rattle.boot_file.specs.Places.{boot_tail, lines_area, HoldsBoot}
use Rattle.boot_file.specs.Formats.{MayUnformat, MayFormat}

-- headers

length-no_own : length no_own ≡ 4080
unfolding no_own
length-no_own = length-replicate {A = ℕ} 4080 0

pub length-boot_tail : (site : ℕ) → length (boot_tail site) ≡ 4095
length-boot_tail site = length-header_tail 3 0 site no_own length-no_own

pub opened_header : (tail page old new : List ℕ) → length tail ≡ 4095 → length page ≡ 4096 → page ≡ 1 ∷ tail → new ≡ written 0 (1 ∷ drop 1 page) old → HasHeader tail new
opened_header tail page old new fills long is e =
    subst (HasHeader tail) (sym e)
    (HasHeader-extent 1 tail (written 0 (1 ∷ drop 1 page) old) (omega arith) fills (extent-header page old long ∙ ap (λ (l : List ℕ). 1 ∷ drop 1 l) is))

positive : (n : ℕ) → (n ≡ 0 → ⊥) → 0 < n
positive zero isnt = absurd (isnt refl)
positive (suc n) isnt = omega arith

pub header_with : (tail bytes : List ℕ) → IsHeader bytes → extent 1 4095 bytes ≡ tail → HasHeader tail bytes
header_with tail bytes header stands = record {
  gate = get_or bytes 0 0;
  is_open = positive (get_or bytes 0 0) header.gate;
  gate_stands = extent-one 0 bytes (omega (arith, header.long));
  tail_stands = stands;
}

-- a disk with a header has an open page
pub is_header : (tail file : List ℕ) → length tail ≡ 4095 → HasHeader tail file → IsHeader file
is_header tail file fills has =
    let long : 4096 ≤ length file = length-HasHeader tail file fills has in record {
      long = long;
      gate = λ (shut : get_or file 0 0 ≡ 0).
          let gate : get_or file 0 0 ∷ [] ≡ has.gate ∷ [] = sym (extent-one 0 file (omega arith)) ∙ has.gate_stands in
          let same : get_or file 0 0 ≡ has.gate = cc in
          absurd (omega (arith, same, has.is_open));
    }

same_behind : (old new : List ℕ) → ((len : ℕ) → extent 1 len new ≡ extent 1 len old) → drop 1 new ≡ drop 1 old
same_behind old new same =
    let n : ℕ = length old + length new in
    sym (take_all n (drop 1 new) (omega (arith, length-drop 1 new))) ∙ same n ∙ take_all n (drop 1 old) (omega (arith, length-drop 1 old))

-- what stops leave

unformats_none : (bytes : List ℕ) → MayUnformat bytes bytes
unformats_none bytes = record { header = λ header. record { header = header; same = refl } }

closing_unformats : (old new : List ℕ) → (IsClosed old → ⊥) → MayClose old new → MayUnformat old new
closing_unformats old new isnt may = record {
  header = λ header. ⊎_elim
      (λ (short : length old < 4096). absurd (may.none short header))
      (λ (long : 4096 ≤ length old). record {
        header = record { long = long; gate = λ shut. isnt (record { some = omega (arith, long); gate = shut }) };
        same = same_behind old new (λ (len : ℕ). may.torn.elsewhere 1 len (inr (omega arith)));
      })
      (cases_lt (length old) 4096);
}

module _ (e : ℕ) (old : ℕ → List ℕ → Type 0) where
  pub sync_stops : (new : ℕ → List ℕ → Type 0) → Leaves e Same old new → Leaves e MayUnformat old new
  sync_stops new call = weaker MayUnformat Same e old old new call
      (λ f d c lt image same. subst (λ (l : List ℕ). MayUnformat d l) (sym same) (unformats_none d))

  -- the closing, after the sync
  pub closing_stops : (bytes : List ℕ) (mid new : ℕ → List ℕ → Type 0) → Leaves e MayUnformat old mid → OnlyAfter e bytes mid → ((f : ℕ) → e < f → old f bytes)
      → Leaves e MayClose mid new → (IsClosed bytes → Leaves e Same mid new) → Leaves e MayUnformat old new
  closing_stops bytes mid new before only was call still = ⊎_elim
      (λ closed. from_known MayUnformat Same e bytes bytes old mid new before only was (still closed) (λ c same. subst (λ (l : List ℕ). MayUnformat bytes l) (sym same) (unformats_none bytes)))
      (λ isnt. from_known MayUnformat MayClose e bytes bytes old mid new before only was call (λ c may. closing_unformats bytes c isnt may))
      (closed_or_not bytes)

  -- whatever comes then and leaves the header closed
  pub closed_stops : (T : List ℕ → List ℕ → Type 0) (bytes closed : List ℕ) (mid new : ℕ → List ℕ → Type 0) → Leaves e MayUnformat old mid → OnlyAfter e closed mid
      → ((f : ℕ) → e < f → old f bytes) → Leaves e T mid new → ((c : List ℕ) → T closed c → IsClosed c) → Leaves e MayUnformat old new
  closed_stops T bytes closed mid new before only was call shut =
      from_known MayUnformat T e bytes closed old mid new before only was call
      (λ c step. record { header = λ header. absurd (closed_no_header c (shut c step) header) })

pub unformat_stops : (site e : ℕ) (old new : ℕ → List ℕ → Type 0) → Leaves e MayUnformat old new → Leaves e (MayFormat site) old new
unformat_stops site e old new call = weaker (MayFormat site) MayUnformat e old old new call
    (λ f d c lt image may. record { header = λ header. inr (may.header header) })

-- a whole header page written
pub page_torn : (page old new : List ℕ) → length page ≡ 4096 → new ≡ written 0 (1 ∷ drop 1 page) old → Torn 0 4096 old new
page_torn page old new long is =
    subst (λ (l : List ℕ). Torn 0 4096 old l) (sym is)
    (subst (λ (n : ℕ). Torn 0 n old (written 0 (1 ∷ drop 1 page) old)) (omega (arith, long, length-drop 1 page)) (torn_whole 0 (1 ∷ drop 1 page) old (omega arith)))

-- the new boot file

pub no_restore : IsMark 0 None
no_restore = record { bounded = omega arith; follows = tt }

module _ (site : ℕ) (mid : List ℕ) (stands : record_at 4096 mid ≡ Some (mark_spelling 0 None)) (none : used lines_area mid ≡ 0) (long : end_of_gates lines_area ≤ length mid) where
  -- where nothing behind the header page has changed since then
  pub new_boot : (new : List ℕ) → ((from len : ℕ) → 4096 ≤ from → extent from len new ≡ extent from len mid) → length mid ≤ length new → HasHeader (boot_tail site) new
      → HoldsBoot site [] 0 None new
  new_boot new same no_shorter header =
      let unused : used lines_area new ≡ 0 = used_by_gates lines_area mid new (same 8192 65536 (omega arith)) ∙ none in record {
        header = header;
        mark = record { is_mark = no_restore; stands = ap record_of (same 4096 1024 (omega arith)) ∙ stands };
        slots = record {
          each = tt;
          used = unused;
          slots = ap (λ (k : ℕ). extent 73728 (128 * k) new) unused;
          reaches = omega (arith, long, no_shorter);
        };
      }

  pub format_stops : (page bytes : List ℕ) (e : ℕ) (old between new : ℕ → List ℕ → Type 0) → drop 1 page ≡ boot_tail site → Leaves e MayUnformat old between → OnlyAfter e mid between
      → ((f : ℕ) → e < f → old f bytes) → Leaves e (MayOpen page) between new → Leaves e (MayFormat site) old new
  format_stops page bytes e old between new tail before only was call =
      from_known (MayFormat site) (MayOpen page) e bytes mid old between new (unformat_stops site e old between before) only was call
      (λ c may. record { header = λ header. inl (new_boot c may.elsewhere may.no_shorter (header_with (boot_tail site) c header (may.header header ∙ tail))) })
