-- What a stop within the formatting leaves, and what stands behind it.
use Rattle.std.proofs.Common.{◌≡◌, ◌⊎◌, ℕ, zero, suc, ◌+◌, ◌<◌, ◌≤◌, List, [], ◌∷◌, length, drop, get_or, Some, refl, arith, ap, sym, ◌∙◌, subst, ⊎_elim}
use mathlib.Core.Logic.{inl, inr}
use Rattle.std.proofs.lemmas.Bool.{cases_lt}
use Rattle.std.proofs.lemmas.List.{take_all, length-drop}
use Rattle.site_disk.specs.Bytes.{extent, written, Same, Torn}
use Rattle.site_disk.specs.BytesLaws.{extent-one, length-written, torn_whole}
use Rattle.site_disk.specs.CallsLaws.{from_known}
use Rattle.site_disk.specs.Images.{Leaves, OnlyAfter}
use Rattle.site_disk.specs.ImagesLaws.{weaker}
use Rattle.site_disk.specs.SeenLaws.{synced_after}
use Rattle.gated_slots.specs.Header.{IsHeader, IsClosed, StandsClosed, MayClose, MayOpen}
use Rattle.gated_slots.specs.HeaderLaws.{closed_no_header, first_by_extent, extent-header}
use Rattle.gated_slots.specs.Slots.{used, end_of_gates, Zeroes}
use Rattle.gated_slots.specs.SlotsLaws.{used_by_gates}
use Rattle.twin_mark.specs.Marks.{Stores, record_at, record_of}
use Rattle.site_headers.specs.Headers.{HasHeader, log_tail}
use Rattle.site_headers.specs.HeaderLaws.{HasHeader-extent}
use Rattle.log_mark.specs.declared.mark.LogMark.{LogMark}
use Rattle.log_mark.specs.Layout.{spelling as mark_spelling}
use Rattle.log_files.specs.Files.{LogFiles, AreFiles, mark_of, new_files}
use Rattle.log_files.specs.Ring.{area_of, HoldsFile, HoldsRing}
use Rattle.log_files.specs.RingLaws.{holds_none}
use Rattle.logical_log.specs.Formats.{MayUnformat, MayFormat}

-- closed headers

is_closed_or_not : (bytes : List ℕ) → IsClosed bytes ⊎ (IsClosed bytes → ⊥)
is_closed_or_not [] = inr (λ closed. absurd (omega (arith, closed.some)))
is_closed_or_not (zero ∷ bytes) = inl (record { some = omega arith; gate = refl })
is_closed_or_not (suc gate ∷ bytes) = inr (λ closed. absurd (omega (arith, closed.gate)))

pub closed_written : (old new : List ℕ) → new ≡ written 0 (0 ∷ []) old → IsClosed new
closed_written old new e =
    subst IsClosed (sym e) (record { some = omega (arith, length-written 0 (0 ∷ []) old (omega arith)); gate = refl })

pub closed_torn : (at n : ℕ) (old new : List ℕ) → 1 ≤ at → IsClosed old → Torn at n old new → IsClosed new
closed_torn at n old new le closed torn = record {
  some = omega (arith, closed.some, torn.no_shorter);
  gate = first_by_extent old new closed.some torn.no_shorter (torn.elsewhere 0 1 (inl (omega (arith, le)))) ∙ closed.gate;
}

pub closed_zeroes : (from to : ℕ) (old new : List ℕ) → 1 ≤ from → IsClosed old → Zeroes from to old new → IsClosed new
closed_zeroes from to old new le closed zeroes = record {
  some = omega (arith, closed.some, zeroes.long);
  gate = first_by_extent old new closed.some (omega (arith, zeroes.long)) (zeroes.elsewhere 0 1 (inl (omega (arith, le)))) ∙ closed.gate;
}

pub closed_stored : (base : ℕ) (content old new : List ℕ) → 1 ≤ base → IsClosed old → Stores base content old new → IsClosed new
closed_stored base content old new le closed stores = record {
  some = omega (arith, closed.some, stores.no_shorter);
  gate = first_by_extent old new closed.some stores.no_shorter (stores.elsewhere 0 1 (inl (omega (arith, le)))) ∙ closed.gate;
}

pub stands_closed : (last e : ℕ) (bytes : List ℕ) (image : ℕ → List ℕ → Type 0) → IsClosed bytes → OnlyAfter e bytes image → last ≤ e
    → ((f g : ℕ) (c : List ℕ) → last ≤ f → last < g → image g c → image f c) → StandsClosed (record { last = last; bytes = bytes; images = image })
stands_closed last e bytes image closed only le counts = record {
  now = closed;
  later = λ f c lt here. subst IsClosed (sym (synced_after (record { last = last; bytes = bytes; images = image }) e counts le only f c lt here)) closed;
}

-- headers

pub opened_header : (tail page old new : List ℕ) → length tail ≡ 4095 → length page ≡ 4096 → page ≡ 1 ∷ tail → new ≡ written 0 (1 ∷ drop 1 page) old → HasHeader tail new
opened_header tail page old new fills long is e =
    subst (HasHeader tail) (sym e)
    (HasHeader-extent 1 tail (written 0 (1 ∷ drop 1 page) old) (omega arith) fills (extent-header page old long ∙ ap (λ (l : List ℕ). 1 ∷ drop 1 l) is))

positive : (n : ℕ) → (n ≡ 0 → ⊥) → 0 < n
positive zero isnt = absurd (isnt refl)
positive (suc n) isnt = omega arith

pub header_with : (tail bytes : List ℕ) → IsHeader bytes → extent 1 4095 bytes ≡ tail → HasHeader tail bytes
header_with tail bytes header stands = record {
  gate = get_or bytes 0 0;
  is_open = positive (get_or bytes 0 0) header.gate;
  gate_stands = extent-one 0 bytes (omega (arith, header.long));
  tail_stands = stands;
}

same_behind : (old new : List ℕ) → ((len : ℕ) → extent 1 len new ≡ extent 1 len old) → drop 1 new ≡ drop 1 old
same_behind old new same =
    let n : ℕ = length old + length new in
    sym (take_all n (drop 1 new) (omega (arith, length-drop 1 new))) ∙ same n ∙ take_all n (drop 1 old) (omega (arith, length-drop 1 old))

-- what stops leave

unformats_none : (bytes : List ℕ) → MayUnformat bytes bytes
unformats_none bytes = record { header = λ header. record { header = header; same = refl } }

closing_unformats : (old new : List ℕ) → (IsClosed old → ⊥) → MayClose old new → MayUnformat old new
closing_unformats old new isnt may = record {
  header = λ header. ⊎_elim
      (λ (short : length old < 4096). absurd (may.none short header))
      (λ (long : 4096 ≤ length old). record {
        header = record { long = long; gate = λ shut. isnt (record { some = omega (arith, long); gate = shut }) };
        same = same_behind old new (λ (len : ℕ). may.torn.elsewhere 1 len (inr (omega arith)));
      })
      (cases_lt (length old) 4096);
}

module _ (e : ℕ) (old : ℕ → List ℕ → Type 0) where
  pub sync_stops : (new : ℕ → List ℕ → Type 0) → Leaves e Same old new → Leaves e MayUnformat old new
  sync_stops new call = weaker MayUnformat Same e old old new call
      (λ f d c lt image same. subst (λ (l : List ℕ). MayUnformat d l) (sym same) (unformats_none d))

  -- the closing, after the sync
  pub closing_stops : (bytes : List ℕ) (mid new : ℕ → List ℕ → Type 0) → Leaves e MayUnformat old mid → OnlyAfter e bytes mid → ((f : ℕ) → e < f → old f bytes)
      → Leaves e MayClose mid new → (IsClosed bytes → Leaves e Same mid new) → Leaves e MayUnformat old new
  closing_stops bytes mid new before only was call still = ⊎_elim
      (λ closed. from_known MayUnformat Same e bytes bytes old mid new before only was (still closed) (λ c same. subst (λ (l : List ℕ). MayUnformat bytes l) (sym same) (unformats_none bytes)))
      (λ isnt. from_known MayUnformat MayClose e bytes bytes old mid new before only was call (λ c may. closing_unformats bytes c isnt may))
      (is_closed_or_not bytes)

  -- whatever comes then and leaves the header closed
  pub closed_stops : (T : List ℕ → List ℕ → Type 0) (bytes closed : List ℕ) (mid new : ℕ → List ℕ → Type 0) → Leaves e MayUnformat old mid → OnlyAfter e closed mid
      → ((f : ℕ) → e < f → old f bytes) → Leaves e T mid new → ((c : List ℕ) → T closed c → IsClosed c) → Leaves e MayUnformat old new
  closed_stops T bytes closed mid new before only was call shut =
      from_known MayUnformat T e bytes closed old mid new before only was call
      (λ c step. record { header = λ header. absurd (closed_no_header c (shut c step) header) })

pub unformat_stops : (site : ℕ) (files : LogFiles) (e : ℕ) (old new : ℕ → List ℕ → Type 0) → Leaves e MayUnformat old new → Leaves e (MayFormat site files) old new
unformat_stops site files e old new call = weaker (MayFormat site files) MayUnformat e old old new call
    (λ f d c lt image may. record { header = λ header. inr (may.header header) })

-- a whole header page written
pub page_torn : (page old new : List ℕ) → length page ≡ 4096 → new ≡ written 0 (1 ∷ drop 1 page) old → Torn 0 4096 old new
page_torn page old new long is =
    subst (λ (l : List ℕ). Torn 0 4096 old l) (sym is)
    (subst (λ (n : ℕ). Torn 0 n old (written 0 (1 ∷ drop 1 page) old)) (omega (arith, long, length-drop 1 page)) (torn_whole 0 (1 ∷ drop 1 page) old (omega arith)))

-- the new log

module _ (site file first time : ℕ) (mark : LogMark) (mid : List ℕ) (fits : AreFiles (new_files file first time)) (stands : record_at 4096 mid ≡ Some (mark_spelling mark))
    (is : mark ≡ mark_of (new_files file first time)) (none : used (area_of file) mid ≡ 0) (long : end_of_gates (area_of file) ≤ length mid) where
  -- where nothing behind the header page has changed since then
  pub new_ring : (new : List ℕ) → ((from len : ℕ) → 4096 ≤ from → extent from len new ≡ extent from len mid) → length mid ≤ length new → HasHeader (log_tail site) new
      → HoldsRing site (new_files file first time) new
  new_ring new same no_shorter header =
      let unused : used (area_of file) new ≡ 0 = used_by_gates (area_of file) mid new (same (area_of file).gates 256 (omega arith)) ∙ none in record {
        fits = fits;
        header = header;
        mark = ap record_of (same 4096 1024 (omega arith)) ∙ stands ∙ ap (λ (m : LogMark). Some (mark_spelling m)) is;
        past = tt;
        current = subst (λ (k : ℕ). HoldsFile k [] new) (omega arith) (holds_none file new unused (omega (arith, long, no_shorter)));
      }

  pub format_stops : (page bytes : List ℕ) (e : ℕ) (old between new : ℕ → List ℕ → Type 0) → drop 1 page ≡ log_tail site → Leaves e MayUnformat old between → OnlyAfter e mid between
      → ((f : ℕ) → e < f → old f bytes) → Leaves e (MayOpen page) between new → Leaves e (MayFormat site (new_files file first time)) old new
  format_stops page bytes e old between new tail before only was call =
      from_known (MayFormat site (new_files file first time)) (MayOpen page) e bytes mid old between new (unformat_stops site (new_files file first time) e old between before) only was call
      (λ c may. record { header = λ header. inl (new_ring c may.elsewhere may.no_shorter (header_with (log_tail site) c header (may.header header ∙ tail))) })
