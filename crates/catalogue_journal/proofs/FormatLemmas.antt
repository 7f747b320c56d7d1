-- What a stop within the formatting of the catalogue's disks leaves.
use Rattle.std.proofs.Common.{◌≡◌, ◌⊎◌, ℕ, zero, suc, ◌+◌, ◌*◌, ◌<◌, ◌≤◌, List, [], ◌∷◌, length, drop, replicate, get_or, Some, refl, arith, ap, sym, ◌∙◌, subst, ⊎_elim}
use Rattle.std.specs.Prelude.{Result, Ok, Err, OnOk}
use mathlib.Core.Logic.{inl, inr}
use Rattle.std.proofs.lemmas.Bool.{cases_lt}
use Rattle.std.proofs.lemmas.List.{take_all, length-drop}
use Rattle.site_disk.specs.Bytes.{extent, written, Same, Torn}
use Rattle.site_disk.specs.BytesLaws.{extent-one, extent-written, length-written, torn_whole}
use Rattle.site_disk.specs.CallsLaws.{from_known}
use Rattle.site_disk.specs.Images.{Leaves, OnlyAfter}
use Rattle.site_disk.specs.ImagesLaws.{weaker}
use Rattle.gated_slots.specs.Header.{IsHeader, IsClosed, StandsClosed, MayClose, MayOpen}
use Rattle.gated_slots.specs.HeaderLaws.{closed_no_header, first_by_extent, extent-header}
use Rattle.gated_slots.specs.Slots.{used, Zeroes}
use Rattle.gated_slots.specs.SlotsLaws.{used_by_gates, held_by_slots}
use Rattle.twin_mark.specs.Marks.{Stores, record_at, record_of}
use Rattle.site_headers.specs.Headers.{HasHeader}
use Rattle.site_headers.specs.HeaderLaws.{HasHeader-extent}
use Rattle.catalogue_replay.specs.Contents.{Contents, empty}
use Rattle.catalogue_replay.specs.Journal.{fresh}
use Rattle.catalogue_replay.specs.Places.{area_of, area_record, NamesArea, Journals}
use Rattle.catalogue_replay.proofs.SameLemmas.{kept}
use Rattle.site_disk.specs.SeenLaws.{synced_after}
use Rattle.catalogue_journal.specs.Formats.{MayUnformat, MayFormat, MayPublish}

-- closed headers

is_closed_or_not : (bytes : List ℕ) → IsClosed bytes ⊎ (IsClosed bytes → ⊥)
is_closed_or_not [] = inr (λ closed. absurd (omega (arith, closed.some)))
is_closed_or_not (zero ∷ bytes) = inl (record { some = omega arith; gate = refl })
is_closed_or_not (suc gate ∷ bytes) = inr (λ closed. absurd (omega (arith, closed.gate)))

pub closed_written : (old new : List ℕ) → new ≡ written 0 (0 ∷ []) old → IsClosed new
closed_written old new e =
    subst IsClosed (sym e) (record { some = omega (arith, length-written 0 (0 ∷ []) old (omega arith)); gate = refl })

pub closed_torn : (at n : ℕ) (old new : List ℕ) → 1 ≤ at → IsClosed old → Torn at n old new → IsClosed new
closed_torn at n old new le closed torn = record {
  some = omega (arith, closed.some, torn.no_shorter);
  gate = first_by_extent old new closed.some torn.no_shorter (torn.elsewhere 0 1 (inl (omega (arith, le)))) ∙ closed.gate;
}

pub closed_zeroes : (from to : ℕ) (old new : List ℕ) → 1 ≤ from → IsClosed old → Zeroes from to old new → IsClosed new
closed_zeroes from to old new le closed zeroes = record {
  some = omega (arith, closed.some, zeroes.long);
  gate = first_by_extent old new closed.some (omega (arith, zeroes.long)) (zeroes.elsewhere 0 1 (inl (omega (arith, le)))) ∙ closed.gate;
}

pub closed_stored : (base : ℕ) (content old new : List ℕ) → 1 ≤ base → IsClosed old → Stores base content old new → IsClosed new
closed_stored base content old new le closed stores = record {
  some = omega (arith, closed.some, stores.no_shorter);
  gate = first_by_extent old new closed.some stores.no_shorter (stores.elsewhere 0 1 (inl (omega (arith, le)))) ∙ closed.gate;
}

pub stands_closed : (last e : ℕ) (bytes : List ℕ) (image : ℕ → List ℕ → Type 0) → IsClosed bytes → OnlyAfter e bytes image → last ≤ e
    → ((f g : ℕ) (c : List ℕ) → last ≤ f → last < g → image g c → image f c) → StandsClosed (record { last = last; bytes = bytes; images = image })
stands_closed last e bytes image closed only le counts = record {
  now = closed;
  later = λ f c lt here. subst IsClosed (sym (synced_after (record { last = last; bytes = bytes; images = image }) e counts le only f c lt here)) closed;
}

-- headers

pub opened_header : (tail page old new : List ℕ) → length tail ≡ 4095 → length page ≡ 4096 → page ≡ 1 ∷ tail → new ≡ written 0 (1 ∷ drop 1 page) old → HasHeader tail new
opened_header tail page old new fills long is e =
    subst (HasHeader tail) (sym e)
    (HasHeader-extent 1 tail (written 0 (1 ∷ drop 1 page) old) (omega arith) fills (extent-header page old long ∙ ap (λ (l : List ℕ). 1 ∷ drop 1 l) is))

positive : (n : ℕ) → (n ≡ 0 → ⊥) → 0 < n
positive zero isnt = absurd (isnt refl)
positive (suc n) isnt = omega arith

pub header_with : (tail bytes : List ℕ) → IsHeader bytes → extent 1 4095 bytes ≡ tail → HasHeader tail bytes
header_with tail bytes header stands = record {
  gate = get_or bytes 0 0;
  is_open = positive (get_or bytes 0 0) header.gate;
  gate_stands = extent-one 0 bytes (omega (arith, header.long));
  tail_stands = stands;
}

same_behind : (old new : List ℕ) → ((len : ℕ) → extent 1 len new ≡ extent 1 len old) → drop 1 new ≡ drop 1 old
same_behind old new same =
    let n : ℕ = length old + length new in
    sym (take_all n (drop 1 new) (omega (arith, length-drop 1 new))) ∙ same n ∙ take_all n (drop 1 old) (omega (arith, length-drop 1 old))

-- what stops leave

unformats_none : (bytes : List ℕ) → MayUnformat bytes bytes
unformats_none bytes = record { header = λ header. record { header = header; same = refl } }

closing_unformats : (old new : List ℕ) → (IsClosed old → ⊥) → MayClose old new → MayUnformat old new
closing_unformats old new isnt may = record {
  header = λ header. ⊎_elim
      (λ (short : length old < 4096). absurd (may.none short header))
      (λ (long : 4096 ≤ length old). record {
        header = record { long = long; gate = λ shut. isnt (record { some = omega (arith, long); gate = shut }) };
        same = same_behind old new (λ (len : ℕ). may.torn.elsewhere 1 len (inr (omega arith)));
      })
      (cases_lt (length old) 4096);
}

module _ (e : ℕ) (old : ℕ → List ℕ → Type 0) where
  pub sync_stops : (new : ℕ → List ℕ → Type 0) → Leaves e Same old new → Leaves e MayUnformat old new
  sync_stops new call = weaker MayUnformat Same e old old new call
      (λ f d c lt image same. subst (λ (l : List ℕ). MayUnformat d l) (sym same) (unformats_none d))

  -- the closing, after the sync
  pub closing_stops : (bytes : List ℕ) (mid new : ℕ → List ℕ → Type 0) → Leaves e MayUnformat old mid → OnlyAfter e bytes mid → ((f : ℕ) → e < f → old f bytes)
      → Leaves e MayClose mid new → (IsClosed bytes → Leaves e Same mid new) → Leaves e MayUnformat old new
  closing_stops bytes mid new before only was call still = ⊎_elim
      (λ closed. from_known MayUnformat Same e bytes bytes old mid new before only was (still closed) (λ c same. subst (λ (l : List ℕ). MayUnformat bytes l) (sym same) (unformats_none bytes)))
      (λ isnt. from_known MayUnformat MayClose e bytes bytes old mid new before only was call (λ c may. closing_unformats bytes c isnt may))
      (is_closed_or_not bytes)

  -- whatever comes then and leaves the header closed
  pub closed_stops : (T : List ℕ → List ℕ → Type 0) (bytes closed : List ℕ) (mid new : ℕ → List ℕ → Type 0) → Leaves e MayUnformat old mid → OnlyAfter e closed mid
      → ((f : ℕ) → e < f → old f bytes) → Leaves e T mid new → ((c : List ℕ) → T closed c → IsClosed c) → Leaves e MayUnformat old new
  closed_stops T bytes closed mid new before only was call shut =
      from_known MayUnformat T e bytes closed old mid new before only was call
      (λ c step. record { header = λ header. absurd (closed_no_header c (shut c step) header) })

  pub spare_closing_stops : (tail : List ℕ) (new : ℕ → List ℕ → Type 0) → Leaves e MayUnformat old new → Leaves e (MayFormat tail) old new
  spare_closing_stops tail new call = weaker (MayFormat tail) MayUnformat e old old new call
      (λ f d c lt image may. record { header = λ header. inr (may.header header) })

  -- the opening of the spare disk's header
  pub opening_stops : (tail page bytes closed : List ℕ) (mid new : ℕ → List ℕ → Type 0) → drop 1 page ≡ tail → Leaves e MayUnformat old mid → OnlyAfter e closed mid
      → ((f : ℕ) → e < f → old f bytes) → Leaves e (MayOpen page) mid new → Leaves e (MayFormat tail) old new
  opening_stops tail page bytes closed mid new is before only was call =
      from_known (MayFormat tail) (MayOpen page) e bytes closed old mid new (spare_closing_stops tail mid before) only was call
      (λ c may. record { header = λ header. inl (header_with tail c header (may.header header ∙ is)) })

  -- and of the catalogue's
  pub publishing_stops : (tail page : List ℕ) (new : ℕ → List ℕ → Type 0) → drop 1 page ≡ tail → Leaves e (MayOpen page) old new → Leaves e (MayPublish tail) old new
  publishing_stops tail page new is call = weaker (MayPublish tail) (MayOpen page) e old old new call
      (λ f d c lt image may. record {
        header = λ header. header_with tail c header (may.header header ∙ is);
        elsewhere = may.elsewhere;
        no_shorter = may.no_shorter;
      })

-- what stands after it

pub empty_journal : (capacity : ℕ) (bytes : List ℕ) → used (area_of capacity) bytes ≡ 0 → 73728 ≤ length bytes → Journals (area_of capacity) empty bytes
empty_journal capacity bytes none long = record {
  state = fresh;
  reads = record { records = []; each = tt; count = refl; spelled = refl; read = refl };
  all = sym none;
  whole = refl;
  same = refl;
  reaches = omega (arith, long, ap (λ (k : ℕ). 4096 * k) none);
}

pub names_area : (bytes content : List ℕ) → content ≡ replicate 255 0 → record_at 4096 bytes ≡ Some content → NamesArea bytes
unfolding area_record
names_area bytes content is stands = record { stands = stands ∙ ap (λ (l : List ℕ). Some l) is }

-- the mark's region and the header page stand before the gates
pub gates_stay : (capacity : ℕ) (content old new : List ℕ) → Stores 4096 content old new → used (area_of capacity) new ≡ used (area_of capacity) old
gates_stay capacity content old new stores = used_by_gates (area_of capacity) old new (stores.elsewhere 8192 capacity (inr (omega arith)))

-- a header page that was written
module _ (tail old new : List ℕ) (fills : length tail ≡ 4095) (wrote : new ≡ written 0 (1 ∷ tail) old) where
  pub page_torn : Torn 0 4096 old new
  page_torn =
      let size : length (1 ∷ tail) ≡ 4096 = omega (arith, fills) in
      subst (λ (l : List ℕ). Torn 0 4096 old l) (sym wrote) (subst (λ (n : ℕ). Torn 0 n old (written 0 (1 ∷ tail) old)) size (torn_whole 0 (1 ∷ tail) old (omega arith)))

  pub header_there : HasHeader tail new
  header_there =
      let size : length (1 ∷ tail) ≡ 4096 = omega (arith, fills) in
      subst (HasHeader tail) (sym wrote)
      (HasHeader-extent 1 tail (written 0 (1 ∷ tail) old) (omega arith) fills
      (ap (λ (n : ℕ). extent 0 n (written 0 (1 ∷ tail) old)) (sym size) ∙ extent-written 0 (1 ∷ tail) old (omega arith)))

  pub mark_stays : NamesArea old → NamesArea new
  mark_stays names = record {
    stands = ap (λ (l : List ℕ). record_of l) (page_torn.elsewhere 4096 1024 (inr (omega arith))) ∙ names.stands;
  }

  pub journal_stays : (capacity : ℕ) (contents : Contents) → Journals (area_of capacity) contents old → Journals (area_of capacity) contents new
  journal_stays capacity contents stands =
      let gates = page_torn.elsewhere 8192 capacity (inr (omega arith)) in
      kept capacity contents old new (used_by_gates (area_of capacity) old new gates)
      (held_by_slots (area_of capacity) old new gates (page_torn.elsewhere 73728 (4096 * capacity) (inr (omega arith)))) page_torn.no_shorter stands
