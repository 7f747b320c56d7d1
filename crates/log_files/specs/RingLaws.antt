-- What keeps the files on the log's disk, and what makes others of them.
use Rattle.std.specs.Prelude.{◌≡◌, ◌≢◌, ◌⊎◌, ℕ, ◌+◌, ◌-◌, ◌*◌, ◌%◌, ◌<◌, ◌≤◌, List, [], ◌∷◌, ◌++◌, length, drop, Some, refl}
use Rattle.std.specs.List.{flat_map}
use mathlib.Core.Logic.{inl, inr}
use Rattle.std.proofs.Common.{arith, ap, sym, ◌∙◌, subst, ⊎_elim, length-append}
use Rattle.std.proofs.lemmas.Bool.{cases_order}
use Rattle.std.proofs.lemmas.List.{length-take, length-drop}
use Rattle.std.proofs.lemmas.Grind.{flat_map-append}
use Rattle.log_history.specs.History.{History}
use Rattle.log_record.specs.Layout.{IsRecord, spelling}
use Rattle.log_record.specs.LayoutLaws.{length-spelling}
use Rattle.std.specs.List.{AllByRecursion}
use Rattle.log_mark.specs.Layout.{spelling as mark_spelling}
use Rattle.site_disk.specs.Bytes.{extent, Apart, Elsewhere}
use Rattle.gated_slots.specs.Slots.{Area, used, held, end_of_gates, first_zero, OutsideArea, Keeps, Gains}
use Rattle.gated_slots.specs.SlotsLaws.{used_by_gates, used_within}
use Rattle.twin_mark.specs.Marks.{record_at, record_of}
use Rattle.site_headers.specs.Headers.{HasHeader, log_tail}
use Rattle.log_files.specs.Files.{LogFiles, AreFiles, current_id, mark_of, appended, from_past}
use Rattle.log_mark.specs.declared.mark.LogMark.{LogMark}
use Rattle.log_files.specs.Ring.{area_of, HoldsFile, HoldFiles, HoldsRing}

-- the bytes that a file stands in, with so many slots used, are as before
pub record SameFile (file count : ℕ) (old new : List ℕ) : Type 0 where
  pub gates : extent (area_of file).gates 256 new ≡ extent (area_of file).gates 256 old
  pub slots : extent (area_of file).slots (128 * count) new ≡ extent (area_of file).slots (128 * count) old
  pub no_shorter : length old ≤ length new

pub file_stays : (file : ℕ) (entries : History) (old new : List ℕ) → SameFile file (length entries) old new → HoldsFile file entries old → HoldsFile file entries new
file_stays file entries old new same holds =
    let count : used (area_of file) new ≡ length entries = used_by_gates (area_of file) old new same.gates ∙ holds.used in record {
      used = count;
      slots = ap (λ (k : ℕ). extent (area_of file).slots (128 * k) new) count
          ∙ same.slots
          ∙ sym (ap (λ (k : ℕ). extent (area_of file).slots (128 * k) old) holds.used)
          ∙ holds.slots;
      reaches = omega (arith, holds.reaches, same.no_shorter);
    }

-- and so those of files that follow one another
pub files_stay : (file : ℕ) (files : List History) (old new : List ℕ)
    → ((f : ℕ) (entries : History) → file ≤ f → f < file + length files → HoldsFile f entries old → SameFile f (length entries) old new)
    → HoldFiles file files old → HoldFiles file files new
files_stay file [] old new same holds = tt
files_stay file (entries ∷ files) old new same holds = (
  file_stays file entries old new (same file entries (omega arith) (omega arith) holds.0) holds.0,
  files_stay (file + 1) files old new (λ f others le lt here. same f others (omega (arith, le)) (omega (arith, lt)) here) holds.1,
)

pub header_stays : (tail old new : List ℕ) → extent 0 1 new ≡ extent 0 1 old → extent 1 4095 new ≡ extent 1 4095 old → HasHeader tail old → HasHeader tail new
header_stays tail old new gate rest has = record {
  gate = has.gate;
  is_open = has.is_open;
  gate_stands = gate ∙ has.gate_stands;
  tail_stands = rest ∙ has.tail_stands;
}

-- the places of eight files that follow one another lie apart
pub other_places : (a b : ℕ) → a < b → b < a + 8 → a % 8 ≢ b % 8
other_places a b lt few is = absurd (omega (arith, is))

-- a change of the mark alone

module _ (site : ℕ) (files next : LogFiles) (old new : List ℕ) (elsewhere : Elsewhere 4096 1024 old new) (no_shorter : length old ≤ length new) where
  same_by_mark : (f : ℕ) (entries : History) → SameFile f (length entries) old new
  same_by_mark f entries = record {
    gates = elsewhere (area_of f).gates 256 (inr (omega arith));
    slots = elsewhere (area_of f).slots (128 * length entries) (inr (omega arith));
    no_shorter = no_shorter;
  }

  pub ring_by_mark : HoldsRing site files old → AreFiles next → HoldFiles next.oldest next.past old → HoldsFile (current_id next) next.current old
      → record_at 4096 new ≡ Some (mark_spelling (mark_of next)) → HoldsRing site next new
  ring_by_mark holds fits past current mark = record {
    fits = fits;
    header = header_stays (log_tail site) old new (elsewhere 0 1 (inl (omega arith))) (elsewhere 1 4095 (inl (omega arith))) holds.header;
    mark = mark;
    past = files_stay next.oldest next.past old new (λ f entries le lt here. same_by_mark f entries) past;
    current = file_stays (current_id next) next.current old new (same_by_mark (current_id next) next.current) current;
  }

-- a change of the current file alone

-- the slots of another file's place
apart_slots : (a b n : ℕ) → a % 8 ≢ b % 8 → n ≤ 256 → Apart (area_of b).slots (128 * 256) (area_of a).slots (128 * n)
apart_slots a b n isnt few = elim (cases_order (a % 8) (b % 8)) [
  | inl same ↦ absurd (isnt same)
  | inr (inl before) ↦ inl (omega (arith, before, few))
  | inr (inr after) ↦ inr (omega (arith, after))
]

apart_gates_slots : (a b : ℕ) → a % 8 ≢ b % 8 → Apart (area_of b).slots (128 * 256) (area_of a).gates 256
apart_gates_slots a b isnt = elim (cases_order (a % 8) (b % 8)) [
  | inl same ↦ absurd (isnt same)
  | inr (inl before) ↦ inl (omega (arith, before))
  | inr (inr after) ↦ inr (omega (arith, after))
]

apart_slots_gates : (a b n : ℕ) → a % 8 ≢ b % 8 → n ≤ 256 → Apart (area_of b).gates 256 (area_of a).slots (128 * n)
apart_slots_gates a b n isnt few = elim (cases_order (a % 8) (b % 8)) [
  | inl same ↦ absurd (isnt same)
  | inr (inl before) ↦ inl (omega (arith, before, few))
  | inr (inr after) ↦ inr (omega (arith, after))
]

apart_gates : (a b : ℕ) → a % 8 ≢ b % 8 → Apart (area_of b).gates 256 (area_of a).gates 256
apart_gates a b isnt = elim (cases_order (a % 8) (b % 8)) [
  | inl same ↦ absurd (isnt same)
  | inr (inl before) ↦ inl (omega (arith, before))
  | inr (inr after) ↦ inr (omega (arith, after))
]

-- no more than 256 records stand in a place
few_held : (file : ℕ) (entries : History) (bytes : List ℕ) → HoldsFile file entries bytes → length entries ≤ 256
few_held file entries bytes holds = omega (arith, holds.used, used_at_most)
  where
    used_at_most : used (area_of file) bytes ≤ 256
    used_at_most = used_within (area_of file) bytes

module _ (site : ℕ) (files : LogFiles) (old new : List ℕ) (holds : HoldsRing site files old) (outside : OutsideArea (area_of (current_id files)) old new) (no_shorter : length old ≤ length new) where
  same_by_area : (f : ℕ) (entries : History) → f % 8 ≢ current_id files % 8 → HoldsFile f entries old → SameFile f (length entries) old new
  same_by_area f entries isnt here =
      let few = few_held f entries old here in record {
        gates = outside (area_of f).gates 256 (apart_gates f (current_id files) isnt) (apart_gates_slots f (current_id files) isnt);
        slots = outside (area_of f).slots (128 * length entries) (apart_slots_gates f (current_id files) (length entries) isnt few) (apart_slots f (current_id files) (length entries) isnt few);
        no_shorter = no_shorter;
      }

  pub ring_by_area : (entries : History) → AreFiles (record files { current = entries }) → mark_of files ≡ mark_of (record files { current = entries }) → HoldsFile (current_id files) entries new
      → HoldsRing site (record files { current = entries }) new
  ring_by_area entries fits marks current = record {
    fits = fits;
    header = header_stays (log_tail site) old new (outside 0 1 (inl (omega arith)) (inl (omega arith))) (outside 1 4095 (inl (omega arith)) (inl (omega arith))) holds.header;
    mark = ap record_of (outside 4096 1024 (inl (omega arith)) (inl (omega arith))) ∙ holds.mark ∙ ap (λ (m : LogMark). Some (mark_spelling m)) marks;
    past = files_stay files.oldest files.past old new
        (λ f others le lt here. same_by_area f others (other_places f (current_id files) lt (omega (arith, holds.fits.few, le))) here) holds.past;
    current = current;
  }

-- the current file keeps its records
pub ring_kept : (site : ℕ) (files : LogFiles) (old new : List ℕ) → HoldsRing site files old → Keeps (area_of (current_id files)) old new → HoldsRing site files new
ring_kept site files old new holds keeps =
    ring_by_area site files old new holds keeps.elsewhere keeps.no_shorter files.current holds.fits refl (record {
      used = keeps.used ∙ holds.current.used;
      slots = keeps.held ∙ holds.current.slots;
      reaches = omega (arith, holds.current.reaches, keeps.no_shorter);
    })

-- the length of some records' bytes
pub length-spellings : (entries : History) → AllByRecursion IsRecord entries → length (flat_map spelling entries) ≡ 128 * length entries
length-spellings [] fits = refl
length-spellings (entry ∷ entries) fits =
    omega (arith, length-append (spelling entry) (flat_map spelling entries), length-spelling entry fits.0, length-spellings entries fits.1)

-- a range that has all of its bytes lies within them
within_by_length : (at n : ℕ) (bytes : List ℕ) → 1 ≤ n → length (extent at n bytes) ≡ n → at + n ≤ length bytes
within_by_length at n bytes some is = omega (arith, some, is, length-take n (drop at bytes), length-drop at bytes)

-- or gets a batch behind them
pub ring_gained : (site : ℕ) (files : LogFiles) (batch : History) (n : ℕ) (old new : List ℕ) → HoldsRing site files old → AreFiles (appended files batch) → mark_of files ≡ mark_of (appended files batch)
    → n ≡ length batch → 1 ≤ length batch → Gains (area_of (current_id files)) n (flat_map spelling batch) old new → HoldsRing site (appended files batch) new
ring_gained site files batch n old new holds fits marks count some gains =
    let area : Area = area_of (current_id files) in
    let total : used area new ≡ length (files.current ++ batch) = gains.used ∙ omega (arith, holds.current.used, count, length-append files.current batch) in
    let spelled : held area new ≡ flat_map spelling (files.current ++ batch) =
    gains.held ∙ ap (λ (l : List ℕ). l ++ flat_map spelling batch) holds.current.slots ∙ sym (flat_map-append spelling files.current batch) in
    let long : length (extent area.slots (128 * length (files.current ++ batch)) new) ≡ 128 * length (files.current ++ batch) =
    ap (λ (k : ℕ). length (extent area.slots (128 * k) new)) (sym total) ∙ ap (λ (l : List ℕ). length l) spelled ∙ length-spellings (files.current ++ batch) fits.current.records in
    ring_by_area site files old new holds gains.elsewhere gains.no_shorter (files.current ++ batch) fits marks (record {
      used = total;
      slots = spelled;
      reaches = within_by_length area.slots (128 * length (files.current ++ batch)) new (omega (arith, some, length-append files.current batch)) long;
    })

-- the gates of a place that holds no file

-- of zero bytes, or a write of them that is cut short
module _ (site : ℕ) (files : LogFiles) (file : ℕ) (old new : List ℕ) (holds : HoldsRing site files old) (next : file ≡ current_id files + 1) (room : length files.past ≤ 6)
    (elsewhere : Elsewhere (first_zero (area_of file) old) (end_of_gates (area_of file) - first_zero (area_of file) old) old new) (no_shorter : length old ≤ length new) where
  -- a range that lies within the bytes, before the gates or behind them
  same_range : (from len : ℕ) → from + len ≤ length old → (from + len ≤ (area_of file).gates) ⊎ (end_of_gates (area_of file) ≤ from) → extent from len new ≡ extent from len old
  same_range from len within side = ⊎_elim
      (λ before. elsewhere from len (inl (omega (arith, before, within))))
      (λ behind. elsewhere from len (inr (omega (arith, behind, within))))
      side

  same_by_gates : (f : ℕ) (entries : History) → files.oldest ≤ f → f ≤ current_id files → HoldsFile f entries old → SameFile f (length entries) old new
  same_by_gates f entries le ge here = elim (cases_order (f % 8) (file % 8)) [
    | inl same ↦ absurd (other_places f file (omega (arith, ge, next)) (omega (arith, le, next, room)) same)
    | inr (inl before) ↦ record {
      gates = same_range (area_of f).gates 256 (omega (arith, here.reaches)) (inl (omega (arith, before)));
      slots = same_range (area_of f).slots (128 * length entries) (omega (arith, here.reaches)) (inl (omega (arith, before, few_held f entries old here)));
      no_shorter = no_shorter;
    }
    | inr (inr after) ↦ record {
      gates = same_range (area_of f).gates 256 (omega (arith, here.reaches)) (inr (omega (arith, after)));
      slots = same_range (area_of f).slots (128 * length entries) (omega (arith, here.reaches)) (inr (omega (arith, after)));
      no_shorter = no_shorter;
    }
  ]

  pub ring_cleared : HoldsRing site files new
  ring_cleared =
      let long : 8448 ≤ length old = omega (arith, holds.current.reaches) in record {
        fits = holds.fits;
        header = header_stays (log_tail site) old new (same_range 0 1 (omega (arith, long)) (inl (omega arith))) (same_range 1 4095 (omega (arith, long)) (inl (omega arith))) holds.header;
        mark = ap record_of (same_range 4096 1024 (omega (arith, long)) (inl (omega arith))) ∙ holds.mark;
        past = files_stay files.oldest files.past old new (λ f entries le lt here. same_by_gates f entries le (omega (arith, lt)) here) holds.past;
        current = file_stays (current_id files) files.current old new (same_by_gates (current_id files) files.current (omega arith) (omega arith) holds.current) holds.current;
      }

-- an empty file where all gates are closed
pub holds_none : (file : ℕ) (bytes : List ℕ) → used (area_of file) bytes ≡ 0 → end_of_gates (area_of file) ≤ length bytes → HoldsFile file [] bytes
holds_none file bytes none long = record {
  used = none;
  slots = ap (λ (k : ℕ). extent (area_of file).slots (128 * k) bytes) none;
  reaches = omega (arith, long);
}

pub hold_append : (file : ℕ) (files : List History) (entries : History) (bytes : List ℕ) → HoldFiles file files bytes → HoldsFile (file + length files) entries bytes
    → HoldFiles file (files ++ entries ∷ []) bytes
hold_append file [] entries bytes holds last = (subst (λ (k : ℕ). HoldsFile k entries bytes) (omega arith) last, tt)
hold_append file (x ∷ files) entries bytes holds last = (holds.0, hold_append (file + 1) files entries bytes holds.1 (subst (λ (k : ℕ). HoldsFile k entries bytes) (omega arith) last))

-- without the oldest file
pub hold_from_past : (files : LogFiles) (past : List History) (bytes : List ℕ) → files.past ≡ past → 1 ≤ length past → HoldFiles files.oldest files.past bytes → HoldsFile (current_id files) files.current bytes
    → HoldFiles (from_past files past).oldest (from_past files past).past bytes × HoldsFile (current_id (from_past files past)) (from_past files past).current bytes
hold_from_past files [] bytes is some past current = absurd (omega (arith, some))
hold_from_past files (entries ∷ rest) bytes is some past current =
    let all : HoldFiles files.oldest (entries ∷ rest) bytes = subst (λ (l : List History). HoldFiles files.oldest l bytes) is past in
    let n : length files.past ≡ length rest + 1 = ap (λ (l : List History). length l) is ∙ omega arith in
    (all.1, subst (λ (k : ℕ). HoldsFile k files.current bytes) (omega (arith, n)) current)
