-- What a log that stands on its disk gives its calls.
use Rattle.std.specs.Prelude.{Result, Ok, Err, OnOk}
use Rattle.std.proofs.Common.{◌≡◌, ℕ, ◌+◌, ◌*◌, ◌/◌, Bool, true, false, if◌then◌else◌, ◌≤◌, List, [], ◌∷◌, ◌++◌, length, Some, refl, arith, ap, sym, subst, ◌∙◌, inl, length-append}
use Rattle.site_disk.specs.Bytes.{extent}
use Rattle.site_disk.specs.Images.{Seen, OnlyAfter}
use Rattle.site_disk.specs.SeenLaws.{CountsOn, synced_after}
use Rattle.gated_slots.specs.Slots.{Area, used, place_of, first_zero, end_of_gates, Agrees as SlotsAgree, Reaches, Zeroes, Gains}
use Rattle.gated_slots.specs.SlotsLaws.{agrees_synced, used-zeroes}
use Rattle.twin_mark.specs.Marks.{MarkView, Knows, Stores, current}
use Rattle.log_mark.specs.declared.mark.LogMark.{LogMark}
use Rattle.log_mark.specs.Layout.{spelling as mark_spelling}
use Rattle.log_history.specs.History.{History}
use Rattle.std.specs.List.{AllByRecursion, flat_map}
use Rattle.std.proofs.lemmas.List.{length-map}
use Rattle.log_record.specs.Entry.{entry_of, history_of}
use Rattle.log_record.specs.Layout.{IsRecord, spelling}
use Rattle.log_record.specs.declared.records.Record.{Record}
use Rattle.log_files.specs.Files.{LogFiles, AreFiles, current_id, mark_of, with_next, from_past, without_oldest, with_place, is_full, appended}
use Rattle.log_files.proofs.HeldLemmas.{mark-appended}
use Rattle.log_files.specs.Ring.{area_of, HoldsFile, HoldFiles, HoldsRing}
use Rattle.log_files.specs.RingLaws.{ring_by_mark, ring_cleared, ring_gained, length-spellings, hold_append, holds_none}
use Rattle.logical_log.specs.Rings.{IsMade, TellsOf, Stands}
use Rattle.logical_log.specs.declared.ring.LogRing.{LogRing}

-- what holds whatever the answer is
pub always : {T E P : Type 0} (result : Result T E) → P → OnOk result P
always (Ok x) is = is
always (Err e) is = tt

module _ {D : Type 0} (site : ℕ) (files : LogFiles) (disk : Seen) (ring : LogRing D) (stands : Stands site files disk ring) where
  used_is : used ring.slots.area disk.bytes ≡ ring.slots.used
  used_is = ap (λ (a : Area). used a disk.bytes) stands.tells.area ∙ stands.now.current.used ∙ sym stands.tells.used

  pub slots_agree : SlotsAgree ring.slots disk
  slots_agree = agrees_synced ring.slots disk stands.synced used_is

  pub slots_reach : Reaches ring.slots disk.bytes
  slots_reach =
      subst (λ (a : Area). place_of a ring.slots.used ≤ length disk.bytes) (sym stands.tells.area)
      (subst (λ (n : ℕ). place_of (area_of (current_id files)) n ≤ length disk.bytes) (sym stands.tells.used) stands.now.current.reaches)

-- a value behind a call that ended in a sync
pub stands_of : {D : Type 0} (site : ℕ) (files : LogFiles) (e : ℕ) (disk : Seen) (ring : LogRing D) → IsMade ring → TellsOf files ring → Knows ring.mark disk.bytes
    → CountsOn disk → disk.last ≤ e → OnlyAfter e disk.bytes disk.images → HoldsRing site files disk.bytes → Stands site files disk ring
stands_of site files e disk ring made tells knows counts le only holds = record {
  made = made;
  tells = tells;
  knows = knows;
  synced = synced_after disk e counts le only;
  now = holds;
}

-- the mark's slot is known where its region hasn't changed
pub knows_still : (mark : MarkView) (old new : List ℕ) → mark.base ≡ 4096 → extent 4096 1024 new ≡ extent 4096 1024 old → Knows mark old → Knows mark new
knows_still mark old new base same knows =
    ap (λ (b : ℕ). current (extent b 1024 new)) base ∙ ap current same ∙ sym (ap (λ (b : ℕ). current (extent b 1024 old)) base) ∙ knows

-- a new record in the mark
pub ring_stored : (site : ℕ) (files next : LogFiles) (mark : LogMark) (old new : List ℕ) → HoldsRing site files old → AreFiles next → HoldFiles next.oldest next.past old
    → HoldsFile (current_id next) next.current old → mark ≡ mark_of next → Stores 4096 (mark_spelling mark) old new → HoldsRing site next new
ring_stored site files next mark old new holds fits past current is stores =
    ring_by_mark site files next old new stores.elsewhere stores.no_shorter holds fits past current (stores.stored ∙ ap (λ (m : LogMark). Some (mark_spelling m)) is)

-- the gates of the next file closed

module _ (site : ℕ) (files : LogFiles) (area : Area) (old new : List ℕ) (holds : HoldsRing site files old) (room : length files.past ≤ 6) (is : area ≡ area_of (current_id files + 1))
    (zeroes : Zeroes (first_zero area old) (end_of_gates area) old new) where
  here : Zeroes (first_zero (area_of (current_id files + 1)) old) (end_of_gates (area_of (current_id files + 1))) old new
  here = subst (λ (a : Area). Zeroes (first_zero a old) (end_of_gates a) old new) is zeroes

  pub cleared : HoldsRing site files new
  cleared = ring_cleared site files (current_id files + 1) old new holds refl room here.elsewhere (omega (arith, here.long))

  pub cleared_next : HoldsFile (current_id files + 1) [] new
  cleared_next =
      let file : ℕ = current_id files + 1 in
      holds_none file new (used-zeroes (area_of file) (first_zero (area_of file) old) (end_of_gates (area_of file)) old new (omega arith) (omega arith) here) (omega (arith, here.long))

  pub cleared_mark : extent 4096 1024 new ≡ extent 4096 1024 old
  cleared_mark = here.elsewhere 4096 1024 (inl (omega (arith, holds.current.reaches)))

pub count_next : (files : LogFiles) → current_id (with_next files) ≡ current_id files + 1
count_next files = omega (arith, length-append files.past (files.current ∷ []))

-- where the files stand and the next one's gates are closed, the next files stand but for the mark
pub hold_next : (site : ℕ) (files : LogFiles) (bytes : List ℕ) → HoldsRing site files bytes → HoldsFile (current_id files + 1) [] bytes
    → HoldFiles files.oldest (files.past ++ files.current ∷ []) bytes × HoldsFile (current_id (with_next files)) [] bytes
hold_next site files bytes holds none = (
  hold_append files.oldest files.past files.current bytes holds.past holds.current,
  subst (λ (k : ℕ). HoldsFile k [] bytes) (sym (count_next files)) none,
)

-- three facts of a last call
pub all_on_ok : {T E P Q R S : Type 0} (result : Result T E) → (P → Q → R → S) → OnOk result P → OnOk result Q → OnOk result R → OnOk result S
all_on_ok (Ok x) means p q r = means p q r
all_on_ok (Err e) means p q r = tt

-- the current file stays where the oldest one goes
pub from_past_same : (files : LogFiles) (past : List History) → files.past ≡ past → 1 ≤ length past
    → (current_id (from_past files past) ≡ current_id files) × ((from_past files past).current ≡ files.current)
from_past_same files [] is some = absurd (omega (arith, some))
from_past_same files (entries ∷ past) is some =
    let n : length files.past ≡ length past + 1 = ap (λ (l : List History). length l) is ∙ omega arith in (omega (arith, n), refl)

pub place_full : (files : LogFiles) → is_full files ≡ true → with_place files ≡ without_oldest files
place_full files is = ap (λ (b : Bool). if b then without_oldest files else files) is

pub place_free : (files : LogFiles) → is_full files ≡ false → with_place files ≡ files
place_free files is = ap (λ (b : Bool). if b then without_oldest files else files) is

-- a batch of n records has so many bytes
pub count_bytes : (batch : List Record) (bytes : List ℕ) → AllByRecursion IsRecord (history_of batch) → bytes ≡ flat_map spelling (history_of batch) → length bytes ≡ 128 * length batch
count_bytes batch bytes records is = ap (λ (l : List ℕ). length l) is ∙ length-spellings (history_of batch) records ∙ ap (λ (k : ℕ). 128 * k) (length-map batch entry_of)

pub count_slots : (len n : ℕ) → len ≡ 128 * n → len / 128 ≡ n
count_slots len n is = omega (arith, is)

-- a batch behind the current file's records

module _ (site : ℕ) (files : LogFiles) (batch : History) (n : ℕ) (bytes : List ℕ) (area : Area) (old new : List ℕ) (holds : HoldsRing site files old) (fits : AreFiles (appended files batch))
    (count : n ≡ length batch) (some : 1 ≤ length batch) (is : area ≡ area_of (current_id files)) (spelled : bytes ≡ flat_map spelling batch) (gains : Gains area n bytes old new) where
  gains_here : Gains (area_of (current_id files)) n (flat_map spelling batch) old new
  gains_here = subst (λ (l : List ℕ). Gains (area_of (current_id files)) n l old new) spelled (subst (λ (a : Area). Gains a n bytes old new) is gains)

  pub gained : HoldsRing site (appended files batch) new
  gained = ring_gained site files batch n old new holds fits (mark-appended files batch) count some gains_here

  pub gained_mark : extent 4096 1024 new ≡ extent 4096 1024 old
  gained_mark = gains_here.elsewhere 4096 1024 (inl (omega arith)) (inl (omega arith))
