-- A boot file that is read from its disk.
use Rattle.std.proofs.Common.{◌≡◌, ℕ, ◌+◌, ◌-◌, ◌*◌, ◌/◌, ◌%◌, ◌<◌, ◌≤◌, min, Bool, true, false, List, [], ◌∷◌, ◌++◌, length, take, drop, Option, None, Some, refl, sym, ap, ◌∙◌, subst, arith, inl, inr, ⊎_elim, append_assoc, length-append}
use Rattle.std.specs.Prelude.{◌⊎◌, IsTrue, Result, Ok, Err, IfOk, IfErr, OnOk, IfSome, IsSomeAnd}
use Rattle.std.specs.Option.{ok_or}
use Rattle.std.specs.List.{AllByRecursion, flat_map}
use Rattle.std.proofs.lemmas.Option.{same_Some}
use Rattle.std.proofs.lemmas.List.{append-nil, take-append-drop, take_at, drop_at, take_all, length-take, length-drop}
use Rattle.std.proofs.lemmas.Grind.{flat_map-append}
use Rattle.backup_lines.specs.Lines.{Line}
use Rattle.boot_lines.specs.LineLayout.{IsLine, spelling}
use Rattle.boot_lines.specs.LineLaws.{fills_slot, length-spellings}
use Rattle.backup_lines.specs.Spans.{Active}
use Rattle.boot_lines.specs.MarkLayout.{IsMark, active_in, spelling as mark_spelling}
use Rattle.boot_lines.specs.declared.mark.BootMark.{BootMark}
use Rattle.site_disk.specs.Bytes.{extent}
use Rattle.site_disk.specs.BytesLaws.{extent-extent, extent-add}
use Rattle.site_disk.specs.CallsLaws.{uses_nothing, uses_again}
use Rattle.site_disk.specs.Images.{Unchanged}
use Rattle.site_disk.specs.Ledger.{Ledger, EraView, MayUse, Uses}
use Rattle.gated_slots.specs.Slots.{Area, used, held, place_of}
use Rattle.twin_mark.specs.Marks.{record_at}
use Rattle.site_headers.specs.Headers.{HasHeader}
use Rattle.boot_file.specs.Places.{boot_tail, lines_area, HoldsMark, HoldsLines, Begins, StopsAt}
use Rattle.boot_file.specs.PlacesLaws.{all_append}
use Rattle.boot_file.specs.Answers.{no_slot, IsRefusal, IsBadSlot, IsBadBoot}
use Rattle.boot_file.specs.Reading.{Partway, MeetsBad, TakesRun, Counts, ComesTo, CameTo, IsBadRead}
use Rattle.boot_file.specs.declared.faults.BootFault.{BootFault}
use Rattle.boot_file.specs.declared.faults.BootFault.TheVariants.{BadRecord, BootFull, Failed, OutOfMemory}

-- lines of a run

pub partway_none : (lines : List Line) (run : List ℕ) → Partway lines lines run run
partway_none lines run = record { more = []; lines = sym (append-nil lines); each = tt; bytes = refl }

pub partway_more : (old mid new : List Line) (run rest slot others : List ℕ) (line : Line) → Partway old mid run rest → new ≡ mid ++ line ∷ [] → IsLine line → slot ≡ spelling line
    → slot ≡ take 128 rest → others ≡ drop 128 rest → Partway old new run others
partway_more old mid new run rest slot others line way new_is is_line slot_is first_is others_is = record {
  more = way.more ++ line ∷ [];
  lines = new_is ∙ ap (λ (l : List Line). l ++ line ∷ []) way.lines ∙ append_assoc old way.more (line ∷ []);
  each = all_append way.more (line ∷ []) way.each (is_line, tt);
  bytes = way.bytes
      ∙ ap (λ (l : List ℕ). flat_map spelling way.more ++ l)
      (sym (take-append-drop 128 rest) ∙ ap (λ (l : List ℕ). l ++ drop 128 rest) (sym first_is ∙ slot_is) ∙ ap (λ (l : List ℕ). spelling line ++ l) (sym others_is))
      ∙ sym (append_assoc (flat_map spelling way.more) (spelling line) others)
      ∙ ap (λ (l : List ℕ). l ++ others)
      (ap (λ (l : List ℕ). flat_map spelling way.more ++ l) (sym (append-nil (spelling line))) ∙ sym (flat_map-append spelling way.more (line ∷ [])));
}

no_bytes : (rest : List ℕ) → length rest ≡ 0 → rest ≡ []
no_bytes [] none = refl
no_bytes (b ∷ bs) none = absurd (omega (arith, none))

-- at the end of the run all are taken
pub all_taken : (old new : List Line) (run rest : List ℕ) → Partway old new run rest → length rest ≡ 0 → Partway old new run []
all_taken old new run rest way none = subst (Partway old new run) (no_bytes rest none) way

-- how many lines some bytes of a run are
long_way : (old new : List Line) (run rest : List ℕ) (way : Partway old new run rest) → length run ≡ 128 * length way.more + length rest
long_way old new run rest way =
    ap (λ (l : List ℕ). length l) way.bytes ∙ omega (arith, length-append (flat_map spelling way.more) rest, length-spellings way.more)

more_lines : (old new : List Line) (run rest : List ℕ) (way : Partway old new run rest) → length new ≡ length old + length way.more
more_lines old new run rest way = ap (λ (l : List Line). length l) way.lines ∙ length-append old way.more

-- the lines that a run adds are lines, and as many as its slots

module _ (old new : List Line) (run : List ℕ) (at : ℕ) (is : at ≡ length old) where
  pub run_each : AllByRecursion IsLine old → (all : Bool) → TakesRun old new run all → AllByRecursion IsLine new
  run_each each true way = subst (λ (l : List Line). AllByRecursion IsLine l) (sym way.lines) (all_append old way.more each way.each)
  run_each each false bad = subst (λ (l : List Line). AllByRecursion IsLine l) (sym bad.way.lines) (all_append old bad.way.more each bad.way.each)

  pub run_count : (all : Bool) → TakesRun old new run all → Counts (at + length run / 128) new all
  run_count true way =
      let long : length run ≡ 128 * length way.more = long_way old new run [] way ∙ omega arith in
      omega (arith, is, more_lines old new run [] way, long)
  run_count false bad =
      let long = long_way old new run bad.rest bad.way in
      omega (arith, is, more_lines old new run bad.rest bad.way, long, bad.whole)

-- lines at their places

module _ (old new : List Line) (run bytes : List ℕ) (n : ℕ) (begins : Begins old bytes) (stands : run ≡ extent (73728 + 128 * length old) n bytes) where
  fits : length run ≤ n
  fits = omega (arith, ap (λ (l : List ℕ). length l) stands, length-take n (drop (73728 + 128 * length old) bytes))

  module _ (rest : List ℕ) (way : Partway old new run rest) where
    long : 128 * length way.more + length rest ≤ n
    long = omega (arith, fits, long_way old new run rest way)

    -- the lines that were taken, in the run and on the disk
    front : extent (73728 + 128 * length old) (128 * length way.more) bytes ≡ flat_map spelling way.more
    front =
        let k : ℕ = 128 * length way.more in
        let from : ℕ = 73728 + 128 * length old in
        let at : from + 0 ≡ from = omega arith in
        ap (λ (p : ℕ). extent p k bytes) (sym at) ∙ sym (extent-extent 0 k from n bytes (omega (arith, long))) ∙ ap (extent 0 k) (sym stands ∙ way.bytes)
        ∙ take_at (flat_map spelling way.more) rest k (length-spellings way.more)

    total : length new ≡ length old + length way.more
    total = more_lines old new run rest way

    spelled : extent 73728 (128 * length new) bytes ≡ flat_map spelling new
    spelled =
        let sum : 128 * length new ≡ 128 * length old + 128 * length way.more = omega (arith, total) in
        ap (λ (k : ℕ). extent 73728 k bytes) sum ∙ extent-add 73728 (128 * length old) (128 * length way.more) bytes
        ∙ ap (λ (l : List ℕ). l ++ extent (73728 + 128 * length old) (128 * length way.more) bytes) begins.spelled
        ∙ ap (λ (l : List ℕ). flat_map spelling old ++ l) front
        ∙ sym (flat_map-append spelling old way.more) ∙ ap (flat_map spelling) (sym way.lines)

    pub begins_more : Begins new bytes
    begins_more = record {
      each = subst (λ (l : List Line). AllByRecursion IsLine l) (sym way.lines) (all_append old way.more begins.each way.each);
      spelled = spelled;
    }

    -- what stands behind them
    next : 128 ≤ length rest → extent (73728 + 128 * length new) 128 bytes ≡ take 128 rest
    next whole =
        let k : ℕ = 128 * length way.more in
        let from : ℕ = 73728 + 128 * length old in
        let place : 73728 + 128 * length new ≡ from + k = omega (arith, total) in
        ap (λ (p : ℕ). extent p 128 bytes) place ∙ sym (extent-extent k 128 from n bytes (omega (arith, long, whole))) ∙ ap (extent k 128) (sym stands ∙ way.bytes)
        ∙ ap (λ (l : List ℕ). take 128 l) (drop_at (flat_map spelling way.more) rest k (length-spellings way.more))

  pub stops_there : MeetsBad old new run → StopsAt new bytes
  stops_there bad = record {
    before = begins_more bad.rest bad.way;
    stuck = λ line is spelt. bad.bad line is (sym (next bad.rest bad.way bad.whole) ∙ spelt);
  }

  pub run_comes : (end : ℕ) (all : Bool) → TakesRun old new run all → ComesTo bytes end new all
  run_comes end true way = begins_more [] way
  run_comes end false bad = stops_there bad

-- slots that were read one run after another

-- so many lines were read
pub record HasRead {D : Type 0} (tells : Bool) (bytes : D → List ℕ) (image : D → ℕ → List ℕ → Type 0) (ledger : D → Ledger) (era : EraView) (held read : ℕ) (old new : D) (lines : List Line) : Type 0 where
  pub within : read ≤ held
  pub count : length lines ≡ read
  pub each : AllByRecursion IsLine lines
  pub begins : IsTrue tells → 73728 + 128 * held ≤ length (bytes old) → Begins lines (bytes old)
  pub content : bytes new ≡ bytes old
  pub images : Unchanged (image old) (image new)
  pub uses : Uses era (128 * read) 0 (ledger old) (ledger new)

pub begins_none : (bytes : List ℕ) → Begins [] bytes
begins_none bytes = record { each = tt; spelled = refl }

pub read_none : {D : Type 0} {tells : Bool} {bytes : D → List ℕ} {image : D → ℕ → List ℕ → Type 0} {ledger : D → Ledger} {era : EraView} {held : ℕ} (disk : D) (lines : List Line)
    → MayUse era (ledger disk) → lines ≡ [] → HasRead tells bytes image ledger era held 0 disk disk lines
read_none {bytes = bytes} disk lines may is = record {
  within = omega arith;
  count = ap (λ (l : List Line). length l) is;
  each = subst (λ (l : List Line). AllByRecursion IsLine l) (sym is) tt;
  begins = λ tells long. subst (λ (l : List Line). Begins l (bytes disk)) (sym is) (begins_none (bytes disk));
  content = refl;
  images = record { forth = λ f c image. image; back = λ f c image. image };
  uses = uses_again (uses_nothing may) (uses_nothing may) (omega arith);
}

pub all_counted : (end : ℕ) (lines : List Line) (all : Bool) → IsTrue all → Counts end lines all → length lines ≡ end
all_counted end lines true is count = count
all_counted end lines false is count = cc is

pub few_counted : (end : ℕ) (lines : List Line) (all : Bool) → all ≡ false → Counts end lines all → length lines < end
few_counted end lines true is count = cc is
few_counted end lines false is count = count

pub all_begin : (bytes : List ℕ) (end : ℕ) (lines : List Line) (all : Bool) → IsTrue all → ComesTo bytes end lines all → Begins lines bytes
all_begin bytes end lines true is comes = comes
all_begin bytes end lines false is comes = cc is

pub one_stops : (bytes : List ℕ) (end : ℕ) (lines : List Line) (all : Bool) → all ≡ false → ComesTo bytes end lines all → StopsAt lines bytes
one_stops bytes end lines true is comes = cc is
one_stops bytes end lines false is comes = comes

-- the slots that a disk holds whole

-- where the bytes end within a slot, nothing is spelled there
stops_short : (bytes : List ℕ) (lines : List Line) → Begins lines bytes → length bytes < 73728 + 128 * length lines + 128 → StopsAt lines bytes
stops_short bytes lines begins short = record {
  before = begins;
  stuck = λ line is spelt.
      absurd (omega (arith, ap (λ (l : List ℕ). length l) spelt, fills_slot line, length-take 128 (drop (73728 + 128 * length lines) bytes), length-drop (73728 + 128 * length lines) bytes, short));
}

pub record Came (bytes : List ℕ) (slots held : ℕ) (lines : List Line) : Type 0 where
  pub long : 73728 ≤ length bytes
  pub at : held ≡ min ((length bytes - 73728) / 128) slots
  pub to : CameTo bytes held lines

pub came_to : (bytes mid : List ℕ) (len slots held : ℕ) (lines : List Line) → mid ≡ bytes → len ≡ length bytes → 73728 ≤ len → held ≡ min ((len - 73728) / 128) slots
    → (73728 + 128 * held ≤ length mid → CameTo mid held lines) → Came bytes slots held lines
came_to bytes mid len slots held lines same is long at taken =
    let at_bytes : held ≡ min ((length bytes - 73728) / 128) slots = subst (λ (n : ℕ). held ≡ min ((n - 73728) / 128) slots) is at in record {
      long = omega (arith, is, long);
      at = at_bytes;
      to = subst (λ (l : List ℕ). CameTo l held lines) same (taken (omega (arith, ap (λ (l : List ℕ). length l) same, is, long, at_bytes)));
    }

-- fewer lines than slots are used
pub bad_slot : (bytes : List ℕ) (slots held slot : ℕ) (lines : List Line) → slots ≡ used lines_area bytes → slot ≡ length lines → slot < slots → Came bytes slots held lines → IsBadSlot bytes slot
bad_slot bytes slots held slot lines is at few came =
    let stops : StopsAt lines bytes = ⊎_elim
    (λ all. stops_short bytes lines all.0 (omega (arith, all.1, came.at, at, few, came.long)))
    (λ stopped. stopped.0) came.to in
    inr (omega (arith, few, is), (lines, sym at, stops))

-- as many as are used
pub holds_read : (bytes : List ℕ) (slots held : ℕ) (lines : List Line) → slots ≡ used lines_area bytes → slots ≤ length lines → Came bytes slots held lines
    → HoldsLines lines bytes
holds_read bytes slots held lines is all came =
    ⊎_elim
    (λ read. by read.0 (omega (arith, read.1, came.at, all, came.long)) (omega (arith, read.1, came.at, all)))
    (λ stopped. absurd (omega (arith, stopped.1, came.at, all))) came.to
  where
    by : Begins lines bytes → 73728 + 128 * slots ≤ length bytes → length lines ≡ slots → HoldsLines lines bytes
    by begins long count =
        let total : used lines_area bytes ≡ length lines = sym is ∙ sym count in record {
          each = begins.each;
          used = total;
          slots = ap (λ (k : ℕ). extent 73728 (128 * k) bytes) total ∙ begins.spelled;
          reaches = omega (arith, long, count);
        }

-- why a boot file isn't opened

pub bad_none : (bytes : List ℕ) (fault : BootFault) → (IsRefusal fault → ⊥) → IsBadRead bytes fault
bad_none bytes (BadRecord slot) none = absurd (none tt)
bad_none bytes (BootFull used wanted number) none = absurd (none tt)
bad_none bytes Failed none = tt
bad_none bytes OutOfMemory none = tt

pub bad_mark : (site : ℕ) (bytes : List ℕ) (fault : BootFault) → HasHeader (boot_tail site) bytes
    → (IsRefusal fault → (fault ≡ BadRecord no_slot) × ((number : ℕ) (active : Option Active) → HoldsMark number active bytes → ⊥)) → IsBadBoot site bytes fault
bad_mark site bytes (BadRecord slot) header other =
    let is : BadRecord slot ≡ BadRecord no_slot = (other tt).0 in
    inr (inl (record { header = header; slot_is = cc; mark = (other tt).1 }))
bad_mark site bytes (BootFull used wanted number) header other = cc (other tt).0
bad_mark site bytes Failed header other = tt
bad_mark site bytes OutOfMemory header other = tt

pub bad_lines : (site number : ℕ) (active : Option Active) (bytes : List ℕ) (fault : BootFault) → HasHeader (boot_tail site) bytes → HoldsMark number active bytes
    → IsBadRead bytes fault → IsBadBoot site bytes fault
bad_lines site number active bytes (BadRecord slot) header mark bad = inr (inr (record { header = header; number = number; active = active; mark = mark }, bad))
bad_lines site number active bytes (BootFull used wanted next) header mark bad = absurd bad
bad_lines site number active bytes Failed header mark bad = tt
bad_lines site number active bytes OutOfMemory header mark bad = tt

pub bad_failed : (site : ℕ) (bytes : List ℕ) (fault : BootFault) → fault ≡ Failed → IsBadBoot site bytes fault
bad_failed site bytes fault is = subst (IsBadBoot site bytes) (sym is) tt

-- what holds whatever the answer is, and what follows of a fault
pub always : {T E P : Type 0} (result : Result T E) → P → OnOk result P
always (Ok x) is = is
always (Err e) is = tt

pub on_fault : {T E : Type 0} (P Q : E → Type 0) (result : Result T E) → ((e : E) → P e → Q e) → IfErr result P → IfErr result Q
on_fault P Q (Ok x) means is = tt
on_fault P Q (Err e) means is = means e is

-- the mark's record

pub held_mark : (decoded : Option BootMark) (fault : BootFault) (bytes body : List ℕ) → record_at 4096 bytes ≡ Some body
    → IfSome decoded (λ mark. IsMark mark.last_number (active_in mark.restore) × (body ≡ mark_spelling mark.last_number (active_in mark.restore)))
    → IfOk (ok_or decoded fault) (λ state. HoldsMark state.last_number (active_in state.restore) bytes)
held_mark None fault bytes body stands found = tt
held_mark (Some mark) fault bytes body stands found = record { is_mark = found.0; stands = stands ∙ ap (λ (l : List ℕ). Some l) found.1 }

pub other_mark : (decoded : Option BootMark) (bytes body : List ℕ) → record_at 4096 bytes ≡ Some body
    → ((number : ℕ) (active : Option Active) → IsMark number active → body ≡ mark_spelling number active
    → IsSomeAnd decoded (λ mark. (mark.last_number ≡ number) × (active_in mark.restore ≡ active)))
    → IfErr (ok_or decoded (BadRecord no_slot)) (λ fault. IsRefusal fault → (fault ≡ BadRecord no_slot) × ((number : ℕ) (active : Option Active) → HoldsMark number active bytes → ⊥))
other_mark None bytes body stands only = λ unit. (refl, λ number active holds. only number active holds.is_mark (same_Some body (mark_spelling number active) (sym stands ∙ holds.stands)))
other_mark (Some mark) bytes body stands only = tt

pub no_mark : (place : ℕ) (bytes : List ℕ) → place ≡ 4096 → record_at place bytes ≡ None → (number : ℕ) (active : Option Active) → HoldsMark number active bytes → ⊥
no_mark place bytes is none number active holds =
    let some : None ≡ Some (mark_spelling number active) = sym none ∙ ap (λ (k : ℕ). record_at k bytes) is ∙ holds.stands in cc
