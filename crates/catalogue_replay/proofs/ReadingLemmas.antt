-- A catalogue that is read from its disk.
use Rattle.std.proofs.Common.{◌≡◌, ℕ, ◌+◌, ◌-◌, ◌*◌, ◌/◌, ◌<◌, ◌≤◌, min, max, Bool, true, false, nat_eq, List, [], ◌∷◌, ◌++◌, length, take, drop, Option, Some, None, refl, sym, ap, ◌∙◌, subst, arith, inl, inr, ⊎_elim}
use Rattle.std.specs.Prelude.{◌&&◌, if◌then◌else◌, not, nat_lt, nat_le, is_none, ◌⊎◌, IsTrue, Result, Ok, Err, MatchResult, IfOk, OnOk, is_ok}
use Rattle.std.specs.List.{AllByRecursion}
use mathlib.Core.Bool.{true≢false}
use Rattle.std.proofs.lemmas.Bool.{ltb-true, leb-true, eqb-true, eq-eqb}
use Rattle.std.proofs.lemmas.Option.{same_Some}
use Rattle.std.proofs.lemmas.List.{length-append, length-take, length-drop, take_at, drop_at, take_all, drop-drop}
use Rattle.block_chain.specs.declared.runs.Run.{Run}
use Rattle.site_disk.specs.Bytes.{extent}
use Rattle.site_disk.specs.CallsLaws.{uses_nothing, uses_again}
use Rattle.site_disk.specs.Images.{OnlyAfter, Unchanged}
use Rattle.site_disk.specs.Ledger.{Ledger, EraView, MayUse, Uses}
use Rattle.gated_slots.specs.Slots.{SlotsView, Area, used, place_of, Agrees}
use Rattle.twin_mark.specs.Marks.{record_at}
use Rattle.site_headers.specs.Heads.{Head}
use Rattle.site_headers.specs.Headers.{spare_tail, HasHeader}
use Rattle.catalogue_slots.specs.Records.{Object, Record, add, more, del, base, IsRecord, slots_for}
use Rattle.catalogue_slots.specs.Layout.{spelling}
use Rattle.catalogue_slots.specs.SlotLaws.{length-spelling, length-spellings}
use Rattle.catalogue_replay.specs.Contents.{Contents}
use Rattle.catalogue_replay.specs.Journal.{State, fresh, contents_of, Reads, StopsAt, ReadsOn}
use Rattle.catalogue_replay.specs.Places.{area_record, slots_on, NamesArea, Journals, IsBadSlot}
use Rattle.catalogue_replay.specs.Replays.{state_of}
use Rattle.catalogue_replay.proofs.SoundLemmas.{read_sound, none_waits}
use Rattle.catalogue_replay.specs.Answers.{IsRefusal, IsRead, IsBadJournal, HasHead, IsBadCatalogue}
use Rattle.catalogue_replay.specs.declared.replay.Replay.{Replay}
use Rattle.catalogue_replay.specs.declared.faults.CatFault.{CatFault}
use Rattle.catalogue_replay.specs.declared.faults.CatFault.TheVariants.{NotFormatted, BadRecord, CatalogueFull, TooManyObjects, Failed, OutOfMemory}

-- all slots used were read
pub journals_read : (area : Area) (bytes : List ℕ) (s : State) → Reads (used area bytes) (slots_on bytes) s → s.read ≡ used area bytes
    → place_of area (used area bytes) ≤ length bytes → Journals area (contents_of s) bytes
journals_read area bytes s reads all reaches = record {
  state = s;
  reads = reads;
  all = all;
  whole = none_waits (used area bytes) s (read_sound (used area bytes) (slots_on bytes) s reads) all;
  same = refl;
  reaches = reaches;
}

pub journals_by : (area : Area) (slots : SlotsView) (bytes mid : List ℕ) (s : State) → slots.area ≡ area → slots.used ≡ used area bytes → mid ≡ bytes
    → Reads slots.used (slots_on mid) s → s.read ≡ slots.used → place_of slots.area slots.used ≤ length mid → Journals area (contents_of s) bytes
journals_by area slots bytes mid s same counts stays reads all reaches =
    journals_read area bytes s
    (subst (λ (l : List ℕ). Reads (used area bytes) (slots_on l) s) stays (subst (λ (n : ℕ). Reads n (slots_on mid) s) counts reads))
    (all ∙ counts)
    (subst (λ (l : List ℕ). place_of area (used area bytes) ≤ length l) stays
    (subst (λ (n : ℕ). place_of area n ≤ length mid) counts (subst (λ (a : Area). place_of a slots.used ≤ length mid) same reaches)))

-- the same journal of an area by another name, on bytes that are the same
pub journals_stay : (area other : Area) (contents : Contents) (old new : List ℕ) → area ≡ other → new ≡ old → Journals area contents old → Journals other contents new
journals_stay area other contents old new same is stands =
    subst (λ (a : Area). Journals a contents new) same (subst (Journals area contents) (sym is) stands)

-- slots as they are read

-- some bytes that say this and go on as a run does
pub record GoesOn (used : ℕ) (s : State) (run : List ℕ) : Type 0 where
  pub bytes : List ℕ
  pub reads : Reads used bytes s
  pub stands : extent (4096 * s.read) (length run) bytes ≡ run

pub read_on : (used : ℕ) (s : State) (run : List ℕ) → IsRead used s → GoesOn used s run
read_on used s run is =
    let front : List ℕ = take (4096 * s.read) is.bytes in
    let long : length front ≡ 4096 * s.read = omega (arith, ap length is.reads.spelled, length-spellings is.reads.records is.reads.each, is.reads.count) in
    record {
      bytes = front ++ run;
      reads = record {
        records = is.reads.records;
        each = is.reads.each;
        count = is.reads.count;
        spelled = take_at front run (4096 * s.read) long ∙ is.reads.spelled;
        read = is.reads.read;
      };
      stands = ap (λ (l : List ℕ). take (length run) l) (drop_at front run (4096 * s.read) long) ∙ take_all (length run) run (omega arith);
    }

-- a run of slots by its place among the slots
pub run_stands : (slot n : ℕ) (bytes : List ℕ) → extent (4096 * slot) n (slots_on bytes) ≡ extent (73728 + 4096 * slot) n bytes
run_stands slot n bytes = ap (λ (l : List ℕ). take n l) (drop-drop (4096 * slot) 73728 bytes)

-- where the bytes end within a slot, nothing is spelled there
pub stops_short : (used : ℕ) (bytes : List ℕ) (s : State) → Reads used bytes s → length bytes < 4096 * s.read + 4096 → StopsAt used bytes s.read
stops_short used bytes s reads short = record {
  state = s;
  reads = reads;
  at = refl;
  stuck = λ (entry : Record) (is : IsRecord entry) (e : extent (4096 * s.read) 4096 bytes ≡ spelling entry).
      absurd (omega (arith, ap length e, length-spelling entry is, length-take 4096 (drop (4096 * s.read) bytes), length-drop (4096 * s.read) bytes, short));
}

-- what following the slots that a disk holds came to
abbrev pub CameTo : ℕ → List ℕ → ℕ → Replay → Type 0
CameTo slots bytes held replay = Reads slots (slots_on bytes) (state_of replay) × (replay.read ≡ held) ⊎ (StopsAt slots (slots_on bytes) replay.read × (replay.read < held))

-- the slots that a disk holds whole, of those used, were followed
pub record Came (bytes : List ℕ) (slots held : ℕ) (replay : Replay) : Type 0 where
  pub long : 73728 ≤ length bytes
  pub at : held ≡ min ((length bytes - 73728) / 4096) slots
  pub to : CameTo slots bytes held replay

pub came_to : (bytes mid : List ℕ) (len slots held : ℕ) (replay : Replay) → mid ≡ bytes → len ≡ length bytes → 73728 ≤ len → held ≡ min ((len - 73728) / 4096) slots
    → (73728 + 4096 * held ≤ length mid → CameTo slots mid held replay) → Came bytes slots held replay
came_to bytes mid len slots held replay same is long at followed =
    let at_bytes : held ≡ min ((length bytes - 73728) / 4096) slots = subst (λ (n : ℕ). held ≡ min ((n - 73728) / 4096) slots) is at in record {
      long = omega (arith, is, long);
      at = at_bytes;
      to = subst (λ (l : List ℕ). CameTo slots l held replay) same (followed (omega (arith, ap length same, is, long, at_bytes)));
    }

-- fewer slots were followed than are used
pub bad_slot : (area : Area) (bytes : List ℕ) (slots held : ℕ) (replay : Replay) → slots ≡ used area bytes → replay.read < slots → Came bytes slots held replay
    → IsBadSlot area bytes replay.read
bad_slot area bytes slots held replay is few came = record {
  stops = subst (λ (n : ℕ). StopsAt n (slots_on bytes) replay.read) is
      (⊎_elim
      (λ all. stops_short slots (slots_on bytes) (state_of replay) all.0 (omega (arith, all.1, came.at, few, came.long, length-drop 73728 bytes)))
      (λ stopped. stopped.0) came.to);
  within = omega (arith, few, is);
}

-- all slots used were followed
pub read_all : (bytes : List ℕ) (slots held : ℕ) (replay : Replay) → slots ≤ replay.read → Came bytes slots held replay
    → Reads slots (slots_on bytes) (state_of replay) × (73728 + 4096 * slots ≤ length bytes)
read_all bytes slots held replay all came =
    ⊎_elim
    (λ read. (read.0, omega (arith, read.1, came.at, all, came.long)))
    (λ stopped. absurd (omega (arith, stopped.1, came.at, all))) came.to

-- so many slots were followed
pub record HasFollowed {D : Type 0} (tells : Bool) (bytes : D → List ℕ) (image : D → ℕ → List ℕ → Type 0) (ledger : D → Ledger) (era : EraView) (slots held : ℕ) (old new : D) (replay : Replay) : Type 0 where
  pub within : replay.read ≤ held
  pub reads : IsTrue tells → 73728 + 4096 * held ≤ length (bytes old) → Reads slots (slots_on (bytes old)) (state_of replay)
  pub sound : IsRead slots (state_of replay)
  pub content : bytes new ≡ bytes old
  pub images : Unchanged (image old) (image new)
  pub uses : Uses era (4096 * replay.read) 0 (ledger old) (ledger new)

nothing_read : (used : ℕ) (bytes : List ℕ) → Reads used bytes fresh
nothing_read used bytes = record { records = []; each = tt; count = refl; spelled = refl; read = refl }

pub followed_none : {D : Type 0} {tells : Bool} {bytes : D → List ℕ} {image : D → ℕ → List ℕ → Type 0} {ledger : D → Ledger} {era : EraView} {slots held : ℕ} (disk : D) (replay : Replay)
    → MayUse era (ledger disk) → state_of replay ≡ fresh → HasFollowed tells bytes image ledger era slots held disk disk replay
followed_none {bytes = bytes} {slots = slots} disk replay may is =
    let none : replay.read ≡ 0 = ap (λ (s : State). s.read) is in record {
      within = omega (arith, none);
      reads = λ tells long. subst (Reads slots (slots_on (bytes disk))) (sym is) (nothing_read slots (slots_on (bytes disk)));
      sound = record { bytes = []; reads = subst (Reads slots []) (sym is) (nothing_read slots []) };
      content = refl;
      images = record { forth = λ f c image. image; back = λ f c image. image };
      uses = uses_again (uses_nothing may) (uses_nothing may) (omega arith);
    }

-- what is known after a sync stays known while nothing is written
pub only_later : (e now : ℕ) (first bytes : List ℕ) (mid new : ℕ → List ℕ → Type 0) → OnlyAfter e first mid → Unchanged mid new
    → ((f : ℕ) (c : List ℕ) → now < f → new f c → new (e + 1) c) → bytes ≡ first → OnlyAfter now bytes new
only_later e now first bytes mid new only same pending is =
    λ f c lt image. only (e + 1) c (omega arith) (same.back (e + 1) c (pending f c lt image)) ∙ sym is

pub agrees_only : (view : SlotsView) (now : ℕ) (bytes : List ℕ) (images : ℕ → List ℕ → Type 0) → OnlyAfter now bytes images → used view.area bytes ≡ view.used
    → Agrees view (record { last = now; bytes = bytes; images = images })
agrees_only view now bytes images only counts = record { now = counts; later = λ f c lt image. ap (used view.area) (only f c lt image) ∙ counts }

-- the bytes that are read of an area
pub reads_at_most : (area other : Area) (bytes : List ℕ) (before now : ℕ) → area ≡ other → now ≤ before + 4864 + area.capacity + 4096 * used area bytes
    → now ≤ before + 4864 + other.capacity + 4096 * used other bytes
reads_at_most area other bytes before now same le = subst (λ (a : Area). now ≤ before + 4864 + a.capacity + 4096 * used a bytes) same le

-- why a catalogue isn't opened

pub bad_none : (area : Area) (bytes : List ℕ) (fault : CatFault) → (IsRefusal fault → ⊥) → IsBadJournal area bytes fault
bad_none area bytes NotFormatted none = absurd (none tt)
bad_none area bytes (BadRecord which slot) none = absurd (none tt)
bad_none area bytes (CatalogueFull used wanted) none = absurd (none tt)
bad_none area bytes (TooManyObjects live last) none = absurd (none tt)
bad_none area bytes (Failed which) none = tt
bad_none area bytes OutOfMemory none = tt

pub bad_mark : (area : Area) (bytes spare : List ℕ) (head : Head) (fault : CatFault) → HasHead head bytes
    → (IsRefusal fault → (fault ≡ BadRecord false 4294967295) × (NamesArea bytes → ⊥)) → IsBadCatalogue area bytes spare fault
bad_mark area bytes spare head NotFormatted has other = cc (other tt).0
bad_mark area bytes spare head (BadRecord which slot) has other =
    let is : BadRecord which slot ≡ BadRecord false 4294967295 = (other tt).0 in
    record { head = head; has = has; place = inl (record { spare_is = cc; slot_is = cc; mark = (other tt).1 }) }
bad_mark area bytes spare head (CatalogueFull used wanted) has other = cc (other tt).0
bad_mark area bytes spare head (TooManyObjects live last) has other = cc (other tt).0
bad_mark area bytes spare head (Failed which) has other = tt
bad_mark area bytes spare head OutOfMemory has other = tt

pub bad_slots : (area : Area) (bytes spare : List ℕ) (head : Head) (fault : CatFault) → HasHead head bytes → NamesArea bytes
    → IsBadJournal area bytes fault → IsBadCatalogue area bytes spare fault
bad_slots area bytes spare head NotFormatted has mark bad = absurd bad
bad_slots area bytes spare head (BadRecord which slot) has mark bad = record { head = head; has = has; place = inr (inl (record { mark = mark; slots = bad })) }
bad_slots area bytes spare head (CatalogueFull used wanted) has mark bad = absurd bad
bad_slots area bytes spare head (TooManyObjects live last) has mark bad = absurd bad
bad_slots area bytes spare head (Failed which) has mark bad = tt
bad_slots area bytes spare head OutOfMemory has mark bad = tt

pub bad_failed : (area : Area) (bytes spare : List ℕ) (which : Bool) (fault : CatFault) → fault ≡ Failed which → IsBadCatalogue area bytes spare fault
bad_failed area bytes spare which fault is = subst (IsBadCatalogue area bytes spare) (sym is) tt

pub bad_spare : (area : Area) (bytes spare : List ℕ) (head : Head) (contents : Contents) → HasHead head bytes → NamesArea bytes
    → Journals area contents bytes → (HasHeader (spare_tail head.site) spare → ⊥) → IsBadCatalogue area bytes spare (BadRecord true 4294967295)
bad_spare area bytes spare head contents has mark journal none = record {
  head = head;
  has = has;
  place = inr (inr (record { spare_is = refl; slot_is = refl; mark = mark; contents = contents; journal = journal; header = none }));
}

-- what holds of a call's value, where an error alone was made another
pub ok_value : {T E : Type 0} (F : Type 0) (P : T → Type 0) (Q : E → Type 0) (result : Result T E) (x : T)
    → MatchResult result (λ y. ◌≡◌ {A = Result T F} (Ok x) (Ok y)) Q → true ≡ is_ok result → IfOk result P → P x
ok_value F P Q (Ok y) x cases same holds = subst P (sym (value F x y cases)) holds
  where
    value : {T : Type 0} (F : Type 0) (x y : T) → ◌≡◌ {A = Result T F} (Ok x) (Ok y) → x ≡ y
    value F x y e = cc
ok_value F P Q (Err e) x cases same holds = absurd (true≢false same)

pub ok_holds : {T E P : Type 0} (result : Result T E) → true ≡ is_ok result → OnOk result P → P
ok_holds (Ok y) same holds = holds
ok_holds (Err e) same holds = absurd (true≢false same)

pub all_read : (slots : ℕ) (bytes : List ℕ) (end : ℕ) (state : State) (all : Bool) → IsTrue all → ReadsOn slots bytes end state all → Reads slots bytes state
all_read slots bytes end state true is on = on.0
all_read slots bytes end state false is on = absurd (true≢false (sym is))

pub stopped_at : (slots : ℕ) (bytes : List ℕ) (end : ℕ) (state : State) (all : Bool) → all ≡ false → ReadsOn slots bytes end state all → StopsAt slots bytes state.read × (state.read < end)
stopped_at slots bytes end state true is on = absurd (true≢false is)
stopped_at slots bytes end state false is on = on

-- a mark of other bytes, or none
pub another_record : (place : ℕ) (bytes body : List ℕ) → place ≡ 4096 → record_at place bytes ≡ Some body → (body ≡ area_record → ⊥) → NamesArea bytes → ⊥
another_record place bytes body is found other names =
    other (same_Some _ _ (sym found ∙ ap (λ (k : ℕ). record_at k bytes) is ∙ names.stands))

pub no_record : (place : ℕ) (bytes : List ℕ) → place ≡ 4096 → record_at place bytes ≡ None → NamesArea bytes → ⊥
no_record place bytes is none names =
    let some : None ≡ Some area_record = sym none ∙ ap (λ (k : ℕ). record_at k bytes) is ∙ names.stands in cc
