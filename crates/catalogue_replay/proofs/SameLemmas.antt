-- Bytes show one journal, and where it stands none of its slots is bad.
use Rattle.std.proofs.Common.{◌≡◌, ℕ, suc, ◌+◌, ◌*◌, ◌<◌, ◌≤◌, Bool, List, [], ◌∷◌, ◌++◌, length, take, drop, Option, Some, None, refl, sym, ap, ◌∙◌, subst, arith, ⊎_elim}
use Rattle.std.specs.List.{AllByRecursion, flat_map}
use Rattle.std.proofs.lemmas.Option.{same_Some}
use Rattle.std.proofs.lemmas.List.{length-append, length-drop, take_at, drop_at, take_all, take-append-drop, append_assoc}
use Rattle.std.proofs.lemmas.List.Concat.{flat_map-append}
use Rattle.site_disk.specs.Bytes.{extent}
use Rattle.gated_slots.specs.Slots.{Area, used, held, place_of}
use Rattle.gated_slots.specs.SlotsLaws.{used_by_gates}
use Rattle.site_headers.specs.Heads.{Head}
use Rattle.site_headers.specs.Headers.{catalogue_tail, spare_tail, HasHeader}
use Rattle.site_headers.specs.HeaderLaws.{one_catalogue_header}
use Rattle.catalogue_slots.specs.Records.{Record, IsRecord}
use Rattle.catalogue_slots.specs.Layout.{spelling}
use Rattle.catalogue_slots.specs.SlotLaws.{length-spelling, length-spellings}
use Rattle.catalogue_slots.proofs.OnceLemmas.{record_once}
use Rattle.catalogue_replay.specs.Contents.{Contents}
use Rattle.catalogue_replay.specs.Journal.{State, fresh, taken, next, follow, contents_of, Reads, StopsAt}
use Rattle.catalogue_replay.specs.Places.{area_of, slots_on, NamesArea, Journals, IsBadSlot}
use Rattle.catalogue_replay.specs.Answers.{IsRefusal, HasHead, IsBadJournal, IsBadMark, AreBadSlots, IsBadSpare, IsBadCatalogue}
use Rattle.catalogue_replay.specs.declared.faults.CatFault.{CatFault}
use Rattle.catalogue_replay.specs.declared.faults.CatFault.TheVariants.{NotFormatted, BadRecord, CatalogueFull, TooManyObjects, Failed, OutOfMemory}
use Rattle.catalogue_replay.proofs.FollowLemmas.{follow-append}

-- records that the same bytes begin with begin alike
spelled_once : (xs ys : List Record) (b c : List ℕ) → AllByRecursion IsRecord xs → AllByRecursion IsRecord ys → length xs ≤ length ys
    → flat_map spelling xs ++ b ≡ flat_map spelling ys ++ c → take (length xs) ys ≡ xs
spelled_once [] ys b c each others le e = refl
spelled_once (x ∷ xs) [] b c each others le e = absurd (omega (arith, le))
spelled_once (x ∷ xs) (y ∷ ys) b c each others le e =
    let mine : List ℕ = flat_map spelling xs ++ b in
    let other : List ℕ = flat_map spelling ys ++ c in
    let both : spelling x ++ mine ≡ spelling y ++ other =
    sym (append_assoc (spelling x) (flat_map spelling xs) b) ∙ e ∙ append_assoc (spelling y) (flat_map spelling ys) c in
    let first : spelling x ≡ spelling y =
    sym (take_at (spelling x) mine 4096 (length-spelling x each.0)) ∙ ap (λ (l : List ℕ). take 4096 l) both ∙ take_at (spelling y) other 4096 (length-spelling y others.0) in
    let rest : mine ≡ other =
    sym (drop_at (spelling x) mine 4096 (length-spelling x each.0)) ∙ ap (λ (l : List ℕ). drop 4096 l) both ∙ drop_at (spelling y) other 4096 (length-spelling y others.0) in
    ap (λ (r : Record). r ∷ take (length xs) ys) (sym (record_once x y each.0 others.0 first))
    ∙ ap (λ (l : List Record). x ∷ l) (spelled_once xs ys b c each.1 others.1 (omega (arith, le)) rest)

module _ (used : ℕ) (bytes : List ℕ) where
  begins : (s : State) (reads : Reads used bytes s) → flat_map spelling reads.records ++ drop (4096 * s.read) bytes ≡ bytes
  begins s reads = ap (λ (l : List ℕ). l ++ drop (4096 * s.read) bytes) (sym reads.spelled) ∙ take-append-drop (4096 * s.read) bytes

  -- of two readings the shorter one is the front of the other
  reads_on : (s t : State) (first : Reads used bytes s) (second : Reads used bytes t) → s.read ≤ t.read → take (length first.records) second.records ≡ first.records
  reads_on s t first second le =
      spelled_once first.records second.records (drop (4096 * s.read) bytes) (drop (4096 * t.read) bytes) first.each second.each (omega (arith, first.count, second.count, le))
      (begins s first ∙ sym (begins t second))

  pub reads_once : (s t : State) → Reads used bytes s → Reads used bytes t → s.read ≡ t.read → s ≡ t
  reads_once s t first second same =
      let records : second.records ≡ first.records =
      sym (take_all (length first.records) second.records (omega (arith, first.count, second.count, same))) ∙ reads_on s t first second (omega (arith, same)) in
      same_Some _ _ (sym first.read ∙ ap (λ (l : List Record). follow used fresh l) (sym records) ∙ second.read)

-- a record among others
each_at : (xs ys : List Record) (y : Record) → AllByRecursion IsRecord (xs ++ y ∷ ys) → IsRecord y
each_at [] ys y each = each.0
each_at (x ∷ xs) ys y each = each_at xs ys y each.1

-- where a record was read, another reading doesn't stop before it
goes_past : (used : ℕ) (bytes : List ℕ) (s t : State) (first : Reads used bytes s) (second : Reads used bytes t) → s.read < t.read
    → ((entry : Record) → IsRecord entry → extent (4096 * s.read) 4096 bytes ≡ spelling entry → taken used s entry ≡ None) → ⊥
goes_past used bytes s t first second lt stuck =
    by (drop (length first.records) second.records)
    (ap (λ (l : List Record). l ++ drop (length first.records) second.records) (sym (reads_on used bytes s t first second (omega (arith, lt)))) ∙ take-append-drop (length first.records) second.records)
  where
    by : (xs : List Record) → first.records ++ xs ≡ second.records → ⊥
    by [] whole = absurd (omega (arith, ap length whole, length-append first.records [], first.count, second.count, lt))
    by (x ∷ xs) whole =
        let is : IsRecord x = each_at first.records xs x (subst (AllByRecursion IsRecord) (sym whole) second.each) in
        let front : List ℕ = flat_map spelling first.records in
        let long : length front ≡ 4096 * s.read = omega (arith, length-spellings first.records first.each, first.count) in
        let behind : List ℕ = drop (4096 * t.read) bytes in
        let order : front ++ (spelling x ++ (flat_map spelling xs ++ behind)) ≡ bytes =
        sym (append_assoc front (spelling x ++ flat_map spelling xs) behind ∙ ap (λ (l : List ℕ). front ++ l) (append_assoc (spelling x) (flat_map spelling xs) behind))
        ∙ ap (λ (l : List ℕ). l ++ behind) (sym (flat_map-append spelling first.records (x ∷ xs)) ∙ ap (λ (l : List Record). flat_map spelling l) whole)
        ∙ begins used bytes t second in
        let here : extent (4096 * s.read) 4096 bytes ≡ spelling x =
        ap (λ (l : List ℕ). take 4096 (drop (4096 * s.read) l)) (sym order)
        ∙ ap (λ (l : List ℕ). take 4096 l) (drop_at front (spelling x ++ (flat_map spelling xs ++ behind)) (4096 * s.read) long)
        ∙ take_at (spelling x) (flat_map spelling xs ++ behind) 4096 (length-spelling x is) in
        let on : follow used s (x ∷ xs) ≡ Some t =
        sym (follow-append used fresh s first.records (x ∷ xs) first.read) ∙ ap (λ (l : List Record). follow used fresh l) whole ∙ second.read in
        let none : None ≡ Some t =
        ap (λ (o : Option State). next (next o (λ u. Some (record u { read = u.read + 1 }))) (λ u. follow used u xs)) (sym (stuck x is here)) ∙ on in
        cc

pub journals_once : (area : Area) (a b : Contents) (bytes : List ℕ) → Journals area a bytes → Journals area b bytes → a ≡ b
journals_once area a b bytes first second =
    let same : first.state ≡ second.state =
    reads_once (used area bytes) (slots_on bytes) first.state second.state first.reads second.reads (first.all ∙ sym second.all) in
    sym first.same ∙ ap (λ (s : State). contents_of s) same ∙ second.same

pub slot_not_bad : (capacity : ℕ) (contents : Contents) (bytes : List ℕ) (spare : Bool) (slot : ℕ) → Journals (area_of capacity) contents bytes
    → IsBadJournal (area_of capacity) bytes (BadRecord spare slot) → ⊥
slot_not_bad capacity contents bytes spare slot journal bad = ⊎_elim
    (λ short. absurd (omega (arith, short.1, journal.reaches)))
    (λ (stops : IsBadSlot (area_of capacity) bytes slot). let at : StopsAt (used (area_of capacity) bytes) (slots_on bytes) slot = stops.stops in
    goes_past (used (area_of capacity) bytes) (slots_on bytes) at.state journal.state at.reads journal.reads (omega (arith, at.at, stops.within, journal.all))
    (λ (entry : Record) (is : IsRecord entry) (here : extent (4096 * at.state.read) 4096 (slots_on bytes) ≡ spelling entry). at.stuck entry is (ap (λ (k : ℕ). extent (4096 * k) 4096 (slots_on bytes)) (sym at.at) ∙ here)))
    bad.1

-- two heads that a header has are the same
same_site : (a b : Head) (bytes : List ℕ) → HasHead a bytes → HasHead b bytes → a.site ≡ b.site
same_site a b bytes first second = ap (λ (h : Head). h.site) (one_catalogue_header a b first.is_head second.is_head (sym first.header.tail_stands ∙ second.header.tail_stands))

pub not_refused : (capacity : ℕ) (head : Head) (contents : Contents) (bytes spare : List ℕ) (fault : CatFault) → HasHead head bytes → NamesArea bytes
    → Journals (area_of capacity) contents bytes → HasHeader (spare_tail head.site) spare → IsRefusal fault → IsBadCatalogue (area_of capacity) bytes spare fault → ⊥
not_refused capacity head contents bytes spare NotFormatted has names journal header refusal bad = bad head has.is_head has.header
not_refused capacity head contents bytes spare (BadRecord which slot) has names journal header refusal bad = ⊎_elim
    (λ (mark : IsBadMark bytes which slot). mark.mark names)
    (λ others. ⊎_elim
    (λ (slots : AreBadSlots (area_of capacity) bytes which slot). slot_not_bad capacity contents bytes which slot journal slots.slots)
    (λ (other : IsBadSpare (area_of capacity) bad.head.site bytes spare which slot). other.header (subst (λ (site : ℕ). HasHeader (spare_tail site) spare) (same_site head bad.head bytes has bad.has) header))
    others)
    bad.place
not_refused capacity head contents bytes spare (CatalogueFull used wanted) has names journal header refusal bad = bad
not_refused capacity head contents bytes spare (TooManyObjects live last) has names journal header refusal bad = bad
not_refused capacity head contents bytes spare (Failed which) has names journal header refusal bad = refusal
not_refused capacity head contents bytes spare OutOfMemory has names journal header refusal bad = refusal

-- the journal stays where its slots do
pub kept : (capacity : ℕ) (contents : Contents) (old new : List ℕ) → used (area_of capacity) new ≡ used (area_of capacity) old
    → held (area_of capacity) new ≡ held (area_of capacity) old → length old ≤ length new → Journals (area_of capacity) contents old → Journals (area_of capacity) contents new
kept capacity contents old new same slots longer stands =
    let area : Area = area_of capacity in
    let all : stands.state.read ≡ used area new = stands.all ∙ sym same in
    record {
      state = stands.state;
      reads = record {
        records = stands.reads.records;
        each = stands.reads.each;
        count = stands.reads.count;
        spelled = ap (λ (k : ℕ). take (4096 * k) (slots_on new)) all ∙ slots ∙ ap (λ (k : ℕ). take (4096 * k) (slots_on old)) (sym stands.all) ∙ stands.reads.spelled;
        read = ap (λ (k : ℕ). follow k fresh stands.reads.records) same ∙ stands.reads.read;
      };
      all = all;
      whole = stands.whole;
      same = stands.same;
      reaches = omega (arith, stands.reaches, longer, ap (λ (k : ℕ). 4096 * k) same);
    }

-- so it's decided by the gates and the slots used
pub stays : (capacity : ℕ) (contents : Contents) (old new : List ℕ) → Journals (area_of capacity) contents old → extent 8192 capacity new ≡ extent 8192 capacity old
    → extent 73728 (4096 * used (area_of capacity) old) new ≡ extent 73728 (4096 * used (area_of capacity) old) old → length old ≤ length new → Journals (area_of capacity) contents new
stays capacity contents old new stands gates slots longer =
    let same : used (area_of capacity) new ≡ used (area_of capacity) old = used_by_gates (area_of capacity) old new gates in
    kept capacity contents old new same (ap (λ (n : ℕ). extent 73728 (4096 * n) new) same ∙ slots) longer stands
