-- What a transaction behind a journal says, and the journal that it leaves.
use Rattle.std.proofs.Common.{◌≡◌, ℕ, ◌+◌, ◌*◌, ◌/◌, ◌<◌, ◌≤◌, max, List, [], ◌∷◌, ◌++◌, length, take, drop, map, Option, Some, None, refl, sym, ap, ◌∙◌, subst, suc, arith, inl, inr, ⊎_elim}
use Rattle.std.specs.Prelude.{sum_by, Bool, true, false, ◌&&◌, if◌then◌else◌, not, nat_eq, nat_lt, nat_le, is_none}
use Rattle.std.proofs.lemmas.Option.{same_Some}
use Rattle.std.specs.List.{AllByRecursion, flat_map}
use Rattle.std.proofs.lemmas.List.{length-append, length-take, length-drop, append_assoc, append-nil}
use Rattle.std.proofs.lemmas.List.Concat.{flat_map-append}
use Rattle.std.proofs.lemmas.List.Sums.{sum_by-cons}
use Rattle.site_disk.specs.CallsLaws.{uses_more}
use Rattle.site_disk.specs.Images.{Leaves, OnlyAfter}
use Rattle.site_disk.specs.SeenLaws.{synced_after}
use Rattle.site_disk.specs.ImagesLaws.{weaker}
use Rattle.site_disk.specs.Ledger.{EraView, Ledger, Uses}
use Rattle.gated_slots.specs.Slots.{Area, SlotsView, used, held, place_of, Gains, MayGain, Reaches}
use Rattle.gated_slots.specs.SlotsLaws.{length-held}
use Rattle.catalogue_slots.specs.Records.{Object, Record, add, more, del, base, IsRecord, slots_for, records_of}
use Rattle.catalogue_slots.specs.Layout.{spelling}
use Rattle.block_chain.specs.Blocks.{blocks_in, blocks_for}
use Rattle.catalogue_replay.specs.Contents.{Contents, AreRising, has_copy, without}
use Rattle.catalogue_journal.specs.Transactions.{Addition, IsAddition, object_with, objects_from, without_all, AreLive, ended, slots_wanted}
use Rattle.catalogue_replay.specs.Journal.{Rest, State, fresh, with_runs, may_continue, continued, taken, next, after, follow, contents_of}
use Rattle.catalogue_replay.specs.Places.{area_of, slots_on, Journals}
use Rattle.catalogue_journal.specs.Commits.{MayEnd}
use Rattle.catalogue_journal.specs.Batches.{IsBatch}
use Rattle.std.specs.List.Sorted.{IsPermutation}
use Rattle.catalogue_slots.specs.Views.{object_of}
use Rattle.catalogue_slots.specs.declared.entry.ObjectEntry.{ObjectEntry}
use Rattle.catalogue_journal.proofs.DeletionLemmas.{without_all-permutation}
use Rattle.catalogue_journal.proofs.EntryLemmas.{length-batch, empty_transaction}
use Rattle.catalogue_replay.proofs.FollowLemmas.{follow-append}
use Rattle.catalogue_replay.proofs.SameLemmas.{kept}
use Rattle.catalogue_journal.proofs.EndingLemmas.{follow-more, follow_dels, follow_object}

-- the last copy id is at least that of the last Add
with_runs_keeps : (s : State) (count : ℕ) (object : Object) (t : State) → with_runs s count object ≡ Some t → (t.added ≡ s.added) × (t.last ≡ s.last)
with_runs_keeps s count object t e = by (nat_eq (length object.runs) count) (nat_eq (blocks_in object.runs) (blocks_for object.size)) e
  where
    by : (a b : Bool)
        → (if not a then Some (record s { rest = Some (record { count = count; object = object }) })
        else (if b then Some (record s { objects = s.objects ++ object ∷ []; rest = None }) else None)) ≡ Some t
        → (t.added ≡ s.added) × (t.last ≡ s.last)
    by false b e = let same = same_Some _ _ e in (sym (ap (λ (u : State). u.added) same), sym (ap (λ (u : State). u.last) same))
    by true true e = let same = same_Some _ _ e in (sym (ap (λ (u : State). u.added) same), sym (ap (λ (u : State). u.last) same))
    by true false e = cc

taken_below : (used : ℕ) (s t : State) (x : Record) → taken used s x ≡ Some t → s.added ≤ s.last → t.added ≤ t.last
taken_below used s t (add count object) e le = by (is_none s.rest && nat_lt s.added object.copy && nat_le (s.read + slots_for count) used) e
  where
    by : (a : Bool) → (if a then with_runs (record s { last = max s.last object.copy; added = object.copy }) count object else None) ≡ Some t → t.added ≤ t.last
    by true e = let keeps = with_runs_keeps (record s { last = max s.last object.copy; added = object.copy }) count object t e in omega (arith, keeps.0, keeps.1)
    by false e = cc
taken_below used s t (more copy runs) e le = by s.rest e
  where
    by : (r : Option Rest) → continued (record s { rest = None }) r copy runs ≡ Some t → t.added ≤ t.last
    by None e = cc
    by (Some rest) e = next_runs (may_continue rest copy runs) rest e
      where
        next_runs : (a : Bool) (rest : Rest) → (if a then with_runs (record s { rest = None }) rest.count (record rest.object { runs = rest.object.runs ++ runs }) else None) ≡ Some t → t.added ≤ t.last
        next_runs true rest e = let keeps = with_runs_keeps (record s { rest = None }) rest.count (record rest.object { runs = rest.object.runs ++ runs }) t e in omega (arith, keeps.0, keeps.1, le)
        next_runs false rest e = cc
taken_below used s t (del copy) e le = by (is_none s.rest && has_copy copy s.objects) e
  where
    by : (a : Bool) → (if a then Some (record s { objects = without copy s.objects }) else None) ≡ Some t → t.added ≤ t.last
    by true e = let same = same_Some _ _ e in omega (arith, ap (λ (u : State). u.added) same, ap (λ (u : State). u.last) same, le)
    by false e = cc
taken_below used s t (base last) e le = by (nat_eq s.read 0 && is_none s.rest) e
  where
    by : (a : Bool) → (if a then Some (record s { last = max s.last last }) else None) ≡ Some t → t.added ≤ t.last
    by true e = let same = same_Some _ _ e in omega (arith, ap (λ (u : State). u.added) same, ap (λ (u : State). u.last) same, le)
    by false e = cc

pub added_below : (used : ℕ) (s t : State) (xs : List Record) → follow used s xs ≡ Some t → s.added ≤ s.last → t.added ≤ t.last
added_below used s t [] e le = let same = same_Some _ _ e in omega (arith, ap (λ (u : State). u.added) same, ap (λ (u : State). u.last) same, le)
added_below used s t (x ∷ xs) e le =
    through (taken used s x) e (λ (u : State) (h : taken used s x ≡ Some u). taken_below used s u x h le) refl
    (λ (u : State) (h : follow used u xs ≡ Some t) (b : u.added ≤ u.last). added_below used u t xs h b)
  where
    through : (o : Option State) → next (next o (λ u. Some (record u { read = u.read + 1 }))) (λ u. follow used u xs) ≡ Some t
        → ((u : State) → taken used s x ≡ Some u → u.added ≤ u.last) → taken used s x ≡ o
        → ((u : State) → follow used u xs ≡ Some t → u.added ≤ u.last → t.added ≤ t.last) → t.added ≤ t.last
    through None e b is step = cc
    through (Some u) e b is step = step (record u { read = u.read + 1 }) e (b u is)

-- records that take a state to one with these objects, so many slots on
pub record Says (used : ℕ) (s : State) (records : List Record) (count last : ℕ) (objects : List Object) : Type 0 where
  pub state : State
  pub said : follow used s records ≡ Some state
  pub read : state.read ≡ s.read + count
  pub last_is : state.last ≡ last
  pub objects_are : state.objects ≡ objects
  pub whole : state.rest ≡ None
  pub below : state.added ≤ state.last

abbrev slots_of_all : List Addition → ℕ
slots_of_all additions = sum_by (λ addition. slots_for (length addition.runs)) additions

-- all records of the objects with the ids from one on
pub follow_objects : (used : ℕ) (s : State) (copy : ℕ) (additions : List Addition) → copy ≡ suc s.last → s.rest ≡ None → s.added ≤ s.last
    → s.read + slots_of_all additions ≤ used → AllByRecursion IsAddition additions
    → Says used s (flat_map records_of (objects_from copy additions)) (slots_of_all additions) (s.last + length additions) (s.objects ++ objects_from copy additions)
follow_objects used s copy [] is whole below room each = record {
  state = s;
  said = refl;
  read = omega arith;
  last_is = omega arith;
  objects_are = sym (append-nil s.objects);
  whole = whole;
  below = below;
}
follow_objects used s copy (a ∷ rest) is whole below room each =
    let object : Object = object_with copy a in
    let sum : slots_of_all (a ∷ rest) ≡ slots_for (length a.runs) + slots_of_all rest = sum_by-cons (λ (addition : Addition). slots_for (length addition.runs)) a rest in
    let t : State = record s { read = s.read + slots_for (length a.runs); last = max s.last copy; added = copy; objects = s.objects ++ object ∷ [] } in
    let first : follow used s (records_of object) ≡ Some t = follow_object used s object whole (omega (arith, is, below)) (omega (arith, sum, room)) each.0.runs.maximal each.0.blocks in
    let others = follow_objects used t (suc copy) rest (omega (arith, is)) whole (omega (arith, is)) (omega (arith, sum, room)) each.1 in
    record {
      state = others.state;
      said = follow-append used s t (records_of object) (flat_map records_of (objects_from (suc copy) rest)) first ∙ others.said;
      read = omega (arith, others.read, sum);
      last_is = omega (arith, others.last_is, is);
      objects_are = others.objects_are ∙ append_assoc s.objects (object ∷ []) (objects_from (suc copy) rest);
      whole = others.whole;
      below = others.below;
    }

-- all records of a transaction
pub follow_transaction : (used : ℕ) (s : State) (copies : List ℕ) (additions : List Addition) → s.rest ≡ None → s.added ≤ s.last
    → s.read + slots_wanted copies additions ≤ used → AreLive copies s.objects → AllByRecursion IsAddition additions
    → Says used s (map del copies ++ flat_map records_of (objects_from (suc s.last) additions)) (slots_wanted copies additions) (s.last + length additions)
    (without_all copies s.objects ++ objects_from (suc s.last) additions)
follow_transaction used s copies additions whole below room live each =
    let t : State = record s { read = s.read + length copies; objects = without_all copies s.objects } in
    let dels : follow used s (map del copies) ≡ Some t = follow_dels used s copies whole live in
    let adds = follow_objects used t (suc s.last) additions refl whole below (omega (arith, room)) each in
    record {
      state = adds.state;
      said = follow-append used s t (map del copies) (flat_map records_of (objects_from (suc s.last) additions)) dels ∙ adds.said;
      read = omega (arith, adds.read);
      last_is = adds.last_is;
      objects_are = adds.objects_are;
      whole = adds.whole;
      below = adds.below;
    }

each-append : (xs ys : List Record) → AllByRecursion IsRecord xs → AllByRecursion IsRecord ys → AllByRecursion IsRecord (xs ++ ys)
each-append [] ys first second = second
each-append (x ∷ xs) ys first second = (first.0, each-append xs ys first.1 second)

pub gained : (capacity : ℕ) (copies : List ℕ) (additions : List Addition) (before : Contents) (old new batch : List ℕ) → IsBatch copies additions before batch
    → Gains (area_of capacity) (slots_wanted copies additions) batch old new → Journals (area_of capacity) before old → place_of (area_of capacity) (used (area_of capacity) new) ≤ length new
    → Journals (area_of capacity) (ended copies additions before) new
gained capacity copies additions before old new batch is gains stands reaches =
    let area : Area = area_of capacity in
    let s : State = stands.state in
    let lasts : s.last ≡ before.last = ap (λ (k : Contents). k.last) stands.same in
    let objects : s.objects ≡ before.objects = ap (λ (k : Contents). k.objects) stands.same in
    let n : ℕ = slots_wanted copies additions in
    let records : List Record = map del copies ++ flat_map records_of (objects_from (suc before.last) additions) in
    let old_read : follow (used area new) fresh stands.reads.records ≡ Some s =
    follow-more (used area old) (used area new) fresh s stands.reads.records (omega (arith, gains.used)) stands.reads.read in
    let says : Says (used area new) s records n (s.last + length additions) (without_all copies s.objects ++ objects_from (suc before.last) additions) =
    subst (λ (l : ℕ). Says (used area new) s (map del copies ++ flat_map records_of (objects_from (suc l) additions)) n (s.last + length additions) (without_all copies s.objects ++ objects_from (suc l) additions)) lasts
    (follow_transaction (used area new) s copies additions stands.whole (added_below (used area old) fresh s stands.reads.records stands.reads.read (omega arith))
    (omega (arith, gains.used, stands.all)) (subst (AreLive copies) (sym objects) is.live) is.additions_are) in
    let reads_all : says.state.read ≡ used area new = omega (arith, says.read, gains.used, stands.all) in
    record {
      state = says.state;
      reads = record {
        records = stands.reads.records ++ records;
        each = each-append stands.reads.records records stands.reads.each is.each;
        count = omega (arith, length-append stands.reads.records records, stands.reads.count, is.count, says.read);
        spelled =
            ap (λ (k : ℕ). take (4096 * k) (slots_on new)) reads_all ∙ gains.held
            ∙ ap (λ (l : List ℕ). l ++ batch) (ap (λ (k : ℕ). take (4096 * k) (slots_on old)) (sym stands.all) ∙ stands.reads.spelled)
            ∙ ap (λ (l : List ℕ). flat_map spelling stands.reads.records ++ l) is.spelled
            ∙ sym (flat_map-append spelling stands.reads.records records);
        read = follow-append (used area new) fresh s stands.reads.records records old_read ∙ says.said;
      };
      all = reads_all;
      whole = says.whole;
      same = contents_are says.state (ended copies additions before) (says.last_is ∙ ap (λ (l : ℕ). l + length additions) lasts)
          (says.objects_are ∙ ap (λ (l : List Object). without_all copies l ++ objects_from (suc before.last) additions) objects);
      reaches = reaches;
    }
  where
    contents_are : (state : State) (contents : Contents) → state.last ≡ contents.last → state.objects ≡ contents.objects → contents_of state ≡ contents
    contents_are state contents a b = rw (a, b) refl

-- a batch that was gained stands whole
gains_long : (capacity n : ℕ) (old new batch : List ℕ) → length batch ≡ 4096 * n → Gains (area_of capacity) n batch old new
    → place_of (area_of capacity) (used (area_of capacity) old) ≤ length old → place_of (area_of capacity) (used (area_of capacity) new) ≤ length new
gains_long capacity n old new batch size gains reaches =
    let area : Area = area_of capacity in
    let all : length (held area new) ≡ length (held area old ++ batch) = ap length gains.held in
    let front : length (held area old) ≡ 4096 * used area old = length-held area old reaches in
    omega (
      arith,
      all,
      front,
      size,
      length-append (held area old) batch,
      length-take (4096 * used area new) (drop 73728 new),
      length-drop 73728 new,
      reaches,
      gains.no_shorter,
      gains.used,
    )

-- the journal that a commit leaves
pub ended_journal : (capacity : ℕ) (copies : List ℕ) (additions : List Addition) (before : Contents) (old new batch : List ℕ) → IsBatch copies additions before batch
    → Gains (area_of capacity) (slots_wanted copies additions) batch old new → Journals (area_of capacity) before old → Journals (area_of capacity) (ended copies additions before) new
ended_journal capacity copies additions before old new batch is gains stands =
    gained capacity copies additions before old new batch is gains stands
    (gains_long capacity (slots_wanted copies additions) old new batch (length-batch copies additions before batch is) gains stands.reaches)

-- each image of a commit has the journal from before it or the one behind it
pub may_end : (capacity : ℕ) (copies : List ℕ) (additions : List Addition) (before : Contents) (old new batch : List ℕ) → IsBatch copies additions before batch
    → MayGain (area_of capacity) (slots_wanted copies additions) batch old new
    → MayEnd (area_of capacity) (slots_wanted copies additions) before (ended copies additions before) old new
may_end capacity copies additions before old new batch is may = record {
  contents = λ n has. ⊎_elim
      (λ keeps. inl (record { journal = kept capacity before old new keeps.used keeps.held keeps.no_shorter has.journal; used = keeps.used ∙ has.used }))
      (λ gains. inr (record {
        journal = ended_journal capacity copies additions before old new batch is gains has.journal;
        used = gains.used ∙ ap (λ (k : ℕ). k + slots_wanted copies additions) has.used;
      })) may.slots;
  elsewhere = may.elsewhere;
  no_shorter = may.no_shorter;
}

pub ends_none : (area : Area) (wanted : ℕ) (before behind : Contents) (bytes : List ℕ) → MayEnd area wanted before behind bytes bytes
ends_none area wanted before behind bytes = record { contents = λ n has. inl has; elsewhere = λ from len gates slots. refl; no_shorter = omega arith }

-- the calls of a commit

-- what the slots of an open catalogue know of its disk
pub reaches_next : (capacity : ℕ) (contents : Contents) (view : SlotsView) (bytes : List ℕ) → view.area ≡ area_of capacity → used view.area bytes ≡ view.used
    → Journals (area_of capacity) contents bytes → Reaches view bytes
reaches_next capacity contents view bytes is now stands =
    let count : used (area_of capacity) bytes ≡ view.used = ap (λ (a : Area). used a bytes) (sym is) ∙ now in
    subst (λ (a : Area). place_of a view.used ≤ length bytes) (sym is) (subst (λ (k : ℕ). place_of (area_of capacity) k ≤ length bytes) count stands.reaches)

-- a batch that is seen through a slice
pub seen : {copies : List ℕ} {additions : List Addition} {before : Contents} {batch piece : List ℕ} → IsBatch copies additions before batch → piece ≡ batch → IsBatch copies additions before piece
seen {copies = copies} {additions = additions} {before = before} is same = subst (λ (l : List ℕ). IsBatch copies additions before l) (sym same) is

pub batch_count : {copies : List ℕ} {additions : List Addition} {before : Contents} {batch : List ℕ} → IsBatch copies additions before batch → length batch / 4096 ≡ slots_wanted copies additions
batch_count {copies = copies} {additions = additions} {before = before} {batch = batch} is = omega (arith, length-batch copies additions before batch is)

module _ {capacity : ℕ} {copies : List ℕ} {additions : List Addition} {before : Contents} {batch : List ℕ} (is : IsBatch copies additions before batch) (view : SlotsView)
    (area_is : view.area ≡ area_of capacity) where
  -- where its slots agree with the disk
  module _ {old : List ℕ} (now : used view.area old ≡ view.used) (stands : Journals (area_of capacity) before old) where
    reaches : Reaches view old
    reaches = reaches_next capacity before view old area_is now stands

    pub batch_ended : {new : List ℕ} → (Reaches view old → Gains view.area (length batch / 4096) batch old new) → Journals (area_of capacity) (ended copies additions before) new
    batch_ended {new = new} gains =
        ended_journal capacity copies additions before old new batch is
        (subst (λ (a : Area). Gains a (slots_wanted copies additions) batch old new) area_is
        (subst (λ (k : ℕ). Gains view.area k batch old new) (batch_count is) (gains reaches))) stands

    pub batch_stops : {e : ℕ} {images after : ℕ → List ℕ → Type 0} → (Reaches view old → Leaves e (MayGain view.area (length batch / 4096) batch) images after)
        → Leaves e (MayEnd (area_of capacity) (slots_wanted copies additions) before (ended copies additions before)) images after
    batch_stops {e = e} {images = images} {after = after} call =
        weaker (MayEnd (area_of capacity) (slots_wanted copies additions) before (ended copies additions before)) (MayGain view.area (length batch / 4096) batch) e images images after (call reaches)
        (λ f d c lt image may. may_end capacity copies additions before d c batch is
        (subst (λ (a : Area). MayGain a (slots_wanted copies additions) batch d c) area_is (subst (λ (k : ℕ). MayGain view.area k batch d c) (batch_count is) may)))

    pub batch_bound : (before_call after_call : ℕ) → (Reaches view old → after_call ≤ before_call + length batch + 1) → after_call ≤ before_call + 4096 * slots_wanted copies additions + 1
    batch_bound before_call after_call bound = omega (arith, bound reaches, length-batch copies additions before batch is)

    -- what stands after it in every image of later eras
    pub batch_stands : {e last : ℕ} {new : List ℕ} {image : ℕ → List ℕ → Type 0} → (Reaches view old → Gains view.area (length batch / 4096) batch old new)
        → OnlyAfter e new image → last ≤ e → ((f g : ℕ) (c : List ℕ) → last ≤ f → last < g → image g c → image f c)
        → (f : ℕ) (c : List ℕ) → last < f → image f c → Journals (area_of capacity) (ended copies additions before) c
    batch_stands {e = e} {last = last} {new = new} {image = image} gains only le counts f c lt here =
        subst (λ (l : List ℕ). Journals (area_of capacity) (ended copies additions before) l) (sym (synced_after (record { last = last; bytes = new; images = image }) e counts le only f c lt here)) (batch_ended gains)

  pub batch_uses : {era : EraView} {before_call after_call : Ledger} → Uses era 0 (place_of view.area view.used + length batch + 1) before_call after_call
      → Uses era 0 (73729 + 4096 * (view.used + slots_wanted copies additions)) before_call after_call
  batch_uses uses =
      let place : place_of view.area view.used ≡ 73728 + 4096 * view.used = ap (λ (a : Area). place_of a view.used) area_is in
      uses_more uses (omega arith) (omega (arith, place, length-batch copies additions before batch is))

abbrev pub contents_with : ℕ → List Object → Contents
contents_with last objects = record { last = last; objects = objects }

pub same_contents : (a b : Contents) → a.last ≡ b.last → a.objects ≡ b.objects → a ≡ b
same_contents a b lasts objects = ap (λ (n : ℕ). contents_with n a.objects) lasts ∙ ap (λ (l : List Object). contents_with b.last l) objects

-- the contents that a transaction ends: what it deletes goes by copy ids in order, what it adds comes behind
pub ended_contents : (additions : List Addition) (n : ℕ) {copies deletions sorted : List ℕ} {last : ℕ} {xs ys : List ObjectEntry} {objects added : List Object}
    → last ≡ n + length additions → objects ≡ without_all deletions (map object_of xs) ++ added → deletions ≡ sorted → IsPermutation copies sorted → xs ≡ ys
    → AreRising 0 (map object_of ys) → added ≡ objects_from (n + 1) additions → contents_with last objects ≡ ended copies additions (contents_with n (map object_of ys))
ended_contents additions n {copies = copies} {sorted = sorted} {last = last} {xs = xs} {ys = ys} {objects = objects} {added = added} lasts are seen_through same stay rising new =
    let first : n + 1 ≡ suc n = omega arith in
    same_contents (contents_with last objects) (ended copies additions (contents_with n (map object_of ys))) lasts
    (are ∙ ap (λ (l : List ℕ). without_all l (map object_of xs) ++ added) seen_through
    ∙ ap (λ (l : List ObjectEntry). without_all sorted (map object_of l) ++ added) stay
    ∙ ap (λ (l : List Object). l ++ added) (without_all-permutation copies sorted ys same rising)
    ∙ ap (λ (l : List Object). without_all copies (map object_of ys) ++ l) (new ∙ ap (λ (k : ℕ). objects_from k additions) first))

-- an empty transaction ends where it began
pub ended_empty : (copies : List ℕ) (additions : List Addition) (before : Contents) → slots_wanted copies additions ≡ 0 → before ≡ ended copies additions before
ended_empty copies additions before none =
    let empty = empty_transaction copies additions none in
    rw (empty.0, empty.1) (same_contents before (ended [] [] before) (omega arith) (sym (append-nil before.objects)))
