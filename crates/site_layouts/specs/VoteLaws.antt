-- What the catalogue's transaction makes of its contents is what a vote makes of the store.
use Rattle.std.specs.Prelude.{◌≡◌, ℕ, suc, ◌+◌, ◌<◌, ◌≤◌, ◌==◌, ◌&&◌, ◌||◌, List, [], ◌∷◌, ◌++◌, length, map, filter, sum_by, Bool, true, false, not, nat_eq, if◌then◌else◌}
use Rattle.std.specs.List.{AllByRecursion}
use Rattle.std.proofs.Common.{arith, refl, sym, ap, subst, ◌∙◌}
use Rattle.std.proofs.lemmas.Bool.Decides.{nat_tests}
use Rattle.std.proofs.lemmas.List.{length-map, map-append}
use Rattle.std.proofs.lemmas.List.Sums.{sum_by-cons}
use Rattle.catalogue_slots.specs.Records.{Object, slots_for}
use Rattle.catalogue_replay.specs.Contents.{Contents, without}
use Rattle.catalogue_replay.specs.Answers.{IsCatalogue}
use Rattle.catalogue_journal.specs.Transactions.{Addition, ended, objects_from, slots_wanted, without_all}
use Rattle.site_headers.specs.Heads.{Head}
use Rattle.site_headers.specs.Areas.{slot_count}
use Rattle.gated_slots.specs.Slots.{used}
use Rattle.lane_ways.specs.ListLaws.{filter_all, filter_and}
use Rattle.site_worlds.specs.Worlds.{Kept, Store}
use Rattle.site_worlds.specs.Fitness.{AscendWithin}
use Rattle.site_worlds.specs.Moves.{is_among, slots_of, store_after}
use Rattle.site_layouts.specs.Stores.{Held, HoldsCatalogue, HoldsSpare, catalogue_area, contents_of}

abbrev objects_of : List Kept → List Object
objects_of kept = map (λ k. k.object) kept

-- deletions

-- an object has another copy id
abbrev is_other : ℕ → Kept → Bool
is_other copy kept = not (copy == kept.object.copy)

turned : (a b : ℕ) → nat_eq a b ≡ nat_eq b a
turned a b = grind (arith, nat_tests)

later_others : (copy before last : ℕ) (kept : List Kept) → copy ≤ before → AscendWithin before last kept → AllByRecursion (λ k. is_other copy k ≡ true) kept
later_others copy before last [] le ascend = tt
later_others copy before last (k ∷ kept) le ascend = (
  differs k.object.copy (omega (arith, le, ascend.0)),
  later_others copy k.object.copy last kept (omega (arith, le, ascend.0)) ascend.1,
)
  where
    differs : (other : ℕ) → copy < other → not (copy == other) ≡ true
    differs other lt = grind (arith, nat_tests, lt)

-- of objects in order of copy id the one with a copy id is taken out
one_out : (copy before last : ℕ) (kept : List Kept) → AscendWithin before last kept → without copy (objects_of kept) ≡ objects_of (filter (is_other copy) kept)
one_out copy before last [] ascend = refl
one_out copy before last (k ∷ kept) ascend = by (copy == k.object.copy) refl (one_out copy k.object.copy last kept ascend.1)
  where
    same_copy : (a b : ℕ) → (a == b) ≡ true → a ≤ b
    same_copy a b is = grind (arith, nat_tests, is)

    by : (b : Bool) → (copy == k.object.copy) ≡ b → without copy (objects_of kept) ≡ objects_of (filter (is_other copy) kept)
        → without copy (objects_of (k ∷ kept)) ≡ objects_of (filter (is_other copy) (k ∷ kept))
    by true is rest =
        ap (λ (c : Bool). if c then objects_of kept else k.object ∷ without copy (objects_of kept)) (turned k.object.copy copy ∙ is)
        ∙ ap objects_of (sym (filter_all (is_other copy) kept (later_others copy k.object.copy last kept (same_copy copy k.object.copy is) ascend.1)))
        ∙ ap (λ (c : Bool). objects_of (if not c then k ∷ filter (is_other copy) kept else filter (is_other copy) kept)) (sym is)
    by false is rest =
        ap (λ (c : Bool). if c then objects_of kept else k.object ∷ without copy (objects_of kept)) (turned k.object.copy copy ∙ is)
        ∙ ap (λ (l : List Object). k.object ∷ l) rest
        ∙ ap (λ (c : Bool). objects_of (if not c then k ∷ filter (is_other copy) kept else filter (is_other copy) kept)) (sym is)

lower : (less before last : ℕ) (kept : List Kept) → less ≤ before → AscendWithin before last kept → AscendWithin less last kept
lower less before last [] le ascend = omega (arith, le, ascend)
lower less before last (k ∷ kept) le ascend = (omega (arith, le, ascend.0), ascend.1)

still_ascend : (test : Kept → Bool) (before last : ℕ) (kept : List Kept) → AscendWithin before last kept → AscendWithin before last (filter test kept)
still_ascend test before last [] ascend = ascend
still_ascend test before last (k ∷ kept) ascend = by (test k) (still_ascend test k.object.copy last kept ascend.1)
  where
    by : (b : Bool) → AscendWithin k.object.copy last (filter test kept) → AscendWithin before last (if b then k ∷ filter test kept else filter test kept)
    by true rest = (ascend.0, rest)
    by false rest = lower before k.object.copy last (filter test kept) (omega (arith, ascend.0)) rest

filter_same : (p q : Kept → Bool) (kept : List Kept) → ((k : Kept) → p k ≡ q k) → filter p kept ≡ filter q kept
filter_same p q [] same = refl
filter_same p q (k ∷ kept) same =
    ap (λ (b : Bool). if b then k ∷ filter p kept else filter p kept) (same k)
    ∙ ap (λ (l : List Kept). if q k then k ∷ l else l) (filter_same p q kept same)

neither : (a b : Bool) → (not a && not b) ≡ not (a || b)
neither true b = refl
neither false b = refl

all_out : (deleted : List ℕ) (before last : ℕ) (kept : List Kept) → AscendWithin before last kept
    → without_all deleted (objects_of kept) ≡ objects_of (filter (λ k. not (is_among deleted k.object.copy)) kept)
all_out [] before last kept ascend = ap objects_of (sym (filter_all (λ (k : Kept). true) kept (all_true kept)))
  where
    all_true : (list : List Kept) → AllByRecursion (λ k. true ≡ true) list
    all_true [] = tt
    all_true (k ∷ list) = (refl, all_true list)
all_out (copy ∷ deleted) before last kept ascend =
    ap (without_all deleted) (one_out copy before last kept ascend)
    ∙ all_out deleted before last (filter (is_other copy) kept) (still_ascend (is_other copy) before last kept ascend)
    ∙ ap objects_of (filter_and (is_other copy) (λ (k : Kept). not (is_among deleted k.object.copy)) kept
    ∙ filter_same (λ (k : Kept). is_other copy k && not (is_among deleted k.object.copy)) (λ (k : Kept). not (is_among (copy ∷ deleted) k.object.copy)) kept
    (λ k. neither (copy == k.object.copy) (is_among deleted k.object.copy)))

-- additions

length-objects_from : (copy : ℕ) (additions : List Addition) → length (objects_from copy additions) ≡ length additions
length-objects_from copy [] = refl
length-objects_from copy (addition ∷ additions) = ap suc (length-objects_from (suc copy) additions)

-- Objects that a transaction adds have the next copy ids, and all else as it was handed in.
abbrev pub AreAdded : ℕ → List Kept → List Addition → Type 0
AreAdded last added additions = map (λ k. k.object) added ≡ objects_from (suc last) additions

as_many : (last : ℕ) (added : List Kept) (additions : List Addition) → AreAdded last added additions → length additions ≡ length added
as_many last added additions are =
    sym (length-objects_from (suc last) additions) ∙ ap (λ (l : List Object). length l) (sym are) ∙ length-map added (λ (k : Kept). k.object)

abbrev contents_with : ℕ → List Object → Contents
contents_with last objects = record { last = last; objects = objects }

-- What the catalogue has behind a transaction is what it shows of the store behind the vote.
pub ended_is_vote : (store : Store) (added : List Kept) (deleted : List ℕ) (additions : List Addition) → AscendWithin 0 store.last store.kept
    → AreAdded store.last added additions → ended deleted additions (contents_of store) ≡ contents_of (store_after added deleted store)
ended_is_vote store added deleted additions ascend are =
    ap (λ (n : ℕ). contents_with (store.last + n) (without_all deleted (objects_of store.kept) ++ objects_from (suc store.last) additions)) (as_many store.last added additions are)
    ∙ ap (λ (l : List Object). contents_with (store.last + length added) l)
    (ap (λ (l : List Object). l ++ objects_from (suc store.last) additions) (all_out deleted 0 store.last store.kept ascend)
    ∙ ap (λ (l : List Object). objects_of (filter (λ k. not (is_among deleted k.object.copy)) store.kept) ++ l) (sym are)
    ∙ sym (map-append (λ (k : Kept). k.object) (filter (λ k. not (is_among deleted k.object.copy)) store.kept) added))

-- the slots that objects take

abbrev slots_of_objects : List Object → List ℕ → ℕ
slots_of_objects [] deleted = length deleted
slots_of_objects (object ∷ objects) deleted = slots_for (length object.runs) + slots_of_objects objects deleted

slots_by_kept : (added : List Kept) (deleted : List ℕ) → slots_of added deleted ≡ slots_of_objects (objects_of added) deleted
slots_by_kept [] deleted = refl
slots_by_kept (k ∷ added) deleted = ap (λ (n : ℕ). slots_for (length k.object.runs) + n) (slots_by_kept added deleted)

abbrev slots_of_one : Addition → ℕ
slots_of_one addition = slots_for (length addition.runs)

slots_by_additions : (copy : ℕ) (additions : List Addition) (deleted : List ℕ) → slots_of_objects (objects_from copy additions) deleted ≡ slots_wanted deleted additions
slots_by_additions copy [] deleted = omega arith
slots_by_additions copy (addition ∷ additions) deleted =
    one_more (slots_for (length addition.runs)) (slots_of_objects (objects_from (suc copy) additions) deleted) (length deleted)
    (sum_by slots_of_one additions) (sum_by slots_of_one (addition ∷ additions)) (slots_by_additions (suc copy) additions deleted)
    (sum_by-cons slots_of_one addition additions)
  where
    one_more : (own rest count of_rest of_all : ℕ) → rest ≡ count + of_rest → of_all ≡ own + of_rest → own + rest ≡ count + of_all
    one_more own rest count of_rest of_all is all = omega (arith, is, all)

pub wanted_is_used : (last : ℕ) (added : List Kept) (deleted : List ℕ) (additions : List Addition) → AreAdded last added additions
    → slots_wanted deleted additions ≡ slots_of added deleted
wanted_is_used last added deleted additions are =
    sym (slots_by_additions (suc last) additions deleted) ∙ ap (λ (l : List Object). slots_of_objects l deleted) (sym are) ∙ sym (slots_by_kept added deleted)

-- two disks that are a catalogue

-- what they show of a store
pub catalogue_shows : (head : Head) (store : Store) (held : Held) (bytes spare : List ℕ) → held.area ≡ 0 → used catalogue_area bytes ≡ store.used
    → IsCatalogue slot_count head (contents_of store) bytes spare → HoldsCatalogue head store held bytes × HoldsSpare head spare
catalogue_shows head store held bytes spare own taken is = (
  record { heads = is.heads; own_area = own; mark = is.mark; journal = is.journal; used = taken },
  is.spare,
)

pub catalogue_stands : (head : Head) (store : Store) (held : Held) (bytes spare : List ℕ) → HoldsCatalogue head store held bytes → HoldsSpare head spare
    → IsCatalogue slot_count head (contents_of store) bytes spare
catalogue_stands head store held bytes spare holds spare_holds = record { heads = holds.heads; mark = holds.mark; journal = holds.journal; spare = spare_holds }

-- Behind a transaction they show the store behind the vote.
pub catalogue_votes : (head : Head) (store : Store) (held : Held) (added : List Kept) (deleted : List ℕ) (additions : List Addition) (bytes spare : List ℕ) → held.area ≡ 0
    → AscendWithin 0 store.last store.kept → AreAdded store.last added additions → used catalogue_area bytes ≡ store.used + slots_wanted deleted additions
    → IsCatalogue slot_count head (ended deleted additions (contents_of store)) bytes spare
    → HoldsCatalogue head (store_after added deleted store) held bytes × HoldsSpare head spare
catalogue_votes head store held added deleted additions bytes spare own ascend are taken is =
    catalogue_shows head (store_after added deleted store) held bytes spare own
    (taken ∙ ap (λ (n : ℕ). store.used + n) (wanted_is_used store.last added deleted additions are))
    (subst (λ (contents : Contents). IsCatalogue slot_count head contents bytes spare) (ended_is_vote store added deleted additions ascend are) is)
