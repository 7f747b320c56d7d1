-- Reads into a place of a buffer, and of the runs of an object.
use Rattle.std.proofs.Common.{◌≡◌, ℕ, zero, suc, ◌+◌, ◌-◌, ◌*◌, ◌<◌, ◌≤◌, ◌⊎◌, min, Bool, IsTrue, List, [], ◌∷◌, ◌++◌, length, take, drop, refl, arith, ap, sym, ◌∙◌, ⊎_elim, get_or}
use Rattle.std.specs.Prelude.{Result, Ok, Err, IfOk}
use Rattle.std.proofs.lemmas.List.{append-nil, take-append-le, take-append-drop, take_at, drop_at, take_all, drop_all, length-take-le}
use Rattle.std.proofs.lemmas.Bool.{cases_lt}
use Rattle.std.proofs.Math.Seq.{take-add, drop-cons}
use lib.Seq.{drop-drop}
use borrow.Rule.Slice.PartMut.{put_mid, post_of}
use Rattle.site_disk.specs.Bytes.{extent}
use Rattle.site_disk.specs.Images.{Unchanged}
use Rattle.site_disk.specs.Ledger.{Ledger, EraView, Uses}
use Rattle.site_disk.specs.declared.faults.Failed.{Failed}
use Rattle.block_chain.specs.Blocks.{ascending, blocks_of_runs}
use Rattle.block_chain.specs.BlocksLaws.{length-ascending}
use Rattle.block_chain.specs.declared.runs.Run.{Run}
use Rattle.object_volume.specs.Cursors.{StandsIn}
use Rattle.object_volume.specs.declared.reading.Cursor.{Cursor}
use Rattle.object_volume.specs.Objects.{place_of, places, bytes_at, object_part}
use Rattle.object_volume.specs.ObjectsLaws.{take-ascending, drop-ascending, places-append, places-nil, places-ascending, bytes_at-ascending, bytes_at-append, bytes_at-cut, bytes_at-nil}

take-length-take : (n : ℕ) (l : List ℕ) → take (length (take n l)) l ≡ take n l
take-length-take zero l = refl
take-length-take (suc n) [] = refl
take-length-take (suc n) (x ∷ l) = ap (λ (m : List ℕ). x ∷ m) (take-length-take n l)

-- the front of a buffer after a part of it was written over
pub take-put : (at k n : ℕ) (xs ys : List ℕ) → at ≤ length xs → n ≤ length ys → take (at + n) (put_mid at k xs ys) ≡ take at xs ++ take n ys
take-put at k n xs ys within few =
    let long : length (take at xs) ≡ at = length-take-le at xs within in
    take-add at n (put_mid at k xs ys)
    ∙ ap (λ (l : List ℕ). l ++ take n (drop at (put_mid at k xs ys))) (take_at (take at xs) (ys ++ post_of at k xs) at long)
    ∙ ap (λ (l : List ℕ). take at xs ++ take n l) (drop_at (take at xs) (ys ++ post_of at k xs) at long)
    ∙ ap (λ (l : List ℕ). take at xs ++ l) (take-append-le n ys (post_of at k xs) few)

-- as many bytes as were got are all that there are
pub extent-got : (at n got : ℕ) (file : List ℕ) → got ≡ length (extent at n file) → extent at got file ≡ extent at n file
extent-got at n got file is = ap (λ (k : ℕ). extent at k file) is ∙ take-length-take n (drop at file)

-- what a read into a place of a buffer leaves in front
pub read_front : (read : Result ℕ Failed) (at k n len place : ℕ) (xs ys file : List ℕ) → at ≤ length xs → len ≡ n → length ys ≡ len
    → IfOk read (λ got. got ≤ len) → IfOk read (λ got. got ≡ length (extent place len file)) → IfOk read (λ got. take got ys ≡ extent place got file)
    → IfOk read (λ got. take (at + got) (put_mid at k xs ys) ≡ take at xs ++ extent place n file)
read_front (Ok got) at k n len place xs ys file within same long bound count found =
    take-put at k got xs ys within (omega (arith, bound, long))
    ∙ ap (λ (l : List ℕ). take at xs ++ l) (found ∙ extent-got place len got file count ∙ ap (λ (j : ℕ). extent place j file) same)
read_front (Err e) at k n len place xs ys file within same long bound count found = tt

-- so many bytes of an object were read from a cursor on, and the others begin at the next one
pub record Reading {D : Type 0} (tells : Bool) (bytes : D → List ℕ) (image : D → ℕ → List ℕ → Type 0) (ledger : D → Ledger) (era : EraView)
    (runs : List Run) (size wanted : ℕ) (start cursor next : Cursor) (done len : ℕ) (before into : List ℕ) (old new : D) : Type 0 where
  pub within : done ≤ wanted
  pub least : wanted ≡ min (size - start.offset) len
  pub room : len ≡ length into
  pub rest : drop done into ≡ drop done before
  pub stands : IsTrue tells → object_part runs size start.offset len (bytes old)
      ≡ take done into ++ bytes_at (bytes old) (take (wanted - done) (drop next.skip (places (blocks_of_runs (drop next.run runs)))))
  pub still : cursor ≡ start
  pub here : StandsIn runs next
  pub moved : next.offset ≡ start.offset + done
  pub content : bytes new ≡ bytes old
  pub images : Unchanged (image old) (image new)
  pub uses : Uses era done 0 (ledger old) (ledger new)

drop-of-take : (a b : ℕ) (xs : List ℕ) → drop a (take b xs) ≡ take (b - a) (drop a xs)
drop-of-take zero b xs = ap (λ (k : ℕ). take k xs) (less_none b)
  where
    less_none : (b : ℕ) → b ≡ b - 0
    less_none b = omega arith
drop-of-take (suc a) zero xs =
    let none : 0 ≡ 0 - suc a = omega arith in
    ap (λ (k : ℕ). take k (drop (suc a) xs)) none
drop-of-take (suc a) (suc b) [] = sym (take-nothing (suc b - suc a))
  where
    take-nothing : (n : ℕ) → take {A = ℕ} n [] ≡ []
    take-nothing zero = refl
    take-nothing (suc n) = refl
drop-of-take (suc a) (suc b) (x ∷ xs) =
    let less : b - a ≡ suc b - suc a = omega arith in
    drop-of-take a b xs ∙ ap (λ (k : ℕ). take k (drop a xs)) less

take-of-take : (a b : ℕ) (xs : List ℕ) → take a (take b xs) ≡ take (min b a) xs
take-of-take zero zero xs = refl
take-of-take zero (suc b) xs =
    let none : 0 ≡ min (suc b) 0 = omega arith in
    ap (λ (k : ℕ). take k xs) none
take-of-take (suc a) zero xs =
    let none : 0 ≡ min 0 (suc a) = omega arith in
    ap (λ (k : ℕ). take k xs) none
take-of-take (suc a) (suc b) [] =
    let least : suc (min b a) ≡ min (suc b) (suc a) = omega arith in
    ap (λ (k : ℕ). take k []) least
take-of-take (suc a) (suc b) (x ∷ xs) =
    let least : suc (min b a) ≡ min (suc b) (suc a) = omega arith in
    ap (λ (l : List ℕ). x ∷ l) (take-of-take a b xs) ∙ ap (λ (k : ℕ). take k (x ∷ xs)) least

-- the places of a part of an object
pub part_places : (at size len wanted : ℕ) (ps : List ℕ) → wanted ≡ min (size - at) len → take len (drop at (take size ps)) ≡ take wanted (drop at ps)
part_places at size len wanted ps least =
    ap (take len) (drop-of-take at size ps) ∙ take-of-take len (size - at) (drop at ps) ∙ ap (λ (k : ℕ). take k (drop at ps)) (sym least)

take-append : (k : ℕ) (xs ys : List ℕ) → take k (xs ++ ys) ≡ take k xs ++ take (k - length xs) ys
take-append zero [] ys = refl
take-append zero (x ∷ xs) ys = ap (λ (j : ℕ). take j ys) (less_all (length xs))
  where
    less_all : (n : ℕ) → 0 ≡ 0 - suc n
    less_all n = omega arith
take-append (suc k) [] ys =
    let all : suc k ≡ suc k - 0 = omega arith in
    ap (λ (j : ℕ). take j ys) all
take-append (suc k) (x ∷ xs) ys =
    let less : k - length xs ≡ suc k - suc (length xs) = omega arith in
    ap (λ (l : List ℕ). x ∷ l) (take-append k xs ys ∙ ap (λ (j : ℕ). take k xs ++ take j ys) less)

drop-append : (k : ℕ) (xs ys : List ℕ) → drop k (xs ++ ys) ≡ drop k xs ++ drop (k - length xs) ys
drop-append zero [] ys = refl
drop-append zero (x ∷ xs) ys = ap (λ (j : ℕ). x ∷ xs ++ drop j ys) (less_all (length xs))
  where
    less_all : (n : ℕ) → 0 ≡ 0 - suc n
    less_all n = omega arith
drop-append (suc k) [] ys =
    let all : suc k ≡ suc k - 0 = omega arith in
    ap (λ (j : ℕ). drop j ys) all
drop-append (suc k) (x ∷ xs) ys =
    let less : k - length xs ≡ suc k - suc (length xs) = omega arith in
    drop-append k xs ys ∙ ap (λ (j : ℕ). drop k xs ++ drop j ys) less

-- what stands behind both of two lists that are as long and agree from some place on
drop-swap : (n : ℕ) (xs ys zs : List ℕ) → length xs ≡ length ys → drop n xs ≡ drop n ys → drop n (xs ++ zs) ≡ drop n (ys ++ zs)
drop-swap n xs ys zs long same =
    drop-append n xs zs
    ∙ ap (λ (l : List ℕ). l ++ drop (n - length xs) zs) same
    ∙ ap (λ (k : ℕ). drop n ys ++ drop (n - k) zs) long
    ∙ sym (drop-append n ys zs)

-- the back of a buffer after a part of it was written over that kept its own back
pub drop-put : (at k n : ℕ) (xs ys : List ℕ) → at ≤ length xs → length ys ≡ length (take k (drop at xs)) → drop n ys ≡ drop n (take k (drop at xs))
    → drop (at + n) (put_mid at k xs ys) ≡ drop (at + n) xs
drop-put at k n xs ys within long same =
    sym (drop-drop n at (put_mid at k xs ys))
    ∙ ap (drop n) (drop_at (take at xs) (ys ++ post_of at k xs) at (length-take-le at xs within))
    ∙ drop-swap n ys (take k (drop at xs)) (post_of at k xs) long same
    ∙ ap (drop n) (take-append-drop k (drop at xs))
    ∙ drop-drop n at xs

-- what a read into a place of a buffer leaves behind
pub read_rest : (read : Result ℕ Failed) (at k : ℕ) (xs ys : List ℕ) → at ≤ length xs → length ys ≡ length (take k (drop at xs))
    → IfOk read (λ got. drop got ys ≡ drop got (take k (drop at xs))) → IfOk read (λ got. drop (at + got) (put_mid at k xs ys) ≡ drop (at + got) xs)
read_rest (Ok got) at k xs ys within long rest = drop-put at k got xs ys within long rest
read_rest (Err e) at k xs ys within long rest = tt

-- a buffer whose back is kept by one more read
pub kept_behind : (done got : ℕ) (new old before : List ℕ) → drop (done + got) new ≡ drop (done + got) old → drop done old ≡ drop done before
    → drop (done + got) new ≡ drop (done + got) before
kept_behind done got new old before same kept =
    same ∙ sym (drop-drop got done old) ∙ ap (drop got) kept ∙ drop-drop got done before

-- the places of the runs that are left begin with those of the next run
pub run_places : (runs : List Run) (index place count : ℕ) (default : Run) → index < length runs
    → place ≡ place_of (get_or runs index default).first → count ≡ (get_or runs index default).count
    → places (blocks_of_runs (drop index runs)) ≡ ascending place (4096 * count) ++ places (blocks_of_runs (drop (index + 1) runs))
run_places runs index place count default below at many =
    let run : Run = get_or runs index default in
    let next : suc index ≡ index + 1 = omega arith in
    let left : drop index runs ≡ run ∷ drop (index + 1) runs = drop-cons runs index default below ∙ ap (λ (k : ℕ). run ∷ drop k runs) next in
    ap (λ (rs : List Run). places (blocks_of_runs rs)) left
    ∙ places-append (ascending run.first run.count) (blocks_of_runs (drop (index + 1) runs))
    ∙ ap (λ (l : List ℕ). l ++ places (blocks_of_runs (drop (index + 1) runs))) (places-ascending run.first run.count
    ∙ ap (λ (k : ℕ). ascending k (4096 * run.count)) (sym at) ∙ ap (λ (k : ℕ). ascending place (4096 * k)) (sym many))

module _ (first len skip : ℕ) (behind : List ℕ) where
  -- past a run
  pub drop_past_run : len ≤ skip → drop skip (ascending first len ++ behind) ≡ drop (skip - len) behind
  drop_past_run le =
      let long = length-ascending first len in
      drop-append skip (ascending first len) behind
      ∙ ap (λ (l : List ℕ). l ++ drop (skip - length (ascending first len)) behind) (drop_all skip (ascending first len) (omega (arith, le, long)))
      ∙ ap (λ (k : ℕ). drop (skip - k) behind) long

  -- within a run
  pub drop_within_run : skip ≤ len → drop skip (ascending first len ++ behind) ≡ ascending (first + skip) (len - skip) ++ behind
  drop_within_run le =
      let none : skip - length (ascending first len) ≡ 0 = omega (arith, le, length-ascending first len) in
      drop-append skip (ascending first len) behind
      ∙ ap (λ (l : List ℕ). l ++ drop (skip - length (ascending first len)) behind) (drop-ascending skip first len)
      ∙ ap (λ (k : ℕ). ascending (first + skip) (len - skip) ++ drop k behind) none

-- where a cursor stands that moves on
module _ (runs : List Run) (cursor : Cursor) (here : StandsIn runs cursor) where
  -- by bytes of its run
  pub moves_within : (n : ℕ) → StandsIn runs (record { run = cursor.run; skip = cursor.skip + n; offset = cursor.offset + n })
  moves_within n = record {
    left = sym (drop-drop n cursor.skip (places (blocks_of_runs (drop cursor.run runs)))) ∙ ap (drop n) here.left ∙ drop-drop n cursor.offset (places (blocks_of_runs runs));
  }

  module _ (first len : ℕ) (next : places (blocks_of_runs (drop cursor.run runs)) ≡ ascending first len ++ places (blocks_of_runs (drop (cursor.run + 1) runs))) where
    -- past its run
    pub passes_run : len ≤ cursor.skip → StandsIn runs (record { run = cursor.run + 1; skip = cursor.skip - len; offset = cursor.offset })
    passes_run le = record {
      left = sym (ap (drop cursor.skip) next ∙ drop_past_run first len cursor.skip (places (blocks_of_runs (drop (cursor.run + 1) runs))) le) ∙ here.left;
    }

    -- by the bytes up to its run's end
    pub ends_run : (n : ℕ) → cursor.skip + n ≡ len → StandsIn runs (record { run = cursor.run + 1; skip = 0; offset = cursor.offset + n })
    ends_run n all =
        let none : len - len ≡ 0 = omega arith in
        let behind : List ℕ = places (blocks_of_runs (drop (cursor.run + 1) runs)) in
        record {
          left = sym (ap (drop (cursor.skip + n)) next ∙ ap (λ (k : ℕ). drop k (ascending first len ++ behind)) all
              ∙ drop_past_run first len len behind (omega arith) ∙ ap (λ (k : ℕ). drop k behind) none)
              ∙ (moves_within n).left;
        }

module _ (file : List ℕ) (first m n room : ℕ) (behind : List ℕ) (least : n ≡ min m room) where
  run_taken : take room (ascending first m ++ behind) ≡ ascending first n ++ take (room - n) behind
  run_taken = ⊎_elim
      (λ (few : room < m). let all : n ≡ room = omega (arith, least, few) in
      let less : room - length (ascending first m) ≡ room - n = omega (arith, length-ascending first m, all, few) in
      take-append room (ascending first m) behind
      ∙ ap (λ (l : List ℕ). l ++ take (room - length (ascending first m)) behind) (take-ascending room first m (omega (arith, few)) ∙ ap (ascending first) (sym all))
      ∙ ap (λ (k : ℕ). ascending first n ++ take k behind) less)
      (λ (many : m ≤ room). let all : n ≡ m = omega (arith, least, many) in
      let less : room - length (ascending first m) ≡ room - n = omega (arith, length-ascending first m, all) in
      take-append room (ascending first m) behind
      ∙ ap (λ (l : List ℕ). l ++ take (room - length (ascending first m)) behind) (take_all room (ascending first m) (omega (arith, many, length-ascending first m)) ∙ ap (ascending first) (sym all))
      ∙ ap (λ (k : ℕ). ascending first n ++ take k behind) less)
      (cases_lt room m)

  -- a part of a run that is there, and what follows
  pub run_whole : length (extent first n file) ≡ n → bytes_at file (take room (ascending first m ++ behind)) ≡ extent first n file ++ bytes_at file (take (room - n) behind)
  run_whole whole =
      let read = bytes_at-ascending file first n in
      ap (bytes_at file) run_taken
      ∙ bytes_at-append file (ascending first n) (take (room - n) behind) (ap length read ∙ whole ∙ sym (length-ascending first n))
      ∙ ap (λ (l : List ℕ). l ++ bytes_at file (take (room - n) behind)) read

  -- a part of a run within which the volume ends
  pub run_cut : length (extent first n file) < n → bytes_at file (take room (ascending first m ++ behind)) ≡ extent first n file
  run_cut short =
      let read = bytes_at-ascending file first n in
      ap (bytes_at file) run_taken
      ∙ bytes_at-cut file (ascending first n) (take (room - n) behind) (omega (arith, short, ap length read, length-ascending first n))
      ∙ read

-- what was found is as much as was answered
pub count_found : (n : ℕ) (into part : List ℕ) → n ≤ length into → take n into ≡ part → n ≡ length part
count_found n into part within found = sym (length-take-le n into within) ∙ ap length found

-- the bytes of runs that are left, some of them skipped, where the next run is skipped whole
pub skips_run : (file : List ℕ) (room place len skip : ℕ) (left behind : List ℕ) → left ≡ ascending place len ++ behind → len ≤ skip
    → bytes_at file (take room (drop skip left)) ≡ bytes_at file (take room (drop (skip - len) behind))
skips_run file room place len skip left behind is le =
    ap (λ (l : List ℕ). bytes_at file (take room l)) (ap (drop skip) is ∙ drop_past_run place len skip behind le)

-- or is read up to its end, or up to the last byte wanted
pub reads_run : (file : List ℕ) (room place len skip n : ℕ) (left behind : List ℕ) → left ≡ ascending place len ++ behind → skip ≤ len → n ≡ min (len - skip) room
    → length (extent (place + skip) n file) ≡ n → bytes_at file (take room (drop skip left)) ≡ extent (place + skip) n file ++ bytes_at file (take (room - n) behind)
reads_run file room place len skip n left behind is le least whole =
    ap (λ (l : List ℕ). bytes_at file (take room l)) (ap (drop skip) is ∙ drop_within_run place len skip behind le)
    ∙ run_whole file (place + skip) (len - skip) n room behind least whole

-- or is cut short by the end of the volume
pub cuts_run : (file : List ℕ) (room place len skip n : ℕ) (left behind : List ℕ) → left ≡ ascending place len ++ behind → skip ≤ len → n ≡ min (len - skip) room
    → length (extent (place + skip) n file) < n → bytes_at file (take room (drop skip left)) ≡ extent (place + skip) n file
cuts_run file room place len skip n left behind is le least short =
    ap (λ (l : List ℕ). bytes_at file (take room l)) (ap (drop skip) is ∙ drop_within_run place len skip behind le)
    ∙ run_cut file (place + skip) (len - skip) n room behind least short

pub nothing_more : (file : List ℕ) (n : ℕ) (ps : List ℕ) → n ≡ 0 → bytes_at file (take n ps) ≡ []
nothing_more file n ps none = ap (λ (k : ℕ). bytes_at file (take k ps)) none ∙ bytes_at-nil file

-- nothing is read behind a run that is cut short, or that has the last byte wanted
pub ends_in_run : (file : List ℕ) (room place len skip n : ℕ) (left behind : List ℕ) → left ≡ ascending place len ++ behind → skip ≤ len → n ≡ min (len - skip) room
    → (length (extent (place + skip) n file) < n) ⊎ ((length (extent (place + skip) n file) ≡ n) × (room ≡ n))
    → bytes_at file (take room (drop skip left)) ≡ extent (place + skip) n file
ends_in_run file room place len skip n left behind is le least cases = ⊎_elim
    (λ short. cuts_run file room place len skip n left behind is le least short)
    (λ last. let none : room - n ≡ 0 = omega (arith, last.1) in
    reads_run file room place len skip n left behind is le least last.0
    ∙ ap (λ (l : List ℕ). extent (place + skip) n file ++ l) (nothing_more file (room - n) behind none) ∙ append-nil (extent (place + skip) n file)) cases

pub nothing_left : (file : List ℕ) (n skip index : ℕ) (runs : List Run) → length runs ≤ index → bytes_at file (take n (drop skip (places (blocks_of_runs (drop index runs))))) ≡ []
nothing_left file n skip index runs past =
    ap (λ (rs : List Run). bytes_at file (take n (drop skip (places (blocks_of_runs rs))))) (drop_all index runs past)
    ∙ ap (λ (l : List ℕ). bytes_at file (take n (drop skip l))) places-nil
    ∙ ap (λ (l : List ℕ). bytes_at file l) (ap (take n) (drop-nothing skip) ∙ take-nothing n) ∙ bytes_at-nil file
  where
    drop-nothing : (n : ℕ) → drop {A = ℕ} n [] ≡ []
    drop-nothing zero = refl
    drop-nothing (suc n) = refl

    take-nothing : (n : ℕ) → take {A = ℕ} n [] ≡ []
    take-nothing zero = refl
    take-nothing (suc n) = refl
