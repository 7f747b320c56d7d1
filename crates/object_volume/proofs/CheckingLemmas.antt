-- Hashes of ranges, and of the runs of an object.
use Rattle.std.proofs.Common.{◌≡◌, ℕ, ◌+◌, ◌-◌, ◌<◌, ◌≤◌, min, Bool, IsTrue, List, [], ◌++◌, length, take, drop, arith, ap, sym, ◌∙◌, subst, append_assoc, length-append, length-take, length-drop}
use Rattle.std.proofs.lemmas.List.{drop-drop, append-nil}
use Rattle.std.proofs.Math.Seq.{take-add}
use Rattle.site_disk.specs.Bytes.{extent}
use Rattle.site_disk.specs.Images.{Unchanged}
use Rattle.site_disk.specs.Ledger.{Ledger, EraView, Uses}
use Rattle.sha2.specs.declared.Sha256.{Sha256}
use Rattle.sha2.specs.Hashers.{Holds256}
use Rattle.block_chain.specs.Blocks.{ascending, blocks_of_runs}
use Rattle.block_chain.specs.declared.runs.Run.{Run}
use Rattle.object_volume.specs.Objects.{places, bytes_at, object}
use Rattle.object_volume.proofs.ReadingLemmas.{reads_run, cuts_run}

-- so many bytes of a range were hashed, and the volume has them
pub record Hashing {D : Type 0} (tells : Bool) (bytes : D → List ℕ) (image : D → ℕ → List ℕ → Type 0) (ledger : D → Ledger) (era : EraView)
    (place len done : ℕ) (before now : Sha256) (old new : D) : Type 0 where
  pub within : done ≤ len
  pub there : IsTrue tells → length (extent place done (bytes old)) ≡ done
  pub hashed : IsTrue tells → (message : List ℕ) → Holds256 before message → Holds256 now (message ++ extent place done (bytes old))
  pub content : bytes new ≡ bytes old
  pub images : Unchanged (image old) (image new)
  pub uses : Uses era done 0 (ledger old) (ledger new)

-- a range and the one behind it
pub extent-more : (at m n : ℕ) (file : List ℕ) → extent at (m + n) file ≡ extent at m file ++ extent (at + m) n file
extent-more at m n file = take-add m n (drop at file) ∙ ap (λ (l : List ℕ). extent at m file ++ take n l) (drop-drop m at file)

pub length-extent-is : (at n : ℕ) (file : List ℕ) → length (extent at n file) ≡ min n (length file - at)
length-extent-is at n file = omega (arith, length-take n (drop at file), length-drop at file)

-- the bytes of an object but for the last ones, which the runs that are left have, were hashed
pub record HashedFront (file : List ℕ) (runs : List Run) (size index left : ℕ) (hasher : Sha256) : Type 0 where
  pub front : List ℕ
  pub holds : Holds256 hasher front
  pub long : length front + left ≡ size
  pub stands : object runs size file ≡ front ++ bytes_at file (take left (places (blocks_of_runs (drop index runs))))

-- so many bytes of an object are still to be hashed, those of the runs that are left
pub record Judging {D : Type 0} (tells : Bool) (bytes : D → List ℕ) (image : D → ℕ → List ℕ → Type 0) (ledger : D → Ledger) (era : EraView)
    (runs : List Run) (size index left : ℕ) (hasher : Sha256) (old new : D) : Type 0 where
  pub within : left ≤ size
  pub hashed : IsTrue tells → HashedFront (bytes old) runs size index left hasher
  pub content : bytes new ≡ bytes old
  pub images : Unchanged (image old) (image new)
  pub uses : Uses era (size - left) 0 (ledger old) (ledger new)

module _ (file : List ℕ) (runs : List Run) (size index left place len n : ℕ) (behind : List ℕ) (hasher : Sha256) (done : HashedFront file runs size index left hasher)
    (next : places (blocks_of_runs (drop index runs)) ≡ ascending place len ++ behind) (least : n ≡ min left len) where
  part_least : n ≡ min (len - 0) left
  part_least = omega (arith, least)

  -- one run more
  pub front_more : (after : Sha256) → behind ≡ places (blocks_of_runs (drop (index + 1) runs)) → length (extent place n file) ≡ n
      → Holds256 after (done.front ++ extent place n file) → HashedFront file runs size (index + 1) (left - n) after
  front_more after is whole holds = record {
    front = done.front ++ extent place n file;
    holds = holds;
    long = omega (arith, length-append done.front (extent place n file), whole, done.long, least);
    stands = done.stands
        ∙ ap (λ (l : List ℕ). done.front ++ l) (reads_run file left place len 0 n (places (blocks_of_runs (drop index runs))) behind next (omega arith) part_least
        (ap (λ (k : ℕ). length (extent k n file)) at_place ∙ whole) ∙ ap (λ (k : ℕ). extent k n file ++ bytes_at file (take (left - n) behind)) at_place)
        ∙ sym (append_assoc done.front (extent place n file) (bytes_at file (take (left - n) behind)))
        ∙ ap (λ (l : List ℕ). done.front ++ extent place n file ++ bytes_at file (take (left - n) l)) is;
  }
    where
      at_place : place + 0 ≡ place
      at_place = omega arith

  -- the volume ends within the next run
  pub front_short : (length (extent place n file) ≡ n → ⊥) → length (object runs size file) < size
  front_short short =
      let at_place : place + 0 ≡ place = omega arith in
      let less : length (extent place n file) < n = omega (arith, short, length-extent-is place n file) in
      let cut = done.stands ∙ ap (λ (l : List ℕ). done.front ++ l)
      (cuts_run file left place len 0 n (places (blocks_of_runs (drop index runs))) behind next (omega arith) part_least
      (subst (λ (k : ℕ). length (extent k n file) < n) (sym at_place) less) ∙ ap (λ (k : ℕ). extent k n file) at_place) in
      omega (arith, ap length cut, length-append done.front (extent place n file), less, done.long, least)

-- all that there is was hashed
pub front_all : (file : List ℕ) (runs : List Run) (size index left : ℕ) (hasher : Sha256) (done : HashedFront file runs size index left hasher)
    → bytes_at file (take left (places (blocks_of_runs (drop index runs)))) ≡ [] → object runs size file ≡ done.front
front_all file runs size index left hasher done none = done.stands ∙ ap (λ (l : List ℕ). done.front ++ l) none ∙ append-nil done.front
