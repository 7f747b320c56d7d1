-- Laws of slots, for the layers above.
use Rattle.std.specs.Prelude.{◌≡◌, ℕ, ◌+◌, ◌-◌, ◌*◌, ◌^◌, ◌<◌, ◌≤◌, List, [], ◌∷◌, ◌++◌, length, take, drop, zero, suc, refl}
use Rattle.std.specs.List.{AllByRecursion, flat_map}
use Rattle.std.specs.Int.{to_be_bytes, w64}
use Rattle.std.proofs.Common.{ap, ◌∙◌, arith}
use Rattle.std.proofs.lemmas.List.{length-append, length-replicate, length-take, length-drop}
use Rattle.block_chain.specs.Blocks.{AreMaximal, FitsRun}
use Rattle.block_chain.specs.declared.runs.Run.{Run}
use Rattle.bsa_descriptor.specs.Descriptor.{spelling as descriptor_bytes}
use Rattle.bsa_descriptor.proofs.SpellingLemmas.{length-spelling as length-descriptor_bytes}
use Rattle.catalogue_slots.specs.Records.{Object, Record, add, more, del, base, AreRuns, IsAdd, IsRecord, IsObject, slots_for, mores, records_of}
use Rattle.catalogue_slots.specs.Layout.{Front, front_of, front_bytes, runs_in_place, add_bytes, no_bytes, own_bytes, spelling}
use Rattle.catalogue_slots.specs.RunLaws.{length-runs_in_place, fit-take, maximal-take}

pub length-front_bytes : (front : Front) → length (front_bytes front) ≡ 16
unfolding front_bytes
length-front_bytes front = refl

length-add_bytes : (count : ℕ) (object : Object) → IsAdd count object → length (add_bytes object) ≡ 4080
unfolding add_bytes
length-add_bytes count object is =
    omega (
      arith,
      is.digest,
      is.here,
      length-append (to_be_bytes w64 object.size ++ object.digest ++ descriptor_bytes object.descriptor) (runs_in_place 177 object.runs),
      length-append (to_be_bytes w64 object.size ++ object.digest) (descriptor_bytes object.descriptor),
      length-append (to_be_bytes w64 object.size) object.digest,
      length-descriptor_bytes object.descriptor is.descriptor,
      length-runs_in_place 177 object.runs (omega (arith, is.here)),
    )

length-no_bytes : length no_bytes ≡ 4080
unfolding no_bytes
length-no_bytes = length-replicate {A = ℕ} 4080 0

pub length-own_bytes : (entry : Record) → IsRecord entry → length (own_bytes entry) ≡ 4080
length-own_bytes (add count object) is = length-add_bytes count object is
length-own_bytes (more copy runs) is = length-runs_in_place 510 runs is.few
length-own_bytes (del copy) is = length-no_bytes
length-own_bytes (base last) is = length-no_bytes

-- each record fills a slot
pub length-spelling : (entry : Record) → IsRecord entry → length (spelling entry) ≡ 4096
unfolding spelling
length-spelling entry is = omega (arith, length-append (front_bytes (front_of entry)) (own_bytes entry), length-front_bytes (front_of entry), length-own_bytes entry is)

pub length-spellings : (entries : List Record) → AllByRecursion IsRecord entries → length (flat_map spelling entries) ≡ 4096 * length entries
length-spellings [] each = refl
length-spellings (entry ∷ entries) each =
    omega (arith, length-append (spelling entry) (flat_map spelling entries), length-spelling entry each.0, length-spellings entries each.1)

fit-drop : (n : ℕ) (runs : List Run) → AllByRecursion FitsRun runs → AllByRecursion FitsRun (drop n runs)
fit-drop zero runs fit = fit
fit-drop (suc n) [] fit = tt
fit-drop (suc n) (x ∷ xs) fit = fit-drop n xs fit.1

maximal-drop : (n : ℕ) (runs : List Run) → AreMaximal runs → AreMaximal (drop n runs)
maximal-drop zero runs are = are
maximal-drop (suc n) [] are = tt
maximal-drop (suc n) (x ∷ xs) are = maximal-drop n xs are.2

pub AreRuns-take : (n : ℕ) (runs : List Run) → AreRuns runs → AreRuns (take n runs)
AreRuns-take n runs are = record { fit = fit-take n runs are.fit; maximal = maximal-take n runs are.maximal }

pub AreRuns-drop : (n : ℕ) (runs : List Run) → AreRuns runs → AreRuns (drop n runs)
AreRuns-drop n runs are = record { fit = fit-drop n runs are.fit; maximal = maximal-drop n runs are.maximal }

mores_are_records : (copy n : ℕ) (runs : List Run) → copy ≤ 2 ^ 48 → AreRuns runs → 510 * n < length runs + 510 → AllByRecursion IsRecord (mores copy n runs)
mores_are_records copy zero runs fits are count = tt
mores_are_records copy (suc n) runs fits are count = (
  record {
    copy_fits = fits;
    some = omega (arith, length-take 510 runs);
    few = omega (arith, length-take 510 runs);
    runs = AreRuns-take 510 runs are;
  },
  mores_are_records copy n (drop 510 runs) fits (AreRuns-drop 510 runs are) (omega (arith, length-drop 510 runs)),
)

-- the records of an object that may be added are records, and as many as the slots that it takes
pub records_are_records : (object : Object) → IsObject object → AllByRecursion IsRecord (records_of object)
records_are_records object is = (
  record {
    copy = is.copy;
    volume = is.volume;
    size = is.size;
    digest = is.digest;
    count_fits = is.few;
    here = length-take 177 object.runs ∙ omega arith;
    runs = AreRuns-take 177 object.runs is.runs;
    descriptor = is.descriptor;
    same_copy = is.same_copy;
    no_status = is.no_status;
  },
  mores_are_records object.copy (slots_for (length object.runs) - 1) (drop 177 object.runs) is.copy (AreRuns-drop 177 object.runs is.runs)
      (omega (arith, length-drop 177 object.runs)),
)

length-mores : (copy n : ℕ) (runs : List Run) → length (mores copy n runs) ≡ n
length-mores copy zero runs = refl
length-mores copy (suc n) runs = ap suc (length-mores copy n (drop 510 runs))

pub length-records_of : (object : Object) → length (records_of object) ≡ slots_for (length object.runs)
length-records_of object =
    omega (arith, length-mores object.copy (slots_for (length object.runs) - 1) (drop 177 object.runs))
