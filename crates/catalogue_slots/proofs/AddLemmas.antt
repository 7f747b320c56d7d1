-- An Add by its parts.
use Rattle.std.proofs.Common.{◌≡◌, ℕ, ◌^◌, ◌<◌, ◌≤◌, min, List, ◌++◌, length, take, drop, refl, sym, ap, ◌∙◌, subst, arith}
use Rattle.std.specs.Int.{w64, to_be_bytes}
use Rattle.std.proofs.lemmas.List.{take_all, length-drop, length-take-le}
use Rattle.std.proofs.Math.Seq.{take-add}
use Rattle.block_chain.specs.declared.runs.Run.{Run}
use Rattle.bsa_descriptor.specs.Descriptor.{spelling as descriptor_bytes}
use Rattle.byte_fields.specs.Fields.{field, HasNumber}
use Rattle.byte_fields.proofs.FieldLemmas.{last_field}
use Rattle.bsa_descriptor.specs.declared.descriptor.Descriptor.{Descriptor}
use Rattle.bsa_descriptor.proofs.SpellingLemmas.{length-spelling}
use Rattle.catalogue_slots.specs.Records.{Object, Record, add, more, del, base, IsCopy, IsAdd}
use Rattle.catalogue_slots.specs.Layout.{Front, runs_in_place, add_bytes}
use Rattle.catalogue_slots.specs.Parts.{Holds, HoldsDescriptor, HoldsRuns}
use Rattle.catalogue_slots.specs.RunLaws.{length-runs_in_place}
use Rattle.catalogue_slots.proofs.KindLemmas.{place_of_runs, runs_of_place, same_fronts}

-- the parts of an Add, behind its front
pub record HasParts (own : List ℕ) (copy here : ℕ) (object : Object) : Type 0 where
  pub size : HasNumber w64 0 own object.size
  pub digest : field 8 32 own ≡ object.digest
  pub descriptor : HoldsDescriptor copy (field 40 2624 own) object.descriptor
  pub runs : HoldsRuns (drop 2664 own) here object.runs

length-digest : (own : List ℕ) → length own ≡ 4080 → length (field 8 32 own) ≡ 32
length-digest own fills = length-take-le 32 (drop 8 own) (omega (arith, length-drop 8 own, fills))

pub add_bytes-parts : (own : List ℕ) (copy here : ℕ) (object : Object) → length own ≡ 4080 → HasParts own copy here object → own ≡ add_bytes object
unfolding add_bytes
add_bytes-parts own copy here object fills parts =
    let whole : take 4080 own ≡ own = take_all 4080 own (omega arith) in
    let rest : field 2664 1416 own ≡ runs_in_place 177 object.runs =
    take_all 1416 (drop 2664 own) (omega (arith, length-drop 2664 own, fills))
    ∙ place_of_runs 177 here (drop 2664 own) object.runs (omega (arith, length-drop 2664 own, fills)) parts.runs in
    rw (
      ← whole,
      take-add 2664 1416 own,
      rest,
      take-add 40 2624 own,
      parts.descriptor.stands,
      take-add 8 32 own,
      parts.digest,
      parts.size.stands,
    ) refl

pub found_add : (front : Front) (own : List ℕ) (object : Object) → length own ≡ 4080 → front.kind ≡ 1 → front.double < 2 ^ 32 → front.word ≤ 16 → IsCopy front.copy
    → object.copy ≡ front.copy → object.volume ≡ front.word → HasParts own front.copy (min front.double 177) object → Holds front own (add front.double object)
found_add front own object fills kind fits volume copy copies volumes parts = record {
  is_record = record {
    copy = subst IsCopy (sym copies) copy;
    volume = omega (arith, volumes);
    size = parts.size.fits;
    digest = ap length (sym parts.digest) ∙ length-digest own fills;
    count_fits = fits;
    here = parts.runs.begins.so_many;
    runs = parts.runs.begins.are_runs;
    descriptor = parts.descriptor.is_descriptor;
    same_copy = parts.descriptor.same_copy ∙ sym copies;
    no_status = parts.descriptor.no_status;
  };
  same_front = same_fronts (record { kind = 1; word = object.volume; double = front.double; copy = object.copy }) front (sym kind) volumes refl copies;
  stands = add_bytes-parts own front.copy (min front.double 177) object fills parts;
}

-- a slot of kind 1 holds an Add
pub record HasAdd (front : Front) (own : List ℕ) (entry : Record) : Type 0 where
  pub object : Object
  pub is : add front.double object ≡ entry
  pub copies : object.copy ≡ front.copy
  pub volumes : object.volume ≡ front.word
  pub volume : front.word ≤ 16
  pub copy : IsCopy front.copy
  pub parts : HasParts own front.copy (min front.double 177) object

pub parts_of : (own : List ℕ) (count : ℕ) (object : Object) → length own ≡ 4080 → IsAdd count object → own ≡ add_bytes object → HasParts own object.copy (min count 177) object
unfolding add_bytes
parts_of own count object fills is e =
    let few : length object.runs ≤ 177 = omega (arith, is.here) in
    let front : List ℕ = to_be_bytes w64 object.size ++ object.digest in
    let runs = last_field 2664 1416 own (front ++ descriptor_bytes object.descriptor) (runs_in_place 177 object.runs) (omega arith)
    (length-runs_in_place 177 object.runs few) (take_all 4080 own (omega arith) ∙ e) in
    let descriptor = last_field 40 2624 own front (descriptor_bytes object.descriptor) (omega arith) (length-spelling object.descriptor is.descriptor) runs.0 in
    let digest = last_field 8 32 own (to_be_bytes w64 object.size) object.digest (omega arith) is.digest descriptor.0 in
    let rest : drop 2664 own ≡ runs_in_place 177 object.runs =
    sym (take_all 1416 (drop 2664 own) (omega (arith, length-drop 2664 own, fills))) ∙ runs.1 in record {
      size = record { fits = is.size; stands = digest.0 };
      digest = digest.1;
      descriptor = record { is_descriptor = is.descriptor; stands = descriptor.1; same_copy = is.same_copy; no_status = is.no_status };
      runs = subst (λ (n : ℕ). HoldsRuns (drop 2664 own) n object.runs) is.here (runs_of_place 177 (drop 2664 own) object.runs is.runs rest);
    }

pub one_add : (front : Front) (own : List ℕ) (entry : Record) → length own ≡ 4080 → front.kind ≡ 1 → Holds front own entry → HasAdd front own entry
one_add front own (add count object) fills kind holds =
    let same = holds.same_front in
    let is : IsAdd count object = holds.is_record in
    let copies : object.copy ≡ front.copy = ap (λ (f : Front). f.copy) same in
    let volumes : object.volume ≡ front.word = ap (λ (f : Front). f.word) same in
    let counts : count ≡ front.double = ap (λ (f : Front). f.double) same in
    let parts : HasParts own object.copy (min count 177) object = parts_of own count object fills is holds.stands in record {
      object = object;
      is = ap (λ (n : ℕ). add n object) (sym counts);
      copies = copies;
      volumes = volumes;
      volume = omega (arith, is.volume, volumes);
      copy = subst IsCopy copies is.copy;
      parts = subst (λ (n : ℕ). HasParts own n (min front.double 177) object) copies (subst (λ (n : ℕ). HasParts own object.copy (min n 177) object) counts parts);
    }
one_add front own (more copy runs) fills kind holds = absurd (omega (arith, ap (λ (f : Front). f.kind) holds.same_front, kind))
one_add front own (del copy) fills kind holds = absurd (omega (arith, ap (λ (f : Front). f.kind) holds.same_front, kind))
one_add front own (base last) fills kind holds = absurd (omega (arith, ap (λ (f : Front). f.kind) holds.same_front, kind))

abbrev object_with : ℕ → ℕ → ℕ → List ℕ → List Run → Descriptor → Object
object_with copy volume size digest runs descriptor = record { copy = copy; volume = volume; size = size; digest = digest; runs = runs; descriptor = descriptor }

pub same_objects : (a b : Object) → a.copy ≡ b.copy → a.volume ≡ b.volume → a.size ≡ b.size → a.digest ≡ b.digest → a.runs ≡ b.runs → a.descriptor ≡ b.descriptor → a ≡ b
same_objects a b copies volumes sizes digests runs descriptors =
    ap (λ (n : ℕ). object_with n a.volume a.size a.digest a.runs a.descriptor) copies
    ∙ ap (λ (n : ℕ). object_with b.copy n a.size a.digest a.runs a.descriptor) volumes
    ∙ ap (λ (n : ℕ). object_with b.copy b.volume n a.digest a.runs a.descriptor) sizes
    ∙ ap (λ (l : List ℕ). object_with b.copy b.volume b.size l a.runs a.descriptor) digests
    ∙ ap (λ (l : List Run). object_with b.copy b.volume b.size b.digest l a.descriptor) runs
    ∙ ap (λ (d : Descriptor). object_with b.copy b.volume b.size b.digest b.runs d) descriptors
