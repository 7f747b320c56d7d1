-- No two records are spelled alike.
use Rattle.std.proofs.Common.{◌≡◌, ℕ, min, List, length, take, drop, get_or, refl, sym, ap, ◌∙◌, arith}
use Rattle.std.specs.Int.{to_be_bytes, w16, w32, w64}
use Rattle.byte_fields.proofs.FieldLemmas.{same_number, one_number}
use Rattle.bsa_descriptor.proofs.SpellingLemmas.{spelling_once, length-spelling as length-descriptor_bytes}
use Rattle.catalogue_slots.specs.Records.{Object, Record, add, more, del, base, IsRecord}
use Rattle.catalogue_slots.specs.Layout.{Front, FrontFits, front_of, front_bytes, own_bytes, spelling}
use Rattle.catalogue_slots.specs.Parts.{Holds, HoldsRuns}
use Rattle.catalogue_slots.specs.SlotLaws.{length-own_bytes}
use Rattle.catalogue_slots.proofs.RunLemmas.{BeginsWithRuns-once}
use Rattle.catalogue_slots.proofs.KindLemmas.{same_fronts, one_del, one_base, HasMore, one_more, runs_of_place}
use Rattle.catalogue_slots.proofs.AddLemmas.{HasAdd, HasParts, parts_of, one_add, same_objects}
use Rattle.catalogue_slots.proofs.SlotLemmas.{take-spelling, drop-spelling, fronts_fit}

module _ (front : Front) where
  kind-front_bytes : get_or (front_bytes front) 0 0 ≡ front.kind
  unfolding front_bytes
  kind-front_bytes = refl

  word-front_bytes : take 2 (drop 2 (front_bytes front)) ≡ to_be_bytes w16 front.word
  unfolding front_bytes
  word-front_bytes = refl

  double-front_bytes : take 4 (drop 4 (front_bytes front)) ≡ to_be_bytes w32 front.double
  unfolding front_bytes
  double-front_bytes = refl

  copy-front_bytes : take 8 (drop 8 (front_bytes front)) ≡ to_be_bytes w64 front.copy
  unfolding front_bytes
  copy-front_bytes = refl

front_once : (a b : Front) → FrontFits a → FrontFits b → front_bytes a ≡ front_bytes b → a ≡ b
front_once a b is_a is_b e =
    same_fronts a b
    (sym (kind-front_bytes a) ∙ ap (λ (l : List ℕ). get_or l 0 0) e ∙ kind-front_bytes b)
    (same_number w16 a.word b.word (omega arith) is_a.word is_b.word (sym (word-front_bytes a) ∙ ap (λ (l : List ℕ). take 2 (drop 2 l)) e ∙ word-front_bytes b))
    (same_number w32 a.double b.double (omega arith) is_a.double is_b.double (sym (double-front_bytes a) ∙ ap (λ (l : List ℕ). take 4 (drop 4 l)) e ∙ double-front_bytes b))
    (same_number w64 a.copy b.copy (omega arith) is_a.copy is_b.copy (sym (copy-front_bytes a) ∙ ap (λ (l : List ℕ). take 8 (drop 8 l)) e ∙ copy-front_bytes b))

-- two objects with the same bytes are one
object_once : (own : List ℕ) (copy here : ℕ) (a b : Object) → a.copy ≡ b.copy → a.volume ≡ b.volume → HasParts own copy here a → HasParts own copy here b → a ≡ b
object_once own copy here a b copies volumes first second =
    let long : length (take 2624 (drop 40 own)) ≡ 2624 = ap length first.descriptor.stands ∙ length-descriptor_bytes a.descriptor first.descriptor.is_descriptor in
    same_objects a b copies volumes (one_number w64 0 own a.size b.size (omega arith) first.size second.size) (sym first.digest ∙ second.digest)
    (BeginsWithRuns-once (drop 2664 own) here a.runs b.runs first.runs.begins second.runs.begins)
    (spelling_once (take 2624 (drop 40 own)) b.descriptor a.descriptor long second.descriptor.is_descriptor first.descriptor.is_descriptor second.descriptor.stands first.descriptor.stands)

same_record : (own : List ℕ) (a b : Record) → IsRecord a → own ≡ own_bytes a → Holds (front_of a) own b → a ≡ b
same_record own (del copy) b is stands holds = (one_del (front_of (del copy)) own b refl holds).1
same_record own (base last) b is stands holds = (one_base (front_of (base last)) own b refl holds).1
same_record own (more copy runs) b is stands holds =
    let has : HasMore (front_of (more copy runs)) own b = one_more (front_of (more copy runs)) own b refl holds in
    let mine : HoldsRuns own (length runs) runs = runs_of_place 510 own runs is.runs stands in
    ap (more copy) (BeginsWithRuns-once own (length runs) runs has.found mine.begins has.runs.begins) ∙ has.is
same_record own (add count object) b is stands holds =
    let fills : length own ≡ 4080 = ap length stands ∙ length-own_bytes (add count object) is in
    let has : HasAdd (front_of (add count object)) own b = one_add (front_of (add count object)) own b fills refl holds in
    let mine : HasParts own object.copy (min count 177) object = parts_of own count object fills is stands in
    ap (add count) (object_once own object.copy (min count 177) object has.object (sym has.copies) (sym has.volumes) mine has.parts) ∙ has.is

pub record_once : (a b : Record) → IsRecord a → IsRecord b → spelling a ≡ spelling b → a ≡ b
record_once a b is_a is_b e =
    let fronts : front_of a ≡ front_of b = front_once (front_of a) (front_of b) (fronts_fit a is_a) (fronts_fit b is_b)
    (sym (take-spelling (spelling a) a refl) ∙ take-spelling (spelling a) b e) in
    same_record (drop 16 (spelling a)) a b is_a (drop-spelling (spelling a) a refl)
    (record { is_record = is_b; same_front = sym fronts; stands = drop-spelling (spelling a) b e })
