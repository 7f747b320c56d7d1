-- A slot by its front and the bytes behind it.
use Rattle.std.proofs.Common.{◌≡◌, ℕ, ◌+◌, ◌-◌, ◌*◌, min, List, [], ◌∷◌, ◌++◌, length, take, drop, refl, sym, ap, ◌∙◌, zero, suc, arith, append_assoc}
use Rattle.std.specs.Prelude.{Option, Some, None, Result, Ok, Err, IfSome, IfOk}
use Rattle.std.proofs.lemmas.List.{take-append-drop, take_at, drop_at, drop-drop, take_min, length-drop}
use Rattle.block_chain.specs.declared.runs.Run.{Run}
use Rattle.catalogue_slots.specs.Records.{Record, add, more, del, base, IsRecord, mores}
use Rattle.catalogue_slots.specs.Layout.{Front, FrontFits, front_of, front_bytes, own_bytes, spelling}
use Rattle.catalogue_slots.specs.Parts.{Holds}
use Rattle.catalogue_slots.specs.SlotLaws.{length-front_bytes}

-- what a slot holds is spelled there
pub spelled : (front : Front) (slot own : List ℕ) (entry : Record) → own ≡ drop 16 slot → take 16 slot ≡ front_bytes front → Holds front own entry
    → IsRecord entry × (slot ≡ spelling entry)
unfolding spelling
spelled front slot own entry is stands holds = (
  holds.is_record,
  sym (take-append-drop 16 slot) ∙ ap (λ (l : List ℕ). l ++ drop 16 slot) (stands ∙ ap front_bytes (sym holds.same_front))
      ∙ ap (λ (l : List ℕ). front_bytes (front_of entry) ++ l) (sym is ∙ holds.stands),
)

pub take-spelling : (slot : List ℕ) (entry : Record) → slot ≡ spelling entry → take 16 slot ≡ front_bytes (front_of entry)
unfolding spelling
take-spelling slot entry e = ap (take 16) e ∙ take_at (front_bytes (front_of entry)) (own_bytes entry) 16 (length-front_bytes (front_of entry))

pub drop-spelling : (slot : List ℕ) (entry : Record) → slot ≡ spelling entry → drop 16 slot ≡ own_bytes entry
unfolding spelling
drop-spelling slot entry e = ap (drop 16) e ∙ drop_at (front_bytes (front_of entry)) (own_bytes entry) 16 (length-front_bytes (front_of entry))

-- what is spelled there the slot holds
pub holds_spelled : (front : Front) (slot own : List ℕ) (entry : Record) → own ≡ drop 16 slot → IsRecord entry → slot ≡ spelling entry → front ≡ front_of entry → Holds front own entry
holds_spelled front slot own entry is are e same = record { is_record = are; same_front = sym same; stands = is ∙ drop-spelling slot entry e }

pub fronts_fit : (entry : Record) → IsRecord entry → FrontFits (front_of entry)
fronts_fit (add count object) is = record { kind = omega arith; word = omega (arith, is.volume); double = is.count_fits; copy = omega (arith, is.copy) }
fronts_fit (more copy runs) is = record { kind = omega arith; word = omega (arith, is.few); double = omega arith; copy = omega (arith, is.copy_fits) }
fronts_fit (del copy) is = record { kind = omega arith; word = omega arith; double = omega arith; copy = omega (arith, is) }
fronts_fit (base last) is = record { kind = omega arith; word = omega arith; double = omega arith; copy = omega (arith, is) }

-- there are four kinds
pub other_kind : (kind : ℕ) (entry : Record) → kind ≡ (front_of entry).kind → (kind ≡ 1 → ⊥) → (kind ≡ 2 → ⊥) → (kind ≡ 3 → ⊥) → (kind ≡ 4 → ⊥) → ⊥
other_kind kind (add count object) is a b d f = a is
other_kind kind (more copy runs) is a b d f = b is
other_kind kind (del copy) is a b d f = d is
other_kind kind (base last) is a b d f = f is

-- what holds of the value, if there is one
pub if_some : {X : Type 0} {P Q : X → Type 0} (read : Option X) → ((x : X) → P x → Q x) → IfSome read P → IfSome read Q
if_some (Some x) means is = means x is
if_some None means is = is

pub if_ok_some : {X E : Type 0} {P Q : X → Type 0} (read : Result (Option X) E) → ((x : X) → P x → Q x) → IfOk read (λ r. IfSome r P) → IfOk read (λ r. IfSome r Q)
if_ok_some {P = P} {Q = Q} (Ok r) means is = if_some {P = P} {Q = Q} r means is
if_ok_some (Err e) means is = is

-- the parts of an Add, written one behind another
pub written_parts : (a : ℕ) (old w1 w2 w3 w4 new p size digest descriptor runs : List ℕ) → length size ≡ 8 → length digest ≡ 32
    → take (a + 16) w1 ≡ take a old ++ p → take (a + 16 + length size) w2 ≡ take (a + 16) w1 ++ size
    → take (a + 24 + length digest) w3 ≡ take (a + 24) w2 ++ digest → take (a + 56 + 2624) w4 ≡ take (a + 56) w3 ++ descriptor
    → take (a + 2680 + 8 * 177) new ≡ take (a + 2680) w4 ++ runs
    → take (a + 4096) new ≡ take a old ++ (p ++ (size ++ digest ++ descriptor ++ runs))
written_parts a old w1 w2 w3 w4 new p size digest descriptor runs size_len digest_len first second third fourth fifth =
    let at24 : a + 24 ≡ a + 16 + length size = omega arith in
    let at56 : a + 56 ≡ a + 24 + length digest = omega arith in
    let at2680 : a + 2680 ≡ a + 56 + 2624 = omega arith in
    let at4096 : a + 4096 ≡ a + 2680 + 8 * 177 = omega arith in
    let to_size : take (a + 24) w2 ≡ (take a old ++ p) ++ size = ap (λ (n : ℕ). take n w2) at24 ∙ second ∙ ap (λ (l : List ℕ). l ++ size) first in
    let to_digest : take (a + 56) w3 ≡ ((take a old ++ p) ++ size) ++ digest = ap (λ (n : ℕ). take n w3) at56 ∙ third ∙ ap (λ (l : List ℕ). l ++ digest) to_size in
    let to_descriptor : take (a + 2680) w4 ≡ (((take a old ++ p) ++ size) ++ digest) ++ descriptor =
    ap (λ (n : ℕ). take n w4) at2680 ∙ fourth ∙ ap (λ (l : List ℕ). l ++ descriptor) to_digest in
    let all : take (a + 4096) new ≡ ((((take a old ++ p) ++ size) ++ digest) ++ descriptor) ++ runs =
    ap (λ (n : ℕ). take n new) at4096 ∙ fifth ∙ ap (λ (l : List ℕ). l ++ runs) to_descriptor in
    all ∙ simp append_assoc

-- one More more
pub mores-more : (copy i : ℕ) (runs : List Run) → mores copy (i + 1) runs ≡ mores copy i runs ++ more copy (take 510 (drop (510 * i) runs)) ∷ []
mores-more copy zero runs = refl
mores-more copy (suc i) runs =
    let next : mores copy (i + 1) (drop 510 runs) ≡ mores copy i (drop 510 runs) ++ more copy (take 510 (drop (510 * i) (drop 510 runs))) ∷ [] = mores-more copy i (drop 510 runs) in
    let place : drop (510 * i) (drop 510 runs) ≡ drop (510 * suc i) runs = drop-drop (510 * i) 510 runs ∙ ap (λ (n : ℕ). drop n runs) (omega arith) in
    let one : suc i + 1 ≡ suc (i + 1) = omega arith in
    ap (λ (n : ℕ). mores copy n runs) one
    ∙ ap (λ (l : List Record). more copy (take 510 runs) ∷ l) (next ∙ ap (λ (l : List Run). mores copy i (drop 510 runs) ++ more copy (take 510 l) ∷ []) place)

-- the runs of a More
pub runs_here : (i end : ℕ) (runs : List Run) → end ≡ min (length runs) (510 * i + 510) → take (end - 510 * i) (drop (510 * i) runs) ≡ take 510 (drop (510 * i) runs)
runs_here i end runs is =
    let count : end - 510 * i ≡ min 510 (length (drop (510 * i) runs)) = omega (arith, length-drop (510 * i) runs) in
    ap (λ (n : ℕ). take n (drop (510 * i) runs)) count ∙ take_min 510 (drop (510 * i) runs)
