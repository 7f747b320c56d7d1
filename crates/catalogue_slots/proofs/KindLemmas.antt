-- Which record a slot holds, by its kind.
use Rattle.std.proofs.Common.{◌≡◌, ℕ, ◌-◌, ◌*◌, ◌≤◌, List, ◌++◌, length, take, drop, replicate, All, refl, sym, ap, ◌∙◌, subst, arith}
use Rattle.std.specs.List.{flat_map}
use Rattle.std.proofs.lemmas.List.{take-append-drop, take_at, drop_at, length-drop}
use Rattle.block_chain.specs.declared.runs.Run.{Run}
use Rattle.byte_fields.proofs.FieldLemmas.{replicate-zeros, zeros-replicate}
use Rattle.catalogue_slots.specs.Records.{Record, add, more, del, base, IsCopy, IsMore, AreRuns}
use Rattle.catalogue_slots.specs.Layout.{Front, no_bytes, run_bytes, runs_in_place}
use Rattle.catalogue_slots.specs.Parts.{Holds, HasCopyAlone, HoldsRuns}
use Rattle.catalogue_slots.specs.RunLaws.{length-runs}

pub zeros_no_bytes : (bytes : List ℕ) → length bytes ≡ 4080 → All (λ byte. byte ≡ 0) bytes → bytes ≡ no_bytes
unfolding no_bytes
zeros_no_bytes = replicate-zeros 4080

pub no_bytes_zeros : (bytes : List ℕ) → bytes ≡ no_bytes → All (λ byte. byte ≡ 0) bytes
unfolding no_bytes
no_bytes_zeros = zeros-replicate 4080

pub one_del : (front : Front) (own : List ℕ) (entry : Record) → front.kind ≡ 3 → Holds front own entry → HasCopyAlone front own × (del front.copy ≡ entry)
one_del front own (del copy) kind holds =
    let same = holds.same_front in (
      record {
        word = sym (ap (λ (f : Front). f.word) same);
        double = sym (ap (λ (f : Front). f.double) same);
        copy = subst IsCopy (ap (λ (f : Front). f.copy) same) holds.is_record;
        zeros = holds.stands;
      },
      ap del (sym (ap (λ (f : Front). f.copy) same)),
    )
one_del front own (add count object) kind holds = absurd (omega (arith, ap (λ (f : Front). f.kind) holds.same_front, kind))
one_del front own (more copy runs) kind holds = absurd (omega (arith, ap (λ (f : Front). f.kind) holds.same_front, kind))
one_del front own (base last) kind holds = absurd (omega (arith, ap (λ (f : Front). f.kind) holds.same_front, kind))

pub one_base : (front : Front) (own : List ℕ) (entry : Record) → front.kind ≡ 4 → Holds front own entry → HasCopyAlone front own × (base front.copy ≡ entry)
one_base front own (base last) kind holds =
    let same = holds.same_front in (
      record {
        word = sym (ap (λ (f : Front). f.word) same);
        double = sym (ap (λ (f : Front). f.double) same);
        copy = subst IsCopy (ap (λ (f : Front). f.copy) same) holds.is_record;
        zeros = holds.stands;
      },
      ap base (sym (ap (λ (f : Front). f.copy) same)),
    )
one_base front own (add count object) kind holds = absurd (omega (arith, ap (λ (f : Front). f.kind) holds.same_front, kind))
one_base front own (more copy runs) kind holds = absurd (omega (arith, ap (λ (f : Front). f.kind) holds.same_front, kind))
one_base front own (del copy) kind holds = absurd (omega (arith, ap (λ (f : Front). f.kind) holds.same_front, kind))

-- runs in a place with room for so many
pub place_of_runs : (room count : ℕ) (place : List ℕ) (runs : List Run) → length place ≡ 8 * room → HoldsRuns place count runs → place ≡ runs_in_place room runs
unfolding runs_in_place
place_of_runs room count place runs long holds =
    let behind : length (drop (8 * count) place) ≡ 8 * (room - length runs) = omega (arith, length-drop (8 * count) place, long, holds.begins.so_many) in
    sym (take-append-drop (8 * count) place) ∙ ap (λ (l : List ℕ). l ++ drop (8 * count) place) holds.begins.stands
    ∙ ap (λ (l : List ℕ). flat_map run_bytes runs ++ l) (replicate-zeros (8 * (room - length runs)) (drop (8 * count) place) behind holds.zeros)

pub runs_of_place : (room : ℕ) (place : List ℕ) (runs : List Run) → AreRuns runs → place ≡ runs_in_place room runs → HoldsRuns place (length runs) runs
unfolding runs_in_place
runs_of_place room place runs are e =
    let zeros : List ℕ = replicate {A = ℕ} (8 * (room - length runs)) 0 in record {
      begins = record {
        so_many = refl;
        are_runs = are;
        stands = ap (take (8 * length runs)) e ∙ take_at (flat_map run_bytes runs) zeros (8 * length runs) (length-runs runs);
      };
      zeros = zeros-replicate (8 * (room - length runs)) (drop (8 * length runs) place)
          (ap (drop (8 * length runs)) e ∙ drop_at (flat_map run_bytes runs) zeros (8 * length runs) (length-runs runs));
    }

abbrev front_with : ℕ → ℕ → ℕ → ℕ → Front
front_with kind word double copy = record { kind = kind; word = word; double = double; copy = copy }

pub same_fronts : (a b : Front) → a.kind ≡ b.kind → a.word ≡ b.word → a.double ≡ b.double → a.copy ≡ b.copy → a ≡ b
same_fronts a b kinds words doubles copies =
    ap (λ (n : ℕ). front_with n a.word a.double a.copy) kinds ∙ ap (λ (n : ℕ). front_with b.kind n a.double a.copy) words
    ∙ ap (λ (n : ℕ). front_with b.kind b.word n a.copy) doubles ∙ ap (λ (n : ℕ). front_with b.kind b.word b.double n) copies

pub found_more : (front : Front) (own : List ℕ) (count : ℕ) (runs : List Run) → length own ≡ 4080 → front.kind ≡ 2 → count ≡ front.word → front.double ≡ 0 → IsCopy front.copy
    → 1 ≤ count → count ≤ 510 → HoldsRuns own count runs → Holds front own (more front.copy runs)
found_more front own count runs fills kind is double copy some few holds = record {
  is_record = record { copy_fits = copy; some = omega (arith, holds.begins.so_many); few = omega (arith, holds.begins.so_many); runs = holds.begins.are_runs };
  same_front = same_fronts (record { kind = 2; word = length runs; double = 0; copy = front.copy }) front (sym kind) (holds.begins.so_many ∙ is) (sym double) refl;
  stands = place_of_runs 510 count own runs (omega (arith, fills)) holds;
}

-- a slot of kind 2 holds a More
pub record HasMore (front : Front) (own : List ℕ) (entry : Record) : Type 0 where
  pub found : List Run
  pub is : more front.copy found ≡ entry
  pub double : front.double ≡ 0
  pub copy : IsCopy front.copy
  pub some : 1 ≤ front.word
  pub few : front.word ≤ 510
  pub runs : HoldsRuns own front.word found

pub one_more : (front : Front) (own : List ℕ) (entry : Record) → front.kind ≡ 2 → Holds front own entry → HasMore front own entry
one_more front own (more copy runs) kind holds =
    let same = holds.same_front in
    let word : length runs ≡ front.word = ap (λ (f : Front). f.word) same in
    let is : IsMore copy runs = holds.is_record in record {
      found = runs;
      is = ap (λ (n : ℕ). more n runs) (sym (ap (λ (f : Front). f.copy) same));
      double = sym (ap (λ (f : Front). f.double) same);
      copy = subst IsCopy (ap (λ (f : Front). f.copy) same) is.copy_fits;
      some = omega (arith, is.some, word);
      few = omega (arith, is.few, word);
      runs = subst (λ (n : ℕ). HoldsRuns own n runs) word (runs_of_place 510 own runs is.runs holds.stands);
    }
one_more front own (add count object) kind holds = absurd (omega (arith, ap (λ (f : Front). f.kind) holds.same_front, kind))
one_more front own (del copy) kind holds = absurd (omega (arith, ap (λ (f : Front). f.kind) holds.same_front, kind))
one_more front own (base last) kind holds = absurd (omega (arith, ap (λ (f : Front). f.kind) holds.same_front, kind))

-- what is found in a slot of kind 3 or 4
pub found_del : (front : Front) (own : List ℕ) → front.kind ≡ 3 → HasCopyAlone front own → Holds front own (del front.copy)
found_del front own kind has = record {
  is_record = has.copy;
  same_front = same_fronts (record { kind = 3; word = 0; double = 0; copy = front.copy }) front (sym kind) (sym has.word) (sym has.double) refl;
  stands = has.zeros;
}

pub found_base : (front : Front) (own : List ℕ) → front.kind ≡ 4 → HasCopyAlone front own → Holds front own (base front.copy)
found_base front own kind has = record {
  is_record = has.copy;
  same_front = same_fronts (record { kind = 4; word = 0; double = 0; copy = front.copy }) front (sym kind) (sym has.word) (sym has.double) refl;
  stands = has.zeros;
}
