use Rattle.std.proofs.Common.{arith, ◌≡◌, ℕ, ◌+◌, ◌++◌, List, length, take, min, refl, ap, ◌∙◌, subst}
use Rattle.std.specs.Int.{w64, to_be_bytes}
use Rattle.std.proofs.lemmas.List.{take_min}
use Rattle.block_chain.specs.declared.runs.Run.{Run}
use Rattle.bsa_descriptor.specs.Descriptor.{spelling as descriptor_bytes}
use Rattle.catalogue_slots.specs.Layout.{front_bytes, runs_in_place, spelling, add_bytes}
use Rattle.catalogue_slots.proofs.SlotLemmas.{written_parts}
use Rattle.catalogue_slots.proofs.writing.write_add.Goals as goal

first_runs : (k : ℕ) (runs seen : List Run) → seen ≡ runs → k ≡ min 177 (length seen) → take k seen ≡ take 177 runs
first_runs k runs seen same is = ap (λ (n : ℕ). take n seen) is ∙ take_min 177 seen ∙ ap (take 177) same

pub returns-clause-written : goal.returns-clause-written
unfolding spelling add_bytes
returns-clause-written c =
    let runs = subst (λ (l : List Run). take (c.args.at + 2680 + 1416) c.write_runs.new.into ≡ take (c.args.at + 2680) c.write_descriptor.new.into ++ runs_in_place 177 l)
    (first_runs c.min.result c.args.entry.now.runs.items c.as_slice-runs.result.now c.as_slice-runs.ensures.value c.min.ensures) c.write_runs.ensures in
    written_parts c.args.at c.args.into.now c.write_front.new.into c.write_u64.new.into c.write_bytes.new.into c.write_descriptor.new.into c.write_runs.new.into
    (front_bytes (record { kind = 1; word = c.args.entry.now.volume; double = length c.args.entry.now.runs.items; copy = c.args.entry.now.copy }))
    (to_be_bytes w64 c.args.entry.now.size) c.args.entry.now.digest (descriptor_bytes c.args.entry.now.descriptor) (runs_in_place 177 (take 177 c.args.entry.now.runs.items))
    refl (omega arith)
    (rw (c.as_slice-runs.ensures.value) at c.write_front.ensures.written) c.write_u64.ensures.written c.write_bytes.ensures.written
    c.write_descriptor.ensures.written runs
