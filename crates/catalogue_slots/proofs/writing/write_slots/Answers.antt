use Rattle.std.proofs.Common.{◌≡◌, ℕ, ◌+◌, ◌-◌, ◌*◌, ◌/◌, List, length, take, drop, min, sym, ap, ◌∙◌, ◌++◌, arith}
use Rattle.std.specs.List.{flat_map}
use Rattle.std.proofs.lemmas.List.{take_rest, take_all, drop_min, length-drop}
use Rattle.block_chain.specs.declared.runs.Run.{Run}
use Rattle.catalogue_slots.specs.Records.{mores, slots_for}
use Rattle.catalogue_slots.specs.Layout.{spelling}
use Rattle.catalogue_slots.proofs.writing.write_slots.Goals as goal

rest_is : (k : ℕ) (runs seen : List Run) → seen ≡ runs → k ≡ min 177 (length seen) → take (length seen - k) (drop k seen) ≡ drop 177 runs
rest_is k runs seen same is =
    take_rest seen k ∙ ap (λ (n : ℕ). drop n seen) is ∙ drop_min 177 seen ∙ ap (drop 177) same

-- an Add and the Mores behind it, which fill the bytes
behind_add : (copy : ℕ) (runs rest : List Run) (mid new p : List ℕ) → rest ≡ drop 177 runs → length new ≡ 4096 * slots_for (length runs) → take 4096 mid ≡ p
    → take (4096 + 4096 * ((length rest + 509) / 510)) new ≡ take 4096 mid ++ flat_map spelling (mores copy ((length rest + 509) / 510) rest)
    → new ≡ p ++ flat_map spelling (mores copy (slots_for (length runs) - 1) (drop 177 runs))
behind_add copy runs rest mid new p is fills first second =
    let counts : (length rest + 509) / 510 ≡ slots_for (length runs) - 1 =
    ap (λ (n : ℕ). (n + 509) / 510) (ap length is ∙ length-drop 177 runs) ∙ omega arith in
    let behind : take (4096 + 4096 * (slots_for (length runs) - 1)) new ≡ take 4096 mid ++ flat_map spelling (mores copy (slots_for (length runs) - 1) (drop 177 runs)) =
    rw (← counts) (second ∙ ap (λ (l : List Run). take 4096 mid ++ flat_map spelling (mores copy ((length rest + 509) / 510) l)) is) in
    sym (take_all (4096 + 4096 * (slots_for (length runs) - 1)) new (omega (arith, fills))) ∙ behind
    ∙ ap (λ (l : List ℕ). l ++ flat_map spelling (mores copy (slots_for (length runs) - 1) (drop 177 runs))) first

pub returns-clause-written : goal.returns-clause-written
returns-clause-written c =
    behind_add c.args.entry.now.copy c.args.entry.now.runs.items _ c.write_add.new.into c.write_mores.new.into _
    (rest_is c.min.result c.args.entry.now.runs.items c.as_slice-runs.result.now c.as_slice-runs.ensures.value c.min.ensures) (omega arith) c.write_add.ensures.written c.write_mores.ensures
