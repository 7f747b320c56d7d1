use Rattle.std.proofs.Common.{◌≡◌, ℕ, ◌+◌, ◌-◌, ◌*◌, List, ◌++◌, take, drop, min, length, ap, sym, ◌∙◌, arith}
use Rattle.std.specs.List.{flat_map}
use Rattle.std.proofs.lemmas.List.{flat_map_more}
use Rattle.block_chain.specs.declared.runs.Run.{Run}
use Rattle.catalogue_slots.specs.Records.{Record, more, mores}
use Rattle.catalogue_slots.specs.Layout.{spelling}
use Rattle.catalogue_slots.proofs.SlotLemmas.{mores-more, runs_here}
use Rattle.catalogue_slots.proofs.writing.write_mores.Goals as goal

-- one More more is written
next_more : (at i end copy : ℕ) (old mid new : List ℕ) (runs : List Run) → end ≡ min (length runs) (510 * i + 510)
    → take (at + 4096 * i) mid ≡ take at old ++ flat_map spelling (mores copy i runs)
    → take (at + 4096 * i + 4096) new ≡ take (at + 4096 * i) mid ++ spelling (more copy (take (end - 510 * i) (drop (510 * i) runs)))
    → take (at + 4096 * (i + 1)) new ≡ take at old ++ flat_map spelling (mores copy (i + 1) runs)
next_more at i end copy old mid new runs is first second =
    let place : at + 4096 * (i + 1) ≡ at + 4096 * i + 4096 = omega arith in
    let here : Record = more copy (take 510 (drop (510 * i) runs)) in
    ap (λ (n : ℕ). take n new) place ∙ second
    ∙ ap (λ (l : List ℕ). l ++ spelling (more copy (take (end - 510 * i) (drop (510 * i) runs)))) first
    ∙ ap (λ (l : List Run). (take at old ++ flat_map spelling (mores copy i runs)) ++ spelling (more copy l)) (runs_here i end runs is)
    ∙ flat_map_more spelling (take at old) (mores copy i runs) here
    ∙ ap (λ (l : List Record). take at old ++ flat_map spelling l) (sym (mores-more copy i runs))

pub loop-i-preserved : goal.loop-i-preserved
loop-i-preserved c =
    next_more c.args.at c.loop-i.i c.min-end.result c.args.copy c.args.into.now c.loop-i.into c.write_more.new.into c.args.runs.now c.min-end.ensures c.loop-i.invariant c.write_more.ensures
