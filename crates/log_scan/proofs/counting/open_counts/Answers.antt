use Rattle.std.proofs.Common.{◌≡◌, ◌+◌, ◌-◌, ◌++◌, ◌∷◌, [], ℕ, List, arith, ap, sym, ◌∙◌}
use Rattle.gated_slots.specs.Slots.{Area, used}
use Rattle.log_files.specs.Ring.{area_of}
use Rattle.log_scan.specs.Fronts.{counts_from}
use Rattle.log_scan.proofs.CountLemmas.{counts_more}
use Rattle.log_scan.proofs.counting.open_counts.Goals as goal

pub returns-clause-used : goal.returns-clause-used
returns-clause-used g c tells =
    let oldest = c.args.oldest in
    let n : ℕ = c.args.current - oldest in
    let bytes = g.D.Disk.bytes c.args.disk.now in
    let at : c.args.current ≡ oldest + n = omega (arith, c.requires.order) in
    let next : n + 1 ≡ c.args.current + 1 - oldest = omega (arith, c.requires.order) in
    let here : c.used.result ≡ used (area_of (oldest + n)) bytes =
    c.used.ensures.used ∙ c.in_ok-open.ensures.used tells ∙ ap (λ (a : Area). used a (g.D.Disk.bytes c.count_files.new.disk)) (c.slots_of-slots.ensures.area ∙ ap area_of at)
    ∙ ap (used (area_of (oldest + n))) c.in_ok-counts.ensures.bytes in
    c.push_reserved.ensures.items ∙ ap (λ (l : List ℕ). l ++ c.used.result ∷ []) (c.in_ok-counts.ensures.used tells) ∙ ap (λ (k : ℕ). counts_from oldest n bytes ++ k ∷ []) here
    ∙ sym (counts_more oldest n bytes) ∙ ap (λ (k : ℕ). counts_from oldest k bytes) next
