use Rattle.std.proofs.Common.{◌≡◌, ℕ, ◌-◌, length, replicate, arith, ap, ◌∙◌}
use Rattle.space_lane.proofs.PageLemmas.{empty_bytes}
use Rattle.space_lane.proofs.pages.write_empty_page.Goals as goal

pub returns : goal.returns
returns c =
    let size : length c.args.bytes.now - 0 ≡ 4096 = omega arith in
    empty_bytes c.args.space c.args.page c.write_zeros_from.new.into c.write_bytes.new.into c.write_zeros_from-2.new.into c.name_of.result
    (c.write_zeros_from.ensures ∙ ap (λ (n : ℕ). replicate {A = ℕ} n 0) size) c.name_of.ensures (omega arith) (omega arith) c.write_bytes.ensures.written c.write_zeros_from-2.ensures
