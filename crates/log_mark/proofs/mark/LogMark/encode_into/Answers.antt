use Rattle.std.proofs.Common.{◌≡◌, ℕ, ◌+◌, ◌-◌, List, length, take, ◌++◌, replicate, arith, ap, sym, ◌∙◌}
use Rattle.log_mark.specs.declared.mark.LogMark.{LogMark}
use Rattle.log_mark.specs.Layout.{spelling, front, firsts_bytes, length-front}
use Rattle.log_mark.proofs.mark.LogMark.encode_into.Goals as goal

by_parts : (mark : LogMark) (one two new f g : List ℕ) → f ≡ front mark → g ≡ firsts_bytes mark.firsts → length g ≡ 64 → length two ≡ 255
    → take (0 + length f) one ≡ f → take (40 + length g) two ≡ take 40 one ++ g → new ≡ take 104 two ++ replicate (length two - 104) 0 → new ≡ spelling mark
unfolding spelling
by_parts mark one two new f g ef eg size long_two first second third =
    let size_f : length f ≡ 40 = ap length ef ∙ length-front mark in
    let rest : length two - 104 ≡ 151 = omega (arith, long_two) in
    let first_is : 0 + length f ≡ 40 = omega (arith, size_f) in
    let both : 40 + length g ≡ 104 = omega (arith, size) in
    let to_one : take 40 one ≡ f = ap (λ (n : ℕ). take n one) (sym first_is) ∙ first in
    let to_two : take 104 two ≡ take 40 one ++ g = ap (λ (n : ℕ). take n two) (sym both) ∙ second in
    third ∙ ap (λ (n : ℕ). take 104 two ++ replicate {A = ℕ} n 0) rest
    ∙ ap (λ (l : List ℕ). l ++ replicate {A = ℕ} 151 0) (to_two ∙ ap (λ (l : List ℕ). l ++ g) (to_one ∙ ef) ∙ ap (λ (l : List ℕ). front mark ++ l) eg)

pub returns : goal.returns
returns c =
    by_parts c.args.self.now c.write_bytes.new.into c.write_bytes-2.new.into c.write_zeros_from.new.into c.front_of.result c.firsts_of.result
    c.front_of.ensures c.firsts_of.ensures (omega arith) (omega arith) c.write_bytes.ensures.written c.write_bytes-2.ensures.written c.write_zeros_from.ensures
