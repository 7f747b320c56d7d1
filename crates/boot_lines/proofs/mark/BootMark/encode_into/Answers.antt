use Rattle.std.proofs.Common.{◌≡◌, ℕ, ◌+◌, ◌-◌, List, length, take, ◌++◌, replicate, Option, arith, ap, sym, ◌∙◌}
use Rattle.std.specs.Int.{w64, to_be_bytes}
use Rattle.backup_lines.specs.Spans.{Active}
use Rattle.boot_lines.specs.MarkLayout.{active_in, active_bytes, spelling}
use Rattle.boot_lines.proofs.mark.BootMark.encode_into.Goals as goal

by_parts : (number : ℕ) (active : Option Active) (one two new n a : List ℕ) → n ≡ to_be_bytes w64 number → a ≡ active_bytes active → length n ≡ 8 → length a ≡ 24 → length two ≡ 255
    → take (0 + length n) one ≡ n → take (8 + length a) two ≡ take 8 one ++ a → new ≡ take 32 two ++ replicate (length two - 32) 0 → new ≡ spelling number active
unfolding spelling
by_parts number active one two new n a en ea size_n size_a long_two first second third =
    let rest : length two - 32 ≡ 223 = omega (arith, long_two) in
    let first_is : 0 + length n ≡ 8 = omega (arith, size_n) in
    let both : 8 + length a ≡ 32 = omega (arith, size_a) in
    let to_one : take 8 one ≡ n = ap (λ (k : ℕ). take k one) (sym first_is) ∙ first in
    let to_two : take 32 two ≡ take 8 one ++ a = ap (λ (k : ℕ). take k two) (sym both) ∙ second in
    third ∙ ap (λ (k : ℕ). take 32 two ++ replicate {A = ℕ} k 0) rest
    ∙ ap (λ (l : List ℕ). l ++ replicate {A = ℕ} 223 0) (to_two ∙ ap (λ (l : List ℕ). l ++ a) (to_one ∙ en) ∙ ap (λ (l : List ℕ). to_be_bytes w64 number ++ l) ea)

pub returns : goal.returns
returns c =
    by_parts c.args.self.now.last_number (active_in c.args.self.now.restore) c.write_bytes.new.into c.write_bytes-2.new.into c.write_zeros_from.new.into c.to_be_bytes.result c.active_bytes.result
    c.to_be_bytes.ensures c.active_bytes.ensures (omega arith) (omega arith) (omega arith) c.write_bytes.ensures.written c.write_bytes-2.ensures.written c.write_zeros_from.ensures
