use Rattle.std.proofs.Common.{◌≡◌, ℕ, ◌+◌, ◌-◌, List, length, take, ◌++◌, replicate, arith, ap, sym, refl, ◌∙◌}
use Rattle.lane_mark.specs.declared.fields.Fields.{Fields}
use Rattle.lane_mark.specs.Layout.{front, copies_bytes, raw_of}
use Rattle.lane_mark.proofs.LayoutLemmas.{raw, raw-spelling}
use Rattle.lane_mark.proofs.mark.encode_into.Goals as goal

by_parts : (fields : Fields) (one two new f g : List ℕ) → f ≡ front fields → g ≡ copies_bytes fields.chain.copies → length f ≡ 32 → length g ≡ 24 → length two ≡ 255
    → take (0 + length f) one ≡ f → take (32 + length g) two ≡ take 32 one ++ g → new ≡ take 56 two ++ replicate (length two - 56) 0 → new ≡ raw fields
unfolding raw
by_parts fields one two new f g ef eg size_f size long_two first second third =
    let rest : length two - 56 ≡ 199 = omega (arith, long_two) in
    let first_is : 0 + length f ≡ 32 = omega (arith, size_f) in
    let both : 32 + length g ≡ 56 = omega (arith, size) in
    let to_one : take 32 one ≡ f = ap (λ (n : ℕ). take n one) (sym first_is) ∙ first in
    let to_two : take 56 two ≡ take 32 one ++ g = ap (λ (n : ℕ). take n two) (sym both) ∙ second in
    third ∙ ap (λ (n : ℕ). take 56 two ++ replicate {A = ℕ} n 0) rest
    ∙ ap (λ (l : List ℕ). l ++ replicate {A = ℕ} 199 0) (to_two ∙ ap (λ (l : List ℕ). l ++ g) (to_one ∙ ef) ∙ ap (λ (l : List ℕ). front fields ++ l) eg)

pub returns : goal.returns
returns c =
    by_parts c.of-fields.result c.write_bytes.new.into c.write_bytes-2.new.into c.write_zeros_from.new.into c.front_of.result c.copies_of.result
    c.front_of.ensures c.copies_of.ensures (omega arith) (omega arith) (omega arith) c.write_bytes.ensures.written c.write_bytes-2.ensures.written c.write_zeros_from.ensures
    ∙ ap raw c.of-fields.ensures ∙ raw-spelling c.args.state.now c.requires
