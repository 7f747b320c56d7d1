use Rattle.std.proofs.Common.{◌≡◌, ℕ, ◌*◌, ◌≤◌, List, length, take, arith, ap, sym, ◌∙◌}
use Rattle.std.proofs.lemmas.List.{take_all}
use Rattle.std.specs.List.{flat_map}
use Rattle.std.specs.Int.{w64, to_be_bytes}
use Rattle.log_mark.specs.Layout.{firsts_bytes}
use Rattle.log_mark.proofs.fields.firsts_of.Goals as goal

whole : (bytes firsts : List ℕ) (i : ℕ) → 8 ≤ i → length bytes ≡ 64 → length firsts ≡ 8 → take (8 * i) bytes ≡ flat_map (to_be_bytes w64) (take i firsts)
    → bytes ≡ flat_map (to_be_bytes w64) firsts
whole bytes firsts i le long count is =
    sym (take_all (8 * i) bytes (omega (arith, long, le))) ∙ is ∙ ap (flat_map (to_be_bytes w64)) (take_all i firsts (omega (arith, count, le)))

pub returns : goal.returns
unfolding firsts_bytes
returns c = whole c.loop-i.bytes c.args.firsts.now c.loop-i.i (omega arith) c.loop-i.invariant.1 (omega arith) c.loop-i.invariant.0
