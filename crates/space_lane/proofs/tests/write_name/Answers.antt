use Rattle.std.proofs.Common.{◌≡◌, ℕ, ◌+◌, List, length, take, drop, ◌++◌, arith, ap, sym, ◌∙◌, length-append}
use Rattle.std.proofs.lemmas.List.{drop_at, length-take-le}
use Rattle.site_disk.specs.Bytes.{extent}
use Rattle.site_disk.specs.BytesLaws.{extent-front}
use Rattle.space_lane.proofs.tests.write_name.Goals as goal

named : (old new name : List ℕ) → length new ≡ 4096 → length name ≡ 8 → take (8 + length name) new ≡ take 8 old ++ name → extent 8 8 new ≡ name
named old new name long size written =
    let front : List ℕ = take 8 old in
    let at : 8 + length name ≡ 16 = omega (arith, size) in
    let first : length front ≡ 8 = omega (arith, ap (λ (l : List ℕ). length l) written, length-append front name, length-take-le (8 + length name) new (omega (arith, long, size)), size) in
    extent-front 8 8 new ∙ ap (λ (n : ℕ). drop 8 (take n new)) (sym at) ∙ ap (drop 8) written ∙ drop_at front name 8 first

pub returns : goal.returns
returns c = record {
  long = omega arith;
  named = named c.args.bytes.now c.write_bytes.new.into c.name_of.result (omega arith) (omega arith) c.write_bytes.ensures.written ∙ c.name_of.ensures;
}
