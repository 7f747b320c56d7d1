use Rattle.std.proofs.Common.{refl, ◌≡◌, ℕ, List, length, take, drop, ◌++◌, arith, ap, ◌∙◌, length-append}
use Rattle.std.proofs.lemmas.List.{drop_at, length-take-le}
use Rattle.site_disk.specs.Bytes.{extent}
use Rattle.site_disk.specs.BytesLaws.{extent-front}
use Rattle.lane_texts.proofs.tests.write_name.Goals as goal

named : (old new name : List ℕ) → length new ≡ 4096 → length name ≡ 8 → take 16 new ≡ take 8 old ++ name → extent 8 8 new ≡ name
named old new name long size written =
    let first : length (take 8 old) ≡ 8 = omega (arith, ap (λ (l : List ℕ). length l) written, length-append (take 8 old) name, length-take-le 16 new (omega (arith, long)), size) in
    extent-front 8 8 new ∙ ap (drop 8) written ∙ drop_at (take 8 old) name 8 first

pub returns : goal.returns
returns c = record { long = omega arith; named = named c.args.page.now c.write_bytes.new.into _ (omega arith) refl c.write_bytes.ensures.written }
