use Rattle.std.proofs.Common.{◌≡◌, ◌↔◌, ◌-◌, ℕ, List, IsTrue, length, take, drop, subst, arith}
use Rattle.std.proofs.lemmas.List.{take_all, length-drop}
use Rattle.site_disk.specs.Bytes.{extent}
use Rattle.boot_file.proofs.header.has_tail.Goals as goal

pub returns : goal.returns
returns c =
    let other : List ℕ = c.args.other.now in
    let count : length (drop 1 other) ≡ 4095 = omega (arith, length-drop 1 other, c.requires.other) in
    let whole : take (length other - 1) (drop 1 other) ≡ drop 1 other = take_all (length other - 1) (drop 1 other) (omega (arith, length-drop 1 other)) in
    subst (λ (n : ℕ). IsTrue c.has_bytes.result ↔ (extent 1 n c.args.page.now ≡ drop 1 other)) count
    (subst (λ (l : List ℕ). IsTrue c.has_bytes.result ↔ (extent 1 (length l) c.args.page.now ≡ l)) whole c.has_bytes.ensures)
