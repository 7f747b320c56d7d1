-- Zero bytes written piece by piece.
use Rattle.std.proofs.Common.{◌≡◌, ℕ, ◌+◌, ◌-◌, ◌≤◌, List, length, take, Bool, IsTrue, arith, ap, ◌∙◌}
use Rattle.std.specs.Prelude.{replicate}
use Rattle.std.proofs.lemmas.List.{replicate-append-replicate, length-replicate, take-replicate}
use Rattle.site_disk.specs.Bytes.{written, Torn}
use Rattle.site_disk.specs.BytesLaws.{written-written}
use Rattle.site_disk.specs.Images.{Leaves}
use Rattle.site_disk.specs.Ledger.{Ledger, EraView, Uses}

-- zero bytes stand from one place up to another
pub record Zeroed {D : Type 0} (is_modelled : Bool) (bytes : D → List ℕ) (image : D → ℕ → List ℕ → Type 0) (ledger : D → Ledger) (era : EraView) (from to at : ℕ) (old new : D) : Type 0 where
  pub begun : from ≤ at
  pub within : at ≤ to
  pub content : IsTrue is_modelled → bytes new ≡ written from (replicate (at - from) 0) (bytes old)
  pub crash : Leaves era.number (Torn from (to - from)) (image old) (image new)
  pub uses : Uses era 0 (at - from) (ledger old) (ledger new)

-- one piece more
pub zeros_more : (from at n : ℕ) (bytes mid new : List ℕ) → from ≤ at → from ≤ length bytes
    → mid ≡ written from (replicate (at - from) 0) bytes → new ≡ written at (replicate n 0) mid
    → new ≡ written from (replicate (at + n - from) 0) bytes
zeros_more from at n bytes mid new le within was is =
    let so_far : List ℕ = replicate (at - from) 0 in
    let place : at ≡ from + length so_far = omega (arith, length-replicate {A = ℕ} (at - from) 0) in
    is
    ∙ ap (λ (l : List ℕ). written at (replicate n 0) l) was
    ∙ ap (λ (k : ℕ). written k (replicate n 0) (written from so_far bytes)) place
    ∙ written-written from so_far (replicate n 0) bytes within
    ∙ ap (λ (l : List ℕ). written from l bytes) (replicate-append-replicate (at - from) n 0)
    ∙ ap (λ (k : ℕ). written from (replicate k 0) bytes) (omega arith)

pub take-zeros : (n m : ℕ) (zeros : List ℕ) → n ≤ m → zeros ≡ replicate m 0 → take n zeros ≡ replicate n 0
take-zeros n m zeros le is = ap (λ (l : List ℕ). take n l) is ∙ take-replicate n m 0 le
