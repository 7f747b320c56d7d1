-- Reads one after another.
use Rattle.std.proofs.Common.{◌≡◌, ℕ, List, Result, Err, ap, sym, ◌∙◌}
use Rattle.site_disk.specs.Images.{Unchanged}
use Rattle.site_disk.specs.Ledger.{Ledger, EraView, Uses}

-- so many bytes were read of a disk, which is as before
pub record HasRead (era : EraView) (count : ℕ) (old_bytes new_bytes : List ℕ) (old new : ℕ → List ℕ → Type 0) (old_ledger new_ledger : Ledger) : Type 0 where
  pub bytes : new_bytes ≡ old_bytes
  pub images : Unchanged old new
  pub uses : Uses era count 0 old_ledger new_ledger

-- a fault that is handed on
pub handed_on : {T U E : Type 0} (outer : Result U E) (inner y fault : E) → outer ≡ Err y → y ≡ inner → outer ≡ Err fault → ◌≡◌ {A = Result T E} (Err inner) (Err fault)
handed_on {T} {U} {E} outer inner y fault o same is = ap (λ (e : E). Err e) (sym same ∙ one y fault (sym o ∙ is))
  where
    one : (a b : E) → ◌≡◌ {A = Result U E} (Err a) (Err b) → a ≡ b
    one a b e = cc e
