-- The journal followed, step by step.
use Rattle.std.proofs.Common.{◌≡◌, ℕ, ◌+◌, ◌-◌, List, [], ◌∷◌, ◌++◌, length, Option, Some, None, ap, ◌∙◌, suc, arith}
use Rattle.std.specs.Prelude.{slice_get}
use Rattle.block_chain.specs.declared.runs.Run.{Run}
use Rattle.catalogue_replay.specs.Journal.{end_of}

-- where the last run ends
pub end_of_last : (runs : List Run) (run : Run) → slice_get runs (length runs - 1) ≡ Some run → end_of runs ≡ run.first + run.count
end_of_last [] run e = cc
end_of_last (r ∷ []) run e = ap (λ (o : Option Run). at_run o) e
  where
    at_run : Option Run → ℕ
    at_run None = 0
    at_run (Some x) = x.first + x.count
end_of_last (r ∷ s ∷ rs) run e =
    let inner : length (s ∷ rs) - 1 ≡ length rs = omega arith in
    let outer : suc (length rs) ≡ length (r ∷ s ∷ rs) - 1 = omega arith in
    let here : slice_get (r ∷ s ∷ rs) (suc (length rs)) ≡ Some run = ap (λ (n : ℕ). slice_get (r ∷ s ∷ rs) n) outer ∙ e in
    end_of_last (s ∷ rs) run (ap (λ (n : ℕ). slice_get (s ∷ rs) n) inner ∙ here)
