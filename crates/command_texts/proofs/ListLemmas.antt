-- Fronts of a text.
use Rattle.std.proofs.Common.{◌≡◌, ℕ, ◌+◌, ◌-◌, ◌≤◌, List, ◌++◌, length, take, drop, sym, ◌∙◌, ap, arith, append_assoc, length-drop}
use Rattle.std.proofs.lemmas.List.{take_rest}
use Rattle.std.proofs.Math.Seq.{take-add}

-- a front of the text, and a front of what is left
pub front_more : (text begun old new : List ℕ) (at n : ℕ) → old ≡ begun ++ take at text
    → new ≡ old ++ take n (take (length text - at) (drop at text)) → new ≡ begun ++ take (at + n) text
front_more text begun old new at n was is =
    is
    ∙ ap (λ (l : List ℕ). l ++ take n (take (length text - at) (drop at text))) was
    ∙ ap (λ (l : List ℕ). begun ++ take at text ++ take n l) (take_rest text at)
    ∙ append_assoc begun (take at text) (take n (drop at text))
    ∙ ap (λ (l : List ℕ). begun ++ l) (sym (take-add at n text))

pub within_more : (text : List ℕ) (at n : ℕ) → at ≤ length text → n ≤ length (take (length text - at) (drop at text)) → at + n ≤ length text
within_more text at n le fits = omega (arith, ap length (take_rest text at), length-drop at text)
