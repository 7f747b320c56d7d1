-- Gates counted piece by piece.
use Rattle.std.proofs.Common.{◌≡◌, ◌≢◌, ◌⊎◌, ℕ, zero, suc, ◌+◌, ◌<◌, ◌≤◌, List, [], ◌∷◌, ◌++◌, length, take, drop, get_or, Bool, IsTrue, ⊎_elim, arith, ap, sym, ◌∙◌, refl, length-drop}
use Rattle.std.proofs.lemmas.List.{length-take, take_more, length-take-le}
use Rattle.site_disk.specs.Bytes.{extent}
use Rattle.site_disk.specs.BytesLaws.{length-extent, extent-add}
use Rattle.site_disk.specs.Images.{Unchanged}
use Rattle.site_disk.specs.Ledger.{Ledger, EraView, Uses}
use Rattle.gated_slots.specs.Slots.{used_of, with_gate}
use Rattle.gated_slots.specs.SlotsLaws.{used_of-nil, used_of-cons, used_of-append_closed, used_of-append_open, used_of_le}

-- the gates up to a place are counted
pub record Counted {D : Type 0} (tells : Bool) (bytes : D → List ℕ) (image : D → ℕ → List ℕ → Type 0) (ledger : D → Ledger) (era : EraView) (gates capacity at used : ℕ) (old new : D) : Type 0 where
  pub begun : at ≤ capacity
  pub within : used ≤ at
  pub count : IsTrue tells → used ≡ used_of (extent gates at (bytes old))
  pub content : bytes new ≡ bytes old
  pub images : Unchanged (image old) (image new)
  pub uses : Uses era at 0 (ledger old) (ledger new)

-- one gate more, open
pub open_more : (gates : List ℕ) (i : ℕ) → i < length gates → get_or gates i 0 ≢ 0 → i + 1 ≡ used_of (take (i + 1) gates)
open_more gates i lt some = sym (ap used_of (take_more gates i 0 lt) ∙ by (get_or gates i 0) some)
  where
    by : (gate : ℕ) → gate ≢ 0 → used_of (take i gates ++ gate ∷ []) ≡ i + 1
    by zero none = absurd (none refl)
    by (suc gate) some =
        let one : used_of (suc gate ∷ []) ≡ 1 = used_of-cons (suc gate) [] ∙ ap (with_gate (suc gate)) used_of-nil in
        used_of-append_open (take i gates) (suc gate ∷ []) (omega (arith, one)) ∙ omega (arith, one, length-take-le i gates (omega arith))

-- and closed
pub closed_more : (gates : List ℕ) (i : ℕ) → i < length gates → get_or gates i 0 ≡ 0 → used_of (take i gates) ≡ used_of (take (i + 1) gates)
closed_more gates i lt none =
    let shut : used_of (get_or gates i 0 ∷ []) ≡ 0 = used_of-cons (get_or gates i 0) [] ∙ ap (with_gate (get_or gates i 0)) used_of-nil ∙ ap (λ (g : ℕ). with_gate g 0) none in
    sym (ap used_of (take_more gates i 0 lt) ∙ used_of-append_closed (take i gates) (get_or gates i 0 ∷ []) shut)

module _ (gates at n : ℕ) (bytes : List ℕ) where
  abbrev piece : List ℕ
  piece = extent (gates + at) n bytes

  -- a piece more, with an open gate
  pub count_open : 0 < used_of piece → at + used_of piece ≡ used_of (extent gates (at + n) bytes)
  count_open some =
      let there : 0 < length piece = omega (arith, used_of_le piece, some) in
      let front : length (extent gates at bytes) ≡ at = length-extent gates at bytes (omega (arith, there, length-take n (drop (gates + at) bytes), length-drop (gates + at) bytes)) in
      sym (ap used_of (extent-add gates at n bytes) ∙ used_of-append_open (extent gates at bytes) piece some ∙ ap (λ (k : ℕ). k + used_of piece) front)

  -- and with none
  pub count_closed : used_of piece ≡ 0 → used_of (extent gates at bytes) ≡ used_of (extent gates (at + n) bytes)
  count_closed none = sym (ap used_of (extent-add gates at n bytes) ∙ used_of-append_closed (extent gates at bytes) piece none)

-- a piece more; `m` is the piece's length as the code has it
pub count_more : (gates at n m was now found : ℕ) (bytes mid : List ℕ) → m ≡ n → mid ≡ bytes → was ≡ used_of (extent gates at bytes) → found ≡ used_of (extent (gates + at) m mid)
    → ((0 < found) × (now ≡ at + found)) ⊎ ((found ≤ 0) × (now ≡ was)) → now ≡ used_of (extent gates (at + n) bytes)
count_more gates at n m was now found bytes mid long same before is choice =
    let here : found ≡ used_of (extent (gates + at) n bytes) = is ∙ ap (λ (k : ℕ). used_of (extent (gates + at) k mid)) long ∙ ap (λ (l : List ℕ). used_of (extent (gates + at) n l)) same in
    ⊎_elim
    (λ some. some.1 ∙ ap (λ (k : ℕ). at + k) here ∙ count_open gates at n bytes (omega (arith, here, some.0)))
    (λ none. none.1 ∙ before ∙ count_closed gates at n bytes (omega (arith, here, none.0)))
    choice
