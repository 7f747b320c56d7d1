-- Laws of live positions, by the Resets of a history.
use Rattle.std.specs.Prelude.{◌≡◌, ℕ, ◌<◌, ◌≤◌, List, [], ◌∷◌, length, true, nat_le}
use Rattle.std.proofs.Common.{arith, refl}
use Rattle.std.proofs.lemmas.Bool.Decides.{nat_tests}
use Rattle.log_history.specs.History.{LogEntry, reset}
use Rattle.log_history.specs.Live.{ResetPoint, reset_points_back, live_by}

-- what is live at a position is at most that position
pub live_within : (points : List ResetPoint) (n x : ℕ) → live_by points n x ≡ true → x ≤ n
live_within [] n x is = grind (arith, nat_tests, is)
live_within (point ∷ older) n x is =
    let ih : (m : ℕ) → live_by older m x ≡ true → x ≤ m = λ m. live_within older m x in
    grind (arith, nat_tests, is, ih n, ih point.target)

-- up to a live position, what is live is what is live at it
pub live_along : (points : List ResetPoint) (q a x : ℕ) → live_by points q a ≡ true → x ≤ a → live_by points q x ≡ live_by points a x
live_along [] q a x is le = grind (arith, nat_tests, is, le)
live_along (point ∷ older) q a x is le =
    let ih : (m : ℕ) → live_by older m a ≡ true → live_by older m x ≡ live_by older a x = λ m is. live_along older m a x is le in
    let within : (m : ℕ) → live_by older m a ≡ true → a ≤ m = λ m. live_within older m a in
    grind (arith, nat_tests, is, le, ih q, ih point.target, within q, within point.target)

-- a position behind all Resets is live at each later one
pub live_behind : (past : List LogEntry) (n x : ℕ) → length past < x → live_by (reset_points_back past) n x ≡ nat_le x n
live_behind [] n x lt = refl
live_behind (reset restore target time ∷ past) n x lt =
    let ih : (m : ℕ) → live_by (reset_points_back past) m x ≡ nat_le x m = λ m. live_behind past m x (omega (arith, lt)) in
    grind (arith, nat_tests, lt, ih n)
live_behind (entry ∷ past) n x lt = live_behind past n x (omega (arith, lt))
