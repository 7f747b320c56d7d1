use Rattle.std.proofs.Common.{◌≡◌, ◌+◌, ◌*◌, ◌-◌, ◌<◌, ◌≤◌, ℕ, true}
use Rattle.before_images.specs.Saved.{u32_at, numbers, are_below}
use Rattle.before_images.proofs.pages.greatest.Given as goal

abbrev pub invariant-loop-i : goal.invariant-loop-i
invariant-loop-i l = record {
  all : (k : ℕ) → k < l.i → u32_at (32 + 4 * k) l.head ≤ l.greatest;
  below : (limit : ℕ) → 0 < limit → are_below limit (numbers 0 l.count l.head) ≡ true → (l.greatest < limit) × (are_below limit (numbers l.i (l.count - l.i) l.head) ≡ true);
}
