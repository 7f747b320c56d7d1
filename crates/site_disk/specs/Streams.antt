-- What a read takes from a source.
use Rattle.std.specs.Prelude.{◌≡◌, ℕ, ◌<◌, List, [], ◌++◌, length, take, drop}

-- a read of n bytes moves the first n bytes left to the buffer's front; 0 bytes into a buffer that has room is the end
pub record Takes (left_before left_after buffer_before buffer_after : List ℕ) (n : ℕ) : Type 0 where
  pub moved : left_before ≡ take n buffer_after ++ left_after
  pub buffer : drop n buffer_after ≡ drop n buffer_before
  pub at_end : n ≡ 0 → 0 < length buffer_before → left_before ≡ []
