-- What a sink has of a text that it was to take.
use Rattle.std.specs.Prelude.{◌≡◌, ℕ, List, ◌++◌}

-- nothing of the text was taken, or a front of it, or the whole
pub record PrintsFront (text before after : List ℕ) : Type 0 where
  pub printed : List ℕ
  pub rest : List ℕ
  pub parts : text ≡ printed ++ rest
  pub taken : after ≡ before ++ printed
