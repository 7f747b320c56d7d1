-- Fronts of a text.
use Rattle.std.proofs.Common.{◌≡◌, ℕ, List, [], take, drop, refl, sym}
use Rattle.std.proofs.lemmas.List.{append-nil, take-append-drop}
use Rattle.command_texts.specs.Printing.{TakesFront}
use Rattle.xbsa_shell.specs.Printing.{PrintsFront}

pub prints_part : (text before now : List ℕ) → TakesFront before now text → PrintsFront text before now
prints_part text before now front = record {
  printed = take front.count text;
  rest = drop front.count text;
  parts = sym (take-append-drop front.count text);
  taken = front.taken;
}

pub prints_nothing : (text taken : List ℕ) → PrintsFront text taken taken
prints_nothing text taken = record { printed = []; rest = text; parts = refl; taken = sym (append-nil taken) }
