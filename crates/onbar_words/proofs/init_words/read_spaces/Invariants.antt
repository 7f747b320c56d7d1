use Rattle.std.proofs.Common.{◌≡◌, ◌+◌, [], drop, length, map, string_bytes}
use Rattle.command_grammar.specs.Words.{spaces_of_words}
use Rattle.site_headers.specs.Views.{spaces_of}
use Rattle.onbar_words.proofs.init_words.read_spaces.Given as goal

-- the words that are left complete the list
abbrev pub invariant-loop-i : goal.invariant-loop-i
invariant-loop-i l = record {
  counted : length l.spaces.items ≡ l.i;
  rest : spaces_of_words (l.at + l.i) (spaces_of l.spaces.items) (map string_bytes (drop l.i l.words))
      ≡ spaces_of_words l.at [] (map string_bytes l.words);
}
