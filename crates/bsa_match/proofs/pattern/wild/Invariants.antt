use Rattle.std.proofs.Common.{◌≡◌, ◌≤◌, length, drop}
use Rattle.bsa_match.specs.Wild.{is_wild_match}
use Rattle.bsa_match.proofs.pattern.wild.Given as goal

abbrev pub invariant-loop-i : goal.invariant-loop-i
invariant-loop-i l = record {
  in_text : l.i ≤ length l.text;
  answer : is_wild_match l.pattern l.text ≡ is_wild_match (drop l.i l.pattern) (drop l.i l.text);
}
