use Rattle.std.proofs.Common.{◌≡◌, ◌++◌, drop, string_bytes}
use Rattle.page_texts.specs.Texts.{used_lines}
use Rattle.page_texts.proofs.space.push_used_lines.Given as goal

abbrev pub invariant-loop-index : goal.invariant-loop-index
invariant-loop-index l =
    string_bytes l.text ++ used_lines l.space l.index (drop l.index l.pages.pages) ≡ string_bytes l.initial.text ++ used_lines l.space 0 l.pages.pages
