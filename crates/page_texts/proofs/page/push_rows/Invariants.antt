use Rattle.std.proofs.Common.{◌≡◌, ◌++◌, ◌-◌, ◌*◌, drop, string_bytes}
use Rattle.page_texts.specs.Texts.{rows}
use Rattle.page_texts.proofs.page.push_rows.Given as goal

abbrev pub invariant-loop-i : goal.invariant-loop-i
invariant-loop-i l =
    string_bytes l.text ++ rows (255 - l.i) (16 * l.i) (drop (16 * l.i) l.payload) ≡ string_bytes l.initial.text ++ rows 255 0 l.payload
