use Rattle.std.proofs.Common.{◌≡◌, ◌++◌, string_bytes, take}
use Rattle.std.specs.List.{flat_map}
use Rattle.bsa_transcripts.specs.Texts.{copies_text}
use Rattle.bsa_transcripts.proofs.replies.push_copies.Given as goal

abbrev pub invariant-loop-copy : goal.invariant-loop-copy
invariant-loop-copy l = string_bytes l.text ≡ string_bytes l.fn.text ++ flat_map copies_text (take l.copy-index l.copies)
