use Rattle.std.proofs.Common.{subst, sym}
use Rattle.std.specs.Str.{IsUtf8}
use Rattle.bsa_descriptor.proofs.Printing.{utf8_of_text}
use Rattle.bsa_descriptor.proofs.text.Text.as_str.Goals as goal

pub unreachable-requires : goal.unreachable-requires
unreachable-requires g c =
    c.in-Err.ensures.cases.0 (subst IsUtf8 (sym c.as_bytes.ensures.bytes) (utf8_of_text _ _ c.as_bytes.ensures.text))
