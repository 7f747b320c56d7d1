use Rattle.std.proofs.Common.{◌≡◌, string_bytes, take}
use Rattle.std.specs.List.{flat_map}
use Rattle.site_headers.specs.Views.{spaces_of}
use Rattle.site_model.specs.Texts.{space_text}
use Rattle.onbar_command.proofs.report.space_lines.Given as goal

abbrev pub invariant-loop-space : goal.invariant-loop-space
invariant-loop-space l = string_bytes l.text ≡ flat_map space_text (spaces_of (take l.space-index l.spaces))
