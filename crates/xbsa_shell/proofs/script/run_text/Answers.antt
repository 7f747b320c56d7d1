use Rattle.std.proofs.Common.{Ok, Err, Some}
use Rattle.bsa_lines.specs.Lines.{bsa_line_of}
use Rattle.xbsa_shell.proofs.LineLemmas.{if_ok}
use Rattle.xbsa_shell.proofs.RunLemmas.{cut_text, text_empty, text_runs}
use Rattle.xbsa_shell.proofs.script.run_text.Goals as goal
