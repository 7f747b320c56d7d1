use Rattle.std.proofs.Common.{◌≡◌, ℕ, ◌+◌, get_or, arith, ap, ◌∙◌}
use Rattle.log_mark.specs.declared.mark.LogMark.{LogMark}
use Rattle.log_files.specs.Files.{mark_of}
use Rattle.logical_log.proofs.PlacesLemmas.{behind_last, behind_other}
use Rattle.logical_log.proofs.places.next_first.Goals as goal

pub returns-then-file-held : goal.returns-then-file-held
returns-then-file-held c files fits tells first begins =
    tells.next ∙ behind_last files fits c.args.file first (c.if-file-held.true ∙ ap (λ (m : LogMark). m.current) tells.mark) begins

pub returns : goal.returns
returns c files fits tells first begins =
    ap (λ (m : LogMark). get_or m.firsts c.place_of.result 0) tells.mark ∙ ap (λ (k : ℕ). get_or (mark_of files).firsts k 0) c.place_of.ensures
    ∙ behind_other files fits c.args.file first (omega (arith, c.if-file-held.false, begins.current, ap (λ (m : LogMark). m.current) tells.mark)) begins
