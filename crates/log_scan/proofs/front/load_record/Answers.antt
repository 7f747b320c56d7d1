use Rattle.std.proofs.Common.{◌≡◌, ℕ, List, Some, Err, sym, subst, ap, ◌∙◌}
use Rattle.twin_mark.specs.Marks.{record_at}
use Rattle.log_mark.specs.declared.mark.LogMark.{LogMark}
use Rattle.log_mark.specs.Layout.{IsMark, spelling as mark_spelling}
use Rattle.log_scan.proofs.FrontLemmas.{if_some, unread}
use Rattle.log_scan.proofs.front.load_record.Goals as goal

pub returns-in-Ok-clause-found : goal.returns-in-Ok-clause-found
returns-in-Ok-clause-found g c tells =
    let bytes = g.D.Disk.bytes c.args.disk.now in
    let stands : record_at 4096 bytes ≡ Some c.load.new.body = subst (λ (b : ℕ). record_at b bytes ≡ Some c.load.new.body) c.requires.base (c.in-Ok.ensures.found tells) in
    if_some c.decode.result (λ (named : LogMark). IsMark named × (c.load.new.body ≡ mark_spelling named)) (λ (named : LogMark). record_at 4096 bytes ≡ Some (mark_spelling named))
    (λ named is. stands ∙ ap (λ (l : List ℕ). Some l) is.1) c.decode.ensures.found

pub returns-in-Ok-clause-none : goal.returns-in-Ok-clause-none
returns-in-Ok-clause-none g c tells =
    let bytes = g.D.Disk.bytes c.args.disk.now in
    let stands : record_at 4096 bytes ≡ Some c.load.new.body = subst (λ (b : ℕ). record_at b bytes ≡ Some c.load.new.body) c.requires.base (c.in-Ok.ensures.found tells) in
    unread c.decode.result c.load.new.body (record_at 4096 bytes) stands c.decode.ensures.only

pub returns-in-Err-NoMark-clause-none : goal.returns-in-Err-NoMark-clause-none
returns-in-Err-NoMark-clause-none g c tells named ok stands =
    let bytes = g.D.Disk.bytes c.args.disk.now in
    let none = c.load.ensures.no_mark tells (c.in-Err-NoMark.is ∙ ap Err c.in-Err-NoMark.field-0-is) in
    cc (sym (ap (λ (b : ℕ). record_at b bytes) c.requires.base) ∙ none, stands)
