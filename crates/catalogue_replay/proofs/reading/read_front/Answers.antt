use Rattle.std.proofs.Common.{◌≡◌, ℕ, List, subst, sym}
use Rattle.std.proofs.lemmas.Result.{err_from_is_err_and}
use Rattle.site_headers.specs.Views.{head_of}
use Rattle.catalogue_replay.specs.Answers.{HasHead, IsBadCatalogue}
use Rattle.catalogue_replay.proofs.ReadingLemmas.{bad_mark}
use Rattle.catalogue_replay.proofs.reading.read_front.Goals as goal

pub returns-in_err-load_mark-clause-bad : goal.returns-in_err-load_mark-clause-bad
returns-in_err-load_mark-clause-bad g c area spare tells =
    let mid = g.D.Disk.bytes c.read_head.new.disk in
    let same : mid ≡ g.D.Disk.bytes c.args.disk.now = c.in_ok-head.ensures.bytes in
    let head = head_of c.in_ok-head.head in
    let fault = c.in_err-load_mark.field-0.0 in
    let p = err_from_is_err_and c.from_residual-in_err-load_mark.result c.from_residual-in_err-load_mark.ensures.1 in
    rw (p.1, p.2)
    (subst (λ (l : List ℕ). IsBadCatalogue area l spare fault) same
    (bad_mark area mid spare head fault (subst (HasHead head) (sym same) (c.in_ok-head.ensures.head tells)) (c.in_err-load_mark.ensures.other tells)))
