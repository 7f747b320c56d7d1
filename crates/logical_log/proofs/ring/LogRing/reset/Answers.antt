use Rattle.std.proofs.Common.{◌≤◌, ◌∷◌, [], ℕ, List, length, arith, sym, subst, ◌∙◌, inr}
use Rattle.site_disk.specs.Images.{Leaves}
use Rattle.site_disk.specs.Seen.{seen}
use Rattle.std.specs.Prelude.{OnOk}
use Rattle.log_history.specs.History.{LogEntry, reset}
use Rattle.log_files.specs.Files.{LogFiles, with_next, with_place, appended}
use Rattle.log_files.specs.Ring.{MayPass}
use Rattle.logical_log.specs.Rings.{Stands}
use Rattle.logical_log.proofs.PassLemmas.{pass_less, pass_on}
use Rattle.logical_log.proofs.ResetLemmas.{if_ok, empty_some, passed_some, end_reset, fit_head, one_more, next_saved}
use Rattle.logical_log.proofs.ring.LogRing.reset.Goals as goal

pub open_next-requires-clause-next : goal.open_next-requires-clause-next
open_next-requires-clause-next g c files tells =
    next_saved files tells.fits (c.requires.saved files tells) (c.requires.position files tells) (omega (arith, c.used.ensures files tells.held))

pub put-requires-2-clause-fits : goal.put-requires-2-clause-fits
put-requires-2-clause-fits g c others tells =
    let files = c.requires.opened.files in
    let was = c.requires.opened.tells in
    fit_head files others c.open_next.new.self c.args.restore c.args.target c.args.time was.fits (c.requires.position files was) (c.requires.target files was) c.requires.written
    (c.in_ok-open_next.ensures.told files was) tells

pub returns-in_err-open_next-clause-crash : goal.returns-in_err-open_next-clause-crash
returns-in_err-open_next-clause-crash g c tells site files stands =
    let entry : LogEntry = reset c.args.restore c.args.target c.args.time in
    let place : LogFiles = with_place files in
    let next : LogFiles = with_next (with_place files) in
    let some : 1 ≤ length files.current = omega (arith, c.used.ensures files stands.tells.held) in
    subst (λ (l : List LogFiles). Leaves c.args.era.now.number (MayPass site files l) (g.D.Disk.image c.args.self.now.disk) (g.D.Disk.image c.open_next.new.self.disk)) (sym (passed_some files files.current entry some))
    (pass_less site files (place ∷ next ∷ []) (place ∷ next ∷ appended next (entry ∷ []) ∷ []) c.args.era.now.number _ _ (one_more site files place next (appended next (entry ∷ [])))
    (c.open_next.ensures.crash tells site files stands))

pub returns-clause-position_is : goal.returns-clause-position_is
returns-clause-position_is g c files tells =
    let entry : LogEntry = reset c.args.restore c.args.target c.args.time in
    let next : LogFiles = with_next (with_place files) in
    if_ok c.put-2.result (λ position is. is ∙ end_reset files entry tells.fits) (c.put-2.ensures.end next (c.in_ok-open_next.ensures.told files tells))

pub returns-clause-stands : goal.returns-clause-stands
returns-clause-stands g c tells site files stands =
    let entry : LogEntry = reset c.args.restore c.args.target c.args.time in
    let next : LogFiles = with_next (with_place files) in
    let some : 1 ≤ length files.current = omega (arith, c.used.ensures files stands.tells.held) in
    subst (λ (k : LogFiles). OnOk c.put-2.result (Stands site (appended k (entry ∷ [])) (seen g.D.Disk c.put-2.new.self.disk) c.put-2.new.self)) (sym (empty_some files files.current some))
    (c.put-2.ensures.stands tells site next (c.in_ok-open_next.ensures.stands tells site files stands))

pub returns-clause-crash : goal.returns-clause-crash
returns-clause-crash g c tells site files stands =
    let e : ℕ = c.args.era.now.number in
    let disk = c.args.self.now.disk in
    let entry : LogEntry = reset c.args.restore c.args.target c.args.time in
    let place : LogFiles = with_place files in
    let next : LogFiles = with_next (with_place files) in
    let last : LogFiles = appended next (entry ∷ []) in
    let some : 1 ≤ length files.current = omega (arith, c.used.ensures files stands.tells.held) in
    let mid = c.in_ok-open_next.ensures.stands tells site files stands in
    subst (λ (l : List LogFiles). Leaves e (MayPass site files l) (g.D.Disk.image disk) (g.D.Disk.image c.put-2.new.self.disk)) (sym (passed_some files files.current entry some))
    (pass_on site files next (place ∷ next ∷ last ∷ []) (last ∷ []) e (g.D.Disk.bytes disk) (g.D.Disk.bytes c.open_next.new.self.disk) _ _ _
    (pass_less site files (place ∷ next ∷ []) (place ∷ next ∷ last ∷ []) e _ _ (one_more site files place next last) (c.open_next.ensures.crash tells site files stands))
    (c.in_ok-open_next.ensures.durable tells) (λ f lt. g.met.D.Disk.reads_as disk f tells (omega (arith, lt, c.requires.era.not_past))) mid.now (λ d either. inr (inr either))
    (c.put-2.ensures.crash tells site next mid))
