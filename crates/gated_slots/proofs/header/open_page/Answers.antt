use Rattle.std.proofs.Common.{ℕ, List, drop, arith, subst, ap, ◌∙◌}
use Rattle.std.proofs.lemmas.List.{take_rest}
use Rattle.site_disk.specs.Bytes.{filled}
use Rattle.site_disk.specs.Images.{Leaves}
use Rattle.site_disk.specs.ImagesLaws.{weaker}
use Rattle.gated_slots.specs.Header.{MayOpen}
use Rattle.gated_slots.specs.HeaderLaws.{filled_page_written, may_open}
use Rattle.gated_slots.specs.Writes.{with_batch, MayAdd}
use Rattle.site_disk.specs.CallsLaws.{on_ok}
use Rattle.gated_slots.proofs.header.open_page.Goals as goal

pub returns-clause-written : goal.returns-clause-written
returns-clause-written g c tells =
    let old = g.D.Disk.bytes c.args.disk.now in
    on_ok c.add_batch.result
    (λ is. is ∙ ap (λ (l : List ℕ). with_batch 1 l 0 (filled 1 old)) (take_rest c.args.page.now 1) ∙ filled_page_written (drop 1 c.args.page.now) old)
    (c.add_batch.ensures.bytes tells)

pub returns-clause-crash : goal.returns-clause-crash
returns-clause-crash g c tells stands =
    let e = c.args.era.now.number in
    let page = c.args.page.now in
    let old = g.D.Disk.image c.args.disk.now in
    let new = g.D.Disk.image c.add_batch.new.disk in
    weaker (MayOpen page) (MayAdd 1 (drop 1 page) 0) e old old new
    (subst (λ (l : List ℕ). Leaves e (MayAdd 1 l 0) old new) (take_rest page 1) (c.add_batch.ensures.crash tells stands.now.some))
    (λ f d b lt image may. may_open page d b c.requires.page (stands.later f d (omega arith) image) may)
