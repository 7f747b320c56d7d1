use Rattle.std.proofs.Common.{◌≡◌, ap, ◌∙◌}
use Rattle.std.proofs.lemmas.Result.{err_from_is_err_and}
use Rattle.plain_pages.specs.Page.{page_of}
use Rattle.page_texts.specs.Texts.{page_text}
use Rattle.lane_texts.proofs.PageLemmas.{found_bytes, found_stamp, held_page}
use Rattle.lane_texts.proofs.TextLemmas.{not_refused}
use Rattle.lane_texts.proofs.texts.page_text.Goals as goal

pub returns-in_err-read_page-clause-no_refusal : goal.returns-in_err-read_page-clause-no_refusal
returns-in_err-read_page-clause-no_refusal g c tells pages holds =
    let lane = c.args.lane.now in
    let bytes = g.D.Disk.bytes lane.disk in
    let p = err_from_is_err_and c.from_residual.result c.from_residual.ensures.1 in
    rw (p.1, p.2)
    (not_refused lane.space c.args.number bytes c.in_err-read_page.field-0.0
    (held_page lane.space lane.pages pages bytes holds c.args.number c.requires.number) (c.in_err-read_page.ensures.bad tells))

pub returns-clause-text : goal.returns-clause-text
returns-clause-text g c tells pages page holds found =
    let lane = c.args.lane.now in
    let bytes = g.D.Disk.bytes lane.disk in
    let same : page_of c.decode_page.result ≡ page =
    c.decode_page.ensures.only lane.space c.args.number page
    (found_stamp lane.space lane.pages pages bytes holds c.args.number c.requires.number page found)
    (c.in_ok-read_page.ensures.found tells ∙ found_bytes lane.space lane.pages pages bytes holds c.args.number c.requires.number page found) in
    c.in_ok-page_text.ensures ∙ ap (page_text c.args.name.now c.args.number) same
