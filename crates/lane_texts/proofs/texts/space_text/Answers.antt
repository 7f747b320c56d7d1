use Rattle.std.proofs.Common.{◌≡◌, ◌<◌, ℕ, List, length, take, get_or, arith, refl, sym, ap, subst, ◌∙◌, length-take}
use Rattle.std.proofs.lemmas.List.{take_more}
use Rattle.std.proofs.lemmas.Result.{err_from_is_err_and}
use Rattle.log_history.specs.Effects.{Page, empty_page}
use Rattle.site_disk.specs.CallsLaws.{uses_again, uses_nothing}
use Rattle.space_lane.specs.Chunks.{page_at}
use Rattle.space_lane.specs.Lanes.{with_disk, space_of}
use Rattle.lane_texts.specs.Listings.{Lists}
use Rattle.lane_texts.proofs.PageLemmas.{held_bytes, held_page, held_stamp, within}
use Rattle.lane_texts.proofs.TextLemmas.{not_refused, page_read, pages_more, refuses_still, reads_again, reads_nothing}
use Rattle.lane_texts.proofs.texts.space_text.Goals as goal

pub loop-number-init : goal.loop-number-init
loop-number-init g c = record {
  value = refl;
  reads = reads_nothing g.D.Disk c.args.lane.now.disk;
  uses = uses_nothing c.requires.era;
  counted = omega arith;
  pages = λ tells number lt. absurd (omega (arith, lt));
  lists = λ tells pages holds. c.new-listing.ensures.lists c.args.lane.now.space c.args.name.now;
}

pub returns-in_err-read_page-clause-no_refusal : goal.returns-in_err-read_page-clause-no_refusal
returns-in_err-read_page-clause-no_refusal g c tells pages holds =
    let so_far = c.loop-number.invariant in
    let lane = c.args.lane.now in
    let mid = c.loop-number.lane in
    let number = c.loop-number.number in
    let bytes = g.D.Disk.bytes lane.disk in
    let fault = c.in_err-read_page.field-0.0 in
    let p = err_from_is_err_and c.from_residual.result c.from_residual.ensures.1 in
    rw (p.1, p.2)
    (not_refused lane.space number bytes fault (held_page lane.space c.args.count pages bytes holds number c.loop-number-test.true)
    (refuses_still lane.space mid.space number bytes (g.D.Disk.bytes mid.disk) fault (ap space_of so_far.value) so_far.reads.bytes (c.in_err-read_page.ensures.bad tells)))

pub loop-number-preserved : goal.loop-number-preserved
loop-number-preserved g c =
    let so_far = c.loop-number.invariant in
    let lane = c.args.lane.now in
    let mid = c.loop-number.lane in
    let number : ℕ = c.loop-number.number in
    let bytes = g.D.Disk.bytes lane.disk in
    let now = g.D.Disk.bytes mid.disk in
    let into = c.read_page.new.into in
    let space : mid.space ≡ lane.space = ap space_of so_far.value in
    record {
      value = c.in_ok-read_page.ensures.value ∙ ap (λ l. with_disk l c.read_page.new.lane.disk) so_far.value;
      reads = reads_again g.D.Disk lane.disk mid.disk c.read_page.new.lane.disk so_far.reads c.in_ok-read_page.ensures.reads;
      uses = uses_again so_far.uses c.in_ok-read_page.ensures.ledger (omega arith);
      counted = c.in_ok-add.ensures.used;
      pages = λ tells. pages_more lane.space number bytes (so_far.pages tells)
          (page_read lane.space mid.space number bytes now into space so_far.reads.bytes (c.in_ok-read_page.ensures.found tells) c.in_ok-read_page.ensures.page);
      lists = λ tells pages holds.
          let lt : number < length pages = within lane.space c.args.count pages bytes holds number c.loop-number-test.true in
          subst (λ (front : List Page). Lists lane.space c.args.name.now front c.add.new.self) (sym (take_more pages number empty_page lt))
          (c.in_ok-add.ensures.lists lane.space (take number pages) (get_or pages number empty_page) (omega (arith, length-take number pages, lt))
          (held_stamp lane.space c.args.count pages bytes holds number c.loop-number-test.true)
          (c.in_ok-read_page.ensures.found tells ∙ ap (page_at number) so_far.reads.bytes ∙ held_bytes lane.space c.args.count pages bytes holds number c.loop-number-test.true)
          (so_far.lists tells pages holds));
    }
