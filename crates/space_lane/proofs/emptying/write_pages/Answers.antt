use Rattle.std.proofs.Common.{◌≡◌, ◌<◌, ◌≤◌, ◌+◌, ◌*◌, ℕ, List, length, arith, sym, subst}
use Rattle.site_disk.specs.Bytes.{Torn}
use Rattle.site_disk.specs.BytesLaws.{torn_none}
use Rattle.site_disk.specs.CallsLaws.{torn_within, uses_nothing, uses_write}
use Rattle.site_disk.specs.ImagesLaws.{begins}
use Rattle.before_images.specs.Saved.{place_of}
use Rattle.space_pages.specs.Pages.{empty_pages}
use Rattle.lane_ways.specs.Pictures.{Stand, pages_at}
use Rattle.space_lane.proofs.PageLemmas.{empty_more, long_more, torn_more}
use Rattle.space_lane.proofs.emptying.write_pages.Goals as goal

pub loop-page-init : goal.loop-page-init
loop-page-init g c =
    let old = g.D.Disk.image c.args.disk.now in
    let torn : ℕ = 4096 * c.args.pages in
    record {
      stand = λ tells. tt;
      long = λ tells. omega (arith, c.requires.within tells);
      torn = λ tells. torn_none pages_at torn (g.D.Disk.bytes c.args.disk.now);
      crash = begins (Torn pages_at torn) (Torn pages_at torn) c.args.era.now.number old old old (torn_none pages_at torn);
      uses = uses_nothing c.requires.era;
    }

pub loop-page-preserved : goal.loop-page-preserved
loop-page-preserved g c =
    let so_far = c.loop-page.invariant in
    let page = c.loop-page.page in
    let at = c.place_of.result in
    let place : at ≡ place_of pages_at page = c.place_of.ensures in
    let piece = c.write_empty_page.new.bytes in
    let size : length piece ≡ 4096 = omega arith in
    let is = c.write_empty_page.ensures in
    let mid = g.D.Disk.bytes c.loop-page.disk in
    let lt : page < c.args.pages = omega arith in
    record {
      stand = λ tells. subst (λ (l : List ℕ). Stand c.args.space 0 (empty_pages (page + 1)) l) (sym (c.in_ok-write_at.ensures.bytes tells))
          (empty_more c.args.space page at piece mid place size is (so_far.long tells) (so_far.stand tells));
      long = λ tells. subst (λ (l : List ℕ). place_of pages_at (page + 1) ≤ length l) (sym (c.in_ok-write_at.ensures.bytes tells))
          (long_more c.args.space page at piece mid place size is (so_far.long tells));
      torn = λ tells. subst (λ (l : List ℕ). Torn pages_at (4096 * c.args.pages) (g.D.Disk.bytes c.args.disk.now) l) (sym (c.in_ok-write_at.ensures.bytes tells))
          (torn_more c.args.space page at piece mid place size is (so_far.long tells) c.args.pages (g.D.Disk.bytes c.args.disk.now) lt (so_far.torn tells));
      crash = torn_within pages_at (4096 * c.args.pages) at (length piece) c.args.era.now.number
          (g.D.Disk.image c.args.disk.now) (g.D.Disk.image c.loop-page.disk) (g.D.Disk.image c.write_at.new.self)
          (omega (arith, place)) (omega (arith, place, size, lt)) so_far.crash c.write_at.ensures.crash;
      uses = uses_write so_far.uses c.write_at.ensures.ledger c.write_at.ensures.cause.later (omega (arith, size));
    }

pub returns-clause-pages : goal.returns-clause-pages
returns-clause-pages g c tells =
    let all : c.loop-page.page ≡ c.args.pages = omega arith in
    subst (λ (k : ℕ). Stand c.args.space 0 (empty_pages k) (g.D.Disk.bytes c.loop-page.disk)) all (c.loop-page.invariant.stand tells)

pub returns-clause-long : goal.returns-clause-long
returns-clause-long g c tells =
    let all : c.loop-page.page ≡ c.args.pages = omega arith in
    subst (λ (k : ℕ). place_of pages_at k ≤ length (g.D.Disk.bytes c.loop-page.disk)) all (c.loop-page.invariant.long tells)
