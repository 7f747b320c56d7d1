use Rattle.std.proofs.Common.{◌<◌, ℕ, List, length, get_or, map, arith, refl, subst}
use Rattle.std.proofs.Math.ListN.{drop_of_length-le}
use Rattle.site_disk.specs.CallsLaws.{uses_both, uses_nothing}
use Rattle.site_disk.specs.ImagesLaws.{begins}
use Rattle.txn_table.specs.Table.{change_of}
use Rattle.before_images.specs.Saved.{Within}
use Rattle.lane_ways.specs.Pictures.{pages_at}
use Rattle.lane_steps.proofs.StandLemmas.{StandInTurn, in_turn_first, in_turn_last}
use Rattle.lane_steps.proofs.WritingLemmas.{crash_more, stand_more, within_more, within_none}
use Rattle.lane_steps.proofs.writing.write_pages.Goals as goal

pub loop-page-init : goal.loop-page-init
loop-page-init g c = record {
  stand = λ tells all lays stand. in_turn_first c.args.space c.args.pages.now (map change_of c.args.changes.now) all (g.D.Disk.bytes c.args.disk.now) lays stand;
  within = λ tells limit below. within_none limit c.args.pages.now (g.D.Disk.bytes c.args.disk.now);
  longer = λ tells. omega arith;
  crash = λ limit below. begins (Within pages_at limit c.args.pages.now) (Within pages_at limit c.args.pages.now) c.args.era.now.number (g.D.Disk.image c.args.disk.now) (g.D.Disk.image c.args.disk.now) (g.D.Disk.image c.args.disk.now)
      (within_none limit c.args.pages.now);
  uses = uses_nothing c.requires.era;
}

pub returns-in_err-bring_page-clause-crash : goal.returns-in_err-bring_page-clause-crash
returns-in_err-bring_page-clause-crash g c limit below =
    crash_more limit c.loop-page.page-index _ c.args.era.now.number c.args.pages.now (g.D.Disk.image c.args.disk.now) (g.D.Disk.image c.loop-page.disk) (g.D.Disk.image c.bring_page.new.disk)
    c.loop-page-test.true refl below (c.loop-page.invariant.crash limit below) c.bring_page.ensures.crash

pub loop-page-preserved : goal.loop-page-preserved
loop-page-preserved g c =
    let i = c.loop-page.page-index in
    let pages = c.args.pages.now in
    let changes = map change_of c.args.changes.now in
    let mid = g.D.Disk.bytes c.loop-page.disk in
    let new = g.D.Disk.bytes c.bring_page.new.disk in
    let so_far = c.loop-page.invariant in
    let lt : i < length pages = c.loop-page-test.true in
    record {
      stand = λ tells all lays stand. stand_more c.args.space i pages changes all mid new lt c.requires.distinct (c.in_ok-bring_page.ensures.others tells)
          (c.in_ok-bring_page.ensures.brought tells lays.lie) (so_far.stand tells all lays stand);
      within = λ tells limit below. within_more limit i pages (g.D.Disk.bytes c.args.disk.now) mid new lt below (so_far.within tells limit below) (c.in_ok-bring_page.ensures.others tells);
      longer = λ tells. omega (arith, so_far.longer tells, (c.in_ok-bring_page.ensures.others tells).no_shorter);
      crash = λ limit below. crash_more limit i (get_or pages i 0) c.args.era.now.number pages (g.D.Disk.image c.args.disk.now) (g.D.Disk.image c.loop-page.disk) (g.D.Disk.image c.bring_page.new.disk)
          lt refl below (so_far.crash limit below) c.bring_page.ensures.crash;
      uses = uses_both so_far.uses c.bring_page.ensures.ledger (omega arith) (omega arith);
    }

pub returns-clause-brought : goal.returns-clause-brought
returns-clause-brought g c tells all lays stand =
    let changes = map change_of c.args.changes.now in
    let bytes = g.D.Disk.bytes c.loop-page.disk in
    in_turn_last c.args.space changes all bytes
    (subst (λ (l : List ℕ). StandInTurn c.args.space l changes all bytes) (drop_of_length-le c.args.pages.now c.loop-page-test.false) (c.loop-page.invariant.stand tells all lays stand))
