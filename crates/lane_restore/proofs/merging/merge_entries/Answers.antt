use Rattle.std.proofs.Common.{◌≡◌, ℕ, ◌≤◌, length, arith, ap, sym, subst, ◌∙◌}
use Rattle.std.proofs.lemmas.Result.{err_from_is_err_and}
use Rattle.site_disk.specs.CallsLaws.{unchanged_again, uses_both}
use Rattle.site_disk.specs.Ledger.{Uses}
use Rattle.before_images.specs.Saved.{place_of}
use Rattle.lane_ways.specs.Pictures.{pages_at}
use Rattle.space_lane.specs.Lanes.{count_of, disk_of as chunk_of, space_of, with_disk as with_chunk}
use Rattle.object_volume.specs.Volumes.{disk_of, with_disk}
use Rattle.lane_restore.proofs.LoopLemmas.{all_on, crash_next, handed_on, left_on, longer_on, long_is, next_takes, pages_on}
use Rattle.lane_restore.proofs.PageLemmas.{pages_last}
use Rattle.lane_restore.proofs.merging.merge_entries.Goals as goal

pub returns-in_err-merge_entry-clause-unsound : goal.returns-in_err-merge_entry-clause-unsound
returns-in_err-merge_entry-clause-unsound g c tells is takes =
    let loop = c.loop-done in
    let p = err_from_is_err_and c.from_residual.result c.from_residual.ensures.1 in
    let next = next_takes g.D.Disk c.args.era.now c.args.image.now c.args.entries c.args.count loop._done c.args.lane.now loop.lane c.args.volume.now loop.volume loop.reader loop.cursor
    loop.invariant c.loop-done-test.true tells takes in
    c.in_err-merge_entry.ensures.unsound tells (handed_on c.from_residual.result c.in_err-merge_entry.field-0.0 _ _ p.1 p.2 is) next.0 next.1

pub returns-in_err-merge_entry-clause-crash : goal.returns-in_err-merge_entry-clause-crash
returns-in_err-merge_entry-clause-crash g c tells window long all are =
    let loop = c.loop-done in
    crash_next g.D.Disk c.args.era.now c.args.image.now c.args.entries c.args.count loop._done c.args.lane.now loop.lane c.args.volume.now loop.volume loop.reader loop.cursor
    loop.invariant c.loop-done-test.true window all are tells long (g.D.Disk.image (chunk_of c.merge_entry.new.lane)) (λ number there has. c.merge_entry.ensures.crash tells number there has)

pub loop-done-preserved : goal.loop-done-preserved
loop-done-preserved g c =
    let loop = c.loop-done in
    let so_far = loop.invariant in
    let turn = c.in_ok-merge_entry.ensures in
    let disk = g.D.Disk in
    let era = c.args.era.now in
    let image = c.args.image.now in
    let count_is : count_of loop.lane ≡ count_of c.args.lane.now = ap (λ l. count_of l) so_far.lane in
    record {
      lane = turn.lane ∙ ap (λ l. with_chunk l (chunk_of c.merge_entry.new.lane)) so_far.lane;
      volume = turn.volume ∙ ap (λ v. with_disk v (disk_of c.merge_entry.new.volume)) so_far.volume;
      begun = turn.reader.begun ∙ so_far.begun;
      head = turn.reader.head ∙ so_far.head;
      pages_are = turn.reader.pages ∙ so_far.pages_are;
      at = omega (arith, turn.cursor, so_far.at);
      stands = turn.stands;
      within = omega (arith, c.loop-done-test.true);
      content = turn.bytes ∙ so_far.content;
      images = unchanged_again so_far.images turn.images;
      left = λ tells takes. left_on disk era image c.args.entries c.args.count loop._done c.args.lane.now loop.lane c.args.volume.now loop.volume loop.reader loop.cursor so_far c.loop-done-test.true
          c.requires.few c.merge_entry.new.lane c.merge_entry.new.volume c.merge_entry.new.reader c.merge_entry.new.cursor turn.reader turn.taken tells takes;
      all = λ tells rest. all_on disk era image c.args.entries c.args.count loop._done c.args.lane.now loop.lane c.args.volume.now loop.volume loop.reader loop.cursor so_far c.loop-done-test.true
          c.requires.few c.merge_entry.new.lane c.merge_entry.new.volume c.merge_entry.new.reader c.merge_entry.new.cursor turn.reader turn.taken tells rest;
      agrees = λ tells site pages state agrees. turn.agrees tells site pages state (so_far.agrees tells site pages state agrees);
      longer = λ tells long. longer_on disk era image c.args.entries c.args.count loop._done c.args.lane.now loop.lane c.args.volume.now loop.volume loop.reader loop.cursor so_far c.loop-done-test.true
          c.requires.few c.merge_entry.new.lane c.merge_entry.new.volume c.merge_entry.new.reader c.merge_entry.new.cursor turn.reader turn.taken tells long;
      pages = λ tells pages window long all are pages_are. pages_on disk era image c.args.entries c.args.count loop._done c.args.lane.now loop.lane c.args.volume.now loop.volume loop.reader loop.cursor so_far c.loop-done-test.true
          c.requires.few c.merge_entry.new.lane c.merge_entry.new.volume c.merge_entry.new.reader c.merge_entry.new.cursor turn.reader turn.taken tells long c.requires.space pages window all are pages_are;
      crash = λ tells window long all are. crash_next disk era image c.args.entries c.args.count loop._done c.args.lane.now loop.lane c.args.volume.now loop.volume loop.reader loop.cursor
          so_far c.loop-done-test.true window all are tells long (g.D.Disk.image (chunk_of c.merge_entry.new.lane)) (λ number there has. c.merge_entry.ensures.crash tells number there has);
      chunk = uses_both so_far.chunk
          (subst (λ (n : ℕ). Uses era 0 (place_of pages_at n) (disk.ledger (chunk_of loop.lane)) (disk.ledger (chunk_of c.merge_entry.new.lane))) count_is turn.chunk) (omega arith) (omega arith);
      bound = λ tells long.
          let there : place_of pages_at (count_of loop.lane) ≤ length (disk.bytes (chunk_of loop.lane)) =
          long_is disk era image c.args.entries c.args.count loop._done c.args.lane.now loop.lane c.args.volume.now loop.volume loop.reader loop.cursor so_far c.loop-done-test.true tells long in
          omega (arith, so_far.bound tells long, turn.bound tells there);
      uses = uses_both so_far.uses turn.ledger (omega arith) (omega arith);
    }

pub returns-clause-pages : goal.returns-clause-pages
returns-clause-pages g c tells was window long all are pages_are number lt apart =
    let loop = c.loop-done in
    let so_far = loop.invariant in
    let n = count_of c.args.lane.now in
    let space = space_of c.args.lane.now in
    let bytes = g.D.Disk.bytes (chunk_of loop.lane) in
    let whole : loop._done ≡ c.args.count = omega (arith, so_far.within, c.loop-done-test.false) in
    pages_last space n loop._done was window bytes (all ∙ sym whole) (so_far.pages tells was window long all are pages_are) number lt apart
