use Rattle.site_disk.specs.Seen.{seen}
use Rattle.space_lane.proofs.LaneLemmas.{emptied_by}
use Rattle.space_lane.proofs.lane.Lane.empty.Goals as goal

pub returns-clause-emptied : goal.returns-clause-emptied
returns-clause-emptied g c tells closed =
    let is = c.in_ok-empty_chunk.ensures in
    emptied_by c.args.pages (seen g.D.Disk c.args.self.now.disk) (seen g.D.Disk c.empty_chunk.new.disk) c.args.era.now.number closed c.empty_chunk.ensures.ledger.no_earlier
    (is.closed tells) (is.none tells) (is.long tells) (c.empty_chunk.ensures.crash tells closed.now)

pub returns-clause-crash : goal.returns-clause-crash
returns-clause-crash g c tells closed = c.empty_chunk.ensures.crash tells closed.now

pub returns-in_err-empty_chunk-clause-crash : goal.returns-in_err-empty_chunk-clause-crash
returns-in_err-empty_chunk-clause-crash g c tells closed = c.empty_chunk.ensures.crash tells closed.now
