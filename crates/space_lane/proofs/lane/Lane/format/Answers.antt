use Rattle.std.proofs.Common.{ℕ, arith}
use Rattle.site_disk.specs.CallsLaws.{on_ok}
use Rattle.site_disk.specs.Seen.{seen}
use Rattle.space_lane.specs.Lanes.{IsEmptied}
use Rattle.space_lane.proofs.LaneLemmas.{empty_stand, emptied_by}
use Rattle.space_lane.proofs.StateLemmas.{cause_after, empty_formats, lose_formats, reopen_formats}
use Rattle.space_lane.proofs.lane.Lane.format.Goals as goal

pub returns-in_err-lose_chunk-clause-crash : goal.returns-in_err-lose_chunk-clause-crash
returns-in_err-lose_chunk-clause-crash g c tells =
    lose_formats c.args.site c.args.self.now.space c.args.pages c.args.state.now c.args.era.now.number (g.D.Disk.image c.args.self.now.disk) (g.D.Disk.image c.lose_chunk.new.disk)
    (c.lose_chunk.ensures.crash tells)

pub returns-in_err-empty_chunk-clause-crash : goal.returns-in_err-empty_chunk-clause-crash
returns-in_err-empty_chunk-clause-crash g c tells =
    let e : ℕ = c.args.era.now.number in
    let lane = c.args.self.now in
    let disk = lane.disk in
    let old = g.D.Disk.image disk in
    let lost = g.D.Disk.bytes c.lose_chunk.new.disk in
    let mid = g.D.Disk.image c.lose_chunk.new.disk in
    let closed = c.in_ok-lose_chunk.ensures.closed tells in
    empty_formats c.args.site lane.space c.args.pages c.args.state.now e old (g.D.Disk.bytes disk) lost mid (g.D.Disk.image c.empty_chunk.new.disk)
    (lose_formats c.args.site lane.space c.args.pages c.args.state.now e old mid (c.lose_chunk.ensures.crash tells)) (c.in_ok-lose_chunk.ensures.durable tells)
    (λ f lt. g.met.D.Disk.reads_as disk f tells (omega (arith, lt, c.requires.era.not_past))) closed.now (c.empty_chunk.ensures.crash tells closed.now)

pub returns-clause-crash : goal.returns-clause-crash
returns-clause-crash g c tells =
    let e : ℕ = c.args.era.now.number in
    let lane = c.args.self.now in
    let disk = lane.disk in
    let old = g.D.Disk.image disk in
    let lost = g.D.Disk.bytes c.lose_chunk.new.disk in
    let mid = g.D.Disk.image c.lose_chunk.new.disk in
    let closed = c.in_ok-lose_chunk.ensures.closed tells in
    let is = c.in_ok-empty_chunk.ensures in
    let emptied : IsEmptied c.args.pages (seen g.D.Disk c.empty_chunk.new.disk) =
    emptied_by c.args.pages (seen g.D.Disk c.lose_chunk.new.disk) (seen g.D.Disk c.empty_chunk.new.disk) e closed c.empty_chunk.ensures.ledger.no_earlier
    (is.closed tells) (is.none tells) (is.long tells) (c.empty_chunk.ensures.crash tells closed.now) in
    reopen_formats c.args.site lane.space c.args.pages c.args.state.now (g.D.Disk.bytes c.empty_chunk.new.disk) e old (g.D.Disk.image c.empty_chunk.new.disk) (g.D.Disk.image c.reopen.new.self.disk)
    (is.pages tells)
    (empty_formats c.args.site lane.space c.args.pages c.args.state.now e old (g.D.Disk.bytes disk) lost mid (g.D.Disk.image c.empty_chunk.new.disk)
    (lose_formats c.args.site lane.space c.args.pages c.args.state.now e old mid (c.lose_chunk.ensures.crash tells)) (c.in_ok-lose_chunk.ensures.durable tells)
    (λ f lt. g.met.D.Disk.reads_as disk f tells (omega (arith, lt, c.requires.era.not_past))) closed.now (c.empty_chunk.ensures.crash tells closed.now))
    (c.reopen.ensures.crash tells emptied)

pub returns-clause-stands : goal.returns-clause-stands
returns-clause-stands g c tells =
    let closed = c.in_ok-lose_chunk.ensures.closed tells in
    let is = c.in_ok-empty_chunk.ensures in
    c.reopen.ensures.stands tells
    (emptied_by c.args.pages (seen g.D.Disk c.lose_chunk.new.disk) (seen g.D.Disk c.empty_chunk.new.disk) c.args.era.now.number closed c.empty_chunk.ensures.ledger.no_earlier
    (is.closed tells) (is.none tells) (is.long tells) (c.empty_chunk.ensures.crash tells closed.now))

pub returns-clause-pages : goal.returns-clause-pages
returns-clause-pages g c tells =
    let closed = c.in_ok-lose_chunk.ensures.closed tells in
    let is = c.in_ok-empty_chunk.ensures in
    on_ok c.reopen.result
    (λ same. empty_stand c.args.self.now.space c.args.pages (g.D.Disk.bytes c.empty_chunk.new.disk) (g.D.Disk.bytes c.reopen.new.self.disk) same (is.pages tells))
    (c.reopen.ensures.pages tells
    (emptied_by c.args.pages (seen g.D.Disk c.lose_chunk.new.disk) (seen g.D.Disk c.empty_chunk.new.disk) c.args.era.now.number closed c.empty_chunk.ensures.ledger.no_earlier
    (is.closed tells) (is.none tells) (is.long tells) (c.empty_chunk.ensures.crash tells closed.now)))

pub returns-clause-cause : goal.returns-clause-cause
returns-clause-cause g c =
    cause_after (g.D.Disk.ledger c.args.self.now.disk).faults (g.D.Disk.ledger c.empty_chunk.new.disk).faults (g.D.Disk.ledger c.reopen.new.self.disk).faults c.reopen.result
    (omega (arith, c.lose_chunk.ensures.cause.later, c.empty_chunk.ensures.cause.later)) c.reopen.ensures.cause
