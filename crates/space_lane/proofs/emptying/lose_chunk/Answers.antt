use Rattle.std.proofs.Common.{◌≡◌, ℕ, List, [], ◌∷◌, arith, ap, sym, subst, ◌∙◌}
use Rattle.site_disk.specs.Bytes.{written}
use Rattle.site_disk.specs.CallsLaws.{on_ok}
use Rattle.gated_slots.specs.Header.{IsClosed}
use Rattle.space_lane.proofs.ClosingLemmas.{close_loses, sync_loses}
use Rattle.space_lane.proofs.emptying.lose_chunk.Goals as goal

pub returns-clause-bytes : goal.returns-clause-bytes
returns-clause-bytes g c tells =
    on_ok c.header_close.result (λ wrote. wrote ∙ ap (λ (l : List ℕ). written 0 (0 ∷ []) l) c.in_ok-sync.ensures.bytes) (c.header_close.ensures.written tells)

pub returns-clause-closed : goal.returns-clause-closed
returns-clause-closed g c tells =
    let last : (g.D.Disk.ledger c.sync.new.self).last ≡ c.args.era.now.number = c.sync.ensures.ledger.last in
    c.header_close.ensures.closed tells (λ closed f b lt image. subst IsClosed (sym (c.in_ok-sync.ensures.durable tells f b (omega (arith, lt, last)) image)) closed)

pub returns-clause-durable : goal.returns-clause-durable
returns-clause-durable g c tells =
    let last : (g.D.Disk.ledger c.sync.new.self).last ≡ c.args.era.now.number = c.sync.ensures.ledger.last in
    c.header_close.ensures.durable tells (λ closed f b lt image. c.in_ok-sync.ensures.durable tells f b (omega (arith, lt, last)) image)

pub returns-in_err-sync-clause-crash : goal.returns-in_err-sync-clause-crash
returns-in_err-sync-clause-crash g c tells = sync_loses c.args.era.now.number (g.D.Disk.image c.args.disk.now) (g.D.Disk.image c.sync.new.self) c.sync.ensures.crash

pub returns-clause-crash : goal.returns-clause-crash
returns-clause-crash g c tells =
    let e : ℕ = c.args.era.now.number in
    let disk = c.args.disk.now in
    let old = g.D.Disk.image disk in
    let synced = g.D.Disk.image c.sync.new.self in
    close_loses e old (g.D.Disk.bytes c.sync.new.self) synced (g.D.Disk.image c.header_close.new.disk) (sync_loses e old synced c.sync.ensures.crash) (c.in_ok-sync.ensures.durable tells)
    (λ f lt. subst (λ (l : List ℕ). old f l) (sym c.in_ok-sync.ensures.bytes) (g.met.D.Disk.reads_as disk f tells (omega (arith, lt, c.requires.not_past))))
    c.header_close.ensures.crash (c.header_close.ensures.still tells)
