use Rattle.std.proofs.Common.{◌≡◌, ℕ, List, length, arith, ap, sym, subst}
use Rattle.site_disk.specs.Images.{IsSynced}
use Rattle.site_disk.specs.Seen.{seen}
use Rattle.site_disk.specs.SeenLaws.{synced_after}
use Rattle.site_headers.specs.Headers.{HasHeader}
use Rattle.space_lane.specs.Chunks.{chunk_tail}
use Rattle.space_lane.proofs.LaneLemmas.{always, restores_after, same_restores}
use Rattle.space_lane.proofs.lane.Lane.open.Goals as goal

pub returns-then-not-branch-clause-crash : goal.returns-then-not-branch-clause-crash
returns-then-not-branch-clause-crash g c tells long =
    same_restores c.args.pages c.args.era.now.number (g.D.Disk.image c.args.self.now.disk) (g.D.Disk.image c.has_header.new.disk) c.has_header.ensures.crash

pub returns-clause-header : goal.returns-clause-header
returns-clause-header g c tells = always c.load.result ((c.in_ok-has_header.ensures.found tells).0 c.if-not-branch.false)

pub returns-clause-stands : goal.returns-clause-stands
returns-clause-stands g c tells long =
    let mid = c.has_header.new.disk in
    let lane = c.args.self.now in
    let same : g.D.Disk.bytes mid ≡ g.D.Disk.bytes lane.disk = c.in_ok-has_header.ensures.bytes in
    let synced : IsSynced (seen g.D.Disk mid) =
    synced_after (seen g.D.Disk mid) c.args.era.now.number (g.met.D.Disk.now_counts mid) c.has_header.ensures.ledger.no_later (c.in_ok-has_header.ensures.durable tells) in
    c.load.ensures.stands tells synced c.args.site
    (subst (λ (l : List ℕ). HasHeader (chunk_tail c.args.site lane.space c.args.pages) l) (sym same) ((c.in_ok-has_header.ensures.found tells).0 c.if-not-branch.false))
    (omega (arith, long, ap (λ (l : List ℕ). length l) same))

pub returns-clause-crash : goal.returns-clause-crash
returns-clause-crash g c tells long =
    let e : ℕ = c.args.era.now.number in
    let mid = c.has_header.new.disk in
    let lane = c.args.self.now in
    let same : g.D.Disk.bytes mid ≡ g.D.Disk.bytes lane.disk = c.in_ok-has_header.ensures.bytes in
    let synced : IsSynced (seen g.D.Disk mid) =
    synced_after (seen g.D.Disk mid) e (g.met.D.Disk.now_counts mid) c.has_header.ensures.ledger.no_later (c.in_ok-has_header.ensures.durable tells) in
    restores_after c.args.pages e (g.D.Disk.image lane.disk) (g.D.Disk.image mid) (g.D.Disk.image c.load.new.self.disk) c.has_header.ensures.crash
    (c.load.ensures.crash tells (omega (arith, long, ap (λ (l : List ℕ). length l) same)) synced)

pub returns-clause-unheaded : goal.returns-clause-unheaded
returns-clause-unheaded g c tells none = absurd (none ((c.in_ok-has_header.ensures.found tells).0 c.if-not-branch.false))
