use Rattle.std.proofs.Common.{◌∙◌, sym, subst, ℕ, List}
use Rattle.site_disk.specs.Images.{OnlyAfter}
use Rattle.site_disk.specs.Seen.{seen}
use Rattle.site_disk.specs.SeenLaws.{synced_after}
use Rattle.site_headers.specs.Headers.{HasHeader, log_tail}
use Rattle.log_scan.proofs.FoundLemmas.{found_on}
use Rattle.log_scan.proofs.reading.read_ring.Goals as goal

pub returns-clause-holds : goal.returns-clause-holds
returns-clause-holds g c tells =
    let e : ℕ = c.args.era.now.number in
    let disk = c.has_header.new.disk in
    let bytes = g.D.Disk.bytes c.args.disk.now in
    let first = c.in_ok-sync.ensures in
    let head = c.in_ok-has_header.ensures in
    let only : OnlyAfter e (g.D.Disk.bytes disk) (g.D.Disk.image disk) = λ f x lt image. first.durable tells f x lt (head.images.back f x image) ∙ sym head.bytes in
    let synced = synced_after (seen g.D.Disk disk) e (λ f k x le lt image. g.met.D.Disk.now_counts disk f k x le lt image) head.ledger.no_later only in
    let header : HasHeader (log_tail c.args.site) bytes = subst (λ (b : List ℕ). HasHeader (log_tail c.args.site) b) first.bytes ((head.header tells).0 c.if-not-branch.false) in
    found_on c.args.site bytes (g.D.Disk.bytes disk) c.read_held.result header (head.bytes ∙ first.bytes) (c.read_held.ensures.holds tells synced)
