use Rattle.std.proofs.Common.{◌≤◌, ◌<◌, ℕ, length, arith}
use Rattle.site_disk.specs.CallsLaws.{on_ok}
use Rattle.site_disk.specs.Seen.{seen}
use Rattle.before_images.specs.Saved.{place_of}
use Rattle.lane_ways.specs.Pictures.{pages_at}
use Rattle.space_lane.proofs.LaneLemmas.{agrees_put, emptied_put}
use Rattle.space_lane.proofs.lane.Lane.put_page.Goals as goal

within : (page count len : ℕ) → page < count → place_of pages_at count ≤ len → place_of pages_at page ≤ len
within page count len lt le = omega (arith, lt, le)

pub returns-clause-agrees : goal.returns-clause-agrees
returns-clause-agrees g c tells site count state agrees =
    let lane = c.args.self.now in
    let old = g.D.Disk.bytes lane.disk in
    let new = g.D.Disk.bytes c.put_page.new.disk in
    let lt : c.args.page < count = omega (arith, c.requires.page, agrees.tells.pages_are) in
    on_ok c.put_page.result (λ wrote. agrees_put site count c.args.page state c.args.bytes.now old new lane c.put_page.new.disk c.requires.page wrote agrees)
    (c.put_page.ensures.bytes tells (within c.args.page count (length old) lt agrees.holds.long))

pub returns-clause-emptied : goal.returns-clause-emptied
returns-clause-emptied g c tells count lt emptied =
    let disk = seen g.D.Disk c.args.self.now.disk in
    let place = within c.args.page count (length disk.bytes) lt emptied.long in
    on_ok c.put_page.result
    (λ wrote. emptied_put count c.args.page c.args.bytes.now disk (seen g.D.Disk c.put_page.new.disk) c.args.era.now.number lt c.put_page.ensures.ledger.no_earlier wrote
    (c.put_page.ensures.crash tells place) emptied)
    (c.put_page.ensures.bytes tells place)
