use Rattle.site_disk.specs.CallsLaws.{both_on_ok}
use Rattle.site_disk.specs.Seen.{seen}
use Rattle.space_lane.proofs.LaneLemmas.{stands_on}
use Rattle.space_lane.proofs.lane.Lane.read_page.Goals as goal

pub returns-clause-stands : goal.returns-clause-stands
returns-clause-stands g c tells site count state stands =
    let disk = c.read_page.new.disk in
    both_on_ok c.read_page.result
    (λ same images. stands_on site count state (seen g.D.Disk c.args.self.now.disk) (seen g.D.Disk disk) c.args.self.now disk c.read_page.ensures.ledger.no_earlier same images stands)
    c.read_page.ensures.bytes c.read_page.ensures.images
