use Rattle.site_core.proofs.MadeLemmas.{named_given}
use Rattle.site_core.proofs.site.Site.new.Goals as goal

pub returns-clause-disks : goal.returns-clause-disks
returns-clause-disks g c =
    named_given (record { store = c.in_ok-store.store; boot = c.new.result; log = c.new-2.result; lanes = c.in_ok-lanes.lanes }) c.args.disks c.in_ok-store.ensures.cat c.in_ok-store.ensures.spare
    c.new.ensures.disk c.new-2.ensures.disk c.in_ok-store.ensures.disks c.in_ok-lanes.ensures.disks
