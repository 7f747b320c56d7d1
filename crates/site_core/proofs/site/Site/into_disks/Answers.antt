use Rattle.std.proofs.Common.{sym}
use Rattle.site_core.proofs.MadeLemmas.{named_given}
use Rattle.site_core.proofs.site.Site.into_disks.Goals as goal

pub returns : goal.returns
returns g c =
    named_given c.args.self
    (record {
      cat = c.into_disks-cat.result.0;
      spare = c.into_disks-cat.result.1;
      boot = c.into_disk.result;
      log = c.into_disk-2.result;
      volumes = c.in_ok-volume_disks.field-0;
      chunks = c.in_ok-lane_disks.field-0;
    })
    (sym c.into_disks-cat.ensures.cat) (sym c.into_disks-cat.ensures.spare) (sym c.into_disk.ensures) (sym c.into_disk-2.ensures) c.in_ok-volume_disks.ensures c.in_ok-lane_disks.ensures
