use Rattle.trial_site.proofs.DisksLemmas.{if_made}
use Rattle.trial_site.proofs.disks.site_of.Goals as goal

-- each disk may be used in the era that it was made in
pub returns-clause-may : goal.returns-clause-may
returns-clause-may c =
    if_made Rattle.site_disk.specs.contracts.memory.disk.MemDiskDisk.TheImpl.ghosts c.args.era.now c.new.result
    (record {
      cat = c.in_ok-disk_of.field-0;
      spare = c.in_ok-disk_of-2.field-0;
      boot = c.in_ok-disk_of-3.field-0;
      log = c.in_ok-disk_of-4.field-0;
      volumes = c.in_ok-volumes_of.field-0;
      chunks = c.in_ok-chunks_of.field-0;
    })
    c.new.ensures.disks
    c.in_ok-disk_of.ensures c.in_ok-disk_of-2.ensures c.in_ok-disk_of-3.ensures c.in_ok-disk_of-4.ensures
    c.in_ok-volumes_of.ensures.may c.in_ok-chunks_of.ensures.may
