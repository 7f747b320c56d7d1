use Rattle.host_disk.specs.Files.{file_ledger}
use Rattle.host_folder.proofs.DisksLemmas.{site_may, new_may}
use Rattle.host_folder.proofs.opening.open_files.Goals as goal

-- each disk has the era's key, and was last used in it
pub returns-clause-may : goal.returns-clause-may
returns-clause-may g c =
    site_may Rattle.host_disk.specs.contracts.file.FileDiskDisk.TheImpl.ghosts c.args.era.now c.in_ok-new.field-0
    (record {
      cat = c.in_ok-open_held.field-0;
      spare = c.in_ok-open_disk.field-0;
      boot = c.in_ok-open_disk-2.field-0;
      log = c.in_ok-open_disk-3.field-0;
      volumes = c.in_ok-open_volumes.field-0;
      chunks = c.in_ok-open_chunks.field-0;
    })
    c.in_ok-new.ensures.disks
    (new_may (file_ledger c.in_ok-open_held.field-0) c.args.era.now c.in_ok-open_held.ensures)
    (new_may (file_ledger c.in_ok-open_disk.field-0) c.args.era.now c.in_ok-open_disk.ensures)
    (new_may (file_ledger c.in_ok-open_disk-2.field-0) c.args.era.now c.in_ok-open_disk-2.ensures)
    (new_may (file_ledger c.in_ok-open_disk-3.field-0) c.args.era.now c.in_ok-open_disk-3.ensures)
    c.in_ok-open_volumes.ensures.may
    c.in_ok-open_chunks.ensures.may
