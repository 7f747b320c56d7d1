use Rattle.site_formatting.proofs.TouchLemmas.{store_may_of}
use Rattle.xbsash_main.proofs.run.Goals as goal

pub xbsa_shell-status-requires-clause-may : goal.xbsa_shell-status-requires-clause-may
xbsa_shell-status-requires-clause-may g c = store_may_of Rattle.host_disk.specs.contracts.file.FileDiskDisk.TheImpl.ghosts _ c.in_ok-site.site c.in_ok-site.ensures.may
