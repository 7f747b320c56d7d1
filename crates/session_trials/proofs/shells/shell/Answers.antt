use Rattle.site_formatting.proofs.TouchLemmas.{store_may_of}
use Rattle.session_trials.proofs.shells.shell.Goals as goal

pub xbsa_shell-status-requires-clause-may : goal.xbsa_shell-status-requires-clause-may
xbsa_shell-status-requires-clause-may c = store_may_of Rattle.site_disk.specs.contracts.memory.disk.MemDiskDisk.TheImpl.ghosts _ c.in_ok-site.site c.in_ok-site.ensures.may
