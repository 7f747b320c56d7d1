use Rattle.before_images.proofs.Copying.{Put}
use Rattle.before_images.proofs.pages.put_pages.Given as goal

abbrev pub invariant-loop-i : goal.invariant-loop-i
invariant-loop-i g l = Put g.D.Disk.is_modelled g.D.Disk.bytes g.D.Disk.image g.D.Disk.ledger l.era l.pages_at l.head l.images l.count l.i l.initial.disk l.disk
