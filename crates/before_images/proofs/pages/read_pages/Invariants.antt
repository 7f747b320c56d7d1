use Rattle.before_images.proofs.Copying.{ReadSoFar}
use Rattle.before_images.proofs.pages.read_pages.Given as goal

abbrev pub invariant-loop-i : goal.invariant-loop-i
invariant-loop-i g l = ReadSoFar g.D.Disk.is_modelled g.D.Disk.bytes g.D.Disk.image g.D.Disk.ledger l.era l.pages_at l.pages l.i l.fn.region l.region l.initial.disk l.disk
