use Rattle.std.proofs.Common.{map}
use Rattle.txn_table.specs.Table.{change_of}
use Rattle.lane_steps.proofs.WritingLemmas.{WritesSoFar}
use Rattle.lane_steps.proofs.writing.write_pages.Given as goal

abbrev pub invariant-loop-page : goal.invariant-loop-page
invariant-loop-page g l =
    WritesSoFar g.D.Disk.is_modelled g.D.Disk.bytes g.D.Disk.image g.D.Disk.ledger l.era l.space l.pages (map change_of l.changes) l.page-index l.initial.disk l.disk
