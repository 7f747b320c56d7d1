use Rattle.space_lane.proofs.PageLemmas.{Emptied}
use Rattle.space_lane.proofs.emptying.write_pages.Given as goal

abbrev pub invariant-loop-page : goal.invariant-loop-page
invariant-loop-page g l =
    Emptied g.D.Disk.is_modelled g.D.Disk.bytes g.D.Disk.image g.D.Disk.ledger l.era l.space l.pages l.page l.initial.disk l.disk
