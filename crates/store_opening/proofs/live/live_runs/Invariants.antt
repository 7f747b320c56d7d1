use Rattle.std.proofs.Common.{◌≡◌, map, take}
use Rattle.catalogue_slots.specs.Views.{object_of}
use Rattle.store_opening.specs.Opening.{live_on}
use Rattle.store_opening.proofs.LiveLemmas.{runs_in}
use Rattle.store_opening.proofs.live.live_runs.Given as goal

abbrev pub invariant-loop-entry : goal.invariant-loop-entry
invariant-loop-entry l = map runs_in l.live.items ≡ live_on l.number (map object_of (take l.entry-index l.objects))
