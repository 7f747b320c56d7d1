use Rattle.store_opening.proofs.HoldingLemmas.{alone, among}
use Rattle.store_opening.proofs.laws.an_open_store_holds_its_objects.Goals as goal

pub returns-clause-alone : goal.returns-clause-alone
returns-clause-alone g c from store contents taken head agrees = alone g.D.Disk from store contents taken head agrees

pub returns-clause-all : goal.returns-clause-all
returns-clause-all g c from store contents taken head agrees = among g.D.Disk from store contents taken head agrees
