use Rattle.catalogue_journal.specs.Catalogues.{objects_of}
use Rattle.object_store.proofs.FindingLemmas.{found_with, found_has, object_with-none}
use Rattle.object_store.proofs.finding.find_object.Goals as goal

pub returns-clause-found : goal.returns-clause-found
returns-clause-found g c = found_with c.args.copy (objects_of c.args.cat.now) c.find.result c.requires.contents.rising c.find.ensures.found

pub returns-clause-has : goal.returns-clause-has
returns-clause-has g c = found_has c.args.copy (objects_of c.args.cat.now) c.find.result (found_with c.args.copy (objects_of c.args.cat.now) c.find.result c.requires.contents.rising c.find.ensures.found)

pub returns-clause-missing : goal.returns-clause-missing
returns-clause-missing g c none = object_with-none c.args.copy (objects_of c.args.cat.now) (c.find.ensures.none none)
