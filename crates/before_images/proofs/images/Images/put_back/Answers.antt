use Rattle.before_images.proofs.images.Images.put_back.Goals as goal

pub returns-clause-applies : goal.returns-clause-applies
returns-clause-applies g c = rw (← c.self.view_is) c.put_back_from.ensures.applies

pub returns-clause-bytes : goal.returns-clause-bytes
returns-clause-bytes g c = rw (← c.self.view_is) c.put_back_from.ensures.bytes

pub returns-clause-kept : goal.returns-clause-kept
returns-clause-kept g c = rw (← c.self.view_is) c.put_back_from.ensures.kept
