use Rattle.site_layouts.specs.AgreeLaws.{agrees_later, images_show, opened_agrees, place_agrees, replay_agrees}
use Rattle.site_layouts.proofs.laws.a_lane_that_agrees_shows_it.Goals as goal

pub returns-clause-later : goal.returns-clause-later
returns-clause-later g c = agrees_later g.D.Disk

pub returns-clause-opened : goal.returns-clause-opened
returns-clause-opened g c = opened_agrees g.D.Disk

pub returns-clause-standing : goal.returns-clause-standing
returns-clause-standing g c = place_agrees g.D.Disk

pub returns-clause-replaying : goal.returns-clause-replaying
returns-clause-replaying g c = replay_agrees g.D.Disk

pub returns-clause-images : goal.returns-clause-images
returns-clause-images g c = images_show g.D.Disk
