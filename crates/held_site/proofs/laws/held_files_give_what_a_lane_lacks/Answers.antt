use Rattle.held_site.specs.HeldLaws.{site_changes, site_lacks, site_place, site_within}
use Rattle.held_site.proofs.laws.held_files_give_what_a_lane_lacks.Goals as goal

pub returns-clause-place : goal.returns-clause-place
returns-clause-place c = site_place

pub returns-clause-within : goal.returns-clause-within
returns-clause-within c = site_within

pub returns-clause-changes : goal.returns-clause-changes
returns-clause-changes c = site_changes

pub returns-clause-own : goal.returns-clause-own
returns-clause-own c = site_lacks
