use Rattle.lane_restore.proofs.replaying.finish.Goals as goal
use Rattle.lane_restore.proofs.replaying.finish.Goals.{in-Ok, in-Err}

pub returns-clause-stands : goal.returns-clause-stands
returns-clause-stands g c tells done site count before agrees =
    elim c.match-set_state.branch [
      | in-Ok w ↦ w.in-Ok.ensures.stands tells site count before agrees
      | in-Err w ↦ let is = w.job-is in cc
    ]

pub returns-clause-pages : goal.returns-clause-pages
returns-clause-pages g c tells done site count before agrees =
    elim c.match-set_state.branch [
      | in-Ok w ↦ w.in-Ok.ensures.pages tells site count before agrees
      | in-Err w ↦ let is = w.job-is in absurd (let no : ⊥ = cc in no)
    ]
