use Rattle.site_core.specs.AppendLaws.{takes_fitting, takes_next, takes_drop, takes_none}
use Rattle.site_core.proofs.laws.a_batch_is_appended_by_the_answer_on_room.Goals as goal

pub returns-clause-fitting : goal.returns-clause-fitting
returns-clause-fitting c = takes_fitting

pub returns-clause-next : goal.returns-clause-next
returns-clause-next c = takes_next

pub returns-clause-drop : goal.returns-clause-drop
returns-clause-drop c = takes_drop

pub returns-clause-full : goal.returns-clause-full
returns-clause-full c = takes_none
