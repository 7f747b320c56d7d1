use Rattle.restore_course_laws.specs.RefusalLaws.{refused_as_it_begins, refused_does_nothing, not_refused_ends}
use Rattle.restore_course_laws.proofs.laws.a_restart_ends_or_is_refused_as_it_begins.Goals as goal

pub returns-clause-refusal : goal.returns-clause-refusal
returns-clause-refusal c = refused_as_it_begins

pub returns-clause-nothing : goal.returns-clause-nothing
returns-clause-nothing c = refused_does_nothing

pub returns-clause-ends : goal.returns-clause-ends
returns-clause-ends c = not_refused_ends
