use Rattle.restore_course_laws.specs.Passing.{restored_by_courses}
use Rattle.restore_course_laws.proofs.laws.a_restore_gives_the_pages_at_its_point.Goals as goal

pub returns : goal.returns
returns c = restored_by_courses
