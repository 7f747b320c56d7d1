-- Calls whose moves may be made from some worlds alone.
use Rattle.std.specs.Prelude.{ℕ, ◌≤◌, Option}
use Rattle.walks.specs.Courses.{Course, Stage, Does}

-- The clause of such a call: from each of those worlds for which the site stands, opened as far as the call needs, it does its course.
abbrev pub CallFrom : {Name Move V W F S : Type 0} → Stage Name Move V W F S → (V → Type 0) → ℕ → ℕ → ℕ → S → S → (V → Course Move F) → Option F → Type 0
CallFrom {W = W} stage may needs from to old new course fault = (opened : ℕ) (world : W) → needs ≤ opened → stage.stands opened from old world → may (stage.seen world)
    → Does stage opened from to old new world (course (stage.seen world)) fault
