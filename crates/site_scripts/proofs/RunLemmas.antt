-- A run that appends what is collected, and goes on behind it or ends.
use Rattle.std.proofs.Common.{◌≡◌, ◌∙◌, ℕ, ◌<◌, List, [], length, Bool, ◌==◌, if◌then◌else◌, Option, None, Some, refl, sym, ap, arith}
use Rattle.std.specs.Option.{option_or}
use Rattle.std.proofs.lemmas.Bool.{ne_eqb}
use Rattle.std.proofs.lemmas.List.{append-nil}
use Rattle.onbar_grammar.specs.Script.{Raw}
use Rattle.site_worlds.specs.Worlds.{Site}
use Rattle.site_worlds.specs.Moves.{Move, site_rules}
use Rattle.site_courses.specs.Faults.{Fault}
use Rattle.walks.specs.Courses.{only, then_do}
use Rattle.walks.specs.CoursesLaws.{then_next, then_none}
use Rattle.site_runs.specs.Scripts.{ScriptState, Ending, append_collected, ended, ends_by, go_on, after_batch, if_refused}
use Rattle.site_scripts.specs.Stages.{Halt, RunCourse, batch_course, course_of, halted}

module _ (place : ScriptState) (left : List Raw) where
  abbrev batch : RunCourse
  batch = batch_course place.collected.batch left

  -- behind the append at a site
  abbrev pub behind : Site → ScriptState
  behind site = record place { site = site; collected = record place.collected { batch = [] } }

  none_is : (append_collected place).fault ≡ None → (batch place.site).fault ≡ None
  unfolding batch_course
  none_is is = ap (halted left) is

  some_is : (fault : Fault) → (append_collected place).fault ≡ Some fault → (batch place.site).fault ≡ Some (record { fault = Some fault; left = left })
  unfolding batch_course
  some_is fault is = ap (halted left) is

  -- where it is refused the run ends so
  refused_is : (fault : Fault) → (append_collected place).fault ≡ Some fault
      → record { moves = (append_collected place).moves; fault = Some (record { fault = Some fault; left = left }) } ≡ batch place.site
  unfolding batch_course
  refused_is fault is = sym (ap (λ (o : Option Halt). record { moves = (append_collected place).moves; fault = o }) (some_is fault is))

  -- a run that ends with its batch
  ended_is : (fault : Option Fault) → 0 < length place.collected.batch → ended fault left place ≡ ends_by fault left (append_collected place)
  ended_is fault some =
      ap (λ (none : Bool). ends_by fault left (if none then only None else append_collected place))
      (ne_eqb (length place.collected.batch) 0 (λ none. omega arith))

  -- a run whose batch is refused ends by that
  ends_refused : (fault : Option Fault) (refusal : Fault) → 0 < length place.collected.batch → (append_collected place).fault ≡ Some refusal
      → (rest : RunCourse) → course_of (ended fault left place) ≡ then_do site_rules batch rest place.site
  ends_refused fault refusal some is rest =
      ap course_of (ended_is fault some)
      ∙ ap (λ (o : Option Fault). record { moves = (append_collected place).moves; fault = Some (record { fault = option_or o fault; left = left }) }) is
      ∙ refused_is refusal is
      ∙ sym (then_none site_rules batch rest place.site (record { fault = Some refusal; left = left }) (some_is refusal is))

  -- a batch that is whole: the run goes on behind it
  pub goes_behind : (run : ScriptState → Ending) → 0 < length place.collected.batch
      → course_of (go_on run (after_batch left place)) ≡ then_do site_rules batch (λ site. course_of (run (behind site))) place.site
  unfolding batch_course
  goes_behind run some = by (append_collected place).fault refl
    where
      rest : RunCourse
      rest site = course_of (run (behind site))

      by : (fault : Option Fault) → (append_collected place).fault ≡ fault
          → course_of (go_on run (if_refused fault left place)) ≡ then_do site_rules batch rest place.site
      by None is = sym (then_next site_rules batch rest place.site (none_is is))
      by (Some refusal) is = ends_refused None refusal some is rest

  -- the last batch: the run ends behind it
  pub ends_behind : (fault : Option Fault) → 0 < length place.collected.batch
      → course_of (ended fault left place) ≡ then_do site_rules batch (λ site. only (Some (record { fault = fault; left = left }))) place.site
  unfolding batch_course
  ends_behind fault some = by (append_collected place).fault refl
    where
      halt : Halt
      halt = record { fault = fault; left = left }

      by : (refused : Option Fault) → (append_collected place).fault ≡ refused
          → course_of (ended fault left place) ≡ then_do site_rules batch (λ site. only (Some halt)) place.site
      by None is =
          ap course_of (ended_is fault some)
          ∙ ap (λ (o : Option Fault). record { moves = (append_collected place).moves; fault = Some (record { fault = option_or o fault; left = left }) }) is
          ∙ ap (λ (moves : List Move). record { moves = moves; fault = Some halt }) (sym (append-nil (append_collected place).moves))
          ∙ sym (then_next site_rules batch (λ site. only (Some halt)) place.site (none_is is))
      by (Some refusal) is = ends_refused fault refusal some is (λ site. only (Some halt))

  -- nothing is collected
  pub ends_empty : (fault : Option Fault) → length place.collected.batch ≡ 0 → course_of (ended fault left place) ≡ only (Some (record { fault = fault; left = left }))
  ends_empty fault none = ap (λ (n : ℕ). course_of (ends_by fault left (if n == 0 then only None else append_collected place))) none
