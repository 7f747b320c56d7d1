-- The course of a script of sessions: the transactions that it commits.
use Rattle.std.specs.Prelude.{ℕ, List, map, Option}
use Rattle.walks.specs.Courses.{Course}
use Rattle.site_worlds.specs.Worlds.{Kept, Site}
use Rattle.site_worlds.specs.Moves.{Move, commit_objects}
use Rattle.site_courses.specs.Faults.{Fault}
use Rattle.site_courses.specs.Courses.{SiteCourse}

-- a transaction of the store: the objects that it adds, and the copy ids that it deletes
pub record Transaction : Type 0 where
  pub added : List Kept
  pub deleted : List ℕ

-- `xbsash`: a refused call ends nothing, so each transaction that is committed is one move; and how the script ends
abbrev pub sessions_course : List Transaction → Option Fault → SiteCourse
sessions_course transactions ending site = record { moves = map (λ t. commit_objects t.added t.deleted) transactions; fault = ending }
