-- What a call does in all: a course of moves, and how it ends. The worlds that it passes follow from the moves.
use Rattle.std.specs.Prelude.{◌≡◌, ◌⊎◌, ℕ, ◌≤◌, List, [], ◌∷◌, ◌++◌, Bool, true, Option, None, Some}
use Rattle.walks.specs.Follows.{Images, Showing, Goes, Ends, Comes}

-- what a move makes of what is seen of a world, and what a stop within it leaves of that
pub record MoveRules (Move V : Type 0) : Type 1 where
  pub after : Move → V → V
  pub within : Move → V → V → Type 0
  pub at_begin : (move : Move) (v : V) → within move v v

-- moves one after another
abbrev pub after_all : {Move V : Type 0} → MoveRules Move V → List Move → V → V
after_all rules [] v = v
after_all rules (move ∷ moves) v = after_all rules moves (rules.after move v)

-- what a stop within moves one after another leaves
abbrev pub IsOnWay : {Move V : Type 0} → MoveRules Move V → List Move → V → V → Type 0
IsOnWay rules [] v other = other ≡ v
IsOnWay rules (move ∷ moves) v other = rules.within move v other ⊎ IsOnWay rules moves (rules.after move v) other

-- the moves of a call, and the fault that it answers behind them, if any
pub record Course (Move F : Type 0) : Type 0 where
  pub moves : List Move
  pub fault : Option F

-- the call ends at once: it is refused, or has nothing to do
abbrev pub only : {Move F : Type 0} → Option F → Course Move F
only fault = record { moves = []; fault = fault }

abbrev pub make : {Move F : Type 0} → List Move → Course Move F
make moves = record { moves = moves; fault = None }

-- behind moves that were made, another course
abbrev pub behind_moves : {Move F : Type 0} → List Move → Course Move F → Course Move F
behind_moves moves course = record { moves = moves ++ course.moves; fault = course.fault }

-- one course where another ended in a fault, else the next
abbrev pub unless_fault : {Move F : Type 0} → Option F → Course Move F → Course Move F → Course Move F
unless_fault None ended next = next
unless_fault (Some fault) ended next = ended

-- a course, and the next one from where it ends, unless it ends in a fault
unfoldable pub then_do : {Move V F : Type 0} → MoveRules Move V → (V → Course Move F) → (V → Course Move F) → V → Course Move F
then_do rules first next v = unless_fault (first v).fault (first v) (behind_moves (first v).moves (next (after_all rules (first v).moves v)))

-- a course for each item of a list, one after another
abbrev pub for_each : {A Move V F : Type 0} → MoveRules Move V → (A → V → Course Move F) → List A → V → Course Move F
for_each rules course [] v = only None
for_each rules course (x ∷ xs) v = then_do rules (course x) (for_each rules course xs) v

-- What a site is about: the rules of its moves over what is seen of a world, and what a disk shows of one; which faults cut a
-- call short, so that it may stop anywhere; the crash images of its disks; and when it stands for a world, opened so far, in an era
-- in which no move was made yet.
pub record Stage (Name Move V W F S : Type 0) : Type 1 where
  pub rules : MoveRules Move V
  pub seen : W → V
  pub shows : Showing Name W
  pub cuts : F → Bool
  pub images : S → Images Name
  pub stands : ℕ → ℕ → S → W → Type 0

module _ {Name Move V W F S : Type 0} (stage : Stage Name Move V W F S) where
  -- the worlds that moves pass
  abbrev pub PassedBy : List Move → W → W → Type 0
  PassedBy moves world other = IsOnWay stage.rules moves (stage.seen world) (stage.seen other)

  -- the call is cut short
  abbrev pub IsCut : Option F → Type 0
  IsCut None = ⊥
  IsCut (Some fault) = stage.cuts fault ≡ true

  -- A call that ended as its course says: the world behind all its moves, to which each image of the later eras follows, and for
  -- which the site stands.
  pub record HasEnded (opened from to : ℕ) (old new : S) (world : W) (course : Course Move F) (fault : Option F) : Type 0 where
    pub fault_is : fault ≡ course.fault
    pub next : W
    pub next_is : stage.seen next ≡ after_all stage.rules course.moves (stage.seen world)
    pub ends : Ends stage.shows to (stage.images old) (stage.images new) world next
    pub stands : stage.stands opened to new next

  -- what a call does by a course, wherever it is stopped: it passes worlds of its moves alone, and ends as the course says unless it
  -- is cut short
  pub record Does (opened from to : ℕ) (old new : S) (world : W) (course : Course Move F) (fault : Option F) : Type 0 where
    pub no_earlier : from ≤ to
    pub goes : Goes stage.shows from (stage.images old) (stage.images new) world (PassedBy course.moves world)
    pub ended : IsCut fault ⊎ HasEnded opened from to old new world course fault

  -- The clause of a call: from each world for which the site stands, opened as far as the call needs, it does its course.
  abbrev pub Call : ℕ → ℕ → ℕ → S → S → (V → Course Move F) → Option F → Type 0
  Call needs from to old new course fault = (opened : ℕ) (world : W) → needs ≤ opened → stage.stands opened from old world
      → Does opened from to old new world (course (stage.seen world)) fault

  -- The state between two calls of a larger one: so many moves of its course were made, the rest is left to do, and the site stands
  -- for the world that they came to.
  pub record LeftToDo (opened from now : ℕ) (old mid : S) (world : W) (whole : Course Move F) (rest : V → Course Move F) : Type 0 where
    pub made : List Move
    pub next : W
    pub comes : Comes stage.shows from now (stage.images old) (stage.images mid) world (PassedBy made world) next
    pub next_is : stage.seen next ≡ after_all stage.rules made (stage.seen world)
    pub whole_is : whole ≡ behind_moves made (rest (stage.seen next))
    pub stands : stage.stands opened now mid next
