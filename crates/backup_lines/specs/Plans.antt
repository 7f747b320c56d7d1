-- The plan of a restore: of each space a chain, the files of the log behind the chains, and the objects that are needed of them.
use Rattle.std.specs.Prelude.{ℕ, zero, suc, List, [], ◌∷◌, ◌++◌, length, drop, map, filter, fold, Bool, not, is_none, ◌&&◌, ◌==◌, nat_eq, min, max, if◌then◌else◌, Option, None, Some, slice_get}
use Rattle.std.specs.Cmp.Lexicographic.{pointwise}
use Rattle.std.specs.List.{filter_map, flat_map}
use Rattle.std.specs.Option.{option_map}
use Rattle.log_history.specs.Live.{ResetPoint}
use Rattle.backup_lines.specs.Chains.{chain_of, top_of, is_live_between, last_link}
use Rattle.backup_lines.specs.Lines.{Archive, Span}
use Rattle.backup_lines.specs.Views.{copies_of}
use Rattle.backup_lines.specs.declared.lanes.LaneState.{LaneState}
use Rattle.backup_lines.specs.declared.lanes.LaneState.TheVariants.{Image, Replay}
use Rattle.backup_lines.specs.declared.objects.Need.{Need}
use Rattle.backup_lines.specs.declared.objects.What.TheVariants.{Archive as ArchiveObject, Log as LogObject}

-- what a restore goes by in a space: the copy ids of its chain, and position and low of the last archive there
pub record SpacePlan : Type 0 where
  pub space : ℕ
  pub chain : List ℕ
  pub at : ℕ
  pub low : ℕ

abbrev pub planned_on : ℕ → List ℕ → Archive → SpacePlan
planned_on space copies top = record { space = space; chain = copies; at = top.at; low = top.low }

abbrev pub planned_by : ℕ → List Archive → Option SpacePlan
planned_by space chain = option_map (planned_on space (map (λ archive. archive.copy) chain)) (top_of chain)

-- the plan of a space for a position, where it has a chain
abbrev pub plan_of_space : List Archive → List ResetPoint → ℕ → ℕ → Option SpacePlan
plan_of_space archives resets q space = planned_by space (chain_of archives resets space q)

-- the numbers below n
abbrev pub below : ℕ → List ℕ
below zero = []
below (suc n) = below n ++ n ∷ []

abbrev pub space_plans : List Archive → List ResetPoint → ℕ → ℕ → List SpacePlan
space_plans archives resets q spaces = filter_map (plan_of_space archives resets q) (below spaces)

-- no level 0 of a space is live at the position
abbrev pub has_no_level_0 : List Archive → List ResetPoint → ℕ → ℕ → Bool
has_no_level_0 archives resets q space = is_none (last_link resets space 0 0 q archives)

abbrev pub spaces_without_level_0 : List Archive → List ResetPoint → ℕ → ℕ → List ℕ
spaces_without_level_0 archives resets q spaces = filter (has_no_level_0 archives resets q) (below spaces)

abbrev pub lesser : Option ℕ → ℕ → ℕ
lesser None n = n
lesser (Some m) n = min m n

-- the position from which the log is wanted, by the chain that wants it from the lowest on
abbrev pub least_low : List SpacePlan → Option ℕ
least_low plans = fold (λ least plan. Some (lesser least plan.low)) None plans

-- the files with a position from `low` on that is live at q
abbrev pub files_from : List ResetPoint → ℕ → ℕ → List Span → List Span
files_from resets q low spans = filter (λ span. is_live_between resets q (max span.first low) span.last) spans

abbrev pub files_behind : List ResetPoint → ℕ → Option ℕ → List Span → List Span
files_behind resets q None spans = []
files_behind resets q (Some low) spans = files_from resets q low spans

-- how many images of a chain a lane marks done, under this restore and this chain
abbrev pub images_done : ℕ → List ℕ → Option LaneState → ℕ
images_done restore chain (Some (Image other marked image entries)) =
    if ((other == restore) && pointwise nat_eq (copies_of marked) chain) then image else 0
images_done restore chain (Some (Replay other marked upto part)) =
    if ((other == restore) && pointwise nat_eq (copies_of marked) chain) then length chain else 0
images_done restore chain state = 0

-- the archives of a chain from a level on
abbrev pub archives_needed : ℕ → ℕ → List ℕ → List Need
archives_needed space level [] = []
archives_needed space level (copy ∷ copies) =
    record { what = ArchiveObject space level; copy = copy } ∷ archives_needed space (suc level) copies

-- the archives of a chain behind those that are done
abbrev pub needed_behind : ℕ → SpacePlan → List Need
needed_behind done plan = archives_needed plan.space done (drop done plan.chain)

-- what a lane doesn't mark done of the chain of its space
abbrev pub needed_in_space : ℕ → Option LaneState → SpacePlan → List Need
needed_in_space restore state plan = needed_behind (images_done restore plan.chain state) plan

-- the state of a lane, by its space; past the end of the list it is lost
abbrev pub state_in : Option (Option LaneState) → Option LaneState
state_in None = None
state_in (Some state) = state

abbrev pub state_of : List (Option LaneState) → ℕ → Option LaneState
state_of states space = state_in (slice_get states space)

abbrev pub log_needed : Span → Need
log_needed span = record { what = LogObject span.file; copy = span.copy }

-- those that have a copy
abbrev pub logs_needed : List Span → List Need
logs_needed logs = map log_needed (filter (λ span. not (span.copy == 0)) logs)

abbrev pub archives_needed_by : ℕ → List (Option LaneState) → List SpacePlan → List Need
archives_needed_by restore states plans = flat_map (λ plan. needed_in_space restore (state_of states plan.space) plan) plans

-- The objects that a restore needs: of each space those of its chain that its lane doesn't mark done, in order of level, then the log
-- files that have a copy.
abbrev pub objects_needed : ℕ → List (Option LaneState) → List SpacePlan → List Span → List Need
objects_needed restore states plans logs = archives_needed_by restore states plans ++ logs_needed logs
