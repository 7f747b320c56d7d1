-- A site is fit as it is formatted; and so each world that moves lead to.
use Rattle.std.specs.Prelude.{◌≡◌, ℕ, zero, suc, ◌+◌, ◌-◌, ◌≤◌, List, [], ◌∷◌, map, Some, None}
use Rattle.std.specs.List.{AllByRecursion}
use mathlib.Core.Logic.{inl, inr}
use Rattle.std.proofs.Common.{arith, refl, sym, subst}
use Rattle.std.proofs.lemmas.Bool.{true≢false}
use Rattle.std.proofs.lemmas.List.{length-map}
use Rattle.log_history.specs.History.{LogEntry, entry_at}
use Rattle.onbar_grammar.specs.Script.{Space}
use Rattle.site_headers.specs.Heads.{Head, IsHead}
use Rattle.walks.specs.Courses.{IsOnWay}
use Rattle.site_worlds.specs.Worlds.{World, stands, new_site, unformatted, formatted}
use Rattle.site_worlds.specs.Files.{first_from}
use Rattle.site_worlds.specs.Lanes.{FitLane, EachLane, IsAtRest}
use Rattle.site_worlds.specs.Fitness.{IsFitSite, IsFit}
use Rattle.site_worlds.specs.Moves.{WorldMove, format_site, moves_on, world_after, WorldStopsAt, world_rules}
use Rattle.site_worlds.specs.Allowed.{CanMove}
use Rattle.world_laws.specs.ListLaws.{contains_none, none_some}
use Rattle.world_laws.specs.KeptLaws.{kept, kept_within}

new_lanes : (spaces all : List Space) (space : ℕ) → EachLane (FitLane all [] [] None) space (map (λ s. stands 0 0) spaces)
new_lanes [] all space = tt
new_lanes (s ∷ spaces) all space = (record { is_live = refl; within = omega arith }, new_lanes spaces all (suc space))

new_rests : (spaces : List Space) → AllByRecursion (IsAtRest [] 1) (map (λ s. stands 0 0) spaces)
new_rests [] = tt
new_rests (s ∷ spaces) = (omega arith, new_rests spaces)

new_first : (k : ℕ) → first_from (1 ∷ []) 0 k ≤ 1
new_first zero = omega arith
new_first (suc k) = omega arith

pub new_site_fits : (head : Head) → IsHead head → IsFitSite (new_site head)
new_site_fits head is = record {
  head = is;
  history = record {
    order = tt;
    within = tt;
    few = omega arith;
    begins = refl;
    rising = λ file some lt. absurd (omega (arith, some, lt));
    inside = λ file. new_first (file - 1);
    small = λ file some le. omega (arith, new_first (file + 1 - 1));
    resets = λ x restore target time at. absurd (no_entry x at);
  };
  brief = tt;
  files = record {
    oldest = omega arith;
    held = omega arith;
    few = omega arith;
    dropped = omega arith;
    backed = omega arith;
    saved = λ file some le. absurd (omega (arith, some, le));
    next = λ span has. absurd (contains_none _ has);
    closed = λ span has. absurd (contains_none _ has);
    filled = λ shut. absurd (true≢false shut);
  };
  store = record { ascend = omega arith; each = tt; apart = λ volume. record { once = λ block. omega arith; below = λ block lt. absurd (omega (arith, lt)) }; damaged = tt };
  lines = record { each = tt; once = λ copy. omega arith };
  restore = record { resets = λ x restore target time at. absurd (no_entry x at); fits = λ restore active. absurd (none_some active) };
  lanes = record {
    count = length-map head.spaces (λ (s : Space). stands 0 0);
    each = new_lanes head.spaces head.spaces 0;
    step = record { low = omega arith; each = new_rests head.spaces };
  };
}
  where
    no_entry : (x : ℕ) {e : LogEntry} → entry_at [] x ≡ Some e → ⊥
    no_entry zero at = none_some at
    no_entry (suc x) at = none_some at

-- a site is formatted where there is none, with a head in the limits; a move is made on a formatted one
abbrev pub CanWorldMove : WorldMove → World → Type 0
CanWorldMove (format_site head) unformatted = IsHead head
CanWorldMove (format_site head) (formatted site) = ⊥
CanWorldMove (moves_on move) unformatted = ⊥
CanWorldMove (moves_on move) (formatted site) = CanMove move site

abbrev pub CanWorldAll : List WorldMove → World → Type 0
CanWorldAll [] world = Unit {0}
CanWorldAll (move ∷ moves) world = CanWorldMove move world × CanWorldAll moves (world_after move world)

pub world_kept : (move : WorldMove) (world : World) → CanWorldMove move world → IsFit world → IsFit (world_after move world)
world_kept (format_site head) unformatted can fit = new_site_fits head can
world_kept (format_site head) (formatted site) can fit = absurd can
world_kept (moves_on move) unformatted can fit = absurd can
world_kept (moves_on move) (formatted site) can fit = kept move site can fit

pub world_kept_within : (move : WorldMove) (world other : World) → CanWorldMove move world → WorldStopsAt move world other → IsFit world → IsFit other
world_kept_within (format_site head) world other can is fit = subst IsFit (sym is) fit
world_kept_within (moves_on move) unformatted other can is fit = absurd can
world_kept_within (moves_on move) (formatted site) other can is fit = subst IsFit (sym is.1) (kept_within move site is.0 can is.2 fit)

-- A stop anywhere within moves that may be made one after another leaves a fit world.
pub world_fit_on_way : (moves : List WorldMove) (world other : World) → CanWorldAll moves world → IsFit world → IsOnWay world_rules moves world other → IsFit other
unfolding world_rules
world_fit_on_way [] world other can fit is = subst IsFit (sym is) fit
world_fit_on_way (move ∷ moves) world other can fit (inl within) = world_kept_within move world other can.0 within fit
world_fit_on_way (move ∷ moves) world other can fit (inr later) =
    world_fit_on_way moves (world_after move world) other can.1 (world_kept move world can.0 fit) later
