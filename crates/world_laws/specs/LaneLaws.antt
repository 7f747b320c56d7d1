-- A fit site stays fit while the lanes of a phase go on, each at a place of its own.
use Rattle.std.specs.Prelude.{◌≡◌, ◌⊎◌, ℕ, zero, suc, ◌-◌, ◌<◌, ◌≤◌, ◌&&◌, ◌==◌, List, [], ◌∷◌, length, map, filter, fold, Bool, true, false, slice_index, if◌then◌else◌, Option, Some, None, Contains}
use Rattle.std.specs.List.{AllByRecursion, filter_map}
use mathlib.Core.Logic.{inl, inr}
use Rattle.std.proofs.Common.{arith, refl, sym, ap, subst, ◌∙◌, take_all}
use Rattle.std.proofs.lemmas.Bool.{false≢true}
use Rattle.std.proofs.lemmas.Bool.Decides.{nat_tests}
use Rattle.std.proofs.lemmas.List.{length-map}
use Rattle.log_history.specs.History.{History}
use Rattle.log_history.specs.Live.{ResetPoint, live_by, reset_points}
use Rattle.log_history.specs.Transactions.{low}
use Rattle.history_laws.specs.LiveLaws.{live_within}
use Rattle.backup_lines.specs.Lines.{Archive, Line, archived, logged, gone, archive_in, is_live, live_archives}
use Rattle.backup_lines.specs.Chains.{is_link, is_later, last_link, and_on, chain_of}
use Rattle.backup_lines.specs.Spans.{Active}
use Rattle.site_worlds.specs.Worlds.{LaneState, Site, stands, blank, merges, replays, stale, lost}
use Rattle.site_worlds.specs.Files.{low_at}
use Rattle.lane_ways.specs.Ways.{IsPlace}
use Rattle.site_worlds.specs.Lanes.{IsArchived, IsChain, FitReplay, FitLane, IsAtRest, IsOnTheWay}
use Rattle.site_worlds.specs.Moves.{IsBetween, IsOnLane}
use Rattle.site_worlds.specs.Allowed.{CanAdvance, CanPrepare, CanRestore, CanFinish, CanLane, stays, closes, advances, prepares, restores, finishes, planned}
use Rattle.world_laws.specs.TableLaws.{low_at_rises}
use Rattle.world_laws.specs.GrowthLaws.{end_is_live}
use Rattle.world_laws.specs.ListLaws.{contains_cases, contains_filter, contains_here, contains_later, contains_none, none_some, some_same}

-- a planned chain

archive_of : (line : Line) (archive : Archive) → archive_in line ≡ Some archive → line ≡ archived archive
archive_of (archived other) archive is = ap archived (some_same is)
archive_of (logged span) archive is = absurd (none_some is)
archive_of (gone copy) archive is = absurd (none_some is)

in_lines : (lines : List Line) (archive : Archive) → Contains (filter_map archive_in lines) archive → Contains lines (archived archive)
in_lines [] archive is = absurd (contains_none archive is)
in_lines (archived other ∷ lines) archive is = by (contains_cases archive other (filter_map archive_in lines) is) (in_lines lines archive)
  where
    by : (other ≡ archive) ⊎ Contains (filter_map archive_in lines) archive → (Contains (filter_map archive_in lines) archive → Contains lines (archived archive))
        → Contains (archived other ∷ lines) (archived archive)
    by (inl same) rest = subst (λ (a : Archive). Contains (archived other ∷ lines) (archived a)) same (contains_here (archived other) lines)
    by (inr later) rest = contains_later (archived archive) (archived other) lines (rest later)
in_lines (logged span ∷ lines) archive is = contains_later (archived archive) (logged span) lines (in_lines lines archive is)
in_lines (gone copy ∷ lines) archive is = contains_later (archived archive) (gone copy) lines (in_lines lines archive is)

-- the last of some archives is one of them
last_among : (archives : List Archive) (best : Option Archive) (archive : Archive)
    → fold (λ best other. if is_later other best then Some other else best) best archives ≡ Some archive → (best ≡ Some archive) ⊎ Contains archives archive
last_among [] best archive is = inl is
last_among (other ∷ archives) best archive is = by (is_later other best) refl (last_among archives (if is_later other best then Some other else best) archive is)
  where
    by : (b : Bool) → is_later other best ≡ b → ((if is_later other best then Some other else best) ≡ Some archive) ⊎ Contains archives archive
        → (best ≡ Some archive) ⊎ Contains (other ∷ archives) archive
    by b test (inr later) = inr (contains_later archive other archives later)
    by true test (inl now) = inr (subst (λ (a : Archive). Contains (other ∷ archives) a)
        (some_same (sym (ap (λ (c : Bool). if c then Some other else best) test) ∙ now)) (contains_here other archives))
    by false test (inl now) = inl (sym (ap (λ (c : Bool). if c then Some other else best) test) ∙ now)

passes : (test : Archive → Bool) (archives : List Archive) (archive : Archive) → Contains (filter test archives) archive → test archive ≡ true
passes test [] archive is = absurd (contains_none archive is)
passes test (other ∷ archives) archive is = by (test other) refl is (passes test archives archive)
  where
    by : (b : Bool) → test other ≡ b → Contains (if b then other ∷ filter test archives else filter test archives) archive
        → (Contains (filter test archives) archive → test archive ≡ true) → test archive ≡ true
    by true is_so has rest = first (contains_cases archive other (filter test archives) has) rest
      where
        first : (other ≡ archive) ⊎ Contains (filter test archives) archive → (Contains (filter test archives) archive → test archive ≡ true) → test archive ≡ true
        first (inl same) rest = ap test (sym same) ∙ is_so
        first (inr later) rest = rest later
    by false isnt has rest = rest has

-- an archive that a line is of, of a space, at a position that is live at another
record IsUsable (lines : List Line) (resets : List ResetPoint) (space to : ℕ) (archive : Archive) : Type 0 where
  line : Contains lines (archived archive)
  same_space : archive.space ≡ space
  counts : live_by resets to archive.at ≡ true

first_true : (a b : Bool) → (a && b) ≡ true → a ≡ true
first_true true b is = refl
first_true false b is = is

second_true : (a b : Bool) → (a && b) ≡ true → b ≡ true
second_true true b is = is
second_true false b is = absurd (false≢true is)

same_number : (a b : ℕ) → (a == b) ≡ true → a ≡ b
same_number a b is = grind (arith, nat_tests, is)

link_is_usable : (lines : List Line) (resets : List ResetPoint) (space level base to : ℕ) (archive : Archive)
    → last_link resets space level base to (live_archives lines) ≡ Some archive → IsUsable lines resets space to archive
link_is_usable lines resets space level base to archive is = by (last_among (filter test (live_archives lines)) None archive is)
  where
    test : Archive → Bool
    test = is_link resets space level base to

    by : (None ≡ Some archive) ⊎ Contains (filter (is_link resets space level base to) (live_archives lines)) archive → IsUsable lines resets space to archive
    by (inl none) = absurd (none_some none)
    by (inr has) =
        let passed : is_link resets space level base to archive ≡ true = passes (is_link resets space level base to) (live_archives lines) archive has in
        let live_one : Contains (live_archives lines) archive = contains_filter (is_link resets space level base to) (live_archives lines) archive has in
        record {
          line = in_lines lines archive (contains_filter (λ (a : Archive). is_live lines a.copy) (filter_map archive_in lines) archive live_one);
          same_space = same_number archive.space space
              (first_true (archive.space == space) (archive.level == level) (first_true _ (archive.base_copy == base) (first_true _ (live_by resets to archive.at) passed)));
          counts = second_true _ (live_by resets to archive.at) passed;
        }

all_on : (P : Archive → Type 0) (first : Option Archive) (on : Archive → List Archive) → ((a : Archive) → first ≡ Some a → P a)
    → ((a : Archive) → AllByRecursion P (on a)) → AllByRecursion P (and_on first on)
all_on P None on one rest = tt
all_on P (Some a) on one rest = (one a refl, rest a)

few_on : (n : ℕ) (first : Option Archive) (on : Archive → List Archive) → ((a : Archive) → length (on a) ≤ n) → length (and_on first on) ≤ suc n
few_on n None on rest = omega arith
few_on n (Some a) on rest = omega (arith, rest a)

chain_is_usable : (lines : List Line) (resets : List ResetPoint) (space to : ℕ)
    → AllByRecursion (IsUsable lines resets space to) (chain_of (live_archives lines) resets space to)
chain_is_usable lines resets space to =
    all_on P (last_link resets space 0 0 to (live_archives lines)) _ (link_is_usable lines resets space 0 0 to)
    (λ zero_level. all_on P (last_link resets space 1 zero_level.copy to (live_archives lines)) _ (link_is_usable lines resets space 1 zero_level.copy to)
    (λ one. all_on P (last_link resets space 2 one.copy to (live_archives lines)) _ (link_is_usable lines resets space 2 one.copy to) (λ two. tt)))
  where
    P : Archive → Type 0
    P = IsUsable lines resets space to

chain_is_short : (archives : List Archive) (resets : List ResetPoint) (space to : ℕ) → length (chain_of archives resets space to) ≤ 3
chain_is_short archives resets space to =
    few_on 2 (last_link resets space 0 0 to archives) _ (λ zero_level.
    few_on 1 (last_link resets space 1 zero_level.copy to archives) _ (λ one.
    few_on 0 (last_link resets space 2 one.copy to archives) _ (λ two. omega arith)))

-- each copy id of a planned chain is that of an archive with a line, at a position before the restore's
planned_at : (lines : List Line) (resets : List ResetPoint) (space to : ℕ) (chain : List Archive) → AllByRecursion (IsUsable lines resets space to) chain
    → (k : ℕ) → k < length (map (λ a. a.copy) chain)
    → (archive : Archive) × IsArchived lines space (slice_index (map (λ a. a.copy) chain) k) archive × (archive.at ≤ to)
planned_at lines resets space to [] all k lt = absurd (omega (arith, lt))
planned_at lines resets space to (a ∷ chain) all zero lt =
    (a, record { line = all.0.line; same_space = all.0.same_space; same_copy = refl }, live_within resets to a.at all.0.counts)
planned_at lines resets space to (a ∷ chain) all (suc k) lt = planned_at lines resets space to chain all.1 k (omega (arith, lt))

-- a position is live at itself
pub live_itself : (points : List ResetPoint) (n : ℕ) → live_by points n n ≡ true
live_itself [] n = grind (arith, nat_tests)
live_itself (point ∷ older) n = let rest : live_by older n n ≡ true = live_itself older n in grind (arith, nat_tests, rest)

planned_is_chain : (site : Site) (space to : ℕ) → 1 ≤ length (planned site space to) → IsChain site.lines space (planned site space to)
planned_is_chain site space to some = record {
  some = some;
  few = omega (
    arith,
    length-map (chain_of (live_archives site.lines) (reset_points site.history) space to) (λ (a : Archive). a.copy),
    chain_is_short (live_archives site.lines) (reset_points site.history) space to,
  );
  each = λ k lt. let one = planned_at site.lines (reset_points site.history) space to _ (chain_is_usable site.lines (reset_points site.history) space to) k lt in (one.0, one.1);
}

-- a lane that is brought to the restore's position is there
restored_fits : (site : Site) (space : ℕ) (first goal : LaneState) (can : CanRestore site space first goal)
    → FitReplay site.history site.lines site.active space can.under.number (planned site space can.under.to) can.under.to 0
restored_fits site space first goal can =
    let last = planned_at site.lines (reset_points site.history) space can.under.to _ (chain_is_usable site.lines (reset_points site.history) space can.under.to)
    (length (planned site space can.under.to) - 1) (omega (arith, can.some)) in
    record {
      under = record { restore = can.under; is = can.is; same = refl };
      is_chain = planned_is_chain site space can.under.to can.some;
      place = λ restore active. subst (λ (a : Active). IsPlace site.history a.to space can.under.to 0) (some_same (sym can.is ∙ active))
          (record { is_live = live_itself (reset_points site.history) can.under.to; within = omega arith });
      last = last.0;
      is_last = last.1;
      behind = last.2;
    }

-- where a lane goes to

abbrev pub Fits : Site → ℕ → LaneState → Type 0
Fits site space lane = FitLane site.head.spaces site.history site.lines site.active space lane

end_fits : (site : Site) (space : ℕ) → Fits site space (stands (length site.history) 0)
end_fits site space = record { is_live = end_is_live site.history; within = omega arith }

goal_fits : (site : Site) (space : ℕ) (first goal : LaneState) → CanLane site space first goal → Fits site space first → Fits site space goal
goal_fits site space first goal (stays same) fit = subst (Fits site space) (sym same) fit
goal_fits site space first goal (closes is) fit = subst (Fits site space) (sym is) tt
goal_fits site space first goal (advances can) fit = subst (Fits site space) (sym can.to) (end_fits site space)
goal_fits site space first goal (prepares can) fit = subst (Fits site space) (sym can.to) (record { restore = can.under; is = can.is; same = refl })
goal_fits site space first goal (restores can) fit = subst (Fits site space) (sym can.to) (restored_fits site space first goal can)
goal_fits site space first goal (finishes can) fit = subst (Fits site space) (sym can.to) (end_fits site space)

-- where a lane may be on its way

-- what holds where it began and where it goes to, and between if it holds there
pub on_lane : (P : LaneState → Type 0) (site : Site) (space : ℕ) (first goal mid : LaneState) → P first → P goal
    → ((goal ≡ first → ⊥) → IsBetween site space first goal mid → P mid) → IsOnLane site space first goal mid → P mid
on_lane P site space first goal mid at_first at_goal between (inl is) = subst P (sym is) at_first
on_lane P site space first goal mid at_first at_goal between (inr (inl is)) = subst P (sym is) at_goal
on_lane P site space first goal mid at_first at_goal between (inr (inr on)) = between on.0 on.1

-- between places of the log
abbrev IsFurther : Site → ℕ → ℕ → LaneState → Type 0
IsFurther site space from (stands upto part) = (from ≤ upto) × IsPlace site.history (length site.history) space upto part
IsFurther site space from lane = ⊥

between_places : (site : Site) (space from begun : ℕ) (mid : LaneState) → IsBetween site space (stands from begun) (stands (length site.history) 0) mid → IsFurther site space from mid
between_places site space from begun (stands upto part) is = (is.0.0, is.1)
between_places site space from begun (blank restore) is = is
between_places site space from begun (merges restore chain archive entries) is = is
between_places site space from begun (replays restore chain upto part) is = is
between_places site space from begun stale is = is
between_places site space from begun lost is = is

advanced_between : (site : Site) (space : ℕ) (first goal mid : LaneState) (can : CanAdvance site first goal) → IsBetween site space first goal mid → IsFurther site space can.upto mid
advanced_between site space first goal mid can is =
    between_places site space can.upto can.part mid
    (subst (λ (f : LaneState). IsBetween site space f (stands (length site.history) 0) mid) can.from
    (subst (λ (g : LaneState). IsBetween site space first g mid) can.to is))

pub prepared_between : (site : Site) (space : ℕ) (first goal mid : LaneState) → CanPrepare site goal → IsBetween site space first goal mid → mid ≡ lost
prepared_between site space first goal mid can is = by mid (subst (λ (g : LaneState). IsBetween site space first g mid) can.to is)
  where
    by : (lane : LaneState) → IsBetween site space first (blank can.under.number) lane → lane ≡ lost
    by (stands upto part) is = absurd is
    by (blank restore) is = absurd is
    by (merges restore chain archive entries) is = absurd is
    by (replays restore chain upto part) is = absurd is
    by stale is = absurd is
    by lost is = refl

-- a lane of a restore, on its way
pub record IsRestoring (site : Site) (space number : ℕ) (lane : LaneState) : Type 0 where
  pub fits : FitLane site.head.spaces site.history site.lines site.active space lane
  pub on_the_way : IsOnTheWay number lane

pub restored_between : (site : Site) (space : ℕ) (first goal mid : LaneState) (can : CanRestore site space first goal) → IsBetween site space first goal mid
    → IsRestoring site space can.under.number mid
restored_between site space first goal mid can is = by mid (subst (λ (g : LaneState). IsBetween site space first g mid) can.to is)
  where
    by : (lane : LaneState) → IsBetween site space first (replays can.under.number (planned site space can.under.to) can.under.to 0) lane
        → IsRestoring site space can.under.number lane
    by (stands upto part) is = absurd is
    by (blank restore) is = absurd is
    by (merges restore chain archive entries) is = record { fits = is.3; on_the_way = is.0 }
    by (replays restore chain upto part) is = record { fits = is.3; on_the_way = is.0 }
    by stale is = absurd is
    by lost is = absurd is

pub none_between_lost : (site : Site) (space : ℕ) (first goal mid : LaneState) → goal ≡ lost → IsBetween site space first goal mid → ⊥
none_between_lost site space first goal mid to is = subst (λ (g : LaneState). IsBetween site space first g mid) to is

pub none_between_finished : (site : Site) (space : ℕ) (first goal mid : LaneState) → CanFinish site first goal → IsBetween site space first goal mid → ⊥
none_between_finished site space first goal mid can is =
    subst (λ (f : LaneState). IsBetween site space f (stands (length site.history) 0) mid) can.from (subst (λ (g : LaneState). IsBetween site space first g mid) can.to is)

further_fits : (site : Site) (space from : ℕ) (mid : LaneState) → IsFurther site space from mid → Fits site space mid
further_fits site space from (stands upto part) is = is.1
further_fits site space from (blank restore) is = absurd is
further_fits site space from (merges restore chain archive entries) is = absurd is
further_fits site space from (replays restore chain upto part) is = absurd is
further_fits site space from stale is = absurd is
further_fits site space from lost is = absurd is

between_fits : (site : Site) (space : ℕ) (first goal mid : LaneState) → CanLane site space first goal → (goal ≡ first → ⊥) → IsBetween site space first goal mid → Fits site space mid
between_fits site space first goal mid (stays same) differs is = absurd (differs same)
between_fits site space first goal mid (closes to) differs is = absurd (none_between_lost site space first goal mid to is)
between_fits site space first goal mid (advances can) differs is = further_fits site space can.upto mid (advanced_between site space first goal mid can is)
between_fits site space first goal mid (prepares can) differs is = subst (Fits site space) (sym (prepared_between site space first goal mid can is)) tt
between_fits site space first goal mid (restores can) differs is = (restored_between site space first goal mid can is).fits
between_fits site space first goal mid (finishes can) differs is = absurd (none_between_finished site space first goal mid can is)

pub lane_fits : (site : Site) (space : ℕ) (first goal mid : LaneState) → CanLane site space first goal → IsOnLane site space first goal mid → Fits site space first → Fits site space mid
lane_fits site space first goal mid can on fit =
    on_lane (Fits site space) site space first goal mid fit (goal_fits site space first goal can fit) (between_fits site space first goal mid can) on

-- the lanes together, with no restore under way

pub rest_goal : (site : Site) (held space : ℕ) (first goal : LaneState) → site.active ≡ None → held ≤ low site.history → CanLane site space first goal
    → IsAtRest site.history held first → IsAtRest site.history held goal
rest_goal site held space first goal none le (stays same) rests = subst (IsAtRest site.history held) (sym same) rests
rest_goal site held space first goal none le (closes to) rests = subst (IsAtRest site.history held) (sym to) tt
rest_goal site held space first goal none le (advances can) rests = subst (IsAtRest site.history held) (sym can.to)
    (subst (λ (h : History). held ≤ low h) (sym (take_all (length site.history) site.history (omega arith))) le)
rest_goal site held space first goal none le (prepares can) rests = absurd (none_some (sym none ∙ can.is))
rest_goal site held space first goal none le (restores can) rests = absurd (none_some (sym none ∙ can.is))
rest_goal site held space first goal none le (finishes can) rests = absurd (none_some (sym none ∙ can.is))

further_rests : (site : Site) (held space from : ℕ) (mid : LaneState) → held ≤ low_at site.history from → IsFurther site space from mid → IsAtRest site.history held mid
further_rests site held space from (stands upto part) le is = omega (arith, le, low_at_rises site.history from upto is.0)
further_rests site held space from (blank restore) le is = is
further_rests site held space from (merges restore chain archive entries) le is = is
further_rests site held space from (replays restore chain upto part) le is = is
further_rests site held space from stale le is = is
further_rests site held space from lost le is = tt

pub rest_between : (site : Site) (held space : ℕ) (first goal mid : LaneState) → site.active ≡ None → CanLane site space first goal → IsAtRest site.history held first
    → (goal ≡ first → ⊥) → IsBetween site space first goal mid → IsAtRest site.history held mid
rest_between site held space first goal mid none (stays same) rests differs is = absurd (differs same)
rest_between site held space first goal mid none (closes to) rests differs is = absurd (none_between_lost site space first goal mid to is)
rest_between site held space first goal mid none (advances can) rests differs is =
    further_rests site held space can.upto mid (subst (IsAtRest site.history held) can.from rests) (advanced_between site space first goal mid can is)
rest_between site held space first goal mid none (prepares can) rests differs is = absurd (none_some (sym none ∙ can.is))
rest_between site held space first goal mid none (restores can) rests differs is = absurd (none_some (sym none ∙ can.is))
rest_between site held space first goal mid none (finishes can) rests differs is = absurd (none_some (sym none ∙ can.is))
