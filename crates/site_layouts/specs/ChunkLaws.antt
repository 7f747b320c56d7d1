-- Laws of what chunks show: what a move of another disk leaves of it.
use Rattle.std.specs.Prelude.{◌≡◌, ℕ, zero, suc, ◌+◌, ◌≤◌, List, [], ◌∷◌, ◌++◌, length, map, slice_get, Bool, true, Option, Some, None}
use Rattle.std.specs.List.{AllByRecursion}
use Rattle.std.specs.Option.{option_map}
use Rattle.std.proofs.Common.{arith, refl, sym, ap, subst, ◌∙◌}
use Rattle.std.proofs.lemmas.List.Elements.{Contains-append_left}
use Rattle.std.proofs.lemmas.Option.{slice_get-map}
use Rattle.log_history.specs.History.{History}
use Rattle.log_history.specs.Live.{live, reset_points}
use Rattle.log_history.specs.Effects.{Page}
use Rattle.space_pages.specs.Pages.{pages_of}
use Rattle.site_headers.specs.Heads.{Head}
use Rattle.site_headers.specs.Headers.{HasHeader}
use Rattle.onbar_grammar.specs.Script.{Space}
use Rattle.backup_lines.specs.Lines.{Archive, Line, archived}
use Rattle.lane_ways.specs.Ways.{lane_pages, laid_at, pages_with}
use Rattle.lane_ways.specs.WayLaws.{pages_at_live, pages_same, way_before}
use Rattle.backup_lines.specs.Spans.{Active}
use Rattle.site_worlds.specs.Worlds.{LaneState, stands, blank, merges, replays, stale, lost}
use Rattle.site_worlds.specs.Lanes.{EachLane, FitLane, IsAtEnd, IsReplayed, IsUnder}
use Rattle.site_worlds.specs.Moves.{with_prepared, without_restore}
use Rattle.world_laws.specs.ListLaws.{none_some, some_same}
use Rattle.space_lane.specs.Chunks.{chunk_tail}
use Rattle.site_layouts.specs.Chunks.{AreArchived, HoldsLane, HoldsMark, HoldsPages, HoldsStale, IsPast, NamesPast, ShowsChunk, goal_of}

-- one lane of a site

pub lane_at : (P : ℕ → LaneState → Type 0) (space : ℕ) (lanes : List LaneState) (k : ℕ) (lane : LaneState)
    → EachLane P space lanes → slice_get lanes k ≡ Some lane → P (space + k) lane
lane_at P space [] k lane all is = absurd (none_some is)
lane_at P space (first ∷ lanes) zero lane all is =
    let here : space ≡ space + 0 = omega arith in
    subst (λ (n : ℕ). P n lane) here (subst (P space) (some_same is) all.0)
lane_at P space (first ∷ lanes) (suc k) lane all is =
    let here : suc space + k ≡ space + suc k = omega arith in
    subst (λ (n : ℕ). P n lane) here (lane_at P (suc space) lanes k lane all.1 is)

pub lane_from_first : (P : ℕ → LaneState → Type 0) (lanes : List LaneState) (n : ℕ) (lane : LaneState)
    → EachLane P 0 lanes → slice_get lanes n ≡ Some lane → P n lane
lane_from_first P lanes n lane all is =
    let here : 0 + n ≡ n = omega arith in
    subst (λ (k : ℕ). P k lane) here (lane_at P 0 lanes n lane all is)

pub lane_of_all : (P : LaneState → Type 0) (lanes : List LaneState) (n : ℕ) (lane : LaneState) → AllByRecursion P lanes → slice_get lanes n ≡ Some lane → P lane
lane_of_all P [] n lane all is = absurd (none_some is)
lane_of_all P (first ∷ lanes) zero lane all is = subst P (some_same is) all.0
lane_of_all P (first ∷ lanes) (suc n) lane all is = lane_of_all P lanes n lane all.1 is

-- a batch

-- at a place on the way to the end the same pages stand
batch_lane : (site count : ℕ) (spaces : List Space) (history more : History) (lines : List Line) (number : ℕ) (active : Option Active) (space : ℕ) (lane : LaneState) (bytes : List ℕ)
    → active ≡ None → reset_points more ≡ [] → FitLane spaces history lines active space lane
    → HoldsLane site count history lines number active space lane bytes → HoldsLane site count (history ++ more) lines number active space lane bytes
batch_lane site count spaces history more lines number active space (stands upto part) bytes none plain fit shows =
    subst (λ (pages : List Page). HoldsPages site space count (stands upto part) upto part pages bytes)
    (sym (pages_same history more space upto part count plain (record { is_live = fit.is_live; within = fit.within }))) shows
batch_lane site count spaces history more lines number active space (blank restore) bytes none plain fit shows = absurd (none_some (sym none ∙ fit.is))
batch_lane site count spaces history more lines number active space (merges restore chain archive entries) bytes none plain fit shows = absurd (none_some (sym none ∙ fit.under.is))
batch_lane site count spaces history more lines number active space (replays restore chain upto part) bytes none plain fit shows = absurd (none_some (sym none ∙ fit.under.is))
batch_lane site count spaces history more lines number active space stale bytes none plain fit shows = shows
batch_lane site count spaces history more lines number active space lost bytes none plain fit shows = shows

pub batch_shows : (head : Head) (history more : History) (lines : List Line) (number : ℕ) (active : Option Active) (n : ℕ) (lane : Option LaneState) (bytes : List ℕ)
    → active ≡ None → reset_points more ≡ [] → ((l : LaneState) → lane ≡ Some l → FitLane head.spaces history lines active n l)
    → ShowsChunk head history lines number active n lane bytes → ShowsChunk head (history ++ more) lines number active n lane bytes
batch_shows head history more lines number active n None bytes none plain fit shows = tt
batch_shows head history more lines number active n (Some lane) bytes none plain fit shows =
    batch_lane head.site _ head.spaces history more lines number active n lane bytes none plain (fit lane refl) shows

-- the Reset of a restore

-- on the way to a position within the history nothing changes
pages_before : (history more : History) (q space upto part count : ℕ) → q ≤ length history
    → lane_pages (history ++ more) q space upto part count ≡ lane_pages history q space upto part count
pages_before history more q space upto part count le =
    ap (λ way. pages_with way (laid_at way upto part) space count) (way_before history more q space le)

reset_lane : (site count : ℕ) (history more : History) (lines : List Line) (number : ℕ) (restore : Active) (active : Option Active) (space : ℕ) (lane : LaneState) (bytes : List ℕ)
    → active ≡ Some restore → restore.to ≤ length history → IsReplayed restore lane
    → HoldsLane site count history lines number active space lane bytes → HoldsLane site count (history ++ more) lines number active space lane bytes
reset_lane site count history more lines number restore active space (replays r chain upto part) bytes is le replayed shows =
    subst (λ (pages : List Page). HoldsPages site space count (replays r chain upto part) upto part pages bytes)
    (sym (pages_before history more (goal_of active) space upto part count (subst (λ (a : Option Active). goal_of a ≤ length history) (sym is) le))) shows
reset_lane site count history more lines number restore active space lost bytes is le replayed shows = shows
reset_lane site count history more lines number restore active space (stands upto part) bytes is le replayed shows = absurd replayed
reset_lane site count history more lines number restore active space (blank r) bytes is le replayed shows = absurd replayed
reset_lane site count history more lines number restore active space (merges r chain archive entries) bytes is le replayed shows = absurd replayed
reset_lane site count history more lines number restore active space stale bytes is le replayed shows = absurd replayed

pub reset_shows : (head : Head) (history more : History) (lines : List Line) (number : ℕ) (restore : Active) (active : Option Active) (n : ℕ) (lane : Option LaneState) (bytes : List ℕ)
    → active ≡ Some restore → restore.to ≤ length history → ((l : LaneState) → lane ≡ Some l → IsReplayed restore l)
    → ShowsChunk head history lines number active n lane bytes → ShowsChunk head (history ++ more) lines number active n lane bytes
reset_shows head history more lines number restore active n None bytes is le replayed shows = tt
reset_shows head history more lines number restore active n (Some lane) bytes is le replayed shows =
    reset_lane head.site _ history more lines number restore active n lane bytes is le (replayed lane refl) shows

-- lines of the boot file

archived_more : (lines more : List Line) (space : ℕ) (chain : List ℕ) (archives : List Archive) → AreArchived lines space chain archives → AreArchived (lines ++ more) space chain archives
archived_more lines more space [] [] are = tt
archived_more lines more space (copy ∷ chain) (archive ∷ archives) are = (
  record { line = Contains-append_left lines more (archived archive) are.0.line; same_space = are.0.same_space; same_copy = are.0.same_copy },
  archived_more lines more space chain archives are.1,
)
archived_more lines more space [] (archive ∷ archives) are = absurd are
archived_more lines more space (copy ∷ chain) [] are = absurd are

lines_lane : (site count : ℕ) (history : History) (lines more : List Line) (number : ℕ) (active : Option Active) (space : ℕ) (lane : LaneState) (bytes : List ℕ)
    → HoldsLane site count history lines number active space lane bytes → HoldsLane site count history (lines ++ more) number active space lane bytes
lines_lane site count history lines more number active space (merges restore chain archive entries) bytes shows = record {
  holds = shows.holds;
  archives = shows.archives;
  are = archived_more lines more space chain shows.archives shows.are;
  pages = shows.pages;
}
lines_lane site count history lines more number active space (stands upto part) bytes shows = shows
lines_lane site count history lines more number active space (blank restore) bytes shows = shows
lines_lane site count history lines more number active space (replays restore chain upto part) bytes shows = shows
lines_lane site count history lines more number active space stale bytes shows = shows
lines_lane site count history lines more number active space lost bytes shows = shows

pub lines_show : (head : Head) (history : History) (lines more : List Line) (number : ℕ) (active : Option Active) (n : ℕ) (lane : Option LaneState) (bytes : List ℕ)
    → ShowsChunk head history lines number active n lane bytes → ShowsChunk head history (lines ++ more) number active n lane bytes
lines_show head history lines more number active n None bytes shows = tt
lines_show head history lines more number active n (Some lane) bytes shows = lines_lane head.site _ history lines more number active n lane bytes shows

-- a restore begins

-- what was named before is past
past_later : (number : ℕ) (restore : Active) (named : ℕ) → restore.number ≡ suc number → named ≤ number → IsPast (suc number) (Some restore) named
past_later number restore named is le = (
  omega (arith, le),
  λ under same is_that. absurd (omega (arith, le, is, is_that, ap (λ (a : Active). a.number) (some_same same))),
)

names_past_later : (number : ℕ) (active : Option Active) (restore : Active) (lane : LaneState) → restore.number ≡ suc number
    → NamesPast number active lane → NamesPast (suc number) (Some restore) lane
names_past_later number active restore (stands upto part) is past = tt
names_past_later number active restore (blank r) is past = past_later number restore r is past.0
names_past_later number active restore (merges r chain archive entries) is past = past_later number restore r is past.0
names_past_later number active restore (replays r chain upto part) is past = past_later number restore r is past.0
names_past_later number active restore stale is past = tt
names_past_later number active restore lost is past = tt

marked_stale : (site count number : ℕ) (restore : Active) (space : ℕ) (lane : LaneState) (bytes : List ℕ) → HoldsMark site space count lane bytes
    → NamesPast (suc number) (Some restore) lane → HoldsStale site space count (suc number) (Some restore) bytes
marked_stale site count number restore space lane bytes holds past = record { lane = lane; holds = holds; past = past }

begin_lane : (site count : ℕ) (spaces : List Space) (history : History) (lines : List Line) (number : ℕ) (active : Option Active) (restore : Active) (space : ℕ) (lane : LaneState)
    (bytes : List ℕ) → restore.number ≡ suc number → ((r : ℕ) → IsUnder active r → r ≤ number) → FitLane spaces history lines active space lane
    → HoldsLane site count history lines number active space lane bytes
    → HoldsLane site count history lines (suc number) (Some restore) space (without_restore lane) bytes
begin_lane site count spaces history lines number active restore space (stands upto part) bytes is below fit shows = shows
begin_lane site count spaces history lines number active restore space (blank r) bytes is below fit shows =
    marked_stale site count number restore space (blank r) bytes shows.holds (past_later number restore r is (below r fit))
begin_lane site count spaces history lines number active restore space (merges r chain archive entries) bytes is below fit shows =
    marked_stale site count number restore space (merges r chain archive entries) bytes shows.holds (past_later number restore r is (below r fit.under))
begin_lane site count spaces history lines number active restore space (replays r chain upto part) bytes is below fit shows =
    marked_stale site count number restore space (replays r chain upto part) bytes shows.holds (past_later number restore r is (below r fit.under))
begin_lane site count spaces history lines number active restore space stale bytes is below fit shows =
    marked_stale site count number restore space shows.lane bytes shows.holds (names_past_later number active restore shows.lane is shows.past)
begin_lane site count spaces history lines number active restore space lost bytes is below fit shows = shows

begin_option : (head : Head) (history : History) (lines : List Line) (number : ℕ) (active : Option Active) (restore : Active) (n : ℕ) (lane : Option LaneState) (bytes : List ℕ)
    → restore.number ≡ suc number → ((r : ℕ) → IsUnder active r → r ≤ number) → ((l : LaneState) → lane ≡ Some l → FitLane head.spaces history lines active n l)
    → ShowsChunk head history lines number active n lane bytes
    → ShowsChunk head history lines (suc number) (Some restore) n (option_map without_restore lane) bytes
begin_option head history lines number active restore n None bytes is below fit shows = tt
begin_option head history lines number active restore n (Some lane) bytes is below fit shows =
    begin_lane head.site _ head.spaces history lines number active restore n lane bytes is below (fit lane refl) shows

pub begin_shows : (head : Head) (history : History) (lines : List Line) (number : ℕ) (active : Option Active) (restore : Active) (n : ℕ) (lanes : List LaneState) (bytes : List ℕ)
    → restore.number ≡ suc number → ((r : ℕ) → IsUnder active r → r ≤ number) → EachLane (FitLane head.spaces history lines active) 0 lanes
    → ShowsChunk head history lines number active n (slice_get lanes n) bytes
    → ShowsChunk head history lines (suc number) (Some restore) n (slice_get (map without_restore lanes) n) bytes
begin_shows head history lines number active restore n lanes bytes is below fit shows =
    subst (λ (lane : Option LaneState). ShowsChunk head history lines (suc number) (Some restore) n lane bytes) (sym (slice_get-map without_restore lanes n))
    (begin_option head history lines number active restore n (slice_get lanes n) bytes is below
    (λ lane there. lane_from_first (FitLane head.spaces history lines active) lanes n lane fit there) shows)

-- its lanes are marked as prepared, or not

past_prepared : (number : ℕ) (prepared : Bool) (restore : Active) (named : ℕ) → IsPast number (Some restore) named → IsPast number (Some (with_prepared prepared restore)) named
past_prepared number prepared restore named past = (
  past.0,
  λ under same is. past.1 restore refl (is ∙ ap (λ (a : Active). a.number) (sym (some_same same))),
)

names_past_prepared : (number : ℕ) (prepared : Bool) (restore : Active) (lane : LaneState) → NamesPast number (Some restore) lane
    → NamesPast number (Some (with_prepared prepared restore)) lane
names_past_prepared number prepared restore (stands upto part) past = tt
names_past_prepared number prepared restore (blank r) past = past_prepared number prepared restore r past
names_past_prepared number prepared restore (merges r chain archive entries) past = past_prepared number prepared restore r past
names_past_prepared number prepared restore (replays r chain upto part) past = past_prepared number prepared restore r past
names_past_prepared number prepared restore stale past = tt
names_past_prepared number prepared restore lost past = tt

prepared_lane : (site count : ℕ) (history : History) (lines : List Line) (number : ℕ) (prepared : Bool) (restore : Active) (space : ℕ) (lane : LaneState) (bytes : List ℕ)
    → HoldsLane site count history lines number (Some restore) space lane bytes
    → HoldsLane site count history lines number (Some (with_prepared prepared restore)) space lane bytes
prepared_lane site count history lines number prepared restore space (stands upto part) bytes shows = shows
prepared_lane site count history lines number prepared restore space (blank r) bytes shows = shows
prepared_lane site count history lines number prepared restore space (merges r chain archive entries) bytes shows = shows
prepared_lane site count history lines number prepared restore space (replays r chain upto part) bytes shows = shows
prepared_lane site count history lines number prepared restore space stale bytes shows = record {
  lane = shows.lane;
  holds = shows.holds;
  past = names_past_prepared number prepared restore shows.lane shows.past;
}
prepared_lane site count history lines number prepared restore space lost bytes shows = shows

pub prepared_shows : (head : Head) (history : History) (lines : List Line) (number : ℕ) (prepared : Bool) (active : Option Active) (n : ℕ) (lane : Option LaneState) (bytes : List ℕ)
    → ShowsChunk head history lines number active n lane bytes
    → ShowsChunk head history lines number (option_map (with_prepared prepared) active) n lane bytes
prepared_shows head history lines number prepared None n lane bytes shows = shows
prepared_shows head history lines number prepared (Some restore) n None bytes shows = tt
prepared_shows head history lines number prepared (Some restore) n (Some lane) bytes shows = prepared_lane head.site _ history lines number prepared restore n lane bytes shows

-- the restore ends

end_lane : (site count : ℕ) (history : History) (lines : List Line) (number end : ℕ) (active : Option Active) (space : ℕ) (lane : LaneState) (bytes : List ℕ) → IsAtEnd end lane
    → HoldsLane site count history lines number active space lane bytes → HoldsLane site count history lines number None space lane bytes
end_lane site count history lines number end active space (stands upto part) bytes there shows = shows
end_lane site count history lines number end active space lost bytes there shows = shows
end_lane site count history lines number end active space (blank r) bytes there shows = absurd there
end_lane site count history lines number end active space (merges r chain archive entries) bytes there shows = absurd there
end_lane site count history lines number end active space (replays r chain upto part) bytes there shows = absurd there
end_lane site count history lines number end active space stale bytes there shows = absurd there

pub end_shows : (head : Head) (history : History) (lines : List Line) (number end : ℕ) (active : Option Active) (n : ℕ) (lane : Option LaneState) (bytes : List ℕ)
    → ((l : LaneState) → lane ≡ Some l → IsAtEnd end l)
    → ShowsChunk head history lines number active n lane bytes → ShowsChunk head history lines number None n lane bytes
end_shows head history lines number end active n None bytes there shows = tt
end_shows head history lines number end active n (Some lane) bytes there shows = end_lane head.site _ history lines number end active n lane bytes (there lane refl) shows

-- what a chunk shows of a lane that isn't lost

-- it has its header
pub lane_has_header : (site count : ℕ) (history : History) (lines : List Line) (number : ℕ) (active : Option Active) (space : ℕ) (lane : LaneState) (bytes : List ℕ)
    → (lane ≡ lost → ⊥) → HoldsLane site count history lines number active space lane bytes → HasHeader (chunk_tail site space count) bytes
lane_has_header site count history lines number active space (stands upto part) bytes isnt shows = shows.holds.holds.header
lane_has_header site count history lines number active space (blank r) bytes isnt shows = shows.holds.holds.header
lane_has_header site count history lines number active space (merges r chain archive entries) bytes isnt shows = shows.holds.holds.header
lane_has_header site count history lines number active space (replays r chain upto part) bytes isnt shows = shows.holds.holds.header
lane_has_header site count history lines number active space stale bytes isnt shows = shows.holds.holds.header
lane_has_header site count history lines number active space lost bytes isnt shows = absurd (isnt refl)

-- at a live position with nothing more laid it has the pages of that position
pub lane_has_pages : (site count : ℕ) (history : History) (lines : List Line) (number : ℕ) (active : Option Active) (space upto : ℕ) (bytes : List ℕ)
    → live history (length history) upto ≡ true → HoldsLane site count history lines number active space (stands upto 0) bytes
    → HoldsPages site space count (stands upto 0) upto 0 (pages_of history upto space 0 count) bytes
lane_has_pages site count history lines number active space upto bytes is shows =
    subst (λ (pages : List Page). HoldsPages site space count (stands upto 0) upto 0 pages bytes) (pages_at_live history (length history) upto space count is) shows
