-- What a chunk shows while its lane is brought forward.
use Rattle.std.proofs.Common.{◌≡◌, inl, inr, ℕ, ◌-◌, ◌≤◌, List, [], length, map, take, drop, sym, ap, ◌∙◌, subst, arith, length-drop, length-take}
use Rattle.std.proofs.lemmas.List.{drop-map, length-replicate, take-map, take_all}
use Rattle.site_disk.specs.Images.{Leaves, OnlyAfter}
use Rattle.site_disk.specs.ImagesLaws.{goes_on, weaker}
use Rattle.log_history.specs.History.{History}
use Rattle.log_history.specs.Effects.{Change, Page, empty_page}
use Rattle.space_pages.specs.Pages.{LieWithin, brought, empty_pages}
use Rattle.backup_lines.specs.declared.lanes.LaneState.{LaneState}
use Rattle.txn_table.specs.declared.changes.Change.{Change as Brought}
use Rattle.txn_table.specs.Table.{change_of}
use Rattle.lane_mark.specs.Layout.{spelling}
use Rattle.lane_ways.specs.Pictures.{MayMove, Shows}
use Rattle.lane_ways.specs.Ways.{IsNotBefore, IsPlace, laid_at, lane_changes, lane_pages}
use Rattle.lane_steps.specs.Choices.{Chooses}
use Rattle.lane_steps.specs.Moves.{CanMove, Lays, Moves, moved}
use Rattle.lane_steps.specs.OwnLaws.{length-brought}
use Rattle.lane_advance.specs.Advances.{GoesOn, IsUnderWay, Leads, MayAdvance}
use Rattle.lane_advance.specs.declared.progress.Progress.{Progress}
use Rattle.lane_advance.proofs.WayLemmas.{lie_drop}
use Rattle.lane_advance.specs.Places.{picture_at, picture_of, with_place}

pub length-lane_pages : (history : History) (n space upto part count : ℕ) → length (lane_pages history n space upto part count) ≡ count
length-lane_pages history n space upto part count =
    length-brought space 0 (take (laid_at (lane_changes history n space) upto part) (lane_changes history n space)) (empty_pages count) ∙ length-replicate count empty_page

-- the picture behind a step
pub moved_is : (space : ℕ) (state : LaneState) (was_upto was_part upto part : ℕ) (there then : List Page) (first content : List ℕ) (changes : List Change)
    → content ≡ spelling (with_place state upto part) → brought space 0 changes there ≡ then
    → moved (picture_of space (with_place state was_upto was_part) was_upto was_part there first) content upto part changes ≡ picture_of space (with_place state upto part) upto part then first
moved_is space state was_upto was_part upto part there then first content changes is pages =
    ap (λ (l : List ℕ). moved (picture_of space (with_place state was_upto was_part) was_upto was_part there first) l upto part changes) is
    ∙ ap (λ (l : List Page). picture_of space (with_place state upto part) upto part l first) pages

-- a step of the work is one of the chunk
pub record IsStep (history : History) (n space count upto part : ℕ) (list : List Change) (front : ℕ) (state : LaneState) (pages : List ℕ) (changes : List Change) (content first : List ℕ) (old new : Progress) : Type 0 where
  pub goes : GoesOn history n space count upto part list front old new
  pub size : length (lane_pages history n space old.upto old.part count) ≡ count
  pub can : CanMove space count pages changes old.upto old.part new.upto new.part
  pub same : moved (picture_at history n space count state old.upto old.part first) content new.upto new.part changes ≡ picture_at history n space count state new.upto new.part first

-- the changes behind a place in the list, as a slice of it
abbrev pub left_of : List Brought → ℕ → List Brought
left_of changes taken = take (length changes - taken) (drop taken changes)

pub left_is : (changes : List Brought) (taken : ℕ) → map change_of (left_of changes taken) ≡ drop taken (map change_of changes)
left_is changes taken =
    ap (map change_of) (take_all (length changes - taken) (drop taken changes) (omega (arith, length-drop taken changes)))
    ∙ sym (drop-map change_of taken changes)

pub some_pages : (used : ℕ) (pages : List ℕ) → (used ≡ 0 → ⊥) → used ≤ 16 → length pages ≡ 16 → take used pages ≡ [] → ⊥
some_pages used pages some few long none =
    some (omega (arith, few, long, length-take used pages, ap (λ (l : List ℕ). length l) none))

module _ (history : History) (n space count to upto part : ℕ) (changes taken : List Brought) (front used : ℕ) (all : List ℕ) (state : LaneState) (content first : List ℕ) (old new : Progress)
    (leads : Leads history n space count to upto part (map change_of changes)) (under : IsUnderWay history n space count upto part (map change_of changes) old)
    (chooses : Chooses space count (map change_of (left_of changes old.taken)) front (take used all)) (some : used ≡ 0 → ⊥) (few : used ≤ 16) (long : length all ≡ 16)
    (goes : (pages : List ℕ) → Leads history n space count to upto part (map change_of changes) → IsUnderWay history n space count upto part (map change_of changes) old
    → map change_of (left_of changes old.taken) ≡ drop old.taken (map change_of changes) → Chooses space count (map change_of (left_of changes old.taken)) front pages → (pages ≡ [] → ⊥)
    → GoesOn history n space count upto part (map change_of changes) front old new) where
  pub goes_so : GoesOn history n space count upto part (map change_of changes) front old new
  goes_so = goes (take used all) leads under (left_is changes old.taken) chooses (some_pages used all some few long)

  pub step_is : (LieWithin (map change_of (left_of changes old.taken)) → Lays space count (take used all) (take front (map change_of (left_of changes old.taken))))
      → taken ≡ take front (left_of changes old.taken) → content ≡ spelling (with_place state new.upto new.part)
      → IsStep history n space count upto part (map change_of changes) front state (take used all) (map change_of taken) content first old new
  step_is lays are is =
      let list : List Change = map change_of changes in
      let left : List Change = map change_of (left_of changes old.taken) in
      let taken_are : map change_of taken ≡ take front left = ap (map change_of) are ∙ sym (take-map change_of front (left_of changes old.taken)) in
      let lie : LieWithin left = subst LieWithin (sym (left_is changes old.taken)) (lie_drop old.taken list leads.lie) in
      let lays_so : Lays space count (take used all) (map change_of taken) = subst (Lays space count (take used all)) (sym taken_are) (lays lie) in
      record {
        goes = goes_so;
        size = length-lane_pages history n space old.upto old.part count;
        can = record { lays = lays_so; other = goes_so.other };
        same = moved_is space state old.upto old.part new.upto new.part (lane_pages history n space old.upto old.part count) (lane_pages history n space new.upto new.part count) first content (map change_of taken) is
            (ap (λ (l : List Change). brought space 0 l (lane_pages history n space old.upto old.part count)) (taken_are ∙ ap (take front) (left_is changes old.taken)) ∙ goes_so.pages);
      }

module _ (history : History) (n space count : ℕ) (state : LaneState) (upto part : ℕ) (first : List ℕ) where
  abbrev may : List ℕ → List ℕ → Type 0
  may = MayAdvance history n space count state upto part first

  -- one of two places on the way
  pub moves_advance : (u v p q : ℕ) (old new : List ℕ) → IsPlace history n space u p → IsNotBefore upto part u p → IsPlace history n space v q → IsNotBefore upto part v q
      → MayMove (picture_at history n space count state u p first) (picture_at history n space count state v q first) new → may old new
  moves_advance u v p q old new at not_before then further move = by move
    where
      by : MayMove (picture_at history n space count state u p first) (picture_at history n space count state v q first) new → may old new
      by (inl shows) = record { further = u; more = p; place = at; not_before = not_before; shows = shows }
      by (inr shows) = record { further = v; more = q; place = then; not_before = further; shows = shows }

  module _ (e : ℕ) (old mid new : ℕ → List ℕ → Type 0) where
    -- nothing is written yet
    pub advance_none : (u p : ℕ) (bytes : List ℕ) → IsPlace history n space u p → IsNotBefore upto part u p → OnlyAfter e bytes old
        → Shows (picture_at history n space count state u p first) bytes → Leaves e may old old
    advance_none u p bytes at not_before only shows = record {
      earlier = λ f c lt image. image;
      during = λ c image. inl image;
      later = λ f c lt image. (
        c,
        image,
        record {
          further = u;
          more = p;
          place = at;
          not_before = not_before;
          shows = subst (Shows (picture_at history n space count state u p first)) (sym (only f c lt image)) shows;
        },
      );
    }

    -- one move
    pub advance_moves : (u v p q : ℕ) → IsPlace history n space u p → IsNotBefore upto part u p → IsPlace history n space v q → IsNotBefore upto part v q
        → Leaves e (Moves (picture_at history n space count state u p first) (picture_at history n space count state v q first)) old new → Leaves e may old new
    advance_moves u v p q at not_before then further call =
        weaker may (Moves (picture_at history n space count state u p first) (picture_at history n space count state v q first)) e old old new call
        (λ f d c lt image move. moves_advance u v p q d c at not_before then further move)

    -- one after another
    pub advance_again : Leaves e may old mid → Leaves e may mid new → Leaves e may old new
    advance_again before after =
        goes_on may may e old mid new before after
        (λ f d c lt image step. let was = before.later f d lt image in (was.0, was.1, again was.0 d c step))
      where
        again : (b d c : List ℕ) → may d c → may b c
        again b d c step = record { further = step.further; more = step.more; place = step.place; not_before = step.not_before; shows = step.shows }
