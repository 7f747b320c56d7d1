-- A fit site stays fit where a transaction adds and deletes objects.
use Rattle.std.specs.Prelude.{◌≡◌, ◌⊎◌, ℕ, suc, ◌+◌, ◌<◌, ◌≤◌, List, [], ◌∷◌, ◌++◌, length, filter, Bool, true, false, not, if◌then◌else◌, Contains}
use mathlib.Core.Logic.{inl, inr}
use Rattle.std.proofs.Common.{arith, subst, ⊎_elim}
use Rattle.std.proofs.lemmas.List.Elements.{Contains-append_cases}
use Rattle.log_history.specs.History.{History}
use Rattle.site_headers.specs.Heads.{Head}
use Rattle.backup_lines.specs.Lines.{Line, archived, logged, gone}
use Rattle.site_worlds.specs.Worlds.{Kept, Store, Site}
use Rattle.site_worlds.specs.Objects.{IsKept, Holds}
use Rattle.site_worlds.specs.Fitness.{AscendWithin, FitLine, IsFitSite}
use Rattle.site_worlds.specs.Moves.{is_among, store_after, site_after, commit_objects}
use Rattle.site_worlds.specs.Allowed.{FollowFrom, CanCommit}
use Rattle.world_laws.specs.ListLaws.{all_append, all_filter, all_weaker, contains_cases, contains_filter, contains_none}

ascend_from : (less before last : ℕ) (kept : List Kept) → less ≤ before → AscendWithin before last kept → AscendWithin less last kept
ascend_from less before last [] le ascend = omega (arith, le, ascend)
ascend_from less before last (k ∷ kept) le ascend = (omega (arith, le, ascend.0), ascend.1)

ascend_filter : (test : Kept → Bool) (before last : ℕ) (kept : List Kept) → AscendWithin before last kept → AscendWithin before last (filter test kept)
ascend_filter test before last [] ascend = ascend
ascend_filter test before last (k ∷ kept) ascend = by (test k) (ascend_filter test k.object.copy last kept ascend.1)
  where
    by : (b : Bool) → AscendWithin k.object.copy last (filter test kept) → AscendWithin before last (if b then k ∷ filter test kept else filter test kept)
    by true rest = (ascend.0, rest)
    by false rest = ascend_from before k.object.copy last (filter test kept) (omega (arith, ascend.0)) rest

ascend_follow : (before last : ℕ) (added : List Kept) → before ≤ last → FollowFrom last added → AscendWithin before (last + length added) added
ascend_follow before last [] le follow = omega (arith, le)
ascend_follow before last (k ∷ added) le follow = (
  omega (arith, le, follow.0),
  subst (λ (n : ℕ). AscendWithin k.object.copy n added) (sum last (length added))
      (ascend_follow k.object.copy (suc last) added (omega (arith, follow.0)) follow.1),
)
  where
    sum : (a b : ℕ) → suc a + b ≡ a + suc b
    sum a b = omega arith

ascend_append : (before last : ℕ) (kept added : List Kept) → AscendWithin before last kept → FollowFrom last added → AscendWithin before (last + length added) (kept ++ added)
ascend_append before last [] added ascend follow = ascend_follow before last added ascend follow
ascend_append before last (k ∷ kept) added ascend follow = (ascend.0, ascend_append k.object.copy last kept added ascend.1 follow)

-- an added object has a copy id behind the last one
added_behind : (last : ℕ) (added : List Kept) (kept : Kept) → FollowFrom last added → Contains added kept → last < kept.object.copy
added_behind last [] kept follow is = absurd (contains_none kept is)
added_behind last (k ∷ added) kept follow is = by (contains_cases kept k added is) (added_behind (suc last) added kept follow.1)
  where
    by : (k ≡ kept) ⊎ Contains added kept → (Contains added kept → suc last < kept.object.copy) → last < kept.object.copy
    by (inl same) rest = subst (λ (other : Kept). last < other.object.copy) same (omega (arith, follow.0))
    by (inr later) rest = omega (arith, rest later)

pub holds_after : (added : List Kept) (deleted : List ℕ) (store : Store) (copy volume : ℕ) (bytes : List ℕ) → FollowFrom store.last added → copy ≤ store.last
    → Holds store copy volume bytes → Holds (store_after added deleted store) copy volume bytes
holds_after added deleted store copy volume bytes follow le holds kept is same = ⊎_elim
    (λ old. holds kept (contains_filter (λ k. not (is_among deleted k.object.copy)) store.kept kept old) same)
    (λ new. absurd (omega (arith, added_behind store.last added kept follow new, same, le)))
    (Contains-append_cases (filter (λ k. not (is_among deleted k.object.copy)) store.kept) added kept is)

line_after : (head : Head) (history : History) (starts : List ℕ) (store : Store) (added : List Kept) (deleted : List ℕ) (lines : List Line) (line : Line)
    → FollowFrom store.last added → FitLine head history starts store lines line → FitLine head history starts (store_after added deleted store) lines line
line_after head history starts store added deleted lines (archived archive) follow fit = record {
  space = fit.space;
  level = fit.level;
  reached = fit.reached;
  low = fit.low;
  builds = fit.builds;
  copy = omega (arith, fit.copy);
  holds = holds_after added deleted store archive.copy archive.space _ follow fit.copy fit.holds;
}
line_after head history starts store added deleted lines (logged span) follow fit = record {
  agrees = fit.agrees;
  copy = omega (arith, fit.copy);
  holds = holds_after added deleted store span.copy 16 _ follow fit.copy fit.holds;
}
line_after head history starts store added deleted lines (gone copy) follow fit = omega (arith, fit)

pub kept_commit : (added : List Kept) (deleted : List ℕ) (site : Site) → CanCommit added deleted site → IsFitSite site → IsFitSite (site_after (commit_objects added deleted) site)
kept_commit added deleted site can fit = record {
  head = fit.head;
  history = fit.history;
  brief = fit.brief;
  files = fit.files;
  store = record {
    ascend = ascend_append 0 site.store.last (filter test site.store.kept) added (ascend_filter test 0 site.store.last site.store.kept fit.store.ascend) can.follow;
    each = all_append IsKept (filter test site.store.kept) added (all_filter IsKept test site.store.kept fit.store.each) can.each;
    apart = can.apart;
    damaged = all_weaker (λ copy. copy ≤ site.store.last) (λ copy. copy ≤ site.store.last + length added) site.store.damaged (λ copy le. omega (arith, le)) fit.store.damaged;
  };
  lines = record {
    each = all_weaker (FitLine site.head site.history site.starts site.store site.lines) (FitLine site.head site.history site.starts (store_after added deleted site.store) site.lines)
        site.lines (λ line. line_after site.head site.history site.starts site.store added deleted site.lines line can.follow) fit.lines.each;
    once = fit.lines.once;
  };
  restore = fit.restore;
  lanes = fit.lanes;
}
  where
    test : Kept → Bool
    test kept = not (is_among deleted kept.object.copy)
