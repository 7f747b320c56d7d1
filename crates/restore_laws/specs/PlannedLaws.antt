-- The chain that is planned for a space of a fit site builds up from nothing.
use Rattle.std.specs.Prelude.{◌≡◌, ◌⊎◌, ℕ, suc, ◌+◌, ◌≤◌, ◌==◌, ◌&&◌, List, [], ◌∷◌, length, reverse, filter, fold, Bool, true, false, nat_lt, nat_le, if◌then◌else◌, Option, Some, None, Contains}
use Rattle.std.specs.List.{AllByRecursion, filter_map}
use mathlib.Core.Logic.{inl, inr}
use Rattle.std.proofs.Common.{arith, refl, sym, ap, subst, ◌∙◌, ⊎_elim}
use Rattle.std.proofs.lemmas.Bool.Decides.{nat_tests}
use Rattle.log_history.specs.History.{LogEntry, History, begin, write, commit, abort, reset}
use Rattle.log_history.specs.Live.{ResetPoint, live, live_by, reset_points, reset_points_back}
use Rattle.log_history.specs.Effects.{empty_page, page_at}
use Rattle.log_history.specs.Transactions.{InOrder, InOrderBack}
use Rattle.block_chain.specs.Blocks.{times}
use Rattle.site_headers.specs.Heads.{Head}
use Rattle.backup_lines.specs.Lines.{Archive, Line, archived, logged, gone, is_live, archive_in, live_archives}
use Rattle.backup_lines.specs.Chains.{is_link, is_later, last_link, and_on, chain_of}
use Rattle.site_worlds.specs.Worlds.{Store, Site}
use Rattle.site_worlds.specs.Fitness.{FitLevel, FitBase, FitLine, FitLines, copies_in, IsFitSite}
use Rattle.world_laws.specs.ListLaws.{all_of, all_filter, contains_cases, contains_here, contains_later, none_some, some_same}
use Rattle.restore_laws.specs.Merged.{merged, BuildUp, top_at}
use Rattle.restore_laws.specs.MergedLaws.{full_chain_merged}

-- the position before the first record is live everywhere

live_zero_back : (back : List LogEntry) (n : ℕ) → InOrderBack back → live_by (reset_points_back back) n 0 ≡ true
live_zero_back [] n order = grind (arith, nat_tests)
live_zero_back (begin txn ∷ past) n order = live_zero_back past n order.1
live_zero_back (write txn patch ∷ past) n order = live_zero_back past n order.1
live_zero_back (commit txn time ∷ past) n order = live_zero_back past n order.1
live_zero_back (abort txn ∷ past) n order = live_zero_back past n order.1
live_zero_back (reset restore target time ∷ past) n order = by (nat_lt n (suc (length past))) (live_zero_back past n order.1)
    (nat_lt target (suc (length past))) (grind (arith, nat_tests, order.0.0)) (live_by (reset_points_back past) target 0) (live_zero_back past target order.1)
  where
    by : (b : Bool) → live_by (reset_points_back past) n 0 ≡ true → (c : Bool) → c ≡ true → (d : Bool) → d ≡ true
        → (if b then live_by (reset_points_back past) n 0 else (if nat_le (suc (length past)) 0 then nat_le 0 n else (c && d))) ≡ true
    by true before c is d also = before
    by false before c is d also = grind (arith, nat_tests, is, also)

pub live_at_zero : (history : History) (n : ℕ) → InOrder history → live history n 0 ≡ true
live_at_zero history n order = live_zero_back (reverse history) n order

-- what is picked from a list is one of it

module _ (P : Archive → Type 0) where
  picked : (xs : List Archive) (best : Option Archive) (archive : Archive) → AllByRecursion P xs → ((a : Archive) → best ≡ Some a → P a)
      → fold (λ best archive. if is_later archive best then Some archive else best) best xs ≡ Some archive → P archive
  picked [] best archive all holds is = holds archive is
  picked (x ∷ xs) best archive all holds is = picked xs (if is_later x best then Some x else best) archive all.1 (by (is_later x best)) is
    where
      by : (b : Bool) (a : Archive) → (if b then Some x else best) ≡ Some a → P a
      by true a same = subst P (some_same same) all.0
      by false a same = holds a same

  of_lines : (lines : List Line) → ((archive : Archive) → Contains lines (archived archive) → P archive) → AllByRecursion P (filter_map archive_in lines)
  of_lines [] each = tt
  of_lines (archived archive ∷ lines) each =
      (each archive (contains_here (archived archive) lines), of_lines lines (λ a is. each a (contains_later (archived a) (archived archive) lines is)))
  of_lines (logged span ∷ lines) each = of_lines lines (λ a is. each a (contains_later (archived a) (logged span) lines is))
  of_lines (gone copy ∷ lines) each = of_lines lines (λ a is. each a (contains_later (archived a) (gone copy) lines is))

  filtered : (test : Archive → Bool) (xs : List Archive) → AllByRecursion P xs → AllByRecursion (λ a. (test a ≡ true) × P a) (filter test xs)
  filtered test [] all = tt
  filtered test (x ∷ xs) all = by (test x) refl (filtered test xs all.1)
    where
      by : (b : Bool) → test x ≡ b → AllByRecursion (λ a. (test a ≡ true) × P a) (filter test xs)
          → AllByRecursion (λ a. (test a ≡ true) × P a) (if b then x ∷ filter test xs else filter test xs)
      by true is rest = ((is, all.0), rest)
      by false is rest = rest

-- a link of a chain: an archive with a line, of the space and level, on the archive with a copy id
pub record IsLink (lines : List Line) (space level base : ℕ) (archive : Archive) : Type 0 where
  pub line : Contains lines (archived archive)
  pub same_space : archive.space ≡ space
  pub same_level : archive.level ≡ level
  pub same_base : archive.base_copy ≡ base

-- whose position is live at another
pub record IsLiveLink (lines : List Line) (resets : List ResetPoint) (space level base q : ℕ) (archive : Archive) : Type 0 where
  pub link : IsLink lines space level base archive
  pub is_live : live_by resets q archive.at ≡ true

-- The last link is one, and is live.
pub last_link_is : (lines : List Line) (resets : List ResetPoint) (space level base q : ℕ) (archive : Archive)
    → last_link resets space level base q (live_archives lines) ≡ Some archive → IsLiveLink lines resets space level base q archive
last_link_is lines resets space level base q archive is =
    let holds : (is_link resets space level base q archive ≡ true) × Contains lines (archived archive) =
    picked (λ a. (is_link resets space level base q a ≡ true) × Contains lines (archived a))
    (filter (is_link resets space level base q) (live_archives lines)) None archive
    (filtered (λ a. Contains lines (archived a)) (is_link resets space level base q) (live_archives lines)
    (all_filter (λ a. Contains lines (archived a)) (λ a. is_live lines a.copy) (filter_map archive_in lines) (of_lines (λ a. Contains lines (archived a)) lines (λ a has. has))))
    (λ a none. absurd (none_some none)) is in
    record {
      link = record {
        line = holds.1;
        same_space = first (archive.space == space) refl (archive.level == level) (archive.base_copy == base) (live_by resets q archive.at) holds.0;
        same_level = second (archive.space == space) (archive.level == level) refl (archive.base_copy == base) (live_by resets q archive.at) holds.0;
        same_base = third (archive.space == space) (archive.level == level) (archive.base_copy == base) refl (live_by resets q archive.at) holds.0;
      };
      is_live = fourth (archive.space == space) (archive.level == level) (archive.base_copy == base) (live_by resets q archive.at) holds.0;
    }
  where
    first : (a : Bool) → (archive.space == space) ≡ a → (b c d : Bool) → ((a && b) && c) && d ≡ true → archive.space ≡ space
    first true same b c d all = grind (arith, nat_tests, same)
    first false same b c d all = absurd (grind (arith, all))

    second : (a b : Bool) → (archive.level == level) ≡ b → (c d : Bool) → ((a && b) && c) && d ≡ true → archive.level ≡ level
    second a true same c d all = grind (arith, nat_tests, same)
    second true false same c d all = absurd (grind (arith, all))
    second false false same c d all = absurd (grind (arith, all))

    third : (a b c : Bool) → (archive.base_copy == base) ≡ c → (d : Bool) → ((a && b) && c) && d ≡ true → archive.base_copy ≡ base
    third a b true same d all = grind (arith, nat_tests, same)
    third a b false same d all = absurd (grind (arith, all))

    fourth : (a b c d : Bool) → ((a && b) && c) && d ≡ true → d ≡ true
    fourth a b c true all = refl
    fourth a b c false all = grind (arith, all)

last_is_link : (lines : List Line) (resets : List ResetPoint) (space level base q : ℕ) (archive : Archive)
    → last_link resets space level base q (live_archives lines) ≡ Some archive → IsLink lines space level base archive
last_is_link lines resets space level base q archive is = (last_link_is lines resets space level base q archive is).link

-- no two archives with lines have the same copy id

copies_more : (line : Line) (lines : List Line) (copy : ℕ) → times copy (copies_in lines) ≤ times copy (copies_in (line ∷ lines))
copies_more (archived archive) lines copy = omega arith
copies_more (logged span) lines copy = omega arith
copies_more (gone other) lines copy = omega arith

counted_here : (archive : Archive) (lines : List Line) (copy : ℕ) → archive.copy ≡ copy → suc (times copy (copies_in lines)) ≤ times copy (copies_in (archived archive ∷ lines))
counted_here archive lines copy same = by (archive.copy == copy) (grind (arith, nat_tests, same))
  where
    by : (b : Bool) → b ≡ true → suc (times copy (copies_in lines)) ≤ (if b then 1 else 0) + times copy (copies_in lines)
    by true is = omega arith
    by false is = absurd (grind (arith, is))

counted : (lines : List Line) (archive : Archive) → Contains lines (archived archive) → 1 ≤ times archive.copy (copies_in lines)
counted [] archive is = absurd (omega (arith, is.1))
counted (line ∷ lines) archive is = ⊎_elim
    (λ same. subst (λ (l : Line). 1 ≤ times archive.copy (copies_in (l ∷ lines))) (sym same) (omega (arith, counted_here archive lines archive.copy refl)))
    (λ later. omega (arith, counted lines archive later, copies_more line lines archive.copy))
    (contains_cases (archived archive) line lines is)

archived_same : (a b : Archive) → archived a ≡ archived b → a ≡ b
archived_same a b is = some_same (ap archive_in is)

not_twice : (a b : Archive) (line : Line) (lines : List Line) → ((copy : ℕ) → times copy (copies_in (line ∷ lines)) ≤ 1) → line ≡ archived a → Contains lines (archived b)
    → a.copy ≡ b.copy → ⊥
not_twice a b line lines once is later same = omega (
  arith,
  counted lines b later,
  counted_here a lines b.copy same,
  subst (λ (l : Line). times b.copy (copies_in (l ∷ lines)) ≤ 1) is (once b.copy),
)

same_archive : (lines : List Line) → ((copy : ℕ) → times copy (copies_in lines) ≤ 1) → (a b : Archive) → Contains lines (archived a) → Contains lines (archived b)
    → a.copy ≡ b.copy → a ≡ b
same_archive [] once a b has also same = absurd (omega (arith, has.1))
same_archive (line ∷ lines) once a b has also same = by (contains_cases (archived a) line lines has) (contains_cases (archived b) line lines also)
    (same_archive lines (λ copy. omega (arith, once copy, copies_more line lines copy)) a b)
  where
    by : (line ≡ archived a) ⊎ Contains lines (archived a) → (line ≡ archived b) ⊎ Contains lines (archived b)
        → (Contains lines (archived a) → Contains lines (archived b) → a.copy ≡ b.copy → a ≡ b) → a ≡ b
    by (inl is) (inl it) rest = archived_same a b (sym is ∙ it)
    by (inl is) (inr later) rest = absurd (not_twice a b line lines once is later same)
    by (inr later) (inl is) rest = absurd (not_twice b a line lines once is later (sym same))
    by (inr later) (inr further) rest = rest later further same

-- the chain

module _ (head : Head) (history : History) (starts : List ℕ) (store : Store) (lines : List Line) (fit : FitLines head history starts store lines) where
  level_of : (archive : Archive) (level : ℕ) → Contains lines (archived archive) → archive.level ≡ level → FitLevel history lines archive level
  level_of archive level has is =
      subst (FitLevel history lines archive) is (all_of (FitLine head history starts store lines) lines (archived archive) fit.each has).builds

  -- a link builds on the archive whose copy id it names
  builds_on : (lower upper : Archive) (space level : ℕ) → Contains lines (archived lower) → IsLink lines space (suc level) lower.copy upper
      → (upper.base ≡ lower.at) × (live history upper.at lower.at ≡ true)
  builds_on lower upper space level has link =
      let builds : FitBase history lines upper = level_of upper (suc level) link.line link.same_level in
      let is : builds.base ≡ lower = same_archive lines fit.once builds.base lower builds.line has (builds.same_copy ∙ link.same_base) in
      let at : upper.base ≡ lower.at = sym builds.same_base ∙ ap (λ (a : Archive). a.at) is in
      (at, subst (λ (n : ℕ). live history upper.at n ≡ true) at builds.is_live)

  second_builds_up : (space : ℕ) (one : Archive) (o : Option Archive) → Contains lines (archived one)
      → ((two : Archive) → o ≡ Some two → IsLink lines space 2 one.copy two) → BuildUp history space one.at (and_on o (λ two. []))
  second_builds_up space one None has link = tt
  second_builds_up space one (Some two) has link =
      let is : IsLink lines space 2 one.copy two = link two refl in
      let on = builds_on one two space 1 has is in
      (is.same_space, on.0, on.1, tt)

  first_builds_up : (space q : ℕ) (archive : Archive) (o : Option Archive) → Contains lines (archived archive)
      → ((one : Archive) → o ≡ Some one → IsLink lines space 1 archive.copy one)
      → BuildUp history space archive.at (and_on o (λ one. and_on (last_link (reset_points history) space 2 one.copy q (live_archives lines)) (λ two. [])))
  first_builds_up space q archive None has link = tt
  first_builds_up space q archive (Some one) has link =
      let is : IsLink lines space 1 archive.copy one = link one refl in
      let on = builds_on archive one space 0 has is in (
        is.same_space,
        on.0,
        on.1,
        second_builds_up space one (last_link (reset_points history) space 2 one.copy q (live_archives lines)) is.line
            (λ two same. last_is_link lines (reset_points history) space 2 one.copy q two same),
      )

  chain_builds_up : InOrder history → (space q : ℕ) (o : Option Archive) → ((archive : Archive) → o ≡ Some archive → IsLink lines space 0 0 archive)
      → BuildUp history space 0 (and_on o (λ zero. and_on (last_link (reset_points history) space 1 zero.copy q (live_archives lines))
      (λ one. and_on (last_link (reset_points history) space 2 one.copy q (live_archives lines)) (λ two. []))))
  chain_builds_up order space q None link = tt
  chain_builds_up order space q (Some archive) link =
      let is : IsLink lines space 0 0 archive = link archive refl in
      let full : FitLevel history lines archive 0 = level_of archive 0 is.line is.same_level in (
        is.same_space,
        full.0,
        live_at_zero history archive.at order,
        first_builds_up space q archive (last_link (reset_points history) space 1 archive.copy q (live_archives lines)) is.line
            (λ one same. last_is_link lines (reset_points history) space 1 archive.copy q one same),
      )

  -- The chain that is planned for a position builds up from nothing.
  pub planned_builds_up : InOrder history → (space q : ℕ) → BuildUp history space 0 (chain_of (live_archives lines) (reset_points history) space q)
  planned_builds_up order space q = chain_builds_up order space q (last_link (reset_points history) space 0 0 q (live_archives lines))
      (λ archive same. last_is_link lines (reset_points history) space 0 0 q archive same)

-- The archives that are planned for a space of a fit site, merged, give each of its pages at the position of the last.
pub planned_chain_merged : (site : Site) → IsFitSite site → (space q number : ℕ)
    → fold (merged site.history number) empty_page (chain_of (live_archives site.lines) (reset_points site.history) space q)
    ≡ page_at site.history (top_at 0 (chain_of (live_archives site.lines) (reset_points site.history) space q)) space number
planned_chain_merged site fit space q number = full_chain_merged site.history space number (chain_of (live_archives site.lines) (reset_points site.history) space q)
    (planned_builds_up site.head site.history site.starts site.store site.lines fit.lines fit.history.order space q)
