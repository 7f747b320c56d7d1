-- Laws of what is laid at a place of a way.
use Rattle.std.specs.Prelude.{◌≡◌, ℕ, zero, suc, ◌+◌, ◌≤◌, ◌&&◌, ◌==◌, List, [], ◌∷◌, ◌++◌, length, filter, fold, take, Bool, true, false, nat_le, nat_lt, if◌then◌else◌}
use Rattle.std.proofs.Common.{arith, refl, sym, ap, subst, ◌∙◌, length-append, take_all}
use Rattle.std.proofs.lemmas.Bool.Decides.{nat_tests}
use Rattle.std.proofs.lemmas.List.{take-append-le, take_at}
use Rattle.std.proofs.lemmas.List.Elements.{filter-append}
use Rattle.log_history.specs.History.{History}
use Rattle.log_history.specs.Live.{live, reset_points}
use Rattle.log_history.specs.Effects.{Change, Page, changes, empty_page, page_at, with_change}
use Rattle.space_pages.specs.Pages.{brought, empty_pages, pages_of}
use Rattle.history_laws.specs.LiveLaws.{live_within, live_along}
use Rattle.history_laws.specs.PagesLaws.{changes_before}
use Rattle.lane_ways.specs.Ways.{IsPlace, changes_behind, changes_up_to, count_of, count_of_first, laid_at, lane_changes, lane_page, lane_pages, page_with, pages_with}
use Rattle.lane_ways.specs.ListLaws.{fold_space}
use Rattle.lane_ways.specs.ChangesLaws.{laid_within, up_to_along, way_along, way_at_live}
use Rattle.lane_ways.specs.LiveLaws.{live_before, old_end_is_live}

-- all changes of the way

pub page_all : (history : History) (n space number count : ℕ) → length (lane_changes history n space) ≤ count
    → page_with (lane_changes history n space) count space number ≡ page_at history n space number
page_all history n space number count le =
    ap (fold (with_change space number) empty_page) (take_all count (lane_changes history n space) le) ∙ fold_space space number empty_page (changes history n)

-- the changes of a space alone bring its pages where all changes do
brought_space : (space first : ℕ) (list : List Change) (pages : List Page)
    → brought space first (filter (λ change. change.patch.space == space) list) pages ≡ brought space first list pages
brought_space space first list [] = refl
brought_space space first list (page ∷ pages) =
    ap (λ (p : Page). p ∷ brought space (first + 1) (filter (λ change. change.patch.space == space) list) pages) (fold_space space first page list)
    ∙ ap (λ (rest : List Page). fold (with_change space first) page list ∷ rest) (brought_space space (first + 1) list pages)

made : (history : History) (n space first count : ℕ) → brought space first (changes history n) (empty_pages count) ≡ pages_of history n space first count
made history n space first zero = refl
made history n space first (suc count) = ap (λ (rest : List Page). page_at history n space first ∷ rest) (made history n space (first + 1) count)

pub pages_all : (history : History) (n space pages count : ℕ) → length (lane_changes history n space) ≤ count
    → pages_with (lane_changes history n space) count space pages ≡ pages_of history n space 0 pages
pages_all history n space pages count le =
    ap (λ (list : List Change). brought space 0 list (empty_pages pages)) (take_all count (lane_changes history n space) le)
    ∙ brought_space space 0 (changes history n) (empty_pages pages) ∙ made history n space 0 pages

-- a live position

-- At a place behind a live position the changes up to it are laid, and so many of the next.
pub laid_at_live : (history : History) (q a space part : ℕ) → live history q a ≡ true
    → laid_at (lane_changes history q space) a part ≡ length (lane_changes history a space) + part
laid_at_live history q a space part is = ap (λ (list : List Change). length list + part) (way_at_live history q a space is)

-- At a live position with nothing more laid the pages are those at it.
pub page_at_live : (history : History) (q a space number : ℕ) → live history q a ≡ true → lane_page history q space a 0 number ≡ page_at history a space number
page_at_live history q a space number is =
    ap (λ (count : ℕ). page_with (lane_changes history q space) count space number) (laid_at_live history q a space 0 is ∙ plus_zero (length (lane_changes history a space)))
    ∙ ap (λ (list : List Change). fold (with_change space number) empty_page (take (length (lane_changes history a space)) list)) (way_along history q a space is)
    ∙ ap (fold (with_change space number) empty_page) (take_at (lane_changes history a space) (changes_behind a (lane_changes history q space)) (length (lane_changes history a space)) refl)
    ∙ fold_space space number empty_page (changes history a)
  where
    plus_zero : (n : ℕ) → n + 0 ≡ n
    plus_zero n = omega arith

pub pages_at_live : (history : History) (q a space pages : ℕ) → live history q a ≡ true → lane_pages history q space a 0 pages ≡ pages_of history a space 0 pages
pages_at_live history q a space pages is =
    ap (λ (count : ℕ). pages_with (lane_changes history q space) count space pages) (laid_at_live history q a space 0 is ∙ plus_zero (length (lane_changes history a space)))
    ∙ ap (λ (list : List Change). brought space 0 (take (length (lane_changes history a space)) list) (empty_pages pages)) (way_along history q a space is)
    ∙ ap (λ (list : List Change). brought space 0 list (empty_pages pages)) (take_at (lane_changes history a space) (changes_behind a (lane_changes history q space)) (length (lane_changes history a space)) refl)
    ∙ brought_space space 0 (changes history a) (empty_pages pages) ∙ made history a space 0 pages
  where
    plus_zero : (n : ℕ) → n + 0 ≡ n
    plus_zero n = omega arith

-- Of two live positions: at the earlier one, with the Writes up to the later one and so many more laid, as much is laid as at the later one.
pub laid_along : (history : History) (q a b space part : ℕ) → live history q a ≡ true → live history q b ≡ true → a ≤ b
    → laid_at (lane_changes history q space) a (length (changes_behind a (lane_changes history b space)) + part) ≡ laid_at (lane_changes history q space) b part
laid_along history q a b space part is later le =
    let between : live history b a ≡ true = sym (live_along (reset_points history) q b a later le) ∙ is in
    omega (
      arith,
      laid_at_live history q a space (length (changes_behind a (lane_changes history b space)) + part) is,
      laid_at_live history q b space part later,
      ap length (way_along history b a space between),
      length-append (lane_changes history a space) (changes_behind a (lane_changes history b space)),
    )

-- records behind

-- The way to a place on it is the same along a later position at which it is live.
pub laid_further : (history : History) (q a space upto part : ℕ) → live history q a ≡ true → upto ≤ a
    → laid_at (lane_changes history q space) upto part ≡ laid_at (lane_changes history a space) upto part
laid_further history q a space upto part is le = ap (λ (list : List Change). length list + part) (up_to_along history q a upto space is le)

page_further : (history : History) (q a space number count : ℕ) → live history q a ≡ true → count ≤ length (lane_changes history a space)
    → page_with (lane_changes history q space) count space number ≡ page_with (lane_changes history a space) count space number
page_further history q a space number count is le =
    ap (fold (with_change space number) empty_page)
    (ap (take count) (way_along history q a space is) ∙ take-append-le count (lane_changes history a space) (changes_behind a (lane_changes history q space)) le)

pages_further : (history : History) (q a space pages count : ℕ) → live history q a ≡ true → count ≤ length (lane_changes history a space)
    → pages_with (lane_changes history q space) count space pages ≡ pages_with (lane_changes history a space) count space pages
pages_further history q a space pages count is le =
    ap (λ (list : List Change). brought space 0 list (empty_pages pages))
    (ap (take count) (way_along history q a space is) ∙ take-append-le count (lane_changes history a space) (changes_behind a (lane_changes history q space)) le)

pub way_before : (history more : History) (n space : ℕ) → n ≤ length history → lane_changes (history ++ more) n space ≡ lane_changes history n space
way_before history more n space le = ap (filter (λ (change : Change). change.patch.space == space)) (changes_before history more n le)

-- A batch without a Reset only adds to the way.
pub way_grows : (history more : History) (space : ℕ) → reset_points more ≡ []
    → lane_changes (history ++ more) (length (history ++ more)) space
    ≡ lane_changes history (length history) space ++ changes_behind (length history) (lane_changes (history ++ more) (length (history ++ more)) space)
way_grows history more space none =
    way_along (history ++ more) (length (history ++ more)) (length history) space (old_end_is_live history more none)
    ∙ ap (λ (list : List Change). list ++ changes_behind (length history) (lane_changes (history ++ more) (length (history ++ more)) space)) (way_before history more (length history) space (omega arith))

-- So at a place the same is laid,
pub laid_same : (history more : History) (space upto part : ℕ) → reset_points more ≡ [] → upto ≤ length history
    → laid_at (lane_changes (history ++ more) (length (history ++ more)) space) upto part ≡ laid_at (lane_changes history (length history) space) upto part
laid_same history more space upto part none le =
    laid_further (history ++ more) (length (history ++ more)) (length history) space upto part (old_end_is_live history more none) le
    ∙ ap (λ (way : List Change). laid_at way upto part) (way_before history more (length history) space (omega arith))

-- it is a place still,
count_more : (c : ℕ) (xs ys : List Change) → count_of c xs ≤ count_of c (xs ++ ys)
count_more c [] ys = omega arith
count_more c (x ∷ xs) ys = by (x.commit == c) (count_more c xs ys)
  where
    by : (b : Bool) → count_of c xs ≤ count_of c (xs ++ ys) → (if b then suc (count_of c xs) else 0) ≤ (if b then suc (count_of c (xs ++ ys)) else 0)
    by true rest = omega (arith, rest)
    by false rest = omega arith

first_more : (xs ys : List Change) → count_of_first xs ≤ count_of_first (xs ++ ys)
first_more [] ys = omega arith
first_more (x ∷ xs) ys = omega (arith, count_more x.commit xs ys)

pub place_further : (history : History) (q a space upto part : ℕ) → live history q a ≡ true → IsPlace history a space upto part → IsPlace history q space upto part
place_further history q a space upto part is place =
    let le : upto ≤ a = live_within (reset_points history) a upto place.is_live in
    record {
      is_live = live_along (reset_points history) q a upto is le ∙ place.is_live;
      within = subst (λ (list : List Change). part ≤ count_of_first list)
          (sym (ap (changes_behind upto) (way_along history q a space is)
          ∙ filter-append (λ (change : Change). nat_lt upto change.commit) (lane_changes history a space) (changes_behind a (lane_changes history q space))))
          (omega (arith, place.within, first_more (changes_behind upto (lane_changes history a space)) (changes_behind upto (changes_behind a (lane_changes history q space)))));
    }

pub place_grows : (history more : History) (space upto part : ℕ) → reset_points more ≡ [] → IsPlace history (length history) space upto part
    → IsPlace (history ++ more) (length (history ++ more)) space upto part
place_grows history more space upto part none place =
    place_further (history ++ more) (length (history ++ more)) (length history) space upto part (old_end_is_live history more none) (record {
      is_live = live_before history more upto ∙ place.is_live;
      within = subst (λ (way : List Change). part ≤ count_of_first (changes_behind upto way)) (sym (way_before history more (length history) space (omega arith))) place.within;
    })

-- and the pages are the same.
pub page_same : (history more : History) (space upto part number : ℕ) → reset_points more ≡ [] → IsPlace history (length history) space upto part
    → lane_page (history ++ more) (length (history ++ more)) space upto part number ≡ lane_page history (length history) space upto part number
page_same history more space upto part number none place =
    ap (λ (count : ℕ). page_with (lane_changes (history ++ more) (length (history ++ more)) space) count space number)
    (laid_same history more space upto part none (live_within (reset_points history) (length history) upto place.is_live))
    ∙ page_further (history ++ more) (length (history ++ more)) (length history) space number laid (old_end_is_live history more none)
    (subst (λ (way : List Change). laid ≤ length way) (sym same) (laid_within history (length history) space upto part place))
    ∙ ap (λ (way : List Change). page_with way laid space number) same
  where
    laid : ℕ
    laid = laid_at (lane_changes history (length history) space) upto part

    same : lane_changes (history ++ more) (length history) space ≡ lane_changes history (length history) space
    same = way_before history more (length history) space (omega arith)

pub pages_same : (history more : History) (space upto part pages : ℕ) → reset_points more ≡ [] → IsPlace history (length history) space upto part
    → lane_pages (history ++ more) (length (history ++ more)) space upto part pages ≡ lane_pages history (length history) space upto part pages
pages_same history more space upto part pages none place =
    ap (λ (count : ℕ). pages_with (lane_changes (history ++ more) (length (history ++ more)) space) count space pages)
    (laid_same history more space upto part none (live_within (reset_points history) (length history) upto place.is_live))
    ∙ pages_further (history ++ more) (length (history ++ more)) (length history) space pages laid (old_end_is_live history more none)
    (subst (λ (way : List Change). laid ≤ length way) (sym same) (laid_within history (length history) space upto part place))
    ∙ ap (λ (way : List Change). pages_with way laid space pages) same
  where
    laid : ℕ
    laid = laid_at (lane_changes history (length history) space) upto part

    same : lane_changes (history ++ more) (length history) space ≡ lane_changes history (length history) space
    same = way_before history more (length history) space (omega arith)

-- commits without a Write into the space

-- between two positions stands no commit that any of these changes is of
abbrev pub IsIdle : List Change → ℕ → ℕ → Type 0
IsIdle way a b = filter (λ (change : Change). nat_lt a change.commit && nat_le change.commit b) way ≡ []

pub idle_both : (way : List Change) (a b : ℕ) → a ≤ b → IsIdle way a b → (changes_up_to a way ≡ changes_up_to b way) × (changes_behind a way ≡ changes_behind b way)
idle_both [] a b le idle = (refl, refl)
idle_both (x ∷ way) a b le idle = by (nat_lt a x.commit && nat_le x.commit b) refl idle (idle_both way a b le)
  where
    rest_idle : List Change
    rest_idle = filter (λ (change : Change). nat_lt a change.commit && nat_le change.commit b) way

    by : (c : Bool) → (nat_lt a x.commit && nat_le x.commit b) ≡ c → (if c then x ∷ filter (λ (change : Change). nat_lt a change.commit && nat_le change.commit b) way else filter (λ (change : Change). nat_lt a change.commit && nat_le change.commit b) way) ≡ []
        → (IsIdle way a b → (changes_up_to a way ≡ changes_up_to b way) × (changes_behind a way ≡ changes_behind b way))
        → (changes_up_to a (x ∷ way) ≡ changes_up_to b (x ∷ way)) × (changes_behind a (x ∷ way) ≡ changes_behind b (x ∷ way))
    by true is none deeper = absurd cc
    by false is none deeper =
        let rest = deeper none in
        let low : nat_le x.commit a ≡ nat_le x.commit b = same_low in
        let high : nat_lt a x.commit ≡ nat_lt b x.commit = same_high in (
          ap (λ (c : Bool). if c then x ∷ changes_up_to a way else changes_up_to a way) low ∙ ap (λ (l : List Change). if nat_le x.commit b then x ∷ l else l) rest.0,
          ap (λ (c : Bool). if c then x ∷ changes_behind a way else changes_behind a way) high ∙ ap (λ (l : List Change). if nat_lt b x.commit then x ∷ l else l) rest.1,
        )
      where
        same_low : nat_le x.commit a ≡ nat_le x.commit b
        same_low = grind (arith, nat_tests, is, le)

        same_high : nat_lt a x.commit ≡ nat_lt b x.commit
        same_high = grind (arith, nat_tests, is, le)

-- A place may as well stand behind commits without a Write into the space: as much is laid there.
pub idle_place : (history : History) (n space a b part : ℕ) → a ≤ b → live history n b ≡ true → IsIdle (lane_changes history n space) a b
    → IsPlace history n space a part → IsPlace history n space b part
idle_place history n space a b part le is idle place = record {
  is_live = is;
  within = subst (λ (list : List Change). part ≤ count_of_first list) (idle_both (lane_changes history n space) a b le idle).1 place.within;
}

pub idle_laid : (way : List Change) (a b part : ℕ) → a ≤ b → IsIdle way a b → laid_at way a part ≡ laid_at way b part
idle_laid way a b part le idle = ap (λ (list : List Change). length list + part) (idle_both way a b le idle).0
