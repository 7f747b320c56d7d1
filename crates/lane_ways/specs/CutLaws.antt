-- Laws of the place at which the work is cut.
use Rattle.std.specs.Prelude.{◌≡◌, ◌⊎◌, ℕ, zero, suc, ◌+◌, ◌-◌, ◌<◌, ◌≤◌, ◌==◌, max, List, [], ◌∷◌, ◌++◌, length, take, drop, Bool, true, false, ◌&&◌, nat_le, nat_lt, if◌then◌else◌}
use Rattle.std.specs.List.{AllByRecursion}
use mathlib.Core.Logic.{inl, inr}
use Rattle.std.proofs.Common.{arith, refl, sym, ap, subst, ◌∙◌, ⊎_elim, length-append, length-take, take-append-drop}
use Rattle.std.proofs.lemmas.Bool.{cases_lt, and_parts}
use Rattle.std.proofs.lemmas.Bool.Decides.{nat_tests}
use Rattle.std.proofs.lemmas.List.{length-take-le}
use Rattle.std.proofs.lemmas.List.Elements.{filter-append}
use Rattle.log_history.specs.History.{History, entry_at}
use Rattle.log_history.specs.Live.{live, reset_points}
use Rattle.log_history.specs.Effects.{Change, is_commit}
use Rattle.history_laws.specs.LiveLaws.{live_within}
use Rattle.lane_ways.specs.Ways.{IsNotBefore, IsPlace, Place, changes_before, changes_behind, changes_by, changes_up_to, count_of, count_of_first, cut, cut_by, laid_at, lane_changes, last_commit}
use Rattle.lane_ways.specs.ListLaws.{Rises, all_append, all_behind, all_filter, all_front, all_means, behind_none, both_parts, filter_none, passes_all, rises_before, rises_behind, up_to_all, up_to_none}
use Rattle.lane_ways.specs.ChangesLaws.{counts, way_counts, way_rises, way_within}
use Rattle.lane_ways.specs.LiveLaws.{live_before_commit, live_itself}
use Rattle.lane_ways.specs.WayLaws.{IsIdle, idle_both}

-- a list at a change

front_parts : (c : ℕ) (front : List Change) → AllByRecursion (λ (change : Change). change.commit ≤ suc c) front
    → (length (changes_up_to c front) + length (changes_by (suc c) front) ≡ length front) × (changes_behind c front ≡ changes_by (suc c) front)
front_parts c [] all = (refl, refl)
front_parts c (x ∷ front) all = by (cases_lt c x.commit) (front_parts c front all.1)
  where
    by : (c < x.commit) ⊎ (x.commit ≤ c) → (length (changes_up_to c front) + length (changes_by (suc c) front) ≡ length front) × (changes_behind c front ≡ changes_by (suc c) front)
        → (length (changes_up_to c (x ∷ front)) + length (changes_by (suc c) (x ∷ front)) ≡ length (x ∷ front)) × (changes_behind c (x ∷ front) ≡ changes_by (suc c) (x ∷ front))
    by (inl lt) rest =
        let le : x.commit ≤ suc c = all.0 in
        let none : nat_le x.commit c ≡ false = grind (arith, nat_tests, lt) in
        let same : (x.commit == suc c) ≡ true = grind (arith, nat_tests, lt, le) in
        let behind : nat_lt c x.commit ≡ true = grind (arith, nat_tests, lt) in (
          omega (
            arith,
            rest.0,
            ap (λ (b : Bool). length (if b then x ∷ changes_up_to c front else changes_up_to c front)) none,
            ap (λ (b : Bool). length (if b then x ∷ changes_by (suc c) front else changes_by (suc c) front)) same,
          ),
          ap (λ (b : Bool). if b then x ∷ changes_behind c front else changes_behind c front) behind
              ∙ ap (λ (l : List Change). x ∷ l) rest.1
              ∙ sym (ap (λ (b : Bool). if b then x ∷ changes_by (suc c) front else changes_by (suc c) front) same),
        )
    by (inr le) rest =
        let some : nat_le x.commit c ≡ true = grind (arith, nat_tests, le) in
        let other : (x.commit == suc c) ≡ false = grind (arith, nat_tests, le) in
        let not_behind : nat_lt c x.commit ≡ false = grind (arith, nat_tests, le) in (
          omega (
            arith,
            rest.0,
            ap (λ (b : Bool). length (if b then x ∷ changes_up_to c front else changes_up_to c front)) some,
            ap (λ (b : Bool). length (if b then x ∷ changes_by (suc c) front else changes_by (suc c) front)) other,
          ),
          ap (λ (b : Bool). if b then x ∷ changes_behind c front else changes_behind c front) not_behind
              ∙ rest.1
              ∙ sym (ap (λ (b : Bool). if b then x ∷ changes_by (suc c) front else changes_by (suc c) front) other),
        )

-- up to the position before a change's commit stand those before it that are of other commits
laid_before : (c : ℕ) (front rest : List Change) → AllByRecursion (λ (change : Change). change.commit ≤ suc c) front
    → AllByRecursion (λ (change : Change). suc c ≤ change.commit) rest
    → length (changes_up_to c (front ++ rest)) + length (changes_by (suc c) front) ≡ length front
laid_before c front rest all later =
    omega (
      arith,
      ap length (filter-append (λ (change : Change). nat_le change.commit c) front rest),
      length-append (changes_up_to c front) (changes_up_to c rest),
      ap length (up_to_none c rest (all_means (λ (change : Change). suc c ≤ change.commit) (λ (change : Change). c < change.commit) rest (λ change le. omega (arith, le)) later)),
      (front_parts c front all).0,
    )

count_all : (c : ℕ) (xs ys : List Change) → length (changes_by c xs) ≤ count_of c (changes_by c xs ++ ys)
count_all c [] ys = omega arith
count_all c (x ∷ xs) ys = by (x.commit == c) refl (count_all c xs ys)
  where
    by : (b : Bool) → (x.commit == c) ≡ b → length (changes_by c xs) ≤ count_of c (changes_by c xs ++ ys)
        → length (if b then x ∷ changes_by c xs else changes_by c xs) ≤ count_of c ((if b then x ∷ changes_by c xs else changes_by c xs) ++ ys)
    by true is rest = omega (arith, rest, ap (λ (b : Bool). if b then suc (count_of c (changes_by c xs ++ ys)) else 0) is)
    by false is rest = rest

-- where a commit has changes at the front, no more of them are there than of the first commit
first_of_one : (c : ℕ) (xs ys : List Change) → length (changes_by c xs) ≤ count_of_first (changes_by c xs ++ ys)
first_of_one c [] ys = omega arith
first_of_one c (x ∷ xs) ys = by (x.commit == c) refl (first_of_one c xs ys)
  where
    by : (b : Bool) → (x.commit == c) ≡ b → length (changes_by c xs) ≤ count_of_first (changes_by c xs ++ ys)
        → length (if b then x ∷ changes_by c xs else changes_by c xs) ≤ count_of_first ((if b then x ∷ changes_by c xs else changes_by c xs) ++ ys)
    by true is rest =
        let same : x.commit ≡ c = grind (arith, nat_tests, is) in
        omega (arith, subst (λ (n : ℕ). length (changes_by c xs) ≤ count_of n (changes_by c xs ++ ys)) (sym same) (count_all c xs ys))
    by false is rest = rest

-- the last commit of changes

pub last_means : (P : ℕ → Type 0) (from : ℕ) (list : List Change) → P from → AllByRecursion (λ (change : Change). P change.commit) list → P (last_commit from list)
last_means P from [] is all = is
last_means P from (x ∷ list) is all = last_means P (max from x.commit) list (by (cases_lt from x.commit)) all.1
  where
    by : (from < x.commit) ⊎ (x.commit ≤ from) → P (max from x.commit)
    by (inl lt) = let same : x.commit ≡ max from x.commit = omega (arith, lt) in subst P same all.0
    by (inr le) = let same : from ≡ max from x.commit = omega (arith, le) in subst P same is

pub last_least : (from : ℕ) (list : List Change) → from ≤ last_commit from list
last_least from [] = omega arith
last_least from (x ∷ list) = omega (arith, last_least (max from x.commit) list)

pub last_append : (from : ℕ) (front rest : List Change) → last_commit from (front ++ rest) ≡ last_commit (last_commit from front) rest
last_append from [] rest = refl
last_append from (x ∷ front) rest = last_append (max from x.commit) front rest

pub last_same : (from : ℕ) (list : List Change) → AllByRecursion (λ (change : Change). change.commit ≤ from) list → last_commit from list ≡ from
last_same from [] all = refl
last_same from (x ∷ list) all =
    let same : max from x.commit ≡ from = omega (arith, all.0) in
    ap (λ (k : ℕ). last_commit k list) same ∙ last_same from list all.1

-- none before a commit stands behind the last one before it
last_covers : (from next : ℕ) (list : List Change) → AllByRecursion (λ (change : Change). change.commit < next → change.commit ≤ last_commit from (changes_before next list)) list
last_covers from next [] = tt
last_covers from next (x ∷ list) = by (nat_lt x.commit next) refl (last_covers (max from x.commit) next list) (last_covers from next list)
  where
    before : Bool → List Change
    before b = if b then x ∷ changes_before next list else changes_before next list

    by : (b : Bool) → nat_lt x.commit next ≡ b
        → AllByRecursion (λ (change : Change). change.commit < next → change.commit ≤ last_commit (max from x.commit) (changes_before next list)) list
        → AllByRecursion (λ (change : Change). change.commit < next → change.commit ≤ last_commit from (changes_before next list)) list
        → AllByRecursion (λ (change : Change). change.commit < next → change.commit ≤ last_commit from (before b)) (x ∷ list)
    by true is more rest = (λ lt. omega (arith, last_least (max from x.commit) (changes_before next list)), more)
    by false is more rest = (λ lt. absurd (no lt), rest)
      where
        no : x.commit < next → ⊥
        no lt = grind (arith, nat_tests, is, lt)

-- a change that stands behind all that a place lays is of a commit behind its position
pub next_is_behind : (upto part : ℕ) (front : List Change) (next : Change) (rest : List Change) → Rises 0 (front ++ next ∷ rest)
    → laid_at (front ++ next ∷ rest) upto part ≤ length front → upto < next.commit
next_is_behind upto part front next rest rises le = ⊎_elim (λ lt. lt) (λ ge. absurd (no ge)) (cases_lt upto next.commit)
  where
    no : next.commit ≤ upto → ⊥
    no ge =
        let yes : nat_le next.commit upto ≡ true = grind (arith, nat_tests, ge) in
        omega (
          arith,
          le,
          ap length (filter-append (λ (change : Change). nat_le change.commit upto) front (next ∷ rest)),
          length-append (changes_up_to upto front) (changes_up_to upto (next ∷ rest)),
          ap length (up_to_all upto front (all_means (λ (change : Change). change.commit ≤ next.commit) (λ (change : Change). change.commit ≤ upto) front (λ change is. omega (arith, is, ge)) (rises_before 0 front next rest rises).1)),
          ap (λ (b : Bool). length (if b then next ∷ changes_up_to upto rest else changes_up_to upto rest)) yes,
        )

-- the cut

-- what a cut lays, and that it is a place, by the two parts of the way
pub record IsCut (history : History) (n space : ℕ) (front : List Change) (place : Place) : Type 0 where
  pub is_place : IsPlace history n space place.upto place.part
  pub lays : laid_at (lane_changes history n space) place.upto place.part ≡ length front

at_end : (history : History) (n space : ℕ) (front : List Change) → lane_changes history n space ≡ front ++ [] → IsCut history n space front (record { upto = n; part = 0 })
at_end history n space front is = record {
  is_place = record { is_live = live_itself (reset_points history) n; within = omega arith };
  lays = omega (
    arith,
    ap length (up_to_all n (lane_changes history n space) (way_within history n space)),
    ap length is,
    length-append front [],
  );
}

-- the commit of a change on the way is a position behind 0, and that before it is live
pub before_change : (history : History) (n c : ℕ) → counts history n c ≡ true → (b : ℕ) × (c ≡ suc b) × (live history n b ≡ true)
before_change history n zero is = absurd cc
before_change history n (suc b) is =
    let parts = and_parts (is_commit (entry_at history (suc b))) (live history n (suc b)) is in
    (b, refl, live_before_commit history n b parts.0 parts.1)

-- just before the next commit stands a place that lays the front
just_before : (history : History) (n space : ℕ) (front : List Change) (next : Change) (rest : List Change)
    → lane_changes history n space ≡ front ++ next ∷ rest → IsCut history n space front (record { upto = next.commit - 1; part = length (changes_by next.commit front) })
just_before history n space front next rest is =
    by next.commit refl (before_change history n next.commit
    (all_behind (λ (change : Change). counts history n change.commit ≡ true) front (next ∷ rest)
    (subst (AllByRecursion (λ (change : Change). counts history n change.commit ≡ true)) is (way_counts history n space))).0)
  where
    rises : Rises 0 (front ++ next ∷ rest)
    rises = subst (Rises 0) is (way_rises history n space)

    by : (c : ℕ) → next.commit ≡ c → (b : ℕ) × (c ≡ suc b) × (live history n b ≡ true) → IsCut history n space front (record { upto = next.commit - 1; part = length (changes_by next.commit front) })
    by c same (b, step, is_live) =
        let at : next.commit ≡ suc b = same ∙ step in
        let before : AllByRecursion (λ (change : Change). change.commit ≤ suc b) front =
        subst (λ (m : ℕ). AllByRecursion (λ (change : Change). change.commit ≤ m) front) at (rises_before 0 front next rest rises).1 in
        let behind : AllByRecursion (λ (change : Change). suc b ≤ change.commit) (next ∷ rest) =
        subst (λ (m : ℕ). AllByRecursion (λ (change : Change). m ≤ change.commit) (next ∷ rest)) at (rises_behind 0 front next rest rises) in
        subst (λ (m : ℕ). IsCut history n space front (record { upto = m - 1; part = length (changes_by m front) })) (sym at)
        (subst (λ (m : ℕ). IsCut history n space front (record { upto = m; part = length (changes_by (suc b) front) })) (less_one b)
        (record {
          is_place = record {
            is_live = is_live;
            within = subst (λ (way : List Change). length (changes_by (suc b) front) ≤ count_of_first (changes_behind b way)) (sym is)
                (subst (λ (list : List Change). length (changes_by (suc b) front) ≤ count_of_first list)
                (sym (filter-append (λ (change : Change). nat_lt b change.commit) front (next ∷ rest)
                ∙ ap (λ (list : List Change). list ++ changes_behind b (next ∷ rest)) (front_parts b front before).1))
                (first_of_one (suc b) front (changes_behind b (next ∷ rest))));
          };
          lays = ap (λ (way : List Change). laid_at way b (length (changes_by (suc b) front))) is ∙ laid_before b front (next ∷ rest) before behind;
        }))
      where
        less_one : (m : ℕ) → m ≡ suc m - 1
        less_one m = omega arith

-- So does the last commit that is laid whole, or the position from which the work goes on.
at_next : (history : History) (n space from : ℕ) (front : List Change) (next : Change) (rest : List Change)
    → lane_changes history n space ≡ front ++ next ∷ rest → live history n from ≡ true → from < next.commit → IsCut history n space front (cut_by from n front (next ∷ rest))
at_next history n space from front next rest is from_live from_lt = record {
  is_place = record {
    is_live = last_means (λ (k : ℕ). live history n k ≡ true) from whole from_live
        (all_filter (λ (change : Change). live history n change.commit ≡ true) (λ (change : Change). nat_lt change.commit next.commit) front
        (all_means (λ (change : Change). counts history n change.commit ≡ true) (λ (change : Change). live history n change.commit ≡ true) front
        (λ change is. (and_parts (is_commit (entry_at history change.commit)) (live history n change.commit) is).1)
        (all_front (λ (change : Change). counts history n change.commit ≡ true) front (next ∷ rest)
        (subst (AllByRecursion (λ (change : Change). counts history n change.commit ≡ true)) is (way_counts history n space)))));
    within = subst (λ (list : List Change). length (changes_by next.commit front) ≤ count_of_first list) (sym both.1) before.is_place.within;
  };
  lays = ap (λ (list : List Change). length list + length (changes_by next.commit front)) both.0 ∙ before.lays;
}
  where
    whole : List Change
    whole = changes_before next.commit front

    last : ℕ
    last = last_commit from whole

    before : IsCut history n space front (record { upto = next.commit - 1; part = length (changes_by next.commit front) })
    before = just_before history n space front next rest is

    last_lt : last < next.commit
    last_lt = last_means (λ (k : ℕ). k < next.commit) from whole from_lt
        (all_means (λ (change : Change). nat_lt change.commit next.commit ≡ true) (λ (change : Change). change.commit < next.commit) whole
        (λ change is. grind (arith, nat_tests, is)) (passes_all (λ (change : Change). nat_lt change.commit next.commit) front))

    Apart : Change → Type 0
    Apart change = (nat_lt last change.commit && nat_le change.commit (next.commit - 1)) ≡ false

    high : (change : Change) → next.commit ≤ change.commit → last < next.commit → Apart change
    high change le some = grind (arith, nat_tests, le, some)

    low : (change : Change) → (change.commit < next.commit → change.commit ≤ last) → Apart change
    low change covered = by (cases_lt change.commit next.commit)
      where
        by : (change.commit < next.commit) ⊎ (next.commit ≤ change.commit) → Apart change
        by (inl lt) = let le : change.commit ≤ last = covered lt in grind (arith, nat_tests, le)
        by (inr le) = high change le last_lt

    idle : IsIdle (lane_changes history n space) last (next.commit - 1)
    idle = filter_none (λ (change : Change). nat_lt last change.commit && nat_le change.commit (next.commit - 1)) (lane_changes history n space)
        (subst (AllByRecursion Apart) (sym is)
        (all_append Apart front (next ∷ rest)
        (all_means (λ (change : Change). change.commit < next.commit → change.commit ≤ last) Apart front low (last_covers from next.commit front))
        (all_means (λ (change : Change). next.commit ≤ change.commit) Apart (next ∷ rest) (λ change le. high change le last_lt)
        (rises_behind 0 front next rest (subst (Rises 0) is (way_rises history n space))))))

    both : (changes_up_to last (lane_changes history n space) ≡ changes_up_to (next.commit - 1) (lane_changes history n space))
        × (changes_behind last (lane_changes history n space) ≡ changes_behind (next.commit - 1) (lane_changes history n space))
    both = idle_both (lane_changes history n space) last (next.commit - 1) (omega (arith, last_lt)) idle

cut_parts : (history : History) (n space from : ℕ) (front rest : List Change) → lane_changes history n space ≡ front ++ rest → live history n from ≡ true
    → laid_at (lane_changes history n space) from 0 ≤ length front → IsCut history n space front (cut_by from n front rest)
cut_parts history n space from front [] is from_live le = at_end history n space front is
cut_parts history n space from front (next ∷ rest) is from_live le = at_next history n space from front next rest is from_live
    (next_is_behind from 0 front next rest (subst (Rises 0) is (way_rises history n space)) (subst (λ (way : List Change). laid_at way from 0 ≤ length front) is le))

-- what is laid at a position stands within the front of a way that has so many changes
front_has : (way : List Change) (from count : ℕ) → laid_at way from 0 ≤ count → laid_at way from 0 ≤ length (take count way)
front_has way from count le = omega (arith, le, both_parts from way, length-take count way)

-- The cut behind so many changes is a place, and lays exactly so many.
pub cut_is_place : (history : History) (n space from count : ℕ) → live history n from ≡ true → laid_at (lane_changes history n space) from 0 ≤ count
    → IsPlace history n space (cut from (lane_changes history n space) n count).upto (cut from (lane_changes history n space) n count).part
cut_is_place history n space from count from_live le =
    (cut_parts history n space from (take count (lane_changes history n space)) (drop count (lane_changes history n space)) (sym (take-append-drop count (lane_changes history n space)))
    from_live (front_has (lane_changes history n space) from count le)).is_place

pub cut_lays : (history : History) (n space from count : ℕ) → live history n from ≡ true → laid_at (lane_changes history n space) from 0 ≤ count → count ≤ length (lane_changes history n space)
    → laid_at (lane_changes history n space) (cut from (lane_changes history n space) n count).upto (cut from (lane_changes history n space) n count).part ≡ count
cut_lays history n space from count from_live le within =
    (cut_parts history n space from (take count (lane_changes history n space)) (drop count (lane_changes history n space)) (sym (take-append-drop count (lane_changes history n space)))
    from_live (front_has (lane_changes history n space) from count le)).lays
    ∙ length-take-le count (lane_changes history n space) within

-- the order of places

order_parts : (history : History) (n space upto part : ℕ) (front rest : List Change) → lane_changes history n space ≡ front ++ rest → IsPlace history n space upto part
    → laid_at (lane_changes history n space) upto part ≤ length front → IsNotBefore upto part (cut_by upto n front rest).upto (cut_by upto n front rest).part
order_parts history n space upto part front [] is place le = (
  live_within (reset_points history) n upto place.is_live,
  λ same. omega (
    arith,
    place.within,
    ap count_of_first (behind_none upto (lane_changes history n space)
        (subst (λ (m : ℕ). AllByRecursion (λ (change : Change). change.commit ≤ m) (lane_changes history n space)) (sym same) (way_within history n space))),
  ),
)
order_parts history n space upto part front (next ∷ rest) is place le =
    let lays : laid_at (lane_changes history n space) (last_commit upto (changes_before next.commit front)) (length (changes_by next.commit front)) ≡ length front =
    (cut_parts history n space upto front (next ∷ rest) is place.is_live (omega (arith, le))).lays in (
      last_least upto (changes_before next.commit front),
      λ same. omega (arith, le, lays, ap (λ (m : ℕ). length (changes_up_to m (lane_changes history n space))) same),
    )

-- The cut of work that goes on from a place isn't before it.
pub cut_is_not_before : (history : History) (n space upto part count : ℕ) → IsPlace history n space upto part
    → laid_at (lane_changes history n space) upto part ≤ count → count ≤ length (lane_changes history n space)
    → IsNotBefore upto part (cut upto (lane_changes history n space) n count).upto (cut upto (lane_changes history n space) n count).part
cut_is_not_before history n space upto part count place le within =
    order_parts history n space upto part (take count (lane_changes history n space)) (drop count (lane_changes history n space)) (sym (take-append-drop count (lane_changes history n space))) place
    (omega (arith, le, length-take-le count (lane_changes history n space) within))

-- Where a cut lays more than a place it is another place.
pub cut_differs : (history : History) (n space from upto part count : ℕ) → live history n from ≡ true → laid_at (lane_changes history n space) from 0 ≤ count
    → laid_at (lane_changes history n space) upto part < count → count ≤ length (lane_changes history n space)
    → (cut from (lane_changes history n space) n count).upto ≡ upto → (cut from (lane_changes history n space) n count).part ≡ part → ⊥
cut_differs history n space from upto part count from_live le lt within same_upto same_part =
    let lays : laid_at (lane_changes history n space) upto part ≡ count =
    ap (λ (m : ℕ). laid_at (lane_changes history n space) m part) (sym same_upto)
    ∙ ap (laid_at (lane_changes history n space) (cut from (lane_changes history n space) n count).upto) (sym same_part) ∙ cut_lays history n space from count from_live le within in
    omega (arith, lt, lays)
