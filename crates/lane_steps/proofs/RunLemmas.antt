-- Changes laid one after another, and the commit of the last ones.
use Rattle.std.proofs.Common.{◌≡◌, ◌⊎◌, inl, inr, ℕ, ◌+◌, ◌-◌, ◌^◌, ◌<◌, ◌≤◌, ◌==◌, max, Bool, true, false, List, [], ◌∷◌, ◌++◌, length, map, drop, get_or, refl, sym, ap, ◌∙◌, subst, arith, append_assoc, length-append}
use Rattle.std.specs.Prelude.{if◌then◌else◌, filter, nat_lt, None, Some}
use Rattle.std.specs.List.{AllByRecursion}
use Rattle.std.proofs.lemmas.Bool.Decides.{nat_tests}
use Rattle.std.proofs.lemmas.Bool.{cases_order}
use Rattle.std.proofs.lemmas.List.{append-nil, drop_more, get_or-map, length-map}
use Rattle.std.proofs.lemmas.List.Elements.{filter-append}
use Rattle.log_history.specs.Effects.{Change}
use Rattle.txn_table.specs.declared.changes.Change.{Change as Brought}
use Rattle.txn_table.specs.Table.{change_of}
use Rattle.lane_ways.specs.Ways.{changes_before, changes_by, cut_by, last_commit}
use Rattle.lane_ways.specs.ListLaws.{Rises, all_append, all_filter, all_means, filter_all, filter_none, rises_from, rises_lower}
use Rattle.lane_ways.specs.CutLaws.{last_append}
use Rattle.lane_steps.specs.Choices.{is_own, own}
use Rattle.lane_steps.specs.Runs.{IsRun, first_commit}

-- none of a later commit
none_by : (commit later : ℕ) (laid : List Change) → commit < later → AllByRecursion (λ (change : Change). change.commit ≤ commit) laid → changes_by later laid ≡ []
none_by commit later laid lt all =
    filter_none (λ (change : Change). change.commit == later) laid
    (all_means (λ (change : Change). change.commit ≤ commit) (λ (change : Change). (change.commit == later) ≡ false) laid (λ change le. grind (arith, nat_tests, le, lt)) all)

-- all of them are of commits before a later one
all_by : (commit later : ℕ) (laid : List Change) → commit < later → AllByRecursion (λ (change : Change). change.commit ≤ commit) laid → changes_before later laid ≡ laid
all_by commit later laid lt all =
    filter_all (λ (change : Change). nat_lt change.commit later) laid
    (all_means (λ (change : Change). change.commit ≤ commit) (λ (change : Change). nat_lt change.commit later ≡ true) laid (λ change le. grind (arith, nat_tests, le, lt)) all)

-- one change more
run_more : (from commit count whole next more kept : ℕ) (laid : List Change) (change : Change) → IsRun from commit count whole laid → next ≡ change.commit → commit ≤ next
    → (next ≡ commit → more ≡ count + 1) → ((next ≡ commit → ⊥) → more ≡ 1) → (next ≡ commit → kept ≡ whole) → ((next ≡ commit → ⊥) → kept ≡ max whole commit)
    → IsRun from next more kept (laid ++ change ∷ [])
run_more from commit count whole next more kept laid change run is le same other same_whole other_whole = record {
  before = all_append (λ (one : Change). one.commit ≤ next) laid (change ∷ [])
      (all_means (λ (one : Change). one.commit ≤ commit) (λ (one : Change). one.commit ≤ next) laid (λ one low. omega (arith, low, le)) run.before) (omega (arith, is), tt);
  counts = by (cases_order next commit);
  earlier = earlier_by (cases_order next commit) ∙ sym (ap (last_commit from) front);
  last = last_append from laid (change ∷ []) ∙ last_by (cases_order next commit);
}
  where
    front : changes_before next (laid ++ change ∷ []) ≡ changes_before next laid
    front =
        let no_so : nat_lt change.commit next ≡ false = grind (arith, nat_tests, is) in
        filter-append (λ (one : Change). nat_lt one.commit next) laid (change ∷ [])
        ∙ ap (λ (b : Bool). changes_before next laid ++ (if b then change ∷ [] else [])) no_so
        ∙ append-nil (changes_before next laid)

    earlier_by : (next ≡ commit) ⊎ ((next < commit) ⊎ (commit < next)) → kept ≡ last_commit from (changes_before next laid)
    earlier_by (inl equal) = same_whole equal ∙ run.earlier ∙ ap (λ (n : ℕ). last_commit from (changes_before n laid)) (sym equal)
    earlier_by (inr (inl before)) = absurd (omega (arith, before, le))
    earlier_by (inr (inr behind)) =
        other_whole (λ equal. omega (arith, equal, behind)) ∙ sym run.last ∙ sym (ap (last_commit from) (all_by commit next laid behind run.before))

    last_by : (next ≡ commit) ⊎ ((next < commit) ⊎ (commit < next)) → max (last_commit from laid) change.commit ≡ max kept next
    last_by (inl equal) = omega (arith, is, run.last, equal, same_whole equal)
    last_by (inr (inl before)) = absurd (omega (arith, before, le))
    last_by (inr (inr behind)) = omega (arith, is, run.last, other_whole (λ equal. omega (arith, equal, behind)))

    mine : changes_by next (change ∷ []) ≡ change ∷ []
    mine = let yes_so : (change.commit == next) ≡ true = grind (arith, nat_tests, is) in ap (λ (b : Bool). if b then change ∷ [] else []) yes_so

    all : length (changes_by next (laid ++ change ∷ [])) ≡ length (changes_by next laid) + 1
    all =
        ap (λ (l : List Change). length l) (filter-append (λ (one : Change). one.commit == next) laid (change ∷ []) ∙ ap (λ (l : List Change). changes_by next laid ++ l) mine)
        ∙ length-append (changes_by next laid) (change ∷ [])

    by : (next ≡ commit) ⊎ ((next < commit) ⊎ (commit < next)) → more ≡ length (changes_by next (laid ++ change ∷ []))
    by (inl equal) =
        let count_is : count ≡ length (changes_by next laid) = run.counts ∙ ap (λ (n : ℕ). length (changes_by n laid)) (sym equal) in
        omega (arith, same equal, count_is, all)
    by (inr (inl before)) = absurd (omega (arith, before, le))
    by (inr (inr behind)) =
        let none : length (changes_by next laid) ≡ 0 = ap (λ (l : List Change). length l) (none_by commit next laid behind run.before) in
        omega (arith, other (λ equal. omega (arith, equal, behind)), none, all)

-- the changes of a list, one after another
module _ (changes : List Brought) (i : ℕ) (change : Brought) (lt : i < length changes) (is : change ≡ get_or changes i change) where
  pub here : drop i (map change_of changes) ≡ change_of change ∷ drop (i + 1) (map change_of changes)
  here =
      drop_more (map change_of changes) i (change_of change) (omega (arith, lt, length-map changes change_of))
      ∙ ap (λ (c : Change). c ∷ drop (i + 1) (map change_of changes)) (get_or-map change_of changes i change (change_of change) lt ∙ ap change_of (sym is))

  own_other : (space count : ℕ) → is_own space count (change_of change) ≡ false → own space count (drop i (map change_of changes)) ≡ own space count (drop (i + 1) (map change_of changes))
  own_other space count not =
      ap (own space count) here
      ∙ ap (λ (b : Bool). if b then change_of change ∷ own space count (drop (i + 1) (map change_of changes)) else own space count (drop (i + 1) (map change_of changes))) not

  own_one : (space count : ℕ) → is_own space count (change_of change) ≡ true
      → own space count (drop i (map change_of changes)) ≡ change_of change ∷ own space count (drop (i + 1) (map change_of changes))
  own_one space count own_so =
      ap (own space count) here
      ∙ ap (λ (b : Bool). if b then change_of change ∷ own space count (drop (i + 1) (map change_of changes)) else own space count (drop (i + 1) (map change_of changes))) own_so

  -- the first of them
  pub found_first : (space count : ℕ) (all : List Change) → is_own space count (change_of change) ≡ true → all ≡ own space count (drop i (map change_of changes)) → Some change.commit ≡ first_commit all
  found_first space count all own_so same = sym (ap first_commit (same ∙ own_one space count own_so))

  pub not_first : (space count : ℕ) (all : List Change) → is_own space count (change_of change) ≡ false → all ≡ own space count (drop i (map change_of changes))
      → all ≡ own space count (drop (i + 1) (map change_of changes))
  not_first space count all not same = same ∙ own_other space count not

  -- commits that rise on from the ones behind it
  onward_here : (low : ℕ) (rest : List Change) → Rises low (drop i (map change_of changes) ++ rest) → Rises low ((change_of change ∷ drop (i + 1) (map change_of changes)) ++ rest)
  onward_here low rest rises = subst (λ (l : List Change). Rises low (l ++ rest)) here rises

  pub onward_taken : (low next : ℕ) (rest : List Change) → next ≡ change.commit → Rises low (drop i (map change_of changes) ++ rest) → Rises next (drop (i + 1) (map change_of changes) ++ rest)
  onward_taken low next rest at rises =
      subst (λ (n : ℕ). Rises n (drop (i + 1) (map change_of changes) ++ rest)) (sym at) (onward_here low rest rises).1

  pub onward_passed : (low : ℕ) (rest : List Change) → Rises low (drop i (map change_of changes) ++ rest) → Rises low (drop (i + 1) (map change_of changes) ++ rest)
  onward_passed low rest rises =
      let both = onward_here low rest rises in
      rises_lower low change.commit (drop (i + 1) (map change_of changes) ++ rest) both.0 both.1

-- the commit of the first own change isn't before a commit from which on they rise
pub first_rises : (space count low next : ℕ) (list : List Change) → Rises low list → Some next ≡ first_commit (own space count list) → low ≤ next
first_rises space count low next list rises first =
    from (own space count list) (all_filter (λ (change : Change). low ≤ change.commit) (λ (change : Change). is_own space count change) list (rises_from low list rises)) first
  where
    from : (all : List Change) → AllByRecursion (λ (change : Change). low ≤ change.commit) all → Some next ≡ first_commit all → low ≤ next
    from [] each is = absurd cc
    from (change ∷ all) each is = let at : next ≡ change.commit = cc in omega (arith, at, each.0)

within : (p : Change → Bool) (list : List Change) → length (filter p list) ≤ length list
within p [] = omega arith
within p (change ∷ list) = by (p change) (within p list)
  where
    by : (b : Bool) → length (filter p list) ≤ length list → length (if b then change ∷ filter p list else filter p list) ≤ length (change ∷ list)
    by true le = omega (arith, le)
    by false le = omega (arith, le)

-- So far the run is that of the changes laid: all of them are those so far and those of the rest that are own.
pub record RunsSoFar (from space count : ℕ) (all : List Change) (rest : List Change) (run_commit run_count run_whole : ℕ) : Type 0 where
  pub laid : List Change
  pub parts : all ≡ laid ++ own space count rest
  pub run : IsRun from run_commit run_count run_whole laid
  pub rises : Rises run_commit rest

module _ (from space count : ℕ) (changes : List Brought) (i : ℕ) (change : Brought) (lt : i < length changes) (is : change ≡ get_or changes i change) (all : List Change) (few : length all < 2 ^ 32)
    (run_commit run_count run_whole : ℕ) (so_far : RunsSoFar from space count all (drop i (map change_of changes)) run_commit run_count run_whole) where
  rest_rises : Rises run_commit (change_of change ∷ drop (i + 1) (map change_of changes))
  rest_rises = subst (Rises run_commit) (here changes i change lt is) so_far.rises

  pub run_passed : is_own space count (change_of change) ≡ false → RunsSoFar from space count all (drop (i + 1) (map change_of changes)) run_commit run_count run_whole
  run_passed not = record {
    laid = so_far.laid;
    parts = so_far.parts ∙ ap (λ (l : List Change). so_far.laid ++ l) (own_other changes i change lt is space count not);
    run = so_far.run;
    rises = rises_lower run_commit change.commit (drop (i + 1) (map change_of changes)) rest_rises.0 rest_rises.1;
  }

  pub run_taken : (next more kept : ℕ) → is_own space count (change_of change) ≡ true → next ≡ change.commit → (next ≡ run_commit → run_count < 2 ^ 32 - 1 → more ≡ run_count + 1)
      → ((next ≡ run_commit → ⊥) → more ≡ 1) → (next ≡ run_commit → kept ≡ run_whole) → ((next ≡ run_commit → ⊥) → kept ≡ max run_whole run_commit)
      → RunsSoFar from space count all (drop (i + 1) (map change_of changes)) next more kept
  run_taken next more kept own_so at same other same_whole other_whole =
      let tail : List Change = own space count (drop (i + 1) (map change_of changes)) in
      let parts : all ≡ so_far.laid ++ change_of change ∷ tail = so_far.parts ∙ ap (λ (l : List Change). so_far.laid ++ l) (own_one changes i change lt is space count own_so) in
      let shorter : run_count ≤ length so_far.laid = omega (arith, so_far.run.counts, within (λ (one : Change). one.commit == run_commit) so_far.laid) in
      let fits : run_count < 2 ^ 32 - 1 =
      omega (arith, few, shorter, ap (λ (l : List Change). length l) parts, length-append so_far.laid (change_of change ∷ tail)) in
      record {
        laid = so_far.laid ++ change_of change ∷ [];
        parts = parts ∙ sym (append_assoc so_far.laid (change_of change ∷ []) tail);
        run = run_more from run_commit run_count run_whole next more kept so_far.laid (change_of change) so_far.run at (omega (arith, at, rest_rises.0)) (λ equal. same equal fits) other same_whole other_whole;
        rises = subst (λ (n : ℕ). Rises n (drop (i + 1) (map change_of changes))) (sym at) rest_rises.1;
      }

-- where the work is cut

module _ (from to commit count whole next : ℕ) (laid list : List Change) (run : IsRun from commit count whole laid) (first : Some next ≡ first_commit list) where
  pub part_same : next ≡ commit → count ≡ (cut_by from to laid list).part
  part_same same = by list first
    where
      by : (list : List Change) → Some next ≡ first_commit list → count ≡ (cut_by from to laid list).part
      by [] is = absurd cc
      by (change ∷ list) is =
          let at : next ≡ change.commit = cc in
          run.counts ∙ ap (λ (n : ℕ). length (changes_by n laid)) (sym same ∙ at)

  pub part_none : commit ≤ next → (next ≡ commit → ⊥) → 0 ≡ (cut_by from to laid list).part
  part_none le other = by list first
    where
      by : (list : List Change) → Some next ≡ first_commit list → 0 ≡ (cut_by from to laid list).part
      by [] is = absurd cc
      by (change ∷ list) is =
          let at : next ≡ change.commit = cc in
          let lt : commit < change.commit = omega (arith, at, le, other) in
          sym (ap (λ (l : List Change). length l) (none_by commit change.commit laid lt run.before))

  pub upto_same : next ≡ commit → whole ≡ (cut_by from to laid list).upto
  upto_same same = by list first
    where
      by : (list : List Change) → Some next ≡ first_commit list → whole ≡ (cut_by from to laid list).upto
      by [] is = absurd cc
      by (change ∷ list) is =
          let at : next ≡ change.commit = cc in
          run.earlier ∙ ap (λ (n : ℕ). last_commit from (changes_before n laid)) (sym same ∙ at)

  pub upto_whole : commit ≤ next → (next ≡ commit → ⊥) → max whole commit ≡ (cut_by from to laid list).upto
  upto_whole le other = by list first
    where
      by : (list : List Change) → Some next ≡ first_commit list → max whole commit ≡ (cut_by from to laid list).upto
      by [] is = absurd cc
      by (change ∷ list) is =
          let at : next ≡ change.commit = cc in
          let lt : commit < change.commit = omega (arith, at, le, other) in
          sym run.last ∙ sym (ap (last_commit from) (all_by commit change.commit laid lt run.before))

pub cut_end : (from to : ℕ) (laid list : List Change) → None ≡ first_commit list → (to ≡ (cut_by from to laid list).upto) × (0 ≡ (cut_by from to laid list).part)
cut_end from to laid [] first = (refl, refl)
cut_end from to laid (change ∷ list) first = absurd cc
