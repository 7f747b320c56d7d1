-- Where the work stands along a way: at its beginning, behind a step, and at its end.
use Rattle.std.proofs.Common.{◌≡◌, ◌⊎◌, inl, inr, ℕ, zero, suc, ◌+◌, ◌^◌, ◌<◌, ◌≤◌, min, Bool, true, false, List, [], ◌∷◌, ◌++◌, length, take, drop, refl, sym, ap, ◌∙◌, subst, arith, length-drop, length-take, take-append-drop}
use Rattle.std.specs.Prelude.{if◌then◌else◌, filter, nat_lt}
use Rattle.std.proofs.lemmas.Bool.{cases_lt}
use Rattle.std.proofs.lemmas.Bool.Decides.{nat_tests}
use Rattle.std.proofs.lemmas.List.{drop-drop, take_all}
use Rattle.std.proofs.Math.ListN.{drop_of_length-le}
use Rattle.log_history.specs.History.{History}
use Rattle.log_history.specs.Live.{reset_points}
use Rattle.log_history.specs.Effects.{Change}
use Rattle.history_laws.specs.LiveLaws.{live_within}
use Rattle.space_pages.specs.Pages.{LieWithin, brought}
use Rattle.lane_ways.specs.Ways.{IsNotBefore, IsPlace, Place, changes_behind, cut, cut_by, laid_at, lane_changes, lane_pages, pages_with}
use Rattle.lane_ways.specs.ListLaws.{Rises, both_parts, filter_swap, rises_lower}
use Rattle.lane_ways.specs.ChangesLaws.{laid_within}
use Rattle.lane_ways.specs.CutLaws.{cut_differs, cut_is_not_before, cut_is_place, cut_lays}
use Rattle.lane_ways.specs.RestLaws.{cut_at_end, cut_of_rest, rest_is}
use Rattle.lane_ways.specs.Steps.{laid_behind, step_of, step_pages}
use Rattle.lane_ways.specs.StepLaws.{laid_behind_more, laid_behind_within, step_some}
use Rattle.lane_steps.specs.Choices.{Chooses, is_own, own}
use Rattle.lane_steps.specs.OwnLaws.{IsAlong, step_along}
use Rattle.lane_steps.specs.Runs.{IsRun}
use Rattle.lane_advance.specs.Advances.{GoesOn, IsUnderWay, Leads}
use Rattle.lane_advance.specs.declared.progress.Progress.{Progress}
use Rattle.lane_steps.specs.declared.placing.Run.{Run}

pub filter_within : (p : Change → Bool) (list : List Change) → length (filter p list) ≤ length list
filter_within p [] = omega arith
filter_within p (change ∷ list) = by (p change) (filter_within p list)
  where
    by : (b : Bool) → length (filter p list) ≤ length list → length (if b then change ∷ filter p list else filter p list) ≤ length (change ∷ list)
    by true le = omega (arith, le)
    by false le = omega (arith, le)

pub rises_front : (low : ℕ) (xs ys : List Change) → Rises low (xs ++ ys) → Rises low xs
rises_front low [] ys rises = tt
rises_front low (x ∷ xs) ys rises = (rises.0, rises_front x.commit xs ys rises.1)

pub rises_drop : (i low : ℕ) (list : List Change) → Rises low list → Rises low (drop i list)
rises_drop zero low list rises = rises
rises_drop (suc i) low [] rises = tt
rises_drop (suc i) low (x ∷ list) rises = rises_drop i low list (rises_lower low x.commit list rises.0 rises.1)

pub lie_drop : (i : ℕ) (list : List Change) → LieWithin list → LieWithin (drop i list)
lie_drop zero list all = all
lie_drop (suc i) [] all = tt
lie_drop (suc i) (x ∷ list) all = lie_drop i list all.1

-- what stands behind a later place stands behind an earlier one too
behind_twice : (a b : ℕ) → a ≤ b → (list : List Change) → changes_behind b (changes_behind a list) ≡ changes_behind b list
behind_twice a b le [] = refl
behind_twice a b le (x ∷ list) = by (cases_lt a x.commit) (behind_twice a b le list)
  where
    by : (a < x.commit) ⊎ (x.commit ≤ a) → changes_behind b (changes_behind a list) ≡ changes_behind b list
        → changes_behind b (changes_behind a (x ∷ list)) ≡ changes_behind b (x ∷ list)
    by (inl lt) rest =
        let is : nat_lt a x.commit ≡ true = grind (arith, nat_tests, lt) in
        ap (λ (c : Bool). changes_behind b (if c then x ∷ changes_behind a list else changes_behind a list)) is
        ∙ ap (λ (l : List Change). if nat_lt b x.commit then x ∷ l else l) rest
    by (inr isnt) rest =
        let first : nat_lt a x.commit ≡ false = grind (arith, nat_tests, isnt) in
        let second : nat_lt b x.commit ≡ false = grind (arith, nat_tests, isnt, le) in
        ap (λ (c : Bool). changes_behind b (if c then x ∷ changes_behind a list else changes_behind a list)) first
        ∙ rest
        ∙ sym (ap (λ (c : Bool). if c then x ∷ changes_behind b list else changes_behind b list) second)

-- a step of any pages takes a change
pub chosen_some : (space count : ℕ) (list : List Change) (front : ℕ) (pages : List ℕ) → Chooses space count list front pages → (pages ≡ [] → ⊥) → 1 ≤ front
chosen_some space count list front pages chooses some = by (cases_lt 0 (length (own space count list))) front refl
  where
    by : (0 < length (own space count list)) ⊎ (length (own space count list) ≤ 0) → (k : ℕ) → front ≡ k → 1 ≤ k
    by (inl any) zero is =
        let none : length (take (step_of 16 (own space count list)) (own space count list)) ≡ 0 =
        ap (λ (l : List Change). length l) (sym chooses.taken ∙ ap (λ (k : ℕ). own space count (take k list)) is) in
        absurd (omega (arith, none, length-take (step_of 16 (own space count list)) (own space count list), step_some 16 (own space count list) (omega arith) (omega (arith, any)), any))
    by (inl any) (suc k) is = omega arith
    by (inr le) k is = absurd (some (chooses.listed ∙ ap (step_pages 16) (sym (take_all 0 (own space count list) le))))

module _ (history : History) (n space count to upto part : ℕ) (list : List Change) (leads : Leads history n space count to upto part list) where
  -- the way, and what it has behind the place from which the work begins
  abbrev way : List Change
  way = lane_changes history n space

  abbrev behind : List Change
  behind = changes_behind upto way

  few_behind : length behind < 2 ^ 32
  few_behind =
      omega (
        arith,
        leads.few,
        ap (λ (l : List Change). length l) leads.handed,
        filter_within (λ (change : Change). nat_lt upto change.commit) (own space count list),
        filter_within (λ (change : Change). is_own space count change) list,
      )

  -- the changes lead on from each place on the way that isn't before the first one
  pub leads_on : (further more : ℕ) → IsPlace history n space further more → upto ≤ further → Leads history n space count to further more list
  leads_on further more place le = record {
    is_to = leads.is_to;
    place = place;
    handed = sym (behind_twice upto further le (own space count list)) ∙ ap (changes_behind further) leads.handed ∙ behind_twice upto further le way;
    rises = leads.rises;
    lie = leads.lie;
    few = leads.few;
  }

  own_behind : (start : ℕ) → drop start list ≡ changes_behind upto list → own space count (drop start list) ≡ behind
  own_behind start starts =
      ap (own space count) starts
      ∙ filter_swap (λ (change : Change). nat_lt upto change.commit) (λ (change : Change). is_own space count change) list
      ∙ leads.handed

  -- At the beginning what is laid is passed over.
  pub under_way_first : (start more : ℕ) (run : Run) → drop start list ≡ changes_behind upto list
      → own space count (take more (drop start list)) ≡ take part (own space count (drop start list))
      → own space count (drop more (drop start list)) ≡ drop part (own space count (drop start list))
      → IsRun upto run.commit run.count run.whole (own space count (take more (drop start list))) → Rises run.commit (drop more (drop start list))
      → IsUnderWay history n space count upto part list (record { taken = start + more; run = run; upto = upto; part = part })
  under_way_first start more run starts front rest is_run rises =
      let joined : drop more (drop start list) ≡ drop (start + more) list = drop-drop more start list in
      record {
        laid = part;
        more = omega arith;
        left = ap (own space count) (sym joined) ∙ rest ∙ ap (drop part) (own_behind start starts);
        run = subst (IsRun upto run.commit run.count run.whole) (front ∙ ap (take part) (own_behind start starts)) is_run;
        rises = subst (Rises run.commit) joined rises;
        place = leads.place;
        not_before = (omega arith, λ same. omega arith);
        lays = refl;
      }

  pub few_own : (more start : ℕ) → length (own space count (take more (drop start list))) < 2 ^ 32
  few_own more start =
      omega (arith, leads.few, filter_within (λ (change : Change). is_own space count change) (take more (drop start list)), shorter more (drop start list), length-drop start list)
    where
      shorter : (k : ℕ) (l : List Change) → length (take k l) ≤ length l
      shorter zero l = omega arith
      shorter (suc k) [] = omega arith
      shorter (suc k) (x ∷ l) = omega (arith, shorter k l)

  -- a step of changes at the front of those that are left, and what is known behind it
  module _ (old new : Progress) (under : IsUnderWay history n space count upto part list old) (left : List Change) (front : ℕ) (pages : List ℕ) (is_left : left ≡ drop old.taken list)
      (chooses : Chooses space count left front pages) (some : pages ≡ [] → ⊥) where
    abbrev laid_then : ℕ
    laid_then = laid_behind 16 behind under.laid

    abbrev total : ℕ
    total = laid_at way upto laid_then

    abbrev place_then : Place
    place_then = cut upto way n total

    along : IsAlong behind space count under.laid left front
    along = step_along behind space count under.laid left front pages (ap (own space count) is_left ∙ under.left) chooses

    laid_some : under.laid ≤ length behind
    laid_some = omega (arith, laid_within history n space old.upto old.part under.place, under.lays, both_parts upto way)

    laid_more : under.laid < length behind
    laid_more = by (cases_lt under.laid (length behind))
      where
        by : (under.laid < length behind) ⊎ (length behind ≤ under.laid) → under.laid < length behind
        by (inl lt) = lt
        by (inr le) = absurd (some (chooses.listed ∙ ap (step_pages 16) (ap (own space count) is_left ∙ under.left ∙ drop_of_length-le behind le)))

    further : under.laid < laid_then
    further = laid_behind_more 16 behind under.laid (omega arith) laid_more

    total_within : total ≤ length way
    total_within = omega (arith, laid_behind_within 16 behind under.laid laid_some, both_parts upto way)

    rises_left : Rises old.run.commit left
    rises_left = subst (Rises old.run.commit) (sym is_left) under.rises

    rises_parts : Rises old.run.commit (take front left ++ drop front left)
    rises_parts = subst (Rises old.run.commit) (sym (take-append-drop front left)) rises_left

    module _ (placed_upto : ℕ) (taken_is : new.taken ≡ old.taken + front)
        (run_is : (laid : List Change) → IsRun upto old.run.commit old.run.count old.run.whole laid → Rises old.run.commit (take front left) → length (laid ++ own space count (take front left)) < 2 ^ 32
        → IsRun upto new.run.commit new.run.count new.run.whole (laid ++ own space count (take front left)))
        (onward : (rest : List Change) → Rises old.run.commit (take front left ++ rest) → Rises new.run.commit rest)
        (upto_is : (laid : List Change) → IsRun upto new.run.commit new.run.count new.run.whole laid → Rises new.run.commit (drop front left) → placed_upto ≡ (cut_by upto to laid (own space count (drop front left))).upto)
        (part_is : (laid : List Change) → IsRun upto new.run.commit new.run.count new.run.whole laid → Rises new.run.commit (drop front left) → new.part ≡ (cut_by upto to laid (own space count (drop front left))).part)
        (min_is : new.upto ≡ min placed_upto to) where
      run_then : IsRun upto new.run.commit new.run.count new.run.whole (take laid_then behind)
      run_then = subst (IsRun upto new.run.commit new.run.count new.run.whole) along.laid_then
          (run_is (take under.laid behind) under.run (rises_front old.run.commit (take front left) (drop front left) rises_parts)
          (omega (arith, few_behind, ap (λ (l : List Change). length l) along.laid_then, shorter laid_then behind)))
        where
          shorter : (k : ℕ) (l : List Change) → length (take k l) ≤ length l
          shorter zero l = omega arith
          shorter (suc k) [] = omega arith
          shorter (suc k) (x ∷ l) = omega (arith, shorter k l)

      rises_then : Rises new.run.commit (drop front left)
      rises_then = onward (drop front left) rises_parts

      cut_is : cut_by upto to (take laid_then behind) (own space count (drop front left)) ≡ place_then
      cut_is =
          ap (λ (l : List Change). cut_by upto to (take laid_then behind) l) along.left_then
          ∙ ap (λ (t : ℕ). cut upto behind t laid_then) (sym leads.is_to)
          ∙ sym (cut_of_rest history n space upto laid_then)

      begun : laid_at way upto 0 ≤ total
      begun = omega arith

      is_place : IsPlace history n space place_then.upto place_then.part
      is_place = cut_is_place history n space upto total leads.place.is_live begun

      upto_same : new.upto ≡ place_then.upto
      upto_same =
          let at : placed_upto ≡ place_then.upto = upto_is (take laid_then behind) run_then rises_then ∙ ap (λ (p : Place). p.upto) cut_is in
          let le : place_then.upto ≤ n = live_within (reset_points history) n place_then.upto is_place.is_live in
          omega (arith, min_is, at, le, leads.is_to)

      part_same : new.part ≡ place_then.part
      part_same = part_is (take laid_then behind) run_then rises_then ∙ ap (λ (p : Place). p.part) cut_is

      at_new : (F : ℕ → ℕ → Type 0) → F place_then.upto place_then.part → F new.upto new.part
      at_new F is = subst (λ (u : ℕ). F u new.part) (sym upto_same) (subst (F place_then.upto) (sym part_same) is)

      lays_then : laid_at way new.upto new.part ≡ total
      lays_then = at_new (λ u p. laid_at way u p ≡ total) (cut_lays history n space upto total leads.place.is_live begun total_within)

      dropped : drop new.taken list ≡ drop front left
      dropped = ap (λ (k : ℕ). drop k list) taken_is ∙ sym (drop-drop front old.taken list) ∙ ap (drop front) (sym is_left)

      under_way_then : IsUnderWay history n space count upto part list new
      under_way_then = record {
        laid = laid_then;
        more = omega (arith, under.more, further);
        left = ap (own space count) dropped ∙ along.left_then;
        run = run_then;
        rises = subst (Rises new.run.commit) (sym dropped) rises_then;
        place = at_new (IsPlace history n space) is_place;
        not_before = at_new (IsNotBefore upto part) (cut_is_not_before history n space upto part total leads.place (omega (arith, under.more, further)) total_within);
        lays = lays_then;
      }

      -- the pages
      before : ℕ
      before = laid_at way upto under.laid

      along_way : IsAlong way space count (laid_at way upto under.laid) left front
      along_way = step_along way space count (laid_at way upto under.laid) left front pages
          (ap (own space count) is_left ∙ under.left ∙ sym (rest_is history n space upto under.laid)) chooses

      same_total : laid_behind 16 way (laid_at way upto under.laid) ≡ total
      same_total = omega (arith, ap (step_of 16) (rest_is history n space upto under.laid))

      pages_then : brought space 0 (take front (drop old.taken list)) (lane_pages history n space old.upto old.part count) ≡ lane_pages history n space new.upto new.part count
      pages_then =
          ap (λ (l : List Change). brought space 0 (take front l) (lane_pages history n space old.upto old.part count)) (sym is_left)
          ∙ ap (λ (k : ℕ). brought space 0 (take front left) (pages_with way k space count)) under.lays
          ∙ along_way.pages_then
          ∙ ap (λ (k : ℕ). pages_with way k space count) (same_total ∙ sym lays_then)

      pub goes_on : GoesOn history n space count upto part list front old new
      goes_on = record {
        under_way = under_way_then;
        pages = pages_then;
        other = λ same_upto same_part. cut_differs history n space upto old.upto old.part total leads.place.is_live begun (omega (arith, under.lays, further)) total_within (sym upto_same ∙ same_upto) (sym part_same ∙ same_part);
      }

  -- At the end all is laid.
  pub record IsAtEnd (now_upto now_part : ℕ) : Type 0 where
    pub pages : lane_pages history n space now_upto now_part count ≡ lane_pages history n space to 0 count
    pub place : IsPlace history n space to 0
    pub not_before : IsNotBefore upto part to 0

  pub at_end : (progress : Progress) → IsUnderWay history n space count upto part list progress → own space count (drop progress.taken list) ≡ [] → IsAtEnd progress.upto progress.part
  at_end progress under none =
      let end : cut upto way n (length way) ≡ record { upto = n; part = 0 } = cut_at_end history n space upto (length way) (omega arith) in
      let begun : laid_at way upto 0 ≤ length way = omega (arith, both_parts upto way) in
      let rest : length (drop under.laid behind) ≡ 0 = ap (λ (l : List Change). length l) (sym under.left ∙ none) in
      let full : laid_at way progress.upto progress.part ≡ length way =
      omega (arith, laid_within history n space progress.upto progress.part under.place, under.lays, rest, length-drop under.laid behind, both_parts upto way) in
      let lays : laid_at way n 0 ≡ length way = subst (λ (p : Place). laid_at way p.upto p.part ≡ length way) end (cut_lays history n space upto (length way) leads.place.is_live begun (omega arith)) in
      let at : IsPlace history n space n 0 = subst (λ (p : Place). IsPlace history n space p.upto p.part) end (cut_is_place history n space upto (length way) leads.place.is_live begun) in
      let not_before : IsNotBefore upto part n 0 = subst (λ (p : Place). IsNotBefore upto part p.upto p.part) end
      (cut_is_not_before history n space upto part (length way) leads.place (laid_within history n space upto part leads.place) (omega arith)) in
      record {
        pages = ap (λ (k : ℕ). pages_with way k space count) (full ∙ sym lays) ∙ ap (λ (t : ℕ). lane_pages history n space t 0 count) leads.is_to;
        place = subst (λ (t : ℕ). IsPlace history n space t 0) leads.is_to at;
        not_before = subst (λ (t : ℕ). IsNotBefore upto part t 0) leads.is_to not_before;
      }
