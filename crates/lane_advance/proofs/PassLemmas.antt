-- What is laid already of a list of changes.
use Rattle.std.proofs.Common.{◌≡◌, ℕ, ◌+◌, ◌<◌, ◌≤◌, Bool, true, false, List, [], ◌∷◌, ◌++◌, length, map, take, drop, get_or, sym, ap, ◌∙◌, subst, arith, length-append, take-append-drop}
use Rattle.std.specs.Prelude.{if◌then◌else◌, nat_lt}
use Rattle.std.specs.List.{AllByRecursion}
use Rattle.std.proofs.lemmas.Bool.Decides.{nat_tests}
use Rattle.std.proofs.lemmas.List.{append-nil, drop_at, get_or-map, length-map, take_all, take_at, take_more}
use Rattle.std.proofs.lemmas.List.Elements.{filter-append}
use Rattle.std.proofs.Math.ListN.{drop_of_length-le}
use Rattle.log_history.specs.Effects.{Change}
use Rattle.txn_table.specs.declared.changes.Change.{Change as Brought}
use Rattle.txn_table.specs.Table.{change_of}
use Rattle.lane_ways.specs.Ways.{changes_behind}
use Rattle.lane_ways.specs.ListLaws.{Rises, all_means, filter_all, rises_from}
use Rattle.lane_steps.specs.Choices.{is_own, own}
use Rattle.lane_steps.proofs.RunLemmas.{here}
use Rattle.lane_advance.proofs.WayLemmas.{rises_drop}

-- one change after another
module _ (changes : List Brought) (i : ℕ) (change : Brought) (lt : i < length changes) (is : change ≡ get_or changes i change) where
  pub one_passed : (upto : ℕ) → change.commit ≤ upto → changes_behind upto (drop i (map change_of changes)) ≡ changes_behind upto (drop (i + 1) (map change_of changes))
  one_passed upto le =
      let no : nat_lt upto change.commit ≡ false = grind (arith, nat_tests, le) in
      ap (changes_behind upto) (here changes i change lt is)
      ∙ ap (λ (b : Bool). if b then change_of change ∷ changes_behind upto (drop (i + 1) (map change_of changes)) else changes_behind upto (drop (i + 1) (map change_of changes))) no

  pub stops_here : (upto : ℕ) → upto < change.commit → Rises 0 (map change_of changes) → drop i (map change_of changes) ≡ changes_behind upto (drop i (map change_of changes))
  stops_here upto later rises =
      let rest : List Change = drop (i + 1) (map change_of changes) in
      let from : Rises 0 (change_of change ∷ rest) = subst (Rises 0) (here changes i change lt is) (rises_drop i 0 (map change_of changes) rises) in
      let all : AllByRecursion (λ (one : Change). nat_lt upto one.commit ≡ true) (change_of change ∷ rest) = (
        grind (arith, nat_tests, later),
        all_means (λ (one : Change). change.commit ≤ one.commit) (λ (one : Change). nat_lt upto one.commit ≡ true) rest (λ one le. grind (arith, nat_tests, later, le)) (rises_from change.commit rest from.1),
      ) in
      subst (λ (l : List Change). l ≡ changes_behind upto l) (sym (here changes i change lt is)) (sym (filter_all (λ (one : Change). nat_lt upto one.commit) (change_of change ∷ rest) all))

  front_here : take (i + 1) (map change_of changes) ≡ take i (map change_of changes) ++ change_of change ∷ []
  front_here =
      take_more (map change_of changes) i (change_of change) (omega (arith, lt, length-map changes change_of))
      ∙ ap (λ (c : Change). take i (map change_of changes) ++ c ∷ []) (get_or-map change_of changes i change (change_of change) lt ∙ ap change_of (sym is))

  own_front : (space count : ℕ) (mine : Bool) → is_own space count (change_of change) ≡ mine
      → own space count (take (i + 1) (map change_of changes)) ≡ own space count (take i (map change_of changes)) ++ (if mine then change_of change ∷ [] else [])
  own_front space count mine so =
      ap (own space count) front_here
      ∙ filter-append (λ (one : Change). is_own space count one) (take i (map change_of changes)) (change_of change ∷ [])
      ∙ ap (λ (b : Bool). own space count (take i (map change_of changes)) ++ (if b then change_of change ∷ [] else [])) so

  pub one_more : (space count : ℕ) → is_own space count (change_of change) ≡ true
      → length (own space count (take (i + 1) (map change_of changes))) ≡ length (own space count (take i (map change_of changes))) + 1
  one_more space count so =
      ap (λ (l : List Change). length l) (own_front space count true so) ∙ length-append (own space count (take i (map change_of changes))) (change_of change ∷ [])

  pub none_more : (space count : ℕ) → is_own space count (change_of change) ≡ false
      → length (own space count (take (i + 1) (map change_of changes))) ≡ length (own space count (take i (map change_of changes)))
  none_more space count so =
      ap (λ (l : List Change). length l) (own_front space count false so ∙ append-nil (own space count (take i (map change_of changes))))

-- so many of them stand before a place in the list
module _ (space count part i : ℕ) (list : List Change) where
  parts : own space count list ≡ own space count (take i list) ++ own space count (drop i list)
  parts = ap (own space count) (sym (take-append-drop i list)) ∙ filter-append (λ (one : Change). is_own space count one) (take i list) (drop i list)

  pub front_of : length (own space count (take i list)) ≡ part → own space count (take i list) ≡ take part (own space count list)
  front_of size = sym (ap (take part) parts ∙ take_at (own space count (take i list)) (own space count (drop i list)) part size)

  pub rest_of : length (own space count (take i list)) ≡ part → own space count (drop i list) ≡ drop part (own space count list)
  rest_of size = sym (ap (drop part) parts ∙ drop_at (own space count (take i list)) (own space count (drop i list)) part size)

  -- or all of them
  pub all_front : length list ≤ i → length (own space count (take i list)) ≤ part → own space count (take i list) ≡ take part (own space count list)
  all_front end few =
      let whole : take i list ≡ list = take_all i list end in
      ap (own space count) whole ∙ sym (take_all part (own space count list) (omega (arith, few, ap (λ (l : List Change). length (own space count l)) whole)))

  pub all_rest : length list ≤ i → length (own space count (take i list)) ≤ part → own space count (drop i list) ≡ drop part (own space count list)
  all_rest end few =
      let whole : take i list ≡ list = take_all i list end in
      ap (own space count) (drop_of_length-le list end)
      ∙ sym (drop_of_length-le (own space count list) (omega (arith, few, ap (λ (l : List Change). length (own space count l)) whole)))
