-- What the held files of a site's log tell of all of it: the open transactions, and what lanes lack.
use Rattle.std.specs.Prelude.{◌≡◌, ℕ, ◌<◌, ◌==◌, Bool, true, false, nat_lt, if◌then◌else◌, List, [], ◌∷◌, ◌++◌, length, reverse, filter}
use Rattle.std.specs.List.{AllByRecursion}
use Rattle.std.proofs.Common.{refl, sym, ap, ◌∙◌, subst, arith, append_assoc, length-append}
use Rattle.std.proofs.lemmas.List.{reverse-append, length-reverse}
use Rattle.log_history.specs.History.{LogEntry, History}
use Rattle.log_history.specs.Live.{reset_points, reset_points_back}
use Rattle.log_history.specs.Effects.{Change, changes}
use Rattle.log_history.specs.Transactions.{table_back, table_of, low, InOrder, InOrderBack}
use Rattle.space_pages.specs.Progress.{changes_back}
use Rattle.space_pages.specs.ProgressLaws.{all_changes}
use Rattle.lane_ways.specs.Ways.{changes_behind, lane_changes}
use Rattle.held_laws.specs.Reading.{changes_read, changes_read_back, read_back, resets_read, resets_read_back, table_read}
use Rattle.held_laws.specs.TableLaws.{all_began, all_behind, reads_all}
use Rattle.held_laws.specs.ChangesLaws.{behind, changes_as_read, read_by_those}

-- All that are open began behind some records: the table of a reader of the rest is that of all.
pub held_table : (older held : History) → InOrder (older ++ held) → length older < low (older ++ held) → table_read (length older) held ≡ table_of (older ++ held)
held_table older held order lt =
    let split : reverse (older ++ held) ≡ reverse held ++ reverse older = reverse-append older held in
    let count : length (reverse older) ≡ length older = length-reverse older in
    let began = all_behind (length older) (length (older ++ held)) (reverse (older ++ held)) lt in
    ap (λ (n : ℕ). read_back n (reverse held)) (sym count)
    ∙ reads_all (reverse older) (reverse held) (subst InOrderBack split order)
    (subst (λ (n : ℕ). AllByRecursion (λ o. n < o.first) (table_back (reverse held ++ reverse older))) (sym count)
    (subst (λ (l : List LogEntry). AllByRecursion (λ o. length older < o.first) (table_back l)) split began))
    ∙ ap table_back (sym split)

module _ (older front rest : History) where
  split : reverse (older ++ (front ++ rest)) ≡ reverse rest ++ (reverse front ++ reverse older)
  split =
      reverse-append older (front ++ rest)
      ∙ ap (λ (l : List LogEntry). l ++ reverse older) (reverse-append front rest)
      ∙ append_assoc (reverse rest) (reverse front) (reverse older)

  upto_is : length (reverse front ++ reverse older) ≡ length (older ++ front)
  upto_is = omega (arith, length-append (reverse front) (reverse older), length-append older front, length-reverse front, length-reverse older)

  -- All that were open at a position began behind some records: what a reader of the rest finds behind that position are the changes of all.
  pub held_changes : (n : ℕ) → InOrder (older ++ (front ++ rest)) → length older < low (older ++ front)
      → behind (length (older ++ front)) (changes_read (resets_read (length older) (front ++ rest)) n (length older) (front ++ rest))
      ≡ behind (length (older ++ front)) (changes (older ++ (front ++ rest)) n)
  held_changes n order lt =
      let count : length (reverse older) ≡ length older = length-reverse older in
      let upto : ℕ = length (older ++ front) in
      let began = all_behind (length older) upto (reverse (older ++ front)) lt in
      let there : AllByRecursion (λ o. length (reverse older) < o.first) (table_back (reverse front ++ reverse older)) =
      subst (λ (k : ℕ). AllByRecursion (λ o. k < o.first) (table_back (reverse front ++ reverse older))) (sym count)
      (subst (λ (l : List LogEntry). AllByRecursion (λ o. length older < o.first) (table_back l)) (reverse-append older front) began) in
      let all : (newer : List LogEntry) → InOrderBack (newer ++ (reverse front ++ reverse older))
      → read_back (length (reverse older)) (newer ++ reverse front) ≡ table_back (newer ++ (reverse front ++ reverse older)) =
      λ newer ordered.
      let same = append_assoc newer (reverse front) (reverse older) in
      reads_all (reverse older) (newer ++ reverse front) (subst InOrderBack (sym same) ordered)
      (subst (λ (l : List LogEntry). AllByRecursion (λ o. length (reverse older) < o.first) (table_back l)) (sym same)
      (all_began (reverse older) newer (reverse front) there))
      ∙ ap table_back same in
      let resets = reset_points (older ++ (front ++ rest)) in
      let as_read = changes_as_read resets n (reverse older) (reverse front) all (reverse rest) (subst InOrderBack split order) in
      let newest : reverse (front ++ rest) ≡ reverse rest ++ reverse front = reverse-append front rest in
      let whole : reverse (older ++ (front ++ rest)) ≡ reverse (front ++ rest) ++ reverse older = reverse-append older (front ++ rest) in
      ap (λ (l : List Change). behind upto l) (
      ap (λ (k : ℕ). changes_read_back (resets_read_back k (reverse (front ++ rest))) n k (reverse (front ++ rest))) (sym count)
      ∙ sym (read_by_those (reverse (front ++ rest)) (reverse older) n (reverse (front ++ rest)))
      ∙ ap (λ (l : List LogEntry). changes_read_back (reset_points_back l) n (length (reverse older)) (reverse (front ++ rest))) (sym whole)
      ∙ ap (λ (l : List LogEntry). changes_read_back resets n (length (reverse older)) l) newest)
      ∙ ap (λ (k : ℕ). behind k (changes_read_back resets n (length (reverse older)) (reverse rest ++ reverse front))) (sym upto_is)
      ∙ as_read
      ∙ ap (λ (k : ℕ). behind k (changes_back resets n (reverse rest ++ (reverse front ++ reverse older)))) upto_is
      ∙ ap (λ (l : List LogEntry). behind upto (changes_back resets n l)) (sym split)
      ∙ ap (λ (l : List Change). behind upto l) (all_changes (older ++ (front ++ rest)) n)

-- of a space

swapped : (p q : Change → Bool) (list : List Change) → filter p (filter q list) ≡ filter q (filter p list)
swapped p q [] = refl
swapped p q (change ∷ list) = by (p change) refl (q change) refl (swapped p q list)
  where
    by : (b : Bool) → p change ≡ b → (c : Bool) → q change ≡ c → filter p (filter q list) ≡ filter q (filter p list)
        → filter p (if c then change ∷ filter q list else filter q list) ≡ filter q (if b then change ∷ filter p list else filter p list)
    by true is true other ih = rw is (rw other (ap (λ (l : List Change). change ∷ l) ih))
    by true is false other ih = rw other ih
    by false is true other ih = rw is ih
    by false is false other ih = ih

-- what a lane lacks that stands behind the front
pub held_way : (older front rest : History) (n space : ℕ) → InOrder (older ++ (front ++ rest)) → length older < low (older ++ front)
    → changes_behind (length (older ++ front)) (filter (λ change. change.patch.space == space)
    (changes_read (resets_read (length older) (front ++ rest)) n (length older) (front ++ rest)))
    ≡ changes_behind (length (older ++ front)) (lane_changes (older ++ (front ++ rest)) n space)
held_way older front rest n space order lt =
    swapped (λ change. nat_lt (length (older ++ front)) change.commit) (λ change. change.patch.space == space)
    (changes_read (resets_read (length older) (front ++ rest)) n (length older) (front ++ rest))
    ∙ ap (filter (λ change. change.patch.space == space)) (held_changes older front rest n order lt)
    ∙ swapped (λ change. change.patch.space == space) (λ change. nat_lt (length (older ++ front)) change.commit) (changes (older ++ (front ++ rest)) n)
