-- The records that a site's log holds are the last part of its history.
use Rattle.std.specs.Prelude.{◌≡◌, ℕ, zero, suc, ◌+◌, ◌-◌, ◌≤◌, List, [], ◌∷◌, ◌++◌, length, take, drop}
use Rattle.std.proofs.Common.{arith, sym, ap, ◌∙◌, append_assoc, length-take}
use Rattle.std.proofs.lemmas.List.{append-nil, take-append-drop, take_all}
use Rattle.log_history.specs.History.{History}
use Rattle.log_files.specs.Files.{joined, part_of}
use Rattle.onbar_grammar.specs.Script.{Space}
use Rattle.site_worlds.specs.Worlds.{Ring}
use Rattle.site_worlds.specs.Files.{first_of_file}
use Rattle.site_worlds.specs.Fitness.{FitHistory}
use Rattle.world_laws.specs.LinesLaws.{first_some}
use Rattle.ring_laws.specs.Rings.{file_records, files_of, records_by_file}
use Rattle.ring_laws.specs.PartsLaws.{first_behind, one_later, plus_none, take-next}

-- some records and those behind them
one_rest : {X : Type 0} (front : List X) (a b : List X) → front ++ a ≡ front ++ b → a ≡ b
one_rest [] a b same = same
one_rest (x ∷ front) a b same = one_rest front a b (cc same)

module _ (spaces : List Space) (history : History) (starts : List ℕ) (fit : FitHistory spaces history starts) where
  -- what is before a file, and so many files
  before-files : (file count : ℕ) → 1 ≤ file
      → take (first_of_file starts history file - 1) history ++ joined (records_by_file starts history file count) ≡ take (first_of_file starts history (file + count) - 1) history
  before-files file zero some =
      append-nil (take (first_of_file starts history file - 1) history)
      ∙ ap (λ (n : ℕ). take (first_of_file starts history n - 1) history) (sym (plus_none file))
  before-files file (suc count) some =
      sym (append_assoc (take (first_of_file starts history file - 1) history) (file_records starts history file) (joined (records_by_file starts history (file + 1) count)))
      ∙ ap (λ (l : History). l ++ joined (records_by_file starts history (file + 1) count)) (sym (take-next spaces history starts fit file some))
      ∙ before-files (file + 1) count (omega arith)
      ∙ ap (λ (n : ℕ). take (first_of_file starts history n - 1) history) (one_later file count)

  module _ (ring : Ring) (some : 1 ≤ ring.oldest) (held : ring.oldest ≤ length starts) where
    abbrev before : ℕ
    before = first_of_file starts history ring.oldest - 1

    -- all records: those that aren't held, and those that are
    pub all_records : take before history ++ part_of (files_of starts history ring) ≡ history
    all_records =
        let last : ℕ = length starts in
        let there : ring.oldest + (last - ring.oldest) ≡ last = omega (arith, held) in
        sym (append_assoc (take before history) (joined (records_by_file starts history ring.oldest (last - ring.oldest))) (file_records starts history last))
        ∙ ap (λ (l : History). l ++ file_records starts history last)
        (before-files ring.oldest (last - ring.oldest) some ∙ ap (λ (n : ℕ). take (first_of_file starts history n - 1) history) there)
        ∙ sym (take-next spaces history starts fit last (omega (arith, some, held)))
        ∙ take_all (first_of_file starts history (last + 1) - 1) history (omega (arith, first_behind spaces history starts fit (last + 1) (omega arith)))

    pub length-before : length (take before history) ≡ before
    length-before = omega (arith, length-take before history, fit.inside ring.oldest, first_some spaces history starts fit ring.oldest some)

    pub held_is : part_of (files_of starts history ring) ≡ drop before history
    held_is = one_rest (take before history) (part_of (files_of starts history ring)) (drop before history) (all_records ∙ sym (take-append-drop before history))
