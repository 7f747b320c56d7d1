-- What a move of the log makes of a site's files is what the like step makes of them.
use Rattle.std.specs.Prelude.{◌≡◌, ℕ, zero, suc, ◌+◌, ◌-◌, ◌<◌, ◌≤◌, List, [], ◌∷◌, ◌++◌, length, take, drop, Option, None, Some}
use Rattle.std.specs.Option.{option_map}
use Rattle.std.proofs.Common.{arith, refl, sym, ap, ◌∙◌, length-append, length-drop, take_all}
use Rattle.std.proofs.lemmas.List.{take-append-le, drop-append-le}
use Rattle.log_history.specs.History.{History, reset}
use Rattle.log_history.specs.Transactions.{last_time}
use Rattle.log_files.specs.Files.{LogFiles, time_at as log_time_at, new_files, appended, closed, with_next, with_backed, from_past, without_oldest}
use Rattle.onbar_grammar.specs.Script.{Space}
use Rattle.site_worlds.specs.Worlds.{Ring, Site}
use Rattle.site_worlds.specs.Files.{first_of_file}
use Rattle.site_worlds.specs.Fitness.{FitHistory, IsFitSite}
use Rattle.site_worlds.specs.Moves.{Move, append_batch, append_reset, close_file, drop_oldest, next_file, mark_backed, format_log, commit_objects, append_lines, begin_restore, set_prepared, end_restore, move_lanes, opened, closed as shut, less_oldest, with_backed as backed_to, ring_from, site_after}
use Rattle.site_worlds.specs.Allowed.{CanMove, HasRing}
use Rattle.world_laws.specs.GrowthLaws.{first_begun, first_opened, first_beyond, time_before as time_stays}
use Rattle.world_laws.specs.LinesLaws.{first_some}
use Rattle.world_laws.specs.RingLaws.{ring_of}
use Rattle.world_laws.specs.OpenLaws.{with_next as starts_with_next}
use Rattle.ring_laws.specs.Rings.{file_records, records_by_file, time_before, files_of, files_in, files_after}
use Rattle.ring_laws.specs.PartsLaws.{same_files, plus_none, one_later, first_behind, length-file_records, current_records, time_before-next}

module _ (spaces : List Space) (history : History) (starts : List ℕ) (fit : FitHistory spaces history starts) where
  -- records go into the current file

  module _ (more : History) where
    begun : (file : ℕ) → 1 ≤ file → file ≤ length starts → first_of_file starts (history ++ more) file ≡ first_of_file starts history file
    begun file some le = first_begun starts (length (history ++ more)) (length history) (file - 1) (omega (arith, some, le))

    -- a file that isn't the current one stays
    file_stays : (file : ℕ) → 1 ≤ file → file < length starts → file_records starts (history ++ more) file ≡ file_records starts history file
    file_stays file some lt =
        let from : ℕ = first_of_file starts history file in
        let to : ℕ = first_of_file starts history (file + 1) in
        ap (λ (n : ℕ). take (n - first_of_file starts (history ++ more) file) (drop (first_of_file starts (history ++ more) file - 1) (history ++ more)))
        (begun (file + 1) (omega arith) (omega (arith, lt)))
        ∙ ap (λ (n : ℕ). take (to - n) (drop (n - 1) (history ++ more))) (begun file some (omega (arith, lt)))
        ∙ ap (take (to - from)) (drop-append-le (from - 1) history more (omega (arith, fit.inside file)))
        ∙ take-append-le (to - from) (drop (from - 1) history) more
        (omega (arith, length-drop (from - 1) history, fit.inside (file + 1), first_some spaces history starts fit file some))

    files_stay : (file count : ℕ) → 1 ≤ file → file + count ≤ length starts → records_by_file starts (history ++ more) file count ≡ records_by_file starts history file count
    files_stay file zero some le = refl
    files_stay file (suc count) some le =
        ap (λ (l : History). l ∷ records_by_file starts (history ++ more) (file + 1) count) (file_stays file some (omega (arith, le)))
        ∙ ap (λ (l : List History). file_records starts history file ∷ l) (files_stay (file + 1) count (omega arith) (omega (arith, le)))

    current_grows : 1 ≤ length starts → file_records starts (history ++ more) (length starts) ≡ file_records starts history (length starts) ++ more
    current_grows some =
        let from : ℕ = first_of_file starts history (length starts) in
        ap (λ (n : ℕ). take (first_of_file starts (history ++ more) (length starts + 1) - n) (drop (n - 1) (history ++ more))) (begun (length starts) some (omega arith))
        ∙ take_all (first_of_file starts (history ++ more) (length starts + 1) - from) (drop (from - 1) (history ++ more))
        (omega (
          arith,
          length-drop (from - 1) (history ++ more),
          end,
          first_some spaces history starts fit (length starts) some,
        ))
        ∙ drop-append-le (from - 1) history more (omega (arith, fit.inside (length starts)))
        ∙ ap (λ (l : History). l ++ more) (sym (current_records spaces history starts fit some))
      where
        end : first_of_file starts (history ++ more) (length starts + 1) ≡ suc (length (history ++ more))
        end = first_beyond starts (length (history ++ more)) (length starts + 1 - 1) (omega arith)

    pub files_appended : (ring : Ring) → 1 ≤ ring.oldest → ring.oldest ≤ length starts → files_of starts (history ++ more) ring ≡ appended (files_of starts history ring) more
    files_appended ring some held =
        let first : first_of_file starts (history ++ more) ring.oldest ≡ first_of_file starts history ring.oldest = begun ring.oldest some held in
        same_files (files_of starts (history ++ more) ring) (appended (files_of starts history ring) more) refl first
        (ap (λ (n : ℕ). last_time (take (n - 1) (history ++ more))) first
        ∙ time_stays history more (first_of_file starts history ring.oldest - 1) (omega (arith, fit.inside ring.oldest)))
        (files_stay ring.oldest (length starts - ring.oldest) some (omega (arith, held)))
        (current_grows (omega (arith, some, held))) refl refl

  -- the next file is opened

  same_first : (file : ℕ) → first_of_file (starts_with_next history starts) history file ≡ first_of_file starts history file
  same_first file = first_opened starts (length history) (file - 1)

  count_next : length (starts_with_next history starts) ≡ length starts + 1
  count_next = length-append starts (suc (length history) ∷ [])

  same_records : (file : ℕ) → file_records (starts_with_next history starts) history file ≡ file_records starts history file
  same_records file =
      ap (λ (n : ℕ). take (n - first_of_file (starts_with_next history starts) history file) (drop (first_of_file (starts_with_next history starts) history file - 1) history)) (same_first (file + 1))
      ∙ ap (λ (n : ℕ). take (first_of_file starts history (file + 1) - n) (drop (n - 1) history)) (same_first file)

  same_by_file : (file count : ℕ) → records_by_file (starts_with_next history starts) history file count ≡ records_by_file starts history file count
  same_by_file file zero = refl
  same_by_file file (suc count) =
      ap (λ (l : History). l ∷ records_by_file (starts_with_next history starts) history (file + 1) count) (same_records file)
      ∙ ap (λ (l : List History). file_records starts history file ∷ l) (same_by_file (file + 1) count)

  last_of_them : (file count : ℕ) → records_by_file starts history file (suc count) ≡ records_by_file starts history file count ++ file_records starts history (file + count) ∷ []
  last_of_them file zero = ap (λ (n : ℕ). file_records starts history n ∷ []) (sym (plus_none file))
  last_of_them file (suc count) =
      ap (λ (l : List History). file_records starts history file ∷ l)
      (last_of_them (file + 1) count ∙ ap (λ (n : ℕ). records_by_file starts history (file + 1) count ++ file_records starts history n ∷ []) (one_later file count))

  -- a file that hasn't begun has no records
  none_behind : (file : ℕ) → length starts < file → file_records starts history file ≡ []
  none_behind file lt =
      ap (λ (n : ℕ). take n (drop (first_of_file starts history file - 1) history)) (none (first_of_file starts history (file + 1)) (first_of_file starts history file)
      (first_behind spaces history starts fit (file + 1) (omega (arith, lt))) (first_behind spaces history starts fit file lt))
    where
      none : (a b : ℕ) → a ≡ suc (length history) → b ≡ suc (length history) → a - b ≡ 0
      none a b is same = omega (arith, is, same)

  new_current : file_records (starts_with_next history starts) history (length (starts_with_next history starts)) ≡ []
  new_current =
      ap (file_records (starts_with_next history starts) history) count_next
      ∙ same_records (length starts + 1) ∙ none_behind (length starts + 1) (omega arith)

  pub files_opened : (ring : Ring) → ring.oldest ≤ length starts → files_of (starts_with_next history starts) history (opened ring) ≡ with_next (files_of starts history ring)
  files_opened ring held =
      let count : length (starts_with_next history starts) - ring.oldest ≡ suc (length starts - ring.oldest) = omega (arith, count_next, held) in
      let last : ring.oldest + (length starts - ring.oldest) ≡ length starts = omega (arith, held) in
      same_files (files_of (starts_with_next history starts) history (opened ring)) (with_next (files_of starts history ring)) refl (same_first ring.oldest)
      (ap (λ (n : ℕ). last_time (take (n - 1) history)) (same_first ring.oldest))
      (ap (records_by_file (starts_with_next history starts) history ring.oldest) count
      ∙ same_by_file ring.oldest (suc (length starts - ring.oldest))
      ∙ last_of_them ring.oldest (length starts - ring.oldest)
      ∙ ap (λ (n : ℕ). records_by_file starts history ring.oldest (length starts - ring.oldest) ++ file_records starts history n ∷ []) last)
      new_current refl refl

  -- a lost log is formatted
  pub files_formatted : files_of (starts_with_next history starts) history (ring_from (length starts)) ≡ new_files (suc (length starts)) (suc (length history)) (last_time history)
  files_formatted =
      let count : length (starts_with_next history starts) - suc (length starts) ≡ 0 = omega (arith, count_next) in
      let first : first_of_file (starts_with_next history starts) history (suc (length starts)) ≡ suc (length history) =
      same_first (suc (length starts)) ∙ first_behind spaces history starts fit (suc (length starts)) (omega arith) in
      same_files (files_of (starts_with_next history starts) history (ring_from (length starts))) (new_files (suc (length starts)) (suc (length history)) (last_time history)) refl first
      (ap (λ (n : ℕ). last_time (take (n - 1) history)) first ∙ ap last_time (take_all (suc (length history) - 1) history (omega arith)))
      (ap (records_by_file (starts_with_next history starts) history (suc (length starts))) count)
      new_current refl (omega arith)

  -- the oldest file is dropped

  dropped_by : (files : LogFiles) (ring : Ring) (count : ℕ) → 1 ≤ ring.oldest → ring.oldest + suc count ≡ length starts → files ≡ files_of starts history ring
      → files_of starts history (less_oldest ring) ≡ from_past files (records_by_file starts history ring.oldest (suc count))
  dropped_by files ring count some is same =
      let rest : length starts - suc ring.oldest ≡ count = omega (arith, is) in
      let next : suc ring.oldest ≡ ring.oldest + 1 = omega arith in
      let oldest : files.oldest ≡ ring.oldest = ap (λ (f : LogFiles). f.oldest) same in
      let first : files.first ≡ first_of_file starts history ring.oldest = ap (λ (f : LogFiles). f.first) same in
      let before : files.before ≡ time_before starts history ring.oldest = ap (λ (f : LogFiles). f.before) same in
      same_files (files_of starts history (less_oldest ring)) (from_past files (records_by_file starts history ring.oldest (suc count)))
      (next ∙ ap (λ (n : ℕ). n + 1) (sym oldest))
      (ap (first_of_file starts history) next
      ∙ longer (length (file_records starts history ring.oldest)) (first_of_file starts history ring.oldest) (first_of_file starts history (ring.oldest + 1)) files.first
      (length-file_records spaces history starts fit ring.oldest some) first)
      (ap (time_before starts history) next ∙ time_before-next spaces history starts fit ring.oldest some
      ∙ ap (λ (n : ℕ). log_time_at n (file_records starts history ring.oldest)) (sym before))
      (ap (λ (n : ℕ). records_by_file starts history n (length starts - suc ring.oldest)) next ∙ ap (records_by_file starts history (ring.oldest + 1)) rest)
      (sym (ap (λ (f : LogFiles). f.current) same)) (sym (ap (λ (f : LogFiles). f.is_closed) same)) (sym (ap (λ (f : LogFiles). f.backed) same))
    where
      longer : (n from to first : ℕ) → n + from ≡ to → first ≡ from → to ≡ first + n
      longer n from to first is same_first = omega (arith, is, same_first)

  pub files_dropped : (ring : Ring) → 1 ≤ ring.oldest → ring.oldest < length starts → files_of starts history (less_oldest ring) ≡ without_oldest (files_of starts history ring)
  files_dropped ring some lt =
      let count : length starts - ring.oldest ≡ suc (length starts - ring.oldest - 1) = omega (arith, lt) in
      dropped_by (files_of starts history ring) ring (length starts - ring.oldest - 1) some (omega (arith, lt)) refl
      ∙ ap (λ (n : ℕ). from_past (files_of starts history ring) (records_by_file starts history ring.oldest n)) (sym count)

-- each move of the log

same_option : (files : Option LogFiles) → files ≡ option_map (λ (f : LogFiles). f) files
same_option None = refl
same_option (Some files) = refl

-- the log is there behind a move that leaves it there
held_by : (site : Site) (ring : Ring) → site.ring ≡ Some ring → files_in site ≡ Some (files_of site.starts site.history ring)
held_by site ring is = ap (option_map (files_of site.starts site.history)) is

module _ (site : Site) (fit : IsFitSite site) where
  batch_files : (more : History) (has : HasRing site) → files_in (record site { history = site.history ++ more }) ≡ option_map (λ files. appended files more) (files_in site)
  batch_files more has =
      let holds = ring_of site has.ring has.is fit in
      ap (option_map (files_of site.starts (site.history ++ more))) has.is
      ∙ ap Some (files_appended site.head.spaces site.history site.starts fit.history more has.ring holds.oldest holds.held)
      ∙ ap (option_map (λ files. appended files more)) (sym (held_by site has.ring has.is))

  close_files : (has : HasRing site) → files_in (site_after close_file site) ≡ option_map closed (files_in site)
  close_files has =
      ap (λ (o : Option Ring). option_map (files_of site.starts site.history) (option_map shut o)) has.is
      ∙ ap (option_map closed) (sym (held_by site has.ring has.is))

  drop_files : (has : HasRing site) → has.ring.oldest < length site.starts → files_in (site_after drop_oldest site) ≡ option_map without_oldest (files_in site)
  drop_files has lt =
      let holds = ring_of site has.ring has.is fit in
      ap (λ (o : Option Ring). option_map (files_of site.starts site.history) (option_map less_oldest o)) has.is
      ∙ ap Some (files_dropped site.head.spaces site.history site.starts fit.history has.ring holds.oldest lt)
      ∙ ap (option_map without_oldest) (sym (held_by site has.ring has.is))

  next_files : (has : HasRing site) → files_in (site_after next_file site) ≡ option_map with_next (files_in site)
  next_files has =
      let holds = ring_of site has.ring has.is fit in
      ap (λ (o : Option Ring). option_map (files_of (starts_with_next site.history site.starts) site.history) (option_map opened o)) has.is
      ∙ ap Some (files_opened site.head.spaces site.history site.starts fit.history has.ring holds.held)
      ∙ ap (option_map with_next) (sym (held_by site has.ring has.is))

  mark_files : (file : ℕ) (has : HasRing site) → files_in (site_after (mark_backed file) site) ≡ option_map (λ files. with_backed files file) (files_in site)
  mark_files file has =
      ap (λ (o : Option Ring). option_map (files_of site.starts site.history) (option_map (backed_to file) o)) has.is
      ∙ ap (option_map (λ files. with_backed files file)) (sym (held_by site has.ring has.is))

-- Behind a move that may be made, a fit site's log holds what the move makes of the files that it held.
pub files_behind : (move : Move) (site : Site) → CanMove move site → IsFitSite site → (move ≡ format_log → ⊥) → files_in (site_after move site) ≡ option_map (files_after move) (files_in site)
files_behind (append_batch records) site can fit isnt = batch_files site fit records can.has
files_behind (append_reset restore target time) site can fit isnt = batch_files site fit (reset restore target time ∷ []) can.has
files_behind close_file site can fit isnt = close_files site fit can.has
files_behind drop_oldest site can fit isnt = drop_files site fit can.has can.not_last
files_behind next_file site can fit isnt = next_files site fit can.has
files_behind (mark_backed file) site can fit isnt = mark_files site fit file can.has
files_behind format_log site can fit isnt = absurd (isnt refl)
files_behind (commit_objects added deleted) site can fit isnt = same_option (files_in site)
files_behind (append_lines more) site can fit isnt = same_option (files_in site)
files_behind (begin_restore point to) site can fit isnt = same_option (files_in site)
files_behind (set_prepared prepared) site can fit isnt = same_option (files_in site)
files_behind end_restore site can fit isnt = same_option (files_in site)
files_behind (move_lanes goals) site can fit isnt = same_option (files_in site)

-- A lost log that is formatted holds one empty file, behind all that is known of it.
pub files_behind_format : (site : Site) → IsFitSite site
    → files_in (site_after format_log site) ≡ Some (new_files (suc (length site.starts)) (suc (length site.history)) (last_time site.history))
files_behind_format site fit = ap Some (files_formatted site.head.spaces site.history site.starts fit.history)
