-- The files held, one after another.
use Rattle.std.specs.Prelude.{Result, Ok, Err}
use Rattle.std.proofs.Common.{◌≡◌, ℕ, zero, suc, ◌+◌, ◌-◌, ◌*◌, ◌%◌, ◌^◌, ◌<◌, ◌≤◌, List, [], ◌∷◌, ◌++◌, length, map, take, drop, reverse, get_or, Bool, true, false, if◌then◌else◌, Option, None, Some, refl, sym, ap, ◌∙◌, subst, arith, append_assoc, length-append}
use Rattle.std.specs.Prelude.{◌==◌}
use Rattle.std.specs.Option.{option_or}
use Rattle.std.specs.List.{AllByRecursion}
use Rattle.std.specs.Prelude.{filter}
use Rattle.std.proofs.lemmas.List.{append-nil, drop_all, length-map, length-reverse, reverse-append, take_all}
use Rattle.log_history.specs.Live.{ResetPoint, live_by}
use Rattle.log_history.specs.Effects.{Change}
use Rattle.txn_table.specs.Table.{change_of}
use Rattle.backup_lines.specs.declared.lines.FileSpan.{FileSpan}
use Rattle.log_files.specs.Views.{span_in, spans_in}
use Rattle.held_laws.specs.Reading.{resets_read}
use Rattle.held_log.specs.CountLaws.{few_read}
use Rattle.held_log.specs.ChangesLaws.{are_changes, live_gathered}
use Rattle.held_log.specs.FilesLaws.{all_held}
use Rattle.held_log.specs.Logs.{AreChanges, changes_held, table_held}
use Rattle.log_history.specs.History.{LogEntry, History}
use Rattle.log_record.specs.Layout.{IsRecord}
use Rattle.backup_lines.specs.Lines.{Span}
use Rattle.log_files.specs.Files.{LogFiles, AreFiles, FitPast, count_in, current_first, end_of, filled, joined, next_of, part_of, records_from, records_of, spans_from, spans_of, time_at}
use Rattle.lane_ways.specs.ListLaws.{all_append}
use Rattle.logical_log.proofs.PlacesLemmas.{records_at}
use Rattle.held_log.specs.Strays.{first_stray, held_files, stray_from, stray_in}
use Rattle.held_log.specs.Readers.{FileIs, HasTaken}
use Rattle.held_log.specs.declared.faults.HeldFault.{HeldFault}
use Rattle.held_log.specs.declared.faults.HeldFault.TheVariants.{BadRecord}
use Rattle.held_log.specs.declared.reader.Reader.{Reader}

-- of lists

pub length-joined : (xs : List History) → length (joined xs) ≡ count_in xs
length-joined [] = refl
length-joined (x ∷ xs) = omega (arith, length-append x (joined xs), length-joined xs)

pub joined_more : (xs : List History) (i : ℕ) → i < length xs → joined (take (i + 1) xs) ≡ joined (take i xs) ++ get_or xs i []
joined_more [] i lt = absurd (omega (arith, lt))
joined_more (x ∷ xs) zero lt = append-nil x
joined_more (x ∷ xs) (suc i) lt =
    ap (λ (n : ℕ). joined (take n (x ∷ xs))) (let e : suc i + 1 ≡ suc (i + 1) = omega arith in e)
    ∙ ap (λ (l : History). x ++ l) (joined_more xs i (omega (arith, lt))) ∙ sym (append_assoc x (joined (take i xs)) (get_or xs i []))

drop_at : (xs : List History) (i : ℕ) → i < length xs → drop i xs ≡ get_or xs i [] ∷ drop (i + 1) xs
drop_at [] i lt = absurd (omega (arith, lt))
drop_at (x ∷ xs) zero lt = refl
drop_at (x ∷ xs) (suc i) lt = drop_at xs i (omega (arith, lt)) ∙ ap (λ (n : ℕ). get_or xs i [] ∷ drop n (x ∷ xs)) (let e : suc (i + 1) ≡ suc i + 1 = omega arith in e)

count_take : (xs : List History) (i : ℕ) → count_in (take i xs) ≤ count_in xs
count_take [] zero = omega arith
count_take [] (suc i) = omega arith
count_take (x ∷ xs) zero = omega arith
count_take (x ∷ xs) (suc i) = omega (arith, count_take xs i)

count-append : (xs ys : List History) → count_in (xs ++ ys) ≡ count_in xs + count_in ys
count-append [] ys = omega arith
count-append (x ∷ xs) ys = omega (arith, count-append xs ys)

count-filled : (entries : History) → count_in (filled entries) ≡ length entries
count-filled [] = refl
count-filled (entry ∷ entries) = omega arith

-- the spans, by place

pub length-spans : (file first before : ℕ) (xs : List History) → length (spans_from file first before xs) ≡ length xs
length-spans file first before [] = refl
length-spans file first before (x ∷ xs) = ap suc (length-spans (file + 1) (first + length x) (time_at before x) xs)

pub file_at : (file first before : ℕ) (xs : List History) (i : ℕ) (d : Span) → i < length xs → (get_or (spans_from file first before xs) i d).file ≡ file + i
file_at file first before [] i d lt = absurd (omega (arith, lt))
file_at file first before (x ∷ xs) zero d lt = omega arith
file_at file first before (x ∷ xs) (suc i) d lt = file_at (file + 1) (first + length x) (time_at before x) xs i d (omega (arith, lt)) ∙ (let e : file + 1 + i ≡ file + suc i = omega arith in e)

pub first_at : (file first before : ℕ) (xs : List History) (i : ℕ) (d : Span) → i < length xs
    → (get_or (spans_from file first before xs) i d).first ≡ first + count_in (take i xs)
first_at file first before [] i d lt = absurd (omega (arith, lt))
first_at file first before (x ∷ xs) zero d lt = omega arith
first_at file first before (x ∷ xs) (suc i) d lt =
    first_at (file + 1) (first + length x) (time_at before x) xs i d (omega (arith, lt))
    ∙ (let e : first + length x + count_in (take i xs) ≡ first + (length x + count_in (take i xs)) = omega arith in e)

get_or-mapped : {X Y : Type 0} (f : X → Y) (xs : List X) (i : ℕ) (d : X) → f (get_or xs i d) ≡ get_or (map f xs) i (f d)
get_or-mapped f [] zero d = refl
get_or-mapped f [] (suc i) d = refl
get_or-mapped f (x ∷ xs) zero d = refl
get_or-mapped f (x ∷ xs) (suc i) d = get_or-mapped f xs i d

module _ (files : LogFiles) (spans : List FileSpan) (told : spans_in spans ≡ spans_of files) where
  pub count_spans : length spans ≡ length (held_files files)
  count_spans = sym (length-map spans span_in) ∙ ap (λ (l : List Span). length l) told ∙ length-spans files.oldest files.first files.before (held_files files)

  pub span_file : (i : ℕ) (d : FileSpan) → i < length (held_files files) → (get_or spans i d).file ≡ files.oldest + i
  span_file i d lt =
      ap (λ (s : Span). s.file) (get_or-mapped span_in spans i d ∙ ap (λ (l : List Span). get_or l i (span_in d)) told)
      ∙ file_at files.oldest files.first files.before (held_files files) i (span_in d) lt

  pub span_first : (i : ℕ) (d : FileSpan) → i < length (held_files files) → (get_or spans i d).first ≡ files.first + count_in (take i (held_files files))
  span_first i d lt =
      ap (λ (s : Span). s.first) (get_or-mapped span_in spans i d ∙ ap (λ (l : List Span). get_or l i (span_in d)) told)
      ∙ first_at files.oldest files.first files.before (held_files files) i (span_in d) lt

-- the records, by place

same_at : (past : List History) (current : History) (i : ℕ) → i < length (past ++ filled current) → get_or (past ++ current ∷ []) i [] ≡ get_or (past ++ filled current) i []
same_at [] [] i lt = absurd (omega (arith, lt))
same_at [] (entry ∷ entries) i lt = refl
same_at (x ∷ past) current zero lt = refl
same_at (x ∷ past) current (suc i) lt = same_at past current i (omega (arith, lt))

length-filled : (current : History) → length (filled current) ≤ 1
length-filled [] = omega arith
length-filled (entry ∷ entries) = omega arith

few_from : (id first : ℕ) (past : List History) (current : History) (file : ℕ) → FitPast first past → length current ≤ 256
    → length (records_from id (past ++ current ∷ []) file) ≤ 256
few_from id first [] current file fits few = by (id == file)
  where
    by : (b : Bool) → length (if b then current else []) ≤ 256
    by true = few
    by false = omega arith
few_from id first (x ∷ past) current file fits few = by (id == file) (few_from (id + 1) (first + length x) past current file fits.1.1 few)
  where
    by : (b : Bool) → length (records_from (id + 1) (past ++ current ∷ []) file) ≤ 256 → length (if b then x else records_from (id + 1) (past ++ current ∷ []) file) ≤ 256
    by true rest = fits.0.few
    by false rest = rest

count_few : (first : ℕ) (past : List History) → FitPast first past → count_in past ≤ 256 * length past
count_few first [] fits = omega arith
count_few first (x ∷ past) fits = omega (arith, fits.0.few, count_few (first + length x) past fits.1.1)

all_joined : (first : ℕ) (past : List History) → FitPast first past → AllByRecursion IsRecord (joined past)
all_joined first [] fits = tt
all_joined first (x ∷ past) fits = all_append IsRecord x (joined past) fits.0.records (all_joined (first + length x) past fits.1.1)

all_reverse : (xs : List LogEntry) → AllByRecursion IsRecord xs → AllByRecursion IsRecord (reverse xs)
all_reverse [] all = tt
all_reverse (x ∷ xs) all = subst (AllByRecursion IsRecord) (sym (reverse-append (x ∷ []) xs)) (all_append IsRecord (reverse xs) (x ∷ []) (all_reverse xs all.1) (all.0, tt))

module _ (files : LogFiles) (fits : AreFiles files) where
  -- at most 256 are in each
  pub few_records : (file : ℕ) → length (records_of files file) ≤ 256
  few_records file = few_from files.oldest files.first files.past files.current file fits.past fits.current.few

  pub records_here : (i : ℕ) → i < length (held_files files) → records_of files (files.oldest + i) ≡ get_or (held_files files) i []
  records_here i lt =
      records_at files.oldest (files.past ++ files.current ∷ []) i
      (omega (arith, lt, length-append files.past (filled files.current), length-append files.past (files.current ∷ []), length-filled files.current))
      ∙ same_at files.past files.current i lt

  count-held : count_in (held_files files) ≡ count_in files.past + length files.current
  count-held = count-append files.past (filled files.current) ∙ ap (λ (n : ℕ). count_in files.past + n) (count-filled files.current)

  -- no position passes 2^48
  pub first_within : (i : ℕ) → files.first + count_in (take i (held_files files)) ≤ 2 ^ 48 + 1
  first_within i = omega (arith, count_take (held_files files) i, count-held, fits.positions)

  pub few_files : length (held_files files) ≤ 8
  few_files = omega (arith, length-append files.past (filled files.current), length-filled files.current, fits.few)

  pub records_held : AllByRecursion IsRecord (reverse (part_of files))
  records_held = all_reverse (part_of files) (all_append IsRecord (joined files.past) files.current (all_joined files.first files.past fits.past) fits.current.records)

  pub end_is : files.first - 1 + length (reverse (part_of files)) ≡ end_of files
  end_is =
      omega (arith, length-reverse (part_of files), length-append (joined files.past) files.current, length-joined files.past, fits.some, fits.first)

  few_held : length (reverse (part_of files)) ≤ 2048
  few_held = omega (
    arith,
    length-reverse (part_of files),
    length-append (joined files.past) files.current,
    length-joined files.past,
    count_few files.first files.past fits.past,
    fits.few,
    fits.current.few,
  )

-- the first files are read, and the rest is left
pub record PartRead (files : LogFiles) (i : ℕ) (now : Reader) : Type 0 where
  pub past : List LogEntry
  pub is : past ≡ reverse (joined (take i (held_files files)))
  pub taken : HasTaken (files.first - 1) past now
  pub left : first_stray files ≡ stray_in (files.oldest + i) (files.first - 1) past (drop i (held_files files))

pub none_read : (files : LogFiles) (now : Reader) → HasTaken (files.first - 1) [] now → PartRead files 0 now
none_read files now has = record {
  past = [];
  is = refl;
  taken = has;
  left = ap (λ (n : ℕ). stray_in n (files.first - 1) [] (held_files files)) (let e : files.oldest ≡ files.oldest + 0 = omega arith in e);
}

module _ (files : LogFiles) (fits : AreFiles files) (i : ℕ) (lt : i < length (held_files files)) (old : Reader) (part : PartRead files i old) (file first : ℕ)
    (file_is : file ≡ files.oldest + i) (first_is : first ≡ files.first + count_in (take i (held_files files))) where
  -- the file's place behind those that are read
  pub place_is : first ≡ files.first - 1 + suc (length part.past)
  place_is =
      omega (arith, first_is, ap (λ (l : List LogEntry). length l) part.is, length-reverse (joined (take i (held_files files))), length-joined (take i (held_files files)), fits.some, fits.first)

  abbrev entries : History
  entries = records_of files file

  entries_are : records_of files file ≡ get_or (held_files files) i []
  entries_are = ap (records_of files) file_is ∙ records_here files fits i lt

  left_here : first_stray files
      ≡ option_or (stray_from (256 * (file % 8)) (files.first - 1) part.past entries) (stray_in (file + 1) (files.first - 1) (reverse entries ++ part.past) (drop (i + 1) (held_files files)))
  left_here =
      part.left
      ∙ ap (stray_in (files.oldest + i) (files.first - 1) part.past) (drop_at (held_files files) i lt ∙ ap (λ (l : History). l ∷ drop (i + 1) (held_files files)) (sym entries_are))
      ∙ ap (λ (n : ℕ). stray_in n (files.first - 1) part.past (entries ∷ drop (i + 1) (held_files files))) (sym file_is)

  pub one_file_more : (new : Reader) → FileIs (files.first - 1) part.past (256 * (file % 8)) entries new (Ok tt) → PartRead files (i + 1) new
  one_file_more new is = record {
    past = reverse entries ++ part.past;
    is = ap (λ (l : List LogEntry). reverse entries ++ l) part.is
        ∙ sym (reverse-append (joined (take i (held_files files))) entries)
        ∙ ap (λ (l : History). reverse (joined (take i (held_files files)) ++ l)) entries_are
        ∙ ap reverse (sym (joined_more (held_files files) i lt));
    taken = is.0;
    left = left_here
        ∙ ap (λ (o : Option ℕ). option_or o (stray_in (file + 1) (files.first - 1) (reverse entries ++ part.past) (drop (i + 1) (held_files files)))) is.1
        ∙ ap (λ (n : ℕ). stray_in n (files.first - 1) (reverse entries ++ part.past) (drop (i + 1) (held_files files))) (let e : file + 1 ≡ files.oldest + (i + 1) = omega (arith, file_is) in e);
  }

  pub stopped_in_file : (number : ℕ) → stray_from (256 * (file % 8)) (files.first - 1) part.past entries ≡ Some number → first_stray files ≡ Some number
  stopped_in_file number is =
      left_here ∙ ap (λ (o : Option ℕ). option_or o (stray_in (file + 1) (files.first - 1) (reverse entries ++ part.past) (drop (i + 1) (held_files files)))) is

  pub stopped_by : (new : Reader) (inner : HeldFault) (number : ℕ) → FileIs (files.first - 1) part.past (256 * (file % 8)) entries new (Err inner) → inner ≡ BadRecord number
      → first_stray files ≡ Some number
  stopped_by new inner number stops is =
      stopped_in_file number (subst (λ (e : HeldFault). FileIs (files.first - 1) part.past (256 * (file % 8)) entries new (Err e)) is stops)

-- all files are read
module _ (files : LogFiles) (fits : AreFiles files) (i : ℕ) (done : i ≡ length (held_files files)) (now : Reader) (part : PartRead files i now) where
  past_is : part.past ≡ reverse (part_of files)
  past_is =
      part.is
      ∙ ap (λ (l : List History). reverse (joined l)) (take_all i (held_files files) (omega (arith, done)))
      ∙ ap reverse (all_held files)

  all_taken : HasTaken (files.first - 1) (reverse (part_of files)) now
  all_taken = subst (λ (l : List LogEntry). HasTaken (files.first - 1) l now) past_is part.taken

  pub none_left : first_stray files ≡ None
  none_left = part.left ∙ ap (stray_in (files.oldest + i) (files.first - 1) part.past) (drop_all i (held_files files) (omega (arith, done)))

  pub table_is : now.open ≡ table_held files
  table_is = all_taken.table

  pub changes_are : (end : ℕ) → end ≡ end_of files
      → filter (λ change. live_by now.resets end change.commit) (map change_of now.changes.items) ≡ changes_held files
  changes_are end is =
      ap (λ (n : ℕ). filter (λ change. live_by now.resets n change.commit) (map change_of now.changes.items)) is
      ∙ ap (λ (resets : List ResetPoint). filter (λ change. live_by resets (end_of files) change.commit) (map change_of now.changes.items)) all_taken.resets
      ∙ ap (filter (λ change. live_by (resets_read (files.first - 1) (part_of files)) (end_of files) change.commit)) all_taken.changes
      ∙ live_gathered (resets_read (files.first - 1) (part_of files)) (end_of files) (files.first - 1) (reverse (part_of files))

  pub changes_are_good : (changes : List Change) → changes ≡ changes_held files → AreChanges (end_of files) changes
  changes_are_good changes is =
      subst (AreChanges (end_of files)) (sym is)
      (are_changes (resets_read (files.first - 1) (part_of files)) (end_of files) (files.first - 1) (end_of files) (reverse (part_of files)) (records_held files fits) (end_is files fits))

  pub changes_are_few : (changes : List Change) → changes ≡ changes_held files → length changes ≤ 2048
  changes_are_few changes is =
      omega (
        arith,
        ap (λ (l : List Change). length l) is,
        few_read (resets_read (files.first - 1) (part_of files)) (end_of files) (files.first - 1) (reverse (part_of files)),
        few_held files fits,
      )
