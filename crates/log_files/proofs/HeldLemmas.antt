-- What a value tells of the files after each step.
use Rattle.std.proofs.Common.{◌≡◌, ◌≢◌, ℕ, suc, ◌+◌, ◌-◌, ◌%◌, ◌<◌, ◌≤◌, List, [], ◌∷◌, ◌++◌, length, map, replicate, get_or, false, refl, arith, ap, sym, subst, ◌∙◌, length-append}
use Rattle.std.specs.Prelude.{slice_set, remove}
use Rattle.std.proofs.lemmas.List.{append-nil, map-append, map-set, set-set, set_comm, set-get_or, set_at, get_or_at, length-map, get_or-replicate}
use Rattle.std.proofs.Math.ListN.{get_or-map}
use Rattle.log_history.specs.History.{LogEntry, History, begin, write, commit, abort, reset}
use Rattle.backup_lines.specs.Lines.{Span}
use Rattle.log_files.specs.Files.{LogFiles, AreFiles, FitPast, count_in, current_id, current_first, next_of, time_at, time_behind, last_time_in, span_of, spans_from, spans_of, filled, counts_of, total, laid, firsts_by, mark_of, target_in, with_next, from_past, appended}
use Rattle.log_files.specs.FilesLaws.{time_at-append, time_behind-append, count_in-one}
use Rattle.log_mark.specs.declared.mark.LogMark.{LogMark}
use Rattle.std.specs.declared.vec.Vec.{Vec}
use Rattle.std.specs.declared.alloc.Global.{Global}
use Rattle.backup_lines.specs.declared.lines.FileSpan.{FileSpan}
use Rattle.log_files.specs.declared.held.HeldFiles.{HeldFiles}
use Rattle.log_files.specs.Held.{Tells}
use Rattle.log_record.specs.Entry.{entry_of, history_of}
use Rattle.log_record.specs.declared.records.Record.{Record}
use Rattle.log_files.specs.Rooms.{second_first}
use Rattle.log_files.specs.Views.{longer, span_in, spans_in}

none : (k : ℕ) → k + 0 ≡ k
none k = omega arith

-- spans

pub spans_from-append : (file first before : ℕ) (xs ys : List History)
    → spans_from file first before (xs ++ ys) ≡ spans_from file first before xs ++ spans_from (file + length xs) (first + count_in xs) (time_behind before xs) ys
spans_from-append file first before [] ys =
    ap (λ (k : ℕ). spans_from k first before ys) (sym (none file)) ∙ ap (λ (k : ℕ). spans_from (file + 0) k before ys) (sym (none first))
spans_from-append file first before (x ∷ xs) ys =
    let ids : file + 1 + length xs ≡ file + suc (length xs) = omega arith in
    let firsts : first + length x + count_in xs ≡ first + (length x + count_in xs) = omega arith in
    ap (λ (l : List Span). span_of file first before x ∷ l)
    (spans_from-append (file + 1) (first + length x) (time_at before x) xs ys
    ∙ ap (λ (k : ℕ). spans_from (file + 1) (first + length x) (time_at before x) xs ++ spans_from k (first + length x + count_in xs) (time_behind (time_at before x) xs) ys) ids
    ∙ ap (λ (k : ℕ). spans_from (file + 1) (first + length x) (time_at before x) xs ++ spans_from (file + suc (length xs)) k (time_behind (time_at before x) xs) ys) firsts)

pub length-spans_from : (file first before : ℕ) (xs : List History) → length (spans_from file first before xs) ≡ length xs
length-spans_from file first before [] = refl
length-spans_from file first before (x ∷ xs) = ap suc (length-spans_from (file + 1) (first + length x) (time_at before x) xs)

-- first positions by place

pub total-lengths : (xs : List History) → total (map (λ (x : History). length x) xs) ≡ count_in xs
total-lengths [] = refl
total-lengths (x ∷ xs) = ap (λ (k : ℕ). length x + k) (total-lengths xs)

pub laid-append : (firsts : List ℕ) (file first : ℕ) (counts more : List ℕ)
    → laid firsts file first (counts ++ more) ≡ laid (laid firsts file first counts) (file + length counts) (first + total counts) more
laid-append firsts file first [] more =
    ap (λ (k : ℕ). laid firsts k first more) (sym (none file)) ∙ ap (λ (k : ℕ). laid firsts (file + 0) k more) (sym (none first))
laid-append firsts file first (n ∷ counts) more =
    let ids : file + 1 + length counts ≡ file + suc (length counts) = omega arith in
    let firsts_are : first + n + total counts ≡ first + total (n ∷ counts) = omega arith in
    laid-append (slice_set firsts (file % 8) first) (file + 1) (first + n) counts more
    ∙ ap (λ (k : ℕ). laid (laid (slice_set firsts (file % 8) first) (file + 1) (first + n) counts) k (first + n + total counts) more) ids
    ∙ ap (λ (k : ℕ). laid (laid (slice_set firsts (file % 8) first) (file + 1) (first + n) counts) (file + suc (length counts)) k more) firsts_are

-- two files of eight that follow one another have places of their own
pub other_place : (a b : ℕ) → a < b → b < a + 8 → b % 8 ≢ a % 8
other_place a b lt few is = absurd (omega (arith, is))

pub laid-clear : (place : ℕ) (firsts : List ℕ) (oldest file first : ℕ) (counts : List ℕ) → place ≡ oldest % 8 → oldest < file → file + length counts ≤ oldest + 8
    → slice_set (laid firsts file first counts) place 0 ≡ laid (slice_set firsts place 0) file first counts
laid-clear place firsts oldest file first [] is lt few = refl
laid-clear place firsts oldest file first (n ∷ counts) is lt few =
    laid-clear place (slice_set firsts (file % 8) first) oldest (file + 1) (first + n) counts is (omega (arith, lt)) (omega (arith, few))
    ∙ ap (λ (l : List ℕ). laid l (file + 1) (first + n) counts)
    (set_comm firsts (file % 8) place first 0 (λ same. other_place oldest file lt (omega (arith, few)) (same ∙ is)))

cleared : (place first : ℕ) → place < 8 → slice_set (slice_set (replicate 8 0) place first) place 0 ≡ replicate 8 0
cleared place first lt =
    set-set (replicate 8 0) place first 0 ∙ ap (λ (k : ℕ). slice_set (replicate 8 0) place k) (sym (get_or-replicate 8 place 0 0 lt)) ∙ set-get_or (replicate 8 0) place 0

pub firsts-dropped : (oldest first n : ℕ) (counts : List ℕ) → length counts ≤ 7 → slice_set (firsts_by oldest first (n ∷ counts)) (oldest % 8) 0 ≡ firsts_by (oldest + 1) (first + n) counts
firsts-dropped oldest first n counts few =
    laid-clear (oldest % 8) (slice_set (replicate 8 0) (oldest % 8) first) oldest (oldest + 1) (first + n) counts refl (omega arith) (omega (arith, few))
    ∙ ap (λ (l : List ℕ). laid l (oldest + 1) (first + n) counts) (cleared (oldest % 8) first (omega arith))

-- the next file

pub filled-some : (entries : History) → 1 ≤ length entries → filled entries ≡ entries ∷ []
filled-some [] some = absurd (omega (arith, some))
filled-some (entry ∷ entries) some = refl

pub filled-none : (entries : History) → length entries ≡ 0 → filled entries ≡ []
filled-none [] none = refl
filled-none (entry ∷ entries) none = absurd (omega (arith, none))

module _ (files : LogFiles) where
  pub spans-next : 1 ≤ length files.current → spans_of (with_next files) ≡ spans_of files
  spans-next some =
      ap (spans_from files.oldest files.first files.before)
      (append-nil (files.past ++ files.current ∷ []) ∙ ap (λ (l : List History). files.past ++ l) (sym (filled-some files.current some)))

  counts-next : counts_of (with_next files) ≡ counts_of files ++ 0 ∷ []
  counts-next = map-append (λ (x : History). length x) (files.past ++ files.current ∷ []) ([] ∷ [])

  total-counts : total (counts_of files) ≡ count_in files.past + length files.current
  total-counts = total-lengths (files.past ++ files.current ∷ []) ∙ count_one files.past
    where
      count_one : (xs : List History) → count_in (xs ++ files.current ∷ []) ≡ count_in xs + length files.current
      count_one [] = omega arith
      count_one (x ∷ xs) = omega (arith, count_one xs)

  length-counts : length (counts_of files) ≡ length files.past + 1
  length-counts = length-map (files.past ++ files.current ∷ []) (λ (x : History). length x) ∙ length-append files.past (files.current ∷ []) ∙ omega arith

  pub firsts-next : (next : ℕ) → next ≡ next_of files → slice_set (firsts_by files.oldest files.first (counts_of files)) ((current_id files + 1) % 8) next
      ≡ firsts_by files.oldest files.first (counts_of (with_next files))
  firsts-next next is =
      let place : files.oldest + length (counts_of files) ≡ current_id files + 1 = omega (arith, length-counts) in
      let position : files.first + total (counts_of files) ≡ next = omega (arith, total-counts, is) in
      sym (ap (firsts_by files.oldest files.first) counts-next
      ∙ laid-append (replicate 8 0) files.oldest files.first (counts_of files) (0 ∷ [])
      ∙ ap (λ (k : ℕ). slice_set (firsts_by files.oldest files.first (counts_of files)) (k % 8) (files.first + total (counts_of files))) place
      ∙ ap (λ (k : ℕ). slice_set (firsts_by files.oldest files.first (counts_of files)) ((current_id files + 1) % 8) k) position)

-- records more

pub spans-begun : (oldest first before : ℕ) (past : List History) (current batch : History) → length current ≡ 0 → 1 ≤ length batch
    → spans_from oldest first before (past ++ filled (current ++ batch)) ≡ spans_from oldest first before (past ++ filled current)
    ++ span_of (oldest + length past) (first + count_in past) (time_at (time_behind before past) current) batch ∷ []
spans-begun oldest first before past [] batch none some =
    ap (λ (l : List History). spans_from oldest first before (past ++ l)) (filled-some batch some)
    ∙ spans_from-append oldest first before past (batch ∷ [])
    ∙ ap (λ (l : List History). spans_from oldest first before l ++ span_of (oldest + length past) (first + count_in past) (time_behind before past) batch ∷ []) (sym (append-nil past))
spans-begun oldest first before past (entry ∷ current) batch none some = absurd (omega (arith, none))

pub span-current : (oldest first before : ℕ) (past : List History) (current : History) → 1 ≤ length current
    → spans_from oldest first before (past ++ filled current)
    ≡ spans_from oldest first before past ++ span_of (oldest + length past) (first + count_in past) (time_behind before past) current ∷ []
span-current oldest first before past current some =
    ap (λ (l : List History). spans_from oldest first before (past ++ l)) (filled-some current some) ∙ spans_from-append oldest first before past (current ∷ [])

target-longer : (entry : LogEntry) (entries batch : History) → target_in ((entry ∷ entries) ++ batch) ≡ target_in (entry ∷ entries)
target-longer (begin txn) entries batch = refl
target-longer (write txn patch) entries batch = refl
target-longer (commit txn time) entries batch = refl
target-longer (abort txn) entries batch = refl
target-longer (reset restore target time) entries batch = refl

same_spans : (a b : Span) → a.file ≡ b.file → a.first ≡ b.first → a.last ≡ b.last → a.reset ≡ b.reset → a.before ≡ b.before → a.time ≡ b.time → a.copy ≡ b.copy → a.gone ≡ b.gone → a ≡ b
same_spans a b e1 e2 e3 e4 e5 e6 e7 e8 = rw (e1, e2, e3, e4, e5, e6, e7, e8) refl

span-longer : (file first before : ℕ) (current batch : History) → 1 ≤ length current → span_of file first before (current ++ batch) ≡ longer (span_of file first before current) batch
span-longer file first before [] batch some = absurd (omega (arith, some))
span-longer file first before (entry ∷ entries) batch some =
    same_spans (span_of file first before ((entry ∷ entries) ++ batch)) (longer (span_of file first before (entry ∷ entries)) batch)
    refl refl (omega (arith, length-append entries batch)) (target-longer entry entries batch) refl (time_at-append before (entry ∷ entries) batch) refl refl

pub spans-longer : (oldest first before : ℕ) (past : List History) (current batch : History) → 1 ≤ length current
    → spans_from oldest first before (past ++ filled (current ++ batch))
    ≡ slice_set (spans_from oldest first before (past ++ filled current)) (length past)
    (longer (span_of (oldest + length past) (first + count_in past) (time_behind before past) current) batch)
spans-longer oldest first before past current batch some =
    let file = oldest + length past in
    let at = first + count_in past in
    let time = time_behind before past in
    let P = spans_from oldest first before past in
    span-current oldest first before past (current ++ batch) (omega (arith, length-append current batch, some))
    ∙ ap (λ (s : Span). P ++ s ∷ []) (span-longer file at time current batch some)
    ∙ sym (set_at P (span_of file at time current) [] (longer (span_of file at time current) batch) (length past) (length-spans_from oldest first before past))
    ∙ ap (λ (l : List Span). slice_set l (length past) (longer (span_of file at time current) batch)) (sym (span-current oldest first before past current some))

-- the last count doesn't matter for the first positions
pub firsts-last : (oldest first : ℕ) (past : List History) (x y : History)
    → firsts_by oldest first (map (λ (e : History). length e) (past ++ x ∷ [])) ≡ firsts_by oldest first (map (λ (e : History). length e) (past ++ y ∷ []))
firsts-last oldest first past x y = one x ∙ sym (one y)
  where
    lens : List ℕ
    lens = map (λ (e : History). length e) past

    one : (z : History) → firsts_by oldest first (map (λ (e : History). length e) (past ++ z ∷ []))
        ≡ slice_set (laid (replicate 8 0) oldest first lens) ((oldest + length lens) % 8) (first + total lens)
    one z = ap (firsts_by oldest first) (map-append (λ (e : History). length e) past (z ∷ [])) ∙ laid-append (replicate 8 0) oldest first lens (length z ∷ [])

same_marks : (a b : LogMark) → a.current ≡ b.current → a.oldest ≡ b.oldest → a.backed_up_to ≡ b.backed_up_to → a.before ≡ b.before
    → a.is_closed ≡ b.is_closed → a.firsts ≡ b.firsts → a ≡ b
same_marks a b e1 e2 e3 e4 e5 e6 = rw (e1, e2, e3, e4, e5, e6) refl

pub mark-appended : (files : LogFiles) (batch : History) → mark_of files ≡ mark_of (appended files batch)
mark-appended files batch =
    same_marks (mark_of files) (mark_of (appended files batch)) refl refl refl refl refl (firsts-last files.oldest files.first files.past files.current (files.current ++ batch))

-- the value behind each step

module _ (files : LogFiles) (held : HeldFiles) (tells : Tells files held) where
  firsts_told : held.mark.firsts ≡ firsts_by files.oldest files.first (counts_of files)
  firsts_told = ap (λ (m : LogMark). m.firsts) tells.mark

  pub told-next : (place : ℕ) → 1 ≤ length files.current → place ≡ (held.mark.current + 1) % 8
      → Tells (with_next files) (record held {
        mark = record (held.mark) { current = held.mark.current + 1; is_closed = false; firsts = slice_set held.mark.firsts place held.next };
        first = held.next;
      })
  told-next place some is =
      let current : held.mark.current ≡ current_id files = ap (λ (m : LogMark). m.current) tells.mark in
      let count : length (files.past ++ files.current ∷ []) ≡ length files.past + 1 = length-append files.past (files.current ∷ []) in
      let counted : count_in (files.past ++ files.current ∷ []) ≡ count_in files.past + length files.current = count_in-one files.past files.current in record {
        mark = same_marks (record (held.mark) { current = held.mark.current + 1; is_closed = false; firsts = slice_set held.mark.firsts place held.next }) (mark_of (with_next files))
            (omega (arith, current, count)) (ap (λ (m : LogMark). m.oldest) tells.mark) (ap (λ (m : LogMark). m.backed_up_to) tells.mark) (ap (λ (m : LogMark). m.before) tells.mark)
            refl
            (ap (λ (l : List ℕ). slice_set l place held.next) firsts_told
            ∙ ap (λ (k : ℕ). slice_set (firsts_by files.oldest files.first (counts_of files)) k held.next) (is ∙ ap (λ (k : ℕ). (k + 1) % 8) current)
            ∙ firsts-next files held.next tells.next);
        spans = tells.spans ∙ sym (spans-next files some);
        first = omega (arith, tells.next, counted);
        next = omega (arith, tells.next, counted);
        time = tells.time ∙ sym (time_behind-append files.before files.past (files.current ∷ []));
      }

  pub told-begun : (batch : History) (spans : Vec FileSpan Global) (span : FileSpan) (n time : ℕ) → held.next ≡ held.first → 1 ≤ length batch → spans.items ≡ held.spans.items ++ span ∷ []
      → span_in span ≡ span_of held.mark.current held.first held.time batch → n ≡ length batch → time ≡ time_at held.time batch
      → Tells (appended files batch) (record held { spans = spans; next = held.next + n; time = time })
  told-begun batch spans span n time empty some items is count later =
      let none_here : length files.current ≡ 0 = omega (arith, empty, tells.next, tells.first) in
      let spelled : span_in span ≡ span_of (current_id files) (current_first files) (last_time_in files) batch =
      is ∙ ap (λ (k : ℕ). span_of k held.first held.time batch) (ap (λ (m : LogMark). m.current) tells.mark)
      ∙ ap (λ (k : ℕ). span_of (current_id files) k held.time batch) tells.first
      ∙ ap (λ (k : ℕ). span_of (current_id files) (current_first files) k batch) tells.time in record {
        mark = tells.mark ∙ mark-appended files batch;
        spans = ap spans_in items ∙ map-append span_in held.spans.items (span ∷ [])
            ∙ ap (λ (l : List Span). l ++ span_in span ∷ []) tells.spans
            ∙ ap (λ (s : Span). spans_of files ++ s ∷ []) spelled
            ∙ sym (spans-begun files.oldest files.first files.before files.past files.current batch none_here some);
        first = tells.first;
        next = omega (arith, tells.next, count, length-append files.current batch);
        time = later ∙ ap (λ (t : ℕ). time_at t batch) tells.time ∙ sym (time_at-append (time_behind files.before files.past) files.current batch);
      }

  pub last_span : (i : ℕ) (span : FileSpan) → 1 ≤ length files.current → i ≡ length files.past → span ≡ get_or held.spans.items i span
      → span_in span ≡ span_of (current_id files) (current_first files) (time_behind files.before files.past) files.current
  last_span i span some at is =
      let P = spans_from files.oldest files.first files.before files.past in
      let s = span_of (current_id files) (current_first files) (time_behind files.before files.past) files.current in
      let there : spans_in held.spans.items ≡ P ++ s ∷ [] = tells.spans ∙ span-current files.oldest files.first files.before files.past files.current some in
      ap span_in is ∙ sym (get_or-map span_in held.spans.items i span)
      ∙ ap (λ (l : List Span). get_or l i (span_in span)) there ∙ get_or_at P s [] (span_in span) i (length-spans_from files.oldest files.first files.before files.past ∙ sym at)

  pub count_spans : 1 ≤ length files.current → length held.spans.items ≡ length files.past + 1
  count_spans some =
      let P = spans_from files.oldest files.first files.before files.past in
      let s = span_of (current_id files) (current_first files) (time_behind files.before files.past) files.current in
      sym (length-map held.spans.items span_in) ∙ ap (λ (l : List Span). length l) (tells.spans ∙ span-current files.oldest files.first files.before files.past files.current some)
      ∙ length-append P (s ∷ []) ∙ omega (arith, length-spans_from files.oldest files.first files.before files.past)

  pub told-extended : (batch : History) (spans : Vec FileSpan Global) (was span : FileSpan) (i n time : ℕ) → 1 ≤ length files.current → i ≡ length files.past
      → was ≡ get_or held.spans.items i was → span_in span ≡ longer (span_in was) batch → spans.items ≡ slice_set held.spans.items i span → n ≡ length batch → time ≡ time_at held.time batch
      → Tells (appended files batch) (record held { spans = spans; next = held.next + n; time = time })
  told-extended batch spans was span i n time some at is long items count later =
      let s = span_of (current_id files) (current_first files) (time_behind files.before files.past) files.current in record {
        mark = tells.mark ∙ mark-appended files batch;
        spans = ap spans_in items ∙ map-set span_in held.spans.items i span
            ∙ ap (λ (l : List Span). slice_set l i (span_in span)) tells.spans
            ∙ ap (λ (x : Span). slice_set (spans_of files) i x) (long ∙ ap (λ (x : Span). longer x batch) (last_span i was some at is))
            ∙ ap (λ (k : ℕ). slice_set (spans_of files) k (longer s batch)) at
            ∙ sym (spans-longer files.oldest files.first files.before files.past files.current batch some);
        first = tells.first;
        next = omega (arith, tells.next, count, length-append files.current batch);
        time = later ∙ ap (λ (t : ℕ). time_at t batch) tells.time ∙ sym (time_at-append (time_behind files.before files.past) files.current batch);
      }

  -- with a file before the current one
  pub some_span : 1 ≤ length files.past → 0 < length held.spans.items
  some_span some =
      omega (
        arith,
        length-map held.spans.items span_in,
        ap (λ (l : List Span). length l) tells.spans,
        length-spans_from files.oldest files.first files.before (files.past ++ filled files.current),
        length-append files.past (filled files.current),
      )

first_span : (o f b : ℕ) (e : History) (rest : List History) (items : List FileSpan) (x : FileSpan) → spans_in items ≡ spans_from o f b (e ∷ rest) → x ≡ get_or items 0 x
    → (span_in x ≡ span_of o f b e) × (spans_in (remove items 0) ≡ spans_from (o + 1) (f + length e) (time_at b e) rest)
first_span o f b e rest [] x is at = absurd (cc)
first_span o f b e rest (y ∷ items) x is at = (ap span_in at ∙ cc, cc)

module _ (files : LogFiles) (held : HeldFiles) (fits : AreFiles files) (tells : Tells files held) where
  pub reaches_first : (past : List History) → files.past ≡ past → 1 ≤ length past → (x : FileSpan) → x ≡ get_or held.spans.items 0 x → x.last + 1 ≡ second_first files.first past
  reaches_first [] is some x at = absurd (omega (arith, some))
  reaches_first (e ∷ past) is some x at =
      let spans : spans_in held.spans.items ≡ spans_from files.oldest files.first files.before (e ∷ (past ++ filled files.current)) =
      tells.spans ∙ ap (λ (l : List History). spans_from files.oldest files.first files.before (l ++ filled files.current)) is in
      let all : FitPast files.first (e ∷ past) = subst (FitPast files.first) is fits.past in
      let last : x.last ≡ files.first + length e - 1 = ap (λ (s : Span). s.last) (first_span files.oldest files.first files.before e (past ++ filled files.current) held.spans.items x spans at).0 in
      omega (arith, last, all.1.0)

  pub told-dropped : (past : List History) → files.past ≡ past → 1 ≤ length past → (place : ℕ) → place ≡ held.mark.oldest % 8 → (x : FileSpan) → x ≡ get_or held.spans.items 0 x
      → (spans : Vec FileSpan Global) → spans.items ≡ remove held.spans.items 0
      → Tells (from_past files past) (record held {
        mark = record (held.mark) { oldest = held.mark.oldest + 1; before = x.time; firsts = slice_set held.mark.firsts place 0 };
        spans = spans;
      })
  told-dropped [] is some place at x first spans items = absurd (omega (arith, some))
  told-dropped (e ∷ past) is some place at x first spans items =
      let there : spans_in held.spans.items ≡ spans_from files.oldest files.first files.before (e ∷ (past ++ filled files.current)) =
      tells.spans ∙ ap (λ (l : List History). spans_from files.oldest files.first files.before (l ++ filled files.current)) is in
      let parts = first_span files.oldest files.first files.before e (past ++ filled files.current) held.spans.items x there first in
      let n : length files.past ≡ length past + 1 = ap (λ (l : List History). length l) is ∙ omega arith in
      let m : count_in files.past ≡ length e + count_in past = ap count_in is in
      let oldest : held.mark.oldest ≡ files.oldest = ap (λ (k : LogMark). k.oldest) tells.mark in
      let few : length (map (λ (h : History). length h) (past ++ files.current ∷ [])) ≤ 7 =
      omega (arith, length-map (past ++ files.current ∷ []) (λ (h : History). length h), length-append past (files.current ∷ []), n, fits.few) in record {
        mark = same_marks (record (held.mark) { oldest = held.mark.oldest + 1; before = x.time; firsts = slice_set held.mark.firsts place 0 }) (mark_of (from_past files (e ∷ past)))
            (ap (λ (k : LogMark). k.current) tells.mark ∙ omega (arith, n)) (ap (λ (k : ℕ). k + 1) oldest)
            (ap (λ (k : LogMark). k.backed_up_to) tells.mark) (ap (λ (s : Span). s.time) parts.0) (ap (λ (k : LogMark). k.is_closed) tells.mark)
            (ap (λ (l : List ℕ). slice_set l place 0) (ap (λ (k : LogMark). k.firsts) tells.mark ∙ ap (λ (l : List History). firsts_by files.oldest files.first (map (λ (h : History). length h) (l ++ files.current ∷ []))) is)
            ∙ ap (λ (k : ℕ). slice_set (firsts_by files.oldest files.first (map (λ (h : History). length h) ((e ∷ past) ++ files.current ∷ []))) k 0) (at ∙ ap (λ (k : ℕ). k % 8) oldest)
            ∙ firsts-dropped files.oldest files.first (length e) (map (λ (h : History). length h) (past ++ files.current ∷ [])) few);
        spans = ap spans_in items ∙ parts.1;
        first = omega (arith, tells.first, m);
        next = omega (arith, tells.next, m);
        time = tells.time ∙ ap (λ (l : List History). time_at (time_behind files.before l) files.current) is;
      }

-- a value that tells of eight files
pub full-count : (files : LogFiles) (held : HeldFiles) → Tells files held → held.mark.current ≡ held.mark.oldest + 7 → length files.past ≡ 7
full-count files held tells full = omega (arith, ap (λ (m : LogMark). m.current) tells.mark, ap (λ (m : LogMark). m.oldest) tells.mark, full)

pub length-history_of : (batch : List Record) → length (history_of batch) ≡ length batch
length-history_of batch = length-map batch entry_of
