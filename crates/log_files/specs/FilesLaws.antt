-- Each step keeps what the log's disk may hold.
use Rattle.std.specs.Prelude.{◌≡◌, ℕ, ◌+◌, ◌^◌, ◌<◌, ◌≤◌, List, [], ◌∷◌, ◌++◌, length, false, refl}
use Rattle.std.specs.List.{AllByRecursion}
use Rattle.std.proofs.Common.{arith, ap, ◌∙◌, subst, length-append}
use Rattle.log_history.specs.History.{LogEntry, History, begin, write, commit, abort, reset}
use Rattle.log_record.specs.Layout.{IsRecord}
use Rattle.log_files.specs.Files.{LogFiles, AreFiles, FitFile, FitPast, Leads, GoesBack, is_reset, count_in, current_id, current_first, end_of, time_at, time_after, time_behind, new_files, appended, closed, with_next, with_backed, from_past, without_oldest}
use Rattle.log_files.specs.Rooms.{HasRoom}

-- of lists

pub all_append : {X : Type 0} (P : X → Type 0) (xs ys : List X) → AllByRecursion P xs → AllByRecursion P ys → AllByRecursion P (xs ++ ys)
all_append P [] ys a b = b
all_append P (x ∷ xs) ys a b = (a.0, all_append P xs ys a.1 b)

pub count_in-append : (xs ys : List History) → count_in (xs ++ ys) ≡ count_in xs + count_in ys
count_in-append [] ys = omega arith
count_in-append (x ∷ xs) ys = omega (arith, count_in-append xs ys)

pub count_in-one : (xs : List History) (entries : History) → count_in (xs ++ entries ∷ []) ≡ count_in xs + length entries
count_in-one xs entries = omega (arith, count_in-append xs (entries ∷ []))

-- of files

not_reset : (first : ℕ) (entry : LogEntry) → is_reset entry ≡ false → GoesBack first entry
not_reset first (begin txn) isnt = tt
not_reset first (write txn patch) isnt = tt
not_reset first (commit txn time) isnt = tt
not_reset first (abort txn) isnt = tt
not_reset first (reset restore target time) isnt = absurd (cc)

pub leads_append : (first : ℕ) (entries batch : History) → Leads first entries → AllByRecursion (λ other. is_reset other ≡ false) batch → Leads first (entries ++ batch)
leads_append first [] [] leads plain = tt
leads_append first [] (entry ∷ batch) leads plain = (not_reset first entry plain.0, plain.1)
leads_append first (entry ∷ entries) batch leads plain = (leads.0, all_append (λ other. is_reset other ≡ false) entries batch leads.1 plain)

pub fit_file_append : (first : ℕ) (entries batch : History) → FitFile first entries → length entries + length batch ≤ 256 → AllByRecursion IsRecord batch
    → AllByRecursion (λ other. is_reset other ≡ false) batch → FitFile first (entries ++ batch)
fit_file_append first entries batch fit few records plain = record {
  few = omega (arith, length-append entries batch, few);
  records = all_append IsRecord entries batch fit.records records;
  leads = leads_append first entries batch fit.leads plain;
}

pub fit_empty : (first : ℕ) → FitFile first []
fit_empty first = record { few = omega arith; records = tt; leads = tt }

-- a Reset at the head of an empty file
pub fit_reset : (first restore target time : ℕ) → IsRecord (reset restore target time) → target < first → FitFile first (reset restore target time ∷ [])
fit_reset first restore target time ok lt = record { few = omega arith; records = (ok, tt); leads = (lt, tt) }

pub fit_past_append : (first : ℕ) (past : List History) (entries : History) → FitPast first past → FitFile (first + count_in past) entries → 1 ≤ length entries
    → FitPast first (past ++ entries ∷ [])
fit_past_append first [] entries past fit some = (subst (λ (n : ℕ). FitFile n entries) (omega arith) fit, (some, tt))
fit_past_append first (x ∷ past) entries fits fit some = (
  fits.0,
  (fits.1.0, fit_past_append (first + length x) past entries fits.1.1 (subst (λ (n : ℕ). FitFile n entries) (omega arith) fit) some),
)

-- times are bounded

time_after-bounded : (before : ℕ) (entry : LogEntry) → before ≤ 2 ^ 48 → IsRecord entry → time_after before entry ≤ 2 ^ 48
time_after-bounded before (begin txn) le ok = le
time_after-bounded before (write txn patch) le ok = le
time_after-bounded before (commit txn time) le ok = ok.1
time_after-bounded before (abort txn) le ok = le
time_after-bounded before (reset restore target time) le ok = ok.3

pub time_at-bounded : (before : ℕ) (entries : History) → before ≤ 2 ^ 48 → AllByRecursion IsRecord entries → time_at before entries ≤ 2 ^ 48
time_at-bounded before [] le ok = le
time_at-bounded before (entry ∷ entries) le ok = time_at-bounded (time_after before entry) entries (time_after-bounded before entry le ok.0) ok.1

pub time_at-append : (before : ℕ) (entries batch : History) → time_at before (entries ++ batch) ≡ time_at (time_at before entries) batch
time_at-append before [] batch = refl
time_at-append before (entry ∷ entries) batch = time_at-append (time_after before entry) entries batch

pub time_behind-append : (before : ℕ) (xs ys : List History) → time_behind before (xs ++ ys) ≡ time_behind (time_behind before xs) ys
time_behind-append before [] ys = refl
time_behind-append before (x ∷ xs) ys = time_behind-append (time_at before x) xs ys

-- each step

pub fit_new : (file first before : ℕ) → 1 ≤ file → file ≤ first → first ≤ 2 ^ 48 → before ≤ 2 ^ 48 → AreFiles (new_files file first before)
fit_new file first before some within le time = record {
  some = some;
  first = within;
  few = omega arith;
  past = tt;
  current = fit_empty (first + 0);
  filled = λ is. absurd (cc);
  dropped = omega arith;
  backed = omega arith;
  place = omega (arith, le);
  positions = omega (arith, le);
  before = time;
}

module _ (files : LogFiles) (fits : AreFiles files) where
  pub fit_appended_with : (batch : History) → FitFile (current_first files) (files.current ++ batch) → 1 ≤ length batch → HasRoom (length batch) files → AreFiles (appended files batch)
  fit_appended_with batch fit some room = record {
    some = fits.some;
    first = fits.first;
    few = fits.few;
    past = fits.past;
    current = fit;
    filled = λ is. omega (arith, length-append files.current batch, some);
    dropped = fits.dropped;
    backed = fits.backed;
    place = fits.place;
    positions = omega (arith, length-append files.current batch, room.positions);
    before = fits.before;
  }

  pub fit_appended : (batch : History) → 1 ≤ length batch → AllByRecursion IsRecord batch → AllByRecursion (λ other. is_reset other ≡ false) batch → HasRoom (length batch) files
      → AreFiles (appended files batch)
  fit_appended batch some records plain room =
      fit_appended_with batch (fit_file_append (current_first files) files.current batch fits.current room.few records plain) some room

  pub fit_closed : 1 ≤ length files.current → AreFiles (closed files)
  fit_closed some = record {
    some = fits.some;
    first = fits.first;
    few = fits.few;
    past = fits.past;
    current = fits.current;
    filled = λ is. some;
    dropped = fits.dropped;
    backed = fits.backed;
    place = fits.place;
    positions = fits.positions;
    before = fits.before;
  }

  pub fit_backed : (file : ℕ) → files.backed ≤ file → file ≤ current_id files → AreFiles (with_backed files file)
  fit_backed file later le = record {
    some = fits.some;
    first = fits.first;
    few = fits.few;
    past = fits.past;
    current = fits.current;
    filled = fits.filled;
    dropped = omega (arith, fits.dropped, later);
    backed = le;
    place = fits.place;
    positions = fits.positions;
    before = fits.before;
  }

  pub fit_next : 1 ≤ length files.current → length files.past ≤ 6 → end_of files < 2 ^ 48 → AreFiles (with_next files)
  fit_next some few lt =
      let n : length (files.past ++ files.current ∷ []) ≡ length files.past + 1 = length-append files.past (files.current ∷ []) in
      let m : count_in (files.past ++ files.current ∷ []) ≡ count_in files.past + length files.current = count_in-one files.past files.current in record {
        some = fits.some;
        first = fits.first;
        few = omega (arith, n, few);
        past = fit_past_append files.first files.past files.current fits.past fits.current some;
        current = fit_empty (files.first + count_in (files.past ++ files.current ∷ []));
        filled = λ is. absurd (cc);
        dropped = fits.dropped;
        backed = omega (arith, n, fits.backed);
        place = omega (arith, m, lt, fits.some, fits.first);
        positions = omega (arith, m, lt, fits.some, fits.first);
        before = fits.before;
      }

-- the oldest file goes
fit_from_past : (files : LogFiles) (past : List History) → files.past ≡ past → AreFiles files → 1 ≤ length past → files.oldest ≤ files.backed → AreFiles (from_past files past)
fit_from_past files [] is fits some saved = absurd (omega (arith, some))
fit_from_past files (entries ∷ past) is fits some saved =
    let all : FitPast files.first (entries ∷ past) = subst (FitPast files.first) is fits.past in
    let n : length files.past ≡ length past + 1 = ap (λ (l : List History). length l) is ∙ omega arith in
    let m : count_in files.past ≡ length entries + count_in past = ap count_in is in record {
      some = omega arith;
      first = omega (arith, fits.first, all.1.0);
      few = omega (arith, n, fits.few);
      past = all.1.1;
      current = subst (λ (k : ℕ). FitFile k files.current) (omega (arith, m)) fits.current;
      filled = fits.filled;
      dropped = omega (arith, saved);
      backed = omega (arith, n, fits.backed);
      place = omega (arith, m, fits.place);
      positions = omega (arith, m, fits.positions);
      before = time_at-bounded files.before entries fits.before all.0.records;
    }

pub fit_without_oldest : (files : LogFiles) → AreFiles files → 1 ≤ length files.past → files.oldest ≤ files.backed → AreFiles (without_oldest files)
fit_without_oldest files fits some saved = fit_from_past files files.past refl fits some saved
