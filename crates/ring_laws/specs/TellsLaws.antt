-- The bytes of the log's disk tell which files it holds.
use Rattle.std.specs.Prelude.{◌≡◌, ◌≢◌, ℕ, ◌+◌, ◌-◌, ◌%◌, ◌^◌, ◌<◌, ◌≤◌, List, [], ◌∷◌, ◌++◌, length, take, drop, map, replicate, get_or, slice_set}
use Rattle.std.specs.List.{AllByRecursion, flat_map}
use Rattle.std.proofs.Common.{arith, refl, sym, ap, subst, ◌∙◌, length-append}
use Rattle.std.proofs.lemmas.List.{length-map, length-replicate, length-set, take_at, drop_at, get_or-set_same, get_or-set_other}
use Rattle.std.proofs.lemmas.List.Elements.{All-set, All-replicate}
use Rattle.log_history.specs.History.{LogEntry, History}
use Rattle.log_record.specs.Layout.{IsRecord, spelling}
use Rattle.log_record.specs.LayoutLaws.{length-spelling, one_spelling_of}
use Rattle.log_mark.specs.Layout.{IsMark, AreBounded, mark_at, spelling as mark_spelling}
use Rattle.log_mark.proofs.LayoutLemmas.{mark_at-spelling}
use Rattle.log_mark.specs.declared.mark.LogMark.{LogMark}
use Rattle.log_files.specs.Files.{LogFiles, AreFiles, FitPast, count_in, current_id, counts_of, total, laid, firsts_by, mark_of}
use Rattle.log_files.specs.Ring.{HoldsFile, HoldFiles, HoldsRing}
use Rattle.log_files.proofs.HeldLemmas.{total-lengths}
use Rattle.gated_slots.specs.Slots.{used, held}
use Rattle.world_laws.specs.ListLaws.{some_same}
use Rattle.ring_laws.specs.PartsLaws.{same_files}

-- the records of a file

spelled_once : (xs ys : History) → AllByRecursion IsRecord xs → AllByRecursion IsRecord ys → length xs ≡ length ys → flat_map spelling xs ≡ flat_map spelling ys → xs ≡ ys
spelled_once [] [] a b long same = refl
spelled_once [] (y ∷ ys) a b long same = absurd (omega (arith, long))
spelled_once (x ∷ xs) [] a b long same = absurd (omega (arith, long))
spelled_once (x ∷ xs) (y ∷ ys) a b long same =
    let first : spelling x ≡ spelling y =
    sym (take_at (spelling x) (flat_map spelling xs) 128 (length-spelling x a.0)) ∙ ap (take 128) same ∙ take_at (spelling y) (flat_map spelling ys) 128 (length-spelling y b.0) in
    let rest : flat_map spelling xs ≡ flat_map spelling ys =
    sym (drop_at (spelling x) (flat_map spelling xs) 128 (length-spelling x a.0)) ∙ ap (drop 128) same ∙ drop_at (spelling y) (flat_map spelling ys) 128 (length-spelling y b.0) in
    ap (λ (e : LogEntry). e ∷ xs) (one_spelling_of x y a.0 b.0 first) ∙ ap (λ (l : History). y ∷ l) (spelled_once xs ys a.1 b.1 (omega (arith, long)) rest)

one_file : (file : ℕ) (xs ys : History) (bytes : List ℕ) → AllByRecursion IsRecord xs → AllByRecursion IsRecord ys → HoldsFile file xs bytes → HoldsFile file ys bytes → xs ≡ ys
one_file file xs ys bytes a b holds also = spelled_once xs ys a b (sym holds.used ∙ also.used) (sym holds.slots ∙ also.slots)

one_past : (file first other : ℕ) (xs ys : List History) (bytes : List ℕ) → FitPast first xs → FitPast other ys → length xs ≡ length ys
    → HoldFiles file xs bytes → HoldFiles file ys bytes → xs ≡ ys
one_past file first other [] [] bytes a b long holds also = refl
one_past file first other [] (y ∷ ys) bytes a b long holds also = absurd (omega (arith, long))
one_past file first other (x ∷ xs) [] bytes a b long holds also = absurd (omega (arith, long))
one_past file first other (x ∷ xs) (y ∷ ys) bytes a b long holds also =
    ap (λ (e : History). e ∷ xs) (one_file file x y bytes a.0.records b.0.records holds.0 also.0)
    ∙ ap (λ (l : List History). y ∷ l)
    (one_past (file + 1) (first + length x) (other + length y) xs ys bytes a.1.1 b.1.1 (omega (arith, long)) holds.1 also.1)

-- the mark

length-laid : (firsts : List ℕ) (file first : ℕ) (counts : List ℕ) → length (laid firsts file first counts) ≡ length firsts
length-laid firsts file first [] = refl
length-laid firsts file first (n ∷ counts) =
    length-laid (slice_set firsts (file % 8) first) (file + 1) (first + n) counts ∙ length-set firsts (file % 8) first

-- the last of them begins behind the records of the others
bounded-laid : (firsts : List ℕ) (file first : ℕ) (counts : List ℕ) (last : ℕ) → AreBounded firsts → first + total counts ≤ 2 ^ 48
    → AreBounded (laid firsts file first (counts ++ last ∷ []))
bounded-laid firsts file first [] last all le =
    All-set (λ number. number ≤ 2 ^ 48) firsts (file % 8) first (omega (arith, le)) all
bounded-laid firsts file first (n ∷ counts) last all le =
    bounded-laid (slice_set firsts (file % 8) first) (file + 1) (first + n) counts last
    (All-set (λ number. number ≤ 2 ^ 48) firsts (file % 8) first (omega (arith, le)) all) (omega (arith, le))

-- a place that no later file takes keeps its number
kept-laid : (firsts : List ℕ) (oldest file first : ℕ) (counts : List ℕ) → oldest < file → file + length counts ≤ oldest + 8
    → get_or (laid firsts file first counts) (oldest % 8) 0 ≡ get_or firsts (oldest % 8) 0
kept-laid firsts oldest file first [] lt few = refl
kept-laid firsts oldest file first (n ∷ counts) lt few =
    kept-laid (slice_set firsts (file % 8) first) oldest (file + 1) (first + n) counts (omega (arith, lt)) (omega (arith, few))
    ∙ get_or-set_other firsts (file % 8) (oldest % 8) first 0 (other oldest file lt (omega (arith, few)))
  where
    other : (a b : ℕ) → a < b → b < a + 8 → a % 8 ≢ b % 8
    other a b less within is = absurd (omega (arith, is))

-- the oldest file's first position stands at its place
first_laid : (oldest first : ℕ) (counts : List ℕ) → 1 ≤ length counts → length counts ≤ 8 → get_or (firsts_by oldest first counts) (oldest % 8) 0 ≡ first
first_laid oldest first [] some few = absurd (omega (arith, some))
first_laid oldest first (n ∷ counts) some few =
    kept-laid (slice_set (replicate 8 0) (oldest % 8) first) oldest (oldest + 1) (first + n) counts (omega arith) (omega (arith, few))
    ∙ get_or-set_same (replicate 8 0) (oldest % 8) first 0 (omega (arith, length-replicate {A = ℕ} 8 0))

past_counts : (first : ℕ) (past : List History) → FitPast first past → length past ≤ count_in past
past_counts first [] fit = omega arith
past_counts first (entries ∷ past) fit = omega (arith, fit.1.0, past_counts (first + length entries) past fit.1.1)

counts_split : (files : LogFiles) → counts_of files ≡ map (λ (x : History). length x) files.past ++ length files.current ∷ []
counts_split files = by files.past
  where
    by : (past : List History) → map (λ (x : History). length x) (past ++ files.current ∷ []) ≡ map (λ (x : History). length x) past ++ length files.current ∷ []
    by [] = refl
    by (x ∷ past) = ap (λ (l : List ℕ). length x ∷ l) (by past)

length-counts_of : (files : LogFiles) → length (counts_of files) ≡ length files.past + 1
length-counts_of files = length-map (files.past ++ files.current ∷ []) (λ (x : History). length x) ∙ length-append files.past (files.current ∷ [])

-- what the mark says of files that a disk may hold has a spelling
pub is_mark : (files : LogFiles) → AreFiles files → IsMark (mark_of files)
is_mark files fit = record {
  some = fit.some;
  held = omega arith;
  few = omega (arith, fit.few);
  dropped = fit.dropped;
  backed = fit.backed;
  bounded = omega (arith, fit.first, fit.place, past_counts files.first files.past fit.past);
  before = fit.before;
  places = length-laid (replicate 8 0) files.oldest files.first (counts_of files) ∙ length-replicate {A = ℕ} 8 0;
  firsts = subst (λ (counts : List ℕ). AreBounded (firsts_by files.oldest files.first counts)) (sym (counts_split files))
      (bounded-laid (replicate 8 0) files.oldest files.first (map (λ (x : History). length x) files.past) (length files.current)
      (All-replicate (λ number. number ≤ 2 ^ 48) 8 0 (omega arith)) (omega (arith, total-lengths files.past, fit.place)));
}

one_mark : (a b : LogFiles) → AreFiles a → AreFiles b → mark_spelling (mark_of a) ≡ mark_spelling (mark_of b) → mark_of a ≡ mark_of b
one_mark a b fit other same = sym (mark_at-spelling (mark_of a) (is_mark a fit)) ∙ ap mark_at same ∙ mark_at-spelling (mark_of b) (is_mark b other)

-- Bytes that hold some files hold no others.
pub one_ring : (site : ℕ) (a b : LogFiles) (bytes : List ℕ) → HoldsRing site a bytes → HoldsRing site b bytes → a ≡ b
one_ring site a b bytes holds also =
    let same : mark_of a ≡ mark_of b = one_mark a b holds.fits also.fits (some_same (sym holds.mark ∙ also.mark)) in
    let oldest : a.oldest ≡ b.oldest = ap (λ (m : LogMark). m.oldest) same in
    let id : current_id a ≡ current_id b = ap (λ (m : LogMark). m.current) same in
    let long : length a.past ≡ length b.past = omega (arith, oldest, id) in
    let first : a.first ≡ b.first =
    sym (first_laid a.oldest a.first (counts_of a) (omega (arith, length-counts_of a)) (omega (arith, length-counts_of a, holds.fits.few)))
    ∙ ap (λ (m : LogMark). get_or m.firsts (a.oldest % 8) 0) same
    ∙ ap (λ (n : ℕ). get_or (firsts_by b.oldest b.first (counts_of b)) (n % 8) 0) oldest
    ∙ first_laid b.oldest b.first (counts_of b) (omega (arith, length-counts_of b)) (omega (arith, length-counts_of b, also.fits.few)) in
    same_files a b oldest first (ap (λ (m : LogMark). m.before) same)
    (one_past a.oldest a.first b.first a.past b.past bytes holds.fits.past also.fits.past long holds.past
    (subst (λ (n : ℕ). HoldFiles n b.past bytes) (sym oldest) also.past))
    (one_file (current_id a) a.current b.current bytes holds.fits.current.records also.fits.current.records holds.current
    (subst (λ (n : ℕ). HoldsFile n b.current bytes) (sym id) also.current))
    (ap (λ (m : LogMark). m.is_closed) same) (ap (λ (m : LogMark). m.backed_up_to) same)
