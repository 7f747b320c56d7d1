-- What more records leave as it is: what is live, the changes of lanes, files, times, and the bytes of objects.
use Rattle.std.specs.Prelude.{◌≡◌, ◌⊎◌, ℕ, zero, suc, ◌+◌, ◌-◌, ◌<◌, ◌≤◌, ◌&&◌, ◌==◌, List, [], ◌∷◌, ◌++◌, length, reverse, take, drop, filter, flat_map, Bool, true, false, nat_lt, nat_le, if◌then◌else◌, Some, slice_get}
use Rattle.std.specs.List.{AllByRecursion}
use mathlib.Core.Logic.{inl, inr}
use Rattle.std.proofs.Common.{arith, refl, sym, ap, subst, ◌∙◌, ⊎_elim, length-append, length-drop}
use Rattle.std.proofs.lemmas.Bool.{cases_lt}
use Rattle.std.proofs.lemmas.Bool.Decides.{nat_tests}
use Rattle.std.proofs.lemmas.List.{reverse-append, length-reverse, take-append-le, drop-append-le}
use Rattle.std.proofs.lemmas.List.Elements.{filter-append, filter_agree}
use Rattle.log_history.specs.History.{LogEntry, History, begin, write, commit, abort, reset, entry_at}
use Rattle.log_history.specs.Live.{ResetPoint, live_by, reset_points_back, reset_points, live}
use Rattle.log_history.specs.Effects.{Change, Page, changes, page_at}
use Rattle.log_history.specs.Transactions.{last_time, low}
use Rattle.log_record.specs.Layout.{spelling}
use Rattle.space_pages.specs.Layout.{page_bytes}
use Rattle.history_laws.specs.EffectiveLaws.{slice_front}
use Rattle.history_laws.specs.PagesLaws.{changes_above, changes_along, changes_before, page_before}
use Rattle.backup_lines.specs.Lines.{Archive, Span}
use Rattle.site_worlds.specs.Files.{first_from, low_at}
use Rattle.site_worlds.specs.Objects.{pages_in, entries_in, archive_head, archive_bytes, log_head, log_bytes, records_in, numbers}
use Rattle.lane_ways.specs.Ways.{lane_changes, changes_behind, count_of, count_of_first, IsPlace}
use Rattle.site_worlds.specs.Allowed.{IsNoReset}

-- live positions

-- the last Reset stands at or before a position
abbrev EndsBy : ℕ → List ResetPoint → Type 0
EndsBy m [] = Unit {0}
EndsBy m (point ∷ older) = point.at ≤ m

ends_later : (m n : ℕ) (points : List ResetPoint) → m ≤ n → EndsBy m points → EndsBy n points
ends_later m n [] le ends = tt
ends_later m n (point ∷ older) le ends = omega (arith, le, ends)

points_end : (past : List LogEntry) → EndsBy (length past) (reset_points_back past)
points_end [] = tt
points_end (reset restore target time ∷ past) = omega arith
points_end (begin txn ∷ past) = ends_later (length past) (suc (length past)) (reset_points_back past) (omega arith) (points_end past)
points_end (write txn patch ∷ past) = ends_later (length past) (suc (length past)) (reset_points_back past) (omega arith) (points_end past)
points_end (commit txn time ∷ past) = ends_later (length past) (suc (length past)) (reset_points_back past) (omega arith) (points_end past)
points_end (abort txn ∷ past) = ends_later (length past) (suc (length past)) (reset_points_back past) (omega arith) (points_end past)

points_end_of : (history : History) → EndsBy (length history) (reset_points history)
points_end_of history = subst (λ (n : ℕ). EndsBy n (reset_points history)) (length-reverse history) (points_end (reverse history))

live_later : (points : List ResetPoint) (m n x : ℕ) → EndsBy m points → x ≤ m → m ≤ n → live_by points n x ≡ live_by points m x
live_later [] m n x ends within le = grind (arith, nat_tests, within, le)
live_later (point ∷ older) m n x ends within le = grind (arith, nat_tests, ends, within, le)

live_end : (points : List ResetPoint) (m : ℕ) → EndsBy m points → live_by points m m ≡ true
live_end [] m ends = grind (arith, nat_tests)
live_end (point ∷ older) m ends = grind (arith, nat_tests, ends)

-- the end of a history is live at it
pub end_is_live : (history : History) → live history (length history) (length history) ≡ true
end_is_live history = live_end (reset_points history) (length history) (points_end_of history)

live_newer : (newer past : List LogEntry) (n x : ℕ) → n ≤ length past
    → live_by (reset_points_back (newer ++ past)) n x ≡ live_by (reset_points_back past) n x
live_newer [] past n x le = refl
live_newer (begin txn ∷ newer) past n x le = live_newer newer past n x le
live_newer (write txn patch ∷ newer) past n x le = live_newer newer past n x le
live_newer (commit txn time ∷ newer) past n x le = live_newer newer past n x le
live_newer (abort txn ∷ newer) past n x le = live_newer newer past n x le
live_newer (reset restore target time ∷ newer) past n x le =
    ap (λ (b : Bool). if b then live_by (reset_points_back (newer ++ past)) n x
    else (if nat_le (suc (length (newer ++ past))) x then nat_le x n
    else (nat_lt target (suc (length (newer ++ past))) && live_by (reset_points_back (newer ++ past)) target x)))
    (behind (length (newer ++ past)) (omega (arith, le, length-append newer past)))
    ∙ live_newer newer past n x le
  where
    behind : (m : ℕ) → n ≤ m → nat_lt n (suc m) ≡ true
    behind m le = grind (arith, nat_tests, le)

-- more records change nothing of what is live at a position before them
pub live_before : (history more : History) (n x : ℕ) → n ≤ length history → live (history ++ more) n x ≡ live history n x
live_before history more n x le =
    ap (λ (back : List LogEntry). live_by (reset_points_back back) n x) (reverse-append history more)
    ∙ live_newer (reverse more) (reverse history) n x (omega (arith, le, length-reverse history))

plain_append : (xs ys : List LogEntry) → AllByRecursion IsNoReset xs → AllByRecursion IsNoReset ys → AllByRecursion IsNoReset (xs ++ ys)
plain_append [] ys all rest = rest
plain_append (x ∷ xs) ys all rest = (all.0, plain_append xs ys all.1 rest)

plain_reverse : (records : List LogEntry) → AllByRecursion IsNoReset records → AllByRecursion IsNoReset (reverse records)
plain_reverse [] all = tt
plain_reverse (entry ∷ records) all =
    subst (AllByRecursion IsNoReset) (sym (reverse-append (entry ∷ []) records))
    (plain_append (reverse records) (entry ∷ []) (plain_reverse records all.1) (all.0, tt))

points_quiet : (newer past : List LogEntry) → AllByRecursion IsNoReset newer → reset_points_back (newer ++ past) ≡ reset_points_back past
points_quiet [] past all = refl
points_quiet (begin txn ∷ newer) past all = points_quiet newer past all.1
points_quiet (write txn patch ∷ newer) past all = points_quiet newer past all.1
points_quiet (commit txn time ∷ newer) past all = points_quiet newer past all.1
points_quiet (abort txn ∷ newer) past all = points_quiet newer past all.1
points_quiet (reset restore target time ∷ newer) past all = absurd all.0

same_points : (history more : History) → AllByRecursion IsNoReset more → reset_points (history ++ more) ≡ reset_points history
same_points history more plain =
    ap reset_points_back (reverse-append history more) ∙ points_quiet (reverse more) (reverse history) (plain_reverse more plain)

-- Records that are no Resets leave what is live at the old end so at the new one.
pub live_at_new_end : (history more : History) (x : ℕ) → AllByRecursion IsNoReset more → x ≤ length history
    → live (history ++ more) (length (history ++ more)) x ≡ live history (length history) x
live_at_new_end history more x plain le =
    ap (λ (points : List ResetPoint). live_by points (length (history ++ more)) x) (same_points history more plain)
    ∙ live_later (reset_points history) (length history) (length (history ++ more)) x (points_end_of history) le (omega (arith, length-append history more))

-- lanes

pub lane_before : (history more : History) (n space : ℕ) → n ≤ length history → lane_changes (history ++ more) n space ≡ lane_changes history n space
lane_before history more n space le = ap (filter (λ (change : Change). change.patch.space == space)) (changes_before history more n le)

-- the way to the new end is the way to the old one, and more
pub lane_at_new_end : (history more : History) (space : ℕ) → AllByRecursion IsNoReset more
    → (further : List Change) × (lane_changes (history ++ more) (length (history ++ more)) space ≡ lane_changes history (length history) space ++ further)
lane_at_new_end history more space plain = (
  filter in_space (changes_above (history ++ more) (length (history ++ more)) (length history)),
  ap (filter in_space) (changes_along (history ++ more) (length (history ++ more)) (length history)
      (live_at_new_end history more (length history) plain (omega arith) ∙ end_is_live history))
      ∙ filter-append in_space (changes (history ++ more) (length history)) (changes_above (history ++ more) (length (history ++ more)) (length history))
      ∙ ap (λ (l : List Change). l ++ filter in_space (changes_above (history ++ more) (length (history ++ more)) (length history))) (lane_before history more (length history) space (omega arith)),
)
  where
    in_space : Change → Bool
    in_space change = change.patch.space == space

count_more : (c : ℕ) (xs ys : List Change) → count_of c xs ≤ count_of c (xs ++ ys)
count_more c [] ys = omega arith
count_more c (x ∷ xs) ys = by (x.commit == c) (count_more c xs ys)
  where
    by : (b : Bool) → count_of c xs ≤ count_of c (xs ++ ys)
        → (if b then suc (count_of c xs) else 0) ≤ (if b then suc (count_of c (xs ++ ys)) else 0)
    by true rest = omega (arith, rest)
    by false rest = omega arith

first_more : (xs ys : List Change) → count_of_first xs ≤ count_of_first (xs ++ ys)
first_more [] ys = omega arith
first_more (x ∷ xs) ys = omega (arith, count_more x.commit xs ys)

-- a place on the way to a position before more records is one still
pub place_before : (history more : History) (n space upto part : ℕ) → n ≤ length history → IsPlace history n space upto part
    → IsPlace (history ++ more) n space upto part
place_before history more n space upto part le place = record {
  is_live = live_before history more n upto le ∙ place.is_live;
  within = subst (λ (l : List Change). part ≤ count_of_first (changes_behind upto l)) (sym (lane_before history more n space le)) place.within;
}

-- a place on the way to the old end is one on the way to the new end
pub place_at_new_end : (history more : History) (space upto part : ℕ) → AllByRecursion IsNoReset more → upto ≤ length history
    → IsPlace history (length history) space upto part → IsPlace (history ++ more) (length (history ++ more)) space upto part
place_at_new_end history more space upto part plain le place =
    let way = lane_at_new_end history more space plain in
    let behind : Change → Bool = λ change. nat_lt upto change.commit in
    record {
      is_live = live_at_new_end history more upto plain le ∙ place.is_live;
      within = subst (λ (l : List Change). part ≤ count_of_first l)
          (sym (ap (changes_behind upto) way.1 ∙ filter-append behind (lane_changes history (length history) space) way.0))
          (omega (arith, place.within, first_more (changes_behind upto (lane_changes history (length history) space)) (filter behind way.0)));
    }

-- records by position

pub entry_before : (history more : History) (x : ℕ) → x ≤ length history → entry_at (history ++ more) x ≡ entry_at history x
entry_before history more zero le = refl
entry_before history more (suc k) le = slice_front history more k (omega (arith, le))

no_reset_in : (records : List LogEntry) (k restore target time : ℕ) → AllByRecursion IsNoReset records → slice_get records k ≡ Some (reset restore target time) → ⊥
no_reset_in [] k restore target time plain is = cc
no_reset_in (begin txn ∷ records) zero restore target time plain is = cc
no_reset_in (write txn patch ∷ records) zero restore target time plain is = cc
no_reset_in (commit txn at ∷ records) zero restore target time plain is = cc
no_reset_in (abort txn ∷ records) zero restore target time plain is = cc
no_reset_in (reset other to at ∷ records) zero restore target time plain is = plain.0
no_reset_in (entry ∷ records) (suc k) restore target time plain is = no_reset_in records k restore target time plain.1 is

slice_behind : (front rest : List LogEntry) (k : ℕ) → length front ≤ k → slice_get (front ++ rest) k ≡ slice_get rest (k - length front)
slice_behind [] rest k le = ap (slice_get rest) (omega arith)
slice_behind (first ∷ front) rest zero le = absurd (omega (arith, le))
slice_behind (first ∷ front) rest (suc k) le = slice_behind front rest k (omega (arith, le)) ∙ ap (slice_get rest) (omega arith)

-- behind records that are no Resets each Reset stood before
pub reset_stood : (history more : History) (x restore target time : ℕ) → AllByRecursion IsNoReset more
    → entry_at (history ++ more) x ≡ Some (reset restore target time) → (entry_at history x ≡ Some (reset restore target time)) × (x ≤ length history)
reset_stood history more zero restore target time plain is = absurd cc
reset_stood history more (suc k) restore target time plain is = ⊎_elim
    (λ lt. (sym (slice_front history more k lt) ∙ is, omega (arith, lt)))
    (λ ge. absurd (no_reset_in more (k - length history) restore target time plain (sym (slice_behind history more k ge) ∙ is)))
    (cases_lt k (length history))

-- a record stands at a position of the history
pub entry_within : (history : History) (x : ℕ) (entry : LogEntry) → entry_at history x ≡ Some entry → x ≤ length history
entry_within history zero entry is = omega arith
entry_within [] (suc k) entry is = absurd cc
entry_within (first ∷ history) (suc zero) entry is = omega arith
entry_within (first ∷ history) (suc (suc k)) entry is = omega (arith, entry_within history (suc k) entry is)

-- the last record of a history with one more
pub entry_behind : (history : History) (entry : LogEntry) → entry_at (history ++ entry ∷ []) (suc (length history)) ≡ Some entry
entry_behind [] entry = refl
entry_behind (first ∷ history) entry = entry_behind history entry

-- behind one more record each record stood before, or is that one
pub entry_pushed : (history : History) (last entry : LogEntry) (x : ℕ) → entry_at (history ++ last ∷ []) x ≡ Some entry
    → (entry_at history x ≡ Some entry) ⊎ ((x ≡ suc (length history)) × (last ≡ entry))
entry_pushed history last entry zero is = absurd cc
entry_pushed [] last entry (suc zero) is = inr (refl, cc)
entry_pushed [] last entry (suc (suc k)) is = absurd cc
entry_pushed (first ∷ history) last entry (suc zero) is = inl is
entry_pushed (first ∷ history) last entry (suc (suc k)) is =
    ⊎_elim (λ before. inl before) (λ here. inr (omega (arith, here.0), here.1)) (entry_pushed history last entry (suc k) is)

-- times and lows of a front

pub time_before : (history more : History) (n : ℕ) → n ≤ length history → last_time (take n (history ++ more)) ≡ last_time (take n history)
time_before history more n le = ap last_time (take-append-le n history more le)

pub low_before : (history more : History) (n : ℕ) → n ≤ length history → low_at (history ++ more) n ≡ low_at history n
low_before history more n le = ap low (take-append-le n history more le)

-- bytes of objects

pub pages_in_before : (history more : History) (pages : ℕ) (archive : Archive) → archive.at ≤ length history
    → pages_in (history ++ more) pages archive ≡ pages_in history pages archive
pages_in_before history more pages archive le =
    filter_agree (λ number. nat_lt archive.base (page_at (history ++ more) archive.at archive.space number).stamp)
    (λ number. nat_lt archive.base (page_at history archive.at archive.space number).stamp)
    (λ number. ap (λ (page : Page). nat_lt archive.base page.stamp) (page_before history more archive.at archive.space number le)) (numbers pages)

pub entries_in_before : (history more : History) (pages : ℕ) (archive : Archive) → archive.at ≤ length history
    → entries_in (history ++ more) pages archive ≡ entries_in history pages archive
entries_in_before history more pages archive le = ap length (pages_in_before history more pages archive le)

flat_map_agree : (f g : ℕ → List ℕ) → ((x : ℕ) → f x ≡ g x) → (xs : List ℕ) → flat_map f xs ≡ flat_map g xs
flat_map_agree f g same [] = refl
flat_map_agree f g same (x ∷ xs) =
    ap (λ (l : List ℕ). l ++ flat_map f xs) (same x) ∙ ap (λ (l : List ℕ). g x ++ l) (flat_map_agree f g same xs)

pub archive_bytes_before : (site pages : ℕ) (history more : History) (archive : Archive) → archive.at ≤ length history
    → archive_bytes site (history ++ more) pages archive ≡ archive_bytes site history pages archive
archive_bytes_before site pages history more archive le =
    ap (λ (l : List ℕ). archive_head site archive ++ flat_map (spelled (history ++ more)) l) (pages_in_before history more pages archive le)
    ∙ ap (λ (l : List ℕ). archive_head site archive ++ l)
    (flat_map_agree (spelled (history ++ more)) (spelled history)
    (λ number. ap (page_bytes archive.space number) (page_before history more archive.at archive.space number le)) (pages_in history pages archive))
  where
    spelled : History → ℕ → List ℕ
    spelled h number = page_bytes archive.space number (page_at h archive.at archive.space number)

pub records_in_before : (history more : History) (span : Span) → 1 ≤ span.first → span.first ≤ span.last → span.last ≤ length history
    → records_in (history ++ more) span ≡ records_in history span
records_in_before history more span some le within =
    ap (take (span.last + 1 - span.first)) (drop-append-le (span.first - 1) history more (omega (arith, le, within)))
    ∙ take-append-le (span.last + 1 - span.first) (drop (span.first - 1) history) more (omega (arith, some, le, within, length-drop (span.first - 1) history))

pub log_bytes_before : (site : ℕ) (history more : History) (span : Span) → 1 ≤ span.first → span.first ≤ span.last → span.last ≤ length history
    → log_bytes site (history ++ more) span ≡ log_bytes site history span
log_bytes_before site history more span some le within =
    ap (λ (l : List LogEntry). log_head site span ++ flat_map spelling l) (records_in_before history more span some le within)

-- firsts of files

-- a file that has begun begins there, wherever the end is
pub first_begun : (starts : List ℕ) (end other k : ℕ) → k < length starts → first_from starts end k ≡ first_from starts other k
first_begun [] end other k lt = absurd (omega (arith, lt))
first_begun (start ∷ starts) end other zero lt = refl
first_begun (start ∷ starts) end other (suc k) lt = first_begun starts end other k (omega (arith, lt))

-- a file that begins behind the end begins where the end was
pub first_opened : (starts : List ℕ) (end k : ℕ) → first_from (starts ++ suc end ∷ []) end k ≡ first_from starts end k
first_opened [] end zero = refl
first_opened [] end (suc k) = refl
first_opened (start ∷ starts) end zero = refl
first_opened (start ∷ starts) end (suc k) = first_opened starts end k

pub first_beyond : (starts : List ℕ) (end k : ℕ) → length starts ≤ k → first_from starts end k ≡ suc end
first_beyond [] end k le = refl
first_beyond (start ∷ starts) end zero le = absurd (omega (arith, le))
first_beyond (start ∷ starts) end (suc k) le = first_beyond starts end k (omega (arith, le))
