-- The files held are read one after another.
use Rattle.std.proofs.Common.{◌≡◌, ℕ, zero, suc, ◌+◌, ◌-◌, ◌*◌, ◌%◌, ◌^◌, ◌<◌, ◌≤◌, List, [], ◌∷◌, ◌++◌, length, map, take, drop, get_or, Bool, true, false, IsTrue, refl, arith, ap, sym, subst, ◌∙◌, length-append, length-take, length-drop, ⊎_elim}
use Rattle.std.proofs.lemmas.List.{take_more, take_all, append-nil, map-append, length-map}
use Rattle.log_history.specs.History.{History}
use Rattle.gated_slots.specs.Slots.{used}
use Rattle.site_disk.specs.Bytes.{extent}
use Rattle.log_mark.specs.declared.mark.LogMark.{LogMark}
use Rattle.log_mark.specs.Layout.{IsMark}
use Rattle.log_files.specs.Files.{LogFiles, AreFiles, count_in, current_first, current_id, next_of, counts_of, mark_of, total, firsts_by, appended, with_next, new_files}
use Rattle.log_files.specs.FilesLaws.{fit_next, fit_new, fit_empty, count_in-one}
use Rattle.log_files.specs.Held.{Tells}
use Rattle.log_files.specs.Ring.{area_of}
use Rattle.log_files.specs.declared.held.HeldFiles.{HeldFiles}
use Rattle.log_files.proofs.HeldLemmas.{total-lengths}
use Rattle.log_scan.specs.Fronts.{AreFilled, Names, counts_on, first_at}
use Rattle.log_scan.specs.Filing.{SpellsFile, SpellFiles, HasTaken, HasFiles, IsStopped}
use Rattle.log_scan.specs.Slots.{SlotStands, StopsIn}
use Rattle.log_scan.proofs.FilesLemmas.{first_by, take-map-lengths, count_at, fit_all, spell_append, stand_at}

-- some of the files that a mark names with these counts are read
pub record IsPartway (tells : Bool) (mark : LogMark) (counts : List ℕ) (done : ℕ) (bytes : List ℕ) (held : HeldFiles) : Type 0 where
  pub files : LogFiles
  pub fits : AreFiles files
  pub told : Tells files held
  pub oldest : files.oldest ≡ mark.oldest
  pub first : files.first ≡ first_at mark mark.oldest
  pub before : files.before ≡ mark.before
  pub open_file : files.is_closed ≡ false
  pub counted : counts_of files ≡ take done counts
  pub spelled : IsTrue tells → SpellFiles files.oldest (files.past ++ files.current ∷ []) bytes

-- of counts

pub total-take : (n : ℕ) (counts : List ℕ) → total (take n counts) ≤ total counts
total-take zero counts = omega arith
total-take (suc n) [] = omega arith
total-take (suc n) (x ∷ counts) = omega (arith, total-take n counts)

pub total-append : (xs : List ℕ) (x : ℕ) → total (xs ++ x ∷ []) ≡ total xs + x
total-append [] x = omega arith
total-append (y ∷ xs) x = omega (arith, total-append xs x)

pub total_more : (counts : List ℕ) (done : ℕ) → done < length counts → total (take (done + 1) counts) ≡ total (take done counts) + get_or counts done 0
total_more counts done lt = ap total (take_more counts done 0 lt) ∙ total-append (take done counts) (get_or counts done 0)

-- the counts behind the first one
pub later_lt : (counts : List ℕ) (i : ℕ) → i < length (take (length counts - 1) (drop 1 counts)) → i + 1 < length counts
later_lt counts i lt = omega (arith, lt, length-take (length counts - 1) (drop 1 counts), length-drop 1 counts)

pub later_end : (counts : List ℕ) (i : ℕ) → 1 ≤ length counts → length (take (length counts - 1) (drop 1 counts)) ≤ i → i ≤ length (take (length counts - 1) (drop 1 counts)) → i + 1 ≡ length counts
later_end counts i some ge le = omega (arith, some, ge, le, length-take (length counts - 1) (drop 1 counts), length-drop 1 counts)

pub later_item : (counts : List ℕ) (i : ℕ) → get_or (take (length counts - 1) (drop 1 counts)) i 0 ≡ get_or counts (i + 1) 0
later_item [] i = refl
later_item (x ∷ counts) i =
    ap (λ (l : List ℕ). get_or l i 0) (take_all (suc (length counts) - 1) counts (omega arith)) ∙ ap (λ (k : ℕ). get_or (x ∷ counts) k 0) (let e : suc i ≡ i + 1 = omega arith in e)

-- of some of the files each but the last of all has records
filled_at : (closed : Bool) (counts xs : List ℕ) (done n : ℕ) → AreFilled closed counts → done < length counts → xs ++ n ∷ [] ≡ take done counts → 1 ≤ n
filled_at closed [] xs done n filled lt is = absurd (omega (arith, lt))
filled_at closed (x ∷ counts) xs zero n filled lt is = absurd (omega (arith, ap (λ (l : List ℕ). length l) is, length-append xs (n ∷ [])))
filled_at closed (x ∷ []) xs (suc done) n filled lt is = absurd (omega (arith, lt))
filled_at closed (x ∷ y ∷ counts) [] (suc done) n filled lt is = subst (λ (k : ℕ). 1 ≤ k) (sym (ap (λ (l : List ℕ). get_or l 0 0) is)) filled.0
filled_at closed (x ∷ y ∷ counts) (z ∷ xs) (suc done) n filled lt is =
    filled_at closed (y ∷ counts) xs done n filled.1 (omega (arith, lt)) (ap (drop 1) is)

filled_last : (closed : Bool) (counts xs : List ℕ) (n : ℕ) → AreFilled closed counts → xs ++ n ∷ [] ≡ counts → closed ≡ true → 1 ≤ n
filled_last closed [] [] n filled is shut = cc is
filled_last closed [] (z ∷ xs) n filled is shut = cc is
filled_last closed (x ∷ []) [] n filled is shut = subst (λ (k : ℕ). 1 ≤ k) (sym (ap (λ (l : List ℕ). get_or l 0 0) is)) (filled.0 shut)
filled_last closed (x ∷ y ∷ counts) [] n filled is shut = absurd (omega (arith, ap (λ (l : List ℕ). length l) is))
filled_last closed (x ∷ counts) (z ∷ xs) n filled is shut = filled_last closed counts xs n filled.1 (ap (drop 1) is) shut

-- of files

pub total-counts : (files : LogFiles) → files.first + total (counts_of files) ≡ next_of files
total-counts files = omega (arith, total-lengths (files.past ++ files.current ∷ []), count_in-one files.past files.current)

pub length-counts : (files : LogFiles) → length (counts_of files) ≡ length files.past + 1
length-counts files = length-map (files.past ++ files.current ∷ []) (λ (x : History). length x) ∙ length-append files.past (files.current ∷ [])

counts-split : (files : LogFiles) → counts_of files ≡ map (λ (x : History). length x) files.past ++ length files.current ∷ []
counts-split files = map-append (λ (x : History). length x) files.past (files.current ∷ [])

-- the records of the current file, which was empty
module _ (tells : Bool) (files : LogFiles) (count : ℕ) (bytes : List ℕ) (held : HeldFiles) (fits : AreFiles files) (empty : files.current ≡ []) (open_file : files.is_closed ≡ false)
    (room : current_first files + count ≤ 2 ^ 48 + 1) (taken : HasTaken tells files count bytes held) where
  now : appended files taken.entries ≡ record files { current = taken.entries }
  now = ap (λ (l : History). record files { current = l ++ taken.entries }) empty

  pub taken_fits : AreFiles (record files { current = taken.entries })
  taken_fits = record {
    some = fits.some;
    first = fits.first;
    few = fits.few;
    past = fits.past;
    current = taken.fits;
    filled = λ is. absurd (false_not (sym open_file ∙ is));
    dropped = fits.dropped;
    backed = fits.backed;
    place = fits.place;
    positions = omega (arith, taken.counted, room);
    before = fits.before;
  }
    where
      false_not : false ≡ true → ⊥
      false_not is = cc is

  pub taken_told : Tells (record files { current = taken.entries }) held
  taken_told = subst (λ (f : LogFiles). Tells f held) now taken.told

-- nothing was read of an empty file
pub taken_none : (tells : Bool) (files : LogFiles) (count : ℕ) (bytes : List ℕ) (held : HeldFiles) → count ≡ 0 → Tells files held → HasTaken tells files count bytes held
taken_none tells files count bytes held none told = record {
  entries = [];
  counted = sym none;
  fits = fit_empty (current_first files);
  told = subst (λ (f : LogFiles). Tells f held) (sym (ap (λ (l : History). record files { current = l }) (append-nil files.current))) told;
  spelled = λ is. ap (λ (n : ℕ). extent (area_of (current_id files)).slots (128 * n) bytes) none;
}

-- one file more

module _ (tells : Bool) (mark : LogMark) (counts bytes : List ℕ) (ok : IsMark mark) (names : Names mark counts) where
  few_counts : length counts ≤ 8
  few_counts = omega (arith, names.held, ok.few)

  -- a file begins at a position
  pub first_bounded : (i : ℕ) → i < length counts → first_at mark mark.oldest + total (take i counts) ≤ 2 ^ 48
  first_bounded i lt =
      subst (λ (n : ℕ). n ≤ 2 ^ 48) (first_by mark (first_at mark mark.oldest) counts i names.firsts lt few_counts) (ok.firsts ((mark.oldest + i) % 8) 0 (omega (arith, ok.places)))

  -- the first one
  module _ (held : HeldFiles) where
    abbrev begun : LogFiles
    begun = new_files mark.oldest (first_at mark mark.oldest) mark.before

    pub fit_begun : 1 ≤ length counts → AreFiles begun
    fit_begun some = fit_new mark.oldest (first_at mark mark.oldest) mark.before ok.some names.oldest (omega (arith, first_bounded 0 some)) ok.before

    pub one_partway : (count : ℕ) → 1 ≤ length counts → count ≡ get_or counts 0 0 → HasTaken tells begun count bytes held → IsPartway tells mark counts 1 bytes held
    one_partway count some is taken =
        let one : take 1 counts ≡ count ∷ [] = take_more counts 0 0 some ∙ ap (λ (n : ℕ). n ∷ []) (sym is) in
        let room : current_first begun + count ≤ 2 ^ 48 + 1 = omega (arith, names.positions, total-take 1 counts, ap total one) in record {
          files = record begun { current = taken.entries };
          fits = taken_fits tells begun count bytes held (fit_begun some) refl refl room taken;
          told = taken_told tells begun count bytes held (fit_begun some) refl refl room taken;
          oldest = refl;
          first = refl;
          before = refl;
          open_file = refl;
          counted = ap (λ (n : ℕ). n ∷ []) taken.counted ∙ sym one;
          spelled = λ t. (
            subst (λ (k : ℕ). SpellsFile k taken.entries bytes) (let e : mark.oldest + 0 ≡ mark.oldest = omega arith in e)
                (ap (λ (n : ℕ). extent (area_of (mark.oldest + 0)).slots (128 * n) bytes) taken.counted ∙ taken.spelled t),
            tt,
          );
        }

  -- and those behind it
  module _ (done : ℕ) (held : HeldFiles) (was : IsPartway tells mark counts done bytes held) (lt : done < length counts) where
    abbrev next : LogFiles
    next = with_next was.files

    count_past : length was.files.past + 1 ≡ done
    count_past = sym (length-counts was.files) ∙ ap (λ (l : List ℕ). length l) was.counted ∙ omega (arith, length-take done counts, lt)

    pub next_is : next_of was.files ≡ first_at mark mark.oldest + total (take done counts)
    next_is = sym (total-counts was.files) ∙ ap (λ (n : ℕ). n + total (counts_of was.files)) was.first ∙ ap (λ (l : List ℕ). first_at mark mark.oldest + total l) was.counted

    pub some_current : 1 ≤ length was.files.current
    some_current = filled_at mark.is_closed counts (map (λ (x : History). length x) was.files.past) done (length was.files.current) names.filled lt (sym (counts-split was.files) ∙ was.counted)

    pub fit_next_file : AreFiles next
    fit_next_file =
        fit_next was.files was.fits some_current (omega (arith, count_past, lt, few_counts))
        (omega (arith, next_is, first_bounded done lt, was.fits.some, was.fits.first))

    pub first_next : current_first next ≡ first_at mark mark.oldest + total (take done counts)
    first_next = omega (arith, count_in-one was.files.past was.files.current, next_is)

    pub id_next : current_id next ≡ mark.oldest + done
    id_next = omega (arith, length-append was.files.past (was.files.current ∷ []), count_past, was.oldest)

    more : take (done + 1) counts ≡ take done counts ++ get_or counts done 0 ∷ []
    more = take_more counts done 0 lt

    pub room_next : current_first next + get_or counts done 0 ≤ 2 ^ 48 + 1
    room_next =
        omega (arith, first_next, names.positions, total-take (done + 1) counts, ap total more, total-append (take done counts) (get_or counts done 0))

    pub next_partway : (new : HeldFiles) (count : ℕ) → count ≡ get_or counts done 0 → HasTaken tells next count bytes new → IsPartway tells mark counts (done + 1) bytes new
    next_partway new count is taken =
        let room : current_first next + count ≤ 2 ^ 48 + 1 = subst (λ (n : ℕ). current_first next + n ≤ 2 ^ 48 + 1) (sym is) room_next in record {
          files = record next { current = taken.entries };
          fits = taken_fits tells next count bytes new fit_next_file refl refl room taken;
          told = taken_told tells next count bytes new fit_next_file refl refl room taken;
          oldest = was.oldest;
          first = was.first;
          before = was.before;
          open_file = refl;
          counted = map-append (λ (x : History). length x) (was.files.past ++ was.files.current ∷ []) (taken.entries ∷ [])
              ∙ ap (λ (l : List ℕ). l ++ length taken.entries ∷ []) was.counted ∙ ap (λ (n : ℕ). take done counts ++ n ∷ []) (taken.counted ∙ is) ∙ sym more;
          spelled = λ t. spell_append was.files.oldest (was.files.past ++ was.files.current ∷ []) taken.entries bytes (was.spelled t)
              (ap (λ (n : ℕ). extent (area_of (current_id next)).slots (128 * n) bytes) taken.counted ∙ taken.spelled t);
        }

  -- all of them
  module _ (held : HeldFiles) (was : IsPartway tells mark counts (length counts) bytes held) where
    all_counts : counts_of was.files ≡ counts
    all_counts = was.counted ∙ take_all (length counts) counts (omega arith)

    abbrev whole : LogFiles
    whole = record (was.files) { is_closed = mark.is_closed; backed = mark.backed_up_to }

    current_is : current_id was.files ≡ mark.current
    current_is = omega (arith, was.oldest, length-counts was.files, ap (λ (l : List ℕ). length l) all_counts, names.held)

    named : mark_of whole ≡ mark
    named = same_marks (mark_of whole) mark current_is was.oldest refl was.before refl
        (ap (λ (k : ℕ). firsts_by k was.files.first (counts_of was.files)) was.oldest ∙ ap (λ (k : ℕ). firsts_by mark.oldest k (counts_of was.files)) was.first
        ∙ ap (firsts_by mark.oldest (first_at mark mark.oldest)) all_counts ∙ sym names.firsts)
      where
        same_marks : (a b : LogMark) → a.current ≡ b.current → a.oldest ≡ b.oldest → a.backed_up_to ≡ b.backed_up_to → a.before ≡ b.before
            → a.is_closed ≡ b.is_closed → a.firsts ≡ b.firsts → a ≡ b
        same_marks a b e1 e2 e3 e4 e5 e6 = rw (e1, e2, e3, e4, e5, e6) refl

    fit_whole : AreFiles whole
    fit_whole = record {
      some = was.fits.some;
      first = was.fits.first;
      few = was.fits.few;
      past = was.fits.past;
      current = was.fits.current;
      filled = λ shut. filled_last mark.is_closed counts (map (λ (x : History). length x) was.files.past) (length was.files.current) names.filled (sym (counts-split was.files) ∙ all_counts) shut;
      dropped = omega (arith, was.oldest, ok.dropped);
      backed = omega (arith, current_is, ok.backed);
      place = was.fits.place;
      positions = was.fits.positions;
      before = was.fits.before;
    }

    pub has_files : HasFiles tells mark counts bytes (record held { mark = mark })
    has_files = record {
      files = whole;
      fits = fit_whole;
      told = record { mark = sym named; spans = was.told.spans; first = was.told.first; next = was.told.next; time = was.told.time };
      named = named;
      counted = all_counts;
      spelled = was.spelled;
    }

  -- where the counts are those of the disk

  module _ (counts_are : counts ≡ counts_on mark bytes) where
    count_all : length counts ≡ mark.current + 1 - mark.oldest
    count_all = omega (arith, names.held)

    used_at : (i : ℕ) → i < length counts → get_or counts i 0 ≡ used (area_of (mark.oldest + i)) bytes
    used_at i lt = ap (λ (l : List ℕ). get_or l i 0) counts_are ∙ count_at mark.oldest (mark.current + 1 - mark.oldest) bytes i (omega (arith, lt, count_all))

    -- each slot of the files that were read stands
    pub past_stands : (done : ℕ) (held : HeldFiles) → IsTrue tells → IsPartway tells mark counts done bytes held → done ≤ length counts
        → (f s : ℕ) → mark.oldest ≤ f → f < mark.oldest + done → s < used (area_of f) bytes → SlotStands (first_at mark f) f s bytes
    past_stands done held t was le f s oldest before within =
        let i : ℕ = f - mark.oldest in
        let at : mark.oldest + i ≡ f = omega (arith, oldest) in
        let lt : i < done = omega (arith, oldest, before) in
        let xs : List History = was.files.past ++ was.files.current ∷ [] in
        let here : get_or (counts_of was.files) i 0 ≡ used (area_of f) bytes =
        ap (λ (l : List ℕ). get_or l i 0) was.counted ∙ get_or-take done counts i lt ∙ used_at i (omega (arith, lt, le)) ∙ ap (λ (k : ℕ). used (area_of k) bytes) at in
        let long : i < length xs = omega (arith, lt, le, length-map xs (λ (x : History). length x), ap (λ (l : List ℕ). length l) was.counted, length-take done counts) in
        let stands = stand_at was.files.oldest was.files.first xs bytes i s (fit_all was.files was.fits) (was.spelled t) long (subst (λ (n : ℕ). s < n) (sym here) within) in
        let first : was.files.first + count_in (take i xs) ≡ first_at mark f =
        ap (λ (k : ℕ). was.files.first + k) (sym (take-map-lengths i xs) ∙ ap (λ (l : List ℕ). total (take i l)) was.counted ∙ ap total (take-take_less i done counts lt))
        ∙ ap (λ (k : ℕ). k + total (take i counts)) was.first ∙ sym (first_by mark (first_at mark mark.oldest) counts i names.firsts (omega (arith, lt, le)) few_counts) ∙ ap (first_at mark) at in
        subst (λ (k : ℕ). SlotStands k f s bytes) first
        (subst (λ (k : ℕ). SlotStands (was.files.first + count_in (take i xs)) k s bytes) (ap (λ (k : ℕ). k + i) was.oldest ∙ at) stands)
      where
        get_or-take : (n : ℕ) (xs : List ℕ) (j : ℕ) → j < n → get_or (take n xs) j 0 ≡ get_or xs j 0
        get_or-take zero xs j less = absurd (omega (arith, less))
        get_or-take (suc n) [] j less = refl
        get_or-take (suc n) (x ∷ xs) zero less = refl
        get_or-take (suc n) (x ∷ xs) (suc j) less = get_or-take n xs j (omega (arith, less))

        take-take_less : (j n : ℕ) (xs : List ℕ) → j < n → take j (take n xs) ≡ take j xs
        take-take_less zero n xs less = refl
        take-take_less (suc j) zero xs less = absurd (omega (arith, less))
        take-take_less (suc j) (suc n) [] less = refl
        take-take_less (suc j) (suc n) (x ∷ xs) less = ap (λ (l : List ℕ). x ∷ l) (take-take_less j n xs (omega (arith, less)))

    -- a file in which a slot stops the reading, behind others that were read
    pub stopped : (done number first file count : ℕ) → done < length counts → count ≡ get_or counts done 0 → file ≡ mark.oldest + done → first ≡ first_at mark mark.oldest + total (take done counts)
        → ((f s : ℕ) → mark.oldest ≤ f → f < mark.oldest + done → s < used (area_of f) bytes → SlotStands (first_at mark f) f s bytes)
        → StopsIn first file count bytes number → IsStopped mark bytes number
    stopped done number first file count lt count_is file_is first_is earlier stops =
        let at : first ≡ first_at mark file = first_is ∙ sym (first_by mark (first_at mark mark.oldest) counts done names.firsts lt few_counts) ∙ ap (first_at mark) (sym file_is) in
        let here : count ≡ used (area_of file) bytes = count_is ∙ used_at done lt ∙ ap (λ (k : ℕ). used (area_of k) bytes) (sym file_is) in record {
          file = file;
          slot = stops.slot;
          number_is = stops.number_is;
          first = record {
            held = record { oldest = omega (arith, file_is); current = omega (arith, file_is, lt, names.held); used = subst (λ (n : ℕ). stops.slot < n) here stops.within };
            bad = λ stands. stops.bad (subst (λ (k : ℕ). SlotStands k file stops.slot bytes) (sym at) stands);
            before = λ f s slot before. ⊎_elim
                (λ other. earlier f s slot.oldest (omega (arith, other, file_is)) slot.used)
                (λ same. subst (λ (k : ℕ). SlotStands (first_at mark k) k s bytes) (sym same.0) (subst (λ (k : ℕ). SlotStands k file s bytes) at (stops.before s same.1)))
                before;
          };
        }
