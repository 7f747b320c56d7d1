-- What the bytes of a log's disk hold, or refuse, they hold or refuse alone.
use Rattle.std.proofs.Common.{◌≡◌, ◌⊎◌, ℕ, zero, suc, ◌+◌, ◌-◌, ◌*◌, ◌%◌, ◌^◌, ◌<◌, ◌≤◌, List, [], ◌∷◌, ◌++◌, length, map, take, replicate, get_or, refl, arith, ap, sym, subst, ◌∙◌, length-append, inl, inr, ⊎_elim}
use Rattle.std.specs.Prelude.{slice_set}
use Rattle.std.specs.List.{AllByRecursion}
use Rattle.std.proofs.lemmas.Bool.{cases_order}
use Rattle.std.proofs.lemmas.List.{map-append, length-set}
use Rattle.std.proofs.lemmas.List.Elements.{All-from_recursion}
use Rattle.log_history.specs.History.{History}
use Rattle.gated_slots.specs.Slots.{used}
use Rattle.site_disk.specs.Bytes.{extent}
use Rattle.twin_mark.specs.Marks.{record_at}
use Rattle.log_mark.specs.declared.mark.LogMark.{LogMark}
use Rattle.log_mark.specs.Layout.{IsMark}
use Rattle.log_files.specs.Files.{LogFiles, AreFiles, FitPast, count_in, current_id, counts_of, mark_of, laid, firsts_by}
use Rattle.log_files.specs.Ring.{area_of, HoldsFile, HoldFiles, HoldsRing}
use Rattle.log_files.specs.RingLaws.{hold_append}
use Rattle.log_files.specs.declared.faults.LogFault.{LogFault}
use Rattle.log_files.specs.declared.faults.LogFault.TheVariants.{LogLost, BadRecord, Failed, OutOfMemory}
use Rattle.log_scan.specs.Slots.{SlotStands}
use Rattle.log_scan.specs.Fronts.{AreFilled, Names, HasFront, counts_from, counts_on, first_at}
use Rattle.log_scan.specs.Filing.{SpellsFile, SpellFiles}
use Rattle.log_scan.specs.Refusals.{IsHeldSlot, IsFirstBad, IsBadFront, IsBadSlot, Refuses}
use Rattle.log_scan.proofs.SlotLemmas.{one_history}
use Rattle.log_scan.proofs.FrontLemmas.{filled_by}
use Rattle.log_scan.proofs.FilesLemmas.{FitAll, fit_all, first_by, take-map-lengths, stand_at}
use Rattle.log_scan.proofs.PartwayLemmas.{total-counts, length-counts}
use Rattle.log_scan.proofs.FoundLemmas.{one_stands}

abbrev lengths : List History → List ℕ
lengths xs = map (λ (x : History). length x) xs

-- files that are held

spells_held : (file : ℕ) (entries : History) (bytes : List ℕ) → HoldsFile file entries bytes → SpellsFile file entries bytes
spells_held file entries bytes holds = ap (λ (n : ℕ). extent (area_of file).slots (128 * n) bytes) (sym holds.used) ∙ holds.slots

spell_held : (file : ℕ) (xs : List History) (bytes : List ℕ) → HoldFiles file xs bytes → SpellFiles file xs bytes
spell_held file [] bytes holds = tt
spell_held file (x ∷ xs) bytes holds = (spells_held file x bytes holds.0, spell_held (file + 1) xs bytes holds.1)

counts_held : (file : ℕ) (xs : List History) (bytes : List ℕ) → HoldFiles file xs bytes → counts_from file (length xs) bytes ≡ lengths xs
counts_held file [] bytes holds = refl
counts_held file (x ∷ xs) bytes holds =
    ap (λ (n : ℕ). n ∷ counts_from (file + 1) (length xs) bytes) holds.0.used ∙ ap (λ (l : List ℕ). length x ∷ l) (counts_held (file + 1) xs bytes holds.1)

used_held : (file : ℕ) (xs : List History) (bytes : List ℕ) (i : ℕ) → HoldFiles file xs bytes → i < length xs → used (area_of (file + i)) bytes ≡ get_or (lengths xs) i 0
used_held file [] bytes i holds lt = absurd (omega (arith, lt))
used_held file (x ∷ xs) bytes zero holds lt = ap (λ (k : ℕ). used (area_of k) bytes) (let e : file + 0 ≡ file = omega arith in e) ∙ holds.0.used
used_held file (x ∷ xs) bytes (suc i) holds lt =
    ap (λ (k : ℕ). used (area_of k) bytes) (let e : file + suc i ≡ file + 1 + i = omega arith in e) ∙ used_held (file + 1) xs bytes i holds.1 (omega (arith, lt))

-- the mark of files is in the grammar

set_all : (P : ℕ → Type 0) (xs : List ℕ) (i y : ℕ) → AllByRecursion P xs → P y → AllByRecursion P (slice_set xs i y)
set_all P [] i y all is = tt
set_all P (x ∷ xs) zero y all is = (is, all.1)
set_all P (x ∷ xs) (suc i) y all is = (all.0, set_all P xs i y all.1 is)

laid_all : (bound : ℕ) (firsts : List ℕ) (file first : ℕ) (past : List History) (current : History) → AllByRecursion (λ n. n ≤ bound) firsts → first + count_in past ≤ bound
    → AllByRecursion (λ n. n ≤ bound) (laid firsts file first (lengths (past ++ current ∷ [])))
laid_all bound firsts file first [] current all le = set_all (λ n. n ≤ bound) firsts (file % 8) first all (omega (arith, le))
laid_all bound firsts file first (x ∷ past) current all le =
    laid_all bound (slice_set firsts (file % 8) first) (file + 1) (first + length x) past current (set_all (λ n. n ≤ bound) firsts (file % 8) first all (omega (arith, le))) (omega (arith, le))

length-laid : (firsts : List ℕ) (file first : ℕ) (counts : List ℕ) → length (laid firsts file first counts) ≡ length firsts
length-laid firsts file first [] = refl
length-laid firsts file first (n ∷ counts) = length-laid (slice_set firsts (file % 8) first) (file + 1) (first + n) counts ∙ length-set firsts (file % 8) first

some_past : (first : ℕ) (past : List History) → FitPast first past → (AllByRecursion (λ n. 1 ≤ n) (lengths past)) × (length past ≤ count_in past)
some_past first [] fits = (tt, omega arith)
some_past first (x ∷ past) fits = let rest = some_past (first + length x) past fits.1.1 in ((fits.1.0, rest.0), omega (arith, rest.1, fits.1.0))

module _ (files : LogFiles) (fits : AreFiles files) where
  pub fit_mark : IsMark (mark_of files)
  fit_mark = record {
    some = fits.some;
    held = omega arith;
    few = omega (arith, fits.few);
    dropped = fits.dropped;
    backed = fits.backed;
    bounded = omega (arith, (some_past files.first files.past fits.past).1, fits.first, fits.place);
    before = fits.before;
    places = length-laid (replicate 8 0) files.oldest files.first (counts_of files);
    firsts = All-from_recursion (λ n. n ≤ 2 ^ 48) (firsts_by files.oldest files.first (counts_of files))
        (laid_all (2 ^ 48) (replicate 8 0) files.oldest files.first files.past files.current
        (omega arith, (omega arith, (omega arith, (omega arith, (omega arith, (omega arith, (omega arith, (omega arith, tt)))))))) fits.place);
  }

  few_counts : length (counts_of files) ≤ 8
  few_counts = omega (arith, length-counts files, fits.few)

  first_is : first_at (mark_of files) files.oldest ≡ files.first
  first_is =
      ap (λ (k : ℕ). get_or (firsts_by files.oldest files.first (counts_of files)) (k % 8) 0) (let e : files.oldest ≡ files.oldest + 0 = omega arith in e)
      ∙ first_by (mark_of files) files.first (counts_of files) 0 refl (omega (arith, length-counts files)) few_counts ∙ omega arith

  pub names_files : Names (mark_of files) (counts_of files)
  names_files = record {
    held = omega (arith, length-counts files);
    filled = subst (AreFilled files.is_closed) (sym (map-append (λ (x : History). length x) files.past (files.current ∷ [])))
        (filled_by files.is_closed (lengths files.past) (length files.current) (some_past files.first files.past fits.past).0 fits.filled);
    oldest = omega (arith, first_is, fits.first);
    firsts = ap (λ (k : ℕ). firsts_by files.oldest k (counts_of files)) (sym first_is);
    positions = omega (arith, first_is, total-counts files, fits.positions);
  }

-- a disk that holds files

module _ (site : ℕ) (files : LogFiles) (bytes : List ℕ) (holds : HoldsRing site files bytes) where
  abbrev xs : List History
  xs = files.past ++ files.current ∷ []

  length-xs : length xs ≡ length files.past + 1
  length-xs = length-append files.past (files.current ∷ [])

  all_held : HoldFiles files.oldest xs bytes
  all_held = hold_append files.oldest files.past files.current bytes holds.past holds.current

  counts_are : counts_on (mark_of files) bytes ≡ counts_of files
  counts_are =
      ap (λ (n : ℕ). counts_from files.oldest n bytes) (let e : current_id files + 1 - files.oldest ≡ length xs = omega (arith, length-xs) in e) ∙ counts_held files.oldest xs bytes all_held

  pub front_held : HasFront (mark_of files) bytes
  front_held = record {
    stands = holds.mark;
    fits = fit_mark files holds.fits;
    names = subst (Names (mark_of files)) (sym counts_are) (names_files files holds.fits);
    reaches = omega (arith, holds.current.reaches);
  }

  -- each slot in use stands
  pub slots_held : (f s : ℕ) → IsHeldSlot (mark_of files) bytes f s → SlotStands (first_at (mark_of files) f) f s bytes
  slots_held f s held =
      let i : ℕ = f - files.oldest in
      let at : files.oldest + i ≡ f = omega (arith, held.oldest) in
      let lt : i < length xs = omega (arith, held.oldest, held.current, length-xs) in
      let count : used (area_of f) bytes ≡ get_or (lengths xs) i 0 = ap (λ (k : ℕ). used (area_of k) bytes) (sym at) ∙ used_held files.oldest xs bytes i all_held lt in
      let first : first_at (mark_of files) f ≡ files.first + count_in (take i xs) =
      ap (first_at (mark_of files)) (sym at) ∙ first_by (mark_of files) files.first (counts_of files) i refl (omega (arith, lt, length-xs, length-counts files)) (few_counts files holds.fits)
      ∙ ap (λ (k : ℕ). files.first + k) (take-map-lengths i xs) in
      subst (λ (k : ℕ). SlotStands k f s bytes) (sym first) (subst (λ (k : ℕ). SlotStands (files.first + count_in (take i xs)) k s bytes) at
      (stand_at files.oldest files.first xs bytes i s (fit_all files holds.fits) (spell_held files.oldest xs bytes all_held) lt (subst (λ (n : ℕ). s < n) count held.used)))

-- it isn't refused
pub not_refused : (site : ℕ) (files : LogFiles) (bytes : List ℕ) (fault : LogFault) → HoldsRing site files bytes → Refuses site bytes fault → ⊥
not_refused site files bytes LogLost holds refuses = refuses holds.header
not_refused site files bytes (BadRecord number) holds refuses = ⊎_elim
    (λ front. front.none (mark_of files) (front_held site files bytes holds))
    (λ bad. bad_not bad.mark bad.file bad.slot (one_stands bad.mark (mark_of files) (record_at 4096 bytes) bad.front.fits (fit_mark files holds.fits) bad.front.stands holds.mark) bad.first)
    refuses.1
  where
    bad_not : (mark : LogMark) (file slot : ℕ) → mark ≡ mark_of files → IsFirstBad mark bytes file slot → ⊥
    bad_not mark file slot same first =
        let here : IsFirstBad (mark_of files) bytes file slot = subst (λ (m : LogMark). IsFirstBad m bytes file slot) same first in
        here.bad (slots_held site files bytes holds file slot here.held)
not_refused site files bytes Failed holds refuses = refuses
not_refused site files bytes OutOfMemory holds refuses = refuses

-- one refusal

same_place : (mark : LogMark) (bytes : List ℕ) (f s g t : ℕ) → IsFirstBad mark bytes f s → IsFirstBad mark bytes g t → 256 * (f % 8) + s ≡ 256 * (g % 8) + t
same_place mark bytes f s g t a b = elim (cases_order f g) [
  | inl same ↦ elim (cases_order s t) [
    | inl alike ↦ ap (λ (k : ℕ). 256 * (k % 8) + s) same ∙ ap (λ (k : ℕ). 256 * (g % 8) + k) alike
    | inr (inl before) ↦ absurd (a.bad (b.before f s a.held (inr (same, before))))
    | inr (inr after) ↦ absurd (b.bad (a.before g t b.held (inr (sym same, after))))
  ]
  | inr (inl before) ↦ absurd (a.bad (b.before f s a.held (inl before)))
  | inr (inr after) ↦ absurd (b.bad (a.before g t b.held (inl after)))
]

same_number : (bytes : List ℕ) (m n : ℕ) → IsBadFront bytes m ⊎ IsBadSlot bytes m → IsBadFront bytes n ⊎ IsBadSlot bytes n → m ≡ n
same_number bytes m n a b = ⊎_elim
    (λ (front : IsBadFront bytes m). ⊎_elim
    (λ (other : IsBadFront bytes n). front.number_is ∙ sym other.number_is)
    (λ (slot : IsBadSlot bytes n). absurd (front.none slot.mark slot.front)) b)
    (λ (slot : IsBadSlot bytes m). ⊎_elim
    (λ (front : IsBadFront bytes n). absurd (front.none slot.mark slot.front))
    (λ (other : IsBadSlot bytes n). both slot other) b)
    a
  where
    both : IsBadSlot bytes m → IsBadSlot bytes n → m ≡ n
    both one other =
        let same = one_stands other.mark one.mark (record_at 4096 bytes) other.front.fits one.front.fits other.front.stands one.front.stands in
        one.number_is ∙ same_place one.mark bytes one.file one.slot other.file other.slot one.first (subst (λ (k : LogMark). IsFirstBad k bytes other.file other.slot) same other.first) ∙ sym other.number_is

pub one_refusal : (site : ℕ) (bytes : List ℕ) (a b : LogFault) → Refuses site bytes a → Refuses site bytes b → a ≡ b
one_refusal site bytes LogLost LogLost ra rb = refl
one_refusal site bytes LogLost (BadRecord n) ra rb = absurd (ra rb.0)
one_refusal site bytes (BadRecord m) LogLost ra rb = absurd (rb ra.0)
one_refusal site bytes (BadRecord m) (BadRecord n) ra rb = ap BadRecord (same_number bytes m n ra.1 rb.1)
one_refusal site bytes Failed b ra rb = absurd ra
one_refusal site bytes OutOfMemory b ra rb = absurd ra
one_refusal site bytes LogLost Failed ra rb = absurd rb
one_refusal site bytes LogLost OutOfMemory ra rb = absurd rb
one_refusal site bytes (BadRecord m) Failed ra rb = absurd rb
one_refusal site bytes (BadRecord m) OutOfMemory ra rb = absurd rb

-- one log

one_list : (file fa fb : ℕ) (qs rs : List History) (bytes : List ℕ) → length qs ≡ length rs → FitAll fa qs → FitAll fb rs → HoldFiles file qs bytes → HoldFiles file rs bytes → qs ≡ rs
one_list file fa fb [] [] bytes same fita fitb a b = refl
one_list file fa fb [] (y ∷ ys) bytes same fita fitb a b = absurd (omega (arith, same))
one_list file fa fb (x ∷ xs) [] bytes same fita fitb a b = absurd (omega (arith, same))
one_list file fa fb (x ∷ xs) (y ∷ ys) bytes same fita fitb a b =
    let heads : x ≡ y = one_history x y fita.0.records fitb.0.records (sym a.0.slots ∙ b.0.slots) in
    let tails : xs ≡ ys = one_list (file + 1) (fa + length x) (fb + length y) xs ys bytes (omega (arith, same)) fita.1 fitb.1 a.1 b.1 in
    rw (heads, tails) refl

one_split : (qs rs : List History) (x y : History) → length qs ≡ length rs → qs ++ x ∷ [] ≡ rs ++ y ∷ [] → (qs ≡ rs) × (x ≡ y)
one_split [] [] x y same is = (refl, cc is)
one_split [] (b ∷ rs) x y same is = absurd (omega (arith, same))
one_split (a ∷ qs) [] x y same is = absurd (omega (arith, same))
one_split (a ∷ qs) (b ∷ rs) x y same is =
    let rest = one_split qs rs x y (omega (arith, same)) (tails is) in
    let first : a ≡ b = heads is in
    (ap (λ (k : History). k ∷ qs) first ∙ ap (λ (l : List History). b ∷ l) rest.0, rest.1)
  where
    heads : {u v : History} {us vs : List History} → u ∷ us ≡ v ∷ vs → u ≡ v
    heads e = cc e

    tails : {u v : History} {us vs : List History} → u ∷ us ≡ v ∷ vs → us ≡ vs
    tails e = cc e

same_files : (a b : LogFiles) → a.oldest ≡ b.oldest → a.first ≡ b.first → a.before ≡ b.before → a.past ≡ b.past → a.current ≡ b.current → a.is_closed ≡ b.is_closed → a.backed ≡ b.backed → a ≡ b
same_files a b e1 e2 e3 e4 e5 e6 e7 = rw (e1, e2, e3, e4, e5, e6, e7) refl

pub one_ring : (site : ℕ) (a b : LogFiles) (bytes : List ℕ) → HoldsRing site a bytes → HoldsRing site b bytes → a ≡ b
one_ring site a b bytes ha hb =
    let same : mark_of a ≡ mark_of b = one_stands (mark_of a) (mark_of b) (record_at 4096 bytes) (fit_mark a ha.fits) (fit_mark b hb.fits) ha.mark hb.mark in
    let oldest : a.oldest ≡ b.oldest = ap (λ (m : LogMark). m.oldest) same in
    let count : length a.past ≡ length b.past = omega (arith, ap (λ (m : LogMark). m.current) same, oldest) in
    let first : a.first ≡ b.first =
    sym (first_is a ha.fits) ∙ ap (λ (m : LogMark). first_at m a.oldest) same ∙ ap (first_at (mark_of b)) oldest ∙ first_is b hb.fits in
    let all = one_list a.oldest a.first b.first (a.past ++ a.current ∷ []) (b.past ++ b.current ∷ []) bytes
    (omega (arith, count, length-append a.past (a.current ∷ []), length-append b.past (b.current ∷ []))) (fit_all a ha.fits) (fit_all b hb.fits)
    (all_held site a bytes ha) (subst (λ (k : ℕ). HoldFiles k (b.past ++ b.current ∷ []) bytes) (sym oldest) (all_held site b bytes hb)) in
    let parts = one_split a.past b.past a.current b.current count all in
    same_files a b oldest first (ap (λ (m : LogMark). m.before) same) parts.0 parts.1 (ap (λ (m : LogMark). m.is_closed) same) (ap (λ (m : LogMark). m.backed_up_to) same)
