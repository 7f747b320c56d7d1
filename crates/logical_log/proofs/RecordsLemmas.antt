-- The records of a file, read from a disk that holds it.
use Rattle.std.specs.Prelude.{Result, Ok, Err, IfOk, IfErr, OnOk, IsErrOf}
use Rattle.std.proofs.Common.{◌≡◌, ℕ, zero, suc, ◌+◌, ◌-◌, ◌*◌, ◌<◌, ◌≤◌, List, [], ◌∷◌, ◌++◌, length, take, get_or, refl, arith, ap, sym, subst, ◌∙◌, length-append}
use Rattle.std.specs.List.{flat_map}
use Rattle.log_history.specs.History.{History}
use Rattle.log_record.specs.Layout.{spelling}
use Rattle.log_record.specs.Entry.{history_of}
use Rattle.site_disk.specs.Bytes.{extent}
use Rattle.log_files.specs.Files.{LogFiles, AreFiles, FitFile, count_in, current_id, records_from, records_of}
use Rattle.log_files.specs.Ring.{area_of, HoldsFile, HoldFiles, HoldsRing}
use Rattle.log_files.specs.RingLaws.{hold_append}
use Rattle.log_files.specs.Answers.{IsFailure}
use Rattle.log_files.specs.declared.faults.LogFault.{LogFault}
use Rattle.log_files.specs.declared.faults.LogFault.TheVariants.{LogLost, BadRecord, Failed, OutOfMemory}
use Rattle.log_scan.specs.Slots.{StopsIn}
use Rattle.log_scan.specs.Refusals.{IsNotLost}
use Rattle.log_scan.proofs.SlotLemmas.{one_history, stands_each}
use Rattle.log_scan.proofs.FilesLemmas.{FitAll, fit_all}
use Rattle.site_disk.specs.Images.{Seen, Unchanged}
use Rattle.twin_mark.specs.Marks.{Knows}
use Rattle.logical_log.specs.Rings.{Stands, with_disk}
use Rattle.logical_log.specs.declared.ring.LogRing.{LogRing}
use Rattle.logical_log.specs.Records.{IsFirstOf, IsPlaced}
use Rattle.logical_log.proofs.PlacesLemmas.{records_at}

hold_at : (id : ℕ) (xs : List History) (bytes : List ℕ) (i : ℕ) → HoldFiles id xs bytes → i < length xs → HoldsFile (id + i) (get_or xs i []) bytes
hold_at id [] bytes i holds lt = absurd (omega (arith, lt))
hold_at id (x ∷ xs) bytes zero holds lt = subst (λ (k : ℕ). HoldsFile k x bytes) (omega arith) holds.0
hold_at id (x ∷ xs) bytes (suc i) holds lt =
    subst (λ (k : ℕ). HoldsFile k (get_or xs i []) bytes) (omega arith) (hold_at (id + 1) xs bytes i holds.1 (omega (arith, lt)))

fit_at : (first : ℕ) (xs : List History) (i : ℕ) → FitAll first xs → i < length xs → FitFile (first + count_in (take i xs)) (get_or xs i [])
fit_at first [] i fits lt = absurd (omega (arith, lt))
fit_at first (x ∷ xs) zero fits lt = subst (λ (k : ℕ). FitFile k x) (omega arith) fits.0
fit_at first (x ∷ xs) (suc i) fits lt = subst (λ (k : ℕ). FitFile k (get_or xs i [])) (omega arith) (fit_at (first + length x) xs i fits.1 (omega (arith, lt)))

module _ (site : ℕ) (files : LogFiles) (bytes : List ℕ) (holds : HoldsRing site files bytes) (file first count : ℕ) (placed : IsPlaced files file first count) where
  abbrev xs : List History
  xs = files.past ++ files.current ∷ []

  abbrev i : ℕ
  i = file - files.oldest

  at : files.oldest + i ≡ file
  at = omega (arith, placed.begins.oldest)

  lt : i < length xs
  lt = omega (arith, placed.begins.oldest, placed.begins.current, length-append files.past (files.current ∷ []))

  entries_are : get_or xs i [] ≡ records_of files file
  entries_are = sym (ap (records_from files.oldest xs) (sym at) ∙ records_at files.oldest xs i lt)

  there : HoldsFile file (records_of files file) bytes
  there =
      subst (λ (l : History). HoldsFile file l bytes) entries_are
      (subst (λ (k : ℕ). HoldsFile k (get_or xs i []) bytes) at (hold_at files.oldest xs bytes i (hold_append files.oldest files.past files.current bytes holds.past holds.current) lt))

  fit_there : FitFile first (records_of files file)
  fit_there =
      subst (λ (l : History). FitFile first l) entries_are (subst (λ (k : ℕ). FitFile k (get_or xs i [])) (sym placed.begins.first_is) (fit_at files.first xs i (fit_all files holds.fits) lt))

  spelled_there : extent (area_of file).slots (128 * length (records_of files file)) bytes ≡ flat_map spelling (records_of files file)
  spelled_there = ap (λ (n : ℕ). extent (area_of file).slots (128 * n) bytes) (sym there.used) ∙ there.slots

  pub same_records : (entries : History) → FitFile first entries → extent (area_of file).slots (128 * count) bytes ≡ flat_map spelling entries → entries ≡ records_of files file
  same_records entries fits spelled =
      one_history entries (records_of files file) fits.records fit_there.records
      (sym spelled ∙ ap (λ (n : ℕ). extent (area_of file).slots (128 * n) bytes) placed.counted ∙ spelled_there)

  pub no_stop : (number : ℕ) → StopsIn first file count bytes number → ⊥
  no_stop number stops = stops.bad (stands_each first file bytes (records_of files file) stops.slot fit_there spelled_there (omega (arith, stops.within, placed.counted)))

  failure_of : (fault : LogFault) → IsNotLost fault → ((number : ℕ) → fault ≡ BadRecord number → ⊥) → IsFailure fault
  failure_of LogLost only bad = only
  failure_of (BadRecord number) only bad = bad number refl
  failure_of Failed only bad = tt
  failure_of OutOfMemory only bad = tt

  pub only_failures : {T : Type 0} (result : Result T LogFault) → IfErr result IsNotLost → ((number : ℕ) → IsErrOf result (BadRecord number) → StopsIn first file count bytes number) → IfErr result IsFailure
  only_failures (Ok x) only bad = tt
  only_failures (Err fault) only bad = failure_of fault only (λ number is. no_stop number (bad number (ap (λ (f : LogFault). Err f) is)))

-- few records are in each file
pub few_records : (files : LogFiles) → AreFiles files → (file first count : ℕ) → IsPlaced files file first count → count ≤ 256
few_records files fits file first count placed =
    let all : List History = files.past ++ files.current ∷ [] in
    let k : ℕ = file - files.oldest in
    let within : k < length all = omega (arith, placed.begins.oldest, placed.begins.current, length-append files.past (files.current ∷ [])) in
    let is : records_of files file ≡ get_or all k [] =
    ap (records_from files.oldest all) (let e : file ≡ files.oldest + k = omega (arith, placed.begins.oldest) in e) ∙ records_at files.oldest all k within in
    omega (arith, placed.counted, ap (λ (l : History). length l) is, (fit_at files.first all k (fit_all files fits) within).few)

pub both_if_ok : {T E : Type 0} {P Q R : T → Type 0} (result : Result T E) → ((x : T) → P x → Q x → R x) → IfOk result P → IfOk result Q → IfOk result R
both_if_ok (Ok x) means p q = means x p q
both_if_ok (Err e) means p q = tt

-- a log stands still where its disk is as before
pub still : {T E D : Type 0} (result : Result T E) (site : ℕ) (files : LogFiles) (old new : Seen) (ring : LogRing D) (disk : D) → Stands site files old ring → old.last ≤ new.last
    → OnOk result (new.bytes ≡ old.bytes) → OnOk result (Unchanged old.images new.images) → OnOk result (Stands site files new (with_disk ring disk))
still (Ok x) site files old new ring disk stands le same images = record {
  made = record { mark = stands.made.mark };
  tells = record { fits = stands.tells.fits; held = stands.tells.held; area = stands.tells.area; used = stands.tells.used };
  knows = subst (Knows ring.mark) (sym same) stands.knows;
  synced = λ f c lt image. stands.synced f c (omega (arith, le, lt)) (images.back f c image) ∙ sym same;
  now = subst (HoldsRing site files) (sym same) stands.now;
}
still (Err e) site files old new ring disk stands le same images = tt
