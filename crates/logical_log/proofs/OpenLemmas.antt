-- A log that was read is open.
use Rattle.std.specs.Prelude.{Result, Ok, Err, IfErr, OnOk}
use Rattle.std.proofs.Common.{◌≡◌, ◌⊎◌, ℕ, ◌≤◌, List, sym, subst, inl, inr, ⊎_elim}
use Rattle.site_disk.specs.Images.{Seen, OnlyAfter}
use Rattle.site_disk.specs.SeenLaws.{CountsOn}
use Rattle.twin_mark.specs.Marks.{Knows}
use Rattle.log_files.specs.Files.{LogFiles}
use Rattle.log_files.specs.Ring.{HoldsRing}
use Rattle.log_files.specs.Answers.{IsFailure}
use Rattle.log_files.specs.declared.faults.LogFault.{LogFault}
use Rattle.log_scan.specs.declared.reading.Found.{Found}
use Rattle.log_scan.specs.Refusals.{Refuses}
use Rattle.log_scan.specs.Scans.{FoundOf, IsFound, IsFoundOn}
use Rattle.log_scan.proofs.LawLemmas.{not_refused, one_refusal, one_ring}
use Rattle.logical_log.specs.Rings.{IsMade, TellsOf, IsOpen, Stands}
use Rattle.logical_log.specs.declared.ring.LogRing.{LogRing}
use Rattle.logical_log.proofs.StandsLemmas.{stands_of}

module _ {D : Type 0} (ring : LogRing D) (found : Found) where
  abbrev read : LogRing D
  read = record ring { mark = found.mark; slots = found.slots; held = found.held }

  found_told : (files : LogFiles) → FoundOf files found → TellsOf files read
  found_told files told = record { fits = told.fits; held = told.tells; area = told.area; used = told.used }

  pub found_open : IsFound found → IsOpen read
  found_open is = record { made = record { mark = is.told.base }; files = is.files; tells = found_told is.files is.told }

  pub found_stands : (site : ℕ) (bytes : List ℕ) (e : ℕ) (disk : Seen) (is : IsFoundOn site bytes found) → disk.bytes ≡ bytes → CountsOn disk → disk.last ≤ e
      → OnlyAfter e disk.bytes disk.images → Stands site is.files disk read
  found_stands site bytes e disk is same counts le only =
      stands_of site is.files e disk read (record { mark = is.told.base }) (found_told is.files is.told) (subst (Knows found.mark) (sym same) is.knows) counts le only
      (subst (HoldsRing site is.files) (sym same) is.holds)

  pub these_stand : (site : ℕ) (bytes : List ℕ) (e : ℕ) (disk : Seen) (is : IsFoundOn site bytes found) (files : LogFiles) → disk.bytes ≡ bytes → CountsOn disk → disk.last ≤ e
      → OnlyAfter e disk.bytes disk.images → HoldsRing site files bytes → Stands site files disk read
  these_stand site bytes e disk is files same counts le only holds =
      subst (λ (f : LogFiles). Stands site f disk read) (one_ring site is.files files bytes is.holds holds) (found_stands site bytes e disk is same counts le only)

-- why it wasn't read
pub failed_only : (site : ℕ) (bytes : List ℕ) (files : LogFiles) (fault : LogFault) → HoldsRing site files bytes → IsFailure fault ⊎ Refuses site bytes fault → IsFailure fault
failed_only site bytes files fault holds why = ⊎_elim (λ failure. failure) (λ refuses. absurd (not_refused site files bytes fault holds refuses)) why

pub refused_so : (site : ℕ) (bytes : List ℕ) (fault other : LogFault) → Refuses site bytes fault → IsFailure other ⊎ Refuses site bytes other → IsFailure other ⊎ (other ≡ fault)
refused_so site bytes fault other refuses why = ⊎_elim (λ failure. inl failure) (λ again. inr (one_refusal site bytes other fault again refuses)) why
