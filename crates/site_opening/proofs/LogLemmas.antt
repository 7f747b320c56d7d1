-- The log opened, step by step.
use Rattle.std.proofs.Common.{◌≡◌, ◌⊎◌, ℕ, IsTrue, List, None, inl, inr, refl, sym, subst, ◌∙◌, arith, ⊎_elim}
use Rattle.log_history.specs.Transactions.{Table}
use Rattle.log_files.specs.Answers.{FailsOn, IsFailure as IsLogFailure}
use Rattle.log_files.specs.Files.{LogFiles}
use Rattle.log_files.specs.Ring.{HoldsRing}
use Rattle.log_files.specs.declared.faults.LogFault.{LogFault}
use Rattle.log_files.specs.declared.faults.LogFault.TheVariants.{LogLost as LostLog, BadRecord as BadSlot, Failed, OutOfMemory as NoMemory}
use Rattle.log_scan.specs.Refusals.{IsDecided, Refuses}
use Rattle.logical_log.specs.Rings.{disk_of, IsMade, IsOpen, Stands}
use Rattle.logical_log.specs.declared.ring.LogRing.{LogRing}
use Rattle.held_log.specs.Answers.{IsRefusal as IsHeldRefusal}
use Rattle.held_log.specs.Logs.{table_held}
use Rattle.held_log.specs.Strays.{FirstStray, first_stray}
use Rattle.held_log.specs.declared.faults.HeldFault.{HeldFault}
use Rattle.held_log.specs.declared.faults.HeldFault.TheVariants.{OutOfMemory as NoHeldMemory, Failed as HeldFailed, BadRecord as BadHeld}
use Rattle.site_disk.specs.Bytes.{Same}
use Rattle.site_disk.specs.CallsLaws.{uses_more}
use Rattle.site_disk.specs.Causes.{Rose}
use Rattle.site_disk.specs.Images.{Leaves, OnlyAfter, Unchanged}
use Rattle.site_disk.specs.Ledger.{EraView, Uses}
use Rattle.site_disk.specs.Seen.{seen}
use Rattle.site_disk.specs.declared.disk.Disk.{Ghosts}
use Rattle.site_model.specs.declared.disk_name.DiskName.{DiskName}
use Rattle.site_model.specs.declared.disk_name.DiskName.TheVariants.{Log}
use Rattle.site_core.specs.Checkpoints.{of_held}
use Rattle.site_openings.specs.Openings.{IsOfDisks}
use Rattle.site_core.specs.Faults.{IsFailure, of_log, status_in}
use Rattle.site_core.specs.declared.faults.SiteFault.{SiteFault}
use Rattle.site_core.specs.declared.faults.SiteFault.TheVariants.{DiskFault}
use Rattle.site_opening.specs.Steps.{ReadsDisk}
use Rattle.site_opening.specs.LogSteps.{HasStray, MissesLog, OpensLog, RefusesRing}
use Rattle.site_opening.proofs.ReadLemmas.{reads_again}

-- ---- faults of the log, and of its records

ring_failure : (own : LogFault) → IsLogFailure own → IsFailure (of_log own)
ring_failure LostLog is = absurd is
ring_failure (BadSlot slot) is = absurd is
ring_failure Failed is = tt
ring_failure NoMemory is = tt

ring_only : (own : LogFault) → IsFailure (of_log own) ⊎ IsOfDisks (status_in (of_log own))
ring_only LostLog = inr tt
ring_only (BadSlot slot) = inr tt
ring_only Failed = inl tt
ring_only NoMemory = inl tt

ring_failed : (own : LogFault) (before now : ℕ) (name : DiskName) → FailsOn before now own → of_log own ≡ DiskFault name → (name ≡ Log) × Rose before now
ring_failed LostLog before now name fails e = absurd (let no : ⊥ = cc in no)
ring_failed (BadSlot slot) before now name fails e = absurd (let no : ⊥ = cc in no)
ring_failed Failed before now name fails e = let same : name ≡ Log = cc in (same, fails)
ring_failed NoMemory before now name fails e = absurd (let no : ⊥ = cc in no)

ring_decided : (own : LogFault) → (IsFailure (of_log own) → ⊥) → IsDecided own
ring_decided LostLog none = tt
ring_decided (BadSlot slot) none = tt
ring_decided Failed none = none tt
ring_decided NoMemory none = none tt

held_failed : (own : HeldFault) (before now : ℕ) (name : DiskName) → (own ≡ HeldFailed → Rose before now) → of_held own ≡ DiskFault name → (name ≡ Log) × Rose before now
held_failed NoHeldMemory before now name rose e = absurd (let no : ⊥ = cc in no)
held_failed HeldFailed before now name rose e = let same : name ≡ Log = cc in (same, rose refl)
held_failed (BadHeld slot) before now name rose e = absurd (let no : ⊥ = cc in no)

held_only : (own : HeldFault) → IsFailure (of_held own) ⊎ IsOfDisks (status_in (of_held own))
held_only NoHeldMemory = inl tt
held_only HeldFailed = inl tt
held_only (BadHeld slot) = inr tt

held_decided : (own : HeldFault) → (IsFailure (of_held own) → ⊥) → IsHeldRefusal own
held_decided NoHeldMemory none = none tt
held_decided HeldFailed none = none tt
held_decided (BadHeld slot) none = tt

held_bad : (site : ℕ) (bytes : List ℕ) (files : LogFiles) (own : HeldFault) → HoldsRing site files bytes → ((slot : ℕ) → own ≡ BadHeld slot → FirstStray files slot)
    → IsFailure (of_held own) ⊎ (RefusesRing site bytes (of_held own) ⊎ HasStray site bytes (of_held own))
held_bad site bytes files NoHeldMemory holds first = inl tt
held_bad site bytes files HeldFailed holds first = inl tt
held_bad site bytes files (BadHeld slot) holds first = inr (inr (record { files = files; holds = holds; slot = slot; first = first slot refl; fault_is = refl }))

module _ {D : Type 0} (disk : Ghosts D) (era : EraView) (site : ℕ) (was mid : LogRing D) (crash : Leaves era.number Same (disk.image (disk_of was)) (disk.image (disk_of mid)))
    (ledger : Uses era 269056 0 (disk.ledger (disk_of was)) (disk.ledger (disk_of mid))) where
  -- ---- it isn't opened

  pub misses_ring : (own : LogFault) (fault : SiteFault) → fault ≡ of_log own → IsMade mid → (IsTrue disk.is_modelled → IsLogFailure own ⊎ Refuses site (disk.bytes (disk_of was)) own)
      → FailsOn (disk.ledger (disk_of was)).faults (disk.ledger (disk_of mid)).faults own → (IsDecided own → disk.bytes (disk_of mid) ≡ disk.bytes (disk_of was))
      → MissesLog disk era site fault was mid
  misses_ring own fault is made bad failed bytes = record {
    made = made;
    only = subst (λ (f : SiteFault). IsFailure f ⊎ IsOfDisks (status_in f)) (sym is) (ring_only own);
    reads = record { crash = crash; ledger = uses_more ledger (omega arith) (omega arith) };
    bad = λ tells. subst (λ (f : SiteFault). IsFailure f ⊎ (RefusesRing site (disk.bytes (disk_of was)) f ⊎ HasStray site (disk.bytes (disk_of was)) f)) (sym is)
        (⊎_elim (λ fails. inl (ring_failure own fails)) (λ (refuses : Refuses site (disk.bytes (disk_of was)) own). inr (inl (record { own = own; refuses = refuses; fault_is = refl }))) (bad tells));
    failed = λ name e. ring_failed own (disk.ledger (disk_of was)).faults (disk.ledger (disk_of mid)).faults name failed (sym is ∙ e);
    bytes = λ none. bytes (ring_decided own (subst (λ (f : SiteFault). IsFailure f → ⊥) is none));
  }

  -- ---- it is, and its records are read

  module _ (is : LogRing D) (opened : IsOpen is) (crash_too : Leaves era.number Same (disk.image (disk_of mid)) (disk.image (disk_of is)))
      (ledger_too : Uses era 262144 0 (disk.ledger (disk_of mid)) (disk.ledger (disk_of is))) (bytes : disk.bytes (disk_of mid) ≡ disk.bytes (disk_of was))
      (stands : IsTrue disk.is_modelled → (files : LogFiles) × Stands site files (seen disk (disk_of mid)) mid) where
    both : ReadsDisk disk era 531200 (disk_of was) (disk_of is)
    both = reads_again disk era 269056 262144 531200 (disk_of was) (disk_of mid) (disk_of is) (record { crash = crash; ledger = ledger }) (record { crash = crash_too; ledger = ledger_too }) (omega arith)

    pub misses_records : (own : HeldFault) (fault : SiteFault) → fault ≡ of_held own
        → (IsTrue disk.is_modelled → (files : LogFiles) (slot : ℕ) → Stands site files (seen disk (disk_of mid)) mid → own ≡ BadHeld slot → FirstStray files slot)
        → (own ≡ HeldFailed → Rose (disk.ledger (disk_of mid)).faults (disk.ledger (disk_of is)).faults) → (IsHeldRefusal own → disk.bytes (disk_of is) ≡ disk.bytes (disk_of mid))
        → MissesLog disk era site fault was is
    misses_records own fault same stray failed kept = record {
      made = opened.made;
      only = subst (λ (f : SiteFault). IsFailure f ⊎ IsOfDisks (status_in f)) (sym same) (held_only own);
      reads = both;
      bad = λ tells. subst (λ (f : SiteFault). IsFailure f ⊎ (RefusesRing site (disk.bytes (disk_of was)) f ⊎ HasStray site (disk.bytes (disk_of was)) f)) (sym same)
          (held_bad site (disk.bytes (disk_of was)) (stands tells).0 own (subst (HoldsRing site (stands tells).0) bytes (stands tells).1.now)
          (λ slot e. stray tells (stands tells).0 slot (stands tells).1 e));
      failed = λ name e.
          let found = held_failed own (disk.ledger (disk_of mid)).faults (disk.ledger (disk_of is)).faults name failed (sym same ∙ e) in
          (found.0, omega (arith, found.1, ledger.faults));
      bytes = λ none. kept (held_decided own (subst (λ (f : SiteFault). IsFailure f → ⊥) same none)) ∙ bytes;
    }

    pub opens_records : (running : Table) → (IsTrue disk.is_modelled → OnlyAfter era.number (disk.bytes (disk_of mid)) (disk.image (disk_of mid)))
        → (IsTrue disk.is_modelled → (files : LogFiles) → Stands site files (seen disk (disk_of mid)) mid → running ≡ table_held files)
        → (IsTrue disk.is_modelled → (files : LogFiles) → Stands site files (seen disk (disk_of mid)) mid → first_stray files ≡ None)
        → (IsTrue disk.is_modelled → (files : LogFiles) → Stands site files (seen disk (disk_of mid)) mid → Stands site files (seen disk (disk_of is)) is)
        → disk.bytes (disk_of is) ≡ disk.bytes (disk_of mid) → Unchanged (disk.image (disk_of mid)) (disk.image (disk_of is))
        → OpensLog disk era site running was is
    opens_records running durable table order later same images = record {
      opened = opened;
      reads = both;
      stands = λ tells.
          let there = stands tells in
          record { files = there.0; stands = later tells there.0 there.1; table = table tells there.0 there.1; order = order tells there.0 there.1 };
      durable = λ tells f c after image. durable tells f c after (images.back f c image) ∙ sym same;
      bytes = same ∙ bytes;
    }
