-- A site whose log was opened: what it stands for, and what refuses it.
use Rattle.std.proofs.Common.{◌≡◌, ◌⊎◌, ℕ, ◌<◌, ◌≤◌, IsTrue, List, Option, None, Some, inl, inr, refl, sym, ap, subst, ◌∙◌, arith, ⊎_elim}
use Rattle.std.specs.Prelude.{slice_get}
use Rattle.std.specs.Option.{option_map}
use Rattle.log_history.specs.History.{History}
use Rattle.log_history.specs.Transactions.{Table, table_of}
use Rattle.log_files.specs.Files.{LogFiles}
use Rattle.log_files.specs.Ring.{HoldsRing}
use Rattle.log_files.specs.declared.faults.LogFault.{LogFault}
use Rattle.log_files.specs.declared.faults.LogFault.TheVariants.{LogLost as LostLog, BadRecord as BadSlot, Failed, OutOfMemory as NoMemory}
use Rattle.log_scan.specs.Refusals.{Refuses}
use Rattle.log_scan.proofs.LawLemmas.{not_refused, one_ring}
use Rattle.logical_log.specs.Rings.{disk_of as log_disk, IsMade as IsMadeLog, Stands as LogStands}
use Rattle.logical_log.specs.declared.ring.LogRing.{LogRing}
use Rattle.held_log.specs.Logs.{table_held}
use Rattle.held_log.specs.Strays.{first_stray}
use Rattle.held_site.specs.HeldLaws.{site_table}
use Rattle.held_site.specs.StrayLaws.{none_stray}
use Rattle.ring_laws.specs.Rings.{files_of}
use Rattle.site_disk.specs.Causes.{Rose}
use Rattle.site_disk.specs.Ledger.{EraView}
use Rattle.site_disk.specs.Seen.{seen}
use Rattle.site_disk.specs.declared.disk.Disk.{Ghosts}
use Rattle.site_headers.specs.Heads.{Head}
use Rattle.object_volume.specs.Volumes.{disk_of as volume_disk}
use Rattle.space_lane.specs.Lanes.{disk_of as lane_disk}
use Rattle.site_model.specs.declared.disk_name.DiskName.{DiskName}
use Rattle.site_model.specs.declared.disk_name.DiskName.TheVariants.{Cat, Spare, Boot as TheBoot, Log, Volume as TheVolume, Chunk}
use Rattle.site_worlds.specs.Worlds.{Ring}
use Rattle.site_worlds.specs.Allowed.{HasRing}
use Rattle.site_worlds.specs.Fitness.{IsFitSite}
use Rattle.site_layouts.specs.Disks.{IsOpened}
use Rattle.site_layouts.specs.Rings.{ShowsRing}
use Rattle.site_layouts.specs.Stages.{HeldSite, ShowsHeld, StandsFor}
use Rattle.site_openings.specs.Openings.{AllowedBy, Allows, Named, RefusedBy, good_log, log_status}
use Rattle.site_core.specs.Agreements.{LogAgrees}
use Rattle.site_core.specs.Disks.{contents_of, faults_on, images_of, MayUseAll}
use Rattle.site_core.specs.Faults.{IsFailure, of_log, status_in}
use Rattle.site_core.specs.Layers.{layers}
use Rattle.site_core.specs.Made.{IsMadeSite}
use Rattle.site_core.specs.Quiet.{OnlyReads, ReadsSame}
use Rattle.site_core.specs.declared.faults.SiteFault.{SiteFault}
use Rattle.site_core.specs.declared.faults.SiteFault.TheVariants.{LogLost}
use Rattle.site_core.specs.declared.site.Site.{Site}
use Rattle.site_opening.specs.LogSteps.{HasStray, MissesLog, OpensLog, RefusesRing, StandsInOrder}
use Rattle.site_opening.specs.Opens.{log_bytes, log_checks}
use Rattle.site_opening.specs.Steps.{ReadsDisk}
use Rattle.site_opening.proofs.ReadLemmas.{ReadsOr, by_name, only_reads, reads_none, reads_or_none}

-- ---- by the bytes of the disks

module _ (site : ℕ) (bytes : List ℕ) where
  -- files are held where the log isn't lost
  no_log_lost : (files : LogFiles) (starts : List ℕ) (ring : Option Ring) (history : History) → HoldsRing site files bytes → ShowsRing site starts history ring bytes
      → (there : Ring) × (ring ≡ Some there) × (files ≡ files_of starts history there)
  no_log_lost files starts None history holds shows = absurd (shows holds.header)
  no_log_lost files starts (Some there) history holds shows = (there, refl, one_ring site files (files_of starts history there) bytes holds shows)

  -- a log that shows files is refused by no bytes
  refused_lost : (own : LogFault) (starts : List ℕ) (ring : Option Ring) (history : History) → Refuses site bytes own → ShowsRing site starts history ring bytes → (of_log own ≡ LogLost) × (ring ≡ None)
  refused_lost LostLog starts None history refuses shows = (refl, refl)
  refused_lost (BadSlot slot) starts None history refuses shows = absurd (shows refuses.0)
  refused_lost Failed starts None history refuses shows = absurd refuses
  refused_lost NoMemory starts None history refuses shows = absurd refuses
  refused_lost own starts (Some there) history refuses shows = absurd (not_refused site (files_of starts history there) bytes own shows refuses)

status_of : (own : LogFault) → (site : ℕ) (bytes : List ℕ) → Refuses site bytes own → log_status own (status_in (of_log own))
status_of LostLog site bytes refuses = refl
status_of (BadSlot slot) site bytes refuses = refl
status_of Failed site bytes refuses = refuses
status_of NoMemory site bytes refuses = refuses

module _ {D : Type 0} (disk : Ghosts D) (was : Site D) (tells : IsTrue disk.is_modelled) (head : Head) (log : LogRing D) where
  named_log : Named head (contents_of disk was) → (files : LogFiles) → HoldsRing head.site files (contents_of disk was Log) → Allows good_log (contents_of disk was)
  named_log named files holds = (head, named, (files, holds))

  module _ (era : EraView) (running : Table) (opens : OpensLog disk era head.site running was.log log) where
    found : StandsInOrder disk head.site running log
    found = opens.stands tells

    held : HoldsRing head.site found.files (contents_of disk was Log)
    held = subst (HoldsRing head.site found.files) opens.bytes found.stands.now

    pub log_allowed : Named head (contents_of disk was) → AllowedBy log_checks (contents_of disk was)
    log_allowed named = (named_log named found.files held, ((head, named, (found.files, held, found.order)), tt))

    -- ---- a site

    module _ (at : HeldSite) (from : ℕ) (later : era.number < from) (stands : StandsFor (layers disk) 1 from was at) (heads : head ≡ at.site.head) (shows : ShowsHeld Log at (contents_of disk was Log)) where
      ring_there : (there : Ring) × (at.site.ring ≡ Some there) × (found.files ≡ files_of at.site.starts at.site.history there)
      ring_there = no_log_lost at.site.head.site (contents_of disk was Log) found.files at.site.starts at.site.ring at.site.history
          (subst (λ (h : Head). HoldsRing h.site found.files (contents_of disk was Log)) heads held) shows

      pub table_is : at.site.active ≡ None → running ≡ table_of at.site.history
      table_is none = found.table ∙ ap table_held ring_there.2 ∙ site_table at.site ring_there.0 ring_there.1 none stands.fits

      log_stands : (there : Ring) → at.site.ring ≡ Some there → LogStands at.site.head.site (files_of at.site.starts at.site.history there) (seen disk (log_disk log)) log
      log_stands there is =
          let rings : ring_there.0 ≡ there = one_some at.site.ring ring_there.0 there ring_there.1 is in
          let files : found.files ≡ files_of at.site.starts at.site.history there = ring_there.2 ∙ ap (files_of at.site.starts at.site.history) rings in
          subst (λ (f : LogFiles). LogStands at.site.head.site f (seen disk (log_disk log)) log) files
          (subst (λ (h : Head). LogStands h.site found.files (seen disk (log_disk log)) log) heads found.stands)
        where
          one_some : (o : Option Ring) (a b : Ring) → o ≡ Some a → o ≡ Some b → a ≡ b
          one_some o a b first second = cc

      log_agrees : LogAgrees disk from at.site.head.site at.site.starts at.site.history at.site.ring log
      log_agrees = record { last = omega (arith, later, opens.reads.ledger.no_later); made = found.stands.made; stands = log_stands }

      clean : (f : ℕ) (name : DiskName) (bytes : List ℕ) → from ≤ f → IsOpened 2 name → images_of disk (record was { log = log }) f name bytes → ShowsHeld name at bytes
      clean f Cat bytes after opened image = stands.clean f Cat bytes after (omega arith) image
      clean f Spare bytes after opened image = stands.clean f Spare bytes after (omega arith) image
      clean f TheBoot bytes after opened image = stands.clean f TheBoot bytes after (omega arith) image
      clean f (TheVolume n) bytes after opened image = stands.clean f (TheVolume n) bytes after (omega arith) image
      clean f Log bytes after opened image = subst (ShowsHeld Log at) (sym (opens.durable tells f bytes (omega (arith, later, after)) image ∙ opens.bytes)) shows
      clean f (Chunk n) bytes after opened image = absurd (omega (arith, opened))

      pub site_stands : StandsFor (layers disk) 2 from (record was { log = log }) at
      site_stands = record {
        clean = clean;
        agree = record {
          store = stands.agree.store;
          boot = λ opened. stands.agree.boot (omega arith);
          log = λ opened. log_agrees;
          lanes = λ opened. absurd (omega (arith, opened));
        };
        fits = stands.fits;
      }

      pub has_ring : HasRing at.site
      has_ring = record { ring = ring_there.0; is = ring_there.1 }

  module _ (era : EraView) (fault : SiteFault) (misses : MissesLog disk era head.site fault was.log log) where
    pub log_refused : Named head (contents_of disk was) → IsFailure fault ⊎ RefusedBy log_checks (contents_of disk was) (status_in fault)
    log_refused named = ⊎_elim
        (λ fails. inl fails)
        (λ (others : RefusesRing head.site (contents_of disk was Log) fault ⊎ HasStray head.site (contents_of disk was Log) fault). ⊎_elim
        (λ (ring : RefusesRing head.site (contents_of disk was Log) fault).
        inr (inl (head, named, (ring.own, ring.refuses, subst (λ (f : SiteFault). log_status ring.own (status_in f)) (sym ring.fault_is) (status_of ring.own head.site (contents_of disk was Log) ring.refuses)))))
        (λ (stray : HasStray head.site (contents_of disk was Log) fault).
        inr (inr (named_log named stray.files stray.holds, inl (head, named, (stray.files, stray.holds, (stray.slot, stray.first, ap status_in stray.fault_is))))))
        others)
        (misses.bad tells)

    -- ---- a site

    module _ (at : HeldSite) (fits : IsFitSite at.site) (heads : head ≡ at.site.head) (shows : ShowsHeld Log at (contents_of disk was Log)) where
      by_ring : RefusesRing head.site (contents_of disk was Log) fault → (fault ≡ LogLost) × (at.site.ring ≡ None)
      by_ring ring =
          let lost = refused_lost at.site.head.site (contents_of disk was Log) ring.own at.site.starts at.site.ring at.site.history
          (subst (λ (h : Head). Refuses h.site (contents_of disk was Log) ring.own) heads ring.refuses) shows in
          (ring.fault_is ∙ lost.0, lost.1)

      no_stray : HasStray head.site (contents_of disk was Log) fault → ⊥
      no_stray stray =
          let there = no_log_lost at.site.head.site (contents_of disk was Log) stray.files at.site.starts at.site.ring at.site.history
          (subst (λ (h : Head). HoldsRing h.site stray.files (contents_of disk was Log)) heads stray.holds) shows in
          nothing (first_stray stray.files) stray.slot (ap first_stray there.2 ∙ none_stray at.site there.0 there.1 fits) stray.first
        where
          nothing : (o : Option ℕ) (slot : ℕ) → o ≡ None → o ≡ Some slot → ⊥
          nothing o slot first second = cc

      pub only_lost : IsFailure fault ⊎ ((fault ≡ LogLost) × (at.site.ring ≡ None))
      only_lost = ⊎_elim
          (λ fails. inl fails)
          (λ (others : RefusesRing head.site (contents_of disk was Log) fault ⊎ HasStray head.site (contents_of disk was Log) fault). ⊎_elim (λ ring. inr (by_ring ring)) (λ stray. absurd (no_stray stray)) others)
          (misses.bad tells)

-- ---- what stays

module _ {D : Type 0} (disk : Ghosts D) (was : Site D) (log : LogRing D) where
  pub log_made : IsMadeSite was → IsMadeLog log → IsMadeSite (record was { log = log })
  log_made made is = record { store = made.store; boot = made.boot; log = is; count = made.count; lanes = made.lanes }

  pub log_reads : (era : EraView) → ((it : D) (f g : ℕ) (c : List ℕ) → (disk.ledger it).last ≤ f → (disk.ledger it).last < g → disk.image it g c → disk.image it f c)
      → MayUseAll disk era was → ReadsDisk disk era 531200 (log_disk was.log) (log_disk log) → OnlyReads disk era log_bytes was (record was { log = log })
  log_reads era counts may reads = only_reads disk era counts log_bytes was (record was { log = log }) may
      (by_name (λ name. ReadsOr disk era (log_bytes name)) was (record was { log = log }) (reads_none disk era 0 _ (may Cat)) (reads_none disk era 0 _ (may Spare)) (reads_none disk era 0 _ (may TheBoot)) reads
      (λ n. reads_or_none disk era 0 (option_map volume_disk (slice_get was.store.volumes.items n)) (may (TheVolume n)))
      (λ n. reads_or_none disk era 0 (option_map lane_disk (slice_get was.lanes.items n)) (may (Chunk n))))

  pub log_same : disk.bytes (log_disk log) ≡ disk.bytes (log_disk was.log) → ReadsSame disk was (record was { log = log })
  log_same bytes Cat = refl
  log_same bytes Spare = refl
  log_same bytes TheBoot = refl
  log_same bytes Log = bytes
  log_same bytes (TheVolume n) = refl
  log_same bytes (Chunk n) = refl

  pub log_rose : (name : DiskName) → (name ≡ Log) × Rose (disk.ledger (log_disk was.log)).faults (disk.ledger (log_disk log)).faults
      → Rose (faults_on disk was name) (faults_on disk (record was { log = log }) name)
  log_rose name found = subst (λ (n : DiskName). Rose (faults_on disk was n) (faults_on disk (record was { log = log }) n)) (sym found.0) found.1
