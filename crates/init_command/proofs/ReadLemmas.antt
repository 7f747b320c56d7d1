-- What looking at its catalogue does to a site.
use Rattle.std.proofs.Common.{ℕ, ◌+◌, ◌*◌, ◌≤◌, List, arith}
use Rattle.site_disk.specs.CallsLaws.{may_use_again}
use Rattle.site_disk.specs.Ledger.{EraView, Uses}
use Rattle.site_disk.specs.declared.disk.Disk.{Ghosts}
use Rattle.catalogue_journal.specs.Catalogues.{cat_of, spare_of, capacity_of}
use Rattle.catalogue_journal.specs.declared.catalogue.Catalogue.{Catalogue}
use Rattle.site_model.specs.declared.disk_name.DiskName.{DiskName}
use Rattle.site_model.specs.declared.disk_name.DiskName.TheVariants.{Cat, Spare, Boot, Log, Volume, Chunk}
use Rattle.site_core.specs.declared.site.Site.{Site}
use Rattle.site_core.specs.Disks.{images_of, MayUseAll}
use Rattle.site_core.specs.Made.{IsMadeSite}
use Rattle.site_core.specs.Quiet.{FaultsLater, OnlyReads, read_on, written_on}
use Rattle.init_command.specs.Sites.{reads_of, with_catalogue}

module _ {D : Type 0} (disk : Ghosts D) (old : Site D) (cat : Catalogue D) where
  abbrev new : Site D
  new = with_catalogue old cat

  module _ (era : EraView) (made : IsMadeSite old) (may : MayUseAll disk era old)
      (ledger : Uses era (4864 + 4097 * capacity_of old.store.cat) 0 (disk.ledger (cat_of old.store.cat)) (disk.ledger (cat_of cat)))
      (spare_ledger : Uses era 4096 0 (disk.ledger (spare_of old.store.cat)) (disk.ledger (spare_of cat))) where
    written_still : (name : DiskName) → written_on disk new name ≤ written_on disk old name
    written_still Cat = omega (arith, ledger.written)
    written_still Spare = omega (arith, spare_ledger.written)
    written_still Boot = omega arith
    written_still Log = omega arith
    written_still (Volume n) = omega arith
    written_still (Chunk n) = omega arith

    read_some : (name : DiskName) → read_on disk new name ≤ read_on disk old name + reads_of name
    read_some Cat = omega (arith, ledger.read, made.store.capacity)
    read_some Spare = spare_ledger.read
    read_some Boot = omega arith
    read_some Log = omega arith
    read_some (Volume n) = omega arith
    read_some (Chunk n) = omega arith

    faults_later : FaultsLater disk old new
    faults_later Cat = ledger.faults
    faults_later Spare = spare_ledger.faults
    faults_later Boot = omega arith
    faults_later Log = omega arith
    faults_later (Volume n) = omega arith
    faults_later (Chunk n) = omega arith

    may_still : MayUseAll disk era new
    may_still Cat = may_use_again (may Cat) ledger
    may_still Spare = may_use_again (may Spare) spare_ledger
    may_still Boot = may Boot
    may_still Log = may Log
    may_still (Volume n) = may (Volume n)
    may_still (Chunk n) = may (Chunk n)

    pub only_reads : ((f : ℕ) (c : List ℕ) → disk.image (cat_of cat) f c → disk.image (cat_of old.store.cat) f c)
        → ((f : ℕ) (c : List ℕ) → disk.image (spare_of cat) f c → disk.image (spare_of old.store.cat) f c)
        → OnlyReads disk era reads_of old new
    only_reads none spare_none = record { quiet = record { images = images; written = written_still }; read = read_some; later = faults_later; may = may_still }
      where
        images : (f : ℕ) (name : DiskName) (bytes : List ℕ) → images_of disk new f name bytes → images_of disk old f name bytes
        images f Cat bytes image = none f bytes image
        images f Spare bytes image = spare_none f bytes image
        images f Boot bytes image = image
        images f Log bytes image = image
        images f (Volume n) bytes image = image
        images f (Chunk n) bytes image = image
