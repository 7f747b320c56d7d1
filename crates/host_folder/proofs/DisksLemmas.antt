-- The disks of a site by name, each of which may be used.
use Rattle.std.proofs.Common.{◌≡◌, ℕ, zero, suc, List, [], ◌∷◌, Option, All, arith, subst, sym, refl}
use Rattle.std.specs.Prelude.{slice_get}
use Rattle.site_disk.specs.declared.disk.Disk.{Ghosts}
use Rattle.site_disk.specs.Ledger.{EraView, Ledger, MayUse, new_ledger}
use Rattle.site_model.specs.declared.disk_name.DiskName.{DiskName}
use Rattle.site_model.specs.declared.disk_name.DiskName.TheVariants.{Cat, Spare, Boot, Log, Volume, Chunk}
use Rattle.site_core.specs.Disks.{disk_given, disk_named, may_or, MayUseAll}
use Rattle.site_core.specs.declared.site.Site.{Site}
use Rattle.site_core.specs.declared.site.SiteDisks.{SiteDisks}

-- a disk may be used in the era that it was made in
pub new_may : (ledger : Ledger) (era : EraView) → ledger ≡ new_ledger era.number era.key → MayUse era ledger
new_may ledger era made =
    let fresh : MayUse era (new_ledger era.number era.key) = record { key = refl; not_past = omega arith; synced = omega arith }
    in subst (λ (l : Ledger). MayUse era l) (sym made) fresh

module _ {D : Type 0} (disk : Ghosts D) (era : EraView) where
  each_may : (disks : List D) → All (λ it. MayUse era (disk.ledger it)) disks → (n : ℕ) → may_or disk era (slice_get disks n)
  each_may [] all n = tt
  each_may (it ∷ disks) all zero = all 0 it (omega arith)
  each_may (it ∷ disks) all (suc n) = each_may disks (λ k d lt. all (suc k) d (omega arith)) n

  all_may : (disks : SiteDisks D) → MayUse era (disk.ledger disks.cat) → MayUse era (disk.ledger disks.spare) → MayUse era (disk.ledger disks.boot)
      → MayUse era (disk.ledger disks.log) → All (λ it. MayUse era (disk.ledger it)) disks.volumes.items → All (λ it. MayUse era (disk.ledger it)) disks.chunks.items
      → (name : DiskName) → may_or disk era (disk_given disks name)
  all_may disks cat spare boot log volumes chunks Cat = cat
  all_may disks cat spare boot log volumes chunks Spare = spare
  all_may disks cat spare boot log volumes chunks Boot = boot
  all_may disks cat spare boot log volumes chunks Log = log
  all_may disks cat spare boot log volumes chunks (Volume n) = each_may disks.volumes.items volumes n
  all_may disks cat spare boot log volumes chunks (Chunk n) = each_may disks.chunks.items chunks n

  -- a site over disks that may be used
  pub site_may : (site : Site D) (disks : SiteDisks D) → ((name : DiskName) → disk_named site name ≡ disk_given disks name)
      → MayUse era (disk.ledger disks.cat) → MayUse era (disk.ledger disks.spare) → MayUse era (disk.ledger disks.boot)
      → MayUse era (disk.ledger disks.log) → All (λ it. MayUse era (disk.ledger it)) disks.volumes.items → All (λ it. MayUse era (disk.ledger it)) disks.chunks.items
      → MayUseAll disk era site
  site_may site disks is cat spare boot log volumes chunks name =
      subst (λ (it : Option D). may_or disk era it) (sym (is name)) (all_may disks cat spare boot log volumes chunks name)
