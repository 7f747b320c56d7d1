-- Lanes that are made one after another.
use Rattle.std.proofs.Common.{◌≡◌, ℕ, zero, suc, List, [], ◌∷◌, ◌++◌, length, map, Some, ap, sym, subst, ◌∙◌}
use Rattle.std.specs.Prelude.{slice_get}
use Rattle.std.specs.Option.{option_map}
use Rattle.std.proofs.lemmas.Option.{slice_get-map}
use Rattle.catalogue_journal.specs.Catalogues.{cat_of, spare_of}
use Rattle.object_volume.specs.Volumes.{disk_of as volume_disk}
use Rattle.boot_file.specs.Boots.{disk_of as boot_disk}
use Rattle.logical_log.specs.Rings.{disk_of as log_disk}
use Rattle.space_lane.specs.Lanes.{disk_of as lane_disk}
use Rattle.site_model.specs.declared.disk_name.DiskName.{DiskName}
use Rattle.site_model.specs.declared.disk_name.DiskName.TheVariants.{Cat, Spare, Boot, Log, Volume, Chunk}
use Rattle.site_core.specs.declared.site.Site.{Site}
use Rattle.site_core.specs.declared.site.SiteDisks.{SiteDisks}
use Rattle.site_core.specs.Disks.{disk_named, disk_given}

-- one more behind the others
pub each_push : {A : Type 0} (R : ℕ → A → Type 0) (xs : List A) (x : A) → ((place : ℕ) (y : A) → slice_get xs place ≡ Some y → R place y) → R (length xs) x
    → (place : ℕ) (y : A) → slice_get (xs ++ x ∷ []) place ≡ Some y → R place y
each_push R [] x each is zero y there = let e : x ≡ y = cc in subst (R 0) e is
each_push R [] x each is (suc place) y there = absurd (nothing there)
  where
    nothing : slice_get [] place ≡ Some y → ⊥
    nothing there = cc
each_push R (z ∷ xs) x each is zero y there = each zero y there
each_push {A = A} R (z ∷ xs) x each is (suc place) y there = each_push (λ (p : ℕ) (w : A). R (suc p) w) xs x (λ p w at. each (suc p) w at) is place y there

-- a disk by its place
pub by_place : {V D : Type 0} (f : V → D) (xs : List V) (disks : List D) (place : ℕ) → map f xs ≡ disks → option_map f (slice_get xs place) ≡ slice_get disks place
by_place {D = D} f xs disks place same = sym (slice_get-map f xs place) ∙ ap (λ (l : List D). slice_get l place) same

-- each disk of a site is the one that was handed in by its name
pub named_given : {D : Type 0} (site : Site D) (disks : SiteDisks D) → cat_of site.store.cat ≡ disks.cat → spare_of site.store.cat ≡ disks.spare → boot_disk site.boot ≡ disks.boot
    → log_disk site.log ≡ disks.log → map volume_disk site.store.volumes.items ≡ disks.volumes.items → map lane_disk site.lanes.items ≡ disks.chunks.items
    → (name : DiskName) → disk_named site name ≡ disk_given disks name
named_given {D = D} site disks cat spare boot log volumes chunks Cat = ap (λ (d : D). Some d) cat
named_given {D = D} site disks cat spare boot log volumes chunks Spare = ap (λ (d : D). Some d) spare
named_given {D = D} site disks cat spare boot log volumes chunks Boot = ap (λ (d : D). Some d) boot
named_given {D = D} site disks cat spare boot log volumes chunks Log = ap (λ (d : D). Some d) log
named_given site disks cat spare boot log volumes chunks (Volume n) = by_place volume_disk site.store.volumes.items disks.volumes.items n volumes
named_given site disks cat spare boot log volumes chunks (Chunk n) = by_place lane_disk site.lanes.items disks.chunks.items n chunks
