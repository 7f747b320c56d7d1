-- What is sent to volumes changes nothing that a site shows.
use Rattle.std.specs.Prelude.{◌≡◌, ◌⊎◌, ℕ, ◌+◌, ◌<◌, ◌≤◌, List, ◌++◌, length, slice_get, Option, None, Some, false}
use Rattle.std.specs.Option.{option_map}
use mathlib.Core.Logic.{inl, inr}
use Rattle.std.proofs.Common.{arith, sym, subst, ⊎_elim}
use Rattle.std.proofs.lemmas.Bool.{cases_order, true≢false}
use Rattle.std.proofs.lemmas.Option.{slice_get_cases, slice_get_past, slice_get_within}
use Rattle.site_disk.specs.declared.disk.Disk.{Ghosts}
use Rattle.block_chain.specs.Blocks.{AreApart}
use Rattle.block_chain.specs.BlocksLaws.{times-append}
use Rattle.object_volume.specs.Objects.{Spares}
use Rattle.object_volume.specs.Volumes.{disk_of, open_blocks, free_of, blocks_sent}
use Rattle.object_volume.specs.declared.volume.Volume.{Volume}
use Rattle.object_store.specs.Holdings.{Holds, blocks_of_all}
use Rattle.store_opening.specs.Opening.{live_on}
use Rattle.store_opening.specs.Standing.{Agrees}
use Rattle.opening_laws.proofs.ShownLemmas.{same_blocks}
use Rattle.walks.specs.Follows.{Follows}
use Rattle.site_model.specs.declared.disk_name.DiskName.{DiskName}
use Rattle.site_model.specs.declared.disk_name.DiskName.TheVariants.{Cat, Spare, Boot, Log, Volume as VolumeOf, Chunk}
use Rattle.site_worlds.specs.Worlds.{Store}
use Rattle.site_worlds.specs.Objects.{blocks_on}
use Rattle.site_worlds.specs.Moves.{the_catalogue}
use Rattle.site_layouts.specs.Disks.{is_of}
use Rattle.site_layouts.specs.Stores.{contents_of}
use Rattle.site_layouts.specs.VolumeLaws.{volume_spared}
use Rattle.site_layouts.specs.Stages.{HeldSite, ShowsHeld, StandsFor}
use Rattle.site_core.specs.declared.site.Site.{Site as Values}
use Rattle.site_core.specs.Disks.{images_of, image_or}
use Rattle.site_core.specs.Layers.{layers}
use Rattle.store_calls.specs.Transactions.{ReadsAsImages, WorksOnStore}

-- of two lists as long as each other, where one has an item the other has one
pub there_too : {X : Type 0} (xs ys : List X) (n : ℕ) (y : X) → length ys ≡ length xs → slice_get ys n ≡ Some y → (x : X) × (slice_get xs n ≡ Some x)
there_too xs ys n y count there = elim (slice_get_cases xs n).1 [
  | inl found ↦ (found.0, found.2)
  | inr none ↦ absurd (omega (arith, none.0, count, slice_get_within ys n y there))
]

-- no live object has a block that may be written
writable_apart : {D : Type 0} (volume : Volume D) (n : ℕ) (store : Store) → Holds volume (live_on n (contents_of store).objects)
    → AreApart (open_blocks volume) (blocks_on n store.kept)
writable_apart volume n store holds = subst (AreApart (open_blocks volume)) (same_blocks n store.kept) apart
  where
    live : List ℕ
    live = blocks_of_all (live_on n (contents_of store).objects)

    apart : AreApart (open_blocks volume) live
    apart block some =
        let whole = times-append block (free_of volume) (blocks_sent volume ++ live) in
        let rest = times-append block (blocks_sent volume) live in
        let own = times-append block (blocks_sent volume) (free_of volume) in
        let below = holds.parted.below block (omega (arith, some, whole, rest, own)) in
        omega (arith, some, whole, rest, own, holds.parted.each block below)

module _ {D : Type 0} (disk : Ghosts D) (reads : ReadsAsImages disk) (opened from : ℕ) (old new : Values D) (at : HeldSite)
    (stands : StandsFor (layers disk) opened from old at) (works : WorksOnStore disk from old new) where
  agrees : Agrees disk from old.store (contents_of at.site.store) at.site.store.used at.site.head
  agrees = stands.agree.store

  module _ (n : ℕ) (was : Volume D) (there : slice_get old.store.volumes.items n ≡ Some was) where
    old_shows : (g : ℕ) (bytes : List ℕ) → from ≤ g → disk.image (disk_of was) g bytes → ShowsHeld (VolumeOf n) at bytes
    old_shows g bytes le image = stands.clean g (VolumeOf n) bytes le (omega arith)
        (subst (λ (o : Option (Volume D)). image_or disk (option_map disk_of o) g bytes) (sym there) image)

    base : ShowsHeld (VolumeOf n) at (disk.bytes (disk_of was))
    base = old_shows from (disk.bytes (disk_of was)) (omega arith)
        (reads (disk_of was) from (let behind = agrees.volumes_behind n was there in omega (arith, behind.last)))

    -- a step writes blocks that no live object has
    stepped : (g : ℕ) (before bytes : List ℕ) → from ≤ g → disk.image (disk_of was) g before
        → Spares (open_blocks was) (length (disk.bytes (disk_of was))) before bytes → ShowsHeld (VolumeOf n) at bytes
    stepped g before bytes le image spares = λ few.
        volume_spared at.site.head at.site.store n (length (disk.bytes (disk_of was))) (open_blocks was) (disk.bytes (disk_of was)) before bytes
        stands.fits.store.each (writable_apart was n at.site.store (agrees.holds n was there)) (base few) (omega arith) spares (old_shows g before le image few)

    left : (is : Volume D) (f : ℕ) (bytes : List ℕ) → slice_get new.store.volumes.items n ≡ Some is → from ≤ f → disk.image (disk_of is) f bytes
        → disk.image (disk_of was) f bytes ⊎ ShowsHeld (VolumeOf n) at bytes
    left is f bytes behind le image = elim (cases_order from f) [
      | inl same ↦ subst (λ (g : ℕ). disk.image (disk_of is) g bytes → disk.image (disk_of was) g bytes ⊎ ShowsHeld (VolumeOf n) at bytes) same at_era image
      | inr (inl later) ↦ let step = (works.volumes.each n was is there behind).later f bytes later image in inr (stepped f step.0 bytes le step.1 step.2)
      | inr (inr earlier) ↦ absurd (omega arith)
    ]
      where
        at_era : disk.image (disk_of is) from bytes → disk.image (disk_of was) from bytes ⊎ ShowsHeld (VolumeOf n) at bytes
        at_era now = ⊎_elim
            (λ still. inl still)
            (λ step. inr (stepped (from + 1) step.0 bytes (omega arith) step.1 step.2))
            ((works.volumes.each n was is there behind).during bytes now)

  abbrev pub FollowsHere : ℕ → DiskName → List ℕ → Type 0
  FollowsHere f name bytes = Follows ShowsHeld ((layers disk).images old) f at at name bytes

  was_there : (f : ℕ) (name : DiskName) (bytes : List ℕ) → (layers disk).images old f name bytes → FollowsHere f name bytes
  was_there f name bytes image = inr (image, λ shows. shows)

  abbrev ImageOf : Option (Volume D) → ℕ → List ℕ → Type 0
  ImageOf volume f bytes = image_or disk (option_map disk_of volume) f bytes

  -- a volume before and now, or none
  both : (P : Option (Volume D) → Option (Volume D) → Type 0) (n : ℕ) → P None None
      → ((was is : Volume D) → slice_get old.store.volumes.items n ≡ Some was → slice_get new.store.volumes.items n ≡ Some is → P (Some was) (Some is))
      → P (slice_get old.store.volumes.items n) (slice_get new.store.volumes.items n)
  both P n none some = elim (slice_get_cases new.store.volumes.items n).1 [
    | inl found ↦
        let was = there_too old.store.volumes.items new.store.volumes.items n found.0 works.volumes.count found.2 in
        subst (λ (o : Option (Volume D)). P o (slice_get new.store.volumes.items n)) (sym was.1)
        (subst (λ (o : Option (Volume D)). P (Some was.0) o) (sym found.2) (some was.0 found.0 was.1 found.2))
    | inr past ↦
        subst (λ (o : Option (Volume D)). P o (slice_get new.store.volumes.items n))
        (sym (slice_get_past old.store.volumes.items n (let count = works.volumes.count in omega (arith, past.0, count))))
        (subst (λ (o : Option (Volume D)). P None o) (sym past.1) none)
  ]

  volume_follows : (n f : ℕ) (bytes : List ℕ) → from ≤ f → (layers disk).images new f (VolumeOf n) bytes → FollowsHere f (VolumeOf n) bytes
  volume_follows n f bytes le =
      both (λ o k. ImageOf k f bytes → ShowsHeld (VolumeOf n) at bytes ⊎ (ImageOf o f bytes × (ShowsHeld (VolumeOf n) at bytes → ShowsHeld (VolumeOf n) at bytes))) n
      (λ image. inr (image, λ shows. shows))
      (λ was is there behind image. ⊎_elim (λ still. inr (still, λ shows. shows)) (λ shows. inl shows) (left n was there is f bytes behind le image))

  -- Each later image of any disk but the catalogue's follows to the present site.
  pub others_follow : (f : ℕ) (name : DiskName) (bytes : List ℕ) → from ≤ f → is_of the_catalogue name ≡ false → (layers disk).images new f name bytes
      → FollowsHere f name bytes
  others_follow f Cat bytes le rests image = absurd (true≢false rests)
  others_follow f Spare bytes le rests image =
      was_there f Spare bytes (subst (λ (it : D). disk.image it f bytes) works.spare image)
  others_follow f Boot bytes le rests image = was_there f Boot bytes (subst (λ (v : Values D). images_of disk v f Boot bytes) works.others image)
  others_follow f Log bytes le rests image = was_there f Log bytes (subst (λ (v : Values D). images_of disk v f Log bytes) works.others image)
  others_follow f (VolumeOf n) bytes le rests image = volume_follows n f bytes le image
  others_follow f (Chunk n) bytes le rests image = was_there f (Chunk n) bytes (subst (λ (v : Values D). images_of disk v f (Chunk n) bytes) works.others image)

  volume_earlier : (n f : ℕ) (bytes : List ℕ) → f < from → (layers disk).images new f (VolumeOf n) bytes → (layers disk).images old f (VolumeOf n) bytes
  volume_earlier n f bytes lt =
      both (λ o k. ImageOf k f bytes → ImageOf o f bytes) n (λ image. image) (λ was is there behind image. (works.volumes.each n was is there behind).earlier f bytes lt image)

  -- Earlier eras gain no image of these disks.
  pub others_earlier : (f : ℕ) (name : DiskName) (bytes : List ℕ) → f < from → is_of the_catalogue name ≡ false → (layers disk).images new f name bytes
      → (layers disk).images old f name bytes
  others_earlier f Cat bytes lt rests image = absurd (true≢false rests)
  others_earlier f Spare bytes lt rests image = subst (λ (it : D). disk.image it f bytes) works.spare image
  others_earlier f Boot bytes lt rests image = subst (λ (v : Values D). images_of disk v f Boot bytes) works.others image
  others_earlier f Log bytes lt rests image = subst (λ (v : Values D). images_of disk v f Log bytes) works.others image
  others_earlier f (VolumeOf n) bytes lt rests image = volume_earlier n f bytes lt image
  others_earlier f (Chunk n) bytes lt rests image = subst (λ (v : Values D). images_of disk v f (Chunk n) bytes) works.others image
