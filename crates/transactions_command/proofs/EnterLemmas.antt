-- What a site that is entered comes to.
use Rattle.std.proofs.Common.{◌≡◌, ◌⊎◌, ◌∙◌, ℕ, ◌+◌, ◌<◌, ◌≤◌, List, length, nat_le, nat_lt, Bool, true, false, Option, None, Some, inl, inr, ⊎_elim, refl, sym, ap, subst, arith}
use Rattle.std.specs.Option.{option_or}
use Rattle.std.proofs.lemmas.Bool.{cases_lt, cases_Bool, false≢true}
use Rattle.std.proofs.lemmas.Bool.Decides.{nat_tests}
use Rattle.site_disk.specs.Ledger.{EraView}
use Rattle.site_disk.specs.declared.disk.Disk.{Ghosts}
use Rattle.site_model.specs.declared.disk_name.DiskName.{DiskName}
use Rattle.site_model.specs.declared.disk_name.DiskName.TheVariants.{Cat, Spare, Boot, Log, Volume, Chunk}
use Rattle.site_layouts.specs.Disks.{IsOpened}
use Rattle.site_layouts.specs.Stages.{HeldSite, ShowsHeld, StandsFor}
use Rattle.site_core.specs.declared.site.Site.{Site as Values}
use Rattle.site_core.specs.Disks.{MayUseAll, bytes_or, contents_of, disk_named, image_or, images_of, may_or}
use Rattle.site_core.specs.Layers.{layers}
use Rattle.site_core.specs.Quiet.{ReadsSame}
use Rattle.site_lane_opening.specs.Left.{IsOld, LanesLeft, ShowLanes, ShowsStill}
use Rattle.site_commands.specs.Commands.{AddsNone}
use Rattle.site_courses.specs.Faults.{Fault}
use Rattle.site_courses.specs.Courses.{if_any_lost}
use Rattle.site_core.specs.declared.faults.SiteFault.{SiteFault}
use Rattle.site_core.specs.Faults.{IsFailure, IsNamed, fault_in}
use Rattle.transactions_command.specs.Entering.{IsRefusedAt, MayStay, ShowsUsed, StaysIn, if_unready, is_used}

is_within : (n most : ℕ) → n ≤ most → nat_le n most ≡ true
is_within n most le = grind (arith, nat_tests, le)

is_below : (n count : ℕ) → n < count → nat_lt n count ≡ true
is_below n count lt = grind (arith, nat_tests, lt)

below : (n count : ℕ) → nat_lt n count ≡ true → n < count
below n count is = grind (arith, nat_tests, is)

not_both : (b : Bool) → b ≡ false → b ≡ true → ⊥
not_both b isnt is = false≢true (sym isnt ∙ is)

module _ {D : Type 0} (disk : Ghosts D) where
  -- the same is read of another value's disks
  pub shows_again : (at : HeldSite) (old new : Values D) → ReadsSame disk old new → ShowsUsed disk at old → ShowsUsed disk at new
  shows_again at old new same shown name used = subst (ShowsHeld name at) (sym (same name)) (shown name used)

  -- the disks up to the log's are used, and so are the chunks of the spaces
  pub shown_to_log : (at : HeldSite) (site : Values D) → ShowsUsed disk at site → (name : DiskName) → IsOpened 2 name → ShowsHeld name at (contents_of disk site name)
  shown_to_log at site shown Cat is = shown Cat refl
  shown_to_log at site shown Spare is = shown Spare refl
  shown_to_log at site shown Boot is = shown Boot refl
  shown_to_log at site shown Log is = shown Log refl
  shown_to_log at site shown (Volume n) is = λ there. shown (Volume n) (is_within n 16 there) there
  shown_to_log at site shown (Chunk n) is = absurd (omega (arith, is))

  pub shown_lanes : (at : HeldSite) (site : Values D) → ShowsUsed disk at site → ShowLanes disk None at site
  shown_lanes at site shown n lt = shown (Chunk n) (is_below n (length at.site.head.spaces) lt)

  -- what a read gives is an image of each era that has come
  module _ (reads_as : (d : D) (f : ℕ) → (disk.ledger d).last ≤ f → disk.image d f (disk.bytes d)) (era : EraView) (site : Values D) (may : MayUseAll disk era site) where
    read_of : (it : Option D) (f : ℕ) → era.number ≤ f → may_or disk era it → image_or disk it f (bytes_or disk it)
    read_of None f le usable = refl
    read_of (Some it) f le usable = reads_as it f (omega (arith, le, usable.not_past))

    pub reads_image : (name : DiskName) (f : ℕ) → era.number ≤ f → images_of disk site f name (contents_of disk site name)
    reads_image name f le = read_of (disk_named site name) f le (may name)

  -- lanes are opened behind the second era
  module _ (era to : ℕ) (at : HeldSite) (old mid new : Values D) (none : AddsNone (images_of disk old) (images_of disk mid)) (stands : StandsFor (layers disk) 2 (era + 2) mid at)
      (shown : ShowsUsed disk at mid) (second : era + 2 ≤ to) (left : LanesLeft disk None (era + 2) at mid new) where
    old_shows : (f : ℕ) (name : DiskName) (bytes : List ℕ) → era + 2 < f → IsOld disk None at mid f name bytes
        → ShowsHeld name at bytes ⊎ (images_of disk old f name bytes × (is_used at name ≡ false))
    old_shows f Cat bytes lt was = inl (stands.clean f Cat bytes (omega (arith, lt)) (omega arith) was.image)
    old_shows f Spare bytes lt was = inl (stands.clean f Spare bytes (omega (arith, lt)) (omega arith) was.image)
    old_shows f Boot bytes lt was = inl (stands.clean f Boot bytes (omega (arith, lt)) (omega arith) was.image)
    old_shows f Log bytes lt was = inl (stands.clean f Log bytes (omega (arith, lt)) (omega arith) was.image)
    old_shows f (Volume n) bytes lt was = inl (stands.clean f (Volume n) bytes (omega (arith, lt)) (omega arith) was.image)
    old_shows f (Chunk n) bytes lt was = elim (cases_Bool (nat_lt n (length at.site.head.spaces))) [
      | inl is ↦
          inl (subst (ShowsHeld (Chunk n) at) (sym (was.synced (below n (length at.site.head.spaces) is))) (shown (Chunk n) is))
      | inr isnt ↦
          inr (none f (Chunk n) bytes was.image, isnt)
    ]

    unused_isnt : (name : DiskName) (bytes : List ℕ) → is_used at name ≡ false → ShowsStill disk None at name bytes → ⊥
    unused_isnt Cat bytes isnt still = still.is_wanted
    unused_isnt Spare bytes isnt still = still.is_wanted
    unused_isnt Boot bytes isnt still = still.is_wanted
    unused_isnt Log bytes isnt still = still.is_wanted
    unused_isnt (Volume n) bytes isnt still = still.is_wanted
    unused_isnt (Chunk n) bytes isnt still = not_both _ isnt (is_below n (length at.site.head.spaces) still.is_wanted)

    pub stays_in : StaysIn disk era to at old new
    stays_in = record {
      second = second;
      first = λ f name bytes le image. none f name bytes (left.up_to f name bytes le image);
      later = λ f name bytes lt image. ⊎_elim (λ was. old_shows f name bytes lt was) (λ still. inl still.shows) (left.later f name bytes lt image);
      aside = λ f name bytes isnt image. elim (cases_lt (era + 2) f) [
        | inl lt ↦
            ⊎_elim (λ was. none f name bytes was.image) (λ still. absurd (unused_isnt name bytes isnt still)) (left.later f name bytes lt image)
        | inr le ↦
            none f name bytes (left.up_to f name bytes le image)
      ];
    }

  -- what is read then shows the site still
  pub shows_still : ((d : D) (f : ℕ) → (disk.ledger d).last ≤ f → disk.image d f (disk.bytes d)) → (start : ℕ) (era : EraView) (at : HeldSite) (old new : Values D)
      → MayUseAll disk era new → StaysIn disk start era.number at old new → ShowsUsed disk at new
  shows_still reads_as start era at old new may stays name used =
      let f : ℕ = era.number + start + 3 in
      ⊎_elim (λ shows. shows) (λ aside. absurd (not_both _ aside.1 used))
      (stays.later f name (contents_of disk new name) (omega arith) (reads_image reads_as era new may name f (omega arith)))

  -- the opening of the lanes is refused, or cut short
  pub enters_refused : ((d : D) (f : ℕ) → (disk.ledger d).last ≤ f → disk.image d f (disk.bytes d)) → (era : ℕ) (to : EraView) (at : HeldSite) (old mid new : Values D) (fault : SiteFault)
      → AddsNone (images_of disk old) (images_of disk mid) → StandsFor (layers disk) 2 (era + 2) mid at → ShowsUsed disk at mid → era + 2 ≤ to.number → MayUseAll disk to new
      → if_unready at.site ≡ None
      → AddsNone (images_of disk mid) (images_of disk new) ⊎ LanesLeft disk None (era + 2) at mid new
      → IsFailure fault ⊎ LanesLeft disk None (era + 2) at mid new
      → IsFailure fault ⊎ (Some (fault_in fault) ≡ if_any_lost at.site) → IsNamed at.site.head.spaces fault
      → MayStay disk era to.number at old new × (IsFailure fault ⊎ IsRefusedAt disk era to.number at old new fault)
  enters_refused reads_as era to at old mid new fault none stands shown second may ready leaves left lost named = (
    ⊎_elim (λ adds. inl (λ f name bytes image. none f name bytes (adds f name bytes image)))
        (λ left. inr (stays_in era to.number at old mid new none stands shown second left)) leaves,
    ⊎_elim (λ failed. inl failed) (λ left. ⊎_elim (λ failed. inl failed) (λ is.
        let stays = stays_in era to.number at old mid new none stands shown second left in
        inr (record {
          refusal = ap (λ (o : Option Fault). option_or o (if_any_lost at.site)) ready ∙ sym is;
          named = named;
          still = inr (stays, shows_still reads_as era to at old new may stays);
        })) lost) left,
  )
