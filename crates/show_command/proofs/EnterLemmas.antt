-- What a site that is entered comes to.
use Rattle.std.proofs.Common.{◌≡◌, ◌⊎◌, ◌∙◌, ℕ, ◌+◌, ◌<◌, ◌≤◌, List, nat_le, Bool, true, false, Option, None, Some, inl, inr, ⊎_elim, refl, sym, ap, subst, arith}
use Rattle.std.specs.Option.{option_or}
use Rattle.std.proofs.lemmas.Bool.{cases_lt, false≢true}
use Rattle.std.proofs.lemmas.Bool.Decides.{nat_tests}
use Rattle.onbar_grammar.specs.Script.{place_of}
use Rattle.site_disk.specs.Ledger.{EraView}
use Rattle.site_disk.specs.declared.disk.Disk.{Ghosts}
use Rattle.site_model.specs.declared.disk_name.DiskName.{DiskName}
use Rattle.site_model.specs.declared.disk_name.DiskName.TheVariants.{Cat, Spare, Boot, Log, Volume, Chunk}
use Rattle.site_layouts.specs.Disks.{IsOpened}
use Rattle.site_layouts.specs.Stages.{HeldSite, ShowsHeld, StandsFor}
use Rattle.site_core.specs.declared.site.Site.{Site as Values}
use Rattle.site_core.specs.Disks.{MayUseAll, bytes_or, contents_of, disk_named, image_or, images_of, may_or}
use Rattle.site_core.specs.Layers.{layers}
use Rattle.site_core.specs.Quiet.{ReadsSame}
use Rattle.site_lane_opening.specs.Left.{IsOld, LanesLeft, ShowLanes, ShowsStill}
use Rattle.site_commands.specs.Commands.{AddsNone}
use Rattle.site_courses.specs.Faults.{Fault}
use Rattle.site_core.specs.declared.faults.SiteFault.{SiteFault}
use Rattle.site_core.specs.Faults.{IsFailure, IsNamed, fault_in}
use Rattle.std.specs.Prelude.{◌==◌}
use Rattle.std.proofs.lemmas.Bool.{cases_eq}
use Rattle.site_commands.specs.Commands.{is_shown}
use Rattle.site_courses.specs.Courses.{if_this_lost}
use Rattle.show_command.specs.declared.opening.Place.{Place}
use Rattle.show_command.specs.Showing.{IsRefusedAt, MayStay, ShowsUsed, StaysIn, if_lane_lost, if_unready, is_used, pair_of}

is_within : (n most : ℕ) → n ≤ most → nat_le n most ≡ true
is_within n most le = grind (arith, nat_tests, le)

not_both : (b : Bool) → b ≡ false → b ≡ true → ⊥
not_both b isnt is = false≢true (sym isnt ∙ is)

module _ {D : Type 0} (disk : Ghosts D) (word : List ℕ) (page : Option ℕ) where
  -- the same is read of another value's disks
  pub shows_again : (at : HeldSite) (old new : Values D) → ReadsSame disk old new → ShowsUsed disk word page at old → ShowsUsed disk word page at new
  shows_again at old new same shown name used = subst (ShowsHeld name at) (sym (same name)) (shown name used)

  -- the disks up to the log's are used, and so are the chunks of the spaces
  pub shown_to_log : (at : HeldSite) (site : Values D) → ShowsUsed disk word page at site → (name : DiskName) → IsOpened 2 name → ShowsHeld name at (contents_of disk site name)
  shown_to_log at site shown Cat is = shown Cat refl
  shown_to_log at site shown Spare is = shown Spare refl
  shown_to_log at site shown Boot is = shown Boot refl
  shown_to_log at site shown Log is = shown Log refl
  shown_to_log at site shown (Volume n) is = λ there. shown (Volume n) (is_within n 16 there) there
  shown_to_log at site shown (Chunk n) is = absurd (omega (arith, is))

  -- the chunk of the place is used, and no other
  used_chunk : (at : HeldSite) (found : Place) → place_of word at.site.head.spaces ≡ Some (pair_of found) → (n : ℕ) → is_used word page at (Chunk n) ≡ (found.space == n)
  used_chunk at found is n = ap (λ (p : Option (ℕ × ℕ)). is_shown p n) is

  pub shown_lane_of : (at : HeldSite) (found : Place) (site : Values D) → place_of word at.site.head.spaces ≡ Some (pair_of found) → ShowsUsed disk word page at site
      → ShowLanes disk (Some found.space) at site
  shown_lane_of at found site is shown n same =
      shown (Chunk n) (used_chunk at found is n ∙ (let here : (found.space == n) ≡ true = grind (arith, nat_tests, same) in here))

  -- what a read gives is an image of each era that has come
  module _ (reads_as : (d : D) (f : ℕ) → (disk.ledger d).last ≤ f → disk.image d f (disk.bytes d)) (era : EraView) (site : Values D) (may : MayUseAll disk era site) where
    read_of : (it : Option D) (f : ℕ) → era.number ≤ f → may_or disk era it → image_or disk it f (bytes_or disk it)
    read_of None f le usable = refl
    read_of (Some it) f le usable = reads_as it f (omega (arith, le, usable.not_past))

    pub reads_image : (name : DiskName) (f : ℕ) → era.number ≤ f → images_of disk site f name (contents_of disk site name)
    reads_image name f le = read_of (disk_named site name) f le (may name)

  -- lanes are opened behind the second era
  module _ (era to : ℕ) (at : HeldSite) (found : Place) (placed : place_of word at.site.head.spaces ≡ Some (pair_of found)) (old mid new : Values D) (none : AddsNone (images_of disk old) (images_of disk mid)) (stands : StandsFor (layers disk) 2 (era + 2) mid at)
      (shown : ShowsUsed disk word page at mid) (second : era + 2 ≤ to) (left : LanesLeft disk (Some found.space) (era + 2) at mid new) where
    old_shows : (f : ℕ) (name : DiskName) (bytes : List ℕ) → era + 2 < f → IsOld disk (Some found.space) at mid f name bytes
        → ShowsHeld name at bytes ⊎ (images_of disk old f name bytes × (is_used word page at name ≡ false))
    old_shows f Cat bytes lt was = inl (stands.clean f Cat bytes (omega (arith, lt)) (omega arith) was.image)
    old_shows f Spare bytes lt was = inl (stands.clean f Spare bytes (omega (arith, lt)) (omega arith) was.image)
    old_shows f Boot bytes lt was = inl (stands.clean f Boot bytes (omega (arith, lt)) (omega arith) was.image)
    old_shows f Log bytes lt was = inl (stands.clean f Log bytes (omega (arith, lt)) (omega arith) was.image)
    old_shows f (Volume n) bytes lt was = inl (stands.clean f (Volume n) bytes (omega (arith, lt)) (omega arith) was.image)
    old_shows f (Chunk n) bytes lt was = elim (cases_eq n found.space) [
      | inl same ↦
          inl (subst (ShowsHeld (Chunk n) at) (sym (was.synced same)) (shown (Chunk n) (used_chunk at found placed n ∙ (let here : (found.space == n) ≡ true = grind (arith, nat_tests, same) in here))))
      | inr other ↦
          inr (none f (Chunk n) bytes was.image, used_chunk at found placed n ∙ (let there : (found.space == n) ≡ false = grind (arith, nat_tests, other) in there))
    ]

    unused_isnt : (name : DiskName) (bytes : List ℕ) → is_used word page at name ≡ false → ShowsStill disk (Some found.space) at name bytes → ⊥
    unused_isnt Cat bytes isnt still = still.is_wanted
    unused_isnt Spare bytes isnt still = still.is_wanted
    unused_isnt Boot bytes isnt still = still.is_wanted
    unused_isnt Log bytes isnt still = still.is_wanted
    unused_isnt (Volume n) bytes isnt still = still.is_wanted
    unused_isnt (Chunk n) bytes isnt still =
        let same : n ≡ found.space = still.is_wanted in
        not_both _ isnt (used_chunk at found placed n ∙ (let here : (found.space == n) ≡ true = grind (arith, nat_tests, same) in here))

    pub stays_in : StaysIn disk word page era to at old new
    stays_in = record {
      second = second;
      first = λ f name bytes le image. none f name bytes (left.up_to f name bytes le image);
      later = λ f name bytes lt image. ⊎_elim (λ was. old_shows f name bytes lt was) (λ still. inl still.shows) (left.later f name bytes lt image);
      aside = λ f name bytes isnt image. elim (cases_lt (era + 2) f) [
        | inl lt ↦
            ⊎_elim (λ was. none f name bytes was.image) (λ still. absurd (unused_isnt name bytes isnt still)) (left.later f name bytes lt image)
        | inr le ↦
            none f name bytes (left.up_to f name bytes le image)
      ];
    }

  -- what is read then shows the site still
  pub shows_still : ((d : D) (f : ℕ) → (disk.ledger d).last ≤ f → disk.image d f (disk.bytes d)) → (start : ℕ) (era : EraView) (at : HeldSite) (old new : Values D)
      → MayUseAll disk era new → StaysIn disk word page start era.number at old new → ShowsUsed disk word page at new
  shows_still reads_as start era at old new may stays name used =
      let f : ℕ = era.number + start + 3 in
      ⊎_elim (λ shows. shows) (λ aside. absurd (not_both _ aside.1 used))
      (stays.later f name (contents_of disk new name) (omega arith) (reads_image reads_as era new may name f (omega arith)))

  -- the opening of the lanes is refused, or cut short
  pub enters_refused : ((d : D) (f : ℕ) → (disk.ledger d).last ≤ f → disk.image d f (disk.bytes d)) → (era : ℕ) (to : EraView) (at : HeldSite) (found : Place)
      → place_of word at.site.head.spaces ≡ Some (pair_of found) → (old mid new : Values D) (fault : SiteFault)
      → AddsNone (images_of disk old) (images_of disk mid) → StandsFor (layers disk) 2 (era + 2) mid at → ShowsUsed disk word page at mid → era + 2 ≤ to.number → MayUseAll disk to new
      → if_unready word page at.site ≡ None
      → AddsNone (images_of disk mid) (images_of disk new) ⊎ LanesLeft disk (Some found.space) (era + 2) at mid new
      → IsFailure fault ⊎ LanesLeft disk (Some found.space) (era + 2) at mid new
      → IsFailure fault ⊎ (Some (fault_in fault) ≡ if_this_lost found.space at.site) → IsNamed at.site.head.spaces fault
      → MayStay disk word page era to.number at old new × (IsFailure fault ⊎ IsRefusedAt disk word page era to.number at old new fault)
  enters_refused reads_as era to at found placed old mid new fault none stands shown second may ready leaves left lost named = (
    ⊎_elim (λ adds. inl (λ f name bytes image. none f name bytes (adds f name bytes image)))
        (λ left. inr (stays_in era to.number at found placed old mid new none stands shown second left)) leaves,
    ⊎_elim (λ failed. inl failed) (λ left. ⊎_elim (λ failed. inl failed) (λ is.
        let stays = stays_in era to.number at found placed old mid new none stands shown second left in
        inr (record {
          refusal = ap (λ (o : Option Fault). option_or o (if_lane_lost (place_of word at.site.head.spaces) at.site)) ready
              ∙ ap (λ (p : Option (ℕ × ℕ)). if_lane_lost p at.site) placed ∙ sym is;
          named = named;
          still = inr (stays, shows_still reads_as era to at old new may stays);
        })) lost) left,
  )
