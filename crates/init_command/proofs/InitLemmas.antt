-- What the form that formats a site comes to, from its look at the catalogue and the formatting.
use Rattle.std.proofs.Common.{◌≡◌, inl, inr, ℕ, ◌+◌, ◌<◌, ◌≤◌, List, length, Bool, true, false, Option, None, Result, Err, ◌++◌, refl, sym, ap, subst, ◌∙◌, ⊎_elim, arith}
use Rattle.std.specs.Prelude.{slice_get}
use Rattle.std.specs.List.{flat_map}
use Rattle.std.specs.Option.{option_map}
use Rattle.std.proofs.lemmas.Bool.{leb-false, ltb-false}
use Rattle.std.proofs.lemmas.List.{length-map}
use Rattle.std.proofs.lemmas.Option.{slice_get_past}
use Rattle.command_grammar.specs.Words.{CommandForm, init_form}
use Rattle.site_disk.specs.Images.{OnlyAfter}
use Rattle.site_disk.specs.declared.disk.Disk.{Ghosts}
use Rattle.walks.specs.Follows.{Ends, Follows, Goes}
use Rattle.site_headers.specs.Heads.{Head}
use Rattle.site_headers.specs.Views.{space_of, spaces_of}
use Rattle.site_headers.specs.declared.heads.SpaceHead.{SpaceHead}
use Rattle.catalogue_replay.specs.Answers.{HasNoHead}
use Rattle.catalogue_journal.specs.Catalogues.{cat_of}
use Rattle.object_volume.specs.Volumes.{disk_of as volume_disk}
use Rattle.object_volume.specs.declared.volume.Volume.{Volume}
use Rattle.space_lane.specs.Lanes.{disk_of as lane_disk}
use Rattle.site_model.specs.Runs.{head_at}
use Rattle.site_model.specs.declared.disk_name.DiskName.{DiskName}
use Rattle.site_model.specs.declared.disk_name.DiskName.TheVariants.{Cat, Spare, Boot, Log, Volume as OfVolume, Chunk}
use Rattle.site_model.specs.declared.status.Status.{Status}
use Rattle.site_model.specs.declared.status.Status.TheVariants.{Ok as Done, AlreadyFormatted}
use Rattle.site_model.specs.Texts.{space_text, status_text}
use Rattle.site_worlds.specs.Worlds.{new_site, unformatted}
use Rattle.site_worlds.specs.Moves.{world_rules}
use Rattle.site_layouts.specs.Stores.{Held}
use Rattle.site_layouts.specs.NewLaws.{not_both}
use Rattle.site_layouts.specs.Layouts.{HeldWorld, Shows, ShowsSite}
use Rattle.site_core.specs.declared.site.Site.{Site}
use Rattle.site_core.specs.Disks.{contents_of, disk_named, image_or, images_of}
use Rattle.site_core.specs.Made.{IsMadeSite}
use Rattle.site_core.specs.Quiet.{ReadsSame}
use Rattle.site_commands.specs.Commands.{AddsNone, IsPassed, Passes, uses}
use Rattle.site_commands.specs.Runs.{run_form}
use Rattle.site_forms.specs.declared.report.Report.{Report}
use Rattle.site_forms.specs.Reports.{status_told, text_told}
use Rattle.site_forms.specs.Forms.{IsDone, RestsOthers, ShownTo}
use Rattle.site_forms.specs.PassingLaws.{by_world, done_clean, done_none, world_of}
use Rattle.site_forms.specs.Starts.{start_of}
use Rattle.site_formatting.specs.Prepared.{own}
use Rattle.site_formatting.specs.Worlds.{IsBehind, IsUnformatted, formatted_at}
use Rattle.init_command.specs.Looks.{Tells}
use Rattle.init_command.specs.Sites.{with_catalogue}

-- a world that isn't formatted, with the catalogue's own area
abbrev pub bare : HeldWorld
bare = record { world = unformatted; held = own }

-- the catalogue was synced and has no header
pub record HasLooked {D : Type 0} (disk : Ghosts D) (from : ℕ) (old mid : Site D) : Type 0 where
  pub none : HasNoHead (contents_of disk old Cat)
  pub quiet : AddsNone (images_of disk old) (images_of disk mid)
  pub only : OnlyAfter (from + 1) (contents_of disk old Cat) (disk.image (cat_of mid.store.cat))

pub has_looked : {D : Type 0} (disk : Ghosts D) (from : ℕ) (old mid : Site D) (found : Bool) → found ≡ false → Tells found (contents_of disk old Cat)
    → AddsNone (images_of disk old) (images_of disk mid) → (synced : ℕ) → synced ≡ from + 1
    → OnlyAfter synced (contents_of disk old Cat) (disk.image (cat_of mid.store.cat)) → HasLooked disk from old mid
has_looked disk from old mid found is tells quiet synced first only = record {
  none = subst (λ (b : Bool). Tells b (contents_of disk old Cat)) is tells;
  quiet = quiet;
  only = subst (λ (e : ℕ). OnlyAfter e (contents_of disk old Cat) (disk.image (cat_of mid.store.cat))) first only;
}

module _ {D : Type 0} (disk : Ghosts D) (moment blocks : ℕ) (told : List SpaceHead) (from : ℕ) (old : Site D) where
  abbrev pub form : CommandForm
  form = init_form blocks (spaces_of told)

  abbrev pub head : Head
  head = head_at moment blocks (spaces_of told)

  -- a catalogue without a header shows a world that isn't formatted
  pub where_none : (P : HeldWorld → Type 0) → Tells false (contents_of disk old Cat) → ((held : Held) → P (record { world = unformatted; held = held }))
      → (at : HeldWorld) → ShownTo disk form from old old at → P at
  where_none P none is at = by_world (λ w. ShownTo disk form from old old w → P w) (λ held shown. is held)
      (λ site shown. absurd (not_both site.site.head site.site.store site.held (contents_of disk old Cat) none (shown.1 Cat refl))) at

  -- and is refused on a formatted one
  pub refused_done : (new : Site D) (after script : List ℕ) (era : ℕ) → Tells true (contents_of disk old Cat) → AddsNone (images_of disk old) (images_of disk new) → ReadsSame disk old new
      → (at : HeldWorld) → ShownTo disk form from old old at
      → IsDone false (start_of disk from old) (uses form at.world) at (run_form moment script form at.world) after (contents_of disk new) era (images_of disk new) (Err AlreadyFormatted)
  refused_done new after script era there none same =
      by_world (λ w. ShownTo disk form from old old w
      → IsDone false (start_of disk from old) (uses form w.world) w (run_form moment script form w.world) after (contents_of disk new) era (images_of disk new) (Err AlreadyFormatted))
      (λ held shown. absurd (shown.1 Cat refl there.0 there.1.is_head there.1.header))
      (λ at shown. record {
        status = refl;
        text = refl;
        work = done_none false (start_of disk from old) (uses form (world_of at).world) (world_of at) (run_form moment script form (world_of at).world) AlreadyFormatted after
            (contents_of disk new) era (images_of disk new) refl none same shown.1 (λ is. absurd (cc is));
      })

  module _ (mid new : Site D) (looked : HasLooked disk from old mid) where
    -- no image of the eras in which it is formatted has a header
    pub bare_there : (now : ℕ) → now ≡ from + 3 → IsUnformatted disk now mid bare
    bare_there now is = record { world = refl; area = refl; none = λ f c le image. subst HasNoHead (sym (looked.only f c (omega (arith, is, le)) image)) looked.none }

    clean : (f : ℕ) (name : DiskName) (bytes : List ℕ) → from + 3 ≤ f → images_of disk mid f name bytes → Shows name bare bytes
    clean f Cat bytes le image = (bare_there (from + 3) refl).none f bytes le image
    clean f Spare bytes le image = tt
    clean f Boot bytes le image = tt
    clean f Log bytes le image = tt
    clean f (OfVolume n) bytes le image = tt
    clean f (Chunk n) bytes le image = tt

    shown_there : (f : ℕ) (name : DiskName) (bytes : List ℕ) (next : HeldWorld) → from + 3 ≤ f → Follows Shows (images_of disk mid) f bare next name bytes → Shows name next bytes
    shown_there f name bytes next le = ⊎_elim (λ is. is) (λ was. was.1 (clean f name bytes le was.0))

    -- wherever it stops there is no site, or the new one whole
    pub formatting_passes : (now : ℕ) (script : List ℕ) → now ≡ from + 3
        → Goes Shows now (images_of disk mid) (images_of disk new) bare (IsBehind head bare)
        → (at : HeldWorld) → ShownTo disk form from old old at
        → Passes (start_of disk from old) (uses form at.world) (images_of disk new) at (IsPassed at (run_form moment script form at.world))
    formatting_passes now script is goes at shown =
        where_none (λ w. Passes (start_of disk from old) (uses form w.world) (images_of disk new) w (IsPassed w (run_form moment script form w.world))) looked.none
        (λ held. inr (record {
          earlier = λ f name bytes lt image. (looked.quiet f name bytes (goes.earlier f name bytes (omega (arith, is, lt)) image), λ later used. absurd (omega (arith, lt, later)));
          later = λ f choice le images. let among = goes.later f choice (omega (arith, is, le)) images in
              (among.0, among.1, λ name. inl (shown_there f name (choice name) among.0 le (among.2 name)));
        })) at shown

    -- at its end there is the new one
    pub formatting_done : (to : ℕ) (after script : List ℕ) → from + 3 ≤ to → Ends Shows to (images_of disk mid) (images_of disk new) bare (formatted_at head bare)
        → ((held : Held) (name : DiskName) → held.area ≡ 0 → ShowsSite name (new_site head) held (contents_of disk new name))
        → (at : HeldWorld) → ShownTo disk form from old old at
        → (result : Result Report Status) → status_told result ≡ Done → text_told result ≡ flat_map space_text (spaces_of told) ++ status_text Done
        → IsDone false (start_of disk from old) (uses form at.world) at (run_form moment script form at.world) after (contents_of disk new) (to + 1) (images_of disk new) result
    unfolding world_rules
    formatting_done to after script le ends shows at shown result status text =
        where_none (λ w. IsDone false (start_of disk from old) (uses form w.world) w (run_form moment script form w.world) after (contents_of disk new) (to + 1) (images_of disk new) result)
        looked.none (λ held. record {
          status = sym status;
          text = sym text;
          work = done_clean false (start_of disk from old) (uses form unformatted) (record { world = unformatted; held = held }) (run_form moment script form unformatted) (status_told result) after
              (contents_of disk new) (to + 1) (images_of disk new) (formatted_at head bare) refl
              (λ f name bytes later image. shown_there f name bytes (formatted_at head bare) (omega (arith, le, later)) (ends f name bytes (omega (arith, later)) image))
              (λ name is. shows own name refl)
              (λ is. absurd (cc is));
        }) at shown

-- the disks that aren't used: there are 17 volumes, and chunks without a space are as they were
module _ {D : Type 0} (disk : Ghosts D) (blocks : ℕ) (told : List SpaceHead) (old mid new : Site D) (old_made : IsMadeSite old) (new_made : IsMadeSite new)
    (same : mid ≡ with_catalogue old mid.store.cat)
    (others : (n : ℕ) → length told ≤ n → slice_get new.lanes.items n ≡ slice_get mid.lanes.items n) where
  no_volume : (n : ℕ) (volumes : List (Volume D)) → length volumes ≡ 17 → 16 < n → option_map volume_disk (slice_get volumes n) ≡ None
  no_volume n volumes count past = ap (option_map volume_disk) (slice_get_past volumes n (omega (arith, count, past)))

  same_lane : (n : ℕ) → length (spaces_of told) ≤ n → slice_get new.lanes.items n ≡ slice_get old.lanes.items n
  same_lane n le =
      others n (subst (λ (k : ℕ). k ≤ n) (length-map told space_of) le) ∙ ap (λ (s : Site D). slice_get s.lanes.items n) same

  same_image : (f : ℕ) (bytes : List ℕ) (was is : Option D) → is ≡ was → image_or disk is f bytes → image_or disk was f bytes
  same_image f bytes was is so image = subst (λ (o : Option D). image_or disk o f bytes) so image

  pub unused_rest : (from : ℕ) → RestsOthers disk (init_form blocks (spaces_of told)) from old new
  unused_rest from at shown f (OfVolume n) bytes isnt image =
      same_image f bytes (disk_named old (OfVolume n)) (disk_named new (OfVolume n))
      (no_volume n new.store.volumes.items new_made.store.count (leb-false n 16 isnt) ∙ sym (no_volume n old.store.volumes.items old_made.store.count (leb-false n 16 isnt))) image
  unused_rest from at shown f (Chunk n) bytes isnt image =
      same_image f bytes (disk_named old (Chunk n)) (disk_named new (Chunk n))
      (ap (option_map lane_disk) (same_lane n (ltb-false n (length (spaces_of told)) isnt))) image
  unused_rest from at shown f Cat bytes isnt image = absurd (cc isnt)
  unused_rest from at shown f Spare bytes isnt image = absurd (cc isnt)
  unused_rest from at shown f Boot bytes isnt image = absurd (cc isnt)
  unused_rest from at shown f Log bytes isnt image = absurd (cc isnt)
