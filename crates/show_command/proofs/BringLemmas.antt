-- What the work on one lane leaves of a site's disks.
use Rattle.std.proofs.Common.{◌≡◌, ◌∙◌, ℕ, ◌+◌, ◌^◌, ◌<◌, ◌≤◌, List, length, slice_set, true, false, Option, Some, inl, inr, refl, sym, ap, subst, arith}
use Rattle.std.specs.Prelude.{slice_get, IsTrue, Result, Err}
use Rattle.std.specs.Option.{option_map}
use Rattle.std.proofs.lemmas.Bool.{false≢true}
use Rattle.std.proofs.lemmas.Bool.Decides.{nat_tests}
use Rattle.std.proofs.lemmas.Option.{same_Some}
use Rattle.log_history.specs.Effects.{Change}
use Rattle.log_history.specs.Live.{reset_points}
use Rattle.log_history.specs.Effects.{Page}
use Rattle.log_history.specs.History.{History}
use Rattle.backup_lines.specs.declared.lanes.LaneState.{LaneState as State}
use Rattle.backup_lines.specs.declared.lanes.LaneState.TheVariants.{At, Blank, Image, Replay}
use Rattle.lane_steps.specs.Choices.{own}
use Rattle.lane_texts.specs.Listings.{HoldsPages as TextPages}
use Rattle.log_files.specs.Files.{LogFiles, end_of}
use Rattle.held_log.specs.Strays.{FirstStray}
use Rattle.held_log.specs.declared.faults.HeldFault.{HeldFault}
use Rattle.held_log.specs.declared.faults.HeldFault.TheVariants.{OutOfMemory as NoMemory, Failed, BadRecord as BadSlot}
use Rattle.held_site.specs.StrayLaws.{none_stray}
use Rattle.world_laws.specs.ListLaws.{none_some}
use Rattle.walks.specs.CoursesLaws.{way_begins}
use Rattle.site_core.specs.Checkpoints.{IsCheckpointFault, of_held}
use Rattle.site_disk.specs.Causes.{Rose}
use Rattle.site_core.specs.declared.faults.SiteFault.{SiteFault}
use Rattle.site_core.specs.declared.faults.SiteFault.TheVariants.{DiskFault}
use Rattle.site_core.specs.Faults.{IsFailure}
use Rattle.site_core.specs.Layers.{layers}
use Rattle.held_log.specs.Logs.{AreChanges, changes_held}
use Rattle.held_site.specs.HeldLaws.{site_lacks, site_place}
use Rattle.ring_laws.specs.FitLaws.{end_of-files_of}
use Rattle.ring_laws.specs.Rings.{files_of}
use Rattle.logical_log.specs.Rings.{disk_of as log_disk, Stands as LogStands, TellsOf}
use Rattle.logical_log.specs.declared.ring.LogRing.{LogRing}
use Rattle.site_disk.specs.Bytes.{Same}
use Rattle.site_disk.specs.Images.{Leaves}
use Rattle.site_disk.specs.ImagesLaws.{no_more_of}
use Rattle.site_disk.specs.Seen.{seen}
use Rattle.space_pages.specs.Pages.{pages_of}
use Rattle.space_lane.specs.Chunks.{HoldsState}
use Rattle.site_worlds.specs.Fitness.{FitRing}
use Rattle.world_laws.specs.RingLaws.{ring_of}
use Rattle.site_layouts.specs.Chunks.{lane_of}
use Rattle.site_core.specs.Quiet.{written_on}
use Rattle.lane_ways.specs.LiveLaws.{live_itself}
use Rattle.lane_ways.specs.Pictures.{Stand}
use Rattle.lane_ways.specs.WayLaws.{pages_at_live}
use Rattle.lane_ways.specs.Ways.{changes_behind, lane_changes, lane_pages}
use Rattle.lane_advance.specs.Advances.{Leads}
use Rattle.site_disk.specs.Ledger.{EraView, MayUse}
use Rattle.site_disk.specs.declared.disk.Disk.{Ghosts}
use Rattle.space_lane.specs.Lanes.{disk_of, Stands as LaneStands}
use Rattle.space_lane.specs.declared.lane.Lane.{Lane}
use Rattle.walks.specs.Follows.{Ends}
use Rattle.walks.specs.Moving.{MovesOne}
use Rattle.walks.specs.MovingLaws.{one_goes, one_comes}
use Rattle.walks.specs.Courses.{IsOnWay}
use Rattle.site_lanes.specs.Advancing.{Advances, IsAdvanced}
use Rattle.site_lanes.specs.Lanes.{ChangesOne}
use Rattle.site_lane_laws.specs.AdvancingLaws.{IsOnItsWay, done_agrees, done_shown, done_shows, may_shown, one_earlier}
use Rattle.site_lane_opening.specs.Left.{OneLane}
use Rattle.site_model.specs.declared.disk_name.DiskName.{DiskName}
use Rattle.site_model.specs.declared.disk_name.DiskName.TheVariants.{Cat, Spare, Boot, Log, Volume, Chunk}
use Rattle.site_worlds.specs.Worlds.{LaneState, Site, stands}
use Rattle.site_worlds.specs.Lanes.{pages_of_space}
use Rattle.site_worlds.specs.Fitness.{IsFitSite}
use Rattle.site_worlds.specs.Moves.{site_rules}
use Rattle.site_courses.specs.Courses.{lane_to_end}
use Rattle.site_layouts.specs.Chunks.{ShowsChunk}
use Rattle.site_layouts.specs.LaneWords.{LaneAgrees}
use Rattle.site_layouts.specs.Stages.{HeldSite, ShowsHeld, StandsFor}
use Rattle.site_core.specs.declared.site.Site.{Site as Values}
use Rattle.site_core.specs.Disks.{image_or, images_of}
use Rattle.show_command.specs.Bringing.{GoesAlong, HoldsAtEnd, IsBrought, MayBring, is_chunk_of}
use Rattle.show_command.proofs.FrameLemmas.{is_there, rest_images}
use Rattle.show_command.proofs.WayLemmas.{StandsSomewhere, apart, behind_way, goal_is, goals, lane_stands, on_way, own_shows, with_place}

-- a state that stands for a lane at a place
at_place : (state : State) (upto part : ℕ) → lane_of state ≡ stands upto part → state ≡ At upto part
at_place (At further more) upto part same =
    let a : further ≡ upto = cc in let b : more ≡ part = cc in ap (λ (u : ℕ). At u more) a ∙ ap (λ (p : ℕ). At upto p) b
at_place (Blank restore) upto part same = cc
at_place (Image restore chain image entries) upto part same = cc
at_place (Replay restore chain further more) upto part same = cc

module _ {D : Type 0} (disk : Ghosts D) (tells : IsTrue disk.is_modelled) (reads : (d : D) (f : ℕ) → (disk.ledger d).last ≤ f → disk.image d f (disk.bytes d))
    (era : EraView) (space : ℕ) (at : HeldSite) (old new : Values D) (changes : List Change) (upto part : ℕ) (fit : IsFitSite at.site)
    (lane_is : slice_get at.site.lanes space ≡ Some (stands upto part)) (one : OneLane disk era.number space at old)
    (leads : Leads at.site.history (length at.site.history) space (pages_of_space at.site.head.spaces space) (length at.site.history) upto part changes)
    (was is : Lane D) (was_there : slice_get old.lanes.items space ≡ Some was) (is_there : slice_get new.lanes.items space ≡ Some is)
    (rest : (f : ℕ) (name : DiskName) (bytes : List ℕ) → is_chunk_of space name ≡ false → images_of disk new f name bytes → images_of disk old f name bytes) where
  abbrev count : ℕ
  count = pages_of_space at.site.head.spaces space

  abbrev end : ℕ
  end = length at.site.history

  was_is : one.value ≡ was
  was_is = same_Some one.value was (sym one.value_is ∙ was_there)

  lane_was : one.lane ≡ stands upto part
  lane_was = same_Some one.lane (stands upto part) (sym one.lane_is ∙ lane_is)

  agrees : LaneAgrees disk era.number at.site.head.site count at.site.number at.site.active space was (stands upto part)
  agrees = subst (λ (l : LaneState). LaneAgrees disk era.number at.site.head.site count at.site.number at.site.active space was l) lane_was
      (subst (λ (v : Lane D). LaneAgrees disk era.number at.site.head.site count at.site.number at.site.active space v one.lane) was_is one.agrees)

  image_of : (s : Values D) (v : Lane D) → slice_get s.lanes.items space ≡ Some v → (f : ℕ) (bytes : List ℕ) → images_of disk s f (Chunk space) bytes → disk.image (disk_of v) f bytes
  image_of s v is f bytes image = subst (λ (o : Option (Lane D)). image_or disk (option_map disk_of o) f bytes) is image

  image_from : (s : Values D) (v : Lane D) → slice_get s.lanes.items space ≡ Some v → (f : ℕ) (bytes : List ℕ) → disk.image (disk_of v) f bytes → images_of disk s f (Chunk space) bytes
  image_from s v is f bytes image = subst (λ (o : Option (Lane D)). image_or disk (option_map disk_of o) f bytes) (sym is) image

  way : IsOnItsWay disk tells era at.site space count upto part changes was is
  way = record {
    fit = fit;
    agrees = agrees;
    shows = subst (λ (o : Option LaneState). ShowsChunk at.site.head at.site.history at.site.lines at.site.number at.site.active space o (disk.bytes (disk_of was))) lane_is
        (one.shows era.number (disk.bytes (disk_of was)) (omega arith)
        (image_from old was was_there era.number (disk.bytes (disk_of was)) (reads (disk_of was) era.number (omega (arith, agrees.earlier)))));
    leads = leads;
  }

  abbrev Passed : HeldSite → Type 0
  Passed w = IsOnWay site_rules (lane_to_end space at.site) at.site w.site

  named_chunk : (name : DiskName) → is_chunk_of space name ≡ true → name ≡ Chunk space
  named_chunk Cat is = absurd (false≢true is)
  named_chunk Spare is = absurd (false≢true is)
  named_chunk Boot is = absurd (false≢true is)
  named_chunk Log is = absurd (false≢true is)
  named_chunk (Volume n) is = absurd (false≢true is)
  named_chunk (Chunk n) is = let same : n ≡ space = grind (arith, nat_tests, is) in ap Chunk same

  module _ (works : Advances disk era end changes was is) where
    moves_one : MovesOne ShowsHeld (Chunk space) (is_chunk_of space) era.number (images_of disk old) (images_of disk new) at Passed
    moves_one = record {
      is_who = named_chunk;
      others = λ f name bytes isnt image. rest f name bytes isnt image;
      earlier = λ f bytes lt image. image_from old was was_there f bytes
          (one_earlier disk tells era at.site space count upto part changes was is way (goals space at upto part lane_is) lane_is (goal_is space at upto part lane_is)
          (inr works) f bytes lt (image_of new is is_there f bytes image));
      moves = λ f bytes le image.
          let shown = may_shown disk tells era at.site space count upto part changes was is way (goals space at upto part lane_is) lane_is (goal_is space at upto part lane_is)
          (inr works) f bytes le (image_of new is is_there f bytes image) in (
            with_place space at upto part lane_is shown.0,
            on_way space at upto part lane_is shown.0 shown.1,
            inl (own_shows space at upto part lane_is shown.0 bytes shown.2),
            apart space at upto part lane_is (images_of disk old) f shown.0,
          );
    }

    -- wherever it stops
    pub goes_along : GoesAlong disk era.number space at old new
    goes_along = one_goes ShowsHeld (Chunk space) (is_chunk_of space) era.number (images_of disk old) (images_of disk new) at Passed moves_one

  -- or at its end
  module _ (done : IsAdvanced disk era end changes was is) where
    abbrev pub at_last : HeldSite
    at_last = with_place space at upto part lane_is (stands end 0)

    pub ends_there : Ends ShowsHeld (era.number + 1) (images_of disk old) (images_of disk new) at at_last
    ends_there = (one_comes ShowsHeld (Chunk space) (is_chunk_of space) era.number (era.number + 1) (images_of disk old) (images_of disk new) at Passed at_last (record {
      no_earlier = omega arith;
      moves = moves_one done.works;
      ends = λ f bytes le image. inl (own_shows space at upto part lane_is (stands end 0) bytes
          (done_shown disk tells era at.site space count upto part changes was is way done f bytes le (image_of new is is_there f bytes image)));
      apart = λ f le. apart space at upto part lane_is (images_of disk old) f (stands end 0);
    })).ends

    pub there_agrees : LaneAgrees disk (era.number + 1) at.site.head.site count at.site.number at.site.active space is (stands end 0)
    there_agrees = done_agrees disk tells era at.site space count upto part changes was is way done

    -- its chunk holds the pages at the end of the log
    pub held_there : end < 2 ^ 64
        → ((site space count n : ℕ) (state : State) (history : History) (bytes : List ℕ) → n < 2 ^ 64 → HoldsState site space count state bytes
        → Stand space 0 (pages_of history n space 0 count) bytes → TextPages space count (pages_of history n space 0 count) bytes)
        → HoldsAtEnd disk space at is
    held_there fits law =
        let stands_in = there_agrees.agrees in
        let state : stands_in.state ≡ At end 0 = at_place stands_in.state end 0 stands_in.is in
        let stood : LaneStands at.site.head.site count (At end 0) (seen disk (disk_of is)) is =
        subst (λ (s : State). LaneStands at.site.head.site count s (seen disk (disk_of is)) is) state stands_in.stands in
        law at.site.head.site space count end (At end 0) at.site.history (disk.bytes (disk_of is)) fits
        (subst (λ (s : ℕ). HoldsState at.site.head.site s count (At end 0) (disk.bytes (disk_of is))) there_agrees.space_is stood.agrees.holds)
        (subst (λ (p : List Page). Stand space 0 p (disk.bytes (disk_of is))) (pages_at_live at.site.history end end space count (live_itself (reset_points at.site.history) end))
        (subst (Stand space 0 (lane_pages at.site.history end space end 0 count)) stood.settled
        (done_shows disk tells era at.site space count upto part changes was is way done).stand))

-- the log is read, which leaves no new image

module _ {D : Type 0} (disk : Ghosts D) (counts : (d : D) (f g : ℕ) (c : List ℕ) → (disk.ledger d).last ≤ f → (disk.ledger d).last < g → disk.image d g c → disk.image d f c)
    (era : EraView) (old : Values D) (log : LogRing D) (may_use : MayUse era (disk.ledger (log_disk old.log)))
    (crash : Leaves era.number Same (disk.image (log_disk old.log)) (disk.image (log_disk log))) where
  abbrev pub read_mid : Values D
  read_mid = record old { log = log }

  pub read_images : (f : ℕ) (name : DiskName) (bytes : List ℕ) → images_of disk read_mid f name bytes → images_of disk old f name bytes
  read_images f Cat bytes image = image
  read_images f Spare bytes image = image
  read_images f Boot bytes image = image
  read_images f Log bytes image = no_more_of era.number (disk.image (log_disk old.log)) (disk.image (log_disk log)) crash
      (λ c pending. counts (log_disk old.log) era.number (era.number + 1) c may_use.not_past (omega (arith, may_use.not_past)) pending) f bytes image
  read_images f (Volume n) bytes image = image
  read_images f (Chunk n) bytes image = image

  pub read_written : (disk.ledger (log_disk log)).written ≤ (disk.ledger (log_disk old.log)).written → (name : DiskName) → written_on disk read_mid name ≤ written_on disk old name
  read_written le Cat = omega arith
  read_written le Spare = omega arith
  read_written le Boot = omega arith
  read_written le Log = le
  read_written le (Volume n) = omega arith
  read_written le (Chunk n) = omega arith

-- by what the files held tell, this lane goes to the end
pub leads_by_held : (space : ℕ) (site : Site) (upto part : ℕ) (changes : List Change) → IsFitSite site → (may : MayBring space site) → slice_get site.lanes space ≡ Some (stands upto part)
    → changes ≡ changes_held (files_of site.starts site.history may.has.ring) → AreChanges (end_of (files_of site.starts site.history may.has.ring)) changes → length changes ≤ 2048
    → Leads site.history (length site.history) space (pages_of_space site.head.spaces space) (length site.history) upto part changes
leads_by_held space site upto part changes fit may there same good few = record {
  is_to = refl;
  place = site_place site may.has.ring space upto part may.has.is may.none fit there;
  handed = subst (λ (l : List Change). changes_behind upto (own space (pages_of_space site.head.spaces space) l) ≡ changes_behind upto (lane_changes site.history (length site.history) space))
      (sym same) (site_lacks site may.has.ring space upto part may.has.is may.none fit there);
  rises = good.rises;
  lie = good.within;
  few = omega (arith, few);
}

pub ends_there_held : (space : ℕ) (site : Site) → IsFitSite site → (may : MayBring space site) → end_of (files_of site.starts site.history may.has.ring) ≡ length site.history
ends_there_held space site fit may =
    let holds : FitRing site.history site.starts site.lines may.has.ring = ring_of site may.has.ring may.has.is fit in
    end_of-files_of site.head.spaces site.history site.starts fit.history may.has.ring holds.oldest holds.held

-- the call as a whole

module _ {D : Type 0} (disk : Ghosts D) (tells : IsTrue disk.is_modelled) (reads : (d : D) (f : ℕ) → (disk.ledger d).last ≤ f → disk.image d f (disk.bytes d))
    (counts : (d : D) (f g : ℕ) (c : List ℕ) → (disk.ledger d).last ≤ f → (disk.ledger d).last < g → disk.image d g c → disk.image d f c)
    (era : EraView) (space : ℕ) (old : Values D) (log : LogRing D) (new : Values D) (may_use : MayUse era (disk.ledger (log_disk old.log)))
    (crash : Leaves era.number Same (disk.image (log_disk old.log)) (disk.image (log_disk log)))
    (others : new ≡ record old { log = log; lanes = new.lanes }) (to : ℕ) (changes : List Change)
    (at : HeldSite) (stands_for : StandsFor (layers disk) 2 era.number old at) (one : OneLane disk era.number space at old) (may : MayBring space at.site)
    (told : (files : LogFiles) → TellsOf files old.log → to ≡ end_of files)
    (same : (site : ℕ) (files : LogFiles) → LogStands site files (seen disk (log_disk old.log)) old.log → changes ≡ changes_held files)
    (good : (site : ℕ) (files : LogFiles) → LogStands site files (seen disk (log_disk old.log)) old.log → AreChanges (end_of files) changes)
    (few : (site : ℕ) (files : LogFiles) → LogStands site files (seen disk (log_disk old.log)) old.log → length changes ≤ 2048) where
  abbrev files : LogFiles
  files = files_of at.site.starts at.site.history may.has.ring

  log_there : LogStands at.site.head.site files (seen disk (log_disk old.log)) old.log
  log_there = (stands_for.agree.log (omega arith)).stands may.has.ring may.has.is

  pub to_is : to ≡ length at.site.history
  to_is = told files log_there.tells ∙ ends_there_held space at.site stands_for.fits may

  somewhere : StandsSomewhere one.lane
  somewhere = lane_stands space at.site one.lane stands_for.fits may one.lane_is

  lane_at : slice_get at.site.lanes space ≡ Some (stands somewhere.0 somewhere.1)
  lane_at = one.lane_is ∙ ap (λ (l : LaneState). Some l) somewhere.2

  goes_on : Leads at.site.history (length at.site.history) space (pages_of_space at.site.head.spaces space) (length at.site.history) somewhere.0 somewhere.1 changes
  goes_on = leads_by_held space at.site somewhere.0 somewhere.1 changes stands_for.fits may lane_at
      (same at.site.head.site files log_there) (good at.site.head.site files log_there) (few at.site.head.site files log_there)

  rest_by : (was is : Lane D) → slice_get old.lanes.items space ≡ Some was → new.lanes.items ≡ slice_set old.lanes.items space is
      → (f : ℕ) (name : DiskName) (bytes : List ℕ) → is_chunk_of space name ≡ false → images_of disk new f name bytes → images_of disk old f name bytes
  rest_by was is there changed f name bytes isnt image =
      read_images disk counts era old log may_use crash f name bytes
      (rest_images disk space (read_mid disk counts era old log may_use crash) new others was is there changed f name bytes isnt image)

  pub goes_by : ChangesOne (Advances disk era to changes) space old.lanes.items new.lanes.items → GoesAlong disk era.number space at old new
  goes_by change =
      goes_along disk tells reads era space at old new changes somewhere.0 somewhere.1 stands_for.fits lane_at one goes_on change.was change.is change.there
      (is_there disk space (read_mid disk counts era old log may_use crash) new others change.was change.is change.there change.changed)
      (rest_by change.was change.is change.there change.changed)
      (subst (λ (e : ℕ). Advances disk era e changes change.was change.is) to_is change.by)

  pub brought_by : ChangesOne (IsAdvanced disk era to changes) space old.lanes.items new.lanes.items → to ≤ 2 ^ 48
      → ((site space count n : ℕ) (state : State) (history : History) (bytes : List ℕ) → n < 2 ^ 64 → HoldsState site space count state bytes
      → Stand space 0 (pages_of history n space 0 count) bytes → TextPages space count (pages_of history n space 0 count) bytes)
      → (now : ℕ) → now ≡ era.number + 1 → IsBrought disk now space at old new
  brought_by change small law now now_is =
      let there = is_there disk space (read_mid disk counts era old log may_use crash) new others change.was change.is change.there change.changed in
      let rest = rest_by change.was change.is change.there change.changed in
      let done : IsAdvanced disk era (length at.site.history) changes change.was change.is = subst (λ (e : ℕ). IsAdvanced disk era e changes change.was change.is) to_is change.by in
      record {
        last = at_last disk tells reads era space at old new changes somewhere.0 somewhere.1 stands_for.fits lane_at one goes_on change.was change.is change.there there rest done;
        last_is = behind_way space at somewhere.0 somewhere.1 lane_at;
        ends = subst (λ (n : ℕ). Ends ShowsHeld n (images_of disk old) (images_of disk new) at
            (at_last disk tells reads era space at old new changes somewhere.0 somewhere.1 stands_for.fits lane_at one goes_on change.was change.is change.there there rest done)) (sym now_is)
            (ends_there disk tells reads era space at old new changes somewhere.0 somewhere.1 stands_for.fits lane_at one goes_on change.was change.is change.there there rest done);
        value = change.is;
        value_is = there;
        space_is = (there_agrees disk tells reads era space at old new changes somewhere.0 somewhere.1 stands_for.fits lane_at one goes_on change.was change.is change.there there rest done).space_is;
        pages = held_there disk tells reads era space at old new changes somewhere.0 somewhere.1 stands_for.fits lane_at one goes_on change.was change.is change.there there rest done
            (omega (arith, to_is, small)) law;
      }

-- a fault of reading the log, where nothing else was done: no fit site has a stray record

pub held_fails : {D : Type 0} (disk : Ghosts D) (space from : ℕ) (old : Values D) (at : HeldSite) → StandsFor (layers disk) 2 from old at → MayBring space at.site → (fault : HeldFault)
    → ((site : ℕ) (files : LogFiles) (slot : ℕ) → LogStands site files (seen disk (log_disk old.log)) old.log → fault ≡ BadSlot slot → FirstStray files slot)
    → IsFailure (of_held fault)
held_fails disk space from old at stands_for may NoMemory stray = tt
held_fails disk space from old at stands_for may Failed stray = tt
held_fails disk space from old at stands_for may (BadSlot slot) stray =
    absurd (none_some (sym (none_stray at.site may.has.ring may.has.is stands_for.fits)
    ∙ stray at.site.head.site (files_of at.site.starts at.site.history may.has.ring) slot ((stands_for.agree.log (omega arith)).stands may.has.ring may.has.is) refl))

-- what leaves no more images stays where it is
pub goes_none : {D : Type 0} (disk : Ghosts D) (from space : ℕ) (at : HeldSite) (old new : Values D)
    → ((f : ℕ) (name : DiskName) (bytes : List ℕ) → images_of disk new f name bytes → images_of disk old f name bytes) → GoesAlong disk from space at old new
goes_none disk from space at old new none = record {
  earlier = λ f name bytes lt image. none f name bytes image;
  later = λ f choice le images. (at, way_begins site_rules (lane_to_end space at.site) at.site, λ name. inr (none f name (choice name) (images name), λ shows. shows));
}

-- faults

pub rose_later : (a b c : ℕ) → a ≤ b → Rose b c → Rose a c
rose_later a b c le rose = omega (arith, le, rose)

pub held_checks : (fault : HeldFault) → IsCheckpointFault (of_held fault)
held_checks NoMemory = tt
held_checks Failed = tt
held_checks (BadSlot slot) = refl

pub held_names : (fault : HeldFault) (name : DiskName) → of_held fault ≡ DiskFault name → (fault ≡ Failed) × (Log ≡ name)
held_names NoMemory name is = absurd cc
held_names Failed name is = (refl, cc)
held_names (BadSlot slot) name is = absurd cc

pub chunk_named : (space : ℕ) (name : DiskName) → DiskFault (Chunk space) ≡ DiskFault name → Chunk space ≡ name
chunk_named space name is = cc

pub same_fault : {A : Type 0} (result : Result A SiteFault) (told fault other : SiteFault) → result ≡ Err told → told ≡ fault → result ≡ Err other → fault ≡ other
same_fault result told fault other is same err = cc
