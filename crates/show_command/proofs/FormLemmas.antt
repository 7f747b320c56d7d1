-- What the form comes to in each world that the disks show.
use Rattle.std.proofs.Common.{◌≡◌, ◌⊎◌, ◌∙◌, ℕ, ◌+◌, ◌≤◌, List, [], ◌++◌, map, Bool, false, ◌==◌, Option, None, Some, inl, inr, ⊎_elim, refl, sym, ap, subst, arith}
use Rattle.std.specs.Prelude.{Ok, Err}
use Rattle.std.specs.Option.{option_or}
use Rattle.std.proofs.lemmas.Bool.{false≢true}
use Rattle.std.proofs.lemmas.Bool.Decides.{nat_tests}
use Rattle.onbar_grammar.specs.Script.{place_of}
use Rattle.command_grammar.specs.Words.{show_form}
use Rattle.site_disk.specs.declared.disk.Disk.{Ghosts}
use Rattle.walks.specs.Follows.{Comes, Follows}
use Rattle.walks.specs.FollowsLaws.{comes_after, goes_after, goes_wider}
use Rattle.walks.specs.Courses.{Course, IsOnWay, after_all, make, only}
use Rattle.walks.specs.CoursesLaws.{way_begins}
use Rattle.log_history.specs.History.{History}
use Rattle.site_model.specs.declared.disk_name.DiskName.{DiskName}
use Rattle.site_model.specs.declared.disk_name.DiskName.TheVariants.{Cat, Spare, Boot, Log, Volume, Chunk}
use Rattle.site_model.specs.declared.status.Status.{Status}
use Rattle.site_model.specs.declared.status.Status.TheVariants.{NotFormatted, Ok as DoneStatus}
use Rattle.site_model.specs.Runs.{shown_text}
use Rattle.site_model.specs.Texts.{status_text}
use Rattle.site_worlds.specs.Worlds.{formatted, unformatted}
use Rattle.site_worlds.specs.Fitness.{IsFit, IsFitSite}
use Rattle.site_worlds.specs.Lanes.{pages_of_space}
use Rattle.site_worlds.specs.Moves.{Move, WorldMove, moves_on, site_rules, world_rules}
use Rattle.site_courses.specs.Faults.{Fault, not_formatted}
use Rattle.site_courses.specs.Courses.{lane_to_end, show_course}
use Rattle.site_layouts.specs.Layouts.{HeldWorld}
use Rattle.site_layouts.specs.Stages.{HeldSite, ShowsHeld, StandsFor}
use Rattle.site_layouts.specs.Stores.{Held}
use Rattle.site_lane_opening.specs.Left.{OneLane}
use Rattle.site_commands.specs.Commands.{CutsShort, HasDone, IsPassed, Passes, Start, StandOn, is_shown, once_synced, uses}
use Rattle.site_commands.specs.Runs.{CommandResult, refused_by, run_form, show_text, site_behind, status_of}
use Rattle.site_openings.specs.Openings.{DisksRefuse}
use Rattle.site_core.specs.declared.faults.SiteFault.{SiteFault}
use Rattle.site_core.specs.declared.faults.SiteFault.TheVariants.{OutOfMemory, DiskFault, NotFormatted as NoSite, AlreadyFormatted, BadRecord, NeedsRestart, NoSuchSpace, NoSuchPage, ChunkLost, LogLost, LogFull, StoreFull, CatalogueFull, TooManyObjects, BootFull}
use Rattle.site_core.specs.declared.site.Site.{Site as Values}
use Rattle.site_core.specs.Disks.{contents_of, images_of}
use Rattle.site_core.specs.Faults.{IsFailure, fault_in, status_in}
use Rattle.site_core.specs.Layers.{layers}
use Rattle.site_core.specs.Quiet.{IsQuiet}
use Rattle.site_forms.specs.declared.report.Report.{Report}
use Rattle.site_forms.specs.Reports.{status_told, text_told}
use Rattle.site_forms.specs.Forms.{Finishes, FinishesBy, IsDone, PassesBy, RestsOthers}
use Rattle.site_forms.specs.PassingLaws.{by_world, done_ends, done_none, passes_moves, world_of}
use Rattle.site_forms.specs.Starts.{IsKept, IsOfChunk, start_of}
use Rattle.show_command.specs.declared.opening.Place.{Place}
use Rattle.show_command.specs.Bringing.{GoesAlong, MayBring, RestsBut, is_chunk_of}
use Rattle.show_command.specs.Showing.{Enters, IsOfReading, IsReady, IsReadingFault, IsRefusedAt, IsTold, ShowsUsed, StaysIn, if_lane_lost, if_refused, is_used, pair_of}
use Rattle.show_command.proofs.CheckLemmas.{ready_none}
use Rattle.show_command.proofs.PlaceLemmas.{place_pages}
use Rattle.show_command.proofs.RefusalLemmas.{checked, moves_for, same_history, shows_are, tells_refusal}

pub failure_cuts : (fault : SiteFault) → IsFailure fault → CutsShort (status_in fault)
failure_cuts OutOfMemory is = tt
failure_cuts (DiskFault disk) is = tt
failure_cuts NoSite is = absurd is
failure_cuts AlreadyFormatted is = absurd is
failure_cuts (BadRecord disk slot) is = absurd is
failure_cuts (NeedsRestart number) is = absurd is
failure_cuts (NoSuchSpace name) is = absurd is
failure_cuts (NoSuchPage page) is = absurd is
failure_cuts (ChunkLost space name) is = absurd is
failure_cuts LogLost is = absurd is
failure_cuts (LogFull why) is = absurd is
failure_cuts (StoreFull volume) is = absurd is
failure_cuts CatalogueFull is = absurd is
failure_cuts TooManyObjects is = absurd is
failure_cuts BootFull is = absurd is

module _ {D : Type 0} (disk : Ghosts D) (name : List ℕ) (page : Option ℕ) (from : ℕ) (old : Values D) where
  abbrev start : Start
  start = start_of disk from old

  -- the disks show a world that the form uses
  abbrev Shown : HeldWorld → Type 0
  Shown at = IsFit at.world × StandOn (uses (show_form name page) at.world) (contents_of disk old) at

  -- a site that isn't formatted is refused as such
  no_site : (held : Held) → Shown (record { world = unformatted; held = held }) → DisksRefuse (show_form name page) (contents_of disk old) NotFormatted
  no_site held shown = inl (shown.1 Cat refl, refl)

  module _ (at : HeldSite) (now : ℕ) (mid : Values D) (stays : StaysIn disk name page from now at old mid) where
    follows_still : (f : ℕ) (other : DiskName) (bytes : List ℕ) → from + 3 ≤ f → images_of disk mid f other bytes
        → Follows ShowsHeld (once_synced start (is_used name page at)) f at at other bytes
    follows_still f other bytes le image = ⊎_elim
        (λ shows. inl shows)
        (λ aside. inr ((aside.0, λ late is. absurd (false≢true (sym aside.1 ∙ is))), λ shows. shows))
        (stays.later f other bytes (omega (arith, le)) image)

    comes_still : (to : ℕ) → from + 3 ≤ to → Comes ShowsHeld (from + 3) to (once_synced start (is_used name page at)) (images_of disk mid) at (λ w. w ≡ at) at
    comes_still to le = record {
      no_earlier = le;
      goes = record {
        earlier = λ f other bytes lt image. (stays.first f other bytes (omega (arith, lt)) image, λ late. absurd (omega (arith, lt, late)));
        later = λ f choice from images. (at, refl, λ other. follows_still f other (choice other) from (images other));
      };
      ends = λ f other bytes from image. follows_still f other bytes (omega (arith, le, from)) image;
    }

  -- a form that is refused, or cut short before its lane is brought anywhere
  module _ (to : ℕ) (new : Values D) (moment : ℕ) (script after : List ℕ) (fault : SiteFault)
      (enters : (at : HeldSite) → IsFitSite at.site → ShowsUsed disk name page at old → Enters disk name page from to at old new (Err fault))
      (harmless : (status : Status) → DisksRefuse (show_form name page) (contents_of disk old) status → IsOfChunk status ⊎ IsQuiet disk old new) where
    quiet : (held : Held) → Shown (record { world = unformatted; held = held }) → IsQuiet disk old new
    quiet held shown = ⊎_elim (λ of. absurd of) (λ is. is) (harmless NotFormatted (no_site held shown))

    pub passes_refused : PassesBy disk (show_form name page) from old new moment script
    passes_refused = by_world
        (λ at. Shown at → Passes start (uses (show_form name page) at.world) (images_of disk new) at (IsPassed at (run_form moment script (show_form name page) at.world)))
        (λ held shown. inl (quiet held shown).images)
        (λ at shown. ⊎_elim (λ none. inl none) (λ stays.
        passes_moves start (is_used name page at) (once_synced start (is_used name page at)) (images_of disk new) at (run_form moment script (show_form name page) (formatted at.site))
        (show_course name page at.site) refl (λ f other bytes image. image)
        (goes_wider ShowsHeld (from + 3) (once_synced start (is_used name page at)) (images_of disk new) at (λ (w : HeldSite). w ≡ at)
        (λ (w : HeldSite). IsOnWay site_rules (show_course name page at.site).moves at.site w.site)
        (λ w same. subst (λ (v : HeldSite). IsOnWay site_rules (show_course name page at.site).moves at.site v.site) (sym same)
        (way_begins site_rules (show_course name page at.site).moves at.site))
        (comes_still at to new stays (from + 3) (omega arith)).goes))
        (enters at shown.0 shown.1).0)

    pub rests_refused : RestsOthers disk (show_form name page) from old new
    rests_refused = by_world
        (λ at. Shown at → (f : ℕ) (other : DiskName) (bytes : List ℕ) → uses (show_form name page) at.world other ≡ false → images_of disk new f other bytes → images_of disk old f other bytes)
        (λ held shown f other bytes isnt image. (quiet held shown).images f other bytes image)
        (λ at shown f other bytes isnt image. ⊎_elim (λ none. none f other bytes image) (λ stays. stays.aside f other bytes isnt image) (enters at shown.0 shown.1).0)

    module _ (at : HeldSite) (shown : Shown (world_of at)) (is : IsRefusedAt disk name page from to at old new fault) where
      abbrev run : CommandResult
      run = run_form moment script (show_form name page) (formatted at.site)

      course_is : show_course name page at.site ≡ only (Some (fault_in fault))
      course_is = shows_are name page at.site ∙ ap (λ (o : Option Fault). checked o (make (moves_for (place_of name at.site.head.spaces) at.site))) is.refusal

      none_made : run.course.moves ≡ []
      none_made = ap (λ (c : Course Move Fault). map moves_on c.moves) course_is

      work : HasDone false start (is_used name page at) (world_of at) run (status_in fault) after (contents_of disk new) (to + 1) (images_of disk new)
      work = ⊎_elim
          (λ kept. done_none false start (is_used name page at) (world_of at) run (status_in fault) after (contents_of disk new) (to + 1) (images_of disk new)
          none_made kept.0.images kept.1 shown.1 (λ reads. absurd (false≢true reads)))
          (λ still. record {
            last = world_of at;
            last_is = ap (λ (moves : List WorldMove). after_all world_rules moves (formatted at.site)) (sym none_made);
            stand = still.1;
            crash = inr (λ f other bytes le image. follows_still at to new still.0 f other bytes (let second = still.0.second in omega (arith, second, le)) image);
            script = λ reads. absurd (false≢true reads);
          })
          is.still

      refused_done : IsDone false start (is_used name page at) (world_of at) run after (contents_of disk new) (to + 1) (images_of disk new) (Err (status_in fault))
      refused_done =
          let tells = tells_refusal name page at.site fault is.refusal is.named in record {
            status = ap (λ (c : Course Move Fault). status_of at.site.head.spaces c.fault) course_is ∙ tells.status;
            text = ap (λ (c : Course Move Fault). show_text at.site.head.spaces (site_behind c at.site).history name page (place_of name at.site.head.spaces) c.fault) course_is ∙ ap status_text tells.status;
            work = work;
          }

    -- where the site isn't formatted
    none_done : (answers : IsFailure fault ⊎ DisksRefuse (show_form name page) (contents_of disk old) (status_in fault))
        → (kept : IsFailure fault ⊎ (IsOfChunk (status_in fault) ⊎ IsKept disk old new)) → (held : Held) → Shown (record { world = unformatted; held = held })
        → Finishes false start (uses (show_form name page) unformatted) (record { world = unformatted; held = held }) (refused_by not_formatted) after (contents_of disk new) (to + 1)
        (images_of disk new) (Err (status_in fault))
    none_done answers kept held shown = ⊎_elim
        (λ failed. inl (failure_cuts fault failed))
        (⊎_elim
        (λ none. ⊎_elim
        (λ failed. inl (failure_cuts fault failed))
        (⊎_elim (λ of. absurd (subst IsOfChunk none.1 of)) (λ same. inr (record {
          status = sym none.1;
          text = ap status_text (sym none.1);
          work = done_none false start (uses (show_form name page) unformatted) (record { world = unformatted; held = held }) (refused_by not_formatted) (status_in fault) after
              (contents_of disk new) (to + 1) (images_of disk new) refl same.0.images same.1 shown.1
              (λ reads. absurd (false≢true reads));
        })))
        kept)
        (λ other. absurd (shown.1 Cat refl other.0.0 other.0.1.is_head other.0.1.header)))
        answers

    pub finishes_refused : IsFailure fault ⊎ DisksRefuse (show_form name page) (contents_of disk old) (status_in fault)
        → IsFailure fault ⊎ (IsOfChunk (status_in fault) ⊎ IsKept disk old new)
        → FinishesBy disk (show_form name page) from old new to moment script after (Err (status_in fault))
    finishes_refused answers kept = by_world
        (λ at. Shown at → Finishes false start (uses (show_form name page) at.world) at (run_form moment script (show_form name page) at.world) after (contents_of disk new) (to + 1)
        (images_of disk new) (Err (status_in fault)))
        (λ held shown. none_done answers kept held shown)
        (λ at shown. ⊎_elim (λ failed. inl (failure_cuts fault failed)) (λ is. inr (refused_done at shown is)) (enters at shown.0 shown.1).1)

  -- a form whose lane is brought to the end
  module _ (now to : ℕ) (mid new : Values D) (place : Place) (moment : ℕ) (script after : List ℕ)
      (enters : (at : HeldSite) → IsFitSite at.site → ShowsUsed disk name page at old → IsReady disk name page from now place at mid × StaysIn disk name page from now at old mid)
      (harmless : (status : Status) → DisksRefuse (show_form name page) (contents_of disk old) status → ⊥)
      (goes : (at : HeldSite) → StandsFor (layers disk) 2 now mid at → OneLane disk now place.space at mid → MayBring place.space at.site → GoesAlong disk now place.space at mid new)
      (rest : RestsBut disk place.space mid new) where
    course_of : (at : HeldSite) → IsReady disk name page from now place at mid → show_course name page at.site ≡ make (lane_to_end place.space at.site)
    course_of at ready =
        let none : if_refused name page at.site ≡ None =
        ap (λ (o : Option Fault). option_or o (if_lane_lost (place_of name at.site.head.spaces) at.site)) (ready_none name page at.site place ready.may.none ready.placed ready.may.has)
        ∙ ap (λ (p : Option (ℕ × ℕ)). if_lane_lost p at.site) ready.placed.there ∙ ready.may.not_lost in
        shows_are name page at.site ∙ ap (λ (o : Option Fault). checked o (make (moves_for (place_of name at.site.head.spaces) at.site))) none
        ∙ ap (λ (p : Option (ℕ × ℕ)). make (moves_for p at.site)) ready.placed.there

    pub passes_run : PassesBy disk (show_form name page) from old new moment script
    passes_run = by_world
        (λ at. Shown at → Passes start (uses (show_form name page) at.world) (images_of disk new) at (IsPassed at (run_form moment script (show_form name page) at.world)))
        (λ held shown. absurd (harmless NotFormatted (no_site held shown)))
        (λ at shown.
        let begun = enters at shown.0 shown.1 in
        let used : DiskName → Bool = is_used name page at in
        let moves : List Move = (show_course name page at.site).moves in
        let same : lane_to_end place.space at.site ≡ moves = ap (λ (c : Course Move Fault). c.moves) (sym (course_of at begun.0)) in
        passes_moves start used (once_synced start used) (images_of disk new) at (run_form moment script (show_form name page) (formatted at.site))
        (show_course name page at.site) refl (λ f other bytes image. image)
        (goes_wider ShowsHeld (from + 3) (once_synced start used) (images_of disk new) at
        (λ (w : HeldSite). (w ≡ at) ⊎ IsOnWay site_rules (lane_to_end place.space at.site) at.site w.site) (λ (w : HeldSite). IsOnWay site_rules moves at.site w.site)
        (λ w. ⊎_elim
        (λ at_once. subst (λ (v : HeldSite). IsOnWay site_rules moves at.site v.site) (sym at_once) (way_begins site_rules moves at.site))
        (λ on. subst (λ (l : List Move). IsOnWay site_rules l at.site w.site) same on))
        (goes_after ShowsHeld (from + 3) now (once_synced start used) (images_of disk mid) (images_of disk new) at at
        (λ w. w ≡ at) (λ w. IsOnWay site_rules (lane_to_end place.space at.site) at.site w.site)
        (comes_still at now mid begun.1 now begun.0.third) (goes at begun.0.stands begun.0.lane begun.0.may))))

    unused_chunk : (at : HeldSite) → place_of name at.site.head.spaces ≡ Some (pair_of place) → (other : DiskName) → is_used name page at other ≡ false → is_chunk_of place.space other ≡ false
    unused_chunk at is Cat isnt = refl
    unused_chunk at is Spare isnt = refl
    unused_chunk at is Boot isnt = refl
    unused_chunk at is Log isnt = refl
    unused_chunk at is (Volume n) isnt = refl
    unused_chunk at is (Chunk n) isnt =
        let here : (place.space == n) ≡ false = sym (ap (λ (p : Option (ℕ × ℕ)). is_shown p n) is) ∙ isnt in
        let there : (n == place.space) ≡ false = grind (arith, nat_tests, here) in there

    pub rests_run : RestsOthers disk (show_form name page) from old new
    rests_run = by_world
        (λ at. Shown at → (f : ℕ) (other : DiskName) (bytes : List ℕ) → uses (show_form name page) at.world other ≡ false → images_of disk new f other bytes → images_of disk old f other bytes)
        (λ held shown. absurd (harmless NotFormatted (no_site held shown)))
        (λ at shown f other bytes isnt image.
        let begun = enters at shown.0 shown.1 in
        begun.1.aside f other bytes isnt (rest.images f other bytes (unused_chunk at begun.0.placed.there other isnt) image))

    -- cut short
    pub finishes_cut : (fault : SiteFault)
        → ((at : HeldSite) → StandsFor (layers disk) 2 now mid at → OneLane disk now place.space at mid → MayBring place.space at.site
        → place.pages ≡ pages_of_space at.site.head.spaces place.space → IsFailure fault)
        → FinishesBy disk (show_form name page) from old new to moment script after (Err (status_in fault))
    finishes_cut fault fails = by_world
        (λ at. Shown at → Finishes false start (uses (show_form name page) at.world) at (run_form moment script (show_form name page) at.world) after (contents_of disk new) (to + 1)
        (images_of disk new) (Err (status_in fault)))
        (λ held shown. absurd (harmless NotFormatted (no_site held shown)))
        (λ at shown. let begun = enters at shown.0 shown.1 in
        inl (failure_cuts fault (fails at begun.0.stands begun.0.lane begun.0.may (sym (place_pages name at.site.head.spaces place.space place.pages begun.0.placed.there)))))

    -- at its end
    module _ (later : now ≤ to) (report : Report) (written : List ℕ) (status_is : DoneStatus ≡ status_told (Ok report))
        (text_is : written ++ status_text DoneStatus ≡ text_told (Ok report)) (tells : (at : HeldSite) → StandsFor (layers disk) 2 now mid at → OneLane disk now place.space at mid → MayBring place.space at.site
        → place.pages ≡ pages_of_space at.site.head.spaces place.space → IsTold disk name page to place at mid new written)
        (reads_as : (other : DiskName) → images_of disk new to other (contents_of disk new other)) where
      told_done : (at : HeldSite) → Shown (world_of at) → IsReady disk name page from now place at mid → StaysIn disk name page from now at old mid
          → IsDone false start (is_used name page at) (world_of at) (run_form moment script (show_form name page) (formatted at.site)) after (contents_of disk new) (to + 1) (images_of disk new)
          (Ok report)
      told_done at shown ready stays =
          let told = tells at ready.stands ready.lane ready.may (sym (place_pages name at.site.head.spaces place.space place.pages ready.placed.there)) in
          let used : DiskName → Bool = is_used name page at in
          let is = course_of at ready in
          let still = comes_still at now mid stays now ready.third in
          let comes = comes_after ShowsHeld (from + 3) now (once_synced start used) (images_of disk mid) (images_of disk new) at at
          (λ w. w ≡ at) (λ w. IsOnWay site_rules (lane_to_end place.space at.site) at.site w.site) still to told.last
          (record { no_earlier = later; goes = goes at ready.stands ready.lane ready.may; ends = told.ends }) in
          let stand : StandOn used (contents_of disk new) (world_of told.last) = λ (other : DiskName) uses. ⊎_elim
          (λ shows. shows)
          (λ was. was.1 (subst (ShowsHeld other at) (sym (was.0.1 (let third = ready.third in omega (arith, third, later)) uses)) (shown.1 other uses)))
          (comes.ends to other (contents_of disk new other) (omega arith) (reads_as other)) in
          record {
            status = ap (λ (c : Course Move Fault). status_of at.site.head.spaces c.fault) is ∙ status_is;
            text = ap (λ (c : Course Move Fault). show_text at.site.head.spaces (site_behind c at.site).history name page (place_of name at.site.head.spaces) c.fault) is
                ∙ ap (λ (h : History). shown_text h name page (place_of name at.site.head.spaces) ++ status_text DoneStatus) (same_history place.space at.site)
                ∙ ap (λ (p : Option (ℕ × ℕ)). shown_text at.site.history name page p ++ status_text DoneStatus) ready.placed.there
                ∙ ap (λ (t : List ℕ). t ++ status_text DoneStatus) (sym told.text) ∙ text_is;
            work = subst (λ (s : Status). HasDone false start used (world_of at) (run_form moment script (show_form name page) (formatted at.site)) s after (contents_of disk new) (to + 1) (images_of disk new)) status_is
                (done_ends false start used at (run_form moment script (show_form name page) (formatted at.site)) (show_course name page at.site) DoneStatus after (contents_of disk new) (to + 1)
                (images_of disk new) told.last refl (told.last_is ∙ ap (λ (c : Course Move Fault). after_all site_rules c.moves at.site) (sym is))
                (λ f other bytes le image. comes.ends f other bytes (omega (arith, le)) image) stand (λ reads. absurd (false≢true reads)));
          }

      pub finishes_run : FinishesBy disk (show_form name page) from old new to moment script after (Ok report)
      finishes_run = by_world
          (λ at. Shown at → Finishes false start (uses (show_form name page) at.world) at (run_form moment script (show_form name page) at.world) after (contents_of disk new) (to + 1)
          (images_of disk new) (Ok report))
          (λ held shown. absurd (harmless NotFormatted (no_site held shown)))
          (λ at shown. let begun = enters at shown.0 shown.1 in told_done at shown begun.0 begun.1)

-- a fault of the reading: as a stop, or a record or a page that isn't as it should be
pub reading_kind : (fault : SiteFault) → IsReadingFault fault → CutsShort (status_in fault) ⊎ IsOfReading (status_in fault)
reading_kind OutOfMemory is = inl tt
reading_kind (DiskFault disk) is = inl tt
reading_kind NoSite is = absurd is
reading_kind AlreadyFormatted is = absurd is
reading_kind (BadRecord disk slot) is = inr is
reading_kind (NeedsRestart number) is = absurd is
reading_kind (NoSuchSpace name) is = absurd is
reading_kind (NoSuchPage page) is = absurd is
reading_kind (ChunkLost space name) is = absurd is
reading_kind LogLost is = absurd is
reading_kind (LogFull why) is = absurd is
reading_kind (StoreFull volume) is = absurd is
reading_kind CatalogueFull is = absurd is
reading_kind TooManyObjects is = absurd is
reading_kind BootFull is = absurd is
