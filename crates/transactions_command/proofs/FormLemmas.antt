-- What the form comes to in each world that the disks show.
use Rattle.std.proofs.Common.{◌≡◌, ◌⊎◌, ◌∙◌, ℕ, ◌+◌, ◌≤◌, List, [], length, map, true, false, slice_get, Option, Some, inl, inr, ⊎_elim, refl, sym, ap, subst, arith}
use Rattle.std.specs.Prelude.{Ok, Err}
use Rattle.std.specs.Option.{option_map}
use Rattle.std.proofs.lemmas.Bool.{false≢true}
use Rattle.std.proofs.lemmas.Bool.Decides.{nat_tests}
use Rattle.log_history.specs.Transactions.{Table}
use Rattle.object_store.specs.declared.store.Store.{Store}
use Rattle.object_volume.specs.Volumes.{disk_of as volume_disk}
use Rattle.command_grammar.specs.Words.{transactions_form}
use Rattle.site_disk.specs.declared.disk.Disk.{Ghosts}
use Rattle.site_headers.specs.Heads.{Head}
use Rattle.site_lanes.specs.Lanes.{SameFrom}
use Rattle.space_lane.specs.Lanes.{disk_of as lane_disk}
use Rattle.walks.specs.Follows.{Comes, Follows}
use Rattle.walks.specs.FollowsLaws.{goes_wider}
use Rattle.walks.specs.Courses.{Course, Does, IsCut, IsOnWay, after_all, only}
use Rattle.walks.specs.CoursesLaws.{way_begins}
use Rattle.site_model.specs.declared.disk_name.DiskName.{DiskName}
use Rattle.site_model.specs.declared.disk_name.DiskName.TheVariants.{Cat, Spare, Boot, Log, Volume, Chunk}
use Rattle.site_model.specs.declared.status.Status.{Status}
use Rattle.site_model.specs.declared.status.Status.TheVariants.{NotFormatted}
use Rattle.site_model.specs.Texts.{status_text}
use Rattle.site_worlds.specs.Worlds.{Site, formatted, unformatted}
use Rattle.site_worlds.specs.Fitness.{IsFit, IsFitSite}
use Rattle.site_worlds.specs.Moves.{Move, WorldMove, moves_on, site_rules, world_rules}
use Rattle.site_courses.specs.Faults.{Fault}
use Rattle.site_layouts.specs.Layouts.{HeldWorld}
use Rattle.site_layouts.specs.Stages.{HeldSite, ShowsHeld, StandsFor, site_stage}
use Rattle.site_layouts.specs.Stores.{Held}
use Rattle.site_runs.specs.Scripts.{run_script, script_course, transactions_of}
use Rattle.site_commands.specs.Commands.{CutsShort, HasDone, HasRead, IsPassed, Passes, Start, StandOn, once_synced, uses}
use Rattle.site_commands.specs.Runs.{CommandResult, refused_by, run_form, run_text, site_behind, status_of}
use Rattle.site_courses.specs.Faults.{not_formatted}
use Rattle.site_openings.specs.Openings.{DisksRefuse}
use Rattle.site_core.specs.declared.faults.SiteFault.{SiteFault}
use Rattle.site_core.specs.declared.faults.SiteFault.TheVariants.{OutOfMemory, DiskFault, NotFormatted as NoSite, AlreadyFormatted, BadRecord, NeedsRestart, NoSuchSpace, NoSuchPage, ChunkLost, LogLost, LogFull, StoreFull, CatalogueFull, TooManyObjects, BootFull}
use Rattle.site_core.specs.declared.site.Site.{Site as Values}
use Rattle.site_core.specs.Disks.{contents_of, image_or, images_of}
use Rattle.site_core.specs.Faults.{IsFailure, fault_in, status_in}
use Rattle.site_core.specs.Layers.{layers}
use Rattle.site_core.specs.Quiet.{IsQuiet}
use Rattle.site_scripts.specs.declared.outcomes.Cut.{Cut}
use Rattle.site_scripts.specs.declared.outcomes.Cut.TheVariants.{OutOfMemory as NoMemory, ReadFault, DiskFault as CutByDisk, BadRecord as CutByRecord}
use Rattle.site_scripts.specs.declared.outcomes.Extended.{Extended}
use Rattle.site_scripts.specs.declared.outcomes.ScriptEnd.{ScriptEnd}
use Rattle.site_scripts.specs.declared.outcomes.ScriptEnd.TheVariants.{Done, Fault as LineFault, Full}
use Rattle.site_scripts.specs.Extending.{IsExtended, MayRun}
use Rattle.site_scripts.specs.Outcomes.{end_fault, fault_of_run, status_of_cut}
use Rattle.site_forms.specs.declared.report.Report.TheVariants.{Extended as LogExtended}
use Rattle.site_forms.specs.Forms.{Finishes, FinishesBy, IsDone, PassesBy, RestsOthers}
use Rattle.site_forms.specs.PassingLaws.{by_world, done_course, done_none, passes_course, passes_moves, world_of}
use Rattle.site_forms.specs.Reports.{status_of_end}
use Rattle.site_forms.specs.Starts.{IsKept, IsOfChunk, start_of}
use Rattle.transactions_command.specs.Entering.{Enters, IsOfLog, IsReady, IsRefusedAt, ShowsUsed, StaysIn, is_used}
use Rattle.transactions_command.proofs.RefusalLemmas.{checked, refusal_text, tells_refusal, transactions_are, unrefused}
use Rattle.transactions_command.proofs.ScriptLemmas.{IsOfScript, end_status, of_script, told_text}

pub failure_cuts : (fault : SiteFault) → IsFailure fault → CutsShort (status_in fault)
failure_cuts OutOfMemory is = tt
failure_cuts (DiskFault disk) is = tt
failure_cuts NoSite is = absurd is
failure_cuts AlreadyFormatted is = absurd is
failure_cuts (BadRecord disk slot) is = absurd is
failure_cuts (NeedsRestart number) is = absurd is
failure_cuts (NoSuchSpace name) is = absurd is
failure_cuts (NoSuchPage page) is = absurd is
failure_cuts (ChunkLost space name) is = absurd is
failure_cuts LogLost is = absurd is
failure_cuts (LogFull why) is = absurd is
failure_cuts (StoreFull volume) is = absurd is
failure_cuts CatalogueFull is = absurd is
failure_cuts TooManyObjects is = absurd is
failure_cuts BootFull is = absurd is

module _ {D : Type 0} (disk : Ghosts D) (from : ℕ) (old : Values D) where
  abbrev start : Start
  start = start_of disk from old

  -- the disks show a world that the form uses
  abbrev Shown : HeldWorld → Type 0
  Shown at = IsFit at.world × StandOn (uses transactions_form at.world) (contents_of disk old) at

  -- a site that isn't formatted is refused as such
  no_site : (held : Held) → Shown (record { world = unformatted; held = held }) → DisksRefuse transactions_form (contents_of disk old) NotFormatted
  no_site held shown = inl (shown.1 Cat refl, refl)

  module _ (at : HeldSite) (now : ℕ) (mid : Values D) (stays : StaysIn disk from now at old mid) where
    follows_still : (f : ℕ) (name : DiskName) (bytes : List ℕ) → from + 3 ≤ f → images_of disk mid f name bytes
        → Follows ShowsHeld (once_synced start (is_used at)) f at at name bytes
    follows_still f name bytes le image = ⊎_elim
        (λ shows. inl shows)
        (λ aside. inr ((aside.0, λ late is. absurd (false≢true (sym aside.1 ∙ is))), λ shows. shows))
        (stays.later f name bytes (omega (arith, le)) image)

    comes_still : (to : ℕ) → from + 3 ≤ to → Comes ShowsHeld (from + 3) to (once_synced start (is_used at)) (images_of disk mid) at (λ w. w ≡ at) at
    comes_still to le = record {
      no_earlier = le;
      goes = record {
        earlier = λ f name bytes lt image. (stays.first f name bytes (omega (arith, lt)) image, λ late. absurd (omega (arith, lt, late)));
        later = λ f choice from images. (at, refl, λ name. follows_still f name (choice name) from (images name));
      };
      ends = λ f name bytes from image. follows_still f name bytes (omega (arith, le, from)) image;
    }

  -- a form that is refused, or cut short before its script
  module _ (to : ℕ) (new : Values D) (moment : ℕ) (script after : List ℕ) (fault : SiteFault)
      (enters : (at : HeldSite) → IsFitSite at.site → ShowsUsed disk at old → Enters disk from to at old new (Err fault))
      (harmless : (status : Status) → DisksRefuse transactions_form (contents_of disk old) status → IsOfChunk status ⊎ IsQuiet disk old new) where
    quiet : (held : Held) → Shown (record { world = unformatted; held = held }) → IsQuiet disk old new
    quiet held shown = ⊎_elim (λ of. absurd of) (λ is. is) (harmless NotFormatted (no_site held shown))

    pub passes_refused : PassesBy disk transactions_form from old new moment script
    passes_refused = by_world
        (λ at. Shown at → Passes start (uses transactions_form at.world) (images_of disk new) at (IsPassed at (run_form moment script transactions_form at.world)))
        (λ held shown. inl (quiet held shown).images)
        (λ at shown. ⊎_elim (λ none. inl none) (λ stays.
        passes_moves start (is_used at) (once_synced start (is_used at)) (images_of disk new) at (run_form moment script transactions_form (formatted at.site))
        (transactions_of moment script at.site) refl (λ f name bytes image. image)
        (goes_wider ShowsHeld (from + 3) (once_synced start (is_used at)) (images_of disk new) at (λ (w : HeldSite). w ≡ at)
        (λ (w : HeldSite). IsOnWay site_rules (transactions_of moment script at.site).moves at.site w.site)
        (λ w same. subst (λ (v : HeldSite). IsOnWay site_rules (transactions_of moment script at.site).moves at.site v.site) (sym same)
        (way_begins site_rules (transactions_of moment script at.site).moves at.site))
        (comes_still at to new stays (from + 3) (omega arith)).goes))
        (enters at shown.0 shown.1).0)

    pub rests_refused : RestsOthers disk transactions_form from old new
    rests_refused = by_world
        (λ at. Shown at → (f : ℕ) (name : DiskName) (bytes : List ℕ) → uses transactions_form at.world name ≡ false → images_of disk new f name bytes → images_of disk old f name bytes)
        (λ held shown f name bytes isnt image. (quiet held shown).images f name bytes image)
        (λ at shown f name bytes isnt image. ⊎_elim (λ none. none f name bytes image) (λ stays. stays.aside f name bytes isnt image) (enters at shown.0 shown.1).0)

    module _ (at : HeldSite) (shown : Shown (world_of at)) (is : IsRefusedAt disk from to at old new fault) where
      abbrev run : CommandResult
      run = run_form moment script transactions_form (formatted at.site)

      course_is : transactions_of moment script at.site ≡ only (Some (fault_in fault))
      course_is = transactions_are moment script at.site ∙ ap (λ (o : Option Fault). checked o (script_course moment script at.site)) is.refusal

      none_made : run.course.moves ≡ []
      none_made = ap (λ (c : Course Move Fault). map moves_on c.moves) course_is

      work : HasDone true start (is_used at) (world_of at) run (status_in fault) after (contents_of disk new) (to + 1) (images_of disk new)
      work = ⊎_elim
          (λ kept. done_none true start (is_used at) (world_of at) run (status_in fault) after (contents_of disk new) (to + 1) (images_of disk new)
          none_made kept.0.images kept.1 shown.1 (λ reads. (tells_refusal at.site fault is.refusal is.named).read run.left after))
          (λ still. record {
            last = world_of at;
            last_is = ap (λ (moves : List WorldMove). after_all world_rules moves (formatted at.site)) (sym none_made);
            stand = still.1;
            crash = inr (λ f name bytes le image. follows_still at to new still.0 f name bytes (let second = still.0.second in omega (arith, second, le)) image);
            script = λ reads. (tells_refusal at.site fault is.refusal is.named).read run.left after;
          })
          is.still

      refused_done : IsDone true start (is_used at) (world_of at) run after (contents_of disk new) (to + 1) (images_of disk new) (Err (status_in fault))
      refused_done =
          let tells = tells_refusal at.site fault is.refusal is.named in record {
            status = ap (λ (c : Course Move Fault). status_of at.site.head.spaces c.fault) course_is ∙ tells.status;
            text = ap (λ (c : Course Move Fault). run_text at.site.head.spaces at.site.history (site_behind c at.site).history c.fault) course_is ∙ refusal_text at.site.head.spaces fault at.site.history (site_behind (only (Some (fault_in fault))) at.site).history tells;
            work = work;
          }

    -- where the site isn't formatted
    none_done : (answers : IsFailure fault ⊎ DisksRefuse transactions_form (contents_of disk old) (status_in fault))
        → (kept : IsFailure fault ⊎ (IsOfChunk (status_in fault) ⊎ IsKept disk old new)) → (held : Held) → Shown (record { world = unformatted; held = held })
        → Finishes true start (uses transactions_form unformatted) (record { world = unformatted; held = held }) (refused_by not_formatted) after (contents_of disk new) (to + 1)
        (images_of disk new) (Err (status_in fault))
    none_done answers kept held shown = ⊎_elim
        (λ failed. inl (failure_cuts fault failed))
        (⊎_elim
        (λ none. ⊎_elim
        (λ failed. inl (failure_cuts fault failed))
        (⊎_elim (λ of. absurd (subst IsOfChunk none.1 of)) (λ same. inr (record {
          status = sym none.1;
          text = ap status_text (sym none.1);
          work = done_none true start (uses transactions_form unformatted) (record { world = unformatted; held = held }) (refused_by not_formatted) (status_in fault) after
              (contents_of disk new) (to + 1) (images_of disk new) refl same.0.images same.1 shown.1
              (λ reads. subst (λ (status : Status). HasRead status [] after) (sym none.1) tt);
        })))
        kept)
        (λ other. absurd (shown.1 Cat refl other.0.0 other.0.1.is_head other.0.1.header)))
        answers

    pub finishes_refused : IsFailure fault ⊎ DisksRefuse transactions_form (contents_of disk old) (status_in fault)
        → IsFailure fault ⊎ (IsOfChunk (status_in fault) ⊎ IsKept disk old new)
        → FinishesBy disk transactions_form from old new to moment script after (Err (status_in fault))
    finishes_refused answers kept = by_world
        (λ at. Shown at → Finishes true start (uses transactions_form at.world) at (run_form moment script transactions_form at.world) after (contents_of disk new) (to + 1)
        (images_of disk new) (Err (status_in fault)))
        (λ held shown. none_done answers kept held shown)
        (λ at shown. ⊎_elim (λ failed. inl (failure_cuts fault failed)) (λ is. inr (refused_done at shown is)) (enters at shown.0 shown.1).1)

  -- a form whose script ran
  module _ (now to : ℕ) (mid new : Values D) (head : Head) (table : Table) (moment : ℕ) (script after : List ℕ)
      (enters : (at : HeldSite) → IsFitSite at.site → ShowsUsed disk at old → IsReady disk from now head table at mid × StaysIn disk from now at old mid)
      (harmless : (status : Status) → DisksRefuse transactions_form (contents_of disk old) status → ⊥) where
    module _ (fault : Option Fault)
        (call : (at : HeldSite) → StandsFor (layers disk) 3 now mid at → MayRun head table at.site
        → Does (site_stage (layers disk)) 3 now to mid new at (script_course moment script at.site) fault) where
      ran_is : (site : Site) → MayRun head table site → transactions_of moment script site ≡ script_course moment script site
      ran_is site may = transactions_are moment script site ∙ ap (λ (o : Option Fault). checked o (script_course moment script site)) (unrefused head table site may)

      ran : (at : HeldSite) → IsReady disk from now head table at mid → Does (site_stage (layers disk)) 3 now to mid new at (transactions_of moment script at.site) fault
      ran at ready =
          subst (λ (c : Course Move Fault). Does (site_stage (layers disk)) 3 now to mid new at c fault) (sym (ran_is at.site ready.may)) (call at ready.stands ready.may)

      pub passes_run : PassesBy disk transactions_form from old new moment script
      passes_run = by_world
          (λ at. Shown at → Passes start (uses transactions_form at.world) (images_of disk new) at (IsPassed at (run_form moment script transactions_form at.world)))
          (λ held shown. absurd (harmless NotFormatted (no_site held shown)))
          (λ at shown.
          let begun = enters at shown.0 shown.1 in
          passes_course (layers disk) start (is_used at) mid new at (run_form moment script transactions_form (formatted at.site)) (transactions_of moment script at.site) refl
          3 now to (comes_still at now mid begun.1 now begun.0.third) fault (ran at begun.0))

    -- unused disks are the same
    module _ (spaces : ℕ) (many : length head.spaces ≡ spaces) (store : new.store ≡ mid.store) (beyond : SameFrom spaces mid.lanes.items new.lanes.items) where
      unused_same : (at : HeldSite) → at.site.head ≡ head → (f : ℕ) (name : DiskName) (bytes : List ℕ) → is_used at name ≡ false → images_of disk new f name bytes → images_of disk mid f name bytes
      unused_same at same f Cat bytes isnt image = absurd (false≢true (sym isnt))
      unused_same at same f Spare bytes isnt image = absurd (false≢true (sym isnt))
      unused_same at same f Boot bytes isnt image = absurd (false≢true (sym isnt))
      unused_same at same f Log bytes isnt image = absurd (false≢true (sym isnt))
      unused_same at same f (Volume n) bytes isnt image =
          subst (λ (s : Store D). image_or disk (option_map volume_disk (slice_get s.volumes.items n)) f bytes) store image
      unused_same at same f (Chunk n) bytes isnt image =
          let count : length at.site.head.spaces ≡ spaces = ap (λ (h : Head). length h.spaces) same ∙ many in
          let past : spaces ≤ n = grind (arith, nat_tests, isnt, count) in
          subst (λ (o : Option (_)). image_or disk (option_map lane_disk o) f bytes) (beyond n past) image

      pub rests_run : RestsOthers disk transactions_form from old new
      rests_run = by_world
          (λ at. Shown at → (f : ℕ) (name : DiskName) (bytes : List ℕ) → uses transactions_form at.world name ≡ false → images_of disk new f name bytes → images_of disk old f name bytes)
          (λ held shown. absurd (harmless NotFormatted (no_site held shown)))
          (λ at shown f name bytes isnt image.
          let begun = enters at shown.0 shown.1 in
          begun.1.aside f name bytes isnt (unused_same at begun.0.may.head_is f name bytes isnt image))

    -- cut short: no fit site has a bad record there
    cut_so : (at : HeldSite) (cut : Cut) → Does (site_stage (layers disk)) 3 now to mid new at (script_course moment script at.site) (fault_of_run (Err cut))
        → CutsShort (status_of_cut cut)
    unfolding site_stage
    cut_so at NoMemory does = tt
    cut_so at ReadFault does = tt
    cut_so at (CutByDisk name) does = tt
    cut_so at (CutByRecord slot) does = ⊎_elim
        (λ cut. false≢true cut)
        (λ has. subst IsOfScript (sym has.fault_is) (of_script moment script at.site))
        does.ended

    module _ (cut : Cut) (call : (at : HeldSite) → StandsFor (layers disk) 3 now mid at → MayRun head table at.site
        → Does (site_stage (layers disk)) 3 now to mid new at (script_course moment script at.site) (fault_of_run (Err cut))) where
      pub finishes_cut : FinishesBy disk transactions_form from old new to moment script after (Err (status_of_cut cut))
      finishes_cut = by_world
          (λ at. Shown at → Finishes true start (uses transactions_form at.world) at (run_form moment script transactions_form at.world) after (contents_of disk new) (to + 1)
          (images_of disk new) (Err (status_of_cut cut)))
          (λ held shown. absurd (harmless NotFormatted (no_site held shown)))
          (λ at shown. let begun = enters at shown.0 shown.1 in inl (cut_so at cut (call at begun.0.stands begun.0.may)))

    -- at its end
    module _ (told : Extended) (call : (at : HeldSite) → StandsFor (layers disk) 3 now mid at → MayRun head table at.site
        → Does (site_stage (layers disk)) 3 now to mid new at (script_course moment script at.site) (end_fault told.ending))
        (tells : (at : HeldSite) → StandsFor (layers disk) 3 now mid at → MayRun head table at.site → IsExtended at.site (run_script moment script at.site) after told)
        (to_end : told.ending ≡ Done → after ≡ [])
        (reads_as : (name : DiskName) → images_of disk new to name (contents_of disk new name)) where
      uncut : (ending : ScriptEnd) → IsCut (site_stage (layers disk)) (end_fault ending) → ⊥
      unfolding site_stage
      uncut Done is = is
      uncut (LineFault line why) is = false≢true is
      uncut (Full why) is = false≢true is

      read_so : (ending : ScriptEnd) → (ending ≡ Done → after ≡ []) → (site : Site) → IsExtended site (run_script moment script site) after told
          → HasRead (status_of_end ending) (run_script moment script site).left after
      read_so Done end site is = end refl
      read_so (LineFault line why) end site is = record { ahead = is.held; few = is.few; is = is.left }
      read_so (Full why) end site is = record { ahead = is.held; few = is.few; is = is.left }

      told_done : (at : HeldSite) → IsReady disk from now head table at mid
          → IsDone true start (is_used at) (world_of at) (run_form moment script transactions_form (formatted at.site)) after (contents_of disk new) (to + 1) (images_of disk new)
          (Ok (LogExtended told))
      told_done at ready =
          let is = tells at ready.stands ready.may in
          let same = ran_is (end_fault told.ending) call at.site ready.may in
          let done = done_course (layers disk) start (is_used at) new at (run_form moment script transactions_form (formatted at.site)) (transactions_of moment script at.site) refl
          true (status_of_end told.ending) after (contents_of disk new) to (to + 1) (omega arith) reads_as (λ reads. read_so told.ending to_end at.site is)
          now mid (end_fault told.ending) (ran (end_fault told.ending) call at ready) (uncut told.ending) in record {
            status = ap (status_of at.site.head.spaces) (sym done.1) ∙ end_status at.site.head.spaces told.ending;
            text = ap (λ (c : Course Move Fault). run_text at.site.head.spaces at.site.history (site_behind c at.site).history c.fault) same
                ∙ ap (λ (o : Option Fault). run_text at.site.head.spaces at.site.history (site_behind (script_course moment script at.site) at.site).history o)
                (sym (done.1 ∙ ap (λ (c : Course Move Fault). c.fault) same))
                ∙ told_text at.site.head.spaces at.site.history _ is.added told is.history is.lines is.commits is.end;
            work = done.0;
          }

      pub finishes_run : FinishesBy disk transactions_form from old new to moment script after (Ok (LogExtended told))
      finishes_run = by_world
          (λ at. Shown at → Finishes true start (uses transactions_form at.world) at (run_form moment script transactions_form at.world) after (contents_of disk new) (to + 1)
          (images_of disk new) (Ok (LogExtended told)))
          (λ held shown. absurd (harmless NotFormatted (no_site held shown)))
          (λ at shown. told_done at (enters at shown.0 shown.1).0)

-- a script that is cut short: as a stop, or at a record of the log
pub cut_kind : (cut : Cut) → CutsShort (status_of_cut cut) ⊎ IsOfLog (status_of_cut cut)
cut_kind NoMemory = inl tt
cut_kind ReadFault = inl tt
cut_kind (CutByDisk name) = inl tt
cut_kind (CutByRecord slot) = inr tt
