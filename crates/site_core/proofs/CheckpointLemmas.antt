-- How lanes that go to the end by what the log's files tell come to be a call of a site.
use Rattle.std.proofs.Common.{◌≡◌, ◌∙◌, ℕ, zero, suc, ◌+◌, ◌<◌, ◌≤◌, List, [], ◌∷◌, length, Bool, true, false, Option, None, Some, refl, sym, ap, subst, arith}
use Rattle.std.specs.Prelude.{slice_get, if◌then◌else◌, ◌&&◌, Result, Err}
use Rattle.std.specs.List.{AllByRecursion, list_all}
use Rattle.std.proofs.lemmas.Option.{slice_get_within, same_Some}
use Rattle.log_history.specs.History.{History}
use Rattle.log_history.specs.Effects.{Change}
use Rattle.site_disk.specs.Bytes.{Same}
use Rattle.site_disk.specs.Images.{Leaves}
use Rattle.site_disk.specs.ImagesLaws.{no_more_of}
use Rattle.site_disk.specs.Ledger.{EraView, MayUse}
use Rattle.site_disk.specs.Seen.{seen}
use Rattle.site_disk.specs.declared.disk.Disk.{Ghosts}
use Rattle.backup_lines.specs.declared.lanes.LaneState.{LaneState as State}
use Rattle.backup_lines.specs.declared.lanes.LaneState.TheVariants.{At, Blank, Image, Replay}
use Rattle.backup_lines.specs.Spans.{Active}
use Rattle.lane_ways.specs.Ways.{changes_behind, lane_changes}
use Rattle.lane_steps.specs.Choices.{own}
use Rattle.log_files.specs.Files.{LogFiles, end_of}
use Rattle.logical_log.specs.Rings.{disk_of as log_disk, IsMade as IsMadeLog, Stands as LogStands, TellsOf}
use Rattle.logical_log.specs.declared.ring.LogRing.{LogRing}
use Rattle.held_log.specs.Logs.{AreChanges, changes_held}
use Rattle.held_log.specs.Strays.{FirstStray}
use Rattle.held_log.specs.declared.faults.HeldFault.{HeldFault}
use Rattle.held_log.specs.declared.faults.HeldFault.TheVariants.{OutOfMemory as NoMemory, Failed, BadRecord as BadSlot}
use Rattle.held_site.specs.HeldLaws.{site_lacks, site_place}
use Rattle.held_site.specs.StrayLaws.{none_stray}
use Rattle.ring_laws.specs.FitLaws.{end_of-files_of}
use Rattle.ring_laws.specs.Rings.{files_of}
use Rattle.space_lane.specs.Lanes.{state_of}
use Rattle.space_lane.specs.declared.lane.Lane.{Lane}
use Rattle.walks.specs.Courses.{Does, make}
use Rattle.site_model.specs.declared.disk_name.DiskName.{DiskName}
use Rattle.site_model.specs.declared.disk_name.DiskName.TheVariants.{Cat, Spare, Boot, Log, Volume, Chunk}
use Rattle.site_worlds.specs.Worlds.{LaneState, Site, stands, blank, merges, replays, stale, lost}
use Rattle.site_worlds.specs.Lanes.{IsAtRest, pages_of_space}
use Rattle.site_worlds.specs.Files.{first_of_file}
use Rattle.site_worlds.specs.Fitness.{AreAtRest, FitRing, FitStep, IsFitSite}
use Rattle.site_worlds.specs.Moves.{Move, move_lanes}
use Rattle.world_laws.specs.ListLaws.{none_some}
use Rattle.world_laws.specs.RingLaws.{ring_of, step_of}
use Rattle.site_courses.specs.Faults.{Fault}
use Rattle.site_courses.specs.Courses.{first_lost, if_lost, is_at, lanes_to_end}
use Rattle.course_laws.specs.AppendingLaws.{first_true, second_true}
use Rattle.site_lanes.specs.Advancing.{is_at as value_at}
use Rattle.site_lanes.specs.Lanes.{OfEach}
use Rattle.site_lane_laws.specs.OpeningLaws.{there_is}
use Rattle.site_lane_laws.specs.PhaseLaws.{goals_of}
use Rattle.site_layouts.specs.Chunks.{lane_of}
use Rattle.site_layouts.specs.LaneWords.{LaneAgrees}
use Rattle.site_layouts.specs.Stages.{HeldSite, StandsFor, site_stage}
use Rattle.site_layouts.specs.Stores.{Held}
use Rattle.site_core.specs.declared.site.Site.{Site as Values}
use Rattle.site_core.specs.declared.faults.SiteFault.{SiteFault}
use Rattle.site_core.specs.Calls.{CallFrom}
use Rattle.site_core.specs.CallLaws.{cut_at_once, does_behind, nothing_to_do}
use Rattle.site_core.specs.Checkpoints.{MayGo, of_held}
use Rattle.site_core.specs.Disks.{images_of}
use Rattle.site_core.specs.Faults.{fault_of}
use Rattle.site_core.specs.Going.{GoTo, reading_layers}
use Rattle.site_core.specs.Layers.{layers}

-- a test of each lane of a list

all_pass : (test : LaneState → Bool) (lanes : List LaneState) → ((n : ℕ) (lane : LaneState) → slice_get lanes n ≡ Some lane → test lane ≡ true) → list_all test lanes ≡ true
all_pass test [] each = refl
all_pass test (lane ∷ lanes) each =
    ap (λ (b : Bool). b && list_all test lanes) (each 0 lane refl) ∙ all_pass test lanes (λ n other there. each (suc n) other there)

each_passes : (test : LaneState → Bool) (lanes : List LaneState) → list_all test lanes ≡ true → (n : ℕ) (lane : LaneState) → slice_get lanes n ≡ Some lane → test lane ≡ true
each_passes test [] all n lane there = absurd (omega (arith, slice_get_within [] n lane there))
each_passes test (first ∷ lanes) all zero lane there =
    subst (λ (l : LaneState). test l ≡ true) (same_Some first lane there) (first_true (test first) (list_all test lanes) all)
each_passes test (first ∷ lanes) all (suc n) lane there = each_passes test lanes (second_true (test first) (list_all test lanes) all) n lane there

-- With no restore under way a lane that isn't lost stands somewhere.
abbrev StandsSomewhere : LaneState → Type 0
StandsSomewhere lane = (upto : ℕ) × (part : ℕ) × (lane ≡ stands upto part)

one_stands : (history : History) (held space : ℕ) (lane : LaneState) (next : Option Fault) → IsAtRest history held lane → if_lost space lane next ≡ None
    → StandsSomewhere lane × (next ≡ None)
one_stands history held space (stands upto part) next rests none = ((upto, part, refl), none)
one_stands history held space (blank restore) next rests none = absurd rests
one_stands history held space (merges restore chain archive entries) next rests none = absurd rests
one_stands history held space (replays restore chain upto part) next rests none = absurd rests
one_stands history held space stale next rests none = absurd rests
one_stands history held space lost next rests none = absurd (none_some (sym none))

each_stands : (history : History) (held space : ℕ) (lanes : List LaneState) → AllByRecursion (IsAtRest history held) lanes → first_lost space lanes ≡ None
    → (n : ℕ) (lane : LaneState) → slice_get lanes n ≡ Some lane → StandsSomewhere lane
each_stands history held space [] rest none n lane there = absurd (omega (arith, slice_get_within [] n lane there))
each_stands history held space (first ∷ lanes) rest none zero lane there =
    subst StandsSomewhere (same_Some first lane there) (one_stands history held space first (first_lost (suc space) lanes) rest.0 none).0
each_stands history held space (first ∷ lanes) rest none (suc n) lane there =
    each_stands history held (suc space) lanes rest.1 (one_stands history held space first (first_lost (suc space) lanes) rest.0 none).1 n lane there

-- a state that stands for a lane at a place
at_place : (state : State) (upto part : ℕ) → lane_of state ≡ stands upto part → state ≡ At upto part
at_place (At further more) upto part same =
    let a : further ≡ upto = cc in let b : more ≡ part = cc in ap (λ (u : ℕ). At u more) a ∙ ap (λ (p : ℕ). At upto p) b
at_place (Blank restore) upto part same = cc
at_place (Image restore chain image entries) upto part same = cc
at_place (Replay restore chain further more) upto part same = cc

module _ (spaces : ℕ) (site : Site) (fit : IsFitSite site) (may : MayGo spaces site) where
  abbrev files : LogFiles
  files = files_of site.starts site.history may.has.ring

  holds : FitRing site.history site.starts site.lines may.has.ring
  holds = ring_of site may.has.ring may.has.is fit

  pub ends_there : end_of files ≡ length site.history
  ends_there = end_of-files_of site.head.spaces site.history site.starts fit.history may.has.ring holds.oldest holds.held

  rest : AreAtRest site.history site.starts may.has.ring site.lanes
  rest = subst (λ (a : Option Active). FitStep site.history site.starts (Some may.has.ring) a site.lanes) may.none (step_of site may.has.ring may.has.is fit)

  lane_stands : (n : ℕ) (lane : LaneState) → slice_get site.lanes n ≡ Some lane → StandsSomewhere lane
  lane_stands = each_stands site.history (first_of_file site.starts site.history may.has.ring.oldest) 0 site.lanes rest.each may.none_lost

  -- So all lanes go to the end by what the files held tell.
  pub goes_by_held : (changes : List Change) (to : ℕ) → changes ≡ changes_held files → AreChanges (end_of files) changes → length changes ≤ 2048 → to ≡ end_of files
      → GoTo spaces to changes site
  goes_by_held changes to same good few end_is = record {
    can = record {
      none = may.none;
      has = may.has;
      stand = lane_stands;
      leads = λ n upto part there. record {
        is_to = refl;
        place = site_place site may.has.ring n upto part may.has.is may.none fit there;
        handed = subst (λ (l : List Change). changes_behind upto (own n (pages_of_space site.head.spaces n) l) ≡ changes_behind upto (lane_changes site.history (length site.history) n))
            (sym same) (site_lacks site may.has.ring n upto part may.has.is may.none fit there);
        rises = good.rises;
        lie = good.within;
        few = omega (arith, few);
      };
    };
    count = may.count;
    end = sym ends_there ∙ sym end_is;
  }

  module _ {D : Type 0} (disk : Ghosts D) (opened from : ℕ) (old : Values D) (held : Held) (enough : 3 ≤ opened)
      (stands_for : StandsFor (layers disk) opened from old (record { site = site; held = held })) (to : ℕ) (told : (files : LogFiles) → TellsOf files old.log → to ≡ end_of files) where
    to_is : to ≡ length site.history
    to_is = told files ((stands_for.agree.log (omega (arith, enough))).stands may.has.ring may.has.is).tells ∙ ends_there

    -- what a value tells of its lane
    one_at : (n : ℕ) (lane : LaneState) (value : Lane D) → slice_get site.lanes n ≡ Some lane → slice_get old.lanes.items n ≡ Some value
        → is_at (length site.history) lane ≡ value_at to (state_of value)
    one_at n lane value of_lane there =
        let place = lane_stands n lane of_lane in
        let stood : LaneAgrees disk from site.head.site (pages_of_space site.head.spaces n) site.number site.active n value (stands place.0 place.1) =
        subst (λ (l : LaneState). LaneAgrees disk from site.head.site (pages_of_space site.head.spaces n) site.number site.active n value l) place.2
        ((stands_for.agree.lanes enough).each n lane value of_lane there) in
        let state : state_of value ≡ At place.0 place.1 =
        stood.agrees.stands.agrees.tells.state_is ∙ at_place stood.agrees.state place.0 place.1 stood.agrees.is in
        ap (is_at (length site.history)) place.2 ∙ ap (λ (e : ℕ). is_at e (stands place.0 place.1)) (sym to_is) ∙ sym (ap (value_at to) state)

    abbrev pub AreThere : Type 0
    AreThere = OfEach (λ n lane. n < spaces → value_at to (state_of lane) ≡ true) old.lanes.items

    -- The values tell whether all lanes are at the end.
    pub all_there : AreThere → list_all (is_at (length site.history)) site.lanes ≡ true
    all_there there = all_pass (is_at (length site.history)) site.lanes (λ n lane of_lane.
        let within = slice_get_within site.lanes n lane of_lane in
        let value = there_is old.lanes.items n (omega (arith, within, (stands_for.agree.lanes enough).enough)) in
        one_at n lane value.0 of_lane value.1 ∙ there n value.0 value.1 (omega (arith, within, may.count)))

    pub none_there : (AreThere → ⊥) → list_all (is_at (length site.history)) site.lanes ≡ false
    none_there isnt = by (list_all (is_at (length site.history)) site.lanes) refl
      where
        by : (b : Bool) → list_all (is_at (length site.history)) site.lanes ≡ b → b ≡ false
        by true all = absurd (isnt (λ n value there lt.
            let lane = there_is site.lanes n (omega (arith, lt, may.count)) in
            sym (one_at n lane.0 value lane.1 there) ∙ each_passes (is_at (length site.history)) site.lanes all n lane.0 lane.1))
        by false all = refl

module _ {D : Type 0} (disk : Ghosts D) (spaces from : ℕ) (old : Values D) (to : ℕ) (told : (files : LogFiles) → TellsOf files old.log → to ≡ end_of files) where
  -- Where they are there nothing is to be done,
  pub checks_there : OfEach (λ n lane. n < spaces → value_at to (state_of lane) ≡ true) old.lanes.items
      → CallFrom (site_stage (layers disk)) (MayGo spaces) 3 from from old old (λ site. make (lanes_to_end site)) None
  unfolding site_stage
  checks_there there opened at enough stands_for may =
      let all = all_there spaces at.site stands_for.fits may disk opened from old at.held enough stands_for to told there in
      let none : [] ≡ lanes_to_end at.site = ap (λ (b : Bool). if b then [] else move_lanes (goals_of at.site) ∷ []) (sym all) in
      subst (λ (moves : List Move). Does (site_stage (layers disk)) opened from from old old at (make moves) None) none
      (nothing_to_do (site_stage (layers disk)) opened from from old old at (λ f name bytes image. image) (omega arith) None stands_for)

  -- else they are brought there.
  pub checks_brought : (OfEach (λ n lane. n < spaces → value_at to (state_of lane) ≡ true) old.lanes.items → ⊥) → (now : ℕ) (new : Values D) (fault : Option Fault)
      → CallFrom (site_stage (layers disk)) (MayGo spaces) 3 from now old new (λ site. make (move_lanes (goals_of site) ∷ [])) fault
      → CallFrom (site_stage (layers disk)) (MayGo spaces) 3 from now old new (λ site. make (lanes_to_end site)) fault
  unfolding site_stage
  checks_brought isnt now new fault call opened at enough stands_for may =
      let all = none_there spaces at.site stands_for.fits may disk opened from old at.held enough stands_for to told isnt in
      let some : move_lanes (goals_of at.site) ∷ [] ≡ lanes_to_end at.site = ap (λ (b : Bool). if b then [] else move_lanes (goals_of at.site) ∷ []) (sym all) in
      subst (λ (moves : List Move). Does (site_stage (layers disk)) opened from now old new at (make moves) fault) some (call opened at enough stands_for may)

-- what the values of these lanes tell, by another name for them and for their number
pub told_there : {D : Type 0} (lanes items : List (Lane D)) (k spaces to : ℕ) → lanes ≡ items → k ≡ spaces → OfEach (λ n lane. n < k → value_at to (state_of lane) ≡ true) lanes
    → OfEach (λ n lane. n < spaces → value_at to (state_of lane) ≡ true) items
told_there {D} lanes items k spaces to same count there n lane here lt =
    there n lane (ap (λ (l : List (Lane D)). slice_get l n) same ∙ here) (omega (arith, lt, count))

-- the log is read, which leaves no new image
module _ {D : Type 0} (disk : Ghosts D) (counts : (d : D) (f g : ℕ) (c : List ℕ) → (disk.ledger d).last ≤ f → (disk.ledger d).last < g → disk.image d g c → disk.image d f c)
    (era : EraView) (old : Values D) (log : LogRing D) (may_use : MayUse era (disk.ledger (log_disk old.log)))
    (crash : Leaves era.number Same (disk.image (log_disk old.log)) (disk.image (log_disk log))) (spaces : ℕ) where
  abbrev mid : Values D
  mid = record old { log = log }

  read_images : (f : ℕ) (name : DiskName) (bytes : List ℕ) → images_of disk mid f name bytes → images_of disk old f name bytes
  read_images f Cat bytes image = image
  read_images f Spare bytes image = image
  read_images f Boot bytes image = image
  read_images f Log bytes image = no_more_of era.number (disk.image (log_disk old.log)) (disk.image (log_disk log)) crash
      (λ c pending. counts (log_disk old.log) era.number (era.number + 1) c may_use.not_past (omega (arith, may_use.not_past)) pending) f bytes image
  read_images f (Volume n) bytes image = image
  read_images f (Chunk n) bytes image = image

  -- A fault cuts the call short; no Begin of a fit site is refused.
  pub reading_fails : {A : Type 0} (result : Result A SiteFault) (told : SiteFault) (fault : HeldFault) → result ≡ Err told → told ≡ of_held fault
      → ((site : ℕ) (files : LogFiles) (slot : ℕ) → LogStands site files (seen disk (log_disk old.log)) old.log → fault ≡ BadSlot slot → FirstStray files slot)
      → CallFrom (site_stage (layers disk)) (MayGo spaces) 3 era.number era.number old mid (λ site. make (move_lanes (goals_of site) ∷ [])) (fault_of result)
  unfolding site_stage
  reading_fails {A} result told fault is told_is refused opened at enough stands_for may =
      subst (λ (r : Result A SiteFault). Does (site_stage (layers disk)) opened era.number era.number old mid at (make (move_lanes (goals_of at.site) ∷ [])) (fault_of r))
      (sym (is ∙ ap (λ (f : SiteFault). Err f) told_is)) (by fault (refused at.site.head.site (files_of at.site.starts at.site.history may.has.ring)))
    where
      there : LogStands at.site.head.site (files_of at.site.starts at.site.history may.has.ring) (seen disk (log_disk old.log)) old.log
      there = (stands_for.agree.log (omega (arith, enough))).stands may.has.ring may.has.is

      Cut : Option Fault → Type 0
      Cut = Does (site_stage (layers disk)) opened era.number era.number old mid at (make (move_lanes (goals_of at.site) ∷ []))

      by : (f : HeldFault) → ((slot : ℕ) → LogStands at.site.head.site (files_of at.site.starts at.site.history may.has.ring) (seen disk (log_disk old.log)) old.log → f ≡ BadSlot slot
          → FirstStray (files_of at.site.starts at.site.history may.has.ring) slot) → Cut (fault_of {A = A} (Err (of_held f)))
      by NoMemory stray = cut_at_once (site_stage (layers disk)) opened era.number era.number old mid at read_images (omega arith) (make (move_lanes (goals_of at.site) ∷ [])) _ refl
      by Failed stray = cut_at_once (site_stage (layers disk)) opened era.number era.number old mid at read_images (omega arith) (make (move_lanes (goals_of at.site) ∷ [])) _ refl
      by (BadSlot slot) stray = absurd (none_some (sym (none_stray at.site may.has.ring may.has.is stands_for.fits) ∙ stray slot there refl))

  -- Behind it the lanes go to the end by what was read.
  pub brings : (log_last : (disk.ledger (log_disk log)).last ≤ era.number) → IsMadeLog log
      → ((site : ℕ) (files : LogFiles) → LogStands site files (seen disk (log_disk old.log)) old.log → LogStands site files (seen disk (log_disk log)) log)
      → (to : ℕ) → ((files : LogFiles) → TellsOf files old.log → to ≡ end_of files)
      → (changes : List Change) → ((site : ℕ) (files : LogFiles) → LogStands site files (seen disk (log_disk old.log)) old.log → changes ≡ changes_held files)
      → ((site : ℕ) (files : LogFiles) → LogStands site files (seen disk (log_disk old.log)) old.log → AreChanges (end_of files) changes)
      → ((site : ℕ) (files : LogFiles) → LogStands site files (seen disk (log_disk old.log)) old.log → length changes ≤ 2048)
      → (now : ℕ) (new : Values D) (fault : Option Fault)
      → ((opened : ℕ) (at : HeldSite) → 3 ≤ opened → StandsFor (reading_layers disk) opened era.number mid at → GoTo spaces to changes at.site
      → Does (site_stage (layers disk)) opened era.number now mid new at (make (move_lanes (goals_of at.site) ∷ [])) fault)
      → CallFrom (site_stage (layers disk)) (MayGo spaces) 3 era.number now old new (λ site. make (move_lanes (goals_of site) ∷ [])) fault
  unfolding site_stage
  brings log_last made stands_log to told changes same good few now new fault goes opened at enough stands_for may =
      does_behind (site_stage (layers disk)) opened era.number now old mid new at (make (move_lanes (goals_of at.site) ∷ [])) fault read_images
      (goes opened at enough reading
      (goes_by_held spaces at.site stands_for.fits may changes to (same at.site.head.site files_there there) (good at.site.head.site files_there there) (few at.site.head.site files_there there)
      (told files_there there.tells)))
    where
      files_there : LogFiles
      files_there = files_of at.site.starts at.site.history may.has.ring

      there : LogStands at.site.head.site files_there (seen disk (log_disk old.log)) old.log
      there = (stands_for.agree.log (omega (arith, enough))).stands may.has.ring may.has.is

      reading : StandsFor (reading_layers disk) opened era.number mid at
      reading = record {
        clean = λ f name bytes le is_opened image. stands_for.clean f name bytes le is_opened (read_images f name bytes image);
        agree = record {
          store = stands_for.agree.store;
          boot = stands_for.agree.boot;
          log = λ two. record {
            last = omega (arith, log_last);
            made = made;
            stands = λ ring is. stands_log at.site.head.site (files_of at.site.starts at.site.history ring) ((stands_for.agree.log two).stands ring is);
          };
          lanes = stands_for.agree.lanes;
        };
        fits = stands_for.fits;
      }
