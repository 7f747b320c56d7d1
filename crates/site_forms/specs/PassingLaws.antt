-- How what calls of a site do comes to what a form promises.
use Rattle.std.specs.Prelude.{◌≡◌, ◌⊎◌, ℕ, ◌+◌, ◌<◌, ◌≤◌, List, [], ◌∷◌, map, Bool, true, Option, None, Some}
use mathlib.Core.Logic.{inl, inr}
use Rattle.std.proofs.Common.{arith, refl, sym, ap, subst, ◌∙◌, ⊎_elim}
use Rattle.std.specs.Option.{option_or}
use Rattle.site_disk.specs.Ledger.{EraView}
use Rattle.onbar_grammar.specs.Script.{Space}
use Rattle.site_disk.specs.declared.disk.Disk.{Ghosts}
use Rattle.log_files.specs.declared.room.LogFull.{LogFull as RoomFull}
use Rattle.log_files.specs.declared.room.LogFull.TheVariants.{NotBackedUp, Needed, Positions}
use Rattle.walks.specs.Follows.{Images, Showing, Follows, Goes, Ends, Comes}
use Rattle.walks.specs.FollowsLaws.{goes_wider, goes_after}
use Rattle.walks.specs.Courses.{Course, after_all, IsOnWay, IsCut, Does}
use Rattle.walks.specs.CoursesLaws.{way_begins}
use Rattle.site_model.specs.declared.disk_name.DiskName.{DiskName}
use Rattle.site_model.specs.declared.disk_name.DiskName.TheVariants.{Cat, Spare, Boot, Log, Volume, Chunk}
use Rattle.site_model.specs.declared.status.Status.{Status}
use Rattle.site_model.specs.declared.status.Status.TheVariants.{ChunkLost as LostChunk, LogFull}
use Rattle.site_worlds.specs.Worlds.{Site as OfWorld, World, unformatted, formatted}
use Rattle.site_worlds.specs.Moves.{Move, WorldMove, moves_on, site_after, site_rules, world_rules}
use Rattle.site_courses.specs.Faults.{Fault, bad_record, chunk_lost}
use Rattle.site_layouts.specs.Disks.{depth}
use Rattle.site_layouts.specs.Stores.{Held}
use Rattle.site_layouts.specs.Layouts.{HeldWorld, Shows}
use Rattle.site_layouts.specs.Stages.{HeldSite, Layers, ShowsHeld, StandsFor, site_stage}
use Rattle.site_core.specs.declared.site.Site.{Site}
use Rattle.site_core.specs.declared.faults.SiteFault.{SiteFault}
use Rattle.site_core.specs.declared.faults.SiteFault.TheVariants.{OutOfMemory, DiskFault, NotFormatted, AlreadyFormatted, BadRecord, NeedsRestart, NoSuchSpace, NoSuchPage, ChunkLost, LogLost, LogFull as FullLog, StoreFull, CatalogueFull, TooManyObjects, BootFull}
use Rattle.site_core.specs.Disks.{MayUseAll, bytes_or, contents_of, disk_named, image_or, images_of, may_or}
use Rattle.site_core.specs.Faults.{IsFailure, IsNamed, fault_in, full_of, status_in as status_of_site}
use Rattle.site_commands.specs.Runs.{CommandResult, of_world, room_full, status_in as status_of_course, world_behind}
use Rattle.site_commands.specs.Commands.{AddsNone, HasDone, HasRead, IsPassed, Passes, Start, StandOn, once_synced}

-- worlds and sites

-- a formatted site as a world
abbrev pub world_of : HeldSite → HeldWorld
world_of at = record { world = formatted at.site; held = at.held }

-- what holds of each world that isn't formatted, and of each formatted site, holds of every world
pub by_world : (P : HeldWorld → Type 0) → ((held : Held) → P (record { world = unformatted; held = held })) → ((at : HeldSite) → P (world_of at)) → (at : HeldWorld) → P at
by_world P none some at = by at.world at.held
  where
    by : (world : World) (held : Held) → P (record { world = world; held = held })
    by unformatted held = none held
    by (formatted site) held = some (record { site = site; held = held })

-- what a stop within moves leaves of a site, it leaves of its world
pub way_of_world : (moves : List Move) (site other : OfWorld) → IsOnWay site_rules moves site other → IsOnWay world_rules (map moves_on moves) (formatted site) (formatted other)
unfolding world_rules site_rules
way_of_world [] site other is = ap formatted is
way_of_world (move ∷ moves) site other (inl within) = inl (other, refl, within)
way_of_world (move ∷ moves) site other (inr later) = inr (way_of_world moves (site_after move site) other later)

-- and the world behind them is that of the site behind them
pub all_of_world : (moves : List Move) (site : OfWorld) → after_all world_rules (map moves_on moves) (formatted site) ≡ formatted (after_all site_rules moves site)
unfolding world_rules site_rules
all_of_world [] site = refl
all_of_world (move ∷ moves) site = all_of_world moves (site_after move site)

module _ (run : CommandResult) (course : Course Move Fault) (at : HeldSite) (is : run.course ≡ of_world course) where
  -- the worlds that the moves of a course pass, its command passes
  pub passed_of_site : (other : HeldSite) → IsOnWay site_rules course.moves at.site other.site → IsPassed (world_of at) run (world_of other)
  passed_of_site other on =
      subst (λ (c : Course WorldMove Fault). IsOnWay world_rules c.moves (formatted at.site) (formatted other.site)) (sym is)
      (way_of_world course.moves at.site other.site on)

  -- and comes to the world behind them
  pub behind_of_site : (last : HeldSite) → last.site ≡ after_all site_rules course.moves at.site → (world_of last).world ≡ world_behind run (formatted at.site)
  behind_of_site last last_is =
      ap formatted last_is ∙ sym (all_of_world course.moves at.site)
      ∙ ap (λ (c : Course WorldMove Fault). after_all world_rules c.moves (formatted at.site)) (sym is)

-- images

module _ {Name W : Type 0} (shows : Showing Name W) (less more : Images Name) (within : (f : ℕ) (name : Name) (bytes : List ℕ) → less f name bytes → more f name bytes) where
  -- from fewer images before a call as from more
  pub follows_from : (f : ℕ) (world next : W) (name : Name) (bytes : List ℕ) → Follows shows less f world next name bytes → Follows shows more f world next name bytes
  follows_from f world next name bytes = ⊎_elim (λ is. inl is) (λ was. inr (within f name bytes was.0, was.1))

  pub goes_from : (from : ℕ) (new : Images Name) (world : W) (passed : W → Type 0) → Goes shows from less new world passed → Goes shows from more new world passed
  goes_from from new world passed goes = record {
    earlier = λ f name bytes lt image. within f name bytes (goes.earlier f name bytes lt image);
    later = λ f choice le images. let among = goes.later f choice le images in
        (among.0, among.1, λ name. follows_from f world among.0 name (choice name) (among.2 name));
  }

  pub ends_from : (to : ℕ) (new : Images Name) (world next : W) → Ends shows to less new world next → Ends shows to more new world next
  ends_from to new world next ends f name bytes le image = follows_from f world next name bytes (ends f name bytes le image)

-- what a disk shows of a site, it shows of its world
pub goes_of_site : (from : ℕ) (old new : Images DiskName) (at : HeldSite) (passed : HeldSite → Type 0) (more : HeldWorld → Type 0)
    → ((other : HeldSite) → passed other → more (world_of other))
    → Goes ShowsHeld from old new at passed → Goes Shows from old new (world_of at) more
goes_of_site from old new at passed more wider goes = record {
  earlier = goes.earlier;
  later = λ f choice le images. let among = goes.later f choice le images in (world_of among.0, wider among.0 among.1, among.2);
}

-- these images are those of a start, once its disks are synced
abbrev pub AreSynced : Start → (DiskName → Bool) → Images DiskName → Type 0
AreSynced start used images = (f : ℕ) (name : DiskName) (bytes : List ℕ) → images f name bytes → once_synced start used f name bytes

-- where a form is stopped

-- nothing was written yet
pub passes_none : (start : Start) (used : DiskName → Bool) (new : Images DiskName) (at : HeldWorld) (passed : HeldWorld → Type 0) → AddsNone start.images new → Passes start used new at passed
passes_none start used new at passed none = inl none

-- moves are made from the third era behind the start on, once the disks that are used are synced
pub passes_moves : (start : Start) (used : DiskName → Bool) (mid new : Images DiskName) (at : HeldSite) (run : CommandResult) (course : Course Move Fault)
    → run.course ≡ of_world course → AreSynced start used mid
    → Goes ShowsHeld (start.era + 3) mid new at (λ other. IsOnWay site_rules course.moves at.site other.site)
    → Passes start used new (world_of at) (IsPassed (world_of at) run)
passes_moves start used mid new at run course is synced goes =
    inr (goes_from Shows mid (once_synced start used) synced (start.era + 3) new (world_of at) (IsPassed (world_of at) run)
    (goes_of_site (start.era + 3) mid new at (λ other. IsOnWay site_rules course.moves at.site other.site) (IsPassed (world_of at) run)
    (passed_of_site run course at is) goes))

-- Disks are synced in an era, and opened in the next: up to that era no image is new, and in later ones each was there and is what a read gives
-- of a disk that was synced, or shows the site.
pub record Opens (era : ℕ) (old new : Images DiskName) (contents : DiskName → List ℕ) (IsOf : DiskName → Type 0) (at : HeldSite) : Type 0 where
  pub earlier : (f : ℕ) (name : DiskName) (bytes : List ℕ) → f ≤ era → new f name bytes → old f name bytes
  pub later : (f : ℕ) (name : DiskName) (bytes : List ℕ) → era < f → new f name bytes
      → ShowsHeld name at bytes ⊎ (old f name bytes × (IsOf name → bytes ≡ contents name))

-- what is there once the disks before them were synced: those that aren't opened now are what a read gave
pub record WereSynced (start : Start) (used : DiskName → Bool) (old : Images DiskName) (contents : DiskName → List ℕ) (IsOf : DiskName → Type 0) : Type 0 where
  pub none : AddsNone start.images old
  pub reads : (name : DiskName) → IsOf name → contents name ≡ start.contents name
  pub rest : (f : ℕ) (name : DiskName) (bytes : List ℕ) → start.era + 2 < f → used name ≡ true → (IsOf name → ⊥) → old f name bytes → bytes ≡ start.contents name
  pub decides : (name : DiskName) → IsOf name ⊎ (IsOf name → ⊥)

module _ (start : Start) (used : DiskName → Bool) (old new : Images DiskName) (contents : DiskName → List ℕ) (IsOf : DiskName → Type 0) (at : HeldSite)
    (were : WereSynced start used old contents IsOf) (opens : Opens (start.era + 2) old new contents IsOf at) where
  was_synced : (f : ℕ) (name : DiskName) (bytes : List ℕ) → start.era + 2 < f → old f name bytes → (IsOf name → bytes ≡ contents name) → once_synced start used f name bytes
  was_synced f name bytes lt image own = (
    were.none f name bytes image,
    λ later is. ⊎_elim (λ of. own of ∙ were.reads name of) (λ other. were.rest f name bytes lt is other image) (were.decides name),
  )

  opened_follows : (f : ℕ) (name : DiskName) (bytes : List ℕ) → start.era + 3 ≤ f → new f name bytes → Follows ShowsHeld (once_synced start used) f at at name bytes
  opened_follows f name bytes le image = ⊎_elim
      (λ is. inl is)
      (λ was. inr (was_synced f name bytes (omega (arith, le)) was.0 was.1, λ is. is))
      (opens.later f name bytes (omega (arith, le)) image)

  -- opening stays in its world
  pub opened_comes : (to : ℕ) → start.era + 3 ≤ to → Comes ShowsHeld (start.era + 3) to (once_synced start used) new at (λ w. w ≡ at) at
  opened_comes to le = record {
    no_earlier = le;
    goes = record {
      earlier = λ f name bytes lt image.
          (were.none f name bytes (opens.earlier f name bytes (omega (arith, lt)) image), λ later. absurd (omega (arith, lt, later)));
      later = λ f choice from images. (at, refl, λ name. opened_follows f name (choice name) from (images name));
    };
    ends = λ f name bytes from image. opened_follows f name bytes (omega (arith, le, from)) image;
  }

  -- A form that goes no further, such as one that is refused for a lane, leaves the site: what a read gives now is an image.
  pub done_opened : (reads : Bool) (run : CommandResult) (status : Status) (after : List ℕ) (now : DiskName → List ℕ) (era : ℕ)
      → run.course.moves ≡ [] → start.era + 3 ≤ era → StandOn used start.contents (world_of at) → ((name : DiskName) → new era name (now name))
      → (reads ≡ true → HasRead status run.left after)
      → HasDone reads start used (world_of at) run status after now era new
  done_opened reads run status after now era none le stand images read = record {
    last = world_of at;
    last_is = ap (λ (moves : List WorldMove). after_all world_rules moves (formatted at.site)) (sym none);
    stand = λ name is. ⊎_elim
        (λ shows. shows)
        (λ was. subst (ShowsHeld name at) (sym (was.0.1 (omega (arith, le)) is)) (stand name is))
        (opened_follows era name (now name) le (images name));
    crash = inr (λ f name bytes from image. opened_follows f name bytes (omega (arith, le, from)) image);
    script = read;
  }

-- a course behind an opening

module _ {S : Type 0} (layers : Layers S) (start : Start) (used : DiskName → Bool) (mid new : S) (at : HeldSite) (run : CommandResult) (course : Course Move Fault)
    (is : run.course ≡ of_world course) (opened from to : ℕ)
    (comes : Comes ShowsHeld (start.era + 3) from (once_synced start used) (layers.images mid) at (λ w. w ≡ at) at) where
  -- it passes what its command passes
  pub passes_course : (fault : Option Fault) → Does (site_stage layers) opened from to mid new at course fault → Passes start used (layers.images new) (world_of at) (IsPassed (world_of at) run)
  unfolding site_stage
  passes_course fault does =
      passes_moves start used (once_synced start used) (layers.images new) at run course is (λ f name bytes image. image)
      (goes_wider ShowsHeld (start.era + 3) (once_synced start used) (layers.images new) at
      (λ (w : HeldSite). (w ≡ at) ⊎ IsOnWay site_rules course.moves at.site w.site) (λ (w : HeldSite). IsOnWay site_rules course.moves at.site w.site)
      (λ w. ⊎_elim (λ same. subst (λ (v : HeldSite). IsOnWay site_rules course.moves at.site v.site) (sym same) (way_begins site_rules course.moves at.site)) (λ on. on))
      (goes_after ShowsHeld (start.era + 3) from (once_synced start used) (layers.images mid) (layers.images new) at at
      (λ w. w ≡ at) (λ w. IsOnWay site_rules course.moves at.site w.site) comes does.goes))

-- at the end of a form

-- a run without moves, such as a refusal, which leaves what it finds
pub done_none : (reads : Bool) (start : Start) (used : DiskName → Bool) (at : HeldWorld) (run : CommandResult) (status : Status) (after : List ℕ)
    (contents : DiskName → List ℕ) (era : ℕ) (new : Images DiskName)
    → run.course.moves ≡ [] → AddsNone start.images new → ((name : DiskName) → contents name ≡ start.contents name) → StandOn used start.contents at
    → (reads ≡ true → HasRead status run.left after)
    → HasDone reads start used at run status after contents era new
done_none reads start used at run status after contents era new none adds same stand read = record {
  last = at;
  last_is = ap (λ (moves : List WorldMove). after_all world_rules moves at.world) (sym none);
  stand = λ name is. subst (Shows name at) (sym (same name)) (stand name is);
  crash = inl (adds, none);
  script = read;
}

-- a run that came to a site which each image from an era on shows
pub done_clean : (reads : Bool) (start : Start) (used : DiskName → Bool) (at : HeldWorld) (run : CommandResult) (status : Status) (after : List ℕ)
    (contents : DiskName → List ℕ) (era : ℕ) (new : Images DiskName) (last : HeldWorld)
    → last.world ≡ world_behind run at.world
    → ((f : ℕ) (name : DiskName) (bytes : List ℕ) → era ≤ f → new f name bytes → Shows name last bytes)
    → StandOn used contents last → (reads ≡ true → HasRead status run.left after)
    → HasDone reads start used at run status after contents era new
done_clean reads start used at run status after contents era new last is clean stand read = record {
  last = last;
  last_is = is;
  stand = stand;
  crash = inr (λ f name bytes le image. inl (clean f name bytes le image));
  script = read;
}

-- a run that came to a world to which each image from an era on follows
pub done_ends : (reads : Bool) (start : Start) (used : DiskName → Bool) (at : HeldSite) (run : CommandResult) (course : Course Move Fault) (status : Status) (after : List ℕ)
    (contents : DiskName → List ℕ) (era : ℕ) (new : Images DiskName) (last : HeldSite)
    → run.course ≡ of_world course → last.site ≡ after_all site_rules course.moves at.site
    → Ends ShowsHeld era (once_synced start used) new at last
    → StandOn used contents (world_of last) → (reads ≡ true → HasRead status run.left after)
    → HasDone reads start used (world_of at) run status after contents era new
done_ends reads start used at run course status after contents era new last is last_is ends stand read = record {
  last = world_of last;
  last_is = behind_of_site run course at is last last_is;
  stand = stand;
  crash = inr ends;
  script = read;
}

every_depth : (name : DiskName) → depth name ≤ 3
every_depth Cat = omega arith
every_depth Spare = omega arith
every_depth (Volume n) = omega arith
every_depth Boot = omega arith
every_depth Log = omega arith
every_depth (Chunk n) = omega arith

module _ {S : Type 0} (layers : Layers S) (start : Start) (used : DiskName → Bool) (new : S) (at : HeldSite) (run : CommandResult) (course : Course Move Fault)
    (is : run.course ≡ of_world course) (reads : Bool) (status : Status) (after : List ℕ) (contents : DiskName → List ℕ) (to era : ℕ) (le : to ≤ era)
    (reads_as : (name : DiskName) → layers.images new to name (contents name)) (read : reads ≡ true → HasRead status run.left after) where
  -- Where a site stands for what its moves come to, all of it opened, its command is done: what a read gives is an image.
  pub done_standing : (last : HeldSite) → last.site ≡ after_all site_rules course.moves at.site → StandsFor layers 3 to new last
      → HasDone reads start used (world_of at) run status after contents era (layers.images new)
  done_standing last last_is stands =
      done_clean reads start used (world_of at) run status after contents era (layers.images new) (world_of last) (behind_of_site run course at is last last_is)
      (λ f name bytes from image. stands.clean f name bytes (omega (arith, le, from)) (every_depth name) image)
      (λ name uses. stands.clean to name (contents name) (omega arith) (every_depth name) (reads_as name))
      read

  -- a course that wasn't cut short
  pub done_course : (from : ℕ) (mid : S) (fault : Option Fault) → Does (site_stage layers) 3 from to mid new at course fault → (IsCut (site_stage layers) fault → ⊥)
      → HasDone reads start used (world_of at) run status after contents era (layers.images new) × (fault ≡ course.fault)
  unfolding site_stage
  done_course from mid fault does whole = ⊎_elim
      (λ cut. absurd (whole cut))
      (λ has. (done_standing has.next has.next_is has.stands, has.fault_is))
      does.ended

-- over disks

module _ {D : Type 0} (disk : Ghosts D) (reads : (it : D) (f : ℕ) → (disk.ledger it).last ≤ f → disk.image it f (disk.bytes it)) (era : EraView) where
  reads_or : (it : Option D) (f : ℕ) → era.number ≤ f → may_or disk era it → image_or disk it f (bytes_or disk it)
  reads_or None f le may = refl
  reads_or (Some it) f le may = reads it f (omega (arith, le, may.not_past))

  -- what a read of a disk gives is an image of the present era and of each later one
  pub reads_as_images : (site : Site D) (f : ℕ) → era.number ≤ f → MayUseAll disk era site → (name : DiskName) → images_of disk site f name (contents_of disk site name)
  reads_as_images site f le may name = reads_or (disk_named site name) f le (may name)

-- statuses

full_again : (why : RoomFull) → room_full (full_of why) ≡ why
full_again (NotBackedUp file) = refl
full_again (Needed file txn) = refl
full_again (Positions end) = refl

-- a refusal that is of no chunk
abbrev pub IsOfNoChunk : Option Fault → Type 0
IsOfNoChunk (Some (chunk_lost space)) = ⊥
IsOfNoChunk fault = Unit {0}

pub no_chunk_or : (first second : Option Fault) → IsOfNoChunk first → IsOfNoChunk second → IsOfNoChunk (option_or first second)
no_chunk_or None second a b = b
no_chunk_or (Some fault) second a b = a

-- names no chunk wrongly
pub no_chunk_named : (spaces : List Space) (fault : SiteFault) → IsOfNoChunk (Some (fault_in fault)) → IsNamed spaces fault
no_chunk_named spaces (ChunkLost space name) is = absurd is
no_chunk_named spaces OutOfMemory is = tt
no_chunk_named spaces (DiskFault disk) is = tt
no_chunk_named spaces NotFormatted is = tt
no_chunk_named spaces AlreadyFormatted is = tt
no_chunk_named spaces (BadRecord disk slot) is = tt
no_chunk_named spaces (NeedsRestart number) is = tt
no_chunk_named spaces (NoSuchSpace name) is = tt
no_chunk_named spaces (NoSuchPage page) is = tt
no_chunk_named spaces LogLost is = tt
no_chunk_named spaces (FullLog why) is = tt
no_chunk_named spaces (StoreFull volume) is = tt
no_chunk_named spaces CatalogueFull is = tt
no_chunk_named spaces TooManyObjects is = tt
no_chunk_named spaces BootFull is = tt

-- A fault that a course may have, that isn't a failure and names a lost chunk, is told by the status of the course's.
pub told_as : (spaces : List Space) (fault : SiteFault) → IsNamed spaces fault → (IsFailure fault → ⊥) → (fault_in fault ≡ bad_record → ⊥) → status_of_course spaces (fault_in fault) ≡ status_of_site fault
told_as spaces OutOfMemory named whole good = absurd (whole tt)
told_as spaces (DiskFault name) named whole good = absurd (whole tt)
told_as spaces NotFormatted named whole good = refl
told_as spaces AlreadyFormatted named whole good = refl
told_as spaces (BadRecord name slot) named whole good = absurd (good refl)
told_as spaces (NeedsRestart number) named whole good = refl
told_as spaces (NoSuchSpace name) named whole good = refl
told_as spaces (NoSuchPage page) named whole good = refl
told_as spaces (ChunkLost space name) named whole good = ap LostChunk (sym named)
told_as spaces LogLost named whole good = refl
told_as spaces (FullLog why) named whole good = ap LogFull (full_again why)
told_as spaces (StoreFull volume) named whole good = refl
told_as spaces CatalogueFull named whole good = refl
told_as spaces TooManyObjects named whole good = refl
told_as spaces BootFull named whole good = refl
