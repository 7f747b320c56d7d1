-- How a call of a site's log comes to be moves of the site.
use Rattle.std.specs.Prelude.{◌≡◌, ℕ, ◌<◌, ◌≤◌, List, [], ◌∷◌, true, false, Option, None, Some, Result, Err}
use Rattle.std.specs.Option.{option_map}
use mathlib.Core.Logic.{inl, inr}
use Rattle.std.proofs.Common.{arith, refl, sym, ap, subst, ◌∙◌}
use Rattle.std.proofs.lemmas.Bool.{false≢true}
use Rattle.log_history.specs.History.{History}
use Rattle.site_disk.specs.declared.disk.Disk.{Ghosts}
use Rattle.site_disk.specs.Images.{Leaves, OnlyAfter}
use Rattle.site_disk.specs.Seen.{seen}
use Rattle.walks.specs.MovingLaws.{one_goes, one_comes}
use Rattle.walks.specs.Courses.{Does, after_all, make}
use Rattle.log_files.specs.Files.{LogFiles}
use Rattle.log_files.specs.Ring.{MayPass}
use Rattle.log_files.specs.Answers.{IsFailure}
use Rattle.log_files.specs.declared.faults.LogFault.{LogFault}
use Rattle.log_files.specs.declared.faults.LogFault.TheVariants.{LogLost, BadRecord, Failed, OutOfMemory}
use Rattle.logical_log.specs.Rings.{disk_of as log_disk, Stands as LogStands}
use Rattle.logical_log.specs.declared.ring.LogRing.{LogRing}
use Rattle.site_headers.specs.Heads.{Head}
use Rattle.site_model.specs.declared.disk_name.DiskName.{DiskName}
use Rattle.site_model.specs.declared.disk_name.DiskName.TheVariants.{Cat, Spare, Boot, Log, Volume, Chunk}
use Rattle.site_worlds.specs.Worlds.{Ring, Site}
use Rattle.site_worlds.specs.Fitness.{IsFitSite}
use Rattle.site_worlds.specs.Moves.{Move, append_batch, append_reset, close_file, drop_oldest, next_file, mark_backed, format_log, commit_objects, append_lines, begin_restore, set_prepared, end_restore, move_lanes, the_log, mover, site_after, site_rules}
use Rattle.world_laws.specs.KeptLaws.{CanAll, kept}
use Rattle.world_laws.specs.ListLaws.{some_same}
use Rattle.site_courses.specs.Faults.{Fault, cuts}
use Rattle.ring_laws.specs.Rings.{files_of, files_in, files_after, files_on_way}
use Rattle.ring_laws.specs.MovesLaws.{files_behind}
use Rattle.ring_laws.specs.PassedLaws.{AreSteps}
use Rattle.site_layouts.specs.Disks.{is_of}
use Rattle.site_layouts.specs.ApartLaws.{Awaits}
use Rattle.site_layouts.specs.WayLaws.{AreOf, AwaitAll, PassedAll, Way, way_moves, way_moved, way_stands}
use Rattle.site_layouts.specs.LogLaws.{log_shows, moves_show}
use Rattle.site_layouts.specs.Stages.{HeldSite, ShowsHeld, StandsFor, site_stage}
use Rattle.site_core.specs.declared.site.Site.{Site as Values}
use Rattle.site_core.specs.Agreements.{LogAgrees}
use Rattle.site_core.specs.Layers.{layers}
use Rattle.site_core.specs.LayerLaws.{store_later, boot_later, lanes_later, store_stays, boot_stays, lanes_stay}
use Rattle.site_core.specs.Calls.{CallFrom}
use Rattle.site_core.specs.Faults.{fault_in, fault_of, of_log}
use Rattle.site_core.specs.declared.faults.SiteFault.{SiteFault}
use Rattle.site_core.specs.Appending.{MayMake}

-- moves of the log that is there

abbrev pub IsLogMove : Move → Type 0
IsLogMove (append_batch records) = Unit {0}
IsLogMove (append_reset restore target time) = Unit {0}
IsLogMove close_file = Unit {0}
IsLogMove drop_oldest = Unit {0}
IsLogMove next_file = Unit {0}
IsLogMove (mark_backed file) = Unit {0}
IsLogMove move = ⊥

abbrev pub AreLogMoves : List Move → Type 0
AreLogMoves [] = Unit {0}
AreLogMoves (move ∷ moves) = IsLogMove move × AreLogMoves moves

-- they change nothing of a site but its history, its files and what the log's disk has
record IsLogOf (site other : Site) : Type 0 where
  history : History
  starts : List ℕ
  ring : Option Ring
  is : other ≡ record site { history = history; starts = starts; ring = ring }

record IsPlain (move : Move) : Type 0 where
  by_log : mover move ≡ the_log
  awaits : (name : DiskName) (bytes : List ℕ) → Awaits move name bytes
  part : (site : Site) → IsLogOf site (site_after move site)
  stays : move ≡ format_log → ⊥

batch_stays : (records : History) → append_batch records ≡ format_log → ⊥
batch_stays records is = cc

reset_stays : (restore target time : ℕ) → append_reset restore target time ≡ format_log → ⊥
reset_stays restore target time is = cc

close_stays : close_file ≡ format_log → ⊥
close_stays is = cc

drop_stays : drop_oldest ≡ format_log → ⊥
drop_stays is = cc

next_stays : next_file ≡ format_log → ⊥
next_stays is = cc

mark_stays : (file : ℕ) → mark_backed file ≡ format_log → ⊥
mark_stays file is = cc

part_of_log : (site : Site) (history : History) (starts : List ℕ) (ring : Option Ring) → IsLogOf site (record site { history = history; starts = starts; ring = ring })
part_of_log site history starts ring = record { history = history; starts = starts; ring = ring; is = refl }

is_plain : (move : Move) → IsLogMove move → IsPlain move
is_plain (append_batch records) log = record { by_log = refl; awaits = λ name bytes. tt; part = λ site. part_of_log site _ _ _; stays = batch_stays records }
is_plain (append_reset restore target time) log = record { by_log = refl; awaits = λ name bytes. tt; part = λ site. part_of_log site _ _ _; stays = reset_stays restore target time }
is_plain close_file log = record { by_log = refl; awaits = λ name bytes. tt; part = λ site. part_of_log site _ _ _; stays = close_stays }
is_plain drop_oldest log = record { by_log = refl; awaits = λ name bytes. tt; part = λ site. part_of_log site _ _ _; stays = drop_stays }
is_plain next_file log = record { by_log = refl; awaits = λ name bytes. tt; part = λ site. part_of_log site _ _ _; stays = next_stays }
is_plain (mark_backed file) log = record { by_log = refl; awaits = λ name bytes. tt; part = λ site. part_of_log site _ _ _; stays = mark_stays file }
is_plain format_log log = absurd log
is_plain (commit_objects added deleted) log = absurd log
is_plain (append_lines more) log = absurd log
is_plain (begin_restore point to) log = absurd log
is_plain (set_prepared prepared) log = absurd log
is_plain end_restore log = absurd log
is_plain (move_lanes goals) log = absurd log

are_steps : (moves : List Move) → AreLogMoves moves → AreSteps moves
are_steps [] logs = tt
are_steps (move ∷ moves) logs = ((is_plain move logs.0).stays, are_steps moves logs.1)

are_of_log : (moves : List Move) → AreLogMoves moves → AreOf the_log moves
are_of_log [] logs = tt
are_of_log (move ∷ moves) logs = ((is_plain move logs.0).by_log, are_of_log moves logs.1)

await_all : (moves : List Move) (name : DiskName) (bytes : List ℕ) → AreLogMoves moves → AwaitAll moves name bytes
await_all [] name bytes logs = tt
await_all (move ∷ moves) name bytes logs = ((is_plain move logs.0).awaits name bytes, await_all moves name bytes logs.1)

log_of_log : (site other last : Site) → IsLogOf site other → IsLogOf other last → IsLogOf site last
log_of_log site other last first next = record {
  history = next.history;
  starts = next.starts;
  ring = next.ring;
  is = next.is ∙ ap (λ (s : Site). record s { history = next.history; starts = next.starts; ring = next.ring }) first.is;
}

log_behind : (moves : List Move) (site : Site) → AreLogMoves moves → IsLogOf site (after_all site_rules moves site)
unfolding site_rules
log_behind [] site logs = part_of_log site site.history site.starts site.ring
log_behind (move ∷ moves) site logs =
    log_of_log site (site_after move site) (after_all site_rules moves (site_after move site)) ((is_plain move logs.0).part site) (log_behind moves (site_after move site) logs.1)

-- what moves make of the files that the log holds
abbrev pub files_behind_all : List Move → LogFiles → LogFiles
files_behind_all [] files = files
files_behind_all (move ∷ moves) files = files_behind_all moves (files_after move files)

files_behind_moves : (moves : List Move) (site : Site) (files : LogFiles) → AreLogMoves moves → CanAll moves site → IsFitSite site → files_in site ≡ Some files
    → files_in (after_all site_rules moves site) ≡ Some (files_behind_all moves files)
unfolding site_rules
files_behind_moves [] site files logs can fit is = is
files_behind_moves (move ∷ moves) site files logs can fit is =
    files_behind_moves moves (site_after move site) (files_after move files) logs.1 can.1 (kept move site can.0 fit)
    (files_behind move site can.0 fit (is_plain move logs.0).stays ∙ ap (option_map (files_after move)) is)

only_log : (name : DiskName) → is_of the_log name ≡ true → name ≡ Log
only_log Cat is = absurd (false≢true is)
only_log Spare is = absurd (false≢true is)
only_log Boot is = absurd (false≢true is)
only_log Log is = refl
only_log (Volume n) is = absurd (false≢true is)
only_log (Chunk n) is = absurd (false≢true is)

-- a failure of the log cuts a call short
pub failure_cuts : (fault : LogFault) → IsFailure fault → cuts (fault_in (of_log fault)) ≡ true
failure_cuts LogLost is = absurd is
failure_cuts (BadRecord slot) is = absurd is
failure_cuts Failed is = refl
failure_cuts OutOfMemory is = refl

module _ {D : Type 0} (disk : Ghosts D) (old : Values D) (log : LogRing D) (from to : ℕ) (le : from ≤ to)
    (moves_of : Site → List Move) (are : (site : Site) → AreLogMoves (moves_of site))
    (moves_by : LogFiles → List Move)
    (same : (site : Site) (ring : Ring) → site.ring ≡ Some ring → IsFitSite site → moves_of site ≡ moves_by (files_of site.starts site.history ring))
    (leaves : (site : ℕ) (files : LogFiles) → LogStands site files (seen disk (log_disk old.log)) old.log
    → Leaves from (MayPass site files (files_on_way (moves_by files) files)) (disk.image (log_disk old.log)) (disk.image (log_disk log))) where
  abbrev new : Values D
  new = record old { log = log }

  others_same : (f : ℕ) (name : DiskName) (bytes : List ℕ) → is_of the_log name ≡ false → (layers disk).images new f name bytes → (layers disk).images old f name bytes
  others_same f Cat bytes rests image = image
  others_same f Spare bytes rests image = image
  others_same f Boot bytes rests image = image
  others_same f Log bytes rests image = absurd (false≢true (sym rests))
  others_same f (Volume n) bytes rests image = image
  others_same f (Chunk n) bytes rests image = image

  module _ (opened : ℕ) (at : HeldSite) (enough : 2 ≤ opened) (stands : StandsFor (layers disk) opened from old at) (may : MayMake moves_of at.site) where
    abbrev files : LogFiles
    files = files_of at.site.starts at.site.history may.has.ring

    here : LogStands at.site.head.site files (seen disk (log_disk old.log)) old.log
    here = (stands.agree.log enough).stands may.has.ring may.has.is

    held_is : files_in at.site ≡ Some files
    held_is = ap (option_map (files_of at.site.starts at.site.history)) may.has.is

    by_files : moves_of at.site ≡ moves_by files
    by_files = same at.site may.has.ring may.has.is stands.fits

    abbrev Step : List ℕ → List ℕ → Type 0
    Step = MayPass at.site.head.site files (files_on_way (moves_of at.site) files)

    left : Leaves from Step (disk.image (log_disk old.log)) (disk.image (log_disk log))
    left = subst (λ (ms : List Move). Leaves from (MayPass at.site.head.site files (files_on_way ms files)) (disk.image (log_disk old.log)) (disk.image (log_disk log)))
        (sym by_files) (leaves at.site.head.site files here)

    way : Way (layers disk) (moves_of at.site) the_log Log opened from old new at Step
    way = record {
      can = may.can;
      are = are_of_log (moves_of at.site) (are at.site);
      stands = stands;
      is_opened = enough;
      is_who = only_log;
      others = others_same;
      leaves = left;
      steps = λ before bytes shows is. moves_show (moves_of at.site) at.site at.held files before bytes (are_steps (moves_of at.site) (are at.site)) may.can stands.fits held_is is shows;
      awaits = λ f name bytes ge rests image. await_all (moves_of at.site) name bytes (are at.site);
    }

    abbrev Passed : HeldSite → Type 0
    Passed = PassedAll (layers disk) (moves_of at.site) at

    -- cut short
    cut : (fault : Fault) → cuts fault ≡ true → Does (site_stage (layers disk)) opened from to old new at (make (moves_of at.site)) (Some fault)
    unfolding site_stage
    cut fault cuts_it = record {
      no_earlier = le;
      goes = one_goes ShowsHeld Log (is_of the_log) from ((layers disk).images old) ((layers disk).images new) at Passed
          (way_moves (layers disk) (moves_of at.site) the_log Log opened from old new at Step way);
      ended = inl cuts_it;
    }

    module _ (lt : (disk.ledger (log_disk log)).last < to) (last_era : ℕ) (before : last_era < to)
        (only : OnlyAfter last_era (disk.bytes (log_disk log)) (disk.image (log_disk log)))
        (gained : LogStands at.site.head.site files (seen disk (log_disk old.log)) old.log
        → LogStands at.site.head.site (files_behind_all (moves_by files) files) (seen disk (log_disk log)) log) where
      abbrev last_site : Site
      last_site = after_all site_rules (moves_of at.site) at.site

      abbrev next : HeldSite
      next = record { site = last_site; held = at.held }

      there : LogStands at.site.head.site (files_behind_all (moves_of at.site) files) (seen disk (log_disk log)) log
      there = subst (λ (ms : List Move). LogStands at.site.head.site (files_behind_all ms files) (seen disk (log_disk log)) log) (sym by_files) (gained here)

      part : IsLogOf at.site last_site
      part = log_behind (moves_of at.site) at.site (are at.site)

      held_then : files_in last_site ≡ Some (files_behind_all (moves_of at.site) files)
      held_then = files_behind_moves (moves_of at.site) at.site files (are at.site) may.can stands.fits held_is

      same_head : last_site.head ≡ at.site.head
      same_head = ap (λ (s : Site). s.head) part.is

      stands_then : LogStands last_site.head.site (files_behind_all (moves_of at.site) files) (seen disk (log_disk log)) log
      stands_then = subst (λ (h : Head). LogStands h.site (files_behind_all (moves_of at.site) files) (seen disk (log_disk log)) log) (sym same_head) there

      shows_then : (f : ℕ) (bytes : List ℕ) → to ≤ f → disk.image (log_disk log) f bytes → ShowsHeld Log next bytes
      shows_then f bytes ge image =
          subst (ShowsHeld Log next) (sym (only f bytes (omega (arith, before, ge)) image))
          (log_shows last_site at.held (files_behind_all (moves_of at.site) files) (disk.bytes (log_disk log)) held_then stands_then.now)

      log_agrees_then : LogAgrees disk to last_site.head.site last_site.starts last_site.history last_site.ring log
      log_agrees_then = record {
        last = lt;
        made = there.made;
        stands = λ ring is. subst (λ (k : LogFiles). LogStands last_site.head.site k (seen disk (log_disk log)) log)
            (sym (some_same (sym (ap (option_map (files_of last_site.starts last_site.history)) is) ∙ held_then))) stands_then;
      }

      abbrev AgreesAs : Site → Type 0
      AgreesAs s = (layers disk).store_agrees to new s.head s.store at.held
          × (1 ≤ opened → (layers disk).boot_agrees to new s.head s.lines s.number s.active)
          × (3 ≤ opened → (layers disk).lanes_agree to new s.head s.history s.lines s.number s.active s.lanes)

      others_agree : AgreesAs last_site
      others_agree = subst AgreesAs (sym part.is) (
        store_stays disk to old log at.site.head at.site.store at.held (store_later disk from to le old at.site.head at.site.store at.held stands.agree.store),
        (λ some. boot_stays disk to old log at.site.head at.site.lines at.site.number at.site.active
            (boot_later disk from to le old at.site.head at.site.lines at.site.number at.site.active (stands.agree.boot some))),
        (λ all. lanes_stay disk to old log at.site.head at.site.history part.history at.site.lines at.site.number at.site.active at.site.lanes
            (lanes_later disk from to le old at.site.head at.site.history at.site.lines at.site.number at.site.active at.site.lanes (stands.agree.lanes all))),
      )

      stands_for : StandsFor (layers disk) opened to new next
      stands_for = way_stands (layers disk) (moves_of at.site) the_log Log opened from old new at Step way to le shows_then
          (record { store = others_agree.0; boot = others_agree.1; log = λ two. log_agrees_then; lanes = others_agree.2 })

      -- or ended
      done : Does (site_stage (layers disk)) opened from to old new at (make (moves_of at.site)) None
      unfolding site_stage
      done =
          let comes = one_comes ShowsHeld Log (is_of the_log) from to ((layers disk).images old) ((layers disk).images new) at Passed next
          (way_moved (layers disk) (moves_of at.site) the_log Log opened from old new at Step way to le shows_then) in
          record {
            no_earlier = le;
            goes = comes.goes;
            ended = inr (record { fault_is = refl; next = next; next_is = refl; ends = comes.ends; stands = stands_for });
          }

  -- The clause of a call of the log: cut short,
  pub log_fails : (fault : Fault) → cuts fault ≡ true
      → CallFrom (site_stage (layers disk)) (MayMake moves_of) 2 from to old new (λ site. make (moves_of site)) (Some fault)
  unfolding site_stage
  log_fails fault cuts_it opened at enough stands may = cut opened at enough stands may fault cuts_it

  pub log_breaks : {A : Type 0} (result : Result A SiteFault) (fault : SiteFault) → result ≡ Err fault → cuts (fault_in fault) ≡ true
      → CallFrom (site_stage (layers disk)) (MayMake moves_of) 2 from to old new (λ site. make (moves_of site)) (fault_of result)
  log_breaks {A} result fault is cuts_it =
      subst (λ (r : Result A SiteFault). CallFrom (site_stage (layers disk)) (MayMake moves_of) 2 from to old new (λ site. make (moves_of site)) (fault_of r)) (sym is)
      (log_fails (fault_in fault) cuts_it)

  -- or ended.
  pub log_done : (last_era : ℕ) → last_era < to → (disk.ledger (log_disk log)).last ≤ last_era
      → OnlyAfter last_era (disk.bytes (log_disk log)) (disk.image (log_disk log))
      → ((site : ℕ) (files : LogFiles) → LogStands site files (seen disk (log_disk old.log)) old.log
      → LogStands site (files_behind_all (moves_by files) files) (seen disk (log_disk log)) log)
      → CallFrom (site_stage (layers disk)) (MayMake moves_of) 2 from to old new (λ site. make (moves_of site)) None
  unfolding site_stage
  log_done last_era before last only gained opened at enough stands may =
      done opened at enough stands may (omega (arith, last, before)) last_era before only
      (gained at.site.head.site (files_of at.site.starts at.site.history may.has.ring))
