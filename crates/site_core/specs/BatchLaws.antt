-- What a batch that may be appended is to the moves that append it.
use Rattle.std.specs.Prelude.{◌≡◌, ℕ, ◌≤◌, List, [], ◌∷◌, length, Option, None, Some, Result, Err}
use Rattle.std.proofs.Common.{arith, refl, sym, ap, subst, ◌∙◌}
use Rattle.log_history.specs.History.{LogEntry}
use Rattle.site_disk.specs.declared.disk.Disk.{Ghosts}
use Rattle.log_files.specs.Files.{LogFiles}
use Rattle.log_files.specs.Rooms.{room_of}
use Rattle.log_files.specs.declared.room.Room.{Room as LogRoom}
use Rattle.log_files.specs.declared.room.Room.TheVariants.{Full}
use Rattle.log_files.specs.declared.room.LogFull.{LogFull as RoomFull}
use Rattle.log_files.specs.declared.room.LogFull.TheVariants.{NotBackedUp, Needed, Positions}
use Rattle.logical_log.specs.Rings.{IsMade as IsMadeLog, IsOpen, TellsOf}
use Rattle.logical_log.specs.declared.ring.LogRing.{LogRing}
use Rattle.walks.specs.Courses.{Course, Does, make}
use Rattle.site_worlds.specs.Moves.{Move}
use Rattle.site_worlds.specs.Worlds.{Site}
use Rattle.course_laws.specs.AppendingLaws.{IsReadyFor}
use Rattle.site_courses.specs.Appending.{Room, append_course, is_full, wants_drop}
use Rattle.site_courses.specs.Courses.{lanes_to_end}
use Rattle.site_courses.specs.Faults.{Fault, log_full}
use Rattle.ring_laws.specs.Rings.{files_of}
use Rattle.ring_laws.specs.RoomLaws.{room_in}
use Rattle.site_layouts.specs.Stages.{HeldSite, Layers, StandsFor, site_stage}
use Rattle.site_core.specs.declared.faults.SiteFault.{SiteFault}
use Rattle.site_core.specs.declared.site.Site.{Site as Values}
use Rattle.site_core.specs.AppendLaws.{drop_cut, drop_done, takes_by_log, takes_none}
use Rattle.site_core.specs.Appending.{MayMake, TakesBatch, next_batch_moves}
use Rattle.site_core.specs.Batches.{MayAppend}
use Rattle.site_core.specs.Calls.{CallFrom}
use Rattle.site_core.specs.CallLaws.{nothing_to_do}
use Rattle.site_core.specs.Checkpoints.{MayGo, TakesBehindDrop}
use Rattle.site_core.specs.Faults.{fault_in, fault_of, full_of}
use Rattle.site_core.specs.Layers.{layers}
use Rattle.site_core.specs.Made.{IsMadeSite}
use Rattle.site_core.specs.Opened.{IsOpenSite}

ready_by : (spaces : ℕ) (records : List LogEntry) (low : Option (ℕ × ℕ)) (site : Site) → 1 ≤ length records → length records ≤ 32 → MayAppend spaces records low site
    → IsReadyFor (records ∷ []) site
ready_by spaces records low site some few may = record {
  none = may.none;
  has = may.has;
  are = (record { some = some; few = omega (arith, few); order = may.order; within = may.within; plain = may.plain }, tt);
}

full_room : (why : RoomFull) → room_in (Full why) ≡ is_full (full_of why)
full_room (NotBackedUp file) = refl
full_room (Needed file txn) = refl
full_room (Positions end) = refl

module _ {D : Type 0} (disk : Ghosts D) (from : ℕ) (old : Values D) (spaces : ℕ) (records : List LogEntry) (low : Option (ℕ × ℕ)) (count : ℕ) (same : length records ≡ count)
    (some : 1 ≤ count) (few : count ≤ 32) (answer : LogRoom) (answers : (files : LogFiles) → TellsOf files old.log → answer ≡ room_of files count low) where
  takes : (opened : ℕ) (at : HeldSite) → 3 ≤ opened → StandsFor (layers disk) opened from old at → MayAppend spaces records low at.site
      → TakesBatch (room_in answer) records at.site
  takes opened at enough stands may =
      let ready : IsReadyFor (records ∷ []) at.site = ready_by spaces records low at.site (omega (arith, same, some)) (omega (arith, same, few)) may in
      let files : LogFiles = files_of at.site.starts at.site.history ready.has.ring in
      takes_by_log answer low records at.site stands.fits ready may.low_is
      (answers files ((stands.agree.log (omega (arith, enough))).stands ready.has.ring ready.has.is).tells ∙ ap (λ (n : ℕ). room_of files n low) (sym same))

  -- The clause of a call by the log's answer is that of `append`.
  pub append_by : (needs to : ℕ) (new : Values D) (fault : Option Fault) (room : Room) → room_in answer ≡ room → needs ≤ 3
      → CallFrom (site_stage (layers disk)) (TakesBatch room records) needs from to old new (append_course records) fault
      → CallFrom (site_stage (layers disk)) (MayAppend spaces records low) 3 from to old new (append_course records) fault
  unfolding site_stage
  append_by needs to new fault room is less call opened at enough stands may =
      call opened at (omega (arith, less, enough)) stands (subst (λ (r : Room). TakesBatch r records at.site) is (takes opened at enough stands may))

  -- Where the oldest file is to be dropped, the lanes can go to the end.
  pub append_behind : (to : ℕ) (new : Values D) (fault : Option Fault) → room_in answer ≡ wants_drop
      → CallFrom (site_stage (layers disk)) (TakesBehindDrop spaces records) 3 from to old new (append_course records) fault
      → CallFrom (site_stage (layers disk)) (MayAppend spaces records low) 3 from to old new (append_course records) fault
  unfolding site_stage
  append_behind to new fault is call opened at enough stands may =
      call opened at enough stands (record {
        takes = subst (λ (r : Room). TakesBatch r records at.site) is (takes opened at enough stands may);
        goes = record { none = may.none; has = may.has; count = stands.fits.lanes.count ∙ may.count; none_lost = may.none_lost };
      })

  -- A full log is told as such, and nothing is done.
  pub full_by : (why : RoomFull) → answer ≡ Full why
      → CallFrom (site_stage (layers disk)) (MayAppend spaces records low) 3 from from old old (append_course records) (Some (log_full (full_of why)))
  unfolding site_stage
  full_by why is opened at enough stands may =
      let refused = takes_none (full_of why) records at.site (subst (λ (r : Room). TakesBatch r records at.site) (ap room_in is ∙ full_room why) (takes opened at enough stands may)) in
      subst (λ (c : Course Move Fault). Does (site_stage (layers disk)) opened from from old old at c (Some (log_full (full_of why)))) (sym refused)
      (nothing_to_do (site_stage (layers disk)) opened from from old old at (λ f name bytes image. image) (omega arith) (Some (log_full (full_of why))) stands)

-- The lanes go to the end, and behind that the next file takes the batch.
module _ {S : Type 0} (layers : Layers S) (spaces : ℕ) (records : List LogEntry) (from now : ℕ) (old mid : S) where
  pub drop_fails : {A : Type 0} (fault : SiteFault) (result : Result A SiteFault) (told : SiteFault) → result ≡ Err told → told ≡ fault
      → CallFrom (site_stage layers) (MayGo spaces) 3 from now old mid (λ site. make (lanes_to_end site)) (Some (fault_in fault))
      → CallFrom (site_stage layers) (TakesBehindDrop spaces records) 3 from now old mid (append_course records) (fault_of result)
  unfolding site_stage
  drop_fails {A} fault result told is same call opened at enough stands may =
      subst (λ (r : Result A SiteFault). Does (site_stage layers) opened from now old mid at (append_course records at.site) (fault_of r)) (sym (is ∙ ap (λ (f : SiteFault). Err f) same))
      (drop_cut layers records opened from old at stands.fits may.takes now mid (fault_in fault) (call opened at enough stands may.goes))

  pub drop_ends : (to : ℕ) (new : S) (fault : Option Fault)
      → CallFrom (site_stage layers) (MayGo spaces) 3 from now old mid (λ site. make (lanes_to_end site)) None
      → CallFrom (site_stage layers) (MayMake (next_batch_moves records)) 2 now to mid new (λ site. make (next_batch_moves records site)) fault
      → CallFrom (site_stage layers) (TakesBehindDrop spaces records) 3 from to old new (append_course records) fault
  unfolding site_stage
  drop_ends to new fault lanes rest opened at enough stands may =
      drop_done layers records opened from old at stands.fits may.takes now to mid new fault (omega (arith, enough)) (lanes opened at enough stands may.goes) rest

-- the lanes are open still behind a call of the log alone
pub opened_behind : {D : Type 0} (count : ℕ) (old : Values D) (log : LogRing D) → IsOpenSite count old → IsOpen log → IsOpenSite count (record old { log = log })
opened_behind count old log is log_is = record { log = log_is; few = is.few; enough = is.enough; lanes = is.lanes }

-- and the values are made as they were
pub made_behind : {D : Type 0} (old : Values D) (log : LogRing D) → IsMadeSite old → IsMadeLog log → IsMadeSite (record old { log = log })
made_behind old log is log_is = record { store = is.store; boot = is.boot; log = log_is; count = is.count; lanes = is.lanes }
