-- What the answer on room says of how records come into a site's log.
use Rattle.std.specs.Prelude.{◌≡◌, ℕ, ◌+◌, ◌^◌, ◌≤◌, ◌&&◌, List, [], ◌∷◌, ◌++◌, length, map, not, nat_lt, nat_le, Bool, true, false, if◌then◌else◌, Option, None, Some, Result, Err}
use Rattle.std.specs.List.{list_all}
use Rattle.std.proofs.Common.{arith, refl, sym, ap, subst, ◌∙◌}
use Rattle.log_history.specs.History.{LogEntry, History}
use Rattle.log_history.specs.Transactions.{table_of, low_of}
use Rattle.log_mark.specs.declared.mark.LogMark.{LogMark}
use Rattle.log_files.specs.Files.{LogFiles, current_first, end_of, next_of, with_next, with_place}
use Rattle.log_files.specs.Rooms.{HasRoom, room_of, next_room as next_room_of}
use Rattle.log_files.specs.declared.room.Room.{Room as LogRoom}
use Rattle.log_files.specs.declared.room.Room.TheVariants.{Fits, Next, Full}
use Rattle.log_files.specs.declared.room.LogFull.TheVariants.{Positions}
use Rattle.logical_log.specs.Rings.{TellsOf}
use Rattle.logical_log.specs.declared.ring.LogRing.{LogRing}
use Rattle.logical_log.proofs.ResetLemmas.{first_next}
use Rattle.walks.specs.Courses.{Course, Does, after_all, behind_moves, make, only}
use Rattle.site_worlds.specs.Worlds.{Ring, Site}
use Rattle.site_worlds.specs.Files.{first_of_file, last_of_file}
use Rattle.site_worlds.specs.Fitness.{IsFitSite}
use Rattle.site_worlds.specs.Moves.{Move, append_batch, drop_oldest, next_file, move_lanes, site_after, site_rules}
use Rattle.world_laws.specs.KeptLaws.{CanAll}
use Rattle.site_courses.specs.Faults.{Fault, log_full, LogFull, not_backed_up, needed_by, no_position}
use Rattle.site_courses.specs.Courses.{is_at, lanes_to_end, to_end}
use Rattle.site_courses.specs.Appending.{Room, fits, wants_next, wants_drop, is_full, is_ring_full, oldest_of, room, append_with, append_to, append_course}
use Rattle.course_laws.specs.AppendingLaws.{IsReadyFor, leads_append, not_above}
use Rattle.ring_laws.specs.Rings.{files_of, opening}
use Rattle.ring_laws.specs.RoomLaws.{oldest_begin, room_in, same_room}
use Rattle.world_laws.specs.RingLaws.{ring_of}
use Rattle.site_layouts.specs.Stages.{HeldSite, Layers, site_stage}
use Rattle.site_core.specs.declared.faults.SiteFault.{SiteFault}
use Rattle.site_core.specs.Calls.{CallFrom}
use Rattle.site_core.specs.CallLaws.{cut_does, then_does}
use Rattle.site_core.specs.Faults.{fault_in, fault_of}
use Rattle.site_core.specs.Appending.{MayMake, TakesBatch, batch_moves, next_of_ring, next_moves, next_batch_moves}

-- The first moves may be made, and behind them the others.
pub can_split : (moves more : List Move) (site : Site) → CanAll (moves ++ more) site → CanAll moves site × CanAll more (after_all site_rules moves site)
unfolding site_rules
can_split [] more site can = (tt, can)
can_split (move ∷ moves) more site can = let rest = can_split moves more (site_after move site) can.1 in ((can.0, rest.0), rest.1)

module _ (records : List LogEntry) (site : Site) where
  pub may_next : MayMake (next_batch_moves records) site → MayMake next_moves site
  may_next may = record { has = may.has; can = (can_split (next_moves site) (append_batch records ∷ []) site may.can).0 }

  pub may_batch : MayMake (next_batch_moves records) site → (next : Site) → next ≡ after_all site_rules (next_moves site) site → MayMake (batch_moves records) next
  may_batch may next is =
      let can : CanAll (append_batch records ∷ []) next =
      subst (CanAll (append_batch records ∷ [])) (sym is) (can_split (next_moves site) (append_batch records ∷ []) site may.can).1 in
      record { has = can.0.has; can = can }

-- The next file is opened, and then the batch is put into it.
module _ {S : Type 0} (layers : Layers S) (records : List LogEntry) (needs from now : ℕ) (old mid : S) where
  -- the first is cut short
  pub next_cut : {A : Type 0} (fault : SiteFault) (result : Result A SiteFault) (told : SiteFault) → result ≡ Err told → told ≡ fault
      → CallFrom (site_stage layers) (MayMake next_moves) needs from now old mid (λ site. make (next_moves site)) (Some (fault_in fault))
      → CallFrom (site_stage layers) (MayMake (next_batch_moves records)) needs from now old mid (λ site. make (next_batch_moves records site)) (fault_of result)
  unfolding site_stage
  next_cut {A} fault result told is same call opened at enough stands may =
      subst (λ (r : Result A SiteFault). Does (site_stage layers) opened from now old mid at (make (next_batch_moves records at.site)) (fault_of r)) (sym (is ∙ ap (λ (f : SiteFault). Err f) same))
      (cut_does (site_stage layers) opened from now old mid at (next_moves at.site) (make (append_batch records ∷ [])) (fault_in fault)
      (call opened at enough stands (may_next records at.site may)))

  -- or both are made
  pub next_done : (to : ℕ) (new : S) (fault : Option Fault)
      → CallFrom (site_stage layers) (MayMake next_moves) needs from now old mid (λ site. make (next_moves site)) None
      → CallFrom (site_stage layers) (MayMake (batch_moves records)) needs now to mid new (λ site. make (batch_moves records site)) fault
      → CallFrom (site_stage layers) (MayMake (next_batch_moves records)) needs from to old new (λ site. make (next_batch_moves records site)) fault
  unfolding site_stage
  next_done to new fault first second opened at enough stands may =
      then_does (site_stage layers) opened from now to old mid new at (next_moves at.site) (make (append_batch records ∷ [])) fault
      (first opened at enough stands (may_next records at.site may))
      (λ next is standing. second opened next enough standing (may_batch records at.site may next.site is))

-- The batch fits.
pub takes_fitting : (records : List LogEntry) (site : Site) → IsFitSite site → TakesBatch fits records site
    → MayMake (batch_moves records) site × (make (batch_moves records site) ≡ append_course records site)
takes_fitting records site fit takes = (
  record { has = takes.ready.has; can = subst (λ (c : Course Move Fault). CanAll c.moves site) course (leads_append records [] site fit takes.ready).can },
  sym course,
)
  where
    course : append_course records site ≡ make (batch_moves records site)
    course = ap (λ (o : Option Ring). append_to o records site) takes.ready.has.is ∙ ap (λ (r : Room). append_with r records site) takes.answer_is

-- The next file is wanted, so fewer than eight are held.
next_by : (past fit full first needed : Bool) (one two three : LogFull)
    → (if past then is_full one else (if fit then fits else (if full then (if first then is_full two else (if needed then is_full three else wants_drop)) else wants_next))) ≡ wants_next
    → full ≡ false
next_by true fit full first needed one two three is = absurd cc
next_by false true full first needed one two three is = absurd cc
next_by false false true true needed one two three is = absurd cc
next_by false false true false true one two three is = absurd cc
next_by false false true false false one two three is = absurd cc
next_by false false false first needed one two three is = refl

not_full : (history : History) (starts : List ℕ) (ring : Ring) (count : ℕ) → room history starts ring count ≡ wants_next → is_ring_full starts ring ≡ false
not_full history starts ring count is =
    next_by (nat_lt (2 ^ 48) (length history + count)) (ring.is_open && nat_lt (length history + count) (first_of_file starts history (length starts) + 256)) (is_ring_full starts ring)
    (nat_lt ring.backed ring.oldest) (nat_le (low_of (table_of history) (length history)) (last_of_file starts history ring.oldest))
    (no_position (length history)) (not_backed_up ring.oldest) (needed_by ring.oldest (oldest_of (table_of history))) is

pub takes_next : (records : List LogEntry) (site : Site) → IsFitSite site → TakesBatch wants_next records site
    → MayMake (next_batch_moves records) site × (make (next_batch_moves records site) ≡ append_course records site)
takes_next records site fit takes = (
  record { has = takes.ready.has; can = subst (λ (c : Course Move Fault). CanAll c.moves site) course (leads_append records [] site fit takes.ready).can },
  sym course,
)
  where
    behind : Option Ring → Course Move Fault
    behind o = make (next_of_ring site.starts o ++ append_batch records ∷ [])

    course : append_course records site ≡ make (next_batch_moves records site)
    course = ap (λ (o : Option Ring). append_to o records site) takes.ready.has.is
        ∙ ap (λ (r : Room). append_with r records site) takes.answer_is
        ∙ sym (ap behind takes.ready.has.is
        ∙ ap (λ (b : Bool). make (opening b ++ append_batch records ∷ [])) (not_full site.history site.starts takes.ready.has.ring (length records) takes.answer_is))

-- The oldest file is to be dropped, so eight are held.
drop_by : (past fit full first needed : Bool) (one two three : LogFull)
    → (if past then is_full one else (if fit then fits else (if full then (if first then is_full two else (if needed then is_full three else wants_drop)) else wants_next))) ≡ wants_drop
    → full ≡ true
drop_by true fit full first needed one two three is = absurd cc
drop_by false true full first needed one two three is = absurd cc
drop_by false false true first needed one two three is = refl
drop_by false false false first needed one two three is = absurd cc

full_there : (history : History) (starts : List ℕ) (ring : Ring) (count : ℕ) → room history starts ring count ≡ wants_drop → is_ring_full starts ring ≡ true
full_there history starts ring count is =
    drop_by (nat_lt (2 ^ 48) (length history + count)) (ring.is_open && nat_lt (length history + count) (first_of_file starts history (length starts) + 256)) (is_ring_full starts ring)
    (nat_lt ring.backed ring.oldest) (nat_le (low_of (table_of history) (length history)) (last_of_file starts history ring.oldest))
    (no_position (length history)) (not_backed_up ring.oldest) (needed_by ring.oldest (oldest_of (table_of history))) is

-- lanes that go to the end leave the files of the log alone
lanes_leave : (site : Site) → next_moves (after_all site_rules (lanes_to_end site) site) ≡ next_moves site
unfolding site_rules
lanes_leave site = by (list_all (is_at (length site.history)) site.lanes)
  where
    by : (b : Bool) → next_moves (after_all site_rules (if b then [] else move_lanes (map (to_end (length site.history)) site.lanes) ∷ []) site) ≡ next_moves site
    by true = refl
    by false = refl

-- First all lanes go to the end, and then the next file takes the batch, where the oldest one is dropped.
pub takes_drop : (records : List LogEntry) (site : Site) → IsFitSite site → TakesBatch wants_drop records site
    → CanAll (lanes_to_end site) site × MayMake (next_batch_moves records) (after_all site_rules (lanes_to_end site) site)
    × (behind_moves (lanes_to_end site) (make (next_batch_moves records (after_all site_rules (lanes_to_end site) site))) ≡ append_course records site)
takes_drop records site fit takes = (
  can.0,
  record { has = can.1.0.has; can = subst (λ (ms : List Move). CanAll ms (after_all site_rules (lanes_to_end site) site)) (sym moves) can.1 },
  ap (λ (ms : List Move). behind_moves (lanes_to_end site) (make ms)) moves ∙ sym course,
)
  where
    course : append_course records site ≡ make (lanes_to_end site ++ drop_oldest ∷ next_file ∷ append_batch records ∷ [])
    course = ap (λ (o : Option Ring). append_to o records site) takes.ready.has.is ∙ ap (λ (r : Room). append_with r records site) takes.answer_is

    can : CanAll (lanes_to_end site) site × CanAll (drop_oldest ∷ next_file ∷ append_batch records ∷ []) (after_all site_rules (lanes_to_end site) site)
    can = can_split (lanes_to_end site) (drop_oldest ∷ next_file ∷ append_batch records ∷ []) site
        (subst (λ (c : Course Move Fault). CanAll c.moves site) course (leads_append records [] site fit takes.ready).can)

    moves : next_batch_moves records (after_all site_rules (lanes_to_end site) site) ≡ drop_oldest ∷ next_file ∷ append_batch records ∷ []
    moves = ap (λ (ms : List Move). ms ++ append_batch records ∷ [])
        (lanes_leave site ∙ ap (next_of_ring site.starts) takes.ready.has.is
        ∙ ap opening (full_there site.history site.starts takes.ready.has.ring (length records) takes.answer_is))

-- Behind the lanes' way to the end the next file takes the batch.
module _ {S : Type 0} (layers : Layers S) (records : List LogEntry) (opened from : ℕ) (old : S) (at : HeldSite) (fit : IsFitSite at.site) (takes : TakesBatch wants_drop records at.site) where
  -- the lanes fail
  pub drop_cut : (now : ℕ) (mid : S) (fault : Fault) → Does (site_stage layers) opened from now old mid at (make (lanes_to_end at.site)) (Some fault)
      → Does (site_stage layers) opened from now old mid at (append_course records at.site) (Some fault)
  unfolding site_stage
  drop_cut now mid fault does =
      subst (λ (c : Course Move Fault). Does (site_stage layers) opened from now old mid at c (Some fault)) (takes_drop records at.site fit takes).2
      (cut_does (site_stage layers) opened from now old mid at (lanes_to_end at.site)
      (make (next_batch_moves records (after_all site_rules (lanes_to_end at.site) at.site))) fault does)

  -- or they are there
  pub drop_done : (now to : ℕ) (mid new : S) (fault : Option Fault) → 2 ≤ opened → Does (site_stage layers) opened from now old mid at (make (lanes_to_end at.site)) None
      → CallFrom (site_stage layers) (MayMake (next_batch_moves records)) 2 now to mid new (λ site. make (next_batch_moves records site)) fault
      → Does (site_stage layers) opened from to old new at (append_course records at.site) fault
  unfolding site_stage
  drop_done now to mid new fault enough lanes rest =
      let so = takes_drop records at.site fit takes in
      let behind : Site = after_all site_rules (lanes_to_end at.site) at.site in
      subst (λ (c : Course Move Fault). Does (site_stage layers) opened from to old new at c fault) so.2
      (then_does (site_stage layers) opened from now to old mid new at (lanes_to_end at.site) (make (next_batch_moves records behind)) fault lanes
      (λ next is standing. subst (λ (s : Site). Does (site_stage layers) opened now to mid new next (make (next_batch_moves records s)) fault) is
      (rest opened next enough standing (subst (MayMake (next_batch_moves records)) (sym is) so.1))))

-- A batch for which the next file is wanted has positions.
next_has : (past fit : Bool) (end : ℕ) (later : LogRoom) (drops : Option ℕ) → (if past then Full (Positions end) else (if fit then Fits else later)) ≡ Next drops → past ≡ false
next_has true fit end later drops is = absurd cc
next_has false fit end later drops is = refl

pub next_positions : (files : LogFiles) (count : ℕ) (low : Option (ℕ × ℕ)) (drops : Option ℕ) → room_of files count low ≡ Next drops → end_of files + count ≤ 2 ^ 48
next_positions files count low drops is =
    not_above (2 ^ 48) (end_of files + count)
    (next_has (nat_lt (2 ^ 48) (end_of files + count)) (not files.is_closed && nat_le (length files.current + count) 256) (end_of files) (next_room_of files low) drops is)

-- The log's answer on room, asked with the oldest open Begin, is that of the whole history.
pub takes_by_log : (answer : LogRoom) (low : Option (ℕ × ℕ)) (records : List LogEntry) (site : Site) → IsFitSite site → (ready : IsReadyFor (records ∷ []) site)
    → low ≡ oldest_begin (table_of site.history) → answer ≡ room_of (files_of site.starts site.history ready.has.ring) (length records) low → TakesBatch (room_in answer) records site
takes_by_log answer low records site fit ready low_is is = record {
  ready = ready;
  answer_is = sym (
      ap room_in is
      ∙ ap (λ (o : Option (ℕ × ℕ)). room_in (room_of (files_of site.starts site.history ready.has.ring) (length records) o)) low_is
      ∙ same_room site.head.spaces site.history site.starts site.lines ready.has.ring fit.history (ring_of site ready.has.ring ready.has.is fit) (length records)
      );
}

-- A batch that finds no room is refused, and nothing is done.
pub takes_none : (why : LogFull) (records : List LogEntry) (site : Site) → TakesBatch (is_full why) records site → append_course records site ≡ only (Some (log_full why))
takes_none why records site takes =
    ap (λ (o : Option Ring). append_to o records site) takes.ready.has.is ∙ ap (λ (r : Room). append_with r records site) takes.answer_is

-- A batch that has positions fits into the next file, whatever files the value tells of behind it.
pub next_room : {D : Type 0} (files others : LogFiles) (log : LogRing D) (count : ℕ) → count ≤ 256 → end_of files + count ≤ 2 ^ 48
    → TellsOf (with_next (with_place files)) log → TellsOf others log → HasRoom count others
next_room files others log count few positions tells told =
    let none : length others.current ≡ 0 = sym told.used ∙ tells.used in
    let first : current_first others ≡ next_of files = sym told.held.first ∙ tells.held.first ∙ first_next files in
    record {
      open_file = sym (ap (λ (m : LogMark). m.is_closed) told.held.mark) ∙ ap (λ (m : LogMark). m.is_closed) tells.held.mark;
      few = omega (arith, none, few);
      positions = omega (arith, none, first, positions);
    }
