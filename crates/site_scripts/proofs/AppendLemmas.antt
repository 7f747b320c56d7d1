-- A batch that is appended, or refused.
use Rattle.std.proofs.Common.{◌≡◌, ◌∙◌, ℕ, suc, ◌+◌, ◌≤◌, List, [], ◌∷◌, ◌++◌, length, map, Bool, true, false, if◌then◌else◌, cond, Option, None, Some, inl, inr, ⊎_elim, refl, sym, ap, subst, arith, append_assoc, length-append}
use Rattle.std.specs.List.{count_by, list_all}
use Rattle.std.proofs.lemmas.List.{append-nil}
use Rattle.std.proofs.lemmas.List.Sums.{sum_by-append}
use Rattle.log_history.specs.History.{LogEntry, History}
use Rattle.log_history.specs.Transactions.{Table, table_of}
use Rattle.log_record.specs.declared.records.Record.{Record}
use Rattle.log_record.specs.Entry.{history_of}
use Rattle.onbar_grammar.specs.Script.{Raw}
use Rattle.ring_laws.specs.RoomLaws.{oldest_begin}
use Rattle.script_steps.specs.Collecting.{collected_of}
use Rattle.site_disk.specs.declared.disk.Disk.{Ghosts}
use Rattle.site_headers.specs.Heads.{Head}
use Rattle.site_model.specs.Texts.{is_commit_entry}
use Rattle.txn_table.specs.Table.{oldest}
use Rattle.site_worlds.specs.Worlds.{Ring, LaneState, Site, stands as at_place, blank, merges, replays, stale, lost}
use Rattle.site_worlds.specs.Fitness.{IsFitSite}
use Rattle.site_worlds.specs.Moves.{Move, append_batch, drop_oldest, next_file, move_lanes, site_rules}
use Rattle.world_laws.specs.ListLaws.{none_some}
use Rattle.site_courses.specs.Appending.{Room, fits, wants_next, wants_drop, is_full, room, append_with, append_to, append_course}
use Rattle.site_courses.specs.Courses.{first_lost, if_any_lost, is_at, lanes_to_end, to_end}
use Rattle.site_courses.specs.Faults.{Fault}
use Rattle.site_layouts.specs.Stages.{HeldSite, StandsFor, site_stage}
use Rattle.site_core.specs.declared.site.Site.{Site as SiteValue}
use Rattle.site_core.specs.Batches.{MayAppend}
use Rattle.site_core.specs.Calls.{CallFrom}
use Rattle.site_core.specs.Layers.{layers}
use Rattle.site_runs.specs.AppendLaws.{append_has}
use Rattle.site_runs.specs.Places.{GoesOnFrom, KeepsUpTo, appended_keeps}
use Rattle.site_runs.specs.Scripts.{ScriptState, appended}
use Rattle.walks.specs.Courses.{Does, after_all}
use Rattle.walks.specs.CoursesLaws.{after_all-append}
use Rattle.site_scripts.specs.declared.work.Work.{Work}
use Rattle.site_scripts.specs.Stages.{CallBy, Knows, batch_course, halted, in_use, place_at, run_stage}

pub oldest_same : (table : Table) → oldest table ≡ oldest_begin table
oldest_same [] = refl
oldest_same (o ∷ others) = refl

-- an append that is refused makes no move

with_refusal : (records : List LogEntry) (r : Room) (site : Site) (fault : Fault) → (append_with r records site).fault ≡ Some fault → (append_with r records site).moves ≡ []
with_refusal records fits site fault is = absurd (none_some is)
with_refusal records wants_next site fault is = absurd (none_some is)
with_refusal records wants_drop site fault is = absurd (none_some is)
with_refusal records (is_full why) site fault is = refl

to_refusal : (records : List LogEntry) (ring : Option Ring) (site : Site) (fault : Fault) → (append_to ring records site).fault ≡ Some fault → (append_to ring records site).moves ≡ []
to_refusal records None site fault is = refl
to_refusal records (Some ring) site fault is = with_refusal records (room site.history site.starts ring (length records)) site fault is

-- and no append loses a lane

same_lost : (end space : ℕ) (lanes : List LaneState) → first_lost space (map (to_end end) lanes) ≡ first_lost space lanes
same_lost end space [] = refl
same_lost end space (at_place upto part ∷ lanes) = same_lost end (suc space) lanes
same_lost end space (blank restore ∷ lanes) = same_lost end (suc space) lanes
same_lost end space (merges restore chain archive entries ∷ lanes) = same_lost end (suc space) lanes
same_lost end space (replays restore chain upto part ∷ lanes) = same_lost end (suc space) lanes
same_lost end space (stale ∷ lanes) = same_lost end (suc space) lanes
same_lost end space (lost ∷ lanes) = refl

ended_lost : (site : Site) → if_any_lost (after_all site_rules (lanes_to_end site) site) ≡ if_any_lost site
unfolding site_rules
ended_lost site = by (list_all (is_at (length site.history)) site.lanes)
  where
    by : (there : Bool) → if_any_lost (after_all site_rules (if there then [] else move_lanes (map (to_end (length site.history)) site.lanes) ∷ []) site) ≡ if_any_lost site
    by true = refl
    by false = same_lost (length site.history) 0 site.lanes

with_lost : (records : List LogEntry) (r : Room) (site : Site) → if_any_lost (after_all site_rules (append_with r records site).moves site) ≡ if_any_lost site
unfolding site_rules
with_lost records fits site = refl
with_lost records wants_next site = refl
with_lost records wants_drop site =
    ap (λ (s : Site). if_any_lost s) (after_all-append site_rules (lanes_to_end site) (drop_oldest ∷ next_file ∷ append_batch records ∷ []) site) ∙ ended_lost site
with_lost records (is_full why) site = refl

to_lost : (ring : Option Ring) (records : List LogEntry) (site : Site) → if_any_lost (after_all site_rules (append_to ring records site).moves site) ≡ if_any_lost site
to_lost None records site = refl
to_lost (Some ring) records site = with_lost records (room site.history site.starts ring (length records)) site

-- what a run knows behind the append of its batch
pub record Gains (old new : Work) : Type 0 where
  pub items : new.progress.collected.batch.items ≡ []
  pub table : new.progress.collected.open ≡ old.progress.collected.open
  pub time : new.progress.collected.time ≡ old.progress.collected.time
  pub low : new.low ≡ oldest new.progress.collected.open
  pub lines : new.counts.lines ≡ old.counts.lines + length (history_of old.progress.collected.batch.items)
  pub commits : new.counts.commits ≡ old.counts.commits + count_by is_commit_entry (history_of old.progress.collected.batch.items)

module _ (head : Head) (first : History) (old new : Work) where
  abbrev batch : List LogEntry
  batch = history_of old.progress.collected.batch.items

  pub may_append : (spaces : ℕ) → length head.spaces ≡ spaces → (site : Site) → Knows head first old site → MayAppend spaces batch old.low site
  may_append spaces many site knows = record {
    none = knows.none;
    has = knows.has;
    count = ap (λ (h : Head). length h.spaces) knows.head_is ∙ many;
    none_lost = knows.none_lost;
    order = knows.follows.order;
    within = knows.follows.within;
    plain = knows.follows.plain;
    low_is = knows.low_is;
  }

  module _ (gains : Gains old new) (some : 1 ≤ length batch) (site : Site) (fit : IsFitSite site) (knows : Knows head first old site)
      (done : (append_course batch site).fault ≡ None) where
    place : ScriptState
    place = place_at old.progress site

    emptied : record (collected_of old.progress.collected) { batch = [] } ≡ collected_of new.progress.collected
    emptied = sym (λ i. record { batch = history_of (gains.items i); table = gains.table i; time = gains.time i })

    abbrev next : Site
    next = after_all site_rules (append_course batch site).moves site

    keeps : KeepsUpTo 31 (appended place)
    unfolding place
    keeps = appended_keeps place (record { fit = fit; none = knows.none; has = knows.has; follows = knows.follows }) some done

    follows : GoesOnFrom next.head.spaces next.history 31 (collected_of new.progress.collected)
    unfolding place
    follows = subst (GoesOnFrom next.head.spaces next.history 31) emptied keeps.follows

    pub knows_behind : Knows head first new next
    unfolding place
    knows_behind =
        let has = append_has batch site knows.has done in record {
          head_is = has.head ∙ knows.head_is;
          none = keeps.none;
          has = keeps.has;
          none_lost = to_lost site.ring batch site ∙ knows.none_lost;
          follows = record {
            table = follows.table;
            time = follows.time;
            order = follows.order;
            within = follows.within;
            plain = follows.plain;
            few = omega (arith, follows.few);
          };
          low_is = gains.low ∙ ap oldest (gains.table ∙ keeps.follows.table ∙ ap table_of (append-nil next.history)) ∙ oldest_same (table_of next.history);
          added = knows.added ++ batch;
          history_is = has.history ∙ ap (λ (h : History). h ++ batch) knows.history_is ∙ append_assoc first knows.added batch;
          lines = omega (arith, gains.lines, knows.lines, length-append knows.added batch);
          commits = gains.commits ∙ ap (λ (n : ℕ). n + count_by is_commit_entry batch) knows.commits
              ∙ sym (sum_by-append (λ x. cond (is_commit_entry x) 1 0) knows.added batch);
        }

  module _ {D : Type 0} (disk : Ghosts D) (spaces : ℕ) (many : length head.spaces ≡ spaces) (from to : ℕ) (old_site new_site : SiteValue D) (left : List Raw) where
    abbrev pub DoesAppend : List LogEntry → Option Fault → Type 0
    DoesAppend records fault = (opened : ℕ) (at : HeldSite) → 3 ≤ opened → StandsFor (layers disk) opened from old_site at → MayAppend spaces records old.low at.site
        → Does (site_stage (layers disk)) opened from to old_site new_site at (append_course records at.site) fault

    pub does_append : (records : List LogEntry) (fault : Option Fault)
        → CallFrom (site_stage (layers disk)) (MayAppend spaces records old.low) 3 from to old_site new_site (append_course records) fault → DoesAppend records fault
    unfolding site_stage
    does_append records fault call opened at enough stands may = call opened at enough stands may

    pub as_batch : (xs : List Record) (fault : Option Fault) → xs ≡ old.progress.collected.batch.items → DoesAppend (history_of xs) fault → DoesAppend batch fault
    as_batch xs fault same does = subst (λ (l : List Record). DoesAppend (history_of l) fault) same does

    pub appended_so : Gains old new → 1 ≤ length batch → DoesAppend batch None
        → CallBy disk head first from to (in_use old_site old) (in_use new_site new) (batch_course batch left) None
    unfolding site_stage run_stage batch_course
    appended_so gains some call opened at enough stands =
        let does = call opened at enough stands.0 (may_append spaces many at.site stands.1) in
        record {
          no_earlier = does.no_earlier;
          goes = does.goes;
          ended = ⊎_elim (λ cut. absurd cut) (λ has. inr (record {
            fault_is = ap (halted left) has.fault_is;
            next = has.next;
            next_is = has.next_is;
            ends = has.ends;
            stands = (has.stands, subst (Knows head first new) (sym has.next_is) (knows_behind gains some at.site stands.0.fits stands.1 (sym has.fault_is)));
          })) does.ended;
        }

    pub refused_so : (fault : Fault) → new ≡ old → DoesAppend batch (Some fault)
        → CallBy disk head first from to (in_use old_site old) (in_use new_site new) (batch_course batch left) (Some (record { fault = Some fault; left = left }))
    unfolding site_stage run_stage batch_course
    refused_so fault same call opened at enough stands =
        let does = call opened at enough stands.0 (may_append spaces many at.site stands.1) in
        record {
          no_earlier = does.no_earlier;
          goes = does.goes;
          ended = ⊎_elim (λ cut. inl cut) (λ has. inr (record {
            fault_is = ap (halted left) has.fault_is;
            next = has.next;
            next_is = has.next_is;
            ends = has.ends;
            stands = (
              has.stands,
              subst (Knows head first new) (sym (has.next_is ∙ ap (λ (moves : List Move). after_all site_rules moves at.site) (to_refusal batch at.site.ring at.site fault (sym has.fault_is))))
                  (subst (λ (work : Work). Knows head first work at.site) (sym same) stands.1),
            );
          })) does.ended;
        }
