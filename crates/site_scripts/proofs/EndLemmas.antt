-- The end of a run: the last batch, and what the whole run comes to.
use Rattle.std.proofs.Common.{◌≡◌, ◌∙◌, ℕ, ◌<◌, ◌≤◌, List, [], ◌++◌, length, true, false, Option, None, Some, inl, inr, ⊎_elim, sym, ap, subst, arith}
use Rattle.std.specs.Prelude.{Result, Ok, Err, IfOk, OnOk}
use Rattle.std.specs.Option.{unwrap_or}
use Rattle.std.proofs.lemmas.List.{append-nil}
use Rattle.log_history.specs.History.{LogEntry, History}
use Rattle.log_history.specs.Transactions.{InOrder, last_time, table_of}
use Rattle.log_files.specs.Files.{LogFiles, end_of}
use Rattle.log_record.specs.Entry.{history_of}
use Rattle.logical_log.specs.Rings.{TellsOf}
use Rattle.onbar_grammar.specs.Script.{Raw, raw_lines}
use Rattle.site_disk.specs.declared.disk.Disk.{Ghosts}
use Rattle.site_headers.specs.Heads.{Head}
use Rattle.site_worlds.specs.Worlds.{Site}
use Rattle.site_worlds.specs.Moves.{Move}
use Rattle.site_courses.specs.Faults.{Fault}
use Rattle.site_layouts.specs.Stages.{HeldSite, StandsFor, site_stage}
use Rattle.site_core.specs.declared.site.Site.{Site as SiteValue}
use Rattle.site_core.specs.Layers.{layers}
use Rattle.site_runs.specs.Places.{GoesOnFrom}
use Rattle.site_runs.specs.Scripts.{Ending, ScriptState, first_state, run_lines, run_script, script_course}
use Rattle.txn_table.specs.Table.{oldest}
use Rattle.walks.specs.Courses.{Course, Does, IsCut, only}
use Rattle.site_scripts.specs.declared.outcomes.Extended.{Extended}
use Rattle.site_scripts.specs.declared.outcomes.Cut.{Cut as CutCause}
use Rattle.site_scripts.specs.declared.outcomes.Stop.{Stop}
use Rattle.site_scripts.specs.declared.outcomes.Stop.TheVariants.{Done, Fault as Refused, Full, Cut}
use Rattle.site_scripts.specs.declared.work.Counts.{Counts}
use Rattle.site_scripts.specs.declared.work.Work.{Work}
use Rattle.site_scripts.specs.Extending.{IsExtended, MayRun}
use Rattle.site_scripts.specs.Outcomes.{is_cut_short, leaves_batch, report_of, stop_fault}
use Rattle.site_scripts.specs.Stages.{CallBy, Halt, Knows, batch_course, course_of, cuts_run, end_course, halt_at, in_use, place_at, run_course, run_stage}
use Rattle.site_scripts.specs.Steps.{Appends, HasEndLeft, EndsBy, LinesEnd}
use Rattle.site_scripts.proofs.AppendLemmas.{oldest_same}
use Rattle.site_scripts.proofs.OpenLemmas.{files_end, site_tells}
use Rattle.site_scripts.proofs.RunLemmas.{ends_behind, ends_empty}
use Rattle.site_scripts.proofs.StageLemmas.{breaks, ends_here, led}

-- the last batch
module _ {D : Type 0} (disk : Ghosts D) (head : Head) (first : History) (stop : Stop) (left : List Raw) where
  abbrev halt : Halt
  halt = halt_at stop left

  pub last_none : (from : ℕ) (site : SiteValue D) (work : Work) → length (history_of work.progress.collected.batch.items) ≡ 0
      → CallBy disk head first from from (in_use site work) (in_use site work) (end_course (halt_at stop left) work.progress) (Some (halt_at stop left))
  unfolding end_course
  last_none from site work none =
      ends_here disk head first from (in_use site work) (end_course halt work.progress) halt
      (λ at opened enough stands. ends_empty (place_at work.progress at.site) left (stop_fault stop) none)

  module _ (from to : ℕ) (site new_site : SiteValue D) (old new : Work) (some : 0 < length (history_of old.progress.collected.batch.items)) where
    abbrev batch : List LogEntry
    batch = history_of old.progress.collected.batch.items

    pub last_ends : (result : Option Stop) → Appends disk head first from to (in_use site old) (in_use new_site new) batch left result
        → CallBy disk head first from to (in_use site old) (in_use new_site new) (end_course (halt_at stop left) old.progress) (Some (halt_at (unwrap_or result stop) left))
    unfolding end_course
    last_ends None call =
        led disk head first from to (in_use site old) (in_use new_site new) (end_course halt old.progress) halt (record {
          part = batch_course batch left;
          call = call;
          goes = λ opened at enough stands. ends_behind (place_at old.progress at.site) left (stop_fault stop) some;
        })
    last_ends (Some other) call =
        breaks disk head first from to (in_use site old) (in_use new_site new) (end_course halt old.progress) (batch_course batch left) (λ s. only (Some halt)) (halt_at other left)
        (λ at opened enough stands. ends_behind (place_at old.progress at.site) left (stop_fault stop) some) call

-- what the lines of a script leave
module _ {D : Type 0} (disk : Ghosts D) (head : Head) (first : History) (from to moment : ℕ) (before after : List ℕ) (site new_site : SiteValue D) (old new : Work) where
  pub batch_left : (stop : Stop) → leaves_batch stop ≡ true → LinesEnd disk head first from to moment before after site new_site old new stop
      → HasEndLeft disk head first from to moment before after site new_site old new stop
  batch_left Done leaves ends = ends
  batch_left (Refused line why) leaves ends = ends
  batch_left (Full why) leaves ends = absurd (cc leaves)
  batch_left (Cut cut) leaves ends = absurd (cc leaves)

  pub none_left : (stop : Stop) → leaves_batch stop ≡ false → LinesEnd disk head first from to moment before after site new_site old new stop
      → EndsBy disk head first from to moment before after site new_site old new stop
  none_left Done leaves ends = absurd (cc leaves)
  none_left (Refused line why) leaves ends = absurd (cc leaves)
  none_left (Full why) leaves ends = ends
  none_left (Cut cut) leaves ends = ends

-- what a run knows at its begin
module _ (head : Head) (work : Work) (site : Site) (may : MayRun head work.progress.collected.open site) (lines : work.progress.lines ≡ record { begun = 0; line = []; held = [] })
    (line : work.progress.line ≡ 0) (batch : work.progress.collected.batch.items ≡ []) (time : work.progress.collected.time ≡ last_time site.history) where
  pub begins_at : place_at work.progress site ≡ first_state site
  begins_at = λ i. record {
    begun = (lines i).begun;
    lines = line i;
    site = site;
    collected = record { batch = history_of (batch i); table = may.table_is i; time = time i };
  }

  pub knows_first : work.low ≡ oldest work.progress.collected.open → work.counts ≡ record { lines = 0; commits = 0 } → InOrder site.history
      → Knows head site.history work site
  knows_first low counts order =
      let same = sym (append-nil site.history) in record {
        head_is = may.head_is;
        none = may.none;
        has = may.has;
        none_lost = may.none_lost;
        follows = subst (GoesOnFrom site.head.spaces site.history 32) (sym (ap (λ (place : ScriptState). place.collected) begins_at)) (record {
          table = ap table_of same;
          time = ap last_time same;
          order = subst InOrder same order;
          within = tt;
          plain = tt;
          few = omega arith;
        });
        low_is = low ∙ ap oldest may.table_is ∙ oldest_same (table_of site.history);
        added = [];
        history_is = same;
        lines = ap (λ (c : Counts). c.lines) counts;
        commits = ap (λ (c : Counts). c.commits) counts;
      }

the_fault : Option Halt → Option Fault
the_fault None = None
the_fault (Some halt) = halt.fault

the_left : Option Halt → List Raw
the_left None = []
the_left (Some halt) = halt.left

-- a run that told something wasn't cut short
uncut : (stop : Stop) → is_cut_short stop ≡ false → cuts_run (stop_fault stop) ≡ true → ⊥
uncut Done short cut = cc cut
uncut (Refused line why) short cut = cc cut
uncut (Full why) short cut = cc cut
uncut (Cut cause) short cut = cc short

record Tells (told : Extended) (lines commits end : ℕ) : Type 0 where
  lines_are : told.lines ≡ lines
  commits_are : told.commits ≡ commits
  end_is_so : told.end ≡ end

told_of : Extended → Result Extended CutCause → Extended
told_of other (Ok told) = told
told_of other (Err cut) = other

tells_so : (stop : Stop) (told : Extended) (lines commits end : ℕ) → Ok told ≡ report_of stop lines commits end → Tells told lines commits end
unfolding told_of
tells_so Done told lines commits end is =
    let same = ap (told_of told) is in record {
      lines_are = ap (λ (t : Extended). t.lines) same;
      commits_are = ap (λ (t : Extended). t.commits) same;
      end_is_so = ap (λ (t : Extended). t.end) same;
    }
tells_so (Refused line why) told lines commits end is =
    let same = ap (told_of told) is in record {
      lines_are = ap (λ (t : Extended). t.lines) same;
      commits_are = ap (λ (t : Extended). t.commits) same;
      end_is_so = ap (λ (t : Extended). t.end) same;
    }
tells_so (Full why) told lines commits end is =
    let same = ap (told_of told) is in record {
      lines_are = ap (λ (t : Extended). t.lines) same;
      commits_are = ap (λ (t : Extended). t.commits) same;
      end_is_so = ap (λ (t : Extended). t.end) same;
    }
tells_so (Cut cause) told lines commits end is = absurd (cc is)

-- the whole run, as the site has it
module _ {D : Type 0} (disk : Ghosts D) (head : Head) (from to : ℕ) (site new_site : SiteValue D) (old new : Work) (moment : ℕ) (text held after : List ℕ) (stop : Stop)
    (opened : ℕ) (at : HeldSite) (enough : 3 ≤ opened) (stands : StandsFor (layers disk) opened from site at) (knows : Knows head at.site.history old at.site)
    (place_is : place_at old.progress at.site ≡ first_state at.site)
    (call : CallBy disk head at.site.history from to (in_use site old) (in_use new_site new) (run_course moment text old.progress) (Some (halt_at stop (raw_lines (held ++ after))))) where
  abbrev ending : Ending
  ending = run_script moment text at.site

  course_is : run_course moment text old.progress at.site ≡ course_of ending
  unfolding run_course
  course_is = ap (λ (place : ScriptState). course_of (run_lines moment (raw_lines text) place)) place_is

  does : Does (run_stage disk head at.site.history) opened from to (in_use site old) (in_use new_site new) at (course_of ending) (Some (halt_at stop (raw_lines (held ++ after))))
  unfolding run_stage
  does =
      subst (λ (c : Course Move Halt). Does (run_stage disk head at.site.history) opened from to (in_use site old) (in_use new_site new) at c
      (Some (halt_at stop (raw_lines (held ++ after))))) course_is (call opened at enough (stands, knows))

  cut_so : (fault : Option Fault) → cuts_run fault ≡ true → IsCut (site_stage (layers disk)) fault
  unfolding site_stage
  cut_so None is = cc is
  cut_so (Some fault) is = is

  pub site_does : Does (site_stage (layers disk)) opened from to site new_site at (script_course moment text at.site) (stop_fault stop)
  unfolding site_stage run_stage the_fault
  site_does = record {
    no_earlier = does.no_earlier;
    goes = does.goes;
    ended = ⊎_elim (λ cut. inl (cut_so (stop_fault stop) cut)) (λ has. inr (record {
      fault_is = ap the_fault has.fault_is;
      next = has.next;
      next_is = has.next_is;
      ends = has.ends;
      stands = has.stands.0;
    })) does.ended;
  }

  pub run_told : (result : Result Extended CutCause) → length held ≤ 65536
      → ((files : LogFiles) → TellsOf files new_site.log → result ≡ report_of stop new.counts.lines new.counts.commits (end_of files))
      → OnOk result (is_cut_short stop ≡ false) → IfOk result (IsExtended at.site ending after)
  unfolding run_stage the_left
  run_told (Err cut) few is short = tt
  run_told (Ok told) few is short = ⊎_elim (λ cut. absurd (uncut stop short cut)) (λ has.
      let behind = has.stands.1 in
      let tells = site_tells new_site disk opened to has.next enough has.stands.0 behind.has in
      let so = tells_so stop told new.counts.lines new.counts.commits _ (is _ tells) in record {
        added = behind.added;
        history = sym (ap (λ (s : Site). s.history) has.next_is) ∙ behind.history_is;
        lines = so.lines_are ∙ behind.lines;
        commits = so.commits_are ∙ behind.commits;
        end = so.end_is_so ∙ files_end new_site disk opened to has.next enough has.stands.0 behind.has ∙ ap (λ (s : Site). length s.history) has.next_is;
        held = held;
        few = few;
        left = sym (ap the_left has.fault_is);
      }) does.ended
