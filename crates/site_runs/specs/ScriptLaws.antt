-- Each move of a script's run may be made.
use Rattle.std.specs.Prelude.{◌≡◌, ℕ, suc, ◌+◌, ◌≤◌, ◌==◌, ◌||◌, max, List, [], ◌∷◌, ◌++◌, length, Bool, true, false, if◌then◌else◌, Option, None, Some, Result, Ok, Err}
use Rattle.std.proofs.Common.{arith, refl, ap, sym, subst, ◌∙◌, append_assoc, length-append}
use Rattle.std.proofs.lemmas.Bool.Decides.{nat_tests}
use Rattle.std.proofs.lemmas.List.{append-nil}
use Rattle.log_history.specs.History.{LogEntry, History, begin, write, commit, abort, reset}
use Rattle.log_history.specs.Transactions.{table_of, after, refusal, Refusal, last_time, last_time_back, InOrder, InOrderBack}
use Rattle.txn_table.specs.TableLaws.{reverse_push, table_of-push}
use Rattle.onbar_grammar.specs.declared.Why.{Why}
use Rattle.onbar_grammar.specs.Script.{Raw, Space, Line, begin_line, write_line, commit_line, abort_line, line_of, entry_of_line, line_fault, raw_lines, spelled}
use Rattle.walks.specs.Courses.{after_all, only}
use Rattle.site_worlds.specs.Worlds.{Site}
use Rattle.site_worlds.specs.Fitness.{IsWithin}
use Rattle.site_worlds.specs.Moves.{site_rules}
use Rattle.site_worlds.specs.Allowed.{HasRing, IsNoReset}
use Rattle.world_laws.specs.KeptLaws.{CanAll, can_append}
use Rattle.world_laws.specs.ListLaws.{all_append}
use Rattle.site_courses.specs.Faults.{Fault, script_fault}
use Rattle.site_courses.specs.Courses.{check, in_turn, if_active, if_log_lost, if_any_lost}
use Rattle.course_laws.specs.Leading.{LeadsFrom, leads_check, leads_none, leads_then}
use Rattle.course_laws.specs.AppendingLaws.{active_none, ring_there}
use Rattle.site_model.specs.LineLaws.{line_within, line_follows}
use Rattle.site_model.specs.Runs.{Collected, Taken, nothing, joined, bad, ends_batch, join, take_meaning, take_text, time_after, unless_refused}
use Rattle.site_model.specs.LineLaws.{IsWithin as IsLineWithin}
use Rattle.site_runs.specs.Scripts.{ScriptState, Ending, Outcome, goes_on, appends, ends, append_collected, ends_by, ended, if_refused, after_batch, after_taken, after_fault, step_line, go_on, run_lines, first_state, script_course, transactions_of}
use Rattle.site_runs.specs.Places.{GoesOnFrom, KeepsUpTo, Keeps, TakesOn, leads, appended_keeps, wider}

-- the last time behind one record more

time_of : (time : ℕ) (past : List LogEntry) (entry : LogEntry) → last_time_back past ≡ time → last_time_back (entry ∷ past) ≡ time_after time entry
time_of time past (begin txn) is = is
time_of time past (write txn patch) is = is
time_of time past (commit txn at) is = refl
time_of time past (abort txn) is = is
time_of time past (reset restore target at) is = refl

last_time-push : (history : History) (entry : LogEntry) → last_time (history ++ entry ∷ []) ≡ time_after (last_time history) entry
last_time-push history entry = ap last_time_back (reverse_push history entry) ∙ time_of (last_time history) _ entry refl

-- the record of a line

within_again : (spaces : List Space) (entry : LogEntry) → IsLineWithin spaces entry → IsWithin spaces entry
within_again spaces (begin txn) is = tt
within_again spaces (write txn patch) is = is
within_again spaces (commit txn time) is = tt
within_again spaces (abort txn) is = tt
within_again spaces (reset restore target time) is = tt

line_is_no_reset : (time : ℕ) (line : Line) → IsNoReset (entry_of_line time line)
line_is_no_reset time (begin_line txn) = tt
line_is_no_reset time (write_line txn patch) = tt
line_is_no_reset time (commit_line txn) = tt
line_is_no_reset time (abort_line txn) = tt

or_parts : (a b : Bool) → (a || b) ≡ false → b ≡ false
or_parts true b is = cc is
or_parts false b is = is

isnt_32 : (n : ℕ) → (n == 32) ≡ false → n ≤ 32 → n ≤ 31
isnt_32 n isnt le = grind (arith, nat_tests, isnt, le)

some_of : (n : ℕ) → (n == 0) ≡ false → 1 ≤ n
some_of n isnt = grind (arith, nat_tests, isnt)

module _ (moment : ℕ) where
  -- where a run ends its moves may be made
  ended_can : (fault : Option Fault) (left : List Raw) (place : ScriptState) → KeepsUpTo 32 place → CanAll (ended fault left place).moves place.site
  ended_can fault left place is = by (length place.collected.batch == 0) refl
    where
      by : (none : Bool) → (length place.collected.batch == 0) ≡ none
          → CanAll (ends_by fault left (if none then only None else append_collected place)).moves place.site
      by true same = tt
      by false same = (leads place is (some_of (length place.collected.batch) same)).can

  -- how it goes on from a site
  abbrev GoesFrom : Site → Outcome → Type 0
  GoesFrom site (goes_on place) = Keeps place × (place.site ≡ site)
  GoesFrom site (appends moves place) = CanAll moves site × Keeps place × (place.site ≡ after_all site_rules moves site)
  GoesFrom site (ends ending) = CanAll ending.moves site

  batch_goes : (left : List Raw) (place : ScriptState) → KeepsUpTo 32 place → 1 ≤ length place.collected.batch → GoesFrom place.site (after_batch left place)
  batch_goes left place is some = by (append_collected place).fault refl
    where
      by : (fault : Option Fault) → (append_collected place).fault ≡ fault → GoesFrom place.site (if_refused fault left place)
      by (Some fault) same = ended_can None left place is
      by None same = ((leads place is some).can, appended_keeps place is some same, refl)

  module _ (spaces : List Space) (history : History) (c : Collected) (follows : GoesOnFrom spaces history 31 c) where
    module _ (text : List ℕ) (line : Line) (says : line_of spaces text ≡ Ok (Some line)) where
      abbrev time : ℕ
      time = max moment c.time

      abbrev entry : LogEntry
      entry = entry_of_line time line

      abbrev before : History
      before = history ++ c.batch

      again : before ++ entry ∷ [] ≡ history ++ (c.batch ++ entry ∷ [])
      again = append_assoc history c.batch (entry ∷ [])

      one_more : length (c.batch ++ entry ∷ []) ≡ length c.batch + 1
      one_more = length-append c.batch (entry ∷ [])

      joins : refusal entry c.table ≡ None → TakesOn spaces history (join (length history) line entry c)
      joins none =
          let behind : refusal entry (table_of before) ≡ None = ap (refusal entry) (sym follows.table) ∙ none in
          let later : last_time before ≤ time = (let is = follows.time in omega (arith, is)) in (
            record {
              table =
                  ap (λ (n : ℕ). after n entry c.table) (let n : length history + length c.batch + 1 ≡ suc (length before) = omega (arith, length-append history c.batch) in n)
                  ∙ ap (after (suc (length before)) entry) follows.table
                  ∙ sym (table_of-push before entry)
                  ∙ ap table_of again;
              time = ap (λ (n : ℕ). time_after n entry) follows.time ∙ sym (last_time-push before entry) ∙ ap last_time again;
              order = subst InOrder again (subst InOrderBack (sym (reverse_push before entry)) (line_follows before time line later behind, follows.order));
              within = all_append (IsWithin spaces) c.batch (entry ∷ []) follows.within (within_again spaces entry (line_within spaces time text line says), tt);
              plain = all_append IsNoReset c.batch (entry ∷ []) follows.plain (line_is_no_reset time line, tt);
              few = omega (arith, one_more, follows.few);
            },
            omega (arith, one_more),
            λ isnt. isnt_32 (length (c.batch ++ entry ∷ [])) (or_parts (ends_batch line) (length (c.batch ++ entry ∷ []) == 32) isnt) (omega (arith, one_more, follows.few)),
          )

      by_refusal : (refused : Option Refusal) → refusal entry c.table ≡ refused → TakesOn spaces history (unless_refused refused (join (length history) line entry c))
      by_refusal (Some r) is = tt
      by_refusal None is = joins is

    -- the text of a line, which means this
    pub take_goes : (text : List ℕ) (meaning : Result (Option Line) Why) → line_of spaces text ≡ meaning → TakesOn spaces history (take_meaning moment (length history) c meaning)
    take_goes text (Err why) says = tt
    take_goes text (Ok None) says = tt
    take_goes text (Ok (Some line)) says = by_refusal text line says (refusal (entry text line says) c.table) refl

  taken_goes : (left : List Raw) (place : ScriptState) (taken : Taken) → Keeps place → TakesOn place.site.head.spaces place.site.history taken
      → GoesFrom place.site (after_taken left place taken)
  taken_goes left place nothing is takes = (is, refl)
  taken_goes left place (joined collected whole) is takes = by whole takes.2
    where
      next : ScriptState
      next = record place { collected = collected }

      by : (w : Bool) → (w ≡ false → length collected.batch ≤ 31) → GoesFrom place.site (if w then after_batch left next else goes_on next)
      by true few = batch_goes left next (record { fit = is.fit; none = is.none; has = is.has; follows = takes.0 }) takes.1
      by false few = (
        record {
          fit = is.fit;
          none = is.none;
          has = is.has;
          follows = record {
            table = takes.0.table;
            time = takes.0.time;
            order = takes.0.order;
            within = takes.0.within;
            plain = takes.0.plain;
            few = few refl;
          };
        },
        refl,
      )
  taken_goes left place (bad why) is takes = ended_can (Some (script_fault place.lines why)) left place (wider place is)

  step_goes : (place : ScriptState) (line : Raw) (left : List Raw) (fault : Option Why) → Keeps place → GoesFrom place.site (after_fault moment place line left fault)
  step_goes place line left (Some why) is = ended_can (Some (script_fault place.lines why)) (line ∷ left) place (wider place is)
  step_goes place line left None is =
      let here : ScriptState = record place { begun = place.begun + length (spelled line) } in
      taken_goes left here (take_text place.site.head.spaces moment (length place.site.history) place.collected line.text)
      (record { fit = is.fit; none = is.none; has = is.has; follows = is.follows })
      (take_goes place.site.head.spaces place.site.history place.collected is.follows line.text (line_of place.site.head.spaces line.text) refl)

  lines_can : (lines : List Raw) (place : ScriptState) → Keeps place → CanAll (run_lines moment lines place).moves place.site
  lines_can [] place is = ended_can None [] place (wider place is)
  lines_can (line ∷ lines) place is =
      by (step_line moment place line lines)
      (step_goes (record place { lines = place.lines + 1 }) line lines (line_fault place.begun line)
      (record { fit = is.fit; none = is.none; has = is.has; follows = is.follows }))
      (λ next. lines_can lines next)
    where
      run : ScriptState → Ending
      run next = run_lines moment lines next

      by : (outcome : Outcome) → GoesFrom place.site outcome → ((next : ScriptState) → Keeps next → CanAll (run next).moves next.site) → CanAll (go_on run outcome).moves place.site
      by (goes_on next) on rest = subst (CanAll (run next).moves) on.1 (rest next on.0)
      by (appends moves next) on rest = can_append moves (run next).moves place.site on.0 (subst (CanAll (run next).moves) on.2 (rest next on.1))
      by (ends ending) on rest = on

  -- no restore is under way, and the log is there
  record IsReady (site : Site) : Type 0 where
    none : site.active ≡ None
    has : HasRing site

  script_leads : (text : List ℕ) → LeadsFrom IsReady (script_course moment text) (λ site. Unit {0})
  script_leads text site fit is =
      let same = sym (append-nil site.history) in record {
        can = lines_can (raw_lines text) (first_state site) (record {
          fit = fit;
          none = is.none;
          has = is.has;
          follows = record {
            table = ap table_of same;
            time = ap last_time same;
            order = subst InOrder same fit.history.order;
            within = tt;
            plain = tt;
            few = omega arith;
          };
        });
        then_holds = λ none. tt;
      }

  -- so may each move of `-T`
  pub transactions_lead : (text : List ℕ) → LeadsFrom (λ site. Unit {0}) (transactions_of moment text) (λ site. Unit {0})
  transactions_lead text =
      leads_then Any First Any (check if_active) (in_turn (check if_log_lost ∷ check if_any_lost ∷ script_course moment text ∷ []))
      (leads_check Any if_active)
      (leads_then First Second Any (check if_log_lost) (in_turn (check if_any_lost ∷ script_course moment text ∷ []))
      (leads_check First if_log_lost)
      (leads_then Second IsReady Any (check if_any_lost) (in_turn (script_course moment text ∷ [])) lost
      (leads_then IsReady Any Any (script_course moment text) (in_turn []) (script_leads text) (leads_none Any))))
    where
      Any : Site → Type 0
      Any site = Unit {0}

      First : Site → Type 0
      First site = Unit {0} × (if_active site ≡ None)

      Second : Site → Type 0
      Second site = First site × (if_log_lost site ≡ None)

      lost : LeadsFrom Second (check if_any_lost) IsReady
      lost site fit before = record {
        can = tt;
        then_holds = λ none. record { none = active_none site.active before.0.1; has = ring_there site site.ring refl before.1 };
      }
