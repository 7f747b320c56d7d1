-- How a script ends over a site, and what is told of it.
use Rattle.std.proofs.Common.{◌≡◌, ◌∙◌, ℕ, ◌+◌, List, [], ◌∷◌, ◌++◌, length, Bool, true, false, ◌==◌, drop, if◌then◌else◌, Option, None, Some, refl, sym, ap}
use Rattle.std.specs.List.{count_by}
use Rattle.std.specs.Option.{option_or}
use Rattle.std.proofs.lemmas.List.{drop_at}
use Rattle.log_history.specs.History.{History, LogEntry}
use Rattle.log_files.specs.declared.room.LogFull.{LogFull as RoomFull}
use Rattle.log_files.specs.declared.room.LogFull.TheVariants.{NotBackedUp, Needed, Positions}
use Rattle.onbar_grammar.specs.declared.Why.{Why}
use Rattle.onbar_grammar.specs.Script.{Raw, Space, line_fault, raw_lines, spelled}
use Rattle.site_model.specs.Runs.{Taken, nothing, joined, bad, take_text}
use Rattle.site_model.specs.Texts.{counts_text, extension_text, is_commit_entry, status_text}
use Rattle.walks.specs.Courses.{only}
use Rattle.site_worlds.specs.Worlds.{Ring, Site}
use Rattle.site_courses.specs.Appending.{Room, append_to, append_with, fits, is_full, room, wants_drop, wants_next}
use Rattle.site_courses.specs.Faults.{Fault, log_full, script_fault}
use Rattle.site_runs.specs.Scripts.{Ending, Outcome, ScriptState, after_fault, after_taken, append_collected, appends, ended, ends, ends_by, first_state, go_on, goes_on, if_refused, run_lines, run_script, step_line}
use Rattle.site_core.specs.Faults.{full_of}
use Rattle.site_commands.specs.Runs.{room_full, run_text, status_of, tells_counts}
use Rattle.site_scripts.specs.declared.outcomes.Extended.{Extended}
use Rattle.site_scripts.specs.declared.outcomes.ScriptEnd.{ScriptEnd}
use Rattle.site_scripts.specs.declared.outcomes.ScriptEnd.TheVariants.{Done, Fault as LineFault, Full}
use Rattle.site_scripts.specs.Outcomes.{end_fault}
use Rattle.site_forms.specs.Reports.{status_of_end}

-- a script ends at its end, at a line, or where the log is full

abbrev pub IsOfScript : Option Fault → Type 0
IsOfScript None = Unit {0}
IsOfScript (Some (script_fault line why)) = Unit {0}
IsOfScript (Some (log_full why)) = Unit {0}
IsOfScript (Some fault) = ⊥

of_room : (records : List LogEntry) (r : Room) (site : Site) → IsOfScript (append_with r records site).fault
of_room records fits site = tt
of_room records wants_next site = tt
of_room records wants_drop site = tt
of_room records (is_full why) site = tt

of_ring : (ring : Option Ring) (records : List LogEntry) (site : Site) → IsOfScript (append_to ring records site).fault
of_ring None records site = tt
of_ring (Some ring) records site = of_room records (room site.history site.starts ring (length records)) site

of_append : (place : ScriptState) → IsOfScript (append_collected place).fault
of_append place = of_ring place.site.ring place.collected.batch place.site

of_either : (a b : Option Fault) → IsOfScript a → IsOfScript b → IsOfScript (option_or a b)
of_either None b first second = second
of_either (Some fault) b first second = first

of_end : (fault : Option Fault) (left : List Raw) (place : ScriptState) → IsOfScript fault → IsOfScript (ended fault left place).fault
of_end fault left place is = by (length place.collected.batch == 0)
  where
    by : (none : Bool) → IsOfScript (ends_by fault left (if none then only None else append_collected place)).fault
    by true = is
    by false = of_either (append_collected place).fault fault (of_append place) is

abbrev EndsOf : Outcome → Type 0
EndsOf (goes_on place) = Unit {0}
EndsOf (appends moves place) = Unit {0}
EndsOf (ends ending) = IsOfScript ending.fault

of_batch : (left : List Raw) (place : ScriptState) (fault : Option Fault) → EndsOf (if_refused fault left place)
of_batch left place None = tt
of_batch left place (Some fault) = of_end None left place tt

of_taken : (left : List Raw) (place : ScriptState) (taken : Taken) → EndsOf (after_taken left place taken)
of_taken left place nothing = tt
of_taken left place (joined collected false) = tt
of_taken left place (joined collected true) =
    let next : ScriptState = record place { collected = collected } in of_batch left next (append_collected next).fault
of_taken left place (bad why) = of_end (Some (script_fault place.lines why)) left place tt

of_line : (moment : ℕ) (place : ScriptState) (line : Raw) (left : List Raw) (fault : Option Why) → EndsOf (after_fault moment place line left fault)
of_line moment place line left (Some why) = of_end (Some (script_fault place.lines why)) (line ∷ left) place tt
of_line moment place line left None =
    of_taken left (record place { begun = place.begun + length (spelled line) })
    (take_text place.site.head.spaces moment (length place.site.history) place.collected line.text)

of_step : (others : ScriptState → Ending) → ((place : ScriptState) → IsOfScript (others place).fault) → (outcome : Outcome) → EndsOf outcome → IsOfScript (go_on others outcome).fault
of_step others rest (goes_on place) is = rest place
of_step others rest (appends moves place) is = rest place
of_step others rest (ends ending) is = is

of_lines : (moment : ℕ) (lines : List Raw) (place : ScriptState) → IsOfScript (run_lines moment lines place).fault
of_lines moment [] place = of_end None [] place tt
of_lines moment (line ∷ lines) place =
    let here : ScriptState = record place { lines = place.lines + 1 } in
    of_step (λ next. run_lines moment lines next) (λ next. of_lines moment lines next) (step_line moment place line lines)
    (of_line moment here line lines (line_fault place.begun line))

pub of_script : (moment : ℕ) (text : List ℕ) (site : Site) → IsOfScript (run_script moment text site).fault
of_script moment text site = of_lines moment (raw_lines text) (first_state site)

-- the status and the counts of such an end

same_full : (why : RoomFull) → room_full (full_of why) ≡ why
same_full (NotBackedUp file) = refl
same_full (Needed file txn) = refl
same_full (Positions end) = refl

pub end_status : (spaces : List Space) (ending : ScriptEnd) → status_of spaces (end_fault ending) ≡ status_of_end ending
end_status spaces Done = refl
end_status spaces (LineFault line why) = refl
end_status spaces (Full why) = ap (λ (w : RoomFull). status_of_end (Full w)) (same_full why)

end_counts : (ending : ScriptEnd) → tells_counts (end_fault ending) ≡ true
end_counts Done = refl
end_counts (LineFault line why) = refl
end_counts (Full why) = refl

module _ (spaces : List Space) (before after added : History) (told : Extended) (history : after ≡ before ++ added) (lines : told.lines ≡ length added)
    (commits : told.commits ≡ count_by is_commit_entry added) (end : told.end ≡ length after) where
  counts : extension_text before after ≡ counts_text told.lines told.commits told.end
  counts =
      ap (λ (a : History). counts_text (length a) (count_by is_commit_entry a) (length after)) (ap (λ (h : History). drop (length before) h) history ∙ drop_at before added (length before) refl)
      ∙ (λ i. counts_text (sym lines i) (sym commits i) (sym end i))

  pub told_text : run_text spaces before after (end_fault told.ending) ≡ counts_text told.lines told.commits told.end ++ status_text (status_of_end told.ending)
  told_text =
      ap (λ (c : Bool). (if c then extension_text before after else []) ++ status_text (status_of spaces (end_fault told.ending))) (end_counts told.ending)
      ∙ (λ i. counts i ++ status_text (end_status spaces told.ending i))
