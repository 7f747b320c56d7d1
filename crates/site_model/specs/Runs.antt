-- What a script's lines collect, the head that a site is made with, and what a site shows.
use Rattle.std.specs.Prelude.{ℕ, ◌+◌, max, List, [], ◌∷◌, ◌++◌, length, slice_get, Bool, true, false, ◌||◌, ◌==◌, nat_lt, if◌then◌else◌, Option, None, Some, Result, Ok, Err}
use Rattle.log_history.specs.History.{LogEntry, History, commit, reset}
use Rattle.log_history.specs.Transactions.{Table, table_of, after, refusal, last_time, Refusal, already_open, not_open, too_many_open}
use Rattle.onbar_grammar.specs.declared.Why.{Why}
use Rattle.onbar_grammar.specs.declared.Why.TheVariants.{AlreadyOpen, NotOpen, TooManyOpen}
use Rattle.onbar_grammar.specs.Script.{Line, begin_line, write_line, commit_line, abort_line, Space, entry_of_line, line_of, place_of}
use Rattle.log_history.specs.Effects.{page_at}
use Rattle.space_pages.specs.Pages.{pages_of}
use Rattle.page_texts.specs.Texts.{page_text, pages_text}
use Rattle.site_model.specs.declared.status.Status.{Status}
use Rattle.site_model.specs.declared.status.Status.TheVariants.{NoSuchSpace, NoSuchPage}
use Rattle.site_headers.specs.Heads.{Head}

-- what a run has collected since the last batch: its records, the transactions open after them, the time of the last Commit
-- or Reset of the log and of these records
pub record Collected : Type 0 where
  pub batch : List LogEntry
  pub table : Table
  pub time : ℕ

abbrev pub first_collected : History → Collected
first_collected history = record { batch = []; table = table_of history; time = last_time history }

-- a Commit or an Abort ends a batch
abbrev pub ends_batch : Line → Bool
ends_batch (begin_line txn) = false
ends_batch (write_line txn patch) = false
ends_batch (commit_line txn) = true
ends_batch (abort_line txn) = true

abbrev pub why_of : Refusal → Why
why_of already_open = AlreadyOpen
why_of not_open = NotOpen
why_of too_many_open = TooManyOpen

-- the last time after a record
abbrev pub time_after : ℕ → LogEntry → ℕ
time_after time (commit txn at) = at
time_after time (reset restore target at) = at
time_after time entry = time

-- what a line does: nothing, or its record joins the batch, which it may end, or it is refused
pub data Taken : Type 0 where
  nothing : Taken
  joined : (collected : Collected) (ends : Bool) → Taken
  bad : (why : Why) → Taken

-- A batch ends after a Commit or an Abort, and after its 32nd line.
abbrev pub join : ℕ → Line → LogEntry → Collected → Taken
join end line entry c =
    let batch = c.batch ++ entry ∷ [] in
    joined (record { batch = batch; table = after (end + length c.batch + 1) entry c.table; time = time_after c.time entry }) (ends_batch line || length batch == 32)

abbrev pub unless_refused : Option Refusal → Taken → Taken
unless_refused None taken = taken
unless_refused (Some refused) taken = bad (why_of refused)

-- behind a log of so many records; a Commit's time is the larger of the moment and the last such time
abbrev pub take_meaning : ℕ → ℕ → Collected → Result (Option Line) Why → Taken
take_meaning moment end c (Err why) = bad why
take_meaning moment end c (Ok None) = nothing
take_meaning moment end c (Ok (Some line)) =
    let entry = entry_of_line (max moment c.time) line in unless_refused (refusal entry c.table) (join end line entry c)

abbrev pub take_text : List Space → ℕ → ℕ → Collected → List ℕ → Taken
take_text spaces moment end c text = take_meaning moment end c (line_of spaces text)

-- what `-init` fixes of a site: its id is the moment
abbrev pub head_at : ℕ → ℕ → List Space → Head
head_at moment blocks spaces = record { site = moment; blocks = blocks; spaces = spaces }

abbrev pub name_of_option : Option Space → List ℕ
name_of_option None = []
name_of_option (Some space) = space.name

-- the name of the space at a place; none where there is none
abbrev pub name_at : List Space → ℕ → List ℕ
name_at spaces place = name_of_option (slice_get spaces place)

-- why a site shows no such space or page, which stands at a place and has a number of pages
abbrev pub place_refusal : List ℕ → Option ℕ → Option (ℕ × ℕ) → Option Status
place_refusal name page None = Some (NoSuchSpace name)
place_refusal name None (Some place) = None
place_refusal name (Some number) (Some place) = if nat_lt number place.1 then None else Some (NoSuchPage number)

abbrev pub show_refusal : List Space → List ℕ → Option ℕ → Option Status
show_refusal spaces name page = place_refusal name page (place_of name spaces)

-- the space with a name at the end of a log, or one page of it
abbrev pub shown_text : History → List ℕ → Option ℕ → Option (ℕ × ℕ) → List ℕ
shown_text history name page None = []
shown_text history name None (Some place) = pages_text place.0 name (pages_of history (length history) place.0 0 place.1)
shown_text history name (Some number) (Some place) = page_text name number (page_at history (length history) place.0 number)
