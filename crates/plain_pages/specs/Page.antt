-- The program's pages as the history has them.
use Rattle.std.specs.Prelude.{ℕ, List, [], map, Bool, ◌&&◌, ◌==◌, if◌then◌else◌}
use Rattle.log_history.specs.History.{LogEntry, History, begin, write, entry_at}
use Rattle.log_history.specs.Live.{live}
use Rattle.log_history.specs.Effects.{Page, Change, change_by, with_change, is_commit, writes}
use Rattle.plain_pages.specs.declared.page.Page.{Page as RustPage}

abbrev pub page_of : RustPage → Page
page_of page = record { stamp = page.stamp; payload = page.payload }

-- whether the record at a position is a Commit that counts at n
abbrev pub is_effective : History → ℕ → ℕ → Bool
is_effective history n x = is_commit (entry_at history x) && live history n x

-- what the record at a position brings into effect at n
abbrev pub changes_at : History → ℕ → ℕ → List Change
changes_at history n x = if is_effective history n x then map (change_by x) (writes history x) else []

-- A page with a transaction's Writes up to a record, from the page with those before it: a Begin goes back to the base.
abbrev pub one_record_on : ℕ → ℕ → ℕ → ℕ → Page → LogEntry → Page → Page
one_record_on txn commit space number base (begin other) page = if other == txn then base else page
one_record_on txn commit space number base (write other patch) page =
    if other == txn then with_change space number page (change_by commit patch) else page
one_record_on txn commit space number base entry page = page
