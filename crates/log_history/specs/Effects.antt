-- What the transactions in effect at a position make of the pages.
use Rattle.std.specs.Prelude.{◌≡◌, ℕ, ◌+◌, ◌-◌, List, [], ◌∷◌, ◌++◌, length, reverse, take, drop, map, filter, fold, replicate, Bool, true, false, ◌&&◌, ◌==◌, if◌then◌else◌, Option, Some, refl}
use Rattle.std.specs.List.{flat_map}
use Rattle.log_history.specs.History.{Patch, LogEntry, History, begin, write, commit, entry_at, positions}
use Rattle.log_history.specs.Live.{live}
use Rattle.log_history.specs.Transactions.{open_back}

abbrev pub is_commit : Option LogEntry → Bool
is_commit (Some (commit txn time)) = true
is_commit entry = false

-- the positions of the Commits that are live at n, ascending
abbrev pub effective : History → ℕ → List ℕ
effective history n = filter (λ x. is_commit (entry_at history x) && live history n x) (positions (length history))

-- the Writes of a transaction since its last Begin, in order, in records given newest first
abbrev pub writes_back : ℕ → List LogEntry → List Patch
writes_back txn [] = []
writes_back txn (begin other ∷ past) = if other == txn then [] else writes_back txn past
writes_back txn (write other patch ∷ past) = writes_back txn past ++ (if other == txn then patch ∷ [] else [])
writes_back txn (entry ∷ past) = writes_back txn past

-- the Writes that a Commit brings into effect: those of its transaction since its Begin, none where it isn't open
abbrev pub writes_of : Option LogEntry → List LogEntry → List Patch
writes_of (Some (commit txn time)) past = if open_back txn past then writes_back txn past else []
writes_of entry past = []

-- the Writes that the Commit at x brings into effect; none where no Commit stands at x
abbrev pub writes : History → ℕ → List Patch
writes history x = writes_of (entry_at history x) (reverse (take (x - 1) history))

-- a Write in effect, and the position of the Commit that brought it
pub record Change : Type 0 where
  pub commit : ℕ
  pub patch : Patch

abbrev pub change_by : ℕ → Patch → Change
change_by c patch = record { commit = c; patch = patch }

-- the Writes of the effective commits at n, in commit order
abbrev pub changes : History → ℕ → List Change
changes history n = flat_map (λ c. map (change_by c) (writes history c)) (effective history n)

-- a page: the position of the last Commit that wrote it, 0 where none did, and 4,080 bytes
pub record Page : Type 0 where
  pub stamp : ℕ
  pub payload : List ℕ

-- a page never written
unfoldable pub empty_page : Page
empty_page = record { stamp = 0; payload = replicate 4080 0 }

pub stamp-empty_page : empty_page.stamp ≡ 0
unfolding empty_page
stamp-empty_page = refl

-- a payload with a patch's bytes laid at its offset
abbrev pub patched : Patch → List ℕ → List ℕ
patched patch payload = take patch.offset payload ++ patch.bytes ++ drop (patch.offset + length patch.bytes) payload

-- a change of this page lays its bytes and sets the stamp; any other leaves it
abbrev pub with_change : ℕ → ℕ → Page → Change → Page
with_change space number page change =
    if ((change.patch.space == space) && (change.patch.page == number))
    then record { stamp = change.commit; payload = patched change.patch page.payload }
    else page

-- the page of a space at position n
abbrev pub page_at : History → ℕ → ℕ → ℕ → Page
page_at history n space number = fold (with_change space number) empty_page (changes history n)
