-- What the log's disk says before its slots are read: the mark, and how many slots each file held uses.
use Rattle.std.specs.Prelude.{◌≡◌, ℕ, zero, suc, ◌+◌, ◌-◌, ◌%◌, ◌^◌, ◌≤◌, List, [], ◌∷◌, length, slice_index, Bool, true, Some}
use Rattle.gated_slots.specs.Slots.{used, end_of_gates}
use Rattle.twin_mark.specs.Marks.{record_at}
use Rattle.log_mark.specs.declared.mark.LogMark.{LogMark}
use Rattle.log_mark.specs.Layout.{IsMark, spelling as mark_spelling}
use Rattle.log_files.specs.Files.{firsts_by, total}
use Rattle.log_files.specs.Ring.{area_of}

-- the slots used of so many files from one on, as their gates say
abbrev pub counts_from : ℕ → ℕ → List ℕ → List ℕ
counts_from file zero bytes = []
counts_from file (suc n) bytes = used (area_of file) bytes ∷ counts_from (file + 1) n bytes

-- and of those that a mark names
abbrev pub counts_on : LogMark → List ℕ → List ℕ
counts_on mark bytes = counts_from mark.oldest (mark.current + 1 - mark.oldest) bytes

-- Only the last of some files may be empty, and then it isn't closed.
abbrev pub IsFilled : Bool → ℕ → List ℕ → Type 0
IsFilled is_closed count [] = is_closed ≡ true → 1 ≤ count
IsFilled is_closed count (next ∷ counts) = 1 ≤ count

abbrev pub AreFilled : Bool → List ℕ → Type 0
AreFilled is_closed [] = Unit {0}
AreFilled is_closed (count ∷ counts) = IsFilled is_closed count counts × AreFilled is_closed counts

-- the position of a file's first record, as a mark says
abbrev pub first_at : LogMark → ℕ → ℕ
first_at mark file = slice_index mark.firsts (file % 8)

-- A mark names files with these counts: as many as lie from the oldest one to the current one, of which only that may be empty. The first
-- position of the oldest is at least its id, and the others follow from it. No position passes 2^48.
pub record Names (mark : LogMark) (counts : List ℕ) : Type 0 where
  pub held : mark.oldest + length counts ≡ mark.current + 1
  pub filled : AreFilled mark.is_closed counts
  pub oldest : mark.oldest ≤ first_at mark mark.oldest
  pub firsts : mark.firsts ≡ firsts_by mark.oldest (first_at mark mark.oldest) counts
  pub positions : first_at mark mark.oldest + total counts ≤ 2 ^ 48 + 1

-- the mark's record is in the grammar, with what the gates say of the files that it names, and the disk reaches the current one's slots
pub record HasFront (mark : LogMark) (bytes : List ℕ) : Type 0 where
  pub stands : record_at 4096 bytes ≡ Some (mark_spelling mark)
  pub fits : IsMark mark
  pub names : Names mark (counts_on mark bytes)
  pub reaches : end_of_gates (area_of mark.current) ≤ length bytes
