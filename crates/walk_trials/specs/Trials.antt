-- Three disks as a stage: each shows a number by its length, and the moves raise numbers.
use Rattle.std.specs.Prelude.{◌≡◌, ℕ, ◌<◌, ◌≤◌, max, List, length, true, Option, None, Some, Result, Ok, Err}
use Rattle.std.proofs.Common.{arith}
use Rattle.site_disk.specs.declared.disk.Disk.{Ghosts}
use Rattle.site_disk.specs.declared.faults.Failed.{Failed}
use Rattle.site_disk.specs.Bytes.{Same}
use Rattle.site_disk.specs.Images.{Leaves, OnlyAfter}
use Rattle.site_disk.specs.Ledger.{EraView, MayUse}
use Rattle.walks.specs.Follows.{Images, Clean}
use Rattle.walks.specs.Courses.{Stage}
use Rattle.walk_trials.specs.declared.trio.Move.{Move}
use Rattle.walk_trials.specs.declared.trio.Move.TheVariants.{Raise, Seal}
use Rattle.walk_trials.specs.declared.trio.Name.{Name}
use Rattle.walk_trials.specs.declared.trio.Name.TheVariants.{First, Second, Third}
use Rattle.walk_trials.specs.declared.trio.Numbers.{Numbers}
use Rattle.walk_trials.specs.declared.trio.Trio.{Trio}

abbrev pub number_of : Numbers → Name → ℕ
number_of numbers First = numbers.first
number_of numbers Second = numbers.second
number_of numbers Third = numbers.third

abbrev pub disk_of : {D : Type 0} → Trio D → Name → D
disk_of trio First = trio.first
disk_of trio Second = trio.second
disk_of trio Third = trio.third

-- what holds of each of the three
pub record Each (P : Name → Type 0) : Type 0 where
  pub first : P First
  pub second : P Second
  pub third : P Third

-- the moves

-- what the numbers are raised to; a goal of 0 leaves a number as it is
abbrev pub goals_of : Move → Numbers
goals_of (Raise goals) = goals
goals_of (Seal mark) = record { first = mark; second = 0; third = 0 }

abbrev pub raised : Numbers → Numbers → Numbers
raised goals numbers = record {
  first = max numbers.first goals.first;
  second = max numbers.second goals.second;
  third = max numbers.third goals.third;
}

-- on the way from a number to its goal
pub record IsBetween (number goal place : ℕ) : Type 0 where
  pub no_lower : number ≤ place
  pub no_higher : place ≤ max number goal

-- a stop within a move leaves each number at a place of its own on its way
abbrev pub AreBetween : Move → Numbers → Numbers → Type 0
AreBetween move numbers other = (name : Name) → IsBetween (number_of numbers name) (number_of (goals_of move) name) (number_of other name)

-- what disks show

abbrev pub Shows : Name → Numbers → List ℕ → Type 0
Shows name numbers bytes = length bytes ≡ number_of numbers name

abbrev pub fault_of : {T : Type 0} → Result T Failed → Option Failed
fault_of (Ok value) = None
fault_of (Err fault) = Some fault

-- what a call in an era does to the images of a disk of n bytes: none is shorter, or longer than the goal
pub record Grows (era n goal : ℕ) (old new : ℕ → List ℕ → Type 0) : Type 0 where
  pub earlier : (f : ℕ) (bytes : List ℕ) → f < era → new f bytes → old f bytes
  pub between : ((f : ℕ) (bytes : List ℕ) → era ≤ f → old f bytes → length bytes ≡ n)
      → (f : ℕ) (bytes : List ℕ) → era ≤ f → new f bytes → IsBetween n goal (length bytes)

module _ {D : Type 0} (disk : Ghosts D) where
  abbrev pub images_of : Trio D → Images Name
  images_of trio f name bytes = disk.image (disk_of trio name) f bytes

  abbrev pub length_of : Trio D → Name → ℕ
  length_of trio name = length (disk.bytes (disk_of trio name))

  -- each disk may be used in an era
  abbrev pub EachMayUse : EraView → Trio D → Type 0
  EachMayUse era trio = Each (λ name. MayUse era (disk.ledger (disk_of trio name)))

  abbrev pub EachGrows : ℕ → Numbers → Trio D → Trio D → Type 0
  EachGrows era goals old new = Each (λ name.
      Grows era (length_of old name) (number_of goals name) (disk.image (disk_of old name)) (disk.image (disk_of new name)))

  -- each has its goal's length, if it was shorter
  abbrev pub HaveCome : Numbers → Trio D → Trio D → Type 0
  HaveCome goals old new = Each (λ name. length_of new name ≡ max (length_of old name) (number_of goals name))

  -- a call that writes nothing
  abbrev pub EachStays : ℕ → Trio D → Trio D → Type 0
  EachStays era old new = Each (λ name. Leaves era Same (disk.image (disk_of old name)) (disk.image (disk_of new name)))

  -- the later eras of each disk are left what a read gives
  abbrev pub AreSettled : ℕ → Trio D → Type 0
  AreSettled era trio = Each (λ name. OnlyAfter era (disk.bytes (disk_of trio name)) (disk.image (disk_of trio name)))

  -- they have the length of what a read gives
  abbrev pub AreLong : ℕ → Trio D → Type 0
  AreLong era trio = Each (λ name. (f : ℕ) (bytes : List ℕ) → era < f → disk.image (disk_of trio name) f bytes → length bytes ≡ length_of trio name)

  abbrev pub ReadAsBefore : Trio D → Trio D → Type 0
  ReadAsBefore old new = Each (λ name. disk.bytes (disk_of new name) ≡ disk.bytes (disk_of old name))

  -- the disks stand for three numbers in an era in which no move was made yet
  pub record StandsFor (from : ℕ) (trio : Trio D) (numbers : Numbers) : Type 0 where
    pub clean : Clean Shows from (images_of trio) numbers
    pub reads : Each (λ name. length_of trio name ≡ number_of numbers name)

  unfoldable pub trio_stage : Stage Name Move Numbers Numbers Failed (Trio D)
  trio_stage = record {
    rules = record {
      after = λ move numbers. raised (goals_of move) numbers;
      within = AreBetween;
      at_begin = λ move numbers name. record { no_lower = omega arith; no_higher = omega arith };
    };
    seen = λ numbers. numbers;
    shows = Shows;
    cuts = λ fault. true;
    images = images_of;
    stands = λ opened from trio numbers. StandsFor from trio numbers;
  }
