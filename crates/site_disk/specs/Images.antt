-- Crash images: what a crash in an era may leave of a disk, and what a call does to that.
use Rattle.std.specs.Prelude.{◌≡◌, ◌⊎◌, ℕ, ◌+◌, ◌<◌, ◌≤◌, List}

-- What a call in era e does to the crash images. Earlier eras gain none. In era e itself images only add up: a new one
-- comes by a step from what was pending, which is what the eras after e would have been left. Later eras have steps alone.
pub record Leaves (e : ℕ) (step : List ℕ → List ℕ → Type 0) (old new : ℕ → List ℕ → Type 0) : Type 0 where
  pub earlier : (f : ℕ) (c : List ℕ) → f < e → new f c → old f c
  pub during : (c : List ℕ) → new e c → old e c ⊎ ((d : List ℕ) × old (e + 1) d × step d c)
  pub later : (f : ℕ) (c : List ℕ) → e < f → new f c → (d : List ℕ) × old f d × step d c

-- what a crash up to the end of an era might have left stays possible
abbrev pub Stays : ℕ → (ℕ → List ℕ → Type 0) → (ℕ → List ℕ → Type 0) → Type 0
Stays e old new = (f : ℕ) (c : List ℕ) → f ≤ e → old f c → new f c

-- a crash in a later era leaves these bytes and nothing else
abbrev pub OnlyAfter : ℕ → List ℕ → (ℕ → List ℕ → Type 0) → Type 0
OnlyAfter e bytes images = (f : ℕ) (c : List ℕ) → e < f → images f c → c ≡ bytes

-- a disk as clauses see it at a moment: the last era used, what a read gives, and what a crash in an era may leave
pub record Seen : Type 1 where
  pub last : ℕ
  pub bytes : List ℕ
  pub images : ℕ → List ℕ → Type 0

-- nothing was written since the last sync: a crash in a later era leaves what a read gives
abbrev pub IsSynced : Seen → Type 0
IsSynced disk = OnlyAfter disk.last disk.bytes disk.images

-- the same images in every era
pub record Unchanged (old new : ℕ → List ℕ → Type 0) : Type 0 where
  pub forth : (f : ℕ) (c : List ℕ) → old f c → new f c
  pub back : (f : ℕ) (c : List ℕ) → new f c → old f c
