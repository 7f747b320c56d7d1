-- A gate: a byte of a disk, 0 where it's closed, which says whether what stands behind it counts.
use Rattle.std.specs.Prelude.{◌≡◌, ◌⊎◌, ℕ, zero, suc, ◌<◌, List, [], ◌∷◌, Option, None}
use Rattle.site_disk.specs.Bytes.{extent, written, Torn}
use Rattle.site_disk.specs.Images.{Seen}

-- the gate's byte is there and is 0
abbrev pub IsShut : ℕ → List ℕ → Type 0
IsShut gate bytes = extent gate 1 bytes ≡ 0 ∷ []

-- what counts of what stands behind a gate, by the gate's byte: nothing where it's closed or isn't there
abbrev pub behind : {A : Type 0} → List ℕ → Option A → Option A
behind [] it = None
behind (zero ∷ more) it = None
behind (suc gate ∷ more) it = it

-- the bytes with the gate closed
abbrev pub shut : ℕ → List ℕ → List ℕ
shut gate bytes = written gate (0 ∷ []) bytes

-- in every image of later eras the gate's byte is what a read gives
abbrev pub GateStands : ℕ → ℕ → List ℕ → (ℕ → List ℕ → Type 0) → Type 0
GateStands gate last bytes images = (f : ℕ) (c : List ℕ) → last < f → images f c → extent gate 1 c ≡ extent gate 1 bytes

abbrev pub GateIsSynced : ℕ → Seen → Type 0
GateIsSynced gate disk = GateStands gate disk.last disk.bytes disk.images

-- what a stop in the closing leaves: any byte as the gate, and nothing new where it was closed
pub record MayShut (gate : ℕ) (old new : List ℕ) : Type 0 where
  pub torn : Torn gate 1 old new
  pub kept : IsShut gate old → new ≡ old

-- every image of later eras is one from before with its gate closed
abbrev pub ComeShut : ℕ → ℕ → (ℕ → List ℕ → Type 0) → (ℕ → List ℕ → Type 0) → Type 0
ComeShut gate e old new = (f : ℕ) (c : List ℕ) → e < f → new f c → (b : List ℕ) × old f b × (c ≡ shut gate b)

-- what a stop leaves of the closing and of writes behind the closed gate in a range
abbrev pub MayFill : ℕ → ℕ → ℕ → List ℕ → List ℕ → Type 0
MayFill gate at n old new = MayShut gate old new ⊎ Torn at n (shut gate old) new
