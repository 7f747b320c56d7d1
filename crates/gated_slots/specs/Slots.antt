-- An area of slots on a disk: what its gates say, and what calls do to it.
use Rattle.std.specs.Prelude.{◌≡◌, ◌⊎◌, ℕ, zero, suc, ◌+◌, ◌-◌, ◌*◌, ◌/◌, ◌^◌, ◌<◌, ◌≤◌, min, max, List, [], ◌∷◌, ◌++◌, length, replicate}
use Rattle.site_disk.specs.Images.{Seen}
use Rattle.site_disk.specs.Bytes.{extent, Apart, Elsewhere}

-- where the gates and the slots begin, the bytes of a slot, the number of slots; a gate is one byte
pub record Area : Type 0 where
  pub gates : ℕ
  pub slots : ℕ
  pub size : ℕ
  pub capacity : ℕ

-- what contracts see of a value over an area: the slots used are the first ones
pub record SlotsView : Type 0 where
  pub area : Area
  pub used : ℕ

-- the gates stand before the slots, places have 64 bits, and no more slots are used than there are
pub record IsSlots (view : SlotsView) : Type 0 where
  pub size : 1 ≤ view.area.size
  pub capacity : 1 ≤ view.area.capacity
  pub gates : view.area.gates + view.area.capacity ≤ view.area.slots
  pub slots : view.area.slots + view.area.size * view.area.capacity < 2 ^ 64
  pub used : view.used ≤ view.area.capacity

-- a gate before n used slots: with any behind it, it's used too; else exactly where it's open, its byte not 0
abbrev pub with_gate : ℕ → ℕ → ℕ
with_gate gate (suc n) = suc (suc n)
with_gate (suc gate) zero = 1
with_gate zero zero = 0

-- the number of slots up to the last open gate
unfoldable pub used_of : List ℕ → ℕ
used_of [] = 0
used_of (gate ∷ gates) = with_gate gate (used_of gates)

-- the slots used; a gate past the end of the bytes is closed
abbrev pub used : Area → List ℕ → ℕ
used area bytes = used_of (extent area.gates area.capacity bytes)

-- the number of slots that some bytes fill
abbrev pub slots_in : Area → List ℕ → ℕ
slots_in area bytes = length bytes / area.size

-- where a slot begins
abbrev pub place_of : Area → ℕ → ℕ
place_of area slot = area.slots + area.size * slot

-- the bytes of the slots used
abbrev pub held : Area → List ℕ → List ℕ
held area bytes = extent area.slots (area.size * used area bytes) bytes

-- all ranges apart from the area's gates and slots are as before
abbrev pub OutsideArea : Area → List ℕ → List ℕ → Type 0
OutsideArea area old new = (from len : ℕ) → Apart area.gates area.capacity from len
    → Apart area.slots (area.size * area.capacity) from len → extent from len new ≡ extent from len old

-- the same slots used
pub record Keeps (area : Area) (old new : List ℕ) : Type 0 where
  pub used : used area new ≡ used area old
  pub held : held area new ≡ held area old
  pub elsewhere : OutsideArea area old new
  pub no_shorter : length old ≤ length new

-- a batch of n slots more, behind those used before
pub record Gains (area : Area) (n : ℕ) (batch old new : List ℕ) : Type 0 where
  pub used : used area new ≡ used area old + n
  pub held : held area new ≡ held area old ++ batch
  pub elsewhere : OutsideArea area old new
  pub no_shorter : length old ≤ length new

-- the whole batch or nothing of it
pub record MayGain (area : Area) (n : ℕ) (batch old new : List ℕ) : Type 0 where
  pub slots : Keeps area old new ⊎ Gains area n batch old new
  pub elsewhere : OutsideArea area old new
  pub no_shorter : length old ≤ length new

-- where the gates end
abbrev pub end_of_gates : Area → ℕ
end_of_gates area = area.gates + area.capacity

-- where zero bytes begin that close all gates: where the bytes end before the gates, at their end
abbrev pub first_zero : Area → List ℕ → ℕ
first_zero area bytes = min area.gates (length bytes)

-- zero bytes stand from one place up to another, the bytes go on at least to there, and elsewhere nothing has changed
pub record Zeroes (from to : ℕ) (old new : List ℕ) : Type 0 where
  pub zeros : extent from (to - from) new ≡ replicate (to - from) 0
  pub elsewhere : Elsewhere from (to - from) old new
  pub long : length new ≡ max (length old) to

-- the value's count is what the gates say, in what a read gives and in every image of later eras
pub record Agrees (view : SlotsView) (disk : Seen) : Type 0 where
  pub now : used view.area disk.bytes ≡ view.used
  pub later : (f : ℕ) (c : List ℕ) → disk.last < f → disk.images f c → used view.area c ≡ view.used

-- the bytes go on at least to the place of the next slot
abbrev pub Reaches : SlotsView → List ℕ → Type 0
Reaches view bytes = place_of view.area view.used ≤ length bytes
