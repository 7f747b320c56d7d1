-- The twin mark: a record of 255 bytes that two slots of a region hold in sequence.
--
-- The region has 1,024 bytes. Its bytes 0 and 1 are the gates of slots 0 and 1; slot i's body has 256 bytes at 256 × (i + 1): a sequence,
-- then the record.
use Rattle.std.specs.Prelude.{◌≡◌, ◌⊎◌, ℕ, ◌+◌, ◌-◌, ◌*◌, ◌%◌, ◌^◌, ◌<◌, ◌≤◌, List, [], ◌∷◌, ◌++◌, length, drop, replicate, Bool, true, false, ◌&&◌, if◌then◌else◌, nat_eq, nat_le, Option, None, Some}
use Rattle.site_disk.specs.Bytes.{extent, Elsewhere}
use Rattle.site_disk.specs.Gates.{behind, GateIsSynced}
use Rattle.site_disk.specs.Images.{Seen}
use Rattle.twin_mark.specs.declared.slots.Current.{Current}

-- the sequence after a sequence
abbrev pub next : ℕ → ℕ
next sequence = (sequence + 1) % 3

-- the sequence of a body that is whole, and whose sequence is 0, 1 or 2
abbrev pub sequence_of : List ℕ → Option ℕ
sequence_of [] = None
sequence_of (sequence ∷ content) = if nat_eq (length content) 255 && nat_le sequence 2 then Some sequence else None

-- the sequence of a slot, by its gate's byte and its body; none where it isn't valid
abbrev pub sequence_by : List ℕ → List ℕ → Option ℕ
sequence_by gate body = behind gate (sequence_of body)

-- a slot's gate and body in a region
abbrev pub gate : ℕ → List ℕ → List ℕ
gate i region = extent i 1 region

abbrev pub body : ℕ → List ℕ → List ℕ
body i region = extent (256 * (i + 1)) 256 region

abbrev pub sequence : ℕ → List ℕ → Option ℕ
sequence i region = sequence_by (gate i region) (body i region)

-- of two valid slots the current one: that whose sequence comes after the other's, slot 0 where neither does
abbrev pub later_of : ℕ → ℕ → Bool → Current
later_of first second true = record { slot = 1; sequence = second }
later_of first second false = record { slot = 0; sequence = first }

-- which slot is current, by the sequences of both
abbrev pub chosen : Option ℕ → Option ℕ → Option Current
chosen None None = None
chosen (Some first) None = Some (record { slot = 0; sequence = first })
chosen None (Some second) = Some (record { slot = 1; sequence = second })
chosen (Some first) (Some second) = Some (later_of first second (nat_eq second (next first)))

-- the current slot of a region
abbrev pub current : List ℕ → Option Current
current region = chosen (sequence 0 region) (sequence 1 region)

-- the record in a slot
abbrev pub held : List ℕ → Option Current → Option (List ℕ)
held region None = None
held region (Some at) = Some (drop 1 (body at.slot region))

-- the record that stands in a region, none where neither slot is valid
abbrev pub record_of : List ℕ → Option (List ℕ)
record_of region = held region (current region)

-- the record that stands in the region at a place of a disk
abbrev pub record_at : ℕ → List ℕ → Option (List ℕ)
record_at base bytes = record_of (extent base 1024 bytes)

-- a region with a record in slot 0, sequence 0, and slot 1 closed: an open gate, zero bytes up to the record and behind it
unfoldable pub formatted : List ℕ → List ℕ
formatted content = 1 ∷ replicate 256 0 ++ content ++ replicate 512 0

-- what contracts see of a mark: where its region begins, and the current slot with its sequence
pub record MarkView : Type 0 where
  pub base : ℕ
  pub slot : ℕ
  pub sequence : ℕ

-- places have 64 bits, and there are two slots and three sequences
pub record IsMark (view : MarkView) : Type 0 where
  pub base : view.base + 1024 < 2 ^ 64
  pub slot : view.slot ≤ 1
  pub sequence : view.sequence ≤ 2

-- the value's slot and sequence are those of the current record
abbrev pub Knows : MarkView → List ℕ → Type 0
Knows view bytes = current (extent view.base 1024 bytes) ≡ Some (record { slot = view.slot; sequence = view.sequence })

-- The value agrees with the disk: it knows the current record in what a read gives and in every image of later eras, and the gate of
-- the other slot is the same in all of them.
pub record Agrees (view : MarkView) (disk : Seen) : Type 0 where
  pub now : Knows view disk.bytes
  pub later : (f : ℕ) (c : List ℕ) → disk.last < f → disk.images f c → Knows view c
  pub other_gate : GateIsSynced (view.base + (1 - view.slot)) disk

-- a new record stands in the region, and nothing else has changed
pub record Stores (base : ℕ) (content old new : List ℕ) : Type 0 where
  pub stored : record_at base new ≡ Some content
  pub elsewhere : Elsewhere base 1024 old new
  pub no_shorter : length old ≤ length new

-- the old record stands there or the new one, and nothing else has changed
pub record MayStore (base : ℕ) (content old new : List ℕ) : Type 0 where
  pub mark : (record_at base new ≡ record_at base old) ⊎ (record_at base new ≡ Some content)
  pub elsewhere : Elsewhere base 1024 old new
  pub no_shorter : length old ≤ length new
