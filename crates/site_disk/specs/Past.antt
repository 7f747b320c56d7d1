-- What a disk in memory was asked, the newest first: what it reads as, and what a crash may leave of it.
use Rattle.std.specs.Prelude.{◌≡◌, ◌⊎◌, ℕ, ◌+◌, ◌-◌, ◌≤◌, nat_eq, nat_lt, nat_le, Bool, true, ◌&&◌, List, [], ◌∷◌, length, drop, count_by, Result, Ok, Err}
use Rattle.site_disk.specs.Bytes.{written, Torn}

-- a write of some bytes at a place, and a sync that succeeded, each in its era
pub data Event : Type 0 where
  put : (era at : ℕ) (piece : List ℕ) → Event
  synced : (era : ℕ) → Event

abbrev pub era_of : Event → ℕ
era_of (put era at piece) = era
era_of (synced era) = era

-- the bytes once all was done
abbrev pub contents : List ℕ → List Event → List ℕ
contents start [] = start
contents start (put era at piece ∷ past) = written at piece (contents start past)
contents start (synced era ∷ past) = contents start past

-- what a crash after all of it may leave: each write since the last sync may be torn
abbrev pub Pending : List ℕ → List Event → List ℕ → Type 0
Pending start [] c = c ≡ start
Pending start (put era at piece ∷ past) c = (d : List ℕ) × Pending start past d × Torn at (length piece) d c
Pending start (synced era ∷ past) c = c ≡ contents start past

-- what a crash in an era may leave: it falls after all that was done in earlier eras and before all that was done in later ones
abbrev pub IsImage : List ℕ → List Event → ℕ → List ℕ → Type 0
IsImage start [] f c = c ≡ start
IsImage start (event ∷ past) f c = ((era_of event ≤ f) × Pending start (event ∷ past) c) ⊎ ((f ≤ era_of event) × IsImage start past f c)

-- the eras don't fall and none is above the last, and no write leaves a gap
abbrev pub is_in_order : ℕ → List ℕ → List Event → Bool
is_in_order last start [] = true
is_in_order last start (put era at piece ∷ past) = nat_le era last && (nat_le at (length (contents start past)) && is_in_order era start past)
is_in_order last start (synced era ∷ past) = nat_le era last && is_in_order era start past

-- a write that was asked of a disk: at Ok it was put, else nothing or a front of it
abbrev pub PutsFront : {T E : Type 0} → ℕ → ℕ → List ℕ → List ℕ → List Event → List Event → Result T E → Type 0
PutsFront era at piece front old new (Ok _) = new ≡ put era at piece ∷ old
PutsFront era at piece front old new (Err _) = (new ≡ old) ⊎ (new ≡ put era at front ∷ old)

-- how many of the calls were made in later eras than this, and how many in this one
abbrev pub calls_later : ℕ → List Event → ℕ
calls_later f past = count_by (λ event. nat_lt f (era_of event)) past

abbrev pub calls_in : ℕ → List Event → ℕ
calls_in f past = count_by (λ event. nat_eq (era_of event) f) past

-- what was asked up to the moment after the first n calls of an era, its last moment where it has fewer
abbrev pub past_at : ℕ → ℕ → List Event → List Event
past_at f n past = drop (calls_later f past + (calls_in f past - n)) past

-- a write begins within the bytes or at their end
abbrev pub NoGap : List ℕ → Event → Type 0
NoGap bytes (put era at piece) = at ≤ length bytes
NoGap bytes (synced era) = Unit {0}

-- what a crash may leave of some bytes once one more thing was done; whole is what is there if nothing is torn
abbrev pub TornBy : Event → List ℕ → List ℕ → List ℕ → Type 0
TornBy (put era at piece) whole old new = Torn at (length piece) old new
TornBy (synced era) whole old new = new ≡ whole

-- in order, whatever the last era
abbrev pub IsInOrder : List ℕ → List Event → Type 0
IsInOrder start past = (last : ℕ) × (is_in_order last start past ≡ true)
