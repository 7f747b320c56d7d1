-- The disks that move in a call: one alone, or several in one era, each at a place of its own.
use Rattle.std.specs.Prelude.{◌≡◌, ℕ, ◌<◌, ◌≤◌, List, Bool, true, false}
use Rattle.walks.specs.Follows.{Images, Showing, Follows}

module _ {Name W : Type 0} (shows : Showing Name W) where
  -- what the images of the disks that don't move show of one world, in an era, they show of another
  abbrev pub Apart : (Name → Bool) → Images Name → ℕ → W → W → Type 0
  Apart is_moving old f world next = (name : Name) (bytes : List ℕ) → is_moving name ≡ false → old f name bytes → shows name world bytes → shows name next bytes

  -- A call of one disk, stopped anywhere: the other disks keep their images, and each image of the disk follows to a world
  -- that the call passes, of which the others show what they show of the present one.
  pub record MovesOne (who : Name) (is_moving : Name → Bool) (from : ℕ) (old new : Images Name) (world : W) (passed : W → Type 0) : Type 0 where
    pub is_who : (name : Name) → is_moving name ≡ true → name ≡ who
    pub others : (f : ℕ) (name : Name) (bytes : List ℕ) → is_moving name ≡ false → new f name bytes → old f name bytes
    pub earlier : (f : ℕ) (bytes : List ℕ) → f < from → new f who bytes → old f who bytes
    pub moves : (f : ℕ) (bytes : List ℕ) → from ≤ f → new f who bytes
        → (next : W) × passed next × Follows shows old f world next who bytes × Apart is_moving old f world next

  -- it ended: each later image of the disk follows to the next world
  pub record MovedOne (who : Name) (is_moving : Name → Bool) (from to : ℕ) (old new : Images Name) (world : W) (passed : W → Type 0) (next : W) : Type 0 where
    pub no_earlier : from ≤ to
    pub moves : MovesOne who is_moving from old new world passed
    pub ends : (f : ℕ) (bytes : List ℕ) → to ≤ f → new f who bytes → Follows shows old f world next who bytes
    pub apart : (f : ℕ) → to ≤ f → Apart is_moving old f world next

  -- A phase: in one era each disk goes its own way, and the world is a function of the places at which they are. An image of a
  -- disk belongs to a place, and follows to each world in which the disk is at that place, wherever the others are.
  pub record Phase {Place : Type 0} (world_at : (Name → Place) → W) (may : Name → Place → Type 0) (from : ℕ) (old new : Images Name) (world : W) : Type 0 where
    pub earlier : (f : ℕ) (name : Name) (bytes : List ℕ) → f < from → new f name bytes → old f name bytes
    pub each : (f : ℕ) (name : Name) (bytes : List ℕ) → from ≤ f → new f name bytes
        → (place : Place) × may name place
        × ((places : Name → Place) → ((other : Name) → may other (places other)) → places name ≡ place → Follows shows old f world (world_at places) name bytes)
