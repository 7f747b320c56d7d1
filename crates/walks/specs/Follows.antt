-- How a call brings a group of disks from world to world, and what a stop within it leaves.
use Rattle.std.specs.Prelude.{◌⊎◌, ℕ, ◌<◌, ◌≤◌, List}

-- the crash images of named disks, by era
abbrev pub Images : Type 0 → Type 1
Images Name = ℕ → Name → List ℕ → Type 0

-- what a disk shows of a world
abbrev pub Showing : Type 0 → Type 0 → Type 1
Showing Name W = Name → W → List ℕ → Type 0

module _ {Name W : Type 0} (shows : Showing Name W) where
  -- from an era on each image of each disk shows its part of the world
  abbrev pub Clean : ℕ → Images Name → W → Type 0
  Clean from images world = (f : ℕ) (name : Name) (bytes : List ℕ) → from ≤ f → images f name bytes → shows name world bytes

  -- An image after a call: it shows the next world, or it was an image before the call, and shows the next world if it
  -- showed the present one. So a disk that the call leaves alone follows it, whatever it shows.
  abbrev pub Follows : Images Name → ℕ → W → W → Name → List ℕ → Type 0
  Follows old f world next name bytes = shows name next bytes ⊎ (old f name bytes × (shows name world bytes → shows name next bytes))

  -- a choice of one image per disk follows to one of the worlds that are passed
  abbrev pub FollowsAmong : Images Name → ℕ → W → (W → Type 0) → (Name → List ℕ) → Type 0
  FollowsAmong old f world passed choice = (next : W) × passed next × ((name : Name) → Follows old f world next name (choice name))

  -- A call from an era on, stopped anywhere or ended: earlier eras gain no image, and in every later era each choice of
  -- images follows from the world to one that the call passes.
  pub record Goes (from : ℕ) (old new : Images Name) (world : W) (passed : W → Type 0) : Type 0 where
    pub earlier : (f : ℕ) (name : Name) (bytes : List ℕ) → f < from → new f name bytes → old f name bytes
    pub later : (f : ℕ) (choice : Name → List ℕ) → from ≤ f → ((name : Name) → new f name (choice name)) → FollowsAmong old f world passed choice

  -- from an era on each image follows to the next world
  abbrev pub Ends : ℕ → Images Name → Images Name → W → W → Type 0
  Ends to old new world next = (f : ℕ) (name : Name) (bytes : List ℕ) → to ≤ f → new f name bytes → Follows old f world next name bytes

  -- a call that ended: it comes to the next world in the era in which it ends
  pub record Comes (from to : ℕ) (old new : Images Name) (world : W) (passed : W → Type 0) (next : W) : Type 0 where
    pub no_earlier : from ≤ to
    pub goes : Goes from old new world passed
    pub ends : Ends to old new world next
