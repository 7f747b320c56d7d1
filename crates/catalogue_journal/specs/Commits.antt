-- What a commit leaves of the catalogue's disks.
use Rattle.std.specs.Prelude.{◌≡◌, ◌⊎◌, ℕ, ◌+◌, ◌<◌, ◌≤◌, List, length}
use Rattle.site_disk.specs.Ledger.{EraView}
use Rattle.gated_slots.specs.Slots.{Area, OutsideArea, used}
use Rattle.site_headers.specs.Heads.{Head}
use Rattle.catalogue_replay.specs.Contents.{Contents}
use Rattle.catalogue_replay.specs.Places.{area_of, Journals}
use Rattle.catalogue_replay.specs.Answers.{IsCatalogue}

-- an area has these contents in so many slots
pub record HasIn (area : Area) (contents : Contents) (taken : ℕ) (bytes : List ℕ) : Type 0 where
  pub journal : Journals area contents bytes
  pub used : used area bytes ≡ taken

-- a commit that a crash cuts short leaves the contents from before it or those behind it, in so many slots more, and nothing else has changed
pub record MayEnd (area : Area) (wanted : ℕ) (before behind : Contents) (old new : List ℕ) : Type 0 where
  pub contents : (taken : ℕ) → HasIn area before taken old → HasIn area before taken new ⊎ HasIn area behind (taken + wanted) new
  pub elsewhere : OutsideArea area old new
  pub no_shorter : length old ≤ length new

-- each pair of images that crashes from an era on may leave is a catalogue with these contents
abbrev pub ShowFrom : ℕ → ℕ → Head → Contents → (ℕ → List ℕ → Type 0) → (ℕ → List ℕ → Type 0) → Type 0
ShowFrom e capacity head contents cat spare = (f g : ℕ) (c d : List ℕ) → e ≤ f → e ≤ g → cat f c → spare g d → IsCatalogue capacity head contents c d

-- What a commit leaves of both disks, from its first era on: where each pair of images had the contents from before it, each pair has
-- these or those behind it, which take so many slots more. Earlier eras gain no image.
pub record Ends (e capacity wanted : ℕ) (before behind : Contents) (cat spare cat_now spare_now : ℕ → List ℕ → Type 0) : Type 0 where
  pub either : (head : Head) → ShowFrom e capacity head before cat spare → (f : ℕ) (c d : List ℕ) → e ≤ f → cat_now f c → spare_now f d
      → IsCatalogue capacity head before c d ⊎ IsCatalogue capacity head behind c d
  pub counted : (taken : ℕ) → ((f : ℕ) (c : List ℕ) → e ≤ f → cat f c → HasIn (area_of capacity) before taken c) → (f : ℕ) (c : List ℕ) → e ≤ f → cat_now f c
      → HasIn (area_of capacity) before taken c ⊎ HasIn (area_of capacity) behind (taken + wanted) c
  pub earlier : (f : ℕ) (c : List ℕ) → f < e → cat_now f c → cat f c
  pub spare_earlier : (f : ℕ) (d : List ℕ) → f < e → spare_now f d → spare f d

-- the eras that a commit takes: the one in which it begins, and at most four more
pub record TakesEras (from to : EraView) : Type 0 where
  pub key : to.key ≡ from.key
  pub no_earlier : from.number ≤ to.number
  pub few : to.number ≤ from.number + 4
