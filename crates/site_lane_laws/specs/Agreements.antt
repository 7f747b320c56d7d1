-- When the lanes' values agree with the lanes of a site.
use Rattle.std.specs.Prelude.{◌≡◌, ◌⊎◌, ℕ, zero, suc, ◌+◌, ◌<◌, ◌≤◌, List, [], ◌∷◌, length, slice_get, Option, Some}
use Rattle.std.proofs.Common.{refl}
use mathlib.Core.Logic.{inl, inr}
use Rattle.log_history.specs.History.{History}
use Rattle.site_disk.specs.declared.disk.Disk.{Ghosts}
use Rattle.site_headers.specs.Heads.{Head}
use Rattle.backup_lines.specs.Lines.{Line}
use Rattle.backup_lines.specs.Spans.{Active}
use Rattle.space_lane.specs.Lanes.{disk_of}
use Rattle.space_lane.specs.declared.lane.Lane.{Lane}
use Rattle.site_worlds.specs.Worlds.{LaneState, stands, blank, merges, replays, stale, lost}
use Rattle.site_worlds.specs.Lanes.{pages_of_space}
use Rattle.site_layouts.specs.Chunks.{HoldsLane}
use Rattle.site_layouts.specs.LaneWords.{LaneAgrees}
use Rattle.site_layouts.specs.AgreeLaws.{agrees_later}

-- a lane is lost, or isn't
pub is_lost : (lane : LaneState) → (lane ≡ lost) ⊎ (lane ≡ lost → ⊥)
is_lost lost = inl refl
is_lost (stands upto part) = inr (λ same. cc)
is_lost (blank restore) = inr (λ same. cc)
is_lost (merges restore chain archive entries) = inr (λ same. cc)
is_lost (replays restore chain upto part) = inr (λ same. cc)
is_lost stale = inr (λ same. cc)

module _ {D : Type 0} (disk : Ghosts D) where
  -- Each lane of a site has a value that agrees with it from an era on.
  pub record LanesAgree (from : ℕ) (head : Head) (number : ℕ) (active : Option Active) (lanes : List LaneState) (values : List (Lane D)) : Type 0 where
    pub enough : length lanes ≤ length values
    pub each : (n : ℕ) (lane : LaneState) (value : Lane D) → slice_get lanes n ≡ Some lane → slice_get values n ≡ Some value
        → LaneAgrees disk from head.site (pages_of_space head.spaces n) number active n value lane

  -- So from each later era.
  pub lanes_agree_later : (from to : ℕ) (head : Head) (number : ℕ) (active : Option Active) (lanes : List LaneState) (values : List (Lane D)) → from ≤ to
      → LanesAgree from head number active lanes values → LanesAgree to head number active lanes values
  lanes_agree_later from to head number active lanes values le is = record {
    enough = is.enough;
    each = λ n lane value there here.
        agrees_later disk head.site (pages_of_space head.spaces n) number active from to n value lane le (is.each n lane value there here);
  }

  -- What a read of each chunk gives shows its lane.
  abbrev pub LanesShow : Head → History → List Line → ℕ → Option Active → List LaneState → List (Lane D) → Type 0
  LanesShow head history lines number active lanes values = (n : ℕ) (lane : LaneState) (value : Lane D) → slice_get lanes n ≡ Some lane → slice_get values n ≡ Some value
      → HoldsLane head.site (pages_of_space head.spaces n) history lines number active n lane (disk.bytes (disk_of value))
