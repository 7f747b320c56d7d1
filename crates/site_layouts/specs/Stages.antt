-- What calls over a whole site are about, and when a site stands for a world.
use Rattle.std.specs.Prelude.{ℕ, ◌≤◌, List, Option}
use Rattle.log_history.specs.History.{History}
use Rattle.walks.specs.Follows.{Images}
use Rattle.walks.specs.Courses.{Stage}
use Rattle.site_headers.specs.Heads.{Head}
use Rattle.backup_lines.specs.Lines.{Line}
use Rattle.site_model.specs.declared.disk_name.DiskName.{DiskName}
use Rattle.backup_lines.specs.Spans.{Active}
use Rattle.site_worlds.specs.Worlds.{Store, Ring, LaneState, Site}
use Rattle.site_worlds.specs.Fitness.{IsFitSite}
use Rattle.site_worlds.specs.Moves.{Move, site_after, site_rules}
use Rattle.site_courses.specs.Faults.{Fault, cuts}
use Rattle.site_layouts.specs.Disks.{IsOpened}
use Rattle.site_layouts.specs.Stores.{Held}
use Rattle.site_layouts.specs.Layouts.{ShowsSite}

-- a formatted site, and what bytes alone decide beside it
pub record HeldSite : Type 0 where
  pub site : Site
  pub held : Held

-- what a disk shows of it
abbrev pub ShowsHeld : DiskName → HeldSite → List ℕ → Type 0
ShowsHeld name at bytes = ShowsSite name at.site at.held bytes

-- The layers of the values that calls work on: the crash images of their disks, and when the value of a layer agrees, from an era on, with
-- its disks and with its part of a site.
pub record Layers (S : Type 0) : Type 1 where
  pub images : S → Images DiskName
  pub store_agrees : ℕ → S → Head → Store → Held → Type 0
  pub boot_agrees : ℕ → S → Head → List Line → ℕ → Option Active → Type 0
  pub log_agrees : ℕ → S → Head → List ℕ → History → Option Ring → Type 0
  pub lanes_agree : ℕ → S → Head → History → List Line → ℕ → Option Active → List LaneState → Type 0

-- the values of the layers that are opened so far agree
pub record Agree {S : Type 0} (layers : Layers S) (opened from : ℕ) (s : S) (at : HeldSite) : Type 0 where
  pub store : layers.store_agrees from s at.site.head at.site.store at.held
  pub boot : 1 ≤ opened → layers.boot_agrees from s at.site.head at.site.lines at.site.number at.site.active
  pub log : 2 ≤ opened → layers.log_agrees from s at.site.head at.site.starts at.site.history at.site.ring
  pub lanes : 3 ≤ opened → layers.lanes_agree from s at.site.head at.site.history at.site.lines at.site.number at.site.active at.site.lanes

-- Opened so far, a site stands for a world in an era in which no move was made yet: from that era on each image of the disks opened shows its
-- part, the values agree, and the site is fit.
pub record StandsFor {S : Type 0} (layers : Layers S) (opened from : ℕ) (s : S) (at : HeldSite) : Type 0 where
  pub clean : (f : ℕ) (name : DiskName) (bytes : List ℕ) → from ≤ f → IsOpened opened name → layers.images s f name bytes → ShowsHeld name at bytes
  pub agree : Agree layers opened from s at
  pub fits : IsFitSite at.site

-- the stage of a site
unfoldable pub site_stage : {S : Type 0} → Layers S → Stage DiskName Move Site HeldSite Fault S
site_stage {S} layers = record {
  rules = site_rules;
  seen = λ at. at.site;
  shows = ShowsHeld;
  cuts = cuts;
  images = layers.images;
  stands = StandsFor layers;
}

-- a site behind a move
abbrev pub behind : Move → HeldSite → HeldSite
behind move at = record { site = site_after move at.site; held = at.held }
