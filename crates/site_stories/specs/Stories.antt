-- Stories of a site: from one that isn't formatted on, commands end or stop, and between them this and that befalls it.
use Rattle.std.specs.Prelude.{◌≡◌, ℕ, List, [], ◌∷◌}
use Rattle.log_history.specs.History.{History}
use Rattle.walks.specs.Courses.{IsOnWay}
use Rattle.site_worlds.specs.Worlds.{World, unformatted, formatted}
use Rattle.site_worlds.specs.Files.{last_logged}
use Rattle.site_worlds.specs.Moves.{WorldMove, world_rules}
use Rattle.world_laws.specs.NewLaws.{CanWorldAll}
use Rattle.site_stories.specs.Events.{Befalls}

-- what befalls a formatted site
abbrev pub WorldBefalls : World → World → Type 0
WorldBefalls (formatted site) (formatted next) = Befalls site next
WorldBefalls world next = ⊥

-- From one world to the next: moves that may be made are made up to some place within them, all of them if the command ends; or something
-- befalls the site.
pub data IsEvent (world next : World) : Type 0 where
  runs : (moves : List WorldMove) (can : CanWorldAll moves world) (stops : IsOnWay world_rules moves world next) → IsEvent world next
  befalls : (is : WorldBefalls world next) → IsEvent world next

-- one event after another, by the worlds that they lead to
abbrev pub AreEvents : List World → World → World → Type 0
AreEvents [] world last = last ≡ world
AreEvents (next ∷ worlds) world last = IsEvent world next × AreEvents worlds next last

-- a story, by its worlds
abbrev pub IsStory : List World → World → Type 0
IsStory worlds last = AreEvents worlds unformatted last

-- the records of a world's log; none while it isn't formatted
abbrev pub history_of : World → History
history_of unformatted = []
history_of (formatted site) = site.history

-- the last position that a log file with a line reaches
abbrev pub logged_of : World → ℕ
logged_of unformatted = 0
logged_of (formatted site) = last_logged site.lines
