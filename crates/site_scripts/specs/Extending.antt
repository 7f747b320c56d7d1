-- What extending the log of a site by a script comes to.
use Rattle.std.specs.Prelude.{◌≡◌, ℕ, ◌≤◌, List, ◌++◌, length, count_by, None}
use Rattle.log_history.specs.History.{History}
use Rattle.log_history.specs.Transactions.{Table, table_of}
use Rattle.onbar_grammar.specs.Script.{raw_lines}
use Rattle.site_headers.specs.Heads.{Head}
use Rattle.site_model.specs.Texts.{is_commit_entry}
use Rattle.site_worlds.specs.Worlds.{Site}
use Rattle.site_worlds.specs.Allowed.{HasRing}
use Rattle.site_worlds.specs.Moves.{site_rules}
use Rattle.site_courses.specs.Courses.{if_any_lost}
use Rattle.site_runs.specs.Scripts.{Ending}
use Rattle.walks.specs.Courses.{after_all}
use Rattle.site_scripts.specs.declared.outcomes.Extended.{Extended}

-- With no restore under way, its log there and none of its lanes lost, a site of this head has these open transactions.
pub record MayRun (head : Head) (table : Table) (site : Site) : Type 0 where
  pub head_is : site.head ≡ head
  pub none : site.active ≡ None
  pub has : HasRing site
  pub none_lost : if_any_lost site ≡ None
  pub table_is : table ≡ table_of site.history

-- The records that stand behind all moves of the run are counted, and the lines that it doesn't take are those of what the source has left,
-- behind at most 65,536 bytes that were taken from it.
pub record IsExtended (site : Site) (ending : Ending) (after : List ℕ) (told : Extended) : Type 0 where
  pub added : History
  pub history : (after_all site_rules ending.moves site).history ≡ site.history ++ added
  pub lines : told.lines ≡ length added
  pub commits : told.commits ≡ count_by is_commit_entry added
  pub end : told.end ≡ length (after_all site_rules ending.moves site).history
  pub held : List ℕ
  pub few : length held ≤ 65536
  pub left : ending.left ≡ raw_lines (held ++ after)
