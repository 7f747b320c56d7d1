use Rattle.std.proofs.Common.{◌≡◌, map, take, fold}
use Rattle.log_history.specs.Effects.{Page, with_change}
use Rattle.txn_table.specs.Table.{change_of}
use Rattle.space_pages.specs.Layout.{page_bytes}
use Rattle.space_pages.specs.Pages.{LieWithin}
use Rattle.lane_steps.proofs.laying.lay_all.Given as goal

abbrev pub invariant-loop-change : goal.invariant-loop-change
invariant-loop-change l = (was : Page) → l.initial.page ≡ page_bytes l.space l.number was → LieWithin (map change_of l.changes)
    → l.page ≡ page_bytes l.space l.number (fold (with_change l.space l.number) was (map change_of (take l.change-index l.changes)))
