-- The program's states, and what the table of states calls them.
use Rattle.std.proofs.Common.{◌≡◌, ap, ◌∙◌}
use Rattle.bsa_session.specs.Views.{draft_of, with_work, view_of}
use Rattle.bsa_session.specs.declared.state.Transaction.{Transaction}
use Rattle.bsa_session.specs.declared.state.Work.{Work}
use Rattle.bsa_session.specs.declared.state.State.{State}
use Rattle.bsa_session.specs.declared.state.State.TheVariants as state

-- in a transaction the state goes by what is under way
pub open_view : (s : State) (t : Transaction) (w : Work) → s ≡ state.Open t → t.work ≡ w → view_of s ≡ with_work (draft_of t) w
open_view s t w is work = ap view_of is ∙ ap (with_work (draft_of t)) work
