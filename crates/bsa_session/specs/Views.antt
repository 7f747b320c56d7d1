-- The program's states as the table of states has them.
use Rattle.std.specs.Prelude.{drop}
use Rattle.catalogue_journal.specs.Catalogues.{additions_of}
use Rattle.session_machine.specs.States as machine
use Rattle.bsa_session.specs.declared.state.Place.{Place}
use Rattle.bsa_session.specs.declared.state.Transaction.{Transaction}
use Rattle.bsa_session.specs.declared.state.Work.{Work}
use Rattle.bsa_session.specs.declared.state.Work.TheVariants.{Waiting, Sending, Querying, Getting}
use Rattle.bsa_session.specs.declared.state.State.{State}
use Rattle.bsa_session.specs.declared.state.State.TheVariants as state

abbrev pub place_of : Place → machine.Place
place_of place = record { volume = place.volume; moment = place.moment }

abbrev pub draft_of : Transaction → machine.Draft
draft_of transaction = record {
  place = place_of transaction.place;
  added = additions_of transaction.staged;
  deleted = transaction.staged.delete.items;
}

abbrev pub with_work : machine.Draft → Work → machine.State
with_work draft Waiting = machine.waiting draft
with_work draft (Sending descriptor) = machine.sending draft descriptor
with_work draft (Querying matches) = machine.querying draft (drop matches.given matches.copies.items)
with_work draft (Getting reading) = machine.getting draft reading.copy reading.at

abbrev pub view_of : State → machine.State
view_of state.None = machine.none
view_of (state.Idle place) = machine.idle (place_of place)
view_of (state.Open transaction) = with_work (draft_of transaction) transaction.work
view_of state.Broken = machine.broken
