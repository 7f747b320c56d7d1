use Rattle.std.proofs.Common.{map, [], ◌≡◌, ◌∙◌, sym, subst}
use Rattle.catalogue_journal.specs.Catalogues.{additions_of, objects_of, IsOpen as IsOpenCatalogue}
use Rattle.catalogue_journal.specs.declared.catalogue.Catalogue.{Catalogue}
use Rattle.object_store.specs.Endings.{places, HoldWith}
use Rattle.object_store.specs.Returns.{place_of_addition}
use Rattle.bsa_session.specs.Views.{draft_of}
use Rattle.bsa_session.proofs.VotingLemmas.{can_cancel, opened_cancelled, holds_cancelled, count_cancelled}
use Rattle.bsa_session.proofs.voting.drop_transaction.Goals as goal

pub cancel-requires-clause-sends : goal.cancel-requires-clause-sends
cancel-requires-clause-sends g c =
    let t = c.args.transaction.now in
    can_cancel g.D.Disk.is_modelled g.D.Disk.bytes (draft_of t) t.work _ t.place.volume c.args.store.now.volumes.items c.abort.new.self.volumes.items c.in-Sending.is
    (map place_of_addition (additions_of t.staged)) c.abort.ensures.returned c.requires.volume

pub returns-in-Sending-clause-opened : goal.returns-in-Sending-clause-opened
returns-in-Sending-clause-opened g c =
    let number = c.args.transaction.now.place.volume in
    let mid = c.abort.new.self in
    let new = c.cancel.new.self in
    let was = c.abort.ensures.opened in
    record {
      cat = subst (λ (cat : Catalogue g.row.D.Denot). IsOpenCatalogue cat) (sym c.cancel.ensures.cat) was.cat;
      count = count_cancelled number mid.volumes.items new.volumes.items c.cancel.ensures.one ∙ was.count;
      each = opened_cancelled number mid.volumes.items new.volumes.items c.cancel.ensures.one was.each;
    }

pub returns-in-Sending-clause-holds : goal.returns-in-Sending-clause-holds
returns-in-Sending-clause-holds g c others hold =
    let number = c.args.transaction.now.place.volume in
    let mid = c.abort.new.self in
    let new = c.cancel.new.self in
    subst (λ (cat : Catalogue g.row.D.Denot). HoldWith (places (objects_of cat) []) others new.volumes.items) (sym c.cancel.ensures.cat)
    (holds_cancelled number mid.volumes.items new.volumes.items c.cancel.ensures.one (places (objects_of mid.cat) []) others (c.abort.ensures.holds others hold))
