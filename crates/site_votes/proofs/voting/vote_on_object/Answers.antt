use Rattle.std.proofs.Common.{◌≡◌, Bool, true, false, List, Result, Ok, refl, sym, ap, subst}
use Rattle.catalogue_journal.specs.Catalogues.{objects_of}
use Rattle.catalogue_journal.specs.Transactions.{Addition}
use Rattle.object_store.specs.Endings.{places, HoldAll}
use Rattle.object_store.specs.Reading.{ChangesOne}
use Rattle.bsa_session.specs.Sessions.{state_of, Suits}
use Rattle.bsa_session.specs.Voting.{added_in, Drops, IsOn}
use Rattle.session_machine.specs.Conditions.{is_broken}
use Rattle.session_machine.specs.States.{State}
use Rattle.site_core.specs.declared.faults.SiteFault.{SiteFault}
use Rattle.site_votes.specs.Sent.{IsSentWhole, HasNoRoom, SendEnds}
use Rattle.site_votes.proofs.StoreLemmas.{open_changed, at_place, held_sent, held_still, settled_on, order_on, usable_on}
use Rattle.site_votes.proofs.VoteLemmas.{lacks_room, votes_then, votes_cut}
use Rattle.site_votes.proofs.voting.vote_on_object.Goals as goal

pub commit_object-requires-clause-opened : goal.commit_object-requires-clause-opened
commit_object-requires-clause-opened g c =
    let state = state_of c.send_to_store.new.session in
    let P = IsSentWhole g.D.Disk c.args.era.now c.args.number c.args.descriptor.now c.args.bytes.now state in
    let told : c.send_to_store.result ≡ Ok true = cc in
    let one : ChangesOne P c.args.number c.args.site.now.store.volumes.items c.send_to_store.new.store.volumes.items =
    subst (λ (r : Result Bool SiteFault). ChangesOne (λ was is. SendEnds g.D.Disk c.args.era.now c.args.number c.args.descriptor.now c.args.bytes.now state was is r) c.args.number
    c.args.site.now.store.volumes.items c.send_to_store.new.store.volumes.items) told c.send_to_store.ensures.ends in
    open_changed P c.args.number c.args.site.now.store c.send_to_store.new.store (λ was is it. (it.opened, it.number_is)) c.send_to_store.ensures.cat one c.requires.settled.opened

pub commit_object-requires-clause-idle : goal.commit_object-requires-clause-idle
commit_object-requires-clause-idle g c =
    let state = state_of c.send_to_store.new.session in
    let P = IsSentWhole g.D.Disk c.args.era.now c.args.number c.args.descriptor.now c.args.bytes.now state in
    let told : c.send_to_store.result ≡ Ok true = cc in
    let one : ChangesOne P c.args.number c.args.site.now.store.volumes.items c.send_to_store.new.store.volumes.items =
    subst (λ (r : Result Bool SiteFault). ChangesOne (λ was is. SendEnds g.D.Disk c.args.era.now c.args.number c.args.descriptor.now c.args.bytes.now state was is r) c.args.number
    c.args.site.now.store.volumes.items c.send_to_store.new.store.volumes.items) told c.send_to_store.ensures.ends in
    at_place P (Suits g.D.Disk.is_modelled g.D.Disk.bytes state) c.args.number c.args.site.now.store.volumes.items c.send_to_store.new.store.volumes.items
    (λ was is it. subst (λ (s : State). Suits g.D.Disk.is_modelled g.D.Disk.bytes s is) (sym it.state_is) (record { opened = it.opened; number = it.number_is; idle = it.idle })) one

pub commit_object-requires-clause-holds : goal.commit_object-requires-clause-holds
commit_object-requires-clause-holds g c =
    let state = state_of c.send_to_store.new.session in
    let mid = c.send_to_store.new.store in
    let P = IsSentWhole g.D.Disk c.args.era.now c.args.number c.args.descriptor.now c.args.bytes.now state in
    let told : c.send_to_store.result ≡ Ok true = cc in
    let one : ChangesOne P c.args.number c.args.site.now.store.volumes.items mid.volumes.items =
    subst (λ (r : Result Bool SiteFault). ChangesOne (λ was is. SendEnds g.D.Disk c.args.era.now c.args.number c.args.descriptor.now c.args.bytes.now state was is r) c.args.number
    c.args.site.now.store.volumes.items mid.volumes.items) told c.send_to_store.ensures.ends in
    subst (λ (a : List Addition). HoldAll (places (objects_of mid.cat) a) mid.volumes.items) (sym (ap added_in one.by.state_is))
    (held_sent g.D.Disk c.args.era.now c.args.number c.args.descriptor.now c.args.bytes.now state c.args.site.now.store mid c.requires.settled c.send_to_store.ensures.cat one)

pub returns-in-Ok-true-clause-votes : goal.returns-in-Ok-true-clause-votes
returns-in-Ok-true-clause-votes g c modelled order =
    let state = state_of c.send_to_store.new.session in
    let mid = c.send_to_store.new.store in
    let P = IsSentWhole g.D.Disk c.args.era.now c.args.number c.args.descriptor.now c.args.bytes.now state in
    let told : c.send_to_store.result ≡ Ok true = cc in
    let one : ChangesOne P c.args.number c.args.site.now.store.volumes.items mid.volumes.items =
    subst (λ (r : Result Bool SiteFault). ChangesOne (λ was is. SendEnds g.D.Disk c.args.era.now c.args.number c.args.descriptor.now c.args.bytes.now state was is r) c.args.number
    c.args.site.now.store.volumes.items mid.volumes.items) told c.send_to_store.ensures.ends in
    votes_then g.D.Disk modelled (λ it f last. g.met.D.Disk.reads_as it f modelled last) c.args.era.now c.args.number c.args.descriptor.now c.args.bytes.now
    c.args.site.now (record c.args.site.now { store = c.commit_object.new.store }) mid state refl c.send_to_store.ensures.cat c.requires.settled c.requires.era one order
    c.commit_object.new.era c.commit_object.result c.commit_object.ensures.ends c.commit_object.ensures.no_earlier

pub terminate-requires-clause-store : goal.terminate-requires-clause-store
terminate-requires-clause-store g c whole =
    let state = state_of c.send_to_store.new.session in
    let P = HasNoRoom g.D.Disk c.args.era.now c.args.number c.args.descriptor.now c.args.bytes.now state in
    let told : c.send_to_store.result ≡ Ok false = cc in
    let one : ChangesOne P c.args.number c.args.site.now.store.volumes.items c.send_to_store.new.store.volumes.items =
    subst (λ (r : Result Bool SiteFault). ChangesOne (λ was is. SendEnds g.D.Disk c.args.era.now c.args.number c.args.descriptor.now c.args.bytes.now state was is r) c.args.number
    c.args.site.now.store.volumes.items c.send_to_store.new.store.volumes.items) told c.send_to_store.ensures.ends in
    open_changed P c.args.number c.args.site.now.store c.send_to_store.new.store (λ was is it. (it.opened, it.number_is)) c.send_to_store.ensures.cat one c.requires.settled.opened

pub terminate-requires-clause-volume : goal.terminate-requires-clause-volume
terminate-requires-clause-volume g c place volume there on =
    let state = state_of c.send_to_store.new.session in
    let P = HasNoRoom g.D.Disk c.args.era.now c.args.number c.args.descriptor.now c.args.bytes.now state in
    let told : c.send_to_store.result ≡ Ok false = cc in
    let one : ChangesOne P c.args.number c.args.site.now.store.volumes.items c.send_to_store.new.store.volumes.items =
    subst (λ (r : Result Bool SiteFault). ChangesOne (λ was is. SendEnds g.D.Disk c.args.era.now c.args.number c.args.descriptor.now c.args.bytes.now state was is r) c.args.number
    c.args.site.now.store.volumes.items c.send_to_store.new.store.volumes.items) told c.send_to_store.ensures.ends in
    at_place P (Suits g.D.Disk.is_modelled g.D.Disk.bytes state) c.args.number c.args.site.now.store.volumes.items c.send_to_store.new.store.volumes.items
    (λ was is it. it.suits) one place volume there (subst (IsOn place) one.by.state_is on)

pub terminate-requires-clause-holds : goal.terminate-requires-clause-holds
terminate-requires-clause-holds g c drafts =
    let state = state_of c.send_to_store.new.session in
    let mid = c.send_to_store.new.store in
    let P = HasNoRoom g.D.Disk c.args.era.now c.args.number c.args.descriptor.now c.args.bytes.now state in
    let told : c.send_to_store.result ≡ Ok false = cc in
    let one : ChangesOne P c.args.number c.args.site.now.store.volumes.items mid.volumes.items =
    subst (λ (r : Result Bool SiteFault). ChangesOne (λ was is. SendEnds g.D.Disk c.args.era.now c.args.number c.args.descriptor.now c.args.bytes.now state was is r) c.args.number
    c.args.site.now.store.volumes.items mid.volumes.items) told c.send_to_store.ensures.ends in
    subst (λ (a : List Addition). HoldAll (places (objects_of mid.cat) a) mid.volumes.items) (sym (ap added_in one.by.state_is))
    (held_still g.D.Disk c.args.era.now c.args.number c.args.descriptor.now c.args.bytes.now state c.args.site.now.store mid c.requires.settled c.send_to_store.ensures.cat one)

pub returns-in-Ok-false-clause-votes : goal.returns-in-Ok-false-clause-votes
returns-in-Ok-false-clause-votes g c modelled order =
    let state = state_of c.send_to_store.new.session in
    let mid = c.send_to_store.new.store in
    let new = c.terminate.new.store in
    let P = HasNoRoom g.D.Disk c.args.era.now c.args.number c.args.descriptor.now c.args.bytes.now state in
    let told : c.send_to_store.result ≡ Ok false = cc in
    let one : ChangesOne P c.args.number c.args.site.now.store.volumes.items mid.volumes.items =
    subst (λ (r : Result Bool SiteFault). ChangesOne (λ was is. SendEnds g.D.Disk c.args.era.now c.args.number c.args.descriptor.now c.args.bytes.now state was is r) c.args.number
    c.args.site.now.store.volumes.items mid.volumes.items) told c.send_to_store.ensures.ends in
    lacks_room g.D.Disk modelled (λ it f last. g.met.D.Disk.reads_as it f modelled last) c.args.era.now c.args.number c.args.descriptor.now c.args.bytes.now
    c.args.site.now (record c.args.site.now { store = new }) mid state refl c.send_to_store.ensures.cat order one
    (subst (λ (s : State). Drops g.D.Disk.is_modelled g.D.Disk.bytes s mid.volumes.items new.volumes.items) one.by.state_is c.terminate.ensures.returned)
    c.terminate.ensures.cat (c.terminate.ensures.opened (ap is_broken one.by.state_is))

pub returns-clause-votes : goal.returns-clause-votes
returns-clause-votes g c modelled order =
    let state = state_of c.send_to_store.new.session in
    let mid = c.send_to_store.new.store in
    votes_cut g.D.Disk modelled (λ it f last. g.met.D.Disk.reads_as it f modelled last) c.args.era.now c.args.number c.args.descriptor.now c.args.bytes.now
    c.args.site.now (record c.args.site.now { store = mid }) mid state refl c.send_to_store.ensures.cat c.in-Err.fault c.in-Err.ensures.ends refl

pub returns-in-Ok-true-clause-settled : goal.returns-in-Ok-true-clause-settled
returns-in-Ok-true-clause-settled g c =
    let state = state_of c.send_to_store.new.session in
    let mid = c.send_to_store.new.store in
    let P = IsSentWhole g.D.Disk c.args.era.now c.args.number c.args.descriptor.now c.args.bytes.now state in
    let told : c.send_to_store.result ≡ Ok true = cc in
    let one : ChangesOne P c.args.number c.args.site.now.store.volumes.items mid.volumes.items =
    subst (λ (r : Result Bool SiteFault). ChangesOne (λ was is. SendEnds g.D.Disk c.args.era.now c.args.number c.args.descriptor.now c.args.bytes.now state was is r) c.args.number
    c.args.site.now.store.volumes.items mid.volumes.items) told c.send_to_store.ensures.ends in
    settled_on g.D.Disk c.args.era.now c.args.number c.args.descriptor.now c.args.bytes.now state c.commit_object.new.era c.args.site.now.store mid c.commit_object.new.store
    c.requires.settled c.requires.era c.send_to_store.ensures.cat one c.commit_object.result c.commit_object.ensures.ends

pub returns-in-Ok-true-clause-usable : goal.returns-in-Ok-true-clause-usable
returns-in-Ok-true-clause-usable g c =
    let state = state_of c.send_to_store.new.session in
    let mid = c.send_to_store.new.store in
    let P = IsSentWhole g.D.Disk c.args.era.now c.args.number c.args.descriptor.now c.args.bytes.now state in
    let told : c.send_to_store.result ≡ Ok true = cc in
    let one : ChangesOne P c.args.number c.args.site.now.store.volumes.items mid.volumes.items =
    subst (λ (r : Result Bool SiteFault). ChangesOne (λ was is. SendEnds g.D.Disk c.args.era.now c.args.number c.args.descriptor.now c.args.bytes.now state was is r) c.args.number
    c.args.site.now.store.volumes.items mid.volumes.items) told c.send_to_store.ensures.ends in
    usable_on g.D.Disk c.args.era.now c.args.number c.args.descriptor.now c.args.bytes.now state c.commit_object.new.era c.args.site.now.store mid c.commit_object.new.store
    c.requires.settled c.requires.era c.send_to_store.ensures.cat one c.commit_object.ensures.no_earlier c.commit_object.ensures.key c.commit_object.result c.commit_object.ensures.ends

pub returns-in-Ok-true-clause-order : goal.returns-in-Ok-true-clause-order
returns-in-Ok-true-clause-order g c modelled order =
    let state = state_of c.send_to_store.new.session in
    let mid = c.send_to_store.new.store in
    let P = IsSentWhole g.D.Disk c.args.era.now c.args.number c.args.descriptor.now c.args.bytes.now state in
    let told : c.send_to_store.result ≡ Ok true = cc in
    let one : ChangesOne P c.args.number c.args.site.now.store.volumes.items mid.volumes.items =
    subst (λ (r : Result Bool SiteFault). ChangesOne (λ was is. SendEnds g.D.Disk c.args.era.now c.args.number c.args.descriptor.now c.args.bytes.now state was is r) c.args.number
    c.args.site.now.store.volumes.items mid.volumes.items) told c.send_to_store.ensures.ends in
    order_on g.D.Disk c.args.era.now c.args.number c.args.descriptor.now c.args.bytes.now state c.commit_object.new.era c.args.site.now.store mid c.commit_object.new.store
    c.requires.settled c.requires.era c.send_to_store.ensures.cat one modelled order c.commit_object.result c.commit_object.ensures.ends
