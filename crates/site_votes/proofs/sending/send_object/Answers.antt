use Rattle.std.proofs.Common.{◌≡◌, ℕ, ◌≤◌, ◌∙◌, ◌++◌, true, List, [], length, Err, refl, sym, ap, subst, arith}
use Rattle.site_core.proofs.FaultLemmas.{rose_later}
use Rattle.site_disk.specs.Ledger.{MayUse}
use Rattle.object_store.specs.Holdings.{Holds}
use Rattle.object_volume.specs.Volumes.{disk_of, free_of, blocks_in, blocks_sent}
use Rattle.object_volume.specs.declared.volume.Volume.{Volume}
use Rattle.bsa_session.specs.Sessions.{state_of, Suits, Rests, Receives}
use Rattle.session_machine.specs.Calls.{SendsPiece}
use Rattle.session_machine.specs.States.{State, is_sending, new_draft}
use Rattle.session_machine.specs.declared.answers.BsaRc.{BsaRc}
use Rattle.session_machine.specs.declared.answers.BsaRc.TheVariants.{Success}
use Rattle.site_votes.specs.Objects.{place_for, under_way}
use Rattle.site_votes.specs.Sent.{EndsIn, says_lack}
use Rattle.site_votes.proofs.SendLemmas.{piece_lacks, end_ends, sent_whole, for_none, leaves_both, writes_from, may_after}
use Rattle.store_calls.specs.SendingLaws.{writes_again}
use Rattle.site_votes.proofs.sending.send_object.Goals as goal

pub begin_object-requires-clause-state : goal.begin_object-requires-clause-state
begin_object-requires-clause-state g c = record { volume = c.args.number; fits = c.requires.number; is = c.requires.state }

pub returns-then-lacks : goal.returns-then-lacks
returns-then-lacks g c =
    let tells = g.D.Disk.is_modelled in
    let bytes = g.D.Disk.bytes in
    let began = c.begin_object.ensures in
    let was = c.args.volume.now in
    let is = c.send_data.new.volume in
    let same = began.state c.args.number c.requires.state in
    let lacking : says_lack c.send_data.result ≡ true = cc in
    let lack = piece_lacks g.D.Disk c.args.era.now c.args.number c.args.descriptor.now c.args.bytes.now was is (state_of c.send_data.new.self) c.send_data.result
    (state_of c.begin_object.new.session) same c.send_data.ensures.table lacking in
    let untaken = c.send_data.ensures.untaken lack.0 in
    let short = (c.send_data.ensures.store_full (ap is_sending same) [] began.begun).0 lack.0 in
    let receives : Receives tells bytes (new_draft (place_for c.args.number c.args.descriptor.now)) is =
    subst (λ (s : State). Suits tells bytes s is) lack.1 c.send_data.ensures.volume in
    record {
      state_is = lack.1;
      lacks = omega (arith, short, ap (λ (l : List ℕ). length l) began.free);
      suits = c.send_data.ensures.volume;
      same = ap disk_of untaken ∙ began.disk;
      free = ap free_of untaken ∙ began.free;
      taken = ap blocks_sent untaken ∙ began.none_taken;
      holds = λ objects holds. subst (λ (v : Volume g.row.D.Denot). Holds v objects) (sym untaken) (began.holds objects holds);
      blocks = ap blocks_in untaken ∙ began.leaves.blocks;
      opened = receives.opened;
      number_is = receives.number;
    }

pub returns-in-Ok : goal.returns-in-Ok
returns-in-Ok g c =
    let tells = g.D.Disk.is_modelled in
    let bytes = g.D.Disk.bytes in
    let began = c.begin_object.ensures in
    let was = c.args.volume.now in
    let first = c.begin_object.new.volume in
    let mid = c.send_data.new.volume in
    let is = c.end_data.new.volume in
    let begun_state = began.state c.args.number c.requires.state in
    let rests : Rests (new_draft (place_for c.args.number c.args.descriptor.now)) was = subst (λ (s : State). Suits tells bytes s was) c.requires.state c.requires.volume in
    let same : state_of c.send_data.new.self ≡ under_way c.args.number c.args.descriptor.now =
    subst (λ (s : State). SendsPiece s (state_of c.send_data.new.self) Success) begun_state c.in-Success.ensures.table in
    let grows = c.in-Success.ensures.taken [] began.begun refl in
    let may_first = subst (λ (d : g.row.D.Denot). MayUse c.args.era.now (g.D.Disk.ledger d)) (sym began.disk) c.requires.era in
    let may_mid = may_after g.D.Disk c.args.era.now _ _ first mid may_first c.in-Success.ensures.ledger in
    sent_whole g.D.Disk c.args.era.now c.args.number c.args.descriptor.now c.args.bytes.now was is (state_of c.end_data.new.self) mid (state_of c.send_data.new.self) same
    c.in-Ok.ensures.sound c.in-Ok.ensures.volume c.in-Ok.field-0 c.in-Ok.ensures.table c.in-Ok.ensures.sent c.in-Ok.ensures.listed c.in-Ok.ensures.durable c.in-Ok.ensures.holds
    (c.in-Success.ensures.sends [] began.begun refl) c.in-Ok.ensures.free
    (λ modelled. (c.in-Ok.ensures.leaves modelled).blocks ∙ grows.blocks ∙ began.leaves.blocks)
    (λ objects holds. c.in-Success.ensures.holds refl objects (began.holds objects holds))
    grows.taken (grows.counted ∙ for_none (length c.args.bytes.now)) (sym began.free ∙ grows.free) (grows.sent ∙ ap (λ (l : List ℕ). l ++ grows.taken) began.none_taken)
    (λ modelled. writes_again g.D.Disk c.args.era.now.number was mid is
    (leaves_both g.D.Disk was first mid began.leaves (c.in-Success.ensures.leaves modelled refl))
    (writes_from g.D.Disk c.args.era.now.number was first mid began.disk began.free began.none_taken rests.idle (c.in-Success.ensures.crash modelled))
    (c.in-Ok.ensures.crash modelled))
    (may_after g.D.Disk c.args.era.now _ _ mid is may_mid c.in-Ok.ensures.ledger)

pub returns-in-Err : goal.returns-in-Err
returns-in-Err g c =
    let tells = g.D.Disk.is_modelled in
    let bytes = g.D.Disk.bytes in
    let began = c.begin_object.ensures in
    let was = c.args.volume.now in
    let first = c.begin_object.new.volume in
    let mid = c.send_data.new.volume in
    let is = c.end_data.new.volume in
    let begun_state = began.state c.args.number c.requires.state in
    let rests : Rests (new_draft (place_for c.args.number c.args.descriptor.now)) was = subst (λ (s : State). Suits tells bytes s was) c.requires.state c.requires.volume in
    let same : state_of c.send_data.new.self ≡ under_way c.args.number c.args.descriptor.now =
    subst (λ (s : State). SendsPiece s (state_of c.send_data.new.self) Success) begun_state c.in-Success.ensures.table in
    let later : (g.D.Disk.ledger (disk_of was)).faults ≤ (g.D.Disk.ledger (disk_of mid)).faults =
    subst (λ (d : g.row.D.Denot). (g.D.Disk.ledger d).faults ≤ (g.D.Disk.ledger (disk_of mid)).faults) began.disk c.in-Success.ensures.ledger.faults in
    subst (EndsIn g.D.Disk c.args.era.now c.args.number c.args.descriptor.now c.args.bytes.now (state_of c.end_data.new.self) was is) (sym c.session_fault-in-Err.ensures)
    (end_ends g.D.Disk c.args.era.now c.args.number c.args.descriptor.now c.args.bytes.now was is (state_of c.end_data.new.self) c.in-Err.answer (state_of c.send_data.new.self) same
    c.in-Err.ensures.table
    (λ modelled. writes_again g.D.Disk c.args.era.now.number was mid is
    (leaves_both g.D.Disk was first mid began.leaves (c.in-Success.ensures.leaves modelled refl))
    (writes_from g.D.Disk c.args.era.now.number was first mid began.disk began.free began.none_taken rests.idle (c.in-Success.ensures.crash modelled))
    (c.in-Err.ensures.crash modelled))
    (λ v so. rose_later _ _ _ later (c.in-Err.ensures.failed v (ap (λ (e : BsaRc). Err e) so)))).1
