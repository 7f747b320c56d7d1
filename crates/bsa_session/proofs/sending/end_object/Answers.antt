use Rattle.std.proofs.Common.{◌≡◌, List, ◌∷◌, map, refl, sym, ap, ◌∙◌, subst}
use Rattle.std.proofs.lemmas.List.{map_push}
use Rattle.block_chain.specs.Blocks.{AreRunsOf, blocks_of_runs}
use Rattle.block_chain.specs.declared.runs.Run.{Run}
use Rattle.catalogue_journal.specs.Views.{addition_of}
use Rattle.object_volume.specs.Objects.{object}
use Rattle.bsa_session.specs.Ended.{runs_of_last}
use Rattle.object_store.specs.Holdings.{Holds}
use Rattle.bsa_session.proofs.HoldingLemmas.{holds_ended, idle_sends}
use Rattle.bsa_session.proofs.OpenLemmas.{leaves_free}
use Rattle.bsa_session.proofs.SendingLemmas.{runs_of_last-push}
use Rattle.bsa_session.proofs.sending.end_object.Goals as goal
use Rattle.bsa_session.proofs.sending.end_object.Goals.{in-Ok-push, in-Err}

pub returns-clause-added : goal.returns-clause-added
returns-clause-added g c =
    let sent = c.in-Ok.sent in
    let described = c.in-Ok.ensures.sent c.requires.begun.message c.requires.begun.sends in
    elim c.match-push.branch [
      | in-Ok-push w ↦
          rw (w.result-is)
          (record {
            runs = sent.runs.items;
            fit = subst (AreRunsOf sent.runs.items) (sym described.size) described.runs;
            added = ap (map addition_of) w.in-Ok-push.ensures.items ∙ map_push addition_of c.args.transaction.now.staged.add.items _;
            deleted = refl;
            place = refl;
            work = refl;
          })
      | in-Err w ↦ rw (w.result-is) tt
    ]

pub returns-clause-sent : goal.returns-clause-sent
returns-clause-sent g c =
    let sent = c.in-Ok.sent in
    elim c.match-push.branch [
      | in-Ok-push w ↦
          let added = ap (map addition_of) w.in-Ok-push.ensures.items ∙ map_push addition_of c.args.transaction.now.staged.add.items _ in
          let last = ap runs_of_last added ∙ runs_of_last-push (map addition_of c.args.transaction.now.staged.add.items) _ in
          rw (w.result-is)
          (λ message sends.
          let described = c.in-Ok.ensures.sent message sends in
          record {
            size_is = described.size;
            digest_is = described.digest;
            reads = λ tells. subst (λ (runs : List Run). object runs sent.size (g.D.Disk.bytes c.end.new.self.disk) ≡ message) (sym last) (c.in-Ok.ensures.stands tells message sends);
          })
      | in-Err w ↦ rw (w.result-is) tt
    ]

pub returns-clause-holds : goal.returns-clause-holds
returns-clause-holds g c =
    let sent = c.in-Ok.sent in
    elim c.match-push.branch [
      | in-Ok-push w ↦
          let added = ap (map addition_of) w.in-Ok-push.ensures.items ∙ map_push addition_of c.args.transaction.now.staged.add.items _ in
          let last = ap runs_of_last added ∙ runs_of_last-push (map addition_of c.args.transaction.now.staged.add.items) _ in
          rw (w.result-is)
          (λ objects holds.
          subst (λ (runs : List Run). Holds c.end.new.self (runs ∷ objects)) (sym last)
          (holds_ended c.args.volume.now c.end.new.self sent.runs.items objects (λ runs live. c.in-Ok.ensures.others runs live) c.in-Ok.ensures.live c.in-Ok.ensures.blocks
          c.in-Ok.ensures.free c.in-Ok.ensures.idle c.in-Ok.ensures.listed holds))
      | in-Err w ↦ rw (w.result-is) tt
    ]

pub returns-clause-leaves : goal.returns-clause-leaves
returns-clause-leaves g c tells =
    elim c.match-push.branch [
      | in-Ok-push w ↦
          rw (w.result-is)
          (leaves_free g.D.Disk.bytes c.args.volume.now c.end.new.self c.in-Ok.ensures.free (idle_sends c.end.new.self c.in-Ok.ensures.idle) c.in-Ok.ensures.blocks
          (c.in-Ok.ensures.spared tells).no_shorter)
      | in-Err w ↦ rw (w.result-is) tt
    ]

pub returns-clause-listed : goal.returns-clause-listed
returns-clause-listed g c =
    elim c.match-push.branch [
      | in-Ok-push w ↦
          let added = ap (map addition_of) w.in-Ok-push.ensures.items ∙ map_push addition_of c.args.transaction.now.staged.add.items _ in
          let last = ap runs_of_last added ∙ runs_of_last-push (map addition_of c.args.transaction.now.staged.add.items) _ in
          rw (w.result-is)
          (ap blocks_of_runs last ∙ c.in-Ok.ensures.listed)
      | in-Err w ↦ rw (w.result-is) tt
    ]
