use Rattle.std.proofs.Common.{◌≡◌, ℕ, List, ap, sym, ◌∙◌, subst, Option}
use Rattle.std.proofs.lemmas.Option.{same_Some}
use Rattle.block_chain.specs.Blocks.{AreApart, blocks_of_runs}
use Rattle.block_chain.specs.Table.{Table, blocks_of, IsListOf, AreListed}
use Rattle.object_volume.specs.declared.sending.Sending.{Sending}
use Rattle.object_volume.specs.Sending.{IsSent}
use Rattle.object_volume.specs.Volumes.{blocks_or_none}
use Rattle.block_chain.specs.BlocksLaws.{apart_back}
use Rattle.object_volume.proofs.VolumeLemmas.{same_table, kept_listed, kept_sent, kept_is_sent}
use Rattle.object_volume.proofs.volume.Volume.release.Goals as goal

pub returns-clause-sends : goal.returns-clause-sends
returns-clause-sends g c message s =
    let old = c.in-Some.chains in
    let volume = c.args.self.now in
    let own = blocks_of old c.list_of-list.result in
    let e = same_table volume.chains old c.in-Some.is in
    let apart : AreApart own (blocks_or_none old volume.object) =
    subst (λ (l : List ℕ). AreApart l (blocks_or_none old volume.object)) (sym c.list_of-list.ensures.list)
    (apart_back (blocks_or_none old volume.object) (blocks_of_runs c.args.runs.now) (subst (λ (t : Table). AreApart (blocks_or_none t volume.object) (blocks_of_runs c.args.runs.now)) e c.requires.live.apart)) in
    record {
      object = s.object;
      begun = s.begun;
      sent = kept_is_sent old c.give_back.new.self own c.give_back.ensures.others
          (subst (λ (t : Table). IsSent g.D.Disk.is_modelled (g.D.Disk.bytes volume.disk) t s.object volume.part message) e s.sent)
          (subst (λ (x : Option Sending). AreApart own (blocks_or_none old x)) s.begun apart);
    }

pub returns-clause-sent : goal.returns-clause-sent
returns-clause-sent g c =
    let old = c.in-Some.chains in
    let volume = c.args.self.now in
    let own = blocks_of old c.list_of-list.result in
    let e = same_table volume.chains old c.in-Some.is in
    let apart : AreApart own (blocks_or_none old volume.object) =
    subst (λ (l : List ℕ). AreApart l (blocks_or_none old volume.object)) (sym c.list_of-list.ensures.list)
    (apart_back (blocks_or_none old volume.object) (blocks_of_runs c.args.runs.now) (subst (λ (t : Table). AreApart (blocks_or_none t volume.object) (blocks_of_runs c.args.runs.now)) e c.requires.live.apart)) in
    let same : c.requires.opened.table ≡ old = same_Some c.requires.opened.table old (sym c.requires.opened.opened ∙ c.in-Some.is) in
    kept_sent old c.give_back.new.self own c.give_back.ensures.others volume.object
    (λ o is. subst (λ (t : Table). IsListOf t o.list) same (c.requires.opened.own o is)) apart
    ∙ ap (λ (t : Table). blocks_or_none t volume.object) (sym e)

pub returns-clause-live : goal.returns-clause-live
returns-clause-live g c others is apart =
    let old = c.in-Some.chains in
    let volume = c.args.self.now in
    let own = blocks_of old c.list_of-list.result in
    let e = same_table volume.chains old c.in-Some.is in
    record {
      listed = kept_listed old c.give_back.new.self own c.give_back.ensures.others (blocks_of_runs others) (subst (λ (t : Table). AreListed t (blocks_of_runs others)) e is.listed)
          (subst (λ (l : List ℕ). AreApart l (blocks_of_runs others)) (sym c.list_of-list.ensures.list) apart);
      apart = subst (λ (l : List ℕ). AreApart l (blocks_of_runs others)) (sym (returns-clause-sent g c)) is.apart;
    }
