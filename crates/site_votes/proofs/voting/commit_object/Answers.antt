use Rattle.std.proofs.Common.{◌≡◌, ℕ, ◌+◌, false, List, Err, refl, sym, ap, subst}
use Rattle.catalogue_journal.specs.Catalogues.{cat_of, spare_of, capacity_of, used_of, contents_in}
use Rattle.catalogue_journal.specs.Commits.{Ends}
use Rattle.catalogue_journal.specs.Transactions.{ended, slots_wanted}
use Rattle.bsa_session.specs.Sessions.{state_of}
use Rattle.bsa_session.specs.Voting.{added_in}
use Rattle.session_machine.specs.declared.answers.BsaRc.{BsaRc}
use Rattle.site_votes.specs.Sent.{says_lack}
use Rattle.site_votes.specs.Voted.{EndsVote}
use Rattle.site_votes.proofs.CommitLemmas.{deleted_none, vote_fails}
use Rattle.site_votes.proofs.voting.commit_object.Goals as goal

pub returns-else-lacks-clause-ends : goal.returns-else-lacks-clause-ends
returns-else-lacks-clause-ends g c =
    let mid = c.args.store.now in
    let now = c.end_txn.new.store in
    let s = state_of c.args.session.now in
    let not_lack : says_lack c.in-Err.answer ≡ false = cc in
    subst (EndsVote g.D.Disk c.args.era.now c.end_txn.new.era (added_in s) mid now) (sym c.session_fault-in-Err.ensures)
    (vote_fails g.D.Disk c.args.era.now c.end_txn.new.era mid now c.args.number s c.requires.one (capacity_of mid.cat) (used_of mid.cat) (contents_in mid.cat)
    (state_of c.end_txn.new.self) c.in-Err.answer not_lack c.in-Err.ensures.table
    (record {
      may = record {
        spare = c.in-Err.ensures.spare;
        ends = λ modelled stands.
            subst (λ (l : List ℕ). Ends (c.args.era.now.number + 1) (capacity_of mid.cat) (slots_wanted l (added_in s)) (contents_in mid.cat) (ended l (added_in s) (contents_in mid.cat))
            (g.D.Disk.image (cat_of mid.cat)) (g.D.Disk.image (spare_of mid.cat)) (g.D.Disk.image (cat_of now.cat)) (g.D.Disk.image (spare_of now.cat)))
            (deleted_none c.args.number s c.requires.one) (c.in-Err.ensures.ends refl modelled stands);
      };
      volumes = c.in-Err.ensures.volumes;
    })
    (λ so. c.in-Err.ensures.failed (ap (λ (e : BsaRc). Err e) so))).1
