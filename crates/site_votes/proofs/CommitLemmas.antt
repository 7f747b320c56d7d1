-- The vote on a transaction of one object.
use Rattle.std.proofs.Common.{◌≡◌, ℕ, ◌+◌, ◌≤◌, true, false, List, [], ◌∷◌, map, Result, Err, refl, sym, ap, ◌∙◌, subst}
use Rattle.std.proofs.lemmas.Bool.{false≢true}
use Rattle.std.specs.declared.vec.Vec.{Vec}
use Rattle.site_disk.specs.Causes.{Rose}
use Rattle.site_disk.specs.Ledger.{EraView}
use Rattle.site_disk.specs.declared.disk.Disk.{Ghosts}
use Rattle.std.specs.declared.alloc.Global.{Global}
use Rattle.catalogue_replay.specs.Contents.{Contents}
use Rattle.catalogue_journal.specs.Catalogues.{cat_of, ids_from}
use Rattle.catalogue_journal.specs.Transactions.{Addition}
use Rattle.bsa_session.specs.Voting.{added_in, deleted_in, ChangesNothing, Drops}
use Rattle.object_store.specs.Returns.{AllGiveBack, place_of_addition}
use Rattle.object_store.specs.Stores.{IsOpenStore}
use Rattle.object_store.specs.declared.store.Store.{Store}
use Rattle.session_machine.specs.Conditions.{is_broken}
use Rattle.session_machine.specs.Calls.{EndsTxn, AnswersVote}
use Rattle.session_machine.specs.States.{State, Draft}
use Rattle.session_machine.specs.declared.answers.BsaRc.{BsaRc}
use Rattle.session_machine.specs.declared.answers.BsaRc.TheVariants.{Success, InvalidCallSequence, InvalidObjectDescriptor, NoMatch, NoMoreData, ObjectNotFound, InvalidVote, NoResources, AccessFailure, Damaged, OutOfMemory}
use Rattle.session_machine.specs.declared.answers.Lack.TheVariants.{Blocks, Slots, Objects}
use Rattle.session_machine.specs.declared.answers.Access.TheVariants.{Cat, Spare, Volume as VolumeFails, Ends}
use Rattle.site_votes.specs.Objects.{place_for, addition_of, IsSentIn}
use Rattle.site_votes.specs.Sent.{SaysWhy, fault_in_session, says_lack}
use Rattle.site_votes.specs.Voted.{IsGivenUp, IsCutShort, EndsVote}

pub deleted_none : (number : ℕ) (s : State) → IsSentIn number s → deleted_in s ≡ []
deleted_none number s one = ap deleted_in one.is

module _ {D : Type 0} (disk : Ghosts D) (from to : EraView) (mid now : Store D) (number : ℕ) (s : State) (one : IsSentIn number s) where
  module _ (capacity taken : ℕ) (contents : Contents) (new : State) where
    abbrev ids : Draft → List ℕ
    ids draft = ids_from (contents.last + 1) draft.added

    abbrev draft : Draft
    draft = record {
      place = place_for number one.descriptor;
      added = addition_of number one.descriptor one.bytes one.runs ∷ [];
      deleted = [];
    }

    answers : (result : Result (Vec ℕ Global) BsaRc) → EndsTxn 1 capacity taken contents ids s new result → AnswersVote 1 capacity taken contents ids draft new result
    answers result table = subst (λ (t : State). EndsTxn 1 capacity taken contents ids t new result) one.is table

    -- it was refused
    pub vote_refused : (answer : BsaRc) → says_lack answer ≡ true → EndsTxn 1 capacity taken contents ids s new (Err answer)
        → IsGivenUp disk from to (added_in s) mid now → EndsVote disk from to (added_in s) mid now (fault_in_session number answer)
    vote_refused answer lack table given = of answer lack (answers (Err answer) table)
      where
        of : (told : BsaRc) → says_lack told ≡ true → AnswersVote 1 capacity taken contents ids draft new (Err told)
            → EndsVote disk from to (added_in s) mid now (fault_in_session number told)
        of (NoResources Slots) is it = given
        of (NoResources Objects) is it = given
        of (NoResources Blocks) is it = absurd it
        of InvalidVote is it = absurd (false≢true is)
        of (AccessFailure access) is it = absurd (false≢true is)
        of OutOfMemory is it = absurd (false≢true is)
        of Success is it = absurd it
        of InvalidCallSequence is it = absurd it
        of InvalidObjectDescriptor is it = absurd it
        of NoMatch is it = absurd it
        of NoMoreData is it = absurd it
        of ObjectNotFound is it = absurd it
        of (Damaged kept found) is it = absurd it

    -- it was cut short
    pub vote_fails : (answer : BsaRc) → says_lack answer ≡ false → EndsTxn 1 capacity taken contents ids s new (Err answer)
        → IsCutShort disk from to (added_in s) mid now
        → (answer ≡ AccessFailure Cat → Rose (disk.ledger (cat_of mid.cat)).faults (disk.ledger (cat_of now.cat)).faults)
        → SaysWhy answer × EndsVote disk from to (added_in s) mid now (fault_in_session number answer)
    vote_fails answer not_lack table cut rose = of answer refl not_lack (answers (Err answer) table)
      where
        of : (told : BsaRc) → answer ≡ told → says_lack told ≡ false → AnswersVote 1 capacity taken contents ids draft new (Err told)
            → SaysWhy told × EndsVote disk from to (added_in s) mid now (fault_in_session number told)
        of (AccessFailure Cat) so is it = (tt, record { cut = cut; rose = rose so })
        of (AccessFailure Spare) so is it = (tt, cut)
        of OutOfMemory so is it = (tt, cut)
        of (NoResources lack) so is it = absurd (false≢true (sym is))
        of InvalidVote so is it = absurd (it.no_commit refl)
        of (AccessFailure (VolumeFails v)) so is it = absurd it
        of (AccessFailure Ends) so is it = absurd it
        of Success so is it = absurd it
        of InvalidCallSequence so is it = absurd it
        of InvalidObjectDescriptor so is it = absurd it
        of NoMatch so is it = absurd it
        of NoMoreData so is it = absurd it
        of ObjectNotFound so is it = absurd it
        of (Damaged kept found) so is it = absurd it

  -- what is given up where the session ends behind a refusal
  pub gives_up : (kept : Store D) (after : State) → kept ≡ mid → after ≡ s → now.cat ≡ kept.cat → (is_broken after ≡ false → IsOpenStore now)
      → Drops disk.is_modelled disk.bytes after kept.volumes.items now.volumes.items → from.number + 1 ≤ to.number → IsGivenUp disk from to (added_in s) mid now
  gives_up kept after same_store same cat opens drops next = record {
    next = next;
    cat = cat ∙ ap (λ (store : Store D). store.cat) same_store;
    opened = opens (ap is_broken (same ∙ one.is));
    returned = subst (λ (a : List Addition). AllGiveBack disk.is_modelled disk.bytes (map place_of_addition a) mid.volumes.items now.volumes.items) (sym (ap added_in one.is))
        (subst (λ (store : Store D). AllGiveBack disk.is_modelled disk.bytes (map place_of_addition (addition_of number one.descriptor one.bytes one.runs ∷ [])) store.volumes.items now.volumes.items)
        same_store
        (subst (λ (t : State). Drops disk.is_modelled disk.bytes t kept.volumes.items now.volumes.items) (same ∙ one.is) drops));
  }

pub lack_changes : (answer : BsaRc) → says_lack answer ≡ true → ChangesNothing answer
lack_changes (NoResources lack) is = tt
lack_changes Success is = absurd (false≢true is)
lack_changes (AccessFailure access) is = absurd (false≢true is)
lack_changes InvalidCallSequence is = absurd (false≢true is)
lack_changes InvalidObjectDescriptor is = absurd (false≢true is)
lack_changes NoMatch is = absurd (false≢true is)
lack_changes NoMoreData is = absurd (false≢true is)
lack_changes ObjectNotFound is = absurd (false≢true is)
lack_changes InvalidVote is = absurd (false≢true is)
lack_changes (Damaged kept found) is = absurd (false≢true is)
lack_changes OutOfMemory is = absurd (false≢true is)
