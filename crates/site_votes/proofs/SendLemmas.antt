-- One object that is sent.
use Rattle.std.proofs.Common.{◌≡◌, ℕ, ◌+◌, ◌-◌, ◌≤◌, true, false, IsTrue, List, [], ◌∷◌, ◌++◌, length, take, drop, Some, None, Option, Ok, Err, refl, sym, ap, ◌∙◌, subst, arith}
use Rattle.std.specs.Prelude.{IfSome}
use Rattle.site_disk.specs.Causes.{Rose}
use Rattle.std.proofs.lemmas.Bool.{false≢true}
use Rattle.site_disk.specs.Images.{Leaves, OnlyAfter}
use Rattle.site_disk.specs.Ledger.{EraView, MayUse, Uses}
use Rattle.site_disk.specs.declared.disk.Disk.{Ghosts}
use Rattle.block_chain.specs.Blocks.{blocks_for, blocks_of_runs}
use Rattle.block_chain.specs.declared.runs.Run.{Run}
use Rattle.bsa_descriptor.specs.declared.descriptor.Descriptor.{Descriptor}
use Rattle.bsa_session.specs.Ended.{last_runs, IsSentAs}
use Rattle.bsa_session.specs.Sessions.{LeavesOpen, Rests, Suits}
use Rattle.object_store.specs.Holdings.{Holds}
use Rattle.object_volume.specs.Objects.{Spares, object}
use Rattle.object_volume.specs.Volumes.{disk_of, free_of, blocks_in, blocks_sent, open_blocks, blocks_or_none, table_of, IsIdle, Sends}
use Rattle.object_volume.specs.declared.volume.Volume.{Volume}
use Rattle.sha2.specs.Sha256.{sha256}
use Rattle.session_machine.specs.Calls.{SendsPiece, AnswersPiece, EndsData, AnswersEnd, with_added}
use Rattle.session_machine.specs.Conditions.{IsSound}
use Rattle.session_machine.specs.States.{Draft, State, new_draft, waiting}
use Rattle.session_machine.specs.declared.answers.BsaRc.{BsaRc}
use Rattle.session_machine.specs.declared.answers.BsaRc.TheVariants.{Success, InvalidCallSequence, InvalidObjectDescriptor, NoMatch, NoMoreData, ObjectNotFound, InvalidVote, NoResources, AccessFailure, Damaged, OutOfMemory}
use Rattle.session_machine.specs.declared.answers.Lack.TheVariants.{Blocks, Slots, Objects}
use Rattle.session_machine.specs.declared.answers.Access.TheVariants.{Cat, Spare, Volume as VolumeFails, Ends}
use Rattle.store_calls.specs.Transactions.{WritesFree}
use Rattle.site_votes.specs.Objects.{place_for, under_way, sent}
use Rattle.site_votes.specs.Sent.{SaysWhy, fault_in_session, says_lack, IsSentWhole, EndsIn}

-- blocks

pub blocks_taken : (whole taken left : List ℕ) (count : ℕ) → length taken ≡ count → whole ≡ taken ++ left → (take count whole ≡ taken) × (drop count whole ≡ left) × (count ≤ length whole)
blocks_taken whole [] left count counted is = subst (λ (n : ℕ). (take n whole ≡ []) × (drop n whole ≡ left) × (n ≤ length whole)) counted (refl, is, omega arith)
blocks_taken whole (b ∷ taken) left count counted is =
    let rest = blocks_taken (taken ++ left) taken left (length taken) refl refl in
    subst (λ (n : ℕ). (take n whole ≡ b ∷ taken) × (drop n whole ≡ left) × (n ≤ length whole)) counted
    (subst (λ (w : List ℕ). (take (length (b ∷ taken)) w ≡ b ∷ taken) × (drop (length (b ∷ taken)) w ≡ left) × (length (b ∷ taken) ≤ length w)) (sym is)
    (ap (λ (l : List ℕ). b ∷ l) rest.0, rest.1, omega (arith, rest.2)))

pub for_none : (n : ℕ) → blocks_for (0 + n) - blocks_for 0 ≡ blocks_for n
for_none n = omega arith

-- what was written

module _ {D : Type 0} (disk : Ghosts D) where
  pub idle_none : (volume : Volume D) → IsIdle volume → blocks_sent volume ≡ []
  idle_none volume is = ap (blocks_or_none (table_of volume)) is

  pub leaves_both : (was mid is : Volume D) → LeavesOpen disk.bytes was mid → LeavesOpen disk.bytes mid is → LeavesOpen disk.bytes was is
  leaves_both was mid is first second = record {
    among = λ block some. first.among block (second.among block some);
    blocks = second.blocks ∙ first.blocks;
    no_shorter = (let a = first.no_shorter in let b = second.no_shorter in omega arith);
  }

  -- writes behind a begin are writes behind what was before it
  pub writes_from : (from : ℕ) (was mid is : Volume D) → disk_of mid ≡ disk_of was → free_of mid ≡ free_of was → blocks_sent mid ≡ [] → IsIdle was → WritesFree disk from mid is
      → WritesFree disk from was is
  writes_from from was mid is same free none idle writes =
      subst (λ (open_ones : List ℕ). Leaves from (Spares open_ones (length (disk.bytes (disk_of was)))) (disk.image (disk_of was)) (disk.image (disk_of is))) blocks
      (subst (λ (d : D). Leaves from (Spares (open_blocks mid) (length (disk.bytes d))) (disk.image d) (disk.image (disk_of is))) same writes)
    where
      blocks : open_blocks mid ≡ open_blocks was
      blocks = ap (λ (l : List ℕ). l ++ free_of mid) none ∙ free ∙ ap (λ (l : List ℕ). l ++ free_of was) (sym (idle_none was idle))

  pub may_after : (era : EraView) (reads writes : ℕ) (was is : Volume D) → MayUse era (disk.ledger (disk_of was)) → Uses era reads writes (disk.ledger (disk_of was)) (disk.ledger (disk_of is))
      → MayUse era (disk.ledger (disk_of is))
  may_after era reads writes was is may uses = record { key = uses.key ∙ may.key; not_past = uses.no_later; synced = uses.synced }

module _ {D : Type 0} (disk : Ghosts D) (era : EraView) (number : ℕ) (descriptor : Descriptor) (message : List ℕ) (was is : Volume D) (state : State) where
  -- a piece that wasn't sent
  pub piece_fails : (answer : BsaRc) (old : State) → old ≡ under_way number descriptor → SendsPiece old state answer → (answer ≡ Success → ⊥) → says_lack answer ≡ false
      → (IsTrue disk.is_modelled → WritesFree disk era.number was is)
      → ((v : ℕ) → answer ≡ AccessFailure (VolumeFails v) → Rose (disk.ledger (disk_of was)).faults (disk.ledger (disk_of is)).faults)
      → EndsIn disk era number descriptor message state was is (fault_in_session number answer)
  piece_fails answer old same sends other not_lack writes failed = of answer refl not_lack (subst (λ (s : State). SendsPiece s state answer) same sends)
    where
      of : (told : BsaRc) → answer ≡ told → says_lack told ≡ false → AnswersPiece (new_draft (place_for number descriptor)) descriptor state told
          → EndsIn disk era number descriptor message state was is (fault_in_session number told)
      of Success so not it = absurd (other so)
      of (NoResources lack) so not it = absurd (false≢true (sym not))
      of (AccessFailure (VolumeFails v)) so not it = record { named_is = it.named; cut = record { writes = writes }; rose = failed v so }
      of (AccessFailure Cat) so not it = absurd it
      of (AccessFailure Spare) so not it = absurd it
      of (AccessFailure Ends) so not it = absurd it
      of InvalidCallSequence so not it = absurd it
      of InvalidObjectDescriptor so not it = absurd it
      of NoMatch so not it = absurd it
      of NoMoreData so not it = absurd it
      of ObjectNotFound so not it = absurd it
      of InvalidVote so not it = absurd it
      of (Damaged kept found) so not it = absurd it
      of OutOfMemory so not it = absurd it

  -- a piece for which blocks are lacking
  pub piece_lacks : (answer : BsaRc) (old : State) → old ≡ under_way number descriptor → SendsPiece old state answer → says_lack answer ≡ true
      → (answer ≡ NoResources Blocks) × (state ≡ under_way number descriptor)
  piece_lacks answer old same sends lack = of answer refl lack (subst (λ (s : State). SendsPiece s state answer) same sends)
    where
      of : (told : BsaRc) → answer ≡ told → says_lack told ≡ true → AnswersPiece (new_draft (place_for number descriptor)) descriptor state told
          → (answer ≡ NoResources Blocks) × (state ≡ under_way number descriptor)
      of (NoResources Blocks) so is it = (so, it)
      of (NoResources Slots) so is it = absurd it
      of (NoResources Objects) so is it = absurd it
      of Success so is it = absurd (false≢true is)
      of (AccessFailure access) so is it = absurd (false≢true is)
      of InvalidCallSequence so is it = absurd it
      of InvalidObjectDescriptor so is it = absurd it
      of NoMatch so is it = absurd it
      of NoMoreData so is it = absurd it
      of ObjectNotFound so is it = absurd it
      of InvalidVote so is it = absurd it
      of (Damaged kept found) so is it = absurd it
      of OutOfMemory so is it = absurd it

  -- an object whose end was cut short
  pub end_ends : (answer : BsaRc) (old : State) → old ≡ under_way number descriptor → EndsData old state (Err answer)
      → (IsTrue disk.is_modelled → WritesFree disk era.number was is)
      → ((v : ℕ) → answer ≡ AccessFailure (VolumeFails v) → Rose (disk.ledger (disk_of was)).faults (disk.ledger (disk_of is)).faults)
      → SaysWhy answer × EndsIn disk era number descriptor message state was is (fault_in_session number answer)
  end_ends answer old same ends writes failed = of answer refl (subst (λ (s : State). EndsData s state (Err answer)) same ends)
    where
      of : (told : BsaRc) → answer ≡ told → AnswersEnd (new_draft (place_for number descriptor)) descriptor state (Err told)
          → SaysWhy told × EndsIn disk era number descriptor message state was is (fault_in_session number told)
      of (AccessFailure (VolumeFails v)) so it = (tt, record { named_is = it.named; cut = record { writes = writes }; rose = failed v so })
      of OutOfMemory so it = (tt, record { writes = writes })
      of Success so it = absurd it
      of (NoResources lack) so it = absurd it
      of (AccessFailure Cat) so it = absurd it
      of (AccessFailure Spare) so it = absurd it
      of (AccessFailure Ends) so it = absurd it
      of InvalidCallSequence so it = absurd it
      of InvalidObjectDescriptor so it = absurd it
      of NoMatch so it = absurd it
      of NoMoreData so it = absurd it
      of ObjectNotFound so it = absurd it
      of InvalidVote so it = absurd it
      of (Damaged kept found) so it = absurd it

  abbrev draft_with : ℕ → List ℕ → List Run → Draft
  draft_with size digest runs = with_added (new_draft (place_for number descriptor)) (record { volume = number; size = size; digest = digest; runs = runs; descriptor = descriptor })

  -- an object that was ended
  module _ (mid : Volume D) (old : State) (same : old ≡ under_way number descriptor) (sound : IsSound state) (suits : Suits disk.is_modelled disk.bytes state is) where
    pub sent_whole : (ended : Option (ℕ × List ℕ)) → EndsData old state (Ok ended)
        → IfSome ended (λ sent. (told : List ℕ) → Sends disk.is_modelled disk.bytes mid told
        → IsSentAs disk.is_modelled (disk.bytes (disk_of is)) told (last_runs state) sent.0 sent.1)
        → IfSome ended (λ sent. blocks_of_runs (last_runs state) ≡ blocks_sent mid)
        → (IsTrue disk.is_modelled → IfSome ended (λ sent. OnlyAfter era.number (disk.bytes (disk_of is)) (disk.image (disk_of is))))
        → IfSome ended (λ sent. (objects : List (List Run)) → Holds mid objects → Holds is (last_runs state ∷ objects))
        → Sends disk.is_modelled disk.bytes mid message → free_of is ≡ free_of mid → (IsTrue disk.is_modelled → blocks_in is ≡ blocks_in was)
        → ((objects : List (List Run)) → Holds was objects → Holds mid objects)
        → (taken : List ℕ) → length taken ≡ blocks_for (length message) → free_of was ≡ taken ++ free_of mid → blocks_sent mid ≡ taken
        → (IsTrue disk.is_modelled → WritesFree disk era.number was is) → MayUse era (disk.ledger (disk_of is))
        → IsSentWhole disk era number descriptor message state was is
    sent_whole ended table sent_as listed durable holds sends free blocks held taken counted whole own writes may =
        of ended (subst (λ (s : State). EndsData s state (Ok ended)) same table) sent_as listed durable holds
      where
        of : (ended_as : Option (ℕ × List ℕ)) → AnswersEnd (new_draft (place_for number descriptor)) descriptor state (Ok ended_as)
            → IfSome ended_as (λ sent. (told : List ℕ) → Sends disk.is_modelled disk.bytes mid told
            → IsSentAs disk.is_modelled (disk.bytes (disk_of is)) told (last_runs state) sent.0 sent.1)
            → IfSome ended_as (λ sent. blocks_of_runs (last_runs state) ≡ blocks_sent mid)
            → (IsTrue disk.is_modelled → IfSome ended_as (λ sent. OnlyAfter era.number (disk.bytes (disk_of is)) (disk.image (disk_of is))))
            → IfSome ended_as (λ sent. (objects : List (List Run)) → Holds mid objects → Holds is (last_runs state ∷ objects))
            → IsSentWhole disk era number descriptor message state was is
        of None it sent_there listed_there durable_there holds_there = absurd it
        of (Some told) it sent_there listed_there durable_there holds_there =
            let it_is = sent_there message sends in
            let last : last_runs state ≡ it.runs = ap last_runs it.state in
            let split = blocks_taken (free_of was) taken (free_of mid) (blocks_for (length message)) counted whole in
            let state_is : state ≡ sent number descriptor message it.runs =
            subst (λ (n : ℕ). state ≡ waiting (draft_with n (sha256 message) it.runs)) it_is.size_is
            (subst (λ (digest : List ℕ). state ≡ waiting (draft_with told.0 digest it.runs)) it_is.digest_is it.state) in
            let rests : Rests (draft_with (length message) (sha256 message) it.runs) is = subst (λ (s : State). Suits disk.is_modelled disk.bytes s is) state_is suits in
            record {
              runs = it.runs;
              state_is = state_is;
              sound = sound;
              room = split.2;
              maximal = it.fit.maximal;
              stands = ap blocks_of_runs (sym last) ∙ listed_there ∙ own ∙ sym split.0;
              left = free ∙ sym split.1;
              reads = λ tells. subst (λ (r : List Run). object r (length message) (disk.bytes (disk_of is)) ≡ message) last
                  (subst (λ (n : ℕ). object (last_runs state) n (disk.bytes (disk_of is)) ≡ message) it_is.size_is (it_is.reads tells));
              durable = λ tells. durable_there tells;
              writes = writes;
              holds = λ objects was_held. subst (λ (r : List Run). Holds is (r ∷ objects)) last (holds_there objects (held objects was_held));
              blocks = blocks;
              opened = rests.opened;
              number_is = rests.number;
              idle = rests.idle;
              may = may;
            }
