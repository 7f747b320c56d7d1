-- The vote on one object as a call of a site.
use Rattle.std.proofs.Common.{◌≡◌, ℕ, suc, ◌+◌, ◌<◌, ◌≤◌, IsTrue, true, List, [], ◌∷◌, length, take, Option, None, Some, Result, Ok, Err, refl, sym, ap, ◌∙◌, subst, arith, ⊎_elim}
use Rattle.std.specs.Prelude.{slice_get}
use Rattle.std.proofs.lemmas.Option.{slice_get_within}
use Rattle.std.specs.declared.vec.Vec.{Vec}
use Rattle.std.specs.declared.alloc.Global.{Global}
use Rattle.site_disk.specs.Images.{OnlyAfter, Leaves}
use Rattle.site_disk.specs.ImagesLaws.{begins}
use Rattle.site_disk.specs.Ledger.{EraView}
use Rattle.site_disk.specs.Seen.{seen}
use Rattle.site_disk.specs.declared.disk.Disk.{Ghosts}
use Rattle.block_chain.specs.Blocks.{blocks_for}
use Rattle.block_chain.specs.declared.runs.Run.{Run}
use Rattle.bsa_descriptor.specs.declared.descriptor.Descriptor.{Descriptor}
use Rattle.catalogue_replay.specs.Contents.{Contents}
use Rattle.catalogue_journal.specs.Catalogues.{cat_of, spare_of, capacity_of, used_of, contents_in, Stands}
use Rattle.catalogue_journal.specs.Commits.{Ends}
use Rattle.catalogue_journal.specs.Transactions.{Addition, object_with, ended, slots_wanted}
use Rattle.catalogue_journal.specs.declared.catalogue.Catalogue.{Catalogue}
use Rattle.bsa_session.specs.Voting.{added_in, DropsSent}
use Rattle.object_store.specs.Reading.{ChangesOne}
use Rattle.object_store.specs.Stores.{IsOpenStore}
use Rattle.object_store.specs.declared.store.Store.{Store}
use Rattle.object_store.proofs.ReturnLemmas.{one_value, slice_get-set_same}
use Rattle.object_volume.specs.Objects.{Spares, object}
use Rattle.object_volume.specs.ObjectsLaws.{spares_none}
use Rattle.object_volume.specs.Volumes.{disk_of, free_of, open_blocks}
use Rattle.object_volume.specs.declared.volume.Volume.{Volume}
use Rattle.session_machine.specs.States.{State, new_draft}
use Rattle.walks.specs.Courses.{Call, Does, only}
use Rattle.site_worlds.specs.Worlds.{Kept}
use Rattle.site_courses.specs.Faults.{Fault, cuts, store_full, catalogue_full, too_many_objects, cut_short}
use Rattle.site_courses.specs.NewObjects.{free_blocks, new_runs}
use Rattle.site_layouts.specs.Stages.{site_stage, HeldSite}
use Rattle.site_layouts.specs.Stores.{contents_of}
use Rattle.site_core.specs.Calls.{CallFrom}
use Rattle.site_core.specs.Layers.{layers}
use Rattle.site_core.specs.declared.site.Site.{Site as Values}
use Rattle.store_calls.specs.SendLaws.{there_too}
use Rattle.store_calls.specs.SendingLaws.{one_is_sent}
use Rattle.store_calls.specs.SessionLaws.{session_agrees}
use Rattle.store_calls.specs.Transactions.{ReadsAsImages, WritesFree, OnlySends, Transacts, AgreesBehind}
use Rattle.store_calls.specs.VoteCalls.{sends_ends, sends_fails, transaction_done, transaction_fails}
use Rattle.store_opening.specs.Disks.{EachFrom}
use Rattle.store_opening.specs.Standing.{Agrees, FreeInOrder, IsSettled}
use Rattle.site_votes.specs.Objects.{place_for, addition_of, new_object, commit_in, vote_course, MayVoteOn}
use Rattle.site_core.specs.declared.faults.SiteFault.{SiteFault}
use Rattle.site_core.specs.declared.faults.SiteFault.TheVariants.{OutOfMemory, DiskFault, NotFormatted, AlreadyFormatted, BadRecord, NeedsRestart, NoSuchSpace, NoSuchPage, ChunkLost, LogLost, LogFull, StoreFull, CatalogueFull, TooManyObjects, BootFull}
use Rattle.site_model.specs.declared.disk_name.DiskName.TheVariants.{Cat, Spare, Boot, Log, Volume as VolumeOf, Chunk}
use Rattle.site_votes.specs.Sent.{IsSentWhole, HasNoRoom, FailsOnVolume, IsCutIn, EndsIn}
use Rattle.site_votes.specs.Stores.{MayUseStore, Votes}
use Rattle.site_votes.specs.Voted.{MayHaveCommitted, IsCommitted, IsGivenUp, IsCutShort, VoteEnds}
use Rattle.site_votes.proofs.OrderLemmas.{new_runs_some, new_runs_none, free_is}
use Rattle.site_votes.proofs.StoreLemmas.{OneOf, each_of_one, Stays, agrees_still, given_up, no_room, has_sent}

module _ {D : Type 0} (disk : Ghosts D) where
  -- nothing was written on a volume whose disk is the same
  pub quiet : (from : ℕ) (was is : Volume D) → disk_of is ≡ disk_of was → WritesFree disk from was is
  quiet from was is same =
      subst (λ (d : D). Leaves from (Spares (open_blocks was) (length (disk.bytes (disk_of was)))) (disk.image (disk_of was)) (disk.image d)) (sym same)
      (begins (Spares (open_blocks was) (length (disk.bytes (disk_of was)))) (Spares (open_blocks was) (length (disk.bytes (disk_of was)))) from
      (disk.image (disk_of was)) (disk.image (disk_of was)) (disk.image (disk_of was))
      (λ file. spares_none (open_blocks was) (length (disk.bytes (disk_of was))) file))

  -- the disks of the volumes are those
  abbrev pub SameDisks : List (Volume D) → List (Volume D) → Type 0
  SameDisks mid new = EachFrom (λ place was is. disk_of is ≡ disk_of was) mid new

  pub same_disks : (mid new : List (Volume D)) → new ≡ mid → SameDisks mid new
  same_disks mid new same = record {
    count = ap length same;
    each = λ place was is before behind. ap disk_of (one_value mid place is was (subst (λ (l : List (Volume D)). slice_get l place ≡ Some is) same behind) before);
  }

  module _ (era : EraView) (P : Volume D → Volume D → Type 0) (number : ℕ) (old mid new : List (Volume D))
      (writes : (was is : Volume D) → P was is → WritesFree disk era.number was is) (one : ChangesOne P number old mid) (same : SameDisks mid new) where
    -- one volume was written
    pub one_written : EachFrom (λ place was is. WritesFree disk era.number was is) old new
    one_written = record { count = same.count ∙ changed.count; each = each }
      where
        changed : EachFrom (OneOf P number) old mid
        changed = each_of_one P number old mid one

        each : (place : ℕ) (was is : Volume D) → slice_get old place ≡ Some was → slice_get new place ≡ Some is → WritesFree disk era.number was is
        each place was is before behind =
            let between = there_too mid new place is same.count behind in
            let here = same.each place between.0 is between.1 behind in
            ⊎_elim
            (λ it. subst (λ (d : D). Leaves era.number (Spares (open_blocks was) (length (disk.bytes (disk_of was)))) (disk.image (disk_of was)) (disk.image d)) (sym here)
            (writes was between.0 it.1))
            (λ other. quiet era.number was is (here ∙ ap disk_of other.1))
            (changed.each place was between.0 before between.1)

module _ {D : Type 0} (disk : Ghosts D) (tells : IsTrue disk.is_modelled) (reads : ReadsAsImages disk) (era : EraView) (number : ℕ) (descriptor : Descriptor) (message : List ℕ)
    (old new : Values D) (mid : Store D) (state : State) (others : new ≡ record old { store = new.store }) (cat : mid.cat ≡ old.store.cat) where
  by_cat : (P : Catalogue D → Type 0) → P old.store.cat → P mid.cat
  by_cat P it = subst P (sym cat) it

  from_cat : (P : Catalogue D → Type 0) → P mid.cat → P old.store.cat
  from_cat P it = subst P cat it

  -- where it failed before the vote

  pub cut_in_sending : (P : Volume D → Volume D → Type 0) → ((was is : Volume D) → P was is → WritesFree disk era.number was is)
      → ChangesOne P number old.store.volumes.items mid.volumes.items → new.store ≡ mid → (fault : Fault) → cuts fault ≡ true
      → CallFrom (site_stage (layers disk)) (MayVoteOn number descriptor message) 0 era.number era.number old new (vote_course number descriptor message) (Some fault)
  cut_in_sending P writes one same fault cuts_it opened at enough stands may =
      sends_fails disk reads era.number old new sends era.number (vote_course number descriptor message) fault (omega arith) cuts_it opened at enough stands
    where
      new_cat : new.store.cat ≡ old.store.cat
      new_cat = ap (λ (s : Store D). s.cat) same ∙ cat

      sends : OnlySends disk era.number old new
      sends = record {
        works = record {
          others = others;
          spare = ap spare_of new_cat;
          volumes = one_written disk era P number old.store.volumes.items mid.volumes.items new.store.volumes.items writes one
              (same_disks disk mid.volumes.items new.store.volumes.items (ap (λ (s : Store D). s.volumes.items) same));
        };
        catalogue = λ f bytes image. subst (λ (c : Catalogue D). disk.image (cat_of c) f bytes) new_cat image;
      }

  -- where the volume lacked the room

  module _ (order : FreeInOrder old.store)
      (one : ChangesOne (HasNoRoom disk era number descriptor message state) number old.store.volumes.items mid.volumes.items)
      (drops : DropsSent disk.is_modelled disk.bytes (new_draft (place_for number descriptor)) mid.volumes.items new.store.volumes.items)
      (new_cat : new.store.cat ≡ mid.cat) (opened_then : IsOpenStore new.store) where
    each_stays : EachFrom (λ place was is. Stays disk era.number era.number was is × (disk_of is ≡ disk_of was)) old.store.volumes.items new.store.volumes.items
    each_stays = no_room disk era number descriptor message state old.store.volumes.items mid.volumes.items new.store.volumes.items one drops

    only_begun : OnlySends disk era.number old new
    only_begun = record {
      works = record {
        others = others;
        spare = ap spare_of (new_cat ∙ cat);
        volumes = record {
          count = each_stays.count;
          each = λ place was is before behind. quiet disk era.number was is (each_stays.each place was is before behind).1;
        };
      };
      catalogue = λ f bytes image. subst (λ (c : Catalogue D). disk.image (cat_of c) f bytes) (new_cat ∙ cat) image;
    }

    pub lacks_room : CallFrom (site_stage (layers disk)) (MayVoteOn number descriptor message) 0 era.number era.number old new (vote_course number descriptor message)
        (Some (store_full number))
    unfolding site_stage
    lacks_room opened at enough stands may =
        subst (λ (o : Option (List Run)). Does (site_stage (layers disk)) opened era.number era.number old new at (commit_in number descriptor message o at.site) (Some (store_full number)))
        (sym none)
        (sends_ends disk reads era.number old new only_begun era.number (Some (store_full number)) (omega arith)
        (agrees_still disk era.number era.number old.store new.store (omega arith) (new_cat ∙ cat) opened_then (record {
          count = each_stays.count;
          each = λ place was is before behind. (each_stays.each place was is before behind).0;
        }))
        opened at enough stands)
      where
        agrees : Agrees disk era.number old.store (contents_of at.site.store) at.site.store.used at.site.head
        agrees = stands.agree.store

        none : new_runs at.site number (length message) ≡ None
        none = new_runs_none at.site number (length message)
            (subst (λ (l : List ℕ). length l < blocks_for (length message)) (free_is disk era.number old.store at.site number one.was agrees order one.there) one.by.lacks)

  -- where the object was sent, and voted on

  module _ (settled : IsSettled old.store) (may_use : MayUseStore disk era old.store)
      (one : ChangesOne (IsSentWhole disk era number descriptor message state) number old.store.volumes.items mid.volumes.items) where
    abbrev runs : List Run
    runs = one.by.runs

    abbrev additions : List Addition
    additions = addition_of number descriptor message runs ∷ []

    written : (was is : Volume D) → IsSentWhole disk era number descriptor message state was is → WritesFree disk era.number was is
    written was is it = it.writes tells

    -- where the vote was refused
    module _ (to : EraView) (given : IsGivenUp disk era to additions mid new.store) where
      only_sent : OnlySends disk era.number old new
      only_sent = record {
        works = record {
          others = others;
          spare = ap spare_of (given.cat ∙ cat);
          volumes = one_written disk era (IsSentWhole disk era number descriptor message state) number old.store.volumes.items mid.volumes.items new.store.volumes.items written one
              (record { count = given.returned.count; each = λ place was is before behind. (given.returned.each place was is before behind).disk });
        };
        catalogue = λ f bytes image. subst (λ (c : Catalogue D). disk.image (cat_of c) f bytes) (given.cat ∙ cat) image;
      }

      pub refused_vote : (fault : Option Fault) → Call (site_stage (layers disk)) 0 era.number to.number old new (λ site. only fault) fault
      refused_vote fault =
          let next = given.next in
          sends_ends disk reads era.number old new only_sent to.number fault (omega (arith, next))
          (agrees_still disk era.number to.number old.store new.store (omega (arith, next)) (given.cat ∙ cat) given.opened
          (given_up disk era number descriptor message state tells to.number (omega (arith, next)) old.store.volumes.items mid.volumes.items new.store.volumes.items one given.returned))

    -- where it was begun
    module _ (order : FreeInOrder old.store) (to : EraView) (committed : MayHaveCommitted disk era to additions mid new.store)
        (same : SameDisks disk mid.volumes.items new.store.volumes.items) where
      module _ (opened : ℕ) (at : HeldSite) (agrees : Agrees disk era.number old.store (contents_of at.site.store) at.site.store.used at.site.head) where
        abbrev added : List Kept
        added = new_object number descriptor message runs at.site ∷ []

        runs_are : new_runs at.site number (length message) ≡ Some runs
        runs_are = new_runs_some at.site number (length message) runs
            (subst (λ (l : List ℕ). blocks_for (length message) ≤ length l) free one.by.room) one.by.maximal
            (one.by.stands ∙ ap (λ (l : List ℕ). take (blocks_for (length message)) l) free)
          where
            free : free_of one.was ≡ free_blocks at.site number
            free = free_is disk era.number old.store at.site number one.was agrees order one.there

        last_is : (contents_in old.store.cat).last ≡ at.site.store.last
        last_is = ap (λ (c : Contents). c.last) agrees.contents_are

        sent_there : (volume : Volume D) → slice_get new.store.volumes.items number ≡ Some volume
            → (object runs (length message) (disk.bytes (disk_of volume)) ≡ message) × OnlyAfter era.number (disk.bytes (disk_of volume)) (disk.image (disk_of volume))
        sent_there volume there =
            let lt = slice_get_within old.store.volumes.items number one.was one.there in
            let set : slice_get mid.volumes.items number ≡ Some one.is =
            ap (λ (l : List (Volume D)). slice_get l number) one.changed ∙ slice_get-set_same old.store.volumes.items number one.is lt in
            subst (λ (d : D). (object runs (length message) (disk.bytes d) ≡ message) × OnlyAfter era.number (disk.bytes d) (disk.image d))
            (sym (same.each number one.is volume set there)) (one.by.reads tells, one.by.durable tells)

        transacts : Transacts disk era.number (era.number + 1) added [] additions old new
        transacts = record {
          later = omega arith;
          works = record {
            others = others;
            spare = committed.spare ∙ ap spare_of cat;
            volumes = one_written disk era (IsSentWhole disk era number descriptor message state) number old.store.volumes.items mid.volumes.items new.store.volumes.items written one same;
          };
          are = ap (λ (n : ℕ). object_with (suc n) (addition_of number descriptor message runs) ∷ []) (sym last_is);
          commits = from_cat (λ c. Ends (era.number + 1) (capacity_of c) (slots_wanted [] additions) (contents_in c) (ended [] additions (contents_in c))
              (disk.image (cat_of c)) (disk.image (spare_of c)) (disk.image (cat_of new.store.cat)) (disk.image (spare_of new.store.cat)))
              (committed.ends tells (by_cat (λ c. Stands (seen disk (cat_of c)) c) agrees.stands));
          sent = one_is_sent disk era.number (era.number + 1) (suc at.site.store.last) (addition_of number descriptor message runs) message new.store.volumes.items (omega arith) sent_there;
        }

      pub cut_in_vote : era.number ≤ to.number → (fault : Fault) → cuts fault ≡ true
          → CallFrom (site_stage (layers disk)) (MayVoteOn number descriptor message) 0 era.number to.number old new (vote_course number descriptor message) (Some fault)
      unfolding site_stage
      cut_in_vote le fault cuts_it opened at enough stands may =
          subst (λ (o : Option (List Run)). Does (site_stage (layers disk)) opened era.number to.number old new at (commit_in number descriptor message o at.site) (Some fault))
          (sym (runs_are opened at stands.agree.store))
          (transaction_fails disk reads era.number old new (era.number + 1) (added opened at stands.agree.store) [] additions (transacts opened at stands.agree.store) to.number fault le cuts_it
          opened at enough stands (may runs (runs_are opened at stands.agree.store)))

      pub voted : (copy : ℕ) → IsCommitted disk era to additions mid new.store copy
          → CallFrom (site_stage (layers disk)) (MayVoteOn number descriptor message) 0 era.number to.number old new (vote_course number descriptor message) None
      unfolding site_stage
      voted copy is opened at enough stands may =
          subst (λ (o : Option (List Run)). Does (site_stage (layers disk)) opened era.number to.number old new at (commit_in number descriptor message o at.site) None)
          (sym (runs_are opened at stands.agree.store))
          (transaction_done disk reads era.number old new (era.number + 1) (added opened at stands.agree.store) [] additions (transacts opened at stands.agree.store) to.number is.later gained
          opened at enough stands (may runs (runs_are opened at stands.agree.store)))
        where
          gained : AgreesBehind disk era.number to.number [] additions old new
          gained head before =
              session_agrees disk era.number to.number (let later = is.later in omega (arith, later)) [] additions old.store mid new.store
              (has_sent disk era number descriptor message state tells old.store mid settled may_use cat one)
              (is.by tells (by_cat (λ c. Stands (seen disk (cat_of c)) c) before.stands))
              (contents_in old.store.cat) (used_of old.store.cat) head before

    -- The vote, however it ended.
    pub votes_then : FreeInOrder old.store → (to : EraView) (result : Result ℕ SiteFault) → VoteEnds disk era to (added_in state) mid new.store result → era.number ≤ to.number
        → Votes disk number descriptor message era.number to.number old new result
    votes_then order to result ends le =
        by result (subst (λ (a : List Addition). VoteEnds disk era to a mid new.store result) (ap added_in one.by.state_is) ends)
      where
        cut : (fault : Fault) → cuts fault ≡ true → IsCutShort disk era to additions mid new.store
            → CallFrom (site_stage (layers disk)) (MayVoteOn number descriptor message) 0 era.number to.number old new (vote_course number descriptor message) (Some fault)
        cut fault cuts_it is =
            cut_in_vote order to is.may (same_disks disk mid.volumes.items new.store.volumes.items (ap (λ (v : Vec (Volume D) Global). v.items) is.volumes)) le fault cuts_it

        by : (told : Result ℕ SiteFault) → VoteEnds disk era to additions mid new.store told → Votes disk number descriptor message era.number to.number old new told
        by (Ok copy) is =
            voted order to is.may (record { count = is.returned.count; each = λ place was now before behind. (is.returned.each place was now before behind).disk }) copy is
        by (Err CatalogueFull) given = refused_vote to given (Some catalogue_full)
        by (Err TooManyObjects) given = refused_vote to given (Some too_many_objects)
        by (Err (DiskFault Cat)) fails = cut cut_short refl fails.cut
        by (Err (DiskFault Spare)) fails = cut cut_short refl fails
        by (Err (DiskFault Boot)) none = absurd none
        by (Err (DiskFault Log)) none = absurd none
        by (Err (DiskFault (VolumeOf n))) none = absurd none
        by (Err (DiskFault (Chunk n))) none = absurd none
        by (Err OutOfMemory) fails = cut cut_short refl fails
        by (Err NotFormatted) none = absurd none
        by (Err AlreadyFormatted) none = absurd none
        by (Err (BadRecord name slot)) none = absurd none
        by (Err (NeedsRestart n)) none = absurd none
        by (Err (NoSuchSpace name)) none = absurd none
        by (Err (NoSuchPage page)) none = absurd none
        by (Err (ChunkLost space name)) none = absurd none
        by (Err LogLost) none = absurd none
        by (Err (LogFull why)) none = absurd none
        by (Err (StoreFull volume)) none = absurd none
        by (Err BootFull) none = absurd none

  -- A send that was cut short.
  pub votes_cut : (fault : SiteFault) → ChangesOne (λ was is. EndsIn disk era number descriptor message state was is fault) number old.store.volumes.items mid.volumes.items
      → new.store ≡ mid → Votes disk number descriptor message era.number era.number old new (Err fault)
  votes_cut (DiskFault (VolumeOf n)) one same =
      cut_in_sending (λ was is. FailsOnVolume disk era number descriptor message state was is n) (λ was is it. it.cut.writes tells) one same cut_short refl
  votes_cut OutOfMemory one same = cut_in_sending (IsCutIn disk era number descriptor message state) (λ was is it. it.writes tells) one same cut_short refl
  votes_cut (DiskFault Cat) one same = absurd one.by
  votes_cut (DiskFault Spare) one same = absurd one.by
  votes_cut (DiskFault Boot) one same = absurd one.by
  votes_cut (DiskFault Log) one same = absurd one.by
  votes_cut (DiskFault (Chunk n)) one same = absurd one.by
  votes_cut NotFormatted one same = absurd one.by
  votes_cut AlreadyFormatted one same = absurd one.by
  votes_cut (BadRecord name slot) one same = absurd one.by
  votes_cut (NeedsRestart n) one same = absurd one.by
  votes_cut (NoSuchSpace name) one same = absurd one.by
  votes_cut (NoSuchPage page) one same = absurd one.by
  votes_cut (ChunkLost space name) one same = absurd one.by
  votes_cut LogLost one same = absurd one.by
  votes_cut (LogFull why) one same = absurd one.by
  votes_cut (StoreFull volume) one same = absurd one.by
  votes_cut CatalogueFull one same = absurd one.by
  votes_cut TooManyObjects one same = absurd one.by
  votes_cut BootFull one same = absurd one.by
