-- A store whose volumes have changed at one place, and what it agrees with then.
use Rattle.std.proofs.Common.{◌≡◌, ◌≢◌, ◌⊎◌, ℕ, suc, ◌<◌, ◌≤◌, IsTrue, List, [], ◌∷◌, ◌++◌, length, get_or, take, drop, map, Some, Result, Ok, Err, refl, sym, ap, ◌∙◌, subst, arith, inl, inr, ⊎_elim, length-set}
use Rattle.std.proofs.lemmas.Bool.{cases_eq, cases_lt}
use Rattle.std.proofs.lemmas.List.{append-nil, map-append}
use Rattle.std.proofs.lemmas.Grind.{flat_map-append}
use Rattle.std.proofs.lemmas.Option.{slice_get_within, slice_get-get_or}
use Rattle.std.specs.Prelude.{slice_get, OnOk}
use Rattle.site_disk.specs.Ledger.{EraView, MayUse}
use Rattle.site_disk.specs.Seen.{seen}
use Rattle.site_disk.specs.declared.disk.Disk.{Ghosts}
use Rattle.block_chain.specs.Blocks.{times, blocks_for, blocks_of_runs}
use Rattle.block_chain.specs.BlocksLaws.{times-append}
use Rattle.block_chain.specs.declared.runs.Run.{Run}
use Rattle.bsa_descriptor.specs.declared.descriptor.Descriptor.{Descriptor}
use Rattle.catalogue_replay.specs.Contents.{Contents}
use Rattle.catalogue_journal.specs.Catalogues.{cat_of, spare_of, capacity_of, used_of, objects_of, contents_in, IsOpen as IsOpenCatalogue, Stands}
use Rattle.catalogue_journal.specs.Transactions.{Addition, objects_from}
use Rattle.catalogue_journal.specs.declared.catalogue.Catalogue.{Catalogue}
use Rattle.bsa_session.specs.Voting.{added_in, DropsSent}
use Rattle.object_store.specs.Endings.{places, HoldAll, HoldWith}
use Rattle.object_store.specs.Holdings.{Holds, blocks_of_all}
use Rattle.object_store.specs.Reading.{ChangesOne}
use Rattle.object_store.specs.Returns.{Placed, place_of_addition, place_of_object, runs_on, AllGiveBack, Cancels}
use Rattle.object_store.specs.Stores.{IsOpenStore, IsOpenAt}
use Rattle.object_store.specs.declared.store.Store.{Store}
use Rattle.object_store.proofs.DeletedLemmas.{holds_swapped}
use Rattle.object_store.proofs.ReturnLemmas.{one_value, runs_on-append, runs_on-here, runs_on-elsewhere, slice_get-set_same, slice_get-set_other}
use Rattle.object_volume.specs.Volumes.{disk_of, number_of, blocks_in, blocks_sent, free_of, IsOpen, IsIdle}
use Rattle.site_votes.proofs.OrderLemmas.{by_blocks, order_behind}
use Rattle.object_volume.specs.declared.volume.Volume.{Volume}
use Rattle.session_machine.specs.States.{State, new_draft}
use Rattle.site_headers.specs.Areas.{slot_count}
use Rattle.site_headers.specs.Heads.{Head}
use Rattle.store_calls.specs.SendLaws.{there_too}
use Rattle.store_calls.specs.Sessions.{HasTaken, HasSent}
use Rattle.store_opening.specs.Disks.{EachFrom}
use Rattle.store_opening.specs.Opening.{live_on}
use Rattle.store_opening.specs.Standing.{Agrees, IsBehind, FreeInOrder, IsSettled}
use Rattle.site_votes.specs.Objects.{place_for, addition_of}
use Rattle.site_votes.specs.Sent.{IsSentWhole, HasNoRoom}
use Rattle.site_votes.specs.Stores.{MayUseStore}
use Rattle.site_votes.specs.Voted.{IsCommitted, VoteEnds}
use Rattle.site_core.specs.declared.faults.SiteFault.{SiteFault}

-- an item at a place that is indexed
pub there_of : {X : Type 0} (items : List X) (k number : ℕ) (d was : X) → k ≡ number → number < length items → was ≡ get_or items k d → slice_get items number ≡ Some was
there_of items k number d was same lt is =
    ap (slice_get items) (sym same) ∙ slice_get-get_or items k d (omega (arith, same, lt)) ∙ ap (λ x. Some x) (sym is)

-- of one object, what stands on a volume
pub runs_here : (number place : ℕ) (runs : List Run) → place ≡ number → runs_on place (record { volume = number; runs = runs } ∷ []) ≡ runs ∷ []
runs_here number place runs same = runs_on-here place (record { volume = number; runs = runs }) [] same

pub runs_elsewhere : (number place : ℕ) (runs : List Run) → place ≢ number → runs_on place (record { volume = number; runs = runs } ∷ []) ≡ []
runs_elsewhere number place runs other = runs_on-elsewhere place (record { volume = number; runs = runs }) [] other

module _ {D : Type 0} where
  -- at one place it holds, and each other volume is as it was
  abbrev pub OneOf : (Volume D → Volume D → Type 0) → ℕ → ℕ → Volume D → Volume D → Type 0
  OneOf P number place was is = ((place ≡ number) × P was is) ⊎ ((place ≢ number) × (is ≡ was))

  pub each_of_one : (P : Volume D → Volume D → Type 0) (number : ℕ) (old new : List (Volume D)) → ChangesOne P number old new → EachFrom (OneOf P number) old new
  each_of_one P number old new one = record {
    count = ap length one.changed ∙ length-set old number one.is;
    each = λ place was is before behind. elim (cases_eq place number) [
      | inl same ↦ inl (same, here place was is same before behind)
      | inr other ↦ inr (other, elsewhere place was is other before behind)
    ];
  }
    where
      lt : number < length old
      lt = slice_get_within old number one.was one.there

      here : (place : ℕ) (was is : Volume D) → place ≡ number → slice_get old place ≡ Some was → slice_get new place ≡ Some is → P was is
      here place was is same before behind =
          let first : one.was ≡ was = one_value old place one.was was (ap (slice_get old) same ∙ one.there) before in
          let set : slice_get new place ≡ Some one.is =
          ap (slice_get new) same ∙ ap (λ (l : List (Volume D)). slice_get l number) one.changed ∙ slice_get-set_same old number one.is lt in
          let last : one.is ≡ is = one_value new place one.is is set behind in
          subst (λ (v : Volume D). P v is) first (subst (λ (v : Volume D). P one.was v) last one.by)

      elsewhere : (place : ℕ) (was is : Volume D) → place ≢ number → slice_get old place ≡ Some was → slice_get new place ≡ Some is → is ≡ was
      elsewhere place was is other before behind =
          one_value old place is was (sym (slice_get-set_other old place number one.is other) ∙ ap (λ (l : List (Volume D)). slice_get l place) (sym one.changed) ∙ behind) before

  -- what holds of the one volume at the place
  pub at_place : (P : Volume D → Volume D → Type 0) (Q : Volume D → Type 0) (number : ℕ) (old new : List (Volume D)) → ((was is : Volume D) → P was is → Q is)
      → ChangesOne P number old new → (place : ℕ) (volume : Volume D) → slice_get new place ≡ Some volume → place ≡ number → Q volume
  at_place P Q number old new means one place volume there same =
      let changed = each_of_one P number old new one in
      let was = there_too old new place volume changed.count there in
      ⊎_elim (λ here. means was.0 volume here.1) (λ other. absurd (other.0 same)) (changed.each place was.0 volume was.1 there)

  -- a store stays open where the one volume does
  pub open_changed : (P : Volume D → Volume D → Type 0) (number : ℕ) (old new : Store D) → ((was is : Volume D) → P was is → IsOpen is × (number_of is ≡ number))
      → new.cat ≡ old.cat → ChangesOne P number old.volumes.items new.volumes.items → IsOpenStore old → IsOpenStore new
  open_changed P number old new keeps cat one opened = record {
    cat = subst (λ (c : Catalogue D). IsOpenCatalogue c) (sym cat) opened.cat;
    count = each.count ∙ opened.count;
    each = λ place volume there.
        let was = there_too old.volumes.items new.volumes.items place volume each.count there in
        ⊎_elim
        (λ here. let it = keeps was.0 volume here.1 in record { number = it.1 ∙ sym here.0; opened = it.0 })
        (λ other. subst (IsOpenAt place) (sym other.1) (opened.each place was.0 was.1))
        (each.each place was.0 volume was.1 there);
  }
    where
      each : EachFrom (OneOf P number) old.volumes.items new.volumes.items
      each = each_of_one P number old.volumes.items new.volumes.items one

  pub behind_others : (volume : Volume D) (runs : List Run) (objects : List (List Run)) → Holds volume (runs ∷ objects) → Holds volume (objects ++ runs ∷ [])
  behind_others volume runs objects holds =
      holds_swapped volume [] (runs ∷ []) objects [] (subst (λ (l : List (List Run)). Holds volume (runs ∷ l)) (sym (append-nil objects)) holds)

module _ {D : Type 0} (disk : Ghosts D) where
  pub later_still : (from to : ℕ) (it : D) → from ≤ to → IsBehind disk.ledger from it → IsBehind disk.ledger to it
  later_still from to it le is = record { last = (let last = is.last in omega (arith, le, last)); synced = is.synced }

  -- of a volume all stays that a store needs to agree with its disks, from another era on
  pub record Stays (from to : ℕ) (was is : Volume D) : Type 0 where
    pub blocks : blocks_in is ≡ blocks_in was
    pub idle : IsIdle was → IsIdle is
    pub holds : (objects : List (List Run)) → Holds was objects → Holds is objects
    pub behind : IsBehind disk.ledger from (disk_of was) → IsBehind disk.ledger to (disk_of is)

  pub agrees_still : (from to : ℕ) (old new : Store D) → from ≤ to → new.cat ≡ old.cat → IsOpenStore new
      → EachFrom (λ place was is. Stays from to was is) old.volumes.items new.volumes.items
      → (head : Head) (contents : Contents) (taken : ℕ) → Agrees disk from old contents taken head → Agrees disk to new contents taken head
  agrees_still from to old new le cat opened stays head contents taken agrees = record {
    opened = opened;
    stands = by_cat (λ c. Stands (seen disk (cat_of c)) c) agrees.stands;
    contents_are = by_cat (λ c. contents_in c ≡ contents) agrees.contents_are;
    used = by_cat (λ c. used_of c ≡ taken) agrees.used;
    capacity = by_cat (λ c. capacity_of c ≡ slot_count) agrees.capacity;
    blocks = λ place volume there. let it = was_at place volume there in (stay place volume there).blocks ∙ agrees.blocks place it.0 it.1;
    idle = λ place volume there. let it = was_at place volume there in (stay place volume there).idle (agrees.idle place it.0 it.1);
    holds = λ place volume there. let it = was_at place volume there in (stay place volume there).holds (live_on place contents.objects) (agrees.holds place it.0 it.1);
    cat_behind = by_cat (λ c. IsBehind disk.ledger to (cat_of c)) (later_still from to (cat_of old.cat) le agrees.cat_behind);
    spare_behind = by_cat (λ c. IsBehind disk.ledger to (spare_of c)) (later_still from to (spare_of old.cat) le agrees.spare_behind);
    volumes_behind = λ place volume there. let it = was_at place volume there in (stay place volume there).behind (agrees.volumes_behind place it.0 it.1);
  }
    where
      by_cat : (P : Catalogue D → Type 0) → P old.cat → P new.cat
      by_cat P it = subst P (sym cat) it

      was_at : (place : ℕ) (volume : Volume D) → slice_get new.volumes.items place ≡ Some volume → (was : Volume D) × (slice_get old.volumes.items place ≡ Some was)
      was_at place volume there = there_too old.volumes.items new.volumes.items place volume stays.count there

      stay : (place : ℕ) (volume : Volume D) (there : slice_get new.volumes.items place ≡ Some volume) → Stays from to (was_at place volume there).0 volume
      stay place volume there = let it = was_at place volume there in stays.each place it.0 volume it.1 there

  module _ (era : EraView) (number : ℕ) (descriptor : Descriptor) (message : List ℕ) (state : State) where
    -- it was sent, in these runs, or lacked the room
    abbrev SentIn : List Run → Volume D → Volume D → Type 0
    SentIn runs was is = (it : IsSentWhole disk era number descriptor message state was is) × (it.runs ≡ runs)

    abbrev Lacking : Volume D → Volume D → Type 0
    Lacking was is = HasNoRoom disk era number descriptor message state was is

    -- where the object went back behind a refused vote
    pub given_up : IsTrue disk.is_modelled → (to : ℕ) → era.number < to → (old mid new : List (Volume D)) (one : ChangesOne (IsSentWhole disk era number descriptor message state) number old mid)
        → AllGiveBack disk.is_modelled disk.bytes (map place_of_addition (addition_of number descriptor message one.by.runs ∷ [])) mid new
        → EachFrom (λ place was is. Stays era.number to was is) old new
    given_up tells to later old mid new one gives = record {
      count = gives.count ∙ ap length one.changed ∙ length-set old number one.is;
      each = each;
    }
      where
        sharp : ChangesOne (SentIn one.by.runs) number old mid
        sharp = record { was = one.was; is = one.is; there = one.there; changed = one.changed; by = (one.by, refl) }

        each : (place : ℕ) (was is : Volume D) → slice_get old place ≡ Some was → slice_get new place ≡ Some is → Stays era.number to was is
        each place was is before behind =
            let between = there_too mid new place is gives.count behind in
            let gave = gives.each place between.0 is between.1 behind in
            ⊎_elim
            (λ here. record {
              blocks = gave.count ∙ here.1.0.blocks tells;
              idle = λ idle. gave.idle here.1.0.idle;
              holds = λ objects holds. gave.holds objects
                  (subst (λ (l : List (List Run)). Holds between.0 (l ++ objects)) (sym (runs_here number place one.by.runs here.0))
                  (subst (λ (r : List Run). Holds between.0 (r ∷ objects)) here.1.1 (here.1.0.holds objects holds)));
              behind = λ old_behind. subst (IsBehind disk.ledger to) (sym gave.disk)
                  (record { last = (let may = here.1.0.may in omega (arith, later, may.not_past)); synced = here.1.0.may.synced });
            })
            (λ other. record {
              blocks = gave.count ∙ ap blocks_in other.1;
              idle = λ idle. gave.idle (subst IsIdle (sym other.1) idle);
              holds = λ objects holds. gave.holds objects
                  (subst (λ (l : List (List Run)). Holds between.0 (l ++ objects)) (sym (runs_elsewhere number place one.by.runs other.0))
                  (subst (λ (v : Volume D). Holds v objects) (sym other.1) holds));
              behind = λ old_behind. subst (IsBehind disk.ledger to) (sym gave.disk)
                  (subst (λ (v : Volume D). IsBehind disk.ledger to (disk_of v)) (sym other.1) (later_still era.number to (disk_of was) (omega (arith, later)) old_behind));
            })
            ((each_of_one (SentIn one.by.runs) number old mid sharp).each place was between.0 before between.1)

    -- where the volume lacked the room, and the session was ended
    pub no_room : (old mid new : List (Volume D)) → ChangesOne (HasNoRoom disk era number descriptor message state) number old mid
        → DropsSent disk.is_modelled disk.bytes (new_draft (place_for number descriptor)) mid new
        → EachFrom (λ place was is. Stays era.number era.number was is × (disk_of is ≡ disk_of was)) old new
    no_room old mid new one drops = record {
      count = cancelled.count ∙ drops.returned.count ∙ sent.count;
      each = each;
    }
      where
        sent : EachFrom (OneOf Lacking number) old mid
        sent = each_of_one Lacking number old mid one

        cancelled : EachFrom (OneOf Cancels number) drops.between new
        cancelled = each_of_one Cancels number drops.between new drops.cancelled

        each : (place : ℕ) (was is : Volume D) → slice_get old place ≡ Some was → slice_get new place ≡ Some is
            → Stays era.number era.number was is × (disk_of is ≡ disk_of was)
        each place was is before behind =
            let two = there_too drops.between new place is cancelled.count behind in
            let one_ = there_too mid drops.between place two.0 drops.returned.count two.1 in
            let gave = drops.returned.each place one_.0 two.0 one_.1 two.1 in
            let first = sent.each place was one_.0 before one_.1 in
            let last = cancelled.each place two.0 is two.1 behind in
            ⊎_elim
            (λ here. ⊎_elim
            (λ gone.
            let same : disk_of is ≡ disk_of was = gone.1.disk ∙ gave.disk ∙ here.1.same in (
              record {
                blocks = gone.1.count ∙ gave.count ∙ here.1.blocks;
                idle = λ idle. gone.1.idle;
                holds = λ objects holds. gone.1.holds objects (gave.holds objects (here.1.holds objects holds));
                behind = λ old_behind. subst (IsBehind disk.ledger era.number) (sym same) old_behind;
              },
              same,
            ))
            (λ not. absurd (not.0 here.0))
            last)
            (λ other. ⊎_elim
            (λ gone. absurd (other.0 gone.0))
            (λ not.
            let same : disk_of is ≡ disk_of was = ap disk_of not.1 ∙ gave.disk ∙ ap disk_of other.1 in (
              record {
                blocks = ap blocks_in not.1 ∙ gave.count ∙ ap blocks_in other.1;
                idle = λ idle. subst IsIdle (sym not.1) (gave.idle (subst IsIdle (sym other.1) idle));
                holds = λ objects holds. subst (λ (v : Volume D). Holds v objects) (sym not.1) (gave.holds objects (subst (λ (v : Volume D). Holds v objects) (sym other.1) holds));
                behind = λ old_behind. subst (IsBehind disk.ledger era.number) (sym same) old_behind;
              },
              same,
            ))
            last)
            first

    -- where it was sent
    pub has_sent : IsTrue disk.is_modelled → (old mid : Store D) → IsSettled old → MayUseStore disk era old → mid.cat ≡ old.cat
        → (one : ChangesOne (IsSentWhole disk era number descriptor message state) number old.volumes.items mid.volumes.items)
        → HasSent disk era.number (addition_of number descriptor message one.by.runs ∷ []) old mid
    has_sent tells old mid settled may cat one = record { cat = cat; volumes = record { count = changed.count; each = each } }
      where
        changed : EachFrom (OneOf (SentIn one.by.runs) number) old.volumes.items mid.volumes.items
        changed = each_of_one (SentIn one.by.runs) number old.volumes.items mid.volumes.items
            (record { was = one.was; is = one.is; there = one.there; changed = one.changed; by = (one.by, refl) })

        each : (place : ℕ) (was is : Volume D) → slice_get old.volumes.items place ≡ Some was → slice_get mid.volumes.items place ≡ Some is
            → HasTaken disk era.number (runs_on place (map place_of_addition (addition_of number descriptor message one.by.runs ∷ []))) was is
        each place was is before behind = ⊎_elim
            (λ here. subst (λ (l : List (List Run)). HasTaken disk era.number l was is) (sym (runs_here number place one.by.runs here.0))
            (record {
              blocks = here.1.0.blocks tells;
              idle = here.1.0.idle;
              holds = λ objects holds. behind_others is one.by.runs objects (subst (λ (r : List Run). Holds is (r ∷ objects)) here.1.1 (here.1.0.holds objects holds));
              last = here.1.0.may.not_past;
              synced = here.1.0.may.synced;
            }))
            (λ other. subst (λ (l : List (List Run)). HasTaken disk era.number l was is) (sym (runs_elsewhere number place one.by.runs other.0))
            (subst (HasTaken disk era.number [] was) (sym other.1)
            (record {
              blocks = refl;
              idle = settled.idle place was before;
              holds = λ objects holds. subst (Holds was) (sym (append-nil objects)) holds;
              last = (may.volumes place was before).not_past;
              synced = (may.volumes place was before).synced;
            })))
            (changed.each place was is before behind)

    -- what was sent and the committed objects are held, and no others
    pub held_alone : (old mid : Store D) → IsSettled old → mid.cat ≡ old.cat
        → (one : ChangesOne (IsSentWhole disk era number descriptor message state) number old.volumes.items mid.volumes.items)
        → HoldWith (places (objects_of mid.cat) (addition_of number descriptor message one.by.runs ∷ [])) (λ place. []) mid.volumes.items
    held_alone old mid settled cat one place volume there =
        subst (Holds volume) whole (held (subst (λ (c : Catalogue D). Holds was.0 (live_on place (objects_of c))) (sym cat) (settled.holds place was.0 was.1)))
      where
        changed : EachFrom (OneOf (SentIn one.by.runs) number) old.volumes.items mid.volumes.items
        changed = each_of_one (SentIn one.by.runs) number old.volumes.items mid.volumes.items
            (record { was = one.was; is = one.is; there = one.there; changed = one.changed; by = (one.by, refl) })

        was : (v : Volume D) × (slice_get old.volumes.items place ≡ Some v)
        was = there_too old.volumes.items mid.volumes.items place volume changed.count there

        held : Holds was.0 (live_on place (objects_of mid.cat))
            → Holds volume (live_on place (objects_of mid.cat) ++ runs_on place (map place_of_addition (addition_of number descriptor message one.by.runs ∷ [])))
        held holds = ⊎_elim
            (λ here. subst (λ (l : List (List Run)). Holds volume (live_on place (objects_of mid.cat) ++ l)) (sym (runs_here number place one.by.runs here.0))
            (behind_others volume one.by.runs (live_on place (objects_of mid.cat))
            (subst (λ (r : List Run). Holds volume (r ∷ live_on place (objects_of mid.cat))) here.1.1 (here.1.0.holds (live_on place (objects_of mid.cat)) holds))))
            (λ other. subst (λ (l : List (List Run)). Holds volume (live_on place (objects_of mid.cat) ++ l)) (sym (runs_elsewhere number place one.by.runs other.0))
            (subst (λ (v : Volume D). Holds v (live_on place (objects_of mid.cat) ++ [])) (sym other.1)
            (subst (Holds was.0) (sym (append-nil (live_on place (objects_of mid.cat)))) holds)))
            (changed.each place was.0 volume was.1 there)

        whole : live_on place (objects_of mid.cat) ++ runs_on place (map place_of_addition (addition_of number descriptor message one.by.runs ∷ []))
            ≡ runs_on place (places (objects_of mid.cat) (addition_of number descriptor message one.by.runs ∷ [])) ++ []
        whole = sym (runs_on-append place (map place_of_object (objects_of mid.cat)) (map place_of_addition (addition_of number descriptor message one.by.runs ∷ [])))
            ∙ sym (append-nil (runs_on place (places (objects_of mid.cat) (addition_of number descriptor message one.by.runs ∷ []))))

    pub held_sent : (old mid : Store D) → IsSettled old → mid.cat ≡ old.cat
        → (one : ChangesOne (IsSentWhole disk era number descriptor message state) number old.volumes.items mid.volumes.items)
        → HoldAll (places (objects_of mid.cat) (addition_of number descriptor message one.by.runs ∷ [])) mid.volumes.items
    held_sent old mid settled cat one place volume there = record { others = []; holds = held_alone old mid settled cat one place volume there }

    -- behind the vote the store is settled, and may be used
    module _ (to : EraView) (old mid new : Store D) (settled : IsSettled old) (may : MayUseStore disk era old) (cat : mid.cat ≡ old.cat)
        (one : ChangesOne (IsSentWhole disk era number descriptor message state) number old.volumes.items mid.volumes.items) (copy : ℕ)
        (is : IsCommitted disk era to (addition_of number descriptor message one.by.runs ∷ []) mid new copy) where
      -- a volume, what it was when the object was sent, and before
      record Before (place : ℕ) (volume : Volume D) : Type 0 where
        was : Volume D
        between : Volume D
        first : slice_get old.volumes.items place ≡ Some was
        second : slice_get mid.volumes.items place ≡ Some between
        sent : OneOf (SentIn one.by.runs) number place was between
        free : free_of volume ≡ free_of between
        count : blocks_in volume ≡ blocks_in between
        same : disk_of volume ≡ disk_of between
        idle : IsIdle between → IsIdle volume

      before : (place : ℕ) (volume : Volume D) → slice_get new.volumes.items place ≡ Some volume → Before place volume
      before place volume there =
          let sharp : ChangesOne (SentIn one.by.runs) number old.volumes.items mid.volumes.items =
          record { was = one.was; is = one.is; there = one.there; changed = one.changed; by = (one.by, refl) } in
          let changed = each_of_one (SentIn one.by.runs) number old.volumes.items mid.volumes.items sharp in
          let two = there_too mid.volumes.items new.volumes.items place volume is.returned.count there in
          let one_ = there_too old.volumes.items mid.volumes.items place two.0 changed.count two.1 in
          let gave = is.returned.each place two.0 volume two.1 there in
          record {
            was = one_.0;
            between = two.0;
            first = one_.1;
            second = two.1;
            sent = changed.each place one_.0 two.0 one_.1 two.1;
            same = gave.disk;
            idle = gave.idle;
            free = gave.free ∙ append-nil (free_of two.0);
            count = gave.count;
          }

      pub settled_then : IsSettled new
      settled_then = record {
        opened = is.opened;
        idle = λ place volume there.
            let it = before place volume there in
            it.idle (⊎_elim (λ here. here.1.0.idle) (λ other. subst IsIdle (sym other.1) (settled.idle place it.was it.first)) it.sent);
        holds = λ place volume there.
            subst (Holds volume)
            (append-nil (runs_on place (places (objects_of new.cat) [])) ∙ ap (λ (l : List Placed). runs_on place l) (append-nil (map place_of_object (objects_of new.cat))))
            (is.holds (λ (p : ℕ). []) (held_alone old mid settled cat one) place volume there);
      }

      pub usable_then : era.number ≤ to.number → to.key ≡ era.key → MayUseStore disk to new
      usable_then le key = record {
        cat = is.usable;
        volumes = λ place volume there.
            let it = before place volume there in
            subst (λ (d : D). MayUse to (disk.ledger d)) (sym it.same)
            (later it.between (⊎_elim (λ here. here.1.0.may) (λ other. subst (λ (v : Volume D). MayUse era (disk.ledger (disk_of v))) (sym other.1) (may.volumes place it.was it.first)) it.sent));
      }
        where
          later : (volume : Volume D) → MayUse era (disk.ledger (disk_of volume)) → MayUse to (disk.ledger (disk_of volume))
          later volume was = record { key = was.key ∙ sym key; not_past = (let last = was.not_past in omega (arith, last, le)); synced = was.synced }

      -- what is live on a volume then
      live_then : (place : ℕ) → live_on place (objects_of new.cat)
          ≡ live_on place (objects_of old.cat) ++ runs_on place (place_of_addition (addition_of number descriptor message one.by.runs) ∷ [])
      live_then place =
          ap (λ (c : Contents). live_on place c.objects) is.contents
          ∙ ap (runs_on place) (map-append place_of_object (objects_of mid.cat) (objects_from (suc (contents_in mid.cat).last) (addition_of number descriptor message one.by.runs ∷ [])))
          ∙ runs_on-append place (map place_of_object (objects_of mid.cat)) (place_of_addition (addition_of number descriptor message one.by.runs) ∷ [])
          ∙ ap (λ (c : Catalogue D). live_on place (objects_of c) ++ runs_on place (place_of_addition (addition_of number descriptor message one.by.runs) ∷ [])) cat

      abbrev live_blocks : ℕ → Store D → List ℕ
      live_blocks place store = blocks_of_all (live_on place (objects_of store.cat))

      -- no block is free twice
      free_once : (place : ℕ) (volume : Volume D) → slice_get old.volumes.items place ≡ Some volume → (block : ℕ) → times block (free_of volume) ≤ 1
      free_once place volume there block = ⊎_elim
          (λ some. let whole = times-append block (free_of volume) (blocks_sent volume ++ live_blocks place old) in
          let parted = (settled.holds place volume there).parted in
          let below = parted.below block (omega (arith, some, whole)) in
          omega (arith, whole, parted.each block below))
          (λ none. omega (arith, none))
          (cases_lt 0 (times block (free_of volume)))

      pub order_then : IsTrue disk.is_modelled → FreeInOrder old → FreeInOrder new
      order_then tells order place volume there = by it.sent
        where
          it : Before place volume
          it = before place volume there

          ordered : free_of it.was ≡ by_blocks (live_blocks place old) (blocks_in it.was)
          ordered = order place it.was it.first

          by : OneOf (SentIn one.by.runs) number place it.was it.between → free_of volume ≡ by_blocks (live_blocks place new) (blocks_in volume)
          by (inl here) =
              let runs = one.by.runs in
              let size = blocks_for (length message) in
              let live : live_blocks place new ≡ live_blocks place old ++ blocks_of_runs runs =
              ap blocks_of_all (live_then place ∙ ap (λ (l : List (List Run)). live_on place (objects_of old.cat) ++ l) (runs_here number place runs here.0))
              ∙ flat_map-append blocks_of_runs (live_on place (objects_of old.cat)) (runs ∷ [])
              ∙ ap (λ (l : List ℕ). live_blocks place old ++ l) (append-nil (blocks_of_runs runs)) in
              let stands : blocks_of_runs runs ≡ take size (by_blocks (live_blocks place old) (blocks_in it.was)) =
              ap blocks_of_runs (sym here.1.1) ∙ here.1.0.stands ∙ ap (λ (l : List ℕ). take size l) ordered in
              it.free ∙ here.1.0.left ∙ ap (λ (l : List ℕ). drop size l) ordered
              ∙ sym (order_behind (live_blocks place old) (live_blocks place new) (blocks_of_runs runs) size (blocks_in it.was)
              (λ block. ap (times block) live ∙ times-append block (live_blocks place old) (blocks_of_runs runs)) stands
              (λ block. subst (λ (l : List ℕ). times block l ≤ 1) ordered (free_once place it.was it.first block)))
              ∙ ap (by_blocks (live_blocks place new)) (sym (it.count ∙ here.1.0.blocks tells))
          by (inr other) =
              let live : live_blocks place old ≡ live_blocks place new =
              sym (ap blocks_of_all (live_then place ∙ ap (λ (l : List (List Run)). live_on place (objects_of old.cat) ++ l) (runs_elsewhere number place one.by.runs other.0)
              ∙ append-nil (live_on place (objects_of old.cat)))) in
              it.free ∙ ap free_of other.1 ∙ ordered
              ∙ ap (λ (l : List ℕ). by_blocks l (blocks_in it.was)) live
              ∙ ap (by_blocks (live_blocks place new)) (sym (it.count ∙ ap blocks_in other.1))

    module _ (to : EraView) (old mid new : Store D) (settled : IsSettled old) (may : MayUseStore disk era old) (cat : mid.cat ≡ old.cat)
        (one : ChangesOne (IsSentWhole disk era number descriptor message state) number old.volumes.items mid.volumes.items) where
      by_additions : (result : Result ℕ SiteFault) → VoteEnds disk era to (added_in state) mid new result
          → VoteEnds disk era to (addition_of number descriptor message one.by.runs ∷ []) mid new result
      by_additions result ends = subst (λ (a : List Addition). VoteEnds disk era to a mid new result) (ap added_in one.by.state_is) ends

      pub settled_on : (result : Result ℕ SiteFault) → VoteEnds disk era to (added_in state) mid new result → OnOk result (IsSettled new)
      settled_on (Ok copy) ends = settled_then to old mid new settled may cat one copy (by_additions (Ok copy) ends)
      settled_on (Err fault) ends = tt

      pub order_on : IsTrue disk.is_modelled → FreeInOrder old → (result : Result ℕ SiteFault) → VoteEnds disk era to (added_in state) mid new result
          → OnOk result (FreeInOrder new)
      order_on tells order (Ok copy) ends = order_then to old mid new settled may cat one copy (by_additions (Ok copy) ends) tells order
      order_on tells order (Err fault) ends = tt

      pub usable_on : era.number ≤ to.number → to.key ≡ era.key → (result : Result ℕ SiteFault) → VoteEnds disk era to (added_in state) mid new result
          → OnOk result (MayUseStore disk to new)
      usable_on le key (Ok copy) ends = usable_then to old mid new settled may cat one copy (by_additions (Ok copy) ends) le key
      usable_on le key (Err fault) ends = tt

    -- nothing was sent, and the committed objects are held
    pub held_still : (old mid : Store D) → IsSettled old → mid.cat ≡ old.cat
        → ChangesOne (HasNoRoom disk era number descriptor message state) number old.volumes.items mid.volumes.items
        → HoldAll (places (objects_of mid.cat) []) mid.volumes.items
    held_still old mid settled cat one place volume there = record {
      others = [];
      holds = subst (Holds volume) whole (still (subst (λ (c : Catalogue D). Holds was.0 (live_on place (objects_of c))) (sym cat) (settled.holds place was.0 was.1)));
    }
      where
        changed : EachFrom (OneOf Lacking number) old.volumes.items mid.volumes.items
        changed = each_of_one Lacking number old.volumes.items mid.volumes.items one

        was : (v : Volume D) × (slice_get old.volumes.items place ≡ Some v)
        was = there_too old.volumes.items mid.volumes.items place volume changed.count there

        still : Holds was.0 (live_on place (objects_of mid.cat)) → Holds volume (live_on place (objects_of mid.cat))
        still holds = ⊎_elim
            (λ here. here.1.holds (live_on place (objects_of mid.cat)) holds)
            (λ other. subst (λ (v : Volume D). Holds v (live_on place (objects_of mid.cat))) (sym other.1) holds)
            (changed.each place was.0 volume was.1 there)

        whole : live_on place (objects_of mid.cat) ≡ runs_on place (places (objects_of mid.cat) []) ++ []
        whole = sym (append-nil (runs_on place (places (objects_of mid.cat) []))
            ∙ ap (λ (l : List Placed). runs_on place l) (append-nil (map place_of_object (objects_of mid.cat))))
