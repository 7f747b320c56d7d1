-- A store that agrees with its disks does so behind a transaction.
use Rattle.std.specs.Prelude.{◌≡◌, ℕ, ◌+◌, ◌<◌, List, [], ◌++◌, map, slice_get, Some}
use Rattle.std.proofs.Common.{arith, sym, ap, subst, ◌∙◌}
use Rattle.std.proofs.lemmas.List.{append-nil}
use Rattle.site_disk.specs.Seen.{seen}
use Rattle.site_disk.specs.declared.disk.Disk.{Ghosts}
use Rattle.block_chain.specs.declared.runs.Run.{Run}
use Rattle.site_headers.specs.Areas.{slot_count}
use Rattle.site_headers.specs.Heads.{Head}
use Rattle.catalogue_slots.specs.Records.{Object}
use Rattle.catalogue_replay.specs.Contents.{Contents}
use Rattle.catalogue_journal.specs.Catalogues.{cat_of, spare_of, capacity_of, used_of, objects_of, contents_in, Stands}
use Rattle.catalogue_journal.specs.Transactions.{Addition, ended, slots_wanted}
use Rattle.catalogue_journal.specs.declared.catalogue.Catalogue.{Catalogue}
use Rattle.object_volume.specs.declared.volume.Volume.{Volume}
use Rattle.object_store.specs.Holdings.{Holds}
use Rattle.object_store.specs.Returns.{Placed, place_of_addition, place_of_object, runs_on}
use Rattle.object_store.specs.Endings.{places, HoldWith}
use Rattle.object_store.specs.declared.store.Store.{Store}
use Rattle.object_store.proofs.ReturnLemmas.{runs_on-append}
use Rattle.store_opening.specs.Opening.{live_on}
use Rattle.store_opening.specs.Standing.{Agrees, IsBehind}
use Rattle.store_calls.specs.SendLaws.{there_too}
use Rattle.store_calls.specs.Sessions.{HasSent, HasCommitted}

no_others : ℕ → List (List Run)
no_others place = []

with_others : (place : ℕ) (objects : List Object) (additions : List Addition)
    → live_on place objects ++ runs_on place (map place_of_addition additions) ≡ runs_on place (places objects additions) ++ no_others place
unfolding no_others
with_others place objects additions =
    sym (runs_on-append place (map place_of_object objects) (map place_of_addition additions)) ∙ sym (append-nil (runs_on place (places objects additions)))

without_others : (place : ℕ) (objects : List Object) → runs_on place (places objects []) ++ no_others place ≡ live_on place objects
unfolding no_others
without_others place objects =
    append-nil (runs_on place (places objects [])) ∙ ap (λ (l : List Placed). runs_on place l) (append-nil (map place_of_object objects))

module _ {D : Type 0} (disk : Ghosts D) (from to : ℕ) (lt : from < to) (deleted : List ℕ) (additions : List Addition) (old mid new : Store D)
    (sent : HasSent disk from additions old mid) (committed : HasCommitted disk to deleted additions mid new)
    (contents : Contents) (taken : ℕ) (head : Head) (agrees : Agrees disk from old contents taken head) where
  -- the catalogue wasn't touched by what was sent
  by_cat : (P : Catalogue D → Type 0) → P old.cat → P mid.cat
  by_cat P it = subst P (sym sent.cat) it

  contents_mid : contents_in mid.cat ≡ contents
  contents_mid = by_cat (λ c. contents_in c ≡ contents) agrees.contents_are

  contents_new : contents_in new.cat ≡ ended deleted additions contents
  contents_new = committed.contents ∙ ap (ended deleted additions) contents_mid

  -- a volume, and what it was before
  record Was (place : ℕ) (volume : Volume D) : Type 0 where
    was : Volume D
    between : Volume D
    first : slice_get old.volumes.items place ≡ Some was
    second : slice_get mid.volumes.items place ≡ Some between

  was_at : (place : ℕ) (volume : Volume D) → slice_get new.volumes.items place ≡ Some volume → Was place volume
  was_at place volume there =
      let one = there_too mid.volumes.items new.volumes.items place volume committed.returned.count there in
      let two = there_too old.volumes.items mid.volumes.items place one.0 sent.volumes.count one.1 in
      record { was = two.0; between = one.0; first = two.1; second = one.1 }

  held_between : HoldWith (places (objects_of mid.cat) additions) no_others mid.volumes.items
  held_between place volume there =
      let was = there_too old.volumes.items mid.volumes.items place volume sent.volumes.count there in
      subst (Holds volume) (with_others place (objects_of mid.cat) additions)
      ((sent.volumes.each place was.0 volume was.1 there).holds (live_on place (objects_of mid.cat))
      (subst (λ (c : Contents). Holds was.0 (live_on place c.objects)) (sym contents_mid) (agrees.holds place was.0 was.1)))

  held_then : (place : ℕ) (volume : Volume D) → slice_get new.volumes.items place ≡ Some volume → Holds volume (live_on place (ended deleted additions contents).objects)
  held_then place volume there =
      subst (λ (c : Contents). Holds volume (live_on place c.objects)) contents_new
      (subst (Holds volume) (without_others place (objects_of new.cat)) (committed.holds no_others held_between place volume there))

  -- the store behind the transaction agrees
  pub session_agrees : Agrees disk to new (ended deleted additions contents) (taken + slots_wanted deleted additions) head
  session_agrees = record {
    opened = committed.opened;
    stands = committed.stands (by_cat (λ c. Stands (seen disk (cat_of c)) c) agrees.stands);
    contents_are = contents_new;
    used = committed.used ∙ ap (λ (n : ℕ). n + slots_wanted deleted additions) (by_cat (λ c. used_of c ≡ taken) agrees.used);
    capacity = committed.capacity ∙ by_cat (λ c. capacity_of c ≡ slot_count) agrees.capacity;
    blocks = λ place volume there.
        let it = was_at place volume there in
        (committed.returned.each place it.between volume it.second there).count
        ∙ (sent.volumes.each place it.was it.between it.first it.second).blocks ∙ agrees.blocks place it.was it.first;
    idle = λ place volume there.
        let it = was_at place volume there in
        (committed.returned.each place it.between volume it.second there).idle (sent.volumes.each place it.was it.between it.first it.second).idle;
    holds = held_then;
    cat_behind = committed.behind;
    spare_behind = subst (IsBehind disk.ledger to) (sym committed.spare) (by_cat (λ c. IsBehind disk.ledger to (spare_of c))
        (record { last = (let last = agrees.spare_behind.last in omega (arith, lt, last)); synced = agrees.spare_behind.synced }));
    volumes_behind = λ place volume there.
        let it = was_at place volume there in
        let taken_by = sent.volumes.each place it.was it.between it.first it.second in
        subst (IsBehind disk.ledger to) (sym (committed.returned.each place it.between volume it.second there).disk)
        (record { last = (let last = taken_by.last in omega (arith, lt, last)); synced = taken_by.synced });
  }
