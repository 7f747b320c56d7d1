use Rattle.std.proofs.Common.{◌≡◌, ℕ, suc, List, [], ◌++◌, length, map, sym, ap, ◌∙◌, subst}
use Rattle.std.specs.Prelude.{slice_get}
use Rattle.catalogue_slots.specs.Records.{Object}
use Rattle.catalogue_replay.specs.Contents.{Contents}
use Rattle.catalogue_journal.specs.Catalogues.{objects_of, contents_in, additions_of}
use Rattle.object_volume.specs.declared.volume.Volume.{Volume}
use Rattle.object_store.specs.Holdings.{Holds}
use Rattle.object_store.specs.Endings.{places}
use Rattle.object_store.specs.Returns.{Placed, place_of_object, place_of_blocks, objects_with, runs_on, CanGiveBack, AllGiveBack}
use Rattle.object_store.proofs.EndingLemmas.{can_give_deleted, still_open, hold_committed, written_back, ends_before}
use Rattle.object_store.proofs.store.Store.commit.Goals as goal

pub returns-in_default-clause-ends : goal.returns-in_default-clause-ends
returns-in_default-clause-ends g c tells stands = ends_before

pub release_blocks-requires : goal.release_blocks-requires
release_blocks-requires g c =
    let old = c.args.self.now.volumes.items in
    let objects = objects_of c.args.self.now.cat in
    let deleted = c.args.staged.now.delete.items in
    let list : map place_of_blocks c.deref-2.result.now ≡ map place_of_object (objects_with deleted objects) =
    ap (map place_of_blocks) c.deref-2.ensures.value ∙ c.in-Ok.ensures ∙ ap (λ (l : List ℕ). map place_of_object (objects_with l objects)) c.deref.ensures.value in
    let contents = c.requires.opened.cat.contents in
    let can = can_give_deleted old objects (additions_of c.args.staged.now) c.requires.opened.count c.requires.opened.each c.requires.holds deleted contents.each contents.rising c.requires.deletions in
    subst (λ (l : List (Volume g.row.D.Denot)). CanGiveBack (map place_of_blocks c.deref-2.result.now) l) (sym c.deref_mut.ensures.value)
    (subst (λ (l : List Placed). CanGiveBack l old) (sym list) can)

pub returns-clause-opened : goal.returns-clause-opened
returns-clause-opened g c =
    let old = c.args.self.now.volumes.items in
    let new = c.release_blocks.new.volumes in
    let tells = g.D.Disk.is_modelled in
    let bytes = g.D.Disk.bytes in
    let objects = objects_of c.args.self.now.cat in
    let deleted = c.args.staged.now.delete.items in
    let list : map place_of_blocks c.deref-2.result.now ≡ map place_of_object (objects_with deleted objects) =
    ap (map place_of_blocks) c.deref-2.ensures.value ∙ c.in-Ok.ensures ∙ ap (λ (l : List ℕ). map place_of_object (objects_with l objects)) c.deref.ensures.value in
    let gives : AllGiveBack tells bytes (map place_of_object (objects_with deleted objects)) old new =
    subst (λ (l : List Placed). AllGiveBack tells bytes l old new) list
    (subst (λ (l : List (Volume g.row.D.Denot)). AllGiveBack tells bytes (map place_of_blocks c.deref-2.result.now) l new) c.deref_mut.ensures.value c.release_blocks.ensures) in
    let back = written_back c.args.self.now.volumes new gives.count in
    record {
      cat = c.in_ok-copies.ensures.opened;
      count = ap length back ∙ gives.count ∙ c.requires.opened.count;
      each = λ place volume there. still_open tells bytes old new (map place_of_object (objects_with deleted objects)) gives c.requires.opened.each place volume
          (ap (λ (l : List (Volume g.row.D.Denot)). slice_get l place) (sym back) ∙ there);
    }

pub returns-clause-room : goal.returns-clause-room
returns-clause-room g c = record { within = c.in_ok-copies.ensures.within; room = c.in_ok-copies.ensures.room }

pub returns-clause-holds : goal.returns-clause-holds
returns-clause-holds g c others hold place volume there =
    let old = c.args.self.now.volumes.items in
    let new = c.release_blocks.new.volumes in
    let tells = g.D.Disk.is_modelled in
    let bytes = g.D.Disk.bytes in
    let objects = objects_of c.args.self.now.cat in
    let deleted = c.args.staged.now.delete.items in
    let list : map place_of_blocks c.deref-2.result.now ≡ map place_of_object (objects_with deleted objects) =
    ap (map place_of_blocks) c.deref-2.ensures.value ∙ c.in-Ok.ensures ∙ ap (λ (l : List ℕ). map place_of_object (objects_with l objects)) c.deref.ensures.value in
    let gives : AllGiveBack tells bytes (map place_of_object (objects_with deleted objects)) old new =
    subst (λ (l : List Placed). AllGiveBack tells bytes l old new) list
    (subst (λ (l : List (Volume g.row.D.Denot)). AllGiveBack tells bytes (map place_of_blocks c.deref-2.result.now) l new) c.deref_mut.ensures.value c.release_blocks.ensures) in
    let back = written_back c.args.self.now.volumes new gives.count in
    let added = additions_of c.args.staged.now in
    let contents = c.requires.opened.cat.contents in
    let held = hold_committed tells bytes old new objects added others deleted (suc (contents_in c.args.self.now.cat).last) gives contents.rising c.requires.deletions hold place volume
    (ap (λ (l : List (Volume g.row.D.Denot)). slice_get l place) (sym back) ∙ there) in
    subst (λ (l : List Object). Holds volume (runs_on place (places l []) ++ others place)) (sym (ap (λ (contents : Contents). contents.objects) c.in_ok-copies.ensures.ended)) held
