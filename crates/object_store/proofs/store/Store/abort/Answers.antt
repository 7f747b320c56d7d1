use Rattle.std.proofs.Common.{List, length, map, sym, ap, ◌∙◌, subst}
use Rattle.std.specs.Prelude.{slice_get}
use Rattle.catalogue_journal.specs.Catalogues.{objects_of, additions_of}
use Rattle.catalogue_journal.specs.Views.{addition_of}
use Rattle.catalogue_journal.specs.declared.entries.NewObject.{NewObject}
use Rattle.object_volume.specs.declared.volume.Volume.{Volume}
use Rattle.object_store.specs.Returns.{place_of_addition, CanGiveBack, AllGiveBack}
use Rattle.object_store.proofs.EndingLemmas.{can_give_added, still_open, hold_aborted, written_back}
use Rattle.object_store.proofs.store.Store.abort.Goals as goal

pub release_additions-requires : goal.release_additions-requires
release_additions-requires g c =
    let old = c.args.self.now.volumes.items in
    let added = additions_of c.args.staged.now in
    let can = can_give_added old (objects_of c.args.self.now.cat) added c.requires.opened.count c.requires.opened.each c.requires.holds c.requires.additions in
    subst (λ (l : List (Volume g.row.D.Denot)). CanGiveBack (map place_of_addition (map addition_of c.deref.result.now)) l) (sym c.deref_mut.ensures.value)
    (subst (λ (l : List NewObject). CanGiveBack (map place_of_addition (map addition_of l)) old) (sym c.deref.ensures.value) can)

pub returns-clause-opened : goal.returns-clause-opened
returns-clause-opened g c =
    let old = c.args.self.now.volumes.items in
    let new = c.release_additions.new.volumes in
    let tells = g.D.Disk.is_modelled in
    let bytes = g.D.Disk.bytes in
    let staged = c.args.staged.now.add.items in
    let gives : AllGiveBack tells bytes (map place_of_addition (map addition_of staged)) old new =
    subst (λ (l : List NewObject). AllGiveBack tells bytes (map place_of_addition (map addition_of l)) old new) c.deref.ensures.value
    (subst (λ (l : List (Volume g.row.D.Denot)). AllGiveBack tells bytes (map place_of_addition (map addition_of c.deref.result.now)) l new) c.deref_mut.ensures.value c.release_additions.ensures) in
    let back = written_back c.args.self.now.volumes new gives.count in
    record {
      cat = c.requires.opened.cat;
      count = ap length back ∙ gives.count ∙ c.requires.opened.count;
      each = λ place volume there. still_open tells bytes old new (map place_of_addition (map addition_of staged)) gives c.requires.opened.each place volume
          (ap (λ (l : List (Volume g.row.D.Denot)). slice_get l place) (sym back) ∙ there);
    }

pub returns-clause-holds : goal.returns-clause-holds
returns-clause-holds g c others hold place volume there =
    let old = c.args.self.now.volumes.items in
    let new = c.release_additions.new.volumes in
    let tells = g.D.Disk.is_modelled in
    let bytes = g.D.Disk.bytes in
    let staged = c.args.staged.now.add.items in
    let gives : AllGiveBack tells bytes (map place_of_addition (map addition_of staged)) old new =
    subst (λ (l : List NewObject). AllGiveBack tells bytes (map place_of_addition (map addition_of l)) old new) c.deref.ensures.value
    (subst (λ (l : List (Volume g.row.D.Denot)). AllGiveBack tells bytes (map place_of_addition (map addition_of c.deref.result.now)) l new) c.deref_mut.ensures.value c.release_additions.ensures) in
    let back = written_back c.args.self.now.volumes new gives.count in
    hold_aborted tells bytes old new (objects_of c.args.self.now.cat) (map addition_of staged) others gives hold place volume
    (ap (λ (l : List (Volume g.row.D.Denot)). slice_get l place) (sym back) ∙ there)
