-- The live objects of an open store, on its volumes.
use Rattle.std.proofs.Common.{◌≡◌, ℕ, [], ◌++◌, map, sym, ap, subst, ◌∙◌}
use Rattle.std.proofs.lemmas.List.{append-nil}
use Rattle.site_disk.specs.declared.disk.Disk.{Ghosts}
use Rattle.site_headers.specs.Heads.{Head}
use Rattle.catalogue_replay.specs.Contents.{Contents}
use Rattle.catalogue_journal.specs.Catalogues.{objects_of}
use Rattle.object_store.specs.Endings.{places, HoldAll, HoldWith}
use Rattle.object_store.specs.Holdings.{Holds}
use Rattle.object_store.specs.Returns.{place_of_object, runs_on}
use Rattle.object_store.specs.declared.store.Store.{Store}
use Rattle.store_opening.specs.Opening.{live_on}
use Rattle.store_opening.specs.Standing.{Agrees}

module _ {D : Type 0} (disk : Ghosts D) (from : ℕ) (store : Store D) (contents : Contents) (taken : ℕ) (head : Head) (agrees : Agrees disk from store contents taken head) where
  runs_are : (place : ℕ) → live_on place contents.objects ≡ runs_on place (places (objects_of store.cat) []) ++ []
  runs_are place =
      ap (λ (c : Contents). live_on place c.objects) (sym agrees.contents_are)
      ∙ ap (runs_on place) (sym (append-nil (map place_of_object (objects_of store.cat))))
      ∙ sym (append-nil (runs_on place (places (objects_of store.cat) [])))

  pub alone : HoldWith (places (objects_of store.cat) []) (λ place. []) store.volumes.items
  alone place volume there = subst (Holds volume) (runs_are place) (agrees.holds place volume there)

  pub among : HoldAll (places (objects_of store.cat) []) store.volumes.items
  among place volume there = record { others = []; holds = alone place volume there }
