-- What a vote on one object leaves of a store and of a site.
use Rattle.std.specs.Prelude.{ℕ, List, Result, Err, Some}
use Rattle.site_disk.specs.Ledger.{EraView, MayUse}
use Rattle.site_disk.specs.declared.disk.Disk.{Ghosts}
use Rattle.bsa_descriptor.specs.declared.descriptor.Descriptor.{Descriptor}
use Rattle.catalogue_journal.specs.Catalogues.{cat_of}
use Rattle.object_store.specs.Stores.{MayUseEach}
use Rattle.object_store.specs.declared.store.Store.{Store}
use Rattle.site_courses.specs.Faults.{too_many_objects, catalogue_full}
use Rattle.site_layouts.specs.Stages.{site_stage}
use Rattle.site_core.specs.Calls.{CallFrom}
use Rattle.site_core.specs.Faults.{fault_of}
use Rattle.site_core.specs.Layers.{layers}
use Rattle.site_core.specs.declared.faults.SiteFault.{SiteFault}
use Rattle.site_core.specs.declared.faults.SiteFault.TheVariants.{CatalogueFull, TooManyObjects}
use Rattle.site_core.specs.declared.site.Site.{Site}
use Rattle.walks.specs.Courses.{Call, only}
use Rattle.site_votes.specs.Objects.{MayVoteOn, vote_course}

module _ {D : Type 0} where
  -- the disks of the catalogue and of the volumes may be used in this era
  pub record MayUseStore (disk : Ghosts D) (era : EraView) (store : Store D) : Type 0 where
    pub cat : MayUse era (disk.ledger (cat_of store.cat))
    pub volumes : MayUseEach disk.ledger era store.volumes.items

  -- By which course a vote on an object goes: where the catalogue refuses it nothing is done.
  abbrev pub Votes : Ghosts D → ℕ → Descriptor → List ℕ → ℕ → ℕ → Site D → Site D → Result ℕ SiteFault → Type 0
  Votes disk volume descriptor bytes from to old new (Err CatalogueFull) =
      Call (site_stage (layers disk)) 0 from to old new (λ site. only (Some catalogue_full)) (Some catalogue_full)
  Votes disk volume descriptor bytes from to old new (Err TooManyObjects) =
      Call (site_stage (layers disk)) 0 from to old new (λ site. only (Some too_many_objects)) (Some too_many_objects)
  Votes disk volume descriptor bytes from to old new result =
      CallFrom (site_stage (layers disk)) (MayVoteOn volume descriptor bytes) 0 from to old new (vote_course volume descriptor bytes) (fault_of result)
