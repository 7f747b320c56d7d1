-- What the value of an open store knows of a site.
use Rattle.std.specs.Prelude.{ℕ}
use Rattle.site_disk.specs.declared.disk.Disk.{Ghosts}
use Rattle.site_headers.specs.Heads.{Head}
use Rattle.object_store.specs.declared.store.Store.{Store as OpenStore}
use Rattle.site_worlds.specs.Worlds.{Store}
use Rattle.site_layouts.specs.Stores.{contents_of}
use Rattle.store_opening.specs.Standing.{Agrees}

-- From an era on an open store stands for the store of a site with this head: it has its objects, in as many slots.
abbrev pub StoreStands : {D : Type 0} → Ghosts D → ℕ → OpenStore D → Store → Head → Type 0
StoreStands disk from store site_store head = Agrees disk from store (contents_of site_store) site_store.used head
