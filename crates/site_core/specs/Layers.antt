-- The layers of a site's values.
use Rattle.site_disk.specs.declared.disk.Disk.{Ghosts}
use Rattle.store_opening.specs.Standing.{Agrees as StoreAgrees}
use Rattle.site_layouts.specs.Stages.{Layers}
use Rattle.site_layouts.specs.Stores.{contents_of}
use Rattle.site_core.specs.declared.site.Site.{Site}
use Rattle.site_core.specs.Disks.{images_of}
use Rattle.site_lane_laws.specs.Agreements.{LanesAgree}
use Rattle.site_core.specs.Agreements.{BootAgrees, LogAgrees}

abbrev pub layers : {D : Type 0} → Ghosts D → Layers (Site D)
layers disk = record {
  images = images_of disk;
  store_agrees = λ from site head store held. StoreAgrees disk from site.store (contents_of store) store.used head;
  boot_agrees = λ from site head lines number active. BootAgrees disk from head.site lines number active site.boot;
  log_agrees = λ from site head starts history ring. LogAgrees disk from head.site starts history ring site.log;
  lanes_agree = λ from site head history lines number active lanes. LanesAgree disk from head number active lanes site.lanes.items;
}
