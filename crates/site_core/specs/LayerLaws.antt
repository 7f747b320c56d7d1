-- When the values of a site agree with its disks still.
use Rattle.std.specs.Prelude.{ℕ, ◌≤◌, List, Option}
use Rattle.std.proofs.Common.{arith}
use Rattle.log_history.specs.History.{History}
use Rattle.site_headers.specs.Heads.{Head}
use Rattle.backup_lines.specs.Lines.{Line}
use Rattle.backup_lines.specs.Spans.{Active}
use Rattle.site_disk.specs.declared.disk.Disk.{Ghosts}
use Rattle.site_disk.specs.Ledger.{Ledger}
use Rattle.catalogue_replay.specs.Contents.{Contents}
use Rattle.catalogue_journal.specs.Catalogues.{cat_of, spare_of}
use Rattle.object_volume.specs.Volumes.{disk_of as volume_disk}
use Rattle.object_store.specs.declared.store.Store.{Store as StoreValue}
use Rattle.store_opening.specs.Standing.{Agrees as StoreAgrees, IsBehind}
use Rattle.site_worlds.specs.Worlds.{Store, Ring, LaneState}
use Rattle.site_layouts.specs.Stores.{Held, contents_of}
use Rattle.logical_log.specs.declared.ring.LogRing.{LogRing}
use Rattle.site_lane_laws.specs.Agreements.{lanes_agree_later}
use Rattle.site_core.specs.declared.site.Site.{Site as Values}
use Rattle.site_core.specs.Layers.{layers}

-- a disk that was used last before an era was so before each later one
behind_later : {D : Type 0} (ledger : D → Ledger) (from to : ℕ) (it : D) → from ≤ to → IsBehind ledger from it → IsBehind ledger to it
behind_later ledger from to it le is = record { last = omega (arith, le, is.last); synced = is.synced }

store_agrees_later : {D : Type 0} (disk : Ghosts D) (from to : ℕ) (store : StoreValue D) (contents : Contents) (taken : ℕ) (head : Head) → from ≤ to
    → StoreAgrees disk from store contents taken head → StoreAgrees disk to store contents taken head
store_agrees_later disk from to store contents taken head le agrees = record {
  opened = agrees.opened;
  stands = agrees.stands;
  contents_are = agrees.contents_are;
  used = agrees.used;
  capacity = agrees.capacity;
  blocks = agrees.blocks;
  idle = agrees.idle;
  holds = agrees.holds;
  cat_behind = behind_later disk.ledger from to (cat_of store.cat) le agrees.cat_behind;
  spare_behind = behind_later disk.ledger from to (spare_of store.cat) le agrees.spare_behind;
  volumes_behind = λ place volume there. behind_later disk.ledger from to (volume_disk volume) le (agrees.volumes_behind place volume there);
}

module _ {D : Type 0} (disk : Ghosts D) where
  module _ (from to : ℕ) (le : from ≤ to) (values : Values D) where
    -- from a later era on

    pub store_later : (head : Head) (store : Store) (held : Held) → (layers disk).store_agrees from values head store held → (layers disk).store_agrees to values head store held
    store_later head store held agrees = store_agrees_later disk from to values.store (contents_of store) store.used head le agrees

    pub boot_later : (head : Head) (lines : List Line) (number : ℕ) (active : Option Active) → (layers disk).boot_agrees from values head lines number active
        → (layers disk).boot_agrees to values head lines number active
    boot_later head lines number active agrees = record { last = omega (arith, le, agrees.last); stands = agrees.stands }

    pub log_later : (head : Head) (starts : List ℕ) (history : History) (ring : Option Ring) → (layers disk).log_agrees from values head starts history ring
        → (layers disk).log_agrees to values head starts history ring
    log_later head starts history ring agrees = record { last = omega (arith, le, agrees.last); made = agrees.made; stands = agrees.stands }

    pub lanes_later : (head : Head) (history : History) (lines : List Line) (number : ℕ) (active : Option Active) (lanes : List LaneState)
        → (layers disk).lanes_agree from values head history lines number active lanes → (layers disk).lanes_agree to values head history lines number active lanes
    lanes_later head history lines number active lanes agrees = lanes_agree_later disk from to head number active lanes values.lanes.items le agrees

  module _ (from : ℕ) (values : Values D) (log : LogRing D) where
    -- behind a call of the log alone

    pub store_stays : (head : Head) (store : Store) (held : Held) → (layers disk).store_agrees from values head store held
        → (layers disk).store_agrees from (record values { log = log }) head store held
    store_stays head store held agrees = agrees

    pub boot_stays : (head : Head) (lines : List Line) (number : ℕ) (active : Option Active) → (layers disk).boot_agrees from values head lines number active
        → (layers disk).boot_agrees from (record values { log = log }) head lines number active
    boot_stays head lines number active agrees = agrees

    -- which may have more records
    pub lanes_stay : (head : Head) (history other : History) (lines : List Line) (number : ℕ) (active : Option Active) (lanes : List LaneState)
        → (layers disk).lanes_agree from values head history lines number active lanes
        → (layers disk).lanes_agree from (record values { log = log }) head other lines number active lanes
    lanes_stay head history other lines number active lanes agrees = agrees
