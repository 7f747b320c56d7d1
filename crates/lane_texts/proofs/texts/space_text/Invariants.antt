use Rattle.std.proofs.Common.{◌≡◌, ◌*◌, ◌≤◌, List, IsTrue, take}
use Rattle.log_history.specs.Effects.{Page}
use Rattle.site_disk.specs.Ledger.{Uses}
use Rattle.space_lane.specs.Lanes.{with_disk}
use Rattle.lane_texts.specs.Listings.{ArePages, HoldsPages, Lists, OnlyReads}
use Rattle.lane_texts.proofs.texts.space_text.Given as goal

abbrev pub invariant-loop-number : goal.invariant-loop-number
invariant-loop-number g l = record {
  value : l.lane ≡ with_disk l.initial.lane l.lane.disk;
  reads : OnlyReads g.D.Disk l.initial.lane.disk l.lane.disk;
  uses : Uses l.era (4096 * l.number) 0 (g.D.Disk.ledger l.initial.lane.disk) (g.D.Disk.ledger l.lane.disk);
  counted : l.listing.used ≤ l.number;
  pages : IsTrue g.D.Disk.is_modelled → ArePages l.initial.lane.space l.number (g.D.Disk.bytes l.initial.lane.disk);
  lists : IsTrue g.D.Disk.is_modelled → (pages : List Page) → HoldsPages l.initial.lane.space l.count pages (g.D.Disk.bytes l.initial.lane.disk)
      → Lists l.initial.lane.space l.name (take l.number pages) l.listing;
}
