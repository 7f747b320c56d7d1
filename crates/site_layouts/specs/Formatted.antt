-- What formatting leaves of each disk of a site.
use Rattle.std.specs.Prelude.{◌≡◌, ℕ, ◌<◌, ◌≤◌, List, [], length, None}
use Rattle.boot_file.specs.Places.{HoldsBoot}
use Rattle.log_files.specs.Files.{new_files}
use Rattle.log_files.specs.Ring.{HoldsRing}
use Rattle.gated_slots.specs.Slots.{used}
use Rattle.catalogue_replay.specs.Contents.{empty}
use Rattle.catalogue_replay.specs.Places.{NamesArea, Journals}
use Rattle.catalogue_replay.specs.Answers.{HasHead}
use Rattle.object_volume.specs.Headers.{HasVolume}
use Rattle.site_headers.specs.Heads.{Head}
use Rattle.site_headers.specs.Headers.{HasHeader, spare_tail}
use Rattle.space_lane.specs.Stops.{IsFormatted as IsFormattedChunk}
use Rattle.backup_lines.specs.declared.lanes.LaneState.TheVariants.{At}
use Rattle.site_model.specs.declared.disk_name.DiskName.{DiskName}
use Rattle.site_model.specs.declared.disk_name.DiskName.TheVariants.{Cat, Spare, Boot, Log, Volume, Chunk}
use Rattle.site_worlds.specs.Lanes.{pages_of_space}
use Rattle.site_layouts.specs.Stores.{catalogue_area}

-- the catalogue: a header, and a journal without a record
pub record FormattedCatalogue (head : Head) (bytes : List ℕ) : Type 0 where
  pub heads : HasHead head bytes
  pub mark : NamesArea bytes
  pub journal : Journals catalogue_area empty bytes
  pub used : used catalogue_area bytes ≡ 0

-- The boot file has no line and no restore; the log holds file 1, which is open and has no record; a chunk has the mark of the first place,
-- nothing kept of pages before they were changed, and empty pages.
abbrev pub IsFormatted : DiskName → Head → List ℕ → Type 0
IsFormatted Cat head bytes = FormattedCatalogue head bytes
IsFormatted Spare head bytes = HasHeader (spare_tail head.site) bytes
IsFormatted Boot head bytes = HoldsBoot head.site [] 0 None bytes
IsFormatted Log head bytes = HoldsRing head.site (new_files 1 1 0) bytes
IsFormatted (Volume n) head bytes = n ≤ 16 → HasVolume n head.site head.blocks bytes
IsFormatted (Chunk n) head bytes = n < length head.spaces → IsFormattedChunk head.site n (pages_of_space head.spaces n) (At 0 0) bytes
