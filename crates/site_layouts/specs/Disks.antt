-- The disks of a site: which of them a move changes, and which are opened for a call.
use Rattle.std.specs.Prelude.{ℕ, ◌≤◌, Bool, true, false}
use Rattle.site_model.specs.declared.disk_name.DiskName.{DiskName}
use Rattle.site_model.specs.declared.disk_name.DiskName.TheVariants.{Cat, Spare, Boot, Log, Volume, Chunk}
use Rattle.site_worlds.specs.Moves.{Move, Mover, WorldMove, format_site, moves_on, the_log, the_catalogue, the_boot_file, the_chunks, mover}

abbrev pub is_of : Mover → DiskName → Bool
is_of the_log Log = true
is_of the_catalogue Cat = true
is_of the_boot_file Boot = true
is_of the_chunks (Chunk n) = true
is_of who name = false

-- whether a move changes what this disk shows
abbrev pub moves_disk : Move → DiskName → Bool
moves_disk move name = is_of (mover move) name

-- a site is formatted by its catalogue's header
abbrev pub moves_world_disk : WorldMove → DiskName → Bool
moves_world_disk (format_site head) name = is_of the_catalogue name
moves_world_disk (moves_on move) name = moves_disk move name

-- A site is opened in this order: 0 the store, which is the catalogue and the volumes, 1 the boot file, 2 the log, 3 the lanes.
abbrev pub depth : DiskName → ℕ
depth Cat = 0
depth Spare = 0
depth (Volume n) = 0
depth Boot = 1
depth Log = 2
depth (Chunk n) = 3

-- what is opened so far has this disk in it
abbrev pub IsOpened : ℕ → DiskName → Type 0
IsOpened opened name = depth name ≤ opened
