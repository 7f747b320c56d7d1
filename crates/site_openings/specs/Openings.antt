-- What the bytes of a site's disks refuse: a form that can't be begun.
use Rattle.std.specs.Prelude.{◌≡◌, ◌⊎◌, ℕ, ◌<◌, ◌≤◌, List, [], ◌∷◌, length, Bool, true, false, Option, None, Some, Ok}
use Rattle.onbar_grammar.specs.Script.{place_of}
use Rattle.command_grammar.specs.Words.{Command, CommandForm, command_of, init_form, transactions_form, show_form}
use Rattle.site_headers.specs.Heads.{Head}
use Rattle.site_headers.specs.Headers.{HasHeader}
use Rattle.site_headers.specs.Areas.{slot_count}
use Rattle.backup_lines.specs.Lines.{Line}
use Rattle.backup_lines.specs.Spans.{Active}
use Rattle.backup_lines.specs.declared.lanes.LaneState.{LaneState}
use Rattle.catalogue_replay.specs.Contents.{Contents}
use Rattle.catalogue_replay.specs.Answers.{HasHead, HasNoHead, IsCatalogue, IsFirstBad}
use Rattle.store_opening.specs.Opening.{IsGoodVolume, IsBadVolume}
use Rattle.boot_file.specs.Places.{HoldsBoot}
use Rattle.boot_file.specs.Answers.{IsFirstBad as IsFirstBadBoot}
use Rattle.log_files.specs.Files.{LogFiles}
use Rattle.log_files.specs.Ring.{HoldsRing}
use Rattle.log_files.specs.declared.faults.LogFault.{LogFault}
use Rattle.log_files.specs.declared.faults.LogFault.TheVariants.{LogLost as LostLog, BadRecord as BadSlot, Failed, OutOfMemory as NoMemory}
use Rattle.log_scan.specs.Refusals.{Refuses as LogRefuses}
use Rattle.held_log.specs.Strays.{FirstStray, first_stray}
use Rattle.space_lane.specs.Chunks.{HasMark, chunk_tail}
use Rattle.site_model.specs.declared.disk_name.DiskName.{DiskName}
use Rattle.site_model.specs.declared.disk_name.DiskName.TheVariants.{Cat, Spare, Boot, Log, Volume, Chunk}
use Rattle.site_model.specs.declared.status.Status.{Status}
use Rattle.site_model.specs.declared.status.Status.TheVariants.{NotFormatted, AlreadyFormatted, BadRecord, NoSuchSpace, NoSuchPage, NeedsRestart, ChunkLost, LogLost}
use Rattle.site_model.specs.Runs.{name_at, show_refusal}
use Rattle.site_worlds.specs.Lanes.{pages_of_space}
use Rattle.site_layouts.specs.Stores.{catalogue_area}

-- what the disks hold, by name
abbrev pub Contents_of : Type 0
Contents_of = DiskName → List ℕ

-- the catalogue's header is a valid one
abbrev pub Named : Head → Contents_of → Type 0
Named head contents = HasHead head (contents Cat)

-- what stands for a slot where another thing is bad
abbrev pub no_slot : ℕ
no_slot = 4294967295

-- chunks

abbrev pub HasChunk : Head → ℕ → List ℕ → Type 0
HasChunk head space bytes = HasHeader (chunk_tail head.site space (pages_of_space head.spaces space)) bytes

-- a chunk with a header, and a mark in the grammar
pub record IsGoodChunk (head : Head) (space : ℕ) (bytes : List ℕ) : Type 0 where
  pub header : HasChunk head space bytes
  pub state : LaneState
  pub mark : HasMark state bytes

-- the lane of this space alone is wanted, or those of all spaces
abbrev pub IsWanted : Option ℕ → Head → ℕ → Type 0
IsWanted None head space = space < length head.spaces
IsWanted (Some one) head space = space ≡ one

-- this is the first wanted chunk without a header
pub record IsFirstLost (wanted : Option ℕ) (head : Head) (contents : Contents_of) (space : ℕ) : Type 0 where
  pub is_wanted : IsWanted wanted head space
  pub is_lost : HasChunk head space (contents (Chunk space)) → ⊥
  pub before : (other : ℕ) → IsWanted wanted head other → other < space → HasChunk head other (contents (Chunk other))

-- all wanted chunks have a header, and this is the first one with a mark that isn't in the grammar
pub record IsFirstBadChunk (wanted : Option ℕ) (head : Head) (contents : Contents_of) (space : ℕ) : Type 0 where
  pub headers : (other : ℕ) → IsWanted wanted head other → HasChunk head other (contents (Chunk other))
  pub is_wanted : IsWanted wanted head space
  pub bad : (state : LaneState) → HasMark state (contents (Chunk space)) → ⊥
  pub before : (other : ℕ) → IsWanted wanted head other → other < space → IsGoodChunk head other (contents (Chunk other))

-- the lanes that are wanted refuse: the lowest one that is lost, else the lowest with a bad mark
abbrev pub LanesRefuse : Option ℕ → Head → Contents_of → Status → Type 0
LanesRefuse wanted head contents status =
    ((space : ℕ) × IsFirstLost wanted head contents space × (status ≡ ChunkLost (name_at head.spaces space)))
    ⊎ ((space : ℕ) × IsFirstBadChunk wanted head contents space × (status ≡ BadRecord (Chunk space) no_slot))

abbrev pub LanesAllow : Option ℕ → Head → Contents_of → Type 0
LanesAllow wanted head contents = (space : ℕ) → IsWanted wanted head space → IsGoodChunk head space (contents (Chunk space))

-- volumes

pub record IsFirstBadVolume (head : Head) (has : Contents) (contents : Contents_of) (number : ℕ) : Type 0 where
  pub within : number ≤ 16
  pub bad : IsBadVolume number head.site has.objects (contents (Volume number))
  pub before : (other : ℕ) → other < number → IsGoodVolume other head.site has.objects (contents (Volume other))

-- the disk that a fault of the catalogue names
abbrev pub catalogue_disk : Bool → DiskName
catalogue_disk false = Cat
catalogue_disk true = Spare

-- the log of this site isn't opened
abbrev pub log_status : LogFault → Status → Type 0
log_status LostLog status = status ≡ LogLost
log_status (BadSlot slot) status = status ≡ BadRecord Log slot
log_status Failed status = ⊥
log_status NoMemory status = ⊥

-- What a form asks of its disks before its work, in this order where it asks for several: that the catalogue is there or isn't; that
-- catalogue and spare disk, the boot file, and the volumes are as they should be; that no restore is under way; that the site has a space or a
-- page; that the log is there, with records in order; and its lanes.
pub data Check : Type 0 where
  formatted_site : Check
  unformatted_site : Check
  good_catalogue : Check
  good_boot : Check
  good_volumes : Check
  no_restore : Check
  shown_place : (name : List ℕ) (page : Option ℕ) → Check
  good_log : Check
  records_in_order : Check
  all_lanes : Check
  shown_lane : (name : List ℕ) → Check

-- the space that is shown, if the site has it
abbrev pub LaneOfRefuses : Option (ℕ × ℕ) → Head → Contents_of → Status → Type 0
LaneOfRefuses None head contents status = ⊥
LaneOfRefuses (Some place) head contents status = LanesRefuse (Some place.0) head contents status

abbrev pub LaneOfAllows : Option (ℕ × ℕ) → Head → Contents_of → Type 0
LaneOfAllows None head contents = ⊥
LaneOfAllows (Some place) head contents = LanesAllow (Some place.0) head contents

-- a check refuses what the disks hold, with a status
abbrev pub Refuses : Check → Contents_of → Status → Type 0
Refuses formatted_site contents status = HasNoHead (contents Cat) × (status ≡ NotFormatted)
Refuses unformatted_site contents status = ((head : Head) × Named head contents) × (status ≡ AlreadyFormatted)
Refuses good_catalogue contents status =
    (spare : Bool) × (slot : ℕ) × IsFirstBad catalogue_area (contents Cat) (contents Spare) spare slot × (status ≡ BadRecord (catalogue_disk spare) slot)
Refuses good_boot contents status =
    (head : Head) × Named head contents × ((slot : ℕ) × IsFirstBadBoot head.site (contents Boot) slot × (status ≡ BadRecord Boot slot))
Refuses good_volumes contents status =
    (head : Head) × (has : Contents) × IsCatalogue slot_count head has (contents Cat) (contents Spare)
    × ((number : ℕ) × IsFirstBadVolume head has contents number × (status ≡ BadRecord (Volume number) no_slot))
Refuses no_restore contents status =
    (head : Head) × Named head contents
    × ((lines : List Line) × (number : ℕ) × (active : Active) × HoldsBoot head.site lines number (Some active) (contents Boot) × (status ≡ NeedsRestart active.number))
Refuses (shown_place name page) contents status = (head : Head) × Named head contents × (show_refusal head.spaces name page ≡ Some status)
Refuses good_log contents status = (head : Head) × Named head contents × ((fault : LogFault) × LogRefuses head.site (contents Log) fault × log_status fault status)
Refuses records_in_order contents status =
    (head : Head) × Named head contents
    × ((files : LogFiles) × HoldsRing head.site files (contents Log) × ((slot : ℕ) × FirstStray files slot × (status ≡ BadRecord Log slot)))
Refuses all_lanes contents status = (head : Head) × Named head contents × LanesRefuse None head contents status
Refuses (shown_lane name) contents status = (head : Head) × Named head contents × LaneOfRefuses (place_of name head.spaces) head contents status

-- a check lets them pass
abbrev pub Allows : Check → Contents_of → Type 0
Allows formatted_site contents = (head : Head) × Named head contents
Allows unformatted_site contents = HasNoHead (contents Cat)
Allows good_catalogue contents = (head : Head) × (has : Contents) × IsCatalogue slot_count head has (contents Cat) (contents Spare)
Allows good_boot contents =
    (head : Head) × Named head contents × ((lines : List Line) × (number : ℕ) × (active : Option Active) × HoldsBoot head.site lines number active (contents Boot))
Allows good_volumes contents =
    (head : Head) × (has : Contents) × IsCatalogue slot_count head has (contents Cat) (contents Spare)
    × ((number : ℕ) → number ≤ 16 → IsGoodVolume number head.site has.objects (contents (Volume number)))
Allows no_restore contents =
    (head : Head) × Named head contents × ((lines : List Line) × (number : ℕ) × HoldsBoot head.site lines number None (contents Boot))
Allows (shown_place name page) contents = (head : Head) × Named head contents × (show_refusal head.spaces name page ≡ None)
Allows good_log contents = (head : Head) × Named head contents × ((files : LogFiles) × HoldsRing head.site files (contents Log))
Allows records_in_order contents =
    (head : Head) × Named head contents × ((files : LogFiles) × HoldsRing head.site files (contents Log) × (first_stray files ≡ None))
Allows all_lanes contents = (head : Head) × Named head contents × LanesAllow None head contents
Allows (shown_lane name) contents = (head : Head) × Named head contents × LaneOfAllows (place_of name head.spaces) head contents

-- the first check that doesn't let them pass refuses them
abbrev pub RefusedBy : List Check → Contents_of → Status → Type 0
RefusedBy [] contents status = ⊥
RefusedBy (check ∷ checks) contents status = Refuses check contents status ⊎ (Allows check contents × RefusedBy checks contents status)

-- all let them pass
abbrev pub AllowedBy : List Check → Contents_of → Type 0
AllowedBy [] contents = Unit {0}
AllowedBy (check ∷ checks) contents = Allows check contents × AllowedBy checks contents

-- what each form asks, in this order
abbrev pub checks_of : CommandForm → List Check
checks_of (init_form blocks spaces) = unformatted_site ∷ []
checks_of transactions_form =
    formatted_site ∷ good_catalogue ∷ good_boot ∷ good_volumes ∷ no_restore ∷ good_log ∷ records_in_order ∷ all_lanes ∷ []
checks_of (show_form name page) =
    formatted_site ∷ good_catalogue ∷ good_boot ∷ good_volumes ∷ no_restore ∷ shown_place name page ∷ good_log ∷ records_in_order ∷ shown_lane name ∷ []

-- why a form is refused for what its disks hold
abbrev pub DisksRefuse : CommandForm → Contents_of → Status → Type 0
DisksRefuse form contents status = RefusedBy (checks_of form) contents status

-- the words are a form, and it is refused for what the disks hold
abbrev pub IsRefused : List (List ℕ) → Contents_of → Status → Type 0
IsRefused words contents status = (command : Command) × (command_of words ≡ Ok command) × DisksRefuse command.form contents status

-- the disks hold what a form needs
abbrev pub IsOpenFor : CommandForm → Contents_of → Type 0
IsOpenFor form contents = AllowedBy (checks_of form) contents

abbrev pub OpensFor : List (List ℕ) → Contents_of → Type 0
OpensFor words contents = (command : Command) × (command_of words ≡ Ok command) × IsOpenFor command.form contents

-- the statuses of a form that is refused for what the disks hold
abbrev pub IsOfDisks : Status → Type 0
IsOfDisks NotFormatted = Unit {0}
IsOfDisks AlreadyFormatted = Unit {0}
IsOfDisks LogLost = Unit {0}
IsOfDisks (BadRecord disk slot) = Unit {0}
IsOfDisks (NoSuchSpace name) = Unit {0}
IsOfDisks (NoSuchPage n) = Unit {0}
IsOfDisks (NeedsRestart number) = Unit {0}
IsOfDisks (ChunkLost name) = Unit {0}
IsOfDisks status = ⊥

-- Two statuses name the same bad disk, or are the same: which slot is named where a disk ends before its slots, although gates of it are
-- open, isn't laid down.
abbrev pub NamesAsWell : Status → Status → Type 0
NamesAsWell (BadRecord disk slot) (BadRecord other place) = disk ≡ other
NamesAsWell status other = status ≡ other
