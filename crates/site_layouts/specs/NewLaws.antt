-- A new site's disks, as they are formatted, show the new world; a site that isn't formatted, and worlds told apart.
use Rattle.std.specs.Prelude.{◌≡◌, ℕ, ◌+◌, List, [], ◌∷◌, map, slice_get, false, Option, Some, None}
use Rattle.std.specs.Option.{option_map}
use Rattle.std.proofs.Common.{refl, sym, ap, subst, ◌∙◌}
use Rattle.std.proofs.lemmas.Option.{slice_get-map, slice_get_within}
use Rattle.log_history.specs.Effects.{Page}
use Rattle.onbar_grammar.specs.Script.{Space}
use Rattle.before_images.specs.Saved.{Saved, restored, put_back, saved_at}
use Rattle.catalogue_replay.specs.Answers.{HasNoHead}
use Rattle.catalogue_replay.proofs.SameLemmas.{journals_once}
use Rattle.site_headers.specs.Heads.{Head}
use Rattle.site_headers.specs.HeaderLaws.{one_catalogue_header}
use Rattle.space_pages.specs.Pages.{brought, empty_pages}
use Rattle.lane_ways.specs.Ways.{lane_pages}
use Rattle.lane_ways.specs.Pictures.{Stand, images_at, pages_at}
use Rattle.backup_lines.specs.declared.lanes.LaneState.TheVariants.{At}
use Rattle.space_lane.specs.Stops.{IsFormatted as IsFormattedChunk}
use Rattle.site_model.specs.declared.disk_name.DiskName.{DiskName}
use Rattle.site_model.specs.declared.disk_name.DiskName.TheVariants.{Cat, Spare, Boot, Log, Volume, Chunk}
use Rattle.site_worlds.specs.Worlds.{LaneState, Store, World, stands, unformatted, formatted, new_site}
use Rattle.site_worlds.specs.Lanes.{pages_of_space}
use Rattle.site_worlds.specs.Moves.{WorldMove, format_site, moves_on, world_after}
use Rattle.site_worlds.specs.Fitness.{IsFit}
use Rattle.world_laws.specs.NewLaws.{CanWorldMove}
use Rattle.site_layouts.specs.Disks.{moves_world_disk}
use Rattle.site_layouts.specs.Stores.{Held, HoldsCatalogue, catalogue_area, contents_of}
use Rattle.site_layouts.specs.Chunks.{HoldsPages, ShowsChunk}
use Rattle.site_layouts.specs.Layouts.{ShowsSite, ShowsWorld}
use Rattle.site_layouts.specs.ApartLaws.{Awaits, apart}
use Rattle.site_layouts.specs.Formatted.{IsFormatted}

-- a chunk

brought_none : (space first : ℕ) (pages : List Page) → brought space first [] pages ≡ pages
brought_none space first [] = refl
brought_none space first (page ∷ pages) = ap (λ (rest : List Page). page ∷ rest) (brought_none space (first + 1) pages)

new_pages : (space count : ℕ) → lane_pages [] 0 space 0 0 count ≡ empty_pages count
new_pages space count = brought_none space 0 (empty_pages count)

none_back : (limit upto part : ℕ) (bytes : List ℕ) → saved_at images_at bytes ≡ None → restored images_at pages_at limit upto part bytes ≡ bytes
unfolding restored
none_back limit upto part bytes none = ap (λ (saved : Option Saved). put_back pages_at limit upto part saved bytes) none

new_chunk : (site space count : ℕ) (bytes : List ℕ) → IsFormattedChunk site space count (At 0 0) bytes
    → HoldsPages site space count (stands 0 0) 0 0 (lane_pages [] 0 space 0 0 count) bytes
new_chunk site space count bytes chunk = record {
  holds = record { state = At 0 0; is = refl; holds = chunk.holds };
  stand = subst (λ (pages : List Page). Stand space 0 pages (restored images_at pages_at count 0 0 bytes)) (sym (new_pages space count))
      (subst (Stand space 0 (empty_pages count)) (sym (none_back count 0 0 bytes chunk.none.none)) chunk.pages);
}

new_option : (head : Head) (n : ℕ) (space : Option Space) (bytes : List ℕ) → slice_get head.spaces n ≡ space → IsFormatted (Chunk n) head bytes
    → ShowsChunk head [] [] 0 None n (option_map (λ s. stands 0 0) space) bytes
new_option head n None bytes is whole = tt
new_option head n (Some space) bytes is whole =
    new_chunk head.site n (pages_of_space head.spaces n) bytes (whole (slice_get_within head.spaces n space is))

new_chunk_shows : (head : Head) (n : ℕ) (bytes : List ℕ) → IsFormatted (Chunk n) head bytes
    → ShowsChunk head [] [] 0 None n (slice_get (map (λ s. stands 0 0) head.spaces) n) bytes
new_chunk_shows head n bytes whole =
    subst (λ (lane : Option LaneState). ShowsChunk head [] [] 0 None n lane bytes) (sym (slice_get-map (λ (s : Space). stands 0 0) head.spaces n))
    (new_option head n (slice_get head.spaces n) bytes refl whole)

-- all disks

-- The disks of a new site, as they are formatted, show it.
pub new_site_shows : (head : Head) (held : Held) (name : DiskName) (bytes : List ℕ) → held.area ≡ 0 → IsFormatted name head bytes
    → ShowsSite name (new_site head) held bytes
new_site_shows head held Cat bytes own whole = record {
  heads = whole.heads;
  own_area = own;
  mark = whole.mark;
  journal = whole.journal;
  used = whole.used;
}
new_site_shows head held Spare bytes own whole = whole
new_site_shows head held Boot bytes own whole = whole
new_site_shows head held Log bytes own whole = whole
new_site_shows head held (Volume n) bytes own whole = λ there. record { header = whole there; objects = tt }
new_site_shows head held (Chunk n) bytes own whole = new_chunk_shows head n bytes whole

-- formatting

-- what the disks have to have already where a site is formatted: all but the catalogue are; and where a move is made, as of one site
abbrev pub AwaitsWorld : WorldMove → DiskName → List ℕ → Type 0
AwaitsWorld (format_site head) name bytes = IsFormatted name head bytes
AwaitsWorld (moves_on move) name bytes = Awaits move name bytes

-- A move that may be made leaves apart what the other disks show of a world.
pub world_apart : (move : WorldMove) (world : World) (held : Held) (name : DiskName) (bytes : List ℕ) → held.area ≡ 0 → CanWorldMove move world → IsFit world
    → AwaitsWorld move name bytes → moves_world_disk move name ≡ false → ShowsWorld name world held bytes
    → ShowsWorld name (world_after move world) held bytes
world_apart (format_site head) world held name bytes own can fit awaits rests shows = new_site_shows head held name bytes own awaits
world_apart (moves_on move) unformatted held name bytes own can fit awaits rests shows = absurd can
world_apart (moves_on move) (formatted site) held name bytes own can fit awaits rests shows = apart move site held name bytes can fit awaits rests shows

-- worlds told apart

-- A catalogue that shows a formatted site shows no other world but sites with the same head.
pub not_both : (head : Head) (store : Store) (held : Held) (bytes : List ℕ) → HasNoHead bytes → HoldsCatalogue head store held bytes → ⊥
not_both head store held bytes none holds = none head holds.heads.is_head holds.heads.header

pub one_head : (first second : Head) (store other : Store) (held with : Held) (bytes : List ℕ) → HoldsCatalogue first store held bytes → HoldsCatalogue second other with bytes
    → first ≡ second
one_head first second store other held with bytes holds also =
    one_catalogue_header first second holds.heads.is_head also.heads.is_head (sym holds.heads.header.tail_stands ∙ also.heads.header.tail_stands)

-- and of a formatted one it tells what the catalogue has, and how many of its slots are in use.
pub one_contents : (first second : Head) (store other : Store) (held with : Held) (bytes : List ℕ) → HoldsCatalogue first store held bytes → HoldsCatalogue second other with bytes
    → (contents_of store ≡ contents_of other) × (store.used ≡ other.used)
one_contents first second store other held with bytes holds also = (
  journals_once catalogue_area (contents_of store) (contents_of other) bytes holds.journal also.journal,
  sym holds.used ∙ also.used,
)
