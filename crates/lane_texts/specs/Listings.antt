-- What is told of a space from its chunk, and why it isn't.
use Rattle.std.specs.Prelude.{◌≡◌, ℕ, ◌<◌, ◌≤◌, ◌^◌, List, [], ◌∷◌, ◌++◌, length, codes, string_bytes}
use Rattle.std.specs.Fmt.{decimal}
use Rattle.std.specs.List.{AllByRecursion}
use Rattle.hex.specs.Hex.{encode_lower}
use Rattle.sha2.specs.Hashers.{Holds256}
use Rattle.log_history.specs.Effects.{Page}
use Rattle.site_disk.specs.Causes.{Rose}
use Rattle.site_disk.specs.Images.{Unchanged}
use Rattle.site_disk.specs.declared.disk.Disk.{Ghosts}
use Rattle.before_images.specs.Saved.{place_of}
use Rattle.space_pages.specs.Layout.{all_bytes}
use Rattle.space_pages.specs.Pages.{used}
use Rattle.page_texts.specs.Texts.{used_lines}
use Rattle.lane_ways.specs.Pictures.{Stand, pages_at}
use Rattle.space_lane.specs.Chunks.{IsPage, page_at}
use Rattle.lane_texts.specs.declared.faults.ListFault.{ListFault}
use Rattle.lane_texts.specs.declared.faults.ListFault.TheVariants.{OutOfMemory, Failed, BadPage}
use Rattle.lane_texts.specs.declared.listing.Listing.{Listing}

-- All pages of a space as they stand on its chunk, which is as long as they take. A stamp has eight bytes, so it is below 2^64.
pub record HoldsPages (space count : ℕ) (pages : List Page) (bytes : List ℕ) : Type 0 where
  pub count_is : length pages ≡ count
  pub stand : Stand space 0 pages bytes
  pub stamps : AllByRecursion (λ page. page.stamp < 2 ^ 64) pages
  pub long : place_of pages_at count ≤ length bytes

-- the bytes of each of so many pages are as the layout says
abbrev pub ArePages : ℕ → ℕ → List ℕ → Type 0
ArePages space count bytes = (number : ℕ) → number < count → IsPage space number (page_at number bytes)

-- the first of so many pages whose bytes aren't
pub record IsFirstBad (space count page : ℕ) (bytes : List ℕ) : Type 0 where
  pub within : page < count
  pub bad : IsPage space page (page_at page bytes) → ⊥
  pub before : ArePages space page bytes

-- a page that is refused is that
abbrev pub RefusesFirst : ℕ → ℕ → List ℕ → ListFault → Type 0
RefusesFirst space count bytes OutOfMemory = Unit {0}
RefusesFirst space count bytes Failed = Unit {0}
RefusesFirst space count bytes (BadPage page) = IsFirstBad space count page bytes

-- a page that is refused is the one with this number, whose bytes aren't as the layout says
abbrev pub RefusesPage : ℕ → ℕ → List ℕ → ListFault → Type 0
RefusesPage space number bytes OutOfMemory = Unit {0}
RefusesPage space number bytes Failed = Unit {0}
RefusesPage space number bytes (BadPage page) = (page ≡ number) × (IsPage space number (page_at number bytes) → ⊥)

-- no page is refused
abbrev pub IsNoRefusal : ListFault → Type 0
IsNoRefusal OutOfMemory = Unit {0}
IsNoRefusal Failed = Unit {0}
IsNoRefusal (BadPage page) = ⊥

-- the disk didn't fail
abbrev pub IsNoFailure : ListFault → Type 0
IsNoFailure OutOfMemory = Unit {0}
IsNoFailure Failed = ⊥
IsNoFailure (BadPage page) = Unit {0}

-- the disk failed only where its count rose
abbrev pub FailsOn : ℕ → ℕ → ListFault → Type 0
FailsOn before now OutOfMemory = Unit {0}
FailsOn before now Failed = Rose before now
FailsOn before now (BadPage page) = Unit {0}

-- nothing was written
pub record OnlyReads {D : Type 0} (g : Ghosts D) (old new : D) : Type 0 where
  pub bytes : g.bytes new ≡ g.bytes old
  pub images : Unchanged (g.image old) (g.image new)

-- the last line of a space's text
abbrev pub space_line : List ℕ → ℕ → ℕ → List ℕ → List ℕ
space_line name count used digest =
    codes "space " ++ (name ++ (codes " pages " ++ (decimal count ++ (codes " used " ++ (decimal used ++ (codes " digest " ++ (encode_lower digest ++ 10 ∷ [])))))))

-- a listing has the lines of these pages, the first of a space, their bytes, and how many were written
pub record Lists (space : ℕ) (name : List ℕ) (pages : List Page) (listing : Listing) : Type 0 where
  pub lines : string_bytes listing.text ≡ used_lines name 0 pages
  pub holds : Holds256 listing.hasher (all_bytes space 0 pages)
  pub count : listing.used ≡ used pages
