-- What a chunk shows of a lane: its header, the record of its mark, and its pages once what is kept for its place is put back.
use Rattle.std.specs.Prelude.{◌≡◌, ◌⊎◌, ℕ, ◌+◌, ◌≤◌, List, [], ◌∷◌, length, Some}
use Rattle.site_disk.specs.Bytes.{extent}
use Rattle.log_history.specs.Effects.{Page}
use Rattle.space_pages.specs.Layout.{page_bytes}
use Rattle.twin_mark.specs.Marks.{record_at}
use Rattle.before_images.specs.Saved.{place_of, restored}

-- where a chunk's mark, its before-images and its pages stand
abbrev pub mark_at : ℕ
mark_at = 4096

abbrev pub images_at : ℕ
images_at = 8192

abbrev pub pages_at : ℕ
pages_at = 77824

-- what is shown: the header, the record of the mark, the space and the place that this names, and the pages there
pub record Picture : Type 0 where
  pub header : List ℕ
  pub record_there : List ℕ
  pub space : ℕ
  pub upto : ℕ
  pub part : ℕ
  pub pages : List Page

-- pages of a space stand in the bytes, from a number on
abbrev pub Stand : ℕ → ℕ → List Page → List ℕ → Type 0
Stand space number [] bytes = Unit {0}
Stand space number (page ∷ pages) bytes = (extent (place_of pages_at number) 4096 bytes ≡ page_bytes space number page) × Stand space (number + 1) pages bytes

pub record Shows (picture : Picture) (bytes : List ℕ) : Type 0 where
  pub header : extent 0 4096 bytes ≡ picture.header
  pub mark : record_at mark_at bytes ≡ Some picture.record_there
  pub long : place_of pages_at (length picture.pages) ≤ length bytes
  pub pages : Stand picture.space 0 picture.pages (restored images_at pages_at (length picture.pages) picture.upto picture.part bytes)

-- what a stop within a step leaves: the place before it, or the one behind it
abbrev pub MayMove : Picture → Picture → List ℕ → Type 0
MayMove first second bytes = Shows first bytes ⊎ Shows second bytes
