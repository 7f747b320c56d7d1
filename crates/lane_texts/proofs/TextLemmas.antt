-- What a reading of pages leaves, one page after another.
use Rattle.std.proofs.Common.{◌≡◌, ℕ, ◌+◌, ◌<◌, ◌≤◌, List, refl, sym, ap, subst, ◌∙◌, arith}
use borrow.Author.Count.{below_more}
use Rattle.site_disk.specs.declared.disk.Disk.{Ghosts}
use Rattle.site_disk.specs.CallsLaws.{unchanged_again, unchanged_same}
use Rattle.space_lane.specs.Chunks.{IsPage, page_at}
use Rattle.lane_texts.specs.declared.faults.ListFault.{ListFault}
use Rattle.lane_texts.specs.declared.faults.ListFault.TheVariants.{OutOfMemory, Failed, BadPage}
use Rattle.lane_texts.specs.Listings.{ArePages, FailsOn, IsFirstBad, IsNoRefusal, OnlyReads, RefusesFirst, RefusesPage}

-- answers

-- a page that is held isn't refused
pub not_refused : (space number : ℕ) (bytes : List ℕ) (fault : ListFault) → IsPage space number (page_at number bytes) → RefusesPage space number bytes fault → IsNoRefusal fault
not_refused space number bytes OutOfMemory is refuses = tt
not_refused space number bytes Failed is refuses = tt
not_refused space number bytes (BadPage page) is refuses = refuses.1 is

-- the first page that is refused
pub refused_first : (space count number : ℕ) (bytes : List ℕ) (fault : ListFault) → number < count → ArePages space number bytes → RefusesPage space number bytes fault
    → RefusesFirst space count bytes fault
refused_first space count number bytes OutOfMemory lt before refuses = tt
refused_first space count number bytes Failed lt before refuses = tt
refused_first space count number bytes (BadPage page) lt before refuses =
    subst (λ (n : ℕ). IsFirstBad space count n bytes) (sym refuses.0) (record { within = lt; bad = refuses.1; before = before })

-- a later rise
pub fails_later : (before mid now : ℕ) (fault : ListFault) → before ≤ mid → FailsOn mid now fault → FailsOn before now fault
fails_later before mid now OutOfMemory le fails = tt
fails_later before mid now Failed le fails = omega (arith, le, fails)
fails_later before mid now (BadPage page) le fails = tt

-- the same of the bytes that were read first
pub refuses_still : (space mid_space number : ℕ) (bytes mid : List ℕ) (fault : ListFault) → mid_space ≡ space → mid ≡ bytes → RefusesPage mid_space number mid fault
    → RefusesPage space number bytes fault
refuses_still space mid_space number bytes mid fault same_space same refuses =
    subst (λ (s : ℕ). RefusesPage s number bytes fault) same_space (subst (λ (l : List ℕ). RefusesPage mid_space number l fault) same refuses)

-- pages

-- a page that was read
pub page_read : (space mid_space number : ℕ) (bytes mid into : List ℕ) → mid_space ≡ space → mid ≡ bytes → into ≡ page_at number mid → IsPage mid_space number into
    → IsPage space number (page_at number bytes)
page_read space mid_space number bytes mid into same_space same found is =
    subst (λ (s : ℕ). IsPage s number (page_at number bytes)) same_space (subst (λ (l : List ℕ). IsPage mid_space number l) (found ∙ ap (page_at number) same) is)

-- one page more that is as the layout says
pub pages_more : (space number : ℕ) (bytes : List ℕ) → ArePages space number bytes → IsPage space number (page_at number bytes) → ArePages space (number + 1) bytes
pages_more space number bytes before is = below_more (λ (n : ℕ). IsPage space n (page_at n bytes)) number before is

module _ {D : Type 0} (g : Ghosts D) where
  pub reads_nothing : (disk : D) → OnlyReads g disk disk
  reads_nothing disk = record { bytes = refl; images = unchanged_same }

  pub reads_again : (old mid new : D) → OnlyReads g old mid → OnlyReads g mid new → OnlyReads g old new
  reads_again old mid new first second = record { bytes = second.bytes ∙ first.bytes; images = unchanged_again first.images second.images }
