-- What the answer says of the lanes of a site.
use Rattle.std.proofs.Common.{◌≡◌, ℕ, ◌+◌, ◌<◌, ◌≤◌, length, Option, Some, None, Result, Ok, Err, sym, ap, subst, ◌∙◌, arith, inl, inr}
use Rattle.std.specs.Prelude.{slice_get, MatchResult, OnOk, IsErrOf}
use Rattle.std.specs.Option.{option_map}
use Rattle.std.proofs.lemmas.List.{length-map}
use Rattle.site_disk.specs.Causes.{Rose}
use Rattle.site_disk.specs.Ledger.{EraView}
use Rattle.site_disk.specs.declared.disk.Disk.{Ghosts}
use Rattle.site_headers.specs.Heads.{Head, IsHead}
use Rattle.site_headers.specs.Views.{head_of, space_of as space_in}
use Rattle.site_headers.specs.declared.heads.SiteHead.{SiteHead}
use Rattle.logical_log.specs.Rings.{IsOpen as IsOpenLog}
use Rattle.space_lane.specs.Lanes.{count_of, disk_of, space_of, IsOpen}
use Rattle.space_lane.specs.declared.lane.Lane.{Lane}
use Rattle.site_lanes.specs.Lanes.{OfEach}
use Rattle.site_lanes.specs.declared.refusals.LanesFault.{LanesFault}
use Rattle.site_lanes.specs.declared.refusals.LanesFault.TheVariants.{ChunkLost, BadMark, Failed}
use Rattle.site_model.specs.declared.disk_name.DiskName.{DiskName}
use Rattle.site_model.specs.declared.disk_name.DiskName.TheVariants.{Chunk}
use Rattle.site_lane_laws.specs.OpeningLaws.{there_is}
use Rattle.site_worlds.specs.Lanes.{pages_of_space}
use Rattle.site_openings.specs.Openings.{IsWanted}
use Rattle.site_core.specs.Disks.{faults_on, faults_or}
use Rattle.site_core.specs.Faults.{IsNamed, of_lanes}
use Rattle.site_core.specs.Made.{IsMadeSite}
use Rattle.site_core.specs.Opened.{IsOpenSite}
use Rattle.site_core.specs.declared.faults.SiteFault.{SiteFault}
use Rattle.site_core.specs.declared.faults.SiteFault.TheVariants.{OutOfMemory, DiskFault, NotFormatted, AlreadyFormatted, BadRecord, NeedsRestart, NoSuchSpace, NoSuchPage, ChunkLost as LostChunk, LogLost, LogFull, StoreFull, CatalogueFull, TooManyObjects, BootFull}
use Rattle.site_core.specs.declared.site.Site.{Site}
use Rattle.site_lane_opening.specs.Left.{IsLanesFault}
use Rattle.site_lane_opening.specs.Steps.{Coming, FailsOne, Opens, Stops, StopsSite}
use Rattle.site_lane_opening.proofs.DiskLemmas.{Kept, opens_keep, stops_keep}

module _ {D : Type 0} (disk : Ghosts D) (wanted : Option ℕ) (head : Head) (era : EraView) (refused : Coming disk) (to : EraView) (old new : Site D) where
  abbrev pub Came : {A : Type 0} → Result A SiteFault → Type 0
  Came result = MatchResult result (λ a. Opens disk wanted head era old.lanes.items new.lanes.items) (λ fault. StopsSite disk wanted head era refused to.number fault old new)

  -- what stays at each end
  pub kept_by : {A : Type 0} (result : Result A SiteFault) (key : to.key ≡ era.key) → era.number ≤ to.number → OnOk result (to.number ≡ era.number + 2) → Came result
      → Kept disk era to key wanted head old.lanes.items new.lanes.items
  kept_by (Ok a) key later done came = opens_keep disk era to key wanted head old.lanes.items new.lanes.items (omega (arith, done)) came
  kept_by (Err fault) key later done came = stops_keep disk era to key wanted head old.lanes.items new.lanes.items later refused came.own came.stops

  fails_of : (n : ℕ) → Stops disk wanted head era refused to.number (Failed n) old.lanes.items new.lanes.items → FailsOne disk wanted head (Failed n) old.lanes.items new.lanes.items
  fails_of n stops = elim stops [
    | inl syncing ↦ syncing.1
    | inr (lt, inl failed) ↦ failed.1
    | inr (lt, inr refuses) ↦ absurd refuses.1
  ]

  -- the disk of a lane failed
  rose_on : length new.lanes.items ≡ length old.lanes.items → ((n : ℕ) → IsWanted wanted head n → n < length old.lanes.items) → (n : ℕ)
      → FailsOne disk wanted head (Failed n) old.lanes.items new.lanes.items → Rose (faults_on disk old (Chunk n)) (faults_on disk new (Chunk n))
  rose_on as_many within n fails =
      let same : n ≡ fails.space = failed_once n fails.space fails.fault_is in
      let lt : n < length old.lanes.items = subst (λ (k : ℕ). k < length old.lanes.items) (sym same) (within fails.space fails.is_wanted) in
      let was = there_is old.lanes.items n lt in
      let is = there_is new.lanes.items n (omega (arith, lt, as_many)) in
      subst (λ (o : Option (Lane D)). Rose (faults_or disk (option_map disk_of o)) (faults_on disk new (Chunk n))) (sym was.1)
      (subst (λ (o : Option (Lane D)). Rose (faults_or disk (Some (disk_of was.0))) (faults_or disk (option_map disk_of o))) (sym is.1)
      (fails.rose was.0 is.0 (ap (λ (k : ℕ). slice_get old.lanes.items k) (sym same) ∙ was.1) (ap (λ (k : ℕ). slice_get new.lanes.items k) (sym same) ∙ is.1)))
    where
      failed_once : (a b : ℕ) → Failed a ≡ Failed b → a ≡ b
      failed_once a b is = cc

  rose_own : length new.lanes.items ≡ length old.lanes.items → ((n : ℕ) → IsWanted wanted head n → n < length old.lanes.items) → (own : LanesFault)
      → Stops disk wanted head era refused to.number own old.lanes.items new.lanes.items → (name : DiskName) → of_lanes head.spaces own ≡ DiskFault name → Rose (faults_on disk old name) (faults_on disk new name)
  rose_own as_many within (ChunkLost n) stops name is = absurd cc
  rose_own as_many within (BadMark n) stops name is = absurd cc
  rose_own as_many within (Failed n) stops name is =
      subst (λ (d : DiskName). Rose (faults_on disk old d) (faults_on disk new d)) (named n name is) (rose_on as_many within n (fails_of n stops))
    where
      named : (k : ℕ) (d : DiskName) → DiskFault (Chunk k) ≡ DiskFault d → Chunk k ≡ d
      named k d same = cc

  pub failed_by : {A : Type 0} (result : Result A SiteFault) → length new.lanes.items ≡ length old.lanes.items → ((n : ℕ) → IsWanted wanted head n → n < length old.lanes.items) → Came result
      → (name : DiskName) → IsErrOf result (DiskFault name) → Rose (faults_on disk old name) (faults_on disk new name)
  failed_by (Ok a) as_many within came name is = absurd cc
  failed_by (Err fault) as_many within came name is =
      let same : fault ≡ DiskFault name = cc in rose_own as_many within came.own came.stops name (sym came.fault_is ∙ same)

  -- Lanes that are opened.
  module _ (made : IsMadeSite old) (within : (n : ℕ) → IsWanted wanted head n → n < length old.lanes.items) (opens : Opens disk wanted head era old.lanes.items new.lanes.items) where
    opened_at : (n : ℕ) → IsWanted wanted head n → (lane : Lane D) → slice_get new.lanes.items n ≡ Some lane → IsOpen lane × (space_of lane ≡ n)
    opened_at n w lane there =
        let was = there_is old.lanes.items n (within n w) in
        let tries = opens.each n was.0 lane w was.1 there in
        let at = made.lanes n was.0 was.1 in
        (tries.came.opened, tries.works.space ∙ ap space_of tries.syncs.value ∙ at.space)

    pub opened_site : (count : ℕ) → count ≤ 16 → ((n : ℕ) → n < count → IsWanted wanted head n) → new ≡ record old { lanes = new.lanes } → IsOpenLog old.log → IsOpenSite count new
    opened_site count few all value log = record {
      log = subst (λ (s : Site D). IsOpenLog s.log) (sym value) log;
      few = few;
      enough = omega (arith, few, opens.as_many, made.count);
      lanes = λ k lt lane there. opened_at k (all k lt) lane there;
    }

    pub opened_one : (space : ℕ) → IsWanted wanted head space → OfEach (λ place lane. place ≡ space → IsOpen lane) new.lanes.items
    opened_one space w n lane there same = (opened_at n (subst (IsWanted wanted head) (sym same) w) lane there).0

    pub counted_one : (space : ℕ) → IsWanted wanted head space → OfEach (λ place lane. place ≡ space → count_of lane ≡ pages_of_space head.spaces space) new.lanes.items
    counted_one space w n lane there same =
        let own = subst (IsWanted wanted head) (sym same) w in
        let was = there_is old.lanes.items n (within n own) in
        (opens.each n was.0 lane own was.1 there).came.told.pages_are ∙ ap (pages_of_space head.spaces) same

-- the spaces of a head
pub wanted_all : {D : Type 0} (old : Site D) (heads : SiteHead) → IsMadeSite old → IsHead (head_of heads) → (n : ℕ) → IsWanted None (head_of heads) n → n < length old.lanes.items
wanted_all old heads made head n w = omega (arith, w, head.few, made.count)

pub few_spaces : (heads : SiteHead) → IsHead (head_of heads) → length heads.spaces.items ≤ 16
few_spaces heads head = omega (arith, head.few, length-map heads.spaces.items space_in)

pub all_wanted : (heads : SiteHead) (n : ℕ) → n < length heads.spaces.items → IsWanted None (head_of heads) n
all_wanted heads n lt = omega (arith, lt, length-map heads.spaces.items space_in)

pub wanted_one : {D : Type 0} (old : Site D) (heads : SiteHead) (space : ℕ) → IsMadeSite old → IsHead (head_of heads) → space < length heads.spaces.items
    → (n : ℕ) → IsWanted (Some space) (head_of heads) n → n < length old.lanes.items
wanted_one old heads space made head lt n w = omega (arith, w, lt, few_spaces heads head, made.count)

-- by another head that is the same
pub head_is : {D : Type 0} (old : Site D) (wanted : Option ℕ) (a b : Head) → a ≡ b → ((n : ℕ) → IsWanted wanted a n → n < length old.lanes.items) → (n : ℕ) → IsWanted wanted b n
    → n < length old.lanes.items
head_is old wanted a b same within = subst (λ (h : Head). (n : ℕ) → IsWanted wanted h n → n < length old.lanes.items) same within

pub space_within : (heads : SiteHead) (space : ℕ) (b : Head) → head_of heads ≡ b → space < length heads.spaces.items → (n : ℕ) → IsWanted (Some space) b n → n < length b.spaces
space_within heads space b same lt n w =
    let here : space < length b.spaces = subst (λ (h : Head). space < length h.spaces) same (omega (arith, lt, length-map heads.spaces.items space_in)) in omega (arith, here, w)

-- a fault of lanes names a lost chunk
pub lanes_named : (wanted : Option ℕ) (head : Head) (fault : SiteFault) → IsLanesFault wanted head fault → IsNamed head.spaces fault
lanes_named wanted head (LostChunk space name) is = is
lanes_named wanted head OutOfMemory is = tt
lanes_named wanted head (DiskFault disk) is = tt
lanes_named wanted head NotFormatted is = tt
lanes_named wanted head AlreadyFormatted is = tt
lanes_named wanted head (BadRecord disk slot) is = tt
lanes_named wanted head (NeedsRestart number) is = tt
lanes_named wanted head (NoSuchSpace name) is = tt
lanes_named wanted head (NoSuchPage page) is = tt
lanes_named wanted head LogLost is = tt
lanes_named wanted head (LogFull why) is = tt
lanes_named wanted head (StoreFull volume) is = tt
lanes_named wanted head CatalogueFull is = tt
lanes_named wanted head TooManyObjects is = tt
lanes_named wanted head BootFull is = tt
