-- Lanes that are synced and tried, one by one.
use Rattle.std.proofs.Common.{◌≡◌, ℕ, ◌+◌, ◌<◌, ◌≤◌, List, length, Some, None, Result, Ok, Err, refl, sym, ap, subst, ◌∙◌, arith, get_or, inl, inr, ⊎_elim}
use Rattle.std.specs.Prelude.{slice_get, IsTrue}
use Rattle.std.proofs.lemmas.Bool.{cases_lt}
use Rattle.std.proofs.lemmas.List.{length-map}
use Rattle.std.proofs.lemmas.Option.{slice_get_read, slice_get_within}
use Rattle.site_disk.specs.Causes.{Rose}
use Rattle.site_disk.specs.CallsLaws.{may_use_again, may_use_later}
use Rattle.site_disk.specs.Ledger.{EraView, MayUse}
use Rattle.site_disk.specs.declared.disk.Disk.{Ghosts}
use Rattle.backup_lines.specs.declared.lanes.LaneState.{LaneState as State}
use Rattle.site_headers.specs.Heads.{Head}
use Rattle.site_headers.specs.Views.{head_of, space_of as space_in}
use Rattle.site_headers.specs.declared.heads.SiteHead.{SiteHead}
use Rattle.site_headers.specs.declared.heads.SpaceHead.{SpaceHead}
use Rattle.space_lane.specs.Chunks.{HasMark}
use Rattle.space_lane.specs.Lanes.{disk_of, space_of, state_of, IsMade}
use Rattle.space_lane.specs.declared.lane.Lane.{Lane}
use Rattle.site_lanes.specs.Lanes.{AreOpened, CameTo, ChangesOne, Explains, FailsAt, HasCome, IsBad, IsHeaded, IsLost, IsOpened, IsRefused, IsSyncedBy, MayUseEach, OfEach, OfFirst, OfSpaces, RoseAt, SameFrom, Syncs, Works}
use Rattle.site_lanes.specs.declared.refusals.LanesFault.{LanesFault}
use Rattle.site_lanes.specs.declared.refusals.LanesFault.TheVariants.{ChunkLost, BadMark, Failed}
use Rattle.site_lanes.specs.declared.refusals.Opening.TheVariants.{Opened, Lost, Bad}
use Rattle.site_lanes.specs.declared.refusals.Opening.{Opening}
use Rattle.site_lanes.proofs.OneLemmas.{one_value, changed_here, each_again, changed_other, changes_weaker, of_both}
use Rattle.site_model.specs.declared.disk_name.DiskName.TheVariants.{Chunk}
use Rattle.site_worlds.specs.Lanes.{pages_of_space}
use Rattle.site_lane_laws.specs.OpeningLaws.{pages_here, there_is}
use Rattle.site_openings.specs.Openings.{HasChunk, IsFirstBadChunk, IsFirstLost, IsGoodChunk, IsWanted}
use Rattle.site_core.specs.Made.{AreMade, IsMadeAt}
use Rattle.site_lane_opening.specs.Steps.{ChangesTo, Comes, ComesOne, Coming, FailsOne, OfThis, Opens, Refused, StopsOpening, StopsSyncing, ToAny, ToOpened, ToRefused, Touches, Tries, contents_in, era_behind}
use Rattle.site_lane_opening.proofs.WantedLemmas.{has_of_headed, headed_of_has, mark_of_mid, mid_of_mark}

-- two eras
pub same_era : (a b : EraView) → a.number ≡ b.number → a.key ≡ b.key → a ≡ b
same_era a b number key =
    ap (λ (n : ℕ). record { number = n; key = a.key }) number ∙ ap (λ (k : ℕ). record { number = b.number; key = k }) key

-- the disk of a lane failed behind its sync
rose_behind : {D : Type 0} (disk : Ghosts D) (n : ℕ) (old mid new : List (Lane D)) → length mid ≡ length old
    → ((was m : Lane D) → slice_get old n ≡ Some was → slice_get mid n ≡ Some m → (disk.ledger (disk_of was)).faults ≤ (disk.ledger (disk_of m)).faults)
    → RoseAt disk n mid new → RoseAt disk n old new
rose_behind disk n old mid new as_many later rises was is there behind =
    let m = there_is mid n (omega (arith, as_many, slice_get_within old n was there)) in
    let rose : Rose (disk.ledger (disk_of m.0)).faults (disk.ledger (disk_of is)).faults = rises m.0 is m.1 behind in
    let le : (disk.ledger (disk_of was)).faults ≤ (disk.ledger (disk_of m.0)).faults = later was m.0 there m.1 in
    omega (arith, rose, le)

-- a lane that was synced may be used in the next era, and is made as it was
module _ {D : Type 0} (disk : Ghosts D) (era : EraView) where
  pub synced_may : (was mid : Lane D) → MayUse era (disk.ledger (disk_of was)) → Syncs disk era was mid → MayUse (era_behind era) (disk.ledger (disk_of mid))
  synced_may was mid may syncs =
      let later : era.number ≤ era.number + 1 = omega arith in
      may_use_later later refl (may_use_again may syncs.ledger)

  pub synced_made : (was mid : Lane D) → IsMade was → Syncs disk era was mid → IsMade mid
  synced_made was mid made syncs = subst IsMade (sym syncs.value) (record { mark = made.mark; images = made.images })

  module _ (count : ℕ) (old mid : List (Lane D)) (as_many : length mid ≡ length old) (syncs : OfFirst count (λ space was is. Syncs disk era was is) old mid) (same : SameFrom count old mid) where
    -- what holds of each lane, and still behind its sync
    each_synced : (P Q : ℕ → Lane D → Type 0) → OfEach P old → ((n : ℕ) (was is : Lane D) → P n was → Syncs disk era was is → Q n is) → ((n : ℕ) (lane : Lane D) → P n lane → Q n lane)
        → OfEach Q mid
    each_synced P Q each means stays n lane here =
        let w = there_is old n (omega (arith, as_many, slice_get_within mid n lane here)) in
        ⊎_elim
        (λ lt. means n w.0 lane (each n w.0 w.1) (syncs n w.0 lane lt w.1 here))
        (λ ge. stays n lane (each n lane (sym (same n ge) ∙ here)))
        (cases_lt n count)

    pub each_may : MayUseEach disk era old → MayUseEach disk (era_behind era) mid
    each_may may =
        let later : era.number ≤ era.number + 1 = omega arith in
        each_synced (λ n lane. MayUse era (disk.ledger (disk_of lane))) (λ n lane. MayUse (era_behind era) (disk.ledger (disk_of lane))) may
        (λ n was is m s. synced_may was is m s) (λ n lane m. may_use_later later refl m)

    pub each_made : AreMade old → OfEach (λ n lane. IsMade lane) mid
    each_made made =
        each_synced (λ n lane. IsMadeAt n lane) (λ n lane. IsMade lane) made (λ n was is m s. synced_made was is m.made s) (λ n lane m. m.made)

-- all lanes

module _ {D : Type 0} (disk : Ghosts D) (era : EraView) (heads : SiteHead) where
  abbrev head : Head
  head = head_of heads

  abbrev items : List SpaceHead
  items = heads.spaces.items

  abbrev next : EraView
  next = era_behind era

  wanted_within : (n : ℕ) → IsWanted None head n → n < length items
  wanted_within n wanted = omega (arith, wanted, length-map items space_in)

  within_wanted : (n : ℕ) → n < length items → IsWanted None head n
  within_wanted n lt = omega (arith, lt, length-map items space_in)

  past_wanted : (n : ℕ) → (IsWanted None head n → ⊥) → length items ≤ n
  past_wanted n isnt = ⊎_elim (λ lt. absurd (isnt (within_wanted n lt))) (λ ge. ge) (cases_lt n (length items))

  -- the syncs alone
  pub synced_alone : (count : ℕ) (old new : List (Lane D)) → count ≡ length items → length new ≡ length old
      → OfFirst count (λ space was is. Syncs disk era was is) old new → SameFrom count old new → Touches disk None head (λ pages was is. Syncs disk era was is) old new
  synced_alone count old new end as_many syncs beyond = record {
    as_many = as_many;
    each = λ n was is wanted there behind. syncs n was is (omega (arith, end, wanted_within n wanted)) there behind;
    others = λ n isnt. beyond n (omega (arith, end, past_wanted n isnt));
  }

  pub fails_syncing : (count : ℕ) (old new : List (Lane D)) → count ≡ length items → (fault : LanesFault) → FailsAt disk count old new fault → FailsOne disk None head fault old new
  fails_syncing count old new end (ChunkLost n) fails = absurd fails
  fails_syncing count old new end (BadMark n) fails = absurd fails
  fails_syncing count old new end (Failed n) fails =
      record { space = n; is_wanted = within_wanted n (omega (arith, end, fails.0)); fault_is = refl; rose = fails.1 }

  -- what comes behind them
  module _ (count : ℕ) (old mid new : List (Lane D)) (end : count ≡ length items) (made : AreMade old) (enough : length items ≤ length old)
      (as_many : length mid ≡ length old) (still : length new ≡ length mid)
      (syncs : OfFirst count (λ space was is. Syncs disk era was is) old mid) (synced : OfFirst count (λ space was is. IsSyncedBy disk era was is) old mid)
      (same : SameFrom count old mid) (beyond : SameFrom (length items) mid new) (works : OfSpaces items (Works disk next heads.site) mid new) where
    pub tried : (to : Coming disk) → OfSpaces items to mid new → Touches disk None head (Tries disk era heads.site to) old new
    tried to came = record {
      as_many = still ∙ as_many;
      each = λ n was is wanted there behind.
          let lt : n < length items = wanted_within n wanted in
          let m = there_is mid n (omega (arith, lt, enough, as_many)) in
          let h = there_is items n lt in
          let pages : pages_of_space head.spaces n ≡ h.0.pages = pages_here items head.spaces n h.0 refl h.1 in
          record {
            mid = m.0;
            syncs = syncs n was m.0 (omega (arith, end, lt)) there m.1;
            synced = synced n was m.0 (omega (arith, end, lt)) there m.1;
            works = subst (λ (k : ℕ). Works disk next heads.site k m.0 is) (sym pages) (works n h.0 m.0 is h.1 m.1 behind);
            came = subst (λ (k : ℕ). to k m.0 is) (sym pages) (came n h.0 m.0 is h.1 m.1 behind);
          };
      others = λ n isnt. beyond n (past_wanted n isnt) ∙ same n (omega (arith, end, past_wanted n isnt));
    }

    pub tried_any : Touches disk None head (Tries disk era heads.site (ToAny disk)) old new
    tried_any = tried (ToAny disk) (λ n h was is there here behind. tt)

    has_headed : (n : ℕ) → n < length items → (h : SpaceHead) (m : Lane D) → slice_get items n ≡ Some h → slice_get mid n ≡ Some m
        → IsHeaded disk heads.site h.pages m → HasChunk head n (contents_in disk old (Chunk n))
    has_headed n lt h m of_head here header =
        let w = there_is old n (omega (arith, lt, enough)) in
        has_of_headed disk era head n old w.0 m w.1 (made n w.0 w.1).space (syncs n w.0 m (omega (arith, end, lt)) w.1 here) (synced n w.0 m (omega (arith, end, lt)) w.1 here)
        (subst (λ (k : ℕ). IsHeaded disk heads.site k m) (sym (pages_here items head.spaces n h refl of_head)) header)

    headed_has : (n : ℕ) → n < length items → (h : SpaceHead) (m : Lane D) → slice_get items n ≡ Some h → slice_get mid n ≡ Some m
        → HasChunk head n (contents_in disk old (Chunk n)) → IsHeaded disk heads.site h.pages m
    headed_has n lt h m of_head here has =
        let w = there_is old n (omega (arith, lt, enough)) in
        subst (λ (k : ℕ). IsHeaded disk heads.site k m) (pages_here items head.spaces n h refl of_head)
        (headed_of_has disk era head n old w.0 m w.1 (made n w.0 w.1).space (syncs n w.0 m (omega (arith, end, lt)) w.1 here) (synced n w.0 m (omega (arith, end, lt)) w.1 here) has)

    mid_marked : (n : ℕ) → n < length items → (m : Lane D) → slice_get mid n ≡ Some m → (state : State) → HasMark state (contents_in disk old (Chunk n))
        → HasMark state (disk.bytes (disk_of m))
    mid_marked n lt m here state mark =
        let w = there_is old n (omega (arith, lt, enough)) in
        mid_of_mark disk era head n old w.0 m w.1 (made n w.0 w.1).space (syncs n w.0 m (omega (arith, end, lt)) w.1 here) (synced n w.0 m (omega (arith, end, lt)) w.1 here) state mark

    marked_mid : (n : ℕ) → n < length items → (m : Lane D) → slice_get mid n ≡ Some m → (state : State) → HasMark state (disk.bytes (disk_of m))
        → HasMark state (contents_in disk old (Chunk n))
    marked_mid n lt m here state mark =
        let w = there_is old n (omega (arith, lt, enough)) in
        mark_of_mid disk era head n old w.0 m w.1 (made n w.0 w.1).space (syncs n w.0 m (omega (arith, end, lt)) w.1 here) (synced n w.0 m (omega (arith, end, lt)) w.1 here) state mark

    -- the first lane that is lost
    lost_first : (n : ℕ) → IsTrue disk.is_modelled → Explains disk heads.site items mid new (ChunkLost n) → IsFirstLost None head (contents_in disk old) n
    lost_first n tells explains =
        let is = explains tells in
        let h = there_is items n is.0 in
        let m = there_is mid n (omega (arith, is.0, enough, as_many)) in
        record {
          is_wanted = within_wanted n is.0;
          is_lost = λ has. is.1 h.0 m.0 h.1 m.1 (headed_has n is.0 h.0 m.0 h.1 m.1 has);
          before = λ k wanted lt.
              let below = wanted_within k wanted in
              let g = there_is items k below in
              let l = there_is mid k (omega (arith, below, enough, as_many)) in
              has_headed k below g.0 l.0 g.1 l.1 (is.2 k lt g.0 l.0 g.1 l.1);
        }

    -- one that was tried and isn't bad is good
    good_before : (k : ℕ) (below : k < length items) (h : SpaceHead) (m is : Lane D) → slice_get items k ≡ Some h → slice_get mid k ≡ Some m
        → HasCome disk next heads.site h.pages m is → IsHeaded disk heads.site h.pages m → (IsBad disk heads.site h.pages m → ⊥) → IsTrue disk.is_modelled
        → IsGoodChunk head k (contents_in disk old (Chunk k))
    good_before k below h m is of_head here (Opened, opened) header not_bad tells = record {
      header = has_headed k below h m of_head here header;
      state = state_of is;
      mark = marked_mid k below m here (state_of is) (opened.found tells);
    }
    good_before k below h m is of_head here (Lost, came) header not_bad tells = absurd (came.1 tells header)
    good_before k below h m is of_head here (Bad, came) header not_bad tells = absurd (not_bad (came.1 tells))

    -- the first one whose mark is bad
    bad_first : (n : ℕ) → IsTrue disk.is_modelled → Explains disk heads.site items mid new (BadMark n) → OfSpaces items (HasCome disk next heads.site) mid new
        → IsFirstBadChunk None head (contents_in disk old) n
    bad_first n tells explains came =
        let is = explains tells in
        let lt : n < length items = is.1.0 in
        let h = there_is items n lt in
        let m = there_is mid n (omega (arith, lt, enough, as_many)) in
        let bad : IsBad disk heads.site h.0.pages m.0 = is.1.1 h.0 m.0 h.1 m.1 in
        record {
          headers = λ k wanted.
              let below = wanted_within k wanted in
              let g = there_is items k below in
              let l = there_is mid k (omega (arith, below, enough, as_many)) in
              has_headed k below g.0 l.0 g.1 l.1 (is.0 k below g.0 l.0 g.1 l.1);
          is_wanted = within_wanted n lt;
          bad = λ state mark. bad.none state (mid_marked n lt m.0 m.1 state mark);
          before = λ k wanted less.
              let below = wanted_within k wanted in
              let g = there_is items k below in
              let l = there_is mid k (omega (arith, below, enough, as_many)) in
              let f = there_is new k (omega (arith, below, enough, as_many, still)) in
              good_before k below g.0 l.0 f.0 g.1 l.1 (came k g.0 l.0 f.0 g.1 l.1 f.1) (is.0 k below g.0 l.0 g.1 l.1) (is.1.2 k less g.0 l.0 g.1 l.1) tells;
        }

    -- The opening of them all was refused, or a disk failed.
    pub stops_all : (fault : LanesFault) → Explains disk heads.site items mid new fault → AreOpened disk next heads.site items mid new fault
        → StopsOpening disk None head era (ToAny disk) fault old new
    stops_all (ChunkLost n) explains others = inr (tried_any, λ tells. lost_first n tells explains)
    stops_all (BadMark n) explains others = inr (tried_any, λ tells. bad_first n tells explains others)
    stops_all (Failed n) explains others = inl (
      tried_any,
      record {
        space = n;
        is_wanted = within_wanted n explains.0;
        fault_is = refl;
        rose = rose_behind disk n old mid new as_many (λ was m there here. (syncs n was m (omega (arith, end, explains.0)) there here).ledger.faults) explains.1;
      },
    )

    pub opens_all : OfSpaces items (IsOpened disk next heads.site) mid new → Opens disk None head era old new
    opens_all opened = tried (ToOpened disk next heads.site) opened

-- one lane

-- the same lane, changed in two ways
both_changes : {D : Type 0} (P Q : Lane D → Lane D → Type 0) (place : ℕ) (old new : List (Lane D)) → ChangesOne P place old new → ChangesOne Q place old new
    → ChangesOne (λ was is. P was is × Q was is) place old new
both_changes P Q place old new one two = record {
  was = one.was;
  is = one.is;
  there = one.there;
  changed = one.changed;
  by = (one.by, of_both Q place old new two Q two.by one.was one.is one.there (changed_here P place old new one));
}

module _ {D : Type 0} (disk : Ghosts D) (era : EraView) (heads : SiteHead) (space : ℕ) (lt : space < length heads.spaces.items) where
  abbrev the_head : Head
  the_head = head_of heads

  abbrev count : ℕ
  count = pages_of_space the_head.spaces space

  -- what the opening of one lane came to
  module _ (h : SpaceHead) (of_head : slice_get heads.spaces.items space ≡ Some h) (mid new : List (Lane D)) where
    abbrev Worked : Type 0
    Worked = ChangesOne (Works disk era heads.site h.pages) space mid new

    same_pages : h.pages ≡ count
    same_pages = sym (pages_here heads.spaces.items the_head.spaces space h refl of_head)

    comes_by : (to : Coming disk) → Worked → ChangesOne (to h.pages) space mid new → ChangesTo disk era the_head space to mid new
    comes_by to works came =
        subst (λ (k : ℕ). ChangesOne (Comes disk era heads.site to k) space mid new) same_pages
        (changes_weaker (λ was is. Works disk era heads.site h.pages was is × to h.pages was is) (Comes disk era heads.site to h.pages) space mid new
        (λ was is both. record { works = both.0; came = both.1 })
        (both_changes (Works disk era heads.site h.pages) (to h.pages) space mid new works came))

    of_this : (P : ℕ → Lane D → Type 0) (Q : Lane D → Lane D → Type 0) → (came : ChangesOne Q space mid new) → (IsTrue disk.is_modelled → P h.pages came.was) → OfThis disk era the_head space (P count) mid
    of_this P Q came holds tells lane there =
        subst (P count) (one_value mid space came.was lane came.there there) (subst (λ (k : ℕ). P k came.was) same_pages (holds tells))

    pub comes_opened : {T : Type 0} (opening : Opening) (answer : Result T LanesFault) → Refused space opening answer → Worked
        → ChangesOne (CameTo disk era heads.site h.pages opening) space mid new → ComesOne disk era the_head space answer mid new
    comes_opened Opened (Ok done) told works came = comes_by (ToOpened disk era heads.site) works came
    comes_opened Opened (Err fault) told works came = absurd told
    comes_opened Lost (Ok done) told works came = absurd told
    comes_opened {T = T} Lost (Err fault) told works came =
        subst (λ (f : LanesFault). ComesOne disk era the_head space {T = T} (Err f) mid new) (sym told) (
          refl,
          comes_by (ToRefused disk era) works (changes_weaker (CameTo disk era heads.site h.pages Lost) (IsRefused disk era) space mid new (λ was is both. both.0) came),
          of_this (λ pages lane. IsLost disk heads.site pages lane) (CameTo disk era heads.site h.pages Lost) came (λ tells. came.by.1 tells),
        )
    comes_opened Bad (Ok done) told works came = absurd told
    comes_opened {T = T} Bad (Err fault) told works came =
        subst (λ (f : LanesFault). ComesOne disk era the_head space {T = T} (Err f) mid new) (sym told) (
          refl,
          comes_by (ToRefused disk era) works (changes_weaker (CameTo disk era heads.site h.pages Bad) (IsRefused disk era) space mid new (λ was is both. both.0) came),
          of_this (λ pages lane. IsBad disk heads.site pages lane) (CameTo disk era heads.site h.pages Bad) came (λ tells. came.by.1 tells),
        )

    pub comes_failed : {T : Type 0} (answer : Result T LanesFault) (fault : LanesFault) → answer ≡ Err fault → fault ≡ Failed space → Worked → RoseAt disk space mid new
        → ComesOne disk era the_head space answer mid new
    comes_failed {T} answer fault is same works rises =
        subst (λ (a : Result T LanesFault). ComesOne disk era the_head space a mid new) (sym (is ∙ ap (λ (f : LanesFault). Err f) same)) (
          refl,
          comes_by (ToAny disk) works (changes_weaker (Works disk era heads.site h.pages) (λ was is. Unit {0}) space mid new (λ was is w. tt) works),
          rises,
        )

-- the head of a space as it is read
pub head_there : (items : List SpaceHead) (place at : ℕ) (h : SpaceHead) → place ≡ at → at < length items → h ≡ get_or items place h → slice_get items at ≡ Some h
head_there items place at h same lt is =
    subst (λ (k : ℕ). slice_get items k ≡ Some h) same (slice_get_read items (length items) place h refl (omega (arith, same, lt)) is)

module _ {D : Type 0} (disk : Ghosts D) (era : EraView) (head : Head) (space : ℕ) where
  abbrev size : ℕ
  size = pages_of_space head.spaces space

  -- one lane of all that has become another
  touches_one : (P : Coming disk) (old new : List (Lane D)) → length new ≡ length old → ChangesOne (P size) space old new → Touches disk (Some space) head P old new
  touches_one P old new as_many change = record {
    as_many = as_many;
    each = λ n was is wanted there behind.
        subst (λ (k : ℕ). P (pages_of_space head.spaces k) was is) (sym wanted)
        (of_both (P size) space old new change (P size) change.by was is (subst (λ (k : ℕ). slice_get old k ≡ Some was) wanted there)
        (subst (λ (k : ℕ). slice_get new k ≡ Some is) wanted behind));
    others = λ n isnt. changed_other (P size) space old new change n isnt;
  }

  -- its sync failed
  pub stops_syncing : (fault : LanesFault) (old new : List (Lane D)) → length new ≡ length old → ChangesOne (Syncs disk era) space old new
      → (fault ≡ Failed space) × RoseAt disk space old new → StopsSyncing disk (Some space) head era fault old new
  stops_syncing fault old new as_many change fails =
      (touches_one (λ pages was is. Syncs disk era was is) old new as_many change, record { space = space; is_wanted = refl; fault_is = fails.0; rose = fails.1 })

  module _ (old mid new : List (Lane D)) (made : AreMade old) (as_many : length mid ≡ length old) (still : length new ≡ length mid)
      (syncs : ChangesOne (Syncs disk era) space old mid) (synced : ChangesOne (IsSyncedBy disk era) space old mid) where
    here : slice_get mid space ≡ Some syncs.is
    here = changed_here (Syncs disk era) space old mid syncs

    was_synced : IsSyncedBy disk era syncs.was syncs.is
    was_synced = of_both (IsSyncedBy disk era) space old mid synced (IsSyncedBy disk era) synced.by syncs.was syncs.is syncs.there here

    tried_one : (to : Coming disk) → ChangesTo disk (era_behind era) head space to mid new → Touches disk (Some space) head (Tries disk era head.site to) old new
    tried_one to change = record {
      as_many = still ∙ as_many;
      each = λ n was is wanted there behind.
          let was_here : slice_get old space ≡ Some was = subst (λ (k : ℕ). slice_get old k ≡ Some was) wanted there in
          let is_here : slice_get new space ≡ Some is = subst (λ (k : ℕ). slice_get new k ≡ Some is) wanted behind in
          let comes : Comes disk (era_behind era) head.site to size syncs.is is =
          of_both (Comes disk (era_behind era) head.site to size) space mid new change (Comes disk (era_behind era) head.site to size) change.by syncs.is is here is_here in
          subst (λ (k : ℕ). Tries disk era head.site to (pages_of_space head.spaces k) was is) (sym wanted) (record {
            mid = syncs.is;
            syncs = of_both (Syncs disk era) space old mid syncs (Syncs disk era) syncs.by was syncs.is was_here here;
            synced = of_both (IsSyncedBy disk era) space old mid synced (IsSyncedBy disk era) synced.by was syncs.is was_here here;
            works = comes.works;
            came = comes.came;
          });
      others = λ n isnt. changed_other (Comes disk (era_behind era) head.site to size) space mid new change n isnt ∙ changed_other (Syncs disk era) space old mid syncs n isnt;
    }

    not_below : {P : Type 0} (other : ℕ) → other ≡ space → other < space → P
    not_below other same less = absurd (omega (arith, same, less))

    one_lost : OfThis disk (era_behind era) head space (IsLost disk head.site size) mid → IsTrue disk.is_modelled → IsFirstLost (Some space) head (contents_in disk old) space
    one_lost is tells = record {
      is_wanted = refl;
      is_lost = λ has. is tells syncs.is here
          (headed_of_has disk era head space old syncs.was syncs.is syncs.there (made space syncs.was syncs.there).space syncs.by was_synced has);
      before = λ other wanted less. not_below other wanted less;
    }

    one_bad : OfThis disk (era_behind era) head space (IsBad disk head.site size) mid → IsTrue disk.is_modelled → IsFirstBadChunk (Some space) head (contents_in disk old) space
    one_bad is tells =
        let bad : IsBad disk head.site size syncs.is = is tells syncs.is here in
        record {
          headers = λ other wanted. subst (λ (k : ℕ). HasChunk head k (contents_in disk old (Chunk k))) (sym wanted)
              (has_of_headed disk era head space old syncs.was syncs.is syncs.there (made space syncs.was syncs.there).space syncs.by was_synced bad.header);
          is_wanted = refl;
          bad = λ state mark. bad.none state
              (mid_of_mark disk era head space old syncs.was syncs.is syncs.there (made space syncs.was syncs.there).space syncs.by was_synced state mark);
          before = λ other wanted less. not_below other wanted less;
        }

    -- Its opening was refused, or its disk failed.
    pub stops_one : (fault : LanesFault) → ComesOne disk (era_behind era) head space {T = Unit {0}} (Err fault) mid new
        → StopsOpening disk (Some space) head era (ToRefused disk (era_behind era)) fault old new
    stops_one (ChunkLost n) came = inr (
      tried_one (ToRefused disk (era_behind era)) came.1,
      λ tells. subst (IsFirstLost (Some space) head (contents_in disk old)) (sym came.0) (one_lost came.2 tells),
    )
    stops_one (BadMark n) came = inr (
      tried_one (ToRefused disk (era_behind era)) came.1,
      λ tells. subst (IsFirstBadChunk (Some space) head (contents_in disk old)) (sym came.0) (one_bad came.2 tells),
    )
    stops_one (Failed n) came = inl (
      tried_one (ToAny disk) came.1,
      record {
        space = space;
        is_wanted = refl;
        fault_is = ap (λ (k : ℕ). Failed k) came.0;
        rose = rose_behind disk space old mid new as_many
            (λ was m there behind. (of_both (Syncs disk era) space old mid syncs (Syncs disk era) syncs.by was m there behind).ledger.faults) came.2;
      },
    )

    pub opens_one : ChangesTo disk (era_behind era) head space (ToOpened disk (era_behind era) head.site) mid new → Opens disk (Some space) head era old new
    opens_one came = tried_one (ToOpened disk (era_behind era) head.site) came

-- one lane behind its sync
pub one_made : {D : Type 0} (disk : Ghosts D) (era : EraView) (space : ℕ) (old mid : List (Lane D)) → ChangesOne (Syncs disk era) space old mid → AreMade old → AreMade mid
one_made disk era space old mid change made =
    let was = made space change.was change.there in
    each_again (Syncs disk era) space old mid change (λ n lane. IsMadeAt n lane) made (record {
      made = synced_made disk era change.was change.is was.made change.by;
      space = ap space_of change.by.value ∙ was.space;
    })
