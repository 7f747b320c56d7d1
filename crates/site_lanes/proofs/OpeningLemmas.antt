-- Lanes that are opened one after another.
use Rattle.std.proofs.Common.{◌≡◌, ℕ, ◌+◌, ◌<◌, ◌≤◌, List, length, get_or, slice_set, Option, Some, None, Result, Ok, Err, refl, sym, ◌∙◌, subst, arith, ⊎_elim}
use Rattle.std.specs.Prelude.{slice_get, IsTrue, IfOk, OnOk, IfErr, IsErrOf}
use Rattle.std.proofs.lemmas.Bool.{cases_lt}
use Rattle.std.proofs.lemmas.Option.{slice_get_within, none-some}
use Rattle.site_disk.specs.Bytes.{Same}
use Rattle.site_disk.specs.CallsLaws.{may_use_again, uses_more, uses_nothing}
use Rattle.site_disk.specs.Causes.{Rose}
use Rattle.site_disk.specs.Images.{Leaves, OnlyAfter}
use Rattle.site_disk.specs.ImagesLaws.{begins}
use Rattle.site_disk.specs.Seen.{seen}
use Rattle.site_disk.specs.Ledger.{EraView, MayUse}
use Rattle.site_disk.specs.declared.disk.Disk.{Ghosts}
use Rattle.before_images.specs.Saved.{place_of}
use Rattle.backup_lines.specs.declared.lanes.LaneState.{LaneState}
use Rattle.backup_lines.specs.declared.lanes.LaneState.TheVariants.{At as Stays, Blank, Image, Replay}
use Rattle.site_headers.specs.declared.heads.SpaceHead.{SpaceHead}
use Rattle.lane_ways.specs.Pictures.{pages_at}
use Rattle.space_lane.specs.Answers.{FailsOn, IsOpening, IsRefusal}
use Rattle.space_lane.specs.Chunks.{HasMark, settled}
use Rattle.space_lane.specs.Lanes.{disk_of, state_of, IsMade, IsOpen, TellsOf, Stands}
use Rattle.space_lane.specs.Stops.{MayRestore, MaySettle}
use Rattle.space_lane.specs.declared.faults.LaneFault.{LaneFault}
use Rattle.space_lane.specs.declared.faults.LaneFault.TheVariants.{ChunkLost as LostChunk, BadMark as NoMark, BadPage, Failed as DiskFailed}
use Rattle.space_lane.specs.declared.lane.Lane.{Lane}
use Rattle.site_lanes.specs.declared.refusals.LanesFault.{LanesFault}
use Rattle.site_lanes.specs.declared.refusals.LanesFault.TheVariants.{ChunkLost, BadMark, Failed}
use Rattle.site_lanes.specs.declared.refusals.Opening.{Opening}
use Rattle.site_lanes.specs.declared.refusals.Opening.TheVariants.{Opened, Lost, Bad}
use Rattle.site_lanes.specs.declared.refusals.Refusals.{Refusals}
use Rattle.site_lanes.specs.Firsts.{CameBy, first_of, IsFirst, Notes, Tells}
use Rattle.site_lanes.specs.Lanes.{OfEach, OfFirst, OfSpaces, SameFrom, ChangesOne, MayUseEach, IsHeaded, IsLost, IsBad, Works, IsOpened, CameTo, HasCome, At, LostAt, HeadedAt, BadAt, NotBadAt, RoseAt, RoseBy, Explains, AreOpened}
use Rattle.site_lanes.proofs.OneLemmas.{one_value, changes_one, of_both, same_behind, each_again, first_more}

-- what a lane's own opening says

module _ {D T : Type 0} (disk : Ghosts D) (era : EraView) (space site pages : ℕ) (was is : Lane D) where
  pub came : (result : Result T LaneFault) (answer : Result Opening LanesFault) → CameBy space result answer → OnOk result (IsOpen is)
      → OnOk result (TellsOf pages (state_of is) is)
      → (IsTrue disk.is_modelled → OnOk result (IsHeaded disk site pages was))
      → (IsTrue disk.is_modelled → OnOk result (HasMark (state_of is) (disk.bytes (disk_of was))))
      → (IsTrue disk.is_modelled → IsErrOf result LostChunk → IsHeaded disk site pages was → ⊥)
      → (IsTrue disk.is_modelled → IsErrOf result NoMark → IsHeaded disk site pages was)
      → (IsTrue disk.is_modelled → IsErrOf result NoMark → (state : LaneState) → HasMark state (disk.bytes (disk_of was)) → ⊥)
      → (IsTrue disk.is_modelled → place_of pages_at pages ≤ length (disk.bytes (disk_of was)) → OnOk result (Stands site pages (state_of is) (seen disk (disk_of is)) is))
      → (IsTrue disk.is_modelled → place_of pages_at pages ≤ length (disk.bytes (disk_of was))
      → OnOk result (disk.bytes (disk_of is) ≡ settled (state_of is) pages (disk.bytes (disk_of was))))
      → (IsTrue disk.is_modelled → OnOk result (OnlyAfter era.number (disk.bytes (disk_of is)) (disk.image (disk_of is))))
      → IfErr result (λ fault. IsRefusal fault → disk.bytes (disk_of is) ≡ disk.bytes (disk_of was))
      → IfErr result (λ fault. IsRefusal fault → Leaves era.number Same (disk.image (disk_of was)) (disk.image (disk_of is)))
      → IfOk answer (λ opening. CameTo disk era site pages opening was is)
  came (Ok done) answer by opened told header found lost marked none stands bytes durable same images =
      subst (λ (a : Result Opening LanesFault). IfOk a (λ opening. CameTo disk era site pages opening was is)) (sym by)
      (record { opened = opened; told = told; header = header; found = found; stands = stands; bytes = bytes; durable = durable })
  came (Err LostChunk) answer by opened told header found lost marked none stands bytes durable same images =
      subst (λ (a : Result Opening LanesFault). IfOk a (λ opening. CameTo disk era site pages opening was is)) (sym by)
      (record { bytes = same tt; images = images tt }, λ tells. lost tells refl)
  came (Err NoMark) answer by opened told header found lost marked none stands bytes durable same images =
      subst (λ (a : Result Opening LanesFault). IfOk a (λ opening. CameTo disk era site pages opening was is)) (sym by)
      (record { bytes = same tt; images = images tt }, λ tells. record { header = marked tells refl; none = none tells refl })
  came (Err (BadPage page)) answer by opened told header found lost marked none stands bytes durable same images =
      subst (λ (a : Result Opening LanesFault). IfOk a (λ opening. CameTo disk era site pages opening was is)) (sym by) tt
  came (Err DiskFailed) answer by opened told header found lost marked none stands bytes durable same images =
      subst (λ (a : Result Opening LanesFault). IfOk a (λ opening. CameTo disk era site pages opening was is)) (sym by) tt

  pub fell : (result : Result T LaneFault) (answer : Result Opening LanesFault) → CameBy space result answer → IfErr result IsOpening
      → IfErr result (FailsOn (disk.ledger (disk_of was)).faults (disk.ledger (disk_of is)).faults) → IfErr answer (RoseBy disk space was is)
  fell (Ok done) answer by only failed = subst (λ (a : Result Opening LanesFault). IfErr a (RoseBy disk space was is)) (sym by) tt
  fell (Err LostChunk) answer by only failed = subst (λ (a : Result Opening LanesFault). IfErr a (RoseBy disk space was is)) (sym by) tt
  fell (Err NoMark) answer by only failed = subst (λ (a : Result Opening LanesFault). IfErr a (RoseBy disk space was is)) (sym by) tt
  fell (Err (BadPage page)) answer by only failed = absurd only
  fell (Err DiskFailed) answer by only failed = subst (λ (a : Result Opening LanesFault). IfErr a (RoseBy disk space was is)) (sym by) (refl, failed)

-- the disk of one of the lanes failed
module _ {D : Type 0} (disk : Ghosts D) (space : ℕ) (lanes : List (Lane D)) (place : ℕ) (d is : Lane D) (same : place ≡ space) (lt : place < length lanes) where
  abbrev FellAt : LanesFault → Type 0
  FellAt fault = (fault ≡ Failed space) × RoseAt disk space lanes (slice_set lanes place is)

  abbrev Rises : Lane D → Lane D → Type 0
  Rises was now = Rose (disk.ledger (disk_of was)).faults (disk.ledger (disk_of now)).faults

  pub rose_there : Rose (disk.ledger (disk_of (get_or lanes place d))).faults (disk.ledger (disk_of is)).faults → RoseAt disk space lanes (slice_set lanes place is)
  rose_there rose =
      let change : ChangesOne Rises space lanes (slice_set lanes place is) = changes_one Rises lanes place space d is same lt rose in
      of_both Rises space lanes (slice_set lanes place is) change Rises change.by

  pub fell_at : {A : Type 0} (answer : Result A LanesFault) → IfErr answer (RoseBy disk space (get_or lanes place d) is) → IfErr answer FellAt
  fell_at (Ok a) by = tt
  fell_at (Err fault) by = (by.0, rose_there by.1)

-- the first of the numbers so far, and one number more

module _ (P Q : ℕ → Type 0) (i : ℕ) where
  below_again : (n : ℕ) → ((k : ℕ) → k < i → Q k) → Q i → (k : ℕ) → k < i + 1 → Q k
  below_again n before here k lt = ⊎_elim
      (λ less. before k less)
      (λ ge. let same : i ≡ k = omega (arith, ge, lt) in subst Q same here)
      (cases_lt k i)

  pub first_without : (o : Option ℕ) → IsFirst P Q i o → Q i → IsFirst P Q (i + 1) o
  first_without None is here = below_again 0 is here
  first_without (Some n) is here = (omega (arith, is.0), is.1, is.2)

  pub first_with : (o : Option ℕ) → IsFirst P Q i o → P i → IsFirst P Q (i + 1) (first_of i o)
  first_with None is here = (omega arith, here, is)
  first_with (Some n) is here = (omega (arith, is.0), is.1, is.2)

-- nothing done

settles_nothing : (state : LaneState) (count : ℕ) (bytes : List ℕ) → MaySettle state count bytes bytes
settles_nothing (Stays upto part) count bytes = record { back = refl; elsewhere = λ from len apart. refl; no_shorter = omega arith }
settles_nothing (Blank restore) count bytes = refl
settles_nothing (Image restore chain image entries) count bytes = refl
settles_nothing (Replay restore chain upto part) count bytes = record { back = refl; elsewhere = λ from len apart. refl; no_shorter = omega arith }

pub restores_nothing : (count : ℕ) (bytes : List ℕ) → MayRestore count bytes bytes
restores_nothing count bytes = record { settles = λ state has. settles_nothing state count bytes }

module _ {D : Type 0} (disk : Ghosts D) (era : EraView) (site : ℕ) (heads : List SpaceHead) where
  works_nothing : (pages : ℕ) (lane : Lane D) → MayUse era (disk.ledger (disk_of lane)) → IsMade lane → Works disk era site pages lane lane
  works_nothing pages lane may made = record {
    made = made;
    space = refl;
    ledger = uses_more (uses_nothing may) (omega arith) (omega arith);
    crash = λ tells long. begins (MayRestore pages) (MayRestore pages) era.number (disk.image (disk_of lane)) (disk.image (disk_of lane)) (disk.image (disk_of lane))
        (λ c. restores_nothing pages c);
    bound = λ tells long. omega arith;
    unheaded = λ tells none. begins Same Same era.number (disk.image (disk_of lane)) (disk.image (disk_of lane)) (disk.image (disk_of lane)) (λ c. refl);
  }

  -- with the head of its space
  abbrev pub OfHead : (ℕ → Lane D → Lane D → Type 0) → ℕ → Lane D → Lane D → Type 0
  OfHead P space was is = (head : SpaceHead) → slice_get heads space ≡ Some head → P head.pages was is

  -- the first so many lanes have been opened, or refused
  pub record Partway (i : ℕ) (old now : List (Lane D)) (found : Refusals) : Type 0 where
    pub come : OfFirst i (OfHead (HasCome disk era site)) old now
    pub works : OfFirst i (OfHead (Works disk era site)) old now
    pub opened : found.lost ≡ None → found.bad ≡ None → OfFirst i (OfHead (IsOpened disk era site)) old now
    pub ahead : SameFrom i old now
    pub lost : IsTrue disk.is_modelled → IsFirst (LostAt disk site heads old) (HeadedAt disk site heads old) i found.lost
    pub bad : IsTrue disk.is_modelled → IsFirst (BadAt disk site heads old) (NotBadAt disk site heads old) i found.bad
    pub may : MayUseEach disk era now
    pub made : OfEach (λ space lane. IsMade lane) now

  pub none_yet : (old : List (Lane D)) (found : Refusals) → found.lost ≡ None → found.bad ≡ None → MayUseEach disk era old → OfEach (λ space lane. IsMade lane) old
      → Partway 0 old old found
  none_yet old found no_lost no_bad may made = record {
    come = λ k was is lt there behind. absurd (omega (arith, lt));
    works = λ k was is lt there behind. absurd (omega (arith, lt));
    opened = λ l b k was is lt there behind. absurd (omega (arith, lt));
    ahead = λ k le. refl;
    lost = λ tells. subst (IsFirst (LostAt disk site heads old) (HeadedAt disk site heads old) 0) (sym no_lost) (λ k lt. absurd (omega (arith, lt)));
    bad = λ tells. subst (IsFirst (BadAt disk site heads old) (NotBadAt disk site heads old) 0) (sym no_bad) (λ k lt. absurd (omega (arith, lt)));
    may = may;
    made = made;
  }

  -- one lane more
  module _ (i : ℕ) (old now new : List (Lane D)) (found : Refusals) (head : SpaceHead) (is_head : slice_get heads i ≡ Some head) (so_far : Partway i old now found)
      (change : ChangesOne (Works disk era site head.pages) i now new) where
    with_head : (P : ℕ → Lane D → Lane D → Type 0) (was is : Lane D) → P head.pages was is → OfHead P i was is
    with_head P was is here other there = subst (λ (h : SpaceHead). P h.pages was is) (one_value heads i head other is_head there) here

    pub works_more : OfFirst (i + 1) (OfHead (Works disk era site)) old new
    works_more = first_more (Works disk era site head.pages) i now new change (OfHead (Works disk era site)) old so_far.ahead so_far.works
        (with_head (Works disk era site) change.was change.is change.by)

    may_more : MayUseEach disk era new
    may_more = each_again (Works disk era site head.pages) i now new change (λ space lane. MayUse era (disk.ledger (disk_of lane))) so_far.may
        (may_use_again (so_far.may i change.was change.there) change.by.ledger)

    made_more : OfEach (λ space lane. IsMade lane) new
    made_more = each_again (Works disk era site head.pages) i now new change (λ space lane. IsMade lane) so_far.made change.by.made

    pub ahead_more : SameFrom (i + 1) old new
    ahead_more = same_behind (Works disk era site head.pages) i now new change old so_far.ahead

    -- of the lane that was opened
    here : (P : ℕ → Lane D → Type 0) (was : Lane D) → slice_get now i ≡ Some was → P head.pages was → At disk heads old P i
    here P was there is other lane of_head there_now =
        subst (λ (h : SpaceHead). P h.pages lane) (one_value heads i head other is_head of_head)
        (subst (P head.pages) (one_value now i was lane there (so_far.ahead i (omega arith) ∙ there_now)) is)

    came_more : (opening : Opening) → ChangesOne (CameTo disk era site head.pages opening) i now new → OfFirst (i + 1) (OfHead (HasCome disk era site)) old new
    came_more opening came = first_more (CameTo disk era site head.pages opening) i now new came (OfHead (HasCome disk era site)) old so_far.ahead so_far.come
        (with_head (HasCome disk era site) came.was came.is (opening, came.by))

    pub one_opened : ChangesOne (CameTo disk era site head.pages Opened) i now new → (then_found : Refusals) → Notes i Opened found then_found
        → Partway (i + 1) old new then_found
    one_opened came then_found notes = subst (Partway (i + 1) old new) (sym notes) (record {
      come = came_more Opened came;
      works = works_more;
      opened = λ l b. first_more (CameTo disk era site head.pages Opened) i now new came (OfHead (IsOpened disk era site)) old so_far.ahead (so_far.opened l b)
          (with_head (IsOpened disk era site) came.was came.is came.by);
      ahead = ahead_more;
      lost = λ tells. first_without (LostAt disk site heads old) (HeadedAt disk site heads old) i found.lost (so_far.lost tells)
          (here (IsHeaded disk site) came.was came.there (came.by.header tells));
      bad = λ tells. first_without (BadAt disk site heads old) (NotBadAt disk site heads old) i found.bad (so_far.bad tells)
          (here (λ pages lane. IsBad disk site pages lane → ⊥) came.was came.there (λ is. is.none (state_of came.is) (came.by.found tells)));
      may = may_more;
      made = made_more;
    })

    is_some : (o : Option ℕ) → first_of i o ≡ None → ⊥
    is_some None none = none-some i (sym none)
    is_some (Some n) none = none-some n (sym none)

    pub one_lost : ChangesOne (CameTo disk era site head.pages Lost) i now new → (then_found : Refusals) → Notes i Lost found then_found
        → Partway (i + 1) old new then_found
    one_lost came then_found notes = subst (Partway (i + 1) old new) (sym notes) (record {
      come = came_more Lost came;
      works = works_more;
      opened = λ l b. absurd (is_some found.lost l);
      ahead = ahead_more;
      lost = λ tells. first_with (LostAt disk site heads old) (HeadedAt disk site heads old) i found.lost (so_far.lost tells)
          (here (IsLost disk site) came.was came.there (came.by.1 tells));
      bad = λ tells. first_without (BadAt disk site heads old) (NotBadAt disk site heads old) i found.bad (so_far.bad tells)
          (here (λ pages lane. IsBad disk site pages lane → ⊥) came.was came.there (λ is. came.by.1 tells is.header));
      may = may_more;
      made = made_more;
    })

    pub one_bad : ChangesOne (CameTo disk era site head.pages Bad) i now new → (then_found : Refusals) → Notes i Bad found then_found
        → Partway (i + 1) old new then_found
    one_bad came then_found notes = subst (Partway (i + 1) old new) (sym notes) (record {
      come = came_more Bad came;
      works = works_more;
      opened = λ l b. absurd (is_some found.bad b);
      ahead = ahead_more;
      lost = λ tells. first_without (LostAt disk site heads old) (HeadedAt disk site heads old) i found.lost (so_far.lost tells)
          (here (IsHeaded disk site) came.was came.there (let is = came.by.1 tells in is.header));
      bad = λ tells. first_with (BadAt disk site heads old) (NotBadAt disk site heads old) i found.bad (so_far.bad tells)
          (here (IsBad disk site) came.was came.there (came.by.1 tells));
      may = may_more;
      made = made_more;
    })

    pub one_more : (opening : Opening) → ChangesOne (CameTo disk era site head.pages opening) i now new → (then_found : Refusals) → Notes i opening found then_found
        → Partway (i + 1) old new then_found
    one_more Opened came then_found notes = one_opened came then_found notes
    one_more Lost came then_found notes = one_lost came then_found notes
    one_more Bad came then_found notes = one_bad came then_found notes

    -- its disk failed
    pub rose : RoseAt disk i now new → RoseAt disk i old new
    rose fails was is there behind = fails was is (so_far.ahead i (omega arith) ∙ there) behind

  -- a disk failed, and no more is tried
  pub explained : (i : ℕ) (old new : List (Lane D)) (fault : LanesFault) → fault ≡ Failed i → i < length heads → RoseAt disk i old new → SameFrom (i + 1) old new
      → Explains disk site heads old new fault
  explained i old new fault is lt rises same = subst (Explains disk site heads old new) (sym is) (lt, rises, same)

  pub untold : (i : ℕ) (old new : List (Lane D)) (fault : LanesFault) → fault ≡ Failed i → AreOpened disk era site heads old new fault
  untold i old new fault is = subst (AreOpened disk era site heads old new) (sym is) tt

  -- of all spaces

  pub all_of : (P : ℕ → Lane D → Lane D → Type 0) (old new : List (Lane D)) → OfFirst (length heads) (OfHead P) old new → OfSpaces heads P old new
  all_of P old new each k head was is of_head there behind = each k was is (slice_get_within heads k head of_head) there behind head of_head

  -- those behind the last one that was opened are as they were
  pub works_all : (i : ℕ) (old new : List (Lane D)) → MayUseEach disk era old → OfEach (λ space lane. IsMade lane) old
      → OfFirst i (OfHead (Works disk era site)) old new → SameFrom i old new → OfSpaces heads (Works disk era site) old new
  works_all i old new may made works same k head was is of_head there behind = ⊎_elim
      (λ lt. works k was is lt there behind head of_head)
      (λ ge. subst (λ (lane : Lane D). Works disk era site head.pages was lane) (one_value old k was is there (sym (same k ge) ∙ behind))
      (works_nothing head.pages was (may k was there) (made k was there)))
      (cases_lt k i)

  -- the answer, once all were tried
  module _ {T : Type 0} (old new : List (Lane D)) (found : Refusals) (so_far : Partway (length heads) old new found) where
    pub told_opened : (result : Result T LanesFault) → Tells found result → OnOk result (OfSpaces heads (IsOpened disk era site) old new)
    told_opened (Ok done) tells = all_of (IsOpened disk era site) old new (so_far.opened tells.0 tells.1)
    told_opened (Err fault) tells = tt

    pub told_refused : (result : Result T LanesFault) → Tells found result → IfErr result (Explains disk site heads old new)
    told_refused (Ok done) tells = tt
    told_refused (Err (ChunkLost n)) tells = λ m. subst (IsFirst (LostAt disk site heads old) (HeadedAt disk site heads old) (length heads)) tells (so_far.lost m)
    told_refused (Err (BadMark n)) tells = λ m. (
      subst (IsFirst (LostAt disk site heads old) (HeadedAt disk site heads old) (length heads)) tells.0 (so_far.lost m),
      subst (IsFirst (BadAt disk site heads old) (NotBadAt disk site heads old) (length heads)) tells.1 (so_far.bad m),
    )
    told_refused (Err (Failed n)) tells = absurd tells

    pub told_others : (result : Result T LanesFault) → Tells found result → IfErr result (AreOpened disk era site heads old new)
    told_others (Ok done) tells = tt
    told_others (Err (ChunkLost n)) tells = all_of (HasCome disk era site) old new so_far.come
    told_others (Err (BadMark n)) tells = all_of (HasCome disk era site) old new so_far.come
    told_others (Err (Failed n)) tells = absurd tells
