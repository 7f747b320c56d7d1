-- How a call of one disk that makes several moves comes to be moves of a site, one after another.
use Rattle.std.specs.Prelude.{◌≡◌, ℕ, ◌≤◌, List, [], ◌∷◌, true, false, Some, None}
use Rattle.std.specs.List.{AllByRecursion}
use mathlib.Core.Logic.{inl, inr}
use Rattle.std.proofs.Common.{arith, refl, sym, subst, ⊎_elim}
use Rattle.std.proofs.lemmas.Bool.{cases_Bool}
use Rattle.site_disk.specs.Images.{Leaves}
use Rattle.walks.specs.Follows.{Follows}
use Rattle.walks.specs.Moving.{Apart, MovesOne, MovedOne}
use Rattle.walks.specs.MovingLaws.{leaves_moves}
use Rattle.walks.specs.Courses.{Call, Course, IsOnWay, PassedBy, after_all, make}
use Rattle.walks.specs.CoursesLaws.{way_begins}
use Rattle.walks.specs.LeavesLaws.{one_disk_done, one_disk_fails}
use Rattle.site_model.specs.declared.disk_name.DiskName.{DiskName}
use Rattle.site_worlds.specs.Worlds.{Site}
use Rattle.site_worlds.specs.Fitness.{IsFitSite}
use Rattle.site_worlds.specs.Moves.{Move, Mover, append_batch, append_reset, close_file, drop_oldest, next_file, mark_backed, format_log, commit_objects, append_lines, begin_restore, set_prepared, end_restore, move_lanes, mover, site_after, site_rules, StopsAt}
use Rattle.world_laws.specs.KeptLaws.{CanAll, fit_after_all, kept}
use Rattle.site_courses.specs.Faults.{Fault, cuts}
use Rattle.site_layouts.specs.Disks.{IsOpened, is_of, moves_disk}
use Rattle.site_layouts.specs.Stores.{Held}
use Rattle.site_layouts.specs.Layouts.{ShowsSite}
use Rattle.site_layouts.specs.ApartLaws.{Awaits, apart, lanes_apart}
use Rattle.site_layouts.specs.Stages.{Agree, HeldSite, Layers, ShowsHeld, StandsFor, site_stage}

-- what a disk that doesn't move shows on the way

-- a disk has what each of these moves awaits
abbrev pub AwaitAll : List Move → DiskName → List ℕ → Type 0
AwaitAll moves name bytes = AllByRecursion (λ move. Awaits move name bytes) moves

-- none of these moves is of this disk
abbrev pub NoneMoves : List Move → DiskName → Type 0
NoneMoves moves name = AllByRecursion (λ move. moves_disk move name ≡ false) moves

module _ (held : Held) (name : DiskName) (bytes : List ℕ) where
  same_site : (site other : Site) → other ≡ site → ShowsSite name site held bytes → ShowsSite name other held bytes
  same_site site other is shows = subst (λ (s : Site). ShowsSite name s held bytes) (sym is) shows

  -- a stop within a move of another disk
  stop_apart : (move : Move) (site other : Site) → moves_disk move name ≡ false → StopsAt move site other → ShowsSite name site held bytes → ShowsSite name other held bytes
  stop_apart (append_batch records) site other rests is shows = same_site site other is shows
  stop_apart (append_reset restore target time) site other rests is shows = same_site site other is shows
  stop_apart close_file site other rests is shows = same_site site other is shows
  stop_apart drop_oldest site other rests is shows = same_site site other is shows
  stop_apart next_file site other rests is shows = same_site site other is shows
  stop_apart (mark_backed file) site other rests is shows = same_site site other is shows
  stop_apart format_log site other rests is shows = same_site site other is shows
  stop_apart (commit_objects added deleted) site other rests is shows = same_site site other is shows
  stop_apart (append_lines more) site other rests is shows = same_site site other is shows
  stop_apart (begin_restore point to) site other rests is shows = same_site site other is shows
  stop_apart (set_prepared prepared) site other rests is shows = same_site site other is shows
  stop_apart end_restore site other rests is shows = same_site site other is shows
  stop_apart (move_lanes goals) site other rests (inl is) shows = same_site site other is shows
  stop_apart (move_lanes goals) site other rests (inr amid) shows =
      subst (λ (s : Site). ShowsSite name s held bytes) (sym amid.is) (lanes_apart amid.mids site held name bytes rests shows)

  -- Wherever moves that may be made one after another stop, a disk that none of them moves shows what it did.
  pub way_apart : (moves : List Move) (site other : Site) → CanAll moves site → IsFitSite site → AwaitAll moves name bytes → NoneMoves moves name
      → IsOnWay site_rules moves site other → ShowsSite name site held bytes → ShowsSite name other held bytes
  unfolding site_rules
  way_apart [] site other can fit awaits rests is shows = same_site site other is shows
  way_apart (move ∷ moves) site other can fit awaits rests (inl within) shows = stop_apart move site other rests.0 within shows
  way_apart (move ∷ moves) site other can fit awaits rests (inr later) shows =
      way_apart moves (site_after move site) other can.1 (kept move site can.0 fit) awaits.1 rests.1 later
      (apart move site held name bytes can.0 fit awaits.0 rests.0 shows)

-- the moves are all of one mover
abbrev pub AreOf : Mover → List Move → Type 0
AreOf who moves = AllByRecursion (λ move. mover move ≡ who) moves

none_moves : (by : Mover) (moves : List Move) (name : DiskName) → AreOf by moves → is_of by name ≡ false → NoneMoves moves name
none_moves by [] name are rests = tt
none_moves by (move ∷ moves) name are rests =
    (subst (λ (m : Mover). is_of m name ≡ false) (sym are.0) rests, none_moves by moves name are.1 rests)

-- another site, with the same beside it
abbrev pub at_site : HeldSite → Site → HeldSite
at_site at site = record { site = site; held = at.held }

-- a site behind moves one after another
abbrev pub behind_all : List Move → HeldSite → HeldSite
behind_all moves at = at_site at (after_all site_rules moves at.site)

pub way_ends : (moves : List Move) (site : Site) → IsOnWay site_rules moves site (after_all site_rules moves site)
unfolding site_rules
way_ends [] site = refl
way_ends (move ∷ moves) site = inr (way_ends moves (site_after move site))

module _ {S : Type 0} (layers : Layers S) where
  -- what a stop within moves leaves
  abbrev pub PassedAll : List Move → HeldSite → HeldSite → Type 0
  PassedAll moves at other = PassedBy (site_stage layers) moves at other

  passes : (moves : List Move) (at : HeldSite) (other : Site) → IsOnWay site_rules moves at.site other → PassedAll moves at (at_site at other)
  unfolding site_stage
  passes moves at other is = is

  -- A call of one disk makes steps, each from what shows a site to what shows one on the way of its moves; the other disks keep their
  -- images.
  pub record Way (moves : List Move) (by : Mover) (who : DiskName) (opened from : ℕ) (old new : S) (at : HeldSite) (step : List ℕ → List ℕ → Type 0) : Type 0 where
    pub can : CanAll moves at.site
    pub are : AreOf by moves
    pub stands : StandsFor layers opened from old at
    pub is_opened : IsOpened opened who
    pub is_who : (name : DiskName) → is_of by name ≡ true → name ≡ who
    pub others : (f : ℕ) (name : DiskName) (bytes : List ℕ) → is_of by name ≡ false → layers.images new f name bytes → layers.images old f name bytes
    pub leaves : Leaves from step (λ f. layers.images old f who) (λ f. layers.images new f who)
    pub steps : (before bytes : List ℕ) → ShowsHeld who at before → step before bytes
        → (other : Site) × IsOnWay site_rules moves at.site other × ShowsSite who other at.held bytes
    pub awaits : (f : ℕ) (name : DiskName) (bytes : List ℕ) → from ≤ f → is_of by name ≡ false → layers.images old f name bytes → AwaitAll moves name bytes

  module _ (moves : List Move) (by : Mover) (who : DiskName) (opened from : ℕ) (old new : S) (at : HeldSite) (step : List ℕ → List ℕ → Type 0)
      (way : Way moves by who opened from old new at step) where
    -- the disks that are opened alone show something
    abbrev Opened : DiskName → HeldSite → List ℕ → Type 0
    Opened name other bytes = IsOpened opened name → ShowsHeld name other bytes

    abbrev Rest : ℕ → HeldSite → Type 0
    Rest f next = Apart ShowsHeld (is_of by) (layers.images old) f at next

    rests_apart : (f : ℕ) (other : Site) → from ≤ f → IsOnWay site_rules moves at.site other → Rest f (at_site at other)
    rests_apart f other le on name bytes rests image shows =
        way_apart at.held name bytes moves at.site other way.can way.stands.fits (way.awaits f name bytes le rests image)
        (none_moves by moves name way.are rests) on shows

    of_opened : (f : ℕ) (next : HeldSite) (bytes : List ℕ) → Follows Opened (layers.images old) f at next who bytes
        → Follows ShowsHeld (layers.images old) f at next who bytes
    of_opened f next bytes = ⊎_elim
        (λ is. inl (is way.is_opened))
        (λ was. inr (was.0, λ shows. was.1 (λ there. shows) way.is_opened))

    stepped : (f : ℕ) (before bytes : List ℕ) → from ≤ f → Opened who at before → step before bytes
        → (next : HeldSite) × PassedAll moves at next × Opened who next bytes × Rest f next
    stepped f before bytes le shows is =
        let to = way.steps before bytes (shows way.is_opened) is in
        (at_site at to.0, passes moves at to.0 to.1, (λ there. to.2), rests_apart f to.0 le to.1)

    -- wherever it stops
    pub way_moves : MovesOne ShowsHeld who (is_of by) from (layers.images old) (layers.images new) at (PassedAll moves at)
    way_moves = record {
      is_who = way.is_who;
      others = way.others;
      earlier = way.leaves.earlier;
      moves = λ f bytes le image.
          let to = leaves_moves Opened who from step (layers.images old) (layers.images new) at (PassedAll moves at) Rest
          (λ g name b ge i there. way.stands.clean g name b ge there i) way.leaves (passes moves at at.site (way_begins site_rules moves at.site))
          (λ g name b rests i shows. shows) stepped f bytes le image in
          (to.0, to.1, of_opened f to.0 bytes to.2, to.3);
    }

    -- where it has ended each later image of the disk shows the site behind all moves
    abbrev ShowsEnd : ℕ → Type 0
    ShowsEnd to = (f : ℕ) (bytes : List ℕ) → to ≤ f → layers.images new f who bytes → ShowsHeld who (behind_all moves at) bytes

    pub way_moved : (to : ℕ) → from ≤ to → ShowsEnd to
        → MovedOne ShowsHeld who (is_of by) from to (layers.images old) (layers.images new) at (PassedAll moves at) (behind_all moves at)
    way_moved to le ends = record {
      no_earlier = le;
      moves = way_moves;
      ends = λ f bytes later image. inl (ends f bytes later image);
      apart = λ f later. rests_apart f (after_all site_rules moves at.site) (omega (arith, le, later)) (way_ends moves at.site);
    }

    -- and then the site stands for what is behind them
    pub way_stands : (to : ℕ) → from ≤ to → ShowsEnd to → Agree layers opened to new (behind_all moves at) → StandsFor layers opened to new (behind_all moves at)
    way_stands to le ends agree = record {
      clean = λ f name bytes later there image. elim (cases_Bool (is_of by name)) [
        | inl is ↦
            let same = way.is_who name is in
            subst (λ (n : DiskName). ShowsHeld n (behind_all moves at) bytes) (sym same) (ends f bytes later (subst (λ (n : DiskName). layers.images new f n bytes) same image))
        | inr isnt ↦
            let was = way.others f name bytes isnt image in
            let from_then : from ≤ f = omega (arith, le, later) in
            rests_apart f (after_all site_rules moves at.site) from_then (way_ends moves at.site) name bytes isnt was (way.stands.clean f name bytes from_then there was)
      ];
      agree = agree;
      fits = fit_after_all moves at.site way.can way.stands.fits;
    }

  -- The clause of such a call: its course is the moves, which may depend on the site for which the values stand.
  module _ (needs from to : ℕ) (old new : S) (moves : Site → List Move) (by : Mover) (who : DiskName) (step : HeldSite → List ℕ → List ℕ → Type 0) (le : from ≤ to)
      (way : (opened : ℕ) (at : HeldSite) → needs ≤ opened → StandsFor layers opened from old at → Way (moves at.site) by who opened from old new at (step at)) where
    abbrev in_turn : Site → Course Move Fault
    in_turn site = make (moves site)

    pub way_fails : (fault : Fault) → cuts fault ≡ true → Call (site_stage layers) needs from to old new in_turn (Some fault)
    unfolding site_stage
    way_fails fault cut = one_disk_fails (site_stage layers) needs from to old new in_turn who (is_of by) fault cut le
        (λ opened at enough stands. way_moves (moves at.site) by who opened from old new at (step at) (way opened at enough stands))

    -- how it ended: each later image of the disk shows the site behind the moves, and the values agree with that
    pub record HavePassed (opened : ℕ) (at : HeldSite) : Type 0 where
      pub shows : (f : ℕ) (bytes : List ℕ) → to ≤ f → layers.images new f who bytes → ShowsHeld who (behind_all (moves at.site) at) bytes
      pub agree : Agree layers opened to new (behind_all (moves at.site) at)

    pub way_done : ((opened : ℕ) (at : HeldSite) → needs ≤ opened → StandsFor layers opened from old at → HavePassed opened at)
        → Call (site_stage layers) needs from to old new in_turn None
    unfolding site_stage
    way_done passed = one_disk_done (site_stage layers) needs from to old new in_turn who (is_of by) (λ site. refl)
        (λ opened at enough stands. let has = passed opened at enough stands in let is = way opened at enough stands in (
          behind_all (moves at.site) at,
          refl,
          way_stands (moves at.site) by who opened from old new at (step at) is to le has.shows has.agree,
          way_moved (moves at.site) by who opened from old new at (step at) is to le has.shows,
        ))
