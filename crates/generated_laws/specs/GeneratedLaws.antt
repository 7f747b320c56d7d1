-- The moves of `-gen` may be made, one after another.
use Rattle.std.specs.Prelude.{◌≡◌, ℕ, zero, suc, ◌+◌, ◌%◌, ◌^◌, ◌<◌, ◌≤◌, ◌==◌, ◌||◌, max, List, [], ◌∷◌, codes, map, length, reverse, slice_index, Bool, true, false, if◌then◌else◌, None}
use Rattle.std.proofs.Common.{arith, refl, sym, ap, subst, ◌∙◌}
use Rattle.std.proofs.lemmas.Bool.Decides.{nat_tests}
use Rattle.log_history.specs.History.{History}
use Rattle.log_history.specs.Transactions.{last_time}
use Rattle.block_chain.specs.Blocks.{times}
use Rattle.backup_lines.specs.Spans.{at_end}
use Rattle.walks.specs.Courses.{IsOnWay, make}
use Rattle.site_headers.specs.Heads.{Head, IsHead}
use Rattle.site_worlds.specs.Worlds.{LaneState, Site, World, lost, unformatted, formatted, new_site}
use Rattle.site_worlds.specs.Fitness.{IsFit}
use Rattle.site_worlds.specs.Moves.{Move, moves_on, move_lanes, site_after, world_rules}
use Rattle.site_worlds.specs.Allowed.{HasRing, closes, EachCan}
use Rattle.world_laws.specs.KeptLaws.{CanAll}
use Rattle.world_laws.specs.NewLaws.{CanWorldAll, new_site_fits, world_fit_on_way}
use Rattle.site_courses.specs.Courses.{SiteCourse, in_turn, lanes_to_end}
use Rattle.site_courses.specs.Appending.{append_course}
use Rattle.site_courses.specs.Backups.{spaces_course}
use Rattle.site_courses.specs.Generated.{draw_transaction, moment_of, drawn_batch, transactions_from, story_course, generated_head, generated_course}
use Rattle.site_courses.specs.Plans.{position_of}
use Rattle.site_courses.specs.Restores.{restore_course}
use Rattle.course_laws.specs.Leading.{Leads, LeadsFrom, leads_none, leads_then}
use Rattle.course_laws.specs.AppendingLaws.{IsBatch, IsReadyFor, can_end_lanes, leads_append}
use Rattle.backup_course_laws.specs.ArchivingLaws.{AreSpaces}
use Rattle.backup_course_laws.specs.SpacesLaws.{leads_spaces}
use Rattle.restore_course_laws.specs.BeginningLaws.{leads_restore, restore_can}
use Rattle.generated_laws.specs.QuietLaws.{IsAppended, appended_behind, no_more, quiet_lanes, quiet_same, quiet_spaces}
use Rattle.generated_laws.specs.DrawnLaws.{AllEnded, drawn_ends, drawn_is_batch}

-- the site between the parts of the story: no restore is under way, the log is there, and no transaction is open
record IsBetween (moment : ℕ) (site : Site) : Type 0 where
  head : site.head ≡ generated_head moment
  none : site.active ≡ None
  has : HasRing site
  all : AllEnded (reverse site.history)

still : (moment : ℕ) (site other : Site) → IsAppended [] site other → IsBetween moment site → IsBetween moment other
still moment site other same is = record {
  head = same.head ∙ is.head;
  none = same.active ∙ is.none;
  has = same.has is.has;
  all = subst (λ (h : History). AllEnded (reverse h)) (no_more site.history ∙ sym same.history) is.all;
}

abbrev Any : Site → Type 0
Any site = Unit {0}

moment_early : (moment i : ℕ) → moment_of moment i < 2 ^ 64
moment_early moment i = omega arith

-- a drawn transaction
leads_drawn : (moment i x : ℕ) → LeadsFrom (IsBetween moment) (drawn_batch moment i x) (IsBetween moment)
leads_drawn moment i x site fit is = record {
  can = leads.can;
  then_holds = λ no_fault.
      let same = appended_behind records site is.has no_fault in record {
        head = same.head ∙ is.head;
        none = same.active ∙ is.none;
        has = same.has is.has;
        all = subst (λ (h : History). AllEnded (reverse h)) (sym same.history) (drawn_ends i time x site.history is.all later);
      };
}
  where
    time : ℕ
    time = max (moment_of moment i) (last_time site.history)

    later : last_time site.history ≤ time
    later = omega arith

    records : History
    records = (draw_transaction i time x).value

    batch : IsBatch site.head.spaces site.history records
    batch = subst (λ (h : Head). IsBatch h.spaces site.history records) (sym is.head) (drawn_is_batch i time x site.history is.all later)

    leads : Leads site (append_course records site) (IsReadyFor [])
    leads = leads_append records [] site fit (record { none = is.none; has = is.has; are = (batch, tt) })

-- a backup of both spaces

both_once : (space : ℕ) → times space (0 ∷ 1 ∷ []) ≤ 1
both_once space = by (0 == space) (1 == space) refl refl
  where
    neither : (0 == space) ≡ true → (1 == space) ≡ true → ⊥
    neither zero_is one_is = grind (arith, nat_tests, zero_is, one_is)

    by : (a b : Bool) → (0 == space) ≡ a → (1 == space) ≡ b → (if a then 1 else 0) + ((if b then 1 else 0) + 0) ≤ 1
    by true true is also = absurd (neither is also)
    by true false is also = omega arith
    by false true is also = omega arith
    by false false is also = omega arith

both_are : (moment : ℕ) (site : Site) → site.head ≡ generated_head moment → AreSpaces (length site.head.spaces) (0 ∷ 1 ∷ [])
both_are moment site is = subst (λ (h : Head). AreSpaces (length h.spaces) (0 ∷ 1 ∷ [])) (sym is)
    (record { within = (omega arith, (omega arith, tt)); once = both_once })

leads_backup : (moment level at : ℕ) → at < 2 ^ 64 → LeadsFrom (IsBetween moment) (spaces_course level (0 ∷ 1 ∷ []) at) (IsBetween moment)
leads_backup moment level at early site fit is = record {
  can = (leads_spaces level (0 ∷ 1 ∷ []) at early site fit (both_are moment site is.head)).can;
  then_holds = λ no_fault. still moment site _ (quiet_same (spaces_course level (0 ∷ 1 ∷ []) at site).moves site (quiet_spaces level (0 ∷ 1 ∷ []) at site)) is;
}

-- all transactions, with the backups among them
leads_transactions : (moment left i backups x : ℕ) → LeadsFrom (IsBetween moment) (transactions_from moment left i backups x) (IsBetween moment)
leads_transactions moment zero i backups x = λ site fit is. record { can = tt; then_holds = λ no_fault. is }
leads_transactions moment (suc left) i backups x =
    by ((i % 50 == 0) || (left == 0)) (leads_transactions moment left (suc i) (suc backups) (draw_transaction i 0 x).state)
    (leads_transactions moment left (suc i) backups (draw_transaction i 0 x).state)
  where
    Here : Site → Type 0
    Here = IsBetween moment

    further : ℕ → SiteCourse
    further made = transactions_from moment left (suc i) made (draw_transaction i 0 x).state

    by : (b : Bool) → LeadsFrom Here (further (suc backups)) Here → LeadsFrom Here (further backups) Here
        → LeadsFrom Here (if b then in_turn (drawn_batch moment i x ∷ spaces_course (backups % 3) (0 ∷ 1 ∷ []) (moment_of moment i) ∷ further (suc backups) ∷ [])
        else in_turn (drawn_batch moment i x ∷ further backups ∷ [])) Here
    by true with_backup without =
        leads_then Here Here Here (drawn_batch moment i x) (in_turn (spaces_course (backups % 3) (0 ∷ 1 ∷ []) (moment_of moment i) ∷ further (suc backups) ∷ [])) (leads_drawn moment i x)
        (leads_then Here Here Here (spaces_course (backups % 3) (0 ∷ 1 ∷ []) (moment_of moment i)) (in_turn (further (suc backups) ∷ []))
        (leads_backup moment (backups % 3) (moment_of moment i) (moment_early moment i))
        (leads_then Here Here Here (further (suc backups)) (in_turn []) with_backup (leads_none Here)))
    by false with_backup without =
        leads_then Here Here Here (drawn_batch moment i x) (in_turn (further backups ∷ [])) (leads_drawn moment i x)
        (leads_then Here Here Here (further backups) (in_turn []) without (leads_none Here))

-- the end of the story

leads_end : (moment : ℕ) → LeadsFrom (IsBetween moment) (λ site. make (lanes_to_end site)) (IsBetween moment)
leads_end moment site fit is = record {
  can = can_end_lanes site is.none is.has;
  then_holds = λ no_fault. still moment site _ (quiet_same (lanes_to_end site) site (quiet_lanes site)) is;
}

lanes_close : (site : Site) (space : ℕ) (lanes : List LaneState) → EachCan site space lanes (map (λ lane. lost) lanes)
lanes_close site space [] = tt
lanes_close site space (lane ∷ lanes) = (closes refl, lanes_close site (suc space) lanes)

leads_loss : (moment : ℕ) → LeadsFrom (IsBetween moment) (λ site. make (move_lanes (map (λ lane. lost) site.lanes) ∷ [])) (IsBetween moment)
leads_loss moment site fit is = record {
  can = (lanes_close site 0 site.lanes, tt);
  then_holds = λ no_fault. still moment site _ (quiet_same (move_lanes (map (λ lane. lost) site.lanes) ∷ []) site (tt, tt)) is;
}

leads_last : (moment at : ℕ) → at < 2 ^ 64 → LeadsFrom (IsBetween moment) (restore_course at at_end) Any
leads_last moment at early site fit is = record {
  can = restore_can (position_of at_end site) (restore_course at at_end site).moves site (leads_restore site at early at_end fit).can;
  then_holds = λ no_fault. tt;
}

leads_story : (seed count moment : ℕ) → LeadsFrom (IsBetween moment) (story_course seed count moment) Any
leads_story seed count moment =
    leads_then (IsBetween moment) (IsBetween moment) Any (transactions_from moment count 1 0 seed)
    (in_turn ((λ site. make (lanes_to_end site)) ∷ (λ site. make (move_lanes (map (λ lane. lost) site.lanes) ∷ [])) ∷ restore_course (moment_of moment count) at_end ∷ []))
    (leads_transactions moment count 1 0 seed)
    (leads_then (IsBetween moment) (IsBetween moment) Any (λ site. make (lanes_to_end site))
    (in_turn ((λ site. make (move_lanes (map (λ lane. lost) site.lanes) ∷ [])) ∷ restore_course (moment_of moment count) at_end ∷ [])) (leads_end moment)
    (leads_then (IsBetween moment) (IsBetween moment) Any (λ site. make (move_lanes (map (λ lane. lost) site.lanes) ∷ [])) (in_turn (restore_course (moment_of moment count) at_end ∷ [])) (leads_loss moment)
    (leads_then (IsBetween moment) Any Any (restore_course (moment_of moment count) at_end) (in_turn []) (leads_last moment (moment_of moment count) (moment_early moment count))
    (leads_none Any))))

-- formatting

other_name : codes "B" ≡ codes "A" → ⊥
other_name same = let first : 66 ≡ 65 = ap (λ (name : List ℕ). slice_index name 0) same in absurd (omega (arith, first))

generated_is_head : (moment : ℕ) → moment < 2 ^ 64 → IsHead (generated_head moment)
generated_is_head moment early = record {
  site = early;
  some_blocks = omega arith;
  few_blocks = omega arith;
  some = omega arith;
  few = omega arith;
  each = (record { named = refl; some = omega arith; few = omega arith }, (record { named = refl; some = omega arith; few = omega arith }, tt));
  distinct = ((other_name, tt), (tt, tt));
}

worlds_can : (moves : List Move) (site : Site) → CanAll moves site → CanWorldAll (map moves_on moves) (formatted site)
worlds_can [] site can = tt
worlds_can (move ∷ moves) site can = (can.0, worlds_can moves (site_after move site) can.1)

-- The moves of `-gen` may be made.
pub generated_can : (seed count moment : ℕ) (world : World) → moment < 2 ^ 64 → CanWorldAll (generated_course seed count moment world).moves world
generated_can seed count moment unformatted early =
    let head = generated_is_head moment early in (
      head,
      worlds_can (story_course seed count moment (new_site (generated_head moment))).moves (new_site (generated_head moment))
          (leads_story seed count moment (new_site (generated_head moment)) (new_site_fits (generated_head moment) head) (record {
            head = refl;
            none = refl;
            has = record { ring = _; is = refl };
            all = record { order = tt; empty = refl; ended = λ txn. refl };
          })).can,
    )
generated_can seed count moment (formatted site) early = tt

-- A stop anywhere within leaves a fit world.
pub generated_passes : (seed count moment : ℕ) (world other : World) → moment < 2 ^ 64 → IsFit world
    → IsOnWay world_rules (generated_course seed count moment world).moves world other → IsFit other
generated_passes seed count moment world other early fit on =
    world_fit_on_way (generated_course seed count moment world).moves world other (generated_can seed count moment world early) fit on
