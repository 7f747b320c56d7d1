-- What a stop within a call of the log leaves is what its moves pass.
use Rattle.std.specs.Prelude.{◌≡◌, ◌⊎◌, ℕ, List, [], ◌∷◌, Bool, true, false, if◌then◌else◌, Some}
use Rattle.std.specs.Option.{option_map}
use mathlib.Core.Logic.{inl, inr}
use Rattle.std.proofs.Common.{refl, sym, ap, subst, ◌∙◌, ⊎_elim}
use Rattle.log_history.specs.History.{LogEntry, History, reset}
use Rattle.log_files.specs.Files.{LogFiles, appended, with_next, without_oldest, is_full, with_place, passed_to_head}
use Rattle.log_files.specs.Ring.{HoldsRing, HoldsOneOf, MayPass}
use Rattle.walks.specs.Courses.{IsOnWay}
use Rattle.site_headers.specs.Heads.{Head}
use Rattle.site_worlds.specs.Worlds.{Site}
use Rattle.site_worlds.specs.Fitness.{IsFitSite}
use Rattle.site_worlds.specs.Moves.{Move, append_batch, append_reset, close_file, drop_oldest, next_file, mark_backed, format_log, commit_objects, append_lines, begin_restore, set_prepared, end_restore, move_lanes, site_after, site_rules, stops_at_begin}
use Rattle.world_laws.specs.KeptLaws.{CanAll, kept}
use Rattle.ring_laws.specs.Rings.{files_in, files_after, files_on_way, opening, heading}
use Rattle.ring_laws.specs.MovesLaws.{files_behind}

-- what writing a record at the head of an empty file passes, by whether all places are held
abbrev headed_files : LogFiles → Bool → History → LogEntry → List LogFiles
headed_files files full [] entry = appended files (entry ∷ []) ∷ []
headed_files files full (other ∷ entries) entry =
    (if full then without_oldest files else files) ∷ with_next (if full then without_oldest files else files)
    ∷ appended (with_next (if full then without_oldest files else files)) (entry ∷ []) ∷ []

module _ (site : ℕ) (files : LogFiles) (old new : List ℕ) where
  -- the next file

  opened_by : (full : Bool) → (HoldsRing site files old → HoldsOneOf site
      (files ∷ (if full then without_oldest files else files) ∷ with_next (if full then without_oldest files else files) ∷ []) new)
      → HoldsRing site files old → HoldsOneOf site (files ∷ files_on_way (opening full) files) new
  opened_by true may holds = may holds
  opened_by false may holds = ⊎_elim (λ here. inl here) (λ later. later) (may holds)

  -- What a stop leaves while the next file is opened is what its moves pass.
  pub opened_passes : MayPass site files (with_place files ∷ with_next (with_place files) ∷ []) old new → MayPass site files (files_on_way (opening (is_full files)) files) old new
  opened_passes may holds = opened_by (is_full files) may holds

  -- a Reset

  headed_by : (full : Bool) (current : History) (restore target time : ℕ)
      → (HoldsRing site files old → HoldsOneOf site (files ∷ headed_files files full current (reset restore target time)) new)
      → HoldsRing site files old → HoldsOneOf site (files ∷ files_on_way (heading full current (append_reset restore target time)) files) new
  headed_by full [] restore target time may holds = may holds
  headed_by true (entry ∷ current) restore target time may holds = may holds
  headed_by false (entry ∷ current) restore target time may holds = ⊎_elim (λ here. inl here) (λ later. later) (may holds)

  -- So it is while a Reset is written at the head of a file.
  pub headed_passes : (restore target time : ℕ) → MayPass site files (passed_to_head files files.current (reset restore target time)) old new
      → MayPass site files (files_on_way (heading (is_full files) files.current (append_reset restore target time)) files) old new
  headed_passes restore target time may holds =
      headed_by (is_full files) files.current restore target time
      (λ there. subst (λ (passed : List LogFiles). HoldsOneOf site (files ∷ passed) new) (as_headed files.current) (may there)) holds
    where
      as_headed : (current : History) → passed_to_head files current (reset restore target time) ≡ headed_files files (is_full files) current (reset restore target time)
      as_headed [] = refl
      as_headed (entry ∷ current) = refl

-- moves of a site

pub head_stays : (move : Move) (site : Site) → (site_after move site).head ≡ site.head
head_stays (append_batch records) site = refl
head_stays (append_reset restore target time) site = refl
head_stays close_file site = refl
head_stays drop_oldest site = refl
head_stays next_file site = refl
head_stays (mark_backed file) site = refl
head_stays format_log site = refl
head_stays (commit_objects added deleted) site = refl
head_stays (append_lines more) site = refl
head_stays (begin_restore point to) site = refl
head_stays (set_prepared prepared) site = refl
head_stays end_restore site = refl
head_stays (move_lanes goals) site = refl

-- moves that leave the log there
abbrev pub AreSteps : List Move → Type 0
AreSteps [] = Unit {0}
AreSteps (move ∷ moves) = (move ≡ format_log → ⊥) × AreSteps moves

-- A disk that holds what moves pass holds the files of a site on their way.
pub way_holds : (moves : List Move) (site : Site) (files : LogFiles) (bytes : List ℕ) → AreSteps moves → CanAll moves site → IsFitSite site
    → files_in site ≡ Some files → HoldsOneOf site.head.site (files ∷ files_on_way moves files) bytes
    → (other : Site) × (held : LogFiles) × IsOnWay site_rules moves site other × (other.head ≡ site.head) × (files_in other ≡ Some held) × HoldsRing site.head.site held bytes
unfolding site_rules
way_holds [] site files bytes steps can fit is (inl holds) = (site, files, refl, refl, is, holds)
way_holds [] site files bytes steps can fit is (inr later) = absurd later
way_holds (move ∷ moves) site files bytes steps can fit is (inl holds) = (site, files, inl (stops_at_begin move site), refl, is, holds)
way_holds (move ∷ moves) site files bytes steps can fit is (inr later) =
    let same = head_stays move site in
    let next = way_holds moves (site_after move site) (files_after move files) bytes steps.1 can.1 (kept move site can.0 fit)
    (files_behind move site can.0 fit steps.0 ∙ ap (option_map (files_after move)) is)
    (subst (λ (n : ℕ). HoldsOneOf n (files_after move files ∷ files_on_way moves (files_after move files)) bytes) (sym (ap (λ (h : Head). h.site) same)) later) in
    (next.0, next.1, inr next.2, next.3 ∙ same, next.4, subst (λ (n : ℕ). HoldsRing n next.1 bytes) (ap (λ (h : Head). h.site) same) next.5)
