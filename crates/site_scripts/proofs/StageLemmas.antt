-- Runs of scripts as calls by courses, one after another.
use Rattle.std.proofs.Common.{◌≡◌, ◌∙◌, ℕ, ◌≤◌, [], Option, None, Some, true, inl, inr, ⊎_elim, refl, sym, ap, arith}
use Rattle.log_history.specs.History.{History}
use Rattle.site_disk.specs.declared.disk.Disk.{Ghosts}
use Rattle.site_headers.specs.Heads.{Head}
use Rattle.site_layouts.specs.Stages.{HeldSite, StandsFor}
use Rattle.site_core.specs.declared.site.Site.{Site as SiteValue}
use Rattle.site_core.specs.Layers.{layers}
use Rattle.site_worlds.specs.Moves.{Move, site_rules}
use Rattle.walks.specs.Courses.{Course, make, only, then_do, behind_moves}
use Rattle.walks.specs.CoursesLaws.{then_next, only_read, nothing_done, begins, goes_on, ends_by, fails}
use Rattle.site_scripts.specs.declared.work.Work.{Work}
use Rattle.site_scripts.specs.Stages.{CallBy, Halt, HasLeft, Knows, LeadsTo, RunCourse, SiteUse, cuts_run, in_use, run_stage}

module _ {D : Type 0} (disk : Ghosts D) (head : Head) (first : History) where
  abbrev pub Stands : ℕ → ℕ → SiteUse D → HeldSite → Type 0
  Stands opened from run at = (run_stage disk head first).stands opened from run at

  pub stands_so : (opened from : ℕ) (site : SiteValue D) (work : Work) (at : HeldSite) → StandsFor (layers disk) opened from site at → Knows head first work at.site
      → Stands opened from (in_use site work) at
  unfolding run_stage
  stands_so opened from site work at stands knows = (stands, knows)

  pub site_stands : (opened from : ℕ) (run : SiteUse D) (at : HeldSite) → Stands opened from run at → StandsFor (layers disk) opened from run.site at
  unfolding run_stage
  site_stands opened from run at stands = stands.0

  pub known : (opened from : ℕ) (run : SiteUse D) (at : HeldSite) → Stands opened from run at → Knows head first run.work at.site
  unfolding run_stage
  known opened from run at stands = stands.1

  pub left_all : (from : ℕ) (run : SiteUse D) (whole : RunCourse) → HasLeft disk head first from from run run whole whole
  unfolding run_stage
  left_all from run whole opened at enough stands =
      begins (run_stage disk head first) opened from from run run at (whole at.site) whole (omega arith) (λ f name bytes image. image) stands refl

  -- more is done of what is left
  pub further : (from now to : ℕ) (old mid new : SiteUse D) (whole rest next : RunCourse) → HasLeft disk head first from now old mid whole rest
      → LeadsTo disk head first now to mid new rest next → HasLeft disk head first from to old new whole next
  unfolding run_stage
  further from now to old mid new whole rest next left leads opened at enough stands =
      let so = left opened at enough stands in
      goes_on (run_stage disk head first) opened from now old mid at (whole at.site) leads.part next
      (record {
        made = so.made;
        next = so.next;
        comes = so.comes;
        next_is = so.next_is;
        whole_is = so.whole_is ∙ ap (λ (c : Course Move Halt). behind_moves so.made c) (leads.goes opened so.next enough so.stands);
        stands = so.stands;
      }) 3 to new enough leads.call

  -- all that is left is done by one more call
  pub finished : (from now to : ℕ) (old mid new : SiteUse D) (whole rest : RunCourse) (halt : Halt) → HasLeft disk head first from now old mid whole rest
      → CallBy disk head first now to mid new rest (Some halt) → CallBy disk head first from to old new whole (Some halt)
  unfolding run_stage
  finished from now to old mid new whole rest halt left call opened at enough stands =
      ends_by (run_stage disk head first) opened from now old mid at (whole at.site) rest (left opened at enough stands) 3 to new (Some halt) enough call

  -- a step that leaves the site's disks alone, and knows what is so of the site again
  module _ (from : ℕ) (site : SiteValue D) (old new : Work) (again : (at : HeldSite) (opened : ℕ) → 3 ≤ opened → Stands opened from (in_use site old) at → Knows head first new at.site) where
    pub rests : (whole rest : RunCourse) → ((at : HeldSite) (opened : ℕ) → 3 ≤ opened → Stands opened from (in_use site old) at → whole at.site ≡ rest at.site)
        → LeadsTo disk head first from from (in_use site old) (in_use site new) whole rest
    unfolding run_stage
    rests whole rest is = record {
      part = λ s. make [];
      call = only_read (run_stage disk head first) 3 from from (in_use site old) (in_use site new) (λ s. make []) None (omega arith) (λ f name bytes image. image)
          (λ opened at enough stands. (refl, (stands.0, again at opened enough stands)));
      goes = λ opened at enough stands. is at opened enough stands ∙ sym (then_next site_rules (λ s. make []) rest at.site refl);
    }

    -- a call behind such a step is one from before it
    pub from_before : (to : ℕ) (last : SiteUse D) (course : RunCourse) (fault : Option Halt) → CallBy disk head first from to (in_use site new) last course fault
        → CallBy disk head first from to (in_use site old) last course fault
    unfolding run_stage
    from_before to last course fault call opened at enough stands =
        let does = call opened at enough (stands.0, again at opened enough stands) in
        record {
          no_earlier = does.no_earlier;
          goes = does.goes;
          ended = ⊎_elim (λ cut. inl cut) (λ has. inr (record { fault_is = has.fault_is; next = has.next; next_is = has.next_is; ends = has.ends; stands = has.stands })) does.ended;
        }

  pub cut_here : (from : ℕ) (site : SiteValue D) (old new : Work) (whole : RunCourse) (halt : Halt) → cuts_run halt.fault ≡ true
      → CallBy disk head first from from (in_use site old) (in_use site new) whole (Some halt)
  unfolding run_stage
  cut_here from site old new whole halt cut =
      nothing_done (run_stage disk head first) 3 from from (in_use site old) (in_use site new) whole halt cut (omega arith) (λ f name bytes image. image)

  -- a run ends where nothing is left to do
  pub ends_here : (from : ℕ) (run : SiteUse D) (whole : RunCourse) (halt : Halt)
      → ((at : HeldSite) (opened : ℕ) → 3 ≤ opened → Stands opened from run at → whole at.site ≡ only (Some halt))
      → CallBy disk head first from from run run whole (Some halt)
  unfolding run_stage
  ends_here from run whole halt is =
      only_read (run_stage disk head first) 3 from from run run whole (Some halt) (omega arith) (λ f name bytes image. image)
      (λ opened at enough stands. (is at opened enough stands, stands))

  -- a run that was only to end behind what was done
  pub led : (from to : ℕ) (old new : SiteUse D) (whole : RunCourse) (halt : Halt) → LeadsTo disk head first from to old new whole (λ s. only (Some halt))
      → CallBy disk head first from to old new whole (Some halt)
  led from to old new whole halt leads =
      finished from to to old new new whole (λ s. only (Some halt)) halt
      (further from from to old old new whole whole (λ s. only (Some halt)) (left_all from old whole) leads)
      (ends_here to new (λ s. only (Some halt)) halt (λ at opened enough stands. refl))

  -- a part of what is left ends in a fault
  pub breaks : (from to : ℕ) (old new : SiteUse D) (whole part rest : RunCourse) (halt : Halt)
      → ((at : HeldSite) (opened : ℕ) → 3 ≤ opened → Stands opened from old at → whole at.site ≡ then_do site_rules part rest at.site)
      → CallBy disk head first from to old new part (Some halt) → CallBy disk head first from to old new whole (Some halt)
  unfolding run_stage
  breaks from to old new whole part rest halt is call opened at enough stands =
      fails (run_stage disk head first) opened from from old old at (whole at.site) part rest
      (begins (run_stage disk head first) opened from from old old at (whole at.site) (then_do site_rules part rest) (omega arith) (λ f name bytes image. image) stands
      (is at opened enough stands)) 3 to new halt enough call
