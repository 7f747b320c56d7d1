-- Laws of calls whose moves may be made from some worlds alone.
use Rattle.std.specs.Prelude.{◌≡◌, ◌⊎◌, ℕ, ◌≤◌, List, [], ◌++◌, true, Option, None, Some}
use mathlib.Core.Logic.{inl, inr}
use Rattle.std.proofs.Common.{arith, refl, sym, ap, subst, ◌∙◌, ⊎_elim}
use Rattle.walks.specs.Follows.{Comes, Follows}
use Rattle.walks.specs.FollowsLaws.{goes_wider, goes_after, follows_after, still}
use Rattle.walks.specs.Courses.{Course, IsOnWay, Stage, PassedBy, Does, Call, after_all, make, only, behind_moves}
use Rattle.walks.specs.CoursesLaws.{after_all-append, way_begins, way_front, way_behind}
use Rattle.world_laws.specs.ListLaws.{none_some}
use Rattle.site_worlds.specs.Worlds.{Site}
use Rattle.site_worlds.specs.Fitness.{IsFitSite}
use Rattle.site_worlds.specs.Moves.{Move}
use Rattle.site_courses.specs.Faults.{Fault}
use Rattle.site_courses.specs.Courses.{SiteCourse}
use Rattle.site_layouts.specs.Stages.{Layers, site_stage}
use Rattle.site_core.specs.Calls.{CallFrom}

module _ {Name Move V W F S : Type 0} (stage : Stage Name Move V W F S) where
  module _ (needs from to : ℕ) (old new : S) (course : V → Course Move F) (fault : Option F) where
    -- where they may be made from each world for which the site stands, it is the clause of any call
    pub call_of : (may : V → Type 0) → CallFrom stage may needs from to old new course fault
        → ((opened : ℕ) (world : W) → needs ≤ opened → stage.stands opened from old world → may (stage.seen world)) → Call stage needs from to old new course fault
    call_of may call can opened world enough stands = call opened world enough stands (can opened world enough stands)

  module _ (opened from to : ℕ) (old new : S) (world : W) (moves : List Move) where
    -- a call that fails in the first moves of a course, and so is cut short
    pub cut_does : (rest : Course Move F) (fault : F) → Does stage opened from to old new world (make moves) (Some fault)
        → Does stage opened from to old new world (behind_moves moves rest) (Some fault)
    cut_does rest fault does = record {
      no_earlier = does.no_earlier;
      goes = goes_wider stage.shows from (stage.images old) (stage.images new) world (PassedBy stage moves world) (PassedBy stage (moves ++ rest.moves) world)
          (λ w. way_front stage.rules moves rest.moves (stage.seen world) (stage.seen w)) does.goes;
      ended = ⊎_elim (λ cut. inl cut) (λ has. absurd (none_some (sym has.fault_is))) does.ended;
    }

  module _ (opened from now to : ℕ) (old mid new : S) (world : W) (moves : List Move) (rest : Course Move F) (fault : Option F) where
    both : (next : W) → stage.seen next ≡ after_all stage.rules moves (stage.seen world)
        → Comes stage.shows from now (stage.images old) (stage.images mid) world (PassedBy stage moves world) next
        → Does stage opened now to mid new next rest fault → Does stage opened from to old new world (behind_moves moves rest) fault
    both next is comes does = record {
      no_earlier = (let a = comes.no_earlier in let b = does.no_earlier in omega arith);
      goes = goes_wider stage.shows from (stage.images old) (stage.images new) world
          (λ (w : W). PassedBy stage moves world w ⊎ PassedBy stage rest.moves next w)
          (PassedBy stage (moves ++ rest.moves) world)
          (λ w. ⊎_elim (λ first. way_front stage.rules moves rest.moves (stage.seen world) (stage.seen w) first)
          (λ later. way_behind stage.rules moves rest.moves (stage.seen world) (stage.seen w)
          (subst (λ (v : V). PassedFrom v w) is later)))
          (goes_after stage.shows from now (stage.images old) (stage.images mid) (stage.images new) world next
          (PassedBy stage moves world) (PassedBy stage rest.moves next) comes does.goes);
      ended = ⊎_elim (λ cut. inl cut) (λ has. inr (record {
        fault_is = has.fault_is;
        next = has.next;
        next_is = has.next_is
            ∙ ap (λ (v : V). after_all stage.rules rest.moves v) is
            ∙ sym (after_all-append stage.rules moves rest.moves (stage.seen world));
        ends = λ f name bytes le image. follows_after stage.shows (stage.images old) (stage.images mid) f world next has.next name bytes
            (comes.ends f name bytes (let b = does.no_earlier in omega arith)) (has.ends f name bytes le image);
        stands = has.stands;
      })) does.ended;
    }
      where
        PassedFrom : V → W → Type 0
        PassedFrom v w = IsOnWay stage.rules rest.moves v (stage.seen w)

    -- a call that ended, and another one behind it
    pub then_does : Does stage opened from now old mid world (make moves) None
        → ((next : W) → stage.seen next ≡ after_all stage.rules moves (stage.seen world) → stage.stands opened now mid next → Does stage opened now to mid new next rest fault)
        → Does stage opened from to old new world (behind_moves moves rest) fault
    then_does first then = ⊎_elim
        (λ cut. absurd cut)
        (λ has. both has.next has.next_is (record { no_earlier = first.no_earlier; goes = first.goes; ends = has.ends }) (then has.next has.next_is has.stands))
        first.ended

module _ {Name Move V W F S : Type 0} (stage : Stage Name Move V W F S) (opened from to : ℕ) (old mid new : S) (world : W) (course : Course Move F) (fault : Option F)
    (none : (f : ℕ) (name : Name) (bytes : List ℕ) → stage.images mid f name bytes → stage.images old f name bytes) where
  follows_too : (f : ℕ) (next : W) (name : Name) (bytes : List ℕ) → Follows stage.shows (stage.images mid) f world next name bytes
      → Follows stage.shows (stage.images old) f world next name bytes
  follows_too f next name bytes = ⊎_elim (λ shows. inl shows) (λ was. inr (none f name bytes was.0, was.1))

  -- a call behind one that leaves no new image
  pub does_behind : Does stage opened from to mid new world course fault → Does stage opened from to old new world course fault
  does_behind does = record {
    no_earlier = does.no_earlier;
    goes = record {
      earlier = λ f name bytes lt image. none f name bytes (does.goes.earlier f name bytes lt image);
      later = λ f choice le images.
          let among = does.goes.later f choice le images in (among.0, among.1, λ name. follows_too f among.0 name (choice name) (among.2 name));
    };
    ended = ⊎_elim (λ cut. inl cut) (λ has. inr (record {
      fault_is = has.fault_is;
      next = has.next;
      next_is = has.next_is;
      ends = λ f name bytes le image. follows_too f has.next name bytes (has.ends f name bytes le image);
      stands = has.stands;
    })) does.ended;
  }

module _ {Name Move V W F S : Type 0} (stage : Stage Name Move V W F S) (opened from to : ℕ) (old new : S) (world : W)
    (none : (f : ℕ) (name : Name) (bytes : List ℕ) → stage.images new f name bytes → stage.images old f name bytes) (le : from ≤ to) where
  -- a call that is cut short before any image is new
  pub cut_at_once : (course : Course Move F) (fault : F) → stage.cuts fault ≡ true → Does stage opened from to old new world course (Some fault)
  cut_at_once course fault cut = record {
    no_earlier = le;
    goes = still stage.shows from (stage.images old) (stage.images new) world (PassedBy stage course.moves world) (way_begins stage.rules course.moves (stage.seen world)) none;
    ended = inl cut;
  }

  -- a call that has nothing to do, or is refused
  pub nothing_to_do : (fault : Option F) → stage.stands opened to new world → Does stage opened from to old new world (only fault) fault
  nothing_to_do fault stands = record {
    no_earlier = le;
    goes = still stage.shows from (stage.images old) (stage.images new) world (PassedBy stage [] world) refl none;
    ended = inr (record {
      fault_is = refl;
      next = world;
      next_is = refl;
      ends = λ f name bytes later image. inr (none f name bytes image, λ shows. shows);
      stands = stands;
    });
  }

-- A call of a site by another course, which is the same where its moves may be made.
pub by_another : {S : Type 0} (layers : Layers S) (may other : Site → Type 0) (needs from to : ℕ) (old new : S) (course same : SiteCourse) (fault : Option Fault)
    → ((site : Site) → IsFitSite site → other site → may site × (course site ≡ same site))
    → CallFrom (site_stage layers) may needs from to old new course fault → CallFrom (site_stage layers) other needs from to old new same fault
unfolding site_stage
by_another layers may other needs from to old new course same fault means call opened at enough stands is =
    let so = means at.site stands.fits is in
    subst (λ (c : Course Move Fault). Does (site_stage layers) opened from to old new at c fault) so.1 (call opened at enough stands so.0)
