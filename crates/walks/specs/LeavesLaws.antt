-- How the clause of a call of one disk, or of a phase, comes about from what the call does to the disk's images.
use Rattle.std.specs.Prelude.{◌≡◌, ℕ, ◌≤◌, List, Bool, true, Option, None, Some}
use mathlib.Core.Logic.{inl, inr}
use Rattle.std.proofs.Common.{sym}
use Rattle.walks.specs.Follows.{Goes, Ends}
use Rattle.walks.specs.Moving.{MovesOne, MovedOne, Phase}
use Rattle.walks.specs.MovingLaws.{one_goes, one_comes, joined}
use Rattle.walks.specs.Courses.{after_all, Course, Stage, PassedBy, HasEnded, Does, Call}

module _ {Name Move V W F S : Type 0} (stage : Stage Name Move V W F S) (needs from to : ℕ) (old new : S) (course : V → Course Move F) where
  -- a call of one disk that is cut short
  pub one_disk_fails : (who : Name) (is_moving : Name → Bool) (fault : F) → stage.cuts fault ≡ true → from ≤ to
      → ((opened : ℕ) (world : W) → needs ≤ opened → stage.stands opened from old world
      → MovesOne stage.shows who is_moving from (stage.images old) (stage.images new) world (PassedBy stage (course (stage.seen world)).moves world))
      → Call stage needs from to old new course (Some fault)
  one_disk_fails who is_moving fault cut le moves opened world enough stands = record {
    no_earlier = le;
    goes = one_goes stage.shows who is_moving from (stage.images old) (stage.images new) world
        (PassedBy stage (course (stage.seen world)).moves world) (moves opened world enough stands);
    ended = inl cut;
  }

  -- and one that ended
  pub one_disk_done : (who : Name) (is_moving : Name → Bool) → ((v : V) → (course v).fault ≡ None)
      → ((opened : ℕ) (world : W) → needs ≤ opened → stage.stands opened from old world
      → (next : W) × (stage.seen next ≡ after_all stage.rules (course (stage.seen world)).moves (stage.seen world)) × stage.stands opened to new next
      × MovedOne stage.shows who is_moving from to (stage.images old) (stage.images new) world (PassedBy stage (course (stage.seen world)).moves world) next)
      → Call stage needs from to old new course None
  one_disk_done who is_moving well moved opened world enough stands =
      let is = moved opened world enough stands in
      let comes = one_comes stage.shows who is_moving from to (stage.images old) (stage.images new) world
      (PassedBy stage (course (stage.seen world)).moves world) is.0 is.3 in
      record {
        no_earlier = comes.no_earlier;
        goes = comes.goes;
        ended = inr (record {
          fault_is = sym (well (stage.seen world));
          next = is.0;
          next_is = is.1;
          ends = comes.ends;
          stands = is.2;
        });
      }

  -- a phase of disks that is cut short: each is at a place of its own
  pub phase_fails : {Place : Type 0} (world_at : W → (Name → Place) → W) (may : W → Name → Place → Type 0) (fault : F) → stage.cuts fault ≡ true → from ≤ to
      → ((opened : ℕ) (world : W) → needs ≤ opened → stage.stands opened from old world
      → Phase stage.shows (world_at world) (may world) from (stage.images old) (stage.images new) world)
      → ((world : W) (places : Name → Place) → ((name : Name) → may world name (places name)) → PassedBy stage (course (stage.seen world)).moves world (world_at world places))
      → Call stage needs from to old new course (Some fault)
  phase_fails world_at may fault cut le phase passes opened world enough stands = record {
    no_earlier = le;
    goes = joined stage.shows (world_at world) (may world) from (stage.images old) (stage.images new) world
        (PassedBy stage (course (stage.seen world)).moves world) (phase opened world enough stands) (passes world);
    ended = inl cut;
  }

  -- and one that ended: each disk is at the place to which it was to come
  pub phase_done : {Place : Type 0} (world_at : W → (Name → Place) → W) (may : W → Name → Place → Type 0) → from ≤ to → ((v : V) → (course v).fault ≡ None)
      → ((opened : ℕ) (world : W) → needs ≤ opened → stage.stands opened from old world
      → Phase stage.shows (world_at world) (may world) from (stage.images old) (stage.images new) world
      × ((next : W) × (stage.seen next ≡ after_all stage.rules (course (stage.seen world)).moves (stage.seen world)) × stage.stands opened to new next
      × Ends stage.shows to (stage.images old) (stage.images new) world next))
      → ((world : W) (places : Name → Place) → ((name : Name) → may world name (places name)) → PassedBy stage (course (stage.seen world)).moves world (world_at world places))
      → Call stage needs from to old new course None
  phase_done world_at may le well phase passes opened world enough stands =
      let is = phase opened world enough stands in
      record {
        no_earlier = le;
        goes = joined stage.shows (world_at world) (may world) from (stage.images old) (stage.images new) world
            (PassedBy stage (course (stage.seen world)).moves world) is.0 (passes world);
        ended = inr (record {
          fault_is = sym (well (stage.seen world));
          next = is.1.0;
          next_is = is.1.1;
          ends = is.1.3;
          stands = is.1.2;
        });
      }
