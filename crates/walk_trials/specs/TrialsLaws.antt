-- How a call of three disks comes to be a move, and two of them to be a course.
use Rattle.std.specs.Prelude.{◌≡◌, ℕ, ◌<◌, ◌≤◌, max, List, [], ◌∷◌, length, Option, None, Some}
use Rattle.std.proofs.Common.{arith, ap, inl, refl, sym, subst, ◌∙◌}
use Rattle.site_disk.specs.declared.disk.Disk.{Ghosts}
use Rattle.site_disk.specs.declared.faults.Failed.{Failed}
use Rattle.walks.specs.Moving.{Phase}
use Rattle.walks.specs.Courses.{Call, Course, PassedBy, make, then_do}
use Rattle.walks.specs.CoursesLaws.{begins, ends_by, fails, goes_on}
use Rattle.walks.specs.LeavesLaws.{phase_done, phase_fails}
use Rattle.walk_trials.specs.declared.trio.Move.{Move}
use Rattle.walk_trials.specs.declared.trio.Name.{Name}
use Rattle.walk_trials.specs.declared.trio.Name.TheVariants.{First, Second, Third}
use Rattle.walk_trials.specs.declared.trio.Numbers.{Numbers}
use Rattle.walk_trials.specs.declared.trio.Trio.{Trio}
use Rattle.walk_trials.specs.Trials.{AreLong, Each, EachGrows, HaveCome, IsBetween, Shows, StandsFor, goals_of, images_of, length_of, number_of, raised, trio_stage}

of_each : (P : Name → Type 0) → Each P → (name : Name) → P name
of_each P each First = each.first
of_each P each Second = each.second
of_each P each Third = each.third

-- three numbers by their places
abbrev numbers_at : Numbers → (Name → ℕ) → Numbers
numbers_at numbers places = record { first = places First; second = places Second; third = places Third }

number_at : (numbers : Numbers) (places : Name → ℕ) (name : Name) → number_of (numbers_at numbers places) name ≡ places name
number_at numbers places First = refl
number_at numbers places Second = refl
number_at numbers places Third = refl

number_raised : (goals numbers : Numbers) (name : Name) → number_of (raised goals numbers) name ≡ max (number_of numbers name) (number_of goals name)
number_raised goals numbers First = refl
number_raised goals numbers Second = refl
number_raised goals numbers Third = refl

abbrev may_be : Move → Numbers → Name → ℕ → Type 0
may_be move numbers name place = IsBetween (number_of numbers name) (number_of (goals_of move) name) place

module _ {D : Type 0} (disk : Ghosts D) where
  module _ (move : Move) (from to : ℕ) (old new : Trio D) (le : from ≤ to) (grows : EachGrows disk from (goals_of move) old new) where
    -- each disk is at a place of its own
    phase : (numbers : Numbers) → StandsFor disk from old numbers
        → Phase Shows (numbers_at numbers) (may_be move numbers) from (images_of disk old) (images_of disk new) numbers
    phase numbers stands = record {
      earlier = λ f name bytes lt image. (of_each _ grows name).earlier f bytes lt image;
      each = λ f name bytes later image. (
        length bytes,
        subst (λ (n : ℕ). IsBetween n (number_of (goals_of move) name) (length bytes)) (of_each _ stands.reads name)
            ((of_each _ grows name).between (λ g before after there. stands.clean g name before after there ∙ sym (of_each _ stands.reads name)) f bytes later image),
        λ places may is. inl (sym (number_at numbers places name ∙ is)),
      );
    }

    passes : (numbers : Numbers) (places : Name → ℕ) → ((name : Name) → may_be move numbers name (places name))
        → PassedBy (trio_stage disk) (move ∷ []) numbers (numbers_at numbers places)
    unfolding trio_stage
    passes numbers places may = inl (λ name. subst (IsBetween (number_of numbers name) (number_of (goals_of move) name)) (sym (number_at numbers places name)) (may name))

    -- a move that is cut short
    pub move_fails : (fault : Failed) → Call (trio_stage disk) 0 from to old new (λ numbers. make (move ∷ [])) (Some fault)
    unfolding trio_stage
    move_fails fault = phase_fails (trio_stage disk) 0 from to old new (λ numbers. make (move ∷ [])) numbers_at (may_be move) fault refl le
        (λ opened numbers enough stands. phase numbers stands) passes

    -- and one that ended in a later era, behind syncs
    pub move_done : from < to → HaveCome disk (goals_of move) old new
        → ((numbers : Numbers) → StandsFor disk from old numbers → AreLong disk from new)
        → Call (trio_stage disk) 0 from to old new (λ numbers. make (move ∷ [])) None
    unfolding trio_stage
    move_done lt come settled = phase_done (trio_stage disk) 0 from to old new (λ numbers. make (move ∷ [])) numbers_at (may_be move) le (λ numbers. refl)
        (λ opened numbers enough stands. (
          phase numbers stands,
          (
            raised (goals_of move) numbers,
            refl,
            record {
              clean = λ f name bytes later image. shows numbers stands f name bytes later image;
              reads = record { first = there numbers stands First; second = there numbers stands Second; third = there numbers stands Third };
            },
            λ f name bytes later image. inl (shows numbers stands f name bytes later image),
          ),
        )) passes
      where
        there : (numbers : Numbers) → StandsFor disk from old numbers → (name : Name) → length_of disk new name ≡ number_of (raised (goals_of move) numbers) name
        there numbers stands name =
            of_each _ come name
            ∙ ap (λ (n : ℕ). max n (number_of (goals_of move) name)) (of_each _ stands.reads name)
            ∙ sym (number_raised (goals_of move) numbers name)

        shows : (numbers : Numbers) → StandsFor disk from old numbers → (f : ℕ) (name : Name) (bytes : List ℕ) → to ≤ f → images_of disk new f name bytes
            → Shows name (raised (goals_of move) numbers) bytes
        shows numbers stands f name bytes later image =
            of_each _ (settled numbers stands) name f bytes (omega (arith, lt, later)) image ∙ there numbers stands name

  -- Two moves, one after another.
  module _ (before behind : Move) (from mid to : ℕ) (old between new : Trio D) where
    abbrev course : Numbers → Course Move Failed
    course numbers = make (before ∷ behind ∷ [])

    -- the first is cut short
    pub first_fails : (fault : Failed) → Call (trio_stage disk) 0 from to old new (λ numbers. make (before ∷ [])) (Some fault)
        → Call (trio_stage disk) 0 from to old new course (Some fault)
    unfolding trio_stage then_do
    first_fails fault call opened numbers enough stands =
        fails (trio_stage disk) opened from from old old numbers (course numbers) (λ n. make (before ∷ [])) (λ n. make (behind ∷ []))
        (begins (trio_stage disk) opened from from old old numbers (course numbers) (then_do (trio_stage disk).rules (λ n. make (before ∷ [])) (λ n. make (behind ∷ [])))
        (omega arith) (λ f name bytes image. image) stands refl)
        0 to new fault (omega arith) call

    -- the second is made behind it, or is cut short
    pub second_ends : (fault : Option Failed) → Call (trio_stage disk) 0 from mid old between (λ numbers. make (before ∷ [])) None
        → Call (trio_stage disk) 0 mid to between new (λ numbers. make (behind ∷ [])) fault
        → Call (trio_stage disk) 0 from to old new course fault
    unfolding trio_stage then_do
    second_ends fault first second opened numbers enough stands =
        ends_by (trio_stage disk) opened from mid old between numbers (course numbers) (λ n. make (behind ∷ []))
        (goes_on (trio_stage disk) opened from from old old numbers (course numbers) (λ n. make (before ∷ [])) (λ n. make (behind ∷ []))
        (begins (trio_stage disk) opened from from old old numbers (course numbers) (then_do (trio_stage disk).rules (λ n. make (before ∷ [])) (λ n. make (behind ∷ [])))
        (omega arith) (λ f name bytes image. image) stands refl)
        0 mid between (omega arith) first)
        0 to new fault (omega arith) second
