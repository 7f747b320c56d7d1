-- The promise on stops in plain words, from the form in which it is kept.
use Rattle.std.specs.Prelude.{◌≡◌, ◌⊎◌, ℕ, ◌+◌, ◌<◌, ◌≤◌, List, Bool, true, false, if◌then◌else◌, Result, Ok, Err}
use mathlib.Core.Logic.{inl, inr}
use Rattle.std.proofs.Common.{arith, ap, refl, subst, sym, ◌∙◌, ⊎_elim}
use Rattle.std.proofs.lemmas.Bool.{cases_lt, cases_Bool}
use Rattle.onbar_grammar.specs.Script.{place_of}
use Rattle.command_grammar.specs.Words.{Command, CommandForm, init_form, transactions_form, show_form}
use Rattle.walks.specs.Follows.{Images, FollowsAmong}
use Rattle.site_headers.specs.Heads.{Head}
use Rattle.site_model.specs.declared.disk_name.DiskName.{DiskName}
use Rattle.site_model.specs.declared.disk_name.DiskName.TheVariants.{Cat, Spare, Boot, Log, Volume, Chunk}
use Rattle.site_worlds.specs.Worlds.{Site, World, unformatted, formatted}
use Rattle.site_worlds.specs.Fitness.{IsFit}
use Rattle.site_layouts.specs.Layouts.{HeldWorld, Shows}
use Rattle.site_layouts.specs.Stores.{Held}
use Rattle.site_layouts.specs.NewLaws.{not_both, one_head}
use Rattle.site_commands.specs.Runs.{CommandResult}
use Rattle.site_commands.specs.Commands.{IsPassed, IsSound, Start, StandOn, Passes, once_synced, used_by}

-- each of these is an image of the era at the start
abbrev pub WereThere : Start → (DiskName → List ℕ) → Type 0
WereThere start choice = (name : DiskName) → start.images start.era name (choice name)

-- they stand for a world that the command passes from a fit world, which the disks that it uses showed at its start
pub record StandForARun (start : Start) (used : World → DiskName → Bool) (run_from : World → CommandResult) (choice : DiskName → List ℕ) : Type 0 where
  pub begun : HeldWorld
  pub fit : IsFit begun.world
  pub shown : StandOn (used begun.world) start.contents begun
  pub at : HeldWorld
  pub passed : IsPassed begun (run_from begun.world) at
  pub stand : (name : DiskName) → Shows name at (choice name)

-- Nothing is written in the era at the start and the next two. In every later era each choice of images is one from the start, or
-- stands for a world of the command's run.
pub record KeepsPromise (start : Start) (used : World → DiskName → Bool) (new : Images DiskName) (run_from : World → CommandResult) : Type 0 where
  pub first : (f : ℕ) (name : DiskName) (bytes : List ℕ) → f ≤ start.era + 2 → new f name bytes → start.images f name bytes
  pub stops : (f : ℕ) → start.era < f → (choice : DiskName → List ℕ) → ((name : DiskName) → new f name (choice name))
      → WereThere start choice ⊎ StandForARun start used run_from choice

-- Which disks are used follows from what the catalogue shows.

by_head : (form : CommandForm) (first other : Site) (name : DiskName) → first.head ≡ other.head
    → used_by (Ok (record { workers = 0; form = form })) (formatted first) name ≡ used_by (Ok (record { workers = 0; form = form })) (formatted other) name
by_head (init_form blocks spaces) first other (Chunk n) same = refl
by_head transactions_form first other (Chunk n) same = ap (λ (h : Head). used_by (Ok (record { workers = 0; form = transactions_form })) (formatted (record first { head = h })) (Chunk n)) same
by_head (show_form space page) first other (Chunk n) same = ap (λ (h : Head). used_by (Ok (record { workers = 0; form = show_form space page })) (formatted (record first { head = h })) (Chunk n)) same
by_head form first other (Volume n) same = refl
by_head form first other Cat same = refl
by_head form first other Spare same = refl
by_head form first other Boot same = refl
by_head form first other Log same = refl

pub same_used : (command : Result Command ℕ) (first other : HeldWorld) (bytes : List ℕ) → Shows Cat first bytes → Shows Cat other bytes
    → (name : DiskName) → used_by command first.world name ≡ used_by command other.world name
same_used (Err n) first other bytes shows also name = refl
same_used (Ok command) first other bytes shows also name = by first.world other.world shows also
  where
    by : (world also_world : World) → Shows Cat (record { world = world; held = first.held }) bytes → Shows Cat (record { world = also_world; held = other.held }) bytes
        → used_by (Ok command) world name ≡ used_by (Ok command) also_world name
    by unformatted unformatted none also_none = refl
    by unformatted (formatted site) none is = absurd (not_both site.head site.store other.held bytes none is)
    by (formatted site) unformatted is none = absurd (not_both site.head site.store first.held bytes none is)
    by (formatted site) (formatted next) is so = by_head command.form site next name (one_head site.head next.head site.store next.store first.held other.held bytes is so)

module _ (command : Result Command ℕ) (start : Start) (new : Images DiskName) (run_from : World → CommandResult)
    (reads : WereThere start start.contents)
    (counts : (f : ℕ) (name : DiskName) (bytes : List ℕ) → start.era < f → start.images f name bytes → start.images start.era name bytes)
    (rests : (at : HeldWorld) → IsFit at.world → StandOn (used_by command at.world) start.contents at
    → (f : ℕ) (name : DiskName) (bytes : List ℕ) → used_by command at.world name ≡ false → new f name bytes → start.images f name bytes)
    (passes : (at : HeldWorld) → IsFit at.world → StandOn (used_by command at.world) start.contents at
    → Passes start (used_by command at.world) new at (IsPassed at (run_from at.world)))
    (sound : IsSound start.era start.images) where
  -- what reads give stands for a world
  read : (at : HeldWorld) × IsFit at.world × ((name : DiskName) → Shows name at (start.contents name))
  read = sound start.contents reads

  abbrev used : DiskName → Bool
  used name = used_by command read.0.world name

  first_era : (f : ℕ) (name : DiskName) (bytes : List ℕ) → f ≤ start.era + 2 → new f name bytes → start.images f name bytes
  first_era f name bytes le image =
      ⊎_elim (λ none. none f name bytes image) (λ goes. (goes.earlier f name bytes (omega (arith, le)) image).0)
      (passes read.0 read.1 (λ n is. read.2 n))

  -- what the used disks read as, and of the others these images, are a choice of the start
  module _ (choice : DiskName → List ℕ) (f : ℕ) (lt : start.era < f) (images : (name : DiskName) → new f name (choice name)) where
    abbrev mixed : DiskName → List ℕ
    mixed name = if used name then start.contents name else choice name

    is_used : (name : DiskName) → used name ≡ true → mixed name ≡ start.contents name
    is_used name is = ap (λ (b : Bool). if b then start.contents name else choice name) is

    isnt_used : (name : DiskName) → used name ≡ false → mixed name ≡ choice name
    isnt_used name isnt = ap (λ (b : Bool). if b then start.contents name else choice name) isnt

    were_there : WereThere start mixed
    were_there name = elim (cases_Bool (used name)) [
      | inl is ↦ subst (λ (b : List ℕ). start.images start.era name b) (sym (is_used name is)) (reads name)
      | inr isnt ↦ subst (λ (b : List ℕ). start.images start.era name b) (sym (isnt_used name isnt))
          (counts f name (choice name) lt (rests read.0 read.1 (λ n is. read.2 n) f name (choice name) isnt (images name)))
    ]

    begun : (at : HeldWorld) × IsFit at.world × ((name : DiskName) → Shows name at (mixed name))
    begun = sound mixed were_there

    -- the same disks are used from there
    used_there : (name : DiskName) → used_by command begun.0.world name ≡ used name
    used_there name = by command refl
      where
        by : (c : Result Command ℕ) → command ≡ c → used_by command begun.0.world name ≡ used name
        by (Err n) is = ap (λ (d : Result Command ℕ). used_by d begun.0.world name) is ∙ sym (ap (λ (d : Result Command ℕ). used_by d read.0.world name) is)
        by (Ok whole) is =
            let cat : used Cat ≡ true = ap (λ (d : Result Command ℕ). used_by d read.0.world Cat) is in
            same_used command begun.0 read.0 (start.contents Cat) (subst (Shows Cat begun.0) (is_used Cat cat) (begun.2 Cat)) (read.2 Cat) name

    used_show : StandOn (used_by command begun.0.world) start.contents begun.0
    used_show name is = subst (Shows name begun.0) (is_used name (sym (used_there name) ∙ is)) (begun.2 name)

    -- in an era behind the first ones
    of_run : start.era + 2 < f → FollowsAmong Shows (once_synced start (used_by command begun.0.world)) f begun.0 (IsPassed begun.0 (run_from begun.0.world)) choice
        → StandForARun start (used_by command) run_from choice
    of_run behind among = record {
      begun = begun.0;
      fit = begun.1;
      shown = used_show;
      at = among.0;
      passed = among.1;
      stand = λ name. ⊎_elim (λ is. is) (λ was. was.1 (elim (cases_Bool (used_by command begun.0.world name)) [
        | inl is ↦ subst (Shows name begun.0) (sym (was.0.1 behind is)) (used_show name is)
        | inr isnt ↦ subst (Shows name begun.0) (isnt_used name (sym (used_there name) ∙ isnt)) (begun.2 name)
      ])) (among.2 name);
    }

    stops_so : WereThere start choice ⊎ StandForARun start (used_by command) run_from choice
    stops_so = elim (cases_lt (start.era + 2) f) [
      | inr within ↦ inl (λ name. counts f name (choice name) lt (first_era f name (choice name) within (images name)))
      | inl behind ↦ ⊎_elim
          (λ none. inl (λ name. counts f name (choice name) lt (none f name (choice name) (images name))))
          (λ goes. inr (of_run behind (goes.later f choice (omega (arith, behind)) images)))
          (passes begun.0 begun.1 used_show)
    ]

  pub promise : KeepsPromise start (used_by command) new run_from
  promise = record { first = first_era; stops = λ f lt choice images. stops_so choice f lt images }

  -- each choice stands for a fit world, where runs pass fit worlds alone
  pub stays_sound : ((begun other : HeldWorld) → IsFit begun.world → IsPassed begun (run_from begun.world) other → IsFit other.world) → (f : ℕ) → start.era ≤ f → IsSound f new
  stays_sound fit f le choice images = elim (cases_lt start.era f) [
    | inl lt ↦ ⊎_elim
        (λ were. sound choice were)
        (λ run. (run.at, fit run.begun run.at run.fit run.passed, run.stand))
        (stops_so choice f lt images)
    | inr isnt ↦ sound choice (λ name.
        let same : f ≡ start.era = omega (arith, le, isnt) in
        subst (λ (g : ℕ). start.images g name (choice name)) same (first_era f name (choice name) (omega (arith, isnt)) (images name)))
  ]
