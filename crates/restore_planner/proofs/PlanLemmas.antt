-- One space more in a plan, and one line more among the archives.
use Rattle.std.proofs.Common.{◌≡◌, ◌∙◌, ℕ, ◌+◌, List, [], ◌∷◌, ◌++◌, true, false, Bool, Option, None, Some, refl, ap, sym, map, filter, add-one}
use Rattle.std.specs.List.{cons_option, filter_map}
use Rattle.std.proofs.lemmas.List.{append-nil, map-append}
use Rattle.std.proofs.lemmas.List.Elements.{filter_map-append, filter-append}
use Rattle.log_history.specs.Live.{ResetPoint}
use Rattle.backup_lines.specs.Lines.{Archive, Line, archived, archive_in, is_live}
use Rattle.backup_lines.specs.Plans.{SpacePlan, below, plan_of_space, space_plans}
use Rattle.backup_lines.specs.Views.{archive_of}
use Rattle.backup_lines.specs.declared.lines.Archive.{Archive as RustArchive}
use Rattle.restore_planner.specs.Views.{space_plan_of}
use Rattle.restore_planner.specs.declared.chains.SpacePlan.{SpacePlan as RustSpacePlan}

-- one space more

space_plans-next : (archives : List Archive) (resets : List ResetPoint) (q space : ℕ) (plan : Option SpacePlan)
    → plan ≡ plan_of_space archives resets q space
    → space_plans archives resets q (space + 1) ≡ space_plans archives resets q space ++ cons_option plan []
space_plans-next archives resets q space plan is =
    ap (space_plans archives resets q) (add-one space)
    ∙ filter_map-append (plan_of_space archives resets q) (below space) (space ∷ [])
    ∙ ap (λ (p : Option SpacePlan). space_plans archives resets q space ++ cons_option p []) (sym is)

pub plans_pushed : (archives : List Archive) (resets : List ResetPoint) (q space : ℕ) (plans : List RustSpacePlan) (plan : RustSpacePlan)
    → map space_plan_of plans ≡ space_plans archives resets q space → Some (space_plan_of plan) ≡ plan_of_space archives resets q space
    → map space_plan_of (plans ++ plan ∷ []) ≡ space_plans archives resets q (space + 1)
plans_pushed archives resets q space plans plan has is =
    map-append space_plan_of plans (plan ∷ [])
    ∙ ap (λ (xs : List SpacePlan). xs ++ space_plan_of plan ∷ []) has
    ∙ sym (space_plans-next archives resets q space (Some (space_plan_of plan)) is)

pub plans_kept : (archives : List Archive) (resets : List ResetPoint) (q space : ℕ) (plans : List RustSpacePlan)
    → map space_plan_of plans ≡ space_plans archives resets q space → None ≡ plan_of_space archives resets q space
    → map space_plan_of plans ≡ space_plans archives resets q (space + 1)
plans_kept archives resets q space plans has is =
    has ∙ sym (append-nil (space_plans archives resets q space)) ∙ sym (space_plans-next archives resets q space None is)

-- one line more

abbrev pub lived : List Line → Archive → Bool
lived all archive = is_live all archive.copy

abbrev pub archives_among : List Line → List Line → List Archive
archives_among all lines = filter (lived all) (filter_map archive_in lines)

archives-next : (all lines : List Line) (line : Line)
    → archives_among all (lines ++ line ∷ []) ≡ archives_among all lines ++ archives_among all (line ∷ [])
archives-next all lines line =
    ap (filter (lived all)) (filter_map-append archive_in lines (line ∷ []))
    ∙ filter-append (lived all) (filter_map archive_in lines) (filter_map archive_in (line ∷ []))

pub archives_pushed : (all lines : List Line) (archives : List RustArchive) (archive : RustArchive)
    → map archive_of archives ≡ archives_among all lines → is_live all archive.copy ≡ true
    → map archive_of (archives ++ archive ∷ []) ≡ archives_among all (lines ++ archived (archive_of archive) ∷ [])
archives_pushed all lines archives archive has live =
    let one : archives_among all (archived (archive_of archive) ∷ []) ≡ archive_of archive ∷ [] = rw live refl in
    map-append archive_of archives (archive ∷ [])
    ∙ ap (λ (xs : List Archive). xs ++ archive_of archive ∷ []) has
    ∙ ap (λ (xs : List Archive). archives_among all lines ++ xs) (sym one)
    ∙ sym (archives-next all lines (archived (archive_of archive)))

pub archives_kept : (all lines : List Line) (archives : List RustArchive) (line : Line)
    → map archive_of archives ≡ archives_among all lines → archives_among all (line ∷ []) ≡ []
    → map archive_of archives ≡ archives_among all (lines ++ line ∷ [])
archives_kept all lines archives line has none =
    has ∙ sym (append-nil (archives_among all lines))
    ∙ ap (λ (xs : List Archive). archives_among all lines ++ xs) (sym none)
    ∙ sym (archives-next all lines line)

pub archives_dead : (all : List Line) (archive : Archive) → is_live all archive.copy ≡ false → archives_among all (archived archive ∷ []) ≡ []
archives_dead all archive dead = rw dead refl

pub archives_other : (all : List Line) (line : Line) → archive_in line ≡ None → archives_among all (line ∷ []) ≡ []
archives_other all line other = rw other refl
