-- What the opening of a site answers, clause by clause.
use Rattle.std.proofs.Common.{◌≡◌, ◌⊎◌, ℕ, ◌+◌, ◌<◌, ◌≤◌, IsTrue, List, refl, Result, Err, ⊎_elim}
use Rattle.std.specs.Prelude.{MatchResult, OnOk, IfOk, IfErr}
use Rattle.site_disk.specs.Causes.{Rose}
use Rattle.site_disk.specs.Ledger.{EraView}
use Rattle.site_disk.specs.declared.disk.Disk.{Ghosts}
use Rattle.site_headers.specs.Heads.{IsHead}
use Rattle.site_headers.specs.Views.{head_of}
use Rattle.site_headers.specs.declared.heads.SiteHead.{SiteHead}
use Rattle.boot_file.specs.Boots.{IsOpen as IsOpenBoot}
use Rattle.object_store.specs.Stores.{IsOpenStore}
use Rattle.site_model.specs.declared.disk_name.DiskName.{DiskName}
use Rattle.site_model.specs.declared.status.Status.{Status}
use Rattle.site_worlds.specs.Fitness.{IsFitSite}
use Rattle.site_layouts.specs.Stages.{HeldSite, StandsFor}
use Rattle.site_openings.specs.Openings.{AllowedBy, IsOfDisks, Named, NamesAsWell, RefusedBy}
use Rattle.site_core.specs.Disks.{MayUseAll, contents_of, faults_on}
use Rattle.site_core.specs.Faults.{IsFailure, IsNoDiskFault, status_in}
use Rattle.site_core.specs.Layers.{layers}
use Rattle.site_core.specs.Made.{IsMadeSite}
use Rattle.site_core.specs.Quiet.{OnlyReads, ReadsSame}
use Rattle.site_core.specs.declared.faults.SiteFault.{SiteFault}
use Rattle.site_core.specs.declared.faults.SiteFault.TheVariants.{DiskFault}
use Rattle.site_core.specs.declared.site.Site.{Site}
use Rattle.store_opening.specs.Standing.{FreeInOrder, IsSettled}
use Rattle.site_opening.specs.Opens.{TellsBoot, store_bytes, store_checks}
use Rattle.site_opening.specs.Steps.{MissesParts, OpensParts}
use Rattle.site_opening.proofs.AnswerLemmas.{answer_by, either_by, err_by, ok_by, only_err_by, refuses_by}
use Rattle.site_openings.proofs.CheckLemmas.{never_both}
use Rattle.site_opening.proofs.FailureLemmas.{misses_only, misses_rose, misses_same, opens_same}
use Rattle.site_opening.proofs.PartLemmas.{KeepsParts, made_still, misses_keeps, opens_keeps, reads_all}
use Rattle.site_opening.proofs.ReadLemmas.{only_reads}
use Rattle.site_opening.proofs.RefusalLemmas.{Answers, misses_answers, opens_allowed, opens_named, opens_told}
use Rattle.site_opening.proofs.StandLemmas.{ShowsParts, head_is, opens_open, opens_settled, opens_stands, shown_allowed}

module _ {D : Type 0} (disk : Ghosts D) (era : EraView) (old new : Site D) (may : MayUseAll disk era old) (made : IsMadeSite old) where
  abbrev pub Opens : SiteHead → Type 0
  Opens head = OpensParts disk era (head_of head) old new

  abbrev pub Misses : SiteFault → Type 0
  Misses fault = MissesParts disk era fault old new

  module _ (result : Result SiteHead SiteFault) (is : MatchResult result Opens Misses) where
    pub stands : IsTrue disk.is_modelled → (at : HeldSite) → IsFitSite at.site → ShowsParts disk old at
        → MatchResult result (λ head. (head_of head ≡ at.site.head) × StandsFor (layers disk) 1 (era.number + 1) new at) IsFailure
    stands tells at fits shows = answer_by Opens Misses (λ head. (head_of head ≡ at.site.head) × StandsFor (layers disk) 1 (era.number + 1) new at) IsFailure result is
        (λ head opens. (
          head_is disk old tells made at fits shows era new (head_of head) opens,
          opens_stands disk old tells made at fits shows era new (head_of head) opens (opens_same disk era old may made new (head_of head) opens),
        ))
        (λ fault misses. ⊎_elim (λ fails. fails)
        (λ (refused : RefusedBy store_checks (contents_of disk old) (status_in fault)).
        absurd (never_both (contents_of disk old) store_checks (status_in fault) (shown_allowed disk old tells made at fits shows) refused))
        (misses_answers disk era old tells new made fault misses))

    pub answers : IsTrue disk.is_modelled → MatchResult result (λ head. AllowedBy store_checks (contents_of disk old) × Named (head_of head) (contents_of disk old)) (Answers disk old)
    answers tells = answer_by Opens Misses (λ head. AllowedBy store_checks (contents_of disk old) × Named (head_of head) (contents_of disk old)) (Answers disk old) result is
        (λ head opens. (opens_allowed disk era old tells new made (head_of head) opens, opens_named disk era old tells new made (head_of head) opens))
        (λ fault misses. misses_answers disk era old tells new made fault misses)

    pub refuses : IsTrue disk.is_modelled → (status : Status) → RefusedBy store_checks (contents_of disk old) status
        → MatchResult result (λ head. ⊥) (λ fault. IsFailure fault ⊎ NamesAsWell (status_in fault) status)
    refuses tells = refuses_by (contents_of disk old) store_checks result
        (answer_by Opens Misses (λ head. AllowedBy store_checks (contents_of disk old)) (Answers disk old) result is
        (λ head opens. opens_allowed disk era old tells new made (head_of head) opens) (λ fault misses. misses_answers disk era old tells new made fault misses))

    pub head : IfOk result (λ head. IsHead (head_of head))
    head = ok_by Opens Misses (λ head. IsHead (head_of head)) result is (λ head opens. opens.catalogue.is_head)

    pub told : IsTrue disk.is_modelled → IfOk result (λ head. TellsBoot disk (head_of head) new)
    told tells = ok_by Opens Misses (λ head. TellsBoot disk (head_of head) new) result is (λ head opens. opens_told disk era old tells new made (head_of head) opens)

    pub only : IfErr result (λ fault. IsFailure fault ⊎ IsOfDisks (status_in fault))
    only = err_by Opens Misses (λ fault. IsFailure fault ⊎ IsOfDisks (status_in fault)) result is (λ fault misses. misses_only disk old new era fault misses)

    pub failed : (name : DiskName) → result ≡ Err (DiskFault name) → Rose (faults_on disk old name) (faults_on disk new name)
    failed name same = only_err_by Opens Misses (DiskFault name) (Rose (faults_on disk old name) (faults_on disk new name)) result is same
        (λ misses. misses_rose disk old new era (DiskFault name) name refl misses)

    pub opened : OnOk result (IsOpenStore new.store × IsOpenBoot new.boot)
    opened = ok_by Opens Misses (λ head. IsOpenStore new.store × IsOpenBoot new.boot) result is (λ head opens. opens_open disk era old new made (head_of head) opens)

    pub settled : OnOk result (IsSettled new.store)
    settled = ok_by Opens Misses (λ head. IsSettled new.store) result is (λ head opens. (opens_settled disk era old new made (head_of head) opens).0)

    pub in_order : OnOk result (FreeInOrder new.store)
    in_order = ok_by Opens Misses (λ head. FreeInOrder new.store) result is (λ head opens. (opens_settled disk era old new made (head_of head) opens).1)

    keeps : KeepsParts disk era old new
    keeps = either_by Opens Misses (KeepsParts disk era old new) result is
        (λ head opens. opens_keeps disk era old may made new (head_of head) opens) (λ fault misses. misses_keeps disk era old may made new fault misses)

    pub still_made : IsMadeSite new
    still_made = made_still disk era old may made new keeps

    pub others : new ≡ record old { store = new.store; boot = new.boot }
    others = keeps.value

    pub reads : ((it : D) (f g : ℕ) (c : List ℕ) → (disk.ledger it).last ≤ f → (disk.ledger it).last < g → disk.image it g c → disk.image it f c) → OnlyReads disk era store_bytes old new
    reads counts = only_reads disk era counts store_bytes old new may (reads_all disk era old may made new keeps)

    pub same : OnOk result (ReadsSame disk old new)
    same = ok_by Opens Misses (λ head. ReadsSame disk old new) result is (λ head opens. opens_same disk era old may made new (head_of head) opens)

    pub refused_same : IfErr result (λ fault. IsNoDiskFault fault → ReadsSame disk old new)
    refused_same = err_by Opens Misses (λ fault. IsNoDiskFault fault → ReadsSame disk old new) result is (λ fault misses none. misses_same disk era old may made new fault none misses)
