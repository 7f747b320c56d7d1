-- What the opening of a site's log answers, clause by clause.
use Rattle.std.proofs.Common.{◌≡◌, ◌⊎◌, ℕ, ◌+◌, ◌<◌, ◌≤◌, IsTrue, List, None, refl, arith, Result, Err}
use Rattle.std.specs.Prelude.{MatchResult, OnOk, IfErr}
use Rattle.log_history.specs.Transactions.{Table}
use Rattle.site_disk.specs.Causes.{Rose}
use Rattle.site_disk.specs.Ledger.{EraView}
use Rattle.site_disk.specs.declared.disk.Disk.{Ghosts}
use Rattle.site_headers.specs.Heads.{Head}
use Rattle.logical_log.specs.Rings.{disk_of as log_disk, IsMade as IsMadeLog, IsOpen as IsOpenLog}
use Rattle.logical_log.specs.declared.ring.LogRing.{LogRing}
use Rattle.site_model.specs.declared.disk_name.DiskName.{DiskName}
use Rattle.site_model.specs.declared.disk_name.DiskName.TheVariants.{Log}
use Rattle.site_model.specs.declared.status.Status.{Status}
use Rattle.site_layouts.specs.Stages.{HeldSite, ShowsHeld, StandsFor}
use Rattle.site_openings.specs.Openings.{AllowedBy, IsOfDisks, Named, NamesAsWell, RefusedBy}
use Rattle.site_core.specs.Disks.{MayUseAll, contents_of, faults_on}
use Rattle.site_core.specs.Faults.{IsFailure, status_in}
use Rattle.site_core.specs.Layers.{layers}
use Rattle.site_core.specs.Made.{IsMadeSite}
use Rattle.site_core.specs.Quiet.{OnlyReads, ReadsSame}
use Rattle.site_core.specs.declared.faults.SiteFault.{SiteFault}
use Rattle.site_core.specs.declared.faults.SiteFault.TheVariants.{DiskFault, LogLost}
use Rattle.site_core.specs.declared.site.Site.{Site}
use Rattle.site_opening.specs.LogSteps.{MissesLog, OpensLog}
use Rattle.site_opening.specs.Opens.{FindsLog, log_bytes, log_checks}
use Rattle.site_opening.specs.Steps.{ReadsDisk}
use Rattle.site_opening.proofs.AnswerLemmas.{answer_by, either_by, err_by, ok_by, only_err_by, refuses_by}
use Rattle.site_opening.proofs.LogStandLemmas.{has_ring, log_allowed, log_made, log_reads, log_refused, log_rose, log_same, only_lost, site_stands, table_is}

module _ {D : Type 0} (disk : Ghosts D) (era : EraView) (old : Site D) (head : Head) (log : LogRing D) where
  abbrev pub Opens : Table → Type 0
  Opens running = OpensLog disk era head.site running old.log log

  abbrev pub Misses : SiteFault → Type 0
  Misses fault = MissesLog disk era head.site fault old.log log

  module _ (result : Result Table SiteFault) (is : MatchResult result Opens Misses) where
    pub stands : IsTrue disk.is_modelled → (at : HeldSite) → StandsFor (layers disk) 1 (era.number + 1) old at → head ≡ at.site.head → ShowsHeld Log at (contents_of disk old Log)
        → MatchResult result (λ running. FindsLog disk era.number running at (record old { log = log })) (λ fault. IsFailure fault ⊎ ((fault ≡ LogLost) × (at.site.ring ≡ None)))
    stands tells at for heads shows =
        answer_by Opens Misses (λ running. FindsLog disk era.number running at (record old { log = log })) (λ fault. IsFailure fault ⊎ ((fault ≡ LogLost) × (at.site.ring ≡ None))) result is
        (λ running opens. record {
          has = has_ring disk old tells head log era running opens at (era.number + 1) (omega arith) for heads shows;
          table = table_is disk old tells head log era running opens at (era.number + 1) (omega arith) for heads shows;
          stands = site_stands disk old tells head log era running opens at (era.number + 1) (omega arith) for heads shows;
        })
        (λ fault misses. only_lost disk old tells head log era fault misses at for.fits heads shows)

    pub answers : IsTrue disk.is_modelled → Named head (contents_of disk old)
        → MatchResult result (λ running. AllowedBy log_checks (contents_of disk old)) (λ fault. IsFailure fault ⊎ RefusedBy log_checks (contents_of disk old) (status_in fault))
    answers tells named = answer_by Opens Misses (λ running. AllowedBy log_checks (contents_of disk old)) (λ fault. IsFailure fault ⊎ RefusedBy log_checks (contents_of disk old) (status_in fault)) result is
        (λ running opens. log_allowed disk old tells head log era running opens named) (λ fault misses. log_refused disk old tells head log era fault misses named)

    pub refuses : IsTrue disk.is_modelled → Named head (contents_of disk old) → (status : Status) → RefusedBy log_checks (contents_of disk old) status
        → MatchResult result (λ running. ⊥) (λ fault. IsFailure fault ⊎ NamesAsWell (status_in fault) status)
    refuses tells named = refuses_by (contents_of disk old) log_checks result (answers tells named)

    pub only : IfErr result (λ fault. IsFailure fault ⊎ IsOfDisks (status_in fault))
    only = err_by Opens Misses (λ fault. IsFailure fault ⊎ IsOfDisks (status_in fault)) result is (λ fault misses. misses.only)

    pub failed : (name : DiskName) → result ≡ Err (DiskFault name) → Rose (faults_on disk old name) (faults_on disk (record old { log = log }) name)
    failed name same = only_err_by Opens Misses (DiskFault name) (Rose (faults_on disk old name) (faults_on disk (record old { log = log }) name)) result is same
        (λ misses. log_rose disk old log name (misses.failed name refl))

    pub opened : OnOk result (IsOpenLog log)
    opened = ok_by Opens Misses (λ running. IsOpenLog log) result is (λ running opens. opens.opened)

    pub made : IsMadeSite old → IsMadeSite (record old { log = log })
    made was = log_made disk old log was (either_by Opens Misses (IsMadeLog log) result is (λ running opens. opens.opened.made) (λ fault misses. misses.made))

    pub reads : ((it : D) (f g : ℕ) (c : List ℕ) → (disk.ledger it).last ≤ f → (disk.ledger it).last < g → disk.image it g c → disk.image it f c) → MayUseAll disk era old
        → OnlyReads disk era log_bytes old (record old { log = log })
    reads counts may = log_reads disk old log era counts may
        (either_by Opens Misses (ReadsDisk disk era 531200 (log_disk old.log) (log_disk log)) result is (λ running opens. opens.reads) (λ fault misses. misses.reads))

    pub same : OnOk result (ReadsSame disk old (record old { log = log }))
    same = ok_by Opens Misses (λ running. ReadsSame disk old (record old { log = log })) result is (λ running opens. log_same disk old log opens.bytes)

    pub refused_same : IfErr result (λ fault. (IsFailure fault → ⊥) → ReadsSame disk old (record old { log = log }))
    refused_same = err_by Opens Misses (λ fault. (IsFailure fault → ⊥) → ReadsSame disk old (record old { log = log })) result is (λ fault misses none. log_same disk old log (misses.bytes none))
