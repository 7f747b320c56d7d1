-- What the log's value tells of an open site.
use Rattle.std.proofs.Common.{◌≡◌, ◌∙◌, ℕ, ◌+◌, ◌≤◌, ◌^◌, List, [], ◌∷◌, length, arith}
use Rattle.log_history.specs.History.{History}
use Rattle.log_history.specs.Transactions.{last_time}
use Rattle.log_files.specs.Files.{LogFiles, AreFiles, FitPast, end_of, last_time_in, time_at, time_behind}
use Rattle.log_files.specs.FilesLaws.{time_at-bounded}
use Rattle.logical_log.specs.Rings.{TellsOf}
use Rattle.ring_laws.specs.FitLaws.{end_of-files_of, last_time_in-files_of}
use Rattle.ring_laws.specs.Rings.{files_of}
use Rattle.site_disk.specs.declared.disk.Disk.{Ghosts}
use Rattle.site_worlds.specs.Allowed.{HasRing}
use Rattle.site_layouts.specs.Stages.{HeldSite, StandsFor}
use Rattle.site_core.specs.declared.site.Site.{Site as SiteValue}
use Rattle.site_core.specs.Layers.{layers}
use Rattle.site_core.specs.Opened.{IsOpenSite}
use Rattle.world_laws.specs.RingLaws.{ring_of}

time_behind-bounded : (first before : ℕ) (past : List History) → before ≤ 2 ^ 48 → FitPast first past → time_behind before past ≤ 2 ^ 48
time_behind-bounded first before [] le fit = le
time_behind-bounded first before (entries ∷ files) le fit =
    time_behind-bounded (first + length entries) (time_at before entries) files (time_at-bounded before entries le fit.0.records) fit.1.1

last_time_in-bounded : (files : LogFiles) → AreFiles files → last_time_in files ≤ 2 ^ 48
last_time_in-bounded files are =
    time_at-bounded (time_behind files.before files.past) files.current (time_behind-bounded files.first files.before files.past are.before are.past) are.current.records

module _ {D : Type 0} (site : SiteValue D) where
  module _ (count : ℕ) (is : IsOpenSite count site) where
    pub end_bounded : (end : ℕ) → ((files : LogFiles) → TellsOf files site.log → end ≡ end_of files) → end ≤ 2 ^ 48
    end_bounded end told = omega (arith, told is.log.files is.log.tells, is.log.tells.fits.positions)

    pub time_bounded : (time : ℕ) → ((files : LogFiles) → TellsOf files site.log → time ≡ last_time_in files) → time ≤ 2 ^ 48
    time_bounded time told =
        let same = told is.log.files is.log.tells in
        let le = last_time_in-bounded is.log.files is.log.tells.fits in omega (arith, same, le)

  -- where the values stand for a site whose log is there
  module _ (disk : Ghosts D) (opened from : ℕ) (at : HeldSite) (enough : 3 ≤ opened) (stands : StandsFor (layers disk) opened from site at) (has : HasRing at.site) where
    pub site_tells : TellsOf (files_of at.site.starts at.site.history has.ring) site.log
    site_tells = ((stands.agree.log (omega (arith, enough))).stands has.ring has.is).tells

    pub files_end : end_of (files_of at.site.starts at.site.history has.ring) ≡ length at.site.history
    files_end =
        let holds = ring_of at.site has.ring has.is stands.fits in
        end_of-files_of at.site.head.spaces at.site.history at.site.starts stands.fits.history has.ring holds.oldest holds.held

    pub end_is : (end : ℕ) → ((files : LogFiles) → TellsOf files site.log → end ≡ end_of files) → end ≡ length at.site.history
    end_is end told = told (files_of at.site.starts at.site.history has.ring) site_tells ∙ files_end

    pub time_is : (time : ℕ) → ((files : LogFiles) → TellsOf files site.log → time ≡ last_time_in files) → time ≡ last_time at.site.history
    time_is time told =
        let holds = ring_of at.site has.ring has.is stands.fits in
        told (files_of at.site.starts at.site.history has.ring) site_tells
        ∙ last_time_in-files_of at.site.head.spaces at.site.history at.site.starts stands.fits.history has.ring holds.oldest holds.held
