use Rattle.std.proofs.Common.{◌≡◌, ◌≤◌, ◌+◌, ◌-◌, ℕ, Bool, true, false, if◌then◌else◌, arith, ◌∙◌}
use Rattle.site_disk.specs.Seen.{seen}
use Rattle.log_files.specs.Files.{LogFiles, AreFiles, with_backed, current_id, closed_id}
use Rattle.log_files.specs.FilesLaws.{fit_backed}
use Rattle.logical_log.proofs.PassLemmas.{store_passes}
use Rattle.logical_log.proofs.StandsLemmas.{stands_of, ring_stored, all_on_ok}
use Rattle.logical_log.proofs.ring.LogRing.mark_backed_up.Goals as goal

closed_by : (files : LogFiles) (shut : Bool) → (if shut then current_id files else (current_id files - 1)) ≤ current_id files
closed_by files true = omega arith
closed_by files false = omega arith

fit_marked : (files : LogFiles) (file : ℕ) → AreFiles files → file ≡ files.backed + 1 → file ≤ closed_id files → AreFiles (with_backed files file)
fit_marked files file fits next before = fit_backed files fits file (omega (arith, next)) (omega (arith, before, closed_by files files.is_closed))

pub returns-clause-stands : goal.returns-clause-stands
returns-clause-stands g c tells site files stands =
    let fits : AreFiles (with_backed files c.args.file) = fit_marked files c.args.file stands.tells.fits (c.requires.next files stands.tells) (c.requires.closed files stands.tells) in
    let told = c.back_up.ensures files stands.tells.held in
    all_on_ok c.store_record.result
    (λ stored knows only. stands_of site (with_backed files c.args.file) c.args.era.now.number (seen g.D.Disk c.store_record.new.disk) _ (record { mark = c.store_record.ensures.base ∙ c.requires.opened.made.mark })
    (record { fits = fits; held = told; area = stands.tells.area; used = stands.tells.used })
    knows (g.met.D.Disk.now_counts c.store_record.new.disk) c.store_record.ensures.ledger.no_later only
    (ring_stored site files (with_backed files c.args.file) c.back_up.new.self.mark _ _ stands.now fits stands.now.past stands.now.current told.mark stored))
    (c.store_record.ensures.stored tells stands.knows) (c.store_record.ensures.knows tells stands.knows) (c.store_record.ensures.durable tells)

pub returns-clause-crash : goal.returns-clause-crash
returns-clause-crash g c tells site files stands =
    store_passes site files (with_backed files c.args.file) c.back_up.new.self.mark c.args.era.now.number _ _
    (fit_marked files c.args.file stands.tells.fits (c.requires.next files stands.tells) (c.requires.closed files stands.tells)) (λ d holds. (holds.past, holds.current))
    (c.back_up.ensures files stands.tells.held).mark (c.store_record.ensures.crash tells stands.knows stands.synced)
