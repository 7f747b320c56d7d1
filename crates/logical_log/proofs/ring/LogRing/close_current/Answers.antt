use Rattle.std.proofs.Common.{◌≤◌, length, arith, ◌∙◌}
use Rattle.site_disk.specs.Seen.{seen}
use Rattle.log_files.specs.Files.{AreFiles, closed}
use Rattle.log_files.specs.FilesLaws.{fit_closed}
use Rattle.logical_log.proofs.PassLemmas.{store_passes}
use Rattle.logical_log.proofs.StandsLemmas.{stands_of, ring_stored}
use Rattle.logical_log.proofs.ring.LogRing.close_current.Goals as goal

pub returns-in_err-store_record-clause-crash : goal.returns-in_err-store_record-clause-crash
returns-in_err-store_record-clause-crash g c tells site files stands =
    let some : 1 ≤ length files.current = omega (arith, c.used.ensures files stands.tells.held) in
    store_passes site files (closed files) c.close.new.self.mark c.args.era.now.number _ _ (fit_closed files stands.tells.fits some) (λ d holds. (holds.past, holds.current))
    (c.close.ensures files stands.tells.held).mark (c.store_record.ensures.crash tells stands.knows stands.synced)

pub returns-clause-stands : goal.returns-clause-stands
returns-clause-stands g c tells site files stands unit =
    let some : 1 ≤ length files.current = omega (arith, c.used.ensures files stands.tells.held) in
    let fits : AreFiles (closed files) = fit_closed files stands.tells.fits some in
    let told = c.close.ensures files stands.tells.held in
    stands_of site (closed files) c.args.era.now.number (seen g.D.Disk c.store_record.new.disk) _ (record { mark = c.store_record.ensures.base ∙ c.requires.opened.made.mark })
    (record { fits = fits; held = told; area = stands.tells.area; used = stands.tells.used })
    (c.in_ok-store_record.ensures.knows tells stands.knows) (g.met.D.Disk.now_counts c.store_record.new.disk) c.store_record.ensures.ledger.no_later (c.in_ok-store_record.ensures.durable tells)
    (ring_stored site files (closed files) c.close.new.self.mark _ _ stands.now fits stands.now.past stands.now.current told.mark (c.in_ok-store_record.ensures.stored tells stands.knows))

pub returns-clause-crash : goal.returns-clause-crash
returns-clause-crash g c tells site files stands =
    let some : 1 ≤ length files.current = omega (arith, c.used.ensures files stands.tells.held) in
    store_passes site files (closed files) c.close.new.self.mark c.args.era.now.number _ _ (fit_closed files stands.tells.fits some) (λ d holds. (holds.past, holds.current))
    (c.close.ensures files stands.tells.held).mark (c.store_record.ensures.crash tells stands.knows stands.synced)

pub returns-clause-durable : goal.returns-clause-durable
returns-clause-durable g c tells unit = c.in_ok-store_record.ensures.durable tells
