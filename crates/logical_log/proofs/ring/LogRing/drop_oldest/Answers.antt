use Rattle.std.proofs.Common.{◌≡◌, ◌≤◌, ◌+◌, length, refl, arith, ap, sym, ◌∙◌}
use Rattle.site_disk.specs.Seen.{seen}
use Rattle.log_mark.specs.declared.mark.LogMark.{LogMark}
use Rattle.log_history.specs.History.{History}
use Rattle.log_files.specs.Files.{LogFiles, AreFiles, without_oldest}
use Rattle.log_files.specs.FilesLaws.{fit_without_oldest}
use Rattle.log_files.specs.Ring.{area_of}
use Rattle.log_files.specs.RingLaws.{hold_from_past}
use Rattle.log_files.specs.Held.{Tells}
use Rattle.log_files.specs.declared.held.HeldFiles.{HeldFiles}
use Rattle.log_files.proofs.HeldLemmas.{full-count}
use Rattle.logical_log.proofs.PassLemmas.{store_passes}
use Rattle.logical_log.proofs.StandsLemmas.{stands_of, ring_stored, all_on_ok, from_past_same}
use Rattle.logical_log.proofs.ring.LogRing.drop_oldest.Goals as goal

some_past : (files : LogFiles) (held : HeldFiles) → Tells files held → held.mark.current ≡ held.mark.oldest + 7 → 1 ≤ length files.past
some_past files held tells full = omega (arith, full-count files held tells full)

fit_dropped : (files : LogFiles) (held : HeldFiles) → AreFiles files → Tells files held → held.mark.current ≡ held.mark.oldest + 7 → held.mark.oldest ≤ held.mark.backed_up_to → AreFiles (without_oldest files)
fit_dropped files held fits tells full saved =
    fit_without_oldest files fits (some_past files held tells full) (omega (arith, saved, ap (λ (m : LogMark). m.oldest) tells.mark, ap (λ (m : LogMark). m.backed_up_to) tells.mark))

pub returns-clause-told : goal.returns-clause-told
returns-clause-told g c files tells =
    let some = some_past files c.args.self.now.held tells.held c.requires.full in
    let same = from_past_same files files.past refl some in record {
      fits = fit_dropped files c.args.self.now.held tells.fits tells.held c.requires.full c.requires.backed;
      held = c.drop_oldest.ensures files tells.fits tells.held;
      area = tells.area ∙ ap area_of (sym same.0);
      used = tells.used ∙ ap (λ (l : History). length l) (sym same.1);
    }

pub returns-clause-stands : goal.returns-clause-stands
returns-clause-stands g c tells site files stands =
    let some = some_past files c.args.self.now.held stands.tells.held c.requires.full in
    let same = from_past_same files files.past refl some in
    let fits : AreFiles (without_oldest files) = fit_dropped files c.args.self.now.held stands.tells.fits stands.tells.held c.requires.full c.requires.backed in
    let told = c.drop_oldest.ensures files stands.tells.fits stands.tells.held in
    let hold = hold_from_past files files.past _ refl some stands.now.past stands.now.current in
    all_on_ok c.store_record.result
    (λ stored knows only. stands_of site (without_oldest files) c.args.era.now.number (seen g.D.Disk c.store_record.new.disk) _ (record { mark = c.store_record.ensures.base ∙ c.requires.opened.made.mark })
    (record { fits = fits; held = told; area = stands.tells.area ∙ ap area_of (sym same.0); used = stands.tells.used ∙ ap (λ (l : History). length l) (sym same.1) })
    knows (g.met.D.Disk.now_counts c.store_record.new.disk) c.store_record.ensures.ledger.no_later only
    (ring_stored site files (without_oldest files) c.drop_oldest.new.self.mark _ _ stands.now fits hold.0 hold.1 told.mark stored))
    (c.store_record.ensures.stored tells stands.knows) (c.store_record.ensures.knows tells stands.knows) (c.store_record.ensures.durable tells)

pub returns-clause-crash : goal.returns-clause-crash
returns-clause-crash g c tells site files stands =
    let some = some_past files c.args.self.now.held stands.tells.held c.requires.full in
    store_passes site files (without_oldest files) c.drop_oldest.new.self.mark c.args.era.now.number _ _
    (fit_dropped files c.args.self.now.held stands.tells.fits stands.tells.held c.requires.full c.requires.backed)
    (λ d holds. hold_from_past files files.past d refl some holds.past holds.current)
    (c.drop_oldest.ensures files stands.tells.fits stands.tells.held).mark (c.store_record.ensures.crash tells stands.knows stands.synced)
