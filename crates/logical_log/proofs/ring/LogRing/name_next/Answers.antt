use Rattle.std.proofs.Common.{◌≡◌, ◌≤◌, ◌<◌, ◌+◌, ◌^◌, ℕ, length, arith, ap, ◌∙◌}
use Rattle.site_disk.specs.Seen.{seen}
use Rattle.log_mark.specs.declared.mark.LogMark.{LogMark}
use Rattle.gated_slots.specs.Slots.{Area, SlotsView}
use Rattle.site_disk.specs.SeenLaws.{synced_after}
use Rattle.site_disk.specs.Images.{IsSynced}
use Rattle.twin_mark.specs.Marks.{Knows}
use Rattle.log_files.specs.Files.{LogFiles, AreFiles, with_next, current_id}
use Rattle.log_files.specs.FilesLaws.{fit_next}
use Rattle.log_files.specs.Ring.{area_of, HoldsRing}
use Rattle.log_files.specs.Held.{Tells}
use Rattle.log_files.specs.declared.held.HeldFiles.{HeldFiles}
use Rattle.logical_log.proofs.PassLemmas.{clear_passes, then_store_passes}
use Rattle.logical_log.proofs.StandsLemmas.{always, stands_of, ring_stored, all_on_ok, knows_still, cleared, cleared_next, cleared_mark, count_next, hold_next}
use Rattle.logical_log.proofs.ring.LogRing.name_next.Goals as goal

few_past : (files : LogFiles) (held : HeldFiles) → Tells files held → held.mark.current ≤ held.mark.oldest + 6 → length files.past ≤ 6
few_past files held tells place = omega (arith, place, ap (λ (m : LogMark). m.oldest) tells.mark, ap (λ (m : LogMark). m.current) tells.mark)

fit_named : (files : LogFiles) (held : HeldFiles) → AreFiles files → Tells files held → held.next ≤ 2 ^ 48 → held.first < held.next → held.mark.current ≤ held.mark.oldest + 6 → AreFiles (with_next files)
fit_named files held fits tells position some place =
    fit_next files fits (omega (arith, tells.first, tells.next, some)) (few_past files held tells place) (omega (arith, tells.next, tells.first, position, some, fits.some, fits.first))

-- the slots of the next file
area_next : (files : LogFiles) (held : HeldFiles) (area : Area) → Tells (with_next files) held → area ≡ area_of held.mark.current → area ≡ area_of (current_id files + 1)
area_next files held area tells is = is ∙ ap area_of (ap (λ (m : LogMark). m.current) tells.mark ∙ count_next files)

pub returns-in_err-clear-clause-crash : goal.returns-in_err-clear-clause-crash
returns-in_err-clear-clause-crash g c tells site files stands =
    let told = c.open_next.ensures files stands.tells.held in
    clear_passes site files (with_next files) c.slots_of-self.result.area (seen g.D.Disk c.args.self.now.disk) c.args.era.now.number _ c.requires.era.not_past stands.synced stands.now
    (few_past files c.args.self.now.held stands.tells.held c.requires.place) (area_next files c.open_next.new.self c.slots_of-self.result.area told c.slots_of-self.ensures.area) (c.clear.ensures.crash tells)

pub returns-clause-told : goal.returns-clause-told
returns-clause-told g c files tells =
    let told = c.open_next.ensures files tells.held in
    always c.store_record.result (record {
      fits = fit_named files c.args.self.now.held tells.fits tells.held c.requires.position c.requires.some c.requires.place;
      held = told;
      area = ap (λ (s : SlotsView). s.area) c.in_ok-clear.ensures.none ∙ c.slots_of-self.ensures.area ∙ ap area_of (ap (λ (m : LogMark). m.current) told.mark);
      used = ap (λ (s : SlotsView). s.used) c.in_ok-clear.ensures.none;
    })

pub returns-clause-stands : goal.returns-clause-stands
returns-clause-stands g c tells site files stands =
    let told = c.open_next.ensures files stands.tells.held in
    let area : Area = c.slots_of-self.result.area in
    let is = area_next files c.open_next.new.self area told c.slots_of-self.ensures.area in
    let few = few_past files c.args.self.now.held stands.tells.held c.requires.place in
    let zeros = c.in_ok-clear.ensures.zeros tells in
    let old = g.D.Disk.bytes c.args.self.now.disk in
    let mid = g.D.Disk.bytes c.clear.new.disk in
    let fits : AreFiles (with_next files) = fit_named files c.args.self.now.held stands.tells.fits stands.tells.held c.requires.position c.requires.some c.requires.place in
    let holds : HoldsRing site files mid = cleared site files area old mid stands.now few is zeros in
    let hold = hold_next site files mid holds (cleared_next site files area old mid stands.now few is zeros) in
    let knows : Knows c.args.self.now.mark mid = knows_still c.args.self.now.mark old mid c.requires.opened.made.mark (cleared_mark site files area old mid stands.now few is zeros) stands.knows in
    all_on_ok c.store_record.result
    (λ stored known only. stands_of site (with_next files) c.args.era.now.number (seen g.D.Disk c.store_record.new.disk) _ (record { mark = c.store_record.ensures.base ∙ c.requires.opened.made.mark })
    (record {
      fits = fits;
      held = told;
      area = ap (λ (s : SlotsView). s.area) c.in_ok-clear.ensures.none ∙ c.slots_of-self.ensures.area ∙ ap area_of (ap (λ (m : LogMark). m.current) told.mark);
      used = ap (λ (s : SlotsView). s.used) c.in_ok-clear.ensures.none;
    })
    known (g.met.D.Disk.now_counts c.store_record.new.disk) c.store_record.ensures.ledger.no_later only
    (ring_stored site files (with_next files) c.open_next.new.self.mark mid _ holds fits hold.0 hold.1 told.mark stored))
    (c.store_record.ensures.stored tells knows) (c.store_record.ensures.knows tells knows) (c.store_record.ensures.durable tells)

pub returns-clause-crash : goal.returns-clause-crash
returns-clause-crash g c tells site files stands =
    let e : ℕ = c.args.era.now.number in
    let told = c.open_next.ensures files stands.tells.held in
    let area : Area = c.slots_of-self.result.area in
    let is = area_next files c.open_next.new.self area told c.slots_of-self.ensures.area in
    let few = few_past files c.args.self.now.held stands.tells.held c.requires.place in
    let zeros = c.in_ok-clear.ensures.zeros tells in
    let disk = c.args.self.now.disk in
    let old = g.D.Disk.bytes disk in
    let mid = g.D.Disk.bytes c.clear.new.disk in
    let fits : AreFiles (with_next files) = fit_named files c.args.self.now.held stands.tells.fits stands.tells.held c.requires.position c.requires.some c.requires.place in
    let holds : HoldsRing site files mid = cleared site files area old mid stands.now few is zeros in
    let hold = hold_next site files mid holds (cleared_next site files area old mid stands.now few is zeros) in
    let knows : Knows c.args.self.now.mark mid = knows_still c.args.self.now.mark old mid c.requires.opened.made.mark (cleared_mark site files area old mid stands.now few is zeros) stands.knows in
    let only = c.in_ok-clear.ensures.durable tells in
    let synced : IsSynced (seen g.D.Disk c.clear.new.disk) = synced_after (seen g.D.Disk c.clear.new.disk) e (g.met.D.Disk.now_counts c.clear.new.disk) c.clear.ensures.ledger.no_later only in
    then_store_passes site files (with_next files) c.open_next.new.self.mark e old mid _ _ _
    (clear_passes site files (with_next files) area (seen g.D.Disk disk) e _ c.requires.era.not_past stands.synced stands.now few is (c.clear.ensures.crash tells))
    only (λ f lt. g.met.D.Disk.reads_as disk f tells (omega (arith, lt, c.requires.era.not_past))) holds fits hold.0 hold.1 told.mark (c.store_record.ensures.crash tells knows synced)
