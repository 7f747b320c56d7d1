use Rattle.std.proofs.Common.{◌≡◌, ◌≤◌, ◌+◌, ◌∷◌, ℕ, List, length, drop, arith, ap, subst, ◌∙◌, inr}
use Rattle.site_disk.specs.Bytes.{Torn}
use Rattle.site_disk.specs.Seen.{seen}
use Rattle.gated_slots.specs.Slots.{Area, SlotsView, used, end_of_gates}
use Rattle.site_headers.specs.Headers.{log_tail}
use Rattle.site_headers.specs.HeaderLaws.{length-log_tail}
use Rattle.log_files.specs.Files.{AreFiles, new_files}
use Rattle.log_files.specs.FilesLaws.{fit_new}
use Rattle.log_files.specs.Ring.{area_of}
use Rattle.logical_log.proofs.StandsLemmas.{stands_of, knows_still}
use Rattle.logical_log.proofs.FormatLemmas.{unformat_stops, format_stops, new_ring, page_torn, opened_header}
use Rattle.logical_log.proofs.ring.LogRing.format.Goals as goal

alone : (file : ℕ) → area_of file ≡ area_of (file + 0)
alone file = ap area_of (let e : file ≡ file + 0 = omega arith in e)

pub returns-in_err-write_empty-clause-crash : goal.returns-in_err-write_empty-clause-crash
returns-in_err-write_empty-clause-crash g c tells =
    unformat_stops c.args.site (new_files c.args.file c.args.first c.args.time) c.args.era.now.number _ _ (c.write_empty.ensures.crash tells)

pub returns-in_err-header_open-clause-crash : goal.returns-in_err-header_open-clause-crash
returns-in_err-header_open-clause-crash g c tells =
    let disk = c.args.self.now.disk in
    let mid = g.D.Disk.bytes c.write_empty.new.disk in
    let fits : AreFiles (new_files c.args.file c.args.first c.args.time) = fit_new c.args.file c.args.first c.args.time c.requires.some c.requires.within c.requires.first c.requires.time in
    let area = c.slots_of-slots.ensures.area in
    format_stops c.args.site c.args.file c.args.first c.args.time c.new-held.result.mark mid fits (c.in_ok-write_empty.ensures.stored tells) c.new-held.ensures.mark
    (subst (λ (a : Area). used a mid ≡ 0) area (c.in_ok-write_empty.ensures.unused tells)) (subst (λ (a : Area). end_of_gates a ≤ length mid) area (c.in_ok-write_empty.ensures.long tells))
    c.write_log_header.new.page (g.D.Disk.bytes disk) c.args.era.now.number _ _ _ (ap (drop 1) c.write_log_header.ensures) (c.write_empty.ensures.crash tells) (c.in_ok-write_empty.ensures.durable tells)
    (λ f lt. g.met.D.Disk.reads_as disk f tells (omega (arith, lt, c.requires.era.not_past))) (c.header_open.ensures.crash tells (c.in_ok-write_empty.ensures.closed tells))

pub returns-clause-told : goal.returns-clause-told
returns-clause-told g c = record {
  fits = fit_new c.args.file c.args.first c.args.time c.requires.some c.requires.within c.requires.first c.requires.time;
  held = c.new-held.ensures;
  area = ap (λ (s : SlotsView). s.area) c.in_ok-write_empty.ensures.none ∙ c.slots_of-slots.ensures.area ∙ alone c.args.file;
  used = ap (λ (s : SlotsView). s.used) c.in_ok-write_empty.ensures.none;
}

pub returns-clause-opened : goal.returns-clause-opened
returns-clause-opened g c = record {
  made = record { mark = c.write_empty.ensures.base ∙ c.requires.made.mark };
  files = new_files c.args.file c.args.first c.args.time;
  tells = record {
    fits = fit_new c.args.file c.args.first c.args.time c.requires.some c.requires.within c.requires.first c.requires.time;
    held = c.new-held.ensures;
    area = ap (λ (s : SlotsView). s.area) c.in_ok-write_empty.ensures.none ∙ c.slots_of-slots.ensures.area ∙ alone c.args.file;
    used = ap (λ (s : SlotsView). s.used) c.in_ok-write_empty.ensures.none;
  };
}

pub returns-clause-stands : goal.returns-clause-stands
returns-clause-stands g c tells =
    let mid = g.D.Disk.bytes c.write_empty.new.disk in
    let new = g.D.Disk.bytes c.header_open.new.disk in
    let page : List ℕ = c.write_log_header.new.page in
    let fits : AreFiles (new_files c.args.file c.args.first c.args.time) = fit_new c.args.file c.args.first c.args.time c.requires.some c.requires.within c.requires.first c.requires.time in
    let area = c.slots_of-slots.ensures.area in
    let wrote = c.in_ok-header_open.ensures.written tells in
    let fills : length page ≡ 4096 = ap (λ (l : List ℕ). length l) c.write_log_header.ensures ∙ (let e : length (1 ∷ log_tail c.args.site) ≡ 4096 = omega (arith, length-log_tail c.args.site) in e) in
    let torn : Torn 0 4096 mid new = page_torn page mid new fills wrote in
    let base = c.write_empty.ensures.base ∙ c.requires.made.mark in
    stands_of c.args.site (new_files c.args.file c.args.first c.args.time) c.args.era.now.number (seen g.D.Disk c.header_open.new.disk) _ (record { mark = base })
    (record {
      fits = fits;
      held = c.new-held.ensures;
      area = ap (λ (s : SlotsView). s.area) c.in_ok-write_empty.ensures.none ∙ area ∙ alone c.args.file;
      used = ap (λ (s : SlotsView). s.used) c.in_ok-write_empty.ensures.none;
    })
    (knows_still c.write_empty.new.mark mid new base (torn.elsewhere 4096 1024 (inr (omega arith))) (c.in_ok-write_empty.ensures.knows tells))
    (g.met.D.Disk.now_counts c.header_open.new.disk) c.header_open.ensures.ledger.no_later (c.in_ok-header_open.ensures.durable tells)
    (new_ring c.args.site c.args.file c.args.first c.args.time c.new-held.result.mark mid fits (c.in_ok-write_empty.ensures.stored tells) c.new-held.ensures.mark
    (subst (λ (a : Area). used a mid ≡ 0) area (c.in_ok-write_empty.ensures.unused tells)) (subst (λ (a : Area). end_of_gates a ≤ length mid) area (c.in_ok-write_empty.ensures.long tells))
    new (λ from len le. torn.elsewhere from len (inr (omega (arith, le)))) torn.no_shorter
    (opened_header (log_tail c.args.site) page mid new (length-log_tail c.args.site) fills c.write_log_header.ensures wrote))

pub returns-clause-crash : goal.returns-clause-crash
returns-clause-crash g c tells =
    let disk = c.args.self.now.disk in
    let mid = g.D.Disk.bytes c.write_empty.new.disk in
    let fits : AreFiles (new_files c.args.file c.args.first c.args.time) = fit_new c.args.file c.args.first c.args.time c.requires.some c.requires.within c.requires.first c.requires.time in
    let area = c.slots_of-slots.ensures.area in
    format_stops c.args.site c.args.file c.args.first c.args.time c.new-held.result.mark mid fits (c.in_ok-write_empty.ensures.stored tells) c.new-held.ensures.mark
    (subst (λ (a : Area). used a mid ≡ 0) area (c.in_ok-write_empty.ensures.unused tells)) (subst (λ (a : Area). end_of_gates a ≤ length mid) area (c.in_ok-write_empty.ensures.long tells))
    c.write_log_header.new.page (g.D.Disk.bytes disk) c.args.era.now.number _ _ _ (ap (drop 1) c.write_log_header.ensures) (c.write_empty.ensures.crash tells) (c.in_ok-write_empty.ensures.durable tells)
    (λ f lt. g.met.D.Disk.reads_as disk f tells (omega (arith, lt, c.requires.era.not_past))) (c.header_open.ensures.crash tells (c.in_ok-write_empty.ensures.closed tells))
