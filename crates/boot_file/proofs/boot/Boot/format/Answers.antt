use Rattle.std.proofs.Common.{◌≡◌, ◌≤◌, ◌∷◌, [], ℕ, List, length, drop, None, refl, arith, ap, subst, ◌∙◌, inr}
use Rattle.site_disk.specs.Bytes.{Torn}
use Rattle.site_disk.specs.Seen.{seen}
use Rattle.gated_slots.specs.Slots.{Area, SlotsView, used, end_of_gates}
use Rattle.boot_lines.specs.LineLayout.{lines_of}
use Rattle.boot_file.specs.Places.{boot_tail, lines_area}
use Rattle.boot_file.proofs.StandsLemmas.{stands_of, knows_still}
use Rattle.boot_file.proofs.FormatLemmas.{unformat_stops, format_stops, new_boot, no_restore, page_torn, opened_header, length-boot_tail}
use Rattle.boot_file.proofs.boot.Boot.format.Goals as goal

pub returns-in_err-write_empty-clause-crash : goal.returns-in_err-write_empty-clause-crash
returns-in_err-write_empty-clause-crash g c tells = unformat_stops c.args.site c.args.era.now.number _ _ (c.write_empty.ensures.crash tells)

pub returns-in_err-header_open-clause-crash : goal.returns-in_err-header_open-clause-crash
returns-in_err-header_open-clause-crash g c tells =
    let disk = c.args.self.now.disk in
    let mid = g.D.Disk.bytes c.write_empty.new.disk in
    let area = c.line_slots-slots.ensures.area in
    format_stops c.args.site mid (c.in_ok-write_empty.ensures.stored tells)
    (subst (λ (a : Area). used a mid ≡ 0) area (c.in_ok-write_empty.ensures.unused tells)) (subst (λ (a : Area). end_of_gates a ≤ length mid) area (c.in_ok-write_empty.ensures.long tells))
    c.write_boot_header.new.page (g.D.Disk.bytes disk) c.args.era.now.number _ _ _ (ap (drop 1) c.write_boot_header.ensures) (c.write_empty.ensures.crash tells) (c.in_ok-write_empty.ensures.durable tells)
    (λ f lt. g.met.D.Disk.reads_as disk f tells (omega (arith, lt, c.requires.era.not_past))) (c.header_open.ensures.crash tells (c.in_ok-write_empty.ensures.closed tells))

pub returns-clause-crash : goal.returns-clause-crash
returns-clause-crash g c tells =
    let disk = c.args.self.now.disk in
    let mid = g.D.Disk.bytes c.write_empty.new.disk in
    let area = c.line_slots-slots.ensures.area in
    format_stops c.args.site mid (c.in_ok-write_empty.ensures.stored tells)
    (subst (λ (a : Area). used a mid ≡ 0) area (c.in_ok-write_empty.ensures.unused tells)) (subst (λ (a : Area). end_of_gates a ≤ length mid) area (c.in_ok-write_empty.ensures.long tells))
    c.write_boot_header.new.page (g.D.Disk.bytes disk) c.args.era.now.number _ _ _ (ap (drop 1) c.write_boot_header.ensures) (c.write_empty.ensures.crash tells) (c.in_ok-write_empty.ensures.durable tells)
    (λ f lt. g.met.D.Disk.reads_as disk f tells (omega (arith, lt, c.requires.era.not_past))) (c.header_open.ensures.crash tells (c.in_ok-write_empty.ensures.closed tells))

pub returns-clause-stands : goal.returns-clause-stands
returns-clause-stands g c tells =
    let mid = g.D.Disk.bytes c.write_empty.new.disk in
    let new = g.D.Disk.bytes c.header_open.new.disk in
    let page : List ℕ = c.write_boot_header.new.page in
    let area = c.line_slots-slots.ensures.area in
    let wrote = c.in_ok-header_open.ensures.written tells in
    let fills : length page ≡ 4096 = ap (λ (l : List ℕ). length l) c.write_boot_header.ensures ∙ (let e : length (1 ∷ boot_tail c.args.site) ≡ 4096 = omega (arith, length-boot_tail c.args.site) in e) in
    let torn : Torn 0 4096 mid new = page_torn page mid new fills wrote in
    let base = c.write_empty.ensures.base ∙ c.requires.made.mark in
    stands_of c.args.site 0 [] None c.args.era.now.number (seen g.D.Disk c.header_open.new.disk) _
    (record { mark = base; area = ap (λ (s : SlotsView). s.area) c.in_ok-write_empty.ensures.none ∙ area })
    (record { each = tt; is_mark = no_restore; lines_are = ap lines_of c.clear.ensures.items; number_is = refl; active_is = refl; used = ap (λ (s : SlotsView). s.used) c.in_ok-write_empty.ensures.none })
    (knows_still c.write_empty.new.mark mid new base (torn.elsewhere 4096 1024 (inr (omega arith))) (c.in_ok-write_empty.ensures.knows tells))
    (g.met.D.Disk.now_counts c.header_open.new.disk) c.header_open.ensures.ledger.no_later (c.in_ok-header_open.ensures.durable tells)
    (new_boot c.args.site mid (c.in_ok-write_empty.ensures.stored tells)
    (subst (λ (a : Area). used a mid ≡ 0) area (c.in_ok-write_empty.ensures.unused tells)) (subst (λ (a : Area). end_of_gates a ≤ length mid) area (c.in_ok-write_empty.ensures.long tells))
    new (λ from len le. torn.elsewhere from len (inr (omega (arith, le)))) torn.no_shorter
    (opened_header (boot_tail c.args.site) page mid new (length-boot_tail c.args.site) fills c.write_boot_header.ensures wrote))
