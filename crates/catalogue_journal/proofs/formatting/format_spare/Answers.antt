use Rattle.std.proofs.Common.{◌≡◌, ◌∙◌, arith, ap, subst, ℕ, List, length, drop}
use Rattle.site_disk.specs.CallsLaws.{on_ok}
use Rattle.site_disk.specs.Seen.{seen}
use Rattle.gated_slots.specs.Header.{StandsClosed}
use Rattle.site_headers.specs.Headers.{spare_tail}
use Rattle.site_headers.specs.HeaderLaws.{length-spare_tail}
use Rattle.gated_slots.specs.Slots.{Area, used}
use Rattle.catalogue_replay.specs.Contents.{empty}
use Rattle.catalogue_replay.specs.Places.{area_of}
use Rattle.catalogue_journal.proofs.FormatLemmas.{spare_closing_stops, opening_stops, stands_closed, journal_stays, empty_journal}
use Rattle.catalogue_journal.proofs.FormatLemmas.{opened_header}
use Rattle.catalogue_journal.proofs.formatting.format_spare.Goals as goal

pub returns-clause-header : goal.returns-clause-header
returns-clause-header g c tells =
    on_ok c.header_open.result
    (opened_header (spare_tail c.args.site) c.write_spare_header.new.page _ _ (length-spare_tail c.args.site) (omega arith) c.write_spare_header.ensures)
    (c.header_open.ensures.written tells)

pub returns-in_err-close_all-clause-crash : goal.returns-in_err-close_all-clause-crash
returns-in_err-close_all-clause-crash g c tells =
    spare_closing_stops c.args.era.now.number (g.D.Disk.image c.args.disk.now) (spare_tail c.args.site) (g.D.Disk.image c.close_all.new.disk) (c.close_all.ensures.crash tells)

pub returns-clause-crash : goal.returns-clause-crash
returns-clause-crash g c tells =
    let e = c.args.era.now.number in
    let disk = c.args.disk.now in
    let mid = c.close_all.new.disk in
    let only = c.in_ok-close_all.ensures.durable tells in
    let shut = c.in_ok-close_all.ensures.closed tells in
    let stands : StandsClosed (seen g.D.Disk mid) =
    stands_closed (g.D.Disk.ledger mid).last e (g.D.Disk.bytes mid) (g.D.Disk.image mid) shut only c.close_all.ensures.ledger.no_later (g.met.D.Disk.now_counts mid) in
    opening_stops e (g.D.Disk.image disk) (spare_tail c.args.site) c.write_spare_header.new.page (g.D.Disk.bytes disk) (g.D.Disk.bytes mid)
    (g.D.Disk.image mid) (g.D.Disk.image c.header_open.new.disk) (ap (drop 1) c.write_spare_header.ensures) (c.close_all.ensures.crash tells) only
    (λ f lt. g.met.D.Disk.reads_as disk f tells (omega (arith, lt, c.requires.era.not_past)))
    (c.header_open.ensures.crash tells stands)

pub returns-clause-journal : goal.returns-clause-journal
returns-clause-journal g c tells =
    let page = c.write_spare_header.new.page in
    let mid = g.D.Disk.bytes c.close_all.new.disk in
    let none : used (area_of c.args.capacity) mid ≡ 0 = subst (λ (a : Area). used a mid ≡ 0) c.slots_at-slots.ensures.area (c.in_ok-close_all.ensures.none tells) in
    let fills : length (drop 1 page) ≡ 4095 = ap (λ (l : List ℕ). length (drop 1 l)) c.write_spare_header.ensures ∙ length-spare_tail c.args.site in
    on_ok c.header_open.result
    (λ wrote. journal_stays (drop 1 page) mid (g.D.Disk.bytes c.header_open.new.disk) fills wrote c.args.capacity empty
    (empty_journal c.args.capacity mid none (c.in_ok-close_all.ensures.long tells)))
    (c.header_open.ensures.written tells)
