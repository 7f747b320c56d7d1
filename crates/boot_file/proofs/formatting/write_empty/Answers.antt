use Rattle.std.proofs.Common.{◌≡◌, ℕ, List, None, Some, arith, ap, subst, ◌∙◌, inr}
use Rattle.site_disk.specs.Bytes.{Torn}
use Rattle.site_disk.specs.CallsLaws.{on_ok, both_on_ok}
use Rattle.site_disk.specs.SeenLaws.{synced_after}
use Rattle.site_disk.specs.Seen.{seen}
use Rattle.gated_slots.specs.HeaderLaws.{closed_elsewhere, stands_closed}
use Rattle.gated_slots.specs.Slots.{Area}
use Rattle.gated_slots.specs.SlotsLaws.{used_by_gates}
use Rattle.twin_mark.specs.Marks.{record_at}
use Rattle.boot_lines.specs.MarkLayout.{spelling as mark_spelling}
use Rattle.boot_file.proofs.FormatLemmas.{closed_stops}
use Rattle.boot_file.proofs.formatting.write_empty.Goals as goal

pub returns-clause-stored : goal.returns-clause-stored
returns-clause-stored g c tells =
    let new = g.D.Disk.bytes c.format.new.disk in
    on_ok c.format.result
    (λ stands. subst (λ (k : ℕ). record_at k new ≡ Some (mark_spelling 0 None)) c.requires.base (stands ∙ ap (λ (l : List ℕ). Some l) c.encode_into.ensures))
    (c.format.ensures.new_record tells)

pub returns-clause-knows : goal.returns-clause-knows
returns-clause-knows g c tells = on_ok c.format.result (λ agrees. agrees.now) (c.format.ensures.agrees tells)

pub returns-clause-closed : goal.returns-clause-closed
returns-clause-closed g c tells =
    let e = c.args.era.now.number in
    let mid = g.D.Disk.bytes c.close_all.new.disk in
    let disk = c.format.new.disk in
    let new = g.D.Disk.bytes disk in
    let long = c.in_ok-close_all.ensures.long tells in
    let closed = c.in_ok-close_all.ensures.closed tells in
    both_on_ok c.format.result
    (λ stores only. stands_closed (seen g.D.Disk disk)
    (synced_after (seen g.D.Disk disk) e (g.met.D.Disk.now_counts disk) c.format.ensures.ledger.no_later only)
    (closed_elsewhere c.args.mark.now.base 1024 mid new (omega (arith, c.requires.base)) closed stores.no_shorter stores.elsewhere))
    (c.format.ensures.stored tells (omega (arith, long, c.requires.base, c.requires.gates))) (c.format.ensures.durable tells)

pub returns-clause-unused : goal.returns-clause-unused
returns-clause-unused g c tells =
    let mid = g.D.Disk.bytes c.close_all.new.disk in
    let new = g.D.Disk.bytes c.format.new.disk in
    let area : Area = c.args.slots.now.area in
    let long = c.in_ok-close_all.ensures.long tells in
    on_ok c.format.result
    (λ stores. used_by_gates area mid new (stores.elsewhere area.gates area.capacity (inr (omega (arith, c.requires.base, c.requires.gates)))) ∙ c.in_ok-close_all.ensures.unused tells)
    (c.format.ensures.stored tells (omega (arith, long, c.requires.base, c.requires.gates)))

pub returns-clause-long : goal.returns-clause-long
returns-clause-long g c tells =
    let long = c.in_ok-close_all.ensures.long tells in
    on_ok c.format.result (λ stores. omega (arith, long, stores.no_shorter)) (c.format.ensures.stored tells (omega (arith, long, c.requires.base, c.requires.gates)))

pub returns-clause-crash : goal.returns-clause-crash
returns-clause-crash g c tells =
    let e = c.args.era.now.number in
    let disk = c.args.disk.now in
    let mid = c.close_all.new.disk in
    let base : ℕ = c.args.mark.now.base in
    let long = c.in_ok-close_all.ensures.long tells in
    let shut = c.in_ok-close_all.ensures.closed tells in
    closed_stops e (g.D.Disk.image disk) (Torn base 1024) (g.D.Disk.bytes disk) (g.D.Disk.bytes mid) (g.D.Disk.image mid) (g.D.Disk.image c.format.new.disk)
    (c.close_all.ensures.crash tells) (c.in_ok-close_all.ensures.durable tells)
    (λ f lt. g.met.D.Disk.reads_as disk f tells (omega (arith, lt, c.requires.era.not_past)))
    (c.format.ensures.crash tells (omega (arith, long, c.requires.base, c.requires.gates)))
    (λ d torn. closed_elsewhere base 1024 (g.D.Disk.bytes mid) d (omega (arith, c.requires.base)) shut torn.no_shorter torn.elsewhere)
