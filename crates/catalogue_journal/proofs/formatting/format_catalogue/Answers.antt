use Rattle.std.proofs.Common.{◌≡◌, ◌≤◌, ◌∙◌, ℕ, List, length, replicate, Some, refl, sym, subst, arith}
use Rattle.site_disk.specs.CallsLaws.{both_on_ok}
use Rattle.site_disk.specs.Bytes.{Torn}
use Rattle.site_disk.specs.CallsLaws.{on_ok}
use Rattle.gated_slots.specs.Slots.{Area, used}
use Rattle.twin_mark.specs.Marks.{Stores, record_at}
use Rattle.catalogue_replay.specs.Contents.{empty}
use Rattle.catalogue_replay.specs.Places.{area_of, Journals}
use Rattle.catalogue_journal.proofs.FormatLemmas.{closed_torn, closed_stored, closed_stops, stands_closed, empty_journal, names_area, gates_stay}
use Rattle.catalogue_journal.proofs.formatting.format_catalogue.Goals as goal

after_store : (capacity : ℕ) (mid new : List ℕ) → used (area_of capacity) mid ≡ 0 → 73728 ≤ length mid → Stores 4096 (replicate {A = ℕ} 255 0) mid new → Journals (area_of capacity) empty new
after_store capacity mid new none long stores =
    empty_journal capacity new (gates_stay capacity (replicate {A = ℕ} 255 0) mid new stores ∙ none) (omega (arith, long, stores.no_shorter))

pub returns-clause-journal : goal.returns-clause-journal
returns-clause-journal g c tells =
    let area : Area = c.args.slots.now.area in
    let mid = g.D.Disk.bytes c.close_all.new.disk in
    let new = g.D.Disk.bytes c.format.new.disk in
    let long : 73728 ≤ length mid = c.in_ok-close_all.ensures.long tells in
    let none : used (area_of area.capacity) mid ≡ 0 = subst (λ (a : Area). used a mid ≡ 0) c.requires.area (c.in_ok-close_all.ensures.none tells) in
    on_ok c.format.result
    (λ stores. subst (λ (a : Area). Journals a empty new) (sym c.requires.area)
    (after_store area.capacity mid new none long (subst (λ (k : ℕ). Stores k (replicate {A = ℕ} 255 0) mid new) c.requires.mark stores)))
    (c.format.ensures.stored tells (omega (arith, long, c.requires.mark)))

pub returns-clause-none : goal.returns-clause-none
returns-clause-none g c tells =
    let area : Area = c.args.slots.now.area in
    let mid = g.D.Disk.bytes c.close_all.new.disk in
    let new = g.D.Disk.bytes c.format.new.disk in
    let long : 73728 ≤ length mid = c.in_ok-close_all.ensures.long tells in
    let none : used (area_of area.capacity) mid ≡ 0 = subst (λ (a : Area). used a mid ≡ 0) c.requires.area (c.in_ok-close_all.ensures.none tells) in
    on_ok c.format.result
    (λ stores. subst (λ (a : Area). used a new ≡ 0) (sym c.requires.area)
    (gates_stay area.capacity (replicate {A = ℕ} 255 0) mid new (subst (λ (k : ℕ). Stores k (replicate {A = ℕ} 255 0) mid new) c.requires.mark stores) ∙ none))
    (c.format.ensures.stored tells (omega (arith, long, c.requires.mark)))

pub returns-clause-names : goal.returns-clause-names
returns-clause-names g c tells =
    let new = g.D.Disk.bytes c.format.new.disk in
    on_ok c.format.result (λ stands. names_area new (replicate {A = ℕ} 255 0) refl (subst (λ (k : ℕ). record_at k new ≡ Some (replicate {A = ℕ} 255 0)) c.requires.mark stands)) (c.format.ensures.new_record tells)

pub returns-clause-closed : goal.returns-clause-closed
returns-clause-closed g c tells =
    let e = c.args.era.now.number in
    let mid = g.D.Disk.bytes c.close_all.new.disk in
    let disk = c.format.new.disk in
    let new = g.D.Disk.bytes disk in
    let last = (g.D.Disk.ledger disk).last in
    let long : 73728 ≤ length mid = c.in_ok-close_all.ensures.long tells in
    both_on_ok c.format.result
    (λ stores only. stands_closed last e new (g.D.Disk.image disk)
    (closed_stored c.args.mark.now.base (replicate {A = ℕ} 255 0) mid new (omega (arith, c.requires.mark)) (c.in_ok-close_all.ensures.closed tells) stores)
    only c.format.ensures.ledger.no_later (g.met.D.Disk.now_counts disk))
    (c.format.ensures.stored tells (omega (arith, long, c.requires.mark))) (c.format.ensures.durable tells)

pub returns-clause-crash : goal.returns-clause-crash
returns-clause-crash g c tells =
    let e = c.args.era.now.number in
    let disk = c.args.disk.now in
    let mid = c.close_all.new.disk in
    let base : ℕ = c.args.mark.now.base in
    let long : 73728 ≤ length (g.D.Disk.bytes mid) = c.in_ok-close_all.ensures.long tells in
    let shut = c.in_ok-close_all.ensures.closed tells in
    closed_stops e (g.D.Disk.image disk) (Torn base 1024) (g.D.Disk.bytes disk) (g.D.Disk.bytes mid) (g.D.Disk.image mid) (g.D.Disk.image c.format.new.disk)
    (c.close_all.ensures.crash tells) (c.in_ok-close_all.ensures.durable tells)
    (λ f lt. g.met.D.Disk.reads_as disk f tells (omega (arith, lt, c.requires.era.not_past)))
    (c.format.ensures.crash tells (omega (arith, long, c.requires.mark)))
    (λ d torn. closed_torn base 1024 (g.D.Disk.bytes mid) d (omega (arith, c.requires.mark)) shut torn)
