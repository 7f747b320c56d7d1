use Rattle.std.proofs.Common.{◌+◌, ◌*◌, ◌≤◌, ℕ, List, length, map, arith, sym, subst}
use Rattle.site_disk.specs.CallsLaws.{both_on_ok, leaves_nothing, then_same, uses_both}
use Rattle.site_disk.specs.Images.{Leaves}
use Rattle.site_disk.specs.Ledger.{Uses}
use Rattle.site_disk.specs.Seen.{seen}
use Rattle.txn_table.specs.Table.{change_of}
use Rattle.before_images.specs.Saved.{Lie, MaySave, Saves, Within, place_of}
use Rattle.space_pages.specs.Pages.{brought}
use Rattle.twin_mark.specs.Marks.{Knows, MayStore, Stores}
use Rattle.twin_mark.specs.MarksLaws.{agrees_synced}
use Rattle.lane_ways.specs.Pictures.{Stand, images_at, mark_at, pages_at}
use Rattle.lane_steps.specs.Moves.{Lays, Moves, WritesOnly, moved, standing}
use Rattle.lane_steps.proofs.StepLemmas.{Ready, gate_still, knows_still, lie_below, moves_again, moves_known, ready, rests_behind, saves_moves, stands_then, starts, stored_moves, three_on_ok, uses_sync, writes_moves}
use Rattle.lane_steps.proofs.OnlyLemmas.{only_none, only_saving, only_storing, only_writing, then_only}
use Rattle.lane_steps.proofs.stepping.step.Goals as goal

pub returns-in_err-save-clause-crash : goal.returns-in_err-save-clause-crash
returns-in_err-save-clause-crash g c tells header was there upto part size can rests =
    let e = c.args.era.now.number in
    let first = standing header was c.args.space c.args.from.0 c.args.from.1 there in
    let pages = c.args.pages.now in
    let changes = map change_of c.args.changes.now in
    let content = c.args.content.now in
    let second = moved first content upto part changes in
    let bytes = g.D.Disk.bytes c.args.disk.now in
    let image = g.D.Disk.image c.args.disk.now in
    let bytes_e = g.D.Disk.bytes c.extend_to.new.disk in
    let image_e = g.D.Disk.image c.extend_to.new.disk in
    let image_s = g.D.Disk.image c.save.new.disk in
    let start = starts e (g.D.Disk.ledger c.args.disk.now).last bytes image c.args.mark.now c.args.count first upto part c.requires.era.not_past c.requires.mark size can.other rests in
    let long : c.place_of.result ≤ length bytes = omega (arith, c.place_of.ensures, rests.shows.long, size) in
    let same = c.extend_to.ensures.bytes tells long in
    let still = c.extend_to.ensures.images tells long in
    let lie : Lie pages_at pages bytes_e = lie_below c.args.count pages bytes_e c.requires.below (omega (arith, c.place_of.ensures, c.in_ok-extend_to.ensures.reaches tells)) in
    let gate = gate_still c.args.images.now.base (g.D.Disk.ledger c.args.disk.now).last (g.D.Disk.ledger c.extend_to.new.disk).last bytes bytes_e image image_e rests.synced still same c.extend_to.ensures.ledger.no_earlier in
    let saving = subst (λ (b : ℕ). Leaves e (MaySave b pages_at c.args.from.0 c.args.from.1 pages) image_e image_s) c.requires.images (c.save.ensures.crash tells lie gate) in
    let saves_so : Leaves e (Moves first second) image image_s =
    saves_moves e bytes image c.args.mark.now c.args.count first upto part start content changes pages c.requires.below image_e image_s still saving in
    saves_so

pub write_pages-requires-clause-reaches : goal.write_pages-requires-clause-reaches
write_pages-requires-clause-reaches g c tells =
    let pages = c.args.pages.now in
    let bytes_e = g.D.Disk.bytes c.extend_to.new.disk in
    let reaches : place_of pages_at c.args.count ≤ length bytes_e = omega (arith, c.place_of.ensures, c.in_ok-extend_to.ensures.reaches tells) in
    let lie : Lie pages_at pages bytes_e = lie_below c.args.count pages bytes_e c.requires.below reaches in
    lie_below c.args.count pages (g.D.Disk.bytes c.save.new.disk) c.requires.below (omega (arith, reaches, (c.in_ok-save.ensures.saved tells lie).no_shorter))

pub returns-in_err-write_pages-clause-crash : goal.returns-in_err-write_pages-clause-crash
returns-in_err-write_pages-clause-crash g c tells header was there upto part size can rests =
    let e = c.args.era.now.number in
    let first = standing header was c.args.space c.args.from.0 c.args.from.1 there in
    let pages = c.args.pages.now in
    let changes = map change_of c.args.changes.now in
    let content = c.args.content.now in
    let second = moved first content upto part changes in
    let bytes = g.D.Disk.bytes c.args.disk.now in
    let image = g.D.Disk.image c.args.disk.now in
    let bytes_e = g.D.Disk.bytes c.extend_to.new.disk in
    let image_e = g.D.Disk.image c.extend_to.new.disk in
    let image_s = g.D.Disk.image c.save.new.disk in
    let start = starts e (g.D.Disk.ledger c.args.disk.now).last bytes image c.args.mark.now c.args.count first upto part c.requires.era.not_past c.requires.mark size can.other rests in
    let long : c.place_of.result ≤ length bytes = omega (arith, c.place_of.ensures, rests.shows.long, size) in
    let same = c.extend_to.ensures.bytes tells long in
    let still = c.extend_to.ensures.images tells long in
    let lie : Lie pages_at pages bytes_e = lie_below c.args.count pages bytes_e c.requires.below (omega (arith, c.place_of.ensures, c.in_ok-extend_to.ensures.reaches tells)) in
    let gate = gate_still c.args.images.now.base (g.D.Disk.ledger c.args.disk.now).last (g.D.Disk.ledger c.extend_to.new.disk).last bytes bytes_e image image_e rests.synced still same c.extend_to.ensures.ledger.no_earlier in
    let saving = subst (λ (b : ℕ). Leaves e (MaySave b pages_at c.args.from.0 c.args.from.1 pages) image_e image_s) c.requires.images (c.save.ensures.crash tells lie gate) in
    let saves_so : Leaves e (Moves first second) image image_s =
    saves_moves e bytes image c.args.mark.now c.args.count first upto part start content changes pages c.requires.below image_e image_s still saving in
    let bytes_s = g.D.Disk.bytes c.save.new.disk in
    let saved : Saves images_at pages_at c.args.from.0 c.args.from.1 pages bytes bytes_s =
    subst (λ (b : ℕ). Saves b pages_at c.args.from.0 c.args.from.1 pages bytes bytes_s) c.requires.images
    (subst (λ (l : List ℕ). Saves c.args.images.now.base pages_at c.args.from.0 c.args.from.1 pages l bytes_s) same (c.in_ok-save.ensures.saved tells lie)) in
    let image_w = g.D.Disk.image c.write_pages.new.disk in
    let writes_so : Leaves e (Moves first second) image image_w =
    writes_moves e bytes image c.args.mark.now c.args.count first upto part start content changes pages c.requires.below bytes_s saved image_s image_w saves_so
    (c.in_ok-save.ensures.durable tells) (c.write_pages.ensures.crash c.args.count c.requires.below) in
    writes_so

pub returns-in_err-sync-clause-crash : goal.returns-in_err-sync-clause-crash
returns-in_err-sync-clause-crash g c tells header was there upto part size can rests =
    let e = c.args.era.now.number in
    let first = standing header was c.args.space c.args.from.0 c.args.from.1 there in
    let pages = c.args.pages.now in
    let changes = map change_of c.args.changes.now in
    let content = c.args.content.now in
    let second = moved first content upto part changes in
    let bytes = g.D.Disk.bytes c.args.disk.now in
    let image = g.D.Disk.image c.args.disk.now in
    let bytes_e = g.D.Disk.bytes c.extend_to.new.disk in
    let image_e = g.D.Disk.image c.extend_to.new.disk in
    let image_s = g.D.Disk.image c.save.new.disk in
    let start = starts e (g.D.Disk.ledger c.args.disk.now).last bytes image c.args.mark.now c.args.count first upto part c.requires.era.not_past c.requires.mark size can.other rests in
    let long : c.place_of.result ≤ length bytes = omega (arith, c.place_of.ensures, rests.shows.long, size) in
    let same = c.extend_to.ensures.bytes tells long in
    let still = c.extend_to.ensures.images tells long in
    let lie : Lie pages_at pages bytes_e = lie_below c.args.count pages bytes_e c.requires.below (omega (arith, c.place_of.ensures, c.in_ok-extend_to.ensures.reaches tells)) in
    let gate = gate_still c.args.images.now.base (g.D.Disk.ledger c.args.disk.now).last (g.D.Disk.ledger c.extend_to.new.disk).last bytes bytes_e image image_e rests.synced still same c.extend_to.ensures.ledger.no_earlier in
    let saving = subst (λ (b : ℕ). Leaves e (MaySave b pages_at c.args.from.0 c.args.from.1 pages) image_e image_s) c.requires.images (c.save.ensures.crash tells lie gate) in
    let saves_so : Leaves e (Moves first second) image image_s =
    saves_moves e bytes image c.args.mark.now c.args.count first upto part start content changes pages c.requires.below image_e image_s still saving in
    let bytes_s = g.D.Disk.bytes c.save.new.disk in
    let saved : Saves images_at pages_at c.args.from.0 c.args.from.1 pages bytes bytes_s =
    subst (λ (b : ℕ). Saves b pages_at c.args.from.0 c.args.from.1 pages bytes bytes_s) c.requires.images
    (subst (λ (l : List ℕ). Saves c.args.images.now.base pages_at c.args.from.0 c.args.from.1 pages l bytes_s) same (c.in_ok-save.ensures.saved tells lie)) in
    let image_w = g.D.Disk.image c.write_pages.new.disk in
    let writes_so : Leaves e (Moves first second) image image_w =
    writes_moves e bytes image c.args.mark.now c.args.count first upto part start content changes pages c.requires.below bytes_s saved image_s image_w saves_so
    (c.in_ok-save.ensures.durable tells) (c.write_pages.ensures.crash c.args.count c.requires.below) in
    let image_y = g.D.Disk.image c.sync.new.self in
    let synced_so : Leaves e (Moves first second) image image_y = then_same (Moves first second) e image image_w image_y writes_so c.sync.ensures.crash in
    synced_so

pub returns-clause-crash : goal.returns-clause-crash
returns-clause-crash g c tells header was there upto part size can rests =
    let e = c.args.era.now.number in
    let first = standing header was c.args.space c.args.from.0 c.args.from.1 there in
    let pages = c.args.pages.now in
    let changes = map change_of c.args.changes.now in
    let content = c.args.content.now in
    let second = moved first content upto part changes in
    let bytes = g.D.Disk.bytes c.args.disk.now in
    let image = g.D.Disk.image c.args.disk.now in
    let bytes_e = g.D.Disk.bytes c.extend_to.new.disk in
    let image_e = g.D.Disk.image c.extend_to.new.disk in
    let image_s = g.D.Disk.image c.save.new.disk in
    let start = starts e (g.D.Disk.ledger c.args.disk.now).last bytes image c.args.mark.now c.args.count first upto part c.requires.era.not_past c.requires.mark size can.other rests in
    let long : c.place_of.result ≤ length bytes = omega (arith, c.place_of.ensures, rests.shows.long, size) in
    let same = c.extend_to.ensures.bytes tells long in
    let still = c.extend_to.ensures.images tells long in
    let lie : Lie pages_at pages bytes_e = lie_below c.args.count pages bytes_e c.requires.below (omega (arith, c.place_of.ensures, c.in_ok-extend_to.ensures.reaches tells)) in
    let gate = gate_still c.args.images.now.base (g.D.Disk.ledger c.args.disk.now).last (g.D.Disk.ledger c.extend_to.new.disk).last bytes bytes_e image image_e rests.synced still same c.extend_to.ensures.ledger.no_earlier in
    let saving = subst (λ (b : ℕ). Leaves e (MaySave b pages_at c.args.from.0 c.args.from.1 pages) image_e image_s) c.requires.images (c.save.ensures.crash tells lie gate) in
    let saves_so : Leaves e (Moves first second) image image_s =
    saves_moves e bytes image c.args.mark.now c.args.count first upto part start content changes pages c.requires.below image_e image_s still saving in
    let bytes_s = g.D.Disk.bytes c.save.new.disk in
    let saved : Saves images_at pages_at c.args.from.0 c.args.from.1 pages bytes bytes_s =
    subst (λ (b : ℕ). Saves b pages_at c.args.from.0 c.args.from.1 pages bytes bytes_s) c.requires.images
    (subst (λ (l : List ℕ). Saves c.args.images.now.base pages_at c.args.from.0 c.args.from.1 pages l bytes_s) same (c.in_ok-save.ensures.saved tells lie)) in
    let image_w = g.D.Disk.image c.write_pages.new.disk in
    let writes_so : Leaves e (Moves first second) image image_w =
    writes_moves e bytes image c.args.mark.now c.args.count first upto part start content changes pages c.requires.below bytes_s saved image_s image_w saves_so
    (c.in_ok-save.ensures.durable tells) (c.write_pages.ensures.crash c.args.count c.requires.below) in
    let image_y = g.D.Disk.image c.sync.new.self in
    let synced_so : Leaves e (Moves first second) image image_y = then_same (Moves first second) e image image_w image_y writes_so c.sync.ensures.crash in
    let bytes_y = g.D.Disk.bytes c.sync.new.self in
    let within = subst (λ (l : List ℕ). Within pages_at c.args.count pages bytes_s l) (sym c.in_ok-sync.ensures.bytes) (c.in_ok-write_pages.ensures.within tells c.args.count c.requires.below) in
    let lays = subst (λ (n : ℕ). Lays c.args.space n pages changes) (sym size) can.lays in
    let then_stand = stands_then e bytes image c.args.mark.now c.args.count first upto part start content changes pages c.requires.below bytes_s saved in
    let stand = subst (Stand c.args.space 0 (brought c.args.space 0 changes there)) (sym c.in_ok-sync.ensures.bytes) (c.in_ok-write_pages.ensures.brought tells there lays then_stand) in
    let is_ready : Ready first second bytes_y =
    ready e bytes image c.args.mark.now c.args.count first upto part start content changes pages c.requires.below bytes_s saved bytes_y within stand in
    let knows : Knows c.args.mark.now bytes_y = knows_still c.args.mark.now c.args.count c.args.from.0 c.args.from.1 pages bytes bytes_s bytes_y c.requires.mark saved within rests.knows in
    let only_y = c.in_ok-sync.ensures.durable tells in
    let image_t = g.D.Disk.image c.store.new.disk in
    let agrees = agrees_synced c.args.mark.now (seen g.D.Disk c.sync.new.self) (λ f x lt is. only_y f x (omega (arith, lt, c.in_ok-sync.ensures.ledger.last)) is) knows in
    let storing = subst (λ (b : ℕ). Leaves e (MayStore b content) image_y image_t) c.requires.mark (c.store.ensures.crash tells agrees) in
    moves_again first second e image image_y image_t synced_so
    (moves_known first second e image_y image_y image_t (MayStore mark_at content) bytes_y only_y storing (λ x may. stored_moves first second bytes_y x is_ready may))

pub returns-clause-rests : goal.returns-clause-rests
returns-clause-rests g c tells header was there upto part size can rests =
    let e = c.args.era.now.number in
    let first = standing header was c.args.space c.args.from.0 c.args.from.1 there in
    let pages = c.args.pages.now in
    let changes = map change_of c.args.changes.now in
    let content = c.args.content.now in
    let second = moved first content upto part changes in
    let bytes = g.D.Disk.bytes c.args.disk.now in
    let image = g.D.Disk.image c.args.disk.now in
    let bytes_e = g.D.Disk.bytes c.extend_to.new.disk in
    let image_e = g.D.Disk.image c.extend_to.new.disk in
    let image_s = g.D.Disk.image c.save.new.disk in
    let start = starts e (g.D.Disk.ledger c.args.disk.now).last bytes image c.args.mark.now c.args.count first upto part c.requires.era.not_past c.requires.mark size can.other rests in
    let long : c.place_of.result ≤ length bytes = omega (arith, c.place_of.ensures, rests.shows.long, size) in
    let same = c.extend_to.ensures.bytes tells long in
    let still = c.extend_to.ensures.images tells long in
    let lie : Lie pages_at pages bytes_e = lie_below c.args.count pages bytes_e c.requires.below (omega (arith, c.place_of.ensures, c.in_ok-extend_to.ensures.reaches tells)) in
    let gate = gate_still c.args.images.now.base (g.D.Disk.ledger c.args.disk.now).last (g.D.Disk.ledger c.extend_to.new.disk).last bytes bytes_e image image_e rests.synced still same c.extend_to.ensures.ledger.no_earlier in
    let saving = subst (λ (b : ℕ). Leaves e (MaySave b pages_at c.args.from.0 c.args.from.1 pages) image_e image_s) c.requires.images (c.save.ensures.crash tells lie gate) in
    let saves_so : Leaves e (Moves first second) image image_s =
    saves_moves e bytes image c.args.mark.now c.args.count first upto part start content changes pages c.requires.below image_e image_s still saving in
    let bytes_s = g.D.Disk.bytes c.save.new.disk in
    let saved : Saves images_at pages_at c.args.from.0 c.args.from.1 pages bytes bytes_s =
    subst (λ (b : ℕ). Saves b pages_at c.args.from.0 c.args.from.1 pages bytes bytes_s) c.requires.images
    (subst (λ (l : List ℕ). Saves c.args.images.now.base pages_at c.args.from.0 c.args.from.1 pages l bytes_s) same (c.in_ok-save.ensures.saved tells lie)) in
    let image_w = g.D.Disk.image c.write_pages.new.disk in
    let writes_so : Leaves e (Moves first second) image image_w =
    writes_moves e bytes image c.args.mark.now c.args.count first upto part start content changes pages c.requires.below bytes_s saved image_s image_w saves_so
    (c.in_ok-save.ensures.durable tells) (c.write_pages.ensures.crash c.args.count c.requires.below) in
    let bytes_y = g.D.Disk.bytes c.sync.new.self in
    let within = subst (λ (l : List ℕ). Within pages_at c.args.count pages bytes_s l) (sym c.in_ok-sync.ensures.bytes) (c.in_ok-write_pages.ensures.within tells c.args.count c.requires.below) in
    let lays = subst (λ (n : ℕ). Lays c.args.space n pages changes) (sym size) can.lays in
    let then_stand = stands_then e bytes image c.args.mark.now c.args.count first upto part start content changes pages c.requires.below bytes_s saved in
    let stand = subst (Stand c.args.space 0 (brought c.args.space 0 changes there)) (sym c.in_ok-sync.ensures.bytes) (c.in_ok-write_pages.ensures.brought tells there lays then_stand) in
    let is_ready : Ready first second bytes_y =
    ready e bytes image c.args.mark.now c.args.count first upto part start content changes pages c.requires.below bytes_s saved bytes_y within stand in
    let knows : Knows c.args.mark.now bytes_y = knows_still c.args.mark.now c.args.count c.args.from.0 c.args.from.1 pages bytes bytes_s bytes_y c.requires.mark saved within rests.knows in
    let only_y = c.in_ok-sync.ensures.durable tells in
    let bytes_t = g.D.Disk.bytes c.store.new.disk in
    three_on_ok c.store.result
    (λ stores agrees only. rests_behind first second bytes_y bytes_t is_ready c.store.new.self (g.D.Disk.ledger c.store.new.disk).last e (g.D.Disk.image c.store.new.disk)
    (subst (λ (b : ℕ). Stores b content bytes_y bytes_t) c.requires.mark stores) agrees.now c.store.ensures.ledger.no_later (g.met.D.Disk.now_counts c.store.new.disk) only)
    (c.store.ensures.stored tells knows) (c.store.ensures.agrees tells knows) (c.store.ensures.durable tells)

pub returns-clause-ledger : goal.returns-clause-ledger
returns-clause-ledger g c =
    let n = length c.args.pages.now in
    let era = c.args.era.now in
    let old = g.D.Disk.ledger c.args.disk.now in
    let one : Uses era (4096 * n + 1) (c.place_of.result + (c.args.images.now.base + 73729 + 4096 * n)) old (g.D.Disk.ledger c.save.new.disk) =
    uses_both c.in_ok-extend_to.ensures.ledger c.in_ok-save.ensures.ledger (omega arith) (omega arith) in
    let two : Uses era (8192 * n + 1) (c.place_of.result + (c.args.images.now.base + 73729 + 8192 * n)) old (g.D.Disk.ledger c.write_pages.new.disk) =
    uses_both one c.in_ok-write_pages.ensures.ledger (omega arith) (omega arith) in
    let three = uses_sync two c.in_ok-sync.ensures.ledger c.in_ok-sync.ensures.ledger.synced c.in_ok-sync.ensures.cause.later in
    uses_both three c.store.ensures.ledger (omega arith) (omega (arith, c.place_of.ensures, c.requires.images, c.requires.mark))

pub returns-clause-bound : goal.returns-clause-bound
returns-clause-bound g c tells long knows =
    let pages = c.args.pages.now in
    let bytes = g.D.Disk.bytes c.args.disk.now in
    let bytes_e = g.D.Disk.bytes c.extend_to.new.disk in
    let bytes_s = g.D.Disk.bytes c.save.new.disk in
    let place : c.place_of.result ≤ length bytes = omega (arith, c.place_of.ensures, long) in
    let same = c.extend_to.ensures.bytes tells place in
    let lie : Lie pages_at pages bytes_e = lie_below c.args.count pages bytes_e c.requires.below (omega (arith, c.place_of.ensures, c.in_ok-extend_to.ensures.reaches tells)) in
    let saved : Saves images_at pages_at c.args.from.0 c.args.from.1 pages bytes bytes_s =
    subst (λ (b : ℕ). Saves b pages_at c.args.from.0 c.args.from.1 pages bytes bytes_s) c.requires.images
    (subst (λ (l : List ℕ). Saves c.args.images.now.base pages_at c.args.from.0 c.args.from.1 pages l bytes_s) same (c.in_ok-save.ensures.saved tells lie)) in
    let bytes_y = g.D.Disk.bytes c.sync.new.self in
    let within = subst (λ (l : List ℕ). Within pages_at c.args.count pages bytes_s l) (sym c.in_ok-sync.ensures.bytes) (c.in_ok-write_pages.ensures.within tells c.args.count c.requires.below) in
    let known = knows_still c.args.mark.now c.args.count c.args.from.0 c.args.from.1 pages bytes bytes_s bytes_y c.requires.mark saved within knows in
    omega (
      arith,
      (c.extend_to.ensures.spent tells).written,
      c.save.ensures.bound tells (omega (arith, c.place_of.ensures, c.in_ok-extend_to.ensures.reaches tells)),
      c.write_pages.ensures.ledger.written,
      c.in_ok-sync.ensures.ledger.written,
      c.store.ensures.bound tells known,
      place,
    )

pub returns-in_err-extend_to-clause-others : goal.returns-in_err-extend_to-clause-others
returns-in_err-extend_to-clause-others g c tells long knows synced =
    let e = c.args.era.now.number in
    let n = c.args.count in
    let pages = c.args.pages.now in
    let bytes = g.D.Disk.bytes c.args.disk.now in
    let image = g.D.Disk.image c.args.disk.now in
    let bytes_e = g.D.Disk.bytes c.extend_to.new.disk in
    let image_e = g.D.Disk.image c.extend_to.new.disk in
    let place : c.place_of.result ≤ length bytes = omega (arith, c.place_of.ensures, long) in
    let still = c.extend_to.ensures.images tells place in
    leaves_nothing (WritesOnly n) e image image image_e (only_none n) still

pub returns-in_err-save-clause-others : goal.returns-in_err-save-clause-others
returns-in_err-save-clause-others g c tells long knows synced =
    let e = c.args.era.now.number in
    let n = c.args.count in
    let pages = c.args.pages.now in
    let bytes = g.D.Disk.bytes c.args.disk.now in
    let image = g.D.Disk.image c.args.disk.now in
    let bytes_e = g.D.Disk.bytes c.extend_to.new.disk in
    let image_e = g.D.Disk.image c.extend_to.new.disk in
    let place : c.place_of.result ≤ length bytes = omega (arith, c.place_of.ensures, long) in
    let still = c.extend_to.ensures.images tells place in
    let same = c.extend_to.ensures.bytes tells place in
    let image_s = g.D.Disk.image c.save.new.disk in
    let lie : Lie pages_at pages bytes_e = lie_below n pages bytes_e c.requires.below (omega (arith, c.place_of.ensures, c.in_ok-extend_to.ensures.reaches tells)) in
    let gate = gate_still c.args.images.now.base (g.D.Disk.ledger c.args.disk.now).last (g.D.Disk.ledger c.extend_to.new.disk).last bytes bytes_e image image_e synced still same c.extend_to.ensures.ledger.no_earlier in
    let saving = subst (λ (b : ℕ). Leaves e (MaySave b pages_at c.args.from.0 c.args.from.1 pages) image_e image_s) c.requires.images (c.save.ensures.crash tells lie gate) in
    let saves_only : Leaves e (WritesOnly n) image image_s =
    then_only n e (MaySave images_at pages_at c.args.from.0 c.args.from.1 pages) image image_e image_s (leaves_nothing (WritesOnly n) e image image image_e (only_none n) still) saving
    (λ d x may. only_saving n c.args.from.0 c.args.from.1 pages d x may) in
    saves_only

pub returns-in_err-write_pages-clause-others : goal.returns-in_err-write_pages-clause-others
returns-in_err-write_pages-clause-others g c tells long knows synced =
    let e = c.args.era.now.number in
    let n = c.args.count in
    let pages = c.args.pages.now in
    let bytes = g.D.Disk.bytes c.args.disk.now in
    let image = g.D.Disk.image c.args.disk.now in
    let bytes_e = g.D.Disk.bytes c.extend_to.new.disk in
    let image_e = g.D.Disk.image c.extend_to.new.disk in
    let place : c.place_of.result ≤ length bytes = omega (arith, c.place_of.ensures, long) in
    let still = c.extend_to.ensures.images tells place in
    let same = c.extend_to.ensures.bytes tells place in
    let image_s = g.D.Disk.image c.save.new.disk in
    let lie : Lie pages_at pages bytes_e = lie_below n pages bytes_e c.requires.below (omega (arith, c.place_of.ensures, c.in_ok-extend_to.ensures.reaches tells)) in
    let gate = gate_still c.args.images.now.base (g.D.Disk.ledger c.args.disk.now).last (g.D.Disk.ledger c.extend_to.new.disk).last bytes bytes_e image image_e synced still same c.extend_to.ensures.ledger.no_earlier in
    let saving = subst (λ (b : ℕ). Leaves e (MaySave b pages_at c.args.from.0 c.args.from.1 pages) image_e image_s) c.requires.images (c.save.ensures.crash tells lie gate) in
    let saves_only : Leaves e (WritesOnly n) image image_s =
    then_only n e (MaySave images_at pages_at c.args.from.0 c.args.from.1 pages) image image_e image_s (leaves_nothing (WritesOnly n) e image image image_e (only_none n) still) saving
    (λ d x may. only_saving n c.args.from.0 c.args.from.1 pages d x may) in
    let image_w = g.D.Disk.image c.write_pages.new.disk in
    let writes_only : Leaves e (WritesOnly n) image image_w =
    then_only n e (Within pages_at n pages) image image_s image_w saves_only (c.write_pages.ensures.crash n c.requires.below) (λ d x within. only_writing n pages d x c.requires.below within) in
    writes_only

pub returns-in_err-sync-clause-others : goal.returns-in_err-sync-clause-others
returns-in_err-sync-clause-others g c tells long knows synced =
    let e = c.args.era.now.number in
    let n = c.args.count in
    let pages = c.args.pages.now in
    let bytes = g.D.Disk.bytes c.args.disk.now in
    let image = g.D.Disk.image c.args.disk.now in
    let bytes_e = g.D.Disk.bytes c.extend_to.new.disk in
    let image_e = g.D.Disk.image c.extend_to.new.disk in
    let place : c.place_of.result ≤ length bytes = omega (arith, c.place_of.ensures, long) in
    let still = c.extend_to.ensures.images tells place in
    let same = c.extend_to.ensures.bytes tells place in
    let image_s = g.D.Disk.image c.save.new.disk in
    let lie : Lie pages_at pages bytes_e = lie_below n pages bytes_e c.requires.below (omega (arith, c.place_of.ensures, c.in_ok-extend_to.ensures.reaches tells)) in
    let gate = gate_still c.args.images.now.base (g.D.Disk.ledger c.args.disk.now).last (g.D.Disk.ledger c.extend_to.new.disk).last bytes bytes_e image image_e synced still same c.extend_to.ensures.ledger.no_earlier in
    let saving = subst (λ (b : ℕ). Leaves e (MaySave b pages_at c.args.from.0 c.args.from.1 pages) image_e image_s) c.requires.images (c.save.ensures.crash tells lie gate) in
    let saves_only : Leaves e (WritesOnly n) image image_s =
    then_only n e (MaySave images_at pages_at c.args.from.0 c.args.from.1 pages) image image_e image_s (leaves_nothing (WritesOnly n) e image image image_e (only_none n) still) saving
    (λ d x may. only_saving n c.args.from.0 c.args.from.1 pages d x may) in
    let image_w = g.D.Disk.image c.write_pages.new.disk in
    let writes_only : Leaves e (WritesOnly n) image image_w =
    then_only n e (Within pages_at n pages) image image_s image_w saves_only (c.write_pages.ensures.crash n c.requires.below) (λ d x within. only_writing n pages d x c.requires.below within) in
    let image_y = g.D.Disk.image c.sync.new.self in
    let syncs_only : Leaves e (WritesOnly n) image image_y = then_same (WritesOnly n) e image image_w image_y writes_only c.sync.ensures.crash in
    syncs_only

pub returns-clause-others : goal.returns-clause-others
returns-clause-others g c tells long knows synced =
    let e = c.args.era.now.number in
    let n = c.args.count in
    let pages = c.args.pages.now in
    let bytes = g.D.Disk.bytes c.args.disk.now in
    let image = g.D.Disk.image c.args.disk.now in
    let bytes_e = g.D.Disk.bytes c.extend_to.new.disk in
    let image_e = g.D.Disk.image c.extend_to.new.disk in
    let place : c.place_of.result ≤ length bytes = omega (arith, c.place_of.ensures, long) in
    let still = c.extend_to.ensures.images tells place in
    let same = c.extend_to.ensures.bytes tells place in
    let image_s = g.D.Disk.image c.save.new.disk in
    let lie : Lie pages_at pages bytes_e = lie_below n pages bytes_e c.requires.below (omega (arith, c.place_of.ensures, c.in_ok-extend_to.ensures.reaches tells)) in
    let gate = gate_still c.args.images.now.base (g.D.Disk.ledger c.args.disk.now).last (g.D.Disk.ledger c.extend_to.new.disk).last bytes bytes_e image image_e synced still same c.extend_to.ensures.ledger.no_earlier in
    let saving = subst (λ (b : ℕ). Leaves e (MaySave b pages_at c.args.from.0 c.args.from.1 pages) image_e image_s) c.requires.images (c.save.ensures.crash tells lie gate) in
    let saves_only : Leaves e (WritesOnly n) image image_s =
    then_only n e (MaySave images_at pages_at c.args.from.0 c.args.from.1 pages) image image_e image_s (leaves_nothing (WritesOnly n) e image image image_e (only_none n) still) saving
    (λ d x may. only_saving n c.args.from.0 c.args.from.1 pages d x may) in
    let image_w = g.D.Disk.image c.write_pages.new.disk in
    let writes_only : Leaves e (WritesOnly n) image image_w =
    then_only n e (Within pages_at n pages) image image_s image_w saves_only (c.write_pages.ensures.crash n c.requires.below) (λ d x within. only_writing n pages d x c.requires.below within) in
    let image_y = g.D.Disk.image c.sync.new.self in
    let syncs_only : Leaves e (WritesOnly n) image image_y = then_same (WritesOnly n) e image image_w image_y writes_only c.sync.ensures.crash in
    let bytes_s = g.D.Disk.bytes c.save.new.disk in
    let saved : Saves images_at pages_at c.args.from.0 c.args.from.1 pages bytes bytes_s =
    subst (λ (b : ℕ). Saves b pages_at c.args.from.0 c.args.from.1 pages bytes bytes_s) c.requires.images
    (subst (λ (l : List ℕ). Saves c.args.images.now.base pages_at c.args.from.0 c.args.from.1 pages l bytes_s) same (c.in_ok-save.ensures.saved tells lie)) in
    let bytes_y = g.D.Disk.bytes c.sync.new.self in
    let within = subst (λ (l : List ℕ). Within pages_at n pages bytes_s l) (sym c.in_ok-sync.ensures.bytes) (c.in_ok-write_pages.ensures.within tells n c.requires.below) in
    let known = knows_still c.args.mark.now n c.args.from.0 c.args.from.1 pages bytes bytes_s bytes_y c.requires.mark saved within knows in
    let only_y = c.in_ok-sync.ensures.durable tells in
    let image_t = g.D.Disk.image c.store.new.disk in
    let agrees = agrees_synced c.args.mark.now (seen g.D.Disk c.sync.new.self) (λ f x lt is. only_y f x (omega (arith, lt, c.in_ok-sync.ensures.ledger.last)) is) known in
    let storing = subst (λ (b : ℕ). Leaves e (MayStore b c.args.content.now) image_y image_t) c.requires.mark (c.store.ensures.crash tells agrees) in
    then_only n e (MayStore mark_at c.args.content.now) image image_y image_t syncs_only storing (λ d x may. only_storing n c.args.content.now d x may)

pub returns-clause-knows : goal.returns-clause-knows
returns-clause-knows g c tells long knows =
    let n = c.args.count in
    let pages = c.args.pages.now in
    let bytes = g.D.Disk.bytes c.args.disk.now in
    let bytes_e = g.D.Disk.bytes c.extend_to.new.disk in
    let place : c.place_of.result ≤ length bytes = omega (arith, c.place_of.ensures, long) in
    let same = c.extend_to.ensures.bytes tells place in
    let lie : Lie pages_at pages bytes_e = lie_below n pages bytes_e c.requires.below (omega (arith, c.place_of.ensures, c.in_ok-extend_to.ensures.reaches tells)) in
    let bytes_s = g.D.Disk.bytes c.save.new.disk in
    let saved : Saves images_at pages_at c.args.from.0 c.args.from.1 pages bytes bytes_s =
    subst (λ (b : ℕ). Saves b pages_at c.args.from.0 c.args.from.1 pages bytes bytes_s) c.requires.images
    (subst (λ (l : List ℕ). Saves c.args.images.now.base pages_at c.args.from.0 c.args.from.1 pages l bytes_s) same (c.in_ok-save.ensures.saved tells lie)) in
    let bytes_y = g.D.Disk.bytes c.sync.new.self in
    let within = subst (λ (l : List ℕ). Within pages_at n pages bytes_s l) (sym c.in_ok-sync.ensures.bytes) (c.in_ok-write_pages.ensures.within tells n c.requires.below) in
    let known = knows_still c.args.mark.now n c.args.from.0 c.args.from.1 pages bytes bytes_s bytes_y c.requires.mark saved within knows in
    both_on_ok c.store.result (λ agrees stores. (agrees.now, omega (arith, saved.no_shorter, within.no_shorter, stores.no_shorter))) (c.store.ensures.agrees tells known) (c.store.ensures.stored tells known)
