use Rattle.std.proofs.Common.{◌≡◌, ◌<◌, ◌≤◌, ◌-◌, ℕ, List, sym, subst, arith}
use Rattle.site_disk.specs.Bytes.{Torn}
use Rattle.site_disk.specs.CallsLaws.{on_ok}
use Rattle.site_disk.specs.Images.{OnlyAfter}
use Rattle.gated_slots.specs.Header.{IsClosed}
use Rattle.gated_slots.specs.Slots.{Area, first_zero, end_of_gates}
use Rattle.gated_slots.specs.SlotsLaws.{used-zeroes}
use Rattle.gated_slots.specs.HeaderLaws.{closed_written, closed_zeroes, closed_elsewhere}
use Rattle.boot_file.proofs.FormatLemmas.{sync_stops, closing_stops, closed_stops}
use Rattle.boot_file.proofs.formatting.close_all.Goals as goal

pub returns-in_err-sync-clause-crash : goal.returns-in_err-sync-clause-crash
returns-in_err-sync-clause-crash g c tells = sync_stops c.args.era.now.number (g.D.Disk.image c.args.disk.now) (g.D.Disk.image c.sync.new.self) c.sync.ensures.crash

pub returns-in_err-header_close-clause-crash : goal.returns-in_err-header_close-clause-crash
returns-in_err-header_close-clause-crash g c tells =
    let e = c.args.era.now.number in
    let disk = c.args.disk.now in
    let old = g.D.Disk.image disk in
    let synced = g.D.Disk.image c.sync.new.self in
    closing_stops e old (g.D.Disk.bytes c.sync.new.self) synced (g.D.Disk.image c.header_close.new.disk)
    (sync_stops e old synced c.sync.ensures.crash) (c.in_ok-sync.ensures.durable tells)
    (λ f lt. subst (λ (l : List ℕ). old f l) (sym c.in_ok-sync.ensures.bytes) (g.met.D.Disk.reads_as disk f tells (omega (arith, lt, c.requires.era.not_past))))
    c.header_close.ensures.crash (c.header_close.ensures.still tells)

pub returns-clause-crash : goal.returns-clause-crash
returns-clause-crash g c tells =
    let e = c.args.era.now.number in
    let disk = c.args.disk.now in
    let old = g.D.Disk.image disk in
    let bytes = g.D.Disk.bytes c.sync.new.self in
    let synced = g.D.Disk.image c.sync.new.self in
    let shut = g.D.Disk.bytes c.header_close.new.disk in
    let mid = g.D.Disk.image c.header_close.new.disk in
    let only : OnlyAfter e bytes synced = c.in_ok-sync.ensures.durable tells in
    let last : (g.D.Disk.ledger c.sync.new.self).last ≡ e = c.sync.ensures.ledger.last in
    let was : (f : ℕ) → e < f → old f bytes = λ f lt. subst (λ (l : List ℕ). old f l) (sym c.in_ok-sync.ensures.bytes) (g.met.D.Disk.reads_as disk f tells (omega (arith, lt, c.requires.era.not_past))) in
    let settled = c.in_ok-header_close.ensures.durable tells (λ here h d lt later. only h d (omega (arith, lt, last)) later) in
    let closed : IsClosed shut = closed_written bytes shut (c.in_ok-header_close.ensures.written tells) in
    let area : Area = c.args.slots.now.area in
    let gates : 8192 ≤ area.gates = c.requires.gates in
    let first : ℕ = first_zero area shut in
    let some : 1 ≤ first = omega (arith, gates, closed.some) in
    closed_stops e old (Torn first (end_of_gates area - first)) bytes shut mid (g.D.Disk.image c.clear.new.disk)
    (closing_stops e old bytes synced mid (sync_stops e old synced c.sync.ensures.crash) only was c.header_close.ensures.crash (c.header_close.ensures.still tells))
    settled was (c.clear.ensures.crash tells) (λ d torn. closed_elsewhere first ((end_of_gates area) - first) shut d some closed torn.no_shorter torn.elsewhere)

pub returns-clause-closed : goal.returns-clause-closed
returns-clause-closed g c tells =
    let bytes = g.D.Disk.bytes c.sync.new.self in
    let shut = g.D.Disk.bytes c.header_close.new.disk in
    let closed : IsClosed shut = closed_written bytes shut (c.in_ok-header_close.ensures.written tells) in
    let area : Area = c.args.slots.now.area in
    let gates : 8192 ≤ area.gates = c.requires.gates in
    let first : ℕ = first_zero area shut in
    on_ok c.clear.result (closed_zeroes first (end_of_gates area) shut (g.D.Disk.bytes c.clear.new.disk) (omega (arith, gates, closed.some)) closed) (c.clear.ensures.zeros tells)

pub returns-clause-unused : goal.returns-clause-unused
returns-clause-unused g c tells =
    let shut = g.D.Disk.bytes c.header_close.new.disk in
    let area : Area = c.args.slots.now.area in
    let gates : 8192 ≤ area.gates = c.requires.gates in
    on_ok c.clear.result
    (used-zeroes area (first_zero area shut) (end_of_gates area) shut (g.D.Disk.bytes c.clear.new.disk) (omega arith) (omega arith)) (c.clear.ensures.zeros tells)

pub returns-clause-long : goal.returns-clause-long
returns-clause-long g c tells =
    let area : Area = c.args.slots.now.area in
    on_ok c.clear.result (λ zeroes. omega (arith, zeroes.long)) (c.clear.ensures.zeros tells)
