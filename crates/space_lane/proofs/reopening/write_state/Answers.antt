use Rattle.std.proofs.Common.{◌≡◌, ◌≤◌, ◌<◌, ℕ, List, length, drop, arith, ap, sym, subst, ◌∙◌}
use mathlib.Core.Logic.{inr}
use Rattle.site_disk.specs.Bytes.{Torn}
use Rattle.site_disk.specs.CallsLaws.{from_known, on_ok}
use Rattle.site_disk.specs.Images.{OnlyAfter}
use Rattle.site_disk.specs.Seen.{seen}
use Rattle.site_disk.specs.SeenLaws.{synced_after}
use Rattle.gated_slots.specs.Header.{IsClosed}
use Rattle.gated_slots.specs.HeaderLaws.{closed_elsewhere, stands_closed}
use Rattle.twin_mark.specs.Marks.{Stores}
use Rattle.lane_ways.specs.Pictures.{mark_at}
use Rattle.lane_mark.specs.Layout.{spelling}
use Rattle.space_lane.specs.Chunks.{chunk_tail}
use Rattle.space_lane.specs.Stops.{MayReopen}
use Rattle.space_lane.proofs.ClosingLemmas.{closed_torn}
use Rattle.space_lane.proofs.HeaderLemmas.{length-chunk_tail, opened_header}
use Rattle.space_lane.proofs.StateLemmas.{knows_still, never_reopens, open_reopens, page_torn, reopened, stores_from, sync_reopens}
use Rattle.space_lane.proofs.reopening.write_state.Goals as goal

pub returns-clause-knows : goal.returns-clause-knows
returns-clause-knows g c tells =
    let page : List ℕ = c.write_header.new.page in
    let mid = g.D.Disk.bytes c.format.new.disk in
    let new = g.D.Disk.bytes c.header_open.new.disk in
    let size : length page ≡ 4096 = omega arith in
    on_ok c.header_open.result
    (λ wrote. knows_still c.format.new.self mid new (c.format.ensures.base ∙ c.requires.base) ((page_torn page mid new size wrote).elsewhere mark_at 1024 (inr (omega arith)))
    (c.in_ok-format.ensures.agrees tells).now)
    (c.header_open.ensures.written tells)

pub returns-clause-reopens : goal.returns-clause-reopens
returns-clause-reopens g c tells emptied =
    let tail : List ℕ = chunk_tail c.args.site c.args.space c.args.pages in
    let page : List ℕ = c.write_header.new.page in
    let old = g.D.Disk.bytes c.args.disk.now in
    let mid = g.D.Disk.bytes c.format.new.disk in
    let new = g.D.Disk.bytes c.header_open.new.disk in
    let size : length page ≡ 4096 = omega arith in
    let same = c.in_ok-sync.ensures.bytes in
    let stores : Stores mark_at (spelling c.args.state.now) old mid =
    stores_from c.args.mark.now.base c.encode_into.new.bytes (spelling c.args.state.now) old (g.D.Disk.bytes c.sync.new.self) mid c.requires.base c.encode_into.ensures same
    (c.in_ok-format.ensures.stored tells (omega (arith, c.requires.base, ap (λ (l : List ℕ). length l) same, emptied.long))) in
    on_ok c.header_open.result
    (λ wrote.
    let torn : Torn 0 4096 mid new = page_torn page mid new size wrote in
    reopened c.args.site c.args.space c.args.pages c.args.state.now c.requires.fits old mid emptied.long emptied.none stores new
    (λ from len le. torn.elsewhere from len (inr (omega (arith, le)))) torn.no_shorter
    (opened_header tail page mid new (length-chunk_tail c.args.site c.args.space c.args.pages) size c.write_header.ensures wrote))
    (c.header_open.ensures.written tells)

pub returns-in_err-sync-clause-crash : goal.returns-in_err-sync-clause-crash
returns-in_err-sync-clause-crash g c tells emptied =
    sync_reopens c.args.site c.args.space c.args.pages c.args.state.now (g.D.Disk.bytes c.args.disk.now) (seen g.D.Disk c.args.disk.now) c.args.era.now.number (g.D.Disk.image c.sync.new.self)
    c.requires.era.not_past emptied.closed.later c.sync.ensures.crash

pub returns-in_err-format-clause-crash : goal.returns-in_err-format-clause-crash
returns-in_err-format-clause-crash g c tells emptied =
    let e : ℕ = c.args.era.now.number in
    let disk = c.args.disk.now in
    let old = g.D.Disk.bytes disk in
    let mid = g.D.Disk.bytes c.sync.new.self in
    let same : mid ≡ old = c.in_ok-sync.ensures.bytes in
    let base : ℕ = c.args.mark.now.base in
    let closed : IsClosed mid = subst IsClosed (sym same) emptied.closed.now in
    from_known (MayReopen c.args.site c.args.space c.args.pages c.args.state.now old) (Torn base 1024) e old mid (g.D.Disk.image disk) (g.D.Disk.image c.sync.new.self) (g.D.Disk.image c.format.new.disk)
    (sync_reopens c.args.site c.args.space c.args.pages c.args.state.now old (seen g.D.Disk disk) e (g.D.Disk.image c.sync.new.self) c.requires.era.not_past emptied.closed.later c.sync.ensures.crash)
    (c.in_ok-sync.ensures.durable tells) (λ f lt. g.met.D.Disk.reads_as disk f tells (omega (arith, lt, c.requires.era.not_past)))
    (c.format.ensures.crash tells (omega (arith, c.requires.base, ap (λ (l : List ℕ). length l) same, emptied.long)))
    (λ b torn. never_reopens c.args.site c.args.space c.args.pages c.args.state.now old old b (closed_torn base 1024 mid b (omega (arith, c.requires.base)) closed torn))

pub returns-clause-crash : goal.returns-clause-crash
returns-clause-crash g c tells emptied =
    let e : ℕ = c.args.era.now.number in
    let disk = c.args.disk.now in
    let was = g.D.Disk.image disk in
    let old = g.D.Disk.bytes disk in
    let mid = g.D.Disk.bytes c.sync.new.self in
    let made = c.format.new.disk in
    let formatted = g.D.Disk.bytes made in
    let same : mid ≡ old = c.in_ok-sync.ensures.bytes in
    let base : ℕ = c.args.mark.now.base in
    let within : base ≤ length mid = omega (arith, c.requires.base, ap (λ (l : List ℕ). length l) same, emptied.long) in
    let closed : IsClosed mid = subst IsClosed (sym same) emptied.closed.now in
    let stored = c.in_ok-format.ensures.stored tells within in
    let stores : Stores mark_at (spelling c.args.state.now) old formatted =
    stores_from base c.encode_into.new.bytes (spelling c.args.state.now) old mid formatted c.requires.base c.encode_into.ensures same stored in
    let only : OnlyAfter e formatted (g.D.Disk.image made) = c.in_ok-format.ensures.durable tells in
    let reads : (f : ℕ) → e < f → was f old = λ f lt. g.met.D.Disk.reads_as disk f tells (omega (arith, lt, c.requires.era.not_past)) in
    let before = from_known (MayReopen c.args.site c.args.space c.args.pages c.args.state.now old) (Torn base 1024) e old mid was (g.D.Disk.image c.sync.new.self) (g.D.Disk.image made)
    (sync_reopens c.args.site c.args.space c.args.pages c.args.state.now old (seen g.D.Disk disk) e (g.D.Disk.image c.sync.new.self) c.requires.era.not_past emptied.closed.later c.sync.ensures.crash)
    (c.in_ok-sync.ensures.durable tells) reads (c.format.ensures.crash tells within)
    (λ b torn. never_reopens c.args.site c.args.space c.args.pages c.args.state.now old old b (closed_torn base 1024 mid b (omega (arith, c.requires.base)) closed torn)) in
    let still : IsClosed formatted = closed_elsewhere base 1024 mid formatted (omega (arith, c.requires.base)) closed stored.no_shorter stored.elsewhere in
    open_reopens c.args.site c.args.space c.args.pages c.args.state.now c.requires.fits old formatted emptied.long emptied.none stores c.write_header.new.page e was (g.D.Disk.image made)
    (g.D.Disk.image c.header_open.new.disk) (ap (drop 1) c.write_header.ensures) before only reads
    (c.header_open.ensures.crash tells (stands_closed (seen g.D.Disk made)
    (synced_after (seen g.D.Disk made) e (g.met.D.Disk.now_counts made) c.format.ensures.ledger.no_later only) still))
