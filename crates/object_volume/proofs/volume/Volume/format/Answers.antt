use Rattle.std.proofs.Common.{◌≡◌, ◌∷◌, ◌∙◌, ◌<◌, ap, List, ℕ, drop, arith, subst, sym}
use Rattle.site_disk.specs.Bytes.{written}
use Rattle.site_disk.specs.CallsLaws.{on_ok}
use Rattle.site_disk.specs.Images.{OnlyAfter}
use Rattle.gated_slots.specs.Header.{IsClosed}
use Rattle.site_headers.specs.Headers.{volume_tail}
use Rattle.object_volume.proofs.EndingLemmas.{header_written, volume_written}
use Rattle.object_volume.proofs.FormattingLemmas.{sync_stops, closing_stops, opening_stops, leaves_blank_or_whole}
use Rattle.object_volume.proofs.volume.Volume.format.Goals as goal

pub returns-clause-written : goal.returns-clause-written
returns-clause-written g c tells =
    let closed = g.D.Disk.bytes c.header_close.new.disk in
    let tail = volume_tail c.args.self.now.number c.args.site c.args.blocks in
    on_ok c.header_open.result
    (λ wrote. wrote ∙ ap (λ (l : List ℕ). written 0 (1 ∷ l) closed) (ap (drop 1) c.write_volume_header.ensures)
    ∙ header_written tail closed (g.D.Disk.bytes c.sync.new.self) (c.in_ok-header_close.ensures.written tells)
    ∙ ap (λ (l : List ℕ). written 0 (1 ∷ tail) l) c.in_ok-sync.ensures.bytes)
    (c.header_open.ensures.written tells)

pub returns-clause-header : goal.returns-clause-header
returns-clause-header g c tells =
    on_ok c.header_open.result
    (volume_written c.args.self.now.number c.args.site c.args.blocks (g.D.Disk.bytes c.args.self.now.disk) (g.D.Disk.bytes c.header_open.new.disk) c.requires.size)
    (returns-clause-written g c tells)

pub returns-in_err-sync-clause-crash : goal.returns-in_err-sync-clause-crash
returns-in_err-sync-clause-crash g c tells =
    sync_stops (volume_tail c.args.self.now.number c.args.site c.args.blocks) c.args.era.now.number (g.D.Disk.image c.args.self.now.disk) (g.D.Disk.image c.sync.new.self) c.sync.ensures.crash

pub returns-in_err-header_close-clause-crash : goal.returns-in_err-header_close-clause-crash
returns-in_err-header_close-clause-crash g c tells =
    let e = c.args.era.now.number in
    let tail = volume_tail c.args.self.now.number c.args.site c.args.blocks in
    let disk = c.args.self.now.disk in
    let old = g.D.Disk.image disk in
    let synced = g.D.Disk.image c.sync.new.self in
    closing_stops tail e old (g.D.Disk.bytes c.sync.new.self) synced (g.D.Disk.image c.header_close.new.disk)
    (sync_stops tail e old synced c.sync.ensures.crash) (c.in_ok-sync.ensures.durable tells)
    (λ f lt. subst (λ (l : List ℕ). old f l) (sym c.in_ok-sync.ensures.bytes) (g.met.D.Disk.reads_as disk f tells (omega (arith, lt, c.requires.era.not_past))))
    c.header_close.ensures.crash (c.header_close.ensures.still tells)

pub returns-clause-crash : goal.returns-clause-crash
returns-clause-crash g c tells =
    let e = c.args.era.now.number in
    let tail = volume_tail c.args.self.now.number c.args.site c.args.blocks in
    let disk = c.args.self.now.disk in
    let old = g.D.Disk.image disk in
    let bytes = g.D.Disk.bytes c.sync.new.self in
    let synced = g.D.Disk.image c.sync.new.self in
    let closed = g.D.Disk.image c.header_close.new.disk in
    let only : OnlyAfter e bytes synced = c.in_ok-sync.ensures.durable tells in
    let last : (g.D.Disk.ledger c.sync.new.self).last ≡ e = c.sync.ensures.ledger.last in
    let was : (f : ℕ) → e < f → old f bytes = λ f lt. subst (λ (l : List ℕ). old f l) (sym c.in_ok-sync.ensures.bytes) (g.met.D.Disk.reads_as disk f tells (omega (arith, lt, c.requires.era.not_past))) in
    let stands = c.in_ok-header_close.ensures.closed tells (λ shut h d lt later. subst IsClosed (sym (only h d (omega (arith, lt, last)) later)) shut) in
    let settled = c.in_ok-header_close.ensures.durable tells (λ shut h d lt later. only h d (omega (arith, lt, last)) later) in
    opening_stops tail e old c.write_volume_header.new.page bytes (g.D.Disk.bytes c.header_close.new.disk) closed (g.D.Disk.image c.header_open.new.disk)
    (closing_stops tail e old bytes synced closed (sync_stops tail e old synced c.sync.ensures.crash) only was c.header_close.ensures.crash (c.header_close.ensures.still tells))
    settled was (ap (drop 1) c.write_volume_header.ensures) (c.in_ok-header_close.ensures.written tells) (c.header_open.ensures.crash tells stands)

pub returns-in_err-sync-clause-blank_or_whole : goal.returns-in_err-sync-clause-blank_or_whole
returns-in_err-sync-clause-blank_or_whole g c tells =
    leaves_blank_or_whole c.args.self.now.number c.args.site c.args.blocks c.requires.size c.args.era.now.number
    (g.D.Disk.image c.args.self.now.disk) (g.D.Disk.image c.sync.new.self) (returns-in_err-sync-clause-crash g c tells)
    (λ f b lt later. g.met.D.Disk.now_counts c.args.self.now.disk c.args.era.now.number f b c.requires.era.not_past (omega (arith, lt, c.requires.era.not_past)) later)

pub returns-in_err-header_close-clause-blank_or_whole : goal.returns-in_err-header_close-clause-blank_or_whole
returns-in_err-header_close-clause-blank_or_whole g c tells =
    leaves_blank_or_whole c.args.self.now.number c.args.site c.args.blocks c.requires.size c.args.era.now.number
    (g.D.Disk.image c.args.self.now.disk) (g.D.Disk.image c.header_close.new.disk) (returns-in_err-header_close-clause-crash g c tells)
    (λ f b lt later. g.met.D.Disk.now_counts c.args.self.now.disk c.args.era.now.number f b c.requires.era.not_past (omega (arith, lt, c.requires.era.not_past)) later)

pub returns-clause-blank_or_whole : goal.returns-clause-blank_or_whole
returns-clause-blank_or_whole g c tells =
    leaves_blank_or_whole c.args.self.now.number c.args.site c.args.blocks c.requires.size c.args.era.now.number
    (g.D.Disk.image c.args.self.now.disk) (g.D.Disk.image c.header_open.new.disk) (returns-clause-crash g c tells)
    (λ f b lt later. g.met.D.Disk.now_counts c.args.self.now.disk c.args.era.now.number f b c.requires.era.not_past (omega (arith, lt, c.requires.era.not_past)) later)
