use Rattle.std.proofs.Common.{◌≡◌, ◌≤◌, ◌<◌, ℕ, List, length, arith, ap, ◌∙◌}
use mathlib.Core.Logic.{inl}
use Rattle.site_disk.specs.CallsLaws.{on_ok}
use Rattle.site_disk.specs.GatesLaws.{gate_synced}
use Rattle.site_disk.specs.Images.{IsSynced, OnlyAfter}
use Rattle.site_disk.specs.Seen.{seen}
use Rattle.site_disk.specs.SeenLaws.{synced_after}
use Rattle.twin_mark.specs.Marks.{Knows}
use Rattle.twin_mark.specs.MarksLaws.{agrees_synced}
use Rattle.before_images.specs.Saved.{Drops}
use Rattle.lane_ways.specs.Pictures.{images_at, mark_at}
use Rattle.lane_mark.specs.Layout.{spelling}
use Rattle.space_lane.proofs.StateLemmas.{drop_sets, drops_here, is_set, knows_still, may_drop_here, may_store_here, store_sets, stores_here, sync_sets}
use Rattle.space_lane.proofs.states.store_state.Goals as goal

pub returns-clause-stored : goal.returns-clause-stored
returns-clause-stored g c tells knows long =
    let old = g.D.Disk.bytes c.args.disk.now in
    let mid = g.D.Disk.bytes c.sync.new.self in
    let dropped = g.D.Disk.bytes c.drop_all.new.disk in
    let new = g.D.Disk.bytes c.store.new.disk in
    let same : mid ≡ old = c.in_ok-sync.ensures.bytes in
    let within : c.args.images.now.base ≤ length mid = omega (arith, c.requires.images, ap (λ (l : List ℕ). length l) same, long) in
    let drops : Drops images_at old dropped = drops_here c.args.images.now.base old mid dropped c.requires.images same (c.in_ok-drop_all.ensures.dropped tells within) in
    let known : Knows c.args.mark.now dropped = knows_still c.args.mark.now old dropped c.requires.base (drops.elsewhere mark_at 1024 (inl (omega arith))) knows in
    on_ok c.store.result
    (λ stores. is_set (spelling c.args.state.now) old dropped new drops (stores_here c.args.mark.now.base c.encode_into.new.bytes (spelling c.args.state.now) dropped new c.requires.base c.encode_into.ensures stores))
    (c.store.ensures.stored tells known)

pub returns-clause-knows : goal.returns-clause-knows
returns-clause-knows g c tells knows long =
    let old = g.D.Disk.bytes c.args.disk.now in
    let mid = g.D.Disk.bytes c.sync.new.self in
    let dropped = g.D.Disk.bytes c.drop_all.new.disk in
    let same : mid ≡ old = c.in_ok-sync.ensures.bytes in
    let within : c.args.images.now.base ≤ length mid = omega (arith, c.requires.images, ap (λ (l : List ℕ). length l) same, long) in
    let drops : Drops images_at old dropped = drops_here c.args.images.now.base old mid dropped c.requires.images same (c.in_ok-drop_all.ensures.dropped tells within) in
    let known : Knows c.args.mark.now dropped = knows_still c.args.mark.now old dropped c.requires.base (drops.elsewhere mark_at 1024 (inl (omega arith))) knows in
    on_ok c.store.result (λ agrees. agrees.now) (c.store.ensures.agrees tells known)

pub returns-clause-bound : goal.returns-clause-bound
returns-clause-bound g c tells knows long =
    let old = g.D.Disk.bytes c.args.disk.now in
    let mid = g.D.Disk.bytes c.sync.new.self in
    let dropped = g.D.Disk.bytes c.drop_all.new.disk in
    let same : mid ≡ old = c.in_ok-sync.ensures.bytes in
    let within : c.args.images.now.base ≤ length mid = omega (arith, c.requires.images, ap (λ (l : List ℕ). length l) same, long) in
    let drops : Drops images_at old dropped = drops_here c.args.images.now.base old mid dropped c.requires.images same (c.in_ok-drop_all.ensures.dropped tells within) in
    let known : Knows c.args.mark.now dropped = knows_still c.args.mark.now old dropped c.requires.base (drops.elsewhere mark_at 1024 (inl (omega arith))) knows in
    omega (arith, c.sync.ensures.ledger.written, c.drop_all.ensures.bound tells within, c.store.ensures.bound tells known)

pub returns-in_err-drop_all-clause-bound : goal.returns-in_err-drop_all-clause-bound
returns-in_err-drop_all-clause-bound g c tells knows long =
    let same : g.D.Disk.bytes c.sync.new.self ≡ g.D.Disk.bytes c.args.disk.now = c.in_ok-sync.ensures.bytes in
    let within : c.args.images.now.base ≤ length (g.D.Disk.bytes c.sync.new.self) = omega (arith, c.requires.images, ap (λ (l : List ℕ). length l) same, long) in
    omega (arith, c.sync.ensures.ledger.written, c.drop_all.ensures.bound tells within)

pub returns-in_err-sync-clause-crash : goal.returns-in_err-sync-clause-crash
returns-in_err-sync-clause-crash g c tells knows long =
    sync_sets c.args.state.now (g.D.Disk.bytes c.args.disk.now) c.args.era.now.number (g.D.Disk.image c.args.disk.now) (g.D.Disk.image c.sync.new.self) c.sync.ensures.crash

pub returns-in_err-drop_all-clause-crash : goal.returns-in_err-drop_all-clause-crash
returns-in_err-drop_all-clause-crash g c tells knows long =
    let e : ℕ = c.args.era.now.number in
    let disk = c.args.disk.now in
    let old = g.D.Disk.bytes disk in
    let mid = g.D.Disk.bytes c.sync.new.self in
    let images = g.D.Disk.image c.sync.new.self in
    let same : mid ≡ old = c.in_ok-sync.ensures.bytes in
    let last : (g.D.Disk.ledger c.sync.new.self).last ≡ e = c.sync.ensures.ledger.last in
    let only = c.in_ok-sync.ensures.durable tells in
    let base = c.args.images.now.base in
    drop_sets c.args.state.now old e (g.D.Disk.image disk) images (g.D.Disk.image c.drop_all.new.disk)
    (sync_sets c.args.state.now old e (g.D.Disk.image disk) images c.sync.ensures.crash) (λ f b lt image. only f b lt image ∙ same)
    (λ f lt. g.met.D.Disk.reads_as disk f tells (omega (arith, lt, c.requires.era.not_past)))
    (may_drop_here base e images (g.D.Disk.image c.drop_all.new.disk) c.requires.images
    (c.drop_all.ensures.crash tells (omega (arith, c.requires.images, ap (λ (l : List ℕ). length l) same, long))
    (gate_synced base (seen g.D.Disk c.sync.new.self) (λ f b lt image. only f b (omega (arith, lt, last)) image))))

pub returns-clause-crash : goal.returns-clause-crash
returns-clause-crash g c tells knows long =
    let e : ℕ = c.args.era.now.number in
    let disk = c.args.disk.now in
    let old = g.D.Disk.bytes disk in
    let was = g.D.Disk.image disk in
    let mid = g.D.Disk.bytes c.sync.new.self in
    let images = g.D.Disk.image c.sync.new.self in
    let dropped = g.D.Disk.bytes c.drop_all.new.disk in
    let third = g.D.Disk.image c.drop_all.new.disk in
    let same : mid ≡ old = c.in_ok-sync.ensures.bytes in
    let last : (g.D.Disk.ledger c.sync.new.self).last ≡ e = c.sync.ensures.ledger.last in
    let only = c.in_ok-sync.ensures.durable tells in
    let synced : IsSynced (seen g.D.Disk c.sync.new.self) = λ f b lt image. only f b (omega (arith, lt, last)) image in
    let base : ℕ = c.args.images.now.base in
    let within : base < length mid = omega (arith, c.requires.images, ap (λ (l : List ℕ). length l) same, long) in
    let drops : Drops images_at old dropped = drops_here base old mid dropped c.requires.images same (c.in_ok-drop_all.ensures.dropped tells (omega (arith, within))) in
    let known : Knows c.args.mark.now dropped = knows_still c.args.mark.now old dropped c.requires.base (drops.elsewhere mark_at 1024 (inl (omega arith))) knows in
    let settled : OnlyAfter e dropped third = c.in_ok-drop_all.ensures.durable tells (omega (arith, within)) synced in
    let reads : (f : ℕ) → e < f → was f old = λ f lt. g.met.D.Disk.reads_as disk f tells (omega (arith, lt, c.requires.era.not_past)) in
    let before = drop_sets c.args.state.now old e was images third (sync_sets c.args.state.now old e was images c.sync.ensures.crash) (λ f b lt image. only f b lt image ∙ same) reads
    (may_drop_here base e images third c.requires.images (c.drop_all.ensures.crash tells within (gate_synced base (seen g.D.Disk c.sync.new.self) synced))) in
    store_sets c.args.state.now old e was dropped third (g.D.Disk.image c.store.new.disk) drops before settled reads
    (may_store_here c.args.mark.now.base c.encode_into.new.bytes (spelling c.args.state.now) e third (g.D.Disk.image c.store.new.disk) c.requires.base c.encode_into.ensures
    (c.store.ensures.crash tells (agrees_synced c.args.mark.now (seen g.D.Disk c.drop_all.new.disk)
    (synced_after (seen g.D.Disk c.drop_all.new.disk) e (g.met.D.Disk.now_counts c.drop_all.new.disk) c.drop_all.ensures.ledger.no_later settled) known)))
