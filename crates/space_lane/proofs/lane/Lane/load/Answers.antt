use Rattle.std.proofs.Common.{◌≡◌, ◌≤◌, ℕ, List, length, refl, arith, ap, sym, subst, ◌∙◌}
use Rattle.site_disk.specs.Images.{IsSynced, OnlyAfter}
use Rattle.site_disk.specs.Seen.{seen}
use Rattle.twin_mark.specs.Marks.{Knows}
use Rattle.before_images.specs.Saved.{ImagesView, place_of}
use Rattle.lane_ways.specs.Pictures.{pages_at}
use Rattle.space_lane.specs.Chunks.{settled}
use Rattle.space_lane.specs.Stops.{MaySettle}
use Rattle.space_lane.proofs.LaneLemmas.{holds_settled, knows_settled, same_restores, settling_restores, stands_of}
use Rattle.space_lane.proofs.StateLemmas.{only_still, settled_again}
use Rattle.space_lane.proofs.lane.Lane.load.Goals as goal

pub returns-clause-bytes : goal.returns-clause-bytes
returns-clause-bytes g c tells long =
    let state = c.in_ok-state.state in
    let old = g.D.Disk.bytes c.args.self.now.disk in
    let mid = g.D.Disk.bytes c.load_state.new.disk in
    let same : mid ≡ old = c.in_ok-state.ensures.bytes in
    c.in_ok-settle.ensures.bytes tells (omega (arith, long, ap (λ (l : List ℕ). length l) same)) ∙ ap (λ (l : List ℕ). settled state c.args.pages l) same

pub returns-clause-durable : goal.returns-clause-durable
returns-clause-durable g c tells only =
    c.in_ok-settle.ensures.durable tells
    (only_still c.args.era.now.number (g.D.Disk.bytes c.args.self.now.disk) (g.D.Disk.bytes c.load_state.new.disk) (g.D.Disk.image c.args.self.now.disk) (g.D.Disk.image c.load_state.new.disk)
    only c.in_ok-state.ensures.images c.in_ok-state.ensures.bytes)

pub returns-in_err-state-clause-crash : goal.returns-in_err-state-clause-crash
returns-in_err-state-clause-crash g c tells long synced =
    same_restores c.args.pages c.args.era.now.number (g.D.Disk.image c.args.self.now.disk) (g.D.Disk.image c.load_state.new.disk) c.load_state.ensures.crash

pub returns-in_err-settle-clause-crash : goal.returns-in_err-settle-clause-crash
returns-in_err-settle-clause-crash g c tells long synced =
    let disk = c.args.self.now.disk in
    let mid = c.load_state.new.disk in
    let read = c.in_ok-state.ensures in
    let same : g.D.Disk.bytes mid ≡ g.D.Disk.bytes disk = read.bytes in
    let no_earlier : (g.D.Disk.ledger disk).last ≤ (g.D.Disk.ledger mid).last = c.load_state.ensures.ledger.no_earlier in
    let settled_now : IsSynced (seen g.D.Disk mid) = λ f b lt image. synced f b (omega (arith, lt, no_earlier)) (read.images.back f b image) ∙ sym same in
    settling_restores c.args.pages c.in_ok-state.state (seen g.D.Disk disk) c.args.era.now.number (g.D.Disk.image mid) (g.D.Disk.image c.settle.new.disk) c.requires.era.not_past synced
    (read.found tells) read.images (c.settle.ensures.crash tells (omega (arith, long, ap (λ (l : List ℕ). length l) same)) settled_now)

pub returns-clause-crash : goal.returns-clause-crash
returns-clause-crash g c tells long synced =
    let disk = c.args.self.now.disk in
    let mid = c.load_state.new.disk in
    let read = c.in_ok-state.ensures in
    let same : g.D.Disk.bytes mid ≡ g.D.Disk.bytes disk = read.bytes in
    let no_earlier : (g.D.Disk.ledger disk).last ≤ (g.D.Disk.ledger mid).last = c.load_state.ensures.ledger.no_earlier in
    let settled_now : IsSynced (seen g.D.Disk mid) = λ f b lt image. synced f b (omega (arith, lt, no_earlier)) (read.images.back f b image) ∙ sym same in
    settling_restores c.args.pages c.in_ok-state.state (seen g.D.Disk disk) c.args.era.now.number (g.D.Disk.image mid) (g.D.Disk.image c.settle.new.disk) c.requires.era.not_past synced
    (read.found tells) read.images (c.settle.ensures.crash tells (omega (arith, long, ap (λ (l : List ℕ). length l) same)) settled_now)

pub returns-clause-stands : goal.returns-clause-stands
returns-clause-stands g c tells synced site header long =
    let e : ℕ = c.args.era.now.number in
    let lane = c.args.self.now in
    let state = c.in_ok-state.state in
    let read = c.in_ok-state.ensures in
    let old = g.D.Disk.bytes lane.disk in
    let mid = g.D.Disk.bytes c.load_state.new.disk in
    let disk = seen g.D.Disk c.settle.new.disk in
    let same : mid ≡ old = read.bytes in
    let there : place_of pages_at c.args.pages ≤ length mid = omega (arith, long, ap (λ (l : List ℕ). length l) same) in
    let may : MaySettle state c.args.pages old disk.bytes = subst (λ (l : List ℕ). MaySettle state c.args.pages l disk.bytes) same (c.in_ok-settle.ensures.settled tells there) in
    let is : disk.bytes ≡ settled state c.args.pages old = c.in_ok-settle.ensures.bytes tells there ∙ ap (λ (l : List ℕ). settled state c.args.pages l) same in
    let base = c.load_state.ensures.base ∙ c.requires.made.mark in
    let known : Knows c.load_state.new.mark old = subst (λ (l : List ℕ). Knows c.load_state.new.mark l) same (read.knows tells synced) in
    let before : OnlyAfter e old (g.D.Disk.image lane.disk) = λ f b lt image. synced f b (omega (arith, lt, c.requires.era.not_past)) image in
    let only = c.in_ok-settle.ensures.durable tells
    (only_still e old mid (g.D.Disk.image lane.disk) (g.D.Disk.image c.load_state.new.disk) before read.images same) in
    stands_of site c.args.pages state e disk _
    (record { mark = base; images = ap (λ (i : ImagesView). i.base) c.settle.ensures.value ∙ c.requires.made.images })
    (record { fits = read.fits; pages_are = refl; state_is = refl })
    (knows_settled c.load_state.new.mark state c.args.pages old disk.bytes base may known)
    (holds_settled site lane.space c.args.pages state old disk.bytes header (read.found tells) long may)
    (g.met.D.Disk.now_counts c.settle.new.disk) c.settle.ensures.ledger.no_later only
    (settled_again state c.args.pages old disk.bytes may is)
