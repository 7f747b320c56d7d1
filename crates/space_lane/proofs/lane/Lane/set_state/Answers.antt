use Rattle.std.proofs.Common.{◌≤◌, ℕ, length, refl, arith, ap, ◌∙◌}
use Rattle.site_disk.specs.Seen.{seen}
use Rattle.before_images.specs.Saved.{ImagesView, place_of}
use Rattle.lane_ways.specs.Pictures.{pages_at}
use Rattle.space_lane.proofs.LaneLemmas.{stands_of}
use Rattle.space_lane.proofs.StateLemmas.{holds_set, settled_none}
use Rattle.space_lane.proofs.lane.Lane.set_state.Goals as goal

within : (count len : ℕ) → place_of pages_at count ≤ len → pages_at ≤ len
within count len le = omega (arith, le)

pub returns-clause-stands : goal.returns-clause-stands
returns-clause-stands g c tells site count before agrees =
    let lane = c.args.self.now in
    let disk = seen g.D.Disk c.store_state.new.disk in
    let old = g.D.Disk.bytes lane.disk in
    let long : pages_at ≤ length old = within count (length old) agrees.holds.long in
    let is = c.in_ok-store_state.ensures.stored tells agrees.knows long in
    stands_of site count c.args.state.now c.args.era.now.number disk _
    (record { mark = c.store_state.ensures.base ∙ agrees.made.mark; images = ap (λ (i : ImagesView). i.base) c.store_state.ensures.images ∙ c.requires.opened.made.images })
    (record { fits = c.requires.fits; pages_are = agrees.tells.pages_are; state_is = refl })
    (c.in_ok-store_state.ensures.knows tells agrees.knows long)
    (holds_set site lane.space count before c.args.state.now old disk.bytes c.requires.fits agrees.holds is)
    (g.met.D.Disk.now_counts c.store_state.new.disk) c.store_state.ensures.ledger.no_later (c.in_ok-store_state.ensures.durable tells)
    (settled_none c.args.state.now count disk.bytes is.none)

pub returns-clause-pages : goal.returns-clause-pages
returns-clause-pages g c tells site count before agrees =
    let old = g.D.Disk.bytes c.args.self.now.disk in
    (c.in_ok-store_state.ensures.stored tells agrees.knows (within count (length old) agrees.holds.long)).pages

pub returns-clause-crash : goal.returns-clause-crash
returns-clause-crash g c tells site count before agrees =
    let old = g.D.Disk.bytes c.args.self.now.disk in
    c.store_state.ensures.crash tells agrees.knows (within count (length old) agrees.holds.long)

pub returns-in_err-store_state-clause-crash : goal.returns-in_err-store_state-clause-crash
returns-in_err-store_state-clause-crash g c tells site count before agrees =
    let old = g.D.Disk.bytes c.args.self.now.disk in
    c.store_state.ensures.crash tells agrees.knows (within count (length old) agrees.holds.long)

pub returns-clause-bound : goal.returns-clause-bound
returns-clause-bound g c tells site count before agrees =
    let old = g.D.Disk.bytes c.args.self.now.disk in
    c.store_state.ensures.bound tells agrees.knows (within count (length old) agrees.holds.long)

pub returns-in_err-store_state-clause-bound : goal.returns-in_err-store_state-clause-bound
returns-in_err-store_state-clause-bound g c tells site count before agrees =
    let old = g.D.Disk.bytes c.args.self.now.disk in
    c.store_state.ensures.bound tells agrees.knows (within count (length old) agrees.holds.long)
