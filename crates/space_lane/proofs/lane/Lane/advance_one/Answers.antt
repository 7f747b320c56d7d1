use Rattle.std.proofs.Common.{◌≡◌, ◌∙◌, ◌≤◌, ℕ, length, map, refl, sym, ap, arith, subst}
use Rattle.site_disk.specs.Images.{Leaves}
use Rattle.site_disk.specs.Seen.{seen}
use Rattle.txn_table.specs.Table.{change_of}
use Rattle.backup_lines.specs.declared.lanes.LaneState.{LaneState}
use Rattle.before_images.specs.Saved.{ImagesView, place_of}
use Rattle.lane_ways.specs.Pictures.{Stand, pages_at}
use Rattle.lane_mark.specs.Layout.{FitsState}
use Rattle.lane_ways.specs.Ways.{Place, lane_pages}
use Rattle.lane_steps.specs.Moves.{Rests}
use Rattle.lane_advance.specs.Advances.{GoesTo, Leads, MayAdvance}
use Rattle.lane_advance.specs.Places.{picture_at, with_place}
use Rattle.lane_advance.proofs.DiskLemmas.{length-lane_pages}
use Rattle.space_lane.proofs.AdvanceLemmas.{IsAt, moved_at, one_place, place, rests_at, stands_as, through}
use Rattle.space_lane.proofs.lane.Lane.advance_one.Goals as goal

pub returns-in_err-place-clause-crash : goal.returns-in_err-place-clause-crash
returns-in_err-place-clause-crash g c tells history n site count upto part state at leads stands stand =
    let lane = c.args.self.now in
    let space : ℕ = lane.space in
    let bytes = g.D.Disk.bytes lane.disk in
    let list = map change_of c.args.changes.now in
    let old = seen g.D.Disk lane.disk in
    let to : ℕ = c.args.to in
    let from = c.in-Some.from in
    let counts : lane.pages ≡ count = stands.agrees.tells.pages_are in
    let states : lane.state ≡ state = stands.agrees.tells.state_is in
    let places : place from.0 from.1 ≡ place upto part = one_place state from.0 from.1 upto part (subst (λ (s : LaneState). IsAt s from.0 from.1) states c.in-Some.ensures) at in
    let leads_so : Leads history n space lane.pages to from.0 from.1 list =
    through (λ (k : ℕ) (s : LaneState) (p : Place). Leads history n space k to p.upto p.part list) count lane.pages state lane.state (place upto part) (place from.0 from.1)
    (sym counts) (sym states) (sym places) leads in
    let rests_so : Rests (picture_at history n space lane.pages lane.state from.0 from.1 bytes) lane.mark old =
    through (λ (k : ℕ) (s : LaneState) (p : Place). Rests (picture_at history n space k s p.upto p.part bytes) lane.mark old) count lane.pages state lane.state (place upto part) (place from.0 from.1)
    (sym counts) (sym states) (sym places)
    (rests_at lane site count state (lane_pages history n space upto part count) (length-lane_pages history n space upto part count) upto part old at stands stand) in
    through (λ (k : ℕ) (s : LaneState) (p : Place). Leaves c.args.era.now.number (MayAdvance history n space k s p.upto p.part bytes) (g.D.Disk.image lane.disk) (g.D.Disk.image c.advance_step.new.disk))
    lane.pages count lane.state state (place from.0 from.1) (place upto part) counts states places (c.advance_step.ensures.crash tells history n bytes leads_so rests_so)

pub returns-clause-crash : goal.returns-clause-crash
returns-clause-crash g c tells history n site count upto part state at leads stands stand =
    let lane = c.args.self.now in
    let space : ℕ = lane.space in
    let bytes = g.D.Disk.bytes lane.disk in
    let list = map change_of c.args.changes.now in
    let old = seen g.D.Disk lane.disk in
    let to : ℕ = c.args.to in
    let from = c.in-Some.from in
    let counts : lane.pages ≡ count = stands.agrees.tells.pages_are in
    let states : lane.state ≡ state = stands.agrees.tells.state_is in
    let places : place from.0 from.1 ≡ place upto part = one_place state from.0 from.1 upto part (subst (λ (s : LaneState). IsAt s from.0 from.1) states c.in-Some.ensures) at in
    let leads_so : Leads history n space lane.pages to from.0 from.1 list =
    through (λ (k : ℕ) (s : LaneState) (p : Place). Leads history n space k to p.upto p.part list) count lane.pages state lane.state (place upto part) (place from.0 from.1)
    (sym counts) (sym states) (sym places) leads in
    let rests_so : Rests (picture_at history n space lane.pages lane.state from.0 from.1 bytes) lane.mark old =
    through (λ (k : ℕ) (s : LaneState) (p : Place). Rests (picture_at history n space k s p.upto p.part bytes) lane.mark old) count lane.pages state lane.state (place upto part) (place from.0 from.1)
    (sym counts) (sym states) (sym places)
    (rests_at lane site count state (lane_pages history n space upto part count) (length-lane_pages history n space upto part count) upto part old at stands stand) in
    through (λ (k : ℕ) (s : LaneState) (p : Place). Leaves c.args.era.now.number (MayAdvance history n space k s p.upto p.part bytes) (g.D.Disk.image lane.disk) (g.D.Disk.image c.advance_step.new.disk))
    lane.pages count lane.state state (place from.0 from.1) (place upto part) counts states places (c.advance_step.ensures.crash tells history n bytes leads_so rests_so)

pub returns-clause-goes : goal.returns-clause-goes
returns-clause-goes g c history n upto part at leads =
    let lane = c.args.self.now in
    let space : ℕ = lane.space in
    let list = map change_of c.args.changes.now in
    let to : ℕ = c.args.to in
    let from = c.in-Some.from in
    let then_upto : ℕ = c.in_ok-place.place.0 in
    let then_part : ℕ = c.in_ok-place.place.1 in
    let places : place from.0 from.1 ≡ place upto part = one_place lane.state from.0 from.1 upto part c.in-Some.ensures at in
    let leads_so : Leads history n space lane.pages to from.0 from.1 list = subst (λ (p : Place). Leads history n space lane.pages to p.upto p.part list) (sym places) leads in
    record {
      further = then_upto;
      later = then_part;
      goes = subst (λ (p : Place). GoesTo history n space lane.pages to p.upto p.part list then_upto then_part) places (c.in_ok-place.ensures.goes history n leads_so);
      state = c.with_place-self.ensures.state;
      there = c.is_short-more.ensures.there;
      short = c.is_short-more.ensures.short;
    }

pub returns-clause-pages : goal.returns-clause-pages
returns-clause-pages g c tells history n site count upto part further more state at leads stands stand there =
    let lane = c.args.self.now in
    let space : ℕ = lane.space in
    let bytes = g.D.Disk.bytes lane.disk in
    let list = map change_of c.args.changes.now in
    let old = seen g.D.Disk lane.disk in
    let to : ℕ = c.args.to in
    let from = c.in-Some.from in
    let counts : lane.pages ≡ count = stands.agrees.tells.pages_are in
    let states : lane.state ≡ state = stands.agrees.tells.state_is in
    let places : place from.0 from.1 ≡ place upto part = one_place state from.0 from.1 upto part (subst (λ (s : LaneState). IsAt s from.0 from.1) states c.in-Some.ensures) at in
    let leads_so : Leads history n space lane.pages to from.0 from.1 list =
    through (λ (k : ℕ) (s : LaneState) (p : Place). Leads history n space k to p.upto p.part list) count lane.pages state lane.state (place upto part) (place from.0 from.1)
    (sym counts) (sym states) (sym places) leads in
    let rests_so : Rests (picture_at history n space lane.pages lane.state from.0 from.1 bytes) lane.mark old =
    through (λ (k : ℕ) (s : LaneState) (p : Place). Rests (picture_at history n space k s p.upto p.part bytes) lane.mark old) count lane.pages state lane.state (place upto part) (place from.0 from.1)
    (sym counts) (sym states) (sym places)
    (rests_at lane site count state (lane_pages history n space upto part count) (length-lane_pages history n space upto part count) upto part old at stands stand) in
    let new = seen g.D.Disk c.advance_step.new.disk in
    let then_upto : ℕ = c.in_ok-place.place.0 in
    let then_part : ℕ = c.in_ok-place.place.1 in
    let rests : Rests (picture_at history n space count state then_upto then_part bytes) c.advance_step.new.mark new =
    through (λ (k : ℕ) (s : LaneState) (p : Place). Rests (picture_at history n space k s p.upto p.part bytes) c.advance_step.new.mark new) lane.pages count lane.state state
    (place then_upto then_part) (place then_upto then_part) counts states refl (c.in_ok-place.ensures.rests tells history n bytes leads_so rests_so) in
    let state_is : c.with_place-self.result ≡ with_place state then_upto then_part = c.with_place-self.ensures.state ∙ ap (λ (s : LaneState). with_place s then_upto then_part) states in
    let same : place then_upto then_part ≡ place further more =
    one_place (with_place state then_upto then_part) then_upto then_part further more (moved_at state upto part then_upto then_part at) (subst (λ (s : LaneState). IsAt s further more) state_is there) in
    subst (λ (p : Place). Stand space 0 (lane_pages history n space p.upto p.part count) new.bytes) same rests.plain

pub returns-clause-stands : goal.returns-clause-stands
returns-clause-stands g c tells history n site count upto part state at leads stands stand =
    let lane = c.args.self.now in
    let space : ℕ = lane.space in
    let bytes = g.D.Disk.bytes lane.disk in
    let list = map change_of c.args.changes.now in
    let old = seen g.D.Disk lane.disk in
    let to : ℕ = c.args.to in
    let from = c.in-Some.from in
    let counts : lane.pages ≡ count = stands.agrees.tells.pages_are in
    let states : lane.state ≡ state = stands.agrees.tells.state_is in
    let places : place from.0 from.1 ≡ place upto part = one_place state from.0 from.1 upto part (subst (λ (s : LaneState). IsAt s from.0 from.1) states c.in-Some.ensures) at in
    let leads_so : Leads history n space lane.pages to from.0 from.1 list =
    through (λ (k : ℕ) (s : LaneState) (p : Place). Leads history n space k to p.upto p.part list) count lane.pages state lane.state (place upto part) (place from.0 from.1)
    (sym counts) (sym states) (sym places) leads in
    let rests_so : Rests (picture_at history n space lane.pages lane.state from.0 from.1 bytes) lane.mark old =
    through (λ (k : ℕ) (s : LaneState) (p : Place). Rests (picture_at history n space k s p.upto p.part bytes) lane.mark old) count lane.pages state lane.state (place upto part) (place from.0 from.1)
    (sym counts) (sym states) (sym places)
    (rests_at lane site count state (lane_pages history n space upto part count) (length-lane_pages history n space upto part count) upto part old at stands stand) in
    let new = seen g.D.Disk c.advance_step.new.disk in
    let then_upto : ℕ = c.in_ok-place.place.0 in
    let then_part : ℕ = c.in_ok-place.place.1 in
    let rests : Rests (picture_at history n space count state then_upto then_part bytes) c.advance_step.new.mark new =
    through (λ (k : ℕ) (s : LaneState) (p : Place). Rests (picture_at history n space k s p.upto p.part bytes) c.advance_step.new.mark new) lane.pages count lane.state state
    (place then_upto then_part) (place then_upto then_part) counts states refl (c.in_ok-place.ensures.rests tells history n bytes leads_so rests_so) in
    let state_is : c.with_place-self.result ≡ with_place state then_upto then_part = c.with_place-self.ensures.state ∙ ap (λ (s : LaneState). with_place s then_upto then_part) states in
    stands_as _ site count state c.with_place-self.result (lane_pages history n space then_upto then_part count) then_upto then_part bytes new state_is
    (length-lane_pages history n space then_upto then_part count)
    (record { mark = c.advance_step.ensures.base ∙ c.requires.opened.made.mark; images = ap (λ (i : ImagesView). i.base) c.advance_step.ensures.images ∙ c.requires.opened.made.images })
    (record { fits = subst FitsState state_is (c.with_place-self.ensures.fits c.requires.opened.fits (omega (arith, c.in_ok-place.ensures.within, c.requires.to))); pages_are = counts; state_is = state_is })
    stands.agrees.holds.header rests

pub returns-clause-bound : goal.returns-clause-bound
returns-clause-bound g c tells site count state agrees =
    c.advance_step.ensures.bound tells (subst (λ (k : ℕ). place_of pages_at k ≤ length (g.D.Disk.bytes c.args.self.now.disk)) (sym agrees.tells.pages_are) agrees.holds.long) agrees.knows

pub returns-in_err-place-clause-bound : goal.returns-in_err-place-clause-bound
returns-in_err-place-clause-bound g c tells site count state agrees =
    c.advance_step.ensures.bound tells (subst (λ (k : ℕ). place_of pages_at k ≤ length (g.D.Disk.bytes c.args.self.now.disk)) (sym agrees.tells.pages_are) agrees.holds.long) agrees.knows
