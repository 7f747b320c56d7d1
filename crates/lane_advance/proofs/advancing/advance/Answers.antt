use Rattle.std.proofs.Common.{◌∙◌, ℕ, List, length, map, refl, sym, ap, subst, arith}
use Rattle.std.specs.Prelude.{OnOk}
use Rattle.std.proofs.lemmas.List.{length-map}
use Rattle.site_disk.specs.CallsLaws.{may_use_again}
use Rattle.site_disk.specs.Images.{Leaves}
use Rattle.site_disk.specs.Seen.{seen}
use Rattle.log_history.specs.Effects.{Page}
use Rattle.txn_table.specs.Table.{change_of}
use Rattle.before_images.specs.Saved.{ImagesView}
use Rattle.lane_ways.specs.Ways.{lane_pages}
use Rattle.lane_steps.specs.Moves.{Moves, Rests}
use Rattle.lane_advance.specs.Places.{picture_at, picture_of, with_place}
use Rattle.lane_advance.proofs.DiskLemmas.{advance_again, advance_moves, advance_none}
use Rattle.lane_advance.proofs.LoopLemmas.{cause_again, cause_of, uses_cut, uses_end, uses_first, uses_step}
use Rattle.lane_advance.proofs.WayLemmas.{at_end}
use Rattle.lane_advance.proofs.advancing.advance.Goals as goal

pub loop-init : goal.loop-init
loop-init g c =
    let progress = c.begin-progress.result in
    let image = g.D.Disk.image c.args.disk.now in
    record {
      images = refl;
      so_far = record {
        within = omega (arith, c.begin-progress.ensures.within, length-map c.args.changes.now change_of);
        base = refl;
        under_way = λ history n leads. c.begin-progress.ensures.under_way history n c.args.to leads;
        rests = λ tells history n first leads rests.
            subst (λ (u : ℕ). Rests (picture_at history n c.args.space c.args.count c.args.state.now u progress.part first) c.args.mark.now (seen g.D.Disk c.args.disk.now)) (sym c.begin-progress.ensures.upto)
            (subst (λ (p : ℕ). Rests (picture_at history n c.args.space c.args.count c.args.state.now c.args.from.0 p first) c.args.mark.now (seen g.D.Disk c.args.disk.now)) (sym c.begin-progress.ensures.part) rests);
        crash = λ tells history n first leads rests.
            advance_none history n c.args.space c.args.count c.args.state.now c.args.from.0 c.args.from.1 first c.args.era.now.number image image image c.args.from.0 c.args.from.1 (g.D.Disk.bytes c.args.disk.now)
            leads.place (omega arith, λ same. omega arith) (λ f b lt is. rests.synced f b (omega (arith, lt, c.requires.era.not_past)) is) rests.shows;
        durable = λ tells only. only;
        uses = uses_first c.args.count progress.taken c.requires.era;
        bound = λ tells long knows. record { long = long; knows = knows; written = omega arith };
      };
    }

pub advance_one-requires-clause-era : goal.advance_one-requires-clause-era
advance_one-requires-clause-era g c = may_use_again c.requires.era c.loop.invariant.so_far.uses

pub advance_one-requires-clause-images : goal.advance_one-requires-clause-images
advance_one-requires-clause-images g c = ap (λ (i : ImagesView). i.base) c.loop.invariant.images ∙ c.requires.images

pub advance_one-requires-clause-mark : goal.advance_one-requires-clause-mark
advance_one-requires-clause-mark g c = c.loop.invariant.so_far.base ∙ c.requires.mark

pub advance_one-requires-clause-within : goal.advance_one-requires-clause-within
advance_one-requires-clause-within g c = omega (arith, c.loop.invariant.so_far.within, length-map c.args.changes.now change_of)

pub returns-in_err-advance_one-clause-images : goal.returns-in_err-advance_one-clause-images
returns-in_err-advance_one-clause-images g c = c.advance_one.ensures.images ∙ c.loop.invariant.images

pub returns-in_err-advance_one-clause-base : goal.returns-in_err-advance_one-clause-base
returns-in_err-advance_one-clause-base g c = c.advance_one.ensures.base ∙ c.loop.invariant.so_far.base

pub returns-in_err-advance_one-clause-crash : goal.returns-in_err-advance_one-clause-crash
returns-in_err-advance_one-clause-crash g c tells history n first leads rests =
    let so_far = c.loop.invariant.so_far in
    let under = so_far.under_way history n leads in
    advance_again history n c.args.space c.args.count c.args.state.now c.args.from.0 c.args.from.1 first c.args.era.now.number
    (g.D.Disk.image c.args.disk.now) (g.D.Disk.image c.loop.disk) (g.D.Disk.image c.advance_one.new.disk) (so_far.crash tells history n first leads rests)
    (c.advance_one.ensures.crash tells history n c.args.from.0 c.args.from.1 first leads under (so_far.rests tells history n first leads rests))

pub returns-in_err-advance_one-clause-ledger : goal.returns-in_err-advance_one-clause-ledger
returns-in_err-advance_one-clause-ledger g c =
    let so_far = c.loop.invariant.so_far in
    uses_cut c.args.count c.loop.progress.taken (length c.args.changes.now) (omega (arith, so_far.within, length-map c.args.changes.now change_of)) so_far.uses c.advance_one.ensures.ledger

pub returns-in_err-advance_one-clause-cause : goal.returns-in_err-advance_one-clause-cause
returns-in_err-advance_one-clause-cause g c =
    cause_of (g.D.Disk.ledger c.args.disk.now).faults (g.D.Disk.ledger c.loop.disk).faults (g.D.Disk.ledger c.advance_one.new.disk).faults c.from_residual.result
    c.loop.invariant.so_far.uses.faults c.advance_one.ensures.cause.later c.in_err-advance_one.ensures.cause.failed

pub loop-preserved : goal.loop-preserved
loop-preserved g c =
    let so_far = c.loop.invariant.so_far in
    let progress = c.advance_one.new.progress in
    record {
      images = c.advance_one.ensures.images ∙ c.loop.invariant.images;
      so_far = record {
        within = omega (arith, c.advance_one.ensures.within, length-map c.args.changes.now change_of);
        base = c.advance_one.ensures.base ∙ so_far.base;
        under_way = λ history n leads. c.in_ok-advance_one.ensures.under_way history n c.args.from.0 c.args.from.1 leads (so_far.under_way history n leads);
        rests = λ tells history n first leads rests.
            c.in_ok-advance_one.ensures.rests tells history n c.args.from.0 c.args.from.1 first leads (so_far.under_way history n leads) (so_far.rests tells history n first leads rests);
        crash = λ tells history n first leads rests.
            advance_again history n c.args.space c.args.count c.args.state.now c.args.from.0 c.args.from.1 first c.args.era.now.number
            (g.D.Disk.image c.args.disk.now) (g.D.Disk.image c.loop.disk) (g.D.Disk.image c.advance_one.new.disk) (so_far.crash tells history n first leads rests)
            (c.advance_one.ensures.crash tells history n c.args.from.0 c.args.from.1 first leads (so_far.under_way history n leads) (so_far.rests tells history n first leads rests));
        durable = λ tells only. c.in_ok-advance_one.ensures.durable tells (so_far.durable tells only);
        uses = uses_step c.args.count c.loop.progress.taken progress.taken (c.in_ok-advance_one.ensures.more c.if-not-branch.false) so_far.uses c.advance_one.ensures.ledger;
        bound = λ tells long knows.
            let before = so_far.bound tells long knows in
            let then = c.in_ok-advance_one.ensures.knows tells before.long before.knows in
            record {
              long = omega (arith, before.long, then.1);
              knows = then.0;
              written = omega (arith, before.written, c.advance_one.ensures.bound tells before.long before.knows, c.in_ok-advance_one.ensures.more c.if-not-branch.false);
            };
      };
    }

pub finish-requires-clause-era : goal.finish-requires-clause-era
finish-requires-clause-era g c = may_use_again (may_use_again c.requires.era c.loop.invariant.so_far.uses) c.advance_one.ensures.ledger

pub finish-requires-clause-images : goal.finish-requires-clause-images
finish-requires-clause-images g c = ap (λ (i : ImagesView). i.base) (c.advance_one.ensures.images ∙ c.loop.invariant.images) ∙ c.requires.images

pub finish-requires-clause-mark : goal.finish-requires-clause-mark
finish-requires-clause-mark g c = c.advance_one.ensures.base ∙ c.loop.invariant.so_far.base ∙ c.requires.mark

pub returns-clause-images : goal.returns-clause-images
returns-clause-images g c = c.finish.ensures.images ∙ c.advance_one.ensures.images ∙ c.loop.invariant.images

pub returns-clause-base : goal.returns-clause-base
returns-clause-base g c = c.finish.ensures.base ∙ c.advance_one.ensures.base ∙ c.loop.invariant.so_far.base

pub returns-clause-rests : goal.returns-clause-rests
returns-clause-rests g c tells history n first leads rests =
    let so_far = c.loop.invariant.so_far in
    let progress = c.advance_one.new.progress in
    let before = so_far.under_way history n leads in
    let under = c.in_ok-advance_one.ensures.under_way history n c.args.from.0 c.args.from.1 leads before in
    let end = at_end history n c.args.space c.args.count c.args.to c.args.from.0 c.args.from.1 (map change_of c.args.changes.now) leads progress under (c.in_ok-advance_one.ensures.none c.if-not-branch.true) in
    let rests_then = c.in_ok-advance_one.ensures.rests tells history n c.args.from.0 c.args.from.1 first leads before (so_far.rests tells history n first leads rests) in
    subst (λ (p : List Page). OnOk c.finish.result (Rests (picture_of c.args.space (with_place c.args.state.now c.args.to 0) c.args.to 0 p first) c.finish.new.mark (seen g.D.Disk c.finish.new.disk))) end.pages
    (c.finish.ensures.rests tells c.args.space (lane_pages history n c.args.space progress.upto progress.part c.args.count) first rests_then)

pub returns-clause-crash : goal.returns-clause-crash
returns-clause-crash g c tells history n first leads rests =
    let so_far = c.loop.invariant.so_far in
    let progress = c.advance_one.new.progress in
    let space : ℕ = c.args.space in
    let count : ℕ = c.args.count in
    let state = c.args.state.now in
    let e : ℕ = c.args.era.now.number in
    let image = g.D.Disk.image c.args.disk.now in
    let image_one = g.D.Disk.image c.advance_one.new.disk in
    let image_end = g.D.Disk.image c.finish.new.disk in
    let before = so_far.under_way history n leads in
    let under = c.in_ok-advance_one.ensures.under_way history n c.args.from.0 c.args.from.1 leads before in
    let end = at_end history n space count c.args.to c.args.from.0 c.args.from.1 (map change_of c.args.changes.now) leads progress under (c.in_ok-advance_one.ensures.none c.if-not-branch.true) in
    let rests_so_far = so_far.rests tells history n first leads rests in
    let rests_then = c.in_ok-advance_one.ensures.rests tells history n c.args.from.0 c.args.from.1 first leads before rests_so_far in
    let was = picture_at history n space count state progress.upto progress.part first in
    let pages = lane_pages history n space progress.upto progress.part count in
    advance_again history n space count state c.args.from.0 c.args.from.1 first e image image_one image_end
    (advance_again history n space count state c.args.from.0 c.args.from.1 first e image (g.D.Disk.image c.loop.disk) image_one (so_far.crash tells history n first leads rests)
    (c.advance_one.ensures.crash tells history n c.args.from.0 c.args.from.1 first leads before rests_so_far))
    (advance_moves history n space count state c.args.from.0 c.args.from.1 first e image_one image_one image_end progress.upto c.args.to progress.part 0 under.place under.not_before end.place end.not_before
    (subst (λ (p : List Page). Leaves e (Moves was (picture_of space (with_place state c.args.to 0) c.args.to 0 p first)) image_one image_end) end.pages (c.finish.ensures.crash tells space pages first rests_then)))

pub returns-clause-durable : goal.returns-clause-durable
returns-clause-durable g c tells only = c.finish.ensures.durable tells (c.in_ok-advance_one.ensures.durable tells (c.loop.invariant.so_far.durable tells only))

pub returns-clause-ledger : goal.returns-clause-ledger
returns-clause-ledger g c =
    let so_far = c.loop.invariant.so_far in
    uses_end c.args.count c.loop.progress.taken (length c.args.changes.now) (omega (arith, so_far.within, length-map c.args.changes.now change_of)) so_far.uses c.advance_one.ensures.ledger c.finish.ensures.ledger

pub returns-clause-cause : goal.returns-clause-cause
returns-clause-cause g c =
    cause_again (g.D.Disk.ledger c.args.disk.now).faults (g.D.Disk.ledger c.advance_one.new.disk).faults (g.D.Disk.ledger c.finish.new.disk).faults c.finish.result
    (omega (arith, c.loop.invariant.so_far.uses.faults, c.advance_one.ensures.cause.later)) c.finish.ensures.cause

pub returns-in_err-advance_one-clause-bound : goal.returns-in_err-advance_one-clause-bound
returns-in_err-advance_one-clause-bound g c tells long knows =
    let so_far = c.loop.invariant.so_far in
    let before = so_far.bound tells long knows in
    omega (arith, before.written, c.advance_one.ensures.bound tells before.long before.knows, so_far.within, length-map c.args.changes.now change_of)

pub returns-clause-bound : goal.returns-clause-bound
returns-clause-bound g c tells long knows =
    let so_far = c.loop.invariant.so_far in
    let before = so_far.bound tells long knows in
    let then = c.in_ok-advance_one.ensures.knows tells before.long before.knows in
    omega (
      arith,
      before.written,
      c.advance_one.ensures.bound tells before.long before.knows,
      c.finish.ensures.bound tells (omega (arith, before.long, then.1)) then.0,
      so_far.within,
      length-map c.args.changes.now change_of,
    )
