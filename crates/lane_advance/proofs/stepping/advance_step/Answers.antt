use Rattle.std.proofs.Common.{◌∙◌, ℕ, List, inl, inr, map, refl, sym, subst}
use Rattle.site_disk.specs.Images.{Leaves}
use Rattle.site_disk.specs.Seen.{seen}
use Rattle.log_history.specs.Effects.{Page}
use Rattle.txn_table.specs.Table.{change_of}
use Rattle.lane_ways.specs.Ways.{lane_pages}
use Rattle.lane_steps.specs.Moves.{Moves, Rests}
use Rattle.lane_advance.specs.Places.{picture_at, picture_of, with_place}
use Rattle.lane_advance.proofs.DiskLemmas.{advance_again, advance_moves}
use Rattle.lane_advance.proofs.StepLemmas.{rests_from}
use Rattle.lane_advance.proofs.WayLemmas.{at_end, leads_on}
use Rattle.lane_advance.proofs.stepping.advance_step.Goals as goal

pub returns-in_err-is_step-clause-crash : goal.returns-in_err-is_step-clause-crash
returns-in_err-is_step-clause-crash g c tells history n first leads rests =
    let under = c.begin-progress.ensures.under_way history n c.args.to leads in
    let begun = c.begin-progress.result in
    c.advance_one.ensures.crash tells history n c.args.from.0 c.args.from.1 first leads under
    (rests_from history n c.args.space c.args.count c.args.state.now c.args.from.0 c.args.from.1 begun.upto begun.part first c.args.mark.now (seen g.D.Disk c.args.disk.now) c.begin-progress.ensures.upto
    c.begin-progress.ensures.part rests)

pub returns-then-is_step-clause-goes : goal.returns-then-is_step-clause-goes
returns-then-is_step-clause-goes g c history n leads =
    let list = map change_of c.args.changes.now in
    let progress = c.advance_one.new.progress in
    let before = c.begin-progress.ensures.under_way history n c.args.to leads in
    let under = c.in_ok-is_step.ensures.under_way history n c.args.from.0 c.args.from.1 leads before in
    record {
      leads = leads_on history n c.args.space c.args.count c.args.to c.args.from.0 c.args.from.1 list leads progress.upto progress.part under.place under.not_before.0;
      not_before = under.not_before;
      goes = inr (λ same_upto same_part.
          c.in_ok-is_step.ensures.other history n c.args.from.0 c.args.from.1 leads before c.if-is_step.true (same_upto ∙ sym c.begin-progress.ensures.upto) (same_part ∙ sym c.begin-progress.ensures.part));
    }

pub returns-then-is_step-clause-rests : goal.returns-then-is_step-clause-rests
returns-then-is_step-clause-rests g c tells history n first leads rests =
    let begun = c.begin-progress.result in
    c.in_ok-is_step.ensures.rests tells history n c.args.from.0 c.args.from.1 first leads (c.begin-progress.ensures.under_way history n c.args.to leads)
    (rests_from history n c.args.space c.args.count c.args.state.now c.args.from.0 c.args.from.1 begun.upto begun.part first c.args.mark.now (seen g.D.Disk c.args.disk.now) c.begin-progress.ensures.upto
    c.begin-progress.ensures.part rests)

pub returns-then-is_step-clause-crash : goal.returns-then-is_step-clause-crash
returns-then-is_step-clause-crash g c tells history n first leads rests =
    let begun = c.begin-progress.result in
    c.advance_one.ensures.crash tells history n c.args.from.0 c.args.from.1 first leads (c.begin-progress.ensures.under_way history n c.args.to leads)
    (rests_from history n c.args.space c.args.count c.args.state.now c.args.from.0 c.args.from.1 begun.upto begun.part first c.args.mark.now (seen g.D.Disk c.args.disk.now) c.begin-progress.ensures.upto
    c.begin-progress.ensures.part rests)

pub returns-in_err-finish-clause-crash : goal.returns-in_err-finish-clause-crash
returns-in_err-finish-clause-crash g c tells history n first leads rests =
    let begun = c.begin-progress.result in
    let progress = c.advance_one.new.progress in
    let space : ℕ = c.args.space in
    let count : ℕ = c.args.count in
    let state = c.args.state.now in
    let e : ℕ = c.args.era.now.number in
    let image = g.D.Disk.image c.args.disk.now in
    let image_one = g.D.Disk.image c.advance_one.new.disk in
    let image_end = g.D.Disk.image c.finish.new.disk in
    let before = c.begin-progress.ensures.under_way history n c.args.to leads in
    let under = c.in_ok-is_step.ensures.under_way history n c.args.from.0 c.args.from.1 leads before in
    let end = at_end history n space count c.args.to c.args.from.0 c.args.from.1 (map change_of c.args.changes.now) leads progress under (c.in_ok-is_step.ensures.none c.if-is_step.false) in
    let rests_first =
    rests_from history n space count state c.args.from.0 c.args.from.1 begun.upto begun.part first c.args.mark.now (seen g.D.Disk c.args.disk.now) c.begin-progress.ensures.upto c.begin-progress.ensures.part rests in
    let rests_then = c.in_ok-is_step.ensures.rests tells history n c.args.from.0 c.args.from.1 first leads before rests_first in
    let was = picture_at history n space count state progress.upto progress.part first in
    let pages = lane_pages history n space progress.upto progress.part count in
    advance_again history n space count state c.args.from.0 c.args.from.1 first e image image_one image_end
    (c.advance_one.ensures.crash tells history n c.args.from.0 c.args.from.1 first leads before rests_first)
    (advance_moves history n space count state c.args.from.0 c.args.from.1 first e image_one image_one image_end progress.upto c.args.to progress.part 0 under.place under.not_before end.place end.not_before
    (subst (λ (p : List Page). Leaves e (Moves was (picture_of space (with_place state c.args.to 0) c.args.to 0 p first)) image_one image_end) end.pages (c.finish.ensures.crash tells space pages first rests_then)))

pub returns-clause-goes : goal.returns-clause-goes
returns-clause-goes g c history n leads =
    let list = map change_of c.args.changes.now in
    let before = c.begin-progress.ensures.under_way history n c.args.to leads in
    let under = c.in_ok-is_step.ensures.under_way history n c.args.from.0 c.args.from.1 leads before in
    let end =
    at_end history n c.args.space c.args.count c.args.to c.args.from.0 c.args.from.1 list leads c.advance_one.new.progress under (c.in_ok-is_step.ensures.none c.if-is_step.false) in
    record {
      leads = leads_on history n c.args.space c.args.count c.args.to c.args.from.0 c.args.from.1 list leads c.args.to 0 end.place end.not_before.0;
      not_before = end.not_before;
      goes = inl (refl, refl);
    }

pub returns-clause-rests : goal.returns-clause-rests
returns-clause-rests g c tells history n first leads rests =
    let begun = c.begin-progress.result in
    let progress = c.advance_one.new.progress in
    let before = c.begin-progress.ensures.under_way history n c.args.to leads in
    let under = c.in_ok-is_step.ensures.under_way history n c.args.from.0 c.args.from.1 leads before in
    let end =
    at_end history n c.args.space c.args.count c.args.to c.args.from.0 c.args.from.1 (map change_of c.args.changes.now) leads progress under (c.in_ok-is_step.ensures.none c.if-is_step.false) in
    let rests_then = c.in_ok-is_step.ensures.rests tells history n c.args.from.0 c.args.from.1 first leads before
    (rests_from history n c.args.space c.args.count c.args.state.now c.args.from.0 c.args.from.1 begun.upto begun.part first c.args.mark.now (seen g.D.Disk c.args.disk.now) c.begin-progress.ensures.upto
    c.begin-progress.ensures.part rests) in
    subst (λ (p : List Page). Rests (picture_of c.args.space (with_place c.args.state.now c.args.to 0) c.args.to 0 p first) c.finish.new.mark (seen g.D.Disk c.finish.new.disk)) end.pages
    (c.in_ok-finish.ensures.rests tells c.args.space (lane_pages history n c.args.space progress.upto progress.part c.args.count) first rests_then)

pub returns-clause-crash : goal.returns-clause-crash
returns-clause-crash g c tells history n first leads rests =
    let begun = c.begin-progress.result in
    let progress = c.advance_one.new.progress in
    let space : ℕ = c.args.space in
    let count : ℕ = c.args.count in
    let state = c.args.state.now in
    let e : ℕ = c.args.era.now.number in
    let image = g.D.Disk.image c.args.disk.now in
    let image_one = g.D.Disk.image c.advance_one.new.disk in
    let image_end = g.D.Disk.image c.finish.new.disk in
    let before = c.begin-progress.ensures.under_way history n c.args.to leads in
    let under = c.in_ok-is_step.ensures.under_way history n c.args.from.0 c.args.from.1 leads before in
    let end = at_end history n space count c.args.to c.args.from.0 c.args.from.1 (map change_of c.args.changes.now) leads progress under (c.in_ok-is_step.ensures.none c.if-is_step.false) in
    let rests_first =
    rests_from history n space count state c.args.from.0 c.args.from.1 begun.upto begun.part first c.args.mark.now (seen g.D.Disk c.args.disk.now) c.begin-progress.ensures.upto c.begin-progress.ensures.part rests in
    let rests_then = c.in_ok-is_step.ensures.rests tells history n c.args.from.0 c.args.from.1 first leads before rests_first in
    let was = picture_at history n space count state progress.upto progress.part first in
    let pages = lane_pages history n space progress.upto progress.part count in
    advance_again history n space count state c.args.from.0 c.args.from.1 first e image image_one image_end
    (c.advance_one.ensures.crash tells history n c.args.from.0 c.args.from.1 first leads before rests_first)
    (advance_moves history n space count state c.args.from.0 c.args.from.1 first e image_one image_one image_end progress.upto c.args.to progress.part 0 under.place under.not_before end.place end.not_before
    (subst (λ (p : List Page). Leaves e (Moves was (picture_of space (with_place state c.args.to 0) c.args.to 0 p first)) image_one image_end) end.pages (c.finish.ensures.crash tells space pages first rests_then)))
