use Rattle.std.proofs.Common.{refl, subst, sym, ◌∙◌}
use Rattle.std.proofs.lemmas.List.{length-map}
use Rattle.txn_table.specs.Table.{change_of}
use Rattle.backup_lines.specs.declared.lanes.LaneState.TheVariants.{At}
use Rattle.site_lanes.specs.Advancing.{IsPlaced}
use Rattle.site_lanes.proofs.AdvancingLemmas.{moves_placed, uses_as_many}
use Rattle.space_lane.specs.Lanes.{state_of}
use Rattle.site_lanes.proofs.advancing.advance_one.Goals as goal

pub returns-in-Ok-clause-works : goal.returns-in-Ok-clause-works
returns-in-Ok-clause-works g c =
    let e = c.advance.ensures in
    record {
      made = e.made;
      space = e.space;
      count = e.count;
      ledger = uses_as_many g.D.Disk c.args.era.now c.args.lane.now c.advance.new.self (sym (length-map c.args.changes.now change_of)) e.ledger;
      crash = λ tells history n site count upto part on. e.crash tells history n site count upto part (At upto part) refl on.leads on.stands on.pages;
    }

pub returns-in-Err-clause-works : goal.returns-in-Err-clause-works
returns-in-Err-clause-works g c =
    let e = c.advance.ensures in
    record {
      made = e.made;
      space = e.space;
      count = e.count;
      ledger = uses_as_many g.D.Disk c.args.era.now c.args.lane.now c.advance.new.self (sym (length-map c.args.changes.now change_of)) e.ledger;
      crash = λ tells history n site count upto part on. e.crash tells history n site count upto part (At upto part) refl on.leads on.stands on.pages;
    }

pub returns-in-Ok-clause-advanced : goal.returns-in-Ok-clause-advanced
returns-in-Ok-clause-advanced g c =
    let e = c.in-Ok.ensures in
    record {
      works = returns-in-Ok-clause-works g c;
      opened = e.opened;
      state = e.state ∙ moves_placed c.args.to (state_of c.args.lane.now) (subst IsPlaced c.state.ensures (c.is_placed.ensures.0 c.if-not-is_placed.false));
      stands = λ tells history n site count upto part on. e.stands tells history n site count upto part (At upto part) refl on.leads on.stands on.pages;
      pages = λ tells history n site count upto part on. e.pages tells history n site count upto part (At upto part) refl on.leads on.stands on.pages;
      durable = e.durable;
    }
