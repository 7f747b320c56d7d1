use Rattle.std.proofs.Common.{map, take}
use Rattle.txn_table.specs.Table.{change_of}
use Rattle.lane_steps.specs.ChoiceLaws.{chosen_below, chosen_distinct, chosen_lays, chosen_none}
use Rattle.lane_steps.proofs.choosing.choose.Goals as goal

pub returns-clause-distinct : goal.returns-clause-distinct
returns-clause-distinct c =
    chosen_distinct c.args.space c.args.count c.choose_front.result.changes (map change_of c.args.changes.now) (take c.choose_front.result.pages c.choose_front.new.pages) c.choose_front.ensures.chooses

pub returns-clause-below : goal.returns-clause-below
returns-clause-below c =
    chosen_below c.args.space c.args.count c.choose_front.result.changes (map change_of c.args.changes.now) (take c.choose_front.result.pages c.choose_front.new.pages) c.choose_front.ensures.chooses

pub returns-clause-lays : goal.returns-clause-lays
returns-clause-lays c =
    chosen_lays c.args.space c.args.count c.choose_front.result.changes (map change_of c.args.changes.now) (take c.choose_front.result.pages c.choose_front.new.pages) c.choose_front.ensures.chooses

pub returns-clause-none : goal.returns-clause-none
returns-clause-none c =
    chosen_none c.args.space c.args.count c.choose_front.result.changes (map change_of c.args.changes.now) (take c.choose_front.result.pages c.choose_front.new.pages) c.choose_front.ensures.chooses
