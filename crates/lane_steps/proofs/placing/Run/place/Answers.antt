use Rattle.std.proofs.Common.{◌∙◌, map, sym}
use Rattle.txn_table.specs.Table.{change_of}
use Rattle.lane_steps.specs.Choices.{own}
use Rattle.lane_steps.proofs.RunLemmas.{first_rises, part_none, upto_whole}
use Rattle.lane_steps.proofs.placing.Run.place.Goals as goal

pub returns-in-Some-2-clause-upto : goal.returns-in-Some-2-clause-upto
returns-in-Some-2-clause-upto c from laid run rises =
    let list = map change_of c.args.left.now in
    let first = sym c.in-Some.is ∙ c.next_commit.ensures in
    c.max.ensures ∙ upto_whole from c.args.to c.args.self.commit c.args.self.count c.args.self.whole c.in-Some.next laid (own c.args.space c.args.count list) run first
    (first_rises c.args.space c.args.count c.args.self.commit c.in-Some.next list rises first) c.if-next-self.false

pub returns-in-Some-2-clause-part : goal.returns-in-Some-2-clause-part
returns-in-Some-2-clause-part c from laid run rises =
    let list = map change_of c.args.left.now in
    let first = sym c.in-Some.is ∙ c.next_commit.ensures in
    part_none from c.args.to c.args.self.commit c.args.self.count c.args.self.whole c.in-Some.next laid (own c.args.space c.args.count list) run first
    (first_rises c.args.space c.args.count c.args.self.commit c.in-Some.next list rises first) c.if-next-self.false
