use Rattle.std.proofs.Common.{◌∙◌, [], ◌++◌, refl, arith}
use Rattle.site_headers.specs.Views.{head_of}
use Rattle.site_scripts.proofs.LinesLemmas.{front_again, later_again, lines_end}
use Rattle.site_scripts.proofs.StageLemmas.{left_all, further}
use Rattle.site_scripts.proofs.running.take_lines.Goals as goal

pub lines-init : goal.lines-init
lines-init g c = record {
  keeps = record {
    may = c.requires.may;
    opened = c.requires.opened;
    era_later = omega arith;
    era_limit = omega arith;
    key = refl;
    bounded = c.requires.bounded;
    line = c.requires.line;
    script_limit = c.requires.script_limit;
    counted = c.requires.counted;
    commits = c.requires.commits;
    store = refl;
    boot = refl;
    beyond = λ space past. refl;
    made = λ is. is;
    later = λ name. omega arith;
    taken = λ tells. ([], refl);
    source_later = omega arith;
  };
  way = λ tells_disk tells_source first. left_all g.D.Disk (head_of c.args.head.now) first _ _ _;
}

pub lines-preserved : goal.lines-preserved
lines-preserved g c =
    let before = c.lines.invariant.keeps in
    let call = c.in_default.ensures in
    record {
      keeps = record {
        may = call.may;
        opened = call.opened;
        era_later = omega (arith, before.era_later, call.era_later);
        era_limit = omega (arith, before.era_limit, call.era, call.line.1);
        key = call.key ∙ before.key;
        bounded = call.bounded;
        line = call.line.0;
        script_limit = call.script_limit;
        counted = omega (arith, before.counted, call.counted, call.line.1);
        commits = call.commits;
        store = call.store ∙ before.store;
        boot = call.boot ∙ before.boot;
        beyond = λ space past. call.beyond space past ∙ before.beyond space past;
        made = λ is. call.made (before.made is);
        later = λ name. later_again _ _ _ (before.later name) (call.later name);
        taken = λ tells. front_again _ _ _ (before.taken tells) (call.taken tells);
        source_later = omega (arith, before.source_later, call.source_later);
      };
      way = λ tells_disk tells_source first.
          further g.D.Disk (head_of c.args.head.now) first _ _ _ _ _ _ _ _ _ (c.lines.invariant.way tells_disk tells_source first) (call.stepped tells_disk tells_source first);
    }

pub returns-in-Some-clause-taken : goal.returns-in-Some-clause-taken
returns-in-Some-clause-taken g c tells = front_again _ _ _ (c.lines.invariant.keeps.taken tells) (c.in-Some.ensures.taken tells)

pub returns-in-Some-clause-ended : goal.returns-in-Some-clause-ended
returns-in-Some-clause-ended g c tells_disk tells_source first =
    lines_end g.D.Disk (head_of c.args.head.now) first _ _ _ _ _ _ _ _ _ _ _ _
    (c.take_step.new.work.progress.lines.held ++ g.S.Source.left c.take_step.new.source) (c.lines.invariant.way tells_disk tells_source first) c.in-Some.stop (c.in-Some.ensures.stepped tells_disk tells_source first)
