use Rattle.std.proofs.Common.{refl, ap}
use Rattle.bsa_lines.specs.Lines.{begin_line, end_line, init_line}
use Rattle.bsa_lines.specs.BsaLine.{line_of_bsa}
use Rattle.bsa_lines.specs.declared.lines.BsaLine.{BsaLine}
use Rattle.bsa_lines.specs.declared.lines.BsaLine.TheVariants.{Begin, End, Init}
use Rattle.bsa_session.specs.Sessions.{state_of}
use Rattle.catalogue_journal.specs.Catalogues.{objects_of}
use Rattle.session_machine.specs.Calls.{Begins, Inits}
use Rattle.bsa_transcripts.specs.Lines.{IsCode, Votes}
use Rattle.xbsa_shell.specs.Serving.{ServesShell, setting_of, stand_of}
use Rattle.xbsa_shell.proofs.LineLemmas.{begin_runs, end_runs, init_runs}
use Rattle.xbsa_shell.proofs.ServingLemmas.{suits_here}
use Rattle.xbsa_shell.proofs.calls.Shell.run_line.Goals as goal

pub create-requires-clause-volume : goal.create-requires-clause-volume
create-requires-clause-volume g c =
    let s = c.requires.serves in
    suits_here g.D.Disk c.args.era.now (state_of c.args.self.now.session) c.args.self.now.volume c.args.store.now s.serves s.place

pub send-requires-clause-volume : goal.send-requires-clause-volume
send-requires-clause-volume g c =
    let s = c.requires.serves in
    suits_here g.D.Disk c.args.era.now (state_of c.args.self.now.session) c.args.self.now.volume c.args.store.now s.serves s.place

pub end_data-requires-clause-volume : goal.end_data-requires-clause-volume
end_data-requires-clause-volume g c =
    let s = c.requires.serves in
    suits_here g.D.Disk c.args.era.now (state_of c.args.self.now.session) c.args.self.now.volume c.args.store.now s.serves s.place

pub returns-in-Init-clause-runs : goal.returns-in-Init-clause-runs
returns-in-Init-clause-runs g c =
    let e = c.init.ensures in
    init_runs g.D.Disk c.args.moment c.args.era.now c.args.self.now c.take.new.self c.init.new.self c.args.store.now c.args.line.now c.in-Init.volume c.in-Init.is c.take.ensures e.fields
    c.requires.serves c.init.result e.table e.sound e.place e.within (e.reads (objects_of c.args.store.now.cat))

pub returns-in-Begin-clause-runs : goal.returns-in-Begin-clause-runs
returns-in-Begin-clause-runs g c =
    let e = c.begin.ensures in
    begin_runs g.D.Disk c.args.moment c.args.era.now c.args.self.now c.take.new.self c.begin.new.self c.args.store.now c.args.line.now c.in-Begin.is c.take.ensures e.kept
    c.requires.serves c.begin.result e.table e.sound (e.reads (objects_of c.args.store.now.cat))

pub returns-in-End-clause-runs : goal.returns-in-End-clause-runs
returns-in-End-clause-runs g c =
    let e = c.end.ensures in
    end_runs g.D.Disk c.args.moment c.args.era.now c.end.new.era c.args.self.now c.take.new.self c.end.new.self c.args.store.now c.end.new.store c.args.line.now c.in-End.vote c.in-End.is
    c.take.ensures e.kept c.requires.serves c.end.result (e.votes c.args.moment) e.serves e.capacity
