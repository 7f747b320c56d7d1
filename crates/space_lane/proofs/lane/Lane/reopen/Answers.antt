use Rattle.std.proofs.Common.{refl, ◌∙◌}
use Rattle.site_disk.specs.Seen.{seen}
use Rattle.space_lane.proofs.LaneLemmas.{stands_of}
use Rattle.space_lane.proofs.StateLemmas.{settled_none}
use Rattle.space_lane.proofs.lane.Lane.reopen.Goals as goal

pub returns-clause-stands : goal.returns-clause-stands
returns-clause-stands g c tells emptied =
    let disk = seen g.D.Disk c.write_state.new.disk in
    let reopens = c.in_ok-write_state.ensures.reopens tells emptied in
    stands_of c.args.site c.args.pages c.args.state.now c.args.era.now.number disk _
    (record { mark = c.write_state.ensures.base ∙ c.requires.made.mark; images = c.requires.made.images })
    (record { fits = c.requires.fits; pages_are = refl; state_is = refl })
    (c.in_ok-write_state.ensures.knows tells) reopens.holds
    (g.met.D.Disk.now_counts c.write_state.new.disk) c.write_state.ensures.ledger.no_later (c.in_ok-write_state.ensures.durable tells)
    (settled_none c.args.state.now c.args.pages disk.bytes reopens.none)

pub returns-clause-pages : goal.returns-clause-pages
returns-clause-pages g c tells emptied = (c.in_ok-write_state.ensures.reopens tells emptied).pages
