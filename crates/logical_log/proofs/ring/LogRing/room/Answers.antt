use Rattle.std.proofs.Common.{sym, ◌∙◌}
use Rattle.log_files.specs.RoomLaws.{room_fits, room_next}
use Rattle.logical_log.proofs.ring.LogRing.room.Goals as goal

pub returns-clause-fits : goal.returns-clause-fits
returns-clause-fits g c files tells is = room_fits files c.args.slots c.args.low tells.fits (sym (c.room.ensures files tells.fits tells.held) ∙ is)

pub returns-clause-next : goal.returns-clause-next
returns-clause-next g c files drops tells is =
    room_next files c.args.slots c.args.low drops tells.fits c.requires.some c.requires.few (sym (c.room.ensures files tells.fits tells.held) ∙ is)
