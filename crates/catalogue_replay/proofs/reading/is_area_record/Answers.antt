use Rattle.catalogue_replay.proofs.HeadLemmas.{zeros_area, area_zeros}
use Rattle.catalogue_replay.proofs.reading.is_area_record.Goals as goal

pub returns : goal.returns
returns c = (
  λ is. zeros_area c.args.bytes.now c.requires (c.are_zeros.ensures.0 is),
  λ e. c.are_zeros.ensures.1 (area_zeros c.args.bytes.now e),
)
