use Rattle.site_layouts.specs.MarkLaws.{length-spelling}
use Rattle.site_layouts.proofs.laws.a_mark_fills_its_slot.Goals as goal

pub returns : goal.returns
returns c = length-spelling
