use Rattle.ring_laws.specs.TellsLaws.{one_ring}
use Rattle.ring_laws.proofs.laws.the_bytes_of_a_log_tell_its_files.Goals as goal

pub returns : goal.returns
returns c = one_ring
