use Rattle.needed_laws.specs.SufficesLaws.{read_suffices}
use Rattle.needed_laws.proofs.laws.what_is_read_gives_the_changes.Goals as goal

pub returns : goal.returns
returns c = read_suffices
