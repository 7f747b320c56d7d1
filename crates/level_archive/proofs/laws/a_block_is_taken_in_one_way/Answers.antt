use Rattle.level_archive.proofs.PageLemmas.{one_number}
use Rattle.level_archive.proofs.laws.a_block_is_taken_in_one_way.Goals as goal

pub returns : goal.returns
returns c = record {
  head = λ old block new begins refuses. refuses.other begins.is_head;
  entry = λ old block number new gives refuses. refuses.other number gives.has;
  number = one_number;
}
