use Rattle.level_archive.specs.BlockLaws.{block_stands, blocks_are_whole, length-blocks}
use Rattle.level_archive.proofs.PageLemmas.{stamp-entry}
use Rattle.level_archive.proofs.laws.blocks_stand_one_behind_another.Goals as goal

pub returns : goal.returns
returns c = record { whole = blocks_are_whole; size = length-blocks; place = block_stands; stamp = stamp-entry }
