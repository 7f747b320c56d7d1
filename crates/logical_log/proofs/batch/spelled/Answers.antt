use Rattle.std.proofs.Common.{◌∙◌, ◌++◌, List, ℕ, take, ap, sym}
use Rattle.std.specs.List.{flat_map}
use Rattle.log_record.specs.Entry.{entry_of, history_of}
use Rattle.log_record.specs.Layout.{IsRecord, spelling}
use Rattle.logical_log.proofs.BatchLemmas.{at_place, spelled_more}
use Rattle.logical_log.proofs.batch.spelled.Goals as goal

pub encode_into-requires : goal.encode_into-requires
encode_into-requires c = rw c.entry-item.is (at_place IsRecord entry_of c.args.batch.now c.loop-entry.entry-index c.entry-item.result c.requires.records c.loop-entry-test.true)

pub loop-entry-preserved : goal.loop-entry-preserved
loop-entry-preserved c =
    c.in_ok-extend_from_slice.ensures.items
    ∙ ap (λ (l : List ℕ). l ++ c.encode_into.new.slot) c.loop-entry.invariant
    ∙ ap (λ (l : List ℕ). flat_map spelling (history_of (take c.loop-entry.entry-index c.args.batch.now)) ++ l) c.encode_into.ensures
    ∙ sym (spelled_more c.args.batch.now c.loop-entry.entry-index c.entry-item.result c.loop-entry-test.true c.entry-item.is)
