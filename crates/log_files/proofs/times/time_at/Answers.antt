use Rattle.std.proofs.Common.{◌≡◌, ℕ, ◌+◌, ◌<◌, List, [], ◌∷◌, length, take, get_or, ap, sym, ◌∙◌}
use Rattle.std.proofs.lemmas.List.{take_more, map-append}
use Rattle.log_record.specs.Entry.{entry_of, history_of}
use Rattle.log_record.specs.declared.records.Record.{Record}
use Rattle.log_files.specs.Files.{time_after, time_at}
use Rattle.log_files.specs.FilesLaws.{time_at-append}
use Rattle.log_files.proofs.times.time_at.Goals as goal

one_more : (before i : ℕ) (records : List Record) (x : Record) → i < length records → x ≡ get_or records i x
    → time_at before (history_of (take (i + 1) records)) ≡ time_after (time_at before (history_of (take i records))) (entry_of x)
one_more before i records x lt is =
    ap (λ (l : List Record). time_at before (history_of l)) (take_more records i x lt)
    ∙ ap (time_at before) (map-append entry_of (take i records) (get_or records i x ∷ []))
    ∙ time_at-append before (history_of (take i records)) (entry_of (get_or records i x) ∷ [])
    ∙ ap (λ (y : Record). time_after (time_at before (history_of (take i records))) (entry_of y)) (sym is)

pub loop-entry-preserved : goal.loop-entry-preserved
loop-entry-preserved c =
    c.time_after-time.ensures ∙ ap (λ (t : ℕ). time_after t (entry_of c.entry-item.result)) c.loop-entry.invariant
    ∙ sym (one_more c.args.before c.loop-entry.entry-index c.args.records.now c.entry-item.result c.loop-entry-test.true c.entry-item.is)
