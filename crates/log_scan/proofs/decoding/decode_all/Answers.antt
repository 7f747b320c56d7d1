use Rattle.std.proofs.Common.{◌≡◌, ◌∷◌, [], ◌++◌, List, length, arith, ap, sym, subst, ◌∙◌, length-append}
use Rattle.std.proofs.lemmas.List.{map-append}
use Rattle.log_record.specs.Entry.{entry_of, history_of}
use Rattle.log_record.specs.declared.records.Record.{Record}
use Rattle.std.specs.List.{flat_map}
use Rattle.log_record.specs.Layout.{spelling}
use Rattle.log_files.specs.Files.{FitFile}
use Rattle.log_files.proofs.HeldLemmas.{length-history_of}
use Rattle.log_scan.proofs.SlotLemmas.{fit_more, spelled_more}
use Rattle.log_scan.proofs.decoding.decode_all.Goals as goal

pub loop-slot-preserved : goal.loop-slot-preserved
loop-slot-preserved c =
    let was = c.loop-slot.invariant in
    let items = c.push_reserved.ensures.items in
    let old = c.loop-slot.records.items in
    let entry = c.in-Some.entry in
    let found = c.in-Some.ensures.found in
    let more : history_of c.push_reserved.new.self.items ≡ history_of old ++ entry_of entry ∷ [] = ap history_of items ∙ map-append entry_of old (entry ∷ []) in
    let count : length (history_of old) ≡ c.loop-slot.slot = length-history_of old ∙ was.count in record {
      count = omega (arith, ap (λ (l : List Record). length l) items, length-append old (entry ∷ []), was.count);
      len = omega (arith, c.push_reserved.ensures.len, was.len);
      room = c.push_reserved.ensures.capacity ∙ was.room;
      fits = subst (FitFile c.args.first) (sym more)
          (fit_more c.args.first (history_of old) c.loop-slot.slot (entry_of entry) was.fits count (omega (arith, c.loop-slot-test.true, c.requires.few)) found.0 found.1);
      spelled = spelled_more c.args.bytes.now c.loop-slot.slot (history_of old) (entry_of entry) was.spelled found.2 ∙ ap (flat_map spelling) (sym more);
    }
