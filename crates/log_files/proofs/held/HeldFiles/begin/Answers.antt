use Rattle.std.proofs.Common.{◌≡◌, ◌++◌, ◌∷◌, [], length, arith, sym}
use Rattle.std.proofs.lemmas.Grind.{common_steps}
use Rattle.log_record.specs.Entry.{history_of}
use Rattle.log_files.proofs.HeldLemmas.{told-begun, length-history_of}
use Rattle.log_files.proofs.held.HeldFiles.begin.Goals as goal

pub returns : goal.returns
returns c files tells =
    let pushed : c.push.new.self.items ≡ c.args.self.now.spans.items ++ c.new_span-span.result ∷ [] = grind (arith, common_steps, c.push.ensures.items, c.push.ensures.full, c.requires.reserved) in
    told-begun files c.args.self.now tells (history_of c.args.batch.now) c.push.new.self c.new_span-span.result (length c.args.batch.now) c.time_at-self.result c.requires.empty
    (omega (arith, length-history_of c.args.batch.now, c.requires.some)) pushed c.new_span-span.ensures (sym (length-history_of c.args.batch.now)) c.time_at-self.ensures
