use Rattle.std.proofs.Common.{◌≡◌, Bool, ℕ, ◌<◌, ◌++◌, List, length, take, arith, ap, sym, ◌∙◌, subst, Option, Some}
use Rattle.std.specs.Prelude.{◌%◌}
use Rattle.std.proofs.lemmas.Option.{same_Some}
use Rattle.site_disk.specs.ImagesLaws.{weaker}
use Rattle.block_chain.specs.Blocks.{times, blocks_of_runs}
use Rattle.block_chain.specs.Table.{Table, blocks_of}
use Rattle.object_volume.specs.declared.sending.Sending.{Sending}
use Rattle.object_volume.specs.Objects.{places, bytes_at, Spares}
use Rattle.object_volume.specs.ObjectsLaws.{spares_less}
use Rattle.object_volume.specs.Sending.{part_block, IsSent}
use Rattle.object_volume.specs.Volumes.{table_or_none, blocks_or_none, open_blocks}
use Rattle.object_volume.proofs.OutsideLemmas.{writes_again, after_call}
use Rattle.object_volume.proofs.VolumeLemmas.{same_table}
use Rattle.object_volume.proofs.SendingLemmas.{among_left, object_stands, length-rest}
use Rattle.block_chain.specs.RunLaws.{length-blocks_of_runs}
use Rattle.object_volume.proofs.EndingLemmas.{part_kept, part_before_end, blocks_are, part_among}
use Rattle.object_volume.proofs.volume.Volume.end.Goals as goal

-- the object that is being sent, and its table
sent_now : {tells : Bool} {file part message : List ℕ} {chains : Option Table} {object : Option Sending} (table : Table) (one begun : Sending) → chains ≡ Some table → object ≡ Some one → object ≡ Some begun
    → IsSent tells file (table_or_none chains) begun part message → IsSent tells file table one part message
sent_now {tells = tells} {file = file} {part = part} {message = message} {chains = chains} table one begun is now before sent =
    subst (λ (o : Sending). IsSent tells file table o part message) (same_Some begun one (sym before ∙ now))
    (subst (λ (t : Table). IsSent tells file t begun part message) (same_table chains table is) sent)

-- its blocks
sent_among : (table : Table) (chains : Option Table) (object : Option Sending) (one : Sending) → chains ≡ Some table → object ≡ Some one
    → (block : ℕ) → 0 < times block (blocks_of table one.list) → 0 < times block (blocks_or_none (table_or_none chains) object ++ (table_or_none chains).free)
sent_among table chains object one is now block some =
    among_left (blocks_or_none (table_or_none chains) object) (table_or_none chains).free block
    (subst (λ (t : Table). 0 < times block (blocks_or_none t object)) (sym (same_table chains table is)) (subst (λ (o : Option Sending). 0 < times block (blocks_or_none table o)) (sym now) some))

pub returns-in_err-finish-clause-crash : goal.returns-in_err-finish-clause-crash
returns-in_err-finish-clause-crash g c tells =
    let volume = c.args.self.now in
    let object = c.in-Some-take.object in
    let now : volume.object ≡ Some object = cc (c.in-Some-take.ensures.value) in
    let begun = c.requires.begun.sends in
    let sent = sent_now c.in-Some.chains object begun.object c.in-Some.is now begun.begun begun.sent in
    let piece : List ℕ = take (object.size % 4096) volume.part in
    let limit : ℕ = length (g.D.Disk.bytes volume.disk) in
    weaker (Spares (open_blocks volume) limit) (Spares (part_block piece object.last) limit) c.args.era.now.number
    (g.D.Disk.image volume.disk) (g.D.Disk.image volume.disk) (g.D.Disk.image c.finish.new.disk) (c.finish.ensures.crash tells)
    (λ f d b lt image spares. spares_less (part_block piece object.last) (open_blocks volume) limit limit d b
    (λ block some. sent_among c.in-Some.chains volume.chains volume.object object c.in-Some.is now block
    (part_among sent.stored piece (part_kept sent.stored object.size sent.size) block some)) (omega arith) spares)

pub returns-clause-crash : goal.returns-clause-crash
returns-clause-crash g c tells =
    let volume = c.args.self.now in
    let object = c.in-Some-take.object in
    let now : volume.object ≡ Some object = cc (c.in-Some-take.ensures.value) in
    let begun = c.requires.begun.sends in
    let sent = sent_now c.in-Some.chains object begun.object c.in-Some.is now begun.begun begun.sent in
    let piece : List ℕ = take (object.size % 4096) volume.part in
    let limit : ℕ = length (g.D.Disk.bytes volume.disk) in
    weaker (Spares (open_blocks volume) limit) (Spares (part_block piece object.last) limit) c.args.era.now.number
    (g.D.Disk.image volume.disk) (g.D.Disk.image volume.disk) (g.D.Disk.image c.finish.new.disk) (c.finish.ensures.crash tells)
    (λ f d b lt image spares. spares_less (part_block piece object.last) (open_blocks volume) limit limit d b
    (λ block some. sent_among c.in-Some.chains volume.chains volume.object object c.in-Some.is now block
    (part_among sent.stored piece (part_kept sent.stored object.size sent.size) block some)) (omega arith) spares)

pub returns-in_err-finish-clause-ledger : goal.returns-in_err-finish-clause-ledger
returns-in_err-finish-clause-ledger g c =
    let volume = c.args.self.now in
    let object = c.in-Some-take.object in
    let now : volume.object ≡ Some object = cc (c.in-Some-take.ensures.value) in
    let begun = c.requires.begun.sends in
    let sent = sent_now c.in-Some.chains object begun.object c.in-Some.is now begun.begun begun.sent in
    let piece : List ℕ = take (object.size % 4096) volume.part in
    let low = part_before_end sent.stored piece (part_kept sent.stored object.size sent.size) in
    let same = same_table volume.chains c.in-Some.chains c.in-Some.is in
    writes_again c.finish.ensures.ledger (after_call c.finish.ensures.ledger) (omega (arith, low, ap (λ (t : Table). t.blocks) same))

pub returns-clause-ledger : goal.returns-clause-ledger
returns-clause-ledger g c =
    let volume = c.args.self.now in
    let object = c.in-Some-take.object in
    let now : volume.object ≡ Some object = cc (c.in-Some-take.ensures.value) in
    let begun = c.requires.begun.sends in
    let sent = sent_now c.in-Some.chains object begun.object c.in-Some.is now begun.begun begun.sent in
    let piece : List ℕ = take (object.size % 4096) volume.part in
    let low = part_before_end sent.stored piece (part_kept sent.stored object.size sent.size) in
    let same = same_table volume.chains c.in-Some.chains c.in-Some.is in
    writes_again c.finish.ensures.ledger (after_call c.finish.ensures.ledger) (omega (arith, low, ap (λ (t : Table). t.blocks) same))

pub returns-in_err-finish-clause-bound : goal.returns-in_err-finish-clause-bound
returns-in_err-finish-clause-bound g c tells message s =
    let volume = c.args.self.now in
    let object = c.in-Some-take.object in
    let now : volume.object ≡ Some object = cc (c.in-Some-take.ensures.value) in
    let sent = sent_now c.in-Some.chains object s.object c.in-Some.is now s.begun s.sent in
    let piece : List ℕ = take (object.size % 4096) volume.part in
    let kept = part_kept sent.stored object.size sent.size in
    let low = part_before_end sent.stored piece kept in
    let same = same_table volume.chains c.in-Some.chains c.in-Some.is in
    omega (arith, c.finish.ensures.bound tells, low, ap length kept, length-rest sent.stored, ap (λ (t : Table). t.blocks) same)

pub returns-clause-bound : goal.returns-clause-bound
returns-clause-bound g c tells message s =
    let volume = c.args.self.now in
    let object = c.in-Some-take.object in
    let now : volume.object ≡ Some object = cc (c.in-Some-take.ensures.value) in
    let sent = sent_now c.in-Some.chains object s.object c.in-Some.is now s.begun s.sent in
    let piece : List ℕ = take (object.size % 4096) volume.part in
    let kept = part_kept sent.stored object.size sent.size in
    let low = part_before_end sent.stored piece kept in
    let same = same_table volume.chains c.in-Some.chains c.in-Some.is in
    omega (arith, c.finish.ensures.bound tells, low, ap length kept, length-rest sent.stored, ap (λ (t : Table). t.blocks) same)

pub returns-clause-sent : goal.returns-clause-sent
returns-clause-sent g c message s =
    let volume = c.args.self.now in
    let object = c.in-Some-take.object in
    let now : volume.object ≡ Some object = cc (c.in-Some-take.ensures.value) in
    let sent = sent_now c.in-Some.chains object s.object c.in-Some.is now s.begun s.sent in
    record {
      size = sent.size;
      digest = c.finalize.ensures message sent.hashed;
      runs = record {
        fit = c.in_ok-runs.ensures.fit;
        maximal = c.in_ok-runs.ensures.maximal;
        count = sym (length-blocks_of_runs c.in_ok-runs.runs.items) ∙ ap length c.in_ok-runs.ensures.runs ∙ blocks_are sent.stored;
      };
    }

pub returns-clause-stands : goal.returns-clause-stands
returns-clause-stands g c tells message s =
    let volume = c.args.self.now in
    let object = c.in-Some-take.object in
    let now : volume.object ≡ Some object = cc (c.in-Some-take.ensures.value) in
    let sent = sent_now c.in-Some.chains object s.object c.in-Some.is now s.begun s.sent in
    let piece : List ℕ = take (object.size % 4096) volume.part in
    let file = g.D.Disk.bytes c.finish.new.disk in
    ap (λ (k : ℕ). bytes_at file (take k (places (blocks_of_runs c.in_ok-runs.runs.items)))) sent.size
    ∙ ap (λ (l : List ℕ). bytes_at file (take (length message) (places l))) c.in_ok-runs.ensures.runs
    ∙ object_stands sent.stored piece tells (part_kept sent.stored object.size sent.size) (c.in_ok-finish.ensures.finished tells)

pub returns-clause-spared : goal.returns-clause-spared
returns-clause-spared g c tells =
    let volume = c.args.self.now in
    let object = c.in-Some-take.object in
    let now : volume.object ≡ Some object = cc (c.in-Some-take.ensures.value) in
    let begun = c.requires.begun.sends in
    let sent = sent_now c.in-Some.chains object begun.object c.in-Some.is now begun.begun begun.sent in
    let piece : List ℕ = take (object.size % 4096) volume.part in
    let limit : ℕ = length (g.D.Disk.bytes volume.disk) in
    spares_less (part_block piece object.last) (open_blocks volume) limit limit (g.D.Disk.bytes volume.disk) (g.D.Disk.bytes c.finish.new.disk)
    (λ block some. sent_among c.in-Some.chains volume.chains volume.object object c.in-Some.is now block
    (part_among sent.stored piece (part_kept sent.stored object.size sent.size) block some)) (omega arith) (c.in_ok-finish.ensures.finished tells).spared
