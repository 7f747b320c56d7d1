use Rattle.std.proofs.Common.{◌≡◌, ℕ, List, length, take, arith, ap, sym, ◌∙◌}
use Rattle.site_disk.specs.Bytes.{extent}
use Rattle.site_disk.specs.BytesLaws.{read_range}
use Rattle.twin_mark.specs.Marks.{current, record_of}
use Rattle.twin_mark.specs.MarksLaws.{same_slots, same_record_of}
use Rattle.twin_mark.proofs.slots.read_record.Goals as goal

-- what is read are the region's first 768 bytes
is_read : (base found size : ℕ) (bytes read : List ℕ) → size ≡ 768 → found ≡ length (extent base size bytes) → read ≡ extent base found bytes → read ≡ extent base 768 bytes
is_read base found size bytes read long count is = read_range base size found bytes read count is ∙ ap (λ (n : ℕ). extent base n bytes) long

pub returns-clause-current : goal.returns-clause-current
returns-clause-current g c tells =
    let bytes = g.D.Disk.bytes c.args.disk.now in
    let read : take c.in_ok-found.found c.read_at.new.into ≡ extent c.args.base 768 bytes =
    is_read c.args.base c.in_ok-found.found (length c.args.buffer.now) bytes (take c.in_ok-found.found c.read_at.new.into) c.requires.buffer (c.in_ok-found.ensures.count tells) (c.in_ok-found.ensures.found tells) in
    c.take_record.ensures.current ∙ ap current read ∙ same_slots c.args.base 768 bytes (omega arith)

pub returns-clause-content : goal.returns-clause-content
returns-clause-content g c tells some =
    let bytes = g.D.Disk.bytes c.args.disk.now in
    let read : take c.in_ok-found.found c.read_at.new.into ≡ extent c.args.base 768 bytes =
    is_read c.args.base c.in_ok-found.found (length c.args.buffer.now) bytes (take c.in_ok-found.found c.read_at.new.into) c.requires.buffer (c.in_ok-found.ensures.count tells) (c.in_ok-found.ensures.found tells) in
    sym (same_record_of c.args.base 768 bytes (omega arith)) ∙ ap record_of (sym read) ∙ c.take_record.ensures.content some
