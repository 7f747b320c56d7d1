use Rattle.lane_texts.proofs.PageLemmas.{all_behind, bytes_of_parts, parts_of_bytes}
use Rattle.lane_texts.proofs.decoding.decode_page.Goals as goal

pub returns-clause-found : goal.returns-clause-found
returns-clause-found c space number is =
    bytes_of_parts space number c.u64_at.result c.copy_from_slice.new.self c.args.bytes.now is c.u64_at.ensures.found (all_behind c.copy_from_slice.new.self c.args.bytes.now c.copy_from_slice.ensures.after)

pub returns-clause-only : goal.returns-clause-only
returns-clause-only c space number page fits is =
    parts_of_bytes space number c.u64_at.result c.copy_from_slice.new.self c.args.bytes.now page c.u64_at.ensures.number (all_behind c.copy_from_slice.new.self c.args.bytes.now c.copy_from_slice.ensures.after) fits is
