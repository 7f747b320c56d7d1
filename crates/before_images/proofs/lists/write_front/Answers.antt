use Rattle.before_images.specs.SpelledLaws.{front_by}
use Rattle.before_images.proofs.lists.write_front.Goals as goal

pub returns : goal.returns
returns c = front_by c.args.from.0 c.args.from.1 c.args.count c.write_zeros.new.into c.write_bytes.new.into c.write_bytes-2.new.into c.write_bytes-3.new.into
    c.to_be_bytes.result c.to_be_bytes-2.result c.to_be_bytes-3.result c.to_be_bytes.ensures c.to_be_bytes-2.ensures c.to_be_bytes-3.ensures
    c.write_zeros.ensures c.write_bytes.ensures c.write_bytes-2.ensures c.write_bytes-3.ensures
