use Rattle.std.proofs.Common.{◌≡◌, ◌-◌, length, arith}
use Rattle.site_headers.specs.Kinds.{kind_code}
use Rattle.site_headers.proofs.FrontLemmas.{plain_page}
use Rattle.site_headers.proofs.plain.write_plain_header.Goals as goal

pub returns : goal.returns
returns c =
    let behind : length c.write_front.new.page - 16 ≡ 4080 = omega arith in
    rw (c.write_zeros_from.ensures, c.write_front.ensures) (plain_page (kind_code c.args.kind) c.args.site (length c.write_front.new.page - 16) behind)
