use Rattle.std.proofs.Common.{◌≡◌, ◌-◌, length, arith}
use Rattle.site_headers.proofs.FrontLemmas.{plain_page}
use Rattle.boot_file.proofs.header.write_boot_header.Goals as goal

pub returns : goal.returns
returns c =
    let behind : length c.write_u64.new.into - 16 ≡ 4080 = omega arith in
    rw (c.write_zeros_from.ensures, c.write_u64.ensures.written, c.write_bytes.ensures.written) (plain_page 3 c.args.site (length c.write_u64.new.into - 16) behind)
