use Rattle.std.proofs.Common.{◌≡◌, ℕ, List, drop, ap, sym, ◌∙◌, arith}
use Rattle.std.proofs.lemmas.Bool.{both_ways}
use Rattle.site_disk.specs.Bytes.{extent}
use Rattle.site_disk.specs.BytesLaws.{extent-extent}
use Rattle.boot_file.specs.Places.{boot_tail}
use Rattle.boot_file.proofs.FormatLemmas.{header_with, is_header, length-boot_tail}
use Rattle.boot_file.proofs.header.has_boot_header.Goals as goal

-- the page behind its gate
behind : (page file : List ℕ) → page ≡ extent 0 4096 file → extent 1 4095 page ≡ extent 1 4095 file
behind page file is = ap (extent 1 4095) is ∙ extent-extent 1 4095 0 4096 file (omega arith)

pub returns-then-not-branch-clause-header : goal.returns-then-not-branch-clause-header
returns-then-not-branch-clause-header g c tells = (
  λ never. cc,
  λ has. absurd (both_ways c.in_ok-header_read.field-0 c.if-not-branch.true ((c.in_ok-header_read.ensures.header tells).1
      (is_header (boot_tail c.args.site) (g.D.Disk.bytes c.args.disk.now) (length-boot_tail c.args.site) has))),
)

pub returns-clause-header : goal.returns-clause-header
returns-clause-header g c tells =
    let file = g.D.Disk.bytes c.args.disk.now in
    let page : List ℕ = c.header_read.new.into in
    let wanted : drop 1 c.write_boot_header.new.page ≡ boot_tail c.args.site = ap (drop 1) c.write_boot_header.ensures in
    let rest = behind page file (c.in_ok-header_read.ensures.page tells c.if-not-branch.false) in (
      λ is. header_with (boot_tail c.args.site) file ((c.in_ok-header_read.ensures.header tells).0 c.if-not-branch.false) (sym rest ∙ c.has_tail.ensures.0 is ∙ wanted),
      λ has. c.has_tail.ensures.1 (rest ∙ has.tail_stands ∙ sym wanted),
    )
