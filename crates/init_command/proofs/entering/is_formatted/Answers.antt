use Rattle.site_model.specs.declared.disk_name.DiskName.TheVariants.{Cat, Spare}
use Rattle.init_command.proofs.ReadLemmas.{only_reads}
use Rattle.init_command.proofs.entering.is_formatted.Goals as goal

pub has_header-requires-clause-era : goal.has_header-requires-clause-era
has_header-requires-clause-era g c = c.requires.may Cat

pub has_header-requires-clause-spare_era : goal.has_header-requires-clause-spare_era
has_header-requires-clause-spare_era g c = c.requires.may Spare

pub returns-clause-reads : goal.returns-clause-reads
returns-clause-reads g c =
    only_reads g.D.Disk c.args.site.now c.has_header.new.cat c.args.era.now c.requires.made c.requires.may
    c.has_header.ensures.ledger c.has_header.ensures.spare_ledger c.has_header.ensures.crash c.has_header.ensures.spare_crash
