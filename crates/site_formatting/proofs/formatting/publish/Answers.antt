use Rattle.site_model.specs.declared.disk_name.DiskName.TheVariants.{Cat}
use Rattle.site_formatting.proofs.formatting.publish.Goals as goal

pub publish-requires-clause-era : goal.publish-requires-clause-era
publish-requires-clause-era g c = c.requires.era Cat
