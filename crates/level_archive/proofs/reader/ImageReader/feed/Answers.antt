use Rattle.std.proofs.Common.{◌≡◌, refl, subst}
use Rattle.level_archive.specs.Reading.{Reading, RefusesEntry}
use Rattle.level_archive.proofs.reader.ImageReader.feed.Goals as goal

pub returns-in_default-clause-cause : goal.returns-in_default-clause-cause
returns-in_default-clause-cause c =
    subst (λ (r : Reading). (c.self.inside.entries ≡ r.entries) × RefusesEntry r c.args.block.now) c.self.view_is
    (refl, record { later = c.if-not-self.false; other = c.in_default.ensures.none })
