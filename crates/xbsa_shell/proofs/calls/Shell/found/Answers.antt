use Rattle.std.proofs.Common.{sym, ◌∙◌}
use Rattle.catalogue_journal.specs.Catalogues.{objects_of}
use Rattle.xbsa_shell.proofs.MatchLemmas.{has_description}
use Rattle.xbsa_shell.proofs.calls.Shell.found.Goals as goal

pub unreachable-requires : goal.unreachable-requires
unreachable-requires g c =
    has_description c.args.copy (objects_of c.args.store.now.cat) c.requires.there (sym c.described.ensures ∙ c.in_default.is)
