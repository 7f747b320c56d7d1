use Rattle.std.proofs.Common.{sym, ◌∙◌}
use Rattle.std.proofs.lemmas.Slice.Eq.{bytes_eq-Decides}
use Rattle.site_headers.proofs.spaces.has_name.Goals as goal

pub returns : goal.returns
returns c =
    let decides = bytes_eq-Decides c.args.space.now.name c.args.name.now in
    (λ h. decides.0 (sym c.eq.ensures ∙ h), λ e. c.eq.ensures ∙ decides.1 e)
