use Rattle.std.proofs.Common.{◌≡◌, ℕ, List, sym, ap, ◌∙◌, arith}
use Rattle.std.proofs.lemmas.Option.{IfSome_then}
use Rattle.byte_fields.specs.Fields.{padded, HasText}
use Rattle.bsa_descriptor.proofs.TextLemmas.{FitsField-text}
use Rattle.site_headers.specs.Parts.{HasName}
use Rattle.site_headers.specs.SpaceLaws.{IsText-name}
use Rattle.site_headers.proofs.names.name_at.Goals as goal

HasText-name : (at : ℕ) (bytes name : List ℕ) → HasName at bytes name → HasText at 20 bytes name
HasText-name at bytes name has = record { fits = FitsField-text 20 name (IsText-name 20 name (omega arith) has.named); stands = has.stands }

pub returns-in_err-text-clause-only : goal.returns-in_err-text-clause-only
returns-in_err-text-clause-only c name has = absurd (c.in_err-text.ensures.only name (HasText-name c.args.at c.args.bytes.now name has))

pub returns-clause-found : goal.returns-clause-found
returns-clause-found c =
    IfSome_then c.name_in.result c.name_in.ensures.found (λ name h. record { named = h.0; stands = c.in_ok-text.ensures.found.stands ∙ ap (padded 20) (sym h.1) })

pub returns-clause-only : goal.returns-clause-only
returns-clause-only c name has =
    let same : c.in_ok-text.text.now ≡ name = c.in_ok-text.ensures.only name (HasText-name c.args.at c.args.bytes.now name has) in
    rw same at (c.name_in.ensures.only (rw same has.named))
