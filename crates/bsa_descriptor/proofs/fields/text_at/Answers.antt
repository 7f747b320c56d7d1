use Rattle.std.proofs.Common.{◌≡◌, Some, ap, ◌∙◌, sym, subst}
use Rattle.bsa_descriptor.specs.Text.{IsText}
use Rattle.bsa_descriptor.specs.Groups.{TextAt}
use Rattle.bsa_descriptor.proofs.TextLemmas.{HasText-TextAt, IfSome-at, some_value}
use Rattle.bsa_descriptor.proofs.fields.text_at.Goals as goal

pub returns-in_err-text-clause-only : goal.returns-in_err-text-clause-only
returns-in_err-text-clause-only g c text has = absurd (c.in_err-text.ensures.only text (HasText-TextAt c.args.offset g.row.W c.args.bytes.now text has))

pub returns-clause-found : goal.returns-clause-found
returns-clause-found g c =
    IfSome-at c.from_bytes.result c.in_ok-text.text.now (TextAt c.args.offset g.row.W c.args.bytes.now) c.from_bytes.ensures.bytes
    (λ some. record { is_text = c.from_bytes.ensures.text.0 some; stands = c.in_ok-text.ensures.found.stands })

pub returns-clause-only : goal.returns-clause-only
returns-clause-only g c text has =
    let same : c.in_ok-text.text.now ≡ text = c.in_ok-text.ensures.only text (HasText-TextAt c.args.offset g.row.W c.args.bytes.now text has) in
    some_value c.from_bytes.result c.in_ok-text.text.now c.from_bytes.ensures.bytes (c.from_bytes.ensures.text.1 (subst (IsText g.row.W) (sym same) has.is_text)) ∙ ap Some same
