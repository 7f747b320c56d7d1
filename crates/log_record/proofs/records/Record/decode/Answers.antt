use Rattle.std.proofs.Common.{◌≡◌, Bool, true, false, Option, Some, IsSomeAnd, sym, ap, subst, ◌∙◌}
use Rattle.std.specs.Bool.{then_some}
use Rattle.std.proofs.lemmas.Slice.Eq.{bytes_eq-Decides}
use Rattle.log_record.specs.declared.records.Record.{Record}
use Rattle.std.proofs.lemmas.Bool.{false≢true}
use Rattle.log_record.specs.Entry.{entry_of, fields_in}
use Rattle.log_record.specs.Layout.{entry_in, spelling}
use Rattle.log_record.specs.LayoutLaws.{entry_is}
use Rattle.log_record.proofs.LayoutLemmas.{read_as}
use Rattle.log_record.proofs.records.Record.decode.Goals as goal

pub returns-in_err-record-clause-only : goal.returns-in_err-record-clause-only
returns-in_err-record-clause-only c =
    λ entry ok spelt. absurd (false≢true (read_as (false ≡ true) c.args.slot.now (fields_in c.read.result) entry c.read.ensures c.in_err-record.ensures.only ok spelt))

pub returns-clause-only : goal.returns-clause-only
returns-clause-only c =
    λ entry ok spelt.
    let same : entry_of c.in_ok-record.record ≡ entry =
    entry_is c.args.slot.now (entry_of c.in_ok-record.record) entry (ap entry_in (sym c.read.ensures) ∙ c.in_ok-record.ensures.found.1) ok spelt in
    let alike : c.eq.result ≡ true =
    c.eq.ensures ∙ (bytes_eq-Decides c.encode_into.new.slot c.args.slot.now).1 (c.encode_into.ensures ∙ ap spelling same ∙ sym spelt) in
    let kept : c.then_some.result ≡ Some c.in_ok-record.record =
    c.then_some.ensures ∙ ap (λ (b : Bool). then_some b c.in_ok-record.record) alike in
    subst (λ (o : Option Record). IsSomeAnd o (λ r. entry_of r ≡ entry)) (sym kept) same
