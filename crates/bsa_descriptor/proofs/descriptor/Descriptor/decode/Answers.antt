use Rattle.bsa_descriptor.proofs.SpellingLemmas.{FieldsAt, FieldsAt-spelling, spelling-joined, IsDescriptor-joined, Some-joined, names_in, numbers_in, kinds_in, notes_in}
use Rattle.bsa_descriptor.proofs.descriptor.Descriptor.decode.Goals as goal

pub returns-then-not-is_zero_from-clause-only : goal.returns-then-not-is_zero_from-clause-only
returns-then-not-is_zero_from-clause-only c d is e =
    let at : FieldsAt c.args.bytes.now d = FieldsAt-spelling c.args.bytes.now d c.told-bytes is e in
    cc (c.is_zero_from.ensures.1 at.zeros, c.if-not-is_zero_from.true)

pub returns-in_err-names-clause-only : goal.returns-in_err-names-clause-only
returns-in_err-names-clause-only c d is e =
    let at : FieldsAt c.args.bytes.now d = FieldsAt-spelling c.args.bytes.now d c.told-bytes is e in
    cc (c.in_err-names.ensures.only (names_in d) at.names)

pub returns-in_err-kinds-clause-only : goal.returns-in_err-kinds-clause-only
returns-in_err-kinds-clause-only c d is e =
    let at : FieldsAt c.args.bytes.now d = FieldsAt-spelling c.args.bytes.now d c.told-bytes is e in
    cc (c.in_err-kinds.ensures.only (kinds_in d) at.kinds)

pub returns-in_err-notes-clause-only : goal.returns-in_err-notes-clause-only
returns-in_err-notes-clause-only c d is e =
    let at : FieldsAt c.args.bytes.now d = FieldsAt-spelling c.args.bytes.now d c.told-bytes is e in
    cc (c.in_err-notes.ensures.only (notes_in d) at.notes)

pub returns-clause-found : goal.returns-clause-found
returns-clause-found c =
    spelling-joined c.args.bytes.now c.in_ok-names.names c.numbers_of-numbers.result c.in_ok-kinds.kinds c.in_ok-notes.notes c.told-bytes
    c.in_ok-names.ensures.found c.numbers_of-numbers.ensures.found c.in_ok-kinds.ensures.found c.in_ok-notes.ensures.found
    (c.is_zero_from.ensures.0 c.if-not-is_zero_from.false)

pub returns-clause-descriptor : goal.returns-clause-descriptor
returns-clause-descriptor c =
    IsDescriptor-joined c.args.bytes.now c.in_ok-names.names c.numbers_of-numbers.result c.in_ok-kinds.kinds c.in_ok-notes.notes
    c.in_ok-names.ensures.found c.numbers_of-numbers.ensures.found c.in_ok-notes.ensures.found

pub returns-clause-only : goal.returns-clause-only
returns-clause-only c d is e =
    let at : FieldsAt c.args.bytes.now d = FieldsAt-spelling c.args.bytes.now d c.told-bytes is e in
    Some-joined c.in_ok-names.names c.numbers_of-numbers.result c.in_ok-kinds.kinds c.in_ok-notes.notes d
    (c.in_ok-names.ensures.only (names_in d) at.names) (c.numbers_of-numbers.ensures.only (numbers_in d) at.numbers)
    (c.in_ok-kinds.ensures.only (kinds_in d) at.kinds) (c.in_ok-notes.ensures.only (notes_in d) at.notes)
