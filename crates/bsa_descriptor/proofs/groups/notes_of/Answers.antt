use Rattle.std.proofs.Common.{◌≡◌, ℕ, List, Some, refl}
use Rattle.bsa_descriptor.specs.declared.groups.Notes.{Notes}
use Rattle.bsa_descriptor.proofs.groups.notes_of.Goals as goal

abbrev notes_with : List ℕ → List ℕ → List ℕ → Notes
notes_with resource description info = record { resource = resource; description = description; info = info }

-- notes with the same texts are the same
same_notes : (resource description info : List ℕ) (notes : Notes)
    → Some resource ≡ Some notes.resource → Some description ≡ Some notes.description → Some info ≡ Some notes.info
    → Some (notes_with resource description info) ≡ Some notes
same_notes resource description info notes first second third =
    let a : resource ≡ notes.resource = cc in
    let b : description ≡ notes.description = cc in
    let d : info ≡ notes.info = cc in
    rw (a, b, d) refl

pub returns-in_err-text_at-3-clause-only : goal.returns-in_err-text_at-3-clause-only
returns-in_err-text_at-3-clause-only c notes at = cc (c.in_err-text_at-3.ensures.only notes.info at.info)

pub returns-clause-only : goal.returns-clause-only
returns-clause-only c notes at =
    same_notes c.in_ok-text_at.field-0 c.in_ok-text_at-2.field-0 c.in_ok-text_at-3.field-0 notes (c.in_ok-text_at.ensures.only notes.resource at.resource)
    (c.in_ok-text_at-2.ensures.only notes.description at.description) (c.in_ok-text_at-3.ensures.only notes.info at.info)
