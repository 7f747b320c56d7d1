use Rattle.std.proofs.Common.{◌≡◌, ℕ, Bool, true, Option, Some, IsSomeAnd, sym, ap, subst, ◌∙◌}
use Rattle.std.specs.Bool.{then_some}
use Rattle.std.specs.Int.{w64}
use Rattle.std.proofs.lemmas.Slice.Eq.{bytes_eq-Decides}
use Rattle.std.proofs.lemmas.Bool.{both_ways}
use Rattle.byte_fields.specs.Fields.{number_at}
use Rattle.boot_lines.specs.declared.mark.BootMark.{BootMark}
use Rattle.backup_lines.specs.Spans.{Active}
use Rattle.boot_lines.specs.MarkLayout.{IsMark, active_in, active_at, spelling}
use Rattle.boot_lines.specs.MarkLaws.{number_at-spelling, active_at-spelling}
use Rattle.boot_lines.proofs.mark.BootMark.decode.Goals as goal

pub returns-then-not-is_mark-clause-only : goal.returns-then-not-is_mark-clause-only
returns-then-not-is_mark-clause-only c number active ok spelt =
    let numbers : c.u64_at.result ≡ number = c.u64_at.ensures.number ∙ ap (number_at w64 0) spelt ∙ number_at-spelling number active ok in
    let actives : active_in c.restore_at.result ≡ active = c.restore_at.ensures ∙ ap active_at spelt ∙ active_at-spelling number active ok in
    absurd (both_ways c.is_mark.result c.if-not-is_mark.true
    (c.is_mark.ensures.1 (subst (λ (n : ℕ). IsMark n (active_in c.restore_at.result)) (sym numbers) (subst (IsMark number) (sym actives) ok))))

pub returns-clause-only : goal.returns-clause-only
returns-clause-only c number active ok spelt =
    let numbers : c.u64_at.result ≡ number = c.u64_at.ensures.number ∙ ap (number_at w64 0) spelt ∙ number_at-spelling number active ok in
    let actives : active_in c.restore_at.result ≡ active = c.restore_at.ensures ∙ ap active_at spelt ∙ active_at-spelling number active ok in
    let mark : BootMark = record { last_number = c.u64_at.result; restore = c.restore_at.result } in
    let spelled : c.encode_into.new.bytes ≡ c.args.bytes.now =
    c.encode_into.ensures ∙ ap (λ (n : ℕ). spelling n (active_in c.restore_at.result)) numbers ∙ ap (spelling number) actives ∙ sym spelt in
    let alike : c.eq.result ≡ true = c.eq.ensures ∙ (bytes_eq-Decides c.encode_into.new.bytes c.args.bytes.now).1 spelled in
    let kept : c.then_some.result ≡ Some mark = c.then_some.ensures ∙ ap (λ (b : Bool). then_some b mark) alike in
    subst (λ (o : Option BootMark). IsSomeAnd o (λ m. (m.last_number ≡ number) × (active_in m.restore ≡ active))) (sym kept) (numbers, actives)
