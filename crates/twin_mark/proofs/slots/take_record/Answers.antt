use Rattle.std.proofs.Common.{◌≡◌, ◌+◌, ◌*◌, ℕ, List, take, drop, arith, ap, sym, ◌∙◌}
use Rattle.std.specs.Prelude.{Some}
use Rattle.site_disk.specs.Bytes.{extent}
use Rattle.twin_mark.specs.Marks.{held}
use Rattle.twin_mark.specs.MarksLaws.{behind_sequence}
use Rattle.twin_mark.proofs.slots.take_record.Goals as goal

copied : (at n k : ℕ) (region copy : List ℕ) → n ≡ 255 → k ≡ at + 1 → copy ≡ take n (drop k region) → copy ≡ drop 1 (extent at 256 region)
copied at n k region copy long place is = is ∙ ap (λ (m : ℕ). take m (drop k region)) long ∙ ap (λ (m : ℕ). take 255 (drop m region)) place ∙ behind_sequence at region

pub returns-clause-content : goal.returns-clause-content
returns-clause-content c some =
    let region = c.args.region.now in
    ap (held region) (sym c.in_ok-at.ensures.current)
    ∙ ap Some (sym (copied (256 * (c.in_ok-at.at.slot + 1)) _ _ region c.copy_from_slice.new.self (omega arith) (omega arith) c.copy_from_slice.ensures.after))
