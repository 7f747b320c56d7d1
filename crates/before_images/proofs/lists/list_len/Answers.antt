use Rattle.std.proofs.Common.{ℕ, sym, ◌∙◌, ap, arith, true, false}
use Rattle.std.specs.Prelude.{Some}
use Rattle.before_images.specs.Saved.{is_sound}
use Rattle.before_images.specs.ListLaws.{is_list-short, is_list-none, is_list-many, is_list-fits, list_len-not, list_len-is}
use Rattle.before_images.proofs.lists.list_len.Goals as goal
use Rattle.before_images.proofs.lists.list_len.Goals.{then-count-eq0-via-then-count-eq0, then-count-eq0-via-else-count-eq0+then-count-gt16, then-count-eq0-via-else-count-eq0+else-count-gt16+then-not-is_sound}

pub returns-then-head-ne-PAGE_LEN-clause-count : goal.returns-then-head-ne-PAGE_LEN-clause-count
returns-then-head-ne-PAGE_LEN-clause-count c = sym (list_len-not c.args.head.now (is_list-short c.args.head.now c.if-head-ne-PAGE_LEN.true))

pub returns-then-count-eq0-clause-count : goal.returns-then-count-eq0-clause-count
returns-then-count-eq0-clause-count c =
    let head = c.args.head.now in
    sym (list_len-not head (elim c.then-count-eq0.branch [
      | then-count-eq0-via-then-count-eq0 w ↦ is_list-none head (omega (arith, c.u32_at-count.ensures, w.if-count-eq0.true))
      | then-count-eq0-via-else-count-eq0+then-count-gt16 w ↦ is_list-many head (omega (arith, c.u32_at-count.ensures, w.if-count-gt16.true))
      | then-count-eq0-via-else-count-eq0+else-count-gt16+then-not-is_sound w ↦
          is_list-fits head c.if-head-ne-PAGE_LEN.false (omega (arith, c.u32_at-count.ensures, w.if-count-eq0.false)) (omega (arith, c.u32_at-count.ensures, w.if-count-gt16.false)) false
          (ap (λ (n : ℕ). is_sound n head) (sym c.u32_at-count.ensures) ∙ sym w.is_sound.ensures ∙ w.if-not-is_sound.true)
    ]))

pub returns-clause-count : goal.returns-clause-count
returns-clause-count c =
    let head = c.args.head.now in
    ap Some c.u32_at-count.ensures
    ∙ sym (list_len-is head (is_list-fits head c.if-head-ne-PAGE_LEN.false (omega (arith, c.u32_at-count.ensures, c.if-count-eq0.false)) (omega (arith, c.u32_at-count.ensures, c.if-count-gt16.false)) true
    (ap (λ (n : ℕ). is_sound n head) (sym c.u32_at-count.ensures) ∙ sym c.is_sound.ensures ∙ c.if-not-is_sound.false)))
