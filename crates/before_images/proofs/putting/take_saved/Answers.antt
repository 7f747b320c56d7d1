use Rattle.std.proofs.Common.{◌≡◌, slice_set, arith, ap, sym, subst, ◌∙◌}
use Rattle.std.specs.Prelude.{Option, Some, IfSome}
use Rattle.before_images.specs.Saved.{Saved, listed, applies}
use Rattle.before_images.specs.RegionLaws.{saved_short, open_keeps}
use Rattle.before_images.proofs.putting.take_saved.Goals as goal

pub returns-then-region-lt-PAGE_LEN-clause-applies : goal.returns-then-region-lt-PAGE_LEN-clause-applies
returns-then-region-lt-PAGE_LEN-clause-applies c =
    sym (ap (applies c.args.limit c.args.from.0 c.args.from.1) (saved_short c.args.region.now (omega (arith, c.if-region-lt-PAGE_LEN.true))))

pub returns-clause-applies : goal.returns-clause-applies
returns-clause-applies c =
    c.saved_len.ensures.applies
    ∙ ap (applies c.args.limit c.args.from.0 c.args.from.1) (sym (open_keeps c.args.region.now c.if-region-eq0.false (omega (arith, c.if-region-lt-PAGE_LEN.false))))

pub returns-clause-saved : goal.returns-clause-saved
returns-clause-saved c =
    subst (λ (it : Option Saved). IfSome c.saved_len.result (λ count. it ≡ Some (listed c.args.from.0 c.args.from.1 count (slice_set c.args.region.now 0 0))))
    (sym (open_keeps c.args.region.now c.if-region-eq0.false (omega (arith, c.if-region-lt-PAGE_LEN.false)))) c.saved_len.ensures.saved
