use Rattle.std.proofs.Common.{◌+◌, ◌*◌, ◌-◌, ◌≡◌, ℕ, ⊎_elim, arith, ap, sym, ◌∙◌}
use Rattle.std.proofs.lemmas.Bool.{cases_lt}
use Rattle.before_images.specs.Saved.{u32_at, numbers, are_below}
use Rattle.before_images.specs.ListLaws.{numbers-more, are_below-both}
use Rattle.before_images.proofs.pages.greatest.Goals as goal

pub loop-i-preserved : goal.loop-i-preserved
loop-i-preserved c = record {
  all = λ k lt. ⊎_elim
      (λ before. omega (arith, c.loop-i.invariant.all k before, c.larger-greatest.ensures))
      (λ here. let same : k ≡ c.loop-i.i = omega (arith, here, lt) in omega (arith, ap (λ (j : ℕ). u32_at (32 + 4 * j) c.args.head.now) same, c.page_at.ensures, c.larger-greatest.ensures))
      (cases_lt k c.loop-i.i);
  below = λ limit some below.
      let so_far = c.loop-i.invariant.below limit some below in
      let both = are_below-both limit (u32_at (32 + 4 * c.loop-i.i) c.args.head.now) (numbers (c.loop-i.i + 1) (c.args.count - (c.loop-i.i + 1)) c.args.head.now)
      (ap (are_below limit) (sym (numbers-more c.loop-i.i c.args.count c.args.head.now (omega arith))) ∙ so_far.1) in
      (omega (arith, so_far.0, both.0, c.page_at.ensures, c.larger-greatest.ensures), both.1);
}
