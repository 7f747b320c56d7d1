use Rattle.std.proofs.Common.{List, ℕ, take, ◌++◌, arith, ap, sym, ◌∙◌}
use Rattle.std.proofs.lemmas.List.{append-nil}
use Rattle.before_images.specs.SpelledLaws.{page_bytes-none, pages_more}
use Rattle.before_images.proofs.lists.write_pages.Goals as goal

pub loop-i-init : goal.loop-i-init
loop-i-init c = sym (ap (λ (l : List ℕ). take 32 c.args.head.now ++ l) page_bytes-none ∙ append-nil (take 32 c.args.head.now))

pub loop-i-preserved : goal.loop-i-preserved
loop-i-preserved c =
    pages_more c.loop-i.i c.args.pages.now (take 32 c.args.head.now) c.loop-i.head c.write_bytes.new.into c.to_be_bytes.result (omega arith) c.to_be_bytes.ensures c.loop-i.invariant c.write_bytes.ensures
