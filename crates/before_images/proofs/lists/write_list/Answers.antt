use Rattle.std.proofs.Common.{◌≡◌, ◌+◌, ◌-◌, ◌*◌, ◌≤◌, ℕ, List, ◌++◌, length, take, replicate, arith, ap, ◌∙◌}
use Rattle.before_images.specs.Saved.{page_bytes, front_bytes}
use Rattle.before_images.proofs.lists.write_list.Goals as goal

-- the front, the pages and the zero bytes behind them
spelled_by : (n end : ℕ) (front pages first second third : List ℕ) → n ≤ 16 → end ≡ 32 + 4 * n → take 32 first ≡ front → take end second ≡ take 32 first ++ pages
    → take (end + (4096 - end)) third ≡ take end second ++ replicate (4096 - end) 0 → take 4096 third ≡ front ++ pages ++ replicate (4064 - 4 * n) 0
spelled_by n end front pages first second third few at is more all =
    let whole : 4096 ≡ end + (4096 - end) = omega (arith, few, at) in
    let rest : 4096 - end ≡ 4064 - 4 * n = omega (arith, few, at) in
    ap (λ (k : ℕ). take k third) whole
    ∙ all
    ∙ ap (λ (k : ℕ). take end second ++ replicate k 0) rest
    ∙ ap (λ (l : List ℕ). l ++ replicate (4064 - 4 * n) 0) more
    ∙ ap (λ (l : List ℕ). l ++ pages ++ replicate (4064 - 4 * n) 0) is

pub returns : goal.returns
returns c =
    spelled_by (length c.args.pages.now) (32 + 4 * length c.args.pages.now) (front_bytes c.args.from.0 c.args.from.1 (length c.args.pages.now)) (page_bytes c.args.pages.now)
    c.write_front.new.head c.write_pages.new.head c.write_zeros.new.into c.requires.few (omega arith) c.write_front.ensures c.write_pages.ensures c.write_zeros.ensures
