use Rattle.std.proofs.Common.{◌≡◌, ℕ, List, length, take, arith, ap, sym, ◌∙◌}
use Rattle.std.proofs.lemmas.List.{take_all}
use Rattle.site_disk.specs.Bytes.{extent}
use Rattle.gated_slots.proofs.header.read_page.Goals as goal

-- a read that fills the page gives all of it
whole_page : (n size : ℕ) (page bytes : List ℕ) → n ≡ size → length page ≡ size → take n page ≡ extent 0 n bytes → page ≡ extent 0 size bytes
whole_page n size page bytes is long read = sym (take_all n page (omega (arith, is, long))) ∙ read ∙ ap (λ (k : ℕ). extent 0 k bytes) is

pub returns-then-found-into-clause-page : goal.returns-then-found-into-clause-page
returns-then-found-into-clause-page g c tells is_open =
    whole_page c.in_ok-found.found 4096 c.read_at.new.into (g.D.Disk.bytes c.args.disk.now) (omega arith) (omega arith) (c.in_ok-found.ensures.found tells)
