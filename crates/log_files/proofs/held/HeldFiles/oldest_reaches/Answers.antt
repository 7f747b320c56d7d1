use Rattle.std.proofs.Common.{◌≡◌, ◌+◌, ℕ, arith, refl, nat_le, nat_lt}
use Rattle.std.proofs.lemmas.Bool.Decides.{nat_tests}
use Rattle.log_files.specs.Rooms.{second_first}
use Rattle.log_files.proofs.HeldLemmas.{some_span, reaches_first, full-count}
use Rattle.log_files.proofs.held.HeldFiles.oldest_reaches.Goals as goal

behind : (p last next : ℕ) → last + 1 ≡ next → nat_le p last ≡ nat_lt p next
behind p last next is = grind (arith, nat_tests)

pub index-requires : goal.index-requires
index-requires c =
    let files = c.requires.held.files in
    let tells = c.requires.held.tells in
    omega (arith, some_span files c.args.self.now tells (omega (arith, full-count files c.args.self.now tells c.requires.full)), c.args.self.now.spans.ok.0)

pub returns : goal.returns
returns c files fits tells =
    let last : c.index.result.now.last + 1 ≡ second_first files.first files.past =
    reaches_first files c.args.self.now fits tells files.past refl (omega (arith, full-count files c.args.self.now tells c.requires.full)) c.index.result.now c.index.ensures in
    behind c.args.position c.index.result.now.last (second_first files.first files.past) last
