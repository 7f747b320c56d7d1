use Rattle.std.proofs.Common.{arith, refl}
use Rattle.log_files.proofs.HeldLemmas.{told-dropped, some_span, full-count}
use Rattle.log_files.proofs.held.HeldFiles.drop_oldest.Goals as goal

pub remove-dropped-requires : goal.remove-dropped-requires
remove-dropped-requires c =
    let files = c.requires.held.files in
    let tells = c.requires.held.tells in
    omega (arith, some_span files c.args.self.now tells (omega (arith, full-count files c.args.self.now tells c.requires.full)), c.args.self.now.spans.ok.0)

pub returns : goal.returns
returns c files fits tells =
    told-dropped files c.args.self.now fits tells files.past refl (omega (arith, full-count files c.args.self.now tells c.requires.full)) c.place_of.result c.place_of.ensures
    c.remove-dropped.result c.remove-dropped.ensures.value c.remove-dropped.new.self c.remove-dropped.ensures.items
