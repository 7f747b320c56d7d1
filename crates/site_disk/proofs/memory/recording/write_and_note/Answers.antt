use Rattle.std.proofs.Common.{◌≡◌, ◌++◌, ◌∷◌, [], ◌∙◌, List, length, arith, ap}
use Rattle.site_disk.specs.declared.memory.recording.Call.{Call}
use Rattle.site_disk.specs.declared.memory.recording.Call.TheVariants.{Write}
use Rattle.site_disk.specs.Recorded.{past_of}
use Rattle.site_disk.proofs.RecordedLemmas.{past_of-more_pieces, noted, still_there, on_err}
use Rattle.site_disk.proofs.memory.recording.write_and_note.Goals as goal

pub returns-in_err-write_over-clause-not_noted : goal.returns-in_err-write_over-clause-not_noted
returns-in_err-write_over-clause-not_noted c = on_err _
    (ap (λ (l : List Call). past_of c.extend_from_slice.new.self.items l) c.in_ok-reserve.ensures.items
    ∙ ap (λ l. past_of l c.args.calls.now.items) c.in_ok-extend_from_slice.ensures.items
    ∙ past_of-more_pieces c.args.pieces.now.items c.args.piece.now c.args.calls.now.items c.requires.there)

pub returns-clause-noted : goal.returns-clause-noted
returns-clause-noted c =
    let from : c.len-from.result ≡ length c.args.pieces.now.items = omega (arith, c.args.pieces.now.ok.0) in
    let calls : c.push.new.self.items ≡ c.args.calls.now.items ++ Write c.args.era c.args.at c.len-from.result (length c.args.piece.now) ∷ []
    = c.in-Ok.ensures.items ∙ ap (λ (l : List Call). l ++ Write c.args.era c.args.at c.len-from.result (length c.args.piece.now) ∷ []) c.in_ok-reserve.ensures.items in
    noted c.args.pieces.now.items c.args.piece.now _ c.args.calls.now.items _ c.args.era c.args.at c.len-from.result c.requires.there from c.in_ok-extend_from_slice.ensures.items calls

pub returns-clause-still_there : goal.returns-clause-still_there
returns-clause-still_there c =
    let from : c.len-from.result ≡ length c.args.pieces.now.items = omega (arith, c.args.pieces.now.ok.0) in
    let calls : c.push.new.self.items ≡ c.args.calls.now.items ++ Write c.args.era c.args.at c.len-from.result (length c.args.piece.now) ∷ []
    = c.in-Ok.ensures.items ∙ ap (λ (l : List Call). l ++ Write c.args.era c.args.at c.len-from.result (length c.args.piece.now) ∷ []) c.in_ok-reserve.ensures.items in
    still_there c.args.pieces.now.items c.args.piece.now _ c.args.calls.now.items _ c.args.era c.args.at c.len-from.result c.requires.there from c.in_ok-extend_from_slice.ensures.items calls
