use Rattle.std.proofs.Common.{◌≡◌, Bool, true, Some, None, sym, ap, subst, ◌∙◌}
use Rattle.std.specs.Bool.{then_some}
use Rattle.std.proofs.lemmas.Slice.Eq.{bytes_eq-Decides}
use Rattle.std.proofs.lemmas.Bool.{both_ways}
use Rattle.backup_lines.specs.declared.lanes.LaneState.{LaneState}
use Rattle.lane_mark.specs.Layout.{FitsState, spelling, state_with}
use Rattle.lane_mark.proofs.LayoutLemmas.{state_at-spelling}
use Rattle.lane_mark.proofs.mark.decode.Goals as goal

pub returns-in_err-state-clause-only : goal.returns-in_err-state-clause-only
returns-in_err-state-clause-only c state ok spelt =
    let same : c.state.result ≡ Some state = c.state.ensures ∙ ap state_with c.read.ensures ∙ state_at-spelling state c.args.bytes.now ok spelt in
    let none : c.state.result ≡ None = c.in_err-state.was in cc

pub returns-then-not-is_lane-clause-only : goal.returns-then-not-is_lane-clause-only
returns-then-not-is_lane-clause-only c state ok spelt =
    let same : c.state.result ≡ Some state = c.state.ensures ∙ ap state_with c.read.ensures ∙ state_at-spelling state c.args.bytes.now ok spelt in
    let found : c.state.result ≡ Some c.in_ok-state.state = c.in_ok-state.was in
    let is : c.in_ok-state.state ≡ state = cc in
    absurd (both_ways c.is_lane.result c.if-not-is_lane.true (c.is_lane.ensures.1 (subst FitsState (sym is) ok)))

pub returns-clause-only : goal.returns-clause-only
returns-clause-only c state ok spelt =
    let same : c.state.result ≡ Some state = c.state.ensures ∙ ap state_with c.read.ensures ∙ state_at-spelling state c.args.bytes.now ok spelt in
    let found : c.state.result ≡ Some c.in_ok-state.state = c.in_ok-state.was in
    let is : c.in_ok-state.state ≡ state = cc in
    let alike : c.eq.result ≡ true = c.eq.ensures ∙ (bytes_eq-Decides c.encode_into.new.bytes c.args.bytes.now).1 (c.encode_into.ensures ∙ ap spelling is ∙ sym spelt) in
    c.then_some.ensures ∙ ap (λ (b : Bool). then_some b c.in_ok-state.state) alike ∙ ap (λ (s : LaneState). Some s) is
