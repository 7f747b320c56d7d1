-- The record of a chunk's mark fills its slot, and tells its state.
use Rattle.std.specs.Prelude.{◌≡◌, ℕ, ◌≤◌, List, [], ◌∷◌, length}
use Rattle.std.proofs.Common.{arith, refl, sym, ◌∙◌}
use Rattle.std.proofs.lemmas.List.{length-take}
use Rattle.backup_lines.specs.declared.lanes.Chain.{Chain}
use Rattle.backup_lines.specs.declared.lanes.LaneState.{LaneState as State}
use Rattle.backup_lines.specs.declared.lanes.LaneState.TheVariants.{At, Blank, Image, Replay}
use Rattle.backup_lines.specs.Views.{copies_of}
use Rattle.lane_mark.specs.Layout.{MarkFields, FitsChain, FitsState, fields_of, spelled, spelling}
use Rattle.lane_mark.proofs.LayoutLemmas.{state_at-spelling}
use Rattle.world_laws.specs.ListLaws.{some_same}

length-spelled : (fields : MarkFields) (chain : List ℕ) → length chain ≤ 3 → length (spelled (record fields { chain = chain })) ≡ 255
unfolding spelled
length-spelled fields [] few = refl
length-spelled fields (a ∷ []) few = refl
length-spelled fields (a ∷ b ∷ []) few = refl
length-spelled fields (a ∷ b ∷ c ∷ []) few = refl
length-spelled fields (a ∷ b ∷ c ∷ d ∷ chain) few = absurd (omega (arith, few))

few_copies : (chain : Chain) → FitsChain chain → length (copies_of chain) ≤ 3
few_copies chain fits = omega (arith, fits.few, length-take chain.len chain.copies)

pub length-spelling : (state : State) → FitsState state → length (spelling state) ≡ 255
length-spelling (At upto part) fits = length-spelled (fields_of (At upto part)) [] (omega arith)
length-spelling (Blank restore) fits = length-spelled (fields_of (Blank restore)) [] (omega arith)
length-spelling (Image restore chain image entries) fits = length-spelled (fields_of (Image restore chain image entries)) (copies_of chain) (few_copies chain fits.1)
length-spelling (Replay restore chain upto part) fits = length-spelled (fields_of (Replay restore chain upto part)) (copies_of chain) (few_copies chain fits.1)

-- Two states with the same record are one.
pub one_state : (state other : State) → FitsState state → FitsState other → spelling state ≡ spelling other → state ≡ other
one_state state other fits fit same = some_same (sym (state_at-spelling state (spelling state) fits refl) ∙ state_at-spelling other (spelling state) fit same)
