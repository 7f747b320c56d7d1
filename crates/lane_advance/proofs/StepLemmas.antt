-- Where one step of the work begins.
use Rattle.std.proofs.Common.{◌≡◌, ℕ, List, sym, subst}
use Rattle.site_disk.specs.Images.{Seen}
use Rattle.log_history.specs.History.{History}
use Rattle.backup_lines.specs.declared.lanes.LaneState.{LaneState}
use Rattle.twin_mark.specs.Marks.{MarkView}
use Rattle.lane_steps.specs.Moves.{Rests}
use Rattle.lane_advance.specs.Places.{picture_at}

-- the chunk rests at the place of the mark, which is the one from which it begins
pub rests_from : (history : History) (n space count : ℕ) (state : LaneState) (upto part begun_upto begun_part : ℕ) (first : List ℕ) (mark : MarkView) (disk : Seen)
    → begun_upto ≡ upto → begun_part ≡ part → Rests (picture_at history n space count state upto part first) mark disk
    → Rests (picture_at history n space count state begun_upto begun_part first) mark disk
rests_from history n space count state upto part begun_upto begun_part first mark disk same_upto same_part rests =
    subst (λ (u : ℕ). Rests (picture_at history n space count state u begun_part first) mark disk) (sym same_upto)
    (subst (λ (p : ℕ). Rests (picture_at history n space count state upto p first) mark disk) (sym same_part) rests)
