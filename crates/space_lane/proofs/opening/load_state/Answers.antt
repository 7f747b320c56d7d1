use Rattle.std.proofs.Common.{◌≡◌, ℕ, List, Some, None, ap, sym, ◌∙◌}
use Rattle.std.proofs.lemmas.Option.{same_Some}
use Rattle.twin_mark.specs.Marks.{record_at}
use Rattle.backup_lines.specs.declared.lanes.LaneState.{LaneState}
use Rattle.lane_ways.specs.Pictures.{mark_at}
use Rattle.lane_mark.specs.Layout.{spelling}
use Rattle.space_lane.specs.Chunks.{HasMark}
use Rattle.space_lane.proofs.opening.load_state.Goals as goal

spelled_there : (base : ℕ) (state : LaneState) (body bytes : List ℕ) → base ≡ mark_at → record_at base bytes ≡ Some body → HasMark state bytes → body ≡ spelling state
spelled_there base state body bytes place found has =
    same_Some body (spelling state) (sym found ∙ ap (λ (b : ℕ). record_at b bytes) place ∙ has.stands)

none_there : (base : ℕ) (state : LaneState) (bytes : List ℕ) → base ≡ mark_at → record_at base bytes ≡ None → HasMark state bytes → ⊥
none_there base state bytes place none has =
    let same : None ≡ Some (spelling state) = sym none ∙ ap (λ (b : ℕ). record_at b bytes) place ∙ has.stands in cc

pub returns-in-Some-clause-found : goal.returns-in-Some-clause-found
returns-in-Some-clause-found g c tells =
    let bytes = g.D.Disk.bytes c.args.disk.now in
    let read = c.in-Some.ensures.found in record {
      fits = read.0;
      stands = ap (λ (b : ℕ). record_at b bytes) (sym c.requires.base) ∙ c.in-Ok.ensures.found tells ∙ ap (λ (l : List ℕ). Some l) read.1;
    }

pub returns-in-None-clause-bad : goal.returns-in-None-clause-bad
returns-in-None-clause-bad g c tells is state has =
    let there = spelled_there c.args.mark.now.base state c.load.new.body (g.D.Disk.bytes c.args.disk.now) c.requires.base (c.in-Ok.ensures.found tells) has in
    cc (c.in-None.ensures.only state has.fits there)

pub returns-in-Err-NoMark-clause-bad : goal.returns-in-Err-NoMark-clause-bad
returns-in-Err-NoMark-clause-bad g c tells is state has =
    none_there c.args.mark.now.base state (g.D.Disk.bytes c.args.disk.now) c.requires.base (c.in-Err-NoMark.ensures.no_mark tells (cc)) has
