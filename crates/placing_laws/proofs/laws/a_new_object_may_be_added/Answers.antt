use Rattle.std.specs.Prelude.{length}
use Rattle.placing_laws.specs.PlacingLaws.{new_runs_are}
use Rattle.placing_laws.specs.ObjectLaws.{new_is_kept}
use Rattle.placing_laws.proofs.laws.a_new_object_may_be_added.Goals as goal

pub returns : goal.returns
returns c site moment copy volume label bytes runs head early few low is new =
    new_is_kept site moment copy volume label bytes runs head early few low is (new_runs_are site volume (length bytes) runs new)
