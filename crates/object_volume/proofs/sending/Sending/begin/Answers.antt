use Rattle.std.proofs.Common.{[], refl, arith, ap, ◌∙◌}
use Rattle.object_volume.specs.Objects.{bytes_at}
use Rattle.object_volume.specs.ObjectsLaws.{places-nil, bytes_at-nil}
use Rattle.object_volume.proofs.sending.Sending.begin.Goals as goal

pub returns-clause-sent : goal.returns-clause-sent
returns-clause-sent c tells file part = record {
  stored = record {
    full = [];
    front = [];
    rest = [];
    parts = refl;
    even = refl;
    few = omega arith;
    own = c.empty_list.ensures.own;
    blocks = c.empty_list.ensures.empty;
    kept = refl;
    stands = λ told. ap (bytes_at file) places-nil ∙ bytes_at-nil file;
  };
  hashed = c.new.ensures;
  size = refl;
  reached = λ told. omega arith;
}
