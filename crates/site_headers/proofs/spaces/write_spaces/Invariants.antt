use Rattle.std.proofs.Common.{◌≡◌, ◌+◌, ◌*◌, ◌++◌, map, take}
use Rattle.std.specs.List.{flat_map}
use Rattle.site_headers.specs.Headers.{space_bytes}
use Rattle.site_headers.specs.Views.{space_of}
use Rattle.site_headers.proofs.spaces.write_spaces.Given as goal

abbrev pub invariant-loop-i : goal.invariant-loop-i
invariant-loop-i l = take (l.at + 24 * l.i) l.page ≡ take l.at l.initial.page ++ flat_map space_bytes (map space_of (take l.i l.spaces))
