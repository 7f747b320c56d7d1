use Rattle.std.proofs.Common.{◌≡◌, drop}
use Rattle.onbar_grammar.specs.Script.{place_from, place_of}
use Rattle.site_headers.specs.Views.{spaces_of}
use Rattle.script_lines.proofs.spaces.find_space.Given as goal

-- no space before this place has the name
abbrev pub invariant-loop-place : goal.invariant-loop-place
invariant-loop-place l = place_from l.place l.name (spaces_of (drop l.place l.spaces)) ≡ place_of l.name (spaces_of l.spaces)
