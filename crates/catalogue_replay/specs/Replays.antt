-- The program's replay as the definitions have it.
use Rattle.std.specs.Prelude.{Option, Some, None, map}
use Rattle.catalogue_slots.specs.Views.{object_of}
use Rattle.catalogue_replay.specs.Contents.{Contents}
use Rattle.catalogue_replay.specs.Journal.{Rest, State}
use Rattle.catalogue_replay.specs.declared.reading.Found.{Found}
use Rattle.catalogue_replay.specs.declared.replay.Rest.{Rest as RustRest}
use Rattle.catalogue_replay.specs.declared.replay.Replay.{Replay}

abbrev pub rest_in : RustRest → Rest
rest_in rest = record { count = rest.count; object = object_of rest.entry }

abbrev pub rest_of : Option RustRest → Option Rest
rest_of None = None
rest_of (Some rest) = Some (rest_in rest)

abbrev pub state_of : Replay → State
state_of replay = record {
  read = replay.read;
  last = replay.last;
  added = replay.added;
  objects = replay.objects;
  rest = rest_of replay.rest;
}

-- what was found
abbrev pub contents_found : Found → Contents
contents_found found = record { last = found.last; objects = map object_of found.objects.items }
