-- A store that a session is run over, and what stands between two lines of its script.
use Rattle.std.specs.Prelude.{◌≡◌, ◌≢◌, ℕ, ◌≤◌, Bool, List, true, Option, Result}
use Rattle.std.specs.List.{AllByRecursion}
use Rattle.bsa_descriptor.specs.Descriptor.{empty_descriptor}
use Rattle.onbar_grammar.specs.declared.Why.{Why}
use Rattle.site_disk.specs.Ledger.{EraView, MayUse}
use Rattle.site_disk.specs.declared.disk.Disk.{Ghosts}
use Rattle.catalogue_slots.specs.Records.{Object}
use Rattle.catalogue_replay.specs.Contents.{has_copy}
use Rattle.catalogue_journal.specs.Catalogues.{capacity_of, contents_in, objects_of, used_of}
use Rattle.object_volume.specs.Volumes.{disk_of, IsIdle, IsSending}
use Rattle.object_volume.specs.declared.volume.Volume.{Volume}
use Rattle.object_store.specs.Endings.{places, HoldAll}
use Rattle.object_store.specs.Reading.{reads_on, part_on}
use Rattle.object_store.specs.Returns.{runs_on, HoldsAmong}
use Rattle.object_store.specs.Stores.{OfEach, IsOpenAt, IsOpenStore}
use Rattle.object_store.specs.declared.store.Store.{Store}
use Rattle.session_machine.specs.Conditions.{IsSound, Refers}
use Rattle.session_machine.specs.States.{State, none, idle, waiting, sending, querying, getting, broken}
use Rattle.store_opening.specs.Disks.{MayUseStore}
use Rattle.bsa_session.specs.Reading.{CanReadOn}
use Rattle.bsa_session.specs.Sessions.{state_of}
use Rattle.bsa_session.specs.Voting.{added_in}
use Rattle.bsa_transcripts.specs.Fields.{fields_of}
use Rattle.bsa_lines.specs.Lines.{Line}
use Rattle.bsa_transcripts.specs.Lines.{Reads, Setting, Stand, Steps, Tells, TellsBytes}
use Rattle.bsa_transcripts.specs.Texts.{reply_text}
use Rattle.bsa_transcripts.specs.declared.replies.Reply.{Reply}
use Rattle.session_machine.specs.Calls.{GetsData}
use Rattle.xbsa_shell.specs.declared.calls.Shell.{Shell}

-- the session is on this volume, if there is one
abbrev pub IsPlace : ℕ → State → Type 0
IsPlace volume none = Unit {0}
IsPlace volume (idle place) = place.volume ≡ volume
IsPlace volume (waiting draft) = draft.place.volume ≡ volume
IsPlace volume (sending draft descriptor) = draft.place.volume ≡ volume
IsPlace volume (querying draft rest) = draft.place.volume ≡ volume
IsPlace volume (getting draft copy at) = draft.place.volume ≡ volume
IsPlace volume broken = ⊥

-- the matches that are left to be given are committed
abbrev pub AreThere : List Object → State → Type 0
AreThere objects (querying draft rest) = AllByRecursion (λ copy. has_copy copy objects ≡ true) rest
AreThere objects state = Unit {0}

-- a call leaves the descriptor and the volume as they are
pub record KeepsFields (old new : Shell) : Type 0 where
  pub fields : new.fields ≡ old.fields
  pub volume : new.volume ≡ old.volume

-- the next bytes of an object that is fetched
pub record GivesFrom (tells : Bool) (part : Object → ℕ → List ℕ) (objects : List Object) (old new : State) (reply : Reply) : Type 0 where
  pub into : List ℕ
  pub told : Tells (GetsData tells part objects old new into) (TellsBytes into) reply

module _ {D : Type 0} where
  -- an object is being sent to the volume at a place exactly where the session sends one there
  abbrev pub IsFit : Bool → (D → List ℕ) → State → ℕ → Volume D → Type 0
  IsFit tells bytes (sending draft descriptor) place volume =
      (place ≡ draft.place.volume → IsSending tells bytes volume) × (place ≢ draft.place.volume → IsIdle volume)
  IsFit tells bytes state place volume = IsIdle volume

  -- what a call makes of the volume that the session is on
  pub record Works (disk : Ghosts D) (era : EraView) (old new : State) (place : ℕ) (objects : List Object) (was is : Volume D) : Type 0 where
    pub opened : IsOpenAt place was → IsOpenAt place is
    pub fit : IsFit disk.is_modelled disk.bytes old place was → IsFit disk.is_modelled disk.bytes new place is
    pub holds : HoldsAmong was (runs_on place (places objects (added_in old))) → HoldsAmong is (runs_on place (places objects (added_in new)))
    pub may : MayUse era (disk.ledger (disk_of was)) → MayUse era (disk.ledger (disk_of is))

  -- the store serves the calls of a session in this state
  pub record Serves (disk : Ghosts D) (era : EraView) (state : State) (store : Store D) : Type 0 where
    pub sound : IsSound state
    pub refers : Refers state (objects_of store.cat)
    pub there : AreThere (objects_of store.cat) state
    pub opened : IsOpenStore store
    pub fit : OfEach (IsFit disk.is_modelled disk.bytes state) store.volumes.items
    pub holds : HoldAll (places (objects_of store.cat) (added_in state)) store.volumes.items
    pub may : MayUseStore disk.ledger era store

  -- and the shell knows the volume, and where a fetch goes on
  pub record ServesShell (disk : Ghosts D) (era : EraView) (shell : Shell) (store : Store D) : Type 0 where
    pub serves : Serves disk era (state_of shell.session) store
    pub place : IsPlace shell.volume (state_of shell.session)
    pub within : shell.volume ≤ 16
    pub reads_on : CanReadOn shell.session (objects_of store.cat)

  -- the store serves its calls in some era
  abbrev pub IsServed : Ghosts D → Shell → Store D → Type 0
  IsServed disk shell store = (era : EraView) × ServesShell disk era shell store

  abbrev pub setting_of : Ghosts D → ℕ → Store D → Setting
  setting_of disk moment store = record { tells = disk.is_modelled; moment = moment; capacity = capacity_of store.cat }

  abbrev pub stand_of : Ghosts D → Shell → Store D → Stand
  stand_of disk shell store = record {
    descriptor = fields_of shell.fields;
    session = state_of shell.session;
    contents = contents_in store.cat;
    used = used_of store.cat;
    reads = reads_on disk.bytes store.volumes.items;
    part = part_on disk.bytes store.volumes.items;
  }

  -- A line was done as it is answered, and the store serves the next one.
  pub record RunsLine (disk : Ghosts D) (moment : ℕ) (line : Line) (to : EraView) (shell now : Shell) (old new : Store D) (reply : Reply) : Type 0 where
    pub steps : Steps (setting_of disk moment old) line (stand_of disk shell old) (stand_of disk now new) reply
    pub serves : ServesShell disk to now new
    pub capacity : capacity_of new.cat ≡ capacity_of old.cat

  -- what is read of a line was done so, an empty one too
  pub record RunsText (disk : Ghosts D) (moment : ℕ) (read : Result (Option Line) Why) (to : EraView) (shell now : Shell) (old new : Store D) (reply : Reply) : Type 0 where
    pub reads : Reads (setting_of disk moment old) read (stand_of disk shell old) (stand_of disk now new) (reply_text reply)
    pub serves : ServesShell disk to now new
    pub capacity : capacity_of new.cat ≡ capacity_of old.cat

  -- what stands before the first line of a script
  abbrev pub first_stand : Ghosts D → Store D → Stand
  first_stand disk store = record {
    descriptor = empty_descriptor;
    session = none;
    contents = contents_in store.cat;
    used = used_of store.cat;
    reads = reads_on disk.bytes store.volumes.items;
    part = part_on disk.bytes store.volumes.items;
  }
