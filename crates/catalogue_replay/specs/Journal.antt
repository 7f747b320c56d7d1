-- The journal: records, one after another, and what they make of the catalogue.
use Rattle.std.specs.Prelude.{◌≡◌, ℕ, ◌+◌, ◌-◌, ◌*◌, ◌<◌, min, max, Bool, true, false, ◌&&◌, not, nat_eq, nat_lt, nat_le, if◌then◌else◌, Option, Some, None, is_none, List, [], ◌∷◌, ◌++◌, length, take}
use Rattle.std.specs.List.{AllByRecursion, flat_map}
use Rattle.site_disk.specs.Bytes.{extent}
use Rattle.block_chain.specs.declared.runs.Run.{Run}
use Rattle.catalogue_slots.specs.Records.{Object, Record, add, more, del, base, IsRecord, slots_for}
use Rattle.catalogue_slots.specs.Layout.{spelling}
use Rattle.block_chain.specs.Blocks.{blocks_for, blocks_in}
use Rattle.catalogue_replay.specs.Contents.{Contents, has_copy, without}

-- an object whose runs aren't all there yet: the count of all, and those so far
pub record Rest : Type 0 where
  pub count : ℕ
  pub object : Object

-- what some of the first slots say: how many slots they are, the last copy id, the copy id of the last Add, the live objects, and the
-- object whose Mores come next
pub record State : Type 0 where
  pub read : ℕ
  pub last : ℕ
  pub added : ℕ
  pub objects : List Object
  pub rest : Option Rest

-- before the first slot
abbrev pub fresh : State
fresh = record { read = 0; last = 0; added = 0; objects = []; rest = None }

-- where the last of some runs ends, and where the first of some begins
abbrev pub end_of : List Run → ℕ
end_of [] = 0
end_of (run ∷ []) = run.first + run.count
end_of (run ∷ next ∷ runs) = end_of (next ∷ runs)

abbrev pub begin_of : List Run → ℕ
begin_of [] = 0
begin_of (run ∷ runs) = run.first

-- an object with so many runs in all is live once they are all there, and have the blocks that its bytes take
abbrev pub with_runs : State → ℕ → Object → Option State
with_runs state count object =
    if not (nat_eq (length object.runs) count) then Some (record state { rest = Some (record { count = count; object = object }) })
    else (if nat_eq (blocks_in object.runs) (blocks_for object.size) then Some (record state { objects = state.objects ++ object ∷ []; rest = None }) else None)

-- more runs come behind those so far where they are as many as fit or are wanted, and the first of them doesn't begin where the last one ends
abbrev pub may_continue : Rest → ℕ → List Run → Bool
may_continue rest copy runs =
    nat_eq rest.object.copy copy && nat_eq (length runs) (min 510 (rest.count - length rest.object.runs))
    && not (nat_eq (end_of rest.object.runs) (begin_of runs))

abbrev pub continued : State → Option Rest → ℕ → List Run → Option State
continued state None copy runs = None
continued state (Some rest) copy runs =
    if may_continue rest copy runs then with_runs state rest.count (record rest.object { runs = rest.object.runs ++ runs }) else None

-- What one record more makes of the live objects, of so many slots in all; none where it may not come there. The copy ids of Adds rise,
-- all slots of an object are there, a Del names a live object, and a Base comes first.
abbrev pub taken : ℕ → State → Record → Option State
taken used state (add count object) =
    if is_none state.rest && nat_lt state.added object.copy && nat_le (state.read + slots_for count) used
    then with_runs (record state { last = max state.last object.copy; added = object.copy }) count object else None
taken used state (more copy runs) = continued (record state { rest = None }) state.rest copy runs
taken used state (del copy) =
    if is_none state.rest && has_copy copy state.objects then Some (record state { objects = without copy state.objects }) else None
taken used state (base last) = if nat_eq state.read 0 && is_none state.rest then Some (record state { last = max state.last last }) else None

-- what follows, as long as nothing is refused
abbrev pub next : {A B : Type 0} → Option A → (A → Option B) → Option B
next None f = None
next (Some a) f = f a

-- one slot on
abbrev pub after : ℕ → State → Record → Option State
after used state entry = next (taken used state entry) (λ s. Some (record s { read = s.read + 1 }))

-- what so many records say, of so many slots in all
abbrev pub follow : ℕ → State → List Record → Option State
follow used state [] = Some state
follow used state (entry ∷ entries) = next (after used state entry) (λ s. follow used s entries)

-- the catalogue as it is read
abbrev pub contents_of : State → Contents
contents_of state = record { last = state.last; objects = state.objects }

-- the first slots spell records that say this, and the state counts them
pub record Reads (used : ℕ) (bytes : List ℕ) (state : State) : Type 0 where
  pub records : List Record
  pub each : AllByRecursion IsRecord records
  pub count : length records ≡ state.read
  pub spelled : take (4096 * state.read) bytes ≡ flat_map spelling records
  pub read : follow used fresh records ≡ Some state

-- up to this slot all is in the grammar, and in it nothing stands that may come next
pub record StopsAt (used : ℕ) (bytes : List ℕ) (slot : ℕ) : Type 0 where
  pub state : State
  pub reads : Reads used bytes state
  pub at : state.read ≡ slot
  pub stuck : (entry : Record) → IsRecord entry → extent (4096 * slot) 4096 bytes ≡ spelling entry → taken used state entry ≡ None

-- all slots up to a place are in the grammar, or one before it isn't
abbrev pub ReadsOn : ℕ → List ℕ → ℕ → State → Bool → Type 0
ReadsOn used bytes end state true = Reads used bytes state × (state.read ≡ end)
ReadsOn used bytes end state false = StopsAt used bytes state.read × (state.read < end)

-- a record was taken, or refused
abbrev pub Takes : Option State → State → Bool → Type 0
Takes said state true = said ≡ Some state
Takes said state false = said ≡ None
