-- What one line of a script does and is answered, over the table of states; and what the lines of a script print.
use Rattle.std.specs.Prelude.{◌≡◌, ℕ, ◌+◌, Bool, List, [], ◌∷◌, ◌++◌, take, nat_eq, Result, Ok, Err, Option, Some, None, if◌then◌else◌}
use Rattle.std.specs.declared.vec.Vec.{Vec}
use Rattle.std.specs.declared.alloc.Global.{Global}
use Rattle.bsa_descriptor.specs.declared.descriptor.Descriptor.{Descriptor}
use Rattle.bsa_descriptor.specs.Descriptor.{spelling}
use Rattle.onbar_grammar.specs.declared.Why.{Why}
use Rattle.bsa_lines.specs.Lines.{Line, init_line, begin_line, create_line, send_line, end_data_line, query_line, next_line, get_line, data_line, delete_line, end_line, terminate_line, bsa_line_of}
use Rattle.catalogue_slots.specs.Records.{Object}
use Rattle.catalogue_replay.specs.Contents.{Contents}
use Rattle.catalogue_journal.specs.Catalogues.{ids_from}
use Rattle.catalogue_journal.specs.Transactions.{ended, slots_wanted}
use Rattle.object_queries.specs.Queries.{description_of}
use Rattle.session_machine.specs.States.{State}
use Rattle.session_machine.specs.Calls.{Inits, Begins, Terminates, Creates, SendsPiece, EndsData, Queries, GetsNext, Deletes, GetsObject, GetsData, EndsTxn, object_with}
use Rattle.session_machine.specs.declared.answers.BsaRc.{BsaRc}
use Rattle.session_machine.specs.declared.answers.BsaRc.TheVariants.{Success}
use Rattle.bsa_session.specs.Voting.{added_in, deleted_in}
use Rattle.bsa_transcripts.specs.Fields.{after_line}
use Rattle.bsa_transcripts.specs.Texts.{reply_text}
use Rattle.bsa_transcripts.specs.declared.replies.Reply.{Reply}
use Rattle.bsa_transcripts.specs.declared.replies.Reply.TheVariants.{Nothing, Code, Sent, Found, Opened, Given, Ended}

-- what no line changes: whether clauses speak of disks, the moment of the run, and how many slots the catalogue has
pub record Setting : Type 0 where
  pub tells : Bool
  pub moment : ℕ
  pub capacity : ℕ

-- What stands between two lines: the descriptor that the script sets, the session, what the catalogue has, in so many used slots, and
-- what each object reads as, whole and so many bytes of it from a place on.
pub record Stand : Type 0 where
  pub descriptor : Descriptor
  pub session : State
  pub contents : Contents
  pub used : ℕ
  pub reads : Object → List ℕ
  pub part : ℕ → Object → ℕ → List ℕ

-- ---- answers

-- the answer is a code
abbrev pub IsCode : (BsaRc → Type 0) → Reply → Type 0
IsCode P (Code code) = P code
IsCode P reply = ⊥

-- the value that a call answers is told so, and each other answer by its code
abbrev pub IsToldBy : {T : Type 0} → (T → Reply → Type 0) → Result T BsaRc → Reply → Type 0
IsToldBy Tells (Ok value) reply = Tells value reply
IsToldBy Tells (Err code) reply = reply ≡ Code code

pub record Tells {T : Type 0} (call : Result T BsaRc → Type 0) (told : T → Reply → Type 0) (reply : Reply) : Type 0 where
  pub result : Result T BsaRc
  pub answers : call result
  pub is : IsToldBy told result reply

abbrev pub TellsEnd : Option (ℕ × List ℕ) → Reply → Type 0
TellsEnd None reply = reply ≡ Code Success
TellsEnd (Some sent) reply = reply ≡ Sent sent.0 sent.1

-- a match, as it is described among the committed objects, and with the size of its bytes
pub record TellsMatch (objects : List Object) (copy : ℕ) (reply : Reply) : Type 0 where
  pub object : Object
  pub is : object_with copy objects ≡ Some object
  pub descriptor : Descriptor
  pub described : description_of copy objects ≡ Some descriptor
  pub told : reply ≡ Found copy object.size descriptor

abbrev pub TellsBytes : List ℕ → ℕ → Reply → Type 0
TellsBytes into n (Given bytes) = bytes.items ≡ take n into
TellsBytes into n reply = ⊥

-- the next bytes of an object that is fetched, up to so many
pub record GivesData (setting : Setting) (count : ℕ) (old new : Stand) (reply : Reply) : Type 0 where
  pub into : List ℕ
  pub told : Tells (GetsData setting.tells (old.part count) old.contents.objects old.session new.session into) (TellsBytes into) reply

-- ---- lines

-- the catalogue's contents and used slots behind a vote with this answer
abbrev pub contents_after : ℕ → Stand → Reply → Contents
contents_after vote old (Ended copies) = if nat_eq vote 1 then ended (deleted_in old.session) (added_in old.session) old.contents else old.contents
contents_after vote old reply = old.contents

abbrev pub used_after : ℕ → Stand → Reply → ℕ
used_after vote old (Ended copies) = if nat_eq vote 1 then old.used + slots_wanted (deleted_in old.session) (added_in old.session) else old.used
used_after vote old reply = old.used

pub record Votes (setting : Setting) (vote : ℕ) (old new : Stand) (reply : Reply) : Type 0 where
  pub told : Tells {T = Vec ℕ Global} (EndsTxn vote setting.capacity old.used old.contents (λ draft. ids_from (old.contents.last + 1) draft.added) old.session new.session)
      (λ copies reply. reply ≡ Ended copies) reply
  pub contents : new.contents ≡ contents_after vote old reply
  pub used : new.used ≡ used_after vote old reply

-- the catalogue stays
pub record Stays (old new : Stand) : Type 0 where
  pub contents : new.contents ≡ old.contents
  pub used : new.used ≡ old.used

-- what a line does to the session and the catalogue, and how it is answered
abbrev pub Calls : Setting → Line → Stand → Stand → Reply → Type 0
Calls setting (init_line volume) old new reply = IsCode (Inits volume setting.moment old.session new.session) reply × Stays old new
Calls setting begin_line old new reply = IsCode (Begins old.session new.session) reply × Stays old new
Calls setting create_line old new reply = IsCode (Creates (spelling old.descriptor) old.session new.session) reply × Stays old new
Calls setting (send_line bytes) old new reply = IsCode (SendsPiece old.session new.session) reply × Stays old new
Calls setting end_data_line old new reply = Tells (EndsData old.session new.session) TellsEnd reply × Stays old new
Calls setting query_line old new reply =
    Tells (Queries old.contents.objects (spelling old.descriptor) old.session new.session) (TellsMatch old.contents.objects) reply × Stays old new
Calls setting next_line old new reply = Tells (GetsNext old.session new.session) (TellsMatch old.contents.objects) reply × Stays old new
Calls setting (get_line copy) old new reply =
    Tells (GetsObject setting.tells old.reads copy old.contents.objects old.session new.session) (λ size reply. reply ≡ Opened size) reply × Stays old new
Calls setting (data_line count) old new reply = GivesData setting count old new reply × Stays old new
Calls setting (delete_line copy) old new reply = IsCode (Deletes copy old.contents.objects old.session new.session) reply × Stays old new
Calls setting (end_line vote) old new reply = Votes setting vote old new reply
Calls setting terminate_line old new reply = IsCode (Terminates old.session new.session) reply × Stays old new
Calls setting line old new reply = (reply ≡ Nothing) × (new.session ≡ old.session) × Stays old new

pub record Steps (setting : Setting) (line : Line) (old new : Stand) (reply : Reply) : Type 0 where
  pub descriptor : new.descriptor ≡ after_line line old.descriptor
  pub call : Calls setting line old new reply

-- ---- scripts

-- what a line prints
pub record Prints (setting : Setting) (line : Line) (old new : Stand) (text : List ℕ) : Type 0 where
  pub reply : Reply
  pub steps : Steps setting line old new reply
  pub is : text ≡ reply_text reply

-- a line as its bytes say it; an empty one does nothing
abbrev pub Reads : Setting → Result (Option Line) Why → Stand → Stand → List ℕ → Type 0
Reads setting (Ok None) old new text = (new ≡ old) × (text ≡ [])
Reads setting (Ok (Some line)) old new text = Prints setting line old new text
Reads setting (Err why) old new text = ⊥

-- the first of some lines, and those behind it
pub record Goes (setting : Setting) (line : List ℕ) (later : Stand → List ℕ → Type 0) (old : Stand) (text : List ℕ) : Type 0 where
  pub between : Stand
  pub front : List ℕ
  pub rest : List ℕ
  pub first : Reads setting (bsa_line_of line) old between front
  pub others : later between rest
  pub parts : text ≡ front ++ rest

-- the transcript of some lines
abbrev pub Transcribes : Setting → List (List ℕ) → Stand → Stand → List ℕ → Type 0
Transcribes setting [] old new text = (new ≡ old) × (text ≡ [])
Transcribes setting (line ∷ lines) old new text = Goes setting line (λ between rest. Transcribes setting lines between new rest) old text
