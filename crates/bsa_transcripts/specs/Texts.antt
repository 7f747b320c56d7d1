-- What is printed of an answer. Every line ends with a line feed; numbers are decimal, hex is in lower case.
use Rattle.std.specs.Prelude.{ℕ, List, [], ◌∷◌, ◌++◌, codes}
use Rattle.std.specs.Fmt.{decimal}
use Rattle.std.specs.List.{flat_map}
use Rattle.hex.specs.Hex.{encode_lower}
use Rattle.bsa_descriptor.specs.declared.descriptor.Descriptor.{Descriptor}
use Rattle.bsa_descriptor.specs.declared.kinds.CopyType.{CopyType}
use Rattle.bsa_descriptor.specs.declared.kinds.CopyType.TheVariants as copy_type
use Rattle.bsa_descriptor.specs.declared.kinds.ObjectType.{ObjectType}
use Rattle.bsa_descriptor.specs.declared.kinds.ObjectType.TheVariants as object_type
use Rattle.bsa_descriptor.specs.declared.kinds.ObjectStatus.{ObjectStatus}
use Rattle.bsa_descriptor.specs.declared.kinds.ObjectStatus.TheVariants as status
use Rattle.session_machine.specs.declared.answers.BsaRc.{BsaRc}
use Rattle.session_machine.specs.declared.answers.BsaRc.TheVariants.{Success, InvalidCallSequence, InvalidObjectDescriptor, NoMatch, NoMoreData, ObjectNotFound, InvalidVote, NoResources, AccessFailure, Damaged, OutOfMemory}
use Rattle.bsa_transcripts.specs.declared.replies.Reply.{Reply}
use Rattle.bsa_transcripts.specs.declared.replies.Reply.TheVariants.{Nothing, Code, Sent, Found, Opened, Given, Ended}

-- the name of a code, without what it carries
abbrev pub code_text : BsaRc → List ℕ
code_text Success = codes "Success"
code_text InvalidCallSequence = codes "InvalidCallSequence"
code_text InvalidObjectDescriptor = codes "InvalidObjectDescriptor"
code_text NoMatch = codes "NoMatch"
code_text NoMoreData = codes "NoMoreData"
code_text ObjectNotFound = codes "ObjectNotFound"
code_text InvalidVote = codes "InvalidVote"
code_text (NoResources lack) = codes "NoResources"
code_text (AccessFailure access) = codes "AccessFailure"
code_text (Damaged kept found) = codes "Damaged"
code_text OutOfMemory = codes "OutOfMemory"

abbrev pub copy_type_text : CopyType → List ℕ
copy_type_text copy_type.Any = codes "any"
copy_type_text copy_type.Archive = codes "archive"
copy_type_text copy_type.Backup = codes "backup"

abbrev pub object_type_text : ObjectType → List ℕ
object_type_text object_type.Any = codes "any"
object_type_text object_type.Database = codes "database"
object_type_text object_type.Log = codes "log"

abbrev pub status_text : ObjectStatus → List ℕ
status_text status.Any = codes "any"
status_text status.MostRecent = codes "mostrecent"
status_text status.NotMostRecent = codes "notmostrecent"

-- the first line of a match
abbrev pub match_text : ℕ → ℕ → Descriptor → List ℕ
match_text copy size descriptor =
    codes "Success copy " ++ (decimal copy ++ (codes " " ++ (copy_type_text descriptor.copy_type ++ (codes " " ++ (object_type_text descriptor.object_type
    ++ (codes " " ++ (status_text descriptor.status ++ (codes " size " ++ (decimal size ++ 10 ∷ [])))))))))

-- the other two
abbrev pub names_text : Descriptor → List ℕ
names_text descriptor = codes " space " ++ (descriptor.space ++ (10 ∷ codes " path " ++ (descriptor.path ++ 10 ∷ [])))

abbrev pub match_lines : ℕ → ℕ → Descriptor → List ℕ
match_lines copy size descriptor = match_text copy size descriptor ++ names_text descriptor

-- the copy id of a new object
abbrev pub copies_text : ℕ → List ℕ
copies_text copy = codes " copy " ++ decimal copy

-- the end of a transaction whose new objects have these copy ids
abbrev pub ended_text : List ℕ → List ℕ
ended_text copies = codes "Success" ++ (flat_map copies_text copies ++ 10 ∷ [])

abbrev pub reply_text : Reply → List ℕ
reply_text Nothing = []
reply_text (Code code) = code_text code ++ 10 ∷ []
reply_text (Sent size digest) = codes "Success size " ++ (decimal size ++ (codes " digest " ++ (encode_lower digest ++ 10 ∷ [])))
reply_text (Found copy size descriptor) = match_lines copy size descriptor
reply_text (Opened size) = codes "Success size " ++ (decimal size ++ 10 ∷ [])
reply_text (Given bytes) = codes "Success " ++ (encode_lower bytes.items ++ 10 ∷ [])
reply_text (Ended copies) = ended_text copies.items
