-- The texts that `onbar` prints. Every line ends with a line feed; numbers are decimal.
use Rattle.std.specs.Prelude.{ℕ, List, [], ◌∷◌, ◌++◌, length, drop, count_by, Bool, true, false, codes, if◌then◌else◌, nat_lt}
use Rattle.std.specs.Fmt.{decimal}
use Rattle.log_history.specs.History.{LogEntry, History, commit}
use Rattle.onbar_grammar.specs.Script.{Space}
use Rattle.onbar_grammar.specs.declared.Why.{Why}
use Rattle.onbar_grammar.specs.declared.Why.TheVariants.{Words, NoSpace, NoPage, Range, AlreadyOpen, NotOpen, TooManyOpen, TooLong, ScriptTooLong, OutOfMemory as NoMemory}
use Rattle.site_model.specs.declared.disk_name.DiskName.{DiskName}
use Rattle.site_model.specs.declared.disk_name.DiskName.TheVariants.{Cat, Spare, Boot, Log, Volume, Chunk}
use Rattle.log_files.specs.declared.room.LogFull.{LogFull}
use Rattle.log_files.specs.declared.room.LogFull.TheVariants.{NotBackedUp, Needed, Positions}
use Rattle.site_model.specs.declared.status.Status.{Status}
use Rattle.site_model.specs.declared.status.Status.TheVariants.{Ok as Done, Usage, ScriptFault, NotFormatted, AlreadyFormatted, BadRecord, NoSuchSpace, NoSuchCopy, NoSuchPage, NoSuchLog, NeedsRestart, NothingToRestart, ChunkLost, LogLost, Refused, LogFull as Full, StoreFull, CatalogueFull, BootFull, TooManyObjects}

abbrev pub line : List ℕ → List ℕ
line text = text ++ 10 ∷ []

abbrev pub is_commit_entry : LogEntry → Bool
is_commit_entry (commit txn time) = true
is_commit_entry entry = false

-- of records that stand: how many, how many of them Commits, and the end of the log
abbrev pub counts_text : ℕ → ℕ → ℕ → List ℕ
counts_text lines commits end = codes "lines " ++ (decimal lines ++ (codes " commits " ++ (decimal commits ++ (codes " end " ++ (decimal end ++ 10 ∷ [])))))

-- what `-init` prints of a space that it made
abbrev pub space_text : Space → List ℕ
space_text space = codes "space " ++ (space.name ++ (codes " pages " ++ (decimal space.pages ++ 10 ∷ [])))

-- what `-T` prints of a log that was extended
abbrev pub extension_text : History → History → List ℕ
extension_text before after =
    let added = drop (length before) after in counts_text (length added) (count_by is_commit_entry added) (length after)

abbrev pub why_text : Why → List ℕ
why_text Words = codes "words"
why_text NoSpace = codes "no space"
why_text NoPage = codes "no page"
why_text Range = codes "range"
why_text AlreadyOpen = codes "already open"
why_text NotOpen = codes "not open"
why_text TooManyOpen = codes "too many open"
why_text TooLong = codes "line too long"
why_text ScriptTooLong = codes "script too long"
why_text NoMemory = []

-- a number in two digits, or in more from 100 on
abbrev pub two_digits : ℕ → List ℕ
two_digits n = if nat_lt n 10 then 48 ∷ decimal n else decimal n

-- the file that stands for a disk
abbrev pub disk_text : DiskName → List ℕ
disk_text Cat = codes "cat"
disk_text Spare = codes "spare"
disk_text Boot = codes "boot"
disk_text Log = codes "log"
disk_text (Volume n) = codes "vol" ++ two_digits n
disk_text (Chunk n) = codes "chunk" ++ two_digits n

abbrev pub bad_record_text : DiskName → ℕ → List ℕ
bad_record_text disk slot = codes "bad record in " ++ (disk_text disk ++ (codes " at slot " ++ (decimal slot ++ 10 ∷ [])))

abbrev pub full_text : LogFull → List ℕ
full_text (NotBackedUp file) = codes "log full: file " ++ (decimal file ++ line (codes " not backed up"))
full_text (Needed file txn) = codes "log full: file " ++ (decimal file ++ (codes " needed by transaction " ++ (decimal txn ++ 10 ∷ [])))
full_text (Positions end) = line (codes "log full: no position left")

-- The last line that a command prints; nothing at the statuses that end it as a stop does.
abbrev pub status_text : Status → List ℕ
status_text Done = line (codes "ok")
status_text (Usage n) = codes "usage at word " ++ (decimal n ++ 10 ∷ [])
status_text (ScriptFault n why) = codes "script fault at line " ++ (decimal n ++ (codes ": " ++ (why_text why ++ 10 ∷ [])))
status_text NotFormatted = line (codes "not formatted")
status_text AlreadyFormatted = line (codes "already formatted")
status_text (BadRecord disk slot) = bad_record_text disk slot
status_text (NoSuchSpace name) = codes "no such space " ++ (name ++ 10 ∷ [])
status_text (NoSuchCopy n) = codes "no such copy " ++ (decimal n ++ 10 ∷ [])
status_text (NoSuchPage n) = codes "no such page " ++ (decimal n ++ 10 ∷ [])
status_text (NoSuchLog n) = codes "no such log " ++ (decimal n ++ 10 ∷ [])
status_text (NeedsRestart n) = codes "restore " ++ (decimal n ++ line (codes " is active"))
status_text NothingToRestart = line (codes "nothing to restart")
status_text (ChunkLost name) = codes "chunk of " ++ (name ++ line (codes " lost"))
status_text LogLost = line (codes "log lost")
status_text (Refused lacking) = line (codes "refused")
status_text (Full why) = full_text why
status_text (StoreFull n) = codes "store full on volume " ++ (decimal n ++ 10 ∷ [])
status_text CatalogueFull = line (codes "catalogue full")
status_text BootFull = line (codes "boot file full")
status_text TooManyObjects = line (codes "too many objects")
status_text status = []
