use Rattle.std.proofs.Common.{◌≡◌, ◌+◌, ◌*◌, ℕ, List, length}
use Rattle.site_disk.specs.Bytes.{extent}
use Rattle.catalogue_replay.specs.Journal.{Reads}
use Rattle.catalogue_replay.specs.Replays.{state_of}
use Rattle.catalogue_replay.specs.declared.replay.Replay.{Replay}
use Rattle.catalogue_replay.proofs.replay.Replay.follow_run.Given as goal

-- the records were followed, up to here
pub record HasFollowed (used : ℕ) (run : List ℕ) (old now : Replay) (count : ℕ) : Type 0 where
  pub followed : (bytes : List ℕ) → Reads used bytes (state_of old) → extent (4096 * old.read) (length run) bytes ≡ run → Reads used bytes (state_of now)
  pub at : now.read ≡ old.read + count

abbrev pub invariant-loop-i : goal.invariant-loop-i
invariant-loop-i l = HasFollowed l.used l.run l.initial.self l.self l.i
