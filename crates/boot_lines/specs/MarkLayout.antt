-- The 255 bytes of the record in the boot file's mark. Numbers are big-endian; bytes not named are 0.
use Rattle.std.specs.Prelude.{◌≡◌, ℕ, ◌^◌, ◌==◌, ◌||◌, ◌≤◌, List, [], ◌∷◌, ◌++◌, length, replicate, slice_index, Bool, true, false, if◌then◌else◌, Option, None, Some}
use Rattle.std.specs.Option.{option_map}
use Rattle.std.specs.Int.{w64, to_be_bytes}
use Rattle.byte_fields.specs.Fields.{number_at}
use Rattle.backup_lines.specs.Spans.{Active, Point, at_end, at_file, at_time}
use Rattle.backup_lines.specs.Views.{point_of}
use Rattle.backup_lines.specs.declared.points.Restore.{Restore}

abbrev pub active_of : Restore → Active
active_of restore = record { number = restore.number; point = point_of restore.point; to = restore.to; prepared = restore.prepared }

-- the file id or the time of a point, 0 at the end
abbrev pub point_number : Point → ℕ
point_number at_end = 0
point_number (at_file file) = file
point_number (at_time time) = time

-- where a restore goes to: ids, times and positions go up to 2^48
pub record IsGoal (active : Active) : Type 0 where
  pub point : point_number active.point ≤ 2 ^ 48
  pub to : active.to ≤ 2 ^ 48

-- an active restore has the last number, which is at least 1 then
abbrev pub Follows : ℕ → Option Active → Type 0
Follows number None = Unit {0}
Follows number (Some active) = (active.number ≡ number) × (1 ≤ number) × IsGoal active

-- the last number of a restore, and the restore that is under way, where there is one
pub record IsMark (number : ℕ) (active : Option Active) : Type 0 where
  pub bounded : number ≤ 2 ^ 48
  pub follows : Follows number active

-- 1 where the lanes aren't prepared, 2 where they are
abbrev pub state_code : Bool → ℕ
state_code false = 1
state_code true = 2

abbrev pub point_code : Point → ℕ
point_code at_end = 1
point_code (at_file file) = 2
point_code (at_time time) = 3

-- the state 8, the point 9, six zeros, the file id or the time 16, the position 24; zeros where no restore is active
unfoldable pub active_bytes : Option Active → List ℕ
active_bytes None = replicate 24 0
active_bytes (Some active) =
    state_code active.prepared ∷ point_code active.point ∷ replicate 6 0 ++ to_be_bytes w64 (point_number active.point) ++ to_be_bytes w64 active.to

-- the last number, the active restore from 8 on, and zeros from 32 on
unfoldable pub spelling : ℕ → Option Active → List ℕ
spelling number active = to_be_bytes w64 number ++ active_bytes active ++ replicate 223 0

-- the fields that stand in 255 bytes
unfoldable pub point_at : List ℕ → Point
point_at bytes =
    if slice_index bytes 9 == 2 then at_file (number_at w64 16 bytes)
    else (if slice_index bytes 9 == 3 then at_time (number_at w64 16 bytes) else at_end)

unfoldable pub active_at : List ℕ → Option Active
active_at bytes =
    if (slice_index bytes 8 == 1) || (slice_index bytes 8 == 2)
    then Some (record { number = number_at w64 0 bytes; point = point_at bytes; to = number_at w64 24 bytes; prepared = slice_index bytes 8 == 2 })
    else None

-- the program's restore, where one is active, as the definitions have it
abbrev pub active_in : Option Restore → Option Active
active_in restore = option_map active_of restore
