-- What is read of the log for a restore: the records of the files that are needed, in order.
use Rattle.std.specs.Prelude.{ℕ, suc, ◌-◌, List, [], ◌∷◌, length, reverse, take, map, filter, Bool, ◌&&◌, nat_lt, nat_le, if◌then◌else◌}
use Rattle.std.specs.List.{flat_map, list_any}
use Rattle.log_history.specs.History.{LogEntry, History, entry_at}
use Rattle.log_history.specs.Effects.{Change, change_by, effective, writes_of}
use Rattle.site_worlds.specs.Worlds.{Site}
use Rattle.site_courses.specs.Plans.{logs_at}

-- of records given newest first those at positions that pass
abbrev pub read_back : (ℕ → Bool) → List LogEntry → List LogEntry
read_back is_read [] = []
read_back is_read (entry ∷ past) = if is_read (suc (length past)) then entry ∷ read_back is_read past else read_back is_read past

-- the changes of the commits in effect at q that stand above a, where only the records at positions that pass are read
abbrev pub changes_read : (ℕ → Bool) → History → ℕ → ℕ → List Change
changes_read is_read history q a =
    flat_map (λ c. map (change_by c) (writes_of (entry_at history c) (read_back is_read (reverse (take (c - 1) history)))))
    (filter (λ x. nat_lt a x) (effective history q))

-- a position is in a file that is needed
abbrev pub is_read : Site → ℕ → ℕ → Bool
is_read site to x = list_any (λ span. nat_le span.first x && nat_le x span.last) (logs_at site to)
