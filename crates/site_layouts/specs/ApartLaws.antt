-- What a move of one disk leaves apart what the others show.
use Rattle.std.specs.Prelude.{◌≡◌, ℕ, suc, ◌≤◌, List, [], ◌∷◌, length, reverse, slice_get, Bool, true, false, Some}
use Rattle.std.specs.List.{AllByRecursion}
use Rattle.std.proofs.Common.{arith, refl, sym, subst}
use Rattle.std.proofs.lemmas.Bool.{true≢false}
use Rattle.std.proofs.lemmas.List.{reverse-append}
use Rattle.log_history.specs.History.{LogEntry, begin, write, commit, abort, reset}
use Rattle.log_history.specs.Live.{reset_points, reset_points_back}
use Rattle.site_model.specs.declared.disk_name.DiskName.{DiskName}
use Rattle.site_model.specs.declared.disk_name.DiskName.TheVariants.{Cat, Spare, Boot, Log, Volume, Chunk}
use Rattle.backup_lines.specs.Lines.{Line}
use Rattle.backup_lines.specs.Spans.{Active, Point}
use Rattle.site_worlds.specs.Worlds.{Kept, LaneState, Site}
use Rattle.site_worlds.specs.Lanes.{FitLane, IsAtEnd, IsReplayed, IsUnder}
use Rattle.site_worlds.specs.Fitness.{IsFitSite}
use Rattle.site_worlds.specs.Moves.{Move, append_batch, append_reset, close_file, drop_oldest, next_file, mark_backed, format_log, commit_objects, append_lines, begin_restore, set_prepared, end_restore, move_lanes, site_after}
use Rattle.site_worlds.specs.Allowed.{CanMove, IsNoReset}
use Rattle.world_laws.specs.ListLaws.{all_append}
use Rattle.world_laws.specs.LinesLaws.{reached_within}
use Rattle.site_layouts.specs.Disks.{moves_disk}
use Rattle.site_layouts.specs.Stores.{Held}
use Rattle.site_layouts.specs.Layouts.{ShowsSite}
use Rattle.site_layouts.specs.VolumeLaws.{IsSentTo, volume_votes}
use Rattle.site_layouts.specs.ChunkLaws.{lane_from_first, lane_of_all, batch_shows, reset_shows, lines_show, begin_shows, prepared_shows, end_shows}

-- What a disk has to have already where another one moves: of a transaction of the store, the objects that it adds to a volume. Other moves
-- need nothing.
abbrev pub Awaits : Move → DiskName → List ℕ → Type 0
Awaits (commit_objects added deleted) (Volume n) bytes = AllByRecursion (IsSentTo n bytes) added
Awaits move name bytes = Unit {0}

-- a batch has no Reset

plain_reverse : (records : List LogEntry) → AllByRecursion IsNoReset records → AllByRecursion IsNoReset (reverse records)
plain_reverse [] plain = tt
plain_reverse (entry ∷ records) plain =
    subst (AllByRecursion IsNoReset) (sym (reverse-append (entry ∷ []) records))
    (all_append IsNoReset (reverse records) (entry ∷ []) (plain_reverse records plain.1) (plain.0, tt))

no_points_back : (back : List LogEntry) → AllByRecursion IsNoReset back → reset_points_back back ≡ []
no_points_back [] plain = refl
no_points_back (begin txn ∷ back) plain = no_points_back back plain.1
no_points_back (write txn patch ∷ back) plain = no_points_back back plain.1
no_points_back (commit txn time ∷ back) plain = no_points_back back plain.1
no_points_back (abort txn ∷ back) plain = no_points_back back plain.1
no_points_back (reset restore target time ∷ back) plain = absurd plain.0

no_points : (records : List LogEntry) → AllByRecursion IsNoReset records → reset_points records ≡ []
no_points records plain = no_points_back (reverse records) (plain_reverse records plain)

-- what is known of a fit site

lane_fits : (site : Site) → IsFitSite site → (n : ℕ) (lane : LaneState) → slice_get site.lanes n ≡ Some lane
    → FitLane site.head.spaces site.history site.lines site.active n lane
lane_fits site fit n lane is = lane_from_first (FitLane site.head.spaces site.history site.lines site.active) site.lanes n lane fit.lanes.each is

goal_within : (site : Site) → IsFitSite site → (restore : Active) → site.active ≡ Some restore → restore.to ≤ length site.history
goal_within site fit restore is =
    omega (arith, (fit.restore.fits restore is).reached, reached_within site.head site.history site.starts site.store site.lines fit.history.inside fit.lines)

named_within : (site : Site) → IsFitSite site → (named : ℕ) → IsUnder site.active named → named ≤ site.number
named_within site fit named under = omega (arith, under.same, (fit.restore.fits under.restore under.is).same)

-- each move

-- what any disk but the ones that move shows
abbrev Stays : Move → Site → Held → DiskName → List ℕ → Type 0
Stays move site held name bytes = ShowsSite name site held bytes → ShowsSite name (site_after move site) held bytes

moved : {A : Type 0} → true ≡ false → A
moved is = absurd (true≢false is)

batch_apart : (records : List LogEntry) (site : Site) (held : Held) (name : DiskName) (bytes : List ℕ) → CanMove (append_batch records) site → IsFitSite site
    → moves_disk (append_batch records) name ≡ false → Stays (append_batch records) site held name bytes
batch_apart records site held Cat bytes can fit rests shows = shows
batch_apart records site held Spare bytes can fit rests shows = shows
batch_apart records site held Boot bytes can fit rests shows = shows
batch_apart records site held Log bytes can fit rests shows = moved rests
batch_apart records site held (Volume n) bytes can fit rests shows = shows
batch_apart records site held (Chunk n) bytes can fit rests shows =
    batch_shows site.head site.history records site.lines site.number site.active n (slice_get site.lanes n) bytes can.none (no_points records can.plain)
    (λ lane is. lane_fits site fit n lane is) shows

reset_apart : (restore target time : ℕ) (site : Site) (held : Held) (name : DiskName) (bytes : List ℕ) → CanMove (append_reset restore target time) site → IsFitSite site
    → moves_disk (append_reset restore target time) name ≡ false → Stays (append_reset restore target time) site held name bytes
reset_apart restore target time site held Cat bytes can fit rests shows = shows
reset_apart restore target time site held Spare bytes can fit rests shows = shows
reset_apart restore target time site held Boot bytes can fit rests shows = shows
reset_apart restore target time site held Log bytes can fit rests shows = moved rests
reset_apart restore target time site held (Volume n) bytes can fit rests shows = shows
reset_apart restore target time site held (Chunk n) bytes can fit rests shows =
    reset_shows site.head site.history (reset restore target time ∷ []) site.lines site.number can.under site.active n (slice_get site.lanes n) bytes
    can.is (goal_within site fit can.under can.is) (λ lane is. lane_of_all (IsReplayed can.under) site.lanes n lane can.replayed is) shows

close_apart : (site : Site) (held : Held) (name : DiskName) (bytes : List ℕ) → moves_disk close_file name ≡ false → Stays close_file site held name bytes
close_apart site held Cat bytes rests shows = shows
close_apart site held Spare bytes rests shows = shows
close_apart site held Boot bytes rests shows = shows
close_apart site held Log bytes rests shows = moved rests
close_apart site held (Volume n) bytes rests shows = shows
close_apart site held (Chunk n) bytes rests shows = shows

drop_apart : (site : Site) (held : Held) (name : DiskName) (bytes : List ℕ) → moves_disk drop_oldest name ≡ false → Stays drop_oldest site held name bytes
drop_apart site held Cat bytes rests shows = shows
drop_apart site held Spare bytes rests shows = shows
drop_apart site held Boot bytes rests shows = shows
drop_apart site held Log bytes rests shows = moved rests
drop_apart site held (Volume n) bytes rests shows = shows
drop_apart site held (Chunk n) bytes rests shows = shows

next_apart : (site : Site) (held : Held) (name : DiskName) (bytes : List ℕ) → moves_disk next_file name ≡ false → Stays next_file site held name bytes
next_apart site held Cat bytes rests shows = shows
next_apart site held Spare bytes rests shows = shows
next_apart site held Boot bytes rests shows = shows
next_apart site held Log bytes rests shows = moved rests
next_apart site held (Volume n) bytes rests shows = shows
next_apart site held (Chunk n) bytes rests shows = shows

mark_apart : (file : ℕ) (site : Site) (held : Held) (name : DiskName) (bytes : List ℕ) → moves_disk (mark_backed file) name ≡ false → Stays (mark_backed file) site held name bytes
mark_apart file site held Cat bytes rests shows = shows
mark_apart file site held Spare bytes rests shows = shows
mark_apart file site held Boot bytes rests shows = shows
mark_apart file site held Log bytes rests shows = moved rests
mark_apart file site held (Volume n) bytes rests shows = shows
mark_apart file site held (Chunk n) bytes rests shows = shows

format_apart : (site : Site) (held : Held) (name : DiskName) (bytes : List ℕ) → moves_disk format_log name ≡ false → Stays format_log site held name bytes
format_apart site held Cat bytes rests shows = shows
format_apart site held Spare bytes rests shows = shows
format_apart site held Boot bytes rests shows = shows
format_apart site held Log bytes rests shows = moved rests
format_apart site held (Volume n) bytes rests shows = shows
format_apart site held (Chunk n) bytes rests shows = shows

-- A volume that already reads the objects that a transaction adds shows the store behind it.
vote_apart : (added : List Kept) (deleted : List ℕ) (site : Site) (held : Held) (name : DiskName) (bytes : List ℕ) → CanMove (commit_objects added deleted) site → IsFitSite site
    → Awaits (commit_objects added deleted) name bytes → moves_disk (commit_objects added deleted) name ≡ false
    → Stays (commit_objects added deleted) site held name bytes
vote_apart added deleted site held Cat bytes can fit sent rests shows = moved rests
vote_apart added deleted site held Spare bytes can fit sent rests shows = shows
vote_apart added deleted site held Boot bytes can fit sent rests shows = shows
vote_apart added deleted site held Log bytes can fit sent rests shows = shows
vote_apart added deleted site held (Volume n) bytes can fit sent rests shows =
    λ there. volume_votes site.head site.store added deleted n bytes fit.store.damaged can.follow sent (shows there)
vote_apart added deleted site held (Chunk n) bytes can fit sent rests shows = shows

lines_apart : (more : List Line) (site : Site) (held : Held) (name : DiskName) (bytes : List ℕ) → moves_disk (append_lines more) name ≡ false → Stays (append_lines more) site held name bytes
lines_apart more site held Cat bytes rests shows = shows
lines_apart more site held Spare bytes rests shows = shows
lines_apart more site held Boot bytes rests shows = moved rests
lines_apart more site held Log bytes rests shows = shows
lines_apart more site held (Volume n) bytes rests shows = shows
lines_apart more site held (Chunk n) bytes rests shows =
    lines_show site.head site.history site.lines more site.number site.active n (slice_get site.lanes n) bytes shows

begin_apart : (point : Point) (to : ℕ) (site : Site) (held : Held) (name : DiskName) (bytes : List ℕ) → IsFitSite site
    → moves_disk (begin_restore point to) name ≡ false → Stays (begin_restore point to) site held name bytes
begin_apart point to site held Cat bytes fit rests shows = shows
begin_apart point to site held Spare bytes fit rests shows = shows
begin_apart point to site held Boot bytes fit rests shows = moved rests
begin_apart point to site held Log bytes fit rests shows = shows
begin_apart point to site held (Volume n) bytes fit rests shows = shows
begin_apart point to site held (Chunk n) bytes fit rests shows =
    begin_shows site.head site.history site.lines site.number site.active (record { number = suc site.number; point = point; to = to; prepared = false }) n site.lanes bytes
    refl (named_within site fit) fit.lanes.each shows

prepared_apart : (prepared : Bool) (site : Site) (held : Held) (name : DiskName) (bytes : List ℕ) → moves_disk (set_prepared prepared) name ≡ false
    → Stays (set_prepared prepared) site held name bytes
prepared_apart prepared site held Cat bytes rests shows = shows
prepared_apart prepared site held Spare bytes rests shows = shows
prepared_apart prepared site held Boot bytes rests shows = moved rests
prepared_apart prepared site held Log bytes rests shows = shows
prepared_apart prepared site held (Volume n) bytes rests shows = shows
prepared_apart prepared site held (Chunk n) bytes rests shows =
    prepared_shows site.head site.history site.lines site.number prepared site.active n (slice_get site.lanes n) bytes shows

end_apart : (site : Site) (held : Held) (name : DiskName) (bytes : List ℕ) → CanMove end_restore site → moves_disk end_restore name ≡ false
    → Stays end_restore site held name bytes
end_apart site held Cat bytes can rests shows = shows
end_apart site held Spare bytes can rests shows = shows
end_apart site held Boot bytes can rests shows = moved rests
end_apart site held Log bytes can rests shows = shows
end_apart site held (Volume n) bytes can rests shows = shows
end_apart site held (Chunk n) bytes can rests shows =
    end_shows site.head site.history site.lines site.number (length site.history) site.active n (slice_get site.lanes n) bytes
    (λ lane is. lane_of_all (IsAtEnd (length site.history)) site.lanes n lane can.lanes is) shows

-- whatever the lanes come to
pub lanes_apart : (mids : List LaneState) (site : Site) (held : Held) (name : DiskName) (bytes : List ℕ) → moves_disk (move_lanes mids) name ≡ false
    → ShowsSite name site held bytes → ShowsSite name (record site { lanes = mids }) held bytes
lanes_apart mids site held Cat bytes rests shows = shows
lanes_apart mids site held Spare bytes rests shows = shows
lanes_apart mids site held Boot bytes rests shows = shows
lanes_apart mids site held Log bytes rests shows = shows
lanes_apart mids site held (Volume n) bytes rests shows = shows
lanes_apart mids site held (Chunk n) bytes rests shows = moved rests

-- A move that may be made leaves apart what the other disks show.
pub apart : (move : Move) (site : Site) (held : Held) (name : DiskName) (bytes : List ℕ) → CanMove move site → IsFitSite site → Awaits move name bytes
    → moves_disk move name ≡ false → ShowsSite name site held bytes → ShowsSite name (site_after move site) held bytes
apart (append_batch records) site held name bytes can fit awaits rests = batch_apart records site held name bytes can fit rests
apart (append_reset restore target time) site held name bytes can fit awaits rests = reset_apart restore target time site held name bytes can fit rests
apart close_file site held name bytes can fit awaits rests = close_apart site held name bytes rests
apart drop_oldest site held name bytes can fit awaits rests = drop_apart site held name bytes rests
apart next_file site held name bytes can fit awaits rests = next_apart site held name bytes rests
apart (mark_backed file) site held name bytes can fit awaits rests = mark_apart file site held name bytes rests
apart format_log site held name bytes can fit awaits rests = format_apart site held name bytes rests
apart (commit_objects added deleted) site held name bytes can fit awaits rests = vote_apart added deleted site held name bytes can fit awaits rests
apart (append_lines more) site held name bytes can fit awaits rests = lines_apart more site held name bytes rests
apart (begin_restore point to) site held name bytes can fit awaits rests = begin_apart point to site held name bytes fit rests
apart (set_prepared prepared) site held name bytes can fit awaits rests = prepared_apart prepared site held name bytes rests
apart end_restore site held name bytes can fit awaits rests = end_apart site held name bytes can rests
apart (move_lanes goals) site held name bytes can fit awaits rests = lanes_apart goals site held name bytes rests
