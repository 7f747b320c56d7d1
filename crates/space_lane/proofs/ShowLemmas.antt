-- What a chunk shows while a lane is opened and its state is set.
use Rattle.std.proofs.Common.{◌≡◌, ◌⊎◌, ℕ, ◌*◌, List, length, Some, None, refl, arith, ap, sym, subst, ◌∙◌}
use mathlib.Core.Logic.{inl, inr}
use Rattle.site_disk.specs.Bytes.{extent}
use Rattle.log_history.specs.Effects.{Page}
use Rattle.twin_mark.specs.Marks.{record_of}
use Rattle.before_images.specs.Saved.{MayPutBack, applies, restored, saved_at}
use Rattle.before_images.specs.RegionLaws.{restored_not}
use Rattle.before_images.specs.RestoredLaws.{same_restored}
use Rattle.backup_lines.specs.declared.lanes.LaneState.{LaneState}
use Rattle.lane_ways.specs.Pictures.{MayMove, Picture, Shows, Stand, images_at, mark_at, pages_at}
use Rattle.lane_ways.specs.PictureLaws.{stand_same}
use Rattle.lane_mark.specs.Layout.{spelling}
use Rattle.space_lane.specs.Chunks.{HoldsState}
use Rattle.space_lane.specs.Shown.{picture_of}
use Rattle.space_lane.specs.Stops.{MaySet, Sets}

pub shown : (site space upto part : ℕ) (state : LaneState) (pages : List Page) (bytes : List ℕ) → HoldsState site space (length pages) state bytes
    → restored images_at pages_at (length pages) upto part bytes ≡ bytes → Stand space 0 pages bytes → Shows (picture_of space state upto part pages bytes) bytes
shown site space upto part state pages bytes holds is stand = record {
  header = refl;
  mark = holds.mark.stands;
  long = holds.long;
  pages = subst (Stand space 0 pages) (sym is) stand;
}

pub shown_back : (picture : Picture) (old new : List ℕ) → MayPutBack images_at pages_at (length picture.pages) picture.upto picture.part old new → Shows picture old → Shows picture new
shown_back picture old new may shows = record {
  header = may.elsewhere 0 4096 (inl (omega arith)) ∙ shows.header;
  mark = ap record_of (may.elsewhere mark_at 1024 (inl (omega arith))) ∙ shows.mark;
  long = omega (arith, shows.long, may.no_shorter);
  pages = subst (Stand picture.space 0 picture.pages) (sym may.back) shows.pages;
}

module _ (space upto part to more : ℕ) (before state : LaneState) (pages : List Page) (bytes : List ℕ) (shows : Shows (picture_of space before upto part pages bytes) bytes)
    (stand : Stand space 0 pages bytes) where
  abbrev first : Picture
  first = picture_of space before upto part pages bytes

  abbrev second : Picture
  second = picture_of space state to more pages bytes

  module _ (new : List ℕ) (sets : Sets (spelling state) bytes new) where
    same_pages : extent pages_at (4096 * length pages) bytes ≡ extent pages_at (4096 * length pages) new
    same_pages = sym (sets.pages pages_at (4096 * length pages) (omega arith))

    -- with nothing kept the pages stand as they are
    stand_none : (u p : ℕ) → saved_at images_at new ≡ None → Stand space 0 pages (restored images_at pages_at (length pages) u p new)
    stand_none u p none =
        subst (Stand space 0 pages) (sym (restored_not images_at pages_at (length pages) u p new (ap (applies (length pages) u p) none)))
        (stand_same space 0 (length pages) pages bytes new (omega arith) same_pages stand)

    stand_kept : (saved_at images_at new ≡ saved_at images_at bytes) ⊎ (saved_at images_at new ≡ None) → Stand space 0 pages (restored images_at pages_at (length pages) upto part new)
    stand_kept (inl same) =
        stand_same space 0 (length pages) pages (restored images_at pages_at (length pages) upto part bytes) (restored images_at pages_at (length pages) upto part new) (omega arith)
        (same_restored images_at pages_at (length pages) upto part bytes new (sym same) shows.long (omega (arith, shows.long, sets.no_shorter)) same_pages) shows.pages
    stand_kept (inr none) = stand_none upto part none

    by_mark : (record_of (extent mark_at 1024 new) ≡ record_of (extent mark_at 1024 bytes)) ⊎ ((record_of (extent mark_at 1024 new) ≡ Some (spelling state)) × (saved_at images_at new ≡ None))
        → MayMove first second new
    by_mark (inl same) = inl (record {
      header = sets.header;
      mark = same ∙ shows.mark;
      long = omega (arith, shows.long, sets.no_shorter);
      pages = stand_kept sets.kept;
    })
    by_mark (inr is) = inr (record {
      header = sets.header;
      mark = is.0;
      long = omega (arith, shows.long, sets.no_shorter);
      pages = stand_none to more is.1;
    })

  pub moved : (new : List ℕ) → MaySet state bytes bytes new → MayMove first second new
  moved new (inl same) = inl (subst (Shows first) (sym same) shows)
  moved new (inr sets) = by_mark new sets sets.mark
