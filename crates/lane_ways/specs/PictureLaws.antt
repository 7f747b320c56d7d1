-- Laws of what a chunk shows while a step goes on: pages are saved, written, and the mark is stored.
use Rattle.std.specs.Prelude.{◌≡◌, ◌⊎◌, ℕ, ◌+◌, ◌*◌, ◌≤◌, List, [], ◌∷◌, length, true, Some, None}
use mathlib.Core.Logic.{inl, inr}
use Rattle.std.proofs.Common.{arith, refl, sym, ap, subst, ◌∙◌}
use Rattle.site_disk.specs.Bytes.{extent}
use Rattle.site_disk.specs.BytesLaws.{extent-extent}
use Rattle.log_history.specs.Effects.{Page}
use Rattle.twin_mark.specs.Marks.{MayStore, record_at, record_of}
use Rattle.before_images.specs.Saved.{MaySave, Saved, Saves, Within, applies, are_below, kept, restored, saved_at, saved_in}
use Rattle.before_images.specs.RegionLaws.{comes_back, restored_not}
use Rattle.before_images.specs.RestoredLaws.{same_restored, stays_at_other}
use Rattle.lane_ways.specs.Pictures.{MayMove, Picture, Shows, Stand, images_at, mark_at, pages_at}

-- pages stand in all bytes that have the same pages
pub stand_same : (space number limit : ℕ) (pages : List Page) (c d : List ℕ) → number + length pages ≤ limit
    → extent pages_at (4096 * limit) c ≡ extent pages_at (4096 * limit) d → Stand space number pages c → Stand space number pages d
stand_same space number limit [] c d le same stand = tt
stand_same space number limit (page ∷ pages) c d le same stand = (
  sym (extent-extent (4096 * number) 4096 pages_at (4096 * limit) d (omega (arith, le)))
      ∙ ap (extent (4096 * number) 4096) (sym same)
      ∙ extent-extent (4096 * number) 4096 pages_at (4096 * limit) c (omega (arith, le))
      ∙ stand.0,
  stand_same space (number + 1) limit pages c d (omega (arith, le)) same stand.1,
)

module _ (picture : Picture) where
  abbrev limit : ℕ
  limit = length picture.pages

  -- While saved pages are written the chunk shows what it did when they were saved.
  pub writing_shows : (pages : List ℕ) (old saved since : List ℕ) → are_below limit pages ≡ true → Shows picture old → Stand picture.space 0 picture.pages old
      → Saves images_at pages_at picture.upto picture.part pages old saved → Within pages_at limit pages saved since → Shows picture since
  writing_shows pages old saved since below shows plain saves within = record {
    header = within.elsewhere 0 4096 (λ k lt. inl (omega arith)) ∙ saves.elsewhere 0 4096 (inl (omega arith)) ∙ shows.header;
    mark = ap record_of (within.elsewhere mark_at 1024 (λ k lt. inl (omega arith)) ∙ saves.elsewhere mark_at 1024 (inl (omega arith))) ∙ shows.mark;
    long = omega (arith, shows.long, saves.no_shorter, within.no_shorter);
    pages = subst (Stand picture.space 0 picture.pages) (sym (comes_back images_at pages_at limit picture.upto picture.part pages old saved since (omega arith) below shows.long saves within))
        (stand_same picture.space 0 limit picture.pages old saved (omega arith) (sym (saves.elsewhere pages_at (4096 * limit) (inr (omega arith)))) plain);
  }

  -- The same region kept, and the same pages: the same is shown.
  kept_shows : (old new : List ℕ) → saved_at images_at new ≡ saved_at images_at old → extent pages_at (4096 * limit) new ≡ extent pages_at (4096 * limit) old
      → extent 0 4096 new ≡ extent 0 4096 old → record_at mark_at new ≡ record_at mark_at old → length old ≤ length new → Shows picture old → Shows picture new
  kept_shows old new keeps same header mark le shows = record {
    header = header ∙ shows.header;
    mark = mark ∙ shows.mark;
    long = omega (arith, shows.long, le);
    pages = stand_same picture.space 0 limit picture.pages
        (restored images_at pages_at limit picture.upto picture.part old) (restored images_at pages_at limit picture.upto picture.part new) (omega arith)
        (same_restored images_at pages_at limit picture.upto picture.part old new (sym keeps) shows.long (omega (arith, shows.long, le)) (sym same)) shows.pages;
  }

  -- While pages that stand are saved the chunk shows the same.
  pub saving_shows : (pages : List ℕ) (old new : List ℕ) → are_below limit pages ≡ true → Shows picture old → Stand picture.space 0 picture.pages old
      → MaySave images_at pages_at picture.upto picture.part pages old new → Shows picture new
  saving_shows pages old new below shows plain may = by may.saved
    where
      by : (saved_at images_at new ≡ saved_at images_at old) ⊎ (saved_at images_at new ≡ None) ⊎ (saved_at images_at new ≡ Some (kept pages_at picture.upto picture.part pages old)) → Shows picture new
      by (inl same) = kept_shows old new same (may.elsewhere pages_at (4096 * limit) (inr (omega arith))) (may.elsewhere 0 4096 (inl (omega arith)))
          (ap record_of (may.elsewhere mark_at 1024 (inl (omega arith)))) may.no_shorter shows
      by (inr (inl none)) = record {
        header = may.elsewhere 0 4096 (inl (omega arith)) ∙ shows.header;
        mark = ap record_of (may.elsewhere mark_at 1024 (inl (omega arith))) ∙ shows.mark;
        long = omega (arith, shows.long, may.no_shorter);
        pages = subst (Stand picture.space 0 picture.pages)
            (sym (restored_not images_at pages_at limit picture.upto picture.part new (ap (applies limit picture.upto picture.part) none)))
            (stand_same picture.space 0 limit picture.pages old new (omega arith) (sym (may.elsewhere pages_at (4096 * limit) (inr (omega arith)))) plain);
      }
      by (inr (inr is)) = writing_shows pages old new new below shows plain
          (record { saved = is; elsewhere = may.elsewhere; no_shorter = may.no_shorter })
          (record { elsewhere = λ from len apart. refl; no_shorter = omega arith; no_longer = omega arith })

-- Where the mark is stored, the pages behind the step stand and what is kept is of another place, the chunk shows the place before the step or the
-- one behind it.
pub marking_moves : (first second : Picture) (saved : Saved) (old new : List ℕ) → second.header ≡ first.header → length second.pages ≡ length first.pages
    → Shows first old → Stand second.space 0 second.pages old → saved_at images_at old ≡ Some saved → (saved.upto ≡ second.upto → saved.part ≡ second.part → ⊥)
    → MayStore mark_at second.record_there old new → MayMove first second new
marking_moves first second saved old new same_header same_length shows stand keeps other may = by may.mark
  where
    region : saved_at images_at new ≡ saved_at images_at old
    region = ap saved_in (may.elsewhere images_at 69632 (inr (omega arith)))

    pages : (n : ℕ) → extent pages_at n new ≡ extent pages_at n old
    pages n = may.elsewhere pages_at n (inr (omega arith))

    by : (record_at mark_at new ≡ record_at mark_at old) ⊎ (record_at mark_at new ≡ Some second.record_there) → MayMove first second new
    by (inl same) = inl (kept_shows first old new region (pages (4096 * length first.pages)) (may.elsewhere 0 4096 (inl (omega arith))) same may.no_shorter shows)
    by (inr is) = inr (record {
      header = may.elsewhere 0 4096 (inl (omega arith)) ∙ shows.header ∙ sym same_header;
      mark = is;
      long = omega (arith, shows.long, may.no_shorter, same_length);
      pages = subst (Stand second.space 0 second.pages)
          (sym (stays_at_other images_at pages_at (length second.pages) second.upto second.part saved new (region ∙ keeps) other))
          (stand_same second.space 0 (length second.pages) second.pages old new (omega arith) (sym (pages (4096 * length second.pages))) stand);
    })
