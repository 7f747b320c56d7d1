-- What calls change of a chunk, whatever it shows.
use Rattle.std.proofs.Common.{◌≡◌, inl, inr, ⊎_elim, ℕ, ◌+◌, ◌*◌, List, true, arith}
use Rattle.site_disk.specs.BytesLaws.{elsewhere_again, elsewhere_same, elsewhere_wider}
use Rattle.site_disk.specs.Images.{Leaves}
use Rattle.site_disk.specs.ImagesLaws.{goes_on}
use Rattle.twin_mark.specs.Marks.{MayStore}
use Rattle.before_images.specs.Saved.{MayDrop, MaySave, Within, are_below}
use Rattle.before_images.specs.ListLaws.{are_below-get}
use Rattle.lane_ways.specs.Pictures.{images_at, mark_at, pages_at}
use Rattle.lane_steps.specs.Moves.{WritesOnly}

module _ (count : ℕ) where
  pub only_none : (bytes : List ℕ) → WritesOnly count bytes bytes
  only_none bytes = record { elsewhere = elsewhere_same mark_at (73728 + 4096 * count) bytes; no_shorter = omega arith }

  pub only_saving : (upto part : ℕ) (pages old new : List ℕ) → MaySave images_at pages_at upto part pages old new → WritesOnly count old new
  only_saving upto part pages old new may = record {
    elsewhere = elsewhere_wider images_at 69632 mark_at (73728 + 4096 * count) old new (omega arith) (omega arith) may.elsewhere;
    no_shorter = may.no_shorter;
  }

  pub only_dropping : (old new : List ℕ) → MayDrop images_at old new → WritesOnly count old new
  only_dropping old new may = record {
    elsewhere = elsewhere_wider images_at 69632 mark_at (73728 + 4096 * count) old new (omega arith) (omega arith) may.elsewhere;
    no_shorter = may.no_shorter;
  }

  pub only_storing : (content old new : List ℕ) → MayStore mark_at content old new → WritesOnly count old new
  only_storing content old new may = record {
    elsewhere = elsewhere_wider mark_at 1024 mark_at (73728 + 4096 * count) old new (omega arith) (omega arith) may.elsewhere;
    no_shorter = may.no_shorter;
  }

  pub only_writing : (pages old new : List ℕ) → are_below count pages ≡ true → Within pages_at count pages old new → WritesOnly count old new
  only_writing pages old new below within = record {
    elsewhere = λ from len apart. within.elsewhere from len (λ k lt.
        ⊎_elim (λ before. inl (omega (arith, before))) (λ behind. inr (omega (arith, behind, are_below-get count k pages below lt))) apart);
    no_shorter = within.no_shorter;
  }

  -- one call more
  pub then_only : (e : ℕ) (T : List ℕ → List ℕ → Type 0) (old mid new : ℕ → List ℕ → Type 0) → Leaves e (WritesOnly count) old mid → Leaves e T mid new
      → ((d c : List ℕ) → T d c → WritesOnly count d c) → Leaves e (WritesOnly count) old new
  then_only e T old mid new before call means =
      goes_on (WritesOnly count) T e old mid new before call
      (λ f d c lt image step. let was = before.later f d lt image in let one = means d c step in (
        was.0,
        was.1,
        record {
          elsewhere = elsewhere_again mark_at (73728 + 4096 * count) was.0 d c was.2.elsewhere one.elsewhere;
          no_shorter = omega (arith, was.2.no_shorter, one.no_shorter);
        },
      ))
