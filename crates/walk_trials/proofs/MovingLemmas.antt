-- The two moves of three disks.
use Rattle.std.proofs.Common.{◌≡◌, ◌∙◌, ℕ, ◌<◌, ◌≤◌, [], ◌∷◌, max, List, length, None, Some, Result, Err, ap, arith, subst, sym}
use Rattle.site_disk.specs.declared.disk.Disk.{Ghosts}
use Rattle.site_disk.specs.declared.faults.Failed.{Failed}
use Rattle.site_disk.specs.Images.{OnlyAfter}
use Rattle.walks.specs.Courses.{Call, make}
use Rattle.walk_trials.specs.declared.trio.Move.{Move}
use Rattle.walk_trials.specs.declared.trio.Move.TheVariants.{Raise, Seal}
use Rattle.walk_trials.specs.declared.trio.Name.TheVariants.{Second, Third}
use Rattle.walk_trials.specs.declared.trio.Numbers.{Numbers}
use Rattle.walk_trials.specs.declared.trio.Trio.{Trio}
use Rattle.walk_trials.specs.GrowsLaws.{grows_still, grows_synced}
use Rattle.walk_trials.specs.Trials.{AreSettled, EachGrows, EachStays, Grows, HaveCome, ReadAsBefore, fault_of, goals_of, trio_stage}
use Rattle.walk_trials.specs.TrialsLaws.{move_done, move_fails}

module _ {D : Type 0} (disk : Ghosts D) where
  -- a call that answers a fault
  pub answers_fault : {T : Type 0} (moves : List Move) (from to : ℕ) (old new : Trio D) (result : Result T Failed) (fault : Failed) → result ≡ Err fault
      → Call (trio_stage disk) 0 from to old new (λ numbers. make moves) (Some fault) → Call (trio_stage disk) 0 from to old new (λ numbers. make moves) (fault_of result)
  answers_fault {T} moves from to old new result fault is call =
      subst (λ (r : Result T Failed). Call (trio_stage disk) 0 from to old new (λ numbers. make moves) (fault_of r)) (sym is) call

  pub grown_still : (era : ℕ) (goals : Numbers) (old mid new : Trio D) → EachGrows disk era goals old mid → EachStays disk era mid new → EachGrows disk era goals old new
  grown_still era goals old mid new grows stays = record {
    first = grows_synced era _ goals.first (disk.image old.first) (disk.image mid.first) (disk.image new.first) grows.first stays.first;
    second = grows_synced era _ goals.second (disk.image old.second) (disk.image mid.second) (disk.image new.second) grows.second stays.second;
    third = grows_synced era _ goals.third (disk.image old.third) (disk.image mid.third) (disk.image new.third) grows.third stays.third;
  }

  pub have_come : (goals : Numbers) (old mid new : Trio D) → HaveCome disk goals old mid → ReadAsBefore disk mid new → HaveCome disk goals old new
  have_come goals old mid new come same = record {
    first = ap length same.first ∙ come.first;
    second = ap length same.second ∙ come.second;
    third = ap length same.third ∙ come.third;
  }

  pub raise_done : (goals : Numbers) (from to : ℕ) (old new : Trio D) → from < to → EachGrows disk from goals old new → HaveCome disk goals old new
      → AreSettled disk from new → Call (trio_stage disk) 0 from to old new (λ numbers. make (Raise goals ∷ [])) None
  raise_done goals from to old new lt grows come settled = move_done disk (Raise goals) from to old new (omega (arith, lt)) grows lt come
      (λ numbers stands. record {
        first = λ f bytes later image. ap length (settled.first f bytes later image);
        second = λ f bytes later image. ap length (settled.second f bytes later image);
        third = λ f bytes later image. ap length (settled.third f bytes later image);
      })

  -- the first disk alone moves
  module _ (mark from to : ℕ) (old : Trio D) (first : D)
      (grows : Grows from (length (disk.bytes old.first)) mark (disk.image old.first) (disk.image first)) where
    abbrev sealed_trio : Trio D
    sealed_trio = record { first = first; second = old.second; third = old.third }

    first_grows : EachGrows disk from (goals_of (Seal mark)) old sealed_trio
    first_grows = record {
      first = grows;
      second = grows_still from _ 0 (disk.image old.second);
      third = grows_still from _ 0 (disk.image old.third);
    }

    pub seal_fails : from ≤ to → (fault : Failed) → Call (trio_stage disk) 0 from to old sealed_trio (λ numbers. make (Seal mark ∷ [])) (Some fault)
    seal_fails le fault = move_fails disk (Seal mark) from to old sealed_trio le first_grows fault

    pub seal_done : from < to → length (disk.bytes first) ≡ max (length (disk.bytes old.first)) mark → OnlyAfter from (disk.bytes first) (disk.image first)
        → Call (trio_stage disk) 0 from to old sealed_trio (λ numbers. make (Seal mark ∷ [])) None
    seal_done lt come only = move_done disk (Seal mark) from to old sealed_trio (omega (arith, lt)) first_grows lt
        (record { first = come; second = omega arith; third = omega arith })
        (λ numbers stands. record {
          first = λ f bytes later image. ap length (only f bytes later image);
          second = λ f bytes later image. stands.clean f Second bytes (omega (arith, later)) image ∙ sym stands.reads.second;
          third = λ f bytes later image. stands.clean f Third bytes (omega (arith, later)) image ∙ sym stands.reads.third;
        })
