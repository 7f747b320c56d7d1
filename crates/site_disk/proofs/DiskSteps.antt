-- What a call of the disk in memory does to its order and its images.
use Rattle.std.specs.Prelude.{◌≡◌, ℕ, ◌≤◌, true, List, ◌∷◌, length, refl, Result, Ok, Err, OnOk, OnErr}
use Rattle.std.proofs.Common.{arith, ap, sym, subst, ◌∙◌, ⊎_elim}
use Rattle.std.proofs.lemmas.List.{length-take}
use Rattle.site_disk.specs.declared.memory.plan.Fate.{Fate}
use Rattle.site_disk.specs.declared.memory.plan.Fate.TheVariants.{Goes as FateGoes, Fails, Stops}
use Rattle.site_disk.specs.Bytes.{Torn, Same}
use Rattle.site_disk.specs.DiskPlans.{front_of}
use Rattle.site_disk.specs.BytesLaws.{torn_none, torn_wider}
use Rattle.site_disk.specs.Images.{Leaves, Stays}
use Rattle.site_disk.specs.ImagesLaws.{begins, weaker}
use Rattle.site_disk.specs.Past.{Event, put, synced, contents, IsImage, is_in_order, PutsFront}
use Rattle.site_disk.specs.PastLaws.{order_later, order_put, order_sync, leaves_put, leaves_sync, stays_put, stays_sync}

-- after a call in era e that may leave a step undone
pub record Goes (e : ℕ) (step : List ℕ → List ℕ → Type 0) (start start' : List ℕ) (old new : List Event) : Type 0 where
  pub ordered : is_in_order e start' new ≡ true
  pub crash : Leaves e step (IsImage start old) (IsImage start' new)
  pub stays : Stays e (IsImage start old) (IsImage start' new)

module _ (last e : ℕ) (start : List ℕ) (old : List Event) (ordered : is_in_order last start old ≡ true) (le : last ≤ e) where
  nothing_done : (step : List ℕ → List ℕ → Type 0) → ((c : List ℕ) → step c c) → Goes e step start start old old
  nothing_done step reflexive = record {
    ordered = order_later last e start old le ordered;
    crash = begins step step e (IsImage start old) (IsImage start old) (IsImage start old) reflexive;
    stays = λ f c before image. image;
  }

  put_whole : (at : ℕ) (piece : List ℕ) → at ≤ length (contents start old) → Goes e (Torn at (length piece)) start start old (put e at piece ∷ old)
  put_whole at piece within = record {
    ordered = order_put last e at start piece old le within ordered;
    crash = leaves_put last e start old ordered le at piece;
    stays = stays_put e at start piece old;
  }

  put_front : (at : ℕ) (piece front : List ℕ) → at ≤ length (contents start old) → length front ≤ length piece → Goes e (Torn at (length piece)) start start old (put e at front ∷ old)
  put_front at piece front within shorter =
      let whole = put_whole at front within in
      record {
        ordered = whole.ordered;
        crash = weaker (Torn at (length piece)) (Torn at (length front)) e (IsImage start old) (IsImage start old) (IsImage start (put e at front ∷ old)) whole.crash
            (λ f d c lt image torn. torn_wider at (length front) at (length piece) d c (omega arith) (omega arith) torn);
        stays = whole.stays;
      }

  synced_now : Goes e Same start start old (synced e ∷ old)
  synced_now = record {
    ordered = order_sync last e start old le ordered;
    crash = leaves_sync last e start old ordered le;
    stays = stays_sync e start old;
  }

-- the same steps to what a call left
moved : (e : ℕ) (step : List ℕ → List ℕ → Type 0) (start start' : List ℕ) (old new new' : List Event) → start' ≡ start → new' ≡ new → Goes e step start start old new → Goes e step start start' old new'
moved e step start start' old new new' start_is new_is goes =
    subst (λ (s : List ℕ). Goes e step start s old new') (sym start_is) (subst (λ (past : List Event). Goes e step start start old past) (sym new_is) goes)

-- after a write in the era whose number is now
pub goes_put : {T E : Type 0} (r : Result T E) (last e now at : ℕ) (start start' piece front : List ℕ) (old new : List Event)
    → is_in_order last start old ≡ true → last ≤ e → now ≡ e → at ≤ length (contents start old) → length front ≤ length piece → start' ≡ start → PutsFront now at piece front old new r
    → Goes e (Torn at (length piece)) start start' old new
goes_put (Ok x) last e now at start start' piece front old new ordered le now_is within shorter start_is puts =
    moved e (Torn at (length piece)) start start' old (put e at piece ∷ old) new start_is (puts ∙ ap (λ (n : ℕ). put n at piece ∷ old) now_is) (put_whole last e start old ordered le at piece within)
goes_put (Err x) last e now at start start' piece front old new ordered le now_is within shorter start_is puts = ⊎_elim
    (λ nothing. moved e (Torn at (length piece)) start start' old old new start_is nothing (nothing_done last e start old ordered le (Torn at (length piece)) (torn_none at (length piece))))
    (λ some. moved e (Torn at (length piece)) start start' old (put e at front ∷ old) new start_is
    (some ∙ ap (λ (n : ℕ). put n at front ∷ old) now_is) (put_front last e start old ordered le at piece front within shorter))
    puts

-- after a sync in the era whose number is now
pub goes_sync : {T E : Type 0} (r : Result T E) (last e now : ℕ) (start start' : List ℕ) (old new : List Event)
    → is_in_order last start old ≡ true → last ≤ e → now ≡ e → start' ≡ start → OnOk r (new ≡ synced now ∷ old) → OnErr r (new ≡ old)
    → Goes e Same start start' old new
goes_sync (Ok x) last e now start start' old new ordered le now_is start_is done kept =
    moved e Same start start' old (synced e ∷ old) new start_is (done ∙ ap (λ (n : ℕ). synced n ∷ old) now_is) (synced_now last e start old ordered le)
goes_sync (Err x) last e now start start' old new ordered le now_is start_is done kept = moved e Same start start' old old new start_is kept (nothing_done last e start old ordered le Same (λ c. refl))

-- what a write that fails by plan puts is no longer than its piece
pub length-front_of : (fate : Fate) (piece : List ℕ) → length (front_of fate piece) ≤ length piece
length-front_of FateGoes piece = omega arith
length-front_of Fails piece = omega arith
length-front_of (Stops bytes) piece = omega (arith, length-take bytes piece)
