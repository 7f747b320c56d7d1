-- What the answer on room says of the files.
use Rattle.std.specs.Prelude.{◌≡◌, ◌⊎◌, ℕ, ◌+◌, ◌^◌, ◌<◌, ◌≤◌, ◌&&◌, length, Bool, true, false, not, nat_lt, nat_le, if◌then◌else◌, Option, None, Some, refl}
use mathlib.Core.Logic.{inl, inr}
use Rattle.std.proofs.Common.{arith, ap, sym, ◌∙◌, ⊎_elim}
use Rattle.std.proofs.lemmas.Bool.Decides.{nat_tests}
use Rattle.log_files.specs.Files.{LogFiles, AreFiles, end_of, is_full}
use Rattle.log_files.specs.Rooms.{HasRoom, HasNext, room_of, next_room, unless_needed, second_first}
use Rattle.log_files.specs.declared.room.Room.TheVariants.{Fits, Next, Full}
use Rattle.log_files.specs.declared.room.LogFull.TheVariants.{NotBackedUp, Needed, Positions}

-- a batch that wants the next file doesn't fit
unless_is : (files : LogFiles) (low : Option (ℕ × ℕ)) → unless_needed files low ≡ Fits → ⊥
unless_is files None is = cc
unless_is files (Some low) is = by (nat_lt low.0 (second_first files.first files.past)) is
  where
    by : (needed : Bool) → (if needed then Full (Needed files.oldest low.1) else Next (Some files.oldest)) ≡ Fits → ⊥
    by true same = cc
    by false same = cc

next_is : (files : LogFiles) (low : Option (ℕ × ℕ)) → next_room files low ≡ Fits → ⊥
next_is files low is = by (is_full files) (nat_lt files.backed files.oldest) is
  where
    by : (full first : Bool) → (if full then (if first then Full (NotBackedUp files.oldest) else unless_needed files low) else Next None) ≡ Fits → ⊥
    by true true same = cc
    by true false same = unless_is files low same
    by false first same = cc

-- which test comes out how
fits_by : (files : LogFiles) (low : Option (ℕ × ℕ)) (past fits : Bool) (end : ℕ) → (if past then Full (Positions end) else (if fits then Fits else next_room files low)) ≡ Fits → (past ≡ false) × (fits ≡ true)
fits_by files low true fits end is = absurd (cc)
fits_by files low false true end is = (refl, refl)
fits_by files low false false end is = absurd (next_is files low is)

next_by : (files : LogFiles) (low : Option (ℕ × ℕ)) (past fits : Bool) (end : ℕ) (drops : Option ℕ) → (if past then Full (Positions end) else (if fits then Fits else next_room files low)) ≡ Next drops
    → (past ≡ false) × (fits ≡ false) × (next_room files low ≡ Next drops)
next_by files low true fits end drops is = absurd (cc)
next_by files low false true end drops is = absurd (cc)
next_by files low false false end drops is = (refl, refl, is)

both_true : (a b : Bool) → (a && b) ≡ true → (a ≡ true) × (b ≡ true)
both_true true true is = (refl, refl)
both_true true false is = absurd (cc)
both_true false b is = absurd (cc)

not_true : (a : Bool) → not a ≡ true → a ≡ false
not_true true is = absurd (cc)
not_true false is = refl

not_both : (closed few : Bool) → (not closed && few) ≡ false → (closed ≡ true) ⊎ (few ≡ false)
not_both true few is = inl refl
not_both false true is = absurd (cc)
not_both false false is = inr refl

at_most : (a b : ℕ) → nat_lt a b ≡ false → b ≤ a
at_most a b is = grind (arith, nat_tests)

up_to : (a b : ℕ) → nat_le a b ≡ true → a ≤ b
up_to a b is = grind (arith, nat_tests)

above : (a b : ℕ) → nat_le a b ≡ false → b < a
above a b is = grind (arith, nat_tests)

pub room_fits : (files : LogFiles) (count : ℕ) (low : Option (ℕ × ℕ)) → AreFiles files → room_of files count low ≡ Fits → HasRoom count files
room_fits files count low fits is =
    let tests = fits_by files low (nat_lt (2 ^ 48) (end_of files + count)) (not files.is_closed && nat_le (length files.current + count) 256) (end_of files) is in
    let both = both_true (not files.is_closed) (nat_le (length files.current + count) 256) tests.1 in record {
      open_file = not_true files.is_closed both.0;
      few = up_to (length files.current + count) 256 both.1;
      positions = omega (arith, at_most (2 ^ 48) (end_of files + count) tests.0, fits.some, fits.first);
    }

backed_by : (files : LogFiles) (low : Option (ℕ × ℕ)) (drops : Option ℕ) → next_room files low ≡ Next drops → is_full files ≡ true → files.oldest ≤ files.backed
backed_by files low drops is full = at_most files.backed files.oldest (by (nat_lt files.backed files.oldest) (sym (ap (λ (b : Bool). if b then (if nat_lt files.backed files.oldest then Full (NotBackedUp files.oldest) else unless_needed files low) else Next None) full) ∙ is))
  where
    by : (first : Bool) → (if first then Full (NotBackedUp files.oldest) else unless_needed files low) ≡ Next drops → first ≡ false
    by true same = absurd (cc)
    by false same = refl

pub room_next : (files : LogFiles) (count : ℕ) (low : Option (ℕ × ℕ)) (drops : Option ℕ) → AreFiles files → 1 ≤ count → count ≤ 256 → room_of files count low ≡ Next drops → HasNext files
room_next files count low drops fits some few is =
    let tests = next_by files low (nat_lt (2 ^ 48) (end_of files + count)) (not files.is_closed && nat_le (length files.current + count) 256) (end_of files) drops is in record {
      position = omega (arith, at_most (2 ^ 48) (end_of files + count) tests.0, some);
      some = ⊎_elim (λ shut. fits.filled shut) (λ many. omega (arith, above (length files.current + count) 256 many, few))
          (not_both files.is_closed (nat_le (length files.current + count) 256) tests.1);
      backed = λ full. backed_by files low drops tests.2 full;
    }
