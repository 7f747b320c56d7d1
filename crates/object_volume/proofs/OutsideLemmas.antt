-- Writes of a range: what stays outside of it.
use Rattle.std.proofs.Common.{◌≡◌, ℕ, ◌+◌, ◌-◌, ◌<◌, ◌≤◌, min, max, List, length, refl, arith, ap, sym, ◌∙◌, inl, inr, ⊎_elim, length-append}
use Rattle.std.specs.Prelude.{replicate}
use Rattle.std.proofs.lemmas.Bool.{cases_lt}
use Rattle.std.proofs.lemmas.List.{take_at, take_all, length-replicate}
use Rattle.site_disk.specs.Bytes.{written, filled, Torn, Apart}
use Rattle.site_disk.specs.BytesLaws.{extent-same_front, torn_whole, length-filled, length-written}
use Rattle.site_disk.specs.Ledger.{Ledger, EraView, Uses}
use Rattle.block_chain.specs.Blocks.{times, ascending}
use Rattle.block_chain.specs.BlocksLaws.{times_within}
use Rattle.object_volume.specs.Objects.{places, Outside, Spares}
use Rattle.object_volume.specs.ObjectsLaws.{place_within}

pub outside_none : (at n limit : ℕ) (file : List ℕ) → Outside at n limit file file
outside_none at n limit file = record { kept = λ place below apart. refl; no_shorter = omega arith }

pub outside_again : (at n limit : ℕ) (old mid new : List ℕ) → Outside at n limit old mid → Outside at n limit mid new → Outside at n limit old new
outside_again at n limit old mid new first second = record {
  kept = λ place below apart. second.kept place below apart ∙ first.kept place below apart;
  no_shorter = omega (arith, first.no_shorter, second.no_shorter);
}

pub torn_outside : (at n limit : ℕ) (old new : List ℕ) → Torn at n old new → Outside at n limit old new
torn_outside at n limit old new torn = record { kept = λ place below apart. torn.elsewhere place 1 apart; no_shorter = torn.no_shorter }

-- the zero bytes up to a place come behind the limit
pub filling_outside : (at n limit first : ℕ) (old new : List ℕ) → first ≡ min at limit → Torn first (at - first) old new → Outside at n limit old new
filling_outside at n limit first old new is torn = record {
  kept = λ place below apart. torn.elsewhere place 1 (apart_from place below);
  no_shorter = torn.no_shorter;
}
  where
    apart_from : (place : ℕ) → place < limit → Apart first (at - first) place 1
    apart_from place below = ⊎_elim (λ (before : place < first). inl (omega arith)) (λ (from : first ≤ place). inr (omega (arith, is, below))) (cases_lt place first)

-- a whole write, after zero bytes up to its place
pub written_outside : (at limit : ℕ) (piece old : List ℕ) → limit ≤ length old → Outside at (length piece) limit old (written at piece (filled at old))
written_outside at limit piece old le =
    let long : length (filled at old) ≡ length old + (at - length old) = omega (arith, length-append old (replicate {A = ℕ} (at - length old) 0), length-replicate {A = ℕ} (at - length old) 0) in
    let torn = torn_whole at piece (filled at old) (omega (arith, long)) in
    record {
      kept = λ place below apart. torn.elsewhere place 1 apart
          ∙ extent-same_front place 1 (length old) (filled at old) old (omega (arith, below, le))
          (take_at old (replicate {A = ℕ} (at - length old) 0) (length old) refl ∙ sym (take_all (length old) old (omega arith)));
      no_shorter = omega (arith, torn.no_shorter, long);
    }

-- how long a file is after a write, and what the write and the zero bytes before it come to
module _ (place : ℕ) (piece is new : List ℕ) (wrote : new ≡ written place piece (filled place is)) where
  pub length-wrote : length new ≡ max (length is) (place + length piece)
  length-wrote = omega (arith, ap length wrote, length-filled place is, length-written place piece (filled place is) (omega (arith, length-filled place is)))

  pub grown_by : (before after : ℕ) → after ≤ before + ((place - length is) + length piece) → after ≤ before + length piece + (length new - length is)
  grown_by before after spent = omega (arith, spent, length-wrote)

-- a range of neighbouring blocks
pub outside_spares : (at n limit : ℕ) (run own old new : List ℕ) → places run ≡ ascending at n → ((block : ℕ) → 0 < times block run → 0 < times block own)
    → Outside at n limit old new → Spares own limit old new
outside_spares at n limit run own old new is within outside = record {
  kept = λ place below apart. outside.kept place below (⊎_elim
      (λ (before : place < at). inl (omega arith))
      (λ (from : at ≤ place). ⊎_elim
      (λ (inside : place < at + n). let found = place_within place run (omega (arith, ap (times place) is, times_within place at n from inside)) in
      ⊎_elim (λ first. absurd (omega (arith, first, found.2))) (λ behind. absurd (omega (arith, behind, found.3))) (apart found.0 (within found.0 found.1)))
      (λ (behind : at + n ≤ place). inr behind)
      (cases_lt place (at + n)))
      (cases_lt place at));
  no_shorter = outside.no_shorter;
}

-- one writing call after another
pub writes_again : {era : EraView} {writes more all : ℕ} {old mid new : Ledger} → Uses era 0 writes old mid → Uses era 0 more mid new → writes + more ≤ all → Uses era 0 all old new
writes_again first second le = record {
  key = second.key ∙ first.key;
  no_earlier = omega (arith, first.no_earlier, second.no_earlier);
  no_later = second.no_later;
  faults = omega (arith, first.faults, second.faults);
  read = omega (arith, first.read, second.read);
  written = omega (arith, first.written, second.written, le);
  synced = second.synced;
  later = omega (arith, first.later, second.later);
}

-- nothing after a call
pub after_call : {era : EraView} {writes : ℕ} {old new : Ledger} → Uses era 0 writes old new → Uses era 0 0 new new
after_call uses = record {
  key = refl;
  no_earlier = omega arith;
  no_later = uses.no_later;
  faults = omega arith;
  read = omega arith;
  written = omega arith;
  synced = uses.synced;
  later = omega arith;
}
