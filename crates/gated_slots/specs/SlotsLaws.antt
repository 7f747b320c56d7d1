-- Laws of gates and slots.
use Rattle.std.specs.Prelude.{◌≡◌, ℕ, zero, suc, ◌+◌, ◌-◌, ◌*◌, ◌<◌, ◌≤◌, List, [], ◌∷◌, ◌++◌, length, take, drop, replicate, refl}
use mathlib.Core.Logic.{inl, inr}
use Rattle.std.proofs.Common.{arith, ap, sym, ◌∙◌, ⊎_elim, subst, get_or}
use Rattle.std.proofs.lemmas.List.{drop_at, length-take, length-replicate, take-replicate, drop-replicate}
use Rattle.std.proofs.lemmas.Bool.{cases_eq}
use Rattle.std.proofs.Math.Nat.{mul-le-mul_left}
use Rattle.site_disk.specs.Bytes.{extent, written, filled, Torn, Apart}
use Rattle.site_disk.specs.BytesLaws.{extent-written, length-written, torn_whole, length-extent, extent-extent, extent-add, extent-one, extent-fewer, extent-about}
use Rattle.gated_slots.specs.Writes.{with_batch, MayAdd}
use Rattle.site_disk.specs.Images.{Seen, IsSynced}
use Rattle.site_disk.specs.SeenLaws.{in_each_image}
use Rattle.gated_slots.specs.Slots.{Area, SlotsView, with_gate, used_of, used, held, place_of, OutsideArea, Keeps, Gains, MayGain, Agrees, Zeroes}

-- gates

with_gate_behind : (gate n : ℕ) → 0 < n → with_gate gate n ≡ suc n
with_gate_behind gate (suc n) lt = refl
with_gate_behind gate zero lt = absurd (omega arith)

with_gate_le : (gate n k : ℕ) → with_gate gate n ≤ suc k → n ≤ k
with_gate_le gate zero k le = omega arith
with_gate_le gate (suc n) k le = omega (arith, le)

with_gate_room : (gate n k : ℕ) → n ≤ k → with_gate gate n ≤ suc k
with_gate_room zero zero k le = omega arith
with_gate_room (suc gate) zero k le = omega arith
with_gate_room gate (suc n) k le = omega (arith, le)

with_gate_none : (gate n : ℕ) → with_gate gate n ≤ 0 → (gate ≡ 0) × (n ≡ 0)
with_gate_none zero zero le = (refl, refl)
with_gate_none (suc gate) zero le = absurd (omega (arith, le))
with_gate_none gate (suc n) le = absurd (omega (arith, le))

pub used_of-nil : used_of [] ≡ 0
unfolding used_of
used_of-nil = refl

pub used_of-cons : (gate : ℕ) (gates : List ℕ) → used_of (gate ∷ gates) ≡ with_gate gate (used_of gates)
unfolding used_of
used_of-cons gate gates = refl

-- closed gates behind others add nothing
pub used_of-append_closed : (xs ys : List ℕ) → used_of ys ≡ 0 → used_of (xs ++ ys) ≡ used_of xs
unfolding used_of
used_of-append_closed [] ys none = none
used_of-append_closed (x ∷ xs) ys none = ap (with_gate x) (used_of-append_closed xs ys none)

-- with an open one among those behind, all before them are used
pub used_of-append_open : (xs ys : List ℕ) → 0 < used_of ys → used_of (xs ++ ys) ≡ length xs + used_of ys
unfolding used_of
used_of-append_open [] ys some = omega arith
used_of-append_open (x ∷ xs) ys some =
    let rest = used_of-append_open xs ys some in
    with_gate_behind x (used_of (xs ++ ys)) (omega (arith, rest)) ∙ omega (arith, rest)

-- no gate behind the used ones is open
pub used_of-drop : (k : ℕ) (xs : List ℕ) → used_of xs ≤ k → used_of (drop k xs) ≡ 0
unfolding used_of
used_of-drop zero xs le = omega (arith, le)
used_of-drop (suc k) [] le = refl
used_of-drop (suc k) (x ∷ xs) le = used_of-drop k xs (with_gate_le x (used_of xs) k le)

pub used_of_le : (xs : List ℕ) → used_of xs ≤ length xs
unfolding used_of
used_of_le [] = omega arith
used_of_le (x ∷ xs) = with_gate_room x (used_of xs) (length xs) (used_of_le xs)

pub used_of-replicate : (n : ℕ) → used_of (replicate n 0) ≡ 0
unfolding used_of
used_of-replicate zero = refl
used_of-replicate (suc n) = ap (with_gate 0) (used_of-replicate n)

used_of-take-replicate : (n k : ℕ) → used_of (take n (replicate k 0)) ≡ 0
unfolding used_of
used_of-take-replicate zero k = refl
used_of-take-replicate (suc n) zero = refl
used_of-take-replicate (suc n) (suc k) = ap (with_gate 0) (used_of-take-replicate n k)

-- zero bytes behind others open no gate
pub used_of-padded : (at n k : ℕ) (xs : List ℕ) → used_of (extent at n (xs ++ replicate k 0)) ≡ used_of (extent at n xs)
unfolding used_of
used_of-padded at n k [] =
    ap (λ (l : List ℕ). used_of (take n l)) (drop-replicate at k 0) ∙ used_of-take-replicate n (k - at) ∙ sym (used_of-none at n)
  where
    used_of-none : (at n : ℕ) → used_of (take n (drop at [])) ≡ 0
    used_of-none zero zero = refl
    used_of-none zero (suc n) = refl
    used_of-none (suc at) zero = refl
    used_of-none (suc at) (suc n) = refl
used_of-padded (suc at) n k (x ∷ xs) = used_of-padded at n k xs
used_of-padded zero zero k (x ∷ xs) = refl
used_of-padded zero (suc n) k (x ∷ xs) = ap (with_gate x) (used_of-padded zero n k xs)

-- A gate behind those used, between closed ones: it's found closed, and then nothing has changed, or it makes its slot the last used.
module _ (front back : List ℕ) (was : ℕ) (i : ℕ) (long : length front ≡ i) (behind : used_of (front ++ was ∷ back) ≤ i) where
  none_from : used_of (was ∷ back) ≡ 0
  none_from = subst (λ (l : List ℕ). used_of l ≡ 0) (drop_at front (was ∷ back) i long) (used_of-drop i (front ++ was ∷ back) behind)

  none_behind : used_of back ≡ 0
  none_behind = (with_gate_none was (used_of back) (omega (arith, none_from, used_of-cons was back))).1

  pub gate_open : (gate : ℕ) → 0 < gate → used_of (front ++ gate ∷ back) ≡ i + 1
  gate_open zero lt = absurd (omega arith)
  gate_open (suc gate) lt =
      let one : used_of (suc gate ∷ back) ≡ 1 = used_of-cons (suc gate) back ∙ ap (with_gate (suc gate)) none_behind in
      used_of-append_open front (suc gate ∷ back) (omega (arith, one)) ∙ omega (arith, one, long)

  pub gate_closed : used_of (front ++ 0 ∷ back) ≡ used_of (front ++ was ∷ back)
  gate_closed =
      used_of-append_closed front (0 ∷ back) (used_of-cons 0 back ∙ ap (with_gate 0) none_behind)
      ∙ sym (used_of-append_closed front (was ∷ back) none_from)

-- zero bytes open no gate
pub used-filled : (area : Area) (place : ℕ) (bytes : List ℕ) → used area (filled place bytes) ≡ used area bytes
used-filled area place bytes = used_of-padded area.gates area.capacity (place - length bytes) bytes

-- a batch behind the slots used

-- what `append` has worked out: the batch of n slots fits behind those used
pub record BatchFits (area : Area) (used n : ℕ) (batch : List ℕ) : Type 0 where
  pub apart : area.gates + area.capacity ≤ area.slots
  pub some : 1 ≤ n
  pub room : used + n ≤ area.capacity
  pub long : length batch ≡ area.size * n

module _ (area : Area) (u n : ℕ) (batch : List ℕ) (fits : BatchFits area u n batch) where
  in_slots : (from len : ℕ) → Apart area.slots (area.size * area.capacity) from len → Apart (place_of area u) (length batch) from len
  in_slots from len apart =
      let room : area.size * (u + n) ≤ area.size * area.capacity = mul-le-mul_left area.size fits.room in
      ⊎_elim (λ before. inl (omega (arith, before))) (λ behind. inr (omega (arith, behind, room, fits.long))) apart

  in_gates : (i : ℕ) → i + 1 ≡ u + n → (from len : ℕ) → Apart area.gates area.capacity from len → Apart (area.gates + i) 1 from len
  in_gates i is from len apart = ⊎_elim (λ before. inl (omega (arith, before))) (λ behind. inr (omega (arith, behind, fits.room, is))) apart

  module _ (old : List ℕ) (counts : used area old ≡ u) where
    -- a part of the batch is no slot used
    pub part_of_batch : (new : List ℕ) → Torn (place_of area u) (length batch) old new → Keeps area old new
    part_of_batch new torn =
        let same : used area new ≡ used area old = ap used_of (torn.elsewhere area.gates area.capacity (inl (omega (arith, fits.apart)))) in record {
          used = same;
          held = ap (λ (k : ℕ). extent area.slots (area.size * k) new) same ∙ torn.elsewhere area.slots (area.size * used area old) (inl (omega (arith, ap (λ (k : ℕ). area.size * k) counts)));
          elsewhere = λ from len gates slots. torn.elsewhere from len (in_slots from len slots);
          no_shorter = torn.no_shorter;
        }

    -- the batch stands, and a write of its gate is cut short or not
    module _ (reaches : place_of area u ≤ length old) (i : ℕ) (is : i + 1 ≡ u + n) (new : List ℕ) (torn : Torn (area.gates + i) 1 (written (place_of area u) batch old) new) where
      abbrev mid : List ℕ
      mid = written (place_of area u) batch old

      whole : Torn (place_of area u) (length batch) old mid
      whole = torn_whole (place_of area u) batch old reaches

      with_part : Keeps area old mid
      with_part = part_of_batch mid whole

      elsewhere : (from len : ℕ) → Apart area.gates area.capacity from len → Apart area.slots (area.size * area.capacity) from len → extent from len new ≡ extent from len old
      elsewhere from len gates slots = torn.elsewhere from len (in_gates i is from len gates) ∙ with_part.elsewhere from len gates slots

      longer : length old ≤ length new
      longer = omega (arith, torn.no_shorter, with_part.no_shorter)

      abbrev front : List ℕ
      front = extent area.gates i mid

      abbrev back : List ℕ
      back = extent (area.gates + i + 1) (area.capacity - (i + 1)) mid

      abbrev gate : ℕ
      gate = get_or new (area.gates + i) 0

      split : (bytes : List ℕ) → length old ≤ length bytes → extent area.gates area.capacity bytes ≡ extent area.gates i bytes ++ get_or bytes (area.gates + i) 0 ∷ extent (area.gates + i + 1) (area.capacity - (i + 1)) bytes
      split bytes le =
          let all : area.capacity ≡ i + (1 + (area.capacity - (i + 1))) = omega (arith, is, fits.room) in
          ap (λ (k : ℕ). extent area.gates k bytes) all
          ∙ extent-about area.gates i (area.capacity - (i + 1)) bytes (omega (arith, le, reaches, fits.apart, fits.room, is))

      gates_were : extent area.gates area.capacity mid ≡ front ++ get_or mid (area.gates + i) 0 ∷ back
      gates_were = split mid with_part.no_shorter

      gates_are : extent area.gates area.capacity new ≡ front ++ gate ∷ back
      gates_are =
          split new longer
          ∙ ap (λ (l : List ℕ). l ++ gate ∷ extent (area.gates + i + 1) (area.capacity - (i + 1)) new) (torn.elsewhere area.gates i (inl (omega arith)))
          ∙ ap (λ (l : List ℕ). front ++ gate ∷ l) (torn.elsewhere (area.gates + i + 1) (area.capacity - (i + 1)) (inr (omega arith)))

      long : length front ≡ i
      long = length-extent area.gates i mid (omega (arith, with_part.no_shorter, reaches, fits.apart, fits.room, is))

      behind : used_of (front ++ get_or mid (area.gates + i) 0 ∷ back) ≤ i
      behind = omega (arith, ap used_of gates_were, with_part.used, counts, is, fits.some)

      slots_are : (len : ℕ) → extent area.slots len new ≡ extent area.slots len mid
      slots_are len = torn.elsewhere area.slots len (inr (omega (arith, fits.apart, fits.room, is)))

      pub with_open_gate : 0 < gate → Gains area n batch old new
      with_open_gate lt =
          let count : used area new ≡ used area old + n =
          ap used_of gates_are ∙ gate_open front back (get_or mid (area.gates + i) 0) i long behind gate lt ∙ omega (arith, is, counts) in
          let size : area.size * (used area old + n) ≡ area.size * u + length batch =
          ap (λ (k : ℕ). area.size * (k + n)) counts ∙ omega (arith, fits.long) in record {
            used = count;
            held = ap (λ (k : ℕ). extent area.slots (area.size * k) new) count
                ∙ slots_are (area.size * (used area old + n))
                ∙ ap (λ (k : ℕ). extent area.slots k mid) size
                ∙ extent-add area.slots (area.size * u) (length batch) mid
                ∙ ap (λ (l : List ℕ). l ++ extent (place_of area u) (length batch) mid) (whole.elsewhere area.slots (area.size * u) (inl (omega arith)))
                ∙ ap (λ (l : List ℕ). extent area.slots (area.size * u) old ++ l) (extent-written (place_of area u) batch old reaches)
                ∙ ap (λ (k : ℕ). extent area.slots (area.size * k) old ++ batch) (sym counts);
            elsewhere = elsewhere;
            no_shorter = longer;
          }

      with_closed_gate : gate ≡ 0 → Keeps area old new
      with_closed_gate shut =
          let count : used area new ≡ used area old =
          ap used_of (gates_are ∙ ap (λ (k : ℕ). front ++ k ∷ back) shut)
          ∙ gate_closed front back (get_or mid (area.gates + i) 0) i long behind
          ∙ ap used_of (sym gates_were)
          ∙ with_part.used in record {
            used = count;
            held = ap (λ (k : ℕ). extent area.slots (area.size * k) new) count
                ∙ slots_are (area.size * used area old)
                ∙ ap (λ (k : ℕ). extent area.slots (area.size * k) mid) (sym with_part.used)
                ∙ with_part.held;
            elsewhere = elsewhere;
            no_shorter = longer;
          }

      pub with_gate_torn : MayGain area n batch old new
      with_gate_torn = record {
        slots = elim (cases_eq gate 0) [ inl shut ↦ inl (with_closed_gate shut) | inr not_shut ↦ inr (with_open_gate (omega (arith, not_shut))) ];
        elsewhere = elsewhere;
        no_shorter = longer;
      }

    -- batch and gate stand
    pub gains : place_of area u ≤ length old → (i : ℕ) → i + 1 ≡ u + n → Gains area n batch old (with_batch (place_of area u) batch (area.gates + i) old)
    gains reaches i is =
        let mid = written (place_of area u) batch old in
        let new = written (area.gates + i) (1 ∷ []) mid in
        let room : area.gates + i ≤ length mid = omega (arith, length-written (place_of area u) batch old reaches, reaches, fits.apart, fits.room, is) in
        let gate : extent (area.gates + i) 1 new ≡ 1 ∷ [] = extent-written (area.gates + i) (1 ∷ []) mid room in
        let long : area.gates + i < length new = omega (arith, length-written (area.gates + i) (1 ∷ []) mid room) in
        let one : get_or new (area.gates + i) 0 ≡ 1 = ap (λ (l : List ℕ). get_or l 0 0) (sym (extent-one (area.gates + i) new long) ∙ gate) in
        with_open_gate reaches i is new (torn_whole (area.gates + i) (1 ∷ []) mid room) (omega (arith, one))

    -- what a stop within `append` leaves
    pub may_gain : (i : ℕ) → i + 1 ≡ u + n → (new : List ℕ) → MayAdd (place_of area u) batch (area.gates + i) old new → MayGain area n batch old new
    may_gain i is new may = ⊎_elim
        (λ torn. let part = part_of_batch new torn in record { slots = inl part; elsewhere = part.elsewhere; no_shorter = part.no_shorter })
        (λ added. with_gate_torn added.0 i is new added.1) may

-- a call that does nothing keeps the slots
pub keeps_same : (area : Area) (bytes : List ℕ) → Keeps area bytes bytes
keeps_same area bytes = record { used = refl; held = refl; elsewhere = λ from len gates slots. refl; no_shorter = omega arith }

-- the slots used are decided by the gates
pub used_by_gates : (area : Area) (old new : List ℕ) → extent area.gates area.capacity new ≡ extent area.gates area.capacity old → used area new ≡ used area old
used_by_gates area old new same = ap used_of same

-- no more slots are used than there are
pub used_within : (area : Area) (bytes : List ℕ) → used area bytes ≤ area.capacity
used_within area bytes = omega (arith, used_of_le (extent area.gates area.capacity bytes), length-take area.capacity (drop area.gates bytes))

-- their bytes are decided by the gates and the area's slots
pub held_by_slots : (area : Area) (old new : List ℕ) → extent area.gates area.capacity new ≡ extent area.gates area.capacity old
    → extent area.slots (area.size * area.capacity) new ≡ extent area.slots (area.size * area.capacity) old → held area new ≡ held area old
held_by_slots area old new gates slots =
    let same = used_by_gates area old new gates in
    let within : area.size * used area old ≤ area.size * area.capacity = mul-le-mul_left area.size (used_within area old) in
    ap (λ (k : ℕ). extent area.slots (area.size * k) new) same ∙ extent-fewer area.slots (area.size * used area old) (area.size * area.capacity) new old within slots

-- so a change apart from both keeps them
pub keeps_by : (area : Area) (old new : List ℕ) → extent area.gates area.capacity new ≡ extent area.gates area.capacity old
    → extent area.slots (area.size * area.capacity) new ≡ extent area.slots (area.size * area.capacity) old
    → OutsideArea area old new → length old ≤ length new → Keeps area old new
keeps_by area old new gates slots apart le = record { used = used_by_gates area old new gates; held = held_by_slots area old new gates slots; elsewhere = apart; no_shorter = le }

-- zero bytes written as a whole
pub zeroes_written : (from to : ℕ) (old : List ℕ) → from ≤ length old → from ≤ to → Zeroes from to old (written from (replicate (to - from) 0) old)
zeroes_written from to old within le =
    let piece : List ℕ = replicate (to - from) 0 in
    let long : length piece ≡ to - from = length-replicate (to - from) 0 in
    let new = written from piece old in record {
      zeros = ap (λ (k : ℕ). extent from k new) (sym long) ∙ extent-written from piece old within;
      elsewhere = λ place len apart. (torn_whole from piece old within).elsewhere place len (subst (λ (k : ℕ). Apart from k place len) (sym long) apart);
      long = omega (arith, length-written from piece old within, long);
    }

-- where zero bytes stand, no gate is open
pub used-zeroes : (area : Area) (from to : ℕ) (old new : List ℕ) → from ≤ area.gates → area.gates + area.capacity ≤ to → Zeroes from to old new → used area new ≡ 0
used-zeroes area from to old new le end zeroes =
    let k = area.gates - from in
    let place : from + k ≡ area.gates = omega (arith, le) in
    let rest : List ℕ = replicate (to - from - k) 0 in
    let gates : extent area.gates area.capacity new ≡ replicate area.capacity 0 =
    ap (λ (g : ℕ). extent g area.capacity new) (sym place)
    ∙ sym (extent-extent k area.capacity from (to - from) new (omega (arith, le, end)))
    ∙ ap (λ (l : List ℕ). extent k area.capacity l) zeroes.zeros
    ∙ ap (λ (l : List ℕ). take area.capacity l) (drop-replicate k (to - from) 0)
    ∙ take-replicate area.capacity (to - from - k) 0 (omega (arith, le, end)) in
    ap used_of gates ∙ used_of-replicate area.capacity

-- the bytes of some of the slots used, as a read gives them
pub extent-held : (area : Area) (slot n : ℕ) (bytes : List ℕ) → slot + n ≤ used area bytes
    → extent (area.size * slot) (area.size * n) (held area bytes) ≡ extent (place_of area slot) (area.size * n) bytes
extent-held area slot n bytes within =
    let le : area.size * (slot + n) ≤ area.size * used area bytes = mul-le-mul_left area.size within in
    extent-extent (area.size * slot) (area.size * n) area.slots (area.size * used area bytes) bytes (omega (arith, le))

-- where the bytes go on to the next slot's place, those used are there whole
pub length-held : (area : Area) (bytes : List ℕ) → place_of area (used area bytes) ≤ length bytes → length (held area bytes) ≡ area.size * used area bytes
length-held area bytes reaches = length-extent area.slots (area.size * used area bytes) bytes reaches

-- the count that stands in the bytes stands in each later image, after a sync
pub agrees_synced : (view : SlotsView) (disk : Seen) → IsSynced disk → used view.area disk.bytes ≡ view.used → Agrees view disk
agrees_synced view disk synced counts = record { now = counts; later = in_each_image (λ (c : List ℕ). used view.area c ≡ view.used) disk synced counts }
