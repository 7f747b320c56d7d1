-- Laws of marks.
use Rattle.std.specs.Prelude.{◌≡◌, ◌⊎◌, ℕ, zero, suc, ◌+◌, ◌-◌, ◌*◌, ◌≤◌, List, [], ◌∷◌, length, take, drop, replicate, Bool, true, false, nat_eq, Option, None, Some, refl}
use mathlib.Core.Logic.{inl, inr}
use Rattle.std.specs.Prelude.{◌&&◌, nat_le, if◌then◌else◌}
use Rattle.std.proofs.Common.{arith, ap, sym, ◌∙◌, ⊎_elim, subst, eq-eqb, length-drop, length-append}
use Rattle.std.proofs.lemmas.List.{length-take, drop-take, drop-drop, take_at, length-replicate}
use Rattle.std.proofs.lemmas.Bool.Decides.{nat_tests}
use Rattle.site_disk.specs.Bytes.{extent, written, Torn, Apart}
use Rattle.site_disk.specs.BytesLaws.{extent-extent, extent-written, length-extent, torn_whole, torn_wider, torn_again}
use Rattle.site_disk.specs.Gates.{shut, MayShut}
use Rattle.site_disk.specs.GatesLaws.{is_shut, gate_synced, behind_any, behind_torn}
use Rattle.site_disk.specs.Images.{Seen, IsSynced}
use Rattle.site_disk.specs.SeenLaws.{in_each_image}
use Rattle.twin_mark.specs.declared.slots.Current.{Current}
use Rattle.twin_mark.specs.Replacing.{replaced, MayReplace}
use Rattle.twin_mark.specs.Marks.{next, sequence_of, sequence_by, gate, body, sequence, later_of, chosen, current, held, record_of, record_at, formatted, MarkView, Knows, Agrees, Stores, MayStore}

-- of the two slots

-- the sequences of a slot on a disk, by its gate and its body
abbrev pub sequence_at : ℕ → List ℕ → ℕ → Option ℕ
sequence_at base bytes i = sequence_by (extent (base + i) 1 bytes) (extent (base + 256 * (i + 1)) 256 bytes)

sequence-extent : (i base n : ℕ) (bytes : List ℕ) → i ≤ 1 → 768 ≤ n → sequence i (extent base n bytes) ≡ sequence_at base bytes i
sequence-extent i base n bytes le long =
    ap (λ (g : List ℕ). sequence_by g (body i (extent base n bytes))) (extent-extent i 1 base n bytes (omega arith))
    ∙ ap (λ (b : List ℕ). sequence_by (extent (base + i) 1 bytes) b) (extent-extent (256 * (i + 1)) 256 base n bytes (omega arith))

-- the current slot is decided by the region's first 768 bytes
pub current-extent : (base n : ℕ) (bytes : List ℕ) → 768 ≤ n → current (extent base n bytes) ≡ chosen (sequence_at base bytes 0) (sequence_at base bytes 1)
current-extent base n bytes long =
    ap (λ (a : Option ℕ). chosen a (sequence 1 (extent base n bytes))) (sequence-extent 0 base n bytes (omega arith) long)
    ∙ ap (λ (b : Option ℕ). chosen (sequence_at base bytes 0) b) (sequence-extent 1 base n bytes (omega arith) long)

abbrev some_at : ℕ → ℕ → Option Current
some_at s t = Some (record { slot = s; sequence = t })

same_current : (a b s t : ℕ) → some_at a b ≡ some_at s t → (a ≡ s) × (b ≡ t)
same_current a b s t is = (ap slot_in is, ap turn_in is)
  where
    slot_in : Option Current → ℕ
    slot_in None = 0
    slot_in (Some at) = at.slot

    turn_in : Option Current → ℕ
    turn_in None = 0
    turn_in (Some at) = at.sequence

stands_later : (first second s t : ℕ) (test : Bool) → Some (later_of first second test) ≡ some_at s t → ((s ≡ 0) × (Some first ≡ Some t)) ⊎ ((s ≡ 1) × (Some second ≡ Some t))
stands_later first second s t true is = inr (let e = same_current 1 second s t is in (sym e.0, ap Some e.1))
stands_later first second s t false is = inl (let e = same_current 0 first s t is in (sym e.0, ap Some e.1))

from_chosen : (s t : ℕ) (a b : Option ℕ) → chosen a b ≡ some_at s t → ((s ≡ 0) × (a ≡ Some t)) ⊎ ((s ≡ 1) × (b ≡ Some t))
from_chosen s t None None is = cc
from_chosen s t (Some first) None is = inl (let e = same_current 0 first s t is in (sym e.0, ap Some e.1))
from_chosen s t None (Some second) is = inr (let e = same_current 1 second s t is in (sym e.0, ap Some e.1))
from_chosen s t (Some first) (Some second) is = stands_later first second s t (nat_eq second (next first)) is

-- the current slot is valid
stands : (s t : ℕ) (T : ℕ → Option ℕ) → chosen (T 0) (T 1) ≡ some_at s t → T s ≡ Some t
stands s t T is = ⊎_elim (λ at. ap T at.0 ∙ at.1) (λ at. ap T at.0 ∙ at.1) (from_chosen s t (T 0) (T 1) is)

chosen_same : (a b c d : Option ℕ) → a ≡ c → b ≡ d → chosen a b ≡ chosen c d
chosen_same a b c d first second = ap (λ (x : Option ℕ). chosen x b) first ∙ ap (λ (x : Option ℕ). chosen c x) second

-- it stays so where the other is as before or isn't valid any more
stays : (s t : ℕ) (T U : ℕ → Option ℕ) → s ≤ 1 → chosen (T 0) (T 1) ≡ some_at s t → U s ≡ T s
    → (U (1 - s) ≡ None) ⊎ (U (1 - s) ≡ T (1 - s)) → chosen (U 0) (U 1) ≡ some_at s t
stays zero t T U le is mine (inl none) = chosen_same (U 0) (U 1) (Some t) None (mine ∙ stands 0 t T is) none
stays zero t T U le is mine (inr same) = chosen_same (U 0) (U 1) (T 0) (T 1) mine same ∙ is
stays (suc zero) t T U le is mine (inl none) = chosen_same (U 0) (U 1) None (Some t) none (mine ∙ stands 1 t T is)
stays (suc zero) t T U le is mine (inr same) = chosen_same (U 0) (U 1) (T 0) (T 1) same mine ∙ is
stays (suc (suc s)) t T U le is mine may = absurd (omega (arith, le))

not_after : (t : ℕ) → t ≤ 2 → nat_eq t (next (next t)) ≡ false
not_after zero le = refl
not_after (suc zero) le = refl
not_after (suc (suc zero)) le = refl
not_after (suc (suc (suc t))) le = absurd (omega (arith, le))

-- a next sequence in the other slot makes that one current
moves : (s t : ℕ) (U : ℕ → Option ℕ) → s ≤ 1 → t ≤ 2 → U s ≡ Some t → U (1 - s) ≡ Some (next t) → chosen (U 0) (U 1) ≡ some_at (1 - s) (next t)
moves zero t U le small mine is =
    chosen_same (U 0) (U 1) (Some t) (Some (next t)) mine is ∙ ap (λ (test : Bool). Some (later_of t (next t) test)) (eq-eqb (next t) (next t) refl)
moves (suc zero) t U le small mine is =
    chosen_same (U 0) (U 1) (Some (next t)) (Some t) is mine ∙ ap (λ (test : Bool). Some (later_of (next t) t test)) (not_after t small)
moves (suc (suc s)) t U le small mine is = absurd (omega (arith, le))

-- of bodies

turn_whole : (sequence t : ℕ) (content : List ℕ) (test : Bool) → (nat_eq (length content) 255 && nat_le sequence 2) ≡ test → (if test then Some sequence else None) ≡ Some t → length content ≡ 255
turn_whole sequence t content true is some = grind (arith, nat_tests)
turn_whole sequence t content false is some = cc

whole_body : (t : ℕ) (gate body : List ℕ) → sequence_by gate body ≡ Some t → length body ≡ 256
whole_body t [] body is = cc
whole_body t (zero ∷ more) body is = cc
whole_body t (suc gate ∷ more) [] is = cc
whole_body t (suc gate ∷ more) (sequence ∷ content) is = omega (arith, turn_whole sequence t content (nat_eq (length content) 255 && nat_le sequence 2) refl is)

sequence_of-whole : (sequence : ℕ) (content : List ℕ) → length content ≡ 255 → sequence ≤ 2 → sequence_of (sequence ∷ content) ≡ Some sequence
sequence_of-whole sequence content long small = grind (arith, nat_tests)

-- of a region on a disk

-- the places of one slot are apart from those of the other
apart_gates : (base s : ℕ) → s ≤ 1 → Apart (base + (1 - s)) 1 (base + s) 1
apart_gates base zero le = inl (omega arith)
apart_gates base (suc zero) le = inr (omega arith)
apart_gates base (suc (suc s)) le = absurd (omega (arith, le))

apart_bodies : (base s : ℕ) → s ≤ 1 → Apart (base + 256 * (1 - s + 1)) 256 (base + 256 * (s + 1)) 256
apart_bodies base zero le = inl (omega arith)
apart_bodies base (suc zero) le = inr (omega arith)
apart_bodies base (suc (suc s)) le = absurd (omega (arith, le))

-- a disk whose current slot is s, with sequence t
module _ (base s t : ℕ) (le : s ≤ 1) (bytes : List ℕ) (is : current (extent base 1024 bytes) ≡ some_at s t) where
  known : chosen (sequence_at base bytes 0) (sequence_at base bytes 1) ≡ some_at s t
  known = sym (current-extent base 1024 bytes (omega arith)) ∙ is

  mine : sequence_at base bytes s ≡ Some t
  mine = stands s t (sequence_at base bytes) known

  -- its body lies within the disk, and so does the other slot
  pub reaches : base + 256 * (s + 1) + 256 ≤ length bytes
  reaches =
      let at = base + 256 * (s + 1) in
      omega (arith, whole_body t (extent (base + s) 1 bytes) (extent at 256 bytes) mine, length-take 256 (drop at bytes), length-drop at bytes)

  pub record_at-current : record_at base bytes ≡ Some (drop 1 (extent (base + 256 * (s + 1)) 256 bytes))
  record_at-current =
      ap (held (extent base 1024 bytes)) is
      ∙ ap (λ (b : List ℕ). Some (drop 1 b)) (extent-extent (256 * (s + 1)) 256 base 1024 bytes (omega arith))

  -- other bytes with the same slot s
  module _ (new : List ℕ) (gate_is : extent (base + s) 1 new ≡ extent (base + s) 1 bytes) (body_is : extent (base + 256 * (s + 1)) 256 new ≡ extent (base + 256 * (s + 1)) 256 bytes) where
    still : sequence_at base new s ≡ sequence_at base bytes s
    still = ap (λ (g : List ℕ). sequence_by g (extent (base + 256 * (s + 1)) 256 new)) gate_is ∙ ap (λ (b : List ℕ). sequence_by (extent (base + s) 1 bytes) b) body_is

    module _ (other : (sequence_at base new (1 - s) ≡ None) ⊎ (sequence_at base new (1 - s) ≡ sequence_at base bytes (1 - s))) where
      pub current_stays : current (extent base 1024 new) ≡ some_at s t
      current_stays = current-extent base 1024 new (omega arith) ∙ stays s t (sequence_at base bytes) (sequence_at base new) le known still other

    pub current_moves : t ≤ 2 → sequence_at base new (1 - s) ≡ Some (next t) → current (extent base 1024 new) ≡ some_at (1 - s) (next t)
    current_moves small other = current-extent base 1024 new (omega arith) ∙ moves s t (sequence_at base new) le small (still ∙ mine) other

-- the same record, where slot s is the same and stays current
same_record : (base s t : ℕ) → s ≤ 1 → (old new : List ℕ) → current (extent base 1024 old) ≡ some_at s t → current (extent base 1024 new) ≡ some_at s t
    → extent (base + 256 * (s + 1)) 256 new ≡ extent (base + 256 * (s + 1)) 256 old → record_at base new ≡ record_at base old
same_record base s t le old new was is same =
    record_at-current base s t le new is ∙ ap (λ (b : List ℕ). Some (drop 1 b)) same ∙ sym (record_at-current base s t le old was)

-- a new record in the slot that isn't current, as `store` puts it there
module _ (base s t : ℕ) (le : s ≤ 1) (small : t ≤ 2) (content old : List ℕ) (long : length content ≡ 255) (is : current (extent base 1024 old) ≡ some_at s t) where
  abbrev other : ℕ
  other = 1 - s

  abbrev at_gate : ℕ
  at_gate = base + other

  abbrev place : ℕ
  place = base + 256 * (other + 1)

  abbrev piece : List ℕ
  piece = next t ∷ content

  abbrev closed : List ℕ
  closed = shut at_gate old

  abbrev filled_slot : List ℕ
  filled_slot = written place piece closed

  within : base + 512 ≤ length old
  within = omega (arith, reaches base s t le old is)

  pub reaches_other : place ≤ length old
  reaches_other = omega (arith, within, reaches base s t le old is)

  long_piece : length piece ≡ 256
  long_piece = omega (arith, long)

  closing : Torn at_gate 1 old closed
  closing = torn_whole at_gate (0 ∷ []) old (omega (arith, within))

  filling : Torn place 256 closed filled_slot
  filling = subst (λ (n : ℕ). Torn place n closed filled_slot) long_piece (torn_whole place piece closed (omega (arith, closing.no_shorter, reaches_other)))

  in_region_gate : (x y : List ℕ) → Torn at_gate 1 x y → Torn base 1024 x y
  in_region_gate x y torn = torn_wider at_gate 1 base 1024 x y (omega arith) (omega arith) torn

  in_region_body : (x y : List ℕ) → Torn place 256 x y → Torn base 1024 x y
  in_region_body x y torn = torn_wider place 256 base 1024 x y (omega arith) (omega arith) torn

  -- slot s is the same after a write of the other's gate or body
  gate_by_gate : (x y : List ℕ) → Torn at_gate 1 x y → extent (base + s) 1 y ≡ extent (base + s) 1 x
  gate_by_gate x y torn = torn.elsewhere (base + s) 1 (apart_gates base s le)

  body_by_gate : (x y : List ℕ) → Torn at_gate 1 x y → extent (base + 256 * (s + 1)) 256 y ≡ extent (base + 256 * (s + 1)) 256 x
  body_by_gate x y torn = torn.elsewhere (base + 256 * (s + 1)) 256 (inr (omega arith))

  gate_by_body : (x y : List ℕ) → Torn place 256 x y → extent (base + s) 1 y ≡ extent (base + s) 1 x
  gate_by_body x y torn = torn.elsewhere (base + s) 1 (inl (omega (arith, le)))

  body_by_body : (x y : List ℕ) → Torn place 256 x y → extent (base + 256 * (s + 1)) 256 y ≡ extent (base + 256 * (s + 1)) 256 x
  body_by_body x y torn = torn.elsewhere (base + 256 * (s + 1)) 256 (apart_bodies base s le)

  -- the old record
  keeps : (new : List ℕ) → Torn base 1024 old new → extent (base + s) 1 new ≡ extent (base + s) 1 old
      → extent (base + 256 * (s + 1)) 256 new ≡ extent (base + 256 * (s + 1)) 256 old
      → (sequence_at base new other ≡ None) ⊎ (sequence_at base new other ≡ sequence_at base old other) → MayStore base content old new
  keeps new torn gate_is body_is may = record {
    mark = inl (same_record base s t le old new is (current_stays base s t le old is new gate_is body_is may) body_is);
    elsewhere = torn.elsewhere;
    no_shorter = torn.no_shorter;
  }

  by_closing : (new : List ℕ) → MayShut at_gate old new → MayStore base content old new
  by_closing new may =
      let one : length (extent at_gate 1 old) ≡ 1 = length-extent at_gate 1 old (omega (arith, within, le)) in
      let kept = λ (was : extent at_gate 1 old ≡ 0 ∷ []). ap (λ (l : List ℕ). extent at_gate 1 l) (may.kept was) in
      let body_is : extent place 256 new ≡ extent place 256 old = may.torn.elsewhere place 256 (inr (omega arith)) in
      keeps new (in_region_gate old new may.torn) (gate_by_gate old new may.torn) (body_by_gate old new may.torn)
      (⊎_elim
      (λ none. inl (ap (λ (b : List ℕ). sequence_by (extent at_gate 1 new) b) body_is ∙ none))
      (λ same. inr (ap (λ (b : List ℕ). sequence_by (extent at_gate 1 new) b) body_is ∙ same))
      (behind_torn (extent at_gate 1 old) (extent at_gate 1 new) (sequence_of (extent place 256 old)) one kept))

  -- behind a closed gate, whatever the body
  by_filling : (new : List ℕ) → Torn place 256 closed new → MayStore base content old new
  by_filling new torn =
      let gate_is : extent at_gate 1 new ≡ 0 ∷ [] = torn.elsewhere at_gate 1 (inl (omega (arith, le))) ∙ is_shut at_gate old (omega (arith, within, le)) in
      keeps new (torn_again base 1024 old closed new (in_region_gate old closed closing) (in_region_body closed new torn))
      (gate_by_body closed new torn ∙ gate_by_gate old closed closing)
      (body_by_body closed new torn ∙ body_by_gate old closed closing)
      (inl (ap (λ (g : List ℕ). sequence_by g (extent place 256 new)) gate_is))

  -- and the gate, torn or whole, before the new body
  module _ (new : List ℕ) (torn : Torn at_gate 1 filled_slot new) where
    in_region : Torn base 1024 old new
    in_region =
        torn_again base 1024 old filled_slot new
        (torn_again base 1024 old closed filled_slot (in_region_gate old closed closing) (in_region_body closed filled_slot filling))
        (in_region_gate filled_slot new torn)

    gate_is : extent (base + s) 1 new ≡ extent (base + s) 1 old
    gate_is = gate_by_gate filled_slot new torn ∙ gate_by_body closed filled_slot filling ∙ gate_by_gate old closed closing

    body_is : extent (base + 256 * (s + 1)) 256 new ≡ extent (base + 256 * (s + 1)) 256 old
    body_is = body_by_gate filled_slot new torn ∙ body_by_body closed filled_slot filling ∙ body_by_gate old closed closing

    other_is : extent place 256 new ≡ piece
    other_is =
        torn.elsewhere place 256 (inr (omega arith))
        ∙ ap (λ (n : ℕ). extent place n filled_slot) (sym long_piece)
        ∙ extent-written place piece closed (omega (arith, closing.no_shorter, reaches_other))

    pub moved : sequence_at base new other ≡ Some (next t) → current (extent base 1024 new) ≡ some_at other (next t)
    moved turned = current_moves base s t le old is new gate_is body_is small turned

    pub new_record : sequence_at base new other ≡ Some (next t) → record_at base new ≡ Some content
    new_record turned = record_at-current base other (next t) (omega arith) new (moved turned) ∙ ap (λ (b : List ℕ). Some (drop 1 b)) other_is

    sequence_is : sequence_of piece ≡ Some (next t)
    sequence_is = sequence_of-whole (next t) content long (omega arith)

    by_opening : MayStore base content old new
    by_opening = ⊎_elim
        (λ none. keeps new in_region gate_is body_is (inl none))
        (λ turned. record {
          mark = inr (new_record (turned ∙ ap sequence_of other_is ∙ sequence_is));
          elsewhere = in_region.elsewhere;
          no_shorter = in_region.no_shorter;
        })
        (behind_any (extent at_gate 1 new) (sequence_of (extent place 256 new)))

    -- where it stands open
    pub opened : extent at_gate 1 new ≡ 1 ∷ [] → sequence_at base new other ≡ Some (next t)
    opened one = ap (λ (g : List ℕ). sequence_by g (extent place 256 new)) one ∙ ap sequence_of other_is ∙ sequence_is

  -- what a stop within the replacing leaves
  pub may_store : (new : List ℕ) → MayReplace at_gate place piece old new → MayStore base content old new
  may_store new may = ⊎_elim
      (λ before. ⊎_elim (λ shuts. by_closing new shuts) (λ torn. by_filling new (subst (λ (n : ℕ). Torn place n closed new) long_piece torn)) before)
      (λ torn. by_opening new torn) may

  -- and what it leaves when it is done
  module _ (new : List ℕ) (done : new ≡ replaced at_gate place piece old) where
    whole : Torn at_gate 1 filled_slot new
    whole = subst (λ (l : List ℕ). Torn at_gate 1 filled_slot l) (sym done) (torn_whole at_gate (1 ∷ []) filled_slot (omega (arith, closing.no_shorter, filling.no_shorter, within, le)))

    open_gate : extent at_gate 1 new ≡ 1 ∷ []
    open_gate = ap (λ (l : List ℕ). extent at_gate 1 l) done ∙ extent-written at_gate (1 ∷ []) filled_slot (omega (arith, closing.no_shorter, filling.no_shorter, within, le))

    pub stored_slot : current (extent base 1024 new) ≡ some_at other (next t)
    stored_slot = moved new whole (opened new whole open_gate)

    pub stores : Stores base content old new
    stores = record {
      stored = new_record new whole (opened new whole open_gate);
      elsewhere = (in_region new whole).elsewhere;
      no_shorter = (in_region new whole).no_shorter;
    }

-- of reading

-- the record behind the sequence of a body
pub behind_sequence : (at : ℕ) (bytes : List ℕ) → extent (at + 1) 255 bytes ≡ drop 1 (extent at 256 bytes)
behind_sequence at bytes = ap (λ (l : List ℕ). take 255 l) (sym (drop-drop 1 at bytes)) ∙ sym (drop-take 1 255 (drop at bytes))

-- the region's first 768 bytes decide which record stands there
pub same_slots : (base n : ℕ) (bytes : List ℕ) → 768 ≤ n → current (extent base n bytes) ≡ current (extent base 1024 bytes)
same_slots base n bytes long = current-extent base n bytes long ∙ sym (current-extent base 1024 bytes (omega arith))

pub same_record_of : (base n : ℕ) (bytes : List ℕ) → 768 ≤ n → record_of (extent base n bytes) ≡ record_at base bytes
same_record_of base n bytes long = by (current (extent base n bytes)) refl
  where
    slot_is : (s t n : ℕ) → current (extent base n bytes) ≡ Some (record { slot = s; sequence = t }) → s ≤ 1
    slot_is s t n is = ⊎_elim (λ at. omega (arith, at.0)) (λ at. omega (arith, at.0)) (from_chosen s t (sequence 0 (extent base n bytes)) (sequence 1 (extent base n bytes)) is)

    by : (at : Option Current) → current (extent base n bytes) ≡ at → record_of (extent base n bytes) ≡ record_at base bytes
    by None is = ap (held (extent base n bytes)) is ∙ sym (ap (held (extent base 1024 bytes)) (sym (same_slots base n bytes long) ∙ is))
    by (Some at) is =
        ap (held (extent base n bytes)) is
        ∙ ap (λ (b : List ℕ). Some (drop 1 b)) (extent-extent (256 * (at.slot + 1)) 256 base n bytes (omega (arith, long, slot_is at.slot at.sequence n is)))
        ∙ ap (λ (b : List ℕ). Some (drop 1 b)) (sym (extent-extent (256 * (at.slot + 1)) 256 base 1024 bytes (omega (arith, slot_is at.slot at.sequence n is))))
        ∙ sym (ap (held (extent base 1024 bytes)) (sym (same_slots base n bytes long) ∙ is))

-- of a formatted region

module _ (content : List ℕ) (long : length content ≡ 255) where
  pub length-formatted : length (formatted content) ≡ 1024
  unfolding formatted
  length-formatted = simp length-append (omega (arith, long, length-replicate {A = ℕ} 256 0, length-replicate {A = ℕ} 512 0))

  body-formatted : body 0 (formatted content) ≡ 0 ∷ content
  unfolding formatted
  body-formatted = ap (λ (l : List ℕ). 0 ∷ l) (take_at content (replicate 512 0) 255 long)

  open-formatted : sequence 0 (formatted content) ≡ sequence_of (body 0 (formatted content))
  unfolding formatted
  open-formatted = refl

  sequence-formatted : sequence 0 (formatted content) ≡ Some 0
  sequence-formatted = open-formatted ∙ ap sequence_of body-formatted ∙ sequence_of-whole 0 content long (omega arith)

  closed-formatted : sequence 1 (formatted content) ≡ None
  unfolding formatted
  closed-formatted = refl

  pub current-formatted : current (formatted content) ≡ some_at 0 0
  current-formatted = chosen_same (sequence 0 (formatted content)) (sequence 1 (formatted content)) (Some 0) None sequence-formatted closed-formatted

  pub record_of-formatted : record_of (formatted content) ≡ Some content
  record_of-formatted = ap (held (formatted content)) current-formatted ∙ ap (λ (b : List ℕ). Some (drop 1 b)) body-formatted

-- a value that knows the current record agrees with the disk after a sync
pub agrees_synced : (view : MarkView) (disk : Seen) → IsSynced disk → Knows view disk.bytes → Agrees view disk
agrees_synced view disk synced knows = record {
  now = knows;
  later = in_each_image (Knows view) disk synced knows;
  other_gate = gate_synced (view.base + (1 - view.slot)) disk synced;
}
