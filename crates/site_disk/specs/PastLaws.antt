-- Laws of what a disk in memory was asked, and of what a crash leaves of it.
use Rattle.std.specs.Prelude.{◌≡◌, ℕ, zero, suc, ◌+◌, ◌-◌, ◌<◌, ◌≤◌, nat_eq, nat_lt, nat_le, true, cond, ◌&&◌, List, [], ◌∷◌, length, drop, refl}
use mathlib.Core.Logic.{inl, inr}
use Rattle.std.proofs.Common.{arith, subst, ⊎_elim}
use Rattle.std.proofs.lemmas.Bool.{and_parts, and_from, leb-true, le-leb, le-ltb, lt-ltb, eq-eqb, ne_eqb, cond-true, cond-false, cases_lt, cases_order}
use Rattle.std.proofs.lemmas.List.{drop_all}
use Rattle.std.proofs.lemmas.List.Sums.{sum_by-cons}
use Rattle.site_disk.specs.Bytes.{Torn, Same}
use Rattle.site_disk.specs.BytesLaws.{torn_whole}
use Rattle.site_disk.specs.Images.{Leaves, Stays, OnlyAfter}
use Rattle.site_disk.specs.Past.{Event, put, synced, era_of, contents, Pending, IsImage, is_in_order, IsInOrder, NoGap, TornBy, calls_later, calls_in, past_at}

-- no era is above the last
newest_era : (last : ℕ) (start : List ℕ) (event : Event) (past : List Event) → is_in_order last start (event ∷ past) ≡ true → era_of event ≤ last
newest_era last start (put era at piece) past ordered =
    leb-true era last (and_parts (nat_le era last) (nat_le at (length (contents start past)) && is_in_order era start past) ordered).0
newest_era last start (synced era) past ordered = leb-true era last (and_parts (nat_le era last) (is_in_order era start past) ordered).0

older_in_order : (last : ℕ) (start : List ℕ) (event : Event) (past : List Event) → is_in_order last start (event ∷ past) ≡ true → is_in_order (era_of event) start past ≡ true
older_in_order last start (put era at piece) past ordered =
    (and_parts (nat_le at (length (contents start past))) (is_in_order era start past)
    (and_parts (nat_le era last) (nat_le at (length (contents start past)) && is_in_order era start past) ordered).1).1
older_in_order last start (synced era) past ordered = (and_parts (nat_le era last) (is_in_order era start past) ordered).1

no_gap : (last : ℕ) (start : List ℕ) (era at : ℕ) (piece : List ℕ) (past : List Event) → is_in_order last start (put era at piece ∷ past) ≡ true → at ≤ length (contents start past)
no_gap last start era at piece past ordered =
    leb-true at (length (contents start past))
    (and_parts (nat_le at (length (contents start past))) (is_in_order era start past)
    (and_parts (nat_le era last) (nat_le at (length (contents start past)) && is_in_order era start past) ordered).1).0

pub newest_no_gap : (last : ℕ) (start : List ℕ) (event : Event) (past : List Event) → is_in_order last start (event ∷ past) ≡ true → NoGap (contents start past) event
newest_no_gap last start (put era at piece) past ordered = no_gap last start era at piece past ordered
newest_no_gap last start (synced era) past ordered = tt

-- in a later era the order stays
pub order_later : (last later : ℕ) (start : List ℕ) (past : List Event) → last ≤ later → is_in_order last start past ≡ true → is_in_order later start past ≡ true
order_later last later start [] le ordered = refl
order_later last later start (put era at piece ∷ past) le ordered =
    and_from (nat_le era later) (nat_le at (length (contents start past)) && is_in_order era start past)
    (le-leb era later (let newest = newest_era last start (put era at piece) past ordered in omega arith))
    (and_parts (nat_le era last) (nat_le at (length (contents start past)) && is_in_order era start past) ordered).1
order_later last later start (synced era ∷ past) le ordered =
    and_from (nat_le era later) (is_in_order era start past)
    (le-leb era later (let newest = newest_era last start (synced era) past ordered in omega arith))
    (and_parts (nat_le era last) (is_in_order era start past) ordered).1

-- a write at a place within the bytes, in the last era or later
pub order_put : (last era at : ℕ) (start piece : List ℕ) (past : List Event) → last ≤ era → at ≤ length (contents start past)
    → is_in_order last start past ≡ true → is_in_order era start (put era at piece ∷ past) ≡ true
order_put last era at start piece past le within ordered =
    and_from (nat_le era era) (nat_le at (length (contents start past)) && is_in_order era start past) (le-leb era era (omega arith))
    (and_from (nat_le at (length (contents start past))) (is_in_order era start past) (le-leb at (length (contents start past)) within)
    (order_later last era start past le ordered))

pub order_sync : (last era : ℕ) (start : List ℕ) (past : List Event) → last ≤ era
    → is_in_order last start past ≡ true → is_in_order era start (synced era ∷ past) ≡ true
order_sync last era start past le ordered =
    and_from (nat_le era era) (is_in_order era start past) (le-leb era era (omega arith)) (order_later last era start past le ordered)

-- what the disk reads as is pending
pub pending_contents : (last : ℕ) (start : List ℕ) (past : List Event) → is_in_order last start past ≡ true → Pending start past (contents start past)
pending_contents last start [] ordered = refl
pending_contents last start (put era at piece ∷ past) ordered = (
  contents start past,
  pending_contents era start past (older_in_order last start (put era at piece) past ordered),
  torn_whole at piece (contents start past) (no_gap last start era at piece past ordered),
)
pending_contents last start (synced era ∷ past) ordered = refl

-- what is pending is what a crash may leave in the last era and later
pub image_pending : (last : ℕ) (start : List ℕ) (past : List Event) (f : ℕ) (c : List ℕ) → is_in_order last start past ≡ true → last ≤ f → Pending start past c → IsImage start past f c
image_pending last start [] f c ordered le pending = pending
image_pending last start (event ∷ past) f c ordered le pending = inl (let newest = newest_era last start event past ordered in omega arith, pending)

pub pending_image : (last : ℕ) (start : List ℕ) (past : List Event) (g : ℕ) (c : List ℕ) → is_in_order last start past ≡ true → last < g → IsImage start past g c → Pending start past c
pending_image last start [] g c ordered lt image = image
pending_image last start (event ∷ past) g c ordered lt image =
    ⊎_elim (λ now. now.1) (λ before. absurd (let newest = newest_era last start event past ordered in omega (arith, before.0))) image

-- the eras after the last one have the same images, and that era has them too
pub later_counts : (last : ℕ) (start : List ℕ) (past : List Event) (f g : ℕ) (c : List ℕ) → is_in_order last start past ≡ true → last ≤ f → last < g → IsImage start past g c → IsImage start past f c
later_counts last start past f g c ordered le lt image = image_pending last start past f c ordered le (pending_image last start past g c ordered lt image)

pub image_contents : (last : ℕ) (start : List ℕ) (past : List Event) (f : ℕ) → is_in_order last start past ≡ true → last ≤ f → IsImage start past f (contents start past)
image_contents last start past f ordered le = image_pending last start past f (contents start past) ordered le (pending_contents last start past ordered)

-- what one more event does to the images
module _ (last e : ℕ) (start : List ℕ) (past : List Event) (ordered : is_in_order last start past ≡ true) (le : last ≤ e) where
  pub leaves_put : (at : ℕ) (piece : List ℕ) → Leaves e (Torn at (length piece)) (IsImage start past) (IsImage start (put e at piece ∷ past))
  leaves_put at piece = record {
    earlier = λ f c lt image. ⊎_elim (λ now. absurd (omega (arith, now.0))) (λ before. before.1) image;
    during = λ c image. ⊎_elim
        (λ now. inr (now.1.0, image_pending last start past (e + 1) now.1.0 ordered (omega arith) now.1.1, now.1.2))
        (λ before. inl before.1) image;
    later = λ f c lt image. ⊎_elim
        (λ now. (now.1.0, image_pending last start past f now.1.0 ordered (omega arith) now.1.1, now.1.2))
        (λ before. absurd (omega (arith, before.0))) image;
  }

  pub leaves_sync : Leaves e Same (IsImage start past) (IsImage start (synced e ∷ past))
  leaves_sync = record {
    earlier = λ f c lt image. ⊎_elim (λ now. absurd (omega (arith, now.0))) (λ before. before.1) image;
    during = λ c image. ⊎_elim
        (λ now. inr (contents start past, image_contents last start past (e + 1) ordered (omega arith), now.1))
        (λ before. inl before.1) image;
    later = λ f c lt image. ⊎_elim
        (λ now. (contents start past, image_contents last start past f ordered (omega arith), now.1))
        (λ before. absurd (omega (arith, before.0))) image;
  }

-- and it takes none away of its era and those before
pub stays_put : (e at : ℕ) (start piece : List ℕ) (past : List Event) → Stays e (IsImage start past) (IsImage start (put e at piece ∷ past))
stays_put e at start piece past f c le image = inr (le, image)

pub stays_sync : (e : ℕ) (start : List ℕ) (past : List Event) → Stays e (IsImage start past) (IsImage start (synced e ∷ past))
stays_sync e start past f c le image = inr (le, image)

-- after a sync later eras are left what a read gives
pub only_synced : (e : ℕ) (start : List ℕ) (past : List Event) → OnlyAfter e (contents start past) (IsImage start (synced e ∷ past))
only_synced e start past f c lt image = ⊎_elim (λ now. now.1) (λ before. absurd (omega (arith, before.0))) image

-- what was asked up to some moment is in order too
pub order_drop : (last : ℕ) (start : List ℕ) (past : List Event) (k : ℕ) → is_in_order last start past ≡ true → IsInOrder start (drop k past)
order_drop last start past zero ordered = (last, ordered)
order_drop last start [] (suc k) ordered = (last, ordered)
order_drop last start (event ∷ past) (suc k) ordered = order_drop (era_of event) start past k (older_in_order last start event past ordered)

-- one call more
calls_later-cons : (f : ℕ) (event : Event) (past : List Event) → calls_later f (event ∷ past) ≡ cond (nat_lt f (era_of event)) 1 0 + calls_later f past
calls_later-cons f event past = sum_by-cons (λ (e : Event). cond {A = ℕ} (nat_lt f (era_of e)) 1 0) event past

calls_in-cons : (f : ℕ) (event : Event) (past : List Event) → calls_in f (event ∷ past) ≡ cond (nat_eq (era_of event) f) 1 0 + calls_in f past
calls_in-cons f event past = sum_by-cons (λ (e : Event). cond {A = ℕ} (nat_eq (era_of e) f) 1 0) event past

-- no call was made in an era above the last
none_later : (f last : ℕ) (start : List ℕ) (past : List Event) → last ≤ f → is_in_order last start past ≡ true → calls_later f past ≡ 0
none_later f last start [] le ordered = refl
none_later f last start (event ∷ past) le ordered =
    let newest = newest_era last start event past ordered in
    let none : calls_later f past ≡ 0 = none_later f (era_of event) start past (omega arith) (older_in_order last start event past ordered) in
    omega (arith, calls_later-cons f event past, cond-false {A = ℕ} (nat_lt f (era_of event)) 1 0 (le-ltb f (era_of event) (omega arith)))

none_in : (f last : ℕ) (start : List ℕ) (past : List Event) → last < f → is_in_order last start past ≡ true → calls_in f past ≡ 0
none_in f last start [] lt ordered = refl
none_in f last start (event ∷ past) lt ordered =
    let newest = newest_era last start event past ordered in
    let none : calls_in f past ≡ 0 = none_in f (era_of event) start past (omega arith) (older_in_order last start event past ordered) in
    let other : era_of event ≡ f → ⊥ = omega arith in
    omega (arith, calls_in-cons f event past, cond-false {A = ℕ} (nat_eq (era_of event) f) 1 0 (ne_eqb (era_of event) f other))

-- what is pending at a moment of an era is what a crash in it may leave
pub pending_at_image : (f n last : ℕ) (start : List ℕ) (past : List Event) (c : List ℕ) → is_in_order last start past ≡ true
    → Pending start (past_at f n past) c → IsImage start past f c
pending_at_image f n last start [] c ordered pending = subst (λ (p : List Event). Pending start p c) (drop_all (calls_later f [] + (calls_in f [] - n)) [] (omega arith)) pending
pending_at_image f n last start (event ∷ past) c ordered pending = elim (cases_order (era_of event) f) [
  | inl same ↦ elim (cases_lt (calls_in f past) n) [
    | inl few ↦ whole (omega arith)
        (let none = none_later f (era_of event) start past (omega arith) older in
        omega (arith, calls_later-cons f event past, calls_in-cons f event past, none, cond-false {A = ℕ} (nat_lt f (era_of event)) 1 0 (le-ltb f (era_of event) (omega arith)), cond-true {A = ℕ} (nat_eq (era_of event) f) 1 0 (eq-eqb (era_of event) f same)))
    | inr many ↦ rest (omega arith)
        (omega (arith, calls_later-cons f event past, calls_in-cons f event past, cond-false {A = ℕ} (nat_lt f (era_of event)) 1 0 (le-ltb f (era_of event) (omega arith)), cond-true {A = ℕ} (nat_eq (era_of event) f) 1 0 (eq-eqb (era_of event) f same)))
        (pending_at_image f n (era_of event) start past c older)
  ]
  | inr (inl before) ↦ whole (omega arith)
      (let none = none_later f (era_of event) start past (omega arith) older in
      let none_here = none_in f (era_of event) start past before older in
      omega (
        arith,
        calls_later-cons f event past,
        calls_in-cons f event past,
        none,
        none_here,
        cond-false {A = ℕ} (nat_lt f (era_of event)) 1 0 (le-ltb f (era_of event) (omega arith)),
        cond-false {A = ℕ} (nat_eq (era_of event) f) 1 0 (ne_eqb (era_of event) f (omega arith)),
      ))
  | inr (inr after) ↦ rest (omega arith)
      (omega (arith, calls_later-cons f event past, calls_in-cons f event past, cond-true {A = ℕ} (nat_lt f (era_of event)) 1 0 (lt-ltb f (era_of event) after), cond-false {A = ℕ} (nat_eq (era_of event) f) 1 0 (ne_eqb (era_of event) f (omega arith))))
      (pending_at_image f n (era_of event) start past c older)
]
  where
    older : is_in_order (era_of event) start past ≡ true
    older = older_in_order last start event past ordered

    -- no call is left out
    whole : era_of event ≤ f → calls_later f (event ∷ past) + (calls_in f (event ∷ past) - n) ≡ 0 → IsImage start (event ∷ past) f c
    whole le none = inl (le, subst (λ (k : ℕ). Pending start (drop k (event ∷ past)) c) none pending)

    -- the newest call is left out
    rest : f ≤ era_of event → calls_later f (event ∷ past) + (calls_in f (event ∷ past) - n) ≡ suc (calls_later f past + (calls_in f past - n))
        → (Pending start (past_at f n past) c → IsImage start past f c) → IsImage start (event ∷ past) f c
    rest le one smaller = inr (le, smaller (subst (λ (k : ℕ). Pending start (drop k (event ∷ past)) c) one pending))

-- one more thing done, whole and torn
pub contents-cons : (start : List ℕ) (event : Event) (past : List Event) → contents start (event ∷ past) ≡ contents (contents start past) (event ∷ [])
contents-cons start (put era at piece) past = refl
contents-cons start (synced era) past = refl

pub pending_torn : (start torn torn' : List ℕ) (event : Event) (past : List Event) → Pending start past torn → TornBy event (contents start past) torn torn' → Pending start (event ∷ past) torn'
pending_torn start torn torn' (put era at piece) past pending by = (torn, pending, by)
pending_torn start torn torn' (synced era) past pending by = by
