-- The holes are linked in ascending order.
use Rattle.std.proofs.Common.{◌≡◌, ◌≢◌, ℕ, zero, suc, ◌+◌, ◌<◌, ◌≤◌, Bool, true, false, cond, List, [], ◌∷◌, ◌++◌, length, filter, refl, sym, ap, ◌∙◌, subst, arith, get_or-set_other, eq-eqb, ⊎_elim}
use Rattle.std.proofs.lemmas.Bool.{cases_eq, ne_eqb, false≢true}
use Rattle.std.proofs.lemmas.List.Elements.{filter-append}
use Rattle.std.proofs.lemmas.List.{append-nil}
use Rattle.std.proofs.Math.Dec.{eqb-suc-zero}
use Rattle.block_chain.specs.Blocks.{times, ascending, last_or}
use Rattle.block_chain.specs.Table.{chain, linked_blocks}
use Rattle.block_chain.specs.Layout.{IsChain, joined, joined_links}
use Rattle.block_chain.specs.Placing.{link_of, is_hole}
use Rattle.block_chain.specs.declared.lists.BlockList.{BlockList}
use Rattle.block_chain.specs.BlocksLaws.{times-append, times_other, times_single, times-single, times_above, ascending_once, ascending-split}
use Rattle.block_chain.proofs.JoinLemmas.{tail_stands, length-joined_links, linked_blocks-joined}
use Rattle.block_chain.proofs.LayoutLemmas.{IsChain-joined, lens_fit}
use Rattle.block_chain.proofs.TakeLemmas.{single}

-- a filter keeps no block more often
pub times-filter : (b : ℕ) (p : ℕ → Bool) (xs : List ℕ) → times b (filter p xs) ≤ times b xs
times-filter b p [] = omega arith
times-filter b p (x ∷ xs) = by_test (p x) (filter p xs) (times-filter b p xs)
  where
    by_test : (t : Bool) (ys : List ℕ) → times b ys ≤ times b xs → times b (cond t (x ∷ ys) ys) ≤ times b (x ∷ xs)
    by_test true ys h = omega (arith, h)
    by_test false ys h = omega (arith, h)

-- it keeps a block that passes as often as it stands
pub times-filter-passes : (b : ℕ) (p : ℕ → Bool) (xs : List ℕ) → p b ≡ true → times b (filter p xs) ≡ times b xs
times-filter-passes b p [] passes = refl
times-filter-passes b p (x ∷ xs) passes = by_test (p x) refl (filter p xs) (times-filter-passes b p xs passes)
  where
    by_test : (t : Bool) → p x ≡ t → (ys : List ℕ) → times b ys ≡ times b xs → times b (cond t (x ∷ ys) ys) ≡ times b (x ∷ xs)
    by_test true e ys h = omega (arith, h)
    by_test false e ys h = h ∙ sym (times_other b x xs (λ same. absurd (false≢true (sym e ∙ ap p same ∙ passes))))

-- and none that doesn't
pub times-filter-fails : (b : ℕ) (p : ℕ → Bool) (xs : List ℕ) → p b ≡ false → times b (filter p xs) ≡ 0
times-filter-fails b p [] fails = refl
times-filter-fails b p (x ∷ xs) fails = by_test (p x) refl (filter p xs) (times-filter-fails b p xs fails)
  where
    by_test : (t : Bool) → p x ≡ t → (ys : List ℕ) → times b ys ≡ 0 → times b (cond t (x ∷ ys) ys) ≡ 0
    by_test true e ys h = times_other b x ys (λ same. absurd (false≢true (sym fails ∙ sym (ap p same) ∙ e))) ∙ h
    by_test false e ys h = h

-- a link that no block of the front has
link_of-joined_links : (links : List ℕ) (front behind : BlockList) (b : ℕ) → IsChain links front → times b (linked_blocks links front) ≡ 0 → link_of (joined_links links front behind) b ≡ link_of links b
link_of-joined_links links front behind b is none = by_len links front.head front.tail front.len behind.head behind.tail behind.len b is.ends none
  where
    by_len : (links : List ℕ) (head tail len head' tail' len' b : ℕ) → last_or tail (chain links head len) ≡ tail → times b (chain links head len) ≡ 0
        → link_of (joined_links links (record { head = head; tail = tail; len = len }) (record { head = head'; tail = tail'; len = len' })) b ≡ link_of links b
    by_len links head tail zero head' tail' len' b ends none = refl
    by_len links head tail (suc n) head' tail' zero b ends none = simp eqb-suc-zero
    by_len links head tail (suc n) head' tail' (suc m) b ends none = simp eqb-suc-zero (get_or-set_other links tail b head' 4294967295
        (λ e. let stands : 0 < times b (chain links head (suc n)) = subst (λ t. 0 < times t (chain links head (suc n))) (sym e) (tail_stands links head tail n ends) in absurd (omega (arith, stands, none))))

-- so far the list has the holes below a block, and only its blocks have new links
pub record HasLinked (old now : List ℕ) (holes : BlockList) (i : ℕ) : Type 0 where
  pub chained : IsChain now holes
  pub list : linked_blocks now holes ≡ filter (is_hole old) (ascending 0 i)
  pub kept : (b : ℕ) → times b (linked_blocks now holes) ≡ 0 → link_of now b ≡ link_of old b
  pub same_length : length now ≡ length old

pub hole_chain : (now : List ℕ) (i : ℕ) → i < length now → IsChain now (single i)
hole_chain now i lt = record { within = λ b some. subst (λ n. n < length now) (times_single b i some) lt; ends = refl }

filter_more : (old : List ℕ) (i : ℕ) → filter (is_hole old) (ascending 0 (i + 1)) ≡ filter (is_hole old) (ascending 0 i) ++ filter (is_hole old) (i ∷ [])
unfolding ascending
filter_more old i =
    let plain : 0 + i ≡ i = omega arith in
    let split : ascending 0 (i + 1) ≡ ascending 0 i ++ i ∷ [] = ascending-split 0 i 0 ∙ ap (λ (n : ℕ). ascending 0 i ++ n ∷ []) plain in
    ap (filter (is_hole old)) split ∙ filter-append (is_hole old) (ascending 0 i) (i ∷ [])

module _ {old now : List ℕ} {holes : BlockList} {i : ℕ} where
  -- no hole so far is at the block or past it
  hole_below : HasLinked old now holes i → (b : ℕ) → i ≤ b → times b (linked_blocks now holes) ≡ 0
  hole_below has b past = rw has.list (omega (arith, times-filter b (is_hole old) (ascending 0 i), times_above b 0 i (omega arith)))

  pub link_is : HasLinked old now holes i → link_of now i ≡ link_of old i
  link_is has = has.kept i (hole_below has i (omega arith))

  pub hole_once : HasLinked old now holes i → (b : ℕ) → times b (linked_blocks now holes) + times b (i ∷ []) ≤ 1
  hole_once has b = ⊎_elim
      (λ (e : i ≡ b). omega (arith, hole_below has b (omega (arith, e)), times-single b i))
      (λ (ne : i ≢ b). let few : times b (linked_blocks now holes) ≤ 1 = rw has.list (omega (arith, times-filter b (is_hole old) (ascending 0 i), ascending_once b 0 i)) in omega (arith, few, times_other b i [] ne))
      (cases_eq i b)

  pub hole_fits : HasLinked old now holes i → i < length now → holes.len + 1 ≤ length now
  hole_fits has lt = lens_fit now holes (single i) has.chained (hole_chain now i lt) (hole_once has)

  pub HasLinked-skipped : HasLinked old now holes i → link_of now i ≢ 4294967295 → HasLinked old now holes (i + 1)
  HasLinked-skipped has linked =
      let no_hole : is_hole old i ≡ false = ne_eqb (link_of old i) 4294967295 (λ e. linked (link_is has ∙ e)) in
      record {
        chained = has.chained;
        list = has.list ∙ sym (filter_more old i ∙ rw no_hole (append-nil (filter (is_hole old) (ascending 0 i))));
        kept = has.kept;
        same_length = has.same_length;
      }

  pub HasLinked-hole : HasLinked old now holes i → i < length now → link_of now i ≡ 4294967295 → HasLinked old (joined_links now holes (single i)) (joined holes (single i)) (i + 1)
  HasLinked-hole has lt hole =
      let is : is_hole old i ≡ true = eq-eqb (link_of old i) 4294967295 (sym (link_is has) ∙ hole) in
      let list : linked_blocks (joined_links now holes (single i)) (joined holes (single i)) ≡ linked_blocks now holes ++ i ∷ [] = linked_blocks-joined now holes (single i) has.chained (hole_once has) in
      record {
        chained = IsChain-joined now holes (single i) has.chained (hole_chain now i lt) (hole_once has);
        list = list ∙ ap (λ (xs : List ℕ). xs ++ i ∷ []) has.list ∙ sym (filter_more old i ∙ rw is refl);
        kept = λ b none.
            let apart : times b (linked_blocks now holes) ≡ 0 = omega (arith, times-append b (linked_blocks now holes) (i ∷ []), ap (times b) list, none) in
            link_of-joined_links now holes (single i) b has.chained apart ∙ has.kept b apart;
        same_length = length-joined_links now holes (single i) ∙ has.same_length;
      }

-- a block that was no hole keeps its link
pub HasLinked-others : (old now : List ℕ) (holes : BlockList) (i : ℕ) → HasLinked old now holes i → (b : ℕ) → link_of old b ≢ 4294967295 → link_of now b ≡ link_of old b
HasLinked-others old now holes i has b linked = has.kept b (rw has.list (times-filter-fails b (is_hole old) (ascending 0 i) (ne_eqb (link_of old b) 4294967295 linked)))
