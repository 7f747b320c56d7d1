-- Lists are linked block by block.
use Rattle.std.proofs.Common.{◌≡◌, ◌≢◌, ℕ, suc, ◌+◌, ◌-◌, ◌<◌, ◌≤◌, ◌⊎◌, List, [], ◌∷◌, ◌++◌, Option, Some, None, length, set, take, replicate, refl, sym, ap, ◌∙◌, subst, arith, length-set, append_assoc, get_or-set_same, get_or-set_other, inl, inr, ⊎_elim}
use Rattle.std.proofs.lemmas.Bool.{cases_lt, cases_eq}
use Rattle.std.proofs.lemmas.List.{append-nil, take_all, get_or_append_left, get_or-append_right, get_or-replicate, get_or_past, length-replicate}
use Rattle.block_chain.specs.Blocks.{times, ascending, last_or, RefusesFirst}
use Rattle.block_chain.specs.Placing.{link_of, PlacesBlock, AreLinked, last_of, ArePlaced, KeepsLinks, PlacesMore, Explains}
use Rattle.block_chain.specs.declared.table.ChainFault.{ChainFault}
use Rattle.block_chain.specs.declared.table.ChainFault.TheVariants.{Overlap, OutOfMemory}
use Rattle.block_chain.specs.BlocksLaws.{times-append, times_head, times_other, times-tail, times_last, times-single, last_or-append, ascending-split}

-- a block with a link is in range
pub linked_within : (links : List ℕ) (b : ℕ) → link_of links b ≢ 4294967295 → b < length links
linked_within links b linked = ⊎_elim (λ (h : b < length links). h) (λ (h : length links ≤ b). absurd (linked (get_or_past links b 4294967295 h))) (cases_lt b (length links))

-- more places change no link
pub link_of-grown : (links : List ℕ) (n k b : ℕ) → length links ≤ n → link_of (take n links ++ replicate k 4294967295) b ≡ link_of links b
link_of-grown links n k b fits = rw (take_all n links fits) (⊎_elim
    (λ (h : b < length links). get_or_append_left links (replicate k 4294967295) 4294967295 b h)
    (λ (h : length links ≤ b). get_or-append_right links (replicate k 4294967295) (length links) b 4294967295 refl h ∙ ⊎_elim
    (λ (g : b - length links < k). get_or-replicate k (b - length links) 4294967295 4294967295 g)
    (λ (g : k ≤ b - length links). get_or_past (replicate k 4294967295) (b - length links) 4294967295 (omega (arith, length-replicate {A = ℕ} k 4294967295)))
    (cases_lt (b - length links) k) ∙ sym (get_or_past links b 4294967295 h))
    (cases_lt b (length links)))

-- a block is placed behind another
pub PlacesBlock-behind : (blocks : ℕ) (old links : List ℕ) (before block : ℕ) → block < blocks → ((b : ℕ) → link_of links b ≡ link_of old b) → link_of old block ≡ 4294967295 → block < length links
    → link_of old before ≢ 4294967295 → PlacesBlock blocks old (set (set links block block) before block) (Some before) block
PlacesBlock-behind blocks old links before block below same hole within linked =
    let differ : before ≢ block = λ e. linked (ap (link_of old) e ∙ hole) in
    let in_range : before < length links = linked_within links before (λ e. linked (sym (same before) ∙ e)) in
    let in_range_set : before < length (set links block block) = omega (arith, in_range, length-set links block block) in
    record {
      below = below;
      hole = hole;
      itself = get_or-set_other (set links block block) before block block 4294967295 (λ e. differ (sym e)) ∙ get_or-set_same links block block 4294967295 within;
      link = λ b e. let is : before ≡ b = cc in subst (λ n. link_of (set (set links block block) before block) n ≡ block) is (get_or-set_same (set links block block) before block 4294967295 in_range_set);
      others = λ b ne ne_before. get_or-set_other (set links block block) before b block 4294967295 (λ e. ne_before (ap Some (sym e))) ∙ get_or-set_other links block b block 4294967295 ne ∙ same b;
    }

-- the last block stands in the list
last_stands : (xs : List ℕ) (b : ℕ) → Some b ≡ last_of xs → 0 < times b xs
last_stands [] b e = cc
last_stands (x ∷ xs) b e = let is : last_or x xs ≡ b = cc in subst (λ n. 0 < times n (x ∷ xs)) is (times_last x xs)

last_of-snoc : (xs : List ℕ) (y : ℕ) → last_of (xs ++ y ∷ []) ≡ Some y
last_of-snoc [] y = refl
last_of-snoc (x ∷ xs) y = ap Some (last_or-append x y xs [])

-- a link from the last block of a list to another block
AreLinked-snoc : (old new xs : List ℕ) (block : ℕ) → AreLinked old xs → ((b : ℕ) → times b xs ≤ 1) → ((b : ℕ) → 0 < times b xs → last_of xs ≢ Some b → link_of new b ≡ link_of old b)
    → ((b : ℕ) → last_of xs ≡ Some b → link_of new b ≡ block) → AreLinked new (xs ++ block ∷ [])
AreLinked-snoc old new [] block are once others last = (tt, tt)
AreLinked-snoc old new (x ∷ []) block are once others last = (last x refl, (tt, tt))
AreLinked-snoc old new (x ∷ y ∷ ys) block are once others last =
    let differ : last_of (x ∷ y ∷ ys) ≢ Some x
    = λ e. let is : last_or y ys ≡ x = cc in let stands : 0 < times x (y ∷ ys) = subst (λ n. 0 < times n (y ∷ ys)) is (times_last y ys) in absurd (omega (arith, once x, times_head x (y ∷ ys), stands)) in (
      others x (omega (arith, times_head x (y ∷ ys))) differ ∙ are.0,
      AreLinked-snoc old new (y ∷ ys) block are.1 (λ b. omega (arith, once b, times-tail b x (y ∷ ys))) (λ b some ne. others b (omega (arith, some, times-tail b x (y ∷ ys))) ne) last,
    )

pub AreLinked-kept : (old new xs : List ℕ) → KeepsLinks old new xs → AreLinked old xs → AreLinked new xs
AreLinked-kept old new [] kept are = tt
AreLinked-kept old new (x ∷ []) kept are = (tt, tt)
AreLinked-kept old new (x ∷ y ∷ ys) kept are = (kept x (omega (arith, times_head x (y ∷ ys))) ∙ are.0, AreLinked-kept old new (y ∷ ys) (λ b some. kept b (omega (arith, some, times-tail b x (y ∷ ys)))) are.1)

is_last : (last : Option ℕ) (b : ℕ) → (last ≡ Some b) ⊎ (last ≢ Some b)
is_last None b = inr (λ e. cc)
is_last (Some p) b = ⊎_elim (λ (e : p ≡ b). inl (ap Some e)) (λ (ne : p ≢ b). inr (λ e. ne cc)) (cases_eq p b)

-- one more block of the list under way
pub ArePlaced-more : (blocks : ℕ) (old new done own : List ℕ) (last : Option ℕ) (block : ℕ) → blocks ≤ 4294967295 → ArePlaced blocks old done own last → PlacesBlock blocks old new last block
    → PlacesMore blocks old new done (own ++ block ∷ []) (Some block)
ArePlaced-more blocks old new done own last block limit are places =
    let absent : times block (done ++ own) ≡ 0
    = ⊎_elim (λ (h : 0 < times block (done ++ own)). absurd (are.marked block h places.hole)) (λ (h : times block (done ++ own) ≤ 0). omega (arith, h)) (cases_lt 0 (times block (done ++ own))) in
    let not_last : (b : ℕ) → times b own ≡ 0 → last ≢ Some b
    = λ b none e. let stands : 0 < times b own = last_stands own b (sym e ∙ are.ends) in absurd (omega (arith, stands, none)) in
    let count : (b : ℕ) → times b (done ++ (own ++ block ∷ [])) ≡ times b done + (times b own + times b (block ∷ []))
    = λ b. times-append b done (own ++ block ∷ []) ∙ ap (λ n. times b done + n) (times-append b own (block ∷ [])) in
    record {
      placed = record {
        sound = record {
          once = λ b. ⊎_elim
              (λ (e : block ≡ b). subst (λ n. times n (done ++ (own ++ block ∷ [])) ≤ 1) e (omega (arith, count block, absent, times-append block done own, times-single block block)))
              (λ (ne : block ≢ b). omega (arith, count b, times_other b block [] ne, times-append b done own, are.sound.once b))
              (cases_eq block b);
          below = λ b some. ⊎_elim
              (λ (e : block ≡ b). subst (λ n. n < blocks) e places.below)
              (λ (ne : block ≢ b). are.sound.below b (omega (arith, some, count b, times_other b block [] ne, times-append b done own)))
              (cases_eq block b);
        };
        marked = λ b some. ⊎_elim
            (λ (e : block ≡ b). let link : link_of new b ≡ block = subst (λ n. link_of new n ≡ block) e places.itself in λ h. omega (arith, places.below, limit, link, h))
            (λ (ne : block ≢ b). ⊎_elim
            (λ (e : last ≡ Some b). λ h. omega (arith, places.below, limit, places.link b e, h))
            (λ (ne_last : last ≢ Some b). λ h. are.marked b (omega (arith, some, count b, times_other b block [] ne, times-append b done own)) (sym (places.others b (λ e. ne (sym e)) ne_last) ∙ h))
            (is_last last b))
            (cases_eq block b);
        holes = λ b none.
            let ne : block ≢ b = λ e. let one : times b (block ∷ []) ≡ 1 = subst (λ n. times n (block ∷ []) ≡ 1) e (times_head block []) in absurd (omega (arith, none, count b, one)) in
            places.others b (λ e. ne (sym e)) (not_last b (omega (arith, none, count b))) ∙ are.holes b (omega (arith, none, count b, times-append b done own));
        linked = AreLinked-snoc old new own block are.linked (λ b. omega (arith, are.sound.once b, times-append b done own))
            (λ b some ne_last. places.others b (λ e. let stands : 0 < times block own = subst (λ n. 0 < times n own) e some in absurd (omega (arith, stands, absent, times-append block done own))) (λ e. ne_last (sym are.ends ∙ e)))
            (λ b e. places.link b (are.ends ∙ e));
        ends = sym (last_of-snoc own block);
      };
      kept = λ b some. places.others b
          (λ e. let stands : 0 < times block done = subst (λ n. 0 < times n done) e some in absurd (omega (arith, stands, absent, times-append block done own)))
          (not_last b (omega (arith, some, are.sound.once b, times-append b done own)));
    }

-- and the next list begins
pub PlacesMore-done : (blocks : ℕ) (old new done own : List ℕ) (last : Option ℕ) → PlacesMore blocks old new done own last → ArePlaced blocks new (done ++ own) [] None
PlacesMore-done blocks old new done own last more = record {
  sound = rw (append-nil (done ++ own)) more.placed.sound;
  marked = rw (append-nil (done ++ own)) more.placed.marked;
  holes = rw (append-nil (done ++ own)) more.placed.holes;
  linked = tt;
  ends = refl;
}

-- a block that can't be placed is the first that is refused
pub RefusesFirst-behind : (blocks : ℕ) (links done own behind : List ℕ) (last : Option ℕ) (block : ℕ) → ArePlaced blocks links done own last → (blocks ≤ block) ⊎ (link_of links block ≢ 4294967295)
    → RefusesFirst blocks (done ++ (own ++ block ∷ behind)) block
RefusesFirst-behind blocks links done own behind last block are fault = record {
  before = done ++ own;
  behind = behind;
  order = sym (append_assoc done own (block ∷ behind));
  sound = are.sound;
  fault = ⊎_elim (λ (h : blocks ≤ block). inl h)
      (λ (h : link_of links block ≢ 4294967295). ⊎_elim (λ (some : 0 < times block (done ++ own)). inr some) (λ (none : times block (done ++ own) ≤ 0). absurd (h (are.holes block (omega (arith, none))))) (cases_lt 0 (times block (done ++ own))))
      fault;
}

pub Explains-more : (blocks : ℕ) (xs more : List ℕ) (fault : ChainFault) → Explains blocks xs fault → Explains blocks (xs ++ more) fault
Explains-more blocks xs more (Overlap block) first = record {
  before = first.before;
  behind = first.behind ++ more;
  order = ap (λ (ys : List ℕ). ys ++ more) first.order ∙ append_assoc first.before (block ∷ first.behind) more;
  sound = first.sound;
  fault = first.fault;
}
Explains-more blocks xs more OutOfMemory first = tt

-- more blocks after some
pub PlacesMore-then : (blocks : ℕ) (old mid new done own own' : List ℕ) (last last' : Option ℕ) → PlacesMore blocks old mid done own last → PlacesMore blocks mid new done own' last' → PlacesMore blocks old new done own' last'
PlacesMore-then blocks old mid new done own own' last last' first second = record {
  placed = second.placed;
  kept = λ b some. second.kept b some ∙ first.kept b some;
}

pub ascending-more : (own : List ℕ) (first k : ℕ) → own ++ ascending first (k + 1) ≡ (own ++ ascending first k) ++ (first + k) ∷ []
unfolding ascending
ascending-more own first k = ap (λ (xs : List ℕ). own ++ xs) (ascending-split first k 0) ∙ sym (append_assoc own (ascending first k) ((first + k) ∷ []))

-- a run, cut at one of its blocks
pub run_cut : (own : List ℕ) (first count k : ℕ) → k < count → own ++ ascending first count ≡ (own ++ ascending first k) ++ (first + k) ∷ ascending (suc (first + k)) (count - suc k)
run_cut own first count k lt =
    let whole : count ≡ k + suc (count - suc k) = omega arith in
    ap (λ (n : ℕ). own ++ ascending first n) whole ∙ ap (λ (xs : List ℕ). own ++ xs) (ascending-split first k (count - suc k)) ∙ sym (append_assoc own (ascending first k) ((first + k) ∷ ascending (suc (first + k)) (count - suc k)))
