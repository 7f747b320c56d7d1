-- The table that is made of live lists.
use Rattle.std.proofs.Common.{◌≡◌, ◌≢◌, ℕ, zero, suc, ◌+◌, ◌-◌, ◌<◌, ◌≤◌, ◌^◌, Bool, true, eqb, List, [], ◌∷◌, ◌++◌, None, length, get_or, take, drop, filter, refl, sym, ap, ◌∙◌, arith, eq-eqb, ⊎_elim}
use Rattle.std.specs.List.{AllByRecursion}
use Rattle.std.specs.declared.vec.Vec.{Vec}
use Rattle.std.specs.declared.alloc.Global.{Global}
use Rattle.std.proofs.lemmas.Bool.{cases_lt, ne_eqb}
use Rattle.std.proofs.lemmas.Grind.{flat_map-append}
use Rattle.std.proofs.lemmas.List.{append-nil, get_or_past, get_or_default, take_more, take-append-drop, drop_more}
use Rattle.std.proofs.lemmas.List.Elements.{filter-append, filter_agree}
use Rattle.block_chain.specs.Blocks.{times, AreSound, ArePartition, ascending, last_or, blocks_of_runs, blocks_of_lists}
use Rattle.block_chain.specs.Table.{chain, linked_blocks, AreListed}
use Rattle.block_chain.specs.Layout.{IsChain, free_blocks, table_of, IsLaidOut}
use Rattle.block_chain.specs.Placing.{link_of, is_hole, AreLinked, ArePlaced, KeepsLinks}
use Rattle.block_chain.specs.declared.lists.BlockList.{BlockList}
use Rattle.block_chain.specs.declared.runs.Run.{Run}
use Rattle.block_chain.specs.BlocksLaws.{times-append, times_head, times-tail, times_above, times_within, ascending-append, ascending_once}
use Rattle.block_chain.proofs.RunLemmas.{first_or}
use Rattle.block_chain.proofs.PlaceLemmas.{linked_within, AreLinked-kept}
use Rattle.block_chain.proofs.HoleLemmas.{times-filter, times-filter-passes, times-filter-fails}

-- a filter that every block passes from the first on
filter_from : (p : ℕ → Bool) (first count : ℕ) → ((b : ℕ) → first ≤ b → p b ≡ true) → filter p (ascending first count) ≡ ascending first count
unfolding ascending
filter_from p first zero passes = refl
filter_from p first (suc n) passes = rw (passes first (omega arith)) (ap (λ (xs : List ℕ). first ∷ xs) (filter_from p (suc first) n (λ b past. passes b (omega arith))))

-- linked blocks are a chain
chain-linked : (links xs : List ℕ) → AreLinked links xs → ((b : ℕ) → 0 < times b xs → b < length links) → chain links (first_or 0 xs) (length xs) ≡ xs
chain-linked links [] are within = refl
chain-linked links (x ∷ []) are within = refl
chain-linked links (x ∷ y ∷ ys) are within =
    let in_range : x < length links = within x (omega (arith, times_head x (y ∷ ys))) in
    let next : get_or links x 0 ≡ y = get_or_default links x 0 4294967295 in_range ∙ are.0 in
    rw next (ap (λ (zs : List ℕ). x ∷ zs) (chain-linked links (y ∷ ys) are.1 (λ b some. within b (omega (arith, some, times-tail b x (y ∷ ys))))))

last_or-again : (xs : List ℕ) → last_or (last_or 0 xs) xs ≡ last_or 0 xs
last_or-again [] = refl
last_or-again (x ∷ xs) = refl

-- the free blocks of a table in which these are taken
abbrev pub others : ℕ → List ℕ → List ℕ
others blocks all = filter (λ b. eqb (times b all) 0) (ascending 0 blocks)

others_apart : (blocks : ℕ) (all : List ℕ) (b : ℕ) → 0 < times b all → times b (others blocks all) ≡ 0
others_apart blocks all b some = times-filter-fails b (λ n. eqb (times n all) 0) (ascending 0 blocks) (ne_eqb (times b all) 0 (λ e. omega (arith, some, e)))

pub ArePartition-others : (blocks : ℕ) (all : List ℕ) → AreSound blocks all → ArePartition blocks (others blocks all ++ all)
ArePartition-others blocks all sound = record {
  each = λ b lt. ⊎_elim
      (λ (some : 0 < times b all). omega (arith, times-append b (others blocks all) all, others_apart blocks all b some, sound.once b))
      (λ (none : times b all ≤ 0).
      let free : times b (others blocks all) ≡ times b (ascending 0 blocks) = times-filter-passes b (λ n. eqb (times n all) 0) (ascending 0 blocks) (eq-eqb (times b all) 0 (omega (arith, none))) in
      omega (arith, times-append b (others blocks all) all, free, times_within b 0 blocks (omega arith) (omega (arith, lt))))
      (cases_lt 0 (times b all));
  below = λ b some. ⊎_elim
      (λ (lt : b < blocks). lt)
      (λ (past : blocks ≤ b). ⊎_elim
      (λ (some : 0 < times b all). sound.below b some)
      (λ (none : times b all ≤ 0). absurd (omega (arith, some, none, times-append b (others blocks all) all, times-filter b (λ n. eqb (times n all) 0) (ascending 0 blocks), times_above b 0 blocks (omega (arith, past)))))
      (cases_lt 0 (times b all)))
      (cases_lt b blocks);
}

abbrev pub no_list : BlockList
no_list = record { head = 0; tail = 0; len = 0 }

-- the live lists were linked, and then the holes
pub record IsOpened (blocks capacity : ℕ) (all placed links : List ℕ) (holes : BlockList) : Type 0 where
  pub limit : blocks < 2 ^ 32
  pub room : blocks ≤ capacity
  pub filled : length placed ≤ blocks
  pub same_length : length links ≡ length placed
  pub live : ArePlaced blocks placed all [] None
  pub chained : IsChain links holes
  pub list : linked_blocks links holes ≡ filter (is_hole placed) (ascending 0 (length placed))
  pub kept : (b : ℕ) → link_of placed b ≢ 4294967295 → link_of links b ≡ link_of placed b

module _ {blocks capacity : ℕ} {all placed links : List ℕ} {holes : BlockList} where
  pub opened_sound : IsOpened blocks capacity all placed links holes → AreSound blocks all
  opened_sound is = rw (append-nil all) at is.live.sound

  marked : IsOpened blocks capacity all placed links holes → (b : ℕ) → 0 < times b all → link_of placed b ≢ 4294967295
  marked is b some = is.live.marked b (omega (arith, some, times-append b all []))

  opened_once : IsOpened blocks capacity all placed links holes → (b : ℕ) → times b (linked_blocks links holes) ≤ 1
  opened_once is b = rw is.list (omega (arith, times-filter b (is_hole placed) (ascending 0 (length placed)), ascending_once b 0 (length placed)))

  pub opened_laid_out : IsOpened blocks capacity all placed links holes → IsLaidOut blocks capacity links holes no_list
  opened_laid_out is = record {
    limit = is.limit;
    room = is.room;
    filled = omega (arith, is.same_length, is.filled);
    hole_chain = is.chained;
    returned_chain = record { within = λ b some. absurd (omega (arith, some)); ends = refl };
    once = λ b. omega (arith, opened_once is b);
  }

  -- a block is a hole exactly where no list has it
  hole_agrees : IsOpened blocks capacity all placed links holes → (b : ℕ) → is_hole placed b ≡ eqb (times b all) 0
  hole_agrees is b = ⊎_elim
      (λ (some : 0 < times b all). ne_eqb (link_of placed b) 4294967295 (marked is b some) ∙ sym (ne_eqb (times b all) 0 (λ e. omega (arith, some, e))))
      (λ (none : times b all ≤ 0). eq-eqb (link_of placed b) 4294967295 (is.live.holes b (omega (arith, none, times-append b all []))) ∙ sym (eq-eqb (times b all) 0 (omega (arith, none))))
      (cases_lt 0 (times b all))

  pub opened_free : IsOpened blocks capacity all placed links holes → free_blocks blocks links holes no_list ≡ others blocks all
  opened_free is =
      let n : ℕ = length placed in
      let whole : n + (blocks - n) ≡ blocks = omega (arith, is.filled) in
      let plain : 0 + n ≡ n = omega arith in
      let fresh : filter (is_hole placed) (ascending n (blocks - n)) ≡ ascending n (blocks - n)
      = filter_from (is_hole placed) n (blocks - n) (λ b past. eq-eqb (link_of placed b) 4294967295 (get_or_past placed b 4294967295 past)) in
      let split : ascending 0 blocks ≡ ascending 0 n ++ ascending n (blocks - n)
      = ap (ascending 0) (sym whole) ∙ ascending-append 0 n (blocks - n) ∙ ap (λ (m : ℕ). ascending 0 n ++ ascending m (blocks - n)) plain in
      let cut : filter (is_hole placed) (ascending 0 blocks) ≡ filter (is_hole placed) (ascending 0 n) ++ ascending n (blocks - n)
      = ap (filter (is_hole placed)) split ∙ filter-append (is_hole placed) (ascending 0 n) (ascending n (blocks - n)) ∙ ap (λ (xs : List ℕ). filter (is_hole placed) (ascending 0 n) ++ xs) fresh in
      rw (is.list, is.same_length, append-nil (ascending n (blocks - n))) (sym cut ∙ filter_agree (is_hole placed) (λ b. eqb (times b all) 0) (hole_agrees is) (ascending 0 blocks))

  -- linked blocks among the live ones are a list of the table
  opened_listed : IsOpened blocks capacity all placed links holes → (xs : List ℕ) → ((b : ℕ) → times b xs ≤ times b all) → AreLinked placed xs → AreListed (table_of blocks links holes no_list) xs
  opened_listed is xs among are =
      let some_all : (b : ℕ) → 0 < times b xs → 0 < times b all = λ b some. omega (arith, some, among b) in
      let kept : KeepsLinks placed links xs = λ b some. is.kept b (marked is b (some_all b some)) in
      let through : chain links (first_or 0 xs) (length xs) ≡ xs
      = chain-linked links xs (AreLinked-kept placed links xs kept are) (λ b some. omega (arith, linked_within placed b (marked is b (some_all b some)), is.same_length)) in (
        record { head = first_or 0 xs; tail = last_or 0 xs; len = length xs },
        record {
          sound = rw through (record {
            once = λ b. omega (arith, among b, (opened_sound is).once b);
            below = λ b some. (opened_sound is).below b (some_all b some);
          });
          taken = rw (through, opened_free is) (λ b some. others_apart blocks all b (some_all b some));
          ends = rw through (last_or-again xs);
        },
        through,
      )

  pub each_listed : IsOpened blocks capacity all placed links holes → (lists : List (Vec Run Global)) → ((b : ℕ) → times b (blocks_of_lists lists) ≤ times b all)
      → AllByRecursion (λ (runs : Vec Run Global). AreLinked placed (blocks_of_runs runs.items)) lists → AllByRecursion (λ (runs : Vec Run Global). AreListed (table_of blocks links holes no_list) (blocks_of_runs runs.items)) lists
  each_listed is [] among are = tt
  each_listed is (runs ∷ lists) among are = (
    opened_listed is (blocks_of_runs runs.items) (λ b. omega (arith, among b, times-append b (blocks_of_runs runs.items) (blocks_of_lists lists))) are.0,
    each_listed is lists (λ b. omega (arith, among b, times-append b (blocks_of_runs runs.items) (blocks_of_lists lists))) are.1,
  )

-- the lists that are linked stay so, and one more comes
pub each_linked_more : (old new : List ℕ) (lists : List (Vec Run Global)) (runs : Vec Run Global) → KeepsLinks old new (blocks_of_lists lists) → AreLinked new (blocks_of_runs runs.items)
    → AllByRecursion (λ (rs : Vec Run Global). AreLinked old (blocks_of_runs rs.items)) lists → AllByRecursion (λ (rs : Vec Run Global). AreLinked new (blocks_of_runs rs.items)) (lists ++ runs ∷ [])
each_linked_more old new [] runs kept linked are = (linked, tt)
each_linked_more old new (rs ∷ lists) runs kept linked are = (
  AreLinked-kept old new (blocks_of_runs rs.items) (λ b some. kept b (omega (arith, some, times-append b (blocks_of_runs rs.items) (blocks_of_lists lists)))) are.0,
  each_linked_more old new lists runs (λ b some. kept b (omega (arith, some, times-append b (blocks_of_runs rs.items) (blocks_of_lists lists)))) linked are.1,
)

pub blocks_of_lists-split : (lists : List (Vec Run Global)) (i : ℕ) (d : Vec Run Global) → i < length lists → blocks_of_lists lists ≡ blocks_of_lists (take i lists) ++ (blocks_of_runs (get_or lists i d).items ++ blocks_of_lists (drop (i + 1) lists))
blocks_of_lists-split lists i d lt =
    let f : Vec Run Global → List ℕ = λ runs. blocks_of_runs runs.items in
    ap blocks_of_lists (sym (take-append-drop i lists)) ∙ flat_map-append f (take i lists) (drop i lists) ∙ ap (λ (vs : List (Vec Run Global)). blocks_of_lists (take i lists) ++ blocks_of_lists vs) (drop_more lists i d lt)

pub blocks_of_lists-take : (lists : List (Vec Run Global)) (i : ℕ) (d : Vec Run Global) → i < length lists → blocks_of_lists (take (i + 1) lists) ≡ blocks_of_lists (take i lists) ++ blocks_of_runs (get_or lists i d).items
blocks_of_lists-take lists i d lt =
    let f : Vec Run Global → List ℕ = λ runs. blocks_of_runs runs.items in
    ap blocks_of_lists (take_more lists i d lt) ∙ flat_map-append f (take i lists) (get_or lists i d ∷ []) ∙ ap (λ (xs : List ℕ). blocks_of_lists (take i lists) ++ xs) (append-nil (blocks_of_runs (get_or lists i d).items))
