-- The blocks of runs, and the lists that they are.
use Rattle.std.proofs.Common.{◌≡◌, ◌≢◌, ℕ, zero, suc, ◌+◌, ◌-◌, ◌^◌, ◌<◌, ◌≤◌, List, [], ◌∷◌, ◌++◌, length, get_or, take, drop, refl, sym, ap, ◌∙◌, subst, arith, length-append, append_assoc, add-one, add-zero}
use Rattle.std.proofs.Math.Dec.{eqb-suc-zero}
use Rattle.std.proofs.lemmas.List.{append-nil, take_more, take-append-drop, drop_more}
use Rattle.std.proofs.lemmas.Grind.{flat_map-append}
use Rattle.block_chain.specs.Blocks.{times, ascending, last_or, blocks_of_runs, AreApart, AreSound, AreMaximal, FitsRun}
use Rattle.block_chain.specs.Table.{Table, chain, blocks_of, IsListOf, AreListed}
use Rattle.block_chain.specs.Layout.{table_of, joined, run_list}
use Rattle.block_chain.specs.declared.lists.BlockList.{BlockList}
use Rattle.block_chain.specs.declared.runs.Run.{Run}
use Rattle.block_chain.specs.BlocksLaws.{times-append, times_within, times_head, last_or-append, length-ascending, length_of_distinct}
use Rattle.std.specs.List.{AllByRecursion}
use Rattle.block_chain.specs.RunLaws.{sound_runs_fit}
use Rattle.block_chain.proofs.ChainLemmas.{length-chain}
use Rattle.block_chain.proofs.LayoutLemmas.{IsChain-list}

-- the first block, or the default where there is none
abbrev pub first_or : ℕ → List ℕ → ℕ
first_or default [] = default
first_or default (b ∷ bs) = b

-- the list begins and ends as these blocks do, and has as many
pub record Spans (list : BlockList) (xs : List ℕ) : Type 0 where
  pub head : first_or list.head xs ≡ list.head
  pub tail : last_or list.tail xs ≡ list.tail
  pub len : list.len ≡ length xs

last_or-ascending : (default first n : ℕ) → last_or default (ascending first (suc n)) ≡ first + n
unfolding ascending
last_or-ascending default first zero = omega arith
last_or-ascending default first (suc n) = last_or-ascending first (suc first) n ∙ omega arith

pub Spans-run : (run : Run) → Spans (run_list run) (ascending run.first run.count)
unfolding ascending
Spans-run run = by_count run.first run.count
  where
    by_count : (first count : ℕ) → Spans (record { head = first; tail = first + (count - 1); len = count }) (ascending first count)
    by_count first zero = record { head = refl; tail = refl; len = refl }
    by_count first (suc n) = record { head = refl; tail = last_or-ascending (first + (suc n - 1)) first n ∙ omega arith; len = sym (length-ascending first (suc n)) }

joined_nothing : (front behind : BlockList) → behind.len ≡ 0 → joined front behind ≡ front
joined_nothing front behind none = rw none refl

nothing_joined : (front behind : BlockList) (m : ℕ) → front.len ≡ 0 → behind.len ≡ suc m → joined front behind ≡ behind
nothing_joined front behind m none some = rw (some, eqb-suc-zero m, none) refl

both_joined : (front behind : BlockList) (n m : ℕ) → front.len ≡ suc n → behind.len ≡ suc m → joined front behind ≡ record { head = front.head; tail = behind.tail; len = front.len + behind.len }
both_joined front behind n m some some' = rw (some, some', eqb-suc-zero m, eqb-suc-zero n) refl

pub Spans-joined : (front behind : BlockList) (xs ys : List ℕ) → Spans front xs → Spans behind ys → Spans (joined front behind) (xs ++ ys)
Spans-joined front behind [] [] is is' = rw (joined_nothing front behind is'.len) is
Spans-joined front behind [] (y ∷ ys) is is' = rw (nothing_joined front behind (length ys) is.len is'.len) is'
Spans-joined front behind (x ∷ xs) [] is is' = rw (joined_nothing front behind is'.len, append-nil xs) is
Spans-joined front behind (x ∷ xs) (y ∷ ys) is is' = rw (both_joined front behind (length xs) (length ys) is.len is'.len) (record {
  head = is.head;
  tail = last_or-append x y xs ys ∙ is'.tail;
  len = omega (arith, is.len, is'.len, length-append xs (y ∷ ys));
})

-- the run at a place, behind the runs before it and in front of the others
pub blocks_of_runs-split : (runs : List Run) (i : ℕ) (d : Run) → i < length runs → blocks_of_runs runs ≡ blocks_of_runs (take i runs) ++ (ascending (get_or runs i d).first (get_or runs i d).count ++ blocks_of_runs (drop (i + 1) runs))
blocks_of_runs-split runs i d lt =
    let f : Run → List ℕ = λ run. ascending run.first run.count in
    ap blocks_of_runs (sym (take-append-drop i runs)) ∙ flat_map-append f (take i runs) (drop i runs) ∙ ap (λ (rs : List Run). blocks_of_runs (take i runs) ++ blocks_of_runs rs) (drop_more runs i d lt)

pub blocks_of_runs-take : (runs : List Run) (i : ℕ) (d : Run) → i < length runs → blocks_of_runs (take (i + 1) runs) ≡ blocks_of_runs (take i runs) ++ ascending (get_or runs i d).first (get_or runs i d).count
blocks_of_runs-take runs i d lt =
    let f : Run → List ℕ = λ run. ascending run.first run.count in
    ap blocks_of_runs (take_more runs i d lt) ∙ flat_map-append f (take i runs) (get_or runs i d ∷ []) ∙ ap (λ (xs : List ℕ). blocks_of_runs (take i runs) ++ xs) (append-nil (ascending (get_or runs i d).first (get_or runs i d).count))

-- the number of the blocks so far is within the number of blocks
pub len_fits : (blocks first count : ℕ) (before behind : List ℕ) → AreSound blocks (before ++ (ascending first count ++ behind)) → length before + count ≤ blocks
len_fits blocks first count before behind sound =
    omega (arith, length_of_distinct blocks (before ++ (ascending first count ++ behind)) sound.once sound.below, length-append before (ascending first count ++ behind), length-append (ascending first count) behind, length-ascending first count)

-- blocks that are listed are sound
pub listed_sound : (table : Table) (xs : List ℕ) → AreListed table xs → AreSound table.blocks xs
listed_sound table xs is = subst (λ (ys : List ℕ). AreSound table.blocks ys) is.2 is.1.sound

-- the links lead through listed blocks from the first on
chain_of_first : (links : List ℕ) (head count default : ℕ) → chain links (first_or default (chain links head count)) (length (chain links head count)) ≡ chain links head count
chain_of_first links head zero default = refl
chain_of_first links head (suc n) default = rw (length-chain links (get_or links head 0) n) refl

-- a list that spans listed blocks has them
pub blocks_of-spanned : (table : Table) (list : BlockList) (xs : List ℕ) → AreListed table xs → Spans list xs → blocks_of table list ≡ xs
blocks_of-spanned table list xs is spans =
    let through : chain table.links (first_or list.head xs) (length xs) ≡ xs
    = subst (λ (ys : List ℕ). chain table.links (first_or list.head ys) (length ys) ≡ ys) is.2 (chain_of_first table.links is.0.head is.0.len list.head) in
    ap (λ (h : ℕ). chain table.links h list.len) (sym spans.head) ∙ ap (λ (n : ℕ). chain table.links (first_or list.head xs) n) spans.len ∙ through

pub IsListOf-spanned : (table : Table) (list : BlockList) (xs : List ℕ) → AreListed table xs → Spans list xs → IsListOf table list
IsListOf-spanned table list xs is spans =
    let same : blocks_of table list ≡ xs = blocks_of-spanned table list xs is spans in
    record {
      sound = rw same (listed_sound table xs is);
      taken = rw same (subst (λ (ys : List ℕ). AreApart ys table.free) is.2 is.1.taken);
      ends = rw same spans.tail;
    }

-- the lists of runs

pub ascending-snoc : (first count : ℕ) → ascending first (suc count) ≡ ascending first count ++ (first + count) ∷ []
unfolding ascending
ascending-snoc first zero = rw add-zero refl
ascending-snoc first (suc n) =
    let same : first + suc n ≡ suc first + n = omega arith in
    rw same (ap (λ (xs : List ℕ). first ∷ xs) (ascending-snoc (suc first) n))

-- runs with a run behind them
pub blocks_of_runs-push : (runs : List Run) (run : Run) → blocks_of_runs (runs ++ run ∷ []) ≡ blocks_of_runs runs ++ ascending run.first run.count
blocks_of_runs-push runs run = flat_map-append (λ (r : Run). ascending r.first r.count) runs (run ∷ []) ∙ ap (λ (xs : List ℕ). blocks_of_runs runs ++ xs) (append-nil (ascending run.first run.count))

-- the last run goes on to one more block
pub blocks_of_runs-longer : (runs : List Run) (run longer : Run) (block : ℕ) → longer.first ≡ run.first → longer.count ≡ run.count + 1 → block ≡ run.first + run.count
    → blocks_of_runs (runs ++ longer ∷ []) ≡ blocks_of_runs (runs ++ run ∷ []) ++ block ∷ []
blocks_of_runs-longer runs run longer block same more behind =
    let last : ascending longer.first longer.count ≡ ascending run.first run.count ++ block ∷ [] = rw (same, more, behind, add-one) (ascending-snoc run.first run.count) in
    blocks_of_runs-push runs longer ∙ ap (λ (xs : List ℕ). blocks_of_runs runs ++ xs) last ∙ sym (append_assoc (blocks_of_runs runs) (ascending run.first run.count) (block ∷ []))
    ∙ ap (λ (xs : List ℕ). xs ++ block ∷ []) (sym (blocks_of_runs-push runs run))

-- and a run of one block is begun
pub blocks_of_runs-begun : (runs : List Run) (run : Run) (block : ℕ) → blocks_of_runs ((runs ++ run ∷ []) ++ record { first = block; count = 1 } ∷ []) ≡ blocks_of_runs (runs ++ run ∷ []) ++ block ∷ []
unfolding ascending
blocks_of_runs-begun runs run block = blocks_of_runs-push (runs ++ run ∷ []) (record { first = block; count = 1 })

pub AreMaximal-longer : (runs : List Run) (run longer : Run) → longer.first ≡ run.first → longer.count ≡ run.count + 1 → AreMaximal (runs ++ run ∷ []) → AreMaximal (runs ++ longer ∷ [])
AreMaximal-longer [] run longer same more are = (omega (arith, more), tt, tt)
AreMaximal-longer (r ∷ []) run longer same more are = (are.0, λ e. are.1 (sym same ∙ e), AreMaximal-longer [] run longer same more are.2)
AreMaximal-longer (r ∷ s ∷ rs) run longer same more are = (are.0, are.1, AreMaximal-longer (s ∷ rs) run longer same more are.2)

pub AreMaximal-begun : (runs : List Run) (run next : Run) → 0 < next.count → next.first ≢ run.first + run.count → AreMaximal (runs ++ run ∷ []) → AreMaximal ((runs ++ run ∷ []) ++ next ∷ [])
AreMaximal-begun [] run next some ne are = (are.0, ne, (some, tt, tt))
AreMaximal-begun (r ∷ []) run next some ne are = (are.0, are.1, AreMaximal-begun [] run next some ne are.2)
AreMaximal-begun (r ∷ s ∷ rs) run next some ne are = (are.0, are.1, AreMaximal-begun (s ∷ rs) run next some ne are.2)

-- the walk along a list

last_some : (runs : List Run) (run : Run) → AreMaximal (runs ++ run ∷ []) → 0 < run.count
last_some [] run are = are.0
last_some (r ∷ []) run are = last_some [] run are.2
last_some (r ∷ s ∷ rs) run are = last_some (s ∷ rs) run are.2

-- so far the runs have the list's blocks up to one, and the rest is linked from there
pub record HasWalked (links all : List ℕ) (runs : List Run) (run : Run) (block left : ℕ) : Type 0 where
  pub order : blocks_of_runs (runs ++ run ∷ []) ++ chain links (get_or links block 0) left ≡ all
  pub last : block + 1 ≡ run.first + run.count
  pub maximal : AreMaximal (runs ++ run ∷ [])

module _ {links all : List ℕ} {runs : List Run} {run : Run} {block left : ℕ} where
  pub walked_stands : HasWalked links all runs run block left → 0 < times block all
  walked_stands has =
      let some : times block (ascending run.first run.count) ≡ 1 = times_within block run.first run.count (omega (arith, has.last, last_some runs run has.maximal)) (omega (arith, has.last)) in
      let in_runs : times block (blocks_of_runs (runs ++ run ∷ [])) ≡ times block (blocks_of_runs runs) + times block (ascending run.first run.count)
      = ap (λ (xs : List ℕ). times block xs) (blocks_of_runs-push runs run) ∙ times-append block (blocks_of_runs runs) (ascending run.first run.count) in
      let in_all : times block all ≡ times block (blocks_of_runs (runs ++ run ∷ [])) + times block (chain links (get_or links block 0) left)
      = ap (λ (xs : List ℕ). times block xs) (sym has.order) ∙ times-append block (blocks_of_runs (runs ++ run ∷ [])) (chain links (get_or links block 0) left) in
      omega (arith, some, in_runs, in_all)

order_step : (links done all : List ℕ) (block left x : ℕ) → 0 < left → x ≡ get_or links block 0 → done ++ chain links (get_or links block 0) left ≡ all
    → (done ++ x ∷ []) ++ chain links (get_or links x 0) (left - 1) ≡ all
order_step links done all block zero x some e order = absurd (omega arith)
order_step links done all block (suc n) x some e order =
    let one_less : suc n - 1 ≡ n = omega arith in
    rw (one_less, append_assoc, e) order

pub walked_next : (links all : List ℕ) (runs : List Run) (run : Run) (block left x : ℕ) → 0 < left → x ≡ get_or links block 0 → HasWalked links all runs run block left → 0 < times x all
walked_next links all runs run block left x some e has =
    let done : List ℕ = blocks_of_runs (runs ++ run ∷ []) in
    let order : (done ++ x ∷ []) ++ chain links (get_or links x 0) (left - 1) ≡ all = order_step links done all block left x some e has.order in
    let in_all : times x all ≡ times x (done ++ x ∷ []) + times x (chain links (get_or links x 0) (left - 1))
    = ap (λ (xs : List ℕ). times x xs) (sym order) ∙ times-append x (done ++ x ∷ []) (chain links (get_or links x 0) (left - 1)) in
    omega (arith, in_all, times-append x done (x ∷ []), times_head x [])

pub HasWalked-longer : (links all : List ℕ) (runs : List Run) (run longer : Run) (block left x : ℕ) → 0 < left → x ≡ get_or links block 0 → x ≡ run.first + run.count
    → longer.first ≡ run.first → longer.count ≡ run.count + 1 → HasWalked links all runs run block left → HasWalked links all runs longer x (left - 1)
HasWalked-longer links all runs run longer block left x some e behind same more has = record {
  order = rw (blocks_of_runs-longer runs run longer x same more behind) (order_step links (blocks_of_runs (runs ++ run ∷ [])) all block left x some e has.order);
  last = omega (arith, behind, same, more);
  maximal = AreMaximal-longer runs run longer same more has.maximal;
}

pub HasWalked-begun : (links all : List ℕ) (runs : List Run) (run : Run) (block left x : ℕ) → 0 < left → x ≡ get_or links block 0 → x ≢ run.first + run.count
    → HasWalked links all runs run block left → HasWalked links all (runs ++ run ∷ []) (record { first = x; count = 1 }) x (left - 1)
HasWalked-begun links all runs run block left x some e ne has = record {
  order = rw (blocks_of_runs-begun runs run x) (order_step links (blocks_of_runs (runs ++ run ∷ [])) all block left x some e has.order);
  last = refl;
  maximal = AreMaximal-begun runs run (record { first = x; count = 1 }) (omega arith) ne has.maximal;
}

-- a walk that has come to the end has runs that fit
pub HasWalked-fit : (blocks : ℕ) (links all : List ℕ) (runs : List Run) (run : Run) (block left : ℕ) → left ≡ 0 → blocks < 2 ^ 32 → AreSound blocks all
    → HasWalked links all runs run block left → AllByRecursion FitsRun (runs ++ run ∷ [])
HasWalked-fit blocks links all runs run block left none limit sound has =
    let whole : blocks_of_runs (runs ++ run ∷ []) ≡ all =
    sym (append-nil (blocks_of_runs (runs ++ run ∷ []))) ∙ subst (λ (n : ℕ). blocks_of_runs (runs ++ run ∷ []) ++ chain links (get_or links block 0) n ≡ all) none has.order in
    sound_runs_fit blocks (runs ++ run ∷ []) limit (subst (AreSound blocks) (sym whole) sound) has.maximal

-- the block that the walk has come to has a link
pub walked_within : (blocks capacity : ℕ) (links : List ℕ) (holes returned : BlockList) (now : Table) (list : BlockList) → table_of blocks links holes returned ≡ now → IsListOf now list
    → {runs : List Run} {run : Run} {block left : ℕ} → HasWalked links (blocks_of now list) runs run block left → block < length links
walked_within blocks capacity links holes returned now list view_is own {block = block} has =
    let own_inside : IsListOf (table_of blocks links holes returned) list = subst (λ (t : Table). IsListOf t list) (sym view_is) own in
    (IsChain-list blocks capacity links holes returned list own_inside).within block
    (subst (λ (t : Table). 0 < times block (blocks_of t list)) (sym view_is) (walked_stands has))
