-- Pages that stand in the bytes, while some of them are brought further.
use Rattle.std.proofs.Common.{◌≡◌, ◌≢◌, ◌⊎◌, inl, inr, ⊎_elim, ℕ, zero, suc, ◌+◌, ◌<◌, ◌&&◌, ◌==◌, not, Bool, true, false, List, [], ◌∷◌, length, drop, get_or, fold, refl, sym, ap, ◌∙◌, subst, arith}
use Rattle.std.specs.Prelude.{if◌then◌else◌, nat_lt}
use Rattle.std.specs.List.{AllByRecursion}
use Rattle.std.proofs.lemmas.Bool.{cases_order}
use Rattle.std.proofs.lemmas.Bool.Decides.{nat_tests}
use Rattle.site_disk.specs.Bytes.{extent, Torn}
use Rattle.log_history.specs.Effects.{Change, Page, empty_page, with_change}
use Rattle.before_images.specs.Saved.{are_distinct, is_among, place_of}
use Rattle.before_images.specs.ListLaws.{is_among-found, is_among-none, is_among-other}
use Rattle.space_pages.specs.Layout.{page_bytes}
use Rattle.space_pages.specs.Pages.{brought}
use Rattle.lane_ways.specs.Pictures.{Stand, pages_at}
use Rattle.lane_steps.specs.Choices.{is_own}
use Rattle.lane_steps.specs.Moves.{Lays}

-- a page of a list of them
abbrev pub nth : List Page → ℕ → Page
nth all k = get_or all k empty_page

-- a page is as it was while it is still to be brought further, and has the changes then
abbrev pub in_turn : ℕ → List ℕ → List Change → ℕ → Page → Page
in_turn space left changes k page = if is_among k left then page else fold (with_change space k) page changes

-- each of the pages stands so
abbrev pub StandInTurn : ℕ → List ℕ → List Change → List Page → List ℕ → Type 0
StandInTurn space left changes all bytes =
    (k : ℕ) → k < length all → extent (place_of pages_at k) 4096 bytes ≡ page_bytes space k (in_turn space left changes k (nth all k))

-- one page of those that stand
stand_at : (space number : ℕ) (all : List Page) (bytes : List ℕ) → Stand space number all bytes → (k : ℕ) → k < length all
    → extent (place_of pages_at (number + k)) 4096 bytes ≡ page_bytes space (number + k) (nth all k)
stand_at space number [] bytes stand k lt = absurd (omega (arith, lt))
stand_at space number (page ∷ all) bytes stand zero lt =
    let here : number ≡ number + 0 = omega arith in
    subst (λ (n : ℕ). extent (place_of pages_at n) 4096 bytes ≡ page_bytes space n page) here stand.0
stand_at space number (page ∷ all) bytes stand (suc k) lt =
    let next : number + 1 + k ≡ number + suc k = omega arith in
    subst (λ (n : ℕ). extent (place_of pages_at n) 4096 bytes ≡ page_bytes space n (nth all k)) next (stand_at space (number + 1) all bytes stand.1 k (omega (arith, lt)))

-- all pages with the changes, from each of them
stand_of : (space number : ℕ) (changes : List Change) (all : List Page) (bytes : List ℕ)
    → ((k : ℕ) → k < length all → extent (place_of pages_at (number + k)) 4096 bytes ≡ page_bytes space (number + k) (fold (with_change space (number + k)) (nth all k) changes))
    → Stand space number (brought space number changes all) bytes
stand_of space number changes [] bytes each = tt
stand_of space number changes (page ∷ all) bytes each =
    let here : number + 0 ≡ number = omega arith in (
      subst (λ (n : ℕ). extent (place_of pages_at n) 4096 bytes ≡ page_bytes space n (fold (with_change space n) page changes)) here (each 0 (omega arith)),
      stand_of space (number + 1) changes all bytes (λ k lt.
          let next : number + suc k ≡ number + 1 + k = omega arith in
          subst (λ (n : ℕ). extent (place_of pages_at n) 4096 bytes ≡ page_bytes space n (fold (with_change space n) (nth all k) changes)) next (each (suc k) (omega (arith, lt)))),
    )

-- changes that lie in other pages leave a page
untouched : (space count number : ℕ) (pages : List ℕ) (page : Page) (changes : List Change) → number < count → is_among number pages ≡ false
    → AllByRecursion (λ (change : Change). is_own space count change ≡ true → is_among change.patch.page pages ≡ true) changes → fold (with_change space number) page changes ≡ page
untouched space count number pages page [] lt other all = refl
untouched space count number pages page (change ∷ changes) lt other all =
    ap (λ (p : Page). fold (with_change space number) p changes) (by (change.patch.space == space) refl (change.patch.page == number) refl)
    ∙ untouched space count number pages page changes lt other all.1
  where
    apart : (change.patch.space == space) ≡ true → (change.patch.page == number) ≡ true → ⊥
    apart mine here =
        let at : change.patch.page ≡ number = grind (arith, nat_tests, here) in
        let below : nat_lt change.patch.page count ≡ true = grind (arith, nat_tests, at, lt) in
        let own : is_own space count change ≡ true = grind (arith, mine, below) in
        let found : is_among number pages ≡ true = sym (ap (λ (n : ℕ). is_among n pages) at) ∙ all.0 own in
        cc

    by : (mine : Bool) → (change.patch.space == space) ≡ mine → (here : Bool) → (change.patch.page == number) ≡ here → with_change space number page change ≡ page
    by true is true at = absurd (apart is at)
    by true is false at = grind (arith, is, at)
    by false is here at = grind (arith, is, at)

-- before the first of them
pub in_turn_first : (space : ℕ) (pages : List ℕ) (changes : List Change) (all : List Page) (bytes : List ℕ) → Lays space (length all) pages changes → Stand space 0 all bytes
    → StandInTurn space pages changes all bytes
in_turn_first space pages changes all bytes lays stand k lt = at ∙ ap (page_bytes space k) (by (is_among k pages) refl)
  where
    zeros : 0 + k ≡ k
    zeros = omega arith

    at : extent (place_of pages_at k) 4096 bytes ≡ page_bytes space k (nth all k)
    at = subst (λ (n : ℕ). extent (place_of pages_at n) 4096 bytes ≡ page_bytes space n (nth all k)) zeros (stand_at space 0 all bytes stand k lt)

    by : (among : Bool) → is_among k pages ≡ among → nth all k ≡ (if is_among k pages then nth all k else fold (with_change space k) (nth all k) changes)
    by true is = sym (ap (λ (b : Bool). if b then nth all k else fold (with_change space k) (nth all k) changes) is)
    by false is =
        sym (untouched space (length all) k pages (nth all k) changes lt is lays.among)
        ∙ sym (ap (λ (b : Bool). if b then nth all k else fold (with_change space k) (nth all k) changes) is)

-- one page more
pub in_turn_more : (space page : ℕ) (left : List ℕ) (changes : List Change) (all : List Page) (old new : List ℕ) → is_among page left ≡ false → Torn (place_of pages_at page) 4096 old new
    → ((was : Page) → extent (place_of pages_at page) 4096 old ≡ page_bytes space page was → extent (place_of pages_at page) 4096 new ≡ page_bytes space page (fold (with_change space page) was changes))
    → StandInTurn space (page ∷ left) changes all old → StandInTurn space left changes all new
in_turn_more space page left changes all old new once torn brings stand k lt = by (cases_order k page)
  where
    aside : k ≢ page → ((k < page) ⊎ (page < k)) → extent (place_of pages_at k) 4096 new ≡ page_bytes space k (in_turn space left changes k (nth all k))
    aside differs side =
        torn.elsewhere (place_of pages_at k) 4096 (⊎_elim (λ before. inl (omega (arith, before))) (λ behind. inr (omega (arith, behind))) side)
        ∙ stand k lt
        ∙ ap (λ (b : Bool). page_bytes space k (if b then nth all k else fold (with_change space k) (nth all k) changes)) (is_among-other k page left (λ same. differs (sym same)))

    by : (k ≡ page) ⊎ ((k < page) ⊎ (page < k)) → extent (place_of pages_at k) 4096 new ≡ page_bytes space k (in_turn space left changes k (nth all k))
    by (inl same) =
        let own : is_among k (page ∷ left) ≡ true = is_among-found k page left (sym same) in
        let other : is_among k left ≡ false = ap (λ (n : ℕ). is_among n left) same ∙ once in
        let was : extent (place_of pages_at k) 4096 old ≡ page_bytes space k (nth all k) =
        stand k lt ∙ ap (λ (b : Bool). page_bytes space k (if b then nth all k else fold (with_change space k) (nth all k) changes)) own in
        let now : extent (place_of pages_at k) 4096 new ≡ page_bytes space k (fold (with_change space k) (nth all k) changes) =
        subst (λ (n : ℕ). (w : Page) → extent (place_of pages_at n) 4096 old ≡ page_bytes space n w
        → extent (place_of pages_at n) 4096 new ≡ page_bytes space n (fold (with_change space n) w changes)) (sym same) brings (nth all k) was in
        now ∙ sym (ap (λ (b : Bool). page_bytes space k (if b then nth all k else fold (with_change space k) (nth all k) changes)) other)
    by (inr (inl before)) = aside (λ same. omega (arith, same, before)) (inl before)
    by (inr (inr behind)) = aside (λ same. omega (arith, same, behind)) (inr behind)

-- behind the last one
pub in_turn_last : (space : ℕ) (changes : List Change) (all : List Page) (bytes : List ℕ) → StandInTurn space [] changes all bytes → Stand space 0 (brought space 0 changes all) bytes
in_turn_last space changes all bytes stand = stand_of space 0 changes all bytes (λ k lt.
    let zeros : k ≡ 0 + k = omega arith in
    subst (λ (n : ℕ). extent (place_of pages_at n) 4096 bytes ≡ page_bytes space n (fold (with_change space n) (nth all k) changes)) zeros
    (stand k lt ∙ ap (λ (b : Bool). page_bytes space k (if b then nth all k else fold (with_change space k) (nth all k) changes)) (is_among-none k)))

-- of distinct pages none is among those behind it
distinct_cons : (page : ℕ) (pages : List ℕ) → are_distinct (page ∷ pages) ≡ true → (is_among page pages ≡ false) × (are_distinct pages ≡ true)
unfolding are_distinct
distinct_cons page pages is = by (is_among page pages) (are_distinct pages) refl refl is
  where
    by : (among rest : Bool) → is_among page pages ≡ among → are_distinct pages ≡ rest → (not among && rest) ≡ true → (is_among page pages ≡ false) × (are_distinct pages ≡ true)
    by false true other more is = (other, more)
    by false false other more is = absurd cc
    by true rest other more is = absurd cc

pub once_among : (pages : List ℕ) (i : ℕ) → i < length pages → are_distinct pages ≡ true → is_among (get_or pages i 0) (drop (i + 1) pages) ≡ false
once_among [] i lt distinct = absurd (omega (arith, lt))
once_among (page ∷ pages) zero lt distinct = (distinct_cons page pages distinct).0
once_among (page ∷ pages) (suc i) lt distinct =
    let rest : is_among (get_or pages i 0) (drop (i + 1) pages) ≡ false = once_among pages i (omega (arith, lt)) (distinct_cons page pages distinct).1 in
    let next : suc i + 1 ≡ suc (i + 1) = omega arith in
    ap (λ (n : ℕ). is_among (get_or pages i 0) (drop n (page ∷ pages))) next ∙ rest
