-- The changes of a step, chosen one after another.
use Rattle.std.proofs.Common.{◌≡◌, ◌≢◌, ◌⊎◌, inl, inr, ℕ, ◌+◌, ◌<◌, ◌≤◌, true, false, List, [], ◌∷◌, ◌++◌, length, map, take, drop, get_or, sym, ap, ◌∙◌, subst, arith}
use Rattle.std.proofs.lemmas.List.{drop_more, get_or-map, length-map, length-take-le, map_more, take-append-drop, take-map}
use Rattle.log_history.specs.Effects.{Change}
use Rattle.txn_table.specs.declared.changes.Change.{Change as Brought}
use Rattle.txn_table.specs.Table.{change_of}
use Rattle.before_images.specs.Saved.{is_among}
use Rattle.before_images.specs.ListLaws.{is_among-found, is_among-other}
use Rattle.lane_steps.specs.Choices.{Chooses, is_own}
use Rattle.lane_steps.specs.ChoiceLaws.{TakesAll, chooses_front, passes_over, takes_fresh, takes_known}

-- a page among the rest of a list
pub found_here : (page : ℕ) (pages : List ℕ) (i : ℕ) → i < length pages → page ≡ get_or pages i 0 → is_among page (drop i pages) ≡ true
found_here page pages i lt same = ap (is_among page) (drop_more pages i 0 lt) ∙ is_among-found page (get_or pages i 0) (drop (i + 1) pages) (sym same)

pub not_here : (page : ℕ) (pages : List ℕ) (i : ℕ) → i < length pages → page ≢ get_or pages i 0 → is_among page (drop i pages) ≡ is_among page (drop (i + 1) pages)
not_here page pages i lt differs =
    ap (is_among page) (drop_more pages i 0 lt) ∙ is_among-other page (get_or pages i 0) (drop (i + 1) pages) (λ same. differs (sym same))

-- the change at a place of a list
module _ (changes : List Brought) (i : ℕ) (change : Brought) (lt : i < length changes) (is : change ≡ get_or changes i change) where
  list : List Change
  list = map change_of changes

  more : take (i + 1) (map change_of changes) ≡ take i (map change_of changes) ++ change_of change ∷ []
  more =
      take-map change_of (i + 1) changes ∙ map_more change_of changes i change lt
      ∙ ap (λ (c : Brought). map change_of (take i changes) ++ change_of c ∷ []) (sym is)
      ∙ ap (λ (l : List Change). l ++ change_of change ∷ []) (sym (take-map change_of i changes))

  parts : map change_of changes ≡ take i (map change_of changes) ++ change_of change ∷ drop (i + 1) (map change_of changes)
  parts =
      sym (take-append-drop i (map change_of changes))
      ∙ ap (λ (l : List Change). take i (map change_of changes) ++ l)
      (drop_more (map change_of changes) i (change_of change) (omega (arith, lt, length-map changes change_of))
      ∙ ap (λ (c : Change). c ∷ drop (i + 1) (map change_of changes)) (get_or-map change_of changes i change (change_of change) lt ∙ ap change_of (sym is)))

  module _ (space count : ℕ) (pages : List ℕ) (all : TakesAll space count (take i (map change_of changes)) pages) where
    -- it is passed over
    pub one_passed : is_own space count (change_of change) ≡ false → TakesAll space count (take (i + 1) (map change_of changes)) pages
    one_passed not =
        subst (λ (l : List Change). TakesAll space count l pages) (sym more) (passes_over space count (take i (map change_of changes)) pages (change_of change) all not)

    -- it is taken
    pub one_taken : (next : List ℕ) (used : ℕ) → is_own space count (change_of change) ≡ true → length pages ≤ used
        → ((is_among change.page pages ≡ true) × (next ≡ pages)) ⊎ ((is_among change.page pages ≡ false) × (used < 16) × (next ≡ pages ++ change.page ∷ []))
        → TakesAll space count (take (i + 1) (map change_of changes)) next
    one_taken next used own le (inl known) =
        subst (λ (l : List Change). TakesAll space count l next) (sym more)
        (subst (λ (p : List ℕ). TakesAll space count (take i (map change_of changes) ++ change_of change ∷ []) p) (sym known.1)
        (takes_known space count (take i (map change_of changes)) pages (change_of change) all own known.0))
    one_taken next used own le (inr fresh) =
        subst (λ (l : List Change). TakesAll space count l next) (sym more)
        (subst (λ (p : List ℕ). TakesAll space count (take i (map change_of changes) ++ change_of change ∷ []) p) (sym fresh.2)
        (takes_fresh space count (take i (map change_of changes)) pages (change_of change) all own fresh.0 (omega (arith, le, fresh.1))))

    -- there is no room for it
    pub none_taken : is_own space count (change_of change) ≡ true → is_among change.page pages ≡ false → length pages ≡ 16 → Chooses space count (map change_of changes) i pages
    none_taken own other full =
        let size : length (take i (map change_of changes)) ≡ i = length-take-le i (map change_of changes) (omega (arith, lt, length-map changes change_of)) in
        subst (λ (n : ℕ). Chooses space count (map change_of changes) n pages) size
        (chooses_front space count (map change_of changes) (take i (map change_of changes)) (drop (i + 1) (map change_of changes)) pages (change_of change) parts all own other full)
