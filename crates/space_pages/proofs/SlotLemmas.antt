-- A change laid into the page at a place.
use Rattle.std.proofs.Common.{◌≡◌, ◌≢◌, ℕ, zero, suc, ◌+◌, ◌<◌, ◌≤◌, ◌==◌, ◌&&◌, Bool, true, false, ◌⊎◌, inl, inr, List, [], ◌∷◌, length, set, get_or, Option, Box, Result, Ok, Err, OnOk, OnErr, refl, sym, ap, ◌∙◌, subst, cond, arith}
use Rattle.std.specs.declared.alloc.Global.{Global}
use Rattle.std.proofs.lemmas.Bool.Decides.{nat_tests}
use Rattle.std.proofs.lemmas.List.{length-map, map-set, get_or-map}
use Rattle.log_history.specs.Effects.{Change, Page, with_change}
use Rattle.plain_pages.specs.declared.page.Page.{Page as RustPage}
use Rattle.space_pages.specs.Pages.{brought, changed}
use Rattle.space_pages.specs.Slots.{page_in, pages_in, IsPlace}

same : (a b : ℕ) → a ≡ b → (a == b) ≡ true
same a b e = grind (arith, nat_tests)

other : (a b : ℕ) → a ≢ b → (a == b) ≡ false
other a b e = grind (arith, nat_tests)

cond-and_false : {A : Type 0} (b : Bool) (x y : A) → cond (b && false) x y ≡ y
cond-and_false true x y = refl
cond-and_false false x y = refl

with_change-other_page : (space number : ℕ) (page : Page) (c : Change) → c.patch.page ≢ number → with_change space number page c ≡ page
with_change-other_page space number page c apart =
    let test : (c.patch.page == number) ≡ false = other c.patch.page number apart in
    rw test (cond-and_false (c.patch.space == space) (changed c page) page)

-- a change of another space
pub brought-other_space : (space first : ℕ) (c : Change) (pages : List Page) → c.patch.space ≢ space → pages ≡ brought space first (c ∷ []) pages
brought-other_space space first c [] apart = refl
brought-other_space space first c (page ∷ pages) apart =
    let test : (c.patch.space == space) ≡ false = other c.patch.space space apart in
    let ih : pages ≡ brought space (first + 1) (c ∷ []) pages = brought-other_space space (first + 1) c pages apart in
    rw test (ap (λ (rest : List Page). page ∷ rest) ih)

-- a change of a page that isn't among these
pub brought-outside : (space first : ℕ) (c : Change) (pages : List Page)
    → (c.patch.page < first) ⊎ (first + length pages ≤ c.patch.page) → pages ≡ brought space first (c ∷ []) pages
brought-outside space first c [] apart = refl
brought-outside space first c (page ∷ pages) apart =
    let differs : c.patch.page ≢ first = λ e. elim apart [ inl below ↦ omega arith | inr above ↦ omega arith ] in
    let behind : (c.patch.page < first + 1) ⊎ (first + 1 + length pages ≤ c.patch.page) =
    elim apart [ inl below ↦ inl (omega arith) | inr above ↦ inr (omega arith) ] in
    ap (λ (rest : List Page). page ∷ rest) (brought-outside space (first + 1) c pages behind)
    ∙ ap (λ (one : Page). one ∷ brought space (first + 1) (c ∷ []) pages) (sym (with_change-other_page space first page c differs))

-- a change of the page at a place
brought-at : (space first : ℕ) (c : Change) (pages : List Page) (i : ℕ) (d : Page)
    → c.patch.space ≡ space → c.patch.page ≡ first + i → i < length pages
    → set pages i (changed c (get_or pages i d)) ≡ brought space first (c ∷ []) pages
brought-at space first c [] i d here at below = absurd (omega arith)
brought-at space first c (page ∷ pages) zero d here at below =
    let space_test : (c.patch.space == space) ≡ true = same c.patch.space space here in
    let page_test : (c.patch.page == first) ≡ true = same c.patch.page first (omega arith) in
    let laid : with_change space first page c ≡ changed c page = rw (space_test, page_test) refl in
    ap (λ (rest : List Page). changed c page ∷ rest) (brought-outside space (first + 1) c pages (inl (omega arith)))
    ∙ ap (λ (one : Page). one ∷ brought space (first + 1) (c ∷ []) pages) (sym laid)
brought-at space first c (page ∷ pages) (suc i) d here at below =
    ap (λ (rest : List Page). page ∷ rest) (brought-at space (first + 1) c pages i d here (omega arith) (omega arith))
    ∙ ap (λ (one : Page). one ∷ brought space (first + 1) (c ∷ []) pages) (sym (with_change-other_page space first page c (omega arith)))

abbrev pub Place : Type 0
Place = Option (Box RustPage Global)

-- a change of a page that has no place
pub passed_over : (space first count : ℕ) (c : Change) (slots : List Place) → count ≡ length slots
    → (c.patch.page < first) ⊎ (first + count ≤ c.patch.page) → pages_in slots ≡ brought space first (c ∷ []) (pages_in slots)
passed_over space first count c slots is apart =
    brought-outside space first c (pages_in slots)
    (subst (λ (n : ℕ). (c.patch.page < first) ⊎ (first + n ≤ c.patch.page)) (is ∙ sym (length-map slots page_in)) apart)

-- the place's page with a change laid into it
laid_at : (space first count : ℕ) (c : Change) (slots : List Place) (i : ℕ) (old new : Place) → count ≡ length slots → c.patch.space ≡ space
    → IsPlace first count c.patch.page i → old ≡ get_or slots i old → page_in new ≡ changed c (page_in old)
    → pages_in (set slots i new) ≡ brought space first (c ∷ []) (pages_in slots)
laid_at space first count c slots i old new is here at read laid =
    let below : i < length slots = omega (arith, at.1, is) in
    let before : get_or (pages_in slots) i (page_in old) ≡ page_in old = get_or-map page_in slots i old (page_in old) below ∙ ap page_in (sym read) in
    map-set page_in slots i new ∙ ap (set (pages_in slots) i) (laid ∙ ap (changed c) (sym before))
    ∙ brought-at space first c (pages_in slots) i (page_in old) here at.0 (omega (arith, below, length-map slots page_in))

pub lays : {T E : Type 0} (r : Result T E) (space first count : ℕ) (c : Change) (slots : List Place) (i : ℕ) (old new : Place) → count ≡ length slots
    → c.patch.space ≡ space → IsPlace first count c.patch.page i → old ≡ get_or slots i old → OnOk r (page_in new ≡ changed c (page_in old))
    → OnOk r (pages_in (set slots i new) ≡ brought space first (c ∷ []) (pages_in slots))
lays (Ok x) space first count c slots i old new is here at read laid = laid_at space first count c slots i old new is here at read laid
lays (Err e) space first count c slots i old new is here at read laid = tt

same_pages : (slots : List Place) (i : ℕ) (old new : Place) → old ≡ get_or slots i old → page_in new ≡ page_in old → pages_in (set slots i new) ≡ pages_in slots
same_pages [] i old new read same = refl
same_pages (slot ∷ slots) zero old new read same = ap (λ (page : Page). page ∷ pages_in slots) (same ∙ ap page_in read)
same_pages (slot ∷ slots) (suc i) old new read same = ap (λ (rest : List Page). page_in slot ∷ rest) (same_pages slots i old new read same)

pub keeps : {T E : Type 0} (r : Result T E) (slots : List Place) (i : ℕ) (old new : Place) → old ≡ get_or slots i old → OnErr r (page_in new ≡ page_in old)
    → OnErr r (pages_in (set slots i new) ≡ pages_in slots)
keeps (Ok x) slots i old new read same = tt
keeps (Err e) slots i old new read same = same_pages slots i old new read same
