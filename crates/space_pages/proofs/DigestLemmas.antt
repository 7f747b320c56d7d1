-- The bytes that are hashed, page after page.
use Rattle.std.proofs.Common.{◌≡◌, ℕ, suc, ◌+◌, ◌<◌, List, [], ◌∷◌, ◌++◌, length, take, get_or, Option, Box, refl, sym, ap, ◌∙◌, subst, arith, append_assoc, length-take}
use Rattle.std.specs.declared.alloc.Global.{Global}
use Rattle.std.proofs.lemmas.List.{append-nil, length-map, map_more}
use Rattle.log_history.specs.Effects.{Page}
use Rattle.plain_pages.specs.declared.page.Page.{Page as RustPage}
use Rattle.sha2.specs.declared.Sha256.{Sha256}
use Rattle.sha2.specs.Hashers.{Holds256}
use Rattle.space_pages.specs.Layout.{page_bytes, all_bytes}
use Rattle.space_pages.specs.Slots.{page_in, pages_in}

page_bytes-parts : (space number : ℕ) (page : Page)
    → page_bytes space number (record { stamp = page.stamp; payload = [] }) ++ page.payload ≡ page_bytes space number page
unfolding page_bytes
page_bytes-parts space number page = refl

-- a header and a payload that were hashed one after the other
pub hashed_page : (now : Sha256) (space number : ℕ) (page : Page) (message header : List ℕ)
    → header ≡ page_bytes space number (record { stamp = page.stamp; payload = [] }) → Holds256 now ((message ++ header) ++ page.payload)
    → Holds256 now (message ++ page_bytes space number page)
hashed_page now space number page message header is holds =
    subst (Holds256 now)
    (append_assoc message header page.payload
    ∙ ap (λ (h : List ℕ). message ++ (h ++ page.payload)) is
    ∙ ap (λ (bytes : List ℕ). message ++ bytes) (page_bytes-parts space number page)) holds

all_bytes-append : (space number : ℕ) (xs ys : List Page)
    → all_bytes space number (xs ++ ys) ≡ all_bytes space number xs ++ all_bytes space (number + length xs) ys
all_bytes-append space number [] ys = ap (λ (n : ℕ). all_bytes space n ys) (omega arith)
all_bytes-append space number (x ∷ xs) ys =
    let next : number + 1 + length xs ≡ number + suc (length xs) = omega arith in
    ap (λ (rest : List ℕ). page_bytes space number x ++ rest)
    (all_bytes-append space (number + 1) xs ys ∙ ap (λ (n : ℕ). all_bytes space (number + 1) xs ++ all_bytes space n ys) next)
    ∙ sym (append_assoc (page_bytes space number x) (all_bytes space (number + 1) xs) (all_bytes space (number + suc (length xs)) ys))

-- one page more
pub hashed_more : (now : Sha256) (space first : ℕ) (slots : List (Option (Box RustPage Global))) (i : ℕ) (slot : Option (Box RustPage Global)) (page : Page)
    → i < length slots → slot ≡ get_or slots i slot → page ≡ page_in slot
    → Holds256 now (all_bytes space first (pages_in (take i slots)) ++ page_bytes space (first + i) page)
    → Holds256 now (all_bytes space first (pages_in (take (i + 1) slots)))
hashed_more now space first slots i slot page below read is holds =
    let front : List Page = pages_in (take i slots) in
    let long : length front ≡ i = length-map (take i slots) page_in ∙ omega (arith, length-take i slots) in
    let more : pages_in (take (i + 1) slots) ≡ front ++ page ∷ [] =
    map_more page_in slots i slot below ∙ ap (λ (p : Page). front ++ p ∷ []) (ap page_in (sym read) ∙ sym is) in
    subst (Holds256 now)
    (sym (ap (all_bytes space first) more ∙ all_bytes-append space first front (page ∷ [])
    ∙ ap (λ (n : ℕ). all_bytes space first front ++ (page_bytes space (first + n) page ++ [])) long
    ∙ ap (λ (bytes : List ℕ). all_bytes space first front ++ bytes) (append-nil (page_bytes space (first + i) page)))) holds
