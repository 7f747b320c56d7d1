-- A listing with one page more.
use Rattle.std.proofs.Common.{◌≡◌, ℕ, suc, ◌+◌, ◌<◌, List, [], ◌∷◌, ◌++◌, length, cond, true, string_bytes, refl, sym, ap, ◌∙◌, subst, arith, append_assoc}
use Rattle.std.specs.Prelude.{nat_lt}
use Rattle.std.proofs.lemmas.List.{append-nil}
use Rattle.std.proofs.lemmas.List.Sums.{sum_by-append}
use Rattle.std.proofs.lemmas.Bool.Decides.{nat_tests}
use Rattle.sha2.specs.Hashers.{Holds256}
use Rattle.log_history.specs.Effects.{Page}
use Rattle.space_pages.specs.Layout.{all_bytes, page_bytes, space_digest}
use Rattle.space_pages.specs.Pages.{used}
use Rattle.page_texts.specs.Texts.{page_line, pages_text, used_line, used_lines}
use Rattle.lane_texts.specs.declared.listing.Listing.{Listing}
use Rattle.lane_texts.specs.Listings.{Lists, space_line}

used_lines-push : (name : List ℕ) (first : ℕ) (pages : List Page) (page : Page)
    → used_lines name first (pages ++ page ∷ []) ≡ used_lines name first pages ++ used_line name (first + length pages) page.stamp
unfolding used_lines
used_lines-push name first [] page =
    let here : first ≡ first + 0 = omega arith in append-nil (used_line name first page.stamp) ∙ ap (λ (n : ℕ). used_line name n page.stamp) here
used_lines-push name first (one ∷ pages) page =
    let next : first + 1 + length pages ≡ first + suc (length pages) = omega arith in
    ap (λ (rest : List ℕ). used_line name first one.stamp ++ rest)
    (used_lines-push name (first + 1) pages page ∙ ap (λ (n : ℕ). used_lines name (first + 1) pages ++ used_line name n page.stamp) next)
    ∙ sym (append_assoc (used_line name first one.stamp) (used_lines name (first + 1) pages) (used_line name (first + suc (length pages)) page.stamp))

all_bytes-push : (space first : ℕ) (pages : List Page) (page : Page)
    → all_bytes space first (pages ++ page ∷ []) ≡ all_bytes space first pages ++ page_bytes space (first + length pages) page
all_bytes-push space first [] page =
    let here : first ≡ first + 0 = omega arith in append-nil (page_bytes space first page) ∙ ap (λ (n : ℕ). page_bytes space n page) here
all_bytes-push space first (one ∷ pages) page =
    let next : first + 1 + length pages ≡ first + suc (length pages) = omega arith in
    ap (λ (rest : List ℕ). page_bytes space first one ++ rest)
    (all_bytes-push space (first + 1) pages page ∙ ap (λ (n : ℕ). all_bytes space (first + 1) pages ++ page_bytes space n page) next)
    ∙ sym (append_assoc (page_bytes space first one) (all_bytes space (first + 1) pages) (page_bytes space (first + suc (length pages)) page))

-- how much a page counts among those that were written
abbrev pub counts : ℕ → ℕ
counts stamp = cond (nat_lt 0 stamp) 1 0

used-push : (pages : List Page) (page : Page) → used (pages ++ page ∷ []) ≡ used pages + counts page.stamp
used-push pages page =
    let one : 0 + counts page.stamp ≡ counts page.stamp = omega arith in
    sum_by-append (λ (p : Page). counts p.stamp) pages (page ∷ []) ∙ ap (λ (n : ℕ). used pages + n) one

-- one page more
pub lists_more : (space number : ℕ) (name line bytes : List ℕ) (pages : List Page) (page : Page) (old new : Listing) → length pages ≡ number
    → bytes ≡ page_bytes space number page → line ≡ used_line name number page.stamp → string_bytes new.text ≡ string_bytes old.text ++ line
    → Holds256 new.hasher (all_bytes space 0 pages ++ bytes) → new.used ≡ old.used + counts page.stamp → Lists space name pages old → Lists space name (pages ++ page ∷ []) new
lists_more space number name line bytes pages page old new long is told added hashed counted lists =
    let at : 0 + length pages ≡ number = omega (arith, long) in
    record {
      lines = added
          ∙ ap (λ (text : List ℕ). text ++ line) lists.lines
          ∙ ap (λ (more : List ℕ). used_lines name 0 pages ++ more) (told ∙ ap (λ (n : ℕ). used_line name n page.stamp) (sym at))
          ∙ sym (used_lines-push name 0 pages page);
      holds = subst (Holds256 new.hasher)
          (ap (λ (more : List ℕ). all_bytes space 0 pages ++ more) (is ∙ ap (λ (n : ℕ). page_bytes space n page) (sym at))
          ∙ sym (all_bytes-push space 0 pages page))
          hashed;
      count = counted ∙ ap (λ (n : ℕ). n + counts page.stamp) lists.count ∙ sym (used-push pages page);
    }

-- a page that was never written has no line
pub no_line : (name : List ℕ) (number stamp : ℕ) → stamp ≡ 0 → [] ≡ used_line name number stamp
no_line name number stamp none = sym (ap (used_line name number) none)

pub no_count : (used stamp : ℕ) → stamp ≡ 0 → used ≡ used + counts stamp
no_count used stamp none = let same : used ≡ used + 0 = omega arith in same ∙ ap (λ (s : ℕ). used + counts s) (sym none)

-- and one that was has one
pub its_line : (name : List ℕ) (number stamp : ℕ) → 0 < stamp → page_line name number stamp ≡ used_line name number stamp
its_line name number stamp some = let test : nat_lt 0 stamp ≡ true = grind (arith, nat_tests) in sym (rw test refl)

pub its_count : (used stamp : ℕ) → 0 < stamp → used + 1 ≡ used + counts stamp
its_count used stamp some = let test : nat_lt 0 stamp ≡ true = grind (arith, nat_tests) in sym (rw test refl)

-- the text of all pages of a space
pub whole_text : (space count written : ℕ) (name text digest : List ℕ) (pages : List Page) → text ≡ used_lines name 0 pages → length pages ≡ count → written ≡ used pages
    → digest ≡ space_digest space pages → text ++ space_line name count written digest ≡ pages_text space name pages
whole_text space count written name text digest pages lines long counted hashed =
    ap (λ (t : List ℕ). t ++ space_line name count written digest) lines
    ∙ ap (λ (n : ℕ). used_lines name 0 pages ++ space_line name n written digest) (sym long)
    ∙ ap (λ (n : ℕ). used_lines name 0 pages ++ space_line name (length pages) n digest) counted
    ∙ ap (λ (d : List ℕ). used_lines name 0 pages ++ space_line name (length pages) (used pages) d) hashed
