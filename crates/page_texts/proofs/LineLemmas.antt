-- Lemmas of the lines of pages.
use Rattle.std.proofs.Common.{◌≡◌, ℕ, ◌+◌, ◌<◌, ◌≤◌, List, [], ◌++◌, length, drop, Some, IfSome, refl, ap, sym, ◌∙◌, subst, arith, append_assoc}
use Rattle.std.specs.Prelude.{get_or}
use Rattle.std.specs.List.{slice_get}
use Rattle.std.proofs.lemmas.List.{append-nil, drop_more, drop_all}
use Rattle.std.proofs.lemmas.Option.{slice_get-get_or}
use Rattle.log_history.specs.Effects.{Page, empty_page}
use Rattle.page_texts.specs.Texts.{used_line, used_lines}

lines_step : (name : List ℕ) (index : ℕ) (pages : List Page) → index < length pages
    → used_lines name index (drop index pages)
    ≡ used_line name index (get_or pages index empty_page).stamp ++ used_lines name (index + 1) (drop (index + 1) pages)
unfolding used_lines
lines_step name index pages lt = ap (used_lines name index) (drop_more pages index empty_page lt)

-- a page more
pub lines_added : (name : List ℕ) (index stamp : ℕ) (pages : List Page) (text now all : List ℕ) → index < length pages
    → IfSome (slice_get pages index) (λ page. stamp ≡ page.stamp) → now ≡ text ++ used_line name index stamp
    → text ++ used_lines name index (drop index pages) ≡ all → now ++ used_lines name (index + 1) (drop (index + 1) pages) ≡ all
lines_added name index stamp pages text now all lt stamp_is added before =
    let others = used_lines name (index + 1) (drop (index + 1) pages) in
    let page = get_or pages index empty_page in
    let same : stamp ≡ page.stamp = subst (λ found. IfSome found (λ p. stamp ≡ p.stamp)) (slice_get-get_or pages index empty_page lt) stamp_is in
    ap (λ (t : List ℕ). t ++ others) (added ∙ ap (λ (n : ℕ). text ++ used_line name index n) same)
    ∙ append_assoc text (used_line name index page.stamp) others
    ∙ ap (λ (t : List ℕ). text ++ t) (sym (lines_step name index pages lt))
    ∙ before

no_lines : (name : List ℕ) (number : ℕ) → used_lines name number [] ≡ []
unfolding used_lines
no_lines name number = refl

-- all pages
pub lines_ended : (name : List ℕ) (index : ℕ) (pages : List Page) (text all : List ℕ) → length pages ≤ index
    → text ++ used_lines name index (drop index pages) ≡ all → text ≡ all
lines_ended name index pages text all le before =
    sym (append-nil text)
    ∙ ap (λ (t : List ℕ). text ++ t) (sym (ap (used_lines name index) (drop_all index pages le) ∙ no_lines name index))
    ∙ before
