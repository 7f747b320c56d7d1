-- Laws of merging the archives of a chain.
use Rattle.std.specs.Prelude.{◌≡◌, ℕ, List, [], ◌∷◌, fold, Bool, true, false, nat_lt, if◌then◌else◌}
use Rattle.std.proofs.Common.{arith, refl, sym, ap, subst, ◌∙◌}
use Rattle.std.proofs.lemmas.Bool.Decides.{nat_tests}
use Rattle.log_history.specs.History.{History}
use Rattle.log_history.specs.Live.{live}
use Rattle.log_history.specs.Effects.{Page, empty_page, page_at}
use Rattle.history_laws.specs.PagesLaws.{page_before, page_not_above}
use Rattle.backup_lines.specs.Lines.{Archive}
use Rattle.restore_laws.specs.Merged.{merged, BuildUp, top_at}

-- an archive gives the page at its position, from the one at the position that it builds on
merged_one : (history : History) (number : ℕ) (archive : Archive) → live history archive.at archive.base ≡ true
    → merged history number (page_at history archive.base archive.space number) archive ≡ page_at history archive.at archive.space number
merged_one history number archive is = by (nat_lt archive.base (page_at history archive.at archive.space number).stamp) refl
  where
    by : (b : Bool) → nat_lt archive.base (page_at history archive.at archive.space number).stamp ≡ b
        → (if b then page_at history archive.at archive.space number else page_at history archive.base archive.space number) ≡ page_at history archive.at archive.space number
    by true above = refl
    by false above = sym (page_not_above history archive.at archive.base archive.space number is (grind (arith, nat_tests, above)))

merged_on : (history : History) (space from number : ℕ) (archive : Archive) → archive.space ≡ space → archive.base ≡ from → live history archive.at from ≡ true
    → merged history number (page_at history from space number) archive ≡ page_at history archive.at space number
merged_on history space from number archive of_space on is =
    subst (λ (s : ℕ). merged history number (page_at history from s number) archive ≡ page_at history archive.at s number) of_space
    (subst (λ (b : ℕ). merged history number (page_at history b archive.space number) archive ≡ page_at history archive.at archive.space number) on
    (merged_one history number archive (subst (λ (b : ℕ). live history archive.at b ≡ true) (sym on) is)))

-- The archives of a chain, merged one after another from a page at the position that the first builds on, give the page at the position of
-- the last.
pub chain_merged : (history : History) (space number from : ℕ) (chain : List Archive) → BuildUp history space from chain
    → fold (merged history number) (page_at history from space number) chain ≡ page_at history (top_at from chain) space number
chain_merged history space number from [] on = refl
chain_merged history space number from (archive ∷ chain) on =
    ap (λ (page : Page). fold (merged history number) page chain) (merged_on history space from number archive on.0 on.1 on.2)
    ∙ chain_merged history space number archive.at chain on.3

-- before the first record each page is empty
pub page_at_zero : (history : History) (space number : ℕ) → page_at history 0 space number ≡ empty_page
page_at_zero history space number = page_before [] history 0 space number (omega arith)

-- A chain that begins with a full archive gives the page from an empty one.
pub full_chain_merged : (history : History) (space number : ℕ) (chain : List Archive) → BuildUp history space 0 chain
    → fold (merged history number) empty_page chain ≡ page_at history (top_at 0 chain) space number
full_chain_merged history space number chain on =
    ap (λ (page : Page). fold (merged history number) page chain) (sym (page_at_zero history space number)) ∙ chain_merged history space number 0 chain on
