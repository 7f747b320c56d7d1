-- Changes laid one after another.
use Rattle.std.proofs.Common.{◌≡◌, ℕ, zero, suc, ◌+◌, ◌<◌, List, [], ◌∷◌, ◌++◌, length, map, take, drop, get_or, Result, Ok, Err, OnErr, sym, ap, ◌∙◌, arith}
use Rattle.std.proofs.lemmas.List.{map-append, map_more, take-append-drop}
use Rattle.log_history.specs.Effects.{Change, Page}
use Rattle.txn_table.specs.declared.changes.Change.{Change as Brought}
use Rattle.txn_table.specs.Table.{change_of, patch_of}
use Rattle.space_pages.specs.Pages.{BroughtInPart, LieWithin, LiesInPage, brought, pages_view}
use Rattle.space_pages.specs.PagesLaws.{brought-append}

-- the change at a place
pub patch_at : (changes : List Brought) (i : ℕ) (change : Brought) → i < length changes → change ≡ get_or changes i change → LieWithin (map change_of changes) → LiesInPage (patch_of change)
patch_at [] i change below read all = absurd (omega arith)
patch_at (first ∷ changes) zero change below read all = rw read all.0
patch_at (first ∷ changes) (suc i) change below read all = patch_at changes i change (omega arith) read all.1

-- one change more
pub brought-more : (space first : ℕ) (changes : List Brought) (i : ℕ) (change : Brought) (pages so_far next : List Page) → i < length changes
    → change ≡ get_or changes i change → so_far ≡ brought space first (map change_of (take i changes)) pages → next ≡ brought space first (change_of change ∷ []) so_far
    → next ≡ brought space first (map change_of (take (i + 1) changes)) pages
brought-more space first changes i change pages so_far next below read before laid =
    let more : map change_of (take (i + 1) changes) ≡ map change_of (take i changes) ++ change_of change ∷ [] =
    map_more change_of changes i change below ∙ ap (λ (c : Brought). map change_of (take i changes) ++ change_of c ∷ []) (sym read) in
    laid ∙ ap (brought space first (change_of change ∷ [])) before
    ∙ sym (ap (λ (all : List Change). brought space first all pages) more
    ∙ brought-append space first (map change_of (take i changes)) (change_of change ∷ []) pages)

-- where laying stops, a front of the changes is in
pub in_part : {T E : Type 0} (r : Result T E) (space first : ℕ) (changes : List Brought) (i : ℕ) (old now new : List Page)
    → now ≡ brought space first (map change_of (take i changes)) old → new ≡ now
    → OnErr r (BroughtInPart (pages_view space first old) (map change_of changes) (pages_view space first new))
in_part (Ok x) space first changes i old now new so_far same = tt
in_part (Err e) space first changes i old now new so_far same = record {
  front = map change_of (take i changes);
  rest = map change_of (drop i changes);
  parts = ap (map change_of) (sym (take-append-drop i changes)) ∙ map-append change_of (take i changes) (drop i changes);
  laid = ap (pages_view space first) (same ∙ so_far);
}
