-- The live objects of a volume, found one after another.
use Rattle.std.proofs.Common.{◌≡◌, ◌≢◌, ℕ, ◌+◌, ◌<◌, List, [], ◌∷◌, ◌++◌, length, get_or, take, map, refl, sym, ap, ◌∙◌}
use Rattle.std.proofs.lemmas.List.{append-nil, take_more, map_push}
use Rattle.std.specs.declared.vec.Vec.{Vec}
use Rattle.std.specs.declared.alloc.Global.{Global}
use Rattle.block_chain.specs.Blocks.{blocks_of_lists, blocks_of_runs}
use Rattle.block_chain.specs.declared.runs.Run.{Run}
use Rattle.catalogue_slots.specs.Records.{Object}
use Rattle.catalogue_slots.specs.Views.{object_of}
use Rattle.catalogue_slots.specs.declared.entry.ObjectEntry.{ObjectEntry}
use Rattle.object_store.specs.Holdings.{blocks_of_all}
use Rattle.object_store.specs.Returns.{place_of_object, runs_on}
use Rattle.object_store.proofs.ReturnLemmas.{runs_on-append, runs_on-here, runs_on-elsewhere}
use Rattle.store_opening.specs.Opening.{live_on}

abbrev pub runs_in : Vec Run Global → List Run
runs_in runs = runs.items

live_on-push : (number : ℕ) (objects : List Object) (object : Object) → live_on number (objects ++ object ∷ []) ≡ live_on number objects ++ runs_on number (place_of_object object ∷ [])
live_on-push number objects object =
    ap (runs_on number) (map_push place_of_object objects object) ∙ runs_on-append number (map place_of_object objects) (place_of_object object ∷ [])

module _ (number : ℕ) (entries : List ObjectEntry) (i : ℕ) (entry : ObjectEntry) (lt : i < length entries) (is : get_or entries i entry ≡ entry) where
  more : map object_of (take (i + 1) entries) ≡ map object_of (take i entries) ++ object_of entry ∷ []
  more =
      ap (map object_of) (take_more entries i entry lt ∙ ap (λ (x : ObjectEntry). take i entries ++ x ∷ []) is) ∙ map_push object_of (take i entries) entry

  pub live_more : (old new : List (Vec Run Global)) (runs : Vec Run Global) → entry.volume ≡ number → runs.items ≡ entry.runs.items → new ≡ old ++ runs ∷ []
      → map runs_in old ≡ live_on number (map object_of (take i entries)) → map runs_in new ≡ live_on number (map object_of (take (i + 1) entries))
  live_more old new runs here same pushed so_far =
      ap (map runs_in) pushed ∙ map_push runs_in old runs ∙ ap (λ (l : List (List Run)). l ++ runs.items ∷ []) so_far
      ∙ ap (λ (l : List Run). live_on number (map object_of (take i entries)) ++ l ∷ []) same
      ∙ ap (λ (l : List (List Run)). live_on number (map object_of (take i entries)) ++ l) (sym (runs_on-here number (place_of_object (object_of entry)) [] (sym here)))
      ∙ sym (live_on-push number (map object_of (take i entries)) (object_of entry))
      ∙ ap (live_on number) (sym more)

  pub live_same : (old : List (Vec Run Global)) → entry.volume ≢ number
      → map runs_in old ≡ live_on number (map object_of (take i entries)) → map runs_in old ≡ live_on number (map object_of (take (i + 1) entries))
  live_same old other so_far =
      so_far ∙ sym (append-nil (live_on number (map object_of (take i entries))))
      ∙ ap (λ (l : List (List Run)). live_on number (map object_of (take i entries)) ++ l)
      (sym (runs_on-elsewhere number (place_of_object (object_of entry)) [] (λ (e : number ≡ entry.volume). other (sym e))))
      ∙ sym (live_on-push number (map object_of (take i entries)) (object_of entry))
      ∙ ap (live_on number) (sym more)

-- the blocks of lists of runs
pub blocks_of_lists-all : (lists : List (Vec Run Global)) → blocks_of_lists lists ≡ blocks_of_all (map runs_in lists)
blocks_of_lists-all [] = refl
blocks_of_lists-all (runs ∷ lists) = ap (λ (l : List ℕ). blocks_of_runs runs.items ++ l) (blocks_of_lists-all lists)
