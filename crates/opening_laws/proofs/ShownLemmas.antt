-- Disks that show the store of a site.
use Rattle.std.proofs.Common.{◌≡◌, ℕ, Bool, true, false, nat_eq, List, [], ◌∷◌, ◌++◌, map, Some, refl, sym, ap, subst}
use Rattle.std.specs.Prelude.{slice_get, if◌then◌else◌}
use Rattle.block_chain.specs.Blocks.{AreSound, blocks_of_runs}
use Rattle.site_headers.specs.Heads.{Head}
use Rattle.catalogue_slots.specs.Records.{Object}
use Rattle.object_store.specs.Holdings.{blocks_of_all}
use Rattle.site_worlds.specs.Objects.{blocks_on}
use Rattle.site_worlds.specs.Worlds.{Kept, Store}
use Rattle.site_layouts.specs.Stores.{Held, HoldsCatalogue, HoldsSpare, HoldsVolume, contents_of}
use Rattle.store_opening.specs.Opening.{live_on, ShowsStore}

-- the blocks on a volume, by the objects of the catalogue and by those of the site
pub same_blocks : (volume : ℕ) (kept : List Kept) → blocks_of_all (live_on volume (map (λ k. k.object) kept)) ≡ blocks_on volume kept
same_blocks volume [] = refl
same_blocks volume (k ∷ kept) = by (nat_eq k.object.volume volume) (same_blocks volume kept)
  where
    rest : List Object
    rest = map (λ (k : Kept). k.object) kept

    by : (b : Bool) → blocks_of_all (live_on volume rest) ≡ blocks_on volume kept
        → blocks_of_all (if b then k.object.runs ∷ live_on volume rest else live_on volume rest)
        ≡ (if b then blocks_of_runs k.object.runs else []) ++ blocks_on volume kept
    by true same = ap (λ (l : List ℕ). blocks_of_runs k.object.runs ++ l) same
    by false same = same

pub shown : (head : Head) (store : Store) (held : Held) (cat spare : List ℕ) (files : List (List ℕ)) → ((volume : ℕ) → AreSound head.blocks (blocks_on volume store.kept))
    → HoldsCatalogue head store held cat → HoldsSpare head spare → ((volume : ℕ) (file : List ℕ) → slice_get files volume ≡ Some file → HoldsVolume head store volume file)
    → ShowsStore head (contents_of store) store.used cat spare files
shown head store held cat spare files apart holds spare_holds volumes = record {
  catalogue = record { heads = holds.heads; mark = holds.mark; journal = holds.journal; spare = spare_holds };
  used = holds.used;
  headers = λ place file there. (volumes place file there).header;
  apart = λ place. subst (AreSound head.blocks) (sym (same_blocks place store.kept)) (apart place);
}
