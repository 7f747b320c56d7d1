-- Runs, one after another.
use Rattle.std.proofs.Common.{◌≡◌, ◌≢◌, ℕ, ◌+◌, ◌*◌, ◌^◌, ◌<◌, ◌≤◌, List, [], ◌∷◌, ◌++◌, length, take, refl, sym, ap, ◌∙◌, subst, arith}
use Rattle.std.specs.List.{AllByRecursion, flat_map}
use Rattle.std.proofs.lemmas.List.{flat_map_more, length-append, take-take, length-take-le}
use Rattle.std.proofs.Math.Seq.{take-add}
use Rattle.block_chain.specs.Blocks.{AreMaximal, FitsRun}
use Rattle.block_chain.proofs.RunLemmas.{AreMaximal-begun}
use Rattle.block_chain.specs.declared.runs.Run.{Run}
use Rattle.byte_fields.specs.Fields.{field}
use Rattle.catalogue_slots.specs.Layout.{run_bytes}
use Rattle.catalogue_slots.specs.Parts.{BeginsWithRuns}
use Rattle.catalogue_slots.specs.RunLaws.{same_runs, flat_map-take, fit-take, maximal-take}

pub fit-push : (runs : List Run) (run : Run) → AllByRecursion FitsRun runs → FitsRun run → AllByRecursion FitsRun (runs ++ run ∷ [])
fit-push [] run fit fits = (fits, tt)
fit-push (x ∷ xs) run fit fits = (fit.0, fit-push xs run fit.1 fits)

-- a run may come next exactly where it isn't empty and doesn't begin at the end of those before
pub record EndsAt (end : ℕ) (runs : List Run) : Type 0 where
  pub may_follow : (run : Run) → run.first < 2 ^ 32 → (0 < run.count) × (run.first ≢ end) → AreMaximal (runs ++ run ∷ [])
  pub follows : (run : Run) → run.first < 2 ^ 32 → AreMaximal (runs ++ run ∷ []) → (0 < run.count) × (run.first ≢ end)

pub EndsAt-nil : (end : ℕ) → 2 ^ 32 ≤ end → EndsAt end []
EndsAt-nil end far = record {
  may_follow = λ run fits next. (next.0, tt, tt);
  follows = λ run fits are. (are.0, λ (e : run.first ≡ end). absurd (omega arith));
}

follows_last : (runs : List Run) (run next : Run) → AreMaximal ((runs ++ run ∷ []) ++ next ∷ []) → (0 < next.count) × (next.first ≢ run.first + run.count)
follows_last [] run next are = (are.2.0, are.1)
follows_last (r ∷ rs) run next are = follows_last rs run next (tail r rs are)
  where
    tail : (r : Run) (rs : List Run) → AreMaximal (((r ∷ rs) ++ run ∷ []) ++ next ∷ []) → AreMaximal ((rs ++ run ∷ []) ++ next ∷ [])
    tail r rs are = are.2

pub EndsAt-push : (runs : List Run) (run : Run) (end : ℕ) → end ≡ run.first + run.count → AreMaximal (runs ++ run ∷ []) → EndsAt end (runs ++ run ∷ [])
EndsAt-push runs run end is are = record {
  may_follow = λ next fits parts. AreMaximal-begun runs run next parts.0 (λ (e : next.first ≡ run.first + run.count). parts.1 (e ∙ sym is)) are;
  follows = λ next fits more. let parts = follows_last runs run next more in (parts.0, λ (e : next.first ≡ end). parts.1 (e ∙ is));
}

-- one more run is read
pub BeginsWithRuns-push : (bytes : List ℕ) (count : ℕ) (runs : List Run) (run : Run) → BeginsWithRuns bytes count runs
    → FitsRun run → field (8 * count) 8 bytes ≡ run_bytes run → AreMaximal (runs ++ run ∷ []) → BeginsWithRuns bytes (count + 1) (runs ++ run ∷ [])
BeginsWithRuns-push bytes count runs run begins fits stands are = record {
  so_many = omega (arith, length-append runs (run ∷ []), begins.so_many);
  are_runs = record { fit = fit-push runs run begins.are_runs.fit fits; maximal = are };
  stands =
      let more : 8 * (count + 1) ≡ 8 * count + 8 = omega arith in
      ap (λ (n : ℕ). take n bytes) more ∙ take-add (8 * count) 8 bytes ∙ ap (λ (zs : List ℕ). zs ++ field (8 * count) 8 bytes) begins.stands
      ∙ ap (λ (zs : List ℕ). flat_map run_bytes runs ++ zs) stands
      ∙ flat_map_more run_bytes [] runs run;
}

pub BeginsWithRuns-nil : (bytes : List ℕ) → BeginsWithRuns bytes 0 []
BeginsWithRuns-nil bytes = record { so_many = refl; are_runs = record { fit = tt; maximal = tt }; stands = refl }

-- so many runs are those with which the bytes begin
pub BeginsWithRuns-once : (bytes : List ℕ) (count : ℕ) (runs others : List Run) → BeginsWithRuns bytes count runs → BeginsWithRuns bytes count others → runs ≡ others
BeginsWithRuns-once bytes count runs others first second =
    same_runs runs others first.are_runs.fit second.are_runs.fit (first.so_many ∙ sym second.so_many) (sym first.stands ∙ second.stands)

-- the first of more runs
pub BeginsWithRuns-take : (bytes : List ℕ) (n count : ℕ) (runs : List Run) → n ≤ count → BeginsWithRuns bytes count runs → BeginsWithRuns bytes n (take n runs)
BeginsWithRuns-take bytes n count runs le begins =
    let within : n ≤ length runs = omega (arith, begins.so_many) in record {
      so_many = length-take-le n runs within;
      are_runs = record { fit = fit-take n runs begins.are_runs.fit; maximal = maximal-take n runs begins.are_runs.maximal };
      stands = sym (take-take (8 * n) (8 * count) bytes (omega (arith, le))) ∙ ap (take (8 * n)) begins.stands ∙ flat_map-take n runs within;
    }

-- where the bytes begin with more runs, the next one may follow
pub next_run : (bytes : List ℕ) (i count : ℕ) (runs : List Run) (run : Run) (others : List Run) → i < count → BeginsWithRuns bytes i runs
    → FitsRun run → field (8 * i) 8 bytes ≡ run_bytes run → BeginsWithRuns bytes count others → AreMaximal (runs ++ run ∷ [])
next_run bytes i count runs run others lt begins fits stands whole =
    let front : BeginsWithRuns bytes (i + 1) (take (i + 1) others) = BeginsWithRuns-take bytes (i + 1) count others (omega arith) whole in
    let more : 8 * (i + 1) ≡ 8 * i + 8 = omega arith in
    let spelled : flat_map run_bytes (runs ++ run ∷ []) ≡ flat_map run_bytes (take (i + 1) others) =
    sym (flat_map_more run_bytes [] runs run)
    ∙ ap (λ (zs : List ℕ). flat_map run_bytes runs ++ zs) (sym stands)
    ∙ ap (λ (zs : List ℕ). zs ++ field (8 * i) 8 bytes) (sym begins.stands)
    ∙ sym (take-add (8 * i) 8 bytes) ∙ ap (λ (n : ℕ). take n bytes) (sym more) ∙ front.stands in
    let same : runs ++ run ∷ [] ≡ take (i + 1) others =
    same_runs (runs ++ run ∷ []) (take (i + 1) others) (fit-push runs run begins.are_runs.fit fits) front.are_runs.fit
    (omega (arith, length-append runs (run ∷ []), begins.so_many, front.so_many)) spelled in
    subst AreMaximal (sym same) front.are_runs.maximal
