-- Laws of what volumes show: what a transaction of the store leaves of it, and what writes elsewhere on a volume do.
use Rattle.std.specs.Prelude.{◌≡◌, ℕ, suc, ◌<◌, ◌≤◌, ◌||◌, ◌==◌, List, [], ◌∷◌, ◌++◌, length, Bool, true, false, not, if◌then◌else◌}
use Rattle.std.specs.List.{AllByRecursion}
use Rattle.std.proofs.Common.{arith, refl, sym, ap, subst, ◌∙◌, length-take}
use mathlib.Core.Logic.{inl, inr}
use Rattle.std.proofs.lemmas.Bool.{cases_lt}
use Rattle.std.proofs.lemmas.Bool.Decides.{nat_tests}
use Rattle.site_disk.specs.Bytes.{extent}
use Rattle.block_chain.specs.Blocks.{times, ascending, blocks_of_runs, AreApart}
use Rattle.block_chain.specs.BlocksLaws.{times-append, times_above}
use Rattle.site_headers.specs.Heads.{Head}
use Rattle.site_headers.specs.Headers.{volume_tail}
use Rattle.site_headers.specs.HeaderLaws.{HasHeader-same, length-HasHeader, length-volume_tail}
use Rattle.object_volume.specs.Objects.{places, object_places, Spares}
use Rattle.object_volume.specs.ObjectsLaws.{bytes_at-ascending, bytes_at-same, length-bytes_at, place_there, spared_front}
use Rattle.object_volume.specs.Answers.{Judges}
use Rattle.object_volume.specs.declared.faults.Soundness.TheVariants.{Sound, Damaged}
use Rattle.site_worlds.specs.Worlds.{Kept, Store}
use Rattle.site_worlds.specs.Objects.{IsKept, blocks_on}
use Rattle.site_worlds.specs.Moves.{is_among, store_after}
use Rattle.site_worlds.specs.Allowed.{FollowFrom}
use Rattle.world_laws.specs.ListLaws.{all_append, all_filter}
use Rattle.site_layouts.specs.Stores.{HoldsObject, HoldsVolume, IsSound, StandsAs, read_of}

-- a transaction

-- no copy id behind the last one is damaged
fresh_among : (damaged : List ℕ) (copy last : ℕ) → AllByRecursion (λ other. other ≤ last) damaged → last < copy → is_among damaged copy ≡ false
fresh_among [] copy last all lt = refl
fresh_among (other ∷ damaged) copy last all lt =
    let isnt : (other == copy) ≡ false = differs other (omega (arith, all.0, lt)) in
    ap (λ (b : Bool). b || is_among damaged copy) isnt ∙ fresh_among damaged copy last all.1 lt
  where
    differs : (a : ℕ) → a < copy → (a == copy) ≡ false
    differs a less = grind (arith, nat_tests, less)

-- an added object of a volume is there as it was sent
abbrev pub IsSentTo : ℕ → List ℕ → Kept → Type 0
IsSentTo volume bytes kept = kept.object.volume ≡ volume → IsSound kept bytes

added_stand : (volume last from : ℕ) (damaged bytes : List ℕ) (added : List Kept) → AllByRecursion (λ other. other ≤ last) damaged → last ≤ from → FollowFrom from added
    → AllByRecursion (IsSentTo volume bytes) added → AllByRecursion (HoldsObject volume damaged bytes) added
added_stand volume last from damaged bytes [] all le follow sent = tt
added_stand volume last from damaged bytes (kept ∷ added) all le follow sent = (
  λ here. subst (λ (b : Bool). StandsAs b kept bytes)
      (sym (fresh_among damaged kept.object.copy last all (omega (arith, le, follow.0)))) (sent.0 here),
  added_stand volume last (suc from) damaged bytes added all (omega (arith, le)) follow.1 sent.1,
)

-- A volume that already reads the objects of a transaction shows the store behind it.
pub volume_votes : (head : Head) (store : Store) (added : List Kept) (deleted : List ℕ) (volume : ℕ) (bytes : List ℕ)
    → AllByRecursion (λ copy. copy ≤ store.last) store.damaged → FollowFrom store.last added → AllByRecursion (IsSentTo volume bytes) added
    → HoldsVolume head store volume bytes → HoldsVolume head (store_after added deleted store) volume bytes
volume_votes head store added deleted volume bytes known follow sent holds = record {
  header = holds.header;
  objects = all_append (HoldsObject volume store.damaged bytes) _ added
      (all_filter (HoldsObject volume store.damaged bytes) (λ k. not (is_among deleted k.object.copy)) store.kept holds.objects)
      (added_stand volume store.last store.last store.damaged bytes added known (omega arith) follow sent);
}

-- what a check of a volume finds

pub sound_is_judged : (kept : Kept) (bytes : List ℕ) → IsKept kept → IsSound kept bytes
    → Judges (read_of kept bytes) kept.object.size kept.object.digest Sound
sound_is_judged kept bytes is sound =
    subst (λ (read : List ℕ). Judges read kept.object.size kept.object.digest Sound) (sym sound) (sym is.size, sym is.digest)

-- writes elsewhere

-- all of an object is there
whole_read : (b : Bool) (kept : Kept) (bytes : List ℕ) → IsKept kept → StandsAs b kept bytes → length (read_of kept bytes) ≡ kept.object.size
whole_read false kept bytes is stands = ap length stands ∙ sym is.size
whole_read true kept bytes is stands = stands.1.0

read_there : (kept : Kept) (bytes : List ℕ) → length (read_of kept bytes) ≡ kept.object.size
    → (at : ℕ) → 0 < times at (object_places kept.object.runs kept.object.size) → at < length bytes
read_there kept bytes whole at some =
    place_there bytes (object_places kept.object.runs kept.object.size)
    (omega (
      arith,
      whole,
      length-bytes_at bytes (object_places kept.object.runs kept.object.size),
      length-take kept.object.size (places (blocks_of_runs kept.object.runs)),
    )) at some

stands_same : (b : Bool) (kept : Kept) (old new : List ℕ) → read_of kept new ≡ read_of kept old → StandsAs b kept old → StandsAs b kept new
stands_same false kept old new same stands = same ∙ stands
stands_same true kept old new same stands =
    (stands.0, subst (λ (read : List ℕ). Judges read kept.object.size kept.object.digest (Damaged stands.0)) (sym same) stands.1)

-- the blocks of one object, and those of the others
first_apart : (own xs ys : List ℕ) → AreApart own (xs ++ ys) → AreApart own xs
first_apart own xs ys apart block some = omega (arith, apart block some, times-append block xs ys)

later_apart : (own xs ys : List ℕ) → AreApart own (xs ++ ys) → AreApart own ys
later_apart own xs ys apart block some = omega (arith, apart block some, times-append block xs ys)

objects_same : (volume limit : ℕ) (blocks damaged base old new : List ℕ) (kept : List Kept) → length base ≤ limit → Spares blocks limit old new
    → AllByRecursion IsKept kept → AreApart blocks (blocks_on volume kept) → AllByRecursion (HoldsObject volume damaged base) kept
    → AllByRecursion (HoldsObject volume damaged old) kept → AllByRecursion (HoldsObject volume damaged new) kept
objects_same volume limit blocks damaged base old new [] le spares are apart there holds = tt
objects_same volume limit blocks damaged base old new (k ∷ kept) le spares are apart there holds = (
  λ here. stands_same (is_among damaged k.object.copy) k old new
      (spared_front blocks (blocks_of_runs k.object.runs) k.object.size limit old new spares (own here)
      (λ at some. omega (arith, le, read_there k base (whole_read (is_among damaged k.object.copy) k base are.0 (there.0 here)) at some)))
      (holds.0 here),
  objects_same volume limit blocks damaged base old new kept le spares are.1 (later_apart blocks first (blocks_on volume kept) apart) there.1 holds.1,
)
  where
    first : List ℕ
    first = if k.object.volume == volume then blocks_of_runs k.object.runs else []

    test_true : (a b : ℕ) → a ≡ b → (a == b) ≡ true
    test_true a b is = grind (arith, nat_tests, is)

    own : k.object.volume ≡ volume → AreApart blocks (blocks_of_runs k.object.runs)
    own here = subst (λ (b : Bool). AreApart blocks (if b then blocks_of_runs k.object.runs else [])) (test_true k.object.volume volume here)
        (first_apart blocks first (blocks_on volume kept) apart)

page_same : (blocks : List ℕ) (limit : ℕ) (old new : List ℕ) → Spares blocks limit old new → 4096 ≤ limit → extent 0 4096 new ≡ extent 0 4096 old
page_same blocks limit old new spares long =
    sym (bytes_at-ascending new 0 4096)
    ∙ bytes_at-same old new (ascending 0 4096) (λ at some. spares.kept at (before at some) (λ block taken. inl (omega (arith, low at some))))
    ∙ bytes_at-ascending old 0 4096
  where
    low : (at : ℕ) → 0 < times at (ascending 0 4096) → at < 4096
    low at some = elim (cases_lt at 4096) [
      | inl lt ↦ lt
      | inr ge ↦ absurd (omega (arith, some, times_above at 0 4096 (omega (arith, ge))))
    ]

    before : (at : ℕ) → 0 < times at (ascending 0 4096) → at < limit
    before at some = omega (arith, low at some, long)

-- A volume shows what it did where only blocks that no live object has were written, and others spared as far as it goes where it is shown.
pub volume_spared : (head : Head) (store : Store) (volume limit : ℕ) (blocks base old new : List ℕ) → AllByRecursion IsKept store.kept
    → AreApart blocks (blocks_on volume store.kept) → HoldsVolume head store volume base → length base ≤ limit → Spares blocks limit old new
    → HoldsVolume head store volume old → HoldsVolume head store volume new
volume_spared head store volume limit blocks base old new are apart there le spares holds = record {
  header = record {
    size = holds.header.size;
    header = HasHeader-same (volume_tail volume head.site head.blocks) old new
        (page_same blocks limit old new spares
        (omega (arith, le, length-HasHeader (volume_tail volume head.site head.blocks) base (length-volume_tail volume head.site head.blocks) there.header.header)))
        holds.header.header;
  };
  objects = objects_same volume limit blocks store.damaged base old new store.kept le spares are apart there.objects holds.objects;
}
