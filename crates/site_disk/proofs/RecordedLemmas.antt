-- What a recording's calls stand for as it grows.
use Rattle.std.proofs.Common.{◌≡◌, ◌≤◌, ◌+◌, ◌++◌, ◌∷◌, [], ℕ, List, max, length, take, drop, map, reverse, refl, ap, sym, subst, ◌∙◌, arith, length-append, Option, Some, None, Result, Ok, Err}
use Rattle.std.proofs.lemmas.List.{map_push, reverse-append, drop-append-le, take-append-le, drop_at, take_all, length-drop}
use Rattle.std.specs.Prelude.{Vec, IsSome, OnOk, OnErr, is_ok, if◌then◌else◌}
use Rattle.std.proofs.lemmas.Bool.{false≢true}
use Rattle.std.specs.declared.alloc.Global.{Global}
use Rattle.site_disk.specs.declared.memory.recording.Call.{Call}
use Rattle.site_disk.specs.declared.memory.recording.Call.TheVariants.{Write, Sync}
use Rattle.site_disk.specs.Bytes.{extent, written}
use Rattle.site_disk.specs.Past.{Event, put, synced, contents}
use Rattle.site_disk.specs.Recorded.{start_of, event_of, past_of, call_end, end_of, IsSound}

-- bytes that come behind others leave those as they were
extent-append : (at n : ℕ) (xs ys : List ℕ) → at + n ≤ length xs → extent at n (xs ++ ys) ≡ extent at n xs
extent-append at n xs ys le =
    ap (λ (l : List ℕ). take n l) (drop-append-le at xs ys (omega arith))
    ∙ take-append-le n (drop at xs) ys (omega (arith, length-drop at xs))

events-append : (pieces more : List ℕ) (calls : List Call) → end_of calls ≤ length pieces → map (event_of (pieces ++ more)) calls ≡ map (event_of pieces) calls
events-append pieces more [] le = refl
events-append pieces more (Write era at from len ∷ calls) le =
    let first : extent from len (pieces ++ more) ≡ extent from len pieces = extent-append from len pieces more (omega arith) in
    let rest : map (event_of (pieces ++ more)) calls ≡ map (event_of pieces) calls = events-append pieces more calls (omega arith) in
    cc
events-append pieces more (Sync era ∷ calls) le = ap (λ (l : List Event). synced era ∷ l) (events-append pieces more calls (omega arith))

pub past_of-more_pieces : (pieces more : List ℕ) (calls : List Call) → end_of calls ≤ length pieces → past_of (pieces ++ more) calls ≡ past_of pieces calls
past_of-more_pieces pieces more calls le = ap (λ (l : List Event). reverse l) (events-append pieces more calls le)

pub past_of-push : (pieces : List ℕ) (calls : List Call) (call : Call) → past_of pieces (calls ++ call ∷ []) ≡ event_of pieces call ∷ past_of pieces calls
past_of-push pieces calls call =
    ap (λ (l : List Event). reverse l) (map_push (event_of pieces) calls call)
    ∙ reverse-append (map (event_of pieces) calls) (event_of pieces call ∷ [])

pub end_of-push : (calls : List Call) (call : Call) → end_of (calls ++ call ∷ []) ≡ max (call_end call) (end_of calls)
end_of-push [] call = refl
end_of-push (first ∷ calls) call = omega (arith, end_of-push calls call)

-- a write whose bytes come behind those of the others
past_of-write : (pieces piece : List ℕ) (calls : List Call) (era at : ℕ) → end_of calls ≤ length pieces
    → past_of (pieces ++ piece) (calls ++ Write era at (length pieces) (length piece) ∷ []) ≡ put era at piece ∷ past_of pieces calls
past_of-write pieces piece calls era at le =
    let whole : extent (length pieces) (length piece) (pieces ++ piece) ≡ piece
    = ap (λ (l : List ℕ). take (length piece) l) (drop_at pieces piece (length pieces) refl) ∙ take_all (length piece) piece (omega arith) in
    let push = past_of-push (pieces ++ piece) calls (Write era at (length pieces) (length piece)) in
    let before : past_of (pieces ++ piece) calls ≡ past_of pieces calls = past_of-more_pieces pieces piece calls le in
    cc

-- what is known where a write is noted
module _ (pieces piece pieces' : List ℕ) (calls calls' : List Call) (era at from : ℕ)
    (there : end_of calls ≤ length pieces) (from_is : from ≡ length pieces) (pieces_are : pieces' ≡ pieces ++ piece)
    (calls_are : calls' ≡ calls ++ Write era at from (length piece) ∷ []) where
  pub noted : past_of pieces' calls' ≡ put era at piece ∷ past_of pieces calls
  noted = let e = past_of-write pieces piece calls era at there in cc

  pub still_there : end_of calls' ≤ length pieces'
  still_there = omega (arith, ap end_of calls_are, end_of-push calls (Write era at from (length piece)), ap length pieces_are, length-append pieces piece)

-- the start of a recording that has written
pub start_of-some : (start : Option (Vec ℕ Global)) (a b : List ℕ) → IsSome start → start_of start a ≡ start_of start b
start_of-some None a b some = elim (false≢true some) [ ]
start_of-some (Some v) a b some = refl

-- after a write, or one that memory didn't allow
pub with_write : {T E : Type 0} (r : Result T E) (start : Option (Vec ℕ Global)) (bytes bytes' pieces pieces' piece : List ℕ) (calls calls' : List Call) (era at : ℕ)
    → IsSome start → IsSound start bytes pieces calls
    → OnOk r (bytes' ≡ written at piece bytes) → OnErr r (bytes' ≡ bytes)
    → OnOk r (past_of pieces' calls' ≡ put era at piece ∷ past_of pieces calls) → OnErr r (past_of pieces' calls' ≡ past_of pieces calls)
    → end_of calls' ≤ length pieces' → IsSound start bytes' pieces' calls'
with_write (Ok x) start bytes bytes' pieces pieces' piece calls calls' era at some sound wrote kept done not_done there = record {
  now = let e = start_of-some start bytes' bytes some in let before = sound.now in
      ap (λ (s : List ℕ). contents s (past_of pieces' calls')) e ∙ ap (contents (start_of start bytes)) done
      ∙ ap (written at piece) before ∙ sym wrote;
  there = there;
}
with_write (Err x) start bytes bytes' pieces pieces' piece calls calls' era at some sound wrote kept done not_done there = record {
  now = let e = start_of-some start bytes' bytes some in
      ap (λ (s : List ℕ). contents s (past_of pieces' calls')) e ∙ ap (contents (start_of start bytes)) not_done
      ∙ sound.now ∙ sym kept;
  there = there;
}

-- after a sync, or one that memory didn't allow to note
pub with_sync : {T E : Type 0} (r : Result T E) (start : Option (Vec ℕ Global)) (bytes pieces : List ℕ) (calls calls' : List Call) (era : ℕ)
    → IsSound start bytes pieces calls → calls' ≡ (if is_ok r then calls ++ Sync era ∷ [] else calls) → IsSound start bytes pieces calls'
with_sync (Ok x) start bytes pieces calls calls' era sound is = record {
  now = ap (λ (l : List Call). contents (start_of start bytes) (past_of pieces l)) is
      ∙ ap (contents (start_of start bytes)) (past_of-push pieces calls (Sync era)) ∙ sound.now;
  there = omega (arith, ap end_of is, end_of-push calls (Sync era), sound.there);
}
with_sync (Err x) start bytes pieces calls calls' era sound is = subst (λ (l : List Call). IsSound start bytes pieces l) (sym is) sound

-- the exit of a `?`
pub on_err : {T E P : Type 0} (r : Result T E) → P → OnErr r P
on_err (Ok x) p = tt
on_err (Err x) p = p
