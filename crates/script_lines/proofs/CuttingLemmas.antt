-- What the search for a line feed and the limits say of the first line among some bytes.
use Rattle.std.proofs.Common.{◌≡◌, ◌≢◌, ℕ, ◌+◌, ◌-◌, ◌<◌, ◌≤◌, List, length, take, drop, get_or, [], ◌++◌, Bool, IsTrue, nat_lt, None, Some, true, false, refl, sym, ap, ◌∙◌, ⊎_elim, arith}
use Rattle.std.proofs.lemmas.Bool.{cases_lt, eq-eqb, eqb-true}
use Rattle.std.proofs.lemmas.Bool.Decides.{nat_tests}
use Rattle.std.proofs.lemmas.List.{append-nil, length-take, length-drop, drop-take, drop-drop, length-take-le, take-take, get_or-take, get_or-drop}
use Rattle.std.proofs.Math.Seq.{take-add}
use Rattle.memchr.specs.Find.{IsFirstByte, is_byte}
use Rattle.script_lines.specs.Cutting.{LinesView, Gains, HasNoLineFeed, IsFrontLine, spelled_len}

HasNoLineFeed-further : (bytes : List ℕ) (searched len : ℕ) → len ≤ length bytes → HasNoLineFeed (take searched bytes)
    → ((k : ℕ) → k < len - searched → get_or (drop searched bytes) k 0 ≢ 10) → searched ≤ length bytes → HasNoLineFeed (take len bytes)
HasNoLineFeed-further bytes searched len within front rest fits k below is =
    let inside : k < len = omega (arith, length-take-le len bytes within) in
    let at : get_or bytes k 0 ≡ 10 = sym (get_or-take len bytes k 0 inside) ∙ is in
    ⊎_elim
    (λ (lt : k < searched). front k (omega (arith, length-take-le searched bytes fits)) (get_or-take searched bytes k 0 lt ∙ at))
    (λ (le : searched ≤ k).
    let place : searched + (k - searched) ≡ k = omega arith in
    rest (k - searched) (omega arith) (get_or-drop searched bytes (k - searched) 0 ∙ ap (λ i. get_or bytes i 0) place ∙ at))
    (cases_lt k searched)

pub IsFrontLine-found : (bytes : List ℕ) (searched at : ℕ) → searched ≤ length bytes → HasNoLineFeed (take searched bytes)
    → IsFirstByte (is_byte 10) (drop searched bytes) (Some at) → IsFrontLine bytes (searched + at) true
IsFrontLine-found bytes searched at fits front found =
    let below : at < length (drop searched bytes) = found.0.high in
    let inside : searched + at < length bytes = omega (arith, length-drop searched bytes) in
    record {
      within = omega arith;
      text = HasNoLineFeed-further bytes searched (searched + at) (omega arith) front
          (λ k lt is. found.0.before k (omega arith) (omega arith) (eq-eqb (get_or (drop searched bytes) k 0) 10 is)) fits;
      ended = λ _. (inside, sym (get_or-drop searched bytes at 0) ∙ eqb-true (get_or (drop searched bytes) at 0) 10 found.1);
      unended = λ (no : true ≡ false). cc;
    }

pub IsFrontLine-whole : (bytes : List ℕ) (searched : ℕ) → searched ≤ length bytes → HasNoLineFeed (take searched bytes)
    → IsFirstByte (is_byte 10) (drop searched bytes) None → IsFrontLine bytes (length bytes) false
IsFrontLine-whole bytes searched fits front found = record {
  within = omega arith;
  text = HasNoLineFeed-further bytes searched (length bytes) (omega arith) front
      (λ k lt is. found k (omega arith) (omega (arith, length-drop searched bytes)) (eq-eqb (get_or (drop searched bytes) k 0) 10 is)) fits;
  ended = λ (no : false ≡ true). cc;
  unended = λ _. refl;
}

-- What a read into the room behind the bytes held leaves. The buffer is `buffer` before it and `read` after it.
module _ (tells : Bool) (old : LinesView) (buffer read whole : List ℕ) (start len : ℕ) (left_before left_after : List ℕ)
    (was : take len (drop start buffer) ≡ old.held) (front : take (start + len) read ≡ take (start + len) buffer) (is : whole ≡ read) where
  held-kept : take len (drop start read) ≡ old.held
  held-kept = sym (drop-take start len read) ∙ ap (λ bytes. drop start bytes) front ∙ drop-take start len buffer ∙ was

  pub held-failed : take (start + len - start) (drop start whole) ≡ old.held
  held-failed =
      let total : start + len - start ≡ len = omega arith in
      ap (λ k. take k (drop start whole)) total ∙ ap (λ bytes. take len (drop start bytes)) is ∙ held-kept

  pub held-read : (n : ℕ) → take (start + len + n - start) (drop start whole) ≡ old.held ++ take n (drop (start + len) read)
  held-read n =
      let total : start + len + n - start ≡ len + n = omega arith in
      ap (λ k. take k (drop start whole)) total ∙ ap (λ bytes. take (len + n) (drop start bytes)) is ∙ take-add len n (drop start read)
      ∙ ap (λ kept. kept ++ take n (drop len (drop start read))) held-kept
      ∙ ap (λ rest. old.held ++ take n rest) (drop-drop len start read)

  pub Gains-failed : (begun : ℕ) → begun ≡ old.begun → left_after ≡ left_before
      → Gains tells old (record { begun = begun; line = []; held = take (start + len - start) (drop start whole) }) left_before left_after
  Gains-failed begun same kept = record {
    got = [];
    held = held-failed ∙ sym (append-nil old.held);
    taken = λ _. sym kept;
    line = refl;
    begun = same;
  }

  pub Gains-read : (begun n : ℕ) → begun ≡ old.begun → (IsTrue tells → left_before ≡ take n (drop (start + len) read) ++ left_after)
      → Gains tells old (record { begun = begun; line = []; held = take (start + len + n - start) (drop start whole) }) left_before left_after
  Gains-read begun n same taken = record {
    got = take n (drop (start + len) read);
    held = held-read n;
    taken = taken;
    line = refl;
    begun = same;
  }

  pub held-at_end : (n : ℕ) → nat_lt 0 n ≡ false → take (start + len + n - start) (drop start whole) ≡ old.held
  held-at_end n none =
      let zero : n ≡ 0 = grind (arith, nat_tests) in
      ap (λ k. take (start + len + k - start) (drop start whole)) zero ∙ held-read 0 ∙ append-nil old.held

pub same_view : (begun begun' : ℕ) (line line' held held' : List ℕ) → begun ≡ begun' → line ≡ line' → held ≡ held'
    → ◌≡◌ {A = LinesView} (record { begun = begun; line = line; held = held }) (record { begun = begun'; line = line'; held = held' })
same_view begun begun' line line' held held' b l h = cc

-- a line cut off the front of the bytes that are held from `start` to `end`
pub take-held : (bytes held : List ℕ) (start end len : ℕ) → take (end - start) (drop start bytes) ≡ held → len ≤ length held
    → take (start + len - start) (drop start bytes) ≡ take len held
take-held bytes held start end len is within =
    let short : len ≤ end - start = omega (arith, length-take (end - start) (drop start bytes), ap length is) in
    let total : start + len - start ≡ len = omega arith in
    ap (λ k. take k (drop start bytes)) total ∙ sym (take-take len (end - start) (drop start bytes) short) ∙ ap (λ front. take len front) is

pub drop-held : (bytes held : List ℕ) (start end len : ℕ) → take (end - start) (drop start bytes) ≡ held → len ≤ length held
    → take (end - (start + len)) (drop (start + len) bytes) ≡ drop len held
drop-held bytes held start end len is within =
    let short : len ≤ end - start = omega (arith, length-take (end - start) (drop start bytes), ap length is) in
    let total : end - start ≡ len + (end - (start + len)) = omega arith in
    sym (ap (λ rest. drop len rest) (sym is ∙ ap (λ k. take k (drop start bytes)) total)
    ∙ drop-take len (end - (start + len)) (drop start bytes)
    ∙ ap (λ rest. take (end - (start + len)) rest) (drop-drop len start bytes))

pub spelled_len-within : (held : List ℕ) (len : ℕ) (is_ended : Bool) → IsFrontLine held len is_ended → spelled_len len is_ended ≤ length held
spelled_len-within held len true front = omega (arith, (front.ended refl).0)
spelled_len-within held len false front = front.within
