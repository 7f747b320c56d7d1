-- Laws of extents, writes and torn writes, for the layers above.
use Rattle.std.specs.Prelude.{◌≡◌, ℕ, zero, suc, ◌+◌, ◌-◌, ◌<◌, ◌≤◌, max, List, [], ◌∷◌, ◌++◌, length, take, drop, replicate, refl}
use mathlib.Core.Logic.{inl, inr}
use Rattle.std.proofs.Common.{arith, ap, sym, ◌∙◌, ⊎_elim, get_or, append_assoc, length-append, length-drop, add-zero}
use Rattle.std.proofs.lemmas.List.{append-nil, take-append-drop, drop-take, take-take, drop_at, drop-drop, take_at, length-take-le, drop_more, length-replicate, get_or_append_left, get_or-append_right, get_or-take, get_or-drop}
use Rattle.std.proofs.Math.Seq.{take-add}
use Rattle.site_disk.specs.Bytes.{extent, written, filled, Elsewhere, Torn}

-- a range is decided by the bytes up to its end
pub extent-front : (from len : ℕ) (xs : List ℕ) → extent from len xs ≡ drop from (take (from + len) xs)
extent-front from len xs = sym (drop-take from len xs)

pub extent-same_front : (from len n : ℕ) (xs ys : List ℕ) → from + len ≤ n → take n xs ≡ take n ys → extent from len xs ≡ extent from len ys
extent-same_front from len n xs ys le same =
    extent-front from len xs
    ∙ ap (λ (l : List ℕ). drop from l) (sym (take-take (from + len) n xs le) ∙ ap (λ (l : List ℕ). take (from + len) l) same ∙ take-take (from + len) n ys le)
    ∙ sym (extent-front from len ys)

pub drop_past : (n k : ℕ) (xs ys : List ℕ) → length xs ≡ n → drop (n + k) (xs ++ ys) ≡ drop k ys
drop_past n k xs ys is = sym (drop-drop k n (xs ++ ys)) ∙ ap (λ (l : List ℕ). drop k l) (drop_at xs ys n is)

-- a write of no bytes
pub written-nothing : (at : ℕ) (bytes : List ℕ) → written at [] bytes ≡ bytes
written-nothing at bytes =
    ap (λ (n : ℕ). take at bytes ++ [] ++ drop n bytes) (add-zero at)
    ∙ ap (λ (l : List ℕ). l ++ drop at bytes) (append-nil (take at bytes)) ∙ take-append-drop at bytes

module _ (at : ℕ) (piece old : List ℕ) (within : at ≤ length old) where
  length-front : length (take at old ++ piece) ≡ at + length piece
  length-front = omega (arith, length-append (take at old) piece, length-take-le at old within)

  pub take-written : take at (written at piece old) ≡ take at old
  take-written = ap (λ (l : List ℕ). take at l) (append_assoc (take at old) piece (drop (at + length piece) old))
      ∙ take_at (take at old) (piece ++ drop (at + length piece) old) at (length-take-le at old within)

  pub drop-written : (k : ℕ) → drop (at + length piece + k) (written at piece old) ≡ drop (at + length piece + k) old
  drop-written k = drop_past (at + length piece) k (take at old ++ piece) (drop (at + length piece) old) length-front
      ∙ drop-drop k (at + length piece) old

  -- what was written stands at its place
  pub extent-written : extent at (length piece) (written at piece old) ≡ piece
  extent-written = ap (λ (l : List ℕ). take (length piece) (drop at l)) (append_assoc (take at old) piece (drop (at + length piece) old))
      ∙ ap (λ (l : List ℕ). take (length piece) l) (drop_at (take at old) (piece ++ drop (at + length piece) old) at (length-take-le at old within))
      ∙ take_at piece (drop (at + length piece) old) (length piece) refl

  pub length-written : length (written at piece old) ≡ max (length old) (at + length piece)
  length-written = omega (arith, length-append (take at old ++ piece) (drop (at + length piece) old), length-front, length-drop (at + length piece) old)

  -- a whole write is a torn one
  pub torn_whole : Torn at (length piece) old (written at piece old)
  torn_whole = record {
    elsewhere = λ from len apart. ⊎_elim
        (λ before. extent-same_front from len at (written at piece old) old before take-written)
        (λ behind. ap (λ (l : List ℕ). take len l) (from_behind from behind)) apart;
    no_shorter = omega (arith, length-written);
    no_longer = omega (arith, length-written);
  }
    where
      from_behind : (from : ℕ) → at + length piece ≤ from → drop from (written at piece old) ≡ drop from old
      from_behind from le =
          let k = from - (at + length piece) in
          let e : from ≡ at + length piece + k = omega arith in
          ap (λ (n : ℕ). drop n (written at piece old)) e ∙ drop-written k ∙ ap (λ (n : ℕ). drop n old) (sym e)

  -- a byte after it
  module _ (x : ℕ) where
    pub get_or-written_before : x < at → get_or (written at piece old) x 0 ≡ get_or old x 0
    get_or-written_before lt =
        get_or_append_left (take at old ++ piece) (drop (at + length piece) old) 0 x (omega (arith, length-front, lt))
        ∙ get_or_append_left (take at old) piece 0 x (omega (arith, length-take-le at old within, lt))
        ∙ get_or-take at old x 0 lt

    pub get_or-written_within : at ≤ x → x < at + length piece → get_or (written at piece old) x 0 ≡ get_or piece (x - at) 0
    get_or-written_within le lt =
        get_or_append_left (take at old ++ piece) (drop (at + length piece) old) 0 x (omega (arith, length-front, lt))
        ∙ get_or-append_right (take at old) piece at x 0 (length-take-le at old within) le

    pub get_or-written_behind : at + length piece ≤ x → get_or (written at piece old) x 0 ≡ get_or old x 0
    get_or-written_behind le =
        get_or-append_right (take at old ++ piece) (drop (at + length piece) old) (at + length piece) x 0 length-front le
        ∙ get_or-drop (at + length piece) old (x - (at + length piece)) 0
        ∙ ap (λ (k : ℕ). get_or old k 0) (omega (arith, le))

-- a write that leaves all as it was
pub torn_none : (at n : ℕ) (bytes : List ℕ) → Torn at n bytes bytes
torn_none at n bytes = record { elsewhere = λ from len apart. refl; no_shorter = omega arith; no_longer = omega arith }

-- a torn write is one of any wider range
pub torn_wider : (at n from len : ℕ) (old new : List ℕ) → from ≤ at → at + n ≤ from + len → Torn at n old new → Torn from len old new
torn_wider at n from len old new le end torn = record {
  elsewhere = λ place size apart. torn.elsewhere place size (⊎_elim (λ before. inl (omega arith)) (λ behind. inr (omega arith)) apart);
  no_shorter = torn.no_shorter;
  no_longer = omega (arith, torn.no_longer);
}

-- one torn write after another in the same range
pub torn_again : (at n : ℕ) (old mid new : List ℕ) → Torn at n old mid → Torn at n mid new → Torn at n old new
torn_again at n old mid new first second = record {
  elsewhere = λ place size apart. second.elsewhere place size apart ∙ first.elsewhere place size apart;
  no_shorter = omega (arith, first.no_shorter, second.no_shorter);
  no_longer = omega (arith, first.no_longer, second.no_longer);
}

-- all but a range as before

pub elsewhere_same : (at n : ℕ) (bytes : List ℕ) → Elsewhere at n bytes bytes
elsewhere_same at n bytes = λ from len apart. refl

pub elsewhere_again : (at n : ℕ) (old mid new : List ℕ) → Elsewhere at n old mid → Elsewhere at n mid new → Elsewhere at n old new
elsewhere_again at n old mid new first second = λ from len apart. second from len apart ∙ first from len apart

-- of any wider range
pub elsewhere_wider : (at n from len : ℕ) (old new : List ℕ) → from ≤ at → at + n ≤ from + len → Elsewhere at n old new → Elsewhere from len old new
elsewhere_wider at n from len old new le end same =
    λ place size apart. same place size (⊎_elim (λ before. inl (omega (arith, le))) (λ behind. inr (omega (arith, end))) apart)

-- after a write in the range, whole or torn
pub elsewhere_torn : (at n from len : ℕ) (old new : List ℕ) → from ≤ at → at + n ≤ from + len → Torn at n old new → Elsewhere from len old new
elsewhere_torn at n from len old new le end torn = elsewhere_wider at n from len old new le end torn.elsewhere

pub elsewhere_written : (at : ℕ) (piece old : List ℕ) → at ≤ length old → Elsewhere at (length piece) old (written at piece old)
elsewhere_written at piece old within = (torn_whole at piece old within).elsewhere

-- a range within a range
pub extent-extent : (at n from len : ℕ) (bytes : List ℕ) → at + n ≤ len → extent at n (extent from len bytes) ≡ extent (from + at) n bytes
extent-extent at n from len bytes le =
    extent-same_take at n len (drop from bytes) le ∙ ap (λ (l : List ℕ). take n l) (drop-drop at from bytes)
  where
    extent-same_take : (at n len : ℕ) (xs : List ℕ) → at + n ≤ len → extent at n (take len xs) ≡ extent at n xs
    extent-same_take at n len xs le = extent-same_front at n len (take len xs) xs le (take-take len len xs (omega arith))

pub length-extent : (at n : ℕ) (bytes : List ℕ) → at + n ≤ length bytes → length (extent at n bytes) ≡ n
length-extent at n bytes le = length-take-le n (drop at bytes) (omega (arith, length-drop at bytes))

-- a range and the one behind it
pub extent-add : (at m n : ℕ) (xs : List ℕ) → extent at (m + n) xs ≡ extent at m xs ++ extent (at + m) n xs
extent-add at m n xs = take-add m n (drop at xs) ∙ ap (λ (l : List ℕ). take m (drop at xs) ++ take n l) (drop-drop m at xs)

pub extent-one : (at : ℕ) (xs : List ℕ) → at < length xs → extent at 1 xs ≡ get_or xs at 0 ∷ []
extent-one at xs lt = ap (λ (l : List ℕ). take 1 l) (drop_more xs at 0 lt)

-- a shorter range of the same place
pub extent-fewer : (at m n : ℕ) (xs ys : List ℕ) → m ≤ n → extent at n xs ≡ extent at n ys → extent at m xs ≡ extent at m ys
extent-fewer at m n xs ys le same =
    sym (take-take m n (drop at xs) le) ∙ ap (λ (l : List ℕ). take m l) same ∙ take-take m n (drop at ys) le

-- a range about one byte
pub extent-about : (at i r : ℕ) (xs : List ℕ) → at + i < length xs
    → extent at (i + (1 + r)) xs ≡ extent at i xs ++ get_or xs (at + i) 0 ∷ extent (at + i + 1) r xs
extent-about at i r xs lt =
    extent-add at i (1 + r) xs
    ∙ ap (λ (l : List ℕ). extent at i xs ++ l) (extent-add (at + i) 1 r xs ∙ ap (λ (l : List ℕ). l ++ extent (at + i + 1) r xs) (extent-one (at + i) xs lt))

-- bytes that reach a place aren't filled up to it
pub filled_there : (place : ℕ) (bytes : List ℕ) → place ≤ length bytes → filled place bytes ≡ bytes
filled_there place bytes le =
    let none : place - length bytes ≡ 0 = omega (arith, le) in ap (λ (k : ℕ). bytes ++ replicate k 0) none ∙ append-nil bytes

pub length-filled : (place : ℕ) (bytes : List ℕ) → length (filled place bytes) ≡ max place (length bytes)
length-filled place bytes =
    let zeros : List ℕ = replicate (place - length bytes) 0 in
    omega (arith, length-append bytes zeros, length-replicate {A = ℕ} (place - length bytes) 0)

-- one write behind another
pub written-written : (at : ℕ) (front back bytes : List ℕ) → at ≤ length bytes
    → written (at + length front) back (written at front bytes) ≡ written at (front ++ back) bytes
written-written at front back bytes le =
    let start = at + length front in
    let rest = drop start bytes in
    let long : length (take at bytes ++ front) ≡ start = omega (arith, length-append (take at bytes) front, length-take-le at bytes le) in
    ap (λ (l : List ℕ). l ++ back ++ drop (start + length back) (written at front bytes)) (take_at (take at bytes ++ front) rest start long)
    ∙ ap (λ (l : List ℕ). take at bytes ++ front ++ back ++ l) (drop-written at front bytes le (length back))
    ∙ ap (λ (l : List ℕ). l ++ drop (start + length back) bytes) (append_assoc (take at bytes) front back)
    ∙ ap (λ (n : ℕ). take at bytes ++ (front ++ back) ++ drop n bytes) (omega (arith, length-append front back))

-- what stands at a place, written over it, changes nothing
pub written-same : (at : ℕ) (piece bytes : List ℕ) → extent at (length piece) bytes ≡ piece → written at piece bytes ≡ bytes
written-same at piece bytes stands =
    let n = length piece in
    let rest : piece ++ drop (at + n) bytes ≡ drop at bytes =
    ap (λ (l : List ℕ). l ++ drop (at + n) bytes) (sym stands)
    ∙ ap (λ (l : List ℕ). extent at n bytes ++ l) (sym (drop-drop n at bytes))
    ∙ take-append-drop n (drop at bytes) in
    append_assoc (take at bytes) piece (drop (at + n) bytes) ∙ ap (λ (l : List ℕ). take at bytes ++ l) rest ∙ take-append-drop at bytes

-- what a read gives that finds so many bytes
pub read_range : (at n found : ℕ) (bytes read : List ℕ) → found ≡ length (extent at n bytes) → read ≡ extent at found bytes → read ≡ extent at n bytes
read_range at n found bytes read count is = is ∙ ap (λ (k : ℕ). extent at k bytes) count ∙ take-length-take n (drop at bytes)
  where
    take-length-take : (n : ℕ) (xs : List ℕ) → take (length (take n xs)) xs ≡ take n xs
    take-length-take zero xs = refl
    take-length-take (suc n) [] = refl
    take-length-take (suc n) (x ∷ xs) = ap (λ (l : List ℕ). x ∷ l) (take-length-take n xs)
