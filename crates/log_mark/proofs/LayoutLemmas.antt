-- A mark that is spelled is read again.
use Rattle.std.proofs.Common.{◌≡◌, ℕ, ◌^◌, ◌<◌, ◌≤◌, List, [], ◌∷◌, ◌++◌, length, replicate, Bool, true, false, refl, arith}
use Rattle.std.specs.Int.{w64, to_be_bytes}
use Rattle.std.proofs.lemmas.Nat.{from_be_bytes-to_be_bytes_8}
use Rattle.log_mark.specs.declared.mark.LogMark.{LogMark}
use Rattle.log_mark.specs.Layout.{IsMark, AreBounded, state_byte, front, firsts_bytes, spelling, firsts_at, mark_at}

-- a list of eight numbers
pub eight : (xs : List ℕ) → length xs ≡ 8 → (P : List ℕ → Type 0) → ((a b c d e f g h : ℕ) → P (a ∷ b ∷ c ∷ d ∷ e ∷ f ∷ g ∷ h ∷ [])) → P xs
eight [] is P all = absurd (omega (arith, is))
eight (a ∷ []) is P all = absurd (omega (arith, is))
eight (a ∷ b ∷ []) is P all = absurd (omega (arith, is))
eight (a ∷ b ∷ c ∷ []) is P all = absurd (omega (arith, is))
eight (a ∷ b ∷ c ∷ d ∷ []) is P all = absurd (omega (arith, is))
eight (a ∷ b ∷ c ∷ d ∷ e ∷ []) is P all = absurd (omega (arith, is))
eight (a ∷ b ∷ c ∷ d ∷ e ∷ f ∷ []) is P all = absurd (omega (arith, is))
eight (a ∷ b ∷ c ∷ d ∷ e ∷ f ∷ g ∷ []) is P all = absurd (omega (arith, is))
eight (a ∷ b ∷ c ∷ d ∷ e ∷ f ∷ g ∷ h ∷ []) is P all = all a b c d e f g h
eight (a ∷ b ∷ c ∷ d ∷ e ∷ f ∷ g ∷ h ∷ i ∷ xs) is P all = absurd (omega (arith, is))

-- the numbers that are read
same_marks : (a b : LogMark) → a.current ≡ b.current → a.oldest ≡ b.oldest → a.backed_up_to ≡ b.backed_up_to → a.before ≡ b.before
    → a.is_closed ≡ b.is_closed → a.firsts ≡ b.firsts → a ≡ b
same_marks a b e1 e2 e3 e4 e5 e6 = rw (e1, e2, e3, e4, e5, e6) refl

eight_same : (a b c d e f g h a2 b2 c2 d2 e2 f2 g2 h2 : ℕ) → a ≡ a2 → b ≡ b2 → c ≡ c2 → d ≡ d2 → e ≡ e2 → f ≡ f2 → g ≡ g2 → h ≡ h2
    → a ∷ b ∷ c ∷ d ∷ e ∷ f ∷ g ∷ h ∷ [] ≡ a2 ∷ b2 ∷ c2 ∷ d2 ∷ e2 ∷ f2 ∷ g2 ∷ h2 ∷ []
eight_same a b c d e f g h a2 b2 c2 d2 e2 f2 g2 h2 p1 p2 p3 p4 p5 p6 p7 p8 = cc

closed_is : (is_closed : Bool) (a b c d : ℕ) (rest : List ℕ) → (mark_at (to_be_bytes w64 a ++ to_be_bytes w64 b ++ to_be_bytes w64 c ++ to_be_bytes w64 d ++ state_byte is_closed ∷ [] ++ rest)).is_closed ≡ is_closed
unfolding mark_at
closed_is false a b c d rest = refl
closed_is true a b c d rest = refl

module _ (current oldest backed before : ℕ) (is_closed : Bool) (a b c d e f g h : ℕ) where
  abbrev mark : LogMark
  mark = record {
    current = current;
    oldest = oldest;
    backed_up_to = backed;
    before = before;
    is_closed = is_closed;
    firsts = a ∷ b ∷ c ∷ d ∷ e ∷ f ∷ g ∷ h ∷ [];
  }

  firsts_read : a < 2 ^ 64 → b < 2 ^ 64 → c < 2 ^ 64 → d < 2 ^ 64 → e < 2 ^ 64 → f < 2 ^ 64 → g < 2 ^ 64 → h < 2 ^ 64 → firsts_at (spelling mark) ≡ mark.firsts
  unfolding spelling front firsts_bytes
  firsts_read fa fb fc fd fe ff fg fh = eight_same _ _ _ _ _ _ _ _ a b c d e f g h
      (from_be_bytes-to_be_bytes_8 a fa) (from_be_bytes-to_be_bytes_8 b fb) (from_be_bytes-to_be_bytes_8 c fc) (from_be_bytes-to_be_bytes_8 d fd)
      (from_be_bytes-to_be_bytes_8 e fe) (from_be_bytes-to_be_bytes_8 f ff) (from_be_bytes-to_be_bytes_8 g fg) (from_be_bytes-to_be_bytes_8 h fh)

  pub read_again : current < 2 ^ 64 → oldest < 2 ^ 64 → backed < 2 ^ 64 → before < 2 ^ 64 → firsts_at (spelling mark) ≡ mark.firsts → mark_at (spelling mark) ≡ mark
  unfolding mark_at spelling front firsts_bytes
  read_again f1 f2 f3 f4 firsts = same_marks (mark_at (spelling mark)) mark
      (from_be_bytes-to_be_bytes_8 current f1) (from_be_bytes-to_be_bytes_8 oldest f2) (from_be_bytes-to_be_bytes_8 backed f3) (from_be_bytes-to_be_bytes_8 before f4)
      (closed_is is_closed current oldest backed before (replicate 7 0 ++ firsts_bytes mark.firsts ++ replicate 151 0)) firsts

-- numbers up to 2^48 have 64 bits
small : (n : ℕ) → n ≤ 2 ^ 48 → n < 2 ^ 64
small n le = omega (arith, le)

-- a mark is read from its spelling
pub mark_at-spelling : (mark : LogMark) → IsMark mark → mark_at (spelling mark) ≡ mark
mark_at-spelling mark ok =
    eight mark.firsts ok.places
    (λ (firsts : List ℕ). AreBounded firsts → mark_at (spelling (record mark { firsts = firsts })) ≡ record mark { firsts = firsts })
    (λ a b c d e f g h bounded.
    read_again mark.current mark.oldest mark.backed_up_to mark.before mark.is_closed a b c d e f g h
    (small mark.current ok.bounded) (omega (arith, ok.held, ok.bounded)) (omega (arith, ok.backed, ok.bounded)) (small mark.before ok.before)
    (firsts_read mark.current mark.oldest mark.backed_up_to mark.before mark.is_closed a b c d e f g h
    (small a (bounded 0 0 (omega arith))) (small b (bounded 1 0 (omega arith))) (small c (bounded 2 0 (omega arith))) (small d (bounded 3 0 (omega arith))) (small e (bounded 4 0 (omega arith))) (small f (bounded 5 0 (omega arith))) (small g (bounded 6 0 (omega arith))) (small h (bounded 7 0 (omega arith)))))
    ok.firsts
