-- The block of an image's head.
use Rattle.std.proofs.Common.{◌≡◌, ℕ, ◌+◌, ◌-◌, ◌^◌, ◌<◌, ◌≤◌, List, ◌++◌, length, take, drop, replicate, All, refl, sym, ap, ◌∙◌, arith}
use Rattle.std.proofs.lemmas.List.{take-append-drop, take_at, drop_at, length-drop}
use Rattle.std.proofs.lemmas.Nat.{from_be_bytes-to_be_bytes_2, from_be_bytes-to_be_bytes_8}
use Rattle.byte_fields.specs.Fields.{field}
use Rattle.byte_fields.proofs.FieldLemmas.{replicate-zeros, zeros-replicate}
use Rattle.level_archive.specs.declared.head.ImageHead.{ImageHead}
use Rattle.level_archive.specs.Image.{IsImageHead, front, head_at, head_bytes}
use Rattle.level_archive.specs.BlockLaws.{length-front}

module _ (head : ImageHead) (named block : List ℕ) (is : named ≡ front head) where
  size : length named ≡ 32
  size = ap length is ∙ length-front head

  -- the named bytes and zeros are the head's block, and no others
  pub is_head : length block ≡ 4096 → field 0 (length named) block ≡ named → All (λ byte. byte ≡ 0) (drop 32 block) → block ≡ head_bytes head
  unfolding head_bytes
  is_head long fields zeros =
      let behind : drop 32 block ≡ replicate {A = ℕ} 4064 0 = replicate-zeros 4064 (drop 32 block) (omega (arith, length-drop 32 block)) zeros in
      let before : take 32 block ≡ front head = ap (λ (n : ℕ). take n block) (sym size) ∙ fields ∙ is in
      sym (take-append-drop 32 block) ∙ ap (λ (l : List ℕ). l ++ drop 32 block) before ∙ ap (λ (l : List ℕ). front head ++ l) behind

  pub named-head : block ≡ head_bytes head → field 0 (length named) block ≡ named
  unfolding head_bytes
  named-head spelt =
      ap (λ (n : ℕ). take n block) size ∙ ap (take 32) spelt ∙ take_at (front head) (replicate {A = ℕ} 4064 0) 32 (length-front head) ∙ sym is

pub zeros-head : (head : ImageHead) (block : List ℕ) → block ≡ head_bytes head → All (λ byte. byte ≡ 0) (drop 32 block)
unfolding head_bytes
zeros-head head block is =
    zeros-replicate 4064 (drop 32 block) (ap (drop 32) is ∙ drop_at (front head) (replicate {A = ℕ} 4064 0) 32 (length-front head))

-- written part by part
pub written_head : (head : ImageHead) (named first second : List ℕ) → named ≡ front head → length first ≡ 4096 → take (0 + length named) first ≡ named
    → second ≡ take 32 first ++ replicate (length first - 32) 0 → second ≡ head_bytes head
unfolding head_bytes
written_head head named first second is long written zeros =
    let size : 0 + length named ≡ 32 = omega (arith, ap length is, length-front head) in
    let rest : length first - 32 ≡ 4064 = omega (arith, long) in
    zeros ∙ ap (λ (n : ℕ). take 32 first ++ replicate {A = ℕ} n 0) rest
    ∙ ap (λ (l : List ℕ). l ++ replicate {A = ℕ} 4064 0) (ap (λ (n : ℕ). take n first) (sym size) ∙ written ∙ is)

same_heads : (a b : ImageHead) → a.site ≡ b.site → a.space ≡ b.space → a.level ≡ b.level → a.at ≡ b.at → a.base ≡ b.base → a ≡ b
same_heads a b e1 e2 e3 e4 e5 = rw (e1, e2, e3, e4, e5) refl

small : (n : ℕ) → n ≤ 2 ^ 48 → n < 2 ^ 64
small n le = omega (arith, le)

-- a head is read from its block
pub head_at-head_bytes : (head : ImageHead) → IsImageHead head → head_at (head_bytes head) ≡ head
unfolding head_at head_bytes front
head_at-head_bytes head is =
    same_heads (head_at (head_bytes head)) head (from_be_bytes-to_be_bytes_8 head.site is.site) (from_be_bytes-to_be_bytes_2 head.space is.space) refl
    (from_be_bytes-to_be_bytes_8 head.at (small head.at is.at)) (from_be_bytes-to_be_bytes_8 head.base (small head.base is.base))
