-- What a slot holds once its fields were written one after another.
use Rattle.std.proofs.Common.{◌≡◌, ℕ, Option, Some, subst, List, ◌++◌, length, replicate, take, drop, refl, sym, ap, ◌∙◌, arith, append_assoc, length-append}
use Rattle.std.proofs.lemmas.List.{take_at, drop_at}
use Rattle.std.specs.Int.{w64, to_be_bytes}
use borrow.Rule.Slice.PartMut.{put_mid}
use Rattle.std.specs.Prelude.{IfSome}
use Rattle.log_history.specs.History.{LogEntry}
use Rattle.log_record.specs.Layout.{IsRecord, Fields, front, laid, length-front, fields_at, entry_in, spelling}
use Rattle.log_record.specs.LayoutLaws.{entry_in-spelling}

-- a write over q leaves what stands before and behind it
put_next : (p q r new : List ℕ) (at k : ℕ) → length p ≡ at → length q ≡ k → put_mid at k (p ++ (q ++ r)) new ≡ p ++ (new ++ r)
put_next p q r new at k before over = rw (take_at p (q ++ r) at before, drop_at p (q ++ r) at before, drop_at q r k over) refl

pub put_laid : (f : Fields) (a b c : List ℕ) → a ≡ front f → b ≡ f.bytes → length b ≡ length (take 64 (drop 32 (a ++ replicate 96 0))) → c ≡ to_be_bytes w64 f.restore
    → put_mid 96 8 (put_mid 32 64 (a ++ replicate 96 0) b) c ≡ laid f
unfolding laid
put_laid f a b c fronts bytes count restore =
    let front_len : length a ≡ 32 = ap length fronts ∙ length-front f in
    let count_is : length b ≡ 64 = count ∙ rw (drop_at a (replicate 96 0) 32 front_len) refl in
    let half_len : length (a ++ b) ≡ 96 = omega (arith, length-append a b) in
    let first : put_mid 32 64 (a ++ replicate 96 0) b ≡ a ++ b ++ replicate 32 0 =
    put_next a (replicate 64 0) (replicate 32 0) b 32 64 front_len refl ∙ sym (append_assoc a b (replicate 32 0)) in
    let second : put_mid 96 8 (a ++ b ++ replicate 32 0) c ≡ a ++ b ++ c ++ replicate 24 0 =
    put_next (a ++ b) (replicate 8 0) (replicate 24 0) c 96 8 half_len refl ∙ sym (append_assoc (a ++ b) c (replicate 24 0)) in
    ap (λ (slot : List ℕ). put_mid 96 8 slot c) first ∙ second ∙ rw (fronts, bytes, restore) refl

-- what is said of the record that a slot is read as is said of the record that it spells
pub read_as : (P : Type 0) (slot : List ℕ) (f : Fields) (entry : LogEntry) → f ≡ fields_at slot → IfSome (entry_in f) (λ e. IsRecord e → P)
    → IsRecord entry → slot ≡ spelling entry → P
read_as P slot f entry read said ok spelt =
    let found : entry_in f ≡ Some entry =
    ap entry_in read ∙ ap (λ (s : List ℕ). entry_in (fields_at s)) spelt ∙ entry_in-spelling entry ok in
    subst (λ (o : Option LogEntry). IfSome o (λ e. IsRecord e → P)) found said ok
