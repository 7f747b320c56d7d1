-- A state that is spelled is read again.
use Rattle.std.proofs.Common.{◌≡◌, ℕ, zero, suc, ◌^◌, ◌<◌, ◌≤◌, List, [], ◌∷◌, ◌++◌, length, replicate, Some, refl, arith, ap, sym, subst, ◌∙◌}
use Rattle.std.specs.List.{AllByRecursion}
use Rattle.std.specs.Int.{w32, w64, to_be_bytes}
use Rattle.std.proofs.lemmas.Nat.{from_be_bytes-to_be_bytes_4, from_be_bytes-to_be_bytes_8}
use Rattle.backup_lines.specs.declared.lanes.Chain.{Chain}
use Rattle.backup_lines.specs.declared.lanes.LaneState.{LaneState}
use Rattle.backup_lines.specs.declared.lanes.LaneState.TheVariants.{At, Blank, Image, Replay}
use Rattle.lane_mark.specs.declared.fields.Fields.{Fields}
use Rattle.lane_mark.specs.Layout.{FitsState, FitsChain, front, copies_bytes, spelled, spelling, raw_of, fields_at, state_with, no_chain}

abbrev chain_with : ℕ → ℕ → ℕ → ℕ → Chain
chain_with len a b c = record { len = len; copies = a ∷ b ∷ c ∷ [] }

-- a chain by the number of its copy ids, those past its length being 0
record ByLength (P : Chain → Type 0) : Type 0 where
  one : (a : ℕ) → a ≤ 2 ^ 48 → P (chain_with 1 a 0 0)
  two : (a b : ℕ) → a ≤ 2 ^ 48 → b ≤ 2 ^ 48 → P (chain_with 2 a b 0)
  three : (a b c : ℕ) → a ≤ 2 ^ 48 → b ≤ 2 ^ 48 → c ≤ 2 ^ 48 → P (chain_with 3 a b c)

module _ (P : Chain → Type 0) (by : ByLength P) where
  by_copies : (len : ℕ) (copies : List ℕ) → FitsChain (record { len = len; copies = copies }) → P (record { len = len; copies = copies })
  by_copies zero copies fits = absurd (omega (arith, fits.some))
  by_copies (suc len) [] fits = absurd (omega (arith, fits.places))
  by_copies (suc len) (a ∷ []) fits = absurd (omega (arith, fits.places))
  by_copies (suc len) (a ∷ b ∷ []) fits = absurd (omega (arith, fits.places))
  by_copies (suc zero) (a ∷ b ∷ c ∷ []) fits =
      subst (λ (n : ℕ). P (chain_with 1 a b n)) (sym fits.none_past.1.0) (subst (λ (n : ℕ). P (chain_with 1 a n 0)) (sym fits.none_past.0) (by.one a fits.each.0))
  by_copies (suc (suc zero)) (a ∷ b ∷ c ∷ []) fits = subst (λ (n : ℕ). P (chain_with 2 a b n)) (sym fits.none_past.0) (by.two a b fits.each.0 fits.each.1.0)
  by_copies (suc (suc (suc zero))) (a ∷ b ∷ c ∷ []) fits = by.three a b c fits.each.0 fits.each.1.0 fits.each.1.1.0
  by_copies (suc (suc (suc (suc len)))) (a ∷ b ∷ c ∷ []) fits = absurd (omega (arith, fits.few))
  by_copies (suc len) (a ∷ b ∷ c ∷ d ∷ copies) fits = absurd (omega (arith, fits.places))

  by_length : (chain : Chain) → FitsChain chain → P chain
  by_length chain fits = by_copies chain.len chain.copies fits

-- the bytes of fields
unfoldable pub raw : Fields → List ℕ
raw fields = front fields ++ copies_bytes fields.chain.copies ++ replicate 199 0

-- a state is spelled by its fields
pub raw-spelling : (state : LaneState) → FitsState state → raw (raw_of state) ≡ spelling state
unfolding raw front copies_bytes spelled
raw-spelling (At upto part) fits = refl
raw-spelling (Blank restore) fits = refl
raw-spelling (Image restore chain image entries) fits =
    by_length (λ (k : Chain). raw (raw_of (Image restore k image entries)) ≡ spelling (Image restore k image entries))
    (record { one = λ a la. refl; two = λ a b la lb. refl; three = λ a b c la lb lc. refl }) chain fits.1
raw-spelling (Replay restore chain upto part) fits =
    by_length (λ (k : Chain). raw (raw_of (Replay restore k upto part)) ≡ spelling (Replay restore k upto part))
    (record { one = λ a la. refl; two = λ a b la lb. refl; three = λ a b c la lb lc. refl }) chain fits.1

-- the numbers that are read

same_chains : (len a b c a2 b2 c2 : ℕ) → a ≡ a2 → b ≡ b2 → c ≡ c2 → chain_with len a b c ≡ chain_with len a2 b2 c2
same_chains len a b c a2 b2 c2 p q r = cc

same_fields : (f g : Fields) → f.kind ≡ g.kind → f.chain ≡ g.chain → f.image ≡ g.image → f.entries ≡ g.entries → f.restore ≡ g.restore → f.upto ≡ g.upto → f.part ≡ g.part → f ≡ g
same_fields f g e1 e2 e3 e4 e5 e6 e7 = rw (e1, e2, e3, e4, e5, e6, e7) refl

module _ (kind len image entries restore upto part a b c : ℕ) where
  abbrev fields : Fields
  fields = record { kind = kind; chain = chain_with len a b c; image = image; entries = entries; restore = restore; upto = upto; part = part }

  read_again : entries < 2 ^ 32 → restore ≤ 2 ^ 48 → upto ≤ 2 ^ 48 → part < 2 ^ 32 → a ≤ 2 ^ 48 → b ≤ 2 ^ 48 → c ≤ 2 ^ 48 → fields_at (raw fields) ≡ fields
  unfolding fields_at raw front copies_bytes
  read_again fe fr fu fp fa fb fc = same_fields (fields_at (raw fields)) fields refl
      (same_chains len _ _ _ a b c (from_be_bytes-to_be_bytes_8 a (omega arith)) (from_be_bytes-to_be_bytes_8 b (omega arith)) (from_be_bytes-to_be_bytes_8 c (omega arith))) refl
      (from_be_bytes-to_be_bytes_4 entries fe) (from_be_bytes-to_be_bytes_8 restore (omega arith)) (from_be_bytes-to_be_bytes_8 upto (omega arith)) (from_be_bytes-to_be_bytes_4 part fp)

fields_at-raw : (state : LaneState) → FitsState state → fields_at (raw (raw_of state)) ≡ raw_of state
fields_at-raw (At upto part) fits = read_again 1 0 0 0 0 upto part 0 0 0 (omega arith) (omega arith) fits.upto_fits fits.part_fits (omega arith) (omega arith) (omega arith)
fields_at-raw (Blank restore) fits = read_again 2 0 0 0 restore 0 0 0 0 0 (omega arith) fits.fits (omega arith) (omega arith) (omega arith) (omega arith) (omega arith)
fields_at-raw (Image restore chain image entries) fits =
    by_length (λ (k : Chain). fields_at (raw (raw_of (Image restore k image entries))) ≡ raw_of (Image restore k image entries))
    (record {
      one = λ a la. read_again 3 1 image entries restore 0 0 a 0 0 fits.2.entries_fit fits.0.fits (omega arith) (omega arith) la (omega arith) (omega arith);
      two = λ a b la lb. read_again 3 2 image entries restore 0 0 a b 0 fits.2.entries_fit fits.0.fits (omega arith) (omega arith) la lb (omega arith);
      three = λ a b c la lb lc. read_again 3 3 image entries restore 0 0 a b c fits.2.entries_fit fits.0.fits (omega arith) (omega arith) la lb lc;
    }) chain fits.1
fields_at-raw (Replay restore chain upto part) fits =
    by_length (λ (k : Chain). fields_at (raw (raw_of (Replay restore k upto part))) ≡ raw_of (Replay restore k upto part))
    (record {
      one = λ a la. read_again 4 1 0 0 restore upto part a 0 0 (omega arith) fits.0.fits fits.2.upto_fits fits.2.part_fits la (omega arith) (omega arith);
      two = λ a b la lb. read_again 4 2 0 0 restore upto part a b 0 (omega arith) fits.0.fits fits.2.upto_fits fits.2.part_fits la lb (omega arith);
      three = λ a b c la lb lc. read_again 4 3 0 0 restore upto part a b c (omega arith) fits.0.fits fits.2.upto_fits fits.2.part_fits la lb lc;
    }) chain fits.1

state_with-raw : (state : LaneState) → state_with (raw_of state) ≡ Some state
state_with-raw (At upto part) = refl
state_with-raw (Blank restore) = refl
state_with-raw (Image restore chain image entries) = refl
state_with-raw (Replay restore chain upto part) = refl

-- a state is read from its spelling
pub state_at-spelling : (state : LaneState) (bytes : List ℕ) → FitsState state → bytes ≡ spelling state → state_with (fields_at bytes) ≡ Some state
state_at-spelling state bytes fits is =
    ap (λ (b : List ℕ). state_with (fields_at b)) (is ∙ sym (raw-spelling state fits)) ∙ ap state_with (fields_at-raw state fits) ∙ state_with-raw state
