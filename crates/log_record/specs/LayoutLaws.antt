-- Each record has one spelling of 128 bytes, from which its fields can be read.
use Rattle.std.specs.Prelude.{◌≡◌, ℕ, min, ◌-◌, Some, ◌^◌, ◌<◌, ◌≤◌, List, [], ◌++◌, zero, suc, ◌∷◌, length, take, drop, replicate, refl}
use Rattle.std.specs.List.{AllByRecursion}
use Rattle.std.specs.Int.{w16, w32, w64, to_be_bytes, from_be_bytes}
use Rattle.std.proofs.Common.{sym, ap, ◌∙◌, arith, append_assoc, length-append}
use Rattle.std.proofs.lemmas.List.{take_at, drop_at, length-replicate}
use Rattle.std.proofs.lemmas.Nat.{from_be_bytes-to_be_bytes_2, from_be_bytes-to_be_bytes_4, from_be_bytes-to_be_bytes_8}
use Rattle.log_history.specs.History.{LogEntry, begin, write, commit, abort, reset}
use Rattle.byte_fields.specs.Fields.{padded}
use Rattle.byte_fields.proofs.FieldLemmas.{length-padded}
use Rattle.log_record.specs.Layout.{IsRecord, Fields, blank, fields_of, front, laid, spelling, fields_at, entry_in, length-front}

-- fields that fit their places
pub record FieldsFit (f : Fields) : Type 0 where
  pub space_fits : f.space < 2 ^ 16
  pub txn_fits : f.txn < 2 ^ 32
  pub page_fits : f.page < 2 ^ 32
  pub offset_fits : f.offset < 2 ^ 16
  pub time_fits : f.time < 2 ^ 64
  pub target_fits : f.target < 2 ^ 64
  pub count : length f.bytes ≡ 64
  pub restore_fits : f.restore < 2 ^ 64

same_fields : (f g : Fields) → f.kind ≡ g.kind → f.len ≡ g.len → f.space ≡ g.space → f.txn ≡ g.txn → f.page ≡ g.page
    → f.offset ≡ g.offset → f.time ≡ g.time → f.target ≡ g.target → f.bytes ≡ g.bytes → f.restore ≡ g.restore → f ≡ g
same_fields f g kind len space txn page offset time target bytes restore =
    λ i. record {
      kind = kind i;
      len = len i;
      space = space i;
      txn = txn i;
      page = page i;
      offset = offset i;
      time = time i;
      target = target i;
      bytes = bytes i;
      restore = restore i;
    }

-- what was laid is read
pub fields_at-laid : (f : Fields) → FieldsFit f → fields_at (laid f) ≡ f
unfolding fields_at laid front
fields_at-laid f fit =
    let tail : List ℕ = to_be_bytes w64 f.restore ++ replicate 24 0 in
    let behind : drop 32 (laid f) ≡ f.bytes ++ tail = append_assoc f.bytes (to_be_bytes w64 f.restore) (replicate 24 0) in
    same_fields (fields_at (laid f)) f refl refl
    (from_be_bytes-to_be_bytes_2 f.space fit.space_fits)
    (from_be_bytes-to_be_bytes_4 f.txn fit.txn_fits)
    (from_be_bytes-to_be_bytes_4 f.page fit.page_fits)
    (from_be_bytes-to_be_bytes_2 f.offset fit.offset_fits)
    (from_be_bytes-to_be_bytes_8 f.time fit.time_fits)
    (from_be_bytes-to_be_bytes_8 f.target fit.target_fits)
    (ap (take 64) behind ∙ take_at f.bytes tail 64 fit.count)
    (ap (λ (s : List ℕ). from_be_bytes w64 (take 8 (drop 64 s))) behind ∙ ap (λ (s : List ℕ). from_be_bytes w64 (take 8 s)) (drop_at f.bytes tail 64 fit.count)
    ∙ from_be_bytes-to_be_bytes_8 f.restore fit.restore_fits)

-- a record's fields fit
pub fields_fit : (entry : LogEntry) → IsRecord entry → FieldsFit (fields_of entry)
unfolding fields_of blank
fields_fit (begin txn) ok = record {
  space_fits = omega arith;
  txn_fits = ok.fits;
  page_fits = omega arith;
  offset_fits = omega arith;
  time_fits = omega arith;
  target_fits = omega arith;
  count = refl;
  restore_fits = omega arith;
}
fields_fit (write txn patch) ok = record {
  space_fits = omega (arith, ok.1.space_fits);
  txn_fits = ok.0.fits;
  page_fits = omega (arith, ok.1.page_fits);
  offset_fits = omega (arith, ok.1.within);
  time_fits = omega arith;
  target_fits = omega arith;
  count = length-padded 64 patch.bytes ok.1.few;
  restore_fits = omega arith;
}
fields_fit (commit txn time) ok = record {
  space_fits = omega arith;
  txn_fits = ok.0.fits;
  page_fits = omega arith;
  offset_fits = omega arith;
  time_fits = omega (arith, ok.1);
  target_fits = omega arith;
  count = refl;
  restore_fits = omega arith;
}
fields_fit (abort txn) ok = record {
  space_fits = omega arith;
  txn_fits = ok.fits;
  page_fits = omega arith;
  offset_fits = omega arith;
  time_fits = omega arith;
  target_fits = omega arith;
  count = refl;
  restore_fits = omega arith;
}
fields_fit (reset restore target time) ok = record {
  space_fits = omega arith;
  txn_fits = omega arith;
  page_fits = omega arith;
  offset_fits = omega arith;
  time_fits = omega (arith, ok.3);
  target_fits = omega (arith, ok.2);
  count = refl;
  restore_fits = omega (arith, ok.1);
}

-- what the fields of a record say is the record
entry_in-fields_of : (entry : LogEntry) → IsRecord entry → entry_in (fields_of entry) ≡ Some entry
unfolding fields_of entry_in blank
entry_in-fields_of (begin txn) ok = refl
entry_in-fields_of (write txn patch) ok =
    let whole : take (min (length patch.bytes) 64) (padded 64 patch.bytes) ≡ patch.bytes =
    take_at patch.bytes (replicate (64 - length patch.bytes) 0) (min (length patch.bytes) 64) (omega (arith, ok.1.few)) in
    ap (λ (bytes : List ℕ). Some (write txn (record { space = patch.space; page = patch.page; offset = patch.offset; bytes = bytes }))) whole
entry_in-fields_of (commit txn time) ok = refl
entry_in-fields_of (abort txn) ok = refl
entry_in-fields_of (reset restore target time) ok = refl

-- a record is read from its spelling
pub entry_in-spelling : (entry : LogEntry) → IsRecord entry → entry_in (fields_at (spelling entry)) ≡ Some entry
unfolding spelling
entry_in-spelling entry ok =
    ap entry_in (fields_at-laid (fields_of entry) (fields_fit entry ok)) ∙ entry_in-fields_of entry ok

-- what a slot is read as is the record that it spells
pub entry_is : (slot : List ℕ) (found entry : LogEntry) → entry_in (fields_at slot) ≡ Some found → IsRecord entry → slot ≡ spelling entry → found ≡ entry
entry_is slot found entry read ok spelt =
    let again : Some found ≡ Some entry = sym read ∙ ap (λ (s : List ℕ). entry_in (fields_at s)) spelt ∙ entry_in-spelling entry ok in
    cc

-- two records with one spelling are one
pub one_spelling_of : (a b : LogEntry) → IsRecord a → IsRecord b → spelling a ≡ spelling b → a ≡ b
one_spelling_of a b ok also same = entry_is (spelling a) a b (entry_in-spelling a ok) also same

pub length-spelling : (entry : LogEntry) → IsRecord entry → length (spelling entry) ≡ 128
unfolding spelling laid
length-spelling entry ok =
    let f : Fields = fields_of entry in
    let fit : FieldsFit f = fields_fit entry ok in
    omega (
      arith,
      length-front f,
      fit.count,
      length-append (front f) f.bytes,
      length-append (front f ++ f.bytes) (to_be_bytes w64 f.restore),
      length-append (front f ++ f.bytes ++ to_be_bytes w64 f.restore) (replicate 24 0),
    )

-- a byte has a value below 256
abbrev pub AreBytes : List ℕ → Type 0
AreBytes bytes = AllByRecursion (λ b. b < 256) bytes

AreBytes-append : (xs ys : List ℕ) → AreBytes xs → AreBytes ys → AreBytes (xs ++ ys)
AreBytes-append [] ys first second = second
AreBytes-append (x ∷ xs) ys first second = (first.0, AreBytes-append xs ys first.1 second)

AreBytes-zeros : (n : ℕ) → AreBytes (replicate n 0)
AreBytes-zeros zero = tt
AreBytes-zeros (suc n) = (omega arith, AreBytes-zeros n)

AreBytes-word : (n : ℕ) → AreBytes (to_be_bytes w16 n)
AreBytes-word n = (omega arith, (omega arith, tt))

AreBytes-double : (n : ℕ) → AreBytes (to_be_bytes w32 n)
AreBytes-double n = (omega arith, (omega arith, (omega arith, (omega arith, tt))))

AreBytes-quad : (n : ℕ) → AreBytes (to_be_bytes w64 n)
AreBytes-quad n =
    (omega arith, (omega arith, (omega arith, (omega arith, (omega arith, (omega arith, (omega arith, (omega arith, tt))))))))

AreBytes-front : (f : Fields) → f.kind < 256 → f.len < 256 → AreBytes (front f)
unfolding front
AreBytes-front f kind len =
    let named : List ℕ = f.kind ∷ f.len ∷ [] in
    let to_space : List ℕ = named ++ to_be_bytes w16 f.space in
    let to_txn : List ℕ = to_space ++ to_be_bytes w32 f.txn in
    let to_page : List ℕ = to_txn ++ to_be_bytes w32 f.page in
    let to_offset : List ℕ = to_page ++ to_be_bytes w16 f.offset in
    let to_zeros : List ℕ = to_offset ++ 0 ∷ 0 ∷ [] in
    let to_time : List ℕ = to_zeros ++ to_be_bytes w64 f.time in
    let space : AreBytes to_space = AreBytes-append named (to_be_bytes w16 f.space) (kind, (len, tt)) (AreBytes-word f.space) in
    let txn : AreBytes to_txn = AreBytes-append to_space (to_be_bytes w32 f.txn) space (AreBytes-double f.txn) in
    let page : AreBytes to_page = AreBytes-append to_txn (to_be_bytes w32 f.page) txn (AreBytes-double f.page) in
    let offset : AreBytes to_offset = AreBytes-append to_page (to_be_bytes w16 f.offset) page (AreBytes-word f.offset) in
    let zeros : AreBytes to_zeros = AreBytes-append to_offset (0 ∷ 0 ∷ []) offset (AreBytes-zeros 2) in
    let time : AreBytes to_time = AreBytes-append to_zeros (to_be_bytes w64 f.time) zeros (AreBytes-quad f.time) in
    AreBytes-append to_time (to_be_bytes w64 f.target) time (AreBytes-quad f.target)

AreBytes-laid : (f : Fields) → f.kind < 256 → f.len < 256 → AreBytes f.bytes → AreBytes (laid f)
unfolding laid
AreBytes-laid f kind len bytes =
    let to_bytes : List ℕ = front f ++ f.bytes in
    let to_restore : List ℕ = to_bytes ++ to_be_bytes w64 f.restore in
    let data_bytes : AreBytes to_bytes = AreBytes-append (front f) f.bytes (AreBytes-front f kind len) bytes in
    let restore : AreBytes to_restore = AreBytes-append to_bytes (to_be_bytes w64 f.restore) data_bytes (AreBytes-quad f.restore) in
    AreBytes-append to_restore (replicate 24 0) restore (AreBytes-zeros 24)

AreBytes-padded : (bytes : List ℕ) → AreBytes bytes → AreBytes (padded 64 bytes)
AreBytes-padded bytes each = AreBytes-append bytes (replicate (64 - length bytes) 0) each (AreBytes-zeros (64 - length bytes))

-- a spelling is made of bytes
pub AreBytes-spelling : (entry : LogEntry) → IsRecord entry → AreBytes (spelling entry)
unfolding spelling fields_of blank
AreBytes-spelling (begin txn) ok = AreBytes-laid (fields_of (begin txn)) (omega arith) (omega arith) (AreBytes-zeros 64)
AreBytes-spelling (write txn patch) ok =
    AreBytes-laid (fields_of (write txn patch)) (omega arith) (omega (arith, ok.1.few)) (AreBytes-padded patch.bytes ok.1.each)
AreBytes-spelling (commit txn time) ok = AreBytes-laid (fields_of (commit txn time)) (omega arith) (omega arith) (AreBytes-zeros 64)
AreBytes-spelling (abort txn) ok = AreBytes-laid (fields_of (abort txn)) (omega arith) (omega arith) (AreBytes-zeros 64)
AreBytes-spelling (reset restore target time) ok =
    AreBytes-laid (fields_of (reset restore target time)) (omega arith) (omega arith) (AreBytes-zeros 64)

-- 128 bytes
pub record FillsSlot (bytes : List ℕ) : Type 0 where
  pub count : length bytes ≡ 128
  pub each : AreBytes bytes

pub fills_slot : (entry : LogEntry) → IsRecord entry → FillsSlot (spelling entry)
fills_slot entry ok = record { count = length-spelling entry ok; each = AreBytes-spelling entry ok }
