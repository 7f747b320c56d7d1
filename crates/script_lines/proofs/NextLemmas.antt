-- What the first line among the bytes held says of the script that goes on behind them.
use Rattle.std.proofs.Common.{◌≡◌, ◌≢◌, ℕ, ◌+◌, ◌<◌, ◌≤◌, List, [], ◌∷◌, ◌++◌, length, take, drop, Bool, true, false, IsTrue, None, Some, Err, refl, sym, ap, subst, ◌∙◌, arith}
use Rattle.std.proofs.lemmas.Bool.Decides.{nat_tests}
use Rattle.std.proofs.lemmas.List.{append_assoc, append-nil, length-append, length-take-le, length_push, take-append-drop, take_all, drop_all, drop_more}
use Rattle.onbar_grammar.specs.declared.Why.{Why}
use Rattle.onbar_grammar.specs.Script.{Raw, spelled, raw_lines, line_fault}
use Rattle.script_lines.specs.Cutting.{LinesView, Gains, HasNoLineFeed, CutsLine, IsFrontLine, PassesLimit, first_fault, spelled_len, fault_at}
use Rattle.script_lines.specs.declared.cutting.LineFault.{LineFault}
use Rattle.script_lines.specs.declared.cutting.LineFault.TheVariants.{Failed, TooLong, ScriptTooLong, OutOfMemory}
use Rattle.script_lines.specs.Fault.{Explains, Finds}
use Rattle.script_lines.proofs.ScriptLemmas.{raw_lines-ended, raw_lines-unended, raw_lines-begins}

-- a line whose line feed is among the bytes held
module _ (held left before : List ℕ) (len : ℕ) (front : IsFrontLine held len true) (is : before ≡ held ++ left) where
  line_bytes : held ≡ take len held ++ 10 ∷ drop (len + 1) held
  line_bytes =
      let feed = front.ended refl in
      sym (take-append-drop len held)
      ∙ ap (λ rest. take len held ++ rest) (drop_more held len 0 feed.0 ∙ ap (λ byte. byte ∷ drop (len + 1) held) feed.1)

  script_bytes : before ≡ take len held ++ 10 ∷ (drop (len + 1) held ++ left)
  script_bytes = is ∙ ap (λ bytes. bytes ++ left) line_bytes ∙ append_assoc (take len held) (10 ∷ drop (len + 1) held) left

  ended_lines : raw_lines before ≡ record { text = take len held; is_ended = true } ∷ raw_lines (drop (len + 1) held ++ left)
  ended_lines = ap raw_lines script_bytes ∙ raw_lines-ended (take len held) (drop (len + 1) held ++ left) front.text

  ended_len : length (take len held) ≡ len
  ended_len = length-take-le len held front.within

  ended_bytes_len : length (take len held ++ 10 ∷ []) ≡ len + 1
  ended_bytes_len = length_push (take len held) 10 ∙ ap (λ n. n + 1) ended_len

  ended_fault : (begun : ℕ) → line_fault begun (record { text = take len held; is_ended = true }) ≡ fault_at begun len (len + 1)
  ended_fault begun =
      ap (λ n. fault_at begun n (length (take len held ++ 10 ∷ []))) ended_len ∙ ap (λ n. fault_at begun len n) ended_bytes_len

-- the rest of a script, which no line feed ends
raw_lines-rest : (held : List ℕ) → HasNoLineFeed held → 0 < length held → raw_lines held ≡ record { text = held; is_ended = false } ∷ []
raw_lines-rest [] none some = absurd (omega arith)
raw_lines-rest (byte ∷ text) none some = raw_lines-unended byte text none

HasNoLineFeed-whole : (held : List ℕ) (len : ℕ) → IsFrontLine held len false → HasNoLineFeed held
HasNoLineFeed-whole held len front = subst HasNoLineFeed (take_all len held (omega (arith, front.unended refl))) front.text

pub CutsLine-cut : (old found : LinesView) (left before : List ℕ) (len : ℕ) (is_ended : Bool) → IsFrontLine found.held len is_ended
    → (is_ended ≡ false → left ≡ []) → fault_at found.begun len (spelled_len len is_ended) ≡ None → spelled_len len is_ended ≢ 0
    → before ≡ found.held ++ left → found.begun ≡ old.begun
    → CutsLine old
    (record { begun = found.begun + spelled_len len is_ended; line = take len found.held; held = drop (spelled_len len is_ended) found.held })
    before (drop (spelled_len len is_ended) found.held ++ left)
CutsLine-cut old found left before len true front at_end within some is same = record {
  raw = record { text = take len found.held; is_ended = true };
  lines = ended_lines found.held left before len front is;
  spelling = script_bytes found.held left before len front is
      ∙ sym (append_assoc (take len found.held) (10 ∷ []) (drop (len + 1) found.held ++ left));
  text = refl;
  within = ended_fault found.held left before len front is old.begun ∙ ap (λ begun. fault_at begun len (len + 1)) (sym same) ∙ within;
  begun = ap (λ begun. begun + (len + 1)) same ∙ ap (λ n. old.begun + n) (sym (ended_bytes_len found.held left before len front is));
}
CutsLine-cut old found left before len false front at_end within some is same =
    let whole : len ≡ length found.held = front.unended refl in
    let text : take len found.held ≡ found.held = take_all len found.held (omega arith) in
    let rest : before ≡ found.held = is ∙ ap (λ bytes. found.held ++ bytes) (at_end refl) ∙ append-nil found.held in
    let none : drop len found.held ++ left ≡ [] =
    ap (λ bytes. drop len found.held ++ bytes) (at_end refl) ∙ append-nil (drop len found.held) ∙ drop_all len found.held (omega arith) in
    let lines : raw_lines found.held ≡ record { text = found.held; is_ended = false } ∷ [] =
    raw_lines-rest found.held (HasNoLineFeed-whole found.held len front) (omega arith) in
    let the_rest : List ℕ → List Raw → List Raw = λ bytes more. record { text = bytes; is_ended = false } ∷ more in
    let bytes_len : length (take len found.held ++ []) ≡ len = ap length (append-nil (take len found.held) ∙ text) ∙ sym whole in
    record {
      raw = record { text = take len found.held; is_ended = false };
      lines = ap raw_lines rest ∙ lines
          ∙ ap (λ bytes. the_rest bytes []) (sym text) ∙ ap (λ more. the_rest (take len found.held) (raw_lines more)) (sym none);
      spelling = rest ∙ sym (ap (λ more. (take len found.held ++ []) ++ more) none ∙ append-nil (take len found.held ++ [])
          ∙ append-nil (take len found.held) ∙ text);
      text = refl;
      within = ap (λ n. fault_at old.begun n (length (take len found.held ++ []))) (ap length text ∙ sym whole)
          ∙ ap (λ n. fault_at old.begun len n) bytes_len ∙ ap (λ begun. fault_at begun len len) (sym same) ∙ within;
      begun = ap (λ begun. begun + len) same ∙ ap (λ n. old.begun + n) (sym bytes_len);
    }

-- what bytes with no line feed pass, the line passes that they begin
fault_at-further : (begun len text_len bytes_len : ℕ) (why : Why) → fault_at begun len len ≡ Some why → len ≤ text_len → text_len ≤ bytes_len
    → fault_at begun text_len bytes_len ≡ Some why
fault_at-further begun len text_len bytes_len why fault text bytes = grind (arith, nat_tests)

text_len-le : (raw : Raw) → length raw.text ≤ length (spelled raw)
text_len-le raw = omega (arith, length-append {A = ℕ})

first_fault-partial : (begun : ℕ) (held left : List ℕ) (why : Why) → HasNoLineFeed held → begun ≤ 16777216
    → fault_at begun (length held) (length held) ≡ Some why → first_fault begun (raw_lines (held ++ left)) ≡ Some why
first_fault-partial begun [] left why none small fault = absurd (grind (arith, nat_tests))
first_fault-partial begun (byte ∷ text) left why none small fault =
    let first = raw_lines-begins byte text left none in
    let longer : length (byte ∷ text) ≤ length first.raw.text = omega (arith, ap length first.is, length-append (byte ∷ text) first.further) in
    ap (λ lines. first_fault begun lines) first.lines
    ∙ fault_at-further begun (length (byte ∷ text)) (length first.raw.text) (length (spelled first.raw)) why fault longer (text_len-le first.raw)

first_fault-front : (begun : ℕ) (held left before : List ℕ) (why : Why) (len : ℕ) (is_ended : Bool) → IsFrontLine held len is_ended
    → fault_at begun len (spelled_len len is_ended) ≡ Some why → before ≡ held ++ left → begun ≤ 16777216
    → first_fault begun (raw_lines before) ≡ Some why
first_fault-front begun held left before why len true front fault is small =
    ap (λ lines. first_fault begun lines) (ended_lines held left before len front is) ∙ ended_fault held left before len front is begun ∙ fault
first_fault-front begun held left before why len false front fault is small =
    ap (λ bytes. first_fault begun (raw_lines bytes)) is
    ∙ first_fault-partial begun held left why (HasNoLineFeed-whole held len front) small
    (ap (λ n. fault_at begun n n) (sym (front.unended refl)) ∙ fault)

first_fault-PassesLimit : (lines : LinesView) (left before : List ℕ) (why : Why) → PassesLimit lines why → before ≡ lines.held ++ left
    → lines.begun ≤ 16777216 → first_fault lines.begun (raw_lines before) ≡ Some why
first_fault-PassesLimit lines left before why passes is small =
    first_fault-front lines.begun lines.held left before why passes.len passes.is_ended passes.front passes.fault is small

pub Finds-Explains : (lines : LinesView) (left before : List ℕ) (faults faults' : ℕ) (fault : LineFault) → Explains lines faults faults' fault
    → before ≡ lines.held ++ left → lines.begun ≤ 16777216 → Finds (Err fault) (first_fault lines.begun (raw_lines before))
Finds-Explains lines left before faults faults' Failed cause is small = tt
Finds-Explains lines left before faults faults' TooLong cause is small = first_fault-PassesLimit lines left before _ cause is small
Finds-Explains lines left before faults faults' ScriptTooLong cause is small = first_fault-PassesLimit lines left before _ cause is small
Finds-Explains lines left before faults faults' OutOfMemory cause is small = tt

-- what comes moves from the source to the bytes held
pub uncut-Gains : (tells : Bool) (old new : LinesView) (held left left' : List ℕ) → Gains tells old new left left' → IsTrue tells
    → old.held ≡ held → held ++ left ≡ new.held ++ left'
uncut-Gains tells old new held left left' gains told same =
    ap (λ bytes. held ++ bytes) (gains.taken told) ∙ sym (append_assoc held gains.got left')
    ∙ sym (ap (λ bytes. bytes ++ left') (gains.held ∙ ap (λ bytes. bytes ++ gains.got) same))
