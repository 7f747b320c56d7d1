-- How a script is cut whose first bytes have no line feed.
use Rattle.std.proofs.Common.{◌≡◌, ◌≢◌, ℕ, suc, List, [], ◌∷◌, ◌++◌, true, false, refl, ap, ◌∙◌, arith}
use Rattle.std.proofs.lemmas.Bool.{ne_eqb}
use Rattle.onbar_grammar.specs.Script.{Raw, raw_lines, with_first}
use Rattle.script_lines.specs.Cutting.{HasNoLineFeed}

HasNoLineFeed-tail : (byte : ℕ) (bytes : List ℕ) → HasNoLineFeed (byte ∷ bytes) → HasNoLineFeed bytes
HasNoLineFeed-tail byte bytes none k below = none (suc k) (omega arith)

-- a byte that is no line feed goes before the first line
raw_lines-cons : (byte : ℕ) (bytes : List ℕ) → byte ≢ 10 → raw_lines (byte ∷ bytes) ≡ with_first byte (raw_lines bytes)
raw_lines-cons byte bytes ne = rw (ne_eqb byte 10 ne)

pub raw_lines-ended : (text rest : List ℕ) → HasNoLineFeed text
    → raw_lines (text ++ 10 ∷ rest) ≡ record { text = text; is_ended = true } ∷ raw_lines rest
raw_lines-ended [] rest none = refl
raw_lines-ended (byte ∷ text) rest none =
    raw_lines-cons byte (text ++ 10 ∷ rest) (none 0 (omega arith))
    ∙ ap (λ lines. with_first byte lines) (raw_lines-ended text rest (HasNoLineFeed-tail byte text none))

pub raw_lines-unended : (byte : ℕ) (text : List ℕ) → HasNoLineFeed (byte ∷ text)
    → raw_lines (byte ∷ text) ≡ record { text = byte ∷ text; is_ended = false } ∷ []
raw_lines-unended byte [] none = raw_lines-cons byte [] (none 0 (omega arith))
raw_lines-unended byte (second ∷ text) none =
    raw_lines-cons byte (second ∷ text) (none 0 (omega arith))
    ∙ ap (λ lines. with_first byte lines) (raw_lines-unended second text (HasNoLineFeed-tail byte (second ∷ text) none))

-- the first line of a script begins with this text
pub record Begins (text script : List ℕ) : Type 0 where
  pub raw : Raw
  pub others : List Raw
  pub lines : raw_lines script ≡ raw ∷ others
  pub further : List ℕ
  pub is : raw.text ≡ text ++ further

Begins-with_first : (byte : ℕ) (script : List ℕ) → byte ≢ 10 → (lines : List Raw) → raw_lines script ≡ lines → Begins (byte ∷ []) (byte ∷ script)
Begins-with_first byte script ne [] is = record {
  raw = record { text = byte ∷ []; is_ended = false };
  others = [];
  lines = raw_lines-cons byte script ne ∙ ap (λ lines. with_first byte lines) is;
  further = [];
  is = refl;
}
Begins-with_first byte script ne (line ∷ lines) is = record {
  raw = record { text = byte ∷ line.text; is_ended = line.is_ended };
  others = lines;
  lines = raw_lines-cons byte script ne ∙ ap (λ lines. with_first byte lines) is;
  further = line.text;
  is = refl;
}

-- bytes with no line feed are the front of the first line, whatever follows them
pub raw_lines-begins : (byte : ℕ) (text more : List ℕ) → HasNoLineFeed (byte ∷ text) → Begins (byte ∷ text) (byte ∷ text ++ more)
raw_lines-begins byte [] more none = Begins-with_first byte more (none 0 (omega arith)) (raw_lines more) refl
raw_lines-begins byte (second ∷ text) more none =
    let later = raw_lines-begins second text more (HasNoLineFeed-tail byte (second ∷ text) none) in
    record {
      raw = record { text = byte ∷ later.raw.text; is_ended = later.raw.is_ended };
      others = later.others;
      lines = raw_lines-cons byte (second ∷ text ++ more) (none 0 (omega arith)) ∙ ap (λ lines. with_first byte lines) later.lines;
      further = later.further;
      is = ap (λ rest. byte ∷ rest) later.is;
    }
