-- A number's spelling is the one that std writes.
use Rattle.std.proofs.Common.{◌≡◌, ℕ, ◌+◌, ◌-◌, ◌*◌, ◌^◌, ◌<◌, List, [], ◌∷◌, length, get_or, Bool, true, false, ◌==◌, None, Some, refl, sym, ap, subst, ◌∙◌, inl, inr, arith}
use Rattle.std.specs.Prelude.{◌↔◌, if◌then◌else◌}
use Rattle.std.proofs.lemmas.Bool.{and_parts, cases_eq, ne_eqb, eqb-false}
use Rattle.std.proofs.lemmas.Fmt.{decimal_digit, decimal_nonempty, first_decimal, digits_decimal, digits_value-decimal, decimal-digits_value}
use Rattle.std.proofs.lemmas.Str.Parse.{FoldsDigits, IsNumeralModel, numerals_by_fold, tells_all_ascii_digits}
use Rattle.std.specs.Char.{is_ascii_digit}
use Rattle.std.specs.Str.{all_ascii_digits}
use Rattle.std.specs.Fmt.{decimal}
use Rattle.onbar_grammar.specs.Numbers.{digits_value, number}

-- the number that digits write behind those before them
abbrev read_on : ℕ → List ℕ → ℕ
read_on before [] = before
read_on before (digit ∷ digits) = read_on (before * 10 + (digit - 48)) digits

abbrev AreDigits : List ℕ → Type 0
AreDigits word = all_ascii_digits word ≡ true

-- std's laws of numerals, for these two words
folds : FoldsDigits read_on
folds = record { empty = λ n. refl; more = λ n c cs digit. refl }

numerals : IsNumeralModel AreDigits (read_on 0)
numerals = numerals_by_fold AreDigits tells_all_ascii_digits read_on folds

digits_value-digits : (before : ℕ) (word : List ℕ) → AreDigits word → digits_value before word ≡ Some (read_on before word)
digits_value-digits before [] are = refl
digits_value-digits before (digit ∷ digits) are =
    let parts = and_parts (is_ascii_digit digit) (all_ascii_digits digits) are in
    rw parts.0 (digits_value-digits (before * 10 + (digit - 48)) digits parts.1)

digits_value-step : (before digit : ℕ) (digits : List ℕ) (n : ℕ)
    → (digits_value (before * 10 + (digit - 48)) digits ≡ Some n → AreDigits digits × (n ≡ read_on (before * 10 + (digit - 48)) digits))
    → (test : Bool) → is_ascii_digit digit ≡ test
    → (if test then digits_value (before * 10 + (digit - 48)) digits else None) ≡ Some n
    → AreDigits (digit ∷ digits) × (n ≡ read_on before (digit ∷ digits))
digits_value-step before digit digits n further true digit_is is = let later = further is in (rw digit_is later.0, later.1)
digits_value-step before digit digits n further false digit_is is = cc is

digits_value-Some : (before : ℕ) (word : List ℕ) (n : ℕ) → digits_value before word ≡ Some n → AreDigits word × (n ≡ read_on before word)
digits_value-Some before [] n is = (refl, cc)
digits_value-Some before (digit ∷ digits) n is = digits_value-step before digit digits n
    (digits_value-Some (before * 10 + (digit - 48)) digits n) (is_ascii_digit digit) refl is

-- no zero stands before another digit
abbrev HasNoLeadingZero : List ℕ → Type 0
HasNoLeadingZero word = get_or word 0 0 ≡ 48 → length word ≡ 1

number-digits : (word : List ℕ) → AreDigits word → 0 < length word → HasNoLeadingZero word → number word ≡ Some (read_on 0 word)
number-digits [] are some leading = absurd (omega arith)
number-digits (digit ∷ []) are some leading = digits_value-digits 0 (digit ∷ []) are
number-digits (first ∷ second ∷ digits) are some leading =
    rw (ne_eqb first 48 (λ zero. let one = leading zero in omega arith)) (digits_value-digits 0 (first ∷ second ∷ digits) are)

-- what a word is that spells a number
record Spells (word : List ℕ) (n : ℕ) : Type 0 where
  digits : AreDigits word
  some : 0 < length word
  leading : HasNoLeadingZero word
  value : n ≡ read_on 0 word

Spells-checked : (first second : ℕ) (digits : List ℕ) (n : ℕ) (zero : Bool) → (first == 48) ≡ zero
    → (if zero then None else digits_value 0 (first ∷ second ∷ digits)) ≡ Some n → Spells (first ∷ second ∷ digits) n
Spells-checked first second digits n true test is = cc is
Spells-checked first second digits n false test is =
    let read = digits_value-Some 0 (first ∷ second ∷ digits) n is in
    record {
      digits = read.0;
      some = omega arith;
      leading = λ zero. absurd (eqb-false first 48 test zero);
      value = read.1;
    }

Spells-number : (word : List ℕ) (n : ℕ) → number word ≡ Some n → Spells word n
Spells-number [] n is = cc is
Spells-number (digit ∷ []) n is =
    let read = digits_value-Some 0 (digit ∷ []) n is in
    record { digits = read.0; some = omega arith; leading = λ zero. refl; value = read.1 }
Spells-number (first ∷ second ∷ digits) n is = Spells-checked first second digits n (first == 48) refl is

decimal-number : (word : List ℕ) (n : ℕ) → n < 2 ^ 64 → number word ≡ Some n → word ≡ decimal n
decimal-number word n fits is =
    let spells = Spells-number word n is in
    let small : read_on 0 word < 2 ^ 64 = subst (λ (value : ℕ). value < 2 ^ 64) spells.value fits in
    sym (ap (λ value. decimal value) spells.value ∙ decimal-digits_value numerals word spells.digits spells.some spells.leading small)

HasNoLeadingZero-decimal : (n : ℕ) → n < 2 ^ 64 → HasNoLeadingZero (decimal n)
HasNoLeadingZero-decimal n fits first =
    elim (cases_eq n 0) [
      | inl zero ↦ ap length (ap (λ n. decimal n) zero ∙ decimal_digit 0 (omega arith))
      | inr ne ↦
          let above = first_decimal n (omega arith) fits in
          absurd (omega (arith, above, first))
    ]

number-decimal : (n : ℕ) → n < 2 ^ 64 → number (decimal n) ≡ Some n
number-decimal n fits =
    number-digits (decimal n) (digits_decimal numerals n fits) (decimal_nonempty n fits) (HasNoLeadingZero-decimal n fits)
    ∙ ap Some (digits_value-decimal numerals n fits)

pub number_iff_decimal : (word : List ℕ) (n : ℕ) → n < 2 ^ 64 → (number word ≡ Some n) ↔ (word ≡ decimal n)
number_iff_decimal word n fits = (decimal-number word n fits, λ is. ap number is ∙ number-decimal n fits)
