-- Numbers, names and bytes as a word or a script line spells them.
use Rattle.std.specs.Prelude.{ℕ, ◌+◌, ◌-◌, ◌*◌, List, [], ◌∷◌, length, Bool, false, ◌&&◌, ◌||◌, ◌==◌, nat_le, if◌then◌else◌, Option, None, Some}
use Rattle.std.specs.Char.{is_ascii_digit}
use Rattle.std.specs.List.{list_all}
use Rattle.std.specs.Option.{option_and_then}
use Rattle.std.specs.Result.{result_ok}
use Rattle.hex.specs.Hex.{decode_of}

-- the value of decimal digits that follow a number, none where one of them is no digit
abbrev pub digits_value : ℕ → List ℕ → Option ℕ
digits_value before [] = Some before
digits_value before (digit ∷ digits) = if is_ascii_digit digit then digits_value (before * 10 + (digit - 48)) digits else None

-- a number: decimal digits without a sign or a leading zero
abbrev pub number : List ℕ → Option ℕ
number [] = None
number (digit ∷ []) = digits_value 0 (digit ∷ [])
number (first ∷ second ∷ digits) = if first == 48 then None else digits_value 0 (first ∷ second ∷ digits)

-- a number from low to high
abbrev pub number_within : ℕ → ℕ → List ℕ → Option ℕ
number_within low high word = option_and_then (λ n. if (nat_le low n && nat_le n high) then Some n else None) (number word)

abbrev pub is_letter : ℕ → Bool
is_letter c = (nat_le 65 c && nat_le c 90) || (nat_le 97 c && nat_le c 122)

abbrev pub is_name_character : ℕ → Bool
is_name_character c = is_letter c || is_ascii_digit c || c == 95

-- a name: a letter, then letters, digits or underscores, 1 to 18 characters in all
abbrev pub is_name : List ℕ → Bool
is_name [] = false
is_name (first ∷ others) = is_letter first && list_all is_name_character others && nat_le (length others) 17

-- 1 to 64 bytes as pairs of hexadecimal digits in either case
abbrev pub hex_bytes : List ℕ → Option (List ℕ)
hex_bytes word =
    option_and_then (λ bytes. if (nat_le 1 (length bytes) && nat_le (length bytes) 64) then Some bytes else None) (result_ok (decode_of word))

-- the numbers that a word of 32 bits holds
abbrev pub within_u32 : Option ℕ → Option ℕ
within_u32 value = option_and_then (λ n. if (nat_le 0 n && nat_le n 4294967295) then Some n else None) value
