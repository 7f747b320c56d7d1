-- Each record of the mark has one spelling of 255 bytes, from which it is read.
use Rattle.std.specs.Prelude.{◌≡◌, ℕ, ◌^◌, ◌<◌, ◌≤◌, List, length, Bool, true, false, Option, None, Some, refl}
use Rattle.std.proofs.Common.{arith, ap, sym, ◌∙◌}
use Rattle.std.specs.Int.{w64}
use Rattle.std.proofs.lemmas.Nat.{from_be_bytes-to_be_bytes_8}
use Rattle.byte_fields.specs.Fields.{number_at}
use Rattle.backup_lines.specs.Spans.{Active, Point, at_end, at_file, at_time}
use Rattle.boot_lines.specs.MarkLayout.{IsMark, point_number, active_bytes, spelling, point_at, active_at}

small : (n : ℕ) → n ≤ 2 ^ 48 → n < 2 ^ 64
small n le = omega (arith, le)

same_active : (a b : Active) → a.number ≡ b.number → a.point ≡ b.point → a.to ≡ b.to → a.prepared ≡ b.prepared → a ≡ b
same_active a b number point to prepared = λ i. record { number = number i; point = point i; to = to i; prepared = prepared i }

abbrev with_point : Active → Point → Active
with_point a point = record a { point = point }

point_read : (number : ℕ) (a : Active) (point : Point) → point_number point < 2 ^ 64 → point_at (spelling number (Some (record a { point = point }))) ≡ point
unfolding point_at spelling active_bytes
point_read number a at_end fits = refl
point_read number a (at_file file) fits = ap at_file (from_be_bytes-to_be_bytes_8 file fits)
point_read number a (at_time time) fits = ap at_time (from_be_bytes-to_be_bytes_8 time fits)

prepared_read : (number to : ℕ) (point : Point) (prepared : Bool) → number < 2 ^ 64 → to < 2 ^ 64
    → point_at (spelling number (Some (record { number = number; point = point; to = to; prepared = prepared }))) ≡ point
    → active_at (spelling number (Some (record { number = number; point = point; to = to; prepared = prepared })))
    ≡ Some (record { number = number; point = point; to = to; prepared = prepared })
unfolding active_at spelling active_bytes
prepared_read number to point true fits within is =
    ap (λ (a : Active). Some a) (same_active _ (record { number = number; point = point; to = to; prepared = true }) (from_be_bytes-to_be_bytes_8 number fits) is (from_be_bytes-to_be_bytes_8 to within) refl)
prepared_read number to point false fits within is =
    ap (λ (a : Active). Some a) (same_active _ (record { number = number; point = point; to = to; prepared = false }) (from_be_bytes-to_be_bytes_8 number fits) is (from_be_bytes-to_be_bytes_8 to within) refl)

-- the last number and the active restore are read from their spelling
pub number_at-spelling : (number : ℕ) (active : Option Active) → IsMark number active → number_at w64 0 (spelling number active) ≡ number
unfolding spelling
number_at-spelling number active ok = from_be_bytes-to_be_bytes_8 number (small number ok.bounded)

active_none : (number : ℕ) → active_at (spelling number None) ≡ None
unfolding active_at spelling active_bytes
active_none number = refl

same_number : (number : ℕ) (a : Active) → a.number ≡ number → a ≡ record { number = number; point = a.point; to = a.to; prepared = a.prepared }
same_number number a is = same_active a (record { number = number; point = a.point; to = a.to; prepared = a.prepared }) is refl refl refl

pub active_at-spelling : (number : ℕ) (active : Option Active) → IsMark number active → active_at (spelling number active) ≡ active
active_at-spelling number None ok = active_none number
active_at-spelling number (Some a) ok =
    let same = same_number number a ok.follows.0 in
    ap (λ (b : Active). active_at (spelling number (Some b))) same
    ∙ prepared_read number a.to a.point a.prepared (small number ok.bounded) (small a.to ok.follows.2.to)
    (point_read number (record { number = number; point = a.point; to = a.to; prepared = a.prepared }) a.point (small (point_number a.point) ok.follows.2.point))
    ∙ ap (λ (b : Active). Some b) (sym same)

pub one_record : (number other : ℕ) (active another : Option Active) → IsMark number active → IsMark other another → spelling number active ≡ spelling other another
    → (number ≡ other) × (active ≡ another)
one_record number other active another ok also same = (
  sym (number_at-spelling number active ok) ∙ ap (number_at w64 0) same ∙ number_at-spelling other another also,
  sym (active_at-spelling number active ok) ∙ ap active_at same ∙ active_at-spelling other another also,
)

-- a record has 255 bytes
length-active : (active : Option Active) → length (active_bytes active) ≡ 24
unfolding active_bytes
length-active None = refl
length-active (Some a) = refl
