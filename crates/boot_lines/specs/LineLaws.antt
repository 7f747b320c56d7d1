-- Each line has one spelling of 128 bytes, from which it is read.
use Rattle.std.specs.Prelude.{◌≡◌, ℕ, ◌^◌, ◌*◌, ◌<◌, ◌≤◌, List, [], ◌∷◌, ◌++◌, length, Option, None, Some, IfSome, refl}
use Rattle.std.specs.List.{AllByRecursion, flat_map}
use Rattle.std.proofs.Common.{arith, ap, sym, ◌∙◌, length-append}
use Rattle.std.proofs.lemmas.Nat.{from_be_bytes-to_be_bytes_2, from_be_bytes-to_be_bytes_8}
use Rattle.backup_lines.specs.Lines.{Archive, Span, Line, archived, logged, gone}
use Rattle.boot_lines.specs.LineLayout.{IsArchive, IsSpan, IsLine, archive_bytes, span_bytes, gone_bytes, spelling, archive_at, span_at, line_at}

same_archive : (a b : Archive) → a.space ≡ b.space → a.level ≡ b.level → a.at ≡ b.at → a.base ≡ b.base → a.base_copy ≡ b.base_copy → a.low ≡ b.low
    → a.copy ≡ b.copy → a ≡ b
same_archive a b space level at base base_copy low copy =
    λ i. record { space = space i; level = level i; at = at i; base = base i; base_copy = base_copy i; low = low i; copy = copy i }

same_span : (a b : Span) → a.file ≡ b.file → a.first ≡ b.first → a.last ≡ b.last → a.reset ≡ b.reset → a.before ≡ b.before → a.time ≡ b.time → a.copy ≡ b.copy
    → a.gone ≡ b.gone → a ≡ b
same_span a b file first last reset before time copy lost =
    λ i. record { file = file i; first = first i; last = last i; reset = reset i; before = before i; time = time i; copy = copy i; gone = lost i }

-- numbers up to 2^48 have 64 bits
small : (n : ℕ) → n ≤ 2 ^ 48 → n < 2 ^ 64
small n le = omega (arith, le)

archive_read : (a : Archive) → IsArchive a → archive_at (archive_bytes a) ≡ a
unfolding archive_at archive_bytes
archive_read a ok = same_archive (archive_at (archive_bytes a)) a
    (from_be_bytes-to_be_bytes_2 a.space (omega (arith, ok.space))) refl
    (from_be_bytes-to_be_bytes_8 a.at (small a.at ok.at)) (from_be_bytes-to_be_bytes_8 a.base (small a.base ok.base))
    (from_be_bytes-to_be_bytes_8 a.base_copy (small a.base_copy ok.base_copy)) (from_be_bytes-to_be_bytes_8 a.low (small a.low ok.low))
    (from_be_bytes-to_be_bytes_8 a.copy (small a.copy ok.copy.bounded))

reset_read : (span : Span) (reset : Option ℕ) → IfSome reset (λ target. target < 2 ^ 64) → (span_at (span_bytes (record span { reset = reset }))).reset ≡ reset
unfolding span_at span_bytes
reset_read span None fits = refl
reset_read span (Some target) fits = ap (λ (n : ℕ). Some n) (from_be_bytes-to_be_bytes_8 target fits)

below : (reset : Option ℕ) (first : ℕ) → first < 2 ^ 64 → IfSome reset (λ target. target < first) → IfSome reset (λ target. target < 2 ^ 64)
below None first few less = tt
below (Some target) first few less = omega (arith, few, less)

span_read : (s : Span) → IsSpan s → span_at (span_bytes s) ≡ s
unfolding span_at span_bytes
span_read s ok =
    let first : s.first < 2 ^ 64 = omega (arith, ok.last, ok.bounded) in
    same_span (span_at (span_bytes s)) s
    (from_be_bytes-to_be_bytes_8 s.file (omega (arith, ok.first, first))) (from_be_bytes-to_be_bytes_8 s.first first) (from_be_bytes-to_be_bytes_8 s.last (small s.last ok.bounded))
    (reset_read s s.reset (below s.reset s.first first ok.reset))
    (from_be_bytes-to_be_bytes_8 s.before (small s.before ok.before)) (from_be_bytes-to_be_bytes_8 s.time (small s.time ok.time))
    (from_be_bytes-to_be_bytes_8 s.copy (small s.copy ok.copy.bounded)) (sym ok.kept)

archive_line : (a : Archive) → line_at (archive_bytes a) ≡ archived (archive_at (archive_bytes a))
unfolding line_at archive_bytes
archive_line a = refl

span_line : (s : Span) → line_at (span_bytes s) ≡ logged (span_at (span_bytes s))
unfolding line_at span_bytes
span_line s = refl

gone_line : (copy : ℕ) → copy < 2 ^ 64 → line_at (gone_bytes copy) ≡ gone copy
unfolding line_at gone_bytes
gone_line copy fits = ap gone (from_be_bytes-to_be_bytes_8 copy fits)

-- a line is read from its spelling
pub line_at-spelling : (line : Line) → IsLine line → line_at (spelling line) ≡ line
line_at-spelling (archived a) ok = archive_line a ∙ ap archived (archive_read a ok)
line_at-spelling (logged s) ok = span_line s ∙ ap logged (span_read s ok)
line_at-spelling (gone copy) ok = gone_line copy (small copy ok.bounded)

pub one_line : (a b : Line) → IsLine a → IsLine b → spelling a ≡ spelling b → a ≡ b
one_line a b ok also same = sym (line_at-spelling a ok) ∙ ap line_at same ∙ line_at-spelling b also

-- a line fills its slot
length-archive : (a : Archive) → length (archive_bytes a) ≡ 128
unfolding archive_bytes
length-archive a = refl

length-span : (s : Span) → length (span_bytes s) ≡ 128
unfolding span_bytes
length-span s = refl

length-gone : (copy : ℕ) → length (gone_bytes copy) ≡ 128
unfolding gone_bytes
length-gone copy = refl

pub fills_slot : (line : Line) → length (spelling line) ≡ 128
fills_slot (archived a) = length-archive a
fills_slot (logged s) = length-span s
fills_slot (gone copy) = length-gone copy

-- so many lines have so many bytes
pub length-spellings : (lines : List Line) → length (flat_map spelling lines) ≡ 128 * length lines
length-spellings [] = refl
length-spellings (line ∷ lines) = omega (arith, fills_slot line, length-spellings lines, length-append (spelling line) (flat_map spelling lines))
