-- A boot file that is as it should be isn't refused.
use Rattle.std.proofs.Common.{◌≡◌, ℕ, zero, suc, ◌+◌, ◌*◌, ◌<◌, List, [], ◌∷◌, ◌++◌, length, take, drop, Option, sym, ap, ◌∙◌, arith, ⊎_elim}
use Rattle.std.specs.List.{AllByRecursion, flat_map}
use Rattle.std.proofs.lemmas.List.{take_at, drop_at, drop-drop}
use Rattle.boot_lines.specs.LineLaws.{fills_slot}
use Rattle.site_disk.specs.BytesLaws.{extent-extent}
use Rattle.backup_lines.specs.Lines.{Line}
use Rattle.backup_lines.specs.Spans.{Active}
use Rattle.boot_lines.specs.LineLayout.{IsLine, spelling}
use Rattle.boot_file.specs.Answers.{IsFirstBad, IsBadHeader, IsBadMark, HasFront, IsBadSlot}
use Rattle.boot_file.specs.Places.{HoldsBoot, HoldsLines, StopsAt, lines_area}
use Rattle.gated_slots.specs.Slots.{used}

-- a line among others, at its bytes
pub record IsLineAt (n : ℕ) (bytes : List ℕ) : Type 0 where
  pub line : Line
  pub is_line : IsLine line
  pub stands : take 128 (drop (128 * n) bytes) ≡ spelling line

line_at : (lines : List Line) (n : ℕ) → n < length lines → AllByRecursion IsLine lines → IsLineAt n (flat_map spelling lines)
line_at [] n lt each = absurd (omega (arith, lt))
line_at (line ∷ lines) zero lt each = record { line = line; is_line = each.0; stands = take_at (spelling line) (flat_map spelling lines) 128 (fills_slot line) }
line_at (line ∷ lines) (suc n) lt each =
    let there = line_at lines n (omega (arith, lt)) each.1 in
    let place : 128 * suc n ≡ 128 + 128 * n = omega arith in
    let all : List ℕ = spelling line ++ flat_map spelling lines in
    let past : drop (128 * suc n) all ≡ drop (128 * n) (flat_map spelling lines) =
    ap (λ (k : ℕ). drop k all) place ∙ sym (drop-drop (128 * n) 128 all) ∙ ap (λ (l : List ℕ). drop (128 * n) l) (drop_at (spelling line) (flat_map spelling lines) 128 (fills_slot line)) in
    record { line = there.line; is_line = there.is_line; stands = ap (λ (l : List ℕ). take 128 l) past ∙ there.stands }

boot_slots_stand : (lines before : List Line) (bytes : List ℕ) → HoldsLines lines bytes → length before < used lines_area bytes → StopsAt before bytes → ⊥
boot_slots_stand lines before bytes holds lt stops =
    let n : ℕ = length before in
    let there = line_at lines n (omega (arith, lt, holds.used)) holds.each in
    stops.stuck there.line there.is_line
    (sym (extent-extent (128 * n) 128 73728 (128 * used lines_area bytes) bytes (omega (arith, lt)))
    ∙ ap (λ (l : List ℕ). take 128 (drop (128 * n) l)) holds.slots ∙ there.stands)

pub boot_not_bad : (site : ℕ) (lines : List Line) (number : ℕ) (active : Option Active) (bytes : List ℕ) (slot : ℕ) → HoldsBoot site lines number active bytes → IsFirstBad site bytes slot → ⊥
boot_not_bad site lines number active bytes slot holds bad = ⊎_elim
    (λ (header : IsBadHeader site bytes slot). header.header holds.header)
    (λ others. ⊎_elim
    (λ (mark : IsBadMark site bytes slot). mark.mark number active holds.mark)
    (λ (slots : HasFront site bytes × IsBadSlot bytes slot). ⊎_elim
    (λ short. absurd (omega (arith, short.1, holds.slots.reaches)))
    (λ (stops : (slot < used lines_area bytes) × ((before : List Line) × (length before ≡ slot) × StopsAt before bytes)). boot_slots_stand lines stops.1.0 bytes holds.slots (omega (arith, stops.0, stops.1.1)) stops.1.2)
    slots.1)
    others)
    bad
