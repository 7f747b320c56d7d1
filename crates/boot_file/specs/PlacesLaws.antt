-- What keeps the boot file on its disk, and what makes another of it.
use Rattle.std.specs.Prelude.{◌≡◌, ◌⊎◌, ℕ, ◌+◌, ◌*◌, ◌<◌, ◌≤◌, List, [], ◌∷◌, ◌++◌, length, take, drop, Option, Some, refl}
use Rattle.std.specs.List.{AllByRecursion, flat_map}
use mathlib.Core.Logic.{inl, inr}
use Rattle.std.proofs.Common.{arith, ap, sym, ◌∙◌, subst, ⊎_elim, length-append}
use Rattle.std.proofs.lemmas.List.{take_at, drop_at, length-take, length-drop}
use Rattle.std.proofs.lemmas.Grind.{flat_map-append}
use Rattle.std.proofs.lemmas.Option.{same_Some}
use Rattle.backup_lines.specs.Lines.{Line}
use Rattle.boot_lines.specs.LineLayout.{IsLine, spelling}
use Rattle.boot_lines.specs.LineLaws.{one_line, fills_slot, length-spellings}
use Rattle.backup_lines.specs.Spans.{Active}
use Rattle.boot_lines.specs.MarkLayout.{IsMark, spelling as mark_spelling}
use Rattle.boot_lines.specs.MarkLaws.{one_record}
use Rattle.site_disk.specs.Bytes.{extent, Elsewhere}
use Rattle.gated_slots.specs.Slots.{used, held, OutsideArea, Keeps, Gains, MayGain}
use Rattle.gated_slots.specs.SlotsLaws.{used_by_gates}
use Rattle.twin_mark.specs.Marks.{record_of, MayStore, Stores}
use Rattle.site_headers.specs.HeaderLaws.{HasHeader-same}
use Rattle.boot_file.specs.Places.{boot_tail, lines_area, HoldsMark, HoldsLines, HoldsBoot}

pub all_append : (xs ys : List Line) → AllByRecursion IsLine xs → AllByRecursion IsLine ys → AllByRecursion IsLine (xs ++ ys)
all_append [] ys first second = second
all_append (x ∷ xs) ys first second = (first.0, all_append xs ys first.1 second)

-- a change of the mark alone

module _ (site number : ℕ) (lines : List Line) (active : Option Active) (old new : List ℕ) (elsewhere : Elsewhere 4096 1024 old new) (no_shorter : length old ≤ length new)
    (holds : HoldsBoot site lines number active old) where
  count_stays : used lines_area new ≡ length lines
  count_stays = used_by_gates lines_area old new (elsewhere 8192 65536 (inr (omega arith))) ∙ holds.slots.used

  pub boot_by_mark : (next : ℕ) (following : Option Active) → HoldsMark next following new → HoldsBoot site lines next following new
  boot_by_mark next following mark = record {
    header = HasHeader-same (boot_tail site) old new (elsewhere 0 4096 (inl (omega arith))) holds.header;
    mark = mark;
    slots = record {
      each = holds.slots.each;
      used = count_stays;
      slots = ap (λ (k : ℕ). extent 73728 (128 * k) new) count_stays
          ∙ elsewhere 73728 (128 * length lines) (inr (omega arith))
          ∙ sym (ap (λ (k : ℕ). extent 73728 (128 * k) old) holds.slots.used)
          ∙ holds.slots.slots;
      reaches = omega (arith, holds.slots.reaches, no_shorter);
    };
  }

-- a change of the slots alone

module _ (site number : ℕ) (lines : List Line) (active : Option Active) (old new : List ℕ) (holds : HoldsBoot site lines number active old) (outside : OutsideArea lines_area old new) where
  pub boot_by_lines : (more : List Line) → HoldsLines more new → HoldsBoot site more number active new
  boot_by_lines more slots = record {
    header = HasHeader-same (boot_tail site) old new (outside 0 4096 (inl (omega arith)) (inl (omega arith))) holds.header;
    mark = record { is_mark = holds.mark.is_mark; stands = ap record_of (outside 4096 1024 (inl (omega arith)) (inl (omega arith))) ∙ holds.mark.stands };
    slots = slots;
  }

pub boot_kept : (site number : ℕ) (lines : List Line) (active : Option Active) (old new : List ℕ) → HoldsBoot site lines number active old → Keeps lines_area old new
    → HoldsBoot site lines number active new
boot_kept site number lines active old new holds keeps =
    boot_by_lines site number lines active old new holds keeps.elsewhere lines (record {
      each = holds.slots.each;
      used = keeps.used ∙ holds.slots.used;
      slots = keeps.held ∙ holds.slots.slots;
      reaches = omega (arith, holds.slots.reaches, keeps.no_shorter);
    })

-- a range that has all of its bytes lies within them
within_by_length : (at n : ℕ) (bytes : List ℕ) → 1 ≤ n → length (extent at n bytes) ≡ n → at + n ≤ length bytes
within_by_length at n bytes some is = omega (arith, some, is, length-take n (drop at bytes), length-drop at bytes)

pub boot_gained : (site number : ℕ) (lines more : List Line) (active : Option Active) (n : ℕ) (old new : List ℕ) → HoldsBoot site lines number active old
    → AllByRecursion IsLine more → n ≡ length more → 1 ≤ length more → Gains lines_area n (flat_map spelling more) old new
    → HoldsBoot site (lines ++ more) number active new
boot_gained site number lines more active n old new holds each count some gains =
    let all : List Line = lines ++ more in
    let total : used lines_area new ≡ length all = gains.used ∙ omega (arith, holds.slots.used, count, length-append lines more) in
    let spelled : held lines_area new ≡ flat_map spelling all =
    gains.held ∙ ap (λ (l : List ℕ). l ++ flat_map spelling more) holds.slots.slots ∙ sym (flat_map-append spelling lines more) in
    let long : length (extent 73728 (128 * length all) new) ≡ 128 * length all =
    ap (λ (k : ℕ). length (extent 73728 (128 * k) new)) (sym total) ∙ ap (λ (l : List ℕ). length l) spelled ∙ length-spellings all in
    boot_by_lines site number lines active old new holds gains.elsewhere all (record {
      each = all_append lines more holds.slots.each each;
      used = total;
      slots = spelled;
      reaches = within_by_length 73728 (128 * length all) new (omega (arith, some, length-append lines more)) long;
    })

-- what stops leave

pub gain_either : (site number : ℕ) (lines more : List Line) (active : Option Active) (n : ℕ) (old new : List ℕ) → HoldsBoot site lines number active old
    → AllByRecursion IsLine more → n ≡ length more → 1 ≤ length more → MayGain lines_area n (flat_map spelling more) old new
    → HoldsBoot site lines number active new ⊎ HoldsBoot site (lines ++ more) number active new
gain_either site number lines more active n old new holds each count some may = ⊎_elim
    (λ keeps. inl (boot_kept site number lines active old new holds keeps))
    (λ gains. inr (boot_gained site number lines more active n old new holds each count some gains))
    may.slots

pub store_either : (site number next : ℕ) (lines : List Line) (active following : Option Active) (old new : List ℕ) → HoldsBoot site lines number active old
    → IsMark next following → MayStore 4096 (mark_spelling next following) old new
    → HoldsBoot site lines number active new ⊎ HoldsBoot site lines next following new
store_either site number next lines active following old new holds is_mark may = ⊎_elim
    (λ same. inl (boot_by_mark site number lines active old new may.elsewhere may.no_shorter holds number active
    (record { is_mark = holds.mark.is_mark; stands = same ∙ holds.mark.stands })))
    (λ stored. inr (boot_by_mark site number lines active old new may.elsewhere may.no_shorter holds next following (record { is_mark = is_mark; stands = stored })))
    may.mark

pub boot_stored : (site number next : ℕ) (lines : List Line) (active following : Option Active) (old new : List ℕ) → HoldsBoot site lines number active old
    → IsMark next following → Stores 4096 (mark_spelling next following) old new → HoldsBoot site lines next following new
boot_stored site number next lines active following old new holds is_mark stores =
    boot_by_mark site number lines active old new stores.elsewhere stores.no_shorter holds next following (record { is_mark = is_mark; stands = stores.stored })

-- a disk holds one boot file at most

pub same_lines : (xs ys : List Line) → AllByRecursion IsLine xs → AllByRecursion IsLine ys → length xs ≡ length ys → flat_map spelling xs ≡ flat_map spelling ys → xs ≡ ys
same_lines [] [] each_x each_y lengths e = refl
same_lines [] (y ∷ ys) each_x each_y lengths e = absurd (omega arith)
same_lines (x ∷ xs) [] each_x each_y lengths e = absurd (omega arith)
same_lines (x ∷ xs) (y ∷ ys) each_x each_y lengths e =
    let first : spelling x ≡ spelling y =
    sym (take_at (spelling x) (flat_map spelling xs) 128 (fills_slot x)) ∙ ap (take 128) e ∙ take_at (spelling y) (flat_map spelling ys) 128 (fills_slot y) in
    let others : flat_map spelling xs ≡ flat_map spelling ys =
    sym (drop_at (spelling x) (flat_map spelling xs) 128 (fills_slot x)) ∙ ap (drop 128) e ∙ drop_at (spelling y) (flat_map spelling ys) 128 (fills_slot y) in
    let same : x ≡ y = one_line x y each_x.0 each_y.0 first in
    let rest : xs ≡ ys = same_lines xs ys each_x.1 each_y.1 (omega arith) others in
    ap (λ (z : Line). z ∷ xs) same ∙ ap (λ (zs : List Line). y ∷ zs) rest

-- what two boot files on one disk have in common
pub record AreSame (lines others : List Line) (number other : ℕ) (active another : Option Active) : Type 0 where
  pub lines_are : lines ≡ others
  pub number_is : number ≡ other
  pub active_is : active ≡ another

pub one_boot : (site : ℕ) (lines others : List Line) (number other : ℕ) (active another : Option Active) (bytes : List ℕ) → HoldsBoot site lines number active bytes
    → HoldsBoot site others other another bytes → AreSame lines others number other active another
one_boot site lines others number other active another bytes a b =
    let marks : mark_spelling number active ≡ mark_spelling other another = same_Some _ _ (sym a.mark.stands ∙ b.mark.stands) in
    let record_is = one_record number other active another a.mark.is_mark b.mark.is_mark marks in
    record {
      lines_are = same_lines lines others a.slots.each b.slots.each (sym a.slots.used ∙ b.slots.used) (sym a.slots.slots ∙ b.slots.slots);
      number_is = record_is.0;
      active_is = record_is.1;
    }
