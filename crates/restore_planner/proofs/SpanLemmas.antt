-- The spans of the files, in ascending order, are the values of a map that has them.
use Rattle.std.proofs.Common.{◌≡◌, ◌∙◌, ℕ, ◌<◌, List, [], ◌∷◌, length, Bool, true, false, ◌&&◌, Option, None, Some, map, filter, fold, refl, ap, sym, subst, arith}
use Rattle.std.specs.Prelude.{◌==◌, nat_lt, if◌then◌else◌, IfSome}
use Rattle.std.specs.BTreeMap.{BTreeMap, IsOrdered, get, values}
use Rattle.std.specs.Cmp.{nat_cmp_total}
use Rattle.std.specs.List.{All, AllByRecursion, Contains}
use Rattle.std.specs.List.Sorted.{IsStrictlySortedBy}
use Rattle.std.specs.Map.{keys_of, values_of}
use Rattle.std.specs.Option.{option_or, option_map}
use Rattle.std.specs.Ordering.{nat_cmp}
use Rattle.std.specs.declared.cmp.Ordering.TheVariants.{Less}
use Rattle.std.proofs.lemmas.Bool.Decides.{nat_tests}
use Rattle.std.proofs.lemmas.List.{length-map}
use Rattle.std.proofs.Math.ListN.{get_or-map}
use Rattle.std.proofs.lemmas.List.Elements.{All-contains, All-filter, All-map, All-weaker, filter_passes, recursion_from_All}
use Rattle.std.proofs.lemmas.Map.Keys.{sorted_head, sorted_tail}
use Rattle.std.proofs.lemmas.Map.Lookups.{exact_unsigned}
use Rattle.std.proofs.lemmas.Map.Views.{All-found, btree_map_get_iff}
use Rattle.backup_lines.specs.Lines.{Span, Line, all_spans, is_live}
use Rattle.backup_lines.specs.Spans.{AreSpans, FilesRise, held_span, is_newer, marked, newest, span_of, spans_of_file}
use Rattle.backup_lines.specs.Views.{span_view}
use Rattle.backup_lines.specs.declared.lines.FileSpan.{FileSpan}
use Rattle.restore_planner.proofs.FileLemmas.{at_positive, at_zero}
use Rattle.restore_planner.specs.Files.{HasSpans, PutsHeld, at_file_id, by_live_line, span_at}

-- what is known of a file is of that file

abbrev pub IsOf : ℕ → Span → Type 0
IsOf file span = span.file ≡ file

of_or : (file : ℕ) (one other : Option Span) → IfSome one (IsOf file) → IfSome other (IsOf file) → IfSome (option_or one other) (IsOf file)
of_or file None other one_is other_is = other_is
of_or file (Some span) other one_is other_is = one_is

of_marked : (file : ℕ) (is_gone : Bool) (span : Option Span) → IfSome span (IsOf file) → IfSome (option_map (marked is_gone) span) (IsOf file)
of_marked file is_gone None is = tt
of_marked file is_gone (Some span) is = is

of_fold : (file : ℕ) (spans : List Span) (best : Option Span) → IfSome best (IsOf file) → AllByRecursion (IsOf file) spans
    → IfSome (fold (λ best span. if is_newer span best then Some span else best) best spans) (IsOf file)
of_fold file [] best is all = is
of_fold file (span ∷ spans) best is all = of_fold file spans (if is_newer span best then Some span else best) (by (is_newer span best)) all.1
  where
    by : (b : Bool) → IfSome (if b then Some span else best) (IsOf file)
    by true = all.0
    by false = is

all_of_file : (lines : List Line) (file : ℕ) → All (IsOf file) (spans_of_file lines file)
all_of_file lines file =
    All-weaker (λ (span : Span). (span.file == file) ≡ true) (IsOf file) (λ span is. grind (arith, nat_tests, is)) (spans_of_file lines file)
    (filter_passes (λ (span : Span). span.file == file) (all_spans lines))

of_held : (held : List Span) (backed file : ℕ) → IfSome (held_span held backed file) (IsOf file)
of_held [] backed file = tt
of_held (span ∷ held) backed file = by (span.file == file) refl (nat_lt backed file) (of_held held backed file)
  where
    by : (b : Bool) → (span.file == file) ≡ b → (c : Bool) → IfSome (held_span held backed file) (IsOf file)
        → IfSome (if (b && c) then Some (marked false (record span { copy = 0 })) else held_span held backed file) (IsOf file)
    by true here true rest = grind (arith, nat_tests, here)
    by true here false rest = rest
    by false apart c rest = rest

known_of_file : (lines : List Line) (held : List Span) (backed file : ℕ) → IfSome (span_of lines held backed file) (IsOf file)
known_of_file lines held backed file =
    let passes : Span → Bool = λ span. is_live lines span.copy in
    let spans : List Span = spans_of_file lines file in
    of_or file _ _ (of_held held backed file)
    (of_or file _ _
    (of_marked file false (newest (filter passes spans))
    (of_fold file (filter passes spans) None tt (recursion_from_All (IsOf file) (filter passes spans) (All-filter passes (IsOf file) spans (all_of_file lines file)))))
    (of_marked file true (newest spans) (of_fold file spans None tt (recursion_from_All (IsOf file) spans (all_of_file lines file)))))

if_some : (P : Span → Type 0) (o : Option Span) (span : Span) → o ≡ Some span → IfSome o P → P span
if_some P o span is known = subst (λ (x : Option Span). IfSome x P) is known

-- the whole map

-- the map has what is known of each file
abbrev pub KnowsAll : List Line → List Span → ℕ → BTreeMap ℕ FileSpan → Type 0
KnowsAll lines held backed files = HasSpans files (span_of lines held backed)

none_held : (held : List Span) (backed file : ℕ) → nat_lt 0 file ≡ false → held_span held backed file ≡ None
none_held [] backed file is = refl
none_held (span ∷ held) backed file is = by (span.file == file) (none_held held backed file is)
  where
    never : nat_lt backed file ≡ false
    never = grind (arith, nat_tests, is)

    by : (b : Bool) → held_span held backed file ≡ None
        → (if (b && nat_lt backed file) then Some (marked false (record span { copy = 0 })) else held_span held backed file) ≡ None
    by true rest = rw never rest
    by false rest = rest

pub knows_all : (lines : List Line) (held : List Span) (backed : ℕ) (old new : BTreeMap ℕ FileSpan)
    → HasSpans old (by_live_line lines) → PutsHeld held backed old new → KnowsAll lines held backed new
knows_all lines held backed old new has puts file = puts file ∙ by (nat_lt 0 file) refl
  where
    by : (b : Bool) → nat_lt 0 file ≡ b → option_or (held_span held backed file) (span_at old file) ≡ at_file_id file (span_of lines held backed file)
    by true positive =
        ap (option_or (held_span held backed file)) (has file ∙ at_positive file (by_live_line lines file) positive)
        ∙ sym (at_positive file (span_of lines held backed file) positive)
    by false zero_id =
        ap (λ (o : Option Span). option_or o (span_at old file)) (none_held held backed file zero_id)
        ∙ has file ∙ at_zero file (by_live_line lines file) (span_of lines held backed file) zero_id

some_of_map : (o : Option FileSpan) (span : Span) → option_map span_view o ≡ Some span → (view : FileSpan) × (o ≡ Some view) × (span_view view ≡ span)
some_of_map None span is = absurd cc
some_of_map (Some view) span is = (view, refl, cc)

at_file_id-some : (file : ℕ) (known : Option Span) (span : Span) → at_file_id file known ≡ Some span → (0 < file) × (known ≡ Some span)
at_file_id-some file known span is = by (nat_lt 0 file) refl is
  where
    by : (b : Bool) → nat_lt 0 file ≡ b → (if b then known else None) ≡ Some span → (0 < file) × (known ≡ Some span)
    by true positive same = (grind (arith, nat_tests, positive), same)
    by false zero_id same = absurd cc

-- an entry is what is known of its file
abbrev pub IsKnown : List Line → List Span → ℕ → ℕ × FileSpan → Type 0
IsKnown lines held backed entry = (0 < entry.0) × (span_of lines held backed entry.0 ≡ Some (span_view entry.1)) × (entry.1.file ≡ entry.0)

found_known : (lines : List Line) (held : List Span) (backed : ℕ) (files : BTreeMap ℕ FileSpan) → KnowsAll lines held backed files
    → (entry : ℕ × FileSpan) → get nat_cmp files entry.0 ≡ Some entry.1 → IsKnown lines held backed entry
found_known lines held backed files has entry is =
    let at : at_file_id entry.0 (span_of lines held backed entry.0) ≡ Some (span_view entry.1) = sym (has entry.0) ∙ ap (option_map span_view) is in
    let known : (0 < entry.0) × (span_of lines held backed entry.0 ≡ Some (span_view entry.1)) = at_file_id-some entry.0 (span_of lines held backed entry.0) (span_view entry.1) at in
    (known.0, known.1, if_some (IsOf entry.0) (span_of lines held backed entry.0) (span_view entry.1) known.1 (known_of_file lines held backed entry.0))

all_less : (file : ℕ) (files : List ℕ) → AllByRecursion (λ other. nat_cmp file other ≡ Less) files → AllByRecursion (λ other. file < other) files
all_less file [] all = tt
all_less file (other ∷ files) all = (grind (arith, nat_tests, all.0), all_less file files all.1)

entries_rise : (entries : List (ℕ × FileSpan)) (last : ℕ) → AllByRecursion (λ entry. entry.1.file ≡ entry.0) entries
    → AllByRecursion (λ file. last < file) (keys_of entries) → IsStrictlySortedBy nat_cmp (keys_of entries)
    → FilesRise last (map span_view (values_of entries))
entries_rise [] last of above sorted = tt
entries_rise (entry ∷ entries) last of above sorted =
    let here : entry.0 ≡ entry.1.file = sym of.0 in
    let less : AllByRecursion (λ file. entry.0 < file) (keys_of entries) = all_less entry.0 (keys_of entries) (sorted_head nat_cmp entry.0 (keys_of entries) sorted) in (
      subst (λ (file : ℕ). last < file) here above.0,
      entries_rise entries entry.1.file of.1 (subst (λ (file : ℕ). AllByRecursion (λ other. file < other) (keys_of entries)) here less)
          (sorted_tail nat_cmp entry.0 (keys_of entries) sorted),
    )

keys_above : (entries : List (ℕ × FileSpan)) → AllByRecursion (λ entry. 0 < entry.0) entries → AllByRecursion (λ file. 0 < file) (keys_of entries)
keys_above [] all = tt
keys_above (entry ∷ entries) all = (all.0, keys_above entries all.1)

contains_map : {X Y : Type 0} (f : X → Y) (xs : List X) (x : X) → Contains xs x → Contains (map f xs) (f x)
contains_map f xs x has = (has.0, let lt : has.0 < length xs = has.1 in rw length-map lt, get_or-map f xs has.0 x ∙ ap f has.2)

pub are_spans : (lines : List Line) (held : List Span) (backed : ℕ) (files : BTreeMap ℕ FileSpan) → IsOrdered nat_cmp files
    → KnowsAll lines held backed files → AreSpans lines held backed (map span_view (values files))
are_spans lines held backed files ordered has = record {
  rise = entries_rise files.entries 0 (recursion_from_All _ files.entries (All-weaker Known (λ entry. entry.1.file ≡ entry.0) (λ entry is. is.2) files.entries known))
      (keys_above files.entries (recursion_from_All _ files.entries (All-weaker Known (λ entry. 0 < entry.0) (λ entry is. is.0) files.entries known))) ordered;
  known = λ span contains. All-contains Spanned (map span_view (values files)) span spanned contains;
  all = λ file span positive is. found file span (some_of_map (get nat_cmp files file) span (has file ∙ rw is (by file positive span)));
}
  where
    Known : ℕ × FileSpan → Type 0
    Known = IsKnown lines held backed

    known : All Known files.entries
    known = All-weaker (λ entry. get nat_cmp files entry.0 ≡ Some entry.1) Known (found_known lines held backed files has) files.entries
        (All-found nat_cmp_total files ordered)

    Spanned : Span → Type 0
    Spanned span = span_of lines held backed span.file ≡ Some span

    spanned : All Spanned (map span_view (values files))
    spanned = All-map Spanned span_view (values files) (All-map (λ view. Spanned (span_view view)) (λ entry. entry.1) files.entries
        (All-weaker Known (λ entry. Spanned (span_view entry.1)) (λ entry is. subst (λ (file : ℕ). span_of lines held backed file ≡ Some (span_view entry.1)) (sym is.2) is.1)
        files.entries known))

    by : (file : ℕ) → 0 < file → (span : Span) → at_file_id file (Some span) ≡ Some span
    by file positive span = let test : nat_lt 0 file ≡ true = grind (arith, nat_tests, positive) in at_positive file (Some span) test

    found : (file : ℕ) (span : Span) → ((view : FileSpan) × (get nat_cmp files file ≡ Some view) × (span_view view ≡ span)) → Contains (map span_view (values files)) span
    found file span at =
        let in_entries : Contains files.entries (file, at.0) = (btree_map_get_iff nat_cmp_total exact_unsigned files ordered file at.0).0 at.1 in
        subst (λ (s : Span). Contains (map span_view (values files)) s) at.2
        (contains_map span_view (values files) at.0 (contains_map (λ entry. entry.1) files.entries (file, at.0) in_entries))
