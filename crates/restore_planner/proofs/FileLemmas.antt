-- One line more, or one held file more, in what is known of the files.
use Rattle.std.proofs.Common.{◌≡◌, ◌∙◌, ℕ, ◌<◌, List, [], ◌∷◌, ◌++◌, Bool, true, false, ◌&&◌, Option, None, Some, refl, ap, sym, subst, map, take, filter, get_or, length, ◌+◌, arith}
use Rattle.std.specs.Prelude.{◌==◌, nat_lt, if◌then◌else◌}
use Rattle.std.specs.BTreeMap.{BTreeMap}
use Rattle.std.specs.List.{filter_map}
use Rattle.std.specs.Option.{option_or, option_map}
use Rattle.std.proofs.lemmas.Bool.Decides.{nat_tests}
use Rattle.std.proofs.lemmas.List.{append-nil, map-append, take_more}
use Rattle.std.proofs.lemmas.List.Elements.{filter-append, filter_map-append}
use Rattle.std.proofs.lemmas.List.Sums.{fold-append}
use Rattle.backup_lines.specs.Lines.{Span, Line, logged, is_live, span_in}
use Rattle.backup_lines.specs.Spans.{held_span, is_newer, marked, newest, spans_of_file}
use Rattle.backup_lines.specs.Views.{line_of}
use Rattle.backup_lines.specs.declared.lines.FileSpan.{FileSpan}
use Rattle.backup_lines.specs.declared.lines.Line.{Line as RustLine}
use Rattle.backup_lines.specs.declared.lines.Line.TheVariants.{Archive as ArchiveLine, Log as LogLine, Gone as GoneLine}
use Rattle.restore_planner.specs.Files.{HasSpans, Puts, PutsHeld, at_file_id, by_line, displaces, live_line, span_at}

-- the newer of two spans, marked
abbrev newer_of : Bool → Span → Option Span → Option Span
newer_of is_gone span best = if is_newer span best then Some (marked is_gone span) else best

newest-one : (is_gone : Bool) (spans : List Span) (span : Span)
    → option_map (marked is_gone) (newest (spans ++ span ∷ [])) ≡ newer_of is_gone span (option_map (marked is_gone) (newest spans))
newest-one is_gone spans span = ap (option_map (marked is_gone)) (fold-append _ None spans (span ∷ [])) ∙ by (newest spans)
  where
    by : (best : Option Span) → option_map (marked is_gone) (if is_newer span best then Some span else best) ≡ newer_of is_gone span (option_map (marked is_gone) best)
    by None = refl
    by (Some best) = test (nat_lt best.copy span.copy)
      where
        test : (b : Bool) → option_map (marked is_gone) (if b then Some span else Some best) ≡ (if b then Some (marked is_gone span) else Some (marked is_gone best))
        test true = refl
        test false = refl

-- the spans of a file with one line more
spans_of_file-next : (lines : List Line) (line : Line) (file : ℕ)
    → spans_of_file (lines ++ line ∷ []) file ≡ spans_of_file lines file ++ filter (λ span. span.file == file) (filter_map span_in (line ∷ []))
spans_of_file-next lines line file =
    ap (filter (λ (span : Span). span.file == file)) (filter_map-append span_in lines (line ∷ []))
    ∙ filter-append (λ (span : Span). span.file == file) (filter_map span_in lines) (filter_map span_in (line ∷ []))

spans_of_file-here : (lines : List Line) (span : Span) (file : ℕ) → (span.file == file) ≡ true
    → spans_of_file (lines ++ logged span ∷ []) file ≡ spans_of_file lines file ++ span ∷ []
spans_of_file-here lines span file here = spans_of_file-next lines (logged span) file ∙ rw here refl

spans_of_file-apart : (lines : List Line) (span : Span) (file : ℕ) → (span.file == file) ≡ false
    → spans_of_file (lines ++ logged span ∷ []) file ≡ spans_of_file lines file
spans_of_file-apart lines span file apart = spans_of_file-next lines (logged span) file ∙ rw apart (append-nil (spans_of_file lines file))

-- a line that isn't of a log file
abbrev pub IsOther : Line → Type 0
IsOther line = span_in line ≡ None

spans_of_file-other : (lines : List Line) (line : Line) (file : ℕ) → IsOther line → spans_of_file (lines ++ line ∷ []) file ≡ spans_of_file lines file
spans_of_file-other lines line file other = spans_of_file-next lines line file ∙ rw other (append-nil (spans_of_file lines file))

by_line-here : (lines : List Line) (span : Span) (file : ℕ) → (span.file == file) ≡ true
    → by_line (lines ++ logged span ∷ []) file ≡ newer_of true span (by_line lines file)
by_line-here lines span file here =
    ap (λ spans. option_map (marked true) (newest spans)) (spans_of_file-here lines span file here) ∙ newest-one true (spans_of_file lines file) span

by_line-apart : (lines : List Line) (span : Span) (file : ℕ) → (span.file == file) ≡ false
    → by_line (lines ++ logged span ∷ []) file ≡ by_line lines file
by_line-apart lines span file apart = ap (λ spans. option_map (marked true) (newest spans)) (spans_of_file-apart lines span file apart)

live_line-with : (lines some : List Line) (spans : List Span) (line : Line) (file : ℕ) → spans_of_file (some ++ line ∷ []) file ≡ spans
    → live_line lines (some ++ line ∷ []) file ≡ option_map (marked false) (newest (filter (λ span. is_live lines span.copy) spans))
live_line-with lines some spans line file is = ap (λ spans. option_map (marked false) (newest (filter (λ (span : Span). is_live lines span.copy) spans))) is

live_line-here : (lines some : List Line) (span : Span) (file : ℕ) → (span.file == file) ≡ true → is_live lines span.copy ≡ true
    → live_line lines (some ++ logged span ∷ []) file ≡ newer_of false span (live_line lines some file)
live_line-here lines some span file here live =
    let passes : Span → Bool = λ other. is_live lines other.copy in
    let kept : filter passes (spans_of_file some file ++ span ∷ []) ≡ filter passes (spans_of_file some file) ++ span ∷ [] =
    filter-append passes (spans_of_file some file) (span ∷ []) ∙ rw live refl in
    live_line-with lines some _ (logged span) file (spans_of_file-here some span file here)
    ∙ ap (λ spans. option_map (marked false) (newest spans)) kept
    ∙ newest-one false (filter passes (spans_of_file some file)) span

live_line-dead : (lines some : List Line) (span : Span) (file : ℕ) → (span.file == file) ≡ true → is_live lines span.copy ≡ false
    → live_line lines (some ++ logged span ∷ []) file ≡ live_line lines some file
live_line-dead lines some span file here dead =
    let passes : Span → Bool = λ other. is_live lines other.copy in
    let kept : filter passes (spans_of_file some file ++ span ∷ []) ≡ filter passes (spans_of_file some file) =
    filter-append passes (spans_of_file some file) (span ∷ []) ∙ rw dead (append-nil (filter passes (spans_of_file some file))) in
    live_line-with lines some _ (logged span) file (spans_of_file-here some span file here) ∙ ap (λ spans. option_map (marked false) (newest spans)) kept

live_line-apart : (lines some : List Line) (span : Span) (file : ℕ) → (span.file == file) ≡ false
    → live_line lines (some ++ logged span ∷ []) file ≡ live_line lines some file
live_line-apart lines some span file apart = live_line-with lines some _ (logged span) file (spans_of_file-apart some span file apart)

live_line-other : (lines some : List Line) (line : Line) (file : ℕ) → IsOther line → live_line lines (some ++ line ∷ []) file ≡ live_line lines some file
live_line-other lines some line file other = live_line-with lines some _ line file (spans_of_file-other some line file other)

-- one file id as another

pub at_positive : (file : ℕ) (span : Option Span) → nat_lt 0 file ≡ true → at_file_id file span ≡ span
at_positive file span positive = rw positive refl

pub at_zero : (file : ℕ) (one other : Option Span) → nat_lt 0 file ≡ false → at_file_id file one ≡ at_file_id file other
at_zero file one other is = rw is refl

same_file : (one other : ℕ) → (one == other) ≡ true → one ≡ other
same_file one other is = grind (arith, nat_tests, is)

and_parts : (a b : Bool) → (a && b) ≡ true → (a ≡ true) × (b ≡ true)
and_parts true b is = (refl, is)
and_parts false b is = absurd cc

-- the steps over lines

pub lines_more : (lines : List RustLine) (i : ℕ) (d line : RustLine) → i < length lines → get_or lines i d ≡ line
    → map line_of (take (i + 1) lines) ≡ map line_of (take i lines) ++ line_of line ∷ []
lines_more lines i d line lt is =
    ap (map line_of) (take_more lines i d lt) ∙ map-append line_of (take i lines) (get_or lines i d ∷ [])
    ∙ ap (λ (l : RustLine). map line_of (take i lines) ++ line_of l ∷ []) is

no_log : (line : RustLine) → ((span : FileSpan) → line ≡ LogLine span → ⊥) → IsOther (line_of line)
no_log (LogLine span) not = absurd (not span refl)
no_log (ArchiveLine archive) not = refl
no_log (GoneLine copy) not = refl

pub lines_put : (lines : List Line) (span : Span) (old new : BTreeMap ℕ FileSpan) → HasSpans old (by_line lines)
    → (nat_lt 0 span.file && is_newer span (span_at old span.file)) ≡ true → Puts (marked true span) old new
    → HasSpans new (by_line (lines ++ logged span ∷ []))
lines_put lines span old new has is_put puts file = puts file ∙ by (span.file == file) refl
  where
    positive : nat_lt 0 span.file ≡ true
    positive = (and_parts (nat_lt 0 span.file) (is_newer span (span_at old span.file)) is_put).0

    newer : is_newer span (span_at old span.file) ≡ true
    newer = (and_parts (nat_lt 0 span.file) (is_newer span (span_at old span.file)) is_put).1

    by : (b : Bool) → (span.file == file) ≡ b → (if b then Some (marked true span) else span_at old file) ≡ at_file_id file (by_line (lines ++ logged span ∷ []) file)
    by true here =
        let same : span.file ≡ file = same_file span.file file here in
        let above : nat_lt 0 file ≡ true = subst (λ (f : ℕ). nat_lt 0 f ≡ true) same positive in
        let at_here : span_at old span.file ≡ by_line lines span.file = has span.file ∙ at_positive span.file (by_line lines span.file) positive in
        let known : is_newer span (by_line lines file) ≡ true =
        subst (λ (f : ℕ). is_newer span (by_line lines f) ≡ true) same (subst (λ (o : Option Span). is_newer span o ≡ true) at_here newer) in
        let put : newer_of true span (by_line lines file) ≡ Some (marked true span) = rw known refl in
        sym (at_positive file (by_line (lines ++ logged span ∷ []) file) above ∙ by_line-here lines span file here ∙ put)
    by false apart = has file ∙ ap (at_file_id file) (sym (by_line-apart lines span file apart))

pub lines_kept : (lines : List Line) (span : Span) (files : BTreeMap ℕ FileSpan) → HasSpans files (by_line lines)
    → (nat_lt 0 span.file && is_newer span (span_at files span.file)) ≡ false → HasSpans files (by_line (lines ++ logged span ∷ []))
lines_kept lines span files has not_put file = by (span.file == file) refl
  where
    positive_or_not : (b : Bool) → nat_lt 0 span.file ≡ b → (span.file == file) ≡ true → (b && is_newer span (span_at files span.file)) ≡ false
        → span_at files file ≡ at_file_id file (by_line (lines ++ logged span ∷ []) file)
    positive_or_not true positive here older =
        let same : span.file ≡ file = same_file span.file file here in
        let at_here : span_at files span.file ≡ by_line lines span.file = has span.file ∙ at_positive span.file (by_line lines span.file) positive in
        let known : is_newer span (by_line lines file) ≡ false =
        subst (λ (f : ℕ). is_newer span (by_line lines f) ≡ false) same (subst (λ (o : Option Span). is_newer span o ≡ false) at_here older) in
        let kept : newer_of true span (by_line lines file) ≡ by_line lines file = rw known refl in
        has file ∙ ap (at_file_id file) (sym (by_line-here lines span file here ∙ kept))
    positive_or_not false zero_id here older =
        let same : span.file ≡ file = same_file span.file file here in
        has file ∙ at_zero file (by_line lines file) (by_line (lines ++ logged span ∷ []) file) (subst (λ (f : ℕ). nat_lt 0 f ≡ false) same zero_id)

    by : (b : Bool) → (span.file == file) ≡ b → span_at files file ≡ at_file_id file (by_line (lines ++ logged span ∷ []) file)
    by true here = positive_or_not (nat_lt 0 span.file) refl here not_put
    by false apart = has file ∙ ap (at_file_id file) (sym (by_line-apart lines span file apart))

lines_other : (lines : List Line) (line : Line) (files : BTreeMap ℕ FileSpan) → HasSpans files (by_line lines) → IsOther line
    → HasSpans files (by_line (lines ++ line ∷ []))
lines_other lines line files has other file =
    has file ∙ ap (λ spans. at_file_id file (option_map (marked true) (newest spans))) (sym (spans_of_file-other lines line file other))

pub lines_at_other : (lines : List RustLine) (i : ℕ) (d : RustLine) (files : BTreeMap ℕ FileSpan) → i < length lines
    → HasSpans files (by_line (map line_of (take i lines))) → ((span : FileSpan) → get_or lines i d ≡ LogLine span → ⊥)
    → HasSpans files (by_line (map line_of (take (i + 1) lines)))
lines_at_other lines i d files lt has differs =
    let line = get_or lines i d in
    subst (λ (ls : List Line). HasSpans files (by_line ls)) (sym (lines_more lines i d line lt refl))
    (lines_other (map line_of (take i lines)) (line_of line) files has (no_log line differs))

-- the same over live lines

abbrev pub lives : List Line → List Line → ℕ → Option Span
lives lines some file = option_or (live_line lines some file) (by_line lines file)

displaces_or : (span : Span) (live all : Option Span)
    → displaces span (option_or (option_map (marked false) live) (option_map (marked true) all)) ≡ is_newer span (option_map (marked false) live)
displaces_or span None None = refl
displaces_or span None (Some all) = refl
displaces_or span (Some live) all = refl

displaces_lives : (lines some : List Line) (span : Span) (file : ℕ) → displaces span (lives lines some file) ≡ is_newer span (live_line lines some file)
displaces_lives lines some span file =
    displaces_or span (newest (filter (λ (other : Span). is_live lines other.copy) (spans_of_file some file))) (newest (spans_of_file lines file))

-- what a map has of a span's file tells whether the span is the newest live one
tested : (lines some : List Line) (span : Span) (files : BTreeMap ℕ FileSpan) (file : ℕ) (b : Bool) → HasSpans files (lives lines some)
    → span.file ≡ file → nat_lt 0 span.file ≡ true → displaces span (span_at files span.file) ≡ b → is_newer span (live_line lines some file) ≡ b
tested lines some span files file b has same positive is =
    let at_here : span_at files span.file ≡ lives lines some span.file = has span.file ∙ at_positive span.file (lives lines some span.file) positive in
    subst (λ (f : ℕ). is_newer span (live_line lines some f) ≡ b) same
    (sym (displaces_lives lines some span span.file) ∙ subst (λ (o : Option Span). displaces span o ≡ b) at_here is)

pub lives_put : (lines some : List Line) (span : Span) (old new : BTreeMap ℕ FileSpan) → HasSpans old (lives lines some)
    → (nat_lt 0 span.file && (is_live lines span.copy && displaces span (span_at old span.file))) ≡ true → Puts (marked false span) old new
    → HasSpans new (lives lines (some ++ logged span ∷ []))
lives_put lines some span old new has is_put puts file = puts file ∙ by (span.file == file) refl
  where
    behind : (is_live lines span.copy && displaces span (span_at old span.file)) ≡ true
    behind = (and_parts (nat_lt 0 span.file) (is_live lines span.copy && displaces span (span_at old span.file)) is_put).1

    positive : nat_lt 0 span.file ≡ true
    positive = (and_parts (nat_lt 0 span.file) (is_live lines span.copy && displaces span (span_at old span.file)) is_put).0

    live : is_live lines span.copy ≡ true
    live = (and_parts (is_live lines span.copy) (displaces span (span_at old span.file)) behind).0

    newer : displaces span (span_at old span.file) ≡ true
    newer = (and_parts (is_live lines span.copy) (displaces span (span_at old span.file)) behind).1

    by : (b : Bool) → (span.file == file) ≡ b → (if b then Some (marked false span) else span_at old file) ≡ at_file_id file (lives lines (some ++ logged span ∷ []) file)
    by true here =
        let same : span.file ≡ file = same_file span.file file here in
        let above : nat_lt 0 file ≡ true = subst (λ (f : ℕ). nat_lt 0 f ≡ true) same positive in
        let known : is_newer span (live_line lines some file) ≡ true = tested lines some span old file true has same positive newer in
        let put : newer_of false span (live_line lines some file) ≡ Some (marked false span) = rw known refl in
        sym (at_positive file (lives lines (some ++ logged span ∷ []) file) above
        ∙ ap (λ (o : Option Span). option_or o (by_line lines file)) (live_line-here lines some span file here live ∙ put))
    by false apart = has file ∙ ap (λ (o : Option Span). at_file_id file (option_or o (by_line lines file))) (sym (live_line-apart lines some span file apart))

pub lives_kept : (lines some : List Line) (span : Span) (files : BTreeMap ℕ FileSpan) → HasSpans files (lives lines some)
    → (nat_lt 0 span.file && (is_live lines span.copy && displaces span (span_at files span.file))) ≡ false
    → HasSpans files (lives lines (some ++ logged span ∷ []))
lives_kept lines some span files has not_put file = by (span.file == file) refl
  where
    Kept : Type 0
    Kept = span_at files file ≡ at_file_id file (lives lines (some ++ logged span ∷ []) file)

    unchanged : live_line lines (some ++ logged span ∷ []) file ≡ live_line lines some file → Kept
    unchanged is = has file ∙ ap (λ (o : Option Span). at_file_id file (option_or o (by_line lines file))) (sym is)

    live_or_dead : (b : Bool) → is_live lines span.copy ≡ b → nat_lt 0 span.file ≡ true → (span.file == file) ≡ true
        → (b && displaces span (span_at files span.file)) ≡ false → Kept
    live_or_dead true live positive here older =
        let known : is_newer span (live_line lines some file) ≡ false = tested lines some span files file false has (same_file span.file file here) positive older in
        let kept : newer_of false span (live_line lines some file) ≡ live_line lines some file = rw known refl in
        unchanged (live_line-here lines some span file here live ∙ kept)
    live_or_dead false dead positive here older = unchanged (live_line-dead lines some span file here dead)

    positive_or_not : (b : Bool) → nat_lt 0 span.file ≡ b → (span.file == file) ≡ true
        → (b && (is_live lines span.copy && displaces span (span_at files span.file))) ≡ false → Kept
    positive_or_not true positive here older = live_or_dead (is_live lines span.copy) refl positive here older
    positive_or_not false zero_id here older =
        has file ∙ at_zero file (lives lines some file) (lives lines (some ++ logged span ∷ []) file)
        (subst (λ (f : ℕ). nat_lt 0 f ≡ false) (same_file span.file file here) zero_id)

    by : (b : Bool) → (span.file == file) ≡ b → Kept
    by true here = positive_or_not (nat_lt 0 span.file) refl here not_put
    by false apart = unchanged (live_line-apart lines some span file apart)

lives_other : (lines some : List Line) (line : Line) (files : BTreeMap ℕ FileSpan) → HasSpans files (lives lines some) → IsOther line
    → HasSpans files (lives lines (some ++ line ∷ []))
lives_other lines some line files has other file =
    has file ∙ ap (λ (o : Option Span). at_file_id file (option_or o (by_line lines file))) (sym (live_line-other lines some line file other))

pub lives_at_other : (all : List Line) (lines : List RustLine) (i : ℕ) (d : RustLine) (files : BTreeMap ℕ FileSpan) → i < length lines
    → HasSpans files (lives all (map line_of (take i lines))) → ((span : FileSpan) → get_or lines i d ≡ LogLine span → ⊥)
    → HasSpans files (lives all (map line_of (take (i + 1) lines)))
lives_at_other all lines i d files lt has differs =
    let line = get_or lines i d in
    subst (λ (ls : List Line). HasSpans files (lives all ls)) (sym (lines_more lines i d line lt refl))
    (lives_other all (map line_of (take i lines)) (line_of line) files has (no_log line differs))

-- the steps over held files

abbrev pub held_of : Span → Span
held_of span = marked false (record span { copy = 0 })

pub held_put : (span : Span) (rest : List Span) (backed : ℕ) (first old new : BTreeMap ℕ FileSpan) → PutsHeld rest backed first old
    → nat_lt backed span.file ≡ true → Puts (held_of span) old new → PutsHeld (span ∷ rest) backed first new
held_put span rest backed first old new has behind puts file = puts file ∙ by (span.file == file) refl
  where
    by : (b : Bool) → (span.file == file) ≡ b → (if b then Some (held_of span) else span_at old file)
        ≡ option_or (if (b && nat_lt backed file) then Some (held_of span) else held_span rest backed file) (span_at first file)
    by true here = let above : nat_lt backed file ≡ true = subst (λ (f : ℕ). nat_lt backed f ≡ true) (same_file span.file file here) behind in rw above refl
    by false apart = has file

pub held_kept : (span : Span) (rest : List Span) (backed : ℕ) (first old : BTreeMap ℕ FileSpan) → PutsHeld rest backed first old
    → nat_lt backed span.file ≡ false → PutsHeld (span ∷ rest) backed first old
held_kept span rest backed first old has backed_up file = by (span.file == file) refl
  where
    by : (b : Bool) → (span.file == file) ≡ b → span_at old file
        ≡ option_or (if (b && nat_lt backed file) then Some (held_of span) else held_span rest backed file) (span_at first file)
    by true here = let above : nat_lt backed file ≡ false = subst (λ (f : ℕ). nat_lt backed f ≡ false) (same_file span.file file here) backed_up in rw above (has file)
    by false apart = has file
