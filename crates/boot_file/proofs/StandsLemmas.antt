-- What a boot file that stands on its disk gives its calls.
use Rattle.std.proofs.Common.{◌≡◌, ℕ, ◌+◌, ◌*◌, ◌/◌, ◌<◌, ◌≤◌, List, [], ◌∷◌, ◌++◌, length, Option, None, Some, refl, arith, ap, sym, subst, ◌∙◌, inl, inr, ⊎_elim, length-append}
use Rattle.std.specs.Prelude.{Result, Ok, Err, OnOk, IfSome, IsSomeAnd, ◌^◌}
use Rattle.std.specs.List.{AllByRecursion, flat_map}
use Rattle.std.proofs.lemmas.List.{length-map}
use Rattle.backup_lines.specs.Lines.{Line}
use Rattle.backup_lines.specs.Views.{line_of}
use Rattle.backup_lines.specs.declared.lines.Line.{Line as RustLine}
use Rattle.boot_lines.specs.LineLayout.{IsLine, lines_of, spelling}
use Rattle.boot_lines.specs.LineLaws.{length-spellings}
use Rattle.backup_lines.specs.Spans.{Active}
use Rattle.boot_lines.specs.MarkLayout.{IsMark, active_in, spelling as mark_spelling}
use Rattle.boot_lines.specs.declared.mark.BootMark.{BootMark}
use Rattle.site_disk.specs.Bytes.{extent}
use Rattle.site_disk.specs.Images.{Seen, Leaves, OnlyAfter}
use Rattle.site_disk.specs.ImagesLaws.{weaker, begins}
use Rattle.site_disk.specs.SeenLaws.{CountsOn, synced_after}
use Rattle.gated_slots.specs.Slots.{Area, SlotsView, used, place_of, Agrees as SlotsAgree, Reaches, Gains, MayGain}
use Rattle.gated_slots.specs.SlotsLaws.{agrees_synced}
use Rattle.twin_mark.specs.Marks.{MarkView, Knows, MayStore, current}
use Rattle.boot_file.specs.Places.{lines_area, HoldsBoot, MayBecome}
use Rattle.boot_file.specs.PlacesLaws.{all_append, boot_gained, gain_either, store_either}
use Rattle.boot_file.specs.Boots.{number_in, restore_in, IsMade, TellsOf, Stands}
use Rattle.boot_file.specs.Numbers.{number_after, IsNumbered, MayFollow}
use Rattle.boot_file.specs.declared.boot.Boot.{Boot}

module _ {D : Type 0} (site number : ℕ) (lines : List Line) (active : Option Active) (disk : Seen) (boot : Boot D) (stands : Stands site lines number active disk boot) where
  used_is : used boot.slots.area disk.bytes ≡ boot.slots.used
  used_is = ap (λ (a : Area). used a disk.bytes) stands.made.area ∙ stands.now.slots.used ∙ sym stands.tells.used

  pub slots_agree : SlotsAgree boot.slots disk
  slots_agree = agrees_synced boot.slots disk stands.synced used_is

  pub slots_reach : Reaches boot.slots disk.bytes
  slots_reach =
      subst (λ (a : Area). place_of a boot.slots.used ≤ length disk.bytes) (sym stands.made.area)
      (subst (λ (n : ℕ). place_of lines_area n ≤ length disk.bytes) (sym stands.tells.used) stands.now.slots.reaches)

-- a value behind a call that ended in a sync
pub stands_of : {D : Type 0} (site number : ℕ) (lines : List Line) (active : Option Active) (e : ℕ) (disk : Seen) (boot : Boot D) → IsMade boot → TellsOf lines number active boot
    → Knows boot.mark disk.bytes → CountsOn disk → disk.last ≤ e → OnlyAfter e disk.bytes disk.images → HoldsBoot site lines number active disk.bytes
    → Stands site lines number active disk boot
stands_of site number lines active e disk boot made tells knows counts le only holds = record {
  made = made;
  tells = tells;
  knows = knows;
  synced = synced_after disk e counts le only;
  now = holds;
}

-- a value that differs in nothing that it tells
pub told_like : {D : Type 0} (number : ℕ) (lines : List Line) (active : Option Active) (boot other : Boot D) → other.slots ≡ boot.slots → other.state ≡ boot.state
    → lines_of other.lines.items ≡ lines_of boot.lines.items → TellsOf lines number active boot → TellsOf lines number active other
told_like number lines active boot other slots state same tells = record {
  each = tells.each;
  is_mark = tells.is_mark;
  lines_are = same ∙ tells.lines_are;
  number_is = ap (λ (s : BootMark). s.last_number) state ∙ tells.number_is;
  active_is = ap (λ (s : BootMark). active_in s.restore) state ∙ tells.active_is;
  used = ap (λ (s : SlotsView). s.used) slots ∙ tells.used;
}

pub stands_like : {D : Type 0} (site number : ℕ) (lines : List Line) (active : Option Active) (disk : Seen) (boot other : Boot D) → other.mark ≡ boot.mark → other.slots ≡ boot.slots
    → other.state ≡ boot.state → lines_of other.lines.items ≡ lines_of boot.lines.items → Stands site lines number active disk boot → Stands site lines number active disk other
stands_like site number lines active disk boot other mark slots state same stands = record {
  made = record { mark = ap (λ (m : MarkView). m.base) mark ∙ stands.made.mark; area = ap (λ (s : SlotsView). s.area) slots ∙ stands.made.area };
  tells = told_like number lines active boot other slots state same stands.tells;
  knows = subst (λ (m : MarkView). Knows m disk.bytes) (sym mark) stands.knows;
  synced = stands.synced;
  now = stands.now;
}

-- and after a sync
pub stands_synced : {D : Type 0} (site number : ℕ) (lines : List Line) (active : Option Active) (e : ℕ) (old new : Seen) (boot other : Boot D) → other.mark ≡ boot.mark → other.slots ≡ boot.slots
    → other.state ≡ boot.state → lines_of other.lines.items ≡ lines_of boot.lines.items → CountsOn new → new.last ≤ e → new.bytes ≡ old.bytes → OnlyAfter e new.bytes new.images
    → Stands site lines number active old boot → Stands site lines number active new other
stands_synced site number lines active e old new boot other mark slots state same counts le bytes only stands =
    let like = stands_like site number lines active old boot other mark slots state same stands in record {
      made = like.made;
      tells = like.tells;
      knows = subst (λ (l : List ℕ). Knows other.mark l) (sym bytes) like.knows;
      synced = synced_after new e counts le only;
      now = subst (HoldsBoot site lines number active) (sym bytes) stands.now;
    }

-- the mark's slot is known where its region hasn't changed
pub knows_still : (mark : MarkView) (old new : List ℕ) → mark.base ≡ 4096 → extent 4096 1024 new ≡ extent 4096 1024 old → Knows mark old → Knows mark new
knows_still mark old new base same knows =
    ap (λ (b : ℕ). current (extent b 1024 new)) base ∙ ap current same ∙ sym (ap (λ (b : ℕ). current (extent b 1024 old)) base) ∙ knows

-- three facts of a last call
pub all_on_ok : {T E P Q R S : Type 0} (result : Result T E) → (P → Q → R → S) → OnOk result P → OnOk result Q → OnOk result R → OnOk result S
all_on_ok (Ok x) means p q r = means p q r
all_on_ok (Err e) means p q r = tt

-- what lines come to

pub count_lines : (lines : List RustLine) → length (lines_of lines) ≡ length lines
count_lines lines = length-map lines line_of

pub count_bytes : (lines : List RustLine) (bytes : List ℕ) → bytes ≡ flat_map spelling (lines_of lines) → length bytes ≡ 128 * length lines
count_bytes lines bytes is = ap (λ (l : List ℕ). length l) is ∙ length-spellings (lines_of lines) ∙ ap (λ (k : ℕ). 128 * k) (count_lines lines)

pub count_slots : (len n : ℕ) → len ≡ 128 * n → len / 128 ≡ n
count_slots len n is = omega (arith, is)

-- lines behind those that stand there

module _ (site number : ℕ) (lines more : List Line) (active : Option Active) (n : ℕ) (bytes : List ℕ) (area : Area) (each : AllByRecursion IsLine more) (count : n ≡ length more) (some : 1 ≤ length more)
    (is : area ≡ lines_area) (spelled : bytes ≡ flat_map spelling more) where
  module _ (old new : List ℕ) (gains : Gains area n bytes old new) where
    gains_here : Gains lines_area n (flat_map spelling more) old new
    gains_here = subst (λ (l : List ℕ). Gains lines_area n l old new) spelled (subst (λ (a : Area). Gains a n bytes old new) is gains)

    pub gained : HoldsBoot site lines number active old → HoldsBoot site (lines ++ more) number active new
    gained holds = boot_gained site number lines more active n old new holds each count some gains_here

    pub gained_mark : extent 4096 1024 new ≡ extent 4096 1024 old
    gained_mark = gains_here.elsewhere 4096 1024 (inl (omega arith)) (inl (omega arith))

  pub gain_becomes : (e : ℕ) (old new : ℕ → List ℕ → Type 0) → Leaves e (MayGain area n bytes) old new
      → Leaves e (MayBecome (HoldsBoot site lines number active) (HoldsBoot site (lines ++ more) number active)) old new
  gain_becomes e old new call =
      weaker (MayBecome (HoldsBoot site lines number active) (HoldsBoot site (lines ++ more) number active)) (MayGain area n bytes) e old old new call
      (λ f d c lt image may holds. gain_either site number lines more active n d c holds each count some
      (subst (λ (l : List ℕ). MayGain lines_area n l d c) spelled (subst (λ (a : Area). MayGain a n bytes d c) is may)))

-- the value that has them
pub told_more : {D : Type 0} (number : ℕ) (lines more : List Line) (active : Option Active) (old new : Boot D) → AllByRecursion IsLine more → TellsOf lines number active old
    → lines_of new.lines.items ≡ lines_of old.lines.items ++ more → new.state ≡ old.state → new.slots.used ≡ old.slots.used + length more
    → TellsOf (lines ++ more) number active new
told_more number lines more active old new each tells are same count = record {
  each = all_append lines more tells.each each;
  is_mark = tells.is_mark;
  lines_are = are ∙ ap (λ (l : List Line). l ++ more) tells.lines_are;
  number_is = ap (λ (s : BootMark). s.last_number) same ∙ tells.number_is;
  active_is = ap (λ (s : BootMark). active_in s.restore) same ∙ tells.active_is;
  used = omega (arith, count, tells.used, length-append lines more);
}

-- a call that has written nothing
pub becomes_none : (before after : List ℕ → Type 0) (e : ℕ) (old : ℕ → List ℕ → Type 0) → Leaves e (MayBecome before after) old old
becomes_none before after e old = begins (MayBecome before after) (MayBecome before after) e old old old (λ c holds. inl holds)

-- another restore

pub store_becomes : (site number next : ℕ) (lines : List Line) (active following : Option Active) (e : ℕ) (old new : ℕ → List ℕ → Type 0) → IsMark next following
    → Leaves e (MayStore 4096 (mark_spelling next following)) old new
    → Leaves e (MayBecome (HoldsBoot site lines number active) (HoldsBoot site lines next following)) old new
store_becomes site number next lines active following e old new is_mark call =
    weaker (MayBecome (HoldsBoot site lines number active) (HoldsBoot site lines next following)) (MayStore 4096 (mark_spelling next following)) e old old new call
    (λ f d c lt image may holds. store_either site number next lines active following d c holds is_mark may)

-- a restore that may follow has a record
pub follows_mark : (number : ℕ) (was following : Option Active) → IsMark number was → (IfSome following (MayFollow number was)) → number_after number following ≤ 2 ^ 48
    → IsMark (number_after number following) following
follows_mark number was None before may few = record { bounded = few; follows = tt }
follows_mark number was (Some a) before may few = record { bounded = few; follows = (refl, positive number was a.number before may.numbered, may.goal) }
  where
    same : (n : ℕ) (w : Option Active) (next : ℕ) → IsMark n w → IsSomeAnd w (λ active. next ≡ active.number) → 1 ≤ next
    same n None next is it = absurd it
    same n (Some active) next is it = omega (arith, it, is.follows.0, is.follows.1)

    positive : (n : ℕ) (w : Option Active) (next : ℕ) → IsMark n w → IsNumbered n w next → 1 ≤ next
    positive n w next is numbered = ⊎_elim (λ behind. omega (arith, behind)) (λ it. same n w next is it) numbered

pub told_record : {D : Type 0} (number next : ℕ) (lines : List Line) (active following : Option Active) (old new : Boot D) → IsMark next following → TellsOf lines number active old
    → lines_of new.lines.items ≡ lines_of old.lines.items → new.slots ≡ old.slots → new.state.last_number ≡ next → active_in new.state.restore ≡ following
    → TellsOf lines next following new
told_record number next lines active following old new is_mark tells same slots number_is active_is = record {
  each = tells.each;
  is_mark = is_mark;
  lines_are = same ∙ tells.lines_are;
  number_is = number_is;
  active_is = active_is;
  used = ap (λ (s : SlotsView). s.used) slots ∙ tells.used;
}

-- the number that a restore comes to have, and its record
pub set_mark : {D : Type 0} (number n : ℕ) (lines : List Line) (active following : Option Active) (boot : Boot D) → TellsOf lines number active boot
    → IfSome following (MayFollow (number_in boot) (restore_in boot)) → n ≡ number_after (number_in boot) following → n ≤ 2 ^ 48
    → (n ≡ number_after number following) × IsMark (number_after number following) following
set_mark number n lines active following boot tells follows is few =
    let n_is : n ≡ number_after number following = is ∙ ap (λ (k : ℕ). number_after k following) tells.number_is in
    let here = subst (λ (k : ℕ). IfSome following (MayFollow k active)) tells.number_is
    (subst (λ (a : Option Active). IfSome following (MayFollow (number_in boot) a)) tells.active_is follows) in
    (n_is, follows_mark number active following tells.is_mark here (subst (λ (k : ℕ). k ≤ 2 ^ 48) n_is few))
