-- How a call of several steps comes out of its steps, for the layers above: its images, and what it uses of a disk.
use Rattle.std.proofs.Common.{◌≡◌, ℕ, ◌+◌, ◌<◌, ◌≤◌, List, inl, inr, arith, ⊎_elim, ◌∙◌, refl, subst, sym}
use Rattle.std.specs.Prelude.{Result, Ok, Err, OnOk}
use Rattle.site_disk.specs.Bytes.{Torn, Same}
use Rattle.site_disk.specs.BytesLaws.{torn_wider, torn_again}
use Rattle.site_disk.specs.Images.{Leaves, OnlyAfter, Unchanged}
use Rattle.site_disk.specs.Ledger.{Ledger, EraView, MayUse, Uses, Spends, CountsWrite}
use Rattle.site_disk.specs.ImagesLaws.{goes_on}

module _ (R : List ℕ → List ℕ → Type 0) (e : ℕ) (old mid new : ℕ → List ℕ → Type 0) where
  -- from a call that changed no image
  pub from_unchanged : Unchanged old mid → Leaves e R mid new → Leaves e R old new
  from_unchanged same l = record {
    earlier = λ f c lt image. same.back f c (l.earlier f c lt image);
    during = λ c image. ⊎_elim (λ was. inl (same.back e c was)) (λ step. inr (step.0, same.back (e + 1) step.0 step.1, step.2)) (l.during c image);
    later = λ f c lt image. let from = l.later f c lt image in (from.0, same.back f from.0 from.1, from.2);
  }

  -- a call that changed none leaves what any step may
  pub leaves_nothing : ((c : List ℕ) → R c c) → Unchanged old new → Leaves e R old new
  leaves_nothing reflexive same = record {
    earlier = λ f c lt image. same.back f c image;
    during = λ c image. inl (same.back e c image);
    later = λ f c lt image. (c, same.back f c image, reflexive c);
  }

-- a write within the range that was written before
pub torn_within : (from len at n e : ℕ) (old mid new : ℕ → List ℕ → Type 0) → from ≤ at → at + n ≤ from + len
    → Leaves e (Torn from len) old mid → Leaves e (Torn at n) mid new → Leaves e (Torn from len) old new
torn_within from len at n e old mid new le end first second =
    goes_on (Torn from len) (Torn at n) e old mid new first second
    (λ f d c lt image torn. let was = first.later f d lt image in
    (was.0, was.1, torn_again from len was.0 d c was.2 (torn_wider at n from len d c le end torn)))

-- one write more
pub uses_write : {era : EraView} {writes n all : ℕ} {old mid new : Ledger} → Uses era 0 writes old mid → CountsWrite era n mid new → mid.faults ≤ new.faults → writes + n ≤ all → Uses era 0 all old new
uses_write {era = era} {all = all} {old = old} {mid = mid} {new = new} so_far write later le = record {
  key = write.key ∙ so_far.key;
  no_earlier = omega (arith, so_far.no_earlier, so_far.no_later, write.last);
  no_later = omega (arith, write.last);
  faults = omega (arith, so_far.faults, later);
  read = omega (arith, so_far.read, write.read);
  written = omega (arith, so_far.written, write.written, le);
  synced = omega (arith, so_far.synced, so_far.no_later, write.synced, write.last);
  later = omega (arith, so_far.later, write.synced);
}

-- a sync or a read after it
pub then_same : (R : List ℕ → List ℕ → Type 0) (e : ℕ) (old mid new : ℕ → List ℕ → Type 0) → Leaves e R old mid → Leaves e Same mid new → Leaves e R old new
then_same R e old mid new first second =
    goes_on R Same e old mid new first second
    (λ f d c lt image same. let was = first.later f d lt image in (was.0, was.1, subst (λ (l : List ℕ). R was.0 l) (sym same) was.2))

-- calls that change no image
pub unchanged_same : {images : ℕ → List ℕ → Type 0} → Unchanged images images
unchanged_same = record { forth = λ f c image. image; back = λ f c image. image }

pub unchanged_again : {old mid new : ℕ → List ℕ → Type 0} → Unchanged old mid → Unchanged mid new → Unchanged old new
unchanged_again first second = record { forth = λ f c image. second.forth f c (first.forth f c image); back = λ f c image. first.back f c (second.back f c image) }

-- nothing yet
pub uses_nothing : {era : EraView} {ledger : Ledger} → MayUse era ledger → Uses era 0 0 ledger ledger
uses_nothing may = record {
  key = refl;
  no_earlier = omega arith;
  no_later = may.not_past;
  faults = omega arith;
  read = omega arith;
  written = omega arith;
  synced = may.synced;
  later = omega arith;
}

-- one call after another
pub uses_again : {era : EraView} {reads more all : ℕ} {old mid new : Ledger} → Uses era reads 0 old mid → Uses era more 0 mid new → reads + more ≤ all → Uses era all 0 old new
uses_again first second le = record {
  key = second.key ∙ first.key;
  no_earlier = omega (arith, first.no_earlier, second.no_earlier);
  no_later = second.no_later;
  faults = omega (arith, first.faults, second.faults);
  read = omega (arith, first.read, second.read, le);
  written = omega (arith, first.written, second.written);
  synced = second.synced;
  later = omega (arith, first.later, second.later);
}

-- one call after another, of reads and writes
pub uses_both : {era : EraView} {reads writes more_reads more_writes all_reads all_writes : ℕ} {old mid new : Ledger} → Uses era reads writes old mid → Uses era more_reads more_writes mid new
    → reads + more_reads ≤ all_reads → writes + more_writes ≤ all_writes → Uses era all_reads all_writes old new
uses_both first second reads writes = record {
  key = second.key ∙ first.key;
  no_earlier = omega (arith, first.no_earlier, second.no_earlier);
  no_later = second.no_later;
  faults = omega (arith, first.faults, second.faults);
  read = omega (arith, first.read, second.read, reads);
  written = omega (arith, first.written, second.written, writes);
  synced = second.synced;
  later = omega (arith, first.later, second.later);
}

-- at most so many bytes are at most more
pub uses_more : {era : EraView} {reads writes more_reads more_writes : ℕ} {old new : Ledger} → Uses era reads writes old new → reads ≤ more_reads → writes ≤ more_writes
    → Uses era more_reads more_writes old new
uses_more uses reads writes = record {
  key = uses.key;
  no_earlier = uses.no_earlier;
  no_later = uses.no_later;
  faults = uses.faults;
  read = omega (arith, uses.read, reads);
  written = omega (arith, uses.written, writes);
  synced = uses.synced;
  later = uses.later;
}

-- what was used in an era may be used in it again
pub may_use_again : {era : EraView} {reads writes : ℕ} {old new : Ledger} → MayUse era old → Uses era reads writes old new → MayUse era new
may_use_again may uses = record { key = uses.key ∙ may.key; not_past = uses.no_later; synced = uses.synced }

-- and in each later era
pub may_use_later : {from to : EraView} {ledger : Ledger} → from.number ≤ to.number → to.key ≡ from.key → MayUse from ledger → MayUse to ledger
may_use_later eras key may = record { key = may.key ∙ sym key; not_past = omega (arith, eras, may.not_past); synced = may.synced }

-- calls of several eras

-- a disk that isn't used
pub spends_nothing : {from to : EraView} {ledger : Ledger} → from.number ≤ to.number → to.key ≡ from.key → MayUse from ledger → Spends from to 0 0 ledger ledger
spends_nothing eras key may = record {
  eras = eras;
  same_key = key;
  may = may_use_later eras key may;
  no_earlier = omega arith;
  faults = omega arith;
  read = omega arith;
  written = omega arith;
  later = omega arith;
}

-- a call of one era
pub spends_in_one : {era : EraView} {reads writes : ℕ} {old new : Ledger} → MayUse era old → Uses era reads writes old new → Spends era era reads writes old new
spends_in_one may uses = record {
  eras = omega arith;
  same_key = refl;
  may = may_use_again may uses;
  no_earlier = uses.no_earlier;
  faults = uses.faults;
  read = uses.read;
  written = uses.written;
  later = uses.later;
}

-- one call after another
pub spends_again : {from mid to : EraView} {reads writes more_reads more_writes all_reads all_writes : ℕ} {old between new : Ledger} → Spends from mid reads writes old between
    → Spends mid to more_reads more_writes between new → reads + more_reads ≤ all_reads → writes + more_writes ≤ all_writes → Spends from to all_reads all_writes old new
spends_again first second reads writes = record {
  eras = omega (arith, first.eras, second.eras);
  same_key = second.same_key ∙ first.same_key;
  may = second.may;
  no_earlier = omega (arith, first.no_earlier, second.no_earlier);
  faults = omega (arith, first.faults, second.faults);
  read = omega (arith, first.read, second.read, reads);
  written = omega (arith, first.written, second.written, writes);
  later = omega (arith, first.later, second.later);
}

-- up to a later era, in which the disk isn't used
pub spends_later : {from mid to : EraView} {reads writes : ℕ} {old new : Ledger} → Spends from mid reads writes old new → mid.number ≤ to.number → to.key ≡ mid.key
    → Spends from to reads writes old new
spends_later spends eras key = spends_again spends (spends_nothing eras key spends.may) (omega arith) (omega arith)

-- what holds at the Ok of a last call
pub on_ok : {T E P Q : Type 0} (result : Result T E) → (P → Q) → OnOk result P → OnOk result Q
on_ok (Ok x) means is = means is
on_ok (Err e) means is = is

-- and of two facts
pub both_on_ok : {T E P Q R : Type 0} (result : Result T E) → (P → Q → R) → OnOk result P → OnOk result Q → OnOk result R
both_on_ok (Ok x) means p q = means p q
both_on_ok (Err e) means p q = p

-- a call after a sync, from bytes that are known by then
pub from_known : (R T : List ℕ → List ℕ → Type 0) (e : ℕ) (first bytes : List ℕ) (old mid new : ℕ → List ℕ → Type 0) → Leaves e R old mid
    → OnlyAfter e bytes mid → ((f : ℕ) → e < f → old f first) → Leaves e T mid new → ((c : List ℕ) → T bytes c → R first c) → Leaves e R old new
from_known R T e first bytes old mid new before only was after means =
    goes_on R T e old mid new before after
    (λ f d c lt image step. (first, was f lt, means c (subst (λ (l : List ℕ). T l c) (only f d lt image) step)))
