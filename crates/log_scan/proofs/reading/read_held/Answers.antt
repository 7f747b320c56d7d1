use Rattle.std.proofs.Common.{◌≡◌, ◌≤◌, ℕ, List, length, arith, ap, sym, subst, ◌∙◌, inl, inr, Some, Vec, Global}
use Rattle.std.proofs.lemmas.Result.{err_from_is_err_and}
use Rattle.site_disk.specs.CallsLaws.{uses_again}
use Rattle.gated_slots.specs.Slots.{SlotsView, end_of_gates}
use Rattle.twin_mark.specs.Marks.{Knows, record_at}
use Rattle.log_mark.specs.declared.mark.LogMark.{LogMark}
use Rattle.log_mark.specs.Layout.{IsMark, spelling as mark_spelling}
use Rattle.log_files.specs.Files.{total}
use Rattle.log_files.specs.Ring.{area_of}
use Rattle.log_scan.specs.Fronts.{Names, HasFront, counts_on}
use Rattle.log_scan.specs.Filing.{HasFiles, IsStopped}
use Rattle.log_scan.specs.Refusals.{IsBadFront}
use Rattle.log_scan.specs.Scans.{IsCounted}
use Rattle.log_scan.proofs.ScanLemmas.{handed_on}
use Rattle.log_scan.proofs.FoundLemmas.{one_number, at_some, at_pair, at_none, bad_front, bad_slot, few_slots, found_of, behind_of}
use Rattle.log_scan.proofs.reading.read_held.Goals as goal

pub returns-in_default-2-clause-bad : goal.returns-in_default-2-clause-bad
returns-in_default-2-clause-bad g c tells number is =
    let marked = c.in-Some.marked in
    let bytes = g.D.Disk.bytes c.args.disk.now in
    let read = c.in_ok-marked.ensures in
    let ok = at_some IsMark c.in_ok-marked.field-0 marked c.in-Some.is read.fits in
    let stands = at_some (λ (named : LogMark). record_at 4096 bytes ≡ Some (mark_spelling named)) c.in_ok-marked.field-0 marked c.in-Some.is (read.found tells) in
    let none = at_none c.in_ok-counts.field-0 _ c.in_default-2.is (c.in_ok-counts.ensures.none tells) in
    let front : IsBadFront bytes 4294967295 = bad_front marked bytes ok stands
    (λ names reaches. none (subst (λ (b : List ℕ). Names marked (counts_on marked b)) (sym read.bytes) names) (omega (arith, reaches, ap (λ (l : List ℕ). length l) read.bytes))) in
    inl (subst (IsBadFront bytes) (one_number 4294967295 number is) front)

pub returns-in_err-held-clause-bad : goal.returns-in_err-held-clause-bad
returns-in_err-held-clause-bad g c tells number is =
    let marked = c.in-Some.marked in
    let bytes = g.D.Disk.bytes c.args.disk.now in
    let read = c.in_ok-marked.ensures in
    let ok = at_some IsMark c.in_ok-marked.field-0 marked c.in-Some.is read.fits in
    let stands = at_some (λ (named : LogMark). record_at 4096 bytes ≡ Some (mark_spelling named)) c.in_ok-marked.field-0 marked c.in-Some.is (read.found tells) in
    let mid = g.D.Disk.bytes c.load_record.new.disk in
    let count = at_pair (λ (v : Vec ℕ Global) (s : SlotsView). (v.items ≡ counts_on marked mid) × (end_of_gates (area_of marked.current) ≤ length mid)) c.in_ok-counts.field-0 c.in-Some-2.counts c.in-Some-2.slots c.in-Some-2.is
    (c.in_ok-counts.ensures.counts tells) in
    let named = at_pair (λ (v : Vec ℕ Global) (s : SlotsView). IsCounted marked v.items s) c.in_ok-counts.field-0 c.in-Some-2.counts c.in-Some-2.slots c.in-Some-2.is c.in_ok-counts.ensures.found in
    let last = c.in_ok-counts.ensures.bytes in
    let counts : c.in-Some-2.counts.items ≡ counts_on marked bytes = count.0 ∙ ap (counts_on marked) read.bytes in
    let here : c.deref.result.now ≡ counts_on marked (g.D.Disk.bytes c.read_counts.new.disk) = c.deref.ensures.value ∙ count.0 ∙ ap (counts_on marked) (sym last) in
    let p = err_from_is_err_and c.from_residual-in_err-held.result c.from_residual-in_err-held.ensures.1 in
    let stopped : IsStopped marked bytes number = subst (λ (b : List ℕ). IsStopped marked b number) (last ∙ read.bytes)
    (c.in_err-held.ensures.bad tells here number (handed_on c.from_residual-in_err-held.result c.in_err-held.field-0.0 _ _ p.1 p.2 is)) in
    let front : HasFront marked bytes = record {
      stands = stands;
      fits = ok;
      names = subst (Names marked) counts named.names;
      reaches = omega (arith, count.1, ap (λ (l : List ℕ). length l) read.bytes);
    } in
    inr (bad_slot marked bytes number front stopped)

pub returns-in_err-held-clause-ledger : goal.returns-in_err-held-clause-ledger
returns-in_err-held-clause-ledger g c =
    let marked = c.in-Some.marked in
    let ok = at_some IsMark c.in_ok-marked.field-0 marked c.in-Some.is c.in_ok-marked.ensures.fits in
    let named = at_pair (λ (v : Vec ℕ Global) (s : SlotsView). IsCounted marked v.items s) c.in_ok-counts.field-0 c.in-Some-2.counts c.in-Some-2.slots c.in-Some-2.is c.in_ok-counts.ensures.found in
    let few = few_slots marked c.in-Some-2.counts.items c.in-Some-2.slots ok named in
    let front = uses_again {all = 2816} c.in_ok-marked.ensures.ledger c.in_ok-counts.ensures.ledger (omega arith) in
    uses_again front c.in_err-held.ensures.ledger (omega (arith, few, ap (λ (l : List ℕ). total l) c.deref.ensures.value))

pub returns-clause-found : goal.returns-clause-found
returns-clause-found g c =
    let marked = c.in-Some.marked in
    let bytes = g.D.Disk.bytes c.read_counts.new.disk in
    let named = at_pair (λ (v : Vec ℕ Global) (s : SlotsView). IsCounted marked v.items s) c.in_ok-counts.field-0 c.in-Some-2.counts c.in-Some-2.slots c.in-Some-2.is c.in_ok-counts.ensures.found in
    let has : HasFiles g.D.Disk.is_modelled marked c.in-Some-2.counts.items bytes c.in_ok-held.held =
    subst (λ (l : List ℕ). HasFiles g.D.Disk.is_modelled marked l bytes c.in_ok-held.held) c.deref.ensures.value c.in_ok-held.ensures.files in
    record {
      files = has.files;
      told = found_of g.D.Disk.is_modelled marked c.in-Some-2.counts.items bytes (record { mark = c.load_record.new.mark; slots = c.in-Some-2.slots; held = c.in_ok-held.held })
          (c.in_ok-marked.ensures.base ∙ c.new-mark.ensures) named has;
    }

pub returns-clause-holds : goal.returns-clause-holds
returns-clause-holds g c tells synced =
    let marked = c.in-Some.marked in
    let bytes = g.D.Disk.bytes c.args.disk.now in
    let read = c.in_ok-marked.ensures in
    let mid = g.D.Disk.bytes c.load_record.new.disk in
    let stands = at_some (λ (named : LogMark). record_at 4096 bytes ≡ Some (mark_spelling named)) c.in_ok-marked.field-0 marked c.in-Some.is (read.found tells) in
    let knows = at_some (λ (named : LogMark). Knows c.load_record.new.mark bytes) c.in_ok-marked.field-0 marked c.in-Some.is (read.knows tells synced) in
    let count = at_pair (λ (v : Vec ℕ Global) (s : SlotsView). (v.items ≡ counts_on marked mid) × (end_of_gates (area_of marked.current) ≤ length mid)) c.in_ok-counts.field-0 c.in-Some-2.counts c.in-Some-2.slots c.in-Some-2.is
    (c.in_ok-counts.ensures.counts tells) in
    let named = at_pair (λ (v : Vec ℕ Global) (s : SlotsView). IsCounted marked v.items s) c.in_ok-counts.field-0 c.in-Some-2.counts c.in-Some-2.slots c.in-Some-2.is c.in_ok-counts.ensures.found in
    let has : HasFiles g.D.Disk.is_modelled marked c.in-Some-2.counts.items bytes c.in_ok-held.held =
    subst (λ (l : List ℕ). HasFiles g.D.Disk.is_modelled marked l bytes c.in_ok-held.held) c.deref.ensures.value
    (subst (λ (b : List ℕ). HasFiles g.D.Disk.is_modelled marked c.deref.result.now b c.in_ok-held.held) (c.in_ok-counts.ensures.bytes ∙ read.bytes) c.in_ok-held.ensures.files) in
    behind_of g.D.Disk.is_modelled marked c.in-Some-2.counts.items bytes (record { mark = c.load_record.new.mark; slots = c.in-Some-2.slots; held = c.in_ok-held.held })
    (read.base ∙ c.new-mark.ensures) named has tells knows stands (count.0 ∙ ap (counts_on marked) read.bytes) (omega (arith, count.1, ap (λ (l : List ℕ). length l) read.bytes))

pub returns-clause-ledger : goal.returns-clause-ledger
returns-clause-ledger g c =
    let marked = c.in-Some.marked in
    let ok = at_some IsMark c.in_ok-marked.field-0 marked c.in-Some.is c.in_ok-marked.ensures.fits in
    let named = at_pair (λ (v : Vec ℕ Global) (s : SlotsView). IsCounted marked v.items s) c.in_ok-counts.field-0 c.in-Some-2.counts c.in-Some-2.slots c.in-Some-2.is c.in_ok-counts.ensures.found in
    let few = few_slots marked c.in-Some-2.counts.items c.in-Some-2.slots ok named in
    let front = uses_again {all = 2816} c.in_ok-marked.ensures.ledger c.in_ok-counts.ensures.ledger (omega arith) in
    uses_again front c.in_ok-held.ensures.ledger (omega (arith, few, ap (λ (l : List ℕ). total l) c.deref.ensures.value))
