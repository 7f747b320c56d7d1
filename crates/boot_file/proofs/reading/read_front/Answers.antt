use Rattle.std.proofs.Common.{◌≡◌, ℕ, List, Option, subst, sym, refl, inl}
use Rattle.std.specs.Prelude.{IfErr}
use Rattle.std.proofs.lemmas.Bool.{both_ways}
use Rattle.site_headers.specs.Headers.{HasHeader}
use Rattle.backup_lines.specs.Spans.{Active}
use Rattle.boot_file.specs.Places.{boot_tail, HoldsMark}
use Rattle.boot_file.specs.Answers.{no_slot, IsRefusal, IsBadBoot}
use Rattle.boot_file.specs.declared.faults.BootFault.{BootFault}
use Rattle.boot_file.specs.declared.faults.BootFault.TheVariants.{BadRecord}
use Rattle.boot_file.proofs.ReadingLemmas.{bad_mark, always, on_fault}
use Rattle.boot_file.proofs.reading.read_front.Goals as goal

pub returns-then-not-branch-clause-bad : goal.returns-then-not-branch-clause-bad
returns-then-not-branch-clause-bad g c tells =
    inl (record { slot_is = refl; header = λ has. both_ways c.in_ok-has_boot_header.field-0 c.if-not-branch.true ((c.in_ok-has_boot_header.ensures.header tells).1 has) })

pub returns-clause-header : goal.returns-clause-header
returns-clause-header g c tells = always c.load_mark.result ((c.in_ok-has_boot_header.ensures.header tells).0 c.if-not-branch.false)

pub returns-clause-bad : goal.returns-clause-bad
returns-clause-bad g c tells =
    let site : ℕ = c.args.site in
    let mid : List ℕ = g.D.Disk.bytes c.has_boot_header.new.disk in
    let same = c.in_ok-has_boot_header.ensures.bytes in
    let header : HasHeader (boot_tail site) mid = subst (HasHeader (boot_tail site)) (sym same) ((c.in_ok-has_boot_header.ensures.header tells).0 c.if-not-branch.false) in
    subst (λ (l : List ℕ). IfErr c.load_mark.result (IsBadBoot site l)) same
    (on_fault (λ (fault : BootFault). IsRefusal fault → (fault ≡ BadRecord no_slot) × ((number : ℕ) (active : Option Active) → HoldsMark number active mid → ⊥)) (IsBadBoot site mid) c.load_mark.result
    (λ fault other. bad_mark site mid fault header other) (c.load_mark.ensures.other tells))
