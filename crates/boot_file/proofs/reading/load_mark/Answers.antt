use Rattle.std.proofs.Common.{◌≡◌, ◌∙◌, ℕ, List, Option, Some, ap, sym, subst, refl}
use Rattle.std.specs.Prelude.{Result, IfOk, IfErr, IsErrOf}
use Rattle.boot_lines.specs.declared.mark.BootMark.{BootMark}
use Rattle.backup_lines.specs.Spans.{Active}
use Rattle.boot_lines.specs.MarkLayout.{active_in}
use Rattle.twin_mark.specs.Marks.{record_at}
use Rattle.twin_mark.specs.declared.mark.MarkFault.TheVariants.{NoMark}
use Rattle.boot_file.specs.Places.{HoldsMark}
use Rattle.boot_file.specs.Answers.{no_slot, IsRefusal}
use Rattle.boot_file.specs.declared.faults.BootFault.{BootFault}
use Rattle.boot_file.specs.declared.faults.BootFault.TheVariants.{BadRecord}
use Rattle.boot_file.proofs.ReadingLemmas.{held_mark, other_mark, no_mark}
use Rattle.boot_file.proofs.reading.load_mark.Goals as goal

pub returns-in-Ok-clause-held : goal.returns-in-Ok-clause-held
returns-in-Ok-clause-held g c tells =
    let bytes : List ℕ = g.D.Disk.bytes c.args.disk.now in
    let stands : record_at 4096 bytes ≡ Some c.load.new.body = ap (λ (k : ℕ). record_at k bytes) (sym c.requires.place) ∙ c.in-Ok.ensures.found tells in
    subst (λ (r : Result BootMark BootFault). IfOk r (λ state. HoldsMark state.last_number (active_in state.restore) bytes)) (sym c.ok_or.ensures.value)
    (held_mark c.decode.result (BadRecord no_slot) bytes c.load.new.body stands c.decode.ensures.found)

pub returns-in-Ok-clause-other : goal.returns-in-Ok-clause-other
returns-in-Ok-clause-other g c tells =
    let bytes : List ℕ = g.D.Disk.bytes c.args.disk.now in
    let stands : record_at 4096 bytes ≡ Some c.load.new.body = ap (λ (k : ℕ). record_at k bytes) (sym c.requires.place) ∙ c.in-Ok.ensures.found tells in
    subst
    (λ (r : Result BootMark BootFault). IfErr r (λ fault. IsRefusal fault → (fault ≡ BadRecord no_slot) × ((number : ℕ) (active : Option Active) → HoldsMark number active bytes → ⊥)))
    (sym c.ok_or.ensures.value) (other_mark c.decode.result bytes c.load.new.body stands c.decode.ensures.only)

pub returns-in-Err-NoMark-clause-other : goal.returns-in-Err-NoMark-clause-other
returns-in-Err-NoMark-clause-other g c tells unit =
    let is : IsErrOf c.load.result NoMark = cc in
    (refl, no_mark c.args.mark.now.base (g.D.Disk.bytes c.args.disk.now) c.requires.place (c.load.ensures.no_mark tells is))
