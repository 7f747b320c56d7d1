use Rattle.std.proofs.Common.{ℕ, List, subst}
use Rattle.site_disk.specs.Images.{Leaves}
use Rattle.site_disk.specs.Seen.{seen}
use Rattle.twin_mark.specs.Marks.{MayStore}
use Rattle.twin_mark.specs.MarksLaws.{agrees_synced}
use Rattle.boot_lines.specs.MarkLayout.{active_in, spelling as mark_spelling}
use Rattle.boot_file.proofs.writing.store_record.Goals as goal

pub returns-clause-crash : goal.returns-clause-crash
returns-clause-crash g c tells knows synced =
    let e : ℕ = c.args.era.now.number in
    let disk = c.args.disk.now in
    let bytes : List ℕ = mark_spelling c.args.state.now.last_number (active_in c.args.state.now.restore) in
    subst (λ (b : ℕ). Leaves e (MayStore b bytes) (g.D.Disk.image disk) (g.D.Disk.image c.store.new.disk)) c.requires.base
    (subst (λ (l : List ℕ). Leaves e (MayStore c.args.mark.now.base l) (g.D.Disk.image disk) (g.D.Disk.image c.store.new.disk)) c.encode_into.ensures
    (c.store.ensures.crash tells (agrees_synced c.args.mark.now (seen g.D.Disk disk) synced knows)))
