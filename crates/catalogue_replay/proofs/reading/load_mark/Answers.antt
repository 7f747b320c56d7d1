use Rattle.std.proofs.Common.{◌≡◌, ◌∙◌, ℕ, Some, ap, sym, refl}
use Rattle.std.proofs.lemmas.Bool.{both_ways}
use Rattle.std.specs.Prelude.{IsErrOf}
use Rattle.twin_mark.specs.Marks.{record_at}
use Rattle.twin_mark.specs.declared.mark.MarkFault.TheVariants.{NoMark}
use Rattle.catalogue_replay.specs.Places.{area_record}
use Rattle.catalogue_replay.proofs.ReadingLemmas.{another_record, no_record}
use Rattle.catalogue_replay.proofs.reading.load_mark.Goals as goal

pub returns-in-Ok-clause-named : goal.returns-in-Ok-clause-named
returns-in-Ok-clause-named g c tells =
    let found : record_at c.args.mark.now.base (g.D.Disk.bytes c.args.disk.now) ≡ Some c.load.new.body = c.in-Ok.ensures.found tells in
    let same : c.load.new.body ≡ area_record = c.is_area_record.ensures.0 c.if-is_area_record.true in
    record { stands = ap (λ (k : ℕ). record_at k (g.D.Disk.bytes c.args.disk.now)) (sym c.requires.place) ∙ found ∙ ap Some same }

pub returns-in-Ok-2-clause-other : goal.returns-in-Ok-2-clause-other
returns-in-Ok-2-clause-other g c tells unit = (
  refl,
  λ names. another_record _ (g.D.Disk.bytes c.args.disk.now) c.load.new.body c.requires.place (c.in-Ok.ensures.found tells)
      (λ same. both_ways c.is_area_record.result c.if-is_area_record.false (c.is_area_record.ensures.1 same)) names,
)

pub returns-in-Err-NoMark-clause-other : goal.returns-in-Err-NoMark-clause-other
returns-in-Err-NoMark-clause-other g c tells unit =
    let is : IsErrOf c.load.result NoMark = cc in
    (refl, λ names. no_record _ (g.D.Disk.bytes c.args.disk.now) c.requires.place (c.load.ensures.no_mark tells is) names)
