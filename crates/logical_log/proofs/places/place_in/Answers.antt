use Rattle.std.proofs.Common.{◌≡◌, ℕ, ◌+◌, ◌-◌, ◌∷◌, [], ◌++◌, length, get_or, arith, ap, ◌∙◌, inl, inr, length-append}
use Rattle.log_mark.specs.declared.mark.LogMark.{LogMark}
use Rattle.logical_log.specs.Records.{IsPlaced}
use Rattle.logical_log.proofs.PlacesLemmas.{records_none, begins_at}
use Rattle.logical_log.proofs.RecordsLemmas.{few_records}
use Rattle.logical_log.proofs.places.place_in.Goals as goal
use Rattle.logical_log.proofs.places.place_in.Goals.{then-file-held-via-then-file-held, then-file-held-via-else-file-held+then-held-file}

pub returns-then-file-held-clause-none : goal.returns-then-file-held-clause-none
returns-then-file-held-clause-none c files fits tells = elim c.then-file-held.branch [
  | then-file-held-via-then-file-held w ↦
      records_none files.oldest (files.past ++ files.current ∷ []) c.args.file (inl (omega (arith, w.if-file-held.true, ap (λ (m : LogMark). m.oldest) tells.mark)))
  | then-file-held-via-else-file-held+then-held-file w ↦
      records_none files.oldest (files.past ++ files.current ∷ []) c.args.file
      (inr (omega (arith, w.if-held-file.true, ap (λ (m : LogMark). m.current) tells.mark, length-append files.past (files.current ∷ []))))
]

pub overflow_sub-count : goal.overflow_sub-count
overflow_sub-count c =
    let files = c.requires.files in
    let begins = begins_at files c.args.held.now c.args.file c.place_of.result c.requires.fits c.requires.tells c.place_of.ensures (omega (arith, c.if-file-held.false)) (omega (arith, c.if-held-file.false)) in
    omega (arith, c.next_first.ensures files c.requires.fits c.requires.tells (get_or c.args.held.now.mark.firsts c.place_of.result 0) begins)

pub returns-clause-placed : goal.returns-clause-placed
returns-clause-placed c files fits tells =
    let first : ℕ = get_or c.args.held.now.mark.firsts c.place_of.result 0 in
    let begins = begins_at files c.args.held.now c.args.file c.place_of.result fits tells c.place_of.ensures (omega (arith, c.if-file-held.false)) (omega (arith, c.if-held-file.false)) in
    record { begins = begins; counted = omega (arith, c.next_first.ensures files fits tells first begins) }

pub returns-clause-few : goal.returns-clause-few
returns-clause-few c =
    let files = c.requires.files in
    let first : ℕ = get_or c.args.held.now.mark.firsts c.place_of.result 0 in
    let begins = begins_at files c.args.held.now c.args.file c.place_of.result c.requires.fits c.requires.tells c.place_of.ensures (omega (arith, c.if-file-held.false)) (omega (arith, c.if-held-file.false)) in
    let placed : IsPlaced files c.args.file first (c.next_first.result - first) = record { begins = begins; counted = omega (arith, c.next_first.ensures files c.requires.fits c.requires.tells first begins) } in
    few_records files c.requires.fits c.args.file first (c.next_first.result - first) placed
