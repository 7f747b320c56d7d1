use Rattle.std.proofs.Common.{◌≡◌, ◌∙◌, ◌<◌, ◌==◌, ℕ, List, length, Bool, true, false, Some, sym, subst, arith}
use Rattle.std.proofs.lemmas.List.{length-map}
use Rattle.std.proofs.lemmas.Bool.{eqb-true, eqb-false}
use Rattle.log_record.specs.Entry.{entry_of, history_of}
use Rattle.site_headers.specs.Views.{head_of}
use Rattle.site_scripts.specs.declared.outcomes.Stop.{Stop}
use Rattle.site_scripts.specs.Stages.{CallBy, end_course, halt_at, in_use}
use Rattle.site_scripts.proofs.EndLemmas.{last_ends, last_none}
use Rattle.site_scripts.proofs.running.append_last.Goals as goal

none_of : {A : Type 0} (xs : List A) (n : ℕ) (empty : Bool) → n ≡ length xs → empty ≡ (n == 0) → empty ≡ true → length xs ≡ 0
none_of xs n empty long is so = sym long ∙ eqb-true n 0 (sym is ∙ so)

some_of : {A : Type 0} (xs : List A) (n : ℕ) (empty : Bool) → n ≡ length xs → empty ≡ (n == 0) → empty ≡ false → 0 < length xs
some_of xs n empty long is so = let other = eqb-false n 0 (sym is ∙ so) in omega arith

pub returns-then-is_empty-clause-ended : goal.returns-then-is_empty-clause-ended
returns-then-is_empty-clause-ended g c tells first left =
    let items = c.args.work.now.progress.collected.batch.items in
    last_none g.D.Disk (head_of c.args.head.now) first c.args.stop left c.args.era.now.number c.args.site.now c.args.work.now
    (length-map items entry_of ∙ none_of items _ c.is_empty.result (omega (arith, c.args.work.now.progress.collected.batch.ok.0)) c.is_empty.ensures c.if-is_empty.true)

pub returns-clause-ended : goal.returns-clause-ended
returns-clause-ended g c tells first left =
    let head = head_of c.args.head.now in
    let work = c.args.work.now in
    let items = work.progress.collected.batch.items in
    let counted : length (history_of items) ≡ length items = length-map items entry_of in
    let more : 0 < length items = some_of items _ c.is_empty.result (omega (arith, work.progress.collected.batch.ok.0)) c.is_empty.ensures c.if-is_empty.false in
    let from = c.args.era.now.number in
    let to = c.append_collected.new.era.number in
    let site = c.append_collected.new.site in
    subst (λ (stop : Stop). CallBy g.D.Disk head first from to (in_use c.args.site.now work) (in_use site c.append_collected.new.work)
    (end_course (halt_at c.args.stop left) work.progress) (Some (halt_at stop left))) (sym c.unwrap_or.ensures)
    (last_ends g.D.Disk head first c.args.stop left from to c.args.site.now site work c.append_collected.new.work (omega (arith, counted, more)) c.append_collected.result
    (c.append_collected.ensures.appends tells first left))
