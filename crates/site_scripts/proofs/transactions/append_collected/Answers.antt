use Rattle.std.proofs.Common.{◌≡◌, ◌∙◌, ℕ, ◌+◌, List, length, Option, Some, None, refl, sym, ap, subst, arith}
use Rattle.std.specs.List.{count_by}
use Rattle.std.proofs.lemmas.List.{length-map}
use Rattle.log_record.specs.declared.records.Record.{Record}
use Rattle.log_record.specs.Entry.{entry_of, history_of}
use Rattle.site_headers.specs.Views.{head_of, space_of}
use Rattle.site_model.specs.Texts.{is_commit_entry}
use Rattle.site_courses.specs.Faults.{Fault}
use Rattle.site_core.specs.Faults.{fault_in}
use Rattle.site_scripts.specs.Stages.{CallBy, batch_course, in_use}
use Rattle.site_scripts.proofs.AppendLemmas.{appended_so, as_batch, does_append, refused_so}
use Rattle.site_scripts.proofs.transactions.append_collected.Goals as goal

pub returns-in-Err-clause-appends : goal.returns-in-Err-clause-appends
returns-in-Err-clause-appends g c tells first left =
    let head = head_of c.args.head.now in
    let spaces = c.args.head.now.spaces.items in
    let many : length head.spaces ≡ length spaces = length-map spaces space_of in
    let work = c.args.work.now in
    let batch = history_of work.progress.collected.batch.items in
    let from = c.args.era.now.number in
    let to = c.append.new.era.number in
    subst (λ (fault : Option Fault). CallBy g.D.Disk head first from to (in_use c.args.site.now work) (in_use c.append.new.self work) (batch_course batch left)
    (Some (record { fault = fault; left = left }))) (sym c.stop_of.ensures.fault)
    (refused_so head first work work g.D.Disk (length spaces) many from to c.args.site.now c.append.new.self left (fault_in c.in-Err.fault) refl
    (as_batch head first work work g.D.Disk (length spaces) many from to c.args.site.now c.append.new.self left c.deref-2.result.now (Some (fault_in c.in-Err.fault)) c.deref-2.ensures.value
    (does_append head first work work g.D.Disk (length spaces) many from to c.args.site.now c.append.new.self left (history_of c.deref-2.result.now) (Some (fault_in c.in-Err.fault))
    (c.in-Err.ensures.call tells))))

pub returns-clause-appends : goal.returns-clause-appends
returns-clause-appends g c tells first left =
    let head = head_of c.args.head.now in
    let spaces = c.args.head.now.spaces.items in
    let many : length head.spaces ≡ length spaces = length-map spaces space_of in
    let work = c.args.work.now in
    let items = work.progress.collected.batch.items in
    let from = c.args.era.now.number in
    let to = c.append.new.era.number in
    appended_so head first work _ g.D.Disk (length spaces) many from to c.args.site.now c.append.new.self left
    (record {
      items = c.clear.ensures.items;
      table = refl;
      time = refl;
      low = c.low-work.ensures;
      lines = omega (arith, c.len-lines.ensures, length-map items entry_of);
      commits = ap (λ (n : ℕ). work.counts.commits + n)
          (c.count_commits-commits.ensures.count ∙ ap (λ (l : List Record). count_by is_commit_entry (history_of l)) c.deref.ensures.value);
    })
    (omega (arith, c.requires.some, length-map items entry_of))
    (as_batch head first work work g.D.Disk (length spaces) many from to c.args.site.now c.append.new.self left c.deref-2.result.now None c.deref-2.ensures.value
    (does_append head first work work g.D.Disk (length spaces) many from to c.args.site.now c.append.new.self left (history_of c.deref-2.result.now) None
    (c.in-Ok.ensures.call tells)))
