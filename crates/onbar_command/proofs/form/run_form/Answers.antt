use Rattle.std.proofs.Common.{◌⊎◌, [], true, false, arith, refl, sym}
use Rattle.std.proofs.lemmas.Bool.{false≢true}
use Rattle.command_grammar.specs.Words.{init_form, transactions_form, show_form}
use Rattle.site_core.specs.Disks.{contents_of}
use Rattle.site_openings.specs.Openings.{DisksRefuse}
use Rattle.site_headers.specs.Views.{spaces_of}
use Rattle.site_forms.specs.Starts.{IsKept, IsOfChunk}
use Rattle.onbar_command.specs.Answers.{MayMeet, Meets}
use Rattle.onbar_command.proofs.WordsLemmas.{early, late_kept, late_record, shown_kept, shown_record}
use Rattle.onbar_command.proofs.form.run_form.Goals as goal

pub returns-in-Init : goal.returns-in-Init
returns-in-Init g c =
    let form = init_form c.in-Init.blocks (spaces_of c.in-Init.spaces.items) in
    let contents = contents_of g.D.Disk c.args.site.now in
    let left = g.S.Source.left c.args.source.now in
    let by = c.init_site.ensures in
    rw (c.in-Init.is) (record {
      does = record {
        refused = λ tells. early (λ status. DisksRefuse form contents status) (λ status. Meets form contents status) c.init_site.result (by.refused tells);
        opens = by.opens;
        kept = early (λ status. IsOfChunk status ⊎ IsKept g.D.Disk c.args.site.now c.init_site.new.site) (λ status. MayMeet form status) c.init_site.result by.kept;
        harmless = λ tells status is. (by.harmless tells status is, refl);
        passes = λ tells known. by.passes tells left;
        finishes = λ tells known. by.finishes tells left left;
        rests = by.rests;
        written = by.written;
        answered = by.answered;
        no_stop = by.no_stop;
        read_fault = λ is. absurd (by.no_read_fault is);
        no_write_fault = by.no_write_fault;
        disk_fault = by.disk_fault;
        unread = λ is. refl;
        taken = λ tells. ([], refl);
        to_end = λ tells is. absurd (false≢true is);
        source_later = omega arith;
        eras = omega (arith, by.era);
        era_later = by.era_later;
        key = by.key;
        may = by.may;
      };
    })

pub returns-in-Transactions : goal.returns-in-Transactions
returns-in-Transactions g c =
    let contents = contents_of g.D.Disk c.args.site.now in
    let by = c.run_transactions.ensures in
    rw (c.in-Transactions.is) (record {
      does = record {
        refused = λ tells. late_record (λ status. DisksRefuse transactions_form contents status) contents c.run_transactions.result (by.refused tells);
        opens = by.opens;
        kept = late_kept (λ status. IsOfChunk status ⊎ IsKept g.D.Disk c.args.site.now c.run_transactions.new.site) c.run_transactions.result by.kept;
        harmless = by.harmless;
        passes = λ tells known. by.passes tells (known refl);
        finishes = λ tells known. by.finishes tells (known refl);
        rests = by.rests;
        written = by.written;
        answered = by.answered;
        no_stop = by.no_stop;
        read_fault = by.read_fault;
        no_write_fault = by.no_write_fault;
        disk_fault = by.disk_fault;
        unread = λ is. absurd (false≢true (sym is));
        taken = by.taken;
        to_end = λ tells is. by.to_end tells;
        source_later = by.source_later;
        eras = by.era;
        era_later = by.era_later;
        key = by.key;
        may = by.may;
      };
    })

pub returns-in-Show : goal.returns-in-Show
returns-in-Show g c =
    let form = show_form c.in-Show.space c.in-Show.page in
    let contents = contents_of g.D.Disk c.args.site.now in
    let left = g.S.Source.left c.args.source.now in
    let by = c.show_space.ensures in
    rw (c.in-Show.is) (record {
      does = record {
        refused = λ tells. shown_record c.in-Show.space c.in-Show.page (λ status. DisksRefuse form contents status) contents c.show_space.result (by.refused tells);
        opens = by.opens;
        kept = shown_kept c.in-Show.space c.in-Show.page (λ status. IsOfChunk status ⊎ IsKept g.D.Disk c.args.site.now c.show_space.new.site) c.show_space.result by.kept;
        harmless = λ tells status is. (by.harmless tells status is, refl);
        passes = λ tells known. by.passes tells c.args.moment left;
        finishes = λ tells known. by.finishes tells c.args.moment left left;
        rests = by.rests;
        written = by.written;
        answered = by.answered;
        no_stop = by.no_stop;
        read_fault = λ is. absurd (by.read_fault is);
        no_write_fault = by.no_write_fault;
        disk_fault = by.disk_fault;
        unread = λ is. refl;
        taken = λ tells. ([], refl);
        to_end = λ tells is. absurd (false≢true is);
        source_later = omega arith;
        eras = by.era;
        era_later = by.era_later;
        key = by.key;
        may = by.may;
      };
    })
