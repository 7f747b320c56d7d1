use Rattle.std.proofs.Common.{◌≡◌, ◌≤◌, ◌<◌, ◌+◌, ◌-◌, length, arith, sym, refl, ap, vec_len}
use Rattle.log_files.specs.Files.{LogFiles, current_first}
use Rattle.backup_lines.specs.Lines.{Span}
use Rattle.log_files.specs.Held.{Tells}
use Rattle.log_files.specs.declared.held.HeldFiles.{HeldFiles}
use Rattle.log_record.specs.Entry.{history_of}
use Rattle.log_files.proofs.HeldLemmas.{count_spans, told-extended, last_span, length-history_of}
use Rattle.log_files.proofs.held.HeldFiles.extend.Goals as goal

-- the current file has records, so that its span is the last one
counted : (files : LogFiles) (held : HeldFiles) → Tells files held → held.first < held.next → vec_len held.spans ≡ length files.past + 1
counted files held tells lt =
    let some : 1 ≤ length files.current = omega (arith, tells.first, tells.next, lt) in
    omega (arith, count_spans files held tells some, held.spans.ok.0)

pub overflow_sub-last : goal.overflow_sub-last
overflow_sub-last c = omega (arith, c.len-last.ensures, counted c.requires.held.files c.args.self.now c.requires.held.tells c.requires.filled)

pub index-requires : goal.index-requires
index-requires c = omega (arith, c.len-last.ensures, counted c.requires.held.files c.args.self.now c.requires.held.tells c.requires.filled)

pub index_mut-requires : goal.index_mut-requires
index_mut-requires c = omega (arith, c.len-last.ensures, counted c.requires.held.files c.args.self.now c.requires.held.tells c.requires.filled)

pub longer_span-span-requires-clause-last : goal.longer_span-span-requires-clause-last
longer_span-span-requires-clause-last c =
    let files = c.requires.held.files in
    let tells = c.requires.held.tells in
    let some : 1 ≤ length files.current = omega (arith, tells.first, tells.next, c.requires.filled) in
    let at : c.len-last.result - 1 ≡ length files.past = omega (arith, c.len-last.ensures, counted files c.args.self.now tells c.requires.filled) in
    let last : c.index.result.now.last ≡ current_first files + length files.current - 1 =
    ap (λ (s : Span). s.last) (last_span files c.args.self.now tells (c.len-last.result - 1) c.index.result.now some at c.index.ensures) in
    omega (arith, last, tells.next, some)

pub returns : goal.returns
returns c files tells =
    let some : 1 ≤ length files.current = omega (arith, tells.first, tells.next, c.requires.filled) in
    let at : c.len-last.result - 1 ≡ length files.past = omega (arith, c.len-last.ensures, counted files c.args.self.now tells c.requires.filled) in
    told-extended files c.args.self.now tells (history_of c.args.batch.now) _ c.index.result.now c.longer_span-span.result (c.len-last.result - 1) (length c.args.batch.now) c.time_at-self.result
    some at c.index.ensures c.longer_span-span.ensures refl (sym (length-history_of c.args.batch.now)) c.time_at-self.ensures
