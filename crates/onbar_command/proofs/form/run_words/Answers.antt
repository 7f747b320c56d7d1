use Rattle.std.proofs.Common.{◌≡◌, ◌+◌, inl, inr, Err, map, refl, subst}
use Rattle.std.specs.Prelude.{string_bytes, OnOk}
use Rattle.command_grammar.specs.Words.{Command, command_of}
use Rattle.onbar_words.specs.Order.{command_in, Refuses}
use Rattle.onbar_words.specs.declared.words.WordFault.{WordFault}
use Rattle.site_core.specs.Disks.{contents_of}
use Rattle.site_forms.specs.Starts.{IsKept, WritesWithin}
use Rattle.onbar_command.specs.Commands.{ComesTo, PassesFor, RestsFor, ShownFor}
use Rattle.onbar_command.proofs.SoundLemmas.{promised_so, sound_so, sound_still}
use Rattle.onbar_command.proofs.WordsLemmas.{form_refused, known_so, makes_head, of_order, one_command, over_so, runs_fit, still, usage_over, reads_as, words_answered, words_kept, words_open, words_refused}
use Rattle.onbar_command.proofs.form.run_words.Goals as goal

pub returns-in-Ok-clause-refused : goal.returns-in-Ok-clause-refused
returns-in-Ok-clause-refused g c tells =
    words_refused (map string_bytes c.args.words.now) (command_in c.in-Ok.order) c.in-Ok.ensures.order (contents_of g.D.Disk c.args.site.now) c.run_form.result (c.run_form.ensures.does.refused tells)

pub returns-in-Ok-clause-kept : goal.returns-in-Ok-clause-kept
returns-in-Ok-clause-kept g c = words_kept (map string_bytes c.args.words.now) (command_in c.in-Ok.order) c.in-Ok.ensures.order
    (IsKept g.D.Disk c.args.site.now c.run_form.new.site) c.run_form.result c.run_form.ensures.does.kept

pub returns-in-Ok-clause-harmless : goal.returns-in-Ok-clause-harmless
returns-in-Ok-clause-harmless g c tells status is =
    c.run_form.ensures.does.harmless tells status
    (form_refused (map string_bytes c.args.words.now) (command_in c.in-Ok.order) c.in-Ok.ensures.order (contents_of g.D.Disk c.args.site.now) status is)

pub returns-in-Err-At-clause-harmless : goal.returns-in-Err-At-clause-harmless
returns-in-Err-At-clause-harmless g c tells status is = (inr (still g.D.Disk c.args.site.now), refl)

pub returns-in-Err-OutOfMemory-clause-harmless : goal.returns-in-Err-OutOfMemory-clause-harmless
returns-in-Err-OutOfMemory-clause-harmless g c tells status is = (inr (still g.D.Disk c.args.site.now), refl)

pub returns-in-Ok-clause-passes : goal.returns-in-Ok-clause-passes
returns-in-Ok-clause-passes g c tells_disk known =
    let left = g.S.Source.left c.args.source.now in
    of_order (map string_bytes c.args.words.now) (command_in c.in-Ok.order) c.in-Ok.ensures.order
    (λ r. PassesFor g.D.Disk r c.args.era.now.number c.args.site.now c.run_form.new.site c.args.moment left)
    (c.run_form.ensures.does.passes tells_disk (known_so (map string_bytes c.args.words.now) (command_in c.in-Ok.order) c.in-Ok.ensures.order known))

pub returns-in-Err-At-clause-passes : goal.returns-in-Err-At-clause-passes
returns-in-Err-At-clause-passes g c tells_disk known at shown = inl (λ f name bytes is. is)

pub returns-in-Err-OutOfMemory-clause-passes : goal.returns-in-Err-OutOfMemory-clause-passes
returns-in-Err-OutOfMemory-clause-passes g c tells_disk known at shown = inl (λ f name bytes is. is)

pub returns-in-Ok-clause-rests : goal.returns-in-Ok-clause-rests
returns-in-Ok-clause-rests g c tells_disk =
    of_order (map string_bytes c.args.words.now) (command_in c.in-Ok.order) c.in-Ok.ensures.order
    (λ r. RestsFor g.D.Disk r c.args.era.now.number c.args.site.now c.run_form.new.site) (c.run_form.ensures.does.rests tells_disk)

pub returns-in-Err-At-clause-rests : goal.returns-in-Err-At-clause-rests
returns-in-Err-At-clause-rests g c tells_disk at shown f name bytes isnt is = is

pub returns-in-Err-OutOfMemory-clause-rests : goal.returns-in-Err-OutOfMemory-clause-rests
returns-in-Err-OutOfMemory-clause-rests g c tells_disk at shown f name bytes isnt is = is

pub returns-in-Ok-clause-finishes : goal.returns-in-Ok-clause-finishes
returns-in-Ok-clause-finishes g c tells_disk known at shown =
    let left = g.S.Source.left c.args.source.now in
    let words = map string_bytes c.args.words.now in
    of_order words (command_in c.in-Ok.order) c.in-Ok.ensures.order
    (λ r. ShownFor g.D.Disk r c.args.site.now at
    → ComesTo g.D.Disk r c.args.era.now.number c.args.site.now c.run_form.new.site c.args.moment left at (c.run_form.new.era.number + 1) c.run_form.result (g.S.Source.left c.run_form.new.source))
    (λ stand. over_so g.D.Disk (command_in c.in-Ok.order) c.args.era.now.number c.args.site.now c.run_form.new.site c.args.moment left at (c.run_form.new.era.number + 1) c.run_form.result
    (g.S.Source.left c.run_form.new.source) (c.run_form.ensures.does.finishes tells_disk (known_so words (command_in c.in-Ok.order) c.in-Ok.ensures.order known) at stand))
    shown

pub returns-in-Err-At-clause-finishes : goal.returns-in-Err-At-clause-finishes
returns-in-Err-At-clause-finishes g c tells_disk known at shown =
    let left = g.S.Source.left c.args.source.now in
    let words = map string_bytes c.args.words.now in
    let refused : command_of words ≡ Err c.in-Err-At.word = subst (λ (f : WordFault). Refuses words f) c.in-Err-At.field-0-is c.in-Err-At.ensures.refused in
    rw (c.in-Err-At.word-is) (inr (usage_over g.D.Disk (command_of words) c.in-Err-At.word refused c.args.era.now.number c.args.site.now c.args.moment left left at (c.args.era.now.number + 1)))

pub returns-in-Err-OutOfMemory-clause-finishes : goal.returns-in-Err-OutOfMemory-clause-finishes
returns-in-Err-OutOfMemory-clause-finishes g c tells_disk known at shown = inl tt

pub returns-in-Ok-clause-promised : goal.returns-in-Ok-clause-promised
returns-in-Ok-clause-promised g c tells_disk known sound =
    promised_so g.D.Disk c.args.era.now (λ disk f le. g.met.D.Disk.reads_as disk f tells_disk le) g.met.D.Disk.now_counts (command_of (map string_bytes c.args.words.now)) c.args.site.now c.run_form.new.site
    c.args.moment (g.S.Source.left c.args.source.now) c.requires.may (returns-in-Ok-clause-rests g c tells_disk) (returns-in-Ok-clause-passes g c tells_disk known) sound

pub returns-in-Err-At-clause-promised : goal.returns-in-Err-At-clause-promised
returns-in-Err-At-clause-promised g c tells_disk known sound =
    promised_so g.D.Disk c.args.era.now (λ disk f le. g.met.D.Disk.reads_as disk f tells_disk le) g.met.D.Disk.now_counts (command_of (map string_bytes c.args.words.now)) c.args.site.now c.args.site.now
    c.args.moment (g.S.Source.left c.args.source.now) c.requires.may (λ at shown f name bytes isnt is. is) (λ at shown. inl (λ f name bytes is. is)) sound

pub returns-in-Err-OutOfMemory-clause-promised : goal.returns-in-Err-OutOfMemory-clause-promised
returns-in-Err-OutOfMemory-clause-promised g c tells_disk known sound =
    promised_so g.D.Disk c.args.era.now (λ disk f le. g.met.D.Disk.reads_as disk f tells_disk le) g.met.D.Disk.now_counts (command_of (map string_bytes c.args.words.now)) c.args.site.now c.args.site.now
    c.args.moment (g.S.Source.left c.args.source.now) c.requires.may (λ at shown f name bytes isnt is. is) (λ at shown. inl (λ f name bytes is. is)) sound

pub returns-in-Ok-clause-sound : goal.returns-in-Ok-clause-sound
returns-in-Ok-clause-sound g c tells_disk known sound =
    let left = g.S.Source.left c.args.source.now in
    sound_so g.D.Disk c.args.era.now (λ disk f le. g.met.D.Disk.reads_as disk f tells_disk le) g.met.D.Disk.now_counts (command_of (map string_bytes c.args.words.now)) c.args.site.now c.run_form.new.site
    c.args.moment left c.requires.may (returns-in-Ok-clause-rests g c tells_disk) (returns-in-Ok-clause-passes g c tells_disk known) sound
    (runs_fit (map string_bytes c.args.words.now) (command_in c.in-Ok.order) c.in-Ok.ensures.order c.args.moment left (makes_head c.in-Ok.order.form c.args.moment c.requires.moment c.in-Ok.ensures.fits))

pub returns-in-Err-At-clause-sound : goal.returns-in-Err-At-clause-sound
returns-in-Err-At-clause-sound g c tells_disk known sound =
    sound_still g.D.Disk c.args.era.now (λ disk f le. g.met.D.Disk.reads_as disk f tells_disk le) g.met.D.Disk.now_counts c.args.site.now c.requires.may sound

pub returns-in-Err-OutOfMemory-clause-sound : goal.returns-in-Err-OutOfMemory-clause-sound
returns-in-Err-OutOfMemory-clause-sound g c tells_disk known sound =
    sound_still g.D.Disk c.args.era.now (λ disk f le. g.met.D.Disk.reads_as disk f tells_disk le) g.met.D.Disk.now_counts c.args.site.now c.requires.may sound

pub returns-in-Ok-clause-written : goal.returns-in-Ok-clause-written
returns-in-Ok-clause-written g c command is =
    subst (λ (k : Command). OnOk c.run_form.result (WritesWithin g.D.Disk k.form c.args.site.now c.run_form.new.site))
    (one_command (map string_bytes c.args.words.now) (command_in c.in-Ok.order) c.in-Ok.ensures.order command is) c.run_form.ensures.does.written

pub returns-in-Ok-clause-opens : goal.returns-in-Ok-clause-opens
returns-in-Ok-clause-opens g c tells =
    words_open (map string_bytes c.args.words.now) (command_in c.in-Ok.order) c.in-Ok.ensures.order (contents_of g.D.Disk c.args.site.now) c.run_form.result (c.run_form.ensures.does.opens tells)

pub returns-in-Ok-clause-answered : goal.returns-in-Ok-clause-answered
returns-in-Ok-clause-answered g c =
    words_answered (map string_bytes c.args.words.now) (command_in c.in-Ok.order) c.in-Ok.ensures.order c.run_form.result c.run_form.ensures.does.answered

pub returns-in-Ok-clause-no_stop : goal.returns-in-Ok-clause-no_stop
returns-in-Ok-clause-no_stop g c = c.run_form.ensures.does.no_stop

pub returns-in-Ok-clause-read_fault : goal.returns-in-Ok-clause-read_fault
returns-in-Ok-clause-read_fault g c = c.run_form.ensures.does.read_fault

pub returns-in-Ok-clause-no_write_fault : goal.returns-in-Ok-clause-no_write_fault
returns-in-Ok-clause-no_write_fault g c = c.run_form.ensures.does.no_write_fault

pub returns-in-Ok-clause-disk_fault : goal.returns-in-Ok-clause-disk_fault
returns-in-Ok-clause-disk_fault g c = c.run_form.ensures.does.disk_fault

pub returns-in-Ok-clause-unread : goal.returns-in-Ok-clause-unread
returns-in-Ok-clause-unread g c isnt =
    c.run_form.ensures.does.unread (reads_as (map string_bytes c.args.words.now) (command_in c.in-Ok.order) c.in-Ok.ensures.order isnt)

pub returns-in-Ok-clause-taken : goal.returns-in-Ok-clause-taken
returns-in-Ok-clause-taken g c = c.run_form.ensures.does.taken

pub returns-in-Ok-clause-to_end : goal.returns-in-Ok-clause-to_end
returns-in-Ok-clause-to_end g c tells is =
    c.run_form.ensures.does.to_end tells (reads_as (map string_bytes c.args.words.now) (command_in c.in-Ok.order) c.in-Ok.ensures.order is)

pub returns-in-Ok-clause-source_later : goal.returns-in-Ok-clause-source_later
returns-in-Ok-clause-source_later g c = c.run_form.ensures.does.source_later

pub returns-in-Ok-clause-era : goal.returns-in-Ok-clause-era
returns-in-Ok-clause-era g c = c.run_form.ensures.does.eras

pub returns-in-Ok-clause-era_later : goal.returns-in-Ok-clause-era_later
returns-in-Ok-clause-era_later g c = c.run_form.ensures.does.era_later

pub returns-in-Ok-clause-key : goal.returns-in-Ok-clause-key
returns-in-Ok-clause-key g c = c.run_form.ensures.does.key

pub returns-in-Ok-clause-may : goal.returns-in-Ok-clause-may
returns-in-Ok-clause-may g c = c.run_form.ensures.does.may
