use Rattle.std.proofs.Common.{◌≡◌, ◌≤◌, ◌^◌, ℕ, List, Option, None, Some, refl, arith, ap, subst, sym, ◌∙◌}
use Rattle.std.specs.Option.{option_copied}
use Rattle.site_disk.specs.Images.{Leaves}
use Rattle.site_disk.specs.Seen.{seen}
use Rattle.twin_mark.specs.Marks.{MayStore, Stores}
use Rattle.backup_lines.specs.Spans.{Active}
use Rattle.boot_lines.specs.MarkLayout.{IsMark, active_in, spelling as mark_spelling}
use Rattle.boot_file.specs.Numbers.{number_after}
use Rattle.boot_file.specs.Places.{HoldsBoot}
use Rattle.boot_file.specs.PlacesLaws.{boot_stored}
use Rattle.boot_file.proofs.StandsLemmas.{stands_of, becomes_none, set_mark, told_record, store_becomes}
use Rattle.boot_file.proofs.boot.Boot.set_restore.Goals as goal

spelled : (n next : ℕ) (a following : Option Active) → n ≡ next → a ≡ following → mark_spelling n a ≡ mark_spelling next following
spelled n next a following numbers actives = ap (λ (k : ℕ). mark_spelling k a) numbers ∙ ap (mark_spelling next) actives

pub returns-then-number-gt-MAX_NUMBER-clause-crash : goal.returns-then-number-gt-MAX_NUMBER-clause-crash
returns-then-number-gt-MAX_NUMBER-clause-crash g c tells site number lines active stands = becomes_none _ _ c.args.era.now.number (g.D.Disk.image c.args.self.now.disk)

pub returns-in_err-store_record-clause-crash : goal.returns-in_err-store_record-clause-crash
returns-in_err-store_record-clause-crash g c tells site number lines active stands =
    let e : ℕ = c.args.era.now.number in
    let following : Option Active = active_in (option_copied c.args.restore) in
    let actives : active_in c.copied-restore.result ≡ following = ap active_in c.copied-restore.ensures in
    let both = set_mark number c.number_after-number.result lines active following c.args.self.now stands.tells c.requires.follows
    (c.number_after-number.ensures ∙ ap (number_after c.args.self.now.state.last_number) actives) c.if-number-gt-MAX_NUMBER.false in
    store_becomes site number (number_after number following) lines active following e _ _ both.1
    (subst (λ (l : List ℕ). Leaves e (MayStore 4096 l) (g.D.Disk.image c.args.self.now.disk) (g.D.Disk.image c.store_record.new.disk))
    (spelled c.number_after-number.result (number_after number following) (active_in c.copied-restore.result) following both.0 actives)
    (c.store_record.ensures.crash tells stands.knows stands.synced))

pub returns-clause-crash : goal.returns-clause-crash
returns-clause-crash g c tells site number lines active stands =
    let e : ℕ = c.args.era.now.number in
    let following : Option Active = active_in (option_copied c.args.restore) in
    let actives : active_in c.copied-restore.result ≡ following = ap active_in c.copied-restore.ensures in
    let both = set_mark number c.number_after-number.result lines active following c.args.self.now stands.tells c.requires.follows
    (c.number_after-number.ensures ∙ ap (number_after c.args.self.now.state.last_number) actives) c.if-number-gt-MAX_NUMBER.false in
    store_becomes site number (number_after number following) lines active following e _ _ both.1
    (subst (λ (l : List ℕ). Leaves e (MayStore 4096 l) (g.D.Disk.image c.args.self.now.disk) (g.D.Disk.image c.store_record.new.disk))
    (spelled c.number_after-number.result (number_after number following) (active_in c.copied-restore.result) following both.0 actives)
    (c.store_record.ensures.crash tells stands.knows stands.synced))

pub returns-clause-stands : goal.returns-clause-stands
returns-clause-stands g c tells site number lines active stands =
    let following : Option Active = active_in (option_copied c.args.restore) in
    let actives : active_in c.copied-restore.result ≡ following = ap active_in c.copied-restore.ensures in
    let both = set_mark number c.number_after-number.result lines active following c.args.self.now stands.tells c.requires.follows
    (c.number_after-number.ensures ∙ ap (number_after c.args.self.now.state.last_number) actives) c.if-number-gt-MAX_NUMBER.false in
    let old = g.D.Disk.bytes c.args.self.now.disk in
    let new = g.D.Disk.bytes c.store_record.new.disk in
    let call = c.in_ok-store_record.ensures in
    let stores : Stores 4096 (mark_spelling (number_after number following) following) old new =
    subst (λ (l : List ℕ). Stores 4096 l old new)
    (spelled c.number_after-number.result (number_after number following) (active_in c.copied-restore.result) following both.0 actives) (call.stored tells stands.knows) in
    stands_of site (number_after number following) lines following c.args.era.now.number (seen g.D.Disk c.store_record.new.disk) _
    (record { mark = c.store_record.ensures.base ∙ stands.made.mark; area = stands.made.area })
    (told_record number (number_after number following) lines active following c.args.self.now _ both.1 stands.tells refl refl both.0 actives)
    (call.knows tells stands.knows) (g.met.D.Disk.now_counts c.store_record.new.disk) c.store_record.ensures.ledger.no_later (call.durable tells)
    (boot_stored site number (number_after number following) lines active following old new stands.now both.1 stores)
