use Rattle.std.proofs.Common.{◌≡◌, ℕ, List, map, refl, sym, subst, ◌∙◌}
use Rattle.std.proofs.lemmas.Result.{err_from_is_err_and}
use Rattle.gated_slots.specs.Slots.{Area}
use Rattle.site_headers.specs.Headers.{catalogue_tail}
use Rattle.site_headers.specs.HeaderLaws.{length-catalogue_tail}
use Rattle.site_headers.specs.Views.{head_of}
use Rattle.catalogue_slots.specs.Views.{object_of}
use Rattle.catalogue_replay.specs.Contents.{Contents, AreContents}
use Rattle.catalogue_replay.specs.Journal.{contents_of}
use Rattle.catalogue_replay.specs.Places.{area_of, Journals}
use Rattle.catalogue_replay.specs.Answers.{IsBadCatalogue}
use Rattle.catalogue_replay.specs.Replays.{state_of}
use Rattle.catalogue_replay.proofs.HeadLemmas.{is_header}
use Rattle.catalogue_replay.proofs.ReadingLemmas.{reads_at_most}
use Rattle.catalogue_replay.proofs.reading.read_catalogue.Goals as goal

parts_are : (a b : Contents) → a.last ≡ b.last → a.objects ≡ b.objects → a ≡ b
parts_are a b lasts objects = rw (lasts, objects) refl

pub returns-clause-sound : goal.returns-clause-sound
returns-clause-sound g c =
    let contents : Contents = record { last = c.in_ok-last.last; objects = map object_of c.in_ok-last.objects.items } in
    subst AreContents (parts_are (contents_of (state_of c.in_ok-head.replay)) contents (sym c.in_ok-last.ensures.last) (sym c.in_ok-last.ensures.objects)) c.in_ok-head.ensures.sound

pub returns-clause-journal : goal.returns-clause-journal
returns-clause-journal g c tells =
    let contents : Contents = record { last = c.in_ok-last.last; objects = map object_of c.in_ok-last.objects.items } in
    let bytes : List ℕ = g.D.Disk.bytes c.args.disk.now in
    subst (λ (k : Contents). Journals (area_of c.args.capacity) k bytes)
    (parts_are (contents_of (state_of c.in_ok-head.replay)) contents (sym c.in_ok-last.ensures.last) (sym c.in_ok-last.ensures.objects))
    (subst (λ (a : Area). Journals a (contents_of (state_of c.in_ok-head.replay)) bytes) c.slots_at-slots.ensures.area (c.in_ok-head.ensures.journal tells))

pub returns-in_err-head-clause-bad : goal.returns-in_err-head-clause-bad
returns-in_err-head-clause-bad g c spare tells =
    let fault = c.in_err-head.field-0.0 in
    let p = err_from_is_err_and c.from_residual.result c.from_residual.ensures.1 in
    rw (p.1, p.2) (subst (λ (a : Area). IsBadCatalogue a (g.D.Disk.bytes c.args.disk.now) spare fault) c.slots_at-slots.ensures.area (c.in_err-head.ensures.bad spare tells))

pub returns-in_err-last-clause-starved : goal.returns-in_err-last-clause-starved
returns-in_err-last-clause-starved g c tells starved =
    let head = head_of c.in_ok-head.head in
    let has = c.in_ok-head.ensures.head tells in
    is_header (catalogue_tail head) (g.D.Disk.bytes c.args.disk.now) (length-catalogue_tail head has.is_head) has.header

pub returns-in_err-head-clause-bound : goal.returns-in_err-head-clause-bound
returns-in_err-head-clause-bound g c tells =
    let disk = c.args.disk.now in
    reads_at_most _ _ (g.D.Disk.bytes disk) (g.D.Disk.ledger disk).read (g.D.Disk.ledger c.read_disk.new.disk).read c.slots_at-slots.ensures.area (c.read_disk.ensures.bound tells)

pub returns-in_err-last-clause-bound : goal.returns-in_err-last-clause-bound
returns-in_err-last-clause-bound g c tells =
    let disk = c.args.disk.now in
    reads_at_most _ _ (g.D.Disk.bytes disk) (g.D.Disk.ledger disk).read (g.D.Disk.ledger c.read_disk.new.disk).read c.slots_at-slots.ensures.area (c.read_disk.ensures.bound tells)

pub returns-clause-bound : goal.returns-clause-bound
returns-clause-bound g c tells =
    let disk = c.args.disk.now in
    reads_at_most _ _ (g.D.Disk.bytes disk) (g.D.Disk.ledger disk).read (g.D.Disk.ledger c.read_disk.new.disk).read c.slots_at-slots.ensures.area (c.read_disk.ensures.bound tells)
