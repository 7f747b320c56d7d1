use Rattle.std.proofs.Common.{◌+◌, ℕ, List, ap, subst, sym, ◌∙◌, arith}
use Rattle.std.proofs.lemmas.Result.{err_from_is_err_and}
use Rattle.site_disk.specs.CallsLaws.{unchanged_again, uses_again}
use Rattle.site_disk.specs.Ledger.{Uses}
use Rattle.gated_slots.specs.Slots.{Area, used}
use Rattle.site_headers.specs.Headers.{catalogue_tail}
use Rattle.site_headers.specs.HeaderLaws.{length-catalogue_tail}
use Rattle.site_headers.specs.Views.{head_of}
use Rattle.catalogue_replay.proofs.HeadLemmas.{is_header}
use Rattle.catalogue_replay.specs.Answers.{HasHead, IsBadJournal, IsBadCatalogue}
use Rattle.catalogue_replay.specs.Places.{NamesArea}
use Rattle.catalogue_replay.specs.Replays.{state_of}
use Rattle.catalogue_replay.proofs.SoundLemmas.{contents_sound}
use Rattle.catalogue_replay.proofs.ReadingLemmas.{ok_holds, journals_by, only_later, agrees_only, bad_slots}
use Rattle.catalogue_replay.proofs.reading.read_disk.Goals as goal

pub returns-clause-head : goal.returns-clause-head
returns-clause-head g c tells =
    subst (HasHead (head_of c.in_ok-head.head)) (ok_holds c.open.result c.in_ok-map_err.ensures.variant c.open.ensures.bytes) (c.in_ok-head.ensures.head tells)

pub returns-clause-named : goal.returns-clause-named
returns-clause-named g c tells =
    subst NamesArea (ok_holds c.open.result c.in_ok-map_err.ensures.variant c.open.ensures.bytes) (c.in_ok-head.ensures.named tells)

pub returns-clause-journal : goal.returns-clause-journal
returns-clause-journal g c tells =
    let first = ok_holds c.open.result c.in_ok-map_err.ensures.variant c.open.ensures.bytes in
    let counts = ok_holds c.open.result c.in_ok-map_err.ensures.variant (c.open.ensures.used tells) in
    journals_by c.args.slots.now.area c.open.new.self (g.D.Disk.bytes c.args.disk.now) (g.D.Disk.bytes c.read_front.new.disk) (state_of c.in_ok-replay.replay)
    c.open.ensures.area counts (c.in_ok-head.ensures.bytes ∙ first) (c.in_ok-replay.ensures.read tells) c.in_ok-replay.ensures.all (c.in_ok-replay.ensures.reaches tells)

pub returns-clause-sound : goal.returns-clause-sound
returns-clause-sound g c =
    let is = c.in_ok-replay.ensures.sound in
    contents_sound c.open.new.self.used is.bytes (state_of c.in_ok-replay.replay) is.reads

pub returns-clause-durable : goal.returns-clause-durable
returns-clause-durable g c tells =
    let e = c.args.era.now.number in
    let new = c.read_journal.new.disk in
    only_later e (g.D.Disk.ledger new).last (g.D.Disk.bytes c.open.new.disk) (g.D.Disk.bytes new) (g.D.Disk.image c.open.new.disk) (g.D.Disk.image new)
    (ok_holds c.open.result c.in_ok-map_err.ensures.variant (c.open.ensures.durable tells))
    (unchanged_again c.in_ok-head.ensures.images c.in_ok-replay.ensures.images)
    (λ f b lt image. g.met.D.Disk.now_counts new (e + 1) f b (omega (arith, c.in_ok-replay.ensures.ledger.no_later)) lt image)
    (c.in_ok-replay.ensures.bytes ∙ c.in_ok-head.ensures.bytes)

pub returns-clause-agrees : goal.returns-clause-agrees
returns-clause-agrees g c tells =
    let e = c.args.era.now.number in
    let new = c.read_journal.new.disk in
    let first = ok_holds c.open.result c.in_ok-map_err.ensures.variant c.open.ensures.bytes in
    let counts = ok_holds c.open.result c.in_ok-map_err.ensures.variant (c.open.ensures.used tells) in
    agrees_only c.open.new.self (g.D.Disk.ledger new).last (g.D.Disk.bytes new) (g.D.Disk.image new)
    (only_later e (g.D.Disk.ledger new).last (g.D.Disk.bytes c.open.new.disk) (g.D.Disk.bytes new) (g.D.Disk.image c.open.new.disk) (g.D.Disk.image new)
    (ok_holds c.open.result c.in_ok-map_err.ensures.variant (c.open.ensures.durable tells))
    (unchanged_again c.in_ok-head.ensures.images c.in_ok-replay.ensures.images)
    (λ f b lt image. g.met.D.Disk.now_counts new (e + 1) f b (omega (arith, c.in_ok-replay.ensures.ledger.no_later)) lt image)
    (c.in_ok-replay.ensures.bytes ∙ c.in_ok-head.ensures.bytes))
    (ap (λ (a : Area). used a (g.D.Disk.bytes new)) c.open.ensures.area
    ∙ ap (used c.args.slots.now.area) (c.in_ok-replay.ensures.bytes ∙ c.in_ok-head.ensures.bytes ∙ first) ∙ sym counts)

pub returns-in_err-head-clause-bad : goal.returns-in_err-head-clause-bad
returns-in_err-head-clause-bad g c spare tells =
    let area = c.args.slots.now.area in
    let fault = c.in_err-head.field-0.0 in
    let p = err_from_is_err_and c.from_residual-in_err-head.result c.from_residual-in_err-head.ensures.1 in
    rw (p.1, p.2)
    (subst (λ (l : List ℕ). IsBadCatalogue area l spare fault) (ok_holds c.open.result c.in_ok-map_err.ensures.variant c.open.ensures.bytes) (c.in_err-head.ensures.bad area spare tells))

pub returns-in_err-replay-clause-bad : goal.returns-in_err-replay-clause-bad
returns-in_err-replay-clause-bad g c spare tells =
    let area = c.args.slots.now.area in
    let file = g.D.Disk.bytes c.args.disk.now in
    let first = ok_holds c.open.result c.in_ok-map_err.ensures.variant c.open.ensures.bytes in
    let counts = ok_holds c.open.result c.in_ok-map_err.ensures.variant (c.open.ensures.used tells) in
    let same = c.in_ok-head.ensures.bytes ∙ first in
    let head = head_of c.in_ok-head.head in
    let fault = c.in_err-replay.field-0.0 in
    let now = counts ∙ ap (used area) (sym same) ∙ ap (λ (a : Area). used a (g.D.Disk.bytes c.read_front.new.disk)) (sym c.open.ensures.area) in
    let bad : IsBadJournal area file fault =
    subst (λ (l : List ℕ). IsBadJournal area l fault) same (subst (λ (a : Area). IsBadJournal a (g.D.Disk.bytes c.read_front.new.disk) fault) c.open.ensures.area (c.in_err-replay.ensures.bad tells now)) in
    let p = err_from_is_err_and c.from_residual-in_err-replay.result c.from_residual-in_err-replay.ensures.1 in
    rw (p.1, p.2)
    (bad_slots area file spare head fault (subst (HasHead head) first (c.in_ok-head.ensures.head tells)) (subst NamesArea first (c.in_ok-head.ensures.named tells)) bad)

pub returns-in_err-replay-clause-ledger : goal.returns-in_err-replay-clause-ledger
returns-in_err-replay-clause-ledger g c =
    let capacity = c.args.slots.now.area.capacity in
    let so_far : Uses c.args.era.now (capacity + 4864) 0 (g.D.Disk.ledger c.args.disk.now) (g.D.Disk.ledger c.read_front.new.disk) =
    uses_again c.open.ensures.ledger c.in_ok-head.ensures.ledger (omega arith) in
    uses_again so_far c.in_err-replay.ensures.ledger (omega (arith, c.in_err-replay.ensures.within, ap (λ (a : Area). a.capacity) c.open.ensures.area))

pub returns-clause-ledger : goal.returns-clause-ledger
returns-clause-ledger g c =
    let capacity = c.args.slots.now.area.capacity in
    let so_far : Uses c.args.era.now (capacity + 4864) 0 (g.D.Disk.ledger c.args.disk.now) (g.D.Disk.ledger c.read_front.new.disk) =
    uses_again c.open.ensures.ledger c.in_ok-head.ensures.ledger (omega arith) in
    uses_again so_far c.in_ok-replay.ensures.ledger (omega (arith, c.in_ok-replay.ensures.within, ap (λ (a : Area). a.capacity) c.open.ensures.area))

pub returns-clause-bound : goal.returns-clause-bound
returns-clause-bound g c tells =
    let counts = ok_holds c.open.result c.in_ok-map_err.ensures.variant (c.open.ensures.used tells) in
    omega (arith, c.open.ensures.ledger.read, c.in_ok-head.ensures.ledger.read, c.in_ok-replay.ensures.ledger.read, counts)

pub returns-in_err-replay-clause-starved : goal.returns-in_err-replay-clause-starved
returns-in_err-replay-clause-starved g c tells starved =
    let first = ok_holds c.open.result c.in_ok-map_err.ensures.variant c.open.ensures.bytes in
    let head = head_of c.in_ok-head.head in
    let has : HasHead head (g.D.Disk.bytes c.args.disk.now) = subst (HasHead head) first (c.in_ok-head.ensures.head tells) in
    is_header (catalogue_tail head) (g.D.Disk.bytes c.args.disk.now) (length-catalogue_tail head has.is_head) has.header
