use Rattle.std.proofs.Common.{◌<◌, ◌≤◌, ℕ, inl, length, arith, subst}
use Rattle.site_disk.specs.CallsLaws.{both_on_ok, uses_both}
use Rattle.site_disk.specs.ImagesLaws.{begins}
use Rattle.site_disk.specs.GatesLaws.{gate_synced}
use Rattle.site_disk.specs.Images.{Leaves}
use Rattle.site_disk.specs.Seen.{seen}
use Rattle.site_disk.specs.SeenLaws.{synced_after}
use Rattle.before_images.specs.Saved.{Drops, MayDrop}
use Rattle.twin_mark.specs.Marks.{MayStore, Stores}
use Rattle.twin_mark.specs.MarksLaws.{agrees_synced}
use Rattle.lane_ways.specs.Pictures.{images_at, mark_at}
use Rattle.lane_steps.specs.Moves.{Moves, WritesOnly, placed}
use Rattle.lane_steps.proofs.StepLemmas.{knows_dropped, may_drop_shows, moves_again, moves_known, ready_dropped, rests_behind, stored_moves, three_on_ok}
use Rattle.lane_steps.proofs.OnlyLemmas.{only_dropping, only_none, only_storing, then_only}
use Rattle.lane_steps.proofs.stepping.move_place.Goals as goal

pub returns-in_err-drop_all-clause-crash : goal.returns-in_err-drop_all-clause-crash
returns-in_err-drop_all-clause-crash g c tells first upto part rests =
    let e = c.args.era.now.number in
    let second = placed first c.args.content.now upto part in
    let bytes = g.D.Disk.bytes c.args.disk.now in
    let image = g.D.Disk.image c.args.disk.now in
    let image_d = g.D.Disk.image c.drop_all.new.disk in
    let le = c.requires.era.not_past in
    let there : c.args.images.now.base < length bytes = omega (arith, c.requires.images, rests.shows.long) in
    let dropping = subst (λ (b : ℕ). Leaves e (MayDrop b) image image_d) c.requires.images
    (c.drop_all.ensures.crash tells there (gate_synced c.args.images.now.base (seen g.D.Disk c.args.disk.now) rests.synced)) in
    moves_known first second e image image image_d (MayDrop images_at) bytes (λ f x lt is. rests.synced f x (omega (arith, le, lt)) is) dropping
    (λ x may. inl (may_drop_shows first c.args.content.now upto part bytes rests.shows rests.plain x may))

pub returns-clause-crash : goal.returns-clause-crash
returns-clause-crash g c tells first upto part rests =
    let e = c.args.era.now.number in
    let content = c.args.content.now in
    let second = placed first content upto part in
    let bytes = g.D.Disk.bytes c.args.disk.now in
    let image = g.D.Disk.image c.args.disk.now in
    let bytes_d = g.D.Disk.bytes c.drop_all.new.disk in
    let image_d = g.D.Disk.image c.drop_all.new.disk in
    let image_t = g.D.Disk.image c.store.new.disk in
    let le = c.requires.era.not_past in
    let there : c.args.images.now.base < length bytes = omega (arith, c.requires.images, rests.shows.long) in
    let dropping = subst (λ (b : ℕ). Leaves e (MayDrop b) image image_d) c.requires.images
    (c.drop_all.ensures.crash tells there (gate_synced c.args.images.now.base (seen g.D.Disk c.args.disk.now) rests.synced)) in
    let drops_so : Leaves e (Moves first second) image image_d =
    moves_known first second e image image image_d (MayDrop images_at) bytes (λ f x lt is. rests.synced f x (omega (arith, le, lt)) is) dropping
    (λ x may. inl (may_drop_shows first content upto part bytes rests.shows rests.plain x may)) in
    let drops = subst (λ (b : ℕ). Drops b bytes bytes_d) c.requires.images (c.in_ok-drop_all.ensures.dropped tells (omega (arith, there))) in
    let only = c.in_ok-drop_all.ensures.durable tells (omega (arith, there)) rests.synced in
    let synced = synced_after (seen g.D.Disk c.drop_all.new.disk) e (g.met.D.Disk.now_counts c.drop_all.new.disk) c.drop_all.ensures.ledger.no_later only in
    let knows = knows_dropped c.args.mark.now bytes bytes_d c.requires.mark drops rests.knows in
    let storing = subst (λ (b : ℕ). Leaves e (MayStore b content) image_d image_t) c.requires.mark
    (c.store.ensures.crash tells (agrees_synced c.args.mark.now (seen g.D.Disk c.drop_all.new.disk) synced knows)) in
    moves_again first second e image image_d image_t drops_so
    (moves_known first second e image_d image_d image_t (MayStore mark_at content) bytes_d only storing
    (λ x may. stored_moves first second bytes_d x (ready_dropped first content upto part bytes rests.shows rests.plain bytes_d drops) may))

pub returns-clause-rests : goal.returns-clause-rests
returns-clause-rests g c tells first upto part rests =
    let e = c.args.era.now.number in
    let content = c.args.content.now in
    let second = placed first content upto part in
    let bytes = g.D.Disk.bytes c.args.disk.now in
    let bytes_d = g.D.Disk.bytes c.drop_all.new.disk in
    let bytes_t = g.D.Disk.bytes c.store.new.disk in
    let there : c.args.images.now.base ≤ length bytes = omega (arith, c.requires.images, rests.shows.long) in
    let drops = subst (λ (b : ℕ). Drops b bytes bytes_d) c.requires.images (c.in_ok-drop_all.ensures.dropped tells there) in
    let knows = knows_dropped c.args.mark.now bytes bytes_d c.requires.mark drops rests.knows in
    three_on_ok c.store.result
    (λ stores agrees only. rests_behind first second bytes_d bytes_t (ready_dropped first content upto part bytes rests.shows rests.plain bytes_d drops) c.store.new.self
    (g.D.Disk.ledger c.store.new.disk).last e (g.D.Disk.image c.store.new.disk)
    (subst (λ (b : ℕ). Stores b content bytes_d bytes_t) c.requires.mark stores) agrees.now c.store.ensures.ledger.no_later (g.met.D.Disk.now_counts c.store.new.disk) only)
    (c.store.ensures.stored tells knows) (c.store.ensures.agrees tells knows) (c.store.ensures.durable tells)

pub returns-clause-ledger : goal.returns-clause-ledger
returns-clause-ledger g c = uses_both c.in_ok-drop_all.ensures.ledger c.store.ensures.ledger (omega arith) (omega (arith, c.requires.images, c.requires.mark))

pub returns-clause-bound : goal.returns-clause-bound
returns-clause-bound g c tells long knows =
    let bytes = g.D.Disk.bytes c.args.disk.now in
    let bytes_d = g.D.Disk.bytes c.drop_all.new.disk in
    let there : c.args.images.now.base ≤ length bytes = omega (arith, c.requires.images, long) in
    let drops = subst (λ (b : ℕ). Drops b bytes bytes_d) c.requires.images (c.in_ok-drop_all.ensures.dropped tells there) in
    omega (arith, c.drop_all.ensures.bound tells there, c.store.ensures.bound tells (knows_dropped c.args.mark.now bytes bytes_d c.requires.mark drops knows))

pub returns-in_err-drop_all-clause-others : goal.returns-in_err-drop_all-clause-others
returns-in_err-drop_all-clause-others g c tells long knows synced =
    let e = c.args.era.now.number in
    let bytes = g.D.Disk.bytes c.args.disk.now in
    let image = g.D.Disk.image c.args.disk.now in
    let image_d = g.D.Disk.image c.drop_all.new.disk in
    let there : c.args.images.now.base < length bytes = omega (arith, c.requires.images, long) in
    let dropping = subst (λ (b : ℕ). Leaves e (MayDrop b) image image_d) c.requires.images
    (c.drop_all.ensures.crash tells there (gate_synced c.args.images.now.base (seen g.D.Disk c.args.disk.now) synced)) in
    let drops_only : Leaves e (WritesOnly 0) image image_d =
    then_only 0 e (MayDrop images_at) image image image_d (begins (WritesOnly 0) (WritesOnly 0) e image image image (only_none 0)) dropping (λ d x may. only_dropping 0 d x may) in
    drops_only

pub returns-clause-others : goal.returns-clause-others
returns-clause-others g c tells long knows synced =
    let e = c.args.era.now.number in
    let bytes = g.D.Disk.bytes c.args.disk.now in
    let image = g.D.Disk.image c.args.disk.now in
    let image_d = g.D.Disk.image c.drop_all.new.disk in
    let there : c.args.images.now.base < length bytes = omega (arith, c.requires.images, long) in
    let dropping = subst (λ (b : ℕ). Leaves e (MayDrop b) image image_d) c.requires.images
    (c.drop_all.ensures.crash tells there (gate_synced c.args.images.now.base (seen g.D.Disk c.args.disk.now) synced)) in
    let drops_only : Leaves e (WritesOnly 0) image image_d =
    then_only 0 e (MayDrop images_at) image image image_d (begins (WritesOnly 0) (WritesOnly 0) e image image image (only_none 0)) dropping (λ d x may. only_dropping 0 d x may) in
    let bytes_d = g.D.Disk.bytes c.drop_all.new.disk in
    let image_t = g.D.Disk.image c.store.new.disk in
    let drops = subst (λ (b : ℕ). Drops b bytes bytes_d) c.requires.images (c.in_ok-drop_all.ensures.dropped tells (omega (arith, there))) in
    let only = c.in_ok-drop_all.ensures.durable tells (omega (arith, there)) synced in
    let synced_d = synced_after (seen g.D.Disk c.drop_all.new.disk) e (g.met.D.Disk.now_counts c.drop_all.new.disk) c.drop_all.ensures.ledger.no_later only in
    let known = knows_dropped c.args.mark.now bytes bytes_d c.requires.mark drops knows in
    let storing = subst (λ (b : ℕ). Leaves e (MayStore b c.args.content.now) image_d image_t) c.requires.mark
    (c.store.ensures.crash tells (agrees_synced c.args.mark.now (seen g.D.Disk c.drop_all.new.disk) synced_d known)) in
    then_only 0 e (MayStore mark_at c.args.content.now) image image_d image_t drops_only storing (λ d x may. only_storing 0 c.args.content.now d x may)

pub returns-clause-knows : goal.returns-clause-knows
returns-clause-knows g c tells long knows =
    let bytes = g.D.Disk.bytes c.args.disk.now in
    let bytes_d = g.D.Disk.bytes c.drop_all.new.disk in
    let there : c.args.images.now.base ≤ length bytes = omega (arith, c.requires.images, long) in
    let drops = subst (λ (b : ℕ). Drops b bytes bytes_d) c.requires.images (c.in_ok-drop_all.ensures.dropped tells there) in
    let known = knows_dropped c.args.mark.now bytes bytes_d c.requires.mark drops knows in
    both_on_ok c.store.result (λ agrees stores. (agrees.now, omega (arith, drops.no_shorter, stores.no_shorter))) (c.store.ensures.agrees tells known) (c.store.ensures.stored tells known)
