use Rattle.std.specs.Prelude.{Option, Some, None, IsSome, Result, Err}
use Rattle.std.proofs.Common.{◌≡◌, ℕ, ◌+◌, ◌*◌, ◌<◌, ◌≤◌, List, arith, ap, sym, subst, ◌∙◌}
use Rattle.std.proofs.lemmas.Option.{same_Some}
use Rattle.site_disk.specs.Images.{Leaves}
use Rattle.site_disk.specs.Seen.{seen}
use Rattle.backup_lines.specs.declared.lanes.LaneState.{LaneState}
use Rattle.space_lane.specs.Lanes.{Stands, TellsOf, disk_of as chunk_of, space_of, state_of}
use Rattle.object_volume.specs.Volumes.{disk_of}
use Rattle.lane_restore.specs.declared.job.ImageJob.{ImageJob}
use Rattle.lane_restore.specs.declared.job.LaneEnd.{LaneEnd}
use Rattle.lane_restore.specs.declared.job.LaneEnd.TheVariants.{Unsound}
use Rattle.lane_restore.specs.Images.{IsTaken, blocks_read, step_len}
use Rattle.lane_restore.specs.Jobs.{HasNone, IsFirstAt, amid, amid_of, image_of}
use Rattle.lane_restore.specs.Merging.{HoldsMerged}
use Rattle.lane_restore.specs.Steps.{IsReady, MayMerge, behind_step}
use Rattle.lane_restore.proofs.NextLemmas.{first_is, level_below, none_is, of_next}
use Rattle.lane_restore.proofs.stepping.step_image.Goals as goal

pub unreachable-requires : goal.unreachable-requires
unreachable-requires g c =
    let job = c.args.job.now in
    let place : amid_of (state_of job.lane) ≡ Some (amid c.in-Some.level c.in-Some.entries) = ap amid_of (sym c.state.ensures) ∙ c.in-Some.ensures in
    let none : image_of c.in-Some.level job.images.items ≡ None =
    none_is c.in-Some.level job.images.items (subst (λ (l : List ImageJob). HasNone c.in-Some.level l) c.deref.ensures.value c.in_default-place_of.ensures) in
    let below : c.in-Some.level < job.chain.len = level_below job.restore job.chain (state_of job.lane) c.in-Some.level c.in-Some.entries place c.requires.state c.requires.opened.fits c.requires.job.chain in
    let some = c.requires.images (amid c.in-Some.level c.in-Some.entries) place c.in-Some.level (omega arith) below in
    let no : ⊥ = cc (subst (λ (o : Option ImageJob). IsSome o) none some) in no

pub returns-in-Ok-clause-told : goal.returns-in-Ok-clause-told
returns-in-Ok-clause-told g c level entries image next ended =
    let job = c.args.job.now in
    let place : amid_of (state_of job.lane) ≡ Some (amid c.in-Some.level c.in-Some.entries) = ap amid_of (sym c.state.ensures) ∙ c.in-Some.ensures in
    let first : IsFirstAt c.in-Some.level job.images.items c.in-Some-place_of.place =
    subst (λ (l : List ImageJob). IsFirstAt c.in-Some.level l c.in-Some-place_of.place) c.deref.ensures.value c.in-Some-place_of.ensures in
    let chosen : image_of c.in-Some.level job.images.items ≡ Some c.index.result.now =
    first_is c.in-Some.level job.images.items c.in-Some-place_of.place c.index.result.now first ∙ ap Some (sym c.index.ensures) in
    let vb = g.D.Disk.bytes (disk_of job.volume) in
    let new = c.step-stepped.new.lane in
    of_next (state_of job.lane) job.images.items c.index.result.now c.in-Some.level c.in-Some.entries
    (λ (i : ImageJob) (l n : ℕ). TellsOf c.args.pages (behind_step job.restore job.chain i n) new)
    place chosen (c.in-Ok.ensures.told) level entries image next

pub returns-in-Ok-clause-taken : goal.returns-in-Ok-clause-taken
returns-in-Ok-clause-taken g c tells level entries image next ended =
    let job = c.args.job.now in
    let place : amid_of (state_of job.lane) ≡ Some (amid c.in-Some.level c.in-Some.entries) = ap amid_of (sym c.state.ensures) ∙ c.in-Some.ensures in
    let first : IsFirstAt c.in-Some.level job.images.items c.in-Some-place_of.place =
    subst (λ (l : List ImageJob). IsFirstAt c.in-Some.level l c.in-Some-place_of.place) c.deref.ensures.value c.in-Some-place_of.ensures in
    let chosen : image_of c.in-Some.level job.images.items ≡ Some c.index.result.now =
    first_is c.in-Some.level job.images.items c.in-Some-place_of.place c.index.result.now first ∙ ap Some (sym c.index.ensures) in
    let vb = g.D.Disk.bytes (disk_of job.volume) in
    let new = c.step-stepped.new.lane in
    of_next (state_of job.lane) job.images.items c.index.result.now c.in-Some.level c.in-Some.entries
    (λ (i : ImageJob) (l n : ℕ). IsTaken i c.args.pages n vb)
    place chosen (c.in-Ok.ensures.taken tells) level entries image next

pub returns-in-Ok-clause-stands : goal.returns-in-Ok-clause-stands
returns-in-Ok-clause-stands g c tells site level entries image images next ready ended =
    let job = c.args.job.now in
    let place : amid_of (state_of job.lane) ≡ Some (amid c.in-Some.level c.in-Some.entries) = ap amid_of (sym c.state.ensures) ∙ c.in-Some.ensures in
    let first : IsFirstAt c.in-Some.level job.images.items c.in-Some-place_of.place =
    subst (λ (l : List ImageJob). IsFirstAt c.in-Some.level l c.in-Some-place_of.place) c.deref.ensures.value c.in-Some-place_of.ensures in
    let chosen : image_of c.in-Some.level job.images.items ≡ Some c.index.result.now =
    first_is c.in-Some.level job.images.items c.in-Some-place_of.place c.index.result.now first ∙ ap Some (sym c.index.ensures) in
    let vb = g.D.Disk.bytes (disk_of job.volume) in
    let new = c.step-stepped.new.lane in
    of_next (state_of job.lane) job.images.items c.index.result.now c.in-Some.level c.in-Some.entries
    (λ (i : ImageJob) (l n : ℕ). IsReady site c.args.pages images i vb (seen g.D.Disk (chunk_of job.lane)) job.lane → Stands site c.args.pages (state_of new) (seen g.D.Disk (chunk_of new)) new)
    place chosen (λ ready. subst (λ (t : LaneState). Stands site c.args.pages t (seen g.D.Disk (chunk_of new)) new) (sym c.in-Ok.ensures.told.state_is) (c.in-Ok.ensures.stands tells site images ready)) level entries image next ready

pub returns-in-Ok-clause-merged : goal.returns-in-Ok-clause-merged
returns-in-Ok-clause-merged g c tells site level entries image images next ready ended =
    let job = c.args.job.now in
    let place : amid_of (state_of job.lane) ≡ Some (amid c.in-Some.level c.in-Some.entries) = ap amid_of (sym c.state.ensures) ∙ c.in-Some.ensures in
    let first : IsFirstAt c.in-Some.level job.images.items c.in-Some-place_of.place =
    subst (λ (l : List ImageJob). IsFirstAt c.in-Some.level l c.in-Some-place_of.place) c.deref.ensures.value c.in-Some-place_of.ensures in
    let chosen : image_of c.in-Some.level job.images.items ≡ Some c.index.result.now =
    first_is c.in-Some.level job.images.items c.in-Some-place_of.place c.index.result.now first ∙ ap Some (sym c.index.ensures) in
    let vb = g.D.Disk.bytes (disk_of job.volume) in
    let new = c.step-stepped.new.lane in
    of_next (state_of job.lane) job.images.items c.index.result.now c.in-Some.level c.in-Some.entries
    (λ (i : ImageJob) (l n : ℕ). IsReady site c.args.pages images i vb (seen g.D.Disk (chunk_of job.lane)) job.lane → HoldsMerged site (space_of job.lane) c.args.pages images (state_of new) (g.D.Disk.bytes (chunk_of new)))
    place chosen (λ ready. subst (λ (t : LaneState). HoldsMerged site (space_of job.lane) c.args.pages images t (g.D.Disk.bytes (chunk_of new))) (sym c.in-Ok.ensures.told.state_is) (c.in-Ok.ensures.merged tells site images ready)) level entries image next ready

pub returns-in-Ok-clause-crash : goal.returns-in-Ok-clause-crash
returns-in-Ok-clause-crash g c tells site level entries image images next ready =
    let job = c.args.job.now in
    let place : amid_of (state_of job.lane) ≡ Some (amid c.in-Some.level c.in-Some.entries) = ap amid_of (sym c.state.ensures) ∙ c.in-Some.ensures in
    let first : IsFirstAt c.in-Some.level job.images.items c.in-Some-place_of.place =
    subst (λ (l : List ImageJob). IsFirstAt c.in-Some.level l c.in-Some-place_of.place) c.deref.ensures.value c.in-Some-place_of.ensures in
    let chosen : image_of c.in-Some.level job.images.items ≡ Some c.index.result.now =
    first_is c.in-Some.level job.images.items c.in-Some-place_of.place c.index.result.now first ∙ ap Some (sym c.index.ensures) in
    let vb = g.D.Disk.bytes (disk_of job.volume) in
    let new = c.step-stepped.new.lane in
    of_next (state_of job.lane) job.images.items c.index.result.now c.in-Some.level c.in-Some.entries
    (λ (i : ImageJob) (l n : ℕ). IsReady site c.args.pages images i vb (seen g.D.Disk (chunk_of job.lane)) job.lane → Leaves c.args.era.now.number (MayMerge site (space_of job.lane) c.args.pages images (state_of job.lane) (behind_step job.restore job.chain i n) job.chain) (g.D.Disk.image (chunk_of job.lane)) (g.D.Disk.image (chunk_of new)))
    place chosen (λ ready. c.step-stepped.ensures.crash tells site images ready) level entries image next ready

pub returns-in-Ok-clause-bound : goal.returns-in-Ok-clause-bound
returns-in-Ok-clause-bound g c tells site level entries image next stands =
    let job = c.args.job.now in
    let place : amid_of (state_of job.lane) ≡ Some (amid c.in-Some.level c.in-Some.entries) = ap amid_of (sym c.state.ensures) ∙ c.in-Some.ensures in
    let first : IsFirstAt c.in-Some.level job.images.items c.in-Some-place_of.place =
    subst (λ (l : List ImageJob). IsFirstAt c.in-Some.level l c.in-Some-place_of.place) c.deref.ensures.value c.in-Some-place_of.ensures in
    let chosen : image_of c.in-Some.level job.images.items ≡ Some c.index.result.now =
    first_is c.in-Some.level job.images.items c.in-Some-place_of.place c.index.result.now first ∙ ap Some (sym c.index.ensures) in
    let vb = g.D.Disk.bytes (disk_of job.volume) in
    let new = c.step-stepped.new.lane in
    of_next (state_of job.lane) job.images.items c.index.result.now c.in-Some.level c.in-Some.entries
    (λ (i : ImageJob) (l n : ℕ). (g.D.Disk.ledger (chunk_of new)).written ≤ (g.D.Disk.ledger (chunk_of job.lane)).written + 4096 * (step_len i.size n + 1))
    place chosen (omega (arith, c.step-stepped.ensures.bound tells site stands)) level entries image next

pub returns-in-Ok-clause-reads : goal.returns-in-Ok-clause-reads
returns-in-Ok-clause-reads g c level entries image next =
    let job = c.args.job.now in
    let place : amid_of (state_of job.lane) ≡ Some (amid c.in-Some.level c.in-Some.entries) = ap amid_of (sym c.state.ensures) ∙ c.in-Some.ensures in
    let first : IsFirstAt c.in-Some.level job.images.items c.in-Some-place_of.place =
    subst (λ (l : List ImageJob). IsFirstAt c.in-Some.level l c.in-Some-place_of.place) c.deref.ensures.value c.in-Some-place_of.ensures in
    let chosen : image_of c.in-Some.level job.images.items ≡ Some c.index.result.now =
    first_is c.in-Some.level job.images.items c.in-Some-place_of.place c.index.result.now first ∙ ap Some (sym c.index.ensures) in
    let vb = g.D.Disk.bytes (disk_of job.volume) in
    let new = c.step-stepped.new.lane in
    of_next (state_of job.lane) job.images.items c.index.result.now c.in-Some.level c.in-Some.entries
    (λ (i : ImageJob) (l n : ℕ). (g.D.Disk.ledger (disk_of c.step-stepped.new.volume)).read ≤ (g.D.Disk.ledger (disk_of job.volume)).read + 4096 * blocks_read i.size n)
    place chosen (c.step-stepped.ensures.ledger.read) level entries image next

pub returns-in-Err-clause-crash : goal.returns-in-Err-clause-crash
returns-in-Err-clause-crash g c tells site level entries image images next ready =
    let job = c.args.job.now in
    let place : amid_of (state_of job.lane) ≡ Some (amid c.in-Some.level c.in-Some.entries) = ap amid_of (sym c.state.ensures) ∙ c.in-Some.ensures in
    let first : IsFirstAt c.in-Some.level job.images.items c.in-Some-place_of.place =
    subst (λ (l : List ImageJob). IsFirstAt c.in-Some.level l c.in-Some-place_of.place) c.deref.ensures.value c.in-Some-place_of.ensures in
    let chosen : image_of c.in-Some.level job.images.items ≡ Some c.index.result.now =
    first_is c.in-Some.level job.images.items c.in-Some-place_of.place c.index.result.now first ∙ ap Some (sym c.index.ensures) in
    let vb = g.D.Disk.bytes (disk_of job.volume) in
    let new = c.step-stepped.new.lane in
    of_next (state_of job.lane) job.images.items c.index.result.now c.in-Some.level c.in-Some.entries
    (λ (i : ImageJob) (l n : ℕ). IsReady site c.args.pages images i vb (seen g.D.Disk (chunk_of job.lane)) job.lane → Leaves c.args.era.now.number (MayMerge site (space_of job.lane) c.args.pages images (state_of job.lane) (behind_step job.restore job.chain i n) job.chain) (g.D.Disk.image (chunk_of job.lane)) (g.D.Disk.image (chunk_of new)))
    place chosen (λ ready. c.step-stepped.ensures.crash tells site images ready) level entries image next ready

pub returns-in-Err-clause-bound : goal.returns-in-Err-clause-bound
returns-in-Err-clause-bound g c tells site level entries image next stands =
    let job = c.args.job.now in
    let place : amid_of (state_of job.lane) ≡ Some (amid c.in-Some.level c.in-Some.entries) = ap amid_of (sym c.state.ensures) ∙ c.in-Some.ensures in
    let first : IsFirstAt c.in-Some.level job.images.items c.in-Some-place_of.place =
    subst (λ (l : List ImageJob). IsFirstAt c.in-Some.level l c.in-Some-place_of.place) c.deref.ensures.value c.in-Some-place_of.ensures in
    let chosen : image_of c.in-Some.level job.images.items ≡ Some c.index.result.now =
    first_is c.in-Some.level job.images.items c.in-Some-place_of.place c.index.result.now first ∙ ap Some (sym c.index.ensures) in
    let vb = g.D.Disk.bytes (disk_of job.volume) in
    let new = c.step-stepped.new.lane in
    of_next (state_of job.lane) job.images.items c.index.result.now c.in-Some.level c.in-Some.entries
    (λ (i : ImageJob) (l n : ℕ). (g.D.Disk.ledger (chunk_of new)).written ≤ (g.D.Disk.ledger (chunk_of job.lane)).written + 4096 * (step_len i.size n + 1))
    place chosen (omega (arith, c.step-stepped.ensures.bound tells site stands)) level entries image next

pub returns-in-Err-clause-reads : goal.returns-in-Err-clause-reads
returns-in-Err-clause-reads g c level entries image next =
    let job = c.args.job.now in
    let place : amid_of (state_of job.lane) ≡ Some (amid c.in-Some.level c.in-Some.entries) = ap amid_of (sym c.state.ensures) ∙ c.in-Some.ensures in
    let first : IsFirstAt c.in-Some.level job.images.items c.in-Some-place_of.place =
    subst (λ (l : List ImageJob). IsFirstAt c.in-Some.level l c.in-Some-place_of.place) c.deref.ensures.value c.in-Some-place_of.ensures in
    let chosen : image_of c.in-Some.level job.images.items ≡ Some c.index.result.now =
    first_is c.in-Some.level job.images.items c.in-Some-place_of.place c.index.result.now first ∙ ap Some (sym c.index.ensures) in
    let vb = g.D.Disk.bytes (disk_of job.volume) in
    let new = c.step-stepped.new.lane in
    of_next (state_of job.lane) job.images.items c.index.result.now c.in-Some.level c.in-Some.entries
    (λ (i : ImageJob) (l n : ℕ). (g.D.Disk.ledger (disk_of c.step-stepped.new.volume)).read ≤ (g.D.Disk.ledger (disk_of job.volume)).read + 4096 * blocks_read i.size n)
    place chosen (c.step-stepped.ensures.ledger.read) level entries image next

-- the end that is told is the one that the step answered
told_end : (inner : LaneEnd) (level own : ℕ) → own ≡ level → ◌≡◌ {A = Option LaneEnd} (Some inner) (Some (Unsound level)) → ◌≡◌ {A = Result (Unit {0}) LaneEnd} (Err inner) (Err (Unsound own))
told_end inner level own same is = ap (λ (e : LaneEnd). Err e) (same_Some inner (Unsound level) is ∙ ap Unsound (sym same))

pub returns-in-Err-clause-unsound : goal.returns-in-Err-clause-unsound
returns-in-Err-clause-unsound g c tells level entries image next is taken =
    let job = c.args.job.now in
    let place : amid_of (state_of job.lane) ≡ Some (amid c.in-Some.level c.in-Some.entries) = ap amid_of (sym c.state.ensures) ∙ c.in-Some.ensures in
    let first : IsFirstAt c.in-Some.level job.images.items c.in-Some-place_of.place =
    subst (λ (l : List ImageJob). IsFirstAt c.in-Some.level l c.in-Some-place_of.place) c.deref.ensures.value c.in-Some-place_of.ensures in
    let chosen : image_of c.in-Some.level job.images.items ≡ Some c.index.result.now =
    first_is c.in-Some.level job.images.items c.in-Some-place_of.place c.index.result.now first ∙ ap Some (sym c.index.ensures) in
    let own : c.index.result.now.head.level ≡ c.in-Some.level = ap (λ (i : ImageJob). i.head.level) c.index.ensures ∙ first.1 c.index.result.now in
    let vb = g.D.Disk.bytes (disk_of job.volume) in
    of_next (state_of job.lane) job.images.items c.index.result.now c.in-Some.level c.in-Some.entries
    (λ (i : ImageJob) (l n : ℕ). ◌≡◌ {A = Option LaneEnd} (Some c.in-Err.end) (Some (Unsound l)) → IsTaken i c.args.pages n vb → ⊥)
    place chosen (λ is taken. c.in-Err.ensures.unsound tells (told_end c.in-Err.end c.in-Some.level c.index.result.now.head.level own is) taken) level entries image next is taken
