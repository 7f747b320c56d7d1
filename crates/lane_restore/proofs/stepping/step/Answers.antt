use Rattle.std.specs.Prelude.{Result, Ok, Err, OnOk}
use Rattle.std.proofs.Common.{◌≡◌, ℕ, ◌+◌, ◌^◌, ◌<◌, ◌≤◌, List, [], length, arith, ap, sym, subst, ◌∙◌}
use Rattle.site_disk.specs.Images.{Leaves, OnlyAfter}
use Rattle.site_disk.specs.Seen.{seen}
use Rattle.backup_lines.specs.declared.lanes.LaneState.{LaneState}
use Rattle.lane_mark.specs.Layout.{FitsState}
use Rattle.level_archive.specs.Image.{Entry}
use Rattle.space_lane.specs.declared.lane.Lane.{Lane}
use Rattle.space_lane.specs.Chunks.{HoldsState, SamePages}
use Rattle.space_lane.specs.Lanes.{Agrees, Stands, disk_of as chunk_of, space_of, state_of}
use Rattle.space_lane.specs.Stops.{MaySet}
use Rattle.object_volume.specs.Volumes.{disk_of}
use Rattle.lane_restore.specs.declared.job.ImageJob.{ImageJob}
use Rattle.lane_restore.specs.Images.{AreEntries, HasImage, step_len}
use Rattle.lane_restore.specs.Merging.{ArePages, entries_of, next_entries, page_amid, with_entries}
use Rattle.lane_restore.specs.Steps.{begun, behind_step}
use Rattle.lane_restore.proofs.ImageLemmas.{few_follow}
use Rattle.lane_restore.proofs.StepLemmas.{begin_crash, fits_begun, fits_behind, in_size, length-next, mark_crash, mark_shows, merge_crash, next_stand, pages_begun}
use Rattle.lane_restore.proofs.stepping.step.Goals as goal

-- what two clauses say of a call that came to Ok
both : {T E : Type 0} (r : Result T E) (P Q S : Type 0) → (P → Q → S) → OnOk r P → OnOk r Q → OnOk r S
both (Ok x) P Q S joined p q = joined p q
both (Err x) P Q S joined p q = tt

-- no more entries are merged than an image has
few_entries : (images : List (List Entry)) (pages entries : ℕ) (image : ImageJob) (volume : List ℕ) → pages ≤ 65536 → entries < 2 ^ 32
    → HasImage pages image (entries_of images image.head.level) volume → entries + step_len image.size entries < 2 ^ 32
few_entries images pages entries image volume few fits has =
    let own : length (entries_of images image.head.level) ≤ pages = omega (arith, few_follow image.head pages 0 (entries_of images image.head.level) (omega arith) has.follow) in
    omega (arith, own, few, fits, in_size images image.head.level entries image.size has.size)

pub returns-in_err-mark_begun-clause-crash : goal.returns-in_err-mark_begun-clause-crash
returns-in_err-mark_begun-clause-crash g c tells site images ready =
    let lane = c.args.lane.now in
    let e = c.args.era.now.number in
    let bytes = g.D.Disk.bytes (chunk_of lane) in
    begin_crash site (space_of lane) c.args.pages images (state_of lane) c.args.restore c.args.chain.now c.args.image.now c.args.entries c.requires.place e (g.D.Disk.image (chunk_of lane)) bytes ready.merged
    (λ f lt. g.met.D.Disk.reads_as (chunk_of lane) f tells (omega (arith, lt, c.requires.chunk.not_past)))
    (λ f d lt image. ready.stands.synced f d (omega (arith, lt, c.requires.chunk.not_past)) image)
    (fits_begun (state_of lane) c.args.chain.now c.requires.chain c.requires.opened.fits) (g.D.Disk.image (chunk_of c.mark_begun.new.lane))
    (c.mark_begun.ensures.crash tells site c.args.pages ready.stands)

-- a lane's own disk under the state that its value tells of
holds_there : {D : Type 0} (site space count : ℕ) (state : LaneState) (bytes : List ℕ) (lane : Lane D) → space_of lane ≡ space → Agrees site count state bytes lane
    → HoldsState site space count state bytes
holds_there site space count state bytes lane same agrees = subst (λ (s : ℕ). HoldsState site s count state bytes) same agrees.holds

pub returns-in_err-merged-clause-crash : goal.returns-in_err-merged-clause-crash
returns-in_err-merged-clause-crash g c tells site images ready =
    let lane = c.args.lane.now in
    let one = c.mark_begun.new.lane in
    let image = c.args.image.now in
    let e = c.args.era.now.number in
    let n = c.args.pages in
    let s = begun (state_of lane) c.args.chain.now in
    let bytes = g.D.Disk.bytes (chunk_of lane) in
    let first = g.D.Disk.bytes (chunk_of one) in
    let vb = g.D.Disk.bytes (disk_of c.args.volume.now) in
    let reads : (f : ℕ) → e < f → g.D.Disk.image (chunk_of lane) f bytes = λ f lt. g.met.D.Disk.reads_as (chunk_of lane) f tells (omega (arith, lt, c.requires.chunk.not_past)) in
    let only : OnlyAfter e bytes (g.D.Disk.image (chunk_of lane)) = λ f d lt image. ready.stands.synced f d (omega (arith, lt, c.requires.chunk.not_past)) image in
    let fits : FitsState s = fits_begun (state_of lane) c.args.chain.now c.requires.chain c.requires.opened.fits in
    let stands : Stands site n s (seen g.D.Disk (chunk_of one)) one = c.in_ok-mark_begun.ensures.stands tells site n ready.stands in
    let same : SamePages bytes first = c.in_ok-mark_begun.ensures.pages tells site n ready.stands in
    merge_crash site (space_of lane) n images (state_of lane) c.args.restore c.args.chain.now image c.args.entries c.requires.place e (g.D.Disk.image (chunk_of lane)) bytes ready.merged reads only fits
    first same (holds_there site (space_of lane) n s first one c.in_ok-mark_begun.ensures.space stands.agrees) (g.D.Disk.image (chunk_of one)) (g.D.Disk.image (chunk_of c.merge.new.lane))
    (begin_crash site (space_of lane) n images (state_of lane) c.args.restore c.args.chain.now image c.args.entries c.requires.place e (g.D.Disk.image (chunk_of lane)) bytes ready.merged reads only fits
    (g.D.Disk.image (chunk_of one)) (c.mark_begun.ensures.crash tells site n ready.stands))
    (c.in_ok-mark_begun.ensures.durable tells ready.stands.synced)
    (c.merge.ensures.crash tells (next_entries images image.head.level c.args.entries) stands.agrees.holds.long
    (length-next images image.head.level c.args.entries image.size ready.next.size) (next_stand images n c.args.entries image vb ready.next))

pub returns-clause-stands : goal.returns-clause-stands
returns-clause-stands g c tells site images ready =
    let lane = c.args.lane.now in
    let one = c.mark_begun.new.lane in
    let two = c.merge.new.lane in
    let image = c.args.image.now in
    let e = c.args.era.now.number in
    let n = c.args.pages in
    let s = begun (state_of lane) c.args.chain.now in
    let next = behind_step c.args.restore c.args.chain.now image c.args.entries in
    let window = next_entries images image.head.level c.args.entries in
    let bytes = g.D.Disk.bytes (chunk_of lane) in
    let first = g.D.Disk.bytes (chunk_of one) in
    let second = g.D.Disk.bytes (chunk_of two) in
    let vb = g.D.Disk.bytes (disk_of c.args.volume.now) in
    let stands : Stands site n s (seen g.D.Disk (chunk_of one)) one = c.in_ok-mark_begun.ensures.stands tells site n ready.stands in
    let agrees : Agrees site n s second two = c.in_ok-merged.ensures.agrees tells site s stands.agrees in
    let is_next : c.behind_step.result ≡ next = c.behind_step.ensures c.args.entries c.in_ok-merged.ensures.merged in
    subst (λ (t : LaneState). OnOk c.mark.result (Stands site n t (seen g.D.Disk (chunk_of c.mark.new.lane)) c.mark.new.lane)) is_next
    (c.mark.ensures.stands tells site n s agrees)

pub returns-clause-bound : goal.returns-clause-bound
returns-clause-bound g c tells site standing =
    let n = c.args.pages in
    let one = c.mark_begun.new.lane in
    let s = begun (state_of c.args.lane.now) c.args.chain.now in
    let stands : Stands site n s (seen g.D.Disk (chunk_of one)) one = c.in_ok-mark_begun.ensures.stands tells site n standing in
    let agrees : Agrees site n s (g.D.Disk.bytes (chunk_of c.merge.new.lane)) c.merge.new.lane = c.in_ok-merged.ensures.agrees tells site s stands.agrees in
    omega (
      arith,
      c.mark_begun.ensures.bound tells site n standing,
      c.merge.ensures.bound tells stands.agrees.holds.long,
      c.mark.ensures.bound tells site n s agrees,
    )

pub returns-clause-merged : goal.returns-clause-merged
returns-clause-merged g c tells site images ready =
    let lane = c.args.lane.now in
    let one = c.mark_begun.new.lane in
    let two = c.merge.new.lane in
    let image = c.args.image.now in
    let e = c.args.era.now.number in
    let n = c.args.pages in
    let s = begun (state_of lane) c.args.chain.now in
    let next = behind_step c.args.restore c.args.chain.now image c.args.entries in
    let window = next_entries images image.head.level c.args.entries in
    let bytes = g.D.Disk.bytes (chunk_of lane) in
    let first = g.D.Disk.bytes (chunk_of one) in
    let second = g.D.Disk.bytes (chunk_of two) in
    let vb = g.D.Disk.bytes (disk_of c.args.volume.now) in
    let stands : Stands site n s (seen g.D.Disk (chunk_of one)) one = c.in_ok-mark_begun.ensures.stands tells site n ready.stands in
    let agrees : Agrees site n s second two = c.in_ok-merged.ensures.agrees tells site s stands.agrees in
    let is_next : c.behind_step.result ≡ next = c.behind_step.ensures c.args.entries c.in_ok-merged.ensures.merged in
    let space_two : space_of two ≡ space_of lane = ap (λ (l : Lane g.row.D.Denot). space_of l) c.in_ok-merged.ensures.lane ∙ c.in_ok-mark_begun.ensures.space in
    let reads : (f : ℕ) → e < f → g.D.Disk.image (chunk_of lane) f bytes = λ f lt. g.met.D.Disk.reads_as (chunk_of lane) f tells (omega (arith, lt, c.requires.chunk.not_past)) in
    let only : OnlyAfter e bytes (g.D.Disk.image (chunk_of lane)) = λ f d lt image. ready.stands.synced f d (omega (arith, lt, c.requires.chunk.not_past)) image in
    let fits : FitsState s = fits_begun (state_of lane) c.args.chain.now c.requires.chain c.requires.opened.fits in
    let same : SamePages bytes first = c.in_ok-mark_begun.ensures.pages tells site n ready.stands in
    let holds_one : HoldsState site (space_of lane) n s first = holds_there site (space_of lane) n s first one c.in_ok-mark_begun.ensures.space stands.agrees in
    let holds_two : HoldsState site (space_of lane) n s second = holds_there site (space_of lane) n s second two space_two agrees in
    let are : AreEntries image n c.args.entries window vb = next_stand images n c.args.entries image vb ready.next in
    let long : length window ≡ step_len image.size c.args.entries = length-next images image.head.level c.args.entries image.size ready.next.size in
    let begun_pages : ArePages (space_of one) n (page_amid images image.head.level c.args.entries) window first =
    subst (λ (k : ℕ). ArePages k n (page_amid images image.head.level c.args.entries) window first) (sym c.in_ok-mark_begun.ensures.space)
    (pages_begun site (space_of lane) n images (state_of lane) c.args.restore c.args.chain.now image c.args.entries c.requires.place e (g.D.Disk.image (chunk_of lane)) bytes ready.merged reads only fits
    first same holds_one) in
    let pages_two : ArePages (space_of lane) n (λ number. with_entries number window (page_amid images image.head.level c.args.entries number)) [] second =
    subst (λ (k : ℕ). ArePages k n (λ number. with_entries number window (page_amid images image.head.level c.args.entries number)) [] second) c.in_ok-mark_begun.ensures.space
    (c.in_ok-merged.ensures.pages tells (page_amid images image.head.level c.args.entries) window stands.agrees.holds.long long are begun_pages) in
    let fits_next : FitsState next = fits_behind c.args.restore c.args.chain.now image c.requires.restore c.requires.chain c.requires.within c.requires.position c.args.entries
    (few_entries images n c.args.entries image vb c.requires.few (omega arith) ready.next) in
    let three = c.mark.new.lane in
    let third = g.D.Disk.bytes (chunk_of three) in
    both c.mark.result (Stands site n c.behind_step.result (seen g.D.Disk (chunk_of three)) three) (SamePages second third) _
    (λ standing pages.
    mark_shows site (space_of lane) n images (state_of lane) c.args.restore c.args.chain.now image c.args.entries c.requires.place e (g.D.Disk.image (chunk_of lane)) bytes ready.merged reads only fits
    ready.next.size c.requires.within fits_next second holds_two pages_two third
    (subst (λ (t : LaneState). HoldsState site (space_of lane) n t third) is_next (holds_there site (space_of lane) n c.behind_step.result third three (c.mark.ensures.space ∙ space_two) standing.agrees)) pages)
    (c.mark.ensures.stands tells site n s agrees) (c.mark.ensures.pages tells site n s agrees)

pub returns-clause-crash : goal.returns-clause-crash
returns-clause-crash g c tells site images ready =
    let lane = c.args.lane.now in
    let one = c.mark_begun.new.lane in
    let two = c.merge.new.lane in
    let image = c.args.image.now in
    let e = c.args.era.now.number in
    let n = c.args.pages in
    let s = begun (state_of lane) c.args.chain.now in
    let next = behind_step c.args.restore c.args.chain.now image c.args.entries in
    let window = next_entries images image.head.level c.args.entries in
    let bytes = g.D.Disk.bytes (chunk_of lane) in
    let first = g.D.Disk.bytes (chunk_of one) in
    let second = g.D.Disk.bytes (chunk_of two) in
    let vb = g.D.Disk.bytes (disk_of c.args.volume.now) in
    let stands : Stands site n s (seen g.D.Disk (chunk_of one)) one = c.in_ok-mark_begun.ensures.stands tells site n ready.stands in
    let agrees : Agrees site n s second two = c.in_ok-merged.ensures.agrees tells site s stands.agrees in
    let is_next : c.behind_step.result ≡ next = c.behind_step.ensures c.args.entries c.in_ok-merged.ensures.merged in
    let space_two : space_of two ≡ space_of lane = ap (λ (l : Lane g.row.D.Denot). space_of l) c.in_ok-merged.ensures.lane ∙ c.in_ok-mark_begun.ensures.space in
    let reads : (f : ℕ) → e < f → g.D.Disk.image (chunk_of lane) f bytes = λ f lt. g.met.D.Disk.reads_as (chunk_of lane) f tells (omega (arith, lt, c.requires.chunk.not_past)) in
    let only : OnlyAfter e bytes (g.D.Disk.image (chunk_of lane)) = λ f d lt image. ready.stands.synced f d (omega (arith, lt, c.requires.chunk.not_past)) image in
    let fits : FitsState s = fits_begun (state_of lane) c.args.chain.now c.requires.chain c.requires.opened.fits in
    let same : SamePages bytes first = c.in_ok-mark_begun.ensures.pages tells site n ready.stands in
    let holds_one : HoldsState site (space_of lane) n s first = holds_there site (space_of lane) n s first one c.in_ok-mark_begun.ensures.space stands.agrees in
    let holds_two : HoldsState site (space_of lane) n s second = holds_there site (space_of lane) n s second two space_two agrees in
    let are : AreEntries image n c.args.entries window vb = next_stand images n c.args.entries image vb ready.next in
    let long : length window ≡ step_len image.size c.args.entries = length-next images image.head.level c.args.entries image.size ready.next.size in
    let begun_pages : ArePages (space_of one) n (page_amid images image.head.level c.args.entries) window first =
    subst (λ (k : ℕ). ArePages k n (page_amid images image.head.level c.args.entries) window first) (sym c.in_ok-mark_begun.ensures.space)
    (pages_begun site (space_of lane) n images (state_of lane) c.args.restore c.args.chain.now image c.args.entries c.requires.place e (g.D.Disk.image (chunk_of lane)) bytes ready.merged reads only fits
    first same holds_one) in
    let pages_two : ArePages (space_of lane) n (λ number. with_entries number window (page_amid images image.head.level c.args.entries number)) [] second =
    subst (λ (k : ℕ). ArePages k n (λ number. with_entries number window (page_amid images image.head.level c.args.entries number)) [] second) c.in_ok-mark_begun.ensures.space
    (c.in_ok-merged.ensures.pages tells (page_amid images image.head.level c.args.entries) window stands.agrees.holds.long long are begun_pages) in
    let fits_next : FitsState next = fits_behind c.args.restore c.args.chain.now image c.requires.restore c.requires.chain c.requires.within c.requires.position c.args.entries
    (few_entries images n c.args.entries image vb c.requires.few (omega arith) ready.next) in
    mark_crash site (space_of lane) n images (state_of lane) c.args.restore c.args.chain.now image c.args.entries c.requires.place e (g.D.Disk.image (chunk_of lane)) bytes ready.merged reads only fits
    ready.next.size c.requires.within fits_next second holds_two pages_two (g.D.Disk.image (chunk_of two)) (g.D.Disk.image (chunk_of c.mark.new.lane))
    (merge_crash site (space_of lane) n images (state_of lane) c.args.restore c.args.chain.now image c.args.entries c.requires.place e (g.D.Disk.image (chunk_of lane)) bytes ready.merged reads only fits
    first same holds_one (g.D.Disk.image (chunk_of one)) (g.D.Disk.image (chunk_of two))
    (begin_crash site (space_of lane) n images (state_of lane) c.args.restore c.args.chain.now image c.args.entries c.requires.place e (g.D.Disk.image (chunk_of lane)) bytes ready.merged reads only fits
    (g.D.Disk.image (chunk_of one)) (c.mark_begun.ensures.crash tells site n ready.stands))
    (c.in_ok-mark_begun.ensures.durable tells ready.stands.synced)
    (c.merge.ensures.crash tells window stands.agrees.holds.long long are))
    (subst (λ (t : LaneState). Leaves e (MaySet t second) (g.D.Disk.image (chunk_of two)) (g.D.Disk.image (chunk_of c.mark.new.lane))) is_next (c.mark.ensures.crash tells site n s agrees))
