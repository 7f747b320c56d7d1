use Rattle.std.proofs.Common.{◌≡◌, ◌≤◌, ◌+◌, ◌*◌, ◌/◌, ℕ, List, length, length-append, refl, arith, ap, sym, subst, ◌∙◌}
use Rattle.site_disk.specs.Seen.{seen}
use Rattle.std.proofs.lemmas.List.{length-map}
use Rattle.site_disk.specs.CallsLaws.{uses_more}
use Rattle.log_history.specs.History.{History}
use Rattle.log_record.specs.Entry.{entry_of, history_of}
use Rattle.log_record.specs.declared.records.Record.{Record}
use Rattle.gated_slots.specs.Slots.{Area, SlotsView, place_of}
use Rattle.log_files.specs.Files.{AreFiles, appended, current_id}
use Rattle.log_files.specs.Ring.{area_of}
use Rattle.log_files.proofs.HeldLemmas.{mark-appended}
use Rattle.logical_log.proofs.PassLemmas.{gain_passes}
use Rattle.logical_log.proofs.StandsLemmas.{stands_of, slots_agree, slots_reach, knows_still, count_bytes, count_slots, gained, gained_mark}
use Rattle.logical_log.proofs.ring.LogRing.put_bytes.Goals as goal

long_history : (batch : List Record) → length (history_of batch) ≡ length batch
long_history batch = length-map batch entry_of

place_le : (file used len n : ℕ) → used ≤ 256 → len ≡ 128 * n → place_of (area_of file) used + len + 1 ≤ 272385 + 128 * n
place_le file used len n few is = omega (arith, few, is)

pub append_bytes-requires-clause-whole : goal.append_bytes-requires-clause-whole
append_bytes-requires-clause-whole g c = omega (arith, count_bytes c.args.batch.now c.args.bytes.now c.requires.records c.requires.bytes)

pub append_bytes-requires-clause-some : goal.append_bytes-requires-clause-some
append_bytes-requires-clause-some g c = omega (arith, count_bytes c.args.batch.now c.args.bytes.now c.requires.records c.requires.bytes, c.requires.some)

pub append_bytes-requires-clause-room : goal.append_bytes-requires-clause-room
append_bytes-requires-clause-room g c =
    let capacity : c.args.self.now.slots.area.capacity ≡ 256 = ap (λ (a : Area). a.capacity) c.requires.opened.tells.area in
    omega (arith, count_bytes c.args.batch.now c.args.bytes.now c.requires.records c.requires.bytes, c.requires.room, capacity)

pub returns-in_err-append_bytes-clause-crash : goal.returns-in_err-append_bytes-clause-crash
returns-in_err-append_bytes-clause-crash g c tells site files stands =
    let batch : History = history_of c.args.batch.now in
    let count : length c.args.bytes.now / 128 ≡ length batch =
    count_slots (length c.args.bytes.now) (length c.args.batch.now) (count_bytes c.args.batch.now c.args.bytes.now c.requires.records c.requires.bytes) ∙ sym (long_history c.args.batch.now) in
    let disk = seen g.D.Disk c.args.self.now.disk in
    gain_passes site files (appended files batch) batch refl (length c.args.bytes.now / 128) c.args.bytes.now c.args.self.now.slots.area c.args.era.now.number _ _
    (c.requires.fits files stands.tells) (mark-appended files batch) count (omega (arith, long_history c.args.batch.now, c.requires.some)) stands.tells.area c.requires.bytes
    (c.append_bytes.ensures.crash tells (slots_reach site files disk c.args.self.now stands) (slots_agree site files disk c.args.self.now stands))

pub returns-in_err-append_bytes-clause-ledger : goal.returns-in_err-append_bytes-clause-ledger
returns-in_err-append_bytes-clause-ledger g c =
    let le : place_of c.args.self.now.slots.area c.args.self.now.slots.used + length c.args.bytes.now + 1 ≤ 272385 + 128 * length c.args.batch.now =
    subst (λ (a : Area). place_of a c.args.self.now.slots.used + length c.args.bytes.now + 1 ≤ 272385 + 128 * length c.args.batch.now) (sym c.requires.opened.tells.area)
    (place_le (current_id c.requires.opened.files) c.args.self.now.slots.used (length c.args.bytes.now) (length c.args.batch.now) (omega (arith, c.requires.room))
    (count_bytes c.args.batch.now c.args.bytes.now c.requires.records c.requires.bytes)) in
    uses_more c.append_bytes.ensures.ledger (omega arith) le

pub returns-in_err-append_bytes-clause-bound : goal.returns-in_err-append_bytes-clause-bound
returns-in_err-append_bytes-clause-bound g c tells site files stands =
    let disk = seen g.D.Disk c.args.self.now.disk in
    let long = count_bytes c.args.batch.now c.args.bytes.now c.requires.records c.requires.bytes in
    let bound = c.append_bytes.ensures.bound tells (slots_reach site files disk c.args.self.now stands) (slots_agree site files disk c.args.self.now stands) in
    omega (arith, bound, long)

pub returns-clause-told : goal.returns-clause-told
returns-clause-told g c files tells =
    let long = count_bytes c.args.batch.now c.args.bytes.now c.requires.records c.requires.bytes in
    let more : c.append_bytes.new.slots.used ≡ c.args.self.now.slots.used + length c.args.bytes.now / 128 = ap (λ (s : SlotsView). s.used) c.in_ok-append_bytes.ensures.used in record {
      fits = c.requires.fits files tells;
      held = c.append.ensures files tells.held;
      area = ap (λ (s : SlotsView). s.area) c.in_ok-append_bytes.ensures.used ∙ tells.area;
      used = omega (arith, more, tells.used, long, long_history c.args.batch.now, length-append files.current (history_of c.args.batch.now));
    }

pub returns-clause-stands : goal.returns-clause-stands
returns-clause-stands g c tells site files stands =
    let batch : History = history_of c.args.batch.now in
    let long = count_bytes c.args.batch.now c.args.bytes.now c.requires.records c.requires.bytes in
    let n : ℕ = length c.args.bytes.now / 128 in
    let count : length c.args.bytes.now / 128 ≡ length batch = count_slots (length c.args.bytes.now) (length c.args.batch.now) long ∙ sym (long_history c.args.batch.now) in
    let some : 1 ≤ length batch = omega (arith, long_history c.args.batch.now, c.requires.some) in
    let disk = seen g.D.Disk c.args.self.now.disk in
    let old = g.D.Disk.bytes c.args.self.now.disk in
    let new = g.D.Disk.bytes c.append_bytes.new.disk in
    let area : Area = c.args.self.now.slots.area in
    let more : c.append_bytes.new.slots.used ≡ c.args.self.now.slots.used + length c.args.bytes.now / 128 = ap (λ (s : SlotsView). s.used) c.in_ok-append_bytes.ensures.used in
    let gains = c.in_ok-append_bytes.ensures.gained tells (slots_reach site files disk c.args.self.now stands) (slots_agree site files disk c.args.self.now stands) in
    let fits : AreFiles (appended files batch) = c.requires.fits files stands.tells in
    stands_of site (appended files batch) c.args.era.now.number (seen g.D.Disk c.append_bytes.new.disk) _ (record { mark = c.requires.opened.made.mark })
    (record {
      fits = fits;
      held = c.append.ensures files stands.tells.held;
      area = ap (λ (s : SlotsView). s.area) c.in_ok-append_bytes.ensures.used ∙ stands.tells.area;
      used = omega (arith, more, stands.tells.used, long, long_history c.args.batch.now, length-append files.current batch);
    })
    (knows_still c.args.self.now.mark old new c.requires.opened.made.mark
    (gained_mark site files batch n c.args.bytes.now area old new stands.now fits count some stands.tells.area c.requires.bytes gains) stands.knows)
    (g.met.D.Disk.now_counts c.append_bytes.new.disk) c.append_bytes.ensures.ledger.no_later (c.in_ok-append_bytes.ensures.durable tells)
    (gained site files batch n c.args.bytes.now area old new stands.now fits count some stands.tells.area c.requires.bytes gains)

pub returns-clause-crash : goal.returns-clause-crash
returns-clause-crash g c tells site files stands =
    let batch : History = history_of c.args.batch.now in
    let count : length c.args.bytes.now / 128 ≡ length batch =
    count_slots (length c.args.bytes.now) (length c.args.batch.now) (count_bytes c.args.batch.now c.args.bytes.now c.requires.records c.requires.bytes) ∙ sym (long_history c.args.batch.now) in
    let disk = seen g.D.Disk c.args.self.now.disk in
    gain_passes site files (appended files batch) batch refl (length c.args.bytes.now / 128) c.args.bytes.now c.args.self.now.slots.area c.args.era.now.number _ _
    (c.requires.fits files stands.tells) (mark-appended files batch) count (omega (arith, long_history c.args.batch.now, c.requires.some)) stands.tells.area c.requires.bytes
    (c.append_bytes.ensures.crash tells (slots_reach site files disk c.args.self.now stands) (slots_agree site files disk c.args.self.now stands))

pub returns-clause-ledger : goal.returns-clause-ledger
returns-clause-ledger g c =
    let le : place_of c.args.self.now.slots.area c.args.self.now.slots.used + length c.args.bytes.now + 1 ≤ 272385 + 128 * length c.args.batch.now =
    subst (λ (a : Area). place_of a c.args.self.now.slots.used + length c.args.bytes.now + 1 ≤ 272385 + 128 * length c.args.batch.now) (sym c.requires.opened.tells.area)
    (place_le (current_id c.requires.opened.files) c.args.self.now.slots.used (length c.args.bytes.now) (length c.args.batch.now) (omega (arith, c.requires.room))
    (count_bytes c.args.batch.now c.args.bytes.now c.requires.records c.requires.bytes)) in
    uses_more c.append_bytes.ensures.ledger (omega arith) le

pub returns-clause-bound : goal.returns-clause-bound
returns-clause-bound g c tells site files stands =
    let disk = seen g.D.Disk c.args.self.now.disk in
    let long = count_bytes c.args.batch.now c.args.bytes.now c.requires.records c.requires.bytes in
    let bound = c.append_bytes.ensures.bound tells (slots_reach site files disk c.args.self.now stands) (slots_agree site files disk c.args.self.now stands) in
    omega (arith, bound, long)
