use Rattle.std.proofs.Common.{◌≡◌, ◌≤◌, ◌+◌, ◌*◌, ◌/◌, ◌++◌, ℕ, List, length, refl, arith, ap, sym, subst, ◌∙◌}
use Rattle.std.specs.List.{AllByRecursion}
use Rattle.backup_lines.specs.Lines.{Line}
use Rattle.boot_lines.specs.LineLayout.{IsLine, lines_of}
use Rattle.site_disk.specs.Seen.{seen}
use Rattle.site_disk.specs.CallsLaws.{uses_more}
use Rattle.gated_slots.specs.Slots.{Area, SlotsView, place_of}
use Rattle.boot_file.specs.Places.{lines_area}
use Rattle.boot_file.proofs.StandsLemmas.{stands_of, slots_agree, slots_reach, knows_still, count_lines, count_bytes, count_slots, gained, gained_mark, gain_becomes, told_more}
use Rattle.boot_file.proofs.boot.Boot.put.Goals as goal

place_le : (used lines len n : ℕ) → used ≡ lines → lines + n ≤ 65536 → len ≡ 128 * n → place_of lines_area used + len + 1 ≤ 8462337 + 128 * n
place_le used lines len n same few is = omega (arith, same, few, is)

pub append_bytes-requires-clause-whole : goal.append_bytes-requires-clause-whole
append_bytes-requires-clause-whole g c = omega (arith, count_bytes c.args.more.now c.args.bytes.now c.requires.bytes)

pub append_bytes-requires-clause-some : goal.append_bytes-requires-clause-some
append_bytes-requires-clause-some g c = omega (arith, count_bytes c.args.more.now c.args.bytes.now c.requires.bytes, c.requires.some)

pub append_bytes-requires-clause-room : goal.append_bytes-requires-clause-room
append_bytes-requires-clause-room g c =
    let capacity : c.args.self.now.slots.area.capacity ≡ 65536 = ap (λ (a : Area). a.capacity) c.requires.opened.made.area in
    omega (arith, count_bytes c.args.more.now c.args.bytes.now c.requires.bytes, c.requires.room, c.requires.opened.tells.used, capacity)

pub returns-in_err-append_bytes-clause-crash : goal.returns-in_err-append_bytes-clause-crash
returns-in_err-append_bytes-clause-crash g c tells site number lines active stands =
    let more : List Line = lines_of c.args.more.now in
    let n : ℕ = length c.args.bytes.now / 128 in
    let count : n ≡ length more = count_slots (length c.args.bytes.now) (length c.args.more.now) (count_bytes c.args.more.now c.args.bytes.now c.requires.bytes) ∙ sym (count_lines c.args.more.now) in
    let disk = seen g.D.Disk c.args.self.now.disk in
    gain_becomes site number lines more active n c.args.bytes.now c.args.self.now.slots.area c.requires.each count (omega (arith, count_lines c.args.more.now, c.requires.some)) stands.made.area c.requires.bytes
    c.args.era.now.number _ _
    (c.append_bytes.ensures.crash tells (slots_reach site number lines active disk c.args.self.now stands) (slots_agree site number lines active disk c.args.self.now stands))

pub returns-in_err-append_bytes-clause-ledger : goal.returns-in_err-append_bytes-clause-ledger
returns-in_err-append_bytes-clause-ledger g c =
    let n : ℕ = length c.args.more.now in
    let le : place_of c.args.self.now.slots.area c.args.self.now.slots.used + length c.args.bytes.now + 1 ≤ 8462337 + 128 * n =
    subst (λ (a : Area). place_of a c.args.self.now.slots.used + length c.args.bytes.now + 1 ≤ 8462337 + 128 * n) (sym c.requires.opened.made.area)
    (place_le c.args.self.now.slots.used (length (lines_of c.args.self.now.lines.items)) (length c.args.bytes.now) n c.requires.opened.tells.used c.requires.room
    (count_bytes c.args.more.now c.args.bytes.now c.requires.bytes)) in
    uses_more c.append_bytes.ensures.ledger (omega arith) le

pub returns-in_err-append_bytes-clause-bound : goal.returns-in_err-append_bytes-clause-bound
returns-in_err-append_bytes-clause-bound g c tells site number lines active stands =
    let disk = seen g.D.Disk c.args.self.now.disk in
    let long = count_bytes c.args.more.now c.args.bytes.now c.requires.bytes in
    let bound = c.append_bytes.ensures.bound tells (slots_reach site number lines active disk c.args.self.now stands) in
    omega (arith, bound, long)

pub returns-clause-told : goal.returns-clause-told
returns-clause-told g c lines number active tells =
    let more : List Line = lines_of c.args.more.now in
    let n : ℕ = length c.args.bytes.now / 128 in
    let count : n ≡ length more = count_slots (length c.args.bytes.now) (length c.args.more.now) (count_bytes c.args.more.now c.args.bytes.now c.requires.bytes) ∙ sym (count_lines c.args.more.now) in
    told_more number lines more active c.args.self.now _ c.requires.each tells c.put_behind.ensures refl
    (ap (λ (s : SlotsView). s.used) c.in_ok-append_bytes.ensures.used ∙ ap (λ (k : ℕ). c.args.self.now.slots.used + k) count)

pub returns-clause-stands : goal.returns-clause-stands
returns-clause-stands g c tells site number lines active stands =
    let more : List Line = lines_of c.args.more.now in
    let n : ℕ = length c.args.bytes.now / 128 in
    let count : n ≡ length more = count_slots (length c.args.bytes.now) (length c.args.more.now) (count_bytes c.args.more.now c.args.bytes.now c.requires.bytes) ∙ sym (count_lines c.args.more.now) in
    let some : 1 ≤ length more = omega (arith, count_lines c.args.more.now, c.requires.some) in
    let disk = seen g.D.Disk c.args.self.now.disk in
    let old = g.D.Disk.bytes c.args.self.now.disk in
    let new = g.D.Disk.bytes c.append_bytes.new.disk in
    let area : Area = c.args.self.now.slots.area in
    let gains = c.in_ok-append_bytes.ensures.gained tells (slots_reach site number lines active disk c.args.self.now stands) (slots_agree site number lines active disk c.args.self.now stands) in
    stands_of site number (lines ++ more) active c.args.era.now.number (seen g.D.Disk c.append_bytes.new.disk) _
    (record { mark = stands.made.mark; area = ap (λ (s : SlotsView). s.area) c.in_ok-append_bytes.ensures.used ∙ stands.made.area })
    (told_more number lines more active c.args.self.now _ c.requires.each stands.tells c.put_behind.ensures refl
    (ap (λ (s : SlotsView). s.used) c.in_ok-append_bytes.ensures.used ∙ ap (λ (k : ℕ). c.args.self.now.slots.used + k) count))
    (knows_still c.args.self.now.mark old new stands.made.mark
    (gained_mark site number lines more active n c.args.bytes.now area c.requires.each count some stands.made.area c.requires.bytes old new gains) stands.knows)
    (g.met.D.Disk.now_counts c.append_bytes.new.disk) c.append_bytes.ensures.ledger.no_later (c.in_ok-append_bytes.ensures.durable tells)
    (gained site number lines more active n c.args.bytes.now area c.requires.each count some stands.made.area c.requires.bytes old new gains stands.now)

pub returns-clause-crash : goal.returns-clause-crash
returns-clause-crash g c tells site number lines active stands =
    let more : List Line = lines_of c.args.more.now in
    let n : ℕ = length c.args.bytes.now / 128 in
    let count : n ≡ length more = count_slots (length c.args.bytes.now) (length c.args.more.now) (count_bytes c.args.more.now c.args.bytes.now c.requires.bytes) ∙ sym (count_lines c.args.more.now) in
    let disk = seen g.D.Disk c.args.self.now.disk in
    gain_becomes site number lines more active n c.args.bytes.now c.args.self.now.slots.area c.requires.each count (omega (arith, count_lines c.args.more.now, c.requires.some)) stands.made.area c.requires.bytes
    c.args.era.now.number _ _
    (c.append_bytes.ensures.crash tells (slots_reach site number lines active disk c.args.self.now stands) (slots_agree site number lines active disk c.args.self.now stands))

pub returns-clause-ledger : goal.returns-clause-ledger
returns-clause-ledger g c =
    let n : ℕ = length c.args.more.now in
    let le : place_of c.args.self.now.slots.area c.args.self.now.slots.used + length c.args.bytes.now + 1 ≤ 8462337 + 128 * n =
    subst (λ (a : Area). place_of a c.args.self.now.slots.used + length c.args.bytes.now + 1 ≤ 8462337 + 128 * n) (sym c.requires.opened.made.area)
    (place_le c.args.self.now.slots.used (length (lines_of c.args.self.now.lines.items)) (length c.args.bytes.now) n c.requires.opened.tells.used c.requires.room
    (count_bytes c.args.more.now c.args.bytes.now c.requires.bytes)) in
    uses_more c.append_bytes.ensures.ledger (omega arith) le

pub returns-clause-bound : goal.returns-clause-bound
returns-clause-bound g c tells site number lines active stands =
    let disk = seen g.D.Disk c.args.self.now.disk in
    let long = count_bytes c.args.more.now c.args.bytes.now c.requires.bytes in
    let bound = c.append_bytes.ensures.bound tells (slots_reach site number lines active disk c.args.self.now stands) in
    omega (arith, bound, long)
