use Rattle.std.proofs.Common.{◌≡◌, ◌-◌, ℕ, List, min, length, arith, subst, ap, sym, ◌∙◌}
use Rattle.std.specs.Prelude.{replicate}
use Rattle.site_disk.specs.Bytes.{Torn, written}
use Rattle.site_disk.specs.Images.{Leaves}
use Rattle.gated_slots.specs.Slots.{Zeroes}
use Rattle.gated_slots.specs.SlotsLaws.{zeroes_written}
use Rattle.site_disk.specs.CallsLaws.{from_unchanged, then_same, on_ok}
use Rattle.gated_slots.proofs.writing.zero_up_to.Goals as goal

-- where the zero bytes begin
first_is : (from len first : ℕ) (bytes : List ℕ) → len ≡ length bytes → first ≡ min from len → first ≡ min from (length bytes)
first_is from len first bytes is least = least ∙ ap (min from) is

pub returns-in_err-write_zeros-clause-crash : goal.returns-in_err-write_zeros-clause-crash
returns-in_err-write_zeros-clause-crash g c tells =
    let e = c.args.era.now.number in
    let first = c.min.result in
    let old = g.D.Disk.image c.args.disk.now in
    let begun = from_unchanged (Torn first (c.args.to - first)) e old (g.D.Disk.image c.len.new.self) (g.D.Disk.image c.write_zeros.new.disk) c.len.ensures.images c.write_zeros.ensures.crash in
    subst (λ (k : ℕ). Leaves e (Torn k (c.args.to - k)) old (g.D.Disk.image c.write_zeros.new.disk))
    (first_is c.args.from c.in_ok-len.len first (g.D.Disk.bytes c.args.disk.now) (c.in_ok-len.ensures.found tells) c.min.ensures) begun

pub returns-clause-crash : goal.returns-clause-crash
returns-clause-crash g c tells =
    let e = c.args.era.now.number in
    let first = c.min.result in
    let old = g.D.Disk.image c.args.disk.now in
    let new = g.D.Disk.image c.sync.new.self in
    let begun = from_unchanged (Torn first (c.args.to - first)) e old (g.D.Disk.image c.len.new.self) (g.D.Disk.image c.write_zeros.new.disk) c.len.ensures.images c.write_zeros.ensures.crash in
    subst (λ (k : ℕ). Leaves e (Torn k (c.args.to - k)) old new)
    (first_is c.args.from c.in_ok-len.len first (g.D.Disk.bytes c.args.disk.now) (c.in_ok-len.ensures.found tells) c.min.ensures)
    (then_same (Torn first (c.args.to - first)) e old (g.D.Disk.image c.write_zeros.new.disk) new begun c.sync.ensures.crash)

pub returns-clause-zeros : goal.returns-clause-zeros
returns-clause-zeros g c tells =
    let first = c.min.result in
    let old = g.D.Disk.bytes c.args.disk.now in
    let is = first_is c.args.from c.in_ok-len.len first old (c.in_ok-len.ensures.found tells) c.min.ensures in
    let put : g.D.Disk.bytes c.write_zeros.new.disk ≡ written first (replicate (c.args.to - first) 0) old = c.in_ok-write_zeros.ensures.bytes tells ∙ ap (written first (replicate (c.args.to - first) 0)) c.len.ensures.bytes in
    on_ok c.sync.result
    (λ synced. subst (λ (k : ℕ). Zeroes k c.args.to old (g.D.Disk.bytes c.sync.new.self)) is
    (subst (Zeroes first c.args.to old) (sym (synced ∙ put)) (zeroes_written first c.args.to old (omega (arith, is)) (omega (arith, is, c.requires.order)))))
    c.sync.ensures.bytes
