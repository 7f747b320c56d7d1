use Rattle.std.proofs.Common.{◌≡◌, ◌+◌, ◌*◌, ℕ, length, ap, ◌∙◌}
use Rattle.site_disk.specs.Bytes.{extent}
use Rattle.site_disk.specs.BytesLaws.{read_range}
use Rattle.gated_slots.specs.Slots.{used_of}
use Rattle.log_scan.proofs.counting.count_used.Goals as goal

pub returns-clause-used : goal.returns-clause-used
returns-clause-used g c tells =
    let bytes = g.D.Disk.bytes c.args.disk.now in
    let at : ℕ = 8192 + 33024 * c.args.place in
    let count : c.in_ok-found.found ≡ length (extent at 256 bytes) = c.in_ok-found.ensures.count tells ∙ ap (λ (n : ℕ). length (extent at n bytes)) c.requires.all in
    c.last_open.ensures.used ∙ ap used_of (read_range at 256 c.in_ok-found.found bytes _ count (c.in_ok-found.ensures.found tells))
