use Rattle.std.proofs.Common.{◌≡◌, ◌+◌, ◌*◌, ℕ, List, length, take, drop, ◌++◌, arith, ap, subst, ◌∙◌}
use Rattle.std.proofs.lemmas.List.{take_at}
use Rattle.site_disk.specs.Bytes.{extent}
use Rattle.site_disk.specs.BytesLaws.{read_range}
use Rattle.log_scan.specs.Runs.{StopsAt}
use Rattle.log_scan.proofs.SlotLemmas.{stops_in}
use Rattle.log_scan.proofs.filing.read_file.Goals as goal

pub returns-clause-bad : goal.returns-clause-bad
returns-clause-bad g c tells number is =
    let bytes = g.D.Disk.bytes c.args.disk.now in
    let at : ℕ = 8448 + 33024 * c.place_of-place.result in
    let place = c.place_of-place.ensures in
    let len : length c.deref_mut.result.now ≡ 128 * c.args.count = omega (arith, c.deref_mut.ensures.len, c.in_ok-bytes.ensures.len) in
    let count : c.in_ok-found.found ≡ length (extent at (128 * c.args.count) bytes) = c.in_ok-found.ensures.count tells ∙ ap (λ (n : ℕ). length (extent at n bytes)) len in
    let whole : take c.in_ok-bytes.bytes.len (c.read_at.new.into ++ drop (length c.read_at.new.into) c.in_ok-bytes.bytes.items) ≡ c.read_at.new.into =
    take_at c.read_at.new.into (drop (length c.read_at.new.into) c.in_ok-bytes.bytes.items) c.in_ok-bytes.bytes.len (omega (arith, c.read_at.auto.into, c.deref_mut.ensures.len, c.in_ok-bytes.bytes.ok.0)) in
    let run : List ℕ = take c.in_ok-found.found c.deref.result.now in
    let run_is = read_range at (128 * c.args.count) c.in_ok-found.found bytes run count (ap (λ (l : List ℕ). take c.in_ok-found.found l) (c.deref.ensures.value ∙ whole) ∙ c.in_ok-found.ensures.found tells) in
    stops_in c.args.first c.args.file bytes c.args.count number run (run_is ∙ ap (λ (p : ℕ). extent (8448 + 33024 * p) (128 * c.args.count) bytes) place)
    (subst (λ (p : ℕ). StopsAt p c.args.first c.args.count run number) place (c.decode_all.ensures.bad number is))
