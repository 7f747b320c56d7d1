use Rattle.std.proofs.Common.{◌≡◌, ℕ, ◌+◌, ◌-◌, ◌≤◌, ◌++◌, List, [], ◌∷◌, length, take, arith, ap, sym, ◌∙◌}
use Rattle.std.proofs.lemmas.List.{take_all, length-take}
use Rattle.site_disk.specs.Bytes.{written, filled}
use Rattle.site_disk.specs.ImagesLaws.{weaker}
use Rattle.object_volume.specs.Objects.{Outside, Spares}
use Rattle.object_volume.proofs.OutsideLemmas.{length-wrote, grown_by}
use Rattle.object_volume.proofs.SendingLemmas.{length-rest, part_grows, part_fills, filled_front, length-put, block_outside, block_written}
use borrow.Rule.Slice.PartMut.{put_mid}
use Rattle.object_volume.proofs.sending.fill_part.Goals as goal

pub returns-else-filled-n-eq-BLOCK_LEN-clause-stored : goal.returns-else-filled-n-eq-BLOCK_LEN-clause-stored
returns-else-filled-n-eq-BLOCK_LEN-clause-stored g c table list message is so_far =
    let n = c.min-n.result in
    let piece = take n c.args.bytes.now in
    let put = c.copy_from_slice.new.self in
    let after = put_mid c.args.filled (c.args.filled + n - c.args.filled) c.args.part.now put in
    let few : n ≤ length c.args.bytes.now = omega arith in
    let long : length piece ≡ n = omega (arith, length-take n c.args.bytes.now) in
    let e : length so_far.rest ≡ c.args.filled = length-rest so_far ∙ sym is in
    part_grows so_far piece after (omega (arith, e, c.if-filled-eq0.false)) (omega (arith, e, long, c.if-filled-n-eq-BLOCK_LEN.false))
    (ap (λ (k : ℕ). take k after) (sum (length so_far.rest) (length piece) c.args.filled n e long)
    ∙ filled_front c.args.filled (c.args.filled + n - c.args.filled) n c.args.part.now c.args.bytes.now put (omega arith) c.copy_from_slice.ensures.after few
    ∙ ap (λ (k : ℕ). take k c.args.part.now ++ piece) (sym e))
  where
    sum : (a b m n : ℕ) → a ≡ m → b ≡ n → a + b ≡ m + n
    sum a b m n x y = omega (arith, x, y)

-- the buffer is full of the part's bytes and the new ones
full_buffer : (place n : ℕ) (buffer bytes put rest : List ℕ) → length buffer ≡ 4096 → place + n ≡ 4096 → put ≡ take n bytes → n ≤ length bytes → take place buffer ≡ rest
    → put_mid place (place + n - place) buffer put ≡ rest ++ take n bytes
full_buffer place n buffer bytes put rest long all is few kept =
    let after : List ℕ = put_mid place (place + n - place) buffer put in
    let size : length put ≡ n = ap length is ∙ omega (arith, length-take n bytes) in
    sym (take_all (place + n) after (omega (arith, length-put place n buffer put (omega arith) size)))
    ∙ filled_front place (place + n - place) n buffer bytes put (omega arith) is few ∙ ap (λ (l : List ℕ). l ++ take n bytes) kept

pub returns-in_ok-write_run-clause-stored : goal.returns-in_ok-write_run-clause-stored
returns-in_ok-write_run-clause-stored g c table list message is so_far =
    let n = c.min-n.result in
    let piece = take n c.args.bytes.now in
    let put = c.copy_from_slice.new.self in
    let after = put_mid c.args.filled (c.args.filled + n - c.args.filled) c.args.part.now put in
    let few : n ≤ length c.args.bytes.now = omega arith in
    let long : length piece ≡ n = omega (arith, length-take n c.args.bytes.now) in
    let e : length so_far.rest ≡ c.args.filled = length-rest so_far ∙ sym is in
    part_fills so_far piece after (g.D.Disk.bytes c.write_run.new.disk) (omega (arith, e, c.if-filled-eq0.false)) (omega (arith, e, long, c.if-filled-n-eq-BLOCK_LEN.true))
    (full_buffer c.args.filled n c.args.part.now c.args.bytes.now put so_far.rest c.requires.part c.if-filled-n-eq-BLOCK_LEN.true c.copy_from_slice.ensures.after few
    (ap (λ (k : ℕ). take k c.args.part.now) (sym e) ∙ so_far.kept))
    (λ tells. c.in_ok-write_run.ensures.bytes tells ∙ ap (λ (k : ℕ). written k after (filled k (g.D.Disk.bytes c.args.disk.now))) c.place_of.ensures)

-- the buffer keeps its length
full_length : (place n : ℕ) (buffer bytes put : List ℕ) → length buffer ≡ 4096 → place + n ≡ 4096 → put ≡ take n bytes → n ≤ length bytes
    → length (put_mid place (place + n - place) buffer put) ≡ 4096
full_length place n buffer bytes put long all is few =
    length-put place n buffer put (omega arith) (ap length is ∙ omega (arith, length-take n bytes)) ∙ long

pub returns-in_ok-write_run-clause-spared : goal.returns-in_ok-write_run-clause-spared
returns-in_ok-write_run-clause-spared g c tells =
    let n = c.min-n.result in
    let put = c.copy_from_slice.new.self in
    block_written c.args.last c.place_of.result (put_mid c.args.filled (c.args.filled + n - c.args.filled) c.args.part.now put) (g.D.Disk.bytes c.args.disk.now) (g.D.Disk.bytes c.write_run.new.disk)
    c.place_of.ensures
    (full_length c.args.filled n c.args.part.now c.args.bytes.now put c.requires.part c.if-filled-n-eq-BLOCK_LEN.true c.copy_from_slice.ensures.after (omega arith))
    (c.in_ok-write_run.ensures.bytes tells)

pub returns-in_ok-write_run-clause-crash : goal.returns-in_ok-write_run-clause-crash
returns-in_ok-write_run-clause-crash g c tells =
    let n = c.min-n.result in
    let put = c.copy_from_slice.new.self in
    let limit : ℕ = length (g.D.Disk.bytes c.args.disk.now) in
    let long : ℕ = length (put_mid c.args.filled (c.args.filled + n - c.args.filled) c.args.part.now put) in
    let all = full_length c.args.filled n c.args.part.now c.args.bytes.now put c.requires.part c.if-filled-n-eq-BLOCK_LEN.true c.copy_from_slice.ensures.after (omega arith) in
    weaker (Spares (c.args.last ∷ []) limit) (Outside c.place_of.result long limit) c.args.era.now.number (g.D.Disk.image c.args.disk.now) (g.D.Disk.image c.args.disk.now)
    (g.D.Disk.image c.write_run.new.disk) (c.write_run.ensures.crash tells)
    (λ f d b lt image outside. block_outside c.args.last c.place_of.result long limit d b c.place_of.ensures all outside)

pub returns-in_err-write_run-clause-crash : goal.returns-in_err-write_run-clause-crash
returns-in_err-write_run-clause-crash g c tells =
    let n = c.min-n.result in
    let put = c.copy_from_slice.new.self in
    let limit : ℕ = length (g.D.Disk.bytes c.args.disk.now) in
    let long : ℕ = length (put_mid c.args.filled (c.args.filled + n - c.args.filled) c.args.part.now put) in
    let all = full_length c.args.filled n c.args.part.now c.args.bytes.now put c.requires.part c.if-filled-n-eq-BLOCK_LEN.true c.copy_from_slice.ensures.after (omega arith) in
    weaker (Spares (c.args.last ∷ []) limit) (Outside c.place_of.result long limit) c.args.era.now.number (g.D.Disk.image c.args.disk.now) (g.D.Disk.image c.args.disk.now)
    (g.D.Disk.image c.write_run.new.disk) (c.write_run.ensures.crash tells)
    (λ f d b lt image outside. block_outside c.args.last c.place_of.result long limit d b c.place_of.ensures all outside)

-- the write of a part that is full, and the zero bytes before it
pub returns-in_ok-write_run-clause-grown : goal.returns-in_ok-write_run-clause-grown
returns-in_ok-write_run-clause-grown g c tells =
    let n = c.min-n.result in
    let put = c.copy_from_slice.new.self in
    let part : List ℕ = put_mid c.args.filled (c.args.filled + n - c.args.filled) c.args.part.now put in
    let all = full_length c.args.filled n c.args.part.now c.args.bytes.now put c.requires.part c.if-filled-n-eq-BLOCK_LEN.true c.copy_from_slice.ensures.after (omega arith) in
    let grown = grown_by c.place_of.result part (g.D.Disk.bytes c.args.disk.now) (g.D.Disk.bytes c.write_run.new.disk) (c.in_ok-write_run.ensures.bytes tells)
    (g.D.Disk.ledger c.args.disk.now).written (g.D.Disk.ledger c.write_run.new.disk).written (c.write_run.ensures.spent tells) in
    omega (arith, grown, all, c.if-filled-n-eq-BLOCK_LEN.true)

pub returns-in_ok-write_run-clause-reaches : goal.returns-in_ok-write_run-clause-reaches
returns-in_ok-write_run-clause-reaches g c tells =
    let n = c.min-n.result in
    let put = c.copy_from_slice.new.self in
    let part : List ℕ = put_mid c.args.filled (c.args.filled + n - c.args.filled) c.args.part.now put in
    let all = full_length c.args.filled n c.args.part.now c.args.bytes.now put c.requires.part c.if-filled-n-eq-BLOCK_LEN.true c.copy_from_slice.ensures.after (omega arith) in
    let size = length-wrote c.place_of.result part (g.D.Disk.bytes c.args.disk.now) (g.D.Disk.bytes c.write_run.new.disk) (c.in_ok-write_run.ensures.bytes tells) in
    omega (arith, size, all, c.place_of.ensures)

pub returns-in_ok-write_run-clause-bound : goal.returns-in_ok-write_run-clause-bound
returns-in_ok-write_run-clause-bound g c tells =
    let n = c.min-n.result in
    let put = c.copy_from_slice.new.self in
    let all = full_length c.args.filled n c.args.part.now c.args.bytes.now put c.requires.part c.if-filled-n-eq-BLOCK_LEN.true c.copy_from_slice.ensures.after (omega arith) in
    let few : n ≤ length c.args.bytes.now = omega arith in
    omega (arith, c.write_run.ensures.spent tells, all, few, c.if-filled-n-eq-BLOCK_LEN.true, c.place_of.ensures)

pub returns-in_err-write_run-clause-bound : goal.returns-in_err-write_run-clause-bound
returns-in_err-write_run-clause-bound g c tells =
    let n = c.min-n.result in
    let put = c.copy_from_slice.new.self in
    let all = full_length c.args.filled n c.args.part.now c.args.bytes.now put c.requires.part c.if-filled-n-eq-BLOCK_LEN.true c.copy_from_slice.ensures.after (omega arith) in
    let few : n ≤ length c.args.bytes.now = omega arith in
    omega (arith, c.write_run.ensures.spent tells, all, few, c.if-filled-n-eq-BLOCK_LEN.true, c.place_of.ensures)
