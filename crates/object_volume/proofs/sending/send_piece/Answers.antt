use Rattle.std.proofs.Common.{◌≡◌, ℕ, Bool, ◌+◌, ◌-◌, ◌*◌, ◌<◌, ◌≤◌, ◌⊎◌, ◌++◌, List, [], length, take, drop, max, refl, arith, ap, sym, ◌∙◌, subst, inl, inr, ⊎_elim, length-append, length-take, length-drop}
use Rattle.std.specs.Prelude.{◌%◌, ◌/◌}
use Rattle.std.proofs.lemmas.Bool.{cases_lt}
use Rattle.site_disk.specs.Ledger.{Ledger}
use Rattle.block_chain.specs.Table.{blocks_of}
use Rattle.object_volume.specs.Objects.{place_of}
use Rattle.sha2.specs.Hashers.{Holds256}
use Rattle.block_chain.specs.Table.{Table}
use Rattle.block_chain.specs.Blocks.{times}
use Rattle.block_chain.specs.BlocksLaws.{times_head}
use Rattle.object_volume.specs.declared.sending.Sending.{Sending}
use Rattle.object_volume.specs.Sending.{Stored, IsSent}
use Rattle.object_volume.proofs.OutsideLemmas.{writes_again, after_call}
use Rattle.object_volume.proofs.SendingLemmas.{sent_small, last_listed, last_below, crash_joined, spares_joined, among_left, among_right, blocks_counted, part_crash, part_spares, part_uses, more_writes, piece_sent}
use Rattle.object_volume.proofs.sending.send_piece.Goals as goal

pub overflow_add-object : goal.overflow_add-object
overflow_add-object g c =
    let begun = c.requires.begun in
    let small = sent_small begun.1.stored in
    omega (arith, small, begun.1.size, c.requires.small)

pub overflow_add-object-2 : goal.overflow_add-object-2
overflow_add-object-2 g c =
    let begun = c.requires.begun in
    let small = sent_small begun.1.stored in
    let same = c.in_ok-put_rest.ensures.same.0 in
    omega (arith, small, begun.1.size, c.requires.small, same)

-- the blocks that may be written
listed : {tells : Bool} {file : List ℕ} {table : Table} {object : Sending} {part message : List ℕ} → IsSent tells file table object part message
    → 0 < object.size % 4096 → 0 < times object.last (blocks_of table object.list ++ table.free)
listed {table = table} {object = object} sent some =
    among_left (blocks_of table object.list) table.free object.last
    (last_listed sent.stored (omega (arith, some, sent.size)) object.last (omega (arith, times_head object.last [])))

below : {tells : Bool} {file : List ℕ} {table : Table} {object : Sending} {part message : List ℕ} → IsSent tells file table object part message → 0 < object.size % 4096 → object.last < table.blocks
below sent some = last_below sent.stored (omega (arith, some, sent.size))

pub fill_part-requires-clause-reached : goal.fill_part-requires-clause-reached
fill_part-requires-clause-reached g c = c.requires.begun.1.reached

pub returns-in_err-n-clause-crash : goal.returns-in_err-n-clause-crash
returns-in_err-n-clause-crash g c tells =
    part_crash (c.args.object.now.size % 4096) c.args.object.now.last (blocks_of c.args.chains.now c.args.object.now.list ++ c.args.chains.now.free) c.args.disk.now c.fill_part.new.disk
    (listed c.requires.begun.1) c.fill_part.ensures.unused g.D.Disk.image c.args.era.now.number (length (g.D.Disk.bytes c.args.disk.now)) (c.fill_part.ensures.crash tells)

pub returns-in_err-n-clause-ledger : goal.returns-in_err-n-clause-ledger
returns-in_err-n-clause-ledger g c =
    let filled = part_uses g.D.Disk.ledger (c.args.object.now.size % 4096) c.args.object.now.last c.args.chains.now.blocks c.args.disk.now c.fill_part.new.disk
    (below c.requires.begun.1) c.fill_part.ensures.unused c.requires.era c.fill_part.ensures.ledger in
    writes_again filled (after_call filled) (omega (arith, more_writes 0 (length c.args.bytes.now / 4096) (place_of c.args.chains.now.blocks) (omega arith)))

pub returns-in_err-put_rest-clause-crash : goal.returns-in_err-put_rest-clause-crash
returns-in_err-put_rest-clause-crash g c tells =
    let own = blocks_of c.args.chains.now c.args.object.now.list ++ c.args.chains.now.free in
    let limit : ℕ = length (g.D.Disk.bytes c.args.disk.now) in
    crash_joined c.args.era.now.number limit (length (g.D.Disk.bytes c.fill_part.new.disk)) own c.args.chains.now.free
    (g.D.Disk.image c.args.disk.now) (g.D.Disk.image c.fill_part.new.disk) (g.D.Disk.image c.put_rest.new.disk) (c.in_ok-n.ensures.spared tells).no_shorter
    (among_right (blocks_of c.args.chains.now c.args.object.now.list) c.args.chains.now.free)
    (part_crash (c.args.object.now.size % 4096) c.args.object.now.last own c.args.disk.now c.fill_part.new.disk
    (listed c.requires.begun.1) c.fill_part.ensures.unused g.D.Disk.image c.args.era.now.number limit (c.fill_part.ensures.crash tells))
    (c.put_rest.ensures.crash tells)

pub returns-clause-crash : goal.returns-clause-crash
returns-clause-crash g c tells =
    let own = blocks_of c.args.chains.now c.args.object.now.list ++ c.args.chains.now.free in
    let limit : ℕ = length (g.D.Disk.bytes c.args.disk.now) in
    crash_joined c.args.era.now.number limit (length (g.D.Disk.bytes c.fill_part.new.disk)) own c.args.chains.now.free
    (g.D.Disk.image c.args.disk.now) (g.D.Disk.image c.fill_part.new.disk) (g.D.Disk.image c.put_rest.new.disk) (c.in_ok-n.ensures.spared tells).no_shorter
    (among_right (blocks_of c.args.chains.now c.args.object.now.list) c.args.chains.now.free)
    (part_crash (c.args.object.now.size % 4096) c.args.object.now.last own c.args.disk.now c.fill_part.new.disk
    (listed c.requires.begun.1) c.fill_part.ensures.unused g.D.Disk.image c.args.era.now.number limit (c.fill_part.ensures.crash tells))
    (c.put_rest.ensures.crash tells)

pub returns-clause-spared : goal.returns-clause-spared
returns-clause-spared g c tells =
    let own = blocks_of c.args.chains.now c.args.object.now.list ++ c.args.chains.now.free in
    let limit : ℕ = length (g.D.Disk.bytes c.args.disk.now) in
    let filled = c.in_ok-n.ensures.spared tells in
    spares_joined limit (length (g.D.Disk.bytes c.fill_part.new.disk)) own c.args.chains.now.free
    (g.D.Disk.bytes c.args.disk.now) (g.D.Disk.bytes c.fill_part.new.disk) (g.D.Disk.bytes c.put_rest.new.disk) filled.no_shorter
    (among_right (blocks_of c.args.chains.now c.args.object.now.list) c.args.chains.now.free)
    (part_spares (c.args.object.now.size % 4096) c.args.object.now.last own c.args.disk.now c.fill_part.new.disk
    (listed c.requires.begun.1) c.fill_part.ensures.unused g.D.Disk.bytes filled)
    (c.in_ok-put_rest.ensures.spared tells)

rest_few : (n len : ℕ) (bytes : List ℕ) → len ≡ length bytes → length (take (len - n) (drop n bytes)) / 4096 ≤ len / 4096
rest_few n len bytes is = omega (arith, length-take (len - n) (drop n bytes), length-drop n bytes, is)

pub returns-in_err-put_rest-clause-ledger : goal.returns-in_err-put_rest-clause-ledger
returns-in_err-put_rest-clause-ledger g c =
    let bytes = c.args.bytes.now in
    writes_again (part_uses g.D.Disk.ledger (c.args.object.now.size % 4096) c.args.object.now.last c.args.chains.now.blocks c.args.disk.now c.fill_part.new.disk
    (below c.requires.begun.1) c.fill_part.ensures.unused c.requires.era c.fill_part.ensures.ledger) c.put_rest.ensures.ledger
    (more_writes (length (take (length bytes - c.in_ok-n.n) (drop c.in_ok-n.n bytes)) / 4096) (length bytes / 4096) (place_of c.args.chains.now.blocks) (rest_few c.in_ok-n.n (length bytes) bytes refl))

pub returns-clause-ledger : goal.returns-clause-ledger
returns-clause-ledger g c =
    let bytes = c.args.bytes.now in
    writes_again (part_uses g.D.Disk.ledger (c.args.object.now.size % 4096) c.args.object.now.last c.args.chains.now.blocks c.args.disk.now c.fill_part.new.disk
    (below c.requires.begun.1) c.fill_part.ensures.unused c.requires.era c.fill_part.ensures.ledger) c.put_rest.ensures.ledger
    (more_writes (length (take (length bytes - c.in_ok-n.n) (drop c.in_ok-n.n bytes)) / 4096) (length bytes / 4096) (place_of c.args.chains.now.blocks) (rest_few c.in_ok-n.n (length bytes) bytes refl))

pub returns-clause-taken : goal.returns-clause-taken
returns-clause-taken g c =
    let size = c.args.object.now.size in
    let bytes = c.args.bytes.now in
    let n = c.in_ok-n.n in
    let filled = c.in_ok-n.ensures in
    let rest : length (take (length bytes - n) (drop n bytes)) ≡ length bytes - n = omega (arith, length-take (length bytes - n) (drop n bytes), length-drop n bytes) in
    let count = blocks_counted size (length bytes) n (size % 4096) refl filled.taken filled.within filled.none filled.even in
    let got = c.in_ok-put_rest.ensures.taken in
    record { taken = got.taken; takes = got.takes; counted = got.counted ∙ ap (λ (k : ℕ). (k + 4095) / 4096) rest ∙ count }

pub returns-clause-sent : goal.returns-clause-sent
returns-clause-sent g c message is =
    let bytes = c.args.bytes.now in
    let n = c.in_ok-n.n in
    let filled = c.in_ok-n.ensures in
    let same = c.in_ok-put_rest.ensures.same in
    let size : c.args.object.now.size % 4096 ≡ length message % 4096 = ap (λ (k : ℕ). k % 4096) is.size in
    let front = filled.stored c.args.chains.now c.args.object.now.list message size is.stored in
    let case : (length (message ++ take n bytes) % 4096 ≡ 0) ⊎ (length (take (length bytes - n) (drop n bytes)) ≡ 0) = ⊎_elim
    (λ (all : n ≡ length bytes). inr (omega (arith, length-take (length bytes - n) (drop n bytes), all)))
    (λ (full : (c.args.object.now.size % 4096 + n) % 4096 ≡ 0). inl (aligned c.args.object.now.size n message bytes is.size filled.taken full)) filled.even in
    record {
      stored = subst (λ (m : List ℕ). Stored g.D.Disk.is_modelled (g.D.Disk.bytes c.put_rest.new.disk) c.put_rest.new.chains c.put_rest.new.object.list c.put_rest.new.object.last c.put_rest.new.part m)
          (piece_sent message bytes n filled.taken) (c.in_ok-put_rest.ensures.stored (message ++ take n bytes) case front);
      hashed = c.update.ensures message (subst (λ h. Holds256 h message) (sym same.1) is.hashed);
      size = ap (λ (k : ℕ). k + length bytes) (same.0 ∙ is.size) ∙ sym (length-append message bytes);
      reached = c.in_ok-put_rest.ensures.reached;
    }
  where
    aligned : (size n : ℕ) (message bytes : List ℕ) → size ≡ length message → n ≤ length bytes → (size % 4096 + n) % 4096 ≡ 0 → length (message ++ take n bytes) % 4096 ≡ 0
    aligned size n message bytes is few full = omega (arith, length-append message (take n bytes), length-take n bytes, is, few, full)

-- a part that isn't there isn't written, and the block of one that is there is one of the volume's
module _ {D : Type 0} (ledger : D → Ledger) (bytes : D → List ℕ) (filled last blocks most : ℕ) (old new : D) (below : 0 < filled → last < blocks) (unused : filled ≡ 0 → new ≡ old) where
  part_bound : (ledger new).written ≤ (ledger old).written + most + (place_of last - length (bytes old))
      → (ledger new).written ≤ (ledger old).written + most + (place_of blocks - length (bytes old))
  part_bound bound = ⊎_elim
      (λ (some : 0 < filled). omega (arith, below some, bound))
      (λ (none : filled ≤ 0). let is : filled ≡ 0 = omega arith in omega (arith, ap (λ d. (ledger d).written) (unused is)))
      (cases_lt 0 filled)

  part_reaches : length (bytes new) ≤ max (length (bytes old)) (place_of last + 4096) → length (bytes new) ≤ max (length (bytes old)) (place_of blocks)
  part_reaches reaches = ⊎_elim
      (λ (some : 0 < filled). omega (arith, below some, reaches))
      (λ (none : filled ≤ 0). let is : filled ≡ 0 = omega arith in omega (arith, ap (λ d. length (bytes d)) (unused is)))
      (cases_lt 0 filled)

-- the part's block and those of the rest are whole blocks of both
blocks_both : (filled n len : ℕ) (bytes : List ℕ) → len ≡ length bytes → n ≤ len
    → 4096 * ((filled + n) / 4096) + 4096 * (length (take (len - n) (drop n bytes)) / 4096) ≤ 4096 * ((filled + len) / 4096)
blocks_both filled n len bytes is few = omega (arith, few, length-take (len - n) (drop n bytes), length-drop n bytes, is)

-- what both of two calls write, and what the volume grows by
both_bound : (before mid after one two all short middle end : ℕ) → mid ≤ before + one + (middle - short) → short ≤ middle → middle ≤ max short end → one + two ≤ all
    → after ≤ mid + two + (end - middle) → after ≤ before + all + (end - short)
both_bound before mid after one two all short middle end first longer within sum second = omega (arith, first, longer, within, sum, second)

both_grown : (before mid after one two all short middle long : ℕ) → mid ≤ before + one + (middle - short) → short ≤ middle → middle ≤ long → one + two ≤ all
    → after ≤ mid + two + (long - middle) → after ≤ before + all + (long - short)
both_grown before mid after one two all short middle long first longer still sum second = omega (arith, first, longer, still, sum, second)

pub returns-in_err-n-clause-bound : goal.returns-in_err-n-clause-bound
returns-in_err-n-clause-bound g c tells =
    let filled : ℕ = c.args.object.now.size % 4096 in
    part_bound g.D.Disk.ledger g.D.Disk.bytes filled c.args.object.now.last c.args.chains.now.blocks (4096 * ((filled + length c.args.bytes.now) / 4096))
    c.args.disk.now c.fill_part.new.disk (below c.requires.begun.1) c.fill_part.ensures.unused (c.fill_part.ensures.bound tells)

pub returns-in_err-put_rest-clause-bound : goal.returns-in_err-put_rest-clause-bound
returns-in_err-put_rest-clause-bound g c tells =
    let filled : ℕ = c.args.object.now.size % 4096 in
    let bytes = c.args.bytes.now in
    let n = c.in_ok-n.n in
    both_bound (g.D.Disk.ledger c.args.disk.now).written (g.D.Disk.ledger c.fill_part.new.disk).written (g.D.Disk.ledger c.put_rest.new.disk).written
    (4096 * ((filled + n) / 4096)) (4096 * (length (take (length bytes - n) (drop n bytes)) / 4096)) (4096 * ((filled + length bytes) / 4096))
    (length (g.D.Disk.bytes c.args.disk.now)) (length (g.D.Disk.bytes c.fill_part.new.disk)) (place_of c.args.chains.now.blocks)
    (c.in_ok-n.ensures.grown tells) (c.in_ok-n.ensures.spared tells).no_shorter
    (part_reaches g.D.Disk.ledger g.D.Disk.bytes filled c.args.object.now.last c.args.chains.now.blocks 0
    c.args.disk.now c.fill_part.new.disk (below c.requires.begun.1) c.fill_part.ensures.unused (c.in_ok-n.ensures.reaches tells))
    (blocks_both filled n (length bytes) bytes refl c.in_ok-n.ensures.taken) (c.put_rest.ensures.bound tells)

pub returns-clause-bound : goal.returns-clause-bound
returns-clause-bound g c tells =
    let filled : ℕ = c.args.object.now.size % 4096 in
    let bytes = c.args.bytes.now in
    let n = c.in_ok-n.n in
    both_bound (g.D.Disk.ledger c.args.disk.now).written (g.D.Disk.ledger c.fill_part.new.disk).written (g.D.Disk.ledger c.put_rest.new.disk).written
    (4096 * ((filled + n) / 4096)) (4096 * (length (take (length bytes - n) (drop n bytes)) / 4096)) (4096 * ((filled + length bytes) / 4096))
    (length (g.D.Disk.bytes c.args.disk.now)) (length (g.D.Disk.bytes c.fill_part.new.disk)) (place_of c.args.chains.now.blocks)
    (c.in_ok-n.ensures.grown tells) (c.in_ok-n.ensures.spared tells).no_shorter
    (part_reaches g.D.Disk.ledger g.D.Disk.bytes filled c.args.object.now.last c.args.chains.now.blocks 0
    c.args.disk.now c.fill_part.new.disk (below c.requires.begun.1) c.fill_part.ensures.unused (c.in_ok-n.ensures.reaches tells))
    (blocks_both filled n (length bytes) bytes refl c.in_ok-n.ensures.taken) (c.put_rest.ensures.bound tells)

pub returns-clause-grown : goal.returns-clause-grown
returns-clause-grown g c tells =
    let filled : ℕ = c.args.object.now.size % 4096 in
    let bytes = c.args.bytes.now in
    let n = c.in_ok-n.n in
    both_grown (g.D.Disk.ledger c.args.disk.now).written (g.D.Disk.ledger c.fill_part.new.disk).written (g.D.Disk.ledger c.put_rest.new.disk).written
    (4096 * ((filled + n) / 4096)) (4096 * (length (take (length bytes - n) (drop n bytes)) / 4096)) (4096 * ((filled + length bytes) / 4096))
    (length (g.D.Disk.bytes c.args.disk.now)) (length (g.D.Disk.bytes c.fill_part.new.disk)) (length (g.D.Disk.bytes c.put_rest.new.disk))
    (c.in_ok-n.ensures.grown tells) (c.in_ok-n.ensures.spared tells).no_shorter (c.in_ok-put_rest.ensures.spared tells).no_shorter
    (blocks_both filled n (length bytes) bytes refl c.in_ok-n.ensures.taken) (c.in_ok-put_rest.ensures.grown tells)
