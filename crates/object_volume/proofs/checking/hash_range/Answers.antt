use Rattle.std.proofs.Common.{◌≡◌, ℕ, ◌+◌, ◌≤◌, ◌++◌, List, length, take, drop, arith, ap, sym, ◌∙◌, subst, append_assoc, length-append, length-take}
use Rattle.std.proofs.lemmas.List.{take-append-le}
use Rattle.site_disk.specs.Bytes.{extent}
use Rattle.site_disk.specs.CallsLaws.{unchanged_again}
use Rattle.sha2.specs.Hashers.{Holds256}
use Rattle.object_volume.proofs.CheckingLemmas.{extent-more}
use Rattle.object_volume.proofs.checking.hash_range.Goals as goal

-- what was hashed, and what was read behind it
hashed_more : (message file was into rest : List ℕ) (place done n got : ℕ) → was ≡ file → got ≡ n → n ≤ length into → take got into ≡ extent (place + done) got was
    → (message ++ extent place done file) ++ take n (into ++ rest) ≡ message ++ extent place (done + n) file
hashed_more message file was into rest place done n got same all few found =
    let read : take n into ≡ extent (place + done) n file =
    subst (λ (k : ℕ). take k into ≡ extent (place + done) k file) all (found ∙ ap (extent (place + done) got) same) in
    ap (λ (l : List ℕ). (message ++ extent place done file) ++ l) (take-append-le n into rest few ∙ read)
    ∙ append_assoc message (extent place done file) (extent (place + done) n file)
    ∙ ap (λ (l : List ℕ). message ++ l) (sym (extent-more place done n file))

pub loop-done-preserved : goal.loop-done-preserved
loop-done-preserved g c =
    let so_far = c.loop-done.invariant in
    let read = c.in_ok-got.ensures in
    let n = c.min-n.result in
    let done = c.loop-done.done in
    let file = g.D.Disk.bytes c.args.disk.now in
    let part = take n c.loop-done.buffer in
    let long : length part ≡ n = omega (arith, length-take n c.loop-done.buffer) in
    let bound : c.in_ok-got.got ≤ length part = read.bound in
    let got : c.in_ok-got.got ≡ n = omega (arith, bound, long, c.if-got-n.false) in
    record {
      within = omega (arith, so_far.within);
      there = λ tells.
          let count = read.count tells in
          let here : length (extent (c.args.place + done) n file) ≡ n =
          ap (λ (l : List ℕ). length (extent (c.args.place + done) n l)) (sym so_far.content)
          ∙ ap (λ (k : ℕ). length (extent (c.args.place + done) k (g.D.Disk.bytes c.loop-done.disk))) (sym long) ∙ sym count ∙ got in
          let before = so_far.there tells in
          omega (arith, ap length (extent-more c.args.place done n file), length-append (extent c.args.place done file) (extent (c.args.place + done) n file), here, before);
      hashed = λ tells message holds.
          subst (λ (l : List ℕ). Holds256 c.update.new.self l)
          (hashed_more message file (g.D.Disk.bytes c.loop-done.disk) c.read_at.new.into (drop n c.loop-done.buffer) c.args.place done n c.in_ok-got.got
          so_far.content got (omega (arith, long)) (read.found tells))
          (c.update.ensures (message ++ extent c.args.place done file) (so_far.hashed tells message holds));
      content = read.bytes ∙ so_far.content;
      images = unchanged_again so_far.images read.images;
      uses = omega arith;
    }
