use Rattle.std.proofs.Common.{◌≡◌, ℕ, ◌+◌, ◌-◌, ◌*◌, ◌/◌, ◌%◌, ◌≤◌, List, ◌++◌, length, ap, sym, ◌∙◌, subst, refl, arith, Option}
use Rattle.std.proofs.lemmas.Option.{same_Some}
use Rattle.site_disk.specs.CallsLaws.{on_ok}
use Rattle.block_chain.specs.Blocks.{AreApart, ArePartition, blocks_of_runs, blocks_for}
use Rattle.block_chain.specs.Table.{Table, blocks_of, IsListOf, AreListed}
use Rattle.object_volume.specs.declared.sending.Sending.{Sending}
use Rattle.object_volume.specs.Objects.{place_of}
use Rattle.object_volume.specs.Sending.{IsSent}
use Rattle.object_volume.specs.Volumes.{blocks_or_none, blocks_sent}
use Rattle.object_volume.proofs.VolumeLemmas.{same_table, live_listed, live_apart}
use Rattle.object_volume.proofs.volume.Volume.send.Goals as goal

pub returns-clause-opened : goal.returns-clause-opened
returns-clause-opened g c =
    let was = c.requires.opened in
    let chains = c.in-Some.chains in
    let new = c.send_piece.new.chains in
    let same : was.table ≡ chains = same_Some was.table chains (sym was.opened ∙ c.in-Some.is) in
    on_ok c.send_piece.result
    (λ t. record {
      table = new;
      opened = refl;
      small = omega (arith, was.small, ap (λ (table : Table). table.blocks) same, t.takes.blocks);
      own = λ o is. subst (λ (x : Sending). IsListOf new x.list) (same_Some c.send_piece.new.object o is) t.takes.own;
    }) c.send_piece.ensures.taken

pub returns-clause-taken : goal.returns-clause-taken
returns-clause-taken g c message s =
    let volume = c.args.self.now in
    let chains = c.in-Some.chains in
    let object = c.in-Some-object.object in
    let n : ℕ = length c.args.bytes.now in
    let e = same_table volume.chains chains c.in-Some.is in
    let size : object.size ≡ length message = ap (λ (o : Sending). o.size) (same_Some object s.object (sym c.in-Some-object.is ∙ s.begun)) ∙ s.sent.size in
    let before = ap (λ (t : Table). blocks_or_none t volume.object) e ∙ ap (blocks_or_none chains) c.in-Some-object.is in
    on_ok c.send_piece.result
    (λ t. record {
      taken = t.taken;
      counted = t.counted ∙ ap (λ (k : ℕ). blocks_for (k + n) - blocks_for k) size;
      free = ap (λ (table : Table). table.free) e ∙ t.takes.free;
      sent = t.takes.list ∙ ap (λ (l : List ℕ). l ++ t.taken) (sym before);
      blocks = t.takes.blocks ∙ ap (λ (table : Table). table.blocks) (sym e);
      parted = λ others are. t.takes.parted others
          (subst (λ (l : List ℕ). ArePartition chains.blocks (chains.free ++ (l ++ others))) before
          (subst (λ (table : Table). ArePartition table.blocks (table.free ++ (blocks_sent volume ++ others))) e are));
    }) c.send_piece.ensures.taken

pub returns-clause-live : goal.returns-clause-live
returns-clause-live g c runs is =
    let volume = c.args.self.now in
    let chains = c.in-Some.chains in
    let object = c.in-Some-object.object in
    let e = same_table volume.chains chains c.in-Some.is in
    let xs : List ℕ = blocks_of_runs runs in
    let listed : AreListed chains xs = subst (λ (t : Table). AreListed t xs) e is.listed in
    let apart : AreApart (blocks_of chains object.list) xs =
    subst (λ (x : Option Sending). AreApart (blocks_or_none chains x) xs) c.in-Some-object.is (subst (λ (t : Table). AreApart (blocks_or_none t volume.object) xs) e is.apart) in
    on_ok c.send_piece.result
    (λ t. record {
      listed = live_listed chains c.send_piece.new.chains object.list c.send_piece.new.object.list t.taken t.takes xs listed apart;
      apart = live_apart chains c.send_piece.new.chains object.list c.send_piece.new.object.list t.taken t.takes xs listed apart;
    }) c.send_piece.ensures.taken

pub returns-clause-begun : goal.returns-clause-begun
returns-clause-begun g c =
    let volume = c.args.self.now in
    let object = c.in-Some-object.object in
    let begun = c.requires.begun in
    on_ok c.send_piece.result
    (λ sent. record { message = begun.message ++ c.args.bytes.now; sends = record { object = c.send_piece.new.object; begun = refl; sent = sent } })
    (c.send_piece.ensures.sent begun.message
    (subst (λ (o : Sending). IsSent g.D.Disk.is_modelled (g.D.Disk.bytes volume.disk) c.in-Some.chains o volume.part begun.message) (same_Some begun.sends.object object (sym begun.sends.begun ∙ c.in-Some-object.is))
    (subst (λ (t : Table). IsSent g.D.Disk.is_modelled (g.D.Disk.bytes volume.disk) t begun.sends.object volume.part begun.message) (same_table volume.chains c.in-Some.chains c.in-Some.is) begun.sends.sent)))

-- the object's size is that of its bytes so far
sent_size : (object begun : Sending) (message : List ℕ) → begun ≡ object → begun.size ≡ length message → object.size ≡ length message
sent_size object begun message same is = sym (ap (λ (o : Sending). o.size) same) ∙ is

pub returns-clause-bound : goal.returns-clause-bound
returns-clause-bound g c tells message s =
    let volume = c.args.self.now in
    let chains = c.in-Some.chains in
    let object = c.in-Some-object.object in
    let long : ℕ = length c.args.bytes.now in
    let limit : ℕ = length (g.D.Disk.bytes volume.disk) in
    let before : ℕ = (g.D.Disk.ledger volume.disk).written in
    let after : ℕ = (g.D.Disk.ledger c.send_piece.new.disk).written in
    let size = sent_size object s.object message (same_Some s.object object (sym s.begun ∙ c.in-Some-object.is)) s.sent.size in
    subst (λ (t : Table). after ≤ before + 4096 * ((length message % 4096 + long) / 4096) + (place_of t.blocks - limit)) (sym (same_table volume.chains chains c.in-Some.is))
    (subst (λ (k : ℕ). after ≤ before + 4096 * ((k % 4096 + long) / 4096) + (place_of chains.blocks - limit)) size (c.send_piece.ensures.bound tells))

pub returns-clause-grown : goal.returns-clause-grown
returns-clause-grown g c tells message s =
    let volume = c.args.self.now in
    let object = c.in-Some-object.object in
    let long : ℕ = length c.args.bytes.now in
    let grown : ℕ = length (g.D.Disk.bytes c.send_piece.new.disk) - length (g.D.Disk.bytes volume.disk) in
    let before : ℕ = (g.D.Disk.ledger volume.disk).written in
    let after : ℕ = (g.D.Disk.ledger c.send_piece.new.disk).written in
    let size = sent_size object s.object message (same_Some s.object object (sym s.begun ∙ c.in-Some-object.is)) s.sent.size in
    on_ok c.send_piece.result
    (λ less. subst (λ (k : ℕ). after ≤ before + 4096 * ((k % 4096 + long) / 4096) + grown) size less)
    (c.send_piece.ensures.grown tells)
