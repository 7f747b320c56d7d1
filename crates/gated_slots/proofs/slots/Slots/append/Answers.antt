use Rattle.std.proofs.Common.{◌≡◌, ℕ, ◌%◌, List, length, refl, arith, subst, sym}
use Rattle.gated_slots.specs.Slots.{SlotsView}
use Rattle.site_disk.specs.Seen.{seen}
use Rattle.site_disk.specs.SeenLaws.{synced_after}
use Rattle.gated_slots.specs.SlotsLaws.{agrees_synced}
use Rattle.gated_slots.proofs.Appending.{gained, used_after, crash}
use Rattle.gated_slots.proofs.slots.Slots.append.Goals as goal

-- the batch is whole slots, said of the value as it was opened
whole : (view now : SlotsView) (batch : List ℕ) → view ≡ now → length batch % now.area.size ≡ 0 → length batch % view.area.size ≡ 0
whole view now batch is h = subst (λ (v : SlotsView). length batch % v.area.size ≡ 0) (sym is) h

pub returns-in_err-add_batch-clause-crash : goal.returns-in_err-add_batch-clause-crash
returns-in_err-add_batch-clause-crash g c = rw (← c.self.view_is) (λ tells reaches agrees.
    crash _ c.args.batch.now c.self.invariant (whole _ _ c.args.batch.now c.self.view_is c.requires.whole) c.requires.some (omega arith) _ refl
    c.args.era.now.number (seen g.D.Disk c.args.disk.now) _ (omega arith) agrees (c.add_batch.ensures.crash tells reaches))

pub returns-clause-crash : goal.returns-clause-crash
returns-clause-crash g c = rw (← c.self.view_is) (λ tells reaches agrees.
    crash _ c.args.batch.now c.self.invariant (whole _ _ c.args.batch.now c.self.view_is c.requires.whole) c.requires.some (omega arith) _ refl
    c.args.era.now.number (seen g.D.Disk c.args.disk.now) _ (omega arith) agrees (c.add_batch.ensures.crash tells reaches))

pub returns-clause-gained : goal.returns-clause-gained
returns-clause-gained g c = rw (← c.self.view_is) (λ tells reaches agrees.
    gained _ c.args.batch.now c.self.invariant (whole _ _ c.args.batch.now c.self.view_is c.requires.whole) c.requires.some (omega arith) _ refl
    (g.D.Disk.bytes c.args.disk.now) (g.D.Disk.bytes c.add_batch.new.disk) agrees.now reaches (c.in_ok-add_batch.ensures.bytes tells))

pub returns-clause-agrees : goal.returns-clause-agrees
returns-clause-agrees g c = rw (← c.self.view_is) (λ tells agrees.
    agrees_synced _ (seen g.D.Disk c.add_batch.new.disk)
    (synced_after (seen g.D.Disk c.add_batch.new.disk) c.args.era.now.number (g.met.D.Disk.now_counts c.add_batch.new.disk) (omega arith)
    (c.in_ok-add_batch.ensures.durable tells))
    (used_after _ c.args.batch.now c.self.invariant (whole _ _ c.args.batch.now c.self.view_is c.requires.whole) c.requires.some (omega arith) _ refl
    (g.D.Disk.bytes c.args.disk.now) (g.D.Disk.bytes c.add_batch.new.disk) agrees.now (c.in_ok-add_batch.ensures.bytes tells)))
