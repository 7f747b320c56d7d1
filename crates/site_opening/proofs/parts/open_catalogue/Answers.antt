use Rattle.std.proofs.Common.{ℕ, ◌+◌, ◌*◌, subst, ◌∙◌}
use Rattle.site_disk.specs.Ledger.{Uses}
use Rattle.catalogue_replay.specs.Places.{Journals, area_of}
use Rattle.catalogue_journal.specs.Catalogues.{cat_of, contents_in}
use Rattle.site_opening.proofs.parts.open_catalogue.Goals as goal

pub returns-in-Ok : goal.returns-in-Ok
returns-in-Ok g c = record {
  reads = record {
    made = c.open.ensures.made;
    capacity = c.open.ensures.capacity ∙ c.requires.capacity;
    cat = record {
      crash = c.open.ensures.crash;
      ledger = subst (λ (n : ℕ). Uses c.args.era.now (4864 + 4097 * n) 0 (g.D.Disk.ledger (cat_of c.args.cat.now)) (g.D.Disk.ledger (cat_of c.open.new.self))) c.requires.capacity c.open.ensures.ledger;
    };
    spare = record { crash = c.open.ensures.spare_crash; ledger = c.open.ensures.spare_ledger };
  };
  opened = c.in-Ok.ensures.opened;
  is_head = c.in-Ok.ensures.is_head;
  front = λ tells. record {
    heads = record { is_head = (c.in-Ok.ensures.head tells).0; header = (c.in-Ok.ensures.head tells).1 };
    mark = c.in-Ok.ensures.mark tells;
    journal = subst (Journals (area_of 65536) (contents_in c.open.new.self)) c.in-Ok.ensures.bytes
        (subst (λ (n : ℕ). Journals (area_of n) (contents_in c.open.new.self) (g.D.Disk.bytes (cat_of c.open.new.self))) (c.open.ensures.capacity ∙ c.requires.capacity) (c.in-Ok.ensures.stands tells).now);
    spare = c.in-Ok.ensures.spare tells;
  };
  stands = λ tells. c.in-Ok.ensures.stands tells;
  durable = λ tells. c.in-Ok.ensures.durable tells;
  spare_durable = λ tells. c.in-Ok.ensures.spare_durable tells;
  bytes = c.in-Ok.ensures.bytes;
  spare_bytes = c.in-Ok.ensures.spare_bytes;
}
