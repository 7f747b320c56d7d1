use Rattle.std.proofs.Common.{◌≡◌, ℕ, List, All, None, inl, inr, sym, subst}
use Rattle.std.proofs.lemmas.List.Elements.{All-get_or}
use Rattle.std.proofs.lemmas.Option.{slice_get_cases}
use Rattle.std.specs.Prelude.{Option, IfSome, slice_get}
use Rattle.site_disk.specs.Ledger.{MayUse}
use Rattle.site_disk.specs.MemDisk.{disk_ledger}
use Rattle.site_disk.specs.declared.memory.disk.MemDisk.{MemDisk}
use Rattle.site_model.specs.declared.disk_name.DiskName.{DiskName}
use Rattle.site_model.specs.declared.disk_name.DiskName.TheVariants.{Cat, Spare, Boot, Log, Volume, Chunk}
use Rattle.site_core.specs.declared.site.SiteDisks.{SiteDisks}
use Rattle.site_core.specs.Disks.{disk_given}
use Rattle.init_command.proofs.tests.empty_site.Goals as goal

some_of : {D : Type 0} (P : D → Type 0) (xs : List D) (n : ℕ) → All P xs → IfSome (slice_get xs n) P
some_of {D} P xs n all = elim (slice_get_cases xs n).1 [
  | inl there ↦ subst (λ (o : Option D). IfSome o P) (sym there.2) (subst P there.3 (All-get_or P xs n there.0 there.1 all))
  | inr past ↦ subst (λ (o : Option D). IfSome o P) (sym past.1) tt
]

each : {D : Type 0} (P : D → Type 0) (disks : SiteDisks D) → P disks.cat → P disks.spare → P disks.boot → P disks.log → All P disks.volumes.items → All P disks.chunks.items
    → (name : DiskName) → IfSome (disk_given disks name) P
each P disks cat spare boot log volumes chunks Cat = cat
each P disks cat spare boot log volumes chunks Spare = spare
each P disks cat spare boot log volumes chunks Boot = boot
each P disks cat spare boot log volumes chunks Log = log
each P disks cat spare boot log volumes chunks (Volume n) = some_of P disks.volumes.items n volumes
each P disks cat spare boot log volumes chunks (Chunk n) = some_of P disks.chunks.items n chunks

pub returns-clause-may : goal.returns-clause-may
returns-clause-may c name =
    let P : MemDisk → Type 0 = λ disk. MayUse c.args.era.now (disk_ledger disk) in
    subst (λ (o : Option MemDisk). IfSome o P) (sym (c.in_ok-new.ensures.disks name))
    (each P (record {
      cat = c.empty_disk.result;
      spare = c.empty_disk-2.result;
      boot = c.empty_disk-3.result;
      log = c.empty_disk-4.result;
      volumes = c.in_ok-empty_disks.field-0;
      chunks = c.in_ok-empty_disks-2.field-0;
    })
    c.empty_disk.ensures c.empty_disk-2.ensures c.empty_disk-3.ensures c.empty_disk-4.ensures c.in_ok-empty_disks.ensures.may c.in_ok-empty_disks-2.ensures.may name)
