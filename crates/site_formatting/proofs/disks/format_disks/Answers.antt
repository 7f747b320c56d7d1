use Rattle.std.proofs.Common.{◌≤◌, ◌∙◌, length, sym, subst, arith, ℕ, List}
use Rattle.std.proofs.lemmas.List.{length-map}
use Rattle.std.specs.Vec.{with_items}
use Rattle.site_disk.specs.Ledger.{MayUse}
use Rattle.site_headers.specs.Views.{head_of, space_of}
use Rattle.boot_file.specs.Boots.{disk_of as boot_disk}
use Rattle.logical_log.specs.Rings.{disk_of as log_disk}
use Rattle.space_lane.specs.Lanes.{disk_of as lane_disk}
use Rattle.space_lane.specs.declared.lane.Lane.{Lane}
use Rattle.store_opening.proofs.StepLemmas.{on_ok_of, if_err_of}
use Rattle.site_core.specs.declared.faults.SiteFault.{SiteFault}
use Rattle.site_model.specs.declared.disk_name.DiskName.TheVariants.{Boot, Log}
use Rattle.site_core.specs.Made.{IsMadeAt}
use Rattle.site_formatting.specs.Steps.{FirstFrom, OfEach, StopsAt}
use Rattle.site_formatting.specs.Lanes.{FormatsLane, MissesLane}
use Rattle.site_formatting.proofs.DiskLemmas.{untouched, used_in}
use Rattle.site_formatting.proofs.ReadyLemmas.{each_ready}
use Rattle.site_formatting.proofs.TouchLemmas.{store_may_of, lanes_may_of, lanes_untouched, lanes_touched, lanes_still_made, lanes_count, lanes_rest, lanes_back, touched, lane_cause}
use Rattle.boot_file.specs.Formats.{MayFormat as MayFormatBoot}
use Rattle.logical_log.specs.Formats.{MayFormat as MayFormatLog}
use Rattle.log_files.specs.Files.{new_files}
use Rattle.site_formatting.proofs.disks.format_disks.Goals as goal

pub format_store-requires-clause-era : goal.format_store-requires-clause-era
format_store-requires-clause-era g c = store_may_of g.D.Disk c.args.era.now c.args.site.now c.requires.era

pub returns-in-Err-clause-touched : goal.returns-in-Err-clause-touched
returns-in-Err-clause-touched g c =
    touched g.D.Disk c.args.era.now (head_of c.args.head.now) c.args.site.now (record c.args.site.now { store = c.format_store.new.store })
    c.format_store.ensures.crash c.format_store.ensures.spare_crash c.format_store.ensures.volumes_crash c.format_store.ensures.ledger
    (untouched g.D.Disk c.args.era.now 1 82946 (boot_disk c.args.site.now.boot) (c.requires.era Boot))
    (untouched g.D.Disk c.args.era.now 1 248834 (log_disk c.args.site.now.log) (c.requires.era Log))
    (lanes_untouched g.D.Disk c.args.era.now (head_of c.args.head.now) c.args.site.now.lanes.items (lanes_may_of g.D.Disk c.args.era.now c.args.site.now c.requires.era))

pub format-requires-clause-era : goal.format-requires-clause-era
format-requires-clause-era g c = c.requires.era Boot

pub returns-in-Err-format-clause-touched : goal.returns-in-Err-format-clause-touched
returns-in-Err-format-clause-touched g c =
    touched g.D.Disk c.args.era.now (head_of c.args.head.now) c.args.site.now (record c.args.site.now { store = c.format_store.new.store; boot = c.format.new.self })
    c.format_store.ensures.crash c.format_store.ensures.spare_crash c.format_store.ensures.volumes_crash c.format_store.ensures.ledger
    (used_in g.D.Disk (MayFormatBoot c.args.head.now.site) c.args.era.now 1 82946 (boot_disk c.args.site.now.boot) (boot_disk c.format.new.self) c.format.ensures.crash c.format.ensures.ledger)
    (untouched g.D.Disk c.args.era.now 1 248834 (log_disk c.args.site.now.log) (c.requires.era Log))
    (lanes_untouched g.D.Disk c.args.era.now (head_of c.args.head.now) c.args.site.now.lanes.items (lanes_may_of g.D.Disk c.args.era.now c.args.site.now c.requires.era))

pub format-requires-2-clause-era : goal.format-requires-2-clause-era
format-requires-2-clause-era g c = c.requires.era Log

pub returns-in-Err-format-2-clause-touched : goal.returns-in-Err-format-2-clause-touched
returns-in-Err-format-2-clause-touched g c =
    touched g.D.Disk c.args.era.now (head_of c.args.head.now) c.args.site.now (record c.args.site.now { store = c.format_store.new.store; boot = c.format.new.self; log = c.format-2.new.self })
    c.format_store.ensures.crash c.format_store.ensures.spare_crash c.format_store.ensures.volumes_crash c.format_store.ensures.ledger
    (used_in g.D.Disk (MayFormatBoot c.args.head.now.site) c.args.era.now 1 82946 (boot_disk c.args.site.now.boot) (boot_disk c.format.new.self) c.format.ensures.crash c.format.ensures.ledger)
    (used_in g.D.Disk (MayFormatLog c.args.head.now.site (new_files 1 1 0)) c.args.era.now 1 248834 (log_disk c.args.site.now.log) (log_disk c.format-2.new.self) c.format-2.ensures.crash c.format-2.ensures.ledger)
    (lanes_untouched g.D.Disk c.args.era.now (head_of c.args.head.now) c.args.site.now.lanes.items (lanes_may_of g.D.Disk c.args.era.now c.args.site.now c.requires.era))

pub format_lanes-requires-clause-era : goal.format_lanes-requires-clause-era
format_lanes-requires-clause-era g c =
    subst (λ (l : List (Lane g.row.D.Denot)). OfEach (λ place lane. MayUse c.args.era.now (g.D.Disk.ledger (lane_disk lane))) l) (sym c.deref_mut.ensures.value)
    (lanes_may_of g.D.Disk c.args.era.now c.args.site.now c.requires.era)

pub format_lanes-requires-clause-made : goal.format_lanes-requires-clause-made
format_lanes-requires-clause-made g c =
    subst (λ (l : List (Lane g.row.D.Denot)). OfEach IsMadeAt l) (sym c.deref_mut.ensures.value) c.requires.made.lanes

pub returns-clause-prepared : goal.returns-clause-prepared
returns-clause-prepared g c tells =
    let era = c.args.era.now in
    let head = head_of c.args.head.now in
    let v = c.args.site.now.lanes in
    let new = c.format_lanes.new.lanes in
    let store = c.in_default.ensures.formatted tells in
    let durable = c.in_default.ensures.durable tells in
    on_ok_of (λ (fault : SiteFault). StopsAt (FormatsLane g.D.Disk era head) (λ place. MissesLane g.D.Disk era head place fault) (length head.spaces) v.items (with_items v new).items)
    c.format_lanes.result
    (lanes_back g.D.Disk era head v c.deref_mut.result.now new c.format_lanes.result (length c.args.head.now.spaces.items) c.deref_mut.ensures.value (sym (length-map c.args.head.now.spaces.items space_of)) c.format_lanes.ensures)
    (λ first. record {
      closed = store.closed;
      mark = store.mark;
      journal = store.journal;
      used = store.used;
      durable = durable.cat;
      each = each_ready g.D.Disk era head tells c.args.site.now (record { store = c.format_store.new.store; boot = c.format.new.self; log = c.format-2.new.self; lanes = with_items v new }) store durable
          (c.in_default-format.ensures.stands tells).now (c.in_default-format.ensures.durable tells) (c.in_default-format-2.ensures.stands tells).now (c.in_default-format-2.ensures.durable tells) first;
    })

pub returns-clause-touched : goal.returns-clause-touched
returns-clause-touched g c =
    let era = c.args.era.now in
    let head = head_of c.args.head.now in
    let v = c.args.site.now.lanes in
    let new = c.format_lanes.new.lanes in
    touched g.D.Disk era head c.args.site.now (record { store = c.format_store.new.store; boot = c.format.new.self; log = c.format-2.new.self; lanes = with_items v new })
    c.format_store.ensures.crash c.format_store.ensures.spare_crash c.format_store.ensures.volumes_crash c.format_store.ensures.ledger
    (used_in g.D.Disk (MayFormatBoot c.args.head.now.site) era 1 82946 (boot_disk c.args.site.now.boot) (boot_disk c.format.new.self) c.format.ensures.crash c.format.ensures.ledger)
    (used_in g.D.Disk (MayFormatLog c.args.head.now.site (new_files 1 1 0)) era 1 248834 (log_disk c.args.site.now.log) (log_disk c.format-2.new.self) c.format-2.ensures.crash c.format-2.ensures.ledger)
    (lanes_touched g.D.Disk era head v.items (with_items v new).items c.format_lanes.result
    (lanes_back g.D.Disk era head v c.deref_mut.result.now new c.format_lanes.result (length c.args.head.now.spaces.items) c.deref_mut.ensures.value (sym (length-map c.args.head.now.spaces.items space_of)) c.format_lanes.ensures)
    (lanes_may_of g.D.Disk era c.args.site.now c.requires.era))

pub returns-clause-others : goal.returns-clause-others
returns-clause-others g c n le =
    let era = c.args.era.now in
    let head = head_of c.args.head.now in
    let v = c.args.site.now.lanes in
    let new = c.format_lanes.new.lanes in
    lanes_rest g.D.Disk era head v.items (with_items v new).items c.format_lanes.result
    (lanes_back g.D.Disk era head v c.deref_mut.result.now new c.format_lanes.result (length c.args.head.now.spaces.items) c.deref_mut.ensures.value (sym (length-map c.args.head.now.spaces.items space_of)) c.format_lanes.ensures)
    n (subst (λ (k : ℕ). k ≤ n) (sym (length-map c.args.head.now.spaces.items space_of)) le)

pub returns-clause-made : goal.returns-clause-made
returns-clause-made g c =
    let era = c.args.era.now in
    let head = head_of c.args.head.now in
    let v = c.args.site.now.lanes in
    let new = c.format_lanes.new.lanes in
    let back = lanes_back g.D.Disk era head v c.deref_mut.result.now new c.format_lanes.result (length c.args.head.now.spaces.items) c.deref_mut.ensures.value (sym (length-map c.args.head.now.spaces.items space_of)) c.format_lanes.ensures in
    record {
      store = c.format_store.ensures.made;
      boot = c.format.ensures.made;
      log = c.format-2.ensures.made;
      count = lanes_count g.D.Disk era head v.items (with_items v new).items c.format_lanes.result back ∙ c.requires.made.count;
      lanes = lanes_still_made g.D.Disk era head v.items (with_items v new).items c.format_lanes.result back c.requires.made.lanes;
    }

pub returns-clause-cause : goal.returns-clause-cause
returns-clause-cause g c =
    let era = c.args.era.now in
    let head = head_of c.args.head.now in
    let v = c.args.site.now.lanes in
    let new = c.format_lanes.new.lanes in
    if_err_of (FirstFrom (FormatsLane g.D.Disk era head) (length head.spaces) v.items (with_items v new).items) c.format_lanes.result
    (lanes_back g.D.Disk era head v c.deref_mut.result.now new c.format_lanes.result (length c.args.head.now.spaces.items) c.deref_mut.ensures.value (sym (length-map c.args.head.now.spaces.items space_of)) c.format_lanes.ensures)
    (λ fault stops. lane_cause g.D.Disk era head c.args.site.now (record { store = c.format_store.new.store; boot = c.format.new.self; log = c.format-2.new.self; lanes = with_items v new }) fault
    (omega (arith, c.requires.head.few, c.requires.made.count)) stops)
