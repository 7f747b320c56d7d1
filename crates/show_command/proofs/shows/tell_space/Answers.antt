use Rattle.std.proofs.Common.{◌≡◌, ◌∙◌, ◌+◌, ℕ, List, slice_set, refl, sym, ap, subst, arith}
use Rattle.std.specs.Prelude.{string_bytes}
use Rattle.std.specs.Vec.{with_item}
use Rattle.std.proofs.lemmas.Option.{same_Some}
use Rattle.lane_texts.specs.Listings.{FailsOn, HoldsPages}
use Rattle.lane_texts.specs.declared.faults.ListFault.{ListFault}
use Rattle.site_disk.specs.Causes.{Rose}
use Rattle.site_disk.specs.CallsLaws.{may_use_again}
use Rattle.site_disk.specs.ImagesLaws.{no_more_of}
use Rattle.site_model.specs.declared.disk_name.DiskName.{DiskName}
use Rattle.space_lane.specs.Lanes.{IsMade as IsMadeLane, disk_of, space_of}
use Rattle.space_lane.specs.declared.lane.Lane.{Lane}
use Rattle.site_core.specs.Disks.{faults_on}
use Rattle.site_core.specs.Faults.{IsFailure}
use Rattle.show_command.specs.Showing.{fault_of_text, listed}
use Rattle.show_command.proofs.FrameLemmas.{later_one, made_one, may_each, may_one, quiet_one, rose_one}
use Rattle.show_command.proofs.ReadLemmas.{one_err, text_fails, text_names, there_of}
use Rattle.show_command.proofs.shows.tell_space.Goals as goal

pub lane_text-requires-clause-era : goal.lane_text-requires-clause-era
lane_text-requires-clause-era g c = (may_each g.D.Disk c.args.era.now c.args.site.now c.requires.may c.args.place.space c.index_mut-lane.result.now (there_of c.args.site.now.lanes.items c.from.result c.args.place.space _ c.index_mut-lane.result.now c.from.ensures c.requires.within c.index_mut-lane.ensures.value))

pub lane_text-requires-clause-count : goal.lane_text-requires-clause-count
lane_text-requires-clause-count g c = sym (c.requires.lane c.args.place.space c.index_mut-lane.result.now (there_of c.args.site.now.lanes.items c.from.result c.args.place.space _ c.index_mut-lane.result.now c.from.ensures c.requires.within c.index_mut-lane.ensures.value) refl)

pub returns-in-Ok-clause-text : goal.returns-in-Ok-clause-text
returns-in-Ok-clause-text g c tells value list is holds =
    let was = c.index_mut-lane.result.now in
    let same : was ≡ value = same_Some was value (sym (there_of c.args.site.now.lanes.items c.from.result c.args.place.space _ c.index_mut-lane.result.now c.from.ensures c.requires.within c.index_mut-lane.ensures.value) ∙ is) in
    subst (λ (v : Lane g.row.D.Denot). listed (space_of v) c.args.name.now c.args.page list (string_bytes c.in-Ok.text)) same
    (subst (λ (n : List ℕ). listed (space_of was) n c.args.page list (string_bytes c.in-Ok.text)) c.as_str.ensures
    (c.in-Ok.ensures.text tells list (subst (λ (v : Lane g.row.D.Denot). HoldsPages (space_of v) c.args.place.pages list (g.D.Disk.bytes (disk_of v))) (sym same) holds)))

pub returns-in-Err-clause-text : goal.returns-in-Err-clause-text
returns-in-Err-clause-text g c tells value list is holds =
    let was = c.index_mut-lane.result.now in
    let same : was ≡ value = same_Some was value (sym (there_of c.args.site.now.lanes.items c.from.result c.args.place.space _ c.index_mut-lane.result.now c.from.ensures c.requires.within c.index_mut-lane.ensures.value) ∙ is) in
    subst IsFailure (sym c.text_fault.ensures) (text_fails c.args.place.space c.in-Err.fault
    (c.in-Err.ensures.no_refusal tells list (subst (λ (v : Lane g.row.D.Denot). HoldsPages (space_of v) c.args.place.pages list (g.D.Disk.bytes (disk_of v))) (sym same) holds)))

pub returns-in-Err-clause-failed : goal.returns-in-Err-clause-failed
returns-in-Err-clause-failed g c name is =
    let named = text_names c.args.place.space c.in-Err.fault name (one_err _ c.text_fault.result (fault_of_text c.args.place.space c.in-Err.fault) _ c.text_fault.ensures refl is) in
    subst (λ (n : DiskName). Rose (faults_on g.D.Disk c.args.site.now n) (faults_on g.D.Disk (record c.args.site.now { lanes = with_item c.args.site.now.lanes c.from.result c.lane_text.new.lane }) n)) named.1
    (rose_one g.D.Disk c.args.place.space c.args.site.now (record c.args.site.now { lanes = with_item c.args.site.now.lanes c.from.result c.lane_text.new.lane }) refl c.index_mut-lane.result.now c.lane_text.new.lane (there_of c.args.site.now.lanes.items c.from.result c.args.place.space _ c.index_mut-lane.result.now c.from.ensures c.requires.within c.index_mut-lane.ensures.value)
    (ap (λ (k : ℕ). slice_set c.args.site.now.lanes.items k c.lane_text.new.lane) c.from.ensures)
    (subst (λ (f : ListFault). FailsOn (g.D.Disk.ledger (disk_of c.index_mut-lane.result.now)).faults (g.D.Disk.ledger (disk_of c.lane_text.new.lane)).faults f) named.0 c.in-Err.ensures.failed))

pub returns-in-Ok-clause-quiet : goal.returns-in-Ok-clause-quiet
returns-in-Ok-clause-quiet g c =
    let may = (may_each g.D.Disk c.args.era.now c.args.site.now c.requires.may c.args.place.space c.index_mut-lane.result.now (there_of c.args.site.now.lanes.items c.from.result c.args.place.space _ c.index_mut-lane.result.now c.from.ensures c.requires.within c.index_mut-lane.ensures.value)) in
    quiet_one g.D.Disk c.args.place.space c.args.site.now (record c.args.site.now { lanes = with_item c.args.site.now.lanes c.from.result c.lane_text.new.lane }) refl c.index_mut-lane.result.now c.lane_text.new.lane (there_of c.args.site.now.lanes.items c.from.result c.args.place.space _ c.index_mut-lane.result.now c.from.ensures c.requires.within c.index_mut-lane.ensures.value)
    (ap (λ (k : ℕ). slice_set c.args.site.now.lanes.items k c.lane_text.new.lane) c.from.ensures)
    (no_more_of c.args.era.now.number (g.D.Disk.image (disk_of c.index_mut-lane.result.now)) (g.D.Disk.image (disk_of c.lane_text.new.lane)) c.lane_text.ensures.crash
    (λ b pending. g.met.D.Disk.now_counts (disk_of c.index_mut-lane.result.now) c.args.era.now.number (c.args.era.now.number + 1) b may.not_past (omega (arith, may.not_past)) pending))
    (omega (arith, c.lane_text.ensures.ledger.written))

pub returns-in-Ok-clause-later : goal.returns-in-Ok-clause-later
returns-in-Ok-clause-later g c =
    later_one g.D.Disk c.args.place.space c.args.site.now (record c.args.site.now { lanes = with_item c.args.site.now.lanes c.from.result c.lane_text.new.lane }) refl c.index_mut-lane.result.now c.lane_text.new.lane (there_of c.args.site.now.lanes.items c.from.result c.args.place.space _ c.index_mut-lane.result.now c.from.ensures c.requires.within c.index_mut-lane.ensures.value)
    (ap (λ (k : ℕ). slice_set c.args.site.now.lanes.items k c.lane_text.new.lane) c.from.ensures)
    c.lane_text.ensures.ledger.faults

pub returns-in-Ok-clause-may : goal.returns-in-Ok-clause-may
returns-in-Ok-clause-may g c =
    may_one g.D.Disk c.args.place.space c.args.site.now (record c.args.site.now { lanes = with_item c.args.site.now.lanes c.from.result c.lane_text.new.lane }) refl c.index_mut-lane.result.now c.lane_text.new.lane (there_of c.args.site.now.lanes.items c.from.result c.args.place.space _ c.index_mut-lane.result.now c.from.ensures c.requires.within c.index_mut-lane.ensures.value)
    (ap (λ (k : ℕ). slice_set c.args.site.now.lanes.items k c.lane_text.new.lane) c.from.ensures) c.args.era.now
    (may_use_again (may_each g.D.Disk c.args.era.now c.args.site.now c.requires.may c.args.place.space c.index_mut-lane.result.now (there_of c.args.site.now.lanes.items c.from.result c.args.place.space _ c.index_mut-lane.result.now c.from.ensures c.requires.within c.index_mut-lane.ensures.value)) c.lane_text.ensures.ledger) c.requires.may

pub returns-in-Ok-clause-made : goal.returns-in-Ok-clause-made
returns-in-Ok-clause-made g c =
    made_one g.D.Disk c.args.place.space c.args.site.now (record c.args.site.now { lanes = with_item c.args.site.now.lanes c.from.result c.lane_text.new.lane }) refl c.index_mut-lane.result.now c.lane_text.new.lane (there_of c.args.site.now.lanes.items c.from.result c.args.place.space _ c.index_mut-lane.result.now c.from.ensures c.requires.within c.index_mut-lane.ensures.value)
    (ap (λ (k : ℕ). slice_set c.args.site.now.lanes.items k c.lane_text.new.lane) c.from.ensures)
    (λ was. record {
      made = subst (λ (l : Lane g.row.D.Denot). IsMadeLane l) (sym c.lane_text.ensures.value) (record { mark = was.made.mark; images = was.made.images });
      space = ap space_of c.lane_text.ensures.value ∙ was.space;
    })

pub returns-in-Err-clause-quiet : goal.returns-in-Err-clause-quiet
returns-in-Err-clause-quiet g c =
    let may = (may_each g.D.Disk c.args.era.now c.args.site.now c.requires.may c.args.place.space c.index_mut-lane.result.now (there_of c.args.site.now.lanes.items c.from.result c.args.place.space _ c.index_mut-lane.result.now c.from.ensures c.requires.within c.index_mut-lane.ensures.value)) in
    quiet_one g.D.Disk c.args.place.space c.args.site.now (record c.args.site.now { lanes = with_item c.args.site.now.lanes c.from.result c.lane_text.new.lane }) refl c.index_mut-lane.result.now c.lane_text.new.lane (there_of c.args.site.now.lanes.items c.from.result c.args.place.space _ c.index_mut-lane.result.now c.from.ensures c.requires.within c.index_mut-lane.ensures.value)
    (ap (λ (k : ℕ). slice_set c.args.site.now.lanes.items k c.lane_text.new.lane) c.from.ensures)
    (no_more_of c.args.era.now.number (g.D.Disk.image (disk_of c.index_mut-lane.result.now)) (g.D.Disk.image (disk_of c.lane_text.new.lane)) c.lane_text.ensures.crash
    (λ b pending. g.met.D.Disk.now_counts (disk_of c.index_mut-lane.result.now) c.args.era.now.number (c.args.era.now.number + 1) b may.not_past (omega (arith, may.not_past)) pending))
    (omega (arith, c.lane_text.ensures.ledger.written))

pub returns-in-Err-clause-later : goal.returns-in-Err-clause-later
returns-in-Err-clause-later g c =
    later_one g.D.Disk c.args.place.space c.args.site.now (record c.args.site.now { lanes = with_item c.args.site.now.lanes c.from.result c.lane_text.new.lane }) refl c.index_mut-lane.result.now c.lane_text.new.lane (there_of c.args.site.now.lanes.items c.from.result c.args.place.space _ c.index_mut-lane.result.now c.from.ensures c.requires.within c.index_mut-lane.ensures.value)
    (ap (λ (k : ℕ). slice_set c.args.site.now.lanes.items k c.lane_text.new.lane) c.from.ensures)
    c.lane_text.ensures.ledger.faults

pub returns-in-Err-clause-may : goal.returns-in-Err-clause-may
returns-in-Err-clause-may g c =
    may_one g.D.Disk c.args.place.space c.args.site.now (record c.args.site.now { lanes = with_item c.args.site.now.lanes c.from.result c.lane_text.new.lane }) refl c.index_mut-lane.result.now c.lane_text.new.lane (there_of c.args.site.now.lanes.items c.from.result c.args.place.space _ c.index_mut-lane.result.now c.from.ensures c.requires.within c.index_mut-lane.ensures.value)
    (ap (λ (k : ℕ). slice_set c.args.site.now.lanes.items k c.lane_text.new.lane) c.from.ensures) c.args.era.now
    (may_use_again (may_each g.D.Disk c.args.era.now c.args.site.now c.requires.may c.args.place.space c.index_mut-lane.result.now (there_of c.args.site.now.lanes.items c.from.result c.args.place.space _ c.index_mut-lane.result.now c.from.ensures c.requires.within c.index_mut-lane.ensures.value)) c.lane_text.ensures.ledger) c.requires.may

pub returns-in-Err-clause-made : goal.returns-in-Err-clause-made
returns-in-Err-clause-made g c =
    made_one g.D.Disk c.args.place.space c.args.site.now (record c.args.site.now { lanes = with_item c.args.site.now.lanes c.from.result c.lane_text.new.lane }) refl c.index_mut-lane.result.now c.lane_text.new.lane (there_of c.args.site.now.lanes.items c.from.result c.args.place.space _ c.index_mut-lane.result.now c.from.ensures c.requires.within c.index_mut-lane.ensures.value)
    (ap (λ (k : ℕ). slice_set c.args.site.now.lanes.items k c.lane_text.new.lane) c.from.ensures)
    (λ was. record {
      made = subst (λ (l : Lane g.row.D.Denot). IsMadeLane l) (sym c.lane_text.ensures.value) (record { mark = was.made.mark; images = was.made.images });
      space = ap space_of c.lane_text.ensures.value ∙ was.space;
    })
