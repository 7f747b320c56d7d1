use Rattle.std.proofs.Common.{◌≡◌, ◌∙◌, ◌+◌, ◌-◌, ◌^◌, ◌≤◌, ◌<◌, ℕ, min, refl, List, length, map, sym, ap, subst, arith}
use Rattle.std.specs.Prelude.{sum_by}
use Rattle.std.proofs.lemmas.List.{length-map}
use Rattle.site_disk.specs.CallsLaws.{spends_in_one, spends_nothing, uses_more, uses_nothing}
use Rattle.site_disk.specs.Images.{Leaves}
use Rattle.site_disk.specs.ImagesLaws.{begins}
use Rattle.gated_slots.specs.Slots.{SlotsView, Area}
use Rattle.catalogue_slots.specs.Records.{slots_for}
use Rattle.catalogue_slots.specs.Views.{object_of}
use Rattle.catalogue_slots.specs.declared.entry.ObjectEntry.{ObjectEntry}
use Rattle.catalogue_replay.specs.Contents.{Contents, AreContents}
use Rattle.catalogue_replay.specs.Places.{area_of, Journals}
use Rattle.catalogue_journal.specs.Catalogues.{ids_from}
use Rattle.catalogue_journal.specs.Commits.{MayEnd}
use Rattle.catalogue_journal.specs.Transactions.{Addition, slots_wanted}
use Rattle.catalogue_journal.specs.Views.{addition_of}
use Rattle.catalogue_journal.specs.declared.entries.NewObject.{NewObject}
use Rattle.catalogue_journal.proofs.EntryLemmas.{sum-additions, empty_transaction, ended_sound}
use Rattle.catalogue_journal.proofs.CommitLemmas.{ends_none, ended_empty, ended_contents, contents_with, seen, batch_count, batch_ended, batch_stops, batch_bound, batch_stands, batch_uses}
use Rattle.catalogue_journal.proofs.PairLemmas.{ends_of}
use Rattle.catalogue_journal.proofs.catalogue.Catalogue.commit.Goals as goal

-- the slots that were counted are those that are wanted
counted : (deletions : List ℕ) {objects others : List NewObject} {sum len slots : ℕ} → sum ≡ min (sum_by (λ object. slots_for (length object.runs.items)) others) (2 ^ 64 - 1)
    → others ≡ objects → len ≡ length deletions → slots ≡ min (sum + len) (2 ^ 64 - 1) → slots ≡ min (slots_wanted deletions (map addition_of objects)) (2 ^ 64 - 1)
counted deletions {objects = objects} sums same lens all =
    omega (
      arith,
      sums ∙ ap (λ (l : List NewObject). min (sum_by (λ (object : NewObject). slots_for (length object.runs.items)) l) (2 ^ 64 - 1)) same,
      lens,
      all,
      sum-additions objects,
    )

-- where nothing is written
nothing : (area : Area) (wanted : ℕ) (before behind : Contents) (e : ℕ) (images : ℕ → List ℕ → Type 0) → Leaves e (MayEnd area wanted before behind) images images
nothing area wanted before behind e images = begins (MayEnd area wanted before behind) (MayEnd area wanted before behind) e images images images (λ (d : List ℕ). ends_none area wanted before behind d)

pub returns-then-slots-eq0-clause-ids : goal.returns-then-slots-eq0-clause-ids
returns-then-slots-eq0-clause-ids g c =
    let wanted : c.saturating_add-slots.result ≡ min (slots_wanted c.args.staged.now.delete.items (map addition_of c.args.staged.now.add.items)) (2 ^ 64 - 1) =
    counted c.args.staged.now.delete.items c.slots_of.ensures c.deref.ensures.value (omega (arith, c.len.ensures)) c.saturating_add-slots.ensures in
    let none : slots_wanted c.args.staged.now.delete.items (map addition_of c.args.staged.now.add.items) ≡ 0 = omega (arith, wanted, c.if-slots-eq0.true) in
    c.new.ensures.items
    ∙ sym (ap (λ (l : List Addition). ids_from (c.args.self.now.last + 1) l) (empty_transaction c.args.staged.now.delete.items (map addition_of c.args.staged.now.add.items) none).1)

pub returns-then-slots-eq0-clause-ended : goal.returns-then-slots-eq0-clause-ended
returns-then-slots-eq0-clause-ended g c =
    let wanted : c.saturating_add-slots.result ≡ min (slots_wanted c.args.staged.now.delete.items (map addition_of c.args.staged.now.add.items)) (2 ^ 64 - 1) =
    counted c.args.staged.now.delete.items c.slots_of.ensures c.deref.ensures.value (omega (arith, c.len.ensures)) c.saturating_add-slots.ensures in
    let none : slots_wanted c.args.staged.now.delete.items (map addition_of c.args.staged.now.add.items) ≡ 0 = omega (arith, wanted, c.if-slots-eq0.true) in
    ended_empty c.args.staged.now.delete.items (map addition_of c.args.staged.now.add.items) (contents_with c.args.self.now.last (map object_of c.args.self.now.objects.items)) none

pub returns-then-slots-eq0-clause-durable : goal.returns-then-slots-eq0-clause-durable
returns-then-slots-eq0-clause-durable g c tells some =
    let wanted : c.saturating_add-slots.result ≡ min (slots_wanted c.args.staged.now.delete.items (map addition_of c.args.staged.now.add.items)) (2 ^ 64 - 1) =
    counted c.args.staged.now.delete.items c.slots_of.ensures c.deref.ensures.value (omega (arith, c.len.ensures)) c.saturating_add-slots.ensures in
    absurd (omega (arith, wanted, c.if-slots-eq0.true, some))

pub returns-then-slots-eq0-clause-ends : goal.returns-then-slots-eq0-clause-ends
returns-then-slots-eq0-clause-ends g c tells stands = ends_of (nothing _ _ _ _ _ _)

pub prepare-requires-clause-few : goal.prepare-requires-clause-few
prepare-requires-clause-few g c =
    let wanted : c.saturating_add-slots.result ≡ min (slots_wanted c.args.staged.now.delete.items (map addition_of c.args.staged.now.add.items)) (2 ^ 64 - 1) =
    counted c.args.staged.now.delete.items c.slots_of.ensures c.deref.ensures.value (omega (arith, c.len.ensures)) c.saturating_add-slots.ensures in
    omega (arith, wanted, (c.in_default.ensures.none refl).room, c.requires.opened.made.few)

pub returns-in_err-ready-clause-ends : goal.returns-in_err-ready-clause-ends
returns-in_err-ready-clause-ends g c tells stands = ends_of (nothing _ _ _ _ _ _)

pub returns-in_err-ready-clause-starved : goal.returns-in_err-ready-clause-starved
returns-in_err-ready-clause-starved g c starved =
    let wanted : c.saturating_add-slots.result ≡ min (slots_wanted c.args.staged.now.delete.items (map addition_of c.args.staged.now.add.items)) (2 ^ 64 - 1) =
    counted c.args.staged.now.delete.items c.slots_of.ensures c.deref.ensures.value (omega (arith, c.len.ensures)) c.saturating_add-slots.ensures in (
      record {
        cat = refl;
        spare = refl;
        capacity = refl;
        used = refl;
        contents = ap (λ (l : List ObjectEntry). contents_with c.args.self.now.last (map object_of l)) c.prepare.ensures.objects;
      },
      omega (arith, wanted, c.if-slots-eq0.false),
    )

pub append-requires-clause-room : goal.append-requires-clause-room
append-requires-clause-room g c =
    let capacity : c.args.self.now.slots.area.capacity ≡ c.args.self.now.capacity = ap (λ (a : Area). a.capacity) c.requires.opened.made.area in
    omega (arith, batch_count (seen c.in_ok-ready.ensures.batch c.deref-2.ensures.value), (c.in_default.ensures.none refl).room, capacity)

pub returns-in_err-append-clause-ends : goal.returns-in_err-append-clause-ends
returns-in_err-append-clause-ends g c tells stands =
    ends_of (batch_stops (seen c.in_ok-ready.ensures.batch c.deref-2.ensures.value) c.args.self.now.slots c.requires.opened.made.area stands.agrees.now stands.now (λ reaches. c.append.ensures.crash tells reaches stands.agrees))

pub returns-in_err-append-clause-ledger : goal.returns-in_err-append-clause-ledger
returns-in_err-append-clause-ledger g c = spends_in_one c.requires.era (batch_uses (seen c.in_ok-ready.ensures.batch c.deref-2.ensures.value) c.args.self.now.slots c.requires.opened.made.area c.append.ensures.ledger)

pub returns-in_err-append-clause-bound : goal.returns-in_err-append-clause-bound
returns-in_err-append-clause-bound g c tells stands =
    batch_bound (seen c.in_ok-ready.ensures.batch c.deref-2.ensures.value) c.args.self.now.slots c.requires.opened.made.area stands.agrees.now stands.now (g.D.Disk.ledger c.args.self.now.cat).written (g.D.Disk.ledger c.append.new.disk).written (λ reaches. c.append.ensures.bound tells reaches)

pub returns-clause-ended : goal.returns-clause-ended
returns-clause-ended g c =
    ended_contents (map addition_of c.args.staged.now.add.items) c.args.self.now.last (omega (arith, c.len-2.ensures, length-map c.args.staged.now.add.items addition_of)) c.put_in.ensures c.deref-3.ensures.value c.in_ok-ready.ensures.same
    c.prepare.ensures.objects c.requires.opened.contents.rising c.in_ok-ready.ensures.entries

pub returns-clause-opened : goal.returns-clause-opened
returns-clause-opened g c = record {
  made = record {
    area = c.append.ensures.area ∙ c.requires.opened.made.area;
    mark = c.requires.opened.made.mark;
    some = c.requires.opened.made.some;
    few = c.requires.opened.made.few;
  };
  contents = subst AreContents (sym (returns-clause-ended g c))
      (ended_sound _ _ _ _ c.in_ok-ready.ensures.batch c.requires.opened.contents (c.in_default.ensures.none refl).within.ids);
}

pub returns-clause-used : goal.returns-clause-used
returns-clause-used g c = omega (arith, ap (λ (v : SlotsView). v.used) c.in_ok-append.ensures.used, batch_count (seen c.in_ok-ready.ensures.batch c.deref-2.ensures.value))

pub returns-clause-stands : goal.returns-clause-stands
returns-clause-stands g c tells stands =
    let area : Area = area_of c.args.self.now.capacity in
    let contents = returns-clause-ended g c in
    let disk = c.append.new.disk in
    record {
      agrees = c.in_ok-append.ensures.agrees tells stands.agrees;
      now = subst (λ (k : Contents). Journals area k (g.D.Disk.bytes disk)) (sym contents)
          (batch_ended (seen c.in_ok-ready.ensures.batch c.deref-2.ensures.value) c.args.self.now.slots c.requires.opened.made.area stands.agrees.now stands.now (λ reaches. c.in_ok-append.ensures.gained tells reaches stands.agrees));
      later = λ f d lt here. subst (λ (k : Contents). Journals area k d) (sym contents)
          (batch_stands (seen c.in_ok-ready.ensures.batch c.deref-2.ensures.value) c.args.self.now.slots c.requires.opened.made.area stands.agrees.now stands.now (λ reaches. c.in_ok-append.ensures.gained tells reaches stands.agrees)
          (c.in_ok-append.ensures.durable tells) c.append.ensures.ledger.no_later (g.met.D.Disk.now_counts disk) f d lt here);
    }

pub returns-clause-ends : goal.returns-clause-ends
returns-clause-ends g c tells stands =
    ends_of (batch_stops (seen c.in_ok-ready.ensures.batch c.deref-2.ensures.value) c.args.self.now.slots c.requires.opened.made.area stands.agrees.now stands.now (λ reaches. c.append.ensures.crash tells reaches stands.agrees))

pub returns-clause-ledger : goal.returns-clause-ledger
returns-clause-ledger g c = spends_in_one c.requires.era (batch_uses (seen c.in_ok-ready.ensures.batch c.deref-2.ensures.value) c.args.self.now.slots c.requires.opened.made.area c.append.ensures.ledger)

pub returns-clause-bound : goal.returns-clause-bound
returns-clause-bound g c tells stands =
    batch_bound (seen c.in_ok-ready.ensures.batch c.deref-2.ensures.value) c.args.self.now.slots c.requires.opened.made.area stands.agrees.now stands.now (g.D.Disk.ledger c.args.self.now.cat).written (g.D.Disk.ledger c.append.new.disk).written (λ reaches. c.append.ensures.bound tells reaches)

pub returns-then-slots-eq0-clause-ledger : goal.returns-then-slots-eq0-clause-ledger
returns-then-slots-eq0-clause-ledger g c = spends_in_one c.requires.era (uses_more (uses_nothing c.requires.era) (omega arith) (omega arith))

pub returns-in_err-ready-clause-ledger : goal.returns-in_err-ready-clause-ledger
returns-in_err-ready-clause-ledger g c = spends_in_one c.requires.era (uses_more (uses_nothing c.requires.era) (omega arith) (omega arith))

pub returns-in_err-ready-clause-made : goal.returns-in_err-ready-clause-made
returns-in_err-ready-clause-made g c = record {
  area = c.requires.opened.made.area;
  mark = c.requires.opened.made.mark;
  some = c.requires.opened.made.some;
  few = c.requires.opened.made.few;
}

pub returns-in_err-append-clause-made : goal.returns-in_err-append-clause-made
returns-in_err-append-clause-made g c = record {
  area = c.append.ensures.area ∙ c.requires.opened.made.area;
  mark = c.requires.opened.made.mark;
  some = c.requires.opened.made.some;
  few = c.requires.opened.made.few;
}

pub returns-clause-made : goal.returns-clause-made
returns-clause-made g c = (returns-clause-opened g c).made

pub returns-in-Some-clause-ends : goal.returns-in-Some-clause-ends
returns-in-Some-clause-ends g c tells stands = ends_of (nothing _ _ _ _ _ _)
