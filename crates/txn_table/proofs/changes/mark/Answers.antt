use Rattle.std.proofs.Common.{◌≡◌, ℕ, ◌<◌, length, refl, ap, subst, ◌∙◌, map, arith}
use Rattle.std.specs.List.{AllWithin}
use Rattle.std.proofs.lemmas.List.Elements.{AllWithin-more_set, All-from_all_within}
use Rattle.log_history.specs.Effects.{change_by}
use Rattle.txn_table.proofs.ChangeLemmas.{IsBroughtBy, patches-set, changes-brought}
use Rattle.txn_table.proofs.changes.mark.Goals as goal

pub loop-change-preserved : goal.loop-change-preserved
loop-change-preserved c =
    let below : c.loop-change.change-index < length c.loop-change.changes = omega arith in
    record {
      marked = AllWithin-more_set c.loop-change.changes c.loop-change.change-index _ below (IsBroughtBy c.args.commit) c.loop-change.invariant.marked refl;
      patches = patches-set c.loop-change.changes c.loop-change.change-index _ c.change-item.result below refl ∙ c.loop-change.invariant.patches;
    }

pub returns : goal.returns
returns c =
    let whole : c.loop-change.change-index ≡ length c.loop-change.changes = omega arith in
    let all : AllWithin (IsBroughtBy c.args.commit) c.loop-change.changes 0 (length c.loop-change.changes) =
    subst (λ (n : ℕ). AllWithin (IsBroughtBy c.args.commit) c.loop-change.changes 0 n) whole c.loop-change.invariant.marked in
    changes-brought c.args.commit c.loop-change.changes (All-from_all_within (IsBroughtBy c.args.commit) c.loop-change.changes all)
    ∙ ap (map (change_by c.args.commit)) c.loop-change.invariant.patches
