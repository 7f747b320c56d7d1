use Rattle.std.proofs.Common.{◌≡◌, ◌∙◌, ◌++◌, ◌<◌, ◌^◌, ℕ, List, [], length, map, take, drop, sym, ap, subst, take-append-drop}
use Rattle.std.proofs.lemmas.List.{take-map}
use Rattle.log_history.specs.Effects.{Change}
use Rattle.txn_table.specs.Table.{change_of}
use Rattle.lane_steps.specs.Choices.{own}
use Rattle.lane_steps.specs.Runs.{IsRun}
use Rattle.lane_ways.specs.ListLaws.{Rises}
use Rattle.lane_advance.proofs.DiskLemmas.{left_is, left_of}
use Rattle.lane_advance.proofs.WayLemmas.{few_own, rises_drop, rises_front, under_way_first}
use Rattle.lane_advance.proofs.progress.begin.Goals as goal

pub returns-clause-under_way : goal.returns-clause-under_way
returns-clause-under_way c history n to leads =
    let space : ℕ = c.args.space in
    let count : ℕ = c.args.count in
    let part : ℕ = c.args.part in
    let changes = c.args.changes.now in
    let list : List Change = map change_of changes in
    let start : ℕ = c.passed-start.result in
    let more : ℕ = c.laid-more.result in
    let low : ℕ = c.new.result.commit in
    let run = c.with_laid.result in
    let left = left_of changes start in
    let behind : List Change = drop start list in
    let is : map change_of left ≡ behind = left_is changes start in
    let front_is : map change_of (take more left) ≡ take more behind =
    sym (take-map change_of more left) ∙ ap (take more) is in
    let rises : Rises low (take more behind ++ drop more behind) =
    subst (Rises low) (sym (take-append-drop more behind)) (subst (λ (k : ℕ). Rises k behind) (sym c.new.ensures.commit) (rises_drop start 0 list leads.rises)) in
    let rises_so : Rises low (map change_of (take more left)) = subst (Rises low) (sym front_is) (rises_front low (take more behind) (drop more behind) rises) in
    let few : length (own space count (map change_of (take more left))) < 2 ^ 32 =
    subst (λ (l : List Change). length (own space count l) < 2 ^ 32) (sym front_is) (few_own history n space count to c.args.upto part list leads more start) in
    under_way_first history n space count to c.args.upto part list leads start more run (c.passed-start.ensures.behind leads.rises)
    (subst (λ (l : List Change). own space count (take more l) ≡ take part (own space count l)) is c.laid-more.ensures.front)
    (subst (λ (l : List Change). own space count (drop more l) ≡ drop part (own space count l)) is c.laid-more.ensures.behind)
    (subst (λ (l : List Change). IsRun c.args.upto run.commit run.count run.whole (own space count l)) front_is (c.with_laid.ensures.run c.args.upto [] c.new.ensures.run rises_so few))
    (c.with_laid.ensures.onward (drop more behind) (subst (λ (l : List Change). Rises low (l ++ drop more behind)) (sym front_is) rises))
