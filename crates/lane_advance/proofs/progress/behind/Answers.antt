use Rattle.std.proofs.Common.{◌≡◌, ◌∙◌, ◌++◌, ◌<◌, ◌^◌, ℕ, List, length, map, take, drop, sym, ap, subst, refl}
use Rattle.std.proofs.lemmas.List.{drop-map, take-map}
use Rattle.log_history.specs.Effects.{Change}
use Rattle.txn_table.specs.Table.{change_of}
use Rattle.lane_steps.specs.Choices.{own}
use Rattle.lane_steps.specs.Runs.{IsRun}
use Rattle.lane_ways.specs.Ways.{cut_by}
use Rattle.lane_ways.specs.ListLaws.{Rises}
use Rattle.lane_advance.proofs.WayLemmas.{goes_on}
use Rattle.lane_advance.proofs.progress.behind.Goals as goal

pub returns-clause-goes : goal.returns-clause-goes
returns-clause-goes c history n upto part list pages leads under is_left chooses some =
    let space : ℕ = c.args.space in
    let count : ℕ = c.args.count in
    let to : ℕ = c.args.to in
    let old = c.args.progress.now in
    let left = map change_of c.args.left.now in
    let run = c.with_laid-run.result in
    let placed = c.place-upto.result in
    let front_is : map change_of c.split_at.result.0.now ≡ take c.args.front left = ap (map change_of) c.split_at.ensures.front ∙ sym (take-map change_of c.args.front c.args.left.now) in
    let rest_is : map change_of c.split_at.result.1.now ≡ drop c.args.front left = ap (map change_of) c.split_at.ensures.back ∙ sym (drop-map change_of c.args.front c.args.left.now) in
    goes_on history n space count to upto part list leads old _ under left c.args.front pages is_left chooses some placed.0 refl
    (subst (λ (l : List Change). (laid : List Change) → IsRun upto old.run.commit old.run.count old.run.whole laid → Rises old.run.commit l → length (laid ++ own space count l) < 2 ^ 32
    → IsRun upto run.commit run.count run.whole (laid ++ own space count l)) front_is (c.with_laid-run.ensures.run upto))
    (subst (λ (l : List Change). (rest : List Change) → Rises old.run.commit (l ++ rest) → Rises run.commit rest) front_is c.with_laid-run.ensures.onward)
    (subst (λ (l : List Change). (laid : List Change) → IsRun upto run.commit run.count run.whole laid → Rises run.commit l → placed.0 ≡ (cut_by upto to laid (own space count l)).upto) rest_is (c.place-upto.ensures.upto upto))
    (subst (λ (l : List Change). (laid : List Change) → IsRun upto run.commit run.count run.whole laid → Rises run.commit l → placed.1 ≡ (cut_by upto to laid (own space count l)).part) rest_is (c.place-upto.ensures.part upto))
    c.min.ensures
