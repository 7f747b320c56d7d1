use Rattle.std.proofs.Common.{◌≡◌, ◌∙◌, ℕ, ◌+◌, List, Result, Ok, Err, ap, arith, sym, subst}
use Rattle.std.proofs.lemmas.Result.{err_from_is_err_and}
use Rattle.std.specs.Prelude.{IfErr, MatchResult}
use Rattle.store_opening.specs.Faults.{IsFailure, IsRefusal, NamesAsWell}
use Rattle.store_opening.specs.Opening.{ShowsStore, StoreRefuses}
use Rattle.store_opening.specs.declared.faults.StoreFault.{StoreFault}
use Rattle.xbsa_shell.specs.Opened.{HasOpened, RefusedBy}
use Rattle.xbsa_shell.proofs.EnterLemmas.{by_bytes, by_bytes_back, enter_serves, made_synced, may_then, opened_shown, synced_bytes}
use Rattle.xbsa_shell.proofs.shell.enter.Goals as goal

pub open_store-requires-clause-era : goal.open_store-requires-clause-era
open_store-requires-clause-era g c =
    may_then g.D.Disk c.args.store.now c.sync_store.new.store c.args.era.now c.next.new.self 0 0 0 0 0 0 (omega (arith, c.next.ensures.number)) c.next.ensures.key
    c.sync_store.ensures.ledger c.requires.may

pub open_store-requires-clause-made : goal.open_store-requires-clause-made
open_store-requires-clause-made g c =
    made_synced g.D.Disk c.args.store.now c.sync_store.new.store c.sync_store.ensures.cat c.sync_store.ensures.volumes c.requires.made

pub returns-in_err-open_store-clause-shown : goal.returns-in_err-open_store-clause-shown
returns-in_err-open_store-clause-shown g c tells head contents taken shows =
    let old = c.args.store.now in
    let mid = c.sync_store.new.store in
    let kept = synced_bytes g.D.Disk old mid c.args.era.now c.in_ok-sync_store.ensures.synced in
    let fault = c.in_err-open_store.field-0.0 in
    let p = err_from_is_err_and c.from_residual-in_err-open_store.result c.from_residual-in_err-open_store.ensures.1 in
    let is : c.from_residual-in_err-open_store.result ≡ Err fault = p.1 ∙ ap Err p.2 in
    let fails : IsFailure fault = c.in_err-open_store.ensures.shown tells head contents taken (by_bytes g.D.Disk old mid kept (ShowsStore head contents taken) shows) in
    let P : Result (Unit {0}) StoreFault → Type 0 = λ r. MatchResult r (λ _. HasOpened g.D.Disk contents taken old c.open_store.new.store) IsFailure in
    subst P (sym is) fails

pub returns-in_err-open_store-clause-refused : goal.returns-in_err-open_store-clause-refused
returns-in_err-open_store-clause-refused g c tells =
    let old = c.args.store.now in
    let mid = c.sync_store.new.store in
    let kept = synced_bytes g.D.Disk old mid c.args.era.now c.in_ok-sync_store.ensures.synced in
    let fault = c.in_err-open_store.field-0.0 in
    let p = err_from_is_err_and c.from_residual-in_err-open_store.result c.from_residual-in_err-open_store.ensures.1 in
    let is : c.from_residual-in_err-open_store.result ≡ Err fault = p.1 ∙ ap Err p.2 in
    let By : List ℕ → List ℕ → List (List ℕ) → Type 0 = λ cat spare files. StoreRefuses cat spare files fault in
    let P : Result (Unit {0}) StoreFault → Type 0 = λ r. IfErr r (RefusedBy g.D.Disk old) in
    subst P (sym is) (by_bytes_back g.D.Disk old mid kept By (c.in_err-open_store.ensures.refused tells))

pub returns-in_err-open_store-clause-refuses : goal.returns-in_err-open_store-clause-refuses
returns-in_err-open_store-clause-refuses g c tells fault refusal refuses =
    let old = c.args.store.now in
    let mid = c.sync_store.new.store in
    let kept = synced_bytes g.D.Disk old mid c.args.era.now c.in_ok-sync_store.ensures.synced in
    let found = c.in_err-open_store.field-0.0 in
    let p = err_from_is_err_and c.from_residual-in_err-open_store.result c.from_residual-in_err-open_store.ensures.1 in
    let is : c.from_residual-in_err-open_store.result ≡ Err found = p.1 ∙ ap Err p.2 in
    let By : List ℕ → List ℕ → List (List ℕ) → Type 0 = λ cat spare files. StoreRefuses cat spare files fault in
    let P : Result (Unit {0}) StoreFault → Type 0 = λ r. MatchResult r (λ _. ⊥) (λ found. IsRefusal found → NamesAsWell found fault) in
    subst P (sym is) (c.in_err-open_store.ensures.refuses tells fault refusal (by_bytes g.D.Disk old mid kept By refuses))

pub returns-clause-serves : goal.returns-clause-serves
returns-clause-serves g c =
    let mid = c.sync_store.new.store in
    let may = may_then g.D.Disk c.args.store.now mid c.args.era.now c.next.new.self 0 0 0 0 0 0 (omega (arith, c.next.ensures.number)) c.next.ensures.key
    c.sync_store.ensures.ledger c.requires.may in
    enter_serves g.D.Disk c.next.new.self mid c.open_store.new.store _ _ _ _ _ _ c.in_ok-open_store.ensures.settled c.open_store.ensures.ledger may

pub returns-clause-shown : goal.returns-clause-shown
returns-clause-shown g c tells head contents taken shows =
    let old = c.args.store.now in
    let mid = c.sync_store.new.store in
    let kept = synced_bytes g.D.Disk old mid c.args.era.now c.in_ok-sync_store.ensures.synced in
    let found = c.in_ok-open_store.ensures.shown tells head contents taken (by_bytes g.D.Disk old mid kept (ShowsStore head contents taken) shows) in
    opened_shown g.D.Disk (c.next.new.self.number + 1) old mid c.open_store.new.store contents taken head kept c.in_ok-open_store.ensures.bytes
    (found.1 (c.next.new.self.number + 1) (omega arith))

pub returns-clause-refuses : goal.returns-clause-refuses
returns-clause-refuses g c tells fault refusal refuses =
    let old = c.args.store.now in
    let mid = c.sync_store.new.store in
    let kept = synced_bytes g.D.Disk old mid c.args.era.now c.in_ok-sync_store.ensures.synced in
    let By : List ℕ → List ℕ → List (List ℕ) → Type 0 = λ cat spare files. StoreRefuses cat spare files fault in
    c.in_ok-open_store.ensures.refuses tells fault refusal (by_bytes g.D.Disk old mid kept By refuses)
