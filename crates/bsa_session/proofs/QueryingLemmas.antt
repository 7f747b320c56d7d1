-- Matches that are given one after another.
use Rattle.std.proofs.Common.{◌≡◌, ℕ, ◌+◌, ◌<◌, List, length, get_or, drop, Some, sym, ap, subst}
use Rattle.std.proofs.lemmas.List.{drop_more}
use Rattle.bsa_session.specs.Matching.{IsNextOf}
use Rattle.bsa_session.specs.declared.state.Matches.{Matches}
use Rattle.bsa_session.specs.declared.state.Work.{Work}
use Rattle.bsa_session.specs.declared.state.Work.TheVariants.{Querying}

-- the next one is given, and those behind it are left
pub next_given : (copies : List ℕ) (i copy : ℕ) (work : Work) (matches : Matches) → i < length copies → copy ≡ get_or copies i 0 → work ≡ Querying matches
    → drop matches.given matches.copies.items ≡ drop (i + 1) copies → IsNextOf (drop i copies) (Some copy) work
next_given copies i copy work matches lt here is left =
    subst (λ (rest : List ℕ). IsNextOf rest (Some copy) work) (sym (drop_more copies i 0 lt)) (ap Some here, record { matches = matches; is = is; left = left })
