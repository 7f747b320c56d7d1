-- What an opening answers, by what it comes to.
use Rattle.std.proofs.Common.{◌≡◌, ◌⊎◌, List, inl, inr, Result, Ok, Err, subst, ⊎_elim}
use Rattle.std.specs.Prelude.{MatchResult, IfOk, IfErr}
use Rattle.site_model.specs.declared.status.Status.{Status}
use Rattle.site_openings.specs.Openings.{AllowedBy, Check, Contents_of, NamesAsWell, RefusedBy}
use Rattle.site_core.specs.Faults.{IsFailure, status_in}
use Rattle.site_core.specs.declared.faults.SiteFault.{SiteFault}
use Rattle.site_openings.proofs.CheckLemmas.{never_both, refused_alike}

module _ {T E : Type 0} (A : T → Type 0) (B : E → Type 0) where
  pub answer_by : (C : T → Type 0) (F : E → Type 0) (result : Result T E) → MatchResult result A B → ((x : T) → A x → C x) → ((e : E) → B e → F e) → MatchResult result C F
  answer_by C F (Ok x) is means other = means x is
  answer_by C F (Err e) is means other = other e is

  pub either_by : (W : Type 0) (result : Result T E) → MatchResult result A B → ((x : T) → A x → W) → ((e : E) → B e → W) → W
  either_by W (Ok x) is means other = means x is
  either_by W (Err e) is means other = other e is

  pub ok_by : (C : T → Type 0) (result : Result T E) → MatchResult result A B → ((x : T) → A x → C x) → IfOk result C
  ok_by C (Ok x) is means = means x is
  ok_by C (Err e) is means = tt

  pub err_by : (F : E → Type 0) (result : Result T E) → MatchResult result A B → ((e : E) → B e → F e) → IfErr result F
  err_by F (Ok x) is other = tt
  err_by F (Err e) is other = other e is

  -- of this error
  pub only_err_by : (e : E) (W : Type 0) (result : Result T E) → MatchResult result A B → result ≡ Err e → (B e → W) → W
  only_err_by e W result is same other = other (subst (λ (r : Result T E). MatchResult r A B) same is)

-- checks that answer refuse what they refuse
pub refuses_by : {T : Type 0} (contents : Contents_of) (checks : List Check) (result : Result T SiteFault)
    → MatchResult result (λ x. AllowedBy checks contents) (λ fault. IsFailure fault ⊎ RefusedBy checks contents (status_in fault))
    → (status : Status) → RefusedBy checks contents status → MatchResult result (λ x. ⊥) (λ fault. IsFailure fault ⊎ NamesAsWell (status_in fault) status)
refuses_by contents checks (Ok x) answers status refused = never_both contents checks status answers refused
refuses_by contents checks (Err fault) answers status refused =
    ⊎_elim (λ fails. inl fails) (λ (also : RefusedBy checks contents (status_in fault)). inr (refused_alike contents checks (status_in fault) status also refused)) answers
