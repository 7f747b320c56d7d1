-- Volumes that are handed to a call, and put back into their store.
use Rattle.std.proofs.Common.{◌≡◌, ℕ, List, length, length-set, Option, None, Some, Result, Ok, Err, sym, ap, ◌∙◌, subst}
use Rattle.std.specs.Prelude.{IfOk, MatchResult, OnOk}
use Rattle.std.specs.Vec.{with_items}
use Rattle.std.specs.declared.vec.Vec.{Vec}
use Rattle.std.specs.declared.alloc.Global.{Global}
use Rattle.object_volume.specs.declared.volume.Volume.{Volume}
use Rattle.object_store.specs.Reading.{ChangesOne}
use Rattle.object_store.proofs.EndingLemmas.{written_back}
use Rattle.session_machine.specs.declared.answers.BsaRc.{BsaRc}
use Rattle.bsa_transcripts.specs.declared.replies.Reply.{Reply}
use Rattle.bsa_transcripts.specs.declared.replies.Reply.TheVariants.{Code}
use Rattle.site_model.specs.declared.status.Status.{Status}
use Rattle.xbsa_shell.specs.Statuses.{status_of_answer}

module _ {D : Type 0} (P : Volume D → Volume D → Type 0) (at : ℕ) (kept : Vec (Volume D) Global) where
  pub put_back : (taken new : List (Volume D)) → taken ≡ kept.items → ChangesOne P at taken new → ChangesOne P at kept.items (with_items kept new).items
  put_back taken new same changes =
      let one : ChangesOne P at kept.items new = subst (λ (l : List (Volume D)). ChangesOne P at l new) same changes in
      let back = written_back kept new (ap length one.changed ∙ length-set kept.items at one.is) in
      subst (λ (l : List (Volume D)). ChangesOne P at kept.items l) (sym back) one

-- an answer that is told doesn't cut the shell short
pub told_uncut : {P : Type 0} (code : BsaRc) (result : Result Reply Status)
    → MatchResult result (λ reply. (reply ≡ Code code) × (status_of_answer code ≡ None)) (λ status. status_of_answer code ≡ Some status)
    → (status_of_answer code ≡ None → P) → OnOk result P
told_uncut code (Ok reply) told then = then told.1
told_uncut code (Err status) told then = tt

-- what holds of its code holds of the answer
pub told_as : (P : Reply → Type 0) (code : BsaRc) (result : Result Reply Status)
    → MatchResult result (λ reply. (reply ≡ Code code) × (status_of_answer code ≡ None)) (λ status. status_of_answer code ≡ Some status)
    → (status_of_answer code ≡ None → P (Code code)) → IfOk result P
told_as P code (Ok reply) told then = subst P (sym told.0) (then told.1)
told_as P code (Err status) told then = tt
