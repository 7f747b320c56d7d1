-- What a command told of what its form did.
use Rattle.std.specs.Prelude.{◌≡◌, ◌⊎◌, ℕ, List, ◌++◌, Bool, IsTrue, Result}
use Rattle.site_model.specs.declared.status.Status.{Status}
use Rattle.site_model.specs.declared.status.Status.TheVariants.{OutOfMemory, WriteFault}
use Rattle.site_forms.specs.declared.report.Report.{Report}
use Rattle.site_forms.specs.Reports.{status_told, text_told}
use Rattle.command_texts.specs.Printing.{TakesFront}

-- memory ran out, or the sink failed
abbrev pub IsUntold : Status → Type 0
IsUntold OutOfMemory = Unit {0}
IsUntold WriteFault = Unit {0}
IsUntold status = ⊥

module _ (done : Result Report Status) (tells : Bool) (before after : List ℕ) (status : Status) where
  -- the whole text was printed, and the status is that of what was done
  pub record IsTold : Type 0 where
    pub status_is : status ≡ status_told done
    pub text : IsTrue tells → after ≡ before ++ text_told done

  -- nothing of the text was printed, or a front
  pub record IsCutOff : Type 0 where
    pub untold : IsUntold status
    pub text : IsTrue tells → (after ≡ before) ⊎ TakesFront before after (text_told done)

  abbrev pub Tells : Type 0
  Tells = IsTold ⊎ IsCutOff
