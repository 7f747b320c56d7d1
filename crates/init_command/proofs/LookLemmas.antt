-- What opening a catalogue tells of its header, and that nothing is written.
use Rattle.std.proofs.Common.{◌≡◌, ℕ, ◌+◌, ◌<◌, ◌≤◌, List, Bool, true, Result, Ok, sym, subst, arith}
use Rattle.std.specs.Prelude.{IfOk}
use Rattle.site_disk.specs.Bytes.{Same}
use Rattle.site_disk.specs.CallsLaws.{then_same}
use Rattle.site_disk.specs.Images.{Leaves}
use Rattle.site_disk.specs.ImagesLaws.{no_more_of}
use Rattle.gated_slots.specs.Slots.{Area}
use Rattle.site_headers.specs.Heads.{Head, IsHead}
use Rattle.site_headers.specs.Headers.{HasHeader, catalogue_tail}
use Rattle.catalogue_replay.specs.Answers.{IsBadCatalogue}
use Rattle.catalogue_replay.specs.declared.faults.CatFault.{CatFault}
use Rattle.catalogue_replay.specs.declared.faults.CatFault.TheVariants.{NotFormatted, BadRecord, CatalogueFull, TooManyObjects, Failed, OutOfMemory}
use Rattle.site_model.specs.declared.status.Status.{Status}
use Rattle.init_command.specs.Looks.{Tells, told_by}

-- the bytes are those of before a sync
abbrev pub TellsOf : Result Bool Status → List ℕ → Type 0
TellsOf told bytes = IfOk told (λ found. Tells found bytes)

pub told_tells : (area : Area) (bytes spare : List ℕ) (fault : CatFault) → IsBadCatalogue area bytes spare fault → TellsOf (told_by fault) bytes
told_tells area bytes spare NotFormatted is = is
told_tells area bytes spare (BadRecord which slot) is = (is.head, is.has)
told_tells area bytes spare (CatalogueFull used wanted) is = absurd is
told_tells area bytes spare (TooManyObjects live last) is = absurd is
told_tells area bytes spare (Failed which) is = tt
told_tells area bytes spare OutOfMemory is = tt

pub opened_tells : (head : Head) (bytes : List ℕ) → IsHead head → HasHeader (catalogue_tail head) bytes → TellsOf (Ok true) bytes
opened_tells head bytes is has = (head, record { is_head = is; header = has })

pub of_sync : (told result : Result Bool Status) (before bytes : List ℕ) → result ≡ told → before ≡ bytes → TellsOf told before → TellsOf result bytes
of_sync told result before bytes is same tells = subst (λ (r : Result Bool Status). TellsOf r bytes) (sym is) (subst (TellsOf told) same tells)

-- two calls, one after another, that write nothing
pub quiet_twice : (e last : ℕ) (old mid new : ℕ → List ℕ → Type 0) → last ≤ e
    → ((f g : ℕ) (c : List ℕ) → last ≤ f → last < g → old g c → old f c)
    → Leaves e Same old mid → Leaves e Same mid new → (f : ℕ) (c : List ℕ) → new f c → old f c
quiet_twice e last old mid new le counts first second =
    no_more_of e old new (then_same Same e old mid new first second) (λ c later. counts e (e + 1) c le (omega (arith, le)) later)
