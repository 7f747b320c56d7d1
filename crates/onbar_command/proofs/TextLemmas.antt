-- Printing what a command did.
use Rattle.std.specs.Prelude.{IsErrOf, IsTrue}
use Rattle.std.proofs.Common.{◌≡◌, ◌⊎◌, ⊎_elim, Bool, inl, inr, ℕ, List, [], ◌∷◌, ◌++◌, length, take, drop, Result, Ok, Err, refl, sym, ◌∙◌, ap, subst, arith}
use Rattle.std.proofs.lemmas.List.{take-append-drop, append-nil, length-take-le}
use Rattle.command_grammar.specs.Words.{Command}
use Rattle.site_disk.specs.declared.disk.Disk.{Ghosts}
use Rattle.site_model.specs.declared.status.Status.{Status}
use Rattle.site_model.specs.declared.status.Status.TheVariants.{OutOfMemory, ReadFault, WriteFault, DiskFault, Usage}
use Rattle.site_model.specs.Texts.{status_text}
use Rattle.site_layouts.specs.Layouts.{HeldWorld}
use Rattle.site_core.specs.declared.site.Site.{Site}
use Rattle.site_commands.specs.Commands.{CutsShort, IsFront, PrintsFront}
use Rattle.site_openings.specs.Openings.{Contents_of, IsRefused}
use Rattle.site_forms.specs.declared.report.Report.{Report}
use Rattle.site_forms.specs.Reports.{status_told, text_told}
use Rattle.onbar_command.specs.Answers.{PrintsRefusal}
use Rattle.onbar_command.specs.Commands.{ComesTo, Did, IsOver, PrintedFor}
use Rattle.command_texts.specs.Printing.{TakesFront}
use Rattle.onbar_command.proofs.RefusalLemmas.{of_report, uncut}

-- a form that is cut short has no text
pub no_text : (status : Status) → CutsShort status → status_text status ≡ []
no_text OutOfMemory cut = refl
no_text ReadFault cut = refl
no_text WriteFault cut = refl
no_text (DiskFault name) cut = refl
no_text status cut = absurd cut

-- nor has what is told as a stop
pub cut_text : (result : Result Report Status) → CutsShort (status_told result) → text_told result ≡ []
cut_text (Ok report) cut = absurd (uncut (status_told (Ok report)) (of_report report) cut)
cut_text (Err status) cut = no_text status cut

-- nothing is printed of a text, all of it, or a front
pub prints_nothing : (text taken : List ℕ) → PrintsFront text taken taken
prints_nothing text taken = record { printed = []; rest = text; parts = refl; taken = sym (append-nil taken) }

pub prints_whole : (text before now : List ℕ) → now ≡ before ++ text → PrintsFront text before now
prints_whole text before now is = record { printed = text; rest = []; parts = sym (append-nil text); taken = is }

pub prints_part : (text before now : List ℕ) → TakesFront before now text → PrintsFront text before now
prints_part text before now front = record {
  printed = take front.count text;
  rest = drop front.count text;
  parts = sym (take-append-drop front.count text);
  taken = front.taken;
}

-- of a text that is empty, what is printed is a front of any
of_none : (text other before now : List ℕ) → text ≡ [] → PrintsFront text before now → PrintsFront other before now
of_none text other before now none front = record {
  printed = [];
  rest = other;
  parts = refl;
  taken = front.taken ∙ ap (λ (l : List ℕ). before ++ l) (no_front front.printed front.rest (sym front.parts ∙ none));
}
  where
    no_front : (printed rest : List ℕ) → printed ++ rest ≡ [] → printed ≡ []
    no_front [] rest is = refl
    no_front (x ∷ printed) rest is = absurd cc

-- a form that the disks' bytes refuse prints nothing but its refusal
pub refusal_printed : (words : List (List ℕ)) (contents : Contents_of) (result : Result Report Status) (status : Status) → IsRefused words contents status
    → CutsShort (status_told result) ⊎ ((text_told result ≡ status_text (status_told result)) × IsRefused words contents (status_told result))
    → (before now : List ℕ) → PrintsFront (text_told result) before now → PrintsRefusal words contents before now
refusal_printed words contents result status is which before now front = ⊎_elim
    (λ cut. (status, is, of_none (text_told result) (status_text status) before now (cut_text result cut) front))
    (λ (said : (text_told result ≡ status_text (status_told result)) × IsRefused words contents (status_told result)).
    (status_told result, said.1, subst (λ (t : List ℕ). PrintsFront t before now) said.0 front))
    which

-- nor do words that are refused print anything else
pub usage_front : (result : Result Report Status) (before now : List ℕ) (n : ℕ) → (IsErrOf result (Usage n)) ⊎ (IsErrOf result OutOfMemory)
    → PrintsFront (text_told result) before now → PrintsFront (status_text (Usage n)) before now
usage_front result before now n (inl is) front = subst (λ (r : Result Report Status). PrintsFront (text_told r) before now) is front
usage_front result before now n (inr is) front =
    of_none (text_told result) (status_text (Usage n)) before now (ap (λ (r : Result Report Status). text_told r) is) front

module _ {D : Type 0} (disk : Ghosts D) (command : Result Command ℕ) (from : ℕ) (old new : Site D) (moment : ℕ) (script : List ℕ) (at : HeldWorld) (to : ℕ) where
  -- what isn't told as a stop is done
  pub is_over : (result : Result Report Status) (after : List ℕ) → ComesTo disk command from old new moment script at to result after → (CutsShort (status_told result) → ⊥)
      → IsOver disk command from old new moment script at to result after
  is_over (Ok report) after comes not_cut = comes
  is_over (Err status) after (inl cut) not_cut = absurd (not_cut cut)
  is_over (Err status) after (inr over) not_cut = over

  pub did : (result : Result Report Status) (after before now : List ℕ) → ComesTo disk command from old new moment script at to result after
      → (CutsShort (status_told result) → ⊥) → (tells : Bool) → (IsTrue tells → now ≡ before ++ text_told result)
      → Did disk command from old new moment script at to (status_told result) after tells before now
  did result after before now comes not_cut tells text =
      let over = is_over result after comes not_cut in
      record {
        status = sym over.status;
        text = λ told. text told ∙ ap (λ (t : List ℕ). before ++ t) (sym over.text);
        work = over.work;
      }

  -- a front of a text is printed, and only once the work is done: one that was cut short has none
  front_of : (text before now : List ℕ) → TakesFront before now text → (printed : List ℕ) × (now ≡ before ++ printed) × IsFront printed text
  front_of text before now front = (
    take front.count text,
    front.taken,
    (
      drop front.count text,
      sym (take-append-drop front.count text),
      λ none.
          let whole = ap length (sym (take-append-drop front.count text) ∙ ap (λ (l : List ℕ). take front.count text ++ l) none ∙ append-nil (take front.count text)) in
          absurd (let taken = length-take-le front.count text (omega (arith, front.short)) in omega (arith, front.short, whole, taken)),
    ),
  )

  none_before : (text before now : List ℕ) → TakesFront before now text → text ≡ [] → ⊥
  none_before text before now front none = let is = ap length none in absurd (omega (arith, front.short, is))

  -- nothing was printed
  pub printed_none : (taken : List ℕ) → PrintedFor disk command from old new moment script at to taken taken
  printed_none taken = record { printed = []; text = sym (append-nil taken); after_work = inl refl }

  done_front : (result : Result Report Status) (after before now : List ℕ) → IsOver disk command from old new moment script at to result after
      → TakesFront before now (text_told result) → PrintedFor disk command from old new moment script at to before now
  done_front result after before now over front =
      let part = front_of (text_told result) before now front in
      record {
        printed = part.0;
        text = part.1;
        after_work = inr (
          subst (λ (t : List ℕ). IsFront part.0 t) (sym over.text) part.2,
          record { last = over.work.last; last_is = over.work.last_is; crash = over.work.crash },
        );
      }

  pub printed_front : (result : Result Report Status) (after before now : List ℕ) → ComesTo disk command from old new moment script at to result after
      → TakesFront before now (text_told result) → PrintedFor disk command from old new moment script at to before now
  printed_front (Ok report) after before now comes front = done_front (Ok report) after before now comes front
  printed_front (Err status) after before now (inl cut) front = absurd (none_before (status_text status) before now front (no_text status cut))
  printed_front (Err status) after before now (inr over) front = done_front (Err status) after before now over front
