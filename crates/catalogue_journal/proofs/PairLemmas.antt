-- The catalogue's two disks in a commit.
use Rattle.std.proofs.Common.{◌≡◌, ℕ, suc, ◌+◌, ◌*◌, ◌<◌, ◌≤◌, List, Some, refl, sym, ap, ◌∙◌, subst, arith, inl, inr, ⊎_elim}
use Rattle.std.specs.Prelude.{◌⊎◌}
use Rattle.std.proofs.lemmas.Bool.{cases_order}
use Rattle.site_disk.specs.Images.{Leaves}
use Rattle.gated_slots.specs.Slots.{Area, OutsideArea, used}
use Rattle.site_headers.specs.Heads.{Head}
use Rattle.site_headers.specs.Headers.{catalogue_tail}
use Rattle.site_headers.specs.HeaderLaws.{HasHeader-same}
use Rattle.twin_mark.specs.Marks.{record_of}
use Rattle.catalogue_replay.specs.Contents.{Contents}
use Rattle.catalogue_replay.specs.Places.{area_of, NamesArea, Journals}
use Rattle.catalogue_replay.specs.Answers.{HasHead, IsCatalogue}
use Rattle.catalogue_journal.specs.Commits.{HasIn, MayEnd, ShowFrom, Ends}

-- header and mark stand before gates and slots
stays_whole : (capacity : ℕ) (head : Head) (before behind : Contents) (old new spare : List ℕ) → IsCatalogue capacity head before old spare
    → OutsideArea (area_of capacity) old new → Journals (area_of capacity) behind new → IsCatalogue capacity head behind new spare
stays_whole capacity head before behind old new spare is elsewhere journal = record {
  heads = record {
    is_head = is.heads.is_head;
    header = HasHeader-same (catalogue_tail head) old new (elsewhere 0 4096 (inl (omega arith)) (inl (omega arith))) is.heads.header;
  };
  mark = record { stands = ap (λ (l : List ℕ). record_of l) (elsewhere 4096 1024 (inl (omega arith)) (inl (omega arith))) ∙ is.mark.stands };
  journal = journal;
  spare = is.spare;
}

-- what a commit that writes on the catalogue's disk alone leaves of both
pub ends_of : {capacity wanted e : ℕ} {before behind : Contents} {cat spare cat_now : ℕ → List ℕ → Type 0} → Leaves e (MayEnd (area_of capacity) wanted before behind) cat cat_now
    → Ends e capacity wanted before behind cat spare cat_now spare
ends_of {capacity = capacity} {wanted = wanted} {e = e} {before = before} {behind = behind} {cat = cat} {spare = spare} {cat_now = cat_now} call = record {
  either = λ (head : Head) (shows : ShowFrom e capacity head before cat spare) (f : ℕ) (c d : List ℕ) (le : e ≤ f) (here : cat_now f c) (there : spare f d). elim (cases_order f e) [
    | inl same ↦ ⊎_elim (λ (was : cat e c). inl (shows e f c d (omega arith) le was there)) (λ step. ended head shows (e + 1) f step.0 c d (omega arith) le step.1 there step.2)
        (call.during c (subst (λ (g : ℕ). cat_now g c) same here))
    | inr (inl less) ↦ absurd (omega (arith, less, le))
    | inr (inr more) ↦ let step = call.later f c more here in ended head shows f f step.0 c d le le step.1 there step.2
  ];
  counted = λ taken has f c le here. elim (cases_order f e) [
    | inl same ↦ ⊎_elim (λ (was : cat e c). inl (has e c (omega arith) was)) (λ step. step.2.contents taken (has (e + 1) step.0 (omega arith) step.1))
        (call.during c (subst (λ (g : ℕ). cat_now g c) same here))
    | inr (inl less) ↦ absurd (omega (arith, less, le))
    | inr (inr more) ↦ let step = call.later f c more here in step.2.contents taken (has f step.0 le step.1)
  ];
  earlier = call.earlier;
  spare_earlier = λ f d lt image. image;
}
  where
    ended : (head : Head) → ShowFrom e capacity head before cat spare → (f g : ℕ) (b c d : List ℕ) → e ≤ f → e ≤ g → cat f b → spare g d → MayEnd (area_of capacity) wanted before behind b c
        → IsCatalogue capacity head before c d ⊎ IsCatalogue capacity head behind c d
    ended head shows f g b c d le also image there may =
        let whole : IsCatalogue capacity head before b d = shows f g b d le also image there in
        ⊎_elim (λ (stays : HasIn (area_of capacity) before (used (area_of capacity) b) c). inl (stays_whole capacity head before before b c d whole may.elsewhere stays.journal))
        (λ (ended : HasIn (area_of capacity) behind (used (area_of capacity) b + wanted) c). inr (stays_whole capacity head before behind b c d whole may.elsewhere ended.journal))
        (may.contents (used (area_of capacity) b) (record { journal = whole.journal; used = refl }))
