-- The text of a space behind its lane's way to the end.
use Rattle.std.proofs.Common.{◌≡◌, ◌∙◌, ℕ, ◌<◌, List, length, get_or, Option, None, Some, refl, sym, ap, subst, arith}
use Rattle.std.specs.Prelude.{Result, Ok, Err, IfOk, MatchResult, slice_get}
use Rattle.log_history.specs.Effects.{Page, page_at}
use Rattle.log_history.specs.History.{History}
use Rattle.space_pages.specs.Pages.{pages_of}
use Rattle.space_lane.specs.Lanes.{disk_of, space_of}
use Rattle.std.proofs.lemmas.Option.{slice_get-get_or}
use Rattle.lane_texts.specs.Listings.{HoldsPages, IsNoRefusal}
use Rattle.lane_texts.specs.declared.faults.ListFault.{ListFault}
use Rattle.lane_texts.specs.declared.faults.ListFault.TheVariants.{OutOfMemory as NoMemory, Failed, BadPage}
use Rattle.site_model.specs.declared.disk_name.DiskName.TheVariants.{Chunk}
use Rattle.site_core.specs.declared.faults.SiteFault.TheVariants.{DiskFault}
use Rattle.site_disk.specs.declared.disk.Disk.{Ghosts}
use Rattle.site_model.specs.declared.disk_name.DiskName.{DiskName}
use Rattle.site_model.specs.Runs.{shown_text}
use Rattle.site_worlds.specs.Lanes.{pages_of_space}
use Rattle.site_layouts.specs.Stages.{HeldSite}
use Rattle.site_core.specs.declared.faults.SiteFault.{SiteFault}
use Rattle.site_core.specs.declared.site.Site.{Site as Values}
use Rattle.site_core.specs.Faults.{IsFailure}
use Rattle.site_core.specs.Quiet.{IsQuiet}
use Rattle.show_command.specs.declared.opening.Place.{Place}
use Rattle.show_command.specs.Bringing.{GoesAlong, IsBrought}
use Rattle.show_command.specs.Showing.{IsTold, fault_of_text, listed}

module _ {D : Type 0} (disk : Ghosts D) where
  -- a call that writes nothing leaves no more images
  pub goes_behind : (from space : ℕ) (at : HeldSite) (old mid new : Values D) → GoesAlong disk from space at old mid → IsQuiet disk mid new → GoesAlong disk from space at old new
  goes_behind from space at old mid new goes quiet = record {
    earlier = λ f name bytes lt image. goes.earlier f name bytes lt (quiet.images f name bytes image);
    later = λ f choice le images. goes.later f choice le (λ name. quiet.images f name (choice name) (images name));
  }

  -- what is listed of the pages at the end of the log is what is shown
  listed_shown : (history : History) (name : List ℕ) (page : Option ℕ) (space pages : ℕ) (text : List ℕ)
      → ((n number : ℕ) → number < pages → slice_get (pages_of history n space 0 pages) number ≡ Some (page_at history n space number))
      → ((n : ℕ) → page ≡ Some n → n < pages)
      → listed space name page (pages_of history (length history) space 0 pages) text → text ≡ shown_text history name page (Some (space, pages))
  listed_shown history name None space pages text each within is = is
  listed_shown history name (Some number) space pages text each within is = is (page_at history (length history) space number) (each (length history) number (within number refl))

  pub told_by : {T : Type 0} (string : T → List ℕ) (name : List ℕ) (page : Option ℕ) (to : ℕ) (place : Place) (at : HeldSite) (old mid new : Values D)
      → place.pages ≡ pages_of_space at.site.head.spaces place.space → ((n : ℕ) → page ≡ Some n → n < place.pages)
      → (brought : IsBrought disk to place.space at old mid) → IsQuiet disk mid new
      → ((space count n number : ℕ) (history : History) → number < count → slice_get (pages_of history n space 0 count) number ≡ Some (page_at history n space number))
      → (result : Result T SiteFault)
      → ((list : List Page) → HoldsPages (space_of brought.value) place.pages list (disk.bytes (disk_of brought.value))
      → MatchResult result (λ text. listed (space_of brought.value) name page list (string text)) IsFailure)
      → MatchResult result (λ text. IsTold disk name page to place at old new (string text)) IsFailure
  told_by {T} string name page to place at old mid new pages within brought quiet each result tells =
      by result (tells (pages_of at.site.history (length at.site.history) place.space 0 place.pages) holds)
    where
      holds : HoldsPages (space_of brought.value) place.pages (pages_of at.site.history (length at.site.history) place.space 0 place.pages) (disk.bytes (disk_of brought.value))
      holds = subst (λ (s : ℕ). HoldsPages s place.pages (pages_of at.site.history (length at.site.history) place.space 0 place.pages) (disk.bytes (disk_of brought.value))) (sym brought.space_is)
          (subst (λ (n : ℕ). HoldsPages place.space n (pages_of at.site.history (length at.site.history) place.space 0 n) (disk.bytes (disk_of brought.value))) (sym pages) brought.pages)

      by : (r : Result T SiteFault)
          → MatchResult r (λ text. listed (space_of brought.value) name page (pages_of at.site.history (length at.site.history) place.space 0 place.pages) (string text)) IsFailure
          → MatchResult r (λ text. IsTold disk name page to place at old new (string text)) IsFailure
      by (Ok text) is = record {
        last = brought.last;
        last_is = brought.last_is;
        ends = λ f other bytes le image. brought.ends f other bytes le (quiet.images f other bytes image);
        text = listed_shown at.site.history name page place.space place.pages (string text) (λ n number lt. each place.space place.pages n number at.site.history lt) within
            (subst (λ (s : ℕ). listed s name page (pages_of at.site.history (length at.site.history) place.space 0 place.pages) (string text)) brought.space_is is);
      }
      by (Err fault) is = is

-- a value by its place
pub there_of : {X : Type 0} (items : List X) (k space : ℕ) (d was : X) → k ≡ space → space < length items → was ≡ get_or items k d → slice_get items space ≡ Some was
there_of items k space d was same lt is =
    ap (slice_get items) (sym same) ∙ slice_get-get_or items k d (omega (arith, same, lt)) ∙ ap (λ x. Some x) (sym is)

pub ok_each : {T E A : Type 0} (P : A → Type 0) (Q : A → T → Type 0) (result : Result T E) → ((a : A) → P a → IfOk result (λ t. Q a t)) → IfOk result (λ t. (a : A) → P a → Q a t)
ok_each P Q (Ok t) each = each
ok_each P Q (Err e) each = tt

pub text_fails : (space : ℕ) (fault : ListFault) → IsNoRefusal fault → IsFailure (fault_of_text space fault)
text_fails space NoMemory is = tt
text_fails space Failed is = tt
text_fails space (BadPage page) is = absurd is

pub text_names : (space : ℕ) (fault : ListFault) (name : DiskName) → fault_of_text space fault ≡ DiskFault name → (fault ≡ Failed) × (Chunk space ≡ name)
text_names space NoMemory name is = absurd cc
text_names space Failed name is = (refl, cc)
text_names space (BadPage page) name is = absurd cc

pub one_err : {A : Type 0} (result : Result A SiteFault) (told fault other : SiteFault) → told ≡ fault → result ≡ Err told → result ≡ Err other → fault ≡ other
one_err result told fault other same first second = cc
