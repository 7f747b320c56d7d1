-- The numbers and spaces of words that are read are within their limits.
use Rattle.std.proofs.Common.{◌≡◌, ℕ, ◌+◌, ◌≤◌, ◌∷◌, ◌++◌, List, [], length, Bool, true, false, ◌==◌, ◌||◌, Option, None, Some, Result, Ok, Err, codes, refl, ap, subst, arith}
use Rattle.std.proofs.lemmas.Bool.{or_parts, eqb-false}
use Rattle.std.proofs.lemmas.List.{length-append}
use Rattle.std.proofs.lemmas.List.Elements.{All-from_recursion, recursion_from_All, All-push}
use Rattle.std.proofs.lemmas.Option.{option_and_then_some, same_Some}
use Rattle.std.proofs.lemmas.Slice.Eq.{bytes_eq-Decides}
use Rattle.std.specs.Prelude.{nat_eq, if◌then◌else◌}
use Rattle.std.specs.List.{AllByRecursion, list_any}
use Rattle.std.specs.Option.{option_map}
use Rattle.std.specs.Cmp.Lexicographic.{pointwise}
use Rattle.onbar_grammar.specs.Numbers.{is_name, number_within}
use Rattle.onbar_grammar.specs.Script.{Space}
use Rattle.onbar_grammar.specs.Parts.{parted_at}
use Rattle.command_grammar.specs.Words.{CommandForm, Command, init_form, transactions_form, show_form, is_word, no_more, space_of_parts, space_of_word, has_space, with_space, spaces_of_words, init_with, init_of_blocks, init_behind_k, init_of_words, show_of_page, show_of_space, show_of_words, form_of_words, command_with, command_of_workers, command_behind_j}
use Rattle.site_headers.specs.Heads.{IsSpace, IsFresh, AreDistinct}
use Rattle.site_headers.specs.declared.heads.SpaceHead.{SpaceHead}
use Rattle.site_headers.proofs.SpaceLemmas.{AreDistinct-push}
use Rattle.onbar_words.specs.Order.{form_in, command_in, FitsASite}
use Rattle.site_headers.specs.Views.{spaces_of}
use Rattle.onbar_words.specs.declared.words.Form.{Form}
use Rattle.onbar_words.specs.declared.words.Form.TheVariants.{Init, Transactions, Show}
use Rattle.onbar_words.specs.declared.words.Order.{Order}
use Rattle.onbar_grammar.proofs.DigitLemmas.{number_within-Some}

same_Ok : {A : Type 0} (x y : A) → ◌≡◌ {A = Result A ℕ} (Ok x) (Ok y) → x ≡ y
same_Ok x y is = cc

-- ---- one space

option_map-Some : {A B : Type 0} (f : A → B) (o : Option A) (y : B) → option_map f o ≡ Some y → (x : A) × (o ≡ Some x) × (f x ≡ y)
option_map-Some f (Some x) y is = (x, refl, same_Some (f x) y is)
option_map-Some f None y is = cc is

IsSpace-parts : (name pages : List ℕ) (space : Space) (named : Bool) → is_name name ≡ named
    → (if named then option_map (λ (n : ℕ). record { name = name; pages = n }) (number_within 1 65536 pages) else None) ≡ Some space → IsSpace space
IsSpace-parts name pages space true named is =
    let read = option_map-Some {B = Space} (λ (n : ℕ). record { name = name; pages = n }) (number_within 1 65536 pages) space is in
    let within = number_within-Some 1 65536 pages read.0 read.1 in
    subst IsSpace read.2 (record { named = named; some = within.0; few = within.1 })
IsSpace-parts name pages space false named is = cc is

IsSpace-word : (word : List ℕ) (space : Space) → space_of_word word ≡ Some space → IsSpace space
IsSpace-word word space is =
    option_and_then_some (λ (parts : List ℕ × List ℕ). space_of_parts parts.0 parts.1) (parted_at 58 word) space is
    (λ parts was read. IsSpace-parts parts.0 parts.1 space (is_name parts.0) refl read)

-- ---- spaces of distinct names, at most 16

record AreSpaces (spaces : List Space) : Type 0 where
  few : length spaces ≤ 16
  each : AllByRecursion IsSpace spaces
  distinct : AreDistinct spaces

IsFresh-has_space : (name : List ℕ) (spaces : List Space) → has_space name spaces ≡ false → IsFresh name spaces
IsFresh-has_space name [] none = tt
IsFresh-has_space name (space ∷ spaces) none =
    let parts = or_parts (is_word name space.name) (has_space name spaces) none in
    let other : space.name ≡ name → ⊥ = λ (same : space.name ≡ name).
    let is : pointwise nat_eq space.name name ≡ true = (bytes_eq-Decides space.name name).1 same in cc (parts.0, is) in
    (other, IsFresh-has_space name spaces parts.1)

AreSpaces-push : (before : List Space) (space : Space) → AreSpaces before → IsSpace space → (has_space space.name before || length before == 16) ≡ false
    → AreSpaces (before ++ space ∷ [])
AreSpaces-push before space are is not =
    let parts = or_parts (has_space space.name before) (length before == 16) not in
    let ne = eqb-false (length before) 16 parts.1 in
    let few : length before ≤ 16 = are.few in
    record {
      few = omega (arith, length-append before (space ∷ []));
      each = recursion_from_All IsSpace (before ++ space ∷ []) (All-push IsSpace before space (All-from_recursion IsSpace before are.each) is);
      distinct = AreDistinct-push before space are.distinct (IsFresh-has_space space.name before parts.0);
    }

-- spaces of which a site may be made
record Fits (spaces : List Space) : Type 0 where
  some : 1 ≤ length spaces
  are : AreSpaces spaces

Fits-checked : (at : ℕ) (before : List Space) (space : Space) (others : List Space → Result (List Space) ℕ) (spaces : List Space)
    → AreSpaces before → IsSpace space → ((more : List Space) → AreSpaces more → others more ≡ Ok spaces → Fits spaces)
    → (refused : Bool) → (has_space space.name before || length before == 16) ≡ refused
    → (if refused then Err at else others (before ++ space ∷ [])) ≡ Ok spaces → Fits spaces
Fits-checked at before space others spaces are is further true test read = cc read
Fits-checked at before space others spaces are is further false test read =
    further (before ++ space ∷ []) (AreSpaces-push before space are is test) read

Fits-with : (at : ℕ) (before : List Space) (next : Option Space) (others : List Space → Result (List Space) ℕ) (spaces : List Space)
    → AreSpaces before → ((space : Space) → next ≡ Some space → IsSpace space)
    → ((more : List Space) → AreSpaces more → others more ≡ Ok spaces → Fits spaces)
    → with_space at before next others ≡ Ok spaces → Fits spaces
Fits-with at before None others spaces are is further read = cc read
Fits-with at before (Some space) others spaces are is further read =
    Fits-checked at before space others spaces are (is space refl) further (has_space space.name before || length before == 16) refl read

Fits-end : (at : ℕ) (before spaces : List Space) → AreSpaces before → (none : Bool) → (length before == 0) ≡ none
    → (if none then Err at else Ok before) ≡ Ok spaces → Fits spaces
Fits-end at before spaces are true test read = cc read
Fits-end at before spaces are false test read =
    let ne = eqb-false (length before) 0 test in
    subst Fits (same_Ok before spaces read) (record { some = omega (arith, ne); are = are })

Fits-words : (at : ℕ) (before : List Space) (words : List (List ℕ)) (spaces : List Space) → AreSpaces before
    → spaces_of_words at before words ≡ Ok spaces → Fits spaces
Fits-words at before [] spaces are read = Fits-end at before spaces are (length before == 0) refl read
Fits-words at before (word ∷ words) spaces are read =
    Fits-with at before (space_of_word word) (λ more. spaces_of_words (at + 1) more words) spaces are (IsSpace-word word)
    (λ more are. Fits-words (at + 1) more words spaces are) read

-- ---- forms

-- blocks and spaces of which a site may be made
record IsInit (blocks : ℕ) (spaces : List Space) : Type 0 where
  some_blocks : 1 ≤ blocks
  few_blocks : blocks ≤ 1048576
  fits : Fits spaces

abbrev IsFit : CommandForm → Type 0
IsFit (init_form blocks spaces) = IsInit blocks spaces
IsFit transactions_form = Unit {0}
IsFit (show_form space page) = Unit {0}

FitsASite-form_in : (form : Form) → IsFit (form_in form) → FitsASite form
FitsASite-form_in (Init blocks spaces) fit = λ site small. record {
  site = small;
  some_blocks = fit.some_blocks;
  few_blocks = fit.few_blocks;
  some = fit.fits.some;
  few = fit.fits.are.few;
  each = fit.fits.are.each;
  distinct = fit.fits.are.distinct;
}
FitsASite-form_in Transactions fit = tt
FitsASite-form_in (Show space page) fit = tt

none_yet : AreSpaces []
none_yet = record { few = omega arith; each = tt; distinct = tt }

IsFit-init_with : (blocks at : ℕ) (words : List (List ℕ)) (read : Result (List Space) ℕ) (form : CommandForm) → 1 ≤ blocks → blocks ≤ 1048576
    → spaces_of_words at [] words ≡ read → init_with blocks read ≡ Ok form → IsFit form
IsFit-init_with blocks at words (Err place) form some few was is = cc is
IsFit-init_with blocks at words (Ok spaces) form some few was is =
    subst IsFit (same_Ok _ form is) (record {
      some_blocks = some;
      few_blocks = few;
      fits = Fits-words at [] words spaces none_yet was;
    })

IsFit-init_of_blocks : (at : ℕ) (word : List ℕ) (words : List (List ℕ)) (blocks : Option ℕ) (form : CommandForm)
    → number_within 1 1048576 word ≡ blocks → init_of_blocks at words blocks ≡ Ok form → IsFit form
IsFit-init_of_blocks at word words None form was is = cc is
IsFit-init_of_blocks at word words (Some blocks) form was is =
    let within = number_within-Some 1 1048576 word blocks was in
    IsFit-init_with blocks (at + 1) words (spaces_of_words (at + 1) [] words) form within.0 within.1 refl is

IsFit-init_behind_k : (at : ℕ) (words : List (List ℕ)) (form : CommandForm) → init_behind_k at words ≡ Ok form → IsFit form
IsFit-init_behind_k at [] form is = cc is
IsFit-init_behind_k at (word ∷ words) form is = IsFit-init_of_blocks at word words (number_within 1 1048576 word) form refl is

IsFit-option : (at : ℕ) (word : List ℕ) (words : List (List ℕ)) (form : CommandForm) (k : Bool)
    → (if k then init_behind_k (at + 1) words else init_with 1048576 (spaces_of_words at [] (word ∷ words))) ≡ Ok form → IsFit form
IsFit-option at word words form true is = IsFit-init_behind_k (at + 1) words form is
IsFit-option at word words form false is =
    IsFit-init_with 1048576 at (word ∷ words) (spaces_of_words at [] (word ∷ words)) form (omega arith) (omega arith) refl is

IsFit-init_of_words : (at : ℕ) (words : List (List ℕ)) (form : CommandForm) → init_of_words at words ≡ Ok form → IsFit form
IsFit-init_of_words at [] form is = cc is
IsFit-init_of_words at (word ∷ words) form is = IsFit-option at word words form (is_word (codes "-k") word) is

IsFit-no_more : (last : CommandForm) (at : ℕ) (words : List (List ℕ)) (form : CommandForm) → IsFit last → no_more last at words ≡ Ok form
    → IsFit form
IsFit-no_more last at [] form fits is = subst IsFit (same_Ok last form is) fits
IsFit-no_more last at (word ∷ words) form fits is = cc is

IsFit-show_of_page : (space : List ℕ) (at : ℕ) (words : List (List ℕ)) (page : Option ℕ) (form : CommandForm)
    → show_of_page space at words page ≡ Ok form → IsFit form
IsFit-show_of_page space at words None form is = cc is
IsFit-show_of_page space at words (Some page) form is = IsFit-no_more (show_form space (Some page)) (at + 1) words form tt is

IsFit-show_of_space : (space : List ℕ) (at : ℕ) (words : List (List ℕ)) (form : CommandForm) → show_of_space space at words ≡ Ok form → IsFit form
IsFit-show_of_space space at [] form is = subst IsFit (same_Ok _ form is) tt
IsFit-show_of_space space at (word ∷ words) form is = IsFit-show_of_page space at words (number_within 0 4294967295 word) form is

IsFit-named : (at : ℕ) (word : List ℕ) (words : List (List ℕ)) (form : CommandForm) (named : Bool)
    → (if named then show_of_space word (at + 1) words else Err at) ≡ Ok form → IsFit form
IsFit-named at word words form true is = IsFit-show_of_space word (at + 1) words form is
IsFit-named at word words form false is = cc is

IsFit-show_of_words : (at : ℕ) (words : List (List ℕ)) (form : CommandForm) → show_of_words at words ≡ Ok form → IsFit form
IsFit-show_of_words at [] form is = cc is
IsFit-show_of_words at (word ∷ words) form is = IsFit-named at word words form (is_name word) is

IsFit-form : (at : ℕ) (words : List (List ℕ)) (form : CommandForm) (init transactions show : Bool)
    → (if init then init_of_words (at + 1) words
    else (if transactions then no_more transactions_form (at + 1) words
    else (if show then show_of_words (at + 1) words else Err at))) ≡ Ok form → IsFit form
IsFit-form at words form true transactions show is = IsFit-init_of_words (at + 1) words form is
IsFit-form at words form false true show is = IsFit-no_more transactions_form (at + 1) words form tt is
IsFit-form at words form false false true is = IsFit-show_of_words (at + 1) words form is
IsFit-form at words form false false false is = cc is

IsFit-form_of_words : (at : ℕ) (words : List (List ℕ)) (form : CommandForm) → form_of_words at words ≡ Ok form → IsFit form
IsFit-form_of_words at [] form is = cc is
IsFit-form_of_words at (word ∷ words) form is =
    IsFit-form at words form (is_word (codes "-init") word) (is_word (codes "-T") word) (is_word (codes "-D") word) is

IsFit-command_with : (workers at : ℕ) (words : List (List ℕ)) (read : Result CommandForm ℕ) (command : Command) → form_of_words at words ≡ read
    → command_with workers read ≡ Ok command → IsFit command.form
IsFit-command_with workers at words (Err place) command was is = cc is
IsFit-command_with workers at words (Ok form) command was is =
    subst (λ (command : Command). IsFit command.form) (same_Ok _ command is) (IsFit-form_of_words at words form was)

IsFit-command_of_workers : (words : List (List ℕ)) (workers : Option ℕ) (command : Command) → command_of_workers words workers ≡ Ok command
    → IsFit command.form
IsFit-command_of_workers words None command is = cc is
IsFit-command_of_workers words (Some workers) command is = IsFit-command_with workers 3 words (form_of_words 3 words) command refl is

IsFit-command_behind_j : (words : List (List ℕ)) (command : Command) → command_behind_j words ≡ Ok command → IsFit command.form
IsFit-command_behind_j [] command is = cc is
IsFit-command_behind_j (word ∷ words) command is = IsFit-command_of_workers words (number_within 1 16 word) command is

pub FitsASite-form_of_words : (at : ℕ) (words : List (List ℕ)) (form : Form) → form_of_words at words ≡ Ok (form_in form) → FitsASite form
FitsASite-form_of_words at words form is = FitsASite-form_in form (IsFit-form_of_words at words (form_in form) is)

pub FitsASite-command_behind_j : (words : List (List ℕ)) (order : Order) → command_behind_j words ≡ Ok (command_in order) → FitsASite order.form
FitsASite-command_behind_j words order is = FitsASite-form_in order.form (IsFit-command_behind_j words (command_in order) is)

pub has_space-any : (name : List ℕ) (heads : List SpaceHead)
    → list_any (λ (head : SpaceHead). pointwise nat_eq head.name name) heads ≡ has_space name (spaces_of heads)
has_space-any name [] = refl
has_space-any name (head ∷ heads) = ap (λ (others : Bool). pointwise nat_eq head.name name || others) (has_space-any name heads)
