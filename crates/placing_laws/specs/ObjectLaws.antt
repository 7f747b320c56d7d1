-- An object that a backup adds may be added.
use Rattle.std.specs.Prelude.{◌≡◌, ℕ, zero, suc, ◌+◌, ◌^◌, ◌<◌, ◌≤◌, List, [], ◌∷◌, ◌++◌, length, Bool, true, false, ◌&&◌, nat_le, nat_lt, if◌then◌else◌, slice_get, None, Some, All, codes}
use Rattle.std.specs.List.{AllByRecursion, list_all}
use Rattle.std.specs.Fmt.{decimal}
use Rattle.std.specs.Str.Parse.{AllDigits}
use Rattle.std.proofs.Common.{arith, refl, sym, length-append}
use Rattle.std.proofs.lemmas.Bool.{false≢true}
use Rattle.std.proofs.lemmas.Bool.Decides.{nat_tests}
use Rattle.std.proofs.lemmas.Fmt.{decimal_is_IsNumeral, length-decimal-le}
use Rattle.std.proofs.lemmas.Str.Parse.{digit_from_value}
use Rattle.std.proofs.lemmas.List.Elements.{All-cons, All-nil, All-append}
use Rattle.sha2.proofs.Facts256.{length-sha256}
use Rattle.onbar_grammar.specs.Script.{Space}
use Rattle.bsa_descriptor.specs.Text.{IsPrinted, IsText}
use Rattle.bsa_descriptor.specs.Descriptor.{IsDescriptor}
use Rattle.site_headers.specs.Heads.{IsSpace, IsHead}
use Rattle.site_headers.specs.SpaceLaws.{name_fits}
use Rattle.block_chain.specs.declared.runs.Run.{Run}
use Rattle.site_worlds.specs.Worlds.{Kept, Store, Site}
use Rattle.site_worlds.specs.Objects.{IsKept, blocks_on}
use Rattle.site_worlds.specs.Fitness.{IsFitSite}
use Rattle.site_worlds.specs.Moves.{kept_after, slots_of}
use Rattle.site_worlds.specs.Allowed.{CanCommit}
use Rattle.world_laws.specs.ListLaws.{none_some}
use Rattle.site_courses.specs.Faults.{too_many_objects, catalogue_full}
use Rattle.site_courses.specs.NewObjects.{name_of, Label, archive_label, log_label, descriptor_of, new_kept, commit_fault}
use Rattle.placing_laws.specs.PlacingLaws.{AreNewRuns, CanStand, sound_behind, new_fit, new_few, new_size}

-- texts

both : (a b : Bool) → (a && b) ≡ true → (a ≡ true) × (b ≡ true)
both true b is = (refl, is)
both false b is = absurd (false≢true is)

printed : (text : List ℕ) → list_all (λ c. nat_le 32 c && nat_le c 126) text ≡ true → All IsPrinted text
printed [] is = All-nil IsPrinted
printed (c ∷ text) is =
    let parts = both (nat_le 32 c && nat_le c 126) (list_all (λ c. nat_le 32 c && nat_le c 126) text) is in
    let ends = both (nat_le 32 c) (nat_le c 126) parts.0 in
    let at_least : 32 ≤ c = grind (arith, nat_tests, ends.0) in
    let at_most : c ≤ 126 = grind (arith, nat_tests, ends.1) in
    All-cons IsPrinted c text (at_least, at_most) (printed text parts.1)

digits_printed : (text : List ℕ) → AllDigits 10 text → All IsPrinted text
digits_printed [] all = All-nil IsPrinted
digits_printed (c ∷ text) all = All-cons IsPrinted c text (omega (arith, digit_from_value c all.0), omega (arith, digit_from_value c all.0)) (digits_printed text all.1)

decimal_printed : (n : ℕ) → n < 2 ^ 64 → All IsPrinted (decimal n)
decimal_printed n small = digits_printed (decimal n) (decimal_is_IsNumeral n small).0.1

decimal_short : (n : ℕ) → n < 2 ^ 64 → length (decimal n) ≤ 20
decimal_short n small = length-decimal-le 20 n (omega arith) (omega (arith, small)) small

decimal_text : (width n : ℕ) → 20 < width → n < 2 ^ 64 → IsText width (decimal n)
decimal_text width n wide small = record { shorter = omega (arith, wide, decimal_short n small); printed = decimal_printed n small }

-- what a backup object is called may stand in a descriptor
pub record IsLabel (label : Label) : Type 0 where
  pub path : IsText 1024 label.path
  pub order : label.order < 2 ^ 64

pub log_label_fits : (file : ℕ) → file < 2 ^ 64 → IsLabel (log_label file)
log_label_fits file small = record {
  path = record {
    shorter = omega (arith, length-append (codes "/log/") (decimal file), decimal_short file small, five);
    printed = All-append IsPrinted (codes "/log/") (decimal file) (printed (codes "/log/") refl) (decimal_printed file small);
  };
  order = small;
}
  where
    five : length (codes "/log/") ≡ 5
    five = refl

name_text : (spaces : List Space) (n : ℕ) → AllByRecursion IsSpace spaces → IsText 20 (name_of (slice_get spaces n))
name_text [] n all = record { shorter = omega arith; printed = All-nil IsPrinted }
name_text (space ∷ spaces) zero all = name_fits space all.0
name_text (space ∷ spaces) (suc n) all = name_text spaces n all.1

pub archive_label_fits : (site : Site) (space level : ℕ) → IsHead site.head → level < 2 ^ 64 → IsLabel (archive_label site space level)
archive_label_fits site space level head small = record {
  path = record {
    shorter = omega (
      arith,
      length-append (codes "/space/") (name ++ (codes "/" ++ decimal level)),
      length-append name (codes "/" ++ decimal level),
      length-append (codes "/") (decimal level),
      decimal_short level small,
      text.shorter,
      seven,
      one,
    );
    printed = All-append IsPrinted (codes "/space/") (name ++ (codes "/" ++ decimal level)) (printed (codes "/space/") refl)
        (All-append IsPrinted name (codes "/" ++ decimal level) text.printed
        (All-append IsPrinted (codes "/") (decimal level) (printed (codes "/") refl) (decimal_printed level small)));
  };
  order = small;
}
  where
    name : List ℕ
    name = name_of (slice_get site.head.spaces space)

    text : IsText 20 (name_of (slice_get site.head.spaces space))
    text = name_text site.head.spaces space head.each

    seven : length (codes "/space/") ≡ 7
    seven = refl

    one : length (codes "/") ≡ 1
    one = refl

descriptor_fits : (site : Site) (moment copy : ℕ) (label : Label) → IsHead site.head → moment < 2 ^ 64 → copy ≤ 2 ^ 48 → IsLabel label
    → IsDescriptor (descriptor_of site moment copy label)
descriptor_fits site moment copy label head early few is = record {
  bsa_owner = record { shorter = omega (arith, five); printed = printed (codes "onbar") refl };
  app_owner = decimal_text 64 site.head.site (omega arith) head.site;
  space = record { shorter = omega (arith, four); printed = printed (codes "site") refl };
  path = is.path;
  create_time = early;
  copy = omega (arith, few);
  restore_order = is.order;
  estimated_size = omega arith;
  resource = record { shorter = omega (arith, five); printed = printed (codes "onbar") refl };
  description = record { shorter = omega arith; printed = All-nil IsPrinted };
  info = record { shorter = omega arith; printed = All-nil IsPrinted };
}
  where
    five : length (codes "onbar") ≡ 5
    five = refl

    four : length (codes "site") ≡ 4
    four = refl

-- An object in new runs may be added.
pub new_is_kept : (site : Site) (moment copy volume : ℕ) (label : Label) (bytes : List ℕ) (runs : List Run) → IsHead site.head → moment < 2 ^ 64 → copy ≤ 2 ^ 48
    → volume ≤ 16 → IsLabel label → AreNewRuns site volume (length bytes) runs → IsKept (new_kept site moment copy volume label bytes runs)
new_is_kept site moment copy volume label bytes runs head early few low is new = record {
  object = record {
    copy = few;
    volume = low;
    size = new_size site volume (length bytes) runs new head.few_blocks;
    digest = length-sha256 bytes;
    few = new_few site volume (length bytes) runs new head.few_blocks;
    runs = new_fit site volume (length bytes) runs new head.few_blocks;
    descriptor = descriptor_fits site moment copy label head early few is;
    same_copy = refl;
    no_status = refl;
  };
  size = refl;
  digest = refl;
  blocks = new.long;
}

-- what the catalogue's limits tell

pub ids_left : (store : Store) (added : List Kept) (deleted : List ℕ) → commit_fault store added deleted ≡ None → store.last + length added ≤ 2 ^ 48
ids_left store added deleted none = first (nat_lt 16384 (length (kept_after added deleted store.kept))) none
  where
    second : (b : Bool) → nat_lt (2 ^ 48) (store.last + length added) ≡ b
        → (if b then Some too_many_objects else (if nat_lt 65536 (store.used + slots_of added deleted) then Some catalogue_full else None)) ≡ None
        → store.last + length added ≤ 2 ^ 48
    second true is fault = absurd (none_some (sym fault))
    second false is fault = grind (arith, nat_tests, is)

    first : (b : Bool) → (if b then Some too_many_objects else (if nat_lt (2 ^ 48) (store.last + length added) then Some too_many_objects
        else (if nat_lt 65536 (store.used + slots_of added deleted) then Some catalogue_full else None))) ≡ None → store.last + length added ≤ 2 ^ 48
    first true fault = absurd (none_some (sym fault))
    first false fault = second (nat_lt (2 ^ 48) (store.last + length added)) refl fault

-- one object is added
pub can_add : (one : Kept) (site : Site) → IsFitSite site → one.object.copy ≡ suc site.store.last → IsKept one
    → ((volume : ℕ) → CanStand site.head.blocks (blocks_on volume site.store.kept) (blocks_on volume (one ∷ []))) → CanCommit (one ∷ []) [] site
can_add one site fit next is stand = record {
  follow = (next, tt);
  each = (is, tt);
  apart = λ volume. sound_behind site.head.blocks site.store.kept (one ∷ []) [] volume (fit.store.apart volume) (stand volume);
}
