-- The blocks of pages, by their fields.
use Rattle.std.proofs.Common.{◌≡◌, ℕ, ◌^◌, ◌<◌, List, drop, refl, sym, ap, ◌∙◌, subst, arith}
use Rattle.std.specs.Int.{w32, w64}
use Rattle.std.proofs.lemmas.List.{take-append-drop}
use Rattle.std.proofs.lemmas.Nat.{from_be_bytes-to_be_bytes_4, from_be_bytes-to_be_bytes_8}
use Rattle.std.proofs.Math.Seq.{take-add}
use Rattle.byte_fields.specs.Fields.{field, number_at, HasNumber}
use Rattle.log_history.specs.Effects.{Page}
use Rattle.space_pages.specs.Layout.{page_bytes}
use Rattle.level_archive.specs.declared.head.ImageHead.{ImageHead}
use Rattle.level_archive.specs.Reading.{HasEntry, MayStand}
use Rattle.level_archive.specs.Image.{IsPageOf, Entry, entry, entry_bytes}

-- a page by what stands in a block
abbrev pub page_in : ℕ → List ℕ → Page
page_in stamp block = record { stamp = stamp; payload = drop 16 block }

abbrev pub entry_in : (number stamp : ℕ) → List ℕ → Entry
entry_in number stamp block = entry number (page_in stamp block)

-- a block with the fields of a page is that page
pub block_of_fields : (space number stamp : ℕ) (block : List ℕ) → IsPageOf space block → HasNumber w32 12 block number → HasNumber w64 0 block stamp
    → block ≡ entry_bytes space (entry_in number stamp block)
unfolding page_bytes
block_of_fields space number stamp block is numbered stamped =
    sym (take-append-drop 16 block)
    ∙ rw (take-add 12 4 block, take-add 10 2 block, take-add 8 2 block, stamped.stands, is.space_stands, is.zeros, numbered.stands) refl

pub IsPageOf-entry : (space : ℕ) (e : Entry) (block : List ℕ) → block ≡ entry_bytes space e → IsPageOf space block
unfolding page_bytes
IsPageOf-entry space e block is = record { space_stands = ap (field 8 2) is; zeros = ap (field 10 2) is }

pub number-entry : (space : ℕ) (e : Entry) (block : List ℕ) → e.number < 2 ^ 32 → block ≡ entry_bytes space e → number_at w32 12 block ≡ e.number
unfolding page_bytes
number-entry space e block fits is = ap (number_at w32 12) is ∙ from_be_bytes-to_be_bytes_4 e.number fits

pub stamp-entry : (space : ℕ) (e : Entry) (block : List ℕ) → e.page.stamp < 2 ^ 64 → block ≡ entry_bytes space e → number_at w64 0 block ≡ e.page.stamp
unfolding page_bytes
stamp-entry space e block fits is = ap (number_at w64 0) is ∙ from_be_bytes-to_be_bytes_8 e.page.stamp fits

pub payload-entry : (space : ℕ) (e : Entry) (block : List ℕ) → block ≡ entry_bytes space e → drop 16 block ≡ e.page.payload
unfolding page_bytes
payload-entry space e block is = ap (drop 16) is

-- a block with the fields of a page that may stand in an image is an entry
pub entry_found : (head : ImageHead) (pages from number stamp : ℕ) (block : List ℕ) → IsPageOf head.space block → HasNumber w32 12 block number
    → HasNumber w64 0 block stamp → MayStand head pages from number stamp → HasEntry head pages from block number
entry_found head pages from number stamp block is numbered stamped stands = record {
  e = entry_in number stamp block;
  fits = stamped.fits;
  number_is = refl;
  block_is = block_of_fields head.space number stamp block is numbered stamped;
  stands = stands;
}

-- one that is no page of the space is none
pub no_page_of : (head : ImageHead) (pages from : ℕ) (block : List ℕ) → (IsPageOf head.space block → ⊥) → (number : ℕ) → HasEntry head pages from block number → ⊥
no_page_of head pages from block other number has = other (IsPageOf-entry head.space has.e block has.block_is)

-- nor is one whose number and stamp may not stand there
pub may_not_stand : (head : ImageHead) (pages from at_number at_stamp : ℕ) (block : List ℕ) → pages < 2 ^ 32
    → at_number ≡ number_at w32 12 block → at_stamp ≡ number_at w64 0 block → (MayStand head pages from at_number at_stamp → ⊥)
    → (number : ℕ) → HasEntry head pages from block number → ⊥
may_not_stand head pages from at_number at_stamp block few is_number is_stamp other number has =
    let within : has.e.number < pages = has.stands.within in
    let same_number : at_number ≡ has.e.number = is_number ∙ number-entry head.space has.e block (omega (arith, within, few)) has.block_is in
    let same_stamp : at_stamp ≡ has.e.page.stamp = is_stamp ∙ stamp-entry head.space has.e block has.fits has.block_is in
    other (subst (λ (n : ℕ). MayStand head pages from n at_stamp) (sym same_number)
    (subst (λ (n : ℕ). MayStand head pages from has.e.number n) (sym same_stamp) has.stands))

-- one number stands in a block
pub one_number : (head : ImageHead) (pages from : ℕ) (block : List ℕ) (a b : ℕ) → pages < 2 ^ 32 → HasEntry head pages from block a
    → HasEntry head pages from block b → a ≡ b
one_number head pages from block a b few first second =
    let first_within : first.e.number < pages = first.stands.within in
    let second_within : second.e.number < pages = second.stands.within in
    sym first.number_is ∙ sym (number-entry head.space first.e block (omega (arith, first_within, few)) first.block_is)
    ∙ number-entry head.space second.e block (omega (arith, second_within, few)) second.block_is ∙ second.number_is
