-- Pages of a chunk while entries are merged into them.
use Rattle.std.proofs.Common.{◌≡◌, ℕ, zero, suc, ◌+◌, ◌<◌, ◌≤◌, List, [], ◌∷◌, ◌++◌, length, take, drop, get_or, fold, Bool, true, false, refl, arith, ap, sym, subst, ◌∙◌, ⊎_elim}
use Rattle.std.specs.Prelude.{◌⊎◌, ◌==◌, if◌then◌else◌}
use mathlib.Core.Logic.{inl, inr}
use Rattle.std.proofs.lemmas.Bool.{cases_lt}
use Rattle.std.proofs.lemmas.Bool.Decides.{nat_tests}
use Rattle.std.proofs.lemmas.List.{take_more, drop_more, take_all}
use Rattle.std.proofs.lemmas.List.Sums.{fold-append}
use Rattle.std.proofs.Math.ListN.{drop_of_length-le}
use Rattle.site_disk.specs.Bytes.{Apart, Torn, extent, written}
use Rattle.site_disk.specs.BytesLaws.{extent-written, torn_whole}
use Rattle.before_images.specs.Saved.{place_of}
use Rattle.log_history.specs.Effects.{Page}
use Rattle.space_pages.specs.Layout.{page_bytes}
use Rattle.lane_ways.specs.Pictures.{pages_at}
use Rattle.space_lane.specs.Chunks.{IsPage, page_at}
use Rattle.level_archive.specs.declared.head.ImageHead.{ImageHead}
use Rattle.level_archive.specs.Image.{Entry, entry_bytes}
use Rattle.level_archive.specs.Reading.{HasEntry, Reading}
use Rattle.level_archive.proofs.PageLemmas.{one_number}
use Rattle.lane_restore.specs.Images.{IsEntry}
use Rattle.lane_restore.specs.Merging.{ArePages, LieApart, WritesOnly, with_entries, with_entry}

-- a whole block of an entry is a page of its space with its number
pub is_page : (head : ImageHead) (pages from space number : ℕ) (block : List ℕ) → head.space ≡ space → length block ≡ 4096 → HasEntry head pages from block number
    → IsPage space number block
unfolding page_bytes
is_page head pages from space number block same long has =
    let named : IsPage head.space has.e.number block = record { long = long; named = ap (extent 8 8) has.block_is } in
    subst (λ (s : ℕ). IsPage s number block) same (subst (λ (n : ℕ). IsPage head.space n block) has.number_is named)

-- an entry that may come next may come first
sooner : (head : ImageHead) (pages from number : ℕ) (block : List ℕ) → HasEntry head pages from block number → HasEntry head pages 0 block number
sooner head pages from number block has = record {
  e = has.e;
  fits = has.fits;
  number_is = has.number_is;
  block_is = has.block_is;
  stands = record { ascending = omega arith; within = has.stands.within; above = has.stands.above; up_to = has.stands.up_to };
}

-- the page that a block is read as is its own
pub own_number : (head : ImageHead) (pages : ℕ) (old : Reading) (block read : List ℕ) (a b : ℕ) → pages ≤ 65536 → old.head ≡ head → old.pages ≡ pages → read ≡ block
    → HasEntry old.head old.pages old.from read a → HasEntry head pages 0 block b → b ≡ a
own_number head pages old block read a b few same_head same_pages same first second =
    let here : HasEntry head pages old.from block a =
    subst (λ (l : List ℕ). HasEntry head pages old.from l a) same
    (subst (λ (n : ℕ). HasEntry head n old.from read a) same_pages (subst (λ (h : ImageHead). HasEntry h old.pages old.from read a) same_head first)) in
    one_number head pages 0 block b a (omega (arith, few)) second (sooner head pages old.from a block here)

-- that of an entry
pub entry_found : (head : ImageHead) (pages : ℕ) (e : Entry) (block : List ℕ) → IsEntry head pages e block → HasEntry head pages 0 block e.number
entry_found head pages e block is = record { e = e; fits = is.fits; number_is = refl; block_is = is.block_is; stands = is.stands }

-- one entry more

pub with_one-same : (number : ℕ) (page : Page) (e : Entry) → e.number ≡ number → with_entry number page e ≡ e.page
with_one-same number page e is = by (e.number == number) (grind (arith, nat_tests, is))
  where
    by : (b : Bool) → b ≡ true → (if b then e.page else page) ≡ e.page
    by true is = refl
    by false is = absurd (let no : ⊥ = cc in no)

pub with_one-other : (number : ℕ) (page : Page) (e : Entry) → (e.number ≡ number → ⊥) → with_entry number page e ≡ page
with_one-other number page e isnt = by (e.number == number) (grind (arith, nat_tests, isnt))
  where
    by : (b : Bool) → b ≡ false → (if b then e.page else page) ≡ page
    by true is = absurd (let no : ⊥ = cc in no)
    by false is = refl

no_entry : Entry
no_entry = record { number = 0; page = record { stamp = 0; payload = [] } }

pub next_is : (n : ℕ) (es : List Entry) → n < length es → (e : Entry) × (drop n es ≡ e ∷ drop (n + 1) es) × (take (n + 1) es ≡ take n es ++ e ∷ [])
next_is n es lt = (get_or es n no_entry, drop_more es n no_entry lt, take_more es n no_entry lt)

two_places : (a b : ℕ) → (a ≡ b → ⊥) → Apart (place_of pages_at a) 4096 (place_of pages_at b) 4096
two_places a b isnt = ⊎_elim
    (λ (before : a < b). inr (omega (arith, before)))
    (λ (not_before : b ≤ a). ⊎_elim
    (λ (after : b < a). inl (omega (arith, after)))
    (λ (not_after : a ≤ b). absurd (isnt (omega (arith, not_before, not_after))))
    (cases_lt b a))
    (cases_lt a b)

module _ (space count : ℕ) (e : Entry) (block old new : List ℕ) (long : length block ≡ 4096) (within : place_of pages_at e.number ≤ length old)
    (is : new ≡ written (place_of pages_at e.number) block old) where
  pub page_torn : Torn (place_of pages_at e.number) 4096 old new
  page_torn =
      subst (λ (l : List ℕ). Torn (place_of pages_at e.number) 4096 old l) (sym is)
      (subst (λ (n : ℕ). Torn (place_of pages_at e.number) n old (written (place_of pages_at e.number) block old)) long (torn_whole (place_of pages_at e.number) block old within))

  own_stands : extent (place_of pages_at e.number) 4096 new ≡ block
  own_stands =
      ap (extent (place_of pages_at e.number) 4096) is ∙ ap (λ (n : ℕ). extent (place_of pages_at e.number) n (written (place_of pages_at e.number) block old)) (sym long)
      ∙ extent-written (place_of pages_at e.number) block old within

  -- its page is as it has it, and all others stay
  pub pages_more : (pages : ℕ → Page) (rest : List Entry) → block ≡ entry_bytes space e → ArePages space count pages (e ∷ rest) old
      → ArePages space count (λ number. with_entry number (pages number) e) rest new
  pages_more pages rest block_is are number lt apart = by_cases (cases_lt e.number number) (cases_lt number e.number)
    where
      here : e.number ≡ number → page_at number new ≡ page_bytes space number (with_entry number (pages number) e)
      here same =
          ap (λ (n : ℕ). page_at n new) (sym same) ∙ own_stands ∙ block_is ∙ ap (λ (n : ℕ). page_bytes space n e.page) same
          ∙ sym (ap (page_bytes space number) (with_one-same number (pages number) e same))

      elsewhere : (e.number ≡ number → ⊥) → page_at number new ≡ page_bytes space number (with_entry number (pages number) e)
      elsewhere isnt =
          page_torn.elsewhere (place_of pages_at number) 4096 (two_places e.number number isnt) ∙ are number lt (isnt, apart)
          ∙ sym (ap (page_bytes space number) (with_one-other number (pages number) e isnt))

      by_cases : (e.number < number) ⊎ (number ≤ e.number) → (number < e.number) ⊎ (e.number ≤ number)
          → page_at number new ≡ page_bytes space number (with_entry number (pages number) e)
      by_cases (inl less) other = elsewhere (λ same. omega (arith, less, same))
      by_cases (inr le) (inl more) = elsewhere (λ same. omega (arith, more, same))
      by_cases (inr le) (inr ge) = here (omega (arith, le, ge))

-- entries are merged one by one
pub pages_behind : (space count n : ℕ) (pages : ℕ → Page) (window : List Entry) (e : Entry) (bytes : List ℕ) → take (n + 1) window ≡ take n window ++ e ∷ []
    → ArePages space count (λ number. with_entry number (with_entries number (take n window) (pages number)) e) (drop (n + 1) window) bytes
    → ArePages space count (λ number. with_entries number (take (n + 1) window) (pages number)) (drop (n + 1) window) bytes
pages_behind space count n pages window e bytes is are number lt apart =
    are number lt apart
    ∙ ap (page_bytes space number) (sym (ap (λ (l : List Entry). fold (with_entry number) (pages number) l) is ∙ fold-append (with_entry number) (pages number) (take n window) (e ∷ [])))

pub pages_first : (space count : ℕ) (pages : ℕ → Page) (window : List Entry) (bytes : List ℕ) → ArePages space count pages window bytes
    → ArePages space count (λ number. with_entries number (take 0 window) (pages number)) (drop 0 window) bytes
pages_first space count pages window bytes are = are

pub pages_last : (space count n : ℕ) (pages : ℕ → Page) (window : List Entry) (bytes : List ℕ) → length window ≡ n
    → ArePages space count (λ number. with_entries number (take n window) (pages number)) (drop n window) bytes
    → ArePages space count (λ number. with_entries number window (pages number)) [] bytes
pages_last space count n pages window bytes all are =
    subst (λ (l : List Entry). ArePages space count (λ number. with_entries number l (pages number)) [] bytes) (take_all n window (omega (arith, all)))
    (subst (λ (l : List Entry). ArePages space count (λ number. with_entries number (take n window) (pages number)) l bytes)
    (drop_of_length-le window (let le : length window ≤ n = omega (arith, all) in le)) are)

-- images

pub apart_behind : (n : ℕ) (es : List Entry) (from len : ℕ) → LieApart es from len → LieApart (drop n es) from len
apart_behind zero es from len apart = apart
apart_behind (suc n) [] from len apart = tt
apart_behind (suc n) (e ∷ es) from len apart = apart_behind n es from len apart.1

pub writes_none : (es : List Entry) (bytes : List ℕ) → WritesOnly es bytes bytes
writes_none es bytes = record { elsewhere = λ from len apart. refl; no_shorter = omega arith }

pub writes_more : (n : ℕ) (es rest : List Entry) (e : Entry) (old mid new : List ℕ) → drop n es ≡ e ∷ rest → WritesOnly es old mid
    → Torn (place_of pages_at e.number) 4096 mid new → WritesOnly es old new
writes_more n es rest e old mid new is first torn = record {
  elsewhere = λ from len apart.
      let here : LieApart (e ∷ rest) from len = subst (λ (l : List Entry). LieApart l from len) is (apart_behind n es from len apart) in
      torn.elsewhere from len here.0 ∙ first.elsewhere from len apart;
  no_shorter = omega (arith, first.no_shorter, torn.no_shorter);
}
