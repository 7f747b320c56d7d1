-- What a reader has read of an image, and what is left of it.
use Rattle.std.specs.Prelude.{◌≡◌, ℕ, ◌+◌, ◌*◌, ◌^◌, ◌<◌, ◌≤◌, List, [], ◌∷◌, ◌++◌, length, Bool, true, false, nat_lt, if◌then◌else◌}
use Rattle.std.specs.List.{AllByRecursion}
use Rattle.std.proofs.Common.{refl, sym, ap, ◌∙◌, subst, arith}
use Rattle.std.proofs.Math.Nat.{mul-mod_right}
use Rattle.std.proofs.lemmas.Bool.{ltb-true}
use Rattle.std.proofs.lemmas.List.{length-append}
use Rattle.log_history.specs.Effects.{Page}
use Rattle.level_archive.specs.declared.head.ImageHead.{ImageHead}
use Rattle.level_archive.specs.Image.{Entry, IsImageSize, entries_from, entry, entry_bytes, head_bytes}
use Rattle.level_archive.specs.Reading.{Begins, Gives, HasEntry, HasRead, MayFollow, MayStand, Reading, new_reading, number_behind, with_entry}

-- entries that may follow a number may follow a lesser one
pub MayFollow-sooner : (head : ImageHead) (pages sooner from : ℕ) (entries : List Entry) → sooner ≤ from → MayFollow head pages from entries
    → MayFollow head pages sooner entries
MayFollow-sooner head pages sooner from [] le follow = tt
MayFollow-sooner head pages sooner from (e ∷ rest) le follow = (
  record {
    ascending = omega (arith, le, follow.0.ascending);
    within = follow.0.within;
    above = follow.0.above;
    up_to = follow.0.up_to;
  },
  follow.1,
)

-- the entries of pages of a space at an archive's position may stand in its image
pub entries_may_follow : (head : ImageHead) (count number : ℕ) (pages : List Page) → number + length pages ≤ count
    → AllByRecursion (λ page. page.stamp ≤ head.at) pages → MayFollow head count number (entries_from head.base number pages)
entries_may_follow head count number [] within known = tt
entries_may_follow head count number (page ∷ pages) within known =
    by (nat_lt head.base page.stamp) refl (entries_may_follow head count (number + 1) pages (omega (arith, within)) known.1)
  where
    by : (b : Bool) → nat_lt head.base page.stamp ≡ b → MayFollow head count (number + 1) (entries_from head.base (number + 1) pages)
        → MayFollow head count number (if b then entry number page ∷ entries_from head.base (number + 1) pages else entries_from head.base (number + 1) pages)
    by true is ih = (
      record { ascending = omega arith; within = omega (arith, within); above = ltb-true head.base page.stamp is; up_to = known.0 },
      ih,
    )
    by false is ih = MayFollow-sooner head count number (number + 1) (entries_from head.base (number + 1) pages) (omega arith) ih

-- they are at most as many as the pages
pub few_entries : (base number : ℕ) (pages : List Page) → length (entries_from base number pages) ≤ length pages
few_entries base number [] = omega arith
few_entries base number (page ∷ pages) = by (nat_lt base page.stamp) (few_entries base (number + 1) pages)
  where
    by : (b : Bool) → length (entries_from base (number + 1) pages) ≤ length pages
        → length (if b then entry number page ∷ entries_from base (number + 1) pages else entries_from base (number + 1) pages) ≤ length (page ∷ pages)
    by true ih = omega (arith, ih)
    by false ih = omega (arith, ih)

-- entries behind others
pub MayFollow-behind : (head : ImageHead) (pages from : ℕ) (given left : List Entry) → MayFollow head pages from (given ++ left)
    → MayFollow head pages (number_behind from given) left
MayFollow-behind head pages from [] left follow = follow
MayFollow-behind head pages from (e ∷ given) left follow = MayFollow-behind head pages (e.number + 1) given left follow.1

pub MayFollow-more : (head : ImageHead) (pages from : ℕ) (given : List Entry) (e : Entry) → MayFollow head pages from given
    → MayStand head pages (number_behind from given) e.number e.page.stamp → MayFollow head pages from (given ++ e ∷ [])
MayFollow-more head pages from [] e follow stands = (stands, tt)
MayFollow-more head pages from (first ∷ given) e follow stands = (follow.0, MayFollow-more head pages (first.number + 1) given e follow.1 stands)

pub number_behind-more : (from : ℕ) (given : List Entry) (e : Entry) → number_behind from (given ++ e ∷ []) ≡ e.number + 1
number_behind-more from [] e = refl
number_behind-more from (first ∷ given) e = number_behind-more (first.number + 1) given e

-- the head is read first
pub begins_to_read : (head : ImageHead) (pages size : ℕ) (block : List ℕ) (new : Reading) → Begins (new_reading head pages size) block new
    → (block ≡ head_bytes head) × HasRead head pages size [] new
begins_to_read head pages size block new begins =
    (begins.is_head.block_is, record { size_is = begins.is_head.size_is; follow = tt; is = begins.begun })

-- the reading behind so many entries, the last of which has a number
abbrev at_entry : ImageHead → (pages size entries from : ℕ) → Reading
at_entry head pages size entries from = record { head = head; pages = pages; size = size; is_begun = true; entries = entries; from = from }

module _ (head : ImageHead) (pages size : ℕ) (given : List Entry) (old : Reading) (has : HasRead head pages size given old) where
  -- what is given is an entry more
  pub reads_on : (block : List ℕ) (number : ℕ) (new : Reading) → Gives old block number new
      → (e : Entry) × (e.number ≡ number) × (block ≡ entry_bytes head.space e) × HasRead head pages size (given ++ e ∷ []) new
  reads_on block number new gives =
      let behind : old.from ≡ number_behind 0 given = ap (λ (r : Reading). r.from) has.is in
      let head_is : old.head ≡ head = ap (λ (r : Reading). r.head) has.is in
      let pages_is : old.pages ≡ pages = ap (λ (r : Reading). r.pages) has.is in
      let e : Entry = gives.has.e in
      let stands : MayStand head pages (number_behind 0 given) e.number e.page.stamp =
      subst (λ (n : ℕ). MayStand head pages n e.number e.page.stamp) behind
      (subst (λ (n : ℕ). MayStand head n old.from e.number e.page.stamp) pages_is (subst (λ (h : ImageHead). MayStand h old.pages old.from e.number e.page.stamp) head_is gives.has.stands)) in
      let more : length (given ++ e ∷ []) ≡ length given + 1 = length-append given (e ∷ []) in
      let at_number : number + 1 ≡ number_behind 0 (given ++ e ∷ []) =
      ap (λ (n : ℕ). n + 1) (sym gives.has.number_is) ∙ sym (number_behind-more 0 given e) in (
        e,
        gives.has.number_is,
        gives.has.block_is ∙ ap (λ (h : ImageHead). entry_bytes h.space e) head_is,
        record {
          size_is = has.size_is;
          follow = MayFollow-more head pages 0 given e has.follow stands;
          is = gives.given ∙ ap (with_entry number) has.is ∙ ap (λ (n : ℕ). at_entry head pages size n (number + 1)) (sym more)
              ∙ ap (at_entry head pages size (length (given ++ e ∷ []))) at_number;
        },
      )

  -- the next entry of an image is one that may come next
  pub next_is_read : (e : Entry) (left : List Entry) → head.at < 2 ^ 64 → MayFollow head pages 0 (given ++ e ∷ left)
      → HasEntry old.head old.pages old.from (entry_bytes head.space e) e.number
  next_is_read e left known follow =
      let stands : MayStand head pages (number_behind 0 given) e.number e.page.stamp = (MayFollow-behind head pages 0 given (e ∷ left) follow).0 in
      let up_to : e.page.stamp ≤ head.at = stands.up_to in
      let at_start : HasEntry head pages (number_behind 0 given) (entry_bytes head.space e) e.number =
      record { e = e; fits = omega (arith, known, up_to); number_is = refl; block_is = refl; stands = stands } in
      subst (λ (r : Reading). HasEntry r.head r.pages r.from (entry_bytes head.space e) e.number) (sym has.is) at_start

size_is : (count pages : ℕ) → count ≤ pages → IsImageSize pages (4096 * (count + 1))
size_is count pages few = record { whole = mul-mod_right 4096 (count + 1); some = omega arith; few = omega (arith, few) }

-- so many blocks are those of an image
pub size_of_entries : (base : ℕ) (pages : List Page) → IsImageSize (length pages) (4096 * (length (entries_from base 0 pages) + 1))
size_of_entries base pages = size_is (length (entries_from base 0 pages)) (length pages) (few_entries base 0 pages)
