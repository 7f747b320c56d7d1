-- Laws of a region: what it keeps, by its gate, its list and its images.
use Rattle.std.specs.Prelude.{◌≡◌, ◌≢◌, ℕ, zero, suc, ◌+◌, ◌*◌, ◌^◌, ◌<◌, ◌≤◌, List, [], ◌∷◌, ◌++◌, length, take, drop, Bool, true, false, ◌&&◌, nat_eq, nat_le, if◌then◌else◌, Option, Some, None, is_some, get_or, refl}
use mathlib.Core.Logic.{inl, inr}
use mathlib.Core.Bool.{true≢false}
use Rattle.std.proofs.Common.{slice_index_or, slice_set, arith, ap, sym, ◌∙◌, ⊎_elim, subst, length-append, length-drop, eq-eqb}
use Rattle.std.proofs.lemmas.List.{take-take, take_at, take_all, drop_at, length-take}
use Rattle.std.proofs.lemmas.Bool.Decides.{nat_tests}
use Rattle.site_disk.specs.Bytes.{extent, written, filled, Apart, Torn}
use Rattle.site_disk.specs.BytesLaws.{extent-extent, extent-written, length-extent, torn_whole, torn_wider, torn_again}
use Rattle.site_disk.specs.Gates.{behind, shut, MayShut}
use Rattle.site_disk.specs.GatesLaws.{is_shut, behind_any, behind_torn}
use Rattle.before_images.specs.Saved.{Saved, u64_at, u32_at, count_in, pages_in, numbers, are_distinct, are_below, is_list, is_whole, list_len, spelled, front_bytes, saved_by, saved_in, saved_at, listed, place_of, page_of, present, region_of, laid, applies, put_back, restored, Lie, kept, Saves, MaySave, Drops, MayDrop, filled_region, MayFillAndOpen, Within, MayPutBack}
use Rattle.before_images.specs.ListLaws.{is_list-short, is_list-none, list_len-is, list_len-not, length-numbers, are_below-get}
use Rattle.before_images.specs.SpelledLaws.{length-spelled, upto-spelled, part-spelled, count-spelled, numbers-spelled, is_list-spelled}
use Rattle.before_images.specs.PagesLaws.{laid-same, laid-present, length-present, same_outside}

-- what a region keeps, by its three parts on the disk
abbrev pub by_parts : ℕ → List ℕ → Option Saved
by_parts base bytes = behind (extent base 1 bytes) (saved_by (0 ∷ extent (base + 1) 4095 bytes) (extent (base + 4096) 65536 bytes))

pub saved_at-is : (base : ℕ) (bytes : List ℕ) → saved_at base bytes ≡ by_parts base bytes
saved_at-is base bytes =
    let region = extent base 69632 bytes in
    let gate : extent 0 1 region ≡ extent base 1 bytes = extent-extent 0 1 base 69632 bytes (omega arith) ∙ ap (λ (k : ℕ). extent k 1 bytes) (omega arith) in
    ap (λ (g : List ℕ). behind g (saved_by (0 ∷ extent 1 4095 region) (extent 4096 65536 region))) gate
    ∙ ap (λ (l : List ℕ). behind (extent base 1 bytes) (saved_by (0 ∷ l) (extent 4096 65536 region))) (extent-extent 1 4095 base 69632 bytes (omega arith))
    ∙ ap (λ (l : List ℕ). behind (extent base 1 bytes) (saved_by (0 ∷ extent (base + 1) 4095 bytes) l)) (extent-extent 4096 65536 base 69632 bytes (omega arith))

abbrev pub some_saved : ℕ → ℕ → List ℕ → List ℕ → Option Saved
some_saved upto part pages images = Some (record { upto = upto; part = part; pages = pages; images = images })

behind_none : (gate : List ℕ) → behind {A = Saved} gate None ≡ None
behind_none gate = ⊎_elim (λ none. none) (λ none. none) (behind_any {A = Saved} gate None)

saved_by-not : (head images : List ℕ) → is_whole head images ≡ false → saved_by head images ≡ None
saved_by-not head images is =
    ap (λ (b : Bool). if b then Some (record { upto = u64_at 16 head; part = u32_at 24 head; pages = pages_in head; images = take (4096 * count_in head) images }) else None) is

pub saved_by-is : (head images : List ℕ) → is_list head ≡ true → 4096 * count_in head ≤ length images
    → saved_by head images ≡ Some (record { upto = u64_at 16 head; part = u32_at 24 head; pages = pages_in head; images = take (4096 * count_in head) images })
saved_by-is head images is long =
    let there : nat_le (4096 * count_in head) (length images) ≡ true = grind (arith, nat_tests) in
    ap (λ (b : Bool). if b then Some (record { upto = u64_at 16 head; part = u32_at 24 head; pages = pages_in head; images = take (4096 * count_in head) images }) else None)
    (ap (λ (b : Bool). b && nat_le (4096 * count_in head) (length images)) is ∙ there)

-- a list outside of the grammar
pub saved_by-no_list : (head images : List ℕ) → is_list head ≡ false → saved_by head images ≡ None
saved_by-no_list head images is = saved_by-not head images (ap (λ (b : Bool). b && nat_le (4096 * count_in head) (length images)) is)

-- images that are cut off
pub saved_by-cut : (head images : List ℕ) → length images < 4096 * count_in head → saved_by head images ≡ None
saved_by-cut head images short = saved_by-not head images (by (is_list head) past)
  where
    past : nat_le (4096 * count_in head) (length images) ≡ false
    past = grind (arith, nat_tests)

    by : (a : Bool) → nat_le (4096 * count_in head) (length images) ≡ false → (a && nat_le (4096 * count_in head) (length images)) ≡ false
    by true is = is
    by false is = refl

-- a region that ends within its list keeps nothing
pub saved_short : (region : List ℕ) → length region < 4096 → saved_in region ≡ None
saved_short region short =
    let head = 0 ∷ extent 1 4095 region in
    let few : length head ≢ 4096 = λ long. absurd (omega (arith, long, short, length-take 4095 (drop 1 region), length-drop 1 region)) in
    ap (behind (extent 0 1 region)) (saved_by-no_list head (extent 4096 65536 region) (is_list-short head few)) ∙ behind_none (extent 0 1 region)

-- what is read of a list

-- nothing is kept where the list isn't in the grammar
pub unlisted : (head images : List ℕ) → list_len head ≡ None → saved_by head images ≡ None
unlisted head images none = by (is_list head) refl
  where
    by : (b : Bool) → is_list head ≡ b → saved_by head images ≡ None
    by true is = absurd (some_none (sym (list_len-is head is) ∙ none))
      where
        some_none : Some (count_in head) ≡ None → ⊥
        some_none e = true≢false (ap is_some e)
    by false is = saved_by-no_list head images is

-- a list in the grammar has this many pages
record Counted (count : ℕ) (head : List ℕ) : Type 0 where
  list : is_list head ≡ true
  counts : count ≡ count_in head

counted : (count : ℕ) (head : List ℕ) → list_len head ≡ Some count → Counted count head
counted count head some = by (is_list head) refl
  where
    by : (b : Bool) → is_list head ≡ b → Counted count head
    by true is = record { list = is; counts = ap (λ (o : Option ℕ). get_some 0 o) (sym some ∙ list_len-is head is) }
      where
        get_some : ℕ → Option ℕ → ℕ
        get_some d None = d
        get_some d (Some n) = n
    by false is = absurd (true≢false (ap is_some (sym some ∙ list_len-not head is)))

-- a list has a page
pub listed_some : (count : ℕ) (head : List ℕ) → list_len head ≡ Some count → 1 ≤ count
listed_some count head some = by count (counted count head some)
  where
    by : (n : ℕ) → Counted n head → 1 ≤ n
    by zero it = absurd (true≢false (sym it.list ∙ is_list-none head (sym it.counts)))
    by (suc n) it = omega arith

-- a region whose images are cut off
pub listed_cut : (count : ℕ) (region : List ℕ) → list_len (take 4096 region) ≡ Some count → length region < 4096 * (count + 1) → saved_by (take 4096 region) (extent 4096 65536 region) ≡ None
listed_cut count region some short =
    let it = counted count (take 4096 region) some in
    saved_by-cut (take 4096 region) (extent 4096 65536 region) (omega (arith, it.counts, listed_some count (take 4096 region) some, short, length-take 65536 (drop 4096 region), length-drop 4096 region))

-- a whole one
pub listed_whole : (count : ℕ) (region : List ℕ) → list_len (take 4096 region) ≡ Some count → count ≤ 16 → 4096 * (count + 1) ≤ length region
    → saved_by (take 4096 region) (extent 4096 65536 region) ≡ Some (listed (u64_at 16 (take 4096 region)) (u32_at 24 (take 4096 region)) count region)
listed_whole count region some few whole =
    let head = take 4096 region in
    let it = counted count head some in
    saved_by-is head (extent 4096 65536 region) it.list (omega (arith, it.counts, few, whole, length-take 65536 (drop 4096 region), length-drop 4096 region))
    ∙ ap (λ (n : ℕ). some_saved (u64_at 16 head) (u32_at 24 head) (numbers 0 n head) (take (4096 * n) (extent 4096 65536 region))) (sym it.counts)
    ∙ ap (some_saved (u64_at 16 head) (u32_at 24 head) (numbers 0 count head)) (take-take (4096 * count) 65536 (drop 4096 region) (omega (arith, few)))

-- the gate's byte

pub open_keeps : (region : List ℕ) → (slice_index_or region 0 0 ≡ 0 → ⊥) → 4096 ≤ length region
    → saved_in region ≡ saved_by (take 4096 (slice_set region 0 0)) (extent 4096 65536 (slice_set region 0 0))
open_keeps [] some long = absurd (omega (arith, long))
open_keeps (zero ∷ region) some long = absurd (some refl)
open_keeps (suc b ∷ region) some long = refl

-- the gate

pub saved_closed : (base : ℕ) (bytes : List ℕ) → extent base 1 bytes ≡ 0 ∷ [] → saved_at base bytes ≡ None
saved_closed base bytes is = saved_at-is base bytes ∙ ap (λ (g : List ℕ). behind g (saved_by (0 ∷ extent (base + 1) 4095 bytes) (extent (base + 4096) 65536 bytes))) is

module _ (base : ℕ) (old new : List ℕ) where
  region_of_gate : Torn base 1 old new → Torn base 69632 old new
  region_of_gate torn = torn_wider base 1 base 69632 old new (omega arith) (omega arith) torn

  region_of_rest : Torn (base + 1) 69631 old new → Torn base 69632 old new
  region_of_rest torn = torn_wider (base + 1) 69631 base 69632 old new (omega arith) (omega arith) torn

  -- behind the gate nothing has changed
  rest_by_gate : Torn base 1 old new → saved_by (0 ∷ extent (base + 1) 4095 new) (extent (base + 4096) 65536 new) ≡ saved_by (0 ∷ extent (base + 1) 4095 old) (extent (base + 4096) 65536 old)
  rest_by_gate torn =
      ap (λ (l : List ℕ). saved_by (0 ∷ l) (extent (base + 4096) 65536 new)) (torn.elsewhere (base + 1) 4095 (inr (omega arith)))
      ∙ ap (λ (l : List ℕ). saved_by (0 ∷ extent (base + 1) 4095 old) l) (torn.elsewhere (base + 4096) 65536 (inr (omega arith)))

  pub may_drop : length (extent base 1 old) ≡ 1 → MayShut base old new → MayDrop base old new
  may_drop one may =
      let torn = region_of_gate may.torn in
      let rest = rest_by_gate may.torn in
      let it = saved_by (0 ∷ extent (base + 1) 4095 old) (extent (base + 4096) 65536 old) in
      let as_new : saved_at base new ≡ behind (extent base 1 new) it = saved_at-is base new ∙ ap (behind (extent base 1 new)) rest in record {
        saved = ⊎_elim
            (λ none. inr (as_new ∙ none))
            (λ same. inl (as_new ∙ same ∙ sym (saved_at-is base old)))
            (behind_torn (extent base 1 old) (extent base 1 new) it one (λ was. ap (λ (l : List ℕ). extent base 1 l) (may.kept was)));
        elsewhere = torn.elsewhere;
        no_shorter = torn.no_shorter;
      }

-- pages as they stood

present-same : (pages_at : ℕ) (pages c d : List ℕ) → ((k : ℕ) → k < length pages → extent (place_of pages_at (get_or pages k 0)) 4096 c ≡ extent (place_of pages_at (get_or pages k 0)) 4096 d)
    → present pages_at pages c ≡ present pages_at pages d
unfolding present
present-same pages_at [] c d same = refl
present-same pages_at (page ∷ pages) c d same =
    ap (λ (l : List ℕ). filled 4096 l ++ present pages_at pages c) (same 0 (omega arith))
    ∙ ap (λ (l : List ℕ). page_of pages_at page d ++ l) (present-same pages_at pages c d (λ k lt. same (suc k) (omega (arith, lt))))

same_saved : (a b c d : ℕ) (pages other images more : List ℕ) → a ≡ b → c ≡ d → pages ≡ other → images ≡ more → some_saved a c pages images ≡ some_saved b d other more
same_saved a b c d pages other images more ab cd po im =
    ap (λ (x : ℕ). some_saved x c pages images) ab
    ∙ ap (λ (x : ℕ). some_saved b x pages images) cd
    ∙ ap (λ (x : List ℕ). some_saved b d x images) po
    ∙ ap (λ (x : List ℕ). some_saved b d other x) im

-- a list's fields fit their bytes, and it is in the grammar
pub record Fits (upto part : ℕ) (pages : List ℕ) : Type 0 where
  pub upto_fits : upto < 2 ^ 64
  pub part_fits : part < 2 ^ 32
  pub some : 1 ≤ length pages
  pub few : length pages ≤ 16
  pub fits : (k : ℕ) → get_or pages k 0 < 2 ^ 32
  pub distinct : are_distinct pages ≡ true

module _ (base pages_at upto part : ℕ) (pages old : List ℕ) (fit : Fits upto part pages) (within : base + 69632 ≤ length old) where
  abbrev size : ℕ
  size = 4096 * length pages

  abbrev head : List ℕ
  head = spelled upto part pages

  abbrev images : List ℕ
  images = present pages_at pages old

  abbrev region : List ℕ
  region = region_of pages_at upto part pages old

  abbrev piece : List ℕ
  piece = drop 1 region

  abbrev filled_now : List ℕ
  filled_now = filled_region base region old

  closing : Torn base 1 old (shut base old)
  closing = torn_whole base (0 ∷ []) old (omega (arith, within))

  head_size : length head ≡ 4096
  head_size = length-spelled upto part pages fit.upto_fits fit.part_fits fit.some fit.few fit.fits fit.distinct

  images_size : length images ≡ size
  images_size = length-present pages_at pages old

  region_size : length region ≡ 4096 + size
  region_size = omega (arith, length-append head images, head_size, images_size)

  piece_size : length piece ≡ 4095 + size
  piece_size = omega (arith, length-drop 1 region, region_size)

  there : base + 1 ≤ length (shut base old)
  there = omega (arith, within, closing.no_shorter)

  filling : Torn (base + 1) (length piece) (shut base old) filled_now
  filling = torn_whole (base + 1) piece (shut base old) there

  in_region : Torn base 69632 old filled_now
  in_region =
      torn_again base 69632 old (shut base old) filled_now (region_of_gate base old (shut base old) closing)
      (torn_wider (base + 1) (length piece) base 69632 (shut base old) filled_now (omega arith) (omega (arith, piece_size, fit.few)) filling)

  -- what stands in the region is a part of the piece
  part_stands : (at n : ℕ) → at + n ≤ 4095 + size → extent (base + 1 + at) n filled_now ≡ extent at n piece
  part_stands at n le =
      sym (extent-extent at n (base + 1) (length piece) filled_now (omega (arith, piece_size, le)))
      ∙ ap (λ (l : List ℕ). extent at n l) (extent-written (base + 1) piece (shut base old) there)

  head_is : 0 ∷ drop 1 head ≡ head
  unfolding front_bytes
  head_is = refl

  piece_is : piece ≡ drop 1 head ++ images
  unfolding front_bytes
  piece_is = refl

  list_size : length (drop 1 head) ≡ 4095
  list_size = omega (arith, length-drop 1 head, head_size)

  list_stands : extent (base + 1) 4095 filled_now ≡ drop 1 head
  list_stands =
      ap (λ (k : ℕ). extent k 4095 filled_now) (omega arith)
      ∙ part_stands 0 4095 (omega arith)
      ∙ ap (λ (l : List ℕ). take 4095 l) piece_is
      ∙ take_at (drop 1 head) images 4095 list_size

  images_stand : extent (base + 4096) size filled_now ≡ images
  images_stand =
      ap (λ (k : ℕ). extent k size filled_now) (omega arith)
      ∙ part_stands 4095 size (omega arith)
      ∙ ap (λ (l : List ℕ). extent 4095 size l) piece_is
      ∙ ap (λ (l : List ℕ). take size l) (drop_at (drop 1 head) images 4095 list_size)
      ∙ take_all size images (omega (arith, images_size))

  saved_filled : saved_by (0 ∷ extent (base + 1) 4095 filled_now) (extent (base + 4096) 65536 filled_now) ≡ Some (kept pages_at upto part pages old)
  saved_filled =
      let area = extent (base + 4096) 65536 filled_now in
      let count = count-spelled upto part pages fit.upto_fits fit.part_fits fit.some fit.few fit.fits fit.distinct in
      let long : 4096 * count_in head ≤ length area =
      omega (arith, count, fit.few, within, in_region.no_shorter, length-extent (base + 4096) 65536 filled_now (omega (arith, within, in_region.no_shorter))) in
      ap (λ (l : List ℕ). saved_by (0 ∷ l) area) list_stands
      ∙ ap (λ (l : List ℕ). saved_by l area) head_is
      ∙ saved_by-is head area (is_list-spelled upto part pages fit.upto_fits fit.part_fits fit.some fit.few fit.fits fit.distinct) long
      ∙ same_saved (u64_at 16 head) upto (u32_at 24 head) part (pages_in head) pages (take (4096 * count_in head) area) images
      (upto-spelled upto part pages fit.upto_fits fit.part_fits fit.some fit.few fit.fits fit.distinct)
      (part-spelled upto part pages fit.upto_fits fit.part_fits fit.some fit.few fit.fits fit.distinct)
      (ap (λ (n : ℕ). numbers 0 n head) count ∙ numbers-spelled upto part pages fit.upto_fits fit.part_fits fit.some fit.few fit.fits fit.distinct)
      (ap (λ (n : ℕ). take (4096 * n) area) count ∙ take-take size 65536 (drop (base + 4096) filled_now) (omega (arith, fit.few)) ∙ images_stand)

  -- whatever the gate then
  module _ (new : List ℕ) (torn : Torn base 1 filled_now new) where
    as_new : saved_at base new ≡ behind (extent base 1 new) (Some (kept pages_at upto part pages old))
    as_new = saved_at-is base new ∙ ap (behind (extent base 1 new)) (rest_by_gate base filled_now new torn ∙ saved_filled)

    all_in_region : Torn base 69632 old new
    all_in_region = torn_again base 69632 old filled_now new in_region (region_of_gate base filled_now new torn)

  by_opening : (new : List ℕ) → Torn base 1 filled_now new → MaySave base pages_at upto part pages old new
  by_opening new torn = record {
    saved = ⊎_elim (λ none. inr (inl (as_new new torn ∙ none))) (λ it. inr (inr (as_new new torn ∙ it))) (behind_any (extent base 1 new) (Some (kept pages_at upto part pages old)));
    elsewhere = (all_in_region new torn).elsewhere;
    no_shorter = (all_in_region new torn).no_shorter;
  }

  -- what it leaves when it is done
  pub saves : (new : List ℕ) → new ≡ written base (1 ∷ []) filled_now → Saves base pages_at upto part pages old new
  saves new done =
      let fits : base ≤ length filled_now = omega (arith, within, in_region.no_shorter) in
      let torn : Torn base 1 filled_now new = subst (λ (l : List ℕ). Torn base 1 filled_now l) (sym done) (torn_whole base (1 ∷ []) filled_now fits) in
      let gate : extent base 1 new ≡ 1 ∷ [] = ap (λ (l : List ℕ). extent base 1 l) done ∙ extent-written base (1 ∷ []) filled_now fits in record {
        saved = as_new new torn ∙ ap (λ (g : List ℕ). behind g (Some (kept pages_at upto part pages old))) gate;
        elsewhere = (all_in_region new torn).elsewhere;
        no_shorter = (all_in_region new torn).no_shorter;
      }

-- what a stop within the saving leaves, where the gate's byte is there
module _ (base pages_at upto part : ℕ) (pages old : List ℕ) (one : length (extent base 1 old) ≡ 1) where
  gate_there : base ≤ length old
  gate_there = omega (arith, one, length-take 1 (drop base old), length-drop base old)

  shutting : Torn base 1 old (shut base old)
  shutting = torn_whole base (0 ∷ []) old gate_there

  by_filling : (new : List ℕ) → Torn (base + 1) 69631 (shut base old) new → MaySave base pages_at upto part pages old new
  by_filling new torn =
      let all : Torn base 69632 old new = torn_again base 69632 old (shut base old) new (region_of_gate base old (shut base old) shutting) (region_of_rest base (shut base old) new torn) in record {
        saved = inr (inl (saved_closed base new (torn.elsewhere base 1 (inl (omega arith)) ∙ is_shut base old gate_there)));
        elsewhere = all.elsewhere;
        no_shorter = all.no_shorter;
      }

  by_closing : (new : List ℕ) → MayShut base old new → MaySave base pages_at upto part pages old new
  by_closing new may =
      let drops = may_drop base old new one may in record {
        saved = ⊎_elim (λ same. inl same) (λ none. inr (inl none)) drops.saved;
        elsewhere = drops.elsewhere;
        no_shorter = drops.no_shorter;
      }

  pub may_save : (bytes new : List ℕ) → Fits upto part pages → base + 69632 ≤ length bytes → MayFillAndOpen base (region_of pages_at upto part pages bytes) bytes old new
      → MaySave base pages_at upto part pages old new
  may_save bytes new fit within may = ⊎_elim
      (λ first. ⊎_elim (λ shuts. by_closing new shuts) (λ torn. by_filling new torn) first)
      (λ opens. subst (λ (l : List ℕ). MaySave base pages_at upto part pages l new) (sym opens.0) (by_opening base pages_at upto part pages bytes fit within new opens.1)) may

-- putting back

pub restored-put_back : (base pages_at limit upto part : ℕ) (bytes : List ℕ) → restored base pages_at limit upto part bytes ≡ put_back pages_at limit upto part (saved_at base bytes) bytes
unfolding restored
restored-put_back base pages_at limit upto part bytes = refl

module _ (base pages_at limit upto part : ℕ) (bytes : List ℕ) where
  -- what doesn't apply leaves the bytes
  pub restored_not : applies limit upto part (saved_at base bytes) ≡ false → restored base pages_at limit upto part bytes ≡ bytes
  restored_not is = restored-put_back base pages_at limit upto part bytes ∙ by (saved_at base bytes) is
    where
      by : (it : Option Saved) → applies limit upto part it ≡ false → put_back pages_at limit upto part it bytes ≡ bytes
      by None is = refl
      by (Some it) is = ap (λ (b : Bool). if b then laid pages_at it.pages it.images bytes else bytes) is

  -- what applies is laid over the pages
  pub restored_is : (it : Saved) → saved_at base bytes ≡ Some it → applies limit upto part (Some it) ≡ true → restored base pages_at limit upto part bytes ≡ laid pages_at it.pages it.images bytes
  restored_is it keeps is =
      restored-put_back base pages_at limit upto part bytes
      ∙ ap (λ (k : Option Saved). put_back pages_at limit upto part k bytes) keeps
      ∙ ap (λ (b : Bool). if b then laid pages_at it.pages it.images bytes else bytes) is

-- what is kept for a place applies to it
pub applies_own : (limit upto part : ℕ) (pages before : List ℕ) → are_below limit pages ≡ true → applies limit upto part (some_saved upto part pages before) ≡ true
applies_own limit upto part pages before below =
    ap (λ (b : Bool). b && nat_eq part part && are_below limit pages) (eq-eqb upto upto refl)
    ∙ ap (λ (b : Bool). b && are_below limit pages) (eq-eqb part part refl)
    ∙ below

-- a change within pages behind the region changes nothing in it
module _ (base pages_at limit : ℕ) (pages old new : List ℕ) (apart : base + 69632 ≤ pages_at) (within : Within pages_at limit pages old new) where
  pub region_stays : extent base 69632 new ≡ extent base 69632 old
  region_stays = within.elsewhere base 69632 (λ k lt. inl (omega (arith, apart)))

  pub saved_stays : saved_at base new ≡ saved_at base old
  saved_stays = ap saved_in region_stays

  pub images_stay : (n : ℕ) → n ≤ 65536 → extent (base + 4096) n new ≡ extent (base + 4096) n old
  images_stay n le = within.elsewhere (base + 4096) n (λ k lt. inl (omega (arith, apart, le)))

  pub same_length : place_of pages_at limit ≤ length old → length new ≡ length old
  same_length reaches = omega (arith, within.no_shorter, within.no_longer, reaches)

  module _ (below : are_below limit pages ≡ true) where
    pub lie_below : place_of pages_at limit ≤ length old → Lie pages_at pages old
    lie_below reaches k lt = omega (arith, are_below-get limit k pages below lt, reaches)

    pub apart_below : (from len : ℕ) → Apart pages_at (4096 * limit) from len → extent from len new ≡ extent from len old
    apart_below from len out = within.elsewhere from len (λ k lt. ⊎_elim (λ before. inl (omega (arith, before))) (λ after. inr (omega (arith, after, are_below-get limit k pages below lt))) out)

-- what a stop within the putting back leaves
module _ (base pages_at limit upto part : ℕ) (it : Saved) (apart : base + 69632 ≤ pages_at) (below : are_below limit it.pages ≡ true) (long : 4096 * length it.pages ≤ length it.images)
    (is : applies limit upto part (Some it) ≡ true) (old : List ℕ) (reaches : place_of pages_at limit ≤ length old) (keeps : saved_at base old ≡ Some it) where
  pub may_put_back : (new : List ℕ) → Within pages_at limit it.pages old new → MayPutBack base pages_at limit upto part old new
  may_put_back new within = record {
    back = restored_is base pages_at limit upto part new it (saved_stays base pages_at limit it.pages old new apart within ∙ keeps) is
        ∙ laid-same pages_at it.pages it.images new old (same_length base pages_at limit it.pages old new apart within reaches) (lie_below base pages_at limit it.pages old new apart within below reaches)
        long (same_outside pages_at limit it.pages old new within)
        ∙ sym (restored_is base pages_at limit upto part old it keeps is);
    elsewhere = apart_below base pages_at limit it.pages old new apart within below;
    no_shorter = within.no_shorter;
  }

pub put_back_same : (base pages_at limit upto part : ℕ) (bytes : List ℕ) → MayPutBack base pages_at limit upto part bytes bytes
put_back_same base pages_at limit upto part bytes = record { back = refl; elsewhere = λ from len out. refl; no_shorter = omega arith }

-- saved pages come back
module _ (base pages_at limit upto part : ℕ) (pages old mid new : List ℕ) (apart : base + 69632 ≤ pages_at) (below : are_below limit pages ≡ true) (reaches : place_of pages_at limit ≤ length old)
    (saves : Saves base pages_at upto part pages old mid) (within : Within pages_at limit pages mid new) where
  reaches_mid : place_of pages_at limit ≤ length mid
  reaches_mid = omega (arith, reaches, saves.no_shorter)

  stood : present pages_at pages old ≡ present pages_at pages mid
  stood = present-same pages_at pages old mid (λ k lt. sym (saves.elsewhere (place_of pages_at (get_or pages k 0)) 4096 (inr (omega (arith, apart)))))

  is_saved : saved_at base new ≡ Some (kept pages_at upto part pages old)
  is_saved = saved_stays base pages_at limit pages mid new apart within ∙ saves.saved

  pub comes_back : restored base pages_at limit upto part new ≡ mid
  comes_back =
      restored_is base pages_at limit upto part new (kept pages_at upto part pages old) is_saved (applies_own limit upto part pages (present pages_at pages old) below)
      ∙ ap (λ (l : List ℕ). laid pages_at pages l new) stood
      ∙ laid-same pages_at pages (present pages_at pages mid) new mid (same_length base pages_at limit pages mid new apart within reaches_mid)
      (lie_below base pages_at limit pages mid new apart within below reaches_mid)
      (omega (arith, length-present pages_at pages mid))
      (same_outside pages_at limit pages mid new within)
      ∙ laid-present pages_at pages mid (lie_below base pages_at limit pages mid new apart within below reaches_mid)

-- a list has a page, so that a limit above all of its pages isn't 0
pub limit_some : (limit count : ℕ) (head : List ℕ) → 1 ≤ count → are_below limit (numbers 0 count head) ≡ true → 0 < limit
limit_some limit count head some below = omega (arith, are_below-get limit 0 (numbers 0 count head) below (omega (arith, length-numbers 0 count head, some)))

-- a closed region keeps nothing
pub drops : (base : ℕ) (old new : List ℕ) → base ≤ length old → new ≡ shut base old → Drops base old new
drops base old new within is =
    let torn : Torn base 1 old new = subst (λ (l : List ℕ). Torn base 1 old l) (sym is) (torn_whole base (0 ∷ []) old within) in
    let region = region_of_gate base old new torn in record {
      saved = saved_closed base new (ap (λ (l : List ℕ). extent base 1 l) is ∙ is_shut base old within);
      elsewhere = region.elsewhere;
      no_shorter = region.no_shorter;
    }
