-- The bytes of a page, and changes laid into them.
use Rattle.std.proofs.Common.{◌≡◌, ℕ, zero, suc, ◌+◌, ◌<◌, ◌&&◌, ◌==◌, Bool, true, false, List, [], ◌∷◌, ◌++◌, length, map, take, drop, get_or, fold, refl, sym, ap, ◌∙◌, arith, append_assoc}
use Rattle.std.specs.Prelude.{if◌then◌else◌}
use Rattle.std.specs.Int.{w16, w32, w64, to_be_bytes}
use Rattle.std.proofs.Math.Seq.{take-append-add}
use Rattle.std.proofs.lemmas.List.{drop-drop, map_more}
use Rattle.std.proofs.lemmas.List.Sums.{fold-append}
use borrow.Rule.Slice.PartMut.{put_mid}
use Rattle.site_disk.specs.Bytes.{written}
use Rattle.site_disk.specs.BytesLaws.{drop_past}
use Rattle.log_history.specs.Effects.{Change, Page, with_change}
use Rattle.txn_table.specs.declared.changes.Change.{Change as Brought}
use Rattle.txn_table.specs.Table.{change_of, patch_of}
use Rattle.space_pages.specs.Layout.{page_bytes}
use Rattle.space_pages.specs.Pages.{LieWithin, LiesInPage, changed}

-- a copy over a range is a write there
pub put_is : (at n : ℕ) (piece copy bytes : List ℕ) → n ≡ length piece → copy ≡ piece → put_mid at n bytes copy ≡ written at piece bytes
put_is at n piece copy bytes is same =
    ap (λ (k : ℕ). put_mid at k bytes copy) is ∙ ap (put_mid at (length piece) bytes) same
    ∙ ap (λ (l : List ℕ). take at bytes ++ (piece ++ l)) (drop-drop (length piece) at bytes)
    ∙ sym (append_assoc (take at bytes) piece (drop (at + length piece) bytes))

-- the bytes before the payload
front : ℕ → ℕ → ℕ → List ℕ
front stamp space number = to_be_bytes w64 stamp ++ (to_be_bytes w16 space ++ (0 ∷ 0 ∷ to_be_bytes w32 number))

length-front : (stamp space number : ℕ) → length (front stamp space number) ≡ 16
unfolding front
length-front stamp space number = refl

in_two : (space number : ℕ) (page : Page) → page_bytes space number page ≡ front page.stamp space number ++ page.payload
unfolding front page_bytes
in_two space number page = refl

stamped : (space number commit : ℕ) (page : Page) → written 0 (to_be_bytes w64 commit) (page_bytes space number page) ≡ front commit space number ++ page.payload
unfolding front page_bytes
stamped space number commit page = refl

in_payload : (offset : ℕ) (bytes start payload : List ℕ) → length start ≡ 16
    → written (16 + offset) bytes (start ++ payload) ≡ start ++ (take offset payload ++ bytes ++ drop (offset + length bytes) payload)
in_payload offset bytes start payload size =
    let all : List ℕ = start ++ payload in
    let rest : List ℕ = drop (offset + length bytes) payload in
    let before : take (16 + offset) all ≡ start ++ take offset payload = ap (λ (k : ℕ). take (k + offset) all) (sym size) ∙ take-append-add start payload offset in
    let end : 16 + offset + length bytes ≡ 16 + (offset + length bytes) = omega arith in
    let behind : drop (16 + offset + length bytes) all ≡ rest = ap (λ (k : ℕ). drop k all) end ∙ drop_past 16 (offset + length bytes) start payload size in
    ap (λ (l : List ℕ). l ++ bytes ++ drop (16 + offset + length bytes) all) before
    ∙ ap (λ (l : List ℕ). (start ++ take offset payload) ++ bytes ++ l) behind
    ∙ ap (λ (l : List ℕ). l ++ rest) (append_assoc start (take offset payload) bytes)
    ∙ append_assoc start (take offset payload ++ bytes) rest

-- a stamp and bytes in the payload make the page with a change
pub lays : (space number : ℕ) (was : Page) (change : Change) (from : ℕ) (old mid new : List ℕ) → old ≡ page_bytes space number was → from ≡ 16 + change.patch.offset
    → mid ≡ written 0 (to_be_bytes w64 change.commit) old → new ≡ written from change.patch.bytes mid → new ≡ page_bytes space number (changed change was)
lays space number was change from old mid new is at first second =
    second
    ∙ ap (λ (k : ℕ). written k change.patch.bytes mid) at
    ∙ ap (written (16 + change.patch.offset) change.patch.bytes)
    (first ∙ ap (written 0 (to_be_bytes w64 change.commit)) is ∙ stamped space number change.commit was)
    ∙ in_payload change.patch.offset change.patch.bytes (front change.commit space number) was.payload (length-front change.commit space number)
    ∙ sym (in_two space number (changed change was))

-- a change that is of the page, and one that isn't
pub lays_own : (space number : ℕ) (was : Page) (change : Change) (test : Bool) → test ≡ ((change.patch.space == space) && (change.patch.page == number)) → test ≡ true
    → with_change space number was change ≡ changed change was
lays_own space number was change test is own = ap (λ (b : Bool). if b then changed change was else was) (sym is ∙ own)

pub passes : (space number : ℕ) (was : Page) (change : Change) (test : Bool) → test ≡ ((change.patch.space == space) && (change.patch.page == number)) → test ≡ false
    → with_change space number was change ≡ was
passes space number was change test is other = ap (λ (b : Bool). if b then changed change was else was) (sym is ∙ other)

-- the change at a place lies in its page
pub patch_at : (changes : List Brought) (i : ℕ) (change : Brought) → i < length changes → change ≡ get_or changes i change → LieWithin (map change_of changes) → LiesInPage (patch_of change)
patch_at [] i change below read all = absurd (omega arith)
patch_at (first ∷ changes) zero change below read all = rw read all.0
patch_at (first ∷ changes) (suc i) change below read all = patch_at changes i change (omega arith) read all.1

-- one change more
pub folds_more : (space number : ℕ) (changes : List Brought) (i : ℕ) (change : Brought) (was : Page) → i < length changes → change ≡ get_or changes i change
    → with_change space number (fold (with_change space number) was (map change_of (take i changes))) (change_of change) ≡ fold (with_change space number) was (map change_of (take (i + 1) changes))
folds_more space number changes i change was below read =
    sym (ap (fold (with_change space number) was)
    (map_more change_of changes i change below ∙ ap (λ (c : Brought). map change_of (take i changes) ++ change_of c ∷ []) (sym read))
    ∙ fold-append (with_change space number) was (map change_of (take i changes)) (change_of change ∷ []))
