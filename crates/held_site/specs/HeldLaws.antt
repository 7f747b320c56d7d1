-- What the held files of a fit site's log tell with no restore under way.
use Rattle.std.specs.Prelude.{◌≡◌, ℕ, zero, suc, ◌+◌, ◌-◌, ◌<◌, ◌≤◌, ◌==◌, ◌&&◌, List, [], ◌∷◌, ◌++◌, length, take, drop, reverse, filter, slice_get, Bool, true, false, nat_lt, if◌then◌else◌, Option, Some, None, refl}
use Rattle.std.specs.List.{AllByRecursion}
use Rattle.std.proofs.Common.{arith, sym, ap, subst, ◌∙◌, length-take}
use Rattle.std.proofs.lemmas.Bool.Decides.{nat_tests}
use Rattle.std.proofs.lemmas.List.{length-reverse, reverse-append, take-append-drop, take_all}
use Rattle.log_history.specs.History.{Patch, LogEntry, History, begin, write, commit, abort, reset}
use Rattle.log_history.specs.Live.{reset_points}
use Rattle.log_history.specs.Effects.{Change}
use Rattle.log_history.specs.Transactions.{InOrder, low, low_of, table_of}
use Rattle.history_laws.specs.LiveLaws.{live_within}
use Rattle.lane_ways.specs.Ways.{IsPlace, changes_behind, lane_changes}
use Rattle.lane_ways.specs.ListLaws.{all_behind, all_means}
use Rattle.lane_steps.specs.Choices.{own}
use Rattle.onbar_grammar.specs.Script.{Space}
use Rattle.backup_lines.specs.Spans.{Active}
use Rattle.log_files.specs.Files.{LogFiles, end_of, part_of}
use Rattle.site_worlds.specs.Worlds.{LaneState, Ring, Site, stands}
use Rattle.site_worlds.specs.Files.{first_of_file}
use Rattle.site_worlds.specs.Lanes.{EachLane, FitLane, IsAtRest, pages_of_option, pages_of_space}
use Rattle.site_worlds.specs.Fitness.{AreAtRest, FitRing, FitStep, IsFitSite, IsWithin}
use Rattle.world_laws.specs.LinesLaws.{first_some}
use Rattle.ring_laws.specs.Rings.{files_of}
use Rattle.ring_laws.specs.FitLaws.{end_of-files_of}
use Rattle.held_laws.specs.Reading.{changes_read, resets_read, table_read}
use Rattle.held_laws.specs.TableLaws.{low_bound}
use Rattle.held_laws.specs.HeldLaws.{held_table, held_way}
use Rattle.held_log.specs.Logs.{changes_held, table_held}
use Rattle.held_log.specs.ChangesLaws.{WritesHave, changes_have}
use Rattle.held_site.specs.Pages.{IsOfPage}
use Rattle.held_site.specs.PartLaws.{all_records, held_is, length-before}
use Rattle.held_site.specs.StrayLaws.{ring_of}

-- at rest: all that is needed of the log is held
at_rest : (site : Site) (ring : Ring) → site.ring ≡ Some ring → site.active ≡ None → IsFitSite site → AreAtRest site.history site.starts ring site.lanes
at_rest site ring is none fit =
    let step : FitStep site.history site.starts (Some ring) None site.lanes =
    subst (λ (a : Option Active). FitStep site.history site.starts (Some ring) a site.lanes) none
    (subst (λ (r : Option Ring). FitStep site.history site.starts r site.active site.lanes) is fit.lanes.step) in
    step

-- by the parts of a history

table_at : (older held history : History) (before : ℕ) → older ++ held ≡ history → length older ≡ before → InOrder history → before < low history
    → table_read before held ≡ table_of history
table_at older held history before all count order lt =
    let here : length older < low (older ++ held) = subst (λ (n : ℕ). n < low (older ++ held)) (sym count) (subst (λ (h : History). before < low h) (sym all) lt) in
    ap (λ (n : ℕ). table_read n held) (sym count) ∙ held_table older held (subst InOrder (sym all) order) here ∙ ap table_of all

way_at : (older front rest held history : History) (before upto n space : ℕ) → front ++ rest ≡ held → older ++ held ≡ history → length older ≡ before
    → length (older ++ front) ≡ upto → InOrder history → before < low (older ++ front)
    → changes_behind upto (filter (λ change. change.patch.space == space) (changes_read (resets_read before held) n before held))
    ≡ changes_behind upto (lane_changes history n space)
way_at older front rest held history before upto n space parts all count place order lt =
    let whole : older ++ (front ++ rest) ≡ history = ap (λ (l : History). older ++ l) parts ∙ all in
    ap (λ (k : ℕ). changes_behind k (filter (λ change. change.patch.space == space) (changes_read (resets_read before held) n before held))) (sym place)
    ∙ ap (λ (l : History). changes_behind (length (older ++ front)) (filter (λ change. change.patch.space == space) (changes_read (resets_read before l) n before l))) (sym parts)
    ∙ ap (λ (k : ℕ). changes_behind (length (older ++ front)) (filter (λ change. change.patch.space == space) (changes_read (resets_read k (front ++ rest)) n k (front ++ rest)))) (sym count)
    ∙ held_way older front rest n space (subst InOrder (sym whole) order) (subst (λ (k : ℕ). k < low (older ++ front)) (sym count) lt)
    ∙ ap (λ (h : History). changes_behind (length (older ++ front)) (lane_changes h n space)) whole
    ∙ ap (λ (k : ℕ). changes_behind k (lane_changes history n space)) place

pub site_table : (site : Site) (ring : Ring) → site.ring ≡ Some ring → site.active ≡ None → IsFitSite site
    → table_held (files_of site.starts site.history ring) ≡ table_of site.history
site_table site ring is none fit =
    let holds : FitRing site.history site.starts site.lines ring = ring_of site ring is fit in
    let before : ℕ = first_of_file site.starts site.history ring.oldest - 1 in
    let rest = at_rest site ring is none fit in
    table_at (take before site.history) (part_of (files_of site.starts site.history ring)) site.history before
    (all_records site.head.spaces site.history site.starts fit.history ring holds.oldest holds.held)
    (length-before site.head.spaces site.history site.starts fit.history ring holds.oldest holds.held)
    fit.history.order
    (omega (arith, rest.low, first_some site.head.spaces site.history site.starts fit.history ring.oldest holds.oldest))

-- a lane by its number

lane_there : (P : ℕ → LaneState → Type 0) (from k : ℕ) (lanes : List LaneState) (lane : LaneState) → EachLane P from lanes → slice_get lanes k ≡ Some lane → P (from + k) lane
lane_there P from k [] lane each is = absurd cc
lane_there P from zero (first ∷ lanes) lane each is =
    let same : first ≡ lane = cc is in
    subst (λ (n : ℕ). P n lane) (let e : from ≡ from + 0 = omega arith in e) (subst (P from) same each.0)
lane_there P from (suc k) (first ∷ lanes) lane each is =
    subst (λ (n : ℕ). P n lane) (let e : suc from + k ≡ from + suc k = omega arith in e) (lane_there P (suc from) k lanes lane each.1 is)

lane_all : (P : LaneState → Type 0) (k : ℕ) (lanes : List LaneState) (lane : LaneState) → AllByRecursion P lanes → slice_get lanes k ≡ Some lane → P lane
lane_all P k [] lane all is = absurd cc
lane_all P zero (first ∷ lanes) lane all is = let same : first ≡ lane = cc is in subst P same all.0
lane_all P (suc k) (first ∷ lanes) lane all is = lane_all P k lanes lane all.1 is

pub site_place : (site : Site) (ring : Ring) (space upto part : ℕ) → site.ring ≡ Some ring → site.active ≡ None → IsFitSite site
    → slice_get site.lanes space ≡ Some (stands upto part) → IsPlace site.history (length site.history) space upto part
site_place site ring space upto part is none fit lane =
    let there : FitLane site.head.spaces site.history site.lines site.active (0 + space) (stands upto part) =
    lane_there (FitLane site.head.spaces site.history site.lines site.active) 0 space site.lanes (stands upto part) fit.lanes.each lane in
    subst (λ (n : ℕ). IsPlace site.history (length site.history) n upto part) (let e : 0 + space ≡ space = omega arith in e) there

pub site_within : (site : Site) (ring : Ring) (space upto part : ℕ) → site.ring ≡ Some ring → site.active ≡ None → IsFitSite site
    → slice_get site.lanes space ≡ Some (stands upto part) → upto ≤ length site.history
site_within site ring space upto part is none fit lane =
    live_within (reset_points site.history) (length site.history) upto (site_place site ring space upto part is none fit lane).is_live

-- the records up to a position and those behind it, of those behind another position
front_is : {X : Type 0} (before upto : ℕ) (xs : List X) → before ≤ upto → take before xs ++ take (upto - before) (drop before xs) ≡ take upto xs
front_is zero upto xs le = ap (λ (n : ℕ). take n xs) (let e : upto - 0 ≡ upto = omega arith in e)
front_is (suc before) zero xs le = absurd (omega (arith, le))
front_is (suc before) (suc upto) [] le = take_all (suc upto - suc before) [] (omega arith)
front_is (suc before) (suc upto) (x ∷ xs) le =
    ap (λ (n : ℕ). x ∷ (take before xs ++ take n (drop before xs))) (let e : suc upto - suc before ≡ upto - before = omega arith in e)
    ∙ ap (λ l. x ∷ l) (front_is before upto xs (omega (arith, le)))

pub site_changes : (site : Site) (ring : Ring) (space upto part : ℕ) → site.ring ≡ Some ring → site.active ≡ None → IsFitSite site
    → slice_get site.lanes space ≡ Some (stands upto part)
    → changes_behind upto (filter (λ change. change.patch.space == space) (changes_held (files_of site.starts site.history ring)))
    ≡ changes_behind upto (lane_changes site.history (length site.history) space)
site_changes site ring space upto part is none fit lane =
    let holds : FitRing site.history site.starts site.lines ring = ring_of site ring is fit in
    let before : ℕ = first_of_file site.starts site.history ring.oldest - 1 in
    let history : History = site.history in
    let held : History = part_of (files_of site.starts history ring) in
    let count : length (take before history) ≡ before = length-before site.head.spaces history site.starts fit.history ring holds.oldest holds.held in
    let rest : IsAtRest history (first_of_file site.starts history ring.oldest) (stands upto part) =
    lane_all (IsAtRest history (first_of_file site.starts history ring.oldest)) space site.lanes (stands upto part) (at_rest site ring is none fit).each lane in
    let within : upto ≤ length history = site_within site ring space upto part is none fit lane in
    let some : 1 ≤ first_of_file site.starts history ring.oldest = first_some site.head.spaces history site.starts fit.history ring.oldest holds.oldest in
    let reached : length (take upto history) ≡ upto = omega (arith, length-take upto history, within) in
    let low_le : low_of (table_of (take upto history)) (length (take upto history)) ≤ suc (length (take upto history)) =
    subst (λ (n : ℕ). low_of (table_of (take upto history)) n ≤ suc n) (length-reverse (take upto history)) (low_bound (reverse (take upto history))) in
    let le : before ≤ upto = omega (arith, some, rest, low_le, reached) in
    let front : take before history ++ take (upto - before) (drop before history) ≡ take upto history = front_is before upto history le in
    ap (λ (n : ℕ). changes_behind upto (filter (λ change. change.patch.space == space) (changes_read (resets_read before held) n before held)))
    (end_of-files_of site.head.spaces history site.starts fit.history ring holds.oldest holds.held)
    ∙ way_at (take before history) (take (upto - before) (drop before history)) (drop (upto - before) (drop before history)) held history before upto (length history) space
    (take-append-drop (upto - before) (drop before history) ∙ sym (held_is site.head.spaces history site.starts fit.history ring holds.oldest holds.held))
    (all_records site.head.spaces history site.starts fit.history ring holds.oldest holds.held)
    count (ap (λ (l : History). length l) front ∙ reached) fit.history.order
    (subst (λ (h : History). before < low h) (sym front) (omega (arith, some, rest)))

-- pages

abbrev IsPatchOf : List Space → Patch → Type 0
IsPatchOf spaces patch = (space : Space) × (slice_get spaces patch.space ≡ Some space) × (patch.page < space.pages)

writes_there : (spaces : List Space) (entry : LogEntry) → IsWithin spaces entry → WritesHave (IsPatchOf spaces) entry
writes_there spaces (begin txn) is = tt
writes_there spaces (write txn patch) is = is
writes_there spaces (commit txn time) is = tt
writes_there spaces (abort txn) is = tt
writes_there spaces (reset restore target time) is = tt

all_reverse : (P : LogEntry → Type 0) (xs : List LogEntry) → AllByRecursion P xs → AllByRecursion P (reverse xs)
all_reverse P [] all = tt
all_reverse P (x ∷ xs) all = subst (AllByRecursion P) (sym (reverse-append (x ∷ []) xs)) (push (reverse xs) (all_reverse P xs all.1))
  where
    push : (ys : List LogEntry) → AllByRecursion P ys → AllByRecursion P (ys ++ x ∷ [])
    push [] rest = (all.0, tt)
    push (y ∷ ys) rest = (rest.0, push ys rest.1)

pub site_pages : (site : Site) (ring : Ring) → site.ring ≡ Some ring → IsFitSite site
    → AllByRecursion (IsOfPage site.head.spaces) (changes_held (files_of site.starts site.history ring))
site_pages site ring is fit =
    let holds : FitRing site.history site.starts site.lines ring = ring_of site ring is fit in
    let before : ℕ = first_of_file site.starts site.history ring.oldest - 1 in
    let files : LogFiles = files_of site.starts site.history ring in
    let held : AllByRecursion (IsWithin site.head.spaces) (part_of files) =
    all_behind (IsWithin site.head.spaces) (take before site.history) (part_of files)
    (subst (AllByRecursion (IsWithin site.head.spaces)) (sym (all_records site.head.spaces site.history site.starts fit.history ring holds.oldest holds.held)) fit.history.within) in
    changes_have (IsPatchOf site.head.spaces) (resets_read before (part_of files)) (end_of files) before (reverse (part_of files))
    (all_means (IsWithin site.head.spaces) (WritesHave (IsPatchOf site.head.spaces)) (reverse (part_of files)) (writes_there site.head.spaces)
    (all_reverse (IsWithin site.head.spaces) (part_of files) held))

own_all : (spaces : List Space) (space : ℕ) (list : List Change) → AllByRecursion (IsOfPage spaces) list
    → own space (pages_of_space spaces space) list ≡ filter (λ change. change.patch.space == space) list
own_all spaces space [] all = refl
own_all spaces space (change ∷ list) all =
    by (change.patch.space == space) refl (own_all spaces space list all.1)
  where
    below : change.patch.space ≡ space → nat_lt change.patch.page (pages_of_space spaces space) ≡ true
    below same =
        let pages : pages_of_space spaces space ≡ all.0.0.pages = ap (λ (n : ℕ). pages_of_space spaces n) (sym same) ∙ ap pages_of_option all.0.1 in
        let lt : change.patch.page < all.0.0.pages = all.0.2 in
        grind (arith, nat_tests, pages, lt)

    by : (b : Bool) → (change.patch.space == space) ≡ b
        → own space (pages_of_space spaces space) list ≡ filter (λ change. change.patch.space == space) list
        → (if b && nat_lt change.patch.page (pages_of_space spaces space) then change ∷ own space (pages_of_space spaces space) list else own space (pages_of_space spaces space) list)
        ≡ (if b then change ∷ filter (λ change. change.patch.space == space) list else filter (λ change. change.patch.space == space) list)
    by true is ih =
        ap (λ (b : Bool). if b then change ∷ own space (pages_of_space spaces space) list else own space (pages_of_space spaces space) list)
        (below (grind (arith, nat_tests, is)))
        ∙ ap (λ (l : List Change). change ∷ l) ih
    by false is ih = ih

pub site_own : (site : Site) (ring : Ring) (space : ℕ) → site.ring ≡ Some ring → IsFitSite site
    → own space (pages_of_space site.head.spaces space) (changes_held (files_of site.starts site.history ring))
    ≡ filter (λ change. change.patch.space == space) (changes_held (files_of site.starts site.history ring))
site_own site ring space is fit = own_all site.head.spaces space (changes_held (files_of site.starts site.history ring)) (site_pages site ring is fit)

pub site_lacks : (site : Site) (ring : Ring) (space upto part : ℕ) → site.ring ≡ Some ring → site.active ≡ None → IsFitSite site
    → slice_get site.lanes space ≡ Some (stands upto part)
    → changes_behind upto (own space (pages_of_space site.head.spaces space) (changes_held (files_of site.starts site.history ring)))
    ≡ changes_behind upto (lane_changes site.history (length site.history) space)
site_lacks site ring space upto part is none fit lane =
    ap (changes_behind upto) (site_own site ring space is fit) ∙ site_changes site ring space upto part is none fit lane
