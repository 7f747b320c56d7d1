-- What a recording's calls stand for up to a moment.
use Rattle.std.proofs.Common.{◌≡◌, ◌<◌, ◌≤◌, ◌+◌, ◌-◌, ◌++◌, ◌∷◌, [], ℕ, zero, suc, Bool, cond, List, min, length, take, drop, map, reverse, get_or, refl, ap, sym, subst, ◌∙◌, arith}
use Rattle.std.proofs.lemmas.List.{map-append, reverse-append, length-reverse, length-map, length-drop, drop_at, drop_min, take-append-drop, take_more}
use Rattle.std.proofs.lemmas.List.Sums.{sum_by-cons, sum_by-append}
use Rattle.std.specs.Prelude.{count_by, nat_eq, nat_lt, true}
use Rattle.site_disk.specs.declared.memory.recording.Call.{Call}
use Rattle.site_disk.specs.declared.memory.recording.Call.TheVariants.{Write, Sync}
use Rattle.site_disk.specs.Past.{Event, era_of, contents, Pending, is_in_order, IsInOrder, NoGap, TornBy, calls_later, calls_in, past_at}
use Rattle.site_disk.specs.PastLaws.{newest_no_gap, order_drop, contents-cons, pending_torn}
use Rattle.site_disk.specs.Recorded.{event_of, past_of, call_era, calls_up_to, call_end, end_of}
use Rattle.site_disk.proofs.RecordedLemmas.{past_of-push}

-- the last calls left out
pub past_of-take : (pieces : List ℕ) (calls : List Call) (k : ℕ) → past_of pieces (take (length calls - k) calls) ≡ drop k (past_of pieces calls)
past_of-take pieces calls k =
    let n = length calls - k in
    let later = reverse (map (event_of pieces) (drop n calls)) in
    let earlier = past_of pieces (take n calls) in
    let split : past_of pieces calls ≡ later ++ earlier
    = ap (λ (l : List Call). past_of pieces l) (sym (take-append-drop n calls))
    ∙ ap (λ (l : List Event). reverse l) (map-append (event_of pieces) (take n calls) (drop n calls))
    ∙ reverse-append (map (event_of pieces) (take n calls)) (map (event_of pieces) (drop n calls)) in
    let later_length : length later ≡ length calls - n
    = length-reverse (map (event_of pieces) (drop n calls)) ∙ length-map (drop n calls) (event_of pieces) ∙ length-drop n calls in
    let all_length : length (past_of pieces calls) ≡ length calls
    = length-reverse (map (event_of pieces) calls) ∙ length-map calls (event_of pieces) in
    let here : length later ≡ min k (length (past_of pieces calls)) = omega arith in
    sym (sym (drop_min k (past_of pieces calls)) ∙ ap (λ (l : List Event). drop (min k (length (past_of pieces calls))) l) split
    ∙ drop_at later earlier (min k (length (past_of pieces calls))) here)

-- how many calls pass a test, told by their events
count-past_of : (p : Event → Bool) (q : Call → Bool) (pieces : List ℕ) (calls : List Call) → ((call : Call) → p (event_of pieces call) ≡ q call)
    → count_by p (past_of pieces calls) ≡ count_by q calls
count-past_of p q pieces [] same = refl
count-past_of p q pieces (call ∷ calls) same =
    let rest : count_by p (past_of pieces calls) ≡ count_by q calls = count-past_of p q pieces calls same in
    let split : past_of pieces (call ∷ calls) ≡ past_of pieces calls ++ event_of pieces call ∷ []
    = reverse-append (event_of pieces call ∷ []) (map (event_of pieces) calls) in
    let counted = ap (λ (l : List Event). count_by p l) split
    ∙ sum_by-append (λ (e : Event). cond {A = ℕ} (p e) 1 0) (past_of pieces calls) (event_of pieces call ∷ []) in
    let one = sum_by-cons (λ (e : Event). cond {A = ℕ} (p e) 1 0) (event_of pieces call) [] in
    let more = sum_by-cons (λ (c : Call). cond {A = ℕ} (q c) 1 0) call calls in
    let here : cond {A = ℕ} (p (event_of pieces call)) 1 0 ≡ cond {A = ℕ} (q call) 1 0 = ap (λ (b : Bool). cond {A = ℕ} b 1 0) (same call) in
    omega (arith, rest, counted, one, more, here)

era_of-event_of : (pieces : List ℕ) (call : Call) → era_of (event_of pieces call) ≡ call_era call
era_of-event_of pieces (Write era at from len) = refl
era_of-event_of pieces (Sync era) = refl

-- what was asked up to a moment
pub past_of-at : (f n count : ℕ) (pieces : List ℕ) (calls : List Call)
    → count ≡ calls_up_to f n calls
    → past_of pieces (take count calls) ≡ past_at f n (past_of pieces calls)
past_of-at f n count pieces calls is =
    let later : calls_later f (past_of pieces calls) ≡ count_by (λ call. nat_lt f (call_era call)) calls
    = count-past_of (λ (e : Event). nat_lt f (era_of e)) (λ (c : Call). nat_lt f (call_era c)) pieces calls
    (λ call. ap (λ (e : ℕ). nat_lt f e) (era_of-event_of pieces call)) in
    let same : calls_in f (past_of pieces calls) ≡ count_by (λ call. nat_eq (call_era call) f) calls
    = count-past_of (λ (e : Event). nat_eq (era_of e) f) (λ (c : Call). nat_eq (call_era c) f) pieces calls
    (λ call. ap (λ (e : ℕ). nat_eq e f) (era_of-event_of pieces call)) in
    let left = calls_later f (past_of pieces calls) + (calls_in f (past_of pieces calls) - n) in
    let here : count ≡ length calls - left = is ∙ ap (λ (k : ℕ). length calls - k)
    (ap (λ (k : ℕ). k + (count_by (λ call. nat_eq (call_era call) f) calls - n)) (sym later) ∙ ap (λ (k : ℕ). calls_later f (past_of pieces calls) + (k - n)) (sym same)) in
    ap (λ (k : ℕ). past_of pieces (take k calls)) here ∙ past_of-take pieces calls left

-- no write has its bytes past those that are there
pub call_end-le : (calls : List Call) (i n : ℕ) (d : Call) → i < length calls → end_of calls ≤ n → call_end (get_or calls i d) ≤ n
call_end-le (call ∷ calls) zero n d lt le = omega arith
call_end-le (call ∷ calls) (suc i) n d lt le = call_end-le calls i n d (omega arith) (omega arith)
call_end-le [] i n d lt le = absurd (omega arith)

pub end_of-take : (calls : List Call) (k : ℕ) → end_of (take k calls) ≤ end_of calls
end_of-take calls zero = omega arith
end_of-take [] (suc k) = omega arith
end_of-take (call ∷ calls) (suc k) = omega (arith, end_of-take calls k)

-- one call more
pub past_of-take_more : (pieces : List ℕ) (calls : List Call) (i : ℕ) (d : Call) → i < length calls
    → past_of pieces (take (i + 1) calls) ≡ event_of pieces (get_or calls i d) ∷ past_of pieces (take i calls)
past_of-take_more pieces calls i d lt = ap (λ (l : List Call). past_of pieces l) (take_more calls i d lt) ∙ past_of-push pieces (take i calls) (get_or calls i d)

-- what a call may rely on where those before it were done again
pub no_gap_next : (start pieces whole : List ℕ) (calls : List Call) (i : ℕ) (d : Call) → whole ≡ contents start (past_of pieces (take i calls))
    → IsInOrder start (past_of pieces calls) → i < length calls → NoGap whole (event_of pieces (get_or calls i d))
no_gap_next start pieces whole calls i d whole_is order lt =
    let left = length calls - (i + 1) in
    let some = order_drop order.0 start (past_of pieces calls) left order.1 in
    let back : length calls - left ≡ i + 1 = omega arith in
    let same : drop left (past_of pieces calls) ≡ event_of pieces (get_or calls i d) ∷ past_of pieces (take i calls)
    = sym (past_of-take pieces calls left) ∙ ap (λ (n : ℕ). past_of pieces (take n calls)) back ∙ past_of-take_more pieces calls i d lt in
    subst (λ (bytes : List ℕ). NoGap bytes (event_of pieces (get_or calls i d))) (sym whole_is) (newest_no_gap some.0 start (event_of pieces (get_or calls i d)) (past_of pieces (take i calls))
    (subst (λ (p : List Event). is_in_order some.0 start p ≡ true) same some.1))

-- the bytes after one call more
module _ (start pieces whole whole' torn torn' : List ℕ) (calls : List Call) (i : ℕ) (d : Call) (lt : i < length calls)
    (whole_is : whole ≡ contents start (past_of pieces (take i calls))) (torn_is : Pending start (past_of pieces (take i calls)) torn)
    (whole_done : whole' ≡ contents whole (event_of pieces (get_or calls i d) ∷ [])) (torn_done : TornBy (event_of pieces (get_or calls i d)) whole torn torn') where
  pub whole_more : whole' ≡ contents start (past_of pieces (take (i + 1) calls))
  whole_more = whole_done ∙ ap (λ (w : List ℕ). contents w (event_of pieces (get_or calls i d) ∷ [])) whole_is
      ∙ sym (contents-cons start (event_of pieces (get_or calls i d)) (past_of pieces (take i calls)))
      ∙ ap (contents start) (sym (past_of-take_more pieces calls i d lt))

  pub torn_more : Pending start (past_of pieces (take (i + 1) calls)) torn'
  torn_more = subst (λ (p : List Event). Pending start p torn') (sym (past_of-take_more pieces calls i d lt))
      (pending_torn start torn torn' (event_of pieces (get_or calls i d)) (past_of pieces (take i calls)) torn_is
      (subst (λ (w : List ℕ). TornBy (event_of pieces (get_or calls i d)) w torn torn') whole_is torn_done))

-- the calls up to a moment, where slices stand for what a recording keeps
module _ (f n count : ℕ) (start start' pieces pieces' : List ℕ) (calls calls' : List Call) (start_is : start' ≡ start) (pieces_are : pieces' ≡ pieces) (calls_are : calls' ≡ calls)
    (count_is : count ≡ calls_up_to f n calls) where
  past_is : past_of pieces' (take count calls') ≡ past_at f n (past_of pieces calls)
  past_is = ap (λ (l : List ℕ). past_of l (take count calls')) pieces_are ∙ ap (λ (l : List Call). past_of pieces (take count l)) calls_are
      ∙ past_of-at f n count pieces calls count_is

  pub moment_there : end_of calls ≤ length pieces → end_of (take count calls') ≤ length pieces'
  moment_there le = omega (arith, end_of-take calls' count, ap end_of calls_are, ap length pieces_are)

  pub moment_in_order : IsInOrder start (past_of pieces calls) → IsInOrder start' (past_of pieces' (take count calls'))
  moment_in_order order =
      subst (λ (p : List Event). IsInOrder start' p) (sym past_is)
      (subst (λ (s : List ℕ). IsInOrder s (past_at f n (past_of pieces calls))) (sym start_is)
      (order_drop order.0 start (past_of pieces calls) (calls_later f (past_of pieces calls) + (calls_in f (past_of pieces calls) - n)) order.1))

  pub moment_pending : (bytes : List ℕ) → Pending start' (past_of pieces' (take count calls')) bytes → Pending start (past_at f n (past_of pieces calls)) bytes
  moment_pending bytes pending =
      subst (λ (s : List ℕ). Pending s (past_at f n (past_of pieces calls)) bytes) start_is
      (subst (λ (p : List Event). Pending start' p bytes) past_is pending)
