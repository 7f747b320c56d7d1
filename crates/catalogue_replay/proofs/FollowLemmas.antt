-- The slots that were read, one after another.
use Rattle.std.proofs.Common.{◌≡◌, ℕ, ◌+◌, ◌-◌, ◌*◌, ◌/◌, ◌<◌, List, [], ◌∷◌, ◌++◌, length, take, drop, Option, Some, None, refl, sym, ap, ◌∙◌, arith}
use Rattle.std.specs.List.{AllByRecursion, flat_map}
use Rattle.std.proofs.lemmas.List.{length-append, flat_map_more}
use Rattle.std.proofs.Math.Seq.{take-add}
use Rattle.site_disk.specs.Bytes.{extent}
use Rattle.site_disk.specs.BytesLaws.{extent-extent}
use Rattle.catalogue_slots.specs.Records.{Record, IsRecord}
use Rattle.catalogue_slots.specs.Layout.{spelling}
use Rattle.catalogue_replay.specs.Journal.{State, fresh, next, taken, after, follow, Reads}

pub follow-push : (used : ℕ) (state : State) (entries : List Record) (entry : Record)
    → follow used state (entries ++ entry ∷ []) ≡ next (follow used state entries) (λ s. after used s entry)
follow-push used state [] entry = last (after used state entry)
  where
    last : (o : Option State) → next o (λ s. Some s) ≡ o
    last None = refl
    last (Some s) = refl
follow-push used state (e ∷ es) entry = through (after used state e) (λ (s : State). follow-push used s es entry)
  where
    through : (o : Option State) → ((s : State) → follow used s (es ++ entry ∷ []) ≡ next (follow used s es) (λ s. after used s entry))
        → next o (λ s. follow used s (es ++ entry ∷ [])) ≡ next (next o (λ s. follow used s es)) (λ s. after used s entry)
    through None step = refl
    through (Some s) step = step s

-- records behind others
pub follow-append : (used : ℕ) (s t : State) (xs ys : List Record) → follow used s xs ≡ Some t → follow used s (xs ++ ys) ≡ follow used t ys
follow-append used s t [] ys e = ap (λ (o : Option State). next o (λ u. follow used u ys)) e
follow-append used s t (x ∷ xs) ys e = through (after used s x) e (λ (u : State) (h : follow used u xs ≡ Some t). follow-append used u t xs ys h)
  where
    through : (o : Option State) → next o (λ u. follow used u xs) ≡ Some t → ((u : State) → follow used u xs ≡ Some t → follow used u (xs ++ ys) ≡ follow used t ys)
        → next o (λ u. follow used u (xs ++ ys)) ≡ follow used t ys
    through None e step = absurd_of e
      where
        absurd_of : None ≡ Some t → next None (λ u. follow used u (xs ++ ys)) ≡ follow used t ys
        absurd_of h = cc
    through (Some u) e step = step u e

each-push : (entries : List Record) (entry : Record) → AllByRecursion IsRecord entries → IsRecord entry → AllByRecursion IsRecord (entries ++ entry ∷ [])
each-push [] entry each is = (is, tt)
each-push (e ∷ es) entry each is = (each.0, each-push es entry each.1 is)

-- one slot more is read
pub Reads-push : (used : ℕ) (bytes : List ℕ) (state mid : State) (entry : Record) → Reads used bytes state → IsRecord entry
    → extent (4096 * state.read) 4096 bytes ≡ spelling entry → taken used state entry ≡ Some mid → mid.read ≡ state.read
    → Reads used bytes (record mid { read = mid.read + 1 })
Reads-push used bytes state mid entry reads is spelled said same =
    let place : 4096 * (mid.read + 1) ≡ 4096 * state.read + 4096 = omega (arith, same) in record {
      records = reads.records ++ entry ∷ [];
      each = each-push reads.records entry reads.each is;
      count = omega (arith, length-append reads.records (entry ∷ []), reads.count, same);
      spelled =
          ap (λ (n : ℕ). take n bytes) place ∙ take-add (4096 * state.read) 4096 bytes
          ∙ ap (λ (l : List ℕ). l ++ extent (4096 * state.read) 4096 bytes) reads.spelled
          ∙ ap (λ (l : List ℕ). flat_map spelling reads.records ++ l) spelled
          ∙ flat_map_more spelling [] reads.records entry;
      read =
          follow-push used fresh reads.records entry
          ∙ ap (λ (o : Option State). next o (λ s. after used s entry)) reads.read
          ∙ ap (λ (o : Option State). next o (λ (s : State). Some (record s { read = s.read + 1 }))) said;
    }

-- a slot of a run of slots
pub slot_in : (bytes run : List ℕ) (r i : ℕ) → extent (4096 * r) (length run) bytes ≡ run → i < length run / 4096
    → take (4096 * i + 4096 - 4096 * i) (drop (4096 * i) run) ≡ extent (4096 * (r + i)) 4096 bytes
slot_in bytes run r i stands lt =
    let count : 4096 * i + 4096 - 4096 * i ≡ 4096 = omega arith in
    let place : 4096 * r + 4096 * i ≡ 4096 * (r + i) = omega arith in
    ap (λ (n : ℕ). take n (drop (4096 * i) run)) count
    ∙ ap (extent (4096 * i) 4096) (sym stands)
    ∙ extent-extent (4096 * i) 4096 (4096 * r) (length run) bytes (omega arith)
    ∙ ap (λ (n : ℕ). extent n 4096 bytes) place
