-- Bytes moved from the front of one list to the front of another.
use Rattle.std.proofs.Common.{◌≡◌, ◌++◌, ℕ, List, length, take, drop, min, arith, ap, sym, ◌∙◌}
use Rattle.std.proofs.lemmas.List.{take-append-drop, take_at, drop_at, nil_from_length, length-take-le}
use Rattle.site_disk.specs.Streams.{Takes}

pub moves_front : (from into moved : List ℕ) (n : ℕ) → n ≡ min (length from) (length into) → moved ≡ take n from
    → Takes from (drop n from) into (moved ++ drop n into) n
moves_front from into moved n is copied = record {
  moved = sym (take-append-drop n from) ∙ ap (λ (l : List ℕ). l ++ drop n from) (sym copied ∙ sym (take_at moved (drop n into) n length_moved));
  buffer = drop_at moved (drop n into) n length_moved;
  at_end = λ none room. nil_from_length from (omega arith);
}
  where
    length_moved : length moved ≡ n
    length_moved = ap length copied ∙ length-take-le n from (omega arith)
