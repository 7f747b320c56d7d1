-- The records of the files held are the part of the history that they hold.
use Rattle.std.specs.Prelude.{◌≡◌, List, [], ◌∷◌, ◌++◌, refl}
use Rattle.std.proofs.Common.{sym, ap, ◌∙◌, append_assoc}
use Rattle.std.proofs.lemmas.List.{append-nil}
use Rattle.log_history.specs.History.{History}
use Rattle.log_files.specs.Files.{LogFiles, filled, joined, part_of}
use Rattle.held_log.specs.Strays.{held_files}

joined-filled : (xs : List History) (current : History) → joined (xs ++ filled current) ≡ joined xs ++ current
joined-filled [] [] = refl
joined-filled [] (entry ∷ entries) = append-nil (entry ∷ entries)
joined-filled (x ∷ xs) current = ap (λ (l : History). x ++ l) (joined-filled xs current) ∙ sym (append_assoc x (joined xs) current)

pub all_held : (files : LogFiles) → joined (held_files files) ≡ part_of files
all_held files = joined-filled files.past files.current
