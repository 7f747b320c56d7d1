use Rattle.std.proofs.Common.{◌≡◌, ℕ, List, ◌++◌, length, drop, replicate, refl}
use Rattle.std.proofs.lemmas.List.{drop-replicate}
use Rattle.byte_fields.specs.Fields.{padded}
use Rattle.log_record.proofs.text.Text64.padded.Goals as goal

laid_in : (now text new : List ℕ) → now ≡ text → new ≡ now → new ++ drop (length now) (replicate 64 0) ≡ padded 64 text
laid_in now text new same copied = rw (copied, same, drop-replicate) refl

pub returns : goal.returns
returns c = laid_in _ _ _ c.as_bytes-bytes.ensures.value c.copy_from_slice.ensures.after
