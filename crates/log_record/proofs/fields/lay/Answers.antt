use Rattle.std.proofs.Common.{◌∙◌}
use Rattle.log_record.proofs.LayoutLemmas.{put_laid}
use Rattle.log_record.specs.Entry.{fields_in}
use Rattle.log_record.proofs.fields.lay.Goals as goal

pub returns : goal.returns
returns c =
    put_laid (fields_in c.args.fields.now) _ _ _ (c.copy_from_slice.ensures.after ∙ c.front_of.ensures) c.copy_from_slice-2.ensures.after c.copy_from_slice-2.ensures.len
    (c.copy_from_slice-3.ensures.after ∙ c.to_be_bytes.ensures)
