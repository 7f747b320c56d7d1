use Rattle.std.proofs.Common.{inr, refl}
use Rattle.std.proofs.lemmas.Result.{err_from_is_err_and}
use Rattle.site_headers.specs.Views.{head_of}
use Rattle.site_opening.proofs.parts.open_parts.Goals as goal

pub returns-in_err-open_each_volume : goal.returns-in_err-open_each_volume
returns-in_err-open_each_volume g c =
    let p = err_from_is_err_and c.from_residual-in_err-open_each_volume.result c.from_residual-in_err-open_each_volume.ensures.1 in
    rw (p.1, p.2) (inr (inr (record {
      value = refl;
      head = head_of c.in_ok-head.head;
      cat = c.open_catalogue.new.cat;
      catalogue = c.in_ok-head.ensures;
      boot = c.in_ok-open_boot.ensures;
      volumes = c.in_err-open_each_volume.ensures;
    })))
