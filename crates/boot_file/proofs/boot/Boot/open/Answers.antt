use Rattle.std.proofs.Common.{◌≡◌, ℕ, List, length, refl, ap, sym, subst, ◌∙◌}
use Rattle.backup_lines.specs.Lines.{Line}
use Rattle.boot_lines.specs.LineLayout.{lines_of}
use Rattle.boot_lines.specs.MarkLayout.{active_in}
use Rattle.boot_file.specs.Places.{HoldsBoot}
use Rattle.boot_file.specs.PlacesLaws.{one_boot}
use Rattle.boot_file.proofs.boot.Boot.open.Goals as goal

pub returns-clause-stands : goal.returns-clause-stands
returns-clause-stands g c tells =
    let found = c.in_ok-found.ensures in
    let state = c.in_ok-found.found.state in
    record {
      made = record { mark = found.base; area = found.area };
      tells = record { each = found.each; is_mark = found.is_mark; lines_are = refl; number_is = refl; active_is = refl; used = found.used };
      knows = found.knows tells;
      synced = found.synced tells;
      now = subst (HoldsBoot c.args.site (lines_of c.in_ok-found.found.lines.items) state.last_number (active_in state.restore)) (sym found.bytes) (found.held tells);
    }

pub returns-clause-held : goal.returns-clause-held
returns-clause-held g c tells lines number active holds =
    let found = c.in_ok-found.ensures in
    let state = c.in_ok-found.found.state in
    let same = one_boot c.args.site (lines_of c.in_ok-found.found.lines.items) lines state.last_number number (active_in state.restore) active (g.D.Disk.bytes c.args.self.now.disk) (found.held tells) holds in
    record {
      each = holds.slots.each;
      is_mark = holds.mark.is_mark;
      lines_are = same.lines_are;
      number_is = same.number_is;
      active_is = same.active_is;
      used = found.used ∙ ap (λ (l : List Line). length l) same.lines_are;
    }
