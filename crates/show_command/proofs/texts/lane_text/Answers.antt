use Rattle.std.proofs.Common.{◌≡◌, ℕ, Some, sym, subst}
use Rattle.std.specs.Prelude.{slice_get, string_bytes, IfOk, Option}
use Rattle.log_history.specs.Effects.{Page}
use Rattle.page_texts.specs.Texts.{page_text}
use Rattle.lane_texts.specs.Listings.{HoldsPages}
use Rattle.space_lane.specs.Lanes.{disk_of, space_of}
use Rattle.show_command.specs.Showing.{listed}
use Rattle.show_command.proofs.ReadLemmas.{ok_each}
use Rattle.show_command.proofs.texts.lane_text.Goals as goal

pub returns-in-Some-clause-text : goal.returns-in-Some-clause-text
returns-in-Some-clause-text g c tells list holds =
    let lane = c.args.lane.now in
    let number = c.in-Some.number in
    subst (λ (p : Option ℕ). IfOk c.page_text.result (λ text. listed (space_of lane) c.args.name.now p list (string_bytes text))) (sym c.in-Some.is)
    (ok_each (λ (page : Page). slice_get list number ≡ Some page) (λ page text. string_bytes text ≡ page_text c.args.name.now number page) c.page_text.result
    (λ page there. c.page_text.ensures.text tells list page
    (subst (λ (n : ℕ). HoldsPages (space_of lane) n list (g.D.Disk.bytes (disk_of lane))) c.requires.count holds) there))
