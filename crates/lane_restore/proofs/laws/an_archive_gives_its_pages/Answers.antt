use Rattle.std.specs.Prelude.{if◌then◌else◌, nat_lt}
use Rattle.std.proofs.Common.{◌≡◌, ℕ, ◌+◌, get_or, arith, subst}
use Rattle.level_archive.specs.Image.{entries_from}
use Rattle.lane_restore.specs.Merging.{with_entries}
use Rattle.lane_restore.proofs.LawLemmas.{entries_merged}
use Rattle.lane_restore.proofs.laws.an_archive_gives_its_pages.Goals as goal

pub returns : goal.returns
returns c base number pages page default lt =
    subst (λ (n : ℕ). with_entries n (entries_from base 0 pages) page ≡ (if nat_lt base (get_or pages number default).stamp then get_or pages number default else page))
    (let e : 0 + number ≡ number = omega arith in e) (entries_merged base 0 number pages page default lt)
