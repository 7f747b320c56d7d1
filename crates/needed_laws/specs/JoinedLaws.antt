-- The archives of a planned chain, merged, and the needed files of the log give the page at the position.
use Rattle.std.specs.Prelude.{◌≡◌, ℕ, ◌<◌, ◌≤◌, List, [], ◌∷◌, length, fold, true, Option, None, Some, Contains}
use Rattle.std.proofs.Common.{arith, refl, ap, ◌∙◌}
use Rattle.log_history.specs.Live.{live, reset_points}
use Rattle.log_history.specs.Effects.{Page, empty_page, page_at, with_change}
use Rattle.backup_lines.specs.Lines.{Archive, archived, live_archives}
use Rattle.backup_lines.specs.Chains.{last_link, and_on, top_of}
use Rattle.site_worlds.specs.Worlds.{Site}
use Rattle.site_worlds.specs.Files.{low_at}
use Rattle.site_worlds.specs.Fitness.{FitLine, IsFitSite}
use Rattle.world_laws.specs.ListLaws.{all_of}
use Rattle.restore_laws.specs.Merged.{merged, top_at}
use Rattle.restore_laws.specs.PlannedLaws.{IsLiveLink, last_link_is, planned_chain_merged}
use Rattle.site_courses.specs.Plans.{chain_at}
use Rattle.needed_laws.specs.Needed.{changes_read, is_read}
use Rattle.needed_laws.specs.SufficesLaws.{needed_suffices}

module _ (site : Site) (fit : IsFitSite site) (to space : ℕ) where
  -- the last archive of a chain
  record IsTop (chain : List Archive) (top : Archive) : Type 0 where
    last : top_of chain ≡ Some top
    at : top_at 0 chain ≡ top.at
    line : Contains site.lines (archived top)
    is_live : live site.history to top.at ≡ true

  abbrev link_on : ℕ → ℕ → Option Archive
  link_on level base = last_link (reset_points site.history) space level base to (live_archives site.lines)

  link_is : (level base : ℕ) (archive : Archive) → link_on level base ≡ Some archive → IsLiveLink site.lines (reset_points site.history) space level base to archive
  link_is level base archive is = last_link_is site.lines (reset_points site.history) space level base to archive is

  top_of_third : (zero one : Archive) → Contains site.lines (archived one) → live site.history to one.at ≡ true → (o : Option Archive) → link_on 2 one.copy ≡ o
      → (top : Archive) × IsTop (zero ∷ one ∷ and_on o (λ two. [])) top
  top_of_third zero one line is_live None is = (one, record { last = refl; at = refl; line = line; is_live = is_live })
  top_of_third zero one line is_live (Some two) is =
      let link = link_is 2 one.copy two is in (two, record { last = refl; at = refl; line = link.link.line; is_live = link.is_live })

  top_of_second : (zero : Archive) → Contains site.lines (archived zero) → live site.history to zero.at ≡ true → (o : Option Archive) → link_on 1 zero.copy ≡ o
      → (top : Archive) × IsTop (zero ∷ and_on o (λ one. and_on (link_on 2 one.copy) (λ two. []))) top
  top_of_second zero line is_live None is = (zero, record { last = refl; at = refl; line = line; is_live = is_live })
  top_of_second zero line is_live (Some one) is =
      let link = link_is 1 zero.copy one is in top_of_third zero one link.link.line link.is_live (link_on 2 one.copy) refl

  chain_top : 1 ≤ length (chain_at site space to) → (top : Archive) × IsTop (chain_at site space to) top
  chain_top some = by (link_on 0 0) refl some
    where
      by : (o : Option Archive) → link_on 0 0 ≡ o
          → 1 ≤ length (and_on o (λ zero. and_on (link_on 1 zero.copy) (λ one. and_on (link_on 2 one.copy) (λ two. []))))
          → (top : Archive) × IsTop (and_on o (λ zero. and_on (link_on 1 zero.copy) (λ one. and_on (link_on 2 one.copy) (λ two. [])))) top
      by None is none = absurd (omega (arith, none))
      by (Some zero) is more = let link = link_is 0 0 zero is in top_of_second zero link.link.line link.is_live (link_on 1 zero.copy) refl

  -- From an empty page the archives of the chain, merged, and what is read of the log give the page.
  pub joined : to ≤ length site.history → space < length site.head.spaces → 1 ≤ length (chain_at site space to) → (number : ℕ)
      → fold (with_change space number) (fold (merged site.history number) empty_page (chain_at site space to))
      (changes_read (is_read site to) site.history to (top_at 0 (chain_at site space to)))
      ≡ page_at site.history to space number
  joined reached in_site some number =
      let found : (top : Archive) × IsTop (chain_at site space to) top = chain_top some in
      let low_is : found.0.low ≡ low_at site.history found.0.at =
      (all_of (FitLine site.head site.history site.starts site.store site.lines) site.lines (archived found.0) fit.lines.each found.1.line).low in
      ap (λ (page : Page). fold (with_change space number) page (changes_read (is_read site to) site.history to (top_at 0 (chain_at site space to))))
      (planned_chain_merged site fit space to number)
      ∙ ap (λ (n : ℕ). fold (with_change space number) (page_at site.history n space number) (changes_read (is_read site to) site.history to n)) found.1.at
      ∙ needed_suffices site fit to reached space in_site found.0 found.1.last low_is found.1.is_live number
