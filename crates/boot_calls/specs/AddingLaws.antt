-- How lines added to the boot file come to be a move of the site.
use Rattle.std.specs.Prelude.{◌≡◌, ◌⊎◌, ℕ, ◌<◌, ◌≤◌, List, [], ◌∷◌, ◌++◌, true, false, Option, None, Some}
use mathlib.Core.Logic.{inl, inr}
use Rattle.std.proofs.Common.{arith, refl, sym, subst, ⊎_elim}
use Rattle.std.proofs.lemmas.Bool.{false≢true, true≢false}
use Rattle.site_disk.specs.declared.disk.Disk.{Ghosts}
use Rattle.site_disk.specs.Images.{Leaves, OnlyAfter}
use Rattle.site_disk.specs.Seen.{seen}
use Rattle.walks.specs.Courses.{Does, IsOnWay, make}
use Rattle.walks.specs.MovingLaws.{one_goes, one_comes}
use Rattle.backup_lines.specs.Lines.{Line}
use Rattle.backup_lines.specs.Spans.{Active}
use Rattle.boot_file.specs.Boots.{disk_of as boot_disk, Stands as BootStands}
use Rattle.boot_file.specs.Places.{HoldsBoot, MayBecome}
use Rattle.boot_file.specs.declared.boot.Boot.{Boot as BootValue}
use Rattle.site_model.specs.declared.disk_name.DiskName.{DiskName}
use Rattle.site_model.specs.declared.disk_name.DiskName.TheVariants.{Cat, Spare, Boot, Log, Volume, Chunk}
use Rattle.site_worlds.specs.Worlds.{Site}
use Rattle.site_worlds.specs.Allowed.{CanMove}
use Rattle.site_worlds.specs.Moves.{Move, append_lines, site_after, site_rules, stops_at_begin, the_boot_file}
use Rattle.site_courses.specs.Faults.{Fault, cuts}
use Rattle.site_layouts.specs.BootLaws.{MayAppend}
use Rattle.site_layouts.specs.Disks.{is_of}
use Rattle.site_layouts.specs.Layouts.{ShowsSite}
use Rattle.site_layouts.specs.Stages.{Agree, HeldSite, ShowsHeld, StandsFor, behind, site_stage}
use Rattle.site_layouts.specs.WayLaws.{PassedAll, Way, way_moves, way_moved, way_stands}
use Rattle.site_core.specs.declared.site.Site.{Site as Values}
use Rattle.site_core.specs.Calls.{CallFrom}
use Rattle.site_core.specs.Layers.{layers}
use Rattle.site_core.specs.LayerLaws.{lanes_later, log_later, store_later}

only_boot : (name : DiskName) → is_of the_boot_file name ≡ true → name ≡ Boot
only_boot Cat is = absurd (false≢true is)
only_boot Spare is = absurd (false≢true is)
only_boot Boot is = refl
only_boot Log is = absurd (false≢true is)
only_boot (Volume n) is = absurd (false≢true is)
only_boot (Chunk n) is = absurd (false≢true is)

module _ {D : Type 0} (disk : Ghosts D) (old : Values D) (boot : BootValue D) (from to : ℕ) (le : from ≤ to) (more : List Line)
    (leaves : (site number : ℕ) (lines : List Line) (active : Option Active) → BootStands site lines number active (seen disk (boot_disk old.boot)) old.boot
    → Leaves from (MayBecome (HoldsBoot site lines number active) (HoldsBoot site (lines ++ more) number active)) (disk.image (boot_disk old.boot)) (disk.image (boot_disk boot))) where
  abbrev new : Values D
  new = record old { boot = boot }

  abbrev moves : List Move
  moves = append_lines more ∷ []

  others_same : (f : ℕ) (name : DiskName) (bytes : List ℕ) → is_of the_boot_file name ≡ false → (layers disk).images new f name bytes → (layers disk).images old f name bytes
  others_same f Cat bytes rests image = image
  others_same f Spare bytes rests image = image
  others_same f Boot bytes rests image = absurd (true≢false rests)
  others_same f Log bytes rests image = image
  others_same f (Volume n) bytes rests image = image
  others_same f (Chunk n) bytes rests image = image

  module _ (opened : ℕ) (at : HeldSite) (enough : 1 ≤ opened) (stands : StandsFor (layers disk) opened from old at) (can : CanMove (append_lines more) at.site) where
    abbrev Step : List ℕ → List ℕ → Type 0
    Step = MayAppend at.site more

    reached : (bytes : List ℕ) → ShowsHeld Boot at bytes ⊎ ShowsHeld Boot (behind (append_lines more) at) bytes
        → (other : Site) × IsOnWay site_rules moves at.site other × ShowsSite Boot other at.held bytes
    unfolding site_rules
    reached bytes (inl still) = (at.site, inl (stops_at_begin (append_lines more) at.site), still)
    reached bytes (inr moved) = (site_after (append_lines more) at.site, inr refl, moved)

    way : Way (layers disk) moves the_boot_file Boot opened from old new at Step
    unfolding site_rules
    way = record {
      can = (can, tt);
      are = (refl, tt);
      stands = stands;
      is_opened = enough;
      is_who = only_boot;
      others = others_same;
      leaves = leaves at.site.head.site at.site.number at.site.lines at.site.active (stands.agree.boot enough).stands;
      steps = λ before bytes shows may. reached bytes (may shows);
      awaits = λ f name bytes ge rests image. (tt, tt);
    }

    abbrev Passed : HeldSite → Type 0
    Passed = PassedAll (layers disk) moves at

    -- cut short
    cut : (fault : Fault) → cuts fault ≡ true → Does (site_stage (layers disk)) opened from to old new at (make moves) (Some fault)
    unfolding site_stage
    cut fault cuts_it = record {
      no_earlier = le;
      goes = one_goes ShowsHeld Boot (is_of the_boot_file) from ((layers disk).images old) ((layers disk).images new) at Passed
          (way_moves (layers disk) moves the_boot_file Boot opened from old new at Step way);
      ended = inl cuts_it;
    }

    module _ (lt : (disk.ledger (boot_disk boot)).last < to) (last_era : ℕ) (before : last_era < to) (only : OnlyAfter last_era (disk.bytes (boot_disk boot)) (disk.image (boot_disk boot)))
        (gained : BootStands at.site.head.site (at.site.lines ++ more) at.site.number at.site.active (seen disk (boot_disk boot)) boot) where
      abbrev next : HeldSite
      next = behind (append_lines more) at

      shows_then : (f : ℕ) (bytes : List ℕ) → to ≤ f → disk.image (boot_disk boot) f bytes → ShowsHeld Boot next bytes
      shows_then f bytes ge image = subst (ShowsHeld Boot next) (sym (only f bytes (omega (arith, before, ge)) image)) gained.now

      agree : Agree (layers disk) opened to new next
      agree = record {
        store = store_later disk from to le old at.site.head at.site.store at.held stands.agree.store;
        boot = λ some. record { last = lt; stands = gained };
        log = λ two. log_later disk from to le old at.site.head at.site.starts at.site.history at.site.ring (stands.agree.log two);
        lanes = λ all. lanes_later disk from to le old at.site.head at.site.history at.site.lines at.site.number at.site.active at.site.lanes (stands.agree.lanes all);
      }

      -- or ended
      done : Does (site_stage (layers disk)) opened from to old new at (make moves) None
      unfolding site_stage site_rules
      done =
          let comes = one_comes ShowsHeld Boot (is_of the_boot_file) from to ((layers disk).images old) ((layers disk).images new) at Passed next
          (way_moved (layers disk) moves the_boot_file Boot opened from old new at Step way to le shows_then) in
          record {
            no_earlier = le;
            goes = comes.goes;
            ended = inr (record {
              fault_is = refl;
              next = next;
              next_is = refl;
              ends = comes.ends;
              stands = way_stands (layers disk) moves the_boot_file Boot opened from old new at Step way to le shows_then agree;
            });
          }

  -- The clause of a call that adds lines: cut short,
  pub lines_fail : (fault : Fault) → cuts fault ≡ true
      → CallFrom (site_stage (layers disk)) (CanMove (append_lines more)) 1 from to old new (λ site. make (append_lines more ∷ [])) (Some fault)
  unfolding site_stage
  lines_fail fault cuts_it opened at enough stands can = cut opened at enough stands can fault cuts_it

  -- or ended.
  pub lines_done : (last_era : ℕ) → last_era < to → (disk.ledger (boot_disk boot)).last ≤ last_era
      → OnlyAfter last_era (disk.bytes (boot_disk boot)) (disk.image (boot_disk boot))
      → ((site number : ℕ) (lines : List Line) (active : Option Active) → BootStands site lines number active (seen disk (boot_disk old.boot)) old.boot
      → BootStands site (lines ++ more) number active (seen disk (boot_disk boot)) boot)
      → CallFrom (site_stage (layers disk)) (CanMove (append_lines more)) 1 from to old new (λ site. make (append_lines more ∷ [])) None
  unfolding site_stage
  lines_done last_era before last only gained opened at enough stands can =
      done opened at enough stands can (omega (arith, last, before)) last_era before only
      (gained at.site.head.site at.site.number at.site.lines at.site.active (stands.agree.boot enough).stands)
