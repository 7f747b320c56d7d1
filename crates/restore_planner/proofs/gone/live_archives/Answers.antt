use Rattle.std.proofs.Common.{◌≡◌, ◌∙◌, ℕ, ◌+◌, ◌<◌, List, not, None, ap, get_or, length, map, refl, sym, take}
use Rattle.backup_lines.specs.Lines.{Line, archive_in}
use Rattle.backup_lines.specs.Views.{archive_of, line_of}
use Rattle.backup_lines.specs.declared.lines.Archive.{Archive as RustArchive}
use Rattle.backup_lines.specs.declared.lines.Line.{Line as RustLine}
use Rattle.backup_lines.specs.declared.lines.Line.TheVariants.{Archive as ArchiveLine, Log as LogLine, Gone as GoneLine}
use Rattle.restore_planner.proofs.FileLemmas.{lines_more}
use Rattle.restore_planner.proofs.PlanLemmas.{archives_among, archives_dead, archives_kept, archives_other, archives_pushed}
use Rattle.restore_planner.proofs.gone.live_archives.Goals as goal
use Rattle.restore_planner.proofs.gone.live_archives.Goals.{in-Archive+then-not-contains+in_ok-push, in-Archive+else-not-contains, in_default}

no_archive : (line : RustLine) → ((archive : RustArchive) → line ≡ ArchiveLine archive → ⊥) → archive_in (line_of line) ≡ None
no_archive (ArchiveLine archive) differs = absurd (differs archive refl)
no_archive (LogLine span) differs = refl
no_archive (GoneLine copy) differs = refl

-- a line that isn't of an archive
archives_at_other : (all : List Line) (lines : List RustLine) (i : ℕ) (d : RustLine) (archives : List RustArchive) → i < length lines
    → map archive_of archives ≡ archives_among all (map line_of (take i lines)) → ((archive : RustArchive) → get_or lines i d ≡ ArchiveLine archive → ⊥)
    → map archive_of archives ≡ archives_among all (map line_of (take (i + 1) lines))
archives_at_other all lines i d archives lt has differs =
    archives_kept all (map line_of (take i lines)) archives (line_of (get_or lines i d)) has (archives_other all (line_of (get_or lines i d)) (no_archive (get_or lines i d) differs))
    ∙ ap (archives_among all) (sym (lines_more lines i d (get_or lines i d) lt refl))

pub loop-line-preserved : goal.loop-line-preserved
loop-line-preserved c =
    let lines = c.args.lines.now in
    let all : List Line = map line_of lines in
    let front : List Line = map line_of (take c.loop-line.line-index lines) in
    elim c.match-line.branch [
      | in-Archive+then-not-contains+in_ok-push w ↦
          ap (λ archives. map archive_of archives) (ap (λ archives. archives.items) w.archives-is ∙ w.in_ok-push.ensures.items)
          ∙ archives_pushed all front c.loop-line.archives.items w.in-Archive.archive c.loop-line.invariant
          (ap not (sym (w.contains.ensures ∙ c.requires.gone w.in-Archive.archive.copy) ∙ w.if-not-contains.true))
          ∙ ap (archives_among all) (sym (lines_more lines c.loop-line.line-index _ (ArchiveLine w.in-Archive.archive) c.loop-line-test.true w.in-Archive.is))
      | in-Archive+else-not-contains w ↦
          ap (λ archives. map archive_of archives.items) w.archives-is
          ∙ archives_kept all front c.loop-line.archives.items (line_of (ArchiveLine w.in-Archive.archive)) c.loop-line.invariant
          (archives_dead all (archive_of w.in-Archive.archive)
          (ap not (sym (w.contains.ensures ∙ c.requires.gone w.in-Archive.archive.copy) ∙ w.if-not-contains.false)))
          ∙ ap (archives_among all) (sym (lines_more lines c.loop-line.line-index _ (ArchiveLine w.in-Archive.archive) c.loop-line-test.true w.in-Archive.is))
      | in_default w ↦
          ap (λ archives. map archive_of archives.items) w.archives-is
          ∙ archives_at_other all lines c.loop-line.line-index _ c.loop-line.archives.items c.loop-line-test.true c.loop-line.invariant w.in_default.not-Archive
    ]
