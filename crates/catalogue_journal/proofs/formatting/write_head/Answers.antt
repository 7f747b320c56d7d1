use Rattle.std.proofs.Common.{◌∷◌, ◌∙◌, ap, ℕ, List, drop}
use Rattle.site_disk.specs.Bytes.{written}
use Rattle.site_disk.specs.CallsLaws.{on_ok}
use Rattle.site_headers.specs.Headers.{catalogue_tail}
use Rattle.site_headers.specs.Views.{head_of}
use Rattle.catalogue_journal.proofs.FormatLemmas.{publishing_stops}
use Rattle.catalogue_journal.proofs.formatting.write_head.Goals as goal

pub returns-clause-written : goal.returns-clause-written
returns-clause-written g c tells =
    on_ok c.header_open.result
    (λ wrote. wrote ∙ ap (λ (l : List ℕ). written 0 (1 ∷ l) (g.D.Disk.bytes c.args.disk.now)) (ap (drop 1) c.write_catalogue_header.ensures))
    (c.header_open.ensures.written tells)

pub returns-clause-crash : goal.returns-clause-crash
returns-clause-crash g c tells stands =
    publishing_stops c.args.era.now.number (g.D.Disk.image c.args.disk.now) (catalogue_tail (head_of c.args.head.now)) c.write_catalogue_header.new.page
    (g.D.Disk.image c.header_open.new.disk) (ap (drop 1) c.write_catalogue_header.ensures) (c.header_open.ensures.crash tells stands)
