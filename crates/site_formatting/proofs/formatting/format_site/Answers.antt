use Rattle.std.proofs.Common.{refl, sym, subst, arith}
use Rattle.site_headers.specs.Views.{head_of}
use Rattle.catalogue_journal.specs.Catalogues.{cat_of}
use Rattle.walks.specs.Follows.{Ends, Goes}
use Rattle.site_worlds.specs.Worlds.{new_site}
use Rattle.site_layouts.specs.Layouts.{Shows, ShowsSite}
use Rattle.site_core.specs.declared.site.Site.{Site}
use Rattle.site_core.specs.Disks.{MayUseAll, contents_of, images_of}
use Rattle.site_formatting.specs.Worlds.{IsBehind, formatted_at}
use Rattle.site_formatting.specs.Disks.{with_cat}
use Rattle.site_formatting.proofs.DiskLemmas.{none_earlier, may_then, spends_both}
use Rattle.site_formatting.proofs.WorldLemmas.{goes_first, goes_both, ends_then, contents_then}
use Rattle.site_formatting.proofs.formatting.format_site.Goals as goal

pub returns-in_err-format_disks-clause-goes : goal.returns-in_err-format_disks-clause-goes
returns-in_err-format_disks-clause-goes g c tells at un =
    goes_first g.D.Disk (head_of c.args.head.now) c.requires.head c.args.era.now.number c.args.site.now at un c.format_disks.new.site (c.format_disks.ensures.crash tells)
    (none_earlier g.D.Disk c.args.era.now (head_of c.args.head.now) c.args.site.now c.format_disks.new.site tells c.format_disks.ensures.touched)

pub returns-in_err-publish-clause-goes : goal.returns-in_err-publish-clause-goes
returns-in_err-publish-clause-goes g c tells at un =
    let ready = c.in_ok-format_disks.ensures.prepared tells in
    subst (λ (s : Site g.row.D.Denot). Goes Shows c.args.era.now.number (images_of g.D.Disk c.args.site.now) (images_of g.D.Disk s) at (IsBehind (head_of c.args.head.now) at)) (sym c.publish.ensures.value)
    (goes_both g.D.Disk (head_of c.args.head.now) c.requires.head c.args.era.now.number c.args.site.now at un c.format_disks.new.site (c.format_disks.ensures.crash tells)
    (none_earlier g.D.Disk c.args.era.now (head_of c.args.head.now) c.args.site.now c.format_disks.new.site tells c.format_disks.ensures.touched)
    c.args.era.now refl c.format_disks.ensures.made ready c.next.new.self.number c.next.ensures.number (cat_of c.publish.new.site.store.cat) (c.publish.ensures.crash tells ready.closed))

pub returns-in_err-publish-clause-may : goal.returns-in_err-publish-clause-may
returns-in_err-publish-clause-may g c =
    let head = head_of c.args.head.now in
    let mid = c.format_disks.new.site in
    let cat = cat_of c.publish.new.site.store.cat in
    subst (MayUseAll g.D.Disk c.next.new.self) (sym c.publish.ensures.value)
    (may_then g.D.Disk c.args.era.now c.next.new.self head c.args.site.now (with_cat mid cat)
    (spends_both g.D.Disk c.args.era.now c.next.new.self c.next.new.self head c.args.site.now mid cat c.requires.era c.format_disks.ensures.touched
    (omega (arith, c.next.ensures.number)) c.next.ensures.key (omega arith) refl c.publish.ensures.ledger))

pub returns-clause-goes : goal.returns-clause-goes
returns-clause-goes g c tells at un =
    let ready = c.in_ok-format_disks.ensures.prepared tells in
    subst (λ (s : Site g.row.D.Denot). Goes Shows c.args.era.now.number (images_of g.D.Disk c.args.site.now) (images_of g.D.Disk s) at (IsBehind (head_of c.args.head.now) at)) (sym c.publish.ensures.value)
    (goes_both g.D.Disk (head_of c.args.head.now) c.requires.head c.args.era.now.number c.args.site.now at un c.format_disks.new.site (c.format_disks.ensures.crash tells)
    (none_earlier g.D.Disk c.args.era.now (head_of c.args.head.now) c.args.site.now c.format_disks.new.site tells c.format_disks.ensures.touched)
    c.args.era.now refl c.format_disks.ensures.made ready c.next.new.self.number c.next.ensures.number (cat_of c.publish.new.site.store.cat) (c.publish.ensures.crash tells ready.closed))

pub returns-clause-ends : goal.returns-clause-ends
returns-clause-ends g c tells at un =
    let ready = c.in_ok-format_disks.ensures.prepared tells in
    subst (λ (s : Site g.row.D.Denot). Ends Shows c.next-2.new.self.number (images_of g.D.Disk c.args.site.now) (images_of g.D.Disk s) at (formatted_at (head_of c.args.head.now) at)) (sym c.publish.ensures.value)
    (ends_then g.D.Disk (head_of c.args.head.now) c.requires.head c.args.era.now.number c.args.site.now at un c.format_disks.new.site (c.format_disks.ensures.crash tells)
    (none_earlier g.D.Disk c.args.era.now (head_of c.args.head.now) c.args.site.now c.format_disks.new.site tells c.format_disks.ensures.touched)
    c.args.era.now refl c.format_disks.ensures.made ready c.next.new.self.number c.next.ensures.number (cat_of c.publish.new.site.store.cat) (c.publish.ensures.crash tells ready.closed)
    c.next-2.new.self.number (omega (arith, c.next-2.ensures.number)) (c.in_ok-publish.ensures.durable tells) (c.in_ok-publish.ensures.written tells))

pub returns-clause-shows : goal.returns-clause-shows
returns-clause-shows g c tells held name area =
    let ready = c.in_ok-format_disks.ensures.prepared tells in
    subst (λ (s : Site g.row.D.Denot). ShowsSite name (new_site (head_of c.args.head.now)) held (contents_of g.D.Disk s name)) (sym c.publish.ensures.value)
    (contents_then g.D.Disk (head_of c.args.head.now) c.requires.head c.args.era.now c.format_disks.new.site c.format_disks.ensures.made ready (cat_of c.publish.new.site.store.cat) held area
    (c.in_ok-publish.ensures.written tells) name)

pub returns-clause-may : goal.returns-clause-may
returns-clause-may g c =
    let head = head_of c.args.head.now in
    let mid = c.format_disks.new.site in
    let cat = cat_of c.publish.new.site.store.cat in
    subst (MayUseAll g.D.Disk c.next-2.new.self) (sym c.publish.ensures.value)
    (may_then g.D.Disk c.args.era.now c.next-2.new.self head c.args.site.now (with_cat mid cat)
    (spends_both g.D.Disk c.args.era.now c.next.new.self c.next-2.new.self head c.args.site.now mid cat c.requires.era c.format_disks.ensures.touched
    (omega (arith, c.next.ensures.number)) c.next.ensures.key (omega (arith, c.next-2.ensures.number)) c.next-2.ensures.key c.publish.ensures.ledger))
