-- What the images of a site's disks show while it is formatted.
use Rattle.std.proofs.Common.{◌≡◌, ◌⊎◌, ◌+◌, ◌*◌, ◌<◌, ◌≤◌, ◌∙◌, ℕ, List, [], ◌∷◌, length, take, Some, inl, inr, refl, sym, ap, subst, arith}
use Rattle.std.specs.Prelude.{Option, None, slice_get, IfSome}
use Rattle.std.specs.Option.{option_map}
use Rattle.std.proofs.lemmas.Bool.{cases_lt, cases_order}
use Rattle.std.proofs.lemmas.Option.{slice_get-map, slice_get_within}
use Rattle.site_disk.specs.Bytes.{written}
use Rattle.site_disk.specs.Images.{Leaves, OnlyAfter}
use Rattle.site_disk.specs.Ledger.{EraView}
use Rattle.site_disk.specs.declared.disk.Disk.{Ghosts}
use Rattle.gated_slots.specs.Header.{IsHeader}
use Rattle.gated_slots.specs.HeaderLaws.{closed_no_header, closed_or_not}
use Rattle.gated_slots.specs.SlotsLaws.{used_by_gates, held_by_slots}
use Rattle.twin_mark.specs.Marks.{record_of}
use Rattle.site_headers.specs.Areas.{slot_count}
use Rattle.site_headers.specs.Heads.{Head, IsHead}
use Rattle.site_headers.specs.Headers.{catalogue_tail}
use Rattle.site_headers.specs.HeaderLaws.{length-catalogue_tail}
use Rattle.onbar_grammar.specs.Script.{Space}
use Rattle.catalogue_replay.specs.Answers.{HasNoHead}
use Rattle.catalogue_replay.specs.Contents.{empty}
use Rattle.catalogue_replay.proofs.HeadLemmas.{is_header}
use Rattle.catalogue_replay.proofs.SameLemmas.{kept}
use Rattle.catalogue_journal.specs.Catalogues.{cat_of}
use Rattle.catalogue_journal.specs.Formats.{MayUnformat, MayPublish}
use Rattle.catalogue_journal.proofs.FormatLemmas.{header_with, page_torn, header_there, mark_stays, journal_stays}
use Rattle.object_volume.specs.Volumes.{disk_of as volume_disk}
use Rattle.object_store.proofs.ReturnLemmas.{get-within}
use Rattle.space_lane.specs.Lanes.{disk_of as lane_disk}
use Rattle.walks.specs.Follows.{Ends, Goes}
use Rattle.walks.specs.CoursesLaws.{way_begins}
use Rattle.site_model.specs.declared.disk_name.DiskName.{DiskName}
use Rattle.site_model.specs.declared.disk_name.DiskName.TheVariants.{Cat, Spare, Boot, Log, Volume, Chunk}
use Rattle.site_worlds.specs.Worlds.{LaneState, World, stands, new_site, new_store}
use Rattle.site_worlds.specs.Moves.{format_site, world_rules}
use Rattle.site_layouts.specs.Stores.{Held, HoldsCatalogue, catalogue_area}
use Rattle.site_layouts.specs.Chunks.{ShowsChunk}
use Rattle.site_layouts.specs.Layouts.{HeldWorld, Shows, ShowsNone, ShowsSite, ShowsWorld}
use Rattle.site_core.specs.declared.site.Site.{Site}
use Rattle.site_core.specs.Disks.{disk_named, image_or, images_of, bytes_or, contents_of}
use Rattle.site_core.specs.Made.{IsMadeSite}
use Rattle.site_formatting.specs.Disks.{with_cat}
use Rattle.site_formatting.specs.Prepared.{IsPrepared, IsReady, ShowsNew}
use Rattle.site_formatting.specs.Worlds.{IsBehind, IsUnformatted, formatted_at}

-- headers

header_or_not : (bytes : List ℕ) → IsHeader bytes ⊎ (IsHeader bytes → ⊥)
header_or_not bytes = elim (cases_lt (length bytes) 4096) [
  | inl short ↦ inr (λ header. absurd (omega (arith, short, header.long)))
  | inr long ↦ elim (closed_or_not bytes) [
    | inl closed ↦ inr (λ header. closed_no_header bytes closed header)
    | inr isnt ↦ inl (record { long = long; gate = λ shut. isnt (record { some = omega (arith, long); gate = shut }) })
  ]
]

none_without : (bytes : List ℕ) → (IsHeader bytes → ⊥) → HasNoHead bytes
none_without bytes isnt other is has = isnt (is_header (catalogue_tail other) bytes (length-catalogue_tail other is) has)

-- a header that the formatting leaves stood there before
none_unformatted : (old new : List ℕ) → HasNoHead old → MayUnformat old new → HasNoHead new
none_unformatted old new none may other is has =
    let keeps = may.header (is_header (catalogue_tail other) new (length-catalogue_tail other is) has) in
    none other is (header_with (catalogue_tail other) old keeps.header (ap (λ (l : List ℕ). take 4095 l) (sym keeps.same) ∙ has.tail_stands))

-- a chunk without a space shows anything
pub no_space : (head : Head) (n : ℕ) (bytes : List ℕ) → length head.spaces ≤ n → ShowsNew head (Chunk n) bytes
no_space head n bytes le =
    subst (λ (lane : Option LaneState). ShowsChunk head [] [] 0 None n lane bytes) (sym (slice_get-map (λ (s : Space). stands 0 0) head.spaces n)) (by (slice_get head.spaces n) refl)
  where
    by : (space : Option Space) → slice_get head.spaces n ≡ space → ShowsChunk head [] [] 0 None n (option_map (λ s. stands 0 0) space) bytes
    by None is = tt
    by (Some space) is = absurd (omega (arith, le, slice_get_within head.spaces n space is))

module _ {D : Type 0} (disk : Ghosts D) (head : Head) (is_head : IsHead head) where
  -- a disk that isn't there shows its part, since it has none
  not_there : (site : Site D) → IsMadeSite site → (name : DiskName) (bytes : List ℕ) → disk_named site name ≡ None → ShowsNew head name bytes
  not_there site made Cat bytes none = tt
  not_there site made Spare bytes none = absurd (let e : Some _ ≡ None = none in cc)
  not_there site made Boot bytes none = absurd (let e : Some _ ≡ None = none in cc)
  not_there site made Log bytes none = absurd (let e : Some _ ≡ None = none in cc)
  not_there site made (Volume n) bytes none = λ le.
      let found = get-within site.store.volumes.items n (omega (arith, le, made.store.count)) in
      absurd (let e : None ≡ Some (volume_disk found.0) = sym none ∙ ap (option_map volume_disk) found.1 in cc)
  not_there site made (Chunk n) bytes none = no_space head n bytes (elim (cases_lt n 16) [
    | inl less ↦ (let found = get-within site.lanes.items n (omega (arith, less, made.count)) in absurd (let e : None ≡ Some (lane_disk found.0) = sym none ∙ ap (option_map lane_disk) found.1 in cc))
    | inr most ↦ omega (arith, most, is_head.few)
  ])

  module _ (era : EraView) (mid : Site D) (made : IsMadeSite mid) (ready : IsPrepared disk era head mid) where
    -- the other disks show a new site

    image_shows : (f : ℕ) (name : DiskName) (bytes : List ℕ) → era.number < f → images_of disk mid f name bytes → ShowsNew head name bytes
    image_shows f name bytes lt image = by (disk_named mid name) refl (ready.each name) image
      where
        by : (it : Option D) → disk_named mid name ≡ it → IfSome it (IsReady disk era head name) → image_or disk it f bytes → ShowsNew head name bytes
        by None none is there = not_there mid made name bytes none
        by (Some d) some is there = is.later f bytes lt there

    contents_show : (name : DiskName) → ShowsNew head name (contents_of disk mid name)
    contents_show name = by (disk_named mid name) refl (ready.each name)
      where
        by : (it : Option D) → disk_named mid name ≡ it → IfSome it (IsReady disk era head name) → ShowsNew head name (bytes_or disk it)
        by None none is = not_there mid made name [] none
        by (Some d) some is = is.now

    -- and with the catalogue it is there whole
    whole : (held : Held) (bytes : DiskName → List ℕ) → HoldsCatalogue head new_store held (bytes Cat) → ((name : DiskName) → ShowsNew head name (bytes name))
        → (name : DiskName) → ShowsSite name (new_site head) held (bytes name)
    whole held bytes cat others Cat = cat
    whole held bytes cat others Spare = others Spare
    whole held bytes cat others Boot = others Boot
    whole held bytes cat others Log = others Log
    whole held bytes cat others (Volume n) = others (Volume n)
    whole held bytes cat others (Chunk n) = others (Chunk n)

    -- the catalogue

    abbrev pub before : List ℕ
    before = disk.bytes (cat_of mid.store.cat)

    -- what a stop within the opening of its header leaves
    opened_or_not : (held : Held) (bytes : List ℕ) → held.area ≡ 0 → MayPublish (catalogue_tail head) before bytes → HasNoHead bytes ⊎ HoldsCatalogue head new_store held bytes
    opened_or_not held bytes area may = elim (header_or_not bytes) [
      | inr isnt ↦ inl (none_without bytes isnt)
      | inl header ↦ (
          let gates = may.elsewhere 8192 slot_count (omega arith) in
          let same = used_by_gates catalogue_area before bytes gates in
          inr (record {
            heads = record { is_head = is_head; header = may.header header };
            own_area = area;
            mark = record { stands = ap (λ (l : List ℕ). record_of l) (may.elsewhere 4096 1024 (omega arith)) ∙ ready.mark.stands };
            journal = kept slot_count empty before bytes same (held_by_slots catalogue_area before bytes gates (may.elsewhere 73728 (4096 * slot_count) (omega arith))) may.no_shorter ready.journal;
            used = same ∙ ready.used;
          }))
    ]

    -- what it has once it is open
    opened_holds : (held : Held) (bytes : List ℕ) → held.area ≡ 0 → bytes ≡ written 0 (1 ∷ catalogue_tail head) before → HoldsCatalogue head new_store held bytes
    opened_holds held bytes area wrote =
        let fills = length-catalogue_tail head is_head in
        let tail : List ℕ = catalogue_tail head in record {
          heads = record { is_head = is_head; header = header_there tail before bytes fills wrote };
          own_area = area;
          mark = mark_stays tail before bytes fills wrote ready.mark;
          journal = journal_stays tail before bytes fills wrote slot_count empty ready.journal;
          used = used_by_gates catalogue_area before bytes ((page_torn tail before bytes fills wrote).elsewhere 8192 slot_count (inr (omega arith))) ∙ ready.used;
        }

    -- what a read of each disk gives then
    pub contents_then : (cat : D) (held : Held) → held.area ≡ 0 → disk.bytes cat ≡ written 0 (1 ∷ catalogue_tail head) before
        → (name : DiskName) → ShowsSite name (new_site head) held (contents_of disk (with_cat mid cat) name)
    contents_then cat held area wrote = whole held (contents_of disk (with_cat mid cat)) (opened_holds held (disk.bytes cat) area wrote) by
      where
        by : (name : DiskName) → ShowsNew head name (contents_of disk (with_cat mid cat) name)
        by Cat = tt
        by Spare = contents_show Spare
        by Boot = contents_show Boot
        by Log = contents_show Log
        by (Volume n) = contents_show (Volume n)
        by (Chunk n) = contents_show (Chunk n)

  module _ (from : ℕ) (old : Site D) (at : HeldWorld) (un : IsUnformatted disk from old at) where
    abbrev pub Passed : HeldWorld → Type 0
    Passed other = IsBehind head at other

    begins : Passed at
    begins = way_begins world_rules (format_site head ∷ []) at.world

    ended : Passed (formatted_at head at)
    unfolding world_rules
    ended = inr refl

    -- without a header of the catalogue the site isn't formatted
    shows_none : (choice : DiskName → List ℕ) → HasNoHead (choice Cat) → (name : DiskName) → Shows name at (choice name)
    shows_none choice none name = subst (λ (world : World). ShowsWorld name world at.held (choice name)) (sym un.world) (by name)
      where
        by : (name : DiskName) → ShowsNone name (choice name)
        by Cat = none
        by Spare = tt
        by Boot = tt
        by Log = tt
        by (Volume n) = tt
        by (Chunk n) = tt

    module _ (mid : Site D) (crash : Leaves from MayUnformat (disk.image (cat_of old.store.cat)) (disk.image (cat_of mid.store.cat)))
        (earlier : (f : ℕ) (name : DiskName) (bytes : List ℕ) → f < from → images_of disk mid f name bytes → images_of disk old f name bytes) where
      none_then : (f : ℕ) (bytes : List ℕ) → from ≤ f → disk.image (cat_of mid.store.cat) f bytes → HasNoHead bytes
      none_then f bytes le image = elim (cases_order from f) [
        | inl same ↦ during (subst (λ (g : ℕ). disk.image (cat_of mid.store.cat) g bytes) (sym same) image)
        | inr (inl later) ↦ (let was = crash.later f bytes later image in none_unformatted was.0 bytes (un.none f was.0 le was.1) was.2)
        | inr (inr before) ↦ absurd (omega (arith, le, before))
      ]
        where
          during : disk.image (cat_of mid.store.cat) from bytes → HasNoHead bytes
          during now = elim (crash.during bytes now) [
            | inl was ↦ un.none from bytes (omega arith) was
            | inr was ↦ none_unformatted was.0 bytes (un.none (from + 1) was.0 (omega arith) was.1) was.2
          ]

      -- a stop in the first era
      pub goes_first : Goes Shows from (images_of disk old) (images_of disk mid) at Passed
      goes_first = record { earlier = earlier; later = λ f choice le images. (at, begins, λ name. inl (shows_none choice (none_then f (choice Cat) le (images Cat)) name)) }

      module _ (era : EraView) (is_first : era.number ≡ from) (made : IsMadeSite mid) (ready : IsPrepared disk era head mid) (next : ℕ) (is_next : next ≡ from + 1) (cat : D)
          (publish : Leaves next (MayPublish (catalogue_tail head)) (disk.image (cat_of mid.store.cat)) (disk.image cat)) where
        abbrev pub known : List ℕ
        known = disk.bytes (cat_of mid.store.cat)

        was_known : (f : ℕ) (bytes : List ℕ) → from < f → disk.image (cat_of mid.store.cat) f bytes → bytes ≡ known
        was_known f bytes lt image = ready.durable f bytes (omega (arith, lt, is_first)) image

        none_known : HasNoHead known
        none_known = none_without known (closed_no_header known ready.closed.now)

        stepped : (f : ℕ) (was bytes : List ℕ) → from < f → disk.image (cat_of mid.store.cat) f was → MayPublish (catalogue_tail head) was bytes → HasNoHead bytes ⊎ HoldsCatalogue head new_store at.held bytes
        stepped f was bytes lt image may =
            opened_or_not era mid made ready at.held bytes un.area (subst (λ (l : List ℕ). MayPublish (catalogue_tail head) l bytes) (was_known f was lt image) may)

        cat_then : (f : ℕ) (bytes : List ℕ) → from < f → disk.image cat f bytes → HasNoHead bytes ⊎ HoldsCatalogue head new_store at.held bytes
        cat_then f bytes lt image = elim (cases_order next f) [
          | inl same ↦ during (subst (λ (g : ℕ). disk.image cat g bytes) (sym same) image)
          | inr (inl later) ↦ (let was = publish.later f bytes later image in stepped f was.0 bytes lt was.1 was.2)
          | inr (inr before) ↦ absurd (omega (arith, lt, before, is_next))
        ]
          where
            during : disk.image cat next bytes → HasNoHead bytes ⊎ HoldsCatalogue head new_store at.held bytes
            during now = elim (publish.during bytes now) [
              | inl was ↦ inl (subst HasNoHead (sym (was_known next bytes (omega (arith, is_next)) was)) none_known)
              | inr was ↦ stepped (next + 1) was.0 bytes (omega (arith, is_next)) was.1 was.2
            ]

        -- the images of the other disks are as they were
        still : (f : ℕ) (name : DiskName) (bytes : List ℕ) → f < next → images_of disk (with_cat mid cat) f name bytes → images_of disk mid f name bytes
        still f Cat bytes lt image = publish.earlier f bytes lt image
        still f Spare bytes lt image = image
        still f Boot bytes lt image = image
        still f Log bytes lt image = image
        still f (Volume n) bytes lt image = image
        still f (Chunk n) bytes lt image = image

        others_then : (f : ℕ) (name : DiskName) (bytes : List ℕ) → from < f → images_of disk (with_cat mid cat) f name bytes → ShowsNew head name bytes
        others_then f Cat bytes lt image = tt
        others_then f Spare bytes lt image = image_shows era mid made ready f Spare bytes (omega (arith, lt, is_first)) image
        others_then f Boot bytes lt image = image_shows era mid made ready f Boot bytes (omega (arith, lt, is_first)) image
        others_then f Log bytes lt image = image_shows era mid made ready f Log bytes (omega (arith, lt, is_first)) image
        others_then f (Volume n) bytes lt image = image_shows era mid made ready f (Volume n) bytes (omega (arith, lt, is_first)) image
        others_then f (Chunk n) bytes lt image = image_shows era mid made ready f (Chunk n) bytes (omega (arith, lt, is_first)) image

        -- a stop in the second era, or none
        pub goes_both : Goes Shows from (images_of disk old) (images_of disk (with_cat mid cat)) at Passed
        goes_both = record {
          earlier = λ f name bytes lt image. earlier f name bytes lt (still f name bytes (omega (arith, lt, is_next)) image);
          later = λ f choice le images. elim (cases_lt from f) [
            | inl lt ↦ elim (cat_then f (choice Cat) lt (images Cat)) [
              | inl none ↦ (at, begins, λ name. inl (shows_none choice none name))
              | inr holds ↦ (formatted_at head at, ended, λ name. inl (whole era mid made ready at.held choice holds (λ n. others_then f n (choice n) lt (images n)) name))
            ]
            | inr most ↦ (at, begins, λ name. inl (shows_none choice (none_then f (choice Cat) le (still f Cat (choice Cat) (omega (arith, most, is_next)) (images Cat))) name))
          ];
        }

        -- at its end
        pub ends_then : (to : ℕ) → next < to → OnlyAfter next (disk.bytes cat) (disk.image cat) → disk.bytes cat ≡ written 0 (1 ∷ catalogue_tail head) known
            → Ends Shows to (images_of disk old) (images_of disk (with_cat mid cat)) at (formatted_at head at)
        ends_then to lt only wrote f name bytes le image = inl (by name image)
          where
            holds : (c : List ℕ) → disk.image cat f c → HoldsCatalogue head new_store at.held c
            holds c there = subst (λ (l : List ℕ). HoldsCatalogue head new_store at.held l) (sym (only f c (omega (arith, lt, le)) there))
                (opened_holds era mid made ready at.held (disk.bytes cat) un.area wrote)

            by : (n : DiskName) → images_of disk (with_cat mid cat) f n bytes → ShowsSite n (new_site head) at.held bytes
            by Cat there = holds bytes there
            by Spare there = others_then f Spare bytes (omega (arith, lt, le, is_next)) there
            by Boot there = others_then f Boot bytes (omega (arith, lt, le, is_next)) there
            by Log there = others_then f Log bytes (omega (arith, lt, le, is_next)) there
            by (Volume n) there = others_then f (Volume n) bytes (omega (arith, lt, le, is_next)) there
            by (Chunk n) there = others_then f (Chunk n) bytes (omega (arith, lt, le, is_next)) there
