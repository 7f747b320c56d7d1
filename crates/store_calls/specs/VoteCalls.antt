-- How a transaction over the store of a site comes to be a move of the site.
use Rattle.std.specs.Prelude.{◌≡◌, ◌⊎◌, ℕ, ◌+◌, ◌<◌, ◌≤◌, List, [], ◌∷◌, Option, None, Some, true, false}
use Rattle.std.specs.List.{AllByRecursion}
use Rattle.std.specs.Option.{option_map}
use mathlib.Core.Logic.{inl, inr}
use Rattle.std.proofs.Common.{arith, refl, sym, ap, subst, ◌∙◌, ⊎_elim}
use Rattle.std.proofs.lemmas.Bool.{cases_lt, true≢false}
use Rattle.std.proofs.lemmas.Option.{slice_get_cases}
use Rattle.site_disk.specs.declared.disk.Disk.{Ghosts}
use Rattle.gated_slots.specs.Slots.{Area, used}
use Rattle.site_headers.specs.Areas.{slot_count}
use Rattle.site_headers.specs.Headers.{HasHeader, spare_tail}
use Rattle.catalogue_replay.specs.Contents.{Contents}
use Rattle.catalogue_replay.specs.Places.{NamesArea, Journals, area_of}
use Rattle.catalogue_replay.specs.Answers.{HasHead, IsCatalogue}
use Rattle.catalogue_journal.specs.Catalogues.{cat_of, spare_of, used_of, contents_in}
use Rattle.catalogue_journal.specs.Commits.{Ends as CommitEnds, HasIn, ShowFrom}
use Rattle.catalogue_journal.specs.Transactions.{Addition, ended, slots_wanted}
use Rattle.object_volume.specs.Volumes.{disk_of}
use Rattle.object_volume.specs.declared.volume.Volume.{Volume}
use Rattle.store_opening.specs.Standing.{Agrees as StoreAgrees}
use Rattle.walks.specs.Follows.{Follows, FollowsAmong, Goes}
use Rattle.walks.specs.Courses.{Call, Does, PassedBy, make, only}
use Rattle.walks.specs.CoursesLaws.{way_begins}
use Rattle.site_model.specs.declared.disk_name.DiskName.{DiskName}
use Rattle.site_model.specs.declared.disk_name.DiskName.TheVariants.{Cat, Spare, Boot, Log, Volume as VolumeOf, Chunk}
use Rattle.site_worlds.specs.Worlds.{Kept, Store}
use Rattle.site_worlds.specs.Moves.{Move, commit_objects, site_rules, store_after, the_catalogue}
use Rattle.world_laws.specs.KeptLaws.{kept}
use Rattle.site_courses.specs.Faults.{Fault, cuts}
use Rattle.site_courses.specs.Courses.{SiteCourse}
use Rattle.site_layouts.specs.Disks.{IsOpened, is_of}
use Rattle.site_layouts.specs.Stores.{HoldsCatalogue, catalogue_area, contents_of}
use Rattle.site_layouts.specs.ApartLaws.{apart}
use Rattle.site_layouts.specs.VolumeLaws.{IsSentTo, volume_votes}
use Rattle.site_layouts.specs.VoteLaws.{AreAdded, catalogue_stands, catalogue_votes, ended_is_vote, wanted_is_used}
use Rattle.site_layouts.specs.Stages.{HeldSite, ShowsHeld, StandsFor, behind, site_stage}
use Rattle.site_core.specs.declared.site.Site.{Site as Values}
use Rattle.site_core.specs.Calls.{CallFrom}
use Rattle.site_core.specs.Disks.{image_or}
use Rattle.site_core.specs.Layers.{layers}
use Rattle.site_core.specs.LayerLaws.{boot_later, log_later, lanes_later}
use Rattle.store_calls.specs.Transactions.{MayVote, ReadsAsImages, OnlySends, Transacts, AgreesBehind, AgreesStill}
use Rattle.store_calls.specs.SendLaws.{others_earlier, others_follow}

module _ {D : Type 0} (disk : Ghosts D) (reads : ReadsAsImages disk) (from : ℕ) (old new : Values D) where
  -- nothing was committed

  module _ (sends : OnlySends disk from old new) (opened : ℕ) (at : HeldSite) (stands : StandsFor (layers disk) opened from old at) where
    here_follows : (f : ℕ) (name : DiskName) (bytes : List ℕ) → from ≤ f → (layers disk).images new f name bytes → Follows ShowsHeld ((layers disk).images old) f at at name bytes
    here_follows f Cat bytes le image = inr (sends.catalogue f bytes image, λ shows. shows)
    here_follows f Spare bytes le image = others_follow disk reads opened from old new at stands sends.works f Spare bytes le refl image
    here_follows f Boot bytes le image = others_follow disk reads opened from old new at stands sends.works f Boot bytes le refl image
    here_follows f Log bytes le image = others_follow disk reads opened from old new at stands sends.works f Log bytes le refl image
    here_follows f (VolumeOf n) bytes le image = others_follow disk reads opened from old new at stands sends.works f (VolumeOf n) bytes le refl image
    here_follows f (Chunk n) bytes le image = others_follow disk reads opened from old new at stands sends.works f (Chunk n) bytes le refl image

    earlier_too : (f : ℕ) (name : DiskName) (bytes : List ℕ) → f < from → (layers disk).images new f name bytes → (layers disk).images old f name bytes
    earlier_too f Cat bytes lt image = sends.catalogue f bytes image
    earlier_too f Spare bytes lt image = others_earlier disk reads opened from old new at stands sends.works f Spare bytes lt refl image
    earlier_too f Boot bytes lt image = others_earlier disk reads opened from old new at stands sends.works f Boot bytes lt refl image
    earlier_too f Log bytes lt image = others_earlier disk reads opened from old new at stands sends.works f Log bytes lt refl image
    earlier_too f (VolumeOf n) bytes lt image = others_earlier disk reads opened from old new at stands sends.works f (VolumeOf n) bytes lt refl image
    earlier_too f (Chunk n) bytes lt image = others_earlier disk reads opened from old new at stands sends.works f (Chunk n) bytes lt refl image

    sends_goes : (passed : HeldSite → Type 0) → passed at → Goes ShowsHeld from ((layers disk).images old) ((layers disk).images new) at passed
    sends_goes passed counts = record {
      earlier = earlier_too;
      later = λ f choice le images. (at, counts, λ name. here_follows f name (choice name) le (images name));
    }

  -- The clause of what only sends: cut short,
  pub sends_fails : OnlySends disk from old new → (to : ℕ) (course : SiteCourse) (fault : Fault) → from ≤ to → cuts fault ≡ true
      → Call (site_stage (layers disk)) 0 from to old new course (Some fault)
  unfolding site_stage site_rules
  sends_fails sends to course fault le cuts_it opened at enough stands = record {
    no_earlier = le;
    goes = sends_goes sends opened at stands (PassedBy (site_stage (layers disk)) (course at.site).moves at) (way_begins site_rules (course at.site).moves at.site);
    ended = inl cuts_it;
  }

  module _ (sends : OnlySends disk from old new) (to : ℕ) (le : from ≤ to) (still : AgreesStill disk from to old new) (opened : ℕ) (at : HeldSite)
      (stands : StandsFor (layers disk) opened from old at) where
    same_others : new ≡ record old { store = new.store }
    same_others = sends.works.others

    still_clean : (f : ℕ) (name : DiskName) (bytes : List ℕ) → to ≤ f → IsOpened opened name → (layers disk).images new f name bytes → ShowsHeld name at bytes
    still_clean f name bytes ge there image = ⊎_elim
        (λ shows. shows)
        (λ was. was.1 (stands.clean f name bytes (omega (arith, le, ge)) there was.0))
        (here_follows sends opened at stands f name bytes (omega (arith, le, ge)) image)

    still_stands : StandsFor (layers disk) opened to new at
    still_stands = record {
      clean = still_clean;
      agree = record {
        store = still at.site.head (contents_of at.site.store) at.site.store.used stands.agree.store;
        boot = λ some. subst (λ (v : Values D). (layers disk).boot_agrees to v at.site.head at.site.lines at.site.number at.site.active) (sym same_others)
            (boot_later disk from to le old at.site.head at.site.lines at.site.number at.site.active (stands.agree.boot some));
        log = λ two. subst (λ (v : Values D). (layers disk).log_agrees to v at.site.head at.site.starts at.site.history at.site.ring) (sym same_others)
            (log_later disk from to le old at.site.head at.site.starts at.site.history at.site.ring (stands.agree.log two));
        lanes = λ all. subst (λ (v : Values D). (layers disk).lanes_agree to v at.site.head at.site.history at.site.lines at.site.number at.site.active at.site.lanes) (sym same_others)
            (lanes_later disk from to le old at.site.head at.site.history at.site.lines at.site.number at.site.active at.site.lanes (stands.agree.lanes all));
      };
      fits = stands.fits;
    }

  -- or ended, with a refusal or none.
  pub sends_ends : OnlySends disk from old new → (to : ℕ) (fault : Option Fault) → from ≤ to → AgreesStill disk from to old new
      → Call (site_stage (layers disk)) 0 from to old new (λ site. only fault) fault
  unfolding site_stage site_rules
  sends_ends sends to fault le still opened at enough stands = record {
    no_earlier = le;
    goes = sends_goes sends opened at stands (PassedBy (site_stage (layers disk)) [] at) refl;
    ended = inr (record {
      fault_is = refl;
      next = at;
      next_is = refl;
      ends = λ f name bytes ge image. here_follows sends opened at stands f name bytes (omega (arith, le, ge)) image;
      stands = still_stands sends to le still opened at stands;
    });
  }

  -- a transaction

  module _ (e : ℕ) (added : List Kept) (deleted : List ℕ) (additions : List Addition) (does : Transacts disk from e added deleted additions old new) where
    abbrev vote : Move
    vote = commit_objects added deleted

    module _ (opened : ℕ) (at : HeldSite) (stands : StandsFor (layers disk) opened from old at) (may : MayVote added deleted at.site) where
      abbrev store : Store
      store = at.site.store

      known : StoreAgrees disk from old.store (contents_of store) store.used at.site.head
      known = stands.agree.store

      abbrev next : HeldSite
      next = behind vote at

      -- the catalogue, by the site

      abbrev CommitsAs : ℕ → Contents → Type 0
      CommitsAs capacity before =
          CommitEnds e capacity (slots_wanted deleted additions) before (ended deleted additions before)
          (disk.image (cat_of old.store.cat)) (disk.image (spare_of old.store.cat)) (disk.image (cat_of new.store.cat)) (disk.image (spare_of new.store.cat))

      commits : CommitsAs slot_count (contents_of store)
      commits = subst (λ (b : Contents). CommitsAs slot_count b) known.contents_are
          (subst (λ (k : ℕ). CommitsAs k (contents_in old.store.cat)) known.capacity does.commits)

      are : AreAdded store.last added additions
      are = subst (λ (l : ℕ). AreAdded l added additions) (ap (λ (c : Contents). c.last) known.contents_are) does.are

      old_catalogue : (f : ℕ) (bytes : List ℕ) → from ≤ f → disk.image (cat_of old.store.cat) f bytes → HoldsCatalogue at.site.head store at.held bytes
      old_catalogue f bytes le image = stands.clean f Cat bytes le (omega arith) image

      old_spare : (f : ℕ) (bytes : List ℕ) → from ≤ f → disk.image (spare_of old.store.cat) f bytes → HasHeader (spare_tail at.site.head.site) bytes
      old_spare f bytes le image = stands.clean f Spare bytes le (omega arith) image

      own : at.held.area ≡ 0
      own = (old_catalogue from (disk.bytes (cat_of old.store.cat)) (omega arith)
          (reads (cat_of old.store.cat) from (let cat = known.cat_behind in omega (arith, cat.last)))).own_area

      shown_before : ShowFrom e slot_count at.site.head (contents_of store) (disk.image (cat_of old.store.cat)) (disk.image (spare_of old.store.cat))
      shown_before f g bytes spare le ge image spare_image =
          catalogue_stands at.site.head store at.held bytes spare
          (old_catalogue f bytes (omega (arith, le, does.later)) image) (old_spare g spare (omega (arith, ge, does.later)) spare_image)

      abbrev spare_bytes : List ℕ
      spare_bytes = disk.bytes (spare_of new.store.cat)

      spare_image : (f : ℕ) → from ≤ f → disk.image (spare_of new.store.cat) f spare_bytes
      spare_image f le = reads (spare_of new.store.cat) f
          (subst (λ (it : D). (disk.ledger it).last ≤ f) (sym does.works.spare) (let spare = known.spare_behind in omega (arith, le, spare.last)))

      -- header and mark stay
      record Frame (bytes : List ℕ) : Type 0 where
        heads : HasHead at.site.head bytes
        mark : NamesArea bytes
        spare : HasHeader (spare_tail at.site.head.site) spare_bytes

      framed : (contents : Contents) (bytes : List ℕ) → IsCatalogue slot_count at.site.head contents bytes spare_bytes → Frame bytes
      framed contents bytes is = record { heads = is.heads; mark = is.mark; spare = is.spare }

      frame : (f : ℕ) (bytes : List ℕ) → e ≤ f → disk.image (cat_of new.store.cat) f bytes → Frame bytes
      frame f bytes le image = ⊎_elim
          (λ is. framed (contents_of store) bytes is)
          (λ is. framed (ended deleted additions (contents_of store)) bytes is)
          (commits.either at.site.head shown_before f bytes spare_bytes le image (spare_image f (omega (arith, le, does.later))))

      holds_before : (bytes : List ℕ) → Frame bytes → HasIn catalogue_area (contents_of store) store.used bytes → HoldsCatalogue at.site.head store at.held bytes
      holds_before bytes it has = record { heads = it.heads; own_area = own; mark = it.mark; journal = has.journal; used = has.used }

      holds_behind : (bytes : List ℕ) → Frame bytes
          → HasIn catalogue_area (ended deleted additions (contents_of store)) (store.used + slots_wanted deleted additions) bytes
          → HoldsCatalogue at.site.head (store_after added deleted store) at.held bytes
      holds_behind bytes it has =
          (catalogue_votes at.site.head store at.held added deleted additions bytes spare_bytes own stands.fits.store.ascend are has.used
          (record { heads = it.heads; mark = it.mark; journal = has.journal; spare = it.spare })).0

      catalogue_either : (f : ℕ) (bytes : List ℕ) → e ≤ f → disk.image (cat_of new.store.cat) f bytes → ShowsHeld Cat at bytes ⊎ ShowsHeld Cat next bytes
      catalogue_either f bytes le image = ⊎_elim
          (λ has. inl (holds_before bytes (frame f bytes le image) has))
          (λ has. inr (holds_behind bytes (frame f bytes le image) has))
          (commits.counted store.used
          (λ g b ge was. let holds = old_catalogue g b (omega (arith, ge, does.later)) was in record { journal = holds.journal; used = holds.used }) f bytes le image)

      -- the other disks, which show the site behind the vote too

      sent_to : (n f : ℕ) (bytes : List ℕ) → n ≤ 16 → e ≤ f → (layers disk).images new f (VolumeOf n) bytes → AllByRecursion (IsSentTo n bytes) added
      sent_to n f bytes few le image = elim (slice_get_cases new.store.volumes.items n).1 [
        | inl there ↦ does.sent n there.0 there.2 f bytes le
            (subst (λ (o : Option (Volume D)). image_or disk (option_map disk_of o) f bytes) there.2 image)
        | inr none ↦ absurd (let count = does.works.volumes.count in let whole = known.opened.count in omega (arith, none.0, count, whole, few))
      ]

      abbrev Behind : ℕ → DiskName → List ℕ → Type 0
      Behind f name bytes = e ≤ f → (layers disk).images new f name bytes → ShowsHeld name at bytes → ShowsHeld name next bytes

      other_behind : (f : ℕ) (name : DiskName) (bytes : List ℕ) → is_of the_catalogue name ≡ false → Behind f name bytes
      other_behind f Cat bytes rests le image shows = absurd (true≢false rests)
      other_behind f Spare bytes rests le image shows = apart vote at.site at.held Spare bytes may stands.fits tt refl shows
      other_behind f Boot bytes rests le image shows = apart vote at.site at.held Boot bytes may stands.fits tt refl shows
      other_behind f Log bytes rests le image shows = apart vote at.site at.held Log bytes may stands.fits tt refl shows
      other_behind f (VolumeOf n) bytes rests le image shows = λ few.
          volume_votes at.site.head store added deleted n bytes stands.fits.store.damaged may.follow (sent_to n f bytes few le image) (shows few)
      other_behind f (Chunk n) bytes rests le image shows = apart vote at.site at.held (Chunk n) bytes may stands.fits tt refl shows

      abbrev Here : ℕ → DiskName → List ℕ → Type 0
      Here f name bytes = Follows ShowsHeld ((layers disk).images old) f at at name bytes

      abbrev There : ℕ → DiskName → List ℕ → Type 0
      There f name bytes = Follows ShowsHeld ((layers disk).images old) f at next name bytes

      other_here : (f : ℕ) (name : DiskName) (bytes : List ℕ) → from ≤ f → is_of the_catalogue name ≡ false → (layers disk).images new f name bytes → Here f name bytes
      other_here = others_follow disk reads opened from old new at stands does.works

      other_there : (f : ℕ) (name : DiskName) (bytes : List ℕ) → e ≤ f → is_of the_catalogue name ≡ false → (layers disk).images new f name bytes → There f name bytes
      other_there f name bytes le rests image = ⊎_elim
          (λ shows. inl (other_behind f name bytes rests le image shows))
          (λ was. inr (was.0, λ shows. other_behind f name bytes rests le image (was.1 shows)))
          (other_here f name bytes (omega (arith, le, does.later)) rests image)

      -- what holds of the catalogue and of each other disk holds of all
      of_each : (P : DiskName → Type 0) → P Cat → ((name : DiskName) → is_of the_catalogue name ≡ false → P name) → (name : DiskName) → P name
      of_each P first others Cat = first
      of_each P first others Spare = others Spare refl
      of_each P first others Boot = others Boot refl
      of_each P first others Log = others Log refl
      of_each P first others (VolumeOf n) = others (VolumeOf n) refl
      of_each P first others (Chunk n) = others (Chunk n) refl

      -- wherever it stops

      passes_here : PassedBy (site_stage (layers disk)) (vote ∷ []) at at
      unfolding site_stage site_rules
      passes_here = inl refl

      passes_there : PassedBy (site_stage (layers disk)) (vote ∷ []) at next
      unfolding site_stage site_rules
      passes_there = inr refl

      abbrev Among : ℕ → (DiskName → List ℕ) → Type 0
      Among f choice = FollowsAmong ShowsHeld ((layers disk).images old) f at (PassedBy (site_stage (layers disk)) (vote ∷ []) at) choice

      module _ (f : ℕ) (choice : DiskName → List ℕ) (le : from ≤ f) (images : (name : DiskName) → (layers disk).images new f name (choice name)) where
        stays : Here f Cat (choice Cat) → Among f choice
        stays first = (at, passes_here, of_each (λ name. Here f name (choice name)) first (λ name rests. other_here f name (choice name) le rests (images name)))

        moves : e ≤ f → ShowsHeld Cat next (choice Cat) → Among f choice
        moves ge shows =
            (next, passes_there, of_each (λ name. There f name (choice name)) (inl shows) (λ name rests. other_there f name (choice name) ge rests (images name)))

        among : Among f choice
        among = elim (cases_lt f e) [
          | inl before ↦ stays (inr (commits.earlier f (choice Cat) before (images Cat), λ shows. shows))
          | inr ge ↦ ⊎_elim (λ shows. stays (inl shows)) (λ shows. moves ge shows) (catalogue_either f (choice Cat) ge (images Cat))
        ]

      transaction_goes : Goes ShowsHeld from ((layers disk).images old) ((layers disk).images new) at (PassedBy (site_stage (layers disk)) (vote ∷ []) at)
      transaction_goes = record {
        earlier = λ f name bytes lt. of_each (λ n. (layers disk).images new f n bytes → (layers disk).images old f n bytes)
            (λ image. commits.earlier f bytes (omega (arith, lt, does.later)) image)
            (λ n rests image. others_earlier disk reads opened from old new at stands does.works f n bytes lt rests image) name;
        later = λ f choice le images. among f choice le images;
      }

      cut : (fault : Fault) (to : ℕ) → from ≤ to → cuts fault ≡ true → Does (site_stage (layers disk)) opened from to old new at (make (vote ∷ [])) (Some fault)
      unfolding site_stage
      cut fault to le cuts_it = record { no_earlier = le; goes = transaction_goes; ended = inl cuts_it }

      -- where it has ended

      module _ (to : ℕ) (le : e ≤ to) (gained : AgreesBehind disk from to deleted additions old new) where
        abbrev AgreesAs : Contents → ℕ → Type 0
        AgreesAs contents taken = StoreAgrees disk to new.store contents taken at.site.head

        before_it : StoreAgrees disk from old.store (contents_in old.store.cat) (used_of old.store.cat) at.site.head
        before_it = subst (λ (t : ℕ). StoreAgrees disk from old.store (contents_in old.store.cat) t at.site.head) (sym known.used)
            (subst (λ (c : Contents). StoreAgrees disk from old.store c store.used at.site.head) (sym known.contents_are) known)

        behind_it : AgreesAs (ended deleted additions (contents_of store)) (store.used + slots_wanted deleted additions)
        behind_it = subst (λ (t : ℕ). AgreesAs (ended deleted additions (contents_of store)) (t + slots_wanted deleted additions)) known.used
            (subst (λ (c : Contents). AgreesAs (ended deleted additions c) (used_of old.store.cat + slots_wanted deleted additions)) known.contents_are
            (gained at.site.head before_it))

        store_agrees : AgreesAs (contents_of (store_after added deleted store)) (store_after added deleted store).used
        store_agrees = subst (λ (c : Contents). AgreesAs c (store_after added deleted store).used) (ended_is_vote store added deleted additions stands.fits.store.ascend are)
            (subst (λ (t : ℕ). AgreesAs (ended deleted additions (contents_of store)) t) (ap (λ (n : ℕ). store.used + n) (wanted_is_used store.last added deleted additions are)) behind_it)

        abbrev whole : ℕ
        whole = store.used + slots_wanted deleted additions

        abbrev behind_contents : Contents
        behind_contents = ended deleted additions (contents_of store)

        catalogue_there : (f : ℕ) (bytes : List ℕ) → to ≤ f → disk.image (cat_of new.store.cat) f bytes → ShowsHeld Cat next bytes
        catalogue_there f bytes ge image = holds_behind bytes (frame f bytes (omega (arith, le, ge)) image) (record { journal = journal; used = counted })
          where
            last_before : (disk.ledger (cat_of new.store.cat)).last < f
            last_before = let last = behind_it.cat_behind.last in omega (arith, last, ge)

            journal : Journals catalogue_area behind_contents bytes
            journal = subst (λ (c : Contents). Journals catalogue_area c bytes) behind_it.contents_are
                (subst (λ (k : ℕ). Journals (area_of k) (contents_in new.store.cat) bytes) behind_it.capacity (behind_it.stands.later f bytes last_before image))

            counted : used catalogue_area bytes ≡ whole
            counted = subst (λ (k : ℕ). used (area_of k) bytes ≡ whole) behind_it.capacity
                (subst (λ (a : Area). used a bytes ≡ whole) behind_it.opened.cat.made.area
                (behind_it.stands.agrees.later f bytes last_before image ∙ behind_it.used))

        shows_at : (f : ℕ) (name : DiskName) (bytes : List ℕ) → from ≤ f → IsOpened opened name → Here f name bytes → ShowsHeld name at bytes
        shows_at f name bytes ge there = ⊎_elim (λ shows. shows) (λ was. was.1 (stands.clean f name bytes ge there was.0))

        stands_then : StandsFor (layers disk) opened to new next
        stands_then = record {
          clean = λ f name bytes ge there image.
              of_each (λ n. IsOpened opened n → (layers disk).images new f n bytes → ShowsHeld n next bytes)
              (λ is_opened now. catalogue_there f bytes ge now)
              (λ n rests is_opened now. other_behind f n bytes rests (omega (arith, le, ge)) now
              (shows_at f n bytes (omega (arith, le, ge, does.later)) is_opened (other_here f n bytes (omega (arith, le, ge, does.later)) rests now)))
              name there image;
          agree = record {
            store = store_agrees;
            boot = λ some. subst (λ (v : Values D). (layers disk).boot_agrees to v at.site.head at.site.lines at.site.number at.site.active) (sym does.works.others)
                (boot_later disk from to past old at.site.head at.site.lines at.site.number at.site.active (stands.agree.boot some));
            log = λ two. subst (λ (v : Values D). (layers disk).log_agrees to v at.site.head at.site.starts at.site.history at.site.ring) (sym does.works.others)
                (log_later disk from to past old at.site.head at.site.starts at.site.history at.site.ring (stands.agree.log two));
            lanes = λ all. subst (λ (v : Values D). (layers disk).lanes_agree to v at.site.head at.site.history at.site.lines at.site.number at.site.active at.site.lanes) (sym does.works.others)
                (lanes_later disk from to past old at.site.head at.site.history at.site.lines at.site.number at.site.active at.site.lanes (stands.agree.lanes all));
          };
          fits = kept vote at.site may stands.fits;
        }
          where
            past : from ≤ to
            past = omega (arith, does.later, le)

        done : Does (site_stage (layers disk)) opened from to old new at (make (vote ∷ [])) None
        unfolding site_stage site_rules
        done = record {
          no_earlier = omega (arith, does.later, le);
          goes = transaction_goes;
          ended = inr (record {
            fault_is = refl;
            next = next;
            next_is = refl;
            ends = λ f name bytes ge image.
                of_each (λ n. (layers disk).images new f n bytes → There f n bytes)
                (λ now. inl (catalogue_there f bytes ge now))
                (λ n rests now. other_there f n bytes (omega (arith, le, ge)) rests now) name image;
            stands = stands_then;
          });
        }

    -- The clause of a transaction that was voted on: cut short,
    pub transaction_fails : (to : ℕ) (fault : Fault) → from ≤ to → cuts fault ≡ true
        → CallFrom (site_stage (layers disk)) (MayVote added deleted) 0 from to old new (λ site. make (commit_objects added deleted ∷ [])) (Some fault)
    unfolding site_stage
    transaction_fails to fault le cuts_it opened at enough stands may = cut opened at stands may fault to le cuts_it

    -- or ended.
    pub transaction_done : (to : ℕ) → e ≤ to → AgreesBehind disk from to deleted additions old new
        → CallFrom (site_stage (layers disk)) (MayVote added deleted) 0 from to old new (λ site. make (commit_objects added deleted ∷ [])) None
    unfolding site_stage
    transaction_done to le gained opened at enough stands may = done opened at stands may to le gained
