-- How lanes that go to the end of the log together come to be a move of a site.
use Rattle.std.specs.Prelude.{◌≡◌, ℕ, ◌+◌, ◌<◌, ◌≤◌, List, length, map, slice_get, false, Option, None, Some, IsTrue}
use Rattle.std.proofs.Common.{arith, refl, sym, ap, subst, ◌∙◌}
use Rattle.std.proofs.lemmas.List.{length-map}
use Rattle.log_history.specs.History.{History}
use Rattle.log_history.specs.Effects.{Change}
use Rattle.site_disk.specs.Ledger.{EraView}
use Rattle.site_disk.specs.declared.disk.Disk.{Ghosts}
use Rattle.site_headers.specs.Heads.{Head}
use Rattle.backup_lines.specs.Lines.{Line}
use Rattle.backup_lines.specs.Spans.{Active}
use Rattle.lane_advance.specs.Advances.{Leads}
use Rattle.space_lane.specs.Lanes.{disk_of}
use Rattle.space_lane.specs.declared.lane.Lane.{Lane}
use Rattle.site_lanes.specs.Lanes.{OfFirst}
use Rattle.site_lanes.specs.Advancing.{IsAdvanced, MayHaveAdvanced}
use Rattle.site_model.specs.declared.disk_name.DiskName.{DiskName}
use Rattle.site_model.specs.declared.disk_name.DiskName.TheVariants.{Chunk}
use Rattle.site_worlds.specs.Worlds.{LaneState, Site, stands}
use Rattle.site_worlds.specs.Lanes.{pages_of_space}
use Rattle.site_worlds.specs.Moves.{move_lanes}
use Rattle.site_worlds.specs.Allowed.{HasRing}
use Rattle.site_courses.specs.Courses.{to_end}
use Rattle.course_laws.specs.AppendingLaws.{lanes_can}
use Rattle.site_layouts.specs.Disks.{moves_disk}
use Rattle.site_layouts.specs.Chunks.{ShowsChunk}
use Rattle.site_layouts.specs.Stages.{Agree, HeldSite, Layers, ShowsHeld, StandsFor, behind}
use Rattle.site_layouts.specs.LanesLaws.{Lanes}
use Rattle.site_lane_laws.specs.Agreements.{LanesAgree, LanesShow}
use Rattle.site_lane_laws.specs.OpeningLaws.{there_is}
use Rattle.site_lane_laws.specs.AdvancingLaws.{AreOnTheirWay, all_agree, all_end, all_shown, goal_there}

-- With no restore under way and the log there, each lane of a site stands at a place from which changes lead on to the end.
pub record CanGo (changes : List Change) (site : Site) : Type 0 where
  pub none : site.active ≡ None
  pub has : HasRing site
  pub stand : (n : ℕ) (lane : LaneState) → slice_get site.lanes n ≡ Some lane → (upto : ℕ) × (part : ℕ) × (lane ≡ stands upto part)
  pub leads : (n upto part : ℕ) → slice_get site.lanes n ≡ Some (stands upto part)
      → Leads site.history (length site.history) n (pages_of_space site.head.spaces n) (length site.history) upto part changes

-- where its lanes go to
abbrev pub goals_of : Site → List LaneState
goals_of site = map (to_end (length site.history)) site.lanes

module _ {S D : Type 0} (layers : Layers S) (disk : Ghosts D) (tells : IsTrue disk.is_modelled) (era : EraView) (changes : List Change) (lanes_of : S → List (Lane D)) where
  -- The layers have these values: the images of a chunk are those of its lane's disk, and the values agree as lanes do.
  pub record HasLanes : Type 0 where
    pub images : (s : S) (f n : ℕ) (value : Lane D) (bytes : List ℕ) → slice_get (lanes_of s) n ≡ Some value → layers.images s f (Chunk n) bytes → disk.image (disk_of value) f bytes
    pub from_images : (s : S) (f n : ℕ) (value : Lane D) (bytes : List ℕ) → slice_get (lanes_of s) n ≡ Some value → disk.image (disk_of value) f bytes → layers.images s f (Chunk n) bytes
    pub agree : (from : ℕ) (s : S) (head : Head) (history : History) (lines : List Line) (number : ℕ) (active : Option Active) (lanes : List LaneState)
        → layers.lanes_agree from s head history lines number active lanes → LanesAgree disk from head number active lanes (lanes_of s)
    pub reads : (d : D) (f : ℕ) → (disk.ledger d).last ≤ f → disk.image d f (disk.bytes d)

  module _ (layer : HasLanes) (opened : ℕ) (at : HeldSite) (old new : S) (enough : 3 ≤ opened) (stands_for : StandsFor layers opened era.number old at)
      (can : CanGo changes at.site) (as_many : length (lanes_of new) ≡ length (lanes_of old)) where
    agree_old : LanesAgree disk era.number at.site.head at.site.number at.site.active at.site.lanes (lanes_of old)
    agree_old = layer.agree era.number old at.site.head at.site.history at.site.lines at.site.number at.site.active at.site.lanes (stands_for.agree.lanes enough)

    show_old : LanesShow disk at.site.head at.site.history at.site.lines at.site.number at.site.active at.site.lanes (lanes_of old)
    show_old n lane value of_lane there =
        let is = agree_old.each n lane value of_lane there in
        subst (λ (o : Option LaneState). ShowsChunk at.site.head at.site.history at.site.lines at.site.number at.site.active n o (disk.bytes (disk_of value))) of_lane
        (stands_for.clean era.number (Chunk n) (disk.bytes (disk_of value)) (omega arith) enough
        (layer.from_images old era.number n value (disk.bytes (disk_of value)) there (layer.reads (disk_of value) era.number (omega (arith, is.earlier)))))

    pub on_their_way : AreOnTheirWay disk tells era at.site changes (lanes_of old) (lanes_of new)
    on_their_way = record { fit = stands_for.fits; stand = can.stand; agree = agree_old; show = show_old; leads = can.leads }

    value_new : (n : ℕ) → n < length at.site.lanes → (is : Lane D) × (slice_get (lanes_of new) n ≡ Some is)
    value_new n lt = there_is (lanes_of new) n (omega (arith, lt, agree_old.enough, as_many))

    -- Wherever the work stops, the chunks go their ways.
    pub lanes_go : OfFirst (length at.site.lanes) (λ n was is. MayHaveAdvanced disk era (length at.site.history) changes was is) (lanes_of old) (lanes_of new)
        → ((f : ℕ) (name : DiskName) (bytes : List ℕ) → moves_disk (move_lanes (goals_of at.site)) name ≡ false → layers.images new f name bytes → layers.images old f name bytes)
        → ((f n : ℕ) (bytes : List ℕ) → f < era.number → layers.images new f (Chunk n) bytes → layers.images old f (Chunk n) bytes)
        → Lanes layers (goals_of at.site) opened era.number old new at
    lanes_go works others earlier = record {
      can = lanes_can at.site 0 at.site.lanes can.none can.has;
      stands = stands_for;
      others = others;
      earlier = earlier;
      each = λ f n bytes le lt image.
          let value = value_new n lt in
          all_shown disk tells era at.site changes (lanes_of old) (lanes_of new) on_their_way as_many works n value.0 lt value.1 f bytes le
          (layer.images new f n value.0 bytes value.1 image);
    }

    -- Once they have come to the end, each later image shows that,
    module _ (done : OfFirst (length at.site.lanes) (λ n was is. IsAdvanced disk era (length at.site.history) changes was is) (lanes_of old) (lanes_of new)) where
      pub lanes_shown : (f n : ℕ) (bytes : List ℕ) → era.number + 1 ≤ f → n < length (goals_of at.site) → layers.images new f (Chunk n) bytes
          → ShowsHeld (Chunk n) (behind (move_lanes (goals_of at.site)) at) bytes
      lanes_shown f n bytes le lt image =
          let within : n < length at.site.lanes = omega (arith, lt, length-map at.site.lanes (to_end (length at.site.history))) in
          let value = value_new n within in
          subst (λ (o : Option LaneState). ShowsChunk at.site.head at.site.history at.site.lines at.site.number at.site.active n o bytes)
          (sym (goal_there disk tells era at.site changes (lanes_of old) (lanes_of new) on_their_way n within))
          (all_end disk tells era at.site changes (lanes_of old) (lanes_of new) on_their_way as_many done n value.0 within value.1 f bytes le
          (layer.images new f n value.0 bytes value.1 image))

      -- and the values agree with it.
      pub lanes_agree_there : LanesAgree disk (era.number + 1) at.site.head at.site.number at.site.active (goals_of at.site) (lanes_of new)
      lanes_agree_there = all_agree disk tells era at.site changes (lanes_of old) (lanes_of new) on_their_way as_many done
