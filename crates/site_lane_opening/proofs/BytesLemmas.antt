-- What the chunks refuse, and that they do that in one way.
use Rattle.std.proofs.Common.{◌≡◌, ℕ, ◌<◌, [], ◌∷◌, length, Option, None, refl, sym, ap, subst, ◌∙◌, arith, inl, inr, ⊎_elim}
use Rattle.std.specs.Prelude.{◌⊎◌, IsTrue}
use Rattle.std.proofs.lemmas.Bool.{cases_order}
use Rattle.site_disk.specs.Ledger.{EraView}
use Rattle.site_disk.specs.declared.disk.Disk.{Ghosts}
use Rattle.site_headers.specs.Heads.{Head}
use Rattle.site_headers.specs.HeaderLaws.{one_catalogue_header}
use Rattle.space_lane.specs.Lanes.{state_of}
use Rattle.site_lanes.specs.declared.refusals.LanesFault.{LanesFault}
use Rattle.site_lanes.specs.declared.refusals.LanesFault.TheVariants.{ChunkLost, BadMark, Failed}
use Rattle.site_model.specs.declared.disk_name.DiskName.TheVariants.{Chunk}
use Rattle.site_model.specs.declared.status.Status.{Status}
use Rattle.site_model.specs.declared.status.Status.TheVariants.{ChunkLost as EndsLost, BadRecord as EndsBad}
use Rattle.site_model.specs.Runs.{name_at}
use Rattle.site_lane_laws.specs.OpeningLaws.{there_is}
use Rattle.site_openings.specs.Openings.{AllowedBy, Contents_of, IsFirstBadChunk, IsFirstLost, IsWanted, LanesAllow, LanesRefuse, Named, RefusedBy, all_lanes, no_slot}
use Rattle.site_core.specs.Disks.{contents_of}
use Rattle.site_core.specs.Faults.{IsFailure, of_lanes, status_in}
use Rattle.site_core.specs.Made.{IsMadeSite}
use Rattle.site_core.specs.declared.faults.SiteFault.{SiteFault}
use Rattle.site_core.specs.declared.site.Site.{Site}
use Rattle.site_lane_opening.specs.Steps.{Coming, Opens, RefusesBy, Stops, StopsSite}
use Rattle.site_lane_opening.proofs.WantedLemmas.{has_of_headed, mark_of_mid}

module _ (wanted : Option ℕ) (head : Head) (contents : Contents_of) where
  lost_once : (n m : ℕ) → IsFirstLost wanted head contents n → IsFirstLost wanted head contents m → n ≡ m
  lost_once n m first other = elim (cases_order n m) [
    | inl same ↦ same
    | inr (inl less) ↦ absurd (first.is_lost (other.before n first.is_wanted less))
    | inr (inr more) ↦ absurd (other.is_lost (first.before m other.is_wanted more))
  ]

  not_good : (n m : ℕ) → IsFirstBadChunk wanted head contents n → IsFirstBadChunk wanted head contents m → n < m → ⊥
  not_good n m first other less = let good = other.before n first.is_wanted less in first.bad good.state good.mark

  bad_once : (n m : ℕ) → IsFirstBadChunk wanted head contents n → IsFirstBadChunk wanted head contents m → n ≡ m
  bad_once n m first other = elim (cases_order n m) [
    | inl same ↦ same
    | inr (inl less) ↦ absurd (not_good n m first other less)
    | inr (inr more) ↦ absurd (not_good m n other first more)
  ]

  lost_or_bad : (n m : ℕ) → IsFirstLost wanted head contents n → IsFirstBadChunk wanted head contents m → ⊥
  lost_or_bad n m lost bad = lost.is_lost (bad.headers n lost.is_wanted)

  -- they refuse with one status
  pub refused_once : (a b : Status) → LanesRefuse wanted head contents a → LanesRefuse wanted head contents b → a ≡ b
  refused_once a b first other = elim first [
    | inl (n, lost, is) ↦ elim other [
      | inl (m, again, same) ↦ is ∙ ap (λ (k : ℕ). EndsLost (name_at head.spaces k)) (lost_once n m lost again) ∙ sym same
      | inr (m, bad, same) ↦ absurd (lost_or_bad n m lost bad)
    ]
    | inr (n, bad, is) ↦ elim other [
      | inl (m, lost, same) ↦ absurd (lost_or_bad m n lost bad)
      | inr (m, again, same) ↦ is ∙ ap (λ (k : ℕ). EndsBad (Chunk k) no_slot) (bad_once n m bad again) ∙ sym same
    ]
  ]

  -- and not where they allow it
  pub not_refused : (status : Status) → LanesAllow wanted head contents → LanesRefuse wanted head contents status → ⊥
  not_refused status allow refuse = elim refuse [
    | inl (n, lost, is) ↦ let good = allow n lost.is_wanted in lost.is_lost good.header
    | inr (n, bad, is) ↦ let good = allow n bad.is_wanted in bad.bad good.state good.mark
  ]

module _ {D : Type 0} (disk : Ghosts D) (tells : IsTrue disk.is_modelled) (era : EraView) (wanted : Option ℕ) (head : Head) (old new : Site D) where
  -- what all chunks of lanes that were opened hold
  pub opens_allow : IsMadeSite old → ((n : ℕ) → IsWanted wanted head n → n < length old.lanes.items) → Opens disk wanted head era old.lanes.items new.lanes.items
      → LanesAllow wanted head (contents_of disk old)
  opens_allow made within opens n w =
      let was = there_is old.lanes.items n (within n w) in
      let is = there_is new.lanes.items n (omega (arith, within n w, opens.as_many)) in
      let tries = opens.each n was.0 is.0 w was.1 is.1 in
      let at = made.lanes n was.0 was.1 in
      record {
        header = has_of_headed disk era head n old.lanes.items was.0 tries.mid was.1 at.space tries.syncs tries.synced (tries.came.header tells);
        state = state_of is.0;
        mark = mark_of_mid disk era head n old.lanes.items was.0 tries.mid was.1 at.space tries.syncs tries.synced (state_of is.0) (tries.came.found tells);
      }

  -- and those of lanes that are refused
  pub refuse_by : (own : LanesFault) → RefusesBy disk wanted head own old.lanes.items → LanesRefuse wanted head (contents_of disk old) (status_in (of_lanes head.spaces own))
  refuse_by (ChunkLost n) refuses =
      let is = refuses tells in inl (n, record { is_wanted = is.is_wanted; is_lost = is.is_lost; before = is.before }, refl)
  refuse_by (BadMark n) refuses =
      let is = refuses tells in
      inr (
        n,
        record {
          headers = is.headers;
          is_wanted = is.is_wanted;
          bad = is.bad;
          before = λ other w less. let good = is.before other w less in record { header = good.header; state = good.state; mark = good.mark };
        },
        refl,
      )
  refuse_by (Failed n) refuses = absurd refuses

  stops_refuse : (refused : Coming disk) (to : ℕ) (own : LanesFault) → Stops disk wanted head era refused to own old.lanes.items new.lanes.items
      → IsFailure (of_lanes head.spaces own) ⊎ LanesRefuse wanted head (contents_of disk old) (status_in (of_lanes head.spaces own))
  stops_refuse refused to own stops = elim stops [
    | inl syncing ↦ inl (failure own syncing.1.space syncing.1.fault_is)
    | inr (lt, inl failed) ↦ inl (failure own failed.1.space failed.1.fault_is)
    | inr (lt, inr refuses) ↦ inr (refuse_by own refuses.1)
  ]
    where
      failure : (fault : LanesFault) (n : ℕ) → fault ≡ Failed n → IsFailure (of_lanes head.spaces fault)
      failure fault n is = subst (λ (f : LanesFault). IsFailure (of_lanes head.spaces f)) (sym is) tt

  pub site_refuses : (refused : Coming disk) (to : ℕ) (fault : SiteFault) → StopsSite disk wanted head era refused to fault old new
      → IsFailure fault ⊎ LanesRefuse wanted head (contents_of disk old) (status_in fault)
  site_refuses refused to fault stops =
      subst (λ (f : SiteFault). IsFailure f ⊎ LanesRefuse wanted head (contents_of disk old) (status_in f)) (sym stops.fault_is) (stops_refuse refused to stops.own stops.stops)

-- one head
pub named_once : (a b : Head) (contents : Contents_of) → Named a contents → Named b contents → a ≡ b
named_once a b contents first second = one_catalogue_header a b first.is_head second.is_head (sym first.header.tail_stands ∙ second.header.tail_stands)

-- by the check of all lanes
module _ (head : Head) (contents : Contents_of) (named : Named head contents) where
  pub allowed_all : LanesAllow None head contents → AllowedBy (all_lanes ∷ []) contents
  allowed_all allow = ((head, named, allow), tt)

  pub refused_all : (status : Status) → LanesRefuse None head contents status → RefusedBy (all_lanes ∷ []) contents status
  refused_all status refuse = inl (head, named, refuse)

  pub all_refused : (status : Status) → RefusedBy (all_lanes ∷ []) contents status → LanesRefuse None head contents status
  all_refused status refused = ⊎_elim
      (λ (by : (other : Head) × Named other contents × LanesRefuse None other contents status).
      subst (λ (h : Head). LanesRefuse None h contents status) (named_once by.0 head contents by.1 named) by.2)
      (λ (none : ((other : Head) × Named other contents × LanesAllow None other contents) × ⊥). absurd none.1)
      refused
