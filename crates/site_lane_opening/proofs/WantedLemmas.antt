-- Wanted lanes, and what their chunks hold.
use Rattle.std.proofs.Common.{◌≡◌, ℕ, List, length, Option, Some, None, sym, ap, subst, ◌∙◌, arith, inl, inr, ⊎_elim}
use Rattle.std.specs.Prelude.{◌⊎◌, slice_get}
use Rattle.std.specs.Option.{option_map}
use Rattle.std.proofs.lemmas.Bool.{cases_lt, cases_order}
use Rattle.site_disk.specs.Ledger.{EraView}
use Rattle.site_disk.specs.declared.disk.Disk.{Ghosts}
use Rattle.backup_lines.specs.declared.lanes.LaneState.{LaneState as State}
use Rattle.site_headers.specs.Heads.{Head}
use Rattle.site_headers.specs.Headers.{HasHeader}
use Rattle.space_lane.specs.Chunks.{HasMark, chunk_tail}
use Rattle.space_lane.specs.Lanes.{disk_of, space_of}
use Rattle.space_lane.specs.declared.lane.Lane.{Lane}
use Rattle.site_lanes.specs.Lanes.{IsHeaded, IsSyncedBy, Syncs}
use Rattle.site_model.specs.declared.disk_name.DiskName.TheVariants.{Chunk}
use Rattle.site_worlds.specs.Lanes.{pages_of_space}
use Rattle.site_openings.specs.Openings.{HasChunk, IsWanted}
use Rattle.site_core.specs.Disks.{bytes_or}
use Rattle.site_lane_opening.specs.Steps.{contents_in}

-- a lane is wanted, or isn't
pub is_wanted_or : (wanted : Option ℕ) (head : Head) (n : ℕ) → IsWanted wanted head n ⊎ (IsWanted wanted head n → ⊥)
is_wanted_or None head n = ⊎_elim (λ lt. inl lt) (λ ge. inr (λ lt. absurd (omega (arith, lt, ge)))) (cases_lt n (length head.spaces))
is_wanted_or (Some one) head n = elim (cases_order n one) [
  | inl same ↦ inl same
  | inr (inl less) ↦ inr (λ same. absurd (omega (arith, same, less)))
  | inr (inr more) ↦ inr (λ same. absurd (omega (arith, same, more)))
]

-- What a read gave of a lane's chunk, and gives behind its sync.
module _ {D : Type 0} (disk : Ghosts D) (era : EraView) (head : Head) (n : ℕ) (old : List (Lane D)) (was mid : Lane D) (there : slice_get old n ≡ Some was) (made : space_of was ≡ n)
    (syncs : Syncs disk era was mid) (synced : IsSyncedBy disk era was mid) where
  abbrev pages : ℕ
  pages = pages_of_space head.spaces n

  pub mid_space : space_of mid ≡ n
  mid_space = ap space_of syncs.value ∙ made

  pub gave : contents_in disk old (Chunk n) ≡ disk.bytes (disk_of mid)
  gave = ap (λ (o : Option (Lane D)). bytes_or disk (option_map disk_of o)) there ∙ sym synced.bytes

  pub has_of_headed : IsHeaded disk head.site pages mid → HasChunk head n (contents_in disk old (Chunk n))
  has_of_headed header =
      subst (λ (b : List ℕ). HasHeader (chunk_tail head.site n pages) b) (sym gave)
      (subst (λ (s : ℕ). HasHeader (chunk_tail head.site s pages) (disk.bytes (disk_of mid))) mid_space header)

  pub headed_of_has : HasChunk head n (contents_in disk old (Chunk n)) → IsHeaded disk head.site pages mid
  headed_of_has has =
      subst (λ (s : ℕ). HasHeader (chunk_tail head.site s pages) (disk.bytes (disk_of mid))) (sym mid_space)
      (subst (λ (b : List ℕ). HasHeader (chunk_tail head.site n pages) b) gave has)

  pub mark_of_mid : (state : State) → HasMark state (disk.bytes (disk_of mid)) → HasMark state (contents_in disk old (Chunk n))
  mark_of_mid state mark = subst (HasMark state) (sym gave) mark

  pub mid_of_mark : (state : State) → HasMark state (contents_in disk old (Chunk n)) → HasMark state (disk.bytes (disk_of mid))
  mid_of_mark state mark = subst (HasMark state) gave mark
