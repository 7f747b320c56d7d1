-- What the disks of a store say of its opening.
use Rattle.std.proofs.Common.{◌≡◌, ℕ, suc, ◌+◌, ◌^◌, ◌<◌, ◌≤◌, Bool, true, false, List, ◌∷◌, take, drop, Some, inl, inr, refl, sym, ap, subst, ◌∙◌, arith, ⊎_elim}
use Rattle.std.proofs.lemmas.Bool.{cases_lt}
use Rattle.std.specs.Prelude.{slice_get}
use Rattle.std.specs.Int.{w32}
use Rattle.byte_fields.proofs.FieldLemmas.{same_number}
use Rattle.block_chain.specs.Blocks.{times, AreSound, RefusesFirst}
use Rattle.block_chain.specs.BlocksLaws.{times-append, times_head}
use Rattle.gated_slots.specs.Slots.{used}
use Rattle.site_headers.specs.Areas.{slot_count}
use Rattle.site_headers.specs.Heads.{Head}
use Rattle.site_headers.specs.HeaderLaws.{one_catalogue_header}
use Rattle.site_headers.specs.Headers.{volume_tail, volume_own, header_tail}
use Rattle.catalogue_slots.specs.Records.{Object}
use Rattle.catalogue_replay.specs.Answers.{HasHead, HasNoHead, IsBadCatalogue, IsCatalogue, IsFirstBad, IsBadMark, AreBadSlots, IsBadSpare}
use Rattle.catalogue_replay.specs.Contents.{Contents}
use Rattle.catalogue_replay.specs.Places.{area_of}
use Rattle.catalogue_replay.specs.declared.faults.CatFault.{CatFault}
use Rattle.catalogue_replay.specs.declared.faults.CatFault.TheVariants.{NotFormatted as NoCatalogue, BadRecord as BadPlace, CatalogueFull, TooManyObjects, Failed as CatalogueFailed, OutOfMemory as NoMemory}
use Rattle.catalogue_replay.proofs.SameLemmas.{journals_once, not_refused, slot_not_bad}
use Rattle.object_volume.specs.Headers.{HasVolume, Overlaps}
use Rattle.object_store.specs.Holdings.{blocks_of_all}
use Rattle.store_opening.specs.Faults.{fault_of_catalogue, IsFailure, IsRefusal, NamesAsWell}
use Rattle.store_opening.specs.Opening.{live_on, IsGoodVolume, IsBadVolume, IsBadBehind, IsBadPlace, StoreRefuses, IsGoodStore, ShowsStore}
use Rattle.store_opening.specs.declared.faults.StoreDisk.{StoreDisk}
use Rattle.store_opening.specs.declared.faults.StoreDisk.TheVariants.{Cat, Spare, Volume as VolumeOf}
use Rattle.store_opening.specs.declared.faults.StoreFault.{StoreFault}
use Rattle.store_opening.specs.declared.faults.StoreFault.TheVariants.{OutOfMemory, DiskFault, NotFormatted, BadRecord}

-- ---- volumes

same_count : (number site a b : ℕ) → a < 2 ^ 32 → b < 2 ^ 32 → volume_tail number site a ≡ volume_tail number site b → a ≡ b
unfolding header_tail volume_own
same_count number site a b fits other e = same_number w32 a b (omega arith) fits other (ap (λ (l : List ℕ). take 4 (drop 15 l)) e)

-- a volume's header names one count of blocks
pub one_count : (number site a b : ℕ) (file : List ℕ) → HasVolume number site a file → HasVolume number site b file → a ≡ b
one_count number site a b file first second =
    same_count number site a b (omega (arith, first.size.few)) (omega (arith, second.size.few)) (sym first.header.tail_stands ∙ second.header.tail_stands)

-- of blocks that lie apart none is refused
not_first : (n : ℕ) (xs : List ℕ) (block : ℕ) → AreSound n xs → RefusesFirst n xs block → ⊥
not_first n xs block sound refused = ⊎_elim
    (λ (beyond : n ≤ block). absurd (omega (arith, beyond, sound.below block (omega (arith, count)))))
    (λ (twice : 0 < times block refused.before). absurd (omega (arith, twice, count, sound.once block)))
    refused.fault
  where
    count : times block xs ≡ times block refused.before + suc (times block refused.behind)
    count =
        ap (times block) refused.order ∙ times-append block refused.before (block ∷ refused.behind)
        ∙ ap (λ (k : ℕ). times block refused.before + k) (times_head block refused.behind)

pub good_not_bad : (number site : ℕ) (objects : List Object) (file : List ℕ) → IsGoodVolume number site objects file → IsBadVolume number site objects file → ⊥
good_not_bad number site objects file good bad = ⊎_elim
    (λ none. none good.blocks good.header)
    (λ (over : (block : ℕ) × Overlaps true number site file (blocks_of_all (live_on number objects)) block).
    let same : over.1.blocks ≡ good.blocks = one_count number site over.1.blocks good.blocks file (over.1.header refl) good.header in
    not_first good.blocks (blocks_of_all (live_on number objects)) over.0 good.sound
    (subst (λ (n : ℕ). RefusesFirst n (blocks_of_all (live_on number objects)) over.0) same over.1.refused))
    bad

-- ---- the catalogue

module _ (cat spare : List ℕ) where
  heads_same : (a b : Head) → HasHead a cat → HasHead b cat → a ≡ b
  heads_same a b first second = one_catalogue_header a b first.is_head second.is_head (sym first.header.tail_stands ∙ second.header.tail_stands)

  pub one_head : (a b : Head) (c d : Contents) → IsCatalogue slot_count a c cat spare → IsCatalogue slot_count b d cat spare → a ≡ b
  one_head a b c d first second = heads_same a b first.heads second.heads

  pub one_contents : (a b : Head) (c d : Contents) → IsCatalogue slot_count a c cat spare → IsCatalogue slot_count b d cat spare → c ≡ d
  one_contents a b c d first second = journals_once (area_of slot_count) c d cat first.journal second.journal

  -- two disks that are a catalogue have no bad place
  pub no_bad : (head : Head) (contents : Contents) (which : Bool) (slot : ℕ) → IsCatalogue slot_count head contents cat spare → IsFirstBad (area_of slot_count) cat spare which slot → ⊥
  no_bad head contents which slot is bad = not_refused slot_count head contents cat spare (BadPlace which slot) is.heads is.mark is.journal is.spare tt bad

  -- one that isn't opened is refused by its place
  pub refuses_catalogue : (files : List (List ℕ)) (fault : CatFault) → IsBadCatalogue (area_of slot_count) cat spare fault → StoreRefuses cat spare files (fault_of_catalogue fault)
  refuses_catalogue files NoCatalogue bad = bad
  refuses_catalogue files (BadPlace false slot) bad = bad
  refuses_catalogue files (BadPlace true slot) bad = bad
  refuses_catalogue files (CatalogueFull used wanted) bad = absurd bad
  refuses_catalogue files (TooManyObjects live last) bad = absurd bad
  refuses_catalogue files (CatalogueFailed which) bad = tt
  refuses_catalogue files NoMemory bad = tt

  -- and one that is a catalogue only fails
  pub only_fails : (head : Head) (contents : Contents) (fault : CatFault) → IsCatalogue slot_count head contents cat spare → IsBadCatalogue (area_of slot_count) cat spare fault
      → IsFailure (fault_of_catalogue fault)
  only_fails head contents NoCatalogue is bad = absurd (bad head is.heads.is_head is.heads.header)
  only_fails head contents (BadPlace which slot) is bad = absurd (no_bad head contents which slot is bad)
  only_fails head contents (CatalogueFull used wanted) is bad = absurd bad
  only_fails head contents (TooManyObjects live last) is bad = absurd bad
  only_fails head contents (CatalogueFailed which) is bad = tt
  only_fails head contents NoMemory is bad = tt

  -- ---- the store

  module _ (files : List (List ℕ)) where
    -- a volume behind a good catalogue that is good isn't bad
    no_bad_volume : (head : Head) (contents : Contents) (number slot : ℕ) → IsCatalogue slot_count head contents cat spare
        → ((file : List ℕ) → slice_get files number ≡ Some file → IsGoodVolume number head.site contents.objects file) → IsBadBehind cat spare files number slot → ⊥
    no_bad_volume head contents number slot is good bad =
        let heads : bad.head ≡ head = one_head bad.head head bad.contents contents bad.catalogue is in
        let same : bad.contents ≡ contents = one_contents bad.head head bad.contents contents bad.catalogue is in
        good_not_bad number head.site contents.objects bad.first.file (good bad.first.file bad.first.there)
        (subst (λ (h : Head). IsBadVolume number h.site contents.objects bad.first.file) heads
        (subst (λ (c : Contents). IsBadVolume number bad.head.site c.objects bad.first.file) same bad.first.bad))

    -- disks that are all as they should be aren't refused
    pub good_opens : (head : Head) (contents : Contents) (fault : StoreFault) → IsGoodStore head contents cat spare files → IsRefusal fault → StoreRefuses cat spare files fault → ⊥
    good_opens head contents OutOfMemory good refusal refuses = refusal
    good_opens head contents (DiskFault disk) good refusal refuses = refusal
    good_opens head contents NotFormatted good refusal refuses = refuses head good.catalogue.heads.is_head good.catalogue.heads.header
    good_opens head contents (BadRecord Cat slot) good refusal refuses = no_bad head contents false slot good.catalogue refuses
    good_opens head contents (BadRecord Spare slot) good refusal refuses = no_bad head contents true slot good.catalogue refuses
    good_opens head contents (BadRecord (VolumeOf number) slot) good refusal refuses =
        no_bad_volume head contents number slot good.catalogue (λ file there. good.volumes number file there) refuses

    -- what is shown is as it should be
    pub shown_is_good : (head : Head) (contents : Contents) (taken : ℕ) → ShowsStore head contents taken cat spare files → IsGoodStore head contents cat spare files
    shown_is_good head contents taken shows = record {
      catalogue = shows.catalogue;
      volumes = λ place file there. record { blocks = head.blocks; header = shows.headers place file there; sound = shows.apart place };
    }

    pub shown_fails : (head : Head) (contents : Contents) (taken : ℕ) (fault : StoreFault) → ShowsStore head contents taken cat spare files → StoreRefuses cat spare files fault → IsFailure fault
    shown_fails head contents taken OutOfMemory shows refuses = tt
    shown_fails head contents taken (DiskFault disk) shows refuses = tt
    shown_fails head contents taken NotFormatted shows refuses = absurd (good_opens head contents NotFormatted (shown_is_good head contents taken shows) tt refuses)
    shown_fails head contents taken (BadRecord disk slot) shows refuses = absurd (good_opens head contents (BadRecord disk slot) (shown_is_good head contents taken shows) tt refuses)

    -- ---- refusals

    -- what is refused of the catalogue's disk isn't refused of the spare one
    cat_or_spare : (slot place : ℕ) → IsFirstBad (area_of slot_count) cat spare false slot → IsFirstBad (area_of slot_count) cat spare true place → ⊥
    cat_or_spare slot place first second = ⊎_elim
        (λ (mark : IsBadMark cat true place). absurd (differ mark.spare_is))
        (λ others. ⊎_elim
        (λ (slots : AreBadSlots (area_of slot_count) cat true place). absurd (differ slots.slots.0))
        (λ (other : IsBadSpare (area_of slot_count) second.head.site cat spare true place). ⊎_elim
        (λ (mark : IsBadMark cat false slot). mark.mark other.mark)
        (λ rest. ⊎_elim
        (λ (slots : AreBadSlots (area_of slot_count) cat false slot). slot_not_bad slot_count other.contents cat false slot other.journal slots.slots)
        (λ (also : IsBadSpare (area_of slot_count) first.head.site cat spare false slot). absurd (differ (sym also.spare_is)))
        rest)
        first.place)
        others)
        second.place
      where
        differ : true ≡ false → ⊥
        differ e = cc

    volume_first : (m n s t : ℕ) → m < n → IsBadBehind cat spare files m s → IsBadBehind cat spare files n t → ⊥
    volume_first m n s t lt first second =
        no_bad_volume second.head second.contents m s second.catalogue (λ file there. second.first.before m file lt there) first

    same_volume : (m n s t : ℕ) → IsBadBehind cat spare files m s → IsBadBehind cat spare files n t → VolumeOf m ≡ VolumeOf n
    same_volume m n s t first second = elim (cases_lt m n) [
      | inl lt ↦ absurd (volume_first m n s t lt first second)
      | inr ge ↦ elim (cases_lt n m) [
        | inl gt ↦ absurd (volume_first n m t s gt second first)
        | inr le ↦ ap VolumeOf (omega (arith, ge, le))
      ]
    ]

    no_head_and : (disk : StoreDisk) (slot : ℕ) → HasNoHead cat → IsBadPlace cat spare files disk slot → ⊥
    no_head_and Cat slot none bad = none bad.head bad.has.is_head bad.has.header
    no_head_and Spare slot none bad = none bad.head bad.has.is_head bad.has.header
    no_head_and (VolumeOf number) slot none bad = none bad.head bad.catalogue.heads.is_head bad.catalogue.heads.header

    same_disk : (disk other : StoreDisk) (slot place : ℕ) → IsBadPlace cat spare files disk slot → IsBadPlace cat spare files other place → disk ≡ other
    same_disk Cat Cat slot place first second = refl
    same_disk Cat Spare slot place first second = absurd (cat_or_spare slot place first second)
    same_disk Cat (VolumeOf n) slot place first second = absurd (no_bad second.head second.contents false slot second.catalogue first)
    same_disk Spare Cat slot place first second = absurd (cat_or_spare place slot second first)
    same_disk Spare Spare slot place first second = refl
    same_disk Spare (VolumeOf n) slot place first second = absurd (no_bad second.head second.contents true slot second.catalogue first)
    same_disk (VolumeOf m) Cat slot place first second = absurd (no_bad first.head first.contents false place first.catalogue second)
    same_disk (VolumeOf m) Spare slot place first second = absurd (no_bad first.head first.contents true place first.catalogue second)
    same_disk (VolumeOf m) (VolumeOf n) slot place first second = same_volume m n slot place first second

    -- two refusals name one disk
    pub refused_once : (fault other : StoreFault) → IsRefusal fault → IsRefusal other → StoreRefuses cat spare files fault → StoreRefuses cat spare files other → NamesAsWell fault other
    refused_once NotFormatted NotFormatted is also first second = tt
    refused_once NotFormatted (BadRecord disk slot) is also first second = absurd (no_head_and disk slot first second)
    refused_once (BadRecord disk slot) NotFormatted is also first second = absurd (no_head_and disk slot second first)
    refused_once (BadRecord disk slot) (BadRecord other place) is also first second = same_disk disk other slot place first second
    refused_once OutOfMemory other is also first second = absurd is
    refused_once (DiskFault disk) other is also first second = absurd is
    refused_once NotFormatted OutOfMemory is also first second = absurd also
    refused_once NotFormatted (DiskFault disk) is also first second = absurd also
    refused_once (BadRecord disk slot) OutOfMemory is also first second = absurd also
    refused_once (BadRecord disk slot) (DiskFault other) is also first second = absurd also
