-- What bytes refuse they don't let pass, and what they refuse names one disk.
use Rattle.std.proofs.Common.{◌≡◌, ℕ, ◌<◌, Bool, true, false, List, [], ◌∷◌, ◌++◌, Option, None, Some, inl, inr, refl, sym, ap, subst, ◌∙◌, arith, ⊎_elim}
use Rattle.std.proofs.lemmas.Bool.{cases_lt}
use Rattle.site_headers.specs.Heads.{Head}
use Rattle.site_headers.specs.HeaderLaws.{one_catalogue_header}
use Rattle.catalogue_replay.specs.Contents.{Contents}
use Rattle.boot_file.specs.Answers.{IsFirstBad as IsFirstBadBoot}
use Rattle.log_files.specs.Ring.{HoldsRing}
use Rattle.log_files.specs.declared.faults.LogFault.{LogFault}
use Rattle.log_files.specs.declared.faults.LogFault.TheVariants.{LogLost as LostLog, BadRecord as BadSlot, Failed, OutOfMemory as NoMemory}
use Rattle.log_scan.specs.Refusals.{Refuses as LogRefuses}
use Rattle.log_scan.proofs.LawLemmas.{not_refused, one_refusal, one_ring}
use Rattle.held_log.specs.Strays.{first_stray}
use Rattle.store_opening.specs.Opening.{IsGoodVolume, IsBadVolume}
use Rattle.store_opening.specs.declared.faults.StoreDisk.TheVariants.{Cat as StoreCat, Spare as StoreSpare}
use Rattle.store_opening.specs.declared.faults.StoreFault.TheVariants.{BadRecord as BadStore}
use Rattle.store_opening.proofs.StoreLemmas.{good_not_bad, no_bad, one_contents, one_head, refused_once}
use Rattle.site_model.specs.declared.disk_name.DiskName.{DiskName}
use Rattle.site_model.specs.declared.disk_name.DiskName.TheVariants.{Cat, Spare, Boot, Log, Volume, Chunk}
use Rattle.site_model.specs.declared.status.Status.{Status}
use Rattle.site_model.specs.declared.status.Status.TheVariants.{BadRecord, NeedsRestart, ChunkLost}
use Rattle.site_model.specs.Runs.{name_at, show_refusal}
use Rattle.site_layouts.specs.Stores.{catalogue_area}
use Rattle.onbar_grammar.specs.Script.{place_of}
use Rattle.backup_lines.specs.Spans.{Active}
use Rattle.boot_file.specs.Places.{HoldsBoot}
use Rattle.boot_file.specs.PlacesLaws.{one_boot}
use Rattle.catalogue_replay.specs.Answers.{IsFirstBad, IsCatalogue}
use Rattle.site_headers.specs.Areas.{slot_count}
use Rattle.site_openings.specs.Openings.{Check, formatted_site, unformatted_site, good_catalogue, good_boot, good_volumes, no_restore, shown_place, good_log, records_in_order, all_lanes, shown_lane, Contents_of, Named, Refuses, Allows, RefusedBy, AllowedBy, IsFirstBadVolume, catalogue_disk, log_status, IsGoodChunk, IsFirstLost, IsFirstBadChunk, LanesRefuse, LanesAllow, LaneOfRefuses, LaneOfAllows, NamesAsWell}
use Rattle.site_openings.proofs.BootLemmas.{boot_not_bad}

-- ---- statuses

pub same_names : (s t : Status) → s ≡ t → NamesAsWell s t
same_names (BadRecord disk slot) t e = subst (NamesAsWell (BadRecord disk slot)) e refl
same_names s t e = e

bad_names : (disk other : DiskName) (slot place : ℕ) (s t : Status) → s ≡ BadRecord disk slot → t ≡ BadRecord other place → disk ≡ other → NamesAsWell s t
bad_names disk other slot place s t s_is t_is same =
    subst (λ (u : Status). NamesAsWell u t) (sym s_is) (subst (λ (u : Status). NamesAsWell (BadRecord disk slot) u) (sym t_is) same)

module _ (contents : Contents_of) where
  one_name : (a b : Head) → Named a contents → Named b contents → a ≡ b
  one_name a b first second = one_catalogue_header a b first.is_head second.is_head (sym first.header.tail_stands ∙ second.header.tail_stands)

  -- ---- lanes

  lanes_excl : (wanted : Option ℕ) (head : Head) (status : Status) → LanesRefuse wanted head contents status → LanesAllow wanted head contents → ⊥
  lanes_excl wanted head status refuses allows = ⊎_elim
      (λ (lost : (space : ℕ) × IsFirstLost wanted head contents space × (status ≡ ChunkLost (name_at head.spaces space))). lost.1.is_lost (allows lost.0 lost.1.is_wanted).header)
      (λ (bad : (space : ℕ) × IsFirstBadChunk wanted head contents space × (status ≡ BadRecord (Chunk space) 4294967295)).
      let good : IsGoodChunk head bad.0 (contents (Chunk bad.0)) = allows bad.0 bad.1.is_wanted in bad.1.bad good.state good.mark)
      refuses

  lost_before : (wanted : Option ℕ) (head : Head) (m n : ℕ) → IsFirstLost wanted head contents m → IsFirstLost wanted head contents n → m < n → ⊥
  lost_before wanted head m n first second lt = first.is_lost (second.before m first.is_wanted lt)

  bad_before : (wanted : Option ℕ) (head : Head) (m n : ℕ) → IsFirstBadChunk wanted head contents m → IsFirstBadChunk wanted head contents n → m < n → ⊥
  bad_before wanted head m n first second lt =
      let good : IsGoodChunk head m (contents (Chunk m)) = second.before m first.is_wanted lt in first.bad good.state good.mark

  -- of two spaces neither of which comes before the other
  one_space : (m n : ℕ) → (m < n → ⊥) → (n < m → ⊥) → m ≡ n
  one_space m n first second = elim (cases_lt m n) [
    | inl lt ↦ absurd (first lt)
    | inr ge ↦ elim (cases_lt n m) [
      | inl gt ↦ absurd (second gt)
      | inr le ↦ omega (arith, ge, le)
    ]
  ]

  lost_or_bad : (wanted : Option ℕ) (head : Head) (m n : ℕ) → IsFirstLost wanted head contents m → IsFirstBadChunk wanted head contents n → ⊥
  lost_or_bad wanted head m n lost bad = lost.is_lost (bad.headers m lost.is_wanted)

  lanes_alike : (wanted : Option ℕ) (head : Head) (s t : Status) → LanesRefuse wanted head contents s → LanesRefuse wanted head contents t → NamesAsWell s t
  lanes_alike wanted head s t (inl a) (inl b) =
      same_names s t (a.2 ∙ ap (λ (n : ℕ). ChunkLost (name_at head.spaces n)) (one_space a.0 b.0 (lost_before wanted head a.0 b.0 a.1 b.1) (lost_before wanted head b.0 a.0 b.1 a.1)) ∙ sym b.2)
  lanes_alike wanted head s t (inl a) (inr b) = absurd (lost_or_bad wanted head a.0 b.0 a.1 b.1)
  lanes_alike wanted head s t (inr a) (inl b) = absurd (lost_or_bad wanted head b.0 a.0 b.1 a.1)
  lanes_alike wanted head s t (inr a) (inr b) =
      bad_names (Chunk a.0) (Chunk b.0) 4294967295 4294967295 s t a.2 b.2
      (ap Chunk (one_space a.0 b.0 (bad_before wanted head a.0 b.0 a.1 b.1) (bad_before wanted head b.0 a.0 b.1 a.1)))

  lane_of_excl : (place : Option (ℕ × ℕ)) (head : Head) (status : Status) → LaneOfRefuses place head contents status → LaneOfAllows place head contents → ⊥
  lane_of_excl None head status refuses allows = allows
  lane_of_excl (Some place) head status refuses allows = lanes_excl (Some place.0) head status refuses allows

  lane_of_alike : (place : Option (ℕ × ℕ)) (head : Head) (s t : Status) → LaneOfRefuses place head contents s → LaneOfRefuses place head contents t → NamesAsWell s t
  lane_of_alike None head s t first second = absurd first
  lane_of_alike (Some place) head s t first second = lanes_alike (Some place.0) head s t first second

  -- ---- each check

  volume_not_bad : (head other : Head) (has contents_too : Contents) (number : ℕ) → IsCatalogue slot_count head has (contents Cat) (contents Spare) → IsCatalogue slot_count other contents_too (contents Cat) (contents Spare)
      → IsGoodVolume number other.site contents_too.objects (contents (Volume number)) → IsBadVolume number head.site has.objects (contents (Volume number)) → ⊥
  volume_not_bad head other has contents_too number is also good bad =
      let heads : head ≡ other = one_head (contents Cat) (contents Spare) head other has contents_too is also in
      let same : has ≡ contents_too = one_contents (contents Cat) (contents Spare) head other has contents_too is also in
      good_not_bad number other.site contents_too.objects (contents (Volume number)) good
      (subst (λ (h : Head). IsBadVolume number h.site contents_too.objects (contents (Volume number))) heads
      (subst (λ (c : Contents). IsBadVolume number head.site c.objects (contents (Volume number))) same bad))

  excl : (check : Check) (status : Status) → Refuses check contents status → Allows check contents → ⊥
  excl formatted_site status refuses allows = refuses.0 allows.0 allows.1.is_head allows.1.header
  excl good_catalogue status refuses allows = no_bad (contents Cat) (contents Spare) allows.0 allows.1 refuses.0 refuses.1 allows.2 refuses.2
  excl good_boot status refuses allows =
      let heads : refuses.0 ≡ allows.0 = one_name refuses.0 allows.0 refuses.1 allows.1 in
      boot_not_bad allows.0.site allows.2.0 allows.2.1 allows.2.2 (contents Boot) refuses.2.0 allows.2.3
      (subst (λ (h : Head). IsFirstBadBoot h.site (contents Boot) refuses.2.0) heads refuses.2.1)
  excl good_volumes status refuses allows =
      volume_not_bad refuses.0 allows.0 refuses.1 allows.1 refuses.3.0 refuses.2 allows.2 (allows.3 refuses.3.0 refuses.3.1.within) refuses.3.1.bad
  excl good_log status refuses allows =
      let heads : refuses.0 ≡ allows.0 = one_name refuses.0 allows.0 refuses.1 allows.1 in
      not_refused allows.0.site allows.2.0 (contents Log) refuses.2.0 allows.2.1
      (subst (λ (h : Head). LogRefuses h.site (contents Log) refuses.2.0) heads refuses.2.1)
  excl records_in_order status refuses allows =
      let heads : refuses.0 ≡ allows.0 = one_name refuses.0 allows.0 refuses.1 allows.1 in
      let same : refuses.2.0 ≡ allows.2.0 = one_ring allows.0.site refuses.2.0 allows.2.0 (contents Log)
      (subst (λ (h : Head). HoldsRing h.site refuses.2.0 (contents Log)) heads refuses.2.1) allows.2.1 in
      nothing refuses.2.2.0 (sym allows.2.2 ∙ ap first_stray (sym same) ∙ refuses.2.2.1)
    where
      nothing : (slot : ℕ) → ◌≡◌ {A = Option ℕ} None (Some slot) → ⊥
      nothing slot e = cc
  excl unformatted_site status refuses allows = allows refuses.0.0 refuses.0.1.is_head refuses.0.1.header
  excl no_restore status refuses allows =
      let heads : refuses.0 ≡ allows.0 = one_name refuses.0 allows.0 refuses.1 allows.1 in
      let same = one_boot allows.0.site refuses.2.0 allows.2.0 refuses.2.1 allows.2.1 (Some refuses.2.2) None (contents Boot)
      (subst (λ (h : Head). HoldsBoot h.site refuses.2.0 refuses.2.1 (Some refuses.2.2) (contents Boot)) heads refuses.2.3) allows.2.2 in
      nothing refuses.2.2 (sym same.active_is)
    where
      nothing : (active : Active) → ◌≡◌ {A = Option Active} None (Some active) → ⊥
      nothing active e = cc
  excl (shown_place name page) status refuses allows =
      let heads : refuses.0 ≡ allows.0 = one_name refuses.0 allows.0 refuses.1 allows.1 in
      nothing (show_refusal allows.0.spaces name page) status (subst (λ (h : Head). show_refusal h.spaces name page ≡ Some status) heads refuses.2) allows.2
    where
      nothing : (o : Option Status) (status : Status) → o ≡ Some status → o ≡ None → ⊥
      nothing o status first second = cc
  excl all_lanes status refuses allows =
      let heads : refuses.0 ≡ allows.0 = one_name refuses.0 allows.0 refuses.1 allows.1 in
      lanes_excl None allows.0 status (subst (λ (h : Head). LanesRefuse None h contents status) heads refuses.2) allows.2
  excl (shown_lane name) status refuses allows =
      let heads : refuses.0 ≡ allows.0 = one_name refuses.0 allows.0 refuses.1 allows.1 in
      lane_of_excl (place_of name allows.0.spaces) allows.0 status (subst (λ (h : Head). LaneOfRefuses (place_of name h.spaces) h contents status) heads refuses.2) allows.2

  first_volume : (head other : Head) (has too : Contents) (m n : ℕ) → IsCatalogue slot_count head has (contents Cat) (contents Spare) → IsCatalogue slot_count other too (contents Cat) (contents Spare)
      → IsFirstBadVolume head has contents m → IsFirstBadVolume other too contents n → m < n → ⊥
  first_volume head other has too m n is also first second lt =
      volume_not_bad head other has too m is also (second.before m lt) first.bad

  one_volume : (head other : Head) (has too : Contents) (m n : ℕ) → IsCatalogue slot_count head has (contents Cat) (contents Spare) → IsCatalogue slot_count other too (contents Cat) (contents Spare)
      → IsFirstBadVolume head has contents m → IsFirstBadVolume other too contents n → m ≡ n
  one_volume head other has too m n is also first second = elim (cases_lt m n) [
    | inl lt ↦ absurd (first_volume head other has too m n is also first second lt)
    | inr ge ↦ elim (cases_lt n m) [
      | inl gt ↦ absurd (first_volume other head too has n m also is second first gt)
      | inr le ↦ omega (arith, ge, le)
    ]
  ]

  -- the disk of the catalogue or the spare one
  one_place : (a b : Bool) (s t : ℕ) → IsFirstBad catalogue_area (contents Cat) (contents Spare) a s → IsFirstBad catalogue_area (contents Cat) (contents Spare) b t → catalogue_disk a ≡ catalogue_disk b
  one_place false false s t first second = refl
  one_place true true s t first second = refl
  one_place false true s t first second = absurd (differ (refused_once (contents Cat) (contents Spare) [] (BadStore StoreCat s) (BadStore StoreSpare t) tt tt first second))
    where
      differ : StoreCat ≡ StoreSpare → ⊥
      differ e = cc
  one_place true false s t first second = absurd (differ (refused_once (contents Cat) (contents Spare) [] (BadStore StoreSpare s) (BadStore StoreCat t) tt tt first second))
    where
      differ : StoreSpare ≡ StoreCat → ⊥
      differ e = cc

  log_alike : (fault : LogFault) (s t : Status) → log_status fault s → log_status fault t → NamesAsWell s t
  log_alike LostLog s t first second = same_names s t (first ∙ sym second)
  log_alike (BadSlot slot) s t first second = same_names s t (first ∙ sym second)
  log_alike Failed s t first second = absurd first
  log_alike NoMemory s t first second = absurd first

  alike : (check : Check) (s t : Status) → Refuses check contents s → Refuses check contents t → NamesAsWell s t
  alike formatted_site s t first second = same_names s t (first.1 ∙ sym second.1)
  alike good_catalogue s t first second =
      bad_names (catalogue_disk first.0) (catalogue_disk second.0) first.1 second.1 s t first.3 second.3 (one_place first.0 second.0 first.1 second.1 first.2 second.2)
  alike good_boot s t first second = bad_names Boot Boot first.2.0 second.2.0 s t first.2.2 second.2.2 refl
  alike good_volumes s t first second =
      bad_names (Volume first.3.0) (Volume second.3.0) 4294967295 4294967295 s t first.3.2 second.3.2
      (ap Volume (one_volume first.0 second.0 first.1 second.1 first.3.0 second.3.0 first.2 second.2 first.3.1 second.3.1))
  alike good_log s t first second =
      let heads : first.0 ≡ second.0 = one_name first.0 second.0 first.1 second.1 in
      let same : first.2.0 ≡ second.2.0 = one_refusal second.0.site (contents Log) first.2.0 second.2.0
      (subst (λ (h : Head). LogRefuses h.site (contents Log) first.2.0) heads first.2.1) second.2.1 in
      log_alike second.2.0 s t (subst (λ (f : LogFault). log_status f s) same first.2.2) second.2.2
  alike records_in_order s t first second = bad_names Log Log first.2.2.0 second.2.2.0 s t first.2.2.2 second.2.2.2 refl
  alike unformatted_site s t first second = same_names s t (first.1 ∙ sym second.1)
  alike no_restore s t first second =
      let heads : first.0 ≡ second.0 = one_name first.0 second.0 first.1 second.1 in
      let same = one_boot second.0.site first.2.0 second.2.0 first.2.1 second.2.1 (Some first.2.2) (Some second.2.2) (contents Boot)
      (subst (λ (h : Head). HoldsBoot h.site first.2.0 first.2.1 (Some first.2.2) (contents Boot)) heads first.2.3) second.2.3 in
      same_names s t (first.2.4 ∙ ap (λ (active : Active). NeedsRestart active.number) (one_active first.2.2 second.2.2 same.active_is) ∙ sym second.2.4)
    where
      one_active : (a b : Active) → ◌≡◌ {A = Option Active} (Some a) (Some b) → a ≡ b
      one_active a b e = cc
  alike (shown_place name page) s t first second =
      let heads : first.0 ≡ second.0 = one_name first.0 second.0 first.1 second.1 in
      same_names s t (one_status (show_refusal second.0.spaces name page) s t (subst (λ (h : Head). show_refusal h.spaces name page ≡ Some s) heads first.2) second.2)
    where
      one_status : (o : Option Status) (a b : Status) → o ≡ Some a → o ≡ Some b → a ≡ b
      one_status o a b first second = cc
  alike all_lanes s t first second =
      let heads : first.0 ≡ second.0 = one_name first.0 second.0 first.1 second.1 in
      lanes_alike None second.0 s t (subst (λ (h : Head). LanesRefuse None h contents s) heads first.2) second.2
  alike (shown_lane name) s t first second =
      let heads : first.0 ≡ second.0 = one_name first.0 second.0 first.1 second.1 in
      lane_of_alike (place_of name second.0.spaces) second.0 s t (subst (λ (h : Head). LaneOfRefuses (place_of name h.spaces) h contents s) heads first.2) second.2

  -- ---- all checks

  pub never_both : (checks : List Check) (status : Status) → AllowedBy checks contents → RefusedBy checks contents status → ⊥
  never_both [] status allowed refused = refused
  never_both (check ∷ checks) status allowed refused =
      ⊎_elim (λ here. excl check status here allowed.0) (λ (later : Allows check contents × RefusedBy checks contents status). never_both checks status allowed.1 later.1) refused

  pub refused_alike : (checks : List Check) (s t : Status) → RefusedBy checks contents s → RefusedBy checks contents t → NamesAsWell s t
  refused_alike [] s t first second = absurd first
  refused_alike (check ∷ checks) s t first second =
      ⊎_elim
      (λ (here : Refuses check contents s). ⊎_elim
      (λ (there : Refuses check contents t). alike check s t here there)
      (λ (later : Allows check contents × RefusedBy checks contents t). absurd (excl check s here later.0))
      second)
      (λ (behind : Allows check contents × RefusedBy checks contents s). ⊎_elim
      (λ (there : Refuses check contents t). absurd (excl check t there behind.0))
      (λ (later : Allows check contents × RefusedBy checks contents t). refused_alike checks s t behind.1 later.1)
      second)
      first

  -- ---- checks behind others

  pub allowed_both : (checks more : List Check) → AllowedBy checks contents → AllowedBy more contents → AllowedBy (checks ++ more) contents
  allowed_both [] more first second = second
  allowed_both (check ∷ checks) more first second = (first.0, allowed_both checks more first.1 second)

  pub refused_front : (checks more : List Check) (status : Status) → RefusedBy checks contents status → RefusedBy (checks ++ more) contents status
  refused_front [] more status refused = absurd refused
  refused_front (check ∷ checks) more status refused = ⊎_elim
      (λ here. inl here)
      (λ (behind : Allows check contents × RefusedBy checks contents status). inr (behind.0, refused_front checks more status behind.1))
      refused

  pub refused_behind : (checks more : List Check) (status : Status) → AllowedBy checks contents → RefusedBy more contents status → RefusedBy (checks ++ more) contents status
  refused_behind [] more status allowed refused = refused
  refused_behind (check ∷ checks) more status allowed refused = inr (allowed.0, refused_behind checks more status allowed.1 refused)
