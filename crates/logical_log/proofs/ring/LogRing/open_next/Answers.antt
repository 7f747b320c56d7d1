use Rattle.std.proofs.Common.{◌≡◌, ◌∷◌, [], ℕ, List, arith, sym, subst, ◌∙◌, inl, inr}
use Rattle.site_disk.specs.Images.{Leaves}
use Rattle.site_disk.specs.Seen.{seen}
use Rattle.std.specs.Prelude.{OnOk}
use Rattle.site_disk.specs.CallsLaws.{on_ok}
use Rattle.log_files.specs.Files.{LogFiles, with_next, with_place, without_oldest}
use Rattle.log_files.specs.Ring.{HoldsOneOf, MayPass}
use Rattle.logical_log.specs.Rings.{Stands}
use Rattle.logical_log.proofs.PassLemmas.{pass_less, pass_on}
use Rattle.logical_log.proofs.StandsLemmas.{place_full, place_free}
use Rattle.logical_log.proofs.ring.LogRing.open_next.Goals as goal

wider : (site : ℕ) (files next last : LogFiles) (c : List ℕ) → HoldsOneOf site (files ∷ next ∷ []) c → HoldsOneOf site (files ∷ next ∷ last ∷ []) c
wider site files next last c (inl was) = inl was
wider site files next last c (inr (inl is)) = inr (inl is)
wider site files next last c (inr (inr none)) = absurd none

pub returns-then-not-is_full-clause-crash : goal.returns-then-not-is_full-clause-crash
returns-then-not-is_full-clause-crash g c tells site files stands =
    let place : with_place files ≡ files = place_free files (sym (c.is_full.ensures files stands.tells.held) ∙ c.if-not-is_full.true) in
    subst (λ (k : LogFiles). Leaves c.args.era.now.number (MayPass site files (k ∷ with_next k ∷ [])) (g.D.Disk.image c.args.self.now.disk) (g.D.Disk.image c.name_next.new.self.disk)) (sym place)
    (pass_less site files (with_next files ∷ []) (files ∷ with_next files ∷ []) c.args.era.now.number _ _ (λ d either. inr either) (c.name_next.ensures.crash tells site files stands))

pub returns-in_err-drop_oldest-clause-crash : goal.returns-in_err-drop_oldest-clause-crash
returns-in_err-drop_oldest-clause-crash g c tells site files stands =
    let dropped : LogFiles = without_oldest files in
    let place : with_place files ≡ dropped = place_full files (sym (c.is_full.ensures files stands.tells.held) ∙ c.if-not-is_full.false) in
    subst (λ (k : LogFiles). Leaves c.args.era.now.number (MayPass site files (k ∷ with_next k ∷ [])) (g.D.Disk.image c.args.self.now.disk) (g.D.Disk.image c.drop_oldest.new.self.disk)) (sym place)
    (pass_less site files (dropped ∷ []) (dropped ∷ with_next dropped ∷ []) c.args.era.now.number _ _ (wider site files dropped (with_next dropped)) (c.drop_oldest.ensures.crash tells site files stands))

pub returns-clause-opened : goal.returns-clause-opened
returns-clause-opened g c =
    let files = c.requires.opened.files in
    on_ok c.name_next-2.result (λ told. record { made = c.name_next-2.ensures.made; files = with_next (without_oldest files); tells = told })
    (c.name_next-2.ensures.told (without_oldest files) (c.drop_oldest.ensures.told files c.requires.opened.tells))

pub returns-clause-stands : goal.returns-clause-stands
returns-clause-stands g c tells site files stands =
    let dropped : LogFiles = without_oldest files in
    let place : with_place files ≡ dropped = place_full files (sym (c.is_full.ensures files stands.tells.held) ∙ c.if-not-is_full.false) in
    subst (λ (k : LogFiles). OnOk c.name_next-2.result (Stands site (with_next k) (seen g.D.Disk c.name_next-2.new.self.disk) c.name_next-2.new.self)) (sym place)
    (c.name_next-2.ensures.stands tells site dropped (c.in_ok-drop_oldest.ensures.stands tells site files stands))

pub returns-clause-crash : goal.returns-clause-crash
returns-clause-crash g c tells site files stands =
    let e : ℕ = c.args.era.now.number in
    let disk = c.args.self.now.disk in
    let dropped : LogFiles = without_oldest files in
    let place : with_place files ≡ dropped = place_full files (sym (c.is_full.ensures files stands.tells.held) ∙ c.if-not-is_full.false) in
    let mid = c.in_ok-drop_oldest.ensures.stands tells site files stands in
    subst (λ (k : LogFiles). Leaves e (MayPass site files (k ∷ with_next k ∷ [])) (g.D.Disk.image disk) (g.D.Disk.image c.name_next-2.new.self.disk)) (sym place)
    (pass_on site files dropped (dropped ∷ with_next dropped ∷ []) (with_next dropped ∷ []) e (g.D.Disk.bytes disk) (g.D.Disk.bytes c.drop_oldest.new.self.disk) _ _ _
    (pass_less site files (dropped ∷ []) (dropped ∷ with_next dropped ∷ []) e _ _ (wider site files dropped (with_next dropped)) (c.drop_oldest.ensures.crash tells site files stands))
    (c.in_ok-drop_oldest.ensures.durable tells) (λ f lt. g.met.D.Disk.reads_as disk f tells (omega (arith, lt, c.requires.era.not_past))) mid.now (λ d either. inr either)
    (c.name_next-2.ensures.crash tells site dropped mid))
