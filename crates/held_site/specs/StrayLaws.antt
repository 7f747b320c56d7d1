-- No Begin among the records that a fit site's log holds is refused.
use Rattle.std.specs.Prelude.{◌≡◌, ℕ, ◌+◌, ◌-◌, ◌*◌, ◌%◌, List, [], ◌∷◌, ◌++◌, length, take, reverse, Bool, true, false, nat_lt, if◌then◌else◌, Option, Some, None, refl}
use Rattle.std.specs.Option.{option_or, is_some}
use Rattle.std.proofs.Common.{arith, sym, ap, subst, ◌∙◌, append_assoc, cond}
use Rattle.std.proofs.lemmas.Bool.Decides.{nat_tests}
use Rattle.std.proofs.lemmas.List.{reverse-append, length-reverse}
use Rattle.log_history.specs.History.{LogEntry, History, begin, write, commit, abort, reset}
use Rattle.log_history.specs.Effects.{writes_back}
use Rattle.log_history.specs.Transactions.{InOrderBack, OpenTxn, Refusal, Table, lookup, table_back, too_many_open, unless_new}
use Rattle.txn_table.specs.OrderLaws.{begin_back, lookup-table_back}
use Rattle.log_files.specs.Files.{joined}
use Rattle.site_worlds.specs.Worlds.{Ring, Site}
use Rattle.site_worlds.specs.Files.{first_of_file}
use Rattle.site_worlds.specs.Fitness.{IsFitSite, FitFiles, FitRing}
use Rattle.ring_laws.specs.Rings.{files_of}
use Rattle.held_laws.specs.Reading.{begun_behind, read_back}
use Rattle.held_laws.specs.KeptLaws.{kept_few, none_kept}
use Rattle.held_laws.specs.TableLaws.{reads}
use Rattle.held_log.specs.Strays.{first_stray, held_files, is_stray, stray_from, stray_in}
use Rattle.held_log.specs.FilesLaws.{all_held}
use Rattle.held_site.specs.PartLaws.{all_records, length-before}

-- the log is there: how its files are held
pub ring_of : (site : Site) (ring : Ring) → site.ring ≡ Some ring → IsFitSite site → FitRing site.history site.starts site.lines ring
ring_of site ring is fit = let files : FitFiles site.history site.starts site.lines (Some ring) = subst (FitFiles site.history site.starts site.lines) is fit.files in files

module _ (older : List LogEntry) where
  -- a record that may follow is no Begin that a reader refuses
  follows : (entry : LogEntry) (past : List LogEntry) → InOrderBack (entry ∷ (past ++ older)) → is_stray entry (read_back (length older) past) ≡ false
  follows (begin txn) past order =
      let T : Table = table_back (past ++ older) in
      let kept : Table = begun_behind (length older) T in
      let none : lookup txn T ≡ None =
      lookup-table_back txn (past ++ older)
      ∙ ap (λ (b : Bool). cond b (Some (record { txn = txn; first = begin_back txn (past ++ older); patches = writes_back txn (past ++ older) })) None) order.0.0 in
      let few : nat_lt (length kept) 64 ≡ true = (let less = order.0.1 in let fewer = kept_few (length older) T in grind (arith, nat_tests, less, fewer)) in
      let allowed : unless_new (lookup txn kept) (length kept) ≡ None =
      ap (λ (o : Option OpenTxn). unless_new o (length kept)) (none_kept (length older) txn T none)
      ∙ ap (λ (b : Bool). if b then None else Some too_many_open) few in
      ap (is_stray (begin txn)) (reads older past order.1) ∙ ap (λ (r : Option Refusal). is_some r) allowed
  follows (write txn patch) past order = refl
  follows (commit txn time) past order = refl
  follows (abort txn) past order = refl
  follows (reset restore target time) past order = refl

  order_behind : (newer past : List LogEntry) → InOrderBack (newer ++ past) → InOrderBack past
  order_behind [] past order = order
  order_behind (entry ∷ newer) past order = order_behind newer past order.1

  none_from : (slot : ℕ) (past : List LogEntry) (entries : History) → InOrderBack (reverse entries ++ (past ++ older)) → stray_from slot (length older) past entries ≡ None
  none_from slot past [] order = refl
  none_from slot past (entry ∷ entries) order =
      let moved : reverse (entry ∷ entries) ++ (past ++ older) ≡ reverse entries ++ (entry ∷ (past ++ older)) =
      ap (λ (l : List LogEntry). l ++ (past ++ older)) (reverse-append (entry ∷ []) entries) ∙ append_assoc (reverse entries) (entry ∷ []) (past ++ older) in
      let next : InOrderBack (reverse entries ++ (entry ∷ (past ++ older))) = subst InOrderBack moved order in
      ap (λ (b : Bool). if b then Some slot else stray_from (slot + 1) (length older) (entry ∷ past) entries)
      (follows entry past (order_behind (reverse entries) (entry ∷ (past ++ older)) next))
      ∙ none_from (slot + 1) (entry ∷ past) entries next

  none_in : (file : ℕ) (past : List LogEntry) (files : List History) → InOrderBack (reverse (joined files) ++ (past ++ older)) → stray_in file (length older) past files ≡ None
  none_in file past [] order = refl
  none_in file past (entries ∷ files) order =
      let moved : reverse (entries ++ joined files) ++ (past ++ older) ≡ reverse (joined files) ++ (reverse entries ++ (past ++ older)) =
      ap (λ (l : List LogEntry). l ++ (past ++ older)) (reverse-append entries (joined files)) ∙ append_assoc (reverse (joined files)) (reverse entries) (past ++ older) in
      let next : InOrderBack (reverse (joined files) ++ (reverse entries ++ (past ++ older))) = subst InOrderBack moved order in
      ap (λ (o : Option ℕ). option_or o (stray_in (file + 1) (length older) (reverse entries ++ past) files))
      (none_from (256 * (file % 8)) past entries (order_behind (reverse (joined files)) (reverse entries ++ (past ++ older)) next))
      ∙ none_in (file + 1) (reverse entries ++ past) files
      (subst (λ (l : List LogEntry). InOrderBack (reverse (joined files) ++ l)) (sym (append_assoc (reverse entries) past older)) next)

pub none_stray : (site : Site) (ring : Ring) → site.ring ≡ Some ring → IsFitSite site → first_stray (files_of site.starts site.history ring) ≡ None
none_stray site ring is fit =
    let holds : FitRing site.history site.starts site.lines ring = ring_of site ring is fit in
    let before : ℕ = first_of_file site.starts site.history ring.oldest - 1 in
    let older : History = take before site.history in
    let count : length (reverse older) ≡ before =
    length-reverse older ∙ length-before site.head.spaces site.history site.starts fit.history ring holds.oldest holds.held in
    let files = files_of site.starts site.history ring in
    let all : older ++ joined (held_files files) ≡ site.history =
    ap (λ (l : History). older ++ l) (all_held files) ∙ all_records site.head.spaces site.history site.starts fit.history ring holds.oldest holds.held in
    let order : InOrderBack (reverse (joined (held_files files)) ++ reverse older) =
    subst InOrderBack (reverse-append older (joined (held_files files))) (subst (λ (h : History). InOrderBack (reverse h)) (sym all) fit.history.order) in
    ap (λ (n : ℕ). stray_in ring.oldest n [] (held_files files)) (sym count) ∙ none_in (reverse older) ring.oldest [] (held_files files) order
