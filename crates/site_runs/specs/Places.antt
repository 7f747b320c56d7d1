-- Where a run of a script may stand: at fit sites, with what is collected in order behind their logs.
use Rattle.std.specs.Prelude.{◌≡◌, ℕ, ◌≤◌, List, [], ◌∷◌, ◌++◌, length, false, None}
use Rattle.std.specs.List.{AllByRecursion}
use Rattle.std.proofs.Common.{arith, ap, sym, subst, ◌∙◌}
use Rattle.std.proofs.lemmas.List.{append-nil}
use Rattle.log_history.specs.History.{History}
use Rattle.log_history.specs.Transactions.{table_of, last_time, InOrder}
use Rattle.onbar_grammar.specs.Script.{Space}
use Rattle.site_worlds.specs.Fitness.{IsWithin, IsFitSite}
use Rattle.site_worlds.specs.Allowed.{HasRing, IsNoReset}
use Rattle.world_laws.specs.KeptLaws.{fit_after_all}
use Rattle.course_laws.specs.Leading.{Leads}
use Rattle.course_laws.specs.AppendingLaws.{IsReadyFor, leads_append}
use Rattle.site_model.specs.Runs.{Collected, Taken, nothing, joined, bad}
use Rattle.site_runs.specs.Scripts.{ScriptState, append_collected, appended}
use Rattle.site_runs.specs.AppendLaws.{append_has}

-- what is collected goes on from a log: in order, within the spaces, at most so many records, none of them a Reset
pub record GoesOnFrom (spaces : List Space) (history : History) (limit : ℕ) (c : Collected) : Type 0 where
  pub table : c.table ≡ table_of (history ++ c.batch)
  pub time : c.time ≡ last_time (history ++ c.batch)
  pub order : InOrder (history ++ c.batch)
  pub within : AllByRecursion (IsWithin spaces) c.batch
  pub plain : AllByRecursion IsNoReset c.batch
  pub few : length c.batch ≤ limit

-- a place whose site is fit, without a restore under way and with its log
pub record KeepsUpTo (limit : ℕ) (place : ScriptState) : Type 0 where
  pub fit : IsFitSite place.site
  pub none : place.site.active ≡ None
  pub has : HasRing place.site
  pub follows : GoesOnFrom place.site.head.spaces place.site.history limit place.collected

abbrev pub Keeps : ScriptState → Type 0
Keeps place = KeepsUpTo 31 place

module _ (place : ScriptState) (is : KeepsUpTo 32 place) (some : 1 ≤ length place.collected.batch) where
  ready : IsReadyFor (place.collected.batch ∷ []) place.site
  ready = record {
    none = is.none;
    has = is.has;
    are = (
      record {
        some = some;
        few = omega (arith, is.follows.few);
        order = is.follows.order;
        within = is.follows.within;
        plain = is.follows.plain;
      },
      tt,
    );
  }

  -- its append may be made
  pub leads : Leads place.site (append_collected place) (IsReadyFor [])
  leads = leads_append place.collected.batch [] place.site is.fit ready

  -- and leads to such a place
  pub appended_keeps : (append_collected place).fault ≡ None → Keeps (appended place)
  appended_keeps none =
      let has = append_has place.collected.batch place.site is.has none in
      let behind = leads.then_holds none in
      let again : (appended place).site.history ++ [] ≡ place.site.history ++ place.collected.batch = append-nil _ ∙ has.history in
      record {
        fit = fit_after_all (append_collected place).moves place.site leads.can is.fit;
        none = behind.none;
        has = behind.has;
        follows = record {
          table = is.follows.table ∙ ap table_of (sym again);
          time = is.follows.time ∙ ap last_time (sym again);
          order = subst InOrder (sym again) is.follows.order;
          within = tt;
          plain = tt;
          few = omega arith;
        };
      }

pub wider : (place : ScriptState) → Keeps place → KeepsUpTo 32 place
wider place is = record {
  fit = is.fit;
  none = is.none;
  has = is.has;
  follows = record {
    table = is.follows.table;
    time = is.follows.time;
    order = is.follows.order;
    within = is.follows.within;
    plain = is.follows.plain;
    few = omega (arith, is.follows.few);
  };
}

-- what a line does behind a log
abbrev pub TakesOn : List Space → History → Taken → Type 0
TakesOn spaces history nothing = Unit {0}
TakesOn spaces history (joined collected whole) =
    GoesOnFrom spaces history 32 collected × (1 ≤ length collected.batch) × (whole ≡ false → length collected.batch ≤ 31)
TakesOn spaces history (bad why) = Unit {0}
