use Rattle.std.specs.Prelude.{map}
use Rattle.std.proofs.Common.{◌≡◌, ℕ, List, arith, ap, sym, subst}
use Rattle.log_history.specs.History.{History}
use Rattle.txn_table.specs.Table.{change_of}
use Rattle.txn_table.specs.declared.changes.Change.{Change}
use Rattle.lane_advance.specs.Advances.{Leads}
use Rattle.lane_advance.specs.Places.{place_in}
use Rattle.space_lane.specs.Lanes.{space_of, state_of}
use Rattle.lane_restore.proofs.replaying.step_replay.Goals as goal

-- the changes that a job has are those that are handed over
same_changes : (history : History) (n space count to upto part : ℕ) (handed items : List Change) → handed ≡ items → Leads history n space count to upto part (map change_of items)
    → Leads history n space count to upto part (map change_of handed)
same_changes history n space count to upto part handed items is leads =
    subst (λ (l : List Change). Leads history n space count to upto part (map change_of l)) (sym is) leads

pub returns-in_default-clause-crash : goal.returns-in_default-clause-crash
returns-in_default-clause-crash g c tells history n site count upto part is leads stands pages =
    c.advance_one.ensures.crash tells history n site count upto part (state_of c.args.job.now.lane) (ap place_in is)
    (same_changes history n (space_of c.args.job.now.lane) count c.args.job.now.to upto part c.deref.result.now c.args.job.now.changes.items c.deref.ensures.value leads) stands pages

pub returns-in_default-clause-bound : goal.returns-in_default-clause-bound
returns-in_default-clause-bound g c tells site count state agrees = omega (arith, c.advance_one.ensures.bound tells site count state agrees)

pub returns-then-is_short-clause-crash : goal.returns-then-is_short-clause-crash
returns-then-is_short-clause-crash g c tells history n site count upto part is leads stands pages =
    c.advance_one.ensures.crash tells history n site count upto part (state_of c.args.job.now.lane) (ap place_in is)
    (same_changes history n (space_of c.args.job.now.lane) count c.args.job.now.to upto part c.deref.result.now c.args.job.now.changes.items c.deref.ensures.value leads) stands pages

pub returns-then-is_short-clause-bound : goal.returns-then-is_short-clause-bound
returns-then-is_short-clause-bound g c tells site count state agrees = omega (arith, c.advance_one.ensures.bound tells site count state agrees)

pub returns-then-is_short-clause-stands : goal.returns-then-is_short-clause-stands
returns-then-is_short-clause-stands g c tells history n site count upto part is leads stands pages well =
    c.in-Ok.ensures.stands tells history n site count upto part (state_of c.args.job.now.lane) (ap place_in is)
    (same_changes history n (space_of c.args.job.now.lane) count c.args.job.now.to upto part c.deref.result.now c.args.job.now.changes.items c.deref.ensures.value leads) stands pages

pub returns-then-is_short-clause-pages : goal.returns-then-is_short-clause-pages
returns-then-is_short-clause-pages g c tells history n site count upto part further more is leads stands pages at well =
    c.in-Ok.ensures.pages tells history n site count upto part further more (state_of c.args.job.now.lane) (ap place_in is)
    (same_changes history n (space_of c.args.job.now.lane) count c.args.job.now.to upto part c.deref.result.now c.args.job.now.changes.items c.deref.ensures.value leads) stands pages (ap place_in at)

pub returns-clause-crash : goal.returns-clause-crash
returns-clause-crash g c tells history n site count upto part is leads stands pages =
    c.advance_one.ensures.crash tells history n site count upto part (state_of c.args.job.now.lane) (ap place_in is)
    (same_changes history n (space_of c.args.job.now.lane) count c.args.job.now.to upto part c.deref.result.now c.args.job.now.changes.items c.deref.ensures.value leads) stands pages

pub returns-clause-bound : goal.returns-clause-bound
returns-clause-bound g c tells site count state agrees = omega (arith, c.advance_one.ensures.bound tells site count state agrees)

pub returns-clause-stands : goal.returns-clause-stands
returns-clause-stands g c tells history n site count upto part is leads stands pages well =
    c.in-Ok.ensures.stands tells history n site count upto part (state_of c.args.job.now.lane) (ap place_in is)
    (same_changes history n (space_of c.args.job.now.lane) count c.args.job.now.to upto part c.deref.result.now c.args.job.now.changes.items c.deref.ensures.value leads) stands pages

pub returns-clause-pages : goal.returns-clause-pages
returns-clause-pages g c tells history n site count upto part further more is leads stands pages at well =
    c.in-Ok.ensures.pages tells history n site count upto part further more (state_of c.args.job.now.lane) (ap place_in is)
    (same_changes history n (space_of c.args.job.now.lane) count c.args.job.now.to upto part c.deref.result.now c.args.job.now.changes.items c.deref.ensures.value leads) stands pages (ap place_in at)
