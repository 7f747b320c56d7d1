-- Laws of courses: how the clause of a call comes about from those of the calls that it makes.
use Rattle.std.specs.Prelude.{◌≡◌, ◌⊎◌, ℕ, ◌≤◌, List, [], ◌∷◌, ◌++◌, true, Option, None, Some}
use mathlib.Core.Logic.{inl, inr}
use Rattle.std.proofs.Common.{append_assoc, arith, refl, ap, sym, subst, ◌∙◌, ⊎_elim}
use Rattle.walks.specs.Follows.{Goes, Ends, Comes}
use Rattle.walks.specs.FollowsLaws.{goes_wider, still, comes_still, goes_after, follows_after}
use Rattle.walks.specs.Courses.{MoveRules, unless_fault, after_all, IsOnWay, Course, only, behind_moves, then_do, Stage, PassedBy, IsCut, HasEnded, Does, Call, LeftToDo}

module _ {Move V : Type 0} (rules : MoveRules Move V) where
  -- nothing was done yet
  pub way_begins : (moves : List Move) (v : V) → IsOnWay rules moves v v
  way_begins [] v = refl
  way_begins (move ∷ moves) v = inl (rules.at_begin move v)

  pub after_all-append : (moves more : List Move) (v : V) → after_all rules (moves ++ more) v ≡ after_all rules more (after_all rules moves v)
  after_all-append [] more v = refl
  after_all-append (move ∷ moves) more v = after_all-append moves more (rules.after move v)

  -- what a stop in the first moves leaves, a stop in all of them leaves
  pub way_front : (moves more : List Move) (v other : V) → IsOnWay rules moves v other → IsOnWay rules (moves ++ more) v other
  way_front [] more v other is = subst (λ (o : V). IsOnWay rules more v o) (sym is) (way_begins more v)
  way_front (move ∷ moves) more v other (inl within) = inl within
  way_front (move ∷ moves) more v other (inr later) = inr (way_front moves more (rules.after move v) other later)

  -- and so a stop in those behind them
  pub way_behind : (moves more : List Move) (v other : V) → IsOnWay rules more (after_all rules moves v) other → IsOnWay rules (moves ++ more) v other
  way_behind [] more v other is = is
  way_behind (move ∷ moves) more v other is = inr (way_behind moves more (rules.after move v) other is)

  -- more may be passed behind the first moves
  pub way_split : (moves less more : List Move) (v other : V)
      → (IsOnWay rules less (after_all rules moves v) other → IsOnWay rules more (after_all rules moves v) other)
      → IsOnWay rules (moves ++ less) v other → IsOnWay rules (moves ++ more) v other
  way_split [] less more v other means is = means is
  way_split (move ∷ moves) less more v other means (inl within) = inl within
  way_split (move ∷ moves) less more v other means (inr later) = inr (way_split moves less more (rules.after move v) other means later)

module _ {Move V F : Type 0} (rules : MoveRules Move V) (first next : V → Course Move F) (v : V) where
  both : Course Move F
  both = behind_moves (first v).moves (next (after_all rules (first v).moves v))

  -- the first course ends well, and the next one follows
  pub then_next : (first v).fault ≡ None → then_do rules first next v ≡ behind_moves (first v).moves (next (after_all rules (first v).moves v))
  unfolding then_do
  then_next is = ap (λ (o : Option F). unless_fault o (first v) (behind_moves (first v).moves (next (after_all rules (first v).moves v)))) is

  -- the first course ends in a fault
  pub then_none : (fault : F) → (first v).fault ≡ Some fault → then_do rules first next v ≡ first v
  unfolding then_do
  then_none fault is = ap (λ (o : Option F). unless_fault o (first v) (behind_moves (first v).moves (next (after_all rules (first v).moves v)))) is

  -- what the first course passes, both pass
  pub then_passes : (other : V) → IsOnWay rules (first v).moves v other → IsOnWay rules (then_do rules first next v).moves v other
  then_passes other is = by (first v).fault refl
    where
      by : (fault : Option F) → (first v).fault ≡ fault → IsOnWay rules (then_do rules first next v).moves v other
      by None none = subst (λ (c : Course Move F). IsOnWay rules c.moves v other) (sym (then_next none)) (way_front rules (first v).moves _ v other is)
      by (Some fault) some = subst (λ (c : Course Move F). IsOnWay rules c.moves v other) (sym (then_none fault some)) is

module _ {Name Move V W F S : Type 0} (stage : Stage Name Move V W F S) where
  behind_again : (moves more : List Move) (course : Course Move F)
      → behind_moves moves (behind_moves more course) ≡ behind_moves (moves ++ more) course
  behind_again moves more course = ap (λ (ms : List Move). record { moves = ms; fault = course.fault }) (sym (append_assoc moves more course.moves))

  module _ (needs from to : ℕ) (old new : S) where
    -- a refusal, or nothing to do, before any move: no image is new
    pub only_read : (course : V → Course Move F) (fault : Option F) → from ≤ to
        → ((f : ℕ) (name : Name) (bytes : List ℕ) → stage.images new f name bytes → stage.images old f name bytes)
        → ((opened : ℕ) (world : W) → needs ≤ opened → stage.stands opened from old world
        → (course (stage.seen world) ≡ only fault) × stage.stands opened to new world)
        → Call stage needs from to old new course fault
    only_read course fault le none is opened world enough stands =
        let so = is opened world enough stands in
        subst (λ (c : Course Move F). Does stage opened from to old new world c fault) (sym so.0) (record {
          no_earlier = le;
          goes = still stage.shows from (stage.images old) (stage.images new) world (PassedBy stage [] world) refl none;
          ended = inr (record {
            fault_is = refl;
            next = world;
            next_is = refl;
            ends = λ f name bytes later image. inr (none f name bytes image, λ shows. shows);
            stands = so.1;
          });
        })

    -- a call that is cut short before any image is new
    pub nothing_done : (course : V → Course Move F) (fault : F) → stage.cuts fault ≡ true → from ≤ to
        → ((f : ℕ) (name : Name) (bytes : List ℕ) → stage.images new f name bytes → stage.images old f name bytes)
        → Call stage needs from to old new course (Some fault)
    nothing_done course fault cut le none opened world enough stands = record {
      no_earlier = le;
      goes = still stage.shows from (stage.images old) (stage.images new) world (PassedBy stage (course (stage.seen world)).moves world)
          (way_begins stage.rules (course (stage.seen world)).moves (stage.seen world)) none;
      ended = inl cut;
    }

    -- the same call by another course, which is the same in each world for which the site stands
    pub call_as : (course other : V → Course Move F) (fault : Option F)
        → ((opened : ℕ) (world : W) → needs ≤ opened → stage.stands opened from old world → course (stage.seen world) ≡ other (stage.seen world))
        → Call stage needs from to old new course fault → Call stage needs from to old new other fault
    call_as course other fault same call opened world enough stands =
        subst (λ (c : Course Move F). Does stage opened from to old new world c fault) (same opened world enough stands) (call opened world enough stands)

  -- a call that needs less opened
  pub needs_less : (less needs from to : ℕ) (old new : S) (course : V → Course Move F) (fault : Option F) → less ≤ needs
      → Call stage less from to old new course fault → Call stage needs from to old new course fault
  needs_less less needs from to old new course fault le call opened world enough stands = call opened world (omega (arith, le, enough)) stands

  -- Straight-line code and loops: what is left to do after each call.
  module _ (opened from now : ℕ) (old mid : S) (world : W) (whole : Course Move F) where
    -- at the begin of a call all is left
    pub begins : (course : V → Course Move F) → from ≤ now
        → ((f : ℕ) (name : Name) (bytes : List ℕ) → stage.images mid f name bytes → stage.images old f name bytes)
        → stage.stands opened now mid world → whole ≡ course (stage.seen world)
        → LeftToDo stage opened from now old mid world whole course
    begins course le none stands is = record {
      made = [];
      next = world;
      comes = comes_still stage.shows from now (stage.images old) (stage.images mid) world (PassedBy stage [] world) le refl none;
      next_is = refl;
      whole_is = is;
      stands = stands;
    }

    -- one more call, from the world to which the moves made so far came
    module _ (made : List Move) (next : W) (comes : Comes stage.shows from now (stage.images old) (stage.images mid) world (PassedBy stage made world) next)
        (next_is : stage.seen next ≡ after_all stage.rules made (stage.seen world)) (to : ℕ) (new : S) (course : Course Move F) (fault : Option F)
        (does : Does stage opened now to mid new next course fault) where
      goes_both : Goes stage.shows from (stage.images old) (stage.images new) world (PassedBy stage (made ++ course.moves) world)
      goes_both = goes_wider stage.shows from (stage.images old) (stage.images new) world
          (λ (w : W). PassedBy stage made world w ⊎ PassedBy stage course.moves next w)
          (PassedBy stage (made ++ course.moves) world)
          (λ w. ⊎_elim (λ is. way_front stage.rules made course.moves (stage.seen world) (stage.seen w) is)
          (λ is. way_behind stage.rules made course.moves (stage.seen world) (stage.seen w)
          (subst (λ (v : V). IsOnWay stage.rules course.moves v (stage.seen w)) next_is is)))
          (goes_after stage.shows from now (stage.images old) (stage.images mid) (stage.images new) world next
          (PassedBy stage made world) (PassedBy stage course.moves next) comes does.goes)

      in_order : from ≤ to
      in_order = let a = comes.no_earlier in let b = does.no_earlier in omega arith

      seen_both : (last : W) → stage.seen last ≡ after_all stage.rules course.moves (stage.seen next)
          → stage.seen last ≡ after_all stage.rules (made ++ course.moves) (stage.seen world)
      seen_both last is = is
          ∙ ap (λ (v : V). after_all stage.rules course.moves v) next_is
          ∙ sym (after_all-append stage.rules made course.moves (stage.seen world))

      ends_both : (last : W) → Ends stage.shows to (stage.images mid) (stage.images new) next last → Ends stage.shows to (stage.images old) (stage.images new) world last
      ends_both last ends f name bytes le image =
          follows_after stage.shows (stage.images old) (stage.images mid) f world next last name bytes
          (comes.ends f name bytes (let b = does.no_earlier in omega arith)) (ends f name bytes le image)

      does_both : Does stage opened from to old new world (behind_moves made course) fault
      does_both = record {
        no_earlier = in_order;
        goes = goes_both;
        ended = ⊎_elim (λ cut. inl cut) (λ has. inr (record {
          fault_is = has.fault_is;
          next = has.next;
          next_is = seen_both has.next has.next_is;
          ends = ends_both has.next has.ends;
          stands = has.stands;
        })) does.ended;
      }

    -- all that is left is done by one more call, as it ends
    pub ends_by : (rest : V → Course Move F) → LeftToDo stage opened from now old mid world whole rest
        → (needs to : ℕ) (new : S) (fault : Option F) → needs ≤ opened → Call stage needs now to mid new rest fault
        → Does stage opened from to old new world whole fault
    ends_by rest left needs to new fault enough call =
        subst (λ (c : Course Move F). Does stage opened from to old new world c fault) (sym left.whole_is)
        (does_both left.made left.next left.comes left.next_is to new (rest (stage.seen left.next)) fault (call opened left.next enough left.stands))

    -- one of the calls that are left ends well, and the rest is left
    pub goes_on : (first rest : V → Course Move F) → LeftToDo stage opened from now old mid world whole (then_do stage.rules first rest)
        → (needs to : ℕ) (new : S) → needs ≤ opened → Call stage needs now to mid new first None
        → LeftToDo stage opened from to old new world whole rest
    goes_on first rest left needs to new enough call = by does.ended
      where
        course : Course Move F
        course = first (stage.seen left.next)

        does : Does stage opened now to mid new left.next course None
        does = call opened left.next enough left.stands

        by : IsCut stage None ⊎ HasEnded stage opened now to mid new left.next course None → LeftToDo stage opened from to old new world whole rest
        by (inl cut) = absurd cut
        by (inr has) = record {
          made = left.made ++ course.moves;
          next = has.next;
          comes = record {
            no_earlier = in_order left.made left.next left.comes left.next_is to new course None does;
            goes = goes_both left.made left.next left.comes left.next_is to new course None does;
            ends = ends_both left.made left.next left.comes left.next_is to new course None does has.next has.ends;
          };
          next_is = seen_both left.made left.next left.comes left.next_is to new course None does has.next has.next_is;
          whole_is = left.whole_is
              ∙ ap (λ (c : Course Move F). behind_moves left.made c)
              (then_next stage.rules first rest (stage.seen left.next) (sym has.fault_is)
              ∙ ap (λ (v : V). behind_moves course.moves (rest v)) (sym has.next_is))
              ∙ behind_again left.made course.moves (rest (stage.seen has.next));
          stands = has.stands;
        }

    -- one of the calls that are left ends in a fault
    pub fails : (first rest : V → Course Move F) → LeftToDo stage opened from now old mid world whole (then_do stage.rules first rest)
        → (needs to : ℕ) (new : S) (fault : F) → needs ≤ opened → Call stage needs now to mid new first (Some fault)
        → Does stage opened from to old new world whole (Some fault)
    fails first rest left needs to new fault enough call = by does.ended
      where
        seen : V
        seen = stage.seen left.next

        does : Does stage opened now to mid new left.next (first seen) (Some fault)
        does = call opened left.next enough left.stands

        whole_is : whole ≡ behind_moves left.made (then_do stage.rules first rest seen)
        whole_is = left.whole_is

        passes : (w : W) → PassedBy stage (left.made ++ (first seen).moves) world w → PassedBy stage whole.moves world w
        passes w is = subst (λ (c : Course Move F). PassedBy stage c.moves world w) (sym whole_is)
            (way_split stage.rules left.made (first seen).moves (then_do stage.rules first rest seen).moves (stage.seen world) (stage.seen w)
            (λ on. subst (λ (v : V). IsOnWay stage.rules (then_do stage.rules first rest seen).moves v (stage.seen w)) left.next_is
            (then_passes stage.rules first rest seen (stage.seen w) (subst (λ (v : V). IsOnWay stage.rules (first seen).moves v (stage.seen w)) (sym left.next_is) on)))
            is)

        by : IsCut stage (Some fault) ⊎ HasEnded stage opened now to mid new left.next (first seen) (Some fault)
            → Does stage opened from to old new world whole (Some fault)
        by (inl cut) = record {
          no_earlier = in_order left.made left.next left.comes left.next_is to new (first seen) (Some fault) does;
          goes = goes_wider stage.shows from (stage.images old) (stage.images new) world (PassedBy stage (left.made ++ (first seen).moves) world) (PassedBy stage whole.moves world)
              passes (goes_both left.made left.next left.comes left.next_is to new (first seen) (Some fault) does);
          ended = inl cut;
        }
        by (inr has) = subst (λ (c : Course Move F). Does stage opened from to old new world c (Some fault))
            (sym (whole_is ∙ ap (λ (c : Course Move F). behind_moves left.made c) (then_none stage.rules first rest seen fault (sym has.fault_is))))
            (does_both left.made left.next left.comes left.next_is to new (first seen) (Some fault) does)

    -- nothing is left: the call ends
    pub ends : LeftToDo stage opened from now old mid world whole (λ v. only None) → Does stage opened from now old mid world whole None
    ends left = ends_by (λ v. only None) left 0 now mid None (omega arith)
        (only_read 0 now now mid mid (λ v. only None) None (omega arith) (λ f name bytes image. image) (λ o w le stands. (refl, stands)))
