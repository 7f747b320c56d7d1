-- Laws of what is live at a position, and of what a restore needs of the log.
use Rattle.std.specs.Prelude.{◌≡◌, ℕ, ◌≤◌, List, [], ◌∷◌, Bool, true, false, ◌&&◌, ◌||◌, nat_lt, nat_le, max, if◌then◌else◌, IsTrue, ◌↔◌, refl}
use Rattle.std.specs.List.{list_any}
use Rattle.std.proofs.Common.{arith, sym, subst}
use Rattle.std.proofs.lemmas.Bool.Decides.{nat_tests}
use Rattle.log_history.specs.Live.{ResetPoint, live_by}
use Rattle.backup_lines.specs.Lines.{Span}
use Rattle.backup_lines.specs.Chains.{live_stretches, reaches, is_live_between, IsNeededFrom}
use Rattle.backup_lines.specs.declared.stretches.Stretch.{Stretch}

-- a position between two that is live at n
pub record LiveBetween (resets : List ResetPoint) (n from to : ℕ) : Type 0 where
  pub position : ℕ
  pub behind : from ≤ position
  pub ahead : position ≤ to
  pub within : position ≤ n
  pub live : live_by resets n position ≡ true

-- the stretches behind a Reset
abbrev stretches_behind : Bool → List ResetPoint → ℕ → List Stretch
stretches_behind goes_back older target = if goes_back then live_stretches older target else []

found_here : (point : ResetPoint) (older : List ResetPoint) (n from to : ℕ) → nat_lt n point.at ≡ false
    → reaches from to (record { from = point.at; to = n }) ≡ true → LiveBetween (point ∷ older) n from to
found_here point older n from to ahead is = record {
  position = max from point.at;
  behind = omega arith;
  ahead = grind (arith, nat_tests, is);
  within = grind (arith, nat_tests, ahead, is);
  live = grind (arith, nat_tests, ahead, is);
}

found_behind : (point : ResetPoint) (older : List ResetPoint) (n from to : ℕ) → nat_lt n point.at ≡ false
    → nat_lt point.target point.at ≡ true → LiveBetween older point.target from to → LiveBetween (point ∷ older) n from to
found_behind point older n from to ahead back found = record {
  position = found.position;
  behind = found.behind;
  ahead = found.ahead;
  within = grind (arith, nat_tests, ahead, back, found.within);
  live = grind (arith, nat_tests, ahead, back, found.within, found.live);
}

found_before : (point : ResetPoint) (older : List ResetPoint) (n from to : ℕ) → nat_lt n point.at ≡ true
    → LiveBetween older n from to → LiveBetween (point ∷ older) n from to
found_before point older n from to before found = record {
  position = found.position;
  behind = found.behind;
  ahead = found.ahead;
  within = found.within;
  live = grind (arith, nat_tests, before, found.live);
}

pub between_found : (resets : List ResetPoint) (n from to : ℕ) → is_live_between resets n from to ≡ true → LiveBetween resets n from to
between_found [] n from to is = record {
  position = from;
  behind = omega arith;
  ahead = grind (arith, nat_tests, is);
  within = grind (arith, nat_tests, is);
  live = grind (arith, nat_tests, is);
}
between_found (point ∷ older) n from to is =
    by (nat_lt n point.at) refl (between_found older n from to) (between_found older point.target from to) is
  where
    Found : Type 0
    Found = LiveBetween (point ∷ older) n from to

    behind : (here : Bool) → reaches from to (record { from = point.at; to = n }) ≡ here → (back : Bool) → nat_lt point.target point.at ≡ back
        → nat_lt n point.at ≡ false → (is_live_between older point.target from to ≡ true → LiveBetween older point.target from to)
        → (here || list_any (reaches from to) (stretches_behind back older point.target)) ≡ true → Found
    behind true reached back same ahead deeper is = found_here point older n from to ahead reached
    behind false _ true same ahead deeper is = found_behind point older n from to ahead same (deeper is)
    behind false _ false same ahead deeper is = cc

    by : (before : Bool) → nat_lt n point.at ≡ before → (is_live_between older n from to ≡ true → LiveBetween older n from to)
        → (is_live_between older point.target from to ≡ true → LiveBetween older point.target from to)
        → list_any (reaches from to) (if before then live_stretches older n else (record { from = point.at; to = n } ∷ stretches_behind (nat_lt point.target point.at) older point.target)) ≡ true
        → Found
    by true same before deeper is = found_before point older n from to same (before is)
    by false same before deeper is =
        behind (reaches from to (record { from = point.at; to = n })) refl (nat_lt point.target point.at) refl same deeper is

or_right : (a b : Bool) → b ≡ true → (a || b) ≡ true
or_right true b is = refl
or_right false b is = is

pub between_holds : (resets : List ResetPoint) (n from to x : ℕ) → from ≤ x → x ≤ to → live_by resets n x ≡ true → is_live_between resets n from to ≡ true
between_holds [] n from to x behind ahead live = grind (arith, nat_tests, behind, ahead, live)
between_holds (point ∷ older) n from to x behind ahead live =
    by (nat_lt n point.at) refl (between_holds older n from to x behind ahead) (between_holds older point.target from to x behind ahead) live
  where
    deeper_holds : (later back : Bool) → nat_le point.at x ≡ later
        → (live_by older point.target x ≡ true → is_live_between older point.target from to ≡ true)
        → (if later then nat_le x n else (back && live_by older point.target x)) ≡ true
        → (reaches from to (record { from = point.at; to = n }) || list_any (reaches from to) (stretches_behind back older point.target)) ≡ true
    deeper_holds true back same deeper is =
        let reached : reaches from to (record { from = point.at; to = n }) ≡ true = grind (arith, nat_tests, same, behind, ahead, is) in rw reached refl
    deeper_holds false true same deeper is = or_right (reaches from to (record { from = point.at; to = n })) _ (deeper is)
    deeper_holds false false same deeper is = cc

    by : (before : Bool) → nat_lt n point.at ≡ before → (live_by older n x ≡ true → is_live_between older n from to ≡ true)
        → (live_by older point.target x ≡ true → is_live_between older point.target from to ≡ true)
        → (if before then live_by older n x else (if nat_le point.at x then nat_le x n else (nat_lt point.target point.at && live_by older point.target x))) ≡ true
        → list_any (reaches from to) (if before then live_stretches older n else (record { from = point.at; to = n } ∷ stretches_behind (nat_lt point.target point.at) older point.target)) ≡ true
    by true same before deeper is = before is
    by false same before deeper is = deeper_holds (nat_le point.at x) (nat_lt point.target point.at) refl deeper is

same_test : (a b : Bool) → (a ≡ true → b ≡ true) → (b ≡ true → a ≡ true) → a ≡ b
same_test true b along back = sym (along refl)
same_test false true along back = back refl
same_test false false along back = refl

-- a single position
pub between_one : (resets : List ResetPoint) (n x : ℕ) → is_live_between resets n x x ≡ live_by resets n x
between_one resets n x = same_test (is_live_between resets n x x) (live_by resets n x)
    (λ is. let found : LiveBetween resets n x x = between_found resets n x x is in
    let same : found.position ≡ x = omega (arith, found.behind, found.ahead) in
    subst (λ (p : ℕ). live_by resets n p ≡ true) same found.live)
    (λ is. let no_more : x ≤ x = omega arith in between_holds resets n x x x no_more no_more is)

-- what is needed of a file, by the test
pub needed_by_test : (resets : List ResetPoint) (low q : ℕ) (span : Span) → is_live_between resets q (max span.first low) span.last ≡ true → IsNeededFrom resets low q span
needed_by_test resets low q span is =
    let found = between_found resets q (max span.first low) span.last is in
    record {
      position = found.position;
      first = omega (arith, found.behind);
      last = found.ahead;
      from = omega (arith, found.behind);
      live = found.live;
    }

pub test_by_needed : (resets : List ResetPoint) (low q : ℕ) (span : Span) → IsNeededFrom resets low q span → is_live_between resets q (max span.first low) span.last ≡ true
test_by_needed resets low q span is =
    between_holds resets q (max span.first low) span.last is.position (omega (arith, is.first, is.from)) is.last is.live

pub needed_iff : (resets : List ResetPoint) (low q : ℕ) (span : Span) → IsTrue (is_live_between resets q (max span.first low) span.last) ↔ IsNeededFrom resets low q span
needed_iff resets low q span = (λ is. needed_by_test resets low q span is, λ is. test_by_needed resets low q span is)
