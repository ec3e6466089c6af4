-- The writer refuses each number for its own cause: its tests say what 01 says of the numbers. Assumes nothing.
use Prim.Native.Nat.{ℕ, zero, suc, ◌≤◌, ◌<◌}
use Rattle.std.proofs.Common.{arith, eq-or-lt_of_le, sym}
use Rattle.std.specs.Prelude.{◌≡◌, Bool, ◌⊎◌, ◌↔◌, List, ltb, leb}
use Rattle.std.proofs.Math.Path.{refl, subst}
use Rattle.std.proofs.Math.Bool.{true}
use Rattle.std.proofs.Math.Logic.{inl, inr, ⊎_elim}
use borrow.Author.Tests.{ltb-true, lt-ltb, leb-true, leb-false, le-leb, lt-leb}
use Rattle.std.proofs.Math.ListN.{length}
use Rattle.logic.proofs.Bools.{both, pair}
use Rattle.mtl.specs.declared.Formula.{Formula}
use Rattle.refusal.specs.declared.Refusal.{Refusal}
use Rattle.refusal.specs.declared.Refusal.TheVariants.{BadHeading, BadSubformula, RuleCount, ShortBuffer}
use Rattle.refusal.specs.Numbers.{refusal_number, refusal_place, refusal_of}
use Rattle.refusal.specs.Checks.{Check, first_failed, Passed, none, pass, Refuses, here, there, RefusedWith, reply}
use Rattle.refusal.proofs.Laws.{number_law, passing_law}
use Rattle.refusal.proofs.Writes.{alike, told, kept_rest, unwritten}
use Rattle.policy.specs.declared.LineNumbers.{LineNumbers}
use Rattle.policy.specs.declared.PolicyNumbers.{PolicyNumbers}
use Rattle.policy.specs.Encoded.{IsLine}
use Rattle.policy.specs.Format.{kinds, kind_of, operands_good, within, meaning}
use Rattle.policy.specs.Kinds.{zeros}
use Rattle.policy.proofs.KindLaws.{is_a_line, keeps}
use Rattle.policy.proofs.Ranges.{fails, denies, in_between, between_in, not_between, outside}
use Rattle.policy.specs.Text.{line_in, rules_among, HeadingIn, LineIn, EachLineIn, RulesAmong, InRange, text_of, heading_good, line_good, lines_good, encode_checks, encode_of}
use Rattle.policy.specs.Written.{EncodeCauses}

-- ---- what the tests say

-- a line passes its test exactly when 01's table has its numbers
pub line_law : (m i : ℕ) (l : LineNumbers) → (line_good m i l ≡ true) ↔ ((x : Formula) × IsLine m i l.kind l.first l.second l.lower l.upper x)
unfolding line_good
line_law m i l = (good, λ t. passes t.0 t.1)
  where
    good : line_good m i l ≡ true → (x : Formula) × IsLine m i l.kind l.first l.second l.lower l.upper x
    good e =
        let a = both (ltb l.kind (length kinds)) _ e in
        let b = both (zeros (kind_of l.kind) l.first l.second l.lower l.upper) _ a.1 in
        let c = both (operands_good (kind_of l.kind).operands m i l.first l.second) _ b.1 in
        let d = both (leb l.lower l.upper) _ c.1 in (
          meaning l.kind l.first l.second l.lower l.upper,
          is_a_line l.kind l.first l.second l.lower l.upper _
              (record {
                known = ltb-true _ _ a.0;
                zero_else = b.0;
                operands = c.0;
                ordered = leb-true _ _ d.0;
                bounded = leb-true _ _ d.1;
                means = refl;
              }),
        )

    passes : (x : Formula) → IsLine m i l.kind l.first l.second l.lower l.upper x → line_good m i l ≡ true
    passes x t =
        let k = keeps _ _ _ _ _ _ t in
        pair (lt-ltb _ _ k.known) (pair k.zero_else (pair k.operands (pair (le-leb _ _ k.ordered) (le-leb _ _ k.bounded))))

module _ (p : PolicyNumbers) where
  abbrev heading : Bool
  heading = heading_good p.propositions p.components p.minutes p.count

  pub heading_law : (heading ≡ true) ↔ HeadingIn p
  heading_law = (good, passes)
    where
      good : heading ≡ true → HeadingIn p
      good e =
          let a = both (within 1 32 p.propositions) _ e in
          let b = both (within 1 16 p.components) _ a.1 in
          let c = both (within 1 1024 p.minutes) _ b.1 in
          record {
            propositions_in = in_between _ _ _ a.0;
            components_in = in_between _ _ _ b.0;
            minutes_in = in_between _ _ _ c.0;
            lines_in = in_between _ _ _ c.1;
          }

      passes : HeadingIn p → heading ≡ true
      passes h =
          pair (between_in _ _ _ h.propositions_in)
          (pair (between_in _ _ _ h.components_in) (pair (between_in _ _ _ h.minutes_in) (between_in _ _ _ h.lines_in)))

  lines_law : (n : ℕ) → (lines_good p.propositions p.lines n ≡ true) ↔ ((i : ℕ) → i < n → LineIn p i)
  unfolding lines_good
  lines_law zero = (λ e i h. absurd (omega arith), λ f. refl)
  lines_law (suc n) = (good (lines_law n).0, λ f. pair ((lines_law n).1 (λ i h. f i (omega arith))) ((line_law p.propositions n (line_in p.lines n)).1 (f n (omega arith))))
    where
      good : (lines_good p.propositions p.lines n ≡ true → (i : ℕ) → i < n → LineIn p i)
          → lines_good p.propositions p.lines (suc n) ≡ true → (i : ℕ) → i < suc n → LineIn p i
      good ih e i h =
          let a = both (lines_good p.propositions p.lines n) _ e in
          ⊎_elim (λ (q : i ≡ n). subst (LineIn p) (sym q) ((line_law p.propositions n (line_in p.lines n)).0 a.1))
          (λ (l : i < n). ih a.0 i l) (eq-or-lt_of_le (omega arith))

  -- ---- the causes

  module _ (out : List ℕ) where
    abbrev cs : List Check
    cs = encode_checks p (length out)

    fits_law : (leb (length (text_of p)) (length out) ≡ true) ↔ (length (text_of p) ≤ length out)
    fits_law = (leb-true _ _, le-leb _ _)

    -- what the answer's number and place say, of the checks
    by_number : (n at : ℕ) → RefusedWith (reply (encode_of p out).answer) n at ↔ RefusedWith (first_failed cs) n at
    unfolding encode_of
    by_number n at = alike (text_of p) out (first_failed cs) n at

    refused : (n at : ℕ) → RefusedWith (reply (encode_of p out).answer) n at → Refuses cs (refusal_of n at)
    refused n at w = ((number_law cs n at).0 ((by_number n at).0 w)).0

    refuses : (n at : ℕ) → Refuses cs (refusal_of n at) → refusal_number (refusal_of n at) ≡ n → refusal_place (refusal_of n at) ≡ at
        → RefusedWith (reply (encode_of p out).answer) n at
    refuses n at r e f = (by_number n at).1 ((number_law cs n at).1 (r, e, f))

    heading_told : (at : ℕ) → Refuses cs (BadHeading at) → (at ≡ 0) × (HeadingIn p → ⊥)
    unfolding encode_checks
    heading_told at (here a) = (refl, denies _ heading_law a)
    heading_told at (there a (there b (there c (there d n)))) = elim n [ ]

    line_told : (at : ℕ) → Refuses cs (BadSubformula at) → (at ≡ 0) × HeadingIn p × (EachLineIn p → ⊥)
    unfolding encode_checks
    line_told at (there a (here b)) = (refl, heading_law.0 a, denies _ (lines_law p.count) b)
    line_told at (there a (there b (there c (there d n)))) = elim n [ ]

    rules_told : Refuses cs RuleCount → HeadingIn p × EachLineIn p × (RulesAmong p → ⊥)
    unfolding encode_checks
    rules_told (there a (there b (here c))) = (heading_law.0 a, (lines_law p.count).0 b, not_between _ _ _ c)
    rules_told (there a (there b (there c (there d n)))) = elim n [ ]

    in_range : heading ≡ true → lines_good p.propositions p.lines p.count ≡ true
        → within 1 8 (rules_among p.lines p.count) ≡ true → InRange p
    in_range a b c = record { heading = heading_law.0 a; lines = (lines_law p.count).0 b; rules = in_between _ _ _ c }

    short_told : Refuses cs ShortBuffer → InRange p × (length out < length (text_of p))
    unfolding encode_checks
    short_told (there a (there b (there c (there _ x20)))) = elim x20 [ ]
    short_told (there a (there b (there c (here d)))) = (in_range a b c, leb-false _ _ d)

    no_other : (r : Refusal) → Refuses cs r → ((2 ≤ refusal_number r) × (refusal_number r ≤ 4)) ⊎ (refusal_number r ≡ 11)
    unfolding encode_checks
    no_other r (here a) = inl (omega arith)
    no_other r (there a (here b)) = inl (omega arith)
    no_other r (there a (there b (here c))) = inl (omega arith)
    no_other r (there a (there b (there c (here d)))) = inr refl
    no_other r (there a (there b (there c (there d n)))) = elim n [ ]

    passed : Passed cs ↔ (InRange p × (length (text_of p) ≤ length out))
    unfolding encode_checks
    passed = (told_by, λ q. passes q.0 q.1)
      where
        told_by : Passed cs → InRange p × (length (text_of p) ≤ length out)
        told_by (pass a (pass b (pass c (pass d none)))) = (in_range a b c, leb-true _ _ d)

        passes : InRange p → length (text_of p) ≤ length out → Passed cs
        passes i l =
            pass (heading_law.1 i.heading)
            (pass ((lines_law p.count).1 i.lines) (pass (between_in _ _ _ i.rules) (pass (le-leb _ _ l) none)))

    pub causes : EncodeCauses p out (encode_of p out)
    unfolding encode_checks encode_of
    causes = record {
      two = λ at. (
        λ w. heading_told at (refused 2 at w),
        λ q. rw q.0 (refuses 2 0 (here (fails _ heading_law q.1)) refl refl),
      );
      three = λ at. (
        λ w. line_told at (refused 3 at w),
        λ q. rw q.0 (refuses 3 0 (there (heading_law.1 q.1) (here (fails _ (lines_law p.count) q.2))) refl refl),
      );
      four = λ at. (
        λ w. let t = rules_told (refused 4 at w) in (sym ((number_law cs 4 at).0 ((by_number 4 at).0 w)).2, t.0, t.1, t.2),
        λ q. rw q.0 (refuses 4 0 (there (heading_law.1 q.1) (there ((lines_law p.count).1 q.2) (here (outside _ _ _ q.3)))) refl refl),
      );
      eleven = λ at. (
        λ w. let t = short_told (refused 11 at w) in (sym ((number_law cs 11 at).0 ((by_number 11 at).0 w)).2, t.0, t.1),
        λ q. rw q.0 (refuses 11 0 (there (heading_law.1 q.1.heading) (there ((lines_law p.count).1 q.1.lines) (there (between_in _ _ _ q.1.rules) (here (lt-leb _ _ q.2))))) refl refl),
      );
      no_other = λ n at w. let k = (number_law cs n at).0 ((by_number n at).0 w) in rw (sym k.1) (no_other _ k.0);
      done = λ n. (
        λ e. let t = (told (text_of p) out (first_failed cs) n).0 e in let q = passed.0 ((passing_law cs).0 t.0) in (q.0, q.1, t.1),
        λ q. (told (text_of p) out (first_failed cs) n).1 ((passing_law cs).1 (passed.1 (q.0, q.1)), q.2),
      );
      text = λ n e. kept_rest (text_of p) out (first_failed cs) n e;
      unwritten = λ r e. unwritten (text_of p) out (first_failed cs) r e;
    }
