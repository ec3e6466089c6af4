-- The statements of Typed hold. Assumes nothing.
use Prim.Native.Nat.{ℕ, zero, suc, ◌+◌, ◌≤◌, ◌<◌}
use Rattle.std.proofs.Common.{arith, subst, ◌∙◌, inl, inr}
use Rattle.std.proofs.Math.Decide.{dec_lt}
use Rattle.std.specs.Prelude.{◌≡◌, Bool, ◌⊎◌, ◌↔◌, eqb, length, get_or, drop, Err, Ok}
use Rattle.std.proofs.Math.Path.{refl, sym, ap, ap₂}
use Rattle.std.proofs.Math.Bool.{true, false, cond, true≢false}
use mathlib.Core.List.{List, [], ◌∷◌, ◌++◌}
use Rattle.std.proofs.Math.ListN.{get_or-map}
use borrow.Author.Tests.{eq-eqb, ne_eqb}
use Rattle.refusal.specs.declared.Refusal.{Refusal}
use Rattle.refusal.specs.declared.Refusal.TheVariants.{BadHeading, RuleSyntax, RuleLimit}
use Rattle.refusal.specs.Checks.{Checked, reply}
use Rattle.refusal.specs.Writes.{Written}
use Rattle.refusal.specs.Numbers.{refusal_number, refusal_place, refusal_of}
use Rattle.refusal.specs.Checks.{RefusedWith}
use Rattle.refusal.proofs.Laws.{same_refusal}
use Rattle.refusal.specs.Writes.{Output}
use Rattle.mtl.specs.declared.Formula.{Formula}
use Rattle.mtl.specs.declared.Formula.TheVariants as F
use Rattle.mtl.specs.Syntax.{Operands, Proposes, Bounded}
use Rattle.mtl.proofs.Textbook.{textbook}
use Rattle.policy.specs.declared.Sizes.{Sizes}
use Rattle.policy.specs.declared.LineNumbers.{LineNumbers}
use Rattle.policy.specs.declared.PolicyNumbers.{PolicyNumbers}
use Rattle.policy.specs.Encoded.{Between, IsLine, is_true, is_proposition, is_not, is_or, is_since, is_until, is_and, is_implies, is_once, is_historically, is_eventually, is_always}
use Rattle.policy.specs.Format.{meaning, no_line, rule_lines, policy_of}
use Rattle.policy.specs.Proper.{formula_at, rules_of}
use Rattle.policy.specs.Text.{line_in, rules_among, formula_numbers, line_numbers, numbers_of, heading_good, InRange, text_of, encode_of}
use Rattle.policy.specs.Written.{EncodeCauses, SameNumbers}
use Rattle.policy.proofs.Refusals.{heading_law, causes}
use Rattle.policy.proofs.RoundTrip.{round_trip}
use Rattle.rule_grammar.specs.Term.{Term}
use Rattle.rule_grammar.specs.Lines.{inner, terms, lines}
use Rattle.rule_grammar.specs.Watched.{line_of}
use Rattle.rule_grammar.proofs.Watched.{line_count, means_of}
use Rattle.rule_grammar.specs.Places as P
use Rattle.rule_grammar.proofs.PlaceLaws.{one_answer}
use Rattle.rule_grammar.proofs.Reading.{one_reading}
use Rattle.rule_grammar.proofs.Answers.{answer_of, answered}
use Rattle.rule_grammar.proofs.Accepted.{accepted, accepted_terms}
use Rattle.rule_text.specs.Compiled.{marked, rule_policy, typed, compile_of}
use Rattle.rule_text.proofs.Writing.{marked_line}
use Rattle.rule_text.specs.Typed.{SizesIn, TakenAs, CompileCauses, Becomes, RulesAsText}

-- ---- the lines are a policy's

-- a formula within the ranges is a line of the table
table_line : (m i : ℕ) (x : Formula) (b : Bool) → Operands (λ k. k < i) x → Proposes m x → Bounded 1023 x
    → IsLine m i (formula_numbers x b).kind (formula_numbers x b).first (formula_numbers x b).second (formula_numbers x b).lower (formula_numbers x b).upper x
table_line m i F.True b o p r = is_true
table_line m i (F.Proposition a) b o p r = is_proposition a p
table_line m i (F.Not a) b o p r = is_not a o
table_line m i (F.Or a c) b o p r = is_or a c o.0 o.1
table_line m i (F.Since a c l u) b o p r = is_since a c l u o.0 o.1 r.0 r.1
table_line m i (F.Until a c l u) b o p r = is_until a c l u o.0 o.1 r.0 r.1
table_line m i (F.And a c) b o p r = is_and a c o.0 o.1
table_line m i (F.Implies a c) b o p r = is_implies a c o.0 o.1
table_line m i (F.Once a l u) b o p r = is_once a l u o.1 r.0 r.1
table_line m i (F.Historically a l u) b o p r = is_historically a l u o.1 r.0 r.1
table_line m i (F.Eventually a l u) b o p r = is_eventually a l u o.1 r.0 r.1
table_line m i (F.Always a l u) b o p r = is_always a l u o.1 r.0 r.1

-- the numbers of a line give its formula again
back : (x : Formula) (b : Bool) → meaning (formula_numbers x b).kind (formula_numbers x b).first (formula_numbers x b).second (formula_numbers x b).lower (formula_numbers x b).upper ≡ x
unfolding meaning
back F.True b = refl
back (F.Proposition a) b = refl
back (F.Not a) b = refl
back (F.Or a c) b = refl
back (F.Since a c l u) b = refl
back (F.Until a c l u) b = refl
back (F.And a c) b = refl
back (F.Implies a c) b = refl
back (F.Once a l u) b = refl
back (F.Historically a l u) b = refl
back (F.Eventually a l u) b = refl
back (F.Always a l u) b = refl

flag : (x : Formula) (b : Bool) → (formula_numbers x b).rule ≡ b
flag F.True b = refl
flag (F.Proposition a) b = refl
flag (F.Not a) b = refl
flag (F.Or a c) b = refl
flag (F.Since a c l u) b = refl
flag (F.Until a c l u) b = refl
flag (F.And a c) b = refl
flag (F.Implies a c) b = refl
flag (F.Once a l u) b = refl
flag (F.Historically a l u) b = refl
flag (F.Eventually a l u) b = refl
flag (F.Always a l u) b = refl

module _ (m c t : ℕ) (text : List ℕ) (x : Term) (z : SizesIn m c t) (h : TakenAs m text x) where
  p : PolicyNumbers
  p = rule_policy m c t x

  line_is : (i : ℕ) → i < terms x → line_in (marked (lines 0 x)) i ≡ formula_numbers (line_of x i) (eqb (suc i) (terms x))
  line_is i l = marked_line (lines 0 x) i (omega (arith, line_count 0 x)) ∙ ap (λ (k : ℕ). formula_numbers (line_of x i) (eqb (suc i) k)) (line_count 0 x)

  few : terms x ≤ 64
  few = accepted_terms m text x h

  rule_flag : (i : ℕ) → i < terms x → (line_in (marked (lines 0 x)) i).rule ≡ eqb (suc i) (terms x)
  rule_flag i l = ap (λ (k : LineNumbers). k.rule) (line_is i l) ∙ flag (line_of x i) (eqb (suc i) (terms x))

  no_rules : (n : ℕ) → n ≤ inner x → rules_among (marked (lines 0 x)) n ≡ 0
  no_rules zero l = refl
  no_rules (suc n) l =
      ap₂ (λ (k : ℕ) (b : Bool). k + cond b 1 0) (no_rules n (omega arith)) (rule_flag n (omega arith) ∙ ne_eqb (suc n) (terms x) (λ e. omega arith))

  one_rule : rules_among (marked (lines 0 x)) (terms x) ≡ 1
  one_rule = ap₂ (λ (k : ℕ) (b : Bool). k + cond b 1 0) (no_rules (inner x) (omega arith)) (rule_flag (inner x) (omega arith) ∙ eq-eqb (terms x) (terms x) refl)

  ranged : InRange (rule_policy m c t x)
  ranged =
      let a = accepted m text x h in
      record {
        heading = record { propositions_in = z.propositions_in; components_in = z.components_in; minutes_in = z.minutes_in; lines_in = record { low = omega arith; high = few } };
        lines = λ i l. (
          line_of x i,
          subst (λ (k : LineNumbers). IsLine m i k.kind k.first k.second k.lower k.upper (line_of x i)) (sym (line_is i l))
              (table_line m i (line_of x i) (eqb (suc i) (terms x)) (a.earlier i) (a.proposes i) (a.bounded i)),
        );
        rules = subst (Between 1 8) (sym one_rule) (record { low = omega arith; high = omega arith });
      }

  s : List ℕ
  s = text_of (rule_policy m c t x)

  again : SameNumbers (rule_policy m c t x) (numbers_of (policy_of (text_of (rule_policy m c t x))))
  again = (round_trip.reads_back (rule_policy m c t x) ranged).1

  read_count : (policy_of (text_of (rule_policy m c t x))).count ≡ terms x
  unfolding numbers_of
  read_count = sym again.count

  read_sizes : (policy_of (text_of (rule_policy m c t x))).sizes ≡ record { propositions = m; components = c; minutes = t }
  unfolding numbers_of
  read_sizes = same_sizes (sym again.propositions) (sym again.components) (sym again.minutes)
    where
      same_sizes : {a b : Sizes} → a.propositions ≡ b.propositions → a.components ≡ b.components → a.minutes ≡ b.minutes → a ≡ b
      same_sizes e f g = rw (e, f, g) refl

  read_line : (i : ℕ) → i < terms x → line_numbers (get_or (policy_of (text_of (rule_policy m c t x))).subformulas i no_line) ≡ formula_numbers (line_of x i) (eqb (suc i) (terms x))
  unfolding numbers_of
  read_line i l = sym (get_or-map line_numbers (policy_of (text_of (rule_policy m c t x))).subformulas i no_line) ∙ sym (again.lines i l) ∙ line_is i l

  read_formula : (i : ℕ) → i < terms x → formula_at (policy_of (text_of (rule_policy m c t x))) i ≡ line_of x i
  read_formula i l =
      let y = get_or (policy_of (text_of (rule_policy m c t x))).subformulas i no_line in
      sym (back y.formula y.rule) ∙ ap (λ (k : LineNumbers). meaning k.kind k.first k.second k.lower k.upper) (read_line i l) ∙ back (line_of x i) (eqb (suc i) (terms x))

  read_flag : (i : ℕ) → i < terms x → (get_or (policy_of (text_of (rule_policy m c t x))).subformulas i no_line).rule ≡ eqb (suc i) (terms x)
  read_flag i l =
      let y = get_or (policy_of (text_of (rule_policy m c t x))).subformulas i no_line in
      sym (flag y.formula y.rule) ∙ ap (λ (k : LineNumbers). k.rule) (read_line i l) ∙ flag (line_of x i) (eqb (suc i) (terms x))

  read_none : (n : ℕ) → n ≤ inner x → rule_lines (policy_of (text_of (rule_policy m c t x))).subformulas n ≡ []
  unfolding rule_lines
  read_none zero l = refl
  read_none (suc n) l = ap₂ (λ (u : List ℕ) (b : Bool). u ++ cond b (n ∷ []) []) (read_none n (omega arith)) (read_flag n (omega arith) ∙ ne_eqb (suc n) (terms x) (λ e. omega arith))

  read_rule : rules_of (policy_of (text_of (rule_policy m c t x))) ≡ inner x ∷ []
  unfolding rule_lines
  read_rule =
      ap (rule_lines (policy_of (text_of (rule_policy m c t x))).subformulas) read_count
      ∙ ap₂ (λ (u : List ℕ) (b : Bool). u ++ cond b (inner x ∷ []) []) (read_none (inner x) (omega arith)) (read_flag (inner x) (omega arith) ∙ eq-eqb (terms x) (terms x) refl)

  pub becomes : Becomes m c t x
  becomes =
      record {
        in_range = ranged;
        accepted = (round_trip.reads_back (rule_policy m c t x) ranged).0;
        sizes = read_sizes;
        count = read_count;
        line = read_formula;
        rule = read_rule;
        watched = λ e q j. let a = textbook e q (formula_at (policy_of (text_of (rule_policy m c t x)))) (inner x) j in
            let b = means_of e q (formula_at (policy_of (text_of (rule_policy m c t x)))) x (λ i l. read_formula i l) j in
            (λ u. b.0 (a.0 u), λ u. a.1 (b.1 u));
      }

-- ---- the causes

told_as : (a : Checked) (n at : ℕ) (r : Refusal) → a ≡ Err r → refusal_number r ≡ n → refusal_place r ≡ at → RefusedWith a n at
told_as a n at r e f g = record { refusal = r; is = e; number = f; place = g }

module _ (m c t : ℕ) (text out : List ℕ) where
  sizes_law : (heading_good m c t 1 ≡ true) ↔ SizesIn m c t
  sizes_law =
      let l = heading_law (record { propositions = m; components = c; minutes = t; count = 1; lines = [] }) in (
        λ e. let k = l.0 e in record { propositions_in = k.propositions_in; components_in = k.components_in; minutes_in = k.minutes_in },
        λ z. l.1 (record { propositions_in = z.propositions_in; components_in = z.components_in; minutes_in = z.minutes_in; lines_in = record { low = omega arith; high = omega arith } }),
      )

  -- a claim about the outcome holds if it holds of each way to it
  by_cases : (Q : Output → Type 0)
      → ((SizesIn m c t → ⊥) → Q (record { answer = Err (BadHeading 0); out = out }))
      → (SizesIn m c t → (n i : ℕ) → P.Answered m text (P.Refused n i) → Q (record { answer = Err (refusal_of n i); out = out }))
      → (SizesIn m c t → (x : Term) → TakenAs m text x → Q (encode_of (rule_policy m c t x) out))
      → Q (compile_of m c t text out)
  unfolding compile_of
  by_cases Q bad refused taken = go (heading_good m c t 1) refl (answer_of m text) (answered m text)
    where
      go : (b : Bool) → heading_good m c t 1 ≡ b → (a : P.Answer) → P.Answered m text a → Q (cond b (typed m c t out a) (record { answer = Err (BadHeading 0); out = out }))
      go false e a d = bad (λ z. true≢false (sym (sizes_law.1 z) ∙ e))
      go true e (P.Refused n i) d = refused (sizes_law.0 e) n i d
      go true e (P.Taken x) d = taken (sizes_law.0 e) x d

  -- a refusal tells its own number and place
  told : (r : Refusal) (n at : ℕ) → RefusedWith (Err r) n at → (refusal_number r ≡ n) × (refusal_place r ≡ at)
  told r n at w = let e = same_refusal r w.refusal w.is in (ap refusal_number e ∙ w.number, ap refusal_place e ∙ w.place)

  no_length : (r : Refusal) (n : ℕ) → Err r ≡ Ok n → ⊥
  no_length r n e = let q : ◌≡◌ {A = ℕ} 0 1 = cc in omega arith

  if_bad : (SizesIn m c t → ⊥) → CompileCauses m c t text out (record { answer = Err (BadHeading 0); out = out })
  if_bad b = record {
    two_at = λ at. (λ w. (sym (told (BadHeading 0) 2 at w).1, b), λ q. told_as _ 2 at (BadHeading 0) refl refl (sym q.0));
    thirteen = λ at. (λ w. absurd (omega (arith, (told (BadHeading 0) 13 at w).0)), λ q. absurd (b q.0));
    fourteen = λ at. (λ w. absurd (omega (arith, (told (BadHeading 0) 14 at w).0)), λ q. absurd (b q.0));
    eleven = λ at. (λ w. absurd (omega (arith, (told (BadHeading 0) 11 at w).0)), λ q. absurd (b q.1));
    no_other = λ n at w. inl (inl (sym (told (BadHeading 0) n at w).0));
    done = λ n. (λ e. absurd (no_length (BadHeading 0) n e), λ q. absurd (b q.0));
    text_written = λ n x e. absurd (no_length (BadHeading 0) n e);
    unwritten = λ r e. refl;
  }

  -- there is one answer
  no_two : (n i : ℕ) (x : Term) → P.Answered m text (P.Refused n i) → TakenAs m text x → ⊥
  no_two n i x a b = let e = one_answer m text (P.Refused n i) (P.Taken x) a b in let q : ◌≡◌ {A = ℕ} 0 1 = cc in omega arith

  same_place : (n i k j : ℕ) → P.Answered m text (P.Refused n i) → P.Answered m text (P.Refused k j) → (n ≡ k) × (i ≡ j)
  same_place n i k j a b = let e = one_answer m text (P.Refused n i) (P.Refused k j) a b in (cc, cc)

  same_term : (x y : Term) → TakenAs m text x → TakenAs m text y → x ≡ y
  same_term x y a b = let e = one_answer m text (P.Taken x) (P.Taken y) a b in cc

  if_unreadable : SizesIn m c t → (i : ℕ) → P.Answered m text (P.Refused 13 i) → CompileCauses m c t text out (record { answer = Err (RuleSyntax i); out = out })
  if_unreadable z i a = record {
    two_at = λ at. (λ w. absurd (omega (arith, (told (RuleSyntax i) 2 at w).0)), λ q. absurd (q.1 z));
    thirteen = λ at. (λ w. (z, subst (λ (j : ℕ). P.Answered m text (P.Refused 13 j)) (told (RuleSyntax i) 13 at w).1 a), λ q. told_as _ 13 at (RuleSyntax i) refl refl (same_place 13 i 13 at a q.1).1);
    fourteen = λ at. (λ w. absurd (omega (arith, (told (RuleSyntax i) 14 at w).0)), λ q. absurd (omega (arith, (same_place 13 i 14 at a q.1).0)));
    eleven = λ at. (λ w. absurd (omega (arith, (told (RuleSyntax i) 11 at w).0)), λ q. absurd (no_two 13 i q.2 a q.3));
    no_other = λ n at w. inr (inl (sym (told (RuleSyntax i) n at w).0));
    done = λ n. (λ e. absurd (no_length (RuleSyntax i) n e), λ q. absurd (no_two 13 i q.1 a q.2));
    text_written = λ n x e. absurd (no_length (RuleSyntax i) n e);
    unwritten = λ r e. refl;
  }

  if_too_much : SizesIn m c t → (i : ℕ) → P.Answered m text (P.Refused 14 i) → CompileCauses m c t text out (record { answer = Err (RuleLimit i); out = out })
  if_too_much z i a = record {
    two_at = λ at. (λ w. absurd (omega (arith, (told (RuleLimit i) 2 at w).0)), λ q. absurd (q.1 z));
    thirteen = λ at. (λ w. absurd (omega (arith, (told (RuleLimit i) 13 at w).0)), λ q. absurd (omega (arith, (same_place 14 i 13 at a q.1).0)));
    fourteen = λ at. (λ w. (z, subst (λ (j : ℕ). P.Answered m text (P.Refused 14 j)) (told (RuleLimit i) 14 at w).1 a), λ q. told_as _ 14 at (RuleLimit i) refl refl (same_place 14 i 14 at a q.1).1);
    eleven = λ at. (λ w. absurd (omega (arith, (told (RuleLimit i) 11 at w).0)), λ q. absurd (no_two 14 i q.2 a q.3));
    no_other = λ n at w. inr (inr (sym (told (RuleLimit i) n at w).0));
    done = λ n. (λ e. absurd (no_length (RuleLimit i) n e), λ q. absurd (no_two 14 i q.1 a q.2));
    text_written = λ n x e. absurd (no_length (RuleLimit i) n e);
    unwritten = λ r e. refl;
  }

  if_taken : SizesIn m c t → (x : Term) → TakenAs m text x → CompileCauses m c t text out (encode_of (rule_policy m c t x) out)
  if_taken z x h =
      let k = causes (rule_policy m c t x) out in
      let r = (becomes m c t text x z h).in_range in
      record {
        two_at = λ at. (λ w. absurd (((k.two at).0 w).1 r.heading), λ q. absurd (q.1 z));
        thirteen = λ at. (λ w. absurd (apart 13 (k.no_other 13 at w) (omega arith)), λ q. absurd (no_two 13 at x q.1 h));
        fourteen = λ at. (λ w. absurd (apart 14 (k.no_other 14 at w) (omega arith)), λ q. absurd (no_two 14 at x q.1 h));
        eleven = λ at. (
          λ w. let q = (k.eleven at).0 w in (q.0, z, x, h, q.2),
          λ q. (k.eleven at).1 (q.0, r, subst (λ (y : Term). length out < length (text_of (rule_policy m c t y))) (same_term q.2 x q.3 h) q.4),
        );
        no_other = λ n at w. only n at k r (k.no_other n at w) w;
        done = λ n. (
          λ e. let q = (k.done n).0 e in (z, x, h, q.1, q.2),
          λ q. let y = same_term q.1 x q.2 h in
              (k.done n).1 (r, subst (λ (y : Term). length (text_of (rule_policy m c t y)) ≤ length out) y q.3, q.4 ∙ ap (λ (y : Term). length (text_of (rule_policy m c t y))) y),
        );
        text_written = λ n y e a. k.text n e ∙ ap (λ (u : Term). text_of (rule_policy m c t u) ++ drop n out) (same_term x y h a);
        unwritten = k.unwritten;
      }
    where
      apart : (n : ℕ) → ((2 ≤ n) × (n ≤ 4)) ⊎ (n ≡ 11) → 12 < n → ⊥
      apart n (inl q) l = omega (arith, q.1)
      apart n (inr q) l = omega arith

      only : (n at : ℕ) → EncodeCauses (rule_policy m c t x) out (encode_of (rule_policy m c t x) out) → InRange (rule_policy m c t x) → ((2 ≤ n) × (n ≤ 4)) ⊎ (n ≡ 11)
          → RefusedWith (reply (encode_of (rule_policy m c t x) out).answer) n at → ((n ≡ 2) ⊎ (n ≡ 11)) ⊎ ((n ≡ 13) ⊎ (n ≡ 14))
      only n at k r (inr q) w = inl (inr q)
      only n at k r (inl q) w = go (dec_lt n 3) (dec_lt n 4)
        where
          go : Dec (n < 3) → Dec (n < 4) → ((n ≡ 2) ⊎ (n ≡ 11)) ⊎ ((n ≡ 13) ⊎ (n ≡ 14))
          go (yes a) b = inl (inl (omega (arith, q.0)))
          go (no a) (yes b) = let e : n ≡ 3 = omega arith in absurd (((k.three at).0 (subst (λ (j : ℕ). RefusedWith (reply (encode_of (rule_policy m c t x) out).answer) j at) e w)).2 r.lines)
          go (no a) (no b) = let e : n ≡ 4 = omega (arith, q.1) in absurd (((k.four at).0 (subst (λ (j : ℕ). RefusedWith (reply (encode_of (rule_policy m c t x) out).answer) j at) e w)).3 r.rules)

  number_is : (n i : ℕ) → P.Cause m text n i → (n ≡ 13) ⊎ (n ≡ 14)
  number_is _ _ (P.unreadable v l r) = inl refl
  number_is _ _ (P.too_much v i l a) = inr refl

  pub compile_causes : CompileCauses m c t text out (compile_of m c t text out)
  compile_causes = by_cases (CompileCauses m c t text out) if_bad refused if_taken
    where
      refused : SizesIn m c t → (n i : ℕ) → P.Answered m text (P.Refused n i) → CompileCauses m c t text out (record { answer = Err (refusal_of n i); out = out })
      refused z n i a = go (number_is n i a.0)
        where
          go : (n ≡ 13) ⊎ (n ≡ 14) → CompileCauses m c t text out (record { answer = Err (refusal_of n i); out = out })
          go (inl e) =
              subst (λ (k : ℕ). CompileCauses m c t text out (record { answer = Err (refusal_of k i); out = out })) (sym e) (if_unreadable z i (subst (λ (k : ℕ). P.Answered m text (P.Refused k i)) e a))
          go (inr e) =
              subst (λ (k : ℕ). CompileCauses m c t text out (record { answer = Err (refusal_of k i); out = out })) (sym e) (if_too_much z i (subst (λ (k : ℕ). P.Answered m text (P.Refused k i)) e a))

-- ---- the theorem

pub rules_as_text : RulesAsText
rules_as_text = record {
  causes = compile_causes;
  becomes = becomes;
  one_reading = one_reading;
  one_answer = λ m text. (answer_of m text, answered m text, λ b h. one_answer m text b (answer_of m text) h (answered m text));
}

-- what is told as a length fits the lent buffer
pub fits : (m c t : ℕ) (text out out' : List ℕ) (a : Written) (n : ℕ) → ◌≡◌ {A = Output} (record { answer = a; out = out' }) (compile_of m c t text out) → a ≡ Ok n → n ≤ length out
fits m c t text out out' a n e f =
    let q = ((compile_causes m c t text out).done n).0 (sym (ap (λ (o : Output). o.answer) e) ∙ f) in
    omega (arith, q.3, q.4)
