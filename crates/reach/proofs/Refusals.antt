-- The call's checks are the card's, and then one of its own; what it writes is the table of reaches, and the rest. Assumes nothing.
use Rattle.std.specs.Prelude.{ℕ, ◌+◌, ◌-◌, ◌≤◌, ◌<◌, ◌≡◌, refl, ◌⊎◌, ◌↔◌, drop, Err, Ok}
use Rattle.std.proofs.Common.{arith, subst, ◌∙◌, inl, inr, leb-true, leb-false, le-leb, get_or-drop}
use Rattle.std.proofs.Math.Path.{sym, ap}
use mathlib.Core.List.{List, ◌++◌}
use Rattle.std.proofs.lemmas.Bool.{lt-leb}
use Rattle.std.proofs.Math.ListN.{get_or, length, length-append, length-drop, get_or-append}
use Rattle.rows.proofs.Grid.{table_length, table_at}
use Rattle.rows.proofs.Parts.{get_d_past}
use Rattle.refusal.specs.declared.Refusal.{Refusal}
use Rattle.refusal.specs.declared.Refusal.TheVariants.{ShortBuffer}
use Rattle.refusal.specs.Checks.{Checked, reply}
use Rattle.refusal.specs.Numbers.{refusal_number}
use Rattle.refusal.specs.Checks.{Check, first_failed, Passed, none, pass, Refuses, here, there, RefusedWith}
use Rattle.refusal.proofs.Laws.{number_law, passing_law, refused_where}
use Rattle.refusal.specs.Writes.{written}
use Rattle.refusal.proofs.Writes.{alike, told, kept_rest, unwritten}
use Rattle.policy.specs.declared.Policy.{Policy}
use Rattle.policy.specs.Format.{policy_checks, policy_of, answer_of}
use Rattle.policy.specs.Proper.{Proper, formula_at, rules_of}
use Rattle.policy.proofs.Laws.{accepted}
use Rattle.policy.proofs.Answered.{policy_refuses}
use Rattle.policy.proofs.CheckedFirst.{checked_first, both_passed, once_accepted, by_policy}
use Rattle.policy.proofs.RuleLines.{rule_below}
use Rattle.reach.proofs.Laws.{small_reach}
use Rattle.reach.specs.Reaches.{rule_reach, reaches_of, room_checks, rule_reaches}
use Rattle.reach.specs.Called.{ReachCauses}

-- the reach of a rule of a card that was read
pub rule_small : (p : Policy) → Proper p → (r : ℕ) → r < p.rules → rule_reach p r ≤ 64449
rule_small p proper r l =
    let line = rule_below p.subformulas p.count r (omega (arith, proper.rules_counted)) in
    omega (arith, line, proper.count.high, small_reach (formula_at p) proper.earlier proper.bounded (get_or (rules_of p) r 0))

module _ (s out : List ℕ) where
  abbrev p : Policy
  p = policy_of s

  abbrev later : List Check
  later = room_checks (policy_of s) (length out)

  abbrev cs : List Check
  cs = checked_first s (room_checks (policy_of s) (length out))

  abbrev text : List ℕ
  text = reaches_of (policy_of s)

  many : length text ≡ p.rules
  unfolding reaches_of
  many = table_length p.rules (rule_reach p)

  by_number : (n at : ℕ) → RefusedWith (reply (rule_reaches s out).answer) n at ↔ RefusedWith (first_failed cs) n at
  unfolding rule_reaches
  by_number n at = alike text out (first_failed cs) n at

  eleven_only : (r : Refusal) → Refuses later r → refusal_number r ≡ 11
  eleven_only r (here a) = refl
  eleven_only r (there a q) = elim q [ ]

  high : (r : Refusal) → Refuses later r → 4 < refusal_number r
  high r q = omega (arith, eleven_only r q)

  short_told : Refuses later ShortBuffer → length out < p.rules
  short_told (here a) = leb-false _ _ a
  short_told (there a q) = elim q [ ]

  no_other : (r : Refusal) → Refuses cs r → ((1 ≤ refusal_number r) × (refusal_number r ≤ 4)) ⊎ (refusal_number r ≡ 11)
  no_other r q = go (refused_where (policy_checks s) later r q)
    where
      go : Refuses (policy_checks s) r ⊎ (Passed (policy_checks s) × Refuses later r) → ((1 ≤ refusal_number r) × (refusal_number r ≤ 4)) ⊎ (refusal_number r ≡ 11)
      go (inl f) = inl (policy_refuses s r f)
      go (inr f) = inr (eleven_only r f.1)

  passed : Passed cs ↔ ((answer_of s ≡ Ok tt) × (p.rules ≤ length out))
  passed = (λ q. let f = (both_passed s later).0 q in (f.0, room f.1), λ q. (both_passed s later).1 (q.0, pass (le-leb _ _ q.1) none))
    where
      room : Passed later → p.rules ≤ length out
      room (pass a none) = leb-true _ _ a

  done : (n : ℕ) → ((rule_reaches s out).answer ≡ Ok n) ↔ ((answer_of s ≡ Ok tt) × (p.rules ≤ length out) × (n ≡ p.rules))
  unfolding rule_reaches
  done n = (
    λ e. let t = (told text out (first_failed cs) n).0 e in let q = passed.0 ((passing_law cs).0 t.0) in (q.0, q.1, t.1 ∙ many),
    λ q. (told text out (first_failed cs) n).1 ((passing_law cs).1 (passed.1 (q.0, q.1)), q.2 ∙ sym many),
  )

  -- what is written
  written_out : (n : ℕ) → (rule_reaches s out).answer ≡ Ok n → (rule_reaches s out).out ≡ text ++ drop n out
  unfolding rule_reaches
  written_out n e = kept_rest text out (first_failed cs) n e

  cell : (n : ℕ) → (rule_reaches s out).answer ≡ Ok n → (r : ℕ) → r < n → get_or (rule_reaches s out).out r 0 ≡ rule_reach p r
  unfolding reaches_of
  cell n e r l =
      let d = (done n).0 e in
      ap (λ (o : List ℕ). get_or o r 0) (written_out n e)
      ∙ get_or-append text (drop n out) 0 r (omega (arith, many, d.2))
      ∙ table_at p.rules (rule_reach p) r 0 (omega (arith, d.2))

  not_written : (r : Refusal) → (rule_reaches s out).answer ≡ Err r → (rule_reaches s out).out ≡ out
  unfolding rule_reaches
  not_written r e = unwritten text out (first_failed cs) r e

  kept_length : (a : Checked) → first_failed cs ≡ a → length (rule_reaches s out).out ≡ length out
  unfolding rule_reaches
  kept_length (Ok _) e =
      let q = passed.0 ((passing_law cs).0 e) in
      ap (λ (b : Checked). length (written b text out).out) e
      ∙ length-append text (drop (length text) out)
      ∙ simp length-drop (omega (arith, many, q.1))
  kept_length (Err r) e = ap (λ (b : Checked). length (written b text out).out) e

  pub causes : ReachCauses s out (rule_reaches s out)
  causes = record {
    policy = λ n at h. (λ w. (by_policy s later high n at h).0 ((by_number n at).0 w), λ w. (by_number n at).1 ((by_policy s later high n at h).1 w));
    eleven = λ at. (
      λ w. let q = (number_law cs 11 at).0 ((by_number 11 at).0 w) in
          let f = (once_accepted s later ShortBuffer (omega arith)).0 q.0 in
          (sym q.2, f.0, short_told f.1),
      λ q. rw q.0 ((by_number 11 0).1 ((number_law cs 11 0).1 ((once_accepted s later ShortBuffer (omega arith)).1 (q.1, here (lt-leb _ _ q.2)), refl, refl))),
    );
    no_other = λ n at w. let q = (number_law cs n at).0 ((by_number n at).0 w) in rw (sym q.1) (no_other _ q.0);
    done = done;
    reaches = λ n e r l. let d = (done n).0 e in let c = cell n e r l in (c, rw c (rule_small p (accepted s d.0) r (omega (arith, d.2))));
    rest = λ n e i l.
        let d = (done n).0 e in
        let here : n + (i - n) ≡ i = omega arith in
        ap (λ (o : List ℕ). get_or o i 0) (written_out n e)
        ∙ subst (λ (j : ℕ). get_or (text ++ drop n out) j 0 ≡ get_or out j 0) here
        (get_d_past text (drop n out) n (i - n) (many ∙ sym d.2) ∙ get_or-drop n out (i - n) 0);
    long = kept_length (first_failed cs) refl;
    unwritten = not_written;
  }
