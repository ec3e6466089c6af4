-- What a user may rely on: an accepted policy is proper and short, each refusal has its own cause, and decode hands out just that. Assumes
-- nothing.
use Rattle.refusal.specs.declared.Refusal.{Refusal}
use Rattle.policy.specs.declared.Policy.{Policy}
use Rattle.std.specs.Prelude.{ℕ, zero, suc, ◌+◌, ◌*◌, ◌≤◌, ◌<◌, ◌≡◌, List, length, get_or, Err, Ok, Result}
use Rattle.std.proofs.Common.{sym, ap, subst, ◌∙◌, arith}
use Rattle.std.proofs.Math.Decide.{dec_lt}
use Rattle.encoding.specs.Fields.{has}
use Rattle.encoding.proofs.Laws.{size_most}
use Rattle.mtl.specs.declared.Formula.{Formula}
use Rattle.mtl.specs.declared.Formula.TheVariants as F
use Rattle.mtl.specs.Syntax.{Operands, Proposes, Bounded}
use Rattle.policy.specs.declared.Subformula.{Subformula}
use Rattle.refusal.specs.Checks.{Checked, give_unless, reply}
use Rattle.refusal.proofs.Laws.{given, withheld, replied}
use Rattle.policy.specs.Format.{line_length, count_of, offset, answer_of, policy_of, decode_of}
use Rattle.policy.specs.Encoded.{IsPolicy}
use Rattle.policy.proofs.KindLaws.{earlier_operands, its_proposition, its_interval}
use Rattle.policy.specs.Proper.{Proper, formula_at}
use Rattle.policy.proofs.ReadLaws.{accepts, reads}
use Rattle.policy.proofs.Table.{table_length, past_lines, rules_counted}
pub use Rattle.policy.proofs.Answered.{causes}

-- what holds of each line, and of the padding, holds all over the table
by_lines : (s : List ℕ) (p : IsPolicy s) (P : ℕ → Formula → Type 0) → ((i : ℕ) → P i F.True) → ((i : ℕ) → i < count_of s → P i (p.lines i).formula)
    → (i : ℕ) → P i (formula_at (policy_of s) i)
unfolding policy_of
by_lines s p P pad line i = go (dec_lt i (count_of s))
  where
    go : Dec (i < count_of s) → P i (formula_at (policy_of s) i)
    go (yes h) = subst (λ (x : Subformula). P i x.formula) (sym (reads s p i h)) (line i h)
    go (no h) = subst (λ (x : Subformula). P i x.formula) (sym (past_lines s (count_of s) i (omega arith))) (pad i)

pub accepted : (s : List ℕ) → answer_of s ≡ Ok tt → Proper (policy_of s)
unfolding policy_of
accepted s e =
    let p = (accepts s).0 e in
    let h = p.heading in
    record {
      propositions = h.propositions_in;
      components = h.components_in;
      minutes = h.minutes_in;
      count = h.lines_in;
      rules = ((causes s).accepted.0 e).1;
      rules_counted = rules_counted s (count_of s) (count_of s) (omega arith);
      table = table_length s (count_of s) h.lines_in.high;
      earlier = by_lines s p (λ i x. Operands (λ j. j < i) x) (λ i. tt) (λ i l. earlier_operands _ _ _ _ _ _ (p.line i l).is_line);
      proposes = by_lines s p (λ i x. Proposes (get_or s 0 0) x) (λ i. tt) (λ i l. its_proposition _ _ _ _ _ _ (p.line i l).is_line);
      bounded = by_lines s p (λ i x. Bounded 1023 x) (λ i. tt) (λ i l. its_interval _ _ _ _ _ _ (p.line i l).is_line);
    }

-- ---- its length

line_short : (map : ℕ) → line_length map ≤ 8
unfolding line_length
line_short map = omega (arith, size_most (has map 0) 1, size_most (has map 1) 1, size_most (has map 2) 1, size_most (has map 3) 2, size_most (has map 4) 2)

reaches : (s : List ℕ) (n : ℕ) → offset s n ≤ 5 + n * 8
unfolding offset
reaches s zero = omega arith
reaches s (suc n) = omega (arith, reaches s n, line_short (get_or s (offset s n) 0))

pub short : (s : List ℕ) → answer_of s ≡ Ok tt → length s ≤ 517
short s e =
    let w = ((causes s).accepted.0 e).0 in
    omega (arith, reaches s (count_of s), w.ends, w.headed.heading.lines_in.high)

-- ---- what decode hands out

pub decoded : (s : List ℕ) → answer_of s ≡ Ok tt → decode_of s ≡ Ok (policy_of s)
unfolding decode_of
decoded s e = ap (λ (a : Checked). give_unless a (policy_of s)) e

pub turned_away : (s : List ℕ) (r : Refusal) → answer_of s ≡ Err r → decode_of s ≡ Err r
unfolding decode_of
turned_away s r e = ap (λ (a : Checked). give_unless a (policy_of s)) e

-- what a caller learns from it: the bytes are answered as it says, and where it accepts, its policy is what they say
pub answered : (s : List ℕ) (d : Result Policy Refusal) → d ≡ decode_of s → reply d ≡ answer_of s
unfolding decode_of
answered s d e = ap reply e ∙ replied (answer_of s) (policy_of s)

pub handed_out : (s : List ℕ) (d : Result Policy Refusal) (p : Policy) → d ≡ decode_of s → d ≡ Ok p → (answer_of s ≡ Ok tt) × (p ≡ policy_of s)
unfolding decode_of
handed_out s d p e f = given (answer_of s) (policy_of s) p (sym e ∙ f)

pub refused : (s : List ℕ) (d : Result Policy Refusal) (r : Refusal) → d ≡ decode_of s → d ≡ Err r → answer_of s ≡ Err r
unfolding decode_of
refused s d r e f = withheld (answer_of s) (policy_of s) r (sym e ∙ f)
