-- The reaches of the rules, one after another: the line at hand, where it is a rule, is the next one in order. Assumes nothing.
use Prim.Native.Nat.{ℕ, ◌+◌, ◌≤◌, ◌<◌}
use native.Mathlib.Numerals.{add-one}
use native.Mathlib.Omega.{arith}
use mathlib.Core.Path.{◌≡◌, refl, sym, ap, subst, ◌∙◌}
use mathlib.Core.Bool.{true, false}
use mathlib.Core.List.{List, ◌++◌}
use lib.ListN.{get_or, length, drop, set, length-append}
use Rattle.rows.specs.Over.{Over}
use Rattle.rows.proofs.Laws.{untouched, one_more}
use Rattle.rows.proofs.Parts.{from_front}
use Rattle.policy.specs.declared.Policy.{Policy}
use Rattle.policy.specs.Format.{no_line, rule_lines}
use Rattle.policy.specs.Proper.{Proper, formula_at}
use Rattle.policy.proofs.RuleLines.{rule_more, rule_skip, rule_under, rule_at}
use Rattle.reach.specs.Reach.{reach}
use Rattle.reach.specs.Reaches.{rule_reach, reaches_of}

-- what is written after the first i lines: the reaches of the rules among them
pub record Put (p : Policy) (old : List ℕ) (i : ℕ) (new : List ℕ) (at : ℕ) : Type 0 where
  pub here : at ≡ length (rule_lines p.subformulas i)
  pub written : Over (rule_reach p) 0 at old new

pub none_yet : (p : Policy) (old : List ℕ) → Put p old 0 old 0
unfolding rule_lines
none_yet p old = record { here = refl; written = untouched (rule_reach p) 0 old }

-- the same by other names, where branches meet
pub renamed : (p : Policy) (old new new' : List ℕ) (i at at' : ℕ) → new' ≡ new → at' ≡ at → Put p old i new at → Put p old i new' at'
renamed p old new new' i at at' a b c = rw (a, b) c

module _ (p : Policy) (old new : List ℕ) (i at : ℕ) (c : Put p old i new at) where
  pub no_rule : (get_or p.subformulas i no_line).rule ≡ false → Put p old (i + 1) new at
  no_rule e = record { here = rw (add-one, rule_skip p.subformulas i e) c.here; written = c.written }

  module _ (proper : Proper p) (under : i < p.count) (is : (get_or p.subformulas i no_line).rule ≡ true) (room : p.rules ≤ length old) where
    pub rule_few : at < 8
    rule_few = omega (arith, rule_under p.subformulas i p.count under is, proper.rules_counted, proper.rules.high, c.here)

    pub rule_fits : at < length new
    rule_fits = omega (arith, rule_under p.subformulas i p.count under is, proper.rules_counted, c.here, c.written.long)

    pub one_rule : (v : ℕ) → v ≡ reach (formula_at p) i → Put p old (i + 1) (set new at v) (at + 1)
    one_rule v e = record {
      here = rw (add-one i, rule_more p.subformulas i is, length-append) (ap (λ (n : ℕ). n + 1) c.here);
      written =
          one_more (rule_reach p) 0 at old new v c.written (omega arith) rule_fits
          (e ∙ ap (reach (formula_at p)) (sym (rule_at p.subformulas i p.count under is) ∙ ap (λ (n : ℕ). get_or (rule_lines p.subformulas p.count) n 0) (sym c.here)));
    }

pub all_lines : (p : Policy) (old new : List ℕ) (i at : ℕ) → Proper p → p.rules ≤ length old → i ≡ p.count → Put p old i new at
    → new ≡ reaches_of p ++ drop p.rules old
unfolding reaches_of
all_lines p old new i at proper room e c =
    let end : at ≡ p.rules = c.here ∙ ap (λ (j : ℕ). length (rule_lines p.subformulas j)) e ∙ proper.rules_counted in
    from_front (rule_reach p) p.rules old new room (subst (λ (j : ℕ). Over (rule_reach p) 0 j old new) end c.written)
