-- The verdict sheet, rule by rule: the line at hand, where it is a rule, is the next one in order, and its verdicts are its row's codes at the
-- known time points. Assumes nothing.
use Prim.Native.Nat.{ℕ, ◌+◌, ◌*◌, ◌/◌, ◌%◌, ◌≤◌, ◌<◌}
use native.Mathlib.Nat.{zero-mul, suc-mul}
use native.Mathlib.Numerals.{add-one}
use native.Mathlib.Omega.{arith}
use mathlib.Core.Path.{◌≡◌, refl, sym, ap, ap₂, subst, ◌∙◌}
use mathlib.Core.Bool.{Bool, true, false, cond}
use mathlib.Core.List.{List, ◌++◌, append_assoc}
use lib.ListN.{get_or, length, take, drop, length-append, length-drop}
use lib.Seq.{length-take-le, get_or-take, get_or-drop, take_at}
use Rattle.kleene.specs.Truth.{true3, false3, unknown, code_of}
use Rattle.rows.specs.Over.{Over}
use Rattle.rows.proofs.Laws.{untouched, two}
use Rattle.rows.specs.Grid.{table}
use Rattle.rows.proofs.Grid.{table_length, table_at, row_of, place_of, in_grid, next_row}
use Rattle.rows.proofs.Parts.{put_in, from_front}
use Rattle.policy.specs.declared.Policy.{Policy}
use Rattle.policy.specs.declared.Sizes.{Sizes}
use Rattle.policy.specs.Format.{no_line, rule_lines}
use Rattle.policy.specs.Proper.{Proper}
use Rattle.policy.proofs.RuleLines.{rule_more, rule_skip, rule_under, rule_at}
use Rattle.knowledge.specs.Knowledge.{Knowledge, is_point, is_none, point_known}
use Rattle.valuation.specs.Sheets.{value, verdict, valuation_of, verdicts_of, standing}
use Rattle.valuation.specs.Rows.{Points}
use Rattle.valuation.specs.Verdicts.{verdict_code, VerdictRow}
use Rattle.evaluation.proofs.Work.{cell, cell_at}
use Rattle.evaluation.proofs.Standing.{standing_append, standing_le}

-- the cell of the verdict sheet, laid out flat
abbrev pub verdict_cell : Policy → Knowledge → ℕ → ℕ
verdict_cell p k i = verdict p k (i / p.sizes.minutes) (i % p.sizes.minutes)

-- how many rules there are among the first lines
abbrev pub before : Policy → ℕ → ℕ
before p i = length (rule_lines p.subformulas i)

by_point : (z : Sizes) (k : Knowledge) (t c v : ℕ) → c ≡ code_of (point_known z k t) → verdict_code c v ≡ cond (is_point z k t) v 0
by_point z k t c v e = ap (λ (n : ℕ). verdict_code n v) e ∙ go (is_point z k t) (is_none z k t)
  where
    go : (a b : Bool) → verdict_code (code_of (cond a true3 (cond b false3 unknown))) v ≡ cond a v 0
    go true b = refl
    go false true = refl
    go false false = refl

-- what is written after the first i lines: the runs of their rules, and how many verdicts stand in them
pub record Concluded (p : Policy) (points valuation old : List ℕ) (i : ℕ) (new : List ℕ) (total at : ℕ) : Type 0 where
  pub here : at ≡ before p i * p.sizes.minutes
  pub long : length new ≡ length old
  pub few : total ≤ at
  pub written : (k : Knowledge) → Points p.sizes k points → take (p.count * p.sizes.minutes) valuation ≡ valuation_of p k
      → Over (verdict_cell p k) 0 at old new
  pub counted : total ≡ standing (take at new)

pub none_yet : (p : Policy) (points valuation old : List ℕ) → Concluded p points valuation old 0 old 0 0
unfolding rule_lines standing
none_yet p points valuation old =
    record {
      here = sym (zero-mul p.sizes.minutes);
      long = refl;
      few = omega arith;
      written = λ k q v. untouched (verdict_cell p k) 0 old;
      counted = refl;
    }

-- the same by other names, where branches meet
pub renamed : (p : Policy) (points valuation old new new' : List ℕ) (i total total' at at' : ℕ) → new' ≡ new → total' ≡ total → at' ≡ at
    → Concluded p points valuation old i new total at → Concluded p points valuation old i new' total' at'
renamed p points valuation old new new' i total total' at at' a b d c = rw (a, b, d) c

module _ (p : Policy) (points valuation old new : List ℕ) (i total at : ℕ) (c : Concluded p points valuation old i new total at) where
  pub no_rule : (get_or p.subformulas i no_line).rule ≡ false → Concluded p points valuation old (i + 1) new total at
  no_rule e =
      record {
        here = rw (add-one, rule_skip p.subformulas i e) c.here;
        long = c.long;
        few = c.few;
        written = c.written;
        counted = c.counted;
      }

  module _ (proper : Proper p) (under : i < p.count) (is : (get_or p.subformulas i no_line).rule ≡ true) (room : p.rules * p.sizes.minutes ≤ length new) where
    -- the rule's run is in the sheet
    pub rule_fits : at + p.sizes.minutes ≤ length new
    rule_fits =
        let r : before p i < p.rules = omega (arith, rule_under p.subformulas i p.count under is, proper.rules_counted) in
        omega (arith, next_row p.rules p.sizes.minutes (before p i) r, c.here)

    module _ (row part run : List ℕ) (stand : ℕ) (from : row ≡ take p.sizes.minutes (drop (i * p.sizes.minutes) valuation))
        (lent : part ≡ take p.sizes.minutes (drop at new)) (w : VerdictRow points row part run stand) where
      part_length : length part ≡ p.sizes.minutes
      part_length = ap length lent ∙ length-take-le p.sizes.minutes (drop at new) (simp length-drop (omega (arith, rule_fits)))

      run_length : length run ≡ p.sizes.minutes
      run_length = w.written.long ∙ part_length

      its_verdict : (k : Knowledge) → Points p.sizes k points → take (p.count * p.sizes.minutes) valuation ≡ valuation_of p k
          → (t : ℕ) → t < p.sizes.minutes → get_or run t 0 ≡ verdict_cell p k (at + t)
      unfolding valuation_of
      its_verdict k q v t h =
          let m = p.sizes.minutes in
          let in_all : i * m + t < p.count * m = in_grid p.count m i t under h in
          let code : get_or row t 0 ≡ code_of (value p k i t) =
          ap (λ (l : List ℕ). get_or l t 0) from
          ∙ get_or-take m (drop (i * m) valuation) t 0 h
          ∙ get_or-drop (i * m) valuation t 0
          ∙ sym (get_or-take (p.count * m) valuation (i * m + t) 0 in_all)
          ∙ ap (λ (l : List ℕ). get_or l (i * m + t) 0) v
          ∙ table_at (p.count * m) (cell p k) (i * m + t) 0 in_all
          ∙ cell_at p k i t h in
          w.written.inside t (omega arith) (omega (arith, part_length))
          ∙ by_point p.sizes k t (get_or points t 0) (get_or row t 0) (q t h)
          ∙ ap (λ (n : ℕ). cond (is_point p.sizes k t) n 0) code
          ∙ ap (λ (l : ℕ). cond (is_point p.sizes k t) (code_of (value p k l t)) 0) (sym (rule_at p.subformulas i p.count under is))
          ∙ ap₂ (λ (r s : ℕ). verdict p k r s) (sym (row_of m (before p i) t h)) (sym (place_of m (before p i) t h))
          ∙ ap (λ (n : ℕ). verdict_cell p k (n + t)) (sym c.here)

      pub one_rule : Concluded p points valuation old (i + 1) (take at new ++ (run ++ drop (at + p.sizes.minutes) new)) (total + stand) (at + p.sizes.minutes)
      one_rule =
          let m = p.sizes.minutes in
          let front : length (take at new) ≡ at = length-take-le at new (omega (arith, rule_fits)) in
          record {
            here = rw (add-one, rule_more p.subformulas i is, length-append) (omega (arith, c.here, add-one (before p i), suc-mul (before p i) m));
            long = simp (length-append, length-drop) (omega (arith, front, run_length, rule_fits, c.long));
            few = omega (arith, c.few, w.counted, standing_le run, run_length);
            written = λ k q v.
                two (verdict_cell p k) (verdict_cell p k) 0 at (at + m) old new (take at new ++ (run ++ drop (at + m) new)) (c.written k q v)
                (put_in (verdict_cell p k) at m new run rule_fits run_length (its_verdict k q v))
                (omega arith) (omega arith) (λ j a b. refl);
            counted =
                ap₂ (λ (x y : ℕ). x + y) c.counted w.counted
                ∙ sym (standing_append (take at new) run)
                ∙ ap standing
                (sym (ap (take (at + m)) (sym (append_assoc (take at new) run (drop (at + m) new)))
                ∙ take_at (take at new ++ run) (drop (at + m) new) (at + m) (length-append (take at new) run ∙ omega (arith, front, run_length))));
          }

pub all_lines : (p : Policy) (points valuation old new : List ℕ) (i total at : ℕ) → Proper p → p.rules * p.sizes.minutes ≤ length old → i ≡ p.count
    → Concluded p points valuation old i new total at
    → (k : Knowledge) → Points p.sizes k points → take (p.count * p.sizes.minutes) valuation ≡ valuation_of p k
    → (new ≡ verdicts_of p k ++ drop (p.rules * p.sizes.minutes) old) × (total ≡ standing (verdicts_of p k))
unfolding verdicts_of
all_lines p points valuation old new i total at proper room e c k q v =
    let n = p.rules * p.sizes.minutes in
    let end : at ≡ n = c.here ∙ ap (λ (j : ℕ). before p j * p.sizes.minutes) e ∙ ap (λ (r : ℕ). r * p.sizes.minutes) proper.rules_counted in
    let all = from_front (verdict_cell p k) n old new room (subst (λ (j : ℕ). Over (verdict_cell p k) 0 j old new) end (c.written k q v)) in
    (all, c.counted ∙ ap standing (ap₂ take end all ∙ take_at (table n (verdict_cell p k)) (drop n old) n (table_length n (verdict_cell p k))))
