-- What the working functions leave, put together: both sheets over what is known, and a fresh state. Assumes nothing.
use Rattle.std.specs.Prelude.{Ok}
use mathlib.Core.Path.{◌≡◌, sym, ap, ap₂, ◌∙◌}
use mathlib.Core.Bool.{cond}
use mathlib.Core.List.{List}
use Prim.Native.Nat.{ℕ, suc, ◌+◌, ◌*◌, ◌%◌, ◌≤◌}
use native.Mathlib.Numerals.{add-one}
use lib.Dec.{eqb}
use lib.ListN.{length, replicate}
use Rattle.rows.specs.Grid.{table}
use Rattle.policy.specs.declared.Policy.{Policy}
use Rattle.policy.specs.Proper.{Proper}
use Rattle.knowledge.specs.Knowledge.{Knowledge, none, Sound, fresh}
use Rattle.knowledge.specs.Run.{held, SteadyRuns}
use Rattle.knowledge.proofs.Runs.{runs_of}
use Rattle.valuation.specs.Sheets.{valuation_of}
use Rattle.origin.specs.Origin.{Origin}
use Rattle.monitor.specs.State.{Outcome, lent, outcome, SizedSheets, opened, rewritten}
use Rattle.monitor.proofs.Laws.{fresh_sound, blank_sheet, lengths}

-- ---- both sheets from the record

module _ (p : Policy) (proper : Proper p) (n f v d : List ℕ) (z : SizedSheets p (held n f) v d) (sound : Sound p.sizes (held n f)) where
  -- what the row of time points needs
  pub row_needs : (p.sizes.minutes ≤ 1024) × (length n ≡ p.sizes.components * suc p.sizes.minutes) × SteadyRuns p.sizes n
  row_needs = (proper.minutes.high, z.numbers, runs_of p.sizes (held n f) sound)

-- what both sheets leave, from numbers and facts that are those of some knowledge
pub rewritten_of : (p : Policy) (o : Origin) (k : Knowledge) (n f v d : List ℕ) (r : ℕ) → n ≡ k.numbers → f ≡ k.facts
    → outcome (Ok r) n f v d o ≡ rewritten p o (held n f) → outcome (Ok r) n f v d o ≡ rewritten p o k
rewritten_of p o k n f v d r a b e = e ∙ ap₂ (λ (x y : List ℕ). rewritten p o (held x y)) a b

-- ---- an opening

module _ (p : Policy) (n f v d : List ℕ) (z : SizedSheets p (held n f) v d) where
  fresh_numbers : (n' : List ℕ) → n' ≡ table (length n) (λ i. cond (eqb (i % (p.sizes.minutes + 1)) 0) 0 none) → n' ≡ (fresh p.sizes).numbers
  unfolding fresh
  fresh_numbers n' e =
      e ∙ ap (λ (m : ℕ). table m (λ i. cond (eqb (i % (p.sizes.minutes + 1)) 0) 0 none)) z.numbers
      ∙ ap (λ (m : ℕ). table (p.sizes.components * suc p.sizes.minutes) (λ i. cond (eqb (i % m) 0) 0 none)) (add-one p.sizes.minutes)

  all_zero : (f' : List ℕ) → f' ≡ replicate (length f) 0 → f' ≡ (fresh p.sizes).facts
  unfolding fresh
  all_zero f' e = e ∙ ap (λ (m : ℕ). replicate m 0) z.facts

  module _ (n' f' : List ℕ) (a : n' ≡ table (length n) (λ i. cond (eqb (i % (p.sizes.minutes + 1)) 0) 0 none)) (b : f' ≡ replicate (length f) 0) where
    pub fresh_needs : SizedSheets p (held n' f') v d × Sound p.sizes (held n' f')
    fresh_needs = (
      record {
        numbers = ap length (fresh_numbers n' a) ∙ (lengths p).0;
        facts = ap length (all_zero f' b) ∙ (lengths p).1;
        valuation = z.valuation;
        verdicts = z.verdicts;
      },
      rw (fresh_numbers n' a, all_zero f' b) (fresh_sound p),
    )

    pub refreshed : (v' d' : List ℕ) (r : ℕ) → ((o : Origin) → outcome (Ok r) n' f' v' d' o ≡ rewritten p o (held n' f')) → (o : Origin) → lent n' f' v' d' o ≡ opened p o
    unfolding opened
    refreshed v' d' r e o =
        ap (λ (q : Outcome ℕ). q.state) (rewritten_of p o (fresh p.sizes) n' f' v' d' r (fresh_numbers n' a) (all_zero f' b) (e o))
        ∙ ap (λ (l : List ℕ). record { known = fresh p.sizes; valuation = valuation_of p (fresh p.sizes); verdicts = l; origin = o }) (sym (blank_sheet p))
