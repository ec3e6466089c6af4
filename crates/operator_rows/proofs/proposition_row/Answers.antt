-- `operator_rows::proposition_row` meets its contract. The invariant of its loop: the cells before t are the codes of the facts. Assumes nothing.
use mathlib.Core.Path.{sym, ap, ◌∙◌}
use mathlib.Core.List.{List}
use Prim.Native.Nat.{ℕ, ◌+◌, ◌*◌}
use native.Mathlib.Omega.{arith}
use lib.ListN.{get_or, length-set}
use Rattle.kleene.specs.Truth.{code_of}
use Rattle.rows.proofs.Laws.{one_more}
use Rattle.knowledge.specs.Knowledge.{fact}
use Rattle.operator_rows.proofs.proposition_row.Goals as goal

pub loop-t-preserved : goal.loop-t-preserved
loop-t-preserved c =
    let x = c.args in
    let t = c.loop-t.t in (
      length-set c.loop-t.row t c.fact_code.result ∙ c.loop-t.invariant.0,
      λ k e.
          let old = c.loop-t.invariant.1 k e in
          one_more (λ s. code_of (fact k x.proposition s)) 0 t x.row.now c.loop-t.row c.fact_code.result old (omega arith) (omega (arith, old.long))
          (c.fact_code.ensures k t (ap (λ (s : List ℕ). get_or s (2 * t) 0) (sym e)) (ap (λ (s : List ℕ). get_or s (2 * t + 1) 0) (sym e))),
    )

pub returns : goal.returns
returns c =
    (c.loop-t.invariant.0, λ k e t h. (c.loop-t.invariant.1 k e).inside t (omega arith) (omega arith))
