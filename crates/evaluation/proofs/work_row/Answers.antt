-- `evaluation::work_row` meets its contract: in each arm the row is the subformula's meaning over the rows that it names. Assumes nothing.
use mathlib.Core.Path.{◌≡◌}
use native.Mathlib.Omega.{arith}
use Rattle.kleene.specs.Truth.{true3, not3}
use Rattle.mtl.specs.declared.Formula.TheVariants.{Once, Historically, Eventually, Always}
use Rattle.mtl.specs.Reading.{seen}
use Rattle.knowledge.specs.Knowledge.{world}
use Rattle.evaluation.proofs.Work.{run_length, run_shows, run_past, points_show, front, its, worked, seen_row, implies_row, not_seen_row, true_left, not_right}
use Rattle.evaluation.proofs.work_row.Goals as goal

pub returns-in-Implies : goal.returns-in-Implies
returns-in-Implies c k v e P R =
    let x = c.args in
    let w = its c.in-Implies.is c.requires in
    let i = c.in-Implies.i in
    let j = c.in-Implies.j in
    let left = c.run_of-in-Implies.ensures in
    let right = c.run_of-in-Implies-2.ensures in
    worked x.sizes k v _ c.in-Implies.is
    (implies_row x.sizes k _ (v i) (v j) _ (run_length _ _ _ i left w.operands.0)
    (c.and_row-in-Implies.ensures.1 (v i) (v j) (run_shows _ _ _ i left w.operands.0 v R) (run_shows _ _ _ j right w.operands.1 v R)))

pub returns-in-Once : goal.returns-in-Once
returns-in-Once c k v e P R =
    let x = c.args in
    let i = c.in-Once.operand in
    let bounds = c.interval_of-in-Once.result in
    let is : x.formula ≡ Once i bounds.lower bounds.upper = cc in
    let w = its is c.requires in
    let run = c.run_of-in-Once.ensures in
    worked x.sizes k v _ is
    (seen_row x.sizes k _ _ _ (front w)
    (c.once_row.ensures.2 (world x.sizes k) (v i) (λ s. seen (world x.sizes k) s true3) (v i)
    (points_show x.sizes k x.points.now (omega (arith, w.minutes)) P)
    (run_shows _ _ _ i run w.operands.1 v R)
    (true_left x.sizes k _ (v i) (front w))))

pub returns-in-Historically : goal.returns-in-Historically
returns-in-Historically c k v e P R =
    let x = c.args in
    let i = c.in-Historically.operand in
    let bounds = c.interval_of-in-Historically.result in
    let is : x.formula ≡ Historically i bounds.lower bounds.upper = cc in
    let w = its is c.requires in
    let run = c.run_of-in-Historically.ensures in
    worked x.sizes k v _ is
    (not_seen_row x.sizes k _ _ _ (front w)
    (c.once_row-in-Historically.ensures.2 (world x.sizes k) (v i) (λ s. seen (world x.sizes k) s true3) (λ s. seen (world x.sizes k) s (not3 (v i s)))
    (points_show x.sizes k x.points.now (omega (arith, w.minutes)) P)
    (run_shows _ _ _ i run w.operands.1 v R)
    (not_right x.sizes k _ (v i) (front w) (run_past _ _ _ i run w.operands.1 v R))))

pub returns-in-Eventually : goal.returns-in-Eventually
returns-in-Eventually c k v e P R =
    let x = c.args in
    let i = c.in-Eventually.operand in
    let bounds = c.interval_of-in-Eventually.result in
    let is : x.formula ≡ Eventually i bounds.lower bounds.upper = cc in
    let w = its is c.requires in
    let run = c.run_of-in-Eventually.ensures in
    worked x.sizes k v _ is
    (seen_row x.sizes k _ _ _ (front w)
    (c.eventually_row.ensures.2 (world x.sizes k) (v i) (λ s. seen (world x.sizes k) s true3) (v i)
    (points_show x.sizes k x.points.now (omega (arith, w.minutes)) P)
    (run_shows _ _ _ i run w.operands.1 v R)
    (true_left x.sizes k _ (v i) (front w))))

pub returns-in-Always : goal.returns-in-Always
returns-in-Always c k v e P R =
    let x = c.args in
    let i = c.in-Always.operand in
    let bounds = c.interval_of-in-Always.result in
    let is : x.formula ≡ Always i bounds.lower bounds.upper = cc in
    let w = its is c.requires in
    let run = c.run_of-in-Always.ensures in
    worked x.sizes k v _ is
    (not_seen_row x.sizes k _ _ _ (front w)
    (c.eventually_row-in-Always.ensures.2 (world x.sizes k) (v i) (λ s. seen (world x.sizes k) s true3) (λ s. seen (world x.sizes k) s (not3 (v i s)))
    (points_show x.sizes k x.points.now (omega (arith, w.minutes)) P)
    (run_shows _ _ _ i run w.operands.1 v R)
    (not_right x.sizes k _ (v i) (front w) (run_past _ _ _ i run w.operands.1 v R))))
