-- `counter_runs::is_steady` meets its contract. The loop's invariant: the run is steady up to p, which is a known place with the number v, or p is the
-- run's end and all of it is steady. The measure is what is left of the run. Assumes nothing.
use mathlib.Core.Path.{◌≡◌, sym, subst, ◌∙◌}
use mathlib.Core.Bool.{true, false}
use Prim.Native.Nat.{ℕ, ◌-◌}
use native.Mathlib.Omega.{arith}
use lib.ListN.{length}
use Rattle.decide.proofs.Laws.{is_false, fails}
use Rattle.knowledge.specs.Knowledge.{Follow}
use Rattle.knowledge.specs.Run.{cell}
use Rattle.knowledge.proofs.Runs.{follow_decides, steady_decides}
use Rattle.counter_runs.proofs.Walk.{step, finish, fail, ended}
use Rattle.counter_runs.proofs.is_steady.Goals as goal

pub returns-then-run-ne0 : goal.returns-then-run-ne0
returns-then-run-ne0 c =
    let run = c.args.run.now in
    sym (is_false (steady_decides (cell run) (length run)) (λ s. c.if-run-ne0.true s.first))

pub returns-then-not-follows : goal.returns-then-not-follows
returns-then-not-follows c =
    let run = c.args.run.now in
    let f = cell run in
    let l = c.loop-p in
    let r = c.next_known-found in
    let g = c.follows in
    let p = l.p in
    let q = r.result.place in
    let here = l.invariant.1 (omega arith) in
    let no : g.result ≡ false = c.if-not-follows.true in
    let bad : Follow l.v r.result.number (q - p) → ⊥ = fails (follow_decides l.v r.result.number (q - p)) (sym g.ensures ∙ no) in
    let there = r.ensures.number c.if-q-run.true in
    sym
    (is_false (steady_decides f (length run))
    (fail f (length run) p q here.1 r.ensures.place c.if-q-run.true
    (λ w. bad (subst (λ (x : ℕ). Follow x r.result.number (q - p)) (sym here.0) (subst (λ (y : ℕ). Follow (f p) y (q - p)) (sym there) w)))))

pub loop-p-preserved-else-not-follows : goal.loop-p-preserved-else-not-follows
loop-p-preserved-else-not-follows c =
    let run = c.args.run.now in
    let f = cell run in
    let l = c.loop-p in
    let r = c.next_known-found in
    let g = c.follows in
    let p = l.p in
    let q = r.result.place in
    let here = l.invariant.1 (omega arith) in
    let there = r.ensures.number c.if-q-run.true in
    let so : g.result ≡ true = c.if-not-follows.false in
    let near = (follow_decides l.v r.result.number (q - p)).sound (sym g.ensures ∙ so) in
    let nigh = subst (λ (y : ℕ). Follow (f p) y (q - p)) there (subst (λ (x : ℕ). Follow x r.result.number (q - p)) here.0 near) in (
      r.ensures.place.within,
      λ _. (there, step f (length run) p q here.1 r.ensures.place c.if-q-run.true nigh),
      λ h. absurd (let z : ⊥ = omega arith in z),
    )

pub loop-p-preserved : goal.loop-p-preserved
loop-p-preserved c =
    let run = c.args.run.now in
    let l = c.loop-p in
    let r = c.next_known-found in
    let within = r.ensures.place.within in
    let here = l.invariant.1 (omega arith) in (
      within,
      λ h. absurd (let z : ⊥ = omega arith in z),
      λ _. finish (cell run) (length run) l.p r.result.place here.1 r.ensures.place (omega arith),
    )

pub returns : goal.returns
returns c =
    let run = c.args.run.now in
    let l = c.loop-p in
    sym ((steady_decides (cell run) (length run)).whole (ended (cell run) (length run) l.p (omega arith) (omega arith) (λ h. (l.invariant.1 h).1) l.invariant.2))
