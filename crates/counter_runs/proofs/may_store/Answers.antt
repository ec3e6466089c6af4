-- `counter_runs::may_store` meets its contract: a known number is its own answer, and for a place that was not known `Putting` has each return.
-- Assumes nothing.
use mathlib.Core.Path.{◌≡◌, sym, ap, subst, ◌∙◌}
use mathlib.Core.Bool.{true, false}
use Prim.Native.Nat.{ℕ, ◌-◌, ◌≤◌, ◌<◌}
use native.Mathlib.Decide.{ℕ_discrete}
use native.Mathlib.Omega.{arith}
use lib.ListN.{length}
use Rattle.decide.proofs.Laws.{is_false, fails, agree, same, equal}
use Rattle.knowledge.specs.declared.Found.{Found}
use Rattle.knowledge.specs.Knowledge.{none, Follow, follow}
use Rattle.knowledge.specs.Run.{cell, May, Back, Previous}
use Rattle.knowledge.proofs.Runs.{follow_decides, may_decides}
use Rattle.counter_runs.proofs.Searching.{known_before}
use Rattle.counter_runs.proofs.Putting.{again, may_new, needs_below, needs_above}
use Rattle.counter_runs.proofs.may_store.Goals as goal

not_first : (f : ℕ → ℕ) (i : ℕ) → f 0 ≡ 0 → none ≤ f i → 0 < i
not_first f i e h = go (ℕ_discrete i 0)
  where
    go : Dec (i ≡ 0) → 0 < i
    go (yes z) = let g : none ≤ f 0 = subst (λ (j : ℕ). none ≤ f j) z h in omega arith
    go (no z) = omega arith

-- the number that reading back found, and where
found_before : (f : ℕ → ℕ) (place : ℕ) (r : Found) → f 0 ≡ 0 → Back f place r → Previous f place r.place × (r.number ≡ f r.place)
found_before f place r e B = let P = known_before f place r (omega arith) B in (P, B.number P.known)

follow_from : (w d : ℕ) {u v : ℕ} → u ≡ v → follow u w d ≡ follow v w d
follow_from w d e = ap (λ (n : ℕ). follow n w d) e

pub returns-then-v-eq-NONE : goal.returns-then-v-eq-NONE
returns-then-v-eq-NONE c =
    let x = c.args in
    let run = x.run.now in
    sym (is_false (may_decides (cell run) (length run) x.place x.v) (λ A. let small = A.small in omega arith))

pub returns-then-here-lt-NONE : goal.returns-then-here-lt-NONE
returns-then-here-lt-NONE c =
    let x = c.args in
    let run = x.run.now in
    let f = cell run in
    let small : x.v < none = omega arith in
    agree
    (same
    (λ e. record { small = small; nothing_else = λ _. e; stored = again f (length run) x.place x.v e c.requires.1 })
    (λ (A : May f (length run) x.place x.v). A.nothing_else c.if-here-lt-NONE.true)
    (equal (f x.place) x.v))
    (may_decides f (length run) x.place x.v)

pub returns-then-not-follows : goal.returns-then-not-follows
returns-then-not-follows c =
    let g = c.follows in
    let p = c.previous_known-p in
    let x = c.args in
    let run = x.run.now in
    let f = cell run in
    let small : x.v < none = omega arith in
    let P = found_before f x.place p.result c.requires.1.first p.ensures in
    let no : g.result ≡ false = c.if-not-follows.true in
    sym
    (is_false (may_decides f (length run) x.place x.v)
    (λ A. fails (follow_decides (f p.result.place) x.v (x.place - p.result.place)) (sym (g.ensures ∙ follow_from x.v _ P.1) ∙ no)
    (needs_below f (length run) x.place x.v c.requires.2 small p.result.place P.0 A.stored)))

pub returns-then-q-run : goal.returns-then-q-run
returns-then-q-run c =
    let q = c.next_known-q in
    let g = c.follows in
    let p = c.previous_known-p in
    let x = c.args in
    let run = x.run.now in
    let f = cell run in
    let small : x.v < none = omega (arith, c.if-v-eq-NONE.false) in
    let P = found_before f x.place p.result c.requires.1.first p.ensures in
    let so : g.result ≡ true = c.if-not-follows.false in
    let below = (follow_decides (f p.result.place) x.v (x.place - p.result.place)).sound (sym (g.ensures ∙ follow_from x.v _ P.1) ∙ so) in
    let there : q.result.place < length run = c.if-q-run.true in
    let hidden : none ≤ f x.place = c.if-here-lt-NONE.false in
    c.follows-then-q-run.ensures
    ∙ ap (λ (n : ℕ). follow x.v n (q.result.place - x.place)) (q.ensures.number there)
    ∙ agree
    (same
    (λ (h : Follow x.v (f q.result.place) (q.result.place - x.place)).
    may_new f (length run) x.place x.v c.requires.2 small c.requires.1 hidden p.result.place q.result.place P.0 q.ensures.place below (λ _. h))
    (λ (A : May f (length run) x.place x.v).
    needs_above f (length run) x.place x.v c.requires.2 small c.requires.1 hidden p.result.place q.result.place P.0 q.ensures.place A.stored
    there)
    (follow_decides x.v (f q.result.place) (q.result.place - x.place)))
    (may_decides f (length run) x.place x.v)

pub returns : goal.returns
returns c =
    let q = c.next_known-q in
    let g = c.follows in
    let p = c.previous_known-p in
    let x = c.args in
    let run = x.run.now in
    let f = cell run in
    let small : x.v < none = omega (arith, c.if-v-eq-NONE.false) in
    let P = found_before f x.place p.result c.requires.1.first p.ensures in
    let so : g.result ≡ true = c.if-not-follows.false in
    let below = (follow_decides (f p.result.place) x.v (x.place - p.result.place)).sound (sym (g.ensures ∙ follow_from x.v _ P.1) ∙ so) in
    let hidden : none ≤ f x.place = c.if-here-lt-NONE.false in
    sym
    ((may_decides f (length run) x.place x.v).whole
    (may_new f (length run) x.place x.v c.requires.2 small c.requires.1 hidden p.result.place q.result.place P.0 q.ensures.place below
    (λ w. absurd (let z : ⊥ = omega arith in z))))
