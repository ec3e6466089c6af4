-- `knowledge_store::join_run` meets its contract. The loop's invariant: the minute is the first of a gap, or the minutes are through, and the row is joined
-- with what the run tells of those before it. The measure is how many minutes are left. Assumes nothing.
use mathlib.Core.Path.{◌≡◌, subst, ◌∙◌}
use Prim.Native.Nat.{ℕ, ◌-◌, min}
use native.Mathlib.Omega.{arith}
use lib.ListN.{length}
use Rattle.rows.specs.Over.{Over}
use Rattle.knowledge.specs.Knowledge.{says}
use Rattle.knowledge.specs.Run.{cell, joined, told}
use Rattle.knowledge.specs.Outwards.{full_gap}
use Rattle.knowledge_store.proofs.Gap.{found_gap, each_minute}
use Rattle.knowledge_store.proofs.Points.{codes_kept, stretch}
use Rattle.knowledge_store.proofs.join_run.Goals as goal

pub join_gap-requires : goal.join_gap-requires
join_gap-requires c =
    let l = c.loop-minute in
    let r = c.search_outwards-found in
    let g = found_gap _ _ l.minute r.result c.requires.2 (omega arith) (l.invariant.2 (omega arith)) r.ensures in
    let at = g.0 in
    let past = g.1.ends.past in
    let within = g.1.ends.within in (
      omega arith,
      omega arith,
      omega arith,
      omega arith,
      omega arith,
      l.invariant.0,
      codes_kept _ _ _ _ _ c.requires.4 l.invariant.3,
      λ e. g.1.alone (omega arith) (omega arith),
      g.1.one_of_two,
    )

pub loop-minute-smaller : goal.loop-minute-smaller
loop-minute-smaller c =
    let l = c.loop-minute in
    let r = c.search_outwards-found in
    let g = found_gap _ _ l.minute r.result c.requires.2 (omega arith) (l.invariant.2 (omega arith)) r.ensures in
    let at = g.0 in
    let past = g.1.ends.past in
    omega arith

pub loop-minute-preserved : goal.loop-minute-preserved
loop-minute-preserved c =
    let f = cell c.args.run.now in
    let m = length c.args.run.now - 1 in
    let old = c.args.row.now in
    let l = c.loop-minute in
    let v = l.invariant in
    let r = c.search_outwards-found in
    let found = r.result in
    let over = c.join_gap.ensures in
    let g = found_gap f _ l.minute found c.requires.2 (omega arith) (v.2 (omega arith)) r.ensures in
    let at = g.0 in
    let past = g.1.ends.past in
    let here : min l.minute m ≡ l.minute = omega arith in (
      over.long ∙ v.0,
      v.1,
      λ w. g.1.ends.there (omega arith),
      stretch f m l.minute (min found.after m) old l.row _ (says (full_gap found) found.level)
          (subst (λ (n : ℕ). Over (joined old (told f m)) 0 n old l.row) here v.3) over (omega arith)
          (λ t from to.
          g.1.answer m v.1
          ∙ each_minute f m found.before found.after g.1.known (rw v.1 g.1.ends) (rw v.1 c.requires.2) t (omega arith) (omega arith)),
    )
