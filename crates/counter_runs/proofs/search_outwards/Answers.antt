-- `counter_runs::search_outwards` meets its contract: `Searching` puts together what reading back and reading forth find. Assumes nothing.
use mathlib.Core.Path.{sym, subst}
use Prim.Native.Nat.{ℕ, ◌+◌}
use native.Mathlib.Omega.{arith}
use Rattle.knowledge.specs.Run.{cell, Forth}
use Rattle.counter_runs.proofs.Searching.{outwards}
use Rattle.counter_runs.proofs.search_outwards.Goals as goal

pub returns : goal.returns
returns c m e =
    let x = c.args in
    let back = c.previous_known-back in
    let forth = c.next_known-forth in
    let f = cell x.run.now in
    let found =
    outwards f m x.minute back.result forth.result (omega arith) back.ensures
    (subst (λ (n : ℕ). Forth f n (x.minute + 1) forth.result) (sym e) forth.ensures) in
    record {
      answer = found.answer;
      full_answer = found.full_answer;
      before = found.before;
      after = found.after;
      earlier = found.earlier;
      later = found.later;
      reads = found.reads;
    }
