-- `counter_runs::are_steady` meets its contract: each chunk is a component's run. Assumes nothing.
use Rattle.std.proofs.Common.{◌≡◌, suc, length, ap, ◌∙◌, add-one, arith, rules}
use Rattle.std.specs.Slice.Iter.{chunks_exact_size, chunks_exact_rest}
use Rattle.std.specs.Iterator.Runs.{IsChunksExactRun}
use Rattle.knowledge.specs.Knowledge.{run_of, steady}
use Rattle.knowledge.specs.Run.{cell}
use Rattle.counter_runs.proofs.Parts.{part_steady, chunk}
use Rattle.counter_runs.proofs.Chunks.{verdict}
use Rattle.counter_runs.proofs.are_steady.Goals as goal

pub returns : goal.returns
returns c =
    let x = c.args in
    let made = c.chunks_exact in
    let run = c.all.ensures.runs in
    let size : chunks_exact_size run.0.from ≡ suc x.minutes = ap chunks_exact_size run.1 ∙ made.ensures.size ∙ add-one _ in
    let rest : chunks_exact_rest run.0.from ≡ x.numbers.now = ap chunks_exact_rest run.1 ∙ made.ensures.rest in
    let chunks : IsChunksExactRun run.0 (suc x.minutes) x.numbers.now = rw (size, rest) at (made.ensures.runs run.0 run.0.seen (rw size (omega arith))) in
    verdict _ _ run.0 x.numbers.now (suc x.minutes) x.components (omega arith) c.requires.1 chunks (λ a b q called. search rules)
    (λ k. steady (run_of x.numbers.now x.minutes k) (suc x.minutes))
    (λ k y b h e called.
    let answer : b ≡ steady (cell y.now) (length y.now) = search rules in
    answer ∙ part_steady (chunk x.numbers.now x.minutes x.components k y.now c.requires.1 h e))
    c.all.result run.2
