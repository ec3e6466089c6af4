-- `knowledge_store::are_facts_sound` meets its contract: each pair of words is a minute's. Assumes nothing.
use Rattle.std.proofs.Common.{◌≡◌, ℕ, ◌+◌, ◌*◌, ◌^◌, ◌%◌, List, get_or, take, drop, ◌<◌, sym, ap, ap₂, ◌∙◌, arith, rules}
use Rattle.std.proofs.Math.Seq.{get_or-take, get_or-drop}
use Rattle.std.specs.Slice.Iter.{chunks_exact_size, chunks_exact_rest}
use Rattle.std.specs.Iterator.Runs.{IsChunksExactRun}
use native.Mathlib.Nat.{one-mul}
use lib.Pow.{shl_exact}
use Rattle.knowledge.specs.Knowledge.{word_sound}
use Rattle.counter_runs.proofs.Chunks.{verdict}
use Rattle.knowledge_store.proofs.are_facts_sound.Goals as goal

-- a cell of the k-th pair
pair_cell : (l y : List ℕ) (k i j : ℕ) → y ≡ take 2 (drop (k * 2) l) → i < 2 → j ≡ k * 2 + i → get_or y i 0 ≡ get_or l j 0
pair_cell l y k i j e h q =
    ap (λ (xs : List ℕ). get_or xs i 0) e ∙ get_or-take 2 (drop (k * 2) l) i 0 h ∙ get_or-drop (k * 2) l i 0 ∙ ap (λ (n : ℕ). get_or l n 0) (sym q)

pub returns : goal.returns
returns c =
    let x = c.args in
    let made = c.chunks_exact in
    let run = c.all.ensures.runs in
    let size : chunks_exact_size run.0.from ≡ 2 = ap chunks_exact_size run.1 ∙ made.ensures.size in
    let rest : chunks_exact_rest run.0.from ≡ x.facts.now = ap chunks_exact_rest run.1 ∙ made.ensures.rest in
    let chunks : IsChunksExactRun run.0 2 x.facts.now = rw (size, rest) at (made.ensures.runs run.0 run.0.seen (rw size (omega arith))) in
    let limit : 1 * 2 ^ x.propositions % 2 ^ 64 ≡ 2 ^ x.propositions = shl_exact 1 x.propositions 64 (omega arith) (omega arith) ∙ one-mul (2 ^ x.propositions) in
    verdict _ _ run.0 x.facts.now 2 x.minutes (omega arith) (omega arith) chunks (λ a b q called. search rules)
    (λ t. word_sound x.propositions (get_or x.facts.now (2 * t) 0) (get_or x.facts.now (2 * t + 1) 0))
    (λ k y b h e called.
    let answer : (p : ℕ) → 1 * 2 ^ x.propositions % 2 ^ 64 ≡ 2 ^ p → b ≡ word_sound p (get_or y.now 0 0) (get_or y.now 1 0) = search rules in
    answer x.propositions limit
    ∙ ap₂ (word_sound x.propositions) (pair_cell x.facts.now y.now k 0 (2 * k) e (omega arith) (omega arith))
    (pair_cell x.facts.now y.now k 1 (2 * k + 1) e (omega arith) (omega arith)))
    c.all.result run.2
