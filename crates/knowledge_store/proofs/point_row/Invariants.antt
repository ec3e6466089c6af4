-- `knowledge_store::point_row` meets its contract. The loop's invariant: the row holds what the runs so far tell, and the chunks that are left are
-- those of the other components. Assumes nothing.
use Rattle.std.proofs.Common.{◌≡◌, ℕ, suc, ◌*◌, ◌≤◌, ◌<◌, length, drop, get_or}
use Rattle.std.specs.Slice.Iter.{chunks_exact_size, chunks_exact_rest}
use Rattle.kleene.specs.Truth.{code_of}
use Rattle.knowledge.specs.Knowledge.{most_minutes}
use Rattle.knowledge_store.proofs.Points.{points}
use Rattle.knowledge_store.proofs.point_row.Given as goal

abbrev pub invariant-loop-run : goal.invariant-loop-run
invariant-loop-run l = record {
  few : length l.yielded ≤ l.fn.sizes.components;
  size : chunks_exact_size l.run-iterator ≡ suc l.fn.sizes.minutes;
  rest : chunks_exact_rest l.run-iterator ≡ drop (length l.yielded * suc l.fn.sizes.minutes) l.numbers;
  long : length l.row ≡ most_minutes;
  told : (t : ℕ) → t < l.fn.sizes.minutes → get_or l.row t 0 ≡ code_of (points l.numbers l.fn.sizes.minutes (length l.yielded) t);
  past : (t : ℕ) → l.fn.sizes.minutes ≤ t → get_or l.row t 0 ≡ 0;
}
