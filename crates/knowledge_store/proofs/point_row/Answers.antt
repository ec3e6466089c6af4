-- `knowledge_store::point_row` meets its contract: one chunk after another is a component's run. Assumes nothing.
use Rattle.std.proofs.Common.{◌≡◌, ℕ, suc, ◌*◌, ◌≤◌, ◌<◌, List, ◌++◌, length, replicate, get_or, drop, refl, sym, ap, ◌∙◌, ⊎_elim, add-one, length-append, length-drop, arith, rules}
use Rattle.std.proofs.lemmas.List.{length_push, length-replicate}
use Rattle.std.specs.Slice.Iter.{chunks_exact_size, chunks_exact_rest}
use Rattle.std.proofs.lemmas.Grind.{common_steps}
use Rattle.rows.proofs.Laws.{lt_or_le, cells, zeros}
use Rattle.kleene.specs.Truth.{code_of}
use Rattle.counter_runs.proofs.Parts.{room, chunk, part_is_steady, part_told}
use Rattle.counter_runs.proofs.Chunks.{next_chunk}
use Rattle.knowledge_store.proofs.Points.{points, all_points, row_codes, one_more_run}
use Rattle.knowledge_store.proofs.point_row.Goals as goal

-- a row of zeros whose first m cells are 2
started : (n m : ℕ) (front row : List ℕ) → m ≤ n → front ≡ replicate m 2 → row ≡ replicate n 0
    → (length (front ++ drop m row) ≡ n)
    × ((t : ℕ) → t < m → get_or (front ++ drop m row) t 0 ≡ 2)
    × ((t : ℕ) → m ≤ t → get_or (front ++ drop m row) t 0 ≡ 0)
started n m front row l e z = rw (e, z) (
  simp (length-append, length-drop, length-replicate) (omega arith),
  λ t h. grind (arith, common_steps, cells m 2 t),
  λ t h. grind (arith, common_steps, zeros n t),
)

pub loop-run-init : goal.loop-run-init
unfolding points
loop-run-init c =
    let made = c.chunks_exact-run-items.ensures in
    let none : 0 ≡ 0 * suc c.args.sizes.minutes = omega arith in
    let it = c.into_iter-run-iterator.ensures.into_iter_gives in
    let front : c.fill.new.self ≡ replicate c.args.sizes.minutes 2 = search rules in
    let row = started 1024 c.args.sizes.minutes c.fill.new.self _ (omega arith) front refl in
    record {
      few = omega arith;
      size = ap chunks_exact_size it ∙ made.size ∙ add-one _;
      rest = ap chunks_exact_rest it ∙ made.rest ∙ ap (λ (j : ℕ). drop j c.args.numbers.now) none;
      long = row.0;
      told = row.1;
      past = row.2;
    }

pub join_run-requires : goal.join_run-requires
join_run-requires c =
    let z = c.args.sizes in
    let l = c.loop-run.invariant in
    let step = c.in-Some.ensures.steps in
    let next = next_chunk c.args.numbers.now (suc z.minutes) z.components (length c.loop-run.yielded) _ _ _ (omega arith) c.requires.1 l.rest step.1.0 (step.1.1 ∙ l.size) in
    let run = chunk c.args.numbers.now z.minutes z.components (length c.loop-run.yielded) c.in-Some.run'.now c.requires.1 next.0 next.1 in (
      omega (arith, run.long),
      omega (arith, run.long),
      part_is_steady run (c.requires.2 _ next.0),
      l.long,
      row_codes (points c.args.numbers.now z.minutes (length c.loop-run.yielded)) z.minutes c.loop-run.row l.told l.past,
    )

pub loop-run-preserved : goal.loop-run-preserved
loop-run-preserved c =
    let z = c.args.sizes in
    let numbers = c.args.numbers.now in
    let k = length c.loop-run.yielded in
    let l = c.loop-run.invariant in
    let step = c.in-Some.ensures.steps in
    let next = next_chunk numbers (suc z.minutes) z.components k _ _ _ (omega arith) c.requires.1 l.rest step.1.0 (step.1.1 ∙ l.size) in
    let run = chunk numbers z.minutes z.components k c.in-Some.run'.now c.requires.1 next.0 next.1 in
    let over = c.join_run.ensures z.minutes (sym run.long) in
    let one = length_push c.loop-run.yielded c.in-Some.run' in
    record {
      few = omega (arith, one, next.0);
      size = step.0 ∙ l.size;
      rest = next.2 ∙ ap (λ (j : ℕ). drop (j * suc z.minutes) numbers) (sym one);
      long = over.long ∙ l.long;
      told = λ t h. one_more_run numbers _ z.minutes k c.loop-run.row _ over l.told (part_told run) t h ∙ ap (λ (j : ℕ). code_of (points numbers z.minutes j t)) (sym one);
      past = λ t h. over.above t h ∙ l.past t h;
    }

-- where less than a chunk is left, all have been given
all_given : (l left : List ℕ) (n k w : ℕ) → length l ≡ n * w → left ≡ drop (k * w) l → length left < w → k ≤ n → k ≡ n
all_given l left n k w long at short few =
    ⊎_elim
    (λ (h : k < n). let fits = room k n w h in absurd (omega (arith, ap length at, length-drop (k * w) l)))
    (λ (h : n ≤ k). let e : k ≡ n = omega arith in e)
    (lt_or_le k n)

pub returns : goal.returns
returns c =
    let z = c.args.sizes in
    let l = c.loop-run.invariant in
    let short = c.in-None.ensures.steps.1.0 in
    let e = all_given c.args.numbers.now _ z.components (length c.loop-run.yielded) (suc z.minutes) c.requires.1 l.rest (omega (arith, short, l.size)) l.few in
    record {
      long = l.long;
      inside = λ k f t h.
          l.told t h
          ∙ ap (λ (n : ℕ). code_of (points c.args.numbers.now z.minutes n t)) e
          ∙ ap (λ (y : List ℕ). code_of (points y z.minutes z.components t)) (sym f)
          ∙ ap code_of (all_points z k t);
      past = l.past;
    }
