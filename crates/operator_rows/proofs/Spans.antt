-- Since and until are one notion: going back from t, or forward from it, something begins in an interval and nothing breaks off on the way. The
-- last begin and the last break that are passed decide whether it reaches a threshold. Assumes nothing.
use mathlib.Core.Path.{◌≡◌, refl, sym, ap, subst}
use mathlib.Core.Bool.{Bool, true, false, not, ◌&&◌}
use mathlib.Core.Logic.{◌↔◌, ⊎_elim}
use Prim.Native.Nat.{ℕ, suc, ◌+◌, ◌-◌, ◌≤◌, ◌<◌}
use native.Mathlib.Omega.{arith}
use lib.Dec.{ltb, leb}
use borrow.Author.Tests.{le-leb, lt-leb}
use Rattle.kleene.specs.Truth.{Truth, unknown, true3, not3}
use Rattle.kleene.specs.Rank.{rank_of}
use Rattle.kleene.proofs.Rank.{rank_le, rank_or, rank_and, rank_not}
use Rattle.kleene.specs.Tests.{literal}
use Rattle.rows.proofs.Laws.{lt_or_le}
use Rattle.decide.specs.Decide.{Decides}
use Rattle.decide.proofs.Laws.{fails, same, less, most, both, none}
use Rattle.mtl.specs.Algebra.{three, any, meet, implies}
use Rattle.mtl.specs.Reading.{World, point, meets, keeps, since_start, since_count, since, until_start, until_count, until}
use Rattle.valuation.specs.Indexes.{ranked, begun, broken, Last, far, turned}
use Rattle.operator_rows.proofs.Folds.{any_some, any_none, all_each, all_at}

-- the tests of an order by what is not so
at_least : (a b : ℕ) → Decides (not (ltb a b)) (b ≤ a)
at_least a b =
    same (λ (h : a < b → ⊥). ⊎_elim (λ (l : a < b). absurd (h l)) (λ (l : b ≤ a). l) (lt_or_le a b)) (λ l h. let z : ⊥ = omega arith in z)
    (none (less a b))

above : (a b : ℕ) → Decides (not (leb a b)) (b < a)
above a b =
    same (λ (h : a ≤ b → ⊥). ⊎_elim (λ (l : b < a). l) (λ (l : a ≤ b). absurd (h l)) (lt_or_le b a)) (λ l h. let z : ⊥ = omega arith in z)
    (none (most a b))

-- x reaches k just where some begin from lo on and before n does, and no break after it and before m reaches 3 - k
record Reaches (k : ℕ) (f g : ℕ → ℕ) (lo n m : ℕ) (x : Truth) : Type 0 where
  some : (j : ℕ) → lo ≤ j → j < n → k ≤ f j → ((s : ℕ) → j < s → s < m → g s < 3 - k) → k ≤ rank_of x
  only : ((j : ℕ) → lo ≤ j → j < n → k ≤ f j → ((s : ℕ) → j < s → s < m → g s < 3 - k) → ⊥) → rank_of x < k

-- the test of the two indexes is that x reaches k
module _ (k lo n m begin stop : ℕ) (f g : ℕ → ℕ) (x : Truth) (R : Reaches k f g lo n m x) (A : Last k f n begin) (B : Last (3 - k) g m stop) where
  reached : lo < begin → stop ≤ begin → k ≤ rank_of x
  reached p q =
      let i = begin - 1 in
      let in_range : begin ≤ n = A.within in
      R.some i (omega arith) (omega arith) (A.there i (omega arith)) (λ s l r. B.after s (omega arith) r)

  missed : (lo < begin → stop ≤ begin → ⊥) → rank_of x < k
  missed h =
      R.only
      (λ j p q a b.
      let in_range : stop ≤ m = B.within in
      ⊎_elim
      (λ (l : j < begin).
      ⊎_elim
      (λ (late : begin < stop).
      let s = stop - 1 in
      let z : ⊥ = omega (arith, b s (omega arith) (omega arith), B.there s (omega arith)) in
      z)
      (λ (early : stop ≤ begin). h (omega arith) early)
      (lt_or_le begin stop))
      (λ (l : begin ≤ j). let z : ⊥ = omega (arith, A.after j l q) in z)
      (lt_or_le j begin))

  decided : (b : Bool) → Decides b ((lo < begin) × (stop ≤ begin)) → b ≡ leb k (rank_of x)
  decided true d = let h = d.sound refl in sym (le-leb k (rank_of x) (reached h.0 h.1))
  decided false d = sym (lt-leb k (rank_of x) (missed (λ p q. fails d refl (p, q))))

-- with nothing that breaks off what begins, the index of the begin alone decides
module _ (k lo n m begin : ℕ) (f g : ℕ → ℕ) (x : Truth) (R : Reaches k f g lo n m x) (A : Last k f n begin)
    (free : (j : ℕ) → k ≤ f j → (s : ℕ) → j < s → s < m → g s < 3 - k) where
  begun_in : lo < begin → k ≤ rank_of x
  begun_in p =
      let i = begin - 1 in
      let in_range : begin ≤ n = A.within in
      let h = A.there i (omega arith) in
      R.some i (omega arith) (omega arith) h (free i h)

  begun_out : begin ≤ lo → rank_of x < k
  begun_out p = R.only (λ j a b c d. let z : ⊥ = omega (arith, A.after j (omega arith) b) in z)

  begun_decides : (b : Bool) → Decides b (lo < begin) → b ≡ leb k (rank_of x)
  begun_decides true d = sym (le-leb k (rank_of x) (begun_in (d.sound refl)))
  begun_decides false d =
      sym (lt-leb k (rank_of x) (⊎_elim (λ (l : lo < begin). absurd (fails d refl l)) (λ (l : begin ≤ lo). begun_out l) (lt_or_le lo begin)))

-- ---- minutes with time turned round

turned_back : (s : ℕ) → s < far → far - 1 - (far - 1 - s) ≡ s
turned_back s h = omega arith

turned_in : (lo hi i : ℕ) → hi < far → far - 1 - hi ≤ i → i < far - lo → (lo ≤ far - 1 - i) × (far - 1 - i ≤ hi)
turned_in lo hi i near p q = (omega arith, omega arith)

turned_out : (lo hi j : ℕ) → hi < far → (lo ≤ j) × (j ≤ hi) → (far - 1 - hi ≤ far - 1 - j) × (far - 1 - j < far - lo) × (j < far)
turned_out lo hi j near h = (omega arith, omega arith, omega arith)

turned_under : (t i s : ℕ) → t ≤ s → s < t + (far - 1 - i - t) → (i < far - 1 - s) × (far - 1 - s < far - t) × (s < far)
turned_under t i s l r = (omega arith, omega arith, omega arith)

turned_over : (t j s : ℕ) → far - 1 - j < s → s < far - t → (t ≤ far - 1 - s) × (far - 1 - s < t + (j - t))
turned_over t j s l r = (omega arith, omega arith)

turned_order : (begin end stop : ℕ) → end < far → ((begin ≤ end) × (begin ≤ stop)) ↔ ((far - 1 - end < far - begin) × (far - stop ≤ far - begin))
turned_order begin end stop near = (λ h. (omega arith, omega arith), λ h. (omega arith, omega arith))

interval : (lower upper t j : ℕ) → ((until_start lower t ≤ j) × (j < until_start lower t + until_count lower upper)) ↔ ((t + lower ≤ j) × (j ≤ t + upper))
interval lower upper t j = (λ h. (h.0, omega arith), λ h. omega arith)

-- ---- a since and an until are such

module _ (w : World Truth) (α β : ℕ → Truth) (k : ℕ) (pos : 0 < k) (small : k ≤ 2) where
  abbrev e : ℕ → Truth
  e = point three w

  -- to go on, (not e(s) or α(s)), is not to break off
  goes_on : (s : ℕ) → rank_of (implies three (e s) (α s)) ≡ 2 - broken e α s
  unfolding ranked
  goes_on s = omega (arith, rank_or (not3 (e s)) (α s), rank_not (e s), rank_and (e s) (not3 (α s)), rank_not (α s), rank_le (e s), rank_le (α s))

  -- it begins at j and goes on over the count(j) minutes from(j) on; for some j of n from lo on
  module _ (lo n : ℕ) (from count : ℕ → ℕ) where
    abbrev spanned : ℕ → Truth
    spanned j = meet three (meets three w β j) (keeps three w α (from j) (count j))

    abbrev Unbroken : ℕ → Type 0
    Unbroken j = (s : ℕ) → from j ≤ s → s < from j + count j → broken e α s < 3 - k

    some_span : (j : ℕ) → lo ≤ j → j < lo + n → k ≤ begun e β j → Unbroken j → k ≤ rank_of (any three lo n spanned)
    unfolding ranked
    some_span j p q a b =
        let on = all_each k (λ s. implies three (e s) (α s)) (from j) (count j) small (λ s l r. omega (arith, goes_on s, b s l r)) in
        any_some k spanned lo n j p q (omega (arith, rank_and (meets three w β j) (keeps three w α (from j) (count j))))

    no_span : ((j : ℕ) → lo ≤ j → j < lo + n → k ≤ begun e β j → Unbroken j → ⊥) → rank_of (any three lo n spanned) < k
    unfolding ranked
    no_span h =
        any_none k spanned lo n pos
        (λ j p q.
        let both = rank_and (meets three w β j) (keeps three w α (from j) (count j)) in
        ⊎_elim
        (λ (l : rank_of (spanned j) < k). l)
        (λ (l : k ≤ rank_of (spanned j)).
        absurd (h j p q (omega arith) (λ s a b. omega (arith, goes_on s, all_at k (λ i. implies three (e i) (α i)) (from j) (count j) s a b (omega arith)))))
        (lt_or_le (rank_of (spanned j)) k))

  module _ (lower upper t : ℕ) where
    since_reaches : Reaches k (begun e β) (broken e α) (t - upper) (t + 1 - lower) (t + 1) (since three w α β lower upper t)
    unfolding since
    since_reaches =
        record {
          some = λ j p q a b.
              some_span (since_start upper t) (since_count lower upper t) suc (λ i. t - i) j p (omega arith) a (λ s l r. b s l (omega arith));
          only = λ h.
              no_span (since_start upper t) (since_count lower upper t) suc (λ i. t - i)
              (λ j p q a b. h j p (omega arith) a (λ s l r. b s l (omega arith)));
        }

    -- an until is a since with time turned round
    until_reaches : t + upper < far
        → Reaches k (turned (begun e β)) (turned (broken e α)) (far - 1 - (t + upper)) (far - (t + lower)) (far - t) (until three w α β lower upper t)
    unfolding until
    until_reaches near =
        let lo = t + lower in
        let hi = t + upper in
        record {
          some = λ i p q a b.
              let here = turned_in lo hi i near p q in
              some_span (until_start lower t) (until_count lower upper) (λ _. t) (λ j. j - t)
              (far - 1 - i) here.0 ((interval lower upper t (far - 1 - i)).1 here).1 a
              (λ s l r.
              let u = turned_under t i s l r in
              subst (λ (x : ℕ). broken e α x < 3 - k) (turned_back s u.2) (b (far - 1 - s) u.0 u.1));
          only = λ h.
              no_span (until_start lower t) (until_count lower upper) (λ _. t) (λ j. j - t)
              (λ j p q a b.
              let here = (interval lower upper t j).0 (p, q) in
              let u = turned_out lo hi j near here in
              h (far - 1 - j) u.0 u.1 (subst (λ (x : ℕ). k ≤ begun e β x) (sym (turned_back j u.2)) a)
              (λ s l r. let v = turned_over t j s l r in b (far - 1 - s) v.0 v.1));
        }

  -- the tests of since and until
  module _ (lower upper t begin stop : ℕ) where
    pub since_test : (start : ℕ) → start ≡ t - upper → Last k (begun e β) (t + 1 - lower) begin → Last (3 - k) (broken e α) (t + 1) stop
        → (not (leb begin start) && not (ltb begin stop)) ≡ leb k (rank_of (since three w α β lower upper t))
    since_test start s A B =
        decided k start _ _ begin stop (begun e β) (broken e α) (since three w α β lower upper t)
        (rw s (since_reaches lower upper t)) A B (not (leb begin start) && not (ltb begin stop)) (both (above begin start) (at_least begin stop))

    pub until_test : (end : ℕ) → end ≡ t + upper → end < far → Last k (turned (begun e β)) (far - (t + lower)) (far - begin)
        → Last (3 - k) (turned (broken e α)) (far - t) (far - stop)
        → (not (ltb end begin) && not (ltb stop begin)) ≡ leb k (rank_of (until three w α β lower upper t))
    until_test end s near A B =
        let order = turned_order begin end stop near in
        decided k (far - 1 - end) _ _ (far - begin) (far - stop) (turned (begun e β)) (turned (broken e α)) (until three w α β lower upper t)
        (rw s (until_reaches lower upper t (rw s at near))) A B (not (ltb end begin) && not (ltb stop begin))
        (same order.0 order.1 (both (at_least end begin) (at_least stop begin)))

    -- those of once and eventually: "true" stands on the left as far as m minutes go, and from there on e is unknown. What breaks off there then
    -- does so where it may, and what begins there begins where it may, so that the first breaks off none of the second: that "true" is not true
    -- there does no harm
    module _ (m : ℕ) (held : (s : ℕ) → s < m → α s ≡ true3) where
      unbroken : (s : ℕ) → s < m → broken e α s ≡ 0
      unfolding ranked rank_of
      unbroken s h = omega (arith, rank_and (e s) (not3 (α s)), rank_not (α s), ap rank_of (held s h))

      pub once_test : (start : ℕ) → start ≡ t - upper → t < m → Last k (begun e β) (t + 1 - lower) begin
          → not (leb begin start) ≡ leb k (rank_of (since three w α β lower upper t))
      once_test start s l A =
          begun_decides k start (t + 1 - lower) (t + 1) begin (begun e β) (broken e α) (since three w α β lower upper t) (rw s (since_reaches lower upper t)) A
          (λ j h s a b. omega (arith, unbroken s (omega arith))) (not (leb begin start)) (above begin start)

      module _ (dark : (s : ℕ) → m ≤ s → e s ≡ unknown) where
        at_most_may : (negated : Bool) (f : ℕ → Truth) (s : ℕ) → m ≤ s → ranked negated e f s ≤ 1
        unfolding ranked rank_of
        at_most_may negated f s h = omega (arith, rank_and (e s) (literal negated (f s)), ap rank_of (dark s h))

        free : (j : ℕ) → k ≤ begun e β j → (s : ℕ) → s ≤ j → broken e α s < 3 - k
        free j h s l =
            ⊎_elim (λ (a : s < m). omega (arith, unbroken s a)) (λ (a : m ≤ s). omega (arith, at_most_may true α s a, at_most_may false β j (omega arith))) (lt_or_le s m)

        pub eventually_test : (end : ℕ) → end ≡ t + upper → end < far → Last k (turned (begun e β)) (far - (t + lower)) (far - begin)
            → not (ltb end begin) ≡ leb k (rank_of (until three w α β lower upper t))
        eventually_test end s near A =
            begun_decides k (far - 1 - end) (far - (t + lower)) (far - t) (far - begin) (turned (begun e β)) (turned (broken e α)) (until three w α β lower upper t)
            (rw s (until_reaches lower upper t (rw s at near))) A (λ i h j a b. free (far - 1 - i) h (far - 1 - j) (omega arith))
            (not (ltb end begin)) (same (λ (h : begin ≤ end). omega arith) (λ h. omega arith) (at_least end begin))
