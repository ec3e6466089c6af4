-- Laws of a row that is put into a longer list, and of a list that is written from the front.
use Rattle.std.specs.Prelude.{◌≡◌, List, ◌++◌, ℕ, ◌+◌, ◌-◌, ◌≤◌, ◌<◌, length, get_or, take, drop}
use Rattle.std.proofs.Common.{sym, ap, subst, ◌∙◌, ⊎_elim, arith, length-append, length-drop, length-take-le, get_or-take, get_or-drop, get_or-append-add, ext_get_or}
use Rattle.std.proofs.Math.ListN.{get_or-append}
use Rattle.rows.specs.Over.{Over}
use Rattle.rows.proofs.Laws.{lt_or_le}
use Rattle.rows.specs.Grid.{table}
use Rattle.rows.proofs.Grid.{table_length, table_at}

-- the cell past a first list
pub get_d_past : (xs ys : List ℕ) (n i : ℕ) → length xs ≡ n → get_or (xs ++ ys) (n + i) 0 ≡ get_or ys i 0
get_d_past xs ys n i e = subst (λ (k : ℕ). get_or (xs ++ ys) (k + i) 0 ≡ get_or ys i 0) e (get_or-append-add xs ys i 0)

-- a row put in at a place
pub put_in : (F : ℕ → ℕ) (at m : ℕ) (old row : List ℕ) → at + m ≤ length old → length row ≡ m → ((t : ℕ) → t < m → get_or row t 0 ≡ F (at + t))
    → Over F at (at + m) old (take at old ++ (row ++ drop (at + m) old))
put_in F at m old row l e f =
    let front : length (take at old) ≡ at = length-take-le at old (omega arith) in
    record {
      long = simp (length-append, length-drop) (omega arith);
      inside = λ i p q.
          let here : at + (i - at) ≡ i = omega arith in
          subst (λ (j : ℕ). get_or (take at old ++ (row ++ drop (at + m) old)) j 0 ≡ F j) here
          (get_d_past (take at old) (row ++ drop (at + m) old) at (i - at) front ∙ get_or-append row (drop (at + m) old) 0 (i - at) (omega arith) ∙ f (i - at) (omega arith));
      below = λ i p. get_or-append (take at old) (row ++ drop (at + m) old) 0 i (omega arith) ∙ get_or-take at old i 0 p;
      above = λ i p.
          let here : at + (m + (i - (at + m))) ≡ i = omega arith in
          let there : at + m + (i - (at + m)) ≡ i = omega arith in
          subst (λ (j : ℕ). get_or (take at old ++ (row ++ drop (at + m) old)) j 0 ≡ get_or old i 0) here
          (get_d_past (take at old) (row ++ drop (at + m) old) at (m + (i - (at + m))) front
          ∙ get_d_past row (drop (at + m) old) m (i - (at + m)) e
          ∙ get_or-drop (at + m) old (i - (at + m)) 0
          ∙ ap (λ (j : ℕ). get_or old j 0) there);
    }

-- written from the front up to n: what was made, and the rest as it was
pub from_front : (F : ℕ → ℕ) (n : ℕ) (old new : List ℕ) → n ≤ length old → Over F 0 n old new → new ≡ table n F ++ drop n old
from_front F n old new l o =
    ext_get_or 0 new (table n F ++ drop n old)
    (o.long ∙ sym (simp (length-append, length-drop, table_length) (omega arith)))
    (λ i h. ⊎_elim
    (λ (w : i < n). o.inside i (omega arith) w ∙ sym (get_or-append (table n F) (drop n old) 0 i (rw (table_length n F) w) ∙ table_at n F i 0 w))
    (λ (w : n ≤ i).
    let here : n + (i - n) ≡ i = omega arith in
    o.above i w ∙ sym (subst (λ (j : ℕ). get_or (table n F ++ drop n old) j 0 ≡ get_or old j 0) here (get_d_past (table n F) (drop n old) n (i - n) (table_length n F) ∙ get_or-drop n old (i - n) 0)))
    (lt_or_le i n))
