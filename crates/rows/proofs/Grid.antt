-- Laws of the definitions in specs/Grid. Assumes nothing.
use Rattle.std.specs.Prelude.{ℕ, zero, suc, ◌+◌, ◌*◌, ◌/◌, ◌%◌, ◌≤◌, ◌<◌, ◌≡◌, refl, get_or, length}
use Rattle.std.proofs.Math.Nat.{mul-add-div_right, mul-add-mod_self_right, div-eq_of_lt}
use Rattle.std.proofs.Common.{mod-eq_of_lt, div-add-mod', mod-lt, div-lt_iff_lt-mul, add-zero, mul-le-mul_right, suc-mul, arith, sym, ap, ◌∙◌}
use Rattle.rows.specs.Grid.{table}

pub table_length : {A : Type 0} (n : ℕ) (f : ℕ → A) → length (table n f) ≡ n
table_length zero f = refl
table_length (suc n) f = ap suc (table_length n (λ i. f (suc i)))

pub table_at : {A : Type 0} (n : ℕ) (f : ℕ → A) (i : ℕ) (d : A) → i < n → get_or (table n f) i d ≡ f i
table_at zero f i d h = absurd (omega arith)
table_at (suc n) f zero d h = refl
table_at (suc n) f (suc i) d h = table_at n (λ j. f (suc j)) i d (omega arith)

pub row_of : (n r p : ℕ) → p < n → (r * n + p) / n ≡ r
row_of n r p h = mul-add-div_right {m = n} (omega arith) r p ∙ ap (λ (x : ℕ). r + x) (div-eq_of_lt h) ∙ add-zero r

pub place_of : (n r p : ℕ) → p < n → (r * n + p) % n ≡ p
place_of n r p h = mul-add-mod_self_right r n p ∙ mod-eq_of_lt h

-- two places of the grid that are one
pub same_row : (n r p r' p' : ℕ) → p < n → p' < n → r * n + p ≡ r' * n + p' → r ≡ r'
same_row n r p r' p' h k e = sym (row_of n r p h) ∙ ap (λ (x : ℕ). x / n) e ∙ row_of n r' p' k

pub same_place : (n r p r' p' : ℕ) → p < n → p' < n → r * n + p ≡ r' * n + p' → p ≡ p'
same_place n r p r' p' h k e = sym (place_of n r p h) ∙ ap (λ (x : ℕ). x % n) e ∙ place_of n r' p' k

pub in_grid : (m n r p : ℕ) → r < m → p < n → r * n + p < m * n
in_grid m n r p h k = omega (arith, mul-le-mul_right n h, suc-mul r n)

-- a row of the grid ends in it
pub next_row : (m n r : ℕ) → r < m → r * n + n ≤ m * n
next_row m n r h = omega (arith, mul-le-mul_right n h, suc-mul r n)

-- every place of the grid is of some row
pub row_in : (m n i : ℕ) → i < m * n → 0 < n → i / n < m
row_in m n i h k = (div-lt_iff_lt-mul k).1 h

pub place_in : (n i : ℕ) → 0 < n → i % n < n
place_in n i k = mod-lt i k

pub grid_at : (n i : ℕ) → i / n * n + i % n ≡ i
grid_at n i = div-add-mod' i n
