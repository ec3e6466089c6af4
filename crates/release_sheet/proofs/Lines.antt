-- A text that is put in parts moves the place on by its length, and the lines of the program fit in their room. Assumes nothing.
use Rattle.std.proofs.Common.{◌≡◌, ℕ, ◌+◌, ◌≤◌, ◌<◌, ◌^◌, List, [], ◌∷◌, ◌++◌, length, Option, None, Some, ap, length-append, ⊎_elim, arith}
use Rattle.std.specs.Fmt.{WritesInCalls, decimal, with_newline}
use Rattle.std.specs.List.{FoldsTo, concat}
use Rattle.std.specs.Prelude.{IfSome}
use Rattle.std.proofs.lemmas.Fmt.{length-decimal-le}
use Rattle.release_sheet.specs.Lines.{LineFits, PutWhole}

-- where there is room for it, it goes behind what is there
behind : (at : ℕ) (bs : List ℕ) (end : ℕ) → PutWhole at bs end → at + length bs ≤ 65536 → end ≡ at + length bs
behind at bs end p fits = ⊎_elim (λ e. e) (λ e. omega (arith, e.0, e.1)) p

module _ {W : Type 0} (at : W → ℕ) where
  abbrev Put : W → List ℕ → W → Type 0
  Put w bs v = PutWhole (at w) bs (at v)

  moved_by_parts : (w : W) (parts : List (List ℕ)) (v : W) → FoldsTo Put w parts v → at w + length (concat parts) ≤ 65536
      → at v ≡ at w + length (concat parts)
  moved_by_parts w [] v e fits = omega (arith, ap at e)
  moved_by_parts w (bs ∷ parts) v p fits =
      let whole = length-append bs (concat parts) in
      let first = behind (at w) bs (at p.0) p.1 (omega (arith, whole)) in
      omega (arith, whole, first, moved_by_parts p.0 parts v p.2 (omega (arith, whole, first)))

  -- a line that fits, put in parts, moves the place on by its length and its newline's
  pub line_moves : (w : W) (o : Option (List ℕ)) (v : W) → LineFits o → at w + 64 ≤ 65536
      → IfSome (with_newline o) (λ bs. WritesInCalls Put w bs v) → IfSome (with_newline o) (λ bs. at v ≡ at w + length bs)
  line_moves w None v fits room p = elim fits [ ]
  line_moves w (Some bs) v fits room p =
      let whole = ap length p.whole in
      let end = length-append bs (10 ∷ []) in
      omega (arith, whole, moved_by_parts w p.parts v p.calls (omega (arith, whole, end)))

-- a number has at most 20 digits
pub number_fits : (n : ℕ) → n < 2 ^ 64 → length (decimal n) ≤ 20
number_fits n h = length-decimal-le 20 n (omega arith) (omega arith) h

-- and what stands behind it
pub number_then_fits : (n : ℕ) (bs : List ℕ) → n < 2 ^ 64 → length (decimal n ++ bs) ≤ 20 + length bs
number_then_fits n bs h = omega (arith, number_fits n h, length-append (decimal n) bs)

-- two numbers with a space between them fit before any word of at most 22 bytes, a byte less than its newline leaves
pub numbers_fit : (a b : ℕ) (word : List ℕ) → a < 2 ^ 64 → b < 2 ^ 64 → length word ≤ 22 → length (decimal a ++ (32 ∷ (decimal b ++ word))) + 1 ≤ 64
numbers_fit a b word p q short =
    omega (arith, number_then_fits a (32 ∷ (decimal b ++ word)) p, number_then_fits b word q)
