-- The origin, compared with what an opening writes. Assumes nothing.
use Rattle.std.specs.Prelude.{◌≡◌, refl, ℕ, zero, suc, ◌-◌, ◌≤◌, Bool, true, false, ◌&&◌, List, [], ◌∷◌, ◌++◌, eqb, fold, length, replicate, take, drop}
use Rattle.std.proofs.Common.{sym, ap, ap₂, ◌∙◌, eqb-true, length-drop}
use Rattle.std.proofs.lemmas.List.{take-append-drop}
use Rattle.std.proofs.Math.Seq.{take-append_seam, drop-append_seam}
use Rattle.logic.proofs.Bools.{both}
use Rattle.decide.specs.Decide.{Decides}
use Rattle.decide.proofs.Laws.{is_false, agree, same}
use Rattle.origin.specs.Origin.{Origin, stamped, origin_of, opened_under}
use Rattle.origin.proofs.Origin.{under_law}

-- ---- all zeros, tested one after another

abbrev pub still_zero : Bool → ℕ → Bool
still_zero so_far byte = so_far && eqb byte 0

zeros_only : (b : Bool) (xs : List ℕ) → fold still_zero b xs ≡ true → (b ≡ true) × (xs ≡ replicate (length xs) 0)
zeros_only b [] e = (e, refl)
zeros_only b (x ∷ xs) e =
    let q = zeros_only (still_zero b x) xs e in
    let p = both _ _ q.0 in
    (p.0, ap₂ (λ (y : ℕ) (ys : List ℕ). y ∷ ys) (eqb-true x 0 p.1) q.1)

zeros_pass : (n : ℕ) → fold still_zero true (replicate n 0) ≡ true
zeros_pass zero = refl
zeros_pass (suc n) = zeros_pass n

pub all_zero : (xs : List ℕ) → Decides (fold still_zero true xs) (xs ≡ replicate (length xs) 0)
all_zero xs = record {
  sound = λ e. (zeros_only true xs e).1;
  whole = λ e. ap (fold still_zero true) e ∙ zeros_pass (length xs);
}

-- ---- the comparison

module _ (s bytes : List ℕ) (extent : ℕ) (short : length s ≤ 517) (long : length bytes ≡ 517) where
  rest_long : length (drop (length s) bytes) ≡ 517 - length s
  rest_long = length-drop (length s) bytes ∙ ap (λ (n : ℕ). n - length s) long

  opened : Decides (opened_under s (stamped bytes extent)) (stamped bytes extent ≡ origin_of s)
  opened = record { sound = (under_law s (stamped bytes extent)).0; whole = (under_law s (stamped bytes extent)).1 }

  bytes_of_it : stamped bytes extent ≡ origin_of s → bytes ≡ s ++ replicate (517 - length s) 0
  bytes_of_it e = ap (λ (o : Origin). o.bytes) e

  -- another length, other bytes at the start
  pub other_length : (extent ≡ length s → ⊥) → false ≡ opened_under s (stamped bytes extent)
  other_length n = sym (is_false opened (λ e. n (ap (λ (o : Origin). o.extent) e)))

  pub other_start : (s ≡ take (length s) bytes → ⊥) → false ≡ opened_under s (stamped bytes extent)
  other_start n =
      sym (is_false opened (λ e. n (sym (ap (take (length s)) (bytes_of_it e) ∙ take-append_seam s (replicate (517 - length s) 0)))))

  -- the same, and what stands behind them decides
  pub by_rest : (zeros : Bool) (rest : List ℕ) → extent ≡ length s → s ≡ take (length s) bytes → rest ≡ drop (length s) bytes
      → Decides zeros (rest ≡ replicate (length rest) 0) → zeros ≡ opened_under s (stamped bytes extent)
  by_rest zeros rest e start r d = agree (same there back d) opened
    where
      padding : replicate (length rest) 0 ≡ replicate {A = ℕ} (517 - length s) 0
      padding = ap (λ (n : ℕ). replicate {A = ℕ} n 0) (ap length r ∙ rest_long)

      there : rest ≡ replicate (length rest) 0 → stamped bytes extent ≡ origin_of s
      there h = ap₂ stamped (sym (take-append-drop (length s) bytes) ∙ ap₂ (λ (xs ys : List ℕ). xs ++ ys) (sym start) (sym r ∙ h ∙ padding)) e

      back : stamped bytes extent ≡ origin_of s → rest ≡ replicate (length rest) 0
      back h = r ∙ ap (drop (length s)) (bytes_of_it h) ∙ drop-append_seam s (replicate (517 - length s) 0) ∙ sym padding
