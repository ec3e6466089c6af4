-- Laws of the definitions in specs/Origin. Assumes nothing.
use Rattle.std.specs.Prelude.{ℕ, zero, suc, ◌+◌, ◌-◌, ◌≤◌, ◌<◌, ◌≡◌, refl, true, ◌↔◌, List, [], ◌∷◌, ◌++◌, get_or, length, replicate, take}
use Rattle.std.proofs.Math.Decide.{dec_lt}
use Rattle.std.proofs.Common.{arith, sym, ap, ap₂, ◌∙◌, true≢false, length-append, ext_get_or, eqb-true, eq-eqb}
use Rattle.std.proofs.lemmas.List.{length-replicate}
use Rattle.std.proofs.Math.ListN.{get_or-eq_default}
use Rattle.std.proofs.Math.Seq.{take-append_seam}
use Rattle.logic.proofs.Bools.{both, pair}
use Rattle.rows.proofs.Laws.{zeros}
use Rattle.origin.specs.Origin.{HoldsCard, Origin, opened_under, origin_of, same_bytes, stamped}

-- ---- laws

same_true : (xs ys : List ℕ) → same_bytes xs ys ≡ true → xs ≡ ys
same_true [] [] e = refl
same_true [] (y ∷ ys) e = absurd (true≢false (sym e))
same_true (x ∷ xs) [] e = absurd (true≢false (sym e))
same_true (x ∷ xs) (y ∷ ys) e = let q = both _ _ e in ap₂ (λ (z : ℕ) (l : List ℕ). z ∷ l) (eqb-true x y q.0) (same_true xs ys q.1)

same_itself : (xs : List ℕ) → same_bytes xs xs ≡ true
same_itself [] = refl
same_itself (x ∷ xs) = pair (eq-eqb x x refl) (same_itself xs)

pub same_law : (xs ys : List ℕ) → (same_bytes xs ys ≡ true) ↔ (xs ≡ ys)
same_law xs ys = (same_true xs ys, λ e. rw e (same_itself ys))

-- the test decides whether the cells are what opening the card writes
pub under_law : (s : List ℕ) (o : Origin) → (opened_under s o ≡ true) ↔ (o ≡ origin_of s)
unfolding opened_under
under_law s o = (
  λ e.
      let q = both _ _ e in
      ap₂ stamped ((same_law o.bytes (origin_of s).bytes).0 q.1) (eqb-true o.extent (origin_of s).extent q.0),
  λ e. pair (eq-eqb o.extent (origin_of s).extent (ap (λ (x : Origin). x.extent) e)) ((same_law o.bytes (origin_of s).bytes).1 (ap (λ (x : Origin). x.bytes) e)),
)

-- no two cards write the same
pub one_origin : (r s : List ℕ) → origin_of r ≡ origin_of s → r ≡ s
one_origin r s e =
    sym (take-append_seam r (replicate (517 - length r) 0))
    ∙ ap (λ (o : Origin). take o.extent o.bytes) e
    ∙ take-append_seam s (replicate (517 - length s) 0)

pub origin_long : (s : List ℕ) → length s ≤ 517 → length (origin_of s).bytes ≡ 517
origin_long s h = length-append s (replicate (517 - length s) 0) ∙ ap (λ (n : ℕ). length s + n) (length-replicate {A = ℕ} (517 - length s) 0) ∙ omega arith

-- cell by cell it is the card's, and 0 past its end
pub origin_byte : (s : List ℕ) (i : ℕ) → get_or (origin_of s).bytes i 0 ≡ get_or s i 0
origin_byte s = padded s (517 - length s)
  where
    padded : (l : List ℕ) (n i : ℕ) → get_or (l ++ replicate n 0) i 0 ≡ get_or l i 0
    padded [] n i = zeros n i
    padded (x ∷ xs) n zero = refl
    padded (x ∷ xs) n (suc i) = padded xs n i

-- the words and the definition say one thing
pub holds_law : (s : List ℕ) → length s ≤ 517 → (o : Origin) → HoldsCard s o ↔ (o ≡ origin_of s)
holds_law s l o = (λ h. ap₂ stamped (same h) h.extent, λ e. rw e holds)
  where
    past : (l : List ℕ) (i : ℕ) → length l ≤ i → get_or l i 0 ≡ 0
    past l i h = get_or-eq_default l 0 h

    same : HoldsCard s o → o.bytes ≡ (origin_of s).bytes
    same h = ext_get_or 0 o.bytes (origin_of s).bytes (h.long ∙ sym (origin_long s l)) (λ i k. at i k (dec_lt i (length s)))
      where
        at : (i : ℕ) → i < length o.bytes → Dec (i < length s) → get_or o.bytes i 0 ≡ get_or (origin_of s).bytes i 0
        at i k (yes q) = h.bytes i q ∙ sym (origin_byte s i)
        at i k (no q) = h.rest i (omega arith) k ∙ sym (origin_byte s i ∙ past s i (omega arith))

    holds : HoldsCard s (origin_of s)
    holds = record {
      long = origin_long s l;
      bytes = λ i h. origin_byte s i;
      rest = λ i h k. origin_byte s i ∙ past s i h;
      extent = refl;
    }
