-- Fields that are read and pass "a written field is not 0" stand as the format lays them out, and only those do.
use Rattle.std.specs.Prelude.{ℕ, zero, suc, ◌+◌, ◌<◌, ◌≤◌, ◌≡◌, refl, Bool, true, false, cond, ◌↔◌, ◌≢◌, List, get_or, length}
use Rattle.std.proofs.Common.{arith, sym, ap, ap₂, ◌∙◌, true≢false, ne_eqb}
use Rattle.encoding.specs.Fields.{has, size, written}
use Rattle.encoding.specs.Layout.{width, start, extent, value_at, field, takes, follows, Laid}

-- a field takes at most its bytes
pub size_most : (present : Bool) (n : ℕ) → size present n ≤ n
size_most true n = omega arith
size_most false n = omega arith

-- a field whose bit stands is not 0
pub not_zero : (b : Bool) (n : ℕ) → written b n ≡ true → b ≡ true → n ≢ 0
not_zero true zero e p q = true≢false (sym e)
not_zero true (suc n) e p q = omega arith
not_zero false n e p q = true≢false (sym p)

pub is_written : (b : Bool) (n : ℕ) → (b ≡ true → n ≢ 0) → written b n ≡ true
is_written true zero h = absurd (h refl refl)
is_written true (suc n) h = rw (ne_eqb (suc n) 0 (λ e. omega arith)) refl
is_written false n h = refl

-- an absent field is 0
pub present : (b : Bool) (n : ℕ) → cond b n 0 ≢ 0 → b ≡ true
present true n h = refl
present false n h = absurd (h refl)

-- the bytes of a field are those of its number
pub as_many : (b : Bool) (n w : ℕ) → (b ≡ true) ↔ (n ≢ 0) → size b w ≡ takes n w
as_many true zero w h = absurd (h.0 refl refl)
as_many true (suc n) w h = refl
as_many false zero w h = refl
as_many false (suc n) w h = absurd (true≢false (sym (h.1 (omega arith))))

module _ (ws s : List ℕ) (at : ℕ) where
  abbrev map : ℕ
  map = get_or s at 0

  same_start : (v : ℕ → ℕ) (n : ℕ) → ((k : ℕ) → k < n → (has map k ≡ true) ↔ (v k ≢ 0)) → start ws map at n ≡ follows ws v at n
  same_start v zero h = refl
  same_start v (suc n) h = ap₂ ◌+◌ (same_start v n (λ k l. h k (omega arith))) (as_many (has map n) (v n) (width ws n) (h n (omega arith)))

  -- a layout ends where its map says
  pub laid_start : (v : ℕ → ℕ) → Laid ws s at v → start ws map at (length ws) ≡ follows ws v at (length ws)
  laid_start v l = same_start v (length ws) l.bits

  -- and takes the bytes that its map says
  pub laid_extent : (v : ℕ → ℕ) → Laid ws s at v → at + extent ws map ≡ follows ws v at (length ws)
  laid_extent v l = shift (length ws) ∙ laid_start v l
    where
      shift : (n : ℕ) → at + start ws map 0 n ≡ start ws map at n
      shift zero = refl
      shift (suc n) = omega (arith, shift n)

  -- the numbers of a layout are the fields that are read
  pub laid_field : (v : ℕ → ℕ) → Laid ws s at v → (k : ℕ) → k < length ws → field ws s at k ≡ v k
  laid_field v l k h = go (has map k) refl (v k) refl
    where
      here : v k ≢ 0 → value_at s (start ws map at k) (width ws k) ≡ v k
      here n = ap (λ (p : ℕ). value_at s p (width ws k)) (same_start v k (λ j i. l.bits j (omega arith))) ∙ l.bytes k h n

      go : (b : Bool) → has map k ≡ b → (n : ℕ) → v k ≡ n → cond b (value_at s (start ws map at k) (width ws k)) 0 ≡ v k
      go true e n f = here ((l.bits k h).0 e)
      go false e zero f = sym f
      go false e (suc n) f = absurd (true≢false (sym ((l.bits k h).1 (λ q. let z : suc n ≡ 0 = sym f ∙ q in omega arith)) ∙ e))

  pub laid_written : (v : ℕ → ℕ) → Laid ws s at v → (k : ℕ) → k < length ws → written (has map k) (field ws s at k) ≡ true
  laid_written v l k h = is_written (has map k) (field ws s at k) (λ e. rw (laid_field v l k h) ((l.bits k h).0 e))

  -- and the fields that are read, none written as 0, are a layout
  pub fields_laid : ((k : ℕ) → k < length ws → written (has map k) (field ws s at k) ≡ true) → Laid ws s at (field ws s at)
  fields_laid w = record { bits = bits; bytes = bytes }
    where
      bits : (k : ℕ) → k < length ws → (has map k ≡ true) ↔ (field ws s at k ≢ 0)
      bits k h = (not_zero (has map k) (field ws s at k) (w k h), present (has map k) (value_at s (start ws map at k) (width ws k)))

      bytes : (k : ℕ) → k < length ws → field ws s at k ≢ 0 → value_at s (follows ws (field ws s at) at k) (width ws k) ≡ field ws s at k
      bytes k h n =
          ap (λ (p : ℕ). value_at s p (width ws k)) (sym (same_start (field ws s at) k (λ j i. bits j (omega arith))))
          ∙ sym (its (has map k) (value_at s (start ws map at k) (width ws k)) (present (has map k) (value_at s (start ws map at k) (width ws k)) n))
        where
          its : (b : Bool) (n : ℕ) → b ≡ true → cond b n 0 ≡ n
          its b n e = rw e
