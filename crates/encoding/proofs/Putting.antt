-- Bytes are stored one after another: what is stored so far and what is left make the whole. Assumes nothing.
use Prim.Native.Nat.{ℕ, suc, ◌+◌, ◌-◌, ◌/◌, ◌%◌, ◌≤◌, ◌<◌}
use native.Mathlib.Omega.{arith}
use native.Mathlib.Nat.{add-zero, zero-add}
use mathlib.Core.Path.{◌≡◌, refl, ap, sym, ◌∙◌}
use mathlib.Core.List.{List, [], ◌∷◌, ◌++◌}
use lib.ListN.{length, set, drop, length-set, length-append}
use lib.Seq.{sets, length-sets, sets-eq}
use Rattle.encoding.specs.Layout.{takes}
use Rattle.encoding.specs.Text.{bytes_of, field_text}
use Rattle.encoding.proofs.Texts.{length_bytes, length_field}

-- i bytes are stored, and those that are left, stored too, make what is wanted
pub record Putting (out₀ : List ℕ) (at width value : ℕ) (out : List ℕ) (rest i : ℕ) : Type 0 where
  pub within : i ≤ width
  pub long : length out ≡ length out₀
  pub left : sets out (at + i) (bytes_of (width - i) rest) ≡ sets out₀ at (bytes_of width value)

pub turn : (out₀ : List ℕ) (at width value : ℕ) (out : List ℕ) (rest i : ℕ) → Putting out₀ at width value out rest i → i < width
    → Putting out₀ at width value (set out (at + i) (rest % 256)) (rest / 256) (i + 1)
turn out₀ at width value out rest i p h =
    let one : width - i ≡ suc (width - (i + 1)) = omega arith in
    let next : at + (i + 1) ≡ suc (at + i) = omega arith in
    record {
      within = omega arith;
      long = length-set out (at + i) (rest % 256) ∙ p.long;
      left = rw next (sym (ap (λ (k : ℕ). sets out (at + i) (bytes_of k rest)) one) ∙ p.left);
    }

-- ---- one text after another

sets_both : (l : List ℕ) (i : ℕ) (a b : List ℕ) → sets (sets l i a) (i + length a) b ≡ sets l i (a ++ b)
sets_both l i [] b = ap (λ (k : ℕ). sets l k b) (add-zero i)
sets_both l i (x ∷ a) b =
    let next : i + suc (length a) ≡ suc i + length a = omega arith in
    ap (λ (k : ℕ). sets (sets (set l i x) (suc i) a) k b) next ∙ sets_both (set l i x) (suc i) a b

-- the text t is stored from a place on, and the next one goes behind it
pub record Put (out₀ : List ℕ) (at : ℕ) (t out : List ℕ) (next : ℕ) : Type 0 where
  pub place : next ≡ at + length t
  pub stored : out ≡ sets out₀ at t
  pub long : length out ≡ length out₀

pub nothing_put : (out : List ℕ) (at : ℕ) → Put out at [] out at
nothing_put out at = record { place = sym (add-zero at); stored = refl; long = refl }

-- a byte of this value is put first
pub byte_put : (out : List ℕ) (at byte x : ℕ) (out' : List ℕ) (next : ℕ) → byte ≡ x → (next ≡ at + 1) × (out' ≡ sets out at (byte ∷ []))
    → Put out at (x ∷ []) out' next
byte_put out at byte x out' next e p =
    let stored : out' ≡ sets out at (x ∷ []) = p.1 ∙ ap (λ (b : ℕ). sets out at (b ∷ [])) e in
    record { place = p.0; stored = stored; long = ap length stored ∙ length-set out at x }

module _ {out₀ : List ℕ} {at : ℕ} {t out : List ℕ} {next : ℕ} (p : Put out₀ at t out next) where
  pub then_put : (u out' : List ℕ) (next' : ℕ) → next' ≡ next + length u → out' ≡ sets out next u → Put out₀ at (t ++ u) out' next'
  then_put u out' next' e f =
      let stored : out' ≡ sets out₀ at (t ++ u) = f ∙ rw (p.stored, p.place) (sets_both out₀ at t u) in
      record {
        place = omega (arith, e, p.place, length-append t u);
        stored = stored;
        long = ap length stored ∙ length-sets out₀ at (t ++ u);
      }

  pub then_field : (w n : ℕ) (out' : List ℕ) (next' : ℕ) → (next' ≡ next + takes n w) × (out' ≡ sets out next (field_text w n))
      → Put out₀ at (t ++ field_text w n) out' next'
  then_field w n out' next' e = then_put (field_text w n) out' next' (e.0 ∙ ap (λ (k : ℕ). next + k) (sym (length_field w n))) e.1

  pub then_bytes : (w n : ℕ) (out' : List ℕ) (next' : ℕ) → (next' ≡ next + w) × (out' ≡ sets out next (bytes_of w n))
      → Put out₀ at (t ++ bytes_of w n) out' next'
  then_bytes w n out' next' e = then_put (bytes_of w n) out' next' (e.0 ∙ ap (λ (k : ℕ). next + k) (sym (length_bytes w n))) e.1

  -- where it starts at the buffer's start, the rest is as it was
  pub all_put : at ≡ 0 → length t ≤ length out₀ → out ≡ t ++ drop (length t) out₀
  all_put e h =
      p.stored ∙ ap (λ (k : ℕ). sets out₀ k t) e ∙ sets-eq t out₀ 0 (omega arith) ∙ ap (λ (k : ℕ). t ++ drop k out₀) (zero-add (length t))
