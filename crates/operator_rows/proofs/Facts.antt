-- A proposition's fact from the digits of the minute's two words. Assumes nothing.
use Prim.Native.Nat.{ℕ, ◌+◌, ◌*◌, ◌/◌, ◌%◌, ◌^◌}
use mathlib.Core.Path.{◌≡◌, refl, ap₂}
use mathlib.Core.Bool.{Bool, true, false, cond}
use lib.ListN.{get_or}
use Rattle.kleene.specs.Truth.{unknown, true3, false3, code_of}
use Rattle.bits.specs.Bits.{bit}
use Rattle.bits.proofs.Bits.{bit_clear, bit_set}
use Rattle.knowledge.specs.Knowledge.{Knowledge, noted, valued, fact}

module _ (k : Knowledge) (i t known values : ℕ) (p : known ≡ get_or k.facts (2 * t) 0) (q : values ≡ get_or k.facts (2 * t + 1) 0) where
  by_bits : (a b : Bool) → bit known i ≡ a → bit values i ≡ b → code_of (fact k i t) ≡ code_of (cond a (cond b true3 false3) unknown)
  unfolding noted valued
  by_bits a b d f =
      let known_bit : bit (get_or k.facts (2 * t) 0) i ≡ a = rw (← p) d in
      let value_bit : bit (get_or k.facts (2 * t + 1) 0) i ≡ b = rw (← q) f in
      ap₂ (λ (x y : Bool). code_of (cond x (cond y true3 false3) unknown)) known_bit value_bit

  pub is_unknown : known / 2 ^ i % 2 ≡ 0 → 0 ≡ code_of (fact k i t)
  is_unknown d = rw (by_bits false (bit values i) (bit_clear known i d) refl) refl

  pub is_false : (known / 2 ^ i % 2 ≡ 0 → ⊥) → values / 2 ^ i % 2 ≡ 0 → 2 ≡ code_of (fact k i t)
  is_false d f = rw (by_bits true false (bit_set known i d) (bit_clear values i f)) refl

  pub is_true : (known / 2 ^ i % 2 ≡ 0 → ⊥) → (values / 2 ^ i % 2 ≡ 0 → ⊥) → 1 ≡ code_of (fact k i t)
  is_true d f = rw (by_bits true true (bit_set known i d) (bit_set values i f)) refl
