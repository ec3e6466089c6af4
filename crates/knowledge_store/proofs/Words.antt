-- The tests on a minute's two words of facts, as operations on whole words, are the tests on each bit.
-- Assumes nothing.
use Prim.Native.Nat.{ℕ, ◌^◌, ◌<◌}
use mathlib.Core.Path.{◌≡◌, refl, sym, ap, ◌∙◌}
use mathlib.Core.Bool.{Bool, true, false, not, ◌&&◌, ◌||◌, xor, beq, true≢false}
use lib.Bits.{bit_and, bit_or, bit_xor, and_lt, xor_lt}
use lib.Dec.{ltb, eqb}
use Rattle.decide.proofs.Laws.{is_false, agree, same, itself, less, equal, none, each, each_same}
use Rattle.bits.specs.Bits.{bit}
use Rattle.bits.proofs.Masks.{bit-bit_and, bit-bit_xor, no_bits, low_bits, or_inside}
use Rattle.knowledge.specs.Knowledge.{word_sound, words_agree}
use Rattle.knowledge.proofs.Laws.{word_decides}

module _ (p known values : ℕ) (h : known < 2 ^ 32) (k : values < 2 ^ 32) where
  pub word_fails : (bit_or known values ≡ known → ⊥) → word_sound p known values ≡ false
  word_fails n = is_false (word_decides p known values) (λ f. n ((or_inside 32 known values h k).1 (λ i l. (f i l).0)))

  pub word_limit : bit_or known values ≡ known → ltb known (2 ^ p) ≡ word_sound p known values
  word_limit e =
      agree
      (same
      (λ (l : known < 2 ^ p) i (b : i < 32). ((or_inside 32 known values h k).0 e i b, (low_bits 32 p known h).0 l i b))
      (λ f. (low_bits 32 p known h).1 (λ i b. (f i b).1))
      (less known (2 ^ p)))
      (word_decides p known values)

-- one bit of the masked difference
differs : (k n o v : Bool) → (not (n && k) || beq o v) ≡ not ((k && n) && xor o v)
unfolding xor
differs true true true true = refl
differs true true true false = refl
differs true true false true = refl
differs true true false false = refl
differs true false true true = refl
differs true false true false = refl
differs true false false true = refl
differs true false false false = refl
differs false true true true = refl
differs false true true false = refl
differs false true false true = refl
differs false true false false = refl
differs false false true true = refl
differs false false true false = refl
differs false false false true = refl
differs false false false false = refl

module _ (known old named values : ℕ) (a : known < 2 ^ 32) (b : old < 2 ^ 32) (c : named < 2 ^ 32) (d : values < 2 ^ 32) where
  abbrev mask : ℕ
  mask = bit_and (bit_and known named) (bit_xor old values)

  small : mask < 2 ^ 32
  small = and_lt 32 (bit_and known named) (bit_xor old values) (and_lt 32 known named a c) (xor_lt 32 old values b d)

  bit_mask : (i : ℕ) → bit mask i ≡ ((bit known i && bit named i) && xor (bit old i) (bit values i))
  bit_mask i = rw (bit-bit_and i (bit_and known named) (bit_xor old values), bit-bit_and i known named, bit-bit_xor i old values) refl

  pub words_mask : eqb mask 0 ≡ words_agree known old named values
  unfolding words_agree
  words_mask =
      agree
      (same
      (λ (e : mask ≡ 0) i (l : i < 32) f. true≢false (sym f ∙ (no_bits 32 mask small).0 e i l))
      (λ (f : (i : ℕ) → i < 32 → bit mask i ≡ true → ⊥). (no_bits 32 mask small).1 (λ i l. is_false (itself (bit mask i)) (f i l)))
      (equal mask 0))
      (each 32 (λ i. not (bit mask i)) (λ i. bit mask i ≡ true → ⊥) (λ i. none (itself (bit mask i))))
      ∙ each_same 32 (λ i. not (bit mask i)) _ (λ i l. ap not (bit_mask i) ∙ sym (differs (bit known i) (bit named i) (bit old i) (bit values i)))
