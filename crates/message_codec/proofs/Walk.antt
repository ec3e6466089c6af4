-- The walk of `expand`: at each named place, lowest first, the next packed bit is placed. Assumes nothing.
use mathlib.Core.Path.{◌≡◌, refl, sym, ap, ◌∙◌}
use Prim.Native.Nat.{ℕ, suc, ◌+◌, ◌-◌, ◌*◌, ◌/◌, ◌%◌, ◌^◌, ◌≤◌, ◌<◌}
use native.Mathlib.Nat.{pow-suc, div-one, div-div-eq-div-mul, lt_of_lt_of_le}
use lib.Count.{count_trailing_zeros}
use lib.Pow.{pow_mono, pow_pos}
use Rattle.bits.specs.Digits.{digit, below, expanded}
use Rattle.bits.proofs.Packed.{below_clear, below_set, expanded_clear, expanded_set, expanded_lt}
use Rattle.bits.specs.Places.{Ahead, Lowest}
use Rattle.bits.proofs.Places.{weight, all_ahead, none_ahead, lowest}

-- `left` has the values that are not placed yet, and `out` those that are
pub record Walked (map packed rest left out : ℕ) : Type 0 where
  pub place : ℕ
  pub ahead : Ahead map rest place
  pub values : left ≡ packed / 2 ^ below place map
  pub made : out ≡ expanded place map packed

pub begin : (map packed : ℕ) → Walked map packed map packed 0
unfolding below expanded
begin map packed = record { place = 0; ahead = all_ahead map; values = sym (div-one packed); made = refl }

-- one turn takes t, the lowest place left; its weight is as code shifts it
pub record Turn (map packed rest left out t weight : ℕ) : Type 0 where
  pub place_in : t < 32
  pub weight_some : 0 < weight
  pub weight_in : weight ≤ rest
  pub fits : out + left % 2 * weight < 2 ^ 32
  pub next : Walked map packed (rest - weight) (left / 2) (out + left % 2 * weight)

module _ {map packed rest left out : ℕ} (at : Walked map packed rest left out) where
  -- no place is left, so the values that are placed are all
  pub finish : rest ≡ 0 → out ≡ expanded 32 map packed
  finish e = at.made ∙ sym (none_ahead at.ahead e (λ k. expanded k map packed) (expanded_clear map packed))

  pub turn : 0 < rest → rest < 2 ^ 32 → Turn map packed rest left out (count_trailing_zeros 32 rest) (1 * 2 ^ count_trailing_zeros 32 rest % 2 ^ 32)
  unfolding digit
  turn p h = go (count_trailing_zeros 32 rest) (lowest at.ahead p h)
    where
      go : (t : ℕ) → Lowest map rest at.place t → Turn map packed rest left out t (1 * 2 ^ t % 2 ^ 32)
      go t l =
          let counted : below t map ≡ below at.place map = l.kept (λ k. below k map) (below_clear map) in
          let placed : expanded t map packed ≡ expanded at.place map packed = l.kept (λ k. expanded k map packed) (expanded_clear map packed) in
          let next_value : digit packed (below t map) ≡ left % 2 = rw (counted, ← at.values) in
          let more : out + left % 2 * 2 ^ t ≡ expanded (suc t) map packed = rw (expanded_set map packed t l.set, next_value, placed, ← at.made) in
          rw (weight t l.inside)
          (record {
            place_in = l.inside;
            weight_some = pow_pos t;
            weight_in = l.weight_in;
            fits = rw more (lt_of_lt_of_le (expanded_lt (suc t) map packed) (pow_mono l.inside));
            next = record {
              place = suc t;
              ahead = l.next;
              values = ap (λ (x : ℕ). x / 2) at.values ∙ div-div-eq-div-mul packed (2 ^ below at.place map) 2 ∙ rw (below_set map t l.set, counted, pow-suc);
              made = more;
            };
          })
