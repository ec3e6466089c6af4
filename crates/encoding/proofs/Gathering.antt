-- The walk of `gather`: at each named place, lowest first, the value there is packed next. Assumes nothing.
use mathlib.Core.Path.{◌≡◌, refl, sym, ◌∙◌}
use Prim.Native.Nat.{ℕ, suc, ◌+◌, ◌-◌, ◌*◌, ◌/◌, ◌%◌, ◌^◌, ◌≤◌, ◌<◌}
use native.Mathlib.Omega.{arith}
use native.Mathlib.Nat.{lt_of_lt_of_le, le_trans}
use native.Mathlib.Numerals.{add-one}
use lib.Count.{count_trailing_zeros}
use lib.Pow.{pow_mono, pow_pos}
use Rattle.bits.specs.Digits.{digit, below, gathered}
use Rattle.bits.proofs.Packed.{below_le, below_clear, below_set}
use Rattle.bits.proofs.Gathered.{gathered_clear, gathered_set, gathered_lt}
use Rattle.bits.specs.Places.{Ahead, Lowest}
use Rattle.bits.proofs.Places.{weight, all_ahead, none_ahead, lowest}

-- j values are packed, and `out` has them
pub record Gathering (map values rest j out : ℕ) : Type 0 where
  pub place : ℕ
  pub ahead : Ahead map rest place
  pub counted : j ≡ below place map
  pub made : out ≡ gathered place map values

pub begin : (map values : ℕ) → Gathering map values map 0 0
unfolding below gathered
begin map values = record { place = 0; ahead = all_ahead map; counted = refl; made = refl }

-- one turn takes t, the lowest place left, and the next packed one; their weights are as code shifts them
pub record Turn (map values rest j out t weight next-weight : ℕ) : Type 0 where
  pub place_in : t < 32
  pub count_in : j < 32
  pub weight_some : 0 < weight
  pub weight_in : weight ≤ rest
  pub fits : out + values / weight % 2 * next-weight < 2 ^ 32
  pub next : Gathering map values (rest - weight) (j + 1) (out + values / weight % 2 * next-weight)

module _ {map values rest j out : ℕ} (at : Gathering map values rest j out) where
  -- no place is left, so the values that are packed are all
  pub finish : rest ≡ 0 → out ≡ gathered 32 map values
  finish e = at.made ∙ sym (none_ahead at.ahead e (λ k. gathered k map values) (gathered_clear map values))

  pub turn : 0 < rest → rest < 2 ^ 32 → Turn map values rest j out (count_trailing_zeros 32 rest) (1 * 2 ^ count_trailing_zeros 32 rest % 2 ^ 32) (1 * 2 ^ j % 2 ^ 32)
  unfolding digit
  turn p h = go (count_trailing_zeros 32 rest) (lowest at.ahead p h)
    where
      go : (t : ℕ) → Lowest map rest at.place t → Turn map values rest j out t (1 * 2 ^ t % 2 ^ 32) (1 * 2 ^ j % 2 ^ 32)
      go t l =
          let counted : j ≡ below t map = at.counted ∙ sym (l.kept (λ k. below k map) (below_clear map)) in
          let made : out ≡ gathered t map values = at.made ∙ sym (l.kept (λ k. gathered k map values) (gathered_clear map values)) in
          let count_in : j < 32 = omega (arith, below_le t map, l.inside) in
          let more : out + values / 2 ^ t % 2 * 2 ^ j ≡ gathered (suc t) map values = rw (gathered_set map values t l.set, made, counted) in
          rw (weight t l.inside, weight j count_in)
          (record {
            place_in = l.inside;
            count_in = count_in;
            weight_some = pow_pos t;
            weight_in = l.weight_in;
            fits = rw more (lt_of_lt_of_le (gathered_lt (suc t) map values) (pow_mono (le_trans (below_le (suc t) map) l.inside)));
            next = record { place = suc t; ahead = l.next; counted = rw (add-one, below_set map t l.set, counted); made = more };
          })
