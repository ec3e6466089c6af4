-- Laws of the definitions in specs/Kinds. Assumes nothing.
use Prim.Native.Nat.{ℕ, zero, suc, ◌<◌}
use Rattle.std.specs.Prelude.{◌≡◌, Bool, true, false, ◌||◌, eqb, ltb}
use Rattle.std.proofs.Math.Path.{refl}
use Rattle.std.proofs.Common.{true≢false, arith}
use borrow.Author.Tests.{ltb-true, lt-ltb, eqb-true}
use Rattle.logic.proofs.Bools.{both, pair}
use Rattle.mtl.specs.declared.Formula.{Formula}
use Rattle.mtl.specs.Syntax.{Operands, Proposes, Bounded}
use Rattle.policy.specs.declared.Kind.{Kind}
use Rattle.policy.specs.Encoded.{IsLine, is_true, is_proposition, is_not, is_or, is_since, is_until, is_and, is_implies, is_once, is_historically, is_eventually, is_always}
use Rattle.policy.specs.Format.{kind_of, meaning}
use Rattle.policy.specs.Kinds.{Keeps, zeros}

record Zeros (k : Kind) (a b lower upper : ℕ) : Type 0 where
  pub no_first : k.first ≡ false → a ≡ 0
  pub no_second : k.second ≡ false → b ≡ 0
  pub no_lower : k.lower ≡ false → lower ≡ 0
  pub no_upper : k.upper ≡ false → upper ≡ 0

are_zero : (k : Kind) (a b lower upper : ℕ) → zeros k a b lower upper ≡ true → Zeros k a b lower upper
are_zero k a b l u e =
    let f = both (k.first || eqb a 0) _ e in
    let g = both (k.second || eqb b 0) _ f.1 in
    let h = both (k.lower || eqb l 0) _ g.1 in
    record { no_first = zero_unless _ a f.0; no_second = zero_unless _ b g.0; no_lower = zero_unless _ l h.0; no_upper = zero_unless _ u h.1 }
  where
    zero_unless : (may : Bool) (n : ℕ) → (may || eqb n 0) ≡ true → may ≡ false → n ≡ 0
    zero_unless true n e f = absurd (true≢false f)
    zero_unless false n e f = eqb-true n 0 e

module _ {m i : ℕ} where
  pub is_a_line : (kind a b lower upper : ℕ) (x : Formula) → Keeps m i kind a b lower upper x → IsLine m i kind a b lower upper x
  unfolding meaning
  is_a_line zero a b l u x k =
      let z = are_zero (kind_of 0) a b l u k.zero_else in
      rw (k.means, z.no_first refl, z.no_second refl, z.no_lower refl, z.no_upper refl) is_true
  is_a_line (suc zero) a b l u x k =
      let z = are_zero (kind_of 1) a b l u k.zero_else in
      rw (k.means, z.no_second refl, z.no_lower refl, z.no_upper refl) (is_proposition a (ltb-true a m k.operands))
  is_a_line (suc (suc zero)) a b l u x k =
      let z = are_zero (kind_of 2) a b l u k.zero_else in
      rw (k.means, z.no_second refl, z.no_lower refl, z.no_upper refl) (is_not a (ltb-true a i k.operands))
  is_a_line (suc (suc (suc zero))) a b l u x k =
      let z = are_zero (kind_of 3) a b l u k.zero_else in
      let o = both (ltb a i) (ltb b i) k.operands in
      rw (k.means, z.no_lower refl, z.no_upper refl) (is_or a b (ltb-true a i o.0) (ltb-true b i o.1))
  is_a_line (suc (suc (suc (suc zero)))) a b l u x k =
      let o = both (ltb a i) (ltb b i) k.operands in
      rw k.means (is_since a b l u (ltb-true a i o.0) (ltb-true b i o.1) k.ordered k.bounded)
  is_a_line (suc (suc (suc (suc (suc zero))))) a b l u x k =
      let o = both (ltb a i) (ltb b i) k.operands in
      rw k.means (is_until a b l u (ltb-true a i o.0) (ltb-true b i o.1) k.ordered k.bounded)
  is_a_line (suc (suc (suc (suc (suc (suc zero)))))) a b l u x k =
      let z = are_zero (kind_of 6) a b l u k.zero_else in
      let o = both (ltb a i) (ltb b i) k.operands in
      rw (k.means, z.no_lower refl, z.no_upper refl) (is_and a b (ltb-true a i o.0) (ltb-true b i o.1))
  is_a_line (suc (suc (suc (suc (suc (suc (suc zero))))))) a b l u x k =
      let z = are_zero (kind_of 7) a b l u k.zero_else in
      let o = both (ltb a i) (ltb b i) k.operands in
      rw (k.means, z.no_lower refl, z.no_upper refl) (is_implies a b (ltb-true a i o.0) (ltb-true b i o.1))
  is_a_line (suc (suc (suc (suc (suc (suc (suc (suc zero)))))))) a b l u x k =
      let z = are_zero (kind_of 8) a b l u k.zero_else in
      rw (k.means, z.no_second refl) (is_once a l u (ltb-true a i k.operands) k.ordered k.bounded)
  is_a_line (suc (suc (suc (suc (suc (suc (suc (suc (suc zero))))))))) a b l u x k =
      let z = are_zero (kind_of 9) a b l u k.zero_else in
      rw (k.means, z.no_second refl) (is_historically a l u (ltb-true a i k.operands) k.ordered k.bounded)
  is_a_line (suc (suc (suc (suc (suc (suc (suc (suc (suc (suc zero)))))))))) a b l u x k =
      let z = are_zero (kind_of 10) a b l u k.zero_else in
      rw (k.means, z.no_second refl) (is_eventually a l u (ltb-true a i k.operands) k.ordered k.bounded)
  is_a_line (suc (suc (suc (suc (suc (suc (suc (suc (suc (suc (suc zero))))))))))) a b l u x k =
      let z = are_zero (kind_of 11) a b l u k.zero_else in
      rw (k.means, z.no_second refl) (is_always a l u (ltb-true a i k.operands) k.ordered k.bounded)
  is_a_line (suc (suc (suc (suc (suc (suc (suc (suc (suc (suc (suc (suc kind)))))))))))) a b l u x k = absurd (omega (arith, k.known))

  pub keeps : (kind a b lower upper : ℕ) (x : Formula) → IsLine m i kind a b lower upper x → Keeps m i kind a b lower upper x
  unfolding meaning
  keeps kind a b l u x is_true =
      record { known = omega arith; zero_else = refl; operands = refl; ordered = omega arith; bounded = omega arith; means = refl }
  keeps kind a b l u x (is_proposition _ h) =
      record { known = omega arith; zero_else = refl; operands = lt-ltb _ _ h; ordered = omega arith; bounded = omega arith; means = refl }
  keeps kind a b l u x (is_not _ h) =
      record { known = omega arith; zero_else = refl; operands = lt-ltb _ _ h; ordered = omega arith; bounded = omega arith; means = refl }
  keeps kind a b l u x (is_or _ _ h g) =
      record { known = omega arith; zero_else = refl; operands = pair (lt-ltb _ _ h) (lt-ltb _ _ g); ordered = omega arith; bounded = omega arith; means = refl }
  keeps kind a b l u x (is_since _ _ _ _ h g o v) =
      record { known = omega arith; zero_else = refl; operands = pair (lt-ltb _ _ h) (lt-ltb _ _ g); ordered = o; bounded = v; means = refl }
  keeps kind a b l u x (is_until _ _ _ _ h g o v) =
      record { known = omega arith; zero_else = refl; operands = pair (lt-ltb _ _ h) (lt-ltb _ _ g); ordered = o; bounded = v; means = refl }
  keeps kind a b l u x (is_and _ _ h g) =
      record { known = omega arith; zero_else = refl; operands = pair (lt-ltb _ _ h) (lt-ltb _ _ g); ordered = omega arith; bounded = omega arith; means = refl }
  keeps kind a b l u x (is_implies _ _ h g) =
      record { known = omega arith; zero_else = refl; operands = pair (lt-ltb _ _ h) (lt-ltb _ _ g); ordered = omega arith; bounded = omega arith; means = refl }
  keeps kind a b l u x (is_once _ _ _ h o v) =
      record { known = omega arith; zero_else = refl; operands = lt-ltb _ _ h; ordered = o; bounded = v; means = refl }
  keeps kind a b l u x (is_historically _ _ _ h o v) =
      record { known = omega arith; zero_else = refl; operands = lt-ltb _ _ h; ordered = o; bounded = v; means = refl }
  keeps kind a b l u x (is_eventually _ _ _ h o v) =
      record { known = omega arith; zero_else = refl; operands = lt-ltb _ _ h; ordered = o; bounded = v; means = refl }
  keeps kind a b l u x (is_always _ _ _ h o v) =
      record { known = omega arith; zero_else = refl; operands = lt-ltb _ _ h; ordered = o; bounded = v; means = refl }

-- ---- what a line of 01 may mean

module _ {propositions i : ℕ} where
  pub earlier_operands : (k a b l u : ℕ) (x : Formula) → IsLine propositions i k a b l u x → Operands (λ j. j < i) x
  earlier_operands k a b l u x is_true = tt
  earlier_operands k a b l u x (is_proposition _ h) = tt
  earlier_operands k a b l u x (is_not _ h) = h
  earlier_operands k a b l u x (is_or _ _ h g) = (h, g)
  earlier_operands k a b l u x (is_since _ _ _ _ h g o v) = (h, g)
  earlier_operands k a b l u x (is_until _ _ _ _ h g o v) = (h, g)
  earlier_operands k a b l u x (is_and _ _ h g) = (h, g)
  earlier_operands k a b l u x (is_implies _ _ h g) = (h, g)
  earlier_operands k a b l u x (is_once _ _ _ h o v) = (tt, h)
  earlier_operands k a b l u x (is_historically _ _ _ h o v) = (tt, h)
  earlier_operands k a b l u x (is_eventually _ _ _ h o v) = (tt, h)
  earlier_operands k a b l u x (is_always _ _ _ h o v) = (tt, h)

  pub its_proposition : (k a b l u : ℕ) (x : Formula) → IsLine propositions i k a b l u x → Proposes propositions x
  its_proposition k a b l u x is_true = tt
  its_proposition k a b l u x (is_proposition _ h) = h
  its_proposition k a b l u x (is_not _ h) = tt
  its_proposition k a b l u x (is_or _ _ h g) = tt
  its_proposition k a b l u x (is_since _ _ _ _ h g o v) = tt
  its_proposition k a b l u x (is_until _ _ _ _ h g o v) = tt
  its_proposition k a b l u x (is_and _ _ h g) = tt
  its_proposition k a b l u x (is_implies _ _ h g) = tt
  its_proposition k a b l u x (is_once _ _ _ h o v) = tt
  its_proposition k a b l u x (is_historically _ _ _ h o v) = tt
  its_proposition k a b l u x (is_eventually _ _ _ h o v) = tt
  its_proposition k a b l u x (is_always _ _ _ h o v) = tt

  pub its_interval : (k a b l u : ℕ) (x : Formula) → IsLine propositions i k a b l u x → Bounded 1023 x
  its_interval k a b l u x is_true = tt
  its_interval k a b l u x (is_proposition _ h) = tt
  its_interval k a b l u x (is_not _ h) = tt
  its_interval k a b l u x (is_or _ _ h g) = tt
  its_interval k a b l u x (is_since _ _ _ _ h g o v) = (o, v)
  its_interval k a b l u x (is_until _ _ _ _ h g o v) = (o, v)
  its_interval k a b l u x (is_and _ _ h g) = tt
  its_interval k a b l u x (is_implies _ _ h g) = tt
  its_interval k a b l u x (is_once _ _ _ h o v) = (o, v)
  its_interval k a b l u x (is_historically _ _ _ h o v) = (o, v)
  its_interval k a b l u x (is_eventually _ _ _ h o v) = (o, v)
  its_interval k a b l u x (is_always _ _ _ h o v) = (o, v)
