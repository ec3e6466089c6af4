-- What a decoded policy needs is within what the largest needs, since the policy is proper. Assumes nothing.
use Rattle.std.proofs.Common.{◌≡◌, ℕ, ◌+◌, ◌*◌, ◌≤◌, List, Result, Ok, Err, refl, sym, subst, ◌∙◌, mul-le-mul, arith}
use Rattle.refusal.specs.declared.Refusal.{Refusal}
use Rattle.refusal.specs.Checks.{Checked, give_unless}
use Rattle.policy.specs.declared.Policy.{Policy}
use Rattle.policy.specs.Format.{answer_of, policy_of, decode_of}
use Rattle.policy.specs.Proper.{Proper}
use Rattle.policy.proofs.Laws.{accepted}

pub record Bounded (p : Policy) : Type 0 where
  pub components : p.sizes.components ≤ 16
  pub minutes : p.sizes.minutes ≤ 1024
  pub longer : p.sizes.minutes + 1 ≤ 1025
  pub count : p.count ≤ 64
  pub rules : p.rules ≤ 8
  pub numbers : p.sizes.components * (p.sizes.minutes + 1) ≤ 16400
  pub valuation : p.count * p.sizes.minutes ≤ 65536
  pub verdicts : p.rules * p.sizes.minutes ≤ 8192

proper : (p : Policy) → Proper p → Bounded p
proper p l =
    let longer : p.sizes.minutes + 1 ≤ 1025 = omega (arith, l.minutes.high) in
    record {
      components = l.components.high;
      minutes = l.minutes.high;
      longer = longer;
      count = l.count.high;
      rules = l.rules.high;
      numbers = mul-le-mul l.components.high longer;
      valuation = mul-le-mul l.count.high l.minutes.high;
      verdicts = mul-le-mul l.rules.high l.minutes.high;
    }

pub bounded : (s : List ℕ) {r : Result Policy Refusal} {p : Policy} → r ≡ decode_of s → r ≡ Ok p → Bounded p
unfolding decode_of
bounded s {r} {p} d k = go (answer_of s) refl (sym k ∙ d)
  where
    go : (a : Checked) → answer_of s ≡ a → Ok p ≡ give_unless a (policy_of s) → Bounded p
    go (Ok _) e f = subst (λ (p : Policy). Bounded p) (cc) (proper (policy_of s) (accepted s e))
    go (Err r) e f = cc
