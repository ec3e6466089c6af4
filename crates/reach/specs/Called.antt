-- What a station maker may rely on who asks for the reaches of a card's rules (02, request 8): each refusal has its own cause, and what is written is each
-- rule's reach. `Refusals` proves it.
use Rattle.std.specs.Prelude.{ℕ, ◌≤◌, ◌<◌, ◌≡◌, ◌⊎◌, ◌↔◌, List, get_or, length, Err, Ok}
use Rattle.refusal.specs.declared.Refusal.{Refusal}
use Rattle.refusal.specs.Checks.{RefusedWith, reply}
use Rattle.refusal.specs.Writes.{Output}
use Rattle.policy.specs.Format.{policy_of, answer_of}
use Rattle.reach.specs.Reaches.{rule_reach}

-- the call's outcome o, given the bytes s of a card and the lent buffer
pub record ReachCauses (s out : List ℕ) (o : Output) : Type 0 where
  -- 1 to 4 as the card's reader answers them, with its places
  pub policy : (n at : ℕ) → n ≤ 4 → RefusedWith (reply o.answer) n at ↔ RefusedWith (answer_of s) n at
  -- 11 where the buffer has fewer places than the card has rules
  pub eleven : (at : ℕ) → RefusedWith (reply o.answer) 11 at ↔ ((at ≡ 0) × (answer_of s ≡ Ok tt) × (length out < (policy_of s).rules))
  pub no_other : (n at : ℕ) → RefusedWith (reply o.answer) n at → ((1 ≤ n) × (n ≤ 4)) ⊎ (n ≡ 11)
  -- it gives how many rules there are
  pub done : (n : ℕ) → (o.answer ≡ Ok n) ↔ ((answer_of s ≡ Ok tt) × ((policy_of s).rules ≤ length out) × (n ≡ (policy_of s).rules))
  -- and writes the reach of each, which 16 bits hold; "a call added later that writes into a longer buffer keeps the rest of it"
  pub reaches : (n : ℕ) → o.answer ≡ Ok n → (r : ℕ) → r < n → (get_or o.out r 0 ≡ rule_reach (policy_of s) r) × (get_or o.out r 0 ≤ 64449)
  pub rest : (n : ℕ) → o.answer ≡ Ok n → (i : ℕ) → n ≤ i → get_or o.out i 0 ≡ get_or out i 0
  pub long : length o.out ≡ length out
  pub unwritten : (r : Refusal) → o.answer ≡ Err r → o.out ≡ out
