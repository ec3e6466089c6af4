-- What the calls leave, and where a packet stops: a law for each sentence, over the definitions of State.
use Rattle.std.specs.Prelude.{ℕ, ◌+◌, ◌≡◌, List, ◌∷◌, length, Err, Ok}
use Rattle.std.proofs.Math.Path.{refl}
use Rattle.std.proofs.Common.{sym, ap, ◌∙◌}
use Rattle.refusal.specs.declared.Refusal.{Refusal}
use Rattle.refusal.specs.Checks.{Checked, reply}
use Rattle.refusal.specs.Checks.{first_failed}
use Rattle.refusal.proofs.Laws.{not_accepted}
use Rattle.policy.specs.Format.{policy_of}
use Rattle.message.specs.Format.{messages_of}
use Rattle.message.specs.Fixes.{meaning_of}
use Rattle.monitor.specs.State.{Received}
use Rattle.monitor.specs.State.{State, Outcome, unless, settled, take_checks, record_checks, receive, stopped, refused_at, take_each, receive_packet, Taken}

-- "A refusal .. writes nothing"
pub unwritten : {A : Type 0} (a : Checked) (x : State) (o : Outcome A) → reply o.answer ≡ Ok tt → (r : Refusal) → (unless a x o).answer ≡ Err r → (unless a x o).state ≡ x
unwritten (Ok _) x o e r f = absurd (not_accepted r (ap reply (sym f) ∙ e))
unwritten (Err q) x o e r f = refl

module _ (s : List ℕ) (x : State) where
  -- no take writes the origin
  pub kept_origin : (b : List ℕ) → (receive s x b).state.origin ≡ x.origin
  unfolding receive
  kept_origin b = go (first_failed (take_checks s x b))
    where
      go : (a : Checked) → (unless a x (settled (policy_of s) x (meaning_of b))).state.origin ≡ x.origin
      go (Ok _) = refl
      go (Err r) = refl

  module _ (m : List ℕ) (ms : List (List ℕ)) (n at : ℕ) where
    -- "A packet call takes slips until the packet ends or one is refused": behind a message that is refused nothing is taken, and it is not counted
    pub stops : (r : Refusal) → (receive s x m).answer ≡ Err r → take_each s x n at (m ∷ ms) ≡ stopped n (refused_at at r) (receive s x m).state
    stops r e = rw e

    -- "and leaves everything as the same takes one by one would": the next one is offered to what this one leaves
    pub goes_on : Taken (receive s x m).answer → take_each s x n at (m ∷ ms) ≡ take_each s (receive s x m).state (n + 1) (at + length m) ms
    goes_on t = go (receive s x m).answer refl t
      where
        go : (a : Received) → (receive s x m).answer ≡ a → Taken a → take_each s x n at (m ∷ ms) ≡ take_each s (receive s x m).state (n + 1) (at + length m) ms
        go (Ok k) e t = rw e
        go (Err r) e t = absurd t

  -- "A call added later that is lent a record checks 1 to 6 as a take does": where they pass, the packet's messages are taken
  pub takes_packet : (b : List ℕ) → first_failed (record_checks s x) ≡ Ok tt → receive_packet s x b ≡ take_each s x 0 0 (messages_of b)
  unfolding receive_packet
  takes_packet b e = rw e

  -- and else it is refused whole, an empty one too
  pub refuses_packet : (b : List ℕ) (r : Refusal) → first_failed (record_checks s x) ≡ Err r → receive_packet s x b ≡ stopped 0 (refused_at 0 r) x
  unfolding receive_packet
  refuses_packet b r e = rw e
