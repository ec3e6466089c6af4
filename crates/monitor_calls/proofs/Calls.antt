-- What the calls answer and leave once the first checks are made, one law for each way. Assumes nothing.
use Rattle.std.specs.Prelude.{Err, Ok, Result}
use Rattle.message.specs.declared.Message.{Message}
use mathlib.Core.Path.{◌≡◌, refl, sym, ap, ap₂, ◌∙◌}
use mathlib.Core.Bool.{Bool, true, false}
use mathlib.Core.List.{List, [], ◌∷◌}
use Prim.Native.Nat.{ℕ}
use Rattle.refusal.specs.declared.Refusal.{Refusal}
use Rattle.refusal.specs.declared.Refusal.TheVariants.{Conflict}
use Rattle.refusal.specs.Checks.{Checked, check, first_failed, and_then, reply}
use Rattle.refusal.proofs.Laws.{in_order, same_given}
use Rattle.policy.specs.declared.Sizes.{Sizes}
use Rattle.policy.specs.declared.Policy.{Policy}
use Rattle.policy.specs.Format.{policy_of}
use Rattle.message.specs.Format.{message_checks, answer_of as message_answer, decode_of}
use Rattle.message.specs.Fixes.{WellFormed, meaning_of}
use Rattle.message.proofs.Laws.{decoded, decoded_answer}
use Rattle.knowledge.specs.Knowledge.{admits}
use Rattle.origin.specs.Origin.{Origin, origin_of}
use Rattle.monitor.specs.State.{State, Outcome, unless, opened, opened_as, settled, slip_checks, take_message, record_checks, opening_checks, open_state, receive}
use Rattle.monitor.specs.Checked.{checked_policy}
use Rattle.monitor_checks.proofs.Checking.{after_list, passed_checks, refused_checks}

-- what comes after the first checks comes only where they pass
pub unless_then : {A : Type 0} (a c : Checked) (x : State) (o : Outcome A) → unless (and_then a c) x o ≡ unless a x (unless c x o)
unless_then (Ok u) c x o = refl
unless_then (Err r) c x o = refl

-- ---- an opening

module _ (s : List ℕ) (x : State) where
  answered : (a : Checked) → first_failed (opening_checks s x) ≡ a → unless a x (opened_as (opened (policy_of s) (origin_of s))) ≡ open_state s x
  unfolding open_state
  answered a e = sym (ap (λ (a : Checked). unless a x (opened_as (opened (policy_of s) (origin_of s)))) e)

  pub open_refused : (r : Refusal) → Err r ≡ checked_policy (opening_checks s x) s → record { answer = Err r; state = x } ≡ open_state s x
  open_refused r e = answered (Err r) (refused_checks (opening_checks s x) s r e)

  pub open_done : (p : Policy) → Ok p ≡ checked_policy (opening_checks s x) s → (y : Origin → State) (o : Origin)
      → ((u : Origin) → y u ≡ opened p u) → o ≡ origin_of s → opened_as (y o) ≡ open_state s x
  open_done p e y o f g =
      let k = passed_checks (opening_checks s x) s p e in
      ap (λ (w : State). opened_as w) (f o ∙ ap₂ opened k.1 g) ∙ answered (Ok tt) k.0

-- ---- a take

module _ (s : List ℕ) (x : State) (b : List ℕ) where
  in_turn : (a : Checked) → first_failed (record_checks s x) ≡ a → unless a x (take_message (policy_of s) x b) ≡ receive s x b
  unfolding receive
  in_turn a e =
      sym (ap (λ (c : Checked). unless c x (settled (policy_of s) x (meaning_of b)))
      (in_order (record_checks s x) (slip_checks (policy_of s) x b))
      ∙ unless_then (first_failed (record_checks s x)) (first_failed (slip_checks (policy_of s) x b)) x _
      ∙ ap (λ (c : Checked). unless c x (take_message (policy_of s) x b)) e)

  pub receive_refused : (r : Refusal) → Err r ≡ checked_policy (record_checks s x) s → record { answer = Err r; state = x } ≡ receive s x b
  receive_refused r e = in_turn (Err r) (refused_checks (record_checks s x) s r e)

  pub receive_taken : (p : Policy) → Ok p ≡ checked_policy (record_checks s x) s → (o : Outcome ℕ) → o ≡ take_message p x b → o ≡ receive s x b
  receive_taken p e o f =
      let k = passed_checks (record_checks s x) s p e in
      f ∙ ap (λ (p : Policy). take_message p x b) k.1 ∙ in_turn (Ok tt) k.0

-- ---- its message

-- the message that was read
pub record Heard (z : Sizes) (b : List ℕ) (m : Message) : Type 0 where
  pub formed : WellFormed z b
  pub same : m ≡ meaning_of b

pub message_answered : (z : Sizes) (b : List ℕ) (d : Result Message Refusal) → d ≡ decode_of z b → message_answer z b ≡ reply d
message_answered z b d e = sym (decoded_answer z b) ∙ ap (λ (x : Result Message Refusal). reply x) (sym e)

pub hear : (z : Sizes) (b : List ℕ) (m : Message) → Ok m ≡ decode_of z b → Heard z b m
hear z b m e =
    let w : WellFormed z b = message_answered z b (Ok m) e in
    record { formed = w; same = same_given m (meaning_of b) (e ∙ decoded z b w) }

module _ (p : Policy) (x : State) (b : List ℕ) where
  -- the message's checks, and then 9
  answers : (a : Checked) → message_answer p.sizes b ≡ a → (v : Bool) → admits p.sizes x.known (meaning_of b) ≡ v
      → unless (and_then a (first_failed (check v Conflict ∷ []))) x (settled p x (meaning_of b)) ≡ take_message p x b
  unfolding message_answer
  answers a e v f = sym (ap (λ (c : Checked). unless c x (settled p x (meaning_of b))) (after_list (message_checks p.sizes b) (admits p.sizes x.known (meaning_of b)) Conflict a v e f))

  pub message_refused : (r : Refusal) → message_answer p.sizes b ≡ Err r → record { answer = Err r; state = x } ≡ take_message p x b
  message_refused r e = answers (Err r) e (admits p.sizes x.known (meaning_of b)) refl

  module _ (m : Message) (h : Heard p.sizes b m) where
    admitted : (v : Bool) → admits p.sizes x.known m ≡ v → admits p.sizes x.known (meaning_of b) ≡ v
    admitted v e = ap (admits p.sizes x.known) (sym h.same) ∙ e

    pub message_conflict : admits p.sizes x.known m ≡ false → record { answer = Err Conflict; state = x } ≡ take_message p x b
    message_conflict e = answers (Ok tt) h.formed false (admitted false e)

    pub message_taken : (o : Outcome ℕ) → admits p.sizes x.known m ≡ true → o ≡ settled p x m → o ≡ take_message p x b
    message_taken o e f = f ∙ ap (settled p x) h.same ∙ answers (Ok tt) h.formed true (admitted true e)
