-- What each way through the call answers. Assumes nothing.
use Rattle.std.specs.Prelude.{Err, Ok}
use Prim.Native.Nat.{ℕ, ◌≤◌, ◌<◌}
use mathlib.Core.Path.{◌≡◌, refl, sym, ap, ◌∙◌}
use mathlib.Core.List.{List, ◌++◌}
use borrow.Author.Tests.{le-leb, lt-leb}
use lib.ListN.{length, drop}
use Rattle.rows.proofs.Grid.{table_length}
use Rattle.refusal.specs.declared.Refusal.{Refusal}
use Rattle.refusal.specs.declared.Refusal.TheVariants.{ShortBuffer}
use Rattle.refusal.specs.Writes.{Written}
use Rattle.refusal.specs.Checks.{Check}
use Rattle.refusal.specs.Writes.{Output}
use Rattle.policy.specs.declared.Policy.{Policy}
use Rattle.policy.specs.Format.{policy_of, decode_of}
use Rattle.policy.proofs.Laws.{refused, handed_out}
use Rattle.policy.proofs.ReadPolicy.{read_policy}
use Rattle.policy.specs.Proper.{Proper}
use Rattle.policy.proofs.CheckedFirst.{leaves_refused, leaves_written}
use Rattle.reach.specs.Reaches.{rule_reach, reaches_of, room_checks, reaches_under, rule_reaches}

module _ (p : Policy) (out : List ℕ) where
  abbrev Answers : Written → List ℕ → Type 0
  Answers a o = ◌≡◌ {A = Output} (record { answer = a; out = o }) (reaches_under p out)

  pub short_refused : length out < p.rules → Answers (Err ShortBuffer) out
  unfolding reaches_under
  short_refused h = rw (lt-leb p.rules (length out) h)

  pub many : length (reaches_of p) ≡ p.rules
  unfolding reaches_of
  many = table_length p.rules (rule_reach p)

  pub all_written : p.rules ≤ length out → (out' : List ℕ) → out' ≡ reaches_of p ++ drop p.rules out → Answers (Ok p.rules) out'
  unfolding reaches_under
  all_written h out' e = rw (le-leb p.rules (length out) h, many, e)

module _ (s out : List ℕ) where
  abbrev later : List Check
  later = room_checks (policy_of s) (length out)

  pub policy_refused : (r : Refusal) → Err r ≡ decode_of s → ◌≡◌ {A = Output} (record { answer = Err r; out = out }) (rule_reaches s out)
  unfolding rule_reaches
  policy_refused r e = sym (leaves_refused s later (reaches_of (policy_of s)) out r (refused s (Err r) r e refl))

  module _ (p : Policy) (e : Ok p ≡ decode_of s) where
    pub proper_read : Proper p
    proper_read = (read_policy s (Ok p) p e refl).proper

    pub policy_read : (o : Output) → o ≡ reaches_under p out → o ≡ rule_reaches s out
    unfolding rule_reaches reaches_under
    policy_read o f =
        let h = handed_out s (Ok p) p e refl in
        f ∙ ap (λ (q : Policy). reaches_under q out) h.1 ∙ sym (leaves_written s later (reaches_of (policy_of s)) out h.0)
