-- The answers of a look, one for each way through its checks. Assumes nothing.
use Rattle.std.specs.Prelude.{Err, Ok}
use mathlib.Core.Path.{◌≡◌, refl, sym, ap, ◌∙◌}
use mathlib.Core.List.{List}
use Prim.Native.Nat.{ℕ, ◌+◌, ◌*◌, ◌≤◌, ◌<◌}
use lib.ListN.{get_or, length}
use borrow.Author.Tests.{eq-eqb, ne_eqb, lt-ltb, le-ltb}
use Rattle.refusal.specs.declared.Refusal.{Refusal}
use Rattle.refusal.specs.declared.Refusal.TheVariants.{BufferSize, OutOfRange}
use Rattle.refusal.specs.Checks.{Checked}
use Rattle.refusal.specs.Checks.{give_unless, first_failed, and_then}
use Rattle.refusal.proofs.Laws.{in_order}
use Rattle.policy.specs.Format.{policy_checks, answer_of, policy_of}
use Rattle.policy.specs.declared.Policy.{Policy}
use Rattle.monitor.specs.declared.Verdict.{Verdict}
use Rattle.monitor.specs.Lookup.{verdict_of, sheet_checks, code_at, look_at, lookup_of}
use Rattle.policy.specs.ReadPolicy.{Read}

module _ (p : Policy) (v : List ℕ) (r t : ℕ) where
  pub wrong_size : (length v ≡ p.rules * p.sizes.minutes → ⊥) → Err BufferSize ≡ look_at p v r t
  unfolding look_at
  wrong_size h = simp (ne_eqb (length v) (p.rules * p.sizes.minutes) h)

  module _ (s : length v ≡ p.rules * p.sizes.minutes) where
    pub no_rule : p.rules ≤ r → Err OutOfRange ≡ look_at p v r t
    unfolding look_at
    no_rule h = simp (eq-eqb (length v) (p.rules * p.sizes.minutes) s, le-ltb r p.rules h)

    module _ (l : r < p.rules) where
      pub no_minute : p.sizes.minutes ≤ t → Err OutOfRange ≡ look_at p v r t
      unfolding look_at
      no_minute h = simp (eq-eqb (length v) (p.rules * p.sizes.minutes) s, lt-ltb r p.rules l, le-ltb t p.sizes.minutes h)

      pub there : t < p.sizes.minutes → Ok (verdict_of (get_or v (r * p.sizes.minutes + t) 0)) ≡ look_at p v r t
      unfolding look_at
      there h = simp (eq-eqb (length v) (p.rules * p.sizes.minutes) s, lt-ltb r p.rules l, lt-ltb t p.sizes.minutes h)

-- the look after its policy is read
module _ (s v : List ℕ) (r t : ℕ) where
  show_then : (a c : Checked) (x : Verdict) → give_unless (and_then a c) x ≡ elim a [ Ok u ↦ give_unless c x | Err q ↦ Err q ]
  show_then (Ok _) c x = refl
  show_then (Err q) c x = refl

  looks : (a : Checked) → answer_of s ≡ a → elim a [ Ok u ↦ look_at (policy_of s) v r t | Err q ↦ Err q ] ≡ lookup_of s v r t
  unfolding lookup_of look_at answer_of
  looks a e =
      sym (ap (λ (c : Checked). give_unless c (verdict_of (code_at (policy_of s) v r t))) (in_order (policy_checks s) (sheet_checks (policy_of s) v r t))
      ∙ show_then (first_failed (policy_checks s)) (first_failed (sheet_checks (policy_of s) v r t)) (verdict_of (code_at (policy_of s) v r t))
      ∙ ap (λ (c : Checked). elim c [ Ok u ↦ give_unless (first_failed (sheet_checks (policy_of s) v r t)) (verdict_of (code_at (policy_of s) v r t)) | Err q ↦ Err q ]) e)

  pub refused_look : (q : Refusal) → answer_of s ≡ Err q → Err q ≡ lookup_of s v r t
  refused_look q e = looks (Err q) e

  pub read_look : (p : Policy) → Read s p → look_at p v r t ≡ lookup_of s v r t
  read_look p z = ap (λ (q : Policy). look_at q v r t) z.same ∙ looks (Ok tt) z.card
