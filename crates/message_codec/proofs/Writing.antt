-- How long a message is, what is stored once its fields and then its values are, and what each way through the writer answers. Assumes nothing.
use Rattle.std.specs.Prelude.{Err, Ok, Result}
use Prim.Native.Nat.{ℕ, ◌+◌, ◌≤◌, ◌<◌}
use native.Mathlib.Omega.{arith}
use mathlib.Core.Path.{◌≡◌, refl, sym, ap, ap₂, ◌∙◌}
use mathlib.Core.Bool.{true, false}
use mathlib.Core.List.{List, ◌++◌}
use borrow.Author.Tests.{le-leb, lt-leb}
use lib.Dec.{leb}
use lib.ListN.{length, drop, length-append}
use lib.Seq.{sets}
use Rattle.bits.specs.Digits.{gathered}
use Rattle.encoding.specs.Layout.{takes}
use Rattle.encoding.specs.Text.{bytes_of}
use Rattle.encoding.proofs.Texts.{length_bytes, length_text}
use Rattle.encoding.proofs.Putting.{nothing_put, then_put, then_bytes, all_put}
use Rattle.refusal.specs.declared.Refusal.{Refusal}
use Rattle.refusal.specs.declared.Refusal.TheVariants.{BadMessage, ShortBuffer}
use Rattle.refusal.specs.Writes.{Written}
use Rattle.refusal.specs.Checks.{Check}
use Rattle.refusal.specs.Writes.{Output}
use Rattle.policy.specs.declared.Policy.{Policy}
use Rattle.policy.specs.declared.Sizes.{Sizes}
use Rattle.policy.specs.Format.{policy_of, decode_of}
use Rattle.policy.proofs.Laws.{refused, handed_out}
use Rattle.policy.proofs.CheckedFirst.{leaves_refused, leaves_written}
use Rattle.message.specs.declared.MessageNumbers.{MessageNumbers}
use Rattle.message.specs.Format.{widths, value_bytes}
use Rattle.message.specs.Text.{field_of, fields_part, values_part, text_of, numbers_good, writing_checks, encode_under, encode_checks, encode_of}

-- ---- the text

module _ (n : MessageNumbers) where
  pub fields_long : length (fields_part n) ≡ 1 + takes n.component 1 + takes n.minute 2 + takes n.number 2 + takes n.named 4
  fields_long = omega (arith, length_text widths (field_of n) 0 n.alive)

  pub text_long : length (text_of n) ≡ length (fields_part n) + value_bytes n.named
  unfolding text_of
  text_long =
      omega (arith, length-append (fields_part n) (values_part n), length_bytes (value_bytes n.named) (gathered 32 n.named n.values))

  -- the values behind the fields make the text, and the rest is as it was
  pub values_put : (out out' out'' : List ℕ) (at w p next : ℕ) → length (text_of n) ≤ length out
      → (at ≡ length (fields_part n)) × (out' ≡ sets out 0 (fields_part n)) → w ≡ value_bytes n.named → p ≡ gathered 32 n.named n.values
      → (next ≡ at + w) × (out'' ≡ sets out' at (bytes_of w p)) → out'' ≡ text_of n ++ drop (length (text_of n)) out
  unfolding text_of
  values_put out out' out'' at w p next room f e g h =
      let fields = then_put (nothing_put out 0) (fields_part n) out' at (omega (arith, f.0)) f.1 in
      let stored : out'' ≡ sets out' at (values_part n) = h.1 ∙ ap₂ (λ (x y : ℕ). sets out' at (bytes_of x y)) e g in
      let place : next ≡ at + value_bytes n.named = h.0 ∙ ap (λ (x : ℕ). at + x) e in
      all_put (then_bytes fields (value_bytes n.named) (gathered 32 n.named n.values) out'' next (place, stored)) refl room

-- ---- the answers, under a policy

module _ (z : Sizes) (n : MessageNumbers) (out : List ℕ) where
  abbrev Answers : Written → List ℕ → Type 0
  Answers a o = ◌≡◌ {A = Output} (record { answer = a; out = o }) (encode_under z n out)

  pub bad_refused : numbers_good z n ≡ false → Answers (Err BadMessage) out
  unfolding encode_under writing_checks
  bad_refused a = rw a

  module _ (a : numbers_good z n ≡ true) (size : ℕ) (e : size ≡ length (text_of n)) where
    pub short_refused : length out < size → Answers (Err ShortBuffer) out
    unfolding encode_under writing_checks
    short_refused h = let b : leb (length (text_of n)) (length out) ≡ false = lt-leb (length (text_of n)) (length out) (omega arith) in rw (a, b)

    pub all_written : size ≤ length out → (out' : List ℕ) → out' ≡ text_of n ++ drop (length (text_of n)) out → Answers (Ok size) out'
    unfolding encode_under writing_checks
    all_written h out' f = let b : leb (length (text_of n)) (length out) ≡ true = le-leb (length (text_of n)) (length out) (omega arith) in rw (a, b, e, f)

-- ---- the policy first

module _ (s : List ℕ) (n : MessageNumbers) (out : List ℕ) (d : Result Policy Refusal) (same : d ≡ decode_of s) where
  abbrev later : List Check
  later = writing_checks (policy_of s).sizes n (length out)

  pub policy_refused : (r : Refusal) → d ≡ Err r → ◌≡◌ {A = Output} (record { answer = Err r; out = out }) (encode_of s n out)
  unfolding encode_of encode_checks
  policy_refused r e = sym (leaves_refused s later (text_of n) out r (refused s d r same e))

  pub policy_read : (p : Policy) → d ≡ Ok p → (o : Output) → o ≡ encode_under p.sizes n out → o ≡ encode_of s n out
  unfolding encode_of encode_checks encode_under
  policy_read p e o f =
      let h = handed_out s d p same e in
      f
      ∙ ap (λ (q : Policy). encode_under q.sizes n out) h.1
      ∙ sym (leaves_written s later (text_of n) out h.0)
