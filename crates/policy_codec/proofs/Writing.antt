-- How long a line is, and the lines one behind the other. Assumes nothing.
use Prim.Native.Nat.{ℕ, suc, ◌+◌, ◌≤◌, ◌<◌}
use native.Mathlib.Omega.{arith}
use native.Mathlib.Numerals.{add-one}
use mathlib.Core.Path.{◌≡◌, sym, ap, subst, ◌∙◌}
use mathlib.Core.List.{List, ◌++◌}
use lib.ListN.{length, length-append}
use lib.Seq.{sets}
use Rattle.encoding.proofs.Putting.{Put, nothing_put, then_put}
use Rattle.encoding.specs.Layout.{takes}
use Rattle.encoding.proofs.Texts.{length_text}
use Rattle.policy.specs.declared.LineNumbers.{LineNumbers}
use Rattle.policy.specs.Encoded.{widths}
use Rattle.policy.proofs.Ranges.{never_falls}
use Rattle.policy.specs.Text.{line_in, field_of, line_text, lines_text}

pub line_long : (l : LineNumbers)
    → length (line_text l) ≡ 1 + takes l.kind 1 + takes l.first 1 + takes l.second 1 + takes l.lower 2 + takes l.upper 2
unfolding line_text
line_long l = omega (arith, length_text widths (field_of l) 0 l.rule)

module _ (lines : List LineNumbers) where
  pub text_more : (i : ℕ) → lines_text lines (i + 1) ≡ lines_text lines i ++ line_text (line_in lines i)
  unfolding lines_text
  text_more i = ap (lines_text lines) (add-one i)

  pub long_more : (i : ℕ) → length (lines_text lines (i + 1)) ≡ length (lines_text lines i) + length (line_text (line_in lines i))
  long_more i = ap length (text_more i) ∙ length-append (lines_text lines i) (line_text (line_in lines i))

  -- one line more is no more than all
  pub inside : (n i : ℕ) → i < n → length (lines_text lines i) + length (line_text (line_in lines i)) ≤ length (lines_text lines n)
  inside n i h = omega (arith, long_more i, never_falls (λ k. length (lines_text lines k)) grows n (i + 1) (omega arith))
    where
      grows : (k : ℕ) → length (lines_text lines k) ≤ length (lines_text lines (suc k))
      grows k = omega (arith, long_more k, ap (λ (j : ℕ). length (lines_text lines j)) (add-one k))

-- ---- the lines, one behind the other

module _ (lines : List LineNumbers) where
  pub none_put : (out : List ℕ) → Put out 5 (lines_text lines 0) out 5
  unfolding lines_text
  none_put out = nothing_put out 5

  module _ (out₀ : List ℕ) (i : ℕ) (out : List ℕ) (at : ℕ) (p : Put out₀ 5 (lines_text lines i) out at) where
    pub line_room : (n : ℕ) → i < n → 5 + length (lines_text lines n) ≤ length out₀ → at + length (line_text (line_in lines i)) ≤ length out
    line_room n h room = omega (arith, p.place, p.long, inside lines n i h, room)

    pub line_put : (out' : List ℕ) (next : ℕ) → (next ≡ at + length (line_text (line_in lines i))) × (out' ≡ sets out at (line_text (line_in lines i)))
        → Put out₀ 5 (lines_text lines (i + 1)) out' next
    line_put out' next e =
        subst (λ (t : List ℕ). Put out₀ 5 t out' next) (sym (text_more lines i)) (then_put p (line_text (line_in lines i)) out' next e.0 e.1)
