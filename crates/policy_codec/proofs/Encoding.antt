-- What each way through the writer answers. The lines are handed over as a slice, the first of the 64. Assumes nothing.
use Rattle.std.specs.Prelude.{ℕ, ◌+◌, ◌≤◌, ◌<◌, ◌≡◌, refl, Bool, true, false, List, leb, length, take, Err, Ok}
use Rattle.std.proofs.Common.{arith, sym, ap, ◌∙◌, length-append}
use borrow.Author.Tests.{le-leb, lt-leb}
use Rattle.std.proofs.lemmas.List.Edits.{sets}
use Rattle.encoding.proofs.Putting.{nothing_put, then_put, all_put}
use Rattle.refusal.specs.declared.Refusal.TheVariants.{BadHeading, BadSubformula, RuleCount, ShortBuffer}
use Rattle.refusal.specs.Writes.{Written, Output}
use Rattle.policy.specs.declared.PolicyNumbers.{PolicyNumbers}
use Rattle.policy.specs.declared.LineNumbers.{LineNumbers}
use Rattle.policy.specs.Format.{within}
use Rattle.policy.proofs.Refusals.{heading_law}
use Rattle.policy.specs.Text.{rules_among, heading_good, lines_good, lines_text, heading_text, text_of, encode_checks, encode_of}
use Rattle.policy_codec.proofs.Chains.{good_handed, rules_handed, text_handed}

module _ (p : PolicyNumbers) (out : List ℕ) where
  text_long : length (text_of p) ≡ 5 + length (lines_text p.lines p.count)
  unfolding text_of
  text_long = length-append (heading_text p.propositions p.components p.minutes p.count) (lines_text p.lines p.count)

  abbrev Answers : Written → List ℕ → Type 0
  Answers a o = ◌≡◌ {A = Output} (record { answer = a; out = o }) (encode_of p out)

  abbrev lines : List LineNumbers
  lines = take p.count p.lines

  abbrev heading : Bool
  heading = heading_good p.propositions p.components p.minutes p.count

  pub heading_refused : heading ≡ false → Answers (Err (BadHeading 0)) out
  unfolding encode_of encode_checks
  heading_refused a = rw a

  module _ (full : length p.lines ≡ 64) (a : heading ≡ true) where
    -- there are at most 64 lines
    few : p.count ≤ length p.lines
    few = omega (arith, full, ((heading_law p).0 a).lines_in.high)

    good_same : {b : Bool} → lines_good p.propositions lines (length lines) ≡ b → lines_good p.propositions p.lines p.count ≡ b
    good_same e = sym (good_handed p.lines p.count few p.propositions) ∙ e

    pub line_refused : lines_good p.propositions lines (length lines) ≡ false → Answers (Err (BadSubformula 0)) out
    unfolding encode_of encode_checks
    line_refused b = rw (a, good_same b)

    module _ (b : lines_good p.propositions lines (length lines) ≡ true) (rules : ℕ) (counted : rules ≡ rules_among lines (length lines)) where
      counted_same : {d : Bool} → within 1 8 rules ≡ d → within 1 8 (rules_among p.lines p.count) ≡ d
      counted_same e = ap (within 1 8) (sym (counted ∙ rules_handed p.lines p.count few)) ∙ e

      pub rules_refused : within 1 8 rules ≡ false → Answers (Err RuleCount) out
      unfolding encode_of encode_checks
      rules_refused c = rw (a, good_same b, counted_same c)

      module _ (c : within 1 8 rules ≡ true) (size : ℕ) (sized : size ≡ length (lines_text lines (length lines))) where
        long : 5 + size ≡ length (text_of p)
        long = omega (arith, text_long, sized, ap length (text_handed p.lines p.count few))

        pub short_refused : length out < 5 + size → Answers (Err ShortBuffer) out
        unfolding encode_of encode_checks
        short_refused h = let d : leb (length (text_of p)) (length out) ≡ false = lt-leb (length (text_of p)) (length out) (omega (arith, long, h)) in rw (a, good_same b, counted_same c, d)

        pub all_written : 5 + size ≤ length out → (out' out'' : List ℕ) (r : ℕ)
            → (r ≡ 5) × (out' ≡ sets out 0 (heading_text p.propositions p.components p.minutes p.count))
            → out'' ≡ sets out' 5 (lines_text lines (length lines)) → Answers (Ok (5 + size)) out''
        unfolding encode_of encode_checks text_of
        all_written h out' out'' r e f =
            let head = then_put (nothing_put out 0) (heading_text p.propositions p.components p.minutes p.count) out' 5 refl e.1 in
            let same = f ∙ ap (sets out' 5) (text_handed p.lines p.count few) in
            let all = then_put head (lines_text p.lines p.count) out'' _ refl same in
            let d : leb (length (text_of p)) (length out) ≡ true = le-leb (length (text_of p)) (length out) (omega (arith, long, h)) in
            rw (a, good_same b, counted_same c, d, long, all_put all refl (omega (arith, long, h)))
