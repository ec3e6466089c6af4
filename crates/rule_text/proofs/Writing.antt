-- The numbers that were gathered are those of the term's policy, so that the writer writes the same.
use Prim.Native.Nat.{ℕ, zero, suc, ◌+◌, ◌-◌, ◌≤◌, ◌<◌}
use Rattle.std.proofs.Common.{arith, sym, ◌∙◌, true≢false, get_or-set_same, get_or-set_other, eqb-true, eq-eqb, ne_eqb}
use Rattle.std.proofs.Math.Decide.{dec_lt}
use Rattle.std.specs.Prelude.{◌≡◌, Bool, true, false, cond, ◌&&◌, eqb, leb, get_or, set, Err, Ok, Result}
use Rattle.std.proofs.Math.Path.{refl, ap, ap₂, subst}
use mathlib.Core.List.{List, [], ◌∷◌, ◌++◌}
use Rattle.std.proofs.Math.ListN.{length}
use Rattle.refusal.specs.declared.Refusal.{Refusal}
use Rattle.refusal.specs.declared.Refusal.TheVariants.{BadHeading, BadSubformula, RuleCount, ShortBuffer}
use Rattle.refusal.specs.Numbers.{refusal_number, refusal_place}
use Rattle.refusal.proofs.Numbers.{only_one}
use Rattle.refusal.specs.Checks.{Check, check, first_failed}
use Rattle.refusal.specs.Writes.{Output, written}
use Rattle.mtl.specs.declared.Formula.{Formula}
use Rattle.mtl.specs.declared.Formula.TheVariants as F
use Rattle.policy.specs.declared.LineNumbers.{LineNumbers}
use Rattle.policy.specs.declared.PolicyNumbers.{PolicyNumbers}
use Rattle.policy.specs.Text.{no_numbers, line_in, rules_among, formula_numbers, heading_good, line_good, lines_good, line_text, lines_text, heading_text, text_of, encode_checks, encode_of}
use Rattle.policy.specs.Format.{within}
use Rattle.policy.specs.Written.{SameNumbers}
use Rattle.policy.proofs.Refusals.{heading_law}
use Rattle.line_table.specs.Table.{line_at, lines_from}
use Rattle.line_table.proofs.Laws.{line_from, from_length}
use Rattle.rule_grammar.specs.Term.{Term}
use Rattle.rule_grammar.specs.Lines.{terms, inner, lines}
use Rattle.rule_grammar.proofs.Watched.{line_count}
use Rattle.rule_grammar.specs.Places as P
use Rattle.rule_grammar.proofs.PlaceLaws.{one_answer}
use Rattle.rule_grammar.proofs.Answers.{answer_of, answered}
use Rattle.rule_text.specs.declared.Cursor.{Cursor}
use Rattle.rule_text.specs.Gathered.{as_rule, gathered}
use Rattle.rule_text.specs.Steps.{RuleOut, RuleRead}
use Rattle.rule_text.specs.Compiled.{marked, rule_policy, typed, compile_of}

-- ---- the same numbers are written alike

abbrev four : Bool → Bool → ℕ → ℕ → ℕ → List Check
four h g r l room = check h (BadHeading 0) ∷ check g (BadSubformula 0) ∷ check (within 1 8 r) RuleCount ∷ check (leb l room) ShortBuffer ∷ []

module _ (p q : PolicyNumbers) (s : SameNumbers p q) where
  same_rules : (n : ℕ) → n ≤ p.count → rules_among p.lines n ≡ rules_among q.lines n
  same_rules zero h = refl
  same_rules (suc n) h = ap₂ (λ (k : ℕ) (l : LineNumbers). k + cond l.rule 1 0) (same_rules n (omega arith)) (s.lines n (omega arith))

  same_good : (n : ℕ) → n ≤ p.count → lines_good p.propositions p.lines n ≡ lines_good q.propositions q.lines n
  unfolding lines_good
  same_good zero h = refl
  same_good (suc n) h =
      ap₂ (λ (b : Bool) (l : LineNumbers). b && line_good p.propositions n l) (same_good n (omega arith)) (s.lines n (omega arith))
      ∙ ap (λ (m : ℕ). lines_good q.propositions q.lines n && line_good m n (line_in q.lines n)) s.propositions

  same_lines : (n : ℕ) → n ≤ p.count → lines_text p.lines n ≡ lines_text q.lines n
  unfolding lines_text
  same_lines zero h = refl
  same_lines (suc n) h = ap₂ (λ (u : List ℕ) (l : LineNumbers). u ++ line_text l) (same_lines n (omega arith)) (s.lines n (omega arith))

  pub same_text : text_of p ≡ text_of q
  unfolding text_of
  same_text =
      ap₂ (λ (m c : ℕ). heading_text m c p.minutes p.count ++ lines_text p.lines p.count) s.propositions s.components
      ∙ ap₂ (λ (t n : ℕ). heading_text q.propositions q.components t n ++ lines_text p.lines p.count) s.minutes s.count
      ∙ ap (λ (u : List ℕ). heading_text q.propositions q.components q.minutes q.count ++ u) (same_lines p.count (omega arith) ∙ ap (lines_text q.lines) s.count)

  same_heading : heading_good p.propositions p.components p.minutes p.count ≡ heading_good q.propositions q.components q.minutes q.count
  same_heading = rw (s.propositions, s.components, s.minutes, s.count) refl

  same_checks : (room : ℕ) → encode_checks p room ≡ encode_checks q room
  unfolding encode_checks
  same_checks room =
      ap₂ (λ (h g : Bool). four h g (rules_among p.lines p.count) (length (text_of p)) room) same_heading
      (same_good p.count (omega arith) ∙ ap (lines_good q.propositions q.lines) s.count)
      ∙ ap₂ (λ (r l : ℕ). four (heading_good q.propositions q.components q.minutes q.count) (lines_good q.propositions q.lines q.count) r l room)
      (same_rules p.count (omega arith) ∙ ap (rules_among q.lines) s.count) (ap length same_text)

  pub same_encoded : (out : List ℕ) → encode_of p out ≡ encode_of q out
  unfolding encode_of
  same_encoded out = ap₂ (λ (cs : List Check) (u : List ℕ). written (first_failed cs) u out) (same_checks (length out)) same_text

-- ---- the lines

one_less : (a b : ℕ) → eqb a b ≡ eqb (suc a) (suc b)
one_less a b = go (eqb a b) refl
  where
    go : (x : Bool) → eqb a b ≡ x → eqb a b ≡ eqb (suc a) (suc b)
    go true e = let q = eqb-true a b e in e ∙ sym (eq-eqb (suc a) (suc b) (ap suc q))
    go false e = e ∙ sym (ne_eqb (suc a) (suc b) (λ q. true≢false (sym (eq-eqb a b (omega arith)) ∙ e)))

pub marked_line : (fs : List Formula) (j : ℕ) → j < length fs → line_in (marked fs) j ≡ formula_numbers (get_or fs j F.True) (eqb (suc j) (length fs))
marked_line [] j h = absurd (omega arith)
marked_line (x ∷ []) zero h = refl
marked_line (x ∷ []) (suc j) h = absurd (omega arith)
marked_line (x ∷ y ∷ fs) zero h = ap (formula_numbers x) (sym (ne_eqb 1 (suc (suc (length fs))) (λ q. omega arith)))
marked_line (x ∷ y ∷ fs) (suc j) h = marked_line (y ∷ fs) j (omega arith) ∙ ap (formula_numbers (get_or (y ∷ fs) j F.True)) (one_less (suc j) (suc (length fs)))

as_rule_is : (x : Formula) → as_rule (formula_numbers x false) ≡ formula_numbers x true
as_rule_is F.True = refl
as_rule_is (F.Proposition a) = refl
as_rule_is (F.Not a) = refl
as_rule_is (F.Or a b) = refl
as_rule_is (F.Since a b l u) = refl
as_rule_is (F.Until a b l u) = refl
as_rule_is (F.And a b) = refl
as_rule_is (F.Implies a b) = refl
as_rule_is (F.Once a l u) = refl
as_rule_is (F.Historically a l u) = refl
as_rule_is (F.Eventually a l u) = refl
as_rule_is (F.Always a l u) = refl

module _ (m c t : ℕ) (x : Term) (f : List ℕ) (n : ℕ) (e : n ≡ terms x) (h : n ≤ 64) (g : (j : ℕ) → j < terms x → line_at f j ≡ formula_numbers (get_or (lines 0 x) j F.True) false) where
  pub gathered_same : SameNumbers (gathered m c t n f) (rule_policy m c t x)
  gathered_same = record { propositions = refl; components = refl; minutes = refl; count = e; lines = line }
    where
      last : n - 1 ≡ inner x
      last = omega arith

      line : (i : ℕ) → i < n → line_in (set (lines_from f 64) (n - 1) (as_rule (line_at f (n - 1)))) i ≡ line_in (marked (lines 0 x)) i
      line i l = go (dec_lt i (n - 1))
        where
          here : line_in (marked (lines 0 x)) i ≡ formula_numbers (get_or (lines 0 x) i F.True) (eqb (suc i) (terms x))
          here = marked_line (lines 0 x) i (omega (arith, line_count 0 x)) ∙ ap (λ (k : ℕ). formula_numbers (get_or (lines 0 x) i F.True) (eqb (suc i) k)) (line_count 0 x)

          go : Dec (i < n - 1) → line_in (set (lines_from f 64) (n - 1) (as_rule (line_at f (n - 1)))) i ≡ line_in (marked (lines 0 x)) i
          go (yes k) =
              get_or-set_other (lines_from f 64) (n - 1) i (as_rule (line_at f (n - 1))) no_numbers (λ q. omega arith) ∙ line_from f 64 i (omega arith) ∙ g i (omega arith)
              ∙ ap (formula_numbers (get_or (lines 0 x) i F.True)) (sym (ne_eqb (suc i) (terms x) (λ q. omega arith))) ∙ sym here
          go (no k) =
              let q : n - 1 ≡ i = omega arith in
              ap (λ (z : ℕ). line_in (set (lines_from f 64) z (as_rule (line_at f z))) i) q
              ∙ get_or-set_same (lines_from f 64) i (as_rule (line_at f i)) no_numbers (omega (arith, from_length f 64)) ∙ ap as_rule (g i (omega arith))
              ∙ as_rule_is (get_or (lines 0 x) i F.True) ∙ ap (formula_numbers (get_or (lines 0 x) i F.True)) (sym (eq-eqb (suc i) (terms x) (omega arith))) ∙ sym here

-- ---- what the call gives

pub rule_lines_set : (f : List ℕ) (lines : List LineNumbers) (n : ℕ) → lines ≡ lines_from f 64 → (0 < n) × (n ≤ 64)
    → set lines (n - 1) (as_rule (line_in lines (n - 1))) ≡ set (lines_from f 64) (n - 1) (as_rule (line_at f (n - 1)))
rule_lines_set f lines n e h =
    ap (λ (u : List LineNumbers). set u (n - 1) (as_rule (line_in u (n - 1)))) e ∙ ap (λ (l : LineNumbers). set (lines_from f 64) (n - 1) (as_rule l)) (line_from f 64 (n - 1) (omega arith))

pub encoded_with : (m c t n : ℕ) (f : List ℕ) (lines : List LineNumbers) (out : List ℕ) (o : Output) → lines ≡ set (lines_from f 64) (n - 1) (as_rule (line_at f (n - 1)))
    → o ≡ encode_of (record { propositions = m; components = c; minutes = t; count = n; lines = lines }) out → o ≡ encode_of (gathered m c t n f) out
encoded_with m c t n f lines out o e g = g ∙ ap (λ (l : List LineNumbers). encode_of (record { propositions = m; components = c; minutes = t; count = n; lines = l }) out) e

pub sizes_small : (m c t : ℕ) → heading_good m c t 1 ≡ true → m ≤ 32
sizes_small m c t e = ((heading_law (record { propositions = m; components = c; minutes = t; count = 1; lines = [] })).0 e).propositions_in.high

module _ (m : ℕ) (text : List ℕ) (g : List ℕ) (s : Result Cursor Refusal) (k : Cursor) (d : RuleRead m text g s) (q : s ≡ Ok k) where
  read_out : RuleOut m text g (Ok k)
  unfolding RuleRead
  read_out = subst (RuleOut m text g) q d.1

  pub read_count : (0 < k.lines) × (k.lines ≤ 64)
  read_count = (omega (arith, read_out.2), read_out.3)

module _ (m c t : ℕ) (text out : List ℕ) where
  pub compiled_bad : heading_good m c t 1 ≡ false → ◌≡◌ {A = Output} (record { answer = Err (BadHeading 0); out = out }) (compile_of m c t text out)
  unfolding compile_of
  compiled_bad e = rw e refl

  compiled_good : heading_good m c t 1 ≡ true → (a : P.Answer) → P.Answered m text a → typed m c t out a ≡ compile_of m c t text out
  unfolding compile_of
  compiled_good e a h = rw e (ap (typed m c t out) (one_answer m text a (answer_of m text) h (answered m text)))

  pub compiled_refused : (g : List ℕ) (s : Result Cursor Refusal) (r : Refusal) → heading_good m c t 1 ≡ true → RuleRead m text g s → s ≡ Err r
      → ◌≡◌ {A = Output} (record { answer = Err r; out = out }) (compile_of m c t text out)
  unfolding RuleRead
  compiled_refused g s r e d q =
      ap (λ (x : Refusal). record { answer = Err x; out = out }) (sym (only_one r))
      ∙ compiled_good e (P.Refused (refusal_number r) (refusal_place r)) (subst (RuleOut m text g) q d.1)

  module _ (g : List ℕ) (s : Result Cursor Refusal) (k : Cursor) (d : RuleRead m text g s) (q : s ≡ Ok k) where
    pub compiled_read : (o : Output) → heading_good m c t 1 ≡ true → o ≡ encode_of (gathered m c t k.lines g) out → o ≡ compile_of m c t text out
    compiled_read o e w =
        let x = read_out m text g s k d q in
        w ∙ same_encoded (gathered m c t k.lines g) (rule_policy m c t x.0) (gathered_same m c t x.0 g k.lines x.2 x.3 x.4) out
        ∙ compiled_good e (P.Taken x.0) x.1
