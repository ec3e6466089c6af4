-- Laws of the definitions in specs/Descent. Assumes nothing.
use Prim.Native.Nat.{ℕ, zero, suc, ◌+◌, ◌-◌, ◌≤◌, ◌<◌}
use native.Mathlib.Omega.{arith}
use Rattle.std.proofs.Math.Decide.{dec_lt}
use Rattle.std.proofs.Math.Numerals.{add-one}
use Rattle.std.proofs.Math.Nat.{zero-add}
use Rattle.std.specs.Prelude.{◌≡◌, false, eqb, get_or, Err, Ok, Result}
use Rattle.std.proofs.Math.Path.{refl, ap, subst}
use Rattle.std.proofs.Common.{sym, ◌∙◌, length-append, ne_eqb}
use Rattle.std.proofs.lemmas.Bool.{false≢true}
use mathlib.Core.List.{List, [], ◌∷◌, ◌++◌, append_assoc}
use Rattle.std.proofs.Math.ListN.{length, drop, get_or-append}
use lib.Seq.{drop-cons, get_or-append-add}
use Rattle.refusal.specs.declared.Refusal.{Refusal}
use Rattle.refusal.specs.declared.Refusal.TheVariants.{RuleSyntax, RuleLimit}
use Rattle.mtl.specs.declared.Formula.{Formula}
use Rattle.mtl.specs.declared.Formula.TheVariants as F
use Rattle.policy.specs.declared.LineNumbers.{LineNumbers}
use Rattle.policy.specs.Text.{numbered, formula_numbers}
use Rattle.line_table.specs.Table.{line_at, set_line}
use Rattle.line_table.proofs.Laws.{set_line_length, set_same, set_other}
use Rattle.rule_grammar.specs.Ascii.{ascii}
use Rattle.rule_grammar.specs.Numeral.{digits}
use Rattle.rule_grammar.specs.Term as T
use Rattle.rule_grammar.specs.Lines.{inner, terms, joined, lines}
use Rattle.rule_grammar.proofs.Watched.{line_count}
use Rattle.rule_grammar.proofs.Reading.{three}
use Rattle.rule_grammar.specs.Automaton.{Wanted, byte, term, joint, bytes}
use Rattle.rule_grammar.specs.Brackets.{closers, wants_term}
use Rattle.rule_grammar.specs.Progress.{State}
use Rattle.rule_grammar.proofs.Progress.{start, advance, refuse_syntax, refuse_many, refuse_nested, accepts}
use Rattle.rule_grammar.specs.Numbers.{PlainWord, of_mark, Opened}
use Rattle.rule_grammar.proofs.Numbers.{plain_byte, no_plain_byte, word_read, word_broken, opens, number_none, number_far, number_good}
use Rattle.rule_text.specs.declared.Joint.{Joint}
use Rattle.rule_text.specs.declared.Run.{Run}
use Rattle.rule_text.specs.declared.Cursor.{Cursor}
use Rattle.rule_text.specs.Gathered.{Writes, not_lines}
use Rattle.policy.specs.LineKinds.{kind_number}
use Rattle.rule_text.specs.Steps.{NumberAt, nothing, spelt_as, JointOut, JointRead, not_text, NotsOut, Few, NotsRead, TermGood, TermOut, Grown, LeafRead, TermRead, GroupRead, WordAt, Refuses, Negated, ClosedOut, ClosedBy, RuleRead}
use Rattle.rule_text.proofs.Laws.{inside_text}
use Rattle.rule_text.proofs.Terms.{matched_text, four, cut_at, word_there}
use Rattle.rule_text.specs.Descent.{Negations, Put}

pub not_snoc : (n : ℕ) (u : List ℕ) → not_text n ++ (110 ∷ 111 ∷ 116 ∷ 32 ∷ u) ≡ not_text (suc n) ++ u
not_snoc zero u = refl
not_snoc (suc n) u = ap (λ (w : List ℕ). 110 ∷ 111 ∷ 116 ∷ 32 ∷ w) (not_snoc n u)

module _ (text : List ℕ) (at started : ℕ) where
  pub nots_start : started ≤ 64 → Negations text at started at 0
  nots_start h = record { few = omega arith; state = λ m k s. subst (λ (n : ℕ). State m text (term ∷ k) at n) (omega arith) s; stands = refl }

  module _ (place count : ℕ) (g : Negations text at started place count) where
    pub nots_many : 64 ≤ started + count → NotsRead text at started (Err (RuleLimit place))
    unfolding NotsRead
    nots_many h = (tt, λ m k s. refuse_many (term ∷ k) place (started + count) (g.state m k s) refl h)

    module _ (l : started + count < 64) where
      pub nots_read : (get_or text place 0 ≡ 110 → ⊥) → NotsRead text at started (Ok (record { at = place; count = count }))
      unfolding NotsRead
      nots_read h = ((l, h), λ m k s. (g.state m k s, g.stands))

      module _ (n : get_or text place 0 ≡ 110) where
        pub behind_n : (m : ℕ) (k : List Wanted) → State m text (term ∷ k) at started → State m text (bytes (ascii "ot ") (term ∷ k)) (place + 1) (started + (count + 1))
        behind_n m k s =
            let e : suc place ≡ place + 1 = omega arith in
            let f : started + count + 1 ≡ started + (count + 1) = omega arith in
            subst (λ (i : ℕ). State m text (bytes (ascii "ot ") (term ∷ k)) i (started + (count + 1))) e
            (subst (λ (i : ℕ). State m text (bytes (ascii "ot ") (term ∷ k)) (suc place) i) f
            (advance (term ∷ k) place (started + count) (g.state m k s) (bytes (ascii "ot ") (term ∷ k)) 110 (inside_text text place 110 n (omega arith)) n refl
            (λ x. omega arith) (λ x. omega arith) (λ x. omega arith) (λ x. absurd (omega arith)) (λ x. l)))

        pub plain_rest : PlainWord (ascii "ot ")
        plain_rest = (refl, omega arith, (refl, omega arith, (refl, omega arith, tt)))

        module _ (found : Result ℕ Refusal) (d : WordAt text (place + 1) (ascii "ot ") found) where
          pub nots_cut : (q : Refusal) → found ≡ Err q → NotsRead text at started (Err q)
          unfolding NotsRead
          nots_cut q e =
              let w = cut_at text (place + 1) (ascii "ot ") found d q e in
              (tt, λ m k s. subst (Refuses m text) (sym w.3) (word_broken m text (ascii "ot ") (term ∷ k) (place + 1) (started + (count + 1)) w.0 plain_rest (behind_n m k s) w.2 w.1))

          pub nots_next : (e : ℕ) → found ≡ Ok e → Negations text at started e (count + 1)
          nots_next e f =
              let w = word_there text (place + 1) (ascii "ot ") found d e f in
              let x : suc place ≡ place + 1 = omega arith in
              record {
                few = omega arith;
                state = λ m k s. subst (λ (i : ℕ). State m text (term ∷ k) i (started + (count + 1))) (sym w.0)
                    (word_read m text (ascii "ot ") (term ∷ k) (place + 1) (started + (count + 1)) plain_rest (behind_n m k s) w.1);
                stands = g.stands ∙ ap (λ (u : List ℕ). not_text count ++ u)
                    (drop-cons text place 0 (inside_text text place 110 n (omega arith)) ∙ ap (λ (c : ℕ). c ∷ drop (suc place) text) n ∙ ap (λ (i : ℕ). 110 ∷ drop i text) x
                    ∙ ap (λ (u : List ℕ). 110 ∷ u) (matched_text text (place + 1) (ascii "ot ") 3 w.1 (omega arith) ∙ ap (λ (i : ℕ). 111 ∷ 116 ∷ 32 ∷ drop i text) (sym w.0)))
                    ∙ not_snoc count (drop e text) ∙ ap (λ (i : ℕ). not_text i ++ drop e text) (sym (add-one count));
              }

-- ---- lines gathered

pub writes_none : (f : List ℕ) (i : ℕ) → Writes f f i []
writes_none f i = record { same_length = refl; before = λ j h. refl; lines = λ j h. absurd (omega arith) }

pub writes_then : (f g h : List ℕ) (i k : ℕ) (fs gs : List Formula) → Writes f g i fs → k ≡ i + length fs → Writes g h k gs → Writes f h i (fs ++ gs)
writes_then f g h i k fs gs a e b =
    record {
      same_length = b.same_length ∙ a.same_length;
      before = λ j l. b.before j (omega arith) ∙ a.before j l;
      lines = λ j l. go j l (dec_lt j (length fs));
    }
  where
    go : (j : ℕ) → j < length (fs ++ gs) → Dec (j < length fs) → line_at h (i + j) ≡ formula_numbers (get_or (fs ++ gs) j F.True) false
    go j l (yes m) = b.before (i + j) (omega arith) ∙ a.lines j m ∙ ap (λ (x : Formula). formula_numbers x false) (sym (get_or-append fs gs F.True j m))
    go j l (no m) =
        let n = j - length fs in
        let q : i + j ≡ k + n = omega arith in
        let r : length fs + n ≡ j = omega arith in
        ap (line_at h) q ∙ b.lines n (omega (arith, length-append fs gs))
        ∙ ap (λ (x : Formula). formula_numbers x false) (sym (get_or-append-add fs gs n F.True) ∙ ap (λ (z : ℕ). get_or (fs ++ gs) z F.True) r)

pub writes_one : (f : List ℕ) (i : ℕ) (l : LineNumbers) (x : Formula) → length f ≡ 384 → i < 64 → l ≡ formula_numbers x false → Writes f (set_line f i l) i (x ∷ [])
writes_one f i l x n h e =
    record {
      same_length = set_line_length f i l;
      before = λ j k. set_other f i j l (λ q. omega arith);
      lines = λ j k. let q : i + j ≡ i = omega arith in let z : 0 ≡ j = omega arith in
          ap (line_at (set_line f i l)) q ∙ set_same f i l h n ∙ e ∙ ap (λ (y : ℕ). formula_numbers (get_or (x ∷ []) y F.True) false) z;
    }

-- ---- a leaf

module _ (m : ℕ) (text : List ℕ) (at i : ℕ) (f : List ℕ) (n : length f ≡ 384) (few : i < 64) where
  -- behind the "t"
  pub behind_t : get_or text at 0 ≡ 116 → (k : List Wanted) (o : ℕ) → i + o < 64 → State m text (term ∷ k) at (i + o) → State m text (bytes (ascii "rue") k) (at + 1) (i + o + 1)
  behind_t c k o l s =
      subst (λ (z : ℕ). State m text (bytes (ascii "rue") k) z (i + o + 1)) (sym (add-one at))
      (advance (term ∷ k) at (i + o) s (bytes (ascii "rue") k) 116 (inside_text text at 116 c (omega arith)) c refl (λ x. omega arith) (λ x. omega arith) (λ x. omega arith) (λ x. absurd (omega arith)) (λ x. l))

  module _ (c : get_or text at 0 ≡ 116) (found : Result ℕ Refusal) (d : WordAt text (at + 1) (ascii "rue") found) where
    pub leaf_cut : (q : Refusal) → found ≡ Err q → LeafRead m text at i f f (Err q)
    unfolding LeafRead
    leaf_cut q e =
        let v = cut_at text (at + 1) (ascii "rue") found d q e in
        (n, λ o l. tt, λ k o w l a b s. subst (Refuses m text) (sym v.3) (word_broken m text (ascii "rue") k (at + 1) (i + o + 1) v.0 (refl, omega arith, (refl, omega arith, (refl, omega arith, tt))) (behind_t c k o l s) v.2 v.1))

    pub leaf_true : (e : ℕ) (g : List ℕ) (l : LineNumbers) → found ≡ Ok e → g ≡ set_line f i l → l ≡ numbered 0 0 0 0 0 false → LeafRead m text at i f g (Ok (record { at = e; lines = i + 1 }))
    unfolding LeafRead
    leaf_true e g l h y q =
        let v = word_there text (at + 1) (ascii "rue") found d e h in (
          ap length y ∙ set_line_length f i l ∙ n,
          λ o z. (omega arith, omega arith),
          λ k o w z a b s. let u : i + o + 1 ≡ i + 1 + o = omega arith in
              record {
                is = T.True;
                state = subst (λ (x : ℕ). State m text k x (i + 1 + o)) (sym v.0) (subst (λ (x : ℕ). State m text k (at + 1 + 3) x) u
                    (word_read m text (ascii "rue") k (at + 1) (i + o + 1) (refl, omega arith, (refl, omega arith, (refl, omega arith, tt))) (behind_t c k o z s) v.1));
                stands = drop-cons text at 0 (inside_text text at 116 c (omega arith)) ∙ ap (λ (x : ℕ). x ∷ drop (suc at) text) c ∙ ap (λ (x : ℕ). 116 ∷ drop x text) (sym (add-one at))
                    ∙ ap (λ (x : List ℕ). 116 ∷ x) (matched_text text (at + 1) (ascii "rue") 3 v.1 (omega arith) ∙ ap (λ (x : ℕ). 114 ∷ 117 ∷ 101 ∷ drop x text) (sym v.0));
                count = omega arith;
                written = subst (λ (x : List ℕ). Writes f x i (F.True ∷ [])) (sym y) (writes_one f i l F.True n few q);
              },
        )

  pub leaf_other : (get_or text at 0 ≡ 116 → ⊥) → (get_or text at 0 ≡ 109 → ⊥) → LeafRead m text at i f f (Err (RuleSyntax at))
  unfolding LeafRead
  leaf_other a b = (
    n,
    λ o l. tt,
    λ k o w l p q s. refuse_syntax (term ∷ k) at (i + o) s
        (four (eqb (get_or text at 0) 116) (eqb (get_or text at 0) 109) (eqb (get_or text at 0) 110) (eqb (get_or text at 0) 40) _ _ _ _ (ne_eqb (get_or text at 0) 116 a) (ne_eqb (get_or text at 0) 109 b) (ne_eqb (get_or text at 0) 110 q) (ne_eqb (get_or text at 0) 40 p))
        (λ z. refl) (λ z. l),
  )

  module _ (c : get_or text at 0 ≡ 109) where
    mark_opens : (k : List Wanted) (o : ℕ) → i + o < 64 → State m text (term ∷ k) at (i + o) → Opened m text 109 k (at + 1) (i + o + 1)
    mark_opens k o l s =
        subst (λ (z : ℕ). Opened m text 109 k z (i + o + 1)) (sym (add-one at))
        (opens m text k 109 (term ∷ k) at (i + o) of_mark s (inside_text text at 109 c (omega arith)) c refl (λ x. absurd (omega arith)) (λ x. l))

    pub leaf_no_number : (e v : ℕ) → NumberAt text (at + 1) e v → e ≡ at + 1 → LeafRead m text at i f f (Err (RuleSyntax (at + 1)))
    unfolding LeafRead
    leaf_no_number e v (nothing x d) q = (n, λ o l. tt, λ k o w l a b s. number_none m text k 109 (at + 1) (i + o + 1) of_mark (mark_opens k o l s) d)
    leaf_no_number e v (spelt_as x y z l s r) q = absurd (omega arith)

    pub leaf_far : (e v : ℕ) → NumberAt text (at + 1) e v → (e ≡ at + 1 → ⊥) → m ≤ v → LeafRead m text at i f f (Err (RuleLimit (at + 1)))
    unfolding LeafRead
    leaf_far e v (nothing x d) q h = absurd (q refl)
    leaf_far e v (spelt_as x y z g t r) q h =
        (n, λ o l. tt, λ k o w l a b s. number_far m text k 109 (at + 1) (i + o + 1) of_mark (mark_opens k o l s) x z t (omega (arith, r.most)))

    pub leaf_mark : (e v : ℕ) (g : List ℕ) (l : LineNumbers) → NumberAt text (at + 1) e v → (e ≡ at + 1 → ⊥) → v < m → m ≤ 32 → g ≡ set_line f i l → l ≡ numbered 1 v 0 0 0 false
        → LeafRead m text at i f g (Ok (record { at = e; lines = i + 1 }))
    unfolding LeafRead
    leaf_mark e v g l (nothing x d) q h b y z = absurd (q refl)
    leaf_mark e v g l (spelt_as x u z a t r) q h b y w = (
      ap length y ∙ set_line_length f i l ∙ n,
      λ o z. (omega arith, omega arith),
      λ k o p d j c' s. let same : v ≡ z = r.exact (omega arith) in
          let up : i + o + 1 ≡ i + 1 + o = omega arith in
          record {
            is = T.Mark v;
            state = subst (λ (j : ℕ). State m text k x j) up (number_good m text k 109 (at + 1) (i + o + 1) of_mark (mark_opens k o d s) x z t (omega arith) p);
            stands = drop-cons text at 0 (inside_text text at 109 c (omega arith)) ∙ ap (λ (j : ℕ). j ∷ drop (suc at) text) c ∙ ap (λ (j : ℕ). 109 ∷ drop j text) (sym (add-one at))
                ∙ ap (λ (j : List ℕ). 109 ∷ j) (t.spells ∙ ap (λ (j : ℕ). digits j ++ drop x text) (sym same));
            count = omega arith;
            written = subst (λ (j : List ℕ). Writes f j i (F.Proposition v ∷ [])) (sym y) (writes_one f i l (F.Proposition v) n few w);
          },
    )

-- ---- the lines of a run of "not"

not_length : (p n : ℕ) → length (not_lines p n) ≡ n
not_length p zero = refl
not_length p (suc n) = ap suc (not_length (suc p) n)

not_lines_snoc : (p n : ℕ) → not_lines p n ++ F.Not (p + n) ∷ [] ≡ not_lines p (suc n)
not_lines_snoc p zero = let e : p + 0 ≡ p = omega arith in ap (λ (k : ℕ). F.Not k ∷ []) e
not_lines_snoc p (suc n) =
    let e : p + suc n ≡ suc p + n = omega arith in
    ap (λ (u : List Formula). F.Not p ∷ u) (ap (λ (k : ℕ). not_lines (suc p) n ++ F.Not k ∷ []) e ∙ not_lines_snoc (suc p) n)

pub put_none : (f : List ℕ) (l count : ℕ) → length f ≡ 384 → Put f f l count 0
put_none f l count n = record { few = omega arith; size = n; written = writes_none f l }

pub put_one : (f g h : List ℕ) (l count i : ℕ) (x : LineNumbers) → Put f g l count i → 0 < l → l + count ≤ 64 → i < count → x ≡ numbered 2 (l + i - 1) 0 0 0 false → h ≡ set_line g (l + i) x
    → Put f h l count (i + 1)
put_one f g h l count i x p z r k e q =
    let p1 = l - 1 in
    let y : l + i - 1 ≡ p1 + i = omega arith in
    record {
      few = omega arith;
      size = ap length q ∙ set_line_length g (l + i) x ∙ p.size;
      written = subst (λ (n : ℕ). Writes f h l (not_lines p1 n)) (sym (add-one i)) (subst (Writes f h l) (not_lines_snoc p1 i)
          (writes_then f g h l (l + i) (not_lines p1 i) (F.Not (p1 + i) ∷ []) p.written (ap (λ (n : ℕ). l + n) (sym (not_length p1 i)))
          (subst (λ (u : List ℕ). Writes g u (l + i) (F.Not (p1 + i) ∷ [])) (sym q) (writes_one g (l + i) x (F.Not (p1 + i)) p.size (omega arith) (e ∙ ap (λ (n : ℕ). numbered 2 n 0 0 0 false) y)))));
    }

pub put_all : (f g : List ℕ) (l count i : ℕ) → Put f g l count i → count ≤ i → Writes f g l (not_lines (l - 1) count)
put_all f g l count i p h = let e : i ≡ count = omega (arith, p.few) in subst (λ (n : ℕ). Writes f g l (not_lines (l - 1) n)) e p.written

-- ---- a term with a run of "not" before it

pub negated_read : (c : Cursor) (n : ℕ) (f g : List ℕ) → Writes f g c.lines (not_lines (c.lines - 1) n) → Negated c n f g (record { at = c.at; lines = c.lines + n })
unfolding Negated
negated_read c n f g w = (refl, w)

abbrev nots_of : ℕ → T.Term → T.Term
nots_of zero x = x
nots_of (suc n) x = nots_of n (T.Not x)

nots_look : (n : ℕ) (x : T.Term) → T.looks (nots_of n x) ≡ not_text n ++ T.looks x
nots_look zero x = refl
nots_look (suc n) x = nots_look n (T.Not x) ∙ not_snoc n (T.looks x)

nots_terms : (n : ℕ) (x : T.Term) → terms (nots_of n x) ≡ terms x + n
nots_terms zero x = omega arith
nots_terms (suc n) x = omega (arith, nots_terms n (T.Not x))

nots_lines : (n i : ℕ) (x : T.Term) → lines i (nots_of n x) ≡ lines i x ++ not_lines (i + inner x) n
nots_lines zero i x = nil (lines i x)
  where
    nil : (u : List Formula) → u ≡ u ++ []
    nil [] = refl
    nil (c ∷ u) = ap (λ z. c ∷ z) (nil u)
nots_lines (suc n) i x =
    let e : i + suc (inner x) ≡ suc (i + inner x) = omega arith in
    nots_lines n i (T.Not x) ∙ append_assoc (lines i x) (F.Not (i + inner x) ∷ []) (not_lines (i + suc (inner x)) n)
    ∙ ap (λ (k : ℕ). lines i x ++ F.Not (i + inner x) ∷ not_lines k n) e

module _ (m : ℕ) (text : List ℕ) (k : List Wanted) (at first i around count : ℕ) (f g h : List ℕ) (t : drop at text ≡ not_text count ++ drop first text) where
  negate_good : (e l : ℕ) → TermGood m text k first i (around + count) f g e l → Writes g h l (not_lines (l - 1) count) → TermGood m text k at i around f h e (l + count)
  negate_good e l x w =
      let q : l + (around + count) ≡ l + count + around = omega arith in
      let z : l - 1 ≡ i + inner x.is = omega (arith, x.count) in
      let y : l ≡ i + length (lines i x.is) = omega (arith, x.count, line_count i x.is) in
      record {
        is = nots_of count x.is;
        state = subst (State m text k e) q x.state;
        stands = t ∙ ap (λ (u : List ℕ). not_text count ++ u) x.stands ∙ sym (append_assoc (not_text count) (T.looks x.is) (drop e text)) ∙ ap (λ (u : List ℕ). u ++ drop e text) (sym (nots_look count x.is));
        count = omega (arith, x.count, nots_terms count x.is);
        written = subst (Writes f h i) (sym (nots_lines count i x.is))
            (writes_then f g h i l (lines i x.is) (not_lines (i + inner x.is) count) x.written y (subst (λ (n : ℕ). Writes g h l (not_lines n count)) z w));
      }

  negate : (c r : Cursor) → TermGood m text k first i (around + count) f g c.at c.lines → Negated c count g h r → TermGood m text k at i around f h r.at r.lines
  unfolding Negated
  negate c r o n = subst (λ (x : Cursor). TermGood m text k at i around f h x.at x.lines) (sym n.0) (negate_good c.at c.lines o n.1)

negate_grown : (i around count : ℕ) (g h : List ℕ) (c r : Cursor) → (i < c.lines) × (c.lines + (around + count) ≤ 64) → Negated c count g h r → (i < r.lines) × (r.lines + around ≤ 64)
unfolding Negated
negate_grown i around count g h c r o n = subst (λ (x : Cursor). (i < x.lines) × (x.lines + around ≤ 64)) (sym n.0) (omega (arith, o.0), omega (arith, o.1))

negate_size : (count : ℕ) (g h : List ℕ) (c r : Cursor) → length g ≡ 384 → Negated c count g h r → length h ≡ 384
unfolding Negated
negate_size count g h c r l n = n.1.same_length ∙ l

-- behind the run a term may start
pub run_few : (text : List ℕ) (at started : ℕ) (found : Result Run Refusal) (run : Run) → NotsRead text at started found → found ≡ Ok run → (started + run.count < 64) × (get_or text run.at 0 ≡ 110 → ⊥)
unfolding NotsRead
run_few text at started found run d e = subst (Few text started) e d.0

module _ (m : ℕ) (text : List ℕ) (at i around nesting : ℕ) (f : List ℕ) (size : length f ≡ 384) (found : Result Run Refusal) (d : NotsRead text at (i + around) found) where
  pub term_refused : (q : Refusal) → found ≡ Err q → TermRead m text at i around nesting f f (Err q)
  unfolding TermRead NotsRead
  term_refused q e = (size, tt, λ k w c s. subst (NotsOut m text k at (i + around)) e (d.1 m k s))

  module _ (run : Run) (e : found ≡ Ok run) where
    few : (i + around + run.count < 64) × (get_or text run.at 0 ≡ 110 → ⊥)
    few = run_few text at (i + around) found run d e

    due : (k : List Wanted) → State m text (term ∷ k) at (i + around) → State m text (term ∷ k) run.at (i + (around + run.count)) × (drop at text ≡ not_text run.count ++ drop run.at text)
    unfolding NotsRead
    due k s =
        let o = subst (NotsOut m text k at (i + around)) e (d.1 m k s) in
        let q : i + around + run.count ≡ i + (around + run.count) = omega arith in
        (subst (State m text (term ∷ k) run.at) q o.0, o.1)

    pub term_nested : get_or text run.at 0 ≡ 40 → nesting ≡ 0 → TermRead m text at i around nesting f f (Err (RuleLimit run.at))
    unfolding TermRead
    term_nested b z = (size, tt, λ k w c s. refuse_nested (term ∷ k) run.at (i + (around + run.count)) (due k s).0 (term ∷ byte 32 ∷ joint ∷ k) (inside_text text run.at 40 b (omega arith)) b refl (omega arith))

    module _ (g : List ℕ) (x : Result Cursor Refusal) (b : get_or text run.at 0 ≡ 40 → ⊥) (l : LeafRead m text run.at i f g x) where
      leaf_out : (k : List Wanted) → wants_term k ≡ false → State m text (term ∷ k) at (i + around) → TermOut m text k run.at i (around + run.count) f g x
      unfolding LeafRead
      leaf_out k w s = l.2 k (around + run.count) w (omega (arith, few.0)) b few.1 (due k s).0

      leaf_size : length g ≡ 384
      unfolding LeafRead
      leaf_size = l.0

      pub leaf_refused : (q : Refusal) → x ≡ Err q → TermRead m text at i around nesting f g (Err q)
      unfolding TermRead
      leaf_refused q y = (leaf_size, tt, λ k w c s. subst (TermOut m text k run.at i (around + run.count) f g) y (leaf_out k w s))

      module _ (c : Cursor) (y : x ≡ Ok c) where
        pub leaf_grown : (i < c.lines) × (c.lines + (around + run.count) ≤ 64)
        unfolding LeafRead
        leaf_grown = subst (Grown i (around + run.count)) y (l.1 (around + run.count) (omega (arith, few.0)))

        pub term_leaf : (h : List ℕ) (r : Cursor) → Negated c run.count g h r → TermRead m text at i around nesting f h (Ok r)
        unfolding TermRead
        term_leaf h r n = (
          negate_size run.count g h c r leaf_size n,
          negate_grown i around run.count g h c r leaf_grown n,
          λ k w _ s. negate m text k at run.at i around run.count f g h (due k s).1 c r (subst (TermOut m text k run.at i (around + run.count) f g) y (leaf_out k w s)) n,
        )

    module _ (g : List ℕ) (x : Result Cursor Refusal) (b : get_or text run.at 0 ≡ 40) (z : nesting ≡ 0 → ⊥) (l : GroupRead m text (run.at + 1) i (around + run.count) (nesting - 1) f g x) where
      above : 0 < nesting
      above = go (dec_lt 0 nesting)
        where
          go : Dec (0 < nesting) → 0 < nesting
          go (yes q) = q
          go (no q) = absurd (z (omega arith))

      deeper : (k : List Wanted) → closers k + nesting ≡ 32 → closers k + suc (nesting - 1) ≡ 32
      deeper k c = omega (arith, above)

      inside : run.at < length text
      inside = inside_text text run.at 40 b (omega arith)

      opens_here : drop run.at text ≡ 40 ∷ drop (run.at + 1) text
      opens_here = drop-cons text run.at 0 inside ∙ ap (λ (y : ℕ). y ∷ drop (suc run.at) text) b ∙ ap (λ (y : ℕ). 40 ∷ drop y text) (sym (add-one run.at))

      opened : (k : List Wanted) → closers k + nesting ≡ 32 → State m text (term ∷ k) run.at (i + (around + run.count)) → State m text (term ∷ byte 32 ∷ joint ∷ k) (run.at + 1) (suc (i + (around + run.count)))
      opened k c s =
          subst (λ (y : ℕ). State m text (term ∷ byte 32 ∷ joint ∷ k) y (suc (i + (around + run.count)))) (sym (add-one run.at))
          (subst (State m text (term ∷ byte 32 ∷ joint ∷ k) (suc run.at)) (add-one (i + (around + run.count)))
          (advance (term ∷ k) run.at (i + (around + run.count)) s (term ∷ byte 32 ∷ joint ∷ k) 40 inside b refl (λ y. omega arith) (λ y. omega arith) (λ y. omega arith) (λ y. omega (arith, above)) (λ y. omega (arith, few.0))))

      group_out : (k : List Wanted) → closers k + nesting ≡ 32 → State m text (term ∷ k) at (i + around) → TermOut m text k run.at i (around + run.count) f g x
      unfolding GroupRead
      group_out k c s = l.2 k run.at opens_here (deeper k c) (opened k c (due k s).0)

      group_size : length g ≡ 384
      unfolding GroupRead
      group_size = l.0

      pub group_refused : (q : Refusal) → x ≡ Err q → TermRead m text at i around nesting f g (Err q)
      unfolding TermRead
      group_refused q y = (group_size, tt, λ k w c s. subst (TermOut m text k run.at i (around + run.count) f g) y (group_out k c s))

      module _ (c : Cursor) (y : x ≡ Ok c) where
        pub group_grown : (i < c.lines) × (c.lines + (around + run.count) ≤ 64)
        unfolding GroupRead
        group_grown = subst (Grown i (around + run.count)) y l.1

        pub term_group : (h : List ℕ) (r : Cursor) → Negated c run.count g h r → TermRead m text at i around nesting f h (Ok r)
        unfolding TermRead
        term_group h r n = (
          negate_size run.count g h c r group_size n,
          negate_grown i around run.count g h c r group_grown n,
          λ k w d s. negate m text k at run.at i around run.count f g h (due k s).1 c r (subst (TermOut m text k run.at i (around + run.count) f g) y (group_out k d s)) n,
        )

-- ---- a group

module _ (text : List ℕ) (c : Cursor) (w : Joint) (left : ℕ) (f : List ℕ) (n : length f ≡ 384) where
  pub closed_not : (get_or text c.at 0 ≡ 41 → ⊥) → ClosedBy text c w left f f (Err (RuleSyntax c.at))
  unfolding ClosedBy
  closed_not b = (n, λ o l. tt, λ m k j s. no_plain_byte m text 41 k c.at j s b)

  pub closed_read : (g : List ℕ) → (0 < c.lines) × (c.lines + 1 ≤ 64) → get_or text c.at 0 ≡ 41
      → g ≡ set_line f c.lines (numbered (kind_number w.kind) (left - 1) (c.lines - 1) w.lower w.upper false) → ClosedBy text c w left f g (Ok (record { at = c.at + 1; lines = c.lines + 1 }))
  unfolding ClosedBy
  closed_read g r b q = (
    ap length q ∙ set_line_length f c.lines _ ∙ n,
    λ o l. (omega arith, omega arith),
    λ m. (
      b,
      add-one c.at,
      add-one c.lines,
      λ j codes. subst (λ (u : List ℕ). Writes f u c.lines (joined j (left - 1) (c.lines - 1) ∷ [])) (sym q) (writes_one f c.lines _ (joined j (left - 1) (c.lines - 1)) n (omega (arith, r.1)) (sym (codes (left - 1) (c.lines - 1)))),
    ),
  )

module _ (m : ℕ) (text : List ℕ) (at i around nesting : ℕ) (f g : List ℕ) (left : Result Cursor Refusal) (t : TermRead m text at i (around + 1) nesting f g left) where
  left_out : (k : List Wanted) → closers k + suc nesting ≡ 32 → State m text (term ∷ byte 32 ∷ joint ∷ k) at (suc (i + around)) → TermOut m text (byte 32 ∷ joint ∷ k) at i (around + 1) f g left
  unfolding TermRead
  left_out k c s =
      let q : suc (i + around) ≡ i + (around + 1) = omega arith in
      t.2 (byte 32 ∷ joint ∷ k) refl (omega arith) (subst (State m text (term ∷ byte 32 ∷ joint ∷ k) at) q s)

  pub left_size : length g ≡ 384
  unfolding TermRead
  left_size = t.0

  pub group_left : (q : Refusal) → left ≡ Err q → GroupRead m text at i around nesting f g (Err q)
  unfolding GroupRead
  group_left q e = (left_size, tt, λ k p d c s. subst (TermOut m text (byte 32 ∷ joint ∷ k) at i (around + 1) f g) e (left_out k c s))

  module _ (l : Cursor) (e : left ≡ Ok l) where
    pub left_grown : (i < l.lines) × (l.lines + (around + 1) ≤ 64)
    unfolding TermRead
    left_grown = subst (Grown i (around + 1)) e t.1

    left_good : (k : List Wanted) → closers k + suc nesting ≡ 32 → State m text (term ∷ byte 32 ∷ joint ∷ k) at (suc (i + around)) → TermGood m text (byte 32 ∷ joint ∷ k) at i (around + 1) f g l.at l.lines
    left_good k c s = subst (TermOut m text (byte 32 ∷ joint ∷ k) at i (around + 1) f g) e (left_out k c s)

    module _ (word : Result Joint Refusal) (j : JointRead text l.at word) where
      pub group_word : (q : Refusal) → word ≡ Err q → GroupRead m text at i around nesting f g (Err q)
      unfolding GroupRead JointRead
      group_word q d = (left_size, tt, λ k p z c s. subst (JointOut m text k l.at (l.lines + (around + 1))) d (j m k (l.lines + (around + 1)) (left_good k c s).state))

      module _ (w : Joint) (d : word ≡ Ok w) (h : List ℕ) (right : Result Cursor Refusal) (y : TermRead m text w.at l.lines (around + 1) nesting g h right) where
        joined_by : (k : List Wanted) → closers k + suc nesting ≡ 32 → State m text (term ∷ byte 32 ∷ joint ∷ k) at (suc (i + around)) → JointOut m text k l.at (l.lines + (around + 1)) (Ok w)
        unfolding JointRead
        joined_by k c s = subst (JointOut m text k l.at (l.lines + (around + 1))) d (j m k (l.lines + (around + 1)) (left_good k c s).state)

        right_out : (k : List Wanted) → closers k + suc nesting ≡ 32 → State m text (term ∷ byte 32 ∷ joint ∷ k) at (suc (i + around)) → TermOut m text (byte 41 ∷ k) w.at l.lines (around + 1) g h right
        unfolding TermRead
        right_out k c s = y.2 (byte 41 ∷ k) refl (omega arith) (joined_by k c s).1

        right_size : length h ≡ 384
        unfolding TermRead
        right_size = y.0

        pub group_right : (q : Refusal) → right ≡ Err q → GroupRead m text at i around nesting f h (Err q)
        unfolding GroupRead
        group_right q v = (right_size, tt, λ k p e c s. subst (TermOut m text (byte 41 ∷ k) w.at l.lines (around + 1) g h) v (right_out k c s))

        module _ (c : Cursor) (v : right ≡ Ok c) where
          pub right_grown : (l.lines < c.lines) × (c.lines + (around + 1) ≤ 64)
          unfolding TermRead
          right_grown = subst (Grown l.lines (around + 1)) v y.1

          module _ (h' : List ℕ) (r : Result Cursor Refusal) (z : ClosedBy text c w l.lines h h' r) where
            whole : (k : List Wanted) (p : ℕ) → drop p text ≡ 40 ∷ drop at text → closers k + suc nesting ≡ 32 → State m text (term ∷ byte 32 ∷ joint ∷ k) at (suc (i + around)) → (b c : Cursor)
                → TermGood m text (byte 41 ∷ k) w.at l.lines (around + 1) g h c.at c.lines → ClosedOut m text c w l.lines h h' (Ok b) → TermGood m text k p i around f h' b.at b.lines
            whole k p q c s b e a v =
                let x = left_good k c s in
                let u = joined_by k c s in
                let n : c_lines e + (around + 1) ≡ b.lines + around = omega (arith, v.2) in
                let lx = x.count in
                let ly = a.count in
                let el : l.lines - 1 ≡ i + inner x.is = omega arith in
                let er : e.lines - 1 ≡ i + terms x.is + inner a.is = omega arith in
                let es : i + terms x.is ≡ l.lines = omega arith in
                let close_in = inside_text text e.at 41 v.0 (omega arith) in
                record {
                  is = T.Group x.is u.0 a.is;
                  state = subst (λ (z : ℕ). State m text k z (b.lines + around)) (sym v.1) (subst (State m text k (suc e.at)) n (plain_byte m text 41 k e.at (e.lines + (around + 1)) refl a.state close_in v.0));
                  stands = q ∙ ap (λ (z : List ℕ). 40 ∷ z) (x.stands ∙ ap (λ (z : List ℕ). T.looks x.is ++ z) (u.2 ∙ ap (λ (z : List ℕ). 32 ∷ (T.word u.0 ++ 32 ∷ z))
                      (a.stands ∙ ap (λ (z : List ℕ). T.looks a.is ++ z) (drop-cons text e.at 0 close_in ∙ ap (λ (z : ℕ). z ∷ drop (suc e.at) text) v.0 ∙ ap (λ (z : ℕ). 41 ∷ drop z text) (sym v.1))))
                      ∙ sym (three (T.looks x.is) (T.word u.0) (T.looks a.is) (drop b.at text) 32 32 41));
                  count = omega (arith, v.2);
                  written = writes_then f h h' i e.lines (lines i x.is ++ lines (i + terms x.is) a.is) (joined u.0 (i + inner x.is) (i + terms x.is + inner a.is) ∷ [])
                      (writes_then f g h i l.lines (lines i x.is) (lines (i + terms x.is) a.is) x.written (omega (arith, line_count i x.is))
                      (subst (λ (z : ℕ). Writes g h l.lines (lines z a.is)) (sym es) a.written))
                      (omega (arith, length-append (lines i x.is) (lines (i + terms x.is) a.is), line_count i x.is, line_count (i + terms x.is) a.is))
                      (subst (λ (z : ℕ). Writes h h' e.lines (joined u.0 z (i + terms x.is + inner a.is) ∷ [])) el
                      (subst (λ (z : ℕ). Writes h h' e.lines (joined u.0 (l.lines - 1) z ∷ [])) er (v.3 u.0 u.3)));
                }
              where
                c_lines : Cursor → ℕ
                c_lines z = z.lines

            right_good : (k : List Wanted) → closers k + suc nesting ≡ 32 → State m text (term ∷ byte 32 ∷ joint ∷ k) at (suc (i + around)) → TermGood m text (byte 41 ∷ k) w.at l.lines (around + 1) g h c.at c.lines
            right_good k d s = subst (TermOut m text (byte 41 ∷ k) w.at l.lines (around + 1) g h) v (right_out k d s)

            pub group_read : GroupRead m text at i around nesting f h' r
            unfolding GroupRead ClosedBy
            group_read = go r z
              where
                go : (r : Result Cursor Refusal) → ClosedBy text c w l.lines h h' r
                    → (length h' ≡ 384) × Grown i around r
                    × ((k : List Wanted) (p : ℕ) → drop p text ≡ 40 ∷ drop at text → closers k + suc nesting ≡ 32 → State m text (term ∷ byte 32 ∷ joint ∷ k) at (suc (i + around)) → TermOut m text k p i around f h' r)
                go (Err q) a = (a.0, tt, λ k p e d s. a.2 m k (c.lines + (around + 1)) (right_good k d s).state)
                go (Ok b) a = (
                  a.0,
                  let x = a.1 around (omega (arith, right_grown.1)) in (omega (arith, x.0, right_grown.0, left_grown.0), x.1),
                  λ k p e u s. whole k p e u s b c (right_good k u s) (a.2 m),
                )

-- ---- the whole text

module _ (m : ℕ) (text : List ℕ) (f g : List ℕ) (x : Result Cursor Refusal) (t : TermRead m text 0 0 0 32 f g x) where
  top : TermOut m text [] 0 0 0 f g x
  unfolding TermRead
  top = t.2 [] refl refl start

  pub rule_refused : (q : Refusal) → x ≡ Err q → RuleRead m text g (Err q)
  unfolding RuleRead TermRead
  rule_refused q e = (t.0, subst (TermOut m text [] 0 0 0 f g) e top)

  module _ (c : Cursor) (e : x ≡ Ok c) where
    good : TermGood m text [] 0 0 0 f g c.at c.lines
    good = subst (TermOut m text [] 0 0 0 f g) e top

    pub rule_longer : c.at < length text → RuleRead m text g (Err (RuleSyntax c.at))
    unfolding RuleRead TermRead
    rule_longer h = (t.0, refuse_syntax [] c.at (c.lines + 0) good.state refl (λ l. absurd (omega arith)) (λ y. absurd (false≢true y)))

    pub rule_read : length text ≤ c.at → RuleRead m text g (Ok c)
    unfolding RuleRead TermRead
    rule_read h =
        let q : c.at ≡ length text = omega (arith, good.state.reached.inside) in
        let o = subst (Grown 0 0) e t.1 in
        let n : c.lines ≡ terms good.is = omega (arith, good.count) in (
          t.0,
          (
            good.is,
            accepts c.at (c.lines + 0) good.is good.state q (looks_is q),
            n,
            omega (arith, o.1),
            λ j l. let z : 0 + j ≡ j = zero-add j in ap (line_at g) (sym z) ∙ good.written.lines j (omega (arith, line_count 0 good.is)),
          ),
        )
      where
        nil : (u : List ℕ) → u ++ [] ≡ u
        nil [] = refl
        nil (y ∷ u) = ap (λ z. y ∷ z) (nil u)

        looks_is : c.at ≡ length text → T.looks good.is ≡ text
        looks_is q =
            sym (nil (T.looks good.is)) ∙ ap (λ (u : List ℕ). T.looks good.is ++ u) (sym (ap (λ (z : ℕ). drop z text) q ∙ lib.Seq.drop-length text)) ∙ sym good.stands
