-- How a word is compared with a text, byte by byte. Assumes nothing.
use Rattle.std.specs.Prelude.{ℕ, suc, ◌+◌, ◌≤◌, ◌<◌, ◌≡◌, refl, false, List, [], ◌∷◌, ◌++◌, length, take, drop, get_or, Err, Ok, Result}
use Rattle.std.proofs.Common.{arith, add-one, sym, ap, subst, ◌∙◌, append_assoc, drop-cons, take-suc}
use Rattle.std.proofs.Math.ListN.{get_or-eq_default}
use Rattle.rule_grammar.specs.Numbers.{Matching, PlainWord}
use Rattle.rule_grammar.proofs.Numbers.{plain_byte, no_plain_byte, word_read, word_broken}
use Rattle.rule_text.specs.Steps.{IntervalGood, Narrow, IntervalOut, IntervalRead, WordRead, TimedRead, not_text, NotsRead, LeafRead}
use Rattle.rule_text.specs.Laws.{Matched}
use Rattle.refusal.specs.declared.Refusal.{Refusal}
use Rattle.refusal.specs.declared.Refusal.TheVariants.{RuleSyntax}
use Rattle.policy.specs.Text.{numbered}
use Rattle.rule_grammar.specs.Term as T
use Rattle.rule_grammar.specs.Automaton.{Wanted, byte, term, bytes, bounds}
use Rattle.rule_grammar.specs.Progress.{State}
use Rattle.rule_text.specs.declared.Bounds.{Bounds}
use Rattle.policy.specs.declared.LineKind.{LineKind}
use Rattle.rule_text.proofs.Laws.{inside_text}
use Rattle.mtl.specs.declared.Formula.TheVariants as F
use Rattle.policy.specs.declared.LineNumbers.{LineNumbers}
use Rattle.line_table.specs.Table.{set_line}
use Rattle.line_table.proofs.Laws.{set_line_length}
use Rattle.rule_grammar.specs.Ascii.{ascii}
use Rattle.rule_text.specs.Gathered.{Writes}
use Rattle.rule_text.specs.Descent.{Negations}
use Rattle.rule_text.proofs.Terms.{matched_text}
use Rattle.rule_text.proofs.Descent.{not_snoc, behind_n, plain_rest, behind_t, writes_one}

pub past_end : (text : List ℕ) (i : ℕ) → length text ≤ i → 0 ≡ get_or text i 0
past_end text i h = sym (get_or-eq_default text 0 {n = i} h)

module _ (text : List ℕ) (at : ℕ) (word : List ℕ) where
  pub match_start : at ≤ length text → Matched text at word 0
  match_start h = record { few = omega arith; inside = omega arith; alike = let e : at ≡ at + 0 = omega arith in ap (λ (k : ℕ). drop k text) e }

  pub match_next : (n : ℕ) → Matched text at word n → n < length word → at + n < length text → get_or text (at + n) 0 ≡ get_or word n 0 → Matched text at word (n + 1)
  match_next n m h l e =
      let z : at + (n + 1) ≡ suc (at + n) = omega arith in
      record {
        few = omega arith;
        inside = omega arith;
        alike = m.alike ∙ ap (λ (w : List ℕ). take n word ++ w) (drop-cons text (at + n) 0 l ∙ ap (λ (c : ℕ). c ∷ drop (suc (at + n)) text) e)
            ∙ sym (append_assoc (take n word) (get_or word n 0 ∷ []) (drop (suc (at + n)) text))
            ∙ ap (λ (w : List ℕ). w ++ drop (suc (at + n)) text) (sym (take-suc word n 0 h) ∙ ap (λ (k : ℕ). take k word) (sym (add-one n)))
            ∙ ap (λ (k : ℕ). take (n + 1) word ++ drop k text) (sym z);
      }

  pub match_stop : (n : ℕ) → Matched text at word n → (n < length word → 0 < get_or word n 0 → get_or text (at + n) 0 ≡ get_or word n 0 → ⊥) → Matching text at word n
  match_stop n m d = record { short = m.few; inside = m.inside; alike = m.alike; differs = d }

  pub match_ended : (n : ℕ) → Matched text at word n → length text ≤ at + n → Matching text at word n
  match_ended n m h = match_stop n m (λ l q e. let z = get_or-eq_default text 0 {n = at + n} h in omega arith)

  pub match_whole : (n : ℕ) → Matched text at word n → length word ≤ n → Matching text at word n
  match_whole n m h = match_stop n m (λ l. absurd (omega arith))

-- ---- what the reader answers, by how many bytes of a word match

whole_matched : {text word : List ℕ} {at n : ℕ} → Matching text at word n → length word ≤ n → n ≡ length word
whole_matched r h = omega (arith, r.short)

module _ (text : List ℕ) (at : ℕ) (rest : List ℕ) (kind : LineKind) (n : ℕ) (r : Matching text at rest n) where
  pub word_cut : n < length rest → WordRead text at rest kind (Err (RuleSyntax (at + n)))
  unfolding WordRead
  word_cut h = λ p m l k s. word_broken m text rest l at k n p s r h

  whole_state : (m k : ℕ) (l : List Wanted) → length rest ≤ n → PlainWord rest → State m text (bytes rest l) at k → State m text l (at + n) k
  whole_state m k l h p s =
      let e = whole_matched r h in
      subst (λ (j : ℕ). State m text l (at + j) k) (sym e) (word_read m text rest l at k p s (subst (Matching text at rest) e r))

  pub word_done : length rest ≤ n → WordRead text at rest kind (Ok (record { at = at + n; kind = kind; lower = 0; upper = 0 }))
  unfolding WordRead
  word_done h = λ p m l k s. (whole_state m k l h p s, matched_text text at rest n r h, refl)

  pub timed_cut : n < length rest → TimedRead text at rest kind (Err (RuleSyntax (at + n)))
  unfolding TimedRead
  timed_cut h = λ p m k j s. word_broken m text rest (byte 91 ∷ bounds k) at j n p s r h

  module _ (h : length rest ≤ n) (x : Result Bounds Refusal) (i : IntervalRead text (at + n) x) where
    reads : (m : ℕ) (k : List Wanted) (j : ℕ) → PlainWord rest → State m text (bytes rest (byte 91 ∷ bounds k)) at j → IntervalOut m text k (at + n) j x
    unfolding IntervalRead
    reads m k j p s = i.1 m k j (whole_state m j (byte 91 ∷ bounds k) h p s)

    pub timed_refused : (q : Refusal) → x ≡ Err q → TimedRead text at rest kind (Err q)
    unfolding TimedRead
    timed_refused q e = λ p m k j s. subst (λ (z : Result Bounds Refusal). IntervalOut m text k (at + n) j z) e (reads m k j p s)

    module _ (b : Bounds) (e : x ≡ Ok b) where
      good : (m : ℕ) (k : List Wanted) (j : ℕ) → PlainWord rest → State m text (bytes rest (byte 91 ∷ bounds k)) at j → IntervalGood m text k (at + n) j b.at b.lower b.upper
      good m k j p s = subst (λ (z : Result Bounds Refusal). IntervalOut m text k (at + n) j z) e (reads m k j p s)

      pub narrow : (b.lower ≤ 1023) × (b.upper ≤ 1023)
      unfolding IntervalRead
      narrow = subst Narrow e i.0

      pub no_space : (get_or text b.at 0 ≡ 32 → ⊥) → TimedRead text at rest kind (Err (RuleSyntax b.at))
      unfolding TimedRead
      no_space f = λ p m k j s. no_plain_byte m text 32 (term ∷ byte 41 ∷ k) b.at j (good m k j p s).state f

      pub timed_done : get_or text b.at 0 ≡ 32 → TimedRead text at rest kind (Ok (record { at = b.at + 1; kind = kind; lower = b.lower; upper = b.upper }))
      unfolding TimedRead
      timed_done f = λ p m k j s.
          let g = good m k j p s in
          let l = inside_text text b.at 32 f (omega arith) in (
            subst (λ (z : ℕ). State m text (term ∷ byte 41 ∷ k) z j) (sym (add-one b.at)) (plain_byte m text 32 (term ∷ byte 41 ∷ k) b.at j refl g.state l f),
            matched_text text at rest n r h ∙ ap (λ (w : List ℕ). rest ++ w) (g.stands ∙ ap (λ (w : List ℕ). T.interval b.lower b.upper ++ w)
                (drop-cons text b.at 0 l ∙ ap (λ (c : ℕ). c ∷ drop (suc b.at) text) f ∙ ap (λ (z : ℕ). 32 ∷ drop z text) (sym (add-one b.at)))),
            refl,
          )

module _ (text : List ℕ) (at started place count : ℕ) (g : Negations text at started place count) (l : started + count < 64) (n : get_or text place 0 ≡ 110) where
  pub nots_cut : (j : ℕ) → Matching text (place + 1) (ascii "ot ") j → j < 3 → NotsRead text at started (Err (RuleSyntax (place + 1 + j)))
  unfolding NotsRead
  nots_cut j r h = (tt, λ m k s. word_broken m text (ascii "ot ") (term ∷ k) (place + 1) (started + (count + 1)) j (plain_rest text at started place count g l n) (behind_n text at started place count g l n m k s) r h)

  pub nots_next : (j : ℕ) → Matching text (place + 1) (ascii "ot ") j → 3 ≤ j → Negations text at started (place + 4) (count + 1)
  nots_next j r h =
      let e : j ≡ 3 = omega (arith, r.short) in
      let w = subst (Matching text (place + 1) (ascii "ot ")) e r in
      let q : place + 1 + 3 ≡ place + 4 = omega arith in
      let x : suc place ≡ place + 1 = omega arith in
      record {
        few = omega arith;
        state = λ m k s. subst (λ (i : ℕ). State m text (term ∷ k) i (started + (count + 1))) q
            (word_read m text (ascii "ot ") (term ∷ k) (place + 1) (started + (count + 1)) (plain_rest text at started place count g l n) (behind_n text at started place count g l n m k s) w);
        stands = g.stands ∙ ap (λ (u : List ℕ). not_text count ++ u)
            (drop-cons text place 0 (inside_text text place 110 n (omega arith)) ∙ ap (λ (c : ℕ). c ∷ drop (suc place) text) n ∙ ap (λ (i : ℕ). 110 ∷ drop i text) x
            ∙ ap (λ (u : List ℕ). 110 ∷ u) (matched_text text (place + 1) (ascii "ot ") 3 w (omega arith) ∙ ap (λ (i : ℕ). 111 ∷ 116 ∷ 32 ∷ drop i text) q))
            ∙ not_snoc count (drop (place + 4) text) ∙ ap (λ (i : ℕ). not_text i ++ drop (place + 4) text) (sym (add-one count));
      }

  pub nots_room : (j : ℕ) → Matching text (place + 1) (ascii "ot ") j → 3 ≤ j → place + 4 ≤ length text
  nots_room j r h = omega (arith, r.inside, r.short)

module _ (m : ℕ) (text : List ℕ) (at i : ℕ) (f : List ℕ) (n : length f ≡ 384) (few : i < 64) where
  pub leaf_cut : (j : ℕ) → get_or text at 0 ≡ 116 → Matching text (at + 1) (ascii "rue") j → j < 3 → LeafRead m text at i f f (Err (RuleSyntax (at + 1 + j)))
  unfolding LeafRead
  leaf_cut j c r h = (n, λ o l. tt, λ k o w l a b s. word_broken m text (ascii "rue") k (at + 1) (i + o + 1) j (refl, omega arith, (refl, omega arith, (refl, omega arith, tt))) (behind_t m text at i f n few c k o l s) r h)

  pub leaf_true : (j : ℕ) (g : List ℕ) (l : LineNumbers) → get_or text at 0 ≡ 116 → Matching text (at + 1) (ascii "rue") j → 3 ≤ j → g ≡ set_line f i l → l ≡ numbered 0 0 0 0 0 false
      → LeafRead m text at i f g (Ok (record { at = at + 4; lines = i + 1 }))
  unfolding LeafRead
  leaf_true j g l c r h e q = (
    ap length e ∙ set_line_length f i l ∙ n,
    λ o z. (omega arith, omega arith),
    λ k o w z a b s. let t : j ≡ 3 = omega (arith, r.short) in
        let y = subst (Matching text (at + 1) (ascii "rue")) t r in
        let p : at + 1 + 3 ≡ at + 4 = omega arith in
        let u : i + o + 1 ≡ i + 1 + o = omega arith in
        record {
          is = T.True;
          state = subst (λ (x : ℕ). State m text k x (i + 1 + o)) p (subst (λ (x : ℕ). State m text k (at + 1 + 3) x) u
              (word_read m text (ascii "rue") k (at + 1) (i + o + 1) (refl, omega arith, (refl, omega arith, (refl, omega arith, tt))) (behind_t m text at i f n few c k o z s) y));
          stands = drop-cons text at 0 (inside_text text at 116 c (omega arith)) ∙ ap (λ (x : ℕ). x ∷ drop (suc at) text) c ∙ ap (λ (x : ℕ). 116 ∷ drop x text) (sym (add-one at))
              ∙ ap (λ (x : List ℕ). 116 ∷ x) (matched_text text (at + 1) (ascii "rue") 3 y (omega arith) ∙ ap (λ (x : ℕ). 114 ∷ 117 ∷ 101 ∷ drop x text) p);
          count = omega arith;
          written = subst (λ (x : List ℕ). Writes f x i (F.True ∷ [])) (sym e) (writes_one f i l F.True n few q);
        },
  )
