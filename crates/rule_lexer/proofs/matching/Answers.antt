-- The bytes that agree are those that `Matching` counts. Assumes nothing.
use Rattle.std.proofs.Common.{rules, tests, ◌≡◌, ℕ, ◌+◌, ◌-◌, ◌≤◌, ◌<◌, ◌==◌, suc, refl, sym, subst, ◌∙◌, ap, arith, Bool, true, false, cond, List, [], ◌∷◌, ◌++◌, length, take, drop, get_or, length-drop, get_or-drop, take_all}
use Rattle.std.specs.List.{zip, prefix_len}
use Rattle.std.proofs.lemmas.Bool.{eqb-true, false≢true, eq-eqb}
use Rattle.std.proofs.lemmas.List.{drop-drop}
use Rattle.std.proofs.lemmas.Iterator.{YieldsList-from_slice, YieldsList-from_zip}
use Rattle.std.proofs.lemmas.Iterator.Search.{YieldsList-from_take_while}
use Rattle.std.proofs.lemmas.Iterator.Consumers.{YieldsList-at, count_from_yields_List}
use Rattle.std.proofs.lemmas.List.Folds.{length-prefix_len}
use Rattle.rule_grammar.specs.Numbers.{Matching}
use Rattle.rule_lexer.proofs.matching.Goals as goal

abbrev alike : ℕ × ℕ → Bool
alike p = p.0 == p.1

abbrev agreed : List ℕ → List ℕ → ℕ
agreed u w = prefix_len alike (zip u w)

record Agrees (u w : List ℕ) (n : ℕ) : Type 0 where
  short : n ≤ length w
  inside : n ≤ length u
  same : u ≡ take n w ++ drop n u
  differs : n < length w → 0 < get_or w n 0 → get_or u n 0 ≡ get_or w n 0 → ⊥

agrees : (u w : List ℕ) → Agrees u w (agreed u w)
agrees [] w = record { short = omega arith; inside = omega arith; same = refl; differs = λ l h e. omega arith }
agrees (x ∷ u) [] = record { short = omega arith; inside = omega arith; same = refl; differs = λ l h e. omega arith }
agrees (x ∷ u) (y ∷ w) = go (x == y) refl (agrees u w)
  where
    more : (n : ℕ) → x ≡ y → Agrees u w n → Agrees (x ∷ u) (y ∷ w) (suc n)
    more n e r = record { short = omega (arith, r.short); inside = omega (arith, r.inside); same = ap (λ (z : ℕ). z ∷ u) e ∙ ap (λ (v : List ℕ). y ∷ v) r.same; differs = λ l h f. r.differs (omega arith) h f }

    go : (b : Bool) → (x == y) ≡ b → Agrees u w (agreed u w) → Agrees (x ∷ u) (y ∷ w) (cond b (1 + agreed u w) 0)
    go true e r = let n = agreed u w in let z : suc n ≡ 1 + n = omega arith in subst (Agrees (x ∷ u) (y ∷ w)) z (more n (eqb-true x y e) r)
    go false e r = record { short = omega arith; inside = omega arith; same = refl; differs = λ l h f. false≢true (sym e ∙ eq-eqb x y f) }

counted : (text word : List ℕ) (at : ℕ) → at ≤ length text → Matching text at word (agreed (drop at text) word)
counted text word at h =
    let n = agreed (drop at text) word in
    let r = agrees (drop at text) word in
    record {
      short = r.short;
      inside = omega (arith, r.inside, length-drop at text);
      alike = r.same ∙ ap (λ (v : List ℕ). take n word ++ v) (drop-drop n at text);
      differs = λ l g e. r.differs l g (get_or-drop at text n 0 ∙ e);
    }

pub returns : goal.returns
returns c =
    let u = drop c.args.at c.args.text.now in
    let both = zip u c.args.word.now in
    let rest : take (length c.args.text.now - c.args.at) u ≡ u = take_all _ _ (omega (arith, length-drop c.args.at c.args.text.now)) in
    let e = count_from_yields_List c.take_while.result _ c.count.ensures.ran
    (YieldsList-from_take_while _ alike
    (YieldsList-at c.take_while.ensures.source
    (YieldsList-from_zip (YieldsList-at c.zip.ensures.first (YieldsList-from_slice u (c.iter.ensures.rest ∙ rest))) (YieldsList-from_slice c.args.word.now c.zip.ensures.second.0)))
    c.take_while.ensures.closure c.take_while.ensures.done (λ x b q k. search (rules, tests))) in
    subst (Matching c.args.text.now c.args.at c.args.word.now) (sym (e ∙ length-prefix_len alike both)) (counted c.args.text.now c.args.word.now c.args.at c.requires)
