-- What a kept-up state shows: its sheets are the reading; a trace agrees with its knowledge exactly when it admits the messages; more messages
-- keep every verdict; and the same messages make the same state.
use Prim.Native.Nat.{ℕ, suc, ◌+◌, ◌*◌, ◌/◌, ◌%◌, ◌≤◌, ◌<◌}
use Rattle.std.proofs.Common.{arith, subst, ◌∙◌, true≢false, inl, inr}
use Rattle.std.proofs.Math.Decide.{dec_lt, ℕ_discrete}
use Rattle.std.specs.Prelude.{◌≡◌, refl, Bool, true, false, cond, ◌⊎◌, ◌↔◌, ◌≢◌, List}
use Rattle.std.proofs.Math.Path.{sym, ap, ap₂}
use Rattle.std.proofs.Math.ListN.{get_or, length}
use Rattle.std.proofs.Math.Seq.{ext_get_or}
use Rattle.kleene.specs.Truth.{Truth, unknown, false3, true3, code_of, ◌⊑◌, less, same}
use Rattle.bits.proofs.Bits.{bits_same, bit_high}
use Rattle.mtl.specs.Knowing.{Settles, open3, is_true, is_false}
use Rattle.mtl.proofs.Knowing.{knows_more}
use Rattle.rows.proofs.Grid.{table_at, row_of, place_of, in_grid, row_in, place_in, grid_at}
use Rattle.policy.specs.declared.Policy.{Policy}
use Rattle.policy.specs.declared.Sizes.{Sizes}
use Rattle.policy.specs.Proper.{Proper, formula_at}
use Rattle.message.specs.Fixes.{FixesNumber, FixesFact}
use Rattle.message.specs.declared.Message.{Message}
use Rattle.knowledge.specs.Trace.{Trace, made, Admits}
use Rattle.knowledge.specs.Knowledge.{Knowledge, none, noted, valued, number, Sound, Agrees, KnownPoint, is_point, world}
use Rattle.knowledge.proofs.Laws.{point_law}
use Rattle.knowledge.proofs.Store.{fact_law, fixed_place, fixed_fact}
use Rattle.knowledge.proofs.Worlds.{More, point_more, world_more}
use Rattle.valuation.specs.Sheets.{value, verdict, valuation_of, verdicts_of}
use Rattle.origin.specs.Origin.{Origin}
use Rattle.monitor.specs.State.{State, over}
use Rattle.monitor.specs.Demands.{shown, rule_line, Sheets}
use Rattle.demands.proofs.Invariant.{KeptUp}

-- ---- the sheets

code_true : (a : Truth) → code_of a ≡ 1 → a ≡ true3
code_true true3 e = refl
code_true unknown e = absurd (omega arith)
code_true false3 e = absurd (omega arith)

code_false : (a : Truth) → code_of a ≡ 2 → a ≡ false3
code_false false3 e = refl
code_false unknown e = absurd (omega arith)
code_false true3 e = absurd (omega arith)

code_blank : (a : Truth) → code_of a ≢ 1 → code_of a ≢ 2 → code_of a ≡ 0
code_blank unknown h k = refl
code_blank true3 h k = absurd (h refl)
code_blank false3 h k = absurd (k refl)

more_code : {a b : Truth} → a ⊑ b → code_of a ≢ 0 → code_of b ≡ code_of a
more_code less h = absurd (h refl)
more_code same h = refl

decided_code : {a : Truth} {b : Bool} → Settles a b → code_of a ≢ 0 → cond b 1 2 ≡ code_of a
decided_code open3 h = absurd (h refl)
decided_code is_true h = refl
decided_code is_false h = refl

-- a 32-bit named has no further bits
high_bit : (k : Knowledge) → ((i : ℕ) → get_or k.facts i 0 < 4294967296) → (i t : ℕ) → 32 ≤ i → noted k i t ≡ false
unfolding noted
high_bit k f i t h = bit_high 32 (get_or k.facts (2 * t) 0) (f (2 * t)) i h

-- only the card's propositions are known
pub marks_in : (z : Sizes) (k : Knowledge) → Sound z k → ((i : ℕ) → get_or k.facts i 0 < 4294967296)
    → (i t : ℕ) → t < z.minutes → noted k i t ≡ true → i < z.propositions
marks_in z k sound words i t h e = go (dec_lt i 32)
  where
    go : Dec (i < 32) → i < z.propositions
    go (yes l) = sound.propositions i t l h e
    go (no n) = absurd (true≢false (sym e ∙ high_bit k words i t (omega arith)))

module _ (c : Policy) where
  valuation_at : (k : Knowledge) (l t : ℕ) → l < c.count → t < c.sizes.minutes → get_or (valuation_of c k) (l * c.sizes.minutes + t) 0 ≡ code_of (value c k l t)
  unfolding valuation_of
  valuation_at k l t h b =
      table_at (c.count * c.sizes.minutes) _ (l * c.sizes.minutes + t) 0 (in_grid c.count c.sizes.minutes l t h b)
      ∙ ap₂ (λ (x y : ℕ). code_of (value c k x y)) (row_of c.sizes.minutes l t b) (place_of c.sizes.minutes l t b)

  verdict_at : (o : Origin) (k : Knowledge) (r t : ℕ) → r < c.rules → t < c.sizes.minutes → shown c (over c o k) r t ≡ verdict c k r t
  unfolding verdicts_of
  verdict_at o k r t h b =
      table_at (c.rules * c.sizes.minutes) _ (r * c.sizes.minutes + t) 0 (in_grid c.rules c.sizes.minutes r t h b)
      ∙ ap₂ (λ (x y : ℕ). verdict c k x y) (row_of c.sizes.minutes r t b) (place_of c.sizes.minutes r t b)

  -- a verdict is the code_of of the reading at a known time_point minute
  pub verdict_point : (k : Knowledge) (r t v : ℕ) → verdict c k r t ≡ v → v ≢ 0 → (is_point c.sizes k t ≡ true) × (code_of (value c k (rule_line c r) t) ≡ v)
  verdict_point k r t v e n = go (is_point c.sizes k t) refl e
    where
      go : (b : Bool) → is_point c.sizes k t ≡ b → cond b (code_of (value c k (rule_line c r) t)) 0 ≡ v → (is_point c.sizes k t ≡ true) × (code_of (value c k (rule_line c r) t) ≡ v)
      go true f g = (f, g)
      go false f g = absurd (n (sym g))

  verdict_of_point : (k : Knowledge) (r t : ℕ) → is_point c.sizes k t ≡ true → verdict c k r t ≡ code_of (value c k (rule_line c r) t)
  verdict_of_point k r t e = ap (λ (b : Bool). cond b (code_of (value c k (rule_line c r) t)) 0) e

  pub sheets_over : (o : Origin) (k : Knowledge) → Sheets c (over c o k)
  sheets_over o k = record {
    valuation = valuation_at k;
    kept = λ r t h b. (λ e. there_kept r t (sym (verdict_at o k r t h b) ∙ e), λ z. verdict_at o k r t h b ∙ verdict_of_point k r t ((point_law c.sizes k t).1 z.0) ∙ ap code_of z.1);
    broken = λ r t h b. (λ e. there_broken r t (sym (verdict_at o k r t h b) ∙ e), λ z. verdict_at o k r t h b ∙ verdict_of_point k r t ((point_law c.sizes k t).1 z.0) ∙ ap code_of z.1);
    blank = λ r t h b x y. verdict_at o k r t h b ∙ blank r t (λ e. x (verdict_at o k r t h b ∙ e)) (λ e. y (verdict_at o k r t h b ∙ e));
  }
    where
      there_kept : (r t : ℕ) → verdict c k r t ≡ 1 → KnownPoint c.sizes k t × (value c k (rule_line c r) t ≡ true3)
      there_kept r t e = let z = verdict_point k r t 1 e (omega arith) in ((point_law c.sizes k t).0 z.0, code_true _ z.1)

      there_broken : (r t : ℕ) → verdict c k r t ≡ 2 → KnownPoint c.sizes k t × (value c k (rule_line c r) t ≡ false3)
      there_broken r t e = let z = verdict_point k r t 2 e (omega arith) in ((point_law c.sizes k t).0 z.0, code_false _ z.1)

      blank : (r t : ℕ) → verdict c k r t ≢ 1 → verdict c k r t ≢ 2 → verdict c k r t ≡ 0
      blank r t x y = go (is_point c.sizes k t) x y
        where
          go : (b : Bool) → cond b (code_of (value c k (rule_line c r) t)) 0 ≢ 1 → cond b (code_of (value c k (rule_line c r) t)) 0 ≢ 2
              → cond b (code_of (value c k (rule_line c r) t)) 0 ≡ 0
          go true x y = code_blank (value c k (rule_line c r) t) x y
          go false x y = refl

module _ (c : Policy) (o : Origin) where
  -- a kept-up state is the state over its knowledge
  pub is_over : (x : State) (Q : Message → Type 0) → KeptUp c o x Q → x ≡ over c o x.known
  is_over x Q up =
      ap₂ (λ (v d : List ℕ). record { known = x.known; valuation = v; verdicts = d; origin = x.origin }) up.valuation up.verdicts
      ∙ ap (λ (u : Origin). over c u x.known) up.origin

  pub shown_at : (x : State) (Q : Message → Type 0) → KeptUp c o x Q → (r t : ℕ) → r < c.rules → t < c.sizes.minutes → shown c x r t ≡ verdict c x.known r t
  shown_at x Q up r t h b = ap (λ (l : List ℕ). get_or l (r * c.sizes.minutes + t) 0) up.verdicts ∙ verdict_at c o x.known r t h b

  -- ---- one kept-up state

  module _ (x : State) (Q : Message → Type 0) (up : KeptUp c o x Q) where
    -- only the card's propositions are known
    pub marked : (i t : ℕ) → t < c.sizes.minutes → noted x.known i t ≡ true → i < c.sizes.propositions
    marked = marks_in c.sizes x.known up.exact.sound up.exact.words

    -- a trace agrees with the knowledge exactly when it admits the messages
    pub agrees_law : (w : Trace c.sizes) → Agrees c.sizes w x.known ↔ ((m : Message) → Q m → Admits c.sizes w m)
    agrees_law w = (there, back)
      where
        there : Agrees c.sizes w x.known → (m : Message) → Q m → Admits c.sizes w m
        there g m q = record { numbers = numbers; facts = facts }
          where
            numbers : (p n : ℕ) → FixesNumber m.event p n → made c.sizes w m.component p ≡ n
            numbers p n f =
                let l = fixed_place c.sizes m.event (up.fits m q).event_in p n f in
                let b = up.small m q p n f in
                let e : number c.sizes x.known m.component p ≡ n = (up.exact.numbers m.component p n (up.fits m q).component_in l b).1 (inr (m, q, refl, f)) in
                g.numbers m.component p (up.fits m q).component_in l (rw e b) ∙ e

            facts : (i t : ℕ) (b : Bool) → FixesFact m.event i t b → w.value i t ≡ b
            facts i t b f =
                let r = fixed_fact c.sizes m.event (up.fits m q).event_in i t b f in
                let z = (fact_law x.known i t b).0 ((up.exact.facts i t b r.0 r.1).1 (m, q, f)) in
                g.facts i t r.0 r.1 z.is ∙ z.so

        back : ((m : Message) → Q m → Admits c.sizes w m) → Agrees c.sizes w x.known
        back a = record { numbers = λ s p l h n. numbers s p ((up.exact.numbers s p (number c.sizes x.known s p) l h n).0 refl); facts = facts }
          where
            numbers : (s p : ℕ) → ((p ≡ 0) × (number c.sizes x.known s p ≡ 0)) ⊎ ((m : Message) × Q m × (m.component ≡ s) × FixesNumber m.event p (number c.sizes x.known s p))
                → made c.sizes w s p ≡ number c.sizes x.known s p
            numbers s p (inl z) = ap (made c.sizes w s) z.0 ∙ sym z.1
            numbers s p (inr z) = ap (λ (y : ℕ). made c.sizes w y p) (sym z.2) ∙ (a z.0 z.1).numbers p _ z.3

            facts : (i t : ℕ) → i < c.sizes.propositions → t < c.sizes.minutes → noted x.known i t ≡ true → w.value i t ≡ valued x.known i t
            facts i t l h e =
                let z = (up.exact.facts i t (valued x.known i t) l h).0 ((fact_law x.known i t (valued x.known i t)).1 (record { is = e; so = refl })) in
                (a z.0 z.1).facts i t _ z.2

  -- ---- two kept-up states

  more : (proper : Proper c) (x y : State) (Q R : Message → Type 0) → KeptUp c o x Q → KeptUp c o y R → ((m : Message) → Q m → R m) → More c.sizes x.known y.known
  more proper x y Q R up vp f = record { numbers = numbers; facts = facts }
    where
      numbers : (s p : ℕ) → s < c.sizes.components → p ≤ c.sizes.minutes → number c.sizes x.known s p < none → number c.sizes y.known s p ≡ number c.sizes x.known s p
      numbers s p l h b = (vp.exact.numbers s p (number c.sizes x.known s p) l h b).1 (go ((up.exact.numbers s p (number c.sizes x.known s p) l h b).0 refl))
        where
          go : ((p ≡ 0) × (number c.sizes x.known s p ≡ 0)) ⊎ ((m : Message) × Q m × (m.component ≡ s) × FixesNumber m.event p (number c.sizes x.known s p))
              → ((p ≡ 0) × (number c.sizes x.known s p ≡ 0)) ⊎ ((m : Message) × R m × (m.component ≡ s) × FixesNumber m.event p (number c.sizes x.known s p))
          go (inl z) = inl z
          go (inr z) = inr (z.0, f z.0 z.1, z.2, z.3)

      facts : (i t : ℕ) → t < c.sizes.minutes → noted x.known i t ≡ true → (noted y.known i t ≡ true) × (valued y.known i t ≡ valued x.known i t)
      facts i t h e =
          let l = marked x Q up i t h e in
          let z = (up.exact.facts i t (valued x.known i t) l h).0 ((fact_law x.known i t (valued x.known i t)).1 (record { is = e; so = refl })) in
          let r = (fact_law y.known i t (valued x.known i t)).0 ((vp.exact.facts i t (valued x.known i t) l h).1 (z.0, f z.0 z.1, z.2)) in
          (r.is, r.so)

  module _ (proper : Proper c) (x y : State) (Q R : Message → Type 0) (up : KeptUp c o x Q) (vp : KeptUp c o y R) (f : (m : Message) → Q m → R m) where
    pub stands : (r t : ℕ) → r < c.rules → t < c.sizes.minutes → shown c x r t ≢ 0 → shown c y r t ≡ shown c x r t
    stands r t h b n =
        let e = shown_at x Q up r t h b in
        let z = verdict_point c x.known r t (shown c x r t) (sym e) n in
        let g = more proper x y Q R up vp f in
        shown_at y R vp r t h b ∙ verdict_of_point c y.known r t (point_more c.sizes x.known y.known g t z.0)
        ∙ more_code (knows_more (world c.sizes x.known) (world c.sizes y.known) (world_more c.sizes x.known y.known vp.exact.sound g) (formula_at c) (rule_line c r) t) (λ q. n (sym z.1 ∙ q))
        ∙ z.1

    module _ (g : (m : Message) → R m → Q m) where
      same_number : (s p : ℕ) → s < c.sizes.components → p ≤ c.sizes.minutes → number c.sizes x.known s p ≡ number c.sizes y.known s p
      same_number s p l h = go (dec_lt (number c.sizes x.known s p) none) (dec_lt (number c.sizes y.known s p) none)
        where
          go : Dec (number c.sizes x.known s p < none) → Dec (number c.sizes y.known s p < none) → number c.sizes x.known s p ≡ number c.sizes y.known s p
          go (yes a) d = sym ((more proper x y Q R up vp f).numbers s p l h a)
          go (no a) (yes d) = (more proper y x R Q vp up g).numbers s p l h d
          go (no a) (no d) = omega (arith, up.exact.unknown_number s p l h, vp.exact.unknown_number s p l h)

      same_noted : (i t : ℕ) → t < c.sizes.minutes → noted x.known i t ≡ noted y.known i t
      same_noted i t h = go (noted x.known i t) refl (noted y.known i t) refl
        where
          go : (a : Bool) → noted x.known i t ≡ a → (b : Bool) → noted y.known i t ≡ b → noted x.known i t ≡ noted y.known i t
          go true e b k = e ∙ sym ((more proper x y Q R up vp f).facts i t h e).0
          go false e true k = ((more proper y x R Q vp up g).facts i t h k).0 ∙ sym k
          go false e false k = e ∙ sym k

      unvalued : (k : Knowledge) → Sound c.sizes k → (i t : ℕ) → i < 32 → t < c.sizes.minutes → noted k i t ≡ false → valued k i t ≡ false
      unvalued k z i t l h e = go (valued k i t) refl
        where
          go : (b : Bool) → valued k i t ≡ b → valued k i t ≡ false
          go true q = absurd (true≢false (sym (z.values i t l h q) ∙ e))
          go false q = q

      same_valued : (i t : ℕ) → i < 32 → t < c.sizes.minutes → valued x.known i t ≡ valued y.known i t
      same_valued i t l h = go (noted x.known i t) refl
        where
          go : (a : Bool) → noted x.known i t ≡ a → valued x.known i t ≡ valued y.known i t
          go true e = sym ((more proper x y Q R up vp f).facts i t h e).1
          go false e = unvalued x.known up.exact.sound i t l h e ∙ sym (unvalued y.known vp.exact.sound i t l h (sym (same_noted i t h) ∙ e))

      same_numbers : x.known.numbers ≡ y.known.numbers
      unfolding number
      same_numbers = ext_get_or none x.known.numbers y.known.numbers (up.sized.sheets.numbers ∙ sym vp.sized.sheets.numbers) at
        where
          at : (i : ℕ) → i < length x.known.numbers → get_or x.known.numbers i none ≡ get_or y.known.numbers i none
          at i h =
              let b : i < c.sizes.components * suc c.sizes.minutes = rw up.sized.sheets.numbers at h in
              let e = grid_at (suc c.sizes.minutes) i in
              ap (λ (j : ℕ). get_or x.known.numbers j none) (sym e)
              ∙ same_number (i / suc c.sizes.minutes) (i % suc c.sizes.minutes) (row_in c.sizes.components (suc c.sizes.minutes) i b (omega arith)) (omega (arith, place_in (suc c.sizes.minutes) i (omega arith)))
              ∙ ap (λ (j : ℕ). get_or y.known.numbers j none) e

      same_even : (t : ℕ) → t < c.sizes.minutes → get_or x.known.facts (2 * t) 0 ≡ get_or y.known.facts (2 * t) 0
      unfolding noted
      same_even t h = bits_same 32 _ _ (up.exact.words (2 * t)) (vp.exact.words (2 * t)) (λ i l. same_noted i t h)

      same_odd : (t : ℕ) → t < c.sizes.minutes → get_or x.known.facts (2 * t + 1) 0 ≡ get_or y.known.facts (2 * t + 1) 0
      unfolding valued
      same_odd t h = bits_same 32 _ _ (up.exact.words (2 * t + 1)) (vp.exact.words (2 * t + 1)) (λ i l. same_valued i t l h)

      same_facts : x.known.facts ≡ y.known.facts
      same_facts = ext_get_or 0 x.known.facts y.known.facts (up.sized.sheets.facts ∙ sym vp.sized.sheets.facts) (λ i h. at i (rw up.sized.sheets.facts at h) (ℕ_discrete (i % 2) 0))
        where
          at : (i : ℕ) → i < 2 * c.sizes.minutes → Dec (i % 2 ≡ 0) → get_or x.known.facts i 0 ≡ get_or y.known.facts i 0
          at i b (yes d) =
              let e : 2 * (i / 2) ≡ i = omega arith in
              subst (λ (j : ℕ). get_or x.known.facts j 0 ≡ get_or y.known.facts j 0) e (same_even (i / 2) (omega arith))
          at i b (no d) =
              let e : 2 * (i / 2) + 1 ≡ i = omega arith in
              subst (λ (j : ℕ). get_or x.known.facts j 0 ≡ get_or y.known.facts j 0) e (same_odd (i / 2) (omega arith))

      pub same_state : x ≡ y
      same_state =
          is_over x Q up
          ∙ ap₂ (λ (a b : List ℕ). over c o (record { numbers = a; facts = b })) same_numbers same_facts
          ∙ sym (is_over y R vp)
