-- What the calls' own proofs need of the state: its sizes as a test, the sheets' lengths, and the fresh record, which is sound and tells nothing.
use Prim.Native.Nat.{ℕ, zero, suc, ◌+◌, ◌*◌, ◌/◌, ◌%◌, ◌≤◌, ◌<◌}
use Rattle.std.proofs.Common.{arith, ◌∙◌, true≢false, eqb-true, eq-eqb, ne_eqb}
use Rattle.std.proofs.Math.Decide.{dec_lt}
use Rattle.std.proofs.Math.Path.{◌≡◌, sym, ap}
use Rattle.std.specs.Prelude.{refl, Bool, true, false, ◌↔◌, List, replicate, eqb, Ok}
use Rattle.std.proofs.Math.Bool.{cond}
use Rattle.std.proofs.Math.ListN.{get_or, length, length-replicate, get_or-replicate, get_or-eq_default}
use Rattle.std.proofs.Math.Seq.{ext_get_or}
use Rattle.kleene.specs.Truth.{code_of}
use Rattle.bits.specs.Bits.{bit}
use Rattle.bits.proofs.Bits.{bit_of_zero}
use Rattle.logic.proofs.Bools.{both, pair}
use Rattle.rows.specs.Grid.{table}
use Rattle.rows.proofs.Grid.{table_length, table_at, place_of, in_grid}
use Rattle.refusal.specs.Checks.{Checked}
use Rattle.refusal.specs.Checks.{first_failed, and_then, pass, none as none_left}
use Rattle.refusal.proofs.Laws.{passing_law, in_order, passed_both}
use Rattle.policy.specs.declared.Policy.{Policy}
use Rattle.policy.specs.Format.{policy_checks, answer_of, policy_of}
use Rattle.message.specs.Fixes.{meaning_of}
use Rattle.policy.specs.Proper.{rules_of}
use Rattle.knowledge.specs.Knowledge.{Knowledge, none, noted, valued, number, Sound, is_point, fresh, Sized as Long}
use Rattle.knowledge.proofs.Laws.{point_law, sound_law}
use Rattle.valuation.specs.Sheets.{value, verdict, valuation_of, verdicts_of}
use Rattle.origin.specs.Origin.{Origin, origin_of}
use Rattle.origin.proofs.Origin.{under_law}
use Rattle.monitor.specs.State.{State, unless, SizedSheets, Sized, sizes_fit, sized, over, settled, slip_checks, take_message, record_checks, origin_checks, opening_checks, receive}

pub sized_law : (p : Policy) (x : State) → (sized p x ≡ true) ↔ Sized p x
unfolding sizes_fit
sized_law p x = (there, back)
  where
    there : sized p x ≡ true → Sized p x
    there e =
        let f = both _ _ e in
        let g = both _ _ f.1 in
        let h = both _ _ g.1 in
        let k = both _ _ h.1 in
        record {
          sheets = record { numbers = eqb-true _ _ f.0; facts = eqb-true _ _ g.0; valuation = eqb-true _ _ h.0; verdicts = eqb-true _ _ k.0 };
          origin = eqb-true _ _ k.1;
        }

    back : Sized p x → sized p x ≡ true
    back z =
        let w = z.sheets in
        pair (eq-eqb _ _ w.numbers) (pair (eq-eqb _ _ w.facts) (pair (eq-eqb _ _ w.valuation) (pair (eq-eqb _ _ w.verdicts) (eq-eqb _ _ z.origin))))

module _ (c : Policy) where
  pub knowledge_sized : {k : Knowledge} {v d : List ℕ} → SizedSheets c k v d → Long c.sizes k
  knowledge_sized z = record { numbers = z.numbers; facts = z.facts }

  pub sheet_lengths : (k : Knowledge) → (length (valuation_of c k) ≡ c.count * c.sizes.minutes) × (length (verdicts_of c k) ≡ c.rules * c.sizes.minutes)
  unfolding valuation_of verdicts_of
  sheet_lengths k = (table_length (c.count * c.sizes.minutes) _, table_length (c.rules * c.sizes.minutes) _)

  -- ---- the fresh record

  pub fresh_number : (s p : ℕ) → s < c.sizes.components → p ≤ c.sizes.minutes → number c.sizes (fresh c.sizes) s p ≡ cond (eqb p 0) 0 none
  unfolding fresh number
  fresh_number s p l h =
      table_at (c.sizes.components * suc c.sizes.minutes) _ (s * suc c.sizes.minutes + p) none (in_grid c.sizes.components (suc c.sizes.minutes) s p l (omega arith))
      ∙ ap (λ (x : ℕ). cond (eqb x 0) 0 none) (place_of (suc c.sizes.minutes) s p (omega arith))

  pub fresh_known : (s p n : ℕ) → s < c.sizes.components → p ≤ c.sizes.minutes → n < none → number c.sizes (fresh c.sizes) s p ≡ n → (p ≡ 0) × (n ≡ 0)
  fresh_known s zero n l h b e = (refl, sym e ∙ fresh_number s 0 l h)
  fresh_known s (suc p) n l h b e = absurd (omega (arith, sym e ∙ fresh_number s (suc p) l h ∙ ap (λ (x : Bool). cond x 0 none) (ne_eqb (suc p) 0 (omega arith))))

  pub fresh_first : (s : ℕ) → s < c.sizes.components → number c.sizes (fresh c.sizes) s 0 ≡ 0
  fresh_first s l = fresh_number s 0 l (omega arith)

  pub fresh_facts : (i : ℕ) → get_or (fresh c.sizes).facts i 0 ≡ 0
  unfolding fresh
  fresh_facts i = go (dec_lt i (2 * c.sizes.minutes))
    where
      go : Dec (i < 2 * c.sizes.minutes) → ◌≡◌ {A = ℕ} (get_or (replicate (2 * c.sizes.minutes) 0) i 0) 0
      go (yes h) = get_or-replicate (2 * c.sizes.minutes) i 0 0 h
      go (no n) = get_or-eq_default (replicate (2 * c.sizes.minutes) 0) 0 (omega (arith, length-replicate {A = ℕ} (2 * c.sizes.minutes) 0))

  pub fresh_noted : (i t : ℕ) → noted (fresh c.sizes) i t ≡ false
  unfolding noted
  fresh_noted i t = ap (λ (x : ℕ). bit x i) (fresh_facts (2 * t)) ∙ bit_of_zero i

  pub fresh_valued : (i t : ℕ) → valued (fresh c.sizes) i t ≡ false
  unfolding valued
  fresh_valued i t = ap (λ (x : ℕ). bit x i) (fresh_facts (2 * t + 1)) ∙ bit_of_zero i

  pub fresh_sound : Sound c.sizes (fresh c.sizes)
  fresh_sound = record {
    runs = λ s l. record {
      first = fresh_first s l;
      pairs = λ b k a h x y. absurd (omega (arith, fresh_known s b (number c.sizes (fresh c.sizes) s b) l (omega arith) y refl));
    };
    values = λ i t l h e. absurd (true≢false (sym e ∙ fresh_valued i t));
    propositions = λ i t l h e. absurd (true≢false (sym e ∙ fresh_noted i t));
  }

  -- no minute of the fresh record is known busy: no number after the first is known
  fresh_open : (t : ℕ) → is_point c.sizes (fresh c.sizes) t ≡ false
  fresh_open t = go (is_point c.sizes (fresh c.sizes) t) refl
    where
      go : (b : Bool) → is_point c.sizes (fresh c.sizes) t ≡ b → is_point c.sizes (fresh c.sizes) t ≡ false
      go false e = e
      go true e =
          let k = (point_law c.sizes (fresh c.sizes) t).0 e in
          let v = k.full_run in
          absurd (omega (arith, v.late_after, fresh_known k.component v.late (number c.sizes (fresh c.sizes) k.component v.late) k.is_component v.late_in v.late_known refl))

  fresh_verdict : (r t : ℕ) → verdict c (fresh c.sizes) r t ≡ 0
  fresh_verdict r t = ap (λ (x : Bool). cond x (code_of (value c (fresh c.sizes) (get_or (rules_of c) r 0) t)) 0) (fresh_open t)

  pub blank_sheet : replicate (c.rules * c.sizes.minutes) 0 ≡ verdicts_of c (fresh c.sizes)
  unfolding verdicts_of
  blank_sheet = ext_get_or 0 _ _ (length-replicate {A = ℕ} (c.rules * c.sizes.minutes) 0 ∙ sym (table_length (c.rules * c.sizes.minutes) _)) at
    where
      at : (i : ℕ) → i < length (replicate {A = ℕ} (c.rules * c.sizes.minutes) 0)
          → get_or (replicate (c.rules * c.sizes.minutes) 0) i 0 ≡ get_or (table (c.rules * c.sizes.minutes) (λ i. verdict c (fresh c.sizes) (i / c.sizes.minutes) (i % c.sizes.minutes))) i 0
      at i h =
          let l : i < c.rules * c.sizes.minutes = rw (length-replicate {A = ℕ} (c.rules * c.sizes.minutes) 0) at h in
          get_or-replicate (c.rules * c.sizes.minutes) i 0 0 l
          ∙ sym (table_at (c.rules * c.sizes.minutes) (λ i. verdict c (fresh c.sizes) (i / c.sizes.minutes) (i % c.sizes.minutes)) i 0 l
          ∙ fresh_verdict (i / c.sizes.minutes) (i % c.sizes.minutes))

  pub lengths : (length (fresh c.sizes).numbers ≡ c.sizes.components * suc c.sizes.minutes) × (length (fresh c.sizes).facts ≡ 2 * c.sizes.minutes) × (length (valuation_of c (fresh c.sizes)) ≡ c.count * c.sizes.minutes)
  unfolding fresh valuation_of
  lengths = (table_length (c.sizes.components * suc c.sizes.minutes) _, length-replicate {A = ℕ} (2 * c.sizes.minutes) 0, table_length (c.count * c.sizes.minutes) _)

-- ---- a take whose first checks pass

module _ (s : List ℕ) (x : State) (card : answer_of s ≡ Ok tt) (z : Sized (policy_of s) x) (o : x.origin ≡ origin_of s)
    (k : Sound (policy_of s).sizes x.known) where
  -- 1 to 5, and 12
  pub origin_pass : first_failed (origin_checks s x) ≡ Ok tt
  unfolding answer_of
  origin_pass =
      (passing_law (origin_checks s x)).1
      (passed_both (opening_checks s x) _ (passed_both (policy_checks s) _ ((passing_law (policy_checks s)).0 card)
      (pass ((sized_law (policy_of s) x).1 z) none_left)) (pass ((under_law s x.origin).1 o) none_left))

  pub first_pass : first_failed (record_checks s x) ≡ Ok tt
  first_pass =
      (passing_law (record_checks s x)).1
      (passed_both (origin_checks s x) _ ((passing_law (origin_checks s x)).0 origin_pass) (pass ((sound_law (policy_of s).sizes x.known).1 k) none_left))

  -- it is that of its message
  pub plain_take : (b : List ℕ) → receive s x b ≡ take_message (policy_of s) x b
  unfolding receive
  plain_take b =
      ap (λ (c : Checked). unless c x (settled (policy_of s) x (meaning_of b)))
      (in_order (record_checks s x) (slip_checks (policy_of s) x b)
      ∙ ap (λ (a : Checked). and_then a (first_failed (slip_checks (policy_of s) x b))) first_pass)

-- the state over knowledge of its sizes is of its sizes too
pub over_sized : (p : Policy) (o : Origin) (k : Knowledge) → length o.bytes ≡ 517 → Long p.sizes k → Sized p (over p o k)
over_sized p o k e l = record {
  sheets = record { numbers = l.numbers; facts = l.facts; valuation = (sheet_lengths p k).0; verdicts = (sheet_lengths p k).1 };
  origin = e;
}
