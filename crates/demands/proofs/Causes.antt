-- Each refusal has its own cause. A call is refused as its list of checks says (the law of checks), the policy's checks answer 1 to 4 only, and each
-- check after them one number: so a number's cause is that the checks before its own pass and its own fails.
use Rattle.std.specs.Prelude.{ℕ, ◌≤◌, ◌≡◌, Bool, true, false, ◌↔◌, ◌⊎◌, List, [], ◌∷◌, ◌++◌, Err, Ok}
use Rattle.std.proofs.Common.{arith, sym, ap, subst, ◌∙◌, true≢false}
use Rattle.std.proofs.Math.Path.{refl}
use Rattle.std.proofs.Math.Logic.{inl, inr}
use Rattle.refusal.specs.declared.Refusal.{Refusal}
use Rattle.refusal.specs.declared.Refusal.TheVariants.{TruncatedPolicy, BadHeading, BadSubformula, RuleCount, BufferSize, CorruptKnowledge, TruncatedMessage, BadMessage, Conflict, OtherPolicy}
use Rattle.refusal.specs.Checks.{Checked, reply}
use Rattle.refusal.specs.Numbers.{refusal_number, refusal_place, refusal_of}
use Rattle.refusal.specs.Checks.{Check, check, first_failed, Passed as AllPassed, none, pass, Refuses, here, there}
use Rattle.refusal.proofs.Laws.{refusal_law, passing_law, refused_before, refused_after, passed_both, passed_parts, refused_where, number_law, not_accepted}
use Rattle.policy.specs.Format.{policy_checks, answer_of as policy_answer, policy_of}
use Rattle.policy.specs.Proper.{Causes as PolicyReaderCauses}
use Rattle.policy.proofs.Answered.{policy_refuses}
use Rattle.message.specs.Format.{message_checks, answer_of as message_answer}
use Rattle.message.specs.Fixes.{Fits, WellFormed, meaning_of}
use Rattle.message.specs.Proper.{Causes as MessageReaderCauses}
use Rattle.knowledge.specs.Knowledge.{Sound, sound, admits}
use Rattle.knowledge.specs.Laws.{Limits}
use Rattle.knowledge.proofs.Laws.{sound_law}
use Rattle.knowledge.proofs.Conflict.{admits_law}
use Rattle.origin.specs.Origin.{origin_of, opened_under}
use Rattle.origin.proofs.Origin.{under_law}
use Rattle.monitor.specs.State.{State, Outcome, unless, Sized, sized, opened, opened_as, settled, slip_checks, origin_checks, record_checks, opening_checks, take_checks, open_state, receive, Taken}
use Rattle.monitor.specs.Demands.{sizes_of, SomeTrace, PolicyCauses, PolicyPassed, OpeningCauses, Passed, TakeCauses}
use Rattle.monitor.proofs.Laws.{knowledge_sized, sized_law}
use Rattle.monitor.proofs.Leaves.{unwritten}

-- ---- ways to read the laws

-- from one equivalence to the next
pub via : {A B C : Type 0} → A ↔ B → B ↔ C → A ↔ C
via f g = (λ a. g.0 (f.0 a), λ c. f.1 (g.1 c))

-- the refusal that a number and a place name is one of place 0, or one with that place
pub at_zero_two : {A B C : Type 0} {at : ℕ} {n : ℕ} → A ↔ (B × C) → (A × (n ≡ n) × (0 ≡ at)) ↔ ((at ≡ 0) × B × C)
at_zero_two f = (λ q. let b = f.0 q.0 in (sym q.2, b.0, b.1), λ q. (f.1 (q.1, q.2), refl, sym q.0))

pub at_zero_three : {A B C D : Type 0} {at : ℕ} {n : ℕ} → A ↔ (B × C × D) → (A × (n ≡ n) × (0 ≡ at)) ↔ ((at ≡ 0) × B × C × D)
at_zero_three f = (λ q. let b = f.0 q.0 in (sym q.2, b.0, b.1, b.2), λ q. (f.1 (q.1, q.2, q.3), refl, sym q.0))

pub at_zero_four : {A B C D E : Type 0} {at : ℕ} {n : ℕ} → A ↔ (B × C × D × E) → (A × (n ≡ n) × (0 ≡ at)) ↔ ((at ≡ 0) × B × C × D × E)
at_zero_four f = (λ q. let b = f.0 q.0 in (sym q.2, b.0, b.1, b.2, b.3), λ q. (f.1 (q.1, q.2, q.3, q.4), refl, sym q.0))

pub at_place : {A B : Type 0} {at n : ℕ} → A ↔ B → (A × (n ≡ n) × (at ≡ at)) ↔ B
at_place f = (λ q. f.0 q.0, λ b. (f.1 b, refl, refl))

-- the one check of a list
none_refuses : {q : Refusal} → Refuses [] q → ⊥
none_refuses q = elim q [ ]

first_fails : {cs : List Check} {q : Refusal} → Refuses cs q → (d : Check) → cs ≡ d ∷ [] → d.passed ≡ false
first_fails (here {c = c} {cs = cs} e) d f = let same : c ≡ d = cc in ap (λ (x : Check). x.passed) (sym same) ∙ e
first_fails (there {c = c} {cs = cs} {r = r} e q) d f = let rest : cs ≡ [] = cc in absurd (none_refuses (subst (λ (x : List Check). Refuses x r) rest q))

pub one_fails : (b : Bool) (r : Refusal) → Refuses (check b r ∷ []) r ↔ (b ≡ false)
one_fails b r = (λ q. first_fails q (check b r) refl, here)

-- and the number that it answers
pub one_number : (b : Bool) (r q : Refusal) → Refuses (check b r ∷ []) q → refusal_number q ≡ refusal_number r
one_number b r q (there _ x8) = elim x8 [ ]
one_number b r q (here e) = refl

pub one_passes : (b : Bool) (r : Refusal) → AllPassed (check b r ∷ []) ↔ (b ≡ true)
one_passes b r = (last, λ e. pass e none)
  where
    last : AllPassed (check b r ∷ []) → b ≡ true
    last (pass e none) = e

-- a test that decides a claim fails where the claim does
pub decided : {b : Bool} {P : Type 0} → (b ≡ true) ↔ P → (b ≡ false) ↔ (P → ⊥)
decided {b = true} f = (λ e. absurd (true≢false e), λ n. absurd (n (f.0 refl)))
decided {b = false} f = (λ e p. true≢false (sym (f.1 p)), λ n. refl)

pub back : {A B : Type 0} → A ↔ B → B ↔ A
back f = (f.1, f.0)

pub same : {A : Type 0} → A ↔ A
same = (λ a. a, λ a. a)

pub both_ways : {A B X Y : Type 0} → A ↔ B → X ↔ Y → (A × X) ↔ (B × Y)
both_ways f g = (λ q. (f.0 q.0, g.0 q.1), λ q. (f.1 q.0, g.1 q.1))

-- a call's answer is that of its checks
pub reply_unless : {A : Type 0} (a : Checked) (x : State) (o : Outcome A) → reply o.answer ≡ Ok tt → reply (unless a x o).answer ≡ a
reply_unless (Ok _) x o e = e
reply_unless (Err r) x o e = refl

-- the checks of the slip: 7 to 9
pub slip_number : (s : List ℕ) (x : State) (b : List ℕ) (r : Refusal) → Refuses (slip_checks (policy_of s) x b) r → (7 ≤ refusal_number r) × (refusal_number r ≤ 9)
slip_number s x b r (there p (there q (there u (there _ x21)))) = elim x21 [ ]
slip_number s x b r (here e) = omega arith
slip_number s x b r (there p (here e)) = omega arith
slip_number s x b r (there p (there q (here e))) = omega arith
slip_number s x b r (there p (there q (there u (here e)))) = omega arith

-- ---- the policy's part

module _ (s : List ℕ) (k : PolicyReaderCauses s) where
  pub passed_policy : AllPassed (policy_checks s) ↔ PolicyPassed s
  unfolding policy_answer
  passed_policy = via (back (passing_law (policy_checks s))) k.accepted

  -- in a list that refuses with 1 to 4 just where the policy's checks do
  pub policy_part : (cs : List Check) → ((r : Refusal) → refusal_number r ≤ 4 → Refuses cs r ↔ Refuses (policy_checks s) r) → PolicyCauses s (first_failed cs)
  unfolding policy_answer
  policy_part cs f = record {
    one = λ at. via (number_law cs 1 at) (at_place (via (f (TruncatedPolicy at) (omega arith)) (via (back (refusal_law (policy_checks s) (TruncatedPolicy at))) (k.one at))));
    two = λ at. via (number_law cs 2 at) (at_place (via (f (BadHeading at) (omega arith)) (via (back (refusal_law (policy_checks s) (BadHeading at))) (k.two at))));
    three = λ at. via (number_law cs 3 at) (at_place (via (f (BadSubformula at) (omega arith)) (via (back (refusal_law (policy_checks s) (BadSubformula at))) (k.three at))));
    four = λ at. via (number_law cs 4 at) (at_zero_two (via (f RuleCount (omega arith)) (via (back (refusal_law (policy_checks s) RuleCount)) k.four)));
  }

  -- a refusal with another number comes after them
  pub after_policy : (ys : List Check) (r : Refusal) → (refusal_number r ≤ 4 → ⊥) → Refuses (policy_checks s ++ ys) r ↔ (PolicyPassed s × Refuses ys r)
  after_policy ys r n = via (refused_after (policy_checks s) ys r (λ q. n (policy_refuses s r q).1)) (both_ways passed_policy same)

  module _ (x : State) where
    abbrev fits : Bool
    fits = sized (policy_of s) x

    passed_sizes : AllPassed (opening_checks s x) ↔ (PolicyPassed s × Sized (policy_of s) x)
    passed_sizes =
        via (passed_parts (policy_checks s) (check fits BufferSize ∷ []), λ q. passed_both (policy_checks s) (check fits BufferSize ∷ []) q.0 q.1)
        (both_ways passed_policy (via (one_passes fits BufferSize) (sized_law (policy_of s) x)))

    -- the checks of the sizes: 1 to 5
    sizes_number : (r : Refusal) → Refuses (opening_checks s x) r → (1 ≤ refusal_number r) × (refusal_number r ≤ 5)
    sizes_number r q = go (refused_where (policy_checks s) (check fits BufferSize ∷ []) r q)
      where
        go : Refuses (policy_checks s) r ⊎ (AllPassed (policy_checks s) × Refuses (check fits BufferSize ∷ []) r) → (1 ≤ refusal_number r) × (refusal_number r ≤ 5)
        go (inl h) = omega (arith, policy_refuses s r h)
        go (inr h) = omega (arith, one_number fits BufferSize r h.1)

    sizes_policy : (r : Refusal) → refusal_number r ≤ 4 → Refuses (opening_checks s x) r ↔ Refuses (policy_checks s) r
    sizes_policy r l = refused_before (policy_checks s) (check fits BufferSize ∷ []) r (λ q. omega (arith, one_number fits BufferSize r q))

    misfit : Refuses (opening_checks s x) BufferSize ↔ (PolicyPassed s × (Sized (policy_of s) x → ⊥))
    misfit = via (after_policy (check fits BufferSize ∷ []) BufferSize (omega arith)) (both_ways same (via (one_fails fits BufferSize) (decided (sized_law (policy_of s) x))))

    -- ---- an opening

    abbrev done_state : Outcome (Unit {0})
    done_state = opened_as (opened (policy_of s) (origin_of s))

    done_law : (a : Checked) → ((unless a x done_state).answer ≡ Ok tt) ↔ (a ≡ Ok tt)
    done_law (Ok _) = (λ e. refl, λ e. refl)
    done_law (Err r) = (λ e. ap reply e, λ e. absurd (not_accepted r e))

    pub opening_causes : OpeningCauses s x (open_state s x)
    unfolding open_state
    opening_causes =
        let cs = opening_checks s x in
        let e = reply_unless (first_failed cs) x done_state refl in
        record {
          policy = rw e (policy_part cs sizes_policy);
          five = λ at. rw e (via (number_law cs 5 at) (at_zero_two misfit));
          no_other = λ n at. rw e (λ w. in_range n at ((number_law cs n at).0 w));
          done = via (done_law (first_failed cs)) (via (passing_law cs) passed_sizes);
          unwritten = unwritten (first_failed cs) x done_state refl;
        }
      where
        in_range : (n at : ℕ) → Refuses (opening_checks s x) (refusal_of n at) × (refusal_number (refusal_of n at) ≡ n) × (refusal_place (refusal_of n at) ≡ at) → (1 ≤ n) × (n ≤ 5)
        in_range n at q = omega (arith, sizes_number (refusal_of n at) q.0, q.1)

    -- ---- the record's checks

    abbrev under : Bool
    under = opened_under s x.origin

    abbrev clean : Bool
    clean = sound (sizes_of s) x.known

    abbrev firsts : List Check
    firsts = record_checks s x

    -- 1 to 5, and then 12
    pub record LetPast : Type 0 where
      pub policy : PolicyPassed s
      pub sized : Sized (policy_of s) x
      pub origin : x.origin ≡ origin_of s

    pub passed_origin : AllPassed (origin_checks s x) ↔ LetPast
    passed_origin =
        via (passed_parts (opening_checks s x) (check under OtherPolicy ∷ []), λ q. passed_both (opening_checks s x) (check under OtherPolicy ∷ []) q.0 q.1)
        (via (both_ways passed_sizes (via (one_passes under OtherPolicy) (under_law s x.origin)))
        (λ q. record { policy = q.0.0; sized = q.0.1; origin = q.1 }, λ q. ((q.policy, q.sized), q.origin)))

    pub origin_number : (r : Refusal) → Refuses (origin_checks s x) r → ((1 ≤ refusal_number r) × (refusal_number r ≤ 5)) ⊎ (refusal_number r ≡ 12)
    origin_number r q = go (refused_where (opening_checks s x) (check under OtherPolicy ∷ []) r q)
      where
        go : Refuses (opening_checks s x) r ⊎ (AllPassed (opening_checks s x) × Refuses (check under OtherPolicy ∷ []) r) → ((1 ≤ refusal_number r) × (refusal_number r ≤ 5)) ⊎ (refusal_number r ≡ 12)
        go (inl h) = inl (sizes_number r h)
        go (inr h) = inr (one_number under OtherPolicy r h.1)

    other : Refuses (origin_checks s x) OtherPolicy ↔ ((PolicyPassed s × Sized (policy_of s) x) × (x.origin ≡ origin_of s → ⊥))
    other =
        via (refused_after (opening_checks s x) (check under OtherPolicy ∷ []) OtherPolicy (λ q. omega (arith, sizes_number OtherPolicy q)))
        (both_ways passed_sizes (via (one_fails under OtherPolicy) (decided (under_law s x.origin))))

    -- and then 6
    pub passed_record : AllPassed firsts ↔ Passed s x
    passed_record =
        via (passed_parts (origin_checks s x) (check clean CorruptKnowledge ∷ []), λ q. passed_both (origin_checks s x) (check clean CorruptKnowledge ∷ []) q.0 q.1)
        (via (both_ways passed_origin (via (one_passes clean CorruptKnowledge) (sound_law (sizes_of s) x.known)))
        (λ q. record { policy = q.0.policy; sized = q.0.sized; origin = q.0.origin; sound = q.1 }, λ q. (record { policy = q.policy; sized = q.sized; origin = q.origin }, q.sound)))

    pub record_number : (r : Refusal) → Refuses firsts r → ((1 ≤ refusal_number r) × (refusal_number r ≤ 6)) ⊎ (refusal_number r ≡ 12)
    record_number r q = go (refused_where (origin_checks s x) (check clean CorruptKnowledge ∷ []) r q)
      where
        early : ((1 ≤ refusal_number r) × (refusal_number r ≤ 5)) ⊎ (refusal_number r ≡ 12) → ((1 ≤ refusal_number r) × (refusal_number r ≤ 6)) ⊎ (refusal_number r ≡ 12)
        early (inl h) = inl (omega (arith, h))
        early (inr h) = inr h

        go : Refuses (origin_checks s x) r ⊎ (AllPassed (origin_checks s x) × Refuses (check clean CorruptKnowledge ∷ []) r) → ((1 ≤ refusal_number r) × (refusal_number r ≤ 6)) ⊎ (refusal_number r ≡ 12)
        go (inl h) = early (origin_number r h)
        go (inr h) = inl (omega (arith, one_number clean CorruptKnowledge r h.1))

    -- what 5 or an earlier check answers, and what 12 answers, is answered where 6 is not reached
    record_sizes : (r : Refusal) → refusal_number r ≤ 5 → Refuses firsts r ↔ Refuses (opening_checks s x) r
    record_sizes r l =
        via (refused_before (origin_checks s x) (check clean CorruptKnowledge ∷ []) r (λ q. omega (arith, one_number clean CorruptKnowledge r q)))
        (refused_before (opening_checks s x) (check under OtherPolicy ∷ []) r (λ q. omega (arith, one_number under OtherPolicy r q)))

    record_other : Refuses firsts OtherPolicy ↔ Refuses (origin_checks s x) OtherPolicy
    record_other = refused_before (origin_checks s x) (check clean CorruptKnowledge ∷ []) OtherPolicy (λ q. omega (arith, one_number clean CorruptKnowledge OtherPolicy q))

    corrupt : Refuses firsts CorruptKnowledge ↔ (LetPast × (Sound (sizes_of s) x.known → ⊥))
    corrupt =
        via (refused_after (origin_checks s x) (check clean CorruptKnowledge ∷ []) CorruptKnowledge (λ q. not_there (origin_number CorruptKnowledge q)))
        (both_ways passed_origin (via (one_fails clean CorruptKnowledge) (decided (sound_law (sizes_of s) x.known))))
      where
        not_there : ((1 ≤ 6) × (6 ≤ 5)) ⊎ (◌≡◌ {A = ℕ} 6 12) → ⊥
        not_there (inl h) = omega (arith, h)
        not_there (inr h) = omega (arith, h)

    -- ---- a take

    module _ (b : List ℕ) (km : MessageReaderCauses (sizes_of s) b) (limits : policy_answer s ≡ Ok tt → Limits (sizes_of s))
        (ranged : policy_answer s ≡ Ok tt → WellFormed (sizes_of s) b → Fits (sizes_of s) (meaning_of b)) where
      abbrev free : Bool
      free = admits (sizes_of s) x.known (meaning_of b)

      abbrev slip : List Check
      slip = slip_checks (policy_of s) x b

      message_number : (r : Refusal) → Refuses (message_checks (sizes_of s) b) r → refusal_number r ≤ 8
      message_number r (there p (there q (there _ x17))) = elim x17 [ ]
      message_number r (here e) = omega arith
      message_number r (there p (here e)) = omega arith
      message_number r (there p (there q (here e))) = omega arith

      early : (r : Refusal) → (refusal_number r ≤ 6) ⊎ (refusal_number r ≡ 12) → Refuses (take_checks s x b) r ↔ Refuses firsts r
      early r l = refused_before firsts slip r (λ q. not_there l (slip_number s x b r q))
        where
          not_there : (refusal_number r ≤ 6) ⊎ (refusal_number r ≡ 12) → (7 ≤ refusal_number r) × (refusal_number r ≤ 9) → ⊥
          not_there (inl h) q = omega (arith, h, q)
          not_there (inr h) q = omega (arith, h, q)

      late : (r : Refusal) → (7 ≤ refusal_number r) × (refusal_number r ≤ 9) → Refuses (take_checks s x b) r ↔ (Passed s x × Refuses slip r)
      late r n = via (refused_after firsts slip r (λ q. not_there (record_number r q))) (both_ways passed_record same)
        where
          not_there : ((1 ≤ refusal_number r) × (refusal_number r ≤ 6)) ⊎ (refusal_number r ≡ 12) → ⊥
          not_there (inl h) = omega (arith, h, n)
          not_there (inr h) = omega (arith, h, n)

      -- the message's own checks
      in_message : (r : Refusal) → refusal_number r ≤ 8 → Refuses slip r ↔ (message_answer (sizes_of s) b ≡ Err r)
      unfolding message_answer
      in_message r l =
          via (refused_before (message_checks (sizes_of s) b) (check free Conflict ∷ []) r (λ q. omega (arith, one_number free Conflict r q)))
          (back (refusal_law (message_checks (sizes_of s) b) r))

      well_formed : AllPassed (message_checks (sizes_of s) b) ↔ WellFormed (sizes_of s) b
      unfolding message_answer
      well_formed = back (passing_law (message_checks (sizes_of s) b))

      -- 9 decides whether some trace agrees
      agreed : Passed s x → WellFormed (sizes_of s) b → (free ≡ true) ↔ SomeTrace (sizes_of s) x.known (meaning_of b)
      agreed p w =
          let e = k.accepted.1 p.policy in
          admits_law (sizes_of s) (limits e) x.known (meaning_of b) (knowledge_sized (policy_of s) p.sized.sheets) (ranged e w) p.sound

      conflict : (Passed s x × Refuses slip Conflict) ↔ (Passed s x × WellFormed (sizes_of s) b × (SomeTrace (sizes_of s) x.known (meaning_of b) → ⊥))
      conflict = (there_is, back_to)
        where
          law : Refuses slip Conflict ↔ (WellFormed (sizes_of s) b × (free ≡ false))
          law =
              via (refused_after (message_checks (sizes_of s) b) (check free Conflict ∷ []) Conflict (λ q. omega (arith, message_number Conflict q)))
              (both_ways well_formed (one_fails free Conflict))

          there_is : Passed s x × Refuses slip Conflict → Passed s x × WellFormed (sizes_of s) b × (SomeTrace (sizes_of s) x.known (meaning_of b) → ⊥)
          there_is q = let r = law.0 q.1 in (q.0, r.0, (decided (agreed q.0 r.0)).0 r.1)

          back_to : Passed s x × WellFormed (sizes_of s) b × (SomeTrace (sizes_of s) x.known (meaning_of b) → ⊥) → Passed s x × Refuses slip Conflict
          back_to q = (q.0, law.1 (q.1, (decided (agreed q.0 q.1)).1 q.2))

      taken_law : (a : Checked) → Taken (unless a x (settled (policy_of s) x (meaning_of b))).answer ↔ (a ≡ Ok tt)
      taken_law (Ok _) = (λ u. refl, λ e. tt)
      taken_law (Err r) = (λ u. absurd u, λ e. absurd (not_accepted r e))

      passed_all : AllPassed (take_checks s x b) ↔ (Passed s x × WellFormed (sizes_of s) b × SomeTrace (sizes_of s) x.known (meaning_of b))
      passed_all = (there_is, back_to)
        where
          law : AllPassed (take_checks s x b) ↔ (Passed s x × (WellFormed (sizes_of s) b × (free ≡ true)))
          law =
              via (passed_parts firsts slip, λ q. passed_both firsts slip q.0 q.1)
              (both_ways passed_record
              (via (passed_parts (message_checks (sizes_of s) b) (check free Conflict ∷ []), λ q. passed_both (message_checks (sizes_of s) b) (check free Conflict ∷ []) q.0 q.1)
              (both_ways well_formed (one_passes free Conflict))))

          there_is : AllPassed (take_checks s x b) → Passed s x × WellFormed (sizes_of s) b × SomeTrace (sizes_of s) x.known (meaning_of b)
          there_is q = let r = law.0 q in (r.0, r.1.0, (agreed r.0 r.1.0).0 r.1.1)

          back_to : Passed s x × WellFormed (sizes_of s) b × SomeTrace (sizes_of s) x.known (meaning_of b) → AllPassed (take_checks s x b)
          back_to q = law.1 (q.0, (q.1, (agreed q.0 q.1).1 q.2))

      pub take_causes : TakeCauses s x b (receive s x b)
      unfolding receive
      take_causes =
          let cs = take_checks s x b in
          let e = reply_unless (first_failed cs) x (settled (policy_of s) x (meaning_of b)) refl in
          record {
            policy = rw e (policy_part cs (λ r l. via (early r (inl (omega arith))) (via (record_sizes r (omega arith)) (sizes_policy r l))));
            five = λ at. rw e (via (number_law cs 5 at) (at_zero_two (via (early BufferSize (inl (omega arith))) (via (record_sizes BufferSize (omega arith)) misfit))));
            twelve = λ at. rw e (via (number_law cs 12 at) (at_zero_three (via (early OtherPolicy (inr refl)) (via record_other (via other (λ q. (q.0.0, q.0.1, q.1), λ q. ((q.0, q.1), q.2)))))));
            six = λ at. rw e (via (number_law cs 6 at) (at_zero_four (via (early CorruptKnowledge (inl (omega arith))) (via corrupt (
              λ q. (q.0.policy, q.0.sized, q.0.origin, q.1),
              λ q. (record { policy = q.0; sized = q.1; origin = q.2 }, q.3),
            )))));
            seven = λ at. rw e (via (number_law cs 7 at) (at_place (via (late (TruncatedMessage at) (omega arith)) (both_ways same (via (in_message (TruncatedMessage at) (omega arith)) (km.seven at))))));
            eight = λ at. rw e (via (number_law cs 8 at) (at_zero_three (via (late BadMessage (omega arith)) (via (both_ways same (via (in_message BadMessage (omega arith)) km.eight)) (λ q. (q.0, q.1.0, q.1.1), λ q. (q.0, (q.1, q.2)))))));
            nine = λ at. rw e (via (number_law cs 9 at) (at_zero_three (via (late Conflict (omega arith)) conflict)));
            no_other = λ n at. rw e (λ w. in_range n at ((number_law cs n at).0 w));
            taken = via (taken_law (first_failed cs)) (via (passing_law cs) passed_all);
            unwritten = unwritten (first_failed cs) x (settled (policy_of s) x (meaning_of b)) refl;
          }
        where
          wider : {n : ℕ} → ((1 ≤ n) × (n ≤ 6)) ⊎ (n ≡ 12) → ((1 ≤ n) × (n ≤ 9)) ⊎ (n ≡ 12)
          wider (inl h) = inl (omega (arith, h))
          wider (inr h) = inr h

          either : (r : Refusal) → Refuses firsts r ⊎ (AllPassed firsts × Refuses slip r) → ((1 ≤ refusal_number r) × (refusal_number r ≤ 9)) ⊎ (refusal_number r ≡ 12)
          either r (inl h) = wider (record_number r h)
          either r (inr h) = inl (omega (arith, slip_number s x b r h.1))

          in_range : (n at : ℕ) → Refuses (take_checks s x b) (refusal_of n at) × (refusal_number (refusal_of n at) ≡ n) × (refusal_place (refusal_of n at) ≡ at) → ((1 ≤ n) × (n ≤ 9)) ⊎ (n ≡ 12)
          in_range n at q = subst (λ (m : ℕ). ((1 ≤ m) × (m ≤ 9)) ⊎ (m ≡ 12)) q.1 (either (refusal_of n at) (refused_where firsts slip (refusal_of n at) q.0))
