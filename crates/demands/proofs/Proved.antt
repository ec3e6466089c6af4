-- The demands, proved: each is one inhabitant of its type in Demands.
use Rattle.std.specs.Prelude.{ℕ, ◌+◌, ◌*◌, ◌≤◌, ◌<◌, ◌≡◌, Bool, cond, ◌⊎◌, ◌↔◌, ◌≢◌, List, [], ◌∷◌, ◌++◌, length, Err, Ok}
use Rattle.std.proofs.Common.{arith, sym, ap, ◌∙◌, inl, inr, ne_eqb}
use Rattle.std.proofs.Math.Path.{refl}
use Rattle.std.proofs.Math.Bool.{true}
use Rattle.logic.proofs.Bools.{both}
use Rattle.rows.proofs.Laws.{zeros}
use Rattle.refusal.specs.declared.Refusal.{Refusal}
use Rattle.refusal.specs.declared.Refusal.TheVariants.{Conflict}
use Rattle.refusal.specs.Checks.{Checked, reply}
use Rattle.refusal.proofs.Table.{table}
use Rattle.refusal.specs.Checks.{check, first_failed, Passed as AllPassed, none as no_more, pass}
use Rattle.refusal.proofs.Laws.{passing_law, passed_parts, not_accepted, same_refusal, the_refusal}
use Rattle.policy.specs.declared.Policy.{Policy}
use Rattle.policy.specs.Format.{policy_checks, answer_of as policy_answer, policy_of}
use Rattle.policy.specs.Proper.{Proper}
use Rattle.policy.proofs.Laws.{accepted as policy_proper, short}
use Rattle.policy.proofs.Answered.{causes as policy_causes}
use Rattle.message.specs.Format.{message_checks}
use Rattle.message.specs.Fixes.{FixesNumber, FixesFact, Fits, WellFormed, meaning_of}
use Rattle.message.specs.declared.Message.{Message}
use Rattle.message.proofs.Laws.{fits, causes as message_causes}
use Rattle.knowledge.specs.Trace.{Trace, Admits, AdmitsAll}
use Rattle.knowledge.specs.Knowledge.{Sized as Long, Knowledge, none, noted, valued, number, sound, fresh, stored, free, admits}
use Rattle.knowledge.specs.Laws.{Limits}
use Rattle.knowledge.proofs.Laws.{Free, free_law}
use Rattle.knowledge.specs.Store.{Fact}
use Rattle.knowledge.proofs.Store.{number_hit, number_either, fact_hit, fact_cases}
use Rattle.knowledge.proofs.Witness.{agreed}
use Rattle.valuation.specs.Sheets.{verdicts_of, standing}
use Rattle.monitor.specs.State.{Received}
use Rattle.origin.specs.Origin.{origin_of}
use Rattle.origin.proofs.Origin.{origin_long, holds_law}
use Rattle.monitor.specs.State.{State, Outcome, unless, opened, opened_as, over, settled, slip_checks, record_checks, opening_checks, take_checks, open_state, receive, Call, run_calls, after, Taken, accepted_from, accepted, Offered}
use Rattle.monitor.specs.Demands.{sizes_of, shown, SomeTrace, Plain, Passed, Demand1, Opened, Gains, Demand2, Sends, Same, Demand3}
use Rattle.monitor.proofs.Laws.{knowledge_sized, fresh_number, fresh_first, fresh_facts}
use Rattle.monitor.proofs.Leaves.{kept_origin}
use Rattle.demands.proofs.Invariant.{KeptUp, opened_up}
use Rattle.demands.proofs.Keeping.{sheets_over, is_over, same_state}
use Rattle.demands.proofs.Runs.{accept_law, from_open, start, stand, truth, all_up, all_taken}
use Rattle.demands.proofs.Causes.{opening_causes, take_causes}
use Rattle.demands.proofs.Looks.{look_causes}
use Rattle.demands.specs.Opened.{OpenedState}

-- ---- what an accepted card gives

limits : (s : List ℕ) → policy_answer s ≡ Ok tt → Limits (sizes_of s)
limits s e = let p = policy_proper s e in record { propositions_most = p.propositions.high; minutes_most = p.minutes.high }

pub ranged : (s : List ℕ) → policy_answer s ≡ Ok tt → (b : List ℕ) → WellFormed (sizes_of s) b → Fits (sizes_of s) (meaning_of b)
ranged s e b w = fits (sizes_of s) (policy_proper s e).propositions.high b w

-- ---- demand 1

pub demand_1 : Demand1
demand_1 = record {
  table = table;
  opening = λ s x. opening_causes s (policy_causes s) x;
  take = λ s x b. take_causes s (policy_causes s) x b (message_causes (sizes_of s) b) (limits s) (λ e. ranged s e b);
  look = λ s v r t. look_causes s v r t (policy_causes s);
}

-- ---- an opening

pub opens : (s : List ℕ) (x : State) → (open_state s x).answer ≡ Ok tt → OpenedState s (open_state s x)
unfolding open_state policy_answer
opens s x d = go (first_failed (opening_checks s x)) refl d
  where
    go : (a : Checked) → first_failed (opening_checks s x) ≡ a → (unless a x (opened_as (opened (policy_of s) (origin_of s)))).answer ≡ Ok tt
        → OpenedState s (unless a x (opened_as (opened (policy_of s) (origin_of s))))
    go (Ok _) e f = record {
      card = (passing_law (policy_checks s)).1 (passed_parts (policy_checks s) _ ((passing_law (opening_checks s x)).0 e)).0;
      state = refl;
    }
    go (Err r) e f = absurd (not_accepted r (ap reply f))

fresh_state : (s : List ℕ) (p : Policy) → length s ≤ 517 → Opened s p (opened p (origin_of s))
unfolding opened
fresh_state s p h = record {
  sized = (opened_up p (origin_of s) (origin_long s h)).sized;
  first_number = fresh_first p;
  other_number = λ c q l h k. fresh_number p c q l k ∙ ap (λ (x : Bool). cond x 0 none) (ne_eqb q 0 (omega arith));
  no_fact = fresh_facts p;
  blank = λ r t. zeros (p.rules * p.sizes.minutes) (r * p.sizes.minutes + t);
  valuation = (sheets_over p (origin_of s) (fresh p.sizes)).valuation;
  origin = refl;
  holds = (holds_law s h (origin_of s)).1 refl;
}

opened_law : (s : List ℕ) (x : State) → (open_state s x).answer ≡ Ok tt → Opened s (policy_of s) (open_state s x).state
opened_law s x d = rw (opens s x d).state (fresh_state s (policy_of s) (short s (opens s x d).card))

-- ---- demand 2

-- a take that is accepted leaves the state over the stored knowledge
module _ (s : List ℕ) (x : State) (b : List ℕ) where
  abbrev next : Knowledge
  next = stored (sizes_of s) x.known (meaning_of b)

  pub record Left (o : Outcome ℕ) : Type 0 where
    pub state : o.state ≡ over (policy_of s) x.origin next
    pub answer : o.answer ≡ Ok (standing (verdicts_of (policy_of s) next))
    pub tested : admits (sizes_of s) x.known (meaning_of b) ≡ true

  pub left : Taken (receive s x b).answer → Left (receive s x b)
  unfolding receive
  left = go (first_failed (take_checks s x b)) refl
    where
      tested : AllPassed (slip_checks (policy_of s) x b) → admits (sizes_of s) x.known (meaning_of b) ≡ true
      tested q = last (passed_parts (message_checks (sizes_of s) b) _ q).1
        where
          last : AllPassed (check (admits (sizes_of s) x.known (meaning_of b)) Conflict ∷ []) → admits (sizes_of s) x.known (meaning_of b) ≡ true
          last (pass e no_more) = e

      go : (a : Checked) → first_failed (take_checks s x b) ≡ a → Taken (unless a x (settled (policy_of s) x (meaning_of b))).answer → Left (unless a x (settled (policy_of s) x (meaning_of b)))
      go (Err r) e t = absurd t
      go (Ok _) e t = record {
        state = refl;
        answer = refl;
        tested = tested (passed_parts (record_checks s x) _ ((passing_law (take_checks s x b)).0 e)).1;
      }

  gained : Passed s x → WellFormed (sizes_of s) b → admits (sizes_of s) x.known (meaning_of b) ≡ true → Gains (sizes_of s) x.known next (meaning_of b)
  unfolding admits
  gained ok w e = record {
    number_fixed = number_hit (sizes_of s) x.known (meaning_of b) long fit;
    number_kept = λ c p l n. kept c p n (number_either (sizes_of s) x.known (meaning_of b) long fit c p l);
    fact_fixed = λ i t v l f. let r = fact_hit (sizes_of s) x.known (meaning_of b) long fit ok.sound lax i t v l f in (r.is, r.so);
    fact_kept = λ i t l n. still i t n (fact_cases (sizes_of s) x.known (meaning_of b) long fit ok.sound lax i t l);
  }
    where
      long : Long (sizes_of s) x.known
      long = knowledge_sized (policy_of s) ok.sized.sheets

      fit : Fits (sizes_of s) (meaning_of b)
      fit = ranged s ((policy_causes s).accepted.1 ok.policy) b w

      lax : Free (sizes_of s) x.known (meaning_of b).component (meaning_of b).event
      lax = (free_law (sizes_of s) x.known (meaning_of b)).0 (both (free (sizes_of s) x.known (meaning_of b)) (sound (sizes_of s) next) e).0

      kept : (c p : ℕ) → ((n : ℕ) → (meaning_of b).component ≡ c → FixesNumber (meaning_of b).event p n → ⊥)
          → ((n : ℕ) × ((meaning_of b).component ≡ c) × FixesNumber (meaning_of b).event p n) ⊎ (number (sizes_of s) next c p ≡ number (sizes_of s) x.known c p)
          → number (sizes_of s) next c p ≡ number (sizes_of s) x.known c p
      kept c p n (inl y) = absurd (n y.0 y.1 y.2)
      kept c p n (inr y) = y

      still : (i t : ℕ) → ((v : Bool) → FixesFact (meaning_of b).event i t v → ⊥)
          → ((v : Bool) × FixesFact (meaning_of b).event i t v × Fact next i t v) ⊎ ((noted next i t ≡ noted x.known i t) × (valued next i t ≡ valued x.known i t))
          → (noted next i t ≡ noted x.known i t) × (valued next i t ≡ valued x.known i t)
      still i t n (inl y) = absurd (n y.0 y.1)
      still i t n (inr y) = y

-- a call's answer is a refusal where its reply is
pub refused : (a : Received) (r : Refusal) → (a ≡ Err r) ↔ (reply a ≡ Err r)
refused (Ok n) r = (λ e. ap reply e, λ e. absurd (not_accepted r (sym e)))
refused (Err q) r = (λ e. ap reply e, λ e. ap Err (same_refusal q r e))

pub demand_2 : Demand2
demand_2 = record {
  sheets = λ s x b t. rw (left s x b t).state (sheets_over (policy_of s) x.origin (next s x b));
  gains = λ s x b t.
      let r = (demand_1.take s x b).taken.0 t in
      let l = left s x b t in
      rw l.state (gained s x b r.0 r.1 l.tested);
  total = λ s x b t.
      let l = left s x b t in
      l.answer ∙ ap (λ (y : State). Ok (standing y.verdicts)) (sym l.state);
  origin = kept_origin;
  conflict = conflict;
  opening = λ s x d. opened_law s x d;
  fits = λ z k h. agreed z k h;
}
  where
    conflict : (s : List ℕ) (x : State) (b : List ℕ) → Passed s x → WellFormed (sizes_of s) b
        → ((receive s x b).answer ≡ Err Conflict) ↔ (SomeTrace (sizes_of s) x.known (meaning_of b) → ⊥)
    conflict s x b ok w =
        let nine = (demand_1.take s x b).nine 0 in (
          λ e. (nine.0 (record { refusal = Conflict; is = (refused _ Conflict).0 e; number = refl; place = refl })).3,
          λ n. let r = nine.1 (refl, ok, w, n) in (refused _ Conflict).1 (r.is ∙ ap Err (the_refusal r)),
        )

-- ---- demand 3

-- the state after the takes of a list, and what they accepted, from the opened state on
after_opened : (s : List ℕ) (x : State) → (open_state s x).state ≡ opened (policy_of s) (origin_of s) → (cs : List Call) → after s x cs ≡ run_calls s (opened (policy_of s) (origin_of s)) cs
after_opened s x e cs = ap (λ (y : State). run_calls s y cs) e

accepted_opened : (s : List ℕ) (x : State) → (open_state s x).state ≡ opened (policy_of s) (origin_of s) → (cs : List Call) → accepted s x cs ≡ accepted_from s (opened (policy_of s) (origin_of s)) cs
accepted_opened s x e cs = ap (λ (y : State). accepted_from s y cs) e

module _ (s : List ℕ) (card : policy_answer s ≡ Ok tt) where
  abbrev proper : Proper (policy_of s)
  proper = policy_proper s card

  abbrev fitting : (b : List ℕ) → WellFormed (sizes_of s) b → Fits (sizes_of s) (meaning_of b)
  fitting = ranged s card

  module _ (x : State) (d : (open_state s x).state ≡ opened (policy_of s) (origin_of s)) where
    accepts : (cs : List Call) (b : List ℕ)
        → Taken (receive s (after s x cs) b).answer
        ↔ (WellFormed (sizes_of s) b × ((w : Trace (sizes_of s)) × AdmitsAll (sizes_of s) w (accepted s x cs) × Admits (sizes_of s) w (meaning_of b)))
    accepts cs b = rw (after_opened s x d cs, accepted_opened s x d cs) (accept_law s card proper fitting (from_open s card proper fitting cs) _ (start s card proper fitting cs) b)

    stands_on : (cs ds : List Call) (r t : ℕ) → r < (policy_of s).rules → t < (sizes_of s).minutes
        → shown (policy_of s) (after s x cs) r t ≢ 0 → shown (policy_of s) (after s x (cs ++ ds)) r t ≡ shown (policy_of s) (after s x cs) r t
    stands_on cs ds r t h b n =
        rw (after_opened s x d (cs ++ ds), after_opened s x d cs) (stand s card proper fitting cs ds r t h b (rw (after_opened s x d cs) at n))

    is_true : (cs : List Call) (r t : ℕ) → r < (policy_of s).rules → t < (sizes_of s).minutes → shown (policy_of s) (after s x cs) r t ≢ 0
        → (w : Trace (sizes_of s)) → AdmitsAll (sizes_of s) w (accepted s x cs) → Plain (policy_of s) w r t (shown (policy_of s) (after s x cs) r t)
    is_true cs r t h b n w a =
        rw (after_opened s x d cs) (truth s card proper fitting cs r t h b (rw (after_opened s x d cs) at n) w (rw (accepted_opened s x d cs) at a))

  -- the members of one list, as those of the other
  alike : (x y : State) → (open_state s x).state ≡ opened (policy_of s) (origin_of s) → (open_state s y).state ≡ opened (policy_of s) (origin_of s) → (xs ys : List Call)
      → ((b : List ℕ) → WellFormed (sizes_of s) b → Offered b xs ↔ Offered b ys)
      → (w : Trace (sizes_of s)) → ((b : List ℕ) → Offered b xs → WellFormed (sizes_of s) b → Admits (sizes_of s) w (meaning_of b)) → Same s x y xs ys
  alike x y d e xs ys f w a = record {
    left = λ us b vs q. rw (after_opened s x d us) (all_taken s card proper fitting w xs here us b vs q);
    right = λ us b vs q. rw (after_opened s y e us) (all_taken s card proper fitting w ys there us b vs q);
    state = after_opened s x d xs ∙ same_state (policy_of s) (origin_of s) proper (from_open s card proper fitting xs) (from_open s card proper fitting ys) _ _ ups vps to from ∙ sym (after_opened s y e ys);
    sized = rw (after_opened s x d xs) ups.sized;
    exact = rw (after_opened s x d xs) ups.exact;
    sheets = rw (after_opened s x d xs) (rw (is_over (policy_of s) (origin_of s) (from_open s card proper fitting xs) _ ups) (sheets_over (policy_of s) (origin_of s) (from_open s card proper fitting xs).known));
  }
    where
      to : (m : Message) → Sends (sizes_of s) xs m → Sends (sizes_of s) ys m
      to m z = (z.0, (f z.0 z.2).0 z.1, z.2, z.3)

      from : (m : Message) → Sends (sizes_of s) ys m → Sends (sizes_of s) xs m
      from m z = (z.0, (f z.0 z.2).1 z.1, z.2, z.3)

      here : (m : Message) → Sends (sizes_of s) xs m → Admits (sizes_of s) w m
      here m z = rw (← z.3) (a z.0 z.1 z.2)

      there : (m : Message) → Sends (sizes_of s) ys m → Admits (sizes_of s) w m
      there m z = here m (from m z)

      ups : KeptUp (policy_of s) (origin_of s) (from_open s card proper fitting xs) (Sends (sizes_of s) xs)
      ups = all_up s card proper fitting w xs here

      vps : KeptUp (policy_of s) (origin_of s) (from_open s card proper fitting ys) (Sends (sizes_of s) ys)
      vps = all_up s card proper fitting w ys there

pub demand_3 : Demand3
demand_3 = record {
  accept = λ s x d. accepts s (opens s x d).card x (opens s x d).state;
  stand = λ s x d. stands_on s (opens s x d).card x (opens s x d).state;
  truth = λ s x d. is_true s (opens s x d).card x (opens s x d).state;
  same = λ s x y d e. alike s (opens s x d).card x y (opens s x d).state (opens s y e).state;
}
