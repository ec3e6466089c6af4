-- Takes under an accepted card, one and a list of them: each keeps the state up, and is accepted exactly when a trace admits it together with
-- what was accepted before.
use Rattle.std.specs.Prelude.{ℕ, ◌<◌, ◌≡◌, refl, ◌⊎◌, ◌↔◌, ◌≢◌, Err, Ok}
use Rattle.std.proofs.Common.{sym, ◌∙◌, inl, inr}
use Rattle.std.proofs.Math.Bool.{true}
use mathlib.Core.List.{List, [], ◌∷◌, ◌++◌, Memᴰ}
use Rattle.refusal.specs.Checks.{Checked}
use Rattle.refusal.specs.declared.Refusal.TheVariants.{Conflict}
use Rattle.refusal.specs.Checks.{check, first_failed, Passed as AllPassed, none, pass}
use Rattle.refusal.proofs.Laws.{passing_law, passed_both, passed_parts, not_accepted}
use Rattle.policy.specs.Format.{answer_of as policy_answer, policy_of}
use Rattle.policy.specs.Proper.{Proper}
use Rattle.policy.proofs.Laws.{short}
use Rattle.message.specs.Format.{message_checks, answer_of as message_answer}
use Rattle.message.specs.Fixes.{Fits, WellFormed, meaning_of}
use Rattle.message.specs.declared.Message.{Message}
use Rattle.knowledge.specs.Trace.{Trace, Admits, AdmitsAll}
use Rattle.knowledge.specs.Knowledge.{Sound, admits}
use Rattle.knowledge.specs.Laws.{Limits}
use Rattle.knowledge.proofs.Conflict.{admits_law}
use Rattle.monitor.specs.State.{Received}
use Rattle.origin.specs.Origin.{origin_of}
use Rattle.origin.proofs.Origin.{origin_long}
use Rattle.monitor.specs.State.{State, Outcome, unless, Sized, opened, settled, slip_checks, take_message, receive, Call, Receive, step, run_calls, Taken, took, accepted_by, accepted_from, Offers, by_take, Offered}
use Rattle.monitor.specs.Demands.{shown, sizes_of, SomeTrace, Plain, Sends}
use Rattle.monitor.proofs.Laws.{knowledge_sized, plain_take}
use Rattle.demands.proofs.Invariant.{KeptUp, relabel, opened_up, next_up}
use Rattle.demands.proofs.Keeping.{shown_at, marked, agrees_law, stands}
use Rattle.demands.proofs.Plainly.{plain_verdict}

-- a message adds nothing where it is not taken
none_more : (Q : Message → Type 0) (y : Message) → Q y ⊎ Memᴰ y [] → Q y
none_more Q y (inl q) = q
none_more Q y (inr h) = absurd (mathlib.Core.List.Memᴰ.not-nil h)

-- lists of calls, one after another
pub run_append : (s : List ℕ) (cs ds : List Call) (x : State) → run_calls s x (cs ++ ds) ≡ run_calls s (run_calls s x cs) ds
run_append s [] ds x = refl
run_append s (c ∷ cs) ds x = run_append s cs ds (step s x c).state

module _ (s : List ℕ) (passed : policy_answer s ≡ Ok tt) (proper : Proper (policy_of s))
    (ranged : (b : List ℕ) → WellFormed (sizes_of s) b → Fits (sizes_of s) (meaning_of b)) where
  limits : Limits (sizes_of s)
  limits = record { propositions_most = proper.propositions.high; minutes_most = proper.minutes.high }

  -- a message that passes its checks is well_formed, and nothing known contradicts it
  passed_slip : (x : State) (b : List ℕ) → (first_failed (slip_checks (policy_of s) x b) ≡ Ok tt)
      ↔ (WellFormed (sizes_of s) b × (admits (sizes_of s) x.known (meaning_of b) ≡ true))
  unfolding message_answer
  passed_slip x b = (there, back)
    where
      last : AllPassed (check (admits (sizes_of s) x.known (meaning_of b)) Conflict ∷ []) → admits (sizes_of s) x.known (meaning_of b) ≡ true
      last (pass e none) = e

      there : first_failed (slip_checks (policy_of s) x b) ≡ Ok tt → WellFormed (sizes_of s) b × (admits (sizes_of s) x.known (meaning_of b) ≡ true)
      there e =
          let q = passed_parts (message_checks (sizes_of s) b) _ ((passing_law (slip_checks (policy_of s) x b)).0 e) in
          ((passing_law (message_checks (sizes_of s) b)).1 q.0, last q.1)

      back : WellFormed (sizes_of s) b × (admits (sizes_of s) x.known (meaning_of b) ≡ true) → first_failed (slip_checks (policy_of s) x b) ≡ Ok tt
      back q = (passing_law (slip_checks (policy_of s) x b)).1 (passed_both (message_checks (sizes_of s) b) _ ((passing_law (message_checks (sizes_of s) b)).0 q.0) (pass q.1 none))

  -- ---- what each kind of call keeps up, and what it accepts

  receive_up : (x : State) (Q : Message → Type 0) → KeptUp (policy_of s) (origin_of s) x Q → (b : List ℕ)
      → KeptUp (policy_of s) (origin_of s) (receive s x b).state (λ y. Q y ⊎ Memᴰ y (took (receive s x b).answer b))
  receive_up x Q up b = rw (plain_take s x passed up.sized up.origin up.exact.sound b) (go (first_failed (slip_checks (policy_of s) x b)) refl)
    where
      out : Checked → Outcome ℕ
      out a = unless a x (settled (policy_of s) x (meaning_of b))

      single : (y : Message) → Q y ⊎ (y ≡ meaning_of b) → Q y ⊎ Memᴰ y (meaning_of b ∷ [])
      single y (inl q) = inl q
      single y (inr e) = inr (mathlib.Core.List.Memᴰ.head e)

      one : (y : Message) → Q y ⊎ Memᴰ y (meaning_of b ∷ []) → Q y ⊎ (y ≡ meaning_of b)
      one y (inl q) = inl q
      one y (inr h) = inr (mathlib.Core.List.Memᴰ.eq_of_singleton h)

      go : (a : Checked) → first_failed (slip_checks (policy_of s) x b) ≡ a → KeptUp (policy_of s) (origin_of s) (out a).state (λ y. Q y ⊎ Memᴰ y (took (out a).answer b))
      go (Ok _) e =
          let q = (passed_slip x b).0 e in
          relabel (policy_of s) (origin_of s) single one (next_up (policy_of s) (origin_of s) proper x Q up (meaning_of b) (ranged b q.0) q.1)
      go (Err r) e = relabel (policy_of s) (origin_of s) (λ y q. inl q) (none_more Q) up

  pub step_up : (x : State) (Q : Message → Type 0) → KeptUp (policy_of s) (origin_of s) x Q → (c : Call)
      → KeptUp (policy_of s) (origin_of s) (step s x c).state (λ y. Q y ⊎ Memᴰ y (accepted_by s x c))
  step_up x Q up (Receive b) = receive_up x Q up b

  pub run_up : (cs : List Call) (x : State) (Q : Message → Type 0) → KeptUp (policy_of s) (origin_of s) x Q
      → KeptUp (policy_of s) (origin_of s) (run_calls s x cs) (λ y. Q y ⊎ Memᴰ y (accepted_from s x cs))
  run_up [] x Q up = relabel (policy_of s) (origin_of s) (λ y q. inl q) (none_more Q) up
  run_up (c ∷ cs) x Q up = relabel (policy_of s) (origin_of s) to from (run_up cs (step s x c).state _ (step_up x Q up c))
    where
      first : List Message
      first = accepted_by s x c

      rest : List Message
      rest = accepted_from s (step s x c).state cs

      to : (y : Message) → (Q y ⊎ Memᴰ y first) ⊎ Memᴰ y rest → Q y ⊎ Memᴰ y (first ++ rest)
      to y (inl (inl q)) = inl q
      to y (inl (inr h)) = inr (mathlib.Core.List.Memᴰ.append_left rest h)
      to y (inr h) = inr (mathlib.Core.List.Memᴰ.append_right first h)

      from : (y : Message) → Q y ⊎ Memᴰ y (first ++ rest) → (Q y ⊎ Memᴰ y first) ⊎ Memᴰ y rest
      from y (inl q) = inl (inl q)
      from y (inr h) = go (mathlib.Core.List.Memᴰ.append_cases first h)
        where
          go : Memᴰ y first ⊎ Memᴰ y rest → (Q y ⊎ Memᴰ y first) ⊎ Memᴰ y rest
          go (inl z) = inl (inr z)
          go (inr z) = inr z

  -- ---- when a take is accepted

  -- of a state that passes the checks 5 and 6, a well_formed message is taken exactly when some trace agrees with both
  pub taken_law : (x : State) (b : List ℕ) → Sized (policy_of s) x → Sound (sizes_of s) x.known
      → Taken (take_message (policy_of s) x b).answer ↔ (WellFormed (sizes_of s) b × SomeTrace (sizes_of s) x.known (meaning_of b))
  taken_law x b z k = go (first_failed (slip_checks (policy_of s) x b)) refl
    where
      law : (w : WellFormed (sizes_of s) b) → (admits (sizes_of s) x.known (meaning_of b) ≡ true) ↔ SomeTrace (sizes_of s) x.known (meaning_of b)
      law w = admits_law (sizes_of s) limits x.known (meaning_of b) (knowledge_sized (policy_of s) z.sheets) (ranged b w) k

      go : (a : Checked) → first_failed (slip_checks (policy_of s) x b) ≡ a
          → Taken (unless a x (settled (policy_of s) x (meaning_of b))).answer ↔ (WellFormed (sizes_of s) b × SomeTrace (sizes_of s) x.known (meaning_of b))
      go (Ok _) e = let q = (passed_slip x b).0 e in (λ u. (q.0, (law q.0).0 q.1), λ h. tt)
      go (Err r) e = (λ u. absurd u, λ h. absurd (not_accepted r (sym e ∙ (passed_slip x b).1 (h.0, (law h.0).1 h.1))))

  pub accept_law : (x : State) (Q : Message → Type 0) → KeptUp (policy_of s) (origin_of s) x Q → (b : List ℕ)
      → Taken (receive s x b).answer
      ↔ (WellFormed (sizes_of s) b × ((w : Trace (sizes_of s)) × ((y : Message) → Q y → Admits (sizes_of s) w y) × Admits (sizes_of s) w (meaning_of b)))
  accept_law x Q up b =
      let law = taken_law x b up.sized up.exact.sound in
      rw (plain_take s x passed up.sized up.origin up.exact.sound b) (
        λ u. let r = law.0 u in (r.0, (r.1.0, (agrees_law (policy_of s) (origin_of s) x Q up r.1.0).0 r.1.1, r.1.2)),
        λ r. law.1 (r.0, (r.1.0, (agrees_law (policy_of s) (origin_of s) x Q up r.1.0).1 r.1.1, r.1.2)),
      )

  -- ---- from an opening on

  opening_up : KeptUp (policy_of s) (origin_of s) (opened (policy_of s) (origin_of s)) (λ m. ⊥)
  opening_up = opened_up (policy_of s) (origin_of s) (origin_long s (short s passed))

  abbrev pub from_open : List Call → State
  from_open cs = run_calls s (opened (policy_of s) (origin_of s)) cs

  abbrev pub taken : List Call → List Message
  taken cs = accepted_from s (opened (policy_of s) (origin_of s)) cs

  pub start : (cs : List Call) → KeptUp (policy_of s) (origin_of s) (from_open cs) (λ y. Memᴰ y (taken cs))
  start cs = relabel (policy_of s) (origin_of s) drop (λ y h. inr h) (run_up cs (opened (policy_of s) (origin_of s)) (λ m. ⊥) opening_up)
    where
      drop : (y : Message) → ⊥ ⊎ Memᴰ y (taken cs) → Memᴰ y (taken cs)
      drop y (inl z) = absurd z
      drop y (inr h) = h

  pub stand : (cs ds : List Call) (r t : ℕ) → r < (policy_of s).rules → t < (sizes_of s).minutes
      → shown (policy_of s) (from_open cs) r t ≢ 0 → shown (policy_of s) (from_open (cs ++ ds)) r t ≡ shown (policy_of s) (from_open cs) r t
  stand cs ds r t h b n =
      rw (run_append s cs ds (opened (policy_of s) (origin_of s)))
      (stands (policy_of s) (origin_of s) proper (from_open cs) (run_calls s (from_open cs) ds) _ _ (start cs)
      (run_up ds (from_open cs) _ (start cs)) (λ m q. inl q) r t h b n)

  pub truth : (cs : List Call) (r t : ℕ) → r < (policy_of s).rules → t < (sizes_of s).minutes → shown (policy_of s) (from_open cs) r t ≢ 0
      → (w : Trace (sizes_of s)) → AdmitsAll (sizes_of s) w (taken cs) → Plain (policy_of s) w r t (shown (policy_of s) (from_open cs) r t)
  truth cs r t h b n w a =
      let is = shown_at (policy_of s) (origin_of s) (from_open cs) _ (start cs) r t h b in
      rw is
      (plain_verdict (policy_of s) (from_open cs).known (marked (policy_of s) (origin_of s) (from_open cs) _ (start cs)) r t (rw is at n) w
      ((agrees_law (policy_of s) (origin_of s) (from_open cs) _ (start cs) w).1 a))

  -- ---- lists with the same members

  took_sent : (x : State) (b : List ℕ) → (Taken (receive s x b).answer → WellFormed (sizes_of s) b) → (y : Message) → Memᴰ y (took (receive s x b).answer b)
      → WellFormed (sizes_of s) b × (meaning_of b ≡ y)
  took_sent x b f y = go (receive s x b).answer f
    where
      go : (a : Received) → (Taken a → WellFormed (sizes_of s) b) → Memᴰ y (took a b) → WellFormed (sizes_of s) b × (meaning_of b ≡ y)
      go (Ok n) f h = (f tt, sym (mathlib.Core.List.Memᴰ.eq_of_singleton h))
      go (Err r) f h = absurd (mathlib.Core.List.Memᴰ.not-nil h)

  -- a take that is accepted took its message
  took_it : (x : State) (b : List ℕ) → Taken (take_message (policy_of s) x b).answer → Memᴰ (meaning_of b) (took (take_message (policy_of s) x b).answer b)
  took_it x b = go (first_failed (slip_checks (policy_of s) x b))
    where
      go : (a : Checked) → Taken (unless a x (settled (policy_of s) x (meaning_of b))).answer → Memᴰ (meaning_of b) (took (unless a x (settled (policy_of s) x (meaning_of b))).answer b)
      go (Ok _) u = mathlib.Core.List.Memᴰ.head refl
      go (Err r) u = absurd u

  module _ (x : State) (Q : Message → Type 0) (up : KeptUp (policy_of s) (origin_of s) x Q) where
    -- for each kind of call: what it accepted, it was offered, well_formed
    call_sent : (c : Call) (y : Message) → Memᴰ y (accepted_by s x c) → (b : List ℕ) × Offers c b × WellFormed (sizes_of s) b × (meaning_of b ≡ y)
    call_sent (Receive b) y h = let r = took_sent x b (λ u. ((accept_law x Q up b).0 u).0) y h in (b, by_take b, r.0, r.1)

    -- and what it is offered, well_formed, it accepts where one trace admits it and what was accepted before
    call_takes : (w : Trace (sizes_of s)) → ((y : Message) → Q y → Admits (sizes_of s) w y) → (c : Call) (b : List ℕ) → Offers c b → WellFormed (sizes_of s) b
        → Admits (sizes_of s) w (meaning_of b) → Memᴰ (meaning_of b) (accepted_by s x c)
    call_takes w a (Receive d) b (by_take c) e m =
        let u : Taken (receive s x c).answer = (accept_law x Q up c).1 (e, (w, a, m)) in
        let p = plain_take s x passed up.sized up.origin up.exact.sound c in
        rw p (took_it x c (rw p at u))

  offered_later : {b : List ℕ} {c : Call} {cs : List Call} → Offered b cs → Offered b (c ∷ cs)
  offered_later o = record { call = o.call; is_call = mathlib.Core.List.Memᴰ.tail o.is_call; offers = o.offers }

  -- every accepted message is that of a well_formed slip of the list
  pub accepted_sent : (cs : List Call) (x : State) (Q : Message → Type 0) → KeptUp (policy_of s) (origin_of s) x Q → (y : Message) → Memᴰ y (accepted_from s x cs) → Sends (sizes_of s) cs y
  accepted_sent [] x Q up y h = absurd (mathlib.Core.List.Memᴰ.not-nil h)
  accepted_sent (c ∷ cs) x Q up y h =
      go (λ k. accepted_sent cs (step s x c).state _ (step_up x Q up c) y k) (mathlib.Core.List.Memᴰ.append_cases (accepted_by s x c) h)
    where
      go : (Memᴰ y (accepted_from s (step s x c).state cs) → Sends (sizes_of s) cs y)
          → Memᴰ y (accepted_by s x c) ⊎ Memᴰ y (accepted_from s (step s x c).state cs) → Sends (sizes_of s) (c ∷ cs) y
      go ih (inl k) = let r = call_sent x Q up c y k in (r.0, record { call = c; is_call = mathlib.Core.List.Memᴰ.head refl; offers = r.1 }, r.2, r.3)
      go ih (inr k) = let r = ih k in (r.0, offered_later r.1, r.2, r.3)

  -- where a trace admits all of them, all are accepted
  all_sent : (w : Trace (sizes_of s)) (cs : List Call) (x : State) (Q : Message → Type 0) → KeptUp (policy_of s) (origin_of s) x Q → ((y : Message) → Q y → Admits (sizes_of s) w y)
      → ((y : Message) → Sends (sizes_of s) cs y → Admits (sizes_of s) w y) → (y : Message) → Sends (sizes_of s) cs y → Memᴰ y (accepted_from s x cs)
  all_sent w [] x Q up a f y z = absurd (mathlib.Core.List.Memᴰ.not-nil z.1.is_call)
  all_sent w (c ∷ cs) x Q up a f y z =
      go (λ k. all_sent w cs (step s x c).state _ (step_up x Q up c) held (λ v r. f v (r.0, offered_later r.1, r.2, r.3)) y k)
      z.0 z.1.call z.1.is_call z.1.offers z.2 z.3
    where
      held : (v : Message) → Q v ⊎ Memᴰ v (accepted_by s x c) → Admits (sizes_of s) w v
      held v (inl q) = a v q
      held v (inr h) = let r = call_sent x Q up c v h in f v (r.0, record { call = c; is_call = mathlib.Core.List.Memᴰ.head refl; offers = r.1 }, r.2, r.3)

      this : (b : List ℕ) → Offers c b → WellFormed (sizes_of s) b → Memᴰ (meaning_of b) (accepted_by s x c)
      this b o e = call_takes x Q up w a c b o e (f (meaning_of b) (b, record { call = c; is_call = mathlib.Core.List.Memᴰ.head refl; offers = o }, e, refl))

      go : (Sends (sizes_of s) cs y → Memᴰ y (accepted_from s (step s x c).state cs))
          → (b : List ℕ) (d : Call) → Memᴰ d (c ∷ cs) → Offers d b → WellFormed (sizes_of s) b → meaning_of b ≡ y
          → Memᴰ y (accepted_by s x c ++ accepted_from s (step s x c).state cs)
      go ih b d (mathlib.Core.List.Memᴰ.tail h) o e q = mathlib.Core.List.Memᴰ.append_right (accepted_by s x c) (ih (b, record { call = d; is_call = h; offers = o }, e, q))
      go ih b d (mathlib.Core.List.Memᴰ.head h) o e q =
          let i : Memᴰ y (accepted_by s x c) = rw (← q) (this b (rw h at o) e) in
          mathlib.Core.List.Memᴰ.append_left (accepted_from s (step s x c).state cs) i

  module _ (w : Trace (sizes_of s)) (xs : List Call) (a : (m : Message) → Sends (sizes_of s) xs m → Admits (sizes_of s) w m) where
    pub all_up : KeptUp (policy_of s) (origin_of s) (from_open xs) (Sends (sizes_of s) xs)
    all_up =
        relabel (policy_of s) (origin_of s) (accepted_sent xs (opened (policy_of s) (origin_of s)) (λ m. ⊥) opening_up)
        (all_sent w xs (opened (policy_of s) (origin_of s)) (λ m. ⊥) opening_up (λ y q. absurd q) a) (start xs)

    pub all_taken : (us : List Call) (b : List ℕ) (vs : List Call) → xs ≡ us ++ (Receive b ∷ vs) → Taken (receive s (from_open us) b).answer ↔ WellFormed (sizes_of s) b
    all_taken us b vs e = (
      λ k. ((accept_law (from_open us) _ (start us) b).0 k).0,
      λ z. (accept_law (from_open us) _ (start us) b).1 (
        z,
        (
          w,
          before,
          a (meaning_of b)
              (b, record { call = Receive b; is_call = rw e (mathlib.Core.List.Memᴰ.append_right us (mathlib.Core.List.Memᴰ.head refl)); offers = by_take b }, z, refl),
        ),
      ),
    )
      where
        before : (y : Message) → Memᴰ y (taken us) → Admits (sizes_of s) w y
        before y h =
            let r = accepted_sent us (opened (policy_of s) (origin_of s)) (λ m. ⊥) opening_up y h in
            a y (r.0, record { call = r.1.call; is_call = rw e (mathlib.Core.List.Memᴰ.append_left (Receive b ∷ vs) r.1.is_call); offers = r.1.offers }, r.2, r.3)
