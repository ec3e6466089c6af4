-- One record, one card (02, request 5), proved: between two openings that are done the origin stays what the first of them wrote, since a take or a packet
-- under another card is refused; and no two cards write the same.
use Rattle.std.specs.Prelude.{ℕ, ◌≤◌, ◌<◌, ◌≡◌, refl, Bool, true, false, cond, ◌⊎◌, ◌↔◌, ◌≢◌, List, [], ◌∷◌, ◌++◌, Err, Ok}
use Rattle.std.proofs.Common.{arith, ap, subst, ◌∙◌, inl, inr}
use Rattle.std.proofs.Math.Decide.{dec_lt, ℕ_discrete}
use Rattle.std.proofs.Math.Path.{sym}
use Rattle.refusal.specs.declared.Refusal.{Refusal}
use Rattle.refusal.specs.declared.Refusal.TheVariants.{CorruptKnowledge}
use Rattle.refusal.specs.Checks.{Checked, reply}
use Rattle.refusal.specs.Numbers.{refusal_number, refusal_place}
use Rattle.refusal.specs.Checks.{check, first_failed, and_then, Passed as AllPassed, Refuses, RefusedWith}
use Rattle.refusal.proofs.Laws.{not_accepted, refusal_law, passing_law, in_order, refused_where}
use Rattle.policy.specs.Format.{answer_of as policy_answer, policy_of}
use Rattle.policy.proofs.Answered.{causes as policy_causes}
use Rattle.message.specs.Format.{messages_of}
use Rattle.message.specs.Fixes.{meaning_of}
use Rattle.knowledge.specs.Knowledge.{sound}
use Rattle.origin.specs.Origin.{origin_of, same_bytes}
use Rattle.origin.proofs.Origin.{same_law, one_origin}
use Rattle.monitor.specs.State.{State, Outcome, unless, Sized, opened, opened_as, settled, slip_checks, origin_checks, opening_checks, record_checks, take_checks, open_state, receive, receive_packet, Call, Receive, run_calls, after, Taken, Single, Packet, offers_each, run_entries}
use Rattle.monitor.specs.Demands.{sizes_of, Passed, StoppedWith, after_entries, takes_of, Lending, Opening, Taking, Packing, lending_state, run_lendings, NoneDone, LastDone, PastTwelve, StoppedPastTwelve, own, OnePolicy}
use Rattle.demands.proofs.Causes.{via, decided, reply_unless, one_number, slip_number, LetPast, passed_origin, origin_number}
use Rattle.monitor.proofs.Leaves.{kept_origin}
use Rattle.demands.proofs.Proved.{opens, demand_1, demand_2, refused}
use Rattle.demands.proofs.Walks.{answers, kept, passed_on}
use Rattle.demands.proofs.Stops.{refuses_all, later_number}
use Rattle.demands.proofs.Packets.{packets, demand_3_packets}
use Rattle.demands.proofs.Points.{up}

-- ---- lists of calls that carry their card

run_append : (us vs : List Lending) (x : State) → run_lendings x (us ++ vs) ≡ run_lendings (run_lendings x us) vs
run_append [] vs x = refl
run_append (u ∷ us) vs x = run_append us vs (lending_state x u)

-- an opening is done, or it is not and leaves the state
opens_or_leaves : (s : List ℕ) (x : State) → ((open_state s x).answer ≡ Ok tt) ⊎ (((open_state s x).answer ≡ Ok tt → ⊥) × ((open_state s x).state ≡ x))
unfolding open_state
opens_or_leaves s x = go (first_failed (opening_checks s x))
  where
    out : Checked → Outcome (Unit {0})
    out a = unless a x (opened_as (opened (policy_of s) (origin_of s)))

    go : (a : Checked) → ((out a).answer ≡ Ok tt) ⊎ (((out a).answer ≡ Ok tt → ⊥) × ((out a).state ≡ x))
    go (Ok _) = inl refl
    go (Err r) = inr (λ e. not_accepted r (ap reply e), refl)

-- a list of which no opening is done: its first call is no such opening, and neither is one behind it
none_behind : (x : State) (c : Lending) (cs : List Lending) → NoneDone x (c ∷ cs) → NoneDone (lending_state x c) cs
none_behind x c cs n us s vs e d = n (c ∷ us) s vs (ap (λ (l : List Lending). c ∷ l) e) d

leaves : (s : List ℕ) (x : State) (cs : List Lending) → NoneDone x (Opening s ∷ cs) → (open_state s x).state ≡ x
leaves s x cs n = go (opens_or_leaves s x)
  where
    go : ((open_state s x).answer ≡ Ok tt) ⊎ (((open_state s x).answer ≡ Ok tt → ⊥) × ((open_state s x).state ≡ x)) → (open_state s x).state ≡ x
    go (inl d) = absurd (n [] s cs refl d)
    go (inr e) = e.1

none_of : (x : State) (c : Lending) (cs : List Lending) → ((s : List ℕ) → c ≡ Opening s → (open_state s x).answer ≡ Ok tt → ⊥) → NoneDone (lending_state x c) cs → NoneDone x (c ∷ cs)
none_of x c cs f n [] s vs e d = let h : c ≡ Opening s = cc in f s h d
none_of x c cs f n (u ∷ us) s vs e d =
    let h : c ≡ u = cc in
    let t : cs ≡ us ++ (Opening s ∷ vs) = cc in
    n us s vs t (subst (λ (k : Lending). (open_state s (run_lendings (lending_state x k) us)).answer ≡ Ok tt) (sym h) d)

last_or_none : (cs : List Lending) (x : State) → ((r : List ℕ) × LastDone x cs r) ⊎ NoneDone x cs
last_or_none [] x = inr (λ us s vs e. absurd (nowhere us s vs e))
  where
    nowhere : (us : List Lending) (s : List ℕ) (vs : List Lending) → [] ≡ us ++ (Opening s ∷ vs) → ⊥
    nowhere [] s vs e = let z : ◌≡◌ {A = ℕ} 0 1 = cc in omega arith
    nowhere (u ∷ us) s vs e = let z : ◌≡◌ {A = ℕ} 0 1 = cc in omega arith
last_or_none (c ∷ cs) x = go (last_or_none cs (lending_state x c))
  where
    this : (c : Lending) → NoneDone (lending_state x c) cs → ((r : List ℕ) × LastDone x (c ∷ cs) r) ⊎ NoneDone x (c ∷ cs)
    this (Opening s) n = either (opens_or_leaves s x)
      where
        either : ((open_state s x).answer ≡ Ok tt) ⊎ (((open_state s x).answer ≡ Ok tt → ⊥) × ((open_state s x).state ≡ x))
            → ((r : List ℕ) × LastDone x (Opening s ∷ cs) r) ⊎ NoneDone x (Opening s ∷ cs)
        either (inl d) = inl (s, record { before = []; behind = cs; cut = refl; done = d; none_later = n })
        either (inr q) = inr (none_of x (Opening s) cs (λ r e d. let h : s ≡ r = cc in q.0 (subst (λ (k : List ℕ). (open_state k x).answer ≡ Ok tt) (sym h) d)) n)
    this (Taking s b) n = inr (none_of x (Taking s b) cs (λ r e d. let z : ◌≡◌ {A = ℕ} 0 1 = cc in omega arith) n)
    this (Packing s b) n = inr (none_of x (Packing s b) cs (λ r e d. let z : ◌≡◌ {A = ℕ} 0 1 = cc in omega arith) n)

    go : ((r : List ℕ) × LastDone (lending_state x c) cs r) ⊎ NoneDone (lending_state x c) cs → ((r : List ℕ) × LastDone x (c ∷ cs) r) ⊎ NoneDone x (c ∷ cs)
    go (inl q) = let l = q.1 in inl (q.0, record { before = c ∷ l.before; behind = l.behind; cut = ap (λ (k : List Lending). c ∷ k) l.cut; done = l.done; none_later = l.none_later })
    go (inr n) = this c n

-- ---- between two openings that are done

-- the state is of the card's sizes, and was opened under it
record Under (r : List ℕ) (y : State) : Type 0 where
  card : policy_answer r ≡ Ok tt
  sized : Sized (policy_of r) y
  origin : y.origin ≡ origin_of r

opened_under_it : (r : List ℕ) (x : State) → (open_state r x).answer ≡ Ok tt → Under r (open_state r x).state
opened_under_it r x d = let o = demand_2.opening r x d in record { card = (opens r x d).card; sized = o.sized; origin = o.origin }

module _ (r : List ℕ) where
  -- a take that is accepted is lent this card
  own_card : (y : State) → Under r y → (s b : List ℕ) → Taken (receive s y b).answer → s ≡ r
  own_card y u s b t = one_origin s r (sym ((demand_1.take s y b).taken.0 t).0.origin ∙ u.origin)

  -- lent another one, it leaves the state
  foreign_take : (y : State) → Under r y → (s b : List ℕ) → (s ≡ r → ⊥) → (receive s y b).state ≡ y
  foreign_take y u s b n = go (answers s y b)
    where
      go : Taken (receive s y b).answer ⊎ ((q : Refusal) × ((receive s y b).answer ≡ Err q)) → (receive s y b).state ≡ y
      go (inl t) = absurd (n (own_card y u s b t))
      go (inr q) = kept s y b q.0 q.1

  foreign_run : (cs : List Call) (y : State) → Under r y → (s : List ℕ) → (s ≡ r → ⊥) → run_calls s y cs ≡ y
  foreign_run [] y u s n = refl
  foreign_run (Receive b ∷ cs) y u s n = ap (λ (z : State). run_calls s z cs) (foreign_take y u s b n) ∙ foreign_run cs y u s n

  foreign_packet : (y : State) → Under r y → (s b : List ℕ) → (s ≡ r → ⊥) → (receive_packet s y b).state ≡ y
  foreign_packet y u s b n = packets.state s y b ∙ foreign_run (offers_each s y (messages_of b)) y u s n

  -- a take or a packet keeps it so
  take_under : (y : State) → Under r y → (s b : List ℕ) → Under r (receive s y b).state
  take_under y u s b = go (answers s y b)
    where
      go : Taken (receive s y b).answer ⊎ ((q : Refusal) × ((receive s y b).answer ≡ Err q)) → Under r (receive s y b).state
      go (inl t) = record {
        card = u.card;
        sized = subst (λ (k : List ℕ). Sized (policy_of k) (receive s y b).state) (own_card y u s b t) (passed_on s y b t).sized;
        origin = kept_origin s y b ∙ u.origin;
      }
      go (inr q) = rw (kept s y b q.0 q.1) u

  run_under : (cs : List Call) (y : State) → Under r y → (s : List ℕ) → Under r (run_calls s y cs)
  run_under [] y u s = u
  run_under (Receive b ∷ cs) y u s = run_under cs (receive s y b).state (take_under y u s b) s

  packet_under : (y : State) → Under r y → (s b : List ℕ) → Under r (receive_packet s y b).state
  packet_under y u s b = rw (packets.state s y b) (run_under (offers_each s y (messages_of b)) y u s)

  all_under : (cs : List Lending) (y : State) → Under r y → NoneDone y cs → Under r (run_lendings y cs)
  all_under [] y u n = u
  all_under (Opening s ∷ cs) y u n = all_under cs (open_state s y).state (rw (leaves s y cs n) u) (none_behind y (Opening s) cs n)
  all_under (Taking s b ∷ cs) y u n = all_under cs (receive s y b).state (take_under y u s b) (none_behind y (Taking s b) cs n)
  all_under (Packing s b ∷ cs) y u n = all_under cs (receive_packet s y b).state (packet_under y u s b) (none_behind y (Packing s b) cs n)

  -- the calls that are lent this card are all that matter
  own_only : (cs : List Lending) (y : State) → Under r y → NoneDone y cs → run_lendings y cs ≡ run_entries r y (own r cs)
  own_only [] y u n = refl
  own_only (Opening s ∷ cs) y u n =
      let e : (open_state s y).state ≡ y = leaves s y cs n in
      ap (λ (z : State). run_lendings z cs) e ∙ own_only cs y u (subst (λ (z : State). NoneDone z cs) e (none_behind y (Opening s) cs n))
  own_only (Taking s b ∷ cs) y u n = own_only cs (receive s y b).state (take_under y u s b) (none_behind y (Taking s b) cs n) ∙ go (same_bytes s r) refl
    where
      go : (t : Bool) → same_bytes s r ≡ t → run_entries r (receive s y b).state (own r cs) ≡ run_entries r y (cond t (Single (Receive b) ∷ own r cs) (own r cs))
      go true e = ap (λ (k : List ℕ). run_entries r (receive k y b).state (own r cs)) ((same_law s r).0 e)
      go false e = ap (λ (z : State). run_entries r z (own r cs)) (foreign_take y u s b ((decided (same_law s r)).0 e))
  own_only (Packing s b ∷ cs) y u n = own_only cs (receive_packet s y b).state (packet_under y u s b) (none_behind y (Packing s b) cs n) ∙ go (same_bytes s r) refl
    where
      go : (t : Bool) → same_bytes s r ≡ t → run_entries r (receive_packet s y b).state (own r cs) ≡ run_entries r y (cond t (Packet b ∷ own r cs) (own r cs))
      go true e = ap (λ (k : List ℕ). run_entries r (receive_packet k y b).state (own r cs)) ((same_law s r).0 e)
      go false e = ap (λ (z : State). run_entries r z (own r cs)) (foreign_packet y u s b ((decided (same_law s r)).0 e))

  module _ (x : State) (cs : List Lending) (l : LastDone x cs r) where
    -- the state right after that opening, and the list from there on
    abbrev start : State
    start = (open_state r (run_lendings x l.before)).state

    since_then : run_lendings x cs ≡ run_lendings start l.behind
    since_then = ap (run_lendings x) l.cut ∙ run_append l.before (Opening r ∷ l.behind) x

    under_start : Under r start
    under_start = opened_under_it r (run_lendings x l.before) l.done

    still_under : Under r (run_lendings x cs)
    still_under = rw since_then (all_under l.behind start under_start l.none_later)

-- ---- past 12

module _ (s : List ℕ) (y : State) (b : List ℕ) where
  abbrev clean : Bool
  clean = sound (sizes_of s) y.known

  -- what the checks up to 12 refuse, the take refuses
  refused_up_to : (q : Refusal) → first_failed (origin_checks s y) ≡ Err q → (receive s y b).answer ≡ Err q
  refused_up_to q e =
      refuses_all s y q (in_order (origin_checks s y) (check clean CorruptKnowledge ∷ []) ∙ ap (λ (a : Checked). and_then a (first_failed (check clean CorruptKnowledge ∷ []))) e) b

  past_passes : PastTwelve (reply (receive s y b).answer) → LetPast s (policy_causes s) y
  past_passes h = go (first_failed (origin_checks s y)) refl
    where
      up_to : (q : Refusal) → (6 ≤ refusal_number q) × (refusal_number q ≢ 12) → ((1 ≤ refusal_number q) × (refusal_number q ≤ 5)) ⊎ (refusal_number q ≡ 12) → ⊥
      up_to q f (inl g) = omega (arith, f.0, g)
      up_to q f (inr g) = f.1 g

      go : (a : Checked) → first_failed (origin_checks s y) ≡ a → LetPast s (policy_causes s) y
      go (Ok _) e = (passed_origin s (policy_causes s) y).0 ((passing_law (origin_checks s y)).0 e)
      go (Err q) e =
          absurd (up_to q (h (refusal_number q) (refusal_place q) (record { refusal = q; is = ap reply (refused_up_to q e); number = refl; place = refl }))
          (origin_number s (policy_causes s) y q ((refusal_law (origin_checks s y) q).0 e)))

  passes_past : LetPast s (policy_causes s) y → PastTwelve (reply (receive s y b).answer)
  unfolding receive
  passes_past k n at w = later w.refusal (refused_where (record_checks s y) (slip_checks (policy_of s) y b) w.refusal ((refusal_law (take_checks s y b) w.refusal).0 failed)) w.number
    where
      failed : first_failed (take_checks s y b) ≡ Err w.refusal
      failed = sym (reply_unless (first_failed (take_checks s y b)) y (settled (policy_of s) y (meaning_of b)) refl) ∙ w.is

      passed : first_failed (origin_checks s y) ≡ Ok tt
      passed = (passing_law (origin_checks s y)).1 ((passed_origin s (policy_causes s) y).1 k)

      six : (q : Refusal) → Refuses (origin_checks s y) q ⊎ (AllPassed (origin_checks s y) × Refuses (check clean CorruptKnowledge ∷ []) q) → refusal_number q ≡ 6
      six q (inl h) = absurd (not_accepted q (sym ((refusal_law (origin_checks s y) q).1 h) ∙ passed))
      six q (inr h) = one_number clean CorruptKnowledge q h.1

      later : (q : Refusal) → Refuses (record_checks s y) q ⊎ (AllPassed (record_checks s y) × Refuses (slip_checks (policy_of s) y b) q) → refusal_number q ≡ n → (6 ≤ n) × (n ≢ 12)
      later q (inl h) e = let i = six q (refused_where (origin_checks s y) (check clean CorruptKnowledge ∷ []) q h) in (omega (arith, i, e), λ z. omega (arith, i, e, z))
      later q (inr h) e = let i = slip_number s y b q h.1 in (omega (arith, i, e), λ z. omega (arith, i, e, z))

-- a packet is let past 12 where a take is
packet_past : (s : List ℕ) (y : State) (b : List ℕ) → StoppedPastTwelve (receive_packet s y b).answer.stop ↔ PastTwelve (reply (receive s y []).answer)
packet_past s y b = (
  λ h n at w. by_number n (λ l. h n at (((packets.causes s y b).first_six [] n at l).1 w)),
  λ h n at w. by_number n (λ l. h n at (((packets.causes s y b).first_six [] n at l).0 w)),
)
  where
    by_number : (n : ℕ) → ((n ≤ 6) ⊎ (n ≡ 12) → (6 ≤ n) × (n ≢ 12)) → (6 ≤ n) × (n ≢ 12)
    by_number n f = go (dec_lt n 7) (ℕ_discrete n 12)
      where
        go : Dec (n < 7) → Dec (n ≡ 12) → (6 ≤ n) × (n ≢ 12)
        go (yes l) d = f (inl (omega arith))
        go (no l) (yes e) = f (inr e)
        go (no l) (no e) = (omega arith, e)

-- ---- in demand 3's lists

passed_after : (s : List ℕ) (x : State) → (open_state s x).answer ≡ Ok tt → (cs : List Call) → Passed s (after s x cs)
passed_after s x d cs =
    let k = up s x d cs in
    record { policy = (policy_causes s).accepted.0 (opens s x d).card; sized = k.sized; origin = k.origin; sound = k.exact.sound }

-- what a state refuses that passes the checks 1 to 6 and 12
only_later : (s : List ℕ) (y : State) → Passed s y → (b : List ℕ) (n at : ℕ) → RefusedWith (reply (receive s y b).answer) n at → (7 ≤ n) × (n ≤ 9)
only_later s y ok b n at w =
    subst (λ (k : ℕ). (7 ≤ k) × (k ≤ 9)) w.number (later_number s y b w.refusal ok ((refused (receive s y b).answer w.refusal).1 w.is))

packet_later : (s : List ℕ) (y : State) → Passed s y → (b : List ℕ) (n at : ℕ) → StoppedWith (receive_packet s y b).answer.stop n at → (7 ≤ n) × (n ≤ 9)
packet_later s y ok b n at w = go (dec_lt n 7) ((packets.causes s y b).no_other n at w)
  where
    first : (n ≤ 6) ⊎ (n ≡ 12) → (7 ≤ n) × (n ≤ 9)
    first l = only_later s y ok [] n at (((packets.causes s y b).first_six [] n at l).0 w)

    go : Dec (n < 7) → ((1 ≤ n) × (n ≤ 9)) ⊎ (n ≡ 12) → (7 ≤ n) × (n ≤ 9)
    go d (inr e) = first (inr e)
    go (yes l) (inl h) = first (inl (omega arith))
    go (no l) (inl h) = omega (arith, h)

-- ---- the origin where no opening is done

run_origin : (s : List ℕ) (cs : List Call) (y : State) → (run_calls s y cs).origin ≡ y.origin
run_origin s [] y = refl
run_origin s (Receive b ∷ cs) y = run_origin s cs (receive s y b).state ∙ kept_origin s y b

untouched : (cs : List Lending) (x : State) → NoneDone x cs → (run_lendings x cs).origin ≡ x.origin
untouched [] x n = refl
untouched (Opening s ∷ cs) x n = untouched cs (open_state s x).state (none_behind x (Opening s) cs n) ∙ ap (λ (z : State). z.origin) (leaves s x cs n)
untouched (Taking s b ∷ cs) x n = untouched cs (receive s x b).state (none_behind x (Taking s b) cs n) ∙ kept_origin s x b
untouched (Packing s b ∷ cs) x n =
    untouched cs (receive_packet s x b).state (none_behind x (Packing s b) cs n)
    ∙ ap (λ (z : State). z.origin) (packets.state s x b) ∙ run_origin s (offers_each s x (messages_of b)) x

-- ---- the statement

pub one_policy : OnePolicy
one_policy = record {
  takes = λ s x d cs b n at w. only_later s (after s x cs) (passed_after s x d cs) b n at w;
  packets = λ s x d es b n at w.
      packet_later s (after_entries s x es) (subst (Passed s) (sym (demand_3_packets.takes s x es).0) (passed_after s x d (takes_of s x es))) b n at w;
  opened = λ x cs. last_or_none cs x;
  past = past;
  past_packet = λ x cs r l s b. via (packet_past s (run_lendings x cs) b) (past x cs r l s []);
  untouched = λ x cs n. untouched cs x n;
  own_calls = λ x cs r l. since_then r x cs l ∙ own_only r l.behind (start r x cs l) (under_start r x cs l) l.none_later;
}
  where
    past : (x : State) (cs : List Lending) (r : List ℕ) → LastDone x cs r → (s b : List ℕ) → PastTwelve (reply (receive s (run_lendings x cs) b).answer) ↔ (s ≡ r)
    past x cs r l s b =
        let y = run_lendings x cs in
        let u = still_under r x cs l in (
          λ h. one_origin s r (sym (past_passes s y b h).origin ∙ u.origin),
          λ e. subst (λ (k : List ℕ). PastTwelve (reply (receive k y b).answer)) (sym e)
              (passes_past r y b (record { policy = (policy_causes r).accepted.0 u.card; sized = u.sized; origin = u.origin })),
        )
