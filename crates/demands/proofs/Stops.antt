-- Why a packet stops: the checks 1 to 6 and 12 refuse it, as they refuse every take from this state; or it comes to a message that is refused, from a state
-- that passes those checks still, so with 7, 8 or 9 by that message's own cause; or all of it is taken. A message of a packet is as long as its fields
-- say, or it is the last one and ends early: so 7 is always at the packet's end.
use Rattle.std.specs.Prelude.{ℕ, ◌+◌, ◌≤◌, ◌<◌, ◌≡◌, refl, ◌⊎◌, ◌↔◌, List, [], ◌∷◌, ◌++◌, map, length, take, Err, Ok, Option, None, Some}
use Rattle.std.proofs.Common.{arith, subst, ◌∙◌, inl, inr, append-nil, length-append}
use Rattle.std.proofs.Math.Path.{sym, ap}
use Rattle.std.proofs.lemmas.List.{length-map}
use Rattle.refusal.specs.declared.Refusal.{Refusal}
use Rattle.refusal.specs.Checks.{Checked, reply}
use Rattle.refusal.specs.Numbers.{refusal_number, refusal_place, refusal_of, packet_place}
use Rattle.refusal.proofs.Numbers.{first_place}
use Rattle.refusal.specs.Checks.{Check, first_failed, and_then, Passed as AllPassed, Refuses, RefusedWith}
use Rattle.refusal.proofs.Laws.{not_accepted, same_refusal, refusal_law, passing_law, in_order, refused_where, the_refusal}
use Rattle.policy.specs.Format.{policy_of}
use Rattle.policy.proofs.Answered.{causes as policy_causes}
use Rattle.message.specs.Format.{length_of, used_of, rest_of, messages_of}
use Rattle.message.specs.Packet.{Packed, no_more, whole, cut}
use Rattle.message.proofs.First.{packed, messages_none, messages_some}
use Rattle.message.specs.Fixes.{meaning_of}
use Rattle.message.specs.Proper.{Cut as CutMessage, early, extra}
use Rattle.monitor.specs.declared.Stopped.{Stopped}
use Rattle.monitor.specs.State.{State, unless, settled, slip_checks, record_checks, take_checks, receive, PacketOutcome, stopped, refused_at, take_each, receive_packet, Receive, run_calls}
use Rattle.monitor.specs.Demands.{Sheets, Passed, StoppedWith, EachTaken, bytes_in, ComesTo, PacketCauses}
use Rattle.monitor.proofs.Leaves.{stops, takes_packet, refuses_packet}
use Rattle.demands.proofs.Causes.{via, reply_unless, slip_number, passed_record, record_number}
use Rattle.demands.proofs.Proved.{demand_1, refused, demand_2}
use Rattle.demands.proofs.Walks.{none_left, halted}
use Rattle.demands.proofs.Walks.{each_before, Rest, walk, walk_taken, walk_state, walk_accepted, passed_each, sheets_each}

-- a byte string of a packet is whole, or it ends early and the packet with it
piece : {b : List ℕ} {ms : List (List ℕ)} → Packed b ms → (before : List (List ℕ)) (m : List ℕ) (behind : List (List ℕ)) → ms ≡ before ++ (m ∷ behind)
    → (length m ≡ length_of m) ⊎ ((length m < length_of m) × (bytes_in before + length m ≡ length b))
piece no_more [] m behind e = let z : ◌≡◌ {A = ℕ} 0 1 = cc in absurd (omega arith)
piece no_more (c ∷ cs) m behind e = let z : ◌≡◌ {A = ℕ} 0 1 = cc in absurd (omega arith)
piece (whole d l p) [] m behind e = let h : d ≡ m = cc in inl (subst (λ (a : List ℕ). length a ≡ length_of a) h l)
piece (whole d {rest = rest} l p) (c ∷ cs) m behind e = let h : d ≡ c = cc in go h (piece p cs m behind cc)
  where
    go : d ≡ c → (length m ≡ length_of m) ⊎ ((length m < length_of m) × (bytes_in cs + length m ≡ length rest))
        → (length m ≡ length_of m) ⊎ ((length m < length_of m) × (length c + bytes_in cs + length m ≡ length (d ++ rest)))
    go h (inl q) = inl q
    go h (inr q) = inr (q.0, omega (arith, q.1, length-append d rest, ap length h))
piece (cut d l h) [] m behind e = let q : d ≡ m = cc in inr (subst (λ (a : List ℕ). length a < length_of a) q h, omega (arith, ap length q))
piece (cut d l h) (c ∷ cs) m behind e = absurd (none cs cc)
  where
    none : (cs : List (List ℕ)) → [] ≡ cs ++ (m ∷ behind) → ⊥
    none [] e = let z : ◌≡◌ {A = ℕ} 0 1 = cc in omega arith
    none (c ∷ cs) e = let z : ◌≡◌ {A = ℕ} 0 1 = cc in omega arith

module _ (s : List ℕ) where
  abbrev firsts : State → List Check
  firsts x = record_checks s x

  -- ---- the checks 1 to 6 and 12

  first_law : (x : State) → (first_failed (firsts x) ≡ Ok tt) ↔ Passed s x
  first_law x = via (passing_law (firsts x)) (passed_record s (policy_causes s) x)

  first_number : (x : State) (r : Refusal) → first_failed (firsts x) ≡ Err r → ((1 ≤ refusal_number r) × (refusal_number r ≤ 6)) ⊎ (refusal_number r ≡ 12)
  first_number x r e = record_number s (policy_causes s) x r ((refusal_law (firsts x) r).0 e)

  -- they refuse every take
  pub refuses_all : (x : State) (r : Refusal) → first_failed (firsts x) ≡ Err r → (m : List ℕ) → (receive s x m).answer ≡ Err r
  unfolding receive
  refuses_all x r e m =
      ap (λ (c : Checked). (unless c x (settled (policy_of s) x (meaning_of m))).answer)
      (in_order (firsts x) (slip_checks (policy_of s) x m) ∙ ap (λ (a : Checked). and_then a (first_failed (slip_checks (policy_of s) x m))) e)

  -- and where they pass, a take is refused with 7 to 9
  pub later_number : (x : State) (m : List ℕ) (r : Refusal) → Passed s x → (receive s x m).answer ≡ Err r → (7 ≤ refusal_number r) × (refusal_number r ≤ 9)
  unfolding receive
  later_number x m r ok e = go (refused_where (firsts x) (slip_checks (policy_of s) x m) r ((refusal_law (take_checks s x m) r).0 failed))
    where
      failed : first_failed (take_checks s x m) ≡ Err r
      failed = sym (reply_unless (first_failed (take_checks s x m)) x (settled (policy_of s) x (meaning_of m)) refl) ∙ ap reply e

      go : Refuses (firsts x) r ⊎ (AllPassed (firsts x) × Refuses (slip_checks (policy_of s) x m) r) → (7 ≤ refusal_number r) × (refusal_number r ≤ 9)
      go (inl q) = absurd (not_accepted r (sym ((refusal_law (firsts x) r).1 q) ∙ (first_law x).1 ok))
      go (inr q) = slip_number s x m r q.1

  none_taken : (x : State) (r : Refusal) → first_failed (firsts x) ≡ Err r → (ms : List (List ℕ)) → EachTaken s x ms → ms ≡ []
  none_taken x r e [] t = refl
  none_taken x r e (m ∷ ms) t = absurd (rw (refuses_all x r e m) at t.0)

  -- ---- one packet

  module _ (x : State) (b : List ℕ) where
    abbrev o : PacketOutcome
    o = receive_packet s x b

    abbrev went : List (List ℕ)
    went = (walk s (messages_of b) x).went

    -- with a message, the checks 1 to 6 and 12 are those of its first take
    pub packet_plain : 0 < length b → receive_packet s x b ≡ take_each s x 0 0 (messages_of b)
    packet_plain h = go (first_failed (firsts x)) refl
      where
        go : (a : Checked) → first_failed (firsts x) ≡ a → receive_packet s x b ≡ take_each s x 0 0 (messages_of b)
        go (Ok _) e = takes_packet s x b e
        go (Err r) e =
            let m = take (used_of b) b in
            let f : (receive s x m).answer ≡ Err r = refuses_all x r e m in
            refuses_packet s x b r e
            ∙ ap (stopped 0 (refused_at 0 r)) (sym ((demand_1.take s x m).unwritten r f))
            ∙ sym (ap (take_each s x 0 0) (messages_some b h) ∙ stops s x m (messages_of (rest_of b)) 0 0 r f)

    -- the number taken, and the state
    pub record Settled (p : PacketOutcome) : Type 0 where
      pub taken : p.answer.taken ≡ length went
      pub state : p.state ≡ run_calls s x (map Receive went)

    pub packet_settled : Settled (receive_packet s x b)
    packet_settled = go (first_failed (firsts x)) refl
      where
        go : (a : Checked) → first_failed (firsts x) ≡ a → Settled (receive_packet s x b)
        go (Ok _) e = rw (takes_packet s x b e) (record {
          taken = walk_taken s (messages_of b) x (walk s (messages_of b) x) 0 0 ∙ omega arith;
          state = walk_state s (messages_of b) x (walk s (messages_of b) x) 0 0;
        })
        go (Err r) e =
            let n : went ≡ [] = none_taken x r e went (walk s (messages_of b) x).each in
            rw (refuses_packet s x b r e) (record { taken = sym (ap length n); state = sym (ap (λ (l : List (List ℕ)). run_calls s x (map Receive l)) n) })

    -- where each way of stopping leads
    stop_first : (r : Refusal) → first_failed (firsts x) ≡ Err r → o.answer.stop ≡ refused_at 0 r
    stop_first r e = rw (refuses_packet s x b r e)

    stop_message : Passed s x → (m : List ℕ) (start : ℕ) (y : State) → ComesTo s x b m start y → (r : Refusal) → (receive s y m).answer ≡ Err r → o.answer.stop ≡ refused_at start r
    stop_message ok m start y c r e =
        let z = run_calls s x (map Receive c.before) in
        let f : (receive s z m).answer ≡ Err r = subst (λ (u : State). (receive s u m).answer ≡ Err r) c.state e in
        let at : 0 + bytes_in c.before ≡ start = omega (arith, c.starts) in
        rw (takes_packet s x b ((first_law x).1 ok), c.cut, each_before s c.before x c.taken 0 0 (m ∷ c.behind), f, at)

    stop_end : Passed s x → EachTaken s x (messages_of b) → o.answer.stop ≡ None
    stop_end ok t =
        rw (takes_packet s x b ((first_law x).1 ok), ← (append-nil (messages_of b)), each_before s (messages_of b) x t 0 0 [])

    -- there is no other way
    data Way : Option Stopped → Type 0 where
      at_first : (r : Refusal) → first_failed (firsts x) ≡ Err r → Way (refused_at 0 r)
      at_message : Passed s x → (m : List ℕ) (start : ℕ) (y : State) → ComesTo s x b m start y → (r : Refusal) → (receive s y m).answer ≡ Err r → Way (refused_at start r)
      at_end : Passed s x → EachTaken s x (messages_of b) → Way None

    way : Way o.answer.stop
    way = go (first_failed (firsts x)) refl
      where
        behind : Passed s x → (l : List (List ℕ)) → messages_of b ≡ went ++ l → Rest s (run_calls s x (map Receive went)) l → Way o.answer.stop
        behind ok [] e none_left =
            let t : EachTaken s x (messages_of b) = subst (EachTaken s x) (sym (e ∙ append-nil went)) (walk s (messages_of b) x).each in
            subst Way (sym (stop_end ok t)) (at_end ok t)
        behind ok (m ∷ ms) e (halted d ds r f) =
            let t = (walk s (messages_of b) x).each in
            let c : ComesTo s x b m (bytes_in went) (run_calls s x (map Receive went)) = record { before = went; behind = ms; cut = e; taken = t; starts = refl; state = refl } in
            subst Way (sym (stop_message ok m _ _ c r f)) (at_message ok m _ _ c r f)

        go : (a : Checked) → first_failed (firsts x) ≡ a → Way o.answer.stop
        go (Err r) e = subst Way (sym (stop_first r e)) (at_first r e)
        go (Ok _) e = behind ((first_law x).0 e) (walk s (messages_of b) x).left (walk s (messages_of b) x).whole (walk s (messages_of b) x).rest

    -- a stop with a number and a place, told by its cause
    data Told (n at : ℕ) : Type 0 where
      first : (r : Refusal) → first_failed (firsts x) ≡ Err r → refusal_number r ≡ n → packet_place 0 r ≡ at → Told n at
      message : Passed s x → (m : List ℕ) (start : ℕ) (y : State) → ComesTo s x b m start y → (r : Refusal) → (receive s y m).answer ≡ Err r
          → refusal_number r ≡ n → packet_place start r ≡ at → Told n at

    -- what a stop holds
    refusal_or : Refusal → Option Stopped → Refusal
    refusal_or r None = r
    refusal_or r (Some e) = e.refusal

    place_or : Option Stopped → ℕ
    place_or None = 0
    place_or (Some e) = e.place

    told : (n at : ℕ) → StoppedWith o.answer.stop n at → Told n at
    unfolding refusal_or place_or
    told n at w = go o.answer.stop way w.is
      where
        go : (e : Option Stopped) → Way e → e ≡ Some (record { refusal = w.refusal; place = w.place }) → Told n at
        go e (at_first r f) i =
            let g : r ≡ w.refusal = ap (refusal_or r) i in
            let h : packet_place 0 r ≡ w.place = ap place_or i in
            first r f (ap refusal_number g ∙ w.number) (h ∙ w.counted)
        go e (at_message ok m start y c r f) i =
            let g : r ≡ w.refusal = ap (refusal_or r) i in
            let h : packet_place start r ≡ w.place = ap place_or i in
            message ok m start y c r f (ap refusal_number g ∙ w.number) (h ∙ w.counted)
        go e (at_end ok t) i = let z : ◌≡◌ {A = ℕ} 0 1 = cc in absurd (omega arith)

    -- 7 to 9: the refusal of a message that the packet comes to, as that take gives it
    record StoppedBy (n at : ℕ) : Type 0 where
      ok : Passed s x
      m : List ℕ
      start : ℕ
      y : State
      comes : ComesTo s x b m start y
      place : ℕ
      refused_with : RefusedWith (reply (receive s y m).answer) n place
      counted : packet_place start (refusal_of n place) ≡ at

    by_message : (n at : ℕ) → (7 ≤ n) × (n ≤ 9) → StoppedWith o.answer.stop n at ↔ StoppedBy n at
    by_message n at l = (λ w. there (told n at w), back)
      where
        there : Told n at → StoppedBy n at
        there (first r f e h) = absurd (not_first (first_number x r f))
          where
            not_first : ((1 ≤ refusal_number r) × (refusal_number r ≤ 6)) ⊎ (refusal_number r ≡ 12) → ⊥
            not_first (inl q) = omega (arith, q, e, l)
            not_first (inr q) = omega (arith, q, e, l)
        there (message ok m start y c r f e h) =
            let w : RefusedWith (reply (receive s y m).answer) n (refusal_place r) = record { refusal = r; is = ap reply f; number = e; place = refl } in
            record { ok = ok; m = m; start = start; y = y; comes = c; place = refusal_place r; refused_with = w; counted = ap (packet_place start) (sym (the_refusal w)) ∙ h }

        back : StoppedBy n at → StoppedWith o.answer.stop n at
        back z =
            let w = z.refused_with in
            let e = (refused (receive s z.y z.m).answer w.refusal).1 w.is in
            record {
              refusal = w.refusal;
              place = packet_place z.start w.refusal;
              is = stop_message z.ok z.m z.start z.y z.comes w.refusal e;
              number = w.number;
              counted = ap (packet_place z.start) (the_refusal w) ∙ z.counted;
            }

    -- the state that a message is offered to passes the checks 1 to 6 and 12
    still_passed : Passed s x → {m : List ℕ} {start : ℕ} {y : State} → ComesTo s x b m start y → Passed s y
    still_passed ok c = subst (Passed s) (sym c.state) (passed_each s c.before x ok c.taken)

    -- a message that is cut ends with the packet
    ended : {m : List ℕ} {start : ℕ} {y : State} → ComesTo s x b m start y → (p : ℕ) → CutMessage m p → (p ≡ length m) × (length m < length_of m) × (start + length m ≡ length b)
    ended {m} {start} c p q = go p q (piece (packed b) c.before m c.behind c.cut)
      where
        go : (p : ℕ) → CutMessage m p → (length m ≡ length_of m) ⊎ ((length m < length_of m) × (bytes_in c.before + length m ≡ length b))
            → (p ≡ length m) × (length m < length_of m) × (start + length m ≡ length b)
        go p (early h) (inl e) = absurd (omega arith)
        go p (early h) (inr e) = (refl, h, omega (arith, e.1, c.starts))
        go p (extra h) (inl e) = absurd (omega arith)
        go p (extra h) (inr e) = absurd (omega (arith, e.0))

    first_six : (m : List ℕ) (n at : ℕ) → (n ≤ 6) ⊎ (n ≡ 12) → StoppedWith o.answer.stop n at ↔ RefusedWith (reply (receive s x m).answer) n at
    first_six m n at l = (λ w. there (told n at w), λ w. back w (first_failed (firsts x)) refl)
      where
        not_later : (n ≤ 6) ⊎ (n ≡ 12) → (7 ≤ n) × (n ≤ 9) → ⊥
        not_later (inl q) h = omega (arith, q, h)
        not_later (inr q) h = omega (arith, q, h)

        there : Told n at → RefusedWith (reply (receive s x m).answer) n at
        there (first r f e h) = record { refusal = r; is = ap reply (refuses_all x r f m); number = e; place = sym (first_place r) ∙ h }
        there (message ok d start y c r f e h) = absurd (not_later l (subst (λ (k : ℕ). (7 ≤ k) × (k ≤ 9)) e (later_number y d r (still_passed ok c) f)))

        back : RefusedWith (reply (receive s x m).answer) n at → (a : Checked) → first_failed (firsts x) ≡ a → StoppedWith o.answer.stop n at
        back w (Ok _) e =
            absurd (not_later l (subst (λ (k : ℕ). (7 ≤ k) × (k ≤ 9)) w.number (later_number x m w.refusal ((first_law x).0 e) ((refused (receive s x m).answer w.refusal).1 w.is))))
        back w (Err r) e =
            let g : r ≡ w.refusal = same_refusal r w.refusal (sym (ap reply (refuses_all x r e m)) ∙ w.is) in
            record {
              refusal = r;
              place = packet_place 0 r;
              is = stop_first r e;
              number = ap refusal_number g ∙ w.number;
              counted = first_place r ∙ ap refusal_place g ∙ w.place;
            }

    no_other : (n at : ℕ) → Told n at → ((1 ≤ n) × (n ≤ 9)) ⊎ (n ≡ 12)
    no_other n at (first r f e h) = go (first_number x r f)
      where
        go : ((1 ≤ refusal_number r) × (refusal_number r ≤ 6)) ⊎ (refusal_number r ≡ 12) → ((1 ≤ n) × (n ≤ 9)) ⊎ (n ≡ 12)
        go (inl q) = inl (omega (arith, q, e))
        go (inr q) = inr (sym e ∙ q)
    no_other n at (message ok m start y c r f e h) = inl (omega (arith, later_number y m r (still_passed ok c) f, e))

    to_end : (e : Option Stopped) → Way e → e ≡ None → Passed s x × EachTaken s x (messages_of b)
    to_end e (at_first r f) i = let z : ◌≡◌ {A = ℕ} 0 1 = cc in absurd (omega arith)
    to_end e (at_message ok m start y c r f) i = let z : ◌≡◌ {A = ℕ} 0 1 = cc in absurd (omega arith)
    to_end e (at_end ok t) i = (ok, t)

    -- where none is taken, the state is as it was
    nothing_went : length went ≡ 0 → (o.answer.taken ≡ 0) × (o.state ≡ x)
    nothing_went e = (packet_settled.taken ∙ e, packet_settled.state ∙ ap (λ (l : List (List ℕ)). run_calls s x (map Receive l)) (no_length went e))
      where
        no_length : (l : List (List ℕ)) → length l ≡ 0 → l ≡ []
        no_length [] e = refl
        no_length (m ∷ ms) e = absurd (omega arith)

    pub packet_causes : PacketCauses s x b (receive_packet s x b)
    packet_causes = record {
      first_six = first_six;
      seven = λ at. (
        λ w.
            let z = (by_message 7 at (omega arith)).0 w in
            let q = ended z.comes z.place (((demand_1.take s z.y z.m).seven z.place).0 z.refused_with).1 in
            (z.ok, omega (arith, q.0, q.2, z.counted), (z.m, z.start, z.y, z.comes, q.1)),
        λ q.
            let c = q.2.3 in
            let r = ((demand_1.take s q.2.2 q.2.0).seven (length q.2.0)).1 (still_passed q.0 c, early q.2.4) in
            (by_message 7 at (omega arith)).1
            (record { ok = q.0; m = q.2.0; start = q.2.1; y = q.2.2; comes = c; place = length q.2.0; refused_with = r; counted = (ended c _ (early q.2.4)).2 ∙ sym q.1 }),
      );
      eight = λ at. (
        λ w.
            let z = (by_message 8 at (omega arith)).0 w in
            let q = ((demand_1.take s z.y z.m).eight z.place).0 z.refused_with in
            (z.ok, (z.m, z.y, subst (λ (k : ℕ). ComesTo s x b z.m k z.y) z.counted z.comes, q.2, q.3)),
        λ q.
            let r = ((demand_1.take s q.1.1 q.1.0).eight 0).1 (refl, still_passed q.0 q.1.2, q.1.3, q.1.4) in
            (by_message 8 at (omega arith)).1
            (record { ok = q.0; m = q.1.0; start = at; y = q.1.1; comes = q.1.2; place = 0; refused_with = r; counted = refl }),
      );
      nine = λ at. (
        λ w.
            let z = (by_message 9 at (omega arith)).0 w in
            let q = ((demand_1.take s z.y z.m).nine z.place).0 z.refused_with in
            (z.ok, (z.m, z.y, subst (λ (k : ℕ). ComesTo s x b z.m k z.y) z.counted z.comes, q.2, q.3)),
        λ q.
            let r = ((demand_1.take s q.1.1 q.1.0).nine 0).1 (refl, still_passed q.0 q.1.2, q.1.3, q.1.4) in
            (by_message 9 at (omega arith)).1
            (record { ok = q.0; m = q.1.0; start = at; y = q.1.1; comes = q.1.2; place = 0; refused_with = r; counted = refl }),
      );
      no_other = λ n at w. no_other n at (told n at w);
      at_end = (to_end o.answer.stop way, λ q. stop_end q.0 q.1);
      taken = packet_settled.taken ∙ sym (ap length (walk_accepted s (messages_of b) x (walk s (messages_of b) x)) ∙ length-map went meaning_of);
      unwritten = λ e. (nothing_went (sym packet_settled.taken ∙ e)).1;
      empty = λ e.
          let w = walk s (messages_of b) x in
          let l : length (messages_of b) ≡ 0 = ap (λ (c : List ℕ). length (messages_of c)) e ∙ ap length messages_none in
          nothing_went (omega (arith, l, ap length w.whole, length-append w.went w.left));
    }

    pub packet_sheets : 0 < o.answer.taken → Sheets (policy_of s) o.state
    packet_sheets h = rw packet_settled.state (some went (omega (arith, packet_settled.taken, h)) (walk s (messages_of b) x).each)
      where
        some : (l : List (List ℕ)) → 0 < length l → EachTaken s x l → Sheets (policy_of s) (run_calls s x (map Receive l))
        some [] h t = absurd (omega arith)
        some (m ∷ ms) h t = sheets_each s ms (receive s x m).state (demand_2.sheets s x m t.0) t.1
