-- Packets, proved: a packet is its takes one by one, so a list that holds packets is a list of takes, of which demand 3 speaks. Where all that such a
-- list brings is well_formed and one trace admits it, no take is refused, and so it does not matter how it is packed.
use Rattle.std.specs.Prelude.{ℕ, ◌+◌, ◌≤◌, ◌<◌, ◌≡◌, refl, ◌⊎◌, ◌↔◌, ◌≢◌, length, take, Ok}
use Rattle.std.proofs.Common.{arith, sym, ap, ap₂, subst, ◌∙◌, inl, inr}
use mathlib.Core.List.Memᴰ
use mathlib.Core.List.{List, [], ◌∷◌, ◌++◌, map, append-nil, append_assoc, Memᴰ}
use Rattle.std.proofs.Math.Seq.{take-append_seam}
use Rattle.refusal.proofs.Table.{packet_table}
use Rattle.policy.specs.Format.{policy_of}
use Rattle.message.specs.Format.{messages_of}
use Rattle.message.specs.Packet.{Packed}
use Rattle.message.proofs.First.{packed, only_packed}
use Rattle.message.specs.Fixes.{WellFormed, meaning_of}
use Rattle.message.specs.declared.Message.{Message}
use Rattle.knowledge.specs.Trace.{Trace, Admits, AdmitsAll}
use Rattle.monitor.specs.State.{State, open_state, receive, PacketOutcome, take_each, receive_packet, Call, Receive, run_calls, after, Taken, accepted_from, accepted, Offers, by_take, Offered, Entry, Single, Packet, entry_state, entry_accepted, offers_each, entry_takes, run_entries, accepted_entries, takes_entries}
use Rattle.monitor.specs.Demands.{sizes_of, shown, Plain, EachTaken, bytes_in, Same, Packets, after_entries, accepted_in, takes_of, Brings, alone, inside, Brought, Demand3Packets}
use Rattle.demands.proofs.Runs.{run_append}
use Rattle.demands.proofs.Causes.{via, back}
use Rattle.demands.proofs.Proved.{demand_3}
use Rattle.demands.proofs.Walks.{accepted_append, each_before, offers_before, accepted_each, walk, walk_taken, walk_offered, walk_run, walk_accepted, so_many, one_more}
use Rattle.demands.proofs.Stops.{packet_plain, packet_settled, packet_causes, packet_sheets}

-- ---- packets

packet_state : (s : List ℕ) (x : State) (b : List ℕ) → (receive_packet s x b).state ≡ run_calls s x (offers_each s x (messages_of b))
packet_state s x b = (packet_settled s x b).state ∙ sym (walk_run s (messages_of b) x (walk s (messages_of b) x))

pub packets : Packets
packets = record {
  table = packet_table;
  cut = λ b ms. (λ p. only_packed p, λ e. subst (Packed b) (sym e) (packed b));
  causes = packet_causes;
  plain = packet_plain;
  state = packet_state;
  remain = λ s x b.
      let w = walk s (messages_of b) x in
      (packet_settled s x b).state
      ∙ ap (λ (l : List (List ℕ)). run_calls s x (map Receive l))
      (sym (ap₂ (λ (n : ℕ) (l : List (List ℕ)). take n l) (packet_settled s x b).taken w.whole ∙ take-append_seam w.went w.left));
  offered = λ s x b.
      walk_offered s (messages_of b) x (walk s (messages_of b) x)
      ∙ ap (λ (n : ℕ). map Receive (take (n + 1) (messages_of b))) (sym (packet_settled s x b).taken);
  sheets = packet_sheets;
}

-- ---- lists that hold packets are lists of takes

module _ (s : List ℕ) where
  entry_run : (x : State) (e : Entry) → entry_state s x e ≡ run_calls s x (entry_takes s x e)
  entry_run x (Single c) = refl
  entry_run x (Packet b) = packet_state s x b

  entry_means : (x : State) (e : Entry) → entry_accepted s x e ≡ accepted_from s x (entry_takes s x e)
  entry_means x (Single c) = sym (append-nil _)
  entry_means x (Packet b) =
      let w = walk s (messages_of b) x in
      let t : take (receive_packet s x b).answer.taken (messages_of b) ≡ w.went = ap₂ take (packet_settled s x b).taken w.whole ∙ take-append_seam w.went w.left in
      ap (map meaning_of) t ∙ sym (walk_accepted s (messages_of b) x w)

  entries_run : (es : List Entry) (x : State) → run_entries s x es ≡ run_calls s x (takes_entries s x es)
  entries_run [] x = refl
  entries_run (e ∷ es) x =
      let y = entry_state s x e in
      entries_run es y ∙ ap (λ (z : State). run_calls s z (takes_entries s y es)) (entry_run x e) ∙ sym (run_append s (entry_takes s x e) (takes_entries s y es) x)

  entries_mean : (es : List Entry) (x : State) → accepted_entries s x es ≡ accepted_from s x (takes_entries s x es)
  entries_mean [] x = refl
  entries_mean (e ∷ es) x =
      let y = entry_state s x e in
      ap₂ (λ (a b : List Message). a ++ b) (entry_means x e) (entries_mean es y ∙ ap (λ (z : State). accepted_from s z (takes_entries s y es)) (entry_run x e))
      ∙ sym (accepted_append s (entry_takes s x e) (takes_entries s y es) x)

  takes_append : (es ds : List Entry) (x : State) → takes_entries s x (es ++ ds) ≡ takes_entries s x es ++ takes_entries s (run_entries s x es) ds
  takes_append [] ds x = refl
  takes_append (e ∷ es) ds x =
      let y = entry_state s x e in
      ap (λ (l : List Call). entry_takes s x e ++ l) (takes_append es ds y)
      ∙ sym (append_assoc (entry_takes s x e) (takes_entries s y es) (takes_entries s (run_entries s y es) ds))

-- ---- from an opening on

module _ (s : List ℕ) (x : State) where
  abbrev start : State
  start = (open_state s x).state

  after_law : (es : List Entry) → after_entries s x es ≡ after s x (takes_of s x es)
  after_law es = entries_run s es start

  accepted_law : (es : List Entry) → accepted_in s x es ≡ accepted s x (takes_of s x es)
  accepted_law es = entries_mean s es start

  after_more : (es ds : List Entry) → after_entries s x (es ++ ds) ≡ after s x (takes_of s x es ++ takes_entries s (after_entries s x es) ds)
  after_more es ds = after_law (es ++ ds) ∙ ap (after s x) (takes_append s es ds start)

  -- inside a packet, behind some that are taken
  module _ (es : List Entry) (before : List (List ℕ)) where
    abbrev so_far : List Call
    so_far = takes_of s x es ++ map Receive before

    after_some : after s x so_far ≡ run_calls s (after_entries s x es) (map Receive before)
    after_some = run_append s (takes_of s x es) (map Receive before) start ∙ ap (λ (y : State). run_calls s y (map Receive before)) (sym (after_law es))

    accepted_some : EachTaken s (after_entries s x es) before → accepted s x so_far ≡ accepted_in s x es ++ map meaning_of before
    accepted_some t =
        accepted_append s (takes_of s x es) (map Receive before) start
        ∙ ap₂ (λ (a b : List Message). a ++ b) (sym (accepted_law es))
        (ap (λ (y : State). accepted_from s y (map Receive before)) (sym (after_law es)) ∙ accepted_each s before (after_entries s x es) t)

    module _ (b m : List ℕ) (behind : List (List ℕ)) (cut : messages_of b ≡ before ++ (m ∷ behind)) where
      abbrev here : State
      here = after_entries s x es

      counted : (receive_packet s here b).answer.taken ≡ (take_each s here 0 0 (before ++ (m ∷ behind))).answer.taken
      counted =
          let w = walk s (messages_of b) here in
          let e : 0 + length w.went ≡ length w.went = omega arith in
          (packet_settled s here b).taken ∙ sym (walk_taken s (messages_of b) here w 0 0 ∙ e)
          ∙ ap (λ (ms : List (List ℕ)). (take_each s here 0 0 ms).answer.taken) cut

      counted_on : EachTaken s here before
          → (receive_packet s here b).answer.taken ≡ (take_each s (run_calls s here (map Receive before)) (0 + length before) (0 + bytes_in before) (m ∷ behind)).answer.taken
      counted_on t = counted ∙ ap (λ (o : PacketOutcome). o.answer.taken) (each_before s before here t 0 0 (m ∷ behind))

      taken_in : length before ≤ (receive_packet s here b).answer.taken
          → EachTaken s here before × ((length before < (receive_packet s here b).answer.taken) ↔ Taken (receive s (run_calls s here (map Receive before)) m).answer)
      taken_in l =
          let t : EachTaken s here before = so_many s before here 0 0 (m ∷ behind) (omega (arith, l, counted)) in
          let q = one_more s m behind (run_calls s here (map Receive before)) (0 + length before) (0 + bytes_in before) in
          (t, (λ h. q.0 (omega (arith, h, counted_on t)), λ u. omega (arith, q.1 u, counted_on t)))

-- ---- all that a list brings

-- the takes that would offer all of it
abbrev brings_of : Entry → List Call
brings_of (Single c) = c ∷ []
brings_of (Packet b) = map Receive (messages_of b)

abbrev all_brought : List Entry → List Call
all_brought [] = []
all_brought (e ∷ es) = brings_of e ++ all_brought es

offered_law : (b : List ℕ) (cs : List Call) → Offered b cs ↔ Memᴰ (Receive b) cs
offered_law b cs = (λ o. go o.call o.is_call o.offers, λ h. record { call = Receive b; is_call = h; offers = by_take b })
  where
    go : (c : Call) → Memᴰ c cs → Offers c b → Memᴰ (Receive b) cs
    go (Receive d) h (by_take e) = h

brings_law : (b : List ℕ) (e : Entry) → Brings e b ↔ Memᴰ (Receive b) (brings_of e)
brings_law b e = (there e, back e)
  where
    there : (e : Entry) → Brings e b → Memᴰ (Receive b) (brings_of e)
    there (Single (Receive d)) (alone c) = Memᴰ.head refl
    there (Packet p) (inside q c h) = Memᴰ.map Receive h

    back : (e : Entry) → Memᴰ (Receive b) (brings_of e) → Brings e b
    back (Single (Receive d)) h =
        let e : Receive b ≡ Receive d = Memᴰ.eq_of_singleton h in
        let f : b ≡ d = cc in
        subst (λ (c : List ℕ). Brings (Single (Receive c)) b) f (alone b)
    back (Packet p) h =
        let q = Memᴰ.of_map Receive (messages_of p) h in
        let i : Receive q.0 ≡ Receive b = q.2 in
        let f : q.0 ≡ b = cc in
        inside p b (subst (λ (c : List ℕ). Memᴰ c (messages_of p)) f q.1)

brought_law : (b : List ℕ) (es : List Entry) → Brought b es ↔ Memᴰ (Receive b) (all_brought es)
brought_law b es = (λ q. there es q.entry q.is_entry q.brings, back es)
  where
    there : (es : List Entry) (e : Entry) → Memᴰ e es → Brings e b → Memᴰ (Receive b) (all_brought es)
    there [] e x'' q = elim x'' [ ]
    there (d ∷ es) e (Memᴰ.head i) q = Memᴰ.append_left (all_brought es) ((brings_law b d).0 (subst (λ (c : Entry). Brings c b) i q))
    there (d ∷ es) e (Memᴰ.tail h) q = Memᴰ.append_right (brings_of d) (there es e h q)

    back : (es : List Entry) → Memᴰ (Receive b) (all_brought es) → Brought b es
    back [] h = absurd (Memᴰ.not-nil h)
    back (e ∷ es) h = go (back es) (Memᴰ.append_cases (brings_of e) h)
      where
        go : (Memᴰ (Receive b) (all_brought es) → Brought b es) → Memᴰ (Receive b) (brings_of e) ⊎ Memᴰ (Receive b) (all_brought es) → Brought b (e ∷ es)
        go f (inl k) = record { entry = e; is_entry = Memᴰ.head refl; brings = (brings_law b e).1 k }
        go f (inr k) = let q = f k in record { entry = q.entry; is_entry = Memᴰ.tail q.is_entry; brings = q.brings }

-- where all of it is well_formed and the trace w admits it, all of it is offered, and taken
module _ (s : List ℕ) (x : State) (d : (open_state s x).answer ≡ Ok tt) (w : Trace (sizes_of s)) where
  abbrev Good : List ℕ → Type 0
  Good b = WellFormed (sizes_of s) b × Admits (sizes_of s) w (meaning_of b)

  -- a state after takes of which w admits all that was accepted
  record Ready (y : State) : Type 0 where
    calls : List Call
    at : y ≡ after s x calls
    held : AdmitsAll (sizes_of s) w (accepted s x calls)

  ready_take : (y : State) → Ready y → (b : List ℕ) → Good b → Taken (receive s y b).answer
  ready_take y z b g = rw z.at ((demand_3.accept s x d z.calls b).1 (g.0, (w, z.held, g.1)))

  ready_on : (y : State) → Ready y → (b : List ℕ) → Good b → Ready (receive s y b).state
  ready_on y z b g = record {
    calls = z.calls ++ (Receive b ∷ []);
    at = ap (λ (u : State). (receive s u b).state) z.at ∙ sym (run_append s z.calls (Receive b ∷ []) (open_state s x).state);
    held = λ m h. go m (Memᴰ.append_cases (accepted s x z.calls) (rw more at h));
  }
    where
      t : Taken (receive s (after s x z.calls) b).answer
      t = subst (λ (u : State). Taken (receive s u b).answer) z.at (ready_take y z b g)

      more : accepted s x (z.calls ++ (Receive b ∷ [])) ≡ accepted s x z.calls ++ (meaning_of b ∷ [])
      more =
          accepted_append s z.calls (Receive b ∷ []) (open_state s x).state
          ∙ ap (λ (l : List Message). accepted s x z.calls ++ l) (accepted_each s (b ∷ []) (after s x z.calls) (t, tt))

      go : (m : Message) → Memᴰ m (accepted s x z.calls) ⊎ Memᴰ m (meaning_of b ∷ []) → Admits (sizes_of s) w m
      go m (inl h) = z.held m h
      go m (inr h) = subst (Admits (sizes_of s) w) (sym (Memᴰ.eq_of_singleton h)) g.1

  ready_each : (ms : List (List ℕ)) (y : State) → Ready y → ((b : List ℕ) → Memᴰ b ms → Good b) → EachTaken s y ms × Ready (run_calls s y (map Receive ms))
  ready_each [] y z f = (tt, z)
  ready_each (m ∷ ms) y z f =
      let g = f m (Memᴰ.head refl) in
      let q = ready_each ms (receive s y m).state (ready_on y z m g) (λ b h. f b (Memᴰ.tail h)) in
      ((ready_take y z m g, q.0), q.1)

  ready_entry : (e : Entry) (y : State) → Ready y → ((b : List ℕ) → Brings e b → Good b) → (entry_takes s y e ≡ brings_of e) × Ready (entry_state s y e)
  ready_entry (Single (Receive b)) y z f = (refl, ready_on y z b (f b (alone b)))
  ready_entry (Packet p) y z f =
      let ms = messages_of p in
      let q = ready_each ms y z (λ b h. f b (inside p b h)) in
      let e : offers_each s y ms ≡ map Receive ms = ap (offers_each s y) (sym (append-nil ms)) ∙ offers_before s ms y q.0 [] ∙ append-nil (map Receive ms) in
      (e, subst Ready (sym (packet_state s y p ∙ ap (run_calls s y) e)) q.1)

  all_offered : (es : List Entry) (y : State) → Ready y → ((b : List ℕ) → Brought b es → Good b) → takes_entries s y es ≡ all_brought es
  all_offered [] y z f = refl
  all_offered (e ∷ es) y z f =
      let q = ready_entry e y z (λ b h. f b (record { entry = e; is_entry = Memᴰ.head refl; brings = h })) in
      ap₂ (λ (a b : List Call). a ++ b) q.0
      (all_offered es (entry_state s y e) q.1 (λ b h. f b (record { entry = h.entry; is_entry = Memᴰ.tail h.is_entry; brings = h.brings })))

  offered_all : (es : List Entry) → ((b : List ℕ) → Brought b es → Good b) → (b : List ℕ) → Brought b es ↔ Offered b (takes_of s x es)
  offered_all es f b =
      rw (all_offered es (open_state s x).state (record { calls = []; at = refl; held = λ m h. absurd (Memᴰ.not-nil h) }) f)
      (via (brought_law b es) (back (offered_law b (all_brought es))))

-- ---- demand 3, of lists that hold packets

pub demand_3_packets : Demand3Packets
demand_3_packets = record {
  takes = λ s x es. (after_law s x es, accepted_law s x es);
  accept = λ s x d es b. rw (after_law s x es, accepted_law s x es) (demand_3.accept s x d (takes_of s x es) b);
  accept_in = λ s x d es b before m behind cut l.
      let q = taken_in s x es before b m behind cut l in
      via q.1 (rw (← (after_some s x es before), ← (accepted_some s x es before q.0)) (demand_3.accept s x d (so_far s x es before) m));
  stand = λ s x d es ds r t h b n.
      ap (λ (y : State). shown (policy_of s) y r t) (after_more s x es ds)
      ∙ demand_3.stand s x d (takes_of s x es) (takes_entries s (after_entries s x es) ds) r t h b (subst (λ (y : State). shown (policy_of s) y r t ≢ 0) (after_law s x es) n)
      ∙ ap (λ (y : State). shown (policy_of s) y r t) (sym (after_law s x es));
  truth = λ s x d es r t h b n w a.
      subst (λ (y : State). Plain (policy_of s) w r t (shown (policy_of s) y r t)) (sym (after_law s x es))
      (demand_3.truth s x d (takes_of s x es) r t h b (subst (λ (y : State). shown (policy_of s) y r t ≢ 0) (after_law s x es) n) w
      (subst (AdmitsAll (sizes_of s) w) (accepted_law s x es) a));
  same = same;
  repacked = λ s x y d e xs ys f w g.
      let p = offered_all s x d w xs g in
      let q = offered_all s y e w ys (λ b h. g b ((f b).1 h)) in
      let z = same s x y d e xs ys (λ b v. via (back (p b)) (via (f b) (q b))) w (λ b h v. (g b ((p b).1 h)).1) in
      (p, z.0, z.1);
}
  where
    same : (s : List ℕ) (x y : State) → (open_state s x).answer ≡ Ok tt → (open_state s y).answer ≡ Ok tt → (xs ys : List Entry)
        → ((b : List ℕ) → WellFormed (sizes_of s) b → Offered b (takes_of s x xs) ↔ Offered b (takes_of s y ys))
        → (w : Trace (sizes_of s))
        → ((b : List ℕ) → Offered b (takes_of s x xs) → WellFormed (sizes_of s) b → Admits (sizes_of s) w (meaning_of b))
        → Same s x y (takes_of s x xs) (takes_of s y ys) × (after_entries s x xs ≡ after_entries s y ys)
    same s x y d e xs ys f w a =
        let z = demand_3.same s x y d e (takes_of s x xs) (takes_of s y ys) f w a in
        (z, after_law s x xs ∙ z.state ∙ sym (after_law s y ys))
