-- One turn of the packet's loop against one step of its definition; and the sheets worked once show what they show after the last of the takes one by
-- one, since each take rewrites them whole. Assumes nothing.
use Rattle.std.specs.Prelude.{None, Some, Err, Ok, Result}
use Rattle.message.specs.declared.Message.{Message}
use Prim.Native.Nat.{ℕ, ◌+◌, ◌-◌, ◌≤◌, ◌<◌}
use native.Mathlib.Omega.{arith}
use mathlib.Core.Path.{◌≡◌, refl, sym, ap, ap₂, subst, ◌∙◌}
use mathlib.Core.Bool.{Bool, true, false, cond}
use mathlib.Core.List.{List, [], ◌∷◌}
use lib.Dec.{leb}
use lib.ListN.{length, take, drop, length-drop, drop_of_length-le}
use lib.Seq.{drop-drop, length-take-le}
use borrow.Author.Tests.{eq-eqb, ne_eqb}
use borrow.Author.Rules.{part_to_end}
use Rattle.refusal.specs.declared.Refusal.{Refusal}
use Rattle.refusal.specs.declared.Refusal.TheVariants.{TruncatedMessage, BadMessage, Conflict}
use Rattle.refusal.specs.Numbers.{refusal_place, packet_place}
use Rattle.refusal.proofs.Numbers.{first_place}
use Rattle.refusal.specs.Checks.{Checked, check, first_failed, reply}
use Rattle.refusal.proofs.Laws.{replied}
use Rattle.policy.specs.declared.Sizes.{Sizes}
use Rattle.policy.specs.declared.Policy.{Policy}
use Rattle.policy.specs.Format.{answer_of, policy_of}
use Rattle.message.specs.declared.Step.{Step}
use Rattle.message.specs.Format.{good_message, length_of, decode_of, first_answer, first_of, used_of, rest_of, messages_of}
use Rattle.message.specs.Packet.{step_of}
use Rattle.message.proofs.First.{used_in, used_some, alone, messages_none, messages_some}
use Rattle.knowledge.specs.Knowledge.{Knowledge, Sound, stored, admits, Sized as Long}
use Rattle.knowledge.specs.Laws.{Limits}
use Rattle.knowledge.specs.Run.{held}
use Rattle.monitor.specs.declared.PacketAnswer.{PacketAnswer}
use Rattle.origin.specs.Origin.{Origin, origin_of}
use Rattle.origin.proofs.Origin.{origin_long}
use Rattle.monitor.specs.State.{State, Outcome, outcome, SizedSheets, Sized, over, rewritten, receive, PacketOutcome, packet_outcome, stopped, refused_at, ends_or, take_each, unless_packet, receive_packet, record_checks}
use Rattle.monitor.specs.Storing.{Ranged, Stored, stored_as, stored_unless, store_message, store_read, sheets_after, StoredPacket, stored_packet, stores, stores_or, store_each, sheets_once, take_packet}
use Rattle.monitor.specs.Checked.{checked_policy}
use Rattle.monitor.proofs.Laws.{knowledge_sized, plain_take, over_sized}
use Rattle.monitor_checks.proofs.Checking.{limits, passed_checks, refused_checks, record_read, record_under, record_sized, record_sound}
use Rattle.policy.specs.Proper.{Proper}
use Rattle.policy.proofs.Laws.{short}
use Rattle.monitor_calls.proofs.Storing.{refusal_keeps, still_long, still_sound, ranged, settle_read, take_read}

-- ---- the loop

first_answered : (z : Sizes) (s : List ℕ) → reply (first_of z s) ≡ first_answer z s
unfolding first_of
first_answered z s = replied (first_answer z s) _

-- where a refusal stands in a packet of l bytes
abbrev Within : ℕ → ℕ → Checked → Type 0
Within at l (Ok _) = Unit
Within at l (Err r) = packet_place at r ≤ l

within_first : (at l n : ℕ) → at + n ≤ l → (b c : Bool) → Within at l (first_failed (check b (TruncatedMessage n) ∷ check c BadMessage ∷ []))
within_first at l n h true true = tt
within_first at l n h true false = omega arith
within_first at l n h false c = h

within_stored : (z : Sizes) (k : Knowledge) (d : Result Message Refusal) (at l : ℕ) → at ≤ l → Within at l (reply d) → Within at l (store_read z k d).answer
unfolding store_message
within_stored z k (Err r) at l h w = w
within_stored z k (Ok m) at l h w = go (admits z k m)
  where
    go : (v : Bool) → Within at l (stored_unless (first_failed (check v Conflict ∷ [])) k (stored z k m)).answer
    go true = tt
    go false = h

module _ (z : Sizes) where
  -- what the loop keeps: n messages are taken from `at` bytes, and the rest of the packet ends as the whole does
  abbrev pub Going : List ℕ → Knowledge → Knowledge → ℕ → ℕ → Type 0
  Going s k₀ k n at =
      (n ≤ at) × (at ≤ length s) × Long z k × Sound z k × (store_each z k n at (messages_of (drop at s)) ≡ store_each z k₀ 0 0 (messages_of s))

  pub at_end : (s : List ℕ) (k₀ k : Knowledge) (n at : ℕ) → length s ≤ at → Going s k₀ k n at → stores n None k ≡ store_each z k₀ 0 0 (messages_of s)
  at_end s k₀ k n at h g =
      ap (λ (ms : List (List ℕ)). store_each z k n at ms) (sym (ap messages_of (drop_of_length-le s {i = at} h) ∙ messages_none)) ∙ g.4

  module _ (s : List ℕ) (k₀ k : Knowledge) (n at : ℕ) (some : at < length s) (g : Going s k₀ k n at) (limits : Limits z)
      (first : Step) (read : first ≡ step_of (first_of z (take (length s - at) (drop at s))) (rest_of (take (length s - at) (drop at s)))) where
    is_part : take (length s - at) (drop at s) ≡ drop at s
    is_part = part_to_end s at

    read_part : first ≡ step_of (first_of z (drop at s)) (rest_of (drop at s))
    read_part = read ∙ ap (λ (l : List ℕ). step_of (first_of z l) (rest_of l)) is_part

    part_length : length (drop at s) ≡ length s - at
    part_length = length-drop at s

    left : first.left ≡ length (drop at s) - used_of (drop at s)
    left = ap (λ (y : Step). y.left) read_part ∙ length-drop (used_of (drop at s)) (drop at s)

    -- the next message ends where what is left begins
    pub next_at : (first.left ≤ length s) × (at < length s - first.left) × (length s - first.left ≤ length s) × (length s - first.left ≡ at + used_of (drop at s))
    next_at =
        let u : used_of (drop at s) ≤ length (drop at s) = used_in (drop at s) in
        let o : 0 < used_of (drop at s) = used_some (drop at s) (omega (arith, part_length)) in
        omega (arith, part_length, left)

    decoded : first.decoded ≡ decode_of z (take (used_of (drop at s)) (drop at s))
    decoded = ap (λ (y : Step). y.decoded) read_part ∙ alone z (drop at s)

    pub decoded_ranged : Ranged z first.decoded
    decoded_ranged = subst (Ranged z) (sym decoded) (ranged z limits (take (used_of (drop at s)) (drop at s)))

    abbrev after_turn : StoredPacket
    after_turn =
        stores_or (store_read z k first.decoded).answer
        (λ r. stores n (refused_at at r) k)
        (store_each z (store_read z k first.decoded).known (n + 1) (at + used_of (drop at s)) (messages_of (rest_of (drop at s))))

    turn : after_turn ≡ store_each z k₀ 0 0 (messages_of s)
    turn =
        ap₂ (λ (d : Result Message Refusal) (m : ℕ). stores_or (store_read z k d).answer (λ r. stores n (refused_at at r) k)
        (store_each z (store_read z k d).known (n + 1) (at + m) (messages_of (rest_of (drop at s))))) decoded
        (sym (length-take-le (used_of (drop at s)) (drop at s) (used_in (drop at s))))
        ∙ ap (store_each z k n at) (sym (messages_some (drop at s) (omega (arith, part_length))))
        ∙ g.4

    module _ (a : Checked) (numbers facts : List ℕ) (e : stored_as a numbers facts ≡ store_read z k first.decoded) where
      abbrev says : (store_read z k first.decoded).answer ≡ a
      says = ap (λ (y : Stored). y.answer) (sym e)

      -- a refusal stands in the packet
      pub place_within : (r : Refusal) → a ≡ Err r → packet_place at r ≤ length s
      unfolding first_answer
      place_within r h = subst (Within at (length s)) (says ∙ h) (within_stored z k first.decoded at (length s) (omega arith) answer)
        where
          answer : Within at (length s) (reply first.decoded)
          answer =
              subst (Within at (length s)) (sym (ap (λ (y : Step). reply y.decoded) read_part ∙ first_answered z (drop at s)))
              (within_first at (length s) (length (drop at s)) (omega (arith, part_length)) (leb (length_of (drop at s)) (length (drop at s))) (good_message z (drop at s)))

      pub turned_down : (r : Refusal) → a ≡ Err r → (place : ℕ) → place ≡ packet_place at r
          → stored_packet (record { taken = n; stop = Some (record { refusal = r; place = place }) }) numbers facts ≡ store_each z k₀ 0 0 (messages_of s)
      turned_down r h place q =
          let kept : held numbers facts ≡ k = ap (λ (y : Stored). y.known) e ∙ refusal_keeps z k first.decoded r (says ∙ h) in
          ap₂ (λ (m : ℕ) (y : Knowledge). stores n (Some (record { refusal = r; place = m })) y) q kept
          ∙ sym (ap (λ (c : Checked). stores_or c (λ r. stores n (refused_at at r) k)
          (store_each z (store_read z k first.decoded).known (n + 1) (at + used_of (drop at s)) (messages_of (rest_of (drop at s))))) (says ∙ h))
          ∙ turn

      pub goes_on : a ≡ Ok tt → Going s k₀ (held numbers facts) (n + 1) (length s - first.left)
      goes_on h =
          let o = next_at in
          let kept : held numbers facts ≡ (store_read z k first.decoded).known = ap (λ (y : Stored). y.known) e in (
            omega (arith, g.0, o.1),
            o.2,
            subst (Long z) (sym kept) (still_long z k first.decoded g.2 decoded_ranged),
            subst (Sound z) (sym kept) (still_sound z k first.decoded g.3),
            ap₂ (λ (y : Knowledge) (m : ℕ). store_each z y (n + 1) m (messages_of (drop m s))) kept o.3
                ∙ ap (λ (l : List ℕ). store_each z (store_read z k first.decoded).known (n + 1) (at + used_of (drop at s)) (messages_of l)) (sym (drop-drop (used_of (drop at s)) at s))
                ∙ sym (ap (λ (c : Checked). stores_or c (λ r. stores n (refused_at at r) k)
                (store_each z (store_read z k first.decoded).known (n + 1) (at + used_of (drop at s)) (messages_of (rest_of (drop at s))))) (says ∙ h))
                ∙ turn,
          )

-- ---- what is stored

-- the record after a message, and what is stored of those behind it
abbrev known_after : Sizes → Knowledge → List ℕ → Knowledge
known_after z k m = (store_read z k (decode_of z m)).known

abbrev behind : Sizes → Knowledge → ℕ → ℕ → List ℕ → List (List ℕ) → StoredPacket
behind z k n at m ms = store_each z (known_after z k m) (n + 1) (at + length m) ms

-- what holds where the message is refused, and of those behind it, holds either way
either_way : (P : StoredPacket → Type 0) (z : Sizes) (k : Knowledge) (n at : ℕ) (m : List ℕ) (ms : List (List ℕ))
    → ((r : Refusal) → P (stores n (refused_at at r) k)) → P (behind z k n at m ms) → P (store_each z k n at (m ∷ ms))
either_way P z k n at m ms f g = go (store_read z k (decode_of z m)).answer
  where
    go : (a : Checked) → P (stores_or a (λ r. stores n (refused_at at r) k) (behind z k n at m ms))
    go (Ok _) = g
    go (Err r) = f r

taken_more : (z : Sizes) (k : Knowledge) (n at : ℕ) (ms : List (List ℕ)) → n ≤ (store_each z k n at ms).answer.taken
taken_more z k n at [] = omega arith
taken_more z k n at (m ∷ ms) =
    either_way (λ o. n ≤ o.answer.taken) z k n at m ms (λ r. omega arith) (omega (arith, taken_more z (known_after z k m) (n + 1) (at + length m) ms))

-- where none is taken the record is kept
none_kept : (z : Sizes) (k : Knowledge) (n at : ℕ) (ms : List (List ℕ)) → (store_each z k n at ms).answer.taken ≡ n → (store_each z k n at ms).known ≡ k
none_kept z k n at [] e = refl
none_kept z k n at (m ∷ ms) e =
    either_way (λ o. o.answer.taken ≡ n → o.known ≡ k) z k n at m ms (λ r q. refl)
    (λ q. absurd (omega (arith, q, taken_more z (known_after z k m) (n + 1) (at + length m) ms))) e

-- what is left is of its sizes and sound
each_kept : (z : Sizes) → Limits z → (ms : List (List ℕ)) (k : Knowledge) → Long z k → Sound z k → (n at : ℕ)
    → Long z (store_each z k n at ms).known × Sound z (store_each z k n at ms).known
each_kept z limits [] k l h n at = (l, h)
each_kept z limits (m ∷ ms) k l h n at =
    either_way (λ o. Long z o.known × Sound z o.known) z k n at m ms (λ r. (l, h))
    (each_kept z limits ms (known_after z k m) (still_long z k (decode_of z m) l (ranged z limits m)) (still_sound z k (decode_of z m) h) (n + 1) (at + length m))

-- ---- the sheets, once

-- an answer over both sheets
abbrev read_over : Policy → Origin → StoredPacket → PacketOutcome
read_over p u o = record { answer = o.answer; state = over p u o.known }

module _ (s : List ℕ) (card : answer_of s ≡ Ok tt) (limits : Limits (policy_of s).sizes) where
  abbrev z : Sizes
  z = (policy_of s).sizes

  -- what a take leaves, from what it stores
  take_stored : (x : State) → Sized (policy_of s) x → x.origin ≡ origin_of s → Sound z x.known → (m : List ℕ)
      → receive s x m ≡ settle_read (policy_of s) x (decode_of z m)
  take_stored x y u h m = plain_take s x card y u h m ∙ sym (take_read (policy_of s) x m)

  -- how the takes go on after one
  abbrev onward : ℕ → ℕ → List ℕ → List (List ℕ) → Outcome ℕ → PacketOutcome
  onward n at m ms o = ends_or o.answer (λ r. stopped n (refused_at at r) o.state) (take_each s o.state (n + 1) (at + length m) ms)

  -- from sheets that are the reading
  abbrev here : Knowledge → State
  here = over (policy_of s) (origin_of s)

  over_each : (ms : List (List ℕ)) (k : Knowledge) → Long z k → Sound z k → (n at : ℕ)
      → take_each s (here k) n at ms ≡ read_over (policy_of s) (origin_of s) (store_each z k n at ms)
  over_each [] k l h n at = refl
  over_each (m ∷ ms) k l h n at =
      ap (onward n at m ms) (take_stored (here k) (over_sized (policy_of s) (origin_of s) k (origin_long s (short s card)) l) refl h m)
      ∙ go (store_read z k (decode_of z m)).answer
      (over_each ms (known_after z k m) (still_long z k (decode_of z m) l (ranged z limits m)) (still_sound z k (decode_of z m) h) (n + 1) (at + length m))
    where
      go : (a : Checked)
          → take_each s (here (known_after z k m)) (n + 1) (at + length m) ms ≡ read_over (policy_of s) (origin_of s) (behind z k n at m ms)
          → onward n at m ms (sheets_after (policy_of s) (here k) a (known_after z k m))
          ≡ read_over (policy_of s) (origin_of s) (stores_or a (λ r. stores n (refused_at at r) k) (behind z k n at m ms))
      go (Ok _) rest = rest
      go (Err r) rest = refl

  -- from any sheets
  pub once : (x : State) → Sized (policy_of s) x → x.origin ≡ origin_of s → Sound z x.known → (ms : List (List ℕ))
      → sheets_once (policy_of s) x (store_each z x.known 0 0 ms) ≡ take_each s x 0 0 ms
  once x y u h [] = refl
  once x y u h (m ∷ ms) = sym (ap (onward 0 0 m ms) (take_stored x y u h m) ∙ go (store_read z x.known (decode_of z m)).answer)
    where
      worked : (o : StoredPacket) → 1 ≤ o.answer.taken → sheets_once (policy_of s) x o ≡ read_over (policy_of s) x.origin o
      worked o l = ap (λ (b : Bool). record { answer = o.answer; state = cond b x (over (policy_of s) x.origin o.known) }) (ne_eqb o.answer.taken 0 (omega arith))

      -- the takes behind it, from the same origin
      behind_it : (k : Knowledge) → Long z k → Sound z k
          → take_each s (over (policy_of s) x.origin k) (0 + 1) (0 + length m) ms ≡ read_over (policy_of s) x.origin (store_each z k (0 + 1) (0 + length m) ms)
      behind_it k l h = rw u (over_each ms k l h (0 + 1) (0 + length m))

      go : (a : Checked) → onward 0 0 m ms (sheets_after (policy_of s) x a (known_after z x.known m))
          ≡ sheets_once (policy_of s) x (stores_or a (λ r. stores 0 (refused_at 0 r) x.known) (behind z x.known 0 0 m ms))
      go (Ok _) =
          behind_it (known_after z x.known m)
          (still_long z x.known (decode_of z m) (knowledge_sized (policy_of s) y.sheets) (ranged z limits m)) (still_sound z x.known (decode_of z m) h)
          ∙ sym (worked (behind z x.known 0 0 m ms) (taken_more z (known_after z x.known m) (0 + 1) (0 + length m) ms))
      go (Err r) = refl

-- ---- the call

module _ (s : List ℕ) (x : State) (b : List ℕ) where
  pub packet_refused : (r : Refusal) → Err r ≡ checked_policy (record_checks s x) s → (place : ℕ) → place ≡ refusal_place r
      → stopped 0 (Some (record { refusal = r; place = place })) x ≡ receive_packet s x b
  unfolding receive_packet
  packet_refused r e place q =
      ap (λ (m : ℕ). stopped 0 (Some (record { refusal = r; place = m })) x) (q ∙ sym (first_place r))
      ∙ sym (ap (λ (a : Checked). unless_packet a x (take_each s x 0 0 (messages_of b))) (refused_checks (record_checks s x) s r e))

  pub packet_taken : (p : Policy) → Ok p ≡ checked_policy (record_checks s x) s → (o : PacketOutcome) → o ≡ take_packet p x b → o ≡ receive_packet s x b
  unfolding receive_packet
  packet_taken p e o f =
      let r = record_read s x p e in
      let q = r.same in
      f ∙ ap (λ (y : Policy). take_packet y x b) q
      ∙ once s r.card (limits (policy_of s) (subst Proper q r.proper)) x
      (subst (λ (y : Policy). Sized y x) q (record_sized s x p e)) (record_under s x p e) (subst (λ (y : Policy). Sound y.sizes x.known) q (record_sound s x p e)) (messages_of b)
      ∙ sym (ap (λ (a : Checked). unless_packet a x (take_each s x 0 0 (messages_of b))) (passed_checks (record_checks s x) s p e).0)

-- ---- the packet that was stored

module _ (p : Policy) (x : State) (b n f : List ℕ) (a : PacketAnswer) (e : stored_packet a n f ≡ store_each p.sizes x.known 0 0 (messages_of b)) where
  -- nothing is written where none is taken
  pub none_taken : a.taken ≡ 0 → packet_outcome a n f x.valuation x.verdicts x.origin ≡ take_packet p x b
  none_taken h =
      let t : (store_each p.sizes x.known 0 0 (messages_of b)).answer.taken ≡ 0 = ap (λ (o : StoredPacket). o.answer.taken) (sym e) ∙ h in
      let k : held n f ≡ x.known = ap (λ (o : StoredPacket). o.known) e ∙ none_kept p.sizes x.known 0 0 (messages_of b) t in
      ap (λ (y : Knowledge). record { answer = a; state = record { known = y; valuation = x.valuation; verdicts = x.verdicts; origin = x.origin } }) k
      ∙ sym (ap (λ (v : Bool). record { answer = a; state = cond v x (over p x.origin (held n f)) }) (eq-eqb a.taken 0 h))
      ∙ ap (sheets_once p x) e

  -- and else both sheets are rewritten
  pub some_taken : (v d : List ℕ) (m : ℕ) → (a.taken ≡ 0 → ⊥) → outcome (Ok m) n f v d x.origin ≡ rewritten p x.origin (held n f)
      → packet_outcome a n f v d x.origin ≡ take_packet p x b
  some_taken v d m h g =
      ap (λ (o : Outcome ℕ). record { answer = a; state = o.state }) g
      ∙ sym (ap (λ (c : Bool). record { answer = a; state = cond c x (over p x.origin (held n f)) }) (ne_eqb a.taken 0 h))
      ∙ ap (sheets_once p x) e

-- what the sheets need
pub some_needs : (p : Policy) (k : Knowledge) (v w b n f : List ℕ) (a : PacketAnswer) → stored_packet a n f ≡ store_each p.sizes k 0 0 (messages_of b)
    → Proper p → SizedSheets p k v w → Sound p.sizes k → SizedSheets p (held n f) v w × Sound p.sizes (held n f)
some_needs p k v w b n f a e q z s =
    let i : (store_each p.sizes k 0 0 (messages_of b)).known ≡ held n f = ap (λ (o : StoredPacket). o.known) (sym e) in
    let r = each_kept p.sizes (limits p q) (messages_of b) k (knowledge_sized p z) s 0 0 in
    let l : Long p.sizes (held n f) = subst (Long p.sizes) i r.0 in (
      record { numbers = l.numbers; facts = l.facts; valuation = z.valuation; verdicts = z.verdicts },
      subst (Sound p.sizes) i r.1,
    )
