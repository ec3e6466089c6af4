-- What a message leaves in the record, and what a take makes of it: its reader's answer, then 9, then the store. Assumes nothing.
use Rattle.std.specs.Prelude.{Err, Ok, Result}
use Rattle.message.specs.declared.Message.{Message}
use Prim.Native.Nat.{ℕ, ◌-◌, ◌<◌}
use native.Mathlib.Omega.{arith}
use mathlib.Core.Path.{◌≡◌, refl, sym, ap, subst, ◌∙◌}
use mathlib.Core.Bool.{Bool, true, false}
use mathlib.Core.List.{List, [], ◌∷◌}
use lib.ListN.{length, length-drop}
use Rattle.logic.proofs.Bools.{both}
use Rattle.refusal.specs.declared.Refusal.{Refusal}
use Rattle.refusal.specs.declared.Refusal.TheVariants.{TruncatedMessage, Conflict}
use Rattle.refusal.specs.Checks.{Checked, check, first_failed}
use Rattle.refusal.proofs.Laws.{not_accepted}
use Rattle.policy.specs.declared.Sizes.{Sizes}
use Rattle.policy.specs.declared.Policy.{Policy}
use Rattle.policy.specs.Proper.{Proper}
use Rattle.message.specs.declared.Step.{Step}
use Rattle.message.specs.Format.{length_of, decode_of, first_of, used_of, rest_of}
use Rattle.message.specs.Packet.{step_of}
use Rattle.message.proofs.First.{either, used_whole, used_early, used_in, single}
use Rattle.message.specs.Fixes.{Fits}
use Rattle.message.proofs.Laws.{fits}
use Rattle.knowledge.specs.Knowledge.{Knowledge, Sound, sound, stored, free, admits, Sized as Long}
use Rattle.knowledge.specs.Laws.{Limits}
use Rattle.knowledge.proofs.Laws.{sound_law}
use Rattle.knowledge.proofs.Store.{store_long}
use Rattle.knowledge.specs.Run.{held}
use Rattle.monitor.specs.State.{State, Outcome, lent, SizedSheets, rewritten, take_message}
use Rattle.monitor.specs.Storing.{Ranged, Stored, stored_as, stored_unless, store_message, store_read, sheets_after, settle_message}
use Rattle.monitor.proofs.Laws.{knowledge_sized}
use Rattle.monitor_checks.proofs.Checking.{limits}
use Rattle.monitor_calls.proofs.Calls.{hear, message_answered, message_refused, message_conflict, message_taken}

-- ---- the record

-- what is stored, by the answer of 9
abbrev stored_by : Bool → Knowledge → Knowledge → Stored
stored_by b k next = stored_unless (first_failed (check b Conflict ∷ [])) k next

by_refusal : (b : Bool) (k next : Knowledge) (r : Refusal) → (stored_by b k next).answer ≡ Err r → (stored_by b k next).known ≡ k
by_refusal true k next r e = absurd (not_accepted r (sym e))
by_refusal false k next r e = refl

by_either : (P : Knowledge → Type 0) (b : Bool) (k next : Knowledge) → P k → (b ≡ true → P next) → P (stored_by b k next).known
by_either P true k next h f = f refl
by_either P false k next h f = h

module _ (z : Sizes) (k : Knowledge) (m : Message) where
  pub store_conflict : admits z k m ≡ false → record { answer = Err Conflict; known = k } ≡ store_message z k m
  unfolding store_message
  store_conflict f = rw f refl

  pub store_taken : (next : Knowledge) → admits z k m ≡ true → next ≡ stored z k m → record { answer = Ok tt; known = next } ≡ store_message z k m
  unfolding store_message
  store_taken next f g = rw (f, g) refl

  -- a refusal keeps the record
  message_keeps : (r : Refusal) → (store_message z k m).answer ≡ Err r → (store_message z k m).known ≡ k
  unfolding store_message
  message_keeps r e = by_refusal (admits z k m) k (stored z k m) r e

  -- what is left is of its sizes and sound
  message_long : Long z k → Fits z m → Long z (store_message z k m).known
  unfolding store_message
  message_long l f = by_either (Long z) (admits z k m) k (stored z k m) l (λ g. store_long z k m l f)

  message_sound : Sound z k → Sound z (store_message z k m).known
  unfolding store_message admits
  message_sound s =
      by_either (Sound z) (admits z k m) k (stored z k m) s
      (λ g. (sound_law z (stored z k m)).0 (both (free z k m) (sound z (stored z k m)) g).1)

-- the same of what was read
module _ (z : Sizes) (k : Knowledge) where
  pub refusal_keeps : (d : Result Message Refusal) (r : Refusal) → (store_read z k d).answer ≡ Err r → (store_read z k d).known ≡ k
  refusal_keeps (Ok m) r e = message_keeps z k m r e
  refusal_keeps (Err q) r e = refl

  pub still_long : (d : Result Message Refusal) → Long z k → Ranged z d → Long z (store_read z k d).known
  still_long (Ok m) l f = message_long z k m l f
  still_long (Err r) l f = l

  pub still_sound : (d : Result Message Refusal) → Sound z k → Sound z (store_read z k d).known
  still_sound (Ok m) s = message_sound z k m s
  still_sound (Err r) s = s

-- a message that is read is in range
pub ranged : (z : Sizes) → Limits z → (b : List ℕ) → Ranged z (decode_of z b)
ranged z l b = go (decode_of z b) refl
  where
    go : (d : Result Message Refusal) → d ≡ decode_of z b → Ranged z d
    go (Ok m) e = let h = hear z b m e in subst (Fits z) (sym h.same) (fits z l.propositions_most b h.formed)
    go (Err r) e = tt

-- ---- a take

module _ (p : Policy) (x : State) (m : Message) (n f : List ℕ) where
  pub settle_refused : (r : Refusal) → stored_as (Err r) n f ≡ store_message p.sizes x.known m
      → record { answer = Err r; state = lent n f x.valuation x.verdicts x.origin } ≡ settle_message p x m
  settle_refused r e =
      let s : (store_message p.sizes x.known m).answer ≡ Err r = ap (λ (y : Stored). y.answer) (sym e) in
      let k : held n f ≡ x.known = ap (λ (y : Stored). y.known) e ∙ message_keeps p.sizes x.known m r s in
      ap (λ (y : Knowledge). record { answer = Err r; state = record { known = y; valuation = x.valuation; verdicts = x.verdicts; origin = x.origin } }) k
      ∙ sym (ap (λ (c : Checked). sheets_after p x c (store_message p.sizes x.known m).known) s)

  pub settle_taken : stored_as (Ok tt) n f ≡ store_message p.sizes x.known m → (o : Outcome ℕ) → o ≡ rewritten p x.origin (held n f) → o ≡ settle_message p x m
  settle_taken e o g = g ∙ ap (λ (y : Stored). sheets_after p x y.answer y.known) e

-- what the sheets need
pub settle_needs : (p : Policy) (k : Knowledge) (v w : List ℕ) (m : Message) (n f : List ℕ) (a : Checked) → stored_as a n f ≡ store_message p.sizes k m
    → SizedSheets p k v w → Sound p.sizes k → Fits p.sizes m → SizedSheets p (held n f) v w × Sound p.sizes (held n f)
settle_needs p k v w m n f a e z s r =
    let q : (store_message p.sizes k m).known ≡ held n f = ap (λ (y : Stored). y.known) (sym e) in
    let l : Long p.sizes (held n f) = subst (Long p.sizes) q (message_long p.sizes k m (knowledge_sized p z) r) in (
      record { numbers = l.numbers; facts = l.facts; valuation = z.valuation; verdicts = z.verdicts },
      subst (Sound p.sizes) q (message_sound p.sizes k m s),
    )

-- what is made of what was read
abbrev pub settle_read : Policy → State → Result Message Refusal → Outcome ℕ
settle_read p x d = sheets_after p x (store_read p.sizes x.known d).answer (store_read p.sizes x.known d).known

-- a take of bytes that stand alone is that of what was read
module _ (p : Policy) (x : State) (b : List ℕ) where
  pub take_unread : (r : Refusal) → Err r ≡ decode_of p.sizes b → record { answer = Err r; state = x } ≡ take_message p x b
  take_unread r e = message_refused p x b r (message_answered p.sizes b (Err r) e)

  take_settled : (m : Message) → Ok m ≡ decode_of p.sizes b → settle_message p x m ≡ take_message p x b
  take_settled m e = test (admits p.sizes x.known m) refl
    where
      test : (v : Bool) → admits p.sizes x.known m ≡ v → settle_message p x m ≡ take_message p x b
      test false f =
          sym (settle_refused p x m x.known.numbers x.known.facts Conflict (store_conflict p.sizes x.known m f))
          ∙ message_conflict p x b m (hear p.sizes b m e) f
      test true f =
          let next = stored p.sizes x.known m in
          sym (settle_taken p x m next.numbers next.facts (store_taken p.sizes x.known m next f refl) (rewritten p x.origin next) refl)
          ∙ message_taken p x b m (hear p.sizes b m e) (rewritten p x.origin next) f refl

  pub take_read : settle_read p x (decode_of p.sizes b) ≡ take_message p x b
  take_read = go (decode_of p.sizes b) refl
    where
      go : (d : Result Message Refusal) → d ≡ decode_of p.sizes b → settle_read p x d ≡ take_message p x b
      go (Ok m) e = take_settled m e
      go (Err r) e = take_unread r e

module _ (p : Policy) (b : List ℕ) (first : Step) (r : first ≡ step_of (first_of p.sizes b) (rest_of b)) where
  left : first.left ≡ length (rest_of b)
  left = ap (λ (y : Step). y.left) r

  -- what was read is the message alone, where nothing follows it
  pub read_alone : first.left ≡ 0 → first.decoded ≡ decode_of p.sizes b
  read_alone e = ap (λ (y : Step). y.decoded) r ∙ sym ((single p.sizes b).empty (nothing (rest_of b) (sym left ∙ e)))
    where
      nothing : (l : List ℕ) → length l ≡ 0 → l ≡ []
      nothing [] h = refl
      nothing (y ∷ ys) h = absurd (omega arith)

  pub read_ranged : Proper p → first.left ≡ 0 → (m : Message) → first.decoded ≡ Ok m → Fits p.sizes m
  read_ranged q e m h = subst (Ranged p.sizes) (sym (read_alone e) ∙ h) (ranged p.sizes (limits p q) b)

  module _ (x : State) where
    -- 7, where bytes follow it
    pub take_followed : (first.left ≡ 0 → ⊥) → record { answer = Err (TruncatedMessage (length b - first.left)); state = x } ≡ take_message p x b
    take_followed n =
        let l : 0 < length (rest_of b) = omega (arith, n, left) in
        let d = (single p.sizes b).followed l in
        let u : length b - first.left ≡ length_of b = either b _
        (λ h. omega (arith, left, length-drop (used_of b) b, used_whole b h, used_in b))
        (λ h. absurd (omega (arith, l, length-drop (used_of b) b, used_early b h))) in
        take_unread p x b (TruncatedMessage (length b - first.left)) (ap (λ (m : ℕ). Err (TruncatedMessage m)) u ∙ sym d)

    pub take_refused : first.left ≡ 0 → (r : Refusal) → first.decoded ≡ Err r → record { answer = Err r; state = x } ≡ take_message p x b
    take_refused e r h = take_unread p x b r (sym h ∙ read_alone e)

    pub take_alone : first.left ≡ 0 → (m : Message) → first.decoded ≡ Ok m → (o : Outcome ℕ) → o ≡ settle_message p x m → o ≡ take_message p x b
    take_alone e m h o f = f ∙ take_settled p x b m (sym h ∙ read_alone e)
