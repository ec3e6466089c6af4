-- The reader takes just the bytes that are a message (`accepts`), and what it reads is what stands in them (`reads`).
use Prim.Native.Nat.{ℕ, zero, suc, ◌+◌, ◌^◌, ◌≤◌, ◌<◌}
use Rattle.std.proofs.Common.{arith, add-zero, ◌∙◌}
use Rattle.std.specs.Prelude.{◌≡◌, refl, Bool, ◌↔◌, List, [], ◌∷◌, eqb, ltb, leb, get_or, length, Err, Ok}
use Rattle.std.proofs.Math.Path.{sym, ap, ap₂, subst, fun_ext}
use Rattle.std.proofs.Math.Bool.{true, false, cond}
use borrow.Author.Tests.{ltb-true, lt-ltb, leb-true, le-leb, eqb-true, eq-eqb}
use Rattle.logic.proofs.Bools.{both, pair}
use Rattle.bits.specs.Digits.{digit, below, expanded}
use Rattle.bits.proofs.Packed.{below_le, expanded_lt, expanded_value, expanded_other, expanded_only}
use Rattle.bits.proofs.Masks.{bits_below}
use Rattle.encoding.specs.Fields.{has, written}
use Rattle.encoding.specs.Layout.{bytes_at, field, Laid}
use Rattle.encoding.proofs.Laws.{laid_start, laid_field, laid_written, fields_laid}
use Rattle.refusal.specs.declared.Refusal.TheVariants.{BadMessage}
use Rattle.refusal.specs.Checks.{Passed, none, pass, here, there}
use Rattle.refusal.proofs.Laws.{refusal_law, passing_law}
use Rattle.policy.specs.declared.Sizes.{Sizes}
use Rattle.message.specs.declared.Fields.{Fields}
use Rattle.message.specs.declared.Event.{Event}
use Rattle.message.specs.declared.Event.TheVariants.{Observation}
use Rattle.message.specs.Format.{widths, map_of, values_at, component_of, minute_of, number_of, named_of, value_bytes, packed_at, packed_of, fields_of, length_of, good_alive, good_observation, all_written, good_fields, good_message, message_checks, answer_of, event_if, event_in}
use Rattle.message.specs.Encoded.{Values, IsEvent, is_observation, is_alive, is_alive_event, IsMessage}
use Rattle.message.specs.Fixes.{meaning_of}
use Rattle.message.specs.declared.Message.{Message}

-- ---- the fields

abbrev numbers : ℕ → ℕ → ℕ → ℕ → ℕ → ℕ
numbers component minute number named k = get_or (component ∷ minute ∷ number ∷ named ∷ []) k 0

-- the fields that are read are four numbers
read_numbers : (s : List ℕ) → field widths s 0 ≡ numbers (component_of s) (minute_of s) (number_of s) (named_of s)
unfolding component_of minute_of number_of named_of
read_numbers s = fun_ext go
  where
    absent : (b : Bool) → ◌≡◌ {A = ℕ} (cond b 0 0) 0
    absent true = refl
    absent false = refl

    go : (k : ℕ) → field widths s 0 k ≡ numbers (field widths s 0 0) (field widths s 0 1) (field widths s 0 2) (field widths s 0 3) k
    go zero = refl
    go (suc zero) = refl
    go (suc (suc zero)) = refl
    go (suc (suc (suc zero))) = refl
    go (suc (suc (suc (suc k)))) = absent (has (map_of s) (suc (suc (suc (suc k)))))

-- none of them is written as 0
none_zero : (s : List ℕ) → all_written (fields_of s) ≡ true
    → (k : ℕ) → k < length widths → written (has (map_of s) k) (field widths s 0 k) ≡ true
unfolding all_written fields_of component_of minute_of number_of named_of
none_zero s e k h =
    let component = both (written (has (map_of s) 0) (field widths s 0 0)) _ e in
    let minute = both (written (has (map_of s) 1) (field widths s 0 1)) _ component.1 in
    let number = both (written (has (map_of s) 2) (field widths s 0 2)) _ minute.1 in
    go k h component.0 minute.0 number.0 number.1
  where
    kept : ℕ → Type 0
    kept k = written (has (map_of s) k) (field widths s 0 k) ≡ true

    go : (k : ℕ) → k < 4 → kept 0 → kept 1 → kept 2 → kept 3 → kept k
    go zero l p q u v = p
    go (suc zero) l p q u v = q
    go (suc (suc zero)) l p q u v = u
    go (suc (suc (suc zero))) l p q u v = v
    go (suc (suc (suc (suc k)))) l p q u v = absurd (omega arith)

-- ---- the values

value_bytes_le : (named : ℕ) → value_bytes named ≤ 4
value_bytes_le named = omega (arith, below_le 32 named)

-- the value bytes, as they are read, are the number that stands there
packed_bytes : (s : List ℕ) (at n : ℕ) → n ≤ 4 → packed_at s n at ≡ bytes_at s at n
packed_bytes s at zero h = refl
packed_bytes s at (suc zero) h = rw (add-zero at) (omega arith)
packed_bytes s at (suc (suc zero)) h = rw (add-zero at) (omega arith)
packed_bytes s at (suc (suc (suc zero))) h = rw (add-zero at) (omega arith)
packed_bytes s at (suc (suc (suc (suc zero)))) h = rw (add-zero at) (omega arith)
packed_bytes s at (suc (suc (suc (suc (suc n))))) h = absurd (omega arith)

no_values : (s : List ℕ) → named_of s ≡ 0 → packed_of s ≡ 0
unfolding packed_of below digit
no_values s e = ap (λ (n : ℕ). packed_at s (value_bytes n) (values_at (map_of s))) e

its_values : (named packed : ℕ) → Values named packed (expanded 32 named packed)
its_values named packed = record {
  small = expanded_lt 32 named packed;
  named_value = λ k l e. expanded_value 32 named packed k l e;
  other_value = λ k e. expanded_other 32 named packed k e;
}

pub only_values : (named packed values : ℕ) → Values named packed values → values ≡ expanded 32 named packed
only_values named packed values v = expanded_only 32 named packed values v.small v.named_value v.other_value

-- ---- the event

-- "bit 4 makes it an alive slip"
event_kind : (f : Fields) → has f.map 4 ≡ is_alive_event (event_in f)
unfolding event_in
event_kind f = go (has f.map 4)
  where
    go : (b : Bool) → b ≡ is_alive_event (event_if b f)
    go true = refl
    go false = refl

module _ (z : Sizes) where
  -- fields that pass the rules are an event; an alive one has no values
  good_event : (f : Fields) → (f.named ≡ 0 → f.packed ≡ 0) → good_fields z f ≡ true
      → IsEvent z f.component f.minute f.number f.named f.packed (event_in f)
  unfolding good_fields good_alive good_observation event_in
  good_event f empty g =
      let map = both (ltb f.map 32) _ g in
      let fields = both (all_written f) _ map.1 in
      let component = both (ltb f.component z.components) _ fields.1 in
      go (has f.map 4) (ltb-true _ _ component.0) component.1
    where
      go : (b : Bool) → f.component < z.components → cond b (good_alive z f) (good_observation z f) ≡ true
          → IsEvent z f.component f.minute f.number f.named f.packed (event_if b f)
      go true c e =
          let named = both (eqb f.named 0) _ e in
          let zero_named : f.named ≡ 0 = eqb-true _ _ named.0 in
          rw (empty zero_named, zero_named) (is_alive f.component f.minute f.number c (leb-true _ _ named.1))
      go false c e =
          let minute = both (ltb f.minute z.minutes) _ e in
          let number = both (leb 1 f.number) _ minute.1 in
          let named = both (ltb f.named (2 ^ z.propositions)) _ number.1 in
          is_observation f.component f.minute f.number f.named f.packed (expanded 32 f.named f.packed)
          c
          (ltb-true _ _ minute.0)
          (leb-true _ _ number.0)
          ((bits_below z.propositions f.named).0 (ltb-true _ _ named.0))
          ((bits_below (below 32 f.named) f.packed).0 (ltb-true _ _ named.1))
          (its_values f.named f.packed)

  -- an event's numbers pass the rules, and the event is the one that is read
  record Good (f : Fields) (e : Event) : Type 0 where
    rules : good_fields z f ≡ true
    same : event_in f ≡ e

  event_good : {component minute number named packed : ℕ} {e : Event} (map : ℕ) → map < 32 → has map 4 ≡ is_alive_event e
      → all_written (record { map = map; component = component; minute = minute; number = number; named = named; packed = packed }) ≡ true
      → IsEvent z component minute number named packed e
      → Good (record { map = map; component = component; minute = minute; number = number; named = named; packed = packed }) e
  unfolding good_fields good_alive good_observation event_in
  event_good map m k w (is_alive component minute number c t) = record {
    rules = pair (lt-ltb map 32 m) (pair w (pair (lt-ltb component z.components c) (rw k (le-leb minute z.minutes t))));
    same = rw k;
  }
  event_good map m k w (is_observation component minute number named packed values c t n marks spare v) = record {
    rules = pair (lt-ltb map 32 m) (pair w (pair (lt-ltb component z.components c) (rw k
        (pair (lt-ltb minute z.minutes t)
        (pair (le-leb 1 number n)
        (pair (lt-ltb named (2 ^ z.propositions) ((bits_below z.propositions named).1 marks))
        (lt-ltb packed (2 ^ below 32 named) ((bits_below (below 32 named) packed).1 spare))))))));
    same = rw k (ap (λ (x : ℕ). Observation minute number named x) (sym (only_values named packed values v)));
  }

-- ---- the checks

module _ (z : Sizes) (s : List ℕ) where
  pub kept : answer_of z s ≡ Ok tt → (length s ≡ length_of s) × (good_message z s ≡ true)
  unfolding answer_of
  kept e = go ((passing_law (message_checks z s)).0 e)
    where
      go : Passed (message_checks z s) → (length s ≡ length_of s) × (good_message z s ≡ true)
      go (pass p (pass q (pass g none))) = (sym (eqb-true _ _ q), g)

  module _ (e : length s ≡ length_of s) where
    early_passed : leb (length_of s) (length s) ≡ true
    early_passed = le-leb (length_of s) (length s) (omega arith)

    extra_passed : eqb (length_of s) (length s) ≡ true
    extra_passed = eq-eqb (length_of s) (length s) (sym e)

    pub refuses : good_message z s ≡ false → answer_of z s ≡ Err BadMessage
    unfolding answer_of
    refuses g = (refusal_law (message_checks z s) BadMessage).1 (there early_passed (there extra_passed (here g)))

    pub takes : good_message z s ≡ true → answer_of z s ≡ Ok tt
    unfolding answer_of
    takes g = (passing_law (message_checks z s)).1 (pass early_passed (pass extra_passed (pass g none)))

  -- ---- the theorem

  is_message : answer_of z s ≡ Ok tt → IsMessage z s
  unfolding good_fields fields_of length_of packed_of
  is_message e =
      let k = kept e in
      let map = both (ltb (map_of s) 32) _ k.1 in
      let written = none_zero s (both (all_written (fields_of s)) _ map.1).0 in
      let laid = subst (Laid widths s 0) (read_numbers s) (fields_laid widths s 0 written) in
      record {
        component = component_of s;
        minute = minute_of s;
        number = number_of s;
        named = named_of s;
        packed = packed_of s;
        event = event_in (fields_of s);
        is_event = good_event z (fields_of s) (no_values s) k.1;
        laid = laid;
        alive = event_kind (fields_of s);
        spare = ltb-true _ _ map.0;
        at = values_at (map_of s);
        behind = laid_start widths s 0 (numbers (component_of s) (minute_of s) (number_of s) (named_of s)) laid;
        values = sym (packed_bytes s (values_at (map_of s)) (value_bytes (named_of s)) (value_bytes_le (named_of s)));
        ends = k.0;
      }

  module _ (m : IsMessage z s) where
    abbrev laid_numbers : ℕ → ℕ
    laid_numbers = numbers m.component m.minute m.number m.named

    abbrev said : Fields
    said = record { map = map_of s; component = m.component; minute = m.minute; number = m.number; named = m.named; packed = m.packed }

    named_read : named_of s ≡ m.named
    unfolding named_of
    named_read = laid_field widths s 0 laid_numbers m.laid 3 (omega arith)

    values_behind : values_at (map_of s) ≡ m.at
    values_behind = laid_start widths s 0 laid_numbers m.laid ∙ sym m.behind

    packed_read : packed_of s ≡ m.packed
    unfolding packed_of
    packed_read =
        ap₂ (λ (n at : ℕ). packed_at s (value_bytes n) at) named_read values_behind
        ∙ packed_bytes s m.at (value_bytes m.named) (value_bytes_le m.named)
        ∙ m.values

    -- the fields are read as they stand
    fields_read : fields_of s ≡ said
    unfolding fields_of component_of minute_of number_of
    fields_read =
        rw (
          laid_field widths s 0 laid_numbers m.laid 0 (omega arith),
          laid_field widths s 0 laid_numbers m.laid 1 (omega arith),
          laid_field widths s 0 laid_numbers m.laid 2 (omega arith),
          named_read,
          packed_read,
        )

    fields_written : all_written (fields_of s) ≡ true
    unfolding all_written fields_of component_of minute_of number_of named_of
    fields_written =
        let w = laid_written widths s 0 laid_numbers m.laid in
        pair (w 0 (omega arith)) (pair (w 1 (omega arith)) (pair (w 2 (omega arith)) (w 3 (omega arith))))

    good : Good z said m.event
    good = event_good z (map_of s) m.spare m.alive (sym (ap all_written fields_read) ∙ fields_written) m.is_event

    whole : length s ≡ length_of s
    unfolding length_of
    whole = m.ends ∙ sym (ap₂ (λ (n at : ℕ). at + value_bytes n) named_read values_behind)

    accepted : answer_of z s ≡ Ok tt
    accepted = takes whole (ap (good_fields z) fields_read ∙ good.rules)

    -- what is read is what stands there
    pub reads : meaning_of s ≡ record { component = m.component; event = m.event }
    unfolding meaning_of fields_of
    reads = ap says fields_read ∙ ap (λ (e : Event). message m.component e) good.same
      where
        message : ℕ → Event → Message
        message component event = record { component = component; event = event }

        says : Fields → Message
        says f = message f.component (event_in f)

  -- "A slip that neither 7 nor 8 turns away": just the messages
  pub accepts : (answer_of z s ≡ Ok tt) ↔ IsMessage z s
  accepts = (is_message, accepted)
