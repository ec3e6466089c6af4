-- Reading and writing are each other's inverse: the fields stand as they are written, and the value bytes behind them are the named values packed, in
-- both directions. Assumes nothing.
use Rattle.std.specs.Prelude.{ℕ, zero, suc, ◌+◌, ◌*◌, ◌^◌, ◌≤◌, ◌<◌, ◌≡◌, refl, Bool, true, false, List, ◌++◌, get_or, length, take, drop, Ok}
use Rattle.std.proofs.Common.{arith, zero-add, ap, ap₂, ◌∙◌, true≢false, pow_mono, ext_get_or, take_at}
use Rattle.std.proofs.Math.Path.{sym, subst}
use Rattle.std.proofs.Math.ListN.{length-append}
use Rattle.bits.specs.Bits.{bit}
use Rattle.bits.proofs.Bits.{bit_below}
use Rattle.bits.specs.Digits.{below, gathered}
use Rattle.bits.proofs.Masks.{bits_below}
use Rattle.bits.proofs.Packed.{below_le}
use Rattle.bits.proofs.Gathered.{gathered_lt, gathered_value, gathered_expanded, gathered_nothing}
use Rattle.encoding.specs.Layout.{width, follows}
use Rattle.encoding.specs.Text.{ByteString, Stands}
use Rattle.encoding.specs.Texts.{Width, one, two, four, Holds}
use Rattle.encoding.proofs.Texts.{stands_first, stands_next, stands_both, length_bytes, number_written, number_stands, takes_most, bytes_both, bytes_number, bytes_text, length_text, laid_out, laid_holds, text_stands}
use Rattle.policy.specs.declared.Sizes.{Sizes}
use Rattle.policy.specs.Format.{policy_of}
use Rattle.policy.specs.Format.{answer_of as policy_answer}
use Rattle.policy.proofs.Laws.{accepted}
use Rattle.message.specs.declared.Event.{Event}
use Rattle.message.specs.declared.Event.TheVariants.{Observation, Alive}
use Rattle.message.specs.declared.MessageNumbers.{MessageNumbers}
use Rattle.message.specs.Encoded.{IsEvent, is_observation, is_alive, is_alive_event, IsMessage}
use Rattle.message.specs.Format.{widths, value_bytes}
use Rattle.message.specs.Fixes.{WellFormed, meaning_of}
use Rattle.message.specs.declared.Message.{Message}
use Rattle.message.proofs.ReadLaws.{only_values, accepts, reads}
use Rattle.message.specs.Text.{event_numbers, numbers_of, Observes, InRange, field_of, fields_part, values_part, text_of, encode_of}
use Rattle.message.specs.Written.{SizesIn, RoundTrip, Encodes}
use Rattle.message.proofs.Refusals.{causes}

-- ---- the fields

of_width : (k : ℕ) → k < 4 → Width (width widths k)
of_width zero h = one
of_width (suc zero) h = two
of_width (suc (suc zero)) h = two
of_width (suc (suc (suc zero))) h = four
of_width (suc (suc (suc (suc k)))) h = absurd (omega arith)

-- ---- the value bytes

-- as many values fit as their bytes have bits
values_fit : (w ones p : ℕ) → w ≤ 4 → ones ≤ w * 8 → p < 2 ^ ones → p < 256 ^ w
values_fit w ones p h l m = go w h (pow_mono l)
  where
    go : (w : ℕ) → w ≤ 4 → 2 ^ ones ≤ 2 ^ (w * 8) → p < 256 ^ w
    go zero h q = omega arith
    go (suc zero) h q = omega arith
    go (suc (suc zero)) h q = omega arith
    go (suc (suc (suc zero))) h q = omega arith
    go (suc (suc (suc (suc zero)))) h q = omega arith
    go (suc (suc (suc (suc (suc w))))) h q = absurd (omega arith)

few_bytes : (named : ℕ) → (value_bytes named ≤ 4) × (below 32 named ≤ value_bytes named * 8)
few_bytes named = omega (arith, below_le 32 named)

packed_fits : (named values : ℕ) → gathered 32 named values < 256 ^ value_bytes named
packed_fits named values = values_fit (value_bytes named) (below 32 named) (gathered 32 named values) (few_bytes named).0 (few_bytes named).1 (gathered_lt 32 named values)

are_bytes : (n : MessageNumbers) → ByteString (text_of n)
unfolding text_of
are_bytes n =
    bytes_both (fields_part n) (values_part n) (bytes_text widths (field_of n) n.alive (omega arith))
    (bytes_number (value_bytes n.named) (gathered 32 n.named n.values))

-- ---- numbers and events

-- what a message of these numbers says
abbrev event_in : Bool → MessageNumbers → Event
event_in true n = Alive n.minute n.number
event_in false n = Observation n.minute n.number n.named n.values

-- an event's numbers say the event
event_back : (c : ℕ) (e : Event)
    → ◌≡◌ {A = Message} (record { component = (event_numbers c e).component; event = event_in (event_numbers c e).alive (event_numbers c e) }) (record { component = c; event = e })
event_back c (Observation t s named values) = refl
event_back c (Alive t s) = refl

alive_in : (b : Bool) (n : MessageNumbers) → is_alive_event (event_in b n) ≡ b
alive_in true n = refl
alive_in false n = refl

abbrev values_of : Event → ℕ
values_of (Observation t s named values) = values
values_of (Alive t s) = 0

-- what holds of an event's numbers: they are those of a message, and the packed values are the named ones gathered
record EventNumbers (z : Sizes) (component minute number named packed : ℕ) (e : Event) : Type 0 where
  numbers : event_numbers component e
      ≡ record { component = component; alive = is_alive_event e; minute = minute; number = number; named = named; values = values_of e }
  gathers : gathered 32 named (values_of e) ≡ packed
  ranged : number < 65536 → InRange z (event_numbers component e)

event_numbers_are : {z : Sizes} {component minute number named packed : ℕ} {e : Event} → IsEvent z component minute number named packed e
    → EventNumbers z component minute number named packed e
event_numbers_are (is_alive component minute number c t) = record {
  numbers = refl;
  gathers = gathered_nothing 32 0;
  ranged = λ h. record {
    component_in = c;
    number_in = h;
    observation = λ a. absurd (true≢false a);
    alive = λ a. record { minute_in = t; no_names = refl; no_values = refl };
  };
}
event_numbers_are (is_observation component minute number named packed values c t n marks spare v) = record {
  numbers = refl;
  gathers = ap (gathered 32 named) (only_values named packed values v) ∙ gathered_expanded 32 named packed ((bits_below (below 32 named) packed).1 spare);
  ranged = λ h. record {
    component_in = c;
    number_in = h;
    observation = λ a. record { minute_in = t; counted = n; named_in = marks; values_in = λ k b. go k (bit named k) refl b };
    alive = λ a. absurd (true≢false (sym a));
  };
}
  where
    go : (k : ℕ) (b : Bool) → bit named k ≡ b → bit values k ≡ true → bit named k ≡ true
    go k true e f = e
    go k false e f = absurd (true≢false (sym f ∙ v.other_value k e))

module _ (z : Sizes) (ok : SizesIn z) where
  -- ---- what is written is read

  module _ (n : MessageNumbers) (r : InRange z n) where
    abbrev s : List ℕ
    s = text_of n

    abbrev packed : ℕ
    packed = gathered 32 n.named n.values

    is_event : (b : Bool) → n.alive ≡ b → IsEvent z n.component n.minute n.number n.named packed (event_in b n)
    is_event true a =
        let l = r.alive a in
        rw (l.no_names, gathered_nothing 32 n.values) (is_alive n.component n.minute n.number r.component_in l.minute_in)
    is_event false a =
        let o = r.observation a in
        is_observation n.component n.minute n.number n.named packed n.values
        r.component_in
        o.minute_in
        o.counted
        o.named_in
        (bit_below (below 32 n.named) packed (gathered_lt 32 n.named n.values))
        (record {
          small = (bits_below 32 n.values).1 (λ k b. omega (arith, o.named_in k (o.values_in k b), ok.propositions_in.high));
          named_value = λ k l b. sym (gathered_value 32 n.named n.values k l b);
          other_value = λ k b. other o k b (bit n.values k) refl;
        })
      where
        other : Observes z n → (k : ℕ) → bit n.named k ≡ false → (b : Bool) → bit n.values k ≡ b → bit n.values k ≡ false
        other o k e true f = absurd (true≢false (sym (o.values_in k f) ∙ e))
        other o k e false f = f

    -- the numbers fit their fields
    minute_fits : (b : Bool) → n.alive ≡ b → n.minute < 65536
    minute_fits true a = omega (arith, (r.alive a).minute_in, ok.minutes_in.high)
    minute_fits false a = omega (arith, (r.observation a).minute_in, ok.minutes_in.high)

    named_fits : (b : Bool) → n.alive ≡ b → n.named < 4294967296
    named_fits true a = omega (arith, (r.alive a).no_names)
    named_fits false a = (bits_below 32 n.named).1 (λ k b. omega (arith, (r.observation a).named_in k b, ok.propositions_in.high))

    holds : Holds widths (field_of n)
    holds zero h = omega (arith, r.component_in, ok.components_in.high)
    holds (suc zero) h = minute_fits n.alive refl
    holds (suc (suc zero)) h = r.number_in
    holds (suc (suc (suc zero))) h = named_fits n.alive refl
    holds (suc (suc (suc (suc k)))) h = absurd (omega arith)

    whole : Stands s 0 s
    whole i l = ap (λ (k : ℕ). get_or s k 0) (zero-add i)

    fields_stand : Stands s 0 (fields_part n)
    unfolding text_of
    fields_stand = stands_first s 0 (fields_part n) (values_part n) whole

    -- where the values are
    abbrev at : ℕ
    at = follows widths (field_of n) 0 (length widths)

    values_stand : Stands s at (values_part n)
    unfolding text_of
    values_stand =
        subst (λ (k : ℕ). Stands s k (values_part n)) (sym (length_text widths (field_of n) 0 n.alive)) (stands_next s 0 (fields_part n) (values_part n) whole)

    as_long : length s ≡ at + value_bytes n.named
    unfolding text_of
    as_long =
        omega (arith, length-append (fields_part n) (values_part n), length_text widths (field_of n) 0 n.alive, length_bytes (value_bytes n.named) packed)

    is_message : IsMessage z s
    is_message =
        let laid = laid_out widths (field_of n) of_width s 0 holds n.alive fields_stand in
        record {
          component = n.component;
          minute = n.minute;
          number = n.number;
          named = n.named;
          packed = packed;
          event = event_in n.alive n;
          is_event = is_event n.alive refl;
          laid = laid.0;
          alive = laid.1 ∙ sym (alive_in n.alive n);
          spare = laid.2;
          at = at;
          behind = refl;
          values = number_written (value_bytes n.named) s at packed (packed_fits n.named n.values) values_stand;
          ends = as_long;
        }

    well_formed : WellFormed z s
    well_formed = (accepts z s).1 is_message

    says : meaning_of s ≡ record { component = n.component; event = event_in n.alive n }
    unfolding is_message
    says = reads z s is_message

    abbrev with_alive : Bool → ℕ → ℕ → MessageNumbers
    with_alive a named values =
        record { component = n.component; alive = a; minute = n.minute; number = n.number; named = named; values = values }

    numbers_back : numbers_of (meaning_of s) ≡ n
    numbers_back = ap numbers_of says ∙ go n.alive refl
      where
        go : (b : Bool) → n.alive ≡ b → event_numbers n.component (event_in b n) ≡ n
        go true a =
            let l = r.alive a in
            ap₂ (with_alive true) (sym l.no_names) (sym l.no_values) ∙ ap (λ (b : Bool). with_alive b n.named n.values) (sym a)
        go false a = ap (λ (b : Bool). with_alive b n.named n.values) (sym a)

    short : length s ≤ 14
    short =
        omega (arith, as_long, (few_bytes n.named).0, takes_most n.component 1, takes_most n.minute 2, takes_most n.number 2, takes_most n.named 4)

  -- ---- what is read is written

  module _ (s : List ℕ) (bs : ByteString s) (w : WellFormed z s) where
    read : IsMessage z s
    read = (accepts z s).0 w

    are : EventNumbers z read.component read.minute read.number read.named read.packed read.event
    are = event_numbers_are read.is_event

    abbrev n' : MessageNumbers
    n' =
        record {
          component = read.component;
          alive = is_alive_event read.event;
          minute = read.minute;
          number = read.number;
          named = read.named;
          values = values_of read.event;
        }

    its_numbers : numbers_of (meaning_of s) ≡ n'
    its_numbers = ap numbers_of (reads z s read) ∙ are.numbers

    ranged : InRange z (numbers_of (meaning_of s))
    ranged =
        subst (InRange z) (sym (ap numbers_of (reads z s read)))
        (are.ranged (laid_holds widths (field_of n') of_width s 0 bs read.laid 2 (omega arith)))

    place : read.at ≡ 0 + length (fields_part n')
    place = read.behind ∙ length_text widths (field_of n') 0 n'.alive

    stands : Stands s 0 (text_of n')
    unfolding text_of
    stands =
        stands_both s 0 (fields_part n') (values_part n')
        (text_stands widths (field_of n') of_width s 0 bs n'.alive read.laid read.alive read.spare)
        (subst (λ (k : ℕ). Stands s k (values_part n')) place
        (number_stands (value_bytes read.named) s bs read.at (gathered 32 read.named (values_of read.event)) (read.values ∙ sym are.gathers)))

    same_length : length (text_of n') ≡ length s
    unfolding text_of
    same_length =
        omega (arith, length-append (fields_part n') (values_part n'), place, read.ends, length_bytes (value_bytes read.named) (gathered 32 read.named (values_of read.event)))

    own_bytes : text_of (numbers_of (meaning_of s)) ≡ s
    own_bytes =
        ap text_of its_numbers ∙ ext_get_or 0 (text_of n') s same_length (λ i l. sym (stands i l) ∙ ap (λ (k : ℕ). get_or s k 0) (zero-add i))

  -- ---- the theorem

  pub round_trip : RoundTrip z
  round_trip = record {
    reads_back = λ n r. (well_formed n r, numbers_back n r);
    reads_event = λ m r. says (numbers_of m) r ∙ event_back m.component m.event;
    writes_back = λ s bs w. (ranged s bs w, own_bytes s bs w);
    texts = λ s bs. (
      λ w. (numbers_of (meaning_of s), ranged s bs w, sym (own_bytes s bs w)),
      λ t. subst (WellFormed z) (sym t.2) (well_formed t.0 t.1),
    );
    one_text = λ s t bs ct w v q. sym (own_bytes s bs w) ∙ ap (λ m. text_of (numbers_of m)) q ∙ own_bytes t ct v;
    bytes = are_bytes;
    short = short;
  }

-- ---- under an accepted policy

pub sizes_in : (s : List ℕ) → policy_answer s ≡ Ok tt → SizesIn (policy_of s).sizes
sizes_in s e = let p = accepted s e in record { propositions_in = p.propositions; components_in = p.components; minutes_in = p.minutes }

pub encodes : (s : List ℕ) → policy_answer s ≡ Ok tt → Encodes s
encodes s a =
    let trip = round_trip (policy_of s).sizes (sizes_in s a) in
    record {
      again = λ b out bs w h. let q = causes s (numbers_of (meaning_of b)) out in
          let back = trip.writes_back b bs w in
          let done = (q.done (length b)).1 (a, back.0, subst (λ (x : List ℕ). length x ≤ length out) (sym back.1) h, ap length (sym back.1)) in
          (done, q.text (length b) done ∙ ap (λ (x : List ℕ). x ++ drop (length b) out) back.1);
      readable = λ n out k e. let q = causes s n out in
          let d = (q.done k).0 e in
          let cut : take k (encode_of s n out).out ≡ text_of n = ap (take k) (q.text k e) ∙ take_at (text_of n) (drop k out) k (sym d.3) in
          subst (WellFormed (policy_of s).sizes) (sym cut) (trip.reads_back n d.1).0;
    }
