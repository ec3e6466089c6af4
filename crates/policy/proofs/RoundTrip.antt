-- Reading and writing are each other's inverse: a line's text stands where the line does, and the lines stand one after another, in both directions.
-- Assumes nothing.
use Prim.Native.Nat.{ℕ, zero, suc, ◌+◌, ◌*◌, ◌^◌, ◌≤◌, ◌<◌}
use native.Mathlib.Omega.{arith}
use Rattle.std.proofs.Common.{eq-or-lt_of_le, zero-add, ◌∙◌, ext_get_or, take_at}
use Rattle.std.specs.Prelude.{◌≡◌, refl, Bool, cond, List, ◌++◌, length, take, drop, Ok}
use Rattle.std.proofs.Math.Path.{sym, ap, subst}
use Rattle.std.proofs.Math.Logic.{⊎_elim}
use Rattle.std.proofs.Math.ListN.{get_or, length-append, get_or-map}
use Rattle.encoding.specs.Layout.{width, value_at, takes, follows}
use Rattle.encoding.specs.Text.{bytes_of, ByteString, Stands}
use Rattle.encoding.specs.Texts.{Width, one, two, Holds}
use Rattle.encoding.proofs.Texts.{stands_first, stands_next, stands_both, value_stands, length_text, takes_most, bytes_both, bytes_number, bytes_text, laid_out, text_stands}
use Rattle.mtl.specs.declared.Formula.{Formula}
use Rattle.policy.specs.declared.LineNumbers.{LineNumbers}
use Rattle.policy.specs.declared.PolicyNumbers.{PolicyNumbers}
use Rattle.policy.specs.Encoded.{IsLine, is_true, is_proposition, is_not, is_or, is_since, is_until, is_and, is_implies, is_once, is_historically, is_eventually, is_always, Line, widths, LineAt, rules_in, IsPolicy, RulesIn}
use Rattle.policy.specs.Format.{count_of, meaning, no_line, answer_of, policy_of}
use Rattle.policy.proofs.KindLaws.{keeps}
use Rattle.policy.proofs.ReadLaws.{accepts, reads}
use Rattle.policy.proofs.Stands.{five}
use Rattle.policy.specs.Text.{numbered, line_in, rules_among, formula_numbers, line_numbers, numbers_of, LineIn, InRange, field_of, line_text, lines_text, heading_text, text_of, encode_of}
use Rattle.policy.specs.Written.{SameNumbers, RoundTrip}
use Rattle.policy.proofs.Refusals.{causes}

-- ---- one line

-- a line of these numbers, and what it means
abbrev line : LineNumbers → Line
line l =
    record {
      kind = l.kind;
      first = l.first;
      second = l.second;
      lower = l.lower;
      upper = l.upper;
      rule = l.rule;
      formula = meaning l.kind l.first l.second l.lower l.upper;
    }

-- the numbers of a line
abbrev its_numbers : Line → LineNumbers
its_numbers l = numbered l.kind l.first l.second l.lower l.upper l.rule

-- the table from its middle column gives the row again
formula_back : {m i k a b l u : ℕ} {x : Formula} → IsLine m i k a b l u x → (r : Bool) → formula_numbers x r ≡ numbered k a b l u r
formula_back is_true r = refl
formula_back (is_proposition a h) r = refl
formula_back (is_not a h) r = refl
formula_back (is_or a b h g) r = refl
formula_back (is_since a b l u h g o v) r = refl
formula_back (is_until a b l u h g o v) r = refl
formula_back (is_and a b h g) r = refl
formula_back (is_implies a b h g) r = refl
formula_back (is_once a l u h o v) r = refl
formula_back (is_historically a l u h o v) r = refl
formula_back (is_eventually a l u h o v) r = refl
formula_back (is_always a l u h o v) r = refl

-- the numbers of a line fit their fields
fit : {m i k a b l u : ℕ} {x : Formula} → m ≤ 32 → i < 64 → IsLine m i k a b l u x → (k < 256) × (a < 256) × (b < 256) × (l < 65536) × (u < 65536)
fit m i is_true = omega arith
fit m i (is_proposition a h) = omega arith
fit m i (is_not a h) = omega arith
fit m i (is_or a b h g) = omega arith
fit m i (is_since a b l u h g o v) = omega arith
fit m i (is_until a b l u h g o v) = omega arith
fit m i (is_and a b h g) = omega arith
fit m i (is_implies a b h g) = omega arith
fit m i (is_once a l u h o v) = omega arith
fit m i (is_historically a l u h o v) = omega arith
fit m i (is_eventually a l u h o v) = omega arith
fit m i (is_always a l u h o v) = omega arith

holds : {m i : ℕ} {x : Formula} (l : LineNumbers) → m ≤ 32 → i < 64 → IsLine m i l.kind l.first l.second l.lower l.upper x
    → Holds widths (field_of l)
holds l m i t = let f = fit m i t in five (λ k. field_of l k < 256 ^ width widths k) f.0 f.1 f.2 f.3 f.4

of_width : (k : ℕ) → k < 5 → Width (width widths k)
of_width = five (λ k. Width (width widths k)) one one one two two

module _ (s : List ℕ) (m i at : ℕ) where
  -- a line that is written stands there
  line_laid : m ≤ 32 → i < 64 → {x : Formula} (l : LineNumbers) → IsLine m i l.kind l.first l.second l.lower l.upper x
      → Stands s at (line_text l) → LineAt s m i at (line l)
  unfolding line_text
  line_laid a b {x} l t h =
      let laid = laid_out widths (field_of l) of_width s at (holds l a b t) l.rule h in
      record {
        is_line = subst (λ (y : Formula). IsLine m i l.kind l.first l.second l.lower l.upper y) (keeps _ _ _ _ _ _ t).means t;
        laid = laid.0;
        rule = laid.1;
        spare = laid.2;
      }

  -- and where a line stands, it is written
  line_stands : ByteString s → (l : Line) → LineAt s m i at l → Stands s at (line_text (its_numbers l))
  unfolding line_text
  line_stands bs l t = text_stands widths (field_of (its_numbers l)) of_width s at bs l.rule t.laid t.rule t.spare

-- ---- the lines

module _ (lines : List LineNumbers) where
  -- where line i starts
  abbrev place : ℕ → ℕ
  place i = 5 + length (lines_text lines i)

  next_place : (i : ℕ) → place (suc i) ≡ follows widths (field_of (line_in lines i)) (place i) (length widths)
  unfolding lines_text line_text
  next_place i =
      let l = line_in lines i in
      omega (arith, length-append (lines_text lines i) (line_text l), length_text widths (field_of l) (place i) l.rule)

  -- each of n lines stands behind those before it
  line_of_lines : (s : List ℕ) (n i : ℕ) → i < n → Stands s 5 (lines_text lines n) → Stands s (place i) (line_text (line_in lines i))
  unfolding lines_text
  line_of_lines s zero i h t = absurd (omega arith)
  line_of_lines s (suc n) i h t =
      let a = lines_text lines n in
      let b = line_text (line_in lines n) in
      ⊎_elim (λ (e : i ≡ n). rw e (stands_next s 5 a b t)) (λ (l : i < n). line_of_lines s n i l (stands_first s 5 a b t)) (eq-or-lt_of_le (omega arith))

  lines_of_line : (s : List ℕ) (n : ℕ) → ((i : ℕ) → i < n → Stands s (place i) (line_text (line_in lines i))) → Stands s 5 (lines_text lines n)
  unfolding lines_text
  lines_of_line s zero h = λ i l. absurd (omega arith)
  lines_of_line s (suc n) h = stands_both s 5 (lines_text lines n) (line_text (line_in lines n)) (lines_of_line s n (λ i l. h i (omega arith))) (h n (omega arith))

  -- they are bytes
  bytes_lines : (n : ℕ) → ByteString (lines_text lines n)
  unfolding lines_text line_text
  bytes_lines zero = λ i. omega arith
  bytes_lines (suc n) =
      let l = line_in lines n in
      bytes_both (lines_text lines n) (line_text l) (bytes_lines n) (bytes_text widths (field_of l) l.rule (omega arith))

-- ---- how long a text is

abbrev heading : PolicyNumbers → List ℕ
heading p = heading_text p.propositions p.components p.minutes p.count

takes_none : (n w : ℕ) → n < 1 → takes n w ≡ 0
takes_none zero w h = refl
takes_none (suc n) w h = absurd (omega arith)

-- the most bytes of line i: the first has no earlier line to name, and the second only line 0, which takes no byte
abbrev room : ℕ → ℕ
room zero = 3
room (suc zero) = 6
room (suc (suc i)) = 8

room_least : (i : ℕ) → 3 ≤ room i
room_least zero = omega arith
room_least (suc zero) = omega arith
room_least (suc (suc i)) = omega arith

operand_room : (i a b : ℕ) → a < i → b < i → takes a 1 + takes b 1 + 6 ≤ room i
operand_room zero a b h g = absurd (omega arith)
operand_room (suc zero) a b h g = omega (arith, takes_none a 1 h, takes_none b 1 g)
operand_room (suc (suc i)) a b h g = omega (arith, takes_most a 1, takes_most b 1)

line_short : {m k a b l u : ℕ} {x : Formula} (i : ℕ) → IsLine m i k a b l u x → 1 + takes k 1 + takes a 1 + takes b 1 + takes l 2 + takes u 2 ≤ room i
line_short i is_true = omega (arith, room_least i)
line_short i (is_proposition a h) = omega (arith, room_least i, takes_most a 1)
line_short i (is_not a h) = omega (arith, room_least i, takes_most a 1)
line_short i (is_or a b h g) = omega (arith, operand_room i a b h g)
line_short i (is_since a b l u h g o v) = omega (arith, operand_room i a b h g, takes_most l 2, takes_most u 2)
line_short i (is_until a b l u h g o v) = omega (arith, operand_room i a b h g, takes_most l 2, takes_most u 2)
line_short i (is_and a b h g) = omega (arith, operand_room i a b h g)
line_short i (is_implies a b h g) = omega (arith, operand_room i a b h g)
line_short i (is_once a l u h o v) = omega (arith, operand_room i a a h h, takes_most l 2, takes_most u 2)
line_short i (is_historically a l u h o v) = omega (arith, operand_room i a a h h, takes_most l 2, takes_most u 2)
line_short i (is_eventually a l u h o v) = omega (arith, operand_room i a a h h, takes_most l 2, takes_most u 2)
line_short i (is_always a l u h o v) = omega (arith, operand_room i a a h h, takes_most l 2, takes_most u 2)

-- the most bytes of n lines
abbrev rooms : ℕ → ℕ
rooms zero = 0
rooms (suc n) = rooms n + room n

rooms_are : (n : ℕ) → rooms (suc (suc n)) ≡ 9 + 8 * n
rooms_are zero = refl
rooms_are (suc n) = omega (arith, rooms_are n)

rooms_most : (n : ℕ) → n ≤ 64 → rooms n ≤ 505
rooms_most zero h = omega arith
rooms_most (suc zero) h = omega arith
rooms_most (suc (suc n)) h = omega (arith, rooms_are n)

module _ (p : PolicyNumbers) where
  lines_short : (n : ℕ) → ((i : ℕ) → i < n → LineIn p i) → length (lines_text p.lines n) ≤ rooms n
  unfolding lines_text line_text
  lines_short zero f = omega arith
  lines_short (suc n) f =
      let l = line_in p.lines n in
      omega (
        arith,
        lines_short n (λ i h. f i (omega arith)),
        length-append (lines_text p.lines n) (line_text l),
        length_text widths (field_of l) 0 l.rule,
        line_short n (f n (omega arith)).1,
      )

  short : InRange p → length (text_of p) ≤ 510
  unfolding text_of
  short r =
      omega (
        arith,
        length-append (heading p) (lines_text p.lines p.count),
        lines_short p.count r.lines,
        rooms_most p.count r.heading.lines_in.high,
      )

  are_bytes : ByteString (text_of p)
  unfolding text_of
  are_bytes =
      let count = bytes_of 1 p.count in
      let minutes = bytes_of 2 p.minutes in
      let components = bytes_of 1 p.components in
      bytes_both (heading p) (lines_text p.lines p.count)
      (bytes_both (bytes_of 1 p.propositions) (components ++ (minutes ++ count)) (bytes_number 1 p.propositions)
      (bytes_both components (minutes ++ count) (bytes_number 1 p.components)
      (bytes_both minutes count (bytes_number 2 p.minutes) (bytes_number 1 p.count))))
      (bytes_lines p.lines p.count)

-- ---- what is written is read

module _ (p : PolicyNumbers) (r : InRange p) where
  abbrev s : List ℕ
  s = text_of p

  its_propositions : get_or s 0 0 ≡ p.propositions
  unfolding text_of
  its_propositions = omega (arith, r.heading.propositions_in.high)

  its_components : get_or s 1 0 ≡ p.components
  unfolding text_of
  its_components = omega (arith, r.heading.components_in.high)

  its_minutes : value_at s 2 2 ≡ p.minutes
  unfolding text_of
  its_minutes = omega (arith, r.heading.minutes_in.high)

  its_count : get_or s 4 0 ≡ p.count
  unfolding text_of
  its_count = omega (arith, r.heading.lines_in.high)

  its_lines : Stands s 5 (lines_text p.lines p.count)
  unfolding text_of
  its_lines = stands_next s 0 (heading p) (lines_text p.lines p.count) (λ i l. ap (λ (k : ℕ). get_or s k 0) (zero-add i))

  its_end : place p.lines p.count ≡ length s
  unfolding text_of
  its_end = sym (length-append (heading p) (lines_text p.lines p.count))

  same_rules : (n : ℕ) → rules_among p.lines n ≡ rules_in (λ i. line (line_in p.lines i)) n
  same_rules zero = refl
  same_rules (suc n) = ap (λ (k : ℕ). k + cond (line_in p.lines n).rule 1 0) (same_rules n)

  is_policy : IsPolicy s
  unfolding lines_text
  is_policy =
      record {
        heading = rw (its_propositions, its_components, its_minutes, its_count) r.heading;
        lines = λ i. line (line_in p.lines i);
        at = place p.lines;
        starts = refl;
        line = rw (its_propositions, its_count) (λ i h.
            line_laid s p.propositions i (place p.lines i) r.heading.propositions_in.high (omega (arith, r.heading.lines_in.high))
            (line_in p.lines i) (r.lines i h).1 (line_of_lines p.lines s p.count i h its_lines));
        next = λ i h. next_place p.lines i;
        ends = rw its_count its_end;
        rules = rw its_count (subst RulesIn (same_rules p.count) r.rules);
      }

  accepted : answer_of s ≡ Ok tt
  accepted = (accepts s).1 is_policy

  -- line i comes back
  line_back : (i : ℕ) → i < p.count → line_in p.lines i ≡ line_in (numbers_of (policy_of s)).lines i
  unfolding numbers_of is_policy meaning
  line_back i h =
      let l = line_in p.lines i in
      let t = r.lines i h in
      sym (
      get_or-map line_numbers (policy_of s).subformulas i no_line
      ∙ ap line_numbers (reads s is_policy i (subst (λ (n : ℕ). i < n) (sym its_count) h))
      ∙ ap (λ (x : Formula). formula_numbers x l.rule) (sym (keeps _ _ _ _ _ _ t.1).means)
      ∙ formula_back t.1 l.rule
      )

  same_numbers : SameNumbers p (numbers_of (policy_of s))
  unfolding numbers_of policy_of
  same_numbers =
      record {
        propositions = sym its_propositions;
        components = sym its_components;
        minutes = sym its_minutes;
        count = sym its_count;
        lines = line_back;
      }

-- ---- what is read is written

module _ (s : List ℕ) (bs : ByteString s) (e : answer_of s ≡ Ok tt) where
  read : IsPolicy s
  read = (accepts s).0 e

  abbrev p' : PolicyNumbers
  p' = numbers_of (policy_of s)

  -- the numbers of line i are those that stand there
  line_read : (i : ℕ) → i < count_of s → line_in p'.lines i ≡ its_numbers (read.lines i)
  unfolding numbers_of
  line_read i h =
      get_or-map line_numbers (policy_of s).subformulas i no_line
      ∙ ap line_numbers (reads s read i h)
      ∙ formula_back (read.line i h).is_line (read.lines i).rule

  rules_read : (n : ℕ) → n ≤ count_of s → rules_in read.lines n ≡ rules_among p'.lines n
  rules_read zero h = refl
  rules_read (suc n) h =
      ap (λ (k : ℕ). k + cond (read.lines n).rule 1 0) (rules_read n (omega arith))
      ∙ ap (λ (l : LineNumbers). rules_among p'.lines n + cond l.rule 1 0) (sym (line_read n (omega arith)))

  ranged : InRange p'
  unfolding numbers_of policy_of
  ranged =
      record {
        heading = read.heading;
        lines = λ i h. rw (line_read i h) ((read.lines i).formula, (read.line i h).is_line);
        rules = subst RulesIn (rules_read (count_of s) (omega arith)) read.rules;
      }

  -- line i stands behind the texts of those before it
  placed : (i : ℕ) → i ≤ count_of s → read.at i ≡ place p'.lines i
  unfolding lines_text
  placed zero h = read.starts
  placed (suc i) h =
      read.next i (omega arith)
      ∙ ap (λ (l : LineNumbers). follows widths (field_of l) (read.at i) (length widths)) (sym (line_read i (omega arith)))
      ∙ ap (λ (at : ℕ). follows widths (field_of (line_in p'.lines i)) at (length widths)) (placed i (omega arith))
      ∙ sym (next_place p'.lines i)

  line_placed : (i : ℕ) → i < count_of s → Stands s (place p'.lines i) (line_text (line_in p'.lines i))
  line_placed i h =
      rw (line_read i h, sym (placed i (omega arith))) (line_stands s (get_or s 0 0) i (read.at i) bs (read.lines i) (read.line i h))

  heading_stands : Stands s 0 (heading p')
  unfolding numbers_of policy_of
  heading_stands =
      let count = bytes_of 1 p'.count in
      let minutes = bytes_of 2 p'.minutes in
      let components = bytes_of 1 p'.components in
      stands_both s 0 (bytes_of 1 p'.propositions) (components ++ (minutes ++ count)) (value_stands one s bs 0 p'.propositions refl)
      (stands_both s 1 components (minutes ++ count) (value_stands one s bs 1 p'.components refl)
      (stands_both s 2 minutes count (value_stands two s bs 2 p'.minutes refl) (value_stands one s bs 4 p'.count refl)))

  all_stands : Stands s 0 (text_of p')
  unfolding text_of numbers_of policy_of
  all_stands = stands_both s 0 (heading p') (lines_text p'.lines p'.count) heading_stands (lines_of_line p'.lines s (count_of s) line_placed)

  as_long : length (text_of p') ≡ length s
  unfolding text_of numbers_of policy_of
  as_long =
      length-append (heading p') (lines_text p'.lines p'.count) ∙ sym (placed (count_of s) (omega arith)) ∙ read.ends

  own_bytes : text_of p' ≡ s
  own_bytes = ext_get_or 0 (text_of p') s as_long (λ i l. sym (all_stands i l) ∙ ap (λ (k : ℕ). get_or s k 0) (zero-add i))

-- ---- the theorem

pub round_trip : RoundTrip
round_trip = record {
  reads_back = λ p r. (accepted p r, same_numbers p r);
  writes_back = λ s bs e. (ranged s bs e, own_bytes s bs e);
  texts = λ s bs. (
    λ e. (numbers_of (policy_of s), ranged s bs e, sym (own_bytes s bs e)),
    λ t. subst (λ (x : List ℕ). answer_of x ≡ Ok tt) (sym t.2) (accepted t.0 t.1),
  );
  one_text = λ s t bs ct e f q. sym (own_bytes s bs e) ∙ ap (λ x. text_of (numbers_of x)) q ∙ own_bytes t ct f;
  bytes = are_bytes;
  short = short;
  again = λ s out bs e h. let q = causes (numbers_of (policy_of s)) out in
      let l = own_bytes s bs e in
      let done = (q.done (length s)).1 (ranged s bs e, subst (λ (x : List ℕ). length x ≤ length out) (sym l) h, ap length (sym l)) in
      (done, q.text (length s) done ∙ ap (λ (x : List ℕ). x ++ drop (length s) out) l);
  readable = λ p out n e. let q = causes p out in
      let d = (q.done n).0 e in
      let cut : take n (encode_of p out).out ≡ text_of p = ap (take n) (q.text n e) ∙ take_at (text_of p) (drop n out) n (sym d.2) in
      subst (λ (x : List ℕ). answer_of x ≡ Ok tt) (sym cut) (accepted p d.0);
}
