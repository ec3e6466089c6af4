-- 01, "The record and what it tells".
use Rattle.std.specs.Prelude.{ℕ, suc, ◌+◌, ◌-◌, ◌*◌, ◌%◌, ◌≤◌, ◌<◌, ◌≡◌, Bool, true, not, cond, ◌&&◌, ◌||◌, List, get_or, length, set, replicate, ltb, leb, eqb}
use Rattle.std.specs.Bool.{beq}
use Rattle.std.specs.Int.Bits.{bit_or}
use Rattle.kleene.specs.Truth.{Truth, unknown, true3, false3}
use Rattle.bits.specs.Bits.{bit}
use Rattle.rows.specs.Grid.{table}
use Rattle.mtl.specs.Algebra.{two, any, all}
use Rattle.mtl.specs.Reading.{World}
use Rattle.policy.specs.declared.Sizes.{Sizes}
use Rattle.message.specs.declared.Event.{Event}
use Rattle.message.specs.declared.Event.TheVariants.{Observation, Alive}
use Rattle.message.specs.declared.Message.{Message}
use Rattle.knowledge.specs.Trace.{Trace, made}

pub record Knowledge : Type 0 where
  -- "counts, stations times (M + 1), one run per station, the first place standing for "before minute 0", 65535 for not known"
  pub numbers : List ℕ
  -- "facts, two per minute, known marks and then their values"
  pub facts : List ℕ

-- "minutes M (1 to 1,024)"
abbrev pub most_minutes : ℕ
most_minutes = 1024

-- the code of a sequence number that is not known; a known one is below it
abbrev pub none : ℕ
none = 65535

-- ---- one component's run: its sequence numbers, as a function from the place. Place 0 stands for "before minute 0", place t + 1 for minute t

-- component c's run among runs of m minutes, one after another
abbrev pub run_of : List ℕ → ℕ → ℕ → ℕ → ℕ
run_of l m c p = get_or l (c * suc m + p) none

-- "0 ≤ later − earlier ≤ b − a": the number w stands d places after v
pub record Follow (v w d : ℕ) : Type 0 where
  pub up : v ≤ w
  pub slow : w ≤ v + d

-- "Every first count is 0, any two known counts of one station at places a < b satisfy" that, of the run's first n places
pub record Steady (f : ℕ → ℕ) (n : ℕ) : Type 0 where
  pub first : f 0 ≡ 0
  pub pairs : (b : ℕ) → b < n → (a : ℕ) → a < b → f a < none → f b < none → Follow (f a) (f b) (b - a)

-- Known counts "at some a < t and some b ≥ t", of m minutes, that R relates: the earlier, the later, and how many places they are apart. The place before
-- minute 0 is one of the first
pub record Across (R : ℕ → ℕ → ℕ → Type 0) (f : ℕ → ℕ) (m t : ℕ) : Type 0 where
  pub early : ℕ
  pub late : ℕ
  pub early_before : early ≤ t
  pub late_after : t < late
  pub late_in : late ≤ m
  pub early_known : f early < none
  pub late_known : f late < none
  pub related : R (f early) (f late) (late - early)

-- two counts v and w, d places apart: "equal", and "that differ by exactly b − a"
abbrev pub Equal : ℕ → ℕ → ℕ → Type 0
Equal v w d = v ≡ w

abbrev pub Apart : ℕ → ℕ → ℕ → Type 0
Apart v w d = w ≡ v + d

-- "Equal known counts at some a < t and some b ≥ t"
abbrev pub Level : (ℕ → ℕ) → ℕ → ℕ → Type 0
Level = Across Equal

-- 02, request 4: "known counts at some a < t and b ≥ t that differ by exactly b − a"
abbrev pub Full : (ℕ → ℕ) → ℕ → ℕ → Type 0
Full = Across Apart

-- ---- the same as tests, which compute

unfoldable pub follow : ℕ → ℕ → ℕ → Bool
follow v w d = leb v w && leb w (v + d)

unfoldable pub steady : (ℕ → ℕ) → ℕ → Bool
steady f n =
    eqb (f 0) 0
    && all two 0 n (λ b. all two 0 b (λ a. not (ltb (f a) none) || (not (ltb (f b) none) || follow (f a) (f b) (b - a))))

abbrev pub across : (ℕ → ℕ → ℕ → Bool) → (ℕ → ℕ) → ℕ → ℕ → Bool
across r f m t = any two 0 (suc t) (λ a. any two (suc t) (m - t) (λ b. ltb (f a) none && (ltb (f b) none && r (f a) (f b) (b - a))))

unfoldable pub level : (ℕ → ℕ) → ℕ → ℕ → Bool
level f m t = across (λ v w d. eqb v w) f m t

unfoldable pub full : (ℕ → ℕ) → ℕ → ℕ → Bool
full f m t = across (λ v w d. eqb w (v + d)) f m t

-- "true, false or unknown for busy, quiet or open": p says busy, and q quiet
abbrev pub says : Bool → Bool → Truth
says p q = cond p true3 (cond q false3 unknown)

-- v may stand at place p: a number that is known is not overwritten by another, and 65535 stands for no number
abbrev pub free_place : (ℕ → ℕ) → ℕ → ℕ → Bool
free_place f p v = ltb v none && (not (ltb (f p) none) || eqb (f p) v)

-- ---- one minute's two words of facts

-- "No value bit is 1 where its mark isn't known, and no mark beyond the card is known": p is how many marks there are
unfoldable pub word_sound : ℕ → ℕ → ℕ → Bool
word_sound p known values = all two 0 32 (λ i. (not (bit values i) || bit known i) && (not (bit known i) || ltb i p))

-- no named proposition is known with another value
unfoldable pub words_agree : ℕ → ℕ → ℕ → ℕ → Bool
words_agree known old named values = all two 0 32 (λ i. not (bit named i && bit known i) || beq (bit old i) (bit values i))

-- ---- the knowledge

abbrev pub known_word : Knowledge → ℕ → ℕ
known_word k t = get_or k.facts (2 * t) 0

abbrev pub value_word : Knowledge → ℕ → ℕ
value_word k t = get_or k.facts (2 * t + 1) 0

-- is proposition i known at minute t, and its value bit
unfoldable pub noted : Knowledge → ℕ → ℕ → Bool
noted k i t = bit (known_word k t) i

unfoldable pub valued : Knowledge → ℕ → ℕ → Bool
valued k i t = bit (value_word k t) i

-- "A mark is its fact, else unknown"
abbrev pub fact : Knowledge → ℕ → ℕ → Truth
fact k i t = cond (noted k i t) (cond (valued k i t) true3 false3) unknown

module _ (z : Sizes) where
  -- component c's sequence number at place p
  unfoldable pub number : Knowledge → ℕ → ℕ → ℕ
  number k c = run_of k.numbers z.minutes c

  -- "A record is sound if every first count is 0, any two known counts of one station at places a < b satisfy 0 ≤ later − earlier ≤ b − a,
  -- no value bit is 1 where its mark isn't known, and no mark beyond the card is known"
  pub record Sound (k : Knowledge) : Type 0 where
    pub runs : (c : ℕ) → c < z.components → Steady (number k c) (suc z.minutes)
    pub values : (i t : ℕ) → i < 32 → t < z.minutes → valued k i t ≡ true → noted k i t ≡ true
    pub propositions : (i t : ℕ) → i < 32 → t < z.minutes → noted k i t ≡ true → i < z.propositions

  -- "A shift fits a record if it agrees with every known count and fact"
  pub record Agrees (w : Trace z) (k : Knowledge) : Type 0 where
    pub numbers : (c p : ℕ) → c < z.components → p ≤ z.minutes → number k c p < none → made z w c p ≡ number k c p
    pub facts : (i t : ℕ) → i < z.propositions → t < z.minutes → noted k i t ≡ true → w.value i t ≡ valued k i t

  -- 02, request 4: "From now on a minute t is known busy if some station has known counts at some a < t and b ≥ t that differ by exactly b − a"
  pub record KnownPoint (k : Knowledge) (t : ℕ) : Type 0 where
    pub component : ℕ
    pub is_component : component < z.components
    pub full_run : Full (number k component) z.minutes t

  -- "It is known quiet if every station has equal known counts at some a < t and some b ≥ t"
  abbrev pub KnownNone : Knowledge → ℕ → Type 0
  KnownNone k t = (c : ℕ) → c < z.components → Level (number k c) z.minutes t

  -- ---- the same as tests, which compute

  unfoldable pub sound : Knowledge → Bool
  sound k =
      all two 0 z.components (λ c. steady (number k c) (suc z.minutes))
      && all two 0 z.minutes (λ t. word_sound z.propositions (known_word k t) (value_word k t))

  unfoldable pub is_point : Knowledge → ℕ → Bool
  is_point k t = any two 0 z.components (λ c. full (number k c) z.minutes t)

  unfoldable pub is_none : Knowledge → ℕ → Bool
  is_none k t = all two 0 z.components (λ c. level (number k c) z.minutes t)

  -- ---- what it tells

  -- "Let e(t) be true, false or unknown for busy, quiet or open"
  abbrev pub point_known : Knowledge → ℕ → Truth
  point_known k t = says (is_point k t) (is_none k t)

  -- "From M on, e and every line are unknown": the window is t < M
  abbrev pub world : Knowledge → World Truth
  world k = record {
    time_point = point_known k;
    proposition = fact k;
    window = λ t. ltb t z.minutes;
    outside = unknown;
  }

  -- ---- opening and storing

  -- "A fresh record: only each first count is known, as 0; no facts"
  unfoldable pub fresh : Knowledge
  fresh = record {
    numbers = table (z.components * suc z.minutes) (λ i. cond (eqb (i % suc z.minutes) 0) 0 none);
    facts = replicate (2 * z.minutes) 0;
  }

  -- "An accepted slip makes known in the record all that it fixes, at the values it fixes, and changes nothing else in counts or facts"
  abbrev pub put_numbers : List ℕ → ℕ → Event → List ℕ
  put_numbers l c (Observation t n named values) =
      set (set l (c * suc z.minutes + suc t) n) (c * suc z.minutes + t) (n - 1)
  put_numbers l c (Alive t n) = set l (c * suc z.minutes + t) n

  abbrev pub put_facts : List ℕ → Event → List ℕ
  put_facts l (Observation t n named values) =
      set (set l (2 * t) (bit_or (get_or l (2 * t) 0) named)) (2 * t + 1) (bit_or (get_or l (2 * t + 1) 0) values)
  put_facts l (Alive t n) = l

  unfoldable pub stored : Knowledge → Message → Knowledge
  stored k m = record { numbers = put_numbers k.numbers m.component m.event; facts = put_facts k.facts m.event }

  -- ---- does a message go with the knowledge

  -- nothing that is known is overwritten by another number or value
  abbrev pub free_event : Knowledge → ℕ → Event → Bool
  free_event k c (Observation t n named values) =
      free_place (number k c) (suc t) n && (free_place (number k c) t (n - 1) && words_agree (known_word k t) (value_word k t) named values)
  free_event k c (Alive t n) = free_place (number k c) t n

  unfoldable pub free : Knowledge → Message → Bool
  free k m = free_event k m.component m.event

  -- it overwrites nothing, and what is known with it is sound. That this is so exactly when some trace agrees with the knowledge and admits
  -- the message is a theorem (Conflict)
  unfoldable pub admits : Knowledge → Message → Bool
  admits k m = free k m && sound (stored k m)

  -- the buffers' sizes
  pub record Sized (k : Knowledge) : Type 0 where
    pub numbers : length k.numbers ≡ z.components * suc z.minutes
    pub facts : length k.facts ≡ 2 * z.minutes
