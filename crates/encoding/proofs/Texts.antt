-- Laws of the definitions in specs/Texts. Assumes nothing.
use Rattle.std.specs.Prelude.{ℕ, zero, suc, ◌+◌, ◌-◌, ◌*◌, ◌/◌, ◌%◌, ◌^◌, ◌≤◌, ◌<◌, ◌≡◌, Bool, cond, ◌↔◌, ◌≢◌, ◌⊎◌, List, [], ◌∷◌, ◌++◌, get_or, length}
use Rattle.std.proofs.Common.{arith, add-zero, zero-mul, one-mul, mul_assoc, pow-suc, eq-or-lt_of_le, sym, ap, subst, ◌∙◌, true≢false, inl, inr, ⊎_elim, length-append, get_or-append-add}
use Rattle.std.proofs.Math.Nat.{one-le-pow}
use Rattle.std.proofs.Math.Decide.{dec_lt}
use Rattle.std.proofs.Math.Path.{refl}
use Rattle.std.proofs.Math.Bool.{true, false}
use Rattle.std.proofs.Math.ListN.{get_or-append}
use Rattle.std.proofs.Math.Dec.{eqb}
use Rattle.bits.specs.Bits.{bit}
use Rattle.bits.proofs.Bits.{bits_same}
use Rattle.bits.specs.Digits.{digit}
use Rattle.bits.proofs.Packed.{digit_under, digit_top}
use Rattle.encoding.specs.Fields.{has}
use Rattle.encoding.specs.Layout.{width, value_at, bytes_at, takes, follows, Laid}
use Rattle.encoding.specs.Text.{bytes_of, field_text, fields_text, bits_of, text, ByteString, Stands}
use Rattle.encoding.specs.Texts.{Holds, Width, four, one, two}

-- ---- one text after another

pub stands_first : (s : List ℕ) (at : ℕ) (a b : List ℕ) → Stands s at (a ++ b) → Stands s at a
stands_first s at a b h i l = h i (omega (arith, length-append a b)) ∙ get_or-append a b 0 i l

pub stands_next : (s : List ℕ) (at : ℕ) (a b : List ℕ) → Stands s at (a ++ b) → Stands s (at + length a) b
stands_next s at a b h i l =
    let place : at + length a + i ≡ at + (length a + i) = omega arith in
    ap (λ (k : ℕ). get_or s k 0) place ∙ h (length a + i) (omega (arith, length-append a b)) ∙ get_or-append-add a b i 0

pub stands_both : (s : List ℕ) (at : ℕ) (a b : List ℕ) → Stands s at a → Stands s (at + length a) b → Stands s at (a ++ b)
stands_both s at a b p q i l = go (dec_lt i (length a))
  where
    go : Dec (i < length a) → get_or s (at + i) 0 ≡ get_or (a ++ b) i 0
    go (yes h) = p i h ∙ sym (get_or-append a b 0 i h)
    go (no h) =
        let j = i - length a in
        let place : at + i ≡ at + length a + j = omega arith in
        let inner : length a + j ≡ i = omega arith in
        ap (λ (k : ℕ). get_or s k 0) place
        ∙ q j (omega (arith, length-append a b))
        ∙ sym (get_or-append-add a b j 0)
        ∙ ap (λ (k : ℕ). get_or (a ++ b) k 0) inner

first : (s : List ℕ) (at : ℕ) {x : ℕ} → get_or s (at + 0) 0 ≡ x → get_or s at 0 ≡ x
first s at e = ap (λ (k : ℕ). get_or s k 0) (sym (add-zero at)) ∙ e

-- a first byte and what is behind it
behind : (s : List ℕ) (at x : ℕ) (t : List ℕ) → Stands s at (x ∷ t) → Stands s (suc at) t
behind s at x t h i l =
    let place : suc at + i ≡ at + suc i = omega arith in
    ap (λ (k : ℕ). get_or s k 0) place ∙ h (suc i) (omega arith)

before : (s : List ℕ) (at x : ℕ) (t : List ℕ) → get_or s at 0 ≡ x → Stands s (suc at) t → Stands s at (x ∷ t)
before s at x t e h zero l = ap (λ (k : ℕ). get_or s k 0) (add-zero at) ∙ e
before s at x t e h (suc i) l =
    let place : at + suc i ≡ suc at + i = omega arith in
    ap (λ (k : ℕ). get_or s k 0) place ∙ h i (omega arith)

pub length_bytes : (w n : ℕ) → length (bytes_of w n) ≡ w
length_bytes zero n = refl
length_bytes (suc w) n = ap suc (length_bytes w (n / 256))

pub length_field : (w n : ℕ) → length (field_text w n) ≡ takes n w
length_field w zero = refl
length_field w (suc n) = length_bytes w (suc n)

pub takes_most : (n w : ℕ) → takes n w ≤ w
takes_most zero w = omega arith
takes_most (suc n) w = omega arith

-- the first byte is the lowest
bytes_front : (s : List ℕ) (at w : ℕ) → bytes_at s at (suc w) ≡ get_or s at 0 + bytes_at s (suc at) w * 256
bytes_front s at zero = rw (add-zero at) (omega arith)
bytes_front s at (suc w) =
    let x = get_or s (suc at + w) 0 in
    let place : at + suc w ≡ suc at + w = omega arith in
    let weight : x * 256 ^ suc w ≡ x * 256 ^ w * 256 = rw pow-suc (sym (mul_assoc x (256 ^ w) 256)) in
    rw place (omega (arith, bytes_front s at w, weight))

-- the bytes of a number, read, are the number
pub number_written : (w : ℕ) (s : List ℕ) (at n : ℕ) → n < 256 ^ w → Stands s at (bytes_of w n) → bytes_at s at w ≡ n
number_written zero s at n h t = omega arith
number_written (suc w) s at n h t =
    let less : n < 256 ^ w * 256 = rw pow-suc at h in
    let low : get_or s at 0 ≡ n % 256 = first s at (t 0 (omega arith)) in
    omega (arith, bytes_front s at w, low, number_written w s (suc at) (n / 256) (omega arith) (behind s at (n % 256) (bytes_of w (n / 256)) t))

-- and where a number is read stand its bytes
pub number_stands : (w : ℕ) (s : List ℕ) → ByteString s → (at n : ℕ) → bytes_at s at w ≡ n → Stands s at (bytes_of w n)
number_stands zero s bs at n e = λ i l. absurd (omega arith)
number_stands (suc w) s bs at n e =
    let front = bytes_front s at w in
    before s at (n % 256) (bytes_of w (n / 256)) (omega (arith, bs at, front, e))
    (number_stands w s bs (suc at) (n / 256) (omega (arith, bs at, front, e)))

-- which fit in so many
number_small : (w : ℕ) (s : List ℕ) → ByteString s → (at : ℕ) → bytes_at s at w < 256 ^ w
number_small zero s bs at = omega arith
number_small (suc w) s bs at = rw pow-suc (omega (arith, bytes_front s at w, bs at, number_small w s bs (suc at)))

-- a field of a format is read so
its_number : {w : ℕ} → Width w → (s : List ℕ) (at : ℕ) → value_at s at w ≡ bytes_at s at w
its_number one s at = rw (add-zero at) (omega arith)
its_number two s at = rw (add-zero at) (omega arith)
its_number four s at = rw (add-zero at) (omega arith)

pub value_stands : {w : ℕ} → Width w → (s : List ℕ) → ByteString s → (at n : ℕ) → value_at s at w ≡ n → Stands s at (bytes_of w n)
value_stands {w} k s bs at n e = number_stands w s bs at n (sym (its_number k s at) ∙ e)

-- ---- the map

as_weight : (n w : ℕ) → takes n w ≡ takes n 1 * w
as_weight zero w = sym (zero-mul w)
as_weight (suc n) w = sym (one-mul w)

one_bit : (n : ℕ) → takes n 1 < 2
one_bit zero = omega arith
one_bit (suc n) = omega arith

-- a bit stands just where its number is not 0
some : (n : ℕ) → (eqb (takes n 1) 1 ≡ true) ↔ (n ≢ 0)
some zero = (λ e. absurd (true≢false (sym e)), λ h. absurd (h refl))
some (suc n) = (λ e q. omega arith, λ h. refl)

flag_weight : (flag : Bool) (w : ℕ) → cond flag w 0 ≡ cond flag 1 0 * w
flag_weight true w = sym (one-mul w)
flag_weight false w = sym (zero-mul w)

flag_bit : (flag : Bool) → cond flag 1 0 < 2
flag_bit true = omega arith
flag_bit false = omega arith

its_flag : (flag : Bool) → eqb (cond flag 1 0) 1 ≡ flag
its_flag true = refl
its_flag false = refl

module _ (v : ℕ → ℕ) where
  bits_lt : (n : ℕ) → bits_of v n < 2 ^ n
  bits_lt zero = omega arith
  bits_lt (suc n) = rw pow-suc (go (v n) (bits_lt n))
    where
      go : (x : ℕ) → bits_of v n < 2 ^ n → bits_of v n + takes x (2 ^ n) < 2 ^ n * 2
      go zero h = omega arith
      go (suc x) h = omega arith

  bits_digit : (n k : ℕ) → k < n → digit (bits_of v n) k ≡ takes (v k) 1
  bits_digit zero k h = absurd (omega arith)
  bits_digit (suc n) k h =
      rw (as_weight (v n) (2 ^ n))
      (⊎_elim (λ (e : k ≡ n). rw e (digit_top n (bits_of v n) (takes (v n) 1) (bits_lt n) (one_bit (v n))))
      (λ (l : k < n). digit_under k n (bits_of v n) (takes (v n) 1) l ∙ bits_digit n k l) (eq-or-lt_of_le (omega arith)))

  module _ (flag : Bool) (n : ℕ) where
    abbrev map : ℕ
    map = bits_of v n + cond flag (2 ^ n) 0

    -- a field's bit, and the flag
    map_has : (k : ℕ) → k < n → (has map k ≡ true) ↔ (v k ≢ 0)
    unfolding digit
    map_has k h =
        let e : has map k ≡ eqb (takes (v k) 1) 1 = rw (flag_weight flag (2 ^ n)) (ap (λ (d : ℕ). eqb d 1) (digit_under k n (bits_of v n) (cond flag 1 0) h ∙ bits_digit n k h)) in
        let law = some (v k) in
        (λ p. law.0 (sym e ∙ p), λ q. e ∙ law.1 q)

    map_flag : has map n ≡ flag
    unfolding digit
    map_flag = rw (flag_weight flag (2 ^ n)) (ap (λ (d : ℕ). eqb d 1) (digit_top n (bits_of v n) (cond flag 1 0) (bits_lt n) (flag_bit flag)) ∙ its_flag flag)

    map_lt : map < 2 ^ suc n
    map_lt = rw pow-suc (go flag (bits_lt n))
      where
        go : (b : Bool) → bits_of v n < 2 ^ n → bits_of v n + cond b (2 ^ n) 0 < 2 ^ n * 2
        go true h = omega arith
        go false h = omega arith

    -- no other byte has these bits
    map_only : (m : ℕ) → m < 2 ^ suc n → has m n ≡ flag → ((k : ℕ) → k < n → (has m k ≡ true) ↔ (v k ≢ 0)) → m ≡ map
    unfolding bit
    map_only m l f bits = bits_same (suc n) m map l map_lt (λ k h. go k (eq-or-lt_of_le (omega arith)))
      where
        alike : (k : ℕ) → k < n → (a b : Bool) → has m k ≡ a → has map k ≡ b → a ≡ b
        alike k h true true p q = refl
        alike k h false false p q = refl
        alike k h true false p q = absurd (true≢false (sym ((map_has k h).1 ((bits k h).0 p)) ∙ q))
        alike k h false true p q = absurd (true≢false (sym ((bits k h).1 ((map_has k h).0 q)) ∙ p))

        go : (k : ℕ) → (k ≡ n) ⊎ (k < n) → has m k ≡ has map k
        go k (inl e) = rw e (f ∙ sym map_flag)
        go k (inr h) = alike k h (has m k) (has map k) refl refl

-- ---- the fields

-- what is written are bytes
pub bytes_both : (a b : List ℕ) → ByteString a → ByteString b → ByteString (a ++ b)
bytes_both [] b p q i = q i
bytes_both (x ∷ a) b p q zero = p 0
bytes_both (x ∷ a) b p q (suc i) = bytes_both a b (λ j. p (suc j)) q i

pub bytes_number : (w n : ℕ) → ByteString (bytes_of w n)
bytes_number zero n i = omega arith
bytes_number (suc w) n zero = omega arith
bytes_number (suc w) n (suc i) = bytes_number w (n / 256) i

bytes_field : (w n : ℕ) → ByteString (field_text w n)
bytes_field w zero i = omega arith
bytes_field w (suc n) i = bytes_number w (suc n) i

bytes_fields : (ws : List ℕ) (v : ℕ → ℕ) (n : ℕ) → ByteString (fields_text ws v n)
bytes_fields ws v zero = λ i. omega arith
bytes_fields ws v (suc n) = bytes_both (fields_text ws v n) (field_text (width ws n) (v n)) (bytes_fields ws v n) (bytes_field (width ws n) (v n))

pub bytes_text : (ws : List ℕ) (v : ℕ → ℕ) (flag : Bool) → 2 ^ suc (length ws) ≤ 256 → ByteString (text ws v flag)
bytes_text ws v flag h zero = omega (arith, map_lt v flag (length ws))
bytes_text ws v flag h (suc i) = bytes_fields ws v (length ws) i

module _ (ws : List ℕ) (v : ℕ → ℕ) where
  pub length_fields : (at n : ℕ) → follows ws v at n ≡ at + 1 + length (fields_text ws v n)
  length_fields at zero = sym (add-zero (at + 1))
  length_fields at (suc n) =
      omega (arith, length_fields at n, length-append (fields_text ws v n) (field_text (width ws n) (v n)), length_field (width ws n) (v n))

  -- a layout ends where its text does
  pub length_text : (at : ℕ) (flag : Bool) → follows ws v at (length ws) ≡ at + length (text ws v flag)
  length_text at flag = omega (arith, length_fields at (length ws))

  -- the text of field k, of those of n, stands where the field does
  field_stands : (s : List ℕ) (at n k : ℕ) → k < n → Stands s (at + 1) (fields_text ws v n) → Stands s (follows ws v at k) (field_text (width ws k) (v k))
  field_stands s at zero k h t = absurd (omega arith)
  field_stands s at (suc n) k h t =
      let a = fields_text ws v n in
      let b = field_text (width ws n) (v n) in
      ⊎_elim
      (λ (e : k ≡ n). rw (e, length_fields at n) (stands_next s (at + 1) a b t))
      (λ (l : k < n). field_stands s at n k l (stands_first s (at + 1) a b t))
      (eq-or-lt_of_le (omega arith))

  module _ (widths : (k : ℕ) → k < length ws → Width (width ws k)) (s : List ℕ) (at : ℕ) where
    -- ---- what is written is laid out

    pub laid_out : Holds ws v → (flag : Bool) → Stands s at (text ws v flag)
        → Laid ws s at v × (has (get_or s at 0) (length ws) ≡ flag) × (get_or s at 0 < 2 ^ suc (length ws))
    laid_out small flag t =
        rw here (
          record {
            bits = λ k h. rw here (map_has v flag (length ws) k h);
            bytes = λ k h n. written k h n (v k) refl (field_stands s at (length ws) k h (stands_next s at (map v flag (length ws) ∷ []) (fields_text ws v (length ws)) t));
          },
          map_flag v flag (length ws),
          map_lt v flag (length ws),
        )
      where
        here : get_or s at 0 ≡ map v flag (length ws)
        here = first s at (t 0 (omega arith))

        written : (k : ℕ) → k < length ws → v k ≢ 0 → (n : ℕ) → v k ≡ n → Stands s (follows ws v at k) (field_text (width ws k) n)
            → value_at s (follows ws v at k) (width ws k) ≡ v k
        written k h p zero e t = absurd (p e)
        written k h p (suc n) e t =
            its_number (widths k h) s (follows ws v at k)
            ∙ number_written (width ws k) s (follows ws v at k) (suc n) (subst (λ (x : ℕ). x < 256 ^ width ws k) e (small k h)) t
            ∙ sym e

    -- ---- where it is laid out, it is written

    pub laid_holds : ByteString s → Laid ws s at v → Holds ws v
    laid_holds bs l k h = go (v k) refl
      where
        go : (n : ℕ) → v k ≡ n → v k < 256 ^ width ws k
        go zero e = rw e (one-le-pow (width ws k) 256 (omega arith))
        go (suc n) e =
            subst (λ (x : ℕ). x < 256 ^ width ws k)
            (sym (its_number (widths k h) s (follows ws v at k)) ∙ l.bytes k h (λ z. let q : suc n ≡ 0 = sym e ∙ z in omega arith))
            (number_small (width ws k) s bs (follows ws v at k))

    pub text_stands : ByteString s → (flag : Bool) → Laid ws s at v → has (get_or s at 0) (length ws) ≡ flag → get_or s at 0 < 2 ^ suc (length ws)
        → Stands s at (text ws v flag)
    text_stands bs flag l f m =
        stands_both s at (map v flag (length ws) ∷ []) (fields_text ws v (length ws)) head (fields (length ws) (omega arith))
      where
        head : Stands s at (map v flag (length ws) ∷ [])
        head zero h = ap (λ (k : ℕ). get_or s k 0) (add-zero at) ∙ map_only v flag (length ws) (get_or s at 0) m f l.bits
        head (suc i) h = absurd (omega arith)

        one_field : (k : ℕ) → k < length ws → (n : ℕ) → v k ≡ n → Stands s (follows ws v at k) (field_text (width ws k) n)
        one_field k h zero e = λ i j. absurd (omega arith)
        one_field k h (suc n) e =
            value_stands (widths k h) s bs (follows ws v at k) (suc n) (l.bytes k h (λ z. let q : suc n ≡ 0 = sym e ∙ z in omega arith) ∙ e)

        fields : (n : ℕ) → n ≤ length ws → Stands s (at + 1) (fields_text ws v n)
        fields zero h = λ i j. absurd (omega arith)
        fields (suc n) h =
            stands_both s (at + 1) (fields_text ws v n) (field_text (width ws n) (v n)) (fields n (omega arith))
            (subst (λ (p : ℕ). Stands s p (field_text (width ws n) (v n))) (length_fields at n) (one_field n (omega arith) (v n) refl))
