-- What a message says hangs on its own bytes alone: so the first message of a packet says what it says alone, and a packet is made of just one list of
-- byte strings.
use Rattle.std.specs.Prelude.{ℕ, zero, suc, ◌+◌, ◌-◌, ◌≤◌, ◌<◌, ◌≡◌, Bool, List, [], ◌∷◌, ◌++◌, ltb, take, drop, get_or, Err, Ok}
use Rattle.std.proofs.Common.{add-zero, arith, sym, ap₂, subst, ◌∙◌, length-append, length-drop, take-append-drop, drop_of_length-le, get_or-take, take_all, length-take-le, ltb-true, leb-true, leb-false, le-leb}
use Rattle.std.proofs.Math.Decide.{dec_le}
use Rattle.std.proofs.Math.Path.{refl, ap}
use Rattle.std.proofs.Math.Bool.{true, false, cond, true≢false}
use Rattle.std.proofs.Math.ListN.{length, get_or-append}
use Rattle.std.proofs.Math.Seq.{take-append_seam, drop-append_seam}
use Rattle.std.proofs.lemmas.Bool.{lt-leb}
use Rattle.encoding.specs.Fields.{has, size, field8}
use Rattle.encoding.specs.Layout.{value_at}
use Rattle.refusal.specs.declared.Refusal.TheVariants.{TruncatedMessage, BadMessage}
use Rattle.refusal.specs.Checks.{Checked}
use Rattle.refusal.specs.Checks.{give_unless, Refuses, here, there, Passed, pass, none}
use Rattle.refusal.proofs.Laws.{refusal_law, passing_law}
use Rattle.policy.specs.declared.Sizes.{Sizes}
use Rattle.message.specs.declared.Fields.{Fields}
use Rattle.message.specs.Format.{map_of, minute_at, number_at, named_at, values_at, component_of, minute_of, number_of, named_of, packed_at, packed_of, value_bytes, fields_of, length_of, good_fields, good_message, message_in, decode_of, first_checks, first_answer, first_of, used_of, rest_of, messages_within, messages_of}
use Rattle.message.specs.Encoded.{IsMessage}
use Rattle.message.specs.Packet.{FirstCauses, Single, Packed, no_more, whole, cut}
use Rattle.message.specs.Proper.{extra, early}
use Rattle.message.proofs.ReadLaws.{kept, refuses, takes, accepts}
use Rattle.message.proofs.Laws.{refused_cut, decodes}

pub length_some : (s : List ℕ) → 0 < length_of s
unfolding length_of
length_some s = omega arith

-- ---- bytes that agree as far as a message goes

module _ (s t : List ℕ) (same : (i : ℕ) → i < length_of s → get_or t i 0 ≡ get_or s i 0) where
  same8 : (at : ℕ) (p : Bool) → at + size p 1 ≤ length_of s → cond p (value_at t at 1) 0 ≡ cond p (value_at s at 1) 0
  same8 at true h = same at (omega arith)
  same8 at false h = refl

  same16 : (at : ℕ) (p : Bool) → at + size p 2 ≤ length_of s → cond p (value_at t at 2) 0 ≡ cond p (value_at s at 2) 0
  same16 at true h = rw (same at (omega arith), same (at + 1) (omega arith))
  same16 at false h = refl

  same32 : (at : ℕ) (p : Bool) → at + size p 4 ≤ length_of s → cond p (value_at t at 4) 0 ≡ cond p (value_at s at 4) 0
  same32 at true h = rw (same at (omega arith), same (at + 1) (omega arith), same (at + 2) (omega arith), same (at + 3) (omega arith))
  same32 at false h = refl

  same_byte : (at k j : ℕ) → at + k ≤ length_of s → field8 t (ltb j k) (at + j) ≡ field8 s (ltb j k) (at + j)
  same_byte at k j h = go (ltb j k) refl
    where
      go : (p : Bool) → ltb j k ≡ p → field8 t p (at + j) ≡ field8 s p (at + j)
      go true e = let l : j < k = ltb-true _ _ e in same (at + j) (omega arith)
      go false e = refl

  same_packed : (at k : ℕ) → at + k ≤ length_of s → packed_at t k at ≡ packed_at s k at
  same_packed at k h =
      let first : field8 t (ltb 0 k) at ≡ field8 s (ltb 0 k) at = subst (λ (x : ℕ). field8 t (ltb 0 k) x ≡ field8 s (ltb 0 k) x) (add-zero at) (same_byte at k 0 h) in
      rw (first, same_byte at k 1 h, same_byte at k 2 h, same_byte at k 3 h)

  same_map : map_of t ≡ map_of s
  same_map = same 0 (length_some s)

  same_named : named_of t ≡ named_of s
  unfolding named_of length_of
  same_named = ap (λ (m : ℕ). cond (has m 3) (value_at t (named_at m) 4) 0) same_map ∙ same32 (named_at (map_of s)) (has (map_of s) 3) (omega arith)

  pub same_length : length_of t ≡ length_of s
  unfolding length_of
  same_length = rw (same_map, same_named)

  pub same_fields : fields_of t ≡ fields_of s
  unfolding fields_of component_of minute_of number_of packed_of length_of
  same_fields =
      rw (
        same_map,
        same_named,
        same8 1 (has (map_of s) 0) (omega arith),
        same16 (minute_at (map_of s)) (has (map_of s) 1) (omega arith),
        same16 (number_at (map_of s)) (has (map_of s) 2) (omega arith),
        same_packed (values_at (map_of s)) (value_bytes (named_of s)) (omega arith),
      )

-- ---- the first message

pub used_whole : (s : List ℕ) → length_of s ≤ length s → used_of s ≡ length_of s
unfolding used_of
used_whole s h = rw (le-leb (length_of s) (length s) h)

pub used_early : (s : List ℕ) → length s < length_of s → used_of s ≡ length s
unfolding used_of
used_early s h = rw (lt-leb (length_of s) (length s) h)

-- whole, or it ends early
module _ (s : List ℕ) (P : Type 0) (w : length_of s ≤ length s → P) (e : length s < length_of s → P) where
  pub either : P
  either = go (dec_le (length_of s) (length s))
    where
      go : Dec (length_of s ≤ length s) → P
      go (yes h) = w h
      go (no n) = e (omega arith)

pub used_in : (s : List ℕ) → used_of s ≤ length s
used_in s = either s _ (λ h. omega (arith, used_whole s h)) (λ h. omega (arith, used_early s h))

-- no message is empty
pub used_some : (s : List ℕ) → 0 < length s → 0 < used_of s
used_some s l = either s _ (λ h. omega (arith, used_whole s h, length_some s)) (λ h. omega (arith, used_early s h))

-- the first message alone
module _ (s : List ℕ) (h : length_of s ≤ length s) where
  abbrev first : List ℕ
  first = take (length_of s) s

  first_same : (i : ℕ) → i < length_of s → get_or first i 0 ≡ get_or s i 0
  first_same i l = get_or-take (length_of s) s i 0 l

  pub first_length : length first ≡ length_of first
  first_length = length-take-le (length_of s) s h ∙ sym (same_length s first first_same)

  pub first_fields : fields_of first ≡ fields_of s
  first_fields = same_fields s first first_same

module _ (z : Sizes) (s : List ℕ) where
  pub answered : (a : Checked) → first_answer z s ≡ a → first_of z s ≡ give_unless a (message_in (fields_of s))
  unfolding first_of
  answered a e = ap (λ (x : Checked). give_unless x (message_in (fields_of s))) e

  pub answer_early : length s < length_of s → first_answer z s ≡ Err (TruncatedMessage (length s))
  unfolding first_answer
  answer_early h = (refusal_law (first_checks z s) (TruncatedMessage (length s))).1 (here (lt-leb _ _ h))

  module _ (h : length_of s ≤ length s) where
    pub answer_bad : good_message z s ≡ false → first_answer z s ≡ Err BadMessage
    unfolding first_answer
    answer_bad g = (refusal_law (first_checks z s) BadMessage).1 (there (le-leb _ _ h) (here g))

    pub answer_good : good_message z s ≡ true → first_answer z s ≡ Ok tt
    unfolding first_answer
    answer_good g = (passing_law (first_checks z s)).1 (pass (le-leb _ _ h) (pass g none))

    -- what it is answered is what it is answered alone
    good_alone : good_message z (take (length_of s) s) ≡ good_message z s
    good_alone = ap (good_fields z) (first_fields s h)

    alone_whole : first_of z s ≡ decode_of z (take (length_of s) s)
    alone_whole = go (good_message z s) refl
      where
        go : (b : Bool) → good_message z s ≡ b → first_of z s ≡ decode_of z (take (length_of s) s)
        go true g =
            answered (Ok tt) (answer_good g) ∙ ap (λ (f : Fields). Ok (message_in f)) (sym (first_fields s h))
            ∙ sym (decodes z (take (length_of s) s) (Ok tt) (takes z (take (length_of s) s) (first_length s h) (good_alone ∙ g)))
        go false g =
            answered (Err BadMessage) (answer_bad g)
            ∙ sym (decodes z (take (length_of s) s) (Err BadMessage) (refuses z (take (length_of s) s) (first_length s h) (good_alone ∙ g)))

    whole_rest : take (length_of s) s ++ rest_of s ≡ s
    whole_rest = rw (used_whole s h) (take-append-drop (length_of s) s)

  module _ (h : length s < length_of s) where
    early_rest : rest_of s ≡ []
    early_rest = drop_of_length-le s {i = used_of s} (omega (arith, used_early s h))

    alone_early : first_of z s ≡ decode_of z (take (used_of s) s)
    alone_early =
        answered (Err (TruncatedMessage (length s))) (answer_early h)
        ∙ sym (decodes z s (Err (TruncatedMessage (length s))) (refused_cut z s (length s) (early h)))
        ∙ ap (decode_of z) (sym (take_all (used_of s) s (omega (arith, used_early s h))))

  pub alone : first_of z s ≡ decode_of z (take (used_of s) s)
  alone = either s _ (λ h. alone_whole h ∙ ap (λ (n : ℕ). decode_of z (take n s)) (sym (used_whole s h))) alone_early

  -- the checks that a refusal or an acceptance tells of
  seven_told : (at : ℕ) → Refuses (first_checks z s) (TruncatedMessage at) → (at ≡ length s) × (length s < length_of s)
  seven_told at (here p) = (refl, leb-false _ _ p)
  seven_told at (there p (there g n)) = elim n [ ]

  eight_told : Refuses (first_checks z s) BadMessage → (length_of s ≤ length s) × (good_message z s ≡ false)
  eight_told (there p (there _ x12)) = elim x12 [ ]
  eight_told (there p (here g)) = (leb-true _ _ p, g)

  passed_told : Passed (first_checks z s) → (length_of s ≤ length s) × (good_message z s ≡ true)
  passed_told (pass p (pass g none)) = (leb-true _ _ p, g)

  -- bytes that are cut are no message
  message_whole : IsMessage z (take (length_of s) s) → length_of s ≤ length s
  message_whole m = either s _ (λ h. h) (λ h.
      let c : take (length_of s) s ≡ s = take_all (length_of s) s (omega arith) in
      let k = kept z s ((accepts z s).1 (subst (IsMessage z) c m)) in
      absurd (omega (arith, k.0)))

  is_good : (h : length_of s ≤ length s) → (good_message z s ≡ true) → IsMessage z (take (length_of s) s)
  is_good h g = (accepts z (take (length_of s) s)).0 (takes z (take (length_of s) s) (first_length s h) (good_alone h ∙ g))

  good_is : (h : length_of s ≤ length s) → IsMessage z (take (length_of s) s) → good_message z s ≡ true
  good_is h m = sym (good_alone h) ∙ (kept z (take (length_of s) s) ((accepts z (take (length_of s) s)).1 m)).1

  pub first_causes : FirstCauses z s
  unfolding first_answer
  first_causes = record {
    seven = λ at. (
      λ e. seven_told at ((refusal_law (first_checks z s) (TruncatedMessage at)).0 e),
      λ q. answer_early q.1 ∙ ap (λ (n : ℕ). Err (TruncatedMessage n)) (sym q.0),
    );
    seven_rest = early_rest;
    eight = (
      λ e.
          let q = eight_told ((refusal_law (first_checks z s) BadMessage).0 e) in
          (q.0, λ m. true≢false (sym (good_is q.0 m) ∙ q.1)),
      λ q. bad q.0 q.1 (good_message z s) refl,
    );
    accepted = (
      λ e. let q = passed_told ((passing_law (first_checks z s)).0 e) in is_good q.0 q.1,
      λ m. answer_good (message_whole m) (good_is (message_whole m) m),
    );
    rest = whole_rest;
    alone = alone;
  }
    where
      bad : (h : length_of s ≤ length s) → (IsMessage z (take (length_of s) s) → ⊥) → (b : Bool) → good_message z s ≡ b → first_answer z s ≡ Err BadMessage
      bad h n true g = absurd (n (is_good h g))
      bad h n false g = answer_bad h g

  -- ---- the message of a single take

  all_used : rest_of s ≡ [] → length s ≤ used_of s
  all_used e = let l : length s - used_of s ≡ 0 = sym (length-drop (used_of s) s) ∙ ap length e in omega arith

  pub single : Single z s
  single = record {
    empty = λ e. sym (alone ∙ ap (decode_of z) (take_all (used_of s) s (all_used e)));
    followed = λ l. either s _ (λ h. more h l) (λ h. absurd (omega (arith, l, ap length (early_rest h))));
  }
    where
      more : length_of s ≤ length s → 0 < length (rest_of s) → decode_of z s ≡ Err (TruncatedMessage (length_of s))
      more h l = decodes z s (Err (TruncatedMessage (length_of s))) (refused_cut z s (length_of s) (extra (omega (arith, l, length-drop (used_of s) s, used_whole s h))))

-- ---- the byte strings of a packet

-- more turns than bytes change nothing
within_enough : (j k : ℕ) (s : List ℕ) → length s ≤ j → length s ≤ k → messages_within j s ≡ messages_within k s
within_enough zero zero s h l = refl
within_enough zero (suc k) [] h l = refl
within_enough zero (suc k) (x ∷ xs) h l = absurd (omega arith)
within_enough (suc j) zero [] h l = refl
within_enough (suc j) zero (x ∷ xs) h l = absurd (omega arith)
within_enough (suc j) (suc k) [] h l = refl
within_enough (suc j) (suc k) (x ∷ xs) h l =
    let d = length-drop (used_of (x ∷ xs)) (x ∷ xs) in
    let u = used_some (x ∷ xs) (omega arith) in
    ap (λ (ms : List (List ℕ)). take (used_of (x ∷ xs)) (x ∷ xs) ∷ ms) (within_enough j k (rest_of (x ∷ xs)) (omega arith) (omega arith))

pub messages_none : messages_of [] ≡ []
unfolding messages_of
messages_none = refl

pub messages_some : (s : List ℕ) → 0 < length s → messages_of s ≡ take (used_of s) s ∷ messages_of (rest_of s)
unfolding messages_of
messages_some [] h = absurd (omega arith)
messages_some (x ∷ xs) h =
    let u = used_some (x ∷ xs) h in
    ap (λ (ms : List (List ℕ)). take (used_of (x ∷ xs)) (x ∷ xs) ∷ ms)
    (within_enough (length xs) (length (rest_of (x ∷ xs))) (rest_of (x ∷ xs)) (omega (arith, length-drop (used_of (x ∷ xs)) (x ∷ xs), u)) (omega arith))

packed_within : (k : ℕ) (s : List ℕ) → length s ≤ k → Packed s (messages_within k s)
packed_within zero [] h = no_more
packed_within zero (x ∷ xs) h = absurd (omega arith)
packed_within (suc k) [] h = no_more
packed_within (suc k) (x ∷ xs) h = go (packed_within k (rest_of (x ∷ xs)) (omega (arith, length-drop (used_of (x ∷ xs)) (x ∷ xs), used_some (x ∷ xs) (omega arith))))
  where
    piece : List ℕ
    piece = take (used_of (x ∷ xs)) (x ∷ xs)

    go : Packed (rest_of (x ∷ xs)) (messages_within k (rest_of (x ∷ xs))) → Packed (x ∷ xs) (piece ∷ messages_within k (rest_of (x ∷ xs)))
    go p = either (x ∷ xs) _ all part
      where
        all : length_of (x ∷ xs) ≤ length (x ∷ xs) → Packed (x ∷ xs) (piece ∷ messages_within k (rest_of (x ∷ xs)))
        all h =
            let e : piece ≡ take (length_of (x ∷ xs)) (x ∷ xs) = ap (λ (n : ℕ). take n (x ∷ xs)) (used_whole (x ∷ xs) h) in
            let l : length piece ≡ length_of piece = ap length e ∙ first_length (x ∷ xs) h ∙ ap length_of (sym e) in
            subst (λ (w : List ℕ). Packed w (piece ∷ messages_within k (rest_of (x ∷ xs)))) (take-append-drop (used_of (x ∷ xs)) (x ∷ xs)) (whole piece l p)

        part : length (x ∷ xs) < length_of (x ∷ xs) → Packed (x ∷ xs) (piece ∷ messages_within k (rest_of (x ∷ xs)))
        part h =
            let e : piece ≡ x ∷ xs = take_all (used_of (x ∷ xs)) (x ∷ xs) (omega (arith, used_early (x ∷ xs) h)) in
            let r : rest_of (x ∷ xs) ≡ [] = drop_of_length-le (x ∷ xs) {i = used_of (x ∷ xs)} (omega (arith, used_early (x ∷ xs) h)) in
            let n : messages_within k (rest_of (x ∷ xs)) ≡ [] = ap (messages_within k) r ∙ nothing k in
            rw (e, n) (cut (x ∷ xs) (omega arith) h)
          where
            nothing : (k : ℕ) → messages_within k [] ≡ []
            nothing zero = refl
            nothing (suc k) = refl

-- a packet is made of its byte strings, and of no other list of them
pub packed : (s : List ℕ) → Packed s (messages_of s)
unfolding messages_of
packed s = packed_within (length s) s (omega arith)

-- a message that others follow has the length that it has alone
behind : (m rest : List ℕ) → length m ≡ length_of m → length_of (m ++ rest) ≡ length_of m
behind m rest e = same_length m (m ++ rest) (λ i l. get_or-append m rest 0 i (omega (arith, e, l)))

used_behind : (m rest : List ℕ) → length m ≡ length_of m → used_of (m ++ rest) ≡ length m
used_behind m rest e = used_whole (m ++ rest) (omega (arith, behind m rest e, e, length-append m rest)) ∙ behind m rest e ∙ sym e

pub only_packed : {s : List ℕ} {ms : List (List ℕ)} → Packed s ms → ms ≡ messages_of s
only_packed no_more = sym messages_none
only_packed (whole m {rest = rest} {ms = ms} e p) =
    let u = used_behind m rest e in
    let t : take (used_of (m ++ rest)) (m ++ rest) ≡ m = ap (λ (n : ℕ). take n (m ++ rest)) u ∙ take-append_seam m rest in
    let d : rest_of (m ++ rest) ≡ rest = ap (λ (n : ℕ). drop n (m ++ rest)) u ∙ drop-append_seam m rest in
    sym (messages_some (m ++ rest) (omega (arith, length-append m rest, e, length_some m))
    ∙ ap₂ (λ (a : List ℕ) (b : List (List ℕ)). a ∷ b) t (ap messages_of d ∙ sym (only_packed p)))
only_packed (cut m l h) =
    let t : take (used_of m) m ≡ m = take_all (used_of m) m (omega (arith, used_early m h)) in
    let d : rest_of m ≡ [] = drop_of_length-le m {i = used_of m} (omega (arith, used_early m h)) in
    sym (messages_some m l ∙ ap₂ (λ (a : List ℕ) (b : List (List ℕ)). a ∷ b) t (ap messages_of d ∙ messages_none))
