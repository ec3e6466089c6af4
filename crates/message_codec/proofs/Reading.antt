-- A field takes all its bytes or none, so each place is found from the map and lies inside a message that is whole. Assumes nothing.
use Rattle.std.specs.Prelude.{◌++◌, is_some, None, Ok, Option, Result, Some}
use Rattle.std.specs.Option.{unwrap_or}
use Rattle.refusal.specs.declared.Refusal.{Refusal}
use mathlib.Core.Path.{◌≡◌, refl, sym, ap, ap₂, subst, ◌∙◌}
use mathlib.Core.Bool.{Bool, true, false, cond, true≢false}
use mathlib.Core.List.{List, [], ◌∷◌}
use Prim.Native.Nat.{ℕ, ◌+◌, ◌-◌, ◌*◌, ◌≤◌, ◌<◌, zero, suc, min}
use native.Mathlib.Omega.{arith}
use native.Mathlib.Nat.{add-zero, add_comm}
use Rattle.std.proofs.Common.{length-drop, get_or-drop}
use Rattle.std.proofs.Math.Decide.{dec_lt}
use Rattle.std.proofs.Math.ListN.{get_or-append}
use Rattle.std.proofs.lemmas.List.{get_or-take, get_or-append_right, length-take-le}
use lib.Dec.{ltb, leb}
use lib.ListN.{length, take, drop, get_or}
use borrow.Author.Rules.{part_to_end}
use borrow.Author.Tests.{lt-ltb, le-ltb, le-leb, lt-leb, leb-true, leb-false}
use Rattle.encoding.specs.Fields.{has, size, long_of, field8}
use Rattle.encoding.specs.Layout.{value_at}
use Rattle.encoding.proofs.Laws.{size_most}
use Rattle.message.specs.declared.Fields.{Fields}
use Rattle.message.specs.declared.Event.{Event}
use Rattle.message.specs.declared.Message.{Message}
use Rattle.message.specs.Format.{map_of, minute_at, number_at, named_at, values_at, value_bytes, packed_at, named_of, length_of, measured, event_in, message_in, used_of, rest_of}

-- what the code finds of a field's size, by its bit of the map
pub sized : {r n : ℕ} {found bit : Bool} → r ≡ size found n → found ≡ bit → (r ≡ size bit n) × (r ≤ n)
sized {r} {n} {found} {bit} e h =
    let f : r ≡ size bit n = e ∙ ap (λ (b : Bool). size b n) h in
    (f, omega (arith, f, size_most bit n))

-- of four bytes, the first m copied from a place and the others 0, each is a value byte or 0
pub copied : (s : List ℕ) (n at m : ℕ) (new : List ℕ) → m ≡ min n 4 → at + n ≤ length s → new ≡ take (at + m - at) (drop at s)
    → (k : ℕ) → k < 4 → get_or (new ++ drop m (0 ∷ 0 ∷ 0 ∷ 0 ∷ [])) k 0 ≡ field8 s (ltb k n) (at + k)
copied s n at m new e h f k l = go (dec_lt k m)
  where
    g : new ≡ take m (drop at s)
    g = f ∙ ap (λ (j : ℕ). take j (drop at s)) (omega arith)

    long : length new ≡ m
    long = ap length g ∙ length-take-le m (drop at s) (omega (arith, length-drop at s))

    go : Dec (k < m) → get_or (new ++ drop m (0 ∷ 0 ∷ 0 ∷ 0 ∷ [])) k 0 ≡ field8 s (ltb k n) (at + k)
    go (yes i) =
        get_or-append new _ 0 k (omega (arith, long)) ∙ ap (λ (xs : List ℕ). get_or xs k 0) g ∙ get_or-take m (drop at s) k 0 i
        ∙ get_or-drop at s k 0 ∙ sym (ap (λ (b : Bool). cond b (get_or s (at + k) 0) 0) (lt-ltb k n (omega arith)))
    go (no i) =
        get_or-append_right new _ m k 0 long (omega arith) ∙ get_or-drop m (0 ∷ 0 ∷ 0 ∷ 0 ∷ []) (k - m) 0
        ∙ ap (λ (j : ℕ). get_or {A = ℕ} (0 ∷ 0 ∷ 0 ∷ 0 ∷ []) j 0) (omega arith) ∙ zeros k l
        ∙ sym (ap (λ (b : Bool). cond b (get_or s (at + k) 0) 0) (le-ltb k n (omega arith)))
      where
        zeros : (j : ℕ) → j < 4 → get_or {A = ℕ} (0 ∷ 0 ∷ 0 ∷ 0 ∷ []) j 0 ≡ 0
        zeros zero q = refl
        zeros (suc zero) q = refl
        zeros (suc (suc zero)) q = refl
        zeros (suc (suc (suc zero))) q = refl
        zeros (suc (suc (suc (suc j)))) q = refl

-- the four bytes as one number
pub packed : (s : List ℕ) (n at : ℕ) {r a b c d : ℕ} → r ≡ a + b * 256 + c * 65536 + d * 16777216
    → a ≡ field8 s (ltb 0 n) (at + 0)
    → b ≡ field8 s (ltb 1 n) (at + 1)
    → c ≡ field8 s (ltb 2 n) (at + 2)
    → d ≡ field8 s (ltb 3 n) (at + 3)
    → r ≡ packed_at s n at
packed s n at {r} {a} {b} {c} {d} e p q u v =
    let f : r ≡ long_of a b c d = omega (arith, e) in
    rw (f, p, q, u, v, add-zero at)

-- where each field lies
pub record Inside (s : List ℕ) : Type 0 where
  pub map_in : 0 < length s
  pub component_in : 1 + size (has (map_of s) 0) 1 ≤ length s
  pub minute_in : minute_at (map_of s) + size (has (map_of s) 1) 2 ≤ length s
  pub number_in : number_at (map_of s) + size (has (map_of s) 2) 2 ≤ length s
  pub named_in : named_at (map_of s) + size (has (map_of s) 3) 4 ≤ length s
  pub values_in : values_at (map_of s) + value_bytes (named_of s) ≤ length s

pub inside : (s : List ℕ) → length_of s ≤ length s → Inside s
unfolding length_of
inside s h =
    record { map_in = omega arith; component_in = omega arith; minute_in = omega arith; number_in = omega arith; named_in = omega arith; values_in = h }

-- the mark map, found at its place, and the length that it gives
pub named_found : (s : List ℕ) {r at : ℕ} {b : Bool} → r ≡ cond b (value_at s at 4) 0 → b ≡ has (map_of s) 3 → at ≡ named_at (map_of s)
    → r ≡ named_of s
unfolding named_of
named_found s e p q = e ∙ ap₂ (λ (b : Bool) (at : ℕ). cond b (value_at s at 4) 0) p q

pub length_found : (s : List ℕ) {values n named : ℕ} → values ≡ values_at (map_of s) → n ≡ value_bytes named → named ≡ named_of s
    → values + n ≡ length_of s
unfolding length_of
length_found s p q e = ap₂ (λ (x y : ℕ). x + y) p (q ∙ ap (λ (x : ℕ). value_bytes x) e)

pub length_more : (s : List ℕ) → (0 < length_of s) × (values_at (map_of s) ≤ length_of s)
unfolding length_of
length_more s = (omega arith, omega arith)

pub ends_early : (s : List ℕ) → length s < length_of s → None ≡ measured s
unfolding measured
ends_early s h = simp (lt-leb _ _ h)

pub is_whole : (s : List ℕ) → length_of s ≤ length s → Some (length_of s) ≡ measured s
unfolding measured
is_whole s h = simp (le-leb _ _ h)

-- what the answer tells
pub told_none : (s : List ℕ) {found : Option ℕ} → found ≡ measured s → is_some found ≡ false → length s < length_of s
unfolding measured
told_none s {found} e q = go (leb (length_of s) (length s)) refl
  where
    go : (b : Bool) → leb (length_of s) (length s) ≡ b → length s < length_of s
    go true f = absurd (true≢false (ap (λ (o : Option ℕ). is_some o) (sym (e ∙ ap (λ (b : Bool). cond b (Some (length_of s)) None) f)) ∙ q))
    go false f = leb-false _ _ f

pub told_some : (s : List ℕ) {found : Option ℕ} → found ≡ measured s → is_some found ≡ true → length_of s ≤ length s
unfolding measured
told_some s {found} e q = go (leb (length_of s) (length s)) refl
  where
    go : (b : Bool) → leb (length_of s) (length s) ≡ b → length_of s ≤ length s
    go true f = leb-true _ _ f
    go false f = absurd (true≢false (sym q ∙ ap (λ (o : Option ℕ). is_some o) (e ∙ ap (λ (b : Bool). cond b (Some (length_of s)) None) f)))

-- what it tells of the bytes that the message takes
pub told_used : (s : List ℕ) {found : Option ℕ} {n : ℕ} → found ≡ measured s → n ≡ unwrap_or found (length s) → n ≡ used_of s
unfolding measured used_of
told_used s e q = q ∙ ap (λ (o : Option ℕ). unwrap_or o (length s)) e ∙ go (leb (length_of s) (length s))
  where
    go : (b : Bool) → unwrap_or (cond b (Some (length_of s)) None) (length s) ≡ cond b (length_of s) (length s)
    go true = refl
    go false = refl

-- the answer that the code puts together
pub accepted : {f g : Fields} {e : Event} → e ≡ event_in f → f ≡ g
    → ◌≡◌ {A = Result Message Refusal} (Ok (record { component = f.component; event = e })) (Ok (message_in g))
accepted p q = rw (p, q)

-- the part of a slice from n on, as `&s[n..]` has it: the bytes and their place
pub part_from : (s : List ℕ) (b o : ℕ) {n : ℕ} → n ≡ used_of s → (take (length s - n) (drop n s) ≡ rest_of s) × ◌≡◌ {A = ℕ × ℕ} (b, n + o) (b, o + used_of s)
part_from s b o {n} e =
    subst (λ (m : ℕ). (take (length s - n) (drop n s) ≡ drop m s) × ◌≡◌ {A = ℕ × ℕ} (b, n + o) (b, o + m)) e
    (part_to_end s n, ap {B = ℕ × ℕ} (λ (k : ℕ). (b, k)) (add_comm n o))
