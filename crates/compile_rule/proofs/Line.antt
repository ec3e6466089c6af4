-- Laws of the definitions in specs/Line. Assumes nothing.
use Rattle.std.specs.Prelude.{ℕ, ◌+◌, ◌-◌, ◌≤◌, ◌<◌, ◌≡◌, true, false, List, [], ◌∷◌, nat_eq, length, take, drop, get_or}
use Rattle.std.proofs.Math.Decide.{dec_le}
use Rattle.std.proofs.Common.{suc, arith, ap, sym, ◌∙◌}
use Rattle.std.proofs.Math.ListN.{drop_of_length-le}
use Rattle.std.proofs.Math.Seq.{drop-cons}
use Rattle.std.specs.Cmp.Lexicographic.{same_text, other_text}
use Rattle.std.proofs.lemmas.List.{take-take, get_or-drop, get_or-take}
use lib.Pointwise.{pointwise}
use Rattle.std.specs.Option.{MatchOption, unwrap_or}
use Rattle.std.proofs.Common.{Bor, Option, None, Some, take_all}
use Rattle.compile_rule.proofs.Choices.{past}
use Rattle.compile_rule.specs.Line.{Line, both, newline, whole}

-- the front that is the text, by the last two bytes
module _ (typed : List ℕ) where
  abbrev at : ℕ → ℕ
  at k = get_or typed k 0

  pub empty : length typed < 1 → Line typed (length typed)
  empty h = whole λ e. omega (arith, e, past typed (length typed - 1) (omega arith))

  pub alone : 1 ≤ length typed → length typed < 2 → at (length typed - 1) ≡ 10 → Line typed (length typed - 1)
  alone p h e = newline (length typed - 1) (omega arith) e λ f. omega (arith, f, e, ap at (same (length typed) p h))
    where
      same : (n : ℕ) → 1 ≤ n → n < 2 → n - 1 - 1 ≡ n - 1
      same n p h = omega arith

  pub ended : 2 ≤ length typed → at (length typed - 1) ≡ 10 → (at (length typed - 2) ≡ 13 → ⊥) → Line typed (length typed - 1)
  ended h e d = newline (length typed - 1) (omega arith) e λ f. d (omega (arith, f, ap at (same (length typed) h)))
    where
      same : (n : ℕ) → 2 ≤ n → n - 1 - 1 ≡ n - 2
      same n h = omega arith

  pub returned : 2 ≤ length typed → at (length typed - 1) ≡ 10 → at (length typed - 2) ≡ 13 → Line typed (length typed - 2)
  returned h e d = both (length typed - 2) (omega arith) d (omega (arith, e, ap at (same (length typed) h)))
    where
      same : (n : ℕ) → 2 ≤ n → n - 2 + 1 ≡ n - 1
      same n h = omega arith

-- the text ends in a byte, as `strip_suffix` tests it
abbrev pub ends : List ℕ → ℕ → Type 0
ends xs v = pointwise nat_eq (drop (length xs - 1) xs) (v ∷ []) ≡ true

abbrev pub other : List ℕ → ℕ → Type 0
other xs v = pointwise nat_eq (drop (length xs - 1) xs) (v ∷ []) ≡ false

last : (xs : List ℕ) (v : ℕ) → ends xs v → get_or xs (length xs - 1) 0 ≡ v
last xs v e = ap (λ k. get_or xs k 0) (omega arith) ∙ sym (get_or-drop (length xs - 1) xs 0 0) ∙ ap (λ ys. get_or ys 0 0) (same_text (drop (length xs - 1) xs) (v ∷ []) (sym e))

only : (xs : List ℕ) → 1 ≤ length xs → drop (length xs - 1) xs ≡ get_or xs (length xs - 1) 0 ∷ []
only xs h =
    let end : length xs ≤ suc (length xs - 1) = omega arith in
    drop-cons xs (length xs - 1) 0 (omega arith) ∙ ap (λ (ys : List ℕ). get_or xs (length xs - 1) 0 ∷ ys) (drop_of_length-le xs end)

not_last : (xs : List ℕ) (v : ℕ) → other xs v → 1 ≤ length xs → get_or xs (length xs - 1) 0 ≡ v → ⊥
not_last xs v e h f = other_text (drop (length xs - 1) xs) (v ∷ []) (sym e) (only xs h ∙ ap (λ (x : ℕ). x ∷ []) f)

-- no newline
pub none : (xs : List ℕ) → other xs 10 → Line xs (length xs)
none xs e = whole (λ f. go (dec_le 1 (length xs)) f)
  where
    go : Dec (1 ≤ length xs) → get_or xs (length xs - 1) 0 ≡ 10 → ⊥
    go (yes h) f = not_last xs 10 e h f
    go (no h) f = omega (arith, f, past xs (length xs - 1) (omega arith))

-- what is left of a text without its last byte
pub record Shorter (xs ys : List ℕ) : Type 0 where
  pub is : ys ≡ take (length xs - 1) xs
  pub less : length ys + 1 ≡ length xs

read : {xs ys : List ℕ} → Shorter xs ys → (i : ℕ) → i < length ys → get_or ys i 0 ≡ get_or xs i 0
read {xs} s i h = ap (λ (zs : List ℕ). get_or zs i 0) s.is ∙ get_or-take (length xs - 1) xs i 0 (omega (arith, s.less))

-- "\n"
pub newline_alone : (xs ys : List ℕ) → ends xs 10 → Shorter xs ys → other ys 13 → Line xs (length ys)
newline_alone xs ys e s d = newline (length ys) s.less (ap (λ (k : ℕ). get_or xs k 0) (omega (arith, s.less)) ∙ last xs 10 e) (λ f. go (dec_le 1 (length ys)) f)
  where
    go : Dec (1 ≤ length ys) → get_or xs (length ys - 1) 0 ≡ 13 → ⊥
    go (yes h) f = not_last ys 13 d h (read s (length ys - 1) (omega arith) ∙ f)
    go (no h) f = omega (arith, f, ap (λ (k : ℕ). get_or xs k 0) (same (length ys) (length xs) s.less h), last xs 10 e)
      where
        same : (m n : ℕ) → m + 1 ≡ n → (1 ≤ m → ⊥) → m - 1 ≡ n - 1
        same m n e h = omega arith

-- "\r\n"
pub newline_returned : (xs ys zs : List ℕ) → ends xs 10 → Shorter xs ys → ends ys 13 → Shorter ys zs → Line xs (length zs)
newline_returned xs ys zs e s d t = both (length zs) (omega (arith, s.less, t.less))
    (ap (λ (k : ℕ). get_or xs k 0) (omega (arith, t.less)) ∙ sym (read s (length ys - 1) (omega (arith, t.less))) ∙ last ys 13 d)
    (ap (λ (k : ℕ). get_or xs k 0) (omega (arith, s.less, t.less)) ∙ last xs 10 e)

-- the front of a text, without its line end
abbrev pub Front : List ℕ → List ℕ → Type 0
Front xs ys = (ys ≡ take (length ys) xs) × (length ys ≤ length xs) × Line xs (length ys)

front : {xs ys : List ℕ} → Shorter xs ys → ys ≡ take (length ys) xs
front {xs} s = s.is ∙ ap (λ (k : ℕ). take k xs) (omega (arith, s.less))

front_twice : {xs ys zs : List ℕ} → Shorter xs ys → Shorter ys zs → zs ≡ take (length zs) xs
front_twice {xs} {ys} {zs} s t = front t ∙ ap (λ (us : List ℕ). take (length zs) us) s.is ∙ take-take (length zs) (length xs - 1) xs (omega (arith, s.less, t.less))

-- what `strip_suffix` leaves of a text that ends in "\n"
pub stripped : (xs : List ℕ) (line : Bor (List ℕ)) (o : Option (Bor (List ℕ))) → ends xs 10 → Shorter xs line.now
    → MatchOption o (other line.now 13) (λ x. ends line.now 13 × (x.now ≡ take (length line.now - 1) line.now) × (length x.now + 1 ≡ length line.now))
    → Front xs (unwrap_or o line).now
stripped xs line None e s d = (front s, omega (arith, s.less), newline_alone xs line.now e s d)
stripped xs line (Some x) e s d =
    let t : Shorter line.now x.now = record { is = d.1; less = d.2 } in
    (front_twice s t, omega (arith, s.less, t.less), newline_returned xs line.now x.now e s d.0 t)

pub kept : (xs : List ℕ) → other xs 10 → Front xs xs
kept xs e = (sym (take_all (length xs) xs (omega arith)), omega arith, none xs e)
