-- A test of each chunk of a list is a test of each place. Assumes nothing.
use Rattle.std.proofs.Common.{◌≡◌, refl, ℕ, ◌+◌, ◌*◌, ◌<◌, Bool, true, false, List, [], ◌∷◌, length, take, drop, ◌++◌, Option, Some, None, sym, ap, ap₂, subst, length-append, length-drop, ◌∙◌, ◌/◌, ◌≤◌, ⊎_elim, arith}
use Rattle.std.proofs.lemmas.List.{drop-drop}
use Rattle.std.proofs.Math.Seq.{take-append_seam, drop-append_seam}
use Rattle.std.specs.Bool.{MatchBool, IsTrue}
use Rattle.std.specs.Option.{IfSome, IsSomeAnd, option_map}
use Rattle.std.proofs.Math.Nat.{mul-div_cancel, mul-le-mul_right}
use Rattle.std.specs.List.{IsSubsliceAt}
use Rattle.std.specs.Fn.{Called}
use Rattle.std.specs.Iterator.Runs.{Run, AllItemsGive, AnyItemGives, CallKeepsClosure, IsChunksExactRun}
use denote.Param.Members.{Mut}
use denote.Ref.{Bor}
use Rattle.rows.proofs.Laws.{lt_or_le}
use Rattle.mtl.specs.Algebra.{two, all}
use Rattle.decide.proofs.Laws.{each, each_fails, itself}

-- what is shown of the item at a place, where there is one
item_at : {A : Type 0} {o : Option A} {y : A} → option_map (λ z. z) o ≡ Some y → (x : A) × (o ≡ Some x)
item_at {o = None} e = absurd cc
item_at {o = Some x} e = (x, refl)

item : {S A : Type 0} {steps : S → Option A → S → Type 0} (p : Run steps) (k : ℕ) → k < p.len → (x : A) × (p.at k ≡ Some x)
item {S} {A} p k h = go p.items p.long
  where
    go : (xs : List A) → p.len ≡ length xs → (x : A) × (p.at k ≡ Some x)
    go [] e = absurd (omega arith)
    go (d ∷ xs) e = item_at (p.reads k d h)

if_some : {A : Type 0} (P : A → Type 0) (o : Option A) → IsSomeAnd o P → IfSome o P
if_some P None h = absurd h
if_some P (Some x) h = h

-- a chunk that fits is one of n
fits : (k n w : ℕ) → 0 < w → k * w + w ≤ n * w → k < n
fits k n w some h = ⊎_elim (λ (e : k < n). e) (λ (e : n ≤ k). let u : n * w ≤ k * w = mul-le-mul_right w e in absurd (omega arith)) (lt_or_le k n)

-- what an iterator of chunks has left, it gives the next of, and has the others left
pub next_chunk : (l : List ℕ) (w n k : ℕ) (left item after : List ℕ) → 0 < w → length l ≡ n * w → left ≡ drop (k * w) l → left ≡ item ++ after → length item ≡ w
    → (k < n) × (item ≡ take w (drop (k * w) l)) × (after ≡ drop ((k + 1) * w) l)
next_chunk l w n k left item after some long at cut whole = (
  fits k n w some (omega (arith, ap length at, ap length cut, length-append item after, length-drop (k * w) l)),
  sym (take-append_seam item after) ∙ ap₂ (λ (i : ℕ) (xs : List ℕ). take i xs) whole (sym cut ∙ at),
  sym (drop-append_seam item after) ∙ ap₂ (λ (i : ℕ) (xs : List ℕ). drop i xs) whole (sym cut ∙ at) ∙ drop-drop w (k * w) l ∙ ap (λ (j : ℕ). drop j l) one_more,
)
  where
    one_more : k * w + w ≡ (k + 1) * w
    one_more = omega arith

-- f tests each chunk of w cells of a list, and answers `test k` for chunk k of n
module _ {S F : Type 0} {steps : S → Option (Bor (List ℕ)) → S → Type 0} (g : Mut F (Bor (List ℕ) × Unit {0}) Bool) (f : F) (p : Run steps) (l : List ℕ) (w n : ℕ)
    (some : 0 < w) (long : length l ≡ n * w) (chunks : IsChunksExactRun p w l) (keeps : CallKeepsClosure g f) (test : ℕ → Bool)
    (tests : (k : ℕ) (x : Bor (List ℕ)) (b : Bool) → k < n → x.now ≡ take w (drop (k * w) l) → Called g f (x, tt) b f → b ≡ test k) where
  told : (b : Bool) (k : ℕ) → k < p.len → IfSome (p.at k) (λ x. Called g f (x, tt) b f) → (k < n) × (b ≡ test k)
  told b k h called =
      let (x, e) = item p k h in
      let cut = subst (λ (o : Option (Bor (List ℕ))). IfSome o (λ y. (length y.now ≡ w) × (k * w + w ≤ length l) × IsSubsliceAt w l (k * w) y.now)) e (chunks.2 k) in
      let c = fits k n w some (omega (arith, long, cut.1)) in
      (c, tests k x b c cut.2.0 (subst (λ (o : Option (Bor (List ℕ))). IfSome o (λ y. Called g f (y, tt) b f)) e called))

  all_of_them : p.whole ≡ true → (c : ℕ) → c < n → c < p.len
  all_of_them h c l = omega (arith, chunks.1 h, ap (λ (k : ℕ). k / w) long, mul-div_cancel n some)

  pub verdict : (r : Bool) → MatchBool r (IsTrue p.whole × AllItemsGive p g f true) (AnyItemGives p g f false) → r ≡ all two 0 n test
  verdict true a = sym ((each n test (λ c. test c ≡ true) (λ c. itself (test c))).whole (λ c h. sym (told true c (all_of_them a.0 c h) (a.1 keeps c)).1))
  verdict false a =
      let i = a keeps in
      let t = told false i.0 i.1 (if_some (λ (x : Bor (List ℕ)). Called g f (x, tt) false f) (p.at i.0) i.2) in
      sym (each_fails n test i.0 t.0 (sym t.1))
