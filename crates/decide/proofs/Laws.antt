-- Each way to build a test decides the claim that is built the same way.
use Rattle.std.specs.Prelude.{◌≡◌, refl, Bool, true, false, not, ◌&&◌, ◌||◌, ℕ, ◌+◌, ◌≤◌, ◌<◌, ltb, leb, eqb}
use Rattle.std.proofs.Common.{sym, ap, ◌∙◌, true≢false, below_more, ltb-true, lt-ltb, leb-true, le-leb, eqb-true, eq-eqb}
use Rattle.std.specs.Bool.{beq}
use Rattle.std.proofs.lemmas.Bool.{false≢true}
use Rattle.mtl.specs.Algebra.{two, any, all}
use Rattle.mtl.proofs.Folds.{any_some, any_true, below_each, each_below}
use Rattle.decide.specs.Decide.{Decides, Somewhere}

-- a test whose claim fails is false, and the claim of a false test fails
pub is_false : {b : Bool} {P : Type 0} → Decides b P → (P → ⊥) → b ≡ false
is_false {b = true} d h = absurd (h (d.sound refl))
is_false {b = false} d h = refl

pub fails : {b : Bool} {P : Type 0} → Decides b P → b ≡ false → P → ⊥
fails d e p = false≢true (sym e ∙ d.whole p)

-- two tests of one claim agree
pub agree : {a b : Bool} {P : Type 0} → Decides a P → Decides b P → a ≡ b
agree {a = true} d f = sym (f.whole (d.sound refl))
agree {a = false} d f = sym (is_false f (fails d refl))

pub same : {b : Bool} {P Q : Type 0} → (P → Q) → (Q → P) → Decides b P → Decides b Q
same f g d = record { sound = λ e. f (d.sound e); whole = λ q. d.whole (g q) }

pub itself : (b : Bool) → Decides b (b ≡ true)
itself b = record { sound = λ e. e; whole = λ e. e }

pub less : (i j : ℕ) → Decides (ltb i j) (i < j)
less i j = record { sound = ltb-true i j; whole = lt-ltb i j }

pub most : (i j : ℕ) → Decides (leb i j) (i ≤ j)
most i j = record { sound = leb-true i j; whole = le-leb i j }

pub equal : (i j : ℕ) → Decides (eqb i j) (i ≡ j)
equal i j = record { sound = eqb-true i j; whole = eq-eqb i j }

pub alike : (a b : Bool) → Decides (beq a b) (a ≡ b)
alike true true = record { sound = λ e. refl; whole = λ e. refl }
alike false false = record { sound = λ e. refl; whole = λ e. refl }
alike true false = record { sound = λ e. absurd (false≢true e); whole = λ e. absurd (true≢false e) }
alike false true = record { sound = λ e. absurd (false≢true e); whole = λ e. absurd (false≢true e) }

pub both : {a b : Bool} {P Q : Type 0} → Decides a P → Decides b Q → Decides (a && b) (P × Q)
both {a = true} d f = record { sound = λ e. (d.sound refl, f.sound e); whole = λ h. f.whole h.1 }
both {a = false} d f = record { sound = λ e. absurd (false≢true e); whole = λ h. d.whole h.0 }

pub none : {a : Bool} {P : Type 0} → Decides a P → Decides (not a) (P → ⊥)
none {a = true} d = record { sound = λ e. absurd (false≢true e); whole = λ h. absurd (h (d.sound refl)) }
none {a = false} d = record { sound = λ e. fails d refl; whole = λ h. refl }

pub implies : {a b : Bool} {P Q : Type 0} → Decides a P → Decides b Q → Decides (not a || b) (P → Q)
implies {a = true} d f = record { sound = λ e p. f.sound e; whole = λ h. f.whole (h (d.sound refl)) }
implies {a = false} d f = record { sound = λ e p. absurd (fails d refl p); whole = λ h. refl }

-- every number below n, and some number from lo on
pub each : (n : ℕ) (f : ℕ → Bool) (P : ℕ → Type 0) → ((i : ℕ) → Decides (f i) (P i)) → Decides (all two 0 n f) ((i : ℕ) → i < n → P i)
each n f P d = record { sound = λ e i l. (d i).sound (below_each n f e i l); whole = λ h. each_below n f (λ i l. (d i).whole (h i l)) }

pub some : (lo n : ℕ) (f : ℕ → Bool) (P : ℕ → Type 0) → ((i : ℕ) → Decides (f i) (P i)) → Decides (any two lo n f) (Somewhere lo (lo + n) P)
some lo n f P d =
    record {
      sound = λ e. let r = any_true lo n f e in record { at = r.0; from = r.1; under = r.2; there = (d r.0).sound r.3 };
      whole = λ h. any_some lo n f h.at h.from h.under ((d h.at).whole h.there);
    }

-- for a loop that tests one after another
pub each_fails : (n : ℕ) (f : ℕ → Bool) (i : ℕ) → i < n → f i ≡ false → all two 0 n f ≡ false
each_fails n f i l e = is_false (each n f (λ j. f j ≡ true) (λ j. itself (f j))) (λ h. false≢true (sym e ∙ h i l))

pub each_more : (n : ℕ) (f : ℕ → Bool) → all two 0 n f ≡ true → f n ≡ true → all two 0 (n + 1) f ≡ true
each_more n f p q = each_below (n + 1) f (below_more _ n (below_each n f p) q)

-- tests that agree at each number agree
pub each_same : (n : ℕ) (f g : ℕ → Bool) → ((i : ℕ) → i < n → f i ≡ g i) → all two 0 n f ≡ all two 0 n g
each_same n f g h =
    agree
    (same (λ (p : (i : ℕ) → i < n → f i ≡ true) i l. sym (h i l) ∙ p i l) (λ q i l. h i l ∙ q i l) (each n f (λ j. f j ≡ true) (λ j. itself (f j))))
    (each n g (λ j. g j ≡ true) (λ j. itself (g j)))

-- for a function that asks w first, and where that answers b then the rest
pub first : (r b w rest : Bool) → r ≡ w → r ≡ b → (b && rest) ≡ (w && rest)
first r b w rest e g = ap (λ (x : Bool). x && rest) (sym g ∙ e)
