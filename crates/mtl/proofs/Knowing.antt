-- Laws of the definitions in specs/Knowing. Assumes nothing.
use Rattle.std.specs.Prelude.{ℕ, ◌≡◌, refl, Bool, true, false, not, ◌||◌}
use Rattle.std.proofs.Common.{sym, true≢false}
use Rattle.kleene.specs.Truth.{Truth, unknown, true3, false3, not3, or3, ◌⊑◌, less, same}
use Rattle.mtl.specs.declared.Formula.{Formula}
use Rattle.mtl.specs.Algebra.{three, two}
use Rattle.mtl.specs.Reading.{World, seen, reading}
use Rattle.mtl.specs.Related.{Kept}
use Rattle.mtl.proofs.Related.{reading_kept}
use Rattle.mtl.specs.Knowing.{Knows, Settles, TrueTo, is_false, is_true, open3}

-- ---- more knowledge keeps decided values

not_mono : {x y : Truth} → x ⊑ y → not3 x ⊑ not3 y
not_mono less = less
not_mono same = same

or_mono : {x y x' y' : Truth} → x ⊑ y → x' ⊑ y' → or3 x x' ⊑ or3 y y'
or_mono same same = same
or_mono (same {x = true3}) (less {y = unknown}) = same
or_mono (same {x = true3}) (less {y = true3}) = same
or_mono (same {x = true3}) (less {y = false3}) = same
or_mono (same {x = false3}) less = less
or_mono (same {x = unknown}) less = less
or_mono less less = less
or_mono less (same {x = unknown}) = less
or_mono less (same {x = false3}) = less
or_mono (less {y = unknown}) (same {x = true3}) = same
or_mono (less {y = true3}) (same {x = true3}) = same
or_mono (less {y = false3}) (same {x = true3}) = same

mono : Kept ◌⊑◌ three three
mono = record { top = same; bottom = same; neg = not_mono; join = or_mono }

shown_mono : (v w : World Truth) → Knows v w → (t : ℕ) {x y : Truth} → (v.window t ≡ true → x ⊑ y) → seen v t x ⊑ seen w t y
shown_mono v w n t {x} {y} h = go (v.window t) (w.window t) h (n.window t)
  where
    go : (p q : Bool) → (p ≡ true → x ⊑ y) → (p ≡ true → q ≡ true) → elim p as (λ _. Truth) [ true ↦ x | false ↦ v.outside ] ⊑ elim q as (λ _. Truth) [ true ↦ y | false ↦ w.outside ]
    go false q h c = rw n.dark less
    go true false h c = absurd (true≢false (sym (c refl)))
    go true true h c = h refl

pub knows_more : (v w : World Truth) → Knows v w → (line : ℕ → Formula) (k t : ℕ) → reading three v line k t ⊑ reading three w line k t
knows_more v w n =
    reading_kept ◌⊑◌ three three mono v w
    (record { time_point = λ t. shown_mono v w n t (n.time_point t); proposition = λ p t. shown_mono v w n t (n.proposition p t); shown = λ t h. shown_mono v w n t (λ e. h) })

not_decides : {x : Truth} {b : Bool} → Settles x b → Settles (not3 x) (not b)
not_decides open3 = open3
not_decides is_true = is_false
not_decides is_false = is_true

or_decides : {x : Truth} {b : Bool} {x' : Truth} {b' : Bool} → Settles x b → Settles x' b' → Settles (or3 x x') (b || b')
or_decides is_true open3 = is_true
or_decides is_true is_true = is_true
or_decides is_true is_false = is_true
or_decides is_false open3 = open3
or_decides is_false is_true = is_true
or_decides is_false is_false = is_false
or_decides open3 open3 = open3
or_decides open3 is_false = open3
or_decides (open3 {b = true}) is_true = is_true
or_decides (open3 {b = false}) is_true = is_true

decide : Kept Settles three two
decide = record { top = is_true; bottom = is_false; neg = not_decides; join = or_decides }

shown_decides : (v : World Truth) (w : World Bool) → TrueTo v w → (t : ℕ) {x : Truth} {y : Bool} → (v.window t ≡ true → Settles x y) → Settles (seen v t x) (seen w t y)
shown_decides v w n t {x} {y} h = rw (n.window t, seen) (go (v.window t) h)
  where
    go : (p : Bool) → (p ≡ true → Settles x y) → Settles (elim p as (λ _. Truth) [ true ↦ x | false ↦ v.outside ]) y
    go false h = rw n.dark open3
    go true h = h refl

pub reading_decides : (v : World Truth) (w : World Bool) → TrueTo v w → (line : ℕ → Formula) (k t : ℕ) → Settles (reading three v line k t) (reading two w line k t)
reading_decides v w n =
    reading_kept Settles three two decide v w
    (record { time_point = λ t. shown_decides v w n t (n.time_point t); proposition = λ p t. shown_decides v w n t (n.proposition p t); shown = λ t h. shown_decides v w n t (λ e. h) })

pub decided_true : (b : Bool) → Settles true3 b → b ≡ true
decided_true b is_true = refl

pub decided_false : (b : Bool) → Settles false3 b → b ≡ false
decided_false b is_false = refl
