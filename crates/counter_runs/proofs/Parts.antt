-- Where the components' runs lie, and that a run read from its own part tells the same.
-- Assumes nothing.
use mathlib.Core.Path.{◌≡◌, refl, sym, ap, ap₂, ◌∙◌}
use mathlib.Core.Bool.{Bool, true, false, cond, ◌&&◌}
use mathlib.Core.List.{List, [], ◌∷◌}
use Prim.Native.Nat.{ℕ, zero, suc, ◌+◌, ◌-◌, ◌*◌, ◌≤◌, ◌<◌}
use native.Mathlib.Nat.{suc-mul, mul-le-mul_right}
use native.Mathlib.Omega.{arith}
use lib.Dec.{eqb}
use lib.ListN.{length, get_or, take, drop, length-take, length-drop}
use lib.Seq.{get_or-take, get_or-drop}
use Rattle.mtl.specs.Algebra.{two, all}
use Rattle.decide.proofs.Laws.{agree, same}
use Rattle.policy.specs.declared.Sizes.{Sizes}
use Rattle.knowledge.specs.Knowledge.{none, run_of, Equal, Apart, Steady, steady, free_place, word_sound, number, sound}
use Rattle.knowledge.specs.Run.{cell, held, told, put, may}
use Rattle.knowledge.specs.Runs.{Within}
use Rattle.knowledge.proofs.Runs.{steady_decides, level_decides, full_decides, steady_less, across_more}

pub room : (c n k : ℕ) → c < n → c * k + k ≤ n * k
room c n k l = let h = mul-le-mul_right k l in omega (arith, suc-mul c k, h)

any_default : (l : List ℕ) (i a b : ℕ) → i < length l → get_or l i a ≡ get_or l i b
any_default [] i a b h = absurd (let z : ⊥ = omega arith in z)
any_default (x ∷ l) zero a b h = refl
any_default (x ∷ l) (suc i) a b h = any_default l i a b (omega arith)

-- runs that agree at their first n places
steady_same : (f g : ℕ → ℕ) (n : ℕ) → 0 < n → ((i : ℕ) → i < n → f i ≡ g i) → steady f n ≡ steady g n
steady_same f g n l e =
    agree
    (same
    (λ (S : Steady f n). steady_less g f n (sym (e 0 l) ∙ S.first) (λ i h k. sym (e i h)) S)
    (λ (S : Steady g n). steady_less f g n (e 0 l ∙ S.first) (λ i h k. e i h) S)
    (steady_decides f n))
    (steady_decides g n)

may_same : (f g : ℕ → ℕ) (n p v : ℕ) → p < n → ((i : ℕ) → i < n → f i ≡ g i) → may f n p v ≡ may g n p v
unfolding may put
may_same f g n p v l e =
    ap₂ (λ (x : ℕ) (b : Bool). free_place (λ i. x) p v && b) (e p l) (steady_same (put f p v) (put g p v) n (omega arith) alike)
  where
    alike : (i : ℕ) → i < n → put f p v i ≡ put g p v i
    alike i h = ap (cond (eqb i p) v) (e i h)

told_same : (f g : ℕ → ℕ) (m t : ℕ) → ((i : ℕ) → i < suc m → f i ≡ g i) → told f m t ≡ told g m t
unfolding told
told_same f g m t e =
    let there : Within f g (suc m) = λ i h k. e i h in
    let back : Within g f (suc m) = λ i h k. sym (e i h) in
    rw (
      agree (same (across_more Apart f g m t there) (across_more Apart g f m t back) (full_decides f m t)) (full_decides g m t),
      agree (same (across_more Equal f g m t there) (across_more Equal g f m t back) (level_decides f m t)) (level_decides g m t),
    )
    refl

-- a list is the run of component c
pub record IsRun (l : List ℕ) (m c : ℕ) (part : List ℕ) : Type 0 where
  pub long : length part ≡ suc m
  pub at : (i : ℕ) → i < suc m → cell part i ≡ run_of l m c i

-- as the c-th of n chunks, or as the slice from a place on
pub chunk : (l : List ℕ) (m n c : ℕ) (part : List ℕ) → length l ≡ n * suc m → c < n → part ≡ take (suc m) (drop (c * suc m) l) → IsRun l m c part
chunk l m n c part long in_list e = record { long = ap length e ∙ simp (length-take, length-drop) (omega (arith, fits)); at = at }
  where
    fits : c * suc m + suc m ≤ length l
    fits = omega (arith, room c n (suc m) in_list)

    at : (i : ℕ) → i < suc m → cell part i ≡ run_of l m c i
    at i h =
        ap (λ (x : List ℕ). cell x i) e
        ∙ get_or-take (suc m) (drop (c * suc m) l) i 0 h
        ∙ get_or-drop (c * suc m) l i 0
        ∙ any_default l (c * suc m + i) 0 none (omega (arith, fits))

pub slice : (l : List ℕ) (m n c at : ℕ) → length l ≡ n * suc m → c < n → at ≡ c * suc m → IsRun l m c (take (at + (m + 1) - at) (drop at l))
slice l m n c at long in_list start =
    let e : at + (m + 1) - at ≡ suc m = omega arith in
    chunk l m n c (take (at + (m + 1) - at) (drop at l)) long in_list (ap₂ (λ (j k : ℕ). take j (drop k l)) e start)

-- what is asked of the part is asked of the run
module _ {l : List ℕ} {m c : ℕ} {part : List ℕ} (r : IsRun l m c part) where
  pub part_steady : steady (cell part) (length part) ≡ steady (run_of l m c) (suc m)
  part_steady = ap (steady (cell part)) r.long ∙ steady_same (cell part) (run_of l m c) (suc m) (omega arith) r.at

  pub part_is_steady : Steady (run_of l m c) (suc m) → Steady (cell part) (length part)
  part_is_steady S = rw r.long (steady_less (cell part) (run_of l m c) (suc m) (r.at 0 (omega arith) ∙ S.first) (λ i h k. r.at i h) S)

  pub part_may : (p v : ℕ) → p < suc m → may (cell part) (length part) p v ≡ may (run_of l m c) (suc m) p v
  part_may p v h = rw r.long (may_same (cell part) (run_of l m c) (suc m) p v h r.at)

  pub part_told : (t : ℕ) → told (cell part) m t ≡ told (run_of l m c) m t
  part_told t = told_same (cell part) (run_of l m c) m t r.at

-- soundness in its two parts
module _ (z : Sizes) (numbers facts : List ℕ) where
  abbrev runs_test : Bool
  runs_test = all two 0 z.components (λ c. steady (run_of numbers z.minutes c) (suc z.minutes))

  abbrev words_test : Bool
  words_test = all two 0 z.minutes (λ t. word_sound z.propositions (get_or facts (2 * t) 0) (get_or facts (2 * t + 1) 0))

  sound_parts : sound z (held numbers facts) ≡ (runs_test && words_test)
  unfolding sound number
  sound_parts = refl

  pub sound_fails : runs_test ≡ false → sound z (held numbers facts) ≡ false
  sound_fails e = sound_parts ∙ ap (λ (b : Bool). b && words_test) e

  pub sound_words : runs_test ≡ true → sound z (held numbers facts) ≡ words_test
  sound_words e = sound_parts ∙ ap (λ (b : Bool). b && words_test) e
