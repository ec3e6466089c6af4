-- Laws of the definitions in specs/Rank. Assumes nothing.
use Rattle.std.specs.Prelude.{◌-◌, ◌≤◌, ◌<◌, min, max, ◌≡◌, refl}
use Rattle.std.proofs.Common.{arith}
use Rattle.kleene.specs.Truth.{Truth, unknown, true3, false3, not3, or3, and3}
use Rattle.kleene.specs.Rank.{rank_of}

pub rank_le : (x : Truth) → rank_of x ≤ 2
unfolding rank_of
rank_le unknown = omega arith
rank_le true3 = omega arith
rank_le false3 = omega arith

pub rank_or : (x y : Truth) → rank_of (or3 x y) ≡ max (rank_of x) (rank_of y)
unfolding rank_of
rank_or unknown unknown = refl
rank_or unknown true3 = refl
rank_or unknown false3 = refl
rank_or true3 unknown = refl
rank_or true3 true3 = refl
rank_or true3 false3 = refl
rank_or false3 unknown = refl
rank_or false3 true3 = refl
rank_or false3 false3 = refl

pub rank_not : (x : Truth) → rank_of (not3 x) ≡ 2 - rank_of x
unfolding rank_of
rank_not unknown = refl
rank_not true3 = refl
rank_not false3 = refl

pub rank_and : (x y : Truth) → rank_of (and3 x y) ≡ min (rank_of x) (rank_of y)
rank_and x y = omega (arith, rank_not (or3 (not3 x) (not3 y)), rank_or (not3 x) (not3 y), rank_not x, rank_not y, rank_le x, rank_le y)

-- a value is known by the places that it reaches
pub reaches_true : (x : Truth) → 2 ≤ rank_of x → x ≡ true3
unfolding rank_of
reaches_true unknown h = absurd (omega arith)
reaches_true true3 h = refl
reaches_true false3 h = absurd (omega arith)

pub reaches_unknown : (x : Truth) → rank_of x < 2 → 1 ≤ rank_of x → x ≡ unknown
unfolding rank_of
reaches_unknown unknown l h = refl
reaches_unknown true3 l h = absurd (omega arith)
reaches_unknown false3 l h = absurd (omega arith)

pub reaches_none : (x : Truth) → rank_of x < 1 → x ≡ false3
unfolding rank_of
reaches_none unknown h = absurd (omega arith)
reaches_none true3 h = absurd (omega arith)
reaches_none false3 h = refl
