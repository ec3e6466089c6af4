-- What two codes tell of a minute together, by the tests that decide it. Assumes nothing.
use mathlib.Core.Path.{◌≡◌, refl}
use mathlib.Core.Bool.{Bool, true, false, ◌&&◌, ◌||◌}
use Prim.Native.Nat.{◌<◌}
use native.Mathlib.Omega.{arith}
use Rattle.kleene.specs.Truth.{Truth, unknown, true3, false3, code_of, or3}
use Rattle.knowledge.specs.Knowledge.{says}

-- an or is true if either is, and false if both are
pub or_says : (t f u g : Bool) → or3 (says t f) (says u g) ≡ says (t || u) (f && g)
or_says true f true g = refl
or_says true f false true = refl
or_says true f false false = refl
or_says false true true g = refl
or_says false true false true = refl
or_says false true false false = refl
or_says false false true g = refl
or_says false false false true = refl
or_says false false false false = refl

-- codes are below 3
pub code_below : (x : Truth) → code_of x < 3
code_below unknown = omega arith
code_below true3 = omega arith
code_below false3 = omega arith
