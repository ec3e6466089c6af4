-- Laws of the definitions in specs/Truth. Assumes nothing.
use Rattle.std.specs.Prelude.{ℕ, ◌≡◌, refl}
use Rattle.std.proofs.Common.{ap, ◌∙◌}
use Rattle.kleene.specs.Truth.{Truth, code_of, false3, true3, unknown, value_of}

pub value_of_code : (x : Truth) → value_of (code_of x) ≡ x
value_of_code unknown = refl
value_of_code true3 = refl
value_of_code false3 = refl

-- what a code stands for, read back
pub read_back : (r : ℕ) (x : Truth) → r ≡ code_of x → value_of r ≡ x
read_back r x e = ap value_of e ∙ value_of_code x
