-- Laws of the definitions in specs/Abbreviations. Assumes nothing.
use Rattle.std.specs.Prelude.{ℕ}
use Rattle.mtl.specs.declared.Formula.{Formula}
use Rattle.mtl.specs.declared.Formula.TheVariants.{True, Proposition, Not, Or, Since, Until, And, Implies, Once, Historically, Eventually, Always}
use Rattle.mtl.specs.Abbreviations.{Expression, Leaves, Own, abbreviation, binary, not', operand, proposition', true'}

pub own_line : (φ : Formula) → Own (abbreviation φ)
own_line True = tt
own_line (Proposition p) = tt
own_line (Not i) = tt
own_line (Or i j) = tt
own_line (Since i j lower upper) = tt
own_line (Until i j lower upper) = tt
own_line (And i j) = tt
own_line (Implies i j) = tt
own_line (Once i lower upper) = tt
own_line (Historically i lower upper) = tt
own_line (Eventually i lower upper) = tt
own_line (Always i lower upper) = tt

pub leaves_map : (x : Expression) {P Q : ℕ → Type 0} → ((i : ℕ) → P i → Q i) → Leaves P x → Leaves Q x
leaves_map (operand i) f h = f i h
leaves_map true' f h = tt
leaves_map (proposition' p) f h = tt
leaves_map (not' x) f h = leaves_map x f h
leaves_map (binary k x y) f h = (leaves_map x f h.0, leaves_map y f h.1)

pub leaves_all : (x : Expression) {P : ℕ → Type 0} → ((i : ℕ) → P i) → Leaves P x
leaves_all (operand i) f = f i
leaves_all true' f = tt
leaves_all (proposition' p) f = tt
leaves_all (not' x) f = leaves_all x f
leaves_all (binary k x y) f = (leaves_all x f, leaves_all y f)

pub leaves_both : (P Q : ℕ → Type 0) (x : Expression) → Leaves P x → Leaves Q x → Leaves (λ i. P i × Q i) x
leaves_both P Q (operand i) h k = (h, k)
leaves_both P Q true' h k = tt
leaves_both P Q (proposition' p) h k = tt
leaves_both P Q (not' x) h k = leaves_both P Q x h k
leaves_both P Q (binary k x y) h l = (leaves_both P Q x h.0 l.0, leaves_both P Q y h.1 l.1)
