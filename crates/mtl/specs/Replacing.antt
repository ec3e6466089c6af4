-- 02, request 6: "One fact, shared by all six, shows that replacing such a line by its abbreviation gives the same row." A line gives way to the
-- lines of its abbreviation, put in before it, and the later lines' numbers move. Over lists of lines of any length. Assumes nothing.
use Rattle.std.specs.Prelude.{ℕ, ◌+◌, ◌-◌, ◌<◌, List, [], length, get_or, suc, ◌∷◌, ◌++◌, map, cond, ltb}
use Rattle.mtl.specs.declared.Formula.{Formula}
use Rattle.mtl.specs.declared.Formula.TheVariants.{True, Proposition, Not, Or, Since, Until, And, Implies, Once, Historically, Eventually, Always}
use Rattle.mtl.specs.Abbreviations.{Binary, either, back, ahead, abbreviation, Expression, operand, true', proposition', not', binary}
use Rattle.mtl.specs.Syntax.{Operands}

-- ---- the lines of an expression

-- the line of a kind of 01 with these two operands
abbrev pub formed : Binary → ℕ → ℕ → Formula
formed either i j = Or i j
formed (back lower upper) i j = Since i j lower upper
formed (ahead lower upper) i j = Until i j lower upper

-- ---- a line replaced by those of its abbreviation

-- the same kind and bounds over renumbered operands
abbrev pub rename : (ℕ → ℕ) → Formula → Formula
rename r True = True
rename r (Proposition p) = Proposition p
rename r (Not i) = Not (r i)
rename r (Or i j) = Or (r i) (r j)
rename r (Since i j lower upper) = Since (r i) (r j) lower upper
rename r (Until i j lower upper) = Until (r i) (r j) lower upper
rename r (And i j) = And (r i) (r j)
rename r (Implies i j) = Implies (r i) (r j)
rename r (Once i lower upper) = Once (r i) lower upper
rename r (Historically i lower upper) = Historically (r i) lower upper
rename r (Eventually i lower upper) = Eventually (r i) lower upper
rename r (Always i lower upper) = Always (r i) lower upper

-- line i of a list of lines
abbrev pub at : List Formula → ℕ → Formula
at l i = get_or l i True

-- operands are earlier lines, of lines that stand from number n on
abbrev pub Early : ℕ → List Formula → Type 0
Early n xs = (i : ℕ) → i < length xs → Operands (λ o. o < n + i) (at xs i)

-- how many lines an expression takes: a leaf none, since it stands already
abbrev pub size : Expression → ℕ
size (operand i) = 0
size true' = 1
size (proposition' p) = 1
size (not' x) = suc (size x)
size (binary k x y) = suc (size x + size y)

-- the number of its own line, where its lines start at n
abbrev pub place : ℕ → Expression → ℕ
place n (operand i) = i
place n true' = n
place n (proposition' p) = n
place n (not' x) = n + size x
place n (binary k x y) = n + size x + size y

-- its lines from number n on, inner before outer
abbrev pub lines : ℕ → Expression → List Formula
lines n (operand i) = []
lines n true' = True ∷ []
lines n (proposition' p) = Proposition p ∷ []
lines n (not' x) = lines n x ++ (Not (place n x) ∷ [])
lines n (binary k x y) = lines n x ++ lines (n + size x) y ++ (formed k (place n x) (place (n + size x) y) ∷ [])

-- numbers below k stay, the others move up by m
unfoldable pub moved : ℕ → ℕ → ℕ → ℕ
moved k m i = cond (ltb i k) i (i + m)

-- how far: the last of the new lines stands for the old one
abbrev pub shift : Formula → ℕ
shift φ = size (abbreviation φ) - 1

-- before, φ, after: with φ written out
abbrev pub replaced : List Formula → Formula → List Formula → List Formula
replaced before φ after =
    before ++ (lines (length before) (abbreviation φ) ++ map (rename (moved (length before) (shift φ))) after)
