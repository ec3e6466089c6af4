-- A policy's lines as one array of numbers.
use Rattle.std.specs.Prelude.{ℕ, zero, suc, ◌+◌, ◌*◌, not, cond, List, [], ◌∷◌, ◌++◌, eqb, get_or, set}
use Rattle.policy.specs.declared.LineNumbers.{LineNumbers}
use Rattle.policy.specs.Text.{numbered}

-- a line is six numbers, one after another: kind, first, second, lower, upper, and any but 0 for a rule
abbrev pub line_at : List ℕ → ℕ → LineNumbers
line_at f i =
    numbered (get_or f (i * 6) 0) (get_or f (i * 6 + 1) 0) (get_or f (i * 6 + 2) 0) (get_or f (i * 6 + 3) 0) (get_or f (i * 6 + 4) 0)
    (not (eqb (get_or f (i * 6 + 5) 0) 0))

-- the first n lines
unfoldable pub lines_from : List ℕ → ℕ → List LineNumbers
lines_from f zero = []
lines_from f (suc n) = lines_from f n ++ (line_at f n ∷ [])

-- line i stored
unfoldable pub set_line : List ℕ → ℕ → LineNumbers → List ℕ
set_line f i l =
    set (set (set (set (set (set f (i * 6) l.kind) (i * 6 + 1) l.first) (i * 6 + 2) l.second) (i * 6 + 3) l.lower) (i * 6 + 4) l.upper)
    (i * 6 + 5) (cond l.rule 1 0)
