-- A line as its fields tell it.
use Rattle.encoding.specs.Fields.{has}
use Rattle.policy.specs.declared.Fields.{Fields}
use Rattle.policy.specs.Encoded.{Line}
use Rattle.policy.specs.Format.{formula_of}

-- the line that the fields make
abbrev pub line_of : Fields → Line
line_of f =
    record { kind = f.kind; first = f.first; second = f.second; lower = f.lower; upper = f.upper; rule = has f.map 5; formula = formula_of f }
