-- What is written lies within the lent buffer, whose length no call changes. Assumes nothing.
use Rattle.std.proofs.Common.{arith, sym}
use Rattle.std.proofs.lemmas.List.{length-take-le}
use Rattle.rule_text.proofs.Proved.{fits}
use Rattle.compile_rule.proofs.compile.Goals as goal

pub slice_bounds-policy-end : goal.slice_bounds-policy-end
slice_bounds-policy-end g c = omega (arith, fits _ _ _ _ _ _ _ _ c.compile.ensures c.in-Ok.is)

pub slice_bounds-print-end : goal.slice_bounds-print-end
slice_bounds-print-end g c = sym (length-take-le _ _ (omega (arith, fits _ _ _ _ _ _ _ _ c.compile.ensures c.in-Ok.is)))
