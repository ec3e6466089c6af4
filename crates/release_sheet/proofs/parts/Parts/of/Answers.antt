-- Each product is at most that of the largest policy. Assumes nothing.
use Rattle.std.proofs.Common.{refl, arith}
use Rattle.release_sheet.proofs.Bounded.{bounded}
use Rattle.release_sheet.proofs.parts.Parts.of.Goals as goal

pub overflow_add-result : goal.overflow_add-result
overflow_add-result c = let b = bounded _ c.decode.ensures c.in_ok-sizes.was in record { fits = omega (arith, b.minutes) }

pub overflow_mul-result : goal.overflow_mul-result
overflow_mul-result c = let b = bounded _ c.decode.ensures c.in_ok-sizes.was in record { fits = omega (arith, b.numbers) }

pub overflow_mul-result-2 : goal.overflow_mul-result-2
overflow_mul-result-2 c = let b = bounded _ c.decode.ensures c.in_ok-sizes.was in record { fits = omega (arith, b.minutes) }

pub overflow_mul-result-3 : goal.overflow_mul-result-3
overflow_mul-result-3 c = let b = bounded _ c.decode.ensures c.in_ok-sizes.was in record { fits = omega (arith, b.valuation) }

pub overflow_mul-result-4 : goal.overflow_mul-result-4
overflow_mul-result-4 c = let b = bounded _ c.decode.ensures c.in_ok-sizes.was in record { fits = omega (arith, b.verdicts) }

pub invariant_of-result : goal.invariant_of-result
invariant_of-result c =
    let b = bounded _ c.decode.ensures c.in_ok-sizes.was in
    record {
      numbers_fit = b.numbers;
      facts_fit = omega (arith, b.minutes);
      valuation_fits = b.valuation;
      verdicts_fit = b.verdicts;
      laid = refl;
    }
