-- Laws of the definitions in specs/ReadPolicy. Assumes nothing.
use Rattle.refusal.specs.declared.Refusal.{Refusal}
use Rattle.policy.specs.declared.Policy.{Policy}
use Rattle.std.specs.Prelude.{◌≡◌, List, ℕ, Ok, Result}
use Rattle.std.proofs.Common.{sym, subst}
use Rattle.policy.specs.Format.{decode_of}
use Rattle.policy.specs.Proper.{Proper}
use Rattle.policy.proofs.Laws.{accepted, handed_out}
use Rattle.policy.specs.ReadPolicy.{Read}

pub read_policy : (s : List ℕ) (d : Result Policy Refusal) (p : Policy) → d ≡ decode_of s → d ≡ Ok p → Read s p
read_policy s d p e f =
    let h = handed_out s d p e f in
    record { card = h.0; same = h.1; proper = subst Proper (sym h.1) (accepted s h.0) }
