-- Cases that pin the checks of a record: 01's number of a record that is not sound, and 02's of one that was opened under another card. Assumes nothing.
use Prim.Native.Nat.{ℕ}
use Rattle.std.specs.Prelude.{◌≡◌, refl, List, Ok}
use Rattle.refusal.specs.declared.Refusal.TheVariants.{CorruptKnowledge, OtherPolicy}
use Rattle.refusal.specs.Checks.{first_failed, pass, none as none_left, here, RefusedWith}
use Rattle.refusal.proofs.Laws.{refusal_law, passing_law, passed_both, refused_first, refused_later}
use Rattle.policy.specs.Format.{policy_checks, answer_of, policy_of}
use Rattle.policy.proofs.Ranges.{fails}
use Rattle.knowledge.specs.Knowledge.{Sound}
use Rattle.knowledge.proofs.Laws.{sound_law}
use Rattle.origin.specs.Origin.{origin_of}
use Rattle.origin.proofs.Origin.{under_law}
use Rattle.monitor.specs.State.{State, Sized, record_checks, origin_checks, opening_checks}
use Rattle.monitor.proofs.Laws.{sized_law}

-- "6": under an accepted card, in buffers of its sizes and opened under it, a record that is not sound is refused with 6, and nothing else
pub corrupt_record : (s : List ℕ) (x : State) → answer_of s ≡ Ok tt → Sized (policy_of s) x → x.origin ≡ origin_of s
    → (Sound (policy_of s).sizes x.known → ⊥) → RefusedWith (first_failed (record_checks s x)) 6 0
unfolding answer_of
corrupt_record s x card z o n =
    let opening =
    passed_both (policy_checks s) _ ((passing_law (policy_checks s)).0 card) (pass ((sized_law (policy_of s) x).1 z) none_left) in
    let origin = passed_both (opening_checks s x) _ opening (pass ((under_law s x.origin).1 o) none_left) in
    record {
      refusal = CorruptKnowledge;
      is = (refusal_law (record_checks s x) CorruptKnowledge).1
          (refused_later (origin_checks s x) _ CorruptKnowledge origin (here (fails _ (sound_law (policy_of s).sizes x.known) n)));
      number = refl;
      place = refl;
    }

-- "12, other card, after 5 and before 6": one that was not opened under the card is refused with 12, sound or not
pub other_record : (s : List ℕ) (x : State) → answer_of s ≡ Ok tt → Sized (policy_of s) x → (x.origin ≡ origin_of s → ⊥)
    → RefusedWith (first_failed (record_checks s x)) 12 0
unfolding answer_of
other_record s x card z n =
    let opening =
    passed_both (policy_checks s) _ ((passing_law (policy_checks s)).0 card) (pass ((sized_law (policy_of s) x).1 z) none_left) in
    record {
      refusal = OtherPolicy;
      is = (refusal_law (record_checks s x) OtherPolicy).1
          (refused_first (origin_checks s x) _ OtherPolicy
          (refused_later (opening_checks s x) _ OtherPolicy opening (here (fails _ (under_law s x.origin) n))));
      number = refl;
      place = refl;
    }
