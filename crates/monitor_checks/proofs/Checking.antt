-- What is known after the checks that a call starts with, one law for each way through them. Assumes nothing.
use Rattle.std.specs.Prelude.{Err, Ok}
use mathlib.Core.Path.{◌≡◌, refl, sym, ap, ap₂, subst, ◌∙◌}
use mathlib.Core.Bool.{Bool, true, false}
use mathlib.Core.List.{List, [], ◌∷◌, ◌++◌}
use Prim.Native.Nat.{ℕ, ◌≤◌}
use lib.ListN.{length}
use Rattle.refusal.specs.declared.Refusal.{Refusal}
use Rattle.refusal.specs.declared.Refusal.TheVariants.{BufferSize, CorruptKnowledge, OtherPolicy}
use Rattle.refusal.specs.Checks.{Checked, Check, check, first_failed, and_then, give_unless, Passed, pass, none}
use Rattle.refusal.proofs.Laws.{in_order, passing_law, passed_parts, given, withheld}
use Rattle.policy.specs.declared.Policy.{Policy}
use Rattle.policy.specs.Format.{policy_checks, answer_of, policy_of, decode_of as decode_policy}
use Rattle.policy.specs.Proper.{Proper}
use Rattle.policy.proofs.Laws.{accepted, short}
use Rattle.policy.specs.ReadPolicy.{Read}
use Rattle.policy.proofs.ReadPolicy.{read_policy}
use Rattle.knowledge.specs.Knowledge.{Sound, sound}
use Rattle.knowledge.specs.Laws.{Limits}
use Rattle.knowledge.proofs.Laws.{sound_law}
use Rattle.monitor.specs.declared.Lengths.{Lengths}
use Rattle.origin.specs.Origin.{origin_of, opened_under}
use Rattle.origin.proofs.Origin.{under_law}
use Rattle.monitor.specs.State.{State, lengths_of, Sized, sizes_fit, sized, size_checks, origin_checks, record_checks, opening_checks}
use Rattle.monitor.specs.Checked.{checked_policy}
use Rattle.monitor.proofs.Laws.{sized_law}

-- what a policy that was read keeps to
pub limits : (p : Policy) → Proper p → Limits p.sizes
limits p z = record { propositions_most = z.propositions.high; minutes_most = z.minutes.high }

-- a list that passes, and one check after it
one_more : (xs : List Check) (b : Bool) (r : Refusal) → first_failed (xs ++ (check b r ∷ [])) ≡ Ok tt → (first_failed xs ≡ Ok tt) × (b ≡ true)
one_more xs b r e = let q = passed_parts xs (check b r ∷ []) ((passing_law (xs ++ (check b r ∷ []))).0 e) in ((passing_law xs).1 q.0, last q.1)
  where
    last : Passed (check b r ∷ []) → b ≡ true
    last (pass p none) = p

-- its answer, where both are known
pub after_list : (xs : List Check) (b : Bool) (r : Refusal) (a : Checked) (v : Bool) → first_failed xs ≡ a → b ≡ v
    → first_failed (xs ++ (check b r ∷ [])) ≡ and_then a (first_failed (check v r ∷ []))
after_list xs b r a v e f = in_order xs (check b r ∷ []) ∙ ap₂ (λ (c : Checked) (w : Bool). and_then c (first_failed (check w r ∷ []))) e f

-- what is known of a policy that passed some checks
module _ (xs : List Check) (s : List ℕ) where
  pub passed_checks : (p : Policy) → Ok p ≡ checked_policy xs s → (first_failed xs ≡ Ok tt) × (p ≡ policy_of s)
  unfolding checked_policy
  passed_checks p e = given (first_failed xs) (policy_of s) p (sym e)

  pub refused_checks : (q : Refusal) → Err q ≡ checked_policy xs s → first_failed xs ≡ Err q
  unfolding checked_policy
  refused_checks q e = withheld (first_failed xs) (policy_of s) q (sym e)

  -- a check more: where the others refused, where the check fails and where it passes
  module _ (b : Bool) (r : Refusal) where
    after : (a : Checked) (v : Bool) → first_failed xs ≡ a → b ≡ v
        → give_unless (and_then a (first_failed (check v r ∷ []))) (policy_of s) ≡ checked_policy (xs ++ (check b r ∷ [])) s
    unfolding checked_policy
    after a v e f = sym (ap (λ (c : Checked). give_unless c (policy_of s)) (after_list xs b r a v e f))

    pub still_refused : (q : Refusal) → Err q ≡ checked_policy xs s → Err q ≡ checked_policy (xs ++ (check b r ∷ [])) s
    still_refused q e = after (Err q) b (refused_checks q e) refl

    pub then_refused : (p : Policy) → Ok p ≡ checked_policy xs s → b ≡ false → Err r ≡ checked_policy (xs ++ (check b r ∷ [])) s
    then_refused p e f = after (Ok tt) false (passed_checks p e).0 f

    pub then_passed : (p : Policy) → Ok p ≡ checked_policy xs s → b ≡ true → Ok p ≡ checked_policy (xs ++ (check b r ∷ [])) s
    then_passed p e f = let g = passed_checks p e in ap Ok g.1 ∙ after (Ok tt) true g.0 f

-- ---- the first checks

-- what the reader gives
reads : (s : List ℕ) → decode_policy s ≡ checked_policy (policy_checks s) s
unfolding checked_policy decode_policy answer_of
reads s = refl

-- an accepted policy is in range
read_of : (s : List ℕ) (p : Policy) → answer_of s ≡ Ok tt → p ≡ policy_of s → Read s p
read_of s p f e = record { card = f; same = e; proper = subst Proper (sym e) (accepted s f) }

-- 5, after the reader
module _ (s : List ℕ) (l : Lengths) where
  pub sizes_refused : (q : Refusal) → Err q ≡ decode_policy s → Err q ≡ checked_policy (size_checks s l) s
  sizes_refused q e = still_refused (policy_checks s) s (sizes_fit (policy_of s) l) BufferSize q (e ∙ reads s)

  module _ (p : Policy) (e : Ok p ≡ decode_policy s) where
    pub policy_read : Read s p
    policy_read = read_policy s (Ok p) p e refl

    fitted : (b : Bool) → sizes_fit p l ≡ b → sizes_fit (policy_of s) l ≡ b
    fitted b = subst (λ (p : Policy). sizes_fit p l ≡ b) policy_read.same

    pub sizes_misfit : sizes_fit p l ≡ false → Err BufferSize ≡ checked_policy (size_checks s l) s
    sizes_misfit t = then_refused (policy_checks s) s (sizes_fit (policy_of s) l) BufferSize p (e ∙ reads s) (fitted false t)

    pub sizes_fine : sizes_fit p l ≡ true → Ok p ≡ checked_policy (size_checks s l) s
    sizes_fine t = then_passed (policy_checks s) s (sizes_fit (policy_of s) l) BufferSize p (e ∙ reads s) (fitted true t)

-- the lengths are those of the state
pub at_lengths : (s : List ℕ) (x : State) {l : Lengths} → l ≡ lengths_of x → checked_policy (size_checks s l) s ≡ checked_policy (opening_checks s x) s
at_lengths s x e = ap (λ (l : Lengths). checked_policy (size_checks s l) s) e

-- what is known where 1 to 5 passed
module _ (s : List ℕ) (x : State) (p : Policy) (k : Ok p ≡ checked_policy (opening_checks s x) s) where
  passed_sizes : (answer_of s ≡ Ok tt) × (sized (policy_of s) x ≡ true)
  unfolding answer_of
  passed_sizes = one_more (policy_checks s) (sized (policy_of s) x) BufferSize (passed_checks (opening_checks s x) s p k).0

  same : p ≡ policy_of s
  same = (passed_checks (opening_checks s x) s p k).1

  pub sizes_read : Read s p
  sizes_read = read_of s p passed_sizes.0 same

  pub sizes_passed : Sized p x
  sizes_passed = subst (λ (p : Policy). Sized p x) (sym same) ((sized_law (policy_of s) x).0 passed_sizes.1)

  -- the card fits into its buffer
  pub policy_short : length s ≤ 517
  policy_short = short s passed_sizes.0

-- 12, after 5, and then 6
module _ (s : List ℕ) (x : State) where
  abbrev under : Bool
  under = opened_under s x.origin

  abbrev clean : Bool
  clean = sound (policy_of s).sizes x.known

  pub record_refused : (q : Refusal) → Err q ≡ checked_policy (opening_checks s x) s → Err q ≡ checked_policy (record_checks s x) s
  record_refused q e = still_refused (origin_checks s x) s clean CorruptKnowledge q (still_refused (opening_checks s x) s under OtherPolicy q e)

  module _ (p : Policy) (c : Ok p ≡ checked_policy (opening_checks s x) s) where
    pub record_other : under ≡ false → Err OtherPolicy ≡ checked_policy (record_checks s x) s
    record_other t = still_refused (origin_checks s x) s clean CorruptKnowledge OtherPolicy (then_refused (opening_checks s x) s under OtherPolicy p c t)

    module _ (o : under ≡ true) where
      let_past : Ok p ≡ checked_policy (origin_checks s x) s
      let_past = then_passed (opening_checks s x) s under OtherPolicy p c o

      tested : (b : Bool) → sound p.sizes x.known ≡ b → clean ≡ b
      tested b = subst (λ (q : Policy). sound q.sizes x.known ≡ b) (passed_checks (opening_checks s x) s p c).1

      pub record_corrupt : sound p.sizes x.known ≡ false → Err CorruptKnowledge ≡ checked_policy (record_checks s x) s
      record_corrupt t = then_refused (origin_checks s x) s clean CorruptKnowledge p let_past (tested false t)

      pub record_fine : sound p.sizes x.known ≡ true → Ok p ≡ checked_policy (record_checks s x) s
      record_fine t = then_passed (origin_checks s x) s clean CorruptKnowledge p let_past (tested true t)

-- what is known where all of these passed
module _ (s : List ℕ) (x : State) (p : Policy) (k : Ok p ≡ checked_policy (record_checks s x) s) where
  passed_record : (first_failed (origin_checks s x) ≡ Ok tt) × (sound (policy_of s).sizes x.known ≡ true)
  passed_record = one_more (origin_checks s x) (sound (policy_of s).sizes x.known) CorruptKnowledge (passed_checks (record_checks s x) s p k).0

  is_same : p ≡ policy_of s
  is_same = (passed_checks (record_checks s x) s p k).1

  passed_origin : (first_failed (opening_checks s x) ≡ Ok tt) × (opened_under s x.origin ≡ true)
  passed_origin = one_more (opening_checks s x) (opened_under s x.origin) OtherPolicy passed_record.0

  passed_first : (answer_of s ≡ Ok tt) × (sized (policy_of s) x ≡ true)
  unfolding answer_of
  passed_first = one_more (policy_checks s) (sized (policy_of s) x) BufferSize passed_origin.0

  pub record_read : Read s p
  record_read = read_of s p passed_first.0 is_same

  pub record_under : x.origin ≡ origin_of s
  record_under = (under_law s x.origin).0 passed_origin.1

  pub record_sized : Sized p x
  record_sized = subst (λ (p : Policy). Sized p x) (sym is_same) ((sized_law (policy_of s) x).0 passed_first.1)

  pub record_sound : Sound p.sizes x.known
  record_sound = subst (λ (p : Policy). Sound p.sizes x.known) (sym is_same) ((sound_law (policy_of s).sizes x.known).0 passed_record.1)
