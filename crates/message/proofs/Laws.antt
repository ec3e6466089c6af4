-- What the message reader's answers mean: each has its own cause, and a well_formed message has the ranges that its policy gives.
use Rattle.std.specs.Prelude.{ℕ, ◌^◌, ◌≤◌, ◌<◌, ◌≡◌, refl, Bool, true, false, List, length, Err, Ok}
use Rattle.std.proofs.Common.{arith, sym, ap, ◌∙◌, true≢false, pow_mono, leb-true, leb-false, eqb-true, le-leb, ne_eqb}
use Rattle.std.proofs.lemmas.Bool.{eqb-false, lt-leb}
use Rattle.bits.specs.Bits.{bit}
use Rattle.bits.proofs.Masks.{bits_below}
use Rattle.refusal.specs.declared.Refusal.TheVariants.{TruncatedMessage, BadMessage}
use Rattle.refusal.specs.Checks.{Checked, give_unless, reply}
use Rattle.refusal.specs.Checks.{Refuses, here, there}
use Rattle.refusal.proofs.Laws.{replied, not_accepted, refusal_law}
use Rattle.policy.specs.declared.Sizes.{Sizes}
use Rattle.message.specs.declared.Event.{Event}
use Rattle.message.specs.Format.{length_of, good_message, fields_of, message_checks, answer_of, message_in, decode_of}
use Rattle.message.specs.Encoded.{IsEvent, is_observation, is_alive, IsMessage}
use Rattle.message.specs.Fixes.{WellFormed, meaning_of, FitsEvent, Fits}
use Rattle.message.specs.Proper.{Cut, early, extra, Causes}
use Rattle.message.proofs.ReadLaws.{refuses, takes, reads, accepts}

-- ---- each answer and its cause

module _ (z : Sizes) (s : List ℕ) where
  cut : (at : ℕ) → Refuses (message_checks z s) (TruncatedMessage at) → Cut s at
  cut at (here p) = early (leb-false _ _ p)
  cut at (there p (here q)) =
      let n : (length_of s ≡ length s → ⊥) = eqb-false (length_of s) (length s) q in
      extra (omega (arith, leb-true (length_of s) (length s) p))
  cut at (there p (there q (there g n))) = elim n [ ]

  uncut : {at : ℕ} → Cut s at → Refuses (message_checks z s) (TruncatedMessage at)
  uncut (early h) = here (lt-leb _ _ h)
  uncut (extra h) = there (le-leb (length_of s) (length s) (omega arith)) (here (ne_eqb (length_of s) (length s) (λ e. omega arith)))

  pub refused_cut : (at : ℕ) → Cut s at → answer_of z s ≡ Err (TruncatedMessage at)
  unfolding answer_of
  refused_cut at c = (refusal_law (message_checks z s) (TruncatedMessage at)).1 (uncut c)

  -- 8 is after 7, and says that the bytes are no message
  broken : Refuses (message_checks z s) BadMessage → length s ≡ length_of s
  broken (there p (there q (there _ x16))) = elim x16 [ ]
  broken (there p (there q (here g))) = sym (eqb-true _ _ q)

  refused_bad : length s ≡ length_of s → (IsMessage z s → ⊥) → answer_of z s ≡ Err BadMessage
  refused_bad e other = go (good_message z s) refl
    where
      go : (b : Bool) → good_message z s ≡ b → answer_of z s ≡ Err BadMessage
      go true g = absurd (other ((accepts z s).0 (takes z s e g)))
      go false g = refuses z s e g

  pub causes : Causes z s
  unfolding answer_of
  causes = record {
    seven = λ at. (λ e. cut at ((refusal_law (message_checks z s) (TruncatedMessage at)).0 e), λ c. refused_cut at c);
    eight = (
      λ e. (broken ((refusal_law (message_checks z s) BadMessage).0 e), λ m. not_accepted BadMessage (sym e ∙ (accepts z s).1 m)),
      λ h. refused_bad h.0 h.1,
    );
    accepted = accepts z s;
  }

-- ---- what is decoded

pub decodes : (z : Sizes) (s : List ℕ) (a : Checked) → answer_of z s ≡ a → decode_of z s ≡ give_unless a (message_in (fields_of s))
unfolding decode_of
decodes z s a e = ap (λ (x : Checked). give_unless x (message_in (fields_of s))) e

pub decoded : (z : Sizes) (s : List ℕ) → WellFormed z s → decode_of z s ≡ Ok (meaning_of s)
unfolding decode_of meaning_of fields_of
decoded z s w = ap (λ (a : Checked). give_unless a (message_in (fields_of s))) w

pub decoded_answer : (z : Sizes) (s : List ℕ) → reply (decode_of z s) ≡ answer_of z s
unfolding decode_of
decoded_answer z s = replied (answer_of z s) (message_in (fields_of s))

-- ---- the ranges of a well_formed message

event_fits : (z : Sizes) → z.propositions ≤ 32 → {component minute number named packed : ℕ} {e : Event}
    → IsEvent z component minute number named packed e
    → (component < z.components) × FitsEvent z e
event_fits z few (is_alive component minute number c t) = (c, t)
event_fits z few (is_observation component minute number named packed values c t n marks spare v) = (
  c,
  (
    t,
    n,
    let l : named < 2 ^ z.propositions = (bits_below z.propositions named).1 marks in omega (arith, pow_mono few),
    v.small,
    marks,
    λ i b. go i (bit named i) refl b,
  ),
)
  where
    go : (i : ℕ) (b : Bool) → bit named i ≡ b → bit values i ≡ true → bit named i ≡ true
    go i true e f = e
    go i false e f = absurd (true≢false (sym f ∙ v.other_value i e))

pub fits : (z : Sizes) → z.propositions ≤ 32 → (s : List ℕ) → WellFormed z s → Fits z (meaning_of s)
fits z few s w =
    let m = (accepts z s).0 w in
    let f = event_fits z few m.is_event in
    rw (reads z s m) (record { component_in = f.0; event_in = f.1 })
