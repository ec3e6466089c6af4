-- What is printed of sound knowledge is asked for only where `is_sound` answered so, and a message that is accepted is in range.
-- Assumes nothing.
use Rattle.std.specs.Prelude.{◌≡◌, ℕ, List, take, Ok}
use Rattle.std.proofs.Common.{sym, ap, subst, ◌∙◌}
use Rattle.refusal.specs.Checks.{reply}
use Rattle.refusal.proofs.Laws.{same_given}
use Rattle.policy.specs.declared.Sizes.{Sizes}
use Rattle.message.specs.declared.Message.{Message}
use Rattle.message.specs.Format.{first_of, used_of}
use Rattle.message.specs.Fixes.{Fits, WellFormed, meaning_of}
use Rattle.message.proofs.Laws.{fits, decoded, decoded_answer}
use Rattle.message.proofs.First.{alone}
use Rattle.knowledge.specs.Laws.{Limits}
use Rattle.knowledge.proofs.Laws.{sound_law}
use Rattle.knowledge.specs.Run.{held}
use Rattle.knowledge.proofs.Runs.{runs_of}
use Rattle.knowledge_vectors.proofs.show_case.Goals as goal

accepted_fits : (z : Sizes) → Limits z → (s : List ℕ) (m : Message) → Ok m ≡ first_of z s → Fits z m
accepted_fits z l s m e =
    let first : List ℕ = take (used_of s) s in
    let f = e ∙ alone z s in
    let w : WellFormed z first = sym (decoded_answer z first) ∙ ap reply (sym f) in
    subst (Fits z) (sym (same_given m (meaning_of first) (f ∙ decoded z first w))) (fits z l.propositions_most first w)

pub show_row-requires : goal.show_row-requires
show_row-requires g c =
    let s = c.is_sound in
    let k = held c.args.numbers.now c.args.facts.now in
    let sound = (sound_law c.args.sizes k).0 (sym s.ensures ∙ c.if-not-is_sound.false) in
    (c.requires.0, c.requires.1.numbers, runs_of c.args.sizes k sound)

pub offer-requires : goal.offer-requires
offer-requires g c =
    let s = c.is_sound in
    let k = held c.args.numbers.now c.args.facts.now in
    let sound = (sound_law c.args.sizes k).0 (sym s.ensures ∙ c.if-not-is_sound.false) in
    (c.requires.0, c.requires.1, sound, accepted_fits c.args.sizes c.requires.0 c.args.message.now _ c.in-Ok.ensures)
