-- Laws of the definitions in specs/Begun. Assumes nothing.
use Rattle.std.specs.Prelude.{ℕ, ◌+◌, ◌<◌, ◌≡◌, refl, List, length, take, get_or}
use Rattle.std.proofs.Common.{sym, ap, ◌∙◌}
use Rattle.compile_rule.specs.declared.beginning.Expected.{Expected}
use Rattle.compile_rule.specs.declared.beginning.Expected.TheVariants.{Term}
use Rattle.compile_rule.specs.declared.beginning.Beginning.{Beginning}
use Rattle.compile_rule.proofs.Choices.{run_more}
use Rattle.compile_rule.specs.Begun.{begun, expecting, following, step}

-- ---- laws

-- what an arm answers is the step's answer
pub stepped : (e : Expected) (b : Beginning) (byte : ℕ) (r : Beginning) → b.expected ≡ e → r ≡ following e b byte → r ≡ step b byte
unfolding step
stepped e b byte r f g = g ∙ ap (λ (e : Expected). following e b byte) (sym f)

pub begun_more : (text : List ℕ) (i : ℕ) (b r : Beginning) → i < length text → b ≡ begun (take i text) → r ≡ step b (get_or text i 0) → r ≡ begun (take (i + 1) text)
unfolding begun
begun_more text i b r h e g = run_more step (expecting Term 0 1) text i b r h e g

pub begun_none : (text : List ℕ) → expecting Term 0 1 ≡ begun (take 0 text)
unfolding begun
begun_none text = refl

pub begun_here : (text : List ℕ) (i place : ℕ) (b : Beginning) → b ≡ begun (take i text) → i ≡ place → b ≡ begun (take place text)
begun_here text i place b e f = e ∙ ap (λ (k : ℕ). begun (take k text)) f
