-- What a user of the call may rely on: which texts are refused, with which number and place; what is written; and that what was typed is what is
-- watched. `Proved` proves it. Which texts are answered how is `Answered` of rule_grammar (Places), with no reader in it; `one_answer` there says that
-- no text has two answers.
use Rattle.std.specs.Prelude.{ℕ, ◌≤◌, ◌<◌, ◌≡◌, Bool, true, ◌⊎◌, ◌↔◌, List, [], ◌∷◌, ◌++◌, length, drop, Err, Ok}
use Rattle.refusal.specs.declared.Refusal.{Refusal}
use Rattle.refusal.specs.Checks.{RefusedWith, reply}
use Rattle.refusal.specs.Writes.{Output}
use Rattle.mtl.specs.Algebra.{two}
use Rattle.mtl.specs.Reading.{reading}
use Rattle.mtl.specs.Textbook.{plain}
use Rattle.policy.specs.Encoded.{PropositionsIn, ComponentsIn, MinutesIn}
use Rattle.policy.specs.Format.{answer_of, policy_of}
use Rattle.policy.specs.Proper.{formula_at, rules_of}
use Rattle.policy.specs.Text.{InRange, text_of}
use Rattle.rule_grammar.specs.Term.{Term, looks}
use Rattle.rule_grammar.specs.Lines.{inner, terms}
use Rattle.rule_grammar.specs.Watched.{line_of}
use Rattle.rule_grammar.specs.Means.{Means}
use Rattle.rule_grammar.specs.Places as P
use Rattle.rule_text.specs.Compiled.{rule_policy, compile_of}

-- "Marks, stations and minutes are given beside the text"
pub record SizesIn (propositions components minutes : ℕ) : Type 0 where
  pub propositions_in : PropositionsIn propositions
  pub components_in : ComponentsIn components
  pub minutes_in : MinutesIn minutes

-- the text is taken, as this term
abbrev pub TakenAs : ℕ → List ℕ → Term → Type 0
TakenAs propositions text x = P.Answered propositions text (P.Taken x)

-- the call's outcome o
pub record CompileCauses (propositions components minutes : ℕ) (text out : List ℕ) (o : Output) : Type 0 where
  -- "keep refusal 2, at place 0"
  pub two_at : (at : ℕ) → RefusedWith (reply o.answer) 2 at ↔ ((at ≡ 0) × (SizesIn propositions components minutes → ⊥))
  -- "13, unreadable rule, after 2"; "14, too much rule"; "of 13 and 14 the earliest byte wins, 14 at a tie" is in `Answered`
  pub thirteen : (at : ℕ) → RefusedWith (reply o.answer) 13 at ↔ (SizesIn propositions components minutes × P.Answered propositions text (P.Refused 13 at))
  pub fourteen : (at : ℕ) → RefusedWith (reply o.answer) 14 at ↔ (SizesIn propositions components minutes × P.Answered propositions text (P.Refused 14 at))
  -- "11 is tested last"
  pub eleven : (at : ℕ) → RefusedWith (reply o.answer) 11 at
      ↔ ((at ≡ 0) × SizesIn propositions components minutes × (x : Term) × TakenAs propositions text x × (length out < length (text_of (rule_policy propositions components minutes x))))
  pub no_other : (n at : ℕ) → RefusedWith (reply o.answer) n at → ((n ≡ 2) ⊎ (n ≡ 11)) ⊎ ((n ≡ 13) ⊎ (n ≡ 14))
  -- "each accepted text .. becomes a card": the length is told just where no check refuses
  pub done : (n : ℕ) → (o.answer ≡ Ok n)
      ↔ (SizesIn propositions components minutes × (x : Term) × TakenAs propositions text x × (length (text_of (rule_policy propositions components minutes x)) ≤ length out) × (n ≡ length (text_of (rule_policy propositions components minutes x))))
  -- the text from the buffer's start, and the rest of a longer one as it was
  pub text_written : (n : ℕ) (x : Term) → o.answer ≡ Ok n → TakenAs propositions text x → o.out ≡ text_of (rule_policy propositions components minutes x) ++ drop n out
  -- a refused call changes nothing
  pub unwritten : (r : Refusal) → o.answer ≡ Err r → o.out ≡ out

-- the policy that a text becomes
pub record Becomes (propositions components minutes : ℕ) (x : Term) : Type 0 where
  -- it is the writer's text of numbers in range, so that the reader takes it
  pub in_range : InRange (rule_policy propositions components minutes x)
  pub accepted : answer_of (text_of (rule_policy propositions components minutes x)) ≡ Ok tt
  -- with the sizes that were given
  pub sizes : (policy_of (text_of (rule_policy propositions components minutes x))).sizes ≡ record { propositions = propositions; components = components; minutes = minutes }
  -- "with a line for each term, in the order in which their text ends, inner before outer"
  pub count : (policy_of (text_of (rule_policy propositions components minutes x))).count ≡ terms x
  pub line : (i : ℕ) → i < terms x → formula_at (policy_of (text_of (rule_policy propositions components minutes x))) i ≡ line_of x i
  -- "the last being the one rule"
  pub rule : rules_of (policy_of (text_of (rule_policy propositions components minutes x))) ≡ inner x ∷ []
  -- what was typed is what is watched: the two-valued reading of the rule is the meaning of the term, in any shift and at any minute
  pub watched : (e : ℕ → Bool) (p : ℕ → ℕ → Bool) (t : ℕ)
      → (reading two (plain e p) (formula_at (policy_of (text_of (rule_policy propositions components minutes x)))) (inner x) t ≡ true) ↔ Means e p x t

pub record RulesAsText : Type 0 where
  pub causes : (propositions components minutes : ℕ) (text out : List ℕ) → CompileCauses propositions components minutes text out (compile_of propositions components minutes text out)
  pub becomes : (propositions components minutes : ℕ) (text : List ℕ) (x : Term) → SizesIn propositions components minutes → TakenAs propositions text x → Becomes propositions components minutes x
  -- "each accepted text has one reading"
  pub one_reading : (x y : Term) → looks x ≡ looks y → x ≡ y
  -- every text has just one answer
  pub one_answer : (propositions : ℕ) (text : List ℕ) → (a : P.Answer) × P.Answered propositions text a × ((b : P.Answer) → P.Answered propositions text b → b ≡ a)
