-- What a maker of policies may rely on: which numbers are refused and why, that reading gives them again, and that writing what was read gives its own
-- bytes. `Refusals` and `RoundTrip` prove it.
use Rattle.std.specs.Prelude.{ℕ, ◌≤◌, ◌<◌, ◌≡◌, ◌⊎◌, ◌↔◌, List, ◌++◌, length, take, drop, Err, Ok}
use Rattle.encoding.specs.Text.{ByteString}
use Rattle.refusal.specs.declared.Refusal.{Refusal}
use Rattle.refusal.specs.Checks.{RefusedWith, reply}
use Rattle.refusal.specs.Writes.{Output}
use Rattle.policy.specs.declared.PolicyNumbers.{PolicyNumbers}
use Rattle.policy.specs.Format.{answer_of, policy_of}
use Rattle.policy.specs.Text.{line_in, numbers_of, HeadingIn, EachLineIn, RulesAmong, InRange, text_of, encode_of}

-- the writer's outcome o, given the numbers p and the lent buffer
pub record EncodeCauses (p : PolicyNumbers) (out : List ℕ) (o : Output) : Type 0 where
  -- "Out-of-range fields are refused with the reader's numbers 2, 3, 4 .., in that order, at place 0": of all the numbers, not line by line
  pub two : (at : ℕ) → RefusedWith (reply o.answer) 2 at ↔ ((at ≡ 0) × (HeadingIn p → ⊥))
  pub three : (at : ℕ) → RefusedWith (reply o.answer) 3 at ↔ ((at ≡ 0) × HeadingIn p × (EachLineIn p → ⊥))
  pub four : (at : ℕ) → RefusedWith (reply o.answer) 4 at ↔ ((at ≡ 0) × HeadingIn p × EachLineIn p × (RulesAmong p → ⊥))
  -- "11, short paper, when the lent buffer is shorter than the text, tested after those"
  pub eleven : (at : ℕ) → RefusedWith (reply o.answer) 11 at ↔ ((at ≡ 0) × InRange p × (length out < length (text_of p)))
  pub no_other : (n at : ℕ) → RefusedWith (reply o.answer) n at → ((2 ≤ n) × (n ≤ 4)) ⊎ (n ≡ 11)
  -- "write the card .. and give its length"
  pub done : (n : ℕ) → (o.answer ≡ Ok n) ↔ (InRange p × (length (text_of p) ≤ length out) × (n ≡ length (text_of p)))
  -- "a call added later that writes into a longer buffer keeps the rest of it"
  pub text : (n : ℕ) → o.answer ≡ Ok n → o.out ≡ text_of p ++ drop n out
  -- "nothing is written then"
  pub unwritten : (r : Refusal) → o.answer ≡ Err r → o.out ≡ out

-- the same numbers: of the heading, and of each line that there is
pub record SameNumbers (p q : PolicyNumbers) : Type 0 where
  pub propositions : p.propositions ≡ q.propositions
  pub components : p.components ≡ q.components
  pub minutes : p.minutes ≡ q.minutes
  pub count : p.count ≡ q.count
  pub lines : (i : ℕ) → i < p.count → line_in p.lines i ≡ line_in q.lines i

pub record RoundTrip : Type 0 where
  -- "Reading gives the fields again"
  pub reads_back : (p : PolicyNumbers) → InRange p → (answer_of (text_of p) ≡ Ok tt) × SameNumbers p (numbers_of (policy_of (text_of p)))
  -- "writing an accepted card .. gives its own bytes"
  pub writes_back : (s : List ℕ) → ByteString s → answer_of s ≡ Ok tt → InRange (numbers_of (policy_of s)) × (text_of (numbers_of (policy_of s)) ≡ s)
  -- the reader takes just the texts
  pub texts : (s : List ℕ) → ByteString s → (answer_of s ≡ Ok tt) ↔ ((p : PolicyNumbers) × InRange p × (s ≡ text_of p))
  -- and a policy has one text
  pub one_text : (s t : List ℕ) → ByteString s → ByteString t → answer_of s ≡ Ok tt → answer_of t ≡ Ok tt → policy_of s ≡ policy_of t → s ≡ t
  -- which is of bytes, 510 of them at most, so that 517 are room for every policy
  pub bytes : (p : PolicyNumbers) → ByteString (text_of p)
  pub short : (p : PolicyNumbers) → InRange p → length (text_of p) ≤ 510
  -- the writer never refuses what the reader reads, and writes it again
  pub again : (s out : List ℕ) → ByteString s → answer_of s ≡ Ok tt → length s ≤ length out
      → ((encode_of (numbers_of (policy_of s)) out).answer ≡ Ok (length s)) × ((encode_of (numbers_of (policy_of s)) out).out ≡ s ++ drop (length s) out)
  -- and never writes what the reader refuses
  pub readable : (p : PolicyNumbers) (out : List ℕ) (n : ℕ) → (encode_of p out).answer ≡ Ok n → answer_of (take n (encode_of p out).out) ≡ Ok tt
