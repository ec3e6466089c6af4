-- What each function of the reader says, over what a reader knows at a place (`State` of rule_grammar). A refusal is the answer to the whole text.
use Rattle.rule_text.specs.declared.Run.{Run}
use Rattle.rule_text.specs.declared.Bounds.{Bounds}
use Rattle.std.specs.Prelude.{ℕ, zero, suc, ◌+◌, ◌-◌, ◌≤◌, ◌<◌, ◌≡◌, false, List, [], ◌∷◌, ◌++◌, length, get_or, drop, Err, Ok, Result}
use Rattle.refusal.specs.declared.Refusal.{Refusal}
use Rattle.refusal.specs.declared.Refusal.TheVariants.{RuleSyntax}
use Rattle.refusal.specs.Numbers.{refusal_number, refusal_place}
use Rattle.mtl.specs.declared.Formula.TheVariants as F
use Rattle.policy.specs.Text.{numbered, formula_numbers}
use Rattle.line_table.specs.Table.{line_at}
use Rattle.rule_grammar.specs.Numeral.{digit}
use Rattle.rule_grammar.specs.Term as T
use Rattle.rule_grammar.specs.Lines.{terms, joined, lines}
use Rattle.rule_grammar.specs.Places as P
use Rattle.rule_grammar.specs.Automaton.{Wanted, byte, term, joint, bytes, right, bounds}
use Rattle.rule_grammar.specs.Brackets.{closers, wants_term}
use Rattle.rule_grammar.specs.Progress.{State}
use Rattle.rule_grammar.specs.Numbers.{Matching, Spelled, PlainWord}
use Rattle.policy.specs.declared.LineKind.{LineKind}
use Rattle.policy.specs.LineKinds.{kind_number}
use Rattle.rule_text.specs.declared.Joint.{Joint}
use Rattle.rule_text.specs.declared.Cursor.{Cursor}
use Rattle.rule_text.specs.Gathered.{Writes, not_lines}

-- the text is answered so
abbrev pub Refuses : ℕ → List ℕ → Refusal → Type 0
Refuses m text r = P.Answered m text (P.Refused (refusal_number r) (refusal_place r))

-- ---- numbers

-- v stands for n: below 1,024 it is n, else some number from there up to n
pub record Near (v n : ℕ) : Type 0 where
  pub most : v ≤ n
  pub exact : v ≤ 1023 → v ≡ n

-- the number at a place, with its end and what stands for it; the end is the place itself where no digit is there
pub data NumberAt (text : List ℕ) (at : ℕ) : ℕ → ℕ → Type 0 where
  nothing : (v : ℕ) → digit (get_or text at 0) ≡ false → NumberAt text at at v
  spelt_as : (e v n : ℕ) → at < e → Spelled text at e n → Near v n → NumberAt text at e v

-- ---- intervals

-- an interval is open at p, its first number ends at d, before a comma, and v stands for it
pub record Comma (text : List ℕ) (p d v : ℕ) : Type 0 where
  pub opens : get_or text p 0 ≡ 91
  pub number : ℕ
  pub spelled : Spelled text (suc p) d number
  pub longer : suc p < d
  pub near : Near v number
  pub comma : get_or text d 0 ≡ 44

-- where an interval is wanted, it stands there up to e
pub record IntervalGood (m : ℕ) (text : List ℕ) (k : List Wanted) (p n e lower upper : ℕ) : Type 0 where
  pub state : State m text (right k) e n
  pub stands : drop p text ≡ T.interval lower upper ++ drop e text

abbrev pub IntervalOut : ℕ → List ℕ → List Wanted → ℕ → ℕ → Result Bounds Refusal → Type 0
IntervalOut m text k p n (Ok b) = IntervalGood m text k p n b.at b.lower b.upper
IntervalOut m text k p n (Err r) = Refuses m text r

abbrev pub Narrow : Result Bounds Refusal → Type 0
Narrow (Ok b) = (b.lower ≤ 1023) × (b.upper ≤ 1023)
Narrow (Err r) = Unit

unfoldable pub IntervalRead : List ℕ → ℕ → Result Bounds Refusal → Type 0
IntervalRead text p r = Narrow r × ((m : ℕ) (k : List Wanted) (n : ℕ) → State m text (byte 91 ∷ bounds k) p n → IntervalOut m text k p n r)

-- ---- words

-- the word stands there, up to the place that is told; or the refusal is at the first byte that is not the word's
abbrev pub WordAt : List ℕ → ℕ → List ℕ → Result ℕ Refusal → Type 0
WordAt text at word (Ok e) = (e ≡ at + length word) × Matching text at word (length word)
WordAt text at word (Err r) = (n : ℕ) × (n < length word) × Matching text at word n × (r ≡ RuleSyntax (at + n))

abbrev pub WordOut : ℕ → List ℕ → List Wanted → ℕ → ℕ → List ℕ → LineKind → Result Joint Refusal → Type 0
WordOut m text l at n rest kind (Ok w) =
    State m text l w.at n × (drop at text ≡ rest ++ drop w.at text) × (w ≡ record { at = w.at; kind = kind; lower = 0; upper = 0 })
WordOut m text l at n rest kind (Err r) = Refuses m text r

unfoldable pub WordRead : List ℕ → ℕ → List ℕ → LineKind → Result Joint Refusal → Type 0
WordRead text at rest kind r = PlainWord rest → (m : ℕ) (l : List Wanted) (n : ℕ) → State m text (bytes rest l) at n → WordOut m text l at n rest kind r

abbrev pub TimedOut : ℕ → List ℕ → List Wanted → ℕ → ℕ → List ℕ → LineKind → Result Joint Refusal → Type 0
TimedOut m text k at n rest kind (Ok w) =
    State m text (term ∷ byte 41 ∷ k) w.at n × (drop at text ≡ rest ++ (T.interval w.lower w.upper ++ 32 ∷ drop w.at text)) × (w.kind ≡ kind)
TimedOut m text k at n rest kind (Err r) = Refuses m text r

unfoldable pub TimedRead : List ℕ → ℕ → List ℕ → LineKind → Result Joint Refusal → Type 0
TimedRead text at rest kind r =
    PlainWord rest → (m : ℕ) (k : List Wanted) (n : ℕ) → State m text (bytes rest (byte 91 ∷ bounds k)) at n → TimedOut m text k at n rest kind r

-- the kind and the interval are those of a group's line, whatever its operands
abbrev pub Codes : Joint → T.Joint → Type 0
Codes w j = (a b : ℕ) → formula_numbers (joined j a b) false ≡ numbered (kind_number w.kind) a b w.lower w.upper false

abbrev pub JointOut : ℕ → List ℕ → List Wanted → ℕ → ℕ → Result Joint Refusal → Type 0
JointOut m text k at n (Ok w) =
    (j : T.Joint) × State m text (term ∷ byte 41 ∷ k) w.at n × (drop at text ≡ 32 ∷ (T.word j ++ 32 ∷ drop w.at text)) × Codes w j
JointOut m text k at n (Err r) = Refuses m text r

unfoldable pub JointRead : List ℕ → ℕ → Result Joint Refusal → Type 0
JointRead text at r = (m : ℕ) (k : List Wanted) (n : ℕ) → State m text (byte 32 ∷ joint ∷ k) at n → JointOut m text k at n r

-- ---- terms

-- "not ", n times
abbrev pub not_text : ℕ → List ℕ
not_text zero = []
not_text (suc n) = 110 ∷ 111 ∷ 116 ∷ 32 ∷ not_text n

abbrev pub NotsOut : ℕ → List ℕ → List Wanted → ℕ → ℕ → Result Run Refusal → Type 0
NotsOut m text k at started (Ok run) = State m text (term ∷ k) run.at (started + run.count) × (drop at text ≡ not_text run.count ++ drop run.at text)
NotsOut m text k at started (Err r) = Refuses m text r

-- a term other than "not" may start behind the run
abbrev pub Few : List ℕ → ℕ → Result Run Refusal → Type 0
Few text started (Ok run) = (started + run.count < 64) × (get_or text run.at 0 ≡ 110 → ⊥)
Few text started (Err r) = Unit

unfoldable pub NotsRead : List ℕ → ℕ → ℕ → Result Run Refusal → Type 0
NotsRead text at started r = Few text started r × ((m : ℕ) (k : List Wanted) → State m text (term ∷ k) at started → NotsOut m text k at started r)

-- a term stands there up to e, and its lines are gathered
pub record TermGood (m : ℕ) (text : List ℕ) (k : List Wanted) (at i around : ℕ) (f g : List ℕ) (e l : ℕ) : Type 0 where
  pub is : T.Term
  pub state : State m text k e (l + around)
  pub stands : drop at text ≡ T.looks is ++ drop e text
  pub count : l ≡ i + terms is
  pub written : Writes f g i (lines i is)

abbrev pub TermOut : ℕ → List ℕ → List Wanted → ℕ → ℕ → ℕ → List ℕ → List ℕ → Result Cursor Refusal → Type 0
TermOut m text k at i around f g (Ok c) = TermGood m text k at i around f g c.at c.lines
TermOut m text k at i around f g (Err r) = Refuses m text r

-- the lines stay few
abbrev pub Grown : ℕ → ℕ → Result Cursor Refusal → Type 0
Grown i around (Ok c) = (i < c.lines) × (c.lines + around ≤ 64)
Grown i around (Err r) = Unit

-- line i, which is no "not" and no group
unfoldable pub LeafRead : ℕ → List ℕ → ℕ → ℕ → List ℕ → List ℕ → Result Cursor Refusal → Type 0
LeafRead m text at i f g r =
    (length g ≡ 384) × ((around : ℕ) → i + around < 64 → Grown i around r)
    × ((k : List Wanted) (around : ℕ) → wants_term k ≡ false → i + around < 64 → (get_or text at 0 ≡ 40 → ⊥) → (get_or text at 0 ≡ 110 → ⊥) → State m text (term ∷ k) at (i + around) → TermOut m text k at i around f g r)

unfoldable pub TermRead : ℕ → List ℕ → ℕ → ℕ → ℕ → ℕ → List ℕ → List ℕ → Result Cursor Refusal → Type 0
TermRead m text at i around nesting f g r =
    (length g ≡ 384) × Grown i around r
    × ((k : List Wanted) → wants_term k ≡ false → closers k + nesting ≡ 32 → State m text (term ∷ k) at (i + around) → TermOut m text k at i around f g r)

-- behind "("
unfoldable pub GroupRead : ℕ → List ℕ → ℕ → ℕ → ℕ → ℕ → List ℕ → List ℕ → Result Cursor Refusal → Type 0
GroupRead m text at i around nesting f g r =
    (length g ≡ 384) × Grown i around r
    × ((k : List Wanted) (p : ℕ) → drop p text ≡ 40 ∷ drop at text → closers k + suc nesting ≡ 32 → State m text (term ∷ byte 32 ∷ joint ∷ k) at (suc (i + around)) → TermOut m text k p i around f g r)

-- there is room for n lines more, and there is one at least
abbrev pub Room : Result Cursor Refusal → ℕ → Type 0
Room (Ok c) n = (0 < c.lines) × (c.lines + n ≤ 64)
Room (Err r) n = Unit

-- behind c, the lines of a run of n "not" follow the last line
unfoldable pub Negated : Cursor → ℕ → List ℕ → List ℕ → Cursor → Type 0
Negated c n f g r = (r ≡ record { at = c.at; lines = c.lines + n }) × Writes f g c.lines (not_lines (c.lines - 1) n)

-- the same behind a term that may be refused, which is then the answer
unfoldable pub NegatedTerm : Result Cursor Refusal → ℕ → List ℕ → List ℕ → Result Cursor Refusal → Type 0
NegatedTerm (Ok c) n f g r = (r ≡ Ok (record { at = c.at; lines = c.lines + n })) × Writes f g c.lines (not_lines (c.lines - 1) n)
NegatedTerm (Err q) n f g r = (r ≡ Err q) × (g ≡ f)

-- the second term of a group has been read, and the lines of the first end before line `left`
abbrev pub ClosedOut : ℕ → List ℕ → Cursor → Joint → ℕ → List ℕ → List ℕ → Result Cursor Refusal → Type 0
ClosedOut m text c w left f g (Ok d) =
    (get_or text c.at 0 ≡ 41) × (d.at ≡ suc c.at) × (d.lines ≡ suc c.lines)
    × ((j : T.Joint) → Codes w j → Writes f g c.lines (joined j (left - 1) (c.lines - 1) ∷ []))
ClosedOut m text c w left f g (Err r) = (k : List Wanted) (n : ℕ) → State m text (byte 41 ∷ k) c.at n → Refuses m text r

unfoldable pub ClosedBy : List ℕ → Cursor → Joint → ℕ → List ℕ → List ℕ → Result Cursor Refusal → Type 0
ClosedBy text c w left f g r = (length g ≡ 384) × ((around : ℕ) → c.lines + suc around ≤ 64 → Grown c.lines around r) × ((m : ℕ) → ClosedOut m text c w left f g r)

-- the same behind a second term that may be refused, which is then the answer
unfoldable pub ClosedTerm : List ℕ → Result Cursor Refusal → Joint → ℕ → List ℕ → List ℕ → Result Cursor Refusal → Type 0
ClosedTerm text (Ok c) w left f g r = ClosedBy text c w left f g r
ClosedTerm text (Err q) w left f g r = (r ≡ Err q) × (g ≡ f)

-- ---- the whole text

abbrev pub RuleOut : ℕ → List ℕ → List ℕ → Result Cursor Refusal → Type 0
RuleOut m text g (Ok c) =
    (x : T.Term) × P.Answered m text (P.Taken x) × (c.lines ≡ terms x) × (c.lines ≤ 64)
    × ((j : ℕ) → j < terms x → line_at g j ≡ formula_numbers (get_or (lines 0 x) j F.True) false)
RuleOut m text g (Err r) = Refuses m text r

unfoldable pub RuleRead : ℕ → List ℕ → List ℕ → Result Cursor Refusal → Type 0
RuleRead m text g r = (length g ≡ 384) × RuleOut m text g r
