-- What follows for terms that may be refused: a refusal passes through, and where there is none the laws of `Descent` say it. Assumes nothing.
use Prim.Native.Nat.{ℕ, ◌+◌, ◌-◌, ◌≤◌, ◌<◌}
use native.Mathlib.Omega.{arith}
use Rattle.std.specs.Prelude.{◌≡◌, false, get_or, Err, Ok, Result}
use Rattle.std.proofs.Math.Path.{refl, subst}
use Rattle.std.proofs.Common.{sym}
use mathlib.Core.List.{List}
use Rattle.std.proofs.Math.ListN.{length}
use Rattle.refusal.specs.declared.Refusal.{Refusal}
use Rattle.refusal.specs.declared.Refusal.TheVariants.{RuleSyntax}
use Rattle.policy.specs.Text.{numbered}
use Rattle.line_table.specs.Table.{set_line}
use Rattle.rule_text.specs.declared.Joint.{Joint}
use Rattle.rule_text.specs.declared.Run.{Run}
use Rattle.rule_text.specs.declared.Cursor.{Cursor}
use Rattle.rule_text.specs.Gathered.{Writes, not_lines}
use Rattle.policy.specs.LineKinds.{kind_number}
use Rattle.rule_text.specs.Steps.{JointRead, NotsRead, LeafRead, TermRead, GroupRead, Room, NegatedTerm, ClosedTerm}
use Rattle.rule_text.proofs.Descent as D

-- ---- a term with a run of "not" before it

pub negated_refused : (x : Result Cursor Refusal) (n : ℕ) (f : List ℕ) (q : Refusal) → x ≡ Err q → NegatedTerm x n f f (Err q)
unfolding NegatedTerm
negated_refused x n f q e = subst (λ (y : Result Cursor Refusal). NegatedTerm y n f f (Err q)) (sym e) (refl, refl)

pub negated_read : (x : Result Cursor Refusal) (n : ℕ) (f g : List ℕ) (c : Cursor) → x ≡ Ok c → Writes f g c.lines (not_lines (c.lines - 1) n)
    → NegatedTerm x n f g (Ok (record { at = c.at; lines = c.lines + n }))
unfolding NegatedTerm
negated_read x n f g c e w = subst (λ (y : Result Cursor Refusal). NegatedTerm y n f g (Ok (record { at = c.at; lines = c.lines + n }))) (sym e) (refl, w)

pub room_read : (x : Result Cursor Refusal) (n : ℕ) (c : Cursor) → Room x n → x ≡ Ok c → (0 < c.lines) × (c.lines + n ≤ 64)
room_read x n c r e = subst (λ (y : Result Cursor Refusal). Room y n) e r

module _ (m : ℕ) (text : List ℕ) (at i around nesting : ℕ) (f : List ℕ) (size : length f ≡ 384) (found : Result Run Refusal) (d : NotsRead text at (i + around) found) (run : Run) (e : found ≡ Ok run) where
  pub leaf_room : (g : List ℕ) (x : Result Cursor Refusal) → LeafRead m text run.at i f g x → Room x run.count
  unfolding LeafRead
  leaf_room g (Ok c) l = let o = l.1 (around + run.count) (let h = D.run_few text at (i + around) found run d e in omega (arith, h.0)) in (omega (arith, o.0), omega (arith, o.1))
  leaf_room g (Err q) l = tt

  pub leaf_size : (g : List ℕ) (x : Result Cursor Refusal) → LeafRead m text run.at i f g x → length g ≡ 384
  unfolding LeafRead
  leaf_size g x l = l.0

  pub term_leaf : (g h : List ℕ) (x r : Result Cursor Refusal) → (get_or text run.at 0 ≡ 40 → ⊥) → LeafRead m text run.at i f g x → NegatedTerm x run.count g h r
      → TermRead m text at i around nesting f h r
  unfolding NegatedTerm
  term_leaf g h (Ok c) r b l n =
      subst (TermRead m text at i around nesting f h) (sym n.0)
      (D.term_leaf m text at i around nesting f size found d run e g (Ok c) b l c refl h (record { at = c.at; lines = c.lines + run.count }) (D.negated_read c run.count g h n.1))
  term_leaf g h (Err q) r b l n =
      subst (TermRead m text at i around nesting f h) (sym n.0)
      (subst (λ (u : List ℕ). TermRead m text at i around nesting f u (Err q)) (sym n.1) (D.leaf_refused m text at i around nesting f size found d run e g (Err q) b l q refl))

  pub group_room : (g : List ℕ) (x : Result Cursor Refusal) (p : ℕ) → GroupRead m text p i (around + run.count) (nesting - 1) f g x → Room x run.count
  unfolding GroupRead
  group_room g (Ok c) p l = let o = l.1 in (omega (arith, o.0), omega (arith, o.1))
  group_room g (Err q) p l = tt

  pub group_size : (g : List ℕ) (x : Result Cursor Refusal) (p : ℕ) → GroupRead m text p i (around + run.count) (nesting - 1) f g x → length g ≡ 384
  unfolding GroupRead
  group_size g x p l = l.0

  pub term_group : (g h : List ℕ) (x r : Result Cursor Refusal) → get_or text run.at 0 ≡ 40 → (nesting ≡ 0 → ⊥) → GroupRead m text (run.at + 1) i (around + run.count) (nesting - 1) f g x
      → NegatedTerm x run.count g h r → TermRead m text at i around nesting f h r
  unfolding NegatedTerm
  term_group g h (Ok c) r b z l n =
      subst (TermRead m text at i around nesting f h) (sym n.0)
      (D.term_group m text at i around nesting f size found d run e g (Ok c) b z l c refl h (record { at = c.at; lines = c.lines + run.count }) (D.negated_read c run.count g h n.1))
  term_group g h (Err q) r b z l n =
      subst (TermRead m text at i around nesting f h) (sym n.0)
      (subst (λ (u : List ℕ). TermRead m text at i around nesting f u (Err q)) (sym n.1) (D.group_refused m text at i around nesting f size found d run e g (Err q) b z l q refl))

-- ---- a group

module _ (text : List ℕ) (x : Result Cursor Refusal) (w : Joint) (left : ℕ) (f : List ℕ) where
  pub closed_refused : (q : Refusal) → x ≡ Err q → ClosedTerm text x w left f f (Err q)
  unfolding ClosedTerm
  closed_refused q e = subst (λ (y : Result Cursor Refusal). ClosedTerm text y w left f f (Err q)) (sym e) (refl, refl)

  module _ (n : length f ≡ 384) (c : Cursor) (e : x ≡ Ok c) where
    pub closed_not : (get_or text c.at 0 ≡ 41 → ⊥) → ClosedTerm text x w left f f (Err (RuleSyntax c.at))
    unfolding ClosedTerm
    closed_not b = subst (λ (y : Result Cursor Refusal). ClosedTerm text y w left f f (Err (RuleSyntax c.at))) (sym e) (D.closed_not text c w left f n b)

    pub closed_read : (g : List ℕ) → (0 < c.lines) × (c.lines + 1 ≤ 64) → get_or text c.at 0 ≡ 41
        → g ≡ set_line f c.lines (numbered (kind_number w.kind) (left - 1) (c.lines - 1) w.lower w.upper false) → ClosedTerm text x w left f g (Ok (record { at = c.at + 1; lines = c.lines + 1 }))
    unfolding ClosedTerm
    closed_read g r b q =
        subst (λ (y : Result Cursor Refusal). ClosedTerm text y w left f g (Ok (record { at = c.at + 1; lines = c.lines + 1 }))) (sym e) (D.closed_read text c w left f n g r b q)

pub read_room : (m : ℕ) (text : List ℕ) (at i around nesting : ℕ) (f g : List ℕ) (x : Result Cursor Refusal) → TermRead m text at i (around + 1) nesting f g x → Room x 1
unfolding TermRead
read_room m text at i around nesting f g (Ok c) t = (omega (arith, t.1.0), omega (arith, t.1.1))
read_room m text at i around nesting f g (Err q) t = tt

module _ (m : ℕ) (text : List ℕ) (at i around nesting : ℕ) (f g : List ℕ) (left : Result Cursor Refusal) (t : TermRead m text at i (around + 1) nesting f g left) (l : Cursor) (e : left ≡ Ok l) (word : Result Joint Refusal) (j : JointRead text l.at word) (w : Joint) (d : word ≡ Ok w) where
  pub group_read : (h h' : List ℕ) (right r : Result Cursor Refusal) → TermRead m text w.at l.lines (around + 1) nesting g h right → ClosedTerm text right w l.lines h h' r
      → GroupRead m text at i around nesting f h' r
  unfolding ClosedTerm
  group_read h h' (Ok c) r y z = D.group_read m text at i around nesting f g left t l e word j w d h (Ok c) y c refl h' r z
  group_read h h' (Err q) r y z =
      subst (GroupRead m text at i around nesting f h') (sym z.0)
      (subst (λ (u : List ℕ). GroupRead m text at i around nesting f u (Err q)) (sym z.1) (D.group_right m text at i around nesting f g left t l e word j w d h (Err q) y q refl))
