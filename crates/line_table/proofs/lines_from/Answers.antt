-- Each line is the one that the closure gave for its place. Assumes nothing.
use Rattle.std.proofs.Common.{◌≡◌, ℕ, zero, suc, ◌+◌, ◌≤◌, ◌<◌, ⊎_elim, List, get_or, sym, ap, subst, ◌∙◌, ext_get_or, rules, arith}
use Rattle.std.proofs.Math.Nat.{eq-or-lt_of_le}
use Rattle.std.specs.Array.{IsFromFnResultFrom}
use Rattle.std.specs.Fn.{Called}
use Rattle.policy.specs.Text.{no_numbers}
use Rattle.line_table.specs.Table.{line_at, lines_from}
use Rattle.line_table.proofs.Laws.{from_length, line_from}
use Rattle.line_table.proofs.lines_from.Goals as goal
use denote.Param.Members.{Mut}

-- a closure that stays as it is and gives v k for each k makes the list of these
module _ {F B : Type 0} (g : Mut F (ℕ × Unit {0}) B) (v : ℕ → B) (f : F)
    (one : (i : ℕ) (y : B) (q : F) → Called g f (i, tt) y q → (q ≡ f) × (y ≡ v i)) (ys : List B) (d : B) where
  made_at : (n i k : ℕ) → IsFromFnResultFrom g f ys i n → i ≤ k → k < i + n → get_or ys k d ≡ v k
  made_at zero i k made l h = absurd (omega arith)
  made_at (suc n) i k made l h =
      let e = one i made.1 made.0 made.3 in
      ⊎_elim
      (λ (s : i ≡ k). ap (λ (j : ℕ). get_or ys j d) (sym s) ∙ made.2.1 d ∙ e.1 ∙ ap v s)
      (λ (s : i < k). made_at n (i + 1) k (subst (λ (p : F). IsFromFnResultFrom g p ys (i + 1) n) e.0 made.4) (omega arith) (omega arith))
      (eq-or-lt_of_le l)

pub returns : goal.returns
returns c =
    let f = c.args.fields.now in
    let made = c.from_fn.ensures.items in
    ext_get_or no_numbers c.from_fn.result (lines_from f 64) (made.long ∙ sym (from_length f 64))
    (λ i h.
    let k : i < 64 = omega (arith, made.long) in
    made_at _ (line_at f) _ (λ j y q called. search rules) c.from_fn.result no_numbers 64 0 i made.each (omega arith) (omega arith) ∙ sym (line_from f 64 i k))
