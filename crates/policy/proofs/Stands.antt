-- A line passes its tests exactly when one of 01's lines stands there, and that is the line that is read. Assumes nothing.
use Prim.Native.Nat.{ℕ, zero, suc, ◌<◌}
use Rattle.std.proofs.Math.Path.{◌≡◌, refl, sym, subst, fun_ext}
use Rattle.std.proofs.Common.{◌∙◌, true≢false, arith}
use Rattle.std.specs.Prelude.{Bool, not, cond, ◌↔◌, ◌≢◌, List, eqb, ltb, leb, get_or, length}
use Rattle.std.proofs.Math.Bool.{true, false}
use borrow.Author.Tests.{ltb-true, lt-ltb, leb-true, le-leb, ne_eqb}
use Rattle.encoding.specs.Fields.{has, written}
use Rattle.encoding.specs.Layout.{field, Laid}
use Rattle.encoding.proofs.Laws.{is_written, laid_field, fields_laid}
use Rattle.logic.proofs.Bools.{both, pair}
use Rattle.policy.specs.declared.Kind.{Kind}
use Rattle.policy.specs.Encoded.{Line, widths, numbers, LineAt}
use Rattle.policy.specs.Format.{fields_at, kinds, kind_of, allowed, keeps_kind, good_line, formula_of}
use Rattle.policy.specs.Kinds.{zeros, Keeps}
use Rattle.policy.proofs.KindLaws.{is_a_line, keeps}
use Rattle.policy.specs.Stands.{line_of}

-- a bit that doesn't stand is a number that is 0
absent : (b : Bool) (n : ℕ) → (b ≡ true) ↔ (n ≢ 0) → not b ≡ eqb n 0
absent true n l = sym (ne_eqb n 0 (l.0 refl))
absent false zero l = refl
absent false (suc n) l = absurd (true≢false (sym (l.1 (omega arith))))

-- so the map names only fields that the kind allows exactly where the numbers of the others are 0
names : (k : Kind) (map : ℕ) (v : ℕ → ℕ) → ((j : ℕ) → j < 5 → (has map j ≡ true) ↔ (v j ≢ 0)) → allowed k map ≡ zeros k (v 1) (v 2) (v 3) (v 4)
names k map v bits =
    rw (
      absent (has map 1) (v 1) (bits 1 (omega arith)),
      absent (has map 2) (v 2) (bits 2 (omega arith)),
      absent (has map 3) (v 3) (bits 3 (omega arith)),
      absent (has map 4) (v 4) (bits 4 (omega arith)),
    )

-- what holds of each of the five fields
pub five : (P : ℕ → Type 0) → P 0 → P 1 → P 2 → P 3 → P 4 → (k : ℕ) → k < 5 → P k
five P a b c d e zero h = a
five P a b c d e (suc zero) h = b
five P a b c d e (suc (suc zero)) h = c
five P a b c d e (suc (suc (suc zero))) h = d
five P a b c d e (suc (suc (suc (suc zero)))) h = e
five P a b c d e (suc (suc (suc (suc (suc k))))) h = absurd (omega arith)

module _ (s : List ℕ) (m i at : ℕ) where
  abbrev map : ℕ
  map = get_or s at 0

  -- its numbers are the fields that are read
  its_numbers : (k : ℕ) → field widths s at k ≡ numbers (line_of (fields_at s at)) k
  unfolding fields_at
  its_numbers zero = refl
  its_numbers (suc zero) = refl
  its_numbers (suc (suc zero)) = refl
  its_numbers (suc (suc (suc zero))) = refl
  its_numbers (suc (suc (suc (suc zero)))) = refl
  its_numbers (suc (suc (suc (suc (suc k))))) = no_field (has map (suc (suc (suc (suc (suc k))))))
    where
      no_field : (b : Bool) → ◌≡◌ {A = ℕ} (cond b 0 0) 0
      no_field true = refl
      no_field false = refl

  -- a line that passes its tests stands there
  pub stands : good_line m i (fields_at s at) ≡ true → LineAt s m i at (line_of (fields_at s at))
  unfolding good_line keeps_kind fields_at formula_of
  stands good =
      let f = fields_at s at in
      let a = both (ltb map 64) _ good in
      let b = both (written (has map 0) f.kind) _ a.1 in
      let c = both (written (has map 1) f.first) _ b.1 in
      let d = both (written (has map 2) f.second) _ c.1 in
      let e = both (written (has map 3) f.lower) _ d.1 in
      let g = both (written (has map 4) f.upper) _ e.1 in
      let h = both (keeps_kind m i f) _ g.1 in
      let o = both (leb f.lower f.upper) _ h.1 in
      let k = both (ltb f.kind (length kinds)) _ h.0 in
      let n = both (allowed (kind_of f.kind) map) _ k.1 in
      let laid = fields_laid widths s at (five (λ j. written (has map j) (field widths s at j) ≡ true) b.0 c.0 d.0 e.0 g.0) in
      record {
        is_line = is_a_line f.kind f.first f.second f.lower f.upper (formula_of f)
            (record {
              known = ltb-true _ _ k.0;
              zero_else = sym (names (kind_of f.kind) map (field widths s at) laid.bits) ∙ n.0;
              operands = n.1;
              ordered = leb-true _ _ o.0;
              bounded = leb-true _ _ o.1;
              means = refl;
            });
        laid = subst (Laid widths s at) (fun_ext its_numbers) laid;
        rule = refl;
        spare = ltb-true _ _ a.0;
      }

  module _ (l : Line) (t : LineAt s m i at l) where
    kept : Keeps m i l.kind l.first l.second l.lower l.upper l.formula
    kept = keeps _ _ _ _ _ _ t.is_line

    its_fields : fields_at s at ≡ record { map = map; kind = l.kind; first = l.first; second = l.second; lower = l.lower; upper = l.upper }
    unfolding fields_at
    its_fields =
        let read = laid_field widths s at (numbers l) t.laid in
        rw (read 0 (omega arith), read 1 (omega arith), read 2 (omega arith), read 3 (omega arith), read 4 (omega arith))

    -- a line that stands there passes its tests
    pub passes : good_line m i (fields_at s at) ≡ true
    unfolding good_line keeps_kind
    passes =
        let bits = t.laid.bits in
        let w : (k : ℕ) → k < 5 → written (has map k) (numbers l k) ≡ true = λ k h. is_written (has map k) (numbers l k) (bits k h).0 in
        rw its_fields
        (pair (lt-ltb _ _ t.spare)
        (pair (w 0 (omega arith))
        (pair (w 1 (omega arith))
        (pair (w 2 (omega arith))
        (pair (w 3 (omega arith))
        (pair (w 4 (omega arith))
        (pair
        (pair (lt-ltb _ _ kept.known)
        (pair
        (names (kind_of l.kind) map (numbers l) bits ∙ kept.zero_else)
        kept.operands))
        (pair (le-leb _ _ kept.ordered) (le-leb _ _ kept.bounded)))))))))

    -- and it is the line that is read
    pub only : l ≡ line_of (fields_at s at)
    unfolding formula_of
    only = rw (its_fields, kept.means, t.rule)
