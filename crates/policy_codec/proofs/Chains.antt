-- What the chains over the lines give, and that only the lines that are handed over count. Assumes nothing.
use Rattle.std.specs.Prelude.{ℕ, zero, suc, ◌+◌, ◌*◌, ◌≤◌, ◌<◌, ◌≡◌, refl, Bool, cond, ◌&&◌, List, ◌++◌, length, get_or, take, sum_by, count_by}
use Rattle.std.specs.List.{list_all, enumerate_from}
use Rattle.std.proofs.Common.{arith, sym, ap, ap₂, ◌∙◌, add-one, length-append}
use Rattle.std.proofs.Math.Seq.{take-length}
use Rattle.std.proofs.Math.Nat.{zero-add}
use Rattle.std.proofs.lemmas.List.{get_or-take, length-take-le}
use Rattle.std.proofs.lemmas.List.Sums.{sum_by_more, sum_by-le}
use Rattle.std.proofs.lemmas.List.Folds.{list_all_more}
use Rattle.std.proofs.lemmas.List.FromFn.{length-enumerate_from, get_or-enumerate_from}
use Rattle.encoding.specs.Layout.{takes}
use Rattle.policy_codec.proofs.Writing.{line_long}
use Rattle.policy.specs.declared.LineNumbers.{LineNumbers}
use Rattle.policy.specs.Text.{no_numbers, line_in, rules_among, line_good, lines_good, line_text, lines_text}

-- the test of a line with its number
abbrev pub numbered_good : ℕ → ℕ × LineNumbers → Bool
numbered_good m p = line_good m p.0 p.1

-- a line takes at most 8 bytes
short : (n w : ℕ) → takes n w ≤ w
short zero w = omega arith
short (suc n) w = omega arith

line_short : (l : LineNumbers) → length (line_text l) ≤ 8
line_short l = omega (arith, line_long l, short l.kind 1, short l.first 1, short l.second 1, short l.lower 2, short l.upper 2)

module _ (xs : List LineNumbers) where
  -- a number that is added up line by line
  totals : (f : LineNumbers → ℕ) (F : ℕ → ℕ) → F 0 ≡ 0 → ((i : ℕ) → F (suc i) ≡ F i + f (line_in xs i)) → (n : ℕ) → n ≤ length xs → F n ≡ sum_by f (take n xs)
  totals f F z s zero h = z
  totals f F z s (suc n) h =
      s n
      ∙ ap (λ (k : ℕ). k + f (line_in xs n)) (totals f F z s n (omega arith))
      ∙ sym (sum_by_more f xs n no_numbers h)
      ∙ ap (λ (k : ℕ). sum_by f (take k xs)) (add-one n)

  all_lines : (f : LineNumbers → ℕ) (F : ℕ → ℕ) → F 0 ≡ 0 → ((i : ℕ) → F (suc i) ≡ F i + f (line_in xs i)) → F (length xs) ≡ sum_by f xs
  all_lines f F z s = totals f F z s (length xs) (omega arith) ∙ ap (sum_by f) (take-length xs)

  pub all_rules : rules_among xs (length xs) ≡ count_by (λ l. l.rule) xs
  all_rules = all_lines (λ l. cond l.rule 1 0) (rules_among xs) refl (λ i. refl)

  pub all_bytes : length (lines_text xs (length xs)) ≡ sum_by (λ l. length (line_text l)) xs
  unfolding lines_text
  all_bytes = all_lines (λ l. length (line_text l)) (λ n. length (lines_text xs n)) refl (λ i. length-append (lines_text xs i) (line_text (line_in xs i)))

  pub bytes_most : sum_by (λ l. length (line_text l)) xs ≤ length xs * 8
  bytes_most = sum_by-le (λ l. length (line_text l)) 8 xs (λ k d h. line_short (get_or xs k d))

  goods : (m n : ℕ) → n ≤ length xs → lines_good m xs n ≡ list_all (numbered_good m) (take n (enumerate_from 0 xs))
  unfolding lines_good
  goods m zero h = refl
  goods m (suc n) h =
      let under : n < length (enumerate_from 0 xs) = omega (arith, length-enumerate_from 0 xs) in
      let here : line_good m n (line_in xs n) ≡ numbered_good m (get_or (enumerate_from 0 xs) n (0, no_numbers)) =
      ap (λ (k : ℕ). line_good m k (line_in xs n)) (sym (zero-add n)) ∙ ap (numbered_good m) (sym (get_or-enumerate_from 0 xs n (0, no_numbers) h)) in
      ap₂ (λ (a b : Bool). a && b) (goods m n (omega arith)) here
      ∙ sym (list_all_more (numbered_good m) (enumerate_from 0 xs) n (0, no_numbers) under)
      ∙ ap (λ (k : ℕ). list_all (numbered_good m) (take k (enumerate_from 0 xs))) (add-one n)

  pub all_good : (m : ℕ) → lines_good m xs (length xs) ≡ list_all (numbered_good m) (enumerate_from 0 xs)
  all_good m =
      goods m (length xs) (omega arith)
      ∙ ap (λ (k : ℕ). list_all (numbered_good m) (take k (enumerate_from 0 xs))) (sym (length-enumerate_from 0 xs))
      ∙ ap (list_all (numbered_good m)) (take-length (enumerate_from 0 xs))

-- ---- the first n lines, handed over as a slice

module _ (xs : List LineNumbers) (n : ℕ) (h : n ≤ length xs) where
  same : {Y : Type 0} (F : List LineNumbers → ℕ → Y) (step : ℕ → LineNumbers → Y → Y) → F (take n xs) 0 ≡ F xs 0
      → ((ys : List LineNumbers) (i : ℕ) → F ys (suc i) ≡ step i (line_in ys i) (F ys i)) → (k : ℕ) → k ≤ n → F (take n xs) k ≡ F xs k
  same F step z s zero l = z
  same {Y = Y} F step z s (suc k) l =
      s (take n xs) k
      ∙ ap₂ (λ (x : LineNumbers) (y : Y). step k x y) (get_or-take n xs k no_numbers l) (same F step z s k (omega arith))
      ∙ sym (s xs k)

  handed : {Y : Type 0} (F : List LineNumbers → ℕ → Y) (step : ℕ → LineNumbers → Y → Y) → F (take n xs) 0 ≡ F xs 0
      → ((ys : List LineNumbers) (i : ℕ) → F ys (suc i) ≡ step i (line_in ys i) (F ys i)) → F (take n xs) (length (take n xs)) ≡ F xs n
  handed F step z s = ap (F (take n xs)) (length-take-le n xs h) ∙ same F step z s n (omega arith)

  pub good_handed : (m : ℕ) → lines_good m (take n xs) (length (take n xs)) ≡ lines_good m xs n
  unfolding lines_good
  good_handed m = handed (λ ys k. lines_good m ys k) (λ k l b. b && line_good m k l) refl (λ ys i. refl)

  pub rules_handed : rules_among (take n xs) (length (take n xs)) ≡ rules_among xs n
  rules_handed = handed rules_among (λ k l r. r + cond l.rule 1 0) refl (λ ys i. refl)

  pub text_handed : lines_text (take n xs) (length (take n xs)) ≡ lines_text xs n
  unfolding lines_text
  text_handed = handed lines_text (λ k l t. t ++ line_text l) refl (λ ys i. refl)
