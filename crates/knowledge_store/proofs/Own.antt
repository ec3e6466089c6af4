-- The part of the list that is lent for a message's own component, and the answer read from it.
-- Assumes nothing.
use Prim.Native.Nat.{ℕ, suc, ◌+◌, ◌-◌, ◌*◌, ◌<◌}
use native.Mathlib.Numerals.{add-one}
use native.Mathlib.Omega.{arith}
use mathlib.Core.Path.{◌≡◌, sym, ap, ap₂, ◌∙◌}
use mathlib.Core.Bool.{Bool, ◌&&◌}
use mathlib.Core.List.{List}
use lib.ListN.{get_or, length, take, drop}
use Rattle.policy.specs.declared.Sizes.{Sizes}
use Rattle.message.specs.declared.Event.TheVariants.{Observation, Alive}
use Rattle.message.specs.Fixes.{Fits}
use Rattle.knowledge.specs.Knowledge.{number, Sound, Sized, admits, Steady, words_agree}
use Rattle.knowledge.specs.Run.{cell, held, sent, may, may_observe}
use Rattle.knowledge.proofs.Runs.{runs_of}
use Rattle.counter_runs.proofs.Parts.{IsRun, slice, part_is_steady, part_may}
use Rattle.knowledge_store.proofs.Admits.{admits_observation, admits_alive}

module _ (z : Sizes) (numbers facts : List ℕ) (long : Sized z (held numbers facts)) (clean : Sound z (held numbers facts)) (c : ℕ) (inside : c < z.components) where
  abbrev at : ℕ
  at = c * (z.minutes + 1)

  abbrev own : List ℕ
  own = take (at + (z.minutes + 1) - at) (drop at numbers)

  start : at ≡ c * suc z.minutes
  start = ap (λ (x : ℕ). c * x) (add-one z.minutes)

  own_run : IsRun numbers z.minutes c own
  own_run = slice numbers z.minutes z.components c at long.numbers inside start

  pub own_long : length own ≡ suc z.minutes
  own_long = own_run.long

  pub own_steady : Steady (cell own) (length own)
  own_steady = part_is_steady own_run (runs_of z (held numbers facts) clean c inside)

  own_may : (p v : ℕ) → p < suc z.minutes → may (cell own) (length own) p v ≡ may (number z (held numbers facts) c) (suc z.minutes) p v
  unfolding number
  own_may = part_may own_run

  pub own_observation : (t n named values : ℕ) → Fits z (sent c (Observation t n named values))
      → (words_agree (get_or facts (2 * t) 0) (get_or facts (2 * t + 1) 0) named values && may_observe (cell own) (length own) t n)
      ≡ admits z (held numbers facts) (sent c (Observation t n named values))
  own_observation t n named values fits =
      let l = fits.event_in.0 in
      ap₂ (λ (a b : Bool). words_agree (get_or facts (2 * t) 0) (get_or facts (2 * t + 1) 0) named values && (a && b)) (own_may (suc t) n (omega arith)) (own_may t (n - 1) (omega arith))
      ∙ sym (admits_observation z (held numbers facts) long clean c t n named values fits)

  pub own_alive : (t n : ℕ) → Fits z (sent c (Alive t n)) → may (cell own) (length own) t n ≡ admits z (held numbers facts) (sent c (Alive t n))
  own_alive t n fits =
      let l = fits.event_in in
      own_may t n (omega arith) ∙ sym (admits_alive z (held numbers facts) long clean c t n fits)
