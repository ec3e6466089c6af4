-- A text as it is typed has one newline at its end, "\n" or "\r\n", that is no part of it.
use Rattle.std.specs.Prelude.{ℕ, ◌+◌, ◌-◌, ◌≡◌, List, length, get_or}

-- so many bytes of what is typed are the text
pub data Line (typed : List ℕ) : ℕ → Type 0 where
  whole : (get_or typed (length typed - 1) 0 ≡ 10 → ⊥) → Line typed (length typed)
  newline : (n : ℕ) → n + 1 ≡ length typed → get_or typed n 0 ≡ 10 → (get_or typed (n - 1) 0 ≡ 13 → ⊥) → Line typed n
  both : (n : ℕ) → n + 2 ≡ length typed → get_or typed n 0 ≡ 13 → get_or typed (n + 1) 0 ≡ 10 → Line typed n
