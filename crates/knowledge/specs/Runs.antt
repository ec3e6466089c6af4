-- One run: each test decides its claim, what the claim says of any two known places, and what another run that knows more or less tells.
use Rattle.std.specs.Prelude.{ℕ, ◌<◌, ◌≡◌}
use Rattle.knowledge.specs.Knowledge.{none}

-- g has all the known numbers of f, at the first n places
abbrev pub Within : (ℕ → ℕ) → (ℕ → ℕ) → ℕ → Type 0
Within f g n = (i : ℕ) → i < n → f i < none → f i ≡ g i
