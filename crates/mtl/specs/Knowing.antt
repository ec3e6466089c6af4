-- Two instances of the one theorem: more knowledge keeps decided values, and a decided value is the two-valued one.
use Rattle.std.specs.Prelude.{ℕ, ◌≡◌, Bool, true, false}
use Rattle.kleene.specs.Truth.{Truth, unknown, true3, false3, ◌⊑◌}
use Rattle.mtl.specs.Reading.{World}

-- where v's window shows a minute, w's does, and knows all that v knows
pub record Knows (v w : World Truth) : Type 0 where
  pub time_point : (t : ℕ) → v.window t ≡ true → v.time_point t ⊑ w.time_point t
  pub proposition : (p t : ℕ) → v.window t ≡ true → v.proposition p t ⊑ w.proposition p t
  pub window : (t : ℕ) → v.window t ≡ true → w.window t ≡ true
  pub dark : v.outside ≡ unknown

-- ---- a decided value is the two-valued one

-- x is unknown, or says what b says
pub data Settles : Truth → Bool → Type 0 where
  open3 : {b : Bool} → Settles unknown b
  is_true : Settles true3 true
  is_false : Settles false3 false

-- w shows every minute, and has the truth of what v knows
pub record TrueTo (v : World Truth) (w : World Bool) : Type 0 where
  pub time_point : (t : ℕ) → v.window t ≡ true → Settles (v.time_point t) (w.time_point t)
  pub proposition : (p t : ℕ) → v.window t ≡ true → Settles (v.proposition p t) (w.proposition p t)
  pub window : (t : ℕ) → w.window t ≡ true
  pub dark : v.outside ≡ unknown
